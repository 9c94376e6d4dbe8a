use Rattle.std.proofs.Common.{◌≡◌, ◌<◌, ℕ, Option, None, MatchOption, length, ap, subst, ◌∙◌}
use Rattle.vr_types.specs.Image.{Block, Image, block_at}
use Rattle.vr_space.specs.Keyed.{Keyed, entries_of}
use Rattle.vr_attach.specs.Damage.{HoldsNth, IsBadInterval}
use Rattle.vr_attach.specs.Linked.{IsGoodTop, low_lent}
use Rattle.vr_attach.specs.declared.damage.Damage.{Damage}
use Rattle.vr_attach.proofs.LinkRules.{good_sound}
use Rattle.vr_attach.proofs.link.walk_area.Goals as goal

-- what is found of the intervals of a head
abbrev FoundUnder : Keyed → Block → Image → Option Damage → Type 0
FoundUnder part top image found = MatchOption found
    ((i : ℕ) → i < length (entries_of top) → HoldsNth part top image i)
    (λ (damage : Damage). IsBadInterval part top image damage.block damage.rule)

pub returns-in-None-clause-sound : goal.returns-in-None-clause-sound
returns-in-None-clause-sound g c told =
    let part = c.args.layout.now in
    let low = low_lent c.args.low in
    let cur = (g.B.Blocks.seen c.args.blocks.now).cur in
    let at : c.layout.inside.head ≡ part.head = ap (λ (l : Keyed). l.head) c.layout.view_is in
    let top : c.read_block.new.out ≡ block_at cur part.head =
    c.in_ok-read_block.ensures.content told ∙ ap (λ (n : ℕ). block_at cur n) at in
    let none : FoundUnder part c.read_block.new.out
    (g.B.Blocks.seen c.read_block.new.blocks).cur None =
    subst (FoundUnder part c.read_block.new.out (g.B.Blocks.seen c.read_block.new.blocks).cur)
    c.in-None.is (c.in_ok-damage-in-Ok.ensures.found told) in
    record {
      head = good_sound part c.args.area c.args.areas low (block_at cur part.head)
          (subst (IsGoodTop part c.args.area c.args.areas low) top c.in-Ok.ensures.good);
      intervals = subst (λ (block : Block). FoundUnder part block cur None) top
          (subst (λ (image : Image). FoundUnder part c.read_block.new.out image None)
          (c.in_ok-read_block.ensures.keeps.content told) none);
    }
