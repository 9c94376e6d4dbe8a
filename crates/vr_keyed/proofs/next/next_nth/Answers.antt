use Rattle.std.proofs.Common.{◌≡◌, ℕ, Bool, true, false, List, Option, inl, sym, ap, subst}
use Rattle.std.proofs.Common.{◌∙◌}
use Rattle.vr_types.specs.Image.{Block, Image, block_at}
use Rattle.vr_types.proofs.CallerLemmas.{keeps-then}
use Rattle.vr_space.specs.Room.{Range}
use Rattle.vr_space.specs.Keyed.{HoldsRange, entries_of, entry_block, low_of, range_of}
use Rattle.vr_space.specs.Search.{keys_of, low_before}
use Rattle.vr_keyed.specs.Slots.{met_in}
use Rattle.vr_keyed.specs.Next.{IsNth, NthIs, NextNth, FoundIs, first_sought}
use Rattle.vr_space.proofs.CallerLemmas.{holds-nth}
use Rattle.vr_keyed.proofs.next.next_nth.Goals as goal

pub returns-clause-nth : goal.returns-clause-nth
returns-clause-nth g c told =
    let part = c.args.layout.now in
    let cur = (g.B.Blocks.seen c.args.blocks.now).cur in
    let top = block_at cur part.head in
    let slot = c.find_nth.new.slot in
    let is : IsNth part top c.args.number slot =
    subst (λ (some : Bool). NthIs part top c.args.number some slot) c.if-not-branch.false
    (c.in_ok-find_nth.ensures.nth told) in
    let range : Range =
    range_of (low_before (low_of top) (entries_of top) c.args.number) is.entry in
    let block : c.in_ok-block.block.now ≡ block_at cur (entry_block part is.entry) =
    c.in_ok-block.ensures.content told
    ∙ ap (λ (image : Image). block_at image slot.number) (c.find_nth.ensures.keeps.content told)
    ∙ ap (block_at cur) (sym is.number) in
    let holds : HoldsRange part (met_in slot).range c.in_ok-block.block.now =
    subst (λ (r : Range). HoldsRange part r c.in_ok-block.block.now) (sym is.range)
    (subst (HoldsRange part range) (sym block)
    (holds-nth part cur (low_of top) (entries_of top) c.args.number is.entry
    (c.requires.stands told).1.intervals is.is)) in
    let first : first_sought (met_in slot).range c.args.from
    (keys_of part c.in_ok-block.block.now)
    ≡ first_sought range c.args.from (keys_of part (block_at cur (entry_block part is.entry))) =
    ap (λ (r : Range). first_sought r c.args.from (keys_of part c.in_ok-block.block.now)) is.range
    ∙ ap (λ (b : Block). first_sought range c.args.from (keys_of part b)) block in
    let found : FoundIs (first_sought range c.args.from
    (keys_of part (block_at cur (entry_block part is.entry)))) c.first_in.result
    c.first_in.new.into.place =
    subst (λ (o : Option (List ℕ)). FoundIs o c.first_in.result c.first_in.new.into.place) first
    (c.first_in.ensures.first holds) in
    by is c.first_in.result found
  where
    by : (is : IsNth c.args.layout.now
        (block_at (g.B.Blocks.seen c.args.blocks.now).cur c.args.layout.now.head) c.args.number
        c.find_nth.new.slot) (b : Bool)
        → FoundIs (first_sought (range_of (low_before
        (low_of (block_at (g.B.Blocks.seen c.args.blocks.now).cur c.args.layout.now.head))
        (entries_of (block_at (g.B.Blocks.seen c.args.blocks.now).cur c.args.layout.now.head))
        c.args.number) is.entry) c.args.from
        (keys_of c.args.layout.now (block_at (g.B.Blocks.seen c.args.blocks.now).cur
        (entry_block c.args.layout.now is.entry)))) b c.first_in.new.into.place
        → NextNth c.args.layout.now (g.B.Blocks.seen c.args.blocks.now).cur c.args.number
        c.args.from b c.first_in.new.into.place
    by is true found = record { entry = is.entry; is = is.is; first_is = found }
    by is false found = inl (record { entry = is.entry; is = is.is; first_is = found })

pub returns-clause-keeps : goal.returns-clause-keeps
returns-clause-keeps g c =
    keeps-then g.B.Blocks.tells (g.B.Blocks.seen c.args.blocks.now)
    (g.B.Blocks.seen c.find_nth.new.blocks) (g.B.Blocks.seen c.get.follows.lender-at-none)
    c.find_nth.ensures.keeps c.get.follows.holds-at-none.0
