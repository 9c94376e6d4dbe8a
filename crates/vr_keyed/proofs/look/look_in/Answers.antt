use Rattle.std.proofs.Common.{◌≡◌, Option, Some, None, MatchOption, refl, rules, sym, ap}
use Rattle.std.proofs.Common.{subst}
use Rattle.std.proofs.Common.{◌∙◌}
use Rattle.vr_types.specs.Content.{Item, item_at}
use Rattle.vr_types.specs.Content.Item.{Standing}
use Rattle.vr_types.specs.Image.{Block, Image, block_at}
use Rattle.vr_types.proofs.CallerLemmas.{keeps-then}
use Rattle.vr_space.specs.AreaCalls.{item_here}
use Rattle.vr_space.specs.Keyed.{HoldsRange, records_of}
use Rattle.vr_keyed.proofs.Looking.{found-read, led-holds, led-item}
use Rattle.vr_keyed.proofs.look.look_in.Goals as goal

pub returns : goal.returns
returns g c =
    let B = g.B.Blocks in
    let a = B.seen c.args.blocks.now in
    let m = B.seen c.block_for.new.blocks in
    let part = c.args.layout.now in
    let place = c.args.place.now in (
      (
        refl,
        λ x. tt,
        (
          keeps-then B.tells a m (B.seen c.get.follows.lender-at-none)
              c.block_for.ensures.keeps c.get.follows.holds-at-none.0,
          search rules,
        ),
      ),
      record {
        item = λ told.
            let leads = c.in_ok-number.ensures.leads told in
            let same : c.in_ok-block.block.now ≡ block_at a.cur c.in_ok-number.number =
            c.in_ok-block.ensures.content told
            ∙ ap (λ (image : Image). block_at image c.in_ok-number.number)
            (c.block_for.ensures.keeps.content told) in
            let holds = led-holds part a.cur place c.in_ok-number.number leads
            (c.requires.stands told) in
            let has = c.record_at.ensures leads.at.0
            (subst (HoldsRange part leads.at.0) (sym same) holds) in
            let is : item_here part a.cur place
            ≡ item_at (records_of part c.in_ok-block.block.now) place =
            led-item part a.cur place c.in_ok-number.number leads
            ∙ sym (ap (λ (block : Block). item_at (records_of part block) place) same) in
            found-read (item_here part a.cur place) c.record_at.result
            (subst (λ (o : Option Item). MatchOption c.record_at.result (o ≡ None)
            (λ s. o ≡ Some (Standing s.now))) (sym is) has);
        after = tt;
      },
    )
