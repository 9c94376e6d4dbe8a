use Rattle.std.proofs.Common.{◌≡◌, ◌<◌, false, ap, sym, subst, ◌∙◌}
use Rattle.std.specs.Prelude.{not}
use Rattle.std.specs.Option.{option_map}
use Rattle.vr_types.specs.Image.{Block}
use Rattle.vr_space.specs.Entries.{IsEntries, entry_item}
use Rattle.vr_space.specs.Keyed.{items_of}
use Rattle.vr_space.specs.Numbered.{IsNumberPlace, interval_of, takes}
use Rattle.vr_space.specs.Rosters.{Numbered}
use Rattle.vr_chained.specs.Met.{met_in}
use Rattle.vr_chained.specs.Tail.{tail_of}
use Rattle.vr_chained.proofs.Fitting.{block-used, entry-fits}
use Rattle.vr_chained.proofs.chained.fits.Goals as goal

pub returns : goal.returns
returns c = λ image stands of met.
    let part = c.args.chain.now.part in
    let same : c.layout-layout.result.now ≡ part = c.layout-layout.ensures in
    let within : interval_of part c.args.place.now < c.args.chain.now.used =
    block-used c.args.chain.now.used (IsNumberPlace part c.args.place.now)
    (interval_of part c.args.place.now) c.block_at.result
    (c.is_none.ensures ∙ ap not c.if-is_none.false) c.block_at.ensures.used in
    entry-fits c.args.chain.now image stands of c.args.place.now c.requires.place within
    (ap (λ (p : Numbered). p.relative) (sym same ∙ sym c.layout.view_is) ∙ c.if-layout.false)
    (met_in c.met_at.result.now)
    c.met_at.ensures.place (c.met_at.ensures.met part image met) (option_map tail_of c.args.tail)
    c.args.length c.at_of.result c.is_next-next.result c.takes_record.result
    c.at_of.ensures.place c.is_next-next.ensures
    (subst (λ (block : Block). IsEntries part block → c.takes_record.result
    ≡ takes false (entry_item c.at_of.result (items_of block)) c.args.length
    c.is_next-next.result) c.as_slice-block.ensures.value
    (λ entries. c.takes_record.ensures (subst (λ (p : Numbered). IsEntries p
    c.as_slice-block.result.now) (sym same) entries)))
