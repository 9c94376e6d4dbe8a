use Rattle.std.proofs.Common.{◌≡◌, ◌<◌, ◌+◌, ◌-◌, ap, arith, drop, get_or, length, sym, ◌∙◌}
use Rattle.std.specs.List.{list_any}
use Rattle.vr_undo.specs.Records.{keeps_for}
use Rattle.vr_undo.specs.Searched.{record_at}
use Rattle.vr_undo.proofs.LastLive.{last-live, none-live}
use Rattle.vr_undo.proofs.Leaving.{item-at}
use Rattle.vr_undo.proofs.record.last_kept.Goals as goal

pub returns-then-keeps_for : goal.returns-then-keeps_for
returns-then-keeps_for c =
    let records = c.args.records.now in
    let live = c.args.live.now in
    let at = c.loop-at.at - 1 in
    let inside : at < length live =
    omega (arith, c.loop-at-test.true, c.loop-at.invariant.within) in
    let back : at + 1 ≡ c.loop-at.at = omega (arith, c.loop-at-test.true) in
    last-live c.args.unit records live c.requires at inside
    (ap (keeps_for c.args.unit) (sym (item-at records (get_or live at 0)
    c.index-records-live.result (c.requires.numbers at 0 inside) c.index-records-live.is))
    ∙ sym c.keeps_for.ensures ∙ c.if-keeps_for.true)
    (ap (λ n. list_any (λ number. keeps_for c.args.unit (record_at records number))
    (drop n live)) back ∙ c.loop-at.invariant.none_after)

pub returns : goal.returns
returns c =
    let none : 0 ≡ c.loop-at.at = omega (arith, c.loop-at-test.false) in
    none-live c.args.unit c.args.records.now c.args.live.now c.requires
    (ap (λ n. list_any (λ number. keeps_for c.args.unit (record_at c.args.records.now number))
    (drop n c.args.live.now)) none ∙ c.loop-at.invariant.none_after)
