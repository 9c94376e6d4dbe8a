use Rattle.std.proofs.Common.{◌≡◌, List, ◌∷◌, rules, sym, subst}
use Rattle.vr_ci.specs.Interval as ci
use Rattle.vr_keyed.proofs.InPlace.{IsPassing, passing-starts, passes}
use Rattle.vr_keyed.proofs.in_place.place_of.Goals as goal

pub loop-init : goal.loop-init
loop-init c =
    let all = c.args.view.now.items in
    subst (λ (left : List ci.Item). IsPassing all left 0) (sym c.iter-records.ensures)
    (passing-starts all)

pub loop-preserved : goal.loop-preserved
loop-preserved c =
    let item : ci.Item = record { bytes = c.in_ok-record.record.now; live = c.in_ok-record.field-0-1 }
    in
    let cut : c.loop.records ≡ item ∷ c.next.new.self = search rules in
    passes c.args.view.now.items c.loop.records c.next.new.self c.loop.at item cut c.loop.invariant
