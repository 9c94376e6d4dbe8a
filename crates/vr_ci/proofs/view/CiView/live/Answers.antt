use Rattle.std.proofs.Common.{ℕ, Bool, ◌∙◌, sym, ap, refl, List, Some, Bor}
use Rattle.std.specs.Prelude.{slice_get}
use Rattle.std.specs.Option.{option_map}
use Rattle.std.proofs.lemmas.Iterator.Consumers.{nth_from_yields_List, YieldsList-from_first}
use Rattle.std.proofs.lemmas.Option.{slice_get-map}
use Rattle.vr_ci.specs.Interval.{Item, live_of}
use Rattle.vr_ci.specs.Reading.{item_lent}
use Rattle.vr_ci.proofs.view.CiView.live.Goals as goal

pub returns : goal.returns
returns c =
    let items = c.args.self.now.items in
    let lent : Bor (List ℕ) × Bool = (c.in-Some.field-0-0, c.in-Some.live) in
    let got = nth_from_yields_List (Some lent) _ c.args.i c.in-Some.ensures.ran
    (YieldsList-from_first item_lent (λ (rest : List Item). rest) c.iter.result refl) in
    slice_get-map live_of items c.args.i
    ∙ ap (option_map live_of) (ap (λ (x : List Item). slice_get x c.args.i) (sym c.iter.ensures)
    ∙ sym got)
