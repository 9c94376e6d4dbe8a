use Rattle.std.proofs.Common.{◌≡◌, ◌<◌, ℕ, List, Some, get_or, length, take, ap, ◌∙◌, sym, arith}
use Rattle.std.proofs.lemmas.List.{length-map, length-take, get_or-map}
use Rattle.std.proofs.lemmas.Option.{slice_get-get_or}
use Rattle.vr_space.specs.Whence.{places_kept}
use Rattle.vr_split.specs.Weights.{LengthsRoom}
use Rattle.vr_split.specs.Entries.{lengths_seen}
use Rattle.vr_split.proofs.Totals.{length_seen}
use Rattle.vr_split.proofs.EntryLemmas.{seen_at}
use Rattle.vr_split.proofs.weights.Weights.place.Goals as goal

pub returns : goal.returns
returns c =
    let used = c.self.inside.used in
    let items = c.self.inside.entries.items in
    let all = c.args.self.now.lengths in
    let first : List ℕ × ℕ → List ℕ = λ e. e.0 in
    let none : List ℕ × ℕ = (c.as_slice.result.now, 0) in
    let seen : lengths_seen (take used items) ≡ all =
    ap (λ (r : LengthsRoom). r.lengths) c.self.view_is in
    let order : c.args.i < used =
    omega (
      arith,
      c.requires,
      ap length seen,
      length_seen (take used items),
      length-take used items,
    ) in
    let here : get_or all c.args.i none
    ≡ (c.index.result.now.place.place, c.index.result.now.longest) =
    ap (λ (l : List (List ℕ × ℕ)). get_or l c.args.i none) (sym seen)
    ∙ seen_at items used c.args.i c.index.result.now none order c.self.invariant.within
    c.index.ensures in
    slice_get-get_or (places_kept all) c.args.i c.as_slice.result.now
    (omega (arith, c.requires, length-map all first))
    ∙ ap Some (get_or-map first all c.args.i none c.as_slice.result.now c.requires
    ∙ ap first here ∙ sym c.as_slice.ensures)
