use Rattle.std.proofs.Common.{◌≡◌, ℕ, List, get_or, ap, ◌∙◌, sym, arith}
use Rattle.std.proofs.lemmas.List.{get_or-map}
use Rattle.std.proofs.lemmas.Slice.Eq.{bytes_eq-Decides}
use Rattle.vr_split.specs.declared.weights.Entry.{Entry}
use Rattle.vr_split.specs.Entries.{lengths_seen}
use Rattle.vr_split.proofs.Totals.{length_seen}
use Rattle.vr_split.proofs.weights.stands_at.Goals as goal

pub returns-then-at-entries : goal.returns-then-at-entries
returns-then-at-entries c =
    let entries = c.args.entries.now in
    let entry = c.index-entries-at.result in
    let seen : Entry → List ℕ × ℕ = λ e. (e.place.place, e.longest) in
    let here : (d : List ℕ × ℕ) → (get_or (lengths_seen entries) c.args.at d).0
    ≡ c.as_slice.result.now = λ d. ap (λ (e : List ℕ × ℕ). e.0)
    (get_or-map seen entries c.args.at entry d c.if-at-entries.true) ∙ sym c.as_slice.ensures in
    let decides = bytes_eq-Decides c.as_slice.result.now c.args.place.now in (
      λ true. (
        omega (arith, length_seen entries, c.if-at-entries.true),
        λ d. here d ∙ decides.0 (sym c.eq.ensures ∙ true),
      ),
      λ stands. c.eq.ensures ∙ decides.1 (sym (here (seen entry)) ∙ stands.1 (seen entry)),
    )
