-- Entries that are taken one after the other.
use Rattle.std.proofs.Common.{◌≡◌, ◌<◌, ◌≤◌, ◌+◌, ℕ, List, [], ◌∷◌, ◌++◌, length, take, sym}
use Rattle.std.proofs.Common.{Some, ap, subst, ◌∙◌, arith, get_or, true, ⊎_elim, length-append}
use Rattle.std.specs.Prelude.{slice_get}
use Rattle.std.proofs.lemmas.Bool.{cases_lt}
use Rattle.std.proofs.lemmas.List.{length-take, get_or-take, get_or_append_left, get_or-append-add}
use Rattle.std.proofs.lemmas.List.{take-append-le, take_all}
use Rattle.std.proofs.lemmas.Option.{slice_get-get_or, slice_get_within, get_or_from_slice_get}
use Rattle.vr_types.specs.declared.geometry.Geometry.{Geometry}
use Rattle.vr_catalog.specs.declared.entry.CatEntry.{CatEntry}
use Rattle.vr_format.specs.Fit.{AreTaken, IsFirstUnfit, IsTaken, TakesNext}

pub taken-none : (geometry : Geometry) (entries : List CatEntry)
    → AreTaken geometry (take 0 entries) []
taken-none geometry entries = record {
  count = omega (arith, length-take 0 entries);
  each = λ at entry cluster there here.
      absurd (omega (arith, slice_get_within {A = CatEntry} [] at cluster here));
}

same-some : (x y : CatEntry) → Some x ≡ Some y → x ≡ y
same-some x y same = cc

-- what is at an index of a beginning is there in the list
pub there-in-all : (entries : List CatEntry) (n at : ℕ) (entry : CatEntry) → at < n
    → slice_get (take n entries) at ≡ Some entry → slice_get entries at ≡ Some entry
there-in-all entries n at entry below there =
    let within : at < length (take n entries) = slice_get_within (take n entries) at entry there in
    slice_get-get_or entries at entry (omega (arith, within, length-take n entries))
    ∙ ap Some (sym (get_or-take n entries at entry below)
    ∙ get_or_from_slice_get (take n entries) at entry entry there)

-- and the other way
pub there-in-take : (entries : List CatEntry) (n at : ℕ) (entry : CatEntry) → at < n
    → slice_get entries at ≡ Some entry → slice_get (take n entries) at ≡ Some entry
there-in-take entries n at entry below there =
    let within : at < length entries = slice_get_within entries at entry there in
    slice_get-get_or (take n entries) at entry
    (omega (arith, within, below, length-take n entries))
    ∙ ap Some (get_or-take n entries at entry below
    ∙ get_or_from_slice_get entries at entry entry there)

module _ (geometry : Geometry) (entries clusters : List CatEntry) (i : ℕ)
    (below : i < length entries) (taken : AreTaken geometry (take i entries) clusters) where
  pub count-is : length clusters ≡ i
  count-is = omega (arith, taken.count, length-take i entries, below)

  module _ (entry : CatEntry) (is : entry ≡ get_or entries i entry) where
    here-is : slice_get entries i ≡ Some entry
    here-is = slice_get-get_or entries i entry below ∙ ap Some (sym is)

    pub first-unfit : ((cluster : CatEntry) → IsTaken geometry clusters entry cluster → ⊥)
        → IsFirstUnfit geometry entries i
    first-unfit unfit = record {
      before = clusters;
      taken = taken;
      entry = entry;
      there = here-is;
      unfit = unfit;
    }

    push : (cluster : CatEntry) → IsTaken geometry clusters entry cluster
        → AreTaken geometry (take (i + 1) entries) (clusters ++ cluster ∷ [])
    push cluster last = record {
      count = omega (
        arith,
        count-is,
        length-append clusters (cluster ∷ []),
        length-take (i + 1) entries,
        below,
      );
      each = λ at e c there here. ⊎_elim
          (λ less. earlier at e c there here less)
          (λ more. latest at e c there here more)
          (cases_lt at i);
    }
      where
        earlier : (at : ℕ) (e c : CatEntry) → slice_get (take (i + 1) entries) at ≡ Some e
            → slice_get (clusters ++ cluster ∷ []) at ≡ Some c → at < i
            → IsTaken geometry (take at (clusters ++ cluster ∷ [])) e c
        earlier at e c there here less =
            subst (λ (before : List CatEntry). IsTaken geometry before e c)
            (sym (take-append-le at clusters (cluster ∷ []) (omega (arith, less, count-is))))
            (taken.each at e c
            (there-in-take entries i at e less
            (there-in-all entries (i + 1) at e (omega (arith, less)) there))
            (slice_get-get_or clusters at c (omega (arith, less, count-is))
            ∙ ap Some (sym (get_or_append_left clusters (cluster ∷ []) c at
            (omega (arith, less, count-is)))
            ∙ get_or_from_slice_get (clusters ++ cluster ∷ []) at c c here)))

        latest : (at : ℕ) (e c : CatEntry) → slice_get (take (i + 1) entries) at ≡ Some e
            → slice_get (clusters ++ cluster ∷ []) at ≡ Some c → i ≤ at
            → IsTaken geometry (take at (clusters ++ cluster ∷ [])) e c
        latest at e c there here more =
            let within : at < length (clusters ++ cluster ∷ []) =
            slice_get_within (clusters ++ cluster ∷ []) at c here in
            let same : at ≡ i =
            omega (arith, within, length-append clusters (cluster ∷ []), count-is, more) in
            let end : at ≡ length clusters + 0 = omega (arith, same, count-is) in
            let entry-is : e ≡ entry = same-some e entry
            (sym (there-in-all entries (i + 1) at e (omega (arith, same)) there)
            ∙ ap (slice_get entries) same ∙ here-is) in
            let cluster-is : c ≡ cluster =
            sym (get_or_from_slice_get (clusters ++ cluster ∷ []) at c c here)
            ∙ ap (λ (k : ℕ). get_or (clusters ++ cluster ∷ []) k c) end
            ∙ get_or-append-add clusters (cluster ∷ []) 0 c in
            let before : take at (clusters ++ cluster ∷ []) ≡ clusters =
            take-append-le at clusters (cluster ∷ []) (omega (arith, end))
            ∙ take_all at clusters (omega (arith, end)) in
            subst (λ (b : List CatEntry). IsTaken geometry b e c) (sym before)
            (subst (λ (one : CatEntry). IsTaken geometry clusters one c) (sym entry-is)
            (subst (IsTaken geometry clusters entry) (sym cluster-is) last))

    pub taken-more : (new : List CatEntry) → TakesNext geometry clusters entry new true
        → AreTaken geometry (take (i + 1) entries) new
    taken-more new took = subst (AreTaken geometry (take (i + 1) entries)) (sym took.2)
        (push took.0 took.1)

-- all of them
pub taken-all : (geometry : Geometry) (entries clusters : List CatEntry) (i : ℕ)
    → length entries ≤ i → AreTaken geometry (take i entries) clusters
    → AreTaken geometry entries clusters
taken-all geometry entries clusters i most taken =
    subst (λ (es : List CatEntry). AreTaken geometry es clusters) (take_all i entries most) taken
