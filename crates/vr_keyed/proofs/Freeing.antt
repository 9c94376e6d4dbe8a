-- The least interval that no entry of a head has.
use Rattle.std.proofs.Common.{◌≡◌, ℕ, suc, ◌+◌, ◌-◌, ◌<◌, Bool, true, false, List, []}
use Rattle.std.proofs.Common.{◌∷◌, ◌++◌, length, All, refl, sym, ap, subst, ◌∙◌, arith, Some}
use Rattle.std.proofs.Common.{add-one}
use Rattle.std.specs.Prelude.{cond, nat_eq, ◌||◌}
use Rattle.std.specs.List.{list_any, flat_map}
use Rattle.std.proofs.lemmas.List.Elements.{All-head, All-tail}
use Rattle.vr_seqset.specs.Entry.{Entry}
use Rattle.vr_space.specs.Split.{free_from}

abbrev pub intervals_of : List Entry → List ℕ
intervals_of entries = flat_map (λ (entry : Entry). entry.intervals) entries

abbrev pub AreSingle : List Entry → Type 0
AreSingle entries = All (λ (entry : Entry). length entry.intervals ≡ 1) entries

any-append : (test : ℕ → Bool) (xs ys : List ℕ)
    → list_any test (xs ++ ys) ≡ (list_any test xs || list_any test ys)
any-append test [] ys = refl
any-append test (x ∷ xs) ys = by (test x) (any-append test xs ys)
  where
    by : (b : Bool) → list_any test (xs ++ ys) ≡ (list_any test xs || list_any test ys)
        → (b || list_any test (xs ++ ys)) ≡ ((b || list_any test xs) || list_any test ys)
    by true more = refl
    by false more = more

-- The entries before these don't have the interval, of so many.
pub record IsLooking (n : ℕ) (all left : List Entry) (i : ℕ) : Type 0 where
  pub single : AreSingle left
  pub same : list_any (nat_eq n) (intervals_of left) ≡ list_any (nat_eq n) (intervals_of all)
  pub count : length left + i ≡ length all

module _ (n : ℕ) (all old left : List Entry) (i : ℕ) (entry : Entry) (cut : old ≡ entry ∷ left)
    (look : IsLooking n all old i) where
  single-here : AreSingle (entry ∷ left)
  single-here = subst AreSingle cut look.single

  pub entry-single : length entry.intervals ≡ 1
  entry-single = All-head (λ (e : Entry). length e.intervals ≡ 1) entry left single-here

  joined : (list_any (nat_eq n) entry.intervals || list_any (nat_eq n) (intervals_of left))
      ≡ list_any (nat_eq n) (intervals_of all)
  joined = sym (any-append (nat_eq n) entry.intervals (intervals_of left))
      ∙ sym (ap (λ (es : List Entry). list_any (nat_eq n) (intervals_of es)) cut)
      ∙ look.same

  -- nor does the next
  pub look-more : list_any (nat_eq n) entry.intervals ≡ false → IsLooking n all left (i + 1)
  look-more none = record {
    single = All-tail (λ (e : Entry). length e.intervals ≡ 1) entry left single-here;
    same = sym (ap (λ (b : Bool). b || list_any (nat_eq n) (intervals_of left)) none) ∙ joined;
    count = omega (arith, ap length cut, look.count);
  }

  -- or it does
  pub look-finds : list_any (nat_eq n) entry.intervals ≡ true
      → true ≡ list_any (nat_eq n) (intervals_of all)
  look-finds some =
      sym (ap (λ (b : Bool). b || list_any (nat_eq n) (intervals_of left)) some) ∙ joined

-- ---- numbers in turn

-- a number that is used is passed
pub free-passes : (limit n : ℕ) (used : List ℕ) → n < limit → true ≡ list_any (nat_eq n) used
    → free_from (limit - n) n used ≡ free_from limit 0 used
    → free_from (limit - (n + 1)) (n + 1) used ≡ free_from limit 0 used
free-passes limit n used below is more =
    let left : limit - n ≡ suc (limit - (n + 1)) = omega (arith, below) in
    let one : n + 1 ≡ suc n = add-one n in
    ap (free_from (limit - (n + 1)) (n + 1)) refl
    ∙ ap (λ (m : ℕ). free_from (limit - (n + 1)) m used) one
    ∙ ap (λ (b : Bool). cond b (free_from (limit - (n + 1)) (suc n) used) (Some n)) is
    ∙ ap (λ (k : ℕ). free_from k n used) (sym left)
    ∙ more

-- the first that isn't is the least
pub free-here : (limit n : ℕ) (used : List ℕ) → n < limit → false ≡ list_any (nat_eq n) used
    → free_from (limit - n) n used ≡ free_from limit 0 used
    → free_from limit 0 used ≡ Some n
free-here limit n used below is more =
    let left : limit - n ≡ suc (limit - (n + 1)) = omega (arith, below) in
    sym more ∙ ap (λ (k : ℕ). free_from k n used) left
    ∙ ap (λ (b : Bool). cond b (free_from (limit - (n + 1)) (suc n) used) (Some n)) (sym is)
