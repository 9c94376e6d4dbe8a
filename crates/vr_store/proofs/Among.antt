-- Parts by their numbers.
use Rattle.std.proofs.Common.{◌≡◌, ℕ, Bool, true, false, cond, List, [], ◌∷◌, Option, Some, None}
use Rattle.std.proofs.Common.{refl, subst}
use Rattle.std.specs.Prelude.{All}
use Rattle.std.specs.Option.{option_map}
use Rattle.std.proofs.lemmas.Bool.Decides.{Decides-eqb}
use Rattle.std.proofs.lemmas.List.Elements.{All-head, All-tail}
use Rattle.vr_space.specs.Part.{Shape}
use Rattle.vr_store.specs.Store.{PartNow, has_number, part_among, shape_among}

-- what holds of each part holds of the one that is found
pub among-all : (P : PartNow → Type 0) (parts : List PartNow) (number : ℕ) (part : PartNow)
    → All P parts → part_among parts number ≡ Some part → P part
among-all P [] number part all is = absurd cc
among-all P (one ∷ parts) number part all is =
    by_test (has_number number one) (among-all P parts number part (All-tail P one parts all)) is
  where
    by_test : (test : Bool) → (part_among parts number ≡ Some part → P part)
        → cond test (Some one) (part_among parts number) ≡ Some part → P part
    by_test true further found = let same : one ≡ part = cc in
        subst P same (All-head P one parts all)
    by_test false further found = further found

-- it has the number
pub among-number : (parts : List PartNow) (number : ℕ) (part : PartNow)
    → part_among parts number ≡ Some part → part.number.0 ≡ number
among-number [] number part is = absurd cc
among-number (one ∷ parts) number part is =
    by_test (has_number number one) refl (among-number parts number part) is
  where
    by_test : (test : Bool) → has_number number one ≡ test
        → (part_among parts number ≡ Some part → part.number.0 ≡ number)
        → cond test (Some one) (part_among parts number) ≡ Some part → part.number.0 ≡ number
    by_test true here further found = let same : one ≡ part = cc in
        subst (λ (p : PartNow). p.number.0 ≡ number) same
        ((Decides-eqb one.number.0 number).0 here)
    by_test false here further found = further found

-- a shape that is found is that of a part
pub record HasShape (parts : List PartNow) (number : ℕ) (shape : Shape) : Type 0 where
  pub part : PartNow
  pub found : part_among parts number ≡ Some part
  pub is : part.shape ≡ shape

pub among-shape : (parts : List PartNow) (number : ℕ) (shape : Shape)
    → shape_among parts number ≡ Some shape → HasShape parts number shape
among-shape parts number shape is = of (part_among parts number) refl is
  where
    of : (found : Option PartNow) → part_among parts number ≡ found
        → option_map (λ (part : PartNow). part.shape) found ≡ Some shape
        → HasShape parts number shape
    of None none same = absurd cc
    of (Some part) some same = record { part = part; found = some; is = cc }
