-- The parts of a store without one that goes.
use Rattle.std.proofs.Common.{◌≡◌, ◌≢◌, ◌∙◌, ◌==◌, ℕ, Bool, true, false, cond, not, List, [], ◌∷◌}
use Rattle.std.proofs.Common.{Option, Some, None, ap, filter, map, nat_eq, refl, sym}
use Rattle.std.specs.Prelude.{All}
use Rattle.std.specs.List.{AllByRecursion, IsDistinct}
use Rattle.std.specs.Option.{option_map}
use Rattle.std.proofs.lemmas.Bool.{true≢false}
use Rattle.std.proofs.lemmas.Bool.Decides.{Decides-eqb}
use Rattle.std.proofs.lemmas.List.Elements.{All-cons, All-head, All-nil, All-tail, All-weaker}
use Rattle.vr_types.specs.declared.unit.PartNo.{PartNo}
use Rattle.vr_space.specs.Part.{Shape}
use Rattle.vr_volume.specs.EntryChange.{is_gone}
use Rattle.vr_store.specs.Define.{IsMetAt}
use Rattle.vr_store.specs.EntryChange.{HasPartsLeft, HasShapesLeft, number_gone, parts_left}
use Rattle.vr_store.specs.Store.{PartNow, has_number, part_among, shape_among}
use Rattle.vr_store.proofs.PartsAt.{only-met}
use Rattle.vr_store.proofs.PlacedParts.{number_of, other-number, shapes-same, split-met}

-- ---- numbers that differ

module _ (test : PartNow → Bool) where
  all-fewer : (P : ℕ → Type 0) (parts : List PartNow) → AllByRecursion P (map number_of parts)
      → AllByRecursion P (map number_of (filter test parts))
  all-fewer P [] all = tt
  all-fewer P (one ∷ parts) all = by_test (test one) (all-fewer P parts all.1)
    where
      by_test : (passes : Bool) → AllByRecursion P (map number_of (filter test parts))
          → AllByRecursion P (map number_of
          (cond passes (one ∷ filter test parts) (filter test parts)))
      by_test true further = (all.0, further)
      by_test false further = further

  -- those of fewer parts differ, too
  distinct-fewer : (parts : List PartNow) → IsDistinct nat_eq (map number_of parts)
      → IsDistinct nat_eq (map number_of (filter test parts))
  unfolding IsDistinct
  distinct-fewer [] distinct = tt
  distinct-fewer (one ∷ parts) distinct =
      by_test (test one) (distinct-fewer parts distinct.1)
    where
      by_test : (passes : Bool) → IsDistinct nat_eq (map number_of (filter test parts))
          → IsDistinct nat_eq (map number_of
          (cond passes (one ∷ filter test parts) (filter test parts)))
      by_test true further = (
        all-fewer (λ n. nat_eq one.number.0 n ≡ false) parts distinct.0,
        further,
      )
      by_test false further = further

-- ---- the parts of other numbers

module _ (number : ℕ) where
  abbrev others_of : List PartNow → List PartNow
  others_of parts = filter (λ (one : PartNow). not (has_number number one)) parts

  -- what holds of each holds of them, and they are others
  all-others : (P : PartNow → Type 0) (parts : List PartNow) → All P parts
      → All (λ (part : PartNow). P part × (part.number.0 ≢ number)) (others_of parts)
  all-others P [] all = All-nil (λ (part : PartNow). P part × (part.number.0 ≢ number))
  all-others P (one ∷ parts) all =
      by_test (has_number number one) refl (all-others P parts (All-tail P one parts all))
    where
      by_test : (here : Bool) → has_number number one ≡ here
          → All (λ (part : PartNow). P part × (part.number.0 ≢ number)) (others_of parts)
          → All (λ (part : PartNow). P part × (part.number.0 ≢ number))
          (cond (not here) (one ∷ others_of parts) (others_of parts))
      by_test true is further = further
      by_test false is further =
          All-cons (λ (part : PartNow). P part × (part.number.0 ≢ number)) one (others_of parts)
          (All-head P one parts all, other-number number one is) further

  -- the part of the number isn't found, and each other is as before
  among-others : (other : ℕ) (parts : List PartNow) → part_among (others_of parts) other
      ≡ cond (number == other) None (part_among parts other)
  among-others other [] = none (number == other)
    where
      none : (same : Bool) → part_among [] other ≡ cond same None (part_among [] other)
      none true = refl
      none false = refl
  among-others other (one ∷ parts) =
      by_test (has_number number one) refl (among-others other parts)
    where
      -- the one that goes isn't the one of another number,
      apart : (number == other) ≡ false → has_number number one ≡ true
          → (theirs : Bool) → has_number other one ≡ theirs → theirs ≡ false
      apart differ here true there = absurd (true≢false
          (sym ((Decides-eqb number other).1 (sym ((Decides-eqb one.number.0 number).0 here)
          ∙ (Decides-eqb one.number.0 other).0 there)) ∙ differ))
      apart differ here false there = refl

      -- and one that stays isn't the one of its number
      not-here : (number == other) ≡ true → has_number number one ≡ false
          → (theirs : Bool) → has_number other one ≡ theirs → theirs ≡ false
      not-here same here true there = absurd (true≢false
          (sym ((Decides-eqb one.number.0 number).1 ((Decides-eqb one.number.0 other).0 there
          ∙ sym ((Decides-eqb number other).0 same))) ∙ here))
      not-here same here false there = refl

      gone-here : (same : Bool) → (number == other) ≡ same → has_number number one ≡ true
          → part_among (others_of parts) other ≡ cond same None (part_among parts other)
          → part_among (others_of parts) other
          ≡ cond same None (cond (has_number other one) (Some one) (part_among parts other))
      gone-here true is here further = further
      gone-here false is here further = further
          ∙ sym (ap (λ (theirs : Bool). cond theirs (Some one) (part_among parts other))
          (apart is here (has_number other one) refl))

      stays-here : (same : Bool) → (number == other) ≡ same → has_number number one ≡ false
          → part_among (others_of parts) other ≡ cond same None (part_among parts other)
          → cond (has_number other one) (Some one) (part_among (others_of parts) other)
          ≡ cond same None (cond (has_number other one) (Some one) (part_among parts other))
      stays-here true is here further =
          ap (λ (theirs : Bool). cond theirs (Some one) (part_among (others_of parts) other))
          (not-here is here (has_number other one) refl)
          ∙ further
      stays-here false is here further =
          ap (λ (found : Option PartNow). cond (has_number other one) (Some one) found) further

      by_test : (here : Bool) → has_number number one ≡ here
          → part_among (others_of parts) other
          ≡ cond (number == other) None (part_among parts other)
          → part_among (cond (not here) (one ∷ others_of parts) (others_of parts)) other
          ≡ cond (number == other) None
          (cond (has_number other one) (Some one) (part_among parts other))
      by_test true here further = gone-here (number == other) refl here further
      by_test false here further = stays-here (number == other) refl here further

-- ---- the parts that are left

-- what isn't equal
pub not-same : (one other : ℕ) → other ≢ one → (one == other) ≡ false
not-same one other apart = by_test (one == other) refl
  where
    by_test : (test : Bool) → (one == other) ≡ test → test ≡ false
    by_test true is = absurd (apart (sym ((Decides-eqb one other).0 is)))
    by_test false is = refl

-- what holds of each part holds of those that are left, and none of them goes
pub all-left : (gone : Option PartNo) (P : PartNow → Type 0) (parts : List PartNow) → All P parts
    → All (λ (part : PartNow). P part × (is_gone (number_gone gone) part.number.0 ≡ false))
    (parts_left gone parts)
all-left None P parts all = All-weaker P (λ (part : PartNow). P part × (false ≡ false))
    (λ part is. (is, refl)) parts all
all-left (Some part) P parts all =
    All-weaker (λ (one : PartNow). P one × (one.number.0 ≢ part.0))
    (λ (one : PartNow). P one × ((part.0 == one.number.0) ≡ false))
    (λ one is. (is.0, not-same part.0 one.number.0 is.1)) (parts_left (Some part) parts)
    (all-others part.0 P parts all)

-- their numbers differ
pub distinct-left : (gone : Option PartNo) (parts : List PartNow)
    → IsDistinct nat_eq (map number_of parts)
    → IsDistinct nat_eq (map number_of (parts_left gone parts))
distinct-left None parts distinct = distinct
distinct-left (Some part) parts distinct =
    distinct-fewer (λ (one : PartNow). not (has_number part.0 one)) parts distinct

-- a part is found as before, but for the one that goes,
pub among-left : (gone : Option PartNo) (parts : List PartNow) (number : ℕ)
    → part_among (parts_left gone parts) number
    ≡ cond (is_gone (number_gone gone) number) None (part_among parts number)
among-left None parts number = refl
among-left (Some part) parts number = among-others part.0 number parts

-- and has the shape that it had
pub shapes-left : (gone : Option PartNo) (parts : List PartNow) (number : ℕ)
    → shape_among (parts_left gone parts) number
    ≡ cond (is_gone (number_gone gone) number) None (shape_among parts number)
shapes-left gone parts number =
    ap (option_map (λ (part : PartNow). part.shape)) (among-left gone parts number)
    ∙ by_test (is_gone (number_gone gone) number)
  where
    by_test : (test : Bool)
        → option_map (λ (part : PartNow). part.shape) (cond test None (part_among parts number))
        ≡ cond test None (shape_among parts number)
    by_test true = refl
    by_test false = refl

-- ---- once the catalog was worked on

-- each of the parts that are left but the catalog is as it was,
pub parts-met : (gone : Option PartNo) (old mid new : List PartNow) → IsMetAt 0 old mid
    → new ≡ parts_left gone mid → HasPartsLeft gone old new
parts-met it old mid new met left = record {
  before = mid;
  met = only-met 0 met.before met.after old mid (record { found = met.found; is = met.is })
      (ap (λ (one : PartNow). one.number) met.same) met.same;
  is = left;
}

-- and each has the shape that it had.
pub shapes-met : (gone : Option PartNo) (old new : List PartNow) → HasPartsLeft gone old new
    → HasShapesLeft gone old new
shapes-met gone old new left number =
    ap (λ (parts : List PartNow). shape_among parts number) left.is
    ∙ shapes-left gone left.before number
    ∙ ap (λ (shape : Option Shape). cond (is_gone (number_gone gone) number) None shape)
    (shapes-same left.before old (split-met left.before old left.met.parts) number)
