-- A part put in the place of the one that has its number.
use Rattle.std.proofs.Common.{◌≡◌, ◌≢◌, ◌<◌, ◌+◌, ℕ, Bool, true, false, cond, not, List, [], ◌∷◌}
use Rattle.std.proofs.Common.{Option, Some, None, refl, sym, ap, subst, ◌∙◌, arith, length, map}
use Rattle.std.proofs.Common.{set}
use Rattle.std.proofs.Common.{nat_eq, ◌==◌, ◌≤◌, get_or, suc}
use Rattle.std.specs.Prelude.{All}
use Rattle.std.specs.List.{AllByRecursion, IsDistinct, position_or_len, slice_get}
use Rattle.std.specs.Option.{option_map}
use Rattle.std.proofs.lemmas.Bool.{true≢false}
use Rattle.std.proofs.lemmas.Bool.Decides.{Decides-eqb}
use Rattle.std.proofs.lemmas.List.Folds.{find_at}
use Rattle.std.proofs.lemmas.Option.{slice_get-get_or}
use Rattle.std.proofs.lemmas.List.Elements.{All-cons, All-head, All-nil, All-tail}
use Rattle.vr_store.specs.Parts.{OthersStay, but_met, but_split, with_part}
use Rattle.vr_store.specs.Store.{PartNow, has_number, part_among, shape_among}

abbrev pub number_of : PartNow → ℕ
number_of part = part.number.0

-- the part is not the one of the number
pub other-number : (number : ℕ) (part : PartNow) → has_number number part ≡ false
    → part.number.0 ≢ number
other-number number part is same =
    true≢false (sym ((Decides-eqb part.number.0 number).1 same) ∙ is)

has-number : (number : ℕ) (part : PartNow) → part.number.0 ≡ number
    → has_number number part ≡ true
has-number number part same = (Decides-eqb part.number.0 number).1 same

not-number : (number : ℕ) (part : PartNow) → part.number.0 ≢ number
    → has_number number part ≡ false
not-number number part apart = by_test (has_number number part) refl
  where
    by_test : (test : Bool) → has_number number part ≡ test → test ≡ false
    by_test true is = absurd (apart ((Decides-eqb part.number.0 number).0 is))
    by_test false is = refl

-- ---- by the place in the list

-- what is put at the place of the number is put in the place of its part
pub with-set : (number : ℕ) (after : PartNow) (parts : List PartNow) (at : ℕ)
    → at ≡ position_or_len (has_number number) parts → at < length parts
    → set parts at after ≡ with_part number after parts
with-set number after [] at is below = absurd (omega (arith, below))
with-set number after (one ∷ parts) at is below =
    by_test (has_number number one) is
    (λ less. with-set number after parts (position_or_len (has_number number) parts) refl less)
  where
    next : {n : ℕ} → at ≡ 1 + n → at ≡ suc n
    next same = omega (arith, same)

    by_test : (test : Bool)
        → at ≡ cond (not test) (1 + position_or_len (has_number number) parts) 0
        → (position_or_len (has_number number) parts < length parts
        → set parts (position_or_len (has_number number) parts) after
        ≡ with_part number after parts)
        → set (one ∷ parts) at after
        ≡ cond test (after ∷ parts) (one ∷ with_part number after parts)
    by_test true here further = ap (λ (i : ℕ). set (one ∷ parts) i after) here
    by_test false here further =
        ap (λ (i : ℕ). set (one ∷ parts) i after)
        (next here)
        ∙ ap (λ (rest : List PartNow). one ∷ rest) (further (omega (arith, below, here)))

-- the part at the place is the one that is found
pub found-at : (number : ℕ) (parts : List PartNow) (at : ℕ) (d : PartNow)
    → at ≡ position_or_len (has_number number) parts → at < length parts
    → part_among parts number ≡ Some (get_or parts at d)
found-at number parts at d is below =
    find_at (has_number number) parts
    ∙ ap (slice_get parts) (sym is)
    ∙ slice_get-get_or parts at d below

-- where no place has the number there is no such part
pub none-found : (number : ℕ) (parts : List PartNow)
    → length parts ≤ position_or_len (has_number number) parts → part_among parts number ≡ None
none-found number [] past = refl
none-found number (one ∷ parts) past =
    by_test (has_number number one) past (λ past. none-found number parts past)
  where
    by_test : (test : Bool)
        → length (one ∷ parts) ≤ cond (not test) (1 + position_or_len (has_number number) parts) 0
        → (length parts ≤ position_or_len (has_number number) parts
        → part_among parts number ≡ None)
        → cond test (Some one) (part_among parts number) ≡ None
    by_test true past further = absurd (omega (arith, past))
    by_test false past further = further (omega (arith, past))

-- ---- what holds of each

module _ (P Q : PartNow → Type 0) (number : ℕ) (after : PartNow)
    (other : (part : PartNow) → part.number.0 ≢ number → P part → Q part) (mine : Q after) where
  all-others : (parts : List PartNow)
      → AllByRecursion (λ n. nat_eq number n ≡ false) (map number_of parts) → All P parts
      → All Q parts
  all-others [] apart all = All-nil Q
  all-others (one ∷ parts) apart all =
      All-cons Q one parts
      (other one (λ same. true≢false (sym (is-same one same) ∙ apart.0)) (All-head P one parts all))
      (all-others parts apart.1 (All-tail P one parts all))
    where
      is-same : (one : PartNow) → one.number.0 ≡ number → nat_eq number one.number.0 ≡ true
      is-same one same = (Decides-eqb number one.number.0).1 (sym same)

  pub all-with : (parts : List PartNow) → IsDistinct nat_eq (map number_of parts) → All P parts
      → All Q (with_part number after parts)
  unfolding IsDistinct
  all-with [] distinct all = All-nil Q
  all-with (one ∷ parts) distinct all =
      by_test (has_number number one) refl
      (all-with parts distinct.1 (All-tail P one parts all))
    where
      by_test : (test : Bool) → has_number number one ≡ test → All Q (with_part number after parts)
          → All Q (cond test (after ∷ parts) (one ∷ with_part number after parts))
      by_test true here further = All-cons Q after parts mine
          (all-others parts
          (subst (λ (n : ℕ). AllByRecursion (λ m. nat_eq n m ≡ false) (map number_of parts))
          ((Decides-eqb one.number.0 number).0 here) distinct.0) (All-tail P one parts all))
      by_test false here further = All-cons Q one (with_part number after parts)
          (other one (other-number number one here) (All-head P one parts all)) further

-- ---- what the list has

some-same : {X : Type 0} {x y : X} → Some x ≡ Some y → x ≡ y
some-same same = cc

pub map-with : {X : Type 0} (f : PartNow → X) (number : ℕ) (before after : PartNow)
    → f after ≡ f before → (parts : List PartNow) → part_among parts number ≡ Some before
    → map f (with_part number after parts) ≡ map f parts
map-with f number before after same [] is = refl
map-with {X = X} f number before after same (one ∷ parts) is =
    by_test (has_number number one) is (λ found. map-with f number before after same parts found)
  where
    by_test : (test : Bool) → cond test (Some one) (part_among parts number) ≡ Some before
        → (part_among parts number ≡ Some before
        → map f (with_part number after parts) ≡ map f parts)
        → map f (cond test (after ∷ parts) (one ∷ with_part number after parts))
        ≡ f one ∷ map f parts
    by_test true found further =
        ap (λ (x : X). x ∷ map f parts) (same ∙ sym (ap f (some-same found)))
    by_test false found further = ap (λ (rest : List X). f one ∷ rest) (further found)

-- the part of the number is the new one,
pub among-with : (number : ℕ) (before after : PartNow) → after.number.0 ≡ number
    → (parts : List PartNow) → part_among parts number ≡ Some before
    → part_among (with_part number after parts) number ≡ Some after
among-with number before after same [] is = absurd cc
among-with number before after same (one ∷ parts) is =
    by_test (has_number number one) refl is
    (λ found. among-with number before after same parts found)
  where
    by_test : (test : Bool) → has_number number one ≡ test
        → cond test (Some one) (part_among parts number) ≡ Some before
        → (part_among parts number ≡ Some before
        → part_among (with_part number after parts) number ≡ Some after)
        → part_among (cond test (after ∷ parts) (one ∷ with_part number after parts)) number
        ≡ Some after
    by_test true here found further = rw (has-number number after same)
    by_test false here found further = rw here (further found)

-- and each other stays
pub others-with : (number : ℕ) (after : PartNow) → after.number.0 ≡ number
    → (parts : List PartNow) → OthersStay number parts (with_part number after parts)
others-with number after same [] other apart = refl
others-with number after same (one ∷ parts) other apart =
    by_test (has_number number one) refl (others-with number after same parts other apart)
  where
    none : (part : PartNow) → part.number.0 ≡ number → has_number other part ≡ false
    none part is = not-number other part (λ there. apart (sym there ∙ is))

    by_test : (test : Bool) → has_number number one ≡ test
        → part_among (with_part number after parts) other ≡ part_among parts other
        → part_among (cond test (after ∷ parts) (one ∷ with_part number after parts)) other
        ≡ cond (has_number other one) (Some one) (part_among parts other)
    by_test true here further =
        ap (λ (test : Bool). cond test (Some after) (part_among parts other)) (none after same)
        ∙ sym (ap (λ (test : Bool). cond test (Some one) (part_among parts other))
        (none one ((Decides-eqb one.number.0 number).0 here)))
    by_test false here further =
        ap (λ (found : Option PartNow). cond (has_number other one) (Some one) found) further

-- ---- shapes

-- a part is found among parts that have the same numbers
module _ (f : PartNow → PartNow) (numbers : (part : PartNow) → (f part).number.0 ≡ part.number.0)
  where
    among-map : (parts : List PartNow) (number : ℕ)
        → part_among (map f parts) number ≡ option_map f (part_among parts number)
    among-map [] number = refl
    among-map (one ∷ parts) number =
        ap (λ (n : ℕ). cond (n == number) (Some (f one)) (part_among (map f parts) number))
        (numbers one)
        ∙ by_test (has_number number one) (among-map parts number)
      where
        by_test : (test : Bool) → part_among (map f parts) number
            ≡ option_map f (part_among parts number)
            → cond test (Some (f one)) (part_among (map f parts) number)
            ≡ option_map f (cond test (Some one) (part_among parts number))
        by_test true further = refl
        by_test false further = further

    pub among-same : (one other : List PartNow) → map f one ≡ map f other → (number : ℕ)
        → option_map f (part_among one number) ≡ option_map f (part_among other number)
    among-same one other same number =
        sym (among-map one number)
        ∙ ap (λ (parts : List PartNow). part_among parts number) same
        ∙ among-map other number

shape-but : (found : Option PartNow) → option_map (λ (part : PartNow). part.shape) found
    ≡ option_map (λ (part : PartNow). part.shape) (option_map but_split found)
shape-but None = refl
shape-but (Some part) = refl

-- parts that are the same but for their splits have their shapes
pub shapes-same : (one other : List PartNow) → map but_split one ≡ map but_split other
    → (number : ℕ) → shape_among one number ≡ shape_among other number
shapes-same one other same number =
    shape-but (part_among one number)
    ∙ ap (option_map (λ (part : PartNow). part.shape))
    (among-same but_split (λ part. refl) one other same number)
    ∙ sym (shape-but (part_among other number))

-- and so have those that are the same but for what they met
pub split-met : (one other : List PartNow) → map but_met one ≡ map but_met other
    → map but_split one ≡ map but_split other
split-met one other same =
    sym (twice one) ∙ ap (map but_split) same ∙ twice other
  where
    twice : (parts : List PartNow) → map but_split (map but_met parts) ≡ map but_split parts
    twice [] = refl
    twice (part ∷ parts) = ap (λ (rest : List PartNow). but_split part ∷ rest) (twice parts)
