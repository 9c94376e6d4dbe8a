-- What was met, once a block has other bytes.
use Rattle.std.proofs.Common.{◌≡◌, ◌<◌, ◌+◌, ℕ, Bool, true, false, List, [], ◌∷◌, ◌++◌, Option}
use Rattle.std.proofs.Common.{Some, None, take, All, refl, ap, ◌∙◌, arith, length, map, drop}
use Rattle.std.proofs.Common.{eqb-true, get_or, set, subst, sym}
use Rattle.std.specs.Prelude.{Contains, IfSome, cond, nat_eq}
use Rattle.std.proofs.lemmas.List.{get_or-map, length-map, map-set, take-map}
use Rattle.std.proofs.lemmas.List.Edits.{map_over_more}
use Rattle.std.proofs.lemmas.List.Elements.{All-head}
use Rattle.vr_types.specs.Image.{Block}
use Rattle.vr_space.specs.Keyed.{Keyed, IsHead}
use Rattle.vr_space.specs.Met.{Met}
use Rattle.vr_keyed.specs.Setting.{IsRecordHere}
use Rattle.vr_keyed.specs.declared.slot.Slot.{Slot}
use Rattle.vr_keyed.specs.Slots.{KeepsAll, KeepsPlaces, met_in, met_places}
use Rattle.vr_keyed.specs.Ready.{again, put_of, refreshed}
use Rattle.vr_keyed.proofs.Meeting.{places-kept}

-- What is kept of the first slots is refreshed, where each of all of them is.
pub take-refreshed : (k n : ℕ) (bytes : Block) (a one : Met) (xs ys : List Met)
    → one ≡ refreshed n bytes a → ys ≡ map (refreshed n bytes) xs
    → take k (one ∷ ys) ≡ map (refreshed n bytes) (take k (a ∷ xs))
take-refreshed k n bytes a one xs ys first rest =
    ap (λ (m : Met). take k (m ∷ ys)) first
    ∙ ap (λ (ms : List Met). take k (refreshed n bytes a ∷ ms)) rest
    ∙ take-map (refreshed n bytes) k (a ∷ xs)

-- one more of the slots is refreshed
pub refreshed-more : (n : ℕ) (bytes : Block) (slots now : List Slot) (i : ℕ) (any slot : Slot)
    → i < length now → length slots ≡ length now
    → met_in slot ≡ refreshed n bytes (met_in (get_or now i any))
    → map met_in now ≡ map (refreshed n bytes) (take i (map met_in slots))
    ++ drop i (map met_in slots)
    → map met_in (set now i slot)
    ≡ map (refreshed n bytes) (take (i + 1) (map met_in slots)) ++ drop (i + 1) (map met_in slots)
refreshed-more n bytes slots now i any slot there long is so_far =
    let one : Met = met_in (get_or now i any) in
    map-set met_in now i slot
    ∙ ap (λ (met : Met). set (map met_in now) i met) is
    ∙ map_over_more (refreshed n bytes) (map met_in slots) (map met_in now) i one
    (omega (arith, there, long, length-map slots met_in)) so_far
    (sym (get_or-map met_in now i any one there))

-- where nothing was put, nothing is another
pub again-none : (bytes : Block) (met : List Met) → map (again None bytes) met ≡ met
again-none bytes [] = refl
again-none bytes (one ∷ met) = ap (λ (rest : List Met). one ∷ rest) (again-none bytes met)

pub again-some : (n : ℕ) (bytes : Block) (met : List Met)
    → map (again (Some n) bytes) met ≡ map (refreshed n bytes) met
again-some n bytes [] = refl
again-some n bytes (one ∷ met) =
    ap (λ (rest : List Met). refreshed n bytes one ∷ rest) (again-some n bytes met)

-- the place and the block of an interval stay
pub again-place : (put : Option ℕ) (bytes : Block) (one : Met)
    → (again put bytes one).place ≡ one.place
again-place None bytes one = refl
again-place (Some n) bytes one = refl

pub again-number : (put : Option ℕ) (bytes : Block) (one : Met)
    → (again put bytes one).number ≡ one.number
again-number None bytes one = refl
again-number (Some n) bytes one = refl

-- so each place that is met stays met
pub places-again : (put : Option ℕ) (bytes : Block) (old mid : List Met) → KeepsAll old mid
    → KeepsPlaces old (map (again put bytes) mid)
places-again put bytes old mid kept place has =
    subst (λ (places : List (List ℕ)). Contains places place) (sym (same mid))
    (places-kept old mid kept place has)
  where
    same : (met : List Met) → met_places (map (again put bytes) met) ≡ met_places met
    same [] = refl
    same (one ∷ met) =
        ap (λ (place : List ℕ). place ∷ met_places (map (again put bytes) met))
        (again-place put bytes one)
        ∙ ap (λ (places : List (List ℕ)). one.place ∷ places) (same met)

-- what was met of a block that wasn't put is as it was
pub again-elsewhere : (put : Option ℕ) (bytes : Block) (met : Met)
    → All (λ (n : ℕ). met.number ≡ n → ⊥) (put_of put) → again put bytes met ≡ met
again-elsewhere None bytes met apart = refl
again-elsewhere (Some n) bytes met apart =
    ap (λ (b : Bool). record {
      place = met.place;
      range = met.range;
      number = met.number;
      block = cond b bytes met.block;
    }) (other (nat_eq met.number n) refl)
  where
    other : (b : Bool) → nat_eq met.number n ≡ b → nat_eq met.number n ≡ false
    other true is =
        absurd (All-head (λ (m : ℕ). met.number ≡ m → ⊥) n [] apart (eqb-true met.number n is))
    other false is = is

-- a record that may stand at a place has a byte at least
pub some-given : (part : Keyed) (top : Block) (place : List ℕ) (item : Option (List ℕ))
    → IsHead part top → IfSome item (IsRecordHere part place)
    → IfSome item (λ (bytes : List ℕ). 0 < length bytes)
some-given part top place None head is = tt
some-given part top place (Some bytes) head is =
    omega (arith, is.0.least, head.key, head.spelled.rules.lengths.place)
