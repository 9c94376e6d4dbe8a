-- The intervals that were met, as another is.
use Rattle.std.proofs.Common.{◌≡◌, ◌<◌, ◌≤◌, ◌+◌, ◌-◌, ℕ, zero, suc, Bool, List, [], ◌∷◌}
use Rattle.std.proofs.Common.{All, get_or, length, map, refl, set, sym, ap, ◌∙◌, arith, min, max}
use Rattle.std.proofs.Common.{subst, take}
use Rattle.std.proofs.Common.{get_or-set_same, get_or-set_other, length-set, inl, inr, ⊎_elim}
use Rattle.std.specs.Prelude.{◌⊎◌, Contains, IsTrue}
use Rattle.std.proofs.lemmas.Bool.{cases_eq}
use Rattle.std.proofs.lemmas.List.{get_or-map, get_or-take, get_or_default, length-take, map-set}
use Rattle.std.proofs.lemmas.List.{length-map, set-get_or, set-set}
use Rattle.std.proofs.lemmas.List.Elements.{All-contains, All-contains_itself, All-weaker}
use Rattle.std.proofs.lemmas.List.Elements.{Contains-append_right}
use Rattle.vr_types.specs.Image.{Image}
use Rattle.vr_space.specs.Keyed.{Keyed}
use Rattle.vr_space.specs.Met.{Met}
use Rattle.vr_keyed.specs.declared.slot.Slot.{Slot}
use Rattle.vr_keyed.specs.declared.slots.Slots.{Slots}
use Rattle.vr_keyed.specs.Slots.{HasMetPlace, IsFirst, IsInside, IsMetAt, IsNewlyMet, KeepsAll}
use Rattle.vr_keyed.specs.Slots.{KeepsPlaces, LeavesMet, MeetsAt, met_in, met_places, mets}
use Rattle.vr_keyed.specs.Slots.{most_kept}

-- ---- the places of what was met

-- a place that was met is that of an interval,
pub place-of : (met : List Met) (place : List ℕ) → HasMetPlace met place
    → (one : Met) × Contains met one × (one.place ≡ place)
place-of [] place has = absurd (omega (arith, has.1))
place-of (one ∷ met) place (zero, within, is) = (one, (0, omega arith, refl), is)
place-of (one ∷ met) place (suc k, within, is) =
    let more : (other : Met) × Contains met other × (other.place ≡ place) =
    place-of met place (k, omega (arith, within), is) in
    (more.0, Contains-append_right (one ∷ []) met more.0 more.1, more.2)

-- and that of each interval was met.
pub has-place : (met : List Met) (one : Met) → Contains met one → HasMetPlace met one.place
has-place [] one has = absurd (omega (arith, has.1))
has-place (first ∷ met) one (zero, within, is) =
    (0, omega arith, ap (λ (met : Met). met.place) is)
has-place (first ∷ met) one (suc k, within, is) =
    Contains-append_right (first.place ∷ []) (met_places met) one.place
    (has-place met one (k, omega (arith, within), is))

-- So where each interval that was met still is, each place is.
pub places-kept : (old new : List Met) → KeepsAll old new → KeepsPlaces old new
places-kept old new kept place has =
    let one : (met : Met) × Contains old met × (met.place ≡ place) = place-of old place has in
    subst (HasMetPlace new) one.2 (has-place new one.0 (kept one.0 one.1))

-- what is so of each that is kept is so of what is among them
pub all-among : (P : Met → Type 0) (old new : List Met) → KeepsAll new old → All P old → All P new
all-among P old new among all =
    All-weaker (Contains new) P (λ one has. All-contains P old one all (among one has)) new
    (All-contains_itself new)

-- ---- the first of a list

-- this is one of the first n of the list, and it stands there
record IsAt (n k : ℕ) (xs : List Met) (one : Met) : Type 0 where
  below : k < n
  within : k < length xs
  is : get_or xs k one ≡ one

at-first : (n k : ℕ) (xs : List Met) (one : Met) → IsAt n k xs one → Contains (take n xs) one
at-first n k xs one at = (
  k,
  omega (arith, length-take n xs, at.below, at.within),
  get_or-take n xs k one at.below ∙ at.is,
)

from-first : (n : ℕ) (xs : List Met) (one : Met) → Contains (take n xs) one
    → (k : ℕ) × IsAt n k xs one
from-first n xs one has =
    let below : has.0 < n = omega (arith, length-take n xs, has.1) in (
      has.0,
      record {
        below = below;
        within = omega (arith, length-take n xs, has.1);
        is = sym (get_or-take n xs has.0 one below) ∙ has.2;
      },
    )

-- ---- two change places

module _ (a : Met) (xs : List Met) (n i : ℕ) (there : i < length xs) (some : i + 1 < n) where
  abbrev turned : List Met
  turned = get_or xs i a ∷ set xs i a

  turned-at : (k : ℕ) (one : Met) → IsAt n k (a ∷ xs) one → Contains (take n turned) one
  turned-at zero one at =
      at-first n (suc i) turned one
      (record {
        below = omega (arith, some);
        within = omega (arith, length-set xs i a, there);
        is = get_or-set_same xs i a one there ∙ at.is;
      })
  turned-at (suc k) one at = ⊎_elim same other (cases_eq k i)
    where
      same : k ≡ i → Contains (take n turned) one
      same is = at-first n 0 turned one
          (record {
            below = omega (arith, some);
            within = omega arith;
            is = get_or_default xs i a one there ∙ ap (λ (m : ℕ). get_or xs m one) (sym is)
                ∙ at.is;
          })

      other : (k ≡ i → ⊥) → Contains (take n turned) one
      other apart = at-first n (suc k) turned one
          (record {
            below = at.below;
            within = omega (arith, length-set xs i a, at.within);
            is = get_or-set_other xs i k a one apart ∙ at.is;
          })

  turned-has : KeepsAll (take n (a ∷ xs)) (take n turned)
  turned-has one has =
      let at : (k : ℕ) × IsAt n k (a ∷ xs) one = from-first n (a ∷ xs) one has in
      turned-at at.0 one at.1

-- turned once more they are as they were
turned-had : (a : Met) (xs : List Met) (n i : ℕ) → i < length xs → i + 1 < n
    → KeepsAll (take n (get_or xs i a ∷ set xs i a)) (take n (a ∷ xs))
turned-had a xs n i there some =
    let b : Met = get_or xs i a in
    let first : get_or (set xs i a) i b ≡ a = get_or-set_same xs i a b there in
    let rest : set (set xs i a) i b ≡ xs = set-set xs i a b ∙ set-get_or xs i a in
    subst (λ (ys : List Met). KeepsAll (take n (b ∷ set xs i a)) (take n (a ∷ ys))) rest
    (subst (λ (one : Met). KeepsAll (take n (b ∷ set xs i a))
    (take n (one ∷ set (set xs i a) i b))) first
    (turned-has b (set xs i a) n i (omega (arith, length-set xs i a, there)) some))

-- ---- a new one

module _ (a : Met) (xs : List Met) (n m i : ℕ) (least : m ≡ min n (length xs))
    (next : i ≡ max m 1 - 1) (some : 0 < length xs) where
  -- It takes the place of none, where there is one that has nothing yet,
  new-at : (new : Met) → n ≤ length xs → (k : ℕ) (one : Met) → IsAt n k (a ∷ xs) one
      → Contains (take (m + 1) (new ∷ set xs i a)) one
  new-at new few zero one at =
      let there : i < length xs = omega (arith, next, least, some) in
      at-first (m + 1) (suc i) (new ∷ set xs i a) one
      (record {
        below = omega (arith, next, least, few, at.below);
        within = omega (arith, length-set xs i a, there);
        is = get_or-set_same xs i a one there ∙ at.is;
      })
  new-at new few (suc k) one at =
      let apart : k ≡ i → ⊥ = λ same. omega (arith, same, next, least, few, at.below) in
      at-first (m + 1) (suc k) (new ∷ set xs i a) one
      (record {
        below = omega (arith, least, few, at.below);
        within = omega (arith, length-set xs i a, at.within);
        is = get_or-set_other xs i k a one apart ∙ at.is;
      })

  pub new-has : (new : Met) → n ≤ length xs
      → KeepsAll (take n (a ∷ xs)) (take (m + 1) (new ∷ set xs i a))
  new-has new few one has =
      let at : (k : ℕ) × IsAt n k (a ∷ xs) one = from-first n (a ∷ xs) one has in
      new-at new few at.0 one at.1

  -- and each of the others was met before.
  old-at : (new : Met) (k : ℕ) (one : Met) → IsAt (m + 1) k (new ∷ set xs i a) one
      → Contains (take n (a ∷ xs)) one ⊎ (new ≡ one)
  old-at new zero one at = inr at.is
  old-at new (suc k) one at = ⊎_elim same other (cases_eq k i)
    where
      there : i < length xs
      there = omega (arith, next, least, some)

      same : k ≡ i → Contains (take n (a ∷ xs)) one ⊎ (new ≡ one)
      same is = inl (at-first n 0 (a ∷ xs) one
          (record {
            below = omega (arith, least, at.below);
            within = omega arith;
            is = sym (get_or-set_same xs i a one there)
                ∙ ap (λ (j : ℕ). get_or (set xs i a) j one) (sym is) ∙ at.is;
          }))

      other : (k ≡ i → ⊥) → Contains (take n (a ∷ xs)) one ⊎ (new ≡ one)
      other apart = inl (at-first n (suc k) (a ∷ xs) one
          (record {
            below = omega (arith, least, next, apart, at.below);
            within = omega (arith, length-set xs i a, at.within);
            is = sym (get_or-set_other xs i k a one apart) ∙ at.is;
          }))

  pub new-had : (new one : Met) → Contains (take (m + 1) (new ∷ set xs i a)) one
      → Contains (take n (a ∷ xs)) one ⊎ (new ≡ one)
  new-had new one has =
      let at : (k : ℕ) × IsAt (m + 1) k (new ∷ set xs i a) one =
      from-first (m + 1) (new ∷ set xs i a) one has in
      old-at new at.0 one at.1

  -- Where it fails those before it are left.
  left-at : (new : Met) (k : ℕ) (one : Met) → IsAt m k (a ∷ set xs i new) one
      → Contains (take n (a ∷ xs)) one
  left-at new zero one at = at-first n 0 (a ∷ xs) one
      (record { below = omega (arith, least, at.below); within = omega arith; is = at.is })
  left-at new (suc k) one at =
      let apart : k ≡ i → ⊥ = λ same. omega (arith, same, next, at.below) in
      at-first n (suc k) (a ∷ xs) one
      (record {
        below = omega (arith, least, at.below);
        within = omega (arith, length-set xs i new, at.within);
        is = sym (get_or-set_other xs i k new one apart) ∙ at.is;
      })

  pub left-had : (new : Met) → KeepsAll (take m (a ∷ set xs i new)) (take n (a ∷ xs))
  left-had new one has =
      let at : (k : ℕ) × IsAt m k (a ∷ set xs i new) one =
      from-first m (a ∷ set xs i new) one has in
      left-at new at.0 one at.1

-- ---- the slots

abbrev others : Slots → List Met
others slots = map met_in slots.more.items

-- how many were met
pub many-met : (slots : Slots) → length (mets slots) ≡ slots.filled
many-met slots = omega (
  arith,
  length-take slots.filled (met_in slots.first ∷ others slots),
  length-map slots.more.items met_in,
  slots.few,
)

-- the first is among them
pub first-among : (slots : Slots) → 0 < slots.filled → Contains (mets slots) (met_in slots.first)
first-among slots some = at-first slots.filled 0 (met_in slots.first ∷ others slots)
    (met_in slots.first) (record { below = some; within = omega arith; is = refl })

-- Another slot and the first have changed places.
pub record Brought (i : ℕ) (old new : Slots) : Type 0 where
  pub there : i < length old.more.items
  pub first : new.first ≡ get_or old.more.items i old.first
  pub more : new.more.items ≡ set old.more.items i old.first
  pub filled : new.filled ≡ old.filled

brought : (i : ℕ) (old new : Slots) → Brought i old new
    → mets new
    ≡ take old.filled (get_or (others old) i (met_in old.first)
    ∷ set (others old) i (met_in old.first))
brought i old new is =
    ap (λ (n : ℕ). take n (met_in new.first ∷ others new)) is.filled
    ∙ ap (λ (s : Slot). take old.filled (met_in s ∷ others new)) is.first
    ∙ ap (λ (met : Met). take old.filled (met ∷ others new))
    (sym (get_or-map met_in old.more.items i old.first (met_in old.first) is.there))
    ∙ ap (λ (slots : List Slot).
    take old.filled (get_or (others old) i (met_in old.first) ∷ map met_in slots)) is.more
    ∙ ap (λ (met : List Met).
    take old.filled (get_or (others old) i (met_in old.first) ∷ met))
    (map-set met_in old.more.items i old.first)

module _ (i : ℕ) (old new : Slots) (is : Brought i old new) (some : i + 1 < old.filled) where
  within : i < length (others old)
  within = omega (arith, is.there, length-map old.more.items met_in)

  pub brought-has : KeepsAll (mets old) (mets new)
  brought-has = subst (KeepsAll (mets old)) (sym (brought i old new is))
      (turned-has (met_in old.first) (others old) old.filled i within some)

  pub brought-had : KeepsAll (mets new) (mets old)
  brought-had = subst (λ (met : List Met). KeepsAll met (mets old)) (sym (brought i old new is))
      (turned-had (met_in old.first) (others old) old.filled i within some)

-- a place that neither the first has nor another that is filled was not met
pub none-met : (slots : Slots) (place : List ℕ) → (IsFirst place slots → ⊥)
    → ((i : ℕ) → i < length slots.more.items → i + 1 < slots.filled
    → (get_or slots.more.items i slots.first).place.place ≡ place → ⊥)
    → HasMetPlace (mets slots) place → ⊥
none-met slots place first other has =
    let one : (met : Met) × Contains (mets slots) met × (met.place ≡ place) =
    place-of (mets slots) place has in
    let at : (k : ℕ) × IsAt slots.filled k (met_in slots.first ∷ others slots) one.0 =
    from-first slots.filled (met_in slots.first ∷ others slots) one.0 one.1 in
    by at.0 one.0 at.1 one.2
  where
    by : (k : ℕ) (one : Met) → IsAt slots.filled k (met_in slots.first ∷ others slots) one
        → one.place ≡ place → ⊥
    by zero one at here = first (record {
      some = at.below;
      here = ap (λ (met : Met). met.place) at.is ∙ here;
    })
    by (suc k) one at here =
        let there : k < length slots.more.items =
        omega (arith, at.within, length-map slots.more.items met_in) in
        other k there (omega (arith, at.below))
        (ap (λ (met : Met). met.place)
        (sym (get_or-map met_in slots.more.items k slots.first one there) ∙ at.is) ∙ here)

-- ---- what a call that meets an interval leaves

-- what is so of all that were met, and of the interval that is met now, is so of all that are left
pub leaves-all : (P : Met → Type 0) (part : Keyed) (tells : Bool) (image : Image) (place : List ℕ)
    (old new : List Met) → LeavesMet part tells image place old new
    → ((met : Met) → IsNewlyMet part tells image place met → P met) → All P old → All P new
leaves-all P part tells image place old new leaves newly all =
    All-weaker (λ (one : Met). Contains old one ⊎ IsNewlyMet part tells image place one) P
    (λ one. ⊎_elim (λ has. All-contains P old one all has) (newly one)) new leaves

-- where all were met before
pub leaves-among : (part : Keyed) (tells : Bool) (image : Image) (place : List ℕ)
    (old new : List Met) → KeepsAll new old → LeavesMet part tells image place old new
leaves-among part tells image place old new among =
    All-weaker (Contains new)
    (λ (one : Met). Contains old one ⊎ IsNewlyMet part tells image place one)
    (λ one has. inl (among one has)) new (All-contains_itself new)

-- A place that was met is met again: nothing is forgotten.
pub recalled : (part : Keyed) (tells : Bool) (image : Image) (place : List ℕ) (old new : Slots)
    → IsFirst place new → KeepsAll (mets old) (mets new) → KeepsAll (mets new) (mets old)
    → new.filled ≡ old.filled → most_kept new ≡ most_kept old
    → All (IsInside part place) (mets old)
    → (IsTrue tells → All (IsMetAt part image place) (mets old))
    → MeetsAt part tells image place old new
recalled part tells image place old new first kept among filled most inside met =
    let one : Met = met_in new.first in
    let has : Contains (mets old) one = among one (first-among new first.some) in
    record {
      first = first;
      newly = record {
        place_is = first.here;
        inside = All-contains (IsInside part place) (mets old) one inside has first.here;
        is_met = λ told. All-contains (IsMetAt part image place) (mets old) one (met told) has
            first.here;
      };
      meets = record {
        here = subst (HasMetPlace (mets new)) first.here
            (has-place (mets new) one (first-among new first.some));
        many = omega (arith, many-met new, many-met old, filled);
        known = λ has. kept;
        kept = λ fewer. kept;
        most = most;
      };
    }

-- A place is met anew, in a slot that was filled and changed places with the first.
module _ (part : Keyed) (tells : Bool) (image : Image) (place : List ℕ) (old : Slots)
    (m i : ℕ) (slot : Slot) (least : m ≡ min old.filled (length old.more.items))
    (next : i ≡ max m 1 - 1) (newly : IsNewlyMet part tells image place (met_in slot))
    (first : Slot) (more : List Slot) (filled : ℕ)
    (first_is : first ≡ get_or (set old.more.items i slot) i old.first)
    (more_is : more ≡ set (set old.more.items i slot) i old.first) (filled_is : filled ≡ m + 1)
  where
    there : i < length old.more.items
    there = omega (arith, least, next, old.some)

    is-slot : first ≡ slot
    is-slot = first_is ∙ get_or-set_same old.more.items i slot old.first there

    many-others : length (others old) ≡ length old.more.items
    many-others = length-map old.more.items met_in

    min-others : m ≡ min old.filled (length (others old))
    min-others = least ∙ ap (λ (n : ℕ). min old.filled n) (sym many-others)

    some-others : 0 < length (others old)
    some-others = omega (arith, many-others, old.some)

    abbrev read-in : List Met
    read-in = take (m + 1) (met_in slot ∷ set (others old) i (met_in old.first))

    mets-read : take filled (met_in first ∷ map met_in more) ≡ read-in
    mets-read =
        ap (λ (n : ℕ). take n (met_in first ∷ map met_in more)) filled_is
        ∙ ap (λ (s : Slot). take (m + 1) (met_in s ∷ map met_in more)) is-slot
        ∙ ap (λ (slots : List Slot). take (m + 1) (met_in slot ∷ map met_in slots))
        (more_is ∙ set-set old.more.items i slot old.first)
        ∙ ap (λ (met : List Met). take (m + 1) (met_in slot ∷ met))
        (map-set met_in old.more.items i old.first)

    read-kept : length (mets old) < most_kept old
        → KeepsAll (mets old) (take filled (met_in first ∷ map met_in more))
    read-kept fewer = subst (KeepsAll (mets old)) (sym mets-read)
        (new-has (met_in old.first) (others old) old.filled m i min-others next some-others
        (met_in slot) (omega (arith, fewer, many-met old, many-others)))

    pub read-leaves : LeavesMet part tells image place (mets old)
        (take filled (met_in first ∷ map met_in more))
    read-leaves = subst (LeavesMet part tells image place (mets old)) (sym mets-read)
        (All-weaker (Contains read-in)
        (λ (one : Met). Contains (mets old) one ⊎ IsNewlyMet part tells image place one)
        (λ one has. ⊎_elim (λ was. inl was)
        (λ same. inr (subst (IsNewlyMet part tells image place) same newly))
        (new-had (met_in old.first) (others old) old.filled m i min-others next some-others
        (met_in slot) one has))
        read-in (All-contains_itself read-in))

    read-most : length more + 1 ≡ most_kept old
    read-most = omega (
      arith,
      ap (λ (slots : List Slot). length slots) more_is,
      length-set (set old.more.items i slot) i old.first,
      length-set old.more.items i slot,
    )

    read-first : first.place.place ≡ place
    read-first = ap (λ (s : Slot). s.place.place) is-slot ∙ newly.place_is

    read-newly : IsNewlyMet part tells image place (met_in first)
    read-newly =
        subst (λ (s : Slot). IsNewlyMet part tells image place (met_in s)) (sym is-slot) newly

pub read-meets : (part : Keyed) (tells : Bool) (image : Image) (place : List ℕ) (old new : Slots)
    (m i : ℕ) (slot : Slot) → m ≡ min old.filled (length old.more.items) → i ≡ max m 1 - 1
    → IsNewlyMet part tells image place (met_in slot)
    → new.first ≡ get_or (set old.more.items i slot) i old.first
    → new.more.items ≡ set (set old.more.items i slot) i old.first → new.filled ≡ m + 1
    → (HasMetPlace (mets old) place → ⊥) → MeetsAt part tells image place old new
read-meets part tells image place old new m i slot least next newly first more filled none =
    let here : IsFirst place new = record {
      some = omega (arith, filled);
      here = read-first part tells image place old m i slot least next newly new.first
          new.more.items new.filled first more filled;
    } in
    record {
      first = here;
      newly = read-newly part tells image place old m i slot least next newly new.first
          new.more.items new.filled first more filled;
      meets = record {
        here = subst (HasMetPlace (mets new)) here.here
            (has-place (mets new) (met_in new.first) (first-among new here.some));
        many = omega (arith, many-met new, many-met old, filled, least);
        known = λ has. absurd (none has);
        kept = read-kept part tells image place old m i slot least next newly new.first
            new.more.items new.filled first more filled;
        most = read-most part tells image place old m i slot least next newly new.first
            new.more.items new.filled first more filled;
      };
    }

-- where it fails, those before the slot are left
pub failed-leaves : (part : Keyed) (tells : Bool) (image : Image) (place : List ℕ) (old : Slots)
    (m i : ℕ) (slot : Slot) → m ≡ min old.filled (length old.more.items) → i ≡ max m 1 - 1
    → LeavesMet part tells image place (mets old)
    (take m (met_in old.first ∷ map met_in (set old.more.items i slot)))
failed-leaves part tells image place old m i slot least next =
    let many : length (others old) ≡ length old.more.items = length-map old.more.items met_in in
    let left : take m (met_in old.first ∷ map met_in (set old.more.items i slot))
    ≡ take m (met_in old.first ∷ set (others old) i (met_in slot)) =
    ap (λ (met : List Met). take m (met_in old.first ∷ met))
    (map-set met_in old.more.items i slot) in
    leaves-among part tells image place (mets old)
    (take m (met_in old.first ∷ map met_in (set old.more.items i slot)))
    (subst (λ (met : List Met). KeepsAll met (mets old)) (sym left)
    (left-had (met_in old.first) (others old) old.filled m i
    (least ∙ ap (λ (n : ℕ). min old.filled n) (sym many)) next
    (omega (arith, many, old.some)) (met_in slot)))
