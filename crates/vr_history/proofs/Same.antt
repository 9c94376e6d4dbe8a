-- The tests of units and names decide whether they are the same.
use Rattle.std.proofs.Common.{◌≡◌, ℕ, Bool, true, false, ◌==◌, ◌&&◌, List, bytes_eq, eq-eqb, refl}
use Rattle.std.proofs.Common.{ap, ◌∙◌, arith}
use Rattle.std.proofs.lemmas.Bool.{false≢true}
use Rattle.std.proofs.lemmas.Bool.Decides.{nat_tests}
use Rattle.std.proofs.lemmas.Slice.Eq.{bytes_eq-Decides}
use Rattle.vr_types.specs.LockName.{lock_name_eq}
use Rattle.vr_types.specs.Locks.{same_unit}
use Rattle.vr_types.specs.declared.lock_name.LockName.{LockName}
use Rattle.vr_types.specs.declared.lock_name.LockName.TheVariants.{Record, Unique}
use Rattle.vr_types.specs.declared.unit.PartNo.{PartNo}
use Rattle.vr_types.specs.declared.unit.Unit.{Unit as UnitOfRecovery}

-- both tests of a conjunction hold
pub first_holds : (a b : Bool) → (a && b) ≡ true → a ≡ true
first_holds true b both = refl
first_holds false b both = both

pub second_holds : (a b : Bool) → (a && b) ≡ true → b ≡ true
second_holds true b both = both
second_holds false b both = absurd (false≢true both)

pub nat_same : (m n : ℕ) → (m == n) ≡ true → m ≡ n
nat_same m n same = grind (arith, nat_tests, same)

two_of : {A B C : Type 0} (f : A → B → C) (a a' : A) (b b' : B) → a ≡ a' → b ≡ b' → f a b ≡ f a' b'
two_of f a a' b b' first second = ap (λ x. f x b) first ∙ ap (λ y. f a' y) second

-- units of one deck and one number are the same
pub unit_same : (unit other : UnitOfRecovery) → same_unit unit other ≡ true → unit ≡ other
unit_same unit other same = two_of unit_from unit.deck other.deck unit.number other.number
    (nat_same unit.deck other.deck (first_holds _ _ same))
    (nat_same unit.number other.number (second_holds (unit.deck == other.deck) _ same))
  where
    unit_from : ℕ → ℕ → UnitOfRecovery
    unit_from deck number = record { deck = deck; number = number }

pub unit_self : (unit : UnitOfRecovery) → same_unit unit unit ≡ true
unit_self unit =
    ap (λ (same : Bool). same && unit.number == unit.number) (eq-eqb unit.deck unit.deck refl)
    ∙ eq-eqb unit.number unit.number refl

-- names of one kind, part and place are the same
bytes_same : (xs ys : List ℕ) → bytes_eq xs ys ≡ true → xs ≡ ys
bytes_same xs ys same = (bytes_eq-Decides xs ys).0 same

bytes_self : (xs : List ℕ) → bytes_eq xs xs ≡ true
bytes_self xs = (bytes_eq-Decides xs xs).1 refl

part_same : (part other : PartNo) → part.0 ≡ other.0 → part ≡ other
part_same part other same = ap (λ (n : ℕ). let made : PartNo = record { 0 = n } in made) same

pub name_same : (name other : LockName) → lock_name_eq name other ≡ true → name ≡ other
name_same (Record part place) (Record other other_place) same =
    two_of Record part other place other_place
    (part_same part other (nat_same part.0 other.0 (first_holds _ _ same)))
    (bytes_same place other_place (second_holds (part.0 == other.0) _ same))
name_same (Unique part key) (Unique other other_key) same = two_of Unique part other key other_key
    (part_same part other (nat_same part.0 other.0 (first_holds _ _ same)))
    (bytes_same key other_key (second_holds (part.0 == other.0) _ same))
name_same (Record part place) (Unique other key) same = absurd (false≢true same)
name_same (Unique part key) (Record other place) same = absurd (false≢true same)

pub name_self : (name : LockName) → lock_name_eq name name ≡ true
name_self (Record part place) =
    ap (λ (same : Bool). same && bytes_eq place place) (eq-eqb part.0 part.0 refl)
    ∙ bytes_self place
name_self (Unique part key) =
    ap (λ (same : Bool). same && bytes_eq key key) (eq-eqb part.0 part.0 refl) ∙ bytes_self key
