-- Legal histories that grow at their end.
use Rattle.std.proofs.Common.{◌≡◌, ℕ, ◌+◌, Bool, true, false, cond, not, ◌||◌, List, [], ◌∷◌, ◌++◌}
use Rattle.std.proofs.Common.{refl, sym, ap, ◌∙◌, ◌⊎◌, inl, inr, arith, ◌==◌}
use Rattle.std.proofs.lemmas.Bool.{true≢false}
use Rattle.std.proofs.lemmas.Bool.Decides.{nat_tests}
use Rattle.vr_types.specs.Locks.{same_unit}
use Rattle.vr_types.specs.declared.fault.DeviceFault.TheVariants.{Write}
use Rattle.vr_types.specs.declared.geometry.Geometry.{Geometry}
use Rattle.vr_types.specs.declared.request.Request.{Request}
use Rattle.vr_types.specs.declared.unit.Unit.{Unit as UnitOfRecovery}
use Rattle.vr_history.specs.declared.entry.Entry.{Entry}
use Rattle.vr_history.specs.declared.entry.What.{What}
use Rattle.vr_history.specs.declared.entry.What.TheVariants.{Asked, Undone, Claimed, Split, Faulted}
use Rattle.vr_history.specs.Legal.{BackOutOnceBegun, BacksOutAfter, IsLegal}
use Rattle.vr_history.specs.Legal.{StopAtWriteFaults, StopsAfter, asks_backout, backs_out}
use Rattle.vr_history.specs.Legal.{is_backout, is_fault_at, is_write_fault, state_of}
use Rattle.vr_history.specs.State.{State}
use Rattle.vr_history.specs.Step.{Step}
use Rattle.vr_history.proofs.CallerLemmas.{steps-append, unit_self}
use Rattle.vr_history.proofs.Same.{unit_same}
use Rattle.vr_record_file.specs.Now.{is_undoing, is_undoing_from, undoing_after}

-- ---- a write fault stops the volume at once

fault_at-append : (stamp : ℕ) (what : What) (entries tail : List Entry)
    → is_fault_at stamp what entries → is_fault_at stamp what (entries ++ tail)
fault_at-append stamp what [] tail is = absurd is
fault_at-append stamp what (entry ∷ entries) tail is = is

stops_after-append : (entry : Entry) (entries tail : List Entry) (what : What)
    → StopsAfter entry entries what → StopsAfter entry (entries ++ tail) what
stops_after-append entry entries tail (Asked request reply) stops = λ fault.
    fault_at-append (entry.stamp + 1) (Faulted Write) entries tail (stops fault)
stops_after-append entry entries tail (Undone part place) stops = stops
stops_after-append entry entries tail (Claimed part area) stops = stops
stops_after-append entry entries tail (Split part) stops = stops
stops_after-append entry entries tail (Faulted fault) stops = stops

pub stops-append : (entries tail : List Entry) → StopAtWriteFaults entries
    → StopAtWriteFaults tail → StopAtWriteFaults (entries ++ tail)
stops-append [] tail stops further = further
stops-append (entry ∷ entries) tail stops further = (
  stops_after-append entry entries tail entry.what stops.0,
  stops-append entries tail stops.1 further,
)

-- ---- a unit that has begun to undo backs out

-- a unit that undoes goes on so, until it asks for something
undoes_on : (unit : UnitOfRecovery) (entry : Entry) (what : What)
    → same_unit unit entry.unit ≡ false → undoing_after unit true entry what ≡ true
undoes_on unit entry (Asked request reply) other = ap not other
undoes_on unit entry (Undone part place) other = refl
undoes_on unit entry (Claimed part area) other = refl
undoes_on unit entry (Split part) other = refl
undoes_on unit entry (Faulted fault) other = refl

module _ (unit : UnitOfRecovery) (tail : List Entry) where
  -- what a unit that undoes asks for next
  abbrev Asks : List Entry → Type 0
  Asks rest = asks_backout unit rest ≡ true

  abbrev Further : Bool → List Entry → Type 0
  Further before rest = is_undoing_from unit before rest ≡ true → Asks tail

  by_what : (entry : Entry) (rest : List Entry) (what : What)
      → backs_out what (asks_backout unit rest) ≡ true
      → Further (undoing_after unit true entry what) rest
      → (Asks rest → Further true rest → Asks (rest ++ tail))
      → backs_out what (asks_backout unit (rest ++ tail)) ≡ true
  by_what entry rest (Asked request reply) asks further again = asks
  by_what entry rest (Undone part place) asks further again = again asks further
  by_what entry rest (Claimed part area) asks further again = again asks further
  by_what entry rest (Split part) asks further again = again asks further
  by_what entry rest (Faulted fault) asks further again = again asks further

  by_unit : (entry : Entry) (rest : List Entry) (same : Bool)
      → same_unit unit entry.unit ≡ same
      → cond same (backs_out entry.what (asks_backout unit rest)) (asks_backout unit rest) ≡ true
      → Further (undoing_after unit true entry entry.what) rest
      → (Asks rest → Further true rest → Asks (rest ++ tail))
      → cond same (backs_out entry.what (asks_backout unit (rest ++ tail)))
      (asks_backout unit (rest ++ tail)) ≡ true
  by_unit entry rest true is asks further again = by_what entry rest entry.what asks further again
  by_unit entry rest false is asks further again =
      again asks (λ undoing. further (ap (λ (b : Bool). is_undoing_from unit b rest)
      (undoes_on unit entry entry.what is) ∙ undoing))

  -- what the unit asks for next it has asked for already, or asks for in the tail
  asks-append : (rest : List Entry) → Asks rest → Further true rest → Asks (rest ++ tail)
  asks-append [] asks further = further refl
  asks-append (entry ∷ rest) asks further =
      by_unit entry rest (same_unit unit entry.unit) refl asks further (asks-append rest)

-- where units are in undoing, at the start of a list of entries
abbrev Before : Type 0
Before = UnitOfRecovery → Bool

abbrev GoesOn : Before → List Entry → List Entry → Type 0
GoesOn before entries tail = (unit : UnitOfRecovery)
    → is_undoing_from unit (before unit) entries ≡ true → asks_backout unit tail ≡ true

begun_now : (unit : UnitOfRecovery) (before : Bool) (entry : Entry) → unit ≡ entry.unit
    → (before || same_unit unit entry.unit) ≡ true
begun_now unit true entry is = refl
begun_now unit false entry is = ap (λ (u : UnitOfRecovery). same_unit unit u) (sym is)
    ∙ unit_self unit

backs_after-append : (before : Before) (entry : Entry) (rest tail : List Entry) (what : What)
    → BacksOutAfter entry rest what
    → GoesOn (λ unit. undoing_after unit (before unit) entry what) rest tail
    → BacksOutAfter entry (rest ++ tail) what
backs_after-append before entry rest tail (Undone part place) asks further =
    asks-append entry.unit tail rest asks (λ undoing. further entry.unit
    (ap (λ (b : Bool). is_undoing_from entry.unit b rest)
    (begun_now entry.unit (before entry.unit) entry refl) ∙ undoing))
backs_after-append before entry rest tail (Asked request reply) asks further = asks
backs_after-append before entry rest tail (Claimed part area) asks further = asks
backs_after-append before entry rest tail (Split part) asks further = asks
backs_after-append before entry rest tail (Faulted fault) asks further = asks

pub begun-append : (before : Before) (entries tail : List Entry) → BackOutOnceBegun entries
    → BackOutOnceBegun tail → GoesOn before entries tail → BackOutOnceBegun (entries ++ tail)
begun-append before [] tail begun further goes = further
begun-append before (entry ∷ entries) tail begun further goes = (
  backs_after-append before entry entries tail entry.what begun.0 goes,
  begun-append (λ unit. undoing_after unit (before unit) entry entry.what) entries tail begun.1
      further goes,
)

-- ---- entries that may come next

-- It is no request, or one of a unit that hasn't begun to undo, or a BACKOUT; and no unit of the
-- utilities undoes.
abbrev pub MayCome : List Entry → UnitOfRecovery → What → Type 0
MayCome entries unit (Asked request reply) =
    (is_undoing unit entries ≡ false) ⊎ (is_backout request ≡ true)
MayCome entries unit (Undone part place) = (unit.deck == 0) ≡ false
MayCome entries unit (Claimed part area) = Unit {0}
MayCome entries unit (Split part) = Unit {0}
MayCome entries unit (Faulted fault) = Unit {0}

pub if_true : (b : Bool) → cond b true true ≡ true
if_true true = refl
if_true false = refl

module _ (entries : List Entry) (entry : Entry) (rest : List Entry)
    (quiet : (unit : UnitOfRecovery) → asks_backout unit rest ≡ true) where
  asked_goes : (unit : UnitOfRecovery) (request : Request)
      → (is_undoing entry.unit entries ≡ false) ⊎ (is_backout request ≡ true)
      → is_undoing unit entries ≡ true → (same : Bool) → same_unit unit entry.unit ≡ same
      → cond same (is_backout request) (asks_backout unit rest) ≡ true
  asked_goes unit request may undoing false is = quiet unit
  asked_goes unit request (inr backout) undoing true is = backout
  asked_goes unit request (inl still) undoing true is =
      absurd (true≢false (sym undoing
      ∙ ap (λ (u : UnitOfRecovery). is_undoing u entries) (unit_same unit entry.unit is)
      ∙ still))

  quiet_if : (unit : UnitOfRecovery) (same : Bool)
      → cond same (asks_backout unit rest) (asks_backout unit rest) ≡ true
  quiet_if unit true = quiet unit
  quiet_if unit false = quiet unit

  what_goes : (unit : UnitOfRecovery) (what : What) → MayCome entries entry.unit what
      → is_undoing unit entries ≡ true
      → cond (same_unit unit entry.unit) (backs_out what (asks_backout unit rest))
      (asks_backout unit rest) ≡ true
  what_goes unit (Asked request reply) may undoing =
      asked_goes unit request may undoing (same_unit unit entry.unit) refl
  what_goes unit (Undone part place) may undoing = quiet_if unit (same_unit unit entry.unit)
  what_goes unit (Claimed part area) may undoing = quiet_if unit (same_unit unit entry.unit)
  what_goes unit (Split part) may undoing = quiet_if unit (same_unit unit entry.unit)
  what_goes unit (Faulted fault) may undoing = quiet_if unit (same_unit unit entry.unit)

  backs_quiet : (what : What) → BacksOutAfter entry rest what
  backs_quiet (Undone part place) = quiet entry.unit
  backs_quiet (Asked request reply) = tt
  backs_quiet (Claimed part area) = tt
  backs_quiet (Split part) = tt
  backs_quiet (Faulted fault) = tt

  pub begun_more : BackOutOnceBegun entries → BackOutOnceBegun rest
      → MayCome entries entry.unit entry.what → BackOutOnceBegun (entries ++ entry ∷ rest)
  begun_more begun further may =
      begun-append (λ unit. false) entries (entry ∷ rest) begun (
        backs_quiet entry.what,
        further,
      ) (λ unit undoing. what_goes unit entry.what may undoing)

-- ---- no unit of the utilities undoes

abbrev pub NoUtilityUndoes : List Entry → Type 0
NoUtilityUndoes entries =
    (unit : UnitOfRecovery) → unit.deck ≡ 0 → is_undoing unit entries ≡ false

-- where a unit is in undoing after one entry more
undoing-append : (unit : UnitOfRecovery) (before : Bool) (entries : List Entry) (entry : Entry)
    → is_undoing_from unit before (entries ++ entry ∷ [])
    ≡ undoing_after unit (is_undoing_from unit before entries) entry entry.what
undoing-append unit before [] entry = refl
undoing-append unit before (first ∷ entries) entry =
    undoing-append unit (undoing_after unit before first first.what) entries entry

-- a unit of the utilities is no unit of a deck
pub utility_other : (unit other : UnitOfRecovery) → unit.deck ≡ 0 → (other.deck == 0) ≡ false
    → same_unit unit other ≡ false
utility_other unit other utility deck = grind (arith, nat_tests, utility, deck)

quiet_after : (entries : List Entry) (entry : Entry) (what : What)
    → MayCome entries entry.unit what → (unit : UnitOfRecovery) → unit.deck ≡ 0
    → undoing_after unit false entry what ≡ false
quiet_after entries entry (Undone part place) may unit utility =
    utility_other unit entry.unit utility may
quiet_after entries entry (Asked request reply) may unit utility = refl
quiet_after entries entry (Claimed part area) may unit utility = refl
quiet_after entries entry (Split part) may unit utility = refl
quiet_after entries entry (Faulted fault) may unit utility = refl

pub utilities-append : (entries : List Entry) (entry : Entry)
    → MayCome entries entry.unit entry.what → NoUtilityUndoes entries
    → NoUtilityUndoes (entries ++ entry ∷ [])
utilities-append entries entry may quiet = λ unit utility.
    undoing-append unit false entries entry
    ∙ ap (λ (b : Bool). undoing_after unit b entry entry.what) (quiet unit utility)
    ∙ quiet_after entries entry entry.what may unit utility

-- One entry more, that is no reply of a write fault.
abbrev pub is_no_fault : What → Bool
is_no_fault (Asked request reply) = not (is_write_fault reply)
is_no_fault (Undone part place) = true
is_no_fault (Claimed part area) = true
is_no_fault (Split part) = true
is_no_fault (Faulted fault) = true

no_fault : (b : Bool) → not b ≡ true → b ≡ true → ⊥
no_fault true is fault = true≢false (sym is)
no_fault false is fault = true≢false (sym fault)

stops_here : (entry : Entry) (what : What) → is_no_fault what ≡ true → StopsAfter entry [] what
stops_here entry (Asked request reply) none = λ fault. no_fault (is_write_fault reply) none fault
stops_here entry (Undone part place) none = tt
stops_here entry (Claimed part area) none = tt
stops_here entry (Split part) none = tt
stops_here entry (Faulted fault) none = tt

pub legal-append : (geometry : Geometry) (opening : State) (entries : List Entry) (entry : Entry)
    → IsLegal geometry opening entries
    → Step geometry (state_of geometry opening entries) entry
    → MayCome entries entry.unit entry.what → is_no_fault entry.what ≡ true
    → IsLegal geometry opening (entries ++ entry ∷ [])
legal-append geometry opening entries entry legal step may none = record {
  steps = steps-append geometry opening entries entry legal.steps step;
  backs_out = begun_more entries entry [] (λ unit. refl) legal.backs_out tt may;
  stops = stops-append entries (entry ∷ []) legal.stops (stops_here entry entry.what none, tt);
}
