-- Which units count over a history, and histories that grow at their end.
use Rattle.std.proofs.Common.{◌≡◌, ℕ, Bool, true, false, cond, ◌&&◌, ◌||◌, List, [], ◌∷◌, ◌++◌}
use Rattle.std.proofs.Common.{find, refl, ap, ◌∙◌}
use Rattle.std.specs.Prelude.{Option}
use Rattle.std.specs.List.{list_any}
use Rattle.vr_types.specs.Locks.{same_unit}
use Rattle.vr_types.specs.Content.{Content, item_at}
use Rattle.vr_types.specs.declared.geometry.Geometry.{Geometry}
use Rattle.vr_types.specs.declared.reply.Reply.TheVariants.{Done}
use Rattle.vr_types.specs.declared.request.Request.TheVariants.{Backout}
use Rattle.vr_types.specs.declared.unit.Unit.{Unit as UnitOfRecovery}
use Rattle.vr_history.specs.declared.entry.Entry.{Entry}
use Rattle.vr_history.specs.declared.entry.What.{What}
use Rattle.vr_history.specs.declared.entry.What.TheVariants.{Asked}
use Rattle.vr_history.specs.Committed.{changed, commits, committed, counted_entry, counted_run}
use Rattle.vr_history.specs.Committed.{is_counted, is_kept_of, kept_or, left_at_end}
use Rattle.vr_history.specs.Laws.{HasPartThroughout, record_in, record_now, settled_record}
use Rattle.vr_history.specs.Legal.{AreSteps, state_of}
use Rattle.vr_history.specs.State.{BeforeImage, Owned, State, opening_state}
use Rattle.vr_history.specs.Step.{place_changes, state_after}
use Rattle.vr_history.proofs.Befores.{and_false}
use Rattle.vr_history.proofs.Committing.{CommitsCount, run_holds}
use Rattle.vr_history.proofs.Same.{unit_self}

-- the entry is a COMMIT of the unit that was accepted
abbrev is_end_of : UnitOfRecovery → Entry → Bool
is_end_of unit entry = same_unit unit entry.unit && commits entry.what

or_true : (a b : Bool) → b ≡ true → (a || b) ≡ true
or_true true b is = refl
or_true false b is = is

all_count : (counts : UnitOfRecovery → Bool) (entries : List Entry)
    → ((unit : UnitOfRecovery) → list_any (is_end_of unit) entries ≡ true → counts unit ≡ true)
    → CommitsCount counts entries
all_count counts [] enough = tt
all_count counts (entry ∷ entries) enough = (
  λ commit. enough entry.unit (ap (λ (b : Bool). b
      || list_any (is_end_of entry.unit) entries) (ap (λ (b : Bool). b
      && commits entry.what) (unit_self entry.unit) ∙ commit)),
  all_count counts entries (λ unit any. enough unit (or_true (is_end_of unit entry) _ any)),
)

-- the units of a history that committed count in it
pub committed_count : (others : List UnitOfRecovery) (entries : List Entry)
    → CommitsCount (is_counted others entries) entries
committed_count others entries =
    all_count (is_counted others entries) entries
    (λ unit any. or_true (list_any (same_unit unit) others) _ any)

pub settled_everywhere : (geometry : Geometry) (contents : ℕ
    → Content) (owned : List Owned) (entries : List Entry) (others : List UnitOfRecovery) (part : ℕ)
    → AreSteps geometry (opening_state contents owned) entries
    → HasPartThroughout geometry part (is_counted others entries) (opening_state contents owned)
    contents entries
    → (place : List ℕ)
    → record_now (committed geometry (opening_state contents owned) entries others) part place ≡
    settled_record (is_counted others entries)
    (state_of geometry (opening_state contents owned) entries) part place
settled_everywhere geometry contents owned entries others part steps has =
    (run_holds (is_counted others entries) part geometry (opening_state contents owned) contents
    entries steps (committed_count others entries) has
    (record { sound = record { apart = tt; held = tt }; agrees = λ place. refl })).agrees

unkept : (counts : UnitOfRecovery → Bool) (state : State) (part : ℕ) (place : List ℕ)
    → state.befores ≡ []
    → settled_record counts state part place ≡ record_now state.contents part place
unkept counts state part place none =
    ap (λ (befores : List BeforeImage). record_in
    (kept_or (find (is_kept_of counts part place) befores) (item_at (state.contents part) place)))
    none

pub current_everywhere : (geometry : Geometry) (contents : ℕ
    → Content) (owned : List Owned) (entries : List Entry) (others : List UnitOfRecovery) (part : ℕ)
    → AreSteps geometry (opening_state contents owned) entries
    → HasPartThroughout geometry part (is_counted others entries) (opening_state contents owned)
    contents entries → (state_of geometry (opening_state contents owned) entries).befores ≡ []
    → (place : List ℕ)
    → record_now (committed geometry (opening_state contents owned) entries others) part place ≡
    record_now (state_of geometry (opening_state contents owned) entries).contents part place
current_everywhere geometry contents owned entries others part steps has none place =
    settled_everywhere geometry contents owned entries others part steps has place
    ∙ unkept (is_counted others entries)
    (state_of geometry (opening_state contents owned) entries) part place none

-- what counts is looked at unit by unit
same_run : (geometry : Geometry) (one other : UnitOfRecovery → Bool) (state : State) (contents : ℕ
    → Content) (entries : List Entry) → ((unit : UnitOfRecovery) → one unit ≡ other unit)
    → counted_run geometry one state contents entries ≡ counted_run geometry other state contents
    entries
same_run geometry one other state contents [] same = refl
same_run geometry one other state contents (entry ∷ entries) same =
    ap (λ (test : Bool). counted_run geometry one (state_after geometry state entry)
    (cond test (counted_entry geometry state entry contents) contents) entries)
    (same entry.unit)
    ∙ same_run geometry one other (state_after geometry state entry)
    (cond (other entry.unit) (counted_entry geometry state entry contents) contents) entries same

either_same : {X : Type 0} (test : Bool) (one other : X) → one ≡ other → cond test one other ≡ other
either_same true one other same = same
either_same false one other same = refl

-- an entry at the end that changes nothing
run_append : (geometry : Geometry) (counts : UnitOfRecovery → Bool) (state : State) (contents : ℕ
    → Content) (entries : List Entry) (last : Entry)
    → ((before : State) (counted : ℕ → Content)
    → counted_entry geometry before last counted ≡ counted)
    → counted_run geometry counts state contents (entries
    ++ last ∷ []) ≡ counted_run geometry counts state contents entries
run_append geometry counts state contents [] last nothing =
    either_same (counts last.unit) (counted_entry geometry state last contents) contents
    (nothing state contents)
run_append geometry counts state contents (entry ∷ entries) last nothing =
    run_append geometry counts (state_after geometry state entry)
    (cond (counts entry.unit) (counted_entry geometry state entry contents) contents) entries
    last nothing

any_append : (test : Entry → Bool) (entries : List Entry) (last : Entry) → test last ≡ false
    → list_any test (entries ++ last ∷ []) ≡ list_any test entries
any_append test [] last other = ap (λ (b : Bool). b || false) other
any_append test (entry ∷ entries) last other =
    ap (λ (b : Bool). test entry || b) (any_append test entries last other)

pub backed_out_same : (geometry : Geometry) (opening : State) (entries : List Entry)
    (others : List UnitOfRecovery) (last : Entry) (feedback : ℕ) (place bytes : Option (List ℕ))
    → last.what ≡ Asked Backout (Done feedback place bytes)
    → committed geometry opening (entries
    ++ last ∷ []) others ≡ committed geometry opening entries others
backed_out_same geometry opening entries others last feedback place bytes is =
    let counted : (unit : UnitOfRecovery)
    → is_counted others (entries ++ last ∷ []) unit ≡ is_counted others entries unit =
    λ unit. ap (λ (b : Bool). list_any (same_unit unit) others
    || b) (any_append (is_end_of unit) entries last
    (ap (λ (what : What). same_unit unit last.unit && commits what) is
    ∙ and_false (same_unit unit last.unit))) in
    let nothing : (before : State) (kept : ℕ → Content)
    → counted_entry geometry before last kept ≡ kept =
    λ before kept. ap
    (λ (what : What). left_at_end (commits what)
    (changed kept (place_changes geometry before last.unit what))) is in
    same_run geometry (is_counted others (entries
    ++ last ∷ [])) (is_counted others entries) opening opening.contents (entries
    ++ last ∷ []) counted
    ∙ run_append geometry (is_counted others entries) opening opening.contents entries last nothing
