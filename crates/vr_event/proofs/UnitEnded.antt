-- What the end of a unit of recovery leaves of a volume.
use Rattle.std.proofs.Common.{◌≡◌, ◌∷◌, ◌++◌, [], ℕ, Bool, true, false, cond, ◌==◌, ◌||◌, List}
use Rattle.std.proofs.Common.{Option, Some, None, refl, ap, sym, ◌∙◌, subst, inl, inr, filter}
use Rattle.std.proofs.Common.{arith, if◌then◌else◌, nat_eq}
use Rattle.std.proofs.lemmas.Bool.Decides.{nat_tests}
use Rattle.std.proofs.lemmas.Option.{none-some}
use Rattle.std.specs.List.{AllByRecursion, list_any}
use Rattle.std.specs.Option.{option_and_then}
use Rattle.vr_catalog.specs.Catalog.{entry_with_part, parts_in}
use Rattle.vr_catalog.specs.declared.entry.CatEntry.{CatEntry}
use Rattle.vr_types.specs.Seen.{Seen}
use Rattle.vr_types.specs.Space.{free_count}
use Rattle.vr_types.specs.declared.geometry.Geometry.{Geometry}
use Rattle.vr_types.specs.declared.reply.Refusal.{Refusal}
use Rattle.vr_types.specs.declared.reply.Refusal.TheVariants.{WriteFault}
use Rattle.vr_types.specs.declared.reply.Reply.{Reply}
use Rattle.vr_types.specs.declared.reply.Reply.TheVariants.{Done, Refused}
use Rattle.vr_types.specs.declared.request.Request.{Request}
use Rattle.vr_types.specs.declared.unit.Unit.{Unit as UnitOfRecovery}
use Rattle.vr_history.specs.declared.entry.Entry.{Entry}
use Rattle.vr_history.specs.declared.entry.What.TheVariants.{Asked}
use Rattle.vr_history.specs.Case.{Case}
use Rattle.vr_history.specs.Effects.{contents_left, ends_unit, has_part, is_utility_live, parts_laid}
use Rattle.vr_history.specs.Effects.{without_unit}
use Rattle.vr_history.specs.Opened.{catalog_of}
use Rattle.vr_history.specs.Replies.{MayReply, all_refusals, before_all, before_room, done_by}
use Rattle.vr_history.specs.Replies.{first_of, refused_or}
use Rattle.vr_history.specs.State.{Owned, State}
use Rattle.vr_history.specs.Step.{after_what, case_of}
use Rattle.vr_history.proofs.CallerLemmas.{state_of-append}
use Rattle.vr_answer.proofs.CallerLemmas.{after_backout, after_commit}
use Rattle.vr_record_file.specs.Now.{EndsUnit, FileNow, IsStateOf, MayBeAsked, entry_next, failed}
use Rattle.vr_record_file.specs.Now.{state_now}
use Rattle.vr_volume.specs.Committed.{IsLaidState}
use Rattle.vr_volume.specs.Laid.{shape_in, shape_of}
use Rattle.vr_volume.specs.Steps.{IsEndedIn}
use Rattle.vr_event.specs.EndedFile.{IsEnded}
use Rattle.vr_store.specs.Store.{IsStored, StoreNow}
use Rattle.vr_event.specs.Volume.{IsHeld, VolumeNow}
use Rattle.vr_event.proofs.Areas.{owned-same, unlaid-same}
use Rattle.vr_event.proofs.Entries.{held-failed}

-- a part that no entry of the catalog has isn't laid
none_with : (part : ℕ) (entries : List CatEntry) → list_any (nat_eq part) (parts_in entries) ≡ false
    → entry_with_part entries part ≡ None
none_with part [] none = refl
none_with part (entry ∷ entries) none =
    grind (arith, nat_tests, none_with part entries, none)

pub unlaid : (geometry : Geometry) (part : ℕ) (entries : List CatEntry)
    → has_part (parts_in entries) part ≡ false → shape_in geometry entries part ≡ None
unlaid geometry part entries none = by_test (part == 0) refl none
  where
    by_test : (b : Bool) → (part == 0) ≡ b
        → (b || list_any (nat_eq part) (parts_in entries)) ≡ false
        → shape_in geometry entries part ≡ None
    by_test true is none = absurd (cc)
    by_test false is none =
        ap (λ (b : Bool). if b then shape_in geometry entries 0
        else option_and_then (shape_of geometry) (entry_with_part entries part)) is
        ∙ ap (option_and_then (shape_of geometry)) (none_with part entries none)

-- each area is of a part of the catalog
pub all_owned : (parts : List ℕ) (owned : List Owned)
    → AllByRecursion (λ (o : Owned). has_part parts o.part ≡ true) owned
    → filter (λ (o : Owned). has_part parts o.part) owned ≡ owned
all_owned parts [] are = refl
all_owned parts (one ∷ rest) are =
    ap (λ (b : Bool). cond b (one ∷ filter (λ (o : Owned). has_part parts o.part) rest)
    (filter (λ (o : Owned). has_part parts o.part) rest)) are.0
    ∙ ap (λ (l : List Owned). one ∷ l) (all_owned parts rest are.1)

module _ (state : State) (unit : UnitOfRecovery) where
  abbrev without : State
  without = without_unit unit state

  abbrev given_back : State
  given_back = record without {
    contents = contents_left without;
    owned = filter (λ owned. has_part (parts_laid (catalog_of without)) owned.part) without.owned;
  }

  -- the end of a unit takes no record and no area away
  pub ended-in : (geometry : Geometry) → IsLaidState geometry state
      → IsEndedIn unit state (ends_unit unit state)
  ended-in geometry laid = by_utility (is_utility_live without)
    where
      left : (part : ℕ) (b : Bool) → has_part (parts_in (catalog_of state)) part ≡ b
          → (if b then state.contents part else []) ≡ state.contents part
      left part true is = refl
      left part false is = sym (laid.others part (unlaid geometry part (catalog_of state) is))

      by_utility : (b : Bool) → IsEndedIn unit state (cond b without given_back)
      by_utility true = record {
        contents = λ part. refl;
        befores = refl;
        logged = refl;
        used = refl;
        numbers = λ deck. refl;
      }
      by_utility false = record {
        contents = λ part. left part (has_part (parts_in (catalog_of state)) part) refl;
        befores = refl;
        logged = refl;
        used = refl;
        numbers = λ deck. refl;
      }

  pub ended-owned : (catalog : List CatEntry) → catalog ≡ catalog_of state
      → AllByRecursion (λ (o : Owned). has_part (parts_laid catalog) o.part ≡ true) state.owned
      → (ends_unit unit state).owned ≡ state.owned
  ended-owned catalog is are = by_utility (is_utility_live without)
    where
      all : filter (λ (o : Owned). has_part (parts_laid (catalog_of state)) o.part) state.owned
          ≡ state.owned
      all = all_owned (parts_laid (catalog_of state)) state.owned
          (subst (λ (c : List CatEntry).
          AllByRecursion (λ (o : Owned). has_part (parts_laid c) o.part ≡ true) state.owned) is are)

      by_utility : (b : Bool) → (cond b without given_back).owned ≡ state.owned
      by_utility true = refl
      by_utility false = all

-- a request that may be done may meet a fault of a write
none_before : (xs ys : List (Option Refusal)) → first_of (xs ++ ys) ≡ None → first_of xs ≡ None
none_before [] ys none = refl
none_before (None ∷ xs) ys none = none_before xs ys none
none_before (Some refusal ∷ xs) ys none = absurd (none-some refusal (sym none))

none_refused : (o : Option Refusal) (done : Reply) (feedback : ℕ) (place bytes : Option (List ℕ))
    → Done feedback place bytes ≡ refused_or o done → o ≡ None
none_refused None done feedback place bytes is = refl
none_refused (Some refusal) done feedback place bytes is = absurd (cc)

may_meet : (case : Case) (feedback : ℕ) (place bytes : Option (List ℕ))
    → MayReply case (Done feedback place bytes) → first_of (before_all case) ≡ None
may_meet case feedback place bytes (inl answered) =
    none_before (before_all case) _ (none_before (before_room case) _
    (none_refused (first_of (all_refusals case)) (done_by case case.request) feedback place bytes
    answered.0))
may_meet case feedback place bytes (inr (inl lacks)) = absurd (cc)
may_meet case feedback place bytes (inr (inr (inl lacks))) = absurd (cc)
may_meet case feedback place bytes (inr (inr (inr meets))) = meets.0

pub may-fail-write : (opening : State) (file : FileNow) (unit : UnitOfRecovery) (request : Request)
    (feedback : ℕ) (place bytes : Option (List ℕ))
    → MayBeAsked opening file unit request (Done feedback place bytes)
    → MayBeAsked opening file unit request (Refused WriteFault)
may-fail-write opening file unit request feedback place bytes asked =
    let case = case_of file.geometry (state_now opening file) unit request in
    record {
      current = asked.current;
      of_deck = asked.of_deck;
      reply_is = inr (inr (inr (may_meet case feedback place bytes asked.reply_is, inl refl)));
      goes_on = asked.goes_on;
    }

-- what such a request leaves, once it is done
ended-what : (geometry : Geometry) (before : State) (unit : UnitOfRecovery) (stamp : ℕ)
    (request : Request) → EndsUnit request
    → after_what geometry before unit stamp (Asked request (Done 0 None None))
    ≡ ends_unit unit before
ended-what geometry before unit stamp request (inl is) =
    ap (λ (r : Request). after_what geometry before unit stamp (Asked r (Done 0 None None))) is
    ∙ after_commit geometry before unit 0 None None
ended-what geometry before unit stamp request (inr is) =
    ap (λ (r : Request). after_what geometry before unit stamp (Asked r (Done 0 None None))) is
    ∙ after_backout geometry before unit 0 None None

-- the state after a COMMIT or a BACKOUT that is done
pub state-ended : (opening : State) (file to : FileNow) (after : ℕ) (unit : UnitOfRecovery)
    (line : ℕ) (request : Request) → EndsUnit request → IsEnded after unit line request file to
    → state_now opening to ≡ ends_unit unit (state_now opening file)
state-ended opening file to after unit line request is leaves =
    let entry : Entry = entry_next file.entries after unit line (Asked request (Done 0 None None)) in
    let before : State = state_now opening file in
    ap (λ (f : FileNow). state_now opening f) leaves
    ∙ state_of-append file.geometry opening file.entries entry
    ∙ ended-what file.geometry before unit entry.stamp request is

-- A volume is held by that state, where its store is.
pub held-ended : {B : Type 0} (seen : B → Seen) (opening : State) (volume : VolumeNow B)
    (to : FileNow) (store : StoreNow) (blocks : B) (after : ℕ) (unit : UnitOfRecovery) (line : ℕ)
    (request : Request) → EndsUnit request → IsEnded after unit line request volume.file to
    → volume.file.stopped ≡ None → store.space ≡ volume.store.space
    → IsHeld seen opening volume → IsStateOf opening to
    → ((new : State) → IsEndedIn unit (state_now opening volume.file) new
    → IsStored volume.number store new (seen blocks))
    → IsHeld seen opening (record volume { blocks = blocks; store = store; file = to })
held-ended seen opening volume to store blocks after unit line request is leaves going space held
    file stored =
    let before : State = state_now opening volume.file in
    let state = state-ended opening volume.file to after unit line request is leaves in
    let owned : (state_now opening to).owned ≡ before.owned =
    ap (λ (s : State). s.owned) state
    ∙ ended-owned before unit volume.file.catalog held.file.now.catalog
    (held.file.now.owned going) in
    let geometry : to.geometry ≡ volume.file.geometry =
    ap (λ (f : FileNow). f.geometry) leaves in
    record {
      file = file;
      free = cc (held.free, geometry, owned, space);
      owned = owned-same volume.store.space store.space _ _ space owned held.owned;
      unlaid = λ on. unlaid-same volume.file.geometry to.geometry volume.file.catalog to.catalog
          volume.store.space store.space geometry (ap (λ (f : FileNow). f.catalog) leaves) space
          (held.unlaid going);
      stored = λ on. subst (λ (s : State). IsStored volume.number store s (seen blocks))
          (sym state) (stored (ends_unit unit before) (ended-in before unit
          volume.store.log.geometry (held.stored going).volume.laid));
    }

-- Where a write failed, nothing is said of it any more but its history.
pub held-stopped : {B : Type 0} (seen : B → Seen) (opening : State) (volume : VolumeNow B)
    (to : FileNow) (store : StoreNow) (blocks : B) (after : ℕ) (unit : UnitOfRecovery) (line : ℕ)
    (request : Request) → to ≡ failed after unit line request volume.file
    → store.space ≡ volume.store.space → IsHeld seen opening volume → IsStateOf opening to
    → IsHeld seen opening (record volume { blocks = blocks; store = store; file = to })
held-stopped seen opening volume to store blocks after unit line request leaves space held file =
    let fails = held-failed seen opening volume to after unit line request leaves held file in
    record {
      file = file;
      free = ap free_count space ∙ fails.free;
      owned = owned-same volume.store.space store.space _ _ space refl fails.owned;
      unlaid = λ going. absurd (none-some _ (sym going ∙ ap (λ (f : FileNow). f.stopped) leaves));
      stored = λ going. absurd (none-some _ (sym going ∙ ap (λ (f : FileNow). f.stopped) leaves));
    }
