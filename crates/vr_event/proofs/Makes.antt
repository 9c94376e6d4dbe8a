-- What has to hold before a change is made holds of one that is ready, and what it leaves of the state.
use Rattle.std.proofs.Common.{◌≡◌, ◌≢◌, ◌∙◌, ◌+◌, ◌==◌, ◌&&◌, ◌||◌, ℕ, Bool, true, false, not, cond}
use Rattle.std.proofs.Common.{List, [], ◌∷◌, ◌++◌, Option, Some, None, refl, sym, ap, subst, arith, filter, inl}
use Rattle.std.proofs.Common.{map, length, nat_lt}
use Rattle.std.specs.Prelude.{All, bytes_eq, flat_map, is_some, sum}
use Rattle.std.specs.List.{AllByRecursion, list_any}
use Rattle.std.specs.Option.{option_and_then, option_map, option_map_or, option_or}
use Rattle.std.proofs.lemmas.Bool.{true≢false}
use Rattle.std.proofs.lemmas.Bool.Decides.{nat_tests}
use Rattle.std.proofs.lemmas.List.Elements.{All-cons, All-nil}
use Rattle.vr_types.specs.Content.{Item, Standing, item_at}
use Rattle.vr_types.specs.LogSpace.{IsLogFull, before_length, end_length, log_size}
use Rattle.vr_types.specs.Locks.{conflict_on, first_conflict, same_unit}
use Rattle.vr_types.specs.Seen.{Left, Seen}
use Rattle.vr_types.specs.declared.geometry.Geometry.{Geometry}
use Rattle.vr_types.specs.declared.lock_name.LockName.{LockName}
use Rattle.vr_types.specs.declared.lock_name.LockName.TheVariants.{Record}
use Rattle.vr_types.specs.declared.reply.Refusal.{Refusal}
use Rattle.vr_types.specs.declared.reply.Refusal.TheVariants.{LogFull}
use Rattle.vr_types.specs.declared.reply.Reply.{Reply}
use Rattle.vr_types.specs.declared.reply.Reply.TheVariants.{Done}
use Rattle.vr_types.specs.declared.request.Request.{Request}
use Rattle.vr_types.specs.declared.request.Request.TheVariants.{Get, Point, Add, Update, Erase}
use Rattle.vr_types.specs.declared.request.Request.TheVariants.{EndReq, Commit, Backout}
use Rattle.vr_types.specs.declared.unit.Mode.{Mode}
use Rattle.vr_types.specs.declared.unit.Mode.TheVariants.{Exclusive}
use Rattle.vr_types.specs.declared.unit.PartNo.{PartNo}
use Rattle.vr_types.specs.declared.unit.Unit.{Unit as UnitOfRecovery}
use Rattle.vr_catalog.specs.declared.entry.CatEntry.{CatEntry}
use Rattle.vr_log.specs.Live.{is_in, live_in, need_of, used_by}
use Rattle.vr_log.specs.declared.record.LogRecord.TheVariants.{Before}
use Rattle.vr_log.specs.Records.{record_bytes}
use Rattle.vr_log.proofs.Lives.{length-before, length-none, length-some}
use Rattle.vr_history.specs.Case.{Case, is_add, new_record}
use Rattle.vr_history.specs.Change.{PairMove, old_record, place_changed, record_held}
use Rattle.vr_history.specs.LogSpace.{Logging, base_logging, log_need, loggings_at, need_for}
use Rattle.vr_history.specs.LogSpace.{new_loggings, pair_loggings}
use Rattle.vr_history.specs.Names.{change_names, lock_names, mode_asked, record_name}
use Rattle.vr_history.specs.Opened.{base_of, catalog_of}
use Rattle.vr_history.specs.RefusedFile.{refused_if}
use Rattle.vr_history.specs.RefusedRecord.{absent, conflict_in, duplicate, gone}
use Rattle.vr_history.specs.RefusedRecord.{has_record, held, held_by, key_changed, length_changed}
use Rattle.vr_history.specs.Replies.{CanEnd, IsAnswered, MayReply, done_by, first_of}
use Rattle.vr_history.specs.Effects.{image_kept, with_change}
use Rattle.vr_history.specs.Legal.{is_write_fault, state_of}
use Rattle.vr_history.specs.State.{Logged, State, is_kept, is_live, is_logged}
use Rattle.vr_history.specs.declared.entry.Entry.{Entry}
use Rattle.vr_history.specs.declared.entry.What.TheVariants.{Asked}
use Rattle.vr_history.proofs.CallerLemmas.{state_of-append}
use Rattle.vr_history.specs.Step.{after_asked, after_what, case_of}
use Rattle.vr_history.proofs.Same.{unit_same}
use Rattle.vr_answer.specs.After.{IsChanged}
use Rattle.vr_answer.specs.Scope.{HasNoneBuilt}
use Rattle.vr_answer.specs.Tried.{file_refusals}
use Rattle.vr_answer.proofs.CallerLemmas.{after_change, answered_done, moves_none, names_at}
use Rattle.vr_record_file.specs.Now.{FileNow, IsLockedIn, IsStateOf, entry_next, lets_go}
use Rattle.vr_record_file.specs.Now.{state_now, with_event}
use Rattle.vr_record_file.proofs.Standing.{logged_in_the_way}
use Rattle.vr_undo.specs.Records.{before_of, images_in, is_logged_in}
use Rattle.vr_undo.proofs.CallerLemmas.{logged-at}
use Rattle.vr_types.specs.Faults.{Faults}
use Rattle.vr_event.specs.Cause.{HasReplyCause, IsEnteredFor}
use Rattle.vr_store.specs.Change.{IsMadeOf, has_logged, need_with}
use Rattle.vr_event.specs.Putting.{AreLaidBy, IsChange, IsReadyAt, IsReadyFor, IsToMake, need_at}
use Rattle.vr_store.specs.Store.{IsStored, PartNow, StoreNow, left_among, part_among, shape_among}
use Rattle.vr_event.specs.Volume.{IsHeld, IsWhole, VolumeNow}
use Rattle.vr_event.proofs.Areas.{owned-same, unlaid-same}
use Rattle.vr_event.proofs.HeldItems.{item-held}
use Rattle.vr_event.proofs.Weighs.{asks-change}
use Rattle.vr_event.proofs.Withdrawing.{left-made}

none-some : {X : Type 0} {x : X} → None ≡ Some x → ⊥
none-some same = cc

-- ---- nothing is in the way

first-none : (a : Option Refusal) (rest : List (Option Refusal)) → first_of (a ∷ rest) ≡ None
    → a ≡ None
first-none None rest none = refl
first-none (Some refusal) rest none = absurd (none-some (sym none))

rest-none : (a : Option Refusal) (rest : List (Option Refusal)) → first_of (a ∷ rest) ≡ None
    → first_of rest ≡ None
rest-none None rest none = none
rest-none (Some refusal) rest none = absurd (none-some (sym none))

unmapped : {A C : Type 0} (f : A → C) (o : Option A) → option_map f o ≡ None → o ≡ None
unmapped f None none = refl
unmapped f (Some x) none = absurd (none-some (sym none))

first-free : {A : Type 0} (a b : Option A) → option_or a b ≡ None → a ≡ None
first-free None b none = refl
first-free (Some x) b none = absurd (none-some (sym none))

unrefused : (test : Bool) (refusal : Refusal) → refused_if test refusal ≡ None → test ≡ false
unrefused false refusal none = refl
unrefused true refusal none = absurd (none-some (sym none))

mode-change : (request : Request) → IsChange request → mode_asked request ≡ Exclusive
mode-change (Add on named bytes) is = refl
mode-change (Update on bytes) is = refl
mode-change (Erase on) is = refl
mode-change (Get on find update integrity) is = absurd is
mode-change (Point on find) is = absurd is
mode-change (EndReq on) is = absurd is
mode-change Commit is = absurd is
mode-change Backout is = absurd is

change-ends : (case : Case) (request : Request) → IsChange request → CanEnd case request
change-ends case (Add on named bytes) is = tt
change-ends case (Update on bytes) is = tt
change-ends case (Erase on) is = tt
change-ends case (Get on find update integrity) is = tt
change-ends case (Point on find) is = tt
change-ends case (EndReq on) is = tt
change-ends case Commit is = tt
change-ends case Backout is = absurd is

names-change : (case : Case) (request : Request) → IsChange request
    → lock_names case request ≡ change_names case
names-change case (Add on named bytes) is = refl
names-change case (Update on bytes) is = refl
names-change case (Erase on) is = refl
names-change case (Get on find update integrity) is = absurd is
names-change case (Point on find) is = absurd is
names-change case (EndReq on) is = absurd is
names-change case Commit is = absurd is
names-change case Backout is = absurd is

all-of : {X : Type 0} (P Q : X → Type 0) → ((x : X) → P x → Q x) → (xs : List X)
    → AllByRecursion P xs → All Q xs
all-of P Q f [] all = All-nil Q
all-of P Q f (x ∷ xs) all = All-cons Q x xs (f x all.0) (all-of P Q f xs all.1)

module _ (case : Case) (place : List ℕ) (old : Option (List ℕ)) (unbuilt : HasNoneBuilt case.state)
    (at : IsReadyAt case place old) where
  change : IsChange case.request
  change = asks-change case case.request place at.place_is

  unheld : held case ≡ None
  unheld = first-none (held case) _ (rest-none (length_changed case) _
      (rest-none (key_changed case) _ (rest-none (gone case) _ at.unheld)))

  free : first_conflict case.state.locks case.unit Exclusive (record_name case place) ≡ None
  free = first-free _ _
      (ap (λ (names : List LockName). conflict_on case.state.locks case.unit Exclusive names)
      (sym (names-change case case.request change ∙ names_at case place unbuilt at.place_is))
      ∙ ap (λ (mode : Mode). conflict_on case.state.locks case.unit mode
      (lock_names case case.request)) (sym (mode-change case.request change))
      ∙ unmapped held_by (conflict_in case) unheld)

  abbrev pub OwnLogged : Logged → Type 0
  OwnLogged logged = logged.part ≡ base_of case → logged.place ≡ place → logged.unit ≡ case.unit

  pub alone-logged : AllByRecursion (IsLockedIn case.state.locks) case.state.logged
      → All OwnLogged case.state.logged
  alone-logged locked = all-of (IsLockedIn case.state.locks) OwnLogged
      (λ logged is part there. sym (unit_same case.unit logged.unit
      (by_test logged is part there)))
      case.state.logged locked
    where
      by_test : (logged : Logged) → IsLockedIn case.state.locks logged
          → logged.part ≡ base_of case → logged.place ≡ place
          → same_unit case.unit logged.unit ≡ true
      by_test logged is part there = of (same_unit case.unit logged.unit) refl
        where
          of : (b : Bool) → same_unit case.unit logged.unit ≡ b
              → same_unit case.unit logged.unit ≡ true
          of true same = same
          of false same = absurd (logged_in_the_way case.state.locks logged case.unit Exclusive is
              same
              (ap (λ (n : ℕ). first_conflict case.state.locks case.unit Exclusive
              (Record (record { 0 = n }) logged.place)) part
              ∙ ap (λ (p : List ℕ). first_conflict case.state.locks case.unit Exclusive
              (Record (record { 0 = base_of case }) p)) there ∙ free))

  -- the record that a change takes the place of is the one that stands there
  pub old-same : old_record case ≡ old
  old-same = by_add (is_add case.request) refl
    where
      looked : option_and_then (record_held case) (place_changed case) ≡ old
      looked = ap (λ (o : Option (List ℕ)). option_and_then (record_held case) o) at.place_is
          ∙ sym at.old_is

      no-record : is_add case.request ≡ true → old ≡ None
      no-record add = of old refl
          (unrefused (is_add case.request && has_record case) _
          (first-none (duplicate case) _ (rest-none (absent case) _ (rest-none (held case) _
          (rest-none (length_changed case) _ (rest-none (key_changed case) _
          (rest-none (gone case) _ at.unheld)))))))
        where
          of : (o : Option (List ℕ)) → old ≡ o
              → (is_add case.request && has_record case) ≡ false → old ≡ None
          of None is test = is
          of (Some bytes) is test =
              let there : has_record case ≡ true = ap (λ (o : Option (List ℕ)). is_some o) looked
              ∙ ap (λ (o : Option (List ℕ)). is_some o) is in
              absurd (true≢false (sym (ap (λ (b : Bool). b && has_record case) add ∙ there) ∙ test))

      by_add : (add : Bool) → is_add case.request ≡ add
          → cond add None (option_and_then (record_held case) (place_changed case)) ≡ old
      by_add true add = sym (no-record add)
      by_add false add = looked

  -- ---- what it takes of the log

  abbrev is-new : Logging → Bool
  is-new logging = not (is_logged case.state case.unit logging.part logging.place)

  abbrev pub known : Bool
  known = is_logged case.state case.unit (base_of case) place

  new-at : new_loggings case ≡ filter is-new (base_logging case place ∷ [])
  new-at =
      ap (λ (o : Option (List ℕ)). filter is-new (option_map_or (loggings_at case) o []))
      at.place_is
      ∙ ap (λ (moves : List PairMove).
      filter is-new (base_logging case place ∷ flat_map pair_loggings moves))
      (moves_none case unbuilt)

  one-need : (b : Bool) (logging : Logging)
      → sum (map need_for (cond (not b) (logging ∷ []) [])) ≡ cond b 0 (need_for logging)
  one-need true logging = refl
  one-need false logging = omega arith

  pub log-need-is : log_need case ≡ cond known 0 (before_length place old)
      + cond (is_live case.state case.unit) 0 end_length
  log-need-is =
      ap (λ (l : List Logging). sum (map need_for l) + cond (is_live case.state case.unit) 0
      end_length) new-at
      ∙ ap (λ (n : ℕ). n + cond (is_live case.state case.unit) 0 end_length)
      (one-need known (base_logging case place))
      ∙ ap (λ (o : Option (List ℕ)). cond known 0 (before_length place o)
      + cond (is_live case.state case.unit) 0 end_length) old-same

  pub not-full : IsLogFull case.geometry case.state.used (log_need case) → ⊥
  not-full full = absurd (true≢false (sym (here full)
      ∙ unrefused (nat_lt (log_size case.geometry) (case.state.used + log_need case)) _
      (ap (λ (o : Option (List ℕ)). refused_if (is_some o
      && nat_lt (log_size case.geometry) (case.state.used + log_need case))
      (LogFull case.state.used (log_need case) (log_size case.geometry))) (sym at.place_is)
      ∙ at.unfull)))
    where
      here : IsLogFull case.geometry case.state.used (log_need case)
          → nat_lt (log_size case.geometry) (case.state.used + log_need case) ≡ true
      here full = grind (arith, nat_tests, full)

-- a unit that has logged a place is live
live-if : (unit : UnitOfRecovery) (part : ℕ) (place : List ℕ) (logged : List Logged)
    → is_logged_in unit part place logged ≡ true
    → list_any (λ (one : Logged). same_unit unit one.unit) logged ≡ true
live-if unit part place [] is = is
live-if unit part place (one ∷ logged) is =
    by_test (same_unit unit one.unit) (one.part == part && bytes_eq place one.place) (live-if unit part place logged) is
  where
    by_test : (own here : Bool) → (is_logged_in unit part place logged ≡ true
        → list_any (λ (one : Logged). same_unit unit one.unit) logged ≡ true)
        → ((own && here) || is_logged_in unit part place logged) ≡ true
        → (own || list_any (λ (one : Logged). same_unit unit one.unit) logged) ≡ true
    by_test true here further same = refl
    by_test false here further same = further same

old-length : (unit : UnitOfRecovery) (part : PartNo) (place : List ℕ) (old : Option (List ℕ))
    → length (record_bytes (Before unit part place old)) ≡ before_length place old
old-length unit part place None = omega (arith, length-before unit part place None, length-none)
old-length unit part place (Some bytes) =
    omega (arith, length-before unit part place (Some bytes), length-some bytes)

pub need-before : (unit : UnitOfRecovery) (part : PartNo) (place : List ℕ) (old : Option (List ℕ))
    (live : List UnitOfRecovery)
    → need_of live (Before unit part place old)
    ≡ before_length place old + cond (is_in unit live) 0 end_length
unfolding need_of
need-before unit part place old live =
    ap (λ (n : ℕ). n + cond (is_in unit live) 0 end_length) (old-length unit part place old)

-- ---- the reply

pub record IsDoneReply (reply : Reply) : Type 0 where
  pub feedback : ℕ
  pub shown : Option (List ℕ)
  pub bytes : Option (List ℕ)
  pub is : reply ≡ Done feedback shown bytes

done-change : (case : Case) (request : Request) → IsChange request
    → IsDoneReply (done_by case request)
done-change case (Add on named bytes) is =
    record { feedback = _; shown = _; bytes = _; is = refl }
done-change case (Update on bytes) is =
    record { feedback = _; shown = _; bytes = _; is = refl }
done-change case (Erase on) is = record { feedback = _; shown = _; bytes = _; is = refl }
done-change case (Get on find update integrity) is = absurd is
done-change case (Point on find) is = absurd is
done-change case (EndReq on) is = absurd is
done-change case Commit is = absurd is
done-change case Backout is = absurd is

-- ---- on a volume

module _ {B : Type 0} (seen : B → Seen) (opening : State) (volume : VolumeNow B)
    (going : volume.file.stopped ≡ None) (whole : IsWhole seen volume)
    (is-held : IsHeld seen opening volume) (unit : UnitOfRecovery) (request : Request)
    (part : PartNo) (place : List ℕ) (old : Option (List ℕ)) (reply : Reply)
    (names : List LockName)
    (base : base_of (case_of volume.file.geometry (state_now opening volume.file) unit request)
    ≡ part.0)
    (ready : IsReadyFor (case_of volume.file.geometry (state_now opening volume.file) unit request)
    place old reply names) where
  abbrev state : State
  state = state_now opening volume.file

  abbrev case : Case
  case = case_of volume.file.geometry state unit request

  abbrev stored : IsStored volume.number volume.store state (seen volume.blocks)
  stored = is-held.stored going

  none-built : HasNoneBuilt state
  none-built = is-held.file.now.unbuilt

  known-is : known case place old none-built ready.at
      ≡ has_logged unit (before_of part place old) volume.store.undo
  known-is =
      ap (λ (n : ℕ). is_logged_in unit n place state.logged) base
      ∙ ap (λ (l : List Logged). is_logged_in unit part.0 place l) (sym stored.logged)
      ∙ sym (logged-at unit part.0 place (images_in volume.store.undo))

  pub need-is : log_need case ≡ need_at volume.store unit part place old
  need-is = log-need-is case place old none-built ready.at
      ∙ by_known (known case place old none-built ready.at) refl
    where
      need : Bool → ℕ
      need there = need_with there volume.store.log (Before unit part place old)

      by_known : (there : Bool) → known case place old none-built ready.at ≡ there
          → cond there 0 (before_length place old) + cond (is_live state unit) 0 end_length
          ≡ need_at volume.store unit part place old
      by_known true is =
          ap (λ (b : Bool). 0 + cond b 0 end_length)
          (live-if unit (base_of case) place state.logged is)
          ∙ sym (ap (λ (b : Bool). need_with b volume.store.log (Before unit part place old))
          (sym known-is ∙ is))
      by_known false is =
          ap (λ (b : Bool). before_length place old + cond b 0 end_length)
          (sym (stored.volume.logged.live unit))
          ∙ sym (need-before unit part place old (live_in volume.store.log.records))
          ∙ sym (ap (λ (b : Bool). need_with b volume.store.log (Before unit part place old))
          (sym known-is ∙ is))

  pub has-room : IsLogFull volume.store.log.geometry (used_by volume.store.log.records)
      (need_at volume.store unit part place old) → ⊥
  has-room full = not-full case place old none-built ready.at
      (subst (λ (g : Geometry). IsLogFull g state.used (log_need case)) (whole.geometry going)
      (subst (λ (n : ℕ). IsLogFull volume.store.log.geometry n (log_need case))
      stored.volume.logged.used
      (subst (λ (n : ℕ). IsLogFull volume.store.log.geometry
      (used_by volume.store.log.records) n) (sym need-is) full)))

  -- its parts are laid by the state
  parts-laid : AreLaidBy volume.file.geometry (catalog_of state) volume.store.parts
  parts-laid = subst (λ (entries : List CatEntry).
      AreLaidBy volume.file.geometry entries volume.store.parts) is-held.file.now.catalog
      (whole.laid going)

  pub to-make : Left (seen volume.blocks) (seen volume.blocks).cur → (one : PartNow)
      → part_among volume.store.parts part.0 ≡ Some one
      → IsToMake volume.number volume.store unit part place old state (seen volume.blocks)
  to-make left one found =
      record {
        stored = stored;
        stands = subst (λ (n : ℕ). option_map Standing old ≡ item_at (state.contents n) place) base
            (item-held case volume.store (seen volume.blocks) (whole.set going) left volume.number
            stored parts-laid place old ready.at one
            (ap (part_among volume.store.parts) base ∙ found));
        alone = subst (λ (n : ℕ). All (λ (logged : Logged). logged.part ≡ n
            → logged.place ≡ place → logged.unit ≡ unit) state.logged) base
            (alone-logged case place old none-built ready.at is-held.file.now.locked);
        current = ready.at.current;
        not_catalog = λ zero. true≢false (sym (ap (λ (n : ℕ). n == 0) (base ∙ zero))
            ∙ ready.at.not_catalog);
      }

  pub made-of : (after : State) → IsChanged case place after
      → IsMadeOf unit part place (option_map Standing (new_record request))
      (need_at volume.store unit part place old) state after
  made-of after made = record {
    contents = made.contents
        ∙ ap (λ (n : ℕ). with_change (record {
          part = n;
          place = place;
          new = option_map Standing (new_record request);
        }) state.contents) base;
    befores = made.befores
        ∙ ap (λ (n : ℕ). cond (is_kept state unit n place) state.befores (state.befores
        ++ image_kept state unit (record {
          part = n;
          place = place;
          new = option_map Standing (new_record request);
        }) ∷ [])) base;
    logged = made.logged
        ∙ ap (λ (n : ℕ). state.logged ++ cond (is_logged state unit n place) []
        (record { unit = unit; part = n; place = place } ∷ [])) base;
    used = made.used ∙ ap (λ (n : ℕ). state.used + n) need-is;
    numbers = made.numbers;
  }

  -- which is what the part leaves at the place
  made-left : first_of (file_refusals case) ≡ None → (part_among volume.store.parts part.0 ≢ None)
      → left_among volume.store.parts part.0 state place (new_record request)
      ≡ option_map Standing (new_record request)
  made-left none laid = of (part_among volume.store.parts part.0) refl
    where
      of : (found : Option PartNow) → part_among volume.store.parts part.0 ≡ found
          → left_among volume.store.parts part.0 state place (new_record request)
          ≡ option_map Standing (new_record request)
      of None is = absurd (laid is)
      of (Some one) is =
          subst (λ (n : ℕ). left_among volume.store.parts n state place (new_record request)
          ≡ option_map Standing (new_record request)) base
          (left-made volume.file.geometry case volume.store.parts parts-laid none one.shape
          (ap (shape_among volume.store.parts) base
          ∙ ap (λ (o : Option PartNow). option_map (λ (p : PartNow). p.shape) o) is)
          (asks-change case request place ready.at.place_is) place)

  -- the reply is that of a request that is done
  pub replied : IsDoneReply reply
  replied =
      let done = done-change case request (asks-change case request place ready.at.place_is) in
      record {
        feedback = done.feedback;
        shown = done.shown;
        bytes = done.bytes;
        is = ready.reply_is ∙ done.is;
      }

  pub may-reply : first_of (file_refusals case) ≡ None → MayReply case reply
  may-reply none = inl (subst (IsAnswered case) (sym ready.reply_is)
      (answered_done case none ready.at.unheld ready.at.unfull
      (change-ends case request (asks-change case request place ready.at.place_is))))

  -- a volume of which it was made is held by the state after it
  pub held-put : first_of (file_refusals case) ≡ None
      → (part_among volume.store.parts part.0 ≢ None) → (to file : FileNow) (store : StoreNow)
      (blocks : B) (after line : ℕ)
      → file.entries ≡ volume.file.entries → file.geometry ≡ volume.file.geometry
      → file.catalog ≡ volume.file.catalog
      → to ≡ with_event after unit line (Asked request reply) (lets_go unit.deck request file)
      → store.space ≡ volume.store.space → IsStateOf opening to
      → ((next : State) → IsMadeOf unit part place
      (left_among volume.store.parts part.0 state place (new_record request))
      (need_at volume.store unit part place old) state next
      → IsStored volume.number store next (seen blocks))
      → IsHeld seen opening (record volume { blocks = blocks; store = store; file = to })
  held-put none laid to file store blocks after line entries geometries catalogs leaves space is
      stored-by =
      let entry : Entry = entry_next file.entries after unit line (Asked request reply) in
      let done = replied in
      let next : State = after_asked case (Done done.feedback done.shown done.bytes) in
      let geometry : to.geometry ≡ volume.file.geometry =
      ap (λ (f : FileNow). f.geometry) leaves ∙ geometries in
      let leads : state_now opening to ≡ next =
      ap (λ (f : FileNow). state_now opening f) leaves
      ∙ state_of-append file.geometry opening file.entries entry
      ∙ ap (λ (es : List Entry). after_what file.geometry (state_of file.geometry opening es) unit
      entry.stamp (Asked request reply)) entries
      ∙ ap (λ (g : Geometry). after_what g (state_of g opening volume.file.entries) unit
      entry.stamp (Asked request reply)) geometries
      ∙ ap (λ (r : Reply). after_asked case r) done.is in
      let made : IsChanged case place next = after_change volume.file.geometry state unit request
      place done.feedback done.shown done.bytes none-built ready.at.place_is in
      let owned : (state_now opening to).owned ≡ state.owned =
      ap (λ (s : State). s.owned) leads ∙ made.owned in
      record {
        file = is;
        free = cc (is-held.free, geometry, owned, space);
        owned = owned-same volume.store.space store.space _ _ space owned is-held.owned;
        unlaid = λ on. unlaid-same volume.file.geometry to.geometry volume.file.catalog to.catalog
            volume.store.space store.space geometry
            (ap (λ (f : FileNow). f.catalog) leaves ∙ catalogs) space (is-held.unlaid going);
        stored = λ on. subst (λ (s : State). IsStored volume.number store s (seen blocks))
            (sym leads) (stored-by next
            (subst (λ (item : Option Item). IsMadeOf unit part place item
            (need_at volume.store unit part place old) state next)
            (sym (made-left none laid)) (made-of next made)));
      }

  pub to-make-laid : Left (seen volume.blocks) (seen volume.blocks).cur
      → (part_among volume.store.parts part.0 ≢ None)
      → IsToMake volume.number volume.store unit part place old state (seen volume.blocks)
  to-make-laid left laid = of (part_among volume.store.parts part.0) refl
    where
      of : (found : Option PartNow) → part_among volume.store.parts part.0 ≡ found
          → IsToMake volume.number volume.store unit part place old state (seen volume.blocks)
      of None is = absurd (laid is)
      of (Some one) is = to-make left one is

-- ---- its entry

pub entered-change : {before now : Faults} {after : ℕ} {unit : UnitOfRecovery} {line : ℕ}
    {request : Request} (reply : Reply) (old mid new : FileNow)
    → mid ≡ record old { locks = mid.locks }
    → new ≡ with_event after unit line (Asked request reply) (lets_go unit.deck request mid)
    → HasReplyCause before now reply → is_write_fault reply ≡ false
    → IsEnteredFor before now after unit line request old new
entered-change {after = after} {unit = unit} {line = line} {request = request} reply old mid new is
    leaves cause going = record {
      entered = record {
        reply = reply;
        leaves = subst (λ (f : FileNow). f ≡ with_event after unit line (Asked request reply)
            (record old { locks = f.locks; files = f.files; files_room = f.files_room }))
            (sym (leaves ∙ ap (λ (f : FileNow). with_event after unit line (Asked request reply)
            (lets_go unit.deck request f)) is)) refl;
      };
      cause = cause;
      going = going;
    }
