-- The entries of an edit of the catalog, one record after another, in a history.
use Rattle.std.proofs.Common.{◌≡◌, ℕ, ◌+◌, ◌==◌, ◌&&◌, Bool, true, false, if◌then◌else◌, List}
use Rattle.std.proofs.Common.{[], ◌∷◌, ◌++◌, map, Option, Some, None, inl, refl, sym, ap, ◌∙◌, subst}
use Rattle.std.proofs.Common.{append_assoc, arith}
use Rattle.std.proofs.lemmas.List.{append-nil}
use Rattle.std.specs.List.{AllZip}
use Rattle.vr_browse.specs.Positions.{position_of}
use Rattle.vr_browse.specs.declared.positions.FilePosition.{FilePosition}
use Rattle.vr_types.specs.Position.{unheld}
use Rattle.vr_types.specs.declared.geometry.Geometry.{Geometry}
use Rattle.vr_types.specs.declared.position.Position.{Position}
use Rattle.vr_types.specs.declared.reply.Reply.TheVariants.{Done}
use Rattle.vr_types.specs.declared.request.FileRef.{FileRef}
use Rattle.vr_types.specs.declared.request.Request.{Request}
use Rattle.vr_types.specs.declared.request.Request.TheVariants.{Add}
use Rattle.vr_types.specs.declared.unit.Mode.TheVariants.{Exclusive}
use Rattle.vr_types.specs.declared.unit.Unit.{Unit as UnitOfRecovery}
use Rattle.vr_history.specs.declared.entry.Entry.{Entry}
use Rattle.vr_history.specs.declared.entry.What.TheVariants.{Asked}
use Rattle.vr_history.specs.Effects.{drops_held}
use Rattle.vr_history.specs.Legal.{IsLegal, state_of}
use Rattle.vr_history.specs.Names.{with_locks}
use Rattle.vr_history.specs.Replies.{MayReply}
use Rattle.vr_history.specs.State.{BeforeImage, Logged, State, is_live}
use Rattle.vr_history.specs.Step.{IsOfUnit, after_asked, case_of}
use Rattle.vr_history.proofs.CallerLemmas.{state_of-append}
use Rattle.vr_answer.specs.Scope.{HasNoneBuilt}
use Rattle.vr_record_file.specs.CatalogEdit.{IsAddOf, IsChangeOf, IsStepOf, RecordChange}
use Rattle.vr_record_file.specs.CatalogEdit.{change_asked, image_of, logged_of, name_of, step_made}
use Rattle.vr_record_file.specs.CatalogEdit.{steps_made, with_records}
use Rattle.vr_record_file.specs.Now.{FileNow, entry_next, files_let_go}
use Rattle.vr_record_file.specs.declared.entry_step.EntryStep.{EntryStep}
use Rattle.vr_record_file.specs.declared.entry_step.EntryStep.TheVariants as Steps
use Rattle.vr_record_file.proofs.Legal.{NoUtilityUndoes, legal-append, utilities-append}
use Rattle.vr_record_file.proofs.RecordAdded as adds
use Rattle.vr_record_file.proofs.RecordChanged as changes_of
use Rattle.vr_record_file.proofs.RecordGot as gets
use Rattle.vr_record_file.proofs.RecordSteps.{IsStepMade, MayStep, step_need}
use Rattle.vr_record_file.proofs.RecordsApart.{MaySteps, live_now, may_first, may_rest, need_after}
use Rattle.vr_record_file.proofs.Steps.{without_held-of}

-- ---- what isn't changed

-- the record file with the entries and the positions of another
abbrev pub entered_of : FileNow → FileNow → FileNow
entered_of file to =
    record file { files = to.files; entries = to.entries; room = to.room }

step_keeps : (after line : ℕ) (unit : UnitOfRecovery) (step : EntryStep) (file : FileNow)
    → step_made after unit line step file
    ≡ entered_of file (step_made after unit line step file)
step_keeps after line unit (Steps.Change get change got changed shown) file = refl
step_keeps after line unit (Steps.Add add added) file = refl

-- all but those is as it was
pub steps_keep : (after line : ℕ) (unit : UnitOfRecovery) (steps : List EntryStep) (file : FileNow)
    → steps_made after unit line steps file
    ≡ entered_of file (steps_made after unit line steps file)
steps_keep after line unit [] file = refl
steps_keep after line unit (step ∷ steps) file =
    let made : FileNow = steps_made 0 unit line steps (step_made after unit line step file) in
    steps_keep 0 line unit steps (step_made after unit line step file)
    ∙ ap (λ (to : FileNow). entered_of to made) (step_keeps after line unit step file)

-- ---- what they leave of the state

-- where files stand, and what they hold, once its records were changed by a file
abbrev pub positions_left : ℕ → FileRef → List RecordChange → State → ℕ → ℕ → Position
positions_left deck on [] state d s = state.positions d s
positions_left deck on (change ∷ changes) state d s =
    (drops_held deck (Some on) state).positions d s

-- All of them are made under their locks, and their before-images are kept and logged.
pub record AreStepsMade (unit : UnitOfRecovery) (on : FileRef) (changes : List RecordChange)
    (old new : State) : Type 0 where
  pub contents : new.contents ≡ with_records changes old.contents
  pub befores : new.befores ≡ old.befores ++ map (image_of unit) changes
  pub logged : new.logged ≡ old.logged ++ map (logged_of unit) changes
  pub used : new.used ≡ old.used + need_after (is_live old unit) changes
  pub locks : new.locks ≡ with_locks unit Exclusive (map name_of changes) old.locks
  pub positions : (deck slot : ℕ) → new.positions deck slot
      ≡ positions_left unit.deck on changes old deck slot
  pub numbers : new.numbers ≡ old.numbers
  pub owned : new.owned ≡ old.owned
  pub stopped : new.stopped ≡ None
  pub unbuilt : HasNoneBuilt new

plus_none : (n : ℕ) → n ≡ n + 0
plus_none n = omega arith

plus_more : (n m k : ℕ) → n + m + k ≡ n + (m + k)
plus_more n m k = omega arith

none_made : (unit : UnitOfRecovery) (on : FileRef) (old : State) → old.stopped ≡ None
    → HasNoneBuilt old → AreStepsMade unit on [] old old
none_made unit on old going unbuilt = record {
  contents = refl;
  befores = sym (append-nil old.befores);
  logged = sym (append-nil old.logged);
  used = plus_none old.used;
  locks = refl;
  positions = λ d s. refl;
  numbers = refl;
  owned = refl;
  stopped = going;
  unbuilt = unbuilt;
}

-- a file that lets go twice holds nothing, as one that lets go once
let_go_twice : (b : Bool) (position : Position)
    → (if b then unheld (if b then unheld position else position) else
    if b then unheld position else position) ≡ (if b then unheld position else position)
let_go_twice true position = refl
let_go_twice false position = refl

module _ (unit : UnitOfRecovery) (on : FileRef) (change : RecordChange)
    (old first new : State) (made : IsStepMade unit on change old first)
    (live : is_live first unit ≡ true) where
  dropped : (d s : ℕ) (changes : List RecordChange)
      → positions_left unit.deck on changes first d s
      ≡ (drops_held unit.deck (Some on) old).positions d s
  dropped d s [] = made.positions d s
  dropped d s (other ∷ changes) =
      ap (λ (p : Position). if d == unit.deck && s == on.slot then unheld p else p)
      (made.positions d s)
      ∙ let_go_twice (d == unit.deck && s == on.slot) (old.positions d s)

  one_and_more : (changes : List RecordChange) → AreStepsMade unit on changes first new
      → AreStepsMade unit on (change ∷ changes) old new
  one_and_more changes more = record {
    contents = more.contents ∙ ap (with_records changes) made.contents;
    befores = more.befores ∙ ap (λ (l : List BeforeImage). l ++ map (image_of unit) changes)
        made.befores
        ∙ append_assoc old.befores (image_of unit change ∷ []) (map (image_of unit) changes);
    logged = more.logged ∙ ap (λ (l : List Logged). l ++ map (logged_of unit) changes) made.logged
        ∙ append_assoc old.logged (logged_of unit change ∷ []) (map (logged_of unit) changes);
    used = more.used
        ∙ ap (λ (b : Bool). first.used + need_after b changes) live
        ∙ ap (λ (n : ℕ). n + need_after true changes) made.used
        ∙ plus_more old.used (step_need old unit change) (need_after true changes);
    locks = more.locks
        ∙ ap (with_locks unit Exclusive (map name_of changes)) made.locks;
    positions = λ d s. more.positions d s ∙ dropped d s changes;
    numbers = more.numbers ∙ made.numbers;
    owned = more.owned ∙ made.owned;
    stopped = more.stopped;
    unbuilt = more.unbuilt;
  }

-- ---- the entries

-- The history is legal, no unit of the utilities has begun to undo, the unit is its deck's current
-- one, and the files in memory are those of the state.
pub record IsOnWay (geometry : Geometry) (opening : State) (unit : UnitOfRecovery)
    (file : FileNow) : Type 0 where
  pub legal : IsLegal geometry opening file.entries
  pub quiet : NoUtilityUndoes file.entries
  pub current : IsOfUnit (state_of geometry opening file.entries) unit
  pub positions : (deck slot : ℕ) → position_of file.files deck slot
      ≡ (state_of geometry opening file.entries).positions deck slot

module _ (geometry : Geometry) (opening : State) (unit : UnitOfRecovery) (line : ℕ)
    (utility : unit.deck ≡ 0) where
  -- a request with its reply
  module _ (entries : List Entry) (after : ℕ) (request : Request) (feedback : ℕ)
      (place shown : Option (List ℕ)) where
    abbrev state : State
    state = state_of geometry opening entries

    abbrev next : Entry
    next = entry_next entries after unit line (Asked request (Done feedback place shown))

    asked_state : state_of geometry opening (entries ++ next ∷ [])
        ≡ after_asked (case_of geometry state unit request) (Done feedback place shown)
    asked_state = state_of-append geometry opening entries next

    asked_quiet : NoUtilityUndoes entries → NoUtilityUndoes (entries ++ next ∷ [])
    asked_quiet quiet = utilities-append entries next (inl (quiet unit utility)) quiet

    asked_legal : IsLegal geometry opening entries → NoUtilityUndoes entries
        → IsOfUnit state unit
        → MayReply (case_of geometry state unit request) (Done feedback place shown)
        → IsLegal geometry opening (entries ++ next ∷ [])
    asked_legal legal quiet current may =
        legal-append geometry opening entries next legal (current, may)
        (inl (quiet unit utility)) refl

  -- what was done with one record, and that the way goes on
  abbrev IsThere : FileRef → RecordChange → FileNow → FileNow → Type 0
  IsThere on change file to = IsOnWay geometry opening unit to
      × IsStepMade unit on change (state_of geometry opening file.entries)
      (state_of geometry opening to.entries)

  module _ (file : FileNow) (after : ℕ) (on : FileRef) (change : RecordChange)
      (way : IsOnWay geometry opening unit file)
      (may : MayStep geometry (state_of geometry opening file.entries) unit on change) where
    abbrev old : State
    old = state_of geometry opening file.entries

    abbrev place : List ℕ
    place = change.place

    memory_dropped : (files : List FilePosition) (d s : ℕ)
        → ((d s : ℕ) → position_of files d s ≡ old.positions d s)
        → position_of (files_let_go unit.deck (Some on) files) d s
        ≡ (drops_held unit.deck (Some on) old).positions d s
    memory_dropped files d s same = without_held-of unit.deck on.slot files d s
        ∙ ap (λ (p : Position). if d == unit.deck && s == on.slot then unheld p else p) (same d s)

    still_current : (new : State) → IsStepMade unit on change old new → IsOfUnit new unit
    still_current new made = way.current ∙ ap (λ (n : ℕ → ℕ). n unit.deck) (sym made.numbers)

    -- ---- a record that was got, and replaced or erased

    module _ (before : List ℕ) (stood : change.old ≡ Some before) (get asked : Request)
        (got changed : List ℕ)
        (is : IsChangeOf on get asked got changed before change) where
      abbrev reading : Request
      reading = gets.getting on place

      abbrev asking : Request
      asking = change_asked on change.new

      abbrev taken : EntryStep
      taken = Steps.Change reading asking place place before

      abbrev with_get : List Entry
      with_get = file.entries
          ++ next file.entries after reading 0 (Some place) (Some before) ∷ []

      abbrev to : FileNow
      to = step_made after unit line taken file

      after_get : state_of geometry opening with_get
          ≡ gets.entry_held geometry old unit on place
      after_get = asked_state file.entries after reading 0 (Some place) (Some before)
          ∙ gets.after_get geometry old unit on change may before stood is.key_length

      legal_get : IsLegal geometry opening with_get
      legal_get = asked_legal file.entries after reading 0 (Some place) (Some before) way.legal
          way.quiet way.current
          (gets.may_get geometry old unit on change may before stood is.key_length)

      quiet_get : NoUtilityUndoes with_get
      quiet_get = asked_quiet file.entries after reading 0 (Some place) (Some before) way.quiet

      after_change : state_of geometry opening to.entries
          ≡ changes_of.with_entry geometry old unit on change.new place
      after_change = asked_state with_get 0 asking 0 (Some place) None
          ∙ ap (λ (s : State). after_asked (case_of geometry s unit asking)
          (Done 0 (Some place) None)) after_get

      made : IsStepMade unit on change old (state_of geometry opening to.entries)
      made = subst (IsStepMade unit on change old) (sym after_change)
          (changes_of.changed_is geometry old unit on change may before stood is.valid
          is.keeps_key)

      legal_change : IsLegal geometry opening to.entries
      legal_change = asked_legal with_get 0 asking 0 (Some place) None legal_get quiet_get
          (subst (λ (s : State). IsOfUnit s unit) (sym after_get) way.current)
          (subst (λ (s : State). MayReply (case_of geometry s unit asking)
          (Done 0 (Some place) None)) (sym after_get)
          (changes_of.may_change geometry old unit on change may before stood is.valid
          is.keeps_key))

      let_go_both : (d s : ℕ) → position_of to.files d s
          ≡ (drops_held unit.deck (Some on) old).positions d s
      let_go_both d s =
          ap (λ (o : Option FileRef). position_of (files_let_go unit.deck o
          (files_let_go unit.deck (Some on) file.files)) d s)
          (changes_of.change_file on change.new)
          ∙ without_held-of unit.deck on.slot (files_let_go unit.deck (Some on) file.files) d s
          ∙ ap (λ (p : Position). if d == unit.deck && s == on.slot then unheld p else p)
          (memory_dropped file.files d s way.positions)
          ∙ let_go_twice (d == unit.deck && s == on.slot) (old.positions d s)

      changed_there : IsThere on change file to
      changed_there = (
        record {
          legal = legal_change;
          quiet = asked_quiet with_get 0 asking 0 (Some place) None quiet_get;
          current = still_current (state_of geometry opening to.entries) made;
          positions = λ d s. let_go_both d s ∙ sym (made.positions d s);
        },
        made,
      )

      same_step : Steps.Change get asked got changed before ≡ taken
      same_step =
          ap (λ (r : Request). Steps.Change r asked got changed before) is.get_is
          ∙ ap (λ (r : Request). Steps.Change reading r got changed before) is.change_is
          ∙ ap (λ (p : List ℕ). Steps.Change reading asking p changed before) is.got_is
          ∙ ap (λ (p : List ℕ). Steps.Change reading asking place p before) is.changed_is

    -- ---- a record that was added

    module _ (add : Request) (added : List ℕ) (is : IsAddOf on add added change) where
      abbrev adding : Request
      adding = Add on None is.bytes

      abbrev with_add : FileNow
      with_add = step_made after unit line (Steps.Add adding place) file

      after_add : state_of geometry opening with_add.entries
          ≡ adds.with_added geometry old unit on is.bytes place
      after_add = asked_state file.entries after adding 0 (Some place) None

      made_add : IsStepMade unit on change old (state_of geometry opening with_add.entries)
      made_add = subst (IsStepMade unit on change old) (sym after_add)
          (adds.added_is geometry old unit on change may is.bytes is.old_is is.new_is is.valid
          is.key_is)

      added_there : IsThere on change file with_add
      added_there = (
        record {
          legal = asked_legal file.entries after adding 0 (Some place) None way.legal way.quiet
              way.current (adds.may_add geometry old unit on change may is.bytes is.old_is is.new_is
              is.valid is.key_is);
          quiet = asked_quiet file.entries after adding 0 (Some place) None way.quiet;
          current = still_current (state_of geometry opening with_add.entries) made_add;
          positions = λ d s. memory_dropped file.files d s way.positions
              ∙ sym (made_add.positions d s);
        },
        made_add,
      )

      same_add : Steps.Add add added ≡ Steps.Add adding place
      same_add = ap (λ (r : Request). Steps.Add r added) is.add_is
          ∙ ap (λ (p : List ℕ). Steps.Add adding p) is.added_is

    step_there : (step : EntryStep) → IsStepOf on step change
        → IsThere on change file (step_made after unit line step file)
    step_there (Steps.Change get asked got changed shown) is =
        subst (λ (step : EntryStep). IsThere on change file
        (step_made after unit line step file))
        (sym (same_step shown is.shown_is get asked got changed is))
        (changed_there shown is.shown_is get asked got changed is)
    step_there (Steps.Add add added) is =
        subst (λ (step : EntryStep). IsThere on change file
        (step_made after unit line step file)) (sym (same_add add added is))
        (added_there add added is)

  -- ---- all of them

  abbrev pub AreThere : FileRef → List RecordChange → FileNow → FileNow → Type 0
  AreThere on changes file to = IsOnWay geometry opening unit to
      × AreStepsMade unit on changes (state_of geometry opening file.entries)
      (state_of geometry opening to.entries)

  pub steps_there : (on : FileRef) (after : ℕ) (steps : List EntryStep)
      (changes : List RecordChange) (file : FileNow)
      → IsOnWay geometry opening unit file
      → MaySteps geometry (state_of geometry opening file.entries) unit on changes
      → AllZip (IsStepOf on) steps changes
      → AreThere on changes file (steps_made after unit line steps file)
  steps_there on after [] [] file way may are =
      (way, none_made unit on (state_of geometry opening file.entries) may.going may.unbuilt)
  steps_there on after [] (change ∷ changes) file way may are = absurd are
  steps_there on after (step ∷ steps) [] file way may are = absurd are
  steps_there on after (step ∷ steps) (change ∷ changes) file way may are =
      let old : State = state_of geometry opening file.entries in
      let to : FileNow = step_made after unit line step file in
      let first : State = state_of geometry opening to.entries in
      let here = step_there file after on change way
      (may_first geometry old unit on change changes may) step are.0 in
      let more = steps_there on 0 steps changes to here.0
      (may_rest geometry old unit on change changes may first here.1) are.1 in (
        more.0,
        one_and_more unit on change old first
            (state_of geometry opening (steps_made 0 unit line steps to).entries) here.1
            (live_now geometry old unit on change changes may first here.1) changes more.1,
      )
