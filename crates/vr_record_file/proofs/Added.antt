-- What the entries of a definition find, and what they leave of the state.
use Rattle.std.proofs.Common.{◌≡◌, ℕ, ◌+◌, ◌≤◌, ◌==◌, ◌&&◌, Bool, false, cond, List, [], ◌∷◌, ◌++◌}
use Rattle.std.proofs.Common.{Some, None, refl, sym, ap, ◌∙◌, subst}
use Rattle.std.specs.Prelude.{bytes_eq}
use Rattle.std.specs.List.{AllByRecursion}
use Rattle.vr_catalog.specs.declared.entry.CatEntry.{CatEntry}
use Rattle.vr_types.specs.Content.{Content}
use Rattle.vr_types.specs.Locks.{Lock, first_conflict, same_unit}
use Rattle.vr_types.specs.LogSpace.{end_length, log_size}
use Rattle.vr_types.specs.declared.geometry.Geometry.{Geometry}
use Rattle.vr_types.specs.declared.reply.Refusal.TheVariants.{WriteFault}
use Rattle.vr_types.specs.declared.reply.Reply.TheVariants.{Done, Refused}
use Rattle.vr_types.specs.declared.request.Request.{Request}
use Rattle.vr_types.specs.declared.request.Request.TheVariants.{Add, Commit}
use Rattle.vr_types.specs.declared.unit.AreaNo.{AreaNo}
use Rattle.vr_types.specs.declared.unit.Mode.TheVariants.{Exclusive}
use Rattle.vr_types.specs.declared.unit.PartNo.{PartNo}
use Rattle.vr_types.specs.declared.unit.Unit.{Unit as UnitOfRecovery}
use Rattle.vr_history.specs.Case.{file_of}
use Rattle.vr_history.specs.Effects.{claims, drops_held, with_change}
use Rattle.vr_history.specs.Names.{with_lock}
use Rattle.vr_history.specs.Replies.{MayReply}
use Rattle.vr_history.specs.State.{State, is_kept, is_live, is_logged}
use Rattle.vr_history.specs.Step.{after_asked, case_of}
use Rattle.vr_record_file.specs.CatalogEdit.{RecordChange, need_of}
use Rattle.vr_record_file.specs.Defining.{MayDefine, entry_change, entry_image, entry_logged}
use Rattle.vr_record_file.specs.Defining.{entry_name, need_to_define}
use Rattle.vr_record_file.specs.Now.{FileNow, IsKeptByDeck, IsOfDeck, IsStateOf, state_now}
use Rattle.vr_record_file.proofs.Left.{none_any}
use Rattle.vr_record_file.proofs.Legal.{utility_other}
use Rattle.vr_record_file.proofs.RecordAdded as adds
use Rattle.vr_record_file.proofs.RecordSteps.{IsStepMade, MayStep, may_commit, may_fail}

-- the part has its area
abbrev pub claimed : State → PartNo → AreaNo → State
claimed old part area = claims area.0 part.0 old

-- and its record is in the catalog
abbrev pub with_record : Geometry → State → UnitOfRecovery → PartNo → AreaNo → Request → List ℕ
    → State
with_record geometry old unit part area add place =
    after_asked (case_of geometry (claimed old part area) unit add) (Done 0 (Some place) None)

-- What the record leaves, before its unit ends: it was answered 0, and so may the COMMIT be, or a
-- fault of a write meets it.
pub record IsAdded (geometry : Geometry) (old : State) (unit : UnitOfRecovery) (part : PartNo)
    (area : AreaNo) (add : Request) (place bytes : List ℕ) (new : State) : Type 0 where
  pub may_add : MayReply (case_of geometry (claimed old part area) unit add)
      (Done 0 (Some place) None)
  pub may_commit : MayReply (case_of geometry new unit Commit) (Done 0 None None)
  pub may_fail : MayReply (case_of geometry new unit Commit) (Refused WriteFault)
  pub contents : (other : ℕ) → new.contents other
      ≡ with_change (entry_change place bytes) old.contents other
  pub befores : new.befores ≡ old.befores ++ entry_image unit place ∷ []
  pub logged : new.logged ≡ old.logged ++ entry_logged unit place ∷ []
  pub used : new.used ≡ old.used + need_to_define place
  pub locks : new.locks ≡ with_lock unit Exclusive (entry_name place) old.locks
  pub positions : new.positions ≡ (drops_held unit.deck (file_of add) old).positions
  pub numbers : new.numbers ≡ old.numbers
  pub owned : new.owned ≡ old.owned ++ record { area = area.0; part = part.0 } ∷ []
  pub stopped : new.stopped ≡ None

module _ (opening : State) (file : FileNow) (unit : UnitOfRecovery) (part : PartNo) (area : AreaNo)
    (add : Request) (place bytes : List ℕ) (commit : Request) (catalog : List CatEntry)
    (is : IsStateOf opening file)
    (may : MayDefine opening file unit part area add place bytes commit catalog) where
  abbrev old : State
  old = state_now opening file

  abbrev found : State
  found = claimed old part area

  abbrev adding : Request
  adding = Add may.on None bytes

  abbrev left : State
  left = with_record file.geometry old unit part area adding place

  abbrev change : RecordChange
  change = record { place = place; old = None; new = Some bytes }

  -- ---- what the unit has before

  decks : AllByRecursion IsOfDeck old.logged
  decks = is.now.of_decks may.going

  not_logged : (at : ℕ) → is_logged found unit at place ≡ false
  not_logged at = none_any IsOfDeck (λ logged. same_unit unit logged.unit
      && (logged.part == at && bytes_eq place logged.place))
      (λ logged of_deck. ap (λ (b : Bool). b && (logged.part == at && bytes_eq place logged.place))
      (utility_other unit logged.unit may.of_utilities of_deck.0)) old.logged decks

  not_live : is_live found unit ≡ false
  not_live = none_any IsOfDeck (λ logged. same_unit unit logged.unit)
      (λ logged of_deck. utility_other unit logged.unit may.of_utilities of_deck.0) old.logged decks

  not_kept : (at : ℕ) → is_kept found unit at place ≡ false
  not_kept at = none_any IsKeptByDeck (λ kept. same_unit unit kept.unit
      && (kept.part == at && bytes_eq place kept.place))
      (λ kept of_deck. ap (λ (b : Bool). b && (kept.part == at && bytes_eq place kept.place))
      (utility_other unit kept.unit may.of_utilities of_deck)) old.befores
      (is.now.kept_by_decks may.going)

  -- ---- what the record finds, and leaves

  may_step : MayStep file.geometry found unit may.on change
  may_step = record {
    going = sym is.now.stopped ∙ may.going;
    of_utilities = may.of_utilities;
    on_catalog = may.on_catalog;
    known = may.known;
    no_path = may.no_path;
    unbuilt = is.now.unbuilt;
    not_logged = not_logged 0;
    not_kept = not_kept 0;
    stands = may.absent;
    unlocked = ap (λ (l : List Lock). first_conflict l unit Exclusive (entry_name place))
        (sym (is.now.locks may.going)) ∙ may.unlocked;
    room = subst (λ (b : Bool). old.used + (need_of change + cond b 0 end_length)
        ≤ log_size file.geometry) (sym not_live) may.room;
  }

  made : IsStepMade unit may.on change found left
  made = adds.added_is file.geometry found unit may.on change may_step bytes refl refl may.valid
      (sym may.place_is)

  added_here : IsAdded file.geometry old unit part area adding place bytes left
  added_here = record {
    may_add = adds.may_add file.geometry found unit may.on change may_step bytes refl refl
        may.valid (sym may.place_is);
    may_commit = may_commit file.geometry left unit made.stopped;
    may_fail = may_fail file.geometry left unit made.stopped;
    contents = λ other. ap (λ (c : ℕ → Content). c other) made.contents;
    befores = made.befores;
    logged = made.logged;
    used = made.used
        ∙ ap (λ (b : Bool). old.used + (need_of change + cond b 0 end_length)) not_live;
    locks = made.locks;
    positions = adds.positions_are file.geometry found unit may.on change may_step bytes refl refl
        may.valid (sym may.place_is);
    numbers = made.numbers;
    owned = made.owned;
    stopped = made.stopped;
  }

  pub added_is : IsAdded file.geometry old unit part area add place bytes
      (with_record file.geometry old unit part area add place)
  added_is = subst (λ (r : Request). IsAdded file.geometry old unit part area r place bytes
      (with_record file.geometry old unit part area r place)) (sym may.add_is) added_here
