-- A request that is answered that there is no space, and what its part lacks.
use Rattle.std.proofs.Common.{◌≡◌, ◌∙◌, ⊎_elim, ℕ, Bool, true, false, List, [], ◌∷◌, ◌++◌, Option}
use Rattle.std.proofs.Common.{Some, None, ◌||◌, refl, sym, ap, subst, append_assoc, length}
use Rattle.std.specs.Prelude.{All, Contains}
use Rattle.std.specs.Option.{option_and_then, option_map}
use Rattle.std.proofs.lemmas.List.{append-nil, append_cancel_left}
use Rattle.std.proofs.lemmas.List.Elements.{All-cons, All-contains, All-nil}
use Rattle.vr_types.specs.Faults.{Faults}
use Rattle.vr_types.specs.Seen.{Seen}
use Rattle.vr_types.specs.declared.fault.DeviceFault.TheVariants.{Write}
use Rattle.vr_types.specs.declared.geometry.Geometry.{Geometry}
use Rattle.vr_types.specs.declared.reply.Refusal.{Refusal}
use Rattle.vr_types.specs.declared.reply.Refusal.TheVariants.{Memory, NoFile, NoSpace, ReadFault}
use Rattle.vr_types.specs.declared.reply.Refusal.TheVariants.{Stopped, WriteFault}
use Rattle.vr_types.specs.declared.reply.Reply.{Reply}
use Rattle.vr_types.specs.declared.reply.Reply.TheVariants.{Done as DoneReply, Refused}
use Rattle.vr_types.specs.declared.request.FileRef.{FileRef}
use Rattle.vr_types.specs.declared.request.Request.{Request}
use Rattle.vr_types.specs.declared.unit.AreaNo.{AreaNo}
use Rattle.vr_types.specs.declared.unit.PartNo.{PartNo}
use Rattle.vr_types.specs.declared.unit.Unit.{Unit as UnitOfRecovery}
use Rattle.vr_catalog.specs.declared.entry.CatEntry.{CatEntry}
use Rattle.vr_attach.specs.Laid.{shape_in}
use Rattle.vr_answer.specs.Here.{base_here}
use Rattle.vr_history.specs.Case.{Case, file_of}
use Rattle.vr_history.specs.Change.{place_changed}
use Rattle.vr_history.specs.Legal.{AreSteps}
use Rattle.vr_history.specs.Opened.{opened}
use Rattle.vr_history.specs.RefusedFile.{is_catalog_changing, is_unknown, refused_if}
use Rattle.vr_history.specs.Replies.{MayReply, first_of, refused_or}
use Rattle.vr_history.specs.State.{State}
use Rattle.vr_history.specs.Step.{MayEnter, case_of}
use Rattle.vr_history.specs.declared.entry.Entry.{Entry}
use Rattle.vr_history.specs.declared.entry.What.{What}
use Rattle.vr_history.specs.declared.entry.What.TheVariants.{Asked, Claimed, Faulted, Split, Undone}
use Rattle.vr_record_file.specs.Now.{FileNow, asked_failing, ended, entry_next, failed, state_now}
use Rattle.vr_record_file.specs.Now.{with_event}
use Rattle.vr_space.specs.Part.{room_of}
use Rattle.vr_space.specs.declared.room.Room.TheVariants as answers
use Rattle.vr_store.specs.Store.{IsRestedPart, PartNow}
use Rattle.vr_store.proofs.CallerLemmas.{rested-at}
use Rattle.vr_undo.specs.Records.{images_in}
use Rattle.vr_volume.specs.PutBack.{lengths_kept}
use Rattle.vr_event.specs.Acting.{HasStepped, IsActed, IsAnsweredFor}
use Rattle.vr_event.specs.Getting.{IsEntered}
use Rattle.vr_event.specs.Lacking.{IsLacking}
use Rattle.vr_event.specs.Volume.{IsHeld, IsWhole, VolumeNow}
use Rattle.vr_event.specs.declared.act.Act.{Act}
use Rattle.vr_event.specs.declared.act.Act.TheVariants.{Again, Done}
use Rattle.vr_job.specs.Events.{LackAreas}
use Rattle.vr_job.specs.Lacking.{LacksArea}
use Rattle.vr_job.proofs.Placing.{HasPlace, space-place}
use Rattle.vr_job.proofs.Stopping.{step-at}

-- ---- the entry of such a request

-- it is answered that there is no space
abbrev AnswersNoSpace : What → Type 0
AnswersNoSpace what =
    (request : Request) × (need : ℕ) × (free : ℕ)
    × (what ≡ Asked request (Refused (NoSpace need free)))

abbrev AnswersElse : Entry → Type 0
AnswersElse entry = ¬ AnswersNoSpace entry.what

else-done : (request : Request) (feedback : ℕ) (place bytes : Option (List ℕ))
    → ¬ AnswersNoSpace (Asked request (DoneReply feedback place bytes))
else-done request feedback place bytes is = differ is.0 is.1 is.2 is.3
  where
    differ : (asked : Request) (need free : ℕ) → Asked request (DoneReply feedback place bytes)
        ≡ Asked asked (Refused (NoSpace need free)) → ⊥
    differ asked need free same = cc

else-failing : (request : Request) → ¬ AnswersNoSpace (Asked request (Refused WriteFault))
else-failing request is = differ is.0 is.1 is.2 is.3
  where
    differ : (asked : Request) (need free : ℕ) → Asked request (Refused WriteFault)
        ≡ Asked asked (Refused (NoSpace need free)) → ⊥
    differ asked need free same = cc

else-faulted : ¬ AnswersNoSpace (Faulted Write)
else-faulted is = differ is.0 is.1 is.2 is.3
  where
    differ : (asked : Request) (need free : ℕ) → Faulted Write
        ≡ Asked asked (Refused (NoSpace need free)) → ⊥
    differ asked need free same = cc

else-split : (part : PartNo) → ¬ AnswersNoSpace (Split part)
else-split part is = differ is.0 is.1 is.2 is.3
  where
    differ : (asked : Request) (need free : ℕ) → Split part
        ≡ Asked asked (Refused (NoSpace need free)) → ⊥
    differ asked need free same = cc

else-claimed : (part : PartNo) (area : AreaNo) → ¬ AnswersNoSpace (Claimed part area)
else-claimed part area is = differ is.0 is.1 is.2 is.3
  where
    differ : (asked : Request) (need free : ℕ) → Claimed part area
        ≡ Asked asked (Refused (NoSpace need free)) → ⊥
    differ asked need free same = cc

else-undone : (part : PartNo) (place : List ℕ) → ¬ AnswersNoSpace (Undone part place)
else-undone part place is = differ is.0 is.1 is.2 is.3
  where
    differ : (asked : Request) (need free : ℕ) → Undone part place
        ≡ Asked asked (Refused (NoSpace need free)) → ⊥
    differ asked need free same = cc

-- It is the one entry of its event, which was entered so.
pub record IsEnteredAlone (after : ℕ) (unit : UnitOfRecovery) (line : ℕ) (request : Request)
    (old new : FileNow) (made : List Entry) (entry : Entry) (asked : Request) (need free : ℕ)
    : Type 0 where
  pub entered : IsEntered after unit line request old new
  pub made_is : made ≡ entry ∷ []
  pub unit_is : entry.unit ≡ unit
  pub request_is : asked ≡ request
  pub reply_is : entered.reply ≡ Refused (NoSpace need free)

same-request : (request asked : Request) (reply other : Reply)
    → Asked request reply ≡ Asked asked other → asked ≡ request
same-request request asked reply other same = cc

same-reply : (request asked : Request) (reply other : Reply)
    → Asked request reply ≡ Asked asked other → reply ≡ other
same-reply request asked reply other same = cc

module _ (old new : FileNow) (made : List Entry) (entries : new.entries ≡ old.entries ++ made)
    (entry : Entry) (among : Contains made entry) (asked : Request) (need free : ℕ)
    (answered : entry.what ≡ Asked asked (Refused (NoSpace need free))) where
  -- no other event has it
  not-else : (these : List Entry) → made ≡ these → All AnswersElse these → ⊥
  not-else these are none = All-contains AnswersElse these entry none
      (subst (λ (them : List Entry). Contains them entry) are among) (asked, need, free, answered)

  one-made : (after : ℕ) (unit : UnitOfRecovery) (line : ℕ) (what : What) (mid : FileNow)
      → new ≡ with_event after unit line what mid → mid.entries ≡ old.entries
      → made ≡ entry_next mid.entries after unit line what ∷ []
  one-made after unit line what mid leaves same = append_cancel_left old.entries made _
      (sym entries ∙ ap (λ (f : FileNow). f.entries) leaves
      ∙ ap (λ (es : List Entry). es ++ entry_next mid.entries after unit line what ∷ []) same)

  not-one : (after : ℕ) (unit : UnitOfRecovery) (line : ℕ) (what : What) (mid : FileNow)
      → new ≡ with_event after unit line what mid → mid.entries ≡ old.entries
      → ¬ AnswersNoSpace what → ⊥
  not-one after unit line what mid leaves same else = not-else _
      (one-made after unit line what mid leaves same)
      (All-cons AnswersElse (entry_next mid.entries after unit line what) [] else
      (All-nil AnswersElse))

  not-failed : (after : ℕ) (unit : UnitOfRecovery) (line : ℕ) (request : Request) (mid : FileNow)
      → new ≡ failed after unit line request mid → mid.entries ≡ old.entries → ⊥
  not-failed after unit line request mid fails same = not-else _
      (append_cancel_left old.entries made _ (sym entries ∙ ap (λ (f : FileNow). f.entries) fails
      ∙ append_assoc mid.entries (first ∷ []) (second ∷ [])
      ∙ ap (λ (es : List Entry). es ++ first ∷ second ∷ []) same))
      (All-cons AnswersElse first (second ∷ []) (else-failing request)
      (All-cons AnswersElse second [] else-faulted (All-nil AnswersElse)))
    where
      first : Entry
      first = entry_next mid.entries after unit line (Asked request (Refused WriteFault))

      second : Entry
      second = entry_next (asked_failing after unit line request mid).entries 0 unit line
          (Faulted Write)

  not-stepped : (after : ℕ) (unit : UnitOfRecovery) (line : ℕ) (request : Request)
      → HasStepped after unit line request old new → ⊥
  not-stepped after unit line request is = ⊎_elim
      (λ same. not-else []
      (append_cancel_left old.entries made [] (sym entries ∙ ap (λ (f : FileNow). f.entries) same
      ∙ sym (append-nil old.entries))) (All-nil AnswersElse))
      (λ step. ⊎_elim
      (λ split. not-one after unit line (Split split.0) old split.1 refl (else-split split.0))
      (λ later. ⊎_elim
      (λ claim. not-one after unit line (Claimed claim.0 claim.1) old claim.2 refl
      (else-claimed claim.0 claim.1))
      (λ back. not-one after unit line (Undone back.1 back.2) old back.3 refl
      (else-undone back.1 back.2)) later) step) is

  entered-alone : (after : ℕ) (unit : UnitOfRecovery) (line : ℕ) (request : Request)
      → IsEntered after unit line request old new
      → IsEnteredAlone after unit line request old new made entry asked need free
  entered-alone after unit line request entered = record {
    entered = entered;
    made_is = one ∙ ap (λ (this : Entry). this ∷ []) is;
    unit_is = ap (λ (this : Entry). this.unit) (sym is);
    request_is = same-request request asked entered.reply (Refused (NoSpace need free)) whats;
    reply_is = same-reply request asked entered.reply (Refused (NoSpace need free)) whats;
  }
    where
      this : Entry
      this = entry_next old.entries after unit line (Asked request entered.reply)

      one : made ≡ this ∷ []
      one = one-made after unit line (Asked request entered.reply)
          (record old { locks = new.locks; files = new.files; files_room = new.files_room })
          entered.leaves refl

      is : this ≡ entry
      is = All-contains (λ (other : Entry). this ≡ other) (this ∷ []) entry
          (All-cons (λ (other : Entry). this ≡ other) this [] refl
          (All-nil (λ (other : Entry). this ≡ other)))
          (subst (λ (them : List Entry). Contains them entry) one among)

      whats : Asked request entered.reply ≡ Asked asked (Refused (NoSpace need free))
      whats = ap (λ (e : Entry). e.what) is ∙ answered

  answered-alone : (before now : Faults) (after : ℕ) (unit : UnitOfRecovery) (line : ℕ)
      (request : Request) → IsAnsweredFor before now after unit line request old new
      → IsEnteredAlone after unit line request old new made entry asked need free
  answered-alone before now after unit line request is = ⊎_elim
      (λ entered. entered-alone after unit line request entered.entered)
      (λ further. ⊎_elim
      (λ over. absurd (not-one after unit line (Asked request (DoneReply 0 None None))
      (ended unit old) over.1 refl (else-done request 0 None None)))
      (λ fails. absurd (not-failed after unit line request (record old { locks = new.locks })
      fails.0 refl)) further) is

  pub acted-alone : (before now : Faults) (act : Act) (after : ℕ) (unit : UnitOfRecovery)
      (line : ℕ) (request : Request) → IsActed before now act after unit line request old new
      → IsEnteredAlone after unit line request old new made entry asked need free
  acted-alone before now Done after unit line request is =
      answered-alone before now after unit line request is.by
  acted-alone before now (Again given) after unit line request is =
      absurd (not-stepped after unit line request is.by.1)

-- ---- it comes where the volume goes on

by-stopped : (stopped : Option ℕ) (rest : List (Option Refusal)) (done : Reply) (need free : ℕ)
    → Refused (NoSpace need free) ≡ refused_or (first_of (option_map Stopped stopped ∷ rest)) done
    → stopped ≡ None
by-stopped None rest done need free same = refl
by-stopped (Some stamp) rest done need free same = absurd cc

by-file : (file : Option FileRef) (unknown : Bool) (stopped : Option ℕ)
    (rest : List (Option Refusal)) (done : Reply) (need free : ℕ)
    → Refused (NoSpace need free)
    ≡ refused_or (first_of (option_and_then (λ (one : FileRef). refused_if unknown NoFile) file
    ∷ option_map Stopped stopped ∷ rest)) done → stopped ≡ None
by-file None unknown stopped rest done need free same =
    by-stopped stopped rest done need free same
by-file (Some file) true stopped rest done need free same = absurd cc
by-file (Some file) false stopped rest done need free same =
    by-stopped stopped rest done need free same

second-none : (first : Option Refusal) (stopped : Option ℕ) (rest : List (Option Refusal))
    → first_of (first ∷ option_map Stopped stopped ∷ rest) ≡ None → stopped ≡ None
second-none None None rest none = refl
second-none None (Some stamp) rest none = absurd cc
second-none (Some refusal) stopped rest none = absurd cc

space-going : (case : Case) (need free : ℕ) → MayReply case (Refused (NoSpace need free))
    → case.state.stopped ≡ None
space-going case need free is = ⊎_elim
    (λ answered. by-file (file_of case.request)
    (is_unknown (opened case) || is_catalog_changing case) case.state.stopped _ _ need free
    answered.0)
    (λ lacks. ⊎_elim (λ room. second-none _ case.state.stopped _ room.0)
    (λ further. ⊎_elim (λ memory. absurd (no-memory memory.2))
    (λ faults. ⊎_elim (λ write. absurd (no-write write))
    (λ read. absurd (no-read read.1)) faults.1) further) lacks) is
  where
    no-memory : Refused (NoSpace need free) ≡ Refused Memory → ⊥
    no-memory same = cc

    no-write : Refused (NoSpace need free) ≡ Refused WriteFault → ⊥
    no-write same = cc

    no-read : Refused (NoSpace need free) ≡ Refused ReadFault → ⊥
    no-read same = cc

-- ---- what the part lacks

module _ {B : Type 0} (seen : B → Seen) (opening : State) (volume : VolumeNow B)
    (whole : IsWhole seen volume) (held : IsHeld seen opening volume) where
  abbrev state : State
  state = state_now opening volume.file

  area-lacking : volume.file.stopped ≡ None → (unit : UnitOfRecovery) (request : Request)
      (place : List ℕ) (need free : ℕ)
      → place_changed (case_of volume.file.geometry state unit request) ≡ Some place
      → IsLacking volume.store (seen volume.blocks).cur place request need free
      → LacksArea volume.file.geometry state unit (seen volume.blocks) request need free
  area-lacking going unit request place need free at lacking = record {
    place = place;
    place_is = at;
    shape = lacking.part.shape;
    laid = ap (λ (entries : List CatEntry). shape_in volume.file.geometry entries number)
        (sym held.file.now.catalog)
        ∙ sym (whole.laid going number)
        ∙ ap (option_map (λ (part : PartNow). part.shape)) lacking.there;
    known = lacking.part.known;
    knows = rested.knows;
    images = images_in volume.store.undo;
    logged = (held.stored going).logged;
    bytes = lacking.bytes;
    given = lacking.given;
    lacks = subst (λ (areas : ℕ). room_of lacking.part.shape lacking.part.known
        (seen volume.blocks).cur areas (lengths_kept (images_in volume.store.undo) number) place
        (length lacking.bytes) ≡ answers.NoSpace need free) held.free lacking.lacks;
  }
    where
      number : ℕ
      number = base_here request

      rested : IsRestedPart volume.store state (seen volume.blocks) lacking.part
      rested = rested-at volume.store (seen volume.blocks) (whole.set going) volume.number state
          number lacking.part lacking.there (held.stored going)

-- what an event says of a request that is answered so
abbrev pub SaysWhatLacks : {B : Type 0} → (B → Seen) → State → VolumeNow B → VolumeNow B → ℕ
    → UnitOfRecovery → ℕ → Request → Type 0
SaysWhatLacks seen opening old new after unit line request =
    (entered : IsEntered after unit line request old.file new.file) → (need free : ℕ)
    → entered.reply ≡ Refused (NoSpace need free) → (place : List ℕ)
    → place_changed (case_of old.file.geometry (state_now opening old.file) unit request)
    ≡ Some place → IsLacking old.store (seen old.blocks).cur place request need free

-- A request of an event that is answered so lacks room.
pub event-lacking : {B : Type 0} (seen : B → Seen) (faults : B → Faults) (opening : State)
    (old new : VolumeNow B) (act : Act) (after : ℕ) (unit : UnitOfRecovery) (line : ℕ)
    (request : Request)
    → IsActed (faults old.blocks) (faults new.blocks) act after unit line request old.file new.file
    → (made : List Entry) → new.file.entries ≡ old.file.entries ++ made
    → AreSteps old.file.geometry opening (old.file.entries ++ made)
    → IsWhole seen old → IsHeld seen opening old
    → SaysWhatLacks seen opening old new after unit line request
    → LackAreas old.file.geometry (state_now opening old.file) (seen old.blocks) made
event-lacking {B} seen faults opening old new act after unit line request acted made entries steps
    whole held lacks entry among asked need free answered =
    subst (λ (r : Request). LacksArea geometry state entry.unit (seen old.blocks) r need free)
    (sym one.request_is)
    (area-lacking seen opening old whole held
    (held.file.now.stopped ∙ space-going (case_of geometry state entry.unit asked) need free may)
    entry.unit request at.0 need free here
    (lacks one.entered need free one.reply_is at.0
    (subst (λ (u : UnitOfRecovery). place_changed (case_of geometry state u request) ≡ Some at.0)
    one.unit_is here)))
  where
    geometry : Geometry
    geometry = old.file.geometry

    state : State
    state = state_now opening old.file

    one : IsEnteredAlone after unit line request old.file new.file made entry asked need free
    one = acted-alone old.file new.file made entries entry among asked need free answered
        (faults old.blocks) (faults new.blocks) act after unit line request acted

    may : MayReply (case_of geometry state entry.unit asked) (Refused (NoSpace need free))
    may = (subst (λ (what : What). MayEnter geometry state entry.unit what) answered
        (step-at geometry opening old.file.entries entry []
        (subst (λ (them : List Entry). AreSteps geometry opening (old.file.entries ++ them))
        one.made_is steps))).1

    at : HasPlace (case_of geometry state entry.unit asked)
    at = space-place (case_of geometry state entry.unit asked) need free may

    here : place_changed (case_of geometry state entry.unit request) ≡ Some at.0
    here = subst (λ (r : Request). place_changed (case_of geometry state entry.unit r) ≡ Some at.0)
        one.request_is at.1
