-- When a COMMIT and a BACKOUT may be entered, by what a unit keeps.
use Rattle.std.proofs.Common.{◌≡◌, ◌∷◌, [], ◌||◌, ℕ, Bool, true, false, not, cond, IsTrue, List}
use Rattle.std.proofs.Common.{None, refl, sym, ap, subst, ◌∙◌, inl, inr, filter}
use Rattle.std.specs.Prelude.{All}
use Rattle.std.specs.List.{list_any}
use Rattle.std.proofs.lemmas.List.Elements.{All-cons, All-nil}
use Rattle.vr_types.specs.Locks.{same_unit}
use Rattle.vr_types.specs.Seen.{Seen}
use Rattle.vr_types.specs.declared.reply.Refusal.TheVariants.{ReadFault, WriteFault}
use Rattle.vr_types.specs.declared.reply.Reply.{Reply}
use Rattle.vr_types.specs.declared.reply.Reply.TheVariants.{Done, Refused}
use Rattle.vr_types.specs.declared.request.Request.{Request}
use Rattle.vr_types.specs.declared.request.Request.TheVariants.{Backout, Commit}
use Rattle.vr_types.specs.declared.unit.Unit.{Unit as UnitOfRecovery}
use Rattle.vr_log.specs.declared.record.EndKind.{EndKind}
use Rattle.vr_log.specs.declared.record.EndKind.TheVariants.{BackedOut, Committed}
use Rattle.vr_history.specs.Effects.{last_of}
use Rattle.vr_history.specs.Replies.{CanEnd, MayReply, first_of, may_read}
use Rattle.vr_history.specs.State.{BeforeImage, State}
use Rattle.vr_history.specs.Step.{case_of}
use Rattle.vr_answer.specs.Tried.{file_refusals}
use Rattle.vr_answer.proofs.CallerLemmas.{answered_done, meets_read_fault, meets_write_fault}
use Rattle.vr_record_file.specs.Now.{EndsUnit, FileNow, MayBeAsked, state_now}
use Rattle.vr_undo.specs.Records.{last_in}
use Rattle.vr_volume.specs.Committed.{KeepsNoneIf}
use Rattle.vr_store.specs.LastImage.{last_of_unit}
use Rattle.vr_event.specs.EndedFile.{IsEndBy, IsEnding}
use Rattle.vr_store.specs.Store.{IsStored, StoreNow}

pub ends-by : (kind : EndKind) (request : Request) → IsEndBy kind request → EndsUnit request
ends-by Committed request is = inl is
ends-by BackedOut request is = inr is

-- ---- a unit that keeps none

none-last : (images : List BeforeImage) → last_of images ≡ None → images ≡ []
none-last [] none = refl
none-last (one ∷ []) none = absurd cc
none-last (one ∷ next ∷ rest) none =
    let empty = none-last (next ∷ rest) none in absurd cc

abbrev is-by : UnitOfRecovery → BeforeImage → Bool
is-by unit image = same_unit unit image.unit

pub record KeepsNone (unit : UnitOfRecovery) (images : List BeforeImage) : Type 0 where
  pub none : list_any (is-by unit) images ≡ false
  pub each : All (λ (image : BeforeImage). same_unit unit image.unit ≡ false) images

filter-none : (unit : UnitOfRecovery) (images : List BeforeImage)
    → filter (is-by unit) images ≡ [] → KeepsNone unit images
filter-none unit [] is = record {
  none = refl;
  each = All-nil (λ (image : BeforeImage). same_unit unit image.unit ≡ false);
}
filter-none unit (one ∷ images) is =
    by_test (same_unit unit one.unit) refl is (filter-none unit images)
  where
    by_test : (test : Bool) → same_unit unit one.unit ≡ test
        → cond test (one ∷ filter (is-by unit) images) (filter (is-by unit) images) ≡ []
        → (filter (is-by unit) images ≡ [] → KeepsNone unit images)
        → KeepsNone unit (one ∷ images)
    by_test true here same further = absurd cc
    by_test false here same further =
        let rest = further same in
        record {
          none = ap (λ (b : Bool). b || list_any (is-by unit) images) here ∙ rest.none;
          each = All-cons (λ (image : BeforeImage). same_unit unit image.unit ≡ false) one images
              here rest.each;
        }

pub keeps-none-in : (unit : UnitOfRecovery) (images : List BeforeImage)
    → last_in unit images ≡ None → KeepsNone unit images
keeps-none-in unit images none =
    filter-none unit images (none-last (filter (is-by unit) images) none)

-- of a store, by the state
pub none-of-state : (number : ℕ) (store : StoreNow) (state : State) (now : Seen)
    (unit : UnitOfRecovery) → IsStored number store state now → last_of_unit store unit ≡ None
    → KeepsNone unit state.befores
none-of-state number store state now unit stored none = keeps-none-in unit state.befores
    (ap (last_in unit) (sym stored.befores) ∙ none)

-- ---- what may be entered

module _ (opening : State) (file : FileNow) (unit : UnitOfRecovery) where
  abbrev state : State
  state = state_now opening file

  may-reply : (request : Request) (reply : Reply) → IsEnding opening file unit request
      → MayReply (case_of file.geometry state unit request) reply
      → MayBeAsked opening file unit request reply
  may-reply request reply ending may = record {
    current = ending.current;
    of_deck = ending.of_deck;
    reply_is = may;
    goes_on = ending.goes_on;
  }

  abbrev MayEnd : Request → Type 0
  MayEnd request =
      first_of (file_refusals (case_of file.geometry state unit request)) ≡ None
      → CanEnd (case_of file.geometry state unit request) request
      → MayReply (case_of file.geometry state unit request) (Done 0 None None)

  may-commit : MayEnd Commit
  may-commit none can = inl (answered_done (case_of file.geometry state unit Commit) none refl refl
      can)

  may-back : MayEnd Backout
  may-back none can = inl (answered_done (case_of file.geometry state unit Backout) none refl refl
      can)

  may-end : (request : Request) → EndsUnit request → MayEnd request
  may-end request (inl is) = subst MayEnd (sym is) may-commit
  may-end request (inr is) = subst MayEnd (sym is) may-back

  pub ends-asked : (request : Request) → EndsUnit request → IsEnding opening file unit request
      → CanEnd (case_of file.geometry state unit request) request
      → MayBeAsked opening file unit request (Done 0 None None)
  ends-asked request ends ending can = may-reply request (Done 0 None None) ending
      (may-end request ends ending.unrefused can)

  pub write-asked : (request : Request) → IsEnding opening file unit request
      → MayBeAsked opening file unit request (Refused WriteFault)
  write-asked request ending = may-reply request (Refused WriteFault) ending
      (inr (inr (inr (meets_write_fault (case_of file.geometry state unit request)
      ending.unrefused))))

  pub read-asked : (request : Request) → request ≡ Backout → IsEnding opening file unit request
      → MayBeAsked opening file unit request (Refused ReadFault)
  read-asked request is ending = may-reply request (Refused ReadFault) ending
      (inr (inr (inr (meets_read_fault (case_of file.geometry state unit request)
      ending.unrefused (subst (λ (r : Request). IsTrue (may_read r)) (sym is) refl)))))

  -- a COMMIT ends its unit, and a BACKOUT once it keeps none
  pub can-end : (kind : EndKind) (request : Request) → IsEndBy kind request
      → (kind ≡ BackedOut → KeepsNone unit state.befores)
      → CanEnd (case_of file.geometry state unit request) request × KeepsNoneIf kind state unit
  can-end Committed request is none = (
    subst (λ (r : Request). CanEnd (case_of file.geometry state unit request) r) (sym is) tt,
    tt,
  )
  can-end BackedOut request is none =
      let keeps = none refl in (
        subst (λ (r : Request). CanEnd (case_of file.geometry state unit request) r) (sym is)
            (ap not keeps.none),
        keeps.each,
      )
