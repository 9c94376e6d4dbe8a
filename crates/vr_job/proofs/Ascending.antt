-- The places of each content ascend over a history, as they do in its opening.
use Rattle.std.proofs.Common.{◌==◌, ℕ, Bool, true, false, if◌then◌else◌, List, [], ◌∷◌}
use Rattle.std.proofs.Common.{Option, Some, None, ⊎_elim, refl, subst, sym}
use Rattle.std.specs.List.Sorted.{IsStrictlySortedBy}
use Rattle.std.specs.Option.{option_map_or}
use Rattle.vr_types.specs.Content.{Ascends, Content}
use Rattle.vr_types.specs.declared.geometry.Geometry.{Geometry}
use Rattle.vr_types.specs.declared.reply.Reply.TheVariants.{Done, Refused}
use Rattle.vr_types.specs.declared.request.Request.{Request}
use Rattle.vr_types.specs.declared.unit.Unit.{Unit as UnitOfRecovery}
use Rattle.vr_altkey.proofs.CallerLemmas.{placed_ascends}
use Rattle.vr_history.specs.Change.{Change}
use Rattle.vr_history.specs.Effects.{changes, last_kept, placed_in, takes_out, with_change}
use Rattle.vr_history.specs.Legal.{state_of}
use Rattle.vr_history.specs.State.{BeforeImage, State}
use Rattle.vr_history.specs.Step.{after_what, change_back, state_after}
use Rattle.vr_history.specs.declared.entry.Entry.{Entry}
use Rattle.vr_history.specs.declared.entry.What.{What}
use Rattle.vr_history.specs.declared.entry.What.TheVariants.{Asked, Undone, Claimed, Split, Faulted}
use Rattle.vr_job.proofs.Effects.{IsDone, IsEnded, Stays, done-is, refused-stays}
use Rattle.vr_job.proofs.Effects.IsDone.{DoneChange, DoneEnd, DoneNothing}
use Rattle.vr_job.proofs.Effects.MadeOr.{NoChange, OneChange}

abbrev pub AllAscend : (ℕ → Content) → Type 0
AllAscend contents = (part : ℕ) → Ascends (contents part)

none-ascends : Ascends []
unfolding IsStrictlySortedBy
none-ascends = tt

-- over a change
change-ascends : (change : Change) (contents : ℕ → Content) → AllAscend contents
    → AllAscend (with_change change contents)
change-ascends change contents all part = by_test (part == change.part)
  where
    by_test : (b : Bool) → Ascends (if b then
        placed_in change.place change.new (contents part) else contents part)
    by_test true = placed_ascends change.place change.new (contents part) (all part)
    by_test false = all part

stays-ascend : (state new : State) → Stays state new → AllAscend state.contents
    → AllAscend new.contents
stays-ascend state new stays all = subst AllAscend (sym stays.contents) all

ended-ascend : (unit : UnitOfRecovery) (state new : State) → IsEnded unit state new
    → AllAscend state.contents → AllAscend new.contents
ended-ascend unit state new ended all part = ⊎_elim
    (λ same. subst Ascends (sym same) (all part))
    (λ none. subst Ascends (sym none) none-ascends) (ended.contents part)

module _ (geometry : Geometry) (state : State) (unit : UnitOfRecovery)
    (all : AllAscend state.contents) where
  done-ascend : (request : Request) (new : State) → IsDone geometry state unit request new
      → AllAscend new.contents
  done-ascend request new (DoneNothing stays) = stays-ascend state new stays all
  done-ascend request new (DoneEnd ended) = ended-ascend unit state new ended all
  done-ascend request new (DoneChange (NoChange none stays)) = stays-ascend state new stays all
  done-ascend request new (DoneChange (OneChange change is made)) =
      subst AllAscend (sym made.contents) (change-ascends change state.contents all)

  back-ascends : (kept : Option BeforeImage)
      → AllAscend (option_map_or (λ (it : BeforeImage). takes_out unit
      (changes (change_back state it) state)) kept state).contents
  back-ascends None = all
  back-ascends (Some kept) = change-ascends (change_back state kept) state.contents all

  -- over an entry
  entry-ascends : (stamp : ℕ) (what : What)
      → AllAscend (after_what geometry state unit stamp what).contents
  entry-ascends stamp (Asked request (Done feedback place bytes)) = done-ascend request _
      (done-is geometry state unit request feedback place bytes)
  entry-ascends stamp (Asked request (Refused refusal)) = stays-ascend state _
      (refused-stays geometry state unit request (Refused refusal) refusal refl) all
  entry-ascends stamp (Undone part place) = back-ascends (last_kept state unit)
  entry-ascends stamp (Claimed part area) = all
  entry-ascends stamp (Split part) = all
  entry-ascends stamp (Faulted fault) = all

-- over all of them
pub history-ascends : (geometry : Geometry) (state : State) (entries : List Entry)
    → AllAscend state.contents → AllAscend (state_of geometry state entries).contents
history-ascends geometry state [] all = all
history-ascends geometry state (entry ∷ entries) all =
    history-ascends geometry (state_after geometry state entry) entries
    (entry-ascends geometry state entry.unit all entry.stamp entry.what)
