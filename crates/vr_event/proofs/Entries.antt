-- What the entries of a GET leave of a volume: of one that a fault of a write refused, and of one that
-- is done.
use Rattle.std.proofs.Common.{◌≡◌, ℕ}
use Rattle.std.proofs.Common.{refl, ap, sym, ◌∙◌, inl}
use Rattle.std.proofs.lemmas.Option.{none-some}
use Rattle.vr_types.specs.Seen.{Seen}
use Rattle.vr_types.specs.declared.fault.DeviceFault.TheVariants.{Write}
use Rattle.vr_types.specs.declared.reply.Refusal.TheVariants.{WriteFault}
use Rattle.vr_types.specs.declared.reply.Reply.{Reply}
use Rattle.vr_types.specs.declared.reply.Reply.TheVariants.{Refused}
use Rattle.vr_types.specs.declared.request.Request.{Request}
use Rattle.vr_types.specs.declared.unit.Unit.{Unit as UnitOfRecovery}
use Rattle.vr_history.specs.declared.entry.What.TheVariants.{Asked, Faulted}
use Rattle.vr_history.specs.Replies.{MayReply}
use Rattle.vr_history.specs.State.{State}
use Rattle.vr_history.specs.Step.{case_of}
use Rattle.vr_history.proofs.CallerLemmas.{state_of-append}
use Rattle.vr_record_file.specs.Now.{FileNow, IsStateOf, MayBeAsked, asked_failing, entry_next}
use Rattle.vr_record_file.specs.Now.{failed, state_now}
use Rattle.vr_event.specs.Getting.{IsAsked}
use Rattle.vr_event.specs.Volume.{IsFileHeld, IsHeld, VolumeNow}
use Rattle.vr_event.proofs.Areas.{owned-same}
use Rattle.vr_event.proofs.Entering.{alike_refused}

-- it may be entered with each reply that it may have
pub may-asked : (opening : State) (file : FileNow) (unit : UnitOfRecovery) (request : Request)
    (reply : Reply) → IsAsked opening file unit request
    → MayReply (case_of file.geometry (state_now opening file) unit request) reply
    → MayBeAsked opening file unit request reply
may-asked opening file unit request reply asked may = record {
  current = asked.current;
  of_deck = asked.of_deck;
  reply_is = may;
  goes_on = inl asked.goes_on;
}

-- a fault of a write leaves the areas of the parts as they are
failed-owned : (opening : State) (file : FileNow) (after : ℕ) (unit : UnitOfRecovery) (line : ℕ)
    (request : Request)
    → (state_now opening (failed after unit line request file)).owned
    ≡ (state_now opening file).owned
failed-owned opening file after unit line request =
    let asked : FileNow = asked_failing after unit line request file in
    ap (λ (s : State). s.owned) (state_of-append file.geometry opening asked.entries
    (entry_next asked.entries 0 unit line (Faulted Write)))
    ∙ (alike_refused file.geometry opening file.entries
    (entry_next file.entries after unit line (Asked request (Refused WriteFault))) request WriteFault
    refl).owned

-- so a volume is held, of which nothing is said any more but its history,
pub held-known : {B : Type 0} (seen : B → Seen) (opening : State) (volume : VolumeNow B)
    (to : FileNow) (after : ℕ) (unit : UnitOfRecovery) (line : ℕ) (request : Request)
    → to ≡ failed after unit line request volume.file → IsFileHeld opening volume
    → IsStateOf opening to → IsHeld seen opening (record volume { file = to })
held-known seen opening volume to after unit line request leaves known file =
    let owned : (state_now opening to).owned ≡ (state_now opening volume.file).owned =
    ap (λ (f : FileNow). (state_now opening f).owned) leaves
    ∙ failed-owned opening volume.file after unit line request in
    let geometry : to.geometry ≡ volume.file.geometry =
    ap (λ (f : FileNow). f.geometry) leaves in
    record {
      file = file;
      free = cc (known.free, geometry, owned);
      owned = owned-same volume.store.space volume.store.space _ _ refl owned known.owned;
      unlaid = λ going. absurd (none-some _ (sym going ∙ ap (λ (f : FileNow). f.stopped) leaves));
      stored = λ going. absurd (none-some _ (sym going ∙ ap (λ (f : FileNow). f.stopped) leaves));
    }

pub file-held : {B : Type 0} (seen : B → Seen) (opening : State) (volume : VolumeNow B)
    → IsHeld seen opening volume → IsFileHeld opening volume
file-held seen opening volume held =
    record { file = held.file; free = held.free; owned = held.owned }

-- also one that was held
pub held-failed : {B : Type 0} (seen : B → Seen) (opening : State) (volume : VolumeNow B)
    (to : FileNow) (after : ℕ) (unit : UnitOfRecovery) (line : ℕ) (request : Request)
    → to ≡ failed after unit line request volume.file → IsHeld seen opening volume
    → IsStateOf opening to → IsHeld seen opening (record volume { file = to })
held-failed seen opening volume to after unit line request leaves held file =
    held-known seen opening volume to after unit line request leaves
    (file-held seen opening volume held) file
