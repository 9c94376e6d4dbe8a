-- What is whole and held of a volume whose store or blocks changed.
use Rattle.std.proofs.Common.{◌≡◌, ◌∙◌, ℕ, List, None, refl, sym}
use Rattle.std.proofs.Common.{ap, subst, inl}
use Rattle.std.proofs.lemmas.Option.{none-some}
use Rattle.vr_catalog.specs.declared.entry.CatEntry.{CatEntry}
use Rattle.vr_types.specs.Locks.{Lock}
use Rattle.vr_types.specs.Seen.{Seen}
use Rattle.vr_types.specs.Space.{free_count}
use Rattle.vr_types.specs.declared.fault.DeviceFault.TheVariants.{Write}
use Rattle.vr_types.specs.declared.geometry.Geometry.{Geometry}
use Rattle.vr_types.specs.declared.reply.Refusal.TheVariants.{WriteFault}
use Rattle.vr_types.specs.declared.reply.Reply.{Reply}
use Rattle.vr_types.specs.declared.reply.Reply.TheVariants.{Refused}
use Rattle.vr_types.specs.declared.request.Request.{Request}
use Rattle.vr_types.specs.declared.unit.PartNo.{PartNo}
use Rattle.vr_types.specs.declared.unit.Unit.{Unit as UnitOfRecovery}
use Rattle.vr_history.specs.declared.entry.What.TheVariants.{Asked, Faulted, Split}
use Rattle.vr_history.specs.Replies.{MayReply}
use Rattle.vr_history.specs.State.{State}
use Rattle.vr_history.specs.Step.{case_of}
use Rattle.vr_history.proofs.CallerLemmas.{state_of-append}
use Rattle.vr_record_file.specs.Now.{FileNow, IsStateOf, MayBeAsked, asked_failing, entry_next}
use Rattle.vr_record_file.specs.Now.{failed, state_now, with_event}
use Rattle.vr_volume.specs.Laid.{shape_in}
use Rattle.vr_event.specs.Alike.{AreAlike}
use Rattle.vr_event.specs.Putting.{IsChanging}
use Rattle.vr_store.specs.Store.{IsSet, IsStored, StoreNow, shape_among}
use Rattle.vr_event.specs.Volume.{AreServed, IsHeld, IsWhole, VolumeNow}
use Rattle.vr_event.proofs.Areas.{owned-same, unlaid-same}
use Rattle.vr_event.proofs.Entering.{alike_refused, held-alike}
use Rattle.vr_event.proofs.Served.{served_same}

module _ {B : Type 0} (seen : B → Seen) where
  -- whole
  pub whole-of : (volume : VolumeNow B) (store : StoreNow) (blocks : B) (file : FileNow)
      → IsWhole seen volume → (file.stopped ≡ None → volume.file.stopped ≡ None)
      → file.geometry ≡ volume.file.geometry → file.catalog ≡ volume.file.catalog
      → (file.stopped ≡ None → store.log.geometry ≡ volume.store.log.geometry)
      → (file.stopped ≡ None → (n : ℕ)
      → shape_among store.parts n ≡ shape_among volume.store.parts n)
      → (file.stopped ≡ None → IsSet store (seen blocks))
      → IsWhole seen (record volume { blocks = blocks; store = store; file = file })
  whole-of volume store blocks file whole was geometry catalog log parts set = record {
    served = served_same volume.file.geometry file.geometry volume.file.catalog file.catalog
        geometry catalog whole.served;
    geometry = λ going. log going ∙ whole.geometry (was going) ∙ sym geometry;
    laid = λ going n. parts going n ∙ whole.laid (was going) n
        ∙ sym (ap (λ (g : Geometry). shape_in g file.catalog n) geometry
        ∙ ap (λ (entries : List CatEntry). shape_in volume.file.geometry entries n) catalog);
    set = set;
  }

  -- whole, once a write failed
  pub whole-stopped : (volume : VolumeNow B)
      → AreServed volume.file.geometry volume.file.catalog
      → (volume.file.stopped ≡ None → ⊥) → IsWhole seen volume
  whole-stopped volume served stopped = record {
    served = served;
    geometry = λ going. absurd (stopped going);
    laid = λ going. absurd (stopped going);
    set = λ going. absurd (stopped going);
  }

  -- held, by the same state
  pub held-moved : (opening : State) (volume : VolumeNow B) (store : StoreNow) (blocks : B)
      → store.space ≡ volume.store.space
      → (volume.file.stopped ≡ None → IsStored volume.number store
      (state_now opening volume.file) (seen blocks))
      → IsHeld seen opening volume
      → IsHeld seen opening (record volume { blocks = blocks; store = store })
  held-moved opening volume store blocks space stored held = record {
    file = held.file;
    free = ap free_count space ∙ held.free;
    owned = owned-same volume.store.space store.space _ _ space refl held.owned;
    unlaid = λ going. unlaid-same volume.file.geometry volume.file.geometry volume.file.catalog
        volume.file.catalog volume.store.space store.space refl refl space (held.unlaid going);
    stored = stored;
  }

-- ---- a split

pub state-split : (opening : State) (file to : FileNow) (after : ℕ) (unit : UnitOfRecovery)
    (line : ℕ) (part : PartNo) → to ≡ with_event after unit line (Split part) file
    → state_now opening to ≡ state_now opening file
state-split opening file to after unit line part leaves =
    ap (λ (f : FileNow). state_now opening f) leaves
    ∙ state_of-append file.geometry opening file.entries
    (entry_next file.entries after unit line (Split part))

alike-same : (old new : State) → new ≡ old → AreAlike old new
alike-same old new same = subst (AreAlike old) (sym same) (record {
  contents = refl;
  befores = refl;
  logged = refl;
  used = refl;
  numbers = refl;
  owned = refl;
})

pub held-split : {B : Type 0} (seen : B → Seen) (opening : State) (volume : VolumeNow B)
    (to : FileNow) (after : ℕ) (unit : UnitOfRecovery) (line : ℕ) (part : PartNo)
    → to ≡ with_event after unit line (Split part) volume.file → IsHeld seen opening volume
    → IsStateOf opening to → IsHeld seen opening (record volume { file = to })
held-split seen opening volume to after unit line part leaves held file =
    held-alike seen opening volume to (ap (λ (f : FileNow). f.geometry) leaves)
    (ap (λ (f : FileNow). f.stopped) leaves)
    (alike-same (state_now opening volume.file) (state_now opening to)
    (state-split opening volume.file to after unit line part leaves)) held file

-- ---- a fault of a write

failed-owned : (opening : State) (file : FileNow) (after : ℕ) (unit : UnitOfRecovery) (line : ℕ)
    (request : Request)
    → (state_now opening (failed after unit line request file)).owned
    ≡ (state_now opening file).owned
failed-owned opening file after unit line request =
    let asked : FileNow = asked_failing after unit line request file in
    ap (λ (s : State). s.owned) (state_of-append file.geometry opening asked.entries
    (entry_next asked.entries 0 unit line (Faulted Write)))
    ∙ (alike_refused file.geometry opening file.entries
    (entry_next file.entries after unit line (Asked request (Refused WriteFault))) request WriteFault
    refl).owned

-- once locks were taken
pub held-stopped-locked : {B : Type 0} (seen : B → Seen) (opening : State) (volume : VolumeNow B)
    (to : FileNow) (store : StoreNow) (blocks : B) (after : ℕ) (unit : UnitOfRecovery) (line : ℕ)
    (request : Request) (locks : List Lock)
    → to ≡ failed after unit line request (record volume.file { locks = locks })
    → store.space ≡ volume.store.space → IsHeld seen opening volume → IsStateOf opening to
    → IsHeld seen opening (record volume { blocks = blocks; store = store; file = to })
held-stopped-locked seen opening volume to store blocks after unit line request locks leaves space
    held file =
    let locked : FileNow = record volume.file { locks = locks } in
    let owned : (state_now opening to).owned ≡ (state_now opening volume.file).owned =
    ap (λ (f : FileNow). (state_now opening f).owned) leaves
    ∙ failed-owned opening locked after unit line request in
    let geometry : to.geometry ≡ volume.file.geometry =
    ap (λ (f : FileNow). f.geometry) leaves in
    record {
      file = file;
      free = cc (held.free, geometry, owned, space);
      owned = owned-same volume.store.space store.space _ _ space owned held.owned;
      unlaid = λ going. absurd (none-some _ (sym going ∙ ap (λ (f : FileNow). f.stopped) leaves));
      stored = λ going. absurd (none-some _ (sym going ∙ ap (λ (f : FileNow). f.stopped) leaves));
    }

pub may-changing : (opening : State) (file : FileNow) (unit : UnitOfRecovery) (request : Request)
    (reply : Reply) → IsChanging opening file unit request
    → MayReply (case_of file.geometry (state_now opening file) unit request) reply
    → MayBeAsked opening file unit request reply
may-changing opening file unit request reply asked may = record {
  current = asked.current;
  of_deck = asked.of_deck;
  reply_is = may;
  goes_on = inl asked.goes_on;
}
