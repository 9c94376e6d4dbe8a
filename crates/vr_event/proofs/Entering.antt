-- What an entry leaves of the state of a volume, as far as its blocks know of it.
use Rattle.std.proofs.Common.{◌≡◌, ◌∷◌, ◌++◌, [], ℕ, List, Option, Some, None, refl, ap, sym, ◌∙◌}
use Rattle.std.proofs.Common.{subst}
use Rattle.vr_catalog.specs.Catalog.{entries_in}
use Rattle.vr_types.specs.Content.{Content}
use Rattle.vr_types.specs.declared.geometry.Geometry.{Geometry}
use Rattle.vr_types.specs.declared.position.Stand.{Stand}
use Rattle.vr_types.specs.declared.reply.Refusal.{Refusal}
use Rattle.vr_types.specs.declared.reply.Reply.TheVariants.{Refused}
use Rattle.vr_types.specs.declared.request.FileRef.{FileRef}
use Rattle.vr_types.specs.declared.request.Request.{Request}
use Rattle.vr_history.specs.declared.entry.Entry.{Entry}
use Rattle.vr_history.specs.declared.entry.What.TheVariants.{Asked}
use Rattle.vr_history.specs.Case.{file_of}
use Rattle.vr_history.specs.Effects.{drops_held}
use Rattle.vr_history.specs.Legal.{state_of}
use Rattle.vr_history.specs.State.{State}
use Rattle.vr_history.specs.Step.{after_what, stand_refused, stands_in}
use Rattle.vr_history.proofs.CallerLemmas.{state_of-append}
use Rattle.vr_types.specs.Seen.{Seen}
use Rattle.vr_types.specs.declared.unit.Unit.{Unit as UnitOfRecovery}
use Rattle.vr_record_file.specs.Now.{FileNow, IsStateOf, entry_next, state_now, with_event}
use Rattle.vr_event.specs.Alike.{AreAlike}
use Rattle.vr_event.specs.Volume.{IsHeld, VolumeNow}
use Rattle.vr_event.proofs.Areas.{owned-same, unlaid-same}
use Rattle.vr_event.proofs.Like.{stored-alike}

-- a file that lets go
pub alike_dropped : (deck : ℕ) (file : Option FileRef) (state : State)
    → AreAlike state (drops_held deck file state)
alike_dropped deck None state =
    record { contents = refl; befores = refl; logged = refl; used = refl; numbers = refl; owned = refl }
alike_dropped deck (Some file) state =
    record { contents = refl; befores = refl; logged = refl; used = refl; numbers = refl; owned = refl }

-- and stands somewhere else
pub alike_stands : {before : State} (deck : ℕ) (file : Option FileRef) (stand : Option Stand)
    (state : State) → AreAlike before state → AreAlike before (stands_in deck file stand state)
alike_stands deck None stand state alike = alike
alike_stands deck (Some file) None state alike = alike
alike_stands deck (Some file) (Some stand) state alike = record {
  contents = alike.contents;
  befores = alike.befores;
  logged = alike.logged;
  used = alike.used;
  numbers = alike.numbers;
  owned = alike.owned;
}

-- a request that is refused, whether it moves its file or not
pub alike_refused : (geometry : Geometry) (opening : State) (entries : List Entry) (entry : Entry)
    (request : Request) (refusal : Refusal) → entry.what ≡ Asked request (Refused refusal)
    → AreAlike (state_of geometry opening entries)
    (state_of geometry opening (entries ++ entry ∷ []))
alike_refused geometry opening entries entry request refusal what =
    let before : State = state_of geometry opening entries in
    let leaves = state_of-append geometry opening entries entry
    ∙ ap (after_what geometry before entry.unit entry.stamp) what in
    subst (AreAlike before) (sym leaves)
    (alike_stands entry.unit.deck (file_of request) (stand_refused request refusal)
    (drops_held entry.unit.deck (file_of request) before)
    (alike_dropped entry.unit.deck (file_of request) before))

-- ---- a volume that is held

-- An event that touches no block and leaves the state alike leaves a volume that is held so.
pub held-alike : {B : Type 0} (seen : B → Seen) (opening : State) (volume : VolumeNow B)
    (to : FileNow) → to.geometry ≡ volume.file.geometry → to.stopped ≡ volume.file.stopped
    → AreAlike (state_now opening volume.file) (state_now opening to)
    → IsHeld seen opening volume → IsStateOf opening to
    → IsHeld seen opening (record volume { file = to })
held-alike seen opening volume to geometry stopped alike held file = record {
  file = file;
  free = cc (held.free, geometry, alike.owned);
  owned = owned-same volume.store.space volume.store.space _ _ refl alike.owned held.owned;
  unlaid = λ going. unlaid-same volume.file.geometry to.geometry volume.file.catalog to.catalog
      volume.store.space volume.store.space geometry
      (file.now.catalog ∙ ap (λ (contents : ℕ → Content). entries_in (contents 0)) alike.contents
      ∙ sym held.file.now.catalog) refl (held.unlaid (sym stopped ∙ going));
  stored = λ going. stored-alike volume.number volume.store (state_now opening volume.file)
      (state_now opening to) (seen volume.blocks) alike (held.stored (sym stopped ∙ going));
}

-- so does a request that is refused
pub held-refused : {B : Type 0} (seen : B → Seen) (opening : State) (volume : VolumeNow B)
    (to : FileNow) (after : ℕ) (unit : UnitOfRecovery) (line : ℕ) (request : Request)
    (refusal : Refusal) → to ≡ with_event after unit line (Asked request (Refused refusal))
    (record volume.file { files = to.files; files_room = to.files_room })
    → IsHeld seen opening volume → IsStateOf opening to
    → IsHeld seen opening (record volume { file = to })
held-refused seen opening volume to after unit line request refusal leaves held file =
    held-alike seen opening volume to (ap (λ (f : FileNow). f.geometry) leaves)
    (ap (λ (f : FileNow). f.stopped) leaves)
    (subst (λ (f : FileNow). AreAlike (state_now opening volume.file) (state_now opening f))
    (sym leaves)
    (alike_refused volume.file.geometry opening volume.file.entries
    (entry_next volume.file.entries after unit line (Asked request (Refused refusal))) request
    refusal refl)) held file
