-- The catalog as a part of a volume: what places and records it has. And a fault of a write that no
-- request met, which stops a volume.
use Rattle.std.proofs.Common.{◌≡◌, ◌≢◌, ◌∙◌, ℕ, List, Option, Some, None, refl, sym}
use Rattle.std.proofs.Common.{ap}
use Rattle.std.proofs.Common.{subst, arith, length}
use Rattle.std.specs.Prelude.{IfSome}
use Rattle.std.specs.Option.{option_map}
use Rattle.std.proofs.lemmas.Option.{none-some}
use Rattle.vr_types.specs.Seen.{Seen}
use Rattle.vr_types.specs.declared.fault.DeviceFault.TheVariants.{Write}
use Rattle.vr_types.specs.declared.geometry.Geometry.{Geometry}
use Rattle.vr_types.specs.declared.unit.Unit.{Unit as UnitOfRecovery}
use Rattle.vr_attach.specs.Laid.{catalog_shape}
use Rattle.vr_catalog.specs.Definition.{catalog_definition, key_of}
use Rattle.vr_space.specs.Part.{IsLengthOf, IsPlaceOf, IsRecordOf, Shape}
use Rattle.vr_history.specs.State.{State}
use Rattle.vr_history.specs.declared.entry.What.TheVariants.{Faulted}
use Rattle.vr_history.proofs.CallerLemmas.{state_of-append}
use Rattle.vr_record_file.specs.Now.{FileNow, IsStateOf, entry_next, faulted, state_now}
use Rattle.vr_store.specs.Store.{PartNow, part_among, shape_among}
use Rattle.vr_event.specs.Volume.{AreServed, IsFileHeld, IsHeld, IsWhole, VolumeNow}
use Rattle.vr_event.proofs.Areas.{owned-same}
use Rattle.vr_event.proofs.Served.{served_same}
use Rattle.vr_event.proofs.Wholes.{whole-stopped}

module _ (parts : List PartNow) (geometry : Geometry)
    (laid : shape_among parts 0 ≡ Some (catalog_shape geometry)) where
  -- it is there
  pub catalog-there : part_among parts 0 ≢ None
  catalog-there none = none-some (catalog_shape geometry)
      (sym (ap (option_map (λ (one : PartNow). one.shape)) none) ∙ laid)

  with-shape : (P : Shape → Type 0) → P (catalog_shape geometry) → IfSome (shape_among parts 0) P
  with-shape P holds = subst (λ (o : Option Shape). IfSome o P) (sym laid) holds

  -- its places are names
  pub catalog-place : (place : List ℕ) → length place ≡ 44
      → IfSome (shape_among parts 0) (λ (shape : Shape). IsPlaceOf shape place)
  catalog-place place long = with-shape (λ shape. IsPlaceOf shape place) long

  -- its records have one length
  pub catalog-length : IfSome (shape_among parts 0) (λ (shape : Shape). IsLengthOf shape 204)
  catalog-length = with-shape (λ shape. IsLengthOf shape 204) (omega arith, omega arith)

  -- and stand at the name with which they begin
  pub catalog-record : (place bytes : List ℕ) → place ≡ key_of catalog_definition bytes
      → length bytes ≡ 204
      → IfSome (shape_among parts 0) (λ (shape : Shape). IsRecordOf shape place bytes)
  catalog-record place bytes at long = with-shape (λ shape. IsRecordOf shape place bytes)
      (record { least = omega (arith, long); most = omega (arith, long) }, sym at)

-- ---- a fault

faulted-state : (opening : State) (file : FileNow) (after : ℕ) (unit : UnitOfRecovery) (line : ℕ)
    → (state_now opening (faulted after unit line file)).owned
    ≡ (state_now opening file).owned
faulted-state opening file after unit line =
    ap (λ (s : State). s.owned) (state_of-append file.geometry opening file.entries
    (entry_next file.entries after unit line (Faulted Write)))

-- A volume is held, of which nothing is said any more but its history.
pub held-faulted : {B : Type 0} (seen : B → Seen) (opening : State) (volume : VolumeNow B)
    (to : FileNow) (after : ℕ) (unit : UnitOfRecovery) (line : ℕ)
    → to ≡ faulted after unit line volume.file → IsFileHeld opening volume
    → IsStateOf opening to → IsHeld seen opening (record volume { file = to })
held-faulted seen opening volume to after unit line leaves known file =
    let owned : (state_now opening to).owned ≡ (state_now opening volume.file).owned =
    ap (λ (f : FileNow). (state_now opening f).owned) leaves
    ∙ faulted-state opening volume.file after unit line in
    let geometry : to.geometry ≡ volume.file.geometry =
    ap (λ (f : FileNow). f.geometry) leaves in
    record {
      file = file;
      free = cc (known.free, geometry, owned);
      owned = owned-same volume.store.space volume.store.space _ _ refl owned known.owned;
      unlaid = λ going. absurd (none-some _ (sym going ∙ ap (λ (f : FileNow). f.stopped) leaves));
      stored = λ going. absurd (none-some _ (sym going ∙ ap (λ (f : FileNow). f.stopped) leaves));
    }

pub whole-faulted : {B : Type 0} (seen : B → Seen) (volume : VolumeNow B) (to : FileNow)
    (after : ℕ) (unit : UnitOfRecovery) (line : ℕ)
    → to ≡ faulted after unit line volume.file
    → AreServed volume.file.geometry volume.file.catalog
    → IsWhole seen (record volume { file = to })
whole-faulted seen volume to after unit line leaves served =
    whole-stopped seen (record volume { file = to })
    (served_same volume.file.geometry to.geometry volume.file.catalog to.catalog
    (ap (λ (f : FileNow). f.geometry) leaves) (ap (λ (f : FileNow). f.catalog) leaves) served)
    (λ going. none-some _ (sym going ∙ ap (λ (f : FileNow). f.stopped) leaves))
