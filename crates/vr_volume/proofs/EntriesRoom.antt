-- Room for the records that stand at several places of the catalog, which may be put back.
use Rattle.std.proofs.Common.{◌≡◌, ℕ, List, [], ◌∷◌, ◌++◌, Option, Some, None, sym, ap, subst}
use Rattle.std.proofs.Common.{◌∙◌, length, map}
use Rattle.std.specs.Prelude.{All}
use Rattle.std.specs.Option.{option_and_then, option_map}
use Rattle.std.proofs.lemmas.List.{append-nil, append_assoc, map-append}
use Rattle.std.proofs.lemmas.List.Elements.{All-head, All-tail}
use Rattle.vr_types.specs.Content.{Item, Standing, record_of}
use Rattle.vr_types.specs.Seen.{Seen}
use Rattle.vr_types.specs.declared.unit.Unit.{Unit as UnitOfRecovery}
use Rattle.vr_space.specs.Owners.{Owners}
use Rattle.vr_space.specs.Part.{HasKeptRoom, IsPlaceOf, IsSound, MayHold, Shape}
use Rattle.vr_space.specs.Room.{Lengths}
use Rattle.vr_space.proofs.CallerLemmas.{keep-room}
use Rattle.vr_volume.specs.EntryChanges.{MayStand, StandsAt, image_for}
use Rattle.vr_volume.specs.PutBack.{length_of, lengths_kept}
use Rattle.vr_volume.specs.declared.setting.EntryChange.{EntryChange}
use Rattle.vr_volume.proofs.Befores.{goes-back}
use Rattle.vr_undo.proofs.Images.{kept-append, kept_more}

module _ (shape : Shape) (owners : Owners) (now : Seen) (sound : IsSound shape owners now)
    (unit : UnitOfRecovery) where
  room-by : (kept : Lengths) (place : List ℕ) (before : Option (List ℕ)) → IsPlaceOf shape place
      → HasKeptRoom shape kept now
      → ((item : Option Item) → MayHold shape now.may place item → item ≡ option_map Standing before)
      → HasKeptRoom shape
      (kept_more kept (length_of place (option_and_then record_of (option_map Standing before)))) now
  room-by kept place None at room firm = room
  room-by kept place (Some bytes) at room firm =
      keep-room shape owners kept place (length bytes) now at sound room
      (λ item held. (bytes, firm item held, goes-back shape (length bytes)))

  rooms : (done more : List EntryChange)
      → HasKeptRoom shape (lengths_kept (map (image_for unit) done) 0) now
      → All (MayStand shape) more → All (StandsAt shape now) more
      → HasKeptRoom shape (lengths_kept (map (image_for unit) (done ++ more)) 0) now
  rooms done [] room may firm = subst (λ (cs : List EntryChange).
      HasKeptRoom shape (lengths_kept (map (image_for unit) cs) 0) now) (sym (append-nil done)) room
  rooms done (change ∷ more) room may firm = subst (λ (cs : List EntryChange).
      HasKeptRoom shape (lengths_kept (map (image_for unit) cs) 0) now)
      (append_assoc done (change ∷ []) more)
      (rooms (done ++ change ∷ []) more
      (subst (λ (lengths : Lengths). HasKeptRoom shape lengths now)
      (sym (ap (λ them. lengths_kept them 0) (map-append (image_for unit) done (change ∷ []))
      ∙ kept-append (map (image_for unit) done) (image_for unit change) 0))
      (room-by (lengths_kept (map (image_for unit) done) 0) change.place change.before
      (All-head (MayStand shape) change more may).0 room
      (All-head (StandsAt shape now) change more firm)))
      (All-tail (MayStand shape) change more may) (All-tail (StandsAt shape now) change more firm))

  -- Where a record, or none, stands at each place, whatever a crash leaves, there is room to put them
  -- back.
  pub room-entries : (changes : List EntryChange) → HasKeptRoom shape [] now
      → All (MayStand shape) changes → All (StandsAt shape now) changes
      → HasKeptRoom shape (lengths_kept (map (image_for unit) changes) 0) now
  room-entries changes room may firm = rooms [] changes room may firm
