-- Splits are entered as the blocks have them: how many intervals a key-sequenced part has in the
-- blocks of a volume that is held, it knows in memory.
use Rattle.std.proofs.Common.{◌≡◌, ◌∙◌, ℕ, ◌+◌, List, ◌++◌, Some, None, sym, ap, subst}
use Rattle.std.proofs.Common.{arith, length, filter, Option, ◌<◌}
use Rattle.std.specs.Prelude.{IsSomeAnd}
use Rattle.std.proofs.lemmas.List.{length-append}
use Rattle.std.proofs.lemmas.List.Elements.{filter-append}
use Rattle.vr_types.specs.Image.{Image}
use Rattle.vr_types.specs.Seen.{Seen}
use Rattle.vr_types.specs.declared.geometry.Geometry.{Geometry}
use Rattle.vr_catalog.specs.Catalog.{entries_in}
use Rattle.vr_catalog.specs.declared.entry.CatEntry.{CatEntry}
use Rattle.vr_attach.specs.Laid.{shape_in}
use Rattle.vr_history.specs.Legal.{state_of}
use Rattle.vr_history.specs.State.{State}
use Rattle.vr_history.specs.declared.entry.Entry.{Entry}
use Rattle.vr_record_file.specs.Now.{state_now}
use Rattle.vr_space.specs.Areas.{KeyedChain, intervals_in}
use Rattle.vr_space.specs.Part.{KeyedShape, Knows, Shape}
use Rattle.vr_store.specs.Store.{IsRestedPart, IsSet, IsStored, PartNow, StoreNow}
use Rattle.vr_store.proofs.Among.{HasShape, among-shape}
use Rattle.vr_store.proofs.CallerLemmas.{rested-at}
use Rattle.vr_event.specs.Nearer.{EntersSplits, HasKeyed, IsKeyed, intervals_by, splits_it}
use Rattle.vr_event.specs.Nearer.{splits_of}
use Rattle.vr_event.specs.Volume.{IsHeld, IsWhole, VolumeNow}
use Rattle.vr_job.specs.Splits.{AddsAsSplit, LaysKeyed}

-- ---- entries

-- the splits of first entries and of more are those of all
splits-both : (part : ℕ) (entries more : List Entry)
    → splits_of part (entries ++ more) ≡ splits_of part entries + splits_of part more
splits-both part entries more =
    ap length (filter-append (λ (entry : Entry). splits_it part entry.what) entries more)
    ∙ length-append (filter (λ (entry : Entry). splits_it part entry.what) entries)
    (filter (λ (entry : Entry). splits_it part entry.what) more)

-- ---- a part that the catalog lays

module _ (number : ℕ) (store : StoreNow) (state : State) (now : Seen) (set : IsSet store now)
    (stored : IsStored number store state now) (part : ℕ) (shape : Shape)
    (laid : shape_in store.log.geometry (entries_in (state.contents 0)) part ≡ Some shape) where
  -- is among those of the store, at rest,
  pub part-there : HasShape store.parts part shape
  part-there = among-shape store.parts part shape (stored.whole part shape laid)

  pub part-rested : IsRestedPart store state now part-there.part
  part-rested =
      rested-at store now set number state part part-there.part part-there.found stored

  -- and knows its blocks
  pub part-knows : Knows shape part-there.part.known now
  part-knows = subst (λ (s : Shape). Knows s part-there.part.known now) part-there.is
      part-rested.knows

-- A key-sequenced part, as the volume has it in memory: it knows how many intervals it has in these
-- blocks.
record IsCounted (parts : List PartNow) (part : ℕ) (chain : KeyedChain) (image : Image) : Type 0
  where
    pub there : HasShape parts part (KeyedShape chain)
    pub used : there.part.known.used ≡ intervals_in chain image

-- So it is of each that is laid in a volume that is held, and hasn't stopped.
held-counted : {B : Type 0} (seen : B → Seen) (opening : State) (volume : VolumeNow B)
    → IsWhole seen volume → IsHeld seen opening volume → volume.file.stopped ≡ None
    → (part : ℕ) (chain : KeyedChain)
    → shape_in volume.file.geometry (entries_in ((state_now opening volume.file).contents 0)) part
    ≡ Some (KeyedShape chain)
    → IsCounted volume.store.parts part chain (seen volume.blocks).cur
held-counted seen opening volume whole held going part chain laid =
    let state = state_now opening volume.file in
    let now = seen volume.blocks in
    let is : shape_in volume.store.log.geometry (entries_in (state.contents 0)) part
    ≡ Some (KeyedShape chain) =
    subst (λ (g : Geometry). shape_in g (entries_in (state.contents 0)) part
    ≡ Some (KeyedShape chain)) (sym (whole.geometry going)) laid in
    record {
      there = part-there volume.number volume.store state now (whole.set going)
          (held.stored going) part (KeyedShape chain) is;
      used = (part-knows volume.number volume.store state now (whole.set going)
          (held.stored going) part (KeyedShape chain) is).blocks.2;
    }

-- A keyed part of the store is one that the catalog lays.
held-keyed : {B : Type 0} (seen : B → Seen) (opening : State) (volume : VolumeNow B)
    → IsWhole seen volume → IsHeld seen opening volume → volume.file.stopped ≡ None
    → (part : ℕ) → HasKeyed volume.store.parts part
    → LaysKeyed volume.file.geometry (state_now opening volume.file) part
held-keyed seen opening volume whole held going part keyed =
    subst (λ (one : Option Shape). IsSomeAnd one IsKeyed)
    (whole.laid going part
    ∙ ap (λ (them : List CatEntry). shape_in volume.file.geometry them part)
    held.file.now.catalog) keyed

-- ---- an event

module _ {B : Type 0} (seen : B → Seen) (opening : State) (old new : VolumeNow B)
    (before : IsWhole seen old) (whole : IsWhole seen new) (was : IsHeld seen opening old)
    (held : IsHeld seen opening new) (made : List Entry)
    (entries : new.file.entries ≡ old.file.entries ++ made)
    (same : new.file.geometry ≡ old.file.geometry)
    (stays : new.file.stopped ≡ None → old.file.stopped ≡ None)
    (enters : EntersSplits old new) where
  -- as the part counts in memory, the blocks do
  added : new.file.stopped ≡ None → (part : ℕ) (chain later : KeyedChain)
      → IsCounted old.store.parts part chain (seen old.blocks).cur
      → IsCounted new.store.parts part later (seen new.blocks).cur
      → intervals_in later (seen new.blocks).cur
      ≡ intervals_in chain (seen old.blocks).cur + splits_of part made
  added going part chain later one other = omega (
    arith,
    (enters going).counts part one.there.part other.there.part one.there.found other.there.found
        one.there.part.known.used (ap (λ (shape : Shape).
        intervals_by shape one.there.part.known.used) one.there.is),
    one.used,
    other.used,
    ap (splits_of part) entries,
    splits-both part old.file.entries made,
  )

  abbrev after : State
  after = state_of old.file.geometry opening new.file.entries

  -- and each split that was entered is of a keyed part
  of-keyed : new.file.stopped ≡ None → (part : ℕ) → 0 < splits_of part made
      → HasKeyed old.store.parts part × HasKeyed new.store.parts part
  of-keyed going part some = (enters going).keyed part (omega (
    arith,
    some,
    ap (splits_of part) entries,
    splits-both part old.file.entries made,
  ))

  -- each part has as many intervals more as splits of it were entered
  pub held-splits : after.stopped ≡ None → AddsAsSplit old.file.geometry
      (state_now opening old.file) after (seen old.blocks).cur (seen new.blocks).cur made
  held-splits none = record {
    adds = λ part chain later laid laid-after. added going part chain later
        (held-counted seen opening old before was (stays going) part chain laid)
        (held-counted seen opening new whole held going part later
        (subst (λ (g : Geometry). shape_in g
        (entries_in ((state_of g opening new.file.entries).contents 0)) part
        ≡ Some (KeyedShape later)) (sym same) laid-after));
    keyed = λ part some.
        let both = of-keyed going part some in (
          held-keyed seen opening old before was (stays going) part both.0,
          subst (λ (g : Geometry).
              LaysKeyed g (state_of g opening new.file.entries) part) same
              (held-keyed seen opening new whole held going part both.1),
        );
  }
    where
      going : new.file.stopped ≡ None
      going = held.file.now.stopped
          ∙ subst (λ (g : Geometry). (state_of g opening new.file.entries).stopped ≡ None)
          (sym same) none
