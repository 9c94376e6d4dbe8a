-- What several changes of the catalog leave of the parts of a volume: the catalog has each of them at
-- its place, and each other part that doesn't go is at rest by the state after them.
use Rattle.std.proofs.Common.{◌≡◌, ◌≢◌, ℕ, false, List, [], ◌∷◌, Option, Some, None, refl, sym}
use Rattle.std.proofs.Common.{ap, subst, ◌∙◌}
use Rattle.std.specs.Prelude.{All, Contains}
use Rattle.std.specs.Option.{option_map}
use Rattle.std.proofs.lemmas.List.Elements.{All-nil, All-weaker}
use Rattle.vr_types.specs.Content.{Content, Item, Standing, item_at}
use Rattle.vr_types.specs.Image.{Image}
use Rattle.vr_types.specs.Regions.{Touches}
use Rattle.vr_types.specs.Seen.{Left, Seen}
use Rattle.vr_types.specs.declared.geometry.Geometry.{Geometry}
use Rattle.vr_types.specs.declared.unit.PartNo.{PartNo}
use Rattle.vr_types.specs.declared.unit.Unit.{Unit as UnitOfRecovery}
use Rattle.vr_space.specs.Known.{Known}
use Rattle.vr_space.specs.Owners.{Owners}
use Rattle.vr_space.specs.Part.{HasKeptRoom, IsAtRest, IsFirm, Knows, MayHold, OwnsClaimed, Shape}
use Rattle.vr_space.specs.Part.{item_of, left_by, part_no}
use Rattle.vr_space.specs.Room.{Lengths}
use Rattle.vr_space.proofs.CallerLemmas.{StaysPart, fewer-room, knows-stays, on-still, owns-same}
use Rattle.vr_space.proofs.CallerLemmas.{rest-sound, rest-stays, room-stays, same-stays}
use Rattle.vr_log.specs.LogNow.{LogNow}
use Rattle.vr_log.specs.Standing.{InLog}
use Rattle.vr_history.specs.State.{BeforeImage, State}
use Rattle.vr_volume.specs.Committed.{committed_by}
use Rattle.vr_volume.specs.EntryChange.{is_gone}
use Rattle.vr_volume.specs.EntryChanges.{AreEntriesChanged, AreSet, CanChangeEntries}
use Rattle.vr_volume.specs.Laid.{catalog_shape, shape_by}
use Rattle.vr_volume.specs.Laying.{AreLogged}
use Rattle.vr_volume.specs.PutBack.{lengths_kept, oldest}
use Rattle.vr_volume.specs.Rests.{IsPartAtRest, IsVolumeAtRest}
use Rattle.vr_volume.specs.Safe.{IsSafe}
use Rattle.vr_volume.specs.declared.setting.EntryChange.{EntryChange}
use Rattle.vr_volume.proofs.AllSet.{all-both}
use Rattle.vr_volume.proofs.Among.{keep-less}
use Rattle.vr_volume.proofs.Begun.{catalog_no}
use Rattle.vr_volume.proofs.Calls.{stays-part}
use Rattle.vr_volume.proofs.EntriesChanged.{item-else, item-here, laid-still, other-stays}
use Rattle.vr_volume.proofs.EntriesChanged.{zero-stays}
use Rattle.vr_volume.proofs.EntriesEnded.{held-else}
use Rattle.vr_volume.proofs.EntriesLogged.{logs}
use Rattle.vr_volume.proofs.EntriesPlaced.{by-among}
use Rattle.vr_volume.proofs.EntryIdle.{none-given}
use Rattle.vr_volume.proofs.Rested.{part-stays, stays-holds}

module _ {geometry : Geometry} {number : ℕ} {owners : Owners} {log : LogNow}
    {images : List BeforeImage} {old new : State} {a : Seen} {unit : UnitOfRecovery}
    {changes : List EntryChange} {gone : Option ℕ}
    (rest : IsVolumeAtRest geometry number owners log images old a)
    (can : CanChangeEntries geometry log unit changes gone old)
    (made : AreEntriesChanged unit changes gone old new) where
  -- ---- another part

  -- one that doesn't go, and is left as it is, stays at rest by the new state
  pub other-rests : (other : Shape) (known : Known) (b : Seen) → (part_no other).0 ≢ 0
      → is_gone gone (part_no other).0 ≡ false → StaysPart other owners a b → Left a a.cur
      → IsPartAtRest geometry owners images old other known a
      → IsPartAtRest geometry owners [] new other known b
  other-rests other known b apart stays same left part =
      part-stays geometry owners [] [] new new other known a b same left told refl refl refl
      (λ at none. none)
    where
      item : (at : List ℕ) → item_at (new.contents (part_no other).0) at
          ≡ item_at (old.contents (part_no other).0) at
      item at = ap (λ (content : Content). item_at content at)
          (other-stays rest.laid can made (part_no other).0 apart stays)

      told : IsPartAtRest geometry owners [] new other known a
      told = record {
        laid = laid-still rest.laid can made (part_no other).0 stays ∙ part.laid;
        on = part.on;
        rests = part.rests;
        claimed = part.claimed;
        room = subst (λ (those : List BeforeImage).
            HasKeptRoom other (lengths_kept those (part_no other).0) a)
            (none-given rest can.idle) part.room;
        knows = part.knows;
        reads = λ at. part.reads at ∙ sym (item at);
        firm = λ at found none held. part.firm at found
            (ap (λ (those : List BeforeImage). oldest those (part_no other).0 at)
            (none-given rest can.idle)) held ∙ sym (item at);
      }

  -- ---- the catalog

  module _ {catalog : Shape} {known : Known} (is : part_no catalog ≡ catalog_no)
      (part : IsPartAtRest geometry owners images old catalog known a) where
    pub zero-is : (part_no catalog).0 ≡ 0
    zero-is = ap (λ (p : PartNo). p.0) is

    pub catalog-is : catalog ≡ catalog_shape geometry
    catalog-is = some-same catalog (catalog_shape geometry)
        (sym part.laid ∙ ap (shape_by geometry (old.contents 0)) zero-is)
      where
        some-same : (one other : Shape) → Some one ≡ Some other → one ≡ other
        some-same one other same = cc

    record-put : (now : Option Item) (bytes : Option (List ℕ))
        → left_by catalog now bytes ≡ option_map Standing bytes
    record-put now bytes = ap (λ (s : Shape). left_by s now bytes) catalog-is

    free-place : (at : List ℕ) → oldest images (part_no catalog).0 at ≡ None
    free-place at = ap (λ (those : List BeforeImage). oldest those (part_no catalog).0 at)
        (none-given rest can.idle)

    -- Once the before-images are logged, and the records are set and forced.
    module _ (b d : Seen) (stays : StaysPart catalog owners a b) (left : Left a a.cur)
        (set : AreSet catalog changes b.cur d.cur) where
      sound : Rattle.vr_space.specs.Part.IsSound catalog owners a
      sound = rest-sound catalog owners a part.rests

      firm-start : (change : EntryChange) → IsFirm catalog b change.place
      firm-start change item held =
          part.firm change.place item (free-place change.place)
          (stays-holds catalog owners a b stays sound change.place item held)
          ∙ sym (part.reads change.place)
          ∙ sym (same-stays a b catalog owners stays sound left change.place)

      pub firms-start : All (λ (change : EntryChange). IsFirm catalog b change.place) changes
      firms-start = each changes
        where
          each : (cs : List EntryChange)
              → All (λ (change : EntryChange). IsFirm catalog b change.place) cs
          each [] = All-nil (λ (change : EntryChange). IsFirm catalog b change.place)
          each (change ∷ cs) = Rattle.std.proofs.lemmas.List.Elements.All-cons
              (λ (one : EntryChange). IsFirm catalog b one.place) change cs (firm-start change)
              (each cs)

      module _ (firm : All (λ (change : EntryChange). IsFirm catalog d change.place) changes) where
        abbrev Firm : EntryChange → Type 0
        Firm change = (item : Option Item) → MayHold catalog d.may change.place item
            → item ≡ option_map Standing change.bytes

        firms-here : All Firm changes
        firms-here = All-weaker (λ (change : EntryChange). IsFirm catalog d change.place
            × (item_of catalog d.cur change.place
            ≡ left_by catalog (item_of catalog b.cur change.place) change.bytes)) Firm
            (λ change both item held. both.0 item held ∙ both.1
            ∙ record-put (item_of catalog b.cur change.place) change.bytes) changes
            (all-both (λ (change : EntryChange). IsFirm catalog d change.place)
            (λ (change : EntryChange). item_of catalog d.cur change.place
            ≡ left_by catalog (item_of catalog b.cur change.place) change.bytes) changes firm
            set.here)

        -- A crash leaves at each place what its change gives.
        pub firms-there : All (λ (change : EntryChange). (item : Option Item)
            → MayHold (catalog_shape geometry) d.may change.place item
            → item ≡ option_map Standing change.bytes) changes
        firms-there = subst (λ (s : Shape). All (λ (change : EntryChange). (item : Option Item)
            → MayHold s d.may change.place item
            → item ≡ option_map Standing change.bytes) changes) catalog-is firms-here

        module _ {more : LogNow} (logged : AreLogged log (logs unit changes) more)
            (some : changes ≢ [])
            (safe : IsSafe geometry number owners more (committed_by old) d) where
          -- The catalog is at rest by the new state, while the end is logged and from then on.
          pub catalog-rests : (e : Seen) (Q : Image → Type 0) (later : Known) (kept : Lengths)
              → Touches (InLog geometry) Q d e → Left d d.cur → IsAtRest catalog owners d
              → d.count ≡ b.count → d.size ≡ b.size → HasKeptRoom catalog kept d
              → Knows catalog later d → later.move ≡ known.move
              → IsPartAtRest geometry owners [] new catalog later e
          catalog-rests e Q later kept last now rests count size room knows moves = record {
            laid = laid-still rest.laid can made (part_no catalog).0 no-gone ∙ part.laid;
            on = on-still catalog d e (on-still catalog b d
                (on-still catalog a b part.on stays.count stays.size) count size)
                still.count still.size;
            rests = rest-stays d e catalog owners still rests;
            claimed = owned;
            room = room-stays d e catalog owners [] still sound-d
                (fewer-room catalog owners [] kept d tt
                (keep-less catalog [] kept (All-nil (λ (entry : List ℕ × ℕ). Contains kept entry)))
                sound-d room);
            knows = knows-stays d e catalog owners later still sound-d now owned knows;
            reads = λ at. same-stays d e catalog owners still sound-d now at ∙ read-at at;
            firm = λ at found none held. firm-at at found
                (stays-holds catalog owners d e still sound-d at found held);
          }
            where
              still : StaysPart catalog owners d e
              still = stays-part geometry catalog owners Q d e rest.safe.past last

              sound-d : Rattle.vr_space.specs.Part.IsSound catalog owners d
              sound-d = rest-sound catalog owners d rests

              owned : OwnsClaimed catalog owners later
              owned = owns-same catalog owners known later moves part.claimed

              no-gone : is_gone gone (part_no catalog).0 ≡ false
              no-gone = ap (is_gone gone) zero-is ∙ zero-stays rest.laid can made

              Given : EntryChange → Type 0
              Given change = item_at (new.contents 0) change.place
                  ≡ option_map Standing change.bytes

              given : All Given changes
              given = item-here rest.laid can made

              new-at : (at : List ℕ) → item_at (new.contents (part_no catalog).0) at
                  ≡ item_at (new.contents 0) at
              new-at at = ap (λ (p : ℕ). item_at (new.contents p) at) zero-is

              Here : EntryChange → Type 0
              Here change = item_of catalog d.cur change.place
                  ≡ left_by catalog (item_of catalog b.cur change.place) change.bytes

              read-at : (at : List ℕ) → item_of catalog d.cur at
                  ≡ item_at (new.contents (part_no catalog).0) at
              read-at at = by-among (λ (change : EntryChange). Here change × Given change)
                  (item_of catalog d.cur at ≡ item_at (new.contents (part_no catalog).0) at) at
                  changes (all-both Here Given changes set.here given)
                  (λ change both there.
                  ap (item_of catalog d.cur) there ∙ both.0
                  ∙ record-put (item_of catalog b.cur change.place) change.bytes ∙ sym both.1
                  ∙ ap (item_at (new.contents 0)) (sym there) ∙ sym (new-at at))
                  (λ misses.
                  set.others at misses ∙ same-stays a b catalog owners stays sound left at
                  ∙ part.reads at
                  ∙ sym (item-else rest.laid can made (part_no catalog).0 at no-gone
                  (λ zero. misses)))

              firm-at : (at : List ℕ) (found : Option Item) → MayHold catalog d.may at found
                  → found ≡ item_at (new.contents (part_no catalog).0) at
              firm-at at found held = by-among (λ (change : EntryChange). Firm change × Given change)
                  (found ≡ item_at (new.contents (part_no catalog).0) at) at changes
                  (all-both Firm Given changes firms-here given)
                  (λ change both there.
                  both.0 found (subst (λ (q : List ℕ). MayHold catalog d.may q found) there held)
                  ∙ sym both.1 ∙ ap (item_at (new.contents 0)) (sym there) ∙ sym (new-at at))
                  (λ misses.
                  held-else rest can made logged some safe (part_no catalog).0 catalog part.laid at
                  found held (λ zero. misses)
                  ∙ sym (item-else rest.laid can made (part_no catalog).0 at no-gone
                  (λ zero. misses)))
