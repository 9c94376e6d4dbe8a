-- The catalog of a volume at rest: each of its items is the record of an entry, at its place.
use Rattle.std.proofs.Common.{◌≡◌, ◌∙◌, ℕ, List, Option, Some, None, refl, sym, ap, subst}
use Rattle.std.specs.List.{AllByRecursion}
use Rattle.std.specs.Option.{option_map}
use Rattle.std.proofs.lemmas.Option.{none-some, same_Some}
use Rattle.vr_types.specs.Content.{Content, Item, Standing, item_at}
use Rattle.vr_types.specs.Image.{Image}
use Rattle.vr_types.specs.Seen.{Left, Seen}
use Rattle.vr_types.specs.declared.geometry.Geometry.{Geometry}
use Rattle.vr_attach.specs.Laid.{catalog_shape}
use Rattle.vr_space.specs.Part.{Shape, StandsFor, Stands, item_of, part_no, record_read}
use Rattle.vr_space.proofs.CallerLemmas.{content_item, item-read, record-read, rest-sound}
use Rattle.vr_space.proofs.CallerLemmas.{rest-stands}
use Rattle.vr_history.specs.State.{State}
use Rattle.vr_store.specs.Store.{IsRestedPart, IsStored, PartNow, StoreNow, owners_of, part_among}
use Rattle.vr_store.specs.Store.{shape_among}
use Rattle.vr_store.proofs.Among.{among-all}
use Rattle.vr_event.proofs.ClusterRecords.{IsKeyedItem, IsNamed, all-named, each-item}

-- a part that is found with this shape
record HasShape (parts : List PartNow) (part : ℕ) (shape : Shape) : Type 0 where
  one : PartNow
  there : part_among parts part ≡ Some one
  same : one.shape ≡ shape

has-shape : (parts : List PartNow) (part : ℕ) (shape : Shape)
    → shape_among parts part ≡ Some shape → HasShape parts part shape
has-shape parts part shape is = of (part_among parts part) refl is
  where
    of : (found : Option PartNow) → part_among parts part ≡ found
        → option_map (λ (one : PartNow). one.shape) found ≡ Some shape
        → HasShape parts part shape
    of None at found = absurd (none-some shape found)
    of (Some one) at found =
        record { one = one; there = at; same = same_Some one.shape shape found }

-- an item of a key-sequenced part stands at its key
keyed-item : (geometry : Geometry) (image : Image) (content : Content)
    → StandsFor (catalog_shape geometry) image content → (place : List ℕ) (item : Item)
    → item_of (catalog_shape geometry) image place ≡ Some item → IsKeyedItem (place, item)
keyed-item geometry image content stands place item is =
    of (record_read (catalog_shape geometry) image place)
    (sym (item-read (catalog_shape geometry) image place tt) ∙ is)
  where
    of : (found : Option (List ℕ)) → option_map Standing found ≡ Some item
        → IsKeyedItem (place, item)
    of None standing = absurd (none-some item standing)
    of (Some bytes) standing =
        let same : Standing bytes ≡ item = same_Some (Standing bytes) item standing in
        let there : item_at content place ≡ Some (Standing bytes) =
        content_item (catalog_shape geometry) image content stands place ∙ is
        ∙ ap (λ (i : Item). Some i) (sym same) in
        let at = record-read (catalog_shape geometry) image content stands place bytes there in
        record { bytes = bytes; item_is = sym same; place_is = sym at.1 }

module _ (volume : ℕ) (store : StoreNow) (state : State) (now : Seen) (left : Left now now.cur)
    (stored : IsStored volume store state now)
    (laid : shape_among store.parts 0 ≡ Some (catalog_shape store.log.geometry)) where
  abbrev shape : Shape
  shape = catalog_shape store.log.geometry

  has : HasShape store.parts 0 shape
  has = has-shape store.parts 0 shape laid

  rests : IsRestedPart store state now has.one
  rests = among-all (IsRestedPart store state now) store.parts 0 has.one stored.parts has.there

  stands : Stands shape now.cur
  stands = subst (λ (s : Shape). Stands s now.cur) has.same
      (rest-stands has.one.shape (owners_of store) now
      (rest-sound has.one.shape (owners_of store) now rests.rests) left)

  reads : (place : List ℕ) → item_of shape now.cur place ≡ item_at (state.contents 0) place
  reads place = ap (λ (s : Shape). item_of s now.cur place) (sym has.same) ∙ rests.reads place
      ∙ ap (λ (s : Shape). item_at (state.contents (part_no s).0) place) has.same

  pub items-named : AllByRecursion IsNamed (state.contents 0)
  items-named = all-named (state.contents 0)
      (each-item IsKeyedItem (state.contents 0) (stored.volume.laid.each 0)
      (λ place item is. keyed-item store.log.geometry now.cur stands.0 stands.1 place item
      (reads place ∙ is)))
      stored.volume.laid.catalog.spelled
