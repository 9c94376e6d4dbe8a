-- The contents that an image is recovered to are in the order of addresses in each entry-sequenced
-- part: putting before-images back moves no item, and changes the length of none.
use Rattle.std.proofs.Common.{◌≡◌, ◌⊎◌, inl, inr, ◌==◌, ℕ, Bool, true, false, Option, Some, None, List, [], ◌∷◌}
use Rattle.std.proofs.Common.{length, refl}
use Rattle.std.proofs.Common.{sym, ap, subst, ◌∙◌, true≢false, ◌<◌}
use Rattle.std.specs.Prelude.{cond}
use Rattle.std.specs.Option.{option_and_then, option_map}
use Rattle.vr_types.specs.Content.{Ascends, Content, Item, Standing, Withdrawn, record_of}
use Rattle.vr_types.specs.Geometry.{area_count}
use Rattle.vr_types.specs.Image.{Block, Image}
use Rattle.vr_types.specs.declared.geometry.Geometry.{Geometry}
use Rattle.vr_types.specs.declared.unit.AreaNo.{AreaNo}
use Rattle.vr_types.specs.declared.unit.Kind.{Kind}
use Rattle.vr_types.specs.declared.unit.Kind.TheVariants.{Entry as EntrySequenced}
use Rattle.vr_catalog.specs.Catalog.{cluster_definition, definition_of, entries_in, entry_with_part}
use Rattle.vr_catalog.specs.Definition.{catalog_definition}
use Rattle.vr_catalog.specs.declared.definition.Definition.{Definition}
use Rattle.vr_catalog.specs.declared.entry.CatEntry.{CatEntry}
use Rattle.vr_attach.specs.Laid.{catalog_shape, is_relative, numbered_part, shape_by_kind}
use Rattle.vr_attach.specs.Laid.{shape_from, shape_in, shape_of}
use Rattle.vr_space.specs.Entries.{item_length}
use Rattle.vr_space.specs.Keyed.{items_of}
use Rattle.vr_space.specs.Numbered.{HasLengthBy, IsFilled, KeepsNumbered, at_in, interval_of}
use Rattle.vr_space.specs.Numbered.{item_by, left_in, withdrawn}
use Rattle.vr_space.specs.Part.{NumberedShape, Shape, StandsFor, item_of}
use Rattle.vr_space.specs.Room.{Lengths}
use Rattle.vr_space.specs.Room as rooms
use Rattle.vr_space.specs.Rosters.{IsOf, Numbered}
use Rattle.vr_space.specs.Way.{found_on}
use Rattle.vr_space.proofs.CallerLemmas.{HasKeptLength, IsFoundIn, content_item, interval-found}
use Rattle.vr_space.proofs.CallerLemmas.{place-kept, stands_content, way-there}
use Rattle.vr_history.specs.Address.{length_of}
use Rattle.vr_history.specs.Addresses.{AreAddressed}
use Rattle.vr_history.specs.State.{BeforeImage}
use Rattle.vr_history.proofs.CallerLemmas.{lengths_addressed}
use Rattle.vr_log.specs.Content.{Content as LogContent}
use Rattle.vr_volume.specs.Laid.{shape_by}
use Rattle.vr_volume.specs.PutBack.{AreAlone, images_of, is_image_of, lengths_kept, oldest}
use Rattle.vr_volume.specs.Volume.{IsInside, Recovers, shapes_by}
use Rattle.vr_volume.proofs.Alone.{is-there}
use Rattle.vr_volume.proofs.CallerLemmas.{AreSome, shape-stands, stands-addressed}
use Rattle.vr_recover.specs.Recovered.{IsBackOf, IsRecovered, item_back, standing_all}
use Rattle.vr_recover.specs.Undone.{IsKeptAt}
use Rattle.vr_recover.proofs.KeptLengths.{each-some, image-kept}
use Rattle.vr_recover.proofs.Logs.{same_log}
use Rattle.vr_recover.proofs.PuttingBack.{found-passes}

-- ---- lengths

-- the length of what is at a place
abbrev long_at : Option Item → Option ℕ
long_at item = option_map length_of item

same-long : (item : Option Item) → option_map item_length item ≡ long_at item
same-long None = refl
same-long (Some (Standing bytes)) = refl
same-long (Some (Withdrawn n)) = refl

-- what is withdrawn keeps it
withdrawn-long : (item : Option Item) → long_at (option_map withdrawn item) ≡ long_at item
withdrawn-long None = refl
withdrawn-long (Some (Standing bytes)) = refl
withdrawn-long (Some (Withdrawn n)) = refl

-- ---- one part

module _ (part : Numbered) (entries : part.relative ≡ false) (image : Image) (blocks : Content)
    (stands : StandsFor (NumberedShape part) image blocks) where
  abbrev shape : Shape
  shape = NumberedShape part

  -- where a record is kept for a place, the item there has its length
  kept-long : (kept : Lengths) (place : List ℕ) (n : ℕ) → KeepsNumbered part kept (IsOf image)
      → rooms.length_at kept place ≡ Some n → long_at (item_of shape image place) ≡ Some n
  kept-long kept place n room is =
      let there = place-kept part (IsOf image) kept place n room is in
      let found : IsFoundIn part (HasKeptLength part (place, n)) (at_in part place) _ =
      interval-found part (λ area. area < area_count part.geometry) (IsFilled part)
      (HasKeptLength part (place, n)) image (at_in part place) (area_count part.geometry)
      (interval_of part place) part.first stands.chain there.interval in
      sym (same-long (item_of shape image place))
      ∙ ap (option_map item_length) (ap (found_on image) (way-there part place there.place)
      ∙ found.item)
      ∙ long_by part.relative entries found.block found.has
    where
      long_by : (relative : Bool) → relative ≡ false → (block : Block)
          → HasLengthBy relative (at_in part place) n block
          → option_map item_length (item_by relative (at_in part place) (items_of block)) ≡ Some n
      long_by true is_not block has = absurd (true≢false is_not)
      long_by false is_so block has = has

  -- so putting before-images back leaves at each place an item of the length of that which is there
  module _ (number : ℕ) (images : List BeforeImage) (alone : AreAlone images)
      (room : KeepsNumbered part (lengths_kept images number) (IsOf image)) where
    back-long : (place : List ℕ)
        → long_at (item_back shape (oldest images number place) (item_of shape image place))
        ≡ long_at (item_of shape image place)
    back-long place = by_image (oldest images number place) refl
      where
        by_old : (old : Option (List ℕ)) → IsKeptAt (lengths_kept images number) place old
            → long_at (left_in false (item_of shape image place) old)
            ≡ long_at (item_of shape image place)
        by_old None kept = withdrawn-long (item_of shape image place)
        by_old (Some bytes) kept =
            sym (kept-long (lengths_kept images number) place (length bytes) room kept)

        by_image : (found : Option BeforeImage) → oldest images number place ≡ found
            → long_at (item_back shape found (item_of shape image place))
            ≡ long_at (item_of shape image place)
        by_image None is = refl
        by_image (Some before) is =
            let passes = found-passes (λ (one : BeforeImage). AreSome (one ∷ []) images)
            (is_image_of number place) images before (each-some images) is in
            let at = is-there number place before passes.0 in
            subst (λ (relative : Bool). long_at (left_in relative (item_of shape image place)
            (option_and_then record_of before.old)) ≡ long_at (item_of shape image place))
            (sym entries)
            (by_old (option_and_then record_of before.old)
            (subst (λ (p : List ℕ). IsKeptAt (lengths_kept images number) p
            (option_and_then record_of before.old)) (sym at.1)
            (image-kept number images alone before passes.1 at.0)))

    -- a content that has what they leave is in the order of addresses
    pub back-addressed : (content : Content) → Ascends content
        → IsBackOf shape number images content image → AreAddressed part.geometry content
    back-addressed content ascends back =
        lengths_addressed part.geometry blocks content
        (stands_content shape image blocks stands).ascends ascends
        (λ place. ap long_at (back place) ∙ back-long place
        ∙ ap long_at (sym (content_item shape image blocks stands place)))
        (stands-addressed part image blocks entries stands)

-- ---- the volume

-- The contents that an image is recovered to are in the order of addresses, in each entry-sequenced
-- part that they lay.
pub recovered-addressed : (geometry : Geometry) (number : ℕ) (contents : ℕ → Content)
    (image : Image) → Recovers geometry number image (standing_all contents)
    → IsRecovered geometry number contents image → (part : ℕ) (numbered : Numbered)
    → shape_by geometry (contents 0) part ≡ Some (NumberedShape numbered) → numbered.relative ≡ false
    → Ascends (contents part) → AreAddressed geometry (contents part)
recovered-addressed geometry number contents image recovers recovered part numbered laid entries
    ascends =
    subst (λ (g : Geometry). AreAddressed g (contents part)) inside.1
    (back-addressed numbered entries image (recovers.contents part)
    (recovers.stands.laid part (NumberedShape numbered) found) part
    (images_of recovered.log.records) alone room (contents part) ascends
    (recovered.items part (NumberedShape numbered) laid))
  where
    logs : recovers.log ≡ recovered.log
    logs = same_log geometry image recovers.log recovered.log recovers.stands.log_is
        recovered.spelled

    found : shapes_by geometry recovers.log recovers.contents part ≡ Some (NumberedShape numbered)
    found = ap (λ (c : Content). shape_by geometry c part) (sym (recovers.back 0))
        ∙ shape-stands geometry (contents 0) part ∙ laid

    inside : IsInside geometry (NumberedShape numbered)
    inside = recovers.inside part (NumberedShape numbered) found

    alone : AreAlone (images_of recovered.log.records)
    alone = subst (λ (log : LogContent). AreAlone (images_of log.records)) logs recovers.alone

    room : KeepsNumbered numbered (lengths_kept (images_of recovered.log.records) part) (IsOf image)
    room = subst (λ (log : LogContent). KeepsNumbered numbered
        (lengths_kept (images_of log.records) part) (IsOf image)) logs
        (recovers.room part (NumberedShape numbered) found)

-- ---- by kind

-- An entry-sequenced part is laid as one whose places are addresses, or not at all.
record IsAddressShape (shape : Option Shape) : Type 0 where
  numbered : Numbered
  is : shape ≡ Some (NumberedShape numbered)
  entries : numbered.relative ≡ false

abbrev kind_of : Option Definition → Option Kind
kind_of found = option_map (λ (definition : Definition). definition.kind) found

entry-shape : (geometry : Geometry) (catalog : List CatEntry) (part : ℕ)
    → kind_of (definition_of catalog part) ≡ Some EntrySequenced
    → (shape_in geometry catalog part ≡ None) ⊎ IsAddressShape (shape_in geometry catalog part)
entry-shape geometry catalog part is =
    by_test (part == 0) is
  where
    Shapes : Option Shape → Type 0
    Shapes found = (found ≡ None) ⊎ IsAddressShape found

    by_area : (number : ℕ) (area : Option AreaNo) (definition : Definition)
        → definition.kind ≡ EntrySequenced
        → Shapes (shape_from geometry number area definition)
    by_area number None definition kind = inl refl
    by_area number (Some area) definition kind = inr (record {
      numbered = numbered_part geometry number area.0 definition;
      is = ap (shape_by_kind geometry number area.0 definition) kind;
      entries = ap is_relative kind;
    })

    by_definition : (entry : CatEntry) (found : Option Definition)
        → kind_of found ≡ Some EntrySequenced
        → Shapes (option_and_then (shape_from geometry entry.part.0 entry.first_area) found)
    by_definition entry None kind = absurd cc
    by_definition entry (Some definition) kind =
        by_area entry.part.0 entry.first_area definition cc

    by_entry : (found : Option CatEntry)
        → kind_of (option_and_then (λ (entry : CatEntry). cluster_definition entry.entry_kind entry)
        found) ≡ Some EntrySequenced
        → Shapes (option_and_then (shape_of geometry) found)
    by_entry None kind = absurd cc
    by_entry (Some entry) kind =
        by_definition entry (cluster_definition entry.entry_kind entry) kind

    by_test : (test : Bool)
        → kind_of (cond test (Some catalog_definition)
        (option_and_then (λ (entry : CatEntry). cluster_definition entry.entry_kind entry)
        (entry_with_part catalog part))) ≡ Some EntrySequenced
        → Shapes (cond test (Some (catalog_shape geometry))
        (option_and_then (shape_of geometry) (entry_with_part catalog part)))
    by_test true kind = absurd cc
    by_test false kind = by_entry (entry_with_part catalog part) kind

-- So it is in each part that the catalog has as an entry-sequenced one: it is empty where it isn't
-- laid.
pub entry-addressed : (geometry : Geometry) (number : ℕ) (contents : ℕ → Content)
    (image : Image) → Recovers geometry number image (standing_all contents)
    → IsRecovered geometry number contents image
    → ((part : ℕ) → shape_by geometry (contents 0) part ≡ None → contents part ≡ [])
    → (part : ℕ)
    → option_map (λ (definition : Definition). definition.kind)
    (definition_of (entries_in (contents 0)) part) ≡ Some EntrySequenced
    → Ascends (contents part) → AreAddressed geometry (contents part)
entry-addressed geometry number contents image recovers recovered others part kind ascends =
    by_shape (entry-shape geometry (entries_in (contents 0)) part kind)
  where
    by_shape : (shape_by geometry (contents 0) part ≡ None)
        ⊎ IsAddressShape (shape_by geometry (contents 0) part)
        → AreAddressed geometry (contents part)
    by_shape (inl none) = subst (AreAddressed geometry) (sym (others part none)) tt
    by_shape (inr laid) =
        recovered-addressed geometry number contents image recovers recovered part
        laid.numbered laid.is laid.entries ascends
