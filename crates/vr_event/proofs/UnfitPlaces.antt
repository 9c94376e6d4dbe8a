-- A place of a part fits its definition: at one that doesn't, no record is.
use Rattle.std.proofs.Common.{◌≡◌, ◌==◌, ℕ, Bool, true, false, cond, List, Option, Some, None}
use Rattle.std.proofs.Common.{refl, sym, ap, subst, ◌∙◌, length}
use Rattle.std.specs.Prelude.{IfSome}
use Rattle.std.specs.Option.{option_and_then, option_map, option_map_or}
use Rattle.std.proofs.lemmas.Bool.{true≢false}
use Rattle.std.proofs.lemmas.Bool.Decides.{Decides-eqb}
use Rattle.std.proofs.lemmas.Option.{none-some}
use Rattle.vr_catalog.specs.Catalog.{cluster_definition, entry_with_part}
use Rattle.vr_catalog.specs.Definition.{catalog_definition}
use Rattle.vr_catalog.specs.declared.definition.Definition.{Definition}
use Rattle.vr_catalog.specs.declared.entry.CatEntry.{CatEntry}
use Rattle.vr_types.specs.Content.{record_at}
use Rattle.vr_types.specs.Seen.{Left, Seen}
use Rattle.vr_types.specs.declared.geometry.Geometry.{Geometry}
use Rattle.vr_types.specs.declared.unit.AreaNo.{AreaNo}
use Rattle.vr_types.specs.declared.unit.Kind.{Kind}
use Rattle.vr_types.specs.declared.unit.Kind.TheVariants.{Keyed, Entry, Relative}
use Rattle.vr_space.specs.Part.{IsPlaceOf, Shape, Stands as StandFor, record_read}
use Rattle.vr_space.proofs.CallerLemmas.{place-tested, read-place, rest-sound, rest-stands}
use Rattle.vr_history.specs.State.{State}
use Rattle.vr_attach.specs.Laid.{is_relative, numbered_part}
use Rattle.vr_volume.specs.Laid.{catalog_shape, shape_by_kind, shape_from, shape_in, shape_of}
use Rattle.vr_event.specs.Getting.{fits_in, is_number, is_place_by, is_place_for}
use Rattle.vr_event.specs.Putting.{AreLaidBy}
use Rattle.vr_store.specs.Store.{IsSet, IsStored, PartNow, StoreNow, owners_of, part_among}
use Rattle.vr_store.proofs.CallerLemmas.{none-read, record-read, rested-at}

-- ---- a place of the shape of a part fits its definition

module _ (geometry : Geometry) (place : List ℕ) where
  -- a test of it is true where the place is one of the shape
  abbrev Tests : Bool → Shape → Type 0
  Tests fits shape = IsPlaceOf shape place → fits ≡ true

  by_kind : (part area : ℕ) (definition : Definition) (kind : Kind) → definition.kind ≡ kind
      → IfSome (shape_by_kind geometry part area definition kind)
      (Tests (is_place_for kind place definition))
  by_kind part area definition Keyed same =
      λ is. (Decides-eqb (length place) definition.key_length).1 is
  by_kind part area definition Entry same = λ is.
      sym (ap (λ (relative : Bool). is_number relative place) (ap is_relative same))
      ∙ place-tested (numbered_part geometry part area definition) place is
  by_kind part area definition Relative same = λ is.
      sym (ap (λ (relative : Bool). is_number relative place) (ap is_relative same))
      ∙ place-tested (numbered_part geometry part area definition) place is

  by_area : (part : ℕ) (area : Option AreaNo) (o : Option Definition)
      → IfSome (option_and_then (shape_from geometry part area) o)
      (Tests (option_map_or (is_place_by place) o false))
  by_area part area None = tt
  by_area part None (Some definition) = tt
  by_area part (Some area) (Some definition) =
      by_kind part area.0 definition definition.kind refl

  by_entry : (o : Option CatEntry) → IfSome (option_and_then (shape_of geometry) o)
      (Tests (option_map_or (is_place_by place) (option_and_then
      (λ (entry : CatEntry). cluster_definition entry.entry_kind entry) o) false))
  by_entry None = tt
  by_entry (Some entry) = by_area entry.part.0 entry.first_area
      (cluster_definition entry.entry_kind entry)

  by_zero : (b : Bool) (o : Option CatEntry)
      → IfSome (cond b (Some (catalog_shape geometry)) (option_and_then (shape_of geometry) o))
      (Tests (option_map_or (is_place_by place) (cond b (Some catalog_definition) (option_and_then
      (λ (entry : CatEntry). cluster_definition entry.entry_kind entry) o)) false))
  by_zero true o = λ is. (Decides-eqb (length place) catalog_definition.key_length).1 is
  by_zero false o = by_entry o

  pub shape-fits : (entries : List CatEntry) (part : ℕ)
      → IfSome (shape_in geometry entries part) (Tests (fits_in entries part place))
  shape-fits entries part = by_zero (part == 0) (entry_with_part entries part)

-- ---- a place that doesn't fit

-- no record of a part that stands for a content is there,
unfit-shape : (shape : Shape) (now : Seen) (place : List ℕ) (fits : Bool)
    → StandFor shape now.cur → (IsPlaceOf shape place → fits ≡ true) → fits ≡ false
    → (found : Option (List ℕ)) → record_read shape now.cur place ≡ found → found ≡ None
unfit-shape shape now place fits stands test not None is = refl
unfit-shape shape now place fits stands test not (Some bytes) is = absurd (true≢false
    (sym (test (read-place shape now.cur place stands
    (λ none. none-some bytes (sym none ∙ is)))) ∙ not))

-- nor one of the state
pub unfit-none : (geometry : Geometry) (entries : List CatEntry) (store : StoreNow) (now : Seen)
    (set : IsSet store now) → Left now now.cur → AreLaidBy geometry entries store.parts
    → (volume : ℕ) (state : State) → IsStored volume store state now
    → (part : ℕ) (place : List ℕ) → fits_in entries part place ≡ false
    → record_at (state.contents part) place ≡ None
unfit-none geometry entries store now set left laid volume state stored part place not =
    of (part_among store.parts part) refl
  where
    of : (o : Option PartNow) → part_among store.parts part ≡ o
        → record_at (state.contents part) place ≡ None
    of None none = sym (none-read store now volume state part none stored place)
    of (Some one) found =
        let rests = (rested-at store now set volume state part one found stored).rests in
        let laid-is : shape_in geometry entries part ≡ Some one.shape =
        sym (laid part)
        ∙ ap (λ (o : Option PartNow). option_map (λ (p : PartNow). p.shape) o) found in
        let test : IsPlaceOf one.shape place → fits_in entries part place ≡ true =
        subst (λ (o : Option Shape). IfSome o (λ (shape : Shape).
        IsPlaceOf shape place → fits_in entries part place ≡ true)) laid-is
        (shape-fits geometry place entries part) in
        sym (record-read store now set volume state part one found stored place)
        ∙ unfit-shape one.shape now place (fits_in entries part place)
        (rest-stands one.shape (owners_of store) now
        (rest-sound one.shape (owners_of store) now rests) left) test not
        (record_read one.shape now.cur place) refl
