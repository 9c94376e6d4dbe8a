-- A cluster that is to be defined, once it has an area: a catalog may have its entry, a part can be
-- made of it, and its part has a shape inside the volume.
use Rattle.std.proofs.Common.{◌≡◌, ◌∙◌, ◌+◌, ◌<◌, ◌≤◌, ◌^◌, ◌&&◌, ℕ, Bool, true, false, IsTrue}
use Rattle.std.proofs.Common.{List}
use Rattle.std.proofs.Common.{Some, None, refl, sym, ap, arith, ◌-◌, ◌*◌, ◌==◌}
use Rattle.std.proofs.Common.{if◌then◌else◌}
use Rattle.std.proofs.Math.Nat.{div-le_self}
use Rattle.std.specs.Prelude.{is_none, nat_lt, not, option_and_then}
use Rattle.std.proofs.lemmas.Bool.Decides.{nat_tests}
use Rattle.vr_types.specs.Geometry.{IsAllowed, area_count}
use Rattle.vr_types.specs.declared.geometry.Geometry.{Geometry}
use Rattle.vr_types.specs.declared.unit.AreaNo.{AreaNo}
use Rattle.vr_types.specs.declared.unit.Kind.{Kind}
use Rattle.vr_types.specs.declared.unit.Kind.TheVariants.{Keyed, Entry, Relative}
use Rattle.vr_attach.specs.CatalogRules.{IsEntryOf, has_area_by, has_sizes_by, is_over_by}
use Rattle.vr_attach.specs.CatalogRules.{related_in}
use Rattle.vr_attach.specs.Laid.{IsInside, catalog_shape, keyed_shape, numbered_part, shape_by_kind}
use Rattle.vr_attach.specs.Laid.{shape_from}
use Rattle.vr_attach.specs.Laid.{shape_in, shape_of}
use Rattle.vr_catalog.specs.Catalog.{cluster_definition, definition_in, entry_with_part}
use Rattle.vr_catalog.specs.Entry.{are_keys_of, are_names, has_data, is_allowed, is_area_or_none}
use Rattle.vr_catalog.specs.Entry.{is_cluster}
use Rattle.vr_catalog.specs.Entry.{is_entry, is_of_kind, is_part}
use Rattle.vr_catalog.specs.declared.definition.Definition.{Definition}
use Rattle.vr_catalog.specs.declared.entry.CatEntry.{CatEntry}
use Rattle.vr_catalog.specs.declared.entry.EntryKind.{EntryKind}
use Rattle.vr_space.specs.Part.{NumberedShape, Shape, part_no}
use Rattle.vr_start.specs.Startable.{IsStartable}
use Rattle.vr_start.proofs.CallerLemmas.{cluster-can-start}
use Rattle.vr_event.specs.Defining.{IsNewCluster, entry_with_area}

pub and_left : (a b : Bool) → (a && b) ≡ true → a ≡ true
and_left true b is = refl
and_left false b is = is

pub and_right : (a b : Bool) → (a && b) ≡ true → b ≡ true
and_right true b is = is
and_right false b is = absurd cc

both : (a b : Bool) → a ≡ true → b ≡ true → (a && b) ≡ true
both a b first second = ap (λ (x : Bool). x && b) first ∙ second

-- the entry of a part whose number isn't the catalog's
pub part-some : (entry : CatEntry) → IsTrue (is_entry entry) → entry.part.0 ≡ 0 → ⊥
unfolding is_entry
part-some entry is zero =
    let allowed = and_right (are_names entry) (is_allowed entry) is in
    let part = and_left (is_part entry.part) _
    (and_left (is_part entry.part && is_area_or_none entry.first_area)
    (is_of_kind entry.entry_kind entry) allowed) in
    grind (arith, nat_tests, part, zero)

module _ (geometry : Geometry) (entries : List CatEntry) (entry : CatEntry)
    (is : IsNewCluster geometry entries entry) (area : AreaNo) where
  abbrev new : CatEntry
  new = entry_with_area entry area

  -- with an area that four bytes can name
  pub area-entry : area.0 + 1 < 2 ^ 32 → IsTrue (is_entry new)
  unfolding is_entry
  area-entry small =
      let allowed = and_right (are_names entry) (is_allowed entry) is.entry_is in
      let first = and_left (is_part entry.part && is_area_or_none entry.first_area)
      (is_of_kind entry.entry_kind entry) allowed in
      let kind : is_of_kind entry.entry_kind entry ≡ true =
      and_right (is_part entry.part && is_area_or_none entry.first_area)
      (is_of_kind entry.entry_kind entry) allowed in
      let named : nat_lt (area.0 + 1) (2 ^ 32) ≡ true = grind (arith, nat_tests, small) in
      both (are_names new) (is_allowed new)
      (and_left (are_names entry) (is_allowed entry) is.entry_is)
      (both (is_part new.part && is_area_or_none new.first_area) (is_of_kind new.entry_kind new)
      (both (is_part new.part) (is_area_or_none new.first_area)
      (and_left (is_part entry.part) (is_area_or_none entry.first_area) first) named)
      (ap (λ (k : EntryKind). is_of_kind k new) is.cluster
      ∙ sym (ap (λ (k : EntryKind). is_of_kind k entry) is.cluster) ∙ kind))

  -- its rules, beside whichever others
  pub area-rules : (others : List CatEntry) → IsEntryOf geometry others new
  unfolding is_entry
  area-rules others =
      let allowed = and_right (are_names entry) (is_allowed entry) is.entry_is in
      let kind : is_cluster entry ≡ true =
      sym (ap (λ (k : EntryKind). is_of_kind k entry) is.cluster)
      ∙ and_right (is_part entry.part && is_area_or_none entry.first_area)
      (is_of_kind entry.entry_kind entry) allowed in
      record {
        over = ap (λ (k : EntryKind). is_over_by k new (related_in others new)) is.cluster
            ∙ and_left (is_none entry.related) (not entry.unique)
            (and_left (is_none entry.related && not entry.unique) (not entry.built)
            (and_left (is_none entry.related && not entry.unique && not entry.built)
            (are_keys_of entry.kind entry.key_length entry.key_offset)
            (and_left (is_none entry.related && not entry.unique && not entry.built
            && are_keys_of entry.kind entry.key_length entry.key_offset) (has_data entry) kind)));
        area = ap (λ (k : EntryKind). has_area_by k new) is.cluster;
        sizes = ap (λ (k : EntryKind). has_sizes_by k geometry new (related_in others new))
            is.cluster ∙ is.sizes area;
      }

  -- a part can be made of it
  pub area-startable : IsAllowed geometry → area.0 + 1 < 2 ^ 32
      → IsStartable geometry (definition_in new)
  area-startable allowed small = cluster-can-start geometry entries new allowed (area-entry small)
      (area-rules entries) is.cluster is.plain

  -- its part has this shape
  pub area-shape : shape_of geometry new
      ≡ shape_by_kind geometry entry.part.0 area.0 (definition_in entry) (definition_in entry).kind
  area-shape = ap (λ (k : EntryKind). option_and_then
      (shape_from geometry new.part.0 new.first_area) (cluster_definition k new)) is.cluster

-- of its number, and inside the volume
pub record HasNewShape (geometry : Geometry) (part area : ℕ) (definition : Definition) : Type 0
  where
    pub shape : Shape
    pub laid : shape_by_kind geometry part area definition definition.kind ≡ Some shape
    pub number : (part_no shape).0 ≡ part
    pub inside : IsInside geometry shape

pub new-shape : (geometry : Geometry) (part area : ℕ) (definition : Definition)
    → IsAllowed geometry → area < area_count geometry → IsStartable geometry definition
    → HasNewShape geometry part area definition
new-shape geometry part area definition allowed below start = of definition.kind refl
  where
    keyed : definition.kind ≡ Keyed → HasNewShape geometry part area definition
    keyed is = record {
      shape = keyed_shape geometry part area definition;
      laid = ap (shape_by_kind geometry part area definition) is;
      number = refl;
      inside = (record { allowed = allowed; first = below; fits = start.fits }, refl);
    }

    numbered : ((kind : Kind) → definition.kind ≡ kind
        → shape_by_kind geometry part area definition kind
        ≡ Some (NumberedShape (numbered_part geometry part area definition)))
        → HasNewShape geometry part area definition
    numbered is = record {
      shape = NumberedShape (numbered_part geometry part area definition);
      laid = is definition.kind refl;
      number = refl;
      inside = (
        record {
          allowed = allowed;
          first = below;
          some = start.some;
          fits = start.fits;
        },
        refl,
      );
    }

    of : (kind : Kind) → definition.kind ≡ kind → HasNewShape geometry part area definition
    of Keyed is = keyed is
    of Entry is = numbered (λ kind same. ap (shape_by_kind geometry part area definition)
        (sym same ∙ is))
    of Relative is = numbered (λ kind same. ap (shape_by_kind geometry part area definition)
        (sym same ∙ is))

-- ---- of a volume's shape

few-blocks : (size blocks : ℕ) → 1 ≤ size → size * blocks ≤ 2 ^ 31 → blocks < 2 ^ 32
few-blocks size blocks some most = grind arith

-- an area has a number that four bytes hold, with one more
pub area-small : (geometry : Geometry) (area : ℕ) → IsAllowed geometry → area < area_count geometry
    → area + 1 < 2 ^ 32
area-small geometry area allowed below =
    let blocks = few-blocks geometry.size geometry.blocks (omega (arith, allowed.size.some))
    allowed.bytes in
    omega (
      arith,
      blocks,
      below,
      div-le_self (geometry.blocks - 1 - geometry.log) (geometry.area + 1),
    )

pub same-self : (n : ℕ) → (n == n) ≡ true
same-self n = grind (arith, nat_tests)

-- a part that no entry has isn't laid
pub unlaid-part : (geometry : Geometry) (entries : List CatEntry) (part : ℕ) → (part ≡ 0 → ⊥)
    → entry_with_part entries part ≡ None → shape_in geometry entries part ≡ None
unlaid-part geometry entries part some none = of (part == 0) refl
  where
    of : (b : Bool) → (part == 0) ≡ b
        → (if b then Some (catalog_shape geometry)
        else option_and_then (shape_of geometry) (entry_with_part entries part)) ≡ None
    of true is = absurd (some (grind (arith, nat_tests, is)))
    of false is = ap (option_and_then (shape_of geometry)) none
