-- Parts that a catalog lays may be so: their first areas are there, and a record has room in an
-- interval.
use Rattle.std.proofs.Common.{◌≡◌, ⊎_elim, inl, inr, ℕ, ◌+◌, ◌<◌, ◌≤◌, Bool, true, false, List, []}
use Rattle.std.proofs.Common.{◌∷◌, Option, Some, None, refl, sym, ap, subst, ◌∙◌, arith, get_or, ◌==◌}
use Rattle.std.proofs.Common.{IsTrue, ◌&&◌}
use Rattle.std.specs.Prelude.{All, IfSome, nat_lt, not, ◌||◌}
use Rattle.std.specs.Option.{option_and_then}
use Rattle.std.proofs.lemmas.Bool.{cases_lt, lt-ltb, true≢false}
use Rattle.std.proofs.lemmas.Bool.Decides.{Decides-eqb, eqb_tells}
use Rattle.vr_types.specs.Content.{Content}
use Rattle.vr_types.specs.Content.Item.{Standing}
use Rattle.vr_types.specs.Geometry.{IsAllowed}
use Rattle.vr_types.specs.declared.geometry.Geometry.{Geometry}
use Rattle.vr_types.specs.declared.unit.AreaNo.{AreaNo}
use Rattle.vr_types.specs.declared.unit.Kind.{Kind}
use Rattle.vr_types.specs.declared.unit.Kind.TheVariants as kinds
use Rattle.vr_catalog.specs.Catalog.{cluster_definition, definition_in, entries_in, entry_with_part}
use Rattle.vr_catalog.specs.Limits.{are_bad_sizes, ends_past, is_bad_cluster}
use Rattle.vr_catalog.specs.declared.definition.Definition.{Definition}
use Rattle.vr_catalog.specs.declared.entry.CatEntry.{CatEntry}
use Rattle.vr_catalog.specs.declared.entry.EntryKind.{EntryKind}
use Rattle.vr_catalog.specs.declared.entry.EntryKind.TheVariants.{Cluster, Alternate, Path}
use Rattle.vr_attach.specs.CatalogRules.{has_sizes_by, related_in}
use Rattle.vr_attach.specs.Laid.{IsInside, catalog_shape, shape_by_kind, shape_from, shape_in, shape_of}
use Rattle.vr_log.specs.LogNow.{IsOf}
use Rattle.vr_mount.specs.Records.{bytes_of}
use Rattle.vr_mount.proofs.CallerLemmas.{IsFit, laid-inside, on_blocks}
use Rattle.vr_mount.proofs.Telling.{found_place}
use Rattle.vr_space.specs.Part.{IsOn, Shape}
use Rattle.vr_types.specs.Seen.{Seen}
use Rattle.vr_types.proofs.CallerLemmas.{block_size_least}
use Rattle.vr_recover.specs.Found.{AreEntriesBy, HasLength, MayAdd}
use Rattle.vr_recover.specs.Unserved.{IsPlain}
use Rattle.vr_recover.proofs.Shapes.{laid-cases}

-- what the definition of a part says of its records, whichever area it is laid from
fit-kind : (geometry : Geometry) (number area : ℕ) (definition : Definition) (kind : Kind)
    → 0 < definition.maximum → definition.maximum + 7 ≤ geometry.size
    → IfSome (shape_by_kind geometry number area definition kind) (IsFit geometry)
fit-kind geometry number area definition kinds.Keyed some fits = fits
fit-kind geometry number area definition kinds.Entry some fits = (some, fits)
fit-kind geometry number area definition kinds.Relative some fits = (some, fits)

fit-area : (geometry : Geometry) (number : ℕ) (area : Option AreaNo) (definition : Definition)
    → 0 < definition.maximum → definition.maximum + 7 ≤ geometry.size
    → IfSome (shape_from geometry number area definition) (IsFit geometry)
fit-area geometry number None definition some fits = tt
fit-area geometry number (Some area) definition some fits =
    fit-kind geometry number area.0 definition definition.kind some fits

fit-definition : (geometry : Geometry) (number : ℕ) (area : Option AreaNo)
    (definition : Option Definition) → IfSome definition (λ (d : Definition). 0 < d.maximum)
    → IfSome definition (λ (d : Definition). d.maximum + 7 ≤ geometry.size)
    → IfSome (option_and_then (shape_from geometry number area) definition) (IsFit geometry)
fit-definition geometry number area None some fits = tt
fit-definition geometry number area (Some definition) some fits =
    fit-area geometry number area definition some fits

module _ (geometry : Geometry) (entries : List CatEntry) (allowed : IsAllowed geometry)
    (may : MayAdd geometry entries) where
  entry-fits : (part : ℕ) (entry : CatEntry) (shape : Shape)
      → entry_with_part entries part ≡ Some entry → shape_of geometry entry ≡ Some shape
      → IsFit geometry shape
  entry-fits part entry shape found laid =
      let place = found_place (λ (one : CatEntry). one.part.0 == part) entries entry found in
      subst (λ (o : Option Shape). IfSome o (IsFit geometry)) laid
      (fit-definition geometry entry.part.0 entry.first_area
      (cluster_definition entry.entry_kind entry)
      (subst HasLength place.2 (may.lengths place.0 entry place.1))
      (subst (IsPlain geometry) place.2 (may.plain place.0 entry place.1)))

  catalog-fits : IsFit geometry (catalog_shape geometry)
  catalog-fits = omega (arith, block_size_least geometry.size allowed.size)

  -- the records of each part that is laid have room
  laid-fits : (part : ℕ) (shape : Shape) → shape_in geometry entries part ≡ Some shape
      → IsFit geometry shape
  laid-fits part shape laid = ⊎_elim
      (λ catalog. subst (IsFit geometry) catalog.1 catalog-fits)
      (λ found. entry-fits part found.0 shape found.1 found.2)
      (laid-cases geometry entries may.distinct part shape laid)

  -- so each may be so
  pub inside-of : (part : ℕ) (shape : Shape) → shape_in geometry entries part ≡ Some shape
      → IsInside geometry shape
  inside-of part shape laid =
      laid-inside geometry entries allowed may.on part shape laid (laid-fits part shape laid)

  pub on-of : (now : Seen) → IsOf geometry now → (part : ℕ) (shape : Shape)
      → shape_in geometry entries part ≡ Some shape → IsOn shape now
  on-of now of part shape laid = on_blocks geometry entries now of allowed may.on part shape laid
      (laid-fits part shape laid)

-- ---- how long records are

both-true : (one other : Bool) → (one && other) ≡ true → (one ≡ true) × (other ≡ true)
both-true true other both = (refl, both)
both-true false other both = absurd (true≢false (sym both))

not-true : (b : Bool) → not b ≡ true → b ≡ false
not-true true is = absurd (true≢false (sym is))
not-true false is = refl

none-true : (one other : Bool) → (one || other) ≡ false → (one ≡ false) × (other ≡ false)
none-true true other none = absurd (true≢false none)
none-true false other none = (refl, none)

some-length : (average maximum : ℕ) → nat_lt maximum average ≡ false → (average == 0) ≡ false
    → 0 < maximum
some-length average maximum less none = elim (cases_lt 0 maximum) [
  | inl some ↦ some
  | inr zero ↦ elim (eqb_tells average 0) [
    | inl same ↦ absurd (true≢false (sym ((Decides-eqb average 0).1 same.1) ∙ none))
    | inr differ ↦ absurd (true≢false (sym (lt-ltb maximum average
        (omega (arith, zero, some-number average differ.1))) ∙ less))
  ]
]
  where
    some-number : (n : ℕ) → (n ≡ 0 → ⊥) → 0 < n
    some-number n off = elim (cases_lt 0 n) [
      | inl some ↦ some
      | inr zero ↦ absurd (off (omega (arith, zero)))
    ]

by-sizes : (kind : EntryKind) (geometry : Geometry) (entry : CatEntry) (base : Option CatEntry)
    → IsTrue (has_sizes_by kind geometry entry base)
    → IfSome (cluster_definition kind entry) (λ (d : Definition). 0 < d.maximum)
by-sizes Cluster geometry entry base sizes =
    let further = both-true
    (not (ends_past entry.key_length entry.key_offset entry.maximum)) _ sizes in
    let good = both-true (not (is_bad_cluster geometry (definition_in entry) entry.average)) _
    further.1 in
    let sized = none-true (are_bad_sizes entry.average entry.maximum) _ (not-true _ good.0) in
    let each = none-true (nat_lt entry.maximum entry.average || (entry.average == 0)) _ sized.0 in
    let two = none-true (nat_lt entry.maximum entry.average) (entry.average == 0) each.0 in
    some-length entry.average entry.maximum two.0 two.1
by-sizes Alternate geometry entry base sizes = tt
by-sizes Path geometry entry base sizes = tt

-- bytes are those of the records of a content
content-of : (records : List (List ℕ)) → (content : Content) × (bytes_of content ≡ records)
content-of [] = ([], refl)
content-of (record_bytes ∷ records) =
    let rest = content-of records in (
      ([], Standing record_bytes) ∷ rest.0,
      ap (λ (all : List (List ℕ)). record_bytes ∷ all) rest.1,
    )

-- each cluster of a catalog has records of a byte at least
pub lengths-by : (geometry : Geometry) (records : List (List ℕ)) (entries : List CatEntry)
    → AreEntriesBy geometry records entries → All HasLength entries
lengths-by geometry records entries are =
    let content = content-of records in
    let of = are content.0 content.1 in
    subst (λ (es : List CatEntry). All HasLength es) (sym of.0)
    (λ k d below. let entry = get_or (entries_in content.0) k d in
    by-sizes entry.entry_kind geometry entry (related_in (entries_in content.0) entry)
    (of.1.entries k d below).sizes)
