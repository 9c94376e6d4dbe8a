-- The shapes that a catalog lays: each part has one, and each of them is laid.
use Rattle.std.proofs.Common.{◌≡◌, ℕ, zero, suc, ◌<◌, Bool, true, false, List, [], ◌∷◌}
use Rattle.std.proofs.Common.{Option, Some, None, length, refl, sym, ap, subst, ◌∙◌, get_or, cond}
use Rattle.std.proofs.Common.{◌==◌, ◌⊎◌, ◌≢◌, ⊎_elim, inl, inr, map}
use Rattle.std.specs.Prelude.{All, nat_eq, slice_get}
use Rattle.std.specs.List.{AllByRecursion, IsDistinct, cons_option, filter_map}
use Rattle.std.specs.Option.{option_and_then}
use Rattle.std.proofs.lemmas.Bool.{ne_eqb, true≢false}
use Rattle.std.proofs.lemmas.Bool.Decides.{Decides-eqb}
use Rattle.std.proofs.lemmas.List.Elements.{All-cons, All-nil}
use Rattle.std.proofs.lemmas.Option.{get_or_from_slice_get, slice_get-get_or, slice_get_within}
use Rattle.vr_types.specs.declared.geometry.Geometry.{Geometry}
use Rattle.vr_types.specs.declared.unit.AreaNo.{AreaNo}
use Rattle.vr_types.specs.declared.unit.Kind.{Kind}
use Rattle.vr_types.specs.declared.unit.Kind.TheVariants as kinds
use Rattle.vr_catalog.specs.Catalog.{cluster_definition, entry_with_part, parts_in}
use Rattle.vr_catalog.specs.declared.definition.Definition.{Definition}
use Rattle.vr_catalog.specs.declared.entry.CatEntry.{CatEntry}
use Rattle.vr_attach.specs.Laid.{catalog_shape, shape_by_kind, shape_from, shape_in, shape_of}
use Rattle.vr_mount.proofs.Laying.{part_is}
use Rattle.vr_mount.proofs.Telling.{found_at, found_place, map_some, none_has_new}
use Rattle.vr_mount.proofs.Telling.{others_distinct, zero_is_new}
use Rattle.vr_space.specs.Part.{Shape, part_no}
use Rattle.vr_recover.specs.Opening.{AreLaid, shapes_laid}

some-shape : (x y : Shape) → Some x ≡ Some y → x ≡ y
some-shape x y same = cc

some-entry : (x y : CatEntry) → Some x ≡ Some y → x ≡ y
some-entry x y same = cc

-- ---- the number of a shape

number-kind : (geometry : Geometry) (part area : ℕ) (definition : Definition) (kind : Kind)
    (shape : Shape) → shape_by_kind geometry part area definition kind ≡ Some shape
    → (part_no shape).0 ≡ part
number-kind geometry part area definition kinds.Keyed shape is =
    ap (λ (s : Shape). (part_no s).0) (sym (some-shape _ shape is))
number-kind geometry part area definition kinds.Entry shape is =
    ap (λ (s : Shape). (part_no s).0) (sym (some-shape _ shape is))
number-kind geometry part area definition kinds.Relative shape is =
    ap (λ (s : Shape). (part_no s).0) (sym (some-shape _ shape is))

number-from : (geometry : Geometry) (part : ℕ) (area : Option AreaNo) (definition : Definition)
    (shape : Shape) → shape_from geometry part area definition ≡ Some shape
    → (part_no shape).0 ≡ part
number-from geometry part None definition shape is = absurd cc
number-from geometry part (Some area) definition shape is =
    number-kind geometry part area.0 definition definition.kind shape is

number-by : (geometry : Geometry) (entry : CatEntry) (definition : Option Definition)
    (shape : Shape)
    → option_and_then (shape_from geometry entry.part.0 entry.first_area) definition ≡ Some shape
    → (part_no shape).0 ≡ entry.part.0
number-by geometry entry None shape is = absurd cc
number-by geometry entry (Some definition) shape is =
    number-from geometry entry.part.0 entry.first_area definition shape is

-- that of its entry
pub shape-number : (geometry : Geometry) (entry : CatEntry) (shape : Shape)
    → shape_of geometry entry ≡ Some shape → (part_no shape).0 ≡ entry.part.0
shape-number geometry entry shape is =
    number-by geometry entry (cluster_definition entry.entry_kind entry) shape is

-- ---- among the entries

module _ (geometry : Geometry) (entries : List CatEntry)
    (distinct : IsDistinct nat_eq (0 ∷ parts_in entries)) where
  by-test : (b : Bool) (o : Option CatEntry) (entry : CatEntry) (shape : Shape) → b ≡ false
      → o ≡ Some entry → shape_of geometry entry ≡ Some shape
      → cond b (Some (catalog_shape geometry)) (option_and_then (shape_of geometry) o)
      ≡ Some shape
  by-test true o entry shape is found laid = absurd cc
  by-test false None entry shape is found laid = absurd cc
  by-test false (Some other) entry shape is found laid =
      ap (shape_of geometry) (some-entry other entry found) ∙ laid

  -- an entry's shape is that of its part
  pub entry-laid : (at : ℕ) (entry : CatEntry) (shape : Shape)
      → slice_get entries at ≡ Some entry → shape_of geometry entry ≡ Some shape
      → shape_in geometry entries entry.part.0 ≡ Some shape
  entry-laid at entry shape there laid =
      let within : at < length entries = slice_get_within entries at entry there in
      let here : get_or entries at entry ≡ entry =
      get_or_from_slice_get entries at entry entry there in
      let number : CatEntry → Option ℕ = λ e. Some e.part.0 in
      let told : IsDistinct nat_eq (0 ∷ filter_map number entries) =
      subst (λ (numbers : List ℕ). IsDistinct nat_eq (0 ∷ numbers))
      (sym (map_some (λ (e : CatEntry). e.part.0) entries)) distinct in
      let not_zero : entry.part.0 ≡ 0 → ⊥ = λ none.
      none_has_new number 0 entries at entry within
      (ap (λ (e : CatEntry). Some e.part.0) here ∙ ap Some none)
      (zero_is_new (filter_map number entries) told) in
      let found : entry_with_part entries (get_or entries at entry).part.0
      ≡ Some (get_or entries at entry) =
      found_at (λ (one : CatEntry). one.part.0) entries at entry
      (others_distinct (filter_map number entries) told) within in
      by-test (entry.part.0 == 0) (entry_with_part entries entry.part.0) entry shape
      (ne_eqb entry.part.0 0 not_zero)
      (subst (λ (e : CatEntry). entry_with_part entries e.part.0 ≡ Some e) here found) laid

  abbrev IsLaid : Shape → Type 0
  IsLaid shape = shape_in geometry entries (part_no shape).0 ≡ Some shape

  rest-laid : (rest : List CatEntry)
      → ((at : ℕ) (entry : CatEntry) → slice_get rest at ≡ Some entry
      → (k : ℕ) × (slice_get entries k ≡ Some entry))
      → All IsLaid (filter_map (shape_of geometry) rest)
  rest-laid [] each = All-nil IsLaid
  rest-laid (entry ∷ rest) each = by (shape_of geometry entry) refl
      (rest-laid rest (λ at other there. each (suc at) other there))
    where
      by : (o : Option Shape) → shape_of geometry entry ≡ o
          → All IsLaid (filter_map (shape_of geometry) rest)
          → All IsLaid (cons_option o (filter_map (shape_of geometry) rest))
      by None is more = more
      by (Some shape) is more =
          let at = each 0 entry refl in
          All-cons IsLaid shape (filter_map (shape_of geometry) rest)
          (ap (shape_in geometry entries) (shape-number geometry entry shape is)
          ∙ entry-laid at.0 entry shape at.1 is) more

  pub each-laid : All IsLaid (shapes_laid geometry entries)
  each-laid = All-cons IsLaid (catalog_shape geometry) (filter_map (shape_of geometry) entries)
      refl (rest-laid entries (λ at entry there. (at, there)))

  cases-by : (b : Bool) (o : Option CatEntry) (shape : Shape)
      → cond b (Some (catalog_shape geometry)) (option_and_then (shape_of geometry) o)
      ≡ Some shape
      → ((b ≡ true) × (catalog_shape geometry ≡ shape))
      ⊎ ((entry : CatEntry) × (o ≡ Some entry) × (shape_of geometry entry ≡ Some shape))
  cases-by true o shape is = inl
      (refl, some-shape (catalog_shape geometry) shape is)
  cases-by false None shape is = absurd cc
  cases-by false (Some entry) shape is = inr (entry, refl, is)

  -- a part is laid as the catalog's, or by an entry
  pub laid-cases : (part : ℕ) (shape : Shape) → shape_in geometry entries part ≡ Some shape
      → ((part ≡ 0) × (catalog_shape geometry ≡ shape))
      ⊎ ((entry : CatEntry) × (entry_with_part entries part ≡ Some entry)
      × (shape_of geometry entry ≡ Some shape))
  laid-cases part shape is = ⊎_elim
      (λ zero-part. inl
      ((Decides-eqb part 0).0 zero-part.0, zero-part.1))
      (λ by-entry. inr by-entry)
      (cases-by (part == 0) (entry_with_part entries part) shape is)

  pub laid-number : (part : ℕ) (shape : Shape) → shape_in geometry entries part ≡ Some shape
      → (part_no shape).0 ≡ part
  laid-number part shape is = ⊎_elim
      (λ zero-part. ap (λ (s : Shape). (part_no s).0) (sym zero-part.1) ∙ sym zero-part.0)
      (λ found. shape-number geometry found.0 shape found.2
      ∙ part_is entries part found.0 found.1)
      (laid-cases part shape is)

  place-of : (rest : List CatEntry) (at : ℕ) (entry : CatEntry) (shape : Shape)
      → slice_get rest at ≡ Some entry → shape_of geometry entry ≡ Some shape
      → (k : ℕ) × (slice_get (filter_map (shape_of geometry) rest) k ≡ Some shape)
  place-of [] at entry shape there laid = absurd cc
  place-of (first ∷ rest) zero entry shape there laid = (
    0,
    at-first (shape_of geometry first)
        (ap (shape_of geometry) (some-entry first entry there) ∙ laid),
  )
    where
      at-first : (o : Option Shape) → o ≡ Some shape
          → slice_get (cons_option o (filter_map (shape_of geometry) rest)) 0 ≡ Some shape
      at-first None is = absurd cc
      at-first (Some other) is = is
  place-of (first ∷ rest) (suc at) entry shape there laid =
      later (shape_of geometry first) (place-of rest at entry shape there laid)
    where
      later : (o : Option Shape)
          → (k : ℕ) × (slice_get (filter_map (shape_of geometry) rest) k ≡ Some shape)
          → (k : ℕ) × (slice_get (cons_option o (filter_map (shape_of geometry) rest)) k
          ≡ Some shape)
      later None found = found
      later (Some other) found = (suc found.0, found.1)

  pub laid-there : (part : ℕ) (shape : Shape) → shape_in geometry entries part ≡ Some shape
      → (at : ℕ) × (slice_get (shapes_laid geometry entries) at ≡ Some shape)
  laid-there part shape is = ⊎_elim
      (λ zero-part. (0, ap Some zero-part.1))
      (λ found. let place = found_place (λ (entry : CatEntry). entry.part.0 == part) entries
      found.0 found.1 in
      let there : slice_get entries place.0 ≡ Some found.0 =
      slice_get-get_or entries place.0 found.0 place.1 ∙ ap Some place.2 in
      let k = place-of entries place.0 found.0 shape there found.2 in
      (suc k.0, k.1))
      (laid-cases part shape is)

  pub are-laid : AreLaid geometry entries (shapes_laid geometry entries)
  are-laid = record { each = each-laid; all = laid-number; there = laid-there }

-- ---- no two of them have the same number

abbrev IsNewIn : ℕ → List ℕ → Type 0
IsNewIn n numbers = AllByRecursion (λ (other : ℕ). nat_eq n other ≡ false) numbers

new-number : (geometry : Geometry) (n : ℕ) (rest : List CatEntry) (j : ℕ) (there : Shape)
    → IsNewIn n (map (λ (e : CatEntry). e.part.0) rest)
    → slice_get (filter_map (shape_of geometry) rest) j ≡ Some there → (part_no there).0 ≢ n
new-number geometry n [] j there new is same = cc
new-number geometry n (entry ∷ rest) j there new is same =
    by (shape_of geometry entry) refl is
    (λ k found. new-number geometry n rest k there new.1 found same)
  where
    first : shape_of geometry entry ≡ Some there → ⊥
    first laid = true≢false (sym ((Decides-eqb n entry.part.0).1
        (sym same ∙ shape-number geometry entry there laid)) ∙ new.0)

    by : (o : Option Shape) → shape_of geometry entry ≡ o
        → slice_get (cons_option o (filter_map (shape_of geometry) rest)) j ≡ Some there
        → ((k : ℕ) → slice_get (filter_map (shape_of geometry) rest) k ≡ Some there → ⊥) → ⊥
    by None laid found later = later j found
    by (Some shape) laid found later = at j found
      where
        at : (k : ℕ) → slice_get (shape ∷ filter_map (shape_of geometry) rest) k ≡ Some there → ⊥
        at zero here = first (laid ∙ here)
        at (suc k) here = later k here

differ-rest : (geometry : Geometry) (rest : List CatEntry) (i j : ℕ) (here there : Shape)
    → IsDistinct nat_eq (map (λ (e : CatEntry). e.part.0) rest)
    → slice_get (filter_map (shape_of geometry) rest) i ≡ Some here
    → slice_get (filter_map (shape_of geometry) rest) j ≡ Some there → i ≢ j
    → (part_no here).0 ≢ (part_no there).0
unfolding IsDistinct
differ-rest geometry [] i j here there distinct one other off same = cc
differ-rest geometry (entry ∷ rest) i j here there distinct one other off same =
    by (shape_of geometry entry) refl one other
    (λ k l first second apart. differ-rest geometry rest k l here there distinct.1 first second
    apart same)
  where
    by : (o : Option Shape) → shape_of geometry entry ≡ o
        → slice_get (cons_option o (filter_map (shape_of geometry) rest)) i ≡ Some here
        → slice_get (cons_option o (filter_map (shape_of geometry) rest)) j ≡ Some there
        → ((k l : ℕ) → slice_get (filter_map (shape_of geometry) rest) k ≡ Some here
        → slice_get (filter_map (shape_of geometry) rest) l ≡ Some there → k ≢ l → ⊥) → ⊥
    by None laid first second later = later i j first second off
    by (Some shape) laid first second later = at i j first second off
      where
        number-is : (x : Shape) → shape ≡ x → (part_no x).0 ≡ entry.part.0
        number-is x is = shape-number geometry entry x (laid ∙ ap Some is)

        at : (k l : ℕ) → slice_get (shape ∷ filter_map (shape_of geometry) rest) k ≡ Some here
            → slice_get (shape ∷ filter_map (shape_of geometry) rest) l ≡ Some there
            → k ≢ l → ⊥
        at zero zero first second apart = apart refl
        at zero (suc l) first second apart =
            new-number geometry entry.part.0 rest l there distinct.0 second
            (sym same ∙ number-is here (some-shape shape here first))
        at (suc k) zero first second apart =
            new-number geometry entry.part.0 rest k here distinct.0 first
            (same ∙ number-is there (some-shape shape there second))
        at (suc k) (suc l) first second apart =
            later k l first second (λ equal. apart (ap suc equal))

-- each of the parts that a catalog lays has a number of its own
pub shapes-differ : (geometry : Geometry) (entries : List CatEntry)
    → IsDistinct nat_eq (0 ∷ parts_in entries) → (i j : ℕ) (here there : Shape)
    → slice_get (shapes_laid geometry entries) i ≡ Some here
    → slice_get (shapes_laid geometry entries) j ≡ Some there → i ≢ j
    → (part_no here).0 ≢ (part_no there).0
unfolding IsDistinct
shapes-differ geometry entries distinct zero zero here there one other off same = off refl
shapes-differ geometry entries distinct zero (suc j) here there one other off same =
    new-number geometry 0 entries j there distinct.0 other
    (sym same ∙ ap (λ (s : Shape). (part_no s).0)
    (sym (some-shape (catalog_shape geometry) here one)))
shapes-differ geometry entries distinct (suc i) zero here there one other off same =
    new-number geometry 0 entries i here distinct.0 one
    (same ∙ ap (λ (s : Shape). (part_no s).0)
    (sym (some-shape (catalog_shape geometry) there other)))
shapes-differ geometry entries distinct (suc i) (suc j) here there one other off same =
    differ-rest geometry entries i j here there distinct.1 one other (λ equal. off (ap suc equal))
    same

-- each of them is that of a part that is laid
pub shape-laid : (geometry : Geometry) (entries : List CatEntry)
    → IsDistinct nat_eq (0 ∷ parts_in entries) → (k : ℕ) (shape : Shape)
    → slice_get (shapes_laid geometry entries) k ≡ Some shape
    → shape_in geometry entries (part_no shape).0 ≡ Some shape
shape-laid geometry entries distinct k shape here =
    subst (λ (s : Shape). shape_in geometry entries (part_no s).0 ≡ Some s)
    (get_or_from_slice_get (shapes_laid geometry entries) k shape shape here)
    (each-laid geometry entries distinct k shape
    (slice_get_within (shapes_laid geometry entries) k shape here))
