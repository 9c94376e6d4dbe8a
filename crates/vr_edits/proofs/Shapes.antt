-- The parts that a catalog lays once an edit is made.
use Rattle.std.proofs.Common.{◌≡◌, ◌≢◌, ◌∙◌, ◌==◌, ◌+◌, ◌≤◌, ℕ, Bool, true, false, cond}
use Rattle.std.proofs.Common.{List, [], ◌∷◌, ◌||◌, Option, Some, None, refl, sym, ap, subst, arith}
use Rattle.std.proofs.Common.{true≢false}
use Rattle.std.specs.Prelude.{option_and_then, option_map}
use Rattle.std.specs.List.{AllByRecursion, count_by, find, list_any}
use Rattle.std.specs.Option.{option_map_or}
use Rattle.std.proofs.lemmas.Bool.Decides.{nat_tests}
use Rattle.std.proofs.lemmas.List.Sums.{sum_by-cons}
use Rattle.std.proofs.lemmas.Option.{none-some}
use Rattle.vr_types.specs.declared.geometry.Geometry.{Geometry}
use Rattle.vr_types.specs.declared.unit.PartNo.{PartNo}
use Rattle.vr_catalog.specs.Catalog.{cluster_definition, entry_with_part}
use Rattle.vr_catalog.specs.declared.entry.CatEntry.{CatEntry}
use Rattle.vr_catalog.specs.declared.entry.EntryKind.{EntryKind}
use Rattle.vr_catalog.specs.declared.entry.EntryKind.TheVariants.{Alternate, Cluster, Path}
use Rattle.vr_attach.specs.CatalogRules.{is_cluster}
use Rattle.vr_attach.specs.Laid.{catalog_shape, shape_from, shape_in, shape_of}
use Rattle.vr_space.specs.Part.{Shape}
use Rattle.vr_edits.specs.Edits.{IsEntryThere, MayAdd, MayDelete, MayEdit, MayRename, altered_by}
use Rattle.vr_edits.specs.Edits.{goes, is_cluster_entry, shape_after, with_altered}
use Rattle.vr_edits.specs.Edits.{with_entry, without_entries, without_entry}
use Rattle.vr_edits.specs.declared.edit.CatalogEdit.{CatalogEdit}
use Rattle.vr_edits.specs.declared.edit.CatalogEdit.TheVariants.{Add, Alter, Delete, Rename}
use Rattle.vr_edits.proofs.Parts.{has_part, other-parts, part-altered, part-with}
use Rattle.vr_edits.proofs.Parts.{part-without-some, same-number}
use Rattle.vr_edits.proofs.Rules.{IsAlike, altered-alike, by-recursion, numbered, part-renamed}
use Rattle.vr_edits.proofs.Rules.{renamed-found}

abbrev laid : Geometry → Option CatEntry → Option Shape
laid geometry = option_and_then (shape_of geometry)

-- a part is where it was, if its entry lays it so
same-shape : (geometry : Geometry) (before after : List CatEntry) (part : ℕ)
    → laid geometry (entry_with_part after part) ≡ laid geometry (entry_with_part before part)
    → shape_in geometry after part ≡ shape_in geometry before part
same-shape geometry before after part same =
    ap (λ (o : Option Shape). cond (part == 0) (Some (catalog_shape geometry)) o) same

-- entries that are alike lay the same
alike-shape : (geometry : Geometry) (entry other : CatEntry) → IsAlike entry other
    → shape_of geometry other ≡ shape_of geometry entry
alike-shape geometry entry other alike =
    ap (shape_of geometry) alike ∙ by-kind entry.entry_kind
  where
    one : CatEntry
    one = record entry {
      name = other.name;
      free_space = other.free_space;
      share_options = other.share_options;
    }

    by-kind : (kind : EntryKind)
        → option_and_then (shape_from geometry entry.part.0 entry.first_area)
        (cluster_definition kind one)
        ≡ option_and_then (shape_from geometry entry.part.0 entry.first_area)
        (cluster_definition kind entry)
    by-kind Cluster = refl
    by-kind Alternate = refl
    by-kind Path = refl

-- only a cluster lays a part
lays-none : (geometry : Geometry) (entry : CatEntry) → is_cluster_entry entry ≡ false
    → shape_of geometry entry ≡ None
lays-none geometry entry is = by-kind entry.entry_kind is
  where
    by-kind : (kind : EntryKind) → is_cluster kind ≡ false
        → option_and_then (shape_from geometry entry.part.0 entry.first_area)
        (cluster_definition kind entry) ≡ None
    by-kind Cluster is-none = absurd (true≢false is-none)
    by-kind Alternate is-none = refl
    by-kind Path is-none = refl

other-kind : (entry : CatEntry) → entry.entry_kind ≢ Cluster → is_cluster_entry entry ≡ false
other-kind entry other = by-kind entry.entry_kind refl
  where
    by-kind : (kind : EntryKind) → entry.entry_kind ≡ kind → is_cluster kind ≡ false
    by-kind Cluster is = absurd (other is)
    by-kind Alternate is = refl
    by-kind Path is = refl

-- ---- each edit

altered-shapes : (geometry : Geometry) (entries : List CatEntry) (new : CatEntry) (part : ℕ)
    → shape_in geometry (with_altered new entries) part ≡ shape_in geometry entries part
altered-shapes geometry entries new part =
    same-shape geometry entries (with_altered new entries) part
    (ap (laid geometry) (part-altered new entries part) ∙ of (entry_with_part entries part))
  where
    of : (base : Option CatEntry)
        → laid geometry (option_map (altered_by new) base) ≡ laid geometry base
    of None = refl
    of (Some base) =
        alike-shape geometry base (altered_by new base) (altered-alike new base)

renamed-shapes : (geometry : Geometry) (entries : List CatEntry) (entry new : CatEntry)
    → MayRename entries entry new → (part : ℕ)
    → shape_in geometry (with_entry new (without_entry entry entries)) part
    ≡ shape_in geometry entries part
renamed-shapes geometry entries entry new may part =
    same-shape geometry entries (with_entry new (without_entry entry entries)) part
    (ap (laid geometry) (part-renamed geometry entries entry new may part)
    ∙ by-test (new.part.0 == part) refl)
  where
    by-test : (b : Bool) → (new.part.0 == part) ≡ b
        → laid geometry (cond b (Some new) (entry_with_part entries part))
        ≡ laid geometry (entry_with_part entries part)
    by-test true is = alike-shape geometry entry new may.alike
        ∙ sym (ap (laid geometry) (renamed-found geometry entries entry new may part is))
    by-test false is = refl

-- with an entry more, its part is where that says
pub with-shapes : (geometry : Geometry) (entries : List CatEntry) (new : CatEntry)
    → entry_with_part entries new.part.0 ≡ None → new.part.0 ≢ 0 → (part : ℕ)
    → shape_in geometry (with_entry new entries) part
    ≡ cond (new.part.0 == part) (shape_of geometry new) (shape_in geometry entries part)
with-shapes geometry entries new none some part =
    ap (λ (o : Option CatEntry). cond (part == 0) (Some (catalog_shape geometry)) (laid geometry o))
    (part-with new entries part (other-parts new.part.0 entries none))
    ∙ by-tests (part == 0) (new.part.0 == part) refl refl
  where
    by-tests : (zero here : Bool) → (part == 0) ≡ zero → (new.part.0 == part) ≡ here
        → cond zero (Some (catalog_shape geometry))
        (laid geometry (cond here (Some new) (entry_with_part entries part)))
        ≡ cond here (shape_of geometry new)
        (cond zero (Some (catalog_shape geometry)) (laid geometry (entry_with_part entries part)))
    by-tests true true zero here = absurd (some (grind (arith, nat_tests, zero, here)))
    by-tests true false zero here = refl
    by-tests false true zero here = refl
    by-tests false false zero here = refl

-- and one that isn't of a cluster lays none
added-shapes : (geometry : Geometry) (entries : List CatEntry) (new : CatEntry)
    → MayAdd geometry entries new → (part : ℕ)
    → shape_in geometry (with_entry new entries) part ≡ shape_in geometry entries part
added-shapes geometry entries new may part =
    with-shapes geometry entries new may.part may.numbered part
    ∙ by-test (new.part.0 == part) refl
  where
    none-there : (new.part.0 == part) ≡ true → shape_in geometry entries part ≡ None
    none-there is =
        let same : new.part.0 ≡ part = grind (arith, nat_tests, is) in
        ap (λ (n : ℕ). shape_in geometry entries n) (sym same)
        ∙ by-zero (new.part.0 == 0) refl
      where
        by-zero : (b : Bool) → (new.part.0 == 0) ≡ b
            → cond b (Some (catalog_shape geometry))
            (laid geometry (entry_with_part entries new.part.0)) ≡ None
        by-zero true zero = absurd (may.numbered (grind (arith, nat_tests, zero)))
        by-zero false zero = ap (laid geometry) may.part

    by-test : (b : Bool) → (new.part.0 == part) ≡ b
        → cond b (shape_of geometry new) (shape_in geometry entries part)
        ≡ shape_in geometry entries part
    by-test true is = lays-none geometry new (other-kind new may.no_cluster) ∙ sym (none-there is)
    by-test false is = refl

-- ---- a deletion

abbrev goes_of : List CatEntry → ℕ → Bool
goes_of gone part = goes (Delete gone) part

abbrev goes_by : Option CatEntry → ℕ → Bool
goes_by found part = option_map_or (λ (n : PartNo). n.0 == part) (option_map
    (λ (entry : CatEntry). entry.part) found) false

-- the first of a part, where there is one,
first-of : (gone : List CatEntry) (part : ℕ) → list_any (has_part part) gone ≡ true
    → (entry : CatEntry) × (entry_with_part gone part ≡ Some entry)
first-of [] part some = absurd (true≢false (sym some))
first-of (entry ∷ gone) part some = by-test (entry.part.0 == part) some (first-of gone part)
  where
    by-test : (b : Bool) → (b || list_any (has_part part) gone) ≡ true
        → (list_any (has_part part) gone ≡ true
        → (one : CatEntry) × (entry_with_part gone part ≡ Some one))
        → (one : CatEntry) × (cond b (Some entry) (entry_with_part gone part) ≡ Some one)
    by-test true is rest = (entry, refl)
    by-test false is rest = rest is

not-cluster : (other entry : CatEntry) → is_cluster_entry entry ≡ true
    → is_cluster_entry other ≡ false → Some other ≡ Some entry → ⊥
not-cluster other entry is kind same =
    let one : other ≡ entry = cc in true≢false (sym is ∙ ap is_cluster_entry (sym one) ∙ kind)

-- how many clusters there are, with one entry more
count-first : (entry : CatEntry) (gone : List CatEntry)
    → count_by is_cluster_entry (entry ∷ gone)
    ≡ cond (is_cluster_entry entry) 1 0 + count_by is_cluster_entry gone
count-first entry gone =
    sum_by-cons (λ (one : CatEntry). cond (is_cluster_entry one) 1 0) entry gone

-- if it is a cluster, there is one among them
counted : (gone : List CatEntry) (part : ℕ) (entry : CatEntry)
    → entry_with_part gone part ≡ Some entry → is_cluster_entry entry ≡ true
    → 1 ≤ count_by is_cluster_entry gone
counted [] part entry found is = absurd (none-some entry found)
counted (other ∷ gone) part entry found is =
    subst (λ (n : ℕ). 1 ≤ n) (sym (count-first other gone))
    (by-tests (other.part.0 == part) (is_cluster_entry other) refl found
    (λ there. counted gone part entry there is))
  where
    by-tests : (here cluster : Bool) → is_cluster_entry other ≡ cluster
        → cond here (Some other) (entry_with_part gone part) ≡ Some entry
        → (entry_with_part gone part ≡ Some entry → 1 ≤ count_by is_cluster_entry gone)
        → 1 ≤ cond cluster 1 0 + count_by is_cluster_entry gone
    by-tests here true kind same rest = omega arith
    by-tests true false kind same rest = absurd (not-cluster other entry is kind same)
    by-tests false false kind same rest = let more = rest same in omega arith

-- so its part is what goes,
cluster-goes : (gone : List CatEntry) (part : ℕ) (entry : CatEntry)
    → count_by is_cluster_entry gone ≤ 1 → entry_with_part gone part ≡ Some entry
    → is_cluster_entry entry ≡ true → goes_of gone part ≡ true
cluster-goes [] part entry few found is = absurd (none-some entry found)
cluster-goes (other ∷ gone) part entry few found is =
    by-tests (other.part.0 == part) (is_cluster_entry other) refl refl
    (subst (λ (n : ℕ). n ≤ 1) (count-first other gone) few) found
    (λ less there. cluster-goes gone part entry less there is)
  where
    by-tests : (here cluster : Bool) → (other.part.0 == part) ≡ here
        → is_cluster_entry other ≡ cluster
        → cond cluster 1 0 + count_by is_cluster_entry gone ≤ 1
        → cond here (Some other) (entry_with_part gone part) ≡ Some entry
        → (count_by is_cluster_entry gone ≤ 1 → entry_with_part gone part ≡ Some entry
        → goes_of gone part ≡ true)
        → goes_by (cond cluster (Some other) (find is_cluster_entry gone)) part ≡ true
    by-tests true true test kind less same rest = test
    by-tests true false test kind less same rest = absurd (not-cluster other entry is kind same)
    by-tests false true test kind less same rest =
        let more = counted gone part entry same is in absurd (omega (arith, less, more))
    by-tests false false test kind less same rest = rest (omega (arith, less)) same

-- and a part goes only if one of them has it
none-goes : (gone : List CatEntry) (part : ℕ) → list_any (has_part part) gone ≡ false
    → goes_of gone part ≡ false
none-goes [] part none = refl
none-goes (other ∷ gone) part none =
    by-tests (other.part.0 == part) (is_cluster_entry other) refl none (none-goes gone part)
  where
    by-tests : (here cluster : Bool) → (other.part.0 == part) ≡ here
        → (here || list_any (has_part part) gone) ≡ false
        → (list_any (has_part part) gone ≡ false → goes_of gone part ≡ false)
        → goes_by (cond cluster (Some other) (find is_cluster_entry gone)) part ≡ false
    by-tests true cluster test is-none rest = absurd (true≢false is-none)
    by-tests false true test is-none rest = test
    by-tests false false test is-none rest = rest is-none

-- the catalog's own isn't theirs
not-own : (entries gone : List CatEntry) → AllByRecursion (IsEntryThere entries) gone
    → list_any (has_part 0) gone ≡ false
not-own entries [] there = refl
not-own entries (entry ∷ gone) there =
    by-test (entry.part.0 == 0) refl (not-own entries gone there.1)
  where
    by-test : (b : Bool) → (entry.part.0 == 0) ≡ b → list_any (has_part 0) gone ≡ false
        → (b || list_any (has_part 0) gone) ≡ false
    by-test true is rest =
        absurd (numbered entry there.0.entry_is (grind (arith, nat_tests, is)))
    by-test false is rest = rest

-- the entry of a part that one of them has is that one
found-there : (entries gone : List CatEntry) (part : ℕ) (entry : CatEntry)
    → AllByRecursion (IsEntryThere entries) gone → entry_with_part gone part ≡ Some entry
    → entry_with_part entries part ≡ Some entry
found-there entries [] part entry there found = absurd (none-some entry found)
found-there entries (other ∷ gone) part entry there found =
    by-test (other.part.0 == part) refl found (found-there entries gone part entry there.1)
  where
    by-test : (b : Bool) → (other.part.0 == part) ≡ b
        → cond b (Some other) (entry_with_part gone part) ≡ Some entry
        → (entry_with_part gone part ≡ Some entry → entry_with_part entries part ≡ Some entry)
        → entry_with_part entries part ≡ Some entry
    by-test true is same rest = ap (entry_with_part entries)
        (sym (same-number other.part.0 part is)) ∙ there.0.there ∙ same
    by-test false is same rest = rest same

gone-shapes : (geometry : Geometry) (entries gone : List CatEntry) → MayDelete entries gone
    → (part : ℕ) → shape_in geometry (without_entries gone entries) part
    ≡ cond (goes_of gone part) None (shape_in geometry entries part)
gone-shapes geometry entries gone may part =
    ap (λ (o : Option CatEntry). cond (part == 0) (Some (catalog_shape geometry)) (laid geometry o))
    (part-without-some gone entries part)
    ∙ by-tests (part == 0) (list_any (has_part part) gone) refl refl
  where
    there : AllByRecursion (IsEntryThere entries) gone
    there = by-recursion (IsEntryThere entries) gone may.there

    -- one of them has the part: a cluster, with which it goes, or what lays none
    has : list_any (has_part part) gone ≡ true
        → None ≡ cond (goes_of gone part) None (laid geometry (entry_with_part entries part))
    has some =
        let first = first-of gone part some in
        by-kind first.0 first.1 (is_cluster_entry first.0) refl
      where
        by-goes : (b : Bool) (shape : Option Shape) → shape ≡ None → None ≡ cond b None shape
        by-goes true shape none = refl
        by-goes false shape none = sym none

        by-kind : (entry : CatEntry) → entry_with_part gone part ≡ Some entry → (cluster : Bool)
            → is_cluster_entry entry ≡ cluster
            → None ≡ cond (goes_of gone part) None (laid geometry (entry_with_part entries part))
        by-kind entry found true is = sym (ap (λ (b : Bool). cond b None
            (laid geometry (entry_with_part entries part)))
            (cluster-goes gone part entry may.cluster found is))
        by-kind entry found false is = by-goes (goes_of gone part)
            (laid geometry (entry_with_part entries part))
            (ap (laid geometry) (found-there entries gone part entry there found)
            ∙ lays-none geometry entry is)

    by-tests : (zero some : Bool) → (part == 0) ≡ zero → list_any (has_part part) gone ≡ some
        → cond zero (Some (catalog_shape geometry))
        (laid geometry (cond some None (entry_with_part entries part)))
        ≡ cond (goes_of gone part) None (cond zero (Some (catalog_shape geometry))
        (laid geometry (entry_with_part entries part)))
    by-tests true true zero some = absurd (true≢false (sym some
        ∙ ap (λ (n : ℕ). list_any (has_part n) gone)
        (same-number part 0 zero)
        ∙ not-own entries gone there))
    by-tests false true zero some = has some
    by-tests zero false is some = sym (ap (λ (b : Bool). cond b None
        (cond zero (Some (catalog_shape geometry)) (laid geometry (entry_with_part entries part))))
        (none-goes gone part some))

pub shapes-kept : (geometry : Geometry) (entries : List CatEntry) (edit : CatalogEdit)
    → MayEdit geometry entries edit → (part : ℕ) → shape_after geometry entries edit part
shapes-kept geometry entries (Alter entry new) may part =
    altered-shapes geometry entries new part
shapes-kept geometry entries (Rename entry new) may part =
    renamed-shapes geometry entries entry new may part
shapes-kept geometry entries (Delete gone) may part = gone-shapes geometry entries gone may part
shapes-kept geometry entries (Add new) may part = added-shapes geometry entries new may part
