-- What the catalog of a volume doesn't refuse is a new cluster of it.
use Rattle.std.proofs.Common.{◌≡◌, ◌⊎◌, ⊎_elim, inl, inr, ℕ, ◌+◌, ◌<◌, ◌^◌, Bool, true, false}
use Rattle.std.proofs.Common.{List, ◌∷◌, Option, Some, None, refl, sym, subst, arith, if◌then◌else◌}
use Rattle.std.specs.Prelude.{IsTrue, ◌==◌, ◌&&◌, is_none, is_some, nat_eq}
use Rattle.std.specs.List.{IsDistinct}
use Rattle.std.specs.Option.{option_and_then, option_map, option_or}
use Rattle.std.proofs.lemmas.Bool.{lt-ltb}
use Rattle.std.proofs.lemmas.Bool.Decides.{eqb_tells, nat_tests}
use Rattle.std.proofs.lemmas.List.Elements.{All-weaker}
use Rattle.vr_types.specs.declared.geometry.Geometry.{Geometry}
use Rattle.vr_types.specs.declared.unit.AreaNo.{AreaNo}
use Rattle.vr_types.specs.declared.unit.Kind.{Kind}
use Rattle.vr_types.specs.declared.unit.Kind.TheVariants as kinds
use Rattle.vr_types.specs.declared.unit.PartNo.{PartNo}
use Rattle.vr_catalog.specs.Catalog.{entry_named, entry_with_part, parts_in}
use Rattle.vr_catalog.specs.Define.{bad_record_size, catalog_full, define_fault, fault_if}
use Rattle.vr_catalog.specs.Define.{few_intervals, greatest_part, key_past_record, name_taken}
use Rattle.vr_catalog.specs.Define.{key_of_kind, new_cluster, new_definition, new_entry}
use Rattle.vr_catalog.specs.Entry.{fits_four, is_entry}
use Rattle.vr_catalog.specs.Limits.{ends_past, is_bad_cluster}
use Rattle.vr_catalog.specs.declared.entry.CatEntry.{CatEntry}
use Rattle.vr_catalog.specs.declared.entry.EntryKind.{EntryKind}
use Rattle.vr_catalog.specs.declared.entry.EntryKind.TheVariants as entry_kinds
use Rattle.vr_catalog.specs.declared.fault.CatFault.{CatFault}
use Rattle.vr_catalog.specs.declared.fault.CatFault.TheVariants as faults
use Rattle.vr_catalog.specs.declared.order.DataOptions.{DataOptions}
use Rattle.vr_catalog.specs.declared.order.Define.{Define}
use Rattle.vr_catalog.specs.declared.order.NewEntry.{NewEntry}
use Rattle.vr_catalog.specs.declared.order.NewEntry.TheVariants.{Cluster, Alternate, Path}
use Rattle.vr_attach.specs.CatalogRules.{IsEntryOf, has_intervals_by, has_sizes_by, is_over_by}
use Rattle.vr_attach.specs.CatalogRules.{related_in}
use Rattle.vr_trace.specs.declared.command.Failure.{Failure}
use Rattle.vr_ams_define.specs.Failures.{catalog_failure, entry_failure, record_failure}
use Rattle.vr_ams_define.specs.NewCluster.{IsNewCluster, IsRuled, with_area, with_cluster}
use Rattle.vr_ams_define.specs.Runs.{is_plain_cluster}
use Rattle.vr_ams_define.proofs.Entering.{ArePartsApart, next-apart, none-with_part}
use Rattle.vr_ams_define.proofs.Entering.{with_cluster-all, with_cluster-apart}
use Rattle.vr_ams_define.proofs.Entering.{with_cluster-distinct, with_cluster-find}

-- ---- faults that have no cause

nones : {T : Type 0} (one other : Option T) → option_or one other ≡ None
    → (one ≡ None) × (other ≡ None)
nones None other none = (refl, none)
nones (Some fault) other none = absurd (cc)

fault-none : (cause : Bool) (fault : CatFault) → fault_if cause fault ≡ None → cause ≡ false
fault-none true fault none = absurd (cc)
fault-none false fault none = refl

some-none : {T : Type 0} (it : Option T) → is_some it ≡ false → it ≡ None
some-none None none = refl
some-none (Some x) none = absurd (cc)

map-none : (fault : Option CatFault) → option_map catalog_failure fault ≡ None → fault ≡ None
map-none None none = refl
map-none (Some fault) none = absurd (cc)

-- What no fault of a cluster says.
record IsUnrefused (geometry : Geometry) (entries : List CatEntry) (name : List ℕ) (kind : Kind)
    (options : DataOptions) : Type 0 where
  named : name_taken entries name ≡ None
  key : ends_past (key_of_kind kind options.key_length) (key_of_kind kind options.key_offset)
      options.maximum ≡ false
  size : is_bad_cluster geometry (new_definition kind false options) options.average ≡ false
  few : few_intervals geometry (Cluster kind false options) None ≡ None

unrefused : (geometry : Geometry) (entries : List CatEntry) (name : List ℕ) (kind : Kind)
    (options : DataOptions)
    → define_fault entries (record { name = name; what = Cluster kind false options }) geometry
    ≡ None
    → IsUnrefused geometry entries name kind options
unrefused geometry entries name kind options none =
    let full = nones _ (catalog_full entries) none in
    let many = nones _ None full.0 in
    let few = nones _ (few_intervals geometry (Cluster kind false options) None) many.0 in
    let size = nones _ (bad_record_size geometry (Cluster kind false options)) few.0 in
    let key = nones _ (key_past_record (Cluster kind false options) None) size.0 in
    let base = nones (name_taken entries name) None key.0 in
    record {
      named = base.0;
      key = fault-none _ faults.KeyPastRecord key.1;
      size = fault-none _ faults.RecordSize size.1;
      few = few.1;
    }

-- ---- its record, with an area

area-given : (named part fits rest : Bool) → fits ≡ true
    → (named && ((part && true) && rest)) ≡ true → (named && ((part && fits) && rest)) ≡ true
area-given named part fits rest given is = subst
    (λ (b : Bool). (named && ((part && b) && rest)) ≡ true) (sym given) is

with-area-is : (name : List ℕ) (part : ℕ) (kind : Kind) (options : DataOptions) (area : AreaNo)
    → area.0 + 1 < 2 ^ 32 → is_entry (new_cluster name part kind false options) ≡ true
    → IsTrue (is_entry (with_area area (new_cluster name part kind false options)))
unfolding is_entry
with-area-is name part kind options area fits is =
    area-given _ _ (fits_four (area.0 + 1)) _ (lt-ltb (area.0 + 1) (2 ^ 32) fits) is

-- ---- its sizes

sizes-are : (geometry : Geometry) (entries : List CatEntry) (name : List ℕ) (part : ℕ) (kind : Kind)
    (options : DataOptions) → IsUnrefused geometry entries name kind options → (area : AreaNo)
    → IsTrue (has_sizes_by entry_kinds.Cluster geometry
    (with_area area (new_cluster name part kind false options)) None)
sizes-are geometry entries name part kind options free area =
    rw (free.key, free.size) (few kind free.few)
  where
    few : (kind : Kind) → few_intervals geometry (Cluster kind false options) None ≡ None
        → has_intervals_by geometry (with_area area (new_cluster name part kind false options))
        (Some kind) ≡ true
    few kinds.Keyed none = rw (fault-none _ faults.FewIntervals none) refl
    few kinds.Entry none = refl
    few kinds.Relative none = refl

-- ---- the others keep the rules

none-is : {T : Type 0} (it : Option T) → is_none it ≡ true → it ≡ None
none-is None is = refl
none-is (Some x) is = absurd (cc)

-- an entry stands over nothing, or over one that is there
over-cases : (kind : EntryKind) (entry : CatEntry) (base : Option CatEntry)
    → IsTrue (is_over_by kind entry base) → (entry.related ≡ None) ⊎ (is_some base ≡ true)
over-cases entry_kinds.Cluster entry base over = inl (none-is entry.related over)
over-cases entry_kinds.Alternate entry None over = absurd (cc)
over-cases entry_kinds.Alternate entry (Some base) over = inr refl
over-cases entry_kinds.Path entry None over = absurd (cc)
over-cases entry_kinds.Path entry (Some base) over = inr refl

-- one that is there is found where it was
looked-up : (entries : List CatEntry) (new : CatEntry) (related : Option PartNo)
    → entry_with_part entries new.part.0 ≡ None
    → is_some (option_and_then (λ (part : PartNo). entry_with_part entries part.0) related) ≡ true
    → option_and_then (λ (part : PartNo). entry_with_part (with_cluster new entries) part.0) related
    ≡ option_and_then (λ (part : PartNo). entry_with_part entries part.0) related
looked-up entries new None none there = refl
looked-up entries new (Some part) none there =
    with_cluster-find (λ (entry : CatEntry). entry.part.0 == part.0) new entries
    (⊎_elim
    (λ same. absurd (both (subst (λ (n : ℕ). entry_with_part entries n ≡ None) same.1 none) there))
    (λ other. other.0) (eqb_tells new.part.0 part.0))
  where
    both : entry_with_part entries part.0 ≡ None → is_some (entry_with_part entries part.0) ≡ true
        → ⊥
    both none there = cc

related-same : (entries : List CatEntry) (new entry : CatEntry)
    → entry_with_part entries new.part.0 ≡ None
    → IsTrue (is_over_by entry.entry_kind entry (related_in entries entry))
    → related_in (with_cluster new entries) entry ≡ related_in entries entry
related-same entries new entry none over = ⊎_elim
    (λ (alone : entry.related ≡ None). rw alone refl)
    (λ there. looked-up entries new entry.related none there)
    (over-cases entry.entry_kind entry (related_in entries entry) over)

kept-grown : (geometry : Geometry) (entries : List CatEntry) (new entry : CatEntry)
    → entry_with_part entries new.part.0 ≡ None → IsEntryOf geometry entries entry
    → IsEntryOf geometry (with_cluster new entries) entry
kept-grown geometry entries new entry none kept =
    let same : related_in (with_cluster new entries) entry ≡ related_in entries entry =
    related-same entries new entry none kept.over in
    record {
      over = subst (λ (base : Option CatEntry). IsTrue (is_over_by entry.entry_kind entry base))
          (sym same) kept.over;
      area = kept.area;
      sizes = subst (λ (base : Option CatEntry). IsTrue
          (has_sizes_by entry.entry_kind geometry entry base)) (sym same) kept.sizes;
    }

-- ---- the new entry

recorded : (is : Bool) (failure : Failure) → (if is then None else Some failure) ≡ None
    → is ≡ true
recorded true failure none = refl
recorded false failure none = absurd (cc)

parts-are : (entries : List CatEntry) (new : CatEntry) → nat_eq 0 new.part.0 ≡ false
    → ArePartsApart new.part.0 entries → IsDistinct nat_eq (0 ∷ parts_in entries)
    → IsDistinct nat_eq (0 ∷ parts_in (with_cluster new entries))
unfolding IsDistinct
parts-are entries new some apart distinct = (
  with_cluster-apart 0 new entries some distinct.0,
  with_cluster-distinct new entries apart distinct.1,
)

zero-next : (n : ℕ) → nat_eq 0 (n + 1) ≡ false
zero-next n = grind (arith, nat_tests)

module _ (geometry : Geometry) (entries : List CatEntry) (name : List ℕ) (kind : Kind)
    (options : DataOptions) (free : IsUnrefused geometry entries name kind options)
    (is : is_entry (new_cluster name (greatest_part entries + 1) kind false options) ≡ true) where
  abbrev part : ℕ
  part = greatest_part entries + 1

  abbrev new : CatEntry
  new = new_cluster name part kind false options

  apart : ArePartsApart part entries
  apart = next-apart entries

  none : entry_with_part entries part ≡ None
  none = none-with_part part entries apart

  is-new-plain : IsNewCluster geometry entries new
  is-new-plain = record {
    cluster = refl;
    kind = refl;
    plain = refl;
    no_area = refl;
    alone = refl;
    name = some-none (entry_named entries name) (fault-none _ faults.NameTaken free.named);
    some_part = omega arith;
    part = none;
    entry_is = is;
    sizes = sizes-are geometry entries name part kind options free;
    spelled = λ area fits. with-area-is name part kind options area fits is;
  }

  -- with it the catalog keeps the rules
  ruled-plain : IsRuled geometry entries → (area : AreaNo) → area.0 + 1 < 2 ^ 32
      → IsRuled geometry (with_cluster (with_area area new) entries)
  ruled-plain ruled area fits =
      let it : CatEntry = with_area area new in
      let more : List CatEntry = with_cluster it entries in
      record {
        spelled = with_cluster-all (λ (entry : CatEntry). IsTrue (is_entry entry)) it entries
            (with-area-is name part kind options area fits is) ruled.spelled;
        parts = parts-are entries it (zero-next (greatest_part entries)) apart ruled.parts;
        kept = with_cluster-all (IsEntryOf geometry more) it entries
            (record {
              over = refl;
              area = refl;
              sizes = sizes-are geometry entries name part kind options free area;
            })
            (All-weaker (IsEntryOf geometry entries) (IsEntryOf geometry more)
            (λ entry kept. kept-grown geometry entries it entry none kept) entries ruled.kept);
      }

-- what a catalog doesn't refuse, and a record spells, is a new cluster
pub is-new : (geometry : Geometry) (entries : List CatEntry) (name : List ℕ) (what : NewEntry)
    → is_plain_cluster what ≡ true
    → define_fault entries (record { name = name; what = what }) geometry ≡ None
    → is_entry (new_entry entries (record { name = name; what = what })) ≡ true
    → IsNewCluster geometry entries (new_entry entries (record { name = name; what = what }))
is-new geometry entries name (Cluster kind true options) plain none is = absurd (cc)
is-new geometry entries name (Cluster kind false options) plain none is =
    is-new-plain geometry entries name kind options
    (unrefused geometry entries name kind options none) is
is-new geometry entries name (Alternate related unique options) plain none is = absurd (cc)
is-new geometry entries name (Path related) plain none is = absurd (cc)

-- and a catalog that keeps the rules keeps them with it
pub stays-ruled : (geometry : Geometry) (entries : List CatEntry) (name : List ℕ)
    (what : NewEntry) → IsRuled geometry entries → is_plain_cluster what ≡ true
    → define_fault entries (record { name = name; what = what }) geometry ≡ None
    → is_entry (new_entry entries (record { name = name; what = what })) ≡ true
    → (area : AreaNo) → area.0 + 1 < 2 ^ 32 → IsRuled geometry (with_cluster
    (with_area area (new_entry entries (record { name = name; what = what }))) entries)
stays-ruled geometry entries name (Cluster kind true options) ruled plain none is = absurd (cc)
stays-ruled geometry entries name (Cluster kind false options) ruled plain none is =
    ruled-plain geometry entries name kind options
    (unrefused geometry entries name kind options none) is ruled
stays-ruled geometry entries name (Alternate related unique options) ruled plain none is =
    absurd (cc)
stays-ruled geometry entries name (Path related) ruled plain none is = absurd (cc)

-- where the entry has no failure, both are so
pub failure-none : (geometry : Geometry) (entries : List CatEntry) (order : Define)
    → entry_failure geometry entries order ≡ None
    → (define_fault entries order geometry ≡ None) × (is_entry (new_entry entries order) ≡ true)
failure-none geometry entries order none =
    let both = nones (option_map catalog_failure (define_fault entries order geometry))
    (record_failure (new_entry entries order)) none in
    (map-none _ both.0, recorded (is_entry (new_entry entries order)) _ both.1)
