-- What the rules of a catalog say of the sizes of a cluster.
use Rattle.std.proofs.Common.{◌≡◌, ◌<◌, ◌≤◌, ◌+◌, ℕ, Bool, true, false, List}
use Rattle.std.proofs.Common.{refl, sym, Some, None, Option, subst, arith}
use Rattle.std.specs.Prelude.{IsTrue, is_none, is_some, not, ◌&&◌, ◌||◌, ◌==◌, nat_lt}
use Rattle.std.specs.Option.{unwrap_or}
use Rattle.std.proofs.lemmas.Bool.{and_parts}
use Rattle.std.proofs.lemmas.Bool.Decides.{nat_tests}
use Rattle.vr_types.specs.Geometry.{IsAllowed}
use Rattle.vr_types.specs.declared.geometry.Geometry.{Geometry}
use Rattle.vr_types.specs.declared.unit.AreaNo.{AreaNo}
use Rattle.vr_types.specs.declared.unit.Kind.{Kind}
use Rattle.vr_types.specs.declared.unit.Kind.TheVariants as kinds
use Rattle.vr_catalog.specs.Catalog.{cluster_definition, definition_in}
use Rattle.vr_catalog.specs.Entry.{are_keys_of, is_cluster, is_entry, is_of_kind}
use Rattle.vr_catalog.specs.Limits.{are_bad_sizes, ends_past, intervals_used, is_bad_cluster}
use Rattle.vr_catalog.specs.Limits.{is_past_limit, plain_limit}
use Rattle.vr_catalog.specs.declared.definition.Definition.{Definition}
use Rattle.vr_catalog.specs.declared.entry.CatEntry.{CatEntry}
use Rattle.vr_catalog.specs.declared.entry.EntryKind.{EntryKind}
use Rattle.vr_catalog.specs.declared.entry.EntryKind.TheVariants.{Cluster}
use Rattle.vr_attach.specs.CatalogRules.{IsEntryOf, has_area_by, has_intervals_by, has_sizes_by}
use Rattle.vr_attach.specs.CatalogRules.{related_in}
use Rattle.vr_start.specs.Startable.{IsStartable, IsStartableAs}

-- ---- what an entry says of its keys

of-kind : (entry : CatEntry) → IsTrue (is_entry entry)
    → is_of_kind entry.entry_kind entry ≡ true
unfolding is_entry
of-kind entry is = grind (arith, and_parts)

keys-of : (entry : CatEntry) → is_cluster entry ≡ true
    → are_keys_of entry.kind entry.key_length entry.key_offset ≡ true
keys-of entry is = grind (arith, and_parts)

-- the keys of a cluster are those of its kind
cluster-keys : (entry : CatEntry) → IsTrue (is_entry entry) → entry.entry_kind ≡ Cluster
    → are_keys_of entry.kind entry.key_length entry.key_offset ≡ true
cluster-keys entry is kind =
    keys-of entry (subst (λ (k : EntryKind). is_of_kind k entry ≡ true) kind (of-kind entry is))

some-keys : (length offset : ℕ) → are_keys_of (Some kinds.Keyed) length offset ≡ true → 0 < length
some-keys length offset is = grind (arith, nat_tests, and_parts)

short-keys : (length offset : ℕ) → are_keys_of (Some kinds.Keyed) length offset ≡ true
    → length ≤ 255
short-keys length offset is = grind (arith, nat_tests, and_parts)

-- ---- what the rules say of its sizes

-- The sizes of a cluster: those of its records, and the intervals that it uses.
record HasSizes (geometry : Geometry) (entry : CatEntry) : Type 0 where
  good : is_bad_cluster geometry (definition_in entry) entry.average ≡ false
  used : has_intervals_by geometry entry entry.kind ≡ true

both-parts : (a b c : Bool) → (not a && (not b && c)) ≡ true → (b ≡ false) × (c ≡ true)
both-parts true b c is = absurd (cc)
both-parts false true c is = absurd (cc)
both-parts false false c is = (refl, is)

has-sizes : (geometry : Geometry) (entries : List CatEntry) (entry : CatEntry)
    → IsEntryOf geometry entries entry → entry.entry_kind ≡ Cluster → HasSizes geometry entry
has-sizes geometry entries entry rules kind =
    let both = both-parts (ends_past entry.key_length entry.key_offset entry.maximum)
    (is_bad_cluster geometry (definition_in entry) entry.average)
    (has_intervals_by geometry entry entry.kind)
    (subst (λ (k : EntryKind).
    IsTrue (has_sizes_by k geometry entry (related_in entries entry))) kind rules.sizes) in
    record { good = both.0; used = both.1 }

neither : (a b : Bool) → (a || b) ≡ false → (a ≡ false) × (b ≡ false)
neither true b is = absurd (cc)
neither false b is = (refl, is)

-- a cluster has records of some length
some-length : (average maximum : ℕ) → are_bad_sizes average maximum ≡ false → 0 < maximum
some-length average maximum is = grind (arith, nat_tests)

-- a record of the maximum has room in an interval, unless the cluster is spanned
within-limit : (geometry : Geometry) → IsAllowed geometry → (maximum : ℕ)
    → nat_lt (plain_limit geometry) maximum ≡ false → maximum + 7 ≤ geometry.size
within-limit geometry allowed maximum is =
    let block = allowed.size in grind (arith, nat_tests)

unspanned-fits : (geometry : Geometry) → IsAllowed geometry → (kind : Kind)
    (definition : Definition) (average : ℕ) → definition.spanned ≡ false
    → is_past_limit kind geometry definition average ≡ false
    → definition.maximum + 7 ≤ geometry.size
unspanned-fits geometry allowed kinds.Keyed definition average plain is =
    within-limit geometry allowed definition.maximum (rw plain at is)
unspanned-fits geometry allowed kinds.Entry definition average plain is =
    within-limit geometry allowed definition.maximum (rw plain at is)
unspanned-fits geometry allowed kinds.Relative definition average plain is =
    within-limit geometry allowed definition.maximum
    (neither (not (average == definition.maximum)) (nat_lt (plain_limit geometry)
    definition.maximum) (rw plain at is)).1

fits-by : (geometry : Geometry) → IsAllowed geometry → (definition : Definition) (average : ℕ)
    → is_past_limit definition.kind geometry definition average ≡ false
    → (spanned : Bool) → definition.spanned ≡ spanned
    → (IsTrue spanned → definition.maximum + 7 ≤ geometry.size)
    → definition.maximum + 7 ≤ geometry.size
fits-by geometry allowed definition average within true is fits = fits refl
fits-by geometry allowed definition average within false is fits =
    unspanned-fits geometry allowed definition.kind definition average is within

-- ---- the head of a key-sequenced one

enough : (n : ℕ) → not (nat_lt n 2) ≡ true → 0 < n
enough n is = grind (arith, nat_tests)

some-used : (geometry : Geometry) (entry : CatEntry) → is_some entry.first_area ≡ true
    → has_intervals_by geometry entry (Some kinds.Keyed) ≡ true
    → 0 < intervals_used geometry entry.key_length
some-used geometry entry area used =
    enough (intervals_used geometry entry.key_length) (by-area entry.first_area area used)
  where
    by-area : (first : Option AreaNo) → is_some first ≡ true
        → (is_none first || not (nat_lt (intervals_used geometry entry.key_length) 2)) ≡ true
        → not (nat_lt (intervals_used geometry entry.key_length) 2) ≡ true
    by-area None some is = absurd (cc)
    by-area (Some number) some is = is

as-kind : (geometry : Geometry) (entry : CatEntry) → is_some entry.first_area ≡ true
    → (kind : Option Kind) → are_keys_of kind entry.key_length entry.key_offset ≡ true
    → has_intervals_by geometry entry kind ≡ true
    → IsStartableAs geometry (definition_in entry) (unwrap_or kind kinds.Keyed)
as-kind geometry entry area None keys used = absurd (cc)
as-kind geometry entry area (Some kinds.Keyed) keys used = record {
  key = some-keys entry.key_length entry.key_offset keys;
  short = short-keys entry.key_length entry.key_offset keys;
  used = some-used geometry entry area used;
}
as-kind geometry entry area (Some kinds.Entry) keys used = tt
as-kind geometry entry area (Some kinds.Relative) keys used = tt

-- ---- a cluster

-- a part can be made of a cluster that keeps the rules
pub cluster-can-start : (geometry : Geometry) (entries : List CatEntry) (entry : CatEntry)
    → IsAllowed geometry → IsTrue (is_entry entry) → IsEntryOf geometry entries entry
    → entry.entry_kind ≡ Cluster
    → (IsTrue entry.spanned → entry.maximum + 7 ≤ geometry.size)
    → IsStartable geometry (definition_in entry)
cluster-can-start geometry entries entry allowed is rules kind fits =
    let sizes = has-sizes geometry entries entry rules kind in
    let bad = neither (are_bad_sizes entry.average entry.maximum)
    (is_past_limit (definition_in entry).kind geometry (definition_in entry) entry.average)
    sizes.good in
    record {
      some = some-length entry.average entry.maximum bad.0;
      fits = fits-by geometry allowed (definition_in entry) entry.average bad.1 entry.spanned refl
          fits;
      organised = as-kind geometry entry
          (subst (λ (k : EntryKind). has_area_by k entry ≡ true) kind rules.area) entry.kind
          (cluster-keys entry is kind) sizes.used;
    }

-- it is the one that its entry defines
pub defined-can-start : (geometry : Geometry) (entries : List CatEntry) (entry : CatEntry)
    (definition : Definition) → IsAllowed geometry → IsTrue (is_entry entry)
    → IsEntryOf geometry entries entry → entry.entry_kind ≡ Cluster
    → cluster_definition entry.entry_kind entry ≡ Some definition
    → (IsTrue definition.spanned → definition.maximum + 7 ≤ geometry.size)
    → IsStartable geometry definition
defined-can-start geometry entries entry definition allowed is rules kind defined fits =
    subst (IsStartable geometry) same (cluster-can-start geometry entries entry allowed is rules
    kind (subst (λ (d : Definition). IsTrue d.spanned → d.maximum + 7 ≤ geometry.size) (sym same)
    fits))
  where
    same : definition_in entry ≡ definition
    same = let as-cluster : Some (definition_in entry) ≡ Some definition =
        subst (λ (k : EntryKind). cluster_definition k entry ≡ Some definition) kind defined in
        cc as-cluster
