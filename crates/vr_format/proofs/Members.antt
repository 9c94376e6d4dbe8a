-- What holds of each cluster that is taken.
use Rattle.std.proofs.Common.{◌≡◌, ◌<◌, ◌≤◌, ◌+◌, ◌-◌, ℕ, Bool, true, false, List, length}
use Rattle.std.proofs.Common.{refl, sym, Some, None, Option, All, ap, subst, ◌∙◌, arith, get_or}
use Rattle.std.proofs.Common.{take}
use Rattle.std.proofs.Common.{◌++◌, ◌∷◌, [], ⊎_elim, length-append, zero, suc, true≢false}
use Rattle.std.specs.Prelude.{slice_get, IsTrue, is_none, not, ◌&&◌, ◌||◌, nat_lt, replicate}
use Rattle.std.specs.Prelude.{slice_index}
use Rattle.std.specs.Prelude.{bytes_eq, cond, ◌==◌}
use Rattle.std.specs.List.{before_first, concat}
use Rattle.std.specs.Option.{option_and_then, unwrap_or}
use Rattle.std.specs.Ordering.{is_le}
use Rattle.std.proofs.lemmas.Bool.{cases_lt, lt-ltb}
use Rattle.std.proofs.lemmas.Bool.Decides.{nat_tests}
use Rattle.std.proofs.lemmas.Bool.{and_parts}
use Rattle.std.proofs.lemmas.List.{length-take, take-append-le, take_all, get_or_past}
use Rattle.std.proofs.lemmas.List.Elements.{All-append, All-from_get_or, All-get_or, All-replicate}
use Rattle.std.proofs.lemmas.List.Elements.{All-take}
use Rattle.std.proofs.lemmas.Option.{slice_get-get_or, slice_get_within}
use Rattle.std.proofs.lemmas.Slice.Eq.{bytes_eq-Decides}
use Rattle.vr_types.specs.Content.{place_cmp}
use Rattle.vr_types.specs.Geometry.{IsAllowed}
use Rattle.vr_types.specs.Name.{column_at, fits_column, is_right_at}
use Rattle.vr_types.specs.declared.geometry.Geometry.{Geometry}
use Rattle.vr_types.specs.declared.unit.AreaNo.{AreaNo}
use Rattle.vr_types.specs.declared.unit.Kind.{Kind}
use Rattle.vr_types.specs.declared.unit.Kind.TheVariants as kinds
use Rattle.vr_catalog.specs.Catalog.{cluster_definition, definition_in, entry_named}
use Rattle.vr_catalog.specs.Entry.{are_keys_of, is_cluster, is_entry, is_name}
use Rattle.vr_catalog.specs.Entry.{is_of_kind}
use Rattle.vr_catalog.specs.Limits.{are_bad_sizes, ends_past, intervals_used, is_bad_cluster}
use Rattle.vr_catalog.specs.Limits.{is_past_limit}
use Rattle.vr_catalog.specs.Record.{entry_in, entry_kind_byte, entry_of, flag_byte, kind_byte}
use Rattle.vr_catalog.specs.Record.{name_fields, padded, part_fields, space_fields, spelling}
use Rattle.vr_catalog.specs.Record.{text_at}
use Rattle.vr_catalog.specs.declared.entry.CatEntry.{CatEntry}
use Rattle.vr_catalog.specs.declared.entry.EntryKind.{EntryKind}
use Rattle.vr_catalog.specs.declared.entry.EntryKind.TheVariants.{Cluster, Alternate, Path}
use Rattle.vr_catalog.proofs.CallerLemmas.{spelled_by, spells}
use Rattle.vr_catalog.proofs.EntryRead.{entry_read}
use Rattle.vr_catalog.proofs.NameLemmas.{name_is_dataset}
use Rattle.vr_catalog.proofs.RecordLemmas.{length-padded}
use Rattle.vr_space.specs.Keyed.{key_of}
use Rattle.vr_space.proofs.CallerLemmas.{most-place}
use Rattle.vr_volume.specs.CatalogRules.{IsEntryOf, has_intervals_by, has_sizes_by, is_over_by}
use Rattle.vr_volume.specs.CatalogRules.{related_in}
use Rattle.vr_volume.specs.Laid.{shape_from, shape_of}
use Rattle.vr_format.specs.Fit.{AreTaken, IsNext, IsTaken, in_area}
use Rattle.vr_format.specs.Formatted.{place_of}
use Rattle.vr_format.specs.InOrder.{AreElsewhere}
use Rattle.vr_format.specs.Planned.{IsCluster, IsClusterOf, MayBeKeyed, MayBeNumbered}
use Rattle.vr_format.specs.Planned.{catalog_area, cluster_shape}
use Rattle.vr_format.proofs.Taken.{there-in-take}

-- A cluster of the list.
pub record IsMember (geometry : Geometry) (clusters : List CatEntry) (cluster : CatEntry) : Type 0
  where
    pub at : ℕ
    pub there : slice_get clusters at ≡ Some cluster
    pub count : length (take at clusters) ≡ at
    pub next : IsNext geometry (take at clusters) cluster
    pub entry_is : IsTrue (is_entry cluster)
    pub spelled : entry_of (spelling cluster) ≡ Some cluster

pub member-at : (geometry : Geometry) (entries clusters : List CatEntry)
    → AreTaken geometry entries clusters → (at : ℕ) (cluster : CatEntry)
    → slice_get clusters at ≡ Some cluster → IsMember geometry clusters cluster
member-at geometry entries clusters taken at cluster there =
    let within : at < length clusters = slice_get_within clusters at cluster there in
    let entry : CatEntry = get_or entries at cluster in
    let took : IsTaken geometry (take at clusters) entry cluster =
    taken.each at entry cluster
    (slice_get-get_or entries at cluster (omega (arith, within, taken.count))) there in
    let is : IsTrue (is_entry cluster) = (spelled_by
    (spelling (in_area (length (take at clusters) + 1) entry)) cluster took.spelled).entry_is in
    record {
      at = at;
      there = there;
      count = omega (arith, within, length-take at clusters);
      next = took.next;
      entry_is = is;
      spelled = spells (spelling cluster) cluster (record { entry_is = is; spelled = refl });
    }

-- what the cluster at an index keeps
pub next-at : (geometry : Geometry) (entries clusters : List CatEntry)
    → AreTaken geometry entries clusters → (at : ℕ) (cluster : CatEntry)
    → slice_get clusters at ≡ Some cluster → IsNext geometry (take at clusters) cluster
next-at geometry entries clusters taken at cluster there =
    (taken.each at (get_or entries at cluster) cluster
    (slice_get-get_or entries at cluster
    (omega (arith, slice_get_within clusters at cluster there, taken.count))) there).next

pub member-all : (geometry : Geometry) (entries clusters : List CatEntry)
    → AreTaken geometry entries clusters → All (IsMember geometry clusters) clusters
member-all geometry entries clusters taken k d within =
    member-at geometry entries clusters taken k (get_or clusters k d)
    (slice_get-get_or clusters k d within)

-- ---- no two have the same place

-- the name of an entry is told by its place
name-read : (entry : CatEntry) → IsTrue (is_entry entry)
    → entry.name ≡ before_first (λ byte. byte == 32) (place_of entry)
unfolding entry_in text_at
name-read entry is = sym (ap (λ (e : CatEntry). e.name) (entry_read entry is))

some-none : (x : CatEntry) → Some x ≡ None → ⊥
some-none x same = cc

same-entry : (x y : CatEntry) → Some x ≡ Some y → x ≡ y
same-entry x y same = cc

none-entry : (x : CatEntry) → None ≡ Some x → ⊥
none-entry x same = cc

-- none has a name that isn't found
not-named : (entries : List CatEntry) (name : List ℕ) (at : ℕ) (entry : CatEntry)
    → entry_named entries name ≡ None → slice_get entries at ≡ Some entry
    → bytes_eq entry.name name ≡ false
not-named [] name at entry none there = absurd (none-entry entry there)
not-named (first ∷ entries) name at entry none there =
    by (bytes_eq first.name name) refl none at there
    (λ k left here. not-named entries name k entry left here)
  where
    by : (b : Bool) → bytes_eq first.name name ≡ b
        → cond b (Some first) (entry_named entries name) ≡ None
        → (k : ℕ) → slice_get (first ∷ entries) k ≡ Some entry
        → ((k : ℕ) → entry_named entries name ≡ None → slice_get entries k ≡ Some entry
        → bytes_eq entry.name name ≡ false)
        → bytes_eq entry.name name ≡ false
    by true same left k here rest = absurd (some-none first left)
    by false differ left zero here rest = subst (λ (e : CatEntry). bytes_eq e.name name ≡ false)
        (same-entry first entry here) differ
    by false differ left (suc k) here rest = rest k left here

pub places-elsewhere : (geometry : Geometry) (entries clusters : List CatEntry)
    → AreTaken geometry entries clusters → AreElsewhere clusters
places-elsewhere geometry entries clusters taken i j one other less here there same =
    let mine = member-at geometry entries clusters taken i one here in
    let yours = member-at geometry entries clusters taken j other there in
    let next = next-at geometry entries clusters taken j other there in
    let names : one.name ≡ other.name = name-read one mine.entry_is
    ∙ ap (before_first (λ byte. byte == 32)) same ∙ sym (name-read other yours.entry_is) in
    true≢false (sym ((bytes_eq-Decides one.name other.name).1 names)
    ∙ not-named (take j clusters) other.name i one next.name
    (there-in-take clusters j i one less here))

-- ---- the rules of a cluster are the same beside any others

over-any : (kind : EntryKind) → kind ≡ Cluster → (entry : CatEntry) (one other : Option CatEntry)
    → IsTrue (is_over_by kind entry one) → IsTrue (is_over_by kind entry other)
over-any Cluster same entry one other is = is
over-any Alternate same entry one other is = absurd (cc)
over-any Path same entry one other is = absurd (cc)

sizes-any : (kind : EntryKind) → kind ≡ Cluster → (geometry : Geometry) (entry : CatEntry)
    (one other : Option CatEntry) → IsTrue (has_sizes_by kind geometry entry one)
    → IsTrue (has_sizes_by kind geometry entry other)
sizes-any Cluster same geometry entry one other is = is
sizes-any Alternate same geometry entry one other is = absurd (cc)
sizes-any Path same geometry entry one other is = absurd (cc)

pub rules-any : (geometry : Geometry) (one other : List CatEntry) (entry : CatEntry)
    → entry.entry_kind ≡ Cluster → IsEntryOf geometry one entry → IsEntryOf geometry other entry
rules-any geometry one other entry kind rules = record {
  over = over-any entry.entry_kind kind entry (related_in one entry) (related_in other entry)
      rules.over;
  area = rules.area;
  sizes = sizes-any entry.entry_kind kind geometry entry (related_in one entry)
      (related_in other entry) rules.sizes;
}

-- ---- what an entry says of its sizes

and-second : (a b : Bool) → (a && b) ≡ true → b ≡ true
and-second true b is = is
and-second false b is = absurd (cc)

and-first : (a b : Bool) → (a && b) ≡ true → a ≡ true
and-first true b is = refl
and-first false b is = absurd (cc)

two-at-least : (n : ℕ) → not (nat_lt n 2) ≡ true → 2 ≤ n
two-at-least n is = grind (arith, nat_tests)

used-enough : (geometry : Geometry) (entry : CatEntry) (base : Option CatEntry) (area : AreaNo)
    → entry.entry_kind ≡ Cluster → entry.kind ≡ Some kinds.Keyed → entry.first_area ≡ Some area
    → IsTrue (has_sizes_by entry.entry_kind geometry entry base)
    → 2 ≤ intervals_used geometry entry.key_length
used-enough geometry entry base area kind organised laid sizes =
    let bad : Bool = is_bad_cluster geometry (definition_in entry) entry.average in
    let past : Bool = ends_past entry.key_length entry.key_offset entry.maximum in
    let cluster : (not past && (not bad && has_intervals_by geometry entry entry.kind)) ≡ true =
    subst (λ (k : EntryKind). IsTrue (has_sizes_by k geometry entry base)) kind sizes in
    let by-kind : has_intervals_by geometry entry entry.kind ≡ true =
    and-second (not bad) (has_intervals_by geometry entry entry.kind)
    (and-second (not past) (not bad && has_intervals_by geometry entry entry.kind) cluster) in
    let intervals : (is_none entry.first_area
    || not (nat_lt (intervals_used geometry entry.key_length) 2)) ≡ true =
    subst (λ (k : Option Kind). has_intervals_by geometry entry k ≡ true) organised by-kind in
    two-at-least (intervals_used geometry entry.key_length)
    (subst (λ (a : Option AreaNo). (is_none a
    || not (nat_lt (intervals_used geometry entry.key_length) 2)) ≡ true) laid intervals)

-- a cluster has records of some length
above-none : (average maximum : ℕ)
    → not (nat_lt maximum average || average == 0 || nat_lt 32760 maximum) ≡ true → 0 < maximum
above-none average maximum is = grind (arith, nat_tests)

first-of-both : (a b : Bool) → not (a || b) ≡ true → not a ≡ true
first-of-both true b is = is
first-of-both false b is = refl

some-records : (geometry : Geometry) (entry : CatEntry) (base : Option CatEntry)
    → entry.entry_kind ≡ Cluster
    → IsTrue (has_sizes_by entry.entry_kind geometry entry base) → 0 < entry.maximum
some-records geometry entry base kind sizes =
    let past : Bool = ends_past entry.key_length entry.key_offset entry.maximum in
    let bad : Bool = is_bad_cluster geometry (definition_in entry) entry.average in
    let few : Bool = has_intervals_by geometry entry entry.kind in
    let cluster : (not past && (not bad && few)) ≡ true =
    subst (λ (k : EntryKind). IsTrue (has_sizes_by k geometry entry base)) kind sizes in
    above-none entry.average entry.maximum
    (first-of-both (are_bad_sizes entry.average entry.maximum)
    (is_past_limit (definition_in entry).kind geometry (definition_in entry) entry.average)
    (and-first (not bad) few (and-second (not past) (not bad && few) cluster)))

of-kind : (entry : CatEntry) → IsTrue (is_entry entry)
    → is_of_kind entry.entry_kind entry ≡ true
unfolding is_entry
of-kind entry is = grind (arith, and_parts)

name-of : (entry : CatEntry) → IsTrue (is_entry entry) → is_name entry.name ≡ true
unfolding is_entry
name-of entry is = grind (arith, and_parts)

keys-of : (entry : CatEntry) → is_cluster entry ≡ true
    → are_keys_of entry.kind entry.key_length entry.key_offset ≡ true
keys-of entry is = grind (arith, and_parts)

-- the keys of a cluster are those of its kind
cluster-keys : (entry : CatEntry) → IsTrue (is_entry entry) → entry.entry_kind ≡ Cluster
    → are_keys_of entry.kind entry.key_length entry.key_offset ≡ true
cluster-keys entry is kind =
    keys-of entry (subst (λ (k : EntryKind). is_of_kind k entry ≡ true) kind (of-kind entry is))

-- it has a kind
no-kind : (entry : CatEntry) → IsTrue (is_entry entry) → entry.entry_kind ≡ Cluster
    → entry.kind ≡ None → ⊥
no-kind entry is kind none = true≢false (sym (cluster-keys entry is kind)
    ∙ ap (λ (k : Option Kind). are_keys_of k entry.key_length entry.key_offset) none)

some-keys : (kind : Option Kind) (key_length key_offset : ℕ) → kind ≡ Some kinds.Keyed
    → are_keys_of kind key_length key_offset ≡ true → 0 < key_length
some-keys None key_length key_offset same is = absurd (cc)
some-keys (Some kinds.Keyed) key_length key_offset same is = grind (arith, nat_tests, and_parts)
some-keys (Some kinds.Entry) key_length key_offset same is = absurd (cc)
some-keys (Some kinds.Relative) key_length key_offset same is = absurd (cc)

pub key-some : (entry : CatEntry) → IsTrue (is_entry entry) → entry.entry_kind ≡ Cluster
    → entry.kind ≡ Some kinds.Keyed → 0 < entry.key_length
key-some entry is kind organised =
    some-keys entry.kind entry.key_length entry.key_offset organised (cluster-keys entry is kind)

-- ---- the bytes of a place

fits-byte : (column byte : ℕ) → fits_column column byte ≡ true → byte < 256
fits-byte column byte fits = grind (arith, nat_tests)

fits-at : (text : List ℕ) (i : ℕ) → i < length text → is_right_at text i ≡ true
    → fits_column (column_at text i) (slice_index text i) ≡ true
fits-at text i within right = rw (lt-ltb i (length text) within) at right

name-bytes : (text : List ℕ) → is_name text ≡ true → All (λ (b : ℕ). b < 256) text
name-bytes text is = All-from_get_or (λ (b : ℕ). b < 256) text 0
    (λ i within. fits-byte (column_at text i) (slice_index text i)
    (fits-at text i within ((name_is_dataset text is).right i (omega (arith, within)))))

-- a record begins with its name and blanks
pub place-is : (geometry : Geometry) (entry : CatEntry)
    → key_of (catalog_area geometry) (spelling entry) ≡ padded 44 entry.name
unfolding spelling
place-is geometry entry =
    let name : List ℕ = padded 44 entry.name in
    let kinds-are : List ℕ = concat ((entry_kind_byte entry.entry_kind ∷ kind_byte entry.kind
    ∷ flag_byte entry ∷ 0 ∷ []) ∷ []) in
    let parts : List ℕ = name ++ kinds-are ++ concat (part_fields entry) in
    let spaces : List ℕ = parts ++ concat (space_fields entry) in
    let long : length name ≡ 44 = length-padded 44 entry.name in
    let first = length-append name kinds-are in
    let second = length-append (name ++ kinds-are) (concat (part_fields entry)) in
    let third = length-append parts (concat (space_fields entry)) in
    take-append-le 44 spaces (concat (name_fields entry))
    (omega (arith, long, first, second, third))
    ∙ take-append-le 44 parts (concat (space_fields entry)) (omega (arith, long, first, second))
    ∙ take-append-le 44 (name ++ kinds-are) (concat (part_fields entry))
    (omega (arith, long, first))
    ∙ take-append-le 44 name kinds-are (omega (arith, long))
    ∙ take_all 44 name (omega (arith, long))

padded-bytes : (size : ℕ) (text : List ℕ) → All (λ (b : ℕ). b < 256) text
    → All (λ (b : ℕ). b < 256) (padded size text)
unfolding padded
padded-bytes size text all = All-append (λ (b : ℕ). b < 256) (take size text)
    (replicate (size - length text) 32) (All-take (λ (b : ℕ). b < 256) size text all)
    (All-replicate (λ (b : ℕ). b < 256) (size - length text) 32 (omega arith))

pub place-within : (geometry : Geometry) (entry : CatEntry) → IsTrue (is_entry entry)
    → IsTrue (is_le (place_cmp (key_of (catalog_area geometry) (spelling entry))
    (replicate 44 255)))
place-within geometry entry is =
    subst (λ (p : List ℕ). is_le (place_cmp p (replicate 44 255)) ≡ true)
    (sym (place-is geometry entry))
    (most-place (padded 44 entry.name) 44 (length-padded 44 entry.name) bytes)
  where
    all : All (λ (b : ℕ). b < 256) (padded 44 entry.name)
    all = padded-bytes 44 entry.name (name-bytes entry.name (name-of entry is))

    bytes : (i : ℕ) → get_or (padded 44 entry.name) i 0 < 256
    bytes i = ⊎_elim
        (λ within. All-get_or (λ (b : ℕ). b < 256) (padded 44 entry.name) i 0 within all)
        (λ past. let none : get_or (padded 44 entry.name) i 0 ≡ 0 =
        get_or_past (padded 44 entry.name) i 0 past in omega (arith, none))
        (cases_lt i (length (padded 44 entry.name)))

-- ---- the part of a cluster

pub shape-is : (geometry : Geometry) (entry : CatEntry) (area : ℕ) → entry.entry_kind ≡ Cluster
    → entry.first_area ≡ Some (record { 0 = area })
    → shape_of geometry entry ≡ cluster_shape geometry area entry
shape-is geometry entry area kind laid =
    ap (λ (k : EntryKind). option_and_then
    (shape_from geometry entry.part.0 entry.first_area) (cluster_definition k entry)) kind
    ∙ ap (λ (a : Option AreaNo). shape_from geometry entry.part.0 a (definition_in entry)) laid

module _ (geometry : Geometry) (allowed : IsAllowed geometry) (clusters : List CatEntry)
    (cluster : CatEntry) (member : IsMember geometry clusters cluster) where
  pub number-is : cluster.part.0 ≡ member.at + 1
  number-is = omega (arith, member.next.number, member.count)

  may-be-keyed : cluster.kind ≡ Some kinds.Keyed → MayBeKeyed geometry cluster
  may-be-keyed organised = record {
    head = record {
      size = allowed.size;
      key = key-some cluster member.entry_is member.next.kind organised;
      used = omega (
        arith,
        used-enough geometry cluster (related_in (take member.at clusters) cluster)
            (record { 0 = length (take member.at clusters) + 1 }) member.next.kind organised
            member.next.laid member.next.rules.sizes,
      );
      number = omega (arith, member.next.number, member.next.room, allowed.size.most);
    };
    most = member.next.short;
  }

  may-be-numbered : MayBeNumbered geometry cluster
  may-be-numbered = record {
    some = some-records geometry cluster (related_in (take member.at clusters) cluster)
        member.next.kind member.next.rules.sizes;
    most = member.next.short;
  }

  organised-as : (kind : Option Kind) → cluster.kind ≡ kind
      → IsClusterOf geometry cluster (unwrap_or kind kinds.Keyed)
  organised-as None same =
      absurd (no-kind cluster member.entry_is member.next.kind same)
  organised-as (Some kinds.Keyed) same = may-be-keyed same
  organised-as (Some kinds.Entry) same = may-be-numbered
  organised-as (Some kinds.Relative) same = may-be-numbered

  pub is-cluster : IsCluster geometry cluster
  is-cluster =
      record { kind = member.next.kind; organised = organised-as cluster.kind refl }

  pub member-shape : shape_of geometry cluster ≡ cluster_shape geometry (member.at + 1) cluster
  member-shape = shape-is geometry cluster (member.at + 1) member.next.kind
      (member.next.laid
      ∙ ap (λ (n : ℕ). Some (record { 0 = n + 1 })) member.count)
