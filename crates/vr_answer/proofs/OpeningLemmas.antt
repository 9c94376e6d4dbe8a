-- What a file is on where no alternate index is built, and where all entries are of key-sequenced
-- clusters.
use Rattle.std.proofs.Common.{◌≡◌, ℕ, Bool, true, false, cond, ◌==◌, List, [], ◌∷◌, Option, Some}
use Rattle.std.proofs.Common.{None, inl, inr, refl, sym, ap, ◌∙◌, subst, filter, find, map, ◌&&◌}
use Rattle.std.proofs.Common.{fold}
use Rattle.std.specs.BTreeMap.{insert_entry}
use Rattle.std.specs.Ordering.{nat_cmp, match_ordering}
use Rattle.std.specs.declared.cmp.Ordering.{Ordering}
use Rattle.std.specs.declared.cmp.Ordering.TheVariants.{Less, Equal, Greater}
use Rattle.std.specs.List.{AllByRecursion, cons_option}
use Rattle.std.proofs.lemmas.Option.{none-some, same_Some}
use Rattle.std.specs.List.{filter_map}
use Rattle.std.specs.Option.{IfSome, option_and_then, option_map, option_map_or, is_none}
use Rattle.vr_catalog.specs.Catalog.{Alternate, alternate_from, alternate_in, alternates_over}
use Rattle.vr_catalog.specs.Catalog.{by_part, cluster_definition, definition_in as stated_in}
use Rattle.vr_catalog.specs.Catalog.{definition_of}
use Rattle.vr_catalog.specs.Catalog.{entry_with_part, is_over}
use Rattle.vr_catalog.specs.Definition.{catalog_definition}
use Rattle.vr_catalog.specs.declared.definition.Definition.{Definition}
use Rattle.vr_catalog.specs.declared.entry.CatEntry.{CatEntry}
use Rattle.vr_catalog.specs.declared.entry.EntryKind.{EntryKind}
use Rattle.vr_catalog.specs.declared.entry.EntryKind.TheVariants as EntryKinds
use Rattle.vr_types.specs.declared.request.FileRef.{FileRef}
use Rattle.vr_types.specs.declared.unit.Kind.{Kind}
use Rattle.vr_types.specs.declared.unit.Kind.TheVariants.{Keyed, Entry, Relative}
use Rattle.vr_types.specs.declared.unit.PartNo.{PartNo}
use Rattle.vr_history.specs.Case.{Case, file_of}
use Rattle.vr_history.specs.Opened.{Opened, Unknown, built_over, by_name, by_path}
use Rattle.vr_history.specs.Opened.{definition_in}
use Rattle.vr_history.specs.Change.{move_of, moves_at, moves_key, pair_moves, place_changed}
use Rattle.vr_history.specs.Opened.{base_of, catalog_of, opened, opened_base, opened_file}
use Rattle.vr_history.specs.State.{State}
use Rattle.vr_answer.specs.declared.case.Case.{Case as CaseInHand}
use Rattle.vr_answer.specs.InHand.{IsFileOf, whole}
use Rattle.vr_answer.specs.Opening.{as_opened, definition_here, reached}
use Rattle.vr_answer.specs.Numbered.{AreNumbersOf, IsNumbered, kind_of}
use Rattle.vr_answer.specs.Scope.{AreUnbuilt, AreKeyedClusters, HasNoneBuilt, HasKeyedAlone}
use Rattle.vr_answer.specs.Scope.{IsKeyedCluster, IsUnbuilt}

-- a choice between equals
if_same : {A : Type 0} (b : Bool) (x : A) → cond b x x ≡ x
if_same true x = refl
if_same false x = refl

-- an entry that isn't of a built alternate index gives none that is built
abbrev IsNotBuilt : Alternate → Type 0
IsNotBuilt alternate = alternate.built ≡ false

from_unbuilt : (kind : EntryKind) (entry : CatEntry)
    → (kind ≡ EntryKinds.Alternate → entry.built ≡ false)
    → IfSome (alternate_from kind entry) IsNotBuilt
from_unbuilt EntryKinds.Cluster entry is = tt
from_unbuilt EntryKinds.Alternate entry is = is refl
from_unbuilt EntryKinds.Path entry is = tt

if_over : (b : Bool) (o : Option Alternate) → IfSome o IsNotBuilt → IfSome (cond b o None) IsNotBuilt
if_over true o is = is
if_over false o is = tt

one_more : (o : Option Alternate) (alternates : List Alternate) → IfSome o IsNotBuilt
    → AllByRecursion IsNotBuilt alternates → AllByRecursion IsNotBuilt (cons_option o alternates)
one_more None alternates is are = are
one_more (Some alternate) alternates is are = (is, are)

all_unbuilt : (base : ℕ) (entries : List CatEntry) → AreUnbuilt entries
    → AllByRecursion IsNotBuilt (filter_map (alternate_in base) entries)
all_unbuilt base [] are = tt
all_unbuilt base (entry ∷ entries) are =
    one_more (alternate_in base entry) (filter_map (alternate_in base) entries)
    (if_over (is_over entry.related base) (alternate_from entry.entry_kind entry)
    (from_unbuilt entry.entry_kind entry are.0)) (all_unbuilt base entries are.1)

-- nor do they in the order of their part numbers
abbrev AreNotBuilt : List (ℕ × Alternate) → Type 0
AreNotBuilt pairs = AllByRecursion (λ (pair : ℕ × Alternate). IsNotBuilt pair.1) pairs

put_by_order : (order : Ordering) (pairs : List (ℕ × Alternate)) (pair : ℕ × Alternate)
    (alternate : Alternate) (further : List (ℕ × Alternate)) → AreNotBuilt (pair ∷ pairs)
    → IsNotBuilt alternate → AreNotBuilt further
    → AreNotBuilt (match_ordering order ((alternate.part, alternate) ∷ pair ∷ pairs)
    ((pair.0, alternate) ∷ pairs) (pair ∷ further))
put_by_order Less pairs pair alternate further are is more = (is, are)
put_by_order Equal pairs pair alternate further are is more = (is, are.1)
put_by_order Greater pairs pair alternate further are is more = (are.0, more)

put_unbuilt : (pairs : List (ℕ × Alternate)) (alternate : Alternate) → AreNotBuilt pairs
    → IsNotBuilt alternate → AreNotBuilt (insert_entry nat_cmp pairs alternate.part alternate)
put_unbuilt [] alternate are is = (is, tt)
put_unbuilt (pair ∷ pairs) alternate are is =
    put_by_order (nat_cmp alternate.part pair.0) pairs pair alternate
    (insert_entry nat_cmp pairs alternate.part alternate) are is
    (put_unbuilt pairs alternate are.1 is)

sorted_unbuilt : (pairs : List (ℕ × Alternate)) (alternates : List Alternate) → AreNotBuilt pairs
    → AllByRecursion IsNotBuilt alternates
    → AreNotBuilt (fold (λ sorted alternate. insert_entry nat_cmp sorted alternate.part alternate)
    pairs alternates)
sorted_unbuilt pairs [] are none = are
sorted_unbuilt pairs (alternate ∷ alternates) are none =
    sorted_unbuilt (insert_entry nat_cmp pairs alternate.part alternate) alternates
    (put_unbuilt pairs alternate are none.0) none.1

none_left : (pairs : List (ℕ × Alternate)) → AreNotBuilt pairs
    → filter (λ (alternate : Alternate). alternate.built)
    (map (λ (pair : ℕ × Alternate). pair.1) pairs) ≡ []
none_left [] are = refl
none_left (pair ∷ pairs) are =
    ap (λ (b : Bool). cond b (pair.1 ∷ filter (λ (alternate : Alternate). alternate.built)
    (map (λ (other : ℕ × Alternate). other.1) pairs))
    (filter (λ (alternate : Alternate). alternate.built)
    (map (λ (other : ℕ × Alternate). other.1) pairs))) are.0
    ∙ none_left pairs are.1

-- so that none over any part is built
pub built_none : (state : State) (base : ℕ) → HasNoneBuilt state → built_over state base ≡ []
built_none state base unbuilt =
    none_left (by_part (filter_map (alternate_in base) (catalog_of state)))
    (sorted_unbuilt [] (filter_map (alternate_in base) (catalog_of state)) tt
    (all_unbuilt base (catalog_of state) unbuilt))

-- clusters are no alternate indexes
cluster_unbuilt : (entry : CatEntry) → IsKeyedCluster entry → IsUnbuilt entry
cluster_unbuilt entry is = λ alternate. absurd (no_alternate (sym is.0 ∙ alternate))
  where
    no_alternate : EntryKinds.Cluster ≡ EntryKinds.Alternate → ⊥
    no_alternate same = cc

pub keyed_are : (entries : List CatEntry) → AreKeyedClusters entries → AreUnbuilt entries
keyed_are [] are = tt
keyed_are (entry ∷ entries) are = (cluster_unbuilt entry are.0, keyed_are entries are.1)

pub keyed_alone : (state : State) → HasKeyedAlone state → HasNoneBuilt state
keyed_alone state keyed = keyed_are (catalog_of state) keyed

-- each of them is key-sequenced
keyed_entry : (entry : CatEntry) (kind : EntryKind) (definition : Definition)
    → IsKeyedCluster entry → cluster_definition kind entry ≡ Some definition
    → definition.kind ≡ Keyed
keyed_entry entry EntryKinds.Cluster definition is there =
    ap (λ (d : Definition). d.kind) (sym (same_Some (stated_in entry) definition there)) ∙ is.1
keyed_entry entry EntryKinds.Alternate definition is there = absurd (none-some definition there)
keyed_entry entry EntryKinds.Path definition is there = absurd (none-some definition there)

first_or : (first : CatEntry) (others : Option CatEntry) (entry : CatEntry) → IsKeyedCluster first
    → (others ≡ Some entry → IsKeyedCluster entry) → (b : Bool)
    → cond b (Some first) others ≡ Some entry → IsKeyedCluster entry
first_or first others entry is further true there = subst IsKeyedCluster (same_Some first entry there)
    is
first_or first others entry is further false there = further there

keyed_found : (test : CatEntry → Bool) (entries : List CatEntry) → AreKeyedClusters entries
    → (entry : CatEntry) → find test entries ≡ Some entry → IsKeyedCluster entry
keyed_found test [] are entry there = absurd (none-some entry there)
keyed_found test (first ∷ entries) are entry there =
    first_or first (find test entries) entry are.0 (keyed_found test entries are.1 entry)
    (test first) there

keyed_through : (o : Option CatEntry) → ((entry : CatEntry) → o ≡ Some entry → IsKeyedCluster entry)
    → (definition : Definition)
    → option_and_then (λ entry. cluster_definition entry.entry_kind entry) o ≡ Some definition
    → definition.kind ≡ Keyed
keyed_through None each definition there = absurd (none-some definition there)
keyed_through (Some entry) each definition there =
    keyed_entry entry entry.entry_kind definition (each entry refl) there

pub definition_keyed : (entries : List CatEntry) (part : ℕ) (definition : Definition)
    → AreKeyedClusters entries → definition_of entries part ≡ Some definition
    → definition.kind ≡ Keyed
definition_keyed entries part definition are there = by_zero (part == 0) there
  where
    by_zero : (b : Bool) → cond b (Some catalog_definition)
        (option_and_then (λ entry. cluster_definition entry.entry_kind entry)
        (entry_with_part entries part)) ≡ Some definition
        → definition.kind ≡ Keyed
    by_zero true there = ap (λ (d : Definition). d.kind)
        (sym (same_Some catalog_definition definition there))
    by_zero false there = keyed_through (entry_with_part entries part)
        (λ entry found. keyed_found (λ entry. entry.part.0 == part) entries are entry found)
        definition there

-- a file reaches what the record file says that it is on
module _ (state : State) (unbuilt : HasNoneBuilt state) (file : FileRef) where
  by_no_path : (path : Option PartNo) (definition : Definition)
      → by_name state file.base.0 path definition ≡ as_opened (cond (is_none path) (Some definition)
      None)
  by_no_path None definition = refl
  by_no_path (Some path) definition = ap
      (λ (l : List Alternate). by_path definition (find
      (λ alternate. alternate.part == path.0) l)) (built_none state file.base.0 unbuilt)

  on_base : (o : Option Definition)
      → opened_base state file o ≡ as_opened (cond (is_none file.path) o None)
  on_base None = sym (ap as_opened (if_same (is_none file.path) None))
  on_base (Some definition) = by_no_path file.path definition

  by_known : (known : Bool) (o : Option Definition)
      → cond known (opened_base state file o) Unknown
      ≡ as_opened (cond (known && is_none file.path) o None)
  by_known true o = on_base o
  by_known false o = refl

  file_reached : opened_file state file ≡ as_opened (reached (catalog_of state) file)
  file_reached = by_known file.known (definition_of (catalog_of state) file.base.0)

by_file : (state : State) → HasNoneBuilt state → (o : Option FileRef)
    → option_map_or (opened_file state) o Unknown
    ≡ as_opened (option_and_then (reached (catalog_of state)) o)
by_file state unbuilt None = refl
by_file state unbuilt (Some file) = file_reached state unbuilt file

pub opened_is : (case : CaseInHand) (state : State) → IsFileOf case state
    → opened (whole case state) ≡ as_opened (definition_here case)
opened_is case state is =
    by_file state is.unbuilt (file_of case.request.now)
    ∙ ap
    (λ (entries : List CatEntry). as_opened (option_and_then (reached entries)
    (file_of case.request.now))) (sym is.catalog)

-- what it reaches is key-sequenced
abbrev pub IsKeyed : Option Definition → Type 0
IsKeyed None = Unit {0}
IsKeyed (Some definition) = definition.kind ≡ Keyed

keyed_if : (o : Option Definition)
    → ((definition : Definition) → o ≡ Some definition → definition.kind ≡ Keyed) → IsKeyed o
keyed_if None each = tt
keyed_if (Some definition) each = each definition refl

keyed_cond : (b : Bool) (o : Option Definition) → IsKeyed o → IsKeyed (cond b o None)
keyed_cond true o is = is
keyed_cond false o is = tt

keyed_by_file : (entries : List CatEntry) → AreKeyedClusters entries → (o : Option FileRef)
    → IsKeyed (option_and_then (reached entries) o)
keyed_by_file entries are None = tt
keyed_by_file entries are (Some file) =
    keyed_cond (file.known && is_none file.path) (definition_of entries file.base.0)
    (keyed_if (definition_of entries file.base.0)
    (λ definition there. definition_keyed entries file.base.0 definition are there))

pub keyed_here : (case : CaseInHand) (state : State) → IsFileOf case state
    → HasKeyedAlone state → IsKeyed (definition_here case)
keyed_here case state is keyed =
    keyed_by_file case.catalog.now (subst AreKeyedClusters (sym is.catalog) keyed)
    (file_of case.request.now)

-- the kind of what a file is on
abbrev pub kind_in : Opened → Option Kind
kind_in opened = option_map (λ definition. definition.kind) (definition_in opened)

not_some : (kind : Kind) (o : Option Definition) → IsKeyed o
    → kind_in (as_opened o) ≡ Some kind → kind ≡ Keyed
not_some kind None is there = absurd (none-some kind there)
not_some kind (Some definition) is there = sym (same_Some definition.kind kind there) ∙ is

file_keyed : (state : State) → HasKeyedAlone state → (o : Option FileRef) (kind : Kind)
    → kind_in (option_map_or (opened_file state) o Unknown) ≡ Some kind → kind ≡ Keyed
file_keyed state keyed o kind there =
    not_some kind (option_and_then (reached (catalog_of state)) o)
    (keyed_by_file (catalog_of state) keyed o)
    (sym (ap kind_in (by_file state (keyed_alone state keyed) o)) ∙ there)

-- the data set of a request is key-sequenced, so that its places aren't numbers
pub kind_keyed : (case : Case) → HasKeyedAlone case.state → (kind : Kind)
    → kind_of case ≡ Some kind → kind ≡ Keyed
kind_keyed case keyed kind there =
    file_keyed case.state keyed (file_of case.request) kind there

not_numbered : (case : Case) → HasKeyedAlone case.state → IsNumbered (kind_of case) → ⊥
not_numbered case keyed is = elim is [
  | inl entry ↦ cc (kind_keyed case keyed Entry entry)
  | inr relative ↦ cc (kind_keyed case keyed Relative relative)
]

-- so that whatever is handed in of numbers is right
pub numbers_keyed : (case : Case) → HasKeyedAlone case.state → (given : Option (List ℕ))
    → (count : ℕ) → AreNumbersOf given count case
numbers_keyed case keyed given count = record {
  address = λ entry. absurd (not_numbered case keyed (inl entry));
  areas = λ numbered. absurd (not_numbered case keyed numbered);
}

-- no pair of an alternate index moves
pub moves_none : (case : Case) → HasNoneBuilt case.state → pair_moves case ≡ []
moves_none case unbuilt = by_place (place_changed case)
  where
    by_place : (o : Option (List ℕ)) → option_map_or (moves_at case) o [] ≡ []
    by_place None = refl
    by_place (Some place) =
        ap (λ (l : List Alternate). filter moves_key (map (move_of case place) l))
        (built_none case.state (base_of case) unbuilt)
