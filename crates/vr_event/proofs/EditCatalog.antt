-- The catalog with all changes of an edit: its entries and its rules, and that the store, which makes
-- them in an order of its own, leaves the same.
use Rattle.std.proofs.Common.{◌≡◌, ◌≢◌, ◌∙◌, ◌==◌, ℕ, Bool, true, false, IsTrue, List, [], ◌∷◌, All}
use Rattle.std.proofs.Common.{Option, Some, None, refl, sym, ap, subst, if◌then◌else◌, map, nat_eq}
use Rattle.std.proofs.Common.{true≢false}
use Rattle.std.specs.Prelude.{bytes_eq, is_some, option_map}
use Rattle.std.specs.List.{AllByRecursion, IsDistinct}
use Rattle.std.proofs.lemmas.List.Elements.{All-from_recursion}
use Rattle.std.proofs.lemmas.Slice.Eq.{bytes_eq-Decides}
use Rattle.vr_types.specs.Content.{Ascends, Content, Item, Standing, item_at, records_of, with_item}
use Rattle.vr_types.specs.Content.{without_item}
use Rattle.vr_types.specs.declared.geometry.Geometry.{Geometry}
use Rattle.vr_altkey.specs.Placing.{placed_in}
use Rattle.vr_altkey.proofs.CallerLemmas.{placed_ascends, placed_elsewhere, placed_here, same_items}
use Rattle.vr_attach.specs.CatalogRules.{IsCatalog, IsEntryOf}
use Rattle.vr_catalog.specs.Catalog.{entries_in, parts_in}
use Rattle.vr_catalog.specs.Entry.{is_entry}
use Rattle.vr_catalog.specs.Record.{entry_of, spelling}
use Rattle.vr_catalog.specs.declared.entry.CatEntry.{CatEntry}
use Rattle.vr_edits.specs.Edits.{IsEntryThere, IsInOrder, MayEdit, edited, entry_place, with_entry}
use Rattle.vr_edits.specs.Edits.{without_entries}
use Rattle.vr_edits.specs.declared.edit.CatalogEdit.{CatalogEdit}
use Rattle.vr_edits.specs.declared.edit.CatalogEdit.TheVariants.{Add, Alter, Delete, Rename}
use Rattle.vr_edits.proofs.CallerLemmas.{by-recursion, order-kept}
use Rattle.vr_edits.proofs.CallerLemmas.{distinct-without}
use Rattle.vr_history.specs.Effects.{with_change}
use Rattle.vr_record_file.specs.CatalogEdit.{AreApart, RecordChange, change_made, with_records}
use Rattle.vr_volume.specs.EntryChanges.{with_changes}
use Rattle.vr_event.specs.CatalogEdit.{changes_of, record_added, record_gone}
use Rattle.vr_event.specs.PreparedEdit.{store_change, store_order}
use Rattle.vr_event.proofs.ClusterCatalogs.{entries-with, named-with, spelled-named}
use Rattle.vr_event.proofs.ClusterRecords.{IsNamed}
use Rattle.vr_event.proofs.EditContents.{entries-altered, entries-without, named-altered}
use Rattle.vr_event.proofs.EditContents.{named-without, new-place}
use Rattle.vr_event.proofs.EditRecords.{changes-apart, changes-stand}

-- ---- one after another

-- the catalog's content with a change, and with all of them
abbrev pub put : RecordChange → Content → Content
put change content = placed_in change.place (option_map Standing change.new) content

abbrev pub put_all : List RecordChange → Content → Content
put_all [] content = content
put_all (change ∷ changes) content = put_all changes (put change content)

pub records-at : (changes : List RecordChange) (contents : ℕ → Content)
    → with_records changes contents 0 ≡ put_all changes (contents 0)
records-at [] contents = refl
records-at (change ∷ changes) contents =
    records-at changes (with_change (change_made change) contents)

-- other parts have what they had
pub records-others : (changes : List RecordChange) (contents : ℕ → Content) (part : ℕ)
    → (part == 0) ≡ false → with_records changes contents part ≡ contents part
records-others [] contents part other = refl
records-others (change ∷ changes) contents part other =
    records-others changes (with_change (change_made change) contents) part other
    ∙ ap (λ (b : Bool). if b then put change (contents part) else contents part) other

-- ---- the entries

-- a content of the catalog
pub record IsOfCatalog (content : Content) : Type 0 where
  pub named : AllByRecursion IsNamed content
  pub ascends : Ascends content
  pub distinct : IsDistinct nat_eq (0 ∷ parts_in (entries_in content))

-- one that has these entries
pub record HasEntries (entries : List CatEntry) (content : Content) : Type 0 where
  pub are : entries_in content ≡ entries
  pub named : AllByRecursion IsNamed content
  pub ascends : Ascends content

abbrev IsThere : Content → CatEntry → Type 0
IsThere content entry = item_at content (entry_place entry) ≡ Some (Standing (spelling entry))

-- without an entry
one-gone : (entry : CatEntry) → IsTrue (is_entry entry) → (content : Content) → IsOfCatalog content
    → IsThere content entry
    → entries_in (put (record_gone entry) content) ≡ without_entries (entry ∷ []) (entries_in content)
unfolding IsDistinct
one-gone entry is content of there =
    entries-without entry is content of.named of.ascends of.distinct.1 there

rest-of : (entry : CatEntry) → IsTrue (is_entry entry) → (content : Content) → IsOfCatalog content
    → IsThere content entry → IsOfCatalog (put (record_gone entry) content)
rest-of entry is content of there = record {
  named = named-without entry is content of.named;
  ascends = placed_ascends (entry_place entry) None content of.ascends;
  distinct = subst (λ (entries : List CatEntry). IsDistinct nat_eq (0 ∷ parts_in entries))
      (sym (one-gone entry is content of there))
      (distinct-without entry (entries_in content) of.distinct);
}

-- what stands elsewhere stays
stands-still : (place : List ℕ) (item : Option Item) (content : Content)
    (changes : List RecordChange)
    → AllByRecursion (λ (other : RecordChange). other.place ≢ place) changes
    → AllByRecursion (λ (change : RecordChange). item_at content change.place
    ≡ option_map Standing change.old) changes
    → AllByRecursion (λ (change : RecordChange). item_at (placed_in place item content) change.place
    ≡ option_map Standing change.old) changes
stands-still place item content [] apart stand = tt
stands-still place item content (change ∷ changes) apart stand = (
  placed_elsewhere place item content change.place apart.0 ∙ stand.0,
  stands-still place item content changes apart.1 stand.1,
)

all-gone : (gone : List CatEntry) (content : Content) → IsOfCatalog content
    → AllByRecursion (λ (entry : CatEntry). IsTrue (is_entry entry)) gone
    → AllByRecursion (λ (change : RecordChange). item_at content change.place
    ≡ option_map Standing change.old) (map record_gone gone)
    → AreApart (map record_gone gone)
    → HasEntries (without_entries gone (entries_in content)) (put_all (map record_gone gone) content)
all-gone [] content of all stand apart =
    record { are = refl; named = of.named; ascends = of.ascends }
all-gone (entry ∷ gone) content of all stand apart =
    let rest = all-gone gone (put (record_gone entry) content)
    (rest-of entry all.0 content of stand.0) all.1
    (stands-still (entry_place entry) None content (map record_gone gone) apart.0 stand.1)
    apart.1 in
    record {
      are = rest.are ∙ ap (without_entries gone) (one-gone entry all.0 content of stand.0);
      named = rest.named;
      ascends = rest.ascends;
    }

-- with one more
one-added : (new : CatEntry) → IsTrue (is_entry new) → (content : Content)
    → AllByRecursion IsNamed content → Ascends content → item_at content (entry_place new) ≡ None
    → HasEntries (with_entry new (entries_in content)) (put (record_added new) content)
one-added new is content named ascends absent = record {
  are = entries-with new is content named absent;
  named = named-with new is content named;
  ascends = placed_ascends (entry_place new) (Some (Standing (spelling new))) content ascends;
}

module _ (geometry : Geometry) (content : Content) (of : IsOfCatalog content) where
  entries : List CatEntry
  entries = entries_in content

  pub content-edited : (edit : CatalogEdit) → MayEdit geometry (entries_in content) edit
      → HasEntries (edited edit (entries_in content)) (put_all (changes_of edit) content)
  unfolding IsDistinct
  content-edited (Alter entry new) may =
      let there = (changes-stand content of.named of.ascends geometry (Alter entry new) may).0 in
      record {
        are = entries-altered entry may.there.entry_is (entries_in content) new may content of.named
            of.ascends of.distinct.1 there;
        named = named-altered entry may.there.entry_is (entries_in content) new may content of.named;
        ascends = placed_ascends (entry_place entry) (Some (Standing (spelling new))) content
            of.ascends;
      }
  content-edited (Rename entry new) may =
      let stand = changes-stand content of.named of.ascends geometry (Rename entry new) may in
      let apart = changes-apart geometry (entries_in content) (Rename entry new) may in
      let is = may.there.entry_is in
      let rest = rest-of entry is content of stand.0 in
      let more = one-added new may.entry_is (put (record_gone entry) content) rest.named
      rest.ascends
      (placed_elsewhere (entry_place entry) None content (entry_place new) apart.0.0
      ∙ stand.1.0) in
      record {
        are = more.are ∙ ap (with_entry new) (one-gone entry is content of stand.0);
        named = more.named;
        ascends = more.ascends;
      }
  content-edited (Delete gone) may = all-gone gone content of (each gone
      (by-recursion (IsEntryThere (entries_in content)) gone may.there))
      (changes-stand content of.named of.ascends geometry (Delete gone) may)
      (changes-apart geometry (entries_in content) (Delete gone) may)
    where
      each : (gone : List CatEntry) → AllByRecursion (IsEntryThere (entries_in content)) gone
          → AllByRecursion (λ (entry : CatEntry). IsTrue (is_entry entry)) gone
      each [] all = tt
      each (entry ∷ gone) all = (all.0.entry_is, each gone all.1)
  content-edited (Add new) may = one-added new may.entry_is content of.named of.ascends
      (changes-stand content of.named of.ascends geometry (Add new) may).0

  -- and it keeps the rules
  pub catalog-edited : (edit : CatalogEdit) → MayEdit geometry (entries_in content) edit
      → IsCatalog geometry content → IsCatalog geometry (put_all (changes_of edit) content)
  catalog-edited edit may catalog =
      let has = content-edited edit may in
      let order : IsInOrder geometry (entries_in content) =
      record { parts = catalog.parts; each = catalog.entries } in
      let kept = order-kept geometry (entries_in content) edit may order in
      let after = put_all (changes_of edit) content in
      record {
        spelled = All-from_recursion (λ (placed : List ℕ × List ℕ).
            IsTrue (is_some (entry_of placed.1))) (records_of after)
            (spelled-named after has.named);
        parts = subst (λ (them : List CatEntry). IsDistinct nat_eq (0 ∷ parts_in them))
            (sym has.are) kept.parts;
        entries = subst (λ (them : List CatEntry). All (IsEntryOf geometry them) them)
            (sym has.are) kept.each;
      }

-- ---- by the store

same-order : (changes : List RecordChange) (contents : ℕ → Content) (part : ℕ)
    → with_changes (map store_change changes) contents part ≡ with_records changes contents part
same-order [] contents part = refl
same-order (change ∷ changes) contents part =
    same-order changes (with_change (change_made change) contents) part

-- items at two places may be put in either order
module _ (one other : List ℕ) (item that : Option Item) (content : Content)
    (ascends : Ascends content) (apart : other ≢ one) where
  abbrev first : Content
  first = placed_in other that (placed_in one item content)

  abbrev second : Content
  second = placed_in one item (placed_in other that content)

  at-one : item_at first one ≡ item_at second one
  at-one = placed_elsewhere other that (placed_in one item content) one (λ same. apart (sym same))
      ∙ placed_here one item content
      ∙ sym (placed_here one item (placed_in other that content))

  at-other : item_at first other ≡ item_at second other
  at-other = placed_here other that (placed_in one item content)
      ∙ sym (placed_elsewhere one item (placed_in other that content) other apart
      ∙ placed_here other that content)

  elsewhere : (place : List ℕ) → place ≢ one → place ≢ other
      → item_at first place ≡ item_at second place
  elsewhere place here there =
      placed_elsewhere other that (placed_in one item content) place there
      ∙ placed_elsewhere one item content place here
      ∙ sym (placed_elsewhere one item (placed_in other that content) place here
      ∙ placed_elsewhere other that content place there)

  anywhere : (place : List ℕ) → item_at first place ≡ item_at second place
  anywhere place = by-tests (bytes_eq place one) (bytes_eq place other) refl refl
    where
      by-tests : (here there : Bool) → bytes_eq place one ≡ here → bytes_eq place other ≡ there
          → item_at first place ≡ item_at second place
      by-tests true there is at = subst (λ (q : List ℕ). item_at first q ≡ item_at second q)
          (sym ((bytes_eq-Decides place one).0 is)) at-one
      by-tests false true is at = subst (λ (q : List ℕ). item_at first q ≡ item_at second q)
          (sym ((bytes_eq-Decides place other).0 at)) at-other
      by-tests false false is at = elsewhere place
          (λ same. true≢false (sym ((bytes_eq-Decides place one).1 same) ∙ is))
          (λ same. true≢false (sym ((bytes_eq-Decides place other).1 same) ∙ at))

  pub either-order : first ≡ second
  either-order = same_items first second
      (placed_ascends other that (placed_in one item content)
      (placed_ascends one item content ascends))
      (placed_ascends one item (placed_in other that content)
      (placed_ascends other that content ascends)) anywhere

pub store-contents : (contents : ℕ → Content) → ((part : ℕ) → Ascends (contents part))
    → (edit : CatalogEdit) → AreApart (changes_of edit) → (part : ℕ)
    → with_changes (map store_change (store_order edit)) contents part
    ≡ with_records (changes_of edit) contents part
store-contents contents ascends (Alter entry new) apart part =
    same-order (changes_of (Alter entry new)) contents part
store-contents contents ascends (Rename entry new) apart part = by-test (part == 0)
  where
    added : Content → Content
    added = put (record_added new)

    gone : Content → Content
    gone = put (record_gone entry)

    by-test : (b : Bool)
        → (if b then gone (if b then added (contents part) else contents part)
        else (if b then added (contents part) else contents part))
        ≡ (if b then added (if b then gone (contents part) else contents part)
        else (if b then gone (contents part) else contents part))
    by-test true = sym (either-order (entry_place entry) (entry_place new) None
        (Some (Standing (spelling new))) (contents part) (ascends part) apart.0.0)
    by-test false = refl
store-contents contents ascends (Delete gone) apart part =
    same-order (changes_of (Delete gone)) contents part
store-contents contents ascends (Add new) apart part =
    same-order (changes_of (Add new)) contents part
