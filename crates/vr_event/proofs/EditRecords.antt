-- The records that an edit changes: their places and lengths, what the log takes of them, what stands
-- there before, and that no two are of one place.
use Rattle.std.proofs.Common.{◌≡◌, ◌≢◌, ◌∙◌, ◌+◌, ◌*◌, ◌<◌, ◌≤◌, ◌==◌, ◌||◌, ℕ, Bool, true, false, cond, IsTrue}
use Rattle.std.proofs.Common.{List, [], ◌∷◌, Option, Some, None, refl, sym, ap, subst, arith, length}
use Rattle.std.proofs.Common.{All, map, nat_eq, true≢false}
use Rattle.std.specs.Prelude.{IfSome, option_and_then, option_map, sum}
use Rattle.std.specs.List.{AllByRecursion, AllZip, IsDistinct, find}
use Rattle.std.specs.Option.{option_map_or}
use Rattle.std.proofs.lemmas.Bool.Decides.{nat_tests}
use Rattle.std.proofs.lemmas.List.Elements.{All-head, All-tail}
use Rattle.std.proofs.lemmas.List.Sums.{sum-map, sum_by-cons}
use Rattle.std.proofs.lemmas.Option.{none-some, same_Some}
use Rattle.vr_types.specs.Content.{Ascends, Content, Standing, item_at}
use Rattle.vr_types.specs.LogSpace.{before_length, end_length}
use Rattle.vr_types.specs.declared.geometry.Geometry.{Geometry}
use Rattle.vr_types.specs.declared.unit.Kind.TheVariants.{Keyed}
use Rattle.vr_types.specs.declared.unit.PartNo.{PartNo}
use Rattle.vr_catalog.specs.Catalog.{entries_in, entry_named, entry_with_part, parts_in}
use Rattle.vr_catalog.specs.Definition.{catalog_definition, is_valid_length, is_valid_record, key_of}
use Rattle.vr_catalog.specs.Entry.{is_entry}
use Rattle.vr_catalog.specs.Record.{entry_of, padded, spelling}
use Rattle.vr_catalog.specs.declared.entry.CatEntry.{CatEntry}
use Rattle.vr_catalog.proofs.RecordLemmas.{length-spelling}
use Rattle.vr_edits.specs.Edits.{IsEntryThere, IsServedEntry, IsUnbuilt, MayAdd, MayAlter, MayEdit}
use Rattle.vr_edits.specs.Edits.{MayRename, entry_place, goes, is_cluster_entry, part_gone}
use Rattle.vr_edits.specs.declared.edit.CatalogEdit.{CatalogEdit}
use Rattle.vr_edits.specs.declared.edit.CatalogEdit.TheVariants.{Add, Alter, Delete, Rename}
use Rattle.vr_edits.proofs.CallerLemmas.{all-found, by-recursion, numbered}
use Rattle.vr_record_file.specs.CatalogEdit.{AreApart, GivesUnbuilt, IsStepOf, RecordChange}
use Rattle.vr_record_file.specs.CatalogEdit.{need_of, need_to_edit}
use Rattle.vr_event.specs.CatalogEdit.{changes_of, log_for_edit, record_added, record_changed}
use Rattle.vr_event.specs.CatalogEdit.{record_gone, step_for}
use Rattle.vr_event.specs.Defining.{catalog_file}
use Rattle.vr_event.specs.PreparedEdit.{store_change, store_order}
use Rattle.vr_event.specs.Volume.{AreServed}
use Rattle.vr_event.proofs.ClusterCatalogs.{none-at}
use Rattle.vr_event.proofs.ClusterRecords.{IsNamed, one-name, place-length, place-padded}
use Rattle.vr_event.proofs.ClusterRecords.{record-spells}
use Rattle.vr_event.proofs.EditContents.{entry-stands}
use Rattle.vr_event.proofs.NewClusters.{same-self}

-- ---- an entry of an edit

pub some-entry : (geometry : Geometry) (entries : List CatEntry) (edit : CatalogEdit)
    → MayEdit geometry entries edit → CatEntry
some-entry geometry entries (Alter entry new) may = entry
some-entry geometry entries (Rename entry new) may = new
some-entry geometry entries (Delete []) may = absurd (may.some refl)
some-entry geometry entries (Delete (entry ∷ gone)) may = entry
some-entry geometry entries (Add new) may = new

-- at most 65,535 records are changed
pub few-changes : (geometry : Geometry) (entries : List CatEntry) (edit : CatalogEdit)
    → MayEdit geometry entries edit → length (changes_of edit) < 65536
few-changes geometry entries (Alter entry new) may = omega arith
few-changes geometry entries (Rename entry new) may = omega arith
few-changes geometry entries (Delete gone) may = omega (arith, may.few, as-many gone)
  where
    as-many : (gone : List CatEntry) → length (map record_gone gone) ≡ length gone
    as-many [] = refl
    as-many (entry ∷ gone) = omega (arith, as-many gone)
few-changes geometry entries (Add new) may = omega arith

pub some-changes : (geometry : Geometry) (entries : List CatEntry) (edit : CatalogEdit)
    → MayEdit geometry entries edit → changes_of edit ≢ []
some-changes geometry entries (Alter entry new) may none = cc
some-changes geometry entries (Rename entry new) may none = cc
some-changes geometry entries (Delete []) may none = may.some refl
some-changes geometry entries (Delete (entry ∷ gone)) may none = cc
some-changes geometry entries (Add new) may none = cc

-- ---- places and lengths

-- a record stands at its key, and is as long as all of the catalog
abbrev pub IsRecordAt : List ℕ → List ℕ → Type 0
IsRecordAt place bytes = (key_of catalog_definition bytes ≡ place) × (length bytes ≡ 204)

pub record IsKeyed (change : RecordChange) : Type 0 where
  pub long : length change.place ≡ 44
  pub old : IfSome change.old (IsRecordAt change.place)
  pub new : IfSome change.new (IsRecordAt change.place)
  pub some : change.old ≡ None → change.new ≢ None

keyed-gone : (entry : CatEntry) → IsKeyed (record_gone entry)
keyed-gone entry = record {
  long = place-length entry;
  old = (refl, length-spelling entry);
  new = tt;
  some = λ none. absurd (none-some (spelling entry) (sym none));
}

keyed-added : (new : CatEntry) → IsKeyed (record_added new)
keyed-added new = record {
  long = place-length new;
  old = tt;
  new = (refl, length-spelling new);
  some = λ none other. none-some (spelling new) (sym other);
}

-- an entry that is altered keeps its name
pub same-place : (entries : List CatEntry) (entry new : CatEntry) → MayAlter entries entry new
    → entry_place new ≡ entry_place entry
same-place entries entry new may = place-padded new
    ∙ ap (λ (one : CatEntry). padded 44 one.name) may.alike ∙ sym (place-padded entry)

keyed-altered : (entries : List CatEntry) (entry new : CatEntry) → MayAlter entries entry new
    → IsKeyed (record_changed entry (Some new))
keyed-altered entries entry new may = record {
  long = place-length entry;
  old = (refl, length-spelling entry);
  new = (same-place entries entry new may, length-spelling new);
  some = λ none. absurd (none-some (spelling entry) (sym none));
}

pub changes-keyed : (geometry : Geometry) (entries : List CatEntry) (edit : CatalogEdit)
    → MayEdit geometry entries edit → AllByRecursion IsKeyed (changes_of edit)
changes-keyed geometry entries (Alter entry new) may = (keyed-altered entries entry new may, tt)
changes-keyed geometry entries (Rename entry new) may =
    (keyed-gone entry, (keyed-added new, tt))
changes-keyed geometry entries (Delete gone) may = each gone
  where
    each : (gone : List CatEntry) → AllByRecursion IsKeyed (map record_gone gone)
    each [] = tt
    each (entry ∷ gone) = (keyed-gone entry, each gone)
changes-keyed geometry entries (Add new) may = (keyed-added new, tt)

-- so the requests are those of the changes
key-valid : (bytes : List ℕ) → length bytes ≡ 204
    → is_valid_record catalog_definition bytes ≡ true
key-valid bytes long = ap (is_valid_length Keyed catalog_definition) long

step-is : (volume : ℕ) (change : RecordChange) → IsKeyed change
    → IsStepOf (catalog_file volume) (step_for volume change) change
step-is volume change keyed = of change.place change.old change.new keyed.long keyed.new keyed.some
  where
    valid : (place : List ℕ) (new : Option (List ℕ)) → IfSome new (IsRecordAt place)
        → IfSome new (λ bytes. is_valid_record catalog_definition bytes ≡ true)
    valid place None at = tt
    valid place (Some bytes) at = key-valid bytes at.1

    keeps : (place : List ℕ) (new : Option (List ℕ)) → IfSome new (IsRecordAt place)
        → IfSome new (λ bytes. key_of catalog_definition bytes ≡ place)
    keeps place None at = tt
    keeps place (Some bytes) at = at.0

    of : (place : List ℕ) (old new : Option (List ℕ)) → length place ≡ 44
        → IfSome new (IsRecordAt place) → (old ≡ None → new ≢ None)
        → IsStepOf (catalog_file volume)
        (step_for volume (record { place = place; old = old; new = new }))
        (record { place = place; old = old; new = new })
    of place (Some before) new long at some = record {
      got_is = refl;
      changed_is = refl;
      shown_is = refl;
      get_is = refl;
      change_is = refl;
      key_length = long;
      valid = valid place new at;
      keeps_key = keeps place new at;
    }
    of place None (Some bytes) long at some = record {
      added_is = refl;
      old_is = refl;
      bytes = bytes;
      new_is = refl;
      add_is = refl;
      valid = key-valid bytes at.1;
      key_is = at.0;
    }
    of place None None long at some = absurd (some refl refl)

pub steps-are : (volume : ℕ) (changes : List RecordChange) → AllByRecursion IsKeyed changes
    → AllZip (IsStepOf (catalog_file volume)) (map (step_for volume) changes) changes
steps-are volume [] all = tt
steps-are volume (change ∷ changes) all =
    (step-is volume change all.0, steps-are volume changes all.1)

-- ---- the log

pub sum-more : (change : RecordChange) (changes : List RecordChange)
    → sum (map need_of (change ∷ changes)) ≡ need_of change + sum (map need_of changes)
sum-more change changes = sum-map need_of (change ∷ changes) ∙ sum_by-cons need_of change changes
    ∙ ap (λ (n : ℕ). need_of change + n) (sym (sum-map need_of changes))

gone-need : (entry : CatEntry) → need_of (record_gone entry) ≡ 268
gone-need entry = omega (arith, place-length entry, length-spelling entry)

added-need : (new : CatEntry) → need_of (record_added new) ≡ 64
added-need new = omega (arith, place-length new)

altered-need : (entry new : CatEntry) → need_of (record_changed entry (Some new)) ≡ 268
altered-need entry new = omega (arith, place-length entry, length-spelling entry)

pub log-altered : (edit : CatalogEdit) (entry new : CatEntry) → edit ≡ Alter entry new
    → 277 ≡ log_for_edit edit
log-altered edit entry new is = sym (ap log_for_edit is
    ∙ omega (arith, altered-need entry new))

pub log-renamed : (edit : CatalogEdit) (entry new : CatEntry) → edit ≡ Rename entry new
    → 341 ≡ log_for_edit edit
log-renamed edit entry new is = sym (ap log_for_edit is
    ∙ omega (arith, gone-need entry, added-need new))

pub log-added : (edit : CatalogEdit) (new : CatEntry) → edit ≡ Add new → 73 ≡ log_for_edit edit
log-added edit new is = sym (ap log_for_edit is ∙ omega (arith, added-need new))

need-deleted : (gone : List CatEntry) → log_for_edit (Delete gone) ≡ 268 * length gone + 9
need-deleted gone = ap (λ (n : ℕ). n + end_length) (each gone)
  where
    each : (gone : List CatEntry) → sum (map need_of (map record_gone gone)) ≡ 268 * length gone
    each [] = refl
    each (entry ∷ gone) = omega (
      arith,
      sum-more (record_gone entry) (map record_gone gone),
      gone-need entry,
      each gone,
    )

pub log-deleted : (edit : CatalogEdit) (gone : List CatEntry) → edit ≡ Delete gone → (n : ℕ)
    → n ≡ length gone → 268 * n + 9 ≡ log_for_edit edit
log-deleted edit gone is n same = ap (λ (m : ℕ). 268 * m + 9) same ∙ sym (need-deleted gone)
    ∙ sym (ap log_for_edit is)

-- ---- what stands

module _ (content : Content) (named : AllByRecursion IsNamed content) (ascends : Ascends content) where
  abbrev Stands : RecordChange → Type 0
  Stands change = item_at content change.place ≡ option_map Standing change.old

  -- an entry of the catalog
  there-stands : (entry : CatEntry) → IsEntryThere (entries_in content) entry
      → item_at content (entry_place entry) ≡ Some (Standing (spelling entry))
  there-stands entry is = entry-stands content named ascends entry is.there

  added-stands : (new : CatEntry) → IsTrue (is_entry new)
      → entry_named (entries_in content) new.name ≡ None
      → item_at content (entry_place new) ≡ None
  added-stands new is none = none-at new is content named none

  pub changes-stand : (geometry : Geometry) (edit : CatalogEdit)
      → MayEdit geometry (entries_in content) edit → AllByRecursion Stands (changes_of edit)
  changes-stand geometry (Alter entry new) may = (there-stands entry may.there, tt)
  changes-stand geometry (Rename entry new) may =
      (there-stands entry may.there, (added-stands new may.entry_is may.name, tt))
  changes-stand geometry (Delete gone) may =
      each gone (by-recursion (IsEntryThere (entries_in content)) gone may.there)
    where
      each : (gone : List CatEntry) → AllByRecursion (IsEntryThere (entries_in content)) gone
          → AllByRecursion Stands (map record_gone gone)
      each [] all = tt
      each (entry ∷ gone) all = (there-stands entry all.0, each gone all.1)
  changes-stand geometry (Add new) may = (added-stands new may.entry_is may.name, tt)

-- ---- each is of another place

-- a name that no entry has is at no place of one
other-place : (entries : List CatEntry) (entry new : CatEntry) → IsEntryThere entries entry
    → IsTrue (is_entry new) → entry_named entries new.name ≡ None
    → entry_place new ≢ entry_place entry
other-place entries entry new is new-is none same = none-some entry
    (sym none ∙ ap (entry_named entries) (one-name new entry new-is is.entry_is same) ∙ is.named)

-- two entries at one place are one
one-place : (entries : List CatEntry) (one other : CatEntry) → IsEntryThere entries one
    → IsEntryThere entries other → entry_place other ≡ entry_place one → other ≡ one
one-place entries one other is that same = same_Some other one (sym that.named
    ∙ ap (entry_named entries) (one-name other one that.entry_is is.entry_is same) ∙ is.named)

gone-apart : (entries gone : List CatEntry) → AllByRecursion (IsEntryThere entries) gone
    → IsDistinct nat_eq (parts_in gone) → AreApart (map record_gone gone)
unfolding IsDistinct
gone-apart entries [] all distinct = tt
gone-apart entries (entry ∷ gone) all distinct =
    (others gone all.1 distinct.0, gone-apart entries gone all.1 distinct.1)
  where
    others : (gone : List CatEntry) → AllByRecursion (IsEntryThere entries) gone
        → AllByRecursion (λ (part : ℕ). nat_eq entry.part.0 part ≡ false) (parts_in gone)
        → AllByRecursion (λ (other : RecordChange). other.place ≢ entry_place entry)
        (map record_gone gone)
    others [] all apart = tt
    others (other ∷ gone) those apart = (
      λ same. let part = ap (λ (one : CatEntry). one.part.0)
          (one-place entries entry other all.0 those.0 same) in
          true≢false (grind (arith, nat_tests, part, apart.0)),
      others gone those.1 apart.1,
    )

pub changes-apart : (geometry : Geometry) (entries : List CatEntry) (edit : CatalogEdit)
    → MayEdit geometry entries edit → AreApart (changes_of edit)
changes-apart geometry entries (Alter entry new) may = (tt, tt)
changes-apart geometry entries (Rename entry new) may = (
  (other-place entries entry new may.there may.entry_is may.name, tt),
  (tt, tt),
)
changes-apart geometry entries (Delete gone) may = gone-apart entries gone
    (by-recursion (IsEntryThere entries) gone may.there) may.apart
changes-apart geometry entries (Add new) may = (tt, tt)

-- ---- none is of a built alternate index

unbuilt-new : (new : CatEntry) → IsTrue (is_entry new) → IsUnbuilt new
    → IfSome (option_and_then entry_of (Some (spelling new))) IsUnbuilt
unbuilt-new new is unbuilt =
    subst (λ (o : Option CatEntry). IfSome o IsUnbuilt) (sym (record-spells new is)) unbuilt

pub changes-unbuilt : (geometry shape : Geometry) (entries : List CatEntry) (edit : CatalogEdit)
    → MayEdit geometry entries edit → AreServed shape entries
    → AllByRecursion GivesUnbuilt (changes_of edit)
changes-unbuilt geometry shape entries (Alter entry new) may served = (
  unbuilt-new new may.entry_is (subst IsUnbuilt (sym may.alike)
      (all-found (IsServedEntry shape) entries entry.part.0 entry served may.there.there).unbuilt),
  tt,
)
changes-unbuilt geometry shape entries (Rename entry new) may served = (
  tt,
  (
    unbuilt-new new may.entry_is (subst IsUnbuilt (sym may.alike)
        (all-found (IsServedEntry shape) entries entry.part.0 entry served
        may.there.there).unbuilt),
    tt,
  ),
)
changes-unbuilt geometry shape entries (Delete gone) may served = each gone
  where
    each : (gone : List CatEntry) → AllByRecursion GivesUnbuilt (map record_gone gone)
    each [] = tt
    each (entry ∷ gone) = (tt, each gone)
changes-unbuilt geometry shape entries (Add new) may served =
    (unbuilt-new new may.entry_is (λ is. may.unbuilt), tt)

-- ---- the part that goes

abbrev pub goes_found : Option CatEntry → ℕ → Bool
goes_found found part = option_map_or (λ (gone : PartNo). gone.0 == part)
    (option_map (λ (entry : CatEntry). entry.part) found) false

-- it is one of those of the entries
pub gone-among : (P : CatEntry → Type 0) (gone : List CatEntry) → AllByRecursion P gone
    → (part : ℕ) → goes (Delete gone) part ≡ true
    → (entry : CatEntry) × P entry × ((entry.part.0 == part) ≡ true)
gone-among P [] all part out = absurd (true≢false (sym out))
gone-among P (entry ∷ gone) all part out =
    by-test (is_cluster_entry entry) out (gone-among P gone all.1 part)
  where
    by-test : (b : Bool)
        → goes_found (cond b (Some entry) (find is_cluster_entry gone)) part ≡ true
        → (goes (Delete gone) part ≡ true
        → (one : CatEntry) × P one × ((one.part.0 == part) ≡ true))
        → (one : CatEntry) × P one × ((one.part.0 == part) ≡ true)
    by-test true here rest = (entry, all.0, here)
    by-test false there rest = rest there

pub gone-numbered : (geometry : Geometry) (entries : List CatEntry) (edit : CatalogEdit)
    → MayEdit geometry entries edit → (part : ℕ) → goes edit part ≡ true → part ≢ 0
gone-numbered geometry entries (Alter entry new) may part out = absurd (true≢false (sym out))
gone-numbered geometry entries (Rename entry new) may part out = absurd (true≢false (sym out))
gone-numbered geometry entries (Delete gone) may part out =
    let one = gone-among (IsEntryThere entries) gone
    (by-recursion (IsEntryThere entries) gone may.there) part out in
    λ none. numbered one.0 one.1.entry_is (grind (arith, nat_tests, one.2, none))
gone-numbered geometry entries (Add new) may part out = absurd (true≢false (sym out))

pub gone-some : (geometry : Geometry) (entries : List CatEntry) (edit : CatalogEdit)
    → MayEdit geometry entries edit → IfSome (part_gone edit) (λ (part : PartNo). part.0 ≢ 0)
gone-some geometry entries edit may =
    of (part_gone edit) (λ part out. gone-numbered geometry entries edit may part out)
  where
    of : (gone : Option PartNo)
        → ((part : ℕ) → option_map_or (λ (one : PartNo). one.0 == part) gone false ≡ true
        → part ≢ 0)
        → IfSome gone (λ (part : PartNo). part.0 ≢ 0)
    of None all = tt
    of (Some part) all = all part.0 (same-self part.0)
