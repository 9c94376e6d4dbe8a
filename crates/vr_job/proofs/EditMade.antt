-- What an event of an edit of the catalog adds to the history of a volume, and what it leaves of the
-- rest that the record file has in memory.
use Rattle.std.proofs.Common.{◌≡◌, ◌≢◌, ◌∙◌, ◌==◌, ⊎_elim, ℕ, Bool, true, false, List, [], ◌∷◌, ◌++◌}
use Rattle.std.proofs.Common.{Option, Some, None, All, ap, arith, bytes_eq, cond, map, max, nat_eq}
use Rattle.std.proofs.Common.{not, refl, subst, sym, true≢false}
use Rattle.std.proofs.lemmas.List.{take_all}
use Rattle.std.proofs.lemmas.List.Elements.{All-head, All-tail}
use Rattle.std.proofs.lemmas.Bool.Decides.{nat_tests}
use Rattle.std.proofs.lemmas.Option.{none-some, same_Some}
use Rattle.std.specs.List.{AllByRecursion, IsDistinct}
use Rattle.std.specs.Prelude.{IsTrue, Result, Ok, Err, flat_map}
use Rattle.vr_types.specs.declared.fault.DeviceFault.TheVariants.{Read, Write}
use Rattle.vr_types.specs.declared.geometry.Geometry.{Geometry}
use Rattle.vr_types.specs.declared.memory.OutOfMemory.{OutOfMemory}
use Rattle.vr_types.specs.declared.unit.Unit.{Unit as UnitOfRecovery}
use Rattle.vr_catalog.specs.Catalog.{entry_named, entry_with_part, parts_in}
use Rattle.vr_catalog.specs.Entry.{is_entry}
use Rattle.vr_catalog.specs.Record.{text_at}
use Rattle.vr_catalog.specs.declared.entry.CatEntry.{CatEntry}
use Rattle.vr_edits.specs.Edits.{IsEntryThere, MayEdit, edited, entry_place, without_entries}
use Rattle.vr_edits.specs.Edits.{without_entry}
use Rattle.vr_edits.proofs.CallerLemmas.{part-without}
use Rattle.vr_edits.specs.declared.edit.CatalogEdit.{CatalogEdit}
use Rattle.vr_edits.specs.declared.edit.CatalogEdit.TheVariants.{Add, Alter, Delete, Rename}
use Rattle.vr_history.specs.Merged.{last_stamp}
use Rattle.vr_history.specs.declared.entry.Entry.{Entry}
use Rattle.vr_record_file.specs.CatalogEdit.{records_made, steps_made}
use Rattle.vr_record_file.specs.Now.{FileNow, number_of}
use Rattle.vr_event.specs.CatalogEdit.{IsEditEntered, file_edit_in_doubt, file_edited, record_gone}
use Rattle.vr_event.specs.CatalogEdit.{step_for, steps_of}
use Rattle.vr_event.specs.Defining.{utility_unit}
use Rattle.vr_event.specs.declared.edit.Edit.{Edit}
use Rattle.vr_event.specs.declared.edit.Edit.TheVariants.{Again, Done, Fault, Full, Held, Live}
use Rattle.vr_event.specs.declared.edit.Edit.TheVariants.{NoRoom}
use Rattle.vr_event.proofs.ClusterRecords.{name-at, name-of, place-length, record-spells}
use Rattle.vr_job.specs.Catalogs.{altered_to, catalog_by, with_spelled, without_found, without_placed}
use Rattle.vr_job.proofs.EditEntries.{IsFileWith, answered_by, answered_in, entries-go}
use Rattle.vr_job.proofs.EditEntries.{Answered, entries-last, entries-next, entries-own, entries-tell}
use Rattle.vr_job.proofs.EditEntries.{entries-unread, told_by}
use Rattle.vr_job.proofs.EditEvents.{changed-of, with-is}
use Rattle.vr_job.proofs.UtilityMade.{HasMadeBy, IsBegunBy, made-ended, made-in-doubt, made-staged}
use Rattle.vr_job.proofs.UtilityMade.{still-by}

-- a fault of a write stops the volume
abbrev pub edit_failed : Result Edit OutOfMemory → Bool
edit_failed (Ok Done) = false
edit_failed (Ok Again) = false
edit_failed (Ok NoRoom) = false
edit_failed (Ok Held) = false
edit_failed (Ok Live) = false
edit_failed (Ok Full) = false
edit_failed (Ok (Fault Read)) = false
edit_failed (Ok (Fault Write)) = true
edit_failed (Err why) = false

-- ---- the catalog, as its requests make it

-- the place of an entry spells its name
placed-name : (entry : CatEntry) → IsTrue (is_entry entry)
    → text_at 0 44 (entry_place entry) ≡ entry.name
unfolding text_at
placed-name entry is =
    ap name-of (take_all 44 (entry_place entry) (omega (arith, place-length entry)))
    ∙ sym (name-at entry is)

-- so what is erased at its place is it, where it is the entry of its name
pub without-at : (entry : CatEntry) → IsTrue (is_entry entry) → (catalog : List CatEntry)
    → entry_named catalog entry.name ≡ Some entry
    → without_placed (Some (entry_place entry)) catalog ≡ without_entry entry catalog
without-at entry is catalog named = ap (λ (o : Option CatEntry). without_found o catalog)
    (ap (entry_named catalog) (placed-name entry is) ∙ named)

-- another entry is still the one of its name then
named-left : (gone : CatEntry) (name : List ℕ) (entry : CatEntry) (entries : List CatEntry)
    → entry_named entries name ≡ Some entry → (entry.part.0 == gone.part.0) ≡ false
    → entry_named (without_entry gone entries) name ≡ Some entry
named-left gone name entry [] named apart = absurd (none-some entry named)
named-left gone name entry (other ∷ entries) named apart =
    by-test (bytes_eq other.name name) (other.part.0 == gone.part.0) refl refl named
    (named-left gone name entry entries)
  where
    by-test : (is gone-too : Bool) → bytes_eq other.name name ≡ is
        → (other.part.0 == gone.part.0) ≡ gone-too
        → cond is (Some other) (entry_named entries name) ≡ Some entry
        → (entry_named entries name ≡ Some entry → (entry.part.0 == gone.part.0) ≡ false
        → entry_named (without_entry gone entries) name ≡ Some entry)
        → entry_named (cond (not gone-too) (other ∷ without_entry gone entries)
        (without_entry gone entries)) name ≡ Some entry
    by-test true true here part found rest = absurd (true≢false (sym part
        ∙ ap (λ (one : CatEntry). one.part.0 == gone.part.0) (same_Some other entry found) ∙ apart))
    by-test true false here part found rest = ap (λ (b : Bool).
        cond b (Some other) (entry_named (without_entry gone entries) name)) here ∙ found
    by-test false true here part found rest = rest found apart
    by-test false false here part found rest = ap (λ (b : Bool).
        cond b (Some other) (entry_named (without_entry gone entries) name)) here ∙ rest found apart

-- an entry that goes is the one of its name, and of its part
abbrev pub IsThere : List CatEntry → CatEntry → Type 0
IsThere catalog entry = (entry_named catalog entry.name ≡ Some entry)
    × (entry_with_part catalog entry.part.0 ≡ Some entry) × IsTrue (is_entry entry)

flips : (m n : ℕ) → nat_eq m n ≡ false → (n == m) ≡ false
flips m n apart = grind (arith, nat_tests, apart)

pub left-there : (gone : CatEntry) (catalog : List CatEntry) (rest : List CatEntry)
    → AllByRecursion (λ (part : ℕ). nat_eq gone.part.0 part ≡ false) (parts_in rest)
    → AllByRecursion (IsThere catalog) rest
    → AllByRecursion (IsThere (without_entry gone catalog)) rest
left-there gone catalog [] apart there = tt
left-there gone catalog (entry ∷ rest) apart there = (
  (
    named-left gone entry.name entry catalog there.0.0
        (flips gone.part.0 entry.part.0 apart.0),
    part-without gone catalog entry.part.0
        ∙ ap (λ (b : Bool). cond b None (entry_with_part catalog entry.part.0)) apart.0
        ∙ there.0.1,
    there.0.2,
  ),
  left-there gone catalog rest apart.1 there.1,
)

module _ (volume : ℕ) where
  told-gone : (gone catalog : List CatEntry) → AllByRecursion (IsThere catalog) gone
      → IsDistinct nat_eq (parts_in gone)
      → told_by (flat_map answered_by (map (step_for volume) (map record_gone gone))) catalog
      ≡ without_entries gone catalog
  unfolding IsDistinct
  told-gone [] catalog there apart = refl
  told-gone (entry ∷ gone) catalog there apart =
      ap (told_by (flat_map answered_by (map (step_for volume) (map record_gone gone))))
      (without-at entry there.0.2 catalog there.0.0)
      ∙ told-gone gone (without_entry entry catalog)
      (left-there entry catalog gone apart.0 there.1) apart.1

  pub all-there : (entries gone : List CatEntry) → All (IsEntryThere entries) gone
      → AllByRecursion (IsThere entries) gone
  all-there entries [] there = tt
  all-there entries (entry ∷ gone) there =
      let one : IsEntryThere entries entry = All-head (IsEntryThere entries) entry gone there in (
        (one.named, one.there, one.entry_is),
        all-there entries gone (All-tail (IsEntryThere entries) entry gone there),
      )

  -- they make it the one with the edit
  pub told-edited : (geometry : Geometry) (catalog : List CatEntry) (edit : CatalogEdit)
      → MayEdit geometry catalog edit
      → told_by (answered_in volume edit) catalog ≡ edited edit catalog
  told-edited geometry catalog (Alter entry new) may =
      ap (λ (o : Option CatEntry). altered_to o catalog) (record-spells new may.entry_is)
  told-edited geometry catalog (Rename entry new) may =
      ap (λ (o : Option CatEntry). with_spelled o (without_placed (Some (entry_place entry)) catalog))
      (record-spells new may.entry_is)
      ∙ ap (λ (rest : List CatEntry). with_spelled (Some new) rest)
      (without-at entry may.there.entry_is catalog may.there.named)
  told-edited geometry catalog (Delete gone) may =
      told-gone gone catalog (all-there catalog gone may.there) may.apart
  told-edited geometry catalog (Add new) may =
      ap (λ (o : Option CatEntry). with_spelled o catalog) (record-spells new may.entry_is)

  -- there is one at least
  some-answered : (geometry : Geometry) (catalog : List CatEntry) (edit : CatalogEdit)
      → MayEdit geometry catalog edit → answered_in volume edit ≢ []
  some-answered geometry catalog (Alter entry new) may same = cc
  some-answered geometry catalog (Rename entry new) may same = cc
  some-answered geometry catalog (Delete []) may same = may.some refl
  some-answered geometry catalog (Delete (entry ∷ gone)) may same = cc
  some-answered geometry catalog (Add new) may same = cc

module _ (after line : ℕ) (old : FileNow) (volume : ℕ) (edit : CatalogEdit)
    (may : MayEdit old.geometry old.catalog edit) where
  abbrev unit : UnitOfRecovery
  unit = utility_unit old

  abbrev number : ℕ
  number = number_of old.numbers 0

  abbrev answered : List Answered
  answered = answered_in volume edit

  abbrev first : List Entry
  first = changed-of volume after line edit old

  -- the records are changed
  abbrev begun : FileNow
  begun = records_made after unit line (steps_of volume edit) (edited edit old.catalog) old

  is : IsFileWith number line after answered old
      (steps_made after unit line (steps_of volume edit) old)
  is = with-is volume after line edit old

  begun-by : IsBegunBy after line old begun first
  begun-by = record {
    entries = is.entries;
    next = entries-next number line answered after old.entries;
    last = ap (last_stamp 0) is.entries
        ∙ entries-last number line answered (some-answered volume old.geometry old.catalog edit may)
        after old.entries;
    own = entries-own number line answered after old.entries;
    geometry = is.geometry;
    catalog = sym (entries-tell number line answered after old.entries old.catalog
        ∙ told-edited volume old.geometry old.catalog edit may);
    numbers = is.numbers;
    stopped = is.stopped;
    unread = entries-unread number line answered after old.entries;
    goes = entries-go number line answered after old.entries;
    shows = λ shows. is.shows refl shows;
  }

  made-edited : HasMadeBy false after line old (file_edited volume after unit line edit old)
  made-edited = made-ended after line old begun first begun-by

  made-doubted : HasMadeBy true after line old
      (file_edit_in_doubt volume after unit line edit old)
  made-doubted = made-in-doubt after line old begun first begun-by

  -- ---- by what it came to

  module _ (new : FileNow) where
    pub edit-made-by : (result : Result Edit OutOfMemory)
        → IsEditEntered result volume after unit line edit old new
        → HasMadeBy (edit_failed result) after line old new
    edit-made-by (Ok Done) is = subst (HasMadeBy false after line old) (sym is) made-edited
    edit-made-by (Ok Again) is = subst (HasMadeBy false after line old) (sym is.2)
        (made-staged after line old is.0 is.1)
    edit-made-by (Ok NoRoom) is = still-by after line old false new is
    edit-made-by (Ok Held) is = still-by after line old false new is
    edit-made-by (Ok Live) is = still-by after line old false new is
    edit-made-by (Ok Full) is = still-by after line old false new is
    edit-made-by (Ok (Fault Read)) is = still-by after line old false new is
    edit-made-by (Ok (Fault Write)) is = ⊎_elim
        (λ alone. still-by after line old true new alone)
        (λ doubt. subst (HasMadeBy true after line old) (sym doubt) made-doubted) is
    edit-made-by (Err why) is = still-by after line old false new is
