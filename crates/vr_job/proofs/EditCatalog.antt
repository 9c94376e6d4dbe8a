-- What an edit does to the catalog of its volume: its records are replaced by those of entries like
-- them, erased, or added, each of a part that no entry has then.
use Rattle.std.proofs.Common.{◌≡◌, ◌≢◌, ◌∙◌, ◌==◌, ◌&&◌, inl, inr, ℕ, Bool, true, false, IsTrue}
use Rattle.std.proofs.Common.{List, [], ◌∷◌, ◌++◌, Option, Some, None, ap, bytes_eq, cond, eq-eqb}
use Rattle.std.proofs.Common.{if◌then◌else◌, map, nat_eq, not, refl, subst, sym}
use Rattle.std.specs.Prelude.{IfSome, flat_map, option_map, option_to_list}
use Rattle.std.specs.List.{AllByRecursion, IsDistinct}
use Rattle.std.proofs.lemmas.Option.{none-some, same_Some}
use Rattle.vr_types.specs.Content.{Content, Item, Standing, item_at}
use Rattle.vr_types.specs.Seen.{Left, Seen}
use Rattle.vr_types.specs.declared.geometry.Geometry.{Geometry}
use Rattle.vr_types.specs.declared.position.Position.{Position}
use Rattle.vr_types.specs.declared.reply.Reply.TheVariants.{Done as DoneReply}
use Rattle.vr_types.specs.declared.request.FileRef.{FileRef}
use Rattle.vr_types.specs.declared.request.Find.TheVariants.{Equal}
use Rattle.vr_types.specs.declared.request.Request.{Request}
use Rattle.vr_types.specs.declared.request.Request.TheVariants.{Add as AddRecord, Get}
use Rattle.vr_types.specs.declared.unit.Integrity.TheVariants.{Nri}
use Rattle.vr_types.specs.declared.unit.Unit.{Unit as UnitOfRecovery}
use Rattle.vr_attach.specs.Laid.{catalog_shape}
use Rattle.vr_altkey.specs.Placing.{placed_in}
use Rattle.vr_answer.proofs.CallerLemmas.{after_read}
use Rattle.vr_catalog.specs.Catalog.{entries_in, entry_named, entry_with_part, parts_in}
use Rattle.vr_catalog.specs.Entry.{is_entry}
use Rattle.vr_catalog.specs.Record.{entry_of, spelling}
use Rattle.vr_catalog.specs.declared.entry.CatEntry.{CatEntry}
use Rattle.vr_edits.specs.Edits.{IsEntryThere, IsServedEntry, MayAlter, MayEdit, MayRename}
use Rattle.vr_edits.specs.Edits.{entry_place, without_entry}
use Rattle.vr_edits.specs.declared.edit.CatalogEdit.{CatalogEdit}
use Rattle.vr_edits.specs.declared.edit.CatalogEdit.TheVariants.{Add, Alter, Delete, Rename}
use Rattle.vr_edits.proofs.CallerLemmas.{part-without}
use Rattle.vr_edits.proofs.Parts.{distinct-without}
use Rattle.vr_history.specs.Change.{Change, change_of}
use Rattle.vr_history.specs.Committed.{changed}
use Rattle.vr_history.specs.Effects.{drops_held, holding}
use Rattle.vr_history.specs.Found.{found, place_in}
use Rattle.vr_history.specs.Legal.{state_of}
use Rattle.vr_history.specs.Opened.{Opened, catalog_of}
use Rattle.vr_history.specs.State.{State}
use Rattle.vr_history.specs.Step.{case_of, place_changes, state_after}
use Rattle.vr_history.specs.declared.entry.Entry.{Entry}
use Rattle.vr_history.specs.declared.entry.What.TheVariants.{Asked}
use Rattle.vr_record_file.specs.CatalogEdit.{change_asked}
use Rattle.vr_record_file.specs.Now.{entry_next, next_stamp, number_of, state_now}
use Rattle.vr_record_file.proofs.CatalogFile.{catalog_opened}
use Rattle.vr_record_file.proofs.RecordGot.{entry_held}
use Rattle.vr_store.specs.Store.{IsStored}
use Rattle.vr_event.specs.CatalogEdit.{record_gone, step_for}
use Rattle.vr_event.specs.Defining.{catalog_file}
use Rattle.vr_event.specs.Volume.{IsHeld, IsWhole, VolumeNow}
use Rattle.vr_event.proofs.CallerLemmas.{IsNamed, items-named, none-at, record-spells}
use Rattle.vr_event.proofs.ClusterCatalogs.{entries-with}
use Rattle.vr_event.proofs.EditContents.{entries-altered, entries-without, entry-stands}
use Rattle.vr_event.proofs.EditContents.{named-without}
use Rattle.vr_job.specs.Catalogs.{altered_to, catalog_done, with_spelled}
use Rattle.vr_job.specs.Committed.{IsInstead, IsServedItem, KeepTheCatalog, MayChange, PutsServed}
use Rattle.vr_job.proofs.Ascending.{AllAscend, history-ascends}
use Rattle.vr_job.proofs.CatalogChanges.{catalog-changed}
use Rattle.vr_job.proofs.DefineMade.{same-with}
use Rattle.vr_job.proofs.EditEntries.{Answered, answered_by, answered_in, entries_of}
use Rattle.vr_job.proofs.EditEvents.{changed-of}
use Rattle.vr_job.proofs.EditMade.{IsThere, all-there, left-there, without-at}
use Rattle.vr_job.proofs.UtilityRuns.{still-one}

-- ---- the catalog of a state

-- Its items are the records of entries, each at its place, and no part has two.
pub record IsInOrder (state : State) : Type 0 where
  pub named : AllByRecursion IsNamed (state.contents 0)
  pub ascend : AllAscend state.contents
  pub parts : IsDistinct nat_eq (0 ∷ parts_in (entries_in (state.contents 0)))

-- what each entry is, one that is found is
found-is : (P : CatEntry → Type 0) (name : List ℕ) (entry : CatEntry) (entries : List CatEntry)
    → entry_named entries name ≡ Some entry → AllByRecursion P entries → P entry
found-is P name entry [] named all = absurd (none-some entry named)
found-is P name entry (other ∷ entries) named all =
    by-test (bytes_eq other.name name) named (λ later. found-is P name entry entries later all.1)
  where
    by-test : (b : Bool) → cond b (Some other) (entry_named entries name) ≡ Some entry
        → (entry_named entries name ≡ Some entry → P entry) → P entry
    by-test true is rest = subst P (same_Some other entry is) all.0
    by-test false is rest = rest is

-- a name that no entry has, none has of fewer
none-left : (gone : CatEntry) (name : List ℕ) (entries : List CatEntry)
    → entry_named entries name ≡ None → entry_named (without_entry gone entries) name ≡ None
none-left gone name [] none = refl
none-left gone name (other ∷ entries) none =
    by-test (bytes_eq other.name name) (other.part.0 == gone.part.0) refl none
    (none-left gone name entries)
  where
    by-test : (is gone-too : Bool) → bytes_eq other.name name ≡ is
        → cond is (Some other) (entry_named entries name) ≡ None
        → (entry_named entries name ≡ None → entry_named (without_entry gone entries) name ≡ None)
        → entry_named (cond (not gone-too) (other ∷ without_entry gone entries)
        (without_entry gone entries)) name ≡ None
    by-test true gone-too here found rest = absurd (none-some other (sym found))
    by-test false true here found rest = rest found
    by-test false false here found rest = ap (λ (b : Bool).
        cond b (Some other) (entry_named (without_entry gone entries) name)) here ∙ rest found

-- what is put at a place of the catalog from now on
abbrev change_at : List ℕ → Option (List ℕ) → Change
change_at place bytes = record { part = 0; place = place; new = option_map Standing bytes }

-- ---- one entry

module _ (geometry : Geometry) (number line volume : ℕ) where
  abbrev unit : UnitOfRecovery
  unit = record { deck = 0; number = number }

  abbrev file : FileRef
  file = catalog_file volume

  -- the entries of a record that stands, after those that are there
  abbrev got-at : CatEntry → ℕ → List Entry → Entry
  got-at entry after before = entry_next before after unit line
      (Asked (Get file (Equal (entry_place entry)) true Nri)
      (DoneReply 0 (Some (entry_place entry)) (Some (spelling entry))))

  abbrev changed-at : CatEntry → Option (List ℕ) → ℕ → List Entry → Entry
  changed-at entry bytes after before =
      entry_next (before ++ got-at entry after before ∷ []) 0 unit line
      (Asked (change_asked file bytes) (DoneReply 0 (Some (entry_place entry)) None))

  abbrev with-both : CatEntry → Option (List ℕ) → ℕ → List Entry → List Entry
  with-both entry bytes after before =
      (before ++ got-at entry after before ∷ []) ++ changed-at entry bytes after before ∷ []

  -- ---- its record is got, and replaced or erased

  module _ (state : State) (in-order : IsInOrder state) (entry : CatEntry)
      (there : IsThere (entries_in (state.contents 0)) entry) (bytes : Option (List ℕ))
      (got-stamp change-stamp : ℕ) where
    abbrev content : Content
    content = state.contents 0

    abbrev place : List ℕ
    place = entry_place entry

    abbrev get : Request
    get = Get file (Equal place) true Nri

    abbrev got : Entry
    got = record {
      stamp = got-stamp;
      unit = unit;
      line = line;
      what = Asked get (DoneReply 0 (Some place) (Some (spelling entry)));
    }

    abbrev request : Request
    request = change_asked file bytes

    abbrev change : Entry
    change = record {
      stamp = change-stamp;
      unit = unit;
      line = line;
      what = Asked request (DoneReply 0 (Some place) None);
    }

    -- what the GET leaves: its file holds the place
    abbrev held-state : State
    held-state = entry_held geometry state unit file place

    got-holds : state_after geometry state got ≡ held-state
    got-holds = after_read geometry state unit file place true Nri 0 (Some place)
        (Some (spelling entry))
        (ap (λ (o : Opened). place_in o (Equal place) (found (case_of geometry state unit get)))
        (catalog_opened (case_of geometry state unit get) file refl refl refl refl))

    -- the place that it holds
    abbrev let-go : Position
    let-go = (drops_held 0 (Some file) state).positions 0 0

    held-there : (held-state.positions 0 0).held ≡ Some place
    held-there = refl

    -- so it changes the record there
    abbrev made : Change
    made = change_at place bytes

    change-there : change_of (case_of geometry held-state unit request) ≡ Some made
    change-there = by-bytes bytes
      where
        by-bytes : (bytes : Option (List ℕ))
            → change_of (case_of geometry held-state unit (change_asked file bytes))
            ≡ Some (change_at place bytes)
        by-bytes None = ap (option_map (λ (place : List ℕ). change_at place None)) held-there
        by-bytes (Some new) =
            ap (option_map (λ (place : List ℕ). change_at place (Some new))) held-there

    changes-there : place_changes geometry held-state unit change.what ≡ made ∷ []
    changes-there = ap (λ (o : Option Change). option_to_list o) change-there

    stands : item_at content place ≡ Some (Standing (spelling entry))
    stands = entry-stands content in-order.named (in-order.ascend 0) entry there.1

    abbrev both : State
    both = state_of geometry state (got ∷ change ∷ [])

    both-content : both.contents 0 ≡ placed_in place (option_map Standing bytes) content
    both-content = ap (λ (s : State). (state_after geometry s change).contents 0) got-holds
        ∙ catalog-changed geometry held-state unit change-stamp change.what
        ∙ ap (λ (changes : List Change). changed held-state.contents changes 0) changes-there

    module _ (instead : IsInstead (spelling entry) (option_map Standing bytes))
        (served : IfSome (option_map Standing bytes) (IsServedItem geometry))
        (makes : entries_in (placed_in place (option_map Standing bytes) content)
        ≡ catalog_done request (Some place) (entries_in content)) where
      abbrev Keeps : State → Type 0
      Keeps one = (rest : List Entry) → KeepTheCatalog geometry (state_after geometry one change) rest
          → KeepTheCatalog geometry one (change ∷ rest)

      may-change : AllByRecursion (MayChange held-state unit)
          (place_changes geometry held-state unit change.what)
      may-change = subst (AllByRecursion (MayChange held-state unit)) (sym changes-there) (
        inr (
          refl,
          inr (record {
            part = refl;
            before = spelling entry;
            stands = stands;
            instead = instead;
          }),
        ),
        tt,
      )

      puts-served : AllByRecursion (PutsServed geometry)
          (place_changes geometry held-state unit change.what)
      puts-served = subst (AllByRecursion (PutsServed geometry)) (sym changes-there)
          (λ part. served, tt)

      change-keeps : Keeps held-state
      change-keeps rest keep = (
        record {
          may = may-change;
          served = puts-served;
          makes = ap entries_in
              (catalog-changed geometry held-state unit change-stamp change.what
              ∙ ap (λ (changes : List Change). changed held-state.contents changes 0) changes-there)
              ∙ makes;
        },
        keep,
      )

      -- they keep the catalog but for that record
      pub replaced-keep : (rest : List Entry) → KeepTheCatalog geometry both rest
          → KeepTheCatalog geometry state (got ∷ change ∷ rest)
      replaced-keep rest keep = (
        still-one geometry state got
            (record { changes = λ geometry state. refl; tells = λ catalog. refl }),
        subst Keeps (sym got-holds) change-keeps rest keep,
      )

  -- ---- its record is erased

  module _ (state : State) (in-order : IsInOrder state) (entry : CatEntry)
      (there : IsThere (entries_in (state.contents 0)) entry) (got-stamp change-stamp : ℕ) where
    abbrev gone : State
    gone = both state in-order entry there None got-stamp change-stamp

    entries-gone : entries_in (gone.contents 0)
        ≡ without_entry entry (entries_in (state.contents 0))
    unfolding IsDistinct
    entries-gone = ap entries_in (both-content state in-order entry there None got-stamp change-stamp)
        ∙ entries-without entry there.2 (state.contents 0) in-order.named (in-order.ascend 0)
        in-order.parts.1 (stands state in-order entry there None got-stamp change-stamp)

    gone-in-order : IsInOrder gone
    gone-in-order = record {
      named = subst (AllByRecursion IsNamed)
          (sym (both-content state in-order entry there None got-stamp change-stamp))
          (named-without entry there.2 (state.contents 0) in-order.named);
      ascend = history-ascends geometry state (got state in-order entry there None got-stamp
          change-stamp ∷ change state in-order entry there None got-stamp change-stamp ∷ [])
          in-order.ascend;
      parts = subst (λ (entries : List CatEntry). IsDistinct nat_eq (0 ∷ parts_in entries))
          (sym entries-gone)
          (distinct-without entry (entries_in (state.contents 0)) in-order.parts);
    }

    gone-keep : (rest : List Entry) → KeepTheCatalog geometry gone rest
        → KeepTheCatalog geometry state (got state in-order entry there None got-stamp change-stamp
        ∷ change state in-order entry there None got-stamp change-stamp ∷ rest)
    unfolding IsDistinct
    gone-keep = replaced-keep state in-order entry there None got-stamp change-stamp tt tt
        (entries-without entry there.2 (state.contents 0) in-order.named (in-order.ascend 0)
        in-order.parts.1 (stands state in-order entry there None got-stamp change-stamp)
        ∙ sym (without-at entry there.2 (entries_in (state.contents 0)) there.0))

  -- ---- one is added

  module _ (state : State) (in-order : IsInOrder state) (new : CatEntry)
      (new-is : IsTrue (is_entry new))
      (name : entry_named (entries_in (state.contents 0)) new.name ≡ None)
      (part : entry_with_part (entries_in (state.contents 0)) new.part.0 ≡ None)
      (served : IsServedEntry geometry new) (stamp : ℕ) where
    abbrev entries : List CatEntry
    entries = entries_in (state.contents 0)

    abbrev add : Entry
    add = record {
      stamp = stamp;
      unit = unit;
      line = line;
      what = Asked (AddRecord file None (spelling new)) (DoneReply 0 (Some (entry_place new)) None);
    }

    absent : item_at (state.contents 0) (entry_place new) ≡ None
    absent = none-at new new-is (state.contents 0) in-order.named name

    fresh : (other : CatEntry) → entry_of (spelling new) ≡ Some other
        → entry_with_part entries other.part.0 ≡ None
    fresh other spelled = subst (λ (one : CatEntry). entry_with_part entries one.part.0 ≡ None)
        (same_Some new other (sym (record-spells new new-is) ∙ spelled)) part

    added-keep : (rest : List Entry)
        → KeepTheCatalog geometry (state_after geometry state add) rest
        → KeepTheCatalog geometry state (add ∷ rest)
    added-keep rest keep = (
      record {
        may = (
          inr (
            refl,
            inl (record {
              part = refl;
              bytes = spelling new;
              added = refl;
              absent = absent;
              fresh = fresh;
            }),
          ),
          tt,
        );
        served = (
          λ part. subst (λ (o : Option CatEntry). IfSome o (IsServedEntry geometry))
              (sym (record-spells new new-is)) served,
          tt,
        );
        makes = entries-with new new-is (state.contents 0) in-order.named absent
            ∙ same-with new entries
            ∙ sym (ap (λ (o : Option CatEntry). with_spelled o entries) (record-spells new new-is));
      },
      keep,
    )

  -- ---- each edit

  -- the entries of an edit keep the catalog where what is entered after them does
  abbrev KeepsOver : State → ℕ → List Entry → List Answered → Type 0
  KeepsOver state after before answered = (rest : List Entry)
      → KeepTheCatalog geometry
      (state_of geometry state (entries_of number line after answered before)) rest
      → KeepTheCatalog geometry state (entries_of number line after answered before ++ rest)

  module _ (state : State) (in-order : IsInOrder state)
      (served : AllByRecursion (IsServedEntry geometry) (entries_in (state.contents 0)))
      (after : ℕ) (before : List Entry) where
    abbrev catalog : List CatEntry
    catalog = entries_in (state.contents 0)

    abbrev got-stamp-at : CatEntry → ℕ
    got-stamp-at entry = (got-at entry after before).stamp

    abbrev change-stamp-at : CatEntry → Option (List ℕ) → ℕ
    change-stamp-at entry bytes = (changed-at entry bytes after before).stamp

    -- an entry with other words is served as it was
    served-as : (entry : CatEntry) → entry_named catalog entry.name ≡ Some entry
        → IsServedEntry geometry entry
    served-as entry named =
        found-is (IsServedEntry geometry) entry.name entry catalog named served

    is-there : (entry : CatEntry) → IsEntryThere catalog entry → IsThere catalog entry
    is-there entry there = (there.named, there.there, there.entry_is)

    alter-keeps : (entry new : CatEntry) → MayAlter catalog entry new
        → KeepsOver state after before (answered_in volume (Alter entry new))
    unfolding IsDistinct
    alter-keeps entry new may =
        let was : IsServedEntry geometry entry = served-as entry may.there.named in
        let there : IsThere catalog entry = is-there entry may.there in
        replaced-keep state in-order entry there (Some (spelling new)) (got-stamp-at entry)
        (change-stamp-at entry (Some (spelling new))) (
          entry,
          new,
          record-spells entry may.there.entry_is,
          record-spells new may.entry_is,
          may.alike,
        )
        (subst (λ (o : Option CatEntry). IfSome o (IsServedEntry geometry))
        (sym (record-spells new may.entry_is))
        (subst (IsServedEntry geometry) (sym may.alike)
        (record { plain = was.plain; unbuilt = was.unbuilt })))
        (entries-altered entry may.there.entry_is catalog new may (state.contents 0)
        in-order.named (in-order.ascend 0) in-order.parts.1
        (stands state in-order entry there (Some (spelling new)) (got-stamp-at entry)
        (change-stamp-at entry (Some (spelling new))))
        ∙ sym (ap (λ (o : Option CatEntry). altered_to o catalog)
        (record-spells new may.entry_is)))

    rename-keeps : (entry new : CatEntry) → MayRename catalog entry new
        → KeepsOver state after before (answered_in volume (Rename entry new))
    rename-keeps entry new may rest keep =
        let was : IsServedEntry geometry entry = served-as entry may.there.named in
        let there : IsThere catalog entry = is-there entry may.there in
        let one : ℕ = got-stamp-at entry in
        let two : ℕ = change-stamp-at entry None in
        let add-stamp : ℕ = next_stamp (with-both entry None after before) 0 in
        let left = entries-gone state in-order entry there one two in
        let part-is : entry_with_part (entries_in ((gone state in-order entry there one two).contents 0))
        new.part.0 ≡ None =
        ap (λ (them : List CatEntry). entry_with_part them new.part.0) left
        ∙ part-without entry catalog new.part.0
        ∙ ap (λ (b : Bool). cond b None (entry_with_part catalog new.part.0))
        (eq-eqb entry.part.0 new.part.0
        (sym (ap (λ (one : CatEntry). one.part.0) may.alike))) in
        gone-keep state in-order entry there one two
        (add (gone state in-order entry there one two)
        (gone-in-order state in-order entry there one two) new may.entry_is
        (ap (λ (them : List CatEntry). entry_named them new.name) left
        ∙ none-left entry new.name catalog may.name) part-is
        (subst (IsServedEntry geometry) (sym may.alike)
        (record { plain = was.plain; unbuilt = was.unbuilt })) add-stamp ∷ rest)
        (added-keep (gone state in-order entry there one two)
        (gone-in-order state in-order entry there one two) new may.entry_is
        (ap (λ (them : List CatEntry). entry_named them new.name) left
        ∙ none-left entry new.name catalog may.name) part-is
        (subst (IsServedEntry geometry) (sym may.alike)
        (record { plain = was.plain; unbuilt = was.unbuilt })) add-stamp rest keep)

  gone-keeps : (others : List CatEntry) (state : State) → IsInOrder state
      → AllByRecursion (IsThere (entries_in (state.contents 0))) others
      → IsDistinct nat_eq (parts_in others) → (after : ℕ) (before : List Entry)
      → KeepsOver state after before
      (flat_map answered_by (map (step_for volume) (map record_gone others)))
  unfolding IsDistinct
  gone-keeps [] state in-order there apart after before rest keep = keep
  gone-keeps (entry ∷ others) state in-order there apart after before rest keep =
      let one : ℕ = (got-at entry after before).stamp in
      let two : ℕ = (changed-at entry None after before).stamp in
      gone-keep state in-order entry there.0 one two
      (entries_of number line 0
      (flat_map answered_by (map (step_for volume) (map record_gone others)))
      (with-both entry None after before) ++ rest)
      (gone-keeps others (gone state in-order entry there.0 one two)
      (gone-in-order state in-order entry there.0 one two)
      (subst (λ (them : List CatEntry). AllByRecursion (IsThere them) others)
      (sym (entries-gone state in-order entry there.0 one two))
      (left-there entry (entries_in (state.contents 0)) others apart.0 there.1)) apart.1 0
      (with-both entry None after before) rest keep)

  pub edit-keeps : (edit : CatalogEdit) (state : State) → IsInOrder state
      → AllByRecursion (IsServedEntry geometry) (entries_in (state.contents 0))
      → MayEdit geometry (entries_in (state.contents 0)) edit → (after : ℕ) (before : List Entry)
      → KeepsOver state after before (answered_in volume edit)
  edit-keeps (Alter entry new) state in-order served may after before rest keep =
      alter-keeps state in-order served after before entry new may rest keep
  edit-keeps (Rename entry new) state in-order served may after before rest keep =
      rename-keeps state in-order served after before entry new may rest keep
  edit-keeps (Delete others) state in-order served may after before rest keep =
      gone-keeps others state in-order
      (all-there volume (entries_in (state.contents 0)) others may.there) may.apart after before
      rest keep
  edit-keeps (Add new) state in-order served may after before rest keep =
      added-keep state in-order new may.entry_is may.name may.part
      (record {
        plain = λ cluster. absurd (may.no_cluster cluster);
        unbuilt = λ alternate. may.unbuilt;
      }) (next_stamp before after) rest keep

-- ---- an edit of a volume

module _ {B : Type 0} (seen : B → Seen) (opening : State) (volume : VolumeNow B)
    (held : IsHeld seen opening volume) (whole : IsWhole seen volume)
    (going : volume.file.stopped ≡ None)
    (left : Left (seen volume.blocks) (seen volume.blocks).cur) (edit : CatalogEdit)
    (may : MayEdit volume.file.geometry volume.file.catalog edit) (after line : ℕ) where
  abbrev state-is : State
  state-is = state_now opening volume.file

  stored : IsStored volume.number volume.store state-is (seen volume.blocks)
  stored = held.stored going

  order-is : IsInOrder state-is
  order-is = record {
    named = items-named volume.number volume.store state-is (seen volume.blocks) left stored
        (whole.laid going 0
        ∙ sym (ap (λ (g : Geometry). Some (catalog_shape g)) (whole.geometry going)));
    ascend = stored.volume.laid.each;
    parts = stored.volume.laid.catalog.parts;
  }

  -- its entries keep the catalog but for its records
  pub changed-keep : (rest : List Entry) → KeepTheCatalog volume.file.geometry
      (state_of volume.file.geometry state-is
      (changed-of volume.number after line edit volume.file)) rest
      → KeepTheCatalog volume.file.geometry state-is
      (changed-of volume.number after line edit volume.file ++ rest)
  changed-keep = edit-keeps volume.file.geometry (number_of volume.file.numbers 0) line
      volume.number edit state-is order-is
      (subst (AllByRecursion (IsServedEntry volume.file.geometry)) held.file.now.catalog whole.served)
      (subst (λ (catalog : List CatEntry). MayEdit volume.file.geometry catalog edit)
      held.file.now.catalog may) after volume.file.entries
