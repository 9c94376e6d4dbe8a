-- No address of an entry-sequenced data set is given again: what a run opens is in order, and has an
-- item where one was settled as a crash came.
use Rattle.std.proofs.Common.{◌≡◌, ◌≢◌, ◌⊎◌, ⊎_elim, ◌∙◌, ◌+◌, ◌<◌, ◌≤◌, ℕ, suc, Bool, true, false, cond}
use Rattle.std.proofs.Common.{List, [], ◌∷◌, ◌++◌, Option, Some, None, All, ap, arith, bytes_eq}
use Rattle.std.proofs.Common.{if◌then◌else◌, length, map, refl, subst, sym}
use Rattle.std.specs.Prelude.{Contains, nat_eq, option_and_then, option_map}
use Rattle.std.specs.List.{AllByRecursion, AllPairs, IsDistinct}
use Rattle.std.proofs.lemmas.Bool.{ne_eqb, true≢false}
use Rattle.std.proofs.lemmas.List.{get_or_append_left, get_or-append-add, length-append}
use Rattle.std.proofs.lemmas.List.Elements.{All-cons, All-nil, Contains-append_left}
use Rattle.std.proofs.lemmas.List.Elements.{Contains-append_right}
use Rattle.std.proofs.lemmas.Map.Made.{Contains-tail}
use Rattle.std.proofs.lemmas.Slice.Eq.{bytes_eq-Decides}
use Rattle.vr_types.specs.Content.{Ascends, Content, Item, Standing, item_at, places_of}
use Rattle.vr_types.specs.Faults.{Faults}
use Rattle.vr_types.specs.Geometry.{area_count}
use Rattle.vr_types.specs.Seen.{Seen}
use Rattle.vr_types.specs.declared.geometry.Geometry.{Geometry}
use Rattle.vr_types.specs.declared.unit.Kind.TheVariants.{Entry as EntrySequenced, Keyed}
use Rattle.vr_types.specs.declared.unit.PartNo.{PartNo}
use Rattle.vr_types.specs.declared.unit.Unit.{Unit as UnitOfRecovery}
use Rattle.vr_altkey.proofs.CallerLemmas.{item_first, placed_elsewhere}
use Rattle.vr_catalog.specs.Catalog.{cluster_definition, definition_of, entries_in, entry_with_part}
use Rattle.vr_catalog.specs.Catalog.{parts_in}
use Rattle.vr_catalog.specs.Definition.{catalog_definition}
use Rattle.vr_catalog.specs.declared.definition.Definition.{Definition}
use Rattle.vr_catalog.specs.declared.entry.CatEntry.{CatEntry}
use Rattle.vr_catalog.specs.declared.entry.EntryKind.{EntryKind}
use Rattle.vr_catalog.specs.declared.entry.EntryKind.TheVariants.{Alternate, Cluster, Path}
use Rattle.vr_undo.proofs.CallerLemmas.{stands-entries}
use Rattle.vr_history.specs.Addresses.{AreOwned, IsEntrySequenced, IsEntrySequencedThroughout}
use Rattle.vr_history.specs.Addresses.{RunsOver, addresses_given}
use Rattle.vr_history.specs.Change.{Change}
use Rattle.vr_history.specs.Effects.{has_part, placed_in}
use Rattle.vr_history.specs.Legal.{AreSteps, state_of}
use Rattle.vr_history.specs.Opened.{catalog_of}
use Rattle.vr_history.specs.State.{Owned, State}
use Rattle.vr_history.specs.Step.{state_after}
use Rattle.vr_history.specs.declared.entry.Entry.{Entry}
use Rattle.vr_history.proofs.AddressRuns.{all_apart, over_run}
use Rattle.vr_event.specs.Opening.{owned_from, owned_in}
use Rattle.vr_job_ends.specs.declared.job_end.End.{End}
use Rattle.vr_recover.specs.Addresses.{HasItem, IsSettledAt}
use Rattle.vr_recover.specs.Opening.{HasContents}
use Rattle.vr_recover.proofs.CallerLemmas.{entry-addressed}
use Rattle.vr_volume.specs.Crashes.{IsUnlogged}
use Rattle.vr_job.specs.Catalogs.{catalog_after}
use Rattle.vr_job.specs.Committed.{IsAddition, IsAlike, IsReplacement, KeepTheCatalog, KeepsCatalog}
use Rattle.vr_job.specs.Committed.{StaysIn}
use Rattle.vr_job.specs.VolumeRun.{IsRun, opening_of}
use Rattle.vr_job.proofs.Ascending.{AllAscend, history-ascends}
use Rattle.vr_job.proofs.CatalogChanges.{catalog-changed, entry-changes}
use Rattle.vr_job.proofs.CatalogEntries.{HasEntry, StandsAt, apart-at, find-part, has-entry}
use Rattle.vr_job.proofs.CatalogEntries.{same-or-apart, stays-after, was-like}
use Rattle.vr_job.proofs.Keeping.{keep-first}
use Rattle.vr_job.proofs.Logging.{history-logged, settled-unlogged}
use Rattle.vr_job.proofs.RunCommitted.{steps-first}

-- ---- the areas of an opening

areas-within : (from : ℕ) (owners : List (Option PartNo)) (count : ℕ)
    → from + length owners ≤ count → All (λ (this : Owned). this.area < count) (owned_from from owners)
areas-within from [] count few = All-nil (λ (this : Owned). this.area < count)
areas-within from (None ∷ owners) count few =
    areas-within (from + 1) owners count (omega (arith, few))
areas-within from (Some part ∷ owners) count few =
    All-cons (λ (this : Owned). this.area < count) (record { area = from; part = part.0 })
    (owned_from (from + 1) owners) (omega (arith, few))
    (areas-within (from + 1) owners count (omega (arith, few)))

areas-above : (from : ℕ) (owners : List (Option PartNo)) (area : ℕ) → area < from
    → AllByRecursion (λ (other : ℕ). nat_eq area other ≡ false)
    (map (λ (this : Owned). this.area) (owned_from from owners))
areas-above from [] area below = tt
areas-above from (None ∷ owners) area below =
    areas-above (from + 1) owners area (omega (arith, below))
areas-above from (Some part ∷ owners) area below = (
  ne_eqb area from (λ same. omega (arith, below, same)),
  areas-above (from + 1) owners area (omega (arith, below)),
)

areas-once : (from : ℕ) (owners : List (Option PartNo))
    → IsDistinct nat_eq (map (λ (this : Owned). this.area) (owned_from from owners))
unfolding IsDistinct
areas-once from [] = tt
areas-once from (None ∷ owners) = areas-once (from + 1) owners
areas-once from (Some part ∷ owners) =
    (areas-above (from + 1) owners from (omega arith), areas-once (from + 1) owners)

are-owned : (geometry : Geometry) (owners : List (Option PartNo))
    → length owners ≡ area_count geometry → AreOwned geometry (owned_in owners)
are-owned geometry owners count = record {
  within = areas-within 0 owners (area_count geometry) (omega (arith, count));
  once = areas-once 0 owners;
}

-- ---- the catalog has the part throughout

-- an entry is that of an entry-sequenced cluster
abbrev KindIs : Option Definition → Type 0
KindIs found = option_map (λ (definition : Definition). definition.kind) found ≡ Some EntrySequenced

abbrev IsOfEntries : CatEntry → Type 0
IsOfEntries entry = KindIs (cluster_definition entry.entry_kind entry)

-- so is one like it
alike-entries : (entry new : CatEntry) → IsAlike entry new → IsOfEntries entry → IsOfEntries new
alike-entries entry new alike is =
    subst IsOfEntries (sym alike) (by_kind entry.entry_kind ∙ is)
  where
    by_kind : (kind : EntryKind) → option_map (λ (definition : Definition). definition.kind)
        (cluster_definition kind (record entry {
          free_space = new.free_space;
          share_options = new.share_options;
        }))
        ≡ option_map (λ (definition : Definition). definition.kind) (cluster_definition kind entry)
    by_kind Cluster = refl
    by_kind Alternate = refl
    by_kind Path = refl

-- each record of an entry of the part is that of an entry-sequenced cluster
abbrev AreOfEntries : ℕ → Content → Type 0
AreOfEntries part content = (place : List ℕ) → (is : StandsAt part content place)
    → IsOfEntries is.entry

-- a change of one record leaves it so, while the catalog has the part
entries-changed : (part : ℕ) (state : State) (change : Change)
    → IsAddition state change ⊎ IsReplacement state change → HasEntry part (catalog_of state)
    → AreOfEntries part (state.contents 0)
    → AreOfEntries part (placed_in change.place change.new (state.contents 0))
entries-changed part state change may has are place is = ⊎_elim
    (λ same. here is (subst (λ (p : List ℕ).
    item_at (placed_in change.place change.new (state.contents 0)) p
    ≡ Some (Standing is.bytes)) same is.stands))
    (λ apart. are place (record {
      bytes = is.bytes;
      stands = sym (placed_elsewhere change.place change.new (state.contents 0) place apart)
          ∙ is.stands;
      entry = is.entry;
      spelled = is.spelled;
      part_is = is.part_is;
    }))
    (same-or-apart change.place place)
  where
    here : (is : StandsAt part (placed_in change.place change.new (state.contents 0)) place)
        → item_at (placed_in change.place change.new (state.contents 0)) change.place
        ≡ Some (Standing is.bytes) → IsOfEntries is.entry
    here is stands =
        let was = was-like part state change may has (record {
          bytes = is.bytes;
          stands = stands;
          entry = is.entry;
          spelled = is.spelled;
          part_is = is.part_is;
        }) in
        alike-entries was.standing.entry is.entry was.alike (are change.place was.standing)

-- and so does an entry
entries-after : (geometry : Geometry) (part : ℕ) (state : State) (entry : Entry)
    → KeepsCatalog geometry state entry → HasEntry part (catalog_of state)
    → AreOfEntries part (state.contents 0)
    → AreOfEntries part ((state_after geometry state entry).contents 0)
entries-after geometry part state entry keeps has are =
    subst (AreOfEntries part)
    (sym (catalog-changed geometry state entry.unit entry.stamp entry.what))
    (⊎_elim
    (λ stays. subst (AreOfEntries part) (sym (stays state.contents)) are)
    (λ one. subst (AreOfEntries part) (sym (one.is state.contents))
    (entries-changed part state one.change one.may has are))
    (entry-changes geometry state entry.unit entry.what keeps.may))

-- the catalog itself is key-sequenced
not-own : (part : ℕ) (entries : List CatEntry) → KindIs (definition_of entries part)
    → nat_eq part 0 ≡ false
not-own part entries is = by_test (nat_eq part 0) is
  where
    keyed : Some Keyed ≡ Some EntrySequenced → ⊥
    keyed same = cc

    by_test : (b : Bool) → KindIs (if b then Some catalog_definition else option_and_then
        (λ (entry : CatEntry). cluster_definition entry.entry_kind entry)
        (entry_with_part entries part)) → b ≡ false
    by_test true is = absurd (keyed is)
    by_test false is = refl

-- another part is what its entry says
definition-by : (part : ℕ) (entries : List CatEntry) → nat_eq part 0 ≡ false
    → definition_of entries part ≡ option_and_then
    (λ (entry : CatEntry). cluster_definition entry.entry_kind entry) (entry_with_part entries part)
definition-by part entries other = ap (λ (b : Bool). if b then Some catalog_definition
    else option_and_then (λ (entry : CatEntry). cluster_definition entry.entry_kind entry)
    (entry_with_part entries part)) other

-- where no part is that of two entries, the catalog has it so if each of its entries is so
first-entries : (part : ℕ) (content : Content)
    → IsDistinct nat_eq (0 ∷ parts_in (entries_in content))
    → KindIs (definition_of (entries_in content) part) → AreOfEntries part content
unfolding IsDistinct
first-entries part content apart is place stands =
    subst KindIs (ap (option_and_then (λ (entry : CatEntry).
    cluster_definition entry.entry_kind entry)) found)
    (subst KindIs (definition-by part (entries_in content)
    (not-own part (entries_in content) is)) is)
  where
    found : entry_with_part (entries_in content) part ≡ Some stands.entry
    found = subst (λ (p : ℕ). entry_with_part (entries_in content) p ≡ Some stands.entry)
        stands.part_is
        (apart-at content place stands.bytes stands.entry apart.1 stands.stands stands.spelled)

entries-first : (part : ℕ) (content : Content) → nat_eq part 0 ≡ false → Ascends content
    → HasEntry part (entries_in content) → AreOfEntries part content
    → KindIs (definition_of (entries_in content) part)
entries-first part content other ascends has are =
    let is = find-part part content ascends has in
    subst KindIs (sym (definition-by part (entries_in content) other))
    (subst KindIs (sym (ap (option_and_then (λ (entry : CatEntry).
    cluster_definition entry.entry_kind entry)) is.found)) (are is.place is.standing))

stays-entries : (geometry : Geometry) (part : ℕ) (state : State) (catalog : List CatEntry)
    (entries : List Entry) → nat_eq part 0 ≡ false → catalog ≡ catalog_of state
    → StaysIn part catalog entries → AllAscend state.contents
    → AreOfEntries part (state.contents 0) → KeepTheCatalog geometry state entries
    → IsEntrySequencedThroughout geometry part state entries
stays-entries geometry part state catalog [] other same stays ascend are keep = tt
stays-entries geometry part state catalog (entry ∷ entries) other same stays ascend are keep = (
  entries-first part (state.contents 0) other (ascend 0) has are,
  stays-entries geometry part (state_after geometry state entry) (catalog_after entry catalog)
      entries other (ap (catalog_after entry) same ∙ sym keep.0.makes)
      (stays-after part catalog entry entries stays)
      (history-ascends geometry state (entry ∷ []) ascend)
      (entries-after geometry part state entry keep.0 has are) keep.1,
)
  where
    has : HasEntry part (catalog_of state)
    has = has-entry part (parts_in (catalog_of state)) other
        (subst (λ (them : List CatEntry). has_part (parts_in them) part ≡ true) same
        (stays [] (entry ∷ entries) refl))

-- ---- places

some-item : (item : Item) → Some item ≡ None → ⊥
some-item item same = cc

-- where a content has an item is one of its places
item-place : (content : Content) (place : List ℕ) → HasItem content place
    → Contains (places_of content) place
item-place [] place has = absurd (has refl)
item-place (placed ∷ content) place has =
    by_test (bytes_eq place placed.0) refl (item-place content place)
  where
    by_test : (test : Bool) → bytes_eq place placed.0 ≡ test
        → (HasItem content place → Contains (places_of content) place)
        → Contains (places_of (placed ∷ content)) place
    by_test true is further = (0, omega arith, sym ((bytes_eq-Decides place placed.0).0 is))
    by_test false is further =
        let there = further (λ none. has (item_first placed content place
        ∙ ap (λ (same : Bool). cond same (Some placed.1) (item_at content place)) is ∙ none)) in
        (suc there.0, omega (arith, there.1), there.2)

-- and at each of them it has one
place-item : (content : Content) (place : List ℕ) → Contains (places_of content) place
    → HasItem content place
place-item [] place there none = absurd (omega (arith, there.1))
place-item (placed ∷ content) place there none =
    by_test (bytes_eq place placed.0) refl (place-item content place)
  where
    item-by : (test : Bool) → bytes_eq place placed.0 ≡ test
        → cond test (Some placed.1) (item_at content place) ≡ None
    item-by test is = sym (item_first placed content place
        ∙ ap (λ (same : Bool). cond same (Some placed.1) (item_at content place)) is) ∙ none

    by_test : (test : Bool) → bytes_eq place placed.0 ≡ test
        → (Contains (places_of content) place → HasItem content place) → ⊥
    by_test true is further = some-item placed.1 (item-by true is)
    by_test false is further = further
        (Contains-tail placed.0 (places_of content) place
        (λ same. true≢false (sym ((bytes_eq-Decides place placed.0).1 (sym same)) ∙ is)) there)
        (item-by false is)

-- what one list has, the other has not, where no two of both are one
apart-both : (one other : List (List ℕ)) (place : List ℕ)
    → AllPairs (λ (this that : List ℕ). this ≢ that) (one ++ other)
    → Contains one place → Contains other place → ⊥
apart-both one other place apart here there =
    let long : length (one ++ other) ≡ length one + length other = length-append one other in
    let below : here.0 < length one = here.1 in
    let within : there.0 < length other = there.1 in
    apart here.0 (length one + there.0) place (omega (arith, below))
    (omega (arith, within, long))
    (get_or_append_left one other place here.0 below ∙ here.2
    ∙ sym (get_or-append-add one other there.0 place ∙ there.2))

-- ---- a run

module _ {D : Type 0} (tells : Bool) (seen : D → Seen) (faults : D → Faults) (number : ℕ)
    (shape : Geometry) (catalog : List CatEntry) (end : End) (entries : List Entry)
    (old ended new : D)
    (run : IsRun tells seen faults number shape catalog end entries old ended new) where
  -- what it opened
  pub run-contents : HasContents number run.geometry run.contents (seen old)
  run-contents = record {
    volume = run.volume;
    whole = run.whole;
    ascends = run.ascends;
    others = run.others;
  }

  abbrev opening : State
  opening = opening_of run.contents run.owners

  -- no part of its catalog is that of two entries
  parts-apart : IsDistinct nat_eq (0 ∷ parts_in (entries_in (run.contents 0)))
  parts-apart = subst (λ (entries : List CatEntry). IsDistinct nat_eq (0 ∷ parts_in entries))
      (stands-entries (run.contents 0))
      (subst (λ (content : Content). IsDistinct nat_eq (0 ∷ parts_in (entries_in content)))
      (sym (run.volume.recovers.back 0)) run.volume.recovers.stands.catalog.parts)

  runs-over : (part : ℕ) → IsEntrySequenced part opening → (history : List Entry)
      → StaysIn part catalog history → AreSteps run.geometry opening history
      → KeepTheCatalog run.geometry opening history
      → RunsOver run.geometry part run.contents (owned_in run.owners) history
  runs-over part is history stays steps keep = record {
    allowed = run.volume.allowed;
    opens = record {
      addressed = entry-addressed run.geometry number run.contents (seen old).cur
          run.volume.recovers run.whole run.others part is (run.ascends part);
      areas = are-owned run.geometry run.owners run.owners_are.count;
    };
    steps = steps;
    throughout = stays-entries run.geometry part opening catalog history
        (not-own part (entries_in (run.contents 0)) is) run.catalog_is stays run.ascends
        (first-entries part (run.contents 0) parts-apart is) keep;
  }

  pub never-given : (part : ℕ) → IsEntrySequenced part opening → StaysIn part catalog entries
      → (place : List ℕ) → HasItem (run.contents part) place → Contains (addresses_given part entries) place → ⊥
  never-given part is stays place has given =
      apart-both (places_of (run.contents part)) (addresses_given part entries) place
      (all_apart run.geometry part run.contents (owned_in run.owners) entries
      (runs-over part is entries stays run.legal.steps run.keeps_catalog))
      (item-place (run.contents part) place has) given

  module _ (before after : List Entry) (both : entries ≡ before ++ after) (part : ℕ)
      (is : IsEntrySequenced part opening) (stays : StaysIn part catalog before) where
    -- what the opening had and what was given are the places of the state
    places-then : places_of ((state_of run.geometry opening before).contents part)
        ≡ places_of (run.contents part) ++ addresses_given part before
    places-then = (over_run run.geometry part run.contents (owned_in run.owners) before
        (runs-over part is before stays
        (steps-first run.geometry opening before after
        (subst (AreSteps run.geometry opening) both run.legal.steps))
        (keep-first run.geometry opening before after
        (subst (KeepTheCatalog run.geometry opening) both run.keeps_catalog)))).places

    pub settled-then : (place : List ℕ)
        → HasItem (run.contents part) place ⊎ Contains (addresses_given part before) place
        → IsUnlogged (state_of run.geometry opening before) part place
        → (counted : List UnitOfRecovery)
        → IsSettledAt counted (state_of run.geometry opening before) part place
    settled-then place held unlogged counted =
        let state = state_of run.geometry opening before in
        settled-unlogged part place state counted
        (history-logged run.geometry opening before tt)
        (history-ascends run.geometry opening before run.ascends part)
        (place-item (state.contents part) place
        (subst (λ (places : List (List ℕ)). Contains places place) (sym places-then)
        (⊎_elim
        (λ has. Contains-append_left (places_of (run.contents part)) (addresses_given part before)
        place (item-place (run.contents part) place has))
        (λ given. Contains-append_right (places_of (run.contents part))
        (addresses_given part before) place given) held)))
        unlogged
