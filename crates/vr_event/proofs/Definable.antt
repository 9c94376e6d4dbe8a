-- A cluster that a volume doesn't have may be defined on it: what the store and the record file ask
-- for, by the state that the history gives.
use Rattle.std.proofs.Common.{◌≡◌, ◌≢◌, ◌∙◌, ◌+◌, ◌-◌, ◌<◌, ◌≤◌, ◌^◌, ◌==◌, ℕ, Bool, true}
use Rattle.std.proofs.Common.{false, IsTrue, cond, List, [], ◌∷◌, Option, Some, None, refl, sym, ap}
use Rattle.std.proofs.Common.{subst, arith, All, length, if◌then◌else◌, true≢false, ⊎_elim, ◌++◌}
use Rattle.std.proofs.Common.{◌⊎◌, inl, inr, length-append}
use Rattle.std.specs.Prelude.{slice_set}
use Rattle.std.specs.List.{AllByRecursion, list_any}
use Rattle.std.proofs.lemmas.Bool.Decides.{nat_tests}
use Rattle.std.proofs.lemmas.List.Elements.{All-from_recursion}
use Rattle.std.proofs.lemmas.Option.{none-some}
use Rattle.vr_types.specs.Content.{Content, Standing, item_at, with_item}
use Rattle.vr_types.specs.Geometry.{area_count}
use Rattle.vr_types.specs.Image.{Image}
use Rattle.vr_types.specs.Locks.{first_conflict, same_unit}
use Rattle.vr_types.specs.LogSpace.{before_length, end_length, log_size}
use Rattle.vr_types.specs.Moments.{Guards}
use Rattle.vr_types.specs.Seen.{Left, Seen}
use Rattle.vr_types.specs.Space.{free_count, least_free}
use Rattle.vr_types.specs.declared.geometry.Geometry.{Geometry}
use Rattle.vr_types.specs.declared.request.Request.TheVariants.{Commit}
use Rattle.vr_types.specs.declared.unit.AreaNo.{AreaNo}
use Rattle.vr_types.specs.declared.unit.Kind.TheVariants.{Keyed}
use Rattle.vr_types.specs.declared.unit.Mode.TheVariants.{Exclusive}
use Rattle.vr_types.specs.declared.unit.PartNo.{PartNo}
use Rattle.vr_types.specs.declared.unit.Unit.{Unit as UnitOfRecovery}
use Rattle.vr_types.proofs.CallerLemmas.{guards-weaken}
use Rattle.vr_attach.specs.Laid.{catalog_shape, shape_by, shape_in, shape_of}
use Rattle.vr_catalog.specs.Catalog.{definition_in, entries_in}
use Rattle.vr_catalog.specs.Definition.{catalog_definition, is_valid_length}
use Rattle.vr_catalog.specs.Entry.{is_entry}
use Rattle.vr_catalog.specs.Record.{spelling}
use Rattle.vr_catalog.specs.declared.entry.CatEntry.{CatEntry}
use Rattle.vr_catalog.specs.declared.entry.EntryKind.TheVariants.{Alternate, Cluster}
use Rattle.vr_catalog.proofs.RecordLemmas.{length-spelling}
use Rattle.vr_space.specs.Part.{owned_count}
use Rattle.vr_log.specs.Live.{is_in, live_in, used_by}
use Rattle.vr_log.specs.LogNow.{LogNow, with_record}
use Rattle.vr_log.specs.declared.record.EndKind.TheVariants.{Committed}
use Rattle.vr_log.specs.declared.record.LogRecord.{LogRecord}
use Rattle.vr_answer.specs.Scope.{AreUnbuilt, IsUnbuilt}
use Rattle.vr_history.specs.Effects.{used_after}
use Rattle.vr_history.specs.Merged.{last_stamp}
use Rattle.vr_history.specs.State.{Logged, Owned, State}
use Rattle.vr_history.specs.Step.{IsLeastFree}
use Rattle.vr_record_file.specs.Defining.{IsDefined, IsInDoubt, MayDefine, entry_image}
use Rattle.vr_record_file.specs.Defining.{entry_logged, entry_name, need_to_define}
use Rattle.vr_record_file.specs.Now.{FileNow, IsKeptByDeck, IsOfDeck, IsStateOf, state_now}
use Rattle.vr_record_file.proofs.Definitions.{defined_leaves, in_doubt_leaves}
use Rattle.vr_space.specs.Part.{Shape}
use Rattle.vr_start.specs.Startable.{IsStartable}
use Rattle.vr_volume.specs.CatalogRules.{IsCatalog}
use Rattle.vr_volume.specs.Crashes.{RecoversTo, kept_but}
use Rattle.vr_volume.specs.Defining.{CanDefine}
use Rattle.vr_volume.specs.Ended.{ended as ended-records}
use Rattle.vr_volume.specs.EndedLog.{IsEndedLog}
use Rattle.vr_volume.proofs.Living.{live-or-none}
use Rattle.vr_store.specs.Define.{IsDefining, entry_need}
use Rattle.vr_store.specs.Store.{IsSet, IsStored, StoreNow}
use Rattle.vr_store.proofs.CallerLemmas.{HasClaimed, has-claimed}
use Rattle.vr_event.specs.Defining.{IsLeftDefining, IsNewCluster, entry_add, entry_place}
use Rattle.vr_event.specs.Defining.{entry_with_area, file_defined, file_in_doubt, utility_unit}
use Rattle.vr_event.specs.Defining.{with_cluster}
use Rattle.vr_event.specs.Volume.{IsHeld, IsWhole, OwnLaid, VolumeNow}
use Rattle.vr_event.proofs.Areas.{least-owned, owned-same, owned-taken, unlaid-same}
use Rattle.vr_event.proofs.ClusterCatalogs.{all-with, catalog-with, entries-with, none-at}
use Rattle.vr_event.proofs.ClusterCatalogs.{other-parts, shapes-with}
use Rattle.vr_event.proofs.ClusterItems.{items-named}
use Rattle.vr_event.proofs.ClusterRecords.{IsNamed, place-length}
use Rattle.vr_event.proofs.DefinedStates.{counted-recovers, kept-but-own, kept-same}
use Rattle.vr_event.proofs.DefinedStates.{unlogged-fewer}
use Rattle.vr_event.proofs.Makes.{need-before}
use Rattle.vr_event.proofs.NewClusters.{HasNewShape, area-entry, area-rules, area-shape}
use Rattle.vr_event.proofs.NewClusters.{area-small, area-startable, new-shape, part-some}
use Rattle.vr_event.proofs.NewClusters.{same-self, unlaid-part}
use Rattle.vr_event.proofs.Served.{served_are}
use Rattle.vr_event.proofs.Staged.{part-laid}
use Rattle.vr_event.proofs.UnitEnded.{unlaid}

-- ---- what the log has of it

-- a unit of the utilities has logged nothing, where only decks have
none-logged : (unit : UnitOfRecovery) → unit.deck ≡ 0 → (logged : List Logged)
    → AllByRecursion IsOfDeck logged
    → list_any (λ (one : Logged). same_unit unit one.unit) logged ≡ false
none-logged unit deck [] of = refl
none-logged unit deck (one ∷ logged) of =
    let apart : (unit.deck == one.unit.deck) ≡ false = grind (arith, nat_tests, deck, of.0.0) in
    grind (arith, nat_tests, apart, none-logged unit deck logged of.1)

-- nor has any unit logged a place of the catalog
none-of-catalog : (logged : List Logged) → AllByRecursion IsOfDeck logged
    → AllByRecursion (λ (one : Logged). one.part ≢ 0) logged
none-of-catalog [] of = tt
none-of-catalog (one ∷ logged) of = (
  λ part. absurd (true≢false (grind (arith, nat_tests, part, of.0.1))),
  none-of-catalog logged of.1,
)

unlogged-one : (place : List ℕ) (logged : List Logged) → AllByRecursion IsOfDeck logged
    → AllByRecursion (λ (one : Logged). one.part ≡ 0 → one.place ≢ place) logged
unlogged-one place [] of = tt
unlogged-one place (one ∷ logged) of = (
  λ part same. absurd (true≢false (grind (arith, nat_tests, part, of.0.1))),
  unlogged-one place logged of.1,
)

module _ {B : Type 0} (seen : B → Seen) (opening : State) (volume : VolumeNow B)
    (held : IsHeld seen opening volume) (whole : IsWhole seen volume)
    (going : volume.file.stopped ≡ None)
    (left : Left (seen volume.blocks) (seen volume.blocks).cur) (entry : CatEntry)
    (is : IsNewCluster volume.file.geometry volume.file.catalog entry) (area : AreaNo)
    (least : least_free volume.store.space ≡ Some area.0) (unit : UnitOfRecovery)
    (unit-is : unit ≡ utility_unit volume.file) where
  abbrev state : State
  state = state_now opening volume.file

  abbrev store : StoreNow
  store = volume.store

  abbrev now : Seen
  now = seen volume.blocks

  abbrev geometry : Geometry
  geometry = store.log.geometry

  abbrev content : Content
  content = state.contents 0

  abbrev new : CatEntry
  new = entry_with_area entry area

  of-deck : unit.deck ≡ 0
  of-deck = ap (λ (u : UnitOfRecovery). u.deck) unit-is

  stored : IsStored volume.number store state now
  stored = held.stored going

  set : IsSet store now
  set = whole.set going

  cluster : IsNewCluster geometry (entries_in content) entry
  cluster = subst (λ (g : Geometry). IsNewCluster g (entries_in content) entry)
      (sym (whole.geometry going))
      (subst (λ (entries : List CatEntry). IsNewCluster volume.file.geometry entries entry)
      held.file.now.catalog is)

  area-free : IsLeastFree geometry state area.0
  area-free = least-owned store.space state held.owned geometry area.0 set.areas least

  small : area.0 + 1 < 2 ^ 32
  small = area-small geometry area.0 set.allowed area-free.below

  entry-is : IsTrue (is_entry new)
  entry-is = area-entry geometry (entries_in content) entry cluster area small

  pub startable : IsStartable geometry (definition_in entry)
  startable = area-startable geometry (entries_in content) entry cluster area set.allowed small

  pub shaped : HasNewShape geometry entry.part.0 area.0 (definition_in entry)
  shaped = new-shape geometry entry.part.0 area.0 (definition_in entry) set.allowed
      area-free.below startable

  named : AllByRecursion IsNamed content
  named = items-named volume.number store state now left stored
      (whole.laid going 0 ∙ sym (ap (λ (g : Geometry). Some (catalog_shape g))
      (whole.geometry going)))

  absent : item_at content (entry_place new) ≡ None
  absent = none-at new entry-is content named cluster.name

  some : new.part.0 ≡ 0 → ⊥
  some = part-some entry cluster.entry_is

  abbrev content-after : Content
  content-after = with_item content (entry_place new) (Standing (spelling new))

  entries-after : entries_in content-after ≡ with_cluster new (entries_in content)
  entries-after = entries-with new entry-is content named absent

  catalog-after : IsCatalog geometry content-after
  catalog-after = catalog-with geometry new entry-is
      (area-rules geometry (entries_in content) entry cluster area) some content named absent
      cluster.part stored.volume.laid.catalog

  shape-is : shape_of geometry new ≡ Some shaped.shape
  shape-is = area-shape geometry (entries_in content) entry cluster area ∙ shaped.laid

  fresh : shape_by geometry content entry.part.0 ≡ None
  fresh = unlaid-part geometry (entries_in content) entry.part.0 some cluster.part

  idle : is_in unit (live_in store.log.records) ≡ false
  idle = stored.volume.logged.live unit
      ∙ none-logged unit of-deck state.logged (held.file.now.of_decks going)

  current : unit.number ≡ state.numbers unit.deck
  current = subst (λ (u : UnitOfRecovery). u.number ≡ state.numbers u.deck) (sym unit-is)
      (held.file.now.numbers 0)

  can-define : CanDefine geometry store.log unit shaped.shape (entry_place new) (spelling new) state
  can-define = record {
    current = current;
    idle = ⊎_elim (λ live. absurd (true≢false (sym live ∙ idle))) (λ none. none)
        (live-or-none state.numbers unit current [] store.log.records
        stored.volume.logged.ended);
    place_is = place-length new;
    unlogged = All-from_recursion
        (λ (one : Logged). one.part ≡ 0 → one.place ≢ entry_place new) state.logged
        (unlogged-one (entry_place new) state.logged (held.file.now.of_decks going));
    absent = absent;
    catalog = catalog-after;
    lays = λ part. ap (λ (entries : List CatEntry). shape_in geometry entries part) entries-after
        ∙ shapes-with geometry new (entries_in content)
        (other-parts entry.part.0 (entries_in content) cluster.part) some part
        ∙ ap (λ (o : Option Shape). if part == entry.part.0 then o
        else shape_in geometry (entries_in content) part) shape-is
        ∙ ap (λ (n : ℕ). if part == n then Some shaped.shape
        else shape_in geometry (entries_in content) part) (sym shaped.number);
    fresh = ap (λ (n : ℕ). shape_by geometry content n) shaped.number ∙ fresh;
    inside = shaped.inside;
  }

  apart : Cluster ≡ Alternate → ⊥
  apart same = cc

  unbuilt-after : AreUnbuilt (with_cluster new volume.file.catalog)
  unbuilt-after = all-with IsUnbuilt new volume.file.catalog
      (λ alternate. absurd (apart (sym is.cluster ∙ alternate)))
      (served_are volume.file.geometry volume.file.catalog whole.served)

  -- the part is laid then
  pub shape-after : shape_in geometry (with_cluster new volume.file.catalog) entry.part.0
      ≡ Some shaped.shape
  shape-after =
      ap (λ (entries : List CatEntry). shape_in geometry (with_cluster new entries) entry.part.0)
      held.file.now.catalog
      ∙ shapes-with geometry new (entries_in content)
      (other-parts entry.part.0 (entries_in content) cluster.part) some entry.part.0
      ∙ ap (λ (b : Bool). if b then shape_of geometry new
      else shape_in geometry (entries_in content) entry.part.0) (same-self entry.part.0)
      ∙ shape-is

  -- what it takes of the log is what the record file says
  need-is : entry_need store.log unit (entry_place new) ≡ need_to_define (entry_place new)
  need-is = need-before unit (record { 0 = 0 }) (entry_place new) None
      (live_in store.log.records)
      ∙ ap (λ (b : Bool). before_length (entry_place new) None + cond b 0 end_length) idle

  pub may-define : first_conflict volume.file.locks unit Exclusive (entry_name (entry_place new))
      ≡ None
      → used_by store.log.records + need_to_define (entry_place new)
      ≤ log_size volume.file.geometry
      → MayDefine opening volume.file unit entry.part area (entry_add volume.number new)
      (entry_place new) (spelling new) Commit (with_cluster new volume.file.catalog)
  may-define unlocked room = record {
    going = going;
    of_utilities = of-deck;
    current = current;
    free = subst (λ (g : Geometry). IsLeastFree g state area.0) (whole.geometry going) area-free;
    on = _;
    on_catalog = refl;
    known = refl;
    no_path = refl;
    add_is = refl;
    commit_is = refl;
    valid = ap (is_valid_length Keyed catalog_definition) (length-spelling new);
    place_is = refl;
    absent = absent;
    unlocked = unlocked;
    room = subst (λ (n : ℕ). n + need_to_define (entry_place new)
        ≤ log_size volume.file.geometry) stored.volume.logged.used room;
    catalog_is = entries-after
        ∙ ap (with_cluster new) (sym held.file.now.catalog);
    unbuilt = unbuilt-after;
    laid = part-laid geometry entry.part.0 (with_cluster new volume.file.catalog)
        (λ none. none-some shaped.shape (sym none ∙ shape-after));
    empty = λ other none. stored.volume.laid.others other
        (ap (λ (entries : List CatEntry). shape_in geometry entries other)
        (sym held.file.now.catalog) ∙ unlaid geometry other volume.file.catalog none);
  }

  -- the states before and after it
  pub defining : (to : State)
      → IsDefined unit entry.part area (entry_place new) (spelling new) state to
      → IsDefining volume.number store unit (entry_place new) (spelling new) entry.part area
      (definition_in entry) state to now
  defining to made = record {
    stored = stored;
    shape = shaped.shape;
    laid = shaped.laid;
    can = can-define;
    unlogged = All-from_recursion (λ (one : Logged). one.part ≢ 0) state.logged
        (none-of-catalog state.logged (held.file.now.of_decks going));
    defined = record {
      contents = made.contents;
      befores = made.befores;
      logged = made.logged;
      used = made.used ∙ ap (λ (n : ℕ). used_after to.logged (state.used + n)) (sym need-is);
      numbers = made.numbers;
    };
  }

  -- ---- what it leaves

  module _ (after line : ℕ)
      (unlocked : first_conflict volume.file.locks unit Exclusive (entry_name (entry_place new))
      ≡ None)
      (room : used_by store.log.records + need_to_define (entry_place new)
      ≤ log_size volume.file.geometry) where
    abbrev to : FileNow
    to = file_defined volume.number after unit line entry area volume.file

    abbrev doubt : FileNow
    doubt = file_in_doubt volume.number after unit line entry area volume.file

    pub defined-is : IsDefined unit entry.part area (entry_place new) (spelling new) state
        (state_now opening to)
    defined-is = defined_leaves opening volume.file after line unit entry.part area
        (entry_add volume.number new) (entry_place new) (spelling new) Commit
        (with_cluster new volume.file.catalog) held.file (may-define unlocked room)

    pub doubt-is : IsInDoubt unit entry.part area (entry_add volume.number new) (entry_place new)
        (spelling new) (last_stamp 0 doubt.entries) state (state_now opening doubt)
    doubt-is = in_doubt_leaves opening volume.file after line unit entry.part area
        (entry_add volume.number new) (entry_place new) (spelling new) Commit
        (with_cluster new volume.file.catalog) held.file (may-define unlocked room)

    -- an image recovers to what is after it, with its unit counted
    of-decks : AllByRecursion IsKeptByDeck state.befores
    of-decks = held.file.now.kept_by_decks going

    defined-recovers : (image : Image)
        → RecoversTo geometry volume.number (state_now opening to) [] image
        → RecoversTo geometry volume.number (state_now opening to) (unit ∷ []) image
    defined-recovers image = counted-recovers geometry volume.number (state_now opening to)
        (state_now opening to) [] (unit ∷ []) image (λ part. refl)
        (ap (kept_but (unit ∷ [])) defined-is.befores
        ∙ kept-same unit of-deck state.befores of-decks
        ∙ ap (kept_but []) (sym defined-is.befores)) (λ part place un. un)

    doubt-recovers : (image : Image)
        → RecoversTo geometry volume.number (state_now opening to) [] image
        → RecoversTo geometry volume.number (state_now opening doubt) (unit ∷ []) image
    doubt-recovers image = counted-recovers geometry volume.number (state_now opening to)
        (state_now opening doubt) [] (unit ∷ []) image
        (λ part. doubt-is.contents part ∙ sym (defined-is.contents part))
        (ap (kept_but (unit ∷ [])) doubt-is.befores
        ∙ kept-but-own unit of-deck state.befores of-decks (entry_image unit (entry_place new)) refl
        ∙ ap (kept_but []) (sym defined-is.befores))
        (λ part place un. subst
        (All (λ (one : Logged). one.part ≡ part → one.place ≢ place)) (sym defined-is.logged)
        (unlogged-fewer state.logged (entry_logged unit (entry_place new)) part place
        (subst (All (λ (one : Logged). one.part ≡ part → one.place ≢ place)) doubt-is.logged
        un)))

    abbrev Either : Image → Type 0
    Either image = RecoversTo geometry volume.number state [] image
        ⊎ RecoversTo geometry volume.number (state_now opening to) [] image

    pub left-defined : (b : Seen) → Guards now b Either
        → Guards now b (IsLeftDefining geometry volume.number opening after unit line entry
        volume.file to)
    left-defined b guards = guards-weaken now b Either
        (IsLeftDefining geometry volume.number opening after unit line entry volume.file to) guards
        (λ image. ⊎_elim (λ one. inl one)
        (λ one. inr ((area, inl refl), defined-recovers image one)))

    pub left-in-doubt : (b : Seen) → Guards now b Either
        → Guards now b (IsLeftDefining geometry volume.number opening after unit line entry
        volume.file doubt)
    left-in-doubt b guards = guards-weaken now b Either
        (IsLeftDefining geometry volume.number opening after unit line entry volume.file doubt)
        guards (λ image. ⊎_elim (λ one. inl one)
        (λ one. inr ((area, inr refl), doubt-recovers image one)))

  -- ---- the areas after it

  abbrev areas-after : List (Option PartNo)
  areas-after = slice_set store.space area.0 (Some entry.part)

  abbrev one : Owned
  one = record { area = area.0; part = entry.part.0 }

  claimed : HasClaimed entry.part store.space areas-after
  claimed = has-claimed entry.part store.space areas-after (area.0, least, refl)

  free-after : (owned : List Owned) → owned ≡ state.owned ++ one ∷ []
      → free_count areas-after ≡ area_count volume.file.geometry - length owned
  free-after owned same =
      let fewer : free_count areas-after + 1 ≡ free_count store.space = claimed.free in
      let longer : length (state.owned ++ one ∷ []) ≡ length state.owned + 1 =
      length-append state.owned (one ∷ []) in
      omega (arith, fewer, longer, held.free, ap length same)

  unlaid-after : OwnLaid volume.file.geometry (with_cluster new volume.file.catalog) areas-after
  unlaid-after other none = of (other.0 == entry.part.0) refl
    where
      shape-of : shape_in volume.file.geometry (with_cluster new volume.file.catalog) other.0
          ≡ (if other.0 == entry.part.0 then shape_of volume.file.geometry new
          else shape_in volume.file.geometry volume.file.catalog other.0)
      shape-of = shapes-with volume.file.geometry new volume.file.catalog
          (other-parts entry.part.0 volume.file.catalog is.part) some other.0

      mine : shape_of volume.file.geometry new ≡ Some shaped.shape
      mine = subst (λ (g : Geometry). shape_of g new ≡ Some shaped.shape) (whole.geometry going)
          shape-is

      of : (b : Bool) → (other.0 == entry.part.0) ≡ b → owned_count other areas-after ≡ 0
      of true same = absurd (none-some shaped.shape (sym none ∙ shape-of
          ∙ ap (λ (b : Bool). if b then shape_of volume.file.geometry new
          else shape_in volume.file.geometry volume.file.catalog other.0) same ∙ mine))
      of false apart = claimed.others other
          (λ same. true≢false (sym (same-self entry.part.0)
          ∙ ap (λ (n : ℕ). n == entry.part.0) (sym same) ∙ apart))
          ∙ held.unlaid going other (sym (shape-of
          ∙ ap (λ (b : Bool). if b then shape_of volume.file.geometry new
          else shape_in volume.file.geometry volume.file.catalog other.0) apart) ∙ none)

  -- the volume is held by the state after it
  pub held-after : (file : FileNow) (to : StoreNow) (blocks : B)
      → file.geometry ≡ volume.file.geometry
      → file.catalog ≡ with_cluster new volume.file.catalog → to.space ≡ areas-after
      → (state_now opening file).owned ≡ state.owned ++ one ∷ [] → IsStateOf opening file
      → (file.stopped ≡ None → IsStored volume.number to (state_now opening file) (seen blocks))
      → IsHeld seen opening (record volume { blocks = blocks; store = to; file = file })
  held-after file to blocks shape catalog space owned of stored = record {
    file = of;
    free = ap free_count space ∙ free-after (state_now opening file).owned owned
        ∙ sym (ap (λ (g : Geometry). area_count g - length (state_now opening file).owned) shape);
    owned = owned-same areas-after to.space (state.owned ++ one ∷ [])
        (state_now opening file).owned space owned
        (owned-taken store.space state held.owned area.0 entry.part least);
    unlaid = λ on. unlaid-same volume.file.geometry file.geometry
        (with_cluster new volume.file.catalog) file.catalog areas-after to.space shape catalog
        space unlaid-after;
    stored = stored;
  }

-- ---- the log after it

pub ended-generation : (old new : LogNow) (rec : LogRecord) (unit : UnitOfRecovery)
    → IsEndedLog (with_record old rec) unit Committed new → new.generation ≤ old.generation + 1
ended-generation old new rec unit ended =
    of (live_in (ended-records (with_record old rec) unit Committed)) refl
  where
    of : (live : List UnitOfRecovery)
        → live_in (ended-records (with_record old rec) unit Committed) ≡ live
        → new.generation ≤ old.generation + 1
    of [] is = omega (arith, (ended.begun is).1)
    of (first ∷ live) is = omega (arith, (ended.on (λ none. cons-nil first live (sym is ∙ none))).1)
      where
        cons-nil : (x : UnitOfRecovery) (xs : List UnitOfRecovery) → x ∷ xs ≡ [] → ⊥
        cons-nil x xs same = cc
