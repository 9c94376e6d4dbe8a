-- What a definition of a cluster does to the catalog of its volume: it adds a record where none
-- stood, of a part that no entry has.
use Rattle.std.proofs.Common.{◌≡◌, ◌∙◌, ◌<◌, ◌==◌, ◌||◌, inl, inr, ℕ, Bool, true, false, IsTrue}
use Rattle.std.proofs.Common.{List, [], ◌++◌, Option, Some, None, ap, if◌then◌else◌, nat_eq}
use Rattle.std.proofs.Common.{eq-eqb, refl, subst, sym, true≢false}
use Rattle.std.proofs.lemmas.Option.{same_Some}
use Rattle.std.specs.Prelude.{IfSome}
use Rattle.std.specs.List.{AllByRecursion, list_any}
use Rattle.vr_types.specs.Content.{Content, Standing, item_at}
use Rattle.vr_types.specs.Geometry.{IsAllowed, area_count}
use Rattle.vr_types.specs.Seen.{Left, Seen}
use Rattle.vr_types.specs.declared.geometry.Geometry.{Geometry}
use Rattle.vr_types.specs.declared.unit.AreaNo.{AreaNo}
use Rattle.vr_types.specs.declared.unit.Unit.{Unit as UnitOfRecovery}
use Rattle.vr_attach.specs.Laid.{catalog_shape}
use Rattle.vr_catalog.specs.Catalog.{entries_in, entry_with_part, parts_in}
use Rattle.vr_catalog.specs.Entry.{is_entry}
use Rattle.vr_catalog.specs.Record.{entry_of, spelling}
use Rattle.vr_catalog.specs.declared.entry.CatEntry.{CatEntry}
use Rattle.vr_catalog.specs.declared.entry.EntryKind.{EntryKind}
use Rattle.vr_catalog.specs.declared.entry.EntryKind.TheVariants.{Alternate, Cluster}
use Rattle.vr_history.specs.Effects.{has_part, placed_in}
use Rattle.vr_history.specs.Legal.{state_of}
use Rattle.vr_history.specs.Opened.{catalog_of}
use Rattle.vr_history.specs.State.{State}
use Rattle.vr_history.specs.declared.entry.Entry.{Entry}
use Rattle.vr_record_file.specs.Now.{state_now}
use Rattle.vr_record_file.proofs.MoreEntries.{has_part_more}
use Rattle.vr_store.specs.Store.{IsSet, IsStored}
use Rattle.vr_event.specs.Defining.{IsNewCluster, entry_place, entry_with_area}
use Rattle.vr_edits.specs.Edits.{IsServedEntry}
use Rattle.vr_event.specs.Volume.{IsHeld, IsWhole, VolumeNow}
use Rattle.vr_event.proofs.CallerLemmas.{IsNamed, area-entry, area-small, area-startable}
use Rattle.vr_event.proofs.CallerLemmas.{items-named, none-at, record-spells, unlaid}
use Rattle.vr_event.proofs.ClusterCatalogs.{entries-with}
use Rattle.vr_job.specs.Catalogs.{with_spelled}
use Rattle.vr_job.specs.Committed.{KeepTheCatalog}
use Rattle.vr_job.proofs.DefineEvents.{begun-of, claim-of}
use Rattle.vr_job.proofs.DefineImages.{LackNone}
use Rattle.vr_job.proofs.DefineMade.{same-with}
use Rattle.vr_job.proofs.UtilityRuns.{still-one}

module _ {B : Type 0} (seen : B → Seen) (opening : State) (volume : VolumeNow B)
    (held : IsHeld seen opening volume) (whole : IsWhole seen volume)
    (going : volume.file.stopped ≡ None)
    (left : Left (seen volume.blocks) (seen volume.blocks).cur) (entry : CatEntry)
    (is : IsNewCluster volume.file.geometry volume.file.catalog entry) (area : AreaNo)
    (below : area.0 < area_count volume.file.geometry) where
  abbrev geometry : Geometry
  geometry = volume.file.geometry

  abbrev state : State
  state = state_now opening volume.file

  abbrev content : Content
  content = state.contents 0

  abbrev new : CatEntry
  new = entry_with_area entry area

  stored : IsStored volume.number volume.store state (seen volume.blocks)
  stored = held.stored going

  set : IsSet volume.store (seen volume.blocks)
  set = whole.set going

  -- ---- where its record is added

  cluster : IsNewCluster geometry (entries_in content) entry
  cluster = subst (λ (entries : List CatEntry). IsNewCluster geometry entries entry)
      held.file.now.catalog is

  entry-is : IsTrue (is_entry new)
  entry-is = area-entry geometry (entries_in content) entry cluster area
      (area-small geometry area.0 (subst IsAllowed (whole.geometry going) set.allowed) below)

  -- it is served
  new-served : IsServedEntry geometry new
  new-served =
      let allowed : IsAllowed geometry = subst IsAllowed (whole.geometry going) set.allowed in
      record {
        plain = λ cluster. (area-startable geometry volume.file.catalog entry is area allowed
            (area-small geometry area.0 allowed below)).fits;
        unbuilt = λ alternate. absurd (no-alternate (sym is.cluster ∙ alternate));
      }
    where
      no-alternate : ◌≡◌ {A = EntryKind} Cluster Alternate → ⊥
      no-alternate same = cc

  named : AllByRecursion IsNamed content
  named = items-named volume.number volume.store state (seen volume.blocks) left stored
      (whole.laid going 0
      ∙ sym (ap (λ (g : Geometry). Some (catalog_shape g)) (whole.geometry going)))

  -- nothing stands there,
  absent : item_at content (entry_place new) ≡ None
  absent = none-at new entry-is content named cluster.name

  -- and no entry has its part
  fresh : (other : CatEntry) → entry_of (spelling new) ≡ Some other
      → entry_with_part (entries_in content) other.part.0 ≡ None
  fresh other spelled = subst (λ (one : CatEntry).
      entry_with_part (entries_in content) one.part.0 ≡ None)
      (same_Some new other (sym (record-spells new entry-is) ∙ spelled)) cluster.part

  -- ---- the state in which it stands

  module _ (after line : ℕ) (unit : UnitOfRecovery) where
    abbrev begun : List Entry
    begun = begun-of volume.number after line unit entry area volume.file

    abbrev pub recorded : State
    recorded = state_of geometry state begun

    -- its entries add a record alone
    pub begun-keep : unit.deck ≡ 0 → (rest : List Entry) → KeepTheCatalog geometry recorded rest
        → KeepTheCatalog geometry state (begun ++ rest)
    begun-keep deck rest keep = (
      still-one geometry state (claim-of volume.number after line unit entry area volume.file)
          (record { changes = λ geometry state. refl; tells = λ catalog. refl }),
      (
        record {
          may = (
            inr (
              deck,
              inl (record {
                part = refl;
                bytes = spelling new;
                added = refl;
                absent = absent;
                fresh = fresh;
              }),
            ),
            tt,
          );
          served = (
            λ part. subst (λ (o : Option CatEntry). IfSome o (IsServedEntry geometry))
                (sym (record-spells new entry-is)) new-served,
            tt,
          );
          makes = entries-with new entry-is content named absent
              ∙ same-with new (entries_in content)
              ∙ sym (ap (λ (b : Bool). if b then with_spelled (entry_of (spelling new))
              (entries_in content) else entries_in content) (eq-eqb unit.deck 0 deck)
              ∙ ap (λ (o : Option CatEntry). with_spelled o (entries_in content))
              (record-spells new entry-is));
        },
        keep,
      ),
    )

    -- a part that the catalog lacks still it lacked before
    lacked : (part : ℕ) → has_part (parts_in (catalog_of recorded)) part ≡ false
        → has_part (parts_in (entries_in content)) part ≡ false
    lacked part lacks = by_test (has_part (parts_in (entries_in content)) part) refl
      where
        by_test : (b : Bool) → has_part (parts_in (entries_in content)) part ≡ b → b ≡ false
        by_test true has = absurd (true≢false (sym (has_part_more content (entry_place new)
            (Standing (spelling new)) absent part has) ∙ lacks))
        by_test false has = refl

    -- so it has no content
    pub recorded-lack : LackNone recorded
    recorded-lack part lacks = by_test (part == 0) refl lacks
      where
        by_test : (b : Bool) → (part == 0) ≡ b
            → (b || list_any (nat_eq part) (parts_in (catalog_of recorded))) ≡ false
            → (if b then placed_in (entry_place new) (Some (Standing (spelling new)))
            (state.contents part) else state.contents part) ≡ []
        by_test true is none = absurd cc
        by_test false is none = stored.volume.laid.others part
            (unlaid volume.store.log.geometry part (entries_in content) (lacked part lacks))
