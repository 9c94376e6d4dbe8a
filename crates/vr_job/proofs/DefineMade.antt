-- What an event of a definition of a cluster adds to the history of a volume, and what it leaves of
-- the rest that the record file has in memory.
use Rattle.std.proofs.Common.{◌≡◌, ◌∙◌, ◌+◌, ◌<◌, ⊎_elim, ℕ, Bool, true, false, List, [], ◌∷◌, ◌++◌}
use Rattle.std.proofs.Common.{if◌then◌else◌}
use Rattle.std.proofs.Common.{All, Option, Some, None, ap, append_assoc, arith, inl, inr, refl}
use Rattle.std.proofs.Common.{subst, sym}
use Rattle.std.proofs.lemmas.List.Elements.{All-cons, All-nil}
use Rattle.std.specs.Prelude.{Result, Ok, Err}
use Rattle.vr_types.specs.Geometry.{area_count}
use Rattle.vr_types.specs.declared.fault.DeviceFault.TheVariants.{Read, Write}
use Rattle.vr_types.specs.declared.memory.OutOfMemory.{OutOfMemory}
use Rattle.vr_types.specs.declared.reply.Reply.TheVariants.{Done as DoneReply}
use Rattle.vr_types.specs.declared.request.Request.{Request}
use Rattle.vr_types.specs.declared.request.Request.TheVariants.{Commit}
use Rattle.vr_types.specs.declared.unit.AreaNo.{AreaNo}
use Rattle.vr_types.specs.declared.unit.Unit.{Unit as UnitOfRecovery}
use Rattle.vr_catalog.specs.Record.{entry_of, spelling}
use Rattle.vr_catalog.specs.declared.entry.CatEntry.{CatEntry}
use Rattle.vr_history.proofs.CallerLemmas.{last_stamp-append}
use Rattle.vr_history.specs.declared.entry.Entry.{Entry}
use Rattle.vr_history.specs.declared.entry.What.TheVariants.{Asked, Claimed}
use Rattle.vr_ams_define.specs.Grown.{IsOfCommand}
use Rattle.vr_record_file.specs.Defining.{added}
use Rattle.vr_record_file.specs.Now.{FileNow, entry_next}
use Rattle.vr_record_file.specs.Now.{with_event}
use Rattle.vr_event.specs.Defining.{IsDefineEntered, entry_add, entry_place}
use Rattle.vr_event.specs.Defining.{entry_with_area, file_defined, file_in_doubt, utility_unit}
use Rattle.vr_event.specs.Defining.{with_cluster}
use Rattle.vr_edits.specs.Edits.{with_entry}
use Rattle.std.specs.Ordering.{is_lt}
use Rattle.vr_types.specs.Content.{place_cmp}
use Rattle.vr_event.specs.declared.define.Define.{Define}
use Rattle.vr_event.specs.declared.define.Define.TheVariants.{Again, Done, Fault, Full, Held}
use Rattle.vr_event.specs.declared.define.Define.TheVariants.{NoArea, NoRoom}
use Rattle.vr_job.specs.Catalogs.{with_spelled}
use Rattle.vr_job.specs.Serving.{ShowUndoing}
use Rattle.vr_job.proofs.Undoing.{asked-shows, step-shows}
use Rattle.vr_job.proofs.UtilityMade.{HasMadeBy, IsBegunBy, made-ended, made-in-doubt, made-staged}
use Rattle.vr_job.proofs.UtilityMade.{one-of, still-by}

-- a fault of a write stops the volume
abbrev pub has_failed : Result Define OutOfMemory → Bool
has_failed (Ok (Done area)) = false
has_failed (Ok Again) = false
has_failed (Ok NoArea) = false
has_failed (Ok NoRoom) = false
has_failed (Ok Held) = false
has_failed (Ok Full) = false
has_failed (Ok (Fault Read)) = false
has_failed (Ok (Fault Write)) = true
has_failed (Err why) = false

-- the catalog with one cluster more is that with its entry
pub same-with : (new : CatEntry) (entries : List CatEntry)
    → with_cluster new entries ≡ with_entry new entries
same-with new [] = refl
same-with new (entry ∷ entries) = ap (λ (rest : List CatEntry).
    if is_lt (place_cmp (entry_place new) (entry_place entry)) then new ∷ entry ∷ entries
    else entry ∷ rest) (same-with new entries)

module _ (after line : ℕ) (old : FileNow) where
  abbrev unit : UnitOfRecovery
  unit = utility_unit old

  -- ---- a definition

  module _ (volume : ℕ) (entry : CatEntry) (area : AreaNo)
      (spells : entry_of (spelling (entry_with_area entry area))
      ≡ Some (entry_with_area entry area)) where
    abbrev new : CatEntry
    new = entry_with_area entry area

    abbrev add : Request
    add = entry_add volume new

    abbrev recorded : FileNow
    recorded = added after unit line entry.part area add (entry_place new)
        (with_cluster new old.catalog) old

    abbrev claim : Entry
    claim = entry_next old.entries after unit line (Claimed entry.part area)

    abbrev record-of : Entry
    record-of = entry_next (old.entries ++ claim ∷ []) 0 unit line
        (Asked add (DoneReply 0 (Some (entry_place new)) None))

    -- the record has the stamp after that of the claim
    record-next : record-of.stamp ≡ claim.stamp + 1
    record-next = omega (arith, last_stamp-append 0 old.entries claim)

    recorded-shows : ShowUndoing old → ShowUndoing recorded
    recorded-shows shows = asked-shows unit line add
        (with_event after unit line (Claimed entry.part area) old) recorded (record-of ∷ []) refl
        (record {
          reply = DoneReply 0 (Some (entry_place new)) None;
          entry = record-of;
          rest = [];
          is = refl;
          unit_is = refl;
          line_is = refl;
          what_is = refl;
          follows = inl refl;
        }) (one-of after line old record-of refl) (λ other differs. refl) refl
        (step-shows old (with_event after unit line (Claimed entry.part area) old) claim refl refl
        shows unit line Commit (refl, refl, inr (inl (entry.part, area, refl))) refl
        (one-of after line old claim refl))

    catalog-made : with_cluster new old.catalog
        ≡ with_spelled (entry_of (spelling new)) old.catalog
    catalog-made = same-with new old.catalog
        ∙ ap (λ (o : Option CatEntry). with_spelled o old.catalog) (sym spells)

    begun-by : IsBegunBy after line old recorded (claim ∷ record-of ∷ [])
    begun-by = record {
      entries = append_assoc old.entries (claim ∷ []) (record-of ∷ []);
      next = (refl, (record-next, tt));
      last = last_stamp-append 0 (old.entries ++ claim ∷ []) record-of;
      own = All-cons (IsOfCommand line) claim (record-of ∷ []) (refl, refl)
          (All-cons (IsOfCommand line) record-of [] (refl, refl) (All-nil (IsOfCommand line)));
      geometry = refl;
      catalog = catalog-made;
      numbers = refl;
      stopped = refl;
      unread = refl;
      goes = refl;
      shows = recorded-shows;
    }

    made-defined : HasMadeBy false after line old
        (file_defined volume after unit line entry area old)
    made-defined = made-ended after line old recorded (claim ∷ record-of ∷ []) begun-by

    made-doubted : HasMadeBy true after line old
        (file_in_doubt volume after unit line entry area old)
    made-doubted = made-in-doubt after line old recorded (claim ∷ record-of ∷ []) begun-by

  -- ---- by what it came to

  module _ (volume : ℕ) (entry : CatEntry)
      (spells : (area : AreaNo) → area.0 < area_count old.geometry
      → entry_of (spelling (entry_with_area entry area)) ≡ Some (entry_with_area entry area))
      (new : FileNow) where
    pub made-by : (result : Result Define OutOfMemory)
        → ((area : AreaNo) → result ≡ Ok (Done area) → area.0 < area_count old.geometry)
        → IsDefineEntered result volume after unit line entry old new
        → HasMadeBy (has_failed result) after line old new
    made-by (Ok (Done area)) within is = subst (HasMadeBy false after line old) (sym is)
        (made-defined volume entry area (spells area (within area refl)))
    made-by (Ok Again) within is = subst (HasMadeBy false after line old) (sym is.2)
        (made-staged after line old is.0 is.1)
    made-by (Ok NoArea) within is = still-by after line old false new is
    made-by (Ok NoRoom) within is = still-by after line old false new is
    made-by (Ok Held) within is = still-by after line old false new is
    made-by (Ok Full) within is = still-by after line old false new is
    made-by (Ok (Fault Read)) within is = still-by after line old false new is
    made-by (Ok (Fault Write)) within is = ⊎_elim
        (λ alone. still-by after line old true new alone)
        (λ doubt. subst (HasMadeBy true after line old) (sym doubt.1)
        (made-doubted volume entry doubt.0 (spells doubt.0 doubt.2))) is
    made-by (Err why) within is = still-by after line old false new is
