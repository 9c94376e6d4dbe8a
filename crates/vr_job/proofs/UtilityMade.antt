-- What an event of the utilities adds to the history of a volume, and what it leaves of the rest
-- that the record file has in memory; one that enters nothing, or the fault of a write alone, or a
-- stage of the catalog; and one that enters entries of a unit, and ends it.
use Rattle.std.proofs.Common.{◌≡◌, ◌∙◌, ◌+◌, ◌<◌, ◌≤◌, ◌||◌, ℕ, Bool, true, false, List, [], ◌∷◌}
use Rattle.std.proofs.Common.{◌++◌, All, Option, Some, None, ap, append_assoc, arith, inl, inr, max}
use Rattle.std.proofs.Common.{refl, subst, sym}
use Rattle.std.specs.Prelude.{is_some}
use Rattle.std.proofs.lemmas.List.{append-nil}
use Rattle.std.proofs.lemmas.List.Elements.{All-append, All-cons, All-nil}
use Rattle.std.proofs.lemmas.List.Folds.{list_any-append}
use Rattle.vr_types.specs.Faults.{Faults}
use Rattle.vr_types.specs.declared.fault.DeviceFault.TheVariants.{Write}
use Rattle.vr_types.specs.declared.reply.Refusal.TheVariants.{WriteFault}
use Rattle.vr_types.specs.declared.reply.Reply.TheVariants.{Done as DoneReply, Refused}
use Rattle.vr_types.specs.declared.request.Request.TheVariants.{Commit}
use Rattle.vr_types.specs.declared.unit.AreaNo.{AreaNo}
use Rattle.vr_types.specs.declared.unit.Unit.{Unit as UnitOfRecovery}
use Rattle.vr_history.proofs.CallerLemmas.{last_stamp-append}
use Rattle.vr_history.specs.Merged.{last_stamp}
use Rattle.vr_history.specs.declared.entry.Entry.{Entry}
use Rattle.vr_history.specs.declared.entry.What.TheVariants.{Asked, Claimed, Faulted, Split}
use Rattle.vr_ledger.specs.Entries.{IsOf}
use Rattle.vr_record_file.specs.Now.{FileNow, ended, entry_next, failed, faulted, has_deck, number_of}
use Rattle.vr_record_file.specs.Now.{with_event}
use Rattle.vr_record_file.specs.declared.numbers.DeckNumber.{DeckNumber}
use Rattle.vr_ams_define.specs.Grown.{IsOfCommand}
use Rattle.vr_event.proofs.CallerLemmas.{raised-decks, raised-others}
use Rattle.vr_event.specs.Defining.{catalog_part, utility_unit}
use Rattle.vr_event.specs.Made.{AreNext}
use Rattle.vr_event.specs.Staging.{stage_entered}
use Rattle.vr_job.specs.Catalogs.{catalog_by}
use Rattle.vr_job.specs.Faultless.{has_stopped, is_stop}
use Rattle.vr_job.specs.Going.{catalog-append}
use Rattle.vr_job.specs.ReadFaults.{read-faults-append, read_faults}
use Rattle.vr_job.specs.Serving.{ShowUndoing}
use Rattle.vr_job.proofs.Undoing.{asked-shows, fault-shows, step-shows}

-- ---- the history

-- The entries of the event are of the command on its line, at the stamps that come next; they make
-- the catalog, and stop the volume where a write failed alone.
pub record HasMadeBy (fails : Bool) (after line : ℕ) (old new : FileNow) : Type 0 where
  pub made : List Entry
  pub entries : new.entries ≡ old.entries ++ made
  pub next : AreNext (max (last_stamp 0 old.entries) after) made
  pub own : All (IsOfCommand line) made
  pub geometry : new.geometry ≡ old.geometry
  pub catalog : new.catalog ≡ catalog_by old.catalog made
  pub decks : (deck : ℕ) → has_deck deck new.numbers ≡ has_deck deck old.numbers
  pub unread : read_faults made ≡ 0
  pub has_stop : has_stopped made ≡ fails
  pub stays : fails ≡ false → new.stopped ≡ old.stopped
  pub stops : fails ≡ true → is_some new.stopped ≡ true
  pub shows : ShowUndoing old → ShowUndoing new

-- ---- the counts of faults

-- that of reads never falls, and that of writes rises where one failed alone
pub record HasRisen (fails : Bool) (before now : Faults) : Type 0 where
  pub reads : before.reads ≤ now.reads
  pub writes : before.writes ≤ now.writes
  pub calm : fails ≡ false → now.writes ≡ before.writes
  pub rose : fails ≡ true → before.writes < now.writes

pub false-true : false ≡ true → ⊥
false-true is = cc

-- none rose
pub none-rose : (before now : Faults) → now ≡ before → HasRisen false before now
none-rose before now same = record {
  reads = omega (arith, ap (λ (f : Faults). f.reads) same);
  writes = omega (arith, ap (λ (f : Faults). f.writes) same);
  calm = λ is. ap (λ (f : Faults). f.writes) same;
  rose = λ is. absurd (false-true is);
}

-- a read failed, and no write
pub read-rose : (before now : Faults) → before.reads < now.reads → now.writes ≡ before.writes
    → HasRisen false before now
read-rose before now reads same = record {
  reads = omega (arith, reads);
  writes = omega (arith, same);
  calm = λ is. same;
  rose = λ is. absurd (false-true is);
}

-- a write failed
pub write-rose : (before now : Faults) → before.reads ≤ now.reads → before.writes < now.writes
    → HasRisen true before now
write-rose before now reads rose = record {
  reads = reads;
  writes = omega (arith, rose);
  calm = λ is. absurd (false-true (sym is));
  rose = λ is. rose;
}

-- ---- an event that enters nothing, or the fault of a write alone

-- It entered nothing; or a write failed, and that fault stops the volume.
abbrev pub IsStillBy : Bool → ℕ → UnitOfRecovery → ℕ → FileNow → FileNow → Type 0
IsStillBy false after unit line old new = new ≡ old
IsStillBy true after unit line old new = new ≡ faulted after unit line old

module _ (after line : ℕ) (old : FileNow) where
  abbrev Own : Entry → Type 0
  Own entry = IsOfCommand line entry

  pub made-same : HasMadeBy false after line old old
  made-same = record {
    made = [];
    entries = sym (append-nil old.entries);
    next = tt;
    own = All-nil Own;
    geometry = refl;
    catalog = refl;
    decks = λ deck. refl;
    unread = refl;
    has_stop = refl;
    stays = λ is. refl;
    stops = λ is. absurd (false-true is);
    shows = λ shows. shows;
  }

  made-faulted : HasMadeBy true after line old (faulted after (utility_unit old) line old)
  made-faulted = record {
    made = entry ∷ [];
    entries = refl;
    next = (refl, tt);
    own = All-cons Own entry [] (refl, refl) (All-nil Own);
    geometry = refl;
    catalog = refl;
    decks = λ deck. refl;
    unread = refl;
    has_stop = refl;
    stays = λ is. absurd (false-true (sym is));
    stops = λ is. refl;
    shows = λ shows. fault-shows old (faulted after (utility_unit old) line old) entry refl refl
        shows Write refl;
  }
    where
      entry : Entry
      entry = entry_next old.entries after (utility_unit old) line (Faulted Write)

  pub still-by : (fails : Bool) (new : FileNow)
      → IsStillBy fails after (utility_unit old) line old new
      → HasMadeBy fails after line old new
  still-by false new is = subst (HasMadeBy false after line old) (sym is) made-same
  still-by true new is = subst (HasMadeBy true after line old) (sym is) made-faulted

  -- ---- a stage of the catalog

  -- an entry of its unit is of deck 0
  pub one-of : (entry : Entry) → entry.unit ≡ utility_unit old → All (IsOf 0) (entry ∷ [])
  one-of entry is = All-cons (IsOf 0) entry [] (ap (λ (u : UnitOfRecovery). u.deck) is)
      (All-nil (IsOf 0))

  made-claimed : (area : AreaNo)
      → HasMadeBy false after line old
      (with_event after (utility_unit old) line (Claimed catalog_part area) old)
  made-claimed area = record {
    made = entry ∷ [];
    entries = refl;
    next = (refl, tt);
    own = All-cons Own entry [] (refl, refl) (All-nil Own);
    geometry = refl;
    catalog = refl;
    decks = λ deck. refl;
    unread = refl;
    has_stop = refl;
    stays = λ is. refl;
    stops = λ is. absurd (false-true is);
    shows = λ shows. step-shows old
        (with_event after (utility_unit old) line (Claimed catalog_part area) old) entry refl refl
        shows (utility_unit old) line Commit (refl, refl, inr (inl (catalog_part, area, refl))) refl
        (one-of entry refl);
  }
    where
      entry : Entry
      entry = entry_next old.entries after (utility_unit old) line (Claimed catalog_part area)

  made-split : HasMadeBy false after line old
      (with_event after (utility_unit old) line (Split catalog_part) old)
  made-split = record {
    made = entry ∷ [];
    entries = refl;
    next = (refl, tt);
    own = All-cons Own entry [] (refl, refl) (All-nil Own);
    geometry = refl;
    catalog = refl;
    decks = λ deck. refl;
    unread = refl;
    has_stop = refl;
    stays = λ is. refl;
    stops = λ is. absurd (false-true is);
    shows = λ shows. step-shows old
        (with_event after (utility_unit old) line (Split catalog_part) old) entry refl refl shows
        (utility_unit old) line Commit (refl, refl, inl (catalog_part, refl)) refl
        (one-of entry refl);
  }
    where
      entry : Entry
      entry = entry_next old.entries after (utility_unit old) line (Split catalog_part)

  pub made-staged : (split : Bool) (taken : Option AreaNo) → HasMadeBy false after line old
      (stage_entered after (utility_unit old) line catalog_part split taken old)
  made-staged split (Some area) = made-claimed area
  made-staged true None = made-split
  made-staged false None = made-same

-- ---- an event that ends a unit

-- each of these entries is next, and then each of those
next-then : (before : ℕ) (first more : List Entry) → AreNext before first
    → AreNext (last_stamp before first) more → AreNext before (first ++ more)
next-then before [] more next later = later
next-then before (entry ∷ first) more next later =
    (next.0, next-then entry.stamp first more next.1 later)

-- Entries were made, the next ones, of a unit that goes on.
pub record IsBegunBy (after line : ℕ) (old begun : FileNow) (first : List Entry) : Type 0 where
  pub entries : begun.entries ≡ old.entries ++ first
  pub next : AreNext (max (last_stamp 0 old.entries) after) first
  pub last : last_stamp 0 begun.entries
      ≡ last_stamp (max (last_stamp 0 old.entries) after) first
  pub own : All (IsOfCommand line) first
  pub geometry : begun.geometry ≡ old.geometry
  pub catalog : begun.catalog ≡ catalog_by old.catalog first
  pub numbers : begun.numbers ≡ old.numbers
  pub stopped : begun.stopped ≡ old.stopped
  pub unread : read_faults first ≡ 0
  pub goes : has_stopped first ≡ false
  pub shows : ShowUndoing old → ShowUndoing begun

module _ (after line : ℕ) (old begun : FileNow) (first : List Entry)
    (is : IsBegunBy after line old begun first) where
  abbrev unit : UnitOfRecovery
  unit = utility_unit old

  -- its COMMIT is done
  abbrev commit : Entry
  commit = entry_next begun.entries 0 unit line (Asked Commit (DoneReply 0 None None))

  -- or refused, since a write failed, and that fault stops the volume
  abbrev refused : Entry
  refused = entry_next begun.entries 0 unit line (Asked Commit (Refused WriteFault))

  abbrev fault : Entry
  fault = entry_next (begun.entries ++ refused ∷ []) 0 unit line (Faulted Write)

  all-more : (more : List Entry) → begun.entries ++ more ≡ old.entries ++ (first ++ more)
  all-more more = ap (λ (es : List Entry). es ++ more) is.entries
      ∙ append_assoc old.entries first more

  all-next : (more : List Entry) → AreNext (last_stamp 0 begun.entries) more
      → AreNext (max (last_stamp 0 old.entries) after) (first ++ more)
  all-next more next = next-then (max (last_stamp 0 old.entries) after) first more is.next
      (subst (λ (n : ℕ). AreNext n more) is.last next)

  current : unit ≡ utility_unit begun
  current = ap (λ (them : List DeckNumber). record { deck = 0; number = number_of them 0 })
      (sym is.numbers)

  all-own : (more : List Entry) → All (IsOfCommand line) more
      → All (IsOfCommand line) (first ++ more)
  all-own more own = All-append (IsOfCommand line) first more is.own own

  all-stop : (more : List Entry) → has_stopped (first ++ more) ≡ has_stopped more
  all-stop more = list_any-append (λ (entry : Entry). is_stop entry.what) first more
      ∙ ap (λ (b : Bool). b || has_stopped more) is.goes

  pub made-ended : HasMadeBy false after line old
      (with_event 0 unit line (Asked Commit (DoneReply 0 None None)) (ended unit begun))
  made-ended = record {
    made = first ++ commit ∷ [];
    entries = all-more (commit ∷ []);
    next = all-next (commit ∷ []) (omega arith, tt);
    own = all-own (commit ∷ [])
        (All-cons (IsOfCommand line) commit [] (refl, refl) (All-nil (IsOfCommand line)));
    geometry = is.geometry;
    catalog = is.catalog ∙ sym (catalog-append old.catalog first (commit ∷ []));
    decks = λ deck. raised-decks 0 deck begun.numbers ∙ ap (has_deck deck) is.numbers;
    unread = omega (arith, read-faults-append first (commit ∷ []), is.unread);
    has_stop = all-stop (commit ∷ []);
    stays = λ calm. is.stopped;
    stops = λ fails. absurd (false-true fails);
    shows = λ shows. asked-shows unit line Commit begun
        (with_event 0 unit line (Asked Commit (DoneReply 0 None None)) (ended unit begun))
        (commit ∷ []) refl
        (record {
          reply = DoneReply 0 None None;
          entry = commit;
          rest = [];
          is = refl;
          unit_is = refl;
          line_is = refl;
          what_is = refl;
          follows = inl refl;
        }) (one-of after line old commit refl)
        (λ other differs. raised-others 0 other begun.numbers differs) current (is.shows shows);
  }

  pub made-in-doubt : HasMadeBy true after line old (failed 0 unit line Commit begun)
  made-in-doubt = record {
    made = first ++ refused ∷ fault ∷ [];
    entries = append_assoc begun.entries (refused ∷ []) (fault ∷ [])
        ∙ all-more (refused ∷ fault ∷ []);
    next = all-next (refused ∷ fault ∷ [])
        (omega arith, (omega (arith, last_stamp-append 0 begun.entries refused), tt));
    own = all-own (refused ∷ fault ∷ [])
        (All-cons (IsOfCommand line) refused (fault ∷ []) (refl, refl)
        (All-cons (IsOfCommand line) fault [] (refl, refl) (All-nil (IsOfCommand line))));
    geometry = is.geometry;
    catalog = is.catalog ∙ sym (catalog-append old.catalog first (refused ∷ fault ∷ []));
    decks = λ deck. ap (has_deck deck) is.numbers;
    unread = omega (arith, read-faults-append first (refused ∷ fault ∷ []), is.unread);
    has_stop = all-stop (refused ∷ fault ∷ []);
    stays = λ calm. absurd (false-true (sym calm));
    stops = λ fails. refl;
    shows = λ shows. asked-shows unit line Commit begun (failed 0 unit line Commit begun)
        (refused ∷ fault ∷ []) (append_assoc begun.entries (refused ∷ []) (fault ∷ []))
        (record {
          reply = Refused WriteFault;
          entry = refused;
          rest = fault ∷ [];
          is = refl;
          unit_is = refl;
          line_is = refl;
          what_is = refl;
          follows = inr (record {
            refused = refl;
            fault = fault;
            is = refl;
            unit_is = refl;
            line_is = refl;
            what_is = refl;
          });
        })
        (All-cons (IsOf 0) refused (fault ∷ []) refl (one-of after line old fault refl))
        (λ other differs. refl) current (is.shows shows);
  }
