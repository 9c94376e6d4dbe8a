-- What one event leaves of a volume, and what goes on from it.
use Rattle.std.proofs.Common.{◌≡◌, ◌≢◌, inl, inr, ⊎_elim, ◌∙◌, ℕ, Bool, true, List, [], ◌∷◌, ◌++◌}
use Rattle.std.proofs.Common.{Option, Some, None, refl, sym, ap, subst, ◌⊎◌, append_assoc, arith}
use Rattle.std.proofs.Common.{◌==◌, ◌<◌, IsTrue, false, max}
use Rattle.std.specs.Prelude.{is_some}
use Rattle.std.specs.List.{AllByRecursion}
use Rattle.std.proofs.lemmas.Bool.{true≢false}
use Rattle.std.proofs.lemmas.List.{append-nil, append_cancel_left}
use Rattle.vr_types.specs.Faults.{Faults}
use Rattle.vr_types.specs.Image.{Image}
use Rattle.vr_types.specs.Moments.{Guards}
use Rattle.vr_types.specs.Seen.{Left, Seen}
use Rattle.vr_types.specs.declared.fault.DeviceFault.TheVariants.{Write}
use Rattle.vr_types.specs.declared.geometry.Geometry.{Geometry}
use Rattle.vr_types.specs.declared.reply.Refusal.TheVariants.{WriteFault}
use Rattle.vr_types.specs.declared.reply.Reply.{Reply}
use Rattle.vr_types.specs.declared.reply.Reply.TheVariants.{Done as DoneReply, Refused}
use Rattle.vr_types.specs.declared.request.Request.{Request}
use Rattle.vr_types.specs.declared.unit.Unit.{Unit as UnitOfRecovery}
use Rattle.vr_types.proofs.CallerLemmas.{guards-then, guards-weaken}
use Rattle.vr_history.specs.Legal.{AreSteps, state_of}
use Rattle.vr_history.specs.Merged.{IsStamped, last_stamp}
use Rattle.vr_history.specs.State.{State}
use Rattle.vr_history.specs.declared.entry.Entry.{Entry}
use Rattle.vr_history.specs.declared.entry.What.TheVariants.{Asked, Faulted}
use Rattle.vr_record_file.specs.Now.{FileNow, asked_failing, entry_next, failed, has_deck, number_of}
use Rattle.vr_record_file.specs.Now.{IsOfClusterByDeck, state_now}
use Rattle.vr_record_file.specs.declared.numbers.DeckNumber.{DeckNumber}
use Rattle.vr_event.specs.Acting.{IsActed, IsLeftIn}
use Rattle.vr_event.specs.Made.{HasMade}
use Rattle.vr_event.specs.Nearer.{EntersSplits, IsNearer}
use Rattle.vr_event.specs.Volume.{IsHeld, IsWhole, VolumeNow}
use Rattle.vr_event.specs.declared.act.Act.{Act}
use Rattle.vr_event.specs.declared.act.Act.TheVariants.{Again, Done}
use Rattle.vr_event.proofs.CallerLemmas.{acted_made}
use Rattle.vr_store.specs.Left.{left_for}
use Rattle.vr_store.specs.Store.{StoreNow}
use Rattle.vr_volume.specs.Crashes.{RecoversTo}
use Rattle.vr_worker.proofs.CallerLemmas.{stamped-above}
use Rattle.vr_job.specs.Committed.{KeepTheCatalog}
use Rattle.vr_job.specs.Crash.{HaveDoneCommit, IsCommit, IsDoneCommit, IsLeftBy}
use Rattle.vr_job.specs.Crash.IsLeftAt.{Counted}
use Rattle.vr_job.specs.Events.{FaultsFollow, HasStopped, IsLeftWhile, IsOfEvents, KeepsAtRest}
use Rattle.vr_job.specs.Events.{LeavesAtRest, OwnsAtRest}
use Rattle.vr_job.specs.Faultless.{AreFaultless, has_stopped}
use Rattle.vr_job.specs.Going.{GoesOn, HasRun, went-then}
use Rattle.vr_job.specs.Serving.{IsNearerFor, IsServing, LeavesLess, StaysServing, is_done, unit_of}
use Rattle.vr_job.proofs.Crashing.{held-left, left-more, left-while}
use Rattle.vr_job.proofs.DeckEvents.{catalog-stays, made-decks, made-once, made-own}
use Rattle.vr_job.proofs.Faultless.{NoFault, acted-faultless}
use Rattle.vr_job.proofs.Keeping.{event-keeps}
use Rattle.vr_job.proofs.Kept.{AreSized, held-kept}
use Rattle.vr_job.proofs.Lacking.{SaysWhatLacks, event-lacking}
use Rattle.vr_job.proofs.Owning.{held-owners}
use Rattle.vr_job.proofs.ReadFaults.{acted-reads}
use Rattle.vr_job.proofs.ShownStops.{acted-shows}
use Rattle.vr_job.proofs.Splitting.{held-splits}
use Rattle.vr_job.proofs.Stopping.{commit-first, commit-went, faults-follow, going-on, stop-of}
use Rattle.vr_job.proofs.Stopping.{stopped-more}
use Rattle.vr_job.proofs.Undoing.{shows-same}
use Rattle.vr_job.proofs.Unfailed.{acted-unfailed, acted-unread}
use Rattle.vr_job.proofs.WriteFaults.{acted-rose}

-- stamps rise on
pub stamped-more : (before : ℕ) (entries more : List Entry) → IsStamped before entries
    → IsStamped (last_stamp before entries) more → IsStamped before (entries ++ more)
stamped-more before [] more first second = second
stamped-more before (entry ∷ entries) more first second =
    (first.0, stamped-more entry.stamp entries more first.1 second)

-- ---- one event

some-none : (stamp : ℕ) → ◌≡◌ {A = Option ℕ} (Some stamp) None → ⊥
some-none stamp same = cc

module _ {B : Type 0} (seen : B → Seen) (faults : B → Faults) (old new : VolumeNow B) (act : Act)
    (after : ℕ) (unit : UnitOfRecovery) (line : ℕ) (request : Request)
    (acted : IsActed (faults old.blocks) (faults new.blocks) act after unit line request old.file
    new.file) where
  -- what an event adds to the history
  pub made-in : HasMade act after unit line request old.file new.file
  made-in = acted_made (faults old.blocks) (faults new.blocks) act after unit line request old.file
      new.file acted

  -- what goes on over it, whether or not the device reports its contents,
  pub event-on : IsWhole seen new → new.number ≡ old.number → (unit.deck == 0) ≡ false
      → (old.file.stopped ≢ None → new.blocks ≡ old.blocks) → GoesOn seen faults old new
  event-on whole number own untouched = record {
    whole = whole;
    number = number;
    geometry = made-in.geometry;
    catalog = made-in.catalog ∙ sym (catalog-stays old.file.catalog made-in.made
        (made-decks act unit line request made-in.made made-in.by own));
    decks = λ deck has. made-in.decks deck ∙ has;
    made = made-in.made;
    entries = made-in.entries;
    stamped = λ before. subst (IsStamped 0) (sym made-in.entries)
        (stamped-more 0 old.file.entries made-in.made before
        (stamped-above (last_stamp 0 old.file.entries) (max (last_stamp 0 old.file.entries) after)
        made-in.made (omega arith) made-in.stamped));
    reads = acted-reads old.file new.file made-in.made made-in.entries (faults old.blocks)
        (faults new.blocks) act after unit line request acted;
    writes = acted.writes;
    stops = λ same. (no-fault same).stopped;
    quiet = acted.quiet;
    stays = λ stamp is. (no-fault (ap (λ (b : B). (faults b).writes)
        (untouched (λ none. some-none stamp (sym is ∙ none))))).stopped ∙ is;
    faultless = λ same. (no-fault same).faultless;
    shows = acted-shows (faults old.blocks) (faults new.blocks) act after unit line request old.file
        new.file acted;
  }
    where
      no-fault : (faults new.blocks).writes ≡ (faults old.blocks).writes → NoFault old.file new.file
      no-fault same = acted-faultless (faults old.blocks) (faults new.blocks) act after unit line
          request old.file new.file same acted

  -- ---- what a crash leaves

  module _ (opening : State) where
    -- as a COMMIT ends its unit
    commit-left : (geometry : Geometry) (image : Image) (reply : Reply) (rest : List Entry)
        → new.file.entries ≡ old.file.entries
        ++ entry_next old.file.entries after unit line (Asked request reply) ∷ rest
        → IsCommit (Asked request reply)
        → RecoversTo geometry old.number
        (state_of geometry opening old.file.entries) (unit ∷ []) image
        → IsLeftBy geometry old.number opening new.file.entries image
    commit-left geometry image reply rest entries commit recovers = record {
      before = old.file.entries;
      after = entry_next old.file.entries after unit line (Asked request reply) ∷ rest;
      is = entries;
      left = Counted (unit ∷ []) (inr (_, rest, refl, commit, refl)) recovers;
    }

    fails-entries : new.file ≡ failed after unit line request old.file
        → new.file.entries ≡ old.file.entries
        ++ entry_next old.file.entries after unit line (Asked request (Refused WriteFault))
        ∷ entry_next (asked_failing after unit line request old.file).entries 0 unit line
        (Faulted Write) ∷ []
    fails-entries fails = ap (λ (f : FileNow). f.entries) fails
        ∙ append_assoc old.file.entries
        (entry_next old.file.entries after unit line (Asked request (Refused WriteFault)) ∷ [])
        (entry_next (asked_failing after unit line request old.file).entries 0 unit line
        (Faulted Write) ∷ [])

    -- each image that is left in the event is left by the history after it
    in-left : (image : Image)
        → IsLeftIn old.file.geometry old.number (state_now opening old.file) after unit line request
        old.file new.file image
        → IsLeftBy old.file.geometry old.number opening new.file.entries image
    in-left image is = ⊎_elim
        (λ rests. record {
          before = old.file.entries;
          after = made-in.made;
          is = made-in.entries;
          left = Counted [] (inl refl) rests;
        })
        (λ commit. ⊎_elim
        (λ ended. commit-left old.file.geometry image (DoneReply 0 None None) []
        (ap (λ (f : FileNow). f.entries) ended)
        (inl (ap (λ (r : Request). Asked r (DoneReply 0 None None)) commit.0)) commit.2)
        (λ fails. commit-left old.file.geometry image (Refused WriteFault)
        (entry_next (asked_failing after unit line request old.file).entries 0 unit line
        (Faulted Write) ∷ [])
        (fails-entries fails)
        (inr (ap (λ (r : Request). Asked r (Refused WriteFault)) commit.0)) commit.2)
        commit.1) is

    -- what was left before is left still
    before-left : (image : Image)
        → IsLeftBy old.file.geometry old.number opening old.file.entries image
        → IsLeftBy old.file.geometry old.number opening new.file.entries image
    before-left image is =
        subst (λ (entries : List Entry). IsLeftBy old.file.geometry old.number opening entries image)
        (sym made-in.entries)
        (left-more old.file.geometry old.number opening old.file.entries made-in.made image is)

    -- and by the history before it, perhaps with the unit whose COMMIT it enters
    commit-while : (image : Image) (reply : Reply) (rest : List Entry)
        → new.file.entries ≡ old.file.entries
        ++ entry_next old.file.entries after unit line (Asked request reply) ∷ rest
        → IsCommit (Asked request reply)
        → RecoversTo old.file.geometry old.number (state_now opening old.file) (unit ∷ []) image
        → IsLeftWhile old.file.geometry old.number opening old.file.entries made-in.made image
    commit-while image reply rest entries commit recovers =
        left-while old.file.geometry old.number opening old.file.entries made-in.made (unit ∷ [])
        image
        (inr (
          _,
          rest,
          append_cancel_left old.file.entries made-in.made _ (sym made-in.entries ∙ entries),
          commit,
          refl,
        ))
        recovers

    in-while : (image : Image)
        → IsLeftIn old.file.geometry old.number (state_now opening old.file) after unit line request
        old.file new.file image
        → IsLeftWhile old.file.geometry old.number opening old.file.entries made-in.made image
    in-while image is = ⊎_elim
        (λ rests. left-while old.file.geometry old.number opening old.file.entries made-in.made []
        image (inl refl) rests)
        (λ commit. ⊎_elim
        (λ ended. commit-while image (DoneReply 0 None None) []
        (ap (λ (f : FileNow). f.entries) ended)
        (inl (ap (λ (r : Request). Asked r (DoneReply 0 None None)) commit.0)) commit.2)
        (λ fails. commit-while image (Refused WriteFault)
        (entry_next (asked_failing after unit line request old.file).entries 0 unit line
        (Faulted Write) ∷ [])
        (fails-entries fails)
        (inr (ap (λ (r : Request). Asked r (Refused WriteFault)) commit.0)) commit.2)
        commit.1) is

    module _ (first : B) (run : HasRun seen faults opening first old)
        (number : new.number ≡ old.number) (own : (unit.deck == 0) ≡ false)
        (whole : IsWhole seen old)
        (moments : old.file.stopped ≡ None → Guards (seen old.blocks) (seen new.blocks)
        (IsLeftIn old.store.log.geometry old.number (state_now opening old.file) after unit line
        request old.file new.file))
        (stays : old.file.stopped ≢ None → new.blocks ≡ old.blocks)
        (sized : AreSized (seen new.blocks)) (cur : Left (seen new.blocks) (seen new.blocks).cur)
        (lacks : SaysWhatLacks seen opening old new after unit line request)
        (enters : EntersSplits old new) where
      abbrev Left-by : Image → Type 0
      Left-by = IsLeftBy old.file.geometry old.number opening new.file.entries

      so-far : Guards (seen first) (seen old.blocks) Left-by
      so-far = guards-weaken (seen first) (seen old.blocks)
          (IsLeftBy old.file.geometry old.number opening old.file.entries) Left-by run.left
          before-left

      by_stop : (stopped : Option ℕ) → old.file.stopped ≡ stopped
          → Guards (seen first) (seen new.blocks) Left-by
      by_stop None going = guards-then (seen first) (seen old.blocks) (seen new.blocks) Left-by
          so-far
          (guards-weaken (seen old.blocks) (seen new.blocks)
          (IsLeftIn old.file.geometry old.number (state_now opening old.file) after unit line request
          old.file new.file) Left-by
          (subst (λ (g : Geometry). Guards (seen old.blocks) (seen new.blocks)
          (IsLeftIn g old.number (state_now opening old.file) after unit line request old.file
          new.file)) (whole.geometry going) (moments going))
          in-left)
      by_stop (Some stamp) is = subst (λ (b : B). Guards (seen first) (seen b) Left-by)
          (sym (stays (λ none. some-none stamp (sym is ∙ none)))) so-far

      by_while : (stopped : Option ℕ) → old.file.stopped ≡ stopped
          → (new.blocks ≡ old.blocks) ⊎ Guards (seen old.blocks) (seen new.blocks)
          (IsLeftWhile old.file.geometry old.number opening old.file.entries made-in.made)
      by_while None going = inr (guards-weaken (seen old.blocks) (seen new.blocks)
          (IsLeftIn old.file.geometry old.number (state_now opening old.file) after unit line request
          old.file new.file)
          (IsLeftWhile old.file.geometry old.number opening old.file.entries made-in.made)
          (subst (λ (g : Geometry). Guards (seen old.blocks) (seen new.blocks)
          (IsLeftIn g old.number (state_now opening old.file) after unit line request old.file
          new.file)) (whole.geometry going) (moments going))
          in-while)
      by_while (Some stamp) is = inl (stays (λ none. some-none stamp (sym is ∙ none)))

      -- a fault is entered after a request alone that was refused for it
      follow : FaultsFollow made-in.made
      follow = faults-follow act unit line request made-in.made made-in.by

      -- its entries are steps of the history
      steps : IsHeld seen opening new
          → AreSteps old.file.geometry opening (old.file.entries ++ made-in.made)
      steps held = subst (AreSteps old.file.geometry opening) made-in.entries
          (subst (λ (g : Geometry). AreSteps g opening new.file.entries) made-in.geometry
          held.file.legal.steps)

      -- it goes on where a COMMIT was answered 0
      goes-on : IsHeld seen opening new → HaveDoneCommit made-in.made → new.file.stopped ≡ None
      goes-on held done = going-on old.file new.file made-in.made made-in.stops follow done
          ∙ run.held.file.now.stopped
          ∙ commit-went old.file.geometry opening old.file.entries one.0 one.1
          (subst (λ (es : List Entry). AreSteps old.file.geometry opening
          (old.file.entries ++ es)) one.2 (steps held)) one.3
        where
          one : (entry : Entry) × (rest : List Entry) × (made-in.made ≡ entry ∷ rest)
              × IsDoneCommit entry.what
          one = commit-first act unit line request made-in.made made-in.by done

      -- a volume that hasn't stopped hadn't before
      went-on : IsWhole seen new → new.file.stopped ≡ None → old.file.stopped ≡ None
      went-on whole-new going = by_old old.file.stopped refl
        where
          by_old : (was : Option ℕ) → old.file.stopped ≡ was → old.file.stopped ≡ None
          by_old None is = is
          by_old (Some stamp) is = absurd (some-none stamp
              (sym ((event-on whole-new number own stays).stays stamp is) ∙ going))

      one-event : IsWhole seen new → IsHeld seen opening new
          → IsOfEvents seen faults old.file.geometry old.number opening first new.blocks
          new.file.entries
      one-event whole-new held = record {
        events = record {
          deck = unit.deck;
          blocks = old.blocks;
          entries = old.file.entries;
          made = made-in.made;
        } ∷ run.events.events;
        are = (
          record {
            entries_are = made-in.entries;
            own = made-own act unit line request made-in.made made-in.by;
            utilities = λ none. absurd (true≢false (ap (λ (deck : ℕ). deck == 0) (sym none) ∙ own));
            once = made-once act unit line request made-in.made made-in.by;
            during = by_while old.file.stopped refl;
            after = rests;
            items = subst (λ (n : ℕ). KeepsAtRest seen old.file.geometry n opening new.blocks
                new.file.entries) number
                (subst (λ (g : Geometry). KeepsAtRest seen g new.number opening new.blocks
                new.file.entries) made-in.geometry
                (held-kept seen opening new whole-new held sized));
            owners = subst (λ (g : Geometry). OwnsAtRest seen g opening new.blocks
                new.file.entries) made-in.geometry
                (held-owners seen opening new whole-new held cur);
            splits = held-splits seen opening old new whole whole-new run.held held made-in.made
                made-in.entries made-in.geometry (went-on whole-new) enters;
            faults = follow;
            lasting = λ done. rests (sym held-stopped ∙ goes-on held done);
            refused_read = acted-reads old.file new.file made-in.made made-in.entries
                (faults old.blocks) (faults new.blocks) act after unit line request acted;
            failed_write = λ stop. acted-rose old.file new.file made-in.made made-in.entries stop
                (made-decks act unit line request made-in.made made-in.by own)
                (faults old.blocks) (faults new.blocks) act after unit line request acted;
            unfailed = λ faultless. acted-unfailed old.file new.file made-in.made made-in.entries
                faultless (faults old.blocks) (faults new.blocks) act after unit line request acted;
            unread = λ faultless none. inl (acted-unread old.file new.file made-in.made
                made-in.entries faultless none (faults old.blocks) (faults new.blocks) act after unit
                line request acted);
            lacks = event-lacking seen faults opening old new act after unit line request acted
                made-in.made made-in.entries (steps held) whole run.held lacks;
          },
          run.events.are,
        );
      }
        where
          rests : LeavesAtRest seen old.file.geometry old.number opening new.blocks new.file.entries
          rests = subst (λ (n : ℕ). LeavesAtRest seen old.file.geometry n opening new.blocks
              new.file.entries) number
              (subst (λ (g : Geometry). LeavesAtRest seen g new.number opening new.blocks
              new.file.entries) made-in.geometry
              (held-left seen opening new whole-new held))

          -- what its history says of the volume
          held-stopped : new.file.stopped
              ≡ (state_of old.file.geometry opening new.file.entries).stopped
          held-stopped = subst (λ (g : Geometry). new.file.stopped
              ≡ (state_of g opening new.file.entries).stopped) made-in.geometry
              held.file.now.stopped

      -- the event in which the volume stopped
      stops-now : new.file.stopped ≢ None
          → HasStopped old.file.geometry old.number opening new.file.entries (seen new.blocks)
      stops-now stops = by_old old.file.stopped refl
        where
          by_old : (stopped : Option ℕ) → old.file.stopped ≡ stopped
              → HasStopped old.file.geometry old.number opening new.file.entries (seen new.blocks)
          by_old None going = record {
            before = old.file.entries;
            made = made-in.made;
            later = [];
            entries_are = made-in.entries
                ∙ ap (λ (es : List Entry). old.file.entries ++ es) (sym (append-nil made-in.made));
            stop = stop-of old.file new.file made-in.made made-in.stops follow
                (λ same. stops (same ∙ going));
            left = λ image left. in-while image
                ((subst (λ (g : Geometry). Guards (seen old.blocks) (seen new.blocks)
                (IsLeftIn g old.number (state_now opening old.file) after unit line request old.file
                new.file)) (whole.geometry going) (moments going)).rest image left);
          }
          by_old (Some stamp) is =
              subst (λ (b : B). HasStopped old.file.geometry old.number opening new.file.entries
              (seen b)) (sym (stays going-not))
              (subst (λ (es : List Entry). HasStopped old.file.geometry old.number opening es
              (seen old.blocks)) (sym made-in.entries)
              (stopped-more old.file.geometry old.number opening old.file.entries made-in.made
              (seen old.blocks) (run.stopped going-not)))
            where
              going-not : old.file.stopped ≢ None
              going-not none = some-none stamp (sym is ∙ none)

      -- no entry of it changes the catalog
      keeps-on : IsHeld seen opening new
          → KeepTheCatalog old.file.geometry opening new.file.entries
      keeps-on held = subst (KeepTheCatalog old.file.geometry opening) (sym made-in.entries)
          (event-keeps old.file.geometry opening old.file.entries act unit line request made-in.made
          made-in.by own run.held.file.now.deck_clusters
          (subst (λ (es : List Entry).
          AllByRecursion IsOfClusterByDeck (state_of old.file.geometry opening es).befores)
          made-in.entries
          (subst (λ (g : Geometry).
          AllByRecursion IsOfClusterByDeck (state_of g opening new.file.entries).befores)
          made-in.geometry held.file.now.deck_clusters)) run.keeps_catalog)

      -- and where it does: what a crash leaves at each moment, event by event
      pub event-run : IsWhole seen new → IsHeld seen opening new
          → HasRun seen faults opening first new
      event-run whole-new held = record {
        held = held;
        keeps_catalog = subst (λ (g : Geometry). KeepTheCatalog g opening new.file.entries)
            (sym made-in.geometry) (keeps-on held);
        events = subst (λ (n : ℕ). IsOfEvents seen faults new.file.geometry n opening first
            new.blocks new.file.entries) (sym number)
            (subst (λ (g : Geometry). IsOfEvents seen faults g old.number opening first new.blocks
            new.file.entries) (sym made-in.geometry) (one-event whole-new held));
        left = subst (λ (n : ℕ). Guards (seen first) (seen new.blocks)
            (IsLeftBy new.file.geometry n opening new.file.entries)) (sym number)
            (subst (λ (g : Geometry). Guards (seen first) (seen new.blocks)
            (IsLeftBy g old.number opening new.file.entries)) (sym made-in.geometry)
            (by_stop old.file.stopped refl));
        stopped = λ stops. subst (λ (n : ℕ). HasStopped new.file.geometry n opening new.file.entries
            (seen new.blocks)) (sym number)
            (subst (λ (g : Geometry). HasStopped g old.number opening new.file.entries
            (seen new.blocks)) (sym made-in.geometry) (stops-now stops));
      }

-- ---- room, and a deck that is entered

module _ {B : Type 0} (seen : B → Seen) (old mid : VolumeNow B) (numbers : List DeckNumber)
    (room files_room : ℕ) (same : mid ≡ record old {
      file = record old.file { numbers = numbers; room = room; files_room = files_room };
    }) where
  entries-stay : mid.file.entries ≡ old.file.entries
  entries-stay = ap (λ (v : VolumeNow B). v.file.entries) same

  -- they leave what a crash leaves,
  stays-run : (faults : B → Faults) (opening : State) (first : B) → IsHeld seen opening mid
      → HasRun seen faults opening first old → HasRun seen faults opening first mid
  stays-run faults opening first held run = record {
    held = held;
    keeps_catalog = subst (λ (v : VolumeNow B). KeepTheCatalog v.file.geometry opening
        v.file.entries) (sym same) run.keeps_catalog;
    left = subst (λ (v : VolumeNow B). Guards (seen first) (seen v.blocks)
        (IsLeftBy v.file.geometry v.number opening v.file.entries)) (sym same) run.left;
    events = subst (λ (v : VolumeNow B). IsOfEvents seen faults v.file.geometry v.number opening
        first v.blocks v.file.entries) (sym same) run.events;
    stopped = subst (λ (v : VolumeNow B). v.file.stopped ≢ None → HasStopped v.file.geometry v.number
        opening v.file.entries (seen v.blocks)) (sym same) run.stopped;
  }

  stays-on : (faults : B → Faults) → IsWhole seen mid
      → ((deck : ℕ) → has_deck deck old.file.numbers ≡ true
      → has_deck deck mid.file.numbers ≡ true) → GoesOn seen faults old mid
  stays-on faults whole decks = record {
    whole = whole;
    number = ap (λ (v : VolumeNow B). v.number) same;
    geometry = ap (λ (v : VolumeNow B). v.file.geometry) same;
    catalog = ap (λ (v : VolumeNow B). v.file.catalog) same;
    decks = decks;
    made = [];
    entries = entries-stay ∙ sym (append-nil old.file.entries);
    stamped = λ before. subst (IsStamped 0) (sym entries-stay) before;
    reads = omega (arith, ap (λ (v : VolumeNow B). (faults v.blocks).reads) same);
    writes = omega (arith, ap (λ (v : VolumeNow B). (faults v.blocks).writes) same);
    stops = λ as_before. ap (λ (v : VolumeNow B). v.file.stopped) same;
    quiet = λ as_before. ap (λ (v : VolumeNow B). (faults v.blocks).writes) same;
    stays = λ stamp is. ap (λ (v : VolumeNow B). v.file.stopped) same ∙ is;
    faultless = λ as_before before. subst AreFaultless (sym entries-stay) before;
    shows = λ before. ap is_some (ap (λ (v : VolumeNow B). v.file.stopped) same) ∙ before
        ∙ ap has_stopped (sym entries-stay);
  }

  -- and the volume serves as before
  pub stays-serving : (tells : Bool) (faults : B → Faults)
      → (IsWhole seen old → IsWhole seen mid)
      → ((opening : State) → IsHeld seen opening old → IsHeld seen opening mid)
      → ((deck : ℕ) → has_deck deck old.file.numbers ≡ true
      → has_deck deck mid.file.numbers ≡ true)
      → ((deck : ℕ) → number_of mid.file.numbers deck ≡ number_of old.file.numbers deck)
      → IsServing tells seen old → StaysServing tells seen faults old mid
  stays-serving tells faults whole held decks stay is = record {
    serving = record {
      whole = whole is.whole;
      holds = λ told. record {
        opening = (is.holds told).opening;
        held = held (is.holds told).opening (is.holds told).held;
      };
      shows = shows-same old.file mid.file entries-stay stay is.shows;
    };
    went = record {
      on = stays-on faults (whole is.whole) decks;
      held = λ told opening from. held opening from;
      run = λ told opening first run. stays-run faults opening first
          (held opening run.held) run;
    };
    entries = entries-stay;
    store = ap (λ (v : VolumeNow B). v.store) same;
    units = λ deck. ap (λ (number : ℕ). record { deck = deck; number = number }) (stay deck);
  }

  -- so it does where the numbers stay too
  pub stays-room : (tells : Bool) (faults : B → Faults) → numbers ≡ old.file.numbers
      → (IsWhole seen old → IsWhole seen mid)
      → ((opening : State) → IsHeld seen opening old → IsHeld seen opening mid)
      → IsServing tells seen old → StaysServing tells seen faults old mid
  stays-room tells faults stay whole held = stays-serving tells faults whole held
      (λ deck has. subst (λ (them : List DeckNumber). has_deck deck them ≡ true) (sym are) has)
      (λ deck. ap (λ (them : List DeckNumber). number_of them deck) are)
    where
      are : mid.file.numbers ≡ old.file.numbers
      are = ap (λ (v : VolumeNow B). v.file.numbers) same ∙ stay

-- A volume that serves as before waits for as much: from it on the same is less.
pub nearer-then : {B : Type 0} (tells : Bool) (seen : B → Seen) (faults : B → Faults)
    (a b c : VolumeNow B) (deck : ℕ) → StaysServing tells seen faults a b
    → IsNearerFor tells b c deck → IsNearerFor tells a c deck
nearer-then tells seen faults a b c deck stays nearer told =
    subst (λ (unit : UnitOfRecovery). left_for unit c.store < left_for unit a.store)
    (stays.units deck)
    (subst (λ (store : StoreNow). left_for (unit_of deck b.file) c.store
    < left_for (unit_of deck b.file) store) stays.store (nearer told))

pub less-then : {B : Type 0} (tells : Bool) (seen : B → Seen) (faults : B → Faults)
    (a b c : VolumeNow B) → StaysServing tells seen faults a b → LeavesLess b c → LeavesLess a c
less-then tells seen faults a b c stays less unit =
    subst (λ (store : StoreNow). left_for unit c.store < left_for unit store) stays.store (less unit)

-- what an event hands back waits for less
pub event-nearer : {B : Type 0} (tells : Bool) (old new : VolumeNow B) (act : Act)
    (unit : UnitOfRecovery) → unit ≡ unit_of unit.deck old.file
    → (IsTrue tells → IsNearer act unit old new) → (done : Bool) → done ≡ is_done act
    → done ≡ false → IsNearerFor tells old new unit.deck
event-nearer tells old new Done unit current nearer done is not told =
    absurd (true≢false (sym is ∙ not))
event-nearer tells old new (Again given) unit current nearer done is not told =
    subst (λ (u : UnitOfRecovery). left_for u new.store < left_for u old.store) current
    (nearer told)

-- and on
pub stays-then : {B : Type 0} (tells : Bool) (seen : B → Seen) (faults : B → Faults)
    (a b c : VolumeNow B) → StaysServing tells seen faults a b → StaysServing tells seen faults b c
    → StaysServing tells seen faults a c
stays-then tells seen faults a b c first second = record {
  serving = second.serving;
  went = went-then tells seen faults a b c first.went second.went;
  entries = second.entries ∙ first.entries;
  store = second.store ∙ first.store;
  units = λ deck. second.units deck ∙ first.units deck;
}
