use Rattle.std.proofs.Common.{◌≡◌, ◌<◌, ◌+◌, ◌^◌, ◌++◌, ◌∙◌, All, ℕ, [], List, ap, subst, sym}
use Rattle.vr_types.specs.Regions.{Touches}
use Rattle.vr_types.specs.declared.geometry.Geometry.{Geometry}
use Rattle.vr_types.specs.declared.unit.PartNo.{PartNo}
use Rattle.vr_space.specs.Part.{HasKeptRoom, part_no}
use Rattle.vr_space.specs.Room.{Lengths}
use Rattle.vr_space.proofs.CallerLemmas.{due-stays, knows-stays, rest-sound, rest-stays, room-stays}
use Rattle.vr_log.specs.Live.{IsBeforeOf, is_in, live_in}
use Rattle.vr_log.specs.LogNow.{HasLog, with_record, with_records}
use Rattle.vr_log.specs.Standing.{InLog}
use Rattle.vr_log.specs.declared.record.EndKind.TheVariants.{Committed}
use Rattle.vr_log.specs.declared.record.LogRecord.{LogRecord}
use Rattle.vr_log.specs.declared.record.LogRecord.TheVariants.{End}
use Rattle.vr_attach.specs.Owning.{IsPastLog}
use Rattle.vr_volume.specs.Committed.{committed_by}
use Rattle.vr_volume.specs.Ended.{ended}
use Rattle.vr_volume.specs.Logged.{AreFirstBefores}
use Rattle.vr_volume.proofs.Calls.{Anything, log-or-part, stays-both, stays-part}
use Rattle.vr_volume.proofs.EndCalls.{stands-on}
use Rattle.vr_volume.proofs.EntriesCalls.{all-can, changed-log, free-all, laid-all, log-moments}
use Rattle.vr_volume.proofs.EntriesCalls.{logged-are, set-moments}
use Rattle.vr_volume.proofs.EntriesEnded.{end-guards, rests-changed}
use Rattle.vr_volume.proofs.EntriesIdle.{first-entries}
use Rattle.vr_volume.proofs.EntriesLogged.{all-of-unit, ended-then, live-then}
use Rattle.vr_volume.proofs.EntriesParts.{catalog-rests, firms-start, firms-there, other-rests}
use Rattle.vr_volume.proofs.EntriesRoom.{room-entries}
use Rattle.vr_volume.proofs.Rested.{stands-part, stays-then}
use Rattle.vr_volume.proofs.entry_changes.change_entries.Goals as goal

pub log_all-requires-clause-unit : goal.log_all-requires-clause-unit
log_all-requires-clause-unit g c = subst (All (IsBeforeOf c.args.unit)) (sym c.requires.records)
    (all-of-unit c.args.unit c.args.changes.now)

-- ---- what setting them asks for, once the log was put

pub set_all-requires-clause-rests : goal.set_all-requires-clause-rests
set_all-requires-clause-rests g c told =
    let B = g.B.Blocks in
    let own = c.requires.rests told in
    let log = c.args.log.now in
    let shape = g.P.Part.shape c.args.catalog.now in
    let a = B.seen c.args.blocks.now in
    let b = B.seen c.log_all.new.blocks in (
      own.0,
      rest-stays a b shape own.0 (stays-part log.geometry shape own.0
          (HasLog (with_records log c.args.records.now)) a b own.1 (c.log_all.ensures.touches told))
          own.2,
    )

pub set_all-requires-clause-room : goal.set_all-requires-clause-room
set_all-requires-clause-room g c told =
    let B = g.B.Blocks in
    let own = c.requires.rests told in
    let log = c.args.log.now in
    let shape = g.P.Part.shape c.args.catalog.now in
    let a = B.seen c.args.blocks.now in
    let b = B.seen c.log_all.new.blocks in
    room-stays a b shape own.0 (g.K.Kept.kept c.args.kept.now (part_no shape))
    (stays-part log.geometry shape own.0 (HasLog (with_records log c.args.records.now)) a b own.1
    (c.log_all.ensures.touches told))
    (rest-sound shape own.0 a own.2)
    (subst (λ (lengths : Lengths). HasKeptRoom shape lengths a) (sym c.requires.kept)
    (room-entries shape own.0 a (rest-sound shape own.0 a own.2) c.args.unit c.args.changes.now
    (c.requires.room told) c.requires.stand (c.requires.firm told)))

pub set_all-requires-clause-knows : goal.set_all-requires-clause-knows
set_all-requires-clause-knows g c told =
    let B = g.B.Blocks in
    let own = c.requires.rests told in
    let log = c.args.log.now in
    let shape = g.P.Part.shape c.args.catalog.now in
    let a = B.seen c.args.blocks.now in
    let b = B.seen c.log_all.new.blocks in
    knows-stays a b shape own.0 (g.P.Part.known c.args.catalog.now)
    (stays-part log.geometry shape own.0 (HasLog (with_records log c.args.records.now)) a b own.1
    (c.log_all.ensures.touches told))
    (rest-sound shape own.0 a own.2) (g.met.B.Blocks.cur_may c.args.blocks.now told) own.3
    (c.requires.knows told)

pub set_all-requires-clause-can : goal.set_all-requires-clause-can
set_all-requires-clause-can g c told =
    let B = g.B.Blocks in
    let own = c.requires.rests told in
    let log = c.args.log.now in
    let shape = g.P.Part.shape c.args.catalog.now in
    let a = B.seen c.args.blocks.now in
    let b = B.seen c.log_all.new.blocks in
    all-can a b shape own.0 (g.P.Part.known c.args.catalog.now)
    (g.K.Kept.kept c.args.kept.now (part_no shape))
    (stays-part log.geometry shape own.0 (HasLog (with_records log c.args.records.now)) a b own.1
    (c.log_all.ensures.touches told))
    (rest-sound shape own.0 a own.2) (g.met.B.Blocks.cur_may c.args.blocks.now told)
    c.args.changes.now (c.requires.can told)

-- ---- what the end asks for

pub log_end-requires-clause-live : goal.log_end-requires-clause-live
log_end-requires-clause-live g c =
    ap (λ (rs : List LogRecord). is_in c.args.unit (live_in rs))
    (c.in_ok-log_all.ensures.records
    ∙ ap (λ (rs : List LogRecord). c.args.log.now.records ++ rs) c.requires.records)
    ∙ live-then c.args.unit c.args.log.now.records c.args.changes.now c.requires.some
    c.requires.idle

pub log_end-requires-clause-stands : goal.log_end-requires-clause-stands
log_end-requires-clause-stands g c told =
    let B = g.B.Blocks in
    let own = c.requires.rests told in
    let log = c.args.log.now in
    let shape = g.P.Part.shape c.args.catalog.now in
    let a = B.seen c.args.blocks.now in
    let b = B.seen c.log_all.new.blocks in
    let logged = c.in_ok-log_all.ensures.logged told in
    stands-part c.log_all.new.log shape own.0 Anything b (B.seen c.set_all.new.blocks)
    logged.forced (c.in_ok-log_all.ensures.stands told)
    (subst (λ (g : Geometry). IsPastLog g own.0) (sym logged.geometry) own.1)
    (c.set_all.ensures.touches told own.0
    (rest-stays a b shape own.0 (stays-part log.geometry shape own.0
    (HasLog (with_records log c.args.records.now)) a b own.1 (c.log_all.ensures.touches told))
    own.2))

-- ---- while they are logged, set, and the unit ends

pub returns-in_err-log_all-clause-any_moment : goal.returns-in_err-log_all-clause-any_moment
returns-in_err-log_all-clause-any_moment g c told number owners old new images goes rest part can
    made =
    log-moments rest can c.requires.records new (g.B.Blocks.seen c.log_all.new.blocks)
    (c.log_all.ensures.any_moment told number owners (committed_by old) rest.safe
    (subst (AreFirstBefores c.args.log.now.geometry c.args.log.now (committed_by old))
    (sym c.requires.records) (first-entries rest can)))

pub returns-in_err-set_all-clause-any_moment : goal.returns-in_err-set_all-clause-any_moment
returns-in_err-set_all-clause-any_moment g c told number owners old new images goes rest part can
    made =
    let B = g.B.Blocks in
    let log = c.args.log.now in
    let shape = g.P.Part.shape c.args.catalog.now in
    let known = g.P.Part.known c.args.catalog.now in
    let a = B.seen c.args.blocks.now in
    let b = B.seen c.log_all.new.blocks in
    let d = B.seen c.set_all.new.blocks in
    let more = c.log_all.new.log in
    let firsts = subst (AreFirstBefores log.geometry log (committed_by old))
    (sym c.requires.records) (first-entries rest can) in
    let logged = c.in_ok-log_all.ensures.logged told in
    let safe = c.set_all.ensures.safe told log.geometry number owners more (committed_by old)
    (c.in_ok-log_all.ensures.after told number owners (committed_by old) rest.safe firsts)
    (laid-all rest can c.requires.records logged c.requires.some shape known c.requires.part part
    (g.K.Kept.kept c.args.kept.now (part_no shape)) c.requires.kept)
    (free-all rest can c.requires.records logged c.requires.some shape c.requires.part
    (c.in_ok-log_all.ensures.free told)) in
    set-moments rest can c.requires.records logged c.requires.some new b d
    (log-moments rest can c.requires.records new b
    (c.log_all.ensures.any_moment told number owners (committed_by old) rest.safe firsts)) safe.0

pub returns-in_err-log_end-clause-any_moment : goal.returns-in_err-log_end-clause-any_moment
returns-in_err-log_end-clause-any_moment g c told number owners old new images goes rest part can made =
    let B = g.B.Blocks in
    let log = c.args.log.now in
    let shape = g.P.Part.shape c.args.catalog.now in
    let known = g.P.Part.known c.args.catalog.now in
    let a = B.seen c.args.blocks.now in
    let b = B.seen c.log_all.new.blocks in
    let d = B.seen c.set_all.new.blocks in
    let more = c.log_all.new.log in
    let firsts = subst (AreFirstBefores log.geometry log (committed_by old))
    (sym c.requires.records) (first-entries rest can) in
    let logged = c.in_ok-log_all.ensures.logged told in
    let safe = c.set_all.ensures.safe told log.geometry number owners more (committed_by old)
    (c.in_ok-log_all.ensures.after told number owners (committed_by old) rest.safe firsts)
    (laid-all rest can c.requires.records logged c.requires.some shape known c.requires.part part
    (g.K.Kept.kept c.args.kept.now (part_no shape)) c.requires.kept)
    (free-all rest can c.requires.records logged c.requires.some shape c.requires.part
    (c.in_ok-log_all.ensures.free told)) in
    let stays = stays-part log.geometry shape owners (HasLog (with_records log c.args.records.now)) a
    b rest.safe.past (c.log_all.ensures.touches told) in
    let left = g.met.B.Blocks.cur_may c.args.blocks.now told in
    let set = c.in_ok-set_all.ensures.set told in
    let firm = c.in_ok-set_all.ensures.firm told
    (firms-start rest can made c.requires.part part b d stays left set) in
    let there = firms-there rest can made c.requires.part part b d stays left set firm in
    let are = logged-are rest can c.requires.records logged c.requires.some in
    Rattle.vr_types.proofs.CallerLemmas.guards-then a d (B.seen c.log_end.new.blocks)
    (Rattle.vr_volume.proofs.EntriesEnded.Either log.geometry number old new)
    (set-moments rest can c.requires.records logged c.requires.some new b d
    (log-moments rest can c.requires.records new b
    (c.log_all.ensures.any_moment told number owners (committed_by old) rest.safe firsts)) safe.0)
    (end-guards rest can made are c.requires.some safe.1 there (c.log_end.ensures.touches told))

pub returns-clause-any_moment : goal.returns-clause-any_moment
returns-clause-any_moment g c told number owners old new images goes rest part can made =
    let B = g.B.Blocks in
    let log = c.args.log.now in
    let shape = g.P.Part.shape c.args.catalog.now in
    let known = g.P.Part.known c.args.catalog.now in
    let a = B.seen c.args.blocks.now in
    let b = B.seen c.log_all.new.blocks in
    let d = B.seen c.set_all.new.blocks in
    let more = c.log_all.new.log in
    let firsts = subst (AreFirstBefores log.geometry log (committed_by old))
    (sym c.requires.records) (first-entries rest can) in
    let logged = c.in_ok-log_all.ensures.logged told in
    let safe = c.set_all.ensures.safe told log.geometry number owners more (committed_by old)
    (c.in_ok-log_all.ensures.after told number owners (committed_by old) rest.safe firsts)
    (laid-all rest can c.requires.records logged c.requires.some shape known c.requires.part part
    (g.K.Kept.kept c.args.kept.now (part_no shape)) c.requires.kept)
    (free-all rest can c.requires.records logged c.requires.some shape c.requires.part
    (c.in_ok-log_all.ensures.free told)) in
    let stays = stays-part log.geometry shape owners (HasLog (with_records log c.args.records.now)) a
    b rest.safe.past (c.log_all.ensures.touches told) in
    let left = g.met.B.Blocks.cur_may c.args.blocks.now told in
    let set = c.in_ok-set_all.ensures.set told in
    let firm = c.in_ok-set_all.ensures.firm told
    (firms-start rest can made c.requires.part part b d stays left set) in
    let there = firms-there rest can made c.requires.part part b d stays left set firm in
    let are = logged-are rest can c.requires.records logged c.requires.some in
    Rattle.vr_types.proofs.CallerLemmas.guards-then a d (B.seen c.log_end.new.blocks)
    (Rattle.vr_volume.proofs.EntriesEnded.Either log.geometry number old new)
    (set-moments rest can c.requires.records logged c.requires.some new b d
    (log-moments rest can c.requires.records new b
    (c.log_all.ensures.any_moment told number owners (committed_by old) rest.safe firsts)) safe.0)
    (end-guards rest can made are c.requires.some safe.1 there (c.log_end.ensures.touches told))

-- ---- once it is done

pub returns-clause-done : goal.returns-clause-done
returns-clause-done g c told number owners old new images goes rest part can made below =
    let B = g.B.Blocks in
    let log = c.args.log.now in
    let shape = g.P.Part.shape c.args.catalog.now in
    let known = g.P.Part.known c.args.catalog.now in
    let a = B.seen c.args.blocks.now in
    let b = B.seen c.log_all.new.blocks in
    let d = B.seen c.set_all.new.blocks in
    let more = c.log_all.new.log in
    let firsts = subst (AreFirstBefores log.geometry log (committed_by old))
    (sym c.requires.records) (first-entries rest can) in
    let logged = c.in_ok-log_all.ensures.logged told in
    let safe = c.set_all.ensures.safe told log.geometry number owners more (committed_by old)
    (c.in_ok-log_all.ensures.after told number owners (committed_by old) rest.safe firsts)
    (laid-all rest can c.requires.records logged c.requires.some shape known c.requires.part part
    (g.K.Kept.kept c.args.kept.now (part_no shape)) c.requires.kept)
    (free-all rest can c.requires.records logged c.requires.some shape c.requires.part
    (c.in_ok-log_all.ensures.free told)) in
    let stays = stays-part log.geometry shape owners (HasLog (with_records log c.args.records.now)) a
    b rest.safe.past (c.log_all.ensures.touches told) in
    let left = g.met.B.Blocks.cur_may c.args.blocks.now told in
    let set = c.in_ok-set_all.ensures.set told in
    let firm = c.in_ok-set_all.ensures.firm told
    (firms-start rest can made c.requires.part part b d stays left set) in
    let there = firms-there rest can made c.requires.part part b d stays left set firm in
    let are = logged-are rest can c.requires.records logged c.requires.some in
    let e = B.seen c.log_end.new.blocks in
    let rests = c.in_ok-set_all.ensures.rests told owners (rest-stays a b shape owners stays
    part.rests) in (
      rests-changed rest can made are c.requires.some safe.1 there (c.log_end.ensures.touches told)
          (c.in_ok-log_end.ensures.logged told) c.in_ok-log_end.ensures.log
          (c.in_ok-log_end.ensures.stands told) c.restart_idle.new.log below logged.generation
          c.restart_idle.ensures.idle,
      catalog-rests rest can made c.requires.part part b d stays left set firm are c.requires.some
          safe.1 e (HasLog (with_record more (End c.args.unit Committed)))
          (g.P.Part.known c.set_all.new.part) (g.K.Kept.kept c.args.kept.now (part_no shape))
          (subst (λ (g : Geometry). Touches (InLog g)
          (HasLog (with_record more (End c.args.unit Committed))) d e) logged.geometry
          (c.log_end.ensures.touches told))
          (g.met.B.Blocks.cur_may c.set_all.new.blocks told) rests c.set_all.ensures.count
          c.set_all.ensures.size (c.in_ok-set_all.ensures.room told)
          (c.in_ok-set_all.ensures.knows told) c.set_all.ensures.moves,
    )

-- the other parts stay as they are
pub returns-clause-others : goal.returns-clause-others
returns-clause-others g c told number owners old new images goes other known rest part can made
    apart stays others =
    let B = g.B.Blocks in
    let log = c.args.log.now in
    let more = c.log_all.new.log in
    let catalog = g.P.Part.shape c.args.catalog.now in
    let a = B.seen c.args.blocks.now in
    let b = B.seen c.log_all.new.blocks in
    let d = B.seen c.set_all.new.blocks in
    let e = B.seen c.log_end.new.blocks in
    let whole = stays-then other owners a d e
    (stays-both log.geometry catalog other owners a d rest.safe.past
    (λ same. apart (same ∙ ap (λ (p : PartNo). p.0) c.requires.part))
    (log-or-part log.geometry catalog owners (HasLog (with_records log c.args.records.now)) Anything
    a b d rest.safe.past part.rests (c.log_all.ensures.touches told)
    (c.set_all.ensures.touches told owners)))
    (stays-part log.geometry other owners
    (HasLog (with_record more (End c.args.unit Committed))) d e rest.safe.past
    (subst (λ (g : Geometry). Touches (InLog g)
    (HasLog (with_record more (End c.args.unit Committed))) d e) c.in_ok-log_all.ensures.geometry
    (c.log_end.ensures.touches told))) in
    other-rests rest can made other known e apart stays whole
    (g.met.B.Blocks.cur_may c.args.blocks.now told) others

pub returns-clause-others_due : goal.returns-clause-others_due
returns-clause-others_due g c told number owners images state other known rest part apart others =
    let B = g.B.Blocks in
    let log = c.args.log.now in
    let more = c.log_all.new.log in
    let catalog = g.P.Part.shape c.args.catalog.now in
    let a = B.seen c.args.blocks.now in
    let b = B.seen c.log_all.new.blocks in
    let d = B.seen c.set_all.new.blocks in
    let e = B.seen c.log_end.new.blocks in
    let whole = stays-then other owners a d e
    (stays-both log.geometry catalog other owners a d rest.safe.past
    (λ same. apart (same ∙ ap (λ (p : PartNo). p.0) c.requires.part))
    (log-or-part log.geometry catalog owners (HasLog (with_records log c.args.records.now)) Anything
    a b d rest.safe.past part.rests (c.log_all.ensures.touches told)
    (c.set_all.ensures.touches told owners)))
    (stays-part log.geometry other owners
    (HasLog (with_record more (End c.args.unit Committed))) d e rest.safe.past
    (subst (λ (g : Geometry). Touches (InLog g)
    (HasLog (with_record more (End c.args.unit Committed))) d e) c.in_ok-log_all.ensures.geometry
    (c.log_end.ensures.touches told))) in
    due-stays other owners a e whole (rest-sound other owners a others.rests)
    (g.met.B.Blocks.cur_may c.args.blocks.now told)

-- ---- the log

pub returns-clause-log : goal.returns-clause-log
returns-clause-log g c = changed-log c.args.log.now c.log_all.new.log c.log_end.new.log
    c.restart_idle.new.log c.args.unit c.args.records.now c.in_ok-log_all.ensures.geometry
    c.in_ok-log_all.ensures.generation c.in_ok-log_all.ensures.records c.in_ok-log_end.ensures.log
    c.restart_idle.ensures.idle c.restart_idle.ensures.live

pub returns-clause-begun : goal.returns-clause-begun
returns-clause-begun g c = ((returns-clause-log g c).begun
    (subst (λ (rs : List LogRecord).
    live_in (ended (with_records c.args.log.now rs) c.args.unit Committed) ≡ [])
    (sym c.requires.records)
    (ended-then c.args.unit c.args.log.now.records c.args.changes.now c.requires.idle))).0

pub returns-clause-geometry : goal.returns-clause-geometry
returns-clause-geometry g c = (returns-clause-log g c).geometry

pub returns-clause-stands : goal.returns-clause-stands
returns-clause-stands g c told below =
    stands-on c.log_all.new.log c.log_end.new.log c.restart_idle.new.log c.args.unit Committed
    c.in_ok-log_end.ensures.log c.restart_idle.ensures.idle c.restart_idle.ensures.live
    (g.B.Blocks.seen c.log_end.new.blocks) (c.in_ok-log_end.ensures.stands told)
    (subst (λ (n : ℕ). n + 1 < 2 ^ 63) (sym c.in_ok-log_all.ensures.generation) below)
