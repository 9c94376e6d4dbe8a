use Rattle.std.proofs.Common.{◌<◌, ◌+◌, ◌^◌, ◌∙◌, ℕ, None, ap, refl, subst, sym}
use Rattle.vr_types.specs.Regions.{Touches}
use Rattle.vr_types.specs.declared.geometry.Geometry.{Geometry}
use Rattle.vr_types.specs.declared.unit.PartNo.{PartNo}
use Rattle.vr_space.specs.Part.{part_no}
use Rattle.vr_space.proofs.CallerLemmas.{due-stays, rest-sound}
use Rattle.vr_log.specs.Live.{live_in, need_of}
use Rattle.vr_log.specs.LogNow.{HasLog, with_record}
use Rattle.vr_log.specs.Standing.{InLog}
use Rattle.vr_log.specs.declared.record.EndKind.TheVariants.{Committed}
use Rattle.vr_log.specs.declared.record.LogRecord.TheVariants.{End}
use Rattle.vr_volume.specs.Committed.{committed_by}
use Rattle.vr_volume.proofs.DefineCalls.{all-defined, change-moments, defined-log, end-moments}
use Rattle.vr_volume.proofs.DefineCalls.{force-moments, live-logged}
use Rattle.vr_volume.proofs.DefinedParts.{other-told, stays-throughout, told-stays}
use Rattle.vr_volume.proofs.EndCalls.{stands-on}
use Rattle.vr_volume.proofs.Rested.{stands-keeps}
use Rattle.vr_volume.proofs.defining.define.Goals as goal

-- while the change goes on, or once it failed
pub returns-in_err-change-clause-any_moment : goal.returns-in_err-change-clause-any_moment
returns-in_err-change-clause-any_moment g c told number owners old new images shape known need rest
    part can started made room =
    let B = g.B.Blocks in
    let log = c.args.log.now in
    let unit = c.args.unit in
    let place = c.args.place.now in
    let bytes = c.args.bytes.now in
    let rec = c.args.rec.now in
    let catalog = g.P.Part.shape c.args.catalog.now in
    let first = g.P.Part.known c.args.catalog.now in
    let kept = g.K.Kept.kept c.args.kept.now (part_no catalog) in
    let a = B.seen c.args.blocks.now in
    let m = B.seen c.change.new.blocks in
    change-moments log.geometry number owners log images old a unit shape place bytes rest
    can new need made catalog first c.requires.part part kept room rec c.requires.is m
    (λ it next laid. c.change.ensures.any_moment told number owners (committed_by old) unit None it
    rest.safe next laid)

-- or the force
pub returns-in_err-force_blocks-clause-any_moment :
    goal.returns-in_err-force_blocks-clause-any_moment
returns-in_err-force_blocks-clause-any_moment g c told number owners old new images shape known need
    rest part can started made room =
    let B = g.B.Blocks in
    let log = c.args.log.now in
    let unit = c.args.unit in
    let place = c.args.place.now in
    let bytes = c.args.bytes.now in
    let rec = c.args.rec.now in
    let catalog = g.P.Part.shape c.args.catalog.now in
    let first = g.P.Part.known c.args.catalog.now in
    let kept = g.K.Kept.kept c.args.kept.now (part_no catalog) in
    let a = B.seen c.args.blocks.now in
    let m = B.seen c.change.new.blocks in
    let more = c.change.new.log in
    let d = B.seen c.force_blocks.new.blocks in
    force-moments log.geometry number owners log images old a unit shape place bytes rest
    can new need made catalog first c.requires.part part kept room rec c.requires.is m
    (λ it next laid. c.change.ensures.any_moment told number owners (committed_by old) unit None it
    rest.safe next laid)
    more (c.in_ok-change.ensures.log told)
    (λ it next laid. c.in_ok-change.ensures.after told number owners (committed_by old) unit None it
    rest.safe next laid)
    d (c.force_blocks.ensures.safe told log.geometry number owners more (committed_by old))

-- what the end asks for
pub log_end-requires-clause-live : goal.log_end-requires-clause-live
log_end-requires-clause-live g c = live-logged c.args.log.now c.change.new.log c.args.unit
    c.args.place.now c.args.rec.now c.requires.is c.in_ok-change.ensures.records

pub log_end-requires-clause-stands : goal.log_end-requires-clause-stands
log_end-requires-clause-stands g c told =
    let B = g.B.Blocks in
    stands-keeps B.tells told (B.seen c.change.new.blocks) (B.seen c.force_blocks.new.blocks)
    c.force_blocks.ensures.after c.change.new.log (c.in_ok-change.ensures.log told).forced
    (c.in_ok-change.ensures.stands told)

-- while the end is logged, or once that failed
pub returns-in_err-log_end-clause-any_moment : goal.returns-in_err-log_end-clause-any_moment
returns-in_err-log_end-clause-any_moment g c told number owners old new images shape known need rest
    part can started made room =
    let B = g.B.Blocks in
    let log = c.args.log.now in
    let unit = c.args.unit in
    let place = c.args.place.now in
    let bytes = c.args.bytes.now in
    let rec = c.args.rec.now in
    let catalog = g.P.Part.shape c.args.catalog.now in
    let first = g.P.Part.known c.args.catalog.now in
    let kept = g.K.Kept.kept c.args.kept.now (part_no catalog) in
    let a = B.seen c.args.blocks.now in
    let m = B.seen c.change.new.blocks in
    let more = c.change.new.log in
    let d = B.seen c.force_blocks.new.blocks in
    let b = B.seen c.log_end.new.blocks in
    end-moments log.geometry number owners log images old a unit shape place bytes rest
    can new need made catalog first c.requires.part part kept room rec c.requires.is m
    (λ it next laid. c.change.ensures.any_moment told number owners (committed_by old) unit None it
    rest.safe next laid)
    more (c.in_ok-change.ensures.log told)
    (λ it next laid. c.in_ok-change.ensures.after told number owners (committed_by old) unit None it
    rest.safe next laid)
    d (c.force_blocks.ensures.safe told log.geometry number owners more (committed_by old))
    B.tells told (g.met.B.Blocks.cur_may c.args.blocks.now told)
    (c.change.ensures.touches told owners rest.safe.past part.rests) c.force_blocks.ensures.after
    c.put_blocks.result.now (g.P.Part.put c.change.new.part) c.put_blocks.ensures
    (c.in_ok-change.ensures.due told)
    (c.in_ok-change.ensures.rests told owners rest.safe.past part.rests)
    (c.in_ok-change.ensures.set told) (c.in_ok-force_blocks.ensures.forced told)
    b (c.log_end.ensures.touches told) known started

pub returns-clause-any_moment : goal.returns-clause-any_moment
returns-clause-any_moment g c told number owners old new images shape known need rest part can
    started made room =
    let B = g.B.Blocks in
    let log = c.args.log.now in
    let unit = c.args.unit in
    let place = c.args.place.now in
    let bytes = c.args.bytes.now in
    let rec = c.args.rec.now in
    let catalog = g.P.Part.shape c.args.catalog.now in
    let first = g.P.Part.known c.args.catalog.now in
    let kept = g.K.Kept.kept c.args.kept.now (part_no catalog) in
    let a = B.seen c.args.blocks.now in
    let m = B.seen c.change.new.blocks in
    let more = c.change.new.log in
    let d = B.seen c.force_blocks.new.blocks in
    let b = B.seen c.log_end.new.blocks in
    end-moments log.geometry number owners log images old a unit shape place bytes rest
    can new need made catalog first c.requires.part part kept room rec c.requires.is m
    (λ it next laid. c.change.ensures.any_moment told number owners (committed_by old) unit None it
    rest.safe next laid)
    more (c.in_ok-change.ensures.log told)
    (λ it next laid. c.in_ok-change.ensures.after told number owners (committed_by old) unit None it
    rest.safe next laid)
    d (c.force_blocks.ensures.safe told log.geometry number owners more (committed_by old))
    B.tells told (g.met.B.Blocks.cur_may c.args.blocks.now told)
    (c.change.ensures.touches told owners rest.safe.past part.rests) c.force_blocks.ensures.after
    c.put_blocks.result.now (g.P.Part.put c.change.new.part) c.put_blocks.ensures
    (c.in_ok-change.ensures.due told)
    (c.in_ok-change.ensures.rests told owners rest.safe.past part.rests)
    (c.in_ok-change.ensures.set told) (c.in_ok-force_blocks.ensures.forced told)
    b (c.log_end.ensures.touches told) known started

-- once it is done
pub returns-clause-defined : goal.returns-clause-defined
returns-clause-defined g c told number owners old new images shape known rest part can started made
    room below =
    let B = g.B.Blocks in
    let log = c.args.log.now in
    let unit = c.args.unit in
    let place = c.args.place.now in
    let bytes = c.args.bytes.now in
    let rec = c.args.rec.now in
    let catalog = g.P.Part.shape c.args.catalog.now in
    let first = g.P.Part.known c.args.catalog.now in
    let kept = g.K.Kept.kept c.args.kept.now (part_no catalog) in
    let a = B.seen c.args.blocks.now in
    let m = B.seen c.change.new.blocks in
    let more = c.change.new.log in
    let d = B.seen c.force_blocks.new.blocks in
    let b = B.seen c.log_end.new.blocks in
    let need = need_of (live_in log.records) rec in
    all-defined log.geometry number owners log images old a unit shape place bytes rest
    can new need made catalog first c.requires.part part kept room rec c.requires.is m
    (λ it next laid. c.change.ensures.any_moment told number owners (committed_by old) unit None it
    rest.safe next laid)
    more (c.in_ok-change.ensures.log told)
    (λ it next laid. c.in_ok-change.ensures.after told number owners (committed_by old) unit None it
    rest.safe next laid)
    d (c.force_blocks.ensures.safe told log.geometry number owners more (committed_by old))
    B.tells told (g.met.B.Blocks.cur_may c.args.blocks.now told)
    (c.change.ensures.touches told owners rest.safe.past part.rests) c.force_blocks.ensures.after
    c.put_blocks.result.now (g.P.Part.put c.change.new.part) c.put_blocks.ensures
    (c.in_ok-change.ensures.due told)
    (c.in_ok-change.ensures.rests told owners rest.safe.past part.rests)
    (c.in_ok-change.ensures.set told) (c.in_ok-force_blocks.ensures.forced told)
    b (c.log_end.ensures.touches told) known started
    c.log_end.new.log c.restart_idle.new.log (c.in_ok-log_end.ensures.logged told)
    c.in_ok-log_end.ensures.log (c.in_ok-log_end.ensures.stands told) refl below
    c.in_ok-change.ensures.generation c.restart_idle.ensures.idle c.restart_idle.ensures.live
    (g.P.Part.known c.change.new.part) (g.met.B.Blocks.cur_may c.change.new.blocks told)
    c.in_ok-change.ensures.count c.in_ok-change.ensures.size (c.in_ok-change.ensures.room told)
    (c.in_ok-change.ensures.knows told) c.in_ok-change.ensures.moves

-- the other parts stay as they are
pub returns-clause-others : goal.returns-clause-others
returns-clause-others g c told number owners old new images shape need other known rest part can
    made apart beside others =
    let B = g.B.Blocks in
    let log = c.args.log.now in
    let unit = c.args.unit in
    let more = c.change.new.log in
    let catalog = g.P.Part.shape c.args.catalog.now in
    let a = B.seen c.args.blocks.now in
    let b = B.seen c.log_end.new.blocks in
    told-stays log.geometry number owners log images old a unit shape c.args.place.now
    c.args.bytes.now rest can new need made other known b
    (stays-throughout B.tells told log.geometry catalog other owners
    (HasLog (with_record more (End unit Committed))) a (B.seen c.change.new.blocks)
    (B.seen c.force_blocks.new.blocks) b rest.safe.past
    (λ same. apart (same ∙ ap (λ (p : PartNo). p.0) c.requires.part))
    (c.change.ensures.touches told owners rest.safe.past part.rests) c.force_blocks.ensures.after
    (subst (λ (g : Geometry). Touches (InLog g) (HasLog (with_record more (End unit Committed)))
    (B.seen c.force_blocks.new.blocks) b) c.in_ok-change.ensures.geometry
    (c.log_end.ensures.touches told)))
    (g.met.B.Blocks.cur_may c.args.blocks.now told)
    (other-told log.geometry number owners log images old a unit shape c.args.place.now
    c.args.bytes.now rest can new need made other known apart others)

pub returns-clause-others_due : goal.returns-clause-others_due
returns-clause-others_due g c told number owners images state other known rest part apart others =
    let B = g.B.Blocks in
    let log = c.args.log.now in
    let unit = c.args.unit in
    let more = c.change.new.log in
    let catalog = g.P.Part.shape c.args.catalog.now in
    let a = B.seen c.args.blocks.now in
    let b = B.seen c.log_end.new.blocks in
    due-stays other owners a b
    (stays-throughout B.tells told log.geometry catalog other owners
    (HasLog (with_record more (End unit Committed))) a (B.seen c.change.new.blocks)
    (B.seen c.force_blocks.new.blocks) b rest.safe.past
    (λ same. apart (same ∙ ap (λ (p : PartNo). p.0) c.requires.part))
    (c.change.ensures.touches told owners rest.safe.past part.rests) c.force_blocks.ensures.after
    (subst (λ (g : Geometry). Touches (InLog g) (HasLog (with_record more (End unit Committed)))
    (B.seen c.force_blocks.new.blocks) b) c.in_ok-change.ensures.geometry
    (c.log_end.ensures.touches told)))
    (rest-sound other owners a others.rests) (g.met.B.Blocks.cur_may c.args.blocks.now told)

-- the log
pub returns-clause-log : goal.returns-clause-log
returns-clause-log g c = defined-log c.args.log.now c.change.new.log c.log_end.new.log
    c.restart_idle.new.log c.args.unit c.args.rec.now c.in_ok-change.ensures.geometry
    c.in_ok-change.ensures.generation c.in_ok-change.ensures.records c.in_ok-log_end.ensures.log
    c.restart_idle.ensures.idle c.restart_idle.ensures.live

pub returns-clause-geometry : goal.returns-clause-geometry
returns-clause-geometry g c = (returns-clause-log g c).geometry

pub returns-clause-stands : goal.returns-clause-stands
returns-clause-stands g c told below =
    stands-on c.change.new.log c.log_end.new.log c.restart_idle.new.log c.args.unit Committed
    c.in_ok-log_end.ensures.log c.restart_idle.ensures.idle c.restart_idle.ensures.live
    (g.B.Blocks.seen c.log_end.new.blocks) (c.in_ok-log_end.ensures.stands told)
    (subst (λ (n : ℕ). n + 1 < 2 ^ 63) (sym c.in_ok-change.ensures.generation) below)
