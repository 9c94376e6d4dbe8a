use Rattle.std.proofs.Common.{subst, sym}
use Rattle.vr_types.specs.Moments.{Guards}
use Rattle.vr_types.proofs.CallerLemmas.{keeps-none}
use Rattle.vr_record_file.specs.Now.{state_now}
use Rattle.vr_event.specs.Acting.{IsLeftIn}
use Rattle.vr_event.proofs.Asking.{can-end, ends-asked, ends-by, none-of-state}
use Rattle.vr_event.proofs.Recovers.{recovers-keeps, recovers-with}
use Rattle.std.proofs.Common.{ap}
use Rattle.vr_store.specs.Store.{StoreNow}
use Rattle.vr_event.proofs.CountedSplits.{keeps-same, splits-answered}
use Rattle.vr_event.proofs.volume.Volume.end_step.Goals as goal

pub returns-then-not-is_live-clause-held : goal.returns-then-not-is_live-clause-held
returns-then-not-is_live-clause-held g c told opening held ending =
    let old = c.args.self.now in
    let unit = c.args.unit in
    let can = can-end opening old.file unit c.args.kind c.args.request c.requires.ends
    (λ is. none-of-state old.number old.store (state_now opening old.file)
    (g.B.Blocks.seen old.blocks) unit (held.stored c.requires.going) (c.requires.none_kept is)) in
    c.end_idle.ensures.held told opening held
    (ends-asked opening old.file unit c.args.request
    (ends-by c.args.kind c.args.request c.requires.ends) ending can.0)

pub returns-then-not-is_live-clause-moments : goal.returns-then-not-is_live-clause-moments
returns-then-not-is_live-clause-moments g c told opening held =
    let seen = g.B.Blocks.seen in
    let tells = g.B.Blocks.tells in
    let old = c.args.self.now in
    let state = state_now opening old.file in
    let a = seen old.blocks in
    let stored = held.stored c.requires.going in
    subst (λ (b : g.row.B.Denot). Guards a (seen b) (IsLeftIn old.store.log.geometry old.number
    state c.args.after c.args.unit c.args.line c.args.request old.file c.end_idle.new.self.file)) (sym c.end_idle.ensures.blocks)
    (recovers-with old.number old.store state a a stored c.args.after c.args.unit c.args.line
    c.args.request old.file c.end_idle.new.self.file
    (recovers-keeps old.number old.store state a a stored tells told
    (keeps-none tells a (λ told image is. g.met.B.Blocks.images_may old.blocks image told is))))

pub returns-then-is_forced-clause-held : goal.returns-then-is_forced-clause-held
returns-then-is_forced-clause-held g c told opening held ending =
    let old = c.args.self.now in
    let unit = c.args.unit in
    let can = can-end opening old.file unit c.args.kind c.args.request c.requires.ends
    (λ is. none-of-state old.number old.store (state_now opening old.file)
    (g.B.Blocks.seen old.blocks) unit (held.stored c.requires.going) (c.requires.none_kept is)) in
    c.end_live.ensures.held told opening held
    (ends-asked opening old.file unit c.args.request
    (ends-by c.args.kind c.args.request c.requires.ends) ending can.0) can.1

pub returns-then-is_forced-clause-moments : goal.returns-then-is_forced-clause-moments
returns-then-is_forced-clause-moments g c told opening held =
    let old = c.args.self.now in
    let unit = c.args.unit in
    let can = can-end opening old.file unit c.args.kind c.args.request c.requires.ends
    (λ is. none-of-state old.number old.store (state_now opening old.file)
    (g.B.Blocks.seen old.blocks) unit (held.stored c.requires.going) (c.requires.none_kept is)) in
    c.end_live.ensures.moments told opening held can.1

pub returns-else-is_forced-clause-moments : goal.returns-else-is_forced-clause-moments
returns-else-is_forced-clause-moments g c told opening held =
    let old = c.args.self.now in
    recovers-with old.number old.store (state_now opening old.file) (g.B.Blocks.seen old.blocks)
    (g.B.Blocks.seen c.force_step.new.self.blocks) (held.stored c.requires.going) c.args.after
    c.args.unit c.args.line c.args.request old.file c.force_step.new.self.file
    (c.force_step.ensures.moments told opening held)

pub returns-then-not-is_live-clause-splits : goal.returns-then-not-is_live-clause-splits
returns-then-not-is_live-clause-splits g c =
    let faults = g.B.Blocks.faults in
    let old = c.args.self.now in
    let new = c.end_idle.new.self in
    splits-answered old new (faults old.blocks) (faults new.blocks) c.args.after c.args.unit
    c.args.line c.args.request
    (λ going. keeps-same old.store new.store
    (ap (λ (s : StoreNow). s.parts) c.end_idle.ensures.store)) c.end_idle.ensures.acted

pub returns-then-is_forced-clause-splits : goal.returns-then-is_forced-clause-splits
returns-then-is_forced-clause-splits g c =
    let faults = g.B.Blocks.faults in
    let old = c.args.self.now in
    let new = c.end_live.new.self in
    splits-answered old new (faults old.blocks) (faults new.blocks) c.args.after c.args.unit
    c.args.line c.args.request
    (λ going. keeps-same old.store new.store c.end_live.ensures.parts) c.end_live.ensures.acted
