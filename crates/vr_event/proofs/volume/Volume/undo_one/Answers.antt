use Rattle.std.proofs.Common.{[], subst, sym, ℕ}
use Rattle.vr_types.specs.Moments.{Guards}
use Rattle.vr_types.proofs.CallerLemmas.{guards-then}
use Rattle.vr_log.specs.LogNow.{LogNow}
use Rattle.vr_record_file.specs.Now.{FileNow, state_now}
use Rattle.vr_volume.specs.Crashes.{RecoversTo}
use Rattle.vr_event.specs.EndedFile.{IsEnding}
use Rattle.vr_event.proofs.Recovers.{recovers-keeps}
use Rattle.vr_event.proofs.CountedSplits.{keeps-same, nearer-after, no-reads, one-read, splits-after, splits-met}
use Rattle.std.proofs.Common.{ap, arith, refl}
use Rattle.vr_store.specs.Store.{StoreNow}
use Rattle.vr_event.proofs.volume.Volume.undo_one.Goals as goal

pub returns-in-Ok-true-clause-moments : goal.returns-in-Ok-true-clause-moments
returns-in-Ok-true-clause-moments g c told opening held ending =
    let seen = g.B.Blocks.seen in
    let old = c.args.self.now in
    let state = state_now opening old.file in
    let stored = held.stored c.requires.going in
    let mid = c.meet_back.new.self in
    let first = recovers-keeps old.number old.store state (seen old.blocks) (seen mid.blocks) stored
    g.B.Blocks.tells told c.meet_back.ensures.keeps in
    let second = c.stage_back.ensures.moments told opening (c.meet_back.ensures.held told opening held) in
    guards-then (seen old.blocks) (seen mid.blocks) (seen c.stage_back.new.self.blocks)
    (RecoversTo old.store.log.geometry old.number state []) first
    (subst (λ (f : FileNow). Guards (seen mid.blocks) (seen c.stage_back.new.self.blocks)
    (RecoversTo old.store.log.geometry old.number (state_now opening f) []))
    c.meet_back.ensures.file
    (subst (λ (n : ℕ). Guards (seen mid.blocks) (seen c.stage_back.new.self.blocks)
    (RecoversTo old.store.log.geometry n (state_now opening mid.file) []))
    c.meet_back.ensures.number
    (subst (λ (l : LogNow). Guards (seen mid.blocks) (seen c.stage_back.new.self.blocks)
    (RecoversTo l.geometry mid.number (state_now opening mid.file) []))
    c.meet_back.ensures.log second)))

pub returns-in-Ok-false-clause-moments : goal.returns-in-Ok-false-clause-moments
returns-in-Ok-false-clause-moments g c told opening held ending =
    let seen = g.B.Blocks.seen in
    let old = c.args.self.now in
    let state = state_now opening old.file in
    let stored = held.stored c.requires.going in
    let mid = c.meet_back.new.self in
    let first = recovers-keeps old.number old.store state (seen old.blocks) (seen mid.blocks) stored
    g.B.Blocks.tells told c.meet_back.ensures.keeps in
    let second = c.put_back.ensures.moments told opening (c.meet_back.ensures.held told opening held)
    (subst (λ (f : FileNow). IsEnding opening f c.args.unit c.args.request)
    (sym c.meet_back.ensures.file) ending) in
    guards-then (seen old.blocks) (seen mid.blocks) (seen c.put_back.new.self.blocks)
    (RecoversTo old.store.log.geometry old.number state []) first
    (subst (λ (f : FileNow). Guards (seen mid.blocks) (seen c.put_back.new.self.blocks)
    (RecoversTo old.store.log.geometry old.number (state_now opening f) []))
    c.meet_back.ensures.file
    (subst (λ (n : ℕ). Guards (seen mid.blocks) (seen c.put_back.new.self.blocks)
    (RecoversTo old.store.log.geometry n (state_now opening mid.file) []))
    c.meet_back.ensures.number
    (subst (λ (l : LogNow). Guards (seen mid.blocks) (seen c.put_back.new.self.blocks)
    (RecoversTo l.geometry mid.number (state_now opening mid.file) []))
    c.meet_back.ensures.log second)))

pub returns-in-Err-Read-clause-moments : goal.returns-in-Err-Read-clause-moments
returns-in-Err-Read-clause-moments g c told opening held ending =
    let seen = g.B.Blocks.seen in
    let old = c.args.self.now in
    let state = state_now opening old.file in
    let stored = held.stored c.requires.going in
    let mid = c.meet_back.new.self in
    subst (λ (b : g.row.B.Denot). Guards (seen old.blocks) (seen b)
    (RecoversTo old.store.log.geometry old.number state [])) (sym c.refuse_read.ensures.blocks)
    (recovers-keeps old.number old.store state (seen old.blocks) (seen mid.blocks) stored
    g.B.Blocks.tells told c.meet_back.ensures.keeps)

pub returns-in-Err-Write-clause-moments : goal.returns-in-Err-Write-clause-moments
returns-in-Err-Write-clause-moments g c told opening held ending =
    let seen = g.B.Blocks.seen in
    let old = c.args.self.now in
    let state = state_now opening old.file in
    let stored = held.stored c.requires.going in
    let mid = c.meet_back.new.self in
    subst (λ (b : g.row.B.Denot). Guards (seen old.blocks) (seen b)
    (RecoversTo old.store.log.geometry old.number state [])) (sym c.stop.ensures.blocks)
    (recovers-keeps old.number old.store state (seen old.blocks) (seen mid.blocks) stored
    g.B.Blocks.tells told c.meet_back.ensures.keeps)

pub returns-in-Ok-true-clause-nearer : goal.returns-in-Ok-true-clause-nearer
returns-in-Ok-true-clause-nearer g c told =
    nearer-after c.stage_back.result c.args.unit c.args.self.now c.meet_back.new.self
    c.stage_back.new.self c.meet_back.ensures.meets (c.stage_back.ensures.nearer told)

pub returns-in-Ok-true-clause-splits : goal.returns-in-Ok-true-clause-splits
returns-in-Ok-true-clause-splits g c told =
    splits-after c.args.self.now c.meet_back.new.self c.stage_back.new.self
    c.meet_back.ensures.meets c.meet_back.ensures.file (c.stage_back.ensures.splits told)

pub returns-in-Ok-false-clause-nearer : goal.returns-in-Ok-false-clause-nearer
returns-in-Ok-false-clause-nearer g c told =
    nearer-after c.put_back.result c.args.unit c.args.self.now c.meet_back.new.self
    c.put_back.new.self c.meet_back.ensures.meets (c.put_back.ensures.nearer told)

pub returns-in-Ok-false-clause-splits : goal.returns-in-Ok-false-clause-splits
returns-in-Ok-false-clause-splits g c told =
    splits-after c.args.self.now c.meet_back.new.self c.put_back.new.self
    c.meet_back.ensures.meets c.meet_back.ensures.file (c.put_back.ensures.splits told)

pub returns-in-Err-Read-clause-splits : goal.returns-in-Err-Read-clause-splits
returns-in-Err-Read-clause-splits g c told =
    let mid = c.meet_back.new.self in
    let new = c.refuse_read.new.self in
    splits-met c.args.self.now mid new no-reads one-read c.args.after c.args.unit c.args.line
    c.args.request c.meet_back.ensures.meets c.meet_back.ensures.file
    (λ going. keeps-same mid.store new.store
    (ap (λ (s : StoreNow). s.parts) c.refuse_read.ensures.store))
    (c.refuse_read.ensures.acted no-reads one-read (omega arith) refl)

pub returns-in-Err-Write-clause-splits : goal.returns-in-Err-Write-clause-splits
returns-in-Err-Write-clause-splits g c told going = absurd (c.stop.ensures.stops going)
