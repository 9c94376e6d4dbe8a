use Rattle.std.proofs.Common.{inr, ℕ, List, subst}
use Rattle.vr_types.specs.Blocks.{Forced}
use Rattle.vr_types.proofs.CallerLemmas.{guards-then, keeps-touches, touches-then}
use Rattle.vr_space.specs.Part.{HasRoom, InPart, part_no}
use Rattle.vr_space.proofs.CallerLemmas.{due-none, firm-due, knows-keeps, rest-keeps, rest-sound}
use Rattle.vr_space.proofs.CallerLemmas.{room-keeps, stays-keeps}
use Rattle.vr_volume.specs.Safe.{IsSafeImage}
use Rattle.vr_volume.proofs.Calls.{Anything, touches-wider}
use Rattle.vr_volume.proofs.ForceCalls.{due-forced}
use Rattle.vr_volume.proofs.Rested.{stays-holds}
use Rattle.vr_volume.proofs.setting.set_forced.Goals as goal

pub returns-in_err-force_blocks-clause-safe : goal.returns-in_err-force_blocks-clause-safe
returns-in_err-force_blocks-clause-safe g c told geometry number owners log committed safe laid free =
    let B = g.B.Blocks in
    let both = c.set_free.ensures.safe told geometry number owners log committed safe laid free in
    let forces = c.force_blocks.ensures.safe told geometry number owners log committed both.1 in (
      guards-then (B.seen c.args.blocks.now) (B.seen c.set_free.new.blocks)
          (B.seen c.force_blocks.new.blocks) (IsSafeImage geometry number owners log committed)
          both.0 forces.0,
      forces.1,
    )

pub returns-clause-safe : goal.returns-clause-safe
returns-clause-safe g c told geometry number owners log committed safe laid free =
    let B = g.B.Blocks in
    let both = c.set_free.ensures.safe told geometry number owners log committed safe laid free in
    let forces = c.force_blocks.ensures.safe told geometry number owners log committed both.1 in (
      guards-then (B.seen c.args.blocks.now) (B.seen c.set_free.new.blocks)
          (B.seen c.force_blocks.new.blocks) (IsSafeImage geometry number owners log committed)
          both.0 forces.0,
      forces.1,
    )

-- by whichever owners the part rests
pub returns-clause-elsewhere : goal.returns-clause-elsewhere
returns-clause-elsewhere g c told place found apart held =
    let B = g.B.Blocks in
    let shape = g.P.Part.shape c.args.part.now in
    let own = c.requires.rests told in
    let m = B.seen c.set_free.new.blocks in
    let d = B.seen c.force_blocks.new.blocks in
    c.set_free.ensures.elsewhere told place found apart
    (stays-holds shape own.0 m d
    (stays-keeps B.tells told m d c.force_blocks.ensures.after shape own.0)
    (rest-sound shape own.0 m (c.in_ok-set_free.ensures.rests told own.0 own.1)) place found held)

pub returns-clause-firm : goal.returns-clause-firm
returns-clause-firm g c told firm =
    let B = g.B.Blocks in
    let shape = g.P.Part.shape c.args.part.now in
    let own = c.requires.rests told in
    let place = c.args.change.now.place in
    let a = B.seen c.args.blocks.now in
    let m = B.seen c.set_free.new.blocks in
    let d = B.seen c.force_blocks.new.blocks in
    let put = g.P.Part.put c.set_free.new.part in
    let rests = c.in_ok-set_free.ensures.rests told own.0 own.1 in
    due-none shape own.0 d
    (rest-sound shape own.0 d
    (rest-keeps B.tells told shape own.0 m d c.force_blocks.ensures.after rests)) place
    (due-forced B.tells told m d c.force_blocks.ensures.after shape own.0 put place
    (subst (λ (them : List ℕ). Forced them m.cur d.may) c.put_blocks.ensures
    (c.in_ok-force_blocks.ensures.forced told))
    (rest-sound shape own.0 m rests)
    (c.in_ok-set_free.ensures.due told put place
    (firm-due shape own.0 put place a (rest-sound shape own.0 a own.1) firm)
    (inr (λ n there. there))))

pub returns-clause-rests : goal.returns-clause-rests
returns-clause-rests g c told owners still =
    let B = g.B.Blocks in
    rest-keeps B.tells told (g.P.Part.shape c.args.part.now) owners
    (B.seen c.set_free.new.blocks) (B.seen c.force_blocks.new.blocks)
    c.force_blocks.ensures.after (c.in_ok-set_free.ensures.rests told owners still)

pub returns-clause-room : goal.returns-clause-room
returns-clause-room g c told =
    let B = g.B.Blocks in
    let shape = g.P.Part.shape c.args.part.now in
    let own = c.requires.rests told in
    let m = B.seen c.set_free.new.blocks in
    room-keeps B.tells told shape own.0 (g.K.Kept.kept c.args.kept.now (part_no shape)) m
    (B.seen c.force_blocks.new.blocks) c.force_blocks.ensures.after
    (rest-sound shape own.0 m (c.in_ok-set_free.ensures.rests told own.0 own.1))
    (c.set_free.ensures.room told)

pub returns-clause-knows : goal.returns-clause-knows
returns-clause-knows g c told =
    let B = g.B.Blocks in
    let shape = g.P.Part.shape c.args.part.now in
    let own = c.requires.rests told in
    let m = B.seen c.set_free.new.blocks in
    knows-keeps B.tells told shape own.0 (g.P.Part.known c.set_free.new.part) m
    (B.seen c.force_blocks.new.blocks) c.force_blocks.ensures.after
    (rest-sound shape own.0 m (c.in_ok-set_free.ensures.rests told own.0 own.1))
    (g.met.B.Blocks.cur_may c.set_free.new.blocks told)
    (c.in_ok-set_free.ensures.knows told)

pub returns-clause-touches : goal.returns-clause-touches
returns-clause-touches g c told owners still =
    let B = g.B.Blocks in
    let shape = g.P.Part.shape c.args.part.now in
    let a = B.seen c.args.blocks.now in
    let m = B.seen c.set_free.new.blocks in
    let d = B.seen c.force_blocks.new.blocks in
    touches-then (InPart shape owners) Anything a m d
    (touches-wider (InPart shape owners) (InPart shape owners)
    (HasRoom shape (g.K.Kept.kept c.args.kept.now (part_no shape))) a m (λ n inside. inside)
    (c.set_free.ensures.touches told owners still))
    (keeps-touches B.tells (InPart shape owners) Anything m d told c.force_blocks.ensures.after
    (λ image on. tt))
