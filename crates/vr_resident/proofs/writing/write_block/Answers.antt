use Rattle.std.proofs.Common.{◌∷◌, []}
use Rattle.vr_resident.specs.Cache.{IsForced, WritesAt, held_by, entries_of}
use Rattle.vr_resident.proofs.Steps.{on_ok, still}
use Rattle.vr_resident.proofs.Flushing.{fit_of_changed, forces_one, forces_none}
use Rattle.vr_resident.proofs.writing.write_block.Goals as goal

pub write_out-requires-clause-changed : goal.write_out-requires-clause-changed
write_out-requires-clause-changed g c =
    fit_of_changed c.args.n (entries_of c.args.frames.now) c.in-Some.number c.in-Some.ensures

pub returns-in-Some-clause-ok : goal.returns-in-Some-clause-ok
returns-in-Some-clause-ok g c =
    let frames = c.args.frames.now in
    let r = c.in-Some.ensures in
    on_ok c.write_out.result (WritesAt c.in-Some.number frames c.write_out.new.frames)
    (IsForced (c.args.n ∷ []) frames c.write_out.new.frames)
    (λ written. forces_one frames c.write_out.new.frames c.args.n c.in-Some.number r.before r.after
    r.place r.split r.it_fits c.requires.held_is.once
    (written r.before r.after r.place r.split)) c.write_out.ensures.ok

pub returns-in-None-clause-ok : goal.returns-in-None-clause-ok
returns-in-None-clause-ok g c = forces_none c.args.frames.now c.args.n c.in-None.ensures

pub returns-in-None-clause-after : goal.returns-in-None-clause-after
returns-in-None-clause-after g c =
    still g.D.BlockDevice.tells (g.D.BlockDevice.seen c.args.device.now) (held_by c.args.frames.now)
    (λ told image left. g.met.D.BlockDevice.images_may c.args.device.now image told left)
