use Rattle.std.proofs.Common.{ℕ, sym, subst, inr}
use Rattle.vr_types.proofs.CallerLemmas.{keeps-then}
use Rattle.vr_resident.specs.Held.{IsOther, over}
use Rattle.vr_resident.specs.Cache.{held_by}
use Rattle.vr_resident.proofs.Entering.{room_other}
use Rattle.vr_resident.proofs.bringing.miss.Goals as goal

pub read_in-requires-clause-not_held : goal.read_in-requires-clause-not_held
read_in-requires-clause-not_held g c =
    room_other c.args.n c.args.frames.now c.room.new.frames c.in-Ok.ensures.ok c.requires.not_held

pub returns-in-Ok-read_in-clause-ok : goal.returns-in-Ok-read_in-clause-ok
returns-in-Ok-read_in-clause-ok g c =
    let r = c.in-Ok-read_in.ensures.ok in (
      r.h,
      r.it_is,
      inr (
        r.unchanged,
        record {
          not_held =
              subst (λ (k : ℕ). IsOther k (held_by c.args.frames.now)) (sym r.it_is)
              c.requires.not_held;
          with_room = c.room.new.frames;
          room = c.in-Ok.ensures.ok;
          enters = r.enters;
        },
      ),
    )

pub returns-in-Ok-read_in-clause-after : goal.returns-in-Ok-read_in-clause-after
returns-in-Ok-read_in-clause-after g c =
    keeps-then g.D.BlockDevice.tells
    (over (g.D.BlockDevice.seen c.args.device.now) (held_by c.args.frames.now))
    (over (g.D.BlockDevice.seen c.room.new.device) (held_by c.room.new.frames))
    (over (g.D.BlockDevice.seen c.read_in.new.device) (held_by c.read_in.new.frames))
    c.in-Ok.ensures.after c.in-Ok-read_in.ensures.after
