use Rattle.std.proofs.Common.{sym, subst}
use Rattle.vr_resident.specs.Cache.{pool_of}
use Rattle.vr_resident.specs.Making.{IsNew}
use Rattle.vr_resident.specs.declared.frames.Frames.{Frames}
use Rattle.vr_resident.proofs.Beginning.{is_new, is_back}
use Rattle.vr_resident.proofs.opening.resident_own.Goals as goal

pub returns-in-Ok-own_sixteen-clause-new : goal.returns-in-Ok-own_sixteen-clause-new
returns-in-Ok-own_sixteen-clause-new g c =
    let first : Frames =
    record {
      table = c.in-Ok.table;
      pool = c.args.pool;
      seat = c.args.seat;
      size =
          c.size-size.result;
    } in
    subst (λ (f : Frames). IsNew (pool_of first) c.args.seat
    (g.D.BlockDevice.seen c.args.device).size f) (sym c.over.ensures.frames)
    (is_new first c.own_sixteen.new.frames c.in-Ok.ensures (g.D.BlockDevice.seen c.args.device).size
    c.size-size.ensures c.in-Ok-own_sixteen.ensures.all c.own_sixteen.ensures.seat)

pub returns-in-Err-own_sixteen-clause-seat_back : goal.returns-in-Err-own_sixteen-clause-seat_back
returns-in-Err-own_sixteen-clause-seat_back g c =
    let first : Frames =
    record {
      table = c.in-Ok.table;
      pool = c.args.pool;
      seat = c.args.seat;
      size =
          c.size-size.result;
    } in
    let e = c.give_all.ensures in
    is_back first c.own_sixteen.new.frames c.in-Ok.ensures c.give_all.result
    c.own_sixteen.ensures.seat e.home e.of_pool e.same e.parts
