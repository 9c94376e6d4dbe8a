use Rattle.std.proofs.Common.{◌≡◌, ◌<◌, ◌∙◌, ℕ, sym, subst}
use Rattle.std.specs.Arc.{arc_value}
use Rattle.vr_frames.specs.Frames.{failed_claims}
use Rattle.vr_resident.specs.Cache.{pool_of}
use Rattle.vr_resident.specs.Making.{IsNew, TakesSome}
use Rattle.vr_resident.specs.declared.frames.Frames.{Frames}
use Rattle.vr_resident.proofs.Beginning.{is_new, is_back}
use Rattle.vr_resident.specs.declared.why.ResidentWhy.TheVariants.{NoFrames}
use Rattle.vr_resident.proofs.opening.resident.Goals as goal

same_count : (m n : ℕ) → NoFrames m ≡ NoFrames n → m ≡ n
same_count m n is = cc

pub returns-in-None-clause-new : goal.returns-in-None-clause-new
returns-in-None-clause-new g c =
    let first : Frames =
    record {
      table = c.in-Ok.table;
      pool = c.args.pool;
      seat = c.args.seat;
      size =
          c.size-size.result;
    } in
    subst (λ (f : Frames). IsNew (pool_of first) c.args.seat
    (g.D.BlockDevice.seen c.args.device).size f) (sym c.over.ensures.frames)
    (is_new first c.take_sixteen.new.frames c.in-Ok.ensures
    (g.D.BlockDevice.seen c.args.device).size c.size-size.ensures c.in-None.ensures.all
    c.take_sixteen.ensures.seat)

pub returns-in-Some-clause-seat_back : goal.returns-in-Some-clause-seat_back
returns-in-Some-clause-seat_back g c =
    let first : Frames =
    record {
      table = c.in-Ok.table;
      pool = c.args.pool;
      seat = c.args.seat;
      size =
          c.size-size.result;
    } in
    let e = c.give_all.ensures in
    is_back first c.take_sixteen.new.frames c.in-Ok.ensures c.give_all.result
    c.take_sixteen.ensures.seat e.home e.of_pool e.same e.parts

pub returns-in-Some-clause-why : goal.returns-in-Some-clause-why
returns-in-Some-clause-why g c got is =
    let same = same_count c.in-Some.got got is in
    let ran = c.in-Some.ensures.after in
    record {
      fewer = subst (λ (n : ℕ). n < 16) same c.in-Some.ensures.fewer;
      all_out = λ number within. subst (λ (n : ℕ). failed_claims c.args.seat number < n)
          (sym (c.give_all.ensures.claims number)) (c.in-Some.ensures.out number within);
      after = record {
        last = ran.last;
        took = subst (λ (n : ℕ). TakesSome (arc_value c.args.pool) n c.args.seat ran.last) same
            ran.took;
        refused = ran.refused;
        none_home = ran.none_home;
        claims = λ k. c.give_all.ensures.claims k ∙ ran.claims k;
      };
    }
