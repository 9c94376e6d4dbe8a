use Rattle.std.proofs.Common.{IsTrue, sym, ◌∙◌}
use Rattle.vr_ci.specs.Interval as ci
use Rattle.vr_space.specs.Room.{is_in}
use Rattle.vr_space.specs.Keyed.{IsKept, key_of}
use Rattle.vr_space.specs.Lent.{range_lent}
use Rattle.vr_attach.proofs.Passing.{still-passes, still-first}
use Rattle.vr_attach.proofs.interval.are_within.Goals as goal

pub loop-bytes-preserved : goal.loop-bytes-preserved
loop-bytes-preserved c =
    let part = c.args.layout.now in
    let item : ci.Item = record { bytes = c.in-Some.bytes.now; live = c.in-Some.field-0-1 } in
    record {
      kept = still-passes (IsKept part) c.args.view.now.items c.loop-bytes.bytes-iterator
          c.next.new.self item c.in-Some.ensures.steps c.loop-bytes.invariant.kept
          (still-first (IsKept part) c.args.view.now.items c.loop-bytes.bytes-iterator
          c.next.new.self item c.in-Some.ensures.steps c.loop-bytes.invariant.kept c.requires);
      within = still-passes (λ (other : ci.Item). IsTrue (is_in (range_lent c.args.range.now)
          (key_of part other.bytes))) c.args.view.now.items c.loop-bytes.bytes-iterator
          c.next.new.self item c.in-Some.ensures.steps c.loop-bytes.invariant.within
          (Rattle.std.proofs.Common.subst (λ (key : Rattle.std.proofs.Common.List
          Rattle.std.proofs.Common.ℕ). IsTrue (is_in (range_lent c.args.range.now) key))
          c.key_of.ensures (sym c.is_in.ensures ∙ c.if-not-is_in.false));
    }
