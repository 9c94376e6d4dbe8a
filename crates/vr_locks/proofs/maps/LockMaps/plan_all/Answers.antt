use Rattle.std.proofs.Common.{◌≡◌, ◌+◌, [], ◌∷◌, ◌++◌, length, take, sym, ap, ◌∙◌, arith}
use Rattle.std.proofs.lemmas.List.{length-take, take_more}
use Rattle.vr_types.specs.declared.lock_name.LockName.{LockName}
use Rattle.vr_locks.proofs.PlanLemmas.{plans-push}
use Rattle.vr_locks.proofs.maps.LockMaps.plan_all.Goals as goal

pub loop-i-preserved : goal.loop-i-preserved
loop-i-preserved c =
    let before = take c.loop-i.i c.args.names.now in
    let ends : c.args.first + c.loop-i.i ≡ c.args.first + length before =
    omega (arith, length-take c.loop-i.i c.args.names.now) in
    let more : take (c.loop-i.i + 1) c.args.names.now ≡ before ++ c.index-names-i.result ∷ [] =
    take_more c.args.names.now c.loop-i.i c.index-names-i.result c.loop-i-test.true
    ∙ ap (λ (name : LockName). before ++ name ∷ []) (sym c.index-names-i.is) in
    let after : c.args.first + (c.loop-i.i + 1) ≡ c.args.first + c.loop-i.i + 1 = omega arith in
    record {
      locks = c.in_ok-step.ensures.locks ∙ c.loop-i.invariant.locks;
      next = c.in_ok-step.ensures.next ∙ c.loop-i.invariant.next;
      kept = rw after c.in_ok-step.ensures.kept;
      steps = rw (more, c.in_ok-push.ensures.items)
          (plans-push c.loop-i.self c.plan.new.self c.args.unit
          (c.args.first + c.loop-i.i) c.in_ok-step.ensures.locks c.in_ok-step.ensures.others
          c.args.first before c.loop-i.steps.items c.index-names-i.result c.in_ok-step.step ends
          c.loop-i.invariant.steps c.in_ok-step.ensures.step);
    }
