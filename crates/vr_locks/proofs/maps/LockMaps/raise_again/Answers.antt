use Rattle.std.proofs.Common.{nat_eq, sym, ap, ◌∙◌}
use Rattle.std.specs.HashMap.{get}
use Rattle.vr_locks.proofs.AskLemmas.{locks-kept}
use Rattle.vr_locks.proofs.maps.LockMaps.raise_again.Goals as goal

pub returns-clause-grants : goal.returns-clause-grants
returns-clause-grants c =
    let raised = c.raise.ensures.grants in
    record {
      locks = locks-kept c.raise.new.self c.forget_one.new.self c.forget_one.ensures.locks
          c.forget_one.ensures.next ∙ raised.locks;
      kept = c.forget_one.ensures.kept;
      next = c.forget_one.ensures.next ∙ raised.next;
      owned = λ other n own.
          let owned = raised.owned other n own in
          (owned.0, ap (λ map. get nat_eq map n) c.forget_one.ensures.locks ∙ owned.1, owned.2);
      free = λ other none n lock there.
          raised.free other none n lock (sym (ap
          (λ map. get nat_eq map n) c.forget_one.ensures.locks) ∙ there);
    }
