use Rattle.std.proofs.Common.{Bool, Option, None, cond, nat_eq, get_or, take, sym, ap, ◌∙◌}
use Rattle.std.specs.List.{list_any}
use Rattle.std.proofs.lemmas.List.Folds.{list_any_more}
use Rattle.vr_types.specs.Locks.{Lock}
use Rattle.vr_locks.specs.Maps.{lock_at, of_name}
use Rattle.vr_locks.proofs.EndLemmas.{dropped-more}
use Rattle.vr_locks.proofs.FilingLemmas.{filed-less}
use Rattle.vr_locks.proofs.maps.LockMaps.drop_locks.Goals as goal

pub loop-number-preserved : goal.loop-number-preserved
loop-number-preserved c =
    let numbers = c.args.numbers.now in
    let i = c.loop-number.number-index in
    record {
      next = c.drop_lock.ensures.next ∙ c.loop-number.invariant.next;
      locks = λ n.
          c.drop_lock.ensures.locks n
          ∙ ap (λ (o : Option Lock). cond (nat_eq (get_or numbers i 0) n) None o)
          (c.loop-number.invariant.locks n)
          ∙ dropped-more n (get_or numbers i 0) (list_any (nat_eq n) (take i numbers))
          (lock_at c.args.self.now n)
          ∙ ap (λ (b : Bool). cond b None (lock_at c.args.self.now n))
          (sym (list_any_more (nat_eq n) numbers i 0 c.loop-number-test.true));
      names = rw c.drop_lock.ensures.next
          (filed-less c.loop-number.invariant.names (of_name c.drop_lock.new.self)
          (lock_at c.drop_lock.new.self) (get_or numbers i 0)
          c.drop_lock.ensures.locks c.drop_lock.ensures.names);
      used = c.drop_lock.ensures.used;
      units = c.drop_lock.ensures.units ∙ c.loop-number.invariant.units;
    }
