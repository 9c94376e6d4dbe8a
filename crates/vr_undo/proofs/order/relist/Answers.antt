use Rattle.std.proofs.Common.{◌<◌, length, rules}
use Rattle.std.specs.Ordering.{is_lt}
use Rattle.std.proofs.lemmas.Cmp.{nat_list_cmp_total}
use Rattle.std.proofs.lemmas.Fn.{always_returns_same}
use Rattle.std.proofs.lemmas.List.Sorted.{All-permutation, Contains-permutation, ranks_by}
use Rattle.vr_types.specs.Content.{place_cmp}
use Rattle.vr_undo.specs.Order.{key_at}
use Rattle.vr_undo.proofs.order.relist.Goals as goal

pub returns-clause-ordered : goal.returns-clause-ordered
returns-clause-ordered c =
    let records = c.args.records.now in
    record {
      numbers =
          All-permutation (λ n. n < length records) c.list_all.new.order.items
          c.sort_unstable_by.new.self.items c.sort_unstable_by.ensures.permutation
          c.list_all.ensures.numbers;
      all = λ number within is.
          Contains-permutation c.list_all.new.order.items c.sort_unstable_by.new.self.items number
          c.sort_unstable_by.ensures.permutation (c.list_all.ensures.all number within);
      sorted =
          c.sort_unstable_by.ensures.sorted
          (λ one other. is_lt (place_cmp (key_at records one) (key_at records other)))
          (ranks_by nat_list_cmp_total (key_at records))
          (always_returns_same _ _ _ (λ a r f called. search rules));
    }
