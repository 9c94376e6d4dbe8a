use Rattle.std.proofs.Common.{rules}
use Rattle.std.proofs.lemmas.List.Sorted.{IsPartitionPoint-from_clause}
use Rattle.vr_undo.specs.Order.{comes_before, key_at}
use Rattle.vr_undo.proofs.Ordered.{parted}
use Rattle.vr_undo.proofs.order.first_from.Goals as goal

pub returns-clause-first : goal.returns-clause-first
returns-clause-first c =
    IsPartitionPoint-from_clause
    (λ number. comes_before c.args.bound (key_at c.args.records.now number)) c.args.order.now
    c.partition_point.result c.partition_point.ensures.partitioned
    (parted c.args.records.now c.args.order.now c.args.bound c.requires)
    (λ a r g called. search rules)
