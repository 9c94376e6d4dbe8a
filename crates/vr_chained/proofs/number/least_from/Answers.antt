use Rattle.std.proofs.Common.{◌+◌, ◌^◌, ◌<◌, ◌≤◌, ◌↔◌, ℕ, IsTrue, subst, sym, arith}
use Rattle.std.specs.Option.{SomeIff}
use Rattle.vr_types.specs.Fields.{four}
use Rattle.vr_chained.specs.Searched.{is_from}
use Rattle.vr_chained.proofs.Ordered.{long-none, long-some, short-found}
use Rattle.vr_chained.proofs.number.least_from.Goals as goal

pub returns-then-bytes-longest_at-clause-some : goal.returns-then-bytes-longest_at-clause-some
returns-then-bytes-longest_at-clause-some c =
    long-some c.args.past c.args.bytes.now c.checked_add.result
    (λ i. omega (arith, c.type_inv.bytes i))
    (omega (arith, c.longest_at.ensures, c.if-bytes-longest_at.true))
    (subst (λ (n : ℕ). SomeIff c.checked_add.result (n + 1 < 2 ^ 32) (n + 1))
    c.start_number-number.ensures c.checked_add.ensures)

pub returns-then-bytes-longest_at-clause-none : goal.returns-then-bytes-longest_at-clause-none
returns-then-bytes-longest_at-clause-none c =
    long-none c.args.past c.args.bytes.now c.checked_add.result
    (λ i. omega (arith, c.type_inv.bytes i))
    (omega (arith, c.longest_at.ensures, c.if-bytes-longest_at.true))
    (subst (λ (n : ℕ). SomeIff c.checked_add.result (n + 1 < 2 ^ 32) (n + 1))
    c.start_number-number.ensures c.checked_add.ensures)

pub returns-else-bytes-longest_at-clause-some : goal.returns-else-bytes-longest_at-clause-some
returns-else-bytes-longest_at-clause-some c =
    subst (λ (n : ℕ). (r : ℕ) → r < 2 ^ 32
    → IsTrue (is_from c.args.past c.args.bytes.now (four r)) ↔ (n ≤ r))
    (sym c.start_number-number.ensures)
    (λ r. short-found c.args.past c.args.bytes.now r (λ i. omega (arith, c.type_inv.bytes i))
    (omega (arith, c.longest_at.ensures, c.if-bytes-longest_at.false)))
