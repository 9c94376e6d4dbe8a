use Rattle.std.proofs.Common.{◌+◌, ◌-◌, ◌∙◌, ℕ, List, ◌∷◌, sym, ap, refl, length, arith}
use Rattle.vr_ci.specs.Interval.{Item}
use Rattle.vr_ci.specs.Reading.{items_left}
use Rattle.vr_ci.proofs.LendLemmas.{next_items, lend_in, part_of}
use Rattle.vr_ci.proofs.records.RecordsIterator.next.Goals as goal

pub returns-clause-steps : goal.returns-clause-steps
returns-clause-steps c =
    let block = c.self.inside.bytes.now in
    let next = c.in_ok-batch.batch in
    let found = c.in_ok-batch.ensures in
    sym c.self.view_is ∙ next_items block c.self.inside.low c.self.inside.batch next _
    c.self.inside.offset found.some found.marks refl
    ∙ ap (λ (x : List ℕ). (let i : Item = record { bytes = x; live = next.live } in
    i) ∷ items_left block c.self.inside.low (record next { left = next.left - 1 })
    (c.self.inside.offset + next.length))
    (sym (part_of block c.self.inside.offset next.length))

pub returns-clause-goes : goal.returns-clause-goes
returns-clause-goes c = record {
  on = λ f. (tt, f, omega (arith, ap length (returns-clause-steps c)));
  keeps = tt;
  rests = λ f. tt;
}

pub invariant_of-self : goal.invariant_of-self
invariant_of-self c =
    let found = c.in_ok-batch.ensures in
    (lend_in c.self.inside.bytes.now c.self.inside.low c.self.inside.batch c.in_ok-batch.batch
    c.self.inside.offset c.self.invariant found.some found.lent found.bytes).0

pub overflow_add-self : goal.overflow_add-self
overflow_add-self c =
    let found = c.in_ok-batch.ensures in
    let fits = (lend_in c.self.inside.bytes.now c.self.inside.low c.self.inside.batch
    c.in_ok-batch.batch c.self.inside.offset c.self.invariant found.some found.lent found.bytes).1
    in
    omega (arith, fits)
