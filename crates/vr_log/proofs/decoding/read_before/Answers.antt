use Rattle.std.proofs.Common.{◌+◌, ◌-◌, List, ℕ, length, take, drop, Some, None, refl, ap}
use Rattle.std.proofs.Common.{◌∙◌, arith, inl, inr}
use Rattle.vr_types.specs.Fields.{four_at}
use Rattle.vr_log.specs.declared.record.LogRecord.TheVariants.{Before}
use Rattle.vr_log.proofs.BeforeBytes.{read-cut, read-whole, read-wrong, old-is}
use Rattle.vr_log.proofs.decoding.read_before.Goals as goal

pub returns-then-bytes-lt15 : goal.returns-then-bytes-lt15
returns-then-bytes-lt15 c =
    inr (record { kind = c.requires.first; short = inl (omega arith) })

pub returns-then-bytes-end : goal.returns-then-bytes-end
returns-then-bytes-end c =
    inr (record {
      kind = c.requires.first;
      short = inr (inl (omega (arith, c.two_at.ensures)));
    })

pub returns-in_ok-rec-in-Absent : goal.returns-in_ok-rec-in-Absent
returns-in_ok-rec-in-Absent c =
    read-whole c.args.bytes.now c.two_at.result (λ i. omega (arith, c.type_inv.bytes i))
    (omega arith) c.requires.first c.two_at.ensures (omega arith) None 5
    (15 + c.two_at.result + 5) c.in_ok-rec-in-Absent.rec c.in_ok-rec-in-Absent.ensures refl
    c.in-Absent.ensures

pub returns-in_ok-rec-in-Present : goal.returns-in_ok-rec-in-Present
returns-in_ok-rec-in-Present c =
    let bytes = c.args.bytes.now in
    let n = c.two_at.result in
    let m = c.in-Present.length in
    let tail = take (length bytes - (15 + n)) (drop (15 + n) bytes) in
    read-whole bytes n (λ i. omega (arith, c.type_inv.bytes i)) (omega arith) c.requires.first
    c.two_at.ensures (omega arith) (Some (take m (drop 5 tail))) (5 + m) (15 + n + 5 + m)
    c.in_ok-rec-in-Present.rec (c.in_ok-rec-in-Present.ensures
    ∙ ap (λ (l : List ℕ). Before (record { deck = four_at 1 bytes; number = four_at 5 bytes })
    (record { 0 = four_at 9 bytes }) (take (15 + n - 15) (drop 15 bytes)) (Some l))
    (c.in_ok-old-in-Present.ensures
    ∙ old-is bytes n (λ i. omega (arith, c.type_inv.bytes i)) (omega arith) c.requires.first
    c.two_at.ensures (omega arith) m))
    (omega arith) c.in-Present.ensures

pub returns-in-Broken : goal.returns-in-Broken
returns-in-Broken c =
    read-cut c.args.bytes.now c.two_at.result (λ i. omega (arith, c.type_inv.bytes i))
    (omega arith) c.requires.first c.two_at.ensures (omega arith) c.in-Broken.ensures

pub returns-in-Wrong : goal.returns-in-Wrong
returns-in-Wrong c =
    read-wrong c.args.bytes.now c.two_at.result (λ i. omega (arith, c.type_inv.bytes i))
    (omega arith) c.requires.first c.two_at.ensures (omega arith) c.in-Wrong.ensures
