use Rattle.std.proofs.Common.{ℕ, subst, sym, arith}
use Rattle.vr_types.specs.Fields.{four_at}
use Rattle.vr_log.specs.declared.record.LogRecord.TheVariants.{End}
use Rattle.vr_log.specs.Decoding.{IsWhole}
use Rattle.vr_log.proofs.RecordBytes.{end-whole}
use Rattle.vr_log.proofs.decoding.read_end.Goals as goal

pub returns : goal.returns
returns c =
    let bytes = c.args.bytes.now in
    subst (λ (n : ℕ). IsWhole bytes (End (record { deck = n; number = c.four_at-2.result })
    c.args.kind) 9) (sym c.four_at.ensures)
    (subst (λ (n : ℕ). IsWhole bytes (End (record { deck = four_at 1 bytes; number = n })
    c.args.kind) 9) (sym c.four_at-2.ensures)
    (end-whole c.args.kind bytes (λ i. omega (arith, c.type_inv.bytes i)) c.requires.long
    c.requires.first))
