use Rattle.std.proofs.Common.{◌+◌, ℕ, take, drop, Some, subst, sym, arith}
use Rattle.std.proofs.lemmas.Grind.{common_steps}
use Rattle.vr_log.specs.Decoding.{IsOld}
use Rattle.vr_log.proofs.RecordBytes.{no-flag, present-whole}
use Rattle.vr_log.proofs.decoding.old_found.Goals as goal

pub returns-in-1 : goal.returns-in-1
returns-in-1 c =
    let bytes = c.args.bytes.now in
    subst (λ (n : ℕ). IsOld bytes (Some (take n (drop 5 bytes))) (5 + n))
    (sym c.four_at-length.ensures)
    (present-whole bytes (λ i. omega (arith, c.type_inv.bytes i)) c.requires
    (omega (arith, c.four_at-length.ensures)) (let h = c.in-1 in grind (arith, common_steps)))

pub returns-in_default : goal.returns-in_default
returns-in_default c =
    no-flag c.args.bytes.now (omega (arith, c.four_at-length.ensures))
    (λ flag. let h = c.in_default in grind (arith, common_steps))
