-- An image spells one log at most, whatever the length of its blocks.
use Rattle.std.proofs.Common.{◌≡◌, ◌∙◌, ◌<◌, ⊎_elim, inl, inr, ℕ, zero, suc, List, ap, arith}
use Rattle.std.proofs.Common.{length, refl, replicate, subst, sym}
use Rattle.std.proofs.lemmas.Bool.{cases_lt}
use Rattle.vr_types.specs.Fields.{AreZeros, eight_at}
use Rattle.vr_types.specs.Image.{Image, block_at}
use Rattle.vr_types.specs.declared.geometry.Geometry.{Geometry}
use Rattle.vr_types.proofs.CallerLemmas.{zeros_are}
use Rattle.vr_log.specs.Content.{Content as LogContent}
use Rattle.vr_log.specs.Records.{SpellsRecords}
use Rattle.vr_log.specs.Spells.{Spells, log_bytes}
use Rattle.vr_log.specs.declared.record.LogRecord.{LogRecord}
use Rattle.vr_log.proofs.Unique.{spelled_one, zeros-generation}

few-zeros : (count : ℕ) → count < 8 → eight_at 0 (replicate count 0) ≡ 0
unfolding eight_at
few-zeros zero few = refl
few-zeros (suc zero) few = refl
few-zeros (suc (suc zero)) few = refl
few-zeros (suc (suc (suc zero))) few = refl
few-zeros (suc (suc (suc (suc zero)))) few = refl
few-zeros (suc (suc (suc (suc (suc zero))))) few = refl
few-zeros (suc (suc (suc (suc (suc (suc zero)))))) few = refl
few-zeros (suc (suc (suc (suc (suc (suc (suc zero))))))) few = refl
few-zeros (suc (suc (suc (suc (suc (suc (suc (suc n)))))))) few = absurd (omega (arith, few))

-- a block of zeros has generation 0
no-generation : (block : List ℕ) → AreZeros block → eight_at 0 block ≡ 0
no-generation block zeros = ⊎_elim
    (λ few. ap (eight_at 0) (zeros_are block zeros) ∙ few-zeros (length block) few)
    (λ long. zeros-generation block long zeros)
    (cases_lt (length block) 8)

pub same_log : (geometry : Geometry) (image : Image) (one other : LogContent)
    → Spells geometry image one → Spells geometry image other → one ≡ other
same_log geometry image one other (inl first) (inl second) = first.none ∙ sym second.none
same_log geometry image one other (inl first) (inr second) = absurd (omega
    (arith, no-generation (block_at image 1) first.zeros, second.generation, second.some))
same_log geometry image one other (inr first) (inl second) = absurd (omega
    (arith, no-generation (block_at image 1) second.zeros, first.generation, first.some))
same_log geometry image one other (inr first) (inr second) =
    let same : one.generation ≡ other.generation = sym first.generation ∙ second.generation in
    let records : one.records ≡ other.records =
    spelled_one (log_bytes geometry other.generation image) one.records other.records
    (subst (λ (g : ℕ). SpellsRecords (log_bytes geometry g image) one.records) same
    first.records) second.records in
    ap (λ (g : ℕ). let c : LogContent = record { generation = g; records = one.records } in c) same
    ∙ ap (λ (rs : List LogRecord). let c : LogContent =
    record { generation = other.generation; records = rs } in c) records
