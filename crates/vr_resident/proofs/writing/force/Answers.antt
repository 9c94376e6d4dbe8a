use Rattle.std.proofs.Common.{◌<◌, List, ℕ, length, sym, ap, ◌∙◌, subst, arith, ⊎_elim, take_all}
use Rattle.vr_types.specs.Image.{Block, Image, block_at}
use Rattle.vr_resident.specs.Held.{Held, IsChanged}
use Rattle.vr_resident.specs.Cache.{IsForced, held_by}
use Rattle.vr_resident.proofs.Steps.{kept_after}
use Rattle.vr_resident.proofs.Written.{forced_clean, overlay-unchanged, listed_contains}
use Rattle.vr_resident.proofs.writing.force.Goals as goal

pub returns-in-Ok-sync-clause-forced : goal.returns-in-Ok-sync-clause-forced
returns-in-Ok-sync-clause-forced g c told n block at may =
    let seen = g.D.BlockDevice.seen in
    let mid = seen c.write_listed.new.device in
    let hs = held_by c.write_listed.new.frames in
    let after = c.write_listed.ensures.after in
    let below : n < mid.count =
    subst (λ (k : ℕ). n < k) (sym after.count_same)
    (subst (λ (k : ℕ). k < (seen c.args.device.now).count) at.2 (c.requires.listed at.0 n at.1))
    in
    let none : (b : Block) → IsChanged hs n b → ⊥ =
    λ b is. forced_clean c.args.list.now (held_by c.args.frames.now) n b
    (listed_contains n c.args.list.now at)
    (subst (λ (xs : List Held). IsChanged xs n b) c.in-Ok.ensures.ok.held is) in
    ⊎_elim
    (λ old. c.in-Ok-sync.ensures.synced told n block below old
    ∙ (sym (overlay-unchanged mid.cur hs n none)
    ∙ ap (λ (i : Image). block_at i n) (after.content told)))
    (λ changed. absurd (none block changed)) may

pub returns-in-Ok-sync-clause-kept : goal.returns-in-Ok-sync-clause-kept
returns-in-Ok-sync-clause-kept g c =
    kept_after g.D.BlockDevice.tells (g.D.BlockDevice.seen c.write_listed.new.device)
    (g.D.BlockDevice.seen c.sync.new.self) c.write_listed.new.frames c.sync.ensures.after
    c.write_listed.ensures.kept

pub returns-in-Err-sync-clause-err : goal.returns-in-Err-sync-clause-err
returns-in-Err-sync-clause-err g c = (
  length c.args.list.now,
  subst
      (λ (xs : List ℕ). IsForced xs c.args.frames.now c.write_listed.new.frames)
      (sym (take_all (length c.args.list.now) c.args.list.now (omega arith))) c.in-Ok.ensures.ok,
)

pub returns-in-Err-sync-clause-kept : goal.returns-in-Err-sync-clause-kept
returns-in-Err-sync-clause-kept g c =
    kept_after g.D.BlockDevice.tells (g.D.BlockDevice.seen c.write_listed.new.device)
    (g.D.BlockDevice.seen c.sync.new.self) c.write_listed.new.frames c.sync.ensures.after
    c.write_listed.ensures.kept
