use Rattle.std.proofs.Common.{◌<◌, ◌∙◌, sym, ap, subst, ℕ, min}
use Rattle.vr_types.specs.Image.{Image, block_at}
use Rattle.vr_resident.specs.Held.{changed_count}
use Rattle.vr_resident.specs.Cache.{held_by}
use Rattle.vr_resident.proofs.Steps.{kept_after}
use Rattle.vr_resident.proofs.Flushing.{all_clean, overlay_clean}
use Rattle.vr_resident.proofs.writing.write_all.Goals as goal

pub returns-in-Ok-sync-clause-written : goal.returns-in-Ok-sync-clause-written
returns-in-Ok-sync-clause-written g c told =
    let mid = g.D.BlockDevice.seen c.flush.new.device in
    let count = c.in-Ok.ensures.count in
    let none = all_clean c.args.frames.now c.flush.new.frames c.in-Ok.field-0 c.in-Ok.ensures.ok
    (count ∙ ap (λ (n : ℕ). min n (changed_count (held_by c.args.frames.now)))
    c.len-most.ensures.len) in
    c.sync.ensures.after.content told
    ∙ (sym (overlay_clean mid.cur (held_by c.flush.new.frames) none)
    ∙ c.flush.ensures.after.content told)

pub returns-in-Ok-sync-clause-synced : goal.returns-in-Ok-sync-clause-synced
returns-in-Ok-sync-clause-synced g c told n block below may =
    let mid = g.D.BlockDevice.seen c.flush.new.device in
    let count = c.in-Ok.ensures.count in
    let none = all_clean c.args.frames.now c.flush.new.frames c.in-Ok.field-0 c.in-Ok.ensures.ok
    (count ∙ ap (λ (n : ℕ). min n (changed_count (held_by c.args.frames.now)))
    c.len-most.ensures.len) in
    let here : n < mid.count =
    subst (λ (k : ℕ). n < k) (sym c.flush.ensures.after.count_same) below in
    c.in-Ok-sync.ensures.synced told n block here may
    ∙ ap (λ (i : Image). block_at i n)
    (sym (overlay_clean mid.cur (held_by c.flush.new.frames) none)
    ∙ c.flush.ensures.after.content told)

pub returns-in-Err-sync-clause-kept : goal.returns-in-Err-sync-clause-kept
returns-in-Err-sync-clause-kept g c =
    kept_after g.D.BlockDevice.tells (g.D.BlockDevice.seen c.flush.new.device)
    (g.D.BlockDevice.seen c.sync.new.self) c.flush.new.frames c.sync.ensures.after
    c.flush.ensures.kept

pub returns-in-Ok-sync-clause-kept : goal.returns-in-Ok-sync-clause-kept
returns-in-Ok-sync-clause-kept g c =
    kept_after g.D.BlockDevice.tells (g.D.BlockDevice.seen c.flush.new.device)
    (g.D.BlockDevice.seen c.sync.new.self) c.flush.new.frames c.sync.ensures.after
    c.flush.ensures.kept
