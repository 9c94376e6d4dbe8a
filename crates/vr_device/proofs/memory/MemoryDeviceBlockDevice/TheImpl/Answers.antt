-- What the device's own clauses say of a call is what a block device promises.
use Rattle.std.proofs.Common.{◌≡◌, ◌⊎◌, ⊎_elim, ◌<◌, true, ap, sym, subst, ◌∙◌, arith}
use Rattle.vr_types.specs.Blocks.{Keeps, Puts, AllForced}
use Rattle.vr_device.specs.Disk.{MayHold, written}
use Rattle.vr_device.specs.Choices.{MayHold-synced}
use Rattle.vr_device.specs.Past.{disk_of, with_event, wrote, forced, seen_of}
use Rattle.vr_device.specs.DeviceCalls.{counted, read_failed, faults_of}
use Rattle.vr_device.specs.Memory.{past_in, calls_in, IsFailedWrite, IsFailedSync, IsRefused}
use Rattle.vr_device.proofs.Answering.{either, on_ok, on_err}
use Rattle.vr_device.proofs.Events.{disk-event, keeps-same, keeps-forced, puts-wrote, puts-failed}
use Rattle.vr_device.proofs.Events.{puts-none}
use Rattle.vr_device.proofs.memory.MemoryDeviceBlockDevice.TheImpl.Goals as goal

pub read-tells : goal.read-tells
read-tells x c =
    let old = c.args.self.now in
    let new = c.new.self.now in
    let Counted = calls_in new ≡ counted (calls_in old) in
    let FailedRead = calls_in new ≡ read_failed (counted (calls_in old)) in
    let before = faults_of (calls_in old) in
    let now = faults_of (calls_in new) in
    record {
      bytes = λ told. c.ensures.bytes;
      after = subst (λ past. Keeps true (seen_of (past_in old)) (seen_of past))
          (sym c.ensures.past) (keeps-same (past_in old));
      fault = (
        on_ok c.result Counted (now ≡ before) c.ensures.ok (λ same. ap faults_of same),
        on_err c.result FailedRead ((before.reads < now.reads)
            × (now.writes ≡ before.writes)) c.ensures.err
            (λ fell. (
              omega (arith, ap (λ calls. (faults_of calls).reads) fell),
              ap (λ calls. (faults_of calls).writes) fell,
            )),
      );
    }

pub write-tells : goal.write-tells
write-tells x c =
    let old = c.args.self.now in
    let new = c.new.self.now in
    let n = c.args.n in
    let bytes = c.args.from.now in
    let Done = past_in new ≡ with_event (past_in old) (wrote n bytes) in
    let Not = IsFailedWrite old new n bytes ⊎ IsRefused old new in
    let Counted = calls_in new ≡ counted (calls_in old) in
    let before = faults_of (calls_in old) in
    let now = faults_of (calls_in new) in
    let After = Puts true n bytes (seen_of (past_in old)) (seen_of (past_in new)) in
    record {
      written = λ told. on_ok c.result Done ((disk_of (past_in new)).seen ≡
          (written (disk_of (past_in old)) n bytes).seen) c.ensures.ok
          (λ done. ap (λ past. (disk_of past).seen) done
          ∙ ap (λ disk. disk.seen) (disk-event (past_in old) (wrote n bytes)));
      after = either c.result Done Not After c.ensures.ok c.ensures.err
          (λ done. subst (λ past. Puts true n bytes (seen_of (past_in old)) (seen_of past))
          (sym done) (puts-wrote (past_in old) n bytes))
          (⊎_elim
          (λ tried. subst (λ past. Puts true n bytes (seen_of (past_in old)) (seen_of past))
          (sym tried.past) (puts-failed (past_in old) n bytes))
          (λ refused. subst (λ past. Puts true n bytes (seen_of (past_in old)) (seen_of past))
          (sym refused.past) (puts-none (past_in old) n bytes)));
      fault = (
        on_ok c.result Counted (now ≡ before) c.ensures.counted (λ same. ap faults_of same),
        on_err c.result Not ((before.writes < now.writes)
            × (now.reads ≡ before.reads)) c.ensures.err
            (⊎_elim
            (λ tried. (
              omega (arith, ap (λ calls. (faults_of calls).writes) tried.calls),
              ap (λ calls. (faults_of calls).reads) tried.calls,
            ))
            (λ refused. (
              omega (arith, ap (λ calls. (faults_of calls).writes) refused.calls),
              ap (λ calls. (faults_of calls).reads) refused.calls,
            ))),
      );
    }

pub sync-tells : goal.sync-tells
sync-tells x c =
    let old = c.args.self.now in
    let new = c.new.self.now in
    let Done = past_in new ≡ with_event (past_in old) forced in
    let Not = IsFailedSync old new ⊎ IsRefused old new in
    let Counted = calls_in new ≡ counted (calls_in old) in
    let before = faults_of (calls_in old) in
    let now = faults_of (calls_in new) in
    let After = Keeps true (seen_of (past_in old)) (seen_of (past_in new)) in
    let same : Not → past_in new ≡ past_in old =
    ⊎_elim (λ failing. failing.past) (λ refused. refused.past) in
    record {
      synced = λ told. on_ok c.result Done (AllForced (seen_of (past_in old)).count
          (disk_of (past_in old)).seen (MayHold (disk_of (past_in new)))) c.ensures.ok
          (λ done n block below may. MayHold-synced (disk_of (past_in old)) n block
          (subst (λ disk. MayHold disk n block) (ap disk_of done
          ∙ disk-event (past_in old) forced) may));
      after = either c.result Done Not After c.ensures.ok c.ensures.err
          (λ done. subst (λ past. Keeps true (seen_of (past_in old)) (seen_of past)) (sym done)
          (keeps-forced (past_in old)))
          (λ not. subst (λ past. Keeps true (seen_of (past_in old)) (seen_of past))
          (sym (same not)) (keeps-same (past_in old)));
      fault = (
        on_ok c.result Counted (now ≡ before) c.ensures.counted (λ same. ap faults_of same),
        on_err c.result Not ((before.writes < now.writes)
            × (now.reads ≡ before.reads)) c.ensures.err
            (⊎_elim
            (λ failing. (
              omega (arith, ap (λ calls. (faults_of calls).writes) failing.calls),
              ap (λ calls. (faults_of calls).reads) failing.calls,
            ))
            (λ refused. (
              omega (arith, ap (λ calls. (faults_of calls).writes) refused.calls),
              ap (λ calls. (faults_of calls).reads) refused.calls,
            ))),
      );
    }
