use Rattle.std.proofs.Common.{◌≡◌, ℕ, ◌+◌, List, length, sym, ap, ◌∙◌}
use Rattle.vr_types.specs.declared.unit.Unit.{Unit as UnitOfRecovery}
use Rattle.vr_log.specs.Kept.{records_in}
use Rattle.vr_log.specs.Live.{live_in, is_in}
use Rattle.vr_log.specs.LogNow.{LogNow}
use Rattle.vr_log.specs.Memory.{behind_in}
use Rattle.vr_log.specs.Records.{record_bytes}
use Rattle.vr_log.proofs.Growing.{need_before, need_end}
use Rattle.vr_log.proofs.log.UndoLog.need.Goals as goal

pub returns-in-Before-clause-value : goal.returns-in-Before-clause-value
returns-in-Before-clause-value c =
    let i = c.self.inside in
    let b = c.in-Before in
    let log : LogNow =
    record {
      geometry = i.geometry;
      generation = i.tail.generation;
      records =
          records_in i.records;
      forced = length (records_in i.forced_records.value);
      behind =
          behind_in i.tail.begun i.older;
      broken = i.broken;
    } in
    let is : log ≡ c.args.self.now = c.self.view_is in
    let kept = c.self.invariant.2 (ap (λ (v : LogNow). v.broken) is ∙ c.requires.sound) in
    let units : i.live.units ≡ live_in c.args.self.now.records = kept.units
    ∙ ap (λ (v : LogNow). live_in v.records) is in
    ap (λ (n : ℕ). n + c.end_room.result) c.record_length.ensures.value
    ∙ ap (λ (n : ℕ). length (record_bytes c.args.rec.now) + n) c.end_room.ensures.value
    ∙ need_before (live_in c.args.self.now.records) c.args.rec.now b.unit b.part b.place b.old
    c.has-there.result b.is (c.has-there.ensures
    ∙ ap (λ (us : List UnitOfRecovery). is_in b.unit us) units)

pub returns-in-End-clause-value : goal.returns-in-End-clause-value
returns-in-End-clause-value c =
    sym (need_end (live_in c.args.self.now.records) c.args.rec.now c.in-End.unit c.in-End.kind
    c.in-End.is)
