use Rattle.std.proofs.Common.{◌≡◌, ℕ, ◌+◌, ◌-◌, ◌*◌, length, ap, subst, ◌∙◌, arith}
use Rattle.vr_types.proofs.CallerLemmas.{block_size_least}
use Rattle.vr_log.specs.LogBlock.{room_of}
use Rattle.vr_log.specs.LogNow.{LogNow, last_index}
use Rattle.vr_log.specs.Memory.{behind_in}
use Rattle.vr_log.specs.Kept.{records_in}
use Rattle.vr_log.specs.Records.{bytes_of}
use Rattle.vr_log.proofs.Entering.{last-is}
use Rattle.vr_log.proofs.log.UndoLog.place.Goals as goal

pub returns : goal.returns
returns c =
    let i = c.self.inside in
    let log : LogNow =
    record {
      geometry = i.geometry;
      generation = i.tail.generation;
      records =
          records_in i.records;
      forced = length (records_in i.forced_records.value);
      behind =
          behind_in i.tail.begun i.older;
      broken = i.broken;
    } in
    let is : log ≡ c.args.self.now = c.self.view_is in
    let kept = c.self.invariant.2 (ap (λ (v : LogNow). v.broken) is ∙ c.requires) in
    let at = last-is i.geometry (bytes_of log.records) i.tail
    (omega (arith, block_size_least i.geometry.size c.self.invariant.0.size)) kept.last
    kept.turned in
    subst (λ (v : LogNow). (1 + i.tail.index ≡ 1 + last_index v.geometry (bytes_of v.records))
    × (16 + i.tail.used ≡ 16 +
    (length (bytes_of v.records) - last_index v.geometry (bytes_of v.records) * room_of
    v.geometry))) is (
      ap (λ (n : ℕ). 1 + n) at,
      omega
          (arith, kept.last.used, ap (λ (n : ℕ). n * room_of i.geometry) at),
    )
