use Rattle.std.proofs.Common.{◌<◌, ◌+◌, ◌-◌, ℕ, length, map, take, arith, rules}
use Rattle.std.proofs.lemmas.List.{length-take}
use Rattle.vr_ci.specs.Interval.{room}
use Rattle.vr_ci.specs.Writer.{size_of}
use Rattle.vr_catalog.proofs.RecordLemmas.{length-spelling}
use Rattle.vr_format.specs.Planned.{item_of}
use Rattle.vr_format.proofs.Records.{room-of-items}
use Rattle.vr_format.proofs.interval.write_interval.Goals as goal

pub returns-then-is_err : goal.returns-then-is_err
returns-then-is_err c =
    let entries = c.args.entries.now in
    let i : ℕ = c.loop-entry.entry-index in
    let full : size_of c.loop-entry.writer - 4
    < room (map item_of (take i entries)) + (length c.write_entry.new.out + 3) =
    (c.add.ensures.full (map item_of (take i entries)) c.loop-entry.invariant.holds).0
    (search rules) in
    absurd (omega (
      arith,
      full,
      room-of-items (take i entries) length-spelling,
      length-take i entries,
      c.loop-entry.invariant.same_size,
      c.write_entry.ensures.length,
      c.loop-entry-test.true,
      c.requires.room,
    ))
