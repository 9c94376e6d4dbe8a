use Rattle.std.proofs.Common.{◌*◌, length, drop, ap, ◌∙◌}
use Rattle.vr_seqset.specs.Entry.{Entry}
use Rattle.vr_seqset.proofs.WritingLemmas.{entry_put, entry_length}
use Rattle.vr_seqset.proofs.spelling.put_bytes.Goals as goal

pub returns-clause-bytes : goal.returns-clause-bytes
returns-clause-bytes c =
    let e : Entry = record { intervals = c.args.intervals.now; high = c.args.high.now } in
    entry_put e c.args.free.now c.copy_from_slice.new.self c.put_numbers.new.out
    c.copy_from_slice-2.new.self c.split_at_mut-place.result.1.now
    (c.copy_from_slice.ensures.after ∙ c.to_be_bytes.ensures) c.put_numbers.ensures
    c.copy_from_slice-2.ensures.after
    (c.split_at_mut-place.ensures.back ∙ ap (drop (length c.args.high.now))
    (c.split_at_mut-numbers.ensures.back ∙ ap
    (drop (2 * length c.args.intervals.now)) c.split_at_mut-count.ensures.back))

pub returns-clause-length : goal.returns-clause-length
returns-clause-length c = entry_length
    (record { intervals = c.args.intervals.now; high = c.args.high.now })
