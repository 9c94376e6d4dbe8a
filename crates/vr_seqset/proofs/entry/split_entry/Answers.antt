use Rattle.std.proofs.Common.{◌-◌, take, drop, length, ◌∙◌, ap}
use Rattle.std.proofs.lemmas.List.{take_rest}
use Rattle.vr_seqset.proofs.EntryLemmas.{entry_of_parts}
use Rattle.vr_seqset.proofs.entry.split_entry.Goals as goal

pub returns-clause-entry : goal.returns-clause-entry
returns-clause-entry c =
    entry_of_parts c.args.place c.two_at-count.result c.args.bytes.now
    (take (length c.args.bytes.now - 2) (drop 2 c.args.bytes.now)) c.split_at.result.0.now
    c.split_at-2.result.0.now
    c.two_at-count.ensures (take_rest c.args.bytes.now 2) c.split_at.ensures.front
    c.split_at.ensures.front_len (c.split_at-2.ensures.front
    ∙ ap (take c.args.place) c.split_at.ensures.back)
