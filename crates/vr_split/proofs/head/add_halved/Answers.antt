use Rattle.std.proofs.Common.{length, sym, ◌∙◌}
use Rattle.vr_seqset.specs.Writer.{block_of, intervals_of, written}
use Rattle.vr_split.proofs.HeadTests.{rules-lower}
use Rattle.vr_split.proofs.head.add_halved.Goals as goal

pub add-requires-2 : goal.add-requires-2
add-requires-2 c =
    let writer = c.args.writer.now in
    rules-lower (intervals_of writer) (length (block_of writer).now) c.args.old c.args.into
    c.args.cut.now (written writer) (written writer).entries c.args.entry.now
    (sym c.interval-number.ensures ∙ c.if-number-old.false) c.requires.rules
