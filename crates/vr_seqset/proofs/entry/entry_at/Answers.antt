use Rattle.std.proofs.Common.{◌-◌, ◌+◌, suc, ap, sym, ◌∙◌, Some, arith, ◌≡◌, ℕ}
use Rattle.std.specs.List.{slice_get}
use Rattle.vr_seqset.specs.Entry.{Entry, entries_in}
use Rattle.vr_seqset.proofs.EntryLemmas.{IsAt-next, IsAt-front, whole_front}
use Rattle.vr_seqset.proofs.entry.entry_at.Goals as goal

pub split_entry-requires-clause-whole : goal.split_entry-requires-clause-whole
split_entry-requires-clause-whole c = whole_front
    (suc (c.args.i - c.loop.counter)) c.args.place c.loop.rest.now
    (omega arith) c.loop.invariant.whole

pub loop-preserved : goal.loop-preserved
loop-preserved c =
    IsAt-next c.args.place c.args.bytes.now c.args.i (c.args.i - c.loop.counter)
    (c.args.i - (c.loop.counter + 1)) c.loop.rest.now c.split_entry.result.1.now
    c.loop.invariant (omega arith) c.split_entry.ensures.rest

pub split_entry-requires-2-clause-whole : goal.split_entry-requires-2-clause-whole
split_entry-requires-2-clause-whole c =
    whole_front (suc (c.args.i - c.loop.counter)) c.args.place c.loop.rest.now
    (omega arith) c.loop.invariant.whole

pub returns : goal.returns
returns c =
    let front = IsAt-front c.args.place c.args.bytes.now c.args.i
    (c.args.i - c.loop.counter) c.loop.rest.now c.loop.invariant (omega arith) in
    let one : c.args.i + 1 ≡ suc c.args.i = omega arith in
    ap (λ (n : ℕ). slice_get (entries_in n c.args.place c.args.bytes.now) c.args.i) one ∙ front
    ∙ ap (λ (e : Entry). Some e) (sym c.split_entry-2.ensures.entry)
