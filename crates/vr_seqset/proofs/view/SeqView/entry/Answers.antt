use Rattle.std.proofs.Common.{◌-◌, ◌+◌, ◌<◌, take, drop, length, sym, ap, subst, ◌∙◌}
use Rattle.std.proofs.lemmas.List.{take_rest}
use Rattle.vr_seqset.specs.SequenceSet.{SequenceSet}
use Rattle.vr_seqset.specs.Reading.{entry_of}
use Rattle.vr_seqset.proofs.RecordLemmas.{whole_up_to, entry_found}
use Rattle.vr_seqset.proofs.view.SeqView.entry.Goals as goal

pub entry_at-requires-clause-whole : goal.entry_at-requires-clause-whole
entry_at-requires-clause-whole c =
    whole_up_to c.self.inside.block.now (take
    (length c.self.inside.block.now - (32 + c.two_at-place.result))
    (drop (32 + c.two_at-place.result) c.self.inside.block.now)) c.two_at-place.result c.args.i
    c.self.invariant c.two_at-place.ensures
    (take_rest c.self.inside.block.now (32 + c.two_at-place.result))
    (subst (λ (s : SequenceSet). c.args.i < length s.entries) (sym c.self.view_is) c.requires)

pub returns : goal.returns
returns c =
    entry_found c.self.inside.block.now (take
    (length c.self.inside.block.now - (32 + c.two_at-place.result))
    (drop (32 + c.two_at-place.result) c.self.inside.block.now)) c.two_at-place.result c.args.i
    c.self.invariant c.two_at-place.ensures
    (take_rest c.self.inside.block.now (32 + c.two_at-place.result))
    (subst (λ (s : SequenceSet). c.args.i < length s.entries) (sym c.self.view_is) c.requires)
    c.entry_at.result c.entry_at.ensures
    ∙ ap (λ (s : SequenceSet). entry_of s c.args.i) c.self.view_is
