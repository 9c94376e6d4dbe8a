use Rattle.std.proofs.Common.{◌≡◌, ap, subst, sym, length, ◌<◌, ◌∙◌}
use Rattle.vr_seqset.specs.Reading.{record_in}
use Rattle.vr_seqset.specs.SequenceSet.{SequenceSet}
use Rattle.vr_seqset.proofs.CallerLemmas.{record_is}
use Rattle.vr_types.specs.PlaceBuffer.{PlaceRoom}
use Rattle.vr_space.specs.Moves.{cut_of}
use Rattle.vr_casplit.proofs.WrittenHeads.{cut-last}
use Rattle.vr_casplit.proofs.head.read_cut.Goals as goal

pub returns-in-Ok-clause-cut : goal.returns-in-Ok-clause-cut
returns-in-Ok-clause-cut c =
    let view : SequenceSet = c.in-Ok.view in
    let same : record_in c.args.top.now ≡ view =
    record_is c.layout.inside.area c.args.top.now view c.in-Ok.ensures.found in
    ap (λ (room : PlaceRoom). room.place) c.set.ensures ∙ c.high.ensures
    ∙ cut-last c.args.stay view c.requires.some
    (subst (λ (s : SequenceSet). c.args.stay < length s.entries) same c.requires.fewer)
    ∙ ap (cut_of c.args.stay) (sym same)
