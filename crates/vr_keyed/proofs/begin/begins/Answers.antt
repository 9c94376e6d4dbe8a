use Rattle.std.proofs.Common.{◌≡◌, ◌≤◌, ◌<◌, ◌⊎◌, length, ap, ◌∙◌, arith, rules, subst, sym}
use Rattle.vr_seqset.specs.Reading.{record_in}
use Rattle.vr_seqset.specs.SequenceSet.{IsSequenceSet, SequenceSet}
use Rattle.vr_space.specs.Keyed.{Keyed, entries_of}
use Rattle.vr_space.proofs.CallerLemmas.{head-entries}
use Rattle.vr_keyed.proofs.NoGrowth.{stays}
use Rattle.vr_keyed.proofs.begin.begins.Goals as goal

pub returns-then-free-eq0-clause-begins : goal.returns-then-free-eq0-clause-begins
returns-then-free-eq0-clause-begins c head =
    let part = c.args.layout.now in
    let top = c.args.top.now in
    let spelled = subst (λ (k : Keyed). IsSequenceSet k.area top (record_in top))
    (sym c.layout.view_is) head.spelled in
    let read : c.in-Ok.view ≡ record_in top = c.in-Ok.ensures.only (record_in top) spelled in
    let count : c.count-entries.result ≡ length (entries_of top) =
    c.count-entries.ensures ∙ ap (λ (s : SequenceSet). length s.entries) read in
    let most : length (entries_of top) ≤ c.layout.inside.area =
    subst (λ (k : Keyed). length (entries_of top) ≤ k.area) (sym c.layout.view_is)
    (head-entries part top head) in
    let why : (c.args.free ≡ 0) ⊎ (length (entries_of top) < 2) = grind (arith, count, most) in
    record { none = search rules; stays = stays c.args.free top why }
