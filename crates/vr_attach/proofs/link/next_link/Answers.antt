use Rattle.std.proofs.Common.{◌≡◌, ℕ, length, sym, ap, subst, ◌∙◌}
use Rattle.vr_types.specs.Image.{Block}
use Rattle.vr_seqset.specs.SequenceSet.{SequenceSet, IsSequenceSet}
use Rattle.vr_seqset.specs.Reading.{record_in}
use Rattle.vr_seqset.proofs.CallerLemmas.{record_is}
use Rattle.vr_space.specs.Keyed.{Keyed}
use Rattle.vr_attach.specs.Damage.{SpellsRecord}
use Rattle.vr_attach.proofs.link.next_link.Goals as goal

-- the record that was read is the one that the block spells
spells : (part : Keyed) (area : ℕ) (top : Block) (view : SequenceSet) → area ≡ part.area
    → length top ≡ part.size → IsSequenceSet area top view
    → SpellsRecord part top × (record_in top ≡ view)
spells part area top view same size found =
    let here : IsSequenceSet part.area top view =
    subst (λ (n : ℕ). IsSequenceSet n top view) same found in
    let is : record_in top ≡ view = record_is part.area top view here in
    (record { spelled = subst (IsSequenceSet part.area top) (sym is) here; size = size }, is)

pub returns-in-Some-clause-broken : goal.returns-in-Some-clause-broken
returns-in-Some-clause-broken c =
    let read = spells c.args.layout.now c.layout.inside.area c.args.top.now c.in-Ok.view
    (ap (λ (l : Keyed). l.area) c.layout.view_is) c.requires c.in-Ok.ensures.found in
    c.in-Some.ensures c.args.top.now read.0 read.1

pub returns-in-None-clause-good : goal.returns-in-None-clause-good
returns-in-None-clause-good c =
    let read = spells c.args.layout.now c.layout.inside.area c.args.top.now c.in-Ok.view
    (ap (λ (l : Keyed). l.area) c.layout.view_is) c.requires c.in-Ok.ensures.found in
    c.in-None.ensures c.args.top.now read.0 read.1

pub returns-in-None-clause-next : goal.returns-in-None-clause-next
returns-in-None-clause-next c =
    let read = spells c.args.layout.now c.layout.inside.area c.args.top.now c.in-Ok.view
    (ap (λ (l : Keyed). l.area) c.layout.view_is) c.requires c.in-Ok.ensures.found in
    c.next.ensures ∙ ap (λ (s : SequenceSet). s.next) (sym read.1)
