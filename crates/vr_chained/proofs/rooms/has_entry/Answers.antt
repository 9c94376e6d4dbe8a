use Rattle.std.proofs.Common.{◌≡◌, ◌↔◌, ◌<◌, ◌≤◌, ℕ, IsTrue, IfSome, List, Option, Some, false}
use Rattle.std.proofs.Common.{subst, sym, refl}
use Rattle.vr_types.proofs.CallerLemmas.{keeps-none}
use Rattle.vr_types.specs.declared.unit.PartNo.{PartNo}
use Rattle.vr_space.specs.Numbered.{HasKeptPlace, IsNumberPlace, at_in, chain_block}
use Rattle.vr_space.specs.Numbered.{interval_of}
use Rattle.vr_space.specs.Part.{NumberedShape, part_no}
use Rattle.vr_space.specs.Room.{length_at}
use Rattle.vr_space.specs.Rosters.{IsOf}
use Rattle.vr_chained.proofs.KeptEntries.{if-some-all, kept-past, kept-taken}
use Rattle.vr_chained.proofs.Looking.{cause-answered}
use Rattle.vr_chained.proofs.rooms.has_entry.Goals as goal

pub returns-in_default-clause-has : goal.returns-in_default-clause-has
returns-in_default-clause-has g c told =
    let chain = c.args.chain.now in
    let image = (g.B.Blocks.seen c.args.blocks.now).cur in
    let place = c.args.place.now in
    if-some-all (λ (n : ℕ). IsTrue false ↔ HasKeptPlace chain.part (IsOf image) (place, n))
    (length_at (g.K.Kept.kept c.args.kept.now (part_no (NumberedShape chain.part))) place)
    (λ n. kept-past chain image (c.requires.stands told) (c.requires.chain told) place n
    (subst (λ (p : List ℕ). chain.used ≤ interval_of chain.part p) c.as_slice-bytes.ensures
    (c.in_default.ensures.none refl
    (subst (IsNumberPlace chain.part) (sym c.as_slice-bytes.ensures) c.requires.place))))

pub returns-in_default-clause-keeps : goal.returns-in_default-clause-keeps
returns-in_default-clause-keeps g c =
    keeps-none g.B.Blocks.tells (g.B.Blocks.seen c.args.blocks.now)
    (λ told image left. g.met.B.Blocks.images_may c.args.blocks.now image told left)

pub returns-in_default-longest-clause-keeps : goal.returns-in_default-longest-clause-keeps
returns-in_default-longest-clause-keeps g c =
    keeps-none g.B.Blocks.tells (g.B.Blocks.seen c.args.blocks.now)
    (λ told image left. g.met.B.Blocks.images_may c.args.blocks.now image told left)

pub returns-clause-has : goal.returns-clause-has
returns-clause-has g c told =
    let chain = c.args.chain.now in
    let image = (g.B.Blocks.seen c.args.blocks.now).cur in
    let place = c.args.place.now in
    let kept = g.K.Kept.kept c.args.kept.now in
    let number = part_no (NumberedShape chain.part) in
    let here : Some c.in-Some-longest.length ≡ length_at (kept number) place =
    subst (λ (length : Option ℕ). length ≡ length_at (kept number) place) c.in-Some-longest.is
    (subst (λ (part : PartNo). c.longest.result ≡ length_at (kept part) place) c.part.ensures
    c.longest.ensures) in
    subst (λ (length : Option ℕ). IfSome length (λ (n : ℕ).
    IsTrue c.takes_record.result ↔ HasKeptPlace chain.part (IsOf image) (place, n))) here
    (kept-taken chain image (c.requires.stands told) (c.requires.chain told) place
    c.in-Some-longest.length c.in-Some.number c.requires.place
    (subst (λ (p : List ℕ). interval_of chain.part p < chain.used) c.as_slice-bytes.ensures
    c.in-Some.ensures.used.1)
    (subst (λ (p : List ℕ). c.in-Some.number
    ≡ chain_block chain.part chain.areas (interval_of chain.part p)) c.as_slice-bytes.ensures
    c.in-Some.ensures.block)
    c.layout.result.now c.in_ok-block.block.now c.at_of-at.result
    c.takes_record.result c.requires.entries c.layout.ensures (c.in_ok-block.ensures.content told)
    (subst (λ (p : List ℕ). c.at_of-at.result ≡ at_in chain.part p) c.as_slice-bytes.ensures
    c.at_of-at.ensures.place) c.takes_record.ensures)

pub returns-clause-cause : goal.returns-clause-cause
returns-clause-cause g c =
    cause-answered (g.B.Blocks.faults c.args.blocks.now)
    (g.B.Blocks.faults c.get.follows.lender-at-none) c.get.result c.in_ok-block.block
    c.takes_record.result c.in_ok-block.was c.get.follows.holds-at-none.1
