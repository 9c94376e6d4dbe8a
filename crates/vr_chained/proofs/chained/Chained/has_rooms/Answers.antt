use Rattle.std.proofs.Common.{◌↔◌, ℕ, List, All, IsTrue, ap, subst}
use Rattle.std.specs.Prelude.{IfOk}
use Rattle.vr_types.proofs.CallerLemmas.{keeps-none}
use Rattle.vr_space.specs.Numbered.{IsNumberPlace}
use Rattle.vr_space.specs.Part.{HasRoom, NumberedShape, Stands, part_no}
use Rattle.vr_chained.specs.Chain.{ChainNow, IsChainOf}
use Rattle.vr_chained.specs.Owned.{OwnedChain}
use Rattle.vr_chained.proofs.chained.Chained.has_rooms.Goals as goal

pub returns-then-self-clause-rooms : goal.returns-then-self-clause-rooms
returns-then-self-clause-rooms g c told =
    let image = (g.B.Blocks.seen c.args.blocks.now).cur in
    let kept = λ (chain : ChainNow).
    g.K.Kept.kept c.args.kept.now (part_no (NumberedShape chain.part)) in
    subst (λ (chain : ChainNow). Stands (NumberedShape chain.part) image → IsChainOf chain image
    → All (λ (entry : List ℕ × ℕ). IsNumberPlace chain.part entry.0) (kept chain)
    → IsTrue c.have_slots.result ↔ HasRoom (NumberedShape chain.part) (kept chain) image)
    (ap (λ (part : OwnedChain). part.chain) c.self.view_is) (c.have_slots.ensures image)
    (c.requires.stands told) (c.requires.chain told) c.requires.places

pub returns-then-self-clause-keeps : goal.returns-then-self-clause-keeps
returns-then-self-clause-keeps g c =
    keeps-none g.B.Blocks.tells (g.B.Blocks.seen c.args.blocks.now)
    (λ told image left. g.met.B.Blocks.images_may c.args.blocks.now image told left)

pub returns-else-self-clause-rooms : goal.returns-else-self-clause-rooms
returns-else-self-clause-rooms g c told =
    let image = (g.B.Blocks.seen c.args.blocks.now).cur in
    subst (λ (chain : ChainNow). IfOk c.have_entries.result
    (λ is. IsTrue is ↔ HasRoom (NumberedShape chain.part)
    (g.K.Kept.kept c.args.kept.now (part_no (NumberedShape chain.part))) image))
    (ap (λ (part : OwnedChain). part.chain) c.self.view_is) (c.have_entries.ensures.rooms told)
