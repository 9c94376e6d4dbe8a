use Rattle.std.proofs.Common.{◌≡◌, ℕ, List, Option, None, Some, IfSome, arith, length, sym}
use Rattle.std.proofs.Common.{refl, rules, subst, ◌∙◌}
use Rattle.std.specs.Option.{is_none, option_map}
use Rattle.std.specs.Prelude.{◌<◌, Contains}
use Rattle.std.proofs.lemmas.List.Quantifiers.{position-Some}
use Rattle.std.proofs.lemmas.Option.{IfSome_then}
use Rattle.vr_types.specs.Geometry.{area_count}
use Rattle.vr_types.specs.Seen.{Seen}
use Rattle.vr_types.specs.Space.{least_free}
use Rattle.vr_types.specs.declared.unit.PartNo.{PartNo}
use Rattle.vr_types.specs.declared.unit.StageKind.{StageKind}
use Rattle.vr_types.specs.declared.unit.StageKind.TheVariants.{CaClaim, CaSwitch}
use Rattle.vr_types.proofs.CallerLemmas.{keeps-none}
use Rattle.vr_space.specs.Areas.{KeyedChain, areas_in}
use Rattle.vr_space.specs.Owners.{Owners}
use Rattle.vr_space.specs.Room.{Lengths}
use Rattle.vr_space.specs.Split.{MoveNow}
use Rattle.vr_space.specs.Moves.{IsMoving, IsReadyTo}
use Rattle.vr_casplit.specs.Splits.{HasClaimed, IsAtWork, after_by, after_move, left_at, left_by}
use Rattle.vr_casplit.proofs.Moves.{claim-way}
use Rattle.vr_casplit.proofs.Works.{read-work}
use Rattle.vr_casplit.proofs.split.CaSplit.step.Goals as goal

-- ---- a claim

-- once it is made, the split is ready for the first copy
claimed-way : (part : KeyedChain) (move : Option MoveNow) (after : Option MoveNow)
    (old new : List (Option PartNo)) (now : Seen)
    → option_map (λ (one : MoveNow). one.stage) move ≡ Some CaClaim
    → IfSome move (λ one. (area : ℕ) → one.stage ≡ CaClaim → least_free old ≡ Some area
    → area < area_count part.geometry)
    → IfSome move (λ one. HasClaimed part one after old new)
    → IfSome move (λ one. IsMoving part one now)
    → IfSome move (λ one. (area : ℕ) → one.stage ≡ CaClaim → least_free old ≡ Some area
    → Contains (areas_in part now.cur) area → ⊥)
    → IfSome move (λ one. (owners : Owners) (kept : Lengths) → IsAtWork part one owners kept now
    → IfSome after (λ next. IsMoving part next now))
claimed-way part None after old new now stage there claimed way aside = tt
claimed-way part (Some move) after old new now stage there claimed way aside =
    let first : move.stage ≡ CaClaim = cc in
    λ owners kept work. subst
    (λ (next : Option MoveNow). IfSome next (λ one. IsMoving part one now)) (sym claimed.after_is)
    (claim-way part move now claimed.claimed way
    (subst (λ (kind : StageKind). IsReadyTo kind part move now) first way.ready)
    (there claimed.claimed first claimed.owners.0)
    (aside claimed.claimed first claimed.owners.0))

pub returns-then-eq-clause-leaves : goal.returns-then-eq-clause-leaves
returns-then-eq-clause-leaves g c told =
    IfSome_then c.args.self.now.move c.claim.ensures.claimed
    (λ move claimed. (read-work g.B.Blocks.tells told c.args.self.now.part move
    (g.B.Blocks.seen c.args.blocks.now) (g.B.Blocks.seen c.args.blocks.now)
    (keeps-none g.B.Blocks.tells (g.B.Blocks.seen c.args.blocks.now)
    (λ is image left. g.met.B.Blocks.images_may c.args.blocks.now image is left))).records)

pub returns-then-eq-clause-way : goal.returns-then-eq-clause-way
returns-then-eq-clause-way g c told =
    IfSome_then c.args.self.now.move
    (claimed-way c.args.self.now.part c.args.self.now.move c.claim.new.self.move c.args.space.now
    c.claim.new.space (g.B.Blocks.seen c.args.blocks.now)
    (search rules) c.requires.there c.claim.ensures.claimed (c.requires.way told)
    (c.requires.aside told))
    (λ move way owners kept work apart. way owners kept work)

-- ---- a stage that puts

-- But the last, it leaves what comes after it.
left-after : (kind : StageKind) (move : MoveNow) → (kind ≡ CaSwitch → ⊥)
    → left_at kind move 0 ≡ after_by kind move 0
left-after CaSwitch move other = absurd (other refl)
left-after kind move other = refl

-- so where it was made ready for what comes after, it is ready for what is next
left-way : (part : KeyedChain) (move after : Option MoveNow) (old new : Seen)
    → IfSome move (λ one. after ≡ left_by one 0)
    → IfSome move (λ one. (owners : Owners) (kept : Lengths) → IsAtWork part one owners kept old
    → IfSome (after_move one 0) (λ next. IsMoving part next new))
    → IfSome move (λ one. (owners : Owners) (kept : Lengths) → IsAtWork part one owners kept old
    → (one.stage ≡ CaSwitch → ⊥) → IfSome after (λ next. IsMoving part next new))
left-way part None after old new left way = tt
left-way part (Some move) after old new left way = λ owners kept work other.
    subst (λ (next : Option MoveNow). IfSome next (λ one. IsMoving part one new))
    (sym (left ∙ left-after move.stage move other)) (way owners kept work)

pub returns-clause-rests : goal.returns-clause-rests
returns-clause-rests g c told =
    IfSome_then c.args.self.now.move (c.in_ok-run.ensures.done told) (λ move done. done.rests)

pub returns-clause-way : goal.returns-clause-way
returns-clause-way g c told =
    left-way c.args.self.now.part c.args.self.now.move c.run.new.self.move
    (g.B.Blocks.seen c.args.blocks.now) (g.B.Blocks.seen c.run.new.blocks) c.in_ok-run.ensures.next
    (IfSome_then c.args.self.now.move (c.in_ok-run.ensures.done told) (λ move done. done.way))

pub returns-clause-knows : goal.returns-clause-knows
returns-clause-knows g c told =
    IfSome_then c.args.self.now.move (c.in_ok-run.ensures.done told) (λ move done. done.knows)

pub returns-clause-counts : goal.returns-clause-counts
returns-clause-counts g c told =
    IfSome_then c.args.self.now.move (c.in_ok-run.ensures.done told) (λ move done. done.counts)
