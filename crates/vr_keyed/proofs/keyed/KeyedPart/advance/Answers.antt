use Rattle.std.proofs.Common.{◌≡◌, ℕ, List, Option, ap, subst, sym}
use Rattle.std.specs.Prelude.{OnOk}
use Rattle.std.proofs.lemmas.Result.{IfErr-weaker, IfOk-weaker, on_ok_weaker}
use Rattle.vr_types.specs.Seen.{Left}
use Rattle.vr_types.specs.Space.{free_count}
use Rattle.vr_types.specs.declared.unit.PartNo.{PartNo}
use Rattle.vr_space.specs.Areas.{IsChainAtRest, KeyedChain}
use Rattle.vr_space.specs.Known.{Known, areas_held}
use Rattle.vr_space.specs.Moves.{OwnsInto}
use Rattle.vr_space.specs.Part.{HasMore, KeyedShape, Knows, part_no}
use Rattle.vr_space.specs.Room.{Lengths}
use Rattle.vr_space.proofs.CallerLemmas.{AreOwn, held-own, owns-grows, rest-grows, rest-sound}
use Rattle.vr_attach.specs.Areas.{AreasNow}
use Rattle.vr_keyed.specs.Advance.{IsLeastAside}
use Rattle.vr_keyed.specs.Changed.{IsDoneIn, KeepsIn}
use Rattle.vr_keyed.specs.Owned.{Owned, chain_of, known_in, known_of}
use Rattle.vr_keyed.specs.Slots.{mets, most_kept}
use Rattle.vr_keyed.specs.declared.slots.Slots.{Slots}
use Rattle.vr_keyed.proofs.Aside.{least-aside}
use Rattle.vr_keyed.proofs.Most.{known_less, knows-less, knows-most, more-most}
use Rattle.vr_keyed.proofs.keyed.KeyedPart.advance.Goals as goal

pub returns-clause-adds : goal.returns-clause-adds
returns-clause-adds g c told owners grown grows still claimed =
    let now = c.args.self.now in
    let a = g.B.Blocks.seen c.args.blocks.now in
    let b = g.B.Blocks.seen c.advance_over.new.blocks in
    let all : PartNo → Lengths = g.K.Kept.kept c.args.kept.now in
    let kept : Lengths = all (part_no (KeyedShape now.part)) in
    let keeps : KeepsIn now.part now.move kept a b =
    subst (λ (keyed : Owned). KeepsIn keyed.part keyed.move
    (all (part_no (KeyedShape keyed.part))) a b) c.self.view_is
    (c.advance_over.ensures.keeps told) in
    let rests : IsChainAtRest now.part grown a =
    rest-grows owners grown a grows.kept (KeyedShape now.part) still in
    let own : OwnsInto now.part grown now.move =
    owns-grows (KeyedShape now.part) owners grown (known_of now) grows.kept claimed in
    keeps.adds grown rests own

pub returns-clause-same : goal.returns-clause-same
returns-clause-same g c told =
    let now = c.args.self.now in
    let a = g.B.Blocks.seen c.args.blocks.now in
    let b = g.B.Blocks.seen c.advance_over.new.blocks in
    let all : PartNo → Lengths = g.K.Kept.kept c.args.kept.now in
    let kept : Lengths = all (part_no (KeyedShape now.part)) in
    let keeps : KeepsIn now.part now.move kept a b =
    subst (λ (keyed : Owned). KeepsIn keyed.part keyed.move
    (all (part_no (KeyedShape keyed.part))) a b) c.self.view_is
    (c.advance_over.ensures.keeps told) in
    keeps.same

pub returns-clause-due : goal.returns-clause-due
returns-clause-due g c told =
    let now = c.args.self.now in
    let a = g.B.Blocks.seen c.args.blocks.now in
    let b = g.B.Blocks.seen c.advance_over.new.blocks in
    let known : Known = known_in c.advance_over.new.areas c.advance_over.new.splits
    (mets c.advance_over.new.slots) in
    let done : OnOk c.advance_over.result (IsDoneIn now.part now.move known a b) =
    on_ok_weaker c.advance_over.result
    (subst (λ (keyed : Owned). IsDoneIn keyed.part keyed.move known a b) c.self.view_is)
    (c.advance_over.ensures.done told) in
    on_ok_weaker c.advance_over.result (λ is. is.due) done

pub returns-clause-rests : goal.returns-clause-rests
returns-clause-rests g c told owners grown grows still claimed =
    let now = c.args.self.now in
    let a = g.B.Blocks.seen c.args.blocks.now in
    let b = g.B.Blocks.seen c.advance_over.new.blocks in
    let known : Known = known_in c.advance_over.new.areas c.advance_over.new.splits
    (mets c.advance_over.new.slots) in
    let done : OnOk c.advance_over.result (IsDoneIn now.part now.move known a b) =
    on_ok_weaker c.advance_over.result
    (subst (λ (keyed : Owned). IsDoneIn keyed.part keyed.move known a b) c.self.view_is)
    (c.advance_over.ensures.done told) in
    let rests : IsChainAtRest now.part grown a =
    rest-grows owners grown a grows.kept (KeyedShape now.part) still in
    let own : OwnsInto now.part grown now.move =
    owns-grows (KeyedShape now.part) owners grown (known_of now) grows.kept claimed in
    on_ok_weaker c.advance_over.result (λ is. is.rests grown rests own) done

pub returns-clause-stays : goal.returns-clause-stays
returns-clause-stays g c told owners space still claimed =
    let now = c.args.self.now in
    let a = g.B.Blocks.seen c.args.blocks.now in
    let b = g.B.Blocks.seen c.advance_over.new.blocks in
    let known : Known = known_in c.advance_over.new.areas c.advance_over.new.splits
    (mets c.advance_over.new.slots) in
    let done : OnOk c.advance_over.result (IsDoneIn now.part now.move known a b) =
    on_ok_weaker c.advance_over.result
    (subst (λ (keyed : Owned). IsDoneIn keyed.part keyed.move known a b) c.self.view_is)
    (c.advance_over.ensures.done told) in
    on_ok_weaker c.advance_over.result (λ is. is.rests owners still claimed) done

pub returns-clause-room : goal.returns-clause-room
returns-clause-room g c told =
    let now = c.args.self.now in
    let a = g.B.Blocks.seen c.args.blocks.now in
    let b = g.B.Blocks.seen c.advance_over.new.blocks in
    let all : PartNo → Lengths = g.K.Kept.kept c.args.kept.now in
    let kept : Lengths = all (part_no (KeyedShape now.part)) in
    let keeps : KeepsIn now.part now.move kept a b =
    subst (λ (keyed : Owned). KeepsIn keyed.part keyed.move
    (all (part_no (KeyedShape keyed.part))) a b) c.self.view_is
    (c.advance_over.ensures.keeps told) in
    keeps.room

pub returns-clause-rooms : goal.returns-clause-rooms
returns-clause-rooms g c told owners grown grows still claimed =
    let now = c.args.self.now in
    let a = g.B.Blocks.seen c.args.blocks.now in
    let b = g.B.Blocks.seen c.advance_over.new.blocks in
    let all : PartNo → Lengths = g.K.Kept.kept c.args.kept.now in
    let kept : Lengths = all (part_no (KeyedShape now.part)) in
    let keeps : KeepsIn now.part now.move kept a b =
    subst (λ (keyed : Owned). KeepsIn keyed.part keyed.move
    (all (part_no (KeyedShape keyed.part))) a b) c.self.view_is
    (c.advance_over.ensures.keeps told) in
    let rests : IsChainAtRest now.part grown a =
    rest-grows owners grown a grows.kept (KeyedShape now.part) still in
    let own : OwnsInto now.part grown now.move =
    owns-grows (KeyedShape now.part) owners grown (known_of now) grows.kept claimed in
    keeps.rooms grown rests own

pub returns-clause-knows : goal.returns-clause-knows
returns-clause-knows g c told =
    let now = c.args.self.now in
    let a = g.B.Blocks.seen c.args.blocks.now in
    let b = g.B.Blocks.seen c.advance_over.new.blocks in
    let known : Known = known_in c.advance_over.new.areas c.advance_over.new.splits
    (mets c.advance_over.new.slots) in
    let done : OnOk c.advance_over.result (IsDoneIn now.part now.move known a b) =
    on_ok_weaker c.advance_over.result
    (subst (λ (keyed : Owned). IsDoneIn keyed.part keyed.move known a b) c.self.view_is)
    (c.advance_over.ensures.done told) in
    on_ok_weaker c.advance_over.result
    (λ is. knows-most now.part known (most_kept c.advance_over.new.slots) b is.knows) done

pub returns-clause-more : goal.returns-clause-more
returns-clause-more g c told many owners grown grows still claimed =
    let now = c.args.self.now in
    let a = g.B.Blocks.seen c.args.blocks.now in
    let space : List (Option PartNo) = c.args.space.now in
    let chain : AreasNow = chain_of now in
    let left : Left a a.cur = g.met.B.Blocks.cur_may c.args.blocks.now told in
    let own : AreOwn now.part owners (areas_held (known_of now)) =
    held-own now.part owners (known_of now) a (rest-sound (KeyedShape now.part) owners a still) left
    (c.requires.knows told) claimed in
    let aside : IsLeastAside c.self.inside.areas space =
    subst (λ (keyed : Owned). IsLeastAside (chain_of keyed) space) (sym c.self.view_is)
    (least-aside chain space owners grown now.move many grows own) in
    let slots : Slots = c.advance_over.new.slots in
    let known : Known = known_in c.advance_over.new.areas c.advance_over.new.splits (mets slots) in
    let free : ℕ = free_count space in
    let left : ℕ = free_count c.advance_over.new.space in
    IfOk-weaker c.advance_over.result _ _
    (λ kind more. more-most now.part kind (known_less now) known now.most (most_kept slots) free left
    (subst (λ (keyed : Owned). HasMore (KeyedShape keyed.part) kind (known_less keyed) known free
    left) c.self.view_is more))
    (c.advance_over.ensures.more told aside)

pub advance_over-requires-clause-knows : goal.advance_over-requires-clause-knows
advance_over-requires-clause-knows g c told =
    let a = g.B.Blocks.seen c.args.blocks.now in
    subst (λ (keyed : Owned). Knows (KeyedShape keyed.part) (known_less keyed) a)
    (sym c.self.view_is) (knows-less c.args.self.now a (c.requires.knows told))

pub returns-clause-unread : goal.returns-clause-unread
returns-clause-unread g c =
    let now = c.args.self.now in
    let b = g.B.Blocks.seen c.advance_over.new.blocks in
    let slots : Slots = c.advance_over.new.slots in
    let known : Known = known_in c.advance_over.new.areas c.advance_over.new.splits (mets slots) in
    let same : c.self.inside.areas.part ≡ now.part =
    ap (λ (keyed : Owned). keyed.part) c.self.view_is in
    IfErr-weaker c.advance_over.result _ _
    (λ fault still is. (
      (still is).0,
      λ told. knows-most now.part known (most_kept slots) b
          (subst (λ (part : KeyedChain). Knows (KeyedShape part) known b) same
          ((still is).1 told)),
    ))
    c.advance_over.ensures.unread
