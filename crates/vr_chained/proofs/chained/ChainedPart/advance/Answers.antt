use Rattle.std.proofs.Common.{◌≡◌, ◌+◌, ◌∙◌, All, IsTrue, ap, refl, sym, subst}
use Rattle.std.specs.Option.{option_map}
use Rattle.std.proofs.lemmas.List.Elements.{All-nil}
use Rattle.vr_types.specs.Seen.{Seen}
use Rattle.vr_types.specs.Space.{free_count}
use Rattle.vr_space.specs.Part.{HasKeptRoom, IsQuiet, KeepsChain, NumberedShape, part_no}
use Rattle.vr_space.specs.Room.{Lengths}
use Rattle.vr_space.specs.Rosters.{Numbered, chain_of, used_of}
use Rattle.vr_space.specs.Numbered.{IsIntervalMet, KnowsTail}
use Rattle.vr_chained.specs.Chain.{ChainNow, IsChainOf}
use Rattle.vr_chained.specs.Extended.{IsExtended, IsMoreDue, MayExtend}
use Rattle.vr_chained.specs.Met.{AreMetsOf, IsMetOf}
use Rattle.vr_chained.specs.Owned.{OwnedChain, known_of}
use Rattle.vr_chained.specs.Tail.{tail_of}
use Rattle.vr_chained.proofs.Ending.{tail-further}
use Rattle.vr_chained.proofs.Fewer.{due-fewer}
use Rattle.vr_chained.proofs.Staging.{stage-first, stage-more}
use Rattle.vr_chained.proofs.chained.ChainedPart.advance.Given as over
use Rattle.vr_chained.proofs.chained.ChainedPart.advance.Goals as goal
use Rattle.vr_chained.proofs.chained.ChainedPart.advance.Goals.{After-forget}
use Rattle.vr_chained.proofs.chained.ChainedPart.advance.Goals.{After-from_residual}

-- ---- where it failed

failed : (g : over.Over) (c : After-from_residual g) → IsTrue g.B.Blocks.tells
    → MayExtend c.args.self.now.chain.part c.args.space.now
    (g.K.Kept.kept c.args._kept.now (part_no (NumberedShape c.args.self.now.chain.part)))
    (g.B.Blocks.seen c.args.blocks.now) (g.B.Blocks.seen c.extend.new.blocks)
failed g c told =
    let now : OwnedChain = c.args.self.now in
    let kept : Lengths =
    g.K.Kept.kept c.args._kept.now (part_no (NumberedShape now.chain.part)) in
    let old : Seen = g.B.Blocks.seen c.args.blocks.now in
    subst (λ (part : Numbered). HasKeptRoom (NumberedShape part) kept old
    → IsQuiet (NumberedShape part) old
    → MayExtend part c.args.space.now kept old (g.B.Blocks.seen c.extend.new.blocks))
    (ap (λ (o : OwnedChain). o.chain.part) c.self.view_is) (c.extend.ensures.may told kept)
    (c.requires.room told) (c.requires.rests told)

pub returns-in_err-extend-clause-adds : goal.returns-in_err-extend-clause-adds
returns-in_err-extend-clause-adds g c told owners grown grows rests claimed =
    (failed g c told).adds owners grown grows rests

pub returns-in_err-extend-clause-same : goal.returns-in_err-extend-clause-same
returns-in_err-extend-clause-same g c told = (failed g c told).same

pub returns-in_err-extend-clause-room : goal.returns-in_err-extend-clause-room
returns-in_err-extend-clause-room g c told = (failed g c told).room

pub returns-in_err-extend-clause-rooms : goal.returns-in_err-extend-clause-rooms
returns-in_err-extend-clause-rooms g c told owners grown grows rests claimed =
    (failed g c told).rooms owners grown grows rests

-- ---- where it is done

module _ (g : over.Over) (c : After-forget g) where
  abbrev now : OwnedChain
  now = c.args.self.now

  abbrev kept : Lengths
  kept = g.K.Kept.kept c.args._kept.now (part_no (NumberedShape now.chain.part))

  abbrev old : Seen
  old = g.B.Blocks.seen c.args.blocks.now

  abbrev new : Seen
  new = g.B.Blocks.seen c.extend.new.blocks

  same : c.self.inside.chain.part ≡ now.chain.part
  same = ap (λ (o : OwnedChain). o.chain.part) c.self.view_is

  may : IsTrue g.B.Blocks.tells → MayExtend now.chain.part c.args.space.now kept old new
  may told =
      subst (λ (part : Numbered). HasKeptRoom (NumberedShape part) kept old
      → IsQuiet (NumberedShape part) old → MayExtend part c.args.space.now kept old new) same
      (c.extend.ensures.may told kept) (c.requires.room told) (c.requires.rests told)

  done : IsTrue g.B.Blocks.tells
      → IsExtended now.chain.part c.args.space.now c.extend.new.space old new
      × IsChainOf c.extend.new.chain new.cur
  done told =
      subst (λ (part : Numbered). IsQuiet (NumberedShape part) old
      → IsExtended part c.args.space.now c.extend.new.space old new
      × IsChainOf c.extend.new.chain new.cur) same
      (c.in_ok-extend.ensures.done told) (c.requires.rests told)

pub returns-clause-adds : goal.returns-clause-adds
returns-clause-adds g c told owners grown grows rests claimed =
    (may g c told).adds owners grown grows rests

pub returns-clause-same : goal.returns-clause-same
returns-clause-same g c told = (may g c told).same

pub returns-clause-due : goal.returns-clause-due
returns-clause-due g c told = (done g c told).0.due

pub returns-clause-room : goal.returns-clause-room
returns-clause-room g c told = (may g c told).room

pub returns-clause-rooms : goal.returns-clause-rooms
returns-clause-rooms g c told owners grown grows rests claimed =
    (may g c told).rooms owners grown grows rests

pub returns-clause-knows : goal.returns-clause-knows
returns-clause-knows g c told =
    let chain : ChainNow = c.extend.new.chain in
    let part : chain.part ≡ c.args.self.now.chain.part = c.extend.ensures.part ∙ same g c in
    let of : IsChainOf chain (new g c).cur = (done g c told).1 in
    record {
      way = tt;
      blocks = record {
        chain = record {
          areas = of.areas ∙ ap (λ (p : Numbered). chain_of p (new g c).cur) part;
          used = of.used ∙ ap (λ (p : Numbered). used_of p (new g c).cur) part;
        };
        tail = subst (KnowsTail (now g c).chain.part.relative (now g c).chain.part (new g c).cur)
            (sym (ap (λ (o : OwnedChain). o.tail) c.self.view_is))
            ((done g c told).0.tail (known_of (now g c)).tail (c.requires.knows told).blocks.tail);
        met = subst (All (IsIntervalMet c.args.self.now.chain.part (new g c).cur))
            (sym c.forget.ensures.none)
            (All-nil (IsIntervalMet c.args.self.now.chain.part (new g c).cur));
      };
    }

pub invariant_of-self-2 : goal.invariant_of-self-2
invariant_of-self-2 g c = (
  subst (λ (p : Numbered). AreMetsOf p c.forget.new.mets) (sym c.extend.ensures.part)
      (subst (All (IsMetOf c.self.inside.chain.part.geometry.size))
      (sym (ap (λ slots. slots.items) c.forget.ensures.slots)) c.self.invariant.0),
  tail-further (option_map tail_of c.self.inside.tail) c.self.inside.chain c.extend.new.chain
      c.extend.ensures.part c.extend.ensures.used c.self.invariant.1,
  c.self.invariant.2 ∙ sym (ap (λ (p : Numbered). p.geometry.size) c.extend.ensures.part),
  c.self.invariant.3,
)

pub returns-clause-stage : goal.returns-clause-stage
returns-clause-stage g c told =
    stage-first (now g c) (old g c).cur (free_count c.args.space.now) (kept g c) c.args._place.now
    c.args._length (c.requires.due told)

pub returns-clause-more : goal.returns-clause-more
returns-clause-more g c told volume owners grown grows rests claimed =
    let due = stage-more (now g c) (old g c).cur (free_count c.args.space.now) (kept g c)
    c.args._place.now c.args._length (c.requires.due told) (c.requires.knows told).blocks.chain
    c.args.space.now refl volume (old g c) owners grown grows rests in
    due-fewer (now g c).chain (known_of (now g c)) _ c.args.space.now
    c.extend.new.space (old g c) due refl refl
    (c.in_ok-extend.ensures.more told
    (subst (λ (chain : ChainNow). IsMoreDue chain c.args.space.now (old g c))
    (sym (ap (λ (o : OwnedChain). o.chain) c.self.view_is)) due)
    ∙ ap (λ (o : OwnedChain). o.chain.used + 1) c.self.view_is)
    (subst (λ (o : OwnedChain). KeepsChain (NumberedShape o.chain.part) o.chain.areas
    c.extend.new.chain.areas c.args.space.now c.extend.new.space) c.self.view_is
    c.in_ok-extend.ensures.chain)
