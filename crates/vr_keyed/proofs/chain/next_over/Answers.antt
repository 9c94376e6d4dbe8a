use Rattle.std.proofs.Common.{◌≡◌, ◌∙◌, Bool, arith, refl, subst}
use Rattle.vr_types.specs.Image.{Image}
use Rattle.vr_types.proofs.CallerLemmas.{keeps-none, keeps-then}
use Rattle.vr_space.specs.AreaCalls.{NextHere}
use Rattle.vr_space.specs.Areas.{area_of}
use Rattle.vr_space.specs.Keyed.{Keyed}
use Rattle.vr_space.proofs.CallerLemmas.{HasNoneHere}
use Rattle.vr_keyed.specs.Slots.{IsSlotOf}
use Rattle.vr_keyed.proofs.Over.{all-more, next-found, next-none, none-before}
use Rattle.vr_keyed.proofs.Places.{nth-stands, slot-any}
use Rattle.vr_keyed.proofs.chain.next_over.Goals as goal

pub loop-i-init : goal.loop-i-init
loop-i-init g c =
    let now = c.args.areas.now in
    let image = (g.B.Blocks.seen c.args.blocks.now).cur in
    record {
      keeps = keeps-none g.B.Blocks.tells (g.B.Blocks.seen c.args.blocks.now)
          (λ told image now. g.met.B.Blocks.images_may c.args.blocks.now image told now);
      faults = refl;
      slot = c.requires.slot;
      room = refl;
      none = λ told. none-before now.part now.areas now.ends image (c.requires.knows told)
          (c.requires.stands told) c.args.from c.first_area-i.result c.first_area-i.ensures;
    }

pub next_in-requires-clause-stands : goal.next_in-requires-clause-stands
next_in-requires-clause-stands g c told =
    let now = c.args.areas.now in
    let same : c.area-layout.result ≡ area_of now.part c.area_at.result = cc in
    nth-stands now.part now.areas now.ends g.B.Blocks.tells (g.B.Blocks.seen c.args.blocks.now)
    (g.B.Blocks.seen c.loop-i.blocks) told c.loop-i.invariant.keeps (c.requires.knows told)
    (c.requires.stands told) c.loop-i.i c.area_at.result c.area_at.ensures.area
    c.area-layout.result same

pub returns-in_err-next_in-clause-keeps : goal.returns-in_err-next_in-clause-keeps
returns-in_err-next_in-clause-keeps g c =
    keeps-then g.B.Blocks.tells (g.B.Blocks.seen c.args.blocks.now)
    (g.B.Blocks.seen c.loop-i.blocks) (g.B.Blocks.seen c.next_in.new.blocks)
    c.loop-i.invariant.keeps c.next_in.ensures.keeps

pub returns-then-branch-clause-next : goal.returns-then-branch-clause-next
returns-then-branch-clause-next g c told =
    let now = c.args.areas.now in
    let image = (g.B.Blocks.seen c.args.blocks.now).cur in
    let at = c.area_at.result in
    let place = c.next_in.new.into.place in
    let same : c.area-layout.result ≡ area_of now.part at = cc in
    next-found now.part now.areas now.ends image (c.requires.knows told) (c.requires.stands told)
    c.args.from c.loop-i.i at c.area_at.ensures.area (c.loop-i.invariant.none told) place
    (subst (λ (found : Bool). NextHere (area_of now.part at) image c.args.from found place)
    c.if-branch.true
    (subst (λ (area : Keyed). NextHere area image c.args.from c.in_ok-next_in.field-0 place) same
    (subst (λ (cur : Image). NextHere c.area-layout.result cur c.args.from c.in_ok-next_in.field-0
    place) (c.loop-i.invariant.keeps.content told) (c.in_ok-next_in.ensures.next told))))

pub returns-then-branch-clause-keeps : goal.returns-then-branch-clause-keeps
returns-then-branch-clause-keeps g c =
    keeps-then g.B.Blocks.tells (g.B.Blocks.seen c.args.blocks.now)
    (g.B.Blocks.seen c.loop-i.blocks) (g.B.Blocks.seen c.next_in.new.blocks)
    c.loop-i.invariant.keeps c.next_in.ensures.keeps

pub loop-i-preserved : goal.loop-i-preserved
loop-i-preserved g c =
    let now = c.args.areas.now in
    let image = (g.B.Blocks.seen c.args.blocks.now).cur in
    let at = c.area_at.result in
    let place = c.next_in.new.into.place in
    let same : c.area-layout.result ≡ area_of now.part at = cc in
    record {
      keeps = keeps-then g.B.Blocks.tells (g.B.Blocks.seen c.args.blocks.now)
          (g.B.Blocks.seen c.loop-i.blocks) (g.B.Blocks.seen c.next_in.new.blocks)
          c.loop-i.invariant.keeps c.next_in.ensures.keeps;
      faults = c.in_ok-next_in.ensures.cause.ok ∙ c.loop-i.invariant.faults;
      slot = slot-any now.part at now.part.first c.next_in.new.slot
          (subst (λ (area : Keyed). IsSlotOf area c.next_in.new.slot) same c.next_in.ensures.slot);
      room = c.next_in.ensures.room ∙ c.loop-i.invariant.room;
      none = λ told. all-more (HasNoneHere now.part image c.args.from) now.areas c.loop-i.i at
          c.area_at.ensures.area (c.loop-i.invariant.none told)
          (subst (λ (found : Bool). NextHere (area_of now.part at) image c.args.from found place)
          c.if-branch.false
          (subst (λ (area : Keyed).
          NextHere area image c.args.from c.in_ok-next_in.field-0 place) same
          (subst (λ (cur : Image).
          NextHere c.area-layout.result cur c.args.from c.in_ok-next_in.field-0 place)
          (c.loop-i.invariant.keeps.content told) (c.in_ok-next_in.ensures.next told))));
    }

pub returns-clause-next : goal.returns-clause-next
returns-clause-next g c told =
    let now = c.args.areas.now in
    let image = (g.B.Blocks.seen c.args.blocks.now).cur in
    next-none now.part now.areas now.ends image (c.requires.knows told) (c.requires.stands told)
    c.args.from c.loop-i.i (omega (arith, c.count-i-end.ensures, c.loop-i-test.false))
    (c.loop-i.invariant.none told)
