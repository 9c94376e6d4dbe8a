use Rattle.std.proofs.Common.{◌≡◌, ℕ, IsTrue, List, ◌<◌, length, sym, ap, subst, ◌∙◌}
use Rattle.std.specs.Prelude.{Contains, OnOk}
use Rattle.std.proofs.lemmas.Result.{on_ok_weaker}
use Rattle.vr_types.specs.Blocks.{Puts}
use Rattle.vr_types.specs.Image.{Block}
use Rattle.vr_types.specs.Seen.{Left, Only, Seen}
use Rattle.vr_seqset.specs.Reading.{record_in}
use Rattle.vr_space.specs.Areas.{KeyedChain, KnowsAreas, area_of, areas_in, head_in, head_of}
use Rattle.vr_space.specs.Areas.{intervals_in}
use Rattle.vr_space.specs.Keyed.{Keyed, entries_of}
use Rattle.vr_space.specs.Owners.{Owners}
use Rattle.vr_space.specs.Room.{Lengths}
use Rattle.vr_space.specs.Moves.{IsLower, IsMoved, cut_of, with_area, with_end}
use Rattle.vr_casplit.specs.Growing.{IsGrowing, LeavesRecords, LeavesRest}
use Rattle.vr_casplit.proofs.Switched.{switch-counts, switch-knows, switch-leaves, switch-rests}
use Rattle.vr_casplit.proofs.Switching.{CanSwitch}
use Rattle.vr_casplit.proofs.switch.switch_head.Given as over
use Rattle.vr_casplit.proofs.switch.switch_head.Goals as goal
use Rattle.vr_casplit.proofs.switch.switch_head.Goals.{After-settle}

-- What is read and written is what may be switched.
record IsReady (part : KeyedChain) (area into stay : ℕ) (here : Keyed) (now : Seen)
    (top lower : Block) : Type 0 where
  area_is : here ≡ area_of part area
  some : 0 < stay
  fewer : stay < length (entries_of top)
  left : Left now now.cur
  is_top : top ≡ head_in part now.cur area
  inside : Contains (areas_in part now.cur) area
  moved : IsMoved part area into stay now
  is_lower : IsLower here stay into top lower

can-switch : (part : KeyedChain) (owners : Owners) (kept : Lengths) (area into stay : ℕ)
    (here : Keyed) (now : Seen) (top lower : Block)
    → IsReady part area into stay here now top lower → IsGrowing part into owners kept now
    → CanSwitch part owners area into stay now lower
can-switch part owners kept area into stay here now top lower ready growing = record {
  rests = growing.rests;
  left = ready.left;
  inside = ready.inside;
  own = growing.own;
  apart = growing.apart;
  some = ready.some;
  fewer = subst (λ (one : Block). stay < length (entries_of one)) ready.is_top ready.fewer;
  moved = ready.moved;
  is_lower =
      subst (λ (one : Block). IsLower (area_of part area) stay into one lower) ready.is_top
      (subst (λ (one : Keyed). IsLower one stay into top lower) ready.area_is ready.is_lower);
}

module _ (g : over.Over) (c : After-settle g) (told : IsTrue g.B.Blocks.tells) where
  abbrev part : KeyedChain
  part = c.args.layout.now

  abbrev lower : Block
  lower = c.write_lower.new.out

  abbrev a : Seen
  a = g.B.Blocks.seen c.args.blocks.now

  abbrev b : Seen
  b = g.B.Blocks.seen c.settle.new.blocks

  -- the head that is put is that of the area
  head-is : c.layout_here.inside.head ≡ head_of part c.args.area
  head-is =
      ap (λ (one : Keyed). one.head) (c.layout_here.view_is ∙ c.area-layout_here.ensures.layout)

  call : Puts g.B.Blocks.tells (head_of part c.args.area) lower a b
  call = subst (λ (n : ℕ). Puts g.B.Blocks.tells n lower a b) head-is c.settle.ensures.after

  only-now : OnOk c.settle.result (Only b (head_of part c.args.area) (λ block. block ≡ lower))
  only-now = subst
      (λ (n : ℕ). OnOk c.settle.result (Only b n (λ block. block ≡ lower))) head-is
      (c.settle.ensures.ok told)

  then-left : Left b b.cur
  then-left = g.met.B.Blocks.cur_may c.settle.new.blocks told

  ready : IsReady part c.args.area c.args.into c.args.stay c.area-layout_here.result a
      c.args.top.now lower
  ready = record {
    area_is = c.area-layout_here.ensures.layout;
    some = c.requires.some;
    fewer = c.requires.fewer;
    left = g.met.B.Blocks.cur_may c.args.blocks.now told;
    is_top = c.requires.top told;
    inside = c.requires.inside told;
    moved = c.requires.moved told;
    is_lower = c.write_lower.ensures;
  }

  cut-is : c.read_cut.new.cut.place
      ≡ cut_of c.args.stay (record_in (head_in part a.cur c.args.area))
  cut-is = c.read_cut.ensures.cut
      ∙ ap (λ (one : Block). cut_of c.args.stay (record_in one)) (c.requires.top told)

  module _ (owners : Owners) (kept : Lengths) (growing : IsGrowing part c.args.into owners kept a)
    where
      can : CanSwitch part owners c.args.area c.args.into c.args.stay a lower
      can = can-switch part owners kept c.args.area c.args.into c.args.stay
          c.area-layout_here.result a c.args.top.now lower ready growing

      leaves : LeavesRecords part owners kept a b
      leaves = switch-leaves g.B.Blocks.tells told part owners c.args.area c.args.into c.args.stay a
          b lower can call kept growing.room

      rests : OnOk c.settle.result (LeavesRest part owners a b)
      rests = on_ok_weaker c.settle.result
          (switch-rests g.B.Blocks.tells told part owners c.args.area c.args.into c.args.stay a b
          lower can call then-left) only-now

      knows-more : (areas : List ℕ) (ends : List (List ℕ)) → KnowsAreas part areas ends a.cur
          → OnOk c.settle.result (KnowsAreas part (with_area c.args.area c.args.into areas)
          (with_end c.args.area c.read_cut.new.cut.place areas ends) b.cur)
      knows-more areas ends knows = on_ok_weaker c.settle.result
          (λ only. subst
          (λ (place : List ℕ). KnowsAreas part (with_area c.args.area c.args.into areas)
          (with_end c.args.area place areas ends) b.cur) (sym cut-is)
          (switch-knows g.B.Blocks.tells told part owners c.args.area c.args.into c.args.stay a b
          lower can call then-left only areas ends knows)) only-now

      counts-same : OnOk c.settle.result (intervals_in part b.cur ≡ intervals_in part a.cur)
      counts-same = on_ok_weaker c.settle.result
          (switch-counts g.B.Blocks.tells told part owners c.args.area c.args.into c.args.stay a b
          lower can call then-left) only-now

pub returns-clause-leaves : goal.returns-clause-leaves
returns-clause-leaves g c told owners kept growing = leaves g c told owners kept growing

pub returns-clause-rests : goal.returns-clause-rests
returns-clause-rests g c told owners kept growing = rests g c told owners kept growing

pub returns-clause-knows : goal.returns-clause-knows
returns-clause-knows g c told owners kept areas ends growing knows =
    knows-more g c told owners kept growing areas ends knows

pub returns-clause-counts : goal.returns-clause-counts
returns-clause-counts g c told owners kept growing = counts-same g c told owners kept growing
