-- What is answered at a place whose interval was met.
use Rattle.std.proofs.Common.{◌≡◌, ◌≤◌, ◌-◌, ℕ, Bool, true, List, Option, Some, None, length}
use Rattle.std.proofs.Common.{sym, ap, subst, ◌∙◌, arith}
use Rattle.std.proofs.lemmas.Bool.{le-leb}
use Rattle.vr_types.specs.Content.{item_at}
use Rattle.vr_types.specs.Content.Item.{Standing}
use Rattle.vr_types.specs.Seen.{Seen, Left}
use Rattle.vr_types.specs.Image.{Block, Image, block_at}
use Rattle.vr_types.specs.declared.unit.StageKind.{StageKind}
use Rattle.vr_seqset.specs.Entry.{Entry}
use Rattle.vr_space.specs.declared.room.Room as answer
use Rattle.vr_space.specs.AreaCalls.{IsAreaOn}
use Rattle.vr_space.specs.Room.{HaveRoom, Lengths, Range, have_room, is_in, weight, with_length}
use Rattle.vr_space.specs.Keyed.{Keyed, HoldsRange, InArea, KeepsRoom, entries_of, entry_block}
use Rattle.vr_space.specs.Keyed.{lengths_of, low_of, records_of}
use Rattle.vr_space.proofs.CallerLemmas.{IsFoundAbove, found-above}
use Rattle.vr_split.proofs.CallerLemmas.{found-range}
use Rattle.vr_space.specs.Split.{SplitNow, area_room, stage_at, stage_in, fits_in, room_after}
use Rattle.vr_space.specs.Split.{can_grow, room_by, room_by_split, free_interval}
use Rattle.vr_space.specs.Met.{Met, IsMet}
use Rattle.vr_split.specs.Weights.{LengthsRoom}
use Rattle.vr_keyed.specs.Lent.{ArePlaces, HasRoomFor}
use Rattle.vr_keyed.specs.Look.{AreaStands}
use Rattle.vr_keyed.proofs.Looking.{each-in, holds-in}
use Rattle.vr_keyed.proofs.Roomy.{no-longer}

module _ (part : Keyed) (image : Image) (met : Met) (is : IsMet part image met) where
  has : block_at image (entry_block part is.entry) ≡ met.block
  has = ap (block_at image) is.number ∙ is.still

  -- what was met is an interval of its range
  pub met-holds : AreaStands part image → HoldsRange part met.range met.block
  met-holds stands =
      subst (HoldsRange part met.range) has
      (holds-in part image met.place (met.range, is.entry) stands is.leads)

  -- the answer, by what was met: the split is that of the area, the stage that of the part
  pub met-room : (split : Option SplitNow) (under : Option StageKind) (free : ℕ) (kept : Lengths)
      (n : ℕ) → area_room part split under image free kept met.place n
      ≡ room_after (stage_at split is.entry)
      (room_by
      (have_room part.size
      (with_length (lengths_of part kept met.range met.block) met.place n))
      (room_by_split under (free_interval part (block_at image part.head))
      (can_grow free (block_at image part.head))))
  met-room split under free kept n =
      let other : answer.Room = room_by_split under
      (free_interval part (block_at image part.head))
      (can_grow free (block_at image part.head)) in
      ap (λ (o : Option (Range × Entry)). room_after (stage_in split o)
      (room_by (fits_in part image kept met.place n o) other)) is.leads
      ∙ ap (λ (block : Block). room_after (stage_at split is.entry)
      (room_by (have_room part.size
      (with_length (lengths_of part kept met.range block) met.place n)) other)) has

  pub answer-met : (split : Option SplitNow) (under : Option StageKind) (free : ℕ) (kept : Lengths)
      (n : ℕ) (place : List ℕ) (stage : Option StageKind) (fits : Bool) → met.place ≡ place
      → stage ≡ stage_at split is.entry
      → fits ≡ have_room part.size
      (with_length (lengths_of part kept met.range met.block) place n)
      → area_room part split under image free kept place n
      ≡ room_after stage
      (room_by fits
      (room_by_split under (free_interval part (block_at image part.head))
      (can_grow free (block_at image part.head))))
  answer-met split under free kept n place stage fits same stages fit =
      let other : answer.Room = room_by_split under
      (free_interval part (block_at image part.head))
      (can_grow free (block_at image part.head)) in
      ap (λ (p : List ℕ). area_room part split under image free kept p n) (sym same)
      ∙ met-room split under free kept n
      ∙ ap (λ (p : List ℕ). room_after (stage_at split is.entry)
      (room_by (have_room part.size
      (with_length (lengths_of part kept met.range met.block) p n)) other)) same
      ∙ ap (λ (b : Bool). room_after (stage_at split is.entry) (room_by b other)) (sym fit)
      ∙ ap (λ (s : Option StageKind). room_after s (room_by fits other)) (sym stages)

-- what is kept has room in the interval that was met
pub met-kept : (part : Keyed) (kept : Lengths) (met : Met) (now : Seen) → IsMet part now.cur met
    → IsAreaOn part now → InArea part met.number → Left now now.cur → KeepsRoom part kept now
    → HaveRoom part.size (lengths_of part kept met.range met.block)
met-kept part kept met now is on inside left room =
    let top : Block = block_at now.cur part.head in
    each-in part now (λ range block. HaveRoom part.size (lengths_of part kept range block)) top
    met.place (met.range, is.entry)
    (room.each top (left.each part.head (omega (arith, on.0)))) is.leads met.block
    (subst (λ (n : ℕ). now.may n met.block) (sym is.number)
    (subst (now.may met.number) is.still (left.each met.number (omega (arith, on.0, inside.1)))))

-- so a record no longer than the one at the place has it
pub met-fits : (part : Keyed) (image : Image) (kept : Lengths) (met : Met) → IsMet part image met
    → (place : List ℕ) → met.place ≡ place → HoldsRange part met.range met.block
    → HaveRoom part.size (lengths_of part kept met.range met.block) → (bytes : List ℕ) (n : ℕ)
    → item_at (records_of part met.block) place ≡ Some (Standing bytes) → n ≤ length bytes
    → true ≡ have_room part.size
    (with_length (lengths_of part kept met.range met.block) place n)
met-fits part image kept met is place same holds fits bytes n stands less =
    let top : Block = block_at image part.head in
    let led : IsFoundAbove (low_of top) (entries_of top) met.place (met.range, is.entry) =
    found-above (low_of top) (entries_of top) met.place (met.range, is.entry) is.leads in
    let here : is_in met.range place ≡ true =
    subst (λ (p : List ℕ). is_in met.range p ≡ true) same
    (found-range (low_of top) (entries_of top) met.place (met.range, is.entry) led.above
    led.leads) in
    sym (le-leb (weight (with_length (lengths_of part kept met.range met.block) place n))
    (part.size - 4)
    (no-longer part met.range place None met.block holds here kept bytes n stands less fits))

-- whether it fits, by a range and a block that are those
pub fits-met : (part : Keyed) (kept : Lengths) (met : Met) (n : ℕ) (room : LengthsRoom)
    (range : Range) (block : Block) (place : List ℕ) (fits : Bool)
    → (HoldsRange part range block → ArePlaces part.key kept → length place ≡ part.key
    → HasRoomFor part room
    → fits ≡ have_room part.size (with_length (lengths_of part kept range block) place n))
    → range ≡ met.range → block ≡ met.block → HoldsRange part met.range met.block
    → ArePlaces part.key kept → length place ≡ part.key → HasRoomFor part room
    → fits ≡ have_room part.size (with_length (lengths_of part kept met.range met.block) place n)
fits-met part kept met n room range block place fits says ranges blocks holds places key has_room =
    says (subst (λ (r : Range). HoldsRange part r block) (sym ranges)
    (subst (HoldsRange part met.range) (sym blocks) holds)) places key has_room
    ∙ ap (λ (r : Range). have_room part.size
    (with_length (lengths_of part kept r block) place n)) ranges
    ∙ ap (λ (b : Block). have_room part.size
    (with_length (lengths_of part kept met.range b) place n)) blocks
