-- A split of an area that is under way, as calls leave the blocks that it names: those of the area
-- and, once it is claimed, those of the area that gets the entries.
use Rattle.std.proofs.Common.{◌≡◌, ◌≢◌, ◌<◌, ◌+◌, ℕ, zero, suc, Bool, IsTrue, List}
use Rattle.std.proofs.Common.{[], ◌∷◌, Option, Some, None, refl, sym, ap, subst, ◌∙◌, arith}
use Rattle.std.proofs.Common.{length}
use Rattle.std.specs.Prelude.{Contains, cond, slice_get, slice_index}
use Rattle.std.proofs.lemmas.Bool.{eq-eqb}
use Rattle.std.proofs.lemmas.Option.{slice_get_within}
use Rattle.vr_types.specs.Blocks.{Keeps}
use Rattle.vr_types.specs.Geometry.{area_count}
use Rattle.vr_types.specs.Image.{Block, Image, block_at}
use Rattle.vr_types.specs.Seen.{Seen}
use Rattle.vr_types.specs.declared.unit.StageKind.{StageKind}
use Rattle.vr_types.specs.declared.unit.StageKind.TheVariants.{CiCopy, CiSwitch, CiClean}
use Rattle.vr_types.specs.declared.unit.StageKind.TheVariants.{CaClaim, CaCopy, CaLink, CaSwitch}
use Rattle.vr_types.specs.declared.unit.StageKind.TheVariants.{Post, Extend, Undo, Force}
use Rattle.vr_seqset.specs.Entry.{Entry}
use Rattle.vr_space.specs.Areas.{IsChainOn, KeyedChain, area_of, areas_in, head_in}
use Rattle.vr_space.specs.Areas.{head_of}
use Rattle.vr_space.specs.Keyed.{IsHead, Keyed, entries_of, entry_block}
use Rattle.vr_space.specs.Moves.{HasCopy, IsAside, IsCopy, IsMoved, IsMoving, IsReadyTo, IsUpper}
use Rattle.vr_space.specs.Moves.{MoveUnderWay}
use Rattle.vr_space.specs.Part.{KeyedShape, Stands}
use Rattle.vr_space.specs.Split.{MoveNow, move_stage}
use Rattle.vr_space.specs.UnderWay.{interval_block}
use Rattle.vr_space.proofs.EntryCounts.{head-entries}
use Rattle.vr_space.proofs.KeyedSound.{AreIn, head-in}
use Rattle.vr_space.proofs.LinkedContent.{IsLinkedArea, links-in-area}
use Rattle.vr_space.proofs.Links.{area-there}
use Rattle.vr_space.proofs.UnderWay.{AreaStays, StaysAt}

-- ---- what it says of its areas

-- once it is claimed, the area that gets the entries is one of the volume's, and none of the chain
pub aside-of : (part : KeyedChain) (move : MoveNow) (now : Seen) (stage : StageKind)
    → stage ≢ CaClaim → IsReadyTo stage part move now → IsAside part move now.cur
aside-of part move now CaClaim later ready = absurd (later refl)
aside-of part move now CaCopy later ready = ready.0
aside-of part move now CaLink later ready = ready.0
aside-of part move now CaSwitch later ready = ready.0
aside-of part move now CiCopy later ready = absurd ready
aside-of part move now CiSwitch later ready = absurd ready
aside-of part move now CiClean later ready = absurd ready
aside-of part move now Post later ready = absurd ready
aside-of part move now Extend later ready = absurd ready
aside-of part move now Undo later ready = absurd ready
aside-of part move now Force later ready = absurd ready

-- an area that doesn't wait for its next stage is another one than it splits
pub waits-elsewhere : (move : MoveNow) (area : ℕ) → move_stage (Some move) area ≡ None
    → move.area ≡ area → ⊥
waits-elsewhere move area none same =
    let waits : move_stage (Some move) area ≡ Some move.stage =
    ap (λ (test : Bool). cond test (Some move.stage) None) (eq-eqb move.area area same) in
    some-none (sym waits ∙ none)
  where
    some-none : Some move.stage ≡ None → ⊥
    some-none is = cc

-- ---- what stays

nth-in : (area : ℕ) (entries : List Entry) (k : ℕ) (entry : Entry) → AreIn area entries
    → slice_get entries k ≡ Some entry → slice_index entry.intervals 0 < area
nth-in area [] k entry all is = absurd cc
nth-in area (one ∷ entries) zero entry all is =
    let same : one ≡ entry = cc in
    subst (λ (e : Entry). slice_index e.intervals 0 < area) same all.0
nth-in area (one ∷ entries) (suc k) entry all is = nth-in area entries k entry all.1 is

module _ (part : KeyedChain) (move : MoveNow) (a b : Seen) (on : IsChainOn part a)
    (there : head_of part move.area + part.geometry.area < a.count)
    (head : IsHead (area_of part move.area) (head_in part a.cur move.area))
    (chain : areas_in part b.cur ≡ areas_in part a.cur)
    (from : AreaStays (area_of part move.area) a b) where
  same-top : head_in part b.cur move.area ≡ head_in part a.cur move.area
  same-top = (from (head_of part move.area) (omega (arith, there), (omega arith, omega arith))).cur

  -- the interval of an entry of its head does,
  entry-stays : (k : ℕ) (entry : Entry)
      → slice_get (entries_of (head_in part a.cur move.area)) k ≡ Some entry
      → StaysAt a b (entry_block (area_of part move.area) entry)
  entry-stays k entry is =
      let below : slice_index entry.intervals 0 < part.geometry.area =
      nth-in part.geometry.area (entries_of (head_in part a.cur move.area)) k entry
      (head-in (area_of part move.area) (head_in part a.cur move.area) head) is in
      from (entry_block (area_of part move.area) entry)
      (omega (arith, there, below), (omega arith, omega (arith, below)))

  module _ (aside : IsAside part move a.cur) (into : AreaStays (area_of part move.into) a b) where
    -- and so do the head and each interval of the area that gets them;
    upper-stays : StaysAt a b (head_of part move.into)
    upper-stays = into (head_of part move.into)
        (omega (arith, area-there part a on move.into aside.there), (omega arith, omega arith))

    interval-stays : (stay j : ℕ) (entry : Entry)
        → slice_get (entries_of (head_in part a.cur move.area)) (stay + j) ≡ Some entry
        → StaysAt a b (interval_block (area_of part move.into) j)
    interval-stays stay j entry is =
        let below : j < part.geometry.area = omega (
          arith,
          slice_get_within (entries_of (head_in part a.cur move.area)) (stay + j) entry is,
          head-entries (area_of part move.area) (head_in part a.cur move.area) head,
        ) in
        into (interval_block (area_of part move.into) j) (
          omega (arith, area-there part a on move.into aside.there, below),
          (omega arith, omega (arith, below)),
        )

    same-entry : (k : ℕ) (entry : Entry)
        → slice_get (entries_of (head_in part a.cur move.area)) k ≡ Some entry
        → slice_get (entries_of (head_in part b.cur move.area)) k ≡ Some entry
    same-entry k entry is = ap (λ (top : Block). slice_get (entries_of top) k) same-top ∙ is

    copy-stays : (j : ℕ) → HasCopy part move j a.cur → HasCopy part move j b.cur
    copy-stays j is = record {
      entry = is.entry;
      is = same-entry (move.stay + j) is.entry is.is;
      same = (interval-stays move.stay j is.entry is.is).cur ∙ is.same
          ∙ sym (entry-stays (move.stay + j) is.entry is.is).cur;
    }

    stable-stays : (stay j : ℕ) → IsCopy part move.area move.into stay j a
        → IsCopy part move.area move.into stay j b
    stable-stays stay j is = record {
      entry = is.entry;
      is = same-entry (stay + j) is.entry is.is;
      stable = λ block may.
          is.stable block ((interval-stays stay j is.entry is.is).less block may)
          ∙ sym (entry-stays (stay + j) is.entry is.is).cur;
    }

    moved-stays : (stay : ℕ) → IsMoved part move.area move.into stay a
        → IsMoved part move.area move.into stay b
    moved-stays stay is = record {
      upper = is.upper;
      is_upper = subst (λ (top : Block). IsUpper (area_of part move.area) stay top is.upper)
          (sym same-top) is.is_upper;
      stable = λ block may. is.stable block (upper-stays.less block may);
      copies = subst (λ (top : Block). (j : ℕ) → stay + j < length (entries_of top)
          → IsCopy part move.area move.into stay j b)
          (sym same-top) (λ j below. stable-stays stay j (is.copies j below));
    }

    -- no chain reaches that area yet.
    aside-stays : IsAside part move b.cur
    aside-stays = record {
      there = aside.there;
      apart = λ inside. aside.apart
          (subst (λ (areas : List ℕ). Contains areas move.into) chain inside);
    }

  ready-stays : (stage : StageKind)
      → (stage ≢ CaClaim → AreaStays (area_of part move.into) a b)
      → IsReadyTo stage part move a → IsReadyTo stage part move b
  ready-stays CaClaim into is = is
  ready-stays CaCopy into is =
      let stays = into (λ same. copy-claims same) in (
        aside-stays is.0 stays,
        is.1,
        λ j below. copy-stays is.0 stays j (is.2 j below),
      )
    where
      copy-claims : CaCopy ≡ CaClaim → ⊥
      copy-claims same = cc
  ready-stays CaLink into is =
      let stays = into (λ same. link-claims same) in
      (aside-stays is.0 stays, λ j below. copy-stays is.0 stays j (is.1 j below))
    where
      link-claims : CaLink ≡ CaClaim → ⊥
      link-claims same = cc
  ready-stays CaSwitch into is =
      let stays = into (λ same. switch-claims same) in
      (aside-stays is.0 stays, moved-stays is.0 stays move.stay is.1)
    where
      switch-claims : CaSwitch ≡ CaClaim → ⊥
      switch-claims same = cc
  ready-stays stage into is = absurd is

  -- It stays under way where each of these blocks stays, and the chain has the areas that it had.
  pub moving-stays : (move.stage ≢ CaClaim → AreaStays (area_of part move.into) a b)
      → IsMoving part move a → IsMoving part move b
  moving-stays into is = record {
    inside = subst (λ (areas : List ℕ). Contains areas move.area) (sym chain) is.inside;
    entries = ap (λ (top : Block). length (entries_of top)) same-top ∙ is.entries;
    some = is.some;
    fewer = is.fewer;
    ready = ready-stays move.stage into is.ready;
  }

-- So it does over a call that puts nothing, whoever owns the area that gets the entries.
pub move-keeps : (part : KeyedChain) (move : Option MoveNow) (tells : Bool) → IsTrue tells
    → (a b : Seen) → Keeps tells a b → IsChainOn part a → Stands (KeyedShape part) a.cur
    → MoveUnderWay part move a → MoveUnderWay part move b
move-keeps part None tells told a b call on stands moves = tt
move-keeps part (Some move) tells told a b call on stands moves =
    let linked : IsLinkedArea part a.cur move.area =
    links-in-area part a.cur (area_count part.geometry) part.first None stands.1.chain move.area
    moves.inside in
    moving-stays part move a b on (area-there part a on move.area linked.there) linked.stands.head
    (ap (areas_in part) (call.content told)) (each-stays (area_of part move.area))
    (λ later. each-stays (area_of part move.into)) moves
  where
    each-stays : (area : Keyed) → AreaStays area a b
    each-stays area n is = record {
      cur = ap (λ (image : Image). block_at image n) (call.content told);
      less = λ block may. call.adds_none told n block is.0 may;
    }
