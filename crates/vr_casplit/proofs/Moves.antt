-- A split under way once a stage is done: the copies that were made stay copies while more is put
-- into the area that gets them, since no block of the other area is put.
use Rattle.std.proofs.Common.{◌≡◌, ◌+◌, ◌<◌, ℕ, Bool, true, false, IsTrue, List, [], Some}
use Rattle.std.proofs.Common.{get_or, length}
use Rattle.std.proofs.Common.{arith, refl, sym, ap, subst, ◌∙◌, ⊎_elim, true≢false}
use Rattle.std.specs.Prelude.{Contains, if◌then◌else◌, nat_eq, slice_get, slice_index}
use Rattle.std.proofs.lemmas.Bool.{cases_lt, eq-eqb, eqb-true}
use Rattle.std.proofs.lemmas.Option.{slice_get-get_or}
use Rattle.vr_types.specs.Blocks.{Puts}
use Rattle.vr_types.specs.Geometry.{area_count}
use Rattle.vr_types.specs.Image.{Block, Image, block_at}
use Rattle.vr_types.specs.Seen.{Left, Only, Seen}
use Rattle.vr_types.specs.declared.unit.StageKind.{StageKind}
use Rattle.vr_types.specs.declared.unit.StageKind.TheVariants.{CaCopy, CaLink, CaSwitch}
use Rattle.vr_types.proofs.CallerLemmas.{cur-elsewhere}
use Rattle.vr_seqset.specs.Entry.{Entry}
use Rattle.vr_space.specs.Areas.{KeyedChain, area_of, areas_in, head_in, head_of}
use Rattle.vr_space.specs.Keyed.{InArea, entries_of, entry_block}
use Rattle.vr_space.specs.Owners.{Owners}
use Rattle.vr_space.specs.Room.{Lengths}
use Rattle.vr_space.specs.UnderWay.{interval_block}
use Rattle.vr_space.proofs.CallerLemmas.{areas-apart, head-in}
use Rattle.vr_casplit.specs.Growing.{IsGrowing}
use Rattle.vr_space.specs.Moves.{HasCopy, IsAside, IsCopy, IsMoved, IsMoving, IsReadyTo, IsUpper}
use Rattle.vr_space.specs.Moves.{moving}
use Rattle.vr_casplit.specs.Splits.{IsMovingHead}
use Rattle.vr_space.specs.Split.{MoveNow}
use Rattle.vr_casplit.proofs.Elsewhere.{put-areas}
use Rattle.vr_casplit.proofs.Switching.{in-nth}

-- ---- what a copy is

-- Interval j of the area that gets the entries has what the interval of entry j of them had.
pub record IsPut (part : KeyedChain) (move : MoveNow) (j : ℕ) (a b : Image) : Type 0 where
  pub entry : Entry
  pub is : slice_get (entries_of (head_in part a move.area)) (move.stay + j) ≡ Some entry
  pub same : block_at b (interval_block (area_of part move.into) j)
      ≡ block_at a (entry_block (area_of part move.area) entry)

-- It is so of what was copied by the head that was read.
pub is-put : (part : KeyedChain) (move : MoveNow) (j number : ℕ) (a m b : Image) (top out : Block)
    → top ≡ head_in part a move.area → m ≡ a → number ≡ move.stay + j
    → move.stay + j < length (entries_of (head_in part a move.area))
    → ((entry : Entry) → slice_get (entries_of top) number ≡ Some entry
    → out ≡ block_at m (entry_block (area_of part move.area) entry))
    → block_at b (interval_block (area_of part move.into) j) ≡ out
    → IsPut part move j a b
is-put part move j number a m b top out top-is read number-is below made done =
    let entries : List Entry = entries_of (head_in part a move.area) in
    let none : Entry = record { intervals = []; high = [] } in
    let entry : Entry = get_or entries (move.stay + j) none in
    let is : slice_get entries (move.stay + j) ≡ Some entry =
    slice_get-get_or entries (move.stay + j) none below in
    record {
      entry = entry;
      is = is;
      same = done
          ∙ made entry (ap (λ (block : Block). slice_get (entries_of block) number) top-is
          ∙ ap (slice_get entries) number-is ∙ is)
          ∙ ap (λ (image : Image). block_at image (entry_block (area_of part move.area) entry))
          read;
    }

module _ (part : KeyedChain) (move : MoveNow) (a b : Image)
    (is_head : IsMovingHead part move.area move.entries (head_in part a move.area))
    (same : (n : ℕ) → InArea (area_of part move.area) n → block_at b n ≡ block_at a n) where
  -- The head of the area is as it was, and so is the interval of each entry.
  head-same : head_in part b move.area ≡ head_in part a move.area
  head-same = same (head_of part move.area) (omega arith, omega arith)

  entry-same : (i : ℕ) (entry : Entry)
      → slice_get (entries_of (head_in part a move.area)) i ≡ Some entry
      → block_at b (entry_block (area_of part move.area) entry)
      ≡ block_at a (entry_block (area_of part move.area) entry)
  entry-same i entry got =
      let below : slice_index entry.intervals 0 < part.geometry.area =
      in-nth part.geometry.area (entries_of (head_in part a move.area)) i entry
      (head-in (area_of part move.area) (head_in part a move.area) is_head.head) got in
      same (entry_block (area_of part move.area) entry) (omega arith, omega (arith, below))

  -- So a copy stays one, however far the split is,
  copy-stays : (j copied : ℕ) (stage : StageKind)
      → block_at b (interval_block (area_of part move.into) j)
      ≡ block_at a (interval_block (area_of part move.into) j)
      → HasCopy part move j a
      → HasCopy part (record move { copied = copied; stage = stage }) j b
  copy-stays j copied stage there has = record {
    entry = has.entry;
    is = subst (λ (top : Block). slice_get (entries_of top) (move.stay + j) ≡ Some has.entry)
        (sym head-same) has.is;
    same = there ∙ has.same ∙ sym (entry-same (move.stay + j) has.entry has.is);
  }

  -- and what is put is one.
  pub copy-made : (j copied : ℕ) (stage : StageKind) → IsPut part move j a b
      → HasCopy part (record move { copied = copied; stage = stage }) j b
  copy-made j copied stage put = record {
    entry = put.entry;
    is = subst (λ (top : Block). slice_get (entries_of top) (move.stay + j) ≡ Some put.entry)
        (sym head-same) put.is;
    same = put.same ∙ sym (entry-same (move.stay + j) put.entry put.is);
  }

-- ---- a claim

-- Once an area is claimed that isn't of the chain, the copies are next.
pub claim-way : (part : KeyedChain) (move : MoveNow) (now : Seen) (claimed : ℕ)
    → IsMoving part move now → move.copied ≡ 0 → claimed < area_count part.geometry
    → (Contains (areas_in part now.cur) claimed → ⊥)
    → IsMoving part (record move { into = claimed; stage = CaCopy }) now
claim-way part move now claimed is none there apart = record {
  inside = is.inside;
  entries = is.entries;
  some = is.some;
  fewer = is.fewer;
  ready = (
    record { there = there; apart = apart },
    omega (arith, none, is.fewer),
    λ j below. absurd (omega (arith, none, below)),
  );
}

-- ---- a put into the area that gets the entries

-- A split under way, whose area that gets the entries is claimed.
pub record IsUnder (part : KeyedChain) (move : MoveNow) (owners : Owners) (kept : Lengths)
    (now : Seen) : Type 0 where
  pub moving : IsMoving part move now
  pub head : IsMovingHead part move.area move.entries (head_in part now.cur move.area)
  pub left : Left now now.cur
  pub aside : IsAside part move now.cur
  pub grows : IsGrowing part move.into owners kept now

module _ (tells : Bool) (told : IsTrue tells) (part : KeyedChain) (move : MoveNow) (owners : Owners)
    (kept : Lengths) (a b : Seen) (under : IsUnder part move owners kept a) (n : ℕ) (bytes : Block)
    (inside : InArea (area_of part move.into) n) (call : Puts tells n bytes a b) where
  differs : move.area ≡ move.into → ⊥
  differs same = under.aside.apart
      (subst (λ (at : ℕ). Contains (areas_in part a.cur) at) same under.moving.inside)

  same-area : (m : ℕ) → InArea (area_of part move.area) m → block_at b.cur m ≡ block_at a.cur m
  same-area m here = cur-elsewhere tells a b m n bytes told
      (λ same. areas-apart part move.area move.into m differs here
      (subst (λ (at : ℕ). InArea (area_of part move.into) at) (sym same) inside)) call

  same-areas : areas_in part b.cur ≡ areas_in part a.cur
  same-areas = put-areas tells told part move.into n bytes owners kept a b inside call under.left
      under.grows

  -- What doesn't change of it, whichever stage is next.
  still : (copied : ℕ) (stage : StageKind)
      → IsReadyTo stage part (record move { copied = copied; stage = stage }) b
      → IsMoving part (record move { copied = copied; stage = stage }) b
  still copied stage ready = record {
    inside = subst (λ (areas : List ℕ). Contains areas move.area) (sym same-areas)
        under.moving.inside;
    entries = ap (λ (top : Block). length (entries_of top))
        (head-same part move a.cur b.cur under.head same-area)
        ∙ under.moving.entries;
    some = under.moving.some;
    fewer = under.moving.fewer;
    ready = ready;
  }

  aside-still : (copied : ℕ) (stage : StageKind)
      → IsAside part (record move { copied = copied; stage = stage }) b.cur
  aside-still copied stage = record {
    there = under.aside.there;
    apart = subst (λ (areas : List ℕ). Contains areas move.into → ⊥) (sym same-areas)
        under.aside.apart;
  }

  -- ---- a copy

  module _ (at : n ≡ interval_block (area_of part move.into) move.copied)
      (more : move.copied < moving move)
      (before : (j : ℕ) → j < move.copied → HasCopy part move j a.cur)
      (put : IsPut part move move.copied a.cur b.cur) where
    each : (copied : ℕ) (stage : StageKind) (j : ℕ) → j < move.copied + 1
        → HasCopy part (record move { copied = copied; stage = stage }) j b.cur
    each copied stage j below =
        ⊎_elim
        (λ less. copy-stays part move a.cur b.cur under.head same-area j copied stage
        (cur-elsewhere tells a b (interval_block (area_of part move.into) j) n bytes told
        (λ same. omega (arith, same ∙ at, less)) call)
        (before j less))
        (λ most. subst
        (λ (i : ℕ). HasCopy part (record move { copied = copied; stage = stage }) i b.cur)
        (omega (arith, most, below))
        (copy-made part move a.cur b.cur under.head same-area move.copied copied stage put))
        (cases_lt j move.copied)

    -- One interval more is copied.
    pub copy-way : IsMoving part (record move {
      copied = move.copied + 1;
      stage = if nat_eq (move.copied + 1) (moving move) then CaLink else CaCopy;
    }) b
    copy-way = by (nat_eq (move.copied + 1) (moving move)) refl
      where
        by : (test : Bool) → nat_eq (move.copied + 1) (moving move) ≡ test
            → IsMoving part (record move {
              copied = move.copied + 1;
              stage = if test then CaLink else CaCopy;
            }) b
        by true is = still (move.copied + 1) CaLink (
          aside-still (move.copied + 1) CaLink,
          λ j below. each (move.copied + 1) CaLink j
              (omega (arith, below, eqb-true (move.copied + 1) (moving move) is)),
        )
        by false is = still (move.copied + 1) CaCopy (
          aside-still (move.copied + 1) CaCopy,
          ⊎_elim (λ less. less)
              (λ most. absurd (true≢false (sym (eq-eqb (move.copied + 1) (moving move)
              (omega (arith, most, more))) ∙ is)))
              (cases_lt (move.copied + 1) (moving move)),
          λ j below. each (move.copied + 1) CaCopy j below,
        )

  -- ---- the head over the copies

  module _ (at : n ≡ head_of part move.into)
      (before : (j : ℕ) → j < moving move → HasCopy part move j a.cur)
      (upper : IsUpper (area_of part move.area) move.stay (head_in part a.cur move.area) bytes)
      (stable : Only b (head_of part move.into) (λ block. block ≡ bytes))
      (copies : (j : ℕ) → j < moving move
      → Only b (interval_block (area_of part move.into) j) (λ block. block
      ≡ block_at a.cur (interval_block (area_of part move.into) j))) where
    top-same : head_in part b.cur move.area ≡ head_in part a.cur move.area
    top-same = head-same part move a.cur b.cur under.head same-area

    count-same : length (entries_of (head_in part b.cur move.area)) ≡ move.entries
    count-same = ap (λ (top : Block). length (entries_of top)) top-same ∙ under.moving.entries

    is-copy : (j : ℕ) → j < moving move → HasCopy part move j a.cur
        → IsCopy part move.area move.into move.stay j b
    is-copy j below has =
        let block : ℕ = entry_block (area_of part move.area) has.entry in
        let kept : block_at b.cur block ≡ block_at a.cur block =
        entry-same part move a.cur b.cur under.head same-area (move.stay + j) has.entry has.is
        in
        let from : block_at a.cur (interval_block (area_of part move.into) j)
        ≡ block_at b.cur block = has.same ∙ sym kept in
        record {
          entry = has.entry;
          is = subst (λ (top : Block). slice_get (entries_of top) (move.stay + j) ≡ Some has.entry)
              (sym top-same) has.is;
          stable = λ found may. copies j below found may ∙ from;
        }

    moved : IsMoved part move.area move.into move.stay b
    moved = record {
      upper = bytes;
      is_upper = subst (λ (top : Block). IsUpper (area_of part move.area) move.stay top bytes)
          (sym top-same) upper;
      stable = stable;
      copies = λ j inside.
          let below : j < moving move = omega (arith, inside, count-same) in
          is-copy j below (before j below);
    }

    -- The old head may be shortened.
    pub link-way : IsMoving part (record move { stage = CaSwitch }) b
    link-way = still move.copied CaSwitch (aside-still move.copied CaSwitch, moved)
