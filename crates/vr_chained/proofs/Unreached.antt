-- A put into a block to which no roster of the chain leads: the chain is as it was.
use Rattle.std.proofs.Common.{◌≡◌, ◌≢◌, ◌<◌, ◌≤◌, ◌+◌, ℕ, Bool, IsTrue, List, [], length, All}
use Rattle.std.proofs.Common.{Option, inl, ⊎_elim, refl, subst, arith}
use Rattle.std.proofs.lemmas.List.Elements.{All-nil}
use Rattle.vr_types.specs.Blocks.{Puts}
use Rattle.vr_types.specs.Geometry.{area_count}
use Rattle.vr_types.specs.Image.{Block, Image, block_at}
use Rattle.vr_types.specs.Seen.{Left, Only, Seen}
use Rattle.vr_types.specs.declared.unit.PartNo.{PartNo}
use Rattle.vr_types.proofs.CallerLemmas.{cur-elsewhere}
use Rattle.vr_space.specs.Owners.{Owners}
use Rattle.vr_space.specs.Part.{InPart, IsQuiet, MayGrow, NumberedShape}
use Rattle.vr_space.specs.Room.{Lengths}
use Rattle.vr_space.specs.Rosters.{IsChained, IsInArea, IsOf, IsOwnArea, Numbered, chain_of}
use Rattle.vr_space.specs.Rosters.{interval_in, roster_at, roster_block, used_of}
use Rattle.vr_space.specs.Numbered.{IsFilled, IsNumberedAtRest, IsRestingArea, KeepsNumbered}
use Rattle.vr_space.specs.Numbered.{chain_block}
use Rattle.vr_space.proofs.CallerLemmas.{area-owned, areas-same, count-from, interval-inside}
use Rattle.vr_space.proofs.CallerLemmas.{roster-inside, used-same}
use Rattle.vr_chained.specs.Extended.{MayExtend}
use Rattle.vr_chained.proofs.ChainBlocks.{used-block}
use Rattle.vr_chained.proofs.Extending.{KeepsChain, due-put, may-put, rests-put}
use Rattle.vr_chained.proofs.KeptTail.{items-stay, tail-keeps}
use Rattle.vr_chained.proofs.Longer.{Lengthens, chain-with}
use Rattle.vr_chained.proofs.LongerPuts.{IsPutOver}
use Rattle.vr_chained.proofs.Reached.{one-area, roster-apart}
use Rattle.vr_chained.proofs.Resting.{resting-chain}

-- The block is neither the roster of the area nor one of its used intervals.
pub record IsUnreached (part : Numbered) (image : Image) (n area : ℕ) : Type 0 where
  pub roster : roster_block part area ≢ n
  pub interval : (interval : ℕ) → interval < (roster_at part image area).used
      → interval < part.geometry.area → interval_in part area interval ≢ n

-- no block of an area is one of another
pub other-unreached : (part : Numbered) (image : Image) (n area other : ℕ) → IsInArea part area n
    → other ≢ area → IsUnreached part image n other
other-unreached part image n area other inside apart = record {
  roster = λ same. apart (one-area part other area n
      (subst (IsInArea part other) same (roster-inside part other)) inside);
  interval = λ interval used below same. apart (one-area part other area n
      (subst (IsInArea part other) same (interval-inside part other interval below)) inside);
}

-- and no area leads to its next interval
pub next-unreached : (part : Numbered) (image : Image) (last other : ℕ)
    → (roster_at part image last).used < part.geometry.area
    → IsUnreached part image (interval_in part last (roster_at part image last).used) other
next-unreached part image last other unused = record {
  roster = λ same. roster-apart part other last (roster_at part image last).used unused same;
  interval = λ interval used below same.
      let here : other ≡ last = one-area part other last
      (interval_in part last (roster_at part image last).used)
      (subst (IsInArea part other) same (interval-inside part other interval below))
      (interval-inside part last (roster_at part image last).used unused) in
      let less : interval < (roster_at part image last).used =
      subst (λ (at : ℕ). interval < (roster_at part image at).used) here used in
      let one : interval_in part last interval
      ≡ interval_in part last (roster_at part image last).used =
      subst (λ (at : ℕ). interval_in part at interval
      ≡ interval_in part last (roster_at part image last).used) here same in
      absurd (omega (arith, less, one));
}

module _ (part : Numbered) (tells : Bool) (told : IsTrue tells) (a b : Seen) (n : ℕ)
    (bytes : Block) (call : Puts tells n bytes a b) (left : Left a a.cur) (below : n < a.count)
    (off : All (IsUnreached part a.cur n) (chain_of part a.cur)) where
  abbrev Own : Owners → ℕ → Type 0
  Own owners area = IsRestingArea part owners a area × IsUnreached part a.cur n area

  own-chain : (owners : Owners) → IsNumberedAtRest part owners a
      → IsChained part (Own owners) (IsFilled part) a.may
  own-chain owners rests =
      chain-with part (IsRestingArea part owners a) (IsUnreached part a.cur n) (IsFilled part) a.cur
      a.may (λ area own. own.roster) (area_count part.geometry) part.first rests.chain off

  room : length (chain_of part a.cur) + 0 ≤ area_count part.geometry
  room = omega (arith, count-from part a.cur (area_count part.geometry) part.first)

  as-it-was : (owners : Owners) → IsNumberedAtRest part owners a → (Wider : ℕ → Type 0)
      (old new : ℕ → Block → Type 0) → All Wider [] → IsPutOver a n bytes old new
      → Lengthens part (Own owners) Wider a.cur [] old new
  as-it-was owners rests Wider old new added puts = record {
    tops = λ area own top may. ⊎_elim (λ before. inl before)
        (λ put. absurd (own.1.roster put.0))
        (puts.adds (roster_block part area) top
        (area-owned part owners a rests.on area own.0.own (roster_block part area)
        (roster-inside part area)).0 may);
    blocks = λ area interval own used inside block may. ⊎_elim (λ before. before)
        (λ put. absurd (own.1.interval interval used inside put.0))
        (puts.adds (interval_in part area interval) block
        (area-owned part owners a rests.on area own.0.own (interval_in part area interval)
        (interval-inside part area interval inside)).0 may);
  }

  -- whether it failed or not
  pub unreached-may : (areas : List (Option PartNo)) (kept : Lengths)
      → IsQuiet (NumberedShape part) a → KeepsNumbered part kept a.may
      → ((owners grown : Owners) → MayGrow (NumberedShape part) areas owners grown
      → IsNumberedAtRest part owners a → InPart (NumberedShape part) grown n)
      → MayExtend part areas kept a b
  unreached-may areas kept quiet keeps mine =
      may-put part tells told a b n bytes call left below [] Own (λ owners area own. own.0)
      own-chain room as-it-was areas kept quiet keeps
      (λ owners grown grows rests.
      (mine owners grown grows rests, All-nil (IsOwnArea part grown)))

  -- where it is forced
  pub unreached-keeps : Only b n (λ (block : Block). block ≡ bytes) → Left b b.cur
      → IsQuiet (NumberedShape part) a → KeepsChain part a b
  unreached-keeps only after quiet =
      let image-chain : IsChained part (Own quiet.0) (IsFilled part) (IsOf a.cur) =
      chain-with part (IsRestingArea part quiet.0 a) (IsUnreached part a.cur n) (IsFilled part)
      a.cur (IsOf a.cur) (λ area own top is. is) (area_count part.geometry) part.first
      (resting-chain part quiet.0 a left quiet.1) off in
      let same : (area : ℕ) → Own quiet.0 area → block_at b.cur (roster_block part area)
      ≡ block_at a.cur (roster_block part area) =
      λ area own. cur-elsewhere tells a b (roster_block part area) n bytes told own.1.roster call in
      let areas : chain_of part b.cur ≡ chain_of part a.cur =
      areas-same part (Own quiet.0) (IsFilled part) (IsOf a.cur) a.cur b.cur
      (λ area own. refl) same (area_count part.geometry) part.first image-chain in
      let used : used_of part b.cur ≡ used_of part a.cur =
      used-same part (Own quiet.0) (IsFilled part) (IsOf a.cur) a.cur b.cur
      (λ area own. refl) same (area_count part.geometry) part.first image-chain in
      let blocks : (interval : ℕ) → interval < used_of part a.cur
      → block_at b.cur (chain_block part (chain_of part a.cur) interval)
      ≡ block_at a.cur (chain_block part (chain_of part a.cur) interval) =
      λ interval counted. used-block part (Own quiet.0) (IsFilled part) a.cur
      (λ (m : ℕ). block_at b.cur m ≡ block_at a.cur m)
      (omega (arith, quiet.1.on.part_is.allowed.some_intervals))
      (λ area at own less inside. cur-elsewhere tells a b (interval_in part area at) n bytes told
      (own.1.interval at less inside) call)
      (area_count part.geometry) interval part.first image-chain counted in
      record {
        due = due-put part tells told a b n bytes call left below [] Own
            (λ owners area own. own.0) own-chain room as-it-was only after quiet;
        stays = λ owners rests. rests-put part tells told a b n bytes call left below [] Own
            (λ owners area own. own.0) own-chain room as-it-was only after owners owners rests
            (λ area own. own) (All-nil (IsRestingArea part owners b));
        areas = areas;
        used = used;
        tail = tail-keeps part a.cur b.cur
            (λ entries. items-stay part a.cur b.cur blocks areas used);
      }
