-- The put of the last roster of a chain, which counts an empty interval more, or links an area with
-- one.
use Rattle.std.proofs.Common.{◌≡◌, ◌≢◌, inl, inr, ⊎_elim, ◌<◌, ◌≤◌, ◌+◌, ◌*◌, ℕ, zero, suc, Bool}
use Rattle.std.proofs.Common.{IsTrue, false, List, [], ◌∷◌, ◌++◌, length, All, Option, Some, None}
use Rattle.std.proofs.Common.{sym, ap, subst, ◌∙◌, arith}
use Rattle.std.proofs.Math.Nat.{suc-mul}
use Rattle.std.proofs.lemmas.List.{append-nil, length-append}
use Rattle.std.proofs.lemmas.List.Elements.{All-head, All-nil}
use Rattle.vr_types.specs.Blocks.{Puts}
use Rattle.vr_types.specs.Geometry.{area_count}
use Rattle.vr_types.specs.Image.{Block, block_at}
use Rattle.vr_types.specs.Seen.{Left, Only, Seen}
use Rattle.vr_types.specs.Space.{least_free}
use Rattle.vr_types.specs.declared.unit.PartNo.{PartNo}
use Rattle.vr_types.proofs.CallerLemmas.{all-one, cur-elsewhere}
use Rattle.vr_seqset.specs.Reading.{roster_in}
use Rattle.vr_seqset.specs.Roster.{Roster}
use Rattle.vr_space.specs.Owners.{Owners}
use Rattle.vr_space.specs.Part.{InPart, IsQuiet, MayGrow, NumberedShape}
use Rattle.vr_space.specs.Room.{Lengths}
use Rattle.vr_space.specs.Rosters.{IsChained, IsInArea, IsOwnArea, Numbered, after_next, areas_from}
use Rattle.vr_space.specs.Rosters.{chain_of, interval_in, roster_at, roster_block, used_from}
use Rattle.vr_space.specs.Rosters.{used_of}
use Rattle.vr_space.specs.Keyed.{items_of}
use Rattle.vr_space.specs.Numbered.{IsFilled, IsNumberedAtRest, IsRestingArea, KeepsNumbered}
use Rattle.vr_space.specs.Numbered.{chain_block}
use Rattle.vr_space.proofs.CallerLemmas.{area-owned, count-from, interval-inside, rest-grows}
use Rattle.vr_space.proofs.CallerLemmas.{roster-inside}
use Rattle.vr_chained.specs.Chain.{ChainNow, IsChainOf}
use Rattle.vr_chained.specs.Extended.{IsExtended, IsMadeRoster, MayExtend}
use Rattle.vr_chained.specs.Filled.{IsUnfilled}
use Rattle.vr_chained.proofs.ChainBlocks.{block-past, used-block}
use Rattle.vr_chained.proofs.EmptyEnd.{longer-counted, longer-linked}
use Rattle.vr_chained.proofs.Extending.{due-put, may-put, own-grows, rests-put}
use Rattle.vr_chained.proofs.KeptTail.{items-more, tail-keeps}
use Rattle.vr_chained.proofs.LastArea.{IsLast, areas-longer, last-from}
use Rattle.vr_chained.proofs.Longer.{IsLonger, Lengthens}
use Rattle.vr_chained.proofs.LongerPuts.{IsPutOver}
use Rattle.vr_chained.proofs.Reached.{one-area, roster-apart}
use Rattle.vr_chained.proofs.Resting.{resting-chain}

-- the last of the areas that are kept
abbrev pub IsEnd : List ℕ → ℕ → Type 0
IsEnd areas last = (before : List ℕ) (area : ℕ) → areas ≡ before ++ area ∷ [] → last ≡ area

-- it is the last one of the chain
pub end-of : (chain : ChainNow) (a : Seen) → Left a a.cur → IsChainOf chain a.cur → (last : ℕ)
    → IsEnd chain.areas last → (owners : Owners) → IsNumberedAtRest chain.part owners a
    → IsLast chain.part (IsRestingArea chain.part owners a) (IsFilled chain.part) a.cur a.may
    (chain_of chain.part a.cur) (used_of chain.part a.cur) last
end-of chain a left of last is-end owners rests =
    let part = chain.part in
    let it = last-from part (IsRestingArea part owners a) (IsFilled part) a.cur a.may
    (λ area own. left.each (roster_block part area) (area-owned part owners a rests.on area own.own
    (roster_block part area) (roster-inside part area)).0)
    (area_count part.geometry) part.first rests.chain in
    subst (IsLast part (IsRestingArea part owners a) (IsFilled part) a.cur a.may
    (chain_of part a.cur) (used_of part a.cur))
    (sym (is-end it.1.before it.0 (of.areas ∙ it.1.listed))) it.1

module _ (chain : ChainNow) (tells : Bool) (told : IsTrue tells) (a b : Seen) (n : ℕ)
    (bytes : Block) (call : Puts tells n bytes a b) (left : Left a a.cur) (below : n < a.count)
    (of : IsChainOf chain a.cur) (last : ℕ) (is-end : IsEnd chain.areas last)
    (at : n ≡ roster_block chain.part last) where
  abbrev part : Numbered
  part = chain.part

  abbrev Own : Owners → ℕ → Type 0
  Own owners = IsRestingArea part owners a

  end : (owners : Owners) → IsNumberedAtRest part owners a
      → IsLast part (Own owners) (IsFilled part) a.cur a.may (chain_of part a.cur)
      (used_of part a.cur) last
  end = end-of chain a left of last is-end

  -- only the last area has the block for its roster
  one-last : (area : ℕ) → roster_block part area ≡ n → area ≡ last
  one-last area same = one-area part area last n
      (subst (IsInArea part area) same (roster-inside part area))
      (subst (IsInArea part last) (sym at) (roster-inside part last))

  there : (owners : Owners) → IsNumberedAtRest part owners a → (area : ℕ) → Own owners area
      → (m : ℕ) → IsInArea part area m → m < a.count
  there owners rests area own m inside = (area-owned part owners a rests.on area own.own m inside).0

  -- no interval has it
  apart : (area interval : ℕ) → interval < part.geometry.area → interval_in part area interval ≢ n
  apart area interval inside same = roster-apart part last area interval inside (sym (same ∙ at))

  module _ (old new : ℕ → Block → Type 0) (puts : IsPutOver a n bytes old new) where
    before : (m : ℕ) (block : Block) → m < a.count → m ≢ n → new m block → old m block
    before m block inside other may = ⊎_elim (λ kept. kept) (λ put. absurd (other put.0))
        (puts.adds m block inside may)

    once : (m : ℕ) (block : Block) → m < a.count → m ≢ n → new m block → a.may m block
    once m block inside other may =
        puts.less m block inside (before m block inside other may)

    -- what makes the chain longer there does so alone
    by-last : (owners : Owners) → IsNumberedAtRest part owners a → (Wider : ℕ → Type 0)
        (more : List ℕ) → IsLonger part a.cur Wider more new last bytes
        → Lengthens part (Own owners) Wider a.cur more old new
    by-last owners rests Wider more longer = record {
      tops = λ area own top may. ⊎_elim (λ kept. inl kept)
          (λ put. inr (subst (λ (area : ℕ). IsLonger part a.cur Wider more new area top)
          (sym (one-last area put.0))
          (subst (IsLonger part a.cur Wider more new last) (sym put.1) longer)))
          (puts.adds (roster_block part area) top
          (there owners rests area own (roster_block part area) (roster-inside part area)) may);
      blocks = λ area interval own used inside block may. before (interval_in part area interval)
          block
          (there owners rests area own (interval_in part area interval)
          (interval-inside part area interval inside))
          (apart area interval inside) may;
    }

    -- the intervals that it had
    filled-before : (owners : Owners) → IsNumberedAtRest part owners a → (interval : ℕ)
        → interval < (roster_at part a.cur last).used → (block : Block)
        → new (interval_in part last interval) block → IsFilled part block
    filled-before owners rests interval used block may =
        let it = end owners rests in
        let inside : interval < part.geometry.area =
        omega (arith, used, it.roster.spelled.rules.used) in
        it.intervals interval used block (once (interval_in part last interval) block
        (there owners rests last it.own (interval_in part last interval)
        (interval-inside part last interval inside)) (apart last interval inside) may)

  -- the block is the part's own
  mine : (areas : List (Option PartNo)) (owners grown : Owners)
      → MayGrow (NumberedShape part) areas owners grown → IsNumberedAtRest part owners a
      → InPart (NumberedShape part) grown n
  mine areas owners grown grows rests = grows.kept n part.part
      ((end owners rests).own.own.owned n
      (subst (IsInArea part last) (sym at) (roster-inside part last)))

  others : (owners : Owners) (area : ℕ) → Own owners area → area ≢ last
      → block_at b.cur (roster_block part area) ≡ block_at a.cur (roster_block part area)
  others owners area own other = cur-elsewhere tells a b (roster_block part area) n bytes told
      (λ same. other (one-last area same)) call

  chain-own : (owners : Owners) → IsNumberedAtRest part owners a
      → IsChained part (Own owners) (IsFilled part) a.may
  chain-own owners rests = rests.chain

  -- ---- used intervals

  some-intervals : IsQuiet (NumberedShape part) a → 0 < part.geometry.area
  some-intervals quiet = omega (arith, quiet.1.on.part_is.allowed.some_intervals)

  -- each has the block that it had
  blocks-kept : IsQuiet (NumberedShape part) a → (interval : ℕ) → interval < used_of part a.cur
      → block_at b.cur (chain_block part (chain_of part a.cur) interval)
      ≡ block_at a.cur (chain_block part (chain_of part a.cur) interval)
  blocks-kept quiet interval counted =
      used-block part (Own quiet.0) (IsFilled part) a.cur
      (λ (m : ℕ). block_at b.cur m ≡ block_at a.cur m) (some-intervals quiet)
      (λ area at own less inside. cur-elsewhere tells a b (interval_in part area at) n bytes told
      (apart area at inside) call)
      (area_count part.geometry) interval part.first (resting-chain part quiet.0 a left quiet.1)
      counted

  -- they are those of the areas, but for those of the last one that aren't used
  all-used : IsQuiet (NumberedShape part) a
      → used_of part a.cur + part.geometry.area
      ≡ length (chain_of part a.cur) * part.geometry.area + (roster_at part a.cur last).used
  all-used quiet =
      let it = end quiet.0 quiet.1 in
      let many : length (chain_of part a.cur) ≡ length it.before + 1 =
      ap (λ (areas : List ℕ). length areas) it.listed ∙ length-append it.before (last ∷ []) in
      let all : length (chain_of part a.cur) * part.geometry.area
      ≡ (length it.before + 1) * part.geometry.area =
      ap (λ (m : ℕ). m * part.geometry.area) many in
      omega (arith, it.used_is, all, suc-mul (length it.before) part.geometry.area)

  most-used : IsQuiet (NumberedShape part) a
      → used_of part a.cur ≤ length (chain_of part a.cur) * part.geometry.area
  most-used quiet =
      omega (arith, all-used quiet, (end quiet.0 quiet.1).roster.spelled.rules.used)

  -- ---- one interval more is counted

  module _ (made : IsMadeRoster chain.part ((roster_at chain.part a.cur last).used + 1) None bytes)
      (unused : (roster_at chain.part a.cur last).used < chain.part.geometry.area)
      (fresh : Only a (interval_in chain.part last (roster_at chain.part a.cur last).used)
      (IsUnfilled chain.part)) where
    counted : (owners : Owners) → IsNumberedAtRest part owners a → (Wider : ℕ → Type 0)
        (old new : ℕ → Block → Type 0) → All Wider [] → IsPutOver a n bytes old new
        → Lengthens part (Own owners) Wider a.cur [] old new
    counted owners rests Wider old new added puts =
        let used : ℕ = (roster_at part a.cur last).used in
        by-last old new puts owners rests Wider []
        (longer-counted part a.cur Wider new last bytes (end owners rests).next
        (filled-before old new puts owners rests) made
        (λ block may. fresh block (once old new puts (interval_in part last used) block
        (there owners rests last (end owners rests).own (interval_in part last used)
        (interval-inside part last used unused)) (apart last used unused) may)))

    room : length (chain_of part a.cur) + 0 ≤ area_count part.geometry
    room = omega (arith, count-from part a.cur (area_count part.geometry) part.first)

    -- whether it failed or not
    pub counted-may : (areas : List (Option PartNo)) (kept : Lengths)
        → IsQuiet (NumberedShape chain.part) a → KeepsNumbered chain.part kept a.may
        → MayExtend chain.part areas kept a b
    counted-may areas kept quiet keeps =
        may-put part tells told a b n bytes call left below [] Own (λ owners area own. own)
        chain-own room counted areas kept quiet keeps
        (λ owners grown grows rests.
        (mine areas owners grown grows rests, All-nil (IsOwnArea part grown)))

    module _ (only : Only b n (λ (block : Block). block ≡ bytes)) (after : Left b b.cur)
        (quiet : IsQuiet (NumberedShape chain.part) a) where
      stays : (owners : Owners) → IsNumberedAtRest part owners a → IsNumberedAtRest part owners b
      stays owners rests = rests-put part tells told a b n bytes call left below [] Own
          (λ owners area own. own) chain-own room counted only after owners owners rests
          (λ area own. own) (All-nil (IsRestingArea part owners b))

      has-now : roster_at part b.cur last ≡ record {
        used = (roster_at part a.cur last).used + 1;
        part = part.part;
        next = None;
      }
      has-now = ap roster_in (ap (block_at b.cur) (sym at)
          ∙ only (block_at b.cur n) (after.each n (omega (arith, below, call.count_same))))
          ∙ made.has

      -- the chain has an interval more
      more-counted : (chain_of part b.cur ≡ chain_of part a.cur ++ [])
          × (used_of part b.cur ≡ used_of part a.cur + 1)
      more-counted =
          let it = end quiet.0 quiet.1 in
          areas-longer part (Own quiet.0) (IsFilled part) a.cur b.cur last [] it.next
          (others quiet.0)
          (λ k room. (
            ap (λ (roster : Roster). last ∷ after_next [] (areas_from part b.cur k) roster.next)
                has-now,
            ap (λ (roster : Roster).
                roster.used + after_next 0 (used_from part b.cur k) roster.next) has-now
                ∙ omega arith,
          ))
          (area_count part.geometry) part.first it.before
          (resting-chain part quiet.0 a left quiet.1) it.listed room

      pub counted-of : IsChainOf (record {
        part = chain.part;
        areas = chain.areas;
        used = chain.used + 1;
      }) b.cur
      counted-of = record {
        areas = of.areas ∙ sym (append-nil (chain_of part a.cur)) ∙ sym more-counted.0;
        used = ap (λ (used : ℕ). used + 1) of.used ∙ sym more-counted.1;
      }

      -- which has no item
      none-counted : part.relative ≡ false
          → items_of (block_at b.cur (chain_block part (chain_of part a.cur ++ [])
          (used_of part a.cur))) ≡ []
      none-counted entries =
          let it = end quiet.0 quiet.1 in
          let used : ℕ = (roster_at part a.cur last).used in
          let at : ℕ = interval_in part last used in
          ap (λ (areas : List ℕ). items_of (block_at b.cur (chain_block part areas
          (used_of part a.cur)))) (append-nil (chain_of part a.cur) ∙ it.listed)
          ∙ ap (λ (m : ℕ). items_of (block_at b.cur m))
          (block-past part last used (used_of part a.cur) [] it.before unused it.used_is)
          ∙ ap items_of (cur-elsewhere tells a b at n bytes told (apart last used unused) call)
          ∙ (fresh (block_at a.cur at) (left.each at (there quiet.0 quiet.1 last it.own at
          (interval-inside part last used unused)))).items entries

      pub counted-done : (areas : List (Option PartNo)) → IsExtended chain.part areas areas a b
      counted-done areas = record {
        due = due-put part tells told a b n bytes call left below [] Own (λ owners area own. own)
            chain-own room counted only after quiet;
        rests = λ owners grown grows rests.
            rest-grows owners grown b grows.kept (NumberedShape part) (stays owners rests);
        stays = λ owners same rests. stays owners rests;
        tail = tail-keeps part a.cur b.cur (λ entries.
            items-more part a.cur b.cur (blocks-kept quiet) [] (some-intervals quiet)
            more-counted.0 more-counted.1 (most-used quiet) (none-counted entries));
      }

  -- ---- an area more is linked

  module _ (area : ℕ) (other : last ≢ area) (inside : area < area_count chain.part.geometry)
      (few : length chain.areas < area_count chain.part.geometry)
      (whole : (roster_at chain.part a.cur last).used ≡ chain.part.geometry.area)
      (made : IsMadeRoster chain.part chain.part.geometry.area (Some area) bytes)
      (top : Only a (roster_block chain.part area) (IsMadeRoster chain.part 1 None))
      (fresh : Only a (interval_in chain.part area 0) (IsUnfilled chain.part))
      (roster-below : roster_block chain.part area < a.count)
      (interval-below : interval_in chain.part area 0 < a.count)
      (some : 0 < chain.part.geometry.area) where
    roster-other : roster_block part area ≢ n
    roster-other same = other (sym (one-last area same))

    linked : (owners : Owners) → IsNumberedAtRest part owners a → (Wider : ℕ → Type 0)
        (old new : ℕ → Block → Type 0) → All Wider (area ∷ []) → IsPutOver a n bytes old new
        → Lengthens part (Own owners) Wider a.cur (area ∷ []) old new
    linked owners rests Wider old new added puts =
        by-last old new puts owners rests Wider (area ∷ [])
        (longer-linked part a.cur Wider new last bytes (end owners rests).next
        (filled-before old new puts owners rests) area whole made (All-head Wider area [] added)
        (λ block may. top block
        (once old new puts (roster_block part area) block roster-below roster-other may))
        (λ block may. fresh block
        (once old new puts (interval_in part area 0) block interval-below (apart area 0 some)
        may)))

    linked-room : length (chain_of part a.cur) + 1 ≤ area_count part.geometry
    linked-room = omega (arith, few, ap (λ (areas : List ℕ). length areas) of.areas)

    -- the area is the part's own by owners who claim it
    own-linked : (areas : List (Option PartNo)) → least_free areas ≡ Some area
        → (owners grown : Owners) → MayGrow (NumberedShape part) areas owners grown
        → IsOwnArea part grown area
    own-linked areas least owners grown grows =
        record { there = inside; owned = λ m within. grows.claimed area least m within }

    -- whether it failed or not
    pub linked-may : (areas : List (Option PartNo)) (kept : Lengths)
        → least_free areas ≡ Some area → IsQuiet (NumberedShape chain.part) a
        → KeepsNumbered chain.part kept a.may → MayExtend chain.part areas kept a b
    linked-may areas kept least quiet keeps =
        may-put part tells told a b n bytes call left below (area ∷ []) Own
        (λ owners area own. own) chain-own linked-room linked areas kept quiet keeps
        (λ owners grown grows rests. (
          mine areas owners grown grows rests,
          all-one (IsOwnArea part grown) area (own-linked areas least owners grown grows),
        ))

    module _ (only : Only b n (λ (block : Block). block ≡ bytes)) (after : Left b b.cur)
        (quiet : IsQuiet (NumberedShape chain.part) a) where
      -- the new area's roster
      top-now : (block : Block) → b.may (roster_block part area) block
          → IsMadeRoster part 1 None block
      top-now block may = top block (⊎_elim (λ kept. kept) (λ put. absurd (roster-other put.0))
          (call.adds told (roster_block part area) block roster-below may))

      last-now : roster_at part b.cur last ≡ record {
        used = part.geometry.area;
        part = part.part;
        next = Some area;
      }
      last-now = ap roster_in (ap (block_at b.cur) (sym at)
          ∙ only (block_at b.cur n) (after.each n (omega (arith, below, call.count_same))))
          ∙ made.has

      area-now : roster_at part b.cur area
          ≡ record { used = 1; part = part.part; next = None }
      area-now = (top-now (block_at b.cur (roster_block part area))
          (after.each (roster_block part area) (omega (arith, roster-below, call.count_same)))).has

      longer-now : (k : ℕ) → 1 ≤ k
          → (areas_from part b.cur (suc k) last ≡ last ∷ (area ∷ []))
          × (used_from part b.cur (suc k) last ≡ (roster_at part a.cur last).used + 1)
      longer-now zero room = absurd (omega (arith, room))
      longer-now (suc k) room = (
        ap (λ (roster : Roster). last
            ∷ after_next [] (areas_from part b.cur (suc k)) roster.next) last-now
            ∙ ap (λ (roster : Roster). last ∷ (area
            ∷ after_next [] (areas_from part b.cur k) roster.next)) area-now,
        ap (λ (roster : Roster).
            roster.used + after_next 0 (used_from part b.cur (suc k)) roster.next) last-now
            ∙ ap (λ (roster : Roster). part.geometry.area + (roster.used
            + after_next 0 (used_from part b.cur k) roster.next)) area-now
            ∙ omega (arith, whole),
      )

      -- the chain has the area, and one interval of it
      more-linked : (chain_of part b.cur ≡ chain_of part a.cur ++ area ∷ [])
          × (used_of part b.cur ≡ used_of part a.cur + 1)
      more-linked =
          let it = end quiet.0 quiet.1 in
          areas-longer part (Own quiet.0) (IsFilled part) a.cur b.cur last (area ∷ [])
          it.next (others quiet.0) longer-now (area_count part.geometry) part.first it.before
          (resting-chain part quiet.0 a left quiet.1) it.listed linked-room

      pub linked-of : IsChainOf (record {
        part = chain.part;
        areas = chain.areas ++ area ∷ [];
        used = chain.used + 1;
      }) b.cur
      linked-of = record {
        areas = ap (λ (areas : List ℕ). areas ++ area ∷ []) of.areas ∙ sym more-linked.0;
        used = ap (λ (used : ℕ). used + 1) of.used ∙ sym more-linked.1;
      }

      -- which has no item
      none-linked : part.relative ≡ false
          → items_of (block_at b.cur (chain_block part (chain_of part a.cur ++ area ∷ [])
          (used_of part a.cur))) ≡ []
      none-linked entries =
          let at : ℕ = interval_in part area 0 in
          ap (λ (m : ℕ). items_of (block_at b.cur m))
          (block-past part area 0 (used_of part a.cur) [] (chain_of part a.cur) some
          (omega (arith, all-used quiet, whole)))
          ∙ ap items_of (cur-elsewhere tells a b at n bytes told (apart area 0 some) call)
          ∙ (fresh (block_at a.cur at) (left.each at interval-below)).items entries

      pub linked-done : (areas after : List (Option PartNo)) → least_free areas ≡ Some area
          → after ≢ areas → Only a (roster_block chain.part area)
          (λ (block : Block). block ≡ block_at a.cur (roster_block chain.part area))
          → IsExtended chain.part areas after a b
      linked-done areas after-areas least claimed stable = record {
        due = due-put part tells told a b n bytes call left below (area ∷ []) Own
            (λ owners area own. own) chain-own linked-room linked only after quiet;
        rests = λ owners grown grows rests. rests-put part tells told a b n bytes call left below
            (area ∷ []) Own (λ owners area own. own) chain-own linked-room linked only after owners
            grown rests
            (λ at own. own-grows part areas owners grown at grows own)
            (all-one (IsRestingArea part grown b) area (record {
              own = own-linked areas least owners grown grows;
              roster = λ block may. stable block
                  (⊎_elim (λ kept. kept) (λ put. absurd (roster-other put.0))
                  (call.adds told (roster_block part area) block roster-below may))
                  ∙ sym (cur-elsewhere tells a b (roster_block part area) n bytes told roster-other
                  call);
            }));
        stays = λ owners same rests. absurd (claimed same);
        tail = tail-keeps part a.cur b.cur (λ entries.
            items-more part a.cur b.cur (blocks-kept quiet) (area ∷ []) some more-linked.0
            more-linked.1 (most-used quiet) (none-linked entries));
      }
