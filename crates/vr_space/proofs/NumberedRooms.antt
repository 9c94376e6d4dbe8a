-- The intervals that the chain of an entry-sequenced or relative part has, and the room that is
-- kept for its records.
use Rattle.std.proofs.Common.{◌≡◌, ◌≢◌, ◌⊎◌, inl, inr, ⊎_elim, ◌<◌, ◌≤◌, ◌+◌, ◌-◌, ◌/◌, ◌%◌, ℕ}
use Rattle.std.proofs.Common.{zero, suc}
use Rattle.std.proofs.Common.{Bool, true, false, IsTrue, List, [], ◌∷◌, Option, Some, None, refl}
use Rattle.std.proofs.Common.{sym, ap, subst, ◌∙◌, arith, cond, nat_lt, true≢false}
use Rattle.std.specs.Prelude.{All, Contains, slice_index}
use Rattle.std.specs.Option.{option_map}
use Rattle.std.proofs.Math.Nat.{div-eq-sub-div, div-eq_of_lt, mod-eq-sub-mod, mod-eq_of_lt}
use Rattle.std.proofs.lemmas.Bool.{and_parts, lt-ltb, ltb-false, ltb-true}
use Rattle.std.proofs.lemmas.List.Elements.{All-contains, All-contains_itself, All-weaker}
use Rattle.std.proofs.lemmas.List.Elements.{recursion_from_All}
use Rattle.std.specs.List.{AllByRecursion}
use Rattle.std.specs.declared.cmp.Ordering.{Ordering}
use Rattle.std.specs.declared.cmp.Ordering.TheVariants.{Less, Equal, Greater}
use Rattle.vr_types.specs.Content.{Item, place_cmp}
use Rattle.vr_types.specs.Geometry.{area_count}
use Rattle.vr_types.specs.Image.{Block, Image, MayAlso, block_at}
use Rattle.vr_types.specs.Seen.{Left, Seen}
use Rattle.vr_types.proofs.CallerLemmas.{same_place}
use Rattle.vr_seqset.specs.Reading.{roster_in}
use Rattle.vr_space.specs.Entries.{item_length}
use Rattle.vr_space.specs.Keyed.{items_of}
use Rattle.vr_space.specs.Known.{Known}
use Rattle.vr_space.specs.Owners.{Owners}
use Rattle.vr_space.specs.Part.{CanSet, NumberedShape}
use Rattle.vr_space.specs.Room.{Lengths, length_at, length_by}
use Rattle.vr_space.specs.Rosters.{Chains, HasInterval, IsChained, IsGoingOn, IsInArea, IsNextOf}
use Rattle.vr_space.specs.Rosters.{IsOf, IsOwnArea, IsRosterOf, Numbered, after_next, areas_from}
use Rattle.vr_space.specs.Rosters.{chain_way, interval_in, roster_at, roster_block, used_from}
use Rattle.vr_space.specs.Rosters.{used_of}
use Rattle.vr_space.specs.Numbered.{HasKeptPlace, HasLengthBy, IsFilled, IsNumberPlace}
use Rattle.vr_space.specs.Numbered.{IsNumberedSound, KeepsNumbered, at_in, chain_block}
use Rattle.vr_space.specs.Numbered.{has_interval, interval_of, item_by, item_in, item_read}
use Rattle.vr_space.specs.Numbered.{numbered_way}
use Rattle.vr_space.specs.Way.{Found, MayFind, Way}
use Rattle.vr_space.proofs.Chains.{chain-less, interval-inside, roster-inside, used-most}
use Rattle.vr_space.proofs.PartBlocks.{IsPartBlock, area-owned}
use Rattle.vr_space.proofs.NumberedReads.{way-there}

-- ---- the next area

-- the chain goes on from the next area in another way
next-goes : (used whole : ℕ) (After Before Then : ℕ → Type 0) (next : Option ℕ)
    → IsNextOf used whole After next → IsGoingOn Before next
    → ((area : ℕ) → After area → Before area → Then area) → IsGoingOn Then next
next-goes used whole After Before Then None follows going step = going
next-goes used whole After Before Then (Some area) follows going step = step area follows.1 going

-- a next area stays, where there was one
next-stays : (Then : ℕ → Type 0) (before next : Option ℕ) → (before ≡ None) ⊎ (next ≡ before)
    → IsGoingOn Then before → IsGoingOn Then next
next-stays Then None next stays going = absurd going
next-stays Then (Some area) next stays going = ⊎_elim (λ none. absurd cc)
    (λ same. subst (IsGoingOn Then) (sym same) going) stays

-- ---- intervals of a chain

-- The roster has what one had that was allowed of the area: it may have more intervals used, and a
-- next area where there was none.
pub record GrowsTo (part : Numbered) (old : ℕ → Block → Type 0) (area : ℕ) (top : Block) : Type 0
  where
    pub before : Block
    pub allowed : old (roster_block part area) before
    pub used : (roster_in before).used ≤ (roster_in top).used
    pub next : ((roster_in before).next ≡ None) ⊎ ((roster_in top).next ≡ (roster_in before).next)

-- so has each roster of the area that is allowed now
abbrev pub GrowsFrom : Numbered → (ℕ → Block → Type 0) → (ℕ → Block → Type 0) → ℕ → Type 0
GrowsFrom part old new area = (top : Block) → new (roster_block part area) top
    → GrowsTo part old area top

-- as where it was allowed before
pub grows-same : (part : Numbered) (old : ℕ → Block → Type 0) (area : ℕ) (top : Block)
    → old (roster_block part area) top → GrowsTo part old area top
grows-same part old area top allowed =
    record { before = top; allowed = allowed; used = omega arith; next = inr refl }

-- Each content that is newly allowed of an interval that a roster of the area had as used has what
-- each had that was allowed of it before.
abbrev pub KeepsUsed : Numbered → (ℕ → Type 0) → (Block → Type 0) → (ℕ → Block → Type 0)
    → (ℕ → Block → Type 0) → Type 0
KeepsUsed part Own Has old new = (area : ℕ) → Own area → (top : Block)
    → old (roster_block part area) top → (i : ℕ) → i < (roster_in top).used
    → ((block : Block) → old (interval_in part area i) block → Has block)
    → (block : Block) → new (interval_in part area i) block → Has block

-- the same where it is known that what is allowed is a roster
abbrev KeepsRostered : Numbered → (ℕ → Type 0) → (Block → Type 0) → (ℕ → Block → Type 0)
    → (ℕ → Block → Type 0) → Type 0
KeepsRostered part Own Has old new = (area : ℕ) → Own area → (top : Block)
    → old (roster_block part area) top → IsRosterOf part top → (i : ℕ)
    → i < (roster_in top).used
    → ((block : Block) → old (interval_in part area i) block → Has block)
    → (block : Block) → new (interval_in part area i) block → Has block

grows-rostered : (part : Numbered) (Own : ℕ → Type 0) (Interval Has : Block → Type 0)
    (old new : ℕ → Block → Type 0) → ((area : ℕ) → Own area → GrowsFrom part old new area)
    → KeepsRostered part Own Has old new
    → (k n area : ℕ) → Chains part Own Interval old k area → HasInterval part Has old k n area
    → HasInterval part Has new k n area
grows-rostered part Own Interval Has old new grows keeps zero n area chain has = has
grows-rostered part Own Interval Has old new grows keeps (suc k) n area chain has = λ top may.
    let from = grows area chain.0 top may in
    let by = chain.1 from.before from.allowed in
    let further : ℕ = n - part.geometry.area in
    ⊎_elim (λ here. inl (
      omega (arith, here.0, from.used),
      keeps area chain.0 from.before from.allowed by.roster n here.0 here.1,
    ))
    (λ after. inr (
      after.0,
      next-stays (HasInterval part Has new k further) (roster_in from.before).next
          (roster_in top).next from.next
          (next-goes (roster_in from.before).used part.geometry.area
          (Chains part Own Interval old k) (HasInterval part Has old k further)
          (HasInterval part Has new k further) (roster_in from.before).next by.next after.1
          (λ next chained have. grows-rostered part Own Interval Has old new grows keeps k further
          next chained have)),
    ))
    (has from.before from.allowed)

-- A chain that grows keeps each interval that it had.
pub interval-grows : (part : Numbered) (Own : ℕ → Type 0) (Interval Has : Block → Type 0)
    (old new : ℕ → Block → Type 0) → ((area : ℕ) → Own area → GrowsFrom part old new area)
    → KeepsUsed part Own Has old new
    → (k n area : ℕ) → Chains part Own Interval old k area → HasInterval part Has old k n area
    → HasInterval part Has new k n area
interval-grows part Own Interval Has old new grows keeps =
    grows-rostered part Own Interval Has old new grows
    (λ area own top may roster. keeps area own top may)

-- The chain has the interval too where less is allowed of its areas.
pub interval-less : (part : Numbered) (Own : ℕ → Type 0) (Interval Has : Block → Type 0)
    (less more : ℕ → Block → Type 0)
    → ((area : ℕ) → Own area → (n : ℕ) → IsInArea part area n → (block : Block) → less n block
    → more n block)
    → (k n area : ℕ) → Chains part Own Interval more k area → HasInterval part Has more k n area
    → HasInterval part Has less k n area
interval-less part Own Interval Has less more each =
    grows-rostered part Own Interval Has more less
    (λ here own top may. grows-same part more here top
    (each here own (roster_block part here) (roster-inside part here) top may))
    (λ here own top may roster i below has block is. has block
    (each here own (interval_in part here i)
    (interval-inside part here i (omega (arith, below, used-most part top roster))) block is))

-- ---- the intervals that an image has

-- an interval of the chain in an image is one of those that are used
pub interval-used : (part : Numbered) (Own : ℕ → Type 0) (Interval Has : Block → Type 0)
    (image : Image) (k n area : ℕ) → Chains part Own Interval (IsOf image) k area
    → HasInterval part Has (IsOf image) k n area → n < used_from part image k area
interval-used part Own Interval Has image zero n area chain has = absurd has
interval-used part Own Interval Has image (suc k) n area chain has =
    let top : Block = block_at image (roster_block part area) in
    by_next (roster_in top).used (roster_in top).next (chain.1 top refl).next
    (⊎_elim (λ here. inl here.0) (λ going. inr going.1) (has top refl))
    (λ next chained have. interval-used part Own Interval Has image k (n - part.geometry.area) next
    chained have)
  where
    by_next : (used : ℕ) (next : Option ℕ)
        → IsNextOf used part.geometry.area (Chains part Own Interval (IsOf image) k) next
        → (n < used) ⊎ IsGoingOn (HasInterval part Has (IsOf image) k (n - part.geometry.area)) next
        → ((after : ℕ) → Chains part Own Interval (IsOf image) k after
        → HasInterval part Has (IsOf image) k (n - part.geometry.area) after
        → n - part.geometry.area < used_from part image k after)
        → n < used + after_next 0 (used_from part image k) next
    by_next used None follows has step = ⊎_elim (λ here. omega (arith, here))
        (λ going. absurd going) has
    by_next used (Some after) follows has step = ⊎_elim (λ here. omega (arith, here))
        (λ going. omega (arith, follows.0, step after follows.1 going)) has

-- the block of the interval of that number is one of the first area, or of a later one
block-first : (part : Numbered) (area n : ℕ) (rest : List ℕ) → n < part.geometry.area
    → chain_block part (area ∷ rest) n ≡ interval_in part area n
block-first part area n rest below =
    ap (λ (i : ℕ). interval_in part (slice_index (area ∷ rest) i) (n % part.geometry.area))
    (div-eq_of_lt below)
    ∙ ap (interval_in part area) (mod-eq_of_lt below)

block-later : (part : Numbered) (area n : ℕ) (rest : List ℕ) → 0 < part.geometry.area
    → part.geometry.area ≤ n
    → chain_block part (area ∷ rest) n ≡ chain_block part rest (n - part.geometry.area)
block-later part area n rest some past =
    let further : ℕ = n - part.geometry.area in
    let quotient : n / part.geometry.area ≡ suc (further / part.geometry.area) =
    omega (arith, div-eq-sub-div some past) in
    ap (λ (i : ℕ). interval_in part (slice_index (area ∷ rest) i) (n % part.geometry.area)) quotient
    ∙ ap (interval_in part (slice_index rest (further / part.geometry.area)))
    (mod-eq-sub-mod past)

-- and each of those is one, with what its block has
pub used-interval : (part : Numbered) (Own : ℕ → Type 0) (Interval Has : Block → Type 0)
    (image : Image) → 0 < part.geometry.area → (k n area : ℕ)
    → Chains part Own Interval (IsOf image) k area → n < used_from part image k area
    → Has (block_at image (chain_block part (areas_from part image k area) n))
    → HasInterval part Has (IsOf image) k n area
used-interval part Own Interval Has image some zero n area chain below has =
    absurd (omega (arith, below))
used-interval part Own Interval Has image some (suc k) n area chain below has = λ top is.
    subst (λ (block : Block). ((n < (roster_in block).used)
    × ((one : Block) → IsOf image (interval_in part area n) one → Has one))
    ⊎ ((part.geometry.area ≤ n)
    × IsGoingOn (HasInterval part Has (IsOf image) k further) (roster_in block).next))
    (sym is) (by_test (nat_lt n used) refl (roster_at part image area).next
    (chain.1 first refl).next below has
    (λ next chained less. used-interval part Own Interval Has image some k further next chained
    less))
  where
    first : Block
    first = block_at image (roster_block part area)

    used : ℕ
    used = (roster_at part image area).used

    further : ℕ
    further = n - part.geometry.area

    by_test : (test : Bool) → nat_lt n used ≡ test → (next : Option ℕ)
        → IsNextOf used part.geometry.area (Chains part Own Interval (IsOf image) k) next
        → n < used + after_next 0 (used_from part image k) next
        → Has (block_at image (chain_block part
        (area ∷ after_next [] (areas_from part image k) next) n))
        → ((after : ℕ) → Chains part Own Interval (IsOf image) k after
        → further < used_from part image k after
        → Has (block_at image (chain_block part (areas_from part image k after) further))
        → HasInterval part Has (IsOf image) k further after)
        → ((n < used) × ((one : Block) → IsOf image (interval_in part area n) one → Has one))
        ⊎ ((part.geometry.area ≤ n)
        × IsGoingOn (HasInterval part Has (IsOf image) k further) next)
    by_test true is next follows below there step =
        let within : n < used = ltb-true n used is in
        let at = block-first part area n (after_next [] (areas_from part image k) next)
        (omega (arith, within, used-most part first (chain.1 first refl).roster)) in
        inl (within, λ one here. subst Has (ap (block_at image) at ∙ sym here) there)
    by_test false is None follows below there step =
        absurd (omega (arith, below, ltb-false n used is))
    by_test false is (Some after) follows below there step =
        let past : part.geometry.area ≤ n = omega (arith, ltb-false n used is, follows.0) in
        inr (
          past,
          step after follows.1 (omega (arith, past, below, follows.0))
              (subst (λ (block : ℕ). Has (block_at image block))
              (block-later part area n (areas_from part image k after) some past) there),
        )

-- ---- the way finds it

-- Where each way finds an item, whatever is allowed of the rosters, the chain has the interval; and
-- what is allowed of this has what the items say that may be found there.
pub finds-interval : (part : Numbered) (Own : ℕ → Type 0) (Interval : Block → Type 0)
    (P : Option Item → Type 0) (Has : Block → Type 0)
    (may : ℕ → Block → Type 0) (reached : ℕ → Way) → (P None → ⊥)
    → ((m : ℕ) → ((item : Option Item) → MayFind may item (reached m) → P item) → (block : Block)
    → may m block → Has block)
    → (k n area : ℕ) → Chains part Own Interval may k area
    → ((item : Option Item) → MayFind may item (chain_way part reached k n area) → P item)
    → HasInterval part Has may k n area
finds-interval part Own Interval P Has may reached none says zero n area chain some =
    absurd chain
finds-interval part Own Interval P Has may reached none says (suc k) n area chain some =
    λ top may-top.
    by_test (nat_lt n (roster_in top).used) refl (roster_in top).next
    (chain.1 top may-top).next (λ item is. some item (top, may-top, is))
    (λ next chained found. finds-interval part Own Interval P Has may reached none says k
    (n - part.geometry.area) next chained found)
  where
    by_test : {used : ℕ} (test : Bool) → nat_lt n used ≡ test → (next : Option ℕ)
        → IsNextOf used part.geometry.area (Chains part Own Interval may k) next
        → ((item : Option Item) → MayFind may item
        (cond test (reached (interval_in part area n)) (after_next (Found None)
        (chain_way part reached k (n - part.geometry.area)) next)) → P item)
        → ((after : ℕ) → Chains part Own Interval may k after → ((item : Option Item)
        → MayFind may item (chain_way part reached k (n - part.geometry.area) after)
        → P item) → HasInterval part Has may k (n - part.geometry.area) after)
        → ((n < used) × ((block : Block) → may (interval_in part area n) block → Has block))
        ⊎ ((part.geometry.area ≤ n)
        × IsGoingOn (HasInterval part Has may k (n - part.geometry.area)) next)
    by_test {used} true is next follows found step =
        inl (ltb-true n used is, says (interval_in part area n) found)
    by_test false is None follows found step = absurd (none (found None refl))
    by_test {used} false is (Some after) follows found step =
        inr (omega (arith, ltb-false n used is, follows.0), step after follows.1 found)

-- ---- what is kept

-- a block has this length at a place that is kept
abbrev pub HasKeptLength : Numbered → List ℕ × ℕ → Block → Type 0
HasKeptLength part entry = HasLengthBy part.relative (at_in part entry.0) entry.1

-- a slot has any
pub slot-length : (part : Numbered) → part.relative ≡ true → (entry : List ℕ × ℕ) (block : Block)
    → HasKeptLength part entry block
slot-length part relative entry block =
    subst (λ (slots : Bool). HasLengthBy slots (at_in part entry.0) entry.1 block) (sym relative) tt

-- what has one of these contents has the length, where what had one of those had it
abbrev pub StaysLong : Numbered → (Block → Type 0) → (Block → Type 0) → List ℕ × ℕ → Type 0
StaysLong part Before After entry =
    ((block : Block) → Before block → HasKeptLength part entry block)
    → (block : Block) → After block → HasKeptLength part entry block

-- What is newly allowed of an interval that a roster of the part had as used keeps each length that
-- is kept and that was there before.
abbrev pub KeepsLengths : Numbered → (ℕ → Type 0) → Lengths → (ℕ → Block → Type 0)
    → (ℕ → Block → Type 0) → Type 0
KeepsLengths part Own kept old new = (area : ℕ) → Own area → (top : Block)
    → old (roster_block part area) top → IsRosterOf part top → (i : ℕ)
    → i < (roster_in top).used
    → All (StaysLong part (old (interval_in part area i)) (new (interval_in part area i))) kept

-- what is true of each entry is true of those that are kept
all-kept : (P : List ℕ × ℕ → Type 0) → ((entry : List ℕ × ℕ) → P entry) → (kept : Lengths)
    → All P kept
all-kept P each kept = All-weaker (Contains kept) P (λ entry among. each entry) kept
    (All-contains_itself kept)

-- In a relative part it does,
pub slots-keep : (part : Numbered) (Own : ℕ → Type 0) (kept : Lengths)
    (old new : ℕ → Block → Type 0) → part.relative ≡ true → KeepsLengths part Own kept old new
slots-keep part Own kept old new relative area own top may roster i below = all-kept
    (StaysLong part (old (interval_in part area i)) (new (interval_in part area i)))
    (λ entry had block is. slot-length part relative entry block) kept

-- and where nothing more is allowed of used intervals.
pub used-keep : (part : Numbered) (Own : ℕ → Type 0) (kept : Lengths)
    (old new : ℕ → Block → Type 0)
    → ((area : ℕ) → Own area → (top : Block) → old (roster_block part area) top
    → IsRosterOf part top → (i : ℕ) → i < (roster_in top).used → (block : Block)
    → new (interval_in part area i) block → old (interval_in part area i) block)
    → KeepsLengths part Own kept old new
used-keep part Own kept old new less area own top may roster i below = all-kept
    (StaysLong part (old (interval_in part area i)) (new (interval_in part area i)))
    (λ entry had block is. had block (less area own top may roster i below block is)) kept

-- Each place for which a record is kept keeps its interval as the chain grows,
pub numbered-grow : (part : Numbered) (Own : ℕ → Type 0) (Interval : Block → Type 0)
    (old new : ℕ → Block → Type 0) (kept : Lengths)
    → ((area : ℕ) → Own area → GrowsFrom part old new area)
    → KeepsLengths part Own kept old new
    → IsChained part Own Interval old → KeepsNumbered part kept old → KeepsNumbered part kept new
numbered-grow part Own Interval old new kept grows keeps chain room =
    All-weaker (Contains kept) (HasKeptPlace part new) (λ entry among.
    let has = All-contains (HasKeptPlace part old) kept entry room among in record {
      place = has.place;
      interval = grows-rostered part Own Interval (HasKeptLength part entry) old new grows
          (λ area own top may roster i below. All-contains
          (StaysLong part (old (interval_in part area i)) (new (interval_in part area i))) kept
          entry (keeps area own top may roster i below) among)
          (area_count part.geometry) (interval_of part entry.0) part.first chain has.interval;
    }) kept (All-contains_itself kept)

-- and where less is allowed of its areas.
pub numbered-less : (part : Numbered) (Own : ℕ → Type 0) (Interval : Block → Type 0)
    (less more : ℕ → Block → Type 0) (kept : Lengths)
    → ((area : ℕ) → Own area → (n : ℕ) → IsInArea part area n → (block : Block) → less n block
    → more n block)
    → IsChained part Own Interval more → KeepsNumbered part kept more → KeepsNumbered part kept less
numbered-less part Own Interval less more kept each chain room =
    All-weaker (HasKeptPlace part more) (HasKeptPlace part less) (λ entry has. record {
      place = has.place;
      interval = interval-less part Own Interval (HasKeptLength part entry) less more each
          (area_count part.geometry) (interval_of part entry.0) part.first chain has.interval;
    }) kept room

-- what is put has the length, where what is allowed of the block has it
abbrev pub PutsLong : Numbered → (Block → Type 0) → Block → List ℕ × ℕ → Type 0
PutsLong part Before bytes entry =
    ((block : Block) → Before block → HasKeptLength part entry block)
    → HasKeptLength part entry bytes

-- What is put into a used interval of the part keeps each length that is kept and that is there.
abbrev pub PutKeepsLengths : Numbered → Owners → Lengths → ℕ → Block → Seen → Type 0
PutKeepsLengths part owners kept n bytes now = (area : ℕ) → IsOwnArea part owners area
    → (top : Block) → now.may (roster_block part area) top → (i : ℕ) → i < (roster_in top).used
    → interval_in part area i ≡ n → All (PutsLong part (now.may n) bytes) kept

-- in a relative part it does
pub slots-put-keep : (part : Numbered) (owners : Owners) (kept : Lengths) (n : ℕ) (bytes : Block)
    (now : Seen) → part.relative ≡ true → PutKeepsLengths part owners kept n bytes now
slots-put-keep part owners kept n bytes now relative area own top may i below same = all-kept
    (PutsLong part (now.may n) bytes)
    (λ entry had. slot-length part relative entry bytes) kept

-- So does a put into a block, where a roster that it replaces grows: in what a crash may leave, and
-- in each image.
pub numbered-put : (part : Numbered) (owners : Owners) (kept : Lengths) (n : ℕ) (bytes : Block)
    (now : Seen) (new : ℕ → Block → Type 0) → IsNumberedSound part owners now
    → ((m : ℕ) (block : Block) → IsPartBlock (NumberedShape part) owners now m → new m block
    → MayAlso now.may n bytes m block)
    → ((area : ℕ) → IsOwnArea part owners area → roster_block part area ≡ n
    → GrowsTo part now.may area bytes)
    → PutKeepsLengths part owners kept n bytes now
    → KeepsNumbered part kept now.may → KeepsNumbered part kept new
numbered-put part owners kept n bytes now new sound adds grows keeps room =
    numbered-grow part (IsOwnArea part owners) (IsFilled part) now.may new kept
    (λ area own top may. ⊎_elim (λ old. grows-same part now.may area top old)
    (λ put. subst (GrowsTo part now.may area) (sym put.1) (grows area own put.0))
    (adds (roster_block part area) top
    (area-owned part owners now sound.on area own (roster_block part area)
    (roster-inside part area)) may))
    (λ area own top may roster i below. by_entry area own top may i below
    (area-owned part owners now sound.on area own (interval_in part area i)
    (interval-inside part area i (omega (arith, below, used-most part top roster)))))
    sound.chain room
  where
    by_entry : (area : ℕ) → IsOwnArea part owners area → (top : Block)
        → now.may (roster_block part area) top → (i : ℕ) → i < (roster_in top).used
        → IsPartBlock (NumberedShape part) owners now (interval_in part area i)
        → All (StaysLong part (now.may (interval_in part area i)) (new (interval_in part area i)))
        kept
    by_entry area own top may i below there =
        All-weaker (Contains kept)
        (StaysLong part (now.may (interval_in part area i)) (new (interval_in part area i)))
        (λ entry among had block is. ⊎_elim (had block)
        (λ put. subst (HasKeptLength part entry) (sym put.1)
        (All-contains (PutsLong part (now.may n) bytes) kept entry
        (keeps area own top may i below put.0) among
        (subst (λ (m : ℕ). (one : Block) → now.may m one → HasKeptLength part entry one) put.0
        had)))
        (adds (interval_in part area i) block there is)) kept (All-contains_itself kept)

-- Of a relative part the length that is kept counts for nothing.
pub any-length : (part : Numbered) → part.relative ≡ true → (may : ℕ → Block → Type 0)
    (first entry : List ℕ × ℕ) → entry.0 ≡ first.0 → HasKeptPlace part may first
    → HasKeptPlace part may entry
any-length part relative may first entry same has = record {
  place = subst (IsNumberPlace part) (sym same) has.place;
  interval = subst (λ (place : List ℕ). HasInterval part (HasKeptLength part entry) may
      (area_count part.geometry) (interval_of part place) part.first) (sym same)
      (by_relative part.relative relative has.interval);
}
  where
    by_relative : (slots : Bool) → slots ≡ true
        → HasInterval part (HasLengthBy slots (at_in part first.0) first.1) may
        (area_count part.geometry) (interval_of part first.0) part.first
        → HasInterval part (HasLengthBy slots (at_in part entry.0) entry.1) may
        (area_count part.geometry) (interval_of part first.0) part.first
    by_relative true is there = there
    by_relative false is there = absurd (true≢false (sym is))

-- the place of a length that is kept has its interval
pub place-kept : (part : Numbered) (may : ℕ → Block → Type 0) (kept : Lengths) (place : List ℕ)
    (n : ℕ) → KeepsNumbered part kept may → length_at kept place ≡ Some n
    → HasKeptPlace part may (place, n)
place-kept part may kept place n room is =
    among kept (recursion_from_All (HasKeptPlace part may) kept room) is
  where
    by_order : (order : Ordering) (entry : List ℕ × ℕ) (rest : Lengths)
        → place_cmp place entry.0 ≡ order → HasKeptPlace part may entry
        → length_by order entry.1 (length_at rest place) ≡ Some n
        → (length_at rest place ≡ Some n → HasKeptPlace part may (place, n))
        → HasKeptPlace part may (place, n)
    by_order Less entry rest at first is further = further is
    by_order Equal entry rest at first is further =
        let long : entry.1 ≡ n = cc in
        subst (λ (m : ℕ). HasKeptPlace part may (place, m)) long
        (subst (λ (at : List ℕ). HasKeptPlace part may (at, entry.1))
        (sym (same_place place entry.0 at)) first)
    by_order Greater entry rest at first is further = further is

    among : (lengths : Lengths) → AllByRecursion (HasKeptPlace part may) lengths
        → length_at lengths place ≡ Some n → HasKeptPlace part may (place, n)
    among [] all is = absurd cc
    among (entry ∷ rest) all is = by_order (place_cmp place entry.0) entry rest refl all.0 is
        (among rest all.1)

-- A place for which a record is kept has its interval.
pub kept-place-fits : (part : Numbered) (Own : ℕ → Type 0) (Interval : Block → Type 0)
    (image : Image) (kept : Lengths) (place : List ℕ) (n : ℕ)
    → IsChained part Own Interval (IsOf image) → KeepsNumbered part kept (IsOf image)
    → length_at kept place ≡ Some n → IsTrue (has_interval part image place)
kept-place-fits part Own Interval image kept place n chain room is =
    lt-ltb (interval_of part place) (used_of part image)
    (interval-used part Own Interval (HasKeptLength part (place, n)) image
    (area_count part.geometry) (interval_of part place) part.first chain
    (place-kept part (IsOf image) kept place n room is).interval)

-- A place at which a record may be set has its interval.
pub set-fits : (part : Numbered) (owners : Owners) (known : Known) (kept : Lengths)
    (place bytes : List ℕ) (now : Seen) → IsNumberedSound part owners now → Left now now.cur
    → KeepsNumbered part kept now.may
    → CanSet (NumberedShape part) known now.cur kept place (Some bytes)
    → IsTrue (has_interval part now.cur place)
set-fits part owners known kept place bytes now sound left room can =
    let current : (area : ℕ) → IsOwnArea part owners area → (n : ℕ) → IsInArea part area n
    → (block : Block) → IsOf now.cur n block → now.may n block =
    λ area own n inside block is. subst (now.may n) (sym is)
    (left.each n (area-owned part owners now sound.on area own n inside).0) in
    ⊎_elim (λ fits. (and_parts (has_interval part now.cur place) _ fits).0)
    (λ among. kept-place-fits part (IsOwnArea part owners) (IsFilled part) now.cur kept place
    among.0 (chain-less part (IsOwnArea part owners) (IsOwnArea part owners) (IsFilled part)
    (IsOf now.cur) now.may (λ area own. own) current (area_count part.geometry) part.first
    sound.chain)
    (numbered-less part (IsOwnArea part owners) (IsFilled part) (IsOf now.cur) now.may kept
    current sound.chain room) among.1)
    can.room

-- The item is one for which a record of this length may be kept: in a relative part any one, in an
-- entry-sequenced part one of that length.
abbrev pub IsKeptItem : Bool → ℕ → Option Item → Type 0
IsKeptItem true n item = item ≢ None
IsKeptItem false n item = option_map item_length item ≡ Some n

-- The place of a record that each way finds may be kept.
pub finds-place : (part : Numbered) (Own : ℕ → Type 0) (Interval : Block → Type 0)
    (may : ℕ → Block → Type 0) (place : List ℕ) (n : ℕ)
    → IsNumberPlace part place → IsChained part Own Interval may
    → ((item : Option Item) → MayFind may item (numbered_way part place)
    → IsKeptItem part.relative n item)
    → HasKeptPlace part may (place, n)
finds-place part Own Interval may place n numbered chain some = record {
  place = numbered;
  interval = finds-interval part Own Interval (IsKeptItem part.relative n)
      (HasKeptLength part (place, n)) may
      (item_read part (at_in part place)) (none part.relative)
      (λ m all block is. says part.relative block
      (all (item_in part (at_in part place) block) (block, is, refl)))
      (area_count part.geometry) (interval_of part place) part.first chain
      (λ item found. some item (subst (MayFind may item) (sym (way-there part place numbered))
      found));
}
  where
    none : (slots : Bool) → IsKeptItem slots n None → ⊥
    none true some = some refl
    none false some = absurd cc

    says : (slots : Bool) (block : Block)
        → IsKeptItem slots n (item_by slots (at_in part place) (items_of block))
        → HasLengthBy slots (at_in part place) n block
    says true block is = tt
    says false block is = is
