-- The way to a place while the old head and the shortened one may be left: what may be found on it
-- might be found on the old one.
use Rattle.std.proofs.Common.{◌≡◌, ⊎_elim, ℕ, zero, suc, ◌≤◌, Bool, true, false, List}
use Rattle.std.proofs.Common.{Option, Some, None, refl, sym, subst, arith}
use Rattle.std.specs.Prelude.{Contains, cond}
use Rattle.std.proofs.lemmas.Bool.{cases_eq}
use Rattle.vr_types.specs.Content.{Item}
use Rattle.vr_types.specs.Geometry.{area_count}
use Rattle.vr_types.specs.Image.{Block}
use Rattle.vr_types.specs.Seen.{Seen}
use Rattle.vr_seqset.specs.Entry.{Entry}
use Rattle.vr_seqset.specs.Reading.{record_in}
use Rattle.vr_space.specs.AreaCalls.{MayHoldHere}
use Rattle.vr_space.specs.Areas.{KeyedChain, area_after, area_for, area_of, areas_in, areas_way}
use Rattle.vr_space.specs.Areas.{chain_way, end_of, head_in, head_of, reaches, way_past}
use Rattle.vr_space.specs.Keyed.{area_way, entry_block, entry_in, way_in, way_under}
use Rattle.vr_space.specs.Owners.{Owners}
use Rattle.vr_space.specs.Room.{Range}
use Rattle.vr_space.specs.Rosters.{after_next}
use Rattle.vr_space.specs.Way.{Found, MayFind}
use Rattle.vr_space.proofs.CallerLemmas.{IsBlock, IsResting, KeepsHead, MayHoldBy, find-less}
use Rattle.vr_space.proofs.CallerLemmas.{found-in}
use Rattle.vr_space.proofs.CallerLemmas.{keyed-within, resting-links, ways-down, within-less}
use Rattle.vr_casplit.proofs.Fuel.{area-alike, area-listed, contains-first, each-listed}
use Rattle.vr_casplit.proofs.Heads.{AreHeads, lower-next, lower-reached, lower-way, upper-next}
use Rattle.vr_casplit.proofs.Heads.{upper-reach}
use Rattle.vr_casplit.proofs.Heads.{upper-way}
use Rattle.vr_casplit.proofs.SwitchedLinks.{IsBefore, IsPast, before-all, leads-before, leads-past}
use Rattle.vr_casplit.proofs.SwitchedLinks.{other-ends, other-only, rests-inside}
use Rattle.vr_casplit.proofs.Switching.{CanSwitch, Narrows, are-heads, copied, here, other-head}
use Rattle.vr_casplit.proofs.Switching.{top-head, upper-only}

module _ (part : KeyedChain) (owners : Owners) (area into stay : ℕ) (old : Seen) (lower : Block)
    (can : CanSwitch part owners area into stay old lower) (may less : ℕ → Block → Type 0)
    (narrows : Narrows part area lower old may less) (place : List ℕ) (item : Option Item) where
  abbrev before : Block
  before = head_in part old.cur area

  abbrev upper : Block
  upper = can.moved.upper

  both : AreHeads part area into stay before lower upper
  both = are-heads part owners area into stay old lower can

  abbrev Before : ℕ → ℕ → Option (List ℕ) → Type 0
  Before = IsBefore part owners area into stay old lower can

  abbrev Past : ℕ → ℕ → Type 0
  Past = IsPast part owners area into stay old lower can

  abbrev Held : Option ℕ → Type 0
  Held = MayHoldBy part old.cur less place item

  -- ---- in one area

  resting : (at : ℕ) → Contains (areas_in part old.cur) at → IsResting part owners old at
  resting = rests-inside part owners area into stay old lower can

  -- What may be held in another area at rest might be held,
  other-held : (at : ℕ) → IsResting part owners old at → (at ≡ area → ⊥)
      → MayHoldHere (area_of part at) may place item → MayHoldHere (area_of part at) less place item
  other-held at rests differ = find-less (IsBlock (area_of part at) old) may less item
      (λ n block is held. narrows.others n block is.0
      (other-head part owners area into stay old lower can at differ n is.1) held)
      (area_way (area_of part at) place)
      (within-less (IsBlock (area_of part at) old) less old.may
      (λ n block is. narrows.allowed n block is.0) (area_way (area_of part at) place)
      (keyed-within (area_of part at) old rests.1 place))

  -- and so might what may be found under the old head of the area that is split.
  under-held : MayFind may item (way_under (area_of part area) place before)
      → MayHoldHere (area_of part area) less place item
  under-held found = (
    before,
    narrows.current (head_of part area) (omega (
      arith,
      (here part owners area into stay old lower
          can).1.area,
    )),
    by_found (entry_in before place) refl found,
  )
    where
      by_found : (at : Option (Range × Entry)) → entry_in before place ≡ at
          → MayFind may item (way_in (area_of part area) place at)
          → MayFind less item (way_in (area_of part area) place at)
      by_found None is held = held
      by_found (Some at) is held =
          let within = found-in (area_of part area) before place at
          (top-head part owners area into stay old lower can) is in (
            held.0,
            narrows.others (entry_block (area_of part area) at.1) held.0
                (omega (arith, within, (here part owners area into stay old lower can).1.area))
                (λ same. omega (arith, same)) held.1,
            held.2,
          )

  -- ---- past the area that is split

  past-held : (k at : ℕ) → Past k at → MayFind may item (areas_way part place k at)
      → Held (area_after part old.cur place k at)
  past-held k at past found = by_found (area_after part old.cur place k at) refl
      (ways-down part old.cur may place item k at
      (each-listed part old.cur (KeepsHead part old.cur may) k at
      (λ one has. let is = past.each one has in
      other-ends part owners area into stay old lower can may less narrows one (resting one is.0)
      is.1))
      found)
    where
      by_found : (to : Option ℕ) → area_after part old.cur place k at ≡ to
          → MayHoldBy part old.cur may place item to → Held to
      by_found None is held = held
      by_found (Some to) is held =
          let there = past.each to (area-listed part old.cur place k at to is) in
          other-held to (resting to there.0) there.1 held

  -- whatever more areas it may take
  next-held : (k n : ℕ) (low : Option (List ℕ)) → Before (suc k) area low → k ≤ n
      → MayFind may item (after_next (Found None) (areas_way part place n) (record_in before).next)
      → Held (after_next None (area_after part old.cur place k) (record_in before).next)
  next-held k n low is_before most = by_next (record_in before).next refl
    where
      by_next : (next : Option ℕ) → (record_in before).next ≡ next
          → MayFind may item (after_next (Found None) (areas_way part place n) next)
          → Held (after_next None (area_after part old.cur place k) next)
      by_next None is found = found
      by_next (Some further) is found =
          let wider = leads-past part owners area into stay old lower can k n low is_before most
          further is in
          let same = leads-past part owners area into stay old lower can k k low is_before
          (omega arith) further is in
          subst Held (area-alike part old.cur place n k further (end_of before) (end_of before)
          wider.chain same.chain) (past-held n further wider found)

  -- ---- at the area that is split

  -- where the old head reaches the place, or the areas after it
  abbrev Here : ℕ → Bool → Type 0
  Here k test = Held (cond test (Some area)
      (after_next None (area_after part old.cur place k) (record_in before).next))

  old-held : (k : ℕ) (low : Option (List ℕ)) → Before (suc k) area low
      → MayFind may item (way_past part place area (areas_way part place (suc k)) before)
      → Here k (reaches before place)
  old-held k low is_before = by_test (reaches before place)
    where
      by_test : (test : Bool)
          → MayFind may item (cond test (way_under (area_of part area) place before)
          (after_next (Found None) (areas_way part place (suc k)) (record_in before).next))
          → Here k test
      by_test true found = under-held found
      by_test false found = next-held k (suc k) low is_before (omega arith) found

  -- over the new area, where the shortened one doesn't reach it
  upper-held : (k : ℕ) (low : Option (List ℕ)) → Before (suc k) area low
      → reaches lower place ≡ false → MayFind may item (areas_way part place (suc k) into)
      → Here k (reaches before place)
  upper-held k low is_before past (head, held, found) =
      by_test (reaches before place)
      (subst (λ (next : Option ℕ). MayFind may item (cond (reaches before place)
      (way_under (area_of part into) place upper)
      (after_next (Found None) (areas_way part place k) next)))
      (upper-next part area into stay before lower upper both)
      (subst (λ (test : Bool). MayFind may item (cond test
      (way_under (area_of part into) place upper)
      (after_next (Found None) (areas_way part place k) (record_in upper).next)))
      (upper-reach part area into stay before lower upper both place)
      (subst (λ (one : Block). MayFind may item
      (way_past part place into (areas_way part place k) one))
      (upper-only part owners area into stay old lower can may less narrows head held) found)))
    where
      by_test : (test : Bool)
          → MayFind may item (cond test (way_under (area_of part into) place upper)
          (after_next (Found None) (areas_way part place k) (record_in before).next))
          → Here k test
      by_test true there = (
        before,
        narrows.current (head_of part area) (omega (
          arith,
          (here part owners area into stay old lower
              can).1.area,
        )),
        upper-way part area into stay before lower upper both may less place item
            (copied part owners area into stay old lower can may less narrows) past there,
      )
      by_test false there = next-held k k low is_before (omega arith) there

  lower-held : (k : ℕ) (low : Option (List ℕ)) → Before (suc k) area low
      → MayFind may item (way_past part place area (areas_way part place (suc k)) lower)
      → Here k (reaches before place)
  lower-held k low is_before = by_test (reaches lower place) refl
    where
      by_test : (test : Bool) → reaches lower place ≡ test
          → MayFind may item (cond test (way_under (area_of part area) place lower)
          (after_next (Found None) (areas_way part place (suc k)) (record_in lower).next))
          → Here k (reaches before place)
      by_test true upto found = subst (Here k)
          (sym (lower-reached part area into stay before lower upper both place upto))
          (under-held (subst (MayFind may item)
          (lower-way part area into stay before lower upper both place upto) found))
      by_test false past found = upper-held k low is_before past
          (subst (λ (next : Option ℕ).
          MayFind may item (after_next (Found None) (areas_way part place (suc k)) next))
          (lower-next part area into stay before lower upper both) found)

  area-held : (k : ℕ) (low : Option (List ℕ)) → Before (suc k) area low
      → MayFind may item (areas_way part place (suc (suc k)) area)
      → Held (area_after part old.cur place (suc k) area)
  area-held k low is_before (head, held, found) = ⊎_elim
      (λ same. old-held k low is_before (subst
      (λ (one : Block). MayFind may item
      (way_past part place area (areas_way part place (suc k)) one)) same found))
      (λ new. lower-held k low is_before (subst
      (λ (one : Block). MayFind may item
      (way_past part place area (areas_way part place (suc k)) one)) new found))
      (narrows.heads head held)

  -- ---- from each area before it

  before-held : (k at : ℕ) (low : Option (List ℕ)) → Before k at low
      → MayFind may item (areas_way part place (suc k) at)
      → Held (area_after part old.cur place k at)
  before-held zero at low is_before found = absurd is_before.chain
  before-held (suc k) at low is_before (head, held, found) = ⊎_elim
      (λ same. subst (λ (one : ℕ). MayFind may item (areas_way part place (suc (suc k)) one)
      → Held (area_after part old.cur place (suc k) one)) (sym same)
      (area-held k low (subst (λ (one : ℕ). Before (suc k) one low) same is_before))
      (head, held, found))
      (λ differ.
      let rests = resting at (is_before.each at (contains-first at _)) in
      let only : head ≡ head_in part old.cur at =
      other-only part owners area into stay old lower can may less narrows at rests differ head
      held in
      let on = leads-before part owners area into stay old lower can k at low is_before differ in
      subst (λ (next : Option ℕ). Held (cond (reaches (head_in part old.cur at) place) (Some at)
      (after_next None (area_after part old.cur place k) next))) (sym on.1)
      (by_test on.0 rests differ (reaches (head_in part old.cur at) place)
      (subst (λ (next : Option ℕ). MayFind may item
      (cond (reaches (head_in part old.cur at) place)
      (way_under (area_of part at) place (head_in part old.cur at))
      (after_next (Found None) (areas_way part place (suc k)) next))) on.1
      (subst (λ (one : Block). MayFind may item
      (way_past part place at (areas_way part place (suc k)) one)) only found))
      (subst (may (head_of part at)) only held)
      (λ later. before-held k on.0 (end_of (head_in part old.cur at)) on.2 later)))
      (cases_eq at area)
    where
      by_test : (further : ℕ) → IsResting part owners old at → (at ≡ area → ⊥) → (test : Bool)
          → MayFind may item (cond test
          (way_under (area_of part at) place (head_in part old.cur at))
          (areas_way part place (suc k) further))
          → may (head_of part at) (head_in part old.cur at)
          → (MayFind may item (areas_way part place (suc k) further)
          → Held (area_after part old.cur place k further))
          → Held (cond test (Some at) (area_after part old.cur place k further))
      by_test further rests differ true there allowed more =
          other-held at rests differ (head_in part old.cur at, allowed, there)
      by_test further rests differ false there allowed more = more there

  -- So what a place may hold now it might hold in the area that it came to.
  pub way-switched : (k : ℕ) → area_count part.geometry ≡ suc k
      → MayFind may item (chain_way part place)
      → MayHoldBy part old.cur less place item (area_for part old.cur place)
  way-switched k is found =
      let is_before : Before k part.first None =
      before-all part owners area into stay old lower can k is in
      subst Held
      (area-alike part old.cur place k (area_count part.geometry) part.first None None
      is_before.chain (resting-links part owners old can.rests can.left))
      (before-held k part.first None is_before
      (subst (λ (n : ℕ). MayFind may item (areas_way part place n part.first)) is found))
