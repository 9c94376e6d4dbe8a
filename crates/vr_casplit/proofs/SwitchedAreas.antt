-- The areas of the chain once the old head is shortened, and where each ends: what is kept in
-- memory is right with the new area after the one that is split.
use Rattle.std.proofs.Common.{◌≡◌, ⊎_elim, ℕ, zero, suc, Bool, true, false, List, [], ◌∷◌}
use Rattle.std.proofs.Common.{Option, Some, None, map, refl, sym, ap, subst, ◌∙◌, arith, ◌+◌}
use Rattle.std.proofs.Common.{drop, length}
use Rattle.std.specs.Prelude.{Contains, cond, nat_eq}
use Rattle.std.proofs.lemmas.Bool.{cases_eq}
use Rattle.std.proofs.lemmas.Cmp.{nat_eq_equiv}
use Rattle.std.proofs.lemmas.List.{length-drop, length-take}
use Rattle.std.proofs.lemmas.Map.Views.{exact_unsigned_eq}
use Rattle.vr_types.specs.Geometry.{area_count}
use Rattle.vr_types.specs.Image.{Block, Image, block_at}
use Rattle.vr_types.specs.Seen.{Seen}
use Rattle.vr_seqset.specs.Entry.{Entry}
use Rattle.vr_seqset.specs.Reading.{record_in}
use Rattle.vr_space.specs.Areas.{KeyedChain, KnowsAreas, areas_after, areas_in}
use Rattle.vr_space.specs.Areas.{end_of, head_in, head_of, intervals_in}
use Rattle.vr_space.specs.Keyed.{HasEnds, entries_of}
use Rattle.vr_space.specs.Owners.{Owners}
use Rattle.vr_space.specs.Rosters.{after_next}
use Rattle.vr_space.proofs.CallerLemmas.{HasSameEnds, areas-kept, interval_count}
use Rattle.vr_space.proofs.CallerLemmas.{intervals-parted, resting-links, resting-stands, same-ends}
use Rattle.vr_space.specs.Moves.{cut_of, with_area, with_end}
use Rattle.vr_casplit.proofs.Fuel.{areas-alike, contains-first, contains-later, each-listed}
use Rattle.vr_casplit.proofs.Heads.{AreHeads, lower-end, lower-entries, lower-next, upper-end}
use Rattle.vr_casplit.proofs.Heads.{upper-entries, upper-next}
use Rattle.vr_casplit.proofs.SwitchedLinks.{IsBefore, IsPast, before-all, leads-before, leads-past}
use Rattle.vr_casplit.proofs.Switching.{CanSwitch, are-heads, differs, into-there, other-head}
use Rattle.vr_casplit.proofs.WrittenHeads.{length-numbered}

-- ---- lists of areas

same-number : (n : ℕ) → nat_eq n n ≡ true
same-number n = nat_eq_equiv.refl n

other-number : (one other : ℕ) → (one ≡ other → ⊥) → nat_eq one other ≡ false
other-number one other differ = by_test (nat_eq one other) refl
  where
    by_test : (test : Bool) → nat_eq one other ≡ test → nat_eq one other ≡ false
    by_test true same = absurd (differ (exact_unsigned_eq one other same))
    by_test false is = is

area-first : (area into : ℕ) (areas : List ℕ)
    → with_area area into (area ∷ areas) ≡ area ∷ into ∷ areas
area-first area into areas =
    ap (λ (test : Bool). cond test (area ∷ into ∷ areas) (area ∷ with_area area into areas))
    (same-number area)

area-later : (area into at : ℕ) (areas : List ℕ) → (at ≡ area → ⊥)
    → with_area area into (at ∷ areas) ≡ at ∷ with_area area into areas
area-later area into at areas differ =
    ap (λ (test : Bool). cond test (at ∷ into ∷ areas) (at ∷ with_area area into areas))
    (other-number at area differ)

map-same : (one other : ℕ → Option (List ℕ)) (areas : List ℕ)
    → ((at : ℕ) → Contains areas at → other at ≡ one at) → map other areas ≡ map one areas
map-same one other [] same = refl
map-same one other (area ∷ areas) same =
    ap (λ (end : Option (List ℕ)). end ∷ map other areas) (same area (contains-first area areas))
    ∙ ap (λ (ends : List (Option (List ℕ))). one area ∷ ends)
    (map-same one other areas (λ at has. same at (contains-later area at areas has)))

-- where they end, from the area that is split on
ends-here : (one other : ℕ → Option (List ℕ)) (area into : ℕ) (cut : List ℕ) (areas : List ℕ)
    (ends : List (List ℕ)) → map Some ends ≡ map one (area ∷ areas) → other area ≡ Some cut
    → other into ≡ one area → map other areas ≡ map one areas
    → map Some (with_end area cut (area ∷ areas) ends)
    ≡ map other (with_area area into (area ∷ areas))
ends-here one other area into cut areas [] is here there rest = absurd cc
ends-here one other area into cut areas (end ∷ ends) is here there rest =
    let first : Some end ≡ one area = cc in
    let others : map Some ends ≡ map one areas = cc in
    ap (λ (test : Bool).
    map Some (cond test (cut ∷ end ∷ ends) (end ∷ with_end area cut areas ends)))
    (same-number area)
    ∙ ap (λ (x : Option (List ℕ)). x ∷ Some end ∷ map Some ends) (sym here)
    ∙ ap (λ (x : Option (List ℕ)). other area ∷ x ∷ map Some ends) (first ∙ sym there)
    ∙ ap (λ (xs : List (Option (List ℕ))). other area ∷ other into ∷ xs) (others ∙ sym rest)
    ∙ sym (ap (map other) (area-first area into areas))

-- and from one before it
ends-there : (one other : ℕ → Option (List ℕ)) (area into at : ℕ) (cut : List ℕ) (areas : List ℕ)
    (ends : List (List ℕ)) → map Some ends ≡ map one (at ∷ areas) → (at ≡ area → ⊥)
    → other at ≡ one at
    → ((more : List (List ℕ)) → map Some more ≡ map one areas
    → map Some (with_end area cut areas more) ≡ map other (with_area area into areas))
    → map Some (with_end area cut (at ∷ areas) ends)
    ≡ map other (with_area area into (at ∷ areas))
ends-there one other area into at cut areas [] is differ same more = absurd cc
ends-there one other area into at cut areas (end ∷ ends) is differ same more =
    let first : Some end ≡ one at = cc in
    let others : map Some ends ≡ map one areas = cc in
    ap (λ (test : Bool).
    map Some (cond test (cut ∷ end ∷ ends) (end ∷ with_end area cut areas ends)))
    (other-number at area differ)
    ∙ ap (λ (x : Option (List ℕ)). x ∷ map Some (with_end area cut areas ends)) (first ∙ sym same)
    ∙ ap (λ (xs : List (Option (List ℕ))). other at ∷ xs) (more ends others)
    ∙ sym (ap (map other) (area-later area into at areas differ))

-- ---- the image

-- The image has the shortened head, and the other blocks as they were.
pub record IsShortened (part : KeyedChain) (area : ℕ) (lower : Block) (old new : Image) : Type 0
  where
    pub others : (n : ℕ) → (n ≡ head_of part area → ⊥) → block_at new n ≡ block_at old n
    pub here : head_in part new area ≡ lower

module _ (part : KeyedChain) (owners : Owners) (area into stay : ℕ) (old : Seen) (lower : Block)
    (can : CanSwitch part owners area into stay old lower) (new : Image)
    (short : IsShortened part area lower old.cur new) where
  abbrev before : Block
  before = head_in part old.cur area

  both : AreHeads part area into stay before lower can.moved.upper
  both = are-heads part owners area into stay old lower can

  abbrev Before : ℕ → ℕ → Option (List ℕ) → Type 0
  Before = IsBefore part owners area into stay old lower can

  -- ---- heads

  pub other-same : (at : ℕ) → (at ≡ area → ⊥) → head_in part new at ≡ head_in part old.cur at
  other-same at differ = short.others (head_of part at)
      (other-head part owners area into stay old lower can at differ (head_of part at)
      (omega arith, omega arith))

  pub into-is : head_in part new into ≡ can.moved.upper
  into-is = other-same into (differs part owners area into stay old lower can)
      ∙ can.moved.stable (head_in part old.cur into)
      (can.left.each (head_of part into)
      (omega (arith, into-there part owners area into stay old lower can)))

  here-next : (record_in (head_in part new area)).next ≡ Some into
  here-next = ap (λ (head : Block). (record_in head).next) short.here
      ∙ lower-next part area into stay before lower can.moved.upper both

  into-next : (record_in (head_in part new into)).next ≡ (record_in before).next
  into-next = ap (λ (head : Block). (record_in head).next) into-is
      ∙ upper-next part area into stay before lower can.moved.upper both

  here-end : end_of (head_in part new area) ≡ Some (cut_of stay (record_in before))
  here-end = ap end_of short.here
      ∙ lower-end part area into stay before lower can.moved.upper both

  into-end : end_of (head_in part new into) ≡ end_of before
  into-end = ap end_of into-is
      ∙ upper-end part area into stay before lower can.moved.upper both

  -- ---- its areas

  -- past the one that is split they are those that were there
  past-areas : (k at : ℕ) → IsPast part owners area into stay old lower can k at
      → areas_after part new k at ≡ areas_after part old.cur k at
  past-areas k at past = areas-kept part old.cur new k at
      (each-listed part old.cur (HasSameEnds part old.cur new) k at
      (λ one has. subst (HasEnds (head_in part old.cur one))
      (sym (other-same one (past.each one has).1)) (same-ends (head_in part old.cur one))))

  next-areas : (k : ℕ) (low : Option (List ℕ)) → Before (suc k) area low
      → after_next [] (areas_after part new k) (record_in before).next
      ≡ after_next [] (areas_after part old.cur k) (record_in before).next
  next-areas k low is_before = by_next (record_in before).next refl
    where
      by_next : (next : Option ℕ) → (record_in before).next ≡ next
          → after_next [] (areas_after part new k) next
          ≡ after_next [] (areas_after part old.cur k) next
      by_next None is = refl
      by_next (Some further) is = past-areas k further
          (leads-past part owners area into stay old lower can k k low is_before (omega arith)
          further is)

  -- from it on the new one is there too
  here-areas : (k : ℕ) (low : Option (List ℕ)) → Before (suc k) area low
      → areas_after part new (suc (suc k)) area
      ≡ with_area area into (areas_after part old.cur (suc k) area)
  here-areas k low is_before =
      ap (λ (next : Option ℕ). area ∷ after_next [] (areas_after part new (suc k)) next) here-next
      ∙ ap (λ (next : Option ℕ). area ∷ into ∷ after_next [] (areas_after part new k) next)
      into-next
      ∙ ap (λ (areas : List ℕ). area ∷ into ∷ areas) (next-areas k low is_before)
      ∙ sym (area-first area into
      (after_next [] (areas_after part old.cur k) (record_in before).next))

  before-areas : (k at : ℕ) (low : Option (List ℕ)) → Before k at low
      → areas_after part new (suc k) at ≡ with_area area into (areas_after part old.cur k at)
  before-areas zero at low is_before = absurd is_before.chain
  before-areas (suc k) at low is_before = ⊎_elim
      (λ same. subst (λ (one : ℕ). areas_after part new (suc (suc k)) one
      ≡ with_area area into (areas_after part old.cur (suc k) one)) (sym same)
      (here-areas k low (subst (λ (one : ℕ). Before (suc k) one low) same is_before)))
      (λ differ.
      let on = leads-before part owners area into stay old lower can k at low is_before differ in
      ap (λ (head : Block). at ∷ after_next [] (areas_after part new (suc k)) (record_in head).next)
      (other-same at differ)
      ∙ ap (λ (next : Option ℕ). at ∷ after_next [] (areas_after part new (suc k)) next) on.1
      ∙ ap (λ (areas : List ℕ). at ∷ areas)
      (before-areas k on.0 (end_of (head_in part old.cur at)) on.2)
      ∙ sym (area-later area into at (areas_after part old.cur k on.0) differ)
      ∙ ap (λ (next : Option ℕ).
      with_area area into (at ∷ after_next [] (areas_after part old.cur k) next)) (sym on.1))
      (cases_eq at area)

  -- so the chain has it after the one that is split
  areas-switched : (k : ℕ) → area_count part.geometry ≡ suc k
      → areas_in part new ≡ with_area area into (areas_in part old.cur)
  areas-switched k is =
      let is_before : Before k part.first None =
      before-all part owners area into stay old lower can k is in
      ap (λ (n : ℕ). areas_after part new n part.first) is
      ∙ before-areas k part.first None is_before
      ∙ ap (with_area area into)
      (sym (areas-alike part old.cur (area_count part.geometry) k part.first None None
      (resting-links part owners old can.rests can.left) is_before.chain))

  -- ---- how many intervals they lead to

  -- those that stay, and the others
  parted : interval_count part new area + interval_count part new into
      ≡ interval_count part old.cur area
  parted = omega (
    arith,
    ap (λ (head : Block). length (entries_of head)) short.here,
    ap (λ (entries : List Entry). length entries)
        (lower-entries part area into stay before lower can.moved.upper both),
    length-take stay (entries_of before),
    ap (λ (head : Block). length (entries_of head)) into-is,
    ap (λ (entries : List Entry). length entries)
        (upper-entries part area into stay before lower can.moved.upper both),
    length-numbered 0 (drop stay (entries_of before)),
    length-drop stay (entries_of before),
    can.fewer,
  )

  -- as many as before
  pub switched-count : (k : ℕ) → area_count part.geometry ≡ suc k
      → intervals_in part new ≡ intervals_in part old.cur
  switched-count k is = intervals-parted part old.cur new area into
      (resting-stands part owners old can.rests can.left) (areas-switched k is) can.inside parted
      (λ at there differ. ap (λ (head : Block). length (entries_of head)) (other-same at differ))

  -- ---- where they end

  abbrev end_before : ℕ → Option (List ℕ)
  end_before at = end_of (head_in part old.cur at)

  abbrev end_now : ℕ → Option (List ℕ)
  end_now at = end_of (head_in part new at)

  next-ends : (k : ℕ) (low : Option (List ℕ)) → Before (suc k) area low
      → map end_now (after_next [] (areas_after part old.cur k) (record_in before).next)
      ≡ map end_before (after_next [] (areas_after part old.cur k) (record_in before).next)
  next-ends k low is_before = by_next (record_in before).next refl
    where
      by_next : (next : Option ℕ) → (record_in before).next ≡ next
          → map end_now (after_next [] (areas_after part old.cur k) next)
          ≡ map end_before (after_next [] (areas_after part old.cur k) next)
      by_next None is = refl
      by_next (Some further) is =
          let past = leads-past part owners area into stay old lower can k k low is_before
          (omega arith) further is in
          map-same end_before end_now (areas_after part old.cur k further)
          (λ one has. ap end_of (other-same one (past.each one has).1))

  before-ends : (k at : ℕ) (low : Option (List ℕ)) → Before k at low → (ends : List (List ℕ))
      → map Some ends ≡ map end_before (areas_after part old.cur k at)
      → map Some (with_end area (cut_of stay (record_in before))
      (areas_after part old.cur k at) ends)
      ≡ map end_now (with_area area into (areas_after part old.cur k at))
  before-ends zero at low is_before ends is = absurd is_before.chain
  before-ends (suc k) at low is_before ends is = ⊎_elim
      (λ same. subst
      (λ (one : ℕ). map Some ends ≡ map end_before (areas_after part old.cur (suc k) one)
      → map Some (with_end area (cut_of stay (record_in before))
      (areas_after part old.cur (suc k) one) ends)
      ≡ map end_now (with_area area into (areas_after part old.cur (suc k) one))) (sym same)
      (λ ends_are. ends-here end_before end_now area into (cut_of stay (record_in before))
      (after_next [] (areas_after part old.cur k) (record_in before).next) ends ends_are here-end
      into-end
      (next-ends k low (subst (λ (one : ℕ). Before (suc k) one low) same is_before)))
      is)
      (λ differ.
      let on = leads-before part owners area into stay old lower can k at low is_before differ in
      subst
      (λ (next : Option ℕ).
      map Some ends ≡ map end_before (at ∷ after_next [] (areas_after part old.cur k) next)
      → map Some (with_end area (cut_of stay (record_in before))
      (at ∷ after_next [] (areas_after part old.cur k) next) ends)
      ≡ map end_now (with_area area into (at ∷ after_next [] (areas_after part old.cur k) next)))
      (sym on.1)
      (λ ends_are. ends-there end_before end_now area into at
      (cut_of stay (record_in before)) (areas_after part old.cur k on.0) ends ends_are differ
      (ap end_of (other-same at differ))
      (before-ends k on.0 (end_of (head_in part old.cur at)) on.2))
      is)
      (cases_eq at area)

  -- So what is kept in memory is right with the new area.
  pub knows-switched : (k : ℕ) → area_count part.geometry ≡ suc k → (areas : List ℕ)
      (ends : List (List ℕ)) → KnowsAreas part areas ends old.cur
      → KnowsAreas part (with_area area into areas)
      (with_end area (cut_of stay (record_in before)) areas ends) new
  knows-switched k is areas ends knows =
      let is_before : Before k part.first None =
      before-all part owners area into stay old lower can k is in
      let same : areas ≡ areas_after part old.cur k part.first =
      knows.areas_are
      ∙ areas-alike part old.cur (area_count part.geometry) k part.first None None
      (resting-links part owners old can.rests can.left) is_before.chain in
      record {
        areas_are = ap (with_area area into) knows.areas_are ∙ sym (areas-switched k is);
        ends_are = subst
            (λ (all : List ℕ).
            map Some (with_end area (cut_of stay (record_in before)) all ends)
            ≡ map end_now (with_area area into all)) (sym same)
            (before-ends k part.first None is_before ends
            (knows.ends_are ∙ ap (map end_before) same));
      }
