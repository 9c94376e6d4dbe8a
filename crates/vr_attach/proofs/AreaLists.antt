-- The areas of a part in memory: one more of them, and the first that does not end before a place.
use Rattle.std.proofs.Common.{◌≡◌, ◌<◌, ◌≤◌, ◌+◌, ◌^◌, ◌++◌, ℕ, zero, suc, Bool, true, false, List}
use Rattle.std.proofs.Common.{[]}
use Rattle.std.proofs.Common.{◌∷◌, length, Some, refl, sym, ap, subst, ◌∙◌, arith, get_or, take}
use Rattle.std.proofs.Common.{drop}
use Rattle.std.proofs.Common.{⊎_elim}
use Rattle.std.specs.Prelude.{All, IsTrue, cond, replicate, slice_set}
use Rattle.std.specs.List.{slice_get}
use Rattle.std.specs.List.Sorted.{IsPartitionPoint, IsPartitionedBy, IsStrictlySortedBy}
use Rattle.std.specs.Ordering.{is_le, is_lt}
use Rattle.std.specs.declared.cmp.Ordering.TheVariants.{Less}
use Rattle.std.proofs.lemmas.Bool.{cases_lt}
use Rattle.std.proofs.lemmas.Cmp.{nat_list_cmp_total}
use Rattle.std.proofs.lemmas.List.{drop-map, get_or-drop, get_or-map, get_or-take, length-drop}
use Rattle.std.proofs.lemmas.List.{length-map, length-set, length-take, length_push, map_push}
use Rattle.std.proofs.lemmas.List.{get_or_push, take-map, take_all, take_more_set}
use Rattle.std.proofs.lemmas.List.Elements.{All-from_recursion, All-head, All-map, All-nil}
use Rattle.std.proofs.lemmas.List.Elements.{All-push}
use Rattle.std.proofs.lemmas.List.Elements.{All-set, All-tail, recursion_from_All}
use Rattle.std.proofs.lemmas.Option.{slice_get-get_or}
use Rattle.vr_types.specs.Content.{place_cmp}
use Rattle.vr_types.specs.Geometry.{area_count}
use Rattle.vr_types.specs.PlaceBuffer.{PlaceRoom}
use Rattle.vr_space.specs.Areas.{KeyedChain, area_by}
use Rattle.vr_space.proofs.CallerLemmas.{lt_from_test, most-place, not_above, not_past}
use Rattle.vr_attach.specs.Areas.{AreEnds, AreWhole, AreasNow, IsAreaPosition, areas_seen}
use Rattle.vr_attach.specs.Areas.{ends_seen}
use Rattle.vr_attach.specs.declared.areas.AreaEnd.{AreaEnd}

-- ---- none yet

pub no-ends : (part : KeyedChain) (entries : List AreaEnd)
    → length entries ≡ area_count part.geometry → length entries < 2 ^ 32
    → All (λ (entry : AreaEnd). entry.end.room ≡ part.key) entries → AreEnds part entries 0
unfolding IsStrictlySortedBy
no-ends part entries count few room = record {
  within = omega arith;
  count = count;
  few = few;
  room = room;
  there = All-nil (λ (area : ℕ). area < area_count part.geometry);
  places = All-nil (λ (end : List ℕ). length end ≡ part.key);
  ascend = tt;
}

-- ---- one more

-- places that ascend, and one past each of them
pub sorted-push : (ends : List (List ℕ)) (end : List ℕ) → IsStrictlySortedBy place_cmp ends
    → All (λ (before : List ℕ). place_cmp before end ≡ Less) ends
    → IsStrictlySortedBy place_cmp (ends ++ end ∷ [])
unfolding IsStrictlySortedBy
sorted-push [] end sorted below = (tt, tt)
sorted-push (first ∷ ends) end sorted below = (
  recursion_from_All (λ (other : List ℕ). place_cmp first other ≡ Less) (ends ++ end ∷ [])
      (All-push (λ (other : List ℕ). place_cmp first other ≡ Less) ends end
      (All-from_recursion (λ (other : List ℕ). place_cmp first other ≡ Less) ends sorted.0)
      (All-head (λ (before : List ℕ). place_cmp before end ≡ Less) first ends below)),
  sorted-push ends end sorted.1
      (All-tail (λ (before : List ℕ). place_cmp before end ≡ Less) first ends below),
)

module _ (part : KeyedChain) (entries : List AreaEnd) (used area : ℕ) (end : PlaceRoom)
    (ends : AreEnds part entries used) (room : used < length entries) where
  abbrev entry : AreaEnd
  entry = record { area = area; end = end }

  abbrev now : List AreaEnd
  now = slice_set entries used entry

  -- what the used entries have then
  pub areas-more : areas_seen (take (used + 1) now) ≡ areas_seen (take used entries) ++ area ∷ []
  areas-more = ap areas_seen (take_more_set entries used entry room)
      ∙ map_push (λ (one : AreaEnd). one.area) (take used entries) entry

  pub ends-more : ends_seen (take (used + 1) now) ≡ ends_seen (take used entries) ++ end.place ∷ []
  ends-more = ap ends_seen (take_more_set entries used entry room)
      ∙ map_push (λ (one : AreaEnd). one.end.place) (take used entries) entry

  -- and they keep the rules
  pub are-ends-more : area < area_count part.geometry → length end.place ≡ part.key
      → end.room ≡ part.key
      → All (λ (before : List ℕ). place_cmp before end.place ≡ Less) (ends_seen (take used entries))
      → AreEnds part now (used + 1)
  are-ends-more there long wide later = record {
    within = omega (arith, length-set entries used entry, room);
    count = length-set entries used entry ∙ ends.count;
    few = omega (arith, length-set entries used entry, ends.few);
    room = All-set (λ (one : AreaEnd). one.end.room ≡ part.key) entries used entry wide ends.room;
    there = subst (All (λ (one : ℕ). one < area_count part.geometry)) (sym areas-more)
        (All-push (λ (one : ℕ). one < area_count part.geometry) (areas_seen (take used entries))
        area ends.there there);
    places = subst (All (λ (place : List ℕ). length place ≡ part.key)) (sym ends-more)
        (All-push (λ (place : List ℕ). length place ≡ part.key) (ends_seen (take used entries))
        end.place ends.places long);
    ascend = subst (IsStrictlySortedBy place_cmp) (sym ends-more)
        (sorted-push (ends_seen (take used entries)) end.place ends.ascend later);
  }

-- where fewer are used than the volume has, there is an entry more
pub used-room : (part : KeyedChain) (entries : List AreaEnd) (used : ℕ) → AreEnds part entries used
    → length (areas_seen (take used entries)) < area_count part.geometry → used < length entries
used-room part entries used ends fewer = omega (
  arith,
  fewer,
  ends.within,
  ends.count,
  length-map (take used entries) (λ (one : AreaEnd). one.area),
  length-take used entries,
)

-- ---- a used entry

module _ (part : KeyedChain) (entries : List AreaEnd) (used i : ℕ) (entry : AreaEnd)
    (ends : AreEnds part entries used) (inside : i < length (areas_seen (take used entries)))
    (is : entry ≡ get_or entries i entry) where
  used-many : length (areas_seen (take used entries)) ≡ length (take used entries)
  used-many = length-map (take used entries) (λ (one : AreaEnd). one.area)

  used-at : get_or (areas_seen (take used entries)) i 0 ≡ entry.area
  used-at =
      get_or-map (λ (one : AreaEnd). one.area) (take used entries) i entry 0
      (omega (arith, inside, used-many))
      ∙ ap (λ (one : AreaEnd). one.area)
      (get_or-take used entries i entry
      (omega (arith, inside, used-many, length-take used entries)))
      ∙ sym (ap (λ (one : AreaEnd). one.area) is)

  -- it is the area of that number,
  pub used-is : slice_get (areas_seen (take used entries)) i ≡ Some entry.area
  used-is = slice_get-get_or (areas_seen (take used entries)) i 0 inside
      ∙ ap (λ (area : ℕ). Some area) used-at

  -- and one of the volume
  pub used-there : entry.area < area_count part.geometry
  used-there = subst (λ (area : ℕ). area < area_count part.geometry) used-at
      (ends.there i 0 inside)

-- as many areas as ends
pub as-many : (entries : List AreaEnd) → length (areas_seen entries) ≡ length (ends_seen entries)
as-many entries = length-map entries (λ (one : AreaEnd). one.area)
    ∙ sym (length-map entries (λ (one : AreaEnd). one.end.place))

-- ---- the first that does not end before a place

-- whether an area ends before it
abbrev pub ends_before : List ℕ → AreaEnd → Bool
ends_before place entry = is_lt (place_cmp entry.end.place place)

less-before : (place : List ℕ) (one other : AreaEnd)
    → place_cmp one.end.place other.end.place ≡ Less → ends_before place other ≡ true
    → ends_before place one ≡ true
less-before place one other less before = ap is_lt (nat_list_cmp_total.trans one.end.place
    other.end.place place less (lt_from_test (place_cmp other.end.place place) before))

pub parted : (place : List ℕ) (entries : List AreaEnd)
    → IsStrictlySortedBy place_cmp (ends_seen entries) → IsPartitionedBy (ends_before place) entries
unfolding IsStrictlySortedBy
parted place [] sorted i j d most within before = absurd (omega (arith, within))
parted place (first ∷ entries) sorted zero zero d most within before = before
parted place (first ∷ entries) sorted zero (suc j) d most within before =
    let inside : j < length entries = omega (arith, within) in
    let later : place_cmp first.end.place (get_or (ends_seen entries) j []) ≡ Less =
    All-from_recursion (λ (other : List ℕ). place_cmp first.end.place other ≡ Less)
    (ends_seen entries) sorted.0 j []
    (omega (arith, inside, length-map entries (λ (one : AreaEnd). one.end.place))) in
    less-before place first (get_or entries j d)
    (sym (ap (place_cmp first.end.place)
    (get_or-map (λ (one : AreaEnd). one.end.place) entries j d [] inside)) ∙ later) before
parted place (first ∷ entries) sorted (suc i) zero d most within before =
    absurd (omega (arith, most))
parted place (first ∷ entries) sorted (suc i) (suc j) d most within before =
    parted place entries sorted.1 i j d (omega (arith, most)) (omega (arith, within)) before

-- so a search by halves finds the position
pub position-is : (place : List ℕ) (entries : List AreaEnd) (n : ℕ) → n ≤ length entries
    → IsPartitionPoint (λ (entry : AreaEnd). ends_before place entry ≡ true)
    (λ (entry : AreaEnd). ends_before place entry ≡ false) entries n
    → IsAreaPosition (ends_seen entries) place n
position-is place entries n within point = record {
  within = omega (arith, within, length-map entries (λ (one : AreaEnd). one.end.place));
  before = subst (All (λ (end : List ℕ). place_cmp end place ≡ Less))
      (sym (take-map (λ (one : AreaEnd). one.end.place) n entries))
      (All-map (λ (end : List ℕ). place_cmp end place ≡ Less)
      (λ (one : AreaEnd). one.end.place) (take n entries)
      (λ k d below.
      let less : k < n = omega (arith, below, length-take n entries) in
      subst (λ (one : AreaEnd). place_cmp one.end.place place ≡ Less)
      (sym (get_or-take n entries k d less))
      (lt_from_test (place_cmp (get_or entries k d).end.place place)
      (point.0 k d (omega arith) less))));
  past = subst (All (λ (end : List ℕ). IsTrue (is_le (place_cmp place end))))
      (sym (drop-map (λ (one : AreaEnd). one.end.place) n entries))
      (All-map (λ (end : List ℕ). IsTrue (is_le (place_cmp place end)))
      (λ (one : AreaEnd). one.end.place) (drop n entries)
      (λ k d below.
      subst (λ (one : AreaEnd). IsTrue (is_le (place_cmp place one.end.place)))
      (sym (get_or-drop n entries k d))
      (not_above (get_or entries (n + k) d).end.place place
      (point.1 (n + k) d (omega arith) (omega (arith, below, length-drop n entries))))));
}

-- ---- the area of a place

-- where the last of them ends at the greatest place, it is the position of one of them
pub position-below : (key : ℕ) (ends before : List (List ℕ)) (place : List ℕ) (n : ℕ)
    → ends ≡ before ++ replicate key 255 ∷ [] → length place ≡ key
    → ((i : ℕ) → get_or place i 0 < 256) → IsAreaPosition ends place n → n < length ends
position-below key ends before place n is long fits at = ⊎_elim (λ less. less)
    (λ most.
    let many : length ends ≡ length before + 1 =
    ap (λ (all : List (List ℕ)). length all) is ∙ length_push before (replicate key 255) in
    let whole : take n ends ≡ ends = take_all n ends most in
    let last : get_or (take n ends) (length before) [] ≡ replicate key 255 =
    ap (λ (all : List (List ℕ)). get_or all (length before) []) (whole ∙ is)
    ∙ get_or_push before (replicate key 255) [] (length before) refl in
    let inside : length before < length (take n ends) =
    omega (arith, many, ap (λ (all : List (List ℕ)). length all) whole) in
    absurd (not_past place (replicate key 255) (most-place place key long fits)
    (ap (λ (end : List ℕ). place_cmp end place) (sym last)
    ∙ at.before (length before) [] inside)))
    (cases_lt n (length ends))

-- and the area there is that whose end is the first at the place or past it
pub area-at-position : (areas : List ℕ) (ends : List (List ℕ)) (place : List ℕ) (n : ℕ)
    → length areas ≡ length ends → n < length ends → IsAreaPosition ends place n
    → area_by areas ends place ≡ slice_get areas n
area-at-position areas [] place n same within at = absurd (omega (arith, within))
area-at-position [] (end ∷ ends) place n same within at = absurd (omega (arith, same))
area-at-position (area ∷ areas) (end ∷ ends) place zero same within at =
    ap (λ (upto : Bool). cond upto (Some area) (area_by areas ends place))
    (at.past 0 [] (omega arith))
area-at-position (area ∷ areas) (end ∷ ends) place (suc n) same within at =
    by_test (is_le (place_cmp place end)) refl
    (area-at-position areas ends place n (omega (arith, same)) (omega (arith, within)) further)
  where
    further : IsAreaPosition ends place n
    further = record {
      within = omega (arith, at.within);
      before = All-tail (λ (one : List ℕ). place_cmp one place ≡ Less) end (take n ends) at.before;
      past = at.past;
    }

    by_test : (upto : Bool) → is_le (place_cmp place end) ≡ upto
        → area_by areas ends place ≡ slice_get areas n
        → cond upto (Some area) (area_by areas ends place) ≡ slice_get (area ∷ areas) (suc n)
    by_test true is more = absurd (not_past place end is (at.before 0 [] (omega arith)))
    by_test false is more = more

-- so it is where the entries that are used are those of a whole chain
module _ (now : AreasNow) (used : List AreaEnd) (areas-are : areas_seen used ≡ now.areas)
    (ends-are : ends_seen used ≡ now.ends) (place : List ℕ) (n : ℕ) (whole : AreWhole now)
    (long : length place ≡ now.part.key) (fits : (i : ℕ) → get_or place i 0 < 256)
    (at : IsAreaPosition now.ends place n) where
  below : n < length now.ends
  below = position-below now.part.key now.ends whole.before place n whole.last long fits at

  alike : length now.areas ≡ length now.ends
  alike = ap (λ (areas : List ℕ). length areas) (sym areas-are) ∙ as-many used
      ∙ ap (λ (ends : List (List ℕ)). length ends) ends-are

  pub position-inside : n < length (areas_seen used)
  position-inside = subst (λ (areas : List ℕ). n < length areas) (sym areas-are)
      (omega (arith, alike, below))

  pub position-area : area_by now.areas now.ends place ≡ slice_get (areas_seen used) n
  position-area = area-at-position now.areas now.ends place n alike below at
      ∙ ap (λ (areas : List ℕ). slice_get areas n) (sym areas-are)
