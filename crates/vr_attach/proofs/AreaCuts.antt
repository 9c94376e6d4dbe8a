-- One area more in the chain: after the one at a position, which ends at the cut from then on.
use Rattle.std.proofs.Common.{◌≡◌, ◌<◌, ◌+◌, ◌-◌, ℕ, zero, suc, Bool, List, [], ◌∷◌}
use Rattle.std.proofs.Common.{◌++◌, ◌∙◌, ⊎_elim, Some, ap, arith, drop, get_or, length, refl}
use Rattle.std.proofs.Common.{eq-eqb, subst, sym, take}
use Rattle.std.specs.Prelude.{All, Contains, IfSome, IsTrue, cond, replicate}
use Rattle.std.specs.List.{insert, slice_get}
use Rattle.std.specs.List.Sorted.{IsPermutation, IsStrictlySortedBy}
use Rattle.std.specs.Ordering.{is_le}
use Rattle.std.specs.declared.cmp.Ordering.TheVariants.{Less}
use Rattle.std.proofs.Math.Seq.{split_at}
use Rattle.std.proofs.lemmas.Bool.{cases_lt, ne_eqb}
use Rattle.std.proofs.lemmas.Cmp.{nat_list_cmp_total}
use Rattle.std.proofs.lemmas.List.{append_assoc, drop-take, drop_at, get_or-drop, get_or-map}
use Rattle.std.proofs.lemmas.List.{get_or-take, length-map, map-append, take_at}
use Rattle.std.proofs.lemmas.List.{length-drop, length-take, length-take-le, length_push, take-take}
use Rattle.std.proofs.lemmas.List.{take_more}
use Rattle.std.proofs.lemmas.List.Edits.{insert-append_left}
use Rattle.std.proofs.lemmas.List.Elements.{All-append, All-cons, All-drop, All-from_recursion}
use Rattle.std.proofs.lemmas.List.Elements.{All-nil, All-take}
use Rattle.std.proofs.lemmas.List.Elements.{Contains-append_right}
use Rattle.std.proofs.lemmas.List.Elements.{recursion_from_All, All-head, All-tail}
use Rattle.std.proofs.lemmas.List.Sorted.{All-permutation, Contains-permutation}
use Rattle.std.proofs.lemmas.List.Sorted.{IsPermutation-insert, IsPermutation-to_front}
use Rattle.std.proofs.lemmas.List.Sorted.{IsPermutation-sym, IsPermutation-trans}
use Rattle.std.proofs.lemmas.List.Sorted.{length_permutation}
use Rattle.std.proofs.lemmas.Option.{get_or_from_slice_get, slice_get_within}
use Rattle.std.proofs.lemmas.Slice.{take-put_mid}
use borrow.Rule.Slice.PartMut.{mid_of, post_of, put_mid, same_len_mid}
use Rattle.vr_types.specs.Content.{place_cmp}
use Rattle.vr_types.specs.Geometry.{area_count}
use Rattle.vr_space.specs.Areas.{KeyedChain}
use Rattle.vr_space.specs.Moves.{with_area, with_end}
use Rattle.vr_space.specs.Part.{HoldsSame}
use Rattle.vr_space.proofs.CallerLemmas.{not_past}
use Rattle.vr_attach.specs.Areas.{AreEnds, AreWhole, AreasNow, IsAreaPosition, IsCut}
use Rattle.vr_attach.specs.Areas.{areas_seen, ends_seen, with_cut}
use Rattle.vr_attach.specs.declared.areas.AreaEnd.{AreaEnd}

-- ---- an element more

All-insert : {X : Type 0} (P : X → Type 0) (xs : List X) (i : ℕ) (x : X) → All P xs → P x
    → All P (insert xs i x)
All-insert P xs i x all more = All-permutation P (x ∷ xs) (insert xs i x)
    (IsPermutation-insert xs i x) (All-cons P x xs more all)

-- before the element after these, and after it
insert-before : {X : Type 0} (before after : List X) (x y : X) (i : ℕ) → length before ≡ i
    → insert (before ++ x ∷ after) i y ≡ before ++ y ∷ x ∷ after
insert-before {X} before after x y i many =
    ap (λ (some : List X). some ++ y ∷ drop i (before ++ x ∷ after))
    (take_at before (x ∷ after) i many)
    ∙ ap (λ (others : List X). before ++ y ∷ others) (drop_at before (x ∷ after) i many)

insert-after : {X : Type 0} (before after : List X) (x y : X) (i : ℕ) → length before ≡ i
    → insert (before ++ x ∷ after) (suc i) y ≡ before ++ x ∷ y ∷ after
insert-after [] after x y zero many = refl
insert-after [] after x y (suc i) many = absurd (omega (arith, many))
insert-after (first ∷ before) after x y zero many = absurd (omega (arith, many))
insert-after {X} (first ∷ before) after x y (suc i) many =
    ap (λ (more : List X). first ∷ more) (insert-after before after x y i (omega (arith, many)))

-- ---- the ends

-- those from this one on are past what ends before it
all-past : (ends : List (List ℕ)) (cut : List ℕ) (i : ℕ) → IsStrictlySortedBy place_cmp ends
    → IfSome (slice_get ends i) (λ (end : List ℕ). place_cmp cut end ≡ Less)
    → All (λ (end : List ℕ). place_cmp cut end ≡ Less) (drop i ends)
unfolding IsStrictlySortedBy
all-past [] cut zero sorted less = All-nil (λ (end : List ℕ). place_cmp cut end ≡ Less)
all-past [] cut (suc i) sorted less = All-nil (λ (end : List ℕ). place_cmp cut end ≡ Less)
all-past (end ∷ ends) cut zero sorted less =
    All-cons (λ (one : List ℕ). place_cmp cut one ≡ Less) end ends less
    (λ k d within. nat_list_cmp_total.trans cut end (get_or ends k d) less
    (All-from_recursion (λ (one : List ℕ). place_cmp end one ≡ Less) ends sorted.0 k d within))
all-past (end ∷ ends) cut (suc i) sorted less = all-past ends cut i sorted.1 less

-- so they ascend with a cut between one and the next
sorted-insert : (ends : List (List ℕ)) (cut : List ℕ) (i : ℕ) → IsStrictlySortedBy place_cmp ends
    → All (λ (end : List ℕ). place_cmp end cut ≡ Less) (take i ends)
    → All (λ (end : List ℕ). place_cmp cut end ≡ Less) (drop i ends)
    → IsStrictlySortedBy place_cmp (insert ends i cut)
unfolding IsStrictlySortedBy
sorted-insert [] cut zero sorted before past = (tt, tt)
sorted-insert [] cut (suc i) sorted before past = (tt, tt)
sorted-insert (end ∷ ends) cut zero sorted before past =
    (recursion_from_All (λ (one : List ℕ). place_cmp cut one ≡ Less) (end ∷ ends) past, sorted)
sorted-insert (end ∷ ends) cut (suc i) sorted before past = (
  recursion_from_All (λ (one : List ℕ). place_cmp end one ≡ Less) (insert ends i cut)
      (All-insert (λ (one : List ℕ). place_cmp end one ≡ Less) ends i cut
      (All-from_recursion (λ (one : List ℕ). place_cmp end one ≡ Less) ends sorted.0)
      (All-head (λ (one : List ℕ). place_cmp one cut ≡ Less) end (take i ends) before)),
  sorted-insert ends cut i sorted.1
      (All-tail (λ (one : List ℕ). place_cmp one cut ≡ Less) end (take i ends) before) past,
)

-- there is one position of a place
not-further : (ends : List (List ℕ)) (place : List ℕ) (n m : ℕ) → IsAreaPosition ends place n
    → IsAreaPosition ends place m → n < m → ⊥
not-further ends place n m one other further =
    let here : get_or (drop n ends) 0 [] ≡ get_or ends n [] = get_or-drop n ends 0 []
    ∙ ap (λ (k : ℕ). get_or ends k []) {x = n + 0} {y = n} (omega arith) in
    not_past place (get_or ends n [])
    (subst (λ (end : List ℕ). IsTrue (is_le (place_cmp place end))) here
    (one.past 0 [] (omega (arith, length-drop n ends, further, other.within))))
    (subst (λ (end : List ℕ). place_cmp end place ≡ Less) (get_or-take m ends n [] further)
    (other.before n [] (omega (arith, length-take m ends, further, other.within))))

same-position : (ends : List (List ℕ)) (place : List ℕ) (n m : ℕ)
    → IsAreaPosition ends place n → IsAreaPosition ends place m → n ≡ m
same-position ends place n m one other = ⊎_elim
    (λ less. absurd (not-further ends place n m one other less))
    (λ most. ⊎_elim (λ less. absurd (not-further ends place m n other one less))
    (λ least. omega arith) (cases_lt m n))
    (cases_lt n m)

-- ---- the areas

-- where the area at a position is the first of its number, the new one comes right after it
area-inserted : (area into : ℕ) (areas : List ℕ) (i : ℕ) → slice_get areas i ≡ Some area
    → (Contains (take i areas) area → ⊥) → with_area area into areas ≡ insert areas (suc i) into
area-inserted area into [] i is first = absurd (cc)
area-inserted area into (one ∷ areas) zero is first =
    ap (λ (here : Bool). cond here (one ∷ into ∷ areas) (one ∷ with_area area into areas))
    (eq-eqb one area (cc))
area-inserted area into (one ∷ areas) (suc i) is first =
    ap (λ (here : Bool). cond here (one ∷ into ∷ areas) (one ∷ with_area area into areas))
    (ne_eqb one area (λ same. first (0, omega arith, same)))
    ∙ ap (λ (more : List ℕ). one ∷ more)
    (area-inserted area into areas i is (λ has. first (Contains-append_right (one ∷ [])
    (take i areas) area has)))

-- and the cut right before where that one ended
end-inserted : (area : ℕ) (cut : List ℕ) (areas : List ℕ) (ends : List (List ℕ)) (i : ℕ)
    → length areas ≡ length ends → slice_get areas i ≡ Some area
    → (Contains (take i areas) area → ⊥) → with_end area cut areas ends ≡ insert ends i cut
end-inserted area cut [] ends i many is first = absurd (cc)
end-inserted area cut (one ∷ areas) [] i many is first = absurd (omega (arith, many))
end-inserted area cut (one ∷ areas) (end ∷ ends) zero many is first =
    ap (λ (here : Bool). cond here (cut ∷ end ∷ ends) (end ∷ with_end area cut areas ends))
    (eq-eqb one area (cc))
end-inserted area cut (one ∷ areas) (end ∷ ends) (suc i) many is first =
    ap (λ (here : Bool). cond here (cut ∷ end ∷ ends) (end ∷ with_end area cut areas ends))
    (ne_eqb one area (λ same. first (0, omega arith, same)))
    ∙ ap (λ (more : List (List ℕ)). end ∷ more)
    (end-inserted area cut areas ends i (omega (arith, many)) is
    (λ has. first (Contains-append_right (one ∷ []) (take i areas) area has)))

-- the chain with this one after the area at a position
abbrev pub inserted_at : AreasNow → ℕ → ℕ → List ℕ → AreasNow
inserted_at now i into cut = record now {
  areas = insert now.areas (suc i) into;
  ends = insert now.ends i cut;
}

-- what is a cut of it is one at its position
pub cut-read : (now : AreasNow) (area : ℕ) (cut : List ℕ) (i : ℕ) → IsCut now area cut
    → IsAreaPosition now.ends cut i → (slice_get now.areas i ≡ Some area)
    × IfSome (slice_get now.ends i) (λ (end : List ℕ). place_cmp cut end ≡ Less)
cut-read now area cut i is at =
    subst (λ (n : ℕ). (slice_get now.areas n ≡ Some area)
    × IfSome (slice_get now.ends n) (λ (end : List ℕ). place_cmp cut end ≡ Less))
    (same-position now.ends cut is.at i is.position at) (is.is, is.before)

pub cut-inserted : (now : AreasNow) (area into : ℕ) (cut : List ℕ) (i : ℕ)
    → length now.areas ≡ length now.ends → IsAreaPosition now.ends cut i → IsCut now area cut
    → inserted_at now i into cut ≡ with_cut now area into cut
cut-inserted now area into cut i many at is =
    let read : slice_get now.areas i ≡ Some area = (cut-read now area cut i is at).0 in
    let first : Contains (take i now.areas) area → ⊥ =
    subst (λ (n : ℕ). Contains (take n now.areas) area → ⊥)
    (same-position now.ends cut is.at i is.position at) is.first in
    ap (λ (areas : List ℕ). record now { areas = areas; ends = insert now.ends i cut })
    (sym (area-inserted area into now.areas i read first))
    ∙ ap (λ (ends : List (List ℕ)). record now {
      areas = with_area area into now.areas;
      ends = ends;
    })
    (sym (end-inserted area cut now.areas now.ends i many read first))

-- the same areas, and one more
pub holds-more : (areas : List ℕ) (i into : ℕ)
    → HoldsSame (areas ++ into ∷ []) (insert areas i into)
holds-more areas i into =
    let now : List ℕ = insert areas i into in
    let moved : IsPermutation (areas ++ into ∷ []) now =
    IsPermutation-trans (areas ++ into ∷ []) (into ∷ areas) now
    (IsPermutation-to_front areas into) (IsPermutation-insert areas i into) in
    record {
      many = length_permutation (areas ++ into ∷ []) now moved;
      kept = λ area. Contains-permutation (areas ++ into ∷ []) now area moved;
      none = λ area. Contains-permutation now (areas ++ into ∷ []) area
          (IsPermutation-sym (areas ++ into ∷ []) now moved);
    }

-- a whole chain stays whole: its last area stays the last
pub whole-inserted : (now : AreasNow) (i into : ℕ) (cut : List ℕ) → i < length now.ends
    → AreWhole now → AreWhole (inserted_at now i into cut)
whole-inserted now i into cut inside whole = record {
  first = Contains-permutation (into ∷ now.areas) (insert now.areas (suc i) into) now.part.first
      (IsPermutation-insert now.areas (suc i) into)
      (Contains-append_right (into ∷ []) now.areas now.part.first whole.first);
  before = insert whole.before i cut;
  last = ap (λ (all : List (List ℕ)). insert all i cut) whole.last
      ∙ insert-append_left whole.before (replicate now.part.key 255 ∷ []) i cut
      (omega (
        arith,
        inside,
        ap (λ (all : List (List ℕ)). length all) whole.last,
        length_push whole.before (replicate now.part.key 255),
      ));
}

-- ---- the entries

abbrev no_entry : AreaEnd
no_entry = record { area = 0; end = record { place = []; room = 0 } }

-- the chain of the entries of a part that are used
abbrev pub chain_seen : KeyedChain → List AreaEnd → ℕ → ℕ → AreasNow
chain_seen part entries used intervals = record {
  part = part;
  areas = areas_seen (take used entries);
  ends = ends_seen (take used entries);
  intervals = intervals;
}

-- The entries once the one at the position is cut in two, and the first that was spare comes before
-- it: they keep the rules, and the chain has one area more.
pub record IsInserted (part : KeyedChain) (entries now : List AreaEnd) (used i into : ℕ)
    (cut : List ℕ) : Type 0 where
  pub ready : AreEnds part now (used + 1)
  pub seen : (intervals : ℕ) → chain_seen part now (used + 1) intervals
      ≡ inserted_at (chain_seen part entries used intervals) i into cut

-- the position of one of the areas is that of an entry that is used
pub used-inside : (entries : List AreaEnd) (used i area : ℕ)
    → slice_get (areas_seen (take used entries)) i ≡ Some area → i < used
used-inside entries used i area is = omega (
  arith,
  slice_get_within (areas_seen (take used entries)) i area is,
  length-map (take used entries) (λ (one : AreaEnd). one.area),
  length-take used entries,
)

module _ (entries : List AreaEnd) (used i : ℕ) (inside : i < used) (spared : used < length entries)
  where
    abbrev first : AreaEnd
    first = get_or entries i no_entry

    abbrev spare : AreaEnd
    spare = get_or entries used no_entry

    abbrev between : List AreaEnd
    between = drop (suc i) (take used entries)

    used-parts : take used entries ≡ take i entries ++ first ∷ between
    used-parts =
        split_at (take used entries) i no_entry
        (omega (arith, inside, spared, length-take used entries))
        ∙ ap (λ (before : List AreaEnd). before ++ get_or (take used entries) i no_entry ∷ between)
        (take-take i used entries (omega (arith, inside)))
        ∙ ap (λ (one : AreaEnd). take i entries ++ one ∷ between)
        (get_or-take used entries i no_entry inside)

    -- those that are lent: from the one that is cut to the first spare one
    pub lent-parts : mid_of i (used + 1 - i) entries ≡ first ∷ between ++ spare ∷ []
    lent-parts =
        sym (drop-take i (used + 1 - i) entries)
        ∙ ap (λ (n : ℕ). drop i (take n entries)) {x = i + (used + 1 - i)} {y = used + 1}
        (omega (arith, inside))
        ∙ ap (drop i) (take_more entries used no_entry spared
        ∙ ap (λ (all : List AreaEnd). all ++ spare ∷ []) used-parts
        ∙ append_assoc (take i entries) (first ∷ between) (spare ∷ []))
        ∙ drop_at (take i entries) (first ∷ between ++ spare ∷ []) i
        (length-take-le i entries (omega (arith, inside, spared)))

    module _ (part : KeyedChain) (area into : ℕ) (cut : List ℕ) (lent now : List AreaEnd)
        (ends : AreEnds part entries used)
        (lent-is : lent ≡ record { area = area; end = record spare.end { place = cut } }
        ∷ record { area = into; end = first.end } ∷ between)
        (now-is : now ≡ put_mid i (used + 1 - i) entries lent)
        (is : slice_get (areas_seen (take used entries)) i ≡ Some area)
        (at : IsAreaPosition (ends_seen (take used entries)) cut i)
        (less : IfSome (slice_get (ends_seen (take used entries)) i)
        (λ (end : List ℕ). place_cmp cut end ≡ Less))
        (long : length cut ≡ part.key) (there : into < area_count part.geometry) where
      abbrev upper : AreaEnd
      upper = record { area = area; end = record spare.end { place = cut } }

      abbrev lower : AreaEnd
      lower = record { area = into; end = first.end }

      between-many : length between ≡ used - suc i
      between-many = length-drop (suc i) (take used entries)
          ∙ ap (λ (n : ℕ). n - suc i) (length-take-le used entries ends.within)

      before-many : length (take i entries) ≡ i
      before-many = length-take-le i entries (omega (arith, inside, spared))

      now-parts : take (used + 1) now ≡ take i entries ++ upper ∷ lower ∷ between
      now-parts =
          ap (take (used + 1)) now-is
          ∙ take-put_mid i (used + 1 - i) entries lent (used + 1)
          (omega (arith, ap (λ (all : List AreaEnd). length all) lent-is, between-many, inside))
          (omega (arith, inside, spared))
          ∙ ap (λ (all : List AreaEnd). take i entries ++ all) lent-is

      now-many : length now ≡ length entries
      now-many = ap (λ (all : List AreaEnd). length all) now-is
          ∙ same_len_mid i (used + 1 - i) entries lent
          (omega (
            arith,
            ap (λ (all : List AreaEnd). length all) lent-is,
            ap (λ (all : List AreaEnd). length all) lent-parts,
            length_push between spare,
          ))

      first-area : first.area ≡ area
      first-area =
          sym (get_or-map (λ (one : AreaEnd). one.area) (take used entries) i no_entry 0
          (omega (arith, inside, spared, length-take used entries))
          ∙ ap (λ (one : AreaEnd). one.area) (get_or-take used entries i no_entry inside))
          ∙ get_or_from_slice_get (areas_seen (take used entries)) i area 0 is

      areas-now : areas_seen (take (used + 1) now)
          ≡ insert (areas_seen (take used entries)) (suc i) into
      areas-now =
          let before : List ℕ = areas_seen (take i entries) in
          let after : List ℕ = areas_seen between in
          ap areas_seen now-parts
          ∙ map-append (λ (one : AreaEnd). one.area) (take i entries) (upper ∷ lower ∷ between)
          ∙ sym (ap (λ (all : List ℕ). insert all (suc i) into)
          (ap areas_seen used-parts
          ∙ map-append (λ (one : AreaEnd). one.area) (take i entries) (first ∷ between)
          ∙ ap (λ (one : ℕ). before ++ one ∷ after) first-area)
          ∙ insert-after before after area into i
          (length-map (take i entries) (λ (one : AreaEnd). one.area) ∙ before-many))

      ends-now : ends_seen (take (used + 1) now) ≡ insert (ends_seen (take used entries)) i cut
      ends-now =
          ap ends_seen now-parts
          ∙ map-append (λ (one : AreaEnd). one.end.place) (take i entries)
          (upper ∷ lower ∷ between)
          ∙ sym (ap (λ (all : List (List ℕ)). insert all i cut)
          (ap ends_seen used-parts
          ∙ map-append (λ (one : AreaEnd). one.end.place) (take i entries) (first ∷ between))
          ∙ insert-before (ends_seen (take i entries)) (ends_seen between) first.end.place cut i
          (length-map (take i entries) (λ (one : AreaEnd). one.end.place) ∙ before-many))

      wide : All (λ (one : AreaEnd). one.end.room ≡ part.key) now
      wide =
          let P : AreaEnd → Type 0 = λ one. one.end.room ≡ part.key in
          subst (All P) (sym now-is)
          (All-append P (take i entries) (lent ++ post_of i (used + 1 - i) entries)
          (All-take P i entries ends.room)
          (All-append P lent (post_of i (used + 1 - i) entries)
          (subst (All P) (sym lent-is)
          (All-cons P upper (lower ∷ between) (ends.room used no_entry spared)
          (All-cons P lower between (ends.room i no_entry (omega (arith, inside, spared)))
          (All-drop P (suc i) (take used entries) (All-take P used entries ends.room)))))
          (All-drop P (used + 1 - i) (drop i entries) (All-drop P i entries ends.room))))

      pub inserted : IsInserted part entries now used i into cut
      inserted = record {
        ready = record {
          within = omega (arith, now-many, spared);
          count = now-many ∙ ends.count;
          few = omega (arith, now-many, ends.few);
          room = wide;
          there = subst (All (λ (one : ℕ). one < area_count part.geometry)) (sym areas-now)
              (All-insert (λ (one : ℕ). one < area_count part.geometry)
              (areas_seen (take used entries)) (suc i) into ends.there there);
          places = subst (All (λ (one : List ℕ). length one ≡ part.key)) (sym ends-now)
              (All-insert (λ (one : List ℕ). length one ≡ part.key)
              (ends_seen (take used entries)) i cut ends.places long);
          ascend = subst (IsStrictlySortedBy place_cmp) (sym ends-now)
              (sorted-insert (ends_seen (take used entries)) cut i ends.ascend at.before
              (all-past (ends_seen (take used entries)) cut i ends.ascend less));
        };
        seen = λ intervals.
            ap (λ (areas : List ℕ).
            record (chain_seen part now (used + 1) intervals) { areas = areas })
            areas-now
            ∙ ap (λ (all : List (List ℕ)). record {
              part = part;
              areas = insert (areas_seen (take used entries)) (suc i) into;
              ends = all;
              intervals = intervals;
            }) ends-now;
      }
