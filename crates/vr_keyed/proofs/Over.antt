-- Searching over the areas of a part and asking each for its room, from what is so of one area.
use Rattle.std.proofs.Common.{◌≡◌, ◌≤◌, ◌+◌, ◌↔◌, ℕ, zero, suc, Bool, true, false, IsTrue}
use Rattle.std.proofs.Common.{List, [], ◌∷◌, ◌++◌, length, take, drop, Option, Some, None, All, map}
use Rattle.std.proofs.Common.{refl, sym, ap, subst, ◌∙◌, true≢false, get_or}
use Rattle.std.specs.Prelude.{IfSome, option_and_then}
use Rattle.std.specs.List.{slice_get}
use Rattle.std.specs.Ordering.{is_le, is_lt, ordering_reverse}
use Rattle.std.specs.declared.cmp.Ordering.{Ordering}
use Rattle.std.specs.declared.cmp.Ordering.TheVariants.{Less, Equal, Greater}
use Rattle.std.proofs.lemmas.Cmp.{nat_list_cmp_total}
use Rattle.std.proofs.lemmas.List.{take_all}
use Rattle.std.proofs.lemmas.List.Elements.{All-cons, All-head, All-more, All-nil, All-tail}
use Rattle.std.proofs.lemmas.List.Elements.{Contains-get_or}
use Rattle.std.proofs.lemmas.Option.{get_or_from_slice_get, slice_get_within}
use Rattle.vr_types.specs.Content.{Item, place_cmp, record_of}
use Rattle.vr_types.specs.Geometry.{area_count}
use Rattle.vr_types.specs.Image.{Block, Image}
use Rattle.vr_seqset.specs.Reading.{record_in}
use Rattle.vr_space.specs.AreaCalls.{HasRoomHere, IsNextHere}
use Rattle.vr_space.specs.Areas.{ChainHasRoom, EachAfter, KeyedChain, KnowsAreas, area_of}
use Rattle.vr_space.specs.Areas.{areas_after, end_of, head_in, is_upto}
use Rattle.vr_space.specs.Keyed.{IsHead}
use Rattle.vr_space.specs.Part.{HasNoNext, IsNextPlace, KeyedShape, Stands}
use Rattle.vr_space.specs.Room.{Lengths}
use Rattle.vr_space.specs.Rosters.{IsOf, after_next}
use Rattle.vr_space.specs.declared.whence.Whence.{Whence}
use Rattle.vr_space.specs.declared.whence.Whence.TheVariants.{Start}
use Rattle.vr_space.proofs.CallerLemmas.{HasNoneHere, area-each, chain-next, chain-none}
use Rattle.vr_space.proofs.CallerLemmas.{here-stands, none-past-here}
use Rattle.vr_attach.specs.Areas.{IsAreaPosition}
use Rattle.vr_keyed.specs.Next.{AreBefore}
use Rattle.vr_keyed.proofs.Places.{got-inside, inside-known}

-- ---- the areas before a search

-- what is before a place is before each from there on
before-more : (end low place : List ℕ) → place_cmp end low ≡ Less
    → is_le (place_cmp low place) ≡ true → place_cmp end place ≡ Less
before-more end low place less = by_order (place_cmp low place) refl
  where
    by_order : (o : Ordering) → place_cmp low place ≡ o → is_le o ≡ true
        → place_cmp end place ≡ Less
    by_order Less is most = nat_list_cmp_total.trans end low place less is
    by_order Equal is most = nat_list_cmp_total.antisymm end place
        ∙ ap ordering_reverse (sym (nat_list_cmp_total.congr low place end is)
        ∙ nat_list_cmp_total.antisymm low end ∙ ap ordering_reverse less)
    by_order Greater is most = absurd (true≢false (sym most))

all-before : (ends : List (List ℕ)) (low place : List ℕ)
    → All (λ (end : List ℕ). place_cmp end low ≡ Less) ends
    → is_le (place_cmp low place) ≡ true → All (λ (end : List ℕ). place_cmp end place ≡ Less) ends
all-before ends low place all most k other below =
    before-more (get_or ends k other) low place (all k other below) most

less-most : (o : Ordering) → is_lt o ≡ true → is_le o ≡ true
less-most Less is = refl
less-most Equal is = absurd (true≢false (sym is))
less-most Greater is = absurd (true≢false (sym is))

-- a search from the start passes over none,
pub before-start : (ends : List (List ℕ)) → AreBefore Start (take 0 ends)
before-start ends place allowed = All-nil (λ (end : List ℕ). place_cmp end place ≡ Less)

-- one from a place on over those that end before it,
pub before-at : (ends : List (List ℕ)) (n : ℕ) (low : List ℕ) → IsAreaPosition ends low n
    → (place : List ℕ) → is_le (place_cmp low place) ≡ true
    → All (λ (end : List ℕ). place_cmp end place ≡ Less) (take n ends)
before-at ends n low is place = all-before (take n ends) low place is.before

-- and so does one past it
pub before-past : (ends : List (List ℕ)) (n : ℕ) (low : List ℕ) → IsAreaPosition ends low n
    → (place : List ℕ) → is_lt (place_cmp low place) ≡ true
    → All (λ (end : List ℕ). place_cmp end place ≡ Less) (take n ends)
before-past ends n low is place less =
    before-at ends n low is place (less-most (place_cmp low place) less)

-- a place past the end of an area isn't one that its ranges reach
past-reach : (end place : List ℕ) → place_cmp end place ≡ Less
    → is_le (place_cmp place end) ≡ false
past-reach end place less =
    ap is_le (nat_list_cmp_total.antisymm place end ∙ ap ordering_reverse less)

-- the heads of these areas are in order
abbrev HasHead : KeyedChain → Image → ℕ → Type 0
HasHead part image area = IsHead (area_of part area) (head_in part image area)

-- so none of those before a search has a record that it may find
none-passed : (part : KeyedChain) (image : Image) (from : Whence) (areas : List ℕ)
    (ends : List (List ℕ)) (n : ℕ)
    → map Some ends ≡ map (λ (area : ℕ). end_of (head_in part image area)) areas
    → All (HasHead part image) areas → AreBefore from (take n ends)
    → All (HasNoneHere part image from) (take n areas)
none-passed part image from areas ends zero are heads before =
    All-nil (HasNoneHere part image from)
none-passed part image from [] ends (suc n) are heads before =
    All-nil (HasNoneHere part image from)
none-passed part image from (area ∷ areas) [] (suc n) are heads before = absurd cc
none-passed part image from (area ∷ areas) (end ∷ ends) (suc n) are heads before =
    let first : Some end ≡ end_of (head_in part image area) = cc in
    let rest : map Some ends ≡ map (λ (one : ℕ). end_of (head_in part image one)) areas = cc in
    All-cons (HasNoneHere part image from) area (take n areas)
    (λ place allowed. ap (λ (item : Option Item). option_and_then record_of item)
    (none-past-here (area_of part area) image place
    (All-head (HasHead part image) area areas heads)
    (ap (λ (one : Option (List ℕ)). is_upto one place) (sym first)
    ∙ past-reach end place (All-head (λ (one : List ℕ). place_cmp one place ≡ Less) end
    (take n ends) (before place allowed)))))
    (none-passed part image from areas ends n rest
    (All-tail (HasHead part image) area areas heads)
    (λ place allowed. All-tail (λ (one : List ℕ). place_cmp one place ≡ Less) end (take n ends)
    (before place allowed)))

-- ---- what is so of each area

cut-at : (xs : List ℕ) (n x : ℕ) → slice_get xs n ≡ Some x → xs ≡ take n xs ++ x ∷ drop (suc n) xs
cut-at [] n x is = absurd cc
cut-at (first ∷ xs) zero x is =
    let same : first ≡ x = cc in ap (λ (one : ℕ). one ∷ xs) same
cut-at (first ∷ xs) (suc n) x is = ap (λ (rest : List ℕ). first ∷ rest) (cut-at xs n x is)

-- one more
pub all-more : (P : ℕ → Type 0) (xs : List ℕ) (n x : ℕ) → slice_get xs n ≡ Some x
    → All P (take n xs) → P x → All P (take (n + 1) xs)
all-more P xs n x is all here = All-more P xs n x (slice_get_within xs n x is) all
    (subst P (sym (get_or_from_slice_get xs n x x is)) here)

-- what is so of all areas that an image has is so of each that its heads lead to
each-of-all : (part : KeyedChain) (P : ℕ → Type 0) (image : Image) (k area : ℕ)
    → All P (areas_after part image k area) → EachAfter part P (IsOf image) k area
each-of-all part P image zero area all = tt
each-of-all part P image (suc k) area all = (
  All-head P area rest all,
  λ top is. subst (λ (one : Block). IfSome (record_in one).next (EachAfter part P (IsOf image) k))
      (sym is)
      (by_next (record_in (head_in part image area)).next (All-tail P area rest all)
      (λ further. each-of-all part P image k further)),
)
  where
    rest : List ℕ
    rest = after_next [] (areas_after part image k) (record_in (head_in part image area)).next

    by_next : (next : Option ℕ) → All P (after_next [] (areas_after part image k) next)
        → ((further : ℕ) → All P (areas_after part image k further)
        → EachAfter part P (IsOf image) k further)
        → IfSome next (EachAfter part P (IsOf image) k)
    by_next None those more = tt
    by_next (Some further) those more = more further those

-- what is kept has room in an area
abbrev pub HasAreaRoom : KeyedChain → Image → Lengths → ℕ → Type 0
HasAreaRoom part image kept area = HasRoomHere (area_of part area) kept image

module _ (part : KeyedChain) (areas : List ℕ) (ends : List (List ℕ)) (image : Image)
    (knows : KnowsAreas part areas ends image) (stands : Stands (KeyedShape part) image) where
  heads : All (HasHead part image) areas
  heads k other below =
      (here-stands part image stands.0 stands.1 (get_or areas k other)
      (inside-known part areas ends image knows (get_or areas k other)
      (Contains-get_or areas k other below))).head

  -- ---- searching

  -- None of the areas before a search has a record that it may find.
  pub none-before : (from : Whence) (n : ℕ) → AreBefore from (take n ends)
      → All (HasNoneHere part image from) (take n areas)
  none-before from n = none-passed part image from areas ends n knows.ends_are heads

  -- The least of an area is the least of the part where none before has one,
  pub next-found : (from : Whence) (n at : ℕ) → slice_get areas n ≡ Some at
      → All (HasNoneHere part image from) (take n areas) → (place : List ℕ)
      → IsNextHere (area_of part at) image from place
      → IsNextPlace (KeyedShape part) image from place
  next-found from n at is none place next =
      chain-next part image from stands (take n areas) (drop (suc n) areas) at
      (sym knows.areas_are ∙ cut-at areas n at is) none place next

  -- and the part has none where none has.
  pub next-none : (from : Whence) (n : ℕ) → length areas ≤ n
      → All (HasNoneHere part image from) (take n areas) → HasNoNext (KeyedShape part) image from
  next-none from n whole none =
      chain-none part image from
      (subst (All (HasNoneHere part image from)) (take_all n areas whole ∙ knows.areas_are) none)

  -- ---- room

  -- The part has room where each area has it,
  pub rooms-all : (kept : Lengths) (n : ℕ) → length areas ≤ n
      → All (HasAreaRoom part image kept) (take n areas) → ChainHasRoom part kept image
  rooms-all kept n whole rooms =
      each-of-all part (HasAreaRoom part image kept) image (area_count part.geometry) part.first
      (subst (All (HasAreaRoom part image kept)) (take_all n areas whole ∙ knows.areas_are) rooms)

  -- and has none where one lacks it.
  pub rooms-lack : (kept : Lengths) (n at : ℕ) → slice_get areas n ≡ Some at → (is : Bool)
      → is ≡ false → (IsTrue is ↔ HasAreaRoom part image kept at)
      → IsTrue false ↔ ChainHasRoom part kept image
  rooms-lack kept n at there is lacks told = (
    λ yes. absurd (true≢false (sym yes)),
    λ all. absurd (true≢false (sym (told.1
        (area-each part (HasAreaRoom part image kept) image (area_count part.geometry) part.first at
        all (inside-known part areas ends image knows at (got-inside areas n at there))))
        ∙ lacks)),
  )
