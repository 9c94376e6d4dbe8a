-- What is kept for places, as a search comes to it: place by place.
use Rattle.std.proofs.Common.{◌≡◌, ◌<◌, ℕ, Bool, true, false, List, [], ◌∷◌, ◌++◌, length}
use Rattle.std.proofs.Common.{Some, None, refl, sym, ap, subst, ◌∙◌, arith, append_assoc}
use Rattle.std.specs.Prelude.{All, Contains, cond, filter}
use Rattle.std.specs.List.{AllByRecursion}
use Rattle.std.specs.Ordering.{is_lt, ordering_reverse}
use Rattle.std.specs.declared.cmp.Ordering.{Ordering}
use Rattle.std.specs.declared.cmp.Ordering.TheVariants.{Less, Greater}
use Rattle.std.proofs.lemmas.Cmp.{nat_list_cmp_total}
use Rattle.std.proofs.lemmas.List.{append-nil}
use Rattle.std.proofs.lemmas.List.Elements.{All-append, All-cons, All-nil}
use Rattle.std.proofs.lemmas.List.Elements.{Contains-append_right}
use Rattle.std.proofs.lemmas.Map.Keys.{sorted_head, sorted_tail}
use Rattle.vr_types.specs.Content.{place_cmp}
use Rattle.vr_types.specs.declared.unit.PartNo.{PartNo}
use Rattle.vr_space.specs.Room.{AscendLengths, Lengths, length_at, length_by}
use Rattle.vr_space.specs.Whence.{allows, first_of, places_kept}
use Rattle.vr_space.specs.declared.whence.Whence.{Whence}
use Rattle.vr_space.proofs.CallerLemmas.{same_is_equal}

-- ---- one entry among ascending ones

-- the entries before one are at lower places, and those after it at higher ones
record IsBetween (before : Lengths) (place : List ℕ) (after : Lengths) : Type 0 where
  pub lower : AllByRecursion (λ (one : List ℕ × ℕ). place_cmp one.0 place ≡ Less) before
  pub higher : AllByRecursion (λ (one : List ℕ × ℕ). place_cmp place one.0 ≡ Less) after

all-higher : (place : List ℕ) (after : Lengths)
    → AllByRecursion (λ (one : List ℕ). place_cmp place one ≡ Less) (places_kept after)
    → AllByRecursion (λ (one : List ℕ × ℕ). place_cmp place one.0 ≡ Less) after
all-higher place [] all = tt
all-higher place (one ∷ after) all = (all.0, all-higher place after all.1)

is-higher : (place : List ℕ) (before : Lengths) (entry : List ℕ × ℕ) (after : Lengths)
    → AllByRecursion (λ (one : List ℕ). place_cmp place one ≡ Less)
    (places_kept (before ++ entry ∷ after))
    → place_cmp place entry.0 ≡ Less
is-higher place [] entry after all = all.0
is-higher place (one ∷ before) entry after all = is-higher place before entry after all.1

is-between : (before : Lengths) (entry : List ℕ × ℕ) (after : Lengths)
    → AscendLengths (before ++ entry ∷ after) → IsBetween before entry.0 after
is-between [] entry after ascend = record {
  lower = tt;
  higher = all-higher entry.0 after (sorted_head place_cmp entry.0 (places_kept after) ascend);
}
is-between (one ∷ before) entry after ascend =
    let rest = places_kept (before ++ entry ∷ after) in
    let more = is-between before entry after (sorted_tail place_cmp one.0 rest ascend) in
    record {
      lower = (
        is-higher one.0 before entry after (sorted_head place_cmp one.0 rest ascend),
        more.lower,
      );
      higher = more.higher;
    }

turned : (one other : List ℕ) → place_cmp one other ≡ Less → place_cmp other one ≡ Greater
turned one other less = nat_list_cmp_total.antisymm other one ∙ ap ordering_reverse less

-- its length is the one at its place
length-there : (before : Lengths) (place : List ℕ) (n : ℕ) (after : Lengths)
    → AllByRecursion (λ (one : List ℕ × ℕ). place_cmp one.0 place ≡ Less) before
    → length_at (before ++ (place, n) ∷ after) place ≡ Some n
length-there [] place n after lower =
    ap (λ (order : Ordering). length_by order n (length_at after place)) (same_is_equal place)
length-there (one ∷ before) place n after lower =
    ap (λ (order : Ordering).
    length_by order one.1 (length_at (before ++ (place, n) ∷ after) place))
    (turned one.0 place lower.0)
    ∙ length-there before place n after lower.1

-- the places past a place
abbrev pub is_after : List ℕ → List ℕ → Bool
is_after place other = is_lt (place_cmp place other)

-- one that is tested so is left out, or kept
left-out : (place : List ℕ) (one : List ℕ × ℕ) (places : List (List ℕ))
    → is_after place one.0 ≡ false
    → filter (is_after place) (one.0 ∷ places) ≡ filter (is_after place) places
left-out place one places not =
    ap (λ (b : Bool). cond b (one.0 ∷ filter (is_after place) places)
    (filter (is_after place) places)) not

left-in : (place : List ℕ) (one : List ℕ × ℕ) (places : List (List ℕ))
    → is_after place one.0 ≡ true
    → filter (is_after place) (one.0 ∷ places) ≡ one.0 ∷ filter (is_after place) places
left-in place one places is =
    ap (λ (b : Bool). cond b (one.0 ∷ filter (is_after place) places)
    (filter (is_after place) places)) is

all-after : (place : List ℕ) (after : Lengths)
    → AllByRecursion (λ (one : List ℕ × ℕ). place_cmp place one.0 ≡ Less) after
    → filter (is_after place) (places_kept after) ≡ places_kept after
all-after place [] higher = refl
all-after place (one ∷ after) higher =
    left-in place one (places_kept after) (ap is_lt higher.0)
    ∙ ap (λ (places : List (List ℕ)). one.0 ∷ places) (all-after place after higher.1)

-- the places past its own are those of the entries after it
places-after : (before : Lengths) (place : List ℕ) (n : ℕ) (after : Lengths)
    → IsBetween before place after
    → filter (is_after place) (places_kept (before ++ (place, n) ∷ after)) ≡ places_kept after
places-after [] place n after between =
    left-out place (place, n) (places_kept after) (ap is_lt (same_is_equal place))
    ∙ all-after place after between.higher
places-after (one ∷ before) place n after between =
    left-out place one (places_kept (before ++ (place, n) ∷ after))
    (ap is_lt (turned one.0 place between.lower.0))
    ∙ places-after before place n after
    (record { lower = between.lower.1; higher = between.higher })

-- ---- a search over all of them

-- This is so of the entries before, and the search may find the places of those that are left.
pub record IsLeft (kept : Lengths) (P : List ℕ × ℕ → Type 0) (allowed : List ℕ → Bool) : Type 0
  where
    pub before : Lengths
    pub after : Lengths
    pub whole : kept ≡ before ++ after
    pub done : All P before
    pub left : filter allowed (places_kept kept) ≡ places_kept after

-- at the start each is left
pub left-start : (kept : Lengths) (P : List ℕ × ℕ → Type 0) → IsLeft kept P (λ place. true)
left-start kept P = record {
  before = [];
  after = kept;
  whole = refl;
  done = All-nil P;
  left = all kept;
}
  where
    all : (lengths : Lengths) → filter (λ place. true) (places_kept lengths) ≡ places_kept lengths
    all [] = refl
    all (one ∷ lengths) = ap (λ (places : List (List ℕ)). one.0 ∷ places) (all lengths)

-- where none is left, it is so of all
pub left-end : (kept : Lengths) (P : List ℕ × ℕ → Type 0) (allowed : List ℕ → Bool)
    → IsLeft kept P allowed → first_of (filter allowed (places_kept kept)) ≡ None → All P kept
left-end kept P allowed left none = by_after left.after left.whole
    (sym (ap first_of left.left) ∙ none)
  where
    by_after : (after : Lengths) → kept ≡ left.before ++ after
        → first_of (places_kept after) ≡ None → All P kept
    by_after [] whole is =
        subst (All P) (sym (whole ∙ append-nil left.before)) left.done
    by_after (one ∷ after) whole is = absurd cc

-- The place that is found is that of an entry of this length; once it is so of that one, fewer are
-- left.
pub record IsFoundNext (kept : Lengths) (P : List ℕ × ℕ → Type 0) (allowed : List ℕ → Bool)
    (place : List ℕ) : Type 0 where
  pub n : ℕ
  pub at : length_at kept place ≡ Some n
  pub next : P (place, n) → IsLeft kept P (is_after place)
  pub among : Contains kept (place, n)
  pub fewer : length (filter (is_after place) (places_kept kept))
      < length (filter allowed (places_kept kept))

pub left-next : (kept : Lengths) (P : List ℕ × ℕ → Type 0) (allowed : List ℕ → Bool)
    (place : List ℕ) → AscendLengths kept → IsLeft kept P allowed
    → first_of (filter allowed (places_kept kept)) ≡ Some place
    → IsFoundNext kept P allowed place
left-next kept P allowed place ascend left found = by_after left.after left.whole left.left
    (sym (ap first_of left.left) ∙ found)
  where
    found-next : (n : ℕ) (after : Lengths) → kept ≡ left.before ++ (place, n) ∷ after
        → filter allowed (places_kept kept) ≡ place ∷ places_kept after
        → IsFoundNext kept P allowed place
    found-next n after whole left-of =
        let between = is-between left.before (place, n) after (subst AscendLengths whole ascend) in
        let past : filter (is_after place) (places_kept kept) ≡ places_kept after =
        ap (λ (lengths : Lengths). filter (is_after place) (places_kept lengths)) whole
        ∙ places-after left.before place n after between in
        record {
          n = n;
          at = ap (λ (lengths : Lengths). length_at lengths place) whole
              ∙ length-there left.before place n after between.lower;
          next = λ is. record {
            before = left.before ++ (place, n) ∷ [];
            after = after;
            whole = whole ∙ sym (append_assoc left.before ((place, n) ∷ []) after);
            done = All-append P left.before ((place, n) ∷ []) left.done
                (All-cons P (place, n) [] is (All-nil P));
            left = past;
          };
          among = subst (λ (lengths : Lengths). Contains lengths (place, n)) (sym whole)
              (Contains-append_right left.before ((place, n) ∷ after) (place, n)
              (0, omega arith, refl));
          fewer = omega (
            arith,
            ap (λ (places : List (List ℕ)). length places) past,
            ap (λ (places : List (List ℕ)). length places) left-of,
          );
        }

    by_after : (after : Lengths) → kept ≡ left.before ++ after
        → filter allowed (places_kept kept) ≡ places_kept after
        → first_of (places_kept after) ≡ Some place → IsFoundNext kept P allowed place
    by_after [] whole left-of is = absurd cc
    by_after (one ∷ after) whole left-of is =
        let same : one.0 ≡ place = cc in
        found-next one.1 after
        (whole ∙ ap (λ (p : List ℕ). left.before ++ (p, one.1) ∷ after) same)
        (left-of ∙ ap (λ (p : List ℕ). p ∷ places_kept after) same)

-- the same of what is kept for a part, found by another name of it
pub left-found : (lengths : PartNo → Lengths) → ((part : PartNo) → AscendLengths (lengths part))
    → (P : List ℕ × ℕ → Type 0) (from : Whence) (named part : PartNo) (place : List ℕ)
    → named ≡ part → IsLeft (lengths part) P (allows from)
    → first_of (filter (allows from) (places_kept (lengths named))) ≡ Some place
    → IsFoundNext (lengths part) P (allows from) place
left-found lengths ascend P from named part place same left found =
    left-next (lengths part) P (allows from) place (ascend part) left
    (subst (λ (name : PartNo).
    first_of (filter (allows from) (places_kept (lengths name))) ≡ Some place) same found)
