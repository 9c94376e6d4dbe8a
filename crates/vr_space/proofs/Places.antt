-- The order of places, ranges of places, and the record at a place in a list of records.
use Rattle.std.proofs.Common.{◌≡◌, ◌≢◌, ℕ, Bool, true, false, List, [], ◌∷◌, ◌++◌, Option, Some}
use Rattle.std.proofs.Common.{None, refl, sym, ap, subst, ◌∙◌, true≢false, ◌&&◌}
use Rattle.std.specs.Prelude.{filter, cond}
use Rattle.std.specs.Ordering.{is_le, is_lt, ordering_reverse}
use Rattle.std.specs.declared.cmp.Ordering.{Ordering}
use Rattle.std.specs.declared.cmp.Ordering.TheVariants.{Less, Equal, Greater}
use Rattle.std.proofs.lemmas.Cmp.{nat_list_cmp_total, tied_itself}
use Rattle.vr_types.specs.Content.{Content, Placed, place_cmp, item_at, found_by}
use Rattle.vr_types.proofs.CallerLemmas.{same_place}
use Rattle.vr_space.specs.Room.{Range, is_in, is_above}

-- ---- the order

pub lt_from_test : (o : Ordering) → is_lt o ≡ true → o ≡ Less
lt_from_test Less is = refl
lt_from_test Equal is = absurd (true≢false (sym is))
lt_from_test Greater is = absurd (true≢false (sym is))

reversed-le : (o : Ordering) → is_le (ordering_reverse o) ≡ true → o ≡ Less → ⊥
reversed-le Less is less = absurd (true≢false (sym is))
reversed-le Equal is less = cc
reversed-le Greater is less = cc

-- what is at most a place isn't past it
pub not_past : (place high : List ℕ) → is_le (place_cmp place high) ≡ true
    → place_cmp high place ≡ Less → ⊥
not_past place high most less =
    reversed-le (place_cmp high place) (sym (ap is_le (nat_list_cmp_total.antisymm place high))
    ∙ most) less

over : (o : Ordering) → is_le o ≡ false → ordering_reverse o ≡ Less
over Less is = absurd (true≢false is)
over Equal is = absurd (true≢false is)
over Greater is = refl

most-of : (o : Ordering) → is_lt o ≡ false → is_le (ordering_reverse o) ≡ true
most-of Less is = absurd (true≢false is)
most-of Equal is = refl
most-of Greater is = refl

-- what isn't above a place is at most it
pub not_above : (low place : List ℕ) → is_above (Some low) place ≡ false
    → is_le (place_cmp place low) ≡ true
not_above low place is =
    ap is_le (nat_list_cmp_total.antisymm place low) ∙ most-of (place_cmp low place) is

-- what isn't at most a place is past it
pub is_past : (place high : List ℕ) → is_le (place_cmp place high) ≡ false
    → place_cmp high place ≡ Less
is_past place high is = nat_list_cmp_total.antisymm high place ∙ over (place_cmp place high) is

pub same_is_equal : (place : List ℕ) → place_cmp place place ≡ Equal
same_is_equal place = tied_itself nat_list_cmp_total place

-- ---- bounds

-- a lower bound of what is past a place that is past the bound
pub above-more : (low : Option (List ℕ)) (high place : List ℕ) → is_above low high ≡ true
    → is_above (Some high) place ≡ true → is_above low place ≡ true
above-more None high place is more = refl
above-more (Some low) high place is more =
    ap is_lt (nat_list_cmp_total.trans low high place (lt_from_test _ is) (lt_from_test _ more))

-- ---- the record at a place

-- none stands at the place
abbrev pub NoneAt : List ℕ → Content → Type 0
NoneAt place [] = Unit {0}
NoneAt place (entry ∷ content) = (place_cmp place entry.0 ≢ Equal) × NoneAt place content

pub by_other : {X : Type 0} (o : Ordering) (here further : Option X) → o ≢ Equal
    → found_by o here further ≡ further
by_other Less here further other = refl
by_other Equal here further other = absurd (other refl)
by_other Greater here further other = refl

pub none-record : (place : List ℕ) (content : Content) → NoneAt place content
    → item_at content place ≡ None
none-record place [] none = refl
none-record place (entry ∷ content) none =
    by_other (place_cmp place entry.0) (Some entry.1) (item_at content place) none.0
    ∙ none-record place content none.1

pub record-left : (xs ys : Content) (place : List ℕ) → NoneAt place ys
    → item_at (xs ++ ys) place ≡ item_at xs place
record-left [] ys place none = none-record place ys none
record-left (entry ∷ xs) ys place none =
    ap (found_by (place_cmp place entry.0) (Some entry.1)) (record-left xs ys place none)

pub record-right : (xs ys : Content) (place : List ℕ) → NoneAt place xs
    → item_at (xs ++ ys) place ≡ item_at ys place
record-right [] ys place none = refl
record-right (entry ∷ xs) ys place none =
    by_other (place_cmp place entry.0) (Some entry.1) (item_at (xs ++ ys) place) none.0
    ∙ record-right xs ys place none.1

abbrev in_range : Range → Placed → Bool
in_range range entry = is_in range entry.0

-- a place of the range has the record that it has among all
pub record-filter : (range : Range) (xs : Content) (place : List ℕ) → is_in range place ≡ true
    → item_at (filter (λ (entry : Placed). is_in range entry.0) xs) place ≡ item_at xs place
record-filter range [] place is = refl
record-filter range (entry ∷ xs) place is =
    kept (is_in range entry.0) refl (record-filter range xs place is)
  where
    rest : Content
    rest = filter (λ (other : Placed). is_in range other.0) xs

    kept : (b : Bool) → is_in range entry.0 ≡ b → item_at rest place ≡ item_at xs place
        → item_at (cond b (entry ∷ rest) rest) place ≡ item_at (entry ∷ xs) place
    kept true in_it more = ap (found_by (place_cmp place entry.0) (Some entry.1)) more
    kept false out more = more
        ∙ sym (by_other (place_cmp place entry.0) (Some entry.1) (item_at xs place)
        (λ same. true≢false (sym is ∙ ap (is_in range) (same_place place entry.0 same) ∙ out)))

-- a place beyond the range has none among those of the range
pub none-filter : (range : Range) (xs : Content) (place : List ℕ) → is_in range place ≡ false
    → NoneAt place (filter (λ (entry : Placed). is_in range entry.0) xs)
none-filter range [] place is = tt
none-filter range (entry ∷ xs) place is =
    kept (is_in range entry.0) refl (none-filter range xs place is)
  where
    rest : Content
    rest = filter (λ (other : Placed). is_in range other.0) xs

    kept : (b : Bool) → is_in range entry.0 ≡ b → NoneAt place rest
        → NoneAt place (cond b (entry ∷ rest) rest)
    kept true in_it more = (
      λ same. true≢false (sym in_it ∙ sym (ap (is_in range) (same_place place entry.0 same))
          ∙ is),
      more,
    )
    kept false out more = more

-- each place is above the low one
abbrev pub AllAbove : Option (List ℕ) → Content → Type 0
AllAbove low [] = Unit {0}
AllAbove low (entry ∷ content) = (is_above low entry.0 ≡ true) × AllAbove low content

pub above-append : (low : Option (List ℕ)) (xs ys : Content) → AllAbove low xs → AllAbove low ys
    → AllAbove low (xs ++ ys)
above-append low [] ys left right = right
above-append low (entry ∷ xs) ys left right = (left.0, above-append low xs ys left.1 right)

pub above-weaken : (low : Option (List ℕ)) (high : List ℕ) (xs : Content)
    → is_above low high ≡ true → AllAbove (Some high) xs → AllAbove low xs
above-weaken low high [] is all = tt
above-weaken low high (entry ∷ xs) is all =
    (above-more low high entry.0 is all.0, above-weaken low high xs is all.1)

both-left : (a b : Bool) → (a && b) ≡ true → a ≡ true
both-left true b is = refl
both-left false b is = is

both-right : (a b : Bool) → (a && b) ≡ true → b ≡ true
both-right true b is = is
both-right false b is = absurd (true≢false (sym is))

pub in-above : (range : Range) (place : List ℕ) → is_in range place ≡ true
    → is_above range.low place ≡ true
in-above range place is =
    both-left (is_above range.low place) (is_le (place_cmp place range.high)) is

pub in-most : (range : Range) (place : List ℕ) → is_in range place ≡ true
    → is_le (place_cmp place range.high) ≡ true
in-most range place is =
    both-right (is_above range.low place) (is_le (place_cmp place range.high)) is

both : (a b : Bool) → a ≡ true → b ≡ true → (a && b) ≡ true
both true b left right = right
both false b left right = absurd (true≢false (sym left))

pub in-both : (range : Range) (place : List ℕ) → is_above range.low place ≡ true
    → is_le (place_cmp place range.high) ≡ true → is_in range place ≡ true
in-both range place low high =
    both (is_above range.low place) (is_le (place_cmp place range.high)) low high

neither : (a b : Bool) → b ≡ false → (a && b) ≡ false
neither true b right = right
neither false b right = refl

pub in-past : (range : Range) (place : List ℕ) → is_le (place_cmp place range.high) ≡ false
    → is_in range place ≡ false
in-past range place is = neither (is_above range.low place) (is_le (place_cmp place range.high)) is

pub above-filter : (range : Range) (xs : Content)
    → AllAbove range.low (filter (λ (entry : Placed). is_in range entry.0) xs)
above-filter range [] = tt
above-filter range (entry ∷ xs) = kept (is_in range entry.0) refl (above-filter range xs)
  where
    rest : Content
    rest = filter (λ (other : Placed). is_in range other.0) xs

    kept : (b : Bool) → is_in range entry.0 ≡ b → AllAbove range.low rest
        → AllAbove range.low (cond b (entry ∷ rest) rest)
    kept true in_it more = (in-above range entry.0 in_it, more)
    kept false out more = more

-- nothing above a place stands at one up to it
pub none-above : (high place : List ℕ) (xs : Content) → is_le (place_cmp place high) ≡ true
    → AllAbove (Some high) xs → NoneAt place xs
none-above high place [] most all = tt
none-above high place (entry ∷ xs) most all = (
  λ same. not_past place high most
      (subst (λ (q : List ℕ). place_cmp high q ≡ Less) (sym (same_place place entry.0 same))
      (lt_from_test _ all.0)),
  none-above high place xs most all.1,
)
