-- The records of an interval in which one is set: which there are, and that they ascend.
use Rattle.std.proofs.Common.{◌≡◌, ℕ, Bool, IsTrue, true, false, List, [], ◌∷◌}
use Rattle.std.proofs.Common.{◌++◌, ◌&&◌, Option, Some, None, All, refl, sym, ap, subst, ◌∙◌, map}
use Rattle.std.proofs.Common.{true≢false}
use Rattle.std.specs.Prelude.{filter, cond, IfSome}
use Rattle.std.specs.List.Sorted.{IsStrictlySortedBy}
use Rattle.std.specs.Option.{option_map}
use Rattle.std.specs.Ordering.{is_le, is_lt, ordering_reverse}
use Rattle.std.specs.declared.cmp.Ordering.{Ordering}
use Rattle.std.specs.declared.cmp.Ordering.TheVariants.{Less, Equal, Greater}
use Rattle.std.proofs.lemmas.Cmp.{nat_list_cmp_total}
use Rattle.std.proofs.lemmas.List.Elements.{All-head, All-tail, All-nil, All-cons, All-append}
use Rattle.vr_types.specs.Content.{Content, Placed, place_cmp, item_at}
use Rattle.vr_types.specs.Content.{found_by}
use Rattle.vr_types.specs.Content.Item.{Standing}
use Rattle.vr_types.proofs.CallerLemmas.{same_place}
use Rattle.vr_ci.specs.Interval as ci
use Rattle.vr_space.specs.Room.{Range, is_in, is_above}
use Rattle.vr_space.specs.Keyed.{Keyed, IsKept, key_of, placed}
use Rattle.vr_space.proofs.CallerLemmas.{NoneAt, AllAbove, none-record, record-left, record-right}
use Rattle.vr_space.proofs.CallerLemmas.{same_is_equal, by_other, above-append, above-weaken}
use Rattle.vr_space.proofs.CallerLemmas.{Rising, rising-sorted, sorted-rising, places-placed}
use Rattle.vr_space.proofs.CallerLemmas.{in-above, in-most, in-both, lt_from_test}
use Rattle.vr_keyed.specs.Setting.{IsRecordHere, is_between, items_between, items_given, items_set}

-- ---- tests

both-left : (a b : Bool) → (a && b) ≡ true → a ≡ true
both-left true b is = refl
both-left false b is = is

both-right : (a b : Bool) → (a && b) ≡ true → b ≡ true
both-right true b is = is
both-right false b is = absurd (true≢false (sym is))

both : (a b : Bool) → a ≡ true → b ≡ true → (a && b) ≡ true
both true b left right = right
both false b left right = absurd (true≢false (sym left))

neither-right : (a b : Bool) → b ≡ false → (a && b) ≡ false
neither-right true b is = is
neither-right false b is = refl

neither-left : (a b : Bool) → a ≡ false → (a && b) ≡ false
neither-left a b is = ap (λ (x : Bool). x && b) is

pub not-true : (b : Bool) → (b ≡ true → ⊥) → b ≡ false
not-true true never = absurd (never refl)
not-true false never = refl

less-most : (o : Ordering) → is_lt o ≡ true → is_le o ≡ true
less-most Less is = refl
less-most Equal is = absurd (true≢false (sym is))
less-most Greater is = absurd (true≢false (sym is))

-- ---- records that pass a test of their places

abbrev pub passing : (List ℕ → Bool) → Content → Content
passing test content = filter (λ (entry : Placed). test entry.0) content

pub passing-has : (test : List ℕ → Bool) (xs : Content) (place : List ℕ) → test place ≡ true
    → item_at (passing test xs) place ≡ item_at xs place
passing-has test [] place is = refl
passing-has test (entry ∷ xs) place is = by (test entry.0) refl (passing-has test xs place is)
  where
    by : (b : Bool) → test entry.0 ≡ b → item_at (passing test xs) place ≡ item_at xs place
        → item_at (cond b (entry ∷ passing test xs) (passing test xs)) place
        ≡ item_at (entry ∷ xs) place
    by true inside more = ap (found_by (place_cmp place entry.0) (Some entry.1)) more
    by false outside more = more
        ∙ sym (by_other (place_cmp place entry.0) (Some entry.1) (item_at xs place)
        (λ same. true≢false (sym is ∙ ap test (same_place place entry.0 same) ∙ outside)))

pub passing-none : (test : List ℕ → Bool) (xs : Content) (place : List ℕ) → test place ≡ false
    → NoneAt place (passing test xs)
passing-none test [] place is = tt
passing-none test (entry ∷ xs) place is = by (test entry.0) refl (passing-none test xs place is)
  where
    by : (b : Bool) → test entry.0 ≡ b → NoneAt place (passing test xs)
        → NoneAt place (cond b (entry ∷ passing test xs) (passing test xs))
    by true inside more = (
      λ same. true≢false (sym inside ∙ sym (ap test (same_place place entry.0 same)) ∙ is),
      more,
    )
    by false outside more = more

passing-above : (low : Option (List ℕ)) (test : List ℕ → Bool) (xs : Content) → AllAbove low xs
    → AllAbove low (passing test xs)
passing-above low test [] all = tt
passing-above low test (entry ∷ xs) all = by (test entry.0) (passing-above low test xs all.1)
  where
    by : (b : Bool) → AllAbove low (passing test xs)
        → AllAbove low (cond b (entry ∷ passing test xs) (passing test xs))
    by true more = (all.0, more)
    by false more = more

passing-rises : (test : List ℕ → Bool) (xs : Content) → Rising xs → Rising (passing test xs)
passing-rises test [] rising = tt
passing-rises test (entry ∷ xs) rising = by (test entry.0) (passing-rises test xs rising.1)
  where
    by : (b : Bool) → Rising (passing test xs)
        → Rising (cond b (entry ∷ passing test xs) (passing test xs))
    by true more = (passing-above (Some entry.0) test xs rising.0, more)
    by false more = more

-- each is above a place
passing-past : (low : Option (List ℕ)) (test : List ℕ → Bool) (xs : Content)
    → ((place : List ℕ) → test place ≡ true → is_above low place ≡ true)
    → AllAbove low (passing test xs)
passing-past low test [] says = tt
passing-past low test (entry ∷ xs) says =
    by (test entry.0) refl (passing-past low test xs says)
  where
    by : (b : Bool) → test entry.0 ≡ b → AllAbove low (passing test xs)
        → AllAbove low (cond b (entry ∷ passing test xs) (passing test xs))
    by true inside more = (says entry.0 inside, more)
    by false outside more = more

-- each is below it
abbrev AllLess : List ℕ → Content → Type 0
AllLess place [] = Unit {0}
AllLess place (entry ∷ content) = (is_lt (place_cmp entry.0 place) ≡ true) × AllLess place content

passing-less : (high : List ℕ) (test : List ℕ → Bool) (xs : Content)
    → ((place : List ℕ) → test place ≡ true → is_lt (place_cmp place high) ≡ true)
    → AllLess high (passing test xs)
passing-less high test [] says = tt
passing-less high test (entry ∷ xs) says =
    by (test entry.0) refl (passing-less high test xs says)
  where
    by : (b : Bool) → test entry.0 ≡ b → AllLess high (passing test xs)
        → AllLess high (cond b (entry ∷ passing test xs) (passing test xs))
    by true inside more = (says entry.0 inside, more)
    by false outside more = more

-- ---- the content in which a record is set

abbrev pub given_at : List ℕ → Option (List ℕ) → Content
given_at place None = []
given_at place (Some bytes) = (place, Standing bytes) ∷ []

abbrev pub content_set : Range → List ℕ → Option (List ℕ) → Content → Content
content_set range place new content =
    passing (is_between range.low place false) content
    ++ (given_at place new ++ passing (is_between (Some place) range.high true) content)

-- ---- of items

passing-placed : (part : Keyed) (test : List ℕ → Bool) (items : List ci.Item)
    → map (placed part) (filter (λ (item : ci.Item). test (key_of part item.bytes)) items)
    ≡ passing test (map (placed part) items)
passing-placed part test [] = refl
passing-placed part test (item ∷ items) =
    by (test (key_of part item.bytes)) (passing-placed part test items)
  where
    rest : List ci.Item
    rest = filter (λ (x : ci.Item). test (key_of part x.bytes)) items

    by : (b : Bool) → map (placed part) rest ≡ passing test (map (placed part) items)
        → map (placed part) (cond b (item ∷ rest) rest)
        ≡ cond b (placed part item ∷ passing test (map (placed part) items))
        (passing test (map (placed part) items))
    by true more = ap (λ (xs : Content). placed part item ∷ xs) more
    by false more = more

map-append : (part : Keyed) (xs ys : List ci.Item)
    → map (placed part) (xs ++ ys) ≡ map (placed part) xs ++ map (placed part) ys
map-append part [] ys = refl
map-append part (x ∷ xs) ys = ap (λ (c : Content). placed part x ∷ c) (map-append part xs ys)

given-placed : (part : Keyed) (place : List ℕ) (new : Option (List ℕ))
    → IfSome new (IsRecordHere part place)
    → map (placed part) (items_given new) ≡ given_at place new
given-placed part place None is = refl
given-placed part place (Some bytes) is =
    ap (λ (p : List ℕ). let content : Content = (p, Standing bytes) ∷ [] in content) is.1

-- the records of the items are the content
pub records-set : (part : Keyed) (range : Range) (place : List ℕ) (new : Option (List ℕ))
    (items : List ci.Item) → IfSome new (IsRecordHere part place)
    → map (placed part) (items_set part range place new items)
    ≡ content_set range place new (map (placed part) items)
records-set part range place new items is =
    let below = items_between part range.low place false items in
    let above = items_between part (Some place) range.high true items in
    map-append part below (items_given new ++ above)
    ∙ ap (λ (xs : Content). xs ++ map (placed part) (items_given new ++ above))
    (passing-placed part (is_between range.low place false) items)
    ∙ ap (λ (xs : Content).
    passing (is_between range.low place false) (map (placed part) items) ++ xs)
    (map-append part (items_given new) above
    ∙ ap (λ (xs : Content). xs ++ map (placed part) above) (given-placed part place new is)
    ∙ ap (λ (xs : Content). given_at place new ++ xs)
    (passing-placed part (is_between (Some place) range.high true) items))

-- ---- which record is where

module _ (range : Range) (place : List ℕ) (new : Option (List ℕ)) (content : Content) where
  below : Content
  below = passing (is_between range.low place false) content

  above : Content
  above = passing (is_between (Some place) range.high true) content

  off-given : (q : List ℕ) → (place_cmp q place ≡ Equal → ⊥) → NoneAt q (given_at place new)
  off-given q apart = by new
    where
      by : (o : Option (List ℕ)) → NoneAt q (given_at place o)
      by None = tt
      by (Some bytes) = (apart, tt)

  none-both : (q : List ℕ) (xs ys : Content) → NoneAt q xs → NoneAt q ys → NoneAt q (xs ++ ys)
  none-both q [] ys left right = right
  none-both q (x ∷ xs) ys left right = (left.0, none-both q xs ys left.1 right)

  -- this one
  pub set-here : item_at (content_set range place new content) place ≡ option_map Standing new
  unfolding below above
  set-here =
      record-right below (given_at place new ++ above) place
      (passing-none (is_between range.low place false) content place
      (neither-right (is_above range.low place) (is_lt (place_cmp place place))
      (ap is_lt (same_is_equal place))))
      ∙ by new
    where
      none : NoneAt place above
      none = passing-none (is_between (Some place) range.high true) content place
          (neither-left (is_lt (place_cmp place place)) (is_le (place_cmp place range.high))
          (ap is_lt (same_is_equal place)))

      by : (o : Option (List ℕ)) → item_at (given_at place o ++ above) place ≡ option_map Standing o
      by None = none-record place above none
      by (Some bytes) =
          ap (λ (o : Ordering). found_by o (Some (Standing bytes)) (item_at above place))
          (same_is_equal place)

  -- each other that it had in the range
  pub set-other : (q : List ℕ) → is_in range q ≡ true → (q ≡ place → ⊥)
      → item_at (content_set range place new content) q ≡ item_at content q
  unfolding below above
  set-other q inside apart = by (place_cmp q place) refl
    where
      off : place_cmp q place ≡ Equal → ⊥
      off equal = apart (same_place q place equal)

      turned : (o : Ordering) → place_cmp q place ≡ o
          → place_cmp place q ≡ ordering_reverse o
      turned o is = nat_list_cmp_total.antisymm place q ∙ ap ordering_reverse is

      by : (o : Ordering) → place_cmp q place ≡ o
          → item_at (content_set range place new content) q ≡ item_at content q
      by Less is =
          record-left below (given_at place new ++ above) q
          (none-both q (given_at place new) above (off-given q off)
          (passing-none (is_between (Some place) range.high true) content q
          (neither-left (is_lt (place_cmp place q)) (is_le (place_cmp q range.high))
          (ap is_lt (turned Less is)))))
          ∙ passing-has (is_between range.low place false) content q
          (both (is_above range.low q) (is_lt (place_cmp q place)) (in-above range q inside)
          (ap is_lt is))
      by Equal is = absurd (off is)
      by Greater is =
          record-right below (given_at place new ++ above) q
          (passing-none (is_between range.low place false) content q
          (neither-right (is_above range.low q) (is_lt (place_cmp q place)) (ap is_lt is)))
          ∙ record-right (given_at place new) above q (off-given q off)
          ∙ passing-has (is_between (Some place) range.high true) content q
          (both (is_lt (place_cmp place q)) (is_le (place_cmp q range.high))
          (ap is_lt (turned Greater is)) (in-most range q inside))

  -- ---- within the range

  below-in : is_in range place ≡ true → (q : List ℕ)
      → is_between range.low place false q ≡ true → is_in range q ≡ true
  below-in here q is =
      in-both range q (both-left (is_above range.low q) (is_lt (place_cmp q place)) is)
      (most-more q (lt_from_test (place_cmp q place)
      (both-right (is_above range.low q) (is_lt (place_cmp q place)) is))
      (in-most range place here))
    where
      by : (p : List ℕ) (o : Ordering) → place_cmp p place ≡ Less
          → place_cmp place range.high ≡ o → is_le o ≡ true
          → is_le (place_cmp p range.high) ≡ true
      by p Less less is_o most = ap is_le
          (nat_list_cmp_total.trans p place range.high less is_o)
      by p Equal less is_o most = ap is_le
          (ap (place_cmp p) (sym (same_place place range.high is_o)) ∙ less)
      by p Greater less is_o most = absurd (true≢false (sym most))

      most-more : (p : List ℕ) → place_cmp p place ≡ Less
          → is_le (place_cmp place range.high) ≡ true → is_le (place_cmp p range.high) ≡ true
      most-more p less most = by p (place_cmp place range.high) less refl most

  above-in : is_in range place ≡ true → (q : List ℕ)
      → is_between (Some place) range.high true q ≡ true → is_in range q ≡ true
  above-in here q is =
      in-both range q
      (Rattle.vr_space.proofs.CallerLemmas.above-more range.low place q
      (in-above range place here)
      (both-left (is_lt (place_cmp place q)) (is_le (place_cmp q range.high)) is))
      (both-right (is_lt (place_cmp place q)) (is_le (place_cmp q range.high)) is)

  -- none beyond it
  pub set-beyond : is_in range place ≡ true → (q : List ℕ) → is_in range q ≡ false
      → item_at (content_set range place new content) q ≡ None
  unfolding below above
  set-beyond here q out =
      none-record q (content_set range place new content)
      (none-both q below (given_at place new ++ above)
      (passing-none (is_between range.low place false) content q
      (not-true (is_between range.low place false q)
      (λ is. true≢false (sym (below-in here q is) ∙ out))))
      (none-both q (given_at place new) above
      (off-given q (λ equal. true≢false (sym here ∙ sym (ap (is_in range)
      (same_place q place equal)) ∙ out)))
      (passing-none (is_between (Some place) range.high true) content q
      (not-true (is_between (Some place) range.high true q)
      (λ is. true≢false (sym (above-in here q is) ∙ out))))))

  -- ---- in order

  pub set-rises : Rising content → Rising (content_set range place new content)
  unfolding below above
  set-rises rising =
      join below (passing-less place (is_between range.low place false) content
      (λ q is. both-right (is_above range.low q) (is_lt (place_cmp q place)) is))
      (passing-rises (is_between range.low place false) content rising)
    where
      past : AllAbove (Some place) above
      past = passing-past (Some place) (is_between (Some place) range.high true) content
          (λ q is. both-left (is_lt (place_cmp place q)) (is_le (place_cmp q range.high)) is)

      later : (o : Option (List ℕ)) → Rising (given_at place o ++ above)
      later None = passing-rises (is_between (Some place) range.high true) content rising
      later (Some bytes) =
          (past, passing-rises (is_between (Some place) range.high true) content rising)

      over : (o : Option (List ℕ)) (p : List ℕ) → is_lt (place_cmp p place) ≡ true
          → AllAbove (Some p) (given_at place o ++ above)
      over None p less = above-weaken (Some p) place above less past
      over (Some bytes) p less = (less, above-weaken (Some p) place above less past)

      join : (xs : Content) → AllLess place xs → Rising xs
          → Rising (xs ++ (given_at place new ++ above))
      join [] less rises = later new
      join (entry ∷ xs) less rises = (
        above-append (Some entry.0) xs (given_at place new ++ above) rises.0
            (over new entry.0 less.0),
        join xs less.1 rises.1,
      )

-- ---- of all items

filter-all : (P : ci.Item → Type 0) (test : ci.Item → Bool) (items : List ci.Item) → All P items
    → All P (filter test items)
filter-all P test [] all = all
filter-all P test (item ∷ items) all =
    by (test item) (filter-all P test items (All-tail P item items all))
  where
    by : (b : Bool) → All P (filter test items)
        → All P (cond b (item ∷ filter test items) (filter test items))
    by true more = All-cons P item (filter test items) (All-head P item items all) more
    by false more = more

filter-says : (P : ci.Item → Type 0) (test : ci.Item → Bool) (items : List ci.Item)
    → ((item : ci.Item) → test item ≡ true → P item) → All P (filter test items)
filter-says P test [] says = All-nil P
filter-says P test (item ∷ items) says = by (test item) refl (filter-says P test items says)
  where
    by : (b : Bool) → test item ≡ b → All P (filter test items)
        → All P (cond b (item ∷ filter test items) (filter test items))
    by true is more = All-cons P item (filter test items) (says item is) more
    by false is more = more

module _ (part : Keyed) (range : Range) (place : List ℕ) (new : Option (List ℕ))
    (items : List ci.Item) where
  pub set-kept : IfSome new (IsRecordHere part place) → All (IsKept part) items
      → All (IsKept part) (items_set part range place new items)
  set-kept is kept =
      All-append (IsKept part) _ _ (filter-all (IsKept part) _ items kept)
      (All-append (IsKept part) (items_given new) _ (by new is)
      (filter-all (IsKept part) _ items kept))
    where
      by : (o : Option (List ℕ)) → IfSome o (IsRecordHere part place)
          → All (IsKept part) (items_given o)
      by None is_one = All-nil (IsKept part)
      by (Some bytes) is_one =
          All-cons (IsKept part) (record { bytes = bytes; live = true }) []
          (record { live = refl; valid = is_one.0 }) (All-nil (IsKept part))

  abbrev InRange : ci.Item → Type 0
  InRange item = IsTrue (is_in range (key_of part item.bytes))

  pub set-within : IfSome new (IsRecordHere part place) → is_in range place ≡ true
      → All (λ (item : ci.Item). IsTrue (is_in range (key_of part item.bytes)))
      (items_set part range place new items)
  set-within is here =
      All-append InRange _ _
      (filter-says InRange _ items
      (λ item. below-in range place new [] here (key_of part item.bytes)))
      (All-append InRange (items_given new) _ (by new is)
      (filter-says InRange _ items
      (λ item. above-in range place new [] here (key_of part item.bytes))))
    where
      by : (o : Option (List ℕ)) → IfSome o (IsRecordHere part place)
          → All InRange (items_given o)
      by None is_one = All-nil InRange
      by (Some bytes) is_one =
          All-cons InRange (record { bytes = bytes; live = true }) []
          (ap (is_in range) is_one.1 ∙ here) (All-nil InRange)

  pub set-ascends : IfSome new (IsRecordHere part place)
      → IsStrictlySortedBy place_cmp (map (λ (item : ci.Item). key_of part item.bytes) items)
      → IsStrictlySortedBy place_cmp
      (map (λ (item : ci.Item). key_of part item.bytes) (items_set part range place new items))
  set-ascends is ascends =
      subst (IsStrictlySortedBy place_cmp)
      (places-placed part (items_set part range place new items))
      (sorted-rising (map (placed part) (items_set part range place new items))
      (subst Rising (sym (records-set part range place new items is))
      (set-rises range place new (map (placed part) items)
      (rising-sorted (map (placed part) items)
      (subst (IsStrictlySortedBy place_cmp) (sym (places-placed part items)) ascends)))))
