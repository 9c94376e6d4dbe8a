-- Of the records of an interval, one that is written over by one of the same length.
use Rattle.std.proofs.Common.{◌≡◌, ℕ, ◌+◌, ◌≤◌, Bool, IsTrue, true, false, List, [], ◌∷◌, ◌++◌}
use Rattle.std.proofs.Common.{Some, All, length, map, refl, sym, ap, subst, ◌∙◌, arith}
use Rattle.std.proofs.Common.{append_assoc, length-append, ◌&&◌}
use Rattle.std.specs.Prelude.{cond, filter}
use Rattle.std.specs.List.{flat_map, AllByRecursion}
use Rattle.std.specs.List.Sorted.{IsStrictlySortedBy}
use Rattle.std.specs.Ordering.{is_le, is_lt, ordering_reverse}
use Rattle.std.specs.declared.cmp.Ordering.{Ordering}
use Rattle.std.specs.declared.cmp.Ordering.TheVariants.{Less}
use Rattle.std.proofs.lemmas.Cmp.{nat_list_cmp_total}
use Rattle.std.proofs.lemmas.Grind.{flat_map-append}
use Rattle.std.proofs.lemmas.List.Elements.{All-head, All-tail}
use Rattle.std.proofs.lemmas.Map.Keys.{sorted_head, sorted_tail}
use Rattle.vr_types.specs.Content.{place_cmp}
use Rattle.vr_ci_match.specs.declared.form.Form.TheVariants.{Plain}
use Rattle.vr_ci_match.specs.declared.form.Shape.{Shape}
use Rattle.vr_ci_match.specs.declared.form.Shape.TheVariants as shapes
use Rattle.vr_ci_match.specs.Fault.{is_busy}
use Rattle.vr_types.specs.Image.{Block}
use Rattle.vr_ci.specs.Interval as ci
use Rattle.vr_ci.specs.Over.{StandsAt}
use Rattle.vr_ci.specs.Writer.{written}
use Rattle.vr_ci.proofs.CallerLemmas.{one_value}
use Rattle.vr_space.specs.Room.{Range, is_above, is_in}
use Rattle.vr_space.specs.Keyed.{Keyed, IsKept, HoldsRange, items_of, key_of}
use Rattle.vr_space.proofs.Places.{same_is_equal, in-above, in-most}
use Rattle.vr_keyed.specs.InPlace.{StandsHere}
use Rattle.vr_keyed.specs.Setting.{is_between, items_between, items_set}

-- ---- the search for it

-- The records up to here were passed, and have so many bytes.
pub record IsPassing (all left : List ci.Item) (at : ℕ) : Type 0 where
  pub before : List ci.Item
  pub parts : all ≡ before ++ left
  pub begins : at ≡ length (flat_map ci.bytes_of before)

pub passing-starts : (all : List ci.Item) → IsPassing all all 0
passing-starts all = record { before = []; parts = refl; begins = refl }

module _ (all old left : List ci.Item) (at : ℕ) (item : ci.Item) (cut : old ≡ item ∷ left)
    (passing : IsPassing all old at) where
  here : all ≡ passing.before ++ item ∷ left
  here = passing.parts ∙ ap (λ (xs : List ci.Item). passing.before ++ xs) cut

  pub passing-within : at + length item.bytes ≤ length (flat_map ci.bytes_of all)
  passing-within =
      omega (
        arith,
        passing.begins,
        ap (λ (xs : List ci.Item). length (flat_map ci.bytes_of xs)) here,
        ap length (flat_map-append ci.bytes_of passing.before (item ∷ left)),
        length-append (flat_map ci.bytes_of passing.before) (flat_map ci.bytes_of (item ∷ left)),
        length-append item.bytes (flat_map ci.bytes_of left),
      )

  pub passes : IsPassing all left (at + length item.bytes)
  passes = record {
    before = passing.before ++ item ∷ [];
    parts = here ∙ sym (append_assoc passing.before (item ∷ []) left);
    begins = omega (
      arith,
      passing.begins,
      ap length (flat_map-append ci.bytes_of passing.before (item ∷ [])),
      length-append (flat_map ci.bytes_of passing.before) (flat_map ci.bytes_of (item ∷ [])),
      length-append item.bytes [],
    );
  }

  pub stands-here : (part : Keyed) (place : List ℕ) (len : ℕ) → length item.bytes ≡ len
      → key_of part item.bytes ≡ place → StandsHere part place len at all
  stands-here part place len long key = record {
    before = passing.before;
    item = item;
    after = left;
    parts = here;
    begins = passing.begins;
    long = long;
    key = key;
  }

-- its bytes lie among those of the records
pub stands-within : (part : Keyed) (place : List ℕ) (len at : ℕ) (items : List ci.Item)
    → StandsHere part place len at items → at + len ≤ length (flat_map ci.bytes_of items)
stands-within part place len at items stands =
    omega (
      arith,
      stands.begins,
      stands.long,
      ap (λ (xs : List ci.Item). length (flat_map ci.bytes_of xs)) stands.parts,
      ap length (flat_map-append ci.bytes_of stands.before (stands.item ∷ stands.after)),
      length-append (flat_map ci.bytes_of stands.before)
          (flat_map ci.bytes_of (stands.item ∷ stands.after)),
      length-append stands.item.bytes (flat_map ci.bytes_of stands.after),
    )

-- ---- the records with it in place of the other

reversed : (o : Ordering) → o ≡ Less → is_lt (ordering_reverse o) ≡ false
reversed o is = ap (λ (x : Ordering). is_lt (ordering_reverse x)) is

later : (one other : List ℕ) → place_cmp one other ≡ Less → is_lt (place_cmp other one) ≡ false
later one other is =
    ap is_lt (nat_list_cmp_total.antisymm other one) ∙ reversed (place_cmp one other) is

second-false : (a b : Bool) → b ≡ false → (a && b) ≡ false
second-false true b is = is
second-false false b is = refl

first-false : (a b : Bool) → a ≡ false → (a && b) ≡ false
first-false a b is = ap (λ (x : Bool). x && b) is

both-true : (a b : Bool) → a ≡ true → b ≡ true → (a && b) ≡ true
both-true a b one two = ap (λ (x : Bool). x && b) one ∙ two

module _ (part : Keyed) (range : Range) (item : ci.Item) where
  abbrev key : ci.Item → List ℕ
  key one = key_of part one.bytes

  abbrev place : List ℕ
  place = key item

  abbrev IsHere : ci.Item → Type 0
  IsHere one = IsTrue (is_in range (key one))

  no-more : (after : List ci.Item)
      → AllByRecursion (λ (k : List ℕ). place_cmp place k ≡ Less) (map key after)
      → filter (λ (one : ci.Item). is_between range.low place false (key one)) after ≡ []
  no-more [] past = refl
  no-more (one ∷ after) past =
      ap (λ (b : Bool). cond b (one ∷ filter (λ (x : ci.Item).
      is_between range.low place false (key x)) after)
      (filter (λ (x : ci.Item). is_between range.low place false (key x)) after))
      (second-false (is_above range.low (key one)) (is_lt (place_cmp (key one) place))
      (later place (key one) past.0))
      ∙ no-more after past.1

  all-past : (after : List ci.Item) → All IsHere after
      → AllByRecursion (λ (k : List ℕ). place_cmp place k ≡ Less) (map key after)
      → filter (λ (one : ci.Item). is_between (Some place) range.high true (key one)) after
      ≡ after
  all-past [] inside past = refl
  all-past (one ∷ after) inside past =
      ap (λ (b : Bool). cond b (one ∷ filter (λ (x : ci.Item).
      is_between (Some place) range.high true (key x)) after)
      (filter (λ (x : ci.Item). is_between (Some place) range.high true (key x)) after))
      (both-true (is_lt (place_cmp place (key one))) (is_le (place_cmp (key one) range.high))
      (ap is_lt past.0) (in-most range (key one) (All-head IsHere one after inside)))
      ∙ ap (λ (xs : List ci.Item). one ∷ xs)
      (all-past after (All-tail IsHere one after inside) past.1)

  -- the key that comes last of these
  least-of : (before after : List ci.Item) (one : ci.Item)
      → AllByRecursion (λ (k : List ℕ). place_cmp (key one) k ≡ Less)
      (map key (before ++ item ∷ after))
      → place_cmp (key one) place ≡ Less
  least-of [] after one all = all.0
  least-of (other ∷ before) after one all = least-of before after one all.1

  past-here : (before after : List ci.Item)
      → IsStrictlySortedBy place_cmp (map key (before ++ item ∷ after))
      → AllByRecursion (λ (k : List ℕ). place_cmp place k ≡ Less) (map key after)
  past-here [] after sorted = sorted_head place_cmp place (map key after) sorted
  past-here (one ∷ before) after sorted =
      past-here before after (sorted_tail place_cmp (key one) (map key (before ++ item ∷ after))
      sorted)

  all-below : (before after : List ci.Item) → All IsHere (before ++ item ∷ after)
      → IsStrictlySortedBy place_cmp (map key (before ++ item ∷ after))
      → filter (λ (one : ci.Item). is_between range.low place false (key one))
      (before ++ item ∷ after) ≡ before
  all-below [] after inside sorted =
      ap (λ (b : Bool). cond b (item ∷ filter (λ (x : ci.Item).
      is_between range.low place false (key x)) after)
      (filter (λ (x : ci.Item). is_between range.low place false (key x)) after))
      (second-false (is_above range.low place) (is_lt (place_cmp place place))
      (ap is_lt (same_is_equal place)))
      ∙ no-more after (past-here [] after sorted)
  all-below (one ∷ before) after inside sorted =
      let rest : List ci.Item = before ++ item ∷ after in
      let less : place_cmp (key one) place ≡ Less =
      least-of before after one (sorted_head place_cmp (key one)
      (map key (before ++ item ∷ after)) sorted) in
      ap (λ (b : Bool). cond b (one ∷ filter (λ (x : ci.Item).
      is_between range.low place false (key x)) rest)
      (filter (λ (x : ci.Item). is_between range.low place false (key x)) rest))
      (both-true (is_above range.low (key one)) (is_lt (place_cmp (key one) place))
      (in-above range (key one) (All-head IsHere one rest inside)) (ap is_lt less))
      ∙ ap (λ (xs : List ci.Item). one ∷ xs)
      (all-below before after (All-tail IsHere one rest inside)
      (sorted_tail place_cmp (key one) (map key (before ++ item ∷ after)) sorted))

  only-above : (before after : List ci.Item) → All IsHere (before ++ item ∷ after)
      → IsStrictlySortedBy place_cmp (map key (before ++ item ∷ after))
      → filter (λ (one : ci.Item). is_between (Some place) range.high true (key one))
      (before ++ item ∷ after) ≡ after
  only-above [] after inside sorted =
      ap (λ (b : Bool). cond b (item ∷ filter (λ (x : ci.Item).
      is_between (Some place) range.high true (key x)) after)
      (filter (λ (x : ci.Item). is_between (Some place) range.high true (key x)) after))
      (first-false (is_lt (place_cmp place place)) (is_le (place_cmp place range.high))
      (ap is_lt (same_is_equal place)))
      ∙ all-past after (All-tail IsHere item after inside) (past-here [] after sorted)
  only-above (one ∷ before) after inside sorted =
      let rest : List ci.Item = before ++ item ∷ after in
      let less : place_cmp (key one) place ≡ Less =
      least-of before after one (sorted_head place_cmp (key one)
      (map key (before ++ item ∷ after)) sorted) in
      ap (λ (b : Bool). cond b (one ∷ filter (λ (x : ci.Item).
      is_between (Some place) range.high true (key x)) rest)
      (filter (λ (x : ci.Item). is_between (Some place) range.high true (key x)) rest))
      (first-false (is_lt (place_cmp place (key one))) (is_le (place_cmp (key one) range.high))
      (later (key one) place less))
      ∙ only-above before after (All-tail IsHere one rest inside)
      (sorted_tail place_cmp (key one) (map key (before ++ item ∷ after)) sorted)

  set-over : (before after : List ci.Item) (bytes : List ℕ)
      → All IsHere (before ++ item ∷ after)
      → IsStrictlySortedBy place_cmp (map key (before ++ item ∷ after))
      → before ++ written bytes true ∷ after
      ≡ items_set part range place (Some bytes) (before ++ item ∷ after)
  set-over before after bytes inside sorted =
      let new : ci.Item = written bytes true in
      ap (λ (xs : List ci.Item). xs ++ new ∷ after) (sym (all-below before after inside sorted))
      ∙ ap (λ (xs : List ci.Item). items_between part range.low place false
      (before ++ item ∷ after) ++ new ∷ xs) (sym (only-above before after inside sorted))

-- ---- the interval

of-parts : (block : Block) (s t : Shape) (xs ys : List ci.Item) (a b : Bool) → s ≡ t → xs ≡ ys
    → a ≡ b → ci.IsInterval Plain block (record { shape = s; items = xs; busy = a })
    → ci.IsInterval Plain block (record { shape = t; items = ys; busy = b })
of-parts block s t xs ys a b shapes_are items_are busy_is is =
    subst (λ (c : Bool). ci.IsInterval Plain block (record { shape = t; items = ys; busy = c }))
    busy_is
    (subst (λ (zs : List ci.Item).
    ci.IsInterval Plain block (record { shape = t; items = zs; busy = a })) items_are
    (subst (λ (u : Shape). ci.IsInterval Plain block (record { shape = u; items = xs; busy = a }))
    shapes_are is))

module _ (part : Keyed) (range : Range) (block : Block) (value : ci.Interval) (place : List ℕ)
    (len at : ℕ) (is : ci.IsInterval Plain block value)
    (stands : StandsHere part place len at value.items) (holds : HoldsRange part range block) where
  value-is : value ≡ (let v : ci.Interval = record {
    shape = shapes.Records;
    items = items_of block;
    busy = is_busy block;
  } in v)
  value-is = one_value Plain block value _ is holds.spelled

  items-are : items_of block ≡ stands.before ++ stands.item ∷ stands.after
  items-are = ap (λ (v : ci.Interval). v.items) (sym value-is) ∙ stands.parts

  -- it stands there, and is live
  pub stands-at : StandsAt value.items stands.before stands.item stands.after at len
  stands-at = record {
    parts = stands.parts;
    place = stands.begins;
    live = live-in stands.before (subst (All (IsKept part)) items-are holds.kept);
    long = stands.long;
  }
    where
      live-in : (before : List ci.Item) → All (IsKept part) (before ++ stands.item ∷ stands.after)
          → stands.item.live ≡ true
      live-in [] kept = (All-head (IsKept part) stands.item stands.after kept).live
      live-in (one ∷ before) kept =
          live-in before (All-tail (IsKept part) one (before ++ stands.item ∷ stands.after) kept)

  -- what is written over it gives the records with what is given in its place
  pub over-is-set : (bytes : List ℕ) (out : Block) → value.busy ≡ false
      → ci.IsInterval Plain out (record {
        shape = value.shape;
        items = stands.before ++ written bytes true ∷ stands.after;
        busy = value.busy;
      })
      → ci.IsInterval Plain out (record {
        shape = shapes.Records;
        items = items_set part range place (Some bytes) (items_of block);
        busy = false;
      })
  over-is-set bytes out idle made =
      let still : is_busy block ≡ false = sym (ap (λ (v : ci.Interval). v.busy) value-is) ∙ idle in
      let inside = subst (All (λ (item : ci.Item). IsTrue (is_in range (key_of part item.bytes))))
      items-are (holds.within still) in
      let sorted = subst (λ (xs : List ci.Item). IsStrictlySortedBy place_cmp
      (map (λ (item : ci.Item). key_of part item.bytes) xs)) items-are holds.ascends in
      of-parts out value.shape shapes.Records
      (stands.before ++ written bytes true ∷ stands.after)
      (items_set part range place (Some bytes) (items_of block)) value.busy false
      (ap (λ (v : ci.Interval). v.shape) value-is)
      (set-over part range stands.item stands.before stands.after bytes inside sorted
      ∙ ap (λ (p : List ℕ). items_set part range p (Some bytes)
      (stands.before ++ stands.item ∷ stands.after)) stands.key
      ∙ ap (λ (xs : List ci.Item). items_set part range place (Some bytes) xs) (sym items-are))
      idle made
