-- The records of an interval in a range are those from one number up to another.
use Rattle.std.proofs.Common.{◌≡◌, ℕ, ◌-◌, ◌≤◌, Bool, true, false, List, [], ◌∷◌}
use Rattle.std.proofs.Common.{◌++◌, length, take, drop, Option, Some, None, refl, sym, ap, subst}
use Rattle.std.proofs.Common.{◌∙◌, arith, true≢false, All, inl, inr, get_or}
use Rattle.std.specs.Prelude.{cond, filter, map, IsTrue}
use Rattle.std.specs.List.Sorted.{IsStrictlySortedBy}
use Rattle.std.specs.Ordering.{is_le, is_lt}
use Rattle.std.specs.declared.cmp.Ordering.TheVariants.{Less}
use Rattle.std.proofs.lemmas.Bool.{cases_lt}
use Rattle.std.proofs.lemmas.Cmp.{nat_list_cmp_total}
use Rattle.std.proofs.lemmas.List.{take-append-drop, take-take, drop-take, take-map, drop-map}
use Rattle.std.proofs.lemmas.List.{length-map, length-take, length-drop, get_or-take, get_or-drop}
use Rattle.std.proofs.lemmas.List.{append-nil, get_or-map}
use Rattle.std.proofs.lemmas.List.Elements.{All-head, All-tail, All-take, All-drop, filter-append}
use Rattle.std.proofs.lemmas.List.Elements.{All-nil}
use Rattle.std.proofs.lemmas.List.Kept.{IsStrictlySortedBy-filter}
use Rattle.vr_types.specs.Content.{place_cmp}
use Rattle.vr_types.specs.Image.{Block}
use Rattle.vr_ci_match.specs.declared.form.Form.TheVariants.{Plain}
use Rattle.vr_ci_match.specs.declared.form.Shape.TheVariants as shapes
use Rattle.vr_ci_match.specs.Fault.{is_busy}
use Rattle.vr_ci.specs.Interval as ci
use Rattle.vr_ci.proofs.CallerLemmas.{interval_says}
use Rattle.vr_space.specs.Room.{Range, is_in, is_above}
use Rattle.vr_space.specs.Keyed.{Keyed, HoldsRange, IsKept, items_of, key_of, placed}
use Rattle.vr_space.specs.Search.{AreUpTo, keys_of}
use Rattle.vr_space.proofs.CallerLemmas.{not_past, in-most, in-above, in-both}
use Rattle.vr_space.proofs.CallerLemmas.{lt_from_test}
use Rattle.vr_split.specs.Halves.{HasRange, IsBusyCopy, AreBefore}

-- ---- a filter that keeps what stands between two numbers

none-passes : {X : Type 0} (test : X → Bool) (xs : List X) → All (λ x. test x ≡ false) xs
    → filter test xs ≡ []
none-passes test [] all = refl
none-passes test (x ∷ xs) all =
    ap (λ (b : Bool). cond b (x ∷ filter test xs) (filter test xs))
    (All-head (λ y. test y ≡ false) x xs all)
    ∙ none-passes test xs (All-tail (λ y. test y ≡ false) x xs all)

each-passes : {X : Type 0} (test : X → Bool) (xs : List X) → All (λ x. test x ≡ true) xs
    → filter test xs ≡ xs
each-passes {X} test (x ∷ xs) all =
    ap (λ (b : Bool). cond b (x ∷ filter test xs) (filter test xs))
    (All-head (λ y. test y ≡ true) x xs all)
    ∙ ap (λ (ys : List X). x ∷ ys) (each-passes test xs (All-tail (λ y. test y ≡ true) x xs all))
each-passes test [] all = refl

pub passes-between : {X : Type 0} (test : X → Bool) (xs : List X) (from to : ℕ) → from ≤ to
    → All (λ x. test x ≡ false) (take from xs) → All (λ x. test x ≡ false) (drop to xs)
    → All (λ x. test x ≡ true) (drop from (take to xs)) → filter test xs ≡ drop from (take to xs)
passes-between {X} test xs from to order before past between =
    let first : filter test (take to xs) ≡ drop from (take to xs) =
    ap (filter test) (sym (take-append-drop from (take to xs)))
    ∙ filter-append test (take from (take to xs)) (drop from (take to xs))
    ∙ ap (λ (ys : List X). filter test ys ++ filter test (drop from (take to xs)))
    (take-take from to xs order)
    ∙ ap (λ (ys : List X). ys ++ filter test (drop from (take to xs)))
    (none-passes test (take from xs) before)
    ∙ each-passes test (drop from (take to xs)) between in
    ap (filter test) (sym (take-append-drop to xs))
    ∙ filter-append test (take to xs) (drop to xs)
    ∙ ap (λ (ys : List X). filter test (take to xs) ++ ys) (none-passes test (drop to xs) past)
    ∙ append-nil (filter test (take to xs)) ∙ first

-- ---- keys in a range

not-true : (b : Bool) → (b ≡ true → ⊥) → b ≡ false
not-true true is = absurd (is refl)
not-true false is = refl

low-out : (keys : List (List ℕ)) (low : Option (List ℕ)) (high : List ℕ) (n : ℕ)
    → AreBefore keys low n
    → All (λ key. is_in (record { low = low; high = high }) key ≡ false) (take n keys)
low-out keys None high n none =
    let empty : take n keys ≡ [] = ap (λ (k : ℕ). take k keys) none in
    subst (All (λ key. is_in (record { low = None; high = high }) key ≡ false)) (sym empty)
    (All-nil (λ key. is_in (record { low = None; high = high }) key ≡ false))
low-out keys (Some low) high n upto = λ k d lt. not-true _
    (λ it. not_past (get_or (take n keys) k d) low (upto.upto k d lt)
    (lt_from_test (place_cmp low (get_or (take n keys) k d))
    (in-above (record { low = Some low; high = high }) (get_or (take n keys) k d) it)))

high-out : (keys : List (List ℕ)) (low : Option (List ℕ)) (high : List ℕ) (n : ℕ)
    → AreUpTo keys high n
    → All (λ key. is_in (record { low = low; high = high }) key ≡ false) (drop n keys)
high-out keys low high n upto = λ k d lt. not-true _
    (λ it. not_past (get_or (drop n keys) k d) high
    (in-most (record { low = low; high = high }) (get_or (drop n keys) k d) it)
    (upto.past k d lt))

above-from : (keys : List (List ℕ)) (low : Option (List ℕ)) (n : ℕ) → AreBefore keys low n
    → All (λ key. is_above low key ≡ true) (drop n keys)
above-from keys None n none = λ k d lt. refl
above-from keys (Some low) n upto = λ k d lt. ap is_lt (upto.past k d lt)

all-in : (keys : List (List ℕ)) (low : Option (List ℕ)) (high : List ℕ) (from to : ℕ)
    → from ≤ to → AreBefore keys low from → AreUpTo keys high to
    → All (λ key. is_in (record { low = low; high = high }) key ≡ true) (drop from (take to keys))
all-in keys low high from to order first last =
    let cut : drop from (take to keys) ≡ take (to - from) (drop from keys) =
    ap (λ (n : ℕ). drop from (take n keys)) (omega (arith, order))
    ∙ drop-take from (to - from) keys in
    let above : All (λ key. is_above low key ≡ true) (drop from (take to keys)) =
    subst (All (λ key. is_above low key ≡ true)) (sym cut)
    (All-take (λ key. is_above low key ≡ true) (to - from) (drop from keys)
    (above-from keys low from first)) in
    let most : All (λ key. IsTrue (is_le (place_cmp key high))) (drop from (take to keys)) =
    All-drop (λ key. IsTrue (is_le (place_cmp key high))) from (take to keys) last.upto in
    λ k d lt. in-both (record { low = low; high = high }) (get_or (drop from (take to keys)) k d)
    (above k d lt) (most k d lt)

-- the low place is before the high one, so no key is up to the low one and past the high one
pub in-order : (keys : List (List ℕ)) (low : Option (List ℕ)) (high : List ℕ) (from to : ℕ)
    → is_above low high ≡ true → AreBefore keys low from → AreUpTo keys high to → from ≤ to
in-order keys None high from to above first last = omega (arith, first)
in-order keys (Some low) high from to above first last =
    elim (cases_lt to from) [
      | inl less ↦
          let key : List ℕ = get_or keys to [] in
          let most : is_le (place_cmp key low) ≡ true =
          subst (λ (q : List ℕ). is_le (place_cmp q low) ≡ true) (get_or-take from keys to [] less)
          (first.upto to []
          (omega (arith, length-take from keys, first.within, less))) in
          let there : get_or (drop to keys) 0 [] ≡ key = get_or-drop to keys 0 []
          ∙ ap (λ (n : ℕ). get_or keys n []) (omega arith) in
          let past : place_cmp high key ≡ Less =
          subst (λ (q : List ℕ). place_cmp high q ≡ Less) there
          (last.past 0 [] (omega (arith, length-drop to keys, first.within, less))) in
          absurd (not_past key low most
          (nat_list_cmp_total.trans low high key (lt_from_test (place_cmp low high) above) past))
      | inr most ↦ most
    ]

-- ---- an interval of such records

from-map : {X Y : Type 0} (P : Y → Type 0) (f : X → Y) (xs : List X) → All P (map f xs)
    → All (λ x. P (f x)) xs
from-map P f xs all = λ k d lt. subst P (get_or-map f xs k d (f d) lt)
    (all k (f d) (omega (arith, lt, length-map xs f)))

-- a filter by what is made of each
filter-made : {X Y : Type 0} (f : X → Y) (test : Y → Bool) (xs : List X)
    → filter test (map f xs) ≡ map f (filter (λ x. test (f x)) xs)
filter-made f test [] = refl
filter-made {X} {Y} f test (x ∷ xs) = by (test (f x)) (filter-made f test xs)
  where
    made : List Y
    made = filter test (map f xs)

    those : List X
    those = filter (λ y. test (f y)) xs

    by : (b : Bool) → made ≡ map f those
        → cond b (f x ∷ made) made ≡ map f (cond b (x ∷ those) those)
    by true more = ap (λ (ys : List Y). f x ∷ ys) more
    by false more = more

-- the records of a range are those from one number up to another
module _ (part : Keyed) (block : Block) (low : Option (List ℕ)) (high : List ℕ) (from to : ℕ)
    (first : AreBefore (keys_of part block) low from) (last : AreUpTo (keys_of part block) high to)
    (above : is_above low high ≡ true) where
  abbrev taken : Range
  taken = record { low = low; high = high }

  abbrev key : ci.Item → List ℕ
  key item = key_of part item.bytes

  abbrev segment : List ci.Item
  segment = drop from (take to (items_of block))

  pub order : from ≤ to
  order = in-order (keys_of part block) low high from to above first last

  pub within-items : to ≤ length (items_of block)
  within-items = omega (arith, last.within, length-map (items_of block) key)

  keys-taken : (n : ℕ) → take n (keys_of part block) ≡ map key (take n (items_of block))
  keys-taken n = take-map key n (items_of block)

  keys-segment : drop from (take to (keys_of part block)) ≡ map key segment
  keys-segment = ap (drop from) (keys-taken to) ∙ drop-map key from (take to (items_of block))

  segment-in : All (λ item. is_in taken (key item) ≡ true) segment
  segment-in = from-map (λ q. is_in taken q ≡ true) key segment
      (subst (All (λ q. is_in taken q ≡ true)) keys-segment
      (all-in (keys_of part block) low high from to order first last))

  is-segment : filter (λ item. is_in taken (key item)) (items_of block) ≡ segment
  is-segment = passes-between (λ item. is_in taken (key item)) (items_of block) from to order
      (from-map (λ q. is_in taken q ≡ false) key (take from (items_of block))
      (subst (All (λ q. is_in taken q ≡ false)) (keys-taken from)
      (low-out (keys_of part block) low high from first)))
      (from-map (λ q. is_in taken q ≡ false) key (drop to (items_of block))
      (subst (All (λ q. is_in taken q ≡ false)) (drop-map key to (items_of block))
      (high-out (keys_of part block) low high to last)))
      segment-in

  -- an interval of them has the records of the range
  pub has-range : (outer : Range) (bytes : Block) → HoldsRange part outer block
      → length bytes ≡ length block
      → ci.IsInterval Plain bytes (record {
        shape = shapes.Records;
        items = drop from (take to (items_of block));
        busy = false;
      })
      → HasRange part (record { low = low; high = high }) block bytes
  has-range outer bytes holds long interval =
      let value : ci.Interval = record {
        shape = shapes.Records;
        items = drop from (take to (items_of block));
        busy = false;
      } in
      let says = interval_says Plain bytes value interval refl in
      let items : segment ≡ items_of bytes = says.0 in
      let busy : false ≡ is_busy bytes = says.1 in
      let kept : All (IsKept part) (items_of bytes) =
      subst (All (IsKept part)) items
      (All-drop (IsKept part) from (take to (items_of block))
      (All-take (IsKept part) to (items_of block) holds.kept)) in
      let sorted : IsStrictlySortedBy place_cmp (map key (items_of bytes)) =
      subst (λ (xs : List ci.Item). IsStrictlySortedBy place_cmp (map key xs)) items
      (subst (IsStrictlySortedBy place_cmp)
      (filter-made key (is_in taken) (items_of block) ∙ ap (map key) is-segment)
      (IsStrictlySortedBy-filter place_cmp (is_in taken) (keys_of part block) holds.ascends)) in
      record {
        holds = record {
          spelled = subst (λ (b : Bool). ci.IsInterval Plain bytes (record {
            shape = shapes.Records;
            items = items_of bytes;
            busy = b;
          })) busy
              (subst (λ (xs : List ci.Item). ci.IsInterval Plain bytes (record {
                shape = shapes.Records;
                items = xs;
                busy = false;
              })) items interval);
          size = long ∙ holds.size;
          kept = kept;
          ascends = sorted;
          within = λ idle. subst (λ (xs : List ci.Item).
              All (λ item. IsTrue (is_in taken (key item))) xs) items segment-in;
        };
        idle = sym busy;
        records = ap (map (placed part)) (sym items) ∙ ap (map (placed part)) (sym is-segment)
            ∙ sym (filter-made (placed part) (λ entry. is_in taken entry.0) (items_of block));
      }

-- an interval of all records of another, and busy
pub busy-copy : (part : Keyed) (range : Range) (block bytes : Block) → HoldsRange part range block
    → length bytes ≡ length block
    → ci.IsInterval Plain bytes (record {
      shape = shapes.Records;
      items = items_of block;
      busy = true;
    })
    → IsBusyCopy part block bytes
busy-copy part range block bytes holds long interval =
    let value : ci.Interval =
    record { shape = shapes.Records; items = items_of block; busy = true } in
    let says = interval_says Plain bytes value interval refl in
    let items : items_of block ≡ items_of bytes = says.0 in
    let busy : true ≡ is_busy bytes = says.1 in
    record {
      holds = λ other. record {
        spelled = subst (λ (b : Bool). ci.IsInterval Plain bytes (record {
          shape = shapes.Records;
          items = items_of bytes;
          busy = b;
        })) busy
            (subst (λ (xs : List ci.Item). ci.IsInterval Plain bytes (record {
              shape = shapes.Records;
              items = xs;
              busy = true;
            })) items interval);
        size = long ∙ holds.size;
        kept = subst (All (IsKept part)) items holds.kept;
        ascends = subst (λ (xs : List ci.Item). IsStrictlySortedBy place_cmp
            (map (λ (item : ci.Item). key_of part item.bytes) xs)) items holds.ascends;
        within = λ idle. absurd (true≢false (busy ∙ idle));
      };
      records = ap (map (placed part)) (sym items);
      busy = sym busy;
    }
