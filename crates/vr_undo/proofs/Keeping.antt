-- The lists of numbers are those of what is kept, once a record is added or a before-image is taken
-- out.
use Rattle.std.proofs.Common.{◌≡◌, ℕ, ◌+◌, ◌<◌, ◌≤◌, Bool, true, false, cond, not, List, [], ◌∷◌, ◌++◌}
use Rattle.std.proofs.Common.{suc, take, drop, length, get_or, set, filter, Option, Some, None, refl, sym, ap, subst}
use Rattle.std.proofs.Common.{◌∙◌, ◌⊎◌, inl, inr, arith, ◌==◌, eqb-true, eq-eqb}
use Rattle.std.specs.Prelude.{All, is_some, ltb}
use Rattle.std.specs.List.{Contains, insert, remove}
use Rattle.std.specs.List.Sorted.{IsPartitionPoint, IsPermutation}
use Rattle.std.specs.Option.{option_or}
use Rattle.std.specs.Ordering.{is_le, is_lt, ordering_reverse}
use Rattle.std.specs.declared.cmp.Ordering.{Ordering}
use Rattle.std.specs.declared.cmp.Ordering.TheVariants.{Less, Equal, Greater}
use Rattle.std.proofs.lemmas.Bool.{cases_lt, true≢false, false≢true}
use Rattle.std.proofs.lemmas.Cmp.{nat_list_cmp_total}
use Rattle.std.proofs.lemmas.List.{get_or_append_left, get_or_default, get_or_push, get_or-set_other}
use Rattle.std.proofs.lemmas.List.{get_or-set_same, length-set, length_push}
use Rattle.std.proofs.lemmas.List.Edits.{get_or-remove_below, length-remove}
use Rattle.std.proofs.lemmas.List.Elements.{All-append, All-drop, All-take}
use Rattle.std.proofs.lemmas.List.Elements.{All-cons, All-filter, All-push, All-set, All-tail}
use Rattle.std.proofs.lemmas.List.Elements.{All-weaker}
use Rattle.std.proofs.lemmas.List.Elements.{filter_passes}
use Rattle.std.proofs.lemmas.List.Kept.{IsSortedBy-filter}
use Rattle.std.proofs.lemmas.List.Sorted.{All-permutation, Contains-permutation}
use Rattle.std.proofs.lemmas.List.Sorted.{IsPermutation-insert, IsPermutation-remove}
use Rattle.std.proofs.lemmas.List.Sorted.{IsStrictWeakOrder-by_number, ranks_by}
use Rattle.vr_types.specs.Content.{place_cmp}
use Rattle.vr_undo.specs.Found.{no_record}
use Rattle.vr_undo.specs.Lengths.{AreShort, IsShort}
use Rattle.vr_undo.specs.Order.{AreAlike, IsKept}
use Rattle.vr_undo.specs.Order.{AreNumbers, IsAlike, IsLive, IsOrder, has_key, key_at}
use Rattle.vr_undo.specs.Order.{key_by, key_in}
use Rattle.vr_undo.specs.Records.{put_out}
use Rattle.vr_undo.specs.Searched.{out_of, record_at}
use Rattle.vr_undo.specs.declared.before.Before.{Before}
use Rattle.vr_undo.specs.declared.record.KeptRecord.{KeptRecord}
use Rattle.vr_undo.proofs.Ordered.{contains-filter, contains-rest, insert-sorted, remove-sorted}
use Rattle.vr_undo.proofs.Ordered.{resorted}

abbrev comes : List KeptRecord → ℕ → ℕ → Bool
comes records one other = is_lt (place_cmp (key_at records one) (key_at records other))

contains-first : {X : Type 0} (x : X) (xs : List X) → Contains (x ∷ xs) x
contains-first x xs = (0, omega arith, refl)

contains-later : {X : Type 0} (y : X) (xs : List X) (x : X) → Contains xs x
    → Contains (y ∷ xs) x
contains-later y xs x there = (suc there.0, omega (arith, there.1), there.2)

-- ---- a record is added

module _ (records : List KeptRecord) (made : KeptRecord) where
  abbrev new : ℕ
  new = length records

  abbrev more : List KeptRecord
  more = records ++ made ∷ []

  still : (number : ℕ) → number < new → record_at more number ≡ record_at records number
  still number within = get_or_append_left records (made ∷ []) no_record number within

  last : record_at more new ≡ made
  last = get_or_push records made no_record new refl

  longer-by-one : length more ≡ new + 1
  longer-by-one = length_push records made

  last-of : (number : ℕ) → number < length more → new ≤ number → number ≡ new
  last-of number within past = omega (arith, longer-by-one, within, past)

  module _ (order : List ℕ) (ordered : IsOrder records order) (at : ℕ)
      (fits : at ≤ length order)
      (parts : IsPartitionPoint
      (λ n. is_le (place_cmp (key_at records n) (key_in made)) ≡ true)
      (λ n. is_le (place_cmp (key_at records n) (key_in made)) ≡ false) order at) where
    abbrev all : List ℕ
    all = insert order at new

    same-key : (number : ℕ) → number < new → key_at more number ≡ key_at records number
    same-key number within = ap key_in (still number within)

    moved : IsPermutation (new ∷ order) all
    moved = IsPermutation-insert order at new

    not-before : (k : ℕ) (d : ℕ) → k < at → comes more new (get_or order k d) ≡ false
    not-before k d below =
        ap (λ key. is_lt (place_cmp key (key_at more (get_or order k d)))) (ap key_in last)
        ∙ ap (λ key. is_lt (place_cmp (key_in made) key))
        (same-key (get_or order k d) (ordered.numbers k d (omega (arith, below, fits))))
        ∙ ap is_lt (nat_list_cmp_total.antisymm (key_in made) (key_at records (get_or order k d)))
        ∙ by_order (place_cmp (key_at records (get_or order k d)) (key_in made))
        (parts.0 k d (omega arith) below)
      where
        by_order : (o : Ordering) → is_le o ≡ true → is_lt (ordering_reverse o) ≡ false
        by_order Less is = refl
        by_order Equal is = refl
        by_order Greater is = absurd (false≢true is)

    not-after : (k : ℕ) (d : ℕ) → at ≤ k → k < length order
        → comes more (get_or order k d) new ≡ false
    not-after k d past within =
        ap (λ key. is_lt (place_cmp (key_at more (get_or order k d)) key)) (ap key_in last)
        ∙ ap (λ key. is_lt (place_cmp key (key_in made)))
        (same-key (get_or order k d) (ordered.numbers k d within))
        ∙ by_order (place_cmp (key_at records (get_or order k d)) (key_in made))
        (parts.1 k d past within)
      where
        by_order : (o : Ordering) → is_le o ≡ false → is_lt o ≡ false
        by_order Less is = absurd (true≢false is)
        by_order Equal is = absurd (true≢false is)
        by_order Greater is = refl

    pub order-more : IsOrder more all
    order-more = record {
      numbers =
          All-permutation (λ n. n < length more) (new ∷ order) all moved
          (All-cons (λ n. n < length more) new order (omega (arith, longer-by-one))
          (All-weaker (λ n. n < new) (λ n. n < length more)
          (λ n within. omega (arith, within, longer-by-one)) order ordered.numbers));
      all = λ number within is. by_number number within is (cases_lt number new);
      sorted =
          insert-sorted (comes more) order at new fits
          (resorted (comes records) (comes more) (λ n. n < new) order ordered.numbers
          (λ one other of_one of_other.
          ap (λ key. is_lt (place_cmp key (key_at more other))) (same-key one of_one)
          ∙ ap (λ key. is_lt (place_cmp (key_at records one) key)) (same-key other of_other))
          ordered.sorted) not-before not-after;
    }
      where
        by_number : (number : ℕ) → number < length more → has_key (record_at more number) ≡ true
            → ((number < new) ⊎ (new ≤ number)) → Contains all number
        by_number number within is (inl before) =
            Contains-permutation (new ∷ order) all number moved
            (contains-later new order number
            (ordered.all number before (sym (ap has_key (still number before)) ∙ is)))
        by_number number within is (inr past) =
            subst (Contains all) (sym (last-of number within past))
            (Contains-permutation (new ∷ order) all new moved (contains-first new order))

-- ---- a before-image is taken out

module _ (records : List KeptRecord) (number : ℕ) (within : number < length records) where
  abbrev out : List KeptRecord
  out = set records number (put_out (record_at records number))

  same-length : length out ≡ length records
  same-length = length-set records number (put_out (record_at records number))

  here : record_at out number ≡ put_out (record_at records number)
  here = get_or-set_same records number (put_out (record_at records number)) no_record within

  elsewhere : (other : ℕ) → (other ≡ number → ⊥) → record_at out other ≡ record_at records other
  elsewhere other apart =
      get_or-set_other records number other (put_out (record_at records number)) no_record apart

  apart-by : (other : ℕ) → not (other == number) ≡ true → other ≡ number → ⊥
  apart-by other is same = false≢true (sym (ap not (eq-eqb other number same)) ∙ is)

  same-or-not : (other : ℕ) → (other ≡ number) ⊎ (not (other == number) ≡ true)
  same-or-not other = by_test (other == number) refl
    where
      by_test : (b : Bool) → (other == number) ≡ b
          → (other ≡ number) ⊎ (not (other == number) ≡ true)
      by_test true is = inl (eqb-true other number is)
      by_test false is = inr (ap not is)

  narrower : (numbers : List ℕ) → AreNumbers records numbers → AreNumbers out numbers
  narrower numbers are =
      All-weaker (λ n. n < length records) (λ n. n < length out)
      (λ n inside. omega (arith, inside, same-length)) numbers are

  pub alike-out : All IsAlike records → All IsAlike out
  alike-out alike =
      All-set IsAlike records number (put_out (record_at records number))
      (by_logged (record_at records number).logged) alike
    where
      by_logged : (logged : Option Before)
          → IsAlike (let kept : KeptRecord =
          record (record_at records number) { logged = logged; kept = None } in kept)
      by_logged None = tt
      by_logged (Some before) = tt

  module _ (order : List ℕ) (ordered : IsOrder records order) where
    abbrev left : List ℕ
    left = filter (λ other. not (other == number)) order

    -- it had no other before-image
    order-left : (record_at records number).logged ≡ None → IsOrder out left
    order-left none = record {
      numbers =
          narrower left (All-filter (λ other. not (other == number)) (λ n. n < length records) order
          ordered.numbers);
      all = λ other inside is. by_number other inside is (same-or-not other);
      sorted =
          resorted (comes records) (comes out) (λ other. not (other == number) ≡ true) left
          (filter_passes (λ other. not (other == number)) order)
          (λ one other of_one of_other.
          ap (λ key. is_lt (place_cmp key (key_at out other)))
          (ap key_in (elsewhere one (apart-by one of_one)))
          ∙ ap (λ key. is_lt (place_cmp (key_at records one) key))
          (ap key_in (elsewhere other (apart-by other of_other))))
          (IsSortedBy-filter (comes records) (ranks_by nat_list_cmp_total (key_at records))
          (λ other. not (other == number)) order ordered.sorted);
    }
      where
        no-key : has_key (record_at out number) ≡ false
        no-key =
            ap has_key here
            ∙ ap (λ (logged : Option Before). is_some (option_or logged None)) none

        by_number : (other : ℕ) → other < length out → has_key (record_at out other) ≡ true
            → ((other ≡ number) ⊎ (not (other == number) ≡ true)) → Contains left other
        by_number other inside is (inl same) =
            absurd (true≢false (sym is ∙ ap (λ n. has_key (record_at out n)) same ∙ no-key))
        by_number other inside is (inr apart) =
            contains-filter (λ n. not (n == number)) order other
            (ordered.all other (omega (arith, inside, same-length))
            (sym (ap has_key (elsewhere other (apart-by other apart))) ∙ is)) apart

    -- the log has it still
    order-same : (before : Before) → (record_at records number).logged ≡ Some before
        → IsOrder out order
    order-same before some = record {
      numbers = narrower order ordered.numbers;
      all = λ other inside is.
          ordered.all other (omega (arith, inside, same-length))
          (has-before other (same-or-not other) is);
      sorted =
          resorted (comes records) (comes out) (λ n. n < length records) order ordered.numbers
          (λ one other of_one of_other.
          ap (λ key. is_lt (place_cmp key (key_at out other))) (key-same one)
          ∙ ap (λ key. is_lt (place_cmp (key_at records one) key)) (key-same other))
          ordered.sorted;
    }
      where
        one-key : (kept : KeptRecord) → kept.logged ≡ Some before
            → option_or kept.logged kept.kept ≡ option_or (put_out kept).logged (put_out kept).kept
        one-key kept is =
            ap (λ (logged : Option Before). option_or logged kept.kept) is
            ∙ sym (ap (λ (logged : Option Before). option_or logged None) is)

        image-same : (other : ℕ) → ((other ≡ number) ⊎ (not (other == number) ≡ true))
            → option_or (record_at out other).logged (record_at out other).kept
            ≡ option_or (record_at records other).logged (record_at records other).kept
        image-same other (inl same) =
            ap (λ n. option_or (record_at out n).logged (record_at out n).kept) same
            ∙ ap (λ (kept : KeptRecord). option_or kept.logged kept.kept) here
            ∙ sym (one-key (record_at records number) some)
            ∙ sym (ap (λ n. option_or (record_at records n).logged (record_at records n).kept) same)
        image-same other (inr apart) =
            ap (λ (kept : KeptRecord). option_or kept.logged kept.kept)
            (elsewhere other (apart-by other apart))

        key-same : (other : ℕ) → key_at out other ≡ key_at records other
        key-same other =
            ap key_by (image-same other (same-or-not other))

        has-before : (other : ℕ) → ((other ≡ number) ⊎ (not (other == number) ≡ true))
            → has_key (record_at out other) ≡ true → has_key (record_at records other) ≡ true
        has-before other which is = sym (ap is_some (image-same other which)) ∙ is

    pub order-out : IsOrder out (cond (is_some (record_at records number).logged) order left)
    order-out = by_logged (record_at records number).logged refl
      where
        by_logged : (logged : Option Before) → (record_at records number).logged ≡ logged
            → IsOrder out (cond (is_some logged) order left)
        by_logged None is = order-left is
        by_logged (Some before) is = order-same before is

  pub live-out : (live : List ℕ) (at : ℕ) → at < length live → get_or live at 0 ≡ number
      → IsLive records live → IsLive out (remove live at)
  live-out live at inside at_is living = record {
    numbers = narrower (remove live at) (numbers-left);
    all = λ other within is. by_number other within is (same-or-not other);
    sorted =
        remove-sorted (λ one other. ltb one other) (IsStrictWeakOrder-by_number (λ n. n)) live at
        inside living.sorted;
  }
    where
      moved : IsPermutation live (number ∷ remove live at)
      moved =
          IsPermutation-remove live at number inside
          (sym (get_or_default live at number 0 inside ∙ at_is))

      numbers-left : AreNumbers records (remove live at)
      numbers-left =
          All-tail (λ n. n < length records) number
          (remove live at)
          (All-permutation (λ n. n < length records) live (number ∷ remove live at) moved
          living.numbers)

      by_number : (other : ℕ) → other < length out → is_some (record_at out other).kept ≡ true
          → ((other ≡ number) ⊎ (not (other == number) ≡ true)) → Contains (remove live at) other
      by_number other within is (inl same) =
          absurd (false≢true (sym (ap (λ n. is_some (record_at out n).kept) same
          ∙ ap (λ (kept : KeptRecord). is_some kept.kept) here) ∙ is))
      by_number other within is (inr apart) =
          contains-rest number (remove live at) other (apart-by other apart)
          (Contains-permutation live (number ∷ remove live at) other moved
          (living.all other (omega (arith, within, same-length))
          (sym (ap (λ (kept : KeptRecord). is_some kept.kept)
          (elsewhere other (apart-by other apart))) ∙ is)))

-- ---- the last record is dropped

module _ (records : List KeptRecord) (at : ℕ) (is_end : at + 1 ≡ length records) where
  abbrev fewer : List KeptRecord
  fewer = remove records at

  abbrev other_than : ℕ → Bool
  other_than number = not (number == at)

  end-within : at < length records
  end-within = omega (arith, is_end)

  length-fewer : length fewer ≡ at
  length-fewer = omega (arith, is_end, length-remove records at end-within)

  kept-there : (number : ℕ) → number < at → record_at fewer number ≡ record_at records number
  kept-there number below = get_or-remove_below records at no_record number below end-within

  below-end : (number : ℕ) → number < length records → other_than number ≡ true → number < at
  below-end number within apart = by_order (cases_lt number at)
    where
      by_order : ((number < at) ⊎ (at ≤ number)) → number < at
      by_order (inl below) = below
      by_order (inr past) =
          let same : number ≡ at = omega (arith, is_end, within, past) in
          absurd (false≢true (sym (ap not (eq-eqb number at same)) ∙ apart))

  other-below : (number : ℕ) → number < at → other_than number ≡ true
  other-below number below = by_test (number == at) refl
    where
      by_test : (b : Bool) → (number == at) ≡ b → not b ≡ true
      by_test true is = absurd (omega (arith, eqb-true number at is, below))
      by_test false is = refl

  numbers-below : (numbers : List ℕ) → AreNumbers records numbers
      → All (λ number. number < at) (filter other_than numbers)
  numbers-below numbers are k d within =
      below-end (get_or (filter other_than numbers) k d)
      (All-filter other_than (λ number. number < length records) numbers are k d within)
      (filter_passes other_than numbers k d within)

  numbers-fewer : (numbers : List ℕ) → AreNumbers records numbers
      → AreNumbers fewer (filter other_than numbers)
  numbers-fewer numbers are =
      All-weaker (λ number. number < at) (λ number. number < length fewer)
      (λ number below. omega (arith, below, length-fewer)) (filter other_than numbers)
      (numbers-below numbers are)

  below-of : (number : ℕ) → number < length fewer → number < at
  below-of number within = omega (arith, within, length-fewer)

  pub order-fewer : (order : List ℕ) → IsOrder records order
      → IsOrder fewer (filter other_than order)
  order-fewer order ordered = record {
    numbers = numbers-fewer order ordered.numbers;
    all = λ number within is.
        let below = below-of number within in
        contains-filter other_than order number
        (ordered.all number (omega (arith, below, is_end))
        (sym (ap has_key (kept-there number below)) ∙ is)) (other-below number below);
    sorted =
        resorted (comes records) (comes fewer) (λ number. number < at) (filter other_than order)
        (numbers-below order ordered.numbers)
        (λ one other of_one of_other.
        ap (λ key. is_lt (place_cmp key (key_at fewer other))) (ap key_in (kept-there one of_one))
        ∙ ap (λ key. is_lt (place_cmp (key_at records one) key))
        (ap key_in (kept-there other of_other)))
        (IsSortedBy-filter (comes records) (ranks_by nat_list_cmp_total (key_at records))
        other_than order ordered.sorted);
  }

  pub live-fewer : (live : List ℕ) → IsLive records live → IsLive fewer (filter other_than live)
  live-fewer live living = record {
    numbers = numbers-fewer live living.numbers;
    all = λ number within is.
        let below = below-of number within in
        contains-filter other_than live number
        (living.all number (omega (arith, below, is_end))
        (sym (ap (λ (kept : KeptRecord). is_some kept.kept) (kept-there number below)) ∙ is))
        (other-below number below);
    sorted =
        IsSortedBy-filter (λ one other. ltb one other) (IsStrictWeakOrder-by_number (λ n. n))
        other_than live living.sorted;
  }

-- ---- all that is known

-- no more records, in lists of the same room
pub kept-fewer : (records left : List KeptRecord) (order live order_left live_left : List ℕ)
    (most most_live most_left most_live_left : ℕ) → IsKept records order live most most_live
    → AreShort left → AreAlike left → length left ≤ length records → IsOrder left order_left
    → IsLive left live_left → most_left ≡ most → most_live_left ≡ most_live
    → IsKept left order_left live_left most_left most_live_left
kept-fewer records left order live order_left live_left most most_live most_left most_live_left
    kept short alike fewer ordered living same same_live = record {
      short = short;
      alike = alike;
      ordered = ordered;
      living = living;
      room = omega (arith, fewer, kept.room, same);
      live_room = omega (arith, fewer, kept.live_room, same_live);
    }

pub all-removed : (P : KeptRecord → Type 0) (records : List KeptRecord) (at : ℕ) → All P records
    → All P (remove records at)
all-removed P records at all =
    All-append P (take at records) (drop (suc at) records) (All-take P at records all)
    (All-drop P (suc at) records all)

pub kept-more : (records : List KeptRecord) (made : KeptRecord)
    (order live order_more live_more : List ℕ) (most most_live more more_live : ℕ)
    → IsKept records order live most most_live → IsShort made → IsAlike made
    → length records < more → length records < more_live
    → IsOrder (records ++ made ∷ []) order_more → IsLive (records ++ made ∷ []) live_more
    → IsKept (records ++ made ∷ []) order_more live_more more more_live
kept-more records made order live order_more live_more most most_live more more_live kept short
    alike room live_room ordered living = record {
      short = All-push IsShort records made kept.short short;
      alike = All-push IsAlike records made kept.alike alike;
      ordered = ordered;
      living = living;
      room = omega (arith, room, length_push records made);
      live_room = omega (arith, live_room, length_push records made);
    }

pub kept-out : (records : List KeptRecord) (order live order_left live_left : List ℕ)
    (most most_live most_left most_live_left : ℕ) (at : ℕ)
    → IsKept records order live most most_live → at < length live
    → order_left ≡ cond (is_some (record_at records (get_or live at 0)).logged) order
    (filter (λ other. not (other == get_or live at 0)) order)
    → live_left ≡ remove live at → most_left ≡ most → most_live_left ≡ most_live
    → IsKept (out_of records (get_or live at 0)) order_left live_left most_left most_live_left
kept-out records order live order_left live_left most most_live most_left most_live_left at kept
    inside order_is live_is same same_live =
    let number = get_or live at 0 in
    let within = kept.living.numbers at 0 inside in
    kept-fewer records (out_of records number) order live order_left live_left most most_live
    most_left most_live_left kept
    (All-set IsShort records number (put_out (record_at records number))
    (kept.short number no_record within) kept.short)
    (alike-out records number within kept.alike)
    (omega (arith, length-set records number (put_out (record_at records number))))
    (subst (IsOrder (out_of records number)) (sym order_is)
    (order-out records number within order kept.ordered))
    (subst (IsLive (out_of records number)) (sym live_is)
    (live-out records number within live at inside refl kept.living)) same same_live

pub fewer-removed : {X : Type 0} (xs : List X) (at : ℕ) → at < length xs
    → length (remove xs at) ≤ length xs
fewer-removed xs at inside = omega (arith, length-remove xs at inside)

pub fewer-filtered : {X : Type 0} (test : X → Bool) (xs : List X)
    → length (filter test xs) ≤ length xs
fewer-filtered test [] = omega arith
fewer-filtered test (x ∷ xs) = by_test (test x) (fewer-filtered test xs)
  where
    by_test : (b : Bool) → length (filter test xs) ≤ length xs
        → length (cond b (x ∷ filter test xs) (filter test xs)) ≤ length (x ∷ xs)
    by_test true fewer = omega (arith, fewer)
    by_test false fewer = omega (arith, fewer)
