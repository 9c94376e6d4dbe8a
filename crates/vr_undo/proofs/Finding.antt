-- A search in the order of places finds what a walk over all records does.
use Rattle.std.proofs.Common.{◌≡◌, ℕ, ◌<◌, ◌≤◌, Bool, true, false, ◌&&◌, ◌||◌}
use Rattle.std.proofs.Common.{List, [], ◌∷◌, ◌++◌, length, Option, Some, None}
use Rattle.std.proofs.Common.{refl, sym, ap, subst, ◌∙◌, ◌⊎◌, inl, inr, arith, ◌==◌, eqb-true}
use Rattle.std.specs.Prelude.{bytes_eq, leb, max, option_map}
use Rattle.std.specs.Cmp.{both_ways}
use Rattle.std.specs.List.{Contains, list_any}
use Rattle.std.specs.Ordering.{is_eq}
use Rattle.std.specs.declared.cmp.Ordering.{Ordering}
use Rattle.std.specs.declared.cmp.Ordering.TheVariants.{Less, Equal, Greater}
use Rattle.std.proofs.Math.Nat.{max-eq_left, max_comm}
use Rattle.std.proofs.lemmas.Bool.{cases_lt, le-leb, leb-true, true≢false, false≢true}
use Rattle.std.proofs.lemmas.List.{append-nil, append_assoc, get_or_default}
use Rattle.std.proofs.lemmas.List.Elements.{All-append, Contains-append_left, Contains-append_right}
use Rattle.std.proofs.lemmas.List.Folds.{Any-from_list_any, list_any-append, list_any_at}
use Rattle.std.proofs.lemmas.Slice.Eq.{bytes_eq-Decides}
use Rattle.vr_types.specs.Content.{place_cmp}
use Rattle.vr_types.specs.Locks.{same_unit}
use Rattle.vr_types.proofs.CallerLemmas.{same_place}
use Rattle.vr_types.specs.declared.unit.Unit.{Unit as UnitOfRecovery}
use Rattle.vr_space.specs.Room.{length_at}
use Rattle.vr_undo.specs.Found.{no_record}
use Rattle.vr_undo.specs.Lengths.{is_there, length_there, length_when, longer}
use Rattle.vr_undo.specs.Order.{AreAlike, AreNumbers, IsAlike, IsOrder, has_key}
use Rattle.vr_undo.specs.Order.{key_at, key_in, key_of, shelf_of}
use Rattle.vr_undo.specs.PutBack.{lengths_kept}
use Rattle.vr_undo.specs.Records.{has_at, image_of, images_in, some_at}
use Rattle.vr_undo.specs.Searched.{has_image_at, image_by, image_with}
use Rattle.vr_undo.specs.Searched.{images_by, is_as_long, is_longer_at, record_at}
use Rattle.vr_undo.specs.declared.before.Before.{Before}
use Rattle.vr_undo.specs.declared.record.KeptRecord.{KeptRecord}
use Rattle.vr_undo.specs.declared.record.Which.{Which}
use Rattle.vr_undo.specs.declared.record.Which.TheVariants.{Logged, Kept}
use Rattle.vr_undo.proofs.Longest.{longest-more}
use Rattle.vr_undo.proofs.Recording.{any-image}

pub not-true : (b : Bool) → (b ≡ true → ⊥) → b ≡ false
not-true true never = absurd (never refl)
not-true false never = refl

pub clash : (b : Bool) → b ≡ true → b ≡ false → ⊥
clash b is is_not = true≢false (sym is ∙ is_not)

pub and-both : (a b : Bool) → (a && b) ≡ true → (a ≡ true) × (b ≡ true)
and-both true b both = (refl, both)
and-both false b both = absurd (false≢true both)

pub or-first : (a b : Bool) → a ≡ true → a ≡ (a || b)
or-first true b is = refl
or-first false b is = absurd (false≢true is)

pub or-second : (a b : Bool) → a ≡ false → b ≡ (a || b)
or-second true b is = absurd (true≢false is)
or-second false b is = refl

-- ---- a test of all records is one of those of some numbers, where these are of all that pass

pub any-numbers : (test : KeptRecord → Bool) (records : List KeptRecord) (numbers : List ℕ)
    → AreNumbers records numbers
    → ((number : ℕ) → number < length records → test (record_at records number) ≡ true
    → Contains numbers number)
    → list_any test records ≡ list_any (λ number. test (record_at records number)) numbers
any-numbers test records numbers within all =
    both_ways (list_any test records) (list_any of_number numbers) to_numbers to_records
  where
    of_number : ℕ → Bool
    of_number number = test (record_at records number)

    to_numbers : list_any test records ≡ true → list_any of_number numbers ≡ true
    to_numbers any =
        let found = Any-from_list_any test records any in
        let passes : of_number found.0 ≡ true =
        ap test (get_or_default records found.0 no_record found.1 found.2 ∙ found.3) ∙ found.4 in
        let there = all found.0 found.2 passes in
        list_any_at of_number numbers there.0 found.0 there.1 (ap of_number there.2 ∙ passes)

    to_records : list_any of_number numbers ≡ true → list_any test records ≡ true
    to_records any =
        let found = Any-from_list_any of_number numbers any in
        list_any_at test records found.1 no_record
        (subst (λ number. number < length records) found.3 (within found.0 found.1 found.2))
        found.4

-- what holds of a list that grows at its end
pub by-end : {X : Type 0} (P : List X → Type 0) → P []
    → ((xs : List X) (x : X) → P xs → P (xs ++ x ∷ [])) → (xs : List X) → P xs
by-end {X} P none more xs = onward [] xs none
  where
    onward : (done left : List X) → P done → P (done ++ left)
    onward done [] is = subst P (sym (append-nil done)) is
    onward done (x ∷ left) is =
        subst P (append_assoc done (x ∷ []) left) (onward (done ++ x ∷ []) left (more done x is))

-- ---- the before-images of a place

key-here : (part : ℕ) (place : List ℕ) (before : Before) → (before.part.0 == part) ≡ true
    → place ≡ before.place
    → (key_of before ≡ part ∷ 0 ∷ place) ⊎ (key_of before ≡ part ∷ 1 ∷ place)
key-here part place before of_part at = by_old before.old
  where
    here : (shelf : ℕ) → (let key : List ℕ = before.part.0 ∷ shelf ∷ before.place in key)
        ≡ part ∷ shelf ∷ place
    here shelf =
        ap (λ (n : ℕ). n ∷ shelf ∷ before.place) (eqb-true before.part.0 part of_part)
        ∙ ap (λ (p : List ℕ). part ∷ shelf ∷ p) (sym at)

    by_old : (old : Option (List ℕ))
        → (key_of (record before { old = old }) ≡ part ∷ 0 ∷ place)
        ⊎ (key_of (record before { old = old }) ≡ part ∷ 1 ∷ place)
    by_old None = inl (here 0)
    by_old (Some bytes) = inr (here 1)

-- the key of a record that has one
abbrev pub IsKeyed : KeptRecord → List ℕ → Type 0
IsKeyed kept key = (has_key kept ≡ true) × (key_in kept ≡ key)

key-of-kept : (unit : UnitOfRecovery) (logged : Option Before) (before : Before)
    → IsAlike (let kept : KeptRecord =
    record { unit = unit; logged = logged; kept = Some before } in kept)
    → IsKeyed (let kept : KeptRecord =
    record { unit = unit; logged = logged; kept = Some before } in kept) (key_of before)
key-of-kept unit None before alike = (refl, refl)
key-of-kept unit (Some logged) before alike = (refl, alike)

pub key-of-image : (which : Which) (kept : KeptRecord) (before : Before)
    → IsAlike kept → image_by which kept ≡ Some before → IsKeyed kept (key_of before)
key-of-image Logged kept before alike is = (
  ap (λ (logged : Option Before). has_key (record kept { logged = logged })) is,
  ap (λ (logged : Option Before). key_in (record kept { logged = logged })) is,
)
key-of-image Kept kept before alike is =
    subst (λ (found : Option Before). IsKeyed (record kept { kept = found }) (key_of before)) (sym is)
    (key-of-kept kept.unit kept.logged before
    (subst (λ (found : Option Before). IsAlike (record kept { kept = found })) is alike))

module _ (unit : UnitOfRecovery) (part : ℕ) (place : List ℕ) where
  some-image : (of : UnitOfRecovery) (image : Option Before)
      → some_at unit part place (option_map (image_of of) image) ≡ true
      → (before : Before) × (image ≡ Some before)
      × ((key_of before ≡ part ∷ 0 ∷ place) ⊎ (key_of before ≡ part ∷ 1 ∷ place))
  some-image of None is = absurd (false≢true is)
  some-image of (Some before) is =
      let here = and-both (same_unit unit of)
      ((before.part.0 == part) && bytes_eq place before.place) is in
      let both = and-both (before.part.0 == part) (bytes_eq place before.place) here.1 in (
        before,
        refl,
        key-here part place before both.0
            ((bytes_eq-Decides place before.place).0 both.1),
      )

  pub has-image : (which : Which) (records : List KeptRecord) (order free stood : List ℕ)
      (of_free of_stood : Bool) → AreAlike records → IsOrder records order
      → AreNumbers records free → AreNumbers records stood
      → ((number : ℕ) → Contains order number → key_at records number ≡ part ∷ 0 ∷ place
      → Contains free number)
      → ((number : ℕ) → Contains order number → key_at records number ≡ part ∷ 1 ∷ place
      → Contains stood number)
      → of_free ≡ list_any (has_image_at which unit part place records) free
      → of_stood ≡ list_any (has_image_at which unit part place records) stood
      → (of_free || of_stood) ≡ has_at unit part place (images_by which records)
  has-image which records order free stood of_free of_stood alike ordered free_in stood_in in_free
      in_stood free_is stood_is =
      ap (λ (b : Bool). b || of_stood) free_is
      ∙ ap (λ (b : Bool). list_any (has_image_at which unit part place records) free || b)
      stood_is
      ∙ sym (list_any-append (has_image_at which unit part place records) free stood)
      ∙ sym (any-numbers (λ kept. some_at unit part place (image_with which kept)) records
      (free ++ stood)
      (All-append (λ number. number < length records) free stood free_in stood_in) found)
      ∙ any-image (image_with which) unit part place records
    where
      found : (number : ℕ) → number < length records
          → some_at unit part place (image_with which (record_at records number)) ≡ true
          → Contains (free ++ stood) number
      found number within is =
          let one = record_at records number in
          let image = some-image one.unit (image_by which one) is in
          let keyed = key-of-image which one image.0 (alike number no_record within) image.1 in
          let there = ordered.all number within keyed.0 in
          by_shelf there keyed.1 image.2
        where
          by_shelf : Contains order number → {key : List ℕ} → key_at records number ≡ key
              → ((key ≡ part ∷ 0 ∷ place) ⊎ (key ≡ part ∷ 1 ∷ place))
              → Contains (free ++ stood) number
          by_shelf there is (inl shelf) =
              Contains-append_left free stood number (in_free number there (is ∙ shelf))
          by_shelf there is (inr shelf) =
              Contains-append_right free stood number (in_stood number there (is ∙ shelf))

-- ---- the longest record of a place

as-long-none : (found : Option ℕ) → (is_as_long 0 found ≡ false) → found ≡ None
as-long-none None none = refl
as-long-none (Some n) none = absurd (true≢false (sym (le-leb 0 n (omega arith)) ∙ none))

pub same-length : (one other : Option ℕ)
    → ((least : ℕ) → is_as_long least one ≡ is_as_long least other) → one ≡ other
same-length None other same = sym (as-long-none other (sym (same 0)))
same-length (Some n) None same =
    absurd (true≢false (sym (le-leb 0 n (omega arith)) ∙ same 0))
same-length (Some n) (Some m) same =
    ap Some (omega (
      arith,
      leb-true n m (sym (same n) ∙ le-leb n n (omega arith)),
      leb-true m n (same m ∙ le-leb m m (omega arith)),
    ))

pub either-last : (a b : Bool) → (a ≡ true → b ≡ true) → b ≡ (a || b)
either-last true b follows = follows refl
either-last false b follows = refl

pub either-first : (a b : Bool) → (b ≡ true → a ≡ true) → a ≡ (a || b)
either-first true b follows = refl
either-first false true follows = absurd (false≢true (follows refl))
either-first false false follows = refl

pub or-nothing : (b : Bool) → b ≡ (b || false)
or-nothing true = refl
or-nothing false = refl

long-max : (least m n : ℕ) → leb least (max m n) ≡ (leb least m || leb least n)
long-max least m n = by_order (cases_lt m n)
  where
    by_order : ((m < n) ⊎ (n ≤ m)) → leb least (max m n) ≡ (leb least m || leb least n)
    by_order (inl below) =
        ap (leb least) (max_comm m n ∙ max-eq_left (omega (arith, below)))
        ∙ either-last (leb least m) (leb least n) (λ is.
        le-leb least n (omega (arith, below, leb-true least m is)))
    by_order (inr above) =
        ap (leb least) (max-eq_left above)
        ∙ either-first (leb least m) (leb least n) (λ is.
        le-leb least m (omega (arith, above, leb-true least n is)))

pub long-more : (least : ℕ) (one other : Option ℕ)
    → is_as_long least (longer one other) ≡ (is_as_long least one || is_as_long least other)
long-more least None other = refl
long-more least (Some m) None = or-nothing (leb least m)
long-more least (Some m) (Some n) = long-max least m n

pub any-push : {X : Type 0} (test : X → Bool) (xs : List X) (x : X)
    → list_any test (xs ++ x ∷ []) ≡ (list_any test xs || test x)
any-push test xs x =
    list_any-append test xs (x ∷ [])
    ∙ ap (λ (b : Bool). list_any test xs || b) (sym (or-nothing (test x)))

longest-any : (part : ℕ) (place : List ℕ) (least : ℕ) (records : List KeptRecord)
    → is_as_long least (length_at (lengths_kept (images_in records) part) place)
    ≡ list_any (λ kept. is_as_long least (length_there part place kept.logged)) records
longest-any part place least =
    by-end (λ (records : List KeptRecord).
    is_as_long least (length_at (lengths_kept (images_in records) part) place)
    ≡ list_any test records) refl
    (λ records kept is. ap (is_as_long least) (longest-more records kept part place)
    ∙ long-more least (length_at (lengths_kept (images_in records) part) place)
    (length_there part place kept.logged)
    ∙ ap (λ (b : Bool). b || test kept) is ∙ sym (any-push test records kept))
  where
    test : KeptRecord → Bool
    test kept = is_as_long least (length_there part place kept.logged)

-- a record of the place that stood is in order there
there-keyed : (part : ℕ) (place : List ℕ) (least : ℕ) (image : Option Before)
    → is_as_long least (length_there part place image) ≡ true
    → (before : Before) × (image ≡ Some before) × (key_of before ≡ part ∷ 1 ∷ place)
there-keyed part place least None long = absurd (false≢true long)
there-keyed part place least (Some before) long =
    (before, refl, by_test (is_there part place before) refl before.old refl long)
  where
    equal : (o : Ordering) → is_eq o ≡ true → o ≡ Equal
    equal Less is = absurd (false≢true is)
    equal Equal is = refl
    equal Greater is = absurd (false≢true is)

    by_test : (test : Bool) → is_there part place before ≡ test → (old : Option (List ℕ))
        → before.old ≡ old → is_as_long least (length_when test old) ≡ true
        → key_of before ≡ part ∷ 1 ∷ place
    by_test false is old old_is there = absurd (false≢true there)
    by_test true is None old_is there = absurd (false≢true there)
    by_test true is (Some bytes) old_is there =
        let both = and-both (before.part.0 == part) (is_eq (place_cmp place before.place)) is in
        ap (λ (was : Option (List ℕ)). before.part.0 ∷ shelf_of was ∷ before.place) old_is
        ∙ ap (λ (n : ℕ). n ∷ 1 ∷ before.place) (eqb-true before.part.0 part both.0)
        ∙ ap (λ (p : List ℕ). part ∷ 1 ∷ p)
        (sym (same_place place before.place (equal (place_cmp place before.place) both.1)))

pub longest-found : (part : ℕ) (place : List ℕ) (records : List KeptRecord)
    (order numbers : List ℕ) (found : Option ℕ)
    → IsOrder records order → AreNumbers records numbers
    → ((number : ℕ) → Contains order number → key_at records number ≡ part ∷ 1 ∷ place
    → Contains numbers number)
    → ((least : ℕ) → is_as_long least found
    ≡ list_any (is_longer_at part place least records) numbers)
    → found ≡ length_at (lengths_kept (images_in records) part) place
longest-found part place records order numbers found ordered within in_numbers is =
    same-length found (length_at (lengths_kept (images_in records) part) place) (λ least.
    is least
    ∙ sym (any-numbers (test least) records numbers within (complete least))
    ∙ sym (longest-any part place least records))
  where
    test : ℕ → KeptRecord → Bool
    test least kept = is_as_long least (length_there part place kept.logged)

    complete : (least : ℕ) (number : ℕ) → number < length records
        → test least (record_at records number) ≡ true → Contains numbers number
    complete least number inside long =
        let one = record_at records number in
        let keyed = there-keyed part place least one.logged long in
        in_numbers number
        (ordered.all number inside
        (ap (λ (logged : Option Before). has_key (record one { logged = logged })) keyed.1))
        (ap (λ (logged : Option Before). key_in (record one { logged = logged })) keyed.1
        ∙ keyed.2)
