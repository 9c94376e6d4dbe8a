-- A stable sort gives the one list in order that has the elements of each rank as they were.
use Rattle.std.proofs.Common.{◌≡◌, ℕ, ◌<◌, ◌≤◌, Bool, true, false, cond, ◌&&◌, List, [], ◌∷◌}
use Rattle.std.proofs.Common.{length, get_or, not, refl, sym, ap, ◌∙◌, subst, suc, arith}
use Rattle.std.specs.Cmp.{IsStrictWeakOrder}
use Rattle.std.specs.List.{filter}
use Rattle.std.specs.List.Sorted.{IsSortedBy, IsStableBy, ties}
use Rattle.std.proofs.lemmas.List.Sorted.{sorted_far}

module _ {X : Type 0} (lt : X → X → Bool) where
  -- an element before the first that isn't less
  abbrev pub placed : X → List X → List X
  placed x [] = x ∷ []
  placed x (y ∷ ys) = cond (lt y x) (y ∷ placed x ys) (x ∷ y ∷ ys)

  abbrev pub in_rank : List X → List X
  in_rank [] = []
  in_rank (x ∷ xs) = placed x (in_rank xs)

  -- none of a list is less than an element
  abbrev pub Above : X → List X → Type 0
  Above x [] = Unit {0}
  Above x (y ∷ ys) = (lt y x ≡ false) × Above x ys

  abbrev pub Up : List X → Type 0
  Up [] = Unit {0}
  Up (x ∷ xs) = Above x xs × Up xs

  above_of : (x : X) (xs : List X)
      → ((k : ℕ) → k < length xs → lt (get_or xs k x) x ≡ false) → Above x xs
  above_of x [] h = tt
  above_of x (y ∷ ys) h = (h 0 (omega arith), above_of x ys (λ k p. h (suc k) (omega arith)))

  up_of : (xs : List X) → ((i j : ℕ) (d : X) → i ≤ j → j < length xs
      → lt (get_or xs j d) (get_or xs i d) ≡ false) → Up xs
  up_of [] h = tt
  up_of (x ∷ xs) h = (
    above_of x xs (λ k p. h 0 (suc k) x (omega arith) (omega arith)),
    up_of xs (λ i j d p q. h (suc i) (suc j) d (omega arith) (omega arith)),
  )

  above_kept : (p : X → Bool) (x : X) (xs : List X) → Above x xs → Above x (filter p xs)
  above_kept p x [] above = tt
  above_kept p x (y ∷ ys) above = by_test (p y) (above_kept p x ys above.1)
    where
      by_test : (b : Bool) → Above x (filter p ys)
          → Above x (cond b (y ∷ filter p ys) (filter p ys))
      by_test true rest = (above.0, rest)
      by_test false rest = rest

  pub up_kept : (p : X → Bool) (xs : List X) → Up xs → Up (filter p xs)
  up_kept p [] up = tt
  up_kept p (x ∷ xs) up = by_test (p x) (above_kept p x xs up.0) (up_kept p xs up.1)
    where
      by_test : (b : Bool) → Above x (filter p xs) → Up (filter p xs)
          → Up (cond b (x ∷ filter p xs) (filter p xs))
      by_test true above rest = (above, rest)
      by_test false above rest = rest

  module _ (o : IsStrictWeakOrder lt) where
    itself : (x : X) → lt x x ≡ false
    itself x = by_test (lt x x) refl
      where
        by_test : (b : Bool) → lt x x ≡ b → b ≡ false
        by_test false is = refl
        by_test true is = sym is ∙ o.one_way x x is

    above_more : (x y : X) (ys : List X) → lt y x ≡ false → Above y ys → Above x ys
    above_more x y [] least above = tt
    above_more x y (z ∷ zs) least above =
        (o.chain z y x above.0 least, above_more x y zs least above.1)

    above_placed : (z x : X) (ys : List X) → lt x z ≡ false → Above z ys → Above z (placed x ys)
    above_placed z x [] least above = (least, tt)
    above_placed z x (y ∷ ys) least above =
        by_test (lt y x) (above_placed z x ys least above.1)
      where
        by_test : (b : Bool) → Above z (placed x ys)
            → Above z (cond b (y ∷ placed x ys) (x ∷ y ∷ ys))
        by_test true rest = (above.0, rest)
        by_test false rest = (least, above)

    up_placed : (x : X) (ys : List X) → Up ys → Up (placed x ys)
    up_placed x [] up = (tt, tt)
    up_placed x (y ∷ ys) up = by_test (lt y x) refl (up_placed x ys up.1)
      where
        by_test : (b : Bool) → lt y x ≡ b → Up (placed x ys)
            → Up (cond b (y ∷ placed x ys) (x ∷ y ∷ ys))
        by_test true is rest = (above_placed y x ys (o.one_way y x is) up.0, rest)
        by_test false is rest = ((is, above_more x y ys is up.0), up)

    pub up_in_rank : (xs : List X) → Up (in_rank xs)
    up_in_rank [] = tt
    up_in_rank (x ∷ xs) = up_placed x (in_rank xs) (up_in_rank xs)

    -- at most one of two that don't tie is of a rank
    crossed : (b c : Bool) (x y : X) (r : List X) → (b ≡ true → c ≡ true → ⊥)
        → cond c (y ∷ cond b (x ∷ r) r) (cond b (x ∷ r) r)
        ≡ cond b (x ∷ cond c (y ∷ r) r) (cond c (y ∷ r) r)
    crossed true true x y r apart = absurd (apart refl refl)
    crossed true false x y r apart = refl
    crossed false true x y r apart = refl
    crossed false false x y r apart = refl

    both : (b c : Bool) → not b && not c ≡ true → (b ≡ false) × (c ≡ false)
    both true c h = absurd (cc)
    both false true h = absurd (cc)
    both false false h = (refl, refl)

    -- two of a rank tie
    apart : (t x y : X) → lt y x ≡ true → ties lt t x ≡ true → ties lt t y ≡ true → ⊥
    apart t x y less one other =
        let at_x = both (lt t x) (lt x t) one in
        let at_y = both (lt t y) (lt y t) other in
        let no : lt y x ≡ false = o.chain y t x at_y.1 at_x.0 in absurd (cc)

    kept_placed : (t x : X) (ys : List X)
        → filter (ties lt t) (placed x ys) ≡ filter (ties lt t) (x ∷ ys)
    kept_placed t x [] = refl
    kept_placed t x (y ∷ ys) = by_test (lt y x) refl (kept_placed t x ys)
      where
        by_test : (b : Bool) → lt y x ≡ b
            → filter (ties lt t) (placed x ys) ≡ filter (ties lt t) (x ∷ ys)
            → filter (ties lt t) (cond b (y ∷ placed x ys) (x ∷ y ∷ ys))
            ≡ filter (ties lt t) (x ∷ y ∷ ys)
        by_test false is rest = refl
        by_test true is rest =
            ap (λ r. cond (ties lt t y) (y ∷ r) r) rest
            ∙ crossed (ties lt t x) (ties lt t y) x y (filter (ties lt t) ys) (apart t x y is)

    pub stable_in_rank : (xs : List X) → IsStableBy lt xs (in_rank xs)
    stable_in_rank [] t = refl
    stable_in_rank (x ∷ xs) t = kept_placed t x (in_rank xs)
        ∙ ap (λ r. cond (ties lt t x) (x ∷ r) r) (stable_in_rank xs t)

    -- nothing ties with what is less than all
    none_ties : (y x : X) (xs : List X) → lt y x ≡ true → Above x xs
        → filter (ties lt y) xs ≡ []
    none_ties y x [] less above = refl
    none_ties y x (z ∷ zs) less above =
        by_test (ties lt y z) refl (none_ties y x zs less above.1)
      where
        by_test : (b : Bool) → ties lt y z ≡ b → filter (ties lt y) zs ≡ []
            → cond b (z ∷ filter (ties lt y) zs) (filter (ties lt y) zs) ≡ []
        by_test false is rest = rest
        by_test true is rest = let no : lt y x ≡ false = o.chain y z x (both _ _ is).0 above.0 in
            absurd (cc)

    -- the first of a list that is less than all of another would be missing there
    missing : (y x : X) (ys xs : List X) → lt y x ≡ true → Above x xs
        → filter (ties lt y) (y ∷ ys) ≡ filter (ties lt y) (x ∷ xs) → ⊥
    missing y x ys xs less above same =
        let alone : filter (ties lt y) (x ∷ xs) ≡ [] =
        none_ties y x (x ∷ xs) less (itself x, above) in
        let here : filter (ties lt y) (y ∷ ys) ≡ y ∷ filter (ties lt y) ys =
        ap (λ b. cond (not b && not b) (y ∷ filter (ties lt y) ys) (filter (ties lt y) ys))
        (itself y) in absurd (cc)

    rest_same : (b : Bool) (x : X) (r s : List X) → cond b (x ∷ r) r ≡ cond b (x ∷ s) s → r ≡ s
    rest_same true x r s same = cc
    rest_same false x r s same = same

    firsts : (x y : X) (xs ys : List X) → lt x y ≡ false → lt y x ≡ false
        → filter (ties lt x) (x ∷ xs) ≡ filter (ties lt x) (y ∷ ys) → x ≡ y
    firsts x y xs ys one other same =
        let left : filter (ties lt x) (x ∷ xs) ≡ x ∷ filter (ties lt x) xs =
        ap (λ b. cond (not b && not b) (x ∷ filter (ties lt x) xs) (filter (ties lt x) xs))
        (itself x) in
        let right : filter (ties lt x) (y ∷ ys) ≡ y ∷ filter (ties lt x) ys =
        ap (λ b. cond (not b && not (lt y x)) (y ∷ filter (ties lt x) ys) (filter (ties lt x) ys))
        one
        ∙ ap (λ b. cond (not false && not b) (y ∷ filter (ties lt x) ys) (filter (ties lt x) ys))
        other in cc

    pub one_order : (xs ys : List X) → Up xs → Up ys
        → ((t : X) → filter (ties lt t) xs ≡ filter (ties lt t) ys) → xs ≡ ys
    one_order [] [] up up' same = refl
    one_order [] (y ∷ ys) up up' same = let here : filter (ties lt y) (y ∷ ys)
        ≡ y ∷ filter (ties lt y) ys =
        ap (λ b. cond (not b && not b) (y ∷ filter (ties lt y) ys) (filter (ties lt y) ys))
        (itself y) in let gone = same y in absurd (cc)
    one_order (x ∷ xs) [] up up' same = let here : filter (ties lt x) (x ∷ xs)
        ≡ x ∷ filter (ties lt x) xs =
        ap (λ b. cond (not b && not b) (x ∷ filter (ties lt x) xs) (filter (ties lt x) xs))
        (itself x) in let gone = same x in absurd (cc)
    one_order (x ∷ xs) (y ∷ ys) up up' same =
        by_tests (lt x y) (lt y x) refl refl (one_order xs ys up.1 up'.1)
      where
        by_tests : (b c : Bool) → lt x y ≡ b → lt y x ≡ c
            → (((t : X) → filter (ties lt t) xs ≡ filter (ties lt t) ys) → xs ≡ ys)
            → x ∷ xs ≡ y ∷ ys
        by_tests true c one other later = absurd (missing x y xs ys one up'.0 (same x))
        by_tests false true one other later =
            absurd (missing y x ys xs other up.0 (sym (same y)))
        by_tests false false one other later =
            let first : x ≡ y = firsts x y xs ys one other (same x) in
            let rest : xs ≡ ys = later (λ t. rest_same (ties lt t x) x
            (filter (ties lt t) xs) (filter (ties lt t) ys)
            (subst (λ (z : X). filter (ties lt t) (x ∷ xs) ≡ filter (ties lt t) (z ∷ ys))
            (sym first) (same t))) in cc

    -- what a stable sort leaves is the one list
    pub sorted_is : (xs ys : List X) → IsSortedBy lt ys → IsStableBy lt xs ys → ys ≡ in_rank xs
    sorted_is xs ys sorted stable = one_order ys (in_rank xs)
        (up_of ys (sorted_far lt o ys sorted)) (up_in_rank xs)
        (λ t. stable t ∙ sym (stable_in_rank xs t))
