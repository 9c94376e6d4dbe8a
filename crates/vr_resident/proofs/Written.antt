-- Lists of held blocks of which some are written.
use Rattle.std.proofs.Common.{◌≡◌, ◌⊎◌, inl, inr, ⊎_elim, ◌+◌, ◌-◌, ◌<◌, ◌≤◌, ◌==◌, ◌&&◌, ◌||◌, ℕ}
use Rattle.std.proofs.Common.{Bool, true, false, cond, IsTrue, List, [], ◌∷◌, ◌++◌, refl, sym, ap}
use Rattle.std.proofs.Common.{◌∙◌, arith, length, true≢false, Contains, nat_lt, eq-eqb, ne_eqb}
use Rattle.std.proofs.Common.{lt-ltb, le-ltb, zero, suc}
use Rattle.std.proofs.Common.{slice_set, get_or, get_or-set_other}
use Rattle.std.specs.Prelude.{count_by}
use Rattle.std.specs.List.{AllByRecursion}
use Rattle.std.proofs.lemmas.Bool.{cases_lt}
use Rattle.std.proofs.lemmas.List.Sums.{sum_by-cons, sum_by-append}
use Rattle.vr_types.specs.Image.{Block, Image, block_at}
use Rattle.vr_resident.specs.Held.{Held, clean, IsOther, IsChanged, overlay, with_last, forced}
use Rattle.vr_resident.specs.Held.{is_listed}

abbrev mark_if : Bool → ℕ
mark_if b = cond b 1 0

-- ---- those that are listed

clean_same : (h : Held) → h.changed ≡ false → clean h ≡ h
clean_same h is = ap (λ (m : Bool). record h { changed = m }) (sym is)

pub listed-append : (n : ℕ) (xs ys : List ℕ)
    → is_listed n (xs ++ ys) ≡ (is_listed n xs || is_listed n ys)
listed-append n [] ys = refl
listed-append n (x ∷ xs) ys = by_test (x == n) (listed-append n xs ys)
  where
    by_test : (b : Bool) → is_listed n (xs ++ ys) ≡ (is_listed n xs || is_listed n ys)
        → (b || is_listed n (xs ++ ys)) ≡ ((b || is_listed n xs) || is_listed n ys)
    by_test true rest = refl
    by_test false rest = rest

either : (test : Bool) (x : Held) → cond test x x ≡ x
either true x = refl
either false x = refl

-- one more is written
pub forced_more : (listed : List ℕ) (n : ℕ) (held : List Held)
    → forced (n ∷ []) (forced listed held) ≡ forced (listed ++ n ∷ []) held
forced_more listed n [] = refl
forced_more listed n (h ∷ held) =
    by_test (is_listed h.block listed) (forced_more listed n held)
    (listed-append h.block listed (n ∷ []))
  where
    by_test : (a : Bool) → forced (n ∷ []) (forced listed held) ≡ forced (listed ++ n ∷ []) held
        → is_listed h.block (listed ++ n ∷ []) ≡ (a || ((n == h.block) || false))
        → cond ((n == (cond a (clean h) h).block)
        || false) (clean (cond a (clean h) h)) (cond a (clean h) h) ∷ forced (n ∷ [])
        (forced listed held) ≡ cond (is_listed h.block (listed
        ++ n ∷ [])) (clean h) h ∷ forced (listed ++ n ∷ []) held
    by_test true rest is =
        ap (λ (x : Held). x ∷ forced (n ∷ []) (forced listed held)) (either ((n == h.block)
        || false) (clean h) ∙ sym (ap (λ (b : Bool). cond b (clean h) h) is))
        ∙ ap (λ (xs : List Held). cond (is_listed h.block (listed ++ n ∷ [])) (clean h) h ∷ xs) rest
    by_test false rest is =
        ap (λ (x : Held). x ∷ forced (n ∷ []) (forced listed held))
        (sym (ap (λ (b : Bool). cond b (clean h) h) is))
        ∙ ap (λ (xs : List Held). cond (is_listed h.block (listed ++ n ∷ [])) (clean h) h ∷ xs) rest

forced_other : (n : ℕ) (held : List Held) → IsOther n held → forced (n ∷ []) held ≡ held
forced_other n [] other = refl
forced_other n (h ∷ held) other =
    ap (λ (b : Bool). cond (b
    || false) (clean h) h ∷ forced (n ∷ []) held) (ne_eqb n h.block (λ e. other.0 (sym e)))
    ∙ ap (λ (xs : List Held). h ∷ xs) (forced_other n held other.1)

-- a changed block that is written is the one that is listed
pub forced_one : (n : ℕ) (h : Held) (xs ys : List Held) → h.block ≡ n → IsOther n (xs ++ ys)
    → forced (n ∷ []) (xs ++ h ∷ ys) ≡ xs ++ clean h ∷ ys
forced_one n h [] ys is other =
    ap (λ (b : Bool). cond (b
    || false) (clean h) h ∷ forced (n ∷ []) ys) (eq-eqb n h.block (sym is))
    ∙ ap (λ (zs : List Held). clean h ∷ zs) (forced_other n ys other)
forced_one n h (x ∷ xs) ys is other =
    ap (λ (b : Bool). cond (b || false) (clean x) x ∷ forced (n ∷ []) (xs
    ++ h ∷ ys)) (ne_eqb n x.block (λ e. other.0 (sym e)))
    ∙ ap (λ (zs : List Held). x ∷ zs) (forced_one n h xs ys is other.1)

-- and no block is written where none is changed there
pub forced_none : (n : ℕ) (held : List Held)
    → AllByRecursion (λ h. (h.changed && (h.block == n)) ≡ false) held → forced (n ∷ []) held ≡ held
forced_none n [] none = refl
forced_none n (h ∷ held) none =
    ap (λ (x : Held). x ∷ forced (n ∷ []) held) (by_mark h.changed refl none.0)
    ∙ ap (λ (xs : List Held). h ∷ xs) (forced_none n held none.1)
  where
    by_mark : (mark : Bool) → h.changed ≡ mark → (mark && (h.block == n)) ≡ false
        → cond ((n == h.block) || false) (clean h) h ≡ h
    by_mark true is not =
        ap (λ (b : Bool). cond (b
        || false) (clean h) h) (ne_eqb n h.block (λ e. true≢false (sym (eq-eqb h.block n (sym e))
        ∙ not)))
    by_mark false is not = ap (λ (x : Held). cond ((n == h.block) || false) x h) (clean_same h is)
        ∙ either ((n == h.block) || false) h

-- no listed block is changed then
pub forced_clean : (listed : List ℕ) (held : List Held) (n : ℕ) (b : Block)
    → is_listed n listed ≡ true → IsChanged (forced listed held) n b → ⊥
forced_clean listed [] n b is changed = changed
forced_clean listed (h ∷ held) n b is changed =
    by_test (is_listed h.block listed) refl (forced_clean listed held n b is) changed
  where
    by_test : (a : Bool) → is_listed h.block listed ≡ a → (IsChanged (forced listed held) n b → ⊥)
        → (IsTrue (cond a (clean h) h).changed × ((cond a (clean h) h).block ≡ n)
        × ((cond a (clean h) h).bytes ≡ b)) ⊎ IsChanged (forced listed held) n b → ⊥
    by_test true at rest now = ⊎_elim (λ here. true≢false (sym here.0)) rest now
    by_test false at rest now =
        ⊎_elim (λ here. true≢false (sym is
        ∙ (ap (λ (k : ℕ). is_listed k listed) (sym here.1) ∙ at))) rest now

pub overlay-unchanged : (cur : Image) (held : List Held) (n : ℕ)
    → ((b : Block) → IsChanged held n b → ⊥) → block_at (overlay cur held) n ≡ block_at cur n
overlay-unchanged cur [] n none = refl
overlay-unchanged cur (h ∷ held) n none =
    by_mark h.changed refl (overlay-unchanged cur held n (λ b later. none b (inr later)))
  where
    by_mark : (mark : Bool) → h.changed ≡ mark → block_at (overlay cur held) n ≡ block_at cur n
        → block_at (cond mark (slice_set (overlay cur held) h.block h.bytes) (overlay cur held)) n ≡
        block_at cur n
    by_mark true is rest =
        get_or-set_other (overlay cur held) h.block n h.bytes []
        (λ e. none h.bytes (inl (is, sym e, refl))) ∙ rest
    by_mark false is rest = rest

pub listed_contains : (n : ℕ) (listed : List ℕ) → Contains listed n → is_listed n listed ≡ true
listed_contains n [] at = absurd (omega (arith, at.1))
listed_contains n (m ∷ listed) at =
    by_place at.0 at.1 at.2 (λ k below is. listed_contains n listed (k, below, is))
  where
    or_true : (b : Bool) → (b || true) ≡ true
    or_true true = refl
    or_true false = refl

    by_place : (k : ℕ) → k < length (m ∷ listed) → get_or (m ∷ listed) k n ≡ n
        → ((j : ℕ) → j < length listed → get_or listed j n ≡ n → is_listed n listed ≡ true)
        → ((m == n) || is_listed n listed) ≡ true
    by_place zero below is rest = ap (λ (b : Bool). b || is_listed n listed) (eq-eqb m n is)
    by_place (suc k) below is rest =
        ap (λ (b : Bool). (m == n) || b) (rest k (omega (arith, below)) is) ∙ or_true (m == n)

-- ---- the last ones that pass a test

module _ {X : Type 0} (test : X → Bool) (f : X → X) where
  abbrev mark_of : X → ℕ
  mark_of x = cond (test x) 1 0

  module _ (dead : (x : X) → test (f x) ≡ false) where
    -- so many fewer pass it then
    pub count_last : (most : ℕ) (xs : List X)
        → count_by test (with_last test f most xs) ≡ count_by test xs - most
    count_last most [] = omega arith
    count_last most (x ∷ xs) =
        by_test (test x) refl (cases_lt (count_by test xs) most) (count_last most xs)
      where
        by_test : (a : Bool) → test x ≡ a → (count_by test xs < most) ⊎ (most ≤ count_by test xs)
            → count_by test (with_last test f most xs) ≡ count_by test xs - most
            → count_by test (cond (test x
            && nat_lt (count_by test xs) most) (f x) x ∷ with_last test f most xs) ≡ count_by test
            (x ∷ xs) - most
        by_test false is cases rest =
            ap (λ (b : Bool). count_by test (cond (b
            && nat_lt (count_by test xs) most) (f x) x ∷ with_last test f most xs)) is
            ∙ omega (
              arith,
              rest,
              sum_by-cons mark_of x (with_last test f most xs),
              sum_by-cons
                  mark_of x xs,
              ap mark_if is,
            )
        by_test true is cases rest = ⊎_elim
            (λ below. ap (λ (b : Bool). count_by test (cond b (f x) x ∷ with_last test f most xs))
            (ap (λ (b : Bool). b && nat_lt (count_by test xs) most) is
            ∙ lt-ltb (count_by test xs) most below)
            ∙ omega (
              arith,
              rest,
              below,
              sum_by-cons mark_of (f x) (with_last test f most xs),
              sum_by-cons mark_of x xs,
              ap mark_if is,
              ap mark_if (dead x),
            ))
            (λ above. ap (λ (b : Bool). count_by test (cond b (f x) x ∷ with_last test f most xs))
            (ap (λ (b : Bool). b && nat_lt (count_by test xs) most) is
            ∙ le-ltb (count_by test xs) most above)
            ∙ omega (
              arith,
              rest,
              above,
              sum_by-cons mark_of x (with_last test f most xs),
              sum_by-cons mark_of x xs,
              ap mark_if is,
            ))
            cases

    head : (most : ℕ) (x : X) (xs : List X) (count : ℕ) → count ≡ count_by test xs - most
        → (let y = cond (test x && nat_lt (count_by test xs) most) (f x) x in
        cond (test y && nat_lt count 1) (f y) y ≡ cond (test x
        && nat_lt (count_by test xs) (most + 1)) (f x) x)
    head most x xs count is =
        by_test (test x) refl (cases_lt (count_by test xs) most)
        (cases_lt (count_by test xs) (most + 1))
      where
        by_test : (a : Bool) → test x ≡ a → (count_by test xs < most) ⊎ (most ≤ count_by test xs)
            → (count_by test xs < most + 1) ⊎ (most + 1 ≤ count_by test xs)
            → (let y = cond (test x && nat_lt (count_by test xs) most) (f x) x in
            cond (test y && nat_lt count 1) (f y) y ≡ cond (test x
            && nat_lt (count_by test xs) (most + 1)) (f x) x)
        by_test false at low high =
            ap (λ (z : X). cond (test z
            && nat_lt count 1) (f z) z) (ap (λ (b : Bool). cond (b
            && nat_lt (count_by test xs) most) (f x) x) at)
            ∙ (ap (λ (b : Bool). cond (b && nat_lt count 1) (f x) x) at
            ∙ sym (ap (λ (b : Bool). cond (b && nat_lt (count_by test xs) (most + 1)) (f x) x) at))
        by_test true at low high = ⊎_elim
            (λ below. ap (λ (z : X). cond (test z
            && nat_lt count 1) (f z) z) (ap (λ (b : Bool). cond b (f x) x) (ap (λ (b : Bool). b
            && nat_lt (count_by test xs) most) at ∙ lt-ltb (count_by test xs) most below))
            ∙ (ap (λ (b : Bool). cond (b && nat_lt count 1) (f (f x)) (f x)) (dead x)
            ∙ sym (ap (λ (b : Bool). cond b (f x) x) (ap (λ (b : Bool). b
            && nat_lt (count_by test xs) (most + 1)) at
            ∙ lt-ltb (count_by test xs) (most + 1) (omega (arith, below))))))
            (λ above. ap (λ (z : X). cond (test z
            && nat_lt count 1) (f z) z) (ap (λ (b : Bool). cond b (f x) x) (ap (λ (b : Bool). b
            && nat_lt (count_by test xs) most) at ∙ le-ltb (count_by test xs) most above))
            ∙ ⊎_elim
            (λ here. ap (λ (b : Bool). cond b (f x) x) (ap (λ (b : Bool). b && nat_lt count 1) at
            ∙ lt-ltb count 1 (omega (arith, is, here, above)))
            ∙ sym (ap (λ (b : Bool). cond b (f x) x) (ap (λ (b : Bool). b
            && nat_lt (count_by test xs) (most + 1)) at
            ∙ lt-ltb (count_by test xs) (most + 1) here)))
            (λ past. ap (λ (b : Bool). cond b (f x) x) (ap (λ (b : Bool). b && nat_lt count 1) at
            ∙ le-ltb count 1 (omega (arith, is, past)))
            ∙ sym (ap (λ (b : Bool). cond b (f x) x) (ap (λ (b : Bool). b
            && nat_lt (count_by test xs) (most + 1)) at
            ∙ le-ltb (count_by test xs) (most + 1) past)))
            high)
            low

    -- one more
    pub last_one_more : (most : ℕ) (xs : List X)
        → with_last test f 1 (with_last test f most xs) ≡ with_last test f (most + 1) xs
    last_one_more most [] = refl
    last_one_more most (x ∷ xs) =
        ap (λ (z : X). z ∷ with_last test f 1 (with_last test f most xs))
        (head most x xs (count_by test (with_last test f most xs)) (count_last most xs))
        ∙ ap (λ (zs : List X). cond (test x
        && nat_lt (count_by test xs) (most + 1)) (f x) x ∷ zs) (last_one_more most xs)

  none_counts : (ys : List X) → AllByRecursion (λ y. test y ≡ false) ys → count_by test ys ≡ 0
  none_counts [] none = refl
  none_counts (y ∷ ys) none =
      omega (arith, sum_by-cons mark_of y ys, ap mark_if none.0, none_counts ys none.1)

  none_made : (ys : List X) → AllByRecursion (λ y. test y ≡ false) ys → with_last test f 1 ys ≡ ys
  none_made [] none = refl
  none_made (y ∷ ys) none =
      ap (λ (b : Bool). cond (b
      && nat_lt (count_by test ys) 1) (f y) y ∷ with_last test f 1 ys) none.0
      ∙ ap (λ (zs : List X). y ∷ zs) (none_made ys none.1)

  -- the last one of all
  pub last_at : (x : X) (xs ys : List X) → test x ≡ true → AllByRecursion (λ y. test y ≡ false) ys
      → with_last test f 1 (xs ++ x ∷ ys) ≡ xs ++ f x ∷ ys
  last_at x [] ys is none =
      ap (λ (b : Bool). cond b (f x) x ∷ with_last test f 1 ys) (ap (λ (b : Bool). b
      && nat_lt (count_by test ys) 1) is
      ∙ lt-ltb (count_by test ys) 1 (omega (arith, none_counts ys none)))
      ∙ ap (λ (zs : List X). f x ∷ zs) (none_made ys none)
  last_at x (z ∷ xs) ys is none =
      ap (λ (y : X). y ∷ with_last test f 1 (xs ++ x ∷ ys)) (stays (test z))
      ∙ ap (λ (zs : List X). z ∷ zs) (last_at x xs ys is none)
    where
      one_there : 1 ≤ count_by test (xs ++ x ∷ ys)
      one_there = omega
          (arith, sum_by-append mark_of xs (x ∷ ys), sum_by-cons mark_of x ys, ap mark_if is)

      stays : (b : Bool) → cond (b && nat_lt (count_by test (xs ++ x ∷ ys)) 1) (f z) z ≡ z
      stays true = ap (λ (b : Bool). cond b (f z) z) (le-ltb (count_by test (xs
          ++ x ∷ ys)) 1 one_there)
      stays false = refl
