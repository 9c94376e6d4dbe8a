-- Going over a list while each element passes a test.
use Rattle.std.proofs.Common.{◌≡◌, ℕ, List, [], ◌∷◌, All, Option, Some, None, Bor, IsTrue}
use Rattle.std.proofs.Common.{Bool, false, ◌↔◌, true≢false, sym, ap, subst, ◌∙◌, map}
use Rattle.std.specs.Prelude.{IfSome}
use Rattle.std.specs.List.{AllByRecursion}
use Rattle.std.specs.List.Sorted.{IsStrictlySortedBy}
use Rattle.std.specs.declared.cmp.Ordering.TheVariants.{Less}
use Rattle.std.proofs.lemmas.Cmp.{nat_list_cmp_total}
use Rattle.std.proofs.lemmas.List.Elements.{All-nil, All-cons, All-head, All-tail}
use Rattle.std.proofs.lemmas.Map.Keys.{sorted_head, sorted_tail}
use Rattle.vr_types.specs.Content.{place_cmp}
use Rattle.vr_ci.specs.Interval as ci
use Rattle.vr_space.specs.Keyed.{Keyed, key_of}

-- a test that fails
pub untrue : {P : Type 0} (test : Bool) → (IsTrue test ↔ P) → test ≡ false → P → ⊥
untrue test says fails holds = true≢false (sym (says.1 holds) ∙ fails)

-- all have P exactly where those that are left do
pub record Still {X : Type 0} (P : X → Type 0) (all left : List X) : Type 0 where
  pub to : All P all → All P left
  pub back : All P left → All P all

module _ {X : Type 0} (P : X → Type 0) (all left : List X) where
  pub still-starts : all ≡ left → Still P all left
  still-starts same = record {
    to = λ a. subst (All P) same a;
    back = λ a. subst (All P) (sym same) a;
  }

  pub still-ends : left ≡ [] → Still P all left → All P all
  still-ends none still = still.back (subst (All P) (sym none) (All-nil P))

  module _ (after : List X) (x : X) (cut : left ≡ x ∷ after) (still : Still P all left) where
    pub still-passes : P x → Still P all after
    still-passes holds = record {
      to = λ a. All-tail P x after (subst (All P) cut (still.to a));
      back = λ a. still.back (subst (All P) (sym cut) (All-cons P x after holds a));
    }

    pub still-fails : (P x → ⊥) → All P all → ⊥
    still-fails fails a = fails (All-head P x after (subst (All P) cut (still.to a)))

    -- where all have P
    pub still-first : All P all → P x
    still-first a = All-head P x after (subst (All P) cut (still.to a))

-- ---- keys in their order

abbrev pub Sorted : List (List ℕ) → Type 0
Sorted places = IsStrictlySortedBy place_cmp places

abbrev pub last_first : Option (Bor (List ℕ)) → List (List ℕ) → List (List ℕ)
last_first None places = places
last_first (Some last) places = last.now ∷ places

abbrev pub keys : Keyed → List ci.Item → List (List ℕ)
keys part items = map (λ (item : ci.Item). key_of part item.bytes) items

-- all keys ascend exactly where the one that was read last and those that are left do
pub record Rising (part : Keyed) (all : List ci.Item) (last : Option (Bor (List ℕ)))
    (left : List ci.Item) : Type 0 where
  pub to : Sorted (keys part all) → Sorted (last_first last (keys part left))
  pub back : Sorted (last_first last (keys part left)) → Sorted (keys part all)

above-all : (p q : List ℕ) (places : List (List ℕ)) → place_cmp p q ≡ Less
    → AllByRecursion (λ x. place_cmp q x ≡ Less) places
    → AllByRecursion (λ x. place_cmp p x ≡ Less) places
above-all p q [] less all = tt
above-all p q (x ∷ places) less all =
    (nat_list_cmp_total.trans p q x less all.0, above-all p q places less all.1)

sorted-more : (p q : List ℕ) (places : List (List ℕ)) → place_cmp p q ≡ Less
    → Sorted (q ∷ places) → Sorted (p ∷ q ∷ places)
unfolding IsStrictlySortedBy
sorted-more p q places less sorted =
    ((less, above-all p q places less (sorted_head place_cmp q places sorted)), sorted)

sorted-none : Sorted []
unfolding IsStrictlySortedBy
sorted-none = tt

sorted-one : (p : List ℕ) → Sorted (p ∷ [])
unfolding IsStrictlySortedBy
sorted-one p = (tt, tt)

module _ (part : Keyed) (all left : List ci.Item) where
  pub rising-starts : all ≡ left → Rising part all None left
  rising-starts same = record {
    to = λ s. subst (λ (items : List ci.Item). Sorted (keys part items)) same s;
    back = λ s. subst (λ (items : List ci.Item). Sorted (keys part items)) (sym same) s;
  }

  pub rising-ends : (last : Option (Bor (List ℕ))) → left ≡ [] → Rising part all last left
      → Sorted (keys part all)
  rising-ends None none rising =
      rising.back (subst (λ (items : List ci.Item). Sorted (keys part items)) (sym none)
      sorted-none)
  rising-ends (Some last) none rising =
      rising.back (subst (λ (items : List ci.Item). Sorted (last.now ∷ keys part items))
      (sym none) (sorted-one last.now))

  module _ (after : List ci.Item) (item : ci.Item) (cut : left ≡ item ∷ after)
      (key : Bor (List ℕ)) (is : key.now ≡ key_of part item.bytes) where
    here : keys part left ≡ key.now ∷ keys part after
    here = ap (keys part) cut
        ∙ ap (λ (p : List ℕ). p ∷ keys part after) (sym is)

    pub rising-passes : (last : Option (Bor (List ℕ)))
        → IfSome last (λ place. place_cmp place.now key.now ≡ Less)
        → Rising part all last left → Rising part all (Some key) after
    rising-passes None less rising = record {
      to = λ s. subst Sorted here (rising.to s);
      back = λ s. rising.back (subst Sorted (sym here) s);
    }
    rising-passes (Some last) less rising = record {
      to = λ s. sorted_tail place_cmp last.now (key.now ∷ keys part after)
          (subst (λ (places : List (List ℕ)). Sorted (last.now ∷ places)) here (rising.to s));
      back = λ s. rising.back (subst (λ (places : List (List ℕ)). Sorted (last.now ∷ places))
          (sym here) (sorted-more last.now key.now (keys part after) less s));
    }

    pub rising-fails : (last : Option (Bor (List ℕ)))
        → (IfSome last (λ place. place_cmp place.now key.now ≡ Less) → ⊥)
        → Rising part all last left → Sorted (keys part all) → ⊥
    rising-fails None fails rising sorted = fails tt
    rising-fails (Some last) fails rising sorted =
        fails (sorted_head place_cmp last.now (key.now ∷ keys part after)
        (subst (λ (places : List (List ℕ)). Sorted (last.now ∷ places)) here
        (rising.to sorted))).0
