-- What the crates above cite: what is computed of words is what they ask for.
use Rattle.std.proofs.Common.{◌≡◌, ℕ, ◌^◌, ◌<◌, true, false, List, [], ◌∷◌, codes, Some, None, Option, inl, inr}
use Rattle.std.proofs.Common.{refl, sym, ap, subst, ◌∙◌, ◌⊎◌, arith}
use Rattle.std.specs.Str.Parse.{AllDigits, digits_value}
use Rattle.std.proofs.lemmas.Str.Parse.{IsNumeralModel, numerals_by_value, tells_digits}
use Rattle.std.proofs.lemmas.Str.Parse.{digits_value_short}
use Rattle.std.proofs.lemmas.Option.{same_Some}
use Rattle.vr_job_ends.specs.Asked.{Asked, Run, Format}
use Rattle.vr_job_ends.specs.Command.{Asks, IsFormat, AreDefaults, AreGiven, Writes, plan_of}
use Rattle.vr_job_ends.proofs.Commands.{three_ask, seven_ask, run_back, trace_back, default_back, given_back}
use Rattle.vr_job_ends.proofs.Numerals.{name_back, count_back, numeral_from}

-- words with a plan ask for it
pub asks_plan : (words : List (List ℕ)) (asked : Asked) → plan_of words ≡ Some asked
    → Asks words asked
asks_plan [] asked h = let none : None ≡ Some asked = h in absurd cc
asks_plan (a ∷ []) asked h = let none : None ≡ Some asked = h in absurd cc
asks_plan (a ∷ b ∷ []) asked h = let none : None ≡ Some asked = h in absurd cc
asks_plan (a ∷ b ∷ c ∷ []) asked h = three_ask a b c asked h
asks_plan (a ∷ b ∷ c ∷ d ∷ []) asked h = let none : None ≡ Some asked = h in absurd cc
asks_plan (a ∷ b ∷ c ∷ d ∷ e ∷ []) asked h = let none : None ≡ Some asked = h in absurd cc
asks_plan (a ∷ b ∷ c ∷ d ∷ e ∷ f ∷ []) asked h = let none : None ≡ Some asked = h in absurd cc
asks_plan (a ∷ b ∷ c ∷ d ∷ e ∷ f ∷ g ∷ []) asked h = seven_ask a b c d e f g asked h
asks_plan (a ∷ b ∷ c ∷ d ∷ e ∷ f ∷ g ∷ i ∷ more) asked h =
    let none : None ≡ Some asked = h in absurd cc

-- a format with four numbers
given_plan : (words : List (List ℕ)) (dir : List ℕ) (count size blocks log area : ℕ)
    → (h : IsFormat words dir count size blocks log area)
    → (given : AreGiven h.numbers size blocks log area)
    → plan_of words ≡ Some (Format dir count size blocks log area)
given_plan words dir count size blocks log area h given =
    let back = given_back dir h.count_word given.size_word given.blocks_word given.log_word
    given.area_word (name_back dir h.dir_is)
    (count_back h.count_word count h.count_is h.some h.few)
    (numeral_from given.size_word size given.size_is)
    (numeral_from given.blocks_word blocks given.blocks_is)
    (numeral_from given.log_word log given.log_is)
    (numeral_from given.area_word area given.area_is) in
    let words_are : words ≡ codes "format" ∷ dir ∷ h.count_word ∷ given.size_word
    ∷ given.blocks_word ∷ given.log_word ∷ given.area_word ∷ [] =
    h.words_are
    ∙ ap (λ (n : List (List ℕ)). codes "format" ∷ dir ∷ h.count_word ∷ n) given.words_are in
    let count_is = h.count_is.2 in
    let size_is = given.size_is.2 in
    let blocks_is = given.blocks_is.2 in
    let log_is = given.log_is.2 in
    let area_is = given.area_is.2 in
    ap plan_of words_are ∙ back ∙ cc

-- and one without
default_plan : (words : List (List ℕ)) (dir : List ℕ) (count size blocks log area : ℕ)
    → (h : IsFormat words dir count size blocks log area)
    → AreDefaults h.numbers size blocks log area
    → plan_of words ≡ Some (Format dir count size blocks log area)
default_plan words dir count size blocks log area h none =
    let back = default_back dir h.count_word (name_back dir h.dir_is)
    (count_back h.count_word count h.count_is h.some h.few) in
    let words_are : words ≡ codes "format" ∷ dir ∷ h.count_word ∷ [] =
    h.words_are
    ∙ ap (λ (n : List (List ℕ)). codes "format" ∷ dir ∷ h.count_word ∷ n) none.no_words in
    let count_is = h.count_is.2 in
    let size_is = none.size_is in
    let blocks_is = none.blocks_is in
    let log_is = none.log_is in
    let area_is = none.area_is in
    ap plan_of words_are ∙ back ∙ cc

format_plan : (words : List (List ℕ)) (dir : List ℕ) (count size blocks log area : ℕ)
    → (h : IsFormat words dir count size blocks log area)
    → (AreDefaults h.numbers size blocks log area ⊎ AreGiven h.numbers size blocks log area)
    → plan_of words ≡ Some (Format dir count size blocks log area)
format_plan words dir count size blocks log area h (inl none) =
    default_plan words dir count size blocks log area h none
format_plan words dir count size blocks log area h (inr given) =
    given_plan words dir count size blocks log area h given

-- what words ask for is their plan
pub plan_asked : (words : List (List ℕ)) (asked : Asked) → Asks words asked
    → plan_of words ≡ Some asked
plan_asked words (Run job dir false) h =
    ap plan_of h.words_are ∙ run_back job dir h.job_is h.dir_is
plan_asked words (Run job dir true) h =
    ap plan_of h.words_are ∙ trace_back job dir h.job_is h.dir_is
plan_asked words (Format dir count size blocks log area) h =
    format_plan words dir count size blocks log area h h.numbers_are

-- words without a plan are no command, and the other way round
pub asks_nothing : (words : List (List ℕ)) → plan_of words ≡ None → (asked : Asked)
    → Asks words asked → ⊥
asks_nothing words none asked h =
    let both : None ≡ Some asked = sym none ∙ plan_asked words asked h in cc

nothing_by : (words : List (List ℕ)) (plan : Option Asked) → plan_of words ≡ plan
    → ((asked : Asked) → Asks words asked → ⊥) → plan_of words ≡ None
nothing_by words None is nothing = is
nothing_by words (Some asked) is nothing = absurd (nothing asked (asks_plan words asked is))

pub nothing_asked : (words : List (List ℕ)) → ((asked : Asked) → Asks words asked → ⊥)
    → plan_of words ≡ None
nothing_asked words nothing = nothing_by words (plan_of words) refl nothing

-- words ask for one thing
pub one_asked : (words : List (List ℕ)) (one other : Asked) → Asks words one → Asks words other
    → one ≡ other
one_asked words one other h k =
    same_Some _ _ (sym (plan_asked words one h) ∙ plan_asked words other k)

own_digits : IsNumeralModel (AllDigits 10) (digits_value 10)
own_digits = numerals_by_value (AllDigits 10) tells_digits

-- a number of 10 digits is below 10 to the 10th
small : (word : List ℕ) (n : ℕ) → Writes word n → n < 10 ^ 10
small word n h =
    subst (λ (m : ℕ). m < 10 ^ 10) (sym h.2) (digits_value_short own_digits word 10 h.0.1 h.1)

pub small_numbers : (numbers : List (List ℕ)) (size blocks log area : ℕ)
    → (AreDefaults numbers size blocks log area ⊎ AreGiven numbers size blocks log area)
    → (size < 10 ^ 10) × (blocks < 10 ^ 10) × (log < 10 ^ 10) × (area < 10 ^ 10)
small_numbers numbers size blocks log area (inl h) = (
  omega (arith, h.size_is),
  omega (arith, h.blocks_is),
  omega (arith, h.log_is),
  omega (arith, h.area_is),
)
small_numbers numbers size blocks log area (inr h) = (
  small h.size_word size h.size_is,
  small h.blocks_word blocks h.blocks_is,
  small h.log_word log h.log_is,
  small h.area_word area h.area_is,
)
