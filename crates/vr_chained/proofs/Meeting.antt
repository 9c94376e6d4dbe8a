-- The places that were met, as another is.
use Rattle.std.proofs.Common.{◌≡◌, ◌<◌, ◌≤◌, ◌+◌, ℕ, Bool, true, false, List, [], ◌∷◌, ◌++◌}
use Rattle.std.proofs.Common.{Option, Some, None, Bor, IsTrue, length, take, All, map, refl, sym, ap}
use Rattle.std.proofs.Common.{◌∙◌, arith, length-append, subst}
use Rattle.std.proofs.lemmas.Bool.{true≢false}
use Rattle.std.proofs.lemmas.List.{length-map, length-take-le, map-append, take-take, take_more_set}
use Rattle.std.proofs.lemmas.List.Elements.{All-cons, All-contains, All-head, All-map, All-nil}
use Rattle.std.proofs.lemmas.List.Elements.{All-push, All-tail, All-take}
use Rattle.std.proofs.lemmas.List.Elements.{Contains-append_left, Contains-append_right}
use Rattle.std.proofs.lemmas.Map.Made.{Contains-tail}
use Rattle.std.proofs.lemmas.Slice.Eq.{bytes_eq-Decides}
use Rattle.std.proofs.Math.ListN.{set}
use Rattle.std.specs.Option.{option_copied}
use Rattle.std.specs.Prelude.{Contains, IfOk, OnOk, cond, find, is_some}
use Rattle.std.specs.declared.result.Result.{Result}
use Rattle.std.specs.declared.result.Result.TheVariants.{Ok, Err}
use Rattle.vr_space.specs.Met.{Met}
use Rattle.vr_chained.specs.declared.met.MetBlock.{MetBlock}
use Rattle.vr_chained.specs.Met.{HasMetPlace, MeetsNext, is_at, met_in, met_places}

-- ---- what is found of a place

-- it is one of the slots, and was met at the place
pub record IsFound (place : List ℕ) (slots : List MetBlock) (met : MetBlock) : Type 0 where
  pub here : met.place.place ≡ place
  pub among : Contains slots met
  pub has : HasMetPlace (map met_in slots) place

found-by : (place : List ℕ) (one met : MetBlock) (more : List MetBlock) (is : Bool)
    → is_at place one ≡ is → (find (is_at place) more ≡ Some met → IsFound place more met)
    → cond is (Some one) (find (is_at place) more) ≡ Some met → IsFound place (one ∷ more) met
found-by place one met more true at later found =
    let here : one.place.place ≡ place = (bytes_eq-Decides one.place.place place).0 at in
    let same : one ≡ met = cc in
    record {
      here = ap (λ (m : MetBlock). m.place.place) (sym same) ∙ here;
      among = (0, omega arith, same);
      has = (0, omega arith, here);
    }
found-by place one met more false at later found =
    let its = later found in
    record {
      here = its.here;
      among = Contains-append_right (one ∷ []) more met its.among;
      has = Contains-append_right (one.place.place ∷ []) (met_places (map met_in more)) place its.has;
    }

pub found-met : (place : List ℕ) (slots : List MetBlock) (met : MetBlock)
    → find (is_at place) slots ≡ Some met → IsFound place slots met
found-met place [] met found = absurd cc
found-met place (one ∷ more) met found =
    found-by place one met more (is_at place one) refl (found-met place more met) found

none-by : (place : List ℕ) (one : MetBlock) (more : List MetBlock) (is : Bool)
    → is_at place one ≡ is
    → (find (is_at place) more ≡ None → HasMetPlace (map met_in more) place → ⊥)
    → cond is (Some one) (find (is_at place) more) ≡ None
    → HasMetPlace (map met_in (one ∷ more)) place → ⊥
none-by place one more true at later none has = absurd cc
none-by place one more false at later none has =
    later none (Contains-tail one.place.place (met_places (map met_in more)) place
    (λ same. true≢false (sym ((bytes_eq-Decides one.place.place place).1 same) ∙ at)) has)

-- where none is found, the place was not met
pub none-met : (place : List ℕ) (slots : List MetBlock)
    → find (is_at place) slots ≡ None → HasMetPlace (map met_in slots) place → ⊥
none-met place [] none has = omega (arith, has.1)
none-met place (one ∷ more) none has =
    none-by place one more (is_at place one) refl (none-met place more) none has

-- whether one is found, as it is lent
pub has-met : (place : List ℕ) (slots : List MetBlock) (found : Option (Bor MetBlock))
    → option_copied found ≡ find (is_at place) slots → IsTrue (is_some found)
    → HasMetPlace (map met_in slots) place
has-met place slots None is some = absurd cc
has-met place slots (Some met) is some = (found-met place slots met.now (sym is)).has

pub hasnt-met : (place : List ℕ) (slots : List MetBlock) (found : Option (Bor MetBlock))
    → option_copied found ≡ find (is_at place) slots → is_some found ≡ false
    → HasMetPlace (map met_in slots) place → ⊥
hasnt-met place slots None is none = none-met place slots (sym is)
hasnt-met place slots (Some met) is none = absurd cc

-- what is so of each slot is so of those that were met
each-slot : (P : Met → Type 0) (slots : List MetBlock) → All P (map met_in slots)
    → All (λ (one : MetBlock). P (met_in one)) slots
each-slot P [] all = All-nil (λ (one : MetBlock). P (met_in one))
each-slot P (one ∷ more) all =
    All-cons (λ (one : MetBlock). P (met_in one)) one more
    (All-head P (met_in one) (map met_in more) all)
    (each-slot P more (All-tail P (met_in one) (map met_in more) all))

-- what is so of all that were met is so of one of them
pub met-of : (P : Met → Type 0) (slots : List MetBlock) (met : MetBlock)
    → All P (map met_in slots) → Contains slots met → P (met_in met)
met-of P slots met all is =
    All-contains (λ (one : MetBlock). P (met_in one)) slots met (each-slot P slots all) is

-- ---- one more

-- where the place was met, all stays
pub met-before : (place : List ℕ) (most : ℕ) (met : List Met) → HasMetPlace met place
    → MeetsNext place most met met
met-before place most met has = record {
  here = has;
  many = omega arith;
  kept = λ few other is. is;
}

-- what is so of all that were met is so of the first of them
pub all-fewer : (P : Met → Type 0) (slots : List MetBlock) (filled n : ℕ) → n ≤ filled
    → All P (map met_in (take filled slots)) → All P (map met_in (take n slots))
all-fewer P slots filled n least all =
    All-map P met_in (take n slots)
    (subst (All (λ (one : MetBlock). P (met_in one))) (take-take n filled slots least)
    (All-take (λ (one : MetBlock). P (met_in one)) n (take filled slots)
    (each-slot P (take filled slots) all)))

module _ (slots : List MetBlock) (n : ℕ) (new : MetBlock) (below : n < length slots) where
  -- those before it, and it
  after-is : map met_in (take (n + 1) (set slots n new))
      ≡ map met_in (take n slots) ++ met_in new ∷ []
  after-is =
      ap (map met_in) (take_more_set slots n new below)
      ∙ map-append met_in (take n slots) (new ∷ [])

  pub all-next : (P : Met → Type 0) → All P (map met_in (take n slots)) → P (met_in new)
      → All P (map met_in (take (n + 1) (set slots n new)))
  all-next P all is =
      subst (All P) (sym after-is) (All-push P (map met_in (take n slots)) (met_in new) all is)

  -- their places
  placed : met_places (map met_in (take (n + 1) (set slots n new)))
      ≡ met_places (map met_in (take n slots)) ++ new.place.place ∷ []
  placed =
      ap met_places after-is
      ∙ map-append (λ (one : Met). one.place) (map met_in (take n slots)) (met_in new ∷ [])

  counted : (k : ℕ) → k ≤ length slots → length (map met_in (take k slots)) ≡ k
  counted k few = length-map (take k slots) met_in ∙ length-take-le k slots few

  pub meets-next : (place : List ℕ) (filled : ℕ) → filled ≤ length slots → n ≤ filled
      → new.place.place ≡ place → (filled < length slots → n ≡ filled)
      → MeetsNext place (length slots) (map met_in (take filled slots))
      (map met_in (take (n + 1) (set slots n new)))
  meets-next place filled few least here kept = record {
    here = subst (λ (places : List (List ℕ)). Contains places place) (sym placed)
        (Contains-append_right (met_places (map met_in (take n slots))) (new.place.place ∷ [])
        place (0, omega arith, here));
    many = many;
    kept = λ fewer other has.
        let all : n ≡ filled = kept (omega (arith, counted filled few, fewer)) in
        subst (λ (places : List (List ℕ)). Contains places other) (sym placed)
        (Contains-append_left (met_places (map met_in (take n slots))) (new.place.place ∷ []) other
        (subst (λ (k : ℕ). HasMetPlace (map met_in (take k slots)) other) (sym all) has));
  }
    where
      many : length (map met_in (take (n + 1) (set slots n new)))
          ≤ length (map met_in (take filled slots)) + 1
      many =
          let count = ap length after-is
          ∙ length-append (map met_in (take n slots)) (met_in new ∷ []) in
          omega (arith, count, counted n (omega arith), counted filled few)

-- what follows where there is an answer
pub on-ok-more : {X E : Type 0} (r : Result X E) (P Q : Type 0) → (P → Q) → OnOk r P → OnOk r Q
on-ok-more (Ok x) P Q more is = more is
on-ok-more (Err e) P Q more is = is

pub if-ok-more : {X E : Type 0} (r : Result X E) (P Q : X → Type 0) → ((x : X) → P x → Q x)
    → IfOk r P → IfOk r Q
if-ok-more (Ok x) P Q more is = more x is
if-ok-more (Err e) P Q more is = is
