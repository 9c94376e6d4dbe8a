use Rattle.std.proofs.Common.{◌≡◌, ◌∷◌, ◌==◌, ◌∙◌, [], List, true, arith, length, refl, sym}
use Rattle.std.proofs.lemmas.Bool.{true≢false}
use Rattle.std.proofs.lemmas.Bool.Decides.{Decides-eqb}
use Rattle.vr_store.proofs.Listed.{none-listed, unit-listed}
use Rattle.vr_store.proofs.changed.is_none.Goals as goal

empty-of : {X : Type 0} (xs : List X) → length xs ≡ 0 → xs ≡ []
empty-of [] none = refl
empty-of (x ∷ xs) none = absurd (omega (arith, none))

pub returns-in-Some-clause-none : goal.returns-in-Some-clause-none
returns-in-Some-clause-none c empty =
    unit-listed c.args.unit c.args.changed.now.items c.deref.result.now c.place_of.result
    c.deref.ensures.value c.place_of.ensures c.in-Some.at c.index.result.now c.in-Some.is
    c.index.ensures
    ∙ (let none = empty-of c.as_slice.result.now
    ((Decides-eqb (length c.as_slice.result.now) 0).0 (sym c.is_empty.ensures ∙ empty)) in
    cc)

not-empty : {X : Type 0} (xs : List X) → xs ≡ [] → (length xs == 0) ≡ true
not-empty [] none = refl
not-empty (x ∷ xs) none = absurd cc

pub returns-in-Some-clause-some : goal.returns-in-Some-clause-some
returns-in-Some-clause-some c left none =
    true≢false (sym (not-empty c.as_slice.result.now
    (let listed = unit-listed c.args.unit c.args.changed.now.items c.deref.result.now
    c.place_of.result c.deref.ensures.value c.place_of.ensures c.in-Some.at c.index.result.now
    c.in-Some.is c.index.ensures in
    cc)) ∙ sym c.is_empty.ensures ∙ left)

pub returns-in-None-clause-none : goal.returns-in-None-clause-none
returns-in-None-clause-none c told = none-listed c.args.unit c.args.changed.now.items c.deref.result.now
    c.place_of.result c.deref.ensures.value c.place_of.ensures c.in-None.is
