-- Literals: the function that the definition has for them answers what the rules of literals say.
use Rattle.std.proofs.Common.{◌≡◌, ◌≢◌, ℕ, ◌+◌, ◌*◌, ◌<◌, List, [], ◌∷◌, ◌++◌, true, false, cond}
use Rattle.std.proofs.Common.{◌==◌, ◌&&◌, nat_lt, ◌⊎◌, inl, inr, refl, sym, ap, subst, ◌∙◌, Option, Some, None}
use Rattle.std.specs.Char.{digit_value}
use Rattle.std.proofs.lemmas.Bool.{cases_Bool, lt-ltb, ltb-true, and_from, and_parts, cond-true}
use Rattle.std.proofs.lemmas.Bool.{cond-false}
use Rattle.std.proofs.lemmas.Bool.Decides.{Decides-eqb}
use Rattle.vr_text.specs.declared.literal.LiteralFault.{LiteralFault}
use Rattle.vr_text.specs.declared.literal.LiteralFault.TheVariants.{Memory}
use Rattle.vr_text.specs.Literal.{doubled, SpellsBytes, IsLiteral, CauseOf}
use Rattle.vr_text.proofs.CallerLemmas.{literal_has_no_cause}
use Rattle.vr_text.specs.Words.{is_plain}
use Rattle.vr_deck_text.specs.Values.{onto, characters_in, digits_in, form_in, literal_in}

-- a quote, or another byte
is_quote : (b : ℕ) → (b ≡ 39) ⊎ ((b == 39) ≡ false)
is_quote b =
    elim (cases_Bool (b == 39)) [
      | inl same ↦ inl ((Decides-eqb b 39).0 same)
      | inr other ↦ inr other
    ]

-- a byte that is no quote stays
other_in : (b : ℕ) (text : List ℕ) → (b == 39) ≡ false
    → characters_in (b ∷ text) ≡ onto b (characters_in text)
other_in b [] other = rw other refl
other_in b (c ∷ cs) other = rw other refl

doubled-other : (b : ℕ) (bytes : List ℕ) → (b == 39) ≡ false
    → doubled (b ∷ bytes) ≡ b ∷ doubled bytes
doubled-other b bytes other = rw other refl

characters_there : (bytes : List ℕ) → characters_in (doubled bytes ++ 39 ∷ []) ≡ Some bytes
characters_there [] = refl
characters_there (b ∷ bytes) =
    let rest : characters_in (doubled bytes ++ 39 ∷ []) ≡ Some bytes = characters_there bytes in
    elim (is_quote b) [
      | inl quote ↦ rw quote (ap (onto 39) rest)
      | inr other ↦
          ap (λ text. characters_in (text ++ 39 ∷ [])) (doubled-other b bytes other)
          ∙ other_in b (doubled bytes ++ 39 ∷ []) other ∙ ap (onto b) rest
    ]

-- what a byte was put before
onto_some : (b : ℕ) (bytes : Option (List ℕ)) (all : List ℕ) → onto b bytes ≡ Some all
    → (rest : List ℕ) × (bytes ≡ Some rest) × (all ≡ b ∷ rest)
onto_some b None all h = let f : ⊥ = cc in absurd f
onto_some b (Some rest) all h = (rest, refl, cc)

one_quote : (b : ℕ) (bytes : List ℕ) → cond (b == 39) (Some []) None ≡ Some bytes
    → (b ≡ 39) × (bytes ≡ [])
one_quote b bytes h =
    elim (is_quote b) [
      | inl quote ↦ (quote, let e : Some [] ≡ Some bytes = rw quote at h in cc)
      | inr other ↦ let e : None ≡ Some bytes = rw other at h in let f : ⊥ = cc in absurd f
    ]

characters_back : (text bytes : List ℕ) → characters_in text ≡ Some bytes
    → text ≡ doubled bytes ++ 39 ∷ []
characters_back [] bytes h = let f : ⊥ = cc in absurd f
characters_back (b ∷ []) bytes h =
    let one = one_quote b bytes h in rw (one.0, one.1) refl
characters_back (b ∷ c ∷ cs) bytes h =
    elim (is_quote b) [
      | inl quote ↦
          elim (is_quote c) [
            | inl second ↦
                let e : onto 39 (characters_in cs) ≡ Some bytes = rw (quote, second) at h in
                let put = onto_some 39 (characters_in cs) bytes e in
                let rest : cs ≡ doubled put.0 ++ 39 ∷ [] = characters_back cs put.0 put.1 in
                rw (quote, second, put.2) (ap (λ text. 39 ∷ 39 ∷ text) rest)
            | inr other ↦
                let e : None ≡ Some bytes = rw (quote, other) at h in
                let f : ⊥ = cc in absurd f
          ]
      | inr other ↦
          let e : onto b (characters_in (c ∷ cs)) ≡ Some bytes = rw other at h in
          let put = onto_some b (characters_in (c ∷ cs)) bytes e in
          let rest : c ∷ cs ≡ doubled put.0 ++ 39 ∷ [] = characters_back (c ∷ cs) put.0 put.1 in
          ap (λ text. b ∷ text) rest
          ∙ ap (λ text. text ++ 39 ∷ []) (sym (doubled-other b put.0 other))
          ∙ ap (λ all. doubled all ++ 39 ∷ []) (sym put.2)
    ]

digits_there : (digits bytes : List ℕ) → SpellsBytes digits bytes
    → digits_in (digits ++ 39 ∷ []) ≡ Some bytes
digits_there [] [] h = refl
digits_there [] (b ∷ bytes) h = absurd h
digits_there (d ∷ []) [] h = absurd h
digits_there (d ∷ []) (b ∷ bytes) h = absurd h
digits_there (high ∷ low ∷ digits) [] h = absurd h
digits_there (high ∷ low ∷ digits) (b ∷ bytes) h =
    cond-true _ _ _ (and_from _ _ (lt-ltb _ _ h.0) (lt-ltb _ _ h.1))
    ∙ ap (onto (16 * digit_value high + digit_value low)) (digits_there digits bytes h.3)
    ∙ ap (λ n. Some (n ∷ bytes)) (sym h.2)

one_pair : (high low : ℕ) (digits rest bytes : List ℕ) → digit_value high < 16
    → digit_value low < 16 → bytes ≡ (16 * digit_value high + digit_value low) ∷ rest
    → SpellsBytes digits rest → SpellsBytes (high ∷ low ∷ digits) bytes
one_pair high low digits rest bytes first second same spelled =
    subst (λ (all : List ℕ). SpellsBytes (high ∷ low ∷ digits) all) (sym same)
    (first, second, refl, spelled)

digits_back : (text bytes : List ℕ) → digits_in text ≡ Some bytes
    → (digits : List ℕ) × (text ≡ digits ++ 39 ∷ []) × SpellsBytes digits bytes
digits_back [] bytes h = let f : ⊥ = cc in absurd f
digits_back (b ∷ []) bytes h =
    let one = one_quote b bytes h in ([], ap (λ n. n ∷ []) one.0, rw one.1 tt)
digits_back (high ∷ low ∷ ds) bytes h =
    elim (cases_Bool (nat_lt (digit_value high) 16 && nat_lt (digit_value low) 16)) [
      | inl both ↦
          let e : onto (16 * digit_value high + digit_value low) (digits_in ds) ≡ Some bytes =
          sym (cond-true _ _ _ both) ∙ h in
          let put = onto_some _ (digits_in ds) bytes e in
          let rest = digits_back ds put.0 put.1 in
          let each = and_parts _ _ both in (
            high ∷ low ∷ rest.0,
            ap (λ text. high ∷ low ∷ text) rest.1,
            one_pair high low rest.0 put.0 bytes (ltb-true _ _ each.0) (ltb-true _ _ each.1) put.2
                rest.2,
          )
      | inr other ↦
          let e : None ≡ Some bytes = sym (cond-false _ _ _ other) ∙ h in
          let f : ⊥ = cc in absurd f
    ]

form_there : (text bytes : List ℕ) → IsLiteral text bytes → form_in text ≡ Some bytes
form_there text bytes (inl h) = ap form_in h ∙ characters_there bytes
form_there text bytes (inr h) = ap form_in h.1 ∙ digits_there h.0 bytes h.2

letter_at : (a : ℕ) (rest bytes : List ℕ)
    → cond (a == 67) (characters_in rest) (cond (a == 88) (digits_in rest) None) ≡ Some bytes
    → IsLiteral (a ∷ 39 ∷ rest) bytes
letter_at a rest bytes h =
    elim (cases_Bool (a == 67)) [
      | inl same ↦
          let c : a ≡ 67 = (Decides-eqb a 67).0 same in
          let e : characters_in rest ≡ Some bytes = sym (cond-true _ _ _ same) ∙ h in
          inl (ap (λ n. n ∷ 39 ∷ rest) c
          ∙ ap (λ text. 67 ∷ 39 ∷ text) (characters_back rest bytes e))
      | inr other ↦
          let next : cond (a == 88) (digits_in rest) None ≡ Some bytes =
          sym (cond-false _ _ _ other) ∙ h in
          elim (cases_Bool (a == 88)) [
            | inl same ↦
                let x : a ≡ 88 = (Decides-eqb a 88).0 same in
                let e : digits_in rest ≡ Some bytes = sym (cond-true _ _ _ same) ∙ next in
                let spelled = digits_back rest bytes e in
                inr (
                  spelled.0,
                  ap (λ n. n ∷ 39 ∷ rest) x
                      ∙ ap (λ text. 88 ∷ 39 ∷ text) spelled.1,
                  spelled.2,
                )
            | inr none ↦
                let e : None ≡ Some bytes = sym (cond-false _ _ _ none) ∙ next in
                let f : ⊥ = cc in absurd f
          ]
    ]

form_back : (text bytes : List ℕ) → form_in text ≡ Some bytes → IsLiteral text bytes
form_back [] bytes h = let f : ⊥ = cc in absurd f
form_back (a ∷ []) bytes h = let f : ⊥ = cc in absurd f
form_back (a ∷ b ∷ rest) bytes h =
    elim (is_quote b) [
      | inl quote ↦ rw quote (letter_at a rest bytes (rw quote at h))
      | inr other ↦
          let e : None ≡ Some bytes = sym (cond-false _ _ _ other) ∙ h in
          let f : ⊥ = cc in absurd f
    ]

pub literal_there : (text bytes : List ℕ) → is_plain text ≡ true → IsLiteral text bytes
    → Some bytes ≡ literal_in text
literal_there text bytes plain h = sym (cond-true _ _ _ plain ∙ form_there text bytes h)

no_form : (text : List ℕ) (fault : LiteralFault) (found : Option (List ℕ)) → form_in text ≡ found
    → CauseOf text fault → fault ≢ Memory → found ≡ None
no_form text fault None e cause other = refl
no_form text fault (Some bytes) e cause other =
    absurd (other (literal_has_no_cause text bytes fault (form_back text bytes e) cause))

pub literal_absent : (text : List ℕ) (fault : LiteralFault) → is_plain text ≡ true
    → CauseOf text fault → fault ≢ Memory → None ≡ literal_in text
literal_absent text fault plain cause other =
    sym (cond-true _ _ _ plain ∙ no_form text fault _ refl cause other)
