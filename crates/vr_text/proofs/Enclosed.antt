-- What lies between the quotes of a literal.
use Rattle.std.proofs.Common.{◌≡◌, ◌≢◌, ℕ, Option, Some, None, MatchOption, Bor, List, [], ◌∷◌}
use Rattle.std.proofs.Common.{◌++◌, append_assoc, sym, ap, ◌∙◌}
use Rattle.std.proofs.lemmas.List.{append_cancel_left}

-- what lies between an opening and a closing quote, where the text has that opening
pub inner_of_rest : (text opening rest : List ℕ) (r : Option (Bor (List ℕ)))
    → text ≡ opening ++ rest → MatchOption r ((front : List ℕ) → rest ≢ front ++ (39 ∷ []))
    (λ x. rest ≡ x.now ++ (39 ∷ []))
    → MatchOption r ((inner : List ℕ) → text ≢ opening ++ inner ++ (39 ∷ []))
    (λ x. text ≡ opening ++ x.now ++ (39 ∷ []))
inner_of_rest text opening rest None opens none = λ inner closes.
    none inner (append_cancel_left opening rest (inner ++ (39 ∷ []))
    (sym opens ∙ closes ∙ append_assoc opening inner (39 ∷ [])))
inner_of_rest text opening rest (Some x) opens closes =
    opens ∙ ap (λ bs. opening ++ bs) closes ∙ sym (append_assoc opening x.now (39 ∷ []))

-- and none does where it has not
pub no_inner : (text opening : List ℕ) → ((rest : List ℕ) → text ≢ opening ++ rest)
    → (inner : List ℕ) → text ≢ opening ++ inner ++ (39 ∷ [])
no_inner text opening none inner closes =
    none (inner ++ (39 ∷ [])) (closes ∙ append_assoc opening inner (39 ∷ []))
