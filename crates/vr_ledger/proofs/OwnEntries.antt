-- A deck's entries in a history that grows.
use Rattle.std.proofs.Common.{◌≡◌, ◌≢◌, ℕ, List, [], ◌∷◌, ◌++◌, Bool, cond, refl, sym, ap, ◌∙◌}
use Rattle.std.proofs.Common.{append-nil, eq-eqb, ne_eqb}
use Rattle.std.specs.Prelude.{◌==◌, All}
use Rattle.std.proofs.lemmas.List.Elements.{filter-append, All-head, All-tail, All-weaker}
use Rattle.vr_history.specs.declared.entry.Entry.{Entry}
use Rattle.vr_ledger.specs.Entries.{IsOf, entries_of}

-- a deck's entries in one list and then another
pub entries_of-append : (deck : ℕ) (xs ys : List Entry)
    → entries_of deck (xs ++ ys) ≡ entries_of deck xs ++ entries_of deck ys
entries_of-append deck xs ys = filter-append (λ (entry : Entry). entry.unit.deck == deck) xs ys

-- a deck has no entry where none is of it
pub entries_of-none : (deck : ℕ) (entries : List Entry)
    → All (λ entry. entry.unit.deck ≢ deck) entries → entries_of deck entries ≡ []
entries_of-none deck [] others = refl
entries_of-none deck (entry ∷ entries) others =
    ap (λ (test : Bool). cond test (entry ∷ entries_of deck entries) (entries_of deck entries))
    (ne_eqb entry.unit.deck deck (All-head (λ e. e.unit.deck ≢ deck) entry entries others))
    ∙ entries_of-none deck entries (All-tail (λ e. e.unit.deck ≢ deck) entry entries others)

-- and so it has none where all are another deck's
pub entries_of-other : (deck other : ℕ) (entries : List Entry) → other ≢ deck
    → All (IsOf other) entries → entries_of deck entries ≡ []
entries_of-other deck other entries apart all = entries_of-none deck entries
    (All-weaker (IsOf other) (λ e. e.unit.deck ≢ deck) (λ entry is same. apart (sym is ∙ same))
    entries all)

-- a deck has all the entries where each is of it
pub entries_of-all : (deck : ℕ) (entries : List Entry) → All (IsOf deck) entries
    → entries_of deck entries ≡ entries
entries_of-all deck [] all = refl
entries_of-all deck (entry ∷ entries) all =
    ap (λ (test : Bool). cond test (entry ∷ entries_of deck entries) (entries_of deck entries))
    (eq-eqb entry.unit.deck deck (All-head (IsOf deck) entry entries all))
    ∙ ap (λ (rest : List Entry). entry ∷ rest)
    (entries_of-all deck entries (All-tail (IsOf deck) entry entries all))

-- another deck's new entries leave a deck's as they were,
pub entries_of-kept : (deck other : ℕ) (entries made : List Entry) → other ≢ deck
    → All (IsOf other) made → entries_of deck (entries ++ made) ≡ entries_of deck entries
entries_of-kept deck other entries made apart all =
    entries_of-append deck entries made
    ∙ (ap (λ (rest : List Entry). entries_of deck entries ++ rest)
    (entries_of-other deck other made apart all) ∙ append-nil (entries_of deck entries))

-- and its own come after them
pub entries_of-more : (deck : ℕ) (entries made : List Entry) → All (IsOf deck) made
    → entries_of deck (entries ++ made) ≡ entries_of deck entries ++ made
entries_of-more deck entries made all =
    entries_of-append deck entries made
    ∙ ap (λ (rest : List Entry). entries_of deck entries ++ rest) (entries_of-all deck made all)
