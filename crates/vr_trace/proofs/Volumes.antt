-- The entries of one volume, or of one deck, among those of all volumes.
use Rattle.std.proofs.Common.{◌≡◌, ℕ, zero, suc, ◌+◌, ◌<◌, ◌==◌, Bool, true, false, cond, List, []}
use Rattle.std.proofs.Common.{◌∷◌, ◌++◌, map, refl, sym, ap, ◌∙◌, arith}
use Rattle.std.specs.List.{filter}
use Rattle.std.proofs.Math.ListN.{get_or-map}
use Rattle.std.proofs.lemmas.Bool.Decides.{nat_tests}
use Rattle.std.proofs.lemmas.List.{append-nil}
use Rattle.std.proofs.lemmas.List.Elements.{filter-append}
use Rattle.vr_history.specs.declared.entry.Entry.{Entry}
use Rattle.vr_history.specs.Merged.{Numbered, numbered_from, asked_by, part_of_deck, request_in}
use Rattle.vr_trace.specs.Laws.{is_on, entry_of, entries_on, is_of, deck_entries, history_at}
use Rattle.vr_trace.specs.Numbering.{with_volume}
use Rattle.vr_trace.proofs.Filters.{filter_mapped}

differ_below : (v w : ℕ) → v < w → (w == v) ≡ false
differ_below v w below = grind (arith, nat_tests, below)

differ_above : (v w : ℕ) → v < w → (v == w) ≡ false
differ_above v w below = grind (arith, nat_tests, below)

same_number : (v w : ℕ) → (v == w) ≡ true → v ≡ w
same_number v w same = grind (arith, nat_tests, same)

itself : (v : ℕ) → (v == v) ≡ true
itself v = grind (arith, nat_tests)

twice : {X : Type 0} (b : Bool) (x : X) (l : List X)
    → cond b (x ∷ cond b l []) (cond b l []) ≡ cond b (x ∷ l) []
twice true x l = refl
twice false x l = refl

no_choice : (b : Bool) → let none : List Numbered = [] in none ≡ cond b none none
no_choice true = refl
no_choice false = refl

-- of the entries of one volume
pub on_one : (v w : ℕ) (entries : List Entry) → filter (is_on v) (map (with_volume w) entries)
    ≡ cond (w == v) (map (with_volume w) entries) []
on_one v w [] = no_choice (w == v)
on_one v w (entry ∷ entries) =
    ap (λ l. cond (w == v) (with_volume w entry ∷ l) l) (on_one v w entries)
    ∙ twice (w == v) (with_volume w entry) (map (with_volume w) entries)

-- no volume below the first
on_none : (v w : ℕ) (histories : List (List Entry)) → v < w
    → filter (is_on v) (numbered_from w histories) ≡ []
on_none v w [] below = refl
on_none v w (entries ∷ histories) below =
    filter-append (is_on v) (map (with_volume w) entries) (numbered_from (w + 1) histories)
    ∙ ap (λ l. l ++ filter (is_on v) (numbered_from (w + 1) histories)) (on_one v w entries
    ∙ ap (λ b. cond b (map (with_volume w) entries) []) (differ_below v w below))
    ∙ on_none v (w + 1) histories (omega arith)

-- the entries of the n-th volume from the first on
on_volume : (n w : ℕ) (histories : List (List Entry))
    → filter (is_on (w + n)) (numbered_from w histories)
    ≡ map (with_volume (w + n)) (history_at histories n)
on_volume n w [] = refl
on_volume zero w (entries ∷ histories) =
    let at : w + zero ≡ w = omega arith in
    filter-append (is_on (w + zero)) (map (with_volume w) entries) (numbered_from (w + 1) histories)
    ∙ ap (λ l. l ++ filter (is_on (w + zero)) (numbered_from (w + 1) histories))
    (on_one (w + zero) w entries ∙ ap (λ v. cond (w == v) (map (with_volume w) entries) []) at
    ∙ ap (λ b. cond b (map (with_volume w) entries) []) (itself w))
    ∙ ap (λ l. map (with_volume w) entries ++ l) (on_none (w + zero) (w + 1) histories (omega arith))
    ∙ append-nil (map (with_volume w) entries)
    ∙ ap (λ v. map (with_volume v) entries) (sym at)
on_volume (suc n) w (entries ∷ histories) =
    let at : w + suc n ≡ w + 1 + n = omega arith in
    filter-append (is_on (w + suc n)) (map (with_volume w) entries)
    (numbered_from (w + 1) histories)
    ∙ ap (λ l. l ++ filter (is_on (w + suc n)) (numbered_from (w + 1) histories))
    (on_one (w + suc n) w entries ∙ ap (λ b. cond b (map (with_volume w) entries) [])
    (differ_above w (w + suc n) (omega arith)))
    ∙ ap (λ v. filter (is_on v) (numbered_from (w + 1) histories)) at
    ∙ on_volume n (w + 1) histories
    ∙ ap (λ v. map (with_volume v) (history_at histories n)) (sym at)

pub on_volume_of_all : (volume : ℕ) (histories : List (List Entry))
    → filter (is_on volume) (numbered_from 0 histories)
    ≡ map (with_volume volume) (history_at histories volume)
on_volume_of_all volume histories =
    let at : 0 + volume ≡ volume = omega arith in
    ap (λ v. filter (is_on v) (numbered_from 0 histories)) (sym at)
    ∙ on_volume volume 0 histories
    ∙ ap (λ v. map (with_volume v) (history_at histories volume)) at

-- without their numbers
pub entries_again : (volume : ℕ) (entries : List Entry)
    → map entry_of (map (with_volume volume) entries) ≡ entries
entries_again volume [] = refl
entries_again volume (entry ∷ entries) = ap (λ l. entry ∷ l) (entries_again volume entries)

-- and with their number again
pub renumbered : (volume : ℕ) (entries : List Numbered)
    → map (with_volume volume) (entries_on volume entries) ≡ filter (is_on volume) entries
renumbered volume [] = refl
renumbered volume (this ∷ entries) =
    by_test (is_on volume this) refl (renumbered volume entries)
  where
    by_test : (b : Bool) → is_on volume this ≡ b
        → map (with_volume volume) (entries_on volume entries) ≡ filter (is_on volume) entries
        → map (with_volume volume) (map entry_of (cond b (this ∷ filter (is_on volume) entries)
        (filter (is_on volume) entries))) ≡ cond b (this ∷ filter (is_on volume) entries)
        (filter (is_on volume) entries)
    by_test true is rest =
        ap (λ v. with_volume v this.entry ∷ map (with_volume volume) (entries_on volume entries))
        (sym (same_number this.volume volume is)) ∙ ap (λ l. this ∷ l) rest
    by_test false is rest = rest

-- the entries of a deck
pub deck_numbered : (deck volume : ℕ) (histories : List (List Entry))
    → filter (is_of deck) (numbered_from volume histories)
    ≡ numbered_from volume (map (deck_entries deck) histories)
deck_numbered deck volume [] = refl
deck_numbered deck volume (entries ∷ histories) =
    filter-append (is_of deck) (map (with_volume volume) entries)
    (numbered_from (volume + 1) histories)
    ∙ ap (λ l. l ++ filter (is_of deck) (numbered_from (volume + 1) histories))
    (filter_mapped (is_of deck) (with_volume volume) entries)
    ∙ ap (λ l. map (with_volume volume) (deck_entries deck entries) ++ l)
    (deck_numbered deck (volume + 1) histories)

pub parts_at : (deck : ℕ) (histories : List (List Entry)) (volume : ℕ)
    → history_at (map (deck_entries deck) histories) volume
    ≡ deck_entries deck (history_at histories volume)
parts_at deck histories volume = get_or-map (deck_entries deck) histories volume []

-- a deck's requests are among its entries
pub requests_of_deck : (deck : ℕ) (entries : List Numbered)
    → part_of_deck deck entries ≡ part_of_deck deck (filter (is_of deck) entries)
requests_of_deck deck [] = refl
requests_of_deck deck (this ∷ entries) =
    by_test (is_of deck this) refl (requests_of_deck deck entries)
  where
    by_test : (b : Bool) → is_of deck this ≡ b
        → part_of_deck deck entries ≡ part_of_deck deck (filter (is_of deck) entries)
        → asked_by deck this ++ part_of_deck deck entries
        ≡ part_of_deck deck (cond b (this ∷ filter (is_of deck) entries)
        (filter (is_of deck) entries))
    by_test true is rest = ap (λ l. asked_by deck this ++ l) rest
    by_test false is rest =
        ap (λ b. cond b (request_in this.volume this.entry.line this.entry.what) []
        ++ part_of_deck deck entries) is ∙ rest
