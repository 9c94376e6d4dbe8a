-- The blanks after a data card.
use Rattle.std.proofs.Common.{◌≡◌, ℕ, ◌++◌, ◌≤◌, List, length, drop, replicate, sym, ap, ◌∙◌}
use Rattle.std.proofs.Common.{arith}
use Rattle.std.proofs.lemmas.List.{drop-replicate, drop_all}
use Rattle.vr_job_text.specs.Utilities.{padded}

pub blanks_left : (card : List ℕ) → card ++ drop (length card) (replicate 80 32) ≡ padded card
blanks_left card = ap (λ (blanks : List ℕ). card ++ blanks) (drop-replicate (length card) 80 32)

pub none_left : (blanks : List ℕ) (count : ℕ) → length blanks ≤ count
    → drop (length blanks) blanks ≡ drop count blanks
none_left blanks count long =
    drop_all (length blanks) blanks (omega arith) ∙ sym (drop_all count blanks long)
