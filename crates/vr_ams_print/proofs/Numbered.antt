-- Texts that are joined for the numbers from 0 on.
use Rattle.std.proofs.Common.{◌≡◌, ℕ, ◌+◌, List, ◌++◌, map, sym, ap, ◌∙◌, arith}
use Rattle.std.specs.List.{flat_map, range_with_len}
use Rattle.std.proofs.lemmas.List.{flat_map_more}
use Rattle.std.proofs.lemmas.List.FromFn.{map-range_with_len_more}

-- the text of the next number comes at the end
pub joined_more : {X A : Type 0} (f : X → List A) (g : ℕ → X) (n : ℕ) (start before after : List A)
    → before ≡ start ++ flat_map f (map g (range_with_len 0 n)) → after ≡ before ++ f (g n)
    → after ≡ start ++ flat_map f (map g (range_with_len 0 (n + 1)))
joined_more f g n start before after was is =
    is ∙ ap (λ text. text ++ f (g n)) was
    ∙ flat_map_more f start (map g (range_with_len 0 n)) (g n)
    ∙ ap (λ xs. start ++ flat_map f xs) (sym (map-range_with_len_more g 0 n n (omega arith)))
