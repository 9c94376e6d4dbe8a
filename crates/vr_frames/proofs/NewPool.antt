-- A new pool meets the rule.
use Rattle.std.proofs.Common.{◌≡◌, ℕ, zero, suc, ◌+◌, ◌<◌, List, [], ◌∷◌, ◌++◌, length, get_or}
use Rattle.std.proofs.Common.{replicate, sym, refl, subst, arith, length-append, Some}
use Rattle.std.specs.Prelude.{Option}
use Rattle.std.proofs.lemmas.List.{length-map}
use mathlib.Core.Logic.{dite}
use mathlib.Core.Option.{some, some-injective, some-ne-none}
use native.Mathlib.Decide.{dec_le}
use lib.ListN.{get_elem?}
use Rattle.atomic_table.specs.Table.{opening}
use Rattle.atomic_table.proofs.Lists.{at_map, at_longer, at_last}
use Rattle.vr_frames.specs.declared.view.View.{View}
use Rattle.vr_frames.specs.Views.{first_view}
use Rattle.vr_frames.specs.Rule.{IsSound, IsKept}

-- a list of zeros has zero everywhere
pub zeros : (n k : ℕ) → get_or {A = ℕ} (replicate n 0) k 0 ≡ 0
zeros zero k = refl
zeros (suc n) zero = refl
zeros (suc n) (suc k) = zeros n k

module _ {B : Type 0} (IsWhole : B → Type 0) where
  -- each slot is full
  abbrev pub Row : List (Option B) → Type 0
  Row xs = (k : ℕ) → k < length xs → (buffer : B) × (get_elem? xs k ≡ some (Some buffer))
      × IsWhole buffer

  -- one buffer more
  pub row_more : (xs : List (Option B)) (buffer : B) → Row xs → IsWhole buffer
      → Row (xs ++ Some buffer ∷ [])
  row_more xs buffer all whole k near = dite (dec_le (length xs) k)
      (λ last. (
        buffer,
        subst (λ (n : ℕ). get_elem? (xs ++ Some buffer ∷ []) n ≡ some
            (Some buffer)) (omega (arith, length-append xs (Some buffer ∷ [])))
            (at_last xs (Some buffer) (length xs) refl),
        whole,
      ))
      (λ earlier. let slot = all k (omega arith) in
      (slot.0, at_longer xs (Some buffer ∷ []) k (Some slot.0) slot.1, slot.2))

  -- the table at the start meets the rule
  pub opens : (size : ℕ) (words : List ℕ) (xs : List (Option B)) → length words ≡ length xs + 1
      → ((k : ℕ) → get_or words k 0 ≡ 0) → Row xs
      → IsKept size IsWhole (opening words xs (first_view size))
  opens size words xs long home row = record {
    one_word_more = omega (arith, long, length-map xs some);
    home = λ k near is_zero. let slot = row k (omega (arith, length-map xs some)) in
        record {
          in_slot = (slot.0, at_map some xs k (Some slot.0) slot.1, slot.2);
          in_no_view =
              (refl, refl);
        };
    out = λ k near is_out. absurd (is_out (home k));
    no_others = λ k far. (refl, refl, refl);
    all_parts = refl;
    sound = sound;
  }
    where
      sound : (seat : ℕ) (view : View) → get_elem? (first_view size ∷ []) seat ≡ some view
          → IsSound size view
      sound zero view at = subst (IsSound size) (some-injective (first_view size) view at)
          ((λ _. refl), λ none. absurd (omega arith))
      sound (suc seat) view at = absurd (some-ne-none view (sym at))
