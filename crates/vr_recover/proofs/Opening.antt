-- Why what is found as a volume is opened refuses it, and what it comes to where nothing does.
use Rattle.std.proofs.Common.{◌≡◌, ◌≢◌, ⊎_elim, ℕ, ◌+◌, ◌<◌, ◌≤◌, List, [], ◌∷◌, ◌++◌}
use Rattle.std.proofs.Common.{Some, refl, sym, ap, subst, ◌∙◌, arith}
use Rattle.std.specs.Prelude.{All, Bool, Contains, IsTrue}
use Rattle.std.proofs.lemmas.Bool.{cases_lt}
use Rattle.std.proofs.lemmas.List.Elements.{All-push, Contains-append_left, Contains-append_right}
use Rattle.vr_types.specs.Blocks.{AllForced, Forced, Keeps}
use Rattle.vr_types.specs.Image.{Image, block_at}
use Rattle.vr_types.specs.Seen.{Seen}
use Rattle.vr_mount.specs.Header.{version_in}
use Rattle.vr_mount.proofs.Headers.{version_stated}
use Rattle.vr_recover.specs.Opening.{IsOfVersion}

-- ---- numbers of blocks

pub numbered-more : (count n : ℕ) (numbers : List ℕ) → n < count
    → All (λ (m : ℕ). m < count) numbers → All (λ (m : ℕ). m < count) (numbers ++ n ∷ [])
numbered-more count n numbers less all = All-push (λ (m : ℕ). m < count) numbers n all less

pub contains-more : (n : ℕ) (numbers : List ℕ) → ((m : ℕ) → m < n → Contains numbers m)
    → (m : ℕ) → m < n + 1 → Contains (numbers ++ n ∷ []) m
contains-more n numbers has m less = ⊎_elim
    (λ (below : m < n). Contains-append_left numbers (n ∷ []) m (has m below))
    (λ (last : n ≤ m). let same : n ≡ m = omega (arith, last, less) in
    subst (Contains (numbers ++ n ∷ [])) same
    (Contains-append_right numbers (n ∷ []) n (0, omega arith, refl)))
    (cases_lt m n)

-- ---- the header

-- a header states version 1: where another is stated there is no volume
pub other-version : (number : ℕ) (now : Seen) (found : ℕ)
    → version_in (block_at now.cur 0) ≡ Some found → found ≢ 1 → IsOfVersion number now found
other-version number now found stated other = record {
  none = λ geometry contents is. other (some-is found 1 (sym stated
      ∙ ap version_in is.recovers.stands.header ∙ version_stated geometry number));
  stated = stated;
  other = other;
}
  where
    some-is : (x y : ℕ) → Some x ≡ Some y → x ≡ y
    some-is x y same = cc

-- ---- a sync

-- once all blocks are forced a crash leaves what is read
pub all-forced : (tells : Bool) (a b : Seen) (count : ℕ) (numbers : List ℕ) → IsTrue tells
    → a.count ≡ count → ((n : ℕ) → n < count → Contains numbers n) → Keeps tells a b
    → Forced numbers a.cur b.may → AllForced b.count b.cur b.may
all-forced tells a b count numbers told same all call forced n block below may =
    subst (λ (image : Image). block ≡ block_at image n) (sym (call.content told))
    (forced n block (all n (omega (arith, below, call.count_same, same))) may)
