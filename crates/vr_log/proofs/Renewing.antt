-- A log whose blocks become zeros, block 1 first.
use Rattle.std.proofs.Common.{◌≡◌, ◌≢◌, inl, inr, ⊎_elim, ℕ, ◌+◌, ◌-◌, ◌<◌, Bool, IsTrue, List}
use Rattle.std.proofs.Common.{length, All, Contains, replicate, refl, sym, ap, subst, ◌∙◌}
use Rattle.std.proofs.Common.{arith}
use Rattle.std.specs.Prelude.{slice_set}
use Rattle.std.proofs.lemmas.Bool.{cases_eq}
use Rattle.std.proofs.lemmas.List.{get_or_default}
use Rattle.vr_types.specs.Blocks.{Forced, Keeps, Puts}
use Rattle.vr_types.specs.Fields.{AreZeros}
use Rattle.vr_types.specs.Geometry.{IsAllowed}
use Rattle.vr_types.specs.Image.{Block, Image, block_at}
use Rattle.vr_types.specs.Regions.{IsImageOn, Touches}
use Rattle.vr_types.specs.Seen.{Only, Seen}
use Rattle.vr_types.specs.declared.geometry.Geometry.{Geometry}
use Rattle.vr_types.proofs.CallerLemmas.{cur-elsewhere, cur-put, keeps-touches, only-elsewhere}
use Rattle.vr_types.proofs.CallerLemmas.{puts-touches, touches-then, touches-weaken}
use Rattle.vr_log.specs.Clearing.{IsAsItWasOrNone}
use Rattle.vr_log.specs.LogNow.{HasLogOrNone, IsOf, LogNow, no_log}
use Rattle.vr_log.specs.Memory.{AreNumbered}
use Rattle.vr_log.specs.Spells.{Spells}
use Rattle.vr_log.specs.Standing.{InLog, IsSettled, LogStands}
use Rattle.vr_log.proofs.Clears.{zeros_are_zeros}
use Rattle.vr_log.proofs.Growing.{stands_has}

-- ---- block 1

module _ (tells : Bool) (told : IsTrue tells) (geometry : Geometry) (allowed : IsAllowed geometry)
    (a b : Seen) (shape : IsOf geometry a)
    (put : Puts tells 1 (replicate geometry.size 0) a b) where
  abbrev zeros : Block
  zeros = replicate geometry.size 0

  first-in : InLog geometry 1
  first-in = (omega arith, allowed.some_log)

  first-there : 1 < a.count
  first-there = omega (arith, shape.count, allowed.some_log, allowed.two_areas)

  -- while it becomes zeros, an image has what it had, or spells no log yet
  pub first_touches : Touches (InLog geometry) (IsAsItWasOrNone geometry a) a b
  first_touches =
      puts-touches tells (InLog geometry) (IsAsItWasOrNone geometry a) 1 zeros a b told first-in put
      (λ image on. ⊎_elim
      (λ (was : a.may 1 (block_at image 1)). inl (record {
        each = λ n below inside. ⊎_elim (λ (old : a.may n (block_at image n)). old)
            (λ new. subst (λ (m : ℕ). a.may m (block_at image m)) (sym new.0) was)
            (on.each n below inside);
      }))
      (λ new. inr (inl (record {
        zeros = subst AreZeros (sym new.1) (zeros_are_zeros geometry.size);
        none = refl;
      })))
      (on.each 1 first-there first-in))

  module _ (long : length a.cur ≡ a.count) (ok : b.cur ≡ slice_set a.cur 1 zeros) where
    first-here : block_at b.cur 1 ≡ zeros
    first-here = cur-put a 1 zeros first-there long b.cur ok

    pub first_spells : Spells geometry b.cur no_log
    first_spells = inl (record {
      zeros = subst AreZeros (sym first-here) (zeros_are_zeros geometry.size);
      none = refl;
    })

    pub first_settled : IsSettled geometry a → Only b 1 (λ block. block ≡ zeros)
        → IsSettled geometry b
    first_settled settled only n on =
        ⊎_elim
        (λ (same : n ≡ 1).
        subst (λ (m : ℕ). Only b m (λ block. block ≡ block_at b.cur m)) (sym same)
        (λ block may. only block may ∙ sym first-here))
        (λ (differ : n ≢ 1) block may.
        only-elsewhere tells a b n 1 zeros (λ block. block ≡ block_at a.cur n) told
        (omega (arith, on.1, shape.count, allowed.two_areas)) differ put (settled n on) block may
        ∙ sym (cur-elsewhere tells a b n 1 zeros told differ put))
        (cases_eq n 1)

-- what clearing block 1 and then the others comes to
pub none_touches : (geometry : Geometry) (a b c : Seen)
    → Touches (InLog geometry) (IsAsItWasOrNone geometry a) a b
    → Touches (InLog geometry) (λ image. Spells geometry image no_log) b c
    → Touches (InLog geometry) (IsAsItWasOrNone geometry a) a c
none_touches geometry a b c first second =
    touches-then (InLog geometry) (IsAsItWasOrNone geometry a) a b c first
    (touches-weaken (InLog geometry) (λ image. Spells geometry image no_log)
    (IsAsItWasOrNone geometry a) b c second (λ image none. inr none))

-- ---- all blocks of the log are forced

pub all_below : (numbers : List ℕ) (count : ℕ) → AreNumbered numbers → length numbers < count
    → All (λ n. n < count) numbers
all_below numbers count each within i d inside =
    omega (arith, get_or_default numbers i d 0 inside, each i inside, inside, within)

all-in : (numbers : List ℕ) (index : ℕ) → AreNumbered numbers → index < length numbers
    → Contains numbers (1 + index)
all-in numbers index each below =
    (index, below, get_or_default numbers index (1 + index) 0 below ∙ each index below)

pub forced_settled : (tells : Bool) (geometry : Geometry) (numbers : List ℕ) (a b : Seen)
    → IsTrue tells → AreNumbered numbers → length numbers ≡ geometry.log
    → Forced numbers a.cur b.may → Keeps tells a b → IsSettled geometry b
forced_settled tells geometry numbers a b told each count forced keeps n on block may =
    forced n block
    (subst (λ (m : ℕ). Contains numbers m) (let is : 1 + (n - 1) ≡ n = omega (arith, on.0) in is)
    (all-in numbers (n - 1) each (omega (arith, on.0, on.1, count)))) may
    ∙ ap (λ (image : Image). block_at image n) (sym (keeps.content told))

-- while they are forced, each image has the log that they had
pub kept_touches : (tells : Bool) (log : LogNow) (a b : Seen) → IsTrue tells → LogStands log a
    → Keeps tells a b → Touches (InLog log.geometry) (HasLogOrNone log) a b
kept_touches tells log a b told stands keeps =
    keeps-touches tells (InLog log.geometry) (HasLogOrNone log) a b told keeps
    (λ image on. inl (stands_has log a image stands.allowed stands.fits stands on))

-- and each image has the log that they had, or spells none yet
pub renewed_touches : (tells : Bool) (log : LogNow) (a b c : Seen) → IsTrue tells
    → LogStands log a → Keeps tells a b
    → Touches (InLog log.geometry) (IsAsItWasOrNone log.geometry b) b c
    → Touches (InLog log.geometry) (HasLogOrNone log) a c
renewed_touches tells log a b c told stands keeps touches =
    touches-then (InLog log.geometry) (HasLogOrNone log) a b c
    (kept_touches tells log a b told stands keeps)
    (touches-weaken (InLog log.geometry) (IsAsItWasOrNone log.geometry b) (HasLogOrNone log) b c
    touches (λ image. ⊎_elim
    (λ (on : IsImageOn (InLog log.geometry) b.count b.may image). inl
    (stands_has log a image stands.allowed stands.fits stands (record {
      each = λ n below inside. keeps.adds_none told n (block_at image n) below
          (on.each n (omega (arith, below, keeps.count_same)) inside);
    })))
    inr))
