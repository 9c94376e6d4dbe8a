-- The places of what is kept ascend.
use Rattle.std.proofs.Common.{◌≡◌, ℕ, List, [], ◌∷◌, map}
use Rattle.std.specs.List.{AllByRecursion, filter_map}
use Rattle.std.specs.List.Sorted.{IsStrictlySortedBy}
use Rattle.std.specs.declared.cmp.Ordering.TheVariants.{Less}
use Rattle.vr_types.specs.Content.{place_cmp}
use Rattle.vr_history.specs.State.{BeforeImage}
use Rattle.vr_space.specs.Room.{AscendLengths, Lengths, with_length, with_lengths}
use Rattle.vr_space.proofs.CallerLemmas.{Rise, rise-with}
use Rattle.vr_space.proofs.Fewer.{AllPast}
use Rattle.vr_undo.specs.PutBack.{length_in, lengths_kept}

with-rise : (lengths more : Lengths) → Rise lengths → Rise (with_lengths lengths more)
with-rise lengths [] rise = rise
with-rise lengths (entry ∷ more) rise =
    with-rise (with_length lengths entry.0 entry.1) more (rise-with lengths entry.0 entry.1 rise)

pub kept-rise : (images : List BeforeImage) (part : ℕ) → Rise (lengths_kept images part)
kept-rise images part = with-rise [] (filter_map (length_in part) images) tt

past-all : (place : List ℕ) (lengths : Lengths) → AllPast place lengths
    → AllByRecursion (λ other. place_cmp place other ≡ Less)
    (map (λ (entry : List ℕ × ℕ). entry.0) lengths)
past-all place [] past = tt
past-all place (entry ∷ lengths) past = (past.0, past-all place lengths past.1)

rise-sorted : (lengths : Lengths) → Rise lengths → AscendLengths lengths
unfolding IsStrictlySortedBy
rise-sorted [] rise = tt
rise-sorted (entry ∷ lengths) rise = (past-all entry.0 lengths rise.0, rise-sorted lengths rise.1)

pub kept-ascend : (images : List BeforeImage) (part : ℕ) → AscendLengths (lengths_kept images part)
kept-ascend images part = rise-sorted (lengths_kept images part) (kept-rise images part)
