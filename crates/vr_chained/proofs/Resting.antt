-- What proofs of puts share: the chain that the image has of a part at rest, and what a put may
-- leave.
use Rattle.std.proofs.Common.{◌≡◌, ◌≢◌, ◌⊎◌, inl, inr, ⊎_elim, ℕ, sym, subst, arith}
use Rattle.std.proofs.lemmas.Bool.{cases_lt}
use Rattle.vr_types.specs.Geometry.{area_count}
use Rattle.vr_types.specs.Image.{Block, MayAlso}
use Rattle.vr_types.specs.Seen.{Left, Seen}
use Rattle.vr_space.specs.Owners.{Owners}
use Rattle.vr_space.specs.Rosters.{IsChained, IsOf, Numbered}
use Rattle.vr_space.specs.Numbered.{IsFilled, IsNumberedAtRest, IsRestingArea}
use Rattle.vr_space.proofs.CallerLemmas.{area-owned, chain-less}

-- what is seen, and what a put may leave beside it
abbrev pub also : Seen → ℕ → Block → Seen
also a n bytes = record {
  count = a.count;
  size = a.size;
  cur = a.cur;
  may = MayAlso a.may n bytes;
  moment = a.moment;
  images = a.images;
}

-- two numbers are the same, or aren't
pub equal_or : (k m : ℕ) → (k ≡ m) ⊎ (k ≢ m)
equal_or k m =
    ⊎_elim (λ less. inr (λ same. omega (arith, less, same)))
    (λ most. ⊎_elim (λ less. inr (λ same. omega (arith, less, same)))
    (λ least. inl (omega (arith, most, least))) (cases_lt m k)) (cases_lt k m)

-- the chain that the image has of a part at rest
pub resting-chain : (part : Numbered) (owners : Owners) (a : Seen) → Left a a.cur
    → IsNumberedAtRest part owners a
    → IsChained part (IsRestingArea part owners a) (IsFilled part) (IsOf a.cur)
resting-chain part owners a left rests =
    chain-less part (IsRestingArea part owners a) (IsRestingArea part owners a) (IsFilled part)
    (IsOf a.cur) a.may (λ area own. own)
    (λ area own m inside block is. subst (a.may m) (sym is)
    (left.each m (area-owned part owners a rests.on area own.own m inside).0))
    (area_count part.geometry) part.first rests.chain
