-- What a set leaves, as it is known of the part: the chain and the place by other names of them.
use Rattle.std.proofs.Common.{◌≡◌, List, ℕ, Option, sym, subst}
use Rattle.vr_types.specs.Seen.{Seen}
use Rattle.vr_space.specs.Known.{Known}
use Rattle.vr_space.specs.Room.{Lengths}
use Rattle.vr_chained.specs.Chain.{ChainNow}
use Rattle.vr_chained.specs.Setting.{IsReady}

module _ (one other : ChainNow) (spot place : List ℕ) (same : one ≡ other) (at : spot ≡ place) where
  -- what holds by the one names holds by the others
  pub renamed : (F : ChainNow → List ℕ → Type 0) → F one spot → F other place
  renamed F is =
      subst (λ (chain : ChainNow). F chain place) same
      (subst (λ (q : List ℕ). F one q) at is)

  -- and the other way round
  pub renamed-back : (F : ChainNow → List ℕ → Type 0) → F other place → F one spot
  renamed-back F is =
      subst (λ (chain : ChainNow). F chain spot) (sym same)
      (subst (λ (q : List ℕ). F other q) (sym at) is)

  -- What follows of what may be set follows by the other names.
  pub ready-renamed : (F : ChainNow → List ℕ → Type 0) (item : Option (List ℕ)) (a : Seen)
      (kept : Lengths) (known : Known)
      → IsReady other.part kept known place item a
      → (IsReady one.part kept known spot item a → F one spot) → F other place
  ready-renamed F item a kept known ready follows =
      renamed F
      (follows (renamed-back (λ chain q. IsReady chain.part kept known q item a) ready))
