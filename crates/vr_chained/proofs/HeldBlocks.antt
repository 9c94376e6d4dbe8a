-- The blocks of the areas that are kept.
use Rattle.std.proofs.Common.{◌≡◌, ◌<◌, ◌/◌, ◌%◌, ℕ, List, length, sym, subst}
use Rattle.std.specs.Prelude.{Contains, slice_index}
use Rattle.std.proofs.lemmas.List.Elements.{Contains-get_or}
use Rattle.vr_space.specs.Known.{Known}
use Rattle.vr_space.specs.Part.{InHeld, NumberedShape}
use Rattle.vr_space.specs.Rosters.{IsInArea}
use Rattle.vr_space.specs.Numbered.{chain_block}
use Rattle.vr_space.proofs.CallerLemmas.{interval-inside}
use Rattle.vr_chained.specs.Chain.{ChainNow}

-- a used interval is one of the areas that are held
pub block-held : (chain : ChainNow) (known : Known) (interval n : ℕ)
    → interval / chain.part.geometry.area < length chain.areas
    → interval % chain.part.geometry.area < chain.part.geometry.area
    → n ≡ chain_block chain.part chain.areas interval → known.areas ≡ chain.areas
    → InHeld (NumberedShape chain.part) known n
block-held chain known interval n there below is same =
    let whole : ℕ = chain.part.geometry.area in
    let area : ℕ = slice_index chain.areas (interval / whole) in (
      area,
      subst (λ (areas : List ℕ). Contains areas area) (sym same)
          (Contains-get_or chain.areas (interval / whole) 0 there),
      subst (IsInArea chain.part area) (sym is)
          (interval-inside chain.part area (interval % whole) below),
    )
