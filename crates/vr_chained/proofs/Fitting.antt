-- Whether a record of an entry-sequenced part fits where its interval was met.
use Rattle.std.proofs.Common.{◌≡◌, ◌<◌, ℕ, Bool, true, false, List, Option, Some, None, sym, ap}
use Rattle.std.proofs.Common.{subst, ◌∙◌, arith}
use Rattle.std.specs.Prelude.{IfSome, bytes_eq, is_some, ◌&&◌}
use Rattle.std.proofs.lemmas.Bool.{lt-ltb}
use Rattle.vr_types.specs.Content.{Item}
use Rattle.vr_types.specs.Fields.{four}
use Rattle.vr_types.specs.Image.{Block, Image, block_at}
use Rattle.vr_space.specs.Entries.{IsEntries, Tail, address_after, entry_item}
use Rattle.vr_space.specs.Keyed.{items_of}
use Rattle.vr_space.specs.Met.{Met}
use Rattle.vr_space.specs.Numbered.{IsFilledBy, IsIntervalMet, IsNumberPlace, at_in, chain_block}
use Rattle.vr_space.specs.Numbered.{has_interval, interval_of, item_by, numbered_fits, numbered_way}
use Rattle.vr_space.specs.Numbered.{takes}
use Rattle.vr_space.specs.Part.{NumberedShape, Stands}
use Rattle.vr_space.specs.Rosters.{Numbered, chain_of, used_of}
use Rattle.vr_space.specs.Way.{found_on}
use Rattle.vr_chained.specs.Chain.{ChainNow, IsChainOf}
use Rattle.vr_chained.proofs.Looking.{IsInBlock, look-there}

module _ (chain : ChainNow) (image : Image) (stands : Stands (NumberedShape chain.part) image)
    (of : IsChainOf chain image) (place : List ℕ) (is : IsNumberPlace chain.part place)
    (within : interval_of chain.part place < chain.used) (entries : chain.part.relative ≡ false)
  where
    abbrev part : Numbered
    part = chain.part

    has-interval : has_interval part image place ≡ true
    has-interval = lt-ltb (interval_of part place) (used_of part image)
        (omega (arith, within, of.used))

    -- what was met is the block that has the place
    pub met-in : (met : Met) → met.place ≡ place → IsIntervalMet part image met
        → IsInBlock chain image place met.number × (block_at image met.number ≡ met.block)
    met-in met here kept =
        let its = kept (subst (λ (p : List ℕ). has_interval part image p ≡ true) (sym here)
        has-interval) in (
          look-there chain image stands of place met.number is within
              (its.0
              ∙ ap (λ (p : List ℕ). chain_block part (chain_of part image) (interval_of part p)) here
              ∙ ap (λ (areas : List ℕ). chain_block part areas (interval_of part place))
              (sym of.areas)),
          its.1,
        )

    pub entry-fits : (met : Met) → met.place ≡ place → IsIntervalMet part image met
        → (tail : Option Tail) (n at : ℕ) (next fits : Bool) → at ≡ at_in part place
        → next ≡ bytes_eq place (four (address_after part tail n))
        → (IsEntries part met.block
        → fits ≡ takes false (entry_item at (items_of met.block)) n next)
        → fits ≡ numbered_fits part tail image place n
    entry-fits met here kept tail n at next fits at-is next-is says =
        let found = met-in met here kept in
        let filled : IsEntries part met.block =
        subst (λ (relative : Bool). IsFilledBy relative part met.block) entries
        (subst (λ (block : Block). IsFilledBy part.relative part block) found.1 found.0.filled) in
        let item : entry_item at (items_of met.block) ≡ found_on image (numbered_way part place) =
        sym (found.0.item
        ∙ ap (λ (block : Block). item_by part.relative (at_in part place) (items_of block)) found.1
        ∙ ap (λ (relative : Bool). item_by relative (at_in part place) (items_of met.block)) entries
        ∙ ap (λ (k : ℕ). entry_item k (items_of met.block)) (sym at-is)) in
        says filled
        ∙ ap (λ (i : Option Item). takes false i n next) item
        ∙ ap (takes false (found_on image (numbered_way part place)) n) next-is
        ∙ ap (λ (relative : Bool). takes relative (found_on image (numbered_way part place)) n
        (bytes_eq place (four (address_after part tail n)))) (sym entries)
        ∙ ap (λ (there : Bool). there && takes part.relative
        (found_on image (numbered_way part place)) n
        (bytes_eq place (four (address_after part tail n)))) (sym has-interval)

-- the interval of a place is used, where it has a block
pub block-used : (used : ℕ) (Is : Type 0) (interval : ℕ) (found : Option ℕ) → is_some found ≡ true
    → IfSome found (λ n. Is × (interval < used)) → interval < used
block-used used Is interval None some within = absurd cc
block-used used Is interval (Some n) some within = within.1
