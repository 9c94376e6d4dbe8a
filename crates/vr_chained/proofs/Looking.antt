-- The record that is read at a place, by the areas that are kept.
use Rattle.std.proofs.Common.{◌≡◌, ◌<◌, ◌≤◌, ℕ, List, Option, Some, None, ap, sym, ◌∙◌, Bor, subst}
use Rattle.std.specs.Prelude.{MatchOption, OnOk, option_and_then}
use Rattle.std.specs.declared.result.Result.{Result}
use Rattle.std.specs.declared.result.Result.TheVariants.{Ok}
use Rattle.vr_types.specs.Content.{Item, record_of}
use Rattle.vr_types.specs.Content.Item.{Standing}
use Rattle.vr_types.specs.Faults.{Faults, HasCause}
use Rattle.vr_types.specs.Geometry.{area_count}
use Rattle.vr_types.specs.Image.{Block, Image, block_at}
use Rattle.vr_types.specs.declared.fault.DeviceFault.{DeviceFault}
use Rattle.vr_types.proofs.CallerLemmas.{cause-ok}
use Rattle.vr_space.specs.Part.{NumberedShape, Stands, item_of, record_read}
use Rattle.vr_space.specs.Rosters.{Numbered}
use Rattle.vr_space.specs.Numbered.{IsFilled, IsNumberPlace, at_in, chain_block, interval_of}
use Rattle.vr_space.specs.Numbered.{item_in, item_read}
use Rattle.vr_space.specs.Way.{found_on}
use Rattle.vr_chained.specs.Chain.{ChainNow, IsChainOf}
use Rattle.vr_chained.specs.Filled.{record_in}
use Rattle.vr_chained.proofs.PlaceBlock.{block-past, block-there, block_for, chain-known}
use Rattle.vr_chained.proofs.PlaceBlock.{known-chain, place-from, place-reads}
use Rattle.vr_chained.proofs.Reached.{way_at}

-- The item at a place is in this block, which is an interval of the part.
pub record IsInBlock (chain : ChainNow) (image : Image) (place : List ℕ) (n : ℕ) : Type 0 where
  pub item : item_of (NumberedShape chain.part) image place
      ≡ item_in chain.part (at_in chain.part place) (block_at image n)
  pub filled : IsFilled chain.part (block_at image n)

module _ (chain : ChainNow) (image : Image) (stands : Stands (NumberedShape chain.part) image)
    (of : IsChainOf chain image) (place : List ℕ) where
  abbrev Own : ℕ → Type 0
  Own area = area < area_count chain.part.geometry

  -- where its interval is used
  pub look-there : (n : ℕ) → IsNumberPlace chain.part place
      → interval_of chain.part place < chain.used
      → n ≡ chain_block chain.part chain.areas (interval_of chain.part place)
      → IsInBlock chain image place n
  look-there n numbered within is =
      let at : block_for chain.part image place ≡ Some n =
      block-there chain.part Own (IsFilled chain.part) image stands.1.chain (known-chain chain)
      place stands.1.part_is (chain-known chain image of) numbered within
      ∙ ap (λ (m : ℕ). Some m) (sym is) in
      record {
        item = place-reads chain.part image place
            ∙ ap (λ (block : Option ℕ).
            found_on image (way_at (item_read chain.part (at_in chain.part place)) block)) at;
        filled = (place-from chain.part Own (IsFilled chain.part) image stands.1.chain place n
            at).has;
      }

  -- and past those there is none
  pub look-past : chain.used ≤ interval_of chain.part place
      → record_read (NumberedShape chain.part) image place ≡ None
  look-past past =
      ap (option_and_then record_of)
      (place-reads chain.part image place
      ∙ ap (λ (block : Option ℕ).
      found_on image (way_at (item_read chain.part (at_in chain.part place)) block))
      (block-past chain.part Own (IsFilled chain.part) image stands.1.chain (known-chain chain)
      place (chain-known chain image of) past))

-- what is found of an item is the record that is read
found-read : (item : Option Item) (found : Option (Bor (List ℕ)))
    → MatchOption found (option_and_then record_of item ≡ None) (λ s. item ≡ Some (Standing s.now))
    → MatchOption found (option_and_then record_of item ≡ None)
    (λ s. option_and_then record_of item ≡ Some s.now)
found-read item None is = is
found-read item (Some s) is = ap (option_and_then record_of) is

-- The record that is read at the place is what the block that is lent has there.
pub look-found : (chain : ChainNow) (image : Image) (place : List ℕ) (n : ℕ) (layout : Numbered)
    (block : Block) (at : ℕ) (found : Option (Bor (List ℕ))) → IsInBlock chain image place n
    → layout ≡ chain.part → block ≡ block_at image n → at ≡ at_in chain.part place
    → (IsFilled layout block → MatchOption found (record_in layout at block ≡ None)
    (λ s. item_in layout at block ≡ Some (Standing s.now)))
    → MatchOption found (record_read (NumberedShape chain.part) image place ≡ None)
    (λ s. record_read (NumberedShape chain.part) image place ≡ Some s.now)
look-found chain image place n layout block at found it same content here says =
    let filled : IsFilled layout block =
    subst (λ (part : Numbered). IsFilled part block) (sym same)
    (subst (IsFilled chain.part) (sym content) it.filled) in
    let is : item_of (NumberedShape chain.part) image place ≡ item_in layout at block =
    it.item ∙ ap (λ (s : ℕ). item_in chain.part s (block_at image n)) (sym here)
    ∙ ap (item_in chain.part at) (sym content)
    ∙ ap (λ (part : Numbered). item_in part at block) (sym same) in
    found-read (item_of (NumberedShape chain.part) image place) found
    (subst (λ (o : Option Item). MatchOption found (option_and_then record_of o ≡ None)
    (λ s. o ≡ Some (Standing s.now))) (sym is) (says filled))

-- an answer without a fault, by way of another
pub cause-answered : {T U : Type 0} (a b : Faults) (result : Result T DeviceFault) (x : T) (y : U)
    → result ≡ Ok x → HasCause a b result → HasCause a b (Ok y)
cause-answered {T} {U} a b result x y is call =
    cause-ok a b y (subst (λ (r : Result T DeviceFault). OnOk r (b ≡ a)) is call.ok)
