-- The first place with a record: of an interval, and from a number on.
use Rattle.std.proofs.Common.{◌≡◌, ◌+◌, ◌-◌, ◌*◌, ◌/◌, ◌^◌, ◌<◌, ◌≤◌, ℕ, None}
use Rattle.std.proofs.Common.{Option, refl, sym, ap, subst, ◌∙◌, arith}
use Rattle.std.proofs.Common.{◌⊎◌, inl, inr}
use Rattle.std.proofs.Math.Nat.{le-div_iff_mul-le}
use Rattle.std.proofs.lemmas.Bool.{cases_lt}
use Rattle.std.specs.Prelude.{option_and_then}
use Rattle.vr_types.specs.Content.{Item, record_of}
use Rattle.vr_types.specs.Fields.{four}
use Rattle.vr_types.specs.Image.{Block, Image, block_at}
use Rattle.vr_space.specs.Part.{NumberedShape, Stands, record_read}
use Rattle.vr_space.specs.Numbered.{IsFilled, chain_block, number_of, span_of, start_of}
use Rattle.vr_space.specs.Rosters.{Numbered}
use Rattle.vr_space.proofs.CallerLemmas.{number-four, span-some}
use Rattle.vr_chained.specs.Chain.{ChainNow, IsChainNow, IsChainOf}
use Rattle.vr_chained.specs.Filled.{IsFirstHeld, record_in}
use Rattle.vr_chained.specs.Searched.{HasNoneRead, IsFirstRead}
use Rattle.vr_chained.proofs.Counted.{number-fits}
use Rattle.vr_chained.proofs.Looking.{IsInBlock, look-past, look-there}
use Rattle.vr_chained.proofs.NumberOf.{number-at}

module _ (chain : ChainNow) (image : Image) (stands : Stands (NumberedShape chain.part) image)
    (is : IsChainOf chain image) (now : IsChainNow chain.part chain.areas chain.used)
    (interval : ℕ) (within : interval < chain.used) where
  abbrev pub span : ℕ
  span = span_of chain.part

  -- the number of the interval's first place
  abbrev pub first : ℕ
  first = start_of chain.part + interval * span

  -- and that of the next interval's
  abbrev pub past : ℕ
  past = start_of chain.part + (interval + 1) * span

  abbrev pub block : Block
  block = block_at image (chain_block chain.part chain.areas interval)

  -- A place of a used interval, by its number.
  record IsPlaceRead (at number : ℕ) : Type 0 where
    pub filled : IsFilled chain.part block
    pub reads : record_read (NumberedShape chain.part) image (four number)
        ≡ record_in chain.part at block

  place-read : (at number : ℕ) → at < span → number ≡ first + at → IsPlaceRead at number
  place-read at number inside same =
      let fits = number-fits chain.part chain.areas chain.used interval at now within inside in
      let numbered = number-at chain.part interval at number inside same
      (omega (arith, same, fits)) in
      let found : IsInBlock chain image (four number)
      (chain_block chain.part chain.areas interval) =
      look-there chain image stands is (four number) (chain_block chain.part chain.areas interval)
      numbered.place (subst (λ (n : ℕ). n < chain.used) (sym numbered.interval_is) within)
      (ap (chain_block chain.part chain.areas) (sym numbered.interval_is)) in
      record {
        filled = found.filled;
        reads =
            ap (λ (item : Option Item). option_and_then record_of item) found.item
            ∙ ap (λ (n : ℕ). record_in chain.part n block) numbered.at_is;
      }

  -- the interval is one of the part's
  filled-here : 0 < span → IsFilled chain.part block
  filled-here some = (place-read 0 (first + 0) some refl).filled

  -- where the places from one on have no record, none is read there
  none-read : (at end : ℕ) → end ≤ span → ((other : ℕ) → at ≤ other → other < end
      → record_in chain.part other block ≡ None)
      → HasNoneRead chain.part image (first + at) (first + end)
  none-read at end most empty number least below =
      let other : ℕ = number - first in
      (place-read other number (omega (arith, least, below, most)) (omega (arith, least))).reads
      ∙ empty other (omega (arith, least)) (omega (arith, least, below))

  -- the first place with a record is the first that is read
  first-read : (at found : ℕ) → IsFirstHeld chain.part block at found
      → IsFirstRead chain.part image (first + at) past (first + found)
  first-read at found held = record {
    from_is = omega (arith, held.from_is);
    below_is = omega (arith, held.below_is);
    some = λ none. held.some
        (sym (place-read found (first + found) held.below_is refl).reads ∙ none);
    none = none-read at found (omega (arith, held.below_is)) held.none;
  }

  -- the same by what was read of the interval
  read-filled : (layout : Numbered) (bytes : Block) → layout ≡ chain.part → bytes ≡ block
      → IsFilled layout bytes
  read-filled layout bytes laid at =
      subst (λ (p : Numbered). IsFilled p bytes) (sym laid)
      (subst (IsFilled chain.part) (sym at) (filled-here (span-some chain.part now.part_is)))

  pub read-first : (layout : Numbered) (bytes : Block) → layout ≡ chain.part → bytes ≡ block
      → (at found : ℕ) → (IsFilled layout bytes → IsFirstHeld layout bytes at found)
      → IsFirstRead chain.part image (first + at) past (first + found)
  read-first layout bytes laid same at found held =
      first-read at found
      (subst (λ (b : Block). IsFirstHeld chain.part b at found) same
      (subst (λ (p : Numbered). IsFirstHeld p bytes at found) laid
      (held (read-filled layout bytes laid same))))

  pub read-none : (layout : Numbered) (bytes : Block) → layout ≡ chain.part → bytes ≡ block
      → (at : ℕ) → (IsFilled layout bytes → (other : ℕ) → at ≤ other
      → record_in layout other bytes ≡ None)
      → HasNoneRead chain.part image (first + at) past
  read-none layout bytes laid same at empty number least below =
      none-read at span (omega arith)
      (λ other from within.
      ap (record_in chain.part other) (sym same)
      ∙ ap (λ (p : Numbered). record_in p other bytes) (sym laid)
      ∙ empty (read-filled layout bytes laid same) other from)
      number least (omega (arith, below))

-- ---- from a number on

-- None of those up to a number, and none from there on, is none of all.
pub none-further : (part : Numbered) (image : Image) (from mid end : ℕ)
    → HasNoneRead part image from mid → HasNoneRead part image mid end
    → HasNoneRead part image from end
none-further part image from mid end first later number least below = by_order (cases_lt number mid)
  where
    by_order : (number < mid) ⊎ (mid ≤ number)
        → record_read (NumberedShape part) image (four number) ≡ None
    by_order (inl less) = first number least less
    by_order (inr most) = later number most below

-- and so the first of the later ones is the first of all
pub first-later : (part : Numbered) (image : Image) (from mid end top number : ℕ) → from ≤ mid
    → number < top → HasNoneRead part image from mid → IsFirstRead part image mid end number
    → IsFirstRead part image from top number
first-later part image from mid end top number least below none first = record {
  from_is = omega (arith, least, first.from_is);
  below_is = below;
  some = first.some;
  none = none-further part image from mid number none first.none;
}

-- past the used intervals there is none
pub none-past : (chain : ChainNow) (image : Image) → Stands (NumberedShape chain.part) image
    → IsChainOf chain image → (interval : ℕ) → chain.used ≤ interval
    → HasNoneRead chain.part image (start_of chain.part + interval * span_of chain.part) (2 ^ 32)
none-past chain image stands is interval past number least below =
    let start = start_of chain.part in
    let at : number_of (four number) ≡ number = number-four number below in
    let within : interval ≤ (number_of (four number) - start) / span_of chain.part =
    (le-div_iff_mul-le (span-some chain.part stands.1.part_is)).1 (omega (arith, least, at)) in
    look-past chain image stands is (four number) (omega (arith, past, within))
