-- Whether an item of its length is there for each record that is kept: at one place, and place by
-- place.
use Rattle.std.proofs.Common.{◌≡◌, ◌↔◌, ◌<◌, ◌≤◌, ℕ, Bool, true, false, IsTrue, List}
use Rattle.std.proofs.Common.{Option, Some, None, IfSome, sym, ap, subst, ◌∙◌}
use Rattle.std.proofs.Common.{arith}
use Rattle.std.specs.Option.{option_map}
use Rattle.std.proofs.lemmas.Bool.{eq-eqb, eqb-true}
use Rattle.vr_types.specs.Content.{Item}
use Rattle.vr_types.specs.Geometry.{area_count}
use Rattle.vr_types.specs.Image.{Block, Image, block_at}
use Rattle.vr_space.specs.Entries.{IsEntries, entry_item, item_length}
use Rattle.vr_space.specs.Keyed.{items_of}
use Rattle.vr_space.specs.Numbered.{HasKeptPlace, HasLengthBy, IsFilled, IsFilledBy, IsNumberPlace}
use Rattle.vr_space.specs.Numbered.{at_in, chain_block, interval_of, item_by}
use Rattle.vr_space.specs.Numbered.{takes}
use Rattle.vr_space.specs.Part.{NumberedShape, Stands}
use Rattle.vr_space.specs.Rosters.{IsOf, Numbered}
use Rattle.vr_space.specs.Way.{found_on}
use Rattle.vr_space.proofs.CallerLemmas.{HasKeptLength, interval-found, interval-used}
use Rattle.vr_space.proofs.CallerLemmas.{used-interval, way-there}
use Rattle.vr_chained.specs.Chain.{ChainNow, IsChainOf}
use Rattle.vr_chained.proofs.Looking.{IsInBlock, look-there}

-- ---- at one place

-- what isn't so, by a test that says so
pub says-no : {P : Type 0} → (P → ⊥) → IsTrue false ↔ P
says-no not = ((λ yes. absurd cc), (λ is. absurd (not is)))

-- where both have the same item, both have the length or neither does
length-same : (relative : Bool) (at n : ℕ) (one other : Block)
    → item_by relative at (items_of one) ≡ item_by relative at (items_of other)
    → HasLengthBy relative at n other → HasLengthBy relative at n one
length-same true at n one other same has = tt
length-same false at n one other same has = ap (option_map item_length) same ∙ has

-- an interval of records has the length there exactly where it takes a record of that length as no
-- new one
length-taken : (item : Option Item) (n : ℕ)
    → IsTrue (takes false item n false) ↔ (option_map item_length item ≡ Some n)
length-taken None n = ((λ takes. absurd cc), (λ is. absurd cc))
length-taken (Some item) n = (
  (λ takes. ap (λ (m : ℕ). Some m) (eqb-true (item_length item) n takes)),
  (λ is.
      let long : item_length item ≡ n = cc in
      eq-eqb (item_length item) n long),
)

module _ (chain : ChainNow) (image : Image) (stands : Stands (NumberedShape chain.part) image)
    (of : IsChainOf chain image) (place : List ℕ) (length : ℕ) where
  abbrev Own : ℕ → Type 0
  Own area = area < area_count chain.part.geometry

  -- A place that is kept is in a used interval;
  kept-used : HasKeptPlace chain.part (IsOf image) (place, length)
      → interval_of chain.part place < chain.used
  kept-used has =
      omega (
        arith,
        of.used,
        interval-used chain.part Own (IsFilled chain.part)
            (HasKeptLength chain.part (place, length)) image (area_count chain.part.geometry)
            (interval_of chain.part place) chain.part.first stands.1.chain has.interval,
      )

  -- so where its interval isn't used, none is kept there.
  pub kept-past : chain.used ≤ interval_of chain.part place
      → IsTrue false ↔ HasKeptPlace chain.part (IsOf image) (place, length)
  kept-past past = says-no (λ has. absurd (omega (arith, past, kept-used has)))

  -- Where it is, a record is kept there exactly where its block has the length.
  module _ (n : ℕ) (numbered : IsNumberPlace chain.part place)
      (used : interval_of chain.part place < chain.used)
      (at : n ≡ chain_block chain.part chain.areas (interval_of chain.part place)) where
    kept-there : HasKeptLength chain.part (place, length) (block_at image n)
        → HasKeptPlace chain.part (IsOf image) (place, length)
    kept-there has = record {
      place = numbered;
      interval = used-interval chain.part Own (IsFilled chain.part)
          (HasKeptLength chain.part (place, length)) image
          (omega (arith, stands.1.part_is.allowed.some_intervals)) (area_count chain.part.geometry)
          (interval_of chain.part place) chain.part.first stands.1.chain
          (omega (arith, used, of.used))
          (subst (λ (m : ℕ). HasKeptLength chain.part (place, length) (block_at image m))
          (at ∙ ap (λ (areas : List ℕ). chain_block chain.part areas (interval_of chain.part place))
          of.areas) has);
    }

    there-kept : HasKeptPlace chain.part (IsOf image) (place, length)
        → HasKeptLength chain.part (place, length) (block_at image n)
    there-kept has =
        let found = interval-found chain.part Own (IsFilled chain.part)
        (HasKeptLength chain.part (place, length)) image (at_in chain.part place)
        (area_count chain.part.geometry) (interval_of chain.part place) chain.part.first
        stands.1.chain has.interval in
        let it : IsInBlock chain image place n =
        look-there chain image stands of place n numbered used at in
        length-same chain.part.relative (at_in chain.part place) length (block_at image n)
        found.block
        (sym it.item ∙ ap (found_on image) (way-there chain.part place numbered) ∙ found.item)
        found.has

    -- by what was read of an interval of records
    pub kept-taken : (layout : Numbered) (block : Block) (from : ℕ) (takes_it : Bool)
        → chain.part.relative ≡ false → layout ≡ chain.part → block ≡ block_at image n
        → from ≡ at_in chain.part place
        → (IsEntries layout block
        → takes_it ≡ takes false (entry_item from (items_of block)) length false)
        → IsTrue takes_it ↔ HasKeptPlace chain.part (IsOf image) (place, length)
    kept-taken layout block from takes_it entries laid content here says =
        let it : IsInBlock chain image place n =
        look-there chain image stands of place n numbered used at in
        let filled : IsEntries layout block =
        subst (λ (part : Numbered). IsEntries part block) (sym laid)
        (subst (IsEntries chain.part) (sym content)
        (subst (λ (slots : Bool). IsFilledBy slots chain.part (block_at image n)) entries
        it.filled)) in
        let taken : takes_it
        ≡ takes false (entry_item (at_in chain.part place) (items_of (block_at image n))) length
        false =
        says filled
        ∙ ap (λ (at : ℕ). takes false (entry_item at (items_of block)) length false) here
        ∙ ap (λ (b : Block).
        takes false (entry_item (at_in chain.part place) (items_of b)) length false) content in
        let both = length-taken
        (entry_item (at_in chain.part place) (items_of (block_at image n))) length in (
          (λ yes. kept-there (subst (λ (slots : Bool).
              HasLengthBy slots (at_in chain.part place) length (block_at image n)) (sym entries)
              (both.0 (sym taken ∙ yes)))),
          (λ has. taken ∙ both.1 (subst (λ (slots : Bool).
              HasLengthBy slots (at_in chain.part place) length (block_at image n)) entries
              (there-kept has))),
        )

-- what is so of each is so of the one that there is
pub if-some-all : {X : Type 0} (P : X → Type 0) (item : Option X) → ((x : X) → P x) → IfSome item P
if-some-all P None each = tt
if-some-all P (Some x) each = each x
