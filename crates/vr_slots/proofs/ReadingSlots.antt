-- Blocks that are intervals of slots, as they are read.
use Rattle.std.proofs.Common.{◌≡◌, ◌<◌, ◌≤◌, ◌+◌, ℕ, zero, suc, Bool, true, false, List, [], ◌∷◌}
use Rattle.std.proofs.Common.{length, drop, Some, None, refl, sym, ap, subst, ◌∙◌, arith, IsTrue}
use Rattle.std.proofs.Common.{◌↔◌, true≢false, ⊎_elim}
use Rattle.std.specs.Prelude.{cond, option_and_then, slice_get}
use Rattle.std.proofs.lemmas.Bool.{cases_lt}
use Rattle.std.proofs.lemmas.Option.{slice_get_past}
use Rattle.vr_types.specs.Content.Item.{Standing}
use Rattle.vr_types.specs.Image.{Block}
use Rattle.vr_ci_match.specs.declared.form.Form.TheVariants as forms
use Rattle.vr_ci_match.specs.declared.form.Shape.TheVariants as shapes
use Rattle.vr_ci_match.specs.Laid.{slots_in}
use Rattle.vr_ci.specs.Interval as ci
use Rattle.vr_ci.proofs.CallerLemmas.{interval_says, one_value}
use Rattle.vr_space.specs.Keyed.{items_of}
use Rattle.vr_space.specs.Rosters.{Numbered}
use Rattle.vr_space.specs.Slots.{IsSlots, slot_item, slots_of, standing_in}
use Rattle.vr_slots.specs.Slot.{AreSlotItems, IsFirstLive, IsOfRecords}

-- ---- what is read

-- what an interval of slots is
abbrev slots_value : Block → ci.Interval
slots_value block = record {
  shape = shapes.Records;
  items = items_of block;
  busy = false;
}

-- a block that has no value is none of slots
pub no-slots : (part : Numbered) (most : ℕ) (block : Block) → most ≡ part.most
    → ((value : ci.Interval) → ci.IsInterval (forms.Slots most) block value → ⊥)
    → IsSlots part block → ⊥
no-slots part most block same none slots =
    none (slots_value block)
    (subst (λ (n : ℕ). ci.IsInterval (forms.Slots n) block (slots_value block)) (sym same)
    slots.spelled)

module _ (part : Numbered) (most : ℕ) (block : Block) (value : ci.Interval)
    (same : most ≡ part.most) (is : ci.IsInterval (forms.Slots most) block value) where
  -- the items that are read are those of the block
  pub items-read : IsOfRecords value → value.items ≡ items_of block
  items-read records = (interval_says (forms.Slots most) block value is records.shape).0

  spelled : ci.IsInterval (forms.Slots part.most) block value
  spelled = subst (λ (n : ℕ). ci.IsInterval (forms.Slots n) block value) same is

  -- the block is one of slots
  pub slots-read : IsOfRecords value → length block ≡ part.geometry.size → IsSlots part block
  slots-read records long =
      let items = items-read records in
      let whole : value ≡ slots_value block =
      λ i. record { shape = records.shape i; items = items i; busy = records.idle i } in
      record {
        spelled = subst (ci.IsInterval (forms.Slots part.most) block) whole spelled;
        size = long;
      }

  -- and where it is, so is what is read
  pub read-slots : IsSlots part block → IsOfRecords value
  read-slots slots =
      let one = one_value (forms.Slots part.most) block value (slots_value block) spelled
      slots.spelled in
      record {
        shape = ap (λ (v : ci.Interval). v.shape) one;
        idle = ap (λ (v : ci.Interval). v.busy) one;
      }

-- as many slots as an interval has
pub slots-items : (part : Numbered) (block : Block) → IsSlots part block
    → AreSlotItems part (items_of block)
slots-items part block slots = record {
  each = slots.spelled.fits.items;
  whole = slots.spelled.fits.block.0;
  count = slots.spelled.fits.block.1
      ∙ ap (λ (size : ℕ). slots_in size part.most) slots.size;
}

-- ---- one slot

-- what a slot that is read has
pub slot-is : (slot : ℕ) (block : Block) (items : List ci.Item) (item : ci.Item)
    → items ≡ items_of block → slice_get items slot ≡ Some item
    → slot_item slot (items_of block) ≡ standing_in item
slot-is slot block items item same is =
    ap (option_and_then standing_in)
    (ap (λ (xs : List ci.Item). slice_get xs slot) (sym same) ∙ is)

pub slot-live : (slot : ℕ) (block : Block) (items : List ci.Item) (bytes : List ℕ) (live : Bool)
    → items ≡ items_of block → slice_get items slot ≡ Some (record { bytes = bytes; live = live })
    → live ≡ true → slot_item slot (items_of block) ≡ Some (Standing bytes)
slot-live slot block items bytes live same is alive =
    slot-is slot block items (record { bytes = bytes; live = live }) same is
    ∙ ap (λ (b : Bool). cond b (Some (Standing bytes)) None) alive

pub slot-empty : (slot : ℕ) (block : Block) (items : List ci.Item) (bytes : List ℕ) (live : Bool)
    → items ≡ items_of block → slice_get items slot ≡ Some (record { bytes = bytes; live = live })
    → live ≡ false → slot_item slot (items_of block) ≡ None
slot-empty slot block items bytes live same is empty =
    slot-is slot block items (record { bytes = bytes; live = live }) same is
    ∙ ap (λ (b : Bool). cond b (Some (Standing bytes)) None) empty

-- and a slot that isn't there
pub slot-none : (slot : ℕ) (block : Block) (items : List ci.Item)
    → items ≡ items_of block → slice_get items slot ≡ None → slot_item slot (items_of block) ≡ None
slot-none slot block items same is =
    ap (option_and_then standing_in)
    (ap (λ (xs : List ci.Item). slice_get xs slot) (sym same) ∙ is)

-- ---- slot after slot

-- the first of those that are left is the slot of that number
pub drop-first : (items after : List ci.Item) (slot : ℕ) (item : ci.Item)
    → drop slot items ≡ item ∷ after → slice_get items slot ≡ Some item
drop-first [] after zero item cut = absurd cc
drop-first [] after (suc slot) item cut = absurd cc
drop-first (first ∷ items) after zero item cut =
    let same : first ≡ item = cc in ap (λ (x : ci.Item). Some x) same
drop-first (first ∷ items) after (suc slot) item cut = drop-first items after slot item cut

pub drop-next : (items after : List ci.Item) (slot : ℕ) (item : ci.Item)
    → drop slot items ≡ item ∷ after → drop (suc slot) items ≡ after
drop-next [] after zero item cut = absurd cc
drop-next [] after (suc slot) item cut = absurd cc
drop-next (first ∷ items) after zero item cut = cc
drop-next (first ∷ items) after (suc slot) item cut = drop-next items after slot item cut

-- where none is left, there are no more
pub drop-none : (items : List ci.Item) (slot : ℕ) → drop slot items ≡ [] → length items ≤ slot
drop-none [] slot cut = omega arith
drop-none (first ∷ items) zero cut = absurd cc
drop-none (first ∷ items) (suc slot) cut = omega (arith, drop-none items slot cut)

-- No slot with a record was passed, from one on.
pub record IsPassing (block : Block) (from : ℕ) (left : List ci.Item) (slot : ℕ) : Type 0
  where
    pub left_is : left ≡ drop slot (items_of block)
    pub none : (other : ℕ) → from ≤ other → other < slot → slot_item other (items_of block) ≡ None

module _ (part : Numbered) (block : Block) (from : ℕ) (left after : List ci.Item)
    (slot : ℕ) (bytes : List ℕ) (live : Bool)
    (passing : IsPassing block from left slot)
    (cut : left ≡ (let item : ci.Item = record { bytes = bytes; live = live } in item) ∷ after)
  where
    here : slice_get (items_of block) slot ≡ Some (record { bytes = bytes; live = live })
    here = drop-first (items_of block) after slot (record { bytes = bytes; live = live })
        (sym passing.left_is ∙ cut)

    -- the slot has a record
    pub passing-finds : (test : Bool) → (IsTrue test ↔ ((from ≤ slot) × (live ≡ true)))
        → test ≡ true → slot < slots_of part → IsFirstLive part block from slot
    passing-finds test says is below =
        let found = says.0 is in
        record {
          from_is = found.0;
          below_is = below;
          some = λ none. differ (sym (slot-live slot block (items_of block) bytes live refl here
              found.1) ∙ none);
          none = passing.none;
        }
      where
        differ : Some (Standing bytes) ≡ None → ⊥
        differ it = absurd cc

    -- or it is passed
    pub passing-more : (test : Bool) → (IsTrue test ↔ ((from ≤ slot) × (live ≡ true)))
        → test ≡ false → IsPassing block from after (slot + 1)
    passing-more test says is = record {
      left_is =
          let next : suc slot ≡ slot + 1 = omega arith in
          sym (drop-next (items_of block) after slot (record { bytes = bytes; live = live })
          (sym passing.left_is ∙ cut)) ∙ ap (λ (n : ℕ). drop n (items_of block)) next;
      none = λ other least below. ⊎_elim
          (λ less. passing.none other least less)
          (λ most.
          let at : other ≡ slot = omega (arith, below, most) in
          subst (λ (n : ℕ). slot_item n (items_of block) ≡ None) (sym at)
          (by_live live refl (omega (arith, least, at))))
          (cases_lt other slot);
    }
      where
        by_live : (alive : Bool) → live ≡ alive → from ≤ slot
            → slot_item slot (items_of block) ≡ None
        by_live true it least = absurd (true≢false (sym (says.1 (least, it)) ∙ is))
        by_live false it least =
            slot-empty slot block (items_of block) bytes live refl here it

-- all were passed
pub passing-ends : (block : Block) (from : ℕ) (left : List ci.Item) (slot : ℕ)
    → length (items_of block) ≤ slot → IsPassing block from left slot → (other : ℕ)
    → from ≤ other → slot_item other (items_of block) ≡ None
passing-ends block from left slot all passing other least = ⊎_elim
    (λ less. passing.none other least less)
    (λ most. slot-none other block (items_of block) refl
    (slice_get_past (items_of block) other (omega (arith, all, most))))
    (cases_lt other slot)
