-- Writing slots one after another.
use Rattle.std.proofs.Common.{◌≡◌, ◌<◌, ◌≤◌, ◌+◌, ◌-◌, ◌*◌, ◌++◌, ℕ, zero, suc, Bool, true, false}
use Rattle.std.proofs.Common.{List, [], ◌∷◌, length, drop, take, Option, Some, None, refl, sym, ap}
use Rattle.std.proofs.Common.{subst, ◌∙◌, arith, replicate, true≢false, eqb-true, eq-eqb}
use Rattle.std.specs.Prelude.{IfSome, get_or, nat_eq, slice_get, slice_set}
use Rattle.std.specs.List.{AllByRecursion}
use Rattle.std.proofs.Math.Nat.{div-mul-le_self, mul-le-mul_right}
use Rattle.std.proofs.lemmas.List.{get_or-set_other, get_or-set_same, length-replicate, length-set}
use Rattle.std.proofs.lemmas.List.{take_all, take_more}
use Rattle.std.proofs.lemmas.Option.{get_or_from_slice_get, slice_get_within}
use Rattle.vr_types.specs.Image.{Block}
use Rattle.vr_ci_match.specs.declared.form.Form.{Form}
use Rattle.vr_ci_match.specs.declared.form.Form.TheVariants as forms
use Rattle.vr_ci_match.specs.declared.form.Shape.TheVariants as shapes
use Rattle.vr_ci.specs.Interval as ci
use Rattle.vr_ci.specs.Writer.{Holds, IsItemLength, size_of}
use Rattle.vr_ci.specs.declared.writer.CiWriter.{CiWriter}
use Rattle.vr_ci.proofs.CallerLemmas.{interval_says, room-append}
use Rattle.vr_space.specs.Keyed.{items_of}
use Rattle.vr_space.specs.Rosters.{Numbered}
use Rattle.vr_space.specs.Slots.{IsSlots, slots_of}
use Rattle.vr_slots.specs.Slot.{AreSlotItems, HasSlotRoom, IsSlotSet, empty_slot, slot_given}
use Rattle.vr_slots.specs.Slot.{slot_made}
use Rattle.vr_slots.proofs.ReadingSlots.{drop-first, drop-next, slots-items}
use Rattle.vr_slots.proofs.SlotSet.{slot-here, slot-other}

-- ---- one slot

-- it has the length of the form's slots
pub item-length : (form : Form) (most n : ℕ) → form ≡ forms.Slots most → 0 < most → n ≡ most
    → IsItemLength form n
item-length form most n same some is =
    subst (λ (f : Form). IsItemLength f n) (sym same) (omega (arith, some, is), is)

-- ---- the room of several

-- as many as an interval has need no more than its size
pub slots-room : (part : Numbered) (at : ℕ) → at < slots_of part
    → at * (part.most + 3) + (part.most + 3) ≤ part.geometry.size - 4
slots-room part at below = omega (
  arith,
  mul-le-mul_right {m = at + 1} {n = slots_of part} (part.most + 3) (omega (arith, below)),
  div-mul-le_self (part.geometry.size - 4) (part.most + 3),
)

-- ---- slots with one of them made

given-length : (part : Numbered) (bytes : Option (List ℕ))
    → IfSome bytes (λ slot. length slot ≡ part.most)
    → length (slot_given part bytes).bytes ≡ part.most
given-length part None is = length-replicate part.most 0
given-length part (Some bytes) is = is

-- what is true of each is true of the first of those that are left
drop-each : (P : ci.Item → Type 0) (items after : List ci.Item) (at : ℕ) (item : ci.Item)
    → AllByRecursion P items → drop at items ≡ item ∷ after → P item
drop-each P [] after zero item all cut = absurd cc
drop-each P [] after (suc at) item all cut = absurd cc
drop-each P (first ∷ items) after zero item all cut =
    let same : first ≡ item = cc in subst P same all.0
drop-each P (first ∷ items) after (suc at) item all cut =
    drop-each P items after at item all.1 cut

-- So many slots are written, one of them made.
pub record IsMaking (part : Numbered) (slot : ℕ) (bytes : Option (List ℕ))
    (all left : List ci.Item) (at : ℕ) (w : CiWriter) : Type 0 where
  pub left_is : left ≡ drop at all
  pub holds : Holds w (take at (slice_set all slot (slot_given part bytes)))
  pub room : ci.room (take at (slice_set all slot (slot_given part bytes)))
      ≡ at * (part.most + 3)

module _ (part : Numbered) (slot : ℕ) (bytes : Option (List ℕ)) (all : List ci.Item)
    (are : AreSlotItems part all) where
  abbrev set : List ci.Item
  set = slice_set all slot (slot_given part bytes)

  pub making-starts : (left : List ci.Item) (w : CiWriter) → left ≡ all → Holds w []
      → IsMaking part slot bytes all left 0 w
  making-starts left w same holds = record {
    left_is = same;
    holds = holds;
    room = omega arith;
  }

  module _ (left after : List ci.Item) (at : ℕ) (w : CiWriter) (item : ci.Item)
      (cut : left ≡ item ∷ after) (making : IsMaking part slot bytes all left at w) where
    here : drop at all ≡ item ∷ after
    here = sym making.left_is ∙ cut

    pub next-item : ci.IsItem item
    next-item = drop-each ci.IsItem all after at item are.each here

    pub next-whole : length item.bytes ≡ part.most
    next-whole = drop-each (λ (one : ci.Item). length one.bytes ≡ part.most) all after at item
        are.whole here

    got : slice_get all at ≡ Some item
    got = drop-first all after at item here

    pub next-below : at < length all
    next-below = slice_get_within all at item got

    pub next-room : size_of w ≡ part.geometry.size → HasSlotRoom part w
    next-room size = record {
      some = omega (arith, next-item.some, next-whole);
      items = take at set;
      holds = making.holds;
      room = omega (
        arith,
        making.room,
        size,
        slots-room part at (omega (arith, next-below, are.count)),
      );
    }

    made-is : get_or set at item ≡ slot_made part (nat_eq at slot) bytes item
    made-is = by_test (nat_eq at slot) refl
      where
        by_test : (test : Bool) → nat_eq at slot ≡ test
            → get_or set at item ≡ slot_made part test bytes item
        by_test true is =
            let same : at ≡ slot = eqb-true at slot is in
            ap (λ (n : ℕ). get_or set n item) same
            ∙ get_or-set_same all slot (slot_given part bytes) item
            (omega (arith, next-below, same))
        by_test false is =
            get_or-set_other all slot at (slot_given part bytes) item
            (λ same. true≢false (sym (eq-eqb at slot same) ∙ is))
            ∙ get_or_from_slice_get all at item item got

    made-length : IfSome bytes (λ slot. length slot ≡ part.most)
        → length (slot_made part (nat_eq at slot) bytes item).bytes ≡ part.most
    made-length given = by_test (nat_eq at slot)
      where
        by_test : (test : Bool) → length (slot_made part test bytes item).bytes ≡ part.most
        by_test true = given-length part bytes given
        by_test false = next-whole

    -- and the next one
    pub making-more : (new : CiWriter) → IfSome bytes (λ slot. length slot ≡ part.most)
        → Holds new (take at set ++ slot_made part (nat_eq at slot) bytes item ∷ [])
        → IsMaking part slot bytes all after (at + 1) new
    making-more new given holds =
        let one : ci.Item = slot_made part (nat_eq at slot) bytes item in
        let more : take (at + 1) set ≡ take at set ++ one ∷ [] =
        take_more set at item (omega (
          arith,
          next-below,
          length-set all slot (slot_given part bytes),
        ))
        ∙ ap (λ (x : ci.Item). take at set ++ x ∷ []) made-is in
        let next : suc at ≡ at + 1 = omega arith in
        record {
          left_is = sym (drop-next all after at item here) ∙ ap (λ (n : ℕ). drop n all) next;
          holds = subst (Holds new) (sym more) holds;
          room = omega (
            arith,
            ap ci.room more,
            room-append (take at set) (one ∷ []),
            making.room,
            made-length given,
          );
        }

  -- all are written
  pub making-ends : (left : List ci.Item) (at : ℕ) (w : CiWriter) → slots_of part ≤ at
      → IsMaking part slot bytes all left at w → Holds w set
  making-ends left at w whole making =
      subst (Holds w)
      (take_all at set (omega (
        arith,
        whole,
        are.count,
        length-set all slot (slot_given part bytes),
      ))) making.holds

-- ---- empty slots

-- So many empty slots are written.
pub record IsEmptying (part : Numbered) (at : ℕ) (w : CiWriter) : Type 0 where
  pub holds : Holds w (replicate at (empty_slot part))
  pub room : ci.room (replicate at (empty_slot part)) ≡ at * (part.most + 3)

pub emptying-starts : (part : Numbered) (w : CiWriter) → Holds w [] → IsEmptying part 0 w
emptying-starts part w holds = record { holds = holds; room = omega arith }

pub emptying-room : (part : Numbered) (at : ℕ) (w : CiWriter) → IsEmptying part at w
    → 0 < part.most → at < slots_of part → size_of w ≡ part.geometry.size → HasSlotRoom part w
emptying-room part at w emptying some below size = record {
  some = some;
  items = replicate at (empty_slot part);
  holds = emptying.holds;
  room = omega (arith, emptying.room, size, slots-room part at below);
}

-- ---- the whole interval

pub slots-written : (part : Numbered) (form : Form) (out : Block) (items : List ci.Item)
    → form ≡ forms.Slots part.most → length out ≡ part.geometry.size
    → ci.IsInterval form out (record {
      shape = shapes.Records;
      items = items;
      busy = false;
    })
    → IsSlots part out × (items_of out ≡ items)
slots-written part form out items same long is =
    let said = (interval_says form out (record {
      shape = shapes.Records;
      items = items;
      busy = false;
    }) is refl).0 in (
      record {
        spelled = subst (λ (xs : List ci.Item). ci.IsInterval (forms.Slots part.most) out (record {
          shape = shapes.Records;
          items = xs;
          busy = false;
        })) said (subst (λ (f : Form). ci.IsInterval f out (record {
          shape = shapes.Records;
          items = items;
          busy = false;
        })) same is);
        size = long;
      },
      sym said,
    )

-- with one of them set
pub set-written : (part : Numbered) (form : Form) (old out : Block) (slot : ℕ)
    (bytes : Option (List ℕ)) (items : List ci.Item) → form ≡ forms.Slots part.most
    → length out ≡ part.geometry.size
    → ci.IsInterval form out (record {
      shape = shapes.Records;
      items = slice_set items slot (slot_given part bytes);
      busy = false;
    })
    → items ≡ items_of old → IsSlots part old → IsSlotSet part slot bytes old out
set-written part form old out slot bytes items same long is read slots =
    let both = slots-written part form out (slice_set items slot (slot_given part bytes)) same long
    is in
    let whole : items_of out ≡ slice_set (items_of old) slot (slot_given part bytes) =
    both.1 ∙ ap (λ (xs : List ci.Item). slice_set xs slot (slot_given part bytes)) read in
    record {
      slots = both.0;
      items = whole;
      here = λ below. slot-here part slot bytes (items_of old) (items_of out) whole
          (omega (arith, below, (slots-items part old slots).count));
      others = slot-other part slot bytes (items_of old) (items_of out) whole;
    }
