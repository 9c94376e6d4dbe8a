-- Writing the items of an interval one after another.
use Rattle.std.proofs.Common.{◌≡◌, ◌≤◌, ◌+◌, ◌-◌, ◌++◌, ℕ, Bool, true, false, List, [], ◌∷◌}
use Rattle.std.proofs.Common.{length, Option, Some, None, refl, sym, ap, subst, ◌∙◌, arith}
use Rattle.std.proofs.Common.{append_assoc}
use Rattle.std.specs.Prelude.{IfSome, nat_eq}
use Rattle.std.specs.List.{AllByRecursion}
use Rattle.std.proofs.lemmas.List.{map-append}
use Rattle.vr_types.specs.Content.{Item}
use Rattle.vr_types.specs.Image.{Block}
use Rattle.vr_ci_match.specs.declared.form.Form.{Form}
use Rattle.vr_ci_match.specs.declared.form.Form.TheVariants as forms
use Rattle.vr_ci_match.specs.declared.form.Shape.TheVariants as shapes
use Rattle.vr_ci.specs.Interval as ci
use Rattle.vr_ci.specs.Writer.{Holds, size_of}
use Rattle.vr_ci.specs.declared.writer.CiWriter.{CiWriter}
use Rattle.vr_ci.proofs.CallerLemmas.{interval_says, room-append}
use Rattle.vr_space.specs.Entries.{IsEntries, IsEntry, bytes_in, entry_item}
use Rattle.vr_space.specs.Keyed.{items_of}
use Rattle.vr_space.specs.Rosters.{Numbered}
use Rattle.vr_entries.specs.Entry.{IsEntrySet, LengthsAfter}
use Rattle.vr_entries.specs.Written.{AreEntriesSet, AreEntryItems, HasRoom, MayStand, item_left}
use Rattle.vr_entries.specs.Written.{items_added}
use Rattle.vr_entries.proofs.Setting.{Begins, begins-more, items_set, items-set}
use Rattle.vr_entries.proofs.Setting.{left-length, same-most, set-room}

-- So many items are written, with what is given in place of one of them.
pub record IsMaking (at : ℕ) (bytes : Option (List ℕ)) (all left : List ci.Item) (from : ℕ)
    (w : CiWriter) : Type 0 where
  pub made : List ci.Item
  pub holds : Holds w made
  pub whole : made ++ items_set from at bytes left ≡ items_set 0 at bytes all
  pub bytes_left : from + bytes_in left ≡ bytes_in all
  pub items : AllByRecursion ci.IsItem left
  pub begins : Begins from at bytes left

module _ (part : Numbered) (at : ℕ) (bytes : Option (List ℕ)) (all : List ci.Item)
    (are : AreEntryItems part all) (may : MayStand part at bytes all) where
  module _ (left : List ci.Item) (from : ℕ) (w : CiWriter) (size : size_of w ≡ part.geometry.size)
      (making : IsMaking at bytes all left from w) where
    whole-room : ci.room making.made + ci.room (items_set from at bytes left) ≤ size_of w - 4
    whole-room = omega (
      arith,
      size,
      set-room part at bytes all are may,
      ap ci.room making.whole,
      room-append making.made (items_set from at bytes left),
    )

    module _ (after : List ci.Item) (item : ci.Item) (cut : left ≡ item ∷ after) where
      pub making-item : ci.IsItem item
      making-item = (subst (AllByRecursion ci.IsItem) cut making.items).0

      pub making-bytes : from + length item.bytes + bytes_in after ≡ bytes_in all
      making-bytes = omega (arith, making.bytes_left, ap bytes_in cut)

      long : length (item_left (nat_eq from at) bytes item).bytes ≡ length item.bytes
      long = left-length from at bytes item after (subst (Begins from at bytes) cut making.begins)

      -- the next one has room
      pub making-room : HasRoom (length (item_left (nat_eq from at) bytes item).bytes) w
      making-room = record {
        some = omega (arith, making-item.some, long);
        items = making.made;
        holds = making.holds;
        room = omega (
          arith,
          whole-room,
          ap (λ (items : List ci.Item). ci.room (items_set from at bytes items)) cut,
        );
      }

      -- and it is written
      pub making-more : (new : CiWriter)
          → Holds new (making.made ++ item_left (nat_eq from at) bytes item ∷ [])
          → IsMaking at bytes all after (from + length item.bytes) new
      making-more new holds = record {
        made = making.made ++ item_left (nat_eq from at) bytes item ∷ [];
        holds = holds;
        whole = append_assoc making.made (item_left (nat_eq from at) bytes item ∷ [])
            (items_set (from + length item.bytes) at bytes after)
            ∙ ap (λ (items : List ci.Item). making.made ++ items_set from at bytes items) (sym cut)
            ∙ making.whole;
        bytes_left = making-bytes;
        items = (subst (AllByRecursion ci.IsItem) cut making.items).1;
        begins = begins-more from at bytes item after making-item
            (subst (Begins from at bytes) cut making.begins);
      }

    module _ (gone : left ≡ []) where
      -- what is added after the last one has room
      pub making-last : AllByRecursion (λ (one : ci.Item). HasRoom (length one.bytes) w)
          (items_added (nat_eq from at) bytes)
      making-last = by_test (nat_eq from at) bytes may (omega (
        arith,
        whole-room,
        ap (λ (items : List ci.Item). ci.room (items_set from at bytes items)) gone,
      ))
        where
          by_test : (test : Bool) (given : Option (List ℕ)) → MayStand part at given all
              → ci.room making.made + ci.room (items_added test given) ≤ size_of w - 4
              → AllByRecursion (λ (one : ci.Item). HasRoom (length one.bytes) w)
              (items_added test given)
          by_test false given can room = tt
          by_test true None can room = tt
          by_test true (Some given) can room = (
            record {
              some = can.0;
              items = making.made;
              holds = making.holds;
              room = omega (arith, room);
            },
            tt,
          )

      -- and then all is written
      pub making-ends : (new : CiWriter) → Holds new (making.made ++ items_added (nat_eq from at) bytes)
          → (items : List ci.Item) × Holds new items × AreEntriesSet at bytes all items
      making-ends new holds =
          let whole = ap (λ (items : List ci.Item). making.made ++ items_set from at bytes items)
          (sym gone) ∙ making.whole in (
            items_set 0 at bytes all,
            subst (Holds new) whole holds,
            items-set part at bytes all are may,
          )

-- ---- the whole interval

each-more : (P : ci.Item → Type 0) (items : List ci.Item) (one : ci.Item) → AllByRecursion P items
    → P one → AllByRecursion P (items ++ one ∷ [])
each-more P [] one each has = (has, tt)
each-more P (item ∷ items) one each has = (each.0, each-more P items one each.1 has)

-- none of the items is longer than the longest
most-after : (part : Numbered) (at : ℕ) (found : Option Item) (bytes : Option (List ℕ))
    (old new : List ci.Item) → LengthsAfter found at bytes old new
    → IfSome bytes (λ given. length given ≤ part.most) → AllByRecursion (IsEntry part) old
    → AllByRecursion (IsEntry part) new
most-after part at (Some item) bytes old new after short most = same-most part new old after most
most-after part at None None old new after short most = same-most part new old after most
most-after part at None (Some bytes) old new after short most =
    let one : ci.Item = record { bytes = bytes; live = true } in
    same-most part new (old ++ one ∷ [])
    (after.1 ∙ sym (map-append (λ (item : ci.Item). length item.bytes) old (one ∷ [])))
    (each-more (IsEntry part) old one most short)

short-given : (part : Numbered) (at : ℕ) (bytes : Option (List ℕ)) (items : List ci.Item)
    → MayStand part at bytes items → IfSome bytes (λ given. length given ≤ part.most)
short-given part at None items may = tt
short-given part at (Some bytes) items may = may.1

-- what is written is an interval of these items
pub entries-written : (part : Numbered) (form : Form) (out : Block) (items : List ci.Item)
    → form ≡ forms.Plain → length out ≡ part.geometry.size
    → ci.IsInterval form out (record {
      shape = shapes.Records;
      items = items;
      busy = false;
    })
    → AllByRecursion (IsEntry part) items → IsEntries part out × (items_of out ≡ items)
entries-written part form out items same long is most =
    let said = (interval_says form out (record {
      shape = shapes.Records;
      items = items;
      busy = false;
    }) is refl).0 in (
      record {
        spelled = subst (λ (xs : List ci.Item). ci.IsInterval forms.Plain out (record {
          shape = shapes.Records;
          items = xs;
          busy = false;
        })) said (subst (λ (f : Form). ci.IsInterval f out (record {
          shape = shapes.Records;
          items = items;
          busy = false;
        })) same is);
        size = long;
        each = subst (AllByRecursion (IsEntry part)) said most;
      },
      sym said,
    )

-- with one of them set, withdrawn or added
pub set-written : (part : Numbered) (form : Form) (old out : Block) (at : ℕ)
    (bytes : Option (List ℕ)) (items new : List ci.Item) → form ≡ forms.Plain
    → length out ≡ part.geometry.size
    → ci.IsInterval form out (record {
      shape = shapes.Records;
      items = new;
      busy = false;
    })
    → items ≡ items_of old → IsEntries part old → MayStand part at bytes items
    → AreEntriesSet at bytes items new → IsEntrySet part at bytes old out
set-written part form old out at bytes items new same long is read entries may set =
    let found = subst (λ (xs : List ci.Item). AreEntriesSet at bytes xs new) read set in
    let both = entries-written part form out new same long is
    (most-after part at (entry_item at (items_of old)) bytes (items_of old) new found.lengths
    (short-given part at bytes items may) entries.each) in
    let all = subst (AreEntriesSet at bytes (items_of old)) (sym both.1) found in
    record {
      entries = both.0;
      here = all.here;
      others = all.others;
      lengths = all.lengths;
    }
