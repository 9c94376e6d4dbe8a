-- Blocks that are intervals of records, as they are read.
use Rattle.std.proofs.Common.{◌≡◌, ◌<◌, ◌≤◌, ◌+◌, ◌-◌, ℕ, Bool, true, false, List, []}
use Rattle.std.proofs.Common.{◌∷◌, length, Option, Some, None, refl, sym, ap, subst, ◌∙◌, arith}
use Rattle.std.proofs.Common.{IsTrue, ◌↔◌, true≢false, ⊎_elim}
use Rattle.std.specs.Prelude.{option_and_then}
use Rattle.std.specs.List.{AllByRecursion}
use Rattle.std.proofs.lemmas.Bool.{cases_lt}
use Rattle.vr_types.specs.Content.{Item, record_of}
use Rattle.vr_types.specs.Content.Item.{Standing}
use Rattle.vr_types.specs.Image.{Block}
use Rattle.vr_ci_match.specs.declared.form.Form.TheVariants as forms
use Rattle.vr_ci_match.specs.declared.form.Shape.TheVariants as shapes
use Rattle.vr_ci.specs.Interval as ci
use Rattle.vr_ci.proofs.CallerLemmas.{interval_room, interval_says, one_value}
use Rattle.vr_space.specs.Entries.{IsEntries, IsEntry, bytes_in, entry_item, entry_of}
use Rattle.vr_space.specs.Keyed.{items_of}
use Rattle.vr_space.specs.Rosters.{Numbered}
use Rattle.vr_entries.specs.Entry.{IsFirstRecord, record_from}
use Rattle.vr_entries.specs.Read.{IsOfEntries}
use Rattle.vr_entries.specs.Written.{AreEntryItems}
use Rattle.vr_entries.proofs.Walking.{dead-record, entry-past, entry-within, live-record}
use Rattle.vr_entries.proofs.Walking.{room-taken}

-- ---- what is read

-- what an interval of records is
abbrev entries_value : Block → ci.Interval
entries_value block = record {
  shape = shapes.Records;
  items = items_of block;
  busy = false;
}

module _ (part : Numbered) (block : Block) (value : ci.Interval)
    (is : ci.IsInterval forms.Plain block value) where
  -- the items that are read are those of the block
  pub items-read : IsOfEntries part value → value.items ≡ items_of block
  items-read records = (interval_says forms.Plain block value is records.0).0

  -- the block is one of records
  pub entries-read : IsOfEntries part value → length block ≡ part.geometry.size
      → IsEntries part block
  entries-read records long =
      let items = items-read records in
      let whole : value ≡ entries_value block =
      λ i. record { shape = records.0 i; items = items i; busy = records.1 i } in
      record {
        spelled = subst (ci.IsInterval forms.Plain block) whole is;
        size = long;
        each = subst (AllByRecursion (IsEntry part)) items records.2;
      }

  -- and where it is, so is what is read
  pub read-entries : IsEntries part block → IsOfEntries part value
  read-entries entries =
      let one = one_value forms.Plain block value (entries_value block) is entries.spelled in (
        ap (λ (v : ci.Interval). v.shape) one,
        ap (λ (v : ci.Interval). v.busy) one,
        subst (AllByRecursion (IsEntry part)) (sym (ap (λ (v : ci.Interval). v.items) one))
            entries.each,
      )

-- what its items are
pub entries-items : (part : Numbered) (block : Block) (items : List ci.Item)
    → items ≡ items_of block → IsEntries part block → AreEntryItems part items
entries-items part block items same entries = subst (AreEntryItems part) (sym same) (record {
  each = entries.spelled.fits.items;
  most = entries.each;
  room = subst (λ (size : ℕ). ci.room (items_of block) ≤ size - 4) entries.size
      (interval_room forms.Plain block (entries_value block) entries.spelled refl);
})

-- ---- one displacement after another

-- So far have the items been passed.
pub record IsWalked (all left : List ci.Item) (at : ℕ) : Type 0 where
  pub bytes : at + bytes_in left ≡ bytes_in all
  pub ahead : (k : ℕ) → entry_item (at + k) all ≡ entry_item k left
  pub items : AllByRecursion ci.IsItem left

-- So many bytes lie in an interval of the part, which isn't large.
pub record IsInside (part : Numbered) (at n : ℕ) : Type 0 where
  pub below : at < part.geometry.size
  pub within : at + n ≤ part.geometry.size
  pub small : part.geometry.size ≤ 32768

module _ (all left after : List ci.Item) (at : ℕ) (item : ci.Item) (cut : left ≡ item ∷ after)
    (walked : IsWalked all left at) where
  pub walked-item : ci.IsItem item
  walked-item = (subst (AllByRecursion ci.IsItem) cut walked.items).0

  pub walked-bytes : at + length item.bytes + bytes_in after ≡ bytes_in all
  walked-bytes = omega (arith, walked.bytes, ap bytes_in cut)

  -- the item lies in an interval of the part
  pub walked-inside : (part : Numbered) (block : Block) → all ≡ items_of block
      → IsEntries part block → IsInside part at (length item.bytes)
  walked-inside part block same entries =
      let are = entries-items part block all same entries in
      record {
        below = omega (arith, walked-item.some, walked-bytes, are.room, room-taken all);
        within = omega (arith, walked-bytes, are.room, room-taken all);
        small = omega (arith, entries.size, entries.spelled.size.most);
      }

  -- the item is what begins there
  pub walked-here : entry_item at all ≡ Some (entry_of item)
  walked-here =
      let same : at ≡ at + 0 = omega arith in
      ap (λ (n : ℕ). entry_item n all) same ∙ walked.ahead 0 ∙ ap (entry_item 0) cut

  pub walked-within : (other : ℕ) → at < other → other < at + length item.bytes
      → entry_item other all ≡ None
  walked-within other past less =
      let same : other ≡ at + (other - at) = omega arith in
      ap (λ (n : ℕ). entry_item n all) same ∙ walked.ahead (other - at)
      ∙ ap (entry_item (other - at)) cut
      ∙ entry-within item after (other - at) (omega arith) (omega arith)

  pub walked-more : IsWalked all after (at + length item.bytes)
  walked-more = record {
    bytes = walked-bytes;
    ahead = λ k.
        let same : at + length item.bytes + k ≡ at + (length item.bytes + k) = omega arith in
        ap (λ (n : ℕ). entry_item n all) same ∙ walked.ahead (length item.bytes + k)
        ∙ ap (entry_item (length item.bytes + k)) cut
        ∙ entry-past item after (length item.bytes + k) k refl
        (omega (arith, walked-item.some));
    items = (subst (AllByRecursion ci.IsItem) cut walked.items).1;
  }

-- ---- the first record

-- No record was passed, from one displacement on.
pub record IsPassing (all : List ci.Item) (from : ℕ) (left : List ci.Item) (at : ℕ) : Type 0
  where
    pub walked : IsWalked all left at
    pub none : (other : ℕ) → from ≤ other → other < at
        → option_and_then record_of (entry_item other all) ≡ None

no-record : (found : Option Item) → found ≡ None → option_and_then record_of found ≡ None
no-record found is = ap (option_and_then record_of) is

module _ (all left after : List ci.Item) (from at : ℕ) (item : ci.Item)
    (cut : left ≡ item ∷ after) (passing : IsPassing all from left at) where
  -- there is one,
  pub passing-finds : (part : Numbered) (block : Block) (test : Bool)
      → (IsTrue test ↔ ((from ≤ at) × (item.live ≡ true))) → test ≡ true → all ≡ items_of block
      → at < part.geometry.size → IsFirstRecord part block from at
  passing-finds part block test says is same below =
      let found = says.0 is in
      let here : entry_item at all ≡ Some (Standing item.bytes) =
      walked-here all left after at item cut passing.walked
      ∙ ap (λ (x : Item). Some x) (live-record item found.1) in
      let says-some : record_from at block ≡ Some item.bytes =
      ap (option_and_then record_of)
      (ap (entry_item at) (sym same) ∙ here) in
      record {
        from_is = found.0;
        below_is = below;
        some = λ none. differ (sym says-some ∙ none);
        none = λ other least less.
            ap (λ (items : List ci.Item). option_and_then record_of (entry_item other items))
            (sym same)
            ∙ passing.none other least less;
      }
    where
      differ : Some item.bytes ≡ None → ⊥
      differ it = absurd cc

  -- or it is passed
  pub passing-more : (test : Bool)
      → (IsTrue test ↔ ((from ≤ at) × (item.live ≡ true))) → test ≡ false
      → IsPassing all from after (at + length item.bytes)
  passing-more test says is = record {
    walked = walked-more all left after at item cut passing.walked;
    none = λ other least below. ⊎_elim
        (λ less. passing.none other least less)
        (λ most. ⊎_elim
        (λ past. no-record (entry_item other all)
        (walked-within all left after at item cut passing.walked other past below))
        (λ none. here other least (omega (arith, most, none)))
        (cases_lt at other))
        (cases_lt other at);
  }
    where
      by_live : (alive : Bool) → item.live ≡ alive → from ≤ at
          → option_and_then record_of (entry_item at all) ≡ None
      by_live true it least = absurd (true≢false (sym (says.1 (least, it)) ∙ is))
      by_live false it least =
          ap (option_and_then record_of)
          (walked-here all left after at item cut passing.walked
          ∙ ap (λ (x : Item). Some x) (dead-record item it))

      here : (other : ℕ) → from ≤ other → other ≡ at
          → option_and_then record_of (entry_item other all) ≡ None
      here other least same =
          subst (λ (n : ℕ). option_and_then record_of (entry_item n all) ≡ None) (sym same)
          (by_live item.live refl (omega (arith, least, same)))

-- all were passed
pub passing-ends : (all : List ci.Item) (from : ℕ) (left : List ci.Item) (at : ℕ) → left ≡ []
    → IsPassing all from left at → (other : ℕ) → from ≤ other
    → option_and_then record_of (entry_item other all) ≡ None
passing-ends all from left at gone passing other least = ⊎_elim
    (λ less. passing.none other least less)
    (λ most.
    let same : other ≡ at + (other - at) = omega (arith, most) in
    no-record (entry_item other all)
    (ap (λ (n : ℕ). entry_item n all) same ∙ passing.walked.ahead (other - at)
    ∙ ap (entry_item (other - at)) gone))
    (cases_lt other at)
