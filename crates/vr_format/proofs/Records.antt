-- The records of entries in an interval of all places.
use Rattle.std.proofs.Common.{◌≡◌, ◌*◌, ℕ, Bool, true, false, List, [], ◌∷◌}
use Rattle.std.proofs.Common.{length, refl, sym, ap, subst, ◌∙◌, arith, All, map, None}
use Rattle.std.specs.Prelude.{cond, filter, replicate, IsTrue}
use Rattle.std.specs.List.Sorted.{IsStrictlySortedBy}
use Rattle.std.specs.Ordering.{is_le}
use Rattle.std.proofs.lemmas.List.Elements.{All-cons, All-head, All-nil, All-tail}
use Rattle.vr_types.specs.Content.{Content, Placed, place_cmp}
use Rattle.vr_types.specs.Image.{Block}
use Rattle.vr_ci_match.specs.declared.form.Form.TheVariants.{Plain}
use Rattle.vr_ci_match.specs.declared.form.Shape.TheVariants as shapes
use Rattle.vr_ci_match.specs.Fault.{is_busy}
use Rattle.vr_ci.specs.Interval as ci
use Rattle.vr_ci.proofs.CallerLemmas.{interval_says}
use Rattle.vr_space.specs.Room.{Range, is_in}
use Rattle.vr_space.specs.Keyed.{HoldsRange, IsKept, Keyed, items_of, key_of, placed, records_in}
use Rattle.vr_catalog.specs.Record.{spelling}
use Rattle.vr_catalog.specs.declared.entry.CatEntry.{CatEntry}
use Rattle.vr_format.specs.Planned.{MayStand, content_of, item_of, record_of}

-- all places of a part, up to the highest
abbrev pub whole_range : Keyed → Range
whole_range part = record { low = None; high = replicate part.key 255 }

-- ---- what holds of all entries holds of all records

kept-all : (part : Keyed) (entries : List CatEntry)
    → All (λ (entry : CatEntry). Rattle.vr_space.specs.Keyed.IsValid part (spelling entry)) entries
    → All (IsKept part) (map item_of entries)
kept-all part [] all = All-nil (IsKept part)
kept-all part (entry ∷ entries) all =
    All-cons (IsKept part) (item_of entry) (map item_of entries)
    (record {
      live = refl;
      valid = All-head
          (λ (e : CatEntry). Rattle.vr_space.specs.Keyed.IsValid part (spelling e)) entry entries all;
    })
    (kept-all part entries (All-tail
    (λ (e : CatEntry). Rattle.vr_space.specs.Keyed.IsValid part (spelling e)) entry entries all))

keys-same : (part : Keyed) (entries : List CatEntry)
    → map (λ (item : ci.Item). key_of part item.bytes) (map item_of entries)
    ≡ map (λ (entry : CatEntry). key_of part (spelling entry)) entries
keys-same part [] = refl
keys-same part (entry ∷ entries) =
    ap (λ (ks : List (List ℕ)). key_of part (spelling entry) ∷ ks) (keys-same part entries)

abbrev IsWithin : Keyed → CatEntry → Type 0
IsWithin part entry =
    IsTrue (is_le (place_cmp (key_of part (spelling entry)) (replicate part.key 255)))

within-all : (part : Keyed) (entries : List CatEntry) → All (IsWithin part) entries
    → All (λ (item : ci.Item). IsTrue (is_in (whole_range part) (key_of part item.bytes)))
    (map item_of entries)
within-all part [] all =
    All-nil (λ (item : ci.Item). IsTrue (is_in (whole_range part) (key_of part item.bytes)))
within-all part (entry ∷ entries) all =
    All-cons (λ (item : ci.Item). IsTrue (is_in (whole_range part) (key_of part item.bytes)))
    (item_of entry) (map item_of entries) (All-head (IsWithin part) entry entries all)
    (within-all part entries (All-tail (IsWithin part) entry entries all))

placed-same : (part : Keyed) (entries : List CatEntry)
    → map (placed part) (map item_of entries) ≡ content_of part entries
placed-same part [] = refl
placed-same part (entry ∷ entries) =
    ap (λ (c : Content). record_of part entry ∷ c) (placed-same part entries)

-- each record is in the range
filtered : (part : Keyed) (entries : List CatEntry) → All (IsWithin part) entries
    → filter (λ (entry : Placed). is_in (whole_range part) entry.0) (content_of part entries)
    ≡ content_of part entries
filtered part [] all = refl
filtered part (entry ∷ entries) all =
    by (is_in (whole_range part) (key_of part (spelling entry)))
    (All-head (IsWithin part) entry entries all)
    (filtered part entries (All-tail (IsWithin part) entry entries all))
  where
    rest : Content
    rest = filter (λ (e : Placed). is_in (whole_range part) e.0) (content_of part entries)

    by : (b : Bool) → b ≡ true → rest ≡ content_of part entries
        → cond b (record_of part entry ∷ rest) rest ≡ record_of part entry ∷ content_of part entries
    by b is more = ap (λ (t : Bool). cond t (record_of part entry ∷ rest) rest) is
        ∙ ap (λ (c : Content). record_of part entry ∷ c) more

-- ---- the interval

-- the value of an interval of these records
abbrev pub value_of : List CatEntry → ci.Interval
value_of entries = record {
  shape = shapes.Records;
  items = map item_of entries;
  busy = false;
}

module _ (part : Keyed) (entries : List CatEntry) (block : Block) (stand : MayStand part entries)
    (size : length block ≡ part.size)
    (interval : ci.IsInterval Plain block (value_of entries)) where
  items-are : items_of block ≡ map item_of entries
  items-are = sym (interval_says Plain block (value_of entries) interval refl).0

  busy-is : is_busy block ≡ false
  busy-is = sym (interval_says Plain block (value_of entries) interval refl).1

  value-same : (let value : ci.Interval = record {
    shape = shapes.Records;
    items = items_of block;
    busy = is_busy block;
  } in value) ≡ value_of entries
  value-same = cc (items-are, busy-is)

  -- it holds all places
  pub holds-all : HoldsRange part (whole_range part) block
  holds-all = record {
    spelled = subst (ci.IsInterval Plain block) (sym value-same) interval;
    size = size;
    kept = subst (All (IsKept part)) (sym items-are) (kept-all part entries stand.valid);
    ascends = subst (λ (items : List ci.Item). IsStrictlySortedBy place_cmp
        (map (λ (item : ci.Item). key_of part item.bytes) items)) (sym items-are)
        (subst (IsStrictlySortedBy place_cmp) (sym (keys-same part entries)) stand.ascends);
    within = λ idle. subst (All (λ (item : ci.Item).
        IsTrue (is_in (whole_range part) (key_of part item.bytes)))) (sym items-are)
        (within-all part entries stand.within);
  }

  -- and its records are those
  pub records-are : records_in part (whole_range part) block ≡ content_of part entries
  records-are =
      ap (λ (items : List ci.Item). filter
      (λ (entry : Placed). is_in (whole_range part) entry.0) (map (placed part) items)) items-are
      ∙ ap (λ (c : Content). filter (λ (entry : Placed). is_in (whole_range part) entry.0) c)
      (placed-same part entries)
      ∙ filtered part entries stand.within

-- records have the room that they need
pub room-of-items : (entries : List CatEntry)
    → ((entry : CatEntry) → length (spelling entry) ≡ 204)
    → ci.room (map item_of entries) ≡ 207 * length entries
room-of-items [] long = omega arith
room-of-items (entry ∷ entries) long =
    omega (arith, long entry, room-of-items entries long)
