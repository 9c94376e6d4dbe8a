-- A part of a store that a call works on, as the store is seen.
use Rattle.std.proofs.Common.{◌≡◌, ◌≢◌, ◌<◌, ◌==◌, ℕ, List, [], Option, Some, None, sym, ap, ◌∙◌}
use Rattle.std.proofs.Common.{arith, length, map, get_or, set}
use Rattle.std.specs.List.{position, position_or_len}
use Rattle.std.proofs.Math.ListN.{get_or-map}
use Rattle.std.proofs.Math.Seq.{map-set_same}
use Rattle.std.proofs.lemmas.List.{length-map, map-set}
use Rattle.vr_types.specs.declared.unit.PartNo.{PartNo}
use Rattle.vr_space.specs.Known.{Known}
use Rattle.vr_space.specs.Part.{Shape}
use Rattle.vr_space.specs.Split.{AreaSplit, MoveNow}
use Rattle.vr_log.specs.LogNow.{LogNow}
use Rattle.vr_undo.specs.declared.record.KeptRecord.{KeptRecord}
use Rattle.vr_store.specs.Parts.{OnlyMet, OnlySplit, but_met, but_split, with_part}
use Rattle.vr_store.specs.Store.{ChangedBy, PartNow, StoreNow, has_number, part_among, part_now}
use Rattle.vr_store.specs.declared.parts.Laid.{Laid}
use Rattle.vr_store.proofs.Among.{among-number}
use Rattle.vr_store.proofs.PlacedParts.{among-with, found-at, map-with, none-found, others-with}
use Rattle.vr_store.proofs.PlacedParts.{with-set}
use Rattle.vr_store.proofs.Positions.{position-first, position-map, position-past}

-- the part that was found, and what the call made of it
pub record IsPartAt (number : ℕ) (before after : PartNow) (old new : List PartNow) : Type 0 where
  pub found : part_among old number ≡ Some before
  pub is : new ≡ with_part number after old

module _ {P : Type 0} (shape : P → Shape) (known : P → Known)
    (items : List (Laid P)) (number : ℕ) where
  same-place : position_or_len (has_number number) (map (part_now shape known) items)
      ≡ position_or_len (λ (laid : Laid P). laid.number.0 == number) items
  same-place = position-map (has_number number) (part_now shape known) items

  module _ (listed : List (Laid P)) (result : Option ℕ) (old : List PartNow)
      (same : listed ≡ items) (seen : map (part_now shape known) items ≡ old)
      (is : result ≡ position (λ (laid : Laid P). laid.number.0 == number) listed) where
    of-items : result ≡ position (λ (laid : Laid P). laid.number.0 == number) items
    of-items = is
        ∙ ap (position (λ (laid : Laid P). laid.number.0 == number)) same

    -- the part at the place that was found
    pub laid-at : (at : ℕ) → result ≡ Some at → (before after : Laid P)
        → before ≡ get_or items at before
        → IsPartAt number (part_now shape known before) (part_now shape known after) old
        (map (part_now shape known) (set items at after))
    laid-at at some before after here =
        let first = position-first (λ (laid : Laid P). laid.number.0 == number) items at
        (sym of-items ∙ some) in
        let place : at
        ≡ position_or_len (has_number number) (map (part_now shape known) items) =
        first.0 ∙ sym same-place in
        let below : at < length (map (part_now shape known) items) =
        omega (arith, first.1, length-map items (part_now shape known)) in
        record {
          found = ap (λ (parts : List PartNow). part_among parts number) (sym seen)
              ∙ found-at number (map (part_now shape known) items) at
              (part_now shape known before) place below
              ∙ ap Some (get_or-map (part_now shape known) items at before
              ∙ ap (part_now shape known) (sym here));
          is = map-set (part_now shape known) items at after
              ∙ with-set number (part_now shape known after)
              (map (part_now shape known) items) at place below
              ∙ ap (with_part number (part_now shape known after)) seen;
        }

    pub laid-found : (at : ℕ) → result ≡ Some at → (laid : Laid P) → laid ≡ get_or items at laid
        → part_among old number ≡ Some (part_now shape known laid)
    laid-found at some laid here = (laid-at at some laid laid here).found

    -- where there is no place there is no such part
    pub none-laid : result ≡ None → part_among old number ≡ None
    none-laid none =
        let past = position-past (λ (laid : Laid P). laid.number.0 == number) items
        (sym of-items ∙ none) in
        ap (λ (parts : List PartNow). part_among parts number) (sym seen)
        ∙ none-found number (map (part_now shape known) items)
        (omega (arith, past, same-place, length-map items (part_now shape known)))

abbrev pub part-of : PartNo → Shape → Known → PartNow
part-of number shape known =
    record { number = number; shape = shape; known = known }

-- a part by its splits, its areas and the intervals that it uses alone
abbrev part-met : PartNo → Shape → Option AreaSplit → Option MoveNow → List ℕ → ℕ → PartNow
part-met number shape split move areas used = part-of number shape (record {
  split = split;
  move = move;
  met = [];
  most = 0;
  areas = areas;
  ends = [];
  used = used;
  tail = None;
})

-- and by its split of an interval alone
abbrev pub part-split : PartNo → Shape → Option AreaSplit → PartNow
part-split number shape split = part-met number shape split None [] 0

-- A part that a call left with its shape, its splits under way, its areas and how many intervals
-- they use is the same but for what it met.
pub same-met : (number : PartNo) (shape now : Shape) (known later : Known) → now ≡ shape
    → later.split ≡ known.split → later.move ≡ known.move → later.areas ≡ known.areas
    → later.used ≡ known.used
    → but_met (part-of number now later) ≡ but_met (part-of number shape known)
same-met number shape now known later shapes splits moves areas used =
    ap (λ (s : Shape). part-met number s later.split later.move later.areas later.used) shapes
    ∙ ap (λ (s : Option AreaSplit). part-met number shape s later.move later.areas later.used) splits
    ∙ ap (λ (m : Option MoveNow). part-met number shape known.split m later.areas later.used) moves
    ∙ ap (λ (held : List ℕ). part-met number shape known.split known.move held later.used) areas
    ∙ ap (part-met number shape known.split known.move known.areas) used

-- a part that a call left as it was
pub laid-same : {P : Type 0} (shape : P → Shape) (known : P → Known)
    (items : List (Laid P)) (at : ℕ) (laid : Laid P) (part : P) → laid ≡ get_or items at laid
    → shape part ≡ shape laid.part → known part ≡ known laid.part
    → map (part_now shape known) (set items at (record { number = laid.number; part = part }))
    ≡ map (part_now shape known) items
laid-same {P = P} shape known items at laid part here same-shape same-known =
    map-set_same (part_now shape known) items at
    (record { number = laid.number; part = part }) laid
    (ap (λ (s : Shape). part-of laid.number s (known part)) same-shape
    ∙ ap (part-of laid.number (shape laid.part)) same-known
    ∙ ap (part_now shape known) here)

-- ---- what is new

module _ (number : ℕ) (before after : PartNow) (old new : List PartNow)
    (at : IsPartAt number before after old new) (same : after.number ≡ before.number) where
  numbered : after.number.0 ≡ number
  numbered = ap (λ (n : PartNo). n.0) same
      ∙ among-number old number before at.found

  pub found-new : part_among new number ≡ Some after
  found-new = ap (λ (parts : List PartNow). part_among parts number) at.is
      ∙ among-with number before after numbered old at.found

  others : (other : ℕ) → other ≢ number → part_among new other ≡ part_among old other
  others other apart = ap (λ (parts : List PartNow). part_among parts other) at.is
      ∙ others-with number after numbered old other apart

  pub only-met : but_met after ≡ but_met before → OnlyMet number old new
  only-met is = record {
    parts = ap (map but_met) at.is ∙ map-with but_met number before after is old at.found;
    others = others;
  }

  pub only-split : but_split after ≡ but_split before → OnlySplit number old new
  only-split is = record {
    parts = ap (map but_split) at.is ∙ map-with but_split number before after is old at.found;
    others = others;
  }

-- a store with these parts
abbrev pub store-of : LogNow → List KeptRecord → List ChangedBy → List (Option PartNo)
    → List PartNow → StoreNow
store-of log undo changed space parts =
    record { log = log; undo = undo; parts = parts; changed = changed; space = space }
