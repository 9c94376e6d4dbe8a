-- How many steps a unit may still wait for, after a call: as many where a part only met blocks, fewer
-- once a stage is done, a before-image is put back or a unit's blocks are forced.
use Rattle.std.proofs.Common.{◌≡◌, ◌≢◌, ◌<◌, ◌≤◌, ◌+◌, ◌*◌, ℕ, Bool, true, false, cond, not, ◌&&◌}
use Rattle.std.proofs.Common.{◌||◌, List, [], ◌∷◌, Option, Some, None, refl, sym, ap, subst, ◌∙◌, arith}
use Rattle.std.proofs.Common.{⊎_elim, filter, length, map}
use Rattle.std.specs.Prelude.{IfSome, option_map}
use Rattle.std.specs.List.{list_any}
use Rattle.std.proofs.Math.Nat.{mul-le-mul_right}
use Rattle.std.proofs.lemmas.Bool.{true≢false}
use Rattle.vr_types.specs.Space.{free_count}
use Rattle.vr_types.specs.declared.unit.PartNo.{PartNo}
use Rattle.vr_types.specs.declared.unit.StageKind.{StageKind}
use Rattle.vr_types.specs.declared.unit.Unit.{Unit as UnitOfRecovery}
use Rattle.vr_space.specs.Known.{Known, areas_held}
use Rattle.vr_space.specs.Left.{added_by, area_intervals}
use Rattle.vr_space.specs.Part.{HasMore, KeyedShape, NumberedShape, OwnersAfter, Shape, left_of}
use Rattle.vr_history.specs.State.{BeforeImage}
use Rattle.vr_undo.specs.Records.{befores_of, keeps_for, last_in, put_out, with_last_out}
use Rattle.vr_undo.specs.declared.record.KeptRecord.{KeptRecord}
use Rattle.vr_undo.proofs.Leaving.{none-last}
use Rattle.vr_store.specs.Left.{forces_left, left_for, parts_left}
use Rattle.vr_store.specs.Parts.{HasMoreAt, OnlyMet, but_met, with_part}
use Rattle.vr_store.specs.Store.{ChangedBy, PartNow, StoreNow, blocks_of, has_number, part_among}
use Rattle.vr_store.proofs.Claims.{owners-after}
use Rattle.vr_store.proofs.PlacedParts.{among-same}

some-one : {X : Type 0} {x y : X} → Some x ≡ Some y → x ≡ y
some-one same = cc

-- ---- a part only met blocks

-- A part has as many stages left, whatever it met,
met-shape : (free : ℕ) (part : PartNow) → (shape : Shape) → part.shape ≡ shape
    → left_of (but_met part).shape (but_met part).known free ≡ left_of part.shape part.known free
met-shape free part (KeyedShape keyed) is =
    ap (λ (s : Shape). left_of s (but_met part).known free) is
    ∙ sym (ap (λ (s : Shape). left_of s part.known free) is)
met-shape free part (NumberedShape numbered) is =
    ap (λ (s : Shape). left_of s (but_met part).known free) is
    ∙ sym (ap (λ (s : Shape). left_of s part.known free) is)

parts-met : (free : ℕ) (parts : List PartNow)
    → parts_left free (map but_met parts) ≡ parts_left free parts
parts-met free [] = refl
parts-met free (part ∷ parts) =
    ap (λ (n : ℕ). n + parts_left free (map but_met parts)) (met-shape free part part.shape refl)
    ∙ ap (λ (n : ℕ). left_of part.shape part.known free + n) (parts-met free parts)

-- and so have all parts,
pub left-met : (number : ℕ) (old new : List PartNow) (free : ℕ) → OnlyMet number old new
    → parts_left free new ≡ parts_left free old
left-met number old new free only =
    sym (parts-met free new) ∙ ap (parts_left free) only.parts ∙ parts-met free old

-- and a unit waits for as many steps.
pub waits-met : (unit : UnitOfRecovery) (store : StoreNow) (number : ℕ) (new : List PartNow)
    → OnlyMet number store.parts new
    → left_for unit (record store { parts = new }) ≡ left_for unit store
waits-met unit store number new only = omega (
  arith,
  left-met number store.parts new (free_count store.space) only,
)

-- Each part uses as many intervals, and has its shape.
pub used-met : (number : ℕ) (old new : List PartNow) → OnlyMet number old new → (n : ℕ)
    (before after : PartNow) → part_among old n ≡ Some before → part_among new n ≡ Some after
    → (after.shape ≡ before.shape) × (after.known.used ≡ before.known.used)
used-met number old new only n before after found there =
    let same : but_met after ≡ but_met before = some-one (sym (ap (option_map but_met) there)
    ∙ among-same but_met (λ part. refl) new old only.parts n ∙ ap (option_map but_met) found) in (
      ap (λ (part : PartNow). part.shape) same,
      ap (λ (part : PartNow). part.known.used) same,
    )

-- ---- a stage of a part

-- no part has more stages left where fewer areas are free
pub left-fewer : (shape : Shape) (known : Known) (free now : ℕ) → now ≤ free
    → left_of shape known now ≤ left_of shape known free
left-fewer (KeyedShape part) known free now less =
    let held = length (areas_held known) in
    let each = area_intervals part in
    let more : held + now ≤ held + free = omega (arith, less) in
    let intervals : (held + now) * each ≤ (held + free) * each = mul-le-mul_right each more in
    let areas : now * (each + 5) ≤ free * (each + 5) = mul-le-mul_right (each + 5) less in
    omega (arith, intervals, areas)
left-fewer (NumberedShape part) known free now less =
    let more : length known.areas + now ≤ length known.areas + free = omega (arith, less) in
    omega (arith, mul-le-mul_right part.geometry.area more)

parts-fewer : (free now : ℕ) → now ≤ free → (parts : List PartNow)
    → parts_left now parts ≤ parts_left free parts
parts-fewer free now less [] = omega arith
parts-fewer free now less (part ∷ parts) = omega (
  arith,
  left-fewer part.shape part.known free now less,
  parts-fewer free now less parts,
)

-- The part of a number has fewer stages left, and no part more: so they have fewer in all.
pub left-with : (number : ℕ) (before after : PartNow) (free now : ℕ) → now ≤ free
    → left_of after.shape after.known now < left_of before.shape before.known free
    → (parts : List PartNow) → part_among parts number ≡ Some before
    → parts_left now (with_part number after parts) < parts_left free parts
left-with number before after free now less fewer [] is = absurd cc
left-with number before after free now less fewer (one ∷ parts) is =
    by_test (has_number number one) is
    (λ further. left-with number before after free now less fewer parts further)
  where
    by_test : (test : Bool) → cond test (Some one) (part_among parts number) ≡ Some before
        → (part_among parts number ≡ Some before
        → parts_left now (with_part number after parts) < parts_left free parts)
        → parts_left now (cond test (after ∷ parts) (one ∷ with_part number after parts))
        < parts_left free (one ∷ parts)
    by_test true here further =
        let same : one ≡ before = some-one here in
        let mine : left_of after.shape after.known now < left_of one.shape one.known free =
        subst (λ (p : PartNow). left_of after.shape after.known now < left_of p.shape p.known free)
        (sym same) fewer in
        omega (arith, mine, parts-fewer free now less parts)
    by_test false there further = omega (
      arith,
      left-fewer one.shape one.known free now less,
      further there,
    )

-- A stage leaves no more areas free.
pub free-after : (part : PartNo) (kind : StageKind) (old new : List (Option PartNo))
    → OwnersAfter part kind old new → free_count new ≤ free_count old
free-after part kind old new after = ⊎_elim
    (λ same. omega (arith, ap free_count same))
    (λ claimed. omega (arith, claimed.free)) (owners-after part kind old new after)

-- Where the parts have fewer, each unit waits for less.
pub waits-staged : (unit : UnitOfRecovery) (store : StoreNow) (new : List PartNow)
    (space : List (Option PartNo))
    → parts_left (free_count space) new < parts_left (free_count store.space) store.parts
    → left_for unit (record store { parts = new; space = space }) < left_for unit store
waits-staged unit store new space fewer = omega (arith, fewer)

-- a stage that adds as many intervals leaves the same
pub more-told : (number : ℕ) (kind told : StageKind) (old new : List PartNow) (free now : ℕ)
    → added_by told ≡ added_by kind → HasMoreAt number kind old new free now
    → HasMoreAt number told old new free now
more-told number kind told old new free now same more =
    of (part_among old number) (part_among new number) more
  where
    of : (first then : Option PartNow)
        → IfSome first (λ (one : PartNow). IfSome then (λ (other : PartNow).
        HasMore one.shape kind one.known other.known free now))
        → IfSome first (λ (one : PartNow). IfSome then (λ (other : PartNow).
        HasMore one.shape told one.known other.known free now))
    of None then more = tt
    of (Some one) None more = tt
    of (Some one) (Some other) more = record {
      fewer = more.fewer;
      used = more.used ∙ ap (λ (n : ℕ). one.known.used + n) (sym same);
    }

-- The part of the number uses as many intervals more as the stage adds.
pub used-more : (number : ℕ) (kind : StageKind) (old new : List PartNow) (free now : ℕ)
    → HasMoreAt number kind old new free now → (before after : PartNow)
    → part_among old number ≡ Some before → part_among new number ≡ Some after
    → after.known.used ≡ before.known.used + added_by kind
used-more number kind old new free now more before after found there =
    of (part_among old number) (part_among new number) found there more
  where
    of : (first then : Option PartNow) → first ≡ Some before → then ≡ Some after
        → IfSome first (λ (one : PartNow).
        IfSome then (λ (other : PartNow).
        HasMore one.shape kind one.known other.known free now))
        → after.known.used ≡ before.known.used + added_by kind
    of None then is later more = absurd cc
    of (Some one) None is later more = absurd cc
    of (Some one) (Some other) is later more =
        ap (λ (p : PartNow). p.known.used) (sym (some-one later))
        ∙ more.used
        ∙ ap (λ (p : PartNow). p.known.used + added_by kind) (some-one is)

-- ---- a before-image is put back

-- the unit keeps one fewer
fewer-kept : (unit : UnitOfRecovery) (records : List KeptRecord)
    → list_any (keeps_for unit) records ≡ true
    → length (filter (keeps_for unit) (with_last_out unit records)) + 1
    ≡ length (filter (keeps_for unit) records)
fewer-kept unit [] any = absurd (true≢false (sym any))
fewer-kept unit (kept ∷ records) any =
    by_tests (keeps_for unit kept) (list_any (keeps_for unit) records) refl refl any
    (λ further. fewer-kept unit records further)
  where
    later : List KeptRecord
    later = filter (keeps_for unit) (with_last_out unit records)

    by_tests : (here : Bool) (more : Bool) → keeps_for unit kept ≡ here
        → list_any (keeps_for unit) records ≡ more → (here || more) ≡ true
        → (list_any (keeps_for unit) records ≡ true
        → length later + 1 ≡ length (filter (keeps_for unit) records))
        → length (filter (keeps_for unit) (cond (here && not more) (put_out kept ∷ records)
        (kept ∷ with_last_out unit records))) + 1
        ≡ length (cond here (kept ∷ filter (keeps_for unit) records)
        (filter (keeps_for unit) records))
    by_tests true true is there any further =
        ap (λ (b : Bool). length (cond b (kept ∷ later) later) + 1) is
        ∙ omega (arith, further there)
    by_tests true false is there any further = omega arith
    by_tests false true is there any further =
        ap (λ (b : Bool). length (cond b (kept ∷ later) later) + 1) is
        ∙ further there
    by_tests false false is there any further = absurd (true≢false (sym any))

-- where it has a last one, it keeps one
keeps-last : (unit : UnitOfRecovery) (records : List KeptRecord) (last : BeforeImage)
    → last_in unit (befores_of records) ≡ Some last → list_any (keeps_for unit) records ≡ true
keeps-last unit records last is = by_test (list_any (keeps_for unit) records) refl
  where
    by_test : (test : Bool) → list_any (keeps_for unit) records ≡ test → test ≡ true
    by_test true any = refl
    by_test false none = absurd (none-some (none-last unit records none ∙ is))
      where
        none-some : None ≡ Some last → ⊥
        none-some same = cc

one-force : (blocks : List ℕ) → forces_left blocks ≤ 1
one-force [] = omega arith
one-force (n ∷ blocks) = omega arith

-- So the unit waits for less, though its blocks may have to be forced then.
pub waits-back : (unit : UnitOfRecovery) (store : StoreNow) (last : BeforeImage)
    → last_in unit (befores_of store.undo) ≡ Some last → (number : ℕ) (new : List PartNow)
    (changed : List ChangedBy) → OnlyMet number store.parts new
    → left_for unit (record store {
      undo = with_last_out unit store.undo;
      parts = new;
      changed = changed;
    }) < left_for unit store
waits-back unit store last is number new changed only = omega (
  arith,
  left-met number store.parts new (free_count store.space) only,
  fewer-kept unit store.undo (keeps-last unit store.undo last is),
  one-force (blocks_of unit changed),
)

-- ---- a unit's blocks are forced

some-force : (blocks : List ℕ) → blocks ≢ [] → forces_left blocks ≡ 1
some-force [] some = absurd (some refl)
some-force (n ∷ blocks) some = refl

pub waits-forced : (unit : UnitOfRecovery) (store : StoreNow) (changed : List ChangedBy)
    → blocks_of unit store.changed ≢ [] → blocks_of unit changed ≡ []
    → left_for unit (record store { changed = changed }) < left_for unit store
waits-forced unit store changed some none = omega (
  arith,
  some-force (blocks_of unit store.changed) some,
  ap forces_left none,
)
