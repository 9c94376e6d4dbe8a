-- The live units, one removed, and the lengths of records.
use Rattle.std.proofs.Common.{◌≡◌, ℕ, zero, suc, ◌+◌, ◌<◌, ◌≤◌, Bool, true, false, List, [], ◌∷◌}
use Rattle.std.proofs.Common.{◌++◌, length, get_or, Option, Some, None, if◌then◌else◌, refl, sym}
use Rattle.std.proofs.Common.{ap, ◌∙◌, arith}
use Rattle.std.specs.List.{remove}
use Rattle.std.proofs.lemmas.List.{length-append}
use Rattle.vr_types.specs.Fields.{two, four}
use Rattle.vr_types.specs.Locks.{same_unit}
use Rattle.vr_types.specs.declared.unit.Unit.{Unit as UnitOfRecovery}
use Rattle.vr_types.specs.declared.unit.PartNo.{PartNo}
use Rattle.vr_types.proofs.CallerLemmas.{length-two, length-four}
use Rattle.vr_log.specs.declared.record.EndKind.{EndKind}
use Rattle.vr_log.specs.declared.record.LogRecord.{LogRecord}
use Rattle.vr_log.specs.declared.record.LogRecord.TheVariants.{Before, End}
use Rattle.vr_log.specs.Live.{without}
use Rattle.vr_log.specs.Records.{record_bytes, unit_bytes, old_bytes, end_number}

-- no unit before the index is this one
abbrev pub NoneBefore : UnitOfRecovery → List UnitOfRecovery → ℕ → Type 0
NoneBefore unit units n = (k : ℕ) → k < n → k < length units
    → same_unit unit (get_or units k unit) ≡ false

none-later : (unit other : UnitOfRecovery) (units : List UnitOfRecovery) (n : ℕ)
    → NoneBefore unit (other ∷ units) (suc n) → NoneBefore unit units n
none-later unit other units n none k below within =
    none (suc k) (omega (arith, below)) (omega (arith, within))

pub without-at : (unit : UnitOfRecovery) (units : List UnitOfRecovery) (n : ℕ) → n < length units
    → NoneBefore unit units n → same_unit unit (get_or units n unit) ≡ true
    → remove units n ≡ without unit units
without-at unit [] n below none here = absurd (omega (arith, below))
without-at unit (other ∷ units) zero below none here =
    sym (ap (λ (b : Bool). if b then units else other ∷ without unit units) here)
without-at unit (other ∷ units) (suc n) below none here =
    ap (λ (x : List UnitOfRecovery). other ∷ x)
    (without-at unit units n (omega (arith, below)) (none-later unit other units n none) here)
    ∙ sym (ap (λ (b : Bool). if b then units else other ∷ without unit units)
    (none 0 (omega arith) (omega arith)))

pub without-none : (unit : UnitOfRecovery) (units : List UnitOfRecovery)
    → NoneBefore unit units (length units) → without unit units ≡ units
without-none unit [] none = refl
without-none unit (other ∷ units) none =
    ap (λ (b : Bool). if b then units else other ∷ without unit units)
    (none 0 (omega arith) (omega arith))
    ∙ ap (λ (x : List UnitOfRecovery). other ∷ x)
    (without-none unit units (none-later unit other units (length units) none))

pub length-end : (unit : UnitOfRecovery) → length (unit_bytes unit) ≡ 8
unfolding unit_bytes
length-end unit =
    omega (
      arith,
      length-four unit.deck,
      length-four unit.number,
      length-append (four unit.deck)
          (four unit.number),
    )

pub length-old : (old : Option (List ℕ)) (n : ℕ) → n ≡ length (old_bytes old) → 5 ≤ n
unfolding old_bytes
length-old None n is = omega (arith, is, length-four 0)
length-old (Some bytes) n is =
    omega (arith, is, length-append (four (length bytes)) bytes, length-four (length bytes))

pub length-none : length (old_bytes None) ≡ 5
unfolding old_bytes
length-none = omega (arith, length-four 0)

pub length-some : (bytes : List ℕ) → length (old_bytes (Some bytes)) ≡ 5 + length bytes
unfolding old_bytes
length-some bytes =
    omega (arith, length-append (four (length bytes)) bytes, length-four (length bytes))

pub length-before : (unit : UnitOfRecovery) (part : PartNo) (place : List ℕ) (old : Option (List ℕ))
    → length (record_bytes (Before unit part place old)) ≡ 15 + length place + length
    (old_bytes old)
unfolding record_bytes
length-before unit part place old =
    let head = unit_bytes unit ++ four part.0 ++ two (length place) in
    omega (
      arith,
      length-append (head
          ++ place) (old_bytes old),
      length-append head place,
      length-append (unit_bytes unit
          ++ four part.0) (two (length place)),
      length-append (unit_bytes unit) (four part.0),
      length-end unit,
      length-four part.0,
      length-two (length place),
    )

pub length-ended : (unit : UnitOfRecovery) (kind : EndKind)
    → length (record_bytes (End unit kind)) ≡ 9
unfolding record_bytes
length-ended unit kind = omega (arith, length-end unit)

pub old-some : (old : Option (List ℕ)) (bytes head : List ℕ) → old ≡ Some bytes
    → head ≡ 1 ∷ four (length bytes) → old_bytes old ≡ head ++ bytes
unfolding old_bytes
old-some old bytes head is heads = ap old_bytes is ∙ ap (λ (x : List ℕ). x ++ bytes) (sym heads)

pub before-is : (rec : LogRecord) (unit : UnitOfRecovery) (part : PartNo) (place : List ℕ)
    (old : Option (List ℕ)) (head : List ℕ) → rec ≡ Before unit part place old
    → head ≡ 1 ∷ unit_bytes unit ++ four part.0 ++ two (length place)
    → record_bytes rec ≡ (head ++ place) ++ old_bytes old
unfolding record_bytes
before-is rec unit part place old head is heads = ap record_bytes is
    ∙ ap (λ (x : List ℕ). (x ++ place) ++ old_bytes old) (sym heads)

pub end-is : (rec : LogRecord) (unit : UnitOfRecovery) (kind : EndKind) (bytes : List ℕ)
    → rec ≡ End unit kind → bytes ≡ end_number kind ∷ unit_bytes unit → record_bytes rec ≡ bytes
unfolding record_bytes
end-is rec unit kind bytes is same = ap record_bytes is ∙ sym same
