-- A field of a record is read back as it was written.
use Rattle.std.proofs.Common.{◌≡◌, ◌<◌, ◌≤◌, ◌+◌, ◌-◌, ◌++◌, ℕ, zero, suc, Bool}
use Rattle.std.proofs.Common.{true, false, List, [], ◌∷◌, length, take, drop, get_or, refl}
use Rattle.std.proofs.Common.{arith}
use Rattle.std.specs.Prelude.{Some, None, Option, bit_and, ◌==◌, slice_index, if◌then◌else◌}
use Rattle.std.specs.Prelude.{replicate}
use Rattle.std.specs.List.{concat, before_first, position_or_len}
use Rattle.std.proofs.Math.Seq.{take-append_seam, drop-append-add}
use Rattle.std.proofs.lemmas.List.{length-append, take_all, get_or_append_left, get_or-append_right}
use Rattle.std.proofs.lemmas.List.Sums.{position_or_len_is}
use Rattle.vr_types.specs.declared.unit.Kind.{Kind}
use Rattle.vr_types.specs.declared.unit.Kind.TheVariants.{Keyed, Entry, Relative}
use Rattle.vr_catalog.specs.declared.entry.EntryKind.{EntryKind}
use Rattle.vr_catalog.specs.declared.entry.EntryKind.TheVariants.{Cluster, Alternate, Path}
use Rattle.vr_catalog.specs.declared.entry.SpaceUnit.{SpaceUnit}
use Rattle.vr_catalog.specs.declared.entry.SpaceUnit.TheVariants.{Unstated, Cylinders, Tracks}
use Rattle.vr_catalog.specs.declared.entry.SpaceUnit.TheVariants.{Records}
use Rattle.vr_catalog.specs.Record.{entry_kind_byte, entry_kind_of, kind_byte, kind_of, space_byte}
use Rattle.vr_catalog.specs.Record.{space_of, padded}

-- the i-th of some fields that stand one after another
pub field_of_concat : (fields : List (List ℕ)) (i : ℕ) → i < length fields
    → take (length (get_or fields i [])) (drop (length (concat (take i fields))) (concat fields))
    ≡ get_or fields i []
field_of_concat [] i within = absurd (omega arith)
field_of_concat (field ∷ fields) zero within = take-append_seam field (concat fields)
field_of_concat (field ∷ fields) (suc i) within =
    rw (
      length-append field (concat (take i fields)),
      drop-append-add field (concat fields) (length (concat (take i fields))),
    )
    (field_of_concat fields i (omega (arith, within)))

pub kind_read : (kind : EntryKind) → entry_kind_of (entry_kind_byte kind) ≡ kind
kind_read Cluster = refl
kind_read Alternate = refl
kind_read Path = refl

pub organisation_read : (kind : Option Kind) → kind_of (kind_byte kind) ≡ kind
organisation_read None = refl
organisation_read (Some Keyed) = refl
organisation_read (Some Entry) = refl
organisation_read (Some Relative) = refl

pub space_read : (unit : SpaceUnit) → space_of (space_byte unit) ≡ unit
space_read Unstated = refl
space_read Cylinders = refl
space_read Tracks = refl
space_read Records = refl

pub flags_read : (spanned unique built : Bool) →
    ((bit_and ((if spanned then 1 else 0) + (if unique then 2 else 0) + (if built then 4 else 0))
    1 == 1) ≡ spanned)
    × ((bit_and ((if spanned then 1 else 0) + (if unique then 2 else 0) + (if built then 4 else 0))
    2 == 2) ≡ unique)
    × ((bit_and ((if spanned then 1 else 0) + (if unique then 2 else 0) + (if built then 4 else 0))
    4 == 4) ≡ built)
flags_read true true true = (refl, refl, refl)
flags_read true true false = (refl, refl, refl)
flags_read true false true = (refl, refl, refl)
flags_read true false false = (refl, refl, refl)
flags_read false true true = (refl, refl, refl)
flags_read false true false = (refl, refl, refl)
flags_read false false true = (refl, refl, refl)
flags_read false false false = (refl, refl, refl)

blank_after : (text : List ℕ) (n : ℕ) → length text < length (text ++ replicate n 32)
    → (get_or (text ++ replicate n 32) (length text) 0 == 32) ≡ true
blank_after text zero more = absurd (omega (arith, length-append text (replicate 0 32)))
blank_after text (suc n) more =
    let first : length text - length text ≡ 0 = omega arith in
    rw (
      get_or-append_right text (replicate (suc n) 32) (length text) (length text) 0 refl
          (omega arith),
      first,
    ) refl

-- a text without a blank is what stands before the first blank of its field
pub text_read : (size : ℕ) (text : List ℕ) → length text ≤ size
    → ((i : ℕ) → i < length text → (slice_index text i == 32) ≡ false)
    → before_first (λ byte. byte == 32) (padded size text) ≡ text
unfolding padded
text_read size text fits plain =
    let whole : take size text ≡ text = take_all size text fits in
    let first : position_or_len (λ byte. byte == 32)
    (text ++ replicate (size - length text) 32) ≡ length text
    = position_or_len_is (λ byte. byte == 32) (text ++ replicate (size - length text) 32)
    (length text) 0
    (omega (arith, length-append text (replicate (size - length text) 32)))
    (λ i below. rw (get_or_append_left text (replicate (size - length text) 32) 0 i below)
    (plain i below))
    (λ more. blank_after text (size - length text) more) in
    rw (whole, first) (take-append_seam text (replicate (size - length text) 32))
