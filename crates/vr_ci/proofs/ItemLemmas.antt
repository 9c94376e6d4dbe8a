-- Items, their marks and their bytes.
use Rattle.vr_ci_match.specs.declared.form.Shape.TheVariants as shapes
use Rattle.std.proofs.Common.{◌≡◌, ℕ, ◌+◌, ◌*◌, ◌≤◌, List, [], ◌∷◌, ◌++◌, length, take, drop, refl}
use Rattle.std.proofs.Common.{sym, ap, ◌∙◌, arith, append_assoc, length-append, length-take}
use Rattle.std.proofs.Common.{length-drop, ◌-◌, true, None}
use Rattle.std.specs.Prelude.{map}
use Rattle.std.specs.List.{flat_map, AllByRecursion}
use Rattle.std.proofs.lemmas.List.{take_at, drop_at, length-map, length-replicate}
use Rattle.vr_ci_match.specs.declared.rdf.Rdf.{Rdf}
use Rattle.vr_ci_match.specs.declared.rdf.Rdf.TheVariants.{Single, Run, Segment}
use Rattle.vr_ci_match.specs.Rdf.{Mark, marks, spans, rdf_bytes, control, IsRdf, IsOfRecords}
use Rattle.vr_ci_match.specs.Rdf.{IsChain, shape_of}
use Rattle.vr_ci.specs.Interval.{Item, bytes_of, mark_of, room, FitsBlock}
use Rattle.vr_ci.specs.Reading.{items_at}
use Rattle.std.proofs.lemmas.Nat.{div-add-mod'}
use Rattle.vr_ci_match.specs.declared.form.Form.{Form}
use Rattle.vr_ci_match.specs.declared.form.Form.TheVariants.{Plain, Slots}
use Rattle.vr_ci_match.specs.declared.form.Piece.{Piece}
use Rattle.vr_ci_match.specs.declared.form.Piece.TheVariants.{First, Inner, Last}
use Rattle.vr_ci_match.specs.Laid.{slots_in}
use Rattle.vr_ci_match.proofs.CallerLemmas.{total, total-all, take-add, chain_rdfs, alone}
use Rattle.vr_ci_match.proofs.CallerLemmas.{all_records}

pub length-bytes : (items : List Item)
    → length (flat_map bytes_of items) ≡ total (map mark_of items)
length-bytes [] = refl
length-bytes (i ∷ items) =
    omega (arith, length-append i.bytes (flat_map bytes_of items), length-bytes items)

pub room_is : (items : List Item) → room items ≡ total (map mark_of items) + 3 * length items
room_is [] = refl
room_is (i ∷ items) = omega (arith, room_is items)

-- Items that stand at the left end of bytes are found again.
pub items_at-bytes : (items : List Item) (rest : List ℕ)
    → items_at (map mark_of items) (flat_map bytes_of items ++ rest) ≡ items
items_at-bytes [] rest = refl
items_at-bytes (i ∷ items) rest =
    let split : flat_map bytes_of (i ∷ items) ++ rest ≡ i.bytes
    ++ (flat_map bytes_of items ++ rest) = append_assoc i.bytes (flat_map bytes_of items) rest in
    let front : take (length i.bytes) (flat_map bytes_of (i ∷ items) ++ rest) ≡ i.bytes =
    rw split (take_at i.bytes (flat_map bytes_of items ++ rest) _ refl) in
    let back : drop (length i.bytes) (flat_map bytes_of (i ∷ items) ++ rest) ≡ flat_map bytes_of
    items ++ rest = rw split (drop_at i.bytes (flat_map bytes_of items ++ rest) _ refl) in
    let first : (let x : Item = record
    { bytes = take (length i.bytes) (flat_map bytes_of (i ∷ items) ++ rest); live = i.live } in
    x) ≡ i = ap (λ (b : List ℕ). let x : Item = record { bytes = b; live = i.live } in x) front in
    let others : items_at (map mark_of items)
    (drop (length i.bytes) (flat_map bytes_of (i ∷ items) ++ rest)) ≡ items =
    rw back (items_at-bytes items rest) in
    cc

pub length-items_at : (ms : List Mark) (bytes : List ℕ) → length (items_at ms bytes) ≡ length ms
length-items_at [] bytes = refl
length-items_at (m ∷ ms) bytes = omega (arith, length-items_at ms (drop m.len bytes))

-- what is read has the marks that it was read by
pub marks-items_at : (ms : List Mark) (bytes : List ℕ) → total ms ≤ length bytes
    → map mark_of (items_at ms bytes) ≡ ms
marks-items_at [] bytes within = refl
marks-items_at (m ∷ ms) bytes within =
    let long : length (take m.len bytes) ≡ m.len = omega (arith, length-take m.len bytes) in
    let first : (let x : Mark = record { live = m.live; len = length (take m.len bytes) } in
    x) ≡ m = ap (λ (n : ℕ). let x : Mark = record { live = m.live; len = n } in x) long in
    let others = marks-items_at ms (drop m.len bytes) (omega (arith, length-drop m.len bytes)) in
    cc

pub bytes-items_at : (ms : List Mark) (bytes : List ℕ)
    → flat_map bytes_of (items_at ms bytes) ≡ take (total ms) bytes
bytes-items_at [] bytes = refl
bytes-items_at (m ∷ ms) bytes =
    ap (λ (t : List ℕ). take m.len bytes ++ t) (bytes-items_at ms (drop m.len bytes))
    ∙ sym (take-add m.len (total ms) bytes)

-- each record has three bytes of RDFs or less
control_short : (rs : List Rdf) → AllByRecursion IsRdf rs → AllByRecursion IsOfRecords rs
    → length (control rs) ≤ 3 * length (flat_map marks rs)
control_short [] valid records = omega arith
control_short (Single live n ∷ rs) valid records =
    omega (
      arith,
      control_short rs valid.1 records.1,
      length-append (control rs) (rdf_bytes (Single live n)),
    )
control_short (Run n k ∷ rs) valid records =
    omega (
      arith,
      control_short rs valid.1 records.1,
      length-append (control rs) (rdf_bytes (Run n k)),
      length-append (marks (Run n k)) (flat_map marks rs),
      length-replicate k (let m : Mark = record { live = true; len = n } in m),
      valid.0.2,
    )
control_short (Segment piece live number n ∷ rs) valid records = absurd records.0

slots_room : (len : ℕ) (items : List Item) → AllByRecursion (λ item. length item.bytes ≡ len) items
    → room items ≡ length items * (len + 3)
slots_room len [] each_so = omega arith
slots_room len (i ∷ items) each_so = omega (arith, slots_room len items each_so.1, each_so.0)

pub records_room : (form : Form) (size : ℕ) (items : List Item)
    → FitsBlock form size shapes.Records items → room items ≤ size - 4
records_room Plain size items fitting = fitting
records_room (Slots len) size items fitting =
    let some : room items ≡ slots_in size len * (len + 3) = slots_room len items fitting.0
    ∙ ap (λ (k : ℕ). k * (len + 3)) fitting.1 in
    omega (arith, some, div-add-mod' (size - 4) (len + 3))

-- the length of the first record, where there is one
abbrev pub first_len : List Mark → ℕ
first_len [] = 0
first_len (m ∷ ms) = m.len

-- the records, and the RDFs, of a value that fits have place
pub room_kept : (form : Form) (size : ℕ) (rs : List Rdf) (items : List Item) → 512 ≤ size
    → IsChain form rs → FitsBlock form size (shape_of rs) items
    → flat_map marks rs ≡ map mark_of items → spans rs + length (control rs) + 4 ≤ size
room_kept form size [] items least chain fitting same = omega arith
room_kept form size (Segment piece live number n ∷ rs) items least chain fitting same =
    segment piece items fitting same
  where
    none : rs ≡ []
    none = alone form piece live number n rs chain

    lengths : (spans (Segment piece live number n ∷ rs) ≡ n)
        × (length (control (Segment piece live number n ∷ rs)) ≡ 6)
    lengths = (
      ap (λ (t : List Rdf). spans (Segment piece live number n ∷ t)) none
          ∙ omega arith,
      ap (λ (t : List Rdf). length (control (Segment piece live number n ∷ t)))
          none,
    )

    segment : (p : Piece) (is : List Item) → FitsBlock form size (shapes.Segment p number) is
        → flat_map marks (Segment piece live number n ∷ rs) ≡ map mark_of is
        → spans (Segment piece live number n ∷ rs) + length
        (control (Segment piece live number n ∷ rs)) + 4 ≤ size
    segment First [] fitting same = absurd cc
    segment Inner [] fitting same = absurd cc
    segment Last [] fitting same = absurd cc
    segment First (i ∷ is) fitting same = let equal : n ≡ length i.bytes = ap first_len same in
        omega (arith, equal, lengths, fitting.1.0)
    segment Inner (i ∷ is) fitting same = let equal : n ≡ length i.bytes = ap first_len same in
        omega (arith, equal, lengths, fitting.1.0)
    segment Last (i ∷ is) fitting same = let equal : n ≡ length i.bytes = ap first_len same in
        omega (arith, equal, lengths, fitting.1.0)
room_kept form size (Single live n ∷ rs) items least chain fitting same =
    let all = Single live n ∷ rs in
    omega (
      arith,
      records_room form size items fitting,
      room_is items,
      ap total same,
      total-all all,
      ap length same,
      length-map items mark_of,
      control_short all (chain_rdfs form None all chain) (all_records form None all chain refl),
    )
room_kept form size (Run n k ∷ rs) items least chain fitting same =
    let all = Run n k ∷ rs in
    omega (
      arith,
      records_room form size items fitting,
      room_is items,
      ap total same,
      total-all all,
      ap length same,
      length-map items mark_of,
      control_short all (chain_rdfs form None all chain) (all_records form None all chain refl),
    )
