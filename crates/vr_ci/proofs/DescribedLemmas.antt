-- What an interval describes by its RDFs is the interval itself.
use Rattle.vr_ci_match.specs.declared.form.Shape.TheVariants as shapes
use Rattle.std.proofs.Common.{◌≡◌, ℕ, suc, ◌+◌, ◌-◌, ◌≤◌, Bool, true, false, List, [], ◌∷◌, ◌++◌}
use Rattle.std.proofs.Common.{length, take, drop, None, refl, sym, ap, ◌∙◌, subst, arith}
use Rattle.std.proofs.Common.{append_assoc}
use Rattle.std.specs.Prelude.{map, replicate, if◌then◌else◌}
use Rattle.std.specs.List.{flat_map, AllByRecursion}
use Rattle.std.proofs.lemmas.List.{length-map, take_at, drop_at}
use Rattle.vr_ci_match.specs.declared.form.Form.{Form}
use Rattle.vr_ci_match.specs.declared.form.Form.TheVariants.{Plain, Slots}
use Rattle.vr_ci_match.specs.declared.form.Piece.{Piece}
use Rattle.vr_ci_match.specs.declared.form.Piece.TheVariants.{First, Inner, Last}
use Rattle.vr_ci_match.specs.declared.form.Shape.{Shape}
use Rattle.vr_ci_match.specs.declared.rdf.Rdf.{Rdf}
use Rattle.vr_ci_match.specs.declared.rdf.Rdf.TheVariants.{Single, Run, Segment}
use Rattle.vr_ci_match.specs.Rdf.{Mark, marks, spans, control, IsChain, shape_of}
use Rattle.vr_ci.specs.Interval.{Item, Interval, IsItem, mark_of, bytes_of, FitsBlock, Fits}
use Rattle.vr_ci_match.specs.Laid.{slots_in, laid}
use Rattle.vr_ci_match.specs.Fault.{is_busy, masked, filled, slotted, slots_of, meant, described}
use Rattle.vr_ci_match.specs.Fault.{rdfs_room}
use Rattle.vr_ci_match.proofs.CallerLemmas.{total, total-all, zeros, alone, all_records}
use Rattle.vr_ci_match.proofs.CallerLemmas.{masked_marks, masked_is, room_of_rdfs, AreSingles}
use Rattle.vr_ci_match.proofs.CallerLemmas.{singles}
use Rattle.vr_ci.proofs.ItemLemmas.{room_is, records_room, first_len}
use Rattle.vr_ci.proofs.IntervalLemmas.{Laid}

-- items at the left end of bytes are what their marks describe
pub masked-items : (items : List Item) (rest : List ℕ) → AllByRecursion IsItem items
    → masked_marks (map mark_of items) (flat_map bytes_of items ++ rest) ≡ flat_map bytes_of items
masked-items [] rest items_fit = refl
masked-items (i ∷ items) rest items_fit =
    let split : flat_map bytes_of (i ∷ items) ++ rest ≡ i.bytes
    ++ (flat_map bytes_of items ++ rest) = append_assoc i.bytes (flat_map bytes_of items) rest in
    let back : drop (length i.bytes) (flat_map bytes_of (i ∷ items) ++ rest) ≡ flat_map bytes_of
    items ++ rest = rw split (drop_at i.bytes (flat_map bytes_of items ++ rest) _ refl) in
    let front : take (length i.bytes) (flat_map bytes_of (i ∷ items) ++ rest) ≡ i.bytes =
    rw split (take_at i.bytes (flat_map bytes_of items ++ rest) _ refl) in
    let others : masked_marks (map mark_of items)
    (drop (length i.bytes) (flat_map bytes_of (i ∷ items) ++ rest)) ≡ flat_map bytes_of items =
    rw back (masked-items items rest items_fit.1) in
    let first = by_live i.live (take (length i.bytes) (flat_map bytes_of (i ∷ items) ++ rest)) front
    items_fit.0.zeros in
    ap (λ (x : List ℕ). x ++ masked_marks (map mark_of items)
    (drop (length i.bytes) (flat_map bytes_of (i ∷ items) ++ rest))) first
    ∙ ap (λ (x : List ℕ). i.bytes ++ x) others
  where
    by_live : (live : Bool) (front : List ℕ) → front ≡ i.bytes
        → (live ≡ false → i.bytes ≡ replicate (length i.bytes) 0)
        → (if live then front else zeros (length i.bytes)) ≡ i.bytes
    by_live true front front_is each = front_is
    by_live false front front_is each = sym (each refl)

abbrev pub others : List Mark → List Mark
others [] = []
others (m ∷ ms) = ms

-- RDFs of slots that have one length say that length
slots_same : (len : ℕ) (rs : List Rdf) (items : List Item) → AreSingles rs
    → flat_map marks rs ≡ map mark_of items
    → AllByRecursion (λ item. length item.bytes ≡ len) items → (map (slotted len) rs ≡ rs)
    × (length rs ≡ length items)
slots_same len [] [] singles_only same each_so = (refl, refl)
slots_same len [] (i ∷ items) singles_only same each_so = absurd cc
slots_same len (Single live n ∷ rs) [] singles_only same each_so = absurd cc
slots_same len (Single live n ∷ rs) (i ∷ items) singles_only equal each_so =
    let rest = slots_same len rs items singles_only (ap others equal) each_so.1 in
    let same : len ≡ n = sym each_so.0 ∙ sym (ap first_len equal) in (
      ap (λ (x : List Rdf). Single live len ∷ x) rest.0
          ∙ ap (λ (k : ℕ). Single live k ∷ rs) same,
      ap (λ (k : ℕ). suc k) rest.1,
    )
slots_same len (Run n k ∷ rs) items singles_only same each_so = absurd singles_only
slots_same len (Segment piece live number n ∷ rs) items singles_only same each_so =
    absurd singles_only

slots_meant : (len size : ℕ) (rs : List Rdf) (items : List Item) → IsChain (Slots len) rs
    → shape_of rs ≡ shapes.Records → FitsBlock (Slots len) size shapes.Records items
    → flat_map marks rs ≡ map mark_of items → slots_of size len rs ≡ rs
slots_meant len size rs items chain shape fitting equal =
    let same = slots_same len rs items
    (singles len None rs chain (all_records (Slots len) None rs chain shape)) equal fitting.0 in
    let count : length rs ≡ slots_in size len = same.1 ∙ fitting.1 in
    ap (λ (x : List Rdf). take (slots_in size len) (x
    ++ replicate (slots_in size len) (Single false len))) same.0
    ∙ take_at rs (replicate (slots_in size len) (Single false len)) (slots_in size len) count

meant_records : (form : Form) (size : ℕ) (rs : List Rdf) (items : List Item) → IsChain form rs
    → shape_of rs ≡ shapes.Records → FitsBlock form size shapes.Records items
    → flat_map marks rs ≡ map mark_of items → meant form size rs ≡ rs
meant_records Plain size [] items chain shape fitting same = refl
meant_records Plain size (Single live n ∷ rs) items chain shape fitting same = refl
meant_records Plain size (Run n k ∷ rs) items chain shape fitting same = refl
meant_records form size (Segment piece live number n ∷ rs) items chain shape fitting same =
    absurd cc
meant_records (Slots len) size [] items chain shape fitting same =
    slots_meant len size [] items chain shape fitting same
meant_records (Slots len) size (Single live n ∷ rs) items chain shape fitting same =
    slots_meant len size (Single live n ∷ rs) items chain shape fitting same
meant_records (Slots len) size (Run n k ∷ rs) items chain shape fitting same =
    slots_meant len size (Run n k ∷ rs) items chain shape fitting same

meant_segment : (form : Form) (size : ℕ) (piece : Piece) (live : Bool) (number n : ℕ)
    (items : List Item) → FitsBlock form size (shapes.Segment piece number) items
    → marks (Segment piece live number n) ++ [] ≡ map mark_of items
    → filled size (Segment piece live number n) ≡ Segment piece live number n
meant_segment form size Last live number n items fitting number_is = refl
meant_segment form size First live number n [] fitting number_is = absurd cc
meant_segment form size Inner live number n [] fitting number_is = absurd cc
meant_segment form size First live number n (i ∷ items) fitting number_is =
    ap (λ (k : ℕ). Segment First live number k) (sym (ap first_len number_is ∙ fitting.1.0))
meant_segment form size Inner live number n (i ∷ items) fitting number_is =
    ap (λ (k : ℕ). Segment Inner live number k) (sym (ap first_len number_is ∙ fitting.1.0))

-- the RDFs of an interval are those that are meant
pub meant_is : (form : Form) (size : ℕ) (rs : List Rdf) (items : List Item) → IsChain form rs
    → FitsBlock form size (shape_of rs) items
    → flat_map marks rs ≡ map mark_of items → meant form size rs ≡ rs
meant_is form size [] items chain fitting same =
    meant_records form size [] items chain refl fitting same
meant_is form size (Single live n ∷ rs) items chain fitting same =
    meant_records form size (Single live n ∷ rs) items chain refl fitting same
meant_is form size (Run n k ∷ rs) items chain fitting same =
    meant_records form size (Run n k ∷ rs) items chain refl fitting same
meant_is form size (Segment piece live number n ∷ rs) items chain fitting same =
    let none : rs ≡ [] = alone form piece live number n rs chain in
    ap (λ (r : Rdf). r ∷ []) (meant_segment form size piece live number n items fitting
    (ap (λ (x : List Rdf). marks (Segment piece live number n) ++ flat_map marks x) (sym none)
    ∙ same))
    ∙ ap (λ (x : List Rdf). Segment piece live number n ∷ x) (sym none)

-- An interval is the block that it describes.
pub described_is : (form : Form) (block : List ℕ) (value : Interval)
    → Fits form (length block) value → (l : Laid form block value)
    → described form block l.rdfs ≡ block
described_is form block value fitting l =
    let n = length block in
    let kept : FitsBlock form n (shape_of l.rdfs) value.items =
    subst (λ (x : Shape). FitsBlock form n x value.items) (sym l.shape) fitting.block in
    let same : meant form n l.rdfs ≡ l.rdfs =
    meant_is form n l.rdfs value.items l.chain kept l.said in
    let front : masked l.rdfs block ≡ flat_map bytes_of value.items =
    masked_is l.rdfs block ∙ ap (λ (ms : List Mark). masked_marks ms block) l.said
    ∙ ap (λ (b : List ℕ). masked_marks (map mark_of value.items) b) l.front
    ∙ masked-items value.items l.rest fitting.items in
    ap (λ (rs : List Rdf). laid n (masked rs block) rs (is_busy block)) same
    ∙ ap (λ (x : List ℕ). laid n x l.rdfs (is_busy block)) front
    ∙ ap (λ (b : Bool). laid n (flat_map bytes_of value.items) l.rdfs b) l.busy
    ∙ sym l.layout

-- the records of an interval have room
pub room_in : (form : Form) (block : List ℕ) (value : Interval) → Fits form (length block) value
    → (l : Laid form block value) → rdfs_room l.rdfs ≤ length block - 4
room_in form block value fitting l =
    by_rdfs l.rdfs l.chain (subst (λ (x : Shape). FitsBlock form (length block) x value.items)
    (sym l.shape) fitting.block) l.said l.place
  where
    records : (rs : List Rdf) → FitsBlock form (length block) shapes.Records value.items
        → flat_map marks rs ≡ map mark_of value.items → rdfs_room rs ≤ length block - 4
    records rs fitting same = omega (
      arith,
      room_of_rdfs rs,
      records_room form (length block) value.items fitting,
      room_is value.items,
      ap total same,
      total-all rs,
      ap length same,
      length-map value.items mark_of,
    )

    by_rdfs : (rs : List Rdf) → IsChain form rs
        → FitsBlock form (length block) (shape_of rs) value.items
        → flat_map marks rs ≡ map mark_of value.items
        → spans rs + length (control rs) + 4 ≤ length block → rdfs_room rs ≤ length block - 4
    by_rdfs [] chain fitting same within = records [] fitting same
    by_rdfs (Single live n ∷ rs) chain fitting same within =
        records (Single live n ∷ rs) fitting same
    by_rdfs (Run n k ∷ rs) chain fitting same within = records (Run n k ∷ rs) fitting same
    by_rdfs (Segment piece live number n ∷ rs) chain fitting same within =
        let none : rs ≡ [] = alone form piece live number n rs chain in
        let more : spans (Segment piece live number n ∷ rs) ≡ n =
        ap (λ (x : List Rdf). n + spans x) none ∙ omega arith in
        let six : length (control (Segment piece live number n ∷ rs)) ≡ 6 =
        ap (λ (x : List Rdf). length (control (Segment piece live number n ∷ x))) none in
        let room : rdfs_room (Segment piece live number n ∷ rs) ≡ n + 3 =
        ap (λ (x : List Rdf). n + 3 + rdfs_room x) none ∙ omega arith in
        omega (arith, more, six, room, within)
