-- What a view is made of, where the block is what its RDFs describe.
use Rattle.vr_ci_match.specs.declared.form.Shape.TheVariants as shapes
use Rattle.std.proofs.Common.{◌≡◌, ℕ, zero, suc, ◌+◌, ◌-◌, ◌≤◌, ◌⊎◌, inl, inr, Bool, true, false}
use Rattle.std.proofs.Common.{List, [], ◌∷◌, ◌++◌, length, take, drop, None, refl, sym, ap, ◌∙◌}
use Rattle.std.proofs.Common.{subst, arith, length-take, length-drop, inr}
use Rattle.std.specs.Prelude.{replicate, if◌then◌else◌}
use Rattle.std.specs.List.{flat_map, AllByRecursion}
use Rattle.vr_ci_match.specs.declared.form.Form.{Form}
use Rattle.vr_ci_match.specs.declared.form.Form.TheVariants.{Plain, Slots}
use Rattle.vr_ci_match.specs.declared.form.Piece.{Piece}
use Rattle.vr_ci_match.specs.declared.form.Piece.TheVariants.{First, Inner, Last}
use Rattle.vr_ci_match.specs.declared.form.Shape.{Shape}
use Rattle.vr_ci_match.specs.declared.rdf.Rdf.{Rdf}
use Rattle.vr_ci_match.specs.declared.rdf.Rdf.TheVariants.{Single, Run, Segment}
use Rattle.vr_ci_match.specs.declared.matching.Found.{Found}
use Rattle.vr_types.specs.BlockSize.{IsBlockSize}
use Rattle.vr_ci_match.specs.Rdf.{Mark, marks, spans, control, IsCount, IsRdf, IsChain, shape_of}
use Rattle.vr_ci.specs.Interval.{Item, Interval, IsItem, bytes_of, IsSegmentLength, FitsBlock}
use Rattle.vr_ci.specs.Interval.{IsLaidOut, IsInterval}
use Rattle.vr_ci_match.specs.Laid.{control_at, laid}
use Rattle.vr_ci_match.specs.Fault.{free_end, is_busy, IsWhole, masked, filled, slots_of, meant}
use Rattle.vr_ci_match.specs.Fault.{IsRoomKept, HasRightLengths}
use Rattle.vr_ci.specs.Reading.{items_at, rdfs_in, value_in, rdfs_between, CountFits}
use Rattle.vr_ci.specs.Found.{IsFound}
use Rattle.vr_ci_match.specs.Matched.{IsDescribed, IsZeros, IsMatched}
use Rattle.vr_ci_match.proofs.CallerLemmas.{same_ends, total, total-all, take-add, zeros}
use Rattle.vr_ci_match.proofs.CallerLemmas.{chain_rdfs, alone, all_records}
use Rattle.vr_ci_match.proofs.CallerLemmas.{masked_marks, masked_is, length-masked_marks}
use Rattle.vr_ci_match.proofs.CallerLemmas.{room_of_rdfs, singles}
use Rattle.vr_ci.proofs.ItemLemmas.{room_is, length-items_at, marks-items_at, bytes-items_at}
use Rattle.vr_ci.proofs.LawLemmas.{no_end}
use Rattle.vr_ci.proofs.ReadLemmas.{rdfs_between-is}
use Rattle.vr_ci.proofs.SizeLemmas.{size_bounds}
use Rattle.vr_ci.proofs.FoundLemmas.{Right, right_is, AreSlots, slots_are}
use Rattle.std.proofs.lemmas.List.{drop_all}

counts-append : (ms ns : List Mark) → AllByRecursion (λ m. IsCount m.len) ms
    → AllByRecursion (λ m. IsCount m.len) ns → AllByRecursion (λ m. IsCount m.len) (ms ++ ns)
counts-append [] ns each_so all_so = all_so
counts-append (m ∷ ms) ns each_so all_so = (each_so.0, counts-append ms ns each_so.1 all_so)

counts-run : (k n : ℕ) → IsCount n
    → AllByRecursion (λ m. IsCount m.len)
    (replicate k (let m : Mark = record { live = true; len = n } in m))
counts-run zero n counts = tt
counts-run (suc k) n counts = (counts, counts-run k n counts)

-- the records of RDFs have lengths
counts : (rs : List Rdf) → AllByRecursion IsRdf rs
    → AllByRecursion (λ m. IsCount m.len) (flat_map marks rs)
counts [] valid = tt
counts (Single live n ∷ rs) valid = (valid.0, counts rs valid.1)
counts (Run n k ∷ rs) valid =
    counts-append (marks (Run n k)) (flat_map marks rs) (counts-run k n valid.0.0)
    (counts rs valid.1)
counts (Segment piece live number n ∷ rs) valid = (valid.0.1, counts rs valid.1)

-- items that are read from bytes with zeros where they are withdrawn
items_ok : (ms : List Mark) (bytes : List ℕ) → AllByRecursion (λ m. IsCount m.len) ms
    → total ms ≤ length bytes → masked_marks ms bytes ≡ take (total ms) bytes
    → AllByRecursion IsItem (items_at ms bytes)
items_ok [] bytes each_so within bytes_is = tt
items_ok (m ∷ ms) bytes each_so within bytes_is =
    let long : length (take m.len bytes) ≡ m.len = omega (arith, length-take m.len bytes, within) in
    let rest : total ms ≤ length (drop m.len bytes) =
    omega (arith, length-drop m.len bytes, within) in
    let split = bytes_is ∙ take-add m.len (total ms) bytes in
    let same = same_ends (if m.live then take m.len bytes else zeros m.len)
    (masked_marks ms (drop m.len bytes)) (take m.len bytes) (take (total ms) (drop m.len bytes))
    (omega (
      arith,
      length-masked_marks ms (drop m.len bytes) rest,
      length-take (total ms) (drop m.len bytes),
      rest,
    )) split in (
      record { some = omega (arith, long, each_so.0.low); zeros = by_live m.live same.0 long },
      items_ok ms (drop m.len bytes) each_so.1 rest same.1,
    )
  where
    by_live : (live : Bool) → (if live then take m.len bytes else zeros m.len) ≡ take m.len bytes
        → length (take m.len bytes) ≡ m.len → live ≡ false
        → take m.len bytes ≡ replicate (length (take m.len bytes)) 0
    by_live true bytes_is long live_is = absurd cc
    by_live false bytes_is long live_is = sym bytes_is ∙ ap (λ (k : ℕ). zeros k) (sym long)

slots_lengths : (len : ℕ) (rs : List Rdf) (bytes : List ℕ) → AreSlots len rs
    → spans rs ≤ length bytes → AllByRecursion (λ item. length item.bytes ≡ len)
    (items_at (flat_map marks rs) bytes) × (length (flat_map marks rs) ≡ length rs)
slots_lengths len [] bytes slots within = (tt, refl)
slots_lengths len (Single live n ∷ rs) bytes slots within =
    let rest = slots_lengths len rs (drop n bytes) slots.1
    (omega (arith, length-drop n bytes, within)) in
    ((omega (arith, length-take n bytes, within, slots.0), rest.0), ap (λ (k : ℕ). suc k) rest.1)
slots_lengths len (Run n k ∷ rs) bytes slots within = absurd slots
slots_lengths len (Segment piece live number n ∷ rs) bytes slots within = absurd slots

-- what the RDFs say fits the block
fits_records : (form : Form) (block : List ℕ) (rs : List Rdf) → IsChain form rs
    → shape_of rs ≡ shapes.Records → Right form block rs → IsRoomKept form (length block) rs
    → FitsBlock form (length block) shapes.Records (items_at (flat_map marks rs) block)
fits_records Plain block rs chain shape described_right kept =
    let items = items_at (flat_map marks rs) block in
    omega (
      arith,
      room_is items,
      ap total (marks-items_at (flat_map marks rs) block
          (omega (arith, total-all rs, described_right.place))),
      total-all rs,
      length-items_at (flat_map marks rs) block,
      room_of_rdfs rs,
      kept,
    )
fits_records (Slots len) block rs chain shape described_right kept =
    let n = length block in
    let single = singles len None rs chain (all_records (Slots len) None rs chain shape) in
    let are = slots_are n len rs single in
    let meant_slots : slots_of n len rs ≡ rs = sym (meant_records rs shape)
    ∙ described_right.meant in
    let mine : AreSlots len rs = subst (λ (x : List Rdf). AreSlots len x) meant_slots are.0 in
    let lengths = slots_lengths len rs block mine (omega (arith, described_right.place)) in (
      lengths.0,
      length-items_at (flat_map marks rs) block ∙ lengths.1 ∙ ap length (sym meant_slots)
          ∙ are.1,
    )
  where
    meant_records : (xs : List Rdf) → shape_of xs ≡ shapes.Records
        → meant (Slots len) (length block) xs ≡ slots_of (length block) len xs
    meant_records [] shape = refl
    meant_records (Single live i ∷ xs) shape = refl
    meant_records (Run i j ∷ xs) shape = refl
    meant_records (Segment piece live number i ∷ xs) shape = absurd cc

abbrev first_length : List Rdf → ℕ
first_length [] = 0
first_length (Single live n ∷ rs) = n
first_length (Run n k ∷ rs) = n
first_length (Segment piece live number n ∷ rs) = n

fits_shape : (form : Form) (block : List ℕ) (rs : List Rdf) → 512 ≤ length block → IsChain form rs
    → Right form block rs → IsRoomKept form (length block) rs
    → FitsBlock form (length block) (shape_of rs) (items_at (flat_map marks rs) block)
fits_shape form block [] least chain described_right kept =
    fits_records form block [] chain refl described_right kept
fits_shape form block (Single live n ∷ rs) least chain described_right kept =
    fits_records form block (Single live n ∷ rs) chain refl described_right kept
fits_shape form block (Run n j ∷ rs) least chain described_right kept =
    fits_records form block (Run n j ∷ rs) chain refl described_right kept
fits_shape form block (Segment piece live number n ∷ rs) least chain described_right kept =
    let none : rs ≡ [] = alone form piece live number n rs chain in
    let all : spans (Segment piece live number n ∷ rs) ≡ n = ap (λ (x : List Rdf). n + spans x) none
    ∙ omega arith in
    let six : length (control (Segment piece live number n ∷ rs)) ≡ 6 =
    ap (λ (x : List Rdf). length (control (Segment piece live number n ∷ x))) none in
    let long : length (take n block) ≡ n =
    omega (arith, length-take n block, described_right.place, all) in
    let others : items_at (flat_map marks rs) (drop n block) ≡ [] =
    ap (λ (x : List Rdf). items_at (flat_map marks x) (drop n block)) none in
    let fills : IsSegmentLength piece (length block) n =
    by_piece piece (ap first_length described_right.meant)
    (omega (arith, described_right.place, all, six)) in
    let one : AllByRecursion (λ item. IsSegmentLength piece (length block) (length item.bytes))
    (items_at (flat_map marks rs) (drop n block)) =
    subst (λ (x : List Item). AllByRecursion
    (λ item. IsSegmentLength piece (length block) (length item.bytes)) x) (sym others) tt in (
      chain.0.0,
      (subst (λ (i : ℕ). IsSegmentLength piece (length block) i) (sym long) fills, one),
      ap (λ (x : List Item). suc (length x)) others,
    )
  where
    by_piece : (p : Piece) → first_length (filled (length block) (Segment p live number n) ∷ []) ≡ n
        → n ≤ length block - 10 → IsSegmentLength p (length block) n
    by_piece First number_is within = sym number_is
    by_piece Inner number_is within = sym number_is
    by_piece Last number_is within = within

count_fits : (form : Form) (size : ℕ) (shape : Shape) (items : List Item)
    → FitsBlock form size shape items → CountFits shape (length items)
count_fits form size shapes.Records items fitting = tt
count_fits form size (shapes.Segment piece number) items fitting = fitting.2
count_fits Plain size shapes.EndOfFile items fitting = ap length fitting
count_fits (Slots len) size shapes.EndOfFile items fitting = ap length fitting

-- The view's value is that of the block.
pub found_is : (form : Form) (block : List ℕ) (rs : List Rdf) (found : Found)
    → IsBlockSize (length block) → IsWhole form block rs → HasRightLengths form block rs
    → found.low ≡ free_end block → found.shape ≡ shape_of rs → found.busy ≡ is_busy block
    → found.count ≡ length (flat_map marks rs) → IsFound form block found
found_is form block rs found size whole right low shape busy count =
    let n = length block in
    let bounds = size_bounds n size in
    let right_is_here = right_is form block rs size whole right in
    let f = control_at n rs in
    let items = items_at (flat_map marks rs) block in
    let fit : total (flat_map marks rs) ≤ n = omega (arith, total-all rs, right_is_here.place) in
    let rdfs : rdfs_between f (n - 4) block ≡ rs =
    rdfs_between-is f (n - 4) block rs whole.right.bytes in
    let place : f ≡ found.low = sym right_is_here.low ∙ sym low in
    let rdfs_low : rdfs_in block found.low ≡ rs =
    ap (λ (k : ℕ). rdfs_between k (n - 4) block) (sym place) ∙ rdfs in
    let value : Interval = record { shape = shape_of rs; items = items; busy = is_busy block } in
    let same : value ≡ value_in block found.low found.shape found.busy =
    let s = sym shape in
    let b = sym busy in
    let items_is : items ≡ items_at (flat_map marks (rdfs_in block found.low)) block =
    ap (λ (x : List Rdf). items_at (flat_map marks x) block) (sym rdfs_low) in
    cc in
    let masks : masked_marks (flat_map marks rs) block ≡ take (total (flat_map marks rs)) block =
    sym (masked_is rs block) ∙ right_is_here.masked
    ∙ ap (λ (k : ℕ). take k block) (sym (total-all rs)) in
    let front : flat_map bytes_of items ≡ masked rs block = bytes-items_at (flat_map marks rs) block
    ∙ sym masks ∙ sym (masked_is rs block) in
    let laid_out : IsLaidOut form block value = record {
      rdfs = rs;
      chain = whole.right.chain;
      shape = refl;
      said = sym (marks-items_at (flat_map marks rs) block fit);
      layout = right_is_here.layout ∙ ap (λ (x : List ℕ). laid n x rs (is_busy block)) (sym front);
    } in
    let interval : IsInterval form block value = record {
      size = size;
      fits = record {
        items = items_ok (flat_map marks rs) block
            (counts rs (chain_rdfs form None rs whole.right.chain)) fit masks;
        block = fits_shape form block rs bounds.0 whole.right.chain right_is_here right.room;
        idle = λ e. absurd (no_end rs e);
      };
      laid = inl laid_out;
    } in
    record {
      interval = subst (λ (v : Interval). IsInterval form block v) same interval;
      view = record {
        shown = record {
          lent = record {
            order = omega (arith, place, whole.right.high);
            within = omega (arith, bounds.0);
            control = ap (λ (k : ℕ). drop k (take (n - 4) block)) (sym place) ∙ whole.right.bytes
                ∙ ap control (sym rdfs_low);
            rdfs = subst (λ (x : List Rdf). AllByRecursion IsRdf x) (sym rdfs_low)
                (chain_rdfs form None rs whole.right.chain);
          };
          bytes = omega (arith, ap spans rdfs_low, right_is_here.place);
          count = count ∙ ap (λ (x : List Rdf). length (flat_map marks x)) (sym rdfs_low);
        };
        count = subst (λ (s : Shape). CountFits s found.count) (sym shape)
            (subst (λ (k : ℕ). CountFits (shape_of rs) k) (length-items_at (flat_map marks rs) block
            ∙ sym count)
            (count_fits form n (shape_of rs) items
            (fits_shape form block rs bounds.0 whole.right.chain right_is_here right.room)));
      };
    }

pub end_found : (form : Form) (block : List ℕ) → IsBlockSize (length block)
    → block ≡ zeros (length block)
    → IsFound form block (record {
      shape = shapes.EndOfFile;
      count = 0;
      low = length block - 4;
      busy = false;
    })
end_found form block size equal =
    let top : ℕ = length block - 4 in
    let least = (size_bounds (length block) size).0 in
    let nothing : drop top (take top block) ≡ [] =
    drop_all top (take top block) (omega (arith, length-take top block)) in
    let rdfs : rdfs_in block top ≡ [] = rdfs_between-is top top block [] nothing in
    let items : items_at (flat_map marks (rdfs_in block top)) block ≡ [] =
    ap (λ (x : List Rdf). items_at (flat_map marks x) block) rdfs in
    let value : Interval = record { shape = shapes.EndOfFile; items = []; busy = false } in
    let same : value ≡ value_in block top shapes.EndOfFile false = let i = sym items in cc in
    let interval : IsInterval form block value = record {
      size = size;
      fits = record { items = tt; block = fits form; idle = λ _. refl };
      laid = inr (refl, equal);
    } in
    record {
      interval = subst (λ (v : Interval). IsInterval form block v) same interval;
      view = record {
        shown = record {
          lent = record {
            order = omega arith;
            within = omega (arith, least);
            control = nothing ∙ ap control (sym rdfs);
            rdfs = subst (λ (x : List Rdf). AllByRecursion IsRdf x) (sym rdfs) tt;
          };
          bytes = omega (arith, ap spans rdfs);
          count = ap (λ (x : List Rdf). length (flat_map marks x)) (sym rdfs);
        };
        count = refl;
      };
    }
  where
    fits : (g : Form) → Rattle.vr_ci.specs.Interval.FitsBlock g (length block) shapes.EndOfFile []
    fits Plain = refl
    fits (Slots len) = refl

-- What a block without a fault was found to hold is its value.
pub matched_found : (form : Form) (block : List ℕ) (found : Found) → IsBlockSize (length block)
    → IsMatched form block found → IsFound form block found
matched_found form block found size matched = by_content matched
  where
    by_content : (IsDescribed form block found ⊎ IsZeros block found) → IsFound form block found
    by_content (inl described) =
        found_is form block described.rdfs found size described.whole described.right
        described.low described.shape
        described.busy described.count
    by_content (inr empty) =
        subst (λ (end : Found). IsFound form block end) (sym empty.is)
        (end_found form block size empty.zeros)
