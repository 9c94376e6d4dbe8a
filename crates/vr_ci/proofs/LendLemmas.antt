-- Lending records out of a block, one after another.
use Rattle.std.proofs.Common.{◌≡◌, ℕ, zero, suc, ◌+◌, ◌-◌, ◌*◌, ◌/◌, ◌%◌, ◌<◌, ◌≤◌, Bool, true}
use Rattle.std.proofs.Common.{false, nat_eq, get_or, List, [], ◌∷◌, ◌++◌, length, take, drop, refl}
use Rattle.std.proofs.Common.{sym, ap, ◌∙◌, subst, arith, append_assoc, length-append, length-take}
use Rattle.std.proofs.Common.{length-drop}
use Rattle.std.specs.Prelude.{replicate, bit_and}
use Rattle.std.specs.List.{flat_map, AllByRecursion}
use Rattle.std.proofs.lemmas.List.{take_at, drop_at, take-append-drop, take-take, drop-drop}
use Rattle.std.proofs.lemmas.List.{length-replicate, get_or-take, get_or_at}
use Rattle.vr_ci_match.specs.declared.form.Piece.{Piece}
use Rattle.vr_ci_match.specs.declared.form.Piece.TheVariants.{First as FirstPiece, Inner, Last}
use Rattle.vr_ci_match.specs.declared.rdf.Rdf.{Rdf}
use Rattle.vr_ci_match.specs.declared.rdf.Rdf.TheVariants.{Single, Run, Segment}
use Rattle.vr_ci_match.specs.Rdf.{Mark, marks, span, spans, record_length, two_bytes, withdrawn_bit}
use Rattle.vr_ci_match.specs.Rdf.{segment_bits, rdf_bytes, control, IsRdf}
use Rattle.vr_ci_match.specs.Fault.{is_live}
use Rattle.vr_ci.specs.declared.records.Batch.{Batch}
use Rattle.vr_ci.specs.Interval.{Item}
use Rattle.vr_ci.specs.Reading.{items_at, rdfs_between, AreLent, AreIn, IsNextBatch, marks_left}
use Rattle.vr_ci.specs.Reading.{items_left}
use Rattle.vr_ci_match.proofs.CallerLemmas.{byte}
use Rattle.vr_ci.proofs.ReadLemmas.{rdfs_between-is}

-- the rightmost RDF or pair of those that are lent
pub record First (block : List ℕ) (low end : ℕ) : Type 0 where
  pub at : ℕ
  pub r : Rdf
  pub valid : IsRdf r
  pub parts : rdfs_between low end block ≡ r ∷ rdfs_between low at block
  pub width : at + length (rdf_bytes r) ≡ end
  pub bytes : take end block ≡ take at block ++ rdf_bytes r
  pub rest : AreLent block low at

pub first_of : (low end : ℕ) (block : List ℕ) → AreLent block low end → (end ≡ low → ⊥)
    → First block low end
first_of low end block lent some = by_rdfs (rdfs_between low end block) refl
  where
    upto : List ℕ
    upto = take end block

    long : length (take end block) ≡ end
    long = omega (arith, length-take end block, lent.within)

    by_rdfs : (rdfs : List Rdf) → rdfs_between low end block ≡ rdfs → First block low end
    by_rdfs [] none =
        absurd (some (omega (
          arith,
          ap length lent.control,
          ap (λ (x : List Rdf). length (control x)) none,
          length-drop low upto,
          long,
          lent.order,
        )))
    by_rdfs (r ∷ rdfs) are =
        let all : drop low upto ≡ control rdfs ++ rdf_bytes r = lent.control ∙ ap control are in
        let left : List ℕ = take low upto ++ control rdfs in
        let at : ℕ = length left in
        let parts : upto ≡ left ++ rdf_bytes r =
        sym (take-append-drop low upto) ∙ ap (λ (x : List ℕ). take low upto ++ x) all
        ∙ sym (append_assoc (take low upto) (control rdfs) (rdf_bytes r)) in
        let front : length (take low upto) ≡ low =
        omega (arith, length-take low upto, long, lent.order) in
        let width : at + length (rdf_bytes r) ≡ end =
        omega (arith, ap length parts, length-append left (rdf_bytes r), long) in
        let before : take at block ≡ left =
        sym (take-take at end block (omega (arith, width))) ∙ ap (λ (x : List ℕ). take at x) parts
        ∙ take_at left (rdf_bytes r) at refl in
        let behind : drop low (take at block) ≡ control rdfs =
        ap (λ (x : List ℕ). drop low x) before ∙ drop_at (take low upto) (control rdfs) low front in
        let same : rdfs_between low at block ≡ rdfs = rdfs_between-is low at block rdfs behind in
        let valid : AllByRecursion IsRdf (r ∷ rdfs) =
        subst (λ (x : List Rdf). AllByRecursion IsRdf x) are lent.rdfs in
        record {
          at = at;
          r = r;
          valid = valid.0;
          parts = are ∙ ap (λ (x : List Rdf). r ∷ x) (sym same);
          width = width;
          bytes = parts ∙ ap (λ (x : List ℕ). x ++ rdf_bytes r) (sym before);
          rest = record {
            order = omega (arith, length-append (take low upto) (control rdfs), front);
            within = omega (arith, lent.within, width);
            control = behind ∙ ap control (sym same);
            rdfs = subst (λ (x : List Rdf). AllByRecursion IsRdf x) (sym same) valid.1;
          };
        }

-- ---- what an RDF or pair says, by the bytes before its end

abbrev Said : List ℕ → ℕ → Rdf → Type 0
Said block end (Single live n) =
    (byte block (end - 3) ≡ withdrawn_bit live)
    × (byte block (end - 2) * 256 + byte block (end - 1) ≡ n)
Said block end (Run n count) =
    (byte block (end - 3) ≡ 64) × (byte block (end - 2) * 256 + byte block (end - 1) ≡ n)
    × (byte block (end - 5) * 256 + byte block (end - 4) ≡ count)
Said block end (Segment piece live number n) =
    (byte block (end - 3) ≡ 64 + segment_bits piece + withdrawn_bit live)
    × (byte block (end - 2) * 256 + byte block (end - 1) ≡ n)

-- the three bytes before an end
three_before : (block left : List ℕ) (end flags n : ℕ) → end ≤ length block
    → take end block ≡ left ++ flags ∷ two_bytes n
    → (byte block (end - 3) ≡ flags) × (byte block (end - 2) * 256 + byte block (end - 1) ≡ n)
three_before block left end flags n within are = (
  at 3 flags first (omega arith),
  omega (arith, at 2 (n / 256) second (omega arith), at 1 (n % 256) third (omega arith)),
)
  where
    long : length left + 3 ≡ end
    long = omega (
      arith,
      ap length are,
      length-append left (flags ∷ two_bytes n),
      length-take end block,
    )

    at : (k x : ℕ) → get_or (left ++ flags ∷ two_bytes n) (end - k) 0 ≡ x → 0 < k
        → byte block (end - k) ≡ x
    at k x there some =
        sym (get_or-take end block (end - k) 0 (omega (arith, long, some)))
        ∙ ap (λ (xs : List ℕ). get_or xs (end - k) 0) are ∙ there

    first : get_or (left ++ flags ∷ two_bytes n) (end - 3) 0 ≡ flags
    first = get_or_at left flags (two_bytes n) 0 (end - 3) (omega (arith, long))

    second : get_or (left ++ flags ∷ two_bytes n) (end - 2) 0 ≡ n / 256
    second =
        ap (λ (xs : List ℕ). get_or xs (end - 2) 0)
        (sym (append_assoc left (flags ∷ []) (two_bytes n)))
        ∙ get_or_at (left ++ flags ∷ []) (n / 256) (n % 256 ∷ []) 0 (end - 2)
        (omega (arith, long, length-append left (flags ∷ [])))

    third : get_or (left ++ flags ∷ two_bytes n) (end - 1) 0 ≡ n % 256
    third =
        ap (λ (xs : List ℕ). get_or xs (end - 1) 0)
        (sym (append_assoc left (flags ∷ n / 256 ∷ []) (n % 256 ∷ [])))
        ∙ get_or_at (left ++ flags ∷ n / 256 ∷ []) (n % 256) [] 0 (end - 1)
        (omega (arith, long, length-append left (flags ∷ n / 256 ∷ [])))

said : (block left : List ℕ) (end : ℕ) (r : Rdf) → end ≤ length block
    → take end block ≡ left ++ rdf_bytes r → Said block end r
said block left end (Single live n) within are =
    three_before block left end (withdrawn_bit live) n within are
said block left end (Run n count) within are =
    let whole : take end block ≡ (left ++ 8 ∷ two_bytes count) ++ 64 ∷ two_bytes n = are
    ∙ sym (append_assoc left (8 ∷ two_bytes count) (64 ∷ two_bytes n)) in
    let long : length (left ++ 8 ∷ two_bytes count) + 3 ≡ end =
    omega (
      arith,
      ap length whole,
      length-append (left ++ 8 ∷ two_bytes count) (64 ∷ two_bytes n),
      length-take end block,
    ) in
    let half : take (end - 3) block ≡ left ++ 8 ∷ two_bytes count =
    sym (take-take (end - 3) end block (omega arith))
    ∙ ap (λ (xs : List ℕ). take (end - 3) xs) whole
    ∙ take_at (left ++ 8 ∷ two_bytes count) (64 ∷ two_bytes n) (end - 3) (omega (arith, long)) in
    let right = three_before block (left ++ 8 ∷ two_bytes count) end 64 n within whole in
    let five : end - 3 - 2 ≡ end - 5 = omega arith in
    let four : end - 3 - 1 ≡ end - 4 = omega arith in
    let number = three_before block left (end - 3) 8 count (omega (arith, within)) half in (
      right.0,
      right.1,
      ap (λ (k : ℕ). byte block k * 256 + byte block (end - 4)) (sym five)
          ∙ ap (λ (k : ℕ). byte block (end - 3 - 2) * 256 + byte block k) (sym four) ∙ number.1,
    )
said block left end (Segment piece live number n) within are =
    let flags = segment_bits piece + withdrawn_bit live in
    three_before block (left ++ (8 + segment_bits piece + withdrawn_bit live) ∷ two_bytes number)
    end (64 + segment_bits piece + withdrawn_bit live) n within
    (are ∙ sym (append_assoc left ((8 + segment_bits piece + withdrawn_bit live) ∷ two_bytes number)
    ((64 + segment_bits piece + withdrawn_bit live) ∷ two_bytes n)))

single_low : (live : Bool) → withdrawn_bit live < 64
single_low true = omega arith
single_low false = omega arith

segment_high : (piece : Piece) (live : Bool) → 64 < 64 + segment_bits piece + withdrawn_bit live
segment_high FirstPiece live = omega arith
segment_high Inner live = omega arith
segment_high Last live = omega arith

single_live : (live : Bool) → live ≡ nat_eq (bit_and (withdrawn_bit live) 4) 0
single_live true = refl
single_live false = refl

segment_live : (piece : Piece) (live : Bool)
    → live ≡ nat_eq (bit_and (64 + segment_bits piece + withdrawn_bit live) 4) 0
segment_live FirstPiece true = refl
segment_live FirstPiece false = refl
segment_live Inner true = refl
segment_live Inner false = refl
segment_live Last true = refl
segment_live Last false = refl

-- all records of an RDF or pair are alike
pub marks_alike : (r : Rdf)
    → marks r ≡ replicate (length (marks r))
    (let m : Mark = record { live = is_live r; len = record_length r } in m)
marks_alike (Single live n) = refl
marks_alike (Run n k) = ap
    (λ (j : ℕ). replicate j (let m : Mark = record { live = true; len = n } in m))
    (sym (length-replicate k (let m : Mark = record { live = true; len = n } in m)))
marks_alike (Segment piece live number n) = refl

pub some_marks : (r : Rdf) → IsRdf r → 0 < length (marks r)
some_marks (Single live n) valid = omega arith
some_marks (Run n k) valid =
    omega (arith, length-replicate k (let m : Mark = record { live = true; len = n } in m), valid.2)
some_marks (Segment piece live number n) valid = omega arith

pub span_is : (r : Rdf) → length (marks r) * record_length r ≡ span r
span_is (Single live n) = omega arith
span_is (Run n k) = ap (λ (j : ℕ). j * n)
    (length-replicate k (let m : Mark = record { live = true; len = n } in m)) ∙ omega arith
span_is (Segment piece live number n) = omega arith

-- the records of the next RDF or pair follow those of none
pub batch_more : (block : List ℕ) (low : ℕ) (old new : Batch) (r : Rdf) → old.left ≡ 0
    → rdfs_between low old.end block ≡ r ∷ rdfs_between low new.end block → IsRdf r
    → new.left ≡ length (marks r) → new.length ≡ record_length r → new.live ≡ is_live r
    → (0 < new.left) × (marks_left block low new ≡ marks_left block low old)
    × (new.left * new.length + spans (rdfs_between low new.end block) ≡ old.left * old.length +
    spans (rdfs_between low old.end block))
batch_more block low old new r none parts valid left len live =
    let behind : List Mark = flat_map marks (rdfs_between low new.end block) in
    let mine : replicate new.left (let m : Mark = record { live = new.live; len = new.length } in
    m) ≡ marks r =
    ap (λ (k : ℕ). replicate k (let m : Mark = record { live = new.live; len = new.length } in m))
    left
    ∙ ap (λ (b : Bool). replicate (length (marks r))
    (let m : Mark = record { live = b; len = new.length } in m)) live
    ∙ ap (λ (k : ℕ). replicate (length (marks r))
    (let m : Mark = record { live = is_live r; len = k } in m)) len
    ∙ sym (marks_alike r) in
    let theirs : marks_left block low old ≡ flat_map marks (rdfs_between low old.end block) =
    ap (λ (k : ℕ). replicate k (let m : Mark = record { live = old.live; len = old.length } in m)
    ++ flat_map marks (rdfs_between low old.end block)) none in
    let product : new.left * new.length ≡ span r = ap (λ (k : ℕ). k * new.length) left
    ∙ ap (λ (k : ℕ). length (marks r) * k) len ∙ span_is r in
    let zero_product : old.left * old.length ≡ 0 = ap (λ (k : ℕ). k * old.length) none
    ∙ omega arith in (
      omega (arith, left, some_marks r valid),
      ap (λ (x : List Mark). x ++ behind) mine ∙ sym (ap (flat_map marks) parts) ∙ sym theirs,
      omega (arith, product, zero_product, ap spans parts),
    )

pub none_left : (block : List ℕ) (low : ℕ) (old : Batch) → old.left ≡ 0
    → rdfs_between low old.end block ≡ [] → marks_left block low old ≡ []
none_left block low old none end_is =
    ap (λ (k : ℕ). replicate k (let m : Mark = record { live = old.live; len = old.length } in m)
    ++ flat_map marks (rdfs_between low old.end block)) none
    ∙ ap (λ (x : List Rdf). flat_map marks x) end_is

-- a batch is of an RDF or pair that begins there
record IsOf (r : Rdf) (at : ℕ) (batch : Batch) : Type 0 where
  place : batch.end ≡ at
  left : batch.left ≡ length (marks r)
  len : batch.length ≡ record_length r
  live : batch.live ≡ is_live r

next_is : (block : List ℕ) (low : ℕ) (old new : Batch) (first : First block low old.end)
    → old.left ≡ 0 → IsOf first.r first.at new
    → IsNextBatch block low old new
next_is block low old new first none of =
    let parts : rdfs_between low old.end block ≡ first.r ∷ rdfs_between low new.end block =
    first.parts ∙ ap (λ (k : ℕ). first.r ∷ rdfs_between low k block) (sym of.place) in
    let more = batch_more block low old new first.r none parts first.valid of.left of.len of.live in
    record {
      some = more.0;
      marks = more.1;
      lent = subst (λ (k : ℕ). AreLent block low k) (sym of.place) first.rest;
      bytes = more.2;
    }

first_said : (block : List ℕ) (low end : ℕ) → AreLent block low end → (first : First block low end)
    → Said block end first.r
first_said block low end lent first =
    said block (take first.at block) end first.r (omega (arith, lent.within)) first.bytes

-- an RDF that is not paired has flags below X'40'
pub next_single : (block : List ℕ) (low : ℕ) (old new : Batch) → AreLent block low old.end
    → old.left ≡ 0 → (old.end ≡ low → ⊥)
    → byte block (old.end - 3) < 64
    → new ≡ record {
      end = old.end - 3;
      left = 1;
      length = byte block (old.end - 2) * 256 + byte block (old.end - 1);
      live = nat_eq (bit_and (byte block (old.end - 3)) 4) 0;
    }
    → IsNextBatch block low old new
next_single block low old new lent none some flags is =
    let first = first_of low old.end block lent some in
    next_is block low old new first none
    (of first.r first.at first.width (first_said block low old.end lent first))
  where
    of : (r : Rdf) (at : ℕ) → at + length (rdf_bytes r) ≡ old.end → Said block old.end r
        → IsOf r at new
    of (Single live n) at width says = record {
      place = ap (λ (b : Batch). b.end) is ∙ omega (arith, width);
      left = ap (λ (b : Batch). b.left) is;
      len = ap (λ (b : Batch). b.length) is ∙ says.1;
      live = ap (λ (b : Batch). b.live) is ∙ ap (λ (k : ℕ). nat_eq (bit_and k 4) 0) says.0
          ∙ sym (single_live live);
    }
    of (Run n count) at width says = absurd (omega (arith, flags, says.0))
    of (Segment piece live number n) at width says = absurd (omega (arith, flags, says.0))

-- the right half of a segment's pair has flags above X'40'
pub next_segment : (block : List ℕ) (low : ℕ) (old new : Batch) → AreLent block low old.end
    → old.left ≡ 0 → (old.end ≡ low → ⊥)
    → 64 < byte block (old.end - 3)
    → new ≡ record {
      end = old.end - 6;
      left = 1;
      length = byte block (old.end - 2) * 256 + byte block (old.end - 1);
      live = nat_eq (bit_and (byte block (old.end - 3)) 4) 0;
    }
    → IsNextBatch block low old new
next_segment block low old new lent none some flags is =
    let first = first_of low old.end block lent some in
    next_is block low old new first none
    (of first.r first.at first.width (first_said block low old.end lent first))
  where
    of : (r : Rdf) (at : ℕ) → at + length (rdf_bytes r) ≡ old.end → Said block old.end r
        → IsOf r at new
    of (Single live n) at width says = absurd (omega (arith, flags, says.0, single_low live))
    of (Run n count) at width says = absurd (omega (arith, flags, says.0))
    of (Segment piece live number n) at width says = record {
      place = ap (λ (b : Batch). b.end) is ∙ omega (arith, width);
      left = ap (λ (b : Batch). b.left) is;
      len = ap (λ (b : Batch). b.length) is ∙ says.1;
      live = ap (λ (b : Batch). b.live) is ∙ ap (λ (k : ℕ). nat_eq (bit_and k 4) 0) says.0
          ∙ sym (segment_live piece live);
    }

-- and that of a run's pair has X'40' alone
pub next_run : (block : List ℕ) (low : ℕ) (old new : Batch) → AreLent block low old.end
    → old.left ≡ 0 → (old.end ≡ low → ⊥)
    → byte block (old.end - 3) ≡ 64
    → new ≡ record {
      end = old.end - 6;
      left = byte block (old.end - 5) * 256 + byte block (old.end - 4);
      length = byte block (old.end - 2) * 256 + byte block (old.end - 1);
      live =
          nat_eq (bit_and (byte block (old.end - 3)) 4) 0;
    }
    → IsNextBatch block low old new
next_run block low old new lent none some flags is =
    let first = first_of low old.end block lent some in
    next_is block low old new first none
    (of first.r first.at first.width (first_said block low old.end lent first))
  where
    of : (r : Rdf) (at : ℕ) → at + length (rdf_bytes r) ≡ old.end → Said block old.end r
        → IsOf r at new
    of (Single live n) at width says = absurd (omega (arith, flags, says.0, single_low live))
    of (Run n count) at width says = record {
      place = ap (λ (b : Batch). b.end) is ∙ omega (arith, width);
      left = ap (λ (b : Batch). b.left) is ∙ says.2
          ∙ sym (length-replicate count (let m : Mark = record { live = true; len = n } in m));
      len = ap (λ (b : Batch). b.length) is ∙ says.1;
      live = ap (λ (b : Batch). b.live) is ∙ ap (λ (k : ℕ). nat_eq (bit_and k 4) 0) flags;
    }
    of (Segment piece live number n) at width says =
        absurd (omega (arith, flags, says.0, segment_high piece live))

-- a pair has six bytes
pub pair_wide : (block : List ℕ) (low end : ℕ) → AreLent block low end → (end ≡ low → ⊥)
    → 64 ≤ byte block (end - 3) → 6 ≤ end
pair_wide block low end lent some high =
    let first = first_of low end block lent some in
    wide first.r first.at first.width (first_said block low end lent first)
  where
    wide : (r : Rdf) (at : ℕ) → at + length (rdf_bytes r) ≡ end → Said block end r → 6 ≤ end
    wide (Single live n) at width says = absurd (omega (arith, high, says.0, single_low live))
    wide (Run n count) at width says = omega (arith, width)
    wide (Segment piece live number n) at width says = omega (arith, width)

-- one item is lent, and the others are left
pub next_items : (block : List ℕ) (low : ℕ) (old new rest : Batch) (offset : ℕ) → 0 < new.left
    → marks_left block low new ≡ marks_left block low old
    → rest ≡ record new { left = new.left - 1 }
    → items_left block low old offset ≡
    (let i : Item = record { bytes = take new.length (drop offset block); live = new.live } in
    i) ∷ items_left block low rest (offset + new.length)
next_items block low old new rest offset some same rest_is =
    let m : Mark = record { live = new.live; len = new.length } in
    let behind : List Mark = flat_map marks (rdfs_between low new.end block) in
    let one : new.left ≡ suc (new.left - 1) = omega arith in
    let first : marks_left block low new ≡ m ∷ (replicate (new.left - 1) m ++ behind) =
    ap (λ (k : ℕ). replicate k m ++ behind) one in
    let further : drop new.length (drop offset block) ≡ drop (offset + new.length) block =
    drop-drop new.length offset block in
    ap (λ (x : List Mark). items_at x (drop offset block)) (sym same ∙ first)
    ∙ ap (λ (x : List ℕ). (let i : Item = record {
      bytes = take new.length (drop offset block);
      live = new.live;
    } in i) ∷ items_at (replicate (new.left - 1) m ++ behind) x) further
    ∙ ap (λ (b : Batch). (let i : Item = record {
      bytes = take new.length (drop offset block);
      live = new.live;
    } in i) ∷ items_left block low b (offset + new.length)) (sym rest_is)

-- what is left stays in the block
pub lend_in : (block : List ℕ) (low : ℕ) (old new : Batch) (offset : ℕ) → AreIn block low old offset
    → 0 < new.left → AreLent block low new.end
    → new.left * new.length + spans (rdfs_between low new.end block) ≡ old.left * old.length + spans
    (rdfs_between low old.end block)
    → AreIn block low (record new { left = new.left - 1 }) (offset + new.length)
    × (offset + new.length ≤ length block)
lend_in block low old new offset inside some lent same =
    let step : new.left * new.length ≡ (new.left - 1) * new.length + new.length =
    split new.left new.length some in (
      record { lent = lent; bytes = omega (arith, inside.bytes, same, step) },
      omega (arith, inside.bytes, same, step),
    )
  where
    split : (k n : ℕ) → 0 < k → k * n ≡ (k - 1) * n + n
    split zero n some = absurd (omega arith)
    split (suc k) n some = let suc_is : suc k - 1 ≡ k = omega arith in rw suc_is (omega arith)

pub part_of : (block : List ℕ) (offset n : ℕ)
    → take (offset + n - offset) (drop offset block) ≡ take n (drop offset block)
part_of block offset n = let offset_is : offset + n - offset ≡ n = omega arith in
    ap (λ (k : ℕ). take k (drop offset block)) offset_is
