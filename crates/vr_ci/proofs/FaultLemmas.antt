-- A block with a fault is no control interval.
use Rattle.vr_ci_match.specs.declared.fault.CiFault.TheVariants as faults
use Rattle.std.proofs.Common.{◌≡◌, ℕ, ◌+◌, ◌-◌, ◌/◌, ◌%◌, ◌≤◌, inl, inr, Bool, true, false, List}
use Rattle.std.proofs.Common.{[], ◌∷◌, ◌++◌, length, take, drop, None, refl, sym, ap, ◌∙◌, subst}
use Rattle.std.proofs.Common.{arith, append_assoc, length-append, length-take, length-drop}
use Rattle.std.specs.Prelude.{slice_index, bit_and}
use Rattle.std.proofs.lemmas.List.{drop_at, take-append-drop, take-take, get_or_at, get_or-take}
use Rattle.vr_ci_match.specs.declared.form.Form.{Form}
use Rattle.vr_ci_match.specs.declared.form.Form.TheVariants.{Plain, Slots}
use Rattle.vr_ci_match.specs.declared.form.Piece.{Piece}
use Rattle.vr_ci_match.specs.declared.form.Piece.TheVariants.{First, Inner, Last}
use Rattle.vr_ci_match.specs.declared.rdf.Rdf.{Rdf}
use Rattle.vr_ci_match.specs.declared.rdf.Rdf.TheVariants.{Single, Run, Segment}
use Rattle.vr_ci_match.specs.declared.fault.CiFault.{CiFault}
use Rattle.vr_ci_match.specs.Rdf.{two_bytes, withdrawn_bit, segment_bits, rdf_bytes, control}
use Rattle.vr_ci_match.specs.Rdf.{IsChain}
use Rattle.vr_ci.specs.Interval.{Interval, IsInterval}
use Rattle.vr_ci_match.specs.Laid.{control_at}
use Rattle.vr_ci_match.specs.Fault.{cidf_at, free_end, HasZeroCidf, IsCidfSound, IsUnit, IsBroken}
use Rattle.vr_ci_match.specs.Fault.{IsWhole, described, rdfs_room, IsRoomPassed, HasWrongLengths}
use Rattle.vr_ci_match.specs.Fault.{IsFirstMismatch}
use Rattle.vr_ci.specs.FirstFault.{IsFirstFault}
use Rattle.vr_ci_match.proofs.CallerLemmas.{control_prefix, control_thirds, control_same}
use Rattle.vr_ci_match.proofs.CallerLemmas.{chain-front, rdfs_room-append}
use Rattle.vr_ci.proofs.SizeLemmas.{size_bounds}
use Rattle.vr_ci.proofs.IntervalLemmas.{Laid, laid_says, free_end_is, not_zero, zero_block}
use Rattle.vr_ci.proofs.DescribedLemmas.{described_is, room_in}

-- the flags of an RDF that stands before an end: a pair's right half has X'40', and no other RDF
-- has
flags_single : (live : Bool) → bit_and (withdrawn_bit live) 64 ≡ 0
flags_single true = refl
flags_single false = refl

flags_segment : (piece : Piece) (live : Bool)
    → bit_and (64 + segment_bits piece + withdrawn_bit live) 64 ≡ 64
flags_segment First true = refl
flags_segment First false = refl
flags_segment Inner true = refl
flags_segment Inner false = refl
flags_segment Last true = refl
flags_segment Last false = refl

-- a byte before an end
byte_before : (block : List ℕ) (end : ℕ) (p : List ℕ) (x y z : ℕ) → end ≤ length block
    → take end block ≡ p ++ x ∷ y ∷ z ∷ [] → slice_index block (end - 3) ≡ x
byte_before block end p x y z within end_is =
    let long : length p + 3 ≡ end =
    omega (arith, ap length end_is, length-append p (x ∷ y ∷ z ∷ []), length-take end block) in
    sym (get_or-take end block (end - 3) 0 (omega (arith, long)))
    ∙ ap (λ (b : List ℕ). slice_index b (end - 3)) end_is
    ∙ get_or_at p x (y ∷ z ∷ []) 0 (end - 3) (omega (arith, long))

-- an RDF, or a pair, that stands before an end is what the place of a unit says
pub unit_of : (low : ℕ) (block : List ℕ) (end at : ℕ) (p : List ℕ) (r : Rdf) → end ≤ length block
    → take end block ≡ p ++ rdf_bytes r → low ≤ length p → IsUnit low block end at → length p ≡ at
unit_of low block end at p (Single live n) within end_is fits_in unit =
    let flags = byte_before block end p (withdrawn_bit live) (n / 256) (n % 256) within end_is in
    elim unit [
      | inl branch ↦ absurd (branch.2 (ap (λ (x : ℕ). bit_and x 64) flags
          ∙ flags_single live))
      | inr branch ↦ omega (
        arith,
        branch.0,
        ap length end_is,
        length-append p (rdf_bytes (Single live n)),
        length-take end block,
      )
    ]
unit_of low block end at p (Run n k) within end_is fits_in unit =
    let flags = byte_before block end (p ++ 8 ∷ two_bytes k) 64 (n / 256) (n % 256) within (end_is
    ∙ sym (append_assoc p (8 ∷ two_bytes k) (64 ∷ two_bytes n))) in
    let long : length p + 6 ≡ end =
    omega (arith, ap length end_is, length-append p (rdf_bytes (Run n k)), length-take end block) in
    elim unit [
      | inl branch ↦ omega (arith, branch.0, long)
      | inr branch ↦ absurd (let same : 64 ≡ 0 = sym (ap (λ (x : ℕ). bit_and x 64) flags)
          ∙ branch.2 (omega (arith, long)) in cc)
    ]
unit_of low block end at p (Segment piece live number n) within end_is fits_in unit =
    let left = (8 + segment_bits piece + withdrawn_bit live) ∷ two_bytes number in
    let flags = byte_before block end (p ++ left) (64 + segment_bits piece + withdrawn_bit live)
    (n / 256) (n % 256) within (end_is
    ∙ sym (append_assoc p left ((64 + segment_bits piece + withdrawn_bit live) ∷ two_bytes n))) in
    let long : length p + 6 ≡ end =
    omega (
      arith,
      ap length end_is,
      length-append p (rdf_bytes (Segment piece live number n)),
      length-take end block,
    ) in
    elim unit [
      | inl branch ↦ omega (arith, branch.0, long)
      | inr branch ↦ absurd (let same : 64 ≡ 0 = sym (ap (λ (x : ℕ). bit_and x 64) flags
          ∙ flags_segment piece live) ∙ branch.2 (omega (arith, long)) in cc)
    ]

-- an interval with RDFs is laid out
laid_of : (form : Form) (block : List ℕ) (value : Interval) → (HasZeroCidf block → ⊥)
    → IsInterval form block value → Laid form block value
laid_of form block value some interval =
    elim interval.laid [
      | inl branch ↦ laid_says form block value interval.size interval.fits
          branch
      | inr branch ↦ absurd (some (zero_block block branch.1))
    ]

-- before the CIDF, cut where a chain begins
pub cut : (block : List ℕ) (at : ℕ) (rs : List Rdf)
    → drop at (take (cidf_at block) block) ≡ control rs
    → take at (take (cidf_at block) block) ++ control rs ≡ take (cidf_at block) block
cut block at rs cidf_at_is =
    ap (λ (b : List ℕ). take at (take (cidf_at block) block) ++ b) (sym cidf_at_is)
    ∙ take-append-drop at (take (cidf_at block) block)

not_broken : (form : Form) (block : List ℕ) (value : Interval) → (l : Laid form block value)
    → 512 ≤ length block → (at : ℕ) → IsBroken form block at → ⊥
not_broken form block value l least at broken =
    let top = cidf_at block in
    let f = control_at (length block) l.rdfs in
    let upto : List ℕ = take top block in
    let free = free_end_is l in
    let whole : length upto ≡ top = omega (arith, length-take top block, least) in
    let long : length (control broken.rdfs) + broken.end ≡ top =
    omega (
      arith,
      ap length broken.right.bytes,
      length-drop broken.end upto,
      whole,
      broken.right.high,
    ) in
    let fit : length (control broken.rdfs) ≤ length (control l.rdfs) =
    omega (arith, long, broken.right.low, free, l.place) in
    let more = control_prefix broken.rdfs l.rdfs (take broken.end upto) (take f upto) fit
    (cut block broken.end broken.rdfs broken.right.bytes ∙ sym (cut block f l.rdfs l.control)) in
    no_more more.0 more.1 more.2 long
  where
    up : List ℕ
    up = take (cidf_at block) block

    low : ℕ
    low = control_at (length block) l.rdfs

    short : take broken.end up ≡ take broken.end block
    short = take-take broken.end (cidf_at block) block broken.right.high

    whole_up : length up ≡ cidf_at block
    whole_up = omega (arith, length-take (cidf_at block) block, least)

    room : free_end block ≤ at
    room = elim broken.unit [ inl branch ↦ branch.1 | inr branch ↦ branch.1 ]

    below : at + 3 ≤ broken.end
    below = elim broken.unit [
      | inl branch ↦ omega (
        arith,
        branch.0,
      )
      | inr branch ↦ omega (arith, branch.0)
    ]

    no_more : (ts : List Rdf) → l.rdfs ≡ broken.rdfs ++ ts
        → take broken.end up ≡ take low up ++ control ts
        → length (control broken.rdfs) + broken.end ≡ cidf_at block → ⊥
    no_more [] rdfs_is end_is long =
        omega (
          arith,
          ap length end_is,
          length-append (take low up) [],
          length-take broken.end up,
          length-take low up,
          whole_up,
          broken.right.high,
          room,
          below,
          free_end_is l,
        )
    no_more (t ∷ ts) rdfs_is end_is long =
        let p : List ℕ = take low up ++ control ts in
        let parts : take broken.end block ≡ p ++ rdf_bytes t = sym short ∙ end_is
        ∙ sym (append_assoc (take low up) (control ts) (rdf_bytes t)) in
        let least_p : free_end block ≤ length p =
        omega (
          arith,
          length-append (take low up) (control ts),
          length-take low up,
          whole_up,
          free_end_is l,
        ) in
        let place : length p ≡ at =
        unit_of (free_end block) block broken.end at p t (omega (arith, broken.right.high, least))
        parts least_p broken.unit in
        let split : l.rdfs ≡ (broken.rdfs ++ t ∷ []) ++ ts = rdfs_is
        ∙ sym (append_assoc broken.rdfs (t ∷ []) ts) in
        let chain : IsChain form (broken.rdfs ++ t ∷ []) =
        chain-front form None (broken.rdfs ++ t ∷ []) ts
        (subst (λ (x : List Rdf). IsChain form x) split l.chain) in
        let here : rdf_bytes t ≡ drop at (take broken.end block) =
        sym (ap (λ (x : List ℕ). drop at x) parts ∙ drop_at p (rdf_bytes t) at place) in
        broken.none t chain here

-- the whole chain that a block's bytes say is the interval's
pub whole_chain : (form : Form) (block : List ℕ) (value : Interval) → (l : Laid form block value)
    → 512 ≤ length block → (rs : List Rdf) → IsWhole form block rs → rs ≡ l.rdfs
whole_chain form block value l least rs is_whole =
    let n = length block in
    let upto : List ℕ = take (cidf_at block) block in
    let whole : length upto ≡ cidf_at block =
    omega (arith, length-take (cidf_at block) block, least) in
    let one = control_thirds rs in
    let two = control_thirds l.rdfs in
    let free = free_end_is l in
    let long : length (control rs) + control_at n rs ≡ cidf_at block =
    omega (
      arith,
      ap length is_whole.right.bytes,
      length-drop (control_at n rs) upto,
      whole,
      is_whole.right.high,
    ) in
    let same : length (control rs) ≡ length (control l.rdfs) =
    omega (arith, one.1, two.1, long, is_whole.right.low, is_whole.whole, free, l.place) in
    control_same rs l.rdfs (take (control_at n rs) upto) (take (control_at n l.rdfs) upto) same
    (cut block (control_at n rs) rs is_whole.right.bytes
    ∙ sym (cut block (control_at n l.rdfs) l.rdfs l.control))

not_wrong : (form : Form) (block : List ℕ) (value : Interval) → IsInterval form block value
    → (l : Laid form block value) → (rs : List Rdf) → IsWhole form block rs → (at : ℕ)
    → HasWrongLengths form block rs at → ⊥
not_wrong form block value interval l rs whole at wrong =
    let same : rs ≡ l.rdfs = whole_chain form block value l
    ((size_bounds (length block) interval.size).0) rs whole in
    let described_block : described form block rs ≡ block =
    ap (λ (x : List Rdf). described form block x) same
    ∙ described_is form block value interval.fits l in
    let room : rdfs_room rs ≤ length block - 4 =
    subst (λ (x : List Rdf). rdfs_room x ≤ length block - 4) (sym same)
    (room_in form block value interval.fits l) in
    elim wrong [
      | inl branch ↦ branch.here
          (ap (λ (x : List ℕ). slice_index x at) (sym described_block))
      | inr branch ↦ passed form rs room branch.1
    ]
  where
    passed : (form : Form) (rs : List Rdf) → rdfs_room rs ≤ length block - 4
        → IsRoomPassed form (length block) rs at → ⊥
    passed (Slots len) rs within branch = branch
    passed Plain rs within branch =
        omega (
          arith,
          branch.passes,
          within,
          ap rdfs_room branch.parts,
          rdfs_room-append branch.before (branch.r ∷ branch.more),
          rdfs_room-append branch.before (branch.r ∷ []),
        )

sound : (form : Form) (block : List ℕ) (value : Interval) → IsInterval form block value
    → IsCidfSound block
sound form block value interval =
    let least = (size_bounds (length block) interval.size).0 in
    elim interval.laid [
      | inl branch ↦
          let laid_says_here = laid_says form block value interval.size interval.fits branch in
          record {
            fits = omega (arith, free_end_is laid_says_here, laid_says_here.place);
            zeros = λ zero_block_here. absurd (not_zero laid_says_here least zero_block_here);
          }
      | inr branch ↦
          let zero_block_here = zero_block block branch.1 in
          record {
            fits = omega (arith, zero_block_here.0, zero_block_here.1);
            zeros = λ _. branch.1;
          }
    ]

mismatch_excludes : (form : Form) (block : List ℕ) (fault : CiFault) (value : Interval)
    → IsFirstMismatch form block fault → IsInterval form block value → ⊥
mismatch_excludes form block (faults.Size at) value mismatch interval = mismatch
mismatch_excludes form block (faults.Cidf at) value mismatch interval =
    mismatch.0 (sound form block value interval)
mismatch_excludes form block (faults.Chain at) value mismatch interval =
    not_broken form block value (laid_of form block value mismatch.0.some interval)
    ((size_bounds (length block) interval.size).0) at mismatch.1
mismatch_excludes form block (faults.Lengths at) value mismatch interval =
    not_wrong form block value interval (laid_of form block value mismatch.0.some interval)
    mismatch.1.0 mismatch.1.1 at mismatch.1.2

-- No fault is one of a control interval.
pub fault_excludes : (form : Form) (block : List ℕ) (fault : CiFault) (value : Interval)
    → IsFirstFault form block fault → IsInterval form block value → ⊥
fault_excludes form block fault value first_fault interval =
    elim first_fault [
      | inl size ↦ size.0 interval.size
      | inr rest ↦ mismatch_excludes form block fault value rest.1 interval
    ]
