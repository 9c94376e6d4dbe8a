-- What is wrong with the lengths, once the whole chain is read; an end of file.
use Rattle.vr_ci_match.specs.declared.form.Shape.TheVariants as shapes
use Rattle.std.proofs.Common.{◌≡◌, ℕ, zero, suc, ◌+◌, ◌-◌, ◌*◌, ◌/◌, ◌<◌, ◌≤◌, inl, inr, Bool, List}
use Rattle.std.proofs.Common.{[], ◌∷◌, ◌++◌, length, take, drop, Option, Some, None, refl, sym, ap}
use Rattle.std.proofs.Common.{◌∙◌, subst, arith, append_assoc, length-append, length-take}
use Rattle.std.proofs.Common.{length-drop}
use Rattle.std.specs.Prelude.{MatchOption}
use Rattle.std.specs.Option.{option_or}
use Rattle.std.proofs.lemmas.List.{take-replicate, replicate-append-replicate, take-append-drop}
use Rattle.vr_ci_match.specs.declared.form.Form.{Form}
use Rattle.vr_ci_match.specs.declared.rdf.Rdf.{Rdf}
use Rattle.vr_ci_match.specs.declared.tally.Tally.{Tally}
use Rattle.vr_ci_match.specs.Rdf.{spans, control, shape_of, shape_by}
use Rattle.vr_ci_match.specs.Laid.{padded, cidf, control_at, laid}
use Rattle.vr_ci_match.specs.Compare.{DifferFirst, Compares}
use Rattle.vr_ci_match.specs.Fault.{displacement, free_length, free_end, is_busy, IsWhole, masked}
use Rattle.vr_ci_match.specs.Fault.{described, rdfs_room, IsRoomKept, IsRoomPassed, HasRightLengths}
use Rattle.vr_ci_match.specs.Fault.{HasWrongLengths, cidf_at, HasZeroCidf}
use Rattle.vr_ci_match.specs.Layout.{slot_length, data_end}
use Rattle.vr_ci_match.specs.Tally.{judged, IsCompared, IsTally}
use Rattle.vr_ci_match.proofs.RdfLemmas.{control-append, control_thirds}
use Rattle.vr_ci_match.proofs.LayoutLemmas.{zeros, length-padded, byte, at_drop}
use Rattle.vr_ci_match.proofs.ChainLemmas.{shape_by_last}
use Rattle.vr_ci_match.proofs.CompareLemmas.{in_data, in_control, in_cidf, cidf_is}
use Rattle.vr_ci_match.proofs.ComparedLemmas.{spans-append, empties, control-empties, spans-empties}
use Rattle.vr_ci_match.proofs.ComparedLemmas.{masked-empties, masked-append}
use Rattle.vr_ci_match.proofs.JudgedLemmas.{Ends, ends}

-- RDFs that are all that the CIDF leaves place for end at the CIDF
pub whole_end : (form : Form) (block : List ℕ) (rs : List Rdf) → 512 ≤ length block
    → IsWhole form block rs → length (control rs) + control_at (length block) rs ≡ cidf_at block
whole_end form block rs least whole =
    let upto : List ℕ = take (cidf_at block) block in
    omega (
      arith,
      ap length whole.right.bytes,
      length-drop (control_at (length block) rs) upto,
      length-take (cidf_at block) block,
      whole.right.high,
      least,
    )

-- where the RDFs begin that the CIDF leaves place for
pub start_is : (form : Form) (block : List ℕ) (rs : List Rdf) (limit : ℕ)
    → 512 ≤ length block → IsWhole form block rs
    → limit ≡ length block - 4 - (length block - 4 - free_end block) / 3 * 3
    → limit ≡ control_at (length block) rs
start_is form block rs limit least is_whole limit_is =
    let thirds = control_thirds rs in
    omega (
      arith,
      whole_end form block rs least is_whole,
      thirds.1,
      is_whole.right.low,
      is_whole.whole,
      limit_is,
    )

-- ---- an end of file

four_zeros : (xs : List ℕ) → length xs ≡ 4 → byte xs 0 ≡ 0 → byte xs 1 ≡ 0 → byte xs 2 ≡ 0
    → byte xs 3 ≡ 0 → xs ≡ zeros 4
four_zeros [] long same equal alike matching = absurd cc
four_zeros (w ∷ []) long same equal alike matching = absurd cc
four_zeros (w ∷ x ∷ []) long same equal alike matching = absurd cc
four_zeros (w ∷ x ∷ y ∷ []) long same equal alike matching = absurd cc
four_zeros (w ∷ x ∷ y ∷ z ∷ []) long same equal alike matching = cc
four_zeros (w ∷ x ∷ y ∷ z ∷ v ∷ vs) long same equal alike matching = absurd (omega (arith, long))

pub all_zeros : (block : List ℕ) → 512 ≤ length block → HasZeroCidf block
    → take (length block - 4 - 0) (drop 0 block) ≡ zeros (length block - 4 - 0)
    → block ≡ zeros (length block)
all_zeros block least zero_cidf same =
    let at : ℕ = length block - 4 in
    let none : length block - 4 - 0 ≡ at = omega arith in
    let front : take at block ≡ zeros at = ap (λ (k : ℕ). take k block) (sym none) ∙ same
    ∙ ap zeros none in
    let n0 : at + 0 ≡ at = omega arith in
    let n3 : at + 3 ≡ at + 2 + 1 = omega arith in
    let b0 : byte (drop at block) 0 ≡ 0 = sym (at_drop block at 0) ∙ ap (byte block) n0
    ∙ omega (arith, zero_cidf.0) in
    let b1 : byte (drop at block) 1 ≡ 0 = sym (at_drop block at 1) ∙ omega (arith, zero_cidf.0) in
    let b2 : byte (drop at block) 2 ≡ 0 = sym (at_drop block at 2) ∙ omega (arith, zero_cidf.1) in
    let b3 : byte (drop at block) 3 ≡ 0 = sym (at_drop block at 3) ∙ ap (byte block) n3
    ∙ omega (arith, zero_cidf.1) in
    let tail : drop at block ≡ zeros 4 =
    four_zeros (drop at block) (omega (arith, length-drop at block, least)) b0 b1 b2 b3 in
    let sum : at + 4 ≡ length block = omega (arith, least) in
    sym (take-append-drop at block) ∙ ap (λ (x : List ℕ). x ++ drop at block) front
    ∙ ap (λ (x : List ℕ). zeros at ++ x) tail ∙ replicate-append-replicate at 4 0 ∙ ap zeros sum

at_zero : (xs ys : List ℕ) (at : ℕ) → Compares 0 xs ys (Some at) → DifferFirst xs ys at
at_zero xs ys at difference = let same : at - 0 ≡ at = omega arith in
    subst (λ (k : ℕ). DifferFirst xs ys k) same difference.1

-- zeros after the bytes change nothing, since zeros follow
padded-zeros : (f k : ℕ) (xs : List ℕ) → padded f (xs ++ zeros k) ≡ padded f xs
padded-zeros f k xs =
    ap (λ (x : List ℕ). take f x) (append_assoc xs (zeros k) (zeros f)
    ∙ ap (λ (x : List ℕ). xs ++ x) (replicate-append-replicate k f 0)) ∙ longer xs f (omega arith)
  where
    longer : (ys : List ℕ) (j : ℕ) → j ≤ length ys + f
        → take j (ys ++ zeros (k + f)) ≡ take j (ys ++ zeros f)
    longer [] j within = take-replicate j (k + f) 0 (omega (arith, within))
        ∙ sym (take-replicate j f 0 (omega (arith, within)))
    longer (y ∷ ys) zero within = refl
    longer (y ∷ ys) (suc j) within =
        ap (λ (x : List ℕ). y ∷ x) (longer ys j (omega (arith, within)))

-- the block that is described, in its parts
parts : (form : Form) (block : List ℕ) (rs : List Rdf) (limit empty : ℕ) → 4 ≤ length block
    → Ends form block rs limit empty →
    let ms = judged form (length block) rs in
    let span = spans ms + empty * slot_length form in
    described form block rs ≡ (padded limit (masked ms block)
    ++ control (ms ++ empties empty (slot_length form))) ++ cidf span (limit - span) (is_busy block)
parts form block rs limit empty least ending =
    let ms = judged form (length block) rs in
    let len = slot_length form in
    let all : List Rdf = ms ++ empties empty len in
    let tail = control-empties empty len in
    let place : control_at (length block) all ≡ limit =
    omega (
      arith,
      ending.place,
      ap length (control-append ms (empties empty len)),
      length-append (control (empties empty len)) (control ms),
      tail,
    ) in
    let span : spans all ≡ spans ms + empty * len =
    omega (arith, spans-append ms (empties empty len), spans-empties empty len) in
    let bytes : masked all block ≡ masked ms block ++ zeros (empty * len) =
    masked-append ms (empties empty len) block
    ∙ ap (λ (x : List ℕ). masked ms block ++ x) (masked-empties empty len (drop (spans ms) block))
    in
    ap (λ (x : List Rdf). laid (length block) (masked x block) x (is_busy block)) ending.all
    ∙ ap (λ (x : List ℕ). laid (length block) x all (is_busy block)) bytes
    ∙ ap (λ (k : ℕ). (padded k (masked ms block ++ zeros (empty * len)) ++ control all)
    ++ cidf (spans all) (k - spans all) (is_busy block)) place
    ∙ ap (λ (x : List ℕ). (x ++ control all)
    ++ cidf (spans all) (limit - spans all) (is_busy block))
    (padded-zeros limit (empty * len) (masked ms block))
    ∙ ap (λ (k : ℕ). (padded limit (masked ms block) ++ control all)
    ++ cidf k (limit - k) (is_busy block)) span

-- ---- the exits

differs : (form : Form) (block : List ℕ) (rs : List Rdf) (limit empty at : ℕ) → 4 ≤ length block
    → Ends form block rs limit empty →
    let ms = judged form (length block) rs in
    let span = spans ms + empty * slot_length form in
    Compares 0 block ((padded limit (masked ms block)
    ++ control (ms ++ empties empty (slot_length form)))
    ++ cidf span (limit - span) (is_busy block)) (Some at)
    → HasWrongLengths form block rs at
differs form block rs limit empty at least ending given =
    let ms = judged form (length block) rs in
    let span = spans ms + empty * slot_length form in
    let whole : List ℕ = (padded limit (masked ms block)
    ++ control (ms ++ empties empty (slot_length form)))
    ++ cidf span (limit - span) (is_busy block) in
    inl (subst (λ (x : List ℕ). DifferFirst block x at)
    (sym (parts form block rs limit empty least ending)) (at_zero block whole at given))

sums : (form : Form) (block : List ℕ) (rs : List Rdf) (limit empty : ℕ)
    → Ends form block rs limit empty
    → limit + length (control (judged form (length block) rs ++ empties empty (slot_length form))) ≡
    length block - 4
sums form block rs limit empty ending =
    let ms = judged form (length block) rs in
    let es = empties empty (slot_length form) in
    omega (
      arith,
      ending.place,
      ap length (control-append ms es),
      length-append (control es) (control ms),
      control-empties empty (slot_length form),
    )

pub lengths_data : (form : Form) (block : List ℕ) (rs : List Rdf) (limit empty at : ℕ)
    → 4 ≤ length block → Ends form block rs limit empty
    → Compares 0 (take limit block) (padded limit (masked (judged form (length block) rs) block))
    (Some at) → HasWrongLengths form block rs at
lengths_data form block rs limit empty at least ending difference =
    let ms = judged form (length block) rs in
    let span = spans ms + empty * slot_length form in
    differs form block rs limit empty at least ending
    (in_data block (padded limit (masked ms block))
    (control (ms ++ empties empty (slot_length form))) (cidf span (limit - span) (is_busy block))
    limit at
    (length-padded limit (masked ms block)) (omega (arith, ending.place)) difference)

pub lengths_control : (form : Form) (block : List ℕ) (rs : List Rdf) (limit empty at : ℕ)
    → 4 ≤ length block → Ends form block rs limit empty
    → take limit block ≡ padded limit (masked (judged form (length block) rs) block)
    → Compares limit (drop limit (take (length block - 4) block))
    (control (judged form (length block) rs ++ empties empty (slot_length form))) (Some at)
    → HasWrongLengths form block rs at
lengths_control form block rs limit empty at least ending front difference =
    let ms = judged form (length block) rs in
    let span = spans ms + empty * slot_length form in
    differs form block rs limit empty at least ending
    (in_control block (padded limit (masked ms block))
    (control (ms ++ empties empty (slot_length form))) (cidf span (limit - span) (is_busy block))
    limit (length block - 4) at
    (length-padded limit (masked ms block)) (omega arith) (sums form block rs limit empty ending)
    front difference)

pub lengths_end : (form : Form) (block : List ℕ) (rs : List Rdf) (limit empty wide free : ℕ)
    (tally : Tally) (d : Option ℕ) → 4 ≤ length block → Ends form block rs limit empty
    → IsTally form block rs tally
    → take limit block ≡ padded limit (masked (judged form (length block) rs) block)
    → drop limit (take (length block - 4) block) ≡ control (judged form (length block) rs
    ++ empties empty (slot_length form))
    → wide ≡ tally.compared.span + empty * slot_length form → free ≡ limit - wide
    → Compares (length block - 4) (drop (length block - 4) block) (cidf wide free (is_busy block)) d
    → MatchOption (option_or d tally.passed) (HasRightLengths form block rs)
    (HasWrongLengths form block rs)
lengths_end form block rs limit empty wide free tally d least ending tallied front rdfs sum left
    difference = by_difference d c'
  where
    ms : List Rdf
    ms = judged form (length block) rs

    span : ℕ
    span = spans (judged form (length block) rs) + empty * slot_length form

    whole : List ℕ
    whole = (padded limit (masked ms block) ++ control (ms ++ empties empty (slot_length form)))
        ++ cidf span (limit - span) (is_busy block)

    width : wide ≡ spans (judged form (length block) rs) + empty * slot_length form
    width = sum ∙ ap (λ (k : ℕ). k + empty * slot_length form) tallied.compared.span

    c' : Compares 0 block whole d
    c' =
        in_cidf block (padded limit (masked ms block))
        (control (ms ++ empties empty (slot_length form)))
        (cidf span (limit - span) (is_busy block)) limit (length block - 4) d
        (length-padded limit (masked ms block)) (omega arith)
        (sums form block rs limit empty ending) front rdfs
        (subst (λ (k : ℕ). Compares (length block - 4) (drop (length block - 4) block)
        (cidf k (limit - k) (is_busy block)) d) width
        (subst (λ (k : ℕ). Compares (length block - 4) (drop (length block - 4) block)
        (cidf wide k (is_busy block)) d) left difference))

    same : block ≡ whole → block ≡ described form block rs
    same equal = equal ∙ sym (parts form block rs limit empty least ending)

    by_room : (o : Option ℕ) → block ≡ whole
        → MatchOption o ((tally.room ≡ rdfs_room rs)
        × IsRoomKept form (length block) rs) (IsRoomPassed form (length block) rs)
        → MatchOption o (HasRightLengths form block rs) (HasWrongLengths form block rs)
    by_room None equal matched = record { same = same equal; room = matched.1 }
    by_room (Some at) equal matched = inr (same equal, matched)

    by_difference : (o : Option ℕ) → Compares 0 block whole o
        → MatchOption (option_or o tally.passed) (HasRightLengths form block rs)
        (HasWrongLengths form block rs)
    by_difference (Some at) difference =
        differs form block rs limit empty at least ending difference
    by_difference None difference = by_room tally.passed difference tallied.passed

pub limit_is : (form : Form) (block : List ℕ) (rs : List Rdf) (tally : Tally) (limit : ℕ)
    → IsWhole form block rs → IsTally form block rs tally
    → limit ≡ data_end form (length block) (free_end block) (shape_by tally.last)
    → data_end form (length block) (free_end block) (shape_of rs) ≡ limit
limit_is form block rs tally limit whole tallied same =
    sym (same ∙ ap (λ x. data_end form (length block) (free_end block) x)
    (shape_by_last form rs whole.right.chain tally.last tallied.last))

pub ends_are : (form : Form) (block : List ℕ) (rs : List Rdf) (tally : Tally) (limit empty : ℕ)
    → 512 ≤ length block → IsWhole form block rs → IsTally form block rs tally
    → limit ≡ data_end form (length block) (free_end block) (shape_by tally.last)
    → empty ≡ (tally.compared.from - limit) / 3 → Ends form block rs limit empty
ends_are form block rs tally limit empty least whole tallied same empty_is =
    ends form block rs tally.compared.from limit empty least whole.right.chain
    (whole_end form block rs least whole) tallied.compared.from
    (sym (limit_is form block rs tally limit whole tallied same))
    (λ p. start_is form block rs (data_end form (length block) (free_end block) shapes.Records) least
    whole (ap (λ (g : Form). data_end g (length block) (free_end block) shapes.Records) p)) empty_is

pub compared_is : (form : Form) (block : List ℕ) (rs : List Rdf) (tally : Tally) (limit : ℕ)
    → IsWhole form block rs → IsTally form block rs tally
    → limit ≡ data_end form (length block) (free_end block) (shape_by tally.last)
    → IsCompared block limit (judged form (length block) rs) tally.compared
compared_is form block rs tally limit whole tallied same =
    subst (λ (k : ℕ). IsCompared block k (judged form (length block) rs) tally.compared)
    (limit_is form block rs tally limit whole tallied same) tallied.compared

pub place_empty : (form : Form) (block : List ℕ) (rs : List Rdf) (limit empty : ℕ)
    → Ends form block rs limit empty
    → limit + 3 * empty ≡ control_at (length block) (judged form (length block) rs)
place_empty form block rs limit empty ending = omega (arith, ending.place)

-- the block's own CIDF beside another one
pub cidf_here : (block : List ℕ) (d f wide free : ℕ) (busy : Bool) (r : Option ℕ) → 4 ≤ length block
    → ((i : ℕ) → byte block i < 256)
    → d ≡ displacement block → f ≡ free_length block → busy ≡ is_busy block
    → Compares (length block - 4) (cidf d f busy) (cidf wide free busy) r
    → Compares (length block - 4) (drop (length block - 4) block) (cidf wide free (is_busy block)) r
cidf_here block d f wide free busy r least small same equal flag difference =
    subst (λ (x : List ℕ). Compares (length block - 4) x (cidf wide free (is_busy block)) r)
    (sym (cidf_is block least small))
    (subst (λ (b : Bool). Compares (length block - 4)
    (cidf (displacement block) (free_length block) b) (cidf wide free b) r) flag
    (subst (λ (k : ℕ). Compares (length block - 4) (cidf (displacement block) k busy)
    (cidf wide free busy) r) equal
    (subst (λ (k : ℕ). Compares (length block - 4) (cidf k f busy) (cidf wide free busy) r) same
    difference)))
