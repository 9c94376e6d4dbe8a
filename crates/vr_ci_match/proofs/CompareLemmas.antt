-- Comparing a block part by part.
use Rattle.std.proofs.Common.{◌≡◌, ℕ, ◌+◌, ◌-◌, ◌*◌, ◌/◌, ◌%◌, ◌<◌, ◌≤◌, inl, inr, Bool, true}
use Rattle.std.proofs.Common.{false, List, [], ◌∷◌, ◌++◌, length, take, drop, Option, Some, None}
use Rattle.std.proofs.Common.{refl, sym, ap, ◌∙◌, subst, arith, append_assoc, length-append}
use Rattle.std.proofs.Common.{length-take, length-drop}
use Rattle.std.specs.Prelude.{if◌then◌else◌, slice_index, min, nat_le}
use Rattle.std.specs.List.{flat_map}
use Rattle.std.proofs.lemmas.Bool.{cases_lt, le-leb, lt-leb}
use Rattle.std.proofs.lemmas.List.{take_at, drop_at, drop-drop, drop-take, take-take}
use Rattle.std.proofs.lemmas.List.{take-append-drop, take-append-le, get_or_append_left}
use Rattle.std.proofs.lemmas.List.{get_or-append-add, take_all}
use Rattle.vr_ci_match.specs.declared.rdf.Rdf.{Rdf}
use Rattle.vr_ci_match.specs.Rdf.{Mark, marks, spans, two_bytes}
use Rattle.vr_ci_match.specs.Laid.{padded, cidf}
use Rattle.vr_ci_match.specs.Compare.{DifferFirst, Compares}
use Rattle.vr_ci_match.specs.Fault.{masked, cidf_at, displacement, free_field, free_length, is_busy}
use Rattle.vr_ci_match.proofs.MarkLemmas.{total, total-all, take-add, masked_marks, masked_is}
use Rattle.vr_ci_match.proofs.MarkLemmas.{length-masked_marks}
use Rattle.vr_ci_match.proofs.LayoutLemmas.{zeros, length-zeros, padded_fits, byte, at_drop}

-- the first elements of two lists, beyond those of the first
pub take-past : (n k : ℕ) (xs ys : List ℕ) → length xs ≡ n
    → take (n + k) (xs ++ ys) ≡ xs ++ take k ys
take-past n k xs ys long =
    take-add n k (xs ++ ys) ∙ ap (λ (x : List ℕ). x ++ take k (drop n (xs ++ ys)))
    (take_at xs ys n long) ∙ ap (λ (x : List ℕ). xs ++ take k x) (drop_at xs ys n long)

-- two neighbouring parts of a block
pub part_is : (block : List ℕ) (at end top : ℕ) → at ≤ end → end ≤ top
    → drop at (take top block) ≡ take (end - at) (drop at block) ++ drop end (take top block)
part_is block at end top within fits_in =
    let sum : at + (end - at) ≡ end = omega arith in
    sym (take-append-drop (end - at) (drop at (take top block)))
    ∙ ap (λ (x : List ℕ). x ++ drop (end - at) (drop at (take top block)))
    (sym (drop-take at (end - at) (take top block))
    ∙ ap (λ (k : ℕ). drop at (take k (take top block))) sum
    ∙ ap (λ (x : List ℕ). drop at x) (take-take end top block fits_in)
    ∙ ap (λ (k : ℕ). drop at (take k block)) (sym sum) ∙ drop-take at (end - at) block)
    ∙ ap (λ (x : List ℕ). take (end - at) (drop at block) ++ x)
    (drop-drop (end - at) at (take top block) ∙ ap (λ (k : ℕ). drop k (take top block)) sum)

-- they differ in their first parts
pub differ-left : (x1 x2 y1 y2 : List ℕ) (j : ℕ) → length x1 ≡ length y1 → DifferFirst x1 y1 j
    → DifferFirst (x1 ++ x2) (y1 ++ y2) j
differ-left x1 x2 y1 y2 j long differs =
    let low : j < length y1 = omega (arith, differs.within, long) in
    record {
      before = take-append-le j x1 x2 (omega (arith, differs.within)) ∙ differs.before
          ∙ sym (take-append-le j y1 y2 (omega (arith, low)));
      within = omega (arith, differs.within, length-append x1 x2);
      here = λ e. differs.here (sym (get_or_append_left x1 x2 0 j differs.within) ∙ e
          ∙ get_or_append_left y1 y2 0 j low);
    }

-- they differ after parts that are the same
pub differ-right : (n : ℕ) (x1 x2 y1 y2 : List ℕ) (j : ℕ) → length x1 ≡ n → x1 ≡ y1
    → DifferFirst x2 y2 j → DifferFirst (x1 ++ x2) (y1 ++ y2) (n + j)
differ-right n x1 x2 y1 y2 j long same differs =
    let long_too : length y1 ≡ n = ap length (sym same) ∙ long in
    let at_x : slice_index (x1 ++ x2) (n + j) ≡ slice_index x2 j =
    ap (λ (k : ℕ). slice_index (x1 ++ x2) (k + j)) (sym long) ∙ get_or-append-add x1 x2 j 0 in
    let at_y : slice_index (y1 ++ y2) (n + j) ≡ slice_index y2 j =
    ap (λ (k : ℕ). slice_index (y1 ++ y2) (k + j)) (sym long_too) ∙ get_or-append-add y1 y2 j 0 in
    record {
      before = take-past n j x1 x2 long ∙ ap (λ (x : List ℕ). x ++ take j x2) same
          ∙ ap (λ (x : List ℕ). y1 ++ x) differs.before ∙ sym (take-past n j y1 y2 long_too);
      within = omega (arith, differs.within, length-append x1 x2, long);
      here = λ q. differs.here (sym at_x ∙ q ∙ at_y);
    }

pub first_part : (s : ℕ) (x1 x2 y1 y2 : List ℕ) (at : ℕ) → length x1 ≡ length y1
    → Compares s x1 y1 (Some at) → Compares s (x1 ++ x2) (y1 ++ y2) (Some at)
first_part s x1 x2 y1 y2 at long difference =
    (difference.0, differ-left x1 x2 y1 y2 (at - s) long difference.1)

pub second_part : (s n : ℕ) (x1 x2 y1 y2 : List ℕ) (r : Option ℕ) → length x1 ≡ n → x1 ≡ y1
    → Compares (s + n) x2 y2 r → Compares s (x1 ++ x2) (y1 ++ y2) r
second_part s n x1 x2 y1 y2 None long same difference = ap (λ (x : List ℕ). x ++ x2) same
    ∙ ap (λ (x : List ℕ). y1 ++ x) difference
second_part s n x1 x2 y1 y2 (Some at) long same difference =
    let place : n + (at - (s + n)) ≡ at - s = omega (arith, difference.0) in (
      omega (arith, difference.0),
      subst (λ (j : ℕ). DifferFirst (x1 ++ x2) (y1 ++ y2) j) place
          (differ-right n x1 x2 y1 y2 (at - (s + n)) long same difference.1),
    )

-- a block, and what it should be in three parts
pub in_data : (block a b c : List ℕ) (f at : ℕ) → length a ≡ f → f ≤ length block
    → Compares 0 (take f block) a (Some at) → Compares 0 block ((a ++ b) ++ c) (Some at)
in_data block a b c f at long within difference =
    let one = first_part 0 (take f block) (drop f block) a (b ++ c) at
    (omega (arith, length-take f block, long, within)) difference in
    subst (λ (x : List ℕ). Compares 0 x ((a ++ b) ++ c) (Some at)) (take-append-drop f block)
    (subst (λ (y : List ℕ). Compares 0 (take f block ++ drop f block) y (Some at))
    (sym (append_assoc a b c)) one)

pub in_control : (block a b c : List ℕ) (f top at : ℕ) → length a ≡ f → top ≤ length block
    → f + length b ≡ top → take f block ≡ a
    → Compares f (drop f (take top block)) b (Some at) → Compares 0 block ((a ++ b) ++ c) (Some at)
in_control block a b c f top at long_too within lb same difference =
    let top_is : take f (take top block) ≡ a =
    Rattle.std.proofs.lemmas.List.take-take f top block (omega (arith, lb)) ∙ same in
    let long : length (take f (take top block)) ≡ f = ap length top_is ∙ long_too in
    let equal : 0 + f ≡ f = omega arith in
    let differing : Compares (0 + f) (drop f (take top block)) b (Some at) =
    subst (λ (k : ℕ). Compares k (drop f (take top block)) b (Some at)) (sym equal) difference in
    let one : Compares 0 (take f (take top block) ++ drop f (take top block)) (a ++ b) (Some at) =
    second_part 0 f (take f (take top block)) (drop f (take top block)) a b (Some at) long top_is
    differing in
    let two : Compares 0 (take top block) (a ++ b) (Some at) =
    subst (λ (x : List ℕ). Compares 0 x (a ++ b) (Some at)) (take-append-drop f (take top block))
    one in
    let three = first_part 0 (take top block) (drop top block) (a ++ b) c at
    (omega (arith, length-take top block, within, length-append a b, long_too, lb)) two in
    subst (λ (x : List ℕ). Compares 0 x ((a ++ b) ++ c) (Some at)) (take-append-drop top block)
    three

-- a block that is right before its CIDF compares as its CIDF does
pub in_cidf : (block a b c : List ℕ) (f top : ℕ) (r : Option ℕ) → length a ≡ f → top ≤ length block
    → f + length b ≡ top → take f block ≡ a
    → drop f (take top block) ≡ b → Compares top (drop top block) c r
    → Compares 0 block ((a ++ b) ++ c) r
in_cidf block a b c f top r long within lb same top_is difference =
    let equal : take f (take top block) ≡ a =
    Rattle.std.proofs.lemmas.List.take-take f top block (omega (arith, lb)) ∙ same in
    let whole : take top block ≡ a ++ b =
    sym (take-append-drop f (take top block))
    ∙ ap (λ (x : List ℕ). x ++ drop f (take top block)) equal
    ∙ ap (λ (x : List ℕ). a ++ x) top_is in
    let alike : 0 + top ≡ top = omega arith in
    let differing : Compares (0 + top) (drop top block) c r =
    subst (λ (k : ℕ). Compares k (drop top block) c r) (sym alike) difference in
    let one = second_part 0 top (take top block) (drop top block) (a ++ b) c r
    (omega (arith, length-take top block, within)) whole differing in
    subst (λ (x : List ℕ). Compares 0 x ((a ++ b) ++ c) r) (take-append-drop top block) one

-- ---- the records' bytes

-- what is described has no byte less than the records, or than the block
length_least : (ms : List Mark) (bytes : List ℕ)
    → min (total ms) (length bytes) ≤ length (masked_marks ms bytes)
length_least [] bytes = omega arith
length_least (m ∷ ms) bytes = by_live m.live (length_least ms (drop m.len bytes))
  where
    by_live : (live : Bool) → min (total ms) (length (drop m.len bytes)) ≤ length
        (masked_marks ms (drop m.len bytes))
        → min (m.len + total ms) (length bytes) ≤ length
        ((if live then take m.len bytes else zeros m.len) ++ masked_marks ms (drop m.len bytes))
    by_live true within = omega (
      arith,
      within,
      length-append (take m.len bytes) (masked_marks ms (drop m.len bytes)),
      length-take m.len bytes,
      length-drop m.len bytes,
    )
    by_live false within = omega (
      arith,
      within,
      length-append (zeros m.len) (masked_marks ms (drop m.len bytes)),
      length-zeros m.len,
      length-drop m.len bytes,
    )

pub length-masked_least : (rs : List Rdf) (bytes : List ℕ)
    → min (spans rs) (length bytes) ≤ length (masked rs bytes)
length-masked_least rs bytes =
    omega (
      arith,
      length_least (flat_map marks rs) bytes,
      total-all rs,
      ap length (masked_is rs bytes),
    )

pub length-masked : (rs : List Rdf) (bytes : List ℕ) → spans rs ≤ length bytes
    → length (masked rs bytes) ≡ spans rs
length-masked rs bytes within = ap length (masked_is rs bytes)
    ∙ length-masked_marks (flat_map marks rs) bytes (omega (arith, total-all rs, within))
    ∙ total-all rs

-- the place of the data is the records' bytes, as far as they go, and zeros after them
pub data_parts : (rs : List Rdf) (block : List ℕ) (f : ℕ) → f ≤ length block
    → padded f (masked rs block) ≡ take (min (spans rs) f) (masked rs block)
    ++ zeros (f - min (spans rs) f)
data_parts rs block f within =
    elim (cases_lt f (spans rs)) [
      | inl more ↦
          let min_is : min (spans rs) f ≡ f = omega arith in
          let long : f ≤ length (masked rs block) = omega (arith, length-masked_least rs block) in
          let none : zeros (f - min (spans rs) f) ≡ [] = let same : f - min (spans rs) f ≡ 0 =
          omega (arith, min_is) in ap zeros same in
          take-append-le f (masked rs block) (zeros f) long
          ∙ ap (λ (k : ℕ). take k (masked rs block)) (sym min_is)
          ∙ sym (Rattle.std.proofs.lemmas.List.append-nil
          (take (min (spans rs) f) (masked rs block)))
          ∙ ap (λ (x : List ℕ). take (min (spans rs) f) (masked rs block) ++ x) (sym none)
      | inr less ↦
          let min_is : min (spans rs) f ≡ spans rs = omega arith in
          let long : length (masked rs block) ≡ spans rs =
          length-masked rs block (omega (arith, within, less)) in
          let all : take (min (spans rs) f) (masked rs block) ≡ masked rs block =
          take_all (min (spans rs) f) (masked rs block) (omega (arith, long, min_is)) in
          let left : f - length (masked rs block) ≡ f - min (spans rs) f =
          omega (arith, long, min_is) in
          padded_fits f (masked rs block) (omega (arith, long, less))
          ∙ ap (λ (x : List ℕ). x ++ zeros (f - length (masked rs block))) (sym all)
          ∙ ap (λ (k : ℕ). take (min (spans rs) f) (masked rs block) ++ zeros k) left
    ]

pub data_wrong : (rs : List Rdf) (block : List ℕ) (f at : ℕ) → f ≤ length block
    → Compares 0 (take (min (spans rs) f) block) (take (min (spans rs) f) (masked rs block))
    (Some at) → Compares 0 (take f block) (padded f (masked rs block)) (Some at)
data_wrong rs block f at within difference =
    let m = min (spans rs) f in
    let split : take f block ≡ take m block ++ take (f - m) (drop m block) =
    let same : f ≡ m + (f - m) = omega arith in ap (λ (k : ℕ). take k block) same
    ∙ take-add m (f - m) block in
    let lengths : length (take m block) ≡ length (take m (masked rs block)) =
    omega (
      arith,
      length-take m block,
      length-take m (masked rs block),
      length-masked_least rs block,
      within,
    ) in
    let one = first_part 0 (take m block) (take (f - m) (drop m block)) (take m (masked rs block))
    (zeros (f - m)) at lengths difference in
    subst (λ (x : List ℕ). Compares 0 x (padded f (masked rs block)) (Some at)) (sym split)
    (subst (λ (y : List ℕ). Compares 0 (take m block ++ take (f - m) (drop m block)) y (Some at))
    (sym (data_parts rs block f within)) one)

pub data_free : (rs : List Rdf) (block : List ℕ) (f : ℕ) (r : Option ℕ) → f ≤ length block
    → take (min (spans rs) f) block ≡ take (min (spans rs) f) (masked rs block)
    → Compares (min (spans rs) f) (take (f - min (spans rs) f) (drop (min (spans rs) f) block))
    (zeros (f - min (spans rs) f)) r
    → Compares 0 (take f block) (padded f (masked rs block)) r
data_free rs block f r within min_is difference =
    let m = min (spans rs) f in
    let split : take f block ≡ take m block ++ take (f - m) (drop m block) =
    let min_is : f ≡ m + (f - m) = omega arith in ap (λ (k : ℕ). take k block) min_is
    ∙ take-add m (f - m) block in
    let same : 0 + m ≡ m = omega arith in
    let differing : Compares (0 + m) (take (f - m) (drop m block)) (zeros (f - m)) r =
    subst (λ (k : ℕ). Compares k (take (f - m) (drop m block)) (zeros (f - m)) r) (sym same)
    difference in
    let one = second_part 0 m (take m block) (take (f - m) (drop m block))
    (take m (masked rs block)) (zeros (f - m)) r (omega (arith, length-take m block, within)) min_is
    differing in
    subst (λ (x : List ℕ). Compares 0 x (padded f (masked rs block)) r) (sym split)
    (subst (λ (y : List ℕ). Compares 0 (take m block ++ take (f - m) (drop m block)) y r)
    (sym (data_parts rs block f within)) one)

-- ---- RDFs, and the CIDF

three : (xs : List ℕ) → 3 ≤ length xs → take 3 xs ≡ byte xs 0 ∷ byte xs 1 ∷ byte xs 2 ∷ []
three [] least = absurd (omega arith)
three (w ∷ []) least = absurd (omega arith)
three (w ∷ x ∷ []) least = absurd (omega arith)
three (w ∷ x ∷ y ∷ xs) least = refl

-- an RDF, or half a pair, before an end: flags and a number
pub half_at : (block : List ℕ) (at end n : ℕ) → at + 3 ≡ end → end ≤ length block
    → ((i : ℕ) → byte block i < 256) → n ≡ byte block (end - 2) * 256 + byte block (end - 1)
    → take (end - at) (drop at block) ≡ byte block at ∷ two_bytes n
half_at block at end n sum within small is =
    let width : end - at ≡ 3 = omega (arith, sum) in
    let same : at + 0 ≡ at = omega arith in
    let one : at + 1 ≡ end - 2 = omega (arith, sum) in
    let two : at + 2 ≡ end - 1 = omega (arith, sum) in
    let b0 : byte (drop at block) 0 ≡ byte block at = sym (at_drop block at 0)
    ∙ ap (byte block) same in
    let b1 : byte (drop at block) 1 ≡ n / 256 = sym (at_drop block at 1) ∙ ap (byte block) one
    ∙ omega (arith, is, small (end - 1)) in
    let b2 : byte (drop at block) 2 ≡ n % 256 = sym (at_drop block at 2) ∙ ap (byte block) two
    ∙ omega (arith, is, small (end - 1)) in
    ap (λ (k : ℕ). take k (drop at block)) width
    ∙ three (drop at block) (omega (arith, length-drop at block, sum, within))
    ∙ ap (λ (x : ℕ). x ∷ byte (drop at block) 1 ∷ byte (drop at block) 2 ∷ []) b0
    ∙ ap (λ (x : ℕ). byte block at ∷ x ∷ byte (drop at block) 2 ∷ []) b1
    ∙ ap (λ (x : ℕ). byte block at ∷ n / 256 ∷ x ∷ []) b2

pub pair_at : (block : List ℕ) (at end m n : ℕ) → at + 6 ≡ end → end ≤ length block
    → ((i : ℕ) → byte block i < 256) → m ≡ byte block (end - 5) * 256 + byte block (end - 4)
    → n ≡ byte block (end - 2) * 256 + byte block (end - 1)
    → take (end - at) (drop at block) ≡ byte block at ∷ two_bytes m
    ++ byte block (end - 3) ∷ two_bytes n
pair_at block at end m n sum within small left right =
    let middle : at + 3 ≡ end - 3 = omega (arith, sum) in
    let five : end - 3 - 2 ≡ end - 5 = omega arith in
    let four : end - 3 - 1 ≡ end - 4 = omega arith in
    let width : end - at ≡ 3 + 3 = omega (arith, sum) in
    let half : end - 3 - at ≡ 3 = omega (arith, sum) in
    let rest : end - (end - 3) ≡ 3 = omega (arith, sum) in
    let back : end - 3 + 3 ≡ end = omega (arith, sum) in
    let one : take 3 (drop at block) ≡ byte block at ∷ two_bytes m =
    ap (λ (k : ℕ). take k (drop at block)) (sym half)
    ∙ half_at block at (end - 3) m middle (omega (arith, within)) small (left
    ∙ ap (λ (k : ℕ). byte block k * 256 + byte block (end - 4)) (sym five)
    ∙ ap (λ (k : ℕ). byte block (end - 3 - 2) * 256 + byte block k) (sym four)) in
    let two : take 3 (drop (end - 3) block) ≡ byte block (end - 3) ∷ two_bytes n =
    ap (λ (k : ℕ). take k (drop (end - 3) block)) (sym rest)
    ∙ half_at block (end - 3) end n back within small right in
    ap (λ (k : ℕ). take k (drop at block)) width ∙ take-add 3 3 (drop at block)
    ∙ ap (λ (x : List ℕ). x ++ take 3 (drop 3 (drop at block))) one
    ∙ ap (λ (x : List ℕ). byte block at ∷ two_bytes m ++ take 3 x) (drop-drop 3 at block
    ∙ ap (λ (k : ℕ). drop k block) middle)
    ∙ ap (λ (x : List ℕ). byte block at ∷ two_bytes m ++ x) two

four : (xs : List ℕ) → length xs ≡ 4 → xs ≡ byte xs 0 ∷ byte xs 1 ∷ byte xs 2 ∷ byte xs 3 ∷ []
four [] long = absurd cc
four (w ∷ []) long = absurd cc
four (w ∷ x ∷ []) long = absurd cc
four (w ∷ x ∷ y ∷ []) long = absurd cc
four (w ∷ x ∷ y ∷ z ∷ []) long = refl
four (w ∷ x ∷ y ∷ z ∷ v ∷ vs) long = absurd (omega (arith, long))

-- a field of two bytes, by its busy flag and what is left of it
field_is : (f : ℕ) → f < 65536 → f % 32768 + (if nat_le 32768 f then 32768 else 0) ≡ f
field_is f less =
    elim (cases_lt f 32768) [
      | inl low ↦ ap (λ (b : Bool). f % 32768 + (if b then 32768 else 0)) (lt-leb 32768 f low)
          ∙ omega (arith, low)
      | inr high ↦ ap (λ (b : Bool). f % 32768 + (if b then 32768 else 0)) (le-leb 32768 f high)
          ∙ omega (arith, high, less)
    ]

-- the last four bytes of a block are the CIDF that they say
pub cidf_is : (block : List ℕ) → 4 ≤ length block → ((i : ℕ) → byte block i < 256)
    → drop (cidf_at block) block ≡ cidf (displacement block) (free_length block) (is_busy block)
cidf_is block least small =
    let at : ℕ = length block - 4 in
    let same : at + 0 ≡ at = omega arith in
    let equal : at + 3 ≡ at + 2 + 1 = omega arith in
    let b0 : byte (drop at block) 0 ≡ displacement block / 256 = sym (at_drop block at 0)
    ∙ ap (byte block) same ∙ omega (arith, small (at + 1)) in
    let b1 : byte (drop at block) 1 ≡ displacement block % 256 = sym (at_drop block at 1)
    ∙ omega (arith, small (at + 1)) in
    let b2 : byte (drop at block) 2 ≡ free_field block / 256 = sym (at_drop block at 2)
    ∙ omega (arith, small (at + 2 + 1)) in
    let b3 : byte (drop at block) 3 ≡ free_field block % 256 = sym (at_drop block at 3)
    ∙ ap (byte block) equal ∙ omega (arith, small (at + 2 + 1)) in
    let field_is_here = field_is (free_field block)
    (omega (arith, small (at + 2), small (at + 2 + 1))) in
    four (drop at block) (omega (arith, length-drop at block, least))
    ∙ ap (λ (x : ℕ). x ∷ byte (drop at block) 1 ∷ byte (drop at block) 2 ∷ byte (drop at block) 3 ∷
    []) b0
    ∙ ap (λ (x : ℕ). displacement block / 256 ∷ x ∷ byte (drop at block) 2 ∷ byte (drop at block) 3
    ∷ []) b1
    ∙ ap (λ (x : ℕ). two_bytes (displacement block) ++ x ∷ byte (drop at block) 3 ∷ []) b2
    ∙ ap (λ (x : ℕ). two_bytes (displacement block) ++ free_field block / 256 ∷ x ∷ []) b3
    ∙ ap (λ (x : ℕ). two_bytes (displacement block) ++ two_bytes x) (sym field_is_here)
