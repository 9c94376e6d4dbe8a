-- A block beside what its RDFs describe: one RDF more, and what is after them all.
use Rattle.std.proofs.Common.{◌≡◌, ℕ, zero, suc, ◌+◌, ◌-◌, ◌*◌, ◌<◌, ◌≤◌, inl, inr, Bool, true}
use Rattle.std.proofs.Common.{false, List, [], ◌∷◌, ◌++◌, length, take, drop, Option, Some, None}
use Rattle.std.proofs.Common.{refl, sym, ap, ◌∙◌, subst, arith, append_assoc, length-append}
use Rattle.std.proofs.Common.{length-take, length-drop}
use Rattle.std.specs.Prelude.{replicate, if◌then◌else◌, min, IsSome, IsNone, IsTrue}
use Rattle.std.specs.Option.{option_or}
use Rattle.std.proofs.lemmas.Bool.{cases_lt}
use Rattle.std.proofs.lemmas.List.{take_all, take-replicate, take-append-le, take-take, drop-drop}
use Rattle.std.proofs.lemmas.List.{drop_at, append-nil, length-replicate}
use Rattle.std.proofs.lemmas.List.{replicate-append-replicate}
use Rattle.vr_ci_match.specs.declared.compared.Compared.{Compared}
use Rattle.vr_ci_match.specs.declared.rdf.Rdf.{Rdf}
use Rattle.vr_ci_match.specs.declared.rdf.Rdf.TheVariants.{Single, Run, Segment}
use Rattle.vr_ci_match.specs.Rdf.{Mark, marks, span, spans, rdf_bytes, control}
use Rattle.vr_ci_match.specs.Laid.{padded, control_at}
use Rattle.vr_ci_match.specs.Compare.{Compares}
use Rattle.vr_ci_match.specs.Fault.{masked, is_live}
use Rattle.vr_ci_match.specs.Tally.{with_length, IsCompared}
use Rattle.vr_ci_match.proofs.RdfLemmas.{control-append, control-push}
use Rattle.vr_ci_match.proofs.MarkLemmas.{take-add}
use Rattle.vr_ci_match.proofs.LayoutLemmas.{zeros}
use Rattle.vr_ci_match.proofs.CompareLemmas.{part_is, first_part, second_part, data_wrong}
use Rattle.vr_ci_match.proofs.CompareLemmas.{data_free, length-masked_least, length-masked}
use Rattle.vr_ci_match.proofs.CompareLemmas.{take-past}

pub spans-append : (rs ss : List Rdf) → spans (rs ++ ss) ≡ spans rs + spans ss
spans-append [] ss = omega arith
spans-append (r ∷ rs) ss = omega (arith, spans-append rs ss)

-- the bytes of one RDF more
pub spans-push : (rs : List Rdf) (r : Rdf) → spans (rs ++ r ∷ []) ≡ spans rs + span r
spans-push rs r = omega (arith, spans-append rs (r ∷ []))

-- the bytes of the records of one RDF or pair, with zeros for those that are withdrawn
abbrev pub mask : Rdf → List ℕ → List ℕ
mask r bytes = if is_live r then take (span r) bytes else zeros (span r)

pub masked-append : (rs ss : List Rdf) (bytes : List ℕ)
    → masked (rs ++ ss) bytes ≡ masked rs bytes ++ masked ss (drop (spans rs) bytes)
masked-append [] ss bytes = refl
masked-append (r ∷ rs) ss bytes =
    ap (λ (x : List ℕ). mask r bytes ++ x) (masked-append rs ss (drop (span r) bytes))
    ∙ sym (append_assoc (mask r bytes) (masked rs (drop (span r) bytes))
    (masked ss (drop (spans rs) (drop (span r) bytes))))
    ∙ ap (λ (x : List ℕ). mask r bytes ++ masked rs (drop (span r) bytes) ++ masked ss x)
    (drop-drop (spans rs) (span r) bytes)

-- the masked bytes of one RDF more
pub masked-push : (rs : List Rdf) (r : Rdf) (bytes : List ℕ)
    → masked (rs ++ r ∷ []) bytes ≡ masked rs bytes ++ mask r (drop (spans rs) bytes)
masked-push rs r bytes = masked-append rs (r ∷ []) bytes
    ∙ ap (λ (x : List ℕ). masked rs bytes ++ x) (append-nil (mask r (drop (spans rs) bytes)))

take_zeros : (k m : ℕ) → k ≤ m → take k (zeros m) ≡ zeros k
take_zeros k m within = take-replicate k m 0 within

-- what the next records add to the bytes that are compared
mask_more : (rs : List Rdf) (r : Rdf) (block : List ℕ) (limit : ℕ) → limit ≤ length block →
    let m = min (spans rs) limit in
    let d = min (spans rs + span r) limit - m in
    take (m + d) (masked (rs ++ r ∷ []) block) ≡ take m (masked rs block)
    ++ (if is_live r then take d (drop m block) else zeros d)
mask_more rs r block limit fits_in =
    let m = min (spans rs) limit in
    let d = min (spans rs + span r) limit - m in
    ap (λ (x : List ℕ). take (m + d) x) (masked-push rs r block)
    ∙ elim (cases_lt limit (spans rs)) [
      | inl past ↦
          let none : d ≡ 0 = omega arith in
          let long : m ≤ length (masked rs block) = omega (arith, length-masked_least rs block) in
          let same : m + d ≡ m = omega (arith, none) in
          ap (λ (k : ℕ). take k (masked rs block ++ mask r (drop (spans rs) block))) same
          ∙ take-append-le m (masked rs block) (mask r (drop (spans rs) block)) long
          ∙ sym (append-nil (take m (masked rs block)))
          ∙ ap (λ (x : List ℕ). take m (masked rs block) ++ x) (sym (nothing (is_live r) d m none))
      | inr within ↦
          let whole : m ≡ spans rs = omega arith in
          let long : length (masked rs block) ≡ m =
          length-masked rs block (omega (arith, fits_in, within)) ∙ sym whole in
          let all : take m (masked rs block) ≡ masked rs block =
          take_all m (masked rs block) (omega (arith, long)) in
          let short : d ≤ span r = omega arith in
          take-past m d (masked rs block) (mask r (drop (spans rs) block)) long
          ∙ ap (λ (x : List ℕ). x ++ take d (mask r (drop (spans rs) block))) (sym all)
          ∙ ap (λ (x : List ℕ). take m (masked rs block) ++ x) (more (is_live r) d short
          ∙ ap (λ (k : ℕ). if is_live r then take d (drop k block) else zeros d) (sym whole))
    ]
  where
    nothing : (live : Bool) (d m : ℕ) → d ≡ 0
        → (if live then take d (drop m block) else zeros d) ≡ []
    nothing true d m same = ap (λ (k : ℕ). take k (drop m block)) same
    nothing false d m same = ap zeros same

    more : (live : Bool) (d : ℕ) → d ≤ span r
        → take d (if live then take (span r) (drop (spans rs) block) else zeros (span r)) ≡
        (if live then take d (drop (spans rs) block) else zeros d)
    more true d within = take-take d (span r) (drop (spans rs) block) within
    more false d within = take_zeros d (span r) within

wrong_more : (rs : List Rdf) (r : Rdf) (block : List ℕ) (limit : ℕ) (old new : Option ℕ)
    → limit ≤ length block
    → Compares 0 (take (min (spans rs) limit) block) (take (min (spans rs) limit) (masked rs block))
    old
    → (IsSome old → new ≡ old) → (IsTrue (is_live r) → new ≡ old)
    → (IsNone old → (IsTrue (is_live r) → ⊥) → Compares (min (spans rs) limit)
    (take (min (spans rs + span r) limit - min (spans rs) limit)
    (drop (min (spans rs) limit) block))
    (zeros (min (spans rs + span r) limit - min (spans rs) limit)) new)
    → Compares 0 (take (min (spans (rs ++ r ∷ [])) limit) block)
    (take (min (spans (rs ++ r ∷ [])) limit) (masked (rs ++ r ∷ []) block)) new
wrong_more rs r block limit old new within difference kept live dead =
    subst (λ (k : ℕ). Compares 0 (take k block) (take k (masked (rs ++ r ∷ []) block)) new) place
    (subst (λ (x : List ℕ). Compares 0 x (take (m + d) (masked (rs ++ r ∷ []) block)) new)
    (sym (take-add m d block))
    (subst (λ (y : List ℕ). Compares 0 (take m block ++ take d (drop m block)) y new)
    (sym (mask_more rs r block limit within))
    (both old difference kept live dead (is_live r) refl)))
  where
    m : ℕ
    m = min (spans rs) limit

    d : ℕ
    d = min (spans rs + span r) limit - min (spans rs) limit

    place : min (spans rs) limit + (min (spans rs + span r) limit - min (spans rs) limit) ≡ min
        (spans (rs ++ r ∷ [])) limit
    place = omega (arith, spans-push rs r)

    both : (old : Option ℕ) → Compares 0 (take (min (spans rs) limit) block)
        (take (min (spans rs) limit) (masked rs block)) old
        → (IsSome old → new ≡ old) → (IsTrue (is_live r) → new ≡ old)
        → (IsNone old → (IsTrue (is_live r) → ⊥) → Compares (min (spans rs) limit)
        (take (min (spans rs + span r) limit - min (spans rs) limit)
        (drop (min (spans rs) limit) block))
        (zeros (min (spans rs + span r) limit - min (spans rs) limit)) new)
        → (live : Bool) → is_live r ≡ live
        → Compares 0 (take (min (spans rs) limit) block
        ++ take (min (spans rs + span r) limit - min (spans rs) limit)
        (drop (min (spans rs) limit) block))
        (take (min (spans rs) limit) (masked rs block)
        ++ (if is_live r then take (min (spans rs + span r) limit - min (spans rs) limit)
        (drop (min (spans rs) limit) block) else zeros
        (min (spans rs + span r) limit - min (spans rs) limit))) new
    both (Some at) difference kept live dead b is_live_is =
        let same : new ≡ Some at = kept refl in
        let front = min (spans rs) limit in
        let more = min (spans rs + span r) limit - front in
        let lengths : length (take front block) ≡ length (take front (masked rs block)) =
        omega (
          arith,
          length-take front block,
          length-take front (masked rs block),
          length-masked_least rs block,
          within,
        ) in
        subst (λ (x : Option ℕ). Compares 0 (take front block ++ take more (drop front block))
        (take front (masked rs block)
        ++ (if is_live r then take more (drop front block) else zeros more)) x) (sym same)
        (first_part 0 (take front block) (take more (drop front block))
        (take front (masked rs block))
        (if is_live r then take more (drop front block) else zeros more) at lengths difference)
    both None difference kept live dead true is_live_is =
        let same : new ≡ None = live is_live_is in
        let front = min (spans rs) limit in
        let more = min (spans rs + span r) limit - front in
        let tail : (if is_live r then take more (drop front block) else zeros more) ≡ take more
        (drop front block) = ap (λ (b : Bool). if b then take more (drop front block) else zeros
        more) is_live_is in
        subst (λ (x : Option ℕ). Compares 0 (take front block ++ take more (drop front block))
        (take front (masked rs block)
        ++ (if is_live r then take more (drop front block) else zeros more)) x) (sym same)
        (ap (λ (x : List ℕ). x ++ take more (drop front block)) difference
        ∙ ap (λ (x : List ℕ). take front (masked rs block) ++ x) (sym tail))
    both None difference kept live dead false is_live_is =
        let front = min (spans rs) limit in
        let more = min (spans rs + span r) limit - front in
        let tail : (if is_live r then take more (drop front block) else zeros more) ≡ zeros more =
        ap (λ (b : Bool). if b then take more (drop front block) else zeros more) is_live_is in
        let front_is : front ≡ 0 + front = omega arith in
        let next : Compares (0 + front) (take more (drop front block)) (zeros more) new =
        subst (λ (k : ℕ). Compares k (take more (drop front block)) (zeros more) new) front_is
        (dead refl (λ t. absurd (let front_is : false ≡ true = sym is_live_is ∙ t in cc))) in
        subst (λ (y : List ℕ). Compares 0 (take front block ++ take more (drop front block))
        (take front (masked rs block) ++ y) new) (sym tail)
        (second_part 0 front (take front block) (take more (drop front block))
        (take front (masked rs block)) (zeros more) new
        (omega (arith, length-take front block, within)) difference next)

-- ---- one RDF or pair more

span-with : (r : Rdf) (len : ℕ) → span (with_length r len) ≡ len * length (marks r)
span-with (Single live n) len = omega arith
span-with (Run n k) len = ap (λ (j : ℕ). len * j)
    (sym (length-replicate k (let m : Mark = record { live = true; len = n } in m)))
span-with (Segment piece live number n) len = omega arith

live-with : (r : Rdf) (len : ℕ) → is_live (with_length r len) ≡ is_live r
live-with (Single live n) len = refl
live-with (Run n k) len = refl
live-with (Segment piece live number n) len = refl

width-with : (r : Rdf) (len : ℕ) → length (rdf_bytes (with_length r len)) ≡ length (rdf_bytes r)
width-with (Single live n) len = refl
width-with (Run n k) len = refl
width-with (Segment piece live number n) len = refl

-- what one RDF or pair adds to what was found wrong
pub record Adds (block : List ℕ) (limit at : ℕ) (r : Rdf) (len : ℕ) (old new : Compared)
    (d : Option ℕ) : Type 0 where
  pub span : new.span ≡ old.span + len * length (marks r)
  pub from : new.from ≡ at
  pub kept : IsSome old.wrong → new.wrong ≡ old.wrong
  pub live : IsTrue (is_live r) → new.wrong ≡ old.wrong
  pub dead : IsNone old.wrong → (IsTrue (is_live r) → ⊥) → Compares (min old.span limit)
      (take (min new.span limit - min old.span limit) (drop (min old.span limit) block))
      (zeros (min new.span limit - min old.span limit)) new.wrong
  pub own : Compares at (rdf_bytes r) (rdf_bytes (with_length r len)) d
  pub wrong_rdf : new.wrong_rdf ≡ option_or d old.wrong_rdf

pub compared_more : (block : List ℕ) (limit at : ℕ) (rs wanted : List Rdf) (r : Rdf) (len : ℕ)
    (old new : Compared) (d : Option ℕ) → limit ≤ length block → 4 ≤ length block
    → IsCompared block limit wanted old
    → drop at (take (length block - 4) block) ≡ control (rs ++ r ∷ []) → at ≤ length block - 4
    → length (control wanted) ≡ length (control rs)
    → Adds block limit at r len old new d
    → IsCompared block limit (wanted ++ with_length r len ∷ []) new
compared_more block limit at rs wanted r len old new d within least compares bytes high same adds =
    record {
      span = omega (arith, spans_new, spans-push wanted m);
      from = adds.from ∙ place;
      wrong = wrong_more wanted m block limit old.wrong new.wrong within compares.wrong adds.kept
          (λ t. adds.live (sym (live-with r len) ∙ t)) dead;
      wrong_rdf = subst (λ (o : Option ℕ). Compares (control_at (length block) (wanted ++ m ∷ []))
          (drop (control_at (length block) (wanted ++ m ∷ [])) upto) (control (wanted ++ m ∷ [])) o)
          (sym adds.wrong_rdf)
          (subst (λ (k : ℕ). Compares k (drop k upto) (control (wanted ++ m ∷ []))
          (option_or d old.wrong_rdf)) place
          (subst (λ (x : List ℕ). Compares at x (control (wanted ++ m ∷ []))
          (option_or d old.wrong_rdf)) (sym parts)
          (subst (λ (y : List ℕ). Compares at (rdf_bytes r ++ control rs) y
          (option_or d old.wrong_rdf)) (sym (control-push wanted m)) (both d adds.own))));
    }
  where
    m : Rdf
    m = with_length r len

    upto : List ℕ
    upto = take (length block - 4) block

    parts : drop at (take (length block - 4) block) ≡ rdf_bytes r ++ control rs
    parts = bytes ∙ control-push rs r

    ends : at + length (rdf_bytes r) + length (control rs) ≡ length block - 4
    ends = omega (
      arith,
      ap length parts,
      length-append (rdf_bytes r) (control rs),
      length-drop at (take (length block - 4) block),
      length-take (length block - 4) block,
      high,
      least,
    )

    place : at ≡ control_at (length block) (wanted ++ with_length r len ∷ [])
    place = omega (
      arith,
      ends,
      same,
      width-with r len,
      ap length (control-push wanted (with_length r len)),
      length-append (rdf_bytes (with_length r len)) (control wanted),
    )

    behind : at + length (rdf_bytes r) ≡ control_at (length block) wanted
    behind = omega (arith, ends, same)

    spans_new : new.span ≡ spans wanted + span (with_length r len)
    spans_new = omega (arith, adds.span, compares.span, span-with r len)

    dead : IsNone old.wrong → (IsTrue (is_live (with_length r len)) → ⊥)
        → Compares (min (spans wanted) limit)
        (take (min (spans wanted + span (with_length r len)) limit - min (spans wanted) limit)
        (drop (min (spans wanted) limit) block))
        (zeros (min (spans wanted + span (with_length r len)) limit - min (spans wanted) limit))
        new.wrong
    dead none_there not_so =
        subst (λ (k : ℕ). Compares (min (spans wanted) limit)
        (take (min k limit - min (spans wanted) limit) (drop (min (spans wanted) limit) block))
        (zeros (min k limit - min (spans wanted) limit)) new.wrong) spans_new
        (subst (λ (k : ℕ). Compares (min k limit)
        (take (min new.span limit - min k limit) (drop (min k limit) block))
        (zeros (min new.span limit - min k limit)) new.wrong) compares.span
        (adds.dead none_there (λ t. not_so (live-with r len ∙ t))))

    tail : drop (control_at (length block) wanted) (take (length block - 4) block) ≡ control rs
    tail = ap (λ (k : ℕ). drop k upto) (sym behind) ∙ sym (drop-drop (length (rdf_bytes r)) at upto)
        ∙ ap (λ (x : List ℕ). drop (length (rdf_bytes r)) x) parts
        ∙ drop_at (rdf_bytes r) (control rs) _ refl

    old_rdf : Compares (at + length (rdf_bytes r)) (control rs) (control wanted) old.wrong_rdf
    old_rdf =
        subst (λ (k : ℕ). Compares k (control rs) (control wanted) old.wrong_rdf) (sym behind)
        (subst (λ (x : List ℕ). Compares (control_at (length block) wanted) x (control wanted)
        old.wrong_rdf) tail compares.wrong_rdf)

    both : (o : Option ℕ) → Compares at (rdf_bytes r) (rdf_bytes (with_length r len)) o
        → Compares at (rdf_bytes r ++ control rs) (rdf_bytes (with_length r len) ++ control wanted)
        (option_or o old.wrong_rdf)
    both (Some p) difference =
        first_part at (rdf_bytes r) (control rs) (rdf_bytes m) (control wanted) p
        (sym (width-with r len)) difference
    both None difference = second_part at (length (rdf_bytes r)) (rdf_bytes r) (control rs)
        (rdf_bytes m) (control wanted) old.wrong_rdf refl difference old_rdf

-- ---- what is after the records, and between the free space and the CIDF

pub data_before : (block : List ℕ) (limit at : ℕ) (rs : List Rdf) (c : Compared)
    → limit ≤ length block → IsCompared block limit rs c → c.wrong ≡ Some at
    → Compares 0 (take limit block) (padded limit (masked rs block)) (Some at)
data_before block limit at rs c within compares is =
    data_wrong rs block limit at within
    (subst (λ (o : Option ℕ). Compares 0 (take (min (spans rs) limit) block)
    (take (min (spans rs) limit) (masked rs block)) o) is compares.wrong)

pub data_behind : (block : List ℕ) (limit from : ℕ) (rs : List Rdf) (c : Compared) (r : Option ℕ)
    → limit ≤ length block → IsCompared block limit rs c → c.wrong ≡ None
    → from ≡ min c.span limit → Compares from (take (limit - from) (drop from block))
    (zeros (limit - from)) r
    → Compares 0 (take limit block) (padded limit (masked rs block)) r
data_behind block limit from rs c r within compares is start difference =
    data_free rs block limit r within
    (subst (λ (o : Option ℕ). Compares 0 (take (min (spans rs) limit) block)
    (take (min (spans rs) limit) (masked rs block)) o) is compares.wrong)
    (subst (λ (j : ℕ). Compares j (take (limit - j) (drop j block)) (zeros (limit - j)) r) (start
    ∙ ap (λ (j : ℕ). min j limit) compares.span) difference)

-- the RDFs of empty slots
abbrev pub empties : ℕ → ℕ → List Rdf
empties count len = replicate count (Single false len)

pub control-empties : (count len : ℕ) → length (control (empties count len)) ≡ 3 * count
control-empties zero len = omega arith
control-empties (suc count) len =
    omega (
      arith,
      length-append (control (empties count len)) (rdf_bytes (Single false len)),
      control-empties count len,
    )

pub spans-empties : (count len : ℕ) → spans (empties count len) ≡ count * len
spans-empties zero len = omega arith
spans-empties (suc count) len = omega (arith, spans-empties count len)

pub masked-empties : (count len : ℕ) (bytes : List ℕ)
    → masked (empties count len) bytes ≡ zeros (count * len)
masked-empties zero len bytes = let same : 0 ≡ 0 * len = omega arith in ap zeros same
masked-empties (suc count) len bytes =
    let len_is : len + count * len ≡ suc count * len = omega arith in
    ap (λ (x : List ℕ). zeros len ++ x) (masked-empties count len (drop len bytes))
    ∙ replicate-append-replicate len (count * len) 0 ∙ ap zeros len_is

-- one empty slot more is as it should be
pub empty_more : (block : List ℕ) (from i len : ℕ)
    → take (3 * i) (drop from block) ≡ control (empties i len)
    → take 3 (drop (from + 3 * i) block) ≡ rdf_bytes (Single false len)
    → take (3 * (i + 1)) (drop from block) ≡ control (empties (i + 1) len)
empty_more block from i len from_is own =
    let more : 3 * (i + 1) ≡ 3 * i + 3 = omega arith in
    let step : suc i ≡ i + 1 = omega arith in
    ap (λ (k : ℕ). take k (drop from block)) more ∙ take-add (3 * i) 3 (drop from block)
    ∙ ap (λ (x : List ℕ). x ++ take 3 (drop (3 * i) (drop from block))) from_is
    ∙ ap (λ (x : List ℕ). control (empties i len) ++ x)
    (ap (λ (x : List ℕ). take 3 x) (drop-drop (3 * i) from block) ∙ own)
    ∙ ap (λ (k : ℕ). control (empties k len)) step

-- one differs, and those to its left do not
pub empty_found : (block : List ℕ) (from count i len at : ℕ) → i < count
    → from + 3 * count ≤ length block → take (3 * i) (drop from block) ≡ control (empties i len)
    → Compares (from + 3 * i) (take 3 (drop (from + 3 * i) block)) (rdf_bytes (Single false len))
    (Some at)
    → Compares from (take (3 * count) (drop from block)) (control (empties count len)) (Some at)
empty_found block from count i len at less fit from_is own =
    let xs : List ℕ = drop from block in
    let j : ℕ = count - suc i in
    let long : length xs ≡ length block - from = length-drop from block in
    let split : 3 * count ≡ 3 * suc i + 3 * j = omega (arith, less) in
    let step : 3 * suc i ≡ 3 * i + 3 = omega arith in
    let sum : j + suc i ≡ count = omega (arith, less) in
    let front : take (3 * suc i) xs ≡ take (3 * i) xs ++ take 3 (drop (from + 3 * i) block) =
    ap (λ (k : ℕ). take k xs) step ∙ take-add (3 * i) 3 xs
    ∙ ap (λ (x : List ℕ). take (3 * i) xs ++ take 3 x) (drop-drop (3 * i) from block) in
    let whole : control (empties count len) ≡ control (empties (suc i) len)
    ++ control (empties j len) =
    ap (λ (k : ℕ). control (empties k len)) (sym sum)
    ∙ ap control (sym (replicate-append-replicate j (suc i) (let r : Rdf = Single false len in
    r))) ∙ control-append (empties j len) (empties (suc i) len) in
    let here : Compares from (take (3 * i) xs ++ take 3 (drop (from + 3 * i) block))
    (control (empties i len) ++ rdf_bytes (Single false len)) (Some at) =
    second_part from (3 * i) (take (3 * i) xs) (take 3 (drop (from + 3 * i) block))
    (control (empties i len)) (rdf_bytes (Single false len)) (Some at)
    (omega (arith, length-take (3 * i) xs, long, fit, less)) from_is own in
    let here' : Compares from (take (3 * suc i) xs) (control (empties (suc i) len)) (Some at) =
    subst (λ (x : List ℕ). Compares from x (control (empties (suc i) len)) (Some at)) (sym front)
    here in
    let lengths : length (take (3 * suc i) xs) ≡ length (control (empties (suc i) len)) =
    omega (arith, length-take (3 * suc i) xs, long, fit, less, control-empties (suc i) len) in
    subst (λ (x : List ℕ). Compares from x (control (empties count len)) (Some at))
    (sym (ap (λ (k : ℕ). take k xs) split ∙ take-add (3 * suc i) (3 * j) xs))
    (subst (λ (y : List ℕ). Compares from (take (3 * suc i) xs
    ++ take (3 * j) (drop (3 * suc i) xs)) y (Some at)) (sym whole)
    (first_part from (take (3 * suc i) xs) (take (3 * j) (drop (3 * suc i) xs))
    (control (empties (suc i) len)) (control (empties j len)) at lengths here'))

pub control_all : (block : List ℕ) (limit reach count len : ℕ) (rs : List Rdf) (c : Compared)
    (d : Option ℕ) → 4 ≤ length block → IsCompared block reach rs c
    → limit + 3 * count ≡ control_at (length block) rs
    → Compares limit (take (3 * count) (drop limit block)) (control (empties count len)) d
    → Compares limit (drop limit (take (length block - 4) block))
    (control (rs ++ empties count len)) (option_or d c.wrong_rdf)
control_all block limit reach count len rs c d least compares place own =
    subst (λ (x : List ℕ). Compares limit x (control (rs ++ empties count len))
    (option_or d c.wrong_rdf)) (sym parts)
    (subst (λ (y : List ℕ). Compares limit (take (3 * count) (drop limit block)
    ++ drop (limit + 3 * count) upto) y (option_or d c.wrong_rdf))
    (sym (control-append rs (empties count len))) (both d own))
  where
    upto : List ℕ
    upto = take (length block - 4) block

    width : limit + 3 * count - limit ≡ 3 * count
    width = omega arith

    parts : drop limit (take (length block - 4) block) ≡ take (3 * count) (drop limit block)
        ++ drop (limit + 3 * count) (take (length block - 4) block)
    parts = part_is block limit (limit + 3 * count) (length block - 4) (omega arith)
        (omega (arith, place)) ∙ ap (λ (j : ℕ). take j (drop limit block)
        ++ drop (limit + 3 * count) upto) width

    old : Compares (limit + 3 * count) (drop (limit + 3 * count) (take (length block - 4) block))
        (control rs) c.wrong_rdf
    old = subst (λ (j : ℕ). Compares j (drop j upto) (control rs) c.wrong_rdf) (sym place)
        compares.wrong_rdf

    long : length (take (3 * count) (drop limit block)) ≡ 3 * count
    long = omega (
      arith,
      length-take (3 * count) (drop limit block),
      length-drop limit block,
      place,
      least,
    )

    both : (o : Option ℕ) → Compares limit (take (3 * count) (drop limit block))
        (control (empties count len)) o
        → Compares limit (take (3 * count) (drop limit block)
        ++ drop (limit + 3 * count) (take (length block - 4) block)) (control (empties count len)
        ++ control rs) (option_or o c.wrong_rdf)
    both (Some p) difference =
        first_part limit (take (3 * count) (drop limit block)) (drop (limit + 3 * count) upto)
        (control (empties count len)) (control rs) p
        (omega (arith, long, control-empties count len)) difference
    both None difference = second_part limit (3 * count) (take (3 * count) (drop limit block))
        (drop (limit + 3 * count) upto) (control (empties count len)) (control rs) c.wrong_rdf long
        difference old
