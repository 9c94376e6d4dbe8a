-- The spelling of RDFs can be read in one way only, from the right.
use Rattle.std.proofs.Common.{◌≡◌, ℕ, ◌+◌, ◌*◌, ◌/◌, ◌%◌, ◌≤◌, ◌⊎◌, inl, inr, Bool, true, false}
use Rattle.std.proofs.Common.{List, [], ◌∷◌, ◌++◌, length, take, drop, refl, sym, ap, ◌∙◌, arith}
use Rattle.std.proofs.Common.{append_assoc, length-append}
use Rattle.std.proofs.lemmas.List.{take_at, drop_at, append-nil}
use Rattle.vr_ci_match.specs.declared.form.Piece.{Piece}
use Rattle.vr_ci_match.specs.declared.form.Piece.TheVariants.{First, Inner, Last}
use Rattle.vr_ci_match.specs.declared.rdf.Rdf.{Rdf}
use Rattle.vr_ci_match.specs.declared.rdf.Rdf.TheVariants.{Single, Run, Segment}
use Rattle.vr_ci_match.specs.Rdf.{two_bytes, withdrawn_bit, segment_bits, rdf_bytes, control}

-- lists that end in parts of one length
pub same_ends : (p a q b : List ℕ) → length a ≡ length b → p ++ a ≡ q ++ b → (p ≡ q) × (a ≡ b)
same_ends p a q b long same =
    let long_too : length p ≡ length q =
    omega (arith, ap length same, length-append p a, length-append q b, long) in
    let front : p ≡ q = sym (take_at p a _ refl) ∙ ap (λ (x : List ℕ). take (length p) x) same
    ∙ rw long_too (take_at q b _ refl) in
    let back : a ≡ b = sym (drop_at p a _ refl) ∙ ap (λ (x : List ℕ). drop (length p) x) same
    ∙ rw long_too (drop_at q b _ refl) in
    (front, back)

-- the two bytes of a number give it back
pub two_bytes-inj : (m n : ℕ) → m / 256 ≡ n / 256 → m % 256 ≡ n % 256 → m ≡ n
two_bytes-inj m n same equal = omega arith

-- the bits of a segment name its piece and its mark
bits_tens : (p : Piece) → (k : ℕ) × (segment_bits p ≡ 16 * k)
bits_tens First = (1, refl)
bits_tens Last = (2, refl)
bits_tens Inner = (3, refl)

mark_small : (a : Bool) → withdrawn_bit a ≤ 4
mark_small true = omega arith
mark_small false = omega arith

piece-inj : (p q : Piece) → segment_bits p ≡ segment_bits q → p ≡ q
piece-inj First First same = refl
piece-inj Inner Inner same = refl
piece-inj Last Last same = refl
piece-inj First Inner same = absurd (omega arith)
piece-inj First Last same = absurd (omega arith)
piece-inj Inner First same = absurd (omega arith)
piece-inj Inner Last same = absurd (omega arith)
piece-inj Last First same = absurd (omega arith)
piece-inj Last Inner same = absurd (omega arith)

mark-inj : (a b : Bool) → withdrawn_bit a ≡ withdrawn_bit b → a ≡ b
mark-inj true true same = refl
mark-inj false false same = refl
mark-inj true false same = absurd (omega arith)
mark-inj false true same = absurd (omega arith)

pub bits-inj : (p q : Piece) (a b : Bool)
    → segment_bits p + withdrawn_bit a ≡ segment_bits q + withdrawn_bit b → (p ≡ q) × (a ≡ b)
bits-inj p q a b same =
    let one = bits_tens p in
    let other = bits_tens q in
    let small = mark_small a in
    let small_too = mark_small b in
    let pieces : segment_bits p ≡ segment_bits q =
    omega (arith, same, one.1, other.1, small, small_too) in
    (piece-inj p q pieces, mark-inj a b (omega (arith, same, pieces)))

-- the number that three bytes end in, and what stands before it
three : (a b c a' b' c' : ℕ) (p q : List ℕ) → p ++ a ∷ b ∷ c ∷ [] ≡ q ++ a' ∷ b' ∷ c' ∷ [] → (p ≡ q)
    × (a ≡ a') × (b ≡ b') × (c ≡ c')
three a b c a' b' c' p q same =
    let same_ends_here = same_ends p (a ∷ b ∷ c ∷ []) q (a' ∷ b' ∷ c' ∷ []) refl same in
    let equal : a ∷ b ∷ c ∷ [] ≡ a' ∷ b' ∷ c' ∷ [] = same_ends_here.1 in
    (same_ends_here.0, cc, cc, cc)

-- the flags of an RDF that is not paired are below those of a pair's right half
flag_low : (live : Bool) (n : ℕ) → withdrawn_bit live ≡ 64 + n → ⊥
flag_low true n live_is = omega arith
flag_low false n live_is = omega arith

bits_some : (p : Piece) (a : Bool) (n : ℕ) → 64 ≡ 64 + segment_bits p + withdrawn_bit a → ⊥
bits_some First true n same = omega arith
bits_some First false n same = omega arith
bits_some Inner true n same = omega arith
bits_some Inner false n same = omega arith
bits_some Last true n same = omega arith
bits_some Last false n same = omega arith

-- What stands at the right end can be read in one way.
pub rdf_bytes-inj : (r s : Rdf) (p q : List ℕ) → p ++ rdf_bytes r ≡ q ++ rdf_bytes s → (r ≡ s)
    × (p ≡ q)
rdf_bytes-inj (Single true n) (Single true m) p q rdf_bytes_is =
    let three_here = three 0 (n / 256) (n % 256) 0 (m / 256) (m % 256) p q rdf_bytes_is in
    (ap (λ (x : ℕ). Single true x) (two_bytes-inj n m three_here.2 three_here.3), three_here.0)
rdf_bytes-inj (Single false n) (Single false m) p q rdf_bytes_is =
    let three_here = three 4 (n / 256) (n % 256) 4 (m / 256) (m % 256) p q rdf_bytes_is in
    (ap (λ (x : ℕ). Single false x) (two_bytes-inj n m three_here.2 three_here.3), three_here.0)
rdf_bytes-inj (Single true n) (Single false m) p q rdf_bytes_is =
    let three_here = three 0 (n / 256) (n % 256) 4 (m / 256) (m % 256) p q rdf_bytes_is in
    absurd (omega (arith, three_here.1))
rdf_bytes-inj (Single false n) (Single true m) p q rdf_bytes_is =
    let three_here = three 4 (n / 256) (n % 256) 0 (m / 256) (m % 256) p q rdf_bytes_is in
    absurd (omega (arith, three_here.1))
rdf_bytes-inj (Single live n) (Run m k) p q rdf_bytes_is =
    let three_here = three (withdrawn_bit live) (n / 256) (n % 256) 64 (m / 256) (m % 256) p (q
    ++ 8 ∷ two_bytes k) (rdf_bytes_is
    ∙ sym (append_assoc q (8 ∷ two_bytes k) (64 ∷ two_bytes m))) in
    absurd (flag_low live 0 three_here.1)
rdf_bytes-inj (Single live n) (Segment piece mark number m) p q rdf_bytes_is =
    let three_here = three (withdrawn_bit live) (n / 256) (n % 256)
    (64 + segment_bits piece + withdrawn_bit mark) (m / 256) (m % 256) p (q
    ++ (8 + segment_bits piece + withdrawn_bit mark) ∷ two_bytes number)
    (rdf_bytes_is ∙ sym (append_assoc q
    ((8 + segment_bits piece + withdrawn_bit mark) ∷ two_bytes number)
    ((64 + segment_bits piece + withdrawn_bit mark) ∷ two_bytes m))) in
    absurd (flag_low live (segment_bits piece + withdrawn_bit mark) (omega (arith, three_here.1)))
rdf_bytes-inj (Run m k) (Single live n) p q rdf_bytes_is =
    let three_here = three (withdrawn_bit live) (n / 256) (n % 256) 64 (m / 256) (m % 256) q (p
    ++ 8 ∷ two_bytes k) (sym rdf_bytes_is
    ∙ sym (append_assoc p (8 ∷ two_bytes k) (64 ∷ two_bytes m))) in
    absurd (flag_low live 0 three_here.1)
rdf_bytes-inj (Segment piece mark number m) (Single live n) p q rdf_bytes_is =
    let three_here = three (withdrawn_bit live) (n / 256) (n % 256)
    (64 + segment_bits piece + withdrawn_bit mark) (m / 256) (m % 256) q (p
    ++ (8 + segment_bits piece + withdrawn_bit mark) ∷ two_bytes number)
    (sym rdf_bytes_is ∙ sym (append_assoc p
    ((8 + segment_bits piece + withdrawn_bit mark) ∷ two_bytes number)
    ((64 + segment_bits piece + withdrawn_bit mark) ∷ two_bytes m))) in
    absurd (flag_low live (segment_bits piece + withdrawn_bit mark) (omega (arith, three_here.1)))
rdf_bytes-inj (Run n k) (Run m l) p q rdf_bytes_is =
    let right = three 64 (n / 256) (n % 256) 64 (m / 256) (m % 256) (p ++ 8 ∷ two_bytes k) (q
    ++ 8 ∷ two_bytes l)
    (append_assoc p (8 ∷ two_bytes k) (64 ∷ two_bytes n) ∙ rdf_bytes_is
    ∙ sym (append_assoc q (8 ∷ two_bytes l) (64 ∷ two_bytes m))) in
    let left = three 8 (k / 256) (k % 256) 8 (l / 256) (l % 256) p q right.0 in
    let same_length : n ≡ m = two_bytes-inj n m right.2 right.3 in
    let same_count : k ≡ l = two_bytes-inj k l left.2 left.3 in
    (cc, left.0)
rdf_bytes-inj (Run n k) (Segment piece mark number m) p q rdf_bytes_is =
    let right = three 64 (n / 256) (n % 256) (64 + segment_bits piece + withdrawn_bit mark)
    (m / 256) (m % 256) (p ++ 8 ∷ two_bytes k) (q
    ++ (8 + segment_bits piece + withdrawn_bit mark) ∷ two_bytes number)
    (append_assoc p (8 ∷ two_bytes k) (64 ∷ two_bytes n) ∙ rdf_bytes_is
    ∙ sym (append_assoc q ((8 + segment_bits piece + withdrawn_bit mark) ∷ two_bytes number)
    ((64 + segment_bits piece + withdrawn_bit mark) ∷ two_bytes m))) in
    absurd (bits_some piece mark 0 right.1)
rdf_bytes-inj (Segment piece mark number m) (Run n k) p q rdf_bytes_is =
    let right = three 64 (n / 256) (n % 256) (64 + segment_bits piece + withdrawn_bit mark)
    (m / 256) (m % 256) (q ++ 8 ∷ two_bytes k) (p
    ++ (8 + segment_bits piece + withdrawn_bit mark) ∷ two_bytes number)
    (append_assoc q (8 ∷ two_bytes k) (64 ∷ two_bytes n) ∙ sym rdf_bytes_is
    ∙ sym (append_assoc p ((8 + segment_bits piece + withdrawn_bit mark) ∷ two_bytes number)
    ((64 + segment_bits piece + withdrawn_bit mark) ∷ two_bytes m))) in
    absurd (bits_some piece mark 0 right.1)
rdf_bytes-inj (Segment a x i n) (Segment b y j m) p q rdf_bytes_is =
    let right = three (64 + segment_bits a + withdrawn_bit x) (n / 256) (n % 256)
    (64 + segment_bits b + withdrawn_bit y) (m / 256) (m % 256)
    (p ++ (8 + segment_bits a + withdrawn_bit x) ∷ two_bytes i) (q
    ++ (8 + segment_bits b + withdrawn_bit y) ∷ two_bytes j)
    (append_assoc p ((8 + segment_bits a + withdrawn_bit x) ∷ two_bytes i)
    ((64 + segment_bits a + withdrawn_bit x) ∷ two_bytes n) ∙ rdf_bytes_is
    ∙ sym (append_assoc q ((8 + segment_bits b + withdrawn_bit y) ∷ two_bytes j)
    ((64 + segment_bits b + withdrawn_bit y) ∷ two_bytes m))) in
    let left = three (8 + segment_bits a + withdrawn_bit x) (i / 256) (i % 256)
    (8 + segment_bits b + withdrawn_bit y) (j / 256) (j % 256) p q right.0 in
    let same_bits = bits-inj a b x y (omega (arith, right.1)) in
    let same_piece : a ≡ b = same_bits.0 in
    let same_mark : x ≡ y = same_bits.1 in
    let same_length : n ≡ m = two_bytes-inj n m right.2 right.3 in
    let same_number : i ≡ j = two_bytes-inj i j left.2 left.3 in
    (cc, left.0)

-- an RDF has three bytes, and a pair six
pub rdf_size : (r : Rdf) → (length (rdf_bytes r) ≡ 3) ⊎ (length (rdf_bytes r) ≡ 6)
rdf_size (Single live n) = inl refl
rdf_size (Run n k) = inr refl
rdf_size (Segment piece live number n) = inr refl

-- an RDF has three bytes or more
pub some_bytes : (r : Rdf) → 3 ≤ length (rdf_bytes r)
some_bytes r = elim (rdf_size r)
    [ inl branch ↦ omega (arith, branch) | inr branch ↦ omega (arith, branch) ]

pub control-append : (rs ss : List Rdf) → control (rs ++ ss) ≡ control ss ++ control rs
control-append [] ss = sym (append-nil (control ss))
control-append (r ∷ rs) ss = ap (λ (x : List ℕ). x ++ rdf_bytes r) (control-append rs ss)
    ∙ append_assoc (control ss) (control rs) (rdf_bytes r)

-- the bytes of RDFs with one more at the left
pub control-push : (rs : List Rdf) (r : Rdf) → control (rs ++ r ∷ []) ≡ rdf_bytes r ++ control rs
control-push rs r = control-append rs (r ∷ [])

-- RDFs have a multiple of three bytes
pub control_thirds : (rs : List Rdf) → (k : ℕ) × (length (control rs) ≡ 3 * k)
control_thirds [] = (0, refl)
control_thirds (r ∷ rs) =
    let before = control_thirds rs in
    elim (rdf_size r) [
      | inl branch ↦ (
        before.0 + 1,
        omega (arith, length-append (control rs) (rdf_bytes r), before.1, branch),
      )
      | inr branch ↦ (
        before.0 + 2,
        omega (arith, length-append (control rs) (rdf_bytes r), before.1, branch),
      )
    ]

-- Of two chains that end the same bytes the shorter one is the beginning of the other.
pub control_prefix : (rs ss : List Rdf) (p q : List ℕ) → length (control rs) ≤ length (control ss)
    → p ++ control rs ≡ q ++ control ss → (ts : List Rdf) × (ss ≡ rs ++ ts) × (p ≡ q ++ control ts)
control_prefix [] ss p q within same = (ss, refl, sym (append-nil p) ∙ same)
control_prefix (r ∷ rs) [] p q within same =
    absurd (omega (arith, length-append (control rs) (rdf_bytes r), some_bytes r, within))
control_prefix (r ∷ rs) (s ∷ ss) p q within equal =
    let step = rdf_bytes-inj r s (p ++ control rs) (q ++ control ss)
    (append_assoc p (control rs) (rdf_bytes r) ∙ equal
    ∙ sym (append_assoc q (control ss) (rdf_bytes s))) in
    let same : r ≡ s = step.0 in
    let widths : length (rdf_bytes r) ≡ length (rdf_bytes s) =
    ap (λ (x : Rdf). length (rdf_bytes x)) same in
    let rest = control_prefix rs ss p q
    (omega (
      arith,
      length-append (control rs) (rdf_bytes r),
      length-append (control ss) (rdf_bytes s),
      widths,
      within,
    )) step.1 in
    let parts : ss ≡ rs ++ rest.0 = rest.1 in
    (rest.0, cc, rest.2)

-- chains of one length that end the same bytes are one
pub control_same : (rs ss : List Rdf) (p q : List ℕ) → length (control rs) ≡ length (control ss)
    → p ++ control rs ≡ q ++ control ss → rs ≡ ss
control_same rs ss p q long same =
    let more = control_prefix rs ss p q (omega (arith, long)) same in
    let none : more.0 ≡ [] = no_more more.0
    (omega (
      arith,
      ap (λ (x : List Rdf). length (control x)) more.1,
      long,
      ap length (control-append rs more.0),
      length-append (control more.0) (control rs),
    )) in
    sym (more.1 ∙ ap (λ (x : List Rdf). rs ++ x) none ∙ append-nil rs)
  where
    no_more : (ts : List Rdf) → length (control ts) ≡ 0 → ts ≡ []
    no_more [] same = refl
    no_more (t ∷ ts) same = absurd
        (omega (arith, length-append (control ts) (rdf_bytes t), some_bytes t, same))
