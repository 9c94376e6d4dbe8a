-- What the bytes of a block that is laid out from RDFs say.
use Rattle.std.proofs.Common.{◌≡◌, ℕ, zero, suc, ◌+◌, ◌-◌, ◌/◌, ◌%◌, ◌<◌, ◌≤◌, Bool, true, false}
use Rattle.std.proofs.Common.{List, [], ◌∷◌, ◌++◌, length, take, drop, get_or, refl, sym, ap, ◌∙◌}
use Rattle.std.proofs.Common.{arith, length-append, length-take}
use Rattle.std.specs.Prelude.{replicate, nat_le, if◌then◌else◌}
use Rattle.std.proofs.lemmas.Bool.{le-leb, lt-leb}
use Rattle.std.proofs.lemmas.List.{take_at, drop_at}
use Rattle.vr_ci_match.specs.declared.rdf.Rdf.{Rdf}
use Rattle.vr_ci_match.specs.Rdf.{two_bytes, control}
use Rattle.vr_ci_match.specs.Laid.{padded, cidf, control_at}
use Rattle.vr_ci_match.specs.Fault.{displacement, free_field}

-- bytes that are zero
abbrev pub zeros : ℕ → List ℕ
zeros n = replicate n 0

-- they are that many
pub length-zeros : (n : ℕ) → length (zeros n) ≡ n
length-zeros zero = refl
length-zeros (suc n) = ap (λ (k : ℕ). suc k) (length-zeros n)

-- padded bytes have the length that they are padded to
pub length-padded : (n : ℕ) (bytes : List ℕ) → length (padded n bytes) ≡ n
length-padded n bytes = omega (
  arith,
  length-take n (bytes ++ zeros n),
  length-append bytes (zeros n),
  length-zeros n,
)

-- bytes that fit are there whole, with zeros after them
pub padded_fits : (n : ℕ) (bytes : List ℕ) → length bytes ≤ n
    → padded n bytes ≡ bytes ++ zeros (n - length bytes)
padded_fits n bytes within =
    let split : n ≡ length bytes + (n - length bytes) = omega arith in
    ap (λ (k : ℕ). take k (bytes ++ zeros n)) split
    ∙ take_past bytes (n - length bytes) n (omega arith)
  where
    take_zeros : (k m : ℕ) → k ≤ m → take k (zeros m) ≡ zeros k
    take_zeros zero m within = refl
    take_zeros (suc k) zero within = absurd (omega arith)
    take_zeros (suc k) (suc m) within = ap (λ (t : List ℕ). 0 ∷ t) (take_zeros k m (omega arith))

    take_past : (bs : List ℕ) (k m : ℕ) → k ≤ m
        → take (length bs + k) (bs ++ zeros m) ≡ bs ++ zeros k
    take_past [] k m within = let same : 0 + k ≡ k = omega arith in
        ap (λ (j : ℕ). take j (zeros m)) same ∙ take_zeros k m within
    take_past (b ∷ bs) k m within =
        let same : suc (length bs) + k ≡ suc (length bs + k) = omega arith in
        ap (λ (j : ℕ). take j (b ∷ (bs ++ zeros m))) same
        ∙ ap (λ (t : List ℕ). b ∷ t) (take_past bs k m within)

-- the byte at a place, or 0 past the end
abbrev pub byte : List ℕ → ℕ → ℕ
byte block i = get_or block i 0

-- the block in its three parts
pub record Parts (block front : List ℕ) (rdfs : List Rdf) (d f : ℕ) (busy : Bool) : Type 0 where
  pub whole : block ≡ padded (control_at (length block) rdfs) front ++ control rdfs ++ cidf d f busy
  pub fits : length (control rdfs) + 4 ≤ length block

-- before the CIDF, and the CIDF
pub before_cidf : {block front : List ℕ} {rdfs : List Rdf} {d f : ℕ} {busy : Bool}
    → Parts block front rdfs d f busy
    → (take (length block - 4) block ≡ padded (control_at (length block) rdfs) front
    ++ control rdfs) × (drop (length block - 4) block ≡ cidf d f busy)
before_cidf {block = block} {front = front} {rdfs = rdfs} {d = d} {f = f} {busy = busy} p =
    let pad = padded (control_at (length block) rdfs) front in
    let long : length (pad ++ control rdfs) ≡ length block - 4 =
    omega (
      arith,
      length-append pad (control rdfs),
      length-padded (control_at (length block) rdfs) front,
      p.fits,
    ) in
    let one : take (length block - 4) block ≡ pad ++ control rdfs =
    ap (λ (b : List ℕ). take (length block - 4) b) p.whole
    ∙ take_at (pad ++ control rdfs) (cidf d f busy) _ long in
    let two : drop (length block - 4) block ≡ cidf d f busy =
    ap (λ (b : List ℕ). drop (length block - 4) b) p.whole
    ∙ drop_at (pad ++ control rdfs) (cidf d f busy) _ long in
    (one, two)

pub at_drop : (block : List ℕ) (i j : ℕ) → byte block (i + j) ≡ byte (drop i block) j
at_drop block zero j = let same : 0 + j ≡ j = omega arith in ap (λ (k : ℕ). byte block k) same
at_drop [] (suc i) j = none (suc i + j) ∙ sym (none j)
  where
    none : (k : ℕ) → byte [] k ≡ 0
    none zero = refl
    none (suc k) = refl
at_drop (b ∷ block) (suc i) j = let suc_is : suc i + j ≡ suc (i + j) = omega arith in
    ap (λ (k : ℕ). byte (b ∷ block) k) suc_is ∙ at_drop block i j

-- the CIDF's two numbers, where it is these four bytes
pub cidf_says : (block : List ℕ) (d f : ℕ)
    → drop (length block - 4) block ≡ two_bytes d ++ two_bytes f → (displacement block ≡ d)
    × (free_field block ≡ f)
cidf_says block d f same =
    let at : ℕ = length block - 4 in
    let b0 : byte block (at + 0) ≡ d / 256 = at_drop block at 0
    ∙ ap (λ (x : List ℕ). byte x 0) same in
    let b1 : byte block (at + 1) ≡ d % 256 = at_drop block at 1
    ∙ ap (λ (x : List ℕ). byte x 1) same in
    let b2 : byte block (at + 2) ≡ f / 256 = at_drop block at 2
    ∙ ap (λ (x : List ℕ). byte x 2) same in
    let b3 : byte block (at + 3) ≡ f % 256 = at_drop block at 3
    ∙ ap (λ (x : List ℕ). byte x 3) same in
    let equal : at + 0 ≡ at = omega arith in
    let alike : at + 2 + 1 ≡ at + 3 = omega arith in
    let c0 : byte block at ≡ d / 256 = ap (λ (k : ℕ). byte block k) (sym equal) ∙ b0 in
    let c3 : byte block (at + 2 + 1) ≡ f % 256 = ap (λ (k : ℕ). byte block k) alike ∙ b3 in
    (omega (arith, c0, b1), omega (arith, b2, c3))

-- the busy flag and the free length of a field
pub field_busy : (f : ℕ) (busy : Bool) → f < 32768 → let g = f + (if busy then 32768 else 0) in
    (g % 32768 ≡ f) × (nat_le 32768 g ≡ busy)
field_busy f true less = (omega arith, le-leb 32768 (f + 32768) (omega arith))
field_busy f false less = (omega arith, lt-leb 32768 (f + 0) (omega arith))
