-- RDFs are read again from the right.
use Rattle.std.proofs.Common.{◌≡◌, ℕ, zero, suc, ◌+◌, ◌*◌, ◌/◌, ◌%◌, ◌≤◌, true, false, List, []}
use Rattle.std.proofs.Common.{◌∷◌, ◌++◌, length, take, drop, reverse, refl, ap, ◌∙◌, arith}
use Rattle.std.proofs.Common.{length-append}
use Rattle.std.proofs.lemmas.List.{reverse-append}
use Rattle.vr_ci_match.specs.declared.form.Piece.TheVariants.{First, Inner, Last}
use Rattle.vr_ci_match.specs.declared.rdf.Rdf.{Rdf}
use Rattle.vr_ci_match.specs.declared.rdf.Rdf.TheVariants.{Single, Run, Segment}
use Rattle.vr_ci_match.specs.Rdf.{withdrawn_bit, segment_bits, rdf_bytes, control}
use Rattle.vr_ci.specs.Reading.{rdf_back, rdfs_back, rdfs_between}
use Rattle.vr_ci_match.proofs.CallerLemmas.{some_bytes}

number : (n : ℕ) → n % 256 + n / 256 * 256 ≡ n
number n = omega arith

-- the RDF or pair at the right end
back : (r : Rdf) (rest : List ℕ) → rdf_back (reverse (rdf_bytes r) ++ rest) ≡ r
back (Single true n) rest = ap (λ (k : ℕ). Single true k) (number n)
back (Single false n) rest = ap (λ (k : ℕ). Single false k) (number n)
back (Run n k) rest = ap (λ (i : ℕ). Run i (k % 256 + k / 256 * 256)) (number n)
    ∙ ap (λ (i : ℕ). Run n i) (number k)
back (Segment First true j n) rest =
    ap (λ (i : ℕ). Segment First true i (n % 256 + n / 256 * 256)) (number j)
    ∙ ap (λ (i : ℕ). Segment First true j i) (number n)
back (Segment First false j n) rest =
    ap (λ (i : ℕ). Segment First false i (n % 256 + n / 256 * 256)) (number j)
    ∙ ap (λ (i : ℕ). Segment First false j i) (number n)
back (Segment Inner true j n) rest =
    ap (λ (i : ℕ). Segment Inner true i (n % 256 + n / 256 * 256)) (number j)
    ∙ ap (λ (i : ℕ). Segment Inner true j i) (number n)
back (Segment Inner false j n) rest =
    ap (λ (i : ℕ). Segment Inner false i (n % 256 + n / 256 * 256)) (number j)
    ∙ ap (λ (i : ℕ). Segment Inner false j i) (number n)
back (Segment Last true j n) rest =
    ap (λ (i : ℕ). Segment Last true i (n % 256 + n / 256 * 256)) (number j)
    ∙ ap (λ (i : ℕ). Segment Last true j i) (number n)
back (Segment Last false j n) rest =
    ap (λ (i : ℕ). Segment Last false i (n % 256 + n / 256 * 256)) (number j)
    ∙ ap (λ (i : ℕ). Segment Last false j i) (number n)

back_step : (r : Rdf) (n : ℕ) (b : ℕ) (bs : List ℕ) → rdf_back (b ∷ bs) ≡ r
    → rdfs_back (suc n) (b ∷ bs) ≡ r ∷ rdfs_back n (drop (length (rdf_bytes r)) (b ∷ bs))
back_step r n b bs rdf_back_is =
    ap (λ (s : Rdf). s ∷ rdfs_back n (drop (length (rdf_bytes s)) (b ∷ bs))) rdf_back_is

step : (r : Rdf) (n : ℕ) (rest : List ℕ)
    → rdfs_back (suc n) (reverse (rdf_bytes r) ++ rest) ≡ r ∷ rdfs_back n rest
step (Single live i) n rest =
    back_step (Single live i) n (i % 256) (i / 256 ∷ withdrawn_bit live ∷ rest)
    (back (Single live i) rest)
step (Run i k) n rest = back_step (Run i k) n (i % 256)
    (i / 256 ∷ 64 ∷ k % 256 ∷ k / 256 ∷ 8 ∷ rest) (back (Run i k) rest)
step (Segment piece live j i) n rest =
    back_step (Segment piece live j i) n (i % 256)
    (i / 256 ∷ (64 + segment_bits piece + withdrawn_bit live) ∷ j % 256 ∷ j / 256 ∷
    (8 + segment_bits piece + withdrawn_bit live) ∷ rest) (back (Segment piece live j i) rest)

pub rdfs_back-control : (rs : List Rdf) (n : ℕ) → length (control rs) ≤ n
    → rdfs_back n (reverse (control rs)) ≡ rs
rdfs_back-control [] zero within = refl
rdfs_back-control [] (suc n) within = refl
rdfs_back-control (r ∷ rs) zero within =
    absurd (omega (arith, some_bytes r, length-append (control rs) (rdf_bytes r), within))
rdfs_back-control (r ∷ rs) (suc n) within =
    ap (λ (x : List ℕ). rdfs_back (suc n) x) (reverse-append (control rs) (rdf_bytes r))
    ∙ step r n (reverse (control rs))
    ∙ ap (λ (x : List Rdf). r ∷ x)
    (rdfs_back-control rs n (omega (
      arith,
      some_bytes r,
      length-append (control rs) (rdf_bytes r),
      within,
    )))

pub rdfs_between-is : (low end : ℕ) (block : List ℕ) (rs : List Rdf)
    → drop low (take end block) ≡ control rs → rdfs_between low end block ≡ rs
rdfs_between-is low end block rs end_is =
    ap (λ (x : List ℕ). rdfs_back (length x) (reverse x)) end_is
    ∙ rdfs_back-control rs (length (control rs)) (omega arith)
