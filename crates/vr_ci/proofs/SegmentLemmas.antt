-- The block of a segment.
use Rattle.vr_ci_match.specs.declared.form.Shape.TheVariants as shapes
use Rattle.std.proofs.Common.{◌≡◌, ℕ, ◌+◌, ◌-◌, ◌<◌, ◌≤◌, Bool}
use Rattle.std.proofs.Common.{List, [], ◌∷◌, ◌++◌, length, drop, refl}
use Rattle.std.proofs.Common.{sym, ap, ◌∙◌, subst, arith, length-append}
use Rattle.std.proofs.lemmas.List.{append-nil, drop_all}
use Rattle.vr_ci_match.specs.declared.form.Form.{Form}
use Rattle.vr_ci_match.specs.declared.form.Form.TheVariants.{Plain, Slots}
use Rattle.vr_ci_match.specs.declared.form.Piece.{Piece}
use Rattle.vr_ci_match.specs.declared.form.Piece.TheVariants.{First, Inner, Last}
use Rattle.vr_ci_match.specs.declared.rdf.Rdf.{Rdf}
use Rattle.vr_ci_match.specs.declared.rdf.Rdf.TheVariants.{Segment}
use Rattle.vr_types.specs.BlockSize.{IsBlockSize}
use Rattle.vr_ci_match.specs.Rdf.{Mark, spans, control}
use Rattle.vr_ci_match.specs.Rdf.{IsOfForm}
use Rattle.vr_ci.specs.Interval.{Interval}
use Rattle.vr_ci.specs.Interval.{IsInterval}
use Rattle.vr_ci_match.specs.Laid.{cidf, control_at}
use Rattle.vr_ci.specs.Writer.{written}
use Rattle.vr_types.specs.Fields.{with_bytes}
use Rattle.vr_ci_match.proofs.CallerLemmas.{zeros, length-zeros}
use Rattle.vr_ci.proofs.SizeLemmas.{size_bounds}
use Rattle.vr_ci.proofs.PlaceLemmas.{placed-next}
use Rattle.vr_ci.proofs.RunLemmas.{length-written, written_ok}
use Rattle.vr_ci.proofs.WriterLemmas.{interval_of}

-- ---- a segment

pub segment_block : (form : Form) (piece : Piece) (number : ℕ) (live busy : Bool)
    (bytes old new : List ℕ) → IsBlockSize (length old) → 0 < number → number < 65536
    → 0 < length bytes → length bytes ≤ length old - 10
    → Rattle.vr_ci.specs.Writer.Fills piece (length old) (length bytes)
    → new ≡ ((((written bytes live).bytes ++ zeros (length old - 10 - length bytes))
    ++ control (Segment piece live number (length bytes) ∷ []))
    ++ cidf (length bytes) (length old - 10 - length bytes) busy)
    → IsInterval form new (record {
      shape = shapes.Segment piece number;
      items = written bytes live ∷ [];
      busy = busy;
    })
segment_block form piece number live busy bytes old new size low high some short fills new_is =
    let n : ℕ = length bytes in
    let x : List ℕ = (written bytes live).bytes in
    let rs : List Rdf = Segment piece live number n ∷ [] in
    let k : ℕ = length old - 10 - n in
    let value : Interval = record {
      shape = shapes.Segment piece number;
      items = written bytes live ∷ [];
      busy = busy;
    } in
    let bounds = size_bounds (length old) size in
    let long : length x ≡ n = length-written bytes live in
    let whole : length new ≡ length old =
    omega (
      arith,
      ap length new_is,
      length-append ((x ++ zeros k) ++ control rs) (cidf n k busy),
      length-append (x ++ zeros k) (control rs),
      length-append x (zeros k),
      length-zeros k,
      long,
      short,
      bounds.0,
    ) in
    let span : spans rs ≡ n = omega arith in
    let free : k ≡ control_at (length new) rs - spans rs = omega (arith, whole, span, bounds.0) in
    interval_of form new value rs (subst IsBlockSize (sym whole) size) (
      (
        record { low = low; high = high },
        record { low = some; high = omega (arith, short, bounds.1) },
      ),
      of_form form,
      tt,
    ) refl
    (ap (λ (i : ℕ). (let m : Mark = record { live = live; len = i } in m) ∷ []) (sym long))
    (record {
      items = (written_ok bytes live some, tt);
      block = (
        record { low = low; high = high },
        (fills_block piece (length-written bytes live) whole fills, tt),
        refl,
      );
      idle = λ q. absurd cc;
    })
    (omega (arith, span, whole, short, bounds.0))
    (new_is ∙ ap (λ (z : List ℕ). ((z ++ zeros k) ++ control rs) ++ cidf n k busy)
    (sym (append-nil x))
    ∙ ap (λ (i : ℕ). (((x ++ []) ++ zeros i) ++ control rs) ++ cidf n i busy) free
    ∙ ap (λ (i : ℕ). (((x ++ []) ++ zeros (control_at (length new) rs - spans rs)) ++ control rs)
    ++ cidf i (control_at (length new) rs - spans rs) busy) (sym span))
  where
    of_form : (g : Form) → IsOfForm g (Segment piece live number (length bytes))
    of_form Plain = tt
    of_form (Slots len) = tt

    fills_block : (p : Piece) → length (written bytes live).bytes ≡ length bytes
        → length new ≡ length old → Rattle.vr_ci.specs.Writer.Fills p (length old) (length bytes)
        → Rattle.vr_ci.specs.Interval.IsSegmentLength p (length new)
        (length (written bytes live).bytes)
    fills_block First long long_too given = omega (arith, long, long_too, given some, short)
    fills_block Inner long long_too given = omega (arith, long, long_too, given some, short)
    fills_block Last long long_too given = omega (arith, long, long_too, short)

-- the parts of a segment's block, one after the other
pub four_placed : (block x z r c : List ℕ) (i j k : ℕ) → i ≡ length x → j ≡ i + length z
    → k ≡ j + length r → k + length c ≡ length block
    → with_bytes (with_bytes (with_bytes (with_bytes block 0 x) i z) j r) k c ≡ ((x ++ z) ++ r) ++ c
four_placed block x z r c i j k same equal alike matching =
    let one : with_bytes (with_bytes block 0 x) i z ≡ with_bytes block 0 (x ++ z) =
    placed-next block 0 i x z (omega arith) (omega (arith, same)) in
    let two : with_bytes (with_bytes block 0 (x ++ z)) j r ≡ with_bytes block 0 ((x ++ z) ++ r) =
    placed-next block 0 j (x ++ z) r (omega arith) (omega (arith, same, equal, length-append x z))
    in
    let all : with_bytes (with_bytes block 0 ((x ++ z) ++ r)) k c ≡ with_bytes block 0
    (((x ++ z) ++ r) ++ c) = placed-next block 0 k ((x ++ z) ++ r) c (omega arith)
    (omega (arith, same, equal, alike, length-append x z, length-append (x ++ z) r)) in
    let none : drop (0 + length (((x ++ z) ++ r) ++ c)) block ≡ [] =
    drop_all (0 + length (((x ++ z) ++ r) ++ c)) block
    (omega (
      arith,
      same,
      equal,
      alike,
      matching,
      length-append x z,
      length-append (x ++ z) r,
      length-append ((x ++ z) ++ r) c,
    )) in
    ap (λ (y : List ℕ). with_bytes (with_bytes y j r) k c) one
    ∙ ap (λ (y : List ℕ). with_bytes y k c) two ∙ all
    ∙ ap (λ (y : List ℕ). (((x ++ z) ++ r) ++ c) ++ y) none ∙ append-nil (((x ++ z) ++ r) ++ c)
