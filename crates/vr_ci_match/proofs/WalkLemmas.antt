-- The reader's walk over the RDFs.
use Rattle.std.proofs.Common.{◌≡◌, ◌≢◌, ℕ, ◌+◌, ◌-◌, ◌*◌, ◌^◌, ◌<◌, ◌≤◌, inl, inr, List, [], ◌∷◌}
use Rattle.std.proofs.Common.{◌++◌, length, take, drop, Option, Some, None, refl, sym, ap, ◌∙◌}
use Rattle.std.proofs.Common.{subst, arith, length-take}
use Rattle.std.specs.Prelude.{IfSome, IfNone}
use Rattle.std.proofs.lemmas.List.{drop-take, drop_all}
use Rattle.vr_ci_match.specs.declared.form.Form.{Form}
use Rattle.vr_ci_match.specs.declared.rdf.Rdf.{Rdf}
use Rattle.vr_ci_match.specs.declared.tally.Tally.{Tally}
use Rattle.vr_ci_match.specs.Rdf.{rdf_bytes, control, IsRdf, MayFollow}
use Rattle.vr_ci_match.specs.Fault.{cidf_at, free_end, StandFrom, IsUnit, IsBroken, IsWhole}
use Rattle.vr_ci_match.specs.Tally.{IsTally}
use Rattle.vr_ci_match.proofs.RdfLemmas.{control-push, rdf_bytes-inj}
use Rattle.vr_ci_match.proofs.ChainLemmas.{chain-push, chain-last}
use Rattle.vr_ci_match.proofs.CompareLemmas.{part_is}
use Rattle.vr_ci_match.proofs.TallyLemmas.{place_is}

pub record Walked (form : Form) (block : List ℕ) (end : ℕ) (tally : Tally) : Type 0 where
  pub rdfs : List Rdf
  pub right : StandFrom form block rdfs end
  pub tallied : IsTally form block rdfs tally
  pub count : tally.count + 65536 * end ≤ 2147483648
  pub span : tally.compared.span + 4294967296 * end ≤ 140737488355328
  pub room : tally.room + 8589934592 * end ≤ 281474976710656

pub walk_begins : (form : Form) (block : List ℕ) (tally : Tally) → length block ≤ 32768
    → free_end block ≤ cidf_at block → IsTally form block [] tally
    → tally.count ≡ 0 → tally.compared.span ≡ 0 → tally.room ≡ 0
    → Walked form block (length block - 4) tally
walk_begins form block tally most within t count_is span_is room_is =
    record {
      rdfs = [];
      right = record {
        chain = tt;
        low = within;
        high = omega arith;
        bytes = drop_all (length block - 4) (take (length block - 4) block)
            (omega (arith, length-take (length block - 4) block));
      };
      tallied = t;
      count = omega (arith, count_is, most);
      span = omega (arith, span_is, most);
      room = omega (arith, room_is, most);
    }

unit_low : (low : ℕ) (block : List ℕ) (end at : ℕ) → IsUnit low block end at → (low ≤ at)
    × (at + 3 ≤ end)
unit_low low block end at unit =
    elim unit [
      | inl branch ↦ (
        branch.1,
        omega (arith, branch.0),
      )
      | inr branch ↦ (branch.1, omega (arith, branch.0))
    ]

-- one RDF or pair more
pub walk_more : (form : Form) (block : List ℕ) (end at : ℕ) (old new : Tally) (r : Rdf)
    → (w : Walked form block end old) → IsUnit (free_end block) block end at
    → IsRdf r → MayFollow form old.last r → take (end - at) (drop at block) ≡ rdf_bytes r
    → ((rdfs : List Rdf) → StandFrom form block (rdfs ++ r ∷ []) at → IsTally form block rdfs old
    → IsTally form block (rdfs ++ r ∷ []) new)
    → new.count ≤ old.count + 2 ^ 16 → new.compared.span ≤ old.compared.span + 2 ^ 32
    → new.room ≤ old.room + 2 ^ 33
    → Walked form block at new
walk_more form block end at old new r w unit valid follows bytes more within fits_in bounded =
    let top : ℕ = cidf_at block in
    let place = unit_low (free_end block) block end at unit in
    let high = w.right.high in
    let longer : drop at (take top block) ≡ control (w.rdfs ++ r ∷ []) =
    part_is block at end top (omega (arith, place.1)) high
    ∙ ap (λ (x : List ℕ). x ++ drop end (take top block)) bytes
    ∙ ap (λ (x : List ℕ). rdf_bytes r ++ x) w.right.bytes ∙ sym (control-push w.rdfs r) in
    let stands : StandFrom form block (w.rdfs ++ r ∷ []) at = record {
      chain = chain-push form None w.rdfs r w.right.chain valid
          (subst (λ (b : Option Rdf). MayFollow form b r) w.tallied.last follows);
      low = place.0;
      high = omega (arith, place.1, high);
      bytes = longer;
    } in
    record {
      rdfs = w.rdfs ++ r ∷ [];
      right = stands;
      tallied = more w.rdfs stands w.tallied;
      count = omega (arith, within, w.count, place.1);
      span = omega (arith, fits_in, w.span, place.1);
      room = omega (arith, bounded, w.room, place.1);
    }

-- nothing that a block of the form has there stands to the left
pub walk_breaks : (form : Form) (block : List ℕ) (end at : ℕ) (tally : Tally)
    → (w : Walked form block end tally) → IsUnit (free_end block) block end at
    → ((r : Rdf) → IsRdf r → MayFollow form tally.last r
    → take (end - at) (drop at block) ≢ rdf_bytes r) → IsBroken form block at
walk_breaks form block end at tally w is_unit none =
    let place = unit_low (free_end block) block end at is_unit in
    let sum : at + (end - at) ≡ end = omega (arith, place.1) in
    let part : drop at (take end block) ≡ take (end - at) (drop at block) =
    ap (λ (k : ℕ). drop at (take k block)) (sym sum) ∙ drop-take at (end - at) block in
    record {
      rdfs = w.rdfs;
      end = end;
      right = w.right;
      unit = is_unit;
      none = λ r h e. let chain_last_here = chain-last form None w.rdfs r h in
          none r chain_last_here.0 (subst (λ (b : Option Rdf). MayFollow form b r)
          (sym w.tallied.last) chain_last_here.1) (sym part ∙ sym e);
    }

pub walk_ends : (form : Form) (block : List ℕ) (end : ℕ) (tally : Tally)
    → 512 ≤ length block → (w : Walked form block end tally) → end < free_end block + 3
    → (rdfs : List Rdf) × IsWhole form block rdfs × IsTally form block rdfs tally
walk_ends form block end tally least w less =
    let place = place_is form block w.rdfs end (omega (arith, least)) w.right in (
      w.rdfs,
      record {
        right = subst (λ (k : ℕ). StandFrom form block w.rdfs k) place w.right;
        whole = omega (arith, place, less);
      },
      w.tallied,
    )

-- the bounds of what was compared
pub walk_bounds : (form : Form) (block : List ℕ) (end : ℕ) (tally : Tally)
    → Walked form block end tally → (tally.compared.span ≤ 2 ^ 47)
    × (tally.compared.from ≤ cidf_at block)
walk_bounds form block end tally walked =
    (omega (arith, walked.span), omega (arith, walked.tallied.compared.from))

-- what was read stands there
pub some_read : (bytes : List ℕ) (read : Option Rdf) (r : Rdf)
    → IfSome read (λ r. IsRdf r × (bytes ≡ rdf_bytes r)) → read ≡ Some r → IsRdf r
    × (bytes ≡ rdf_bytes r)
some_read bytes read r found is =
    subst (λ (o : Option Rdf). IfSome o (λ r. IsRdf r × (bytes ≡ rdf_bytes r))) is found

-- nothing that may follow stands there, since what was read is all that does
pub none_follows : (form : Form) (before : Option Rdf) (bytes : List ℕ) (read : Option Rdf)
    → IfSome read (λ r. IsRdf r × (bytes ≡ rdf_bytes r))
    → IfNone read ((r : Rdf) → IsRdf r → bytes ≢ rdf_bytes r)
    → ((r : Rdf) → read ≡ Some r → MayFollow form before r → ⊥)
    → (r : Rdf) → IsRdf r → MayFollow form before r → bytes ≢ rdf_bytes r
none_follows form before bytes None found none not r valid follows e = none r valid e
none_follows form before bytes (Some s) found none not r valid follows e =
    let same : s ≡ r = (rdf_bytes-inj s r [] [] (sym found.1 ∙ e)).0 in
    not s refl (subst (λ (x : Rdf). MayFollow form before x) (sym same) follows)
