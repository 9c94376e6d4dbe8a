-- The tally with one more RDF or pair.
use Rattle.std.proofs.Common.{◌≡◌, ℕ, ◌+◌, ◌-◌, ◌*◌, ◌<◌, ◌≤◌, inl, inr, true, List, [], ◌∷◌, ◌++◌}
use Rattle.std.proofs.Common.{length, take, drop, Option, Some, None, refl, sym, ap, ◌∙◌, subst}
use Rattle.std.proofs.Common.{arith, append_assoc, length-append, length-take, length-drop}
use Rattle.std.specs.Prelude.{MatchOption, IsSome, IsNone}
use Rattle.std.specs.List.{flat_map}
use Rattle.std.proofs.lemmas.Bool.{cases_lt}
use Rattle.std.proofs.lemmas.List.{length-replicate}
use Rattle.std.proofs.lemmas.List.Concat.{flat_map-append}
use Rattle.vr_ci_match.specs.declared.form.Form.{Form}
use Rattle.vr_ci_match.specs.declared.form.Form.TheVariants.{Plain, Slots}
use Rattle.vr_ci_match.specs.declared.compared.Compared.{Compared}
use Rattle.vr_ci_match.specs.declared.rdf.Rdf.{Rdf}
use Rattle.vr_ci_match.specs.declared.rdf.Rdf.TheVariants.{Single, Run, Segment}
use Rattle.vr_ci_match.specs.declared.tally.Tally.{Tally}
use Rattle.vr_ci_match.specs.Rdf.{Mark, marks, span, control, shape_of, shape_by}
use Rattle.vr_ci_match.specs.Laid.{control_at}
use Rattle.vr_ci_match.specs.Fault.{free_end, cidf_at, StandFrom, rdf_room, rdfs_room, PassesRoom}
use Rattle.vr_ci_match.specs.Fault.{IsRoomKept, IsRoomPassed}
use Rattle.vr_ci_match.specs.Layout.{data_end, length_meant}
use Rattle.vr_ci_match.specs.Tally.{with_length, judged, IsCompared, IsTally}
use Rattle.vr_ci_match.proofs.ChainLemmas.{last_from-push}
use Rattle.vr_ci_match.proofs.MarkLemmas.{rdfs_room-append}
use Rattle.vr_ci_match.proofs.JudgedLemmas.{shape-push, grows, stays, limit_moves}

-- RDFs that stand from a place on begin there
pub place_is : (form : Form) (block : List ℕ) (rs : List Rdf) (at : ℕ) → 4 ≤ length block
    → StandFrom form block rs at → at ≡ control_at (length block) rs
place_is form block rs at least stands =
    omega (
      arith,
      ap length stands.bytes,
      length-drop at (take (cidf_at block) block),
      length-take (cidf_at block) block,
      stands.high,
      least,
    )

-- ---- the comparison

pub compared_some : (form : Form) (block : List ℕ) (at : ℕ) (rs : List Rdf) (r : Rdf)
    (limit len : ℕ) (old : Tally) (new : Compared) → StandFrom form block (rs ++ r ∷ []) at
    → IsTally form block rs old
    → limit ≡ data_end form (length block) (free_end block) (shape_by (Some r))
    → Some len ≡ length_meant form (length block) old.count r
    → ((rdfs wanted : List Rdf) → IsCompared block limit wanted old.compared
    → drop at (take (length block - 4) block) ≡ control (rdfs ++ r ∷ []) → at ≤ length block - 4
    → length (control wanted) ≡ length (control rdfs)
    → IsCompared block limit (wanted ++ with_length r len ∷ []) new)
    → IsCompared block (data_end form (length block) (free_end block) (shape_of (rs ++ r ∷ [])))
    (judged form (length block) (rs ++ r ∷ [])) new
compared_some form block at rs r limit len old new stands tallied limit_is len_is more =
    let here : limit ≡ data_end form (length block) (free_end block) (shape_of (rs ++ r ∷ [])) =
    limit_is ∙ ap (λ x. data_end form (length block) (free_end block) x)
    (sym (shape-push form rs r stands.chain)) in
    let grows_here = grows form (length block) rs r len stands.chain
    (ap (λ (k : ℕ). length_meant form (length block) k r) (sym tallied.count) ∙ sym len_is) in
    let before : IsCompared block limit (judged form (length block) rs) old.compared =
    subst (λ (k : ℕ). IsCompared block k (judged form (length block) rs) old.compared) (sym here)
    (limit_moves form block rs r old.compared stands.chain tallied.compared) in
    subst (λ (x : List Rdf). IsCompared block
    (data_end form (length block) (free_end block) (shape_of (rs ++ r ∷ []))) x new)
    (sym grows_here.more)
    (subst (λ (k : ℕ). IsCompared block k (judged form (length block) rs ++ with_length r len ∷ [])
    new) here
    (more rs (judged form (length block) rs) before stands.bytes stands.high grows_here.width))

pub compared_none : (form : Form) (block : List ℕ) (at : ℕ) (rs : List Rdf) (r : Rdf) (old : Tally)
    → StandFrom form block (rs ++ r ∷ []) at
    → IsTally form block rs old → None ≡ length_meant form (length block) old.count r
    → IsCompared block (data_end form (length block) (free_end block) (shape_of (rs ++ r ∷ [])))
    (judged form (length block) (rs ++ r ∷ [])) old.compared
compared_none form block at rs r old stands tallied equal =
    let same = stays form (length block) rs r stands.chain
    (ap (λ (k : ℕ). length_meant form (length block) k r) (sym tallied.count) ∙ sym equal) in
    subst (λ (x : List Rdf). IsCompared block
    (data_end form (length block) (free_end block) (shape_of (rs ++ r ∷ []))) x old.compared)
    (sym same)
    (limit_moves form block rs r old.compared stands.chain tallied.compared)

-- ---- the room of plain records

room-is : (r : Rdf) → rdf_room r ≡ span r + 3 * length (marks r)
room-is (Single live n) = omega arith
room-is (Run n k) = omega (
  arith,
  length-replicate k (let m : Mark = record { live = true; len = n } in m),
)
room-is (Segment piece live number n) = omega arith

abbrev RoomOf : Form → ℕ → List Rdf → ℕ → Option ℕ → Type 0
RoomOf form size rs room passed =
    MatchOption passed ((room ≡ rdfs_room rs) × IsRoomKept form size rs) (IsRoomPassed form size rs)

passed_more : (form : Form) (size : ℕ) (rs : List Rdf) (r : Rdf) (at room more : ℕ)
    (old new : Option ℕ)
    → RoomOf form size rs room old → more ≡ room + span r + 3 * length (marks r)
    → at ≡ control_at size (rs ++ r ∷ [])
    → ((len : ℕ) → form ≡ Slots len → new ≡ old) → (IsSome old → new ≡ old)
    → (form ≡ Plain → IsNone old → size - 4 < more → new ≡ Some at)
    → (IsNone old → more ≤ size - 4 → new ≡ None)
    → RoomOf form size (rs ++ r ∷ []) more new
passed_more (Slots len) size rs r at room more (Some p) new room_so more_is place slots kept passes
    fits = absurd room_so
passed_more (Slots len) size rs r at room more None new room_so more_is place slots kept passes fits
    =
    let total : more ≡ rdfs_room (rs ++ r ∷ []) =
    omega (arith, more_is, room_so.0, room-is r, rdfs_room-append rs (r ∷ [])) in
    subst (λ (x : Option ℕ). RoomOf (Slots len) size (rs ++ r ∷ []) more x) (sym (slots len refl))
    (total, tt)
passed_more Plain size rs r at room more (Some p) new room_so more_is place slots kept passes fits =
    let goes : PassesRoom size (rs ++ r ∷ []) p = record {
      before = room_so.before;
      r = room_so.r;
      more = room_so.more ++ r ∷ [];
      parts = ap (λ (x : List Rdf). x ++ r ∷ []) room_so.parts
          ∙ append_assoc room_so.before (room_so.r ∷ room_so.more) (r ∷ []);
      fits = room_so.fits;
      passes = room_so.passes;
      place = room_so.place;
    } in
    subst (λ (x : Option ℕ). RoomOf Plain size (rs ++ r ∷ []) more x) (sym (kept refl)) goes
passed_more Plain size rs r at room more None new room_so more_is place slots kept passes fits =
    let total : more ≡ rdfs_room (rs ++ r ∷ []) =
    omega (arith, more_is, room_so.0, room-is r, rdfs_room-append rs (r ∷ [])) in
    elim (cases_lt (size - 4) more) [
      | inl over ↦
          let goes : PassesRoom size (rs ++ r ∷ []) at =
          record {
            before = rs;
            r = r;
            more = [];
            parts = refl;
            fits = room_so.1;
            passes = omega (arith, over, total);
            place = place;
          } in
          subst (λ (x : Option ℕ). RoomOf Plain size (rs ++ r ∷ []) more x)
          (sym (passes refl refl over)) goes
      | inr under ↦
          subst (λ (x : Option ℕ). RoomOf Plain size (rs ++ r ∷ []) more x) (sym (fits refl under))
          (total, omega (arith, total, under))
    ]

pub tally_more : (form : Form) (block : List ℕ) (at : ℕ) (rs : List Rdf) (r : Rdf) (old new : Tally)
    → 4 ≤ length block → StandFrom form block (rs ++ r ∷ []) at → IsTally form block rs old
    → new.last ≡ Some r → new.count ≡ old.count + length (marks r)
    → new.room ≡ old.room + span r + 3 * length (marks r)
    → IsCompared block (data_end form (length block) (free_end block) (shape_of (rs ++ r ∷ [])))
    (judged form (length block) (rs ++ r ∷ [])) new.compared
    → ((len : ℕ) → form ≡ Slots len → new.passed ≡ old.passed)
    → (IsSome old.passed → new.passed ≡ old.passed)
    → (form ≡ Plain → IsNone old.passed → length block - 4 < new.room → new.passed ≡ Some at)
    → (IsNone old.passed → new.room ≤ length block - 4 → new.passed ≡ None)
    → IsTally form block (rs ++ r ∷ []) new
tally_more form block at rs r old new least stands tallied last count room compared slots kept
    passes fits =
    record {
      last = last ∙ sym (last_from-push None rs r);
      count = omega (
        arith,
        count,
        tallied.count,
        ap length (flat_map-append marks rs (r ∷ [])),
        length-append (flat_map marks rs) (flat_map marks (r ∷ [])),
        length-append (marks r) [],
      );
      compared = compared;
      passed = passed_more form (length block) rs r at old.room new.room old.passed new.passed
          tallied.passed room (place_is form block (rs ++ r ∷ []) at least stands) slots kept passes
          fits;
    }

pub tally_none : (form : Form) (block : List ℕ) (new : Tally) → new.last ≡ None → new.count ≡ 0
    → new.room ≡ 0 → new.passed ≡ None
    → ((limit : ℕ) → IsCompared block limit [] new.compared) → IsTally form block [] new
tally_none form block new last count room passed each =
    record {
      last = last;
      count = count;
      compared = subst (λ (x : List Rdf). IsCompared block
          (data_end form (length block) (free_end block) (shape_of [])) x new.compared)
          (sym (Rattle.vr_ci_match.proofs.JudgedLemmas.judged_none form (length block)))
          (each (data_end form (length block) (free_end block) (shape_of [])));
      passed = subst (λ (o : Option ℕ). RoomOf form (length block) [] new.room o) (sym passed)
          (room, kept form);
    }
  where
    kept : (g : Form) → IsRoomKept g (length block) []
    kept Plain = omega arith
    kept (Slots len) = tt
