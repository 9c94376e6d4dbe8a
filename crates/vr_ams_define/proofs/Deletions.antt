-- The names of a DELETE, one after another.
use Rattle.std.proofs.Common.{◌≡◌, ◌∙◌, ◌<◌, ◌≤◌, ◌+◌, ℕ, List, [], ◌∷◌, ◌++◌, ap, append_assoc}
use Rattle.std.proofs.Common.{get_or, length, map, refl, subst, sym, take, Option}
use Rattle.std.proofs.lemmas.List.{append-nil, take_all, take_more}
use Rattle.vr_types.specs.declared.geometry.Geometry.{Geometry}
use Rattle.vr_catalog.specs.declared.entry.EntryKind.{EntryKind}
use Rattle.vr_history.specs.declared.entry.Entry.{Entry}
use Rattle.vr_trace.specs.Shown.{Shown}
use Rattle.vr_trace.specs.declared.command.Failure.{Failure}
use Rattle.vr_ams_define.specs.Answers.{Answering}
use Rattle.vr_ams_define.specs.EditSteps.{AreDeletedSome}
use Rattle.vr_ams_define.specs.Deleted.{AreDeleted, IsOneDeleted}
use Rattle.vr_ams_define.specs.Grown.{AreRunOn}
use Rattle.vr_ams_define.proofs.GrownLemmas.{run-again, run-nothing}

-- How far the loop over names has come: those so far came to their ends, and have their lines.
pub record HasDeleted {V : Type 0} (shown : V → Shown) (geometry : V → Geometry)
    (answers : Answering V) (history : V → List Entry) (goes : V → V → Type 0) (line : ℕ)
    (kind : Option EntryKind) (names : List (List ℕ)) (count : ℕ) (old new : List V)
    (lines : List ℕ) (failures : List (Option Failure)) : Type 0 where
  pub ran : AreDeleted shown answers line kind (take count names) old new failures lines
  pub grew : AreRunOn history goes (line ∷ []) old new
  pub shapes : map geometry new ≡ map geometry old

-- ---- one name more

module _ {V : Type 0} (shown : V → Shown) (answers : Answering V) (line : ℕ)
    (kind : Option EntryKind) (name : List ℕ) (mid new : List V) (failure : Option Failure)
    (more : List ℕ) (one : IsOneDeleted shown answers line kind name mid new failure more) where
  deleted-then : (names : List (List ℕ)) (old : List V) (failures : List (Option Failure))
      (lines : List ℕ) → AreDeleted shown answers line kind names old mid failures lines
      → AreDeleted shown answers line kind (names ++ name ∷ []) old new (failures ++ failure ∷ [])
      (lines ++ more)
  deleted-then [] old [] lines ran = (
    new,
    more,
    [],
    subst (λ (from : List V). IsOneDeleted shown answers line kind name from new failure more)
        ran.0 one,
    (refl, refl, refl),
    ap (λ (them : List ℕ). them ++ more) ran.2 ∙ sym (append-nil more),
  )
  deleted-then [] old (other ∷ failures) lines ran =
      let none = ran.1 in absurd (cc)
  deleted-then (first ∷ names) old [] lines ran = absurd ran
  deleted-then (first ∷ names) old (other ∷ failures) lines (between, this, rest, ended, ran, is) = (
    between,
    this,
    rest ++ more,
    ended,
    deleted-then names between failures rest ran,
    ap (λ (them : List ℕ). them ++ more) is ∙ append_assoc this rest more,
  )

-- ---- the loop

take-one : (names : List (List ℕ)) (count : ℕ) (name : List ℕ) → count < length names
    → name ≡ get_or names count name → take (count + 1) names ≡ take count names ++ name ∷ []
take-one names count name near at = take_more names count name near
    ∙ ap (λ (it : List ℕ). take count names ++ it ∷ []) (sym at)

module _ {V : Type 0} (shown : V → Shown) (geometry : V → Geometry) (answers : Answering V)
    (history : V → List Entry) (goes : V → V → Type 0)
    (nowhere : (volume : V) → goes volume volume)
    (further : (a b c : V) → goes a b → goes b c → goes a c) (line : ℕ)
    (kind : Option EntryKind) (names : List (List ℕ)) (old : List V) where
  abbrev Deleted : ℕ → List V → List ℕ → List (Option Failure) → Type 0
  Deleted count new lines failures = HasDeleted shown geometry answers history goes line kind
      names count old new lines failures

  pub none-deleted : (lines : List ℕ) (failures : List (Option Failure)) → lines ≡ []
      → failures ≡ [] → Deleted 0 old lines failures
  none-deleted lines failures no-lines no-failures = record {
    ran = (refl, no-failures, no-lines);
    grew = run-nothing history goes nowhere (line ∷ []) old;
    shapes = refl;
  }

  module _ (count : ℕ) (now : List V) (lines : List ℕ) (failures : List (Option Failure))
      (name : List ℕ) (come : Deleted count now lines failures) (near : count < length names)
      (at : name ≡ get_or names count name) where
    pub grew-now : (new : List V) → AreRunOn history goes (line ∷ []) now new
        → AreRunOn history goes (line ∷ []) old new
    grew-now new grew = run-again history goes further (line ∷ []) old now new come.grew grew

    -- nothing else was changed since
    pub left-now : (new : List V) → map shown new ≡ map shown now
        → AreDeletedSome shown answers line kind names old new
    left-now new same = record {
      count = count;
      failures = failures;
      lines = lines;
      between = now;
      ran = come.ran;
      shows = same;
    }

    module _ (new : List V) (failure : Option Failure) (more : List ℕ)
        (one : IsOneDeleted shown answers line kind name now new failure more) where
      ran-next : AreDeleted shown answers line kind (take (count + 1) names) old new
          (failures ++ failure ∷ []) (lines ++ more)
      ran-next = subst (λ (them : List (List ℕ)).
          AreDeleted shown answers line kind them old new (failures ++ failure ∷ [])
          (lines ++ more))
          (sym (take-one names count name near at))
          (deleted-then shown answers line kind name now new failure more one (take count names)
          old failures lines come.ran)

      -- the name came to its end, and this can't be noted
      pub left-next : AreDeletedSome shown answers line kind names old new
      left-next = record {
        count = count + 1;
        failures = failures ++ failure ∷ [];
        lines = lines ++ more;
        between = new;
        ran = ran-next;
        shows = refl;
      }

      pub one-deleted : (lines-new : List ℕ) (failures-new : List (Option Failure))
          → lines-new ≡ lines ++ more → failures-new ≡ failures ++ failure ∷ []
          → AreRunOn history goes (line ∷ []) now new → map geometry new ≡ map geometry now
          → Deleted (count + 1) new lines-new failures-new
      one-deleted lines-new failures-new lines-are failures-are grew shapes = record {
        ran = subst (λ (them : List (Option Failure)).
            AreDeleted shown answers line kind (take (count + 1) names) old new them lines-new)
            (sym failures-are)
            (subst (λ (them : List ℕ). AreDeleted shown answers line kind
            (take (count + 1) names) old new (failures ++ failure ∷ []) them) (sym lines-are)
            ran-next);
        grew = grew-now new grew;
        shapes = shapes ∙ come.shapes;
      }

  module _ (count : ℕ) (now : List V) (lines : List ℕ) (failures : List (Option Failure))
      (come : Deleted count now lines failures) (past : length names ≤ count) where
    pub all-deleted : AreDeleted shown answers line kind names old now failures lines
    all-deleted = subst (λ (them : List (List ℕ)).
        AreDeleted shown answers line kind them old now failures lines)
        (take_all count names past) come.ran
