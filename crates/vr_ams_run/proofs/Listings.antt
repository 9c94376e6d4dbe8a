-- The loop of LISTCAT ALL over its entries, and what the command comes to by it.
use Rattle.std.proofs.Common.{◌≡◌, ◌∙◌, ◌<◌, ◌≤◌, ◌+◌, ℕ, List, [], ◌∷◌, ◌++◌, All, ap}
use Rattle.std.proofs.Common.{append_assoc, drop, get_or, inl, inr, length, map, refl, subst}
use Rattle.std.proofs.Common.{sym, take, None, Result, Ok, Err, IfOk}
use Rattle.std.proofs.lemmas.List.{append-nil, take-append-drop, take_all, take_more}
use Rattle.vr_types.specs.declared.fault.DeviceFault.{DeviceFault}
use Rattle.vr_types.specs.declared.geometry.Geometry.{Geometry}
use Rattle.vr_history.specs.declared.entry.Entry.{Entry}
use Rattle.vr_trace.specs.Commands.{done}
use Rattle.vr_trace.specs.Shown.{Shown}
use Rattle.vr_trace.specs.declared.command.Outcome.{Outcome}
use Rattle.vr_trace.specs.declared.no.RunNo.{RunNo}
use Rattle.vr_trace.specs.declared.statistics.Statistics.{Statistics}
use Rattle.vr_ams_list.specs.Faults.{failure_of}
use Rattle.vr_ams_list.specs.Listing.{all_full_lines, full_lines, listed_entries, total_line}
use Rattle.vr_ams_list.specs.Places.{IsGoing, IsThere}
use Rattle.vr_ams_list.specs.declared.listed.Listed.{Listed}
use Rattle.vr_ams_define.specs.Answers.{Answering}
use Rattle.vr_ams_define.specs.Grown.{AreRunOn}
use Rattle.vr_ams_define.proofs.GrownLemmas.{run-nothing}
use Rattle.vr_ams_run.specs.Counting.{HasFailed, HasFailedAmong, HasListed, HaveListed, IsEndOf}
use Rattle.vr_ams_run.specs.ListedAll.{CountsRun, IsListedAll}
use Rattle.vr_ams_run.proofs.Counting.{counts-then, lines-then, run-again}
use Rattle.vr_ams_run.proofs.Runs.{cut-at}

-- How far the loop over entries has come: those so far were counted and have their lines, and the
-- volumes show what they showed.
pub record HasCome {V : Type 0} (shown : V → Shown) (geometry : V → Geometry)
    (answers : Answering V) (history : V → List Entry) (goes : V → V → Type 0) (line : ℕ)
    (entries : List Listed) (count : ℕ) (old new : List V) (before after : List ℕ) : Type 0 where
  pub listed : HaveListed shown answers line (take count entries) old new before after
  pub same : map shown new ≡ map shown old
  pub grew : AreRunOn history goes (line ∷ []) old new
  pub shapes : map geometry new ≡ map geometry old

take-one : (entries : List Listed) (count : ℕ) (one : Listed) → count < length entries
    → one ≡ get_or entries count one → take (count + 1) entries ≡ take count entries ++ one ∷ []
take-one entries count one near at = take_more entries count one near
    ∙ ap (λ (it : Listed). take count entries ++ it ∷ []) (sym at)

module _ {V : Type 0} (shown : V → Shown) (geometry : V → Geometry) (answers : Answering V)
    (history : V → List Entry) (goes : V → V → Type 0)
    (nowhere : (volume : V) → goes volume volume)
    (further : (a b c : V) → goes a b → goes b c → goes a c) (line : ℕ) (entries : List Listed)
    (old : List V) (before : List ℕ) where
  abbrev Come : ℕ → List V → List ℕ → Type 0
  Come count new after =
      HasCome shown geometry answers history goes line entries count old new before after

  pub come-none : Come 0 old before
  come-none = record {
    listed = record { numbers = []; ran = (refl, refl); lines = sym (append-nil before) };
    same = refl;
    grew = run-nothing history goes nowhere (line ∷ []) old;
    shapes = refl;
  }

  module _ (count : ℕ) (now : List V) (mid : List ℕ) (one : Listed) (come : Come count now mid)
      (near : count < length entries) (at : one ≡ get_or entries count one) where
    -- the next entry is where it was
    pub there-now : All (IsThere (map shown old)) entries → IsThere (map shown now) one
    there-now there = subst (λ (them : List Shown). IsThere them one) (sym come.same)
        (subst (IsThere (map shown old)) (sym at) (there count one near))

    pub going-now : All (IsGoing (map shown old)) entries → IsGoing (map shown now) one
    going-now going = subst (λ (them : List Shown). IsGoing them one) (sym come.same)
        (subst (IsGoing (map shown old)) (sym at) (going count one near))

    pub grew-now : (new : List V) → AreRunOn history goes (line ∷ []) now new
        → AreRunOn history goes (line ∷ []) old new
    grew-now new grew = run-again history goes further (line ∷ []) old now new come.grew grew

    -- the next one was counted
    module _ (new : List V) (after : List ℕ)
        (listed : HasListed shown answers line one now new mid after) where
      abbrev numbers : List Statistics
      numbers = come.listed.numbers

      abbrev first : List Listed
      first = take count entries

      lines-so : after ≡ before ++ all_full_lines (map shown old) (first ++ one ∷ [])
          (numbers ++ listed.numbers ∷ [])
      lines-so = listed.lines
          ∙ ap (λ (them : List Shown). mid ++ full_lines them one listed.numbers) come.same
          ∙ ap (λ (them : List ℕ). them ++ full_lines (map shown old) one listed.numbers)
          come.listed.lines
          ∙ append_assoc before (all_full_lines (map shown old) first numbers)
          (full_lines (map shown old) one listed.numbers)
          ∙ ap (λ (them : List ℕ). before ++ them)
          (sym (lines-then answers line (map shown old) one listed.numbers first old now numbers
          come.listed.ran))

      pub come-one : AreRunOn history goes (line ∷ []) now new
          → map geometry new ≡ map geometry now → Come (count + 1) new after
      come-one grew shapes = record {
        listed = subst (λ (them : List Listed).
            HaveListed shown answers line them old new before after)
            (sym (take-one entries count one near at)) (record {
              numbers = numbers ++ listed.numbers ∷ [];
              ran = counts-then answers line one now new listed.numbers listed.counted.ran first
                  old numbers come.listed.ran;
              lines = lines-so;
            });
        same = listed.counted.same ∙ come.same;
        grew = grew-now new grew;
        shapes = shapes ∙ come.shapes;
      }

    -- a fault came at the next one
    pub come-failed : (new : List V) (fault : DeviceFault)
        → HasFailed answers line one now new fault
        → HasFailedAmong answers line entries old new fault
    come-failed new fault failed = record {
      first = take count entries;
      one = one;
      rest = drop (count + 1) entries;
      entries_are = sym (take-append-drop count entries)
          ∙ ap (λ (them : List Listed). take count entries ++ them)
          (cut-at entries count one near at);
      numbers = come.listed.numbers;
      between = now;
      ran = come.listed.ran;
      failed = failed;
    }

  -- all were counted
  pub come-all : (count : ℕ) (now : List V) (after : List ℕ) → Come count now after
      → length entries ≤ count → HaveListed shown answers line entries old now before after
  come-all count now after come far =
      subst (λ (them : List Listed). HaveListed shown answers line them old now before after)
      (take_all count entries far) come.listed

-- ---- the outcome

-- the entries are those of the names
pub ended-all : {V : Type 0} (shown : V → Shown) (answers : Answering V) (line : ℕ)
    (names : List (List ℕ)) (entries : List Listed) (old new : List V) (outcome : Outcome)
    → failure_of (map shown old) names ≡ None
    → entries ≡ listed_entries (map shown old) names
    → IsEndOf shown answers line entries old new outcome
    → IsListedAll shown answers line names old new outcome
ended-all shown answers line names entries old new outcome none is ended = elim ended [
  | inl counted ↦ inr (inl (record {
    first_is = none;
    numbers = counted.numbers;
    ran = subst (λ (them : List Listed). CountsRun answers line them old new counted.numbers) is
        counted.ran;
    outcome_is = counted.outcome_is ∙ ap (λ (them : List Listed).
        done (all_full_lines (map shown old) them counted.numbers ++ total_line (length them))) is;
  }))
  | inr failed ↦
      let it = failed.failed in
      inr (inr (record {
        first_is = none;
        first = it.first;
        one = it.one;
        rest = it.rest;
        listed_are = sym is ∙ it.entries_are;
        numbers = it.numbers;
        between = it.between;
        ran = it.ran;
        counted_is = it.failed.counted_is;
        fault = failed.fault;
        failed = it.failed.asked;
        outcome_is = failed.outcome_is;
      }))
]

-- where stamps or memory ran out there is no outcome
pub ended-so : {V : Type 0} (shown : V → Shown) (answers : Answering V) (line : ℕ)
    (names : List (List ℕ)) (entries : List Listed) (old new : List V)
    (result : Result Outcome RunNo) → failure_of (map shown old) names ≡ None
    → entries ≡ listed_entries (map shown old) names
    → IfOk result (IsEndOf shown answers line entries old new)
    → IfOk result (IsListedAll shown answers line names old new)
ended-so shown answers line names entries old new (Err why) none is ended = tt
ended-so shown answers line names entries old new (Ok outcome) none is ended =
    ended-all shown answers line names entries old new outcome none is ended
