-- The reply to a request that is done, and the answer as a whole, are those of the record file.
use Rattle.std.proofs.Common.{◌≡◌, ℕ, Bool, false, List, Option}
use Rattle.std.proofs.Common.{Some, None, Result, Ok, Err, OnErr, IsTrue, refl, sym, ap, ◌∙◌}
use Rattle.std.specs.List.{list_any}
use Rattle.std.specs.Option.{option_and_then, option_map_or, option_or}
use Rattle.vr_catalog.specs.declared.definition.Definition.{Definition}
use Rattle.vr_types.specs.declared.memory.OutOfMemory.{OutOfMemory}
use Rattle.vr_types.specs.declared.reply.Refusal.{Refusal}
use Rattle.vr_types.specs.declared.reply.Refusal.TheVariants.{Memory}
use Rattle.vr_types.specs.declared.reply.Reply.{Reply}
use Rattle.vr_types.specs.declared.reply.Reply.TheVariants.{Done, Refused}
use Rattle.vr_types.specs.declared.request.Request.{Request}
use Rattle.vr_types.specs.declared.request.Request.TheVariants.{Get, Point, Add, Update, Erase}
use Rattle.vr_types.specs.declared.request.Request.TheVariants.{EndReq, Commit, Backout}
use Rattle.vr_history.specs.Case.{Case}
use Rattle.vr_history.specs.Change.{PairMove, place_asked, place_changed, record_held}
use Rattle.vr_history.specs.Found.{Candidate, found, place_read}
use Rattle.vr_history.specs.Opened.{Opened}
use Rattle.vr_history.specs.RefusedRecord.{record_read}
use Rattle.vr_history.specs.Replies.{LacksMemory, all_refusals, answer_of}
use Rattle.vr_history.specs.Replies.{change_feedback, done_by, feedback_if, first_of, has_later}
use Rattle.vr_history.specs.Replies.{is_shared, may_want, read_feedback, refused_or}
use Rattle.vr_history.specs.State.{State, is_live}
use Rattle.vr_answer.specs.declared.case.Case.{Case as CaseInHand}
use Rattle.vr_answer.specs.Here.{answer_here, asked_here, before_here, done_here, file_here}
use Rattle.vr_answer.specs.Here.{full_here, record_here}
use Rattle.vr_answer.specs.InHand.{InEachFile, IsCaseOf, IsFileOf, is_place_logged, whole}
use Rattle.vr_answer.specs.Looked.{place_looked_at, record_looked_at}
use Rattle.vr_answer.specs.Opening.{as_opened, definition_here}
use Rattle.vr_answer.specs.Tried.{file_refusals, record_refusals}
use Rattle.vr_answer.proofs.CallerLemmas.{first_in_order}
use Rattle.vr_answer.proofs.FileLemmas.{before_is, file_is}
use Rattle.vr_answer.proofs.LogLemmas.{full_is}
use Rattle.vr_answer.proofs.OpeningLemmas.{moves_none, opened_is}
use Rattle.vr_answer.proofs.PlaceLemmas.{at_changed, at_read, read_asked}
use Rattle.vr_answer.proofs.RecordLemmas.{record_is}

no_later : (definition : Option Definition) (case : Case) (o : Option Candidate)
    → option_map_or (has_later (as_opened definition) case) o false ≡ false
no_later definition case None = refl
no_later None case (Some candidate) = refl
no_later (Some definition) case (Some candidate) = refl

none_first : {A : Type 0} (a b : Option A) → option_or a b ≡ None → a ≡ None
none_first None b none = refl
none_first (Some x) b none = none

module _ (case : CaseInHand) (state : State) (is : IsCaseOf case state) where
  abbrev w : Case
  w = whole case state

  abbrev definition : Option Definition
  definition = definition_here case

  feedback_of_read : read_feedback w ≡ 0
  feedback_of_read =
      ap (λ (o : Opened). feedback_if (option_map_or (has_later o w) (found w) false))
      (opened_is case state is.file)
      ∙ ap feedback_if (no_later definition w (found w))

  feedback_of_change : change_feedback w ≡ 0
  feedback_of_change =
      ap (λ (moves : List PairMove). feedback_if (list_any (is_shared w) moves))
      (moves_none w is.file.unbuilt)

  module _ (at present : Option (List ℕ)) (looked : at ≡ place_looked_at w)
      (there : present ≡ record_looked_at w) where
    read_done : place_changed w ≡ None
        → Done 0 at present ≡ Done (read_feedback w) (place_read w) (record_read w)
    read_done changes =
        ap (λ (p : Option (List ℕ)). Done 0 p present) (looked ∙ at_read case state is changes)
        ∙ ap (λ (r : Option (List ℕ)). Done 0 (place_read w) r)
        (there ∙ ap (option_and_then (record_held w)) (at_read case state is changes))
        ∙ ap (λ (n : ℕ). Done n (place_read w) (record_read w)) (sym feedback_of_read)

    changed_done : place_read w ≡ None
        → Done 0 at None ≡ Done (change_feedback w) (place_changed w) None
    changed_done reads =
        ap (λ (p : Option (List ℕ)). Done 0 p None) (looked ∙ at_changed case state is reads)
        ∙ ap (λ (n : ℕ). Done n (place_changed w) None) (sym feedback_of_change)

    done_cases : (request : Request) → place_read w ≡ read_asked case state is request
        → place_changed w ≡ place_asked w request
        → done_here request at present ≡ done_by w request
    done_cases (Get file find update integrity) reads changes = read_done changes
    done_cases (Point file find) reads changes =
        ap (λ (p : Option (List ℕ)). Done 0 p None) (looked ∙ at_read case state is changes)
    done_cases (Add file place bytes) reads changes = changed_done reads
    done_cases (Update file bytes) reads changes = changed_done reads
    done_cases (Erase file) reads changes =
        ap (λ (p : Option (List ℕ)). Done 0 p None) (looked ∙ at_changed case state is reads)
    done_cases (EndReq file) reads changes = refl
    done_cases Commit reads changes = refl
    done_cases Backout reads changes = refl

    pub done_is : done_here case.request.now at present ≡ done_by w case.request.now
    done_is = done_cases case.request.now refl refl

    pub answer_is : (logged live : Bool) → logged ≡ is_place_logged w
        → live ≡ is_live state case.unit → answer_here case at present logged live ≡ answer_of w
    answer_is logged live logs lives =
        let done = done_here case.request.now at present in
        ap (λ (o : Option Refusal). refused_or (option_or o
        (option_or (record_here case at present)
        (full_here case present logged live))) done) (file_is case state is.file)
        ∙ ap (λ (o : Option Refusal). refused_or (option_or (first_of (file_refusals w))
        (option_or o (full_here case present logged live))) done)
        (record_is case state is at looked present there)
        ∙ ap (λ (o : Option Refusal). refused_or (option_or (first_of (file_refusals w))
        (option_or (first_of (record_refusals w)) o)) done)
        (full_is case state is present logged live there logs lives)
        ∙ ap (λ (o : Option Refusal). refused_or o done) (sym (first_in_order w))
        ∙ ap (λ (reply : Reply). refused_or (first_of (all_refusals w)) reply) done_is

-- where memory runs out
pub lacks_is : (case : CaseInHand) (state : State) → IsFileOf case state
    → IsTrue (may_want case.request.now) → file_here case ≡ None
    → LacksMemory (whole case state) (Refused Memory)
lacks_is case state is may none = (
  sym (before_is case state is) ∙ none_first (before_here case) (asked_here case) none,
  may,
  refl,
)

pub lacks_each : (case : CaseInHand) (answer : Result Reply OutOfMemory)
    → OnErr answer (IsTrue (may_want case.request.now)) → OnErr answer (file_here case ≡ None)
    → OnErr answer (InEachFile case (λ w. LacksMemory w (Refused Memory)))
lacks_each case (Ok reply) may none = tt
lacks_each case (Err memory) may none = λ state is. lacks_is case state is may none
