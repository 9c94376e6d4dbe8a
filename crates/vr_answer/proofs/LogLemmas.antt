-- The space of the log that a request needs is that of the record file.
use Rattle.std.proofs.Common.{◌≡◌, ℕ, ◌+◌, Bool, true, false, not, ◌&&◌, cond, List, [], ◌∷◌}
use Rattle.std.proofs.Common.{Option, Some, None, refl, sym, ap, ◌∙◌, filter, map, nat_lt, arith}
use Rattle.std.specs.Prelude.{flat_map, sum}
use Rattle.std.specs.Option.{is_some, option_and_then, option_map_or}
use Rattle.std.proofs.lemmas.Option.{none-some}
use Rattle.vr_types.specs.LogSpace.{before_length, end_length, log_size}
use Rattle.vr_types.specs.declared.reply.Refusal.TheVariants.{LogFull}
use Rattle.vr_types.specs.declared.request.Request.{Request}
use Rattle.vr_types.specs.declared.request.Request.TheVariants.{Get, Point, Add, Update, Erase}
use Rattle.vr_types.specs.declared.request.Request.TheVariants.{EndReq, Commit, Backout}
use Rattle.vr_history.specs.Case.{Case, is_add}
use Rattle.vr_history.specs.Change.{PairMove, place_asked, place_changed, record_held}
use Rattle.vr_history.specs.Found.{place_read}
use Rattle.vr_history.specs.LogSpace.{Logging, base_logging, log_need, loggings, loggings_at}
use Rattle.vr_history.specs.LogSpace.{need_for, new_loggings, pair_loggings}
use Rattle.vr_history.specs.Opened.{base_of}
use Rattle.vr_history.specs.RefusedFile.{refused_if}
use Rattle.vr_history.specs.RefusedRoom.{log_full}
use Rattle.vr_history.specs.State.{State, is_live, is_logged}
use Rattle.vr_answer.specs.declared.case.Case.{Case as CaseInHand}
use Rattle.vr_answer.specs.Here.{bytes_for, full_here, need_here, old_here}
use Rattle.vr_answer.specs.InHand.{IsCaseOf, is_place_logged, whole}
use Rattle.vr_answer.specs.Looked.{record_looked_at}
use Rattle.vr_answer.proofs.OpeningLemmas.{moves_none}
use Rattle.vr_answer.proofs.PlaceLemmas.{at_changed, changed_is, read_asked}

module _ (case : CaseInHand) (state : State) (is : IsCaseOf case state) where
  abbrev w : Case
  w = whole case state

  -- a change that isn't an add takes the place of the record that is looked at
  old_cases : (request : Request) → place_read w ≡ read_asked case state is request
      → place_changed w ≡ place_asked w request
      → (place : List ℕ) → place_changed w ≡ Some place
      → cond (is_add request) None (option_and_then (record_held w) (place_changed w))
      ≡ cond (is_add request) None (record_looked_at w)
  old_cases (Add file at bytes) reads changes place there = refl
  old_cases (Update file bytes) reads changes place there =
      ap (option_and_then (record_held w)) (sym (at_changed case state is reads))
  old_cases (Erase file) reads changes place there =
      ap (option_and_then (record_held w)) (sym (at_changed case state is reads))
  old_cases (Get file find update integrity) reads changes place there =
      absurd (none-some place (sym changes ∙ there))
  old_cases (Point file find) reads changes place there =
      absurd (none-some place (sym changes ∙ there))
  old_cases (EndReq file) reads changes place there =
      absurd (none-some place (sym changes ∙ there))
  old_cases Commit reads changes place there = absurd (none-some place (sym changes ∙ there))
  old_cases Backout reads changes place there = absurd (none-some place (sym changes ∙ there))

  abbrev is_new : Logging → Bool
  is_new logging = not (is_logged state case.unit logging.part logging.place)

  -- what a change logs: its place alone
  logged_at : (place : List ℕ) → place_changed w ≡ Some place
      → loggings w ≡ base_logging w place ∷ []
  logged_at place there =
      ap (λ (o : Option (List ℕ)). option_map_or (loggings_at w) o []) there
      ∙ ap (λ (moves : List PairMove). base_logging w place ∷ flat_map pair_loggings moves)
      (moves_none w is.file.unbuilt)

  one_needed : (b : Bool) (logging : Logging)
      → sum (map need_for (cond (not b) (logging ∷ []) []))
      ≡ cond b 0 (before_length logging.place logging.old)
  one_needed true logging = refl
  one_needed false logging = omega arith

  needed : (o : Option (List ℕ)) → place_changed w ≡ o
      → sum (map need_for (new_loggings w))
      ≡ bytes_for o (cond (is_add case.request.now) None (record_looked_at w))
      (option_map_or (λ place. is_logged state case.unit (base_of w) place) o false)
  needed None there =
      ap (λ (o : Option (List ℕ)). sum (map need_for (filter is_new
      (option_map_or (loggings_at w) o [])))) there
  needed (Some place) there =
      ap (λ (l : List Logging). sum (map need_for (filter is_new l))) (logged_at place there)
      ∙ one_needed (is_logged state case.unit (base_of w) place) (base_logging w place)
      ∙ ap (λ (old : Option (List ℕ)). cond (is_logged state case.unit (base_of w) place) 0
      (before_length place old))
      (old_cases case.request.now refl refl place there)

  module _ (present : Option (List ℕ)) (logged live : Bool) (at : present ≡ record_looked_at w)
      (logs : logged ≡ is_place_logged w) (lives : live ≡ is_live state case.unit) where
    pub need_is : need_here case present logged live ≡ log_need w
    need_is =
        ap (λ (o : Option (List ℕ)). bytes_for o (old_here case present) logged
        + cond live 0 end_length) (sym (changed_is case state is))
        ∙ ap (λ (old : Option (List ℕ)). bytes_for (place_changed w)
        (cond (is_add case.request.now) None old) logged + cond live 0 end_length) at
        ∙ ap (λ (b : Bool). bytes_for (place_changed w)
        (cond (is_add case.request.now) None (record_looked_at w)) b + cond live 0 end_length) logs
        ∙ ap (λ (n : ℕ). n + cond live 0 end_length) (sym (needed (place_changed w) refl))
        ∙ ap (λ (b : Bool). sum (map need_for (new_loggings w)) + cond b 0 end_length) lives

    pub full_is : full_here case present logged live ≡ log_full w
    full_is =
        ap (λ (o : Option (List ℕ)). refused_if (is_some o
        && nat_lt (log_size case.geometry) (case.used + need_here case present logged live))
        (LogFull case.used (need_here case present logged live) (log_size case.geometry)))
        (sym (changed_is case state is))
        ∙ ap (λ (used : ℕ). refused_if (is_some (place_changed w)
        && nat_lt (log_size case.geometry) (used + need_here case present logged live))
        (LogFull used (need_here case present logged live) (log_size case.geometry))) is.used
        ∙ ap (λ (need : ℕ). refused_if (is_some (place_changed w)
        && nat_lt (log_size case.geometry) (state.used + need))
        (LogFull state.used need (log_size case.geometry))) need_is
