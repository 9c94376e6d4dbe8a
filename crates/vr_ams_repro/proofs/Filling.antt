-- The target that is filled, among all volumes.
use Rattle.std.proofs.Common.{◌≡◌, ◌∙◌, ◌<◌, ◌+◌, ℕ, Bool, true, false, List, Option, Some, None}
use Rattle.std.proofs.Common.{Result, Ok, Err, IfOk, OnOk, ap, arith, get_or, length, map, refl, subst, sym}
use Rattle.std.specs.Prelude.{◌&&◌, ◌||◌, is_some, min, not, slice_set}
use Rattle.std.specs.Global.{Global}
use Rattle.std.proofs.lemmas.Option.{slice_get-get_or}
use Rattle.vr_trace.specs.Shown.{Shown}
use Rattle.vr_trace.specs.Visitors.{Visited, visited_by}
use Rattle.vr_trace.specs.declared.no.RunNo.{RunNo}
use Rattle.vr_ams_define.specs.Answers.{Answering}
use Rattle.vr_ams_define.specs.declared.answer.ReadBack.{ReadBack}
use Rattle.vr_ams_define.specs.declared.answer.ReadBack.TheVariants as reads
use Rattle.vr_amsparse.specs.declared.command.From.{From}
use Rattle.vr_amsparse.specs.declared.command.To.{To}
use Rattle.vr_ams_print.specs.Printed.{skipped}
use Rattle.vr_ams_print.specs.Steps.{IsShownStill, last_key, most_of}
use Rattle.vr_ams_repro.specs.Fed.{AreFed, IsCommittedIf}
use Rattle.vr_ams_repro.specs.Outcomes.{IsEnded}
use Rattle.vr_ams_repro.specs.Pieces.{AreFedAt, IsPiecePut, chosen, of_card, of_cards, piece_of}
use Rattle.vr_ams_repro.specs.Replies.{Replying}
use Rattle.vr_ams_repro.specs.Steps.{IsStill, after_record, is_done, started}
use Rattle.vr_ams_repro.specs.declared.cursor.Cursor.{Cursor}
use Rattle.vr_ams_repro.specs.declared.load.Load.{Load}
use Rattle.vr_ams_repro.specs.declared.piece.Piece.{Piece}
use Rattle.vr_ams_repro.specs.declared.progress.Progress.{Progress}
use Rattle.vr_ams_repro.proofs.Chosen.{chosen-is}
use Rattle.vr_ams_repro.proofs.Still.{some-ended}

-- what follows where a call succeeds
pub on-ok : {A E P Q : Type 0} (result : Result A E) → (P → Q) → OnOk result P → OnOk result Q
on-ok (Ok value) then is = then is
on-ok (Err why) then is = tt

pub on-both : {A E P Q S : Type 0} (result : Result A E) → (P → Q → S) → OnOk result P
    → OnOk result Q → OnOk result S
on-both (Ok value) then one other = then one other
on-both (Err why) then one other = tt

-- another piece is read only while the command hasn't ended
pub over-none : (over : Bool) (fault : Option ℕ) → (over || is_some fault) ≡ false
    → fault ≡ None
over-none true fault is = absurd (cc)
over-none false None is = refl
over-none false (Some fault) is = absurd (cc)

-- a reading that came to its end changes nothing that is shown
pub done-still : (result : Result ReadBack RunNo) (answer : ReadBack) (old new : List Shown)
    → result ≡ Ok answer → answer ≡ reads.Done → IsShownStill result old new → new ≡ old
done-still result answer old new is done shown = still
  where
    still : IsShownStill (Ok reads.Done) old new
    still = subst (λ (it : Result ReadBack RunNo). IsShownStill it old new)
        (is ∙ ap (λ (it : ReadBack). Ok it) done) shown

module _ {V : Type 0} (answers : Answering V) (replies : Replying V) (load : Load)
    (volumes : List V) (spare : V) (within : load.target.place < length volumes) where
  abbrev One : V
  One = get_or volumes load.target.place spare

  pub fed-at : (records : List Visited) (progress next : Progress) (new : V)
      → AreFed answers replies load progress One records next new
      → AreFedAt answers replies load records progress volumes next
      (slice_set volumes load.target.place new)
  fed-at records progress next new fed = record {
    before = One;
    before_is = slice_get-get_or volumes load.target.place spare within;
    after = new;
    fed = fed;
    others = refl;
  }

  pub ended-at : (shown : V → Shown) (progress : Progress) (due : Bool) (new : V)
      (result : Result Progress RunNo) → due ≡ (progress.asked && not (shown One).stopped)
      → IfOk result (λ last. IsCommittedIf answers replies load due progress One last new)
      → IfOk result (λ last. IsEnded shown answers replies load progress volumes last
      (slice_set volumes load.target.place new))
  ended-at shown progress due new (Ok last) is commit = record {
    before = One;
    before_is = slice_get-get_or volumes load.target.place spare within;
    after = new;
    commit = subst (λ (it : Bool). IsCommittedIf answers replies load it progress One last new) is
        commit;
    others = refl;
  }
  ended-at shown progress due new (Err why) is commit = tt

-- ---- data cards

pub cards-are : (alloc : Global) (from : From) (to : To) (cards : List (List ℕ)) (skip most : ℕ)
    (last : Option (List ℕ)) (begun piece : Piece) → skip ≡ skipped from → most ≡ most_of to
    → last ≡ last_key to → begun ≡ started alloc skip most last
    → piece ≡ visited_by after_record is_done (map of_card cards) begun
    → piece.records ≡ of_cards from to cards
cards-are alloc from to cards skip most last begun piece skip-is most-is last-is made visited =
    chosen-is alloc last skip most (map of_card cards) begun piece made visited
    ∙ ap (λ (it : ℕ). chosen it most last (map of_card cards)) skip-is
    ∙ ap (λ (it : ℕ). chosen (skipped from) it last (map of_card cards)) most-is
    ∙ ap (λ (it : Option (List ℕ)). chosen (skipped from) (most_of to) it (map of_card cards))
    last-is

-- ---- a piece

-- a piece as it was copied
pub piece-is : (alloc : Global) (last : Option (List ℕ)) (cursor : Cursor) (size : ℕ)
    (records copied : List Visited) (begun piece : Piece) (until : Option (List ℕ))
    → begun ≡ started alloc cursor.skip size until → until ≡ last
    → size ≡ min cursor.left 16 → piece ≡ visited_by after_record is_done records begun
    → copied ≡ piece.records → copied ≡ piece_of cursor last records
piece-is alloc last cursor size records copied begun piece until made until-is size-is visited is =
    is ∙ chosen-is alloc until cursor.skip size records begun piece made visited
    ∙ ap (λ (it : Option (List ℕ)). chosen cursor.skip size it records) until-is
    ∙ ap (λ (it : ℕ). chosen cursor.skip it last records) (size-is ∙ (omega arith))

module _ {V : Type 0} (answers : Answering V) (replies : Replying V) (load : Load) where
  -- a command that hasn't ended has read its source
  put-done : (answer : ReadBack) (piece : List Visited) (cursor after : Cursor)
      (progress next : Progress) (old new : List V)
      → IsPiecePut answers replies load answer piece cursor progress old after next new
      → next.fault ≡ None → answer ≡ reads.Done
  put-done reads.Done piece cursor after progress next old new put none = refl
  put-done (reads.Fault fault) piece cursor after progress next old new put none = absurd
      (some-ended progress.fault _ (sym (ap (λ (it : Progress). it.fault) put.1) ∙ none))

  -- and shows what it showed
  pub piece-still : (answer : ReadBack) (piece : List Visited) (cursor after : Cursor)
      (progress next : Progress) (old new : List V) (a b c : List Shown)
      (result : Result ReadBack RunNo) → result ≡ Ok answer → IsShownStill result a b
      → IsPiecePut answers replies load answer piece cursor progress old after next new
      → IsStill next.fault b c → IsStill next.fault a c
  piece-still answer piece cursor after progress next old new a b c result is shown put still none =
      still none ∙ done-still result answer a b is
      (put-done answer piece cursor after progress next old new put none) shown
