-- An event of a deck that stops its volume is one in which a write failed: any other enters one
-- entry at most.
use Rattle.std.proofs.Common.{◌≡◌, ◌<◌, ◌≤◌, ◌==◌, ◌∙◌, ⊎_elim, ℕ, List, [], ◌∷◌, ◌++◌, None, refl}
use Rattle.std.proofs.Common.{arith, ap, length, subst, sym}
use Rattle.std.specs.Prelude.{All}
use Rattle.std.proofs.lemmas.Bool.{true≢false}
use Rattle.std.proofs.lemmas.List.{append-nil, append_cancel_left, length-append}
use Rattle.std.proofs.lemmas.List.Elements.{All-head}
use Rattle.vr_types.specs.Faults.{Faults}
use Rattle.vr_types.specs.declared.reply.Reply.TheVariants.{Done as DoneReply}
use Rattle.vr_types.specs.declared.request.Request.{Request}
use Rattle.vr_types.specs.declared.unit.Unit.{Unit as UnitOfRecovery}
use Rattle.vr_history.specs.declared.entry.Entry.{Entry}
use Rattle.vr_history.specs.declared.entry.What.{What}
use Rattle.vr_history.specs.declared.entry.What.TheVariants.{Asked, Claimed, Split, Undone}
use Rattle.vr_record_file.specs.Now.{FileNow, ended, entry_next, with_event}
use Rattle.vr_event.specs.Acting.{HasStepped, IsActed, IsAnsweredFor}
use Rattle.vr_event.specs.declared.act.Act.{Act}
use Rattle.vr_event.specs.declared.act.Act.TheVariants.{Again, Done}
use Rattle.vr_job.specs.Events.{IsStop}
use Rattle.vr_job.proofs.DeckEvents.{IsOfDeck}

module _ (old new : FileNow) (made : List Entry) (entries : new.entries ≡ old.entries ++ made)
    (stop : IsStop made) (decks : All IsOfDeck made) where
  -- it enters two, since a fault alone is of the utilities
  two-entered : 2 ≤ length made
  two-entered = ⊎_elim
      (λ after. omega (
        arith,
        ap (λ (them : List Entry). length them) after.made_are,
        length-append after.before (after.failing ∷ after.fault ∷ []),
      ))
      (λ alone. absurd (true≢false (ap (λ (deck : ℕ). deck == 0) (sym alone.of_utilities)
      ∙ All-head IsOfDeck alone.fault [] (subst (All IsOfDeck) alone.made_are decks)))) stop

  -- so neither none
  not-none : new ≡ old → ⊥
  not-none same = omega (
    arith,
    two-entered,
    ap (λ (them : List Entry). length them) (append_cancel_left old.entries made []
        (sym entries ∙ ap (λ (f : FileNow). f.entries) same ∙ sym (append-nil old.entries))),
  )

  -- nor one
  not-one : (after : ℕ) (unit : UnitOfRecovery) (line : ℕ) (what : What) (mid : FileNow)
      → new ≡ with_event after unit line what mid → mid.entries ≡ old.entries → ⊥
  not-one after unit line what mid leaves same = omega (
    arith,
    two-entered,
    ap (λ (them : List Entry). length them) (append_cancel_left old.entries made
        (entry_next mid.entries after unit line what ∷ []) (sym entries
        ∙ ap (λ (f : FileNow). f.entries) leaves
        ∙ ap (λ (es : List Entry). es ++ entry_next mid.entries after unit line what ∷ []) same)),
  )

  not-stepped : (after : ℕ) (unit : UnitOfRecovery) (line : ℕ) (request : Request)
      → HasStepped after unit line request old new → ⊥
  not-stepped after unit line request is = ⊎_elim not-none
      (λ step. ⊎_elim
      (λ split. not-one after unit line (Split split.0) old split.1 refl)
      (λ later. ⊎_elim
      (λ claim. not-one after unit line (Claimed claim.0 claim.1) old claim.2 refl)
      (λ back. not-one after unit line (Undone back.1 back.2) old back.3 refl) later) step) is

  answered-rose : (before now : Faults) (after : ℕ) (unit : UnitOfRecovery) (line : ℕ)
      (request : Request) → IsAnsweredFor before now after unit line request old new
      → before.writes < now.writes
  answered-rose before now after unit line request is = ⊎_elim
      (λ entered. absurd (not-one after unit line (Asked request entered.entered.reply)
      (record old { locks = new.locks; files = new.files; files_room = new.files_room })
      entered.entered.leaves refl))
      (λ further. ⊎_elim
      (λ over. absurd (not-one after unit line (Asked request (DoneReply 0 None None))
      (ended unit old) over.1 refl))
      (λ fails. fails.1) further) is

  -- and a write failed
  pub acted-rose : (before now : Faults) (act : Act) (after : ℕ) (unit : UnitOfRecovery) (line : ℕ)
      (request : Request) → IsActed before now act after unit line request old new
      → before.writes < now.writes
  acted-rose before now Done after unit line request is =
      answered-rose before now after unit line request is.by
  acted-rose before now (Again given) after unit line request is =
      absurd (not-stepped after unit line request is.by.1)
