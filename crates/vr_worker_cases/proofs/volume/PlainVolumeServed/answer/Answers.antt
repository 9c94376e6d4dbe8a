use Rattle.std.proofs.Common.{◌∙◌, ◌+◌, ◌∷◌, ◌++◌, [], Bool, List, ap, arith, subst, sym}
use Rattle.vr_history.specs.declared.entry.Entry.{Entry}
use Rattle.vr_worker.specs.Asked.{HasEntered}
use Rattle.vr_worker_cases.proofs.Entering.{entered-none, entered-one, err-undone}
use Rattle.vr_worker_cases.proofs.volume.PlainVolumeServed.answer.Goals as goal

pub returns-clause-entered : goal.returns-clause-entered
returns-clause-entered c =
    let old = c.args.self.now.history.entries in
    entered-one c.args.self.now.number c.args.deck c.args.line (c.max-last.result + 1)
    c.args.request.now c.args.after c.is_last_event-done.result old c.push.new.self.entries
    (omega (arith, c.max-last.ensures, c.last.ensures))
    (c.push.ensures.entries ∙ ap (λ (them : List Entry). them ++ c.in_ok-entry.entry ∷ [])
    c.reserve.ensures.entries
    ∙ ap (λ (entry : Entry). old ++ entry ∷ []) c.in_ok-entry.ensures)
    c.requires.may_ask

pub returns-in_err-reserve-clause-entered : goal.returns-in_err-reserve-clause-entered
returns-in_err-reserve-clause-entered c =
    let old = c.args.self.now.history.entries in
    let new = c.reserve.new.self.entries in
    subst (λ (done : Bool). HasEntered c.args.self.now.number c.args.deck c.args.line
    c.args.request.now c.args.after done old new)
    (sym (err-undone c.from_residual-in_err-reserve.result _
    c.from_residual-in_err-reserve.ensures.1))
    (entered-none c.args.self.now.number c.args.deck c.args.line c.args.request.now c.args.after old
    new c.reserve.ensures.entries c.requires.may_ask)
