use Rattle.std.proofs.Common.{◌≡◌, ◌∙◌, None, ap, false, refl, subst, sym}
use Rattle.vr_types.specs.declared.reply.Reply.TheVariants.{Done}
use Rattle.vr_log.specs.Live.{is_in, live_in, used_by}
use Rattle.vr_history.specs.State.{State}
use Rattle.vr_record_file.specs.Now.{FileNow, MayBeAsked, state_now}
use Rattle.vr_volume.specs.Steps.{IsEndedIn}
use Rattle.vr_event.specs.Volume.{IsHeld, IsWhole, VolumeNow}
use Rattle.vr_event.proofs.UnitEnded.{held-ended}
use Rattle.vr_event.proofs.UnitIdle.{stored-idle}
use Rattle.vr_event.proofs.volume.Volume.end_idle.Goals as goal

pub returns-clause-held : goal.returns-clause-held
returns-clause-held g c told opening held asked =
    let seen = g.B.Blocks.seen in
    let before : VolumeNow g.row.B.Denot = record {
      blocks = c.self.inside.blocks;
      number = c.self.inside.number;
      store = c.self.inside.store;
      file = c.self.inside.file;
    } in
    let file = c.self.inside.file in
    let unit = c.args.unit in
    let was : IsHeld seen opening before =
    subst (IsHeld seen opening) (sym c.self.view_is) held in
    let may : MayBeAsked opening file unit c.args.request (Done 0 None None) =
    subst (λ (f : FileNow). MayBeAsked opening f unit c.args.request (Done 0 None None))
    (sym (ap (λ (v : VolumeNow g.row.B.Denot). v.file) c.self.view_is)) asked in
    let going : file.stopped ≡ None =
    ap (λ (v : VolumeNow g.row.B.Denot). v.file.stopped) c.self.view_is ∙ c.requires.going in
    let old : State = state_now opening file in
    held-ended seen opening before c.end_unit.new.self before.store before.blocks c.args.after
    unit c.args.line c.args.request c.requires.ends c.end_unit.ensures.leaves going refl was
    (c.end_unit.ensures.state opening was.file may c.requires.ends)
    (λ (new : State) (made : IsEndedIn unit old new).
    stored-idle before.number before.store old new (seen before.blocks) unit (was.stored going)
    may.current made
    (subst (λ (v : VolumeNow g.row.B.Denot). is_in unit (live_in v.store.log.records) ≡ false)
    (sym c.self.view_is) c.requires.dead)
    (λ none. ap used_by (((subst (IsWhole seen) (sym c.self.view_is) c.requires.whole).set going).idle
    none)))
