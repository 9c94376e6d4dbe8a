use Rattle.std.proofs.Common.{◌≡◌, ◌∙◌, None, ap, refl, subst, sym}
use Rattle.vr_types.proofs.CallerLemmas.{keeps-none}
use Rattle.vr_log.specs.Live.{live_in}
use Rattle.vr_event.specs.Defining.{utility_unit}
use Rattle.vr_event.specs.Volume.{IsWhole, VolumeNow}
use Rattle.vr_event.proofs.EditCome.{come-live, still-held}
use Rattle.vr_event.proofs.UtilitySteps.{err-apart, less-still, live-edit, same-ok}
use Rattle.vr_event.proofs.volume.Volume.edit_unless_live.Goals as goal

pub is_idle-requires : goal.is_idle-requires
is_idle-requires g c =
    let seen = g.B.Blocks.seen in
    let before : VolumeNow g.row.B.Denot = record {
      blocks = c.self.inside.blocks;
      number = c.self.inside.number;
      store = c.self.inside.store;
      file = c.self.inside.file;
    } in
    let goes : before.file.stopped ≡ None =
    ap (λ (v : VolumeNow g.row.B.Denot). v.file.stopped) c.self.view_is ∙ c.requires.may.going in
    ((subst (IsWhole seen) (sym c.self.view_is) c.requires.may.whole).set goes).sound

pub returns-else-is_idle-clause-come : goal.returns-else-is_idle-clause-come
returns-else-is_idle-clause-come g c = come-live g.B.Blocks.seen c.args.after
    (utility_unit c.args.self.now.file) c.args.line c.args.edit.now
    c.args.self.now c.requires.may.whole
    (λ none. c.is_idle.ensures.live c.if-is_idle.false
    (ap (λ (v : VolumeNow g.row.B.Denot). live_in v.store.log.records) c.self.view_is ∙ none))

pub returns-else-is_idle-clause-held : goal.returns-else-is_idle-clause-held
returns-else-is_idle-clause-held g c told opening held = still-held g.B.Blocks.seen c.args.after
    (utility_unit c.args.self.now.file) c.args.line c.args.edit.now
    opening c.args.self.now g.B.Blocks.tells told
    (keeps-none g.B.Blocks.tells (g.B.Blocks.seen c.args.self.now.blocks)
    (λ told image is. g.met.B.Blocks.images_may c.args.self.now.blocks image told is))
    c.requires.may.going held

pub returns-in_err-prepared-clause-held : goal.returns-in_err-prepared-clause-held
returns-in_err-prepared-clause-held g c told opening held = still-held g.B.Blocks.seen
    c.args.after (utility_unit c.args.self.now.file) c.args.line c.args.edit.now
    opening c.args.self.now g.B.Blocks.tells told
    (keeps-none g.B.Blocks.tells (g.B.Blocks.seen c.args.self.now.blocks)
    (λ told image is. g.met.B.Blocks.images_may c.args.self.now.blocks image told is))
    c.requires.may.going held

pub returns-else-is_idle-clause-less : goal.returns-else-is_idle-clause-less
returns-else-is_idle-clause-less g c told = less-still _ c.args.self.now c.args.self.now
    (λ is. live-edit (same-ok refl is)) refl refl

pub returns-in_err-prepared-clause-less : goal.returns-in_err-prepared-clause-less
returns-in_err-prepared-clause-less g c told = less-still _ c.args.self.now c.args.self.now
    (err-apart c.from_residual.result _ c.from_residual.ensures.1) refl refl
