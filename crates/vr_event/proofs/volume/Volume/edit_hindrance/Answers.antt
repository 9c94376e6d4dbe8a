use Rattle.std.proofs.Common.{◌≡◌, ◌≢◌, ◌∙◌, None, ap, subst, sym, true, false, List}
use Rattle.std.specs.List.{list_any}
use Rattle.vr_types.specs.declared.lock_name.LockName.{LockName}
use Rattle.vr_event.specs.CatalogEdit.{AreUnlocked, IsKeptOut, changes_of}
use Rattle.vr_event.specs.Volume.{IsWhole, VolumeNow}
use Rattle.vr_event.proofs.EditHindered.{is-locked, none-locked, one-locked}
use Rattle.vr_event.proofs.volume.Volume.edit_hindrance.Goals as goal

pub used-requires : goal.used-requires
used-requires g c =
    let seen = g.B.Blocks.seen in
    let before : VolumeNow g.row.B.Denot = record {
      blocks = c.self.inside.blocks;
      number = c.self.inside.number;
      store = c.self.inside.store;
      file = c.self.inside.file;
    } in
    let goes : before.file.stopped ≡ None =
    ap (λ (v : VolumeNow g.row.B.Denot). v.file.stopped) c.self.view_is ∙ c.requires.going in
    ((subst (IsWhole seen) (sym c.self.view_is) c.requires.whole).set goes).sound

pub returns-then-is_one_locked-clause-kept_out : goal.returns-then-is_one_locked-clause-kept_out
returns-then-is_one_locked-clause-kept_out g c is =
    let file = c.self.inside.file in
    subst (λ (v : VolumeNow g.row.B.Denot). IsKeptOut v.file c.args.unit c.args.edit.now)
    c.self.view_is
    (one-locked file.locks c.args.unit (changes_of c.args.edit.now)
    (subst (λ (names : List LockName). list_any (is-locked file.locks c.args.unit) names ≡ true)
    c.requires.names (sym c.is_one_locked.ensures ∙ c.if-is_one_locked.true)))

pub returns-then-log_holds-clause-unlocked : goal.returns-then-log_holds-clause-unlocked
returns-then-log_holds-clause-unlocked g c none =
    let file = c.self.inside.file in
    subst (λ (v : VolumeNow g.row.B.Denot).
    AreUnlocked v.file c.args.unit (changes_of c.args.edit.now)) c.self.view_is
    (none-locked file.locks c.args.unit (changes_of c.args.edit.now)
    (subst (λ (names : List LockName). list_any (is-locked file.locks c.args.unit) names ≡ false)
    c.requires.names (sym c.is_one_locked.ensures ∙ c.if-is_one_locked.false)))
