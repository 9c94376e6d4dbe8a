use Rattle.std.proofs.Common.{◌≡◌, ◌≢◌, ◌∙◌, ℕ, List, None, ap, refl, subst}
use Rattle.std.specs.Prelude.{Ok}
use Rattle.vr_types.specs.declared.unit.Unit.{Unit as UnitOfRecovery}
use Rattle.vr_types.proofs.CallerLemmas.{keeps-none}
use Rattle.vr_record_file.specs.Now.{number_of}
use Rattle.vr_event.specs.Defining.{utility_unit}
use Rattle.vr_event.specs.EditSteps.{HasEditCome}
use Rattle.vr_event.specs.Volume.{VolumeNow}
use Rattle.vr_event.proofs.EditCome.{come-hindered, still-held}
use Rattle.vr_event.proofs.EditRecords.{few-changes}
use Rattle.vr_event.proofs.UtilitySteps.{less-still, hindered-edit, same-ok}
use Rattle.vr_event.proofs.volume.Volume.edit_prepared.Goals as goal

pub edit_hindrance-requires-clause-few : goal.edit_hindrance-requires-clause-few
edit_hindrance-requires-clause-few g c = few-changes c.args.self.now.file.geometry
    c.args.self.now.file.catalog c.args.edit.now c.requires.may.edit_is

pub edit_hindrance-requires-clause-names : goal.edit_hindrance-requires-clause-names
edit_hindrance-requires-clause-names g c = c.as_slice.ensures.value ∙ c.requires.prepared.names

pub returns-in-Some-clause-come : goal.returns-in-Some-clause-come
returns-in-Some-clause-come g c =
    let volume = c.args.self.now in
    let unit : UnitOfRecovery = record { deck = 0; number = c.number.result } in
    let unit-is : unit ≡ utility_unit volume.file =
    ap (λ (n : ℕ). record { deck = 0; number = n }) (c.number.ensures.value
    ∙ ap (λ (v : VolumeNow g.row.B.Denot). number_of v.file.numbers 0) c.self.view_is) in
    subst (λ (u : UnitOfRecovery). HasEditCome g.B.Blocks.seen c.args.after u c.args.line
    c.args.edit.now (Ok c.in-Some.no) volume volume) unit-is
    (come-hindered g.B.Blocks.seen c.args.after unit c.args.line c.args.edit.now c.in-Some.no
    volume c.requires.may.whole c.in-Some.ensures.is c.in-Some.ensures.kept_out
    c.in-Some.ensures.full)

pub returns-in-Some-clause-held : goal.returns-in-Some-clause-held
returns-in-Some-clause-held g c told opening held = still-held g.B.Blocks.seen c.args.after
    (utility_unit c.args.self.now.file) c.args.line c.args.edit.now
    opening c.args.self.now g.B.Blocks.tells told
    (keeps-none g.B.Blocks.tells (g.B.Blocks.seen c.args.self.now.blocks)
    (λ told image is. g.met.B.Blocks.images_may c.args.self.now.blocks image told is))
    c.requires.may.going held

pub returns-in-Some-clause-less : goal.returns-in-Some-clause-less
returns-in-Some-clause-less g c told = less-still _ c.args.self.now c.args.self.now
    (λ is. hindered-edit c.in-Some.no c.in-Some.ensures.is (same-ok refl is)) refl refl
