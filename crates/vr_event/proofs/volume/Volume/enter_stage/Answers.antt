use Rattle.std.proofs.Common.{None, Option, Some, subst, sym, true}
use Rattle.vr_types.specs.declared.unit.AreaNo.{AreaNo}
use Rattle.vr_event.specs.Staging.{IsStaged}
use Rattle.vr_event.specs.Volume.{VolumeNow}
use Rattle.vr_event.proofs.Staged.{held-staged, staged-laid, staged-least}
use Rattle.vr_event.proofs.volume.Volume.enter_stage.Goals as goal

pub returns-in-Some-clause-held : goal.returns-in-Some-clause-held
returns-in-Some-clause-held g c told opening areas staged =
    let seen = g.B.Blocks.seen in
    let before : VolumeNow g.row.B.Denot = record {
      blocks = c.self.inside.blocks;
      number = c.self.inside.number;
      store = c.self.inside.store;
      file = c.self.inside.file;
    } in
    let mine : IsStaged seen opening c.args.part areas (Some c.in-Some.area) before =
    subst (λ (taken : Option AreaNo). IsStaged seen opening c.args.part areas taken before)
    c.in-Some.is (subst (IsStaged seen opening c.args.part areas c.args.taken) (sym c.self.view_is)
    staged) in
    held-staged seen opening c.args.part areas before c.claim.new.self c.args.after c.args.unit
    c.args.line true (Some c.in-Some.area) c.claim.ensures.leaves mine
    (c.claim.ensures.state opening mine.file
    (staged-least seen opening c.args.part areas before c.in-Some.area mine)
    (staged-laid seen opening c.args.part areas before (Some c.in-Some.area) mine))

pub returns-in-None-clause-held : goal.returns-in-None-clause-held
returns-in-None-clause-held g c told opening areas staged =
    let seen = g.B.Blocks.seen in
    let before : VolumeNow g.row.B.Denot = record {
      blocks = c.self.inside.blocks;
      number = c.self.inside.number;
      store = c.self.inside.store;
      file = c.self.inside.file;
    } in
    let mine : IsStaged seen opening c.args.part areas None before =
    subst (λ (taken : Option AreaNo). IsStaged seen opening c.args.part areas taken before)
    c.in-None.is (subst (IsStaged seen opening c.args.part areas c.args.taken) (sym c.self.view_is)
    staged) in
    held-staged seen opening c.args.part areas before c.split.new.self c.args.after c.args.unit
    c.args.line true None c.split.ensures.leaves mine (c.split.ensures.state opening mine.file)
