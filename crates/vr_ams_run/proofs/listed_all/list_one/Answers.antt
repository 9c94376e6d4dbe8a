use Rattle.std.proofs.Common.{arith, subst}
use Rattle.vr_ams_define.specs.declared.answer.Counted.{Counted}
use Rattle.vr_ams_run.specs.Counting.{IsCounted}
use Rattle.vr_ams_run.proofs.Counting.{listed-as, within}
use Rattle.vr_ams_run.proofs.listed_all.list_one.Goals as goal

pub returns-in_ok-write_full-in-Done-clause-listed :
    goal.returns-in_ok-write_full-in-Done-clause-listed
returns-in_ok-write_full-in-Done-clause-listed g c =
    let shown = g.V.ShownVolume.shown in
    let answers = g.V.OwnedVolume.answers in
    listed-as shown answers c.args.line c.args.listed.now c.args.volumes.now
    c.count_one.new.volumes c.index-volumes-listed.result c.args.out.now c.write_full.new.out
    c.in-Done.numbers c.catalog-catalog.result.now
    (omega (
      arith,
      within shown c.args.volumes.now c.args.listed.now c.requires.there,
      c.count_one.ensures.grew.count,
    ))
    (subst (λ (counted : Counted). IsCounted shown answers c.args.line c.args.listed.now
    c.args.volumes.now c.count_one.new.volumes counted) c.in-Done.is c.in_ok-fault.ensures.counted)
    c.catalog-catalog.ensures c.in_ok-write_full-in-Done.ensures
