use Rattle.std.proofs.Common.{◌∙◌, ◌-◌, ◌∷◌, ◌++◌, [], ℕ, List, Option, ap, map, subst}
use Rattle.vr_trace.specs.Commands.{done}
use Rattle.vr_ams_define.specs.Grown.{AreRunOn}
use Rattle.vr_ams_define.proofs.GrownLemmas.{run-nothing}
use Rattle.vr_ams_print.specs.Printed.{has_keys}
use Rattle.vr_ams_print.specs.Record.{printed_line}
use Rattle.vr_ams_print.specs.Steps.{HasHandedOver, after_record, is_done}
use Rattle.vr_ams_print.proofs.Answered.{print-answered}
use Rattle.vr_ams_print.proofs.Sources.{there-of, within}
use Rattle.vr_ams_print.proofs.print.print_source.Given.{Over}
use Rattle.vr_ams_print.proofs.print.print_source.Goals as goal

-- the volumes are as they were
nothing : (g : Over) (line : ℕ) (volumes : List g.row.V.Denot)
    → AreRunOn g.V.OwnedVolume.history g.V.OwnedVolume.goes (line ∷ []) volumes volumes
nothing g line volumes = run-nothing g.V.OwnedVolume.history g.V.OwnedVolume.goes
    g.V.OwnedVolume.goes_nowhere (line ∷ []) volumes

pub returns-in_err-from-clause-grew : goal.returns-in_err-from-clause-grew
returns-in_err-from-clause-grew g c = nothing g c.args.line c.args.volumes.now

pub returns-in_err-printing-clause-grew : goal.returns-in_err-printing-clause-grew
returns-in_err-printing-clause-grew g c = nothing g c.args.line c.args.volumes.now

pub read_source-requires-clause-there : goal.read_source-requires-clause-there
read_source-requires-clause-there g c = there-of
    (has_keys c.args.command.now.from c.args.command.now.to)
    (map g.V.ShownVolume.shown c.args.volumes.now) c.args.command.now.source c.args.source.now
    c.requires.found

pub read_source-requires-clause-within : goal.read_source-requires-clause-within
read_source-requires-clause-within g c =
    let shown = g.V.ShownVolume.shown in
    within shown c.args.volumes.now c.args.source.now
    (there-of (has_keys c.args.command.now.from c.args.command.now.to)
    (map shown c.args.volumes.now) c.args.command.now.source c.args.source.now c.requires.found)

pub returns-in-Done-clause-printed : goal.returns-in-Done-clause-printed
returns-in-Done-clause-printed g c =
    let printing = c.read_source.new.visitor in
    let outcome = c.in_ok-into_outcome-in-Done.field-0 in
    print-answered g.V.ShownVolume.shown g.V.OwnedVolume.answers c.args.line c.args.command.now
    c.args.source.now c.args.alloc c.args.volumes.now c.read_source.new.volumes
    c.in_ok-printing.printing printing c.in_ok-read_source.field-0 outcome c.requires.found
    c.in_ok-printing.ensures c.in-Done.is
    (subst (λ (from : Option (List ℕ)). HasHandedOver g.V.OwnedVolume.answers after_record is_done
    c.args.line c.args.source.now from c.in_ok-printing.printing printing c.args.volumes.now
    c.read_source.new.volumes c.in_ok-read_source.field-0)
    (c.as_ref.ensures.value ∙ c.in_ok-from.ensures) c.in_ok-read_source.ensures.read)
    c.in_ok-into_outcome-in-Done.ensures.few
    (c.in_ok-into_outcome-in-Done.ensures.ended ∙ ap (λ (most : ℕ).
    done (printing.lines ++ printed_line (most - printing.left))) c.most_of.ensures)
