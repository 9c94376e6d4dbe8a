-- What a PRINT comes to, by what its volume handed over.
use Rattle.std.proofs.Common.{◌≡◌, ◌<◌, ◌-◌, ◌++◌, ℕ, List, length, map, subst}
use Rattle.std.specs.Prelude.{◌^◌}
use Rattle.std.specs.Global.{Global}
use Rattle.vr_amsparse.specs.declared.command.PrintCommand.{PrintCommand}
use Rattle.vr_trace.specs.Commands.{done}
use Rattle.vr_trace.specs.Shown.{Shown}
use Rattle.vr_trace.specs.Visitors.{visited_by}
use Rattle.vr_trace.specs.declared.command.Outcome.{Outcome}
use Rattle.vr_ams_define.specs.Answers.{Answering}
use Rattle.vr_ams_define.specs.declared.answer.ReadBack.{ReadBack}
use Rattle.vr_ams_define.specs.declared.answer.ReadBack.TheVariants as reads
use Rattle.vr_ams_print.specs.Outcomes.{IsPrintAnswered, reading}
use Rattle.vr_ams_print.specs.Printed.{first_place, has_keys}
use Rattle.vr_ams_print.specs.Record.{printed_line}
use Rattle.vr_ams_print.specs.Steps.{HasHandedOver, IsSource, after_record, is_done}
use Rattle.vr_ams_print.specs.Steps.{most_of, started}
use Rattle.vr_ams_print.specs.declared.printing.Printing.{Printing}
use Rattle.vr_ams_print.specs.declared.source.FoundCluster.{FoundCluster}
use Rattle.vr_ams_print.proofs.Selected.{print-is}
use Rattle.vr_ams_print.proofs.Sources.{asked-named}

-- it handed its records over, from the first to the last
pub print-answered : {V : Type 0} (shown : V → Shown) (answers : Answering V) (line : ℕ)
    (command : PrintCommand) (source : FoundCluster) (alloc : Global) (old new : List V)
    (before left : Printing) (answer : ReadBack) (outcome : Outcome)
    → IsSource (has_keys command.from command.to) (map shown old) command.source source
    → before ≡ started alloc source.kind command → answer ≡ reads.Done
    → HasHandedOver answers after_record is_done line source (first_place command.from) before left
    old new answer
    → length left.lines < 2 ^ 64
    → outcome ≡ done (left.lines ++ printed_line (most_of command.to - left.left))
    → IsPrintAnswered shown answers line command old new outcome
print-answered shown answers line command source alloc old new before left answer outcome found
    made is read few ended = record {
      kind = source.kind;
      records = all.records;
      answer = reads.Done;
      asked = asked-named shown answers line (has_keys command.from command.to) command.source
          source (reading command all.records reads.Done) old new found all.asked;
      outcome_is = print-is alloc source.kind command all.records left outcome
          (subst (λ (it : Printing).
          left ≡ visited_by after_record is_done all.records it) made all.visited) few ended;
    }
  where
    all : HasHandedOver answers after_record is_done line source (first_place command.from) before
        left old new reads.Done
    all = subst (λ (it : ReadBack).
        HasHandedOver answers after_record is_done line source (first_place command.from) before
        left old new it) is read
