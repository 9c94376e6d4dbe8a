use Rattle.std.proofs.lemmas.List.Elements.{All-from_recursion}
use Rattle.vr_edits.specs.Edits.{IsServedEntry, edited}
use Rattle.vr_edits.proofs.Rules.{by-recursion, served-kept}
use Rattle.vr_edits.proofs.laws.edits_are_served.Goals as goal

pub returns : goal.returns
returns c geometry entries edit may all =
    All-from_recursion (IsServedEntry geometry) (edited edit entries)
    (served-kept geometry entries edit may (by-recursion (IsServedEntry geometry) entries all))
