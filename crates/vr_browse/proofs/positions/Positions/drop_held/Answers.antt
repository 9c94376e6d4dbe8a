use Rattle.std.proofs.Common.{List, get_or, ◌∙◌, ap, subst}
use Rattle.vr_browse.specs.declared.positions.FilePosition.{FilePosition}
use Rattle.vr_browse.specs.Positions.{AreInOrder, KeptPositions, no_file}
use Rattle.std.proofs.lemmas.List.{get_or_default}
use Rattle.vr_browse.proofs.PositionLemmas.{without_gap, without_there}
use Rattle.vr_browse.proofs.positions.Positions.drop_held.Goals as goal

-- the file holds nothing any more
pub returns-in-Ok-clause-files : goal.returns-in-Ok-clause-files
returns-in-Ok-clause-files c =
    let files_are = ap (λ (kept : KeptPositions). kept.files) c.self.view_is in
    let there = without_there _
    (subst AreInOrder files_are c.self.invariant) _ _ _ c.in-Ok.ensures in
    let read = c.index_mut.ensures.value
    ∙ ap (λ (l : List FilePosition). get_or l c.in-Ok.at c.index_mut.result.now) files_are
    ∙ get_or_default _ _ c.index_mut.result.now no_file c.in-Ok.ensures.in_range in
    cc

-- the file was never set
pub returns-in_default-clause-files : goal.returns-in_default-clause-files
returns-in_default-clause-files c = without_gap _ _ _ _ c.in_default.ensures
