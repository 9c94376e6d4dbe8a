use Rattle.std.proofs.Common.{MatchResult, List, ◌∙◌, sym, ap, subst, rules}
use Rattle.std.proofs.lemmas.List.Sorted.{answers_always}
use Rattle.vr_browse.specs.declared.positions.FilePosition.{FilePosition}
use Rattle.vr_browse.specs.Positions.{AreInOrder, IsAt, IsGapFor, KeptPositions}
use Rattle.vr_browse.proofs.PositionLemmas.{searched}
use Rattle.vr_browse.proofs.positions.Positions.search.Goals as goal

-- the closure gives a file's deck and slot, and the slice is the files
pub returns : goal.returns
returns c =
    let facts = c.binary_search_by_key.ensures in
    let by_key = facts.position (λ file. (file.deck, file.slot))
    (answers_always _ _ _ (λ f a r g called. search rules)) in
    let found = searched c.deref.result.now
    (subst AreInOrder (sym c.deref.ensures.value) c.self.invariant) c.args.deck c.args.slot _
    facts.bound by_key in
    let P : List FilePosition → Type 0 =
    λ l. MatchResult c.binary_search_by_key.result (IsAt l c.args.deck c.args.slot)
    (IsGapFor l c.args.deck c.args.slot) in
    subst P (c.deref.ensures.value ∙ ap (λ (kept : KeptPositions). kept.files) c.self.view_is) found
