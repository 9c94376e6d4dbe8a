use Rattle.std.proofs.Common.{◌-◌, ◌+◌, ◌≡◌, All, take, drop, length, arith, refl, ◌∙◌}
use Rattle.std.specs.List.{flat_map}
use Rattle.std.proofs.lemmas.List.{take_rest}
use Rattle.std.proofs.lemmas.Option.{IfSome_then}
use Rattle.vr_seqset.specs.Entry.{IsWhole, entries_in, entry_bytes}
use Rattle.vr_seqset.proofs.RecordLemmas.{cut_from, whole_from, rest_from, both_some, IfNone-then}
use Rattle.vr_seqset.proofs.RecordLemmas.{count_some, place_some, place_within}
use Rattle.vr_seqset.proofs.checks.rest_of.Goals as goal
use Rattle.vr_seqset.proofs.checks.rest_of.Goals.{then-count-eq0-via-then-count-eq0}
use Rattle.vr_seqset.proofs.checks.rest_of.Goals.{then-count-eq0-via-else-count-eq0+then-place-eq0}
use Rattle.vr_seqset.proofs.checks.rest_of.Goals.{then-count-eq0-via-else-count-eq0+else-place-eq0+then-place-block}

pub returns-then-count-eq0-clause-none : goal.returns-then-count-eq0-clause-none
returns-then-count-eq0-clause-none c = λ cut.
    elim c.then-count-eq0.branch [
      | then-count-eq0-via-then-count-eq0 w ↦ omega (arith, count_some c.args.block.now cut)
      | then-count-eq0-via-else-count-eq0+then-place-eq0 w ↦
          omega (arith, place_some c.args.block.now cut)
      | then-count-eq0-via-else-count-eq0+else-place-eq0+then-place-block w ↦
          omega (arith, place_within c.args.block.now cut)
    ]

pub returns-clause-cut : goal.returns-clause-cut
returns-clause-cut c =
    let behind = take (length c.args.block.now - (32 + c.two_at-place.result))
    (drop (32 + c.two_at-place.result) c.args.block.now) in
    IfSome_then c.after_entries.result c.after_entries.ensures.whole (λ x whole.
    cut_from c.args.block.now behind c.two_at-count.result c.two_at-place.result
    c.two_at-count.ensures c.two_at-place.ensures
    (take_rest c.args.block.now (32 + c.two_at-place.result))
    (λ i. omega (arith, c.type_inv.block i)) (c.if-not-is_block_size.ensures.0 refl) (omega arith)
    (omega arith) (omega arith) whole)

pub returns-clause-rest : goal.returns-clause-rest
returns-clause-rest c =
    let behind = take (length c.args.block.now - (32 + c.two_at-place.result))
    (drop (32 + c.two_at-place.result) c.args.block.now) in
    both_some c.after_entries.result
    (λ _. All (IsWhole c.two_at-place.result)
    (entries_in c.two_at-count.result c.two_at-place.result behind))
    (λ rest. rest.now ≡ drop (length (flat_map entry_bytes
    (entries_in c.two_at-count.result c.two_at-place.result behind))) behind)
    _
    c.after_entries.ensures.whole c.after_entries.ensures.rest (λ x whole rest.
    rest ∙ rest_from c.args.block.now behind c.two_at-count.result c.two_at-place.result
    c.two_at-count.ensures c.two_at-place.ensures
    (take_rest c.args.block.now (32 + c.two_at-place.result))
    (cut_from c.args.block.now behind c.two_at-count.result c.two_at-place.result
    c.two_at-count.ensures c.two_at-place.ensures
    (take_rest c.args.block.now (32 + c.two_at-place.result))
    (λ i. omega (arith, c.type_inv.block i)) (c.if-not-is_block_size.ensures.0 refl) (omega arith)
    (omega arith) (omega arith) whole))

pub returns-clause-none : goal.returns-clause-none
returns-clause-none c =
    let behind = take (length c.args.block.now - (32 + c.two_at-place.result))
    (drop (32 + c.two_at-place.result) c.args.block.now) in
    IfNone-then c.after_entries.result _ _ c.after_entries.ensures.none (λ broken cut.
    broken (whole_from c.args.block.now behind c.two_at-count.result c.two_at-place.result
    c.two_at-count.ensures c.two_at-place.ensures
    (take_rest c.args.block.now (32 + c.two_at-place.result)) cut))
