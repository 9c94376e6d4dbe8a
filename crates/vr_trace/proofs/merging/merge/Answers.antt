use Rattle.std.proofs.Common.{List, ◌++◌, ◌∙◌, map, ap, rules}
use Rattle.std.proofs.lemmas.List.Sorted.{answers_always}
use Rattle.vr_history.specs.declared.entry.Entry.{Entry}
use Rattle.vr_history.specs.Merged.{in_order, numbered_from}
use Rattle.vr_trace.specs.declared.merging.NumberedEntry.{NumberedEntry}
use Rattle.vr_trace.specs.Numbering.{numbered_of}
use Rattle.vr_trace.specs.Volumes.{entries_of}
use Rattle.vr_trace.proofs.Orders.{held_rank, sorted_entries}
use Rattle.vr_trace.proofs.merging.merge.Goals as goal

pub returns : goal.returns
returns c =
    let all : List (List Entry) = entries_of c.as_slice.result.now in
    sorted_entries c.number_all.new.entries.items c.sort_by_key.new.self.items
    (c.in_ok-sort_by_key.ensures.sorted held_rank (answers_always _ _ _ (λ f a r g h. search rules)))
    (c.in_ok-sort_by_key.ensures.stable held_rank (answers_always _ _ _ (λ f a r g h. search rules)))
    ∙ ap in_order (c.in_ok-number_all.ensures
    ∙ ap (λ (items : List NumberedEntry). map numbered_of items ++ numbered_from 0 all)
    c.new-entries.ensures.items)
    ∙ ap (λ (histories : List (List Entry)). in_order (numbered_from 0 histories))
    c.as_slice.ensures
