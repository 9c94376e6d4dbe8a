use Rattle.std.proofs.Common.{List, ◌++◌, sym, ap, ◌∙◌}
use Rattle.std.specs.List.{flat_map}
use Rattle.vr_seqset.specs.Entry.{Entry}
use Rattle.vr_seqset.proofs.NumberLemmas.{none_once, once_of_all}
use Rattle.vr_seqset.proofs.checks.mark_entries.Goals as goal

pub loop-entry-init : goal.loop-entry-init
loop-entry-init c = record {
  all = sym c.into_iter-entry-iterator.ensures.into_iter_gives;
  once = none_once c.args.limit;
  marks = c.requires.unset;
}

pub returns-then-not-mark_all : goal.returns-then-not-mark_all
returns-then-not-mark_all c =
    let numbers = flat_map (λ (e : Entry). e.intervals) c.loop-entry.yielded in (
      λ h. absurd cc,
      λ whole. absurd (c.if-not-mark_all.ensures numbers c.loop-entry.invariant.once
          c.loop-entry.invariant.marks
          (once_of_all c.args.limit c.args.entries c.loop-entry.yielded _ c.in-Some.entry
          (c.loop-entry.invariant.all ∙ ap (λ (x : List Entry). c.loop-entry.yielded
          ++ x) c.in-Some.ensures.steps) whole)),
    )
