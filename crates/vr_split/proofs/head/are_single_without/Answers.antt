use Rattle.std.proofs.Common.{◌≡◌, ◌++◌, ◌∷◌, [], List, sym, ap, subst, ◌∙◌, true≢false}
use Rattle.std.proofs.Common.{append_assoc}
use Rattle.vr_seqset.specs.Entry.{Entry}
use Rattle.vr_split.specs.Halves.{AreSingleWithout}
use Rattle.vr_split.proofs.HeadTests.{single-none, single-push, single-one, single-other}
use Rattle.vr_split.proofs.head.are_single_without.Goals as goal

pub loop-entry-init : goal.loop-entry-init
loop-entry-init c = record {
  all = sym c.into_iter-entry-iterator.ensures.into_iter_gives;
  so_far = single-none c.args.into;
}

pub returns-then-intervals-ne1 : goal.returns-then-intervals-ne1
returns-then-intervals-ne1 c =
    let before : List Entry = c.loop-entry.yielded in
    let whole : c.args.entries ≡ before ++ c.in-Some.entry ∷ c.next.new.self =
    c.loop-entry.invariant.all ∙ ap (λ (es : List Entry). before ++ es) c.in-Some.ensures.steps in (
      λ is. absurd (true≢false (sym is)),
      λ are. absurd (c.if-intervals-ne1.true (c.intervals.ensures ∙ single-one c.args.into before
          c.next.new.self c.in-Some.entry (subst (AreSingleWithout c.args.into) whole are))),
    )

pub returns-then-interval-into : goal.returns-then-interval-into
returns-then-interval-into c =
    let before : List Entry = c.loop-entry.yielded in
    let whole : c.args.entries ≡ before ++ c.in-Some.entry ∷ c.next.new.self =
    c.loop-entry.invariant.all ∙ ap (λ (es : List Entry). before ++ es) c.in-Some.ensures.steps in (
      λ is. absurd (true≢false (sym is)),
      λ are. absurd (single-other c.args.into before c.next.new.self c.in-Some.entry
          (subst (AreSingleWithout c.args.into) whole are)
          (sym c.interval.ensures ∙ c.if-interval-into.true)),
    )

pub loop-entry-preserved : goal.loop-entry-preserved
loop-entry-preserved c =
    let entry : Entry = c.in-Some.entry in
    let before : List Entry = c.loop-entry.yielded in
    record {
      all = c.loop-entry.invariant.all
          ∙ ap (λ (es : List Entry). before ++ es) c.in-Some.ensures.steps
          ∙ sym (append_assoc before (entry ∷ []) c.next.new.self);
      so_far = single-push c.args.into before entry c.loop-entry.invariant.so_far
          (sym c.intervals.ensures ∙ c.if-intervals-ne1.false)
          (λ same. c.if-interval-into.false (c.interval.ensures ∙ same));
    }
