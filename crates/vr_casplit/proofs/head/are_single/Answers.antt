use Rattle.std.proofs.Common.{◌≡◌, ◌++◌, ◌∷◌, [], List, All, length, sym, ap, subst, ◌∙◌}
use Rattle.std.proofs.Common.{append_assoc, true≢false}
use Rattle.std.proofs.lemmas.List.Elements.{All-head, All-nil, All-push}
use Rattle.vr_seqset.specs.Entry.{Entry}
use Rattle.vr_seqset.proofs.CallerLemmas.{All-right}
use Rattle.vr_casplit.proofs.head.are_single.Goals as goal

abbrev Single : Entry → Type 0
Single entry = length entry.intervals ≡ 1

pub loop-entry-init : goal.loop-entry-init
loop-entry-init c = record {
  all = sym c.into_iter-entry-iterator.ensures.into_iter_gives;
  so_far = All-nil Single;
}

pub returns-then-intervals-ne1 : goal.returns-then-intervals-ne1
returns-then-intervals-ne1 c =
    let before : List Entry = c.loop-entry.yielded in
    let whole : c.args.entries ≡ before ++ c.in-Some.entry ∷ c.next.new.self =
    c.loop-entry.invariant.all ∙ ap (λ (es : List Entry). before ++ es) c.in-Some.ensures.steps in (
      λ is. absurd (true≢false (sym is)),
      λ are. absurd (c.if-intervals-ne1.true (c.intervals.ensures
          ∙ All-head Single c.in-Some.entry c.next.new.self
          (All-right Single before (c.in-Some.entry ∷ c.next.new.self)
          (subst (All Single) whole are)))),
    )

pub loop-entry-preserved : goal.loop-entry-preserved
loop-entry-preserved c =
    let entry : Entry = c.in-Some.entry in
    let before : List Entry = c.loop-entry.yielded in
    record {
      all = c.loop-entry.invariant.all
          ∙ ap (λ (es : List Entry). before ++ es) c.in-Some.ensures.steps
          ∙ sym (append_assoc before (entry ∷ []) c.next.new.self);
      so_far = All-push Single before entry c.loop-entry.invariant.so_far
          (sym c.intervals.ensures ∙ c.if-intervals-ne1.false);
    }
