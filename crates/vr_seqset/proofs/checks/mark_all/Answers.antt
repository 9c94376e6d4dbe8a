use Rattle.std.proofs.Common.{◌≡◌, ℕ, [], ◌∷◌, ◌++◌, ◌+◌, ◌<◌, take, length, arith, sym, ap, subst}
use Rattle.std.proofs.Common.{◌∙◌}
use Rattle.vr_seqset.specs.Numbers.{AreOnceBelow, Marks}
use Rattle.vr_seqset.proofs.NumberLemmas.{mark_more, marked, past_limit, once_upto, more_used}
use Rattle.vr_seqset.proofs.checks.mark_all.Goals as goal
use Rattle.vr_seqset.proofs.checks.mark_all.Goals.{then-number-limit-via-then-number-limit}
use Rattle.vr_seqset.proofs.checks.mark_all.Goals.{then-number-limit-via-else-number-limit+then-seen-number}

pub returns-then-number-limit : goal.returns-then-number-limit
returns-then-number-limit c = λ used once marks whole.
    let ns = c.args.entry.now.intervals in
    let before = used ++ take c.loop-j.j c.args.entry.now.intervals in
    let lt : c.loop-j.j < length c.args.entry.now.intervals = omega arith in
    let upto : AreOnceBelow c.args.limit (before ++ c.interval-number.result ∷ []) =
    subst (λ (n : ℕ). AreOnceBelow c.args.limit (before ++ n ∷ []))
    (sym c.interval-number.ensures) (once_upto c.args.limit used ns c.loop-j.j lt whole) in
    elim c.then-number-limit.branch [
      | then-number-limit-via-then-number-limit w ↦
          past_limit c.args.limit before c.interval-number.result w.if-number-limit.true upto
      | then-number-limit-via-else-number-limit+then-seen-number w ↦
          marked c.args.limit c.loop-j.seen before c.interval-number.result w.if-seen-number.true
          (c.loop-j.invariant used once marks).1 upto
    ]

pub loop-j-preserved : goal.loop-j-preserved
loop-j-preserved c = λ used once marks.
    let ns = c.args.entry.now.intervals in
    let before = used ++ take c.loop-j.j c.args.entry.now.intervals in
    let lt : c.loop-j.j < length c.args.entry.now.intervals = omega arith in
    let more = mark_more c.args.limit c.loop-j.seen before c.interval-number.result (omega arith)
    (omega arith) c.if-seen-number.false (c.loop-j.invariant used once marks) in
    let same : before ++ c.interval-number.result ∷ [] ≡ used
    ++ take (c.loop-j.j + 1) c.args.entry.now.intervals =
    ap (λ (n : ℕ). before ++ n ∷ []) c.interval-number.ensures
    ∙ sym (more_used used ns c.loop-j.j lt) in
    (subst (AreOnceBelow c.args.limit) same more.0, subst (Marks c.args.limit _) same more.1)
