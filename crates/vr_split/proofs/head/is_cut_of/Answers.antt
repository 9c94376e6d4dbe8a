use Rattle.std.proofs.Common.{length, ◌≡◌, sym, ◌∙◌, ap, true≢false}
use Rattle.std.specs.Ordering.{is_lt}
use Rattle.std.proofs.lemmas.Bool.{eqb-true}
use Rattle.vr_types.specs.Content.{place_cmp}
use Rattle.vr_space.proofs.CallerLemmas.{got-whole, lt_from_test}
use Rattle.vr_split.proofs.HeadTests.{cut-no-entry, cut-entry, cut-found}
use Rattle.vr_split.proofs.head.is_cut_of.Goals as goal

pub returns-in_default : goal.returns-in_default
returns-in_default c = (
  λ is. absurd (true≢false (sym is)),
  λ is. absurd (cut-no-entry c.args.old c.args.cut.now c.args.view.now c.in_default.ensures.none
      is),
)

pub interval-requires : goal.interval-requires
interval-requires c = (got-whole (length c.args.view.now.low) c.args.view.now.entries
    c.in-Some.field-0-0 c.in-Some.entry c.requires c.in-Some.ensures.entry).some

pub returns-then-interval-old : goal.returns-then-interval-old
returns-then-interval-old c =
    let leads = c.in-Some.ensures.found in
    let compared : c.cmp.result ≡ place_cmp c.args.cut.now c.in-Some.entry.high =
    c.cmp.ensures ∙ ap (place_cmp c.args.cut.now) c.high.ensures in (
      λ is. cut-found c.args.old c.args.cut.now c.args.view.now _ c.in-Some.entry leads
          (sym c.interval.ensures ∙ c.if-interval-old.true)
          (lt_from_test (place_cmp c.args.cut.now c.in-Some.entry.high)
          (ap is_lt (sym compared) ∙ sym c.is_lt.ensures ∙ is)),
      λ is. c.is_lt.ensures ∙ ap is_lt (compared ∙ (cut-entry c.args.old c.args.cut.now
          c.args.view.now _ c.in-Some.entry leads is).1),
    )

pub returns-else-interval-old : goal.returns-else-interval-old
returns-else-interval-old c =
    let leads = c.in-Some.ensures.found in (
      λ is. absurd (c.if-interval-old.false (eqb-true c.interval.result c.args.old is)),
      λ is. absurd (c.if-interval-old.false (c.interval.ensures ∙ (cut-entry c.args.old
          c.args.cut.now c.args.view.now _ c.in-Some.entry leads is).0)),
    )
