use Rattle.std.proofs.Common.{◌≡◌, ◌+◌, ◌∙◌, sym, ap, subst, refl, arith, List, drop}
use Rattle.vr_catalog.specs.declared.entry.CatEntry.{CatEntry}
use Rattle.vr_mount.specs.Numbers.{IsLone, number_by, numbers_by}
use Rattle.vr_mount.proofs.Telling.{distinct_from, distinct_after, distinct_end, lone_at, rest_is}
use Rattle.vr_mount.proofs.Telling.{untrue}
use Rattle.vr_mount.proofs.distinct.no_two.Goals as goal

pub returns-then-not-is_lone : goal.returns-then-not-is_lone
returns-then-not-is_lone c =
    let es = c.args.entries.now in
    let i = c.loop-i.i in
    let named : number_by c.args.which c.index-entries-i.result ≡ c.number_of.result =
    sym c.number_of.ensures in (
      λ yes. absurd cc,
      λ distinct.
          let lone = lone_at (number_by c.args.which) es i c.index-entries-i.result c.loop-i-test.true
          (c.loop-i.invariant.on distinct) in
          absurd (untrue c.is_lone.result c.is_lone.ensures c.if-not-is_lone.true
          (subst (λ (rest : List CatEntry). IsLone (numbers_by c.args.which rest) c.number_of.result)
          (sym (rest_is es (i + 1)))
          (subst (IsLone (numbers_by c.args.which (drop (i + 1) es)))
          (ap (number_by c.args.which) (sym c.index-entries-i.is) ∙ named) lone))),
    )

pub loop-i-preserved : goal.loop-i-preserved
loop-i-preserved c =
    let es = c.args.entries.now in
    let i = c.loop-i.i in
    let named : number_by c.args.which c.index-entries-i.result ≡ c.number_of.result =
    sym c.number_of.ensures in
    let lone = subst (IsLone (numbers_by c.args.which (drop (i + 1) es)))
    (sym (ap (number_by c.args.which) (sym c.index-entries-i.is) ∙ named))
    (subst (λ (rest : List CatEntry). IsLone (numbers_by c.args.which rest) c.number_of.result)
    (rest_is es (i + 1)) (c.is_lone.ensures.0 c.if-not-is_lone.false)) in
    record {
      back = λ distinct. c.loop-i.invariant.back
          (distinct_from (number_by c.args.which) es i c.index-entries-i.result
          c.loop-i-test.true lone distinct);
      on = λ distinct. distinct_after (number_by c.args.which) es i c.index-entries-i.result
          c.loop-i-test.true (c.loop-i.invariant.on distinct);
    }

pub returns : goal.returns
returns c = (
  λ yes. c.loop-i.invariant.back
      (distinct_end (number_by c.args.which) c.args.entries.now c.loop-i.i (omega arith)),
  λ distinct. refl,
)
