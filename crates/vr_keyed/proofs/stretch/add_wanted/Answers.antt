use Rattle.std.proofs.Common.{◌≡◌, ◌≤◌, ◌+◌, ℕ, ◌++◌, ◌∷◌, [], List, IsTrue, true, false, length}
use Rattle.std.proofs.Common.{refl, sym, ap, subst, ◌∙◌, arith}
use Rattle.std.specs.Prelude.{IsErr}
use Rattle.vr_ci.specs.Interval as ci
use Rattle.vr_ci.specs.Writer.{Holds, written}
use Rattle.vr_keyed.specs.Setting.{items_in}
use Rattle.vr_keyed.proofs.Adding.{is_one, one_of, test-false, in-wanted, holds-other, written-is}
use Rattle.vr_keyed.proofs.Adding.{not-err, on-ok}
use Rattle.vr_keyed.proofs.stretch.add_wanted.Goals as goal

pub returns-then-not-is_wanted-clause-added : goal.returns-then-not-is_wanted-clause-added
returns-then-not-is_wanted-clause-added c items item holds same lives kept fits =
    let part = c.args.layout.now in
    let stretch = c.args.stretch.now in
    let none : is_one part stretch item ≡ false =
    ap (one_of part stretch) same
    ∙ test-false c.is_wanted.result (one_of part stretch c.args.bytes.now) c.is_wanted.ensures
    c.if-not-is_wanted.true
    (subst (λ (bytes : List ℕ). part.offset + part.key ≤ length bytes) same kept.valid.least) in
    (refl, holds-other part stretch c.args.writer.now items item none holds)

pub returns-clause-added : goal.returns-clause-added
returns-clause-added c items item holds same lives kept fits =
    let part = c.args.layout.now in
    let stretch = c.args.stretch.now in
    let one : is_one part stretch item ≡ true =
    ap (one_of part stretch) same ∙ (c.is_wanted.ensures.0 c.if-not-is_wanted.false).1 in
    let alone : items_in part stretch (item ∷ []) ≡ item ∷ [] = in-wanted part stretch item one in
    let long : length item.bytes ≡ length c.args.bytes.now = ap length same in
    let none : IsErr c.add.result → ⊥ =
    λ err. omega (arith, (c.add.ensures.full items holds).0 err, fits, ap ci.room alone, long) in
    let ok : IsTrue c.is_ok.result = c.is_ok.ensures.value ∙ not-err c.add.result none in
    let added : Holds c.add.new.self (items ++ written c.args.bytes.now c.args.live ∷ []) =
    on-ok c.add.result _ (not-err c.add.result none) (c.add.ensures.ok items holds) in (
      ok,
      subst (λ (xs : List ci.Item). Holds c.add.new.self (items ++ xs))
          (ap (λ (x : ci.Item). x ∷ [])
          (written-is item c.args.bytes.now c.args.live same lives kept.live) ∙ sym alone) added,
    )
