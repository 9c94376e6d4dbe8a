use Rattle.std.proofs.Common.{◌≡◌, true, List, length, ap, subst, ◌∙◌, refl, arith}
use Rattle.std.proofs.lemmas.List.{take_all}
use Rattle.vr_ci_match.specs.declared.form.Form.TheVariants.{Plain}
use Rattle.vr_ci_match.specs.declared.form.Shape.TheVariants as shapes
use Rattle.vr_ci.specs.Interval as ci
use Rattle.vr_space.specs.Keyed.{items_of}
use Rattle.vr_space.proofs.CallerLemmas.{items-read}
use Rattle.vr_split.proofs.Segments.{busy-copy}
use Rattle.vr_split.proofs.halves.write_busy.Goals as goal

pub returns-in_default : goal.returns-in_default
returns-in_default c = λ part range holds. absurd (c.in_default.ensures.only _ holds.spelled)

pub returns : goal.returns
returns c = λ part range holds.
    let block = c.args.block.now in
    let same : c.in-Ok.view.items ≡ items_of block =
    items-read part range block c.in-Ok.view holds c.in-Ok.ensures.ok in
    let count : c.count.result ≡ length (items_of block) =
    c.count.ensures.count ∙ ap (λ (xs : List ci.Item). length xs) same in
    busy-copy part range block c.write_records.new.out holds (omega arith)
    (subst (λ (xs : List ci.Item). ci.IsInterval Plain c.write_records.new.out (record {
      shape = shapes.Records;
      items = xs;
      busy = true;
    })) (take_all c.count.result (items_of block) (omega (arith, count)))
    (c.write_records.ensures _ holds.spelled refl (omega arith) (omega (arith, count))).1)
