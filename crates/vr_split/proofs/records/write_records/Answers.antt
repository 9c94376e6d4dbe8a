use Rattle.std.proofs.Common.{◌≡◌, ◌<◌, ◌+◌, ◌-◌, ℕ, List, length, take, drop, refl, sym}
use Rattle.std.proofs.Common.{ap, subst, ◌∙◌, arith, ⊎_elim, rules}
use Rattle.vr_ci_match.specs.declared.form.Form.{Form}
use Rattle.vr_ci_match.specs.declared.form.Form.TheVariants.{Plain}
use Rattle.vr_ci_match.specs.declared.form.Shape.TheVariants as shapes
use Rattle.vr_ci.specs.Interval.{Interval, IsInterval, room}
use Rattle.vr_ci.specs.Writer.{Holds, IsItemLength, SlotsAdded, form_of, size_of, added_of}
use Rattle.vr_ci.proofs.CallerLemmas.{one_value, interval_room}
use Rattle.vr_split.proofs.Parts.{part_more, part_none, as_meant}
use Rattle.vr_split.proofs.records.write_records.Goals as goal

pub returns-then-count-to : goal.returns-then-count-to
returns-then-count-to c value interval shape order within =
    let same : value ≡ c.in-Ok.view =
    one_value Plain c.args.bytes.now value c.in-Ok.view interval c.in-Ok.ensures.ok in
    let count : length value.items ≡ length c.in-Ok.view.items =
    ap (λ (v : Interval). length v.items) same in
    absurd (⊎_elim (λ few. omega (arith, few, within, count, c.count.ensures.count))
    (λ wrong. omega (arith, wrong.1, order)) c.then-count-to.either)

pub loop-i-init : goal.loop-i-init
loop-i-init c = record {
  holds = subst (Holds c.begin-writer.result) (sym (part_none c.in-Ok.view.items c.args.from))
      c.begin-writer.ensures.empty;
  form = search rules;
  size = search rules;
  buffer = refl;
}

pub add-requires : goal.add-requires
add-requires c =
    let more = part_more c.in-Ok.view.items c.args.from c.loop-i.i c.item.result.now c.live.result
    (search rules)
    (omega (arith, c.loop-i-test.true, c.if-count-to.false, c.count.ensures.count))
    c.item.ensures c.live.ensures c.in-Ok.ensures.ok.fits.items in
    subst (λ (f : Form). IsItemLength f (length c.item.result.now)) (sym c.loop-i.invariant.form)
    more.some

pub returns-then-is_err : goal.returns-then-is_err
returns-then-is_err c value interval shape order within =
    let more = part_more c.in-Ok.view.items c.args.from c.loop-i.i c.item.result.now c.live.result
    (search rules)
    (omega (arith, c.loop-i-test.true, c.if-count-to.false, c.count.ensures.count))
    c.item.ensures c.live.ensures c.in-Ok.ensures.ok.fits.items in
    let same : value ≡ c.in-Ok.view =
    one_value Plain c.args.bytes.now value c.in-Ok.view interval c.in-Ok.ensures.ok in
    let fits = interval_room Plain c.args.bytes.now c.in-Ok.view c.in-Ok.ensures.ok
    (ap (λ (v : Interval). v.shape) (sym same) ∙ shape) in
    let full : size_of c.loop-i.writer - 4 < room
    (drop c.args.from (take c.loop-i.i c.in-Ok.view.items)) + (length c.item.result.now + 3) =
    (c.add.ensures.full (drop c.args.from (take c.loop-i.i c.in-Ok.view.items))
    c.loop-i.invariant.holds).0 (search rules) in
    absurd (omega (arith, full, more.room, fits, c.loop-i.invariant.size, c.requires))

pub loop-i-preserved : goal.loop-i-preserved
loop-i-preserved c =
    let more = part_more c.in-Ok.view.items c.args.from c.loop-i.i c.item.result.now c.live.result
    (search rules)
    (omega (arith, c.loop-i-test.true, c.if-count-to.false, c.count.ensures.count))
    c.item.ensures c.live.ensures c.in-Ok.ensures.ok.fits.items in
    record {
      holds = search rules;
      form = search rules;
      size = search rules;
      buffer = search rules;
    }

pub end-requires : goal.end-requires
end-requires c =
    subst (λ (f : Form). SlotsAdded f (size_of c.loop-i.writer) (added_of c.loop-i.writer))
    (sym c.loop-i.invariant.form) tt

pub returns : goal.returns
returns c value interval shape order within =
    let same : value ≡ c.in-Ok.view =
    one_value Plain c.args.bytes.now value c.in-Ok.view interval c.in-Ok.ensures.ok in
    let last : c.loop-i.i ≡ c.args.to = search rules in
    let items : drop c.args.from (take c.loop-i.i c.in-Ok.view.items) ≡ drop c.args.from
    (take c.args.to value.items) =
    ap (λ (n : ℕ). drop c.args.from (take n c.in-Ok.view.items)) last
    ∙ ap (λ (v : Interval). drop c.args.from (take c.args.to v.items)) (sym same) in
    let ended = c.end.ensures.interval (drop c.args.from (take c.loop-i.i c.in-Ok.view.items))
    c.loop-i.invariant.holds in (
      refl,
      subst (λ (block : List ℕ). IsInterval Plain block (record {
        shape =
            shapes.Records;
        items = drop c.args.from (take c.args.to value.items);
        busy =
            c.args.busy;
      })) (search rules)
          (as_meant (form_of c.loop-i.writer)
          (drop c.args.from (take c.loop-i.i c.in-Ok.view.items))
          (drop c.args.from (take c.args.to value.items)) c.args.busy c.loop-i.invariant.form items
          ended),
    )
