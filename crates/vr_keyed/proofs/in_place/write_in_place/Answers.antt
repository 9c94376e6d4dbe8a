use Rattle.std.proofs.Common.{◌≡◌, List, ℕ, Option, Some, false, rules, sym, ap, subst, arith}
use Rattle.vr_ci_match.specs.declared.form.Form.TheVariants.{Plain}
use Rattle.vr_ci_match.specs.declared.form.Shape.TheVariants as shapes
use Rattle.vr_ci.specs.Interval as ci
use Rattle.vr_ci.proofs.CallerLemmas.{items_within}
use Rattle.vr_space.specs.Keyed.{items_of}
use Rattle.vr_space.specs.Part.{given}
use Rattle.vr_keyed.specs.Setting.{items_set}
use Rattle.vr_keyed.specs.Slots.{met_in}
use Rattle.vr_keyed.proofs.InPlace.{stands-within, stands-at, over-is-set}
use Rattle.vr_keyed.proofs.in_place.write_in_place.Goals as goal

pub place_of-requires : goal.place_of-requires
place_of-requires c =
    omega (
      arith,
      items_within Plain c.args.slot.now.bytes.items c.args.view.now c.requires.read,
      c.requires.read.size.most,
    )

pub write_over-requires : goal.write_over-requires
write_over-requires c =
    omega (
      arith,
      items_within Plain c.args.slot.now.bytes.items c.args.view.now c.requires.read,
      stands-within c.args.layout.now c.args.place.now _ c.in-Some-place_of.at c.args.view.now.items
          c.in-Some-place_of.ensures,
      c.requires.size,
    )

pub returns-clause-written : goal.returns-clause-written
returns-clause-written c = λ ok holds.
    let part = c.args.layout.now in
    let range = (met_in c.args.slot.now).range in
    let block : List ℕ = c.args.slot.now.bytes.items in
    let value = c.args.view.now in
    let place = c.args.place.now in
    let stands = c.in-Some-place_of.ensures in
    let copied : c.copy_from_slice.new.self ≡ c.args.slot.now.bytes.items = search rules in
    let idle : c.args.view.now.busy ≡ false = search rules in
    let same : given c.args.bytes ≡ Some c.in-Some.bytes.now = ap given c.in-Some.is in
    subst (λ (new : Option (List ℕ)). ci.IsInterval Plain c.write_over.new.out (record {
      shape = shapes.Records;
      items = items_set part range place new (items_of block);
      busy = false;
    })) (sym same)
    (over-is-set part range block value place _ c.in-Some-place_of.at c.requires.read stands holds
    c.in-Some.bytes.now c.write_over.new.out idle
    (c.write_over.ensures.over Plain value stands.before stands.after stands.item
    (subst (λ (x : List ℕ). ci.IsInterval Plain x value) (sym copied) c.requires.read)
    (stands-at part range block value place _ c.in-Some-place_of.at c.requires.read stands holds)))
