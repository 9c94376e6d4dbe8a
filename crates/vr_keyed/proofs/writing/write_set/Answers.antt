use Rattle.std.proofs.Common.{◌≡◌, ℕ, List, All, false, true≢false, refl, sym, ap}
use Rattle.std.proofs.Common.{subst, ◌∙◌, arith, rules}
use Rattle.vr_ci_match.specs.declared.form.Form.TheVariants.{Plain}
use Rattle.vr_ci_match.specs.declared.form.Shape.TheVariants as shapes
use Rattle.vr_ci_match.specs.Fault.{is_busy}
use Rattle.vr_ci.specs.Interval as ci
use Rattle.vr_ci.specs.Writer.{Holds, form_of}
use Rattle.vr_space.specs.Keyed.{IsKept, items_of}
use Rattle.vr_space.specs.Part.{given}
use Rattle.vr_space.proofs.CallerLemmas.{items-read}
use Rattle.vr_keyed.specs.Setting.{items_set}
use Rattle.vr_keyed.specs.Slots.{met_in}
use Rattle.vr_keyed.proofs.Parts.{of-form}
use Rattle.vr_keyed.proofs.writing.write_set.Goals as goal

pub returns-in_default : goal.returns-in_default
returns-in_default c = record {
  written = λ holds some fits.
      let block : List ℕ = c.args.slot.now.bytes.items in
      let value : ci.Interval = record {
        shape = shapes.Records;
        items = items_of block;
        busy = is_busy block;
      } in
      absurd (c.in_default.ensures.only value
      (subst (λ (bytes : List ℕ). ci.IsInterval Plain bytes value) (sym c.as_slice.ensures.value)
      holds.spelled));
}

pub write_in_place-requires-clause-read : goal.write_in_place-requires-clause-read
write_in_place-requires-clause-read c =
    subst (λ (block : List ℕ). ci.IsInterval Plain block c.in-Ok.view) c.as_slice.ensures.value
    c.in-Ok.ensures.ok

pub returns-then-write_in_place : goal.returns-then-write_in_place
returns-then-write_in_place c = record {
  written = λ holds some fits. (
    refl,
    c.write_in_place.ensures.written c.if-write_in_place.true holds,
  );
}

pub returns-then-not-add_set : goal.returns-then-not-add_set
returns-then-not-add_set c = record {
  written = λ holds some fits.
      let part = c.args.layout.now in
      let slot = c.args.slot.now in
      let range = (met_in slot).range in
      let new = given c.args.bytes in
      let same : c.in-Ok.view.items ≡ items_of slot.bytes.items =
      items-read part range slot.bytes.items c.in-Ok.view holds
      (subst (λ (block : List ℕ). ci.IsInterval Plain block c.in-Ok.view) c.as_slice.ensures.value
      c.in-Ok.ensures.ok) in
      let room = ap (λ (items : List ci.Item).
      ci.room (items_set part range c.args.place.now new items)) same in
      absurd (true≢false (sym (c.add_set.ensures.added c.begin-writer.ensures.empty
      (subst (All (IsKept part)) (sym same) holds.kept) some
      (omega (arith, fits, room, c.begin-writer.ensures.size, c.write_in_place.ensures.size))).0 ∙ c.if-not-add_set.true));
}

pub returns : goal.returns
returns c = record {
  written = λ holds some fits.
      let part = c.args.layout.now in
      let slot = c.args.slot.now in
      let range = (met_in slot).range in
      let new = given c.args.bytes in
      let place = c.args.place.now in
      let same : c.in-Ok.view.items ≡ items_of slot.bytes.items =
      items-read part range slot.bytes.items c.in-Ok.view holds
      (subst (λ (block : List ℕ). ci.IsInterval Plain block c.in-Ok.view) c.as_slice.ensures.value
      c.in-Ok.ensures.ok) in
      let room = ap (λ (items : List ci.Item). ci.room (items_set part range place new items)) same
      in
      let added = c.add_set.ensures.added c.begin-writer.ensures.empty
      (subst (All (IsKept part)) (sym same) holds.kept) some
      (omega (arith, fits, room, c.begin-writer.ensures.size, c.write_in_place.ensures.size)) in
      let items : List ci.Item = items_set part range place new (items_of slot.bytes.items) in
      let held : Holds c.add_set.new.writer items =
      subst (λ (xs : List ci.Item). Holds c.add_set.new.writer (items_set part range place new xs))
      same added.1 in (
        refl,
        subst (λ (block : List ℕ). ci.IsInterval Plain block (record {
          shape = shapes.Records;
          items = items;
          busy = false;
        })) (search rules) (of-form (form_of c.add_set.new.writer) items false
            (c.add_set.ensures.form
            ∙ c.begin-writer.ensures.form) (c.end.ensures.interval items held)),
      );
}
