use Rattle.std.proofs.Common.{◌≡◌, List, sym, ap, ◌∙◌, refl, subst, take, length, inl, inr}
use Rattle.std.proofs.lemmas.List.{with_items_is}
use Rattle.vr_split.specs.Weights.{LengthsRoom, StandsAt}
use Rattle.vr_split.specs.Entries.{lengths_seen, HaveBytes}
use Rattle.vr_split.specs.declared.weights.Entry.{Entry}
use Rattle.vr_split.proofs.EntryLemmas.{placed_there, placed_in, with_place, no_room}
use Rattle.vr_split.proofs.EntryLemmas.{position_read, not_there}
use Rattle.vr_split.proofs.weights.Weights.add.Goals as goal
use Rattle.vr_split.proofs.weights.Weights.add.Goals.{then-self-len-via-then-self-len}
use Rattle.vr_split.proofs.weights.Weights.add.Goals.{}
use Rattle.vr_split.proofs.weights.Weights.add.Goals.{then-self-len-via-else-self-len+then-self-place}

pub invariant_of-self : goal.invariant_of-self
invariant_of-self c =
    let items = c.self.inside.entries.items in
    let used = c.self.inside.used in
    let at = c.position_in-at.result in
    let place = c.args.place.now in
    let stands : StandsAt (lengths_seen (take used items)) at place =
    subst (λ (xs : List Entry). StandsAt (lengths_seen (take used xs)) at place)
    c.deref-2.ensures.value (c.stands_at.ensures.0 c.if-stands_at.true) in
    (placed_there items used c.self.inside.bytes at place c.args.longest c.index_mut.result.now
    c.lengthen.new.entry c.self.invariant
    (position_read c.deref.result.now items used at place c.deref.ensures.value
    c.self.invariant.ascend c.position_in-at.ensures) stands c.index_mut.ensures.value
    c.lengthen.ensures).ready

pub returns-then-stands_at : goal.returns-then-stands_at
returns-then-stands_at c =
    let items = c.self.inside.entries.items in
    let used = c.self.inside.used in
    let at = c.position_in-at.result in
    let place = c.args.place.now in
    let stands : StandsAt (lengths_seen (take used items)) at place =
    subst (λ (xs : List Entry). StandsAt (lengths_seen (take used xs)) at place)
    c.deref-2.ensures.value (c.stands_at.ensures.0 c.if-stands_at.true) in
    (placed_there items used c.self.inside.bytes at place c.args.longest c.index_mut.result.now
    c.lengthen.new.entry c.self.invariant
    (position_read c.deref.result.now items used at place c.deref.ensures.value
    c.self.invariant.ascend c.position_in-at.ensures) stands c.index_mut.ensures.value
    c.lengthen.ensures).seen
    ∙ ap (λ (r : LengthsRoom). with_place r place c.args.longest) c.self.view_is

pub returns-then-self-len : goal.returns-then-self-len
returns-then-self-len c =
    let items = c.self.inside.entries.items in
    let used = c.self.inside.used in
    let at = c.position_in-at.result in
    let place = c.args.place.now in
    let position = position_read c.deref.result.now items used at place c.deref.ensures.value
    c.self.invariant.ascend c.position_in-at.ensures in
    let other = not_there c.deref-2.result.now items used at place c.stands_at.result
    c.deref-2.ensures.value c.if-stands_at.false c.stands_at.ensures.1 in
    let count : c.len.result ≡ length items = c.len.ensures ∙ sym c.deref.ensures.len
    ∙ ap length c.deref.ensures.value in (
      refl,
      no_room items used c.self.inside.bytes at place c.args.self.now c.self.invariant position
          other
          (elim c.then-self-len.branch [
            | then-self-len-via-then-self-len w ↦ inl (w.if-self-len.true ∙ count)
            | then-self-len-via-else-self-len+then-self-place w ↦ inr w.if-self-place.true
          ])
          c.self.view_is,
    )

pub insert_at-requires-clause-room : goal.insert_at-requires-clause-room
insert_at-requires-clause-room c = (
  c.self.inside.bytes,
  subst (HaveBytes c.self.inside.bytes) (sym c.deref_mut.ensures.value) c.self.invariant.room,
  c.if-self-place.false,
)

pub invariant_of-self-2 : goal.invariant_of-self-2
invariant_of-self-2 c =
    let items = c.self.inside.entries.items in
    let used = c.self.inside.used in
    let at = c.position_in-at.result in
    let place = c.args.place.now in
    let count : c.len.result ≡ length items = c.len.ensures ∙ sym c.deref.ensures.len
    ∙ ap length c.deref.ensures.value in
    let sized : length c.insert_at.new.entries ≡ c.self.inside.entries.len =
    c.insert_at.auto.entries ∙ c.deref_mut.ensures.len in
    (placed_in items c.deref_mut.result.now c.insert_at.new.entries _ used c.self.inside.bytes at
    place c.args.longest c.self.invariant
    (position_read c.deref.result.now items used at place c.deref.ensures.value
    c.self.invariant.ascend c.position_in-at.ensures)
    (not_there c.deref-2.result.now items used at place c.stands_at.result c.deref-2.ensures.value
    c.if-stands_at.false c.stands_at.ensures.1)
    (λ all. c.if-self-len.false (all ∙ sym count)) c.deref_mut.ensures.value
    c.insert_at.auto.entries c.insert_at.ensures.room c.insert_at.ensures.inserted
    (with_items_is c.self.inside.entries c.insert_at.new.entries sized)).ready

pub returns : goal.returns
returns c =
    let items = c.self.inside.entries.items in
    let used = c.self.inside.used in
    let at = c.position_in-at.result in
    let place = c.args.place.now in
    let count : c.len.result ≡ length items = c.len.ensures ∙ sym c.deref.ensures.len
    ∙ ap length c.deref.ensures.value in
    let sized : length c.insert_at.new.entries ≡ c.self.inside.entries.len =
    c.insert_at.auto.entries ∙ c.deref_mut.ensures.len in
    (placed_in items c.deref_mut.result.now c.insert_at.new.entries _ used c.self.inside.bytes at
    place c.args.longest c.self.invariant
    (position_read c.deref.result.now items used at place c.deref.ensures.value
    c.self.invariant.ascend c.position_in-at.ensures)
    (not_there c.deref-2.result.now items used at place c.stands_at.result c.deref-2.ensures.value
    c.if-stands_at.false c.stands_at.ensures.1)
    (λ all. c.if-self-len.false (all ∙ sym count)) c.deref_mut.ensures.value
    c.insert_at.auto.entries c.insert_at.ensures.room c.insert_at.ensures.inserted
    (with_items_is c.self.inside.entries c.insert_at.new.entries sized)).seen
    ∙ ap (λ (r : LengthsRoom). with_place r place c.args.longest) c.self.view_is
