use Rattle.std.proofs.Common.{◌≡◌, ◌-◌, ◌++◌, ℕ, List, [], Option, Some, true, false, true≢false}
use Rattle.std.proofs.Common.{sym, ap, subst, ◌∙◌, arith, append_assoc}
use Rattle.std.specs.Borrow.{Bor}
use Rattle.std.specs.Option.{option_map}
use Rattle.vr_ci.specs.Interval as ci
use Rattle.vr_ci.specs.Writer.{Holds, size_of}
use Rattle.vr_ci.proofs.CallerLemmas.{room-append}
use Rattle.vr_space.specs.Part.{given}
use Rattle.vr_keyed.specs.Setting.{items_between, items_given}
use Rattle.vr_keyed.specs.Slots.{met_in}
use Rattle.vr_keyed.proofs.Parts.{set-room}
use Rattle.vr_keyed.proofs.writing.add_set.Goals as goal

pub returns-then-not-add_stretch-clause-added : goal.returns-then-not-add_stretch-clause-added
returns-then-not-add_stretch-clause-added c holds kept some fits =
    let part = c.args.layout.now in
    let items = c.args.view.now.items in
    let place = c.args.place.now in
    let range = (met_in c.args.slot.now).range in
    let new = given c.args.bytes in
    let size = size_of c.args.writer.now - 4 in
    let below = ap (λ (low : Option (List ℕ)). ci.room (items_between part low place false items))
    c.low_place.ensures in
    absurd (true≢false (sym (c.add_stretch.ensures.added [] holds kept
    (omega (arith, below, set-room part range place new items size fits))).0
    ∙ c.if-not-add_stretch.true))

pub returns-then-not-add_given-clause-added : goal.returns-then-not-add_given-clause-added
returns-then-not-add_given-clause-added c holds kept some fits =
    let part = c.args.layout.now in
    let items = c.args.view.now.items in
    let place = c.args.place.now in
    let range = (met_in c.args.slot.now).range in
    let new = given c.args.bytes in
    let size = size_of c.args.writer.now - 4 in
    let below = ap (λ (low : Option (List ℕ)). ci.room (items_between part low place false items))
    c.low_place.ensures in
    let rooms = set-room part range place new items size fits in
    let first = c.add_stretch.ensures.added [] holds kept (omega (arith, below, rooms)) in
    absurd (true≢false (sym (c.add_given.ensures.added _ first.1 some
    (omega (arith, below, rooms, c.add_stretch.ensures.size))).0
    ∙ c.if-not-add_given.true))

pub returns-clause-added : goal.returns-clause-added
returns-clause-added c holds kept some fits =
    let part = c.args.layout.now in
    let items = c.args.view.now.items in
    let place = c.args.place.now in
    let range = (met_in c.args.slot.now).range in
    let new = given c.args.bytes in
    let size = size_of c.args.writer.now - 4 in
    let low : List ci.Item = items_between part
    (option_map (λ (low : Bor (List ℕ)). low.now) c.low_place.result) place false items in
    let high : List ci.Item = items_between part (Some place) c.as_slice.result.now true items in
    let below : low ≡ items_between part range.low place false items =
    ap (λ (l : Option (List ℕ)). items_between part l place false items) c.low_place.ensures in
    let above : high ≡ items_between part (Some place) range.high true items =
    ap (λ (h : List ℕ). items_between part (Some place) h true items) c.as_slice.ensures in
    let less = ap ci.room below in
    let more = ap ci.room above in
    let rooms = set-room part range place new items size fits in
    let first = c.add_stretch.ensures.added [] holds kept (omega (arith, less, rooms)) in
    let second = c.add_given.ensures.added low first.1 some
    (omega (arith, less, rooms, c.add_stretch.ensures.size)) in
    let third = c.add_stretch-2.ensures.added (low ++ items_given new) second.1 kept
    (omega (
      arith,
      less,
      more,
      rooms,
      c.add_stretch.ensures.size,
      c.add_given.ensures.size,
      room-append low (items_given new),
    )) in
    let whole : (low ++ items_given new) ++ high
    ≡ items_between part range.low place false items
    ++ (items_given new ++ items_between part (Some place) range.high true items) =
    append_assoc low (items_given new) high
    ∙ ap (λ (xs : List ci.Item). xs ++ (items_given new ++ high)) below
    ∙ ap (λ (xs : List ci.Item). items_between part range.low place false items
    ++ (items_given new ++ xs)) above in
    (third.0, subst (Holds c.add_stretch-2.new.writer) whole third.1)
