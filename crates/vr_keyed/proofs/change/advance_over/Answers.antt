use Rattle.std.proofs.Common.{◌≡◌, ◌≤◌, ◌+◌, ◌*◌, ⊎_elim, ℕ, [], IsTrue, List, Option, Some, None}
use Rattle.std.proofs.Common.{length, sym, ap, subst, ◌∙◌}
use Rattle.std.specs.Prelude.{Contains, IsSome}
use Rattle.std.proofs.lemmas.Result.{IfOk-weaker, on_ok_weaker}
use Rattle.vr_types.specs.Blocks.{Keeps}
use Rattle.vr_types.specs.Seen.{Left}
use Rattle.vr_types.specs.Space.{free_count}
use Rattle.vr_types.specs.declared.fault.DeviceFault.TheVariants.{Read}
use Rattle.vr_types.specs.declared.unit.PartNo.{PartNo}
use Rattle.vr_space.specs.Areas.{KeyedChain, area_of, areas_in, intervals_in}
use Rattle.vr_space.specs.Keyed.{IsKeyedAtRest, KeepsRoom, Keyed}
use Rattle.vr_space.specs.Known.{held_with}
use Rattle.vr_space.specs.Left.{added_by, area_intervals}
use Rattle.vr_space.specs.Met.{Met}
use Rattle.vr_space.specs.Part.{HasMore, KeepsChain, KeyedShape, Knows, Shape, part_no}
use Rattle.vr_space.specs.Room.{Lengths}
use Rattle.vr_space.specs.Split.{AreaSplit, MoveNow, SplitNow, keyed_room}
use Rattle.vr_space.specs.UnderWay.{AreaUnderWay}
use Rattle.vr_space.proofs.CallerLemmas.{rest-here, room-here}
use Rattle.vr_attach.specs.Areas.{AreWhole, AreasNow}
use Rattle.vr_split.specs.Splits.{AddsEntries}
use Rattle.vr_split.specs.Switching.{IsStageDone, KeepsPart}
use Rattle.vr_keyed.specs.Changed.{IsDoneIn}
use Rattle.vr_keyed.specs.Owned.{Splitting, counted_by, held_now, known_by, known_in, split_at}
use Rattle.vr_keyed.specs.Slots.{mets}
use Rattle.vr_keyed.proofs.Adding.{if-err-both, on-err-both, on-ok-both}
use Rattle.vr_keyed.proofs.Changing.{by-result, fault-same, is-under, move-stage, none-under}
use Rattle.vr_keyed.proofs.Changing.{ok-and, split-stage}
use Rattle.vr_keyed.proofs.Counted.{goes-counted, whole-counted}
use Rattle.vr_keyed.proofs.Known.{way-inside}
use Rattle.vr_keyed.proofs.Left.{HoldsAll, holds-all, moving-fewer, stage-fewer}
use Rattle.vr_keyed.proofs.Lifted.{done-within, stage-counts, stage-done, stage-keeps}
use Rattle.vr_keyed.proofs.Moved.{held-past}
use Rattle.vr_keyed.proofs.ReadThen.{knows-less}
use Rattle.vr_keyed.proofs.change.advance_over.Goals as goal

pub go_on_over-requires-clause-rests : goal.go_on_over-requires-clause-rests
go_on_over-requires-clause-rests g c told =
    let chain : AreasNow = c.args.areas.now in
    let a = g.B.Blocks.seen c.args.blocks.now in
    let area : ℕ = c.splits.inside.area in
    let quiet = c.requires.rests told in
    let left : Left a a.cur = g.met.B.Blocks.cur_may c.args.blocks.now told in
    let split : Option SplitNow = c.splits.inside.interval.split in
    let here : c.splits.inside.interval.part ≡ area_of chain.part area =
    c.splits.invariant.1 ∙ ap (λ (one : KeyedChain). area_of one area)
    (ap (λ (one : Splitting). one.part) c.splits.view_is ∙ c.requires.part) in
    let knows : Knows (KeyedShape chain.part) (known_by chain (split_at area split)
    c.splits.inside.whole.move (mets c.args.slots.now)) a =
    subst (λ (one : Splitting).
    Knows (KeyedShape chain.part) (known_in chain one (mets c.args.slots.now)) a)
    (sym c.splits.view_is) (c.requires.knows told) in
    let some : IsSome split =
    is-under c.next_stage.result c.is_some.result split c.next_stage.ensures c.is_some.ensures
    c.if-is_some.true in
    let inside : Contains (areas_in chain.part a.cur) area =
    way-inside chain.part area split a some knows.way.0 in
    subst (λ (one : Keyed). IsKeyedAtRest one a) (sym here)
    (rest-here chain.part quiet.0 a quiet.1 left area inside)

-- What of the answers is so where a split is under way, by how its parts are seen.
none-some : (split : Option SplitNow) → split ≡ None → IsSome split → ⊥
none-some None none some = cc
none-some (Some split) none some = cc

pub returns-then-is_some-clause-stage : goal.returns-then-is_some-clause-stage
returns-then-is_some-clause-stage g c told =
    let part : KeyedChain = c.args.areas.now.part in
    let image = (g.B.Blocks.seen c.args.blocks.now).cur in
    let place = c.args.place.now in
    let n = c.args.longest in
    let free = free_count c.args.space.now in
    let all : PartNo → Lengths = g.K.Kept.kept c.args.kept.now in
    let kept : Lengths = all (part_no (KeyedShape part)) in
    let area : ℕ = c.splits.inside.area in
    let split : Option SplitNow = c.splits.inside.interval.split in
    let some : IsSome split =
    is-under c.next_stage.result c.is_some.result split c.next_stage.ensures c.is_some.ensures
    c.if-is_some.true in
    let still : c.splits.inside.whole.move ≡ None =
    ⊎_elim (λ none. absurd (none-some split none some)) (λ none. none) c.splits.invariant.4 in
    let splits : c.args.splits.now.split ≡ split_at area split =
    ap (λ (one : Splitting). one.split) (sym c.splits.view_is) in
    let moves : c.args.splits.now.move ≡ None =
    ap (λ (one : Splitting). one.move) (sym c.splits.view_is) ∙ still in
    let due = c.requires.due told in
    let same : keyed_room part c.args.splits.now.split c.args.splits.now.move image free kept place
    n
    ≡ keyed_room part (split_at area split) None image free kept place n =
    ap (λ (one : Option AreaSplit).
    keyed_room part one c.args.splits.now.move image free kept place n) splits
    ∙ ap (λ (one : Option MoveNow).
    keyed_room part (split_at area split) one image free kept place n) moves in
    IfOk-weaker c.go_on_over.result _ _
    (λ kind is. split-stage part area split image free kept place n kind is due.0
    (sym same ∙ due.1) ∙ sym same)
    c.go_on_over.ensures.stage

pub returns-then-is_some-clause-keeps : goal.returns-then-is_some-clause-keeps
returns-then-is_some-clause-keeps g c told =
    let chain : AreasNow = c.args.areas.now in
    let a = g.B.Blocks.seen c.args.blocks.now in
    let b = g.B.Blocks.seen c.go_on_over.new.blocks in
    let area : ℕ = c.splits.inside.area in
    let quiet = c.requires.rests told in
    let left : Left a a.cur = g.met.B.Blocks.cur_may c.args.blocks.now told in
    let all : PartNo → Lengths = g.K.Kept.kept c.args.kept.now in
    let kept : Lengths = all (part_no (KeyedShape chain.part)) in
    let split : Option SplitNow = c.splits.inside.interval.split in
    let here : c.splits.inside.interval.part ≡ area_of chain.part area =
    c.splits.invariant.1 ∙ ap (λ (one : KeyedChain). area_of one area)
    (ap (λ (one : Splitting). one.part) c.splits.view_is ∙ c.requires.part) in
    let knows : Knows (KeyedShape chain.part) (known_by chain (split_at area split)
    c.splits.inside.whole.move (mets c.args.slots.now)) a =
    subst (λ (one : Splitting).
    Knows (KeyedShape chain.part) (known_in chain one (mets c.args.slots.now)) a)
    (sym c.splits.view_is) (c.requires.knows told) in
    let some : IsSome split =
    is-under c.next_stage.result c.is_some.result split c.next_stage.ensures c.is_some.ensures
    c.if-is_some.true in
    let inside : Contains (areas_in chain.part a.cur) area =
    way-inside chain.part area split a some knows.way.0 in
    let keeps : KeepsPart (area_of chain.part area) kept a b =
    subst (λ (one : Keyed). KeepsPart one kept a b) here
    (c.go_on_over.ensures.keeps told kept
    (subst (λ (one : Keyed). KeepsRoom one kept a) (sym here)
    (room-here chain.part quiet.0 a quiet.1 left kept (c.requires.room told) area inside))) in
    stage-keeps chain.part area a b quiet left inside kept keeps c.args.splits.now.move
    (c.requires.room told)

pub returns-then-is_some-clause-done : goal.returns-then-is_some-clause-done
returns-then-is_some-clause-done g c told =
    let chain : AreasNow = c.args.areas.now in
    let a = g.B.Blocks.seen c.args.blocks.now in
    let b = g.B.Blocks.seen c.go_on_over.new.blocks in
    let area : ℕ = c.splits.inside.area in
    let quiet = c.requires.rests told in
    let left : Left a a.cur = g.met.B.Blocks.cur_may c.args.blocks.now told in
    let after : Left b b.cur = g.met.B.Blocks.cur_may c.go_on_over.new.blocks told in
    let all : PartNo → Lengths = g.K.Kept.kept c.args.kept.now in
    let kept : Lengths = all (part_no (KeyedShape chain.part)) in
    let split : Option SplitNow = c.splits.inside.interval.split in
    let next : Option SplitNow = c.go_on_over.new.interval.split in
    let move : Option MoveNow = c.splits.inside.whole.move in
    let old = mets c.args.slots.now in
    let new = mets c.go_on_over.new.slots in
    let here : c.splits.inside.interval.part ≡ area_of chain.part area =
    c.splits.invariant.1 ∙ ap (λ (one : KeyedChain). area_of one area)
    (ap (λ (one : Splitting). one.part) c.splits.view_is ∙ c.requires.part) in
    let knows : Knows (KeyedShape chain.part) (known_by chain (split_at area split) move old) a =
    subst (λ (one : Splitting). Knows (KeyedShape chain.part) (known_in chain one old) a)
    (sym c.splits.view_is) (c.requires.knows told) in
    let some : IsSome split =
    is-under c.next_stage.result c.is_some.result split c.next_stage.ensures c.is_some.ensures
    c.if-is_some.true in
    let still : move ≡ None =
    ⊎_elim (λ none. absurd (none-some split none some)) (λ none. none) c.splits.invariant.4 in
    let moves : c.args.splits.now.move ≡ move =
    ap (λ (one : Splitting). one.move) (sym c.splits.view_is) in
    let inside : Contains (areas_in chain.part a.cur) area =
    way-inside chain.part area split a some knows.way.0 in
    let keeps : KeepsPart (area_of chain.part area) kept a b =
    subst (λ (one : Keyed). KeepsPart one kept a b) here
    (c.go_on_over.ensures.keeps told kept
    (subst (λ (one : Keyed). KeepsRoom one kept a) (sym here)
    (room-here chain.part quiet.0 a quiet.1 left kept (c.requires.room told) area inside))) in
    IfOk-weaker c.go_on_over.result _ _
    (λ kind does.
    let counts : counted_by kind chain.intervals ≡ intervals_in chain.part b.cur =
    goes-counted chain.part area a b quiet left inside kept keeps split kind chain.intervals
    c.splits.invariant.2 does.1.0
    (subst (λ (one : Keyed). IsStageDone one a b) here does.0.0) after knows.blocks.2
    (subst (λ (one : Keyed). AddsEntries one kind a.cur b.cur) here does.1.1.0) in
    subst (λ (one : AreasNow). IsDoneIn chain.part c.args.splits.now.move
    (known_by one (split_at area next) move new) a b) (sym does.1.1.1)
    (subst (λ (one : Option MoveNow). IsDoneIn chain.part one
    (known_by (record chain { intervals = counted_by kind chain.intervals })
    (split_at area next) move new) a b) (sym moves)
    (stage-done chain.part area a b quiet left inside kept keeps chain.areas chain.ends
    chain.intervals (counted_by kind chain.intervals) (split_at area split) next move old new knows
    (subst (λ (one : Keyed). IsStageDone one a b) here does.0.0)
    (subst (λ (one : Keyed). AreaUnderWay one next b) here does.0.1)
    still c.go_on_over.ensures.none counts)))
    (ok-and c.go_on_over.result _ _
    (ok-and c.go_on_over.result _ _ (c.go_on_over.ensures.done told)
    (c.go_on_over.ensures.way told))
    (ok-and c.go_on_over.result _ _ c.go_on_over.ensures.stage
    (ok-and c.go_on_over.result _ _ (c.go_on_over.ensures.adds told)
    c.go_on_over.ensures.counts)))

pub returns-then-is_some-clause-whole : goal.returns-then-is_some-clause-whole
returns-then-is_some-clause-whole g c =
    let chain : AreasNow = c.args.areas.now in
    by-result c.go_on_over.result _ _ (AreWhole c.go_on_over.new.areas)
    (λ kind same. subst AreWhole (sym same)
    (whole-counted chain (counted_by kind chain.intervals) c.requires.whole))
    (λ same. subst AreWhole (sym same) c.requires.whole)
    c.go_on_over.ensures.counts c.go_on_over.ensures.areas

pub returns-then-is_some-clause-unread : goal.returns-then-is_some-clause-unread
returns-then-is_some-clause-unread g c =
    let chain : AreasNow = c.args.areas.now in
    let tells = g.B.Blocks.tells in
    let a = g.B.Blocks.seen c.args.blocks.now in
    let b = g.B.Blocks.seen c.go_on_over.new.blocks in
    let area : ℕ = c.splits.inside.area in
    let split : Option SplitNow = c.splits.inside.interval.split in
    let next : Option SplitNow = c.go_on_over.new.interval.split in
    let move : Option MoveNow = c.splits.inside.whole.move in
    let old : List Met = mets c.args.slots.now in
    let new : List Met = mets c.go_on_over.new.slots in
    let after : AreasNow = c.go_on_over.new.areas in
    let shape : Shape = KeyedShape chain.part in
    if-err-both c.go_on_over.result _ (λ fault. fault ≡ Read → Keeps tells a b)
    (λ fault. fault ≡ Read → Keeps tells a b
    × (IsTrue tells → Knows shape (known_by after (split_at area next) move new) b))
    (λ fault stays keeps is. (
      keeps is,
      λ told.
          subst (λ (one : AreasNow). Knows shape (known_by one (split_at area next) move new) b)
          (sym stays.0)
          (subst (λ (met : List Met). Knows shape (known_by chain (split_at area next) move met) b)
          (sym c.go_on_over.ensures.none)
          (subst (λ (now : Option SplitNow). Knows shape
          (known_by chain (split_at area now) move []) b)
          (sym (stays.1 ∙ fault-same split c.splits.invariant.2))
          (knows-less chain.part tells told a b (keeps is) (c.requires.rests told) chain.areas
          chain.ends chain.intervals (split_at area split) move old
          (g.met.B.Blocks.cur_may c.args.blocks.now told)
          (subst (λ (one : Splitting). Knows shape (known_in chain one old) a)
          (sym c.splits.view_is) (c.requires.knows told))))),
    ))
    (on-err-both c.go_on_over.result _ _ c.go_on_over.ensures.areas c.go_on_over.ensures.failed)
    c.go_on_over.ensures.unread

pub move_on-requires-clause-counted : goal.move_on-requires-clause-counted
move_on-requires-clause-counted g c told = (c.requires.knows told).blocks.2

pub returns-then-is_some-2-clause-stage : goal.returns-then-is_some-2-clause-stage
returns-then-is_some-2-clause-stage g c told =
    let part : KeyedChain = c.args.areas.now.part in
    let image = (g.B.Blocks.seen c.args.blocks.now).cur in
    let place = c.args.place.now in
    let n = c.args.longest in
    let free = free_count c.args.space.now in
    let all : PartNo → Lengths = g.K.Kept.kept c.args.kept.now in
    let kept : Lengths = all (part_no (KeyedShape part)) in
    let area : ℕ = c.splits.inside.area in
    let split : Option SplitNow = c.splits.inside.interval.split in
    let move : Option MoveNow = c.splits.inside.whole.move in
    let none : split ≡ None =
    none-under c.next_stage.result c.is_some.result split c.next_stage.ensures c.is_some.ensures
    c.if-is_some.false in
    let splits : c.args.splits.now.split ≡ None =
    ap (λ (one : Splitting). one.split) (sym c.splits.view_is) ∙ ap (split_at area) none in
    let moves : c.args.splits.now.move ≡ move =
    ap (λ (one : Splitting). one.move) (sym c.splits.view_is) in
    let due = c.requires.due told in
    let same : keyed_room part c.args.splits.now.split c.args.splits.now.move image free kept place
    n
    ≡ keyed_room part None move image free kept place n =
    ap (λ (one : Option AreaSplit).
    keyed_room part one c.args.splits.now.move image free kept place n) splits
    ∙ ap (λ (one : Option MoveNow). keyed_room part None one image free kept place n) moves in
    IfOk-weaker c.move_on.result _ _
    (λ kind is. move-stage part move image free kept place n kind is due.0
    (sym same ∙ due.1) ∙ sym same)
    c.move_on.ensures.stage

pub returns-then-is_some-2-clause-chain : goal.returns-then-is_some-2-clause-chain
returns-then-is_some-2-clause-chain g c =
    let areas : List ℕ = c.args.areas.now.areas in
    let after : List ℕ = c.move_on.new.areas.areas in
    let move : Option MoveNow = c.splits.inside.whole.move in
    let next : Option MoveNow = c.move_on.new.whole.move in
    let shape : Shape = KeyedShape c.args.areas.now.part in
    let moves : c.args.splits.now.move ≡ move =
    ap (λ (one : Splitting). one.move) (sym c.splits.view_is) in
    let before : held_now areas move ≡ held_with areas c.args.splits.now.move =
    held-past areas move c.splits.invariant.3 ∙ ap (held_with areas) (sym moves) in
    on_ok_weaker c.move_on.result
    (λ both. subst (λ (one : List ℕ). KeepsChain shape one (held_with after next)
    c.args.space.now c.move_on.new.space) before
    (subst (λ (one : List ℕ). KeepsChain shape (held_now areas move) one c.args.space.now
    c.move_on.new.space) (held-past after next both.1) both.0))
    (on-ok-both c.move_on.result _ _ c.move_on.ensures.chain c.move_on.ensures.past)

pub returns-then-is_some-2-clause-unread : goal.returns-then-is_some-2-clause-unread
returns-then-is_some-2-clause-unread g c =
    let chain : AreasNow = c.args.areas.now in
    let after : AreasNow = c.move_on.new.areas in
    let tells = g.B.Blocks.tells in
    let a = g.B.Blocks.seen c.args.blocks.now in
    let b = g.B.Blocks.seen c.move_on.new.blocks in
    let move : Option MoveNow = c.splits.inside.whole.move in
    let next : Option MoveNow = c.move_on.new.whole.move in
    let split : Option AreaSplit =
    split_at c.splits.inside.area c.splits.inside.interval.split in
    let old : List Met = mets c.args.slots.now in
    let new : List Met = mets c.move_on.new.slots in
    let shape : Shape = KeyedShape chain.part in
    let made : Type 0 = Keeps tells a b
    × (IsTrue tells → Knows shape (known_by after split next new) b) in
    if-err-both c.move_on.result (after ≡ chain) (λ fault. after ≡ chain → fault ≡ Read → made)
    (λ fault. fault ≡ Read → made) (λ fault areas make. make areas) c.move_on.ensures.areas
    (if-err-both c.move_on.result (next ≡ move) (λ fault. fault ≡ Read → Keeps tells a b)
    (λ fault. after ≡ chain → fault ≡ Read → made)
    (λ fault moves keeps areas is. (
      keeps is,
      λ told.
          subst (λ (one : AreasNow). Knows shape (known_by one split next new) b) (sym areas)
          (subst (λ (one : Option MoveNow). Knows shape (known_by chain split one new) b)
          (sym moves)
          (subst (λ (met : List Met). Knows shape (known_by chain split move met) b)
          (sym c.move_on.ensures.none)
          (knows-less chain.part tells told a b (keeps is) (c.requires.rests told) chain.areas
          chain.ends chain.intervals split move old (g.met.B.Blocks.cur_may c.args.blocks.now told)
          (subst (λ (one : Splitting). Knows shape (known_in chain one old) a)
          (sym c.splits.view_is) (c.requires.knows told))))),
    ))
    c.move_on.ensures.failed c.move_on.ensures.unread)

pub returns-then-is_some-clause-more : goal.returns-then-is_some-clause-more
returns-then-is_some-clause-more g c told aside =
    let chain : AreasNow = c.args.areas.now in
    let a = g.B.Blocks.seen c.args.blocks.now in
    let b = g.B.Blocks.seen c.go_on_over.new.blocks in
    let free : ℕ = free_count c.args.space.now in
    let area : ℕ = c.splits.inside.area in
    let quiet = c.requires.rests told in
    let left : Left a a.cur = g.met.B.Blocks.cur_may c.args.blocks.now told in
    let after : Left b b.cur = g.met.B.Blocks.cur_may c.go_on_over.new.blocks told in
    let all : PartNo → Lengths = g.K.Kept.kept c.args.kept.now in
    let kept : Lengths = all (part_no (KeyedShape chain.part)) in
    let split : Option SplitNow = c.splits.inside.interval.split in
    let next : Option SplitNow = c.go_on_over.new.interval.split in
    let move : Option MoveNow = c.splits.inside.whole.move in
    let old = mets c.args.slots.now in
    let new = mets c.go_on_over.new.slots in
    let here : c.splits.inside.interval.part ≡ area_of chain.part area =
    c.splits.invariant.1 ∙ ap (λ (one : KeyedChain). area_of one area)
    (ap (λ (one : Splitting). one.part) c.splits.view_is ∙ c.requires.part) in
    let knows : Knows (KeyedShape chain.part) (known_by chain (split_at area split) move old) a =
    subst (λ (one : Splitting). Knows (KeyedShape chain.part) (known_in chain one old) a)
    (sym c.splits.view_is) (c.requires.knows told) in
    let some : IsSome split =
    is-under c.next_stage.result c.is_some.result split c.next_stage.ensures c.is_some.ensures
    c.if-is_some.true in
    let still : move ≡ None =
    ⊎_elim (λ none. absurd (none-some split none some)) (λ none. none) c.splits.invariant.4 in
    let inside : Contains (areas_in chain.part a.cur) area =
    way-inside chain.part area split a some knows.way.0 in
    let keeps : KeepsPart (area_of chain.part area) kept a b =
    subst (λ (one : Keyed). KeepsPart one kept a b) here
    (c.go_on_over.ensures.keeps told kept
    (subst (λ (one : Keyed). KeepsRoom one kept a) (sym here)
    (room-here chain.part quiet.0 a quiet.1 left kept (c.requires.room told) area inside))) in
    IfOk-weaker c.go_on_over.result _ _
    (λ kind does.
    let done : IsStageDone (area_of chain.part area) a b =
    subst (λ (one : Keyed). IsStageDone one a b) here does.0.0 in
    let adds : AddsEntries (area_of chain.part area) kind a.cur b.cur =
    subst (λ (one : Keyed). AddsEntries one kind a.cur b.cur) here does.1.1.0 in
    let counts : counted_by kind chain.intervals ≡ intervals_in chain.part b.cur =
    goes-counted chain.part area a b quiet left inside kept keeps split kind chain.intervals
    c.splits.invariant.2 does.1.0 done after knows.blocks.2 adds in
    subst (λ (one : Splitting). HasMore (KeyedShape chain.part) kind (known_in chain one old)
    (known_by c.go_on_over.new.areas (split_at area next) move new) free free) c.splits.view_is
    (stage-fewer chain c.go_on_over.new.areas area free split next move kind old new
    c.splits.invariant.2 does.1.0 does.0.1 still does.1.1.1
    (counts ∙ stage-counts chain.part area a b quiet left inside kept keeps kind adds
    ∙ ap (λ (n : ℕ). n + added_by kind) (sym knows.blocks.2))
    (subst (λ (n : ℕ). n ≤ length chain.areas * area_intervals chain.part) (sym counts)
    (subst (λ (those : List ℕ).
    intervals_in chain.part b.cur ≤ length those * area_intervals chain.part)
    (sym knows.blocks.0.areas_are)
    (done-within chain.part area a b quiet left inside kept keeps done after)))))
    (ok-and c.go_on_over.result _ _
    (ok-and c.go_on_over.result _ _ (c.go_on_over.ensures.done told) c.go_on_over.ensures.next)
    (ok-and c.go_on_over.result _ _ c.go_on_over.ensures.stage
    (ok-and c.go_on_over.result _ _ (c.go_on_over.ensures.adds told)
    c.go_on_over.ensures.counts)))

pub returns-then-is_some-2-clause-more : goal.returns-then-is_some-2-clause-more
returns-then-is_some-2-clause-more g c told aside =
    let chain : AreasNow = c.args.areas.now in
    let a = g.B.Blocks.seen c.args.blocks.now in
    let all : PartNo → Lengths = g.K.Kept.kept c.args.kept.now in
    let after : AreasNow = c.move_on.new.areas in
    let split : Option SplitNow = c.splits.inside.interval.split in
    let move : Option MoveNow = c.splits.inside.whole.move in
    let next : Option MoveNow = c.move_on.new.whole.move in
    let old = mets c.args.slots.now in
    let new = mets c.move_on.new.slots in
    let owners : List (Option PartNo) = c.args.space.now in
    let taken : List (Option PartNo) = c.move_on.new.space in
    let none : split_at c.splits.inside.area split ≡ None = ap (split_at c.splits.inside.area)
    (none-under c.next_stage.result c.is_some.result split c.next_stage.ensures c.is_some.ensures
    c.if-is_some.false) in
    let knows : Knows (KeyedShape chain.part) (known_by chain
    (split_at c.splits.inside.area split) move old) a =
    subst (λ (one : Splitting). Knows (KeyedShape chain.part) (known_in chain one old) a)
    (sym c.splits.view_is) (c.requires.knows told) in
    IfOk-weaker c.move_on.result _ _
    (λ kind does.
    let holds : HoldsAll (held_with chain.areas move) (held_with after.areas next)
    (free_count owners) (free_count taken) =
    holds-all chain.part (held_with chain.areas move) (held_with after.areas next) owners taken
    (subst (λ (one : List ℕ). KeepsChain (KeyedShape chain.part) one (held_with after.areas next)
    owners taken) (held-past chain.areas move c.splits.invariant.3)
    (subst (λ (one : List ℕ). KeepsChain (KeyedShape chain.part) (held_now chain.areas move) one
    owners taken) (held-past after.areas next does.1.1) does.1.0)) in
    subst (λ (one : Splitting). HasMore (KeyedShape chain.part) kind (known_in chain one old)
    (known_by after (split_at c.splits.inside.area split) next new) (free_count owners)
    (free_count taken)) c.splits.view_is
    (moving-fewer chain after a (split_at c.splits.inside.area split) move next kind
    (free_count owners) (free_count taken) old new none c.splits.invariant.3 knows.way.1 does.0.0
    does.0.1 c.move_on.ensures.counted holds))
    (ok-and c.move_on.result _ _
    (ok-and c.move_on.result _ _ c.move_on.ensures.stage
    (c.move_on.ensures.next told (all (part_no (KeyedShape chain.part))) (c.requires.room told)))
    (ok-and c.move_on.result _ _ c.move_on.ensures.chain c.move_on.ensures.past))
