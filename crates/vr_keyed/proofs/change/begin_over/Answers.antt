use Rattle.std.proofs.Common.{◌≡◌, ◌⊎◌, ◌≤◌, ℕ, IsTrue, List, [], Option}
use Rattle.std.proofs.Common.{Some, None, All, refl, sym, ap, subst, ◌∙◌, arith, length, rules}
use Rattle.std.specs.Prelude.{Contains, IsSome}
use Rattle.std.proofs.lemmas.Result.{IfOk-weaker, on_ok_weaker}
use Rattle.vr_types.specs.Blocks.{Keeps}
use Rattle.vr_types.specs.Image.{Image, block_at}
use Rattle.vr_types.specs.Seen.{Left}
use Rattle.vr_types.specs.Space.{free_count}
use Rattle.vr_types.specs.declared.fault.DeviceFault.TheVariants.{Read}
use Rattle.vr_types.specs.declared.unit.PartNo.{PartNo}
use Rattle.vr_types.specs.declared.unit.StageKind.{StageKind}
use Rattle.vr_types.specs.declared.unit.StageKind.TheVariants.{CaClaim, CiCopy}
use Rattle.vr_types.proofs.CallerLemmas.{keeps-then as then-keeps}
use Rattle.vr_space.specs.AreaCalls.{area_part}
use Rattle.vr_space.specs.Areas.{ChainKeepsRoom, area_for, area_of, areas_in, head_in}
use Rattle.vr_space.specs.Areas.{intervals_in}
use Rattle.vr_space.specs.Keyed.{IsHead, IsKeyedAtRest, KeepsRoom, Keyed, entries_of}
use Rattle.vr_space.specs.Known.{Known, held_with}
use Rattle.vr_space.specs.Left.{area_intervals}
use Rattle.vr_space.specs.Met.{Met}
use Rattle.vr_space.specs.Moves.{MoveUnderWay}
use Rattle.vr_space.specs.Part.{HasMore, KeepsChain, KeyedShape, Knows, Shape, part_no}
use Rattle.vr_space.specs.Room.{Lengths}
use Rattle.vr_space.specs.Split.{AreaSplit, MoveNow, SplitNow, free_interval}
use Rattle.vr_space.specs.UnderWay.{AreaUnderWay}
use Rattle.vr_space.proofs.CallerLemmas.{ComesTo, head-intervals, rest-here, resting-stands}
use Rattle.vr_space.proofs.CallerLemmas.{room-here}
use Rattle.vr_attach.specs.Areas.{AreasNow}
use Rattle.vr_split.specs.Splits.{AddsEntries}
use Rattle.vr_split.specs.Switching.{IsStageDone, KeepsPart}
use Rattle.vr_keyed.specs.Advance.{IsDue}
use Rattle.vr_keyed.specs.Begin.{AreFew, IsWhole}
use Rattle.vr_keyed.specs.Changed.{IsDoneIn, KeepsIn}
use Rattle.vr_keyed.specs.Look.{HasEntry}
use Rattle.vr_keyed.specs.Owned.{IsMine, Splitting, held_now, known_by, known_in, split_at}
use Rattle.vr_keyed.specs.Owned.{stage_of_move}
use Rattle.vr_keyed.specs.Slots.{IsMetAt, mets}
use Rattle.vr_keyed.specs.declared.begin.Beginning.{Beginning}
use Rattle.vr_keyed.specs.declared.begin.Beginning.TheVariants.{Area, Interval}
use Rattle.vr_keyed.proofs.Adding.{if-err-both, on-ok-both}
use Rattle.vr_keyed.proofs.NewSplits.{few-found, free-at, whole-at}
use Rattle.vr_keyed.proofs.Aside.{takes-aside}
use Rattle.vr_keyed.proofs.Changing.{claim-stage, copy-due, copy-stage, new-due, ok-and}
use Rattle.vr_keyed.proofs.Known.{IsPlaced, area-comes, area-inside, area-known}
use Rattle.vr_keyed.proofs.Known.{leaves-mine, met-at, none-or-left, placed-at}
use Rattle.vr_keyed.proofs.Left.{claiming-fewer, copy-fewer}
use Rattle.vr_keyed.proofs.Lifted.{stage-counts, stage-done, stage-keeps}
use Rattle.vr_keyed.proofs.Moved.{held-past}
use Rattle.vr_keyed.proofs.ReadThen.{IsBetween, between, done-begun, done-read, done-then}
use Rattle.vr_keyed.proofs.ReadThen.{keeps-begun, keeps-read, keeps-then, knows-failed}
use Rattle.vr_keyed.proofs.ReadThen.{knows-then, quiet-then, room-then}
use Rattle.vr_keyed.proofs.change.begin_over.Goals as goal

pub find_beginning-requires-clause-head : goal.find_beginning-requires-clause-head
find_beginning-requires-clause-head g c told =
    let chain : AreasNow = c.args.areas.now in
    let a = g.B.Blocks.seen c.args.blocks.now in
    let place = c.args.place.now in
    let area : ℕ = c.area_of-area.result in
    let placed : IsPlaced chain place area c.area-layout.result =
    placed-at chain c.as_slice.result.now place area c.area-layout.result c.layout.result.now
    c.as_slice.ensures c.area_of-area.ensures.area c.area-layout.ensures.layout c.layout.ensures in
    let quiet = c.requires.rests told in
    let left : Left a a.cur = g.met.B.Blocks.cur_may c.args.blocks.now told in
    let comes : ComesTo chain.part a.cur place area =
    area-comes chain a.cur (c.requires.knows told).blocks.0 place area placed.area_is
    (resting-stands chain.part quiet.0 a quiet.1 left) in
    subst (λ (one : Keyed). IsHead one (block_at a.cur one.head)) (sym placed.layout_is)
    comes.linked.stands.head

pub returns-in_err-begins-clause-keeps : goal.returns-in_err-begins-clause-keeps
returns-in_err-begins-clause-keeps g c told =
    let chain : AreasNow = c.args.areas.now in
    let all : PartNo → Lengths = g.K.Kept.kept c.args.kept.now in
    keeps-read chain.part g.B.Blocks.tells told (g.B.Blocks.seen c.args.blocks.now)
    (g.B.Blocks.seen c.find_beginning.new.blocks) c.find_beginning.ensures.keeps
    (c.requires.rests told) c.args.splits.now.move (all (part_no (KeyedShape chain.part)))
    (c.requires.room told)

pub returns-then-not-takes_least-clause-stage : goal.returns-then-not-takes_least-clause-stage
returns-then-not-takes_least-clause-stage g c told =
    let chain : AreasNow = c.args.areas.now in
    let a = g.B.Blocks.seen c.args.blocks.now in
    let place = c.args.place.now in
    let all : PartNo → Lengths = g.K.Kept.kept c.args.kept.now in
    let kept : Lengths = all (part_no (KeyedShape chain.part)) in
    let area : ℕ = c.area_of-area.result in
    let placed : IsPlaced chain place area c.area-layout.result =
    placed-at chain c.as_slice.result.now place area c.area-layout.result c.layout.result.now
    c.as_slice.ensures c.area_of-area.ensures.area c.area-layout.ensures.layout c.layout.ensures in
    let found : area_for chain.part a.cur place ≡ Some area =
    area-known chain a.cur (c.requires.knows told).blocks.0 place area placed.area_is in
    let due = c.requires.due told in
    let at : List ℕ = c.as_slice-2.result.now in
    let whole : IsWhole (area_of chain.part area) (head_in chain.part a.cur area) at c.free.result
    c.in-Some-Area.entries c.in-Some-Area.stay =
    whole-at chain.part area c.area-layout.result placed.layout_is a.cur at c.free.result
    c.in_ok-begins.begins c.in-Some-Area.entries c.in-Some-Area.stay
    (c.in-Some-Area.is ∙ ap Some (rw c.in-Some-Area.is at c.in-Some-Area.field-0-is))
    (c.in_ok-begins.ensures.begins told) in
    claim-stage chain.part c.args.splits.now.split c.args.splits.now.move a.cur
    (free_count c.args.space.now) kept place c.args.longest c.requires.none c.requires.still due.0
    due.1 area found whole.none CaClaim refl

pub returns-then-not-takes_least-clause-keeps : goal.returns-then-not-takes_least-clause-keeps
returns-then-not-takes_least-clause-keeps g c told =
    let chain : AreasNow = c.args.areas.now in
    let all : PartNo → Lengths = g.K.Kept.kept c.args.kept.now in
    keeps-read chain.part g.B.Blocks.tells told (g.B.Blocks.seen c.args.blocks.now)
    (g.B.Blocks.seen c.find_beginning.new.blocks) c.find_beginning.ensures.keeps
    (c.requires.rests told) c.args.splits.now.move (all (part_no (KeyedShape chain.part)))
    (c.requires.room told)

pub returns-then-not-takes_least-clause-done : goal.returns-then-not-takes_least-clause-done
returns-then-not-takes_least-clause-done g c told =
    let chain : AreasNow = c.args.areas.now in
    let tells = g.B.Blocks.tells in
    let a = g.B.Blocks.seen c.args.blocks.now in
    let b = g.B.Blocks.seen c.find_beginning.new.blocks in
    let known : Known = known_in chain c.args.splits.now (mets c.args.slots.now) in
    done-read chain.part tells told a b c.find_beginning.ensures.keeps (c.requires.rests told)
    c.args.splits.now.move known
    (knows-then chain.part tells told a b c.find_beginning.ensures.keeps (c.requires.rests told)
    known (g.met.B.Blocks.cur_may c.args.blocks.now told) (c.requires.knows told))

pub move_on-requires-clause-rests : goal.move_on-requires-clause-rests
move_on-requires-clause-rests g c told =
    quiet-then c.args.areas.now.part g.B.Blocks.tells told (g.B.Blocks.seen c.args.blocks.now)
    (g.B.Blocks.seen c.find_beginning.new.blocks) c.find_beginning.ensures.keeps
    (c.requires.rests told)

pub move_on-requires-clause-way : goal.move_on-requires-clause-way
move_on-requires-clause-way g c told =
    let chain : AreasNow = c.args.areas.now in
    let tells = g.B.Blocks.tells in
    let a = g.B.Blocks.seen c.args.blocks.now in
    let b = g.B.Blocks.seen c.find_beginning.new.blocks in
    let place = c.args.place.now in
    let area : ℕ = c.area_of-area.result in
    let placed : IsPlaced chain place area c.area-layout.result =
    placed-at chain c.as_slice.result.now place area c.area-layout.result c.layout.result.now
    c.as_slice.ensures c.area_of-area.ensures.area c.area-layout.ensures.layout c.layout.ensures in
    let call : Keeps tells a b = c.find_beginning.ensures.keeps in
    let begins : Option Beginning = c.in_ok-begins.begins in
    let at : List ℕ = c.as_slice-2.result.now in
    let whole : IsWhole (area_of chain.part area) (head_in chain.part a.cur area) at c.free.result
    c.in-Some-Area.entries c.in-Some-Area.stay =
    whole-at chain.part area c.area-layout.result placed.layout_is a.cur at c.free.result begins
    c.in-Some-Area.entries c.in-Some-Area.stay
    (c.in-Some-Area.is ∙ ap Some (rw c.in-Some-Area.is at c.in-Some-Area.field-0-is))
    (c.in_ok-begins.ensures.begins told) in
    let few : AreFew c.area-layout.result c.free.result
    (Area c.in-Some-Area.entries c.in-Some-Area.stay) =
    few-found c.area-layout.result c.free.result begins c.in-Some-Area.entries c.in-Some-Area.stay
    (c.in-Some-Area.is ∙ ap Some (rw c.in-Some-Area.is at c.in-Some-Area.field-0-is))
    c.in_ok-begins.ensures.few in
    subst (λ (move : Option MoveNow). MoveUnderWay chain.part move b) (sym c.begin.ensures.begun)
    (record {
      inside = subst (λ (image : Image). Contains (areas_in chain.part image) area)
          (sym (call.content told))
          (area-inside chain a.cur (c.requires.knows told).blocks.0 place area placed.area_is);
      entries = ap (λ (image : Image). length (entries_of (head_in chain.part image area)))
          (call.content told) ∙ sym whole.count;
      some = few.1;
      fewer = few.2;
      ready = refl;
    })

pub returns-in-Some-Area-clause-stage : goal.returns-in-Some-Area-clause-stage
returns-in-Some-Area-clause-stage g c told =
    let chain : AreasNow = c.args.areas.now in
    let a = g.B.Blocks.seen c.args.blocks.now in
    let place = c.args.place.now in
    let all : PartNo → Lengths = g.K.Kept.kept c.args.kept.now in
    let kept : Lengths = all (part_no (KeyedShape chain.part)) in
    let area : ℕ = c.area_of-area.result in
    let placed : IsPlaced chain place area c.area-layout.result =
    placed-at chain c.as_slice.result.now place area c.area-layout.result c.layout.result.now
    c.as_slice.ensures c.area_of-area.ensures.area c.area-layout.ensures.layout c.layout.ensures in
    let found : area_for chain.part a.cur place ≡ Some area =
    area-known chain a.cur (c.requires.knows told).blocks.0 place area placed.area_is in
    let due = c.requires.due told in
    let at : List ℕ = c.as_slice-2.result.now in
    let whole : IsWhole (area_of chain.part area) (head_in chain.part a.cur area) at c.free.result
    c.in-Some-Area.entries c.in-Some-Area.stay =
    whole-at chain.part area c.area-layout.result placed.layout_is a.cur at c.free.result
    c.in_ok-begins.begins c.in-Some-Area.entries c.in-Some-Area.stay
    (c.in-Some-Area.is ∙ ap Some (rw c.in-Some-Area.is at c.in-Some-Area.field-0-is))
    (c.in_ok-begins.ensures.begins told) in
    IfOk-weaker c.move_on.result _ _
    (λ kind first. claim-stage chain.part c.args.splits.now.split c.args.splits.now.move a.cur
    (free_count c.args.space.now) kept place c.args.longest c.requires.none c.requires.still due.0
    due.1 area found whole.none kind
    (cc (first, ap stage_of_move c.begin.ensures.begun)))
    c.move_on.ensures.stage

-- A split that begins has claimed nothing yet.
pub returns-in-Some-Area-clause-chain : goal.returns-in-Some-Area-clause-chain
returns-in-Some-Area-clause-chain g c =
    let areas : List ℕ = c.args.areas.now.areas in
    let after : List ℕ = c.move_on.new.areas.areas in
    let next : Option MoveNow = c.move_on.new.whole.move in
    let shape : Shape = KeyedShape c.args.areas.now.part in
    let before : held_now areas c.begin.new.self.move ≡ held_with areas c.args.splits.now.move =
    ap (held_now areas) c.begin.ensures.begun ∙ ap (held_with areas) (sym c.requires.still) in
    on_ok_weaker c.move_on.result
    (λ both. subst (λ (one : List ℕ). KeepsChain shape one (held_with after next)
    c.args.space.now c.move_on.new.space) before
    (subst (λ (one : List ℕ). KeepsChain shape (held_now areas c.begin.new.self.move) one
    c.args.space.now c.move_on.new.space) (held-past after next both.1) both.0))
    (on-ok-both c.move_on.result _ _ c.move_on.ensures.chain c.move_on.ensures.past)

pub returns-in-Some-Area-clause-keeps : goal.returns-in-Some-Area-clause-keeps
returns-in-Some-Area-clause-keeps g c told =
    let chain : AreasNow = c.args.areas.now in
    let tells = g.B.Blocks.tells in
    let a = g.B.Blocks.seen c.args.blocks.now in
    let b = g.B.Blocks.seen c.find_beginning.new.blocks in
    let d = g.B.Blocks.seen c.move_on.new.blocks in
    let all : PartNo → Lengths = g.K.Kept.kept c.args.kept.now in
    let kept : Lengths = all (part_no (KeyedShape chain.part)) in
    let call : Keeps tells a b = c.find_beginning.ensures.keeps in
    let room : ChainKeepsRoom chain.part kept b =
    room-then chain.part tells told a b call (c.requires.rests told) kept (c.requires.room told) in
    subst (λ (move : Option MoveNow). KeepsIn chain.part move kept a d) (sym c.requires.still)
    (keeps-then chain.part tells told a b call (c.requires.rests told) None kept d
    (c.requires.room told)
    (keeps-begun chain.part c.area_of-area.result c.in-Some-Area.entries c.in-Some-Area.stay kept b
    d (subst (λ (move : Option MoveNow). KeepsIn chain.part move kept b d) c.begin.ensures.begun
    (c.move_on.ensures.keeps told kept room))))

pub returns-in-Some-Area-clause-done : goal.returns-in-Some-Area-clause-done
returns-in-Some-Area-clause-done g c told =
    let chain : AreasNow = c.args.areas.now in
    let tells = g.B.Blocks.tells in
    let a = g.B.Blocks.seen c.args.blocks.now in
    let b = g.B.Blocks.seen c.find_beginning.new.blocks in
    let d = g.B.Blocks.seen c.move_on.new.blocks in
    let all : PartNo → Lengths = g.K.Kept.kept c.args.kept.now in
    let kept : Lengths = all (part_no (KeyedShape chain.part)) in
    let call : Keeps tells a b = c.find_beginning.ensures.keeps in
    let room : ChainKeepsRoom chain.part kept b =
    room-then chain.part tells told a b call (c.requires.rests told) kept (c.requires.room told) in
    let after : AreasNow = c.move_on.new.areas in
    let next : Option MoveNow = c.move_on.new.whole.move in
    let split : Option AreaSplit =
    split_at c.splits.inside.area c.splits.inside.interval.split in
    let none : split ≡ None =
    ap (λ (one : Splitting). one.split) c.splits.view_is ∙ c.requires.none in
    on_ok_weaker c.move_on.result
    (λ done. subst (λ (move : Option MoveNow). IsDoneIn chain.part move
    (known_by after split next (mets c.move_on.new.slots)) a d) (sym c.requires.still)
    (subst (λ (one : Option AreaSplit). IsDoneIn chain.part None
    (known_by after one next (mets c.move_on.new.slots)) a d) (sym none)
    (subst (λ (met : List Met). IsDoneIn chain.part None (known_by after None next met) a d)
    (sym c.move_on.ensures.none)
    (done-then chain.part tells told a b call (c.requires.rests told) None
    (known_by after None next []) d
    (done-begun chain.part c.area_of-area.result c.in-Some-Area.entries c.in-Some-Area.stay
    (known_by after None next []) b d
    (subst (λ (move : Option MoveNow). IsDoneIn chain.part move (known_by after None next []) b d)
    c.begin.ensures.begun done))))))
    (c.move_on.ensures.done told kept room)

pub begin_at-requires-clause-met : goal.begin_at-requires-clause-met
begin_at-requires-clause-met g c told =
    let chain : AreasNow = c.args.areas.now in
    let tells = g.B.Blocks.tells in
    let a = g.B.Blocks.seen c.args.blocks.now in
    let b = g.B.Blocks.seen c.find_beginning.new.blocks in
    let place = c.args.place.now in
    let area : ℕ = c.area_of-area.result in
    let placed : IsPlaced chain place area c.area-layout.result =
    placed-at chain c.as_slice.result.now place area c.area-layout.result c.layout.result.now
    c.as_slice.ensures c.area_of-area.ensures.area c.area-layout.ensures.layout c.layout.ensures in
    let old : List Met = mets c.args.slots.now in
    let known : Known = known_in chain c.args.splits.now old in
    let knows : Knows (KeyedShape chain.part) known b =
    knows-then chain.part tells told a b c.find_beginning.ensures.keeps (c.requires.rests told)
    known (g.met.B.Blocks.cur_may c.args.blocks.now told) (c.requires.knows told) in
    subst (λ (one : Keyed). All (IsMetAt one b.cur place) old) (sym placed.layout_is)
    (met-at chain.part b.cur place area
    (area-known chain b.cur knows.blocks.0 place area placed.area_is) old knows.blocks.1)

pub begin_at-requires-clause-entry : goal.begin_at-requires-clause-entry
begin_at-requires-clause-entry g c told =
    let chain : AreasNow = c.args.areas.now in
    let tells = g.B.Blocks.tells in
    let a = g.B.Blocks.seen c.args.blocks.now in
    let b = g.B.Blocks.seen c.find_beginning.new.blocks in
    let place = c.args.place.now in
    let area : ℕ = c.area_of-area.result in
    let placed : IsPlaced chain place area c.area-layout.result =
    placed-at chain c.as_slice.result.now place area c.area-layout.result c.layout.result.now
    c.as_slice.ensures c.area_of-area.ensures.area c.area-layout.ensures.layout c.layout.ensures in
    let all : PartNo → Lengths = g.K.Kept.kept c.args.kept.now in
    let kept : Lengths = all (part_no (KeyedShape chain.part)) in
    let known : Known = known_in chain c.args.splits.now (mets c.args.slots.now) in
    let now : IsBetween chain.part known kept b =
    between chain.part tells told a b c.find_beginning.ensures.keeps (c.requires.rests told) known
    kept (g.met.B.Blocks.cur_may c.args.blocks.now told)
    (g.met.B.Blocks.cur_may c.find_beginning.new.blocks told) (c.requires.room told)
    (c.requires.knows told) in
    let comes : ComesTo chain.part b.cur place area =
    area-comes chain b.cur now.knows.blocks.0 place area placed.area_is
    (resting-stands chain.part now.quiet.0 b now.quiet.1 now.left) in
    subst (λ (one : Keyed). HasEntry one b.cur place) (sym placed.layout_is) (λ bytes. comes.entry)

pub begin_at-requires-clause-rests : goal.begin_at-requires-clause-rests
begin_at-requires-clause-rests g c told =
    let chain : AreasNow = c.args.areas.now in
    let tells = g.B.Blocks.tells in
    let a = g.B.Blocks.seen c.args.blocks.now in
    let b = g.B.Blocks.seen c.find_beginning.new.blocks in
    let place = c.args.place.now in
    let area : ℕ = c.area_of-area.result in
    let placed : IsPlaced chain place area c.area-layout.result =
    placed-at chain c.as_slice.result.now place area c.area-layout.result c.layout.result.now
    c.as_slice.ensures c.area_of-area.ensures.area c.area-layout.ensures.layout c.layout.ensures in
    let all : PartNo → Lengths = g.K.Kept.kept c.args.kept.now in
    let kept : Lengths = all (part_no (KeyedShape chain.part)) in
    let known : Known = known_in chain c.args.splits.now (mets c.args.slots.now) in
    let now : IsBetween chain.part known kept b =
    between chain.part tells told a b c.find_beginning.ensures.keeps (c.requires.rests told) known
    kept (g.met.B.Blocks.cur_may c.args.blocks.now told)
    (g.met.B.Blocks.cur_may c.find_beginning.new.blocks told) (c.requires.room told)
    (c.requires.knows told) in
    let inside : Contains (areas_in chain.part b.cur) area =
    area-inside chain b.cur now.knows.blocks.0 place area placed.area_is in
    subst (λ (one : Keyed). IsKeyedAtRest one b) (sym placed.layout_is)
    (rest-here chain.part now.quiet.0 b now.quiet.1 now.left area inside)

pub begin_at-requires-clause-room : goal.begin_at-requires-clause-room
begin_at-requires-clause-room g c told =
    let chain : AreasNow = c.args.areas.now in
    let tells = g.B.Blocks.tells in
    let a = g.B.Blocks.seen c.args.blocks.now in
    let b = g.B.Blocks.seen c.find_beginning.new.blocks in
    let place = c.args.place.now in
    let area : ℕ = c.area_of-area.result in
    let placed : IsPlaced chain place area c.area-layout.result =
    placed-at chain c.as_slice.result.now place area c.area-layout.result c.layout.result.now
    c.as_slice.ensures c.area_of-area.ensures.area c.area-layout.ensures.layout c.layout.ensures in
    let all : PartNo → Lengths = g.K.Kept.kept c.args.kept.now in
    let kept : Lengths = all (part_no (KeyedShape chain.part)) in
    let known : Known = known_in chain c.args.splits.now (mets c.args.slots.now) in
    let now : IsBetween chain.part known kept b =
    between chain.part tells told a b c.find_beginning.ensures.keeps (c.requires.rests told) known
    kept (g.met.B.Blocks.cur_may c.args.blocks.now told)
    (g.met.B.Blocks.cur_may c.find_beginning.new.blocks told) (c.requires.room told)
    (c.requires.knows told) in
    let inside : Contains (areas_in chain.part b.cur) area =
    area-inside chain b.cur now.knows.blocks.0 place area placed.area_is in
    subst (λ (one : Keyed). KeepsRoom one (all (area_part one)) b) (sym placed.layout_is)
    (room-here chain.part now.quiet.0 b now.quiet.1 now.left kept now.room area inside)

pub begin_at-requires-clause-due : goal.begin_at-requires-clause-due
begin_at-requires-clause-due g c told =
    let chain : AreasNow = c.args.areas.now in
    let tells = g.B.Blocks.tells in
    let a = g.B.Blocks.seen c.args.blocks.now in
    let b = g.B.Blocks.seen c.find_beginning.new.blocks in
    let place = c.args.place.now in
    let all : PartNo → Lengths = g.K.Kept.kept c.args.kept.now in
    let kept : Lengths = all (part_no (KeyedShape chain.part)) in
    let area : ℕ = c.area_of-area.result in
    let placed : IsPlaced chain place area c.area-layout.result =
    placed-at chain c.as_slice.result.now place area c.area-layout.result c.layout.result.now
    c.as_slice.ensures c.area_of-area.ensures.area c.area-layout.ensures.layout c.layout.ensures in
    let call : Keeps tells a b = c.find_beginning.ensures.keeps in
    let found : area_for chain.part a.cur place ≡ Some area =
    area-known chain a.cur (c.requires.knows told).blocks.0 place area placed.area_is in
    let due = c.requires.due told in
    let n = c.args.longest in
    let free = free_count c.args.space.now in
    let split : Option AreaSplit = c.args.splits.now.split in
    let move : Option MoveNow = c.args.splits.now.move in
    let begins : Option Beginning = c.in_ok-begins.begins in
    let either : (begins ≡ Some Interval) ⊎ (begins ≡ None) = search rules in
    let some : IsSome (free_interval (area_of chain.part area) (head_in chain.part a.cur area)) =
    free-at chain.part area c.area-layout.result placed.layout_is a.cur c.as_slice-2.result.now
    c.free.result free c.free.ensures begins either (c.in_ok-begins.ensures.begins told) due.0
    (new-due chain.part split move a.cur free kept place n c.requires.none c.requires.still due.0
    due.1 area found) in
    subst (λ (one : Keyed). IsDue one None b.cur (all (area_part one)) place n)
    (sym placed.layout_is)
    (subst (λ (image : Image). IsDue (area_of chain.part area) None image kept place n)
    (sym (call.content told))
    (copy-due chain.part split move a.cur free kept place n c.requires.none c.requires.still due.0
    due.1 area found some))

pub returns-clause-stage : goal.returns-clause-stage
returns-clause-stage g c told =
    let chain : AreasNow = c.args.areas.now in
    let a = g.B.Blocks.seen c.args.blocks.now in
    let place = c.args.place.now in
    let all : PartNo → Lengths = g.K.Kept.kept c.args.kept.now in
    let kept : Lengths = all (part_no (KeyedShape chain.part)) in
    let area : ℕ = c.area_of-area.result in
    let placed : IsPlaced chain place area c.area-layout.result =
    placed-at chain c.as_slice.result.now place area c.area-layout.result c.layout.result.now
    c.as_slice.ensures c.area_of-area.ensures.area c.area-layout.ensures.layout c.layout.ensures in
    let found : area_for chain.part a.cur place ≡ Some area =
    area-known chain a.cur (c.requires.knows told).blocks.0 place area placed.area_is in
    let due = c.requires.due told in
    let n = c.args.longest in
    let free = free_count c.args.space.now in
    let split : Option AreaSplit = c.args.splits.now.split in
    let move : Option MoveNow = c.args.splits.now.move in
    let begins : Option Beginning = c.in_ok-begins.begins in
    let either : (begins ≡ Some Interval) ⊎ (begins ≡ None) = search rules in
    let some : IsSome (free_interval (area_of chain.part area) (head_in chain.part a.cur area)) =
    free-at chain.part area c.area-layout.result placed.layout_is a.cur c.as_slice-2.result.now
    c.free.result free c.free.ensures begins either (c.in_ok-begins.ensures.begins told) due.0
    (new-due chain.part split move a.cur free kept place n c.requires.none c.requires.still due.0
    due.1 area found) in
    IfOk-weaker c.begin_at.result _ _
    (copy-stage chain.part split move a.cur free kept place n c.requires.none c.requires.still due.0
    due.1 area found some)
    c.begin_at.ensures.stage

pub returns-clause-keeps : goal.returns-clause-keeps
returns-clause-keeps g c told =
    let chain : AreasNow = c.args.areas.now in
    let tells = g.B.Blocks.tells in
    let a = g.B.Blocks.seen c.args.blocks.now in
    let b = g.B.Blocks.seen c.find_beginning.new.blocks in
    let place = c.args.place.now in
    let d = g.B.Blocks.seen c.begin_at.new.blocks in
    let area : ℕ = c.area_of-area.result in
    let placed : IsPlaced chain place area c.area-layout.result =
    placed-at chain c.as_slice.result.now place area c.area-layout.result c.layout.result.now
    c.as_slice.ensures c.area_of-area.ensures.area c.area-layout.ensures.layout c.layout.ensures in
    let all : PartNo → Lengths = g.K.Kept.kept c.args.kept.now in
    let kept : Lengths = all (part_no (KeyedShape chain.part)) in
    let call : Keeps tells a b = c.find_beginning.ensures.keeps in
    let known : Known = known_in chain c.args.splits.now (mets c.args.slots.now) in
    let now : IsBetween chain.part known kept b =
    between chain.part tells told a b call (c.requires.rests told) known kept
    (g.met.B.Blocks.cur_may c.args.blocks.now told)
    (g.met.B.Blocks.cur_may c.find_beginning.new.blocks told) (c.requires.room told)
    (c.requires.knows told) in
    let inside : Contains (areas_in chain.part b.cur) area =
    area-inside chain b.cur now.knows.blocks.0 place area placed.area_is in
    let keeps : KeepsPart (area_of chain.part area) kept b d =
    subst (λ (one : Keyed). KeepsPart one (all (area_part one)) b d) placed.layout_is
    (c.begin_at.ensures.keeps told) in
    keeps-then chain.part tells told a b call (c.requires.rests told) c.args.splits.now.move kept d
    (c.requires.room told)
    (stage-keeps chain.part area b d now.quiet now.left inside kept keeps c.args.splits.now.move
    now.room)

pub returns-clause-done : goal.returns-clause-done
returns-clause-done g c told =
    let chain : AreasNow = c.args.areas.now in
    let tells = g.B.Blocks.tells in
    let a = g.B.Blocks.seen c.args.blocks.now in
    let b = g.B.Blocks.seen c.find_beginning.new.blocks in
    let place = c.args.place.now in
    let d = g.B.Blocks.seen c.begin_at.new.blocks in
    let area : ℕ = c.area_of-area.result in
    let placed : IsPlaced chain place area c.area-layout.result =
    placed-at chain c.as_slice.result.now place area c.area-layout.result c.layout.result.now
    c.as_slice.ensures c.area_of-area.ensures.area c.area-layout.ensures.layout c.layout.ensures in
    let all : PartNo → Lengths = g.K.Kept.kept c.args.kept.now in
    let kept : Lengths = all (part_no (KeyedShape chain.part)) in
    let call : Keeps tells a b = c.find_beginning.ensures.keeps in
    let old : List Met = mets c.args.slots.now in
    let known : Known = known_in chain c.args.splits.now old in
    let now : IsBetween chain.part known kept b =
    between chain.part tells told a b call (c.requires.rests told) known kept
    (g.met.B.Blocks.cur_may c.args.blocks.now told)
    (g.met.B.Blocks.cur_may c.find_beginning.new.blocks told) (c.requires.room told)
    (c.requires.knows told) in
    let inside : Contains (areas_in chain.part b.cur) area =
    area-inside chain b.cur now.knows.blocks.0 place area placed.area_is in
    let keeps : KeepsPart (area_of chain.part area) kept b d =
    subst (λ (one : Keyed). KeepsPart one (all (area_part one)) b d) placed.layout_is
    (c.begin_at.ensures.keeps told) in
    let split : Option AreaSplit = c.args.splits.now.split in
    let move : Option MoveNow = c.args.splits.now.move in
    let next : Option SplitNow = c.begin_at.new.split.split in
    let new : List Met = mets c.begin_at.new.slots in
    let still : c.splits.inside.whole.move ≡ None =
    ap (λ (one : Splitting). one.move) c.splits.view_is ∙ c.requires.still in
    on_ok_weaker c.begin_at.result
    (λ both. done-then chain.part tells told a b call (c.requires.rests told) move
    (known_by chain (split_at area next) c.splits.inside.whole.move new) d
    (subst (λ (one : Option MoveNow). IsDoneIn chain.part one
    (known_by chain (split_at area next) c.splits.inside.whole.move new) b d)
    (still ∙ sym c.requires.still)
    (stage-done chain.part area b d now.quiet now.left inside kept keeps chain.areas chain.ends
    chain.intervals chain.intervals split next c.splits.inside.whole.move old new
    (subst (λ (one : Option MoveNow). Knows (KeyedShape chain.part) (known_by chain split one old)
    b) (c.requires.still ∙ sym still) now.knows)
    (subst (λ (one : Keyed). IsStageDone one b d) placed.layout_is both.0.0)
    (subst (λ (one : Keyed). AreaUnderWay one next d) placed.layout_is both.0.1)
    still both.1.0
    (omega (
      arith,
      now.knows.blocks.2,
      stage-counts chain.part area b d now.quiet now.left inside kept keeps CiCopy
          (subst (λ (one : Keyed). AddsEntries one CiCopy b.cur d.cur) placed.layout_is both.1.1),
    )))))
    (on-ok-both c.begin_at.result _ _
    (on-ok-both c.begin_at.result _ _ (c.begin_at.ensures.done told) (c.begin_at.ensures.way told))
    (on-ok-both c.begin_at.result _ _ (c.begin_at.ensures.forgets told)
    (c.begin_at.ensures.adds told)))

pub returns-clause-mine : goal.returns-clause-mine
returns-clause-mine g c =
    let chain : AreasNow = c.args.areas.now in
    let tells = g.B.Blocks.tells in
    let b = g.B.Blocks.seen c.find_beginning.new.blocks in
    let place = c.args.place.now in
    let area : ℕ = c.area_of-area.result in
    let placed : IsPlaced chain place area c.area-layout.result =
    placed-at chain c.as_slice.result.now place area c.area-layout.result c.layout.result.now
    c.as_slice.ensures c.area_of-area.ensures.area c.area-layout.ensures.layout c.layout.ensures in
    none-or-left c.area-layout.result (area_of chain.part area) placed.layout_is tells b.cur place
    (IsMine chain) (mets c.args.slots.now) (mets c.begin_at.new.slots)
    (λ leaves. leaves-mine chain tells b.cur place area placed.area_is (mets c.args.slots.now)
    (mets c.begin_at.new.slots) leaves c.requires.mine)
    c.begin_at.ensures.leaves

pub returns-clause-unread : goal.returns-clause-unread
returns-clause-unread g c =
    let chain : AreasNow = c.args.areas.now in
    let tells = g.B.Blocks.tells in
    let a = g.B.Blocks.seen c.args.blocks.now in
    let b = g.B.Blocks.seen c.find_beginning.new.blocks in
    let place = c.args.place.now in
    let d = g.B.Blocks.seen c.begin_at.new.blocks in
    let area : ℕ = c.area_of-area.result in
    let placed : IsPlaced chain place area c.area-layout.result =
    placed-at chain c.as_slice.result.now place area c.area-layout.result c.layout.result.now
    c.as_slice.ensures c.area_of-area.ensures.area c.area-layout.ensures.layout c.layout.ensures in
    let call : Keeps tells a b = c.find_beginning.ensures.keeps in
    let move : Option MoveNow = c.splits.inside.whole.move in
    let new : List Met = mets c.begin_at.new.slots in
    if-err-both c.begin_at.result _ (λ fault. fault ≡ Read → Keeps tells b d)
    (λ fault. fault ≡ Read → Keeps tells a d
    × (IsTrue tells → Knows (KeyedShape chain.part)
    (known_by chain (split_at area c.begin_at.new.split.split) move new) d))
    (λ fault failed keeps read. (
      then-keeps tells a b d call (keeps read),
      λ told.
          let all : PartNo → Lengths = g.K.Kept.kept c.args.kept.now in
          let kept : Lengths = all (part_no (KeyedShape chain.part)) in
          let old : List Met = mets c.args.slots.now in
          let known : Known = known_in chain c.args.splits.now old in
          let now : IsBetween chain.part known kept b =
          between chain.part tells told a b call (c.requires.rests told) known kept
          (g.met.B.Blocks.cur_may c.args.blocks.now told)
          (g.met.B.Blocks.cur_may c.find_beginning.new.blocks told) (c.requires.room told)
          (c.requires.knows told) in
          knows-failed chain place area c.area-layout.result placed tells told b d (keeps read)
          c.args.splits.now.split c.args.splits.now.move old new kept now c.requires.none
          c.begin_at.ensures.leaves c.begin_at.new.split.split move failed
          (ap (λ (one : Splitting). one.move) c.splits.view_is),
    ))
    c.begin_at.ensures.split c.begin_at.ensures.unread

pub move_on-requires-clause-counted : goal.move_on-requires-clause-counted
move_on-requires-clause-counted g c told =
    let chain : AreasNow = c.args.areas.now in
    (c.requires.knows told).blocks.2
    ∙ ap (intervals_in chain.part) (sym (c.find_beginning.ensures.keeps.content told))

pub returns-then-not-takes_least-clause-more : goal.returns-then-not-takes_least-clause-more
returns-then-not-takes_least-clause-more g c told aside =
    let chain : AreasNow = c.args.areas.now in
    let a = g.B.Blocks.seen c.args.blocks.now in
    let quiet = c.requires.rests told in
    let left : Left a a.cur = g.met.B.Blocks.cur_may c.args.blocks.now told in
    let few : AreFew c.area-layout.result c.free.result
    (Area c.in-Some-Area.entries c.in-Some-Area.stay) =
    few-found c.area-layout.result c.free.result c.in_ok-begins.begins c.in-Some-Area.entries
    c.in-Some-Area.stay
    (c.in-Some-Area.is ∙ ap Some (rw c.in-Some-Area.is at c.in-Some-Area.field-0-is))
    c.in_ok-begins.ensures.few in
    let some : 1 ≤ free_count c.args.space.now = omega (arith, few.0, c.free.ensures) in
    absurd (takes-aside chain a.cur c.args.space.now (c.requires.knows told).blocks.0
    (resting-stands chain.part quiet.0 a quiet.1 left).1.chain aside some
    (c.takes_least.ensures.has c.if-not-takes_least.true))

pub returns-in-Some-Area-clause-more : goal.returns-in-Some-Area-clause-more
returns-in-Some-Area-clause-more g c told aside =
    let chain : AreasNow = c.args.areas.now in
    let tells = g.B.Blocks.tells in
    let a = g.B.Blocks.seen c.args.blocks.now in
    let b = g.B.Blocks.seen c.find_beginning.new.blocks in
    let place = c.args.place.now in
    let all : PartNo → Lengths = g.K.Kept.kept c.args.kept.now in
    let kept : Lengths = all (part_no (KeyedShape chain.part)) in
    let call : Keeps tells a b = c.find_beginning.ensures.keeps in
    let quiet = c.requires.rests told in
    let left : Left a a.cur = g.met.B.Blocks.cur_may c.args.blocks.now told in
    let room : ChainKeepsRoom chain.part kept b =
    room-then chain.part tells told a b call quiet kept (c.requires.room told) in
    let area : ℕ = c.area_of-area.result in
    let placed : IsPlaced chain place area c.area-layout.result =
    placed-at chain c.as_slice.result.now place area c.area-layout.result c.layout.result.now
    c.as_slice.ensures c.area_of-area.ensures.area c.area-layout.ensures.layout c.layout.ensures in
    let comes : ComesTo chain.part a.cur place area =
    area-comes chain a.cur (c.requires.knows told).blocks.0 place area placed.area_is
    (resting-stands chain.part quiet.0 a quiet.1 left) in
    let at : List ℕ = c.as_slice-2.result.now in
    let whole : IsWhole (area_of chain.part area) (head_in chain.part a.cur area) at c.free.result
    c.in-Some-Area.entries c.in-Some-Area.stay =
    whole-at chain.part area c.area-layout.result placed.layout_is a.cur at c.free.result
    c.in_ok-begins.begins c.in-Some-Area.entries c.in-Some-Area.stay
    (c.in-Some-Area.is ∙ ap Some (rw c.in-Some-Area.is at c.in-Some-Area.field-0-is))
    (c.in_ok-begins.ensures.begins told) in
    let few : c.in-Some-Area.entries ≤ area_intervals chain.part =
    subst (λ (n : ℕ). n ≤ area_intervals chain.part) (sym whole.count)
    (head-intervals chain.part area (head_in chain.part a.cur area) comes.linked.stands.head) in
    let areas : List ℕ = chain.areas in
    let after : AreasNow = c.move_on.new.areas in
    let next : Option MoveNow = c.move_on.new.whole.move in
    let owners : List (Option PartNo) = c.args.space.now in
    let taken : List (Option PartNo) = c.move_on.new.space in
    let old : List Met = mets c.args.slots.now in
    let new : List Met = mets c.move_on.new.slots in
    let split : Option AreaSplit =
    split_at c.splits.inside.area c.splits.inside.interval.split in
    let none : split ≡ None =
    ap (λ (one : Splitting). one.split) c.splits.view_is ∙ c.requires.none in
    IfOk-weaker c.move_on.result _ _
    (λ kind does.
    let keeps : KeepsChain (KeyedShape chain.part) areas (held_with after.areas next) owners taken =
    subst (λ (one : List ℕ). KeepsChain (KeyedShape chain.part) one (held_with after.areas next)
    owners taken) (ap (held_now areas) c.begin.ensures.begun)
    (subst (λ (one : List ℕ). KeepsChain (KeyedShape chain.part)
    (held_now areas c.begin.new.self.move) one owners taken) (held-past after.areas next does.1.1)
    does.1.0) in
    subst (λ (one : Option AreaSplit). HasMore (KeyedShape chain.part) kind
    (known_by chain one c.args.splits.now.move old) (known_by after split next new)
    (free_count owners) (free_count taken)) (none ∙ sym c.requires.none)
    (subst (λ (one : Option MoveNow). HasMore (KeyedShape chain.part) kind
    (known_by chain split one old) (known_by after split next new) (free_count owners)
    (free_count taken)) (sym c.requires.still)
    (claiming-fewer chain after split c.begin.new.self.move next area c.in-Some-Area.entries
    c.in-Some-Area.stay kind owners taken old new none c.begin.ensures.begun few does.0.0 does.0.1.0
    c.move_on.ensures.counted keeps does.0.1.1)))
    (ok-and c.move_on.result _ _
    (ok-and c.move_on.result _ _ c.move_on.ensures.stage
    (ok-and c.move_on.result _ _ (c.move_on.ensures.next told kept room) c.move_on.ensures.claimed))
    (ok-and c.move_on.result _ _ c.move_on.ensures.chain c.move_on.ensures.past))

pub returns-clause-more : goal.returns-clause-more
returns-clause-more g c told aside =
    let chain : AreasNow = c.args.areas.now in
    let area : ℕ = c.area_of-area.result in
    let free : ℕ = free_count c.args.space.now in
    let next : Option SplitNow = c.begin_at.new.split.split in
    let move : Option MoveNow = c.splits.inside.whole.move in
    let old : List Met = mets c.args.slots.now in
    let new : List Met = mets c.begin_at.new.slots in
    let still : move ≡ None =
    ap (λ (one : Splitting). one.move) c.splits.view_is ∙ c.requires.still in
    IfOk-weaker c.begin_at.result _ _
    (λ kind both.
    subst (λ (one : StageKind). HasMore (KeyedShape chain.part) one
    (known_in chain c.args.splits.now old) (known_by chain (split_at area next) move new) free free)
    (sym both.0)
    (subst (λ (one : Option MoveNow). HasMore (KeyedShape chain.part) CiCopy
    (known_in chain c.args.splits.now old) (known_by chain (split_at area next) one new) free free)
    (sym still)
    (subst (λ (one : Option AreaSplit). HasMore (KeyedShape chain.part) CiCopy
    (known_by chain one c.args.splits.now.move old) (known_by chain (split_at area next) None new)
    free free) (sym c.requires.none)
    (subst (λ (one : Option MoveNow). HasMore (KeyedShape chain.part) CiCopy
    (known_by chain None one old) (known_by chain (split_at area next) None new) free free)
    (sym c.requires.still) (copy-fewer chain area free next old new both.1)))))
    (ok-and c.begin_at.result _ _ c.begin_at.ensures.stage (c.begin_at.ensures.begun told))
