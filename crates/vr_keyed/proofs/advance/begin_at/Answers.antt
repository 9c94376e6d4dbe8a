use Rattle.std.proofs.Common.{◌≡◌, Some, inl, inr, sym, subst, rules}
use Rattle.std.proofs.lemmas.Result.{IfOk-weaker, IfErr-weaker, on_ok_weaker}
use Rattle.vr_types.specs.Image.{Image}
use Rattle.vr_types.specs.declared.unit.StageKind.{StageKind}
use Rattle.vr_types.specs.declared.unit.StageKind.TheVariants.{CiCopy}
use Rattle.vr_types.proofs.CallerLemmas.{keeps-then}
use Rattle.vr_space.specs.AreaCalls.{area_part}
use Rattle.vr_space.specs.Keyed.{Keyed, IsKeyedAtRest, KeepsRoom}
use Rattle.vr_space.proofs.CallerLemmas.{rest-here-keeps, room-here-keeps}
use Rattle.vr_split.specs.Splits.{AddsEntries, stage_now}
use Rattle.vr_split.specs.Switching.{KeepsPart, IsStageDone}
use Rattle.vr_keyed.proofs.Adding.{on-ok-from}
use Rattle.vr_keyed.proofs.Advancing.{after-copy, part-after, part-kept, done-after}
use Rattle.vr_keyed.proofs.Changing.{ok-and}
use Rattle.vr_keyed.proofs.advance.begin_at.Goals as goal

pub returns-in_err-begin_split-clause-keeps : goal.returns-in_err-begin_split-clause-keeps
returns-in_err-begin_split-clause-keeps g c told =
    let part = c.args.layout.now in
    let b = g.B.Blocks.seen c.begin_split.new.blocks in
    part-kept g.B.Blocks.tells told part
    (g.K.Kept.kept c.args.kept.now (area_part part))
    (g.B.Blocks.seen c.args.blocks.now) b b c.begin_split.ensures.keeps (c.requires.rests told)
    (c.requires.room told)

pub returns-in_err-begin_split-clause-leaves : goal.returns-in_err-begin_split-clause-leaves
returns-in_err-begin_split-clause-leaves g c = inr c.begin_split.ensures.leaves

pub returns-then-not-branch-clause-leaves : goal.returns-then-not-branch-clause-leaves
returns-then-not-branch-clause-leaves g c = inr c.begin_split.ensures.leaves

pub go_on-requires-clause-rests : goal.go_on-requires-clause-rests
go_on-requires-clause-rests g c told =
    let b = g.B.Blocks.seen c.begin_split.new.blocks in
    subst (λ (p : Keyed). IsKeyedAtRest p b) (sym c.begin_split.ensures.part)
    (rest-here-keeps g.B.Blocks.tells told c.args.layout.now (g.B.Blocks.seen c.args.blocks.now) b
    c.begin_split.ensures.keeps (c.requires.rests told))

pub returns-clause-stage : goal.returns-clause-stage
returns-clause-stage g c =
    let copy : stage_now c.begin_split.new.split.split ≡ Some CiCopy =
    c.in_ok-begin_split.ensures.copy (search rules) in
    IfOk-weaker c.go_on.result _ _ (λ kind is. cc (copy, is)) c.go_on.ensures.stage

pub returns-clause-keeps : goal.returns-clause-keeps
returns-clause-keeps g c told =
    let part = c.args.layout.now in
    let a = g.B.Blocks.seen c.args.blocks.now in
    let b = g.B.Blocks.seen c.begin_split.new.blocks in
    let after = g.B.Blocks.seen c.go_on.new.blocks in
    let kept = g.K.Kept.kept c.args.kept.now (area_part part) in
    let rests = c.requires.rests told in
    part-after g.B.Blocks.tells told part kept a b after c.begin_split.ensures.keeps rests
    (c.requires.room told)
    (subst (λ (p : Keyed). KeepsPart p kept b after) c.begin_split.ensures.part
    (c.go_on.ensures.keeps told kept
    (subst (λ (p : Keyed). KeepsRoom p kept b) (sym c.begin_split.ensures.part)
    (room-here-keeps g.B.Blocks.tells told part a b c.begin_split.ensures.keeps rests.sound kept
    (c.requires.room told)))))

pub returns-clause-done : goal.returns-clause-done
returns-clause-done g c told =
    let part = c.args.layout.now in
    let a = g.B.Blocks.seen c.args.blocks.now in
    let b = g.B.Blocks.seen c.begin_split.new.blocks in
    let after = g.B.Blocks.seen c.go_on.new.blocks in
    IfOk-weaker c.go_on.result _ _
    (λ kind done. done-after g.B.Blocks.tells told part
    (g.K.Kept.kept c.args.kept.now (area_part part)) a b after
    c.begin_split.ensures.keeps (c.requires.rests told) (c.requires.room told)
    (subst (λ (p : Keyed). IsStageDone p b after) c.begin_split.ensures.part done))
    (c.go_on.ensures.done told)

pub returns-clause-begun : goal.returns-clause-begun
returns-clause-begun g c told = on_ok_weaker c.go_on.result
    (after-copy c.begin_split.new.split.split c.go_on.new.split.split
    (c.in_ok-begin_split.ensures.copy (search rules)))
    c.go_on.ensures.next

pub returns-clause-adds : goal.returns-clause-adds
returns-clause-adds g c told =
    let part = c.args.layout.now in
    let b = g.B.Blocks.seen c.begin_split.new.blocks in
    let after = g.B.Blocks.seen c.go_on.new.blocks in
    let copy : stage_now c.begin_split.new.split.split ≡ Some CiCopy =
    c.in_ok-begin_split.ensures.copy (search rules) in
    IfOk-weaker c.go_on.result _ _
    (λ kind both.
    let is : kind ≡ CiCopy = cc (copy, both.0) in
    subst (λ (image : Image). AddsEntries part CiCopy image after.cur)
    (c.begin_split.ensures.keeps.content told)
    (subst (λ (one : StageKind). AddsEntries part one b.cur after.cur) is
    (subst (λ (p : Keyed). AddsEntries p kind b.cur after.cur) c.begin_split.ensures.part both.1)))
    (ok-and c.go_on.result _ _ c.go_on.ensures.stage (c.go_on.ensures.adds told))

pub returns-clause-leaves : goal.returns-clause-leaves
returns-clause-leaves g c = inl c.go_on.ensures.none

pub returns-clause-forgets : goal.returns-clause-forgets
returns-clause-forgets g c told = on-ok-from c.go_on.result _ c.go_on.ensures.none

pub returns-clause-unread : goal.returns-clause-unread
returns-clause-unread g c =
    IfErr-weaker c.go_on.result _ _
    (λ fault unread read. keeps-then g.B.Blocks.tells (g.B.Blocks.seen c.args.blocks.now)
    (g.B.Blocks.seen c.begin_split.new.blocks) (g.B.Blocks.seen c.go_on.new.blocks)
    c.begin_split.ensures.keeps (unread read)) c.go_on.ensures.unread
