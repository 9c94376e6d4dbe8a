use Rattle.std.proofs.Common.{◌≡◌, ℕ, Option, map, sym, subst}
use Rattle.std.proofs.lemmas.Result.{IfOk-weaker, on_err_weaker}
use Rattle.vr_types.specs.Image.{Image}
use Rattle.vr_types.specs.Seen.{Left}
use Rattle.vr_space.specs.Met.{IsMet}
use Rattle.vr_space.specs.Part.{given}
use Rattle.vr_keyed.specs.Slots.{KeepsPlaces, LeavesMet, met_in, mets}
use Rattle.vr_keyed.specs.Ready.{again, put_of}
use Rattle.vr_keyed.proofs.Adding.{on-err-from}
use Rattle.vr_keyed.proofs.Refreshing.{places-again}
use Rattle.vr_keyed.proofs.SetThen.{ready-keeps, may-keeps, may-then, done-then}
use Rattle.vr_keyed.proofs.set.set.Goals as goal

pub put_set-requires-clause-met : goal.put_set-requires-clause-met
put_set-requires-clause-met g c told =
    subst (λ (image : Image). IsMet c.args.layout.now image (met_in c.meet.new.slots.first))
    (sym (c.meet.ensures.keeps.content told)) (c.in_ok-meet.ensures.meets.newly.is_met told)

pub returns-in_err-meet-clause-may : goal.returns-in_err-meet-clause-may
returns-in_err-meet-clause-may g c told kept split ready =
    let B = g.B.Blocks in
    let a = B.seen c.args.blocks.now in
    let left : Left a a.cur = g.met.B.Blocks.cur_may c.args.blocks.now told in
    may-keeps c.args.layout.now kept split c.args.place.now (given c.args.bytes) B.tells told a
    (B.seen c.meet.new.blocks) c.meet.ensures.keeps left ready

pub returns-clause-may : goal.returns-clause-may
returns-clause-may g c told kept split ready =
    let B = g.B.Blocks in
    let part = c.args.layout.now in
    let place = c.args.place.now in
    let item = given c.args.bytes in
    let a = B.seen c.args.blocks.now in
    let m = B.seen c.meet.new.blocks in
    let left : Left a a.cur = g.met.B.Blocks.cur_may c.args.blocks.now told in
    may-then part kept split place item B.tells told a m c.meet.ensures.keeps left ready
    (B.seen c.put_set.new.blocks)
    (c.put_set.ensures.may told kept split
    (ready-keeps part kept split place item B.tells told a m c.meet.ensures.keeps left ready))

pub returns-clause-done : goal.returns-clause-done
returns-clause-done g c told =
    let B = g.B.Blocks in
    let part = c.args.layout.now in
    let place = c.args.place.now in
    let item = given c.args.bytes in
    let a = B.seen c.args.blocks.now in
    let m = B.seen c.meet.new.blocks in
    let left : Left a a.cur = g.met.B.Blocks.cur_may c.args.blocks.now told in
    IfOk-weaker c.put_set.result _ _
    (λ put done kept split ready.
    done-then part kept split place item B.tells told a m c.meet.ensures.keeps left ready
    (B.seen c.put_set.new.blocks) (put_of put)
    (done kept split
    (ready-keeps part kept split place item B.tells told a m c.meet.ensures.keeps left ready)))
    (c.put_set.ensures.done told)

pub returns-clause-met : goal.returns-clause-met
returns-clause-met g c told =
    let B = g.B.Blocks in
    let part = c.args.layout.now in
    let place = c.args.place.now in
    let item = given c.args.bytes in
    let a = B.seen c.args.blocks.now in
    let m = B.seen c.meet.new.blocks in
    let left : Left a a.cur = g.met.B.Blocks.cur_may c.args.blocks.now told in
    IfOk-weaker c.put_set.result _ _
    (λ put all kept split ready met is. all kept split
    (ready-keeps part kept split place item B.tells told a m c.meet.ensures.keeps left ready) met
    (subst (λ (image : Image). IsMet part image met) (sym (c.meet.ensures.keeps.content told)) is))
    (c.put_set.ensures.met told)

pub returns-clause-places : goal.returns-clause-places
returns-clause-places g c has =
    let old = mets c.args.slots.now in
    let mid = mets c.meet.new.slots in
    let kept = c.in_ok-meet.ensures.meets.meets.known has in
    IfOk-weaker c.put_set.result
    (λ (put : Option ℕ). mets c.put_set.new.slots ≡ map (again put c.put_set.new.out) mid) _
    (λ put changed. subst (KeepsPlaces old) (sym changed)
    (places-again put c.put_set.new.out old mid kept))
    c.put_set.ensures.refreshed

pub returns-in_err-meet-clause-failed : goal.returns-in_err-meet-clause-failed
returns-in_err-meet-clause-failed g c =
    on-err-from c.from_residual.result _ c.meet.ensures.leaves

pub returns-clause-refreshed : goal.returns-clause-refreshed
returns-clause-refreshed g c =
    IfOk-weaker c.put_set.result
    (λ (put : Option ℕ).
    mets c.put_set.new.slots ≡ map (again put c.put_set.new.out) (mets c.meet.new.slots)) _
    (λ put changed. (mets c.meet.new.slots, c.meet.ensures.leaves, changed))
    c.put_set.ensures.refreshed

pub returns-clause-failed : goal.returns-clause-failed
returns-clause-failed g c =
    let B = g.B.Blocks in
    let old = mets c.args.slots.now in
    on_err_weaker c.put_set.result
    (λ same. subst (LeavesMet c.args.layout.now B.tells (B.seen c.args.blocks.now).cur
    c.args.place.now old) (sym same) c.meet.ensures.leaves)
    c.put_set.ensures.failed
