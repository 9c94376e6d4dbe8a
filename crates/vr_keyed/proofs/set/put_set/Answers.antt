use Rattle.std.proofs.Common.{◌≡◌, ◌<◌, true≢false, sym, ◌∙◌, arith, rules}
use Rattle.vr_types.specs.Image.{block_at}
use Rattle.vr_types.specs.Seen.{Left}
use Rattle.vr_types.proofs.CallerLemmas.{cur-put}
use Rattle.vr_space.specs.Met.{IsMet}
use Rattle.vr_space.specs.Part.{given}
use Rattle.vr_keyed.specs.Slots.{met_in, mets}
use Rattle.vr_keyed.proofs.Setting.{now-head, old-holds, room-to-write, may-set, done-set}
use Rattle.vr_keyed.proofs.Setting.{refresh-met}
use Rattle.vr_keyed.proofs.Refreshing.{again-none, again-some, some-given}
use Rattle.vr_keyed.proofs.set.put_set.Goals as goal

pub returns-then-not-write_set-clause-may : goal.returns-then-not-write_set-clause-may
returns-then-not-write_set-clause-may g c told kept split ready =
    let part = c.args.layout.now in
    let slots = c.args.slots.now in
    let met = met_in slots.first in
    let place = c.args.place.now in
    let item = given c.args.bytes in
    let a = g.B.Blocks.seen c.args.blocks.now in
    let left : Left a a.cur = g.met.B.Blocks.cur_may c.args.blocks.now told in
    let is : IsMet part a.cur met = c.requires.met told in
    let fits = room-to-write part kept split place item met a ready is c.requires.first.here left in
    absurd (true≢false (sym (c.write_set.ensures.written
    (old-holds part kept split place item met a ready is c.requires.first.here left)
    (some-given part (block_at a.cur part.head) place item
    (now-head part kept split place item met a ready is c.requires.first.here left) ready.valid)
    (omega (arith, fits, c.requires.out))).0 ∙ c.if-not-write_set.true))

pub returns-then-not-write_set-clause-done : goal.returns-then-not-write_set-clause-done
returns-then-not-write_set-clause-done g c told kept split ready =
    let part = c.args.layout.now in
    let slots = c.args.slots.now in
    let met = met_in slots.first in
    let place = c.args.place.now in
    let item = given c.args.bytes in
    let a = g.B.Blocks.seen c.args.blocks.now in
    let left : Left a a.cur = g.met.B.Blocks.cur_may c.args.blocks.now told in
    let is : IsMet part a.cur met = c.requires.met told in
    let fits = room-to-write part kept split place item met a ready is c.requires.first.here left in
    absurd (true≢false (sym (c.write_set.ensures.written
    (old-holds part kept split place item met a ready is c.requires.first.here left)
    (some-given part (block_at a.cur part.head) place item
    (now-head part kept split place item met a ready is c.requires.first.here left) ready.valid)
    (omega (arith, fits, c.requires.out))).0 ∙ c.if-not-write_set.true))

pub returns-in_err-put-clause-may : goal.returns-in_err-put-clause-may
returns-in_err-put-clause-may g c told kept split ready =
    let part = c.args.layout.now in
    let slots = c.args.slots.now in
    let met = met_in slots.first in
    let place = c.args.place.now in
    let item = given c.args.bytes in
    let a = g.B.Blocks.seen c.args.blocks.now in
    let left : Left a a.cur = g.met.B.Blocks.cur_may c.args.blocks.now told in
    let is : IsMet part a.cur met = c.requires.met told in
    let fits = room-to-write part kept split place item met a ready is c.requires.first.here left in
    let written = c.write_set.ensures.written
    (old-holds part kept split place item met a ready is c.requires.first.here left)
    (some-given part (block_at a.cur part.head) place item
    (now-head part kept split place item met a ready is c.requires.first.here left) ready.valid)
    (omega (arith, fits, c.requires.out)) in
    may-set part kept split place item met a ready is c.requires.first.here left
    c.write_set.new.out (search rules) written.1 g.B.Blocks.tells told
    (g.B.Blocks.seen c.put.new.self) c.put.ensures.after

pub returns-clause-may : goal.returns-clause-may
returns-clause-may g c told kept split ready =
    let part = c.args.layout.now in
    let slots = c.args.slots.now in
    let met = met_in slots.first in
    let place = c.args.place.now in
    let item = given c.args.bytes in
    let a = g.B.Blocks.seen c.args.blocks.now in
    let left : Left a a.cur = g.met.B.Blocks.cur_may c.args.blocks.now told in
    let is : IsMet part a.cur met = c.requires.met told in
    let fits = room-to-write part kept split place item met a ready is c.requires.first.here left in
    let written = c.write_set.ensures.written
    (old-holds part kept split place item met a ready is c.requires.first.here left)
    (some-given part (block_at a.cur part.head) place item
    (now-head part kept split place item met a ready is c.requires.first.here left) ready.valid)
    (omega (arith, fits, c.requires.out)) in
    may-set part kept split place item met a ready is c.requires.first.here left
    c.write_set.new.out (search rules) written.1 g.B.Blocks.tells told
    (g.B.Blocks.seen c.put.new.self) c.put.ensures.after

pub returns-clause-room : goal.returns-clause-room
returns-clause-room g c = c.refresh.ensures.room c.args.layout.now c.requires.room

pub returns-then-not-write_set-clause-refreshed : goal.returns-then-not-write_set-clause-refreshed
returns-then-not-write_set-clause-refreshed g c =
    sym (again-none c.write_set.new.out (mets c.args.slots.now))

pub returns-clause-refreshed : goal.returns-clause-refreshed
returns-clause-refreshed g c =
    c.refresh.ensures.met
    ∙ sym (again-some c.args.slots.now.first.number c.write_set.new.out (mets c.args.slots.now))

pub returns-clause-done : goal.returns-clause-done
returns-clause-done g c told kept split ready =
    let part = c.args.layout.now in
    let slots = c.args.slots.now in
    let met = met_in slots.first in
    let place = c.args.place.now in
    let item = given c.args.bytes in
    let a = g.B.Blocks.seen c.args.blocks.now in
    let b = g.B.Blocks.seen c.put.new.self in
    let left : Left a a.cur = g.met.B.Blocks.cur_may c.args.blocks.now told in
    let is : IsMet part a.cur met = c.requires.met told in
    let fits = room-to-write part kept split place item met a ready is c.requires.first.here left in
    let written = c.write_set.ensures.written
    (old-holds part kept split place item met a ready is c.requires.first.here left)
    (some-given part (block_at a.cur part.head) place item
    (now-head part kept split place item met a ready is c.requires.first.here left) ready.valid)
    (omega (arith, fits, c.requires.out)) in
    let below : slots.first.number < a.count =
    omega (arith, c.requires.on.0, c.requires.inside.1) in
    done-set part kept split place item met a ready is c.requires.first.here left
    c.write_set.new.out (search rules) written.1 g.B.Blocks.tells told b c.put.ensures.after
    (cur-put a slots.first.number c.write_set.new.out below left.length_is b.cur
    (c.in_ok-put.ensures.put told))

pub returns-then-not-write_set-clause-met : goal.returns-then-not-write_set-clause-met
returns-then-not-write_set-clause-met g c told kept split ready =
    let part = c.args.layout.now in
    let slots = c.args.slots.now in
    let met = met_in slots.first in
    let place = c.args.place.now in
    let item = given c.args.bytes in
    let a = g.B.Blocks.seen c.args.blocks.now in
    let left : Left a a.cur = g.met.B.Blocks.cur_may c.args.blocks.now told in
    let is : IsMet part a.cur met = c.requires.met told in
    let fits = room-to-write part kept split place item met a ready is c.requires.first.here left in
    absurd (true≢false (sym (c.write_set.ensures.written
    (old-holds part kept split place item met a ready is c.requires.first.here left)
    (some-given part (block_at a.cur part.head) place item
    (now-head part kept split place item met a ready is c.requires.first.here left) ready.valid)
    (omega (arith, fits, c.requires.out))).0 ∙ c.if-not-write_set.true))

pub returns-clause-met : goal.returns-clause-met
returns-clause-met g c told kept split ready =
    let part = c.args.layout.now in
    let slots = c.args.slots.now in
    let met = met_in slots.first in
    let place = c.args.place.now in
    let item = given c.args.bytes in
    let a = g.B.Blocks.seen c.args.blocks.now in
    let b = g.B.Blocks.seen c.put.new.self in
    let left : Left a a.cur = g.met.B.Blocks.cur_may c.args.blocks.now told in
    let is : IsMet part a.cur met = c.requires.met told in
    let fits = room-to-write part kept split place item met a ready is c.requires.first.here left in
    let written = c.write_set.ensures.written
    (old-holds part kept split place item met a ready is c.requires.first.here left)
    (some-given part (block_at a.cur part.head) place item
    (now-head part kept split place item met a ready is c.requires.first.here left) ready.valid)
    (omega (arith, fits, c.requires.out)) in
    let below : slots.first.number < a.count =
    omega (arith, c.requires.on.0, c.requires.inside.1) in
    let now : block_at b.cur slots.first.number ≡ c.write_set.new.out =
    cur-put a slots.first.number c.write_set.new.out below left.length_is b.cur
    (c.in_ok-put.ensures.put told) in
    refresh-met part kept split place item met a ready is c.requires.first.here left
    c.write_set.new.out (search rules) written.1 g.B.Blocks.tells told b c.put.ensures.after now
