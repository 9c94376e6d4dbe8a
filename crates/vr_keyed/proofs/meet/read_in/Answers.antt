use Rattle.std.proofs.Common.{◌≡◌, ◌+◌, ◌-◌, arith, length, max, min}
use Rattle.vr_keyed.proofs.Meeting.{failed-leaves, read-leaves, read-meets}
use Rattle.vr_keyed.proofs.meet.read_in.Goals as goal

pub returns-in_err-fill-clause-leaves : goal.returns-in_err-fill-clause-leaves
returns-in_err-fill-clause-leaves g c =
    let B = g.B.Blocks in
    let old = c.args.slots.now in
    let least : c.min-slots.result ≡ min old.filled (length old.more.items) = omega arith in
    let next : c.max-i.result - 1 ≡ max c.min-slots.result 1 - 1 = omega arith in
    failed-leaves c.args.layout.now B.tells (B.seen c.args.blocks.now).cur c.args.place.now old
    c.min-slots.result (c.max-i.result - 1) c.fill.new.slot least next

pub returns-clause-meets : goal.returns-clause-meets
returns-clause-meets g c =
    let B = g.B.Blocks in
    let old = c.args.slots.now in
    let least : c.min-slots.result ≡ min old.filled (length old.more.items) = omega arith in
    let next : c.max-i.result - 1 ≡ max c.min-slots.result 1 - 1 = omega arith in
    read-meets c.args.layout.now B.tells (B.seen c.args.blocks.now).cur c.args.place.now old _
    c.min-slots.result (c.max-i.result - 1) c.fill.new.slot least next
    c.in_ok-fill.ensures.newly c.bring.ensures.first c.bring.ensures.more (omega arith)
    c.requires.none

pub returns-clause-leaves : goal.returns-clause-leaves
returns-clause-leaves g c =
    let B = g.B.Blocks in
    let old = c.args.slots.now in
    let new = c.bring.new.self in
    let least : c.min-slots.result ≡ min old.filled (length old.more.items) = omega arith in
    let next : c.max-i.result - 1 ≡ max c.min-slots.result 1 - 1 = omega arith in
    read-leaves c.args.layout.now B.tells (B.seen c.args.blocks.now).cur c.args.place.now old
    c.min-slots.result (c.max-i.result - 1) c.fill.new.slot least next
    c.in_ok-fill.ensures.newly new.first new.more.items (new.filled + 1) c.bring.ensures.first
    c.bring.ensures.more (omega arith)
