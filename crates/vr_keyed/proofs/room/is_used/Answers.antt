use Rattle.std.proofs.Common.{◌≡◌, ◌∷◌, rules, sym}
use Rattle.vr_keyed.proofs.Freeing.{look-more, look-finds, entry-single}
use Rattle.vr_keyed.proofs.room.is_used.Goals as goal

pub returns-then-has_interval : goal.returns-then-has_interval
returns-then-has_interval c single =
    let cut : c.loop.entries ≡ c.in-Some.entry ∷ c.next.new.self = search rules in
    let look = c.loop.invariant single in
    look-finds c.args.n c.args.view.now.entries c.loop.entries c.next.new.self c.loop.counter
    c.in-Some.entry cut look
    (sym (c.if-has_interval.ensures
    (entry-single c.args.n c.args.view.now.entries c.loop.entries c.next.new.self c.loop.counter
    c.in-Some.entry cut look)))

pub loop-preserved : goal.loop-preserved
loop-preserved c single =
    let cut : c.loop.entries ≡ c.in-Some.entry ∷ c.next.new.self = search rules in
    let look = c.loop.invariant single in
    look-more c.args.n c.args.view.now.entries c.loop.entries c.next.new.self c.loop.counter
    c.in-Some.entry cut look
    (sym (c.if-has_interval.ensures
    (entry-single c.args.n c.args.view.now.entries c.loop.entries c.next.new.self c.loop.counter
    c.in-Some.entry cut look)))
