use Rattle.std.proofs.Common.{◌≡◌, ℕ, [], length, ap, sym, subst, arith}
use Rattle.vr_types.specs.Image.{block_at}
use Rattle.vr_types.specs.Blocks.{Puts}
use Rattle.vr_types.specs.declared.unit.StageKind.TheVariants.{CiSwitch}
use Rattle.vr_space.specs.Room.{Lengths}
use Rattle.vr_space.specs.Keyed.{Keyed}
use Rattle.vr_split.specs.Switching.{KeepsPart, IsStageDone}
use Rattle.vr_split.specs.Splits.{split_of}
use Rattle.vr_split.proofs.Going.{kept-part, kept-way, then-part, then-done, none-kept}
use Rattle.vr_split.proofs.Going.{switch-apply, switch-counts, switch-leaves, switch-entries}
use Rattle.vr_split.proofs.steps.switch.Goals as goal

pub returns-in_err-make_head-clause-keeps : goal.returns-in_err-make_head-clause-keeps
returns-in_err-make_head-clause-keeps g c told kept room =
    kept-part c.args.layout.now g.B.Blocks.tells told (g.B.Blocks.seen c.args.blocks.now)
    (g.B.Blocks.seen c.make_head.new.blocks) c.make_head.ensures.keeps
    (c.requires.rests told) kept room

pub returns-in_err-switch_head-clause-keeps : goal.returns-in_err-switch_head-clause-keeps
returns-in_err-switch_head-clause-keeps g c told kept room =
    let B = g.B.Blocks in
    let part = c.args.layout.now in
    let split = split_of c.args.split.now CiSwitch in
    let a = B.seen c.args.blocks.now in
    let m = B.seen c.make_head.new.blocks in
    let b = B.seen c.switch_head.new.blocks in
    let rests = c.requires.rests told in
    let left = g.met.B.Blocks.cur_may c.args.blocks.now told in
    let long : length c.make_head.new.out ≡ part.size = omega arith in
    let head : c.layout.inside.head ≡ part.head = ap (λ (k : Keyed). k.head) c.layout.view_is in
    then-part part B.tells told a m c.make_head.ensures.keeps rests kept b room
    (switch-apply part B.tells told split a m c.make_head.ensures.keeps rests left
    (g.met.B.Blocks.cur_may c.make_head.new.blocks told)
    (kept-way part B.tells told a m c.make_head.ensures.keeps rests split left
    (c.requires.copied told)) c.make_head.new.out long (c.in_ok-make_head.ensures.made told)
    (λ (others : Lengths). KeepsPart part others m b)
    (λ others. c.switch_head.ensures.keeps told part others (sym head)) kept room)

pub returns-clause-keeps : goal.returns-clause-keeps
returns-clause-keeps g c told kept room =
    let B = g.B.Blocks in
    let part = c.args.layout.now in
    let split = split_of c.args.split.now CiSwitch in
    let a = B.seen c.args.blocks.now in
    let m = B.seen c.make_head.new.blocks in
    let b = B.seen c.switch_head.new.blocks in
    let rests = c.requires.rests told in
    let left = g.met.B.Blocks.cur_may c.args.blocks.now told in
    let long : length c.make_head.new.out ≡ part.size = omega arith in
    let head : c.layout.inside.head ≡ part.head = ap (λ (k : Keyed). k.head) c.layout.view_is in
    then-part part B.tells told a m c.make_head.ensures.keeps rests kept b room
    (switch-apply part B.tells told split a m c.make_head.ensures.keeps rests left
    (g.met.B.Blocks.cur_may c.make_head.new.blocks told)
    (kept-way part B.tells told a m c.make_head.ensures.keeps rests split left
    (c.requires.copied told)) c.make_head.new.out long (c.in_ok-make_head.ensures.made told)
    (λ (others : Lengths). KeepsPart part others m b)
    (λ others. c.switch_head.ensures.keeps told part others (sym head)) kept room)

pub returns-clause-done : goal.returns-clause-done
returns-clause-done g c told =
    let B = g.B.Blocks in
    let part = c.args.layout.now in
    let split = split_of c.args.split.now CiSwitch in
    let a = B.seen c.args.blocks.now in
    let m = B.seen c.make_head.new.blocks in
    let b = B.seen c.switch_head.new.blocks in
    let rests = c.requires.rests told in
    let left = g.met.B.Blocks.cur_may c.args.blocks.now told in
    let long : length c.make_head.new.out ≡ part.size = omega arith in
    let head : c.layout.inside.head ≡ part.head = ap (λ (k : Keyed). k.head) c.layout.view_is in
    then-done part B.tells told a m c.make_head.ensures.keeps rests b
    (switch-apply part B.tells told split a m c.make_head.ensures.keeps rests left
    (g.met.B.Blocks.cur_may c.make_head.new.blocks told)
    (kept-way part B.tells told a m c.make_head.ensures.keeps rests split left
    (c.requires.copied told)) c.make_head.new.out long (c.in_ok-make_head.ensures.made told)
    (λ (others : Lengths). IsStageDone part m b)
    (λ others. c.in_ok-switch_head.ensures.done told part others (sym head)) []
    (none-kept part a rests.sound))

pub returns-clause-switched : goal.returns-clause-switched
returns-clause-switched g c told =
    let B = g.B.Blocks in
    let part = c.args.layout.now in
    let split = split_of c.args.split.now CiSwitch in
    let a = B.seen c.args.blocks.now in
    let m = B.seen c.make_head.new.blocks in
    let b = B.seen c.switch_head.new.blocks in
    let rests = c.requires.rests told in
    let left = g.met.B.Blocks.cur_may c.args.blocks.now told in
    let long : length c.make_head.new.out ≡ part.size = omega arith in
    let head : c.layout.inside.head ≡ part.head = ap (λ (k : Keyed). k.head) c.layout.view_is in
    switch-leaves part B.tells told split a m c.make_head.ensures.keeps rests left
    (g.met.B.Blocks.cur_may c.make_head.new.blocks told)
    (kept-way part B.tells told a m c.make_head.ensures.keeps rests split left
    (c.requires.copied told)) c.make_head.new.out long (c.in_ok-make_head.ensures.made told)
    b
    (subst (λ (n : ℕ). Puts B.tells n c.make_head.new.out m b) head c.switch_head.ensures.after)
    (subst (λ (n : ℕ). block_at b.cur n ≡ c.make_head.new.out) head
    (c.in_ok-switch_head.ensures.put told))

pub returns-clause-made : goal.returns-clause-made
returns-clause-made g c told =
    let B = g.B.Blocks in
    let part = c.args.layout.now in
    let split = split_of c.args.split.now CiSwitch in
    let a = B.seen c.args.blocks.now in
    let m = B.seen c.make_head.new.blocks in
    let b = B.seen c.switch_head.new.blocks in
    let rests = c.requires.rests told in
    let left = g.met.B.Blocks.cur_may c.args.blocks.now told in
    let long : length c.make_head.new.out ≡ part.size = omega arith in
    let head : c.layout.inside.head ≡ part.head = ap (λ (k : Keyed). k.head) c.layout.view_is in
    switch-entries part B.tells told split a m c.make_head.ensures.keeps rests left
    (g.met.B.Blocks.cur_may c.make_head.new.blocks told)
    (kept-way part B.tells told a m c.make_head.ensures.keeps rests split left
    (c.requires.copied told)) c.make_head.new.out long (c.in_ok-make_head.ensures.made told)
    b
    (subst (λ (n : ℕ). block_at b.cur n ≡ c.make_head.new.out) head
    (c.in_ok-switch_head.ensures.put told))

pub returns-clause-counts : goal.returns-clause-counts
returns-clause-counts g c told =
    let B = g.B.Blocks in
    let part = c.args.layout.now in
    let split = split_of c.args.split.now CiSwitch in
    let a = B.seen c.args.blocks.now in
    let m = B.seen c.make_head.new.blocks in
    let b = B.seen c.switch_head.new.blocks in
    let rests = c.requires.rests told in
    let left = g.met.B.Blocks.cur_may c.args.blocks.now told in
    let long : length c.make_head.new.out ≡ part.size = omega arith in
    let head : c.layout.inside.head ≡ part.head = ap (λ (k : Keyed). k.head) c.layout.view_is in
    switch-counts part B.tells told split a m c.make_head.ensures.keeps rests left
    (g.met.B.Blocks.cur_may c.make_head.new.blocks told)
    (kept-way part B.tells told a m c.make_head.ensures.keeps rests split left
    (c.requires.copied told)) c.make_head.new.out long (c.in_ok-make_head.ensures.made told)
    b
    (subst (λ (n : ℕ). block_at b.cur n ≡ c.make_head.new.out) head
    (c.in_ok-switch_head.ensures.put told))
