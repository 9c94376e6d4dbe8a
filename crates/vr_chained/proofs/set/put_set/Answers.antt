use Rattle.std.proofs.Common.{ℕ, All, refl, sym, ap, ◌∙◌, subst, arith}
use Rattle.std.proofs.lemmas.List.Elements.{All-map, All-weaker}
use Rattle.vr_types.specs.Seen.{Left}
use Rattle.vr_types.proofs.CallerLemmas.{all-one, cur-put, keeps-none}
use Rattle.vr_space.specs.Met.{Met}
use Rattle.vr_space.specs.Part.{InHeld, NumberedShape, given}
use Rattle.vr_space.specs.Numbered.{IsIntervalMet}
use Rattle.vr_chained.specs.Met.{IsMetOf, met_in, met_places, mets_in}
use Rattle.vr_chained.specs.Setting.{refreshed}
use Rattle.vr_chained.proofs.Refreshing.{places-refreshed}
use Rattle.vr_chained.proofs.Setting.{chain-set, done-set, may-keeps, may-set, past-set}
use Rattle.vr_chained.proofs.Setting.{refresh-met, unwritten-set, written-set}
use Rattle.vr_chained.proofs.set.put_set.Goals as goal

pub returns-in_default-clause-may : goal.returns-in_default-clause-may
returns-in_default-clause-may g c told kept known ready =
    let B = g.B.Blocks in
    let a = B.seen c.args.blocks.now in
    may-keeps c.args.chain.now.part kept known c.args.place.now (given c.args.bytes) B.tells told a
    a (keeps-none B.tells a
    (λ told image left. g.met.B.Blocks.images_may c.args.blocks.now image told left)) ready

pub returns-in_default-clause-done : goal.returns-in_default-clause-done
returns-in_default-clause-done g c told kept known ready =
    let a = g.B.Blocks.seen c.args.blocks.now in
    past-set c.args.chain.now kept known c.args.place.now (given c.args.bytes) a ready
    (c.requires.chain told) c.requires.place (g.met.B.Blocks.cur_may c.args.blocks.now told)
    (c.in_default.ensures.none refl c.requires.place)

pub returns-then-not-write_item-clause-may : goal.returns-then-not-write_item-clause-may
returns-then-not-write_item-clause-may g c told kept known ready =
    let B = g.B.Blocks in
    let a = B.seen c.args.blocks.now in
    may-keeps c.args.chain.now.part kept known c.args.place.now (given c.args.bytes) B.tells told a
    a (keeps-none B.tells a
    (λ told image left. g.met.B.Blocks.images_may c.args.blocks.now image told left)) ready

pub returns-then-not-write_item-clause-done : goal.returns-then-not-write_item-clause-done
returns-then-not-write_item-clause-done g c told kept known ready =
    let chain = c.args.chain.now in
    let a = g.B.Blocks.seen c.args.blocks.now in
    unwritten-set chain kept known c.args.place.now (given c.args.bytes) a ready
    (c.requires.chain told) c.requires.place (g.met.B.Blocks.cur_may c.args.blocks.now told)
    c.in-Some.block c.layout.result.now c.as_slice-met.result.now c.at_of.result
    (met_in c.met_at.result.now) c.in-Some.ensures.used.1 c.in-Some.ensures.block c.layout.ensures
    c.met_at.ensures.place (c.met_at.ensures.met chain.part a.cur (c.requires.met told))
    c.as_slice-met.ensures.value c.at_of.ensures.place
    (λ filled may. c.write_item.ensures.none filled may c.if-not-write_item.true)

pub returns-in_err-put-clause-may : goal.returns-in_err-put-clause-may
returns-in_err-put-clause-may g c told kept known ready =
    let chain = c.args.chain.now in
    let place = c.args.place.now in
    let item = given c.args.bytes in
    let a = g.B.Blocks.seen c.args.blocks.now in
    let left : Left a a.cur = g.met.B.Blocks.cur_may c.args.blocks.now told in
    let of = c.requires.chain told in
    let n = c.in-Some.block in
    let wrote = written-set chain kept known place item a ready of c.requires.place left n
    c.write_item.new.out c.layout.result.now c.as_slice-met.result.now c.at_of.result
    (met_in c.met_at.result.now) c.in-Some.ensures.used.1 c.in-Some.ensures.block c.layout.ensures
    c.met_at.ensures.place (c.met_at.ensures.met chain.part a.cur (c.requires.met told))
    c.as_slice-met.ensures.value c.at_of.ensures.place
    (λ filled may. c.write_item.ensures.written filled may c.if-not-write_item.false) in
    may-set chain kept known place item a ready of c.requires.place left n
    c.write_item.new.out wrote g.B.Blocks.tells told (g.B.Blocks.seen c.put.new.self)
    c.put.ensures.after

pub returns-clause-may : goal.returns-clause-may
returns-clause-may g c told kept known ready =
    let chain = c.args.chain.now in
    let place = c.args.place.now in
    let item = given c.args.bytes in
    let a = g.B.Blocks.seen c.args.blocks.now in
    let left : Left a a.cur = g.met.B.Blocks.cur_may c.args.blocks.now told in
    let of = c.requires.chain told in
    let n = c.in-Some.block in
    let wrote = written-set chain kept known place item a ready of c.requires.place left n
    c.write_item.new.out c.layout.result.now c.as_slice-met.result.now c.at_of.result
    (met_in c.met_at.result.now) c.in-Some.ensures.used.1 c.in-Some.ensures.block c.layout.ensures
    c.met_at.ensures.place (c.met_at.ensures.met chain.part a.cur (c.requires.met told))
    c.as_slice-met.ensures.value c.at_of.ensures.place
    (λ filled may. c.write_item.ensures.written filled may c.if-not-write_item.false) in
    may-set chain kept known place item a ready of c.requires.place left n
    c.write_item.new.out wrote g.B.Blocks.tells told (g.B.Blocks.seen c.put.new.self)
    c.put.ensures.after

pub returns-clause-places : goal.returns-clause-places
returns-clause-places g c =
    ap met_places c.refresh.ensures.met
    ∙ places-refreshed c.in-Some.block c.write_item.new.out (mets_in c.args.mets.now)

pub returns-clause-done : goal.returns-clause-done
returns-clause-done g c told kept known ready =
    let chain = c.args.chain.now in
    let place = c.args.place.now in
    let item = given c.args.bytes in
    let a = g.B.Blocks.seen c.args.blocks.now in
    let left : Left a a.cur = g.met.B.Blocks.cur_may c.args.blocks.now told in
    let of = c.requires.chain told in
    let n = c.in-Some.block in
    let wrote = written-set chain kept known place item a ready of c.requires.place left n
    c.write_item.new.out c.layout.result.now c.as_slice-met.result.now c.at_of.result
    (met_in c.met_at.result.now) c.in-Some.ensures.used.1 c.in-Some.ensures.block c.layout.ensures
    c.met_at.ensures.place (c.met_at.ensures.met chain.part a.cur (c.requires.met told))
    c.as_slice-met.ensures.value c.at_of.ensures.place
    (λ filled may. c.write_item.ensures.written filled may c.if-not-write_item.false) in
    let b = g.B.Blocks.seen c.put.new.self in
    let now = cur-put a n c.write_item.new.out
    (omega (arith, c.in-Some.ensures.below, c.requires.on.blocks)) left.length_is b.cur
    (c.in_ok-put.ensures.put told) in
    done-set chain kept known place item a ready of c.requires.place left n
    c.write_item.new.out wrote g.B.Blocks.tells told b c.put.ensures.after now

pub returns-clause-chain : goal.returns-clause-chain
returns-clause-chain g c told kept known ready =
    let chain = c.args.chain.now in
    let place = c.args.place.now in
    let item = given c.args.bytes in
    let a = g.B.Blocks.seen c.args.blocks.now in
    let left : Left a a.cur = g.met.B.Blocks.cur_may c.args.blocks.now told in
    let of = c.requires.chain told in
    let n = c.in-Some.block in
    let wrote = written-set chain kept known place item a ready of c.requires.place left n
    c.write_item.new.out c.layout.result.now c.as_slice-met.result.now c.at_of.result
    (met_in c.met_at.result.now) c.in-Some.ensures.used.1 c.in-Some.ensures.block c.layout.ensures
    c.met_at.ensures.place (c.met_at.ensures.met chain.part a.cur (c.requires.met told))
    c.as_slice-met.ensures.value c.at_of.ensures.place
    (λ filled may. c.write_item.ensures.written filled may c.if-not-write_item.false) in
    chain-set chain kept known place item a ready of c.requires.place left n
    c.write_item.new.out wrote g.B.Blocks.tells told (g.B.Blocks.seen c.put.new.self)
    c.put.ensures.after

pub returns-clause-met : goal.returns-clause-met
returns-clause-met g c told kept known ready =
    let chain = c.args.chain.now in
    let place = c.args.place.now in
    let item = given c.args.bytes in
    let a = g.B.Blocks.seen c.args.blocks.now in
    let left : Left a a.cur = g.met.B.Blocks.cur_may c.args.blocks.now told in
    let of = c.requires.chain told in
    let n = c.in-Some.block in
    let wrote = written-set chain kept known place item a ready of c.requires.place left n
    c.write_item.new.out c.layout.result.now c.as_slice-met.result.now c.at_of.result
    (met_in c.met_at.result.now) c.in-Some.ensures.used.1 c.in-Some.ensures.block c.layout.ensures
    c.met_at.ensures.place (c.met_at.ensures.met chain.part a.cur (c.requires.met told))
    c.as_slice-met.ensures.value c.at_of.ensures.place
    (λ filled may. c.write_item.ensures.written filled may c.if-not-write_item.false) in
    let b = g.B.Blocks.seen c.put.new.self in
    let now = cur-put a n c.write_item.new.out
    (omega (arith, c.in-Some.ensures.below, c.requires.on.blocks)) left.length_is b.cur
    (c.in_ok-put.ensures.put told) in
    subst (All (IsIntervalMet chain.part b.cur))
    (sym c.refresh.ensures.met)
    (All-map (IsIntervalMet chain.part b.cur) (refreshed n c.write_item.new.out)
    (mets_in c.args.mets.now)
    (All-weaker (IsIntervalMet chain.part a.cur)
    (λ (one : Met). IsIntervalMet chain.part b.cur (refreshed n c.write_item.new.out one))
    (refresh-met chain kept known place item a ready of c.requires.place left n
    c.write_item.new.out wrote g.B.Blocks.tells told b c.put.ensures.after now)
    (mets_in c.args.mets.now) (c.requires.met told)))

pub returns-in_default-clause-met : goal.returns-in_default-clause-met
returns-in_default-clause-met g c told kept known ready = c.requires.met told

pub returns-then-not-write_item-clause-met : goal.returns-then-not-write_item-clause-met
returns-then-not-write_item-clause-met g c told kept known ready = c.requires.met told

pub returns-clause-room : goal.returns-clause-room
returns-clause-room g c =
    subst (λ (size : ℕ). All (IsMetOf size) c.refresh.new.mets.slots.items)
    (c.write_item.auto.out ∙ c.requires.out) c.refresh.ensures.room

pub returns-clause-put : goal.returns-clause-put
returns-clause-put g c = λ known same.
    all-one (InHeld (NumberedShape c.args.chain.now.part) known) c.in-Some.block
    (c.in-Some.ensures.held known same)
