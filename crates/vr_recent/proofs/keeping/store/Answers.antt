use Rattle.std.proofs.Common.{ℕ, List, map, subst, sym}
use Rattle.vr_recent.specs.Buffers.{AreOf, Fronts, HasBlock, forgot}
use Rattle.vr_recent.specs.declared.buffer.Buffer.{Buffer}
use Rattle.vr_recent.proofs.Buffers.{of_fronts, of_put, whole_forgot}
use Rattle.vr_recent.proofs.keeping.store.Goals as goal

pub keep-requires-clause-whole : goal.keep-requires-clause-whole
keep-requires-clause-whole g c = whole_forgot g.D.BlockDevice.tells
    (g.D.BlockDevice.seen c.args.device.now) c.args.n c.args.bytes.now c.args.buffers.now
    c.forget.new.buffers c.requires.of c.requires.whole c.forget.ensures

pub returns-in-Ok-clause-first : goal.returns-in-Ok-clause-first
returns-in-Ok-clause-first g c =
    let P = HasBlock c.args.n c.args.bytes.now in
    subst (λ (place : ℕ). Fronts place P (map (forgot c.args.n) c.args.buffers.now)
    c.keep.new.buffers) c.place_for-place.ensures.is
    (subst (λ (old : List Buffer). Fronts c.place_for-place.result P old c.keep.new.buffers)
    c.forget.ensures c.keep.ensures)

pub returns-in-Ok-clause-of : goal.returns-in-Ok-clause-of
returns-in-Ok-clause-of g c =
    let P = HasBlock c.args.n c.args.bytes.now in
    of_fronts g.D.BlockDevice.tells (g.D.BlockDevice.seen c.args.device.now)
    (g.D.BlockDevice.seen c.write.new.self) c.args.n c.place_for-place.result c.args.bytes.now
    c.args.buffers.now c.keep.new.buffers
    (λ told. (g.met.D.BlockDevice.cur_may c.args.device.now told).length_is) c.requires.block
    c.requires.whole c.in-Ok.ensures.written c.in-Ok.ensures.after c.requires.of
    (subst (λ (old : List Buffer). Fronts c.place_for-place.result P old c.keep.new.buffers)
    c.forget.ensures c.keep.ensures)

pub returns-in-Err-clause-of : goal.returns-in-Err-clause-of
returns-in-Err-clause-of g c =
    let tells = g.D.BlockDevice.tells in
    let new = g.D.BlockDevice.seen c.write.new.self in
    subst (AreOf tells new) (sym c.forget.ensures)
    (of_put tells (g.D.BlockDevice.seen c.args.device.now) new c.args.n c.args.bytes.now
    c.args.buffers.now c.in-Err.ensures.after c.requires.of)
