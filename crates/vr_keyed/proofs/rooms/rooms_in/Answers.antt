use Rattle.std.proofs.Common.{◌≡◌, ℕ, ap, ◌∙◌}
use Rattle.vr_types.specs.Image.{block_at}
use Rattle.vr_types.proofs.CallerLemmas.{keeps-then}
use Rattle.vr_space.specs.AreaCalls.{area_part}
use Rattle.vr_space.specs.Keyed.{Keyed}
use Rattle.vr_keyed.proofs.Walking.{nth-holds, rooms-here}
use Rattle.vr_keyed.proofs.rooms.rooms_in.Goals as goal

pub have_rooms-requires-clause-holds : goal.have_rooms-requires-clause-holds
have_rooms-requires-clause-holds g c told =
    let part = c.args.layout.now in
    let a = g.B.Blocks.seen c.args.blocks.now in
    let at : c.layout.inside.head ≡ part.head = ap (λ (l : Keyed). l.head) c.layout.view_is in
    let same : c.read_block.new.out ≡ block_at a.cur part.head =
    c.in_ok-read_block.ensures.content told ∙ ap (λ (n : ℕ). block_at a.cur n) at in
    nth-holds part a.cur (g.B.Blocks.seen c.read_block.new.blocks).cur c.read_block.new.out
    (c.read_block.ensures.keeps.content told) same (c.requires.stands told).0
    (c.requires.stands told).1

pub returns-clause-rooms : goal.returns-clause-rooms
returns-clause-rooms g c told =
    let part = c.args.layout.now in
    let a = g.B.Blocks.seen c.args.blocks.now in
    let at : c.layout.inside.head ≡ part.head = ap (λ (l : Keyed). l.head) c.layout.view_is in
    let same : c.read_block.new.out ≡ block_at a.cur part.head =
    c.in_ok-read_block.ensures.content told ∙ ap (λ (n : ℕ). block_at a.cur n) at in
    rooms-here part a.cur (g.B.Blocks.seen c.read_block.new.blocks).cur c.read_block.new.out
    (c.read_block.ensures.keeps.content told) same
    (g.K.Kept.kept c.args.kept.now (area_part part)) c.have_rooms.result
    (c.have_rooms.ensures.rooms told)

pub returns-clause-keeps : goal.returns-clause-keeps
returns-clause-keeps g c =
    keeps-then g.B.Blocks.tells (g.B.Blocks.seen c.args.blocks.now)
    (g.B.Blocks.seen c.read_block.new.blocks) (g.B.Blocks.seen c.have_rooms.new.blocks)
    c.read_block.ensures.keeps c.have_rooms.ensures.keeps
