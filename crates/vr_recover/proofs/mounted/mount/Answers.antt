use Rattle.std.proofs.Common.{map, subst}
use Rattle.std.proofs.lemmas.Result.{err_from_is_err_and}
use Rattle.vr_types.proofs.CallerLemmas.{keeps-then}
use Rattle.vr_part.specs.Any.{shape_any}
use Rattle.vr_volume.specs.PutBack.{images_of}
use Rattle.vr_recover.specs.Found.{AllStand, AreKnown}
use Rattle.vr_recover.proofs.Attaching.{areas-shown, parts-shown}
use Rattle.vr_recover.proofs.mounted.mount.Goals as goal

pub returns-in_err-check_areas-clause-damaged : goal.returns-in_err-check_areas-clause-damaged
returns-in_err-check_areas-clause-damaged g c told =
    let geometry = c.args.geometry.now in
    let images = images_of c.args.begun.now.content.records in
    let a = g.B.Blocks.seen c.args.blocks.now in
    let p = err_from_is_err_and c.from_residual-in_err-check_areas.result
    c.from_residual-in_err-check_areas.ensures.1 in
    rw (p.1, p.2) (areas-shown geometry images a c.in_ok-catalog.catalog.value c.deref.result.now
    c.in_err-check_areas.field-0.0 c.deref.ensures (c.in_ok-catalog.ensures.entries told)
    c.in_ok-catalog.ensures.distinct (c.in_ok-catalog.ensures.stands told)
    c.in_err-check_areas.ensures.damaged)

pub returns-in_err-space-clause-damaged : goal.returns-in_err-space-clause-damaged
returns-in_err-space-clause-damaged g c told =
    let geometry = c.args.geometry.now in
    let images = images_of c.args.begun.now.content.records in
    let a = g.B.Blocks.seen c.args.blocks.now in
    let b = g.B.Blocks.seen c.read_catalog.new.blocks in
    let p = err_from_is_err_and c.from_residual-in_err-space.result
    c.from_residual-in_err-space.ensures.1 in
    rw (p.1, p.2) (parts-shown geometry images a b c.in_ok-catalog.catalog.value
    c.deref-2.result.now c.in_err-space.field-0.0 c.deref-2.ensures
    (c.read_catalog.ensures.keeps.content told) (c.in_ok-catalog.ensures.entries told)
    c.in_ok-catalog.ensures.distinct (c.in_ok-catalog.ensures.stands told)
    (c.in_err-space.ensures.damaged told))

pub returns-in_err-space-clause-keeps : goal.returns-in_err-space-clause-keeps
returns-in_err-space-clause-keeps g c =
    keeps-then g.B.Blocks.tells (g.B.Blocks.seen c.args.blocks.now)
    (g.B.Blocks.seen c.read_catalog.new.blocks) (g.B.Blocks.seen c.lay.new.blocks)
    c.read_catalog.ensures.keeps c.lay.ensures.keeps

pub returns-clause-known : goal.returns-clause-known
returns-clause-known g c told =
    subst (AreKnown c.lay.new.parts.items) (c.read_catalog.ensures.keeps.content told)
    (c.in_ok-space.ensures.known told)

pub returns-clause-stand : goal.returns-clause-stand
returns-clause-stand g c told =
    subst (AllStand (map shape_any c.lay.new.parts.items))
    (c.read_catalog.ensures.keeps.content told) (c.in_ok-space.ensures.stand told)

pub returns-clause-keeps : goal.returns-clause-keeps
returns-clause-keeps g c =
    keeps-then g.B.Blocks.tells (g.B.Blocks.seen c.args.blocks.now)
    (g.B.Blocks.seen c.read_catalog.new.blocks) (g.B.Blocks.seen c.lay.new.blocks)
    c.read_catalog.ensures.keeps c.lay.ensures.keeps
