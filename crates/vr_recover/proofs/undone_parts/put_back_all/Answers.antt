use Rattle.std.proofs.Common.{get_or, subst, sym, ◌∙◌}
use Rattle.vr_types.proofs.CallerLemmas.{guards-start, guards-then}
use Rattle.vr_part.specs.Any.{known_any, shape_any}
use Rattle.vr_space.specs.Part.{part_no}
use Rattle.vr_space.proofs.CallerLemmas.{stays-keeps}
use Rattle.vr_volume.specs.PutBack.{images_of}
use Rattle.vr_volume.specs.Safe.{IsSafeImage}
use Rattle.vr_volume.proofs.Calls.{guards-keeps, safe-keeps}
use Rattle.vr_volume.proofs.Recovering.{each_image_is_safe}
use Rattle.vr_volume.proofs.Rested.{stands-keeps}
use Rattle.vr_recover.specs.Undone.{ReadsAll, alike}
use Rattle.vr_recover.proofs.PartsBack.{forced-all, ready-stays, settled-all}
use Rattle.vr_recover.proofs.Refusals.{none-live}
use Rattle.vr_recover.proofs.undone_parts.put_back_all.Goals as goal

pub returns-then-live-eq0-clause-safe : goal.returns-then-live-eq0-clause-safe
returns-then-live-eq0-clause-safe g c told geometry member owners contents safe opened =
    let a = g.B.Blocks.seen c.args.blocks.now in (
      guards-start a (IsSafeImage geometry member owners c.args.log.now (alike contents))
          (λ image there. g.met.B.Blocks.images_may c.args.blocks.now image told there)
          (each_image_is_safe geometry member owners c.args.log.now (alike contents) a safe),
      safe,
    )

pub returns-then-live-eq0-clause-all : goal.returns-then-live-eq0-clause-all
returns-then-live-eq0-clause-all g c told geometry member owners contents safe opened settled
    covered =
    let records = c.args.log.now.records in
    settled-all geometry owners (images_of records) contents (g.B.Blocks.seen c.args.blocks.now)
    (none-live records (sym c.live.ensures ∙ c.if-live-eq0.true)) settled

pub returns-clause-safe : goal.returns-clause-safe
returns-clause-safe g c told geometry member owners contents safe opened =
    let B = g.B.Blocks in
    let log = c.args.log.now in
    let b = B.seen c.put_parts.new.blocks in
    let d = B.seen c.sync_all.new.blocks in
    let put = c.put_parts.ensures.safe told geometry member owners contents safe opened in (
      guards-then (B.seen c.args.blocks.now) b d
          (IsSafeImage geometry member owners log (alike contents)) put.0
          (guards-keeps B.tells told geometry member owners log (alike contents) b d
          c.sync_all.ensures.keeps put.1),
      safe-keeps B.tells told geometry member owners log (alike contents) b d
          c.sync_all.ensures.keeps put.1,
    )

pub returns-in_err-sync_all-clause-safe : goal.returns-in_err-sync_all-clause-safe
returns-in_err-sync_all-clause-safe g c told geometry member owners contents safe opened =
    let B = g.B.Blocks in
    let log = c.args.log.now in
    let b = B.seen c.put_parts.new.blocks in
    let d = B.seen c.sync_all.new.blocks in
    let put = c.put_parts.ensures.safe told geometry member owners contents safe opened in (
      guards-then (B.seen c.args.blocks.now) b d
          (IsSafeImage geometry member owners log (alike contents)) put.0
          (guards-keeps B.tells told geometry member owners log (alike contents) b d
          c.sync_all.ensures.keeps put.1),
      safe-keeps B.tells told geometry member owners log (alike contents) b d
          c.sync_all.ensures.keeps put.1,
    )

pub returns-clause-all : goal.returns-clause-all
returns-clause-all g c told geometry member owners contents safe opened settled covered =
    let B = g.B.Blocks in
    let log = c.args.log.now in
    let b = B.seen c.put_parts.new.blocks in
    let d = B.seen c.sync_all.new.blocks in
    let put = c.put_parts.ensures.safe told geometry member owners contents safe opened in
    forced-all geometry member owners log contents d
    (safe-keeps B.tells told geometry member owners log (alike contents) b d
    c.sync_all.ensures.keeps put.1)
    (g.met.B.Blocks.cur_may c.sync_all.new.blocks told) opened.records
    (c.in_ok-sync_all.ensures.forced told)
    (subst (ReadsAll geometry contents) (sym (c.sync_all.ensures.keeps.content told))
    (c.in_ok-put_parts.ensures.reads told geometry owners contents opened settled covered))

pub returns-clause-stands : goal.returns-clause-stands
returns-clause-stands g c told forced stands =
    let B = g.B.Blocks in
    stands-keeps B.tells told (B.seen c.put_parts.new.blocks) (B.seen c.sync_all.new.blocks)
    c.sync_all.ensures.keeps c.args.log.now forced
    (c.in_ok-put_parts.ensures.stands told forced stands)

pub returns-clause-ready : goal.returns-clause-ready
returns-clause-ready g c told owners all k d below =
    let B = g.B.Blocks in
    let part = get_or c.put_parts.new.parts k d in
    let shape = shape_any part in
    let b = B.seen c.put_parts.new.blocks in
    let e = B.seen c.sync_all.new.blocks in
    ready-stays shape owners b e
    (stays-keeps B.tells told b e c.sync_all.ensures.keeps shape owners) (known_any part)
    (g.K.Kept.kept c.args.kept.now (part_no shape))
    (g.met.B.Blocks.cur_may c.put_parts.new.blocks told)
    (c.in_ok-put_parts.ensures.ready told owners all k d below)
