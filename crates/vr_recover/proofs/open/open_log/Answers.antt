use Rattle.std.proofs.Common.{map, sym, subst}
use Rattle.vr_types.specs.Image.{Image}
use Rattle.vr_types.proofs.CallerLemmas.{guards-then}
use Rattle.vr_recover.specs.Recovered.{IsWhole, KeepsAll}
use Rattle.vr_volume.specs.PutBack.{images_of}
use Rattle.vr_undo.specs.Records.{images_in}
use Rattle.vr_part.specs.Any.{shape_any}
use Rattle.vr_recover.specs.Found.{AreKnown, IsFound}
use Rattle.vr_recover.proofs.Clearing.{kept-here}
use Rattle.vr_recover.proofs.OpenLemmas.{forced-guards, handed-out, opened-by}
use Rattle.vr_recover.proofs.Recovery.{found-recovers, recovered}
use Rattle.vr_recover.proofs.Refusals.{log-long}
use Rattle.vr_recover.proofs.open.open_log.Goals as goal

pub returns-in_err-found-clause-any_moment : goal.returns-in_err-found-clause-any_moment
returns-in_err-found-clause-any_moment g c told number contents is =
    let a = g.B.Blocks.seen c.args.blocks.now in
    forced-guards g.B.Blocks.tells
    (KeepsAll c.args.geometry.now number (images_of c.args.begun.now.content.records) contents) a
    (g.B.Blocks.seen c.find.new.blocks) told
    (λ image there. g.met.B.Blocks.images_may c.args.blocks.now image told there)
    (g.met.B.Blocks.cur_may c.args.blocks.now told) (c.requires.forced told)
    (kept-here c.args.geometry.now c.args.begun.now.content a.cur
    (log-long c.args.geometry.now a c.requires.allowed c.requires.shape
    (g.met.B.Blocks.cur_may c.args.blocks.now told)
    (λ n block below may. g.met.B.Blocks.sized c.args.blocks.now n block told below may))
    (c.requires.spelled told) number contents is)
    c.find.ensures.keeps

pub restore-requires-clause-found : goal.restore-requires-clause-found
restore-requires-clause-found g c told =
    let header = c.requires.header told in (
      header.0,
      subst (IsFound c.args.geometry.now header.0 c.args.begun.now.content
          c.in_ok-found.found.catalog.value (map shape_any c.find.new.parts.items)
          c.in_ok-found.found.space) (sym (c.find.ensures.keeps.content told))
          (c.in_ok-found.ensures.found told header.0 header.1 (c.requires.spelled told)),
    )

pub returns-in_err-restore-clause-any_moment : goal.returns-in_err-restore-clause-any_moment
returns-in_err-restore-clause-any_moment g c told number contents is =
    let a = g.B.Blocks.seen c.args.blocks.now in
    let b = g.B.Blocks.seen c.find.new.blocks in
    let kept : Image → Type 0 =
    KeepsAll c.args.geometry.now number (images_of c.args.begun.now.content.records) contents in
    guards-then a b (g.B.Blocks.seen c.restore.new.blocks) kept
    (forced-guards g.B.Blocks.tells kept a b told
    (λ image there. g.met.B.Blocks.images_may c.args.blocks.now image told there)
    (g.met.B.Blocks.cur_may c.args.blocks.now told) (c.requires.forced told)
    (kept-here c.args.geometry.now c.args.begun.now.content a.cur
    (log-long c.args.geometry.now a c.requires.allowed c.requires.shape
    (g.met.B.Blocks.cur_may c.args.blocks.now told)
    (λ n block below may. g.met.B.Blocks.sized c.args.blocks.now n block told below may))
    (c.requires.spelled told) number contents is)
    c.find.ensures.keeps)
    (c.restore.ensures.any_moment told number contents
    (subst (IsWhole c.args.geometry.now number contents)
    (sym (c.find.ensures.keeps.content told)) is))

-- so are the parts as they were attached
pub restore-requires-clause-known : goal.restore-requires-clause-known
restore-requires-clause-known g c told =
    subst (AreKnown c.find.new.parts.items) (sym (c.find.ensures.keeps.content told))
    (c.in_ok-found.ensures.known told)

pub returns-clause-handed : goal.returns-clause-handed
returns-clause-handed g c =
    let did = c.in_ok-restore.ensures in
    handed-out c.args.geometry.now c.args.begun.now.content c.in_ok-found.found.catalog.value
    c.find.new.parts.items c.restore.new.parts.items c.requires.allowed
    c.in_ok-found.ensures.planned did.shapes did.areas c.in_ok-found.found.space
    c.in_ok-found.ensures.owners c.restore.new.begun.log (g.B.Blocks.seen c.restore.new.blocks)
    did.shape did.geometry did.sound did.forced did.records did.generation did.split

pub returns-clause-opened : goal.returns-clause-opened
returns-clause-opened g c told number header =
    let did = c.in_ok-restore.ensures in
    let a = g.B.Blocks.seen c.args.blocks.now in
    opened-by c.args.geometry.now c.args.begun.now.content c.in_ok-found.found.catalog.value
    c.find.new.parts.items c.restore.new.parts.items c.requires.allowed
    c.in_ok-found.ensures.planned did.shapes did.areas c.in_ok-found.found.space
    c.in_ok-found.ensures.owners number c.restore.new.begun.log
    (images_in c.in_ok-found.found.undo.value) a (g.B.Blocks.seen c.restore.new.blocks)
    c.requires.shape
    (c.in_ok-found.ensures.found told number header (c.requires.spelled told))
    (λ contents is. did.undone told number contents
    (subst (IsWhole c.args.geometry.now number contents)
    (sym (c.find.ensures.keeps.content told)) is)) (did.stands told) (did.ready told)

pub returns-clause-any_moment : goal.returns-clause-any_moment
returns-clause-any_moment g c told number contents is =
    let a = g.B.Blocks.seen c.args.blocks.now in
    let b = g.B.Blocks.seen c.find.new.blocks in
    let kept : Image → Type 0 =
    KeepsAll c.args.geometry.now number (images_of c.args.begun.now.content.records) contents in
    guards-then a b (g.B.Blocks.seen c.restore.new.blocks) kept
    (forced-guards g.B.Blocks.tells kept a b told
    (λ image there. g.met.B.Blocks.images_may c.args.blocks.now image told there)
    (g.met.B.Blocks.cur_may c.args.blocks.now told) (c.requires.forced told)
    (kept-here c.args.geometry.now c.args.begun.now.content a.cur
    (log-long c.args.geometry.now a c.requires.allowed c.requires.shape
    (g.met.B.Blocks.cur_may c.args.blocks.now told)
    (λ n block below may. g.met.B.Blocks.sized c.args.blocks.now n block told below may))
    (c.requires.spelled told) number contents is)
    c.find.ensures.keeps)
    (c.restore.ensures.any_moment told number contents
    (subst (IsWhole c.args.geometry.now number contents)
    (sym (c.find.ensures.keeps.content told)) is))

-- what was found is a volume
pub returns-in_err-restore-clause-unwritten : goal.returns-in_err-restore-clause-unwritten
returns-in_err-restore-clause-unwritten g c told number header none =
    let geometry = c.args.geometry.now in
    let content = c.args.begun.now.content in
    let entries = c.in_ok-found.found.catalog.value in
    let shapes = map shape_any c.find.new.parts.items in
    let owners = c.in_ok-found.found.space in
    let cur = (g.B.Blocks.seen c.args.blocks.now).cur in
    let found = c.in_ok-found.ensures.found told number header (c.requires.spelled told) in
    let planned = c.in_ok-found.ensures.planned in
    absurd (none geometry
    (recovered geometry content entries shapes planned number owners cur found) (record {
      allowed = c.requires.allowed;
      shape = c.requires.shape;
      recovers = found-recovers geometry content entries shapes planned number owners cur found
          c.requires.allowed;
    }))
