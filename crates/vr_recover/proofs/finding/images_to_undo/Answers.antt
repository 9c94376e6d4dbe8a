use Rattle.std.proofs.Common.{List, map, sym, ap, subst, ◌∙◌}
use Rattle.std.specs.Prelude.{All}
use Rattle.vr_types.proofs.CallerLemmas.{keeps-none}
use Rattle.vr_history.specs.State.{BeforeImage}
use Rattle.vr_log.specs.declared.record.LogRecord.{LogRecord}
use Rattle.vr_part.specs.Any.{shape_any}
use Rattle.vr_space.specs.Part.{Shape}
use Rattle.vr_undo.specs.Records.{images_in}
use Rattle.vr_volume.specs.PutBack.{images_of}
use Rattle.vr_recover.specs.Found.{AreItsPlaces, MayGoBack}
use Rattle.vr_recover.specs.Undone.{FitsPart}
use Rattle.vr_recover.proofs.Keeping.{all-more}
use Rattle.vr_recover.proofs.Refusals.{kept-places}
use Rattle.vr_recover.proofs.finding.images_to_undo.Goals as goal

pub returns-then-not-may-clause-keeps : goal.returns-then-not-may-clause-keeps
returns-then-not-may-clause-keeps g c =
    keeps-none g.B.Blocks.tells (g.B.Blocks.seen c.args.blocks.now)
    (λ told image now. g.met.B.Blocks.images_may c.args.blocks.now image told now)

pub returns-in_err-may-clause-keeps : goal.returns-in_err-may-clause-keeps
returns-in_err-may-clause-keeps g c =
    keeps-none g.B.Blocks.tells (g.B.Blocks.seen c.args.blocks.now)
    (λ told image now. g.met.B.Blocks.images_may c.args.blocks.now image told now)

pub returns-in_err-undo-clause-keeps : goal.returns-in_err-undo-clause-keeps
returns-in_err-undo-clause-keeps g c =
    keeps-none g.B.Blocks.tells (g.B.Blocks.seen c.args.blocks.now)
    (λ told image now. g.met.B.Blocks.images_may c.args.blocks.now image told now)

pub has_rooms-requires-clause-places : goal.has_rooms-requires-clause-places
has_rooms-requires-clause-places g c =
    let images = images_of c.args.begun.now.log.records in
    let shapes = map shape_any c.args.parts.now in
    let back : MayGoBack images shapes = c.in_ok-may.ensures.0 c.if-not-may.false in
    subst (λ (is : List BeforeImage). All (AreItsPlaces is) shapes)
    (sym (ap images_in c.deref.ensures ∙ c.in_ok-undo.ensures.kept))
    (all-more (λ (shape : Shape). All (FitsPart shape) images) (AreItsPlaces images)
    (λ shape fits. kept-places shape images fits) shapes back.fits)

pub returns-clause-back : goal.returns-clause-back
returns-clause-back g c =
    subst (λ (rs : List LogRecord). MayGoBack (images_of rs) (map shape_any c.args.parts.now))
    (sym c.requires.records) (c.in_ok-may.ensures.0 c.if-not-may.false)
