use Rattle.std.proofs.Common.{All, inr, refl}
use Rattle.vr_edits.specs.Edits.{IsUnbuilt}
use Rattle.vr_recover.specs.Unserved.{IsPlain}
use Rattle.vr_recover.proofs.Opens.{served-both}
use Rattle.vr_recover.proofs.Attaching.{holds-if, not-if}
use Rattle.vr_attach.specs.Laid.{AreApart, shape_in}
use Rattle.vr_recover.proofs.mounted.check_areas.Goals as goal

pub returns-then-not-are_apart-clause-damaged : goal.returns-then-not-are_apart-clause-damaged
returns-then-not-are_apart-clause-damaged c = (
  c.catalog_head-then-not-are_apart.ensures,
  inr (
    refl,
    not-if c.are_apart.result
        (AreApart (shape_in c.args.geometry.now c.args.catalog.now))
        (c.are_apart.ensures c.args.geometry.now) c.if-not-are_apart.true,
  ),
)

pub returns-clause-apart : goal.returns-clause-apart
returns-clause-apart c = holds-if c.are_apart.result
    (AreApart (shape_in c.args.geometry.now c.args.catalog.now))
    (c.are_apart.ensures c.args.geometry.now) c.if-not-are_apart.false

pub returns-clause-served : goal.returns-clause-served
returns-clause-served c = served-both c.args.geometry.now c.args.catalog.now
    (holds-if c.are_unbuilt.result (All IsUnbuilt c.args.catalog.now) c.are_unbuilt.ensures
    c.if-not-are_unbuilt.false)
    (holds-if c.are_plain.result (All (IsPlain c.args.geometry.now) c.args.catalog.now)
    c.are_plain.ensures c.if-not-are_plain.false)
