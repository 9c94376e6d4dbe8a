use Rattle.std.proofs.Common.{◌∙◌, map, refl, subst, sym}
use Rattle.std.proofs.lemmas.Result.{err_from_is_err_and}
use Rattle.vr_types.proofs.CallerLemmas.{keeps-none, keeps-then}
use Rattle.vr_part.specs.Any.{shape_any}
use Rattle.vr_recover.specs.Found.{AllStand, AreKnown, held_entries}
use Rattle.vr_recover.proofs.Attaching.{of-still, shown-then}
use Rattle.vr_recover.proofs.laid.add_entries.Goals as goal

pub loop-at-init : goal.loop-at-init
loop-at-init g c = record {
  keeps = keeps-none g.B.Blocks.tells (g.B.Blocks.seen c.args.blocks.now)
      (λ told image now. g.met.B.Blocks.images_may c.args.blocks.now image told now);
  shape = c.requires.shape;
  faults = refl;
  added = c.requires.added;
  known = c.requires.known;
  stand = c.requires.stand;
}

pub returns-in_err-add_entry-clause-damaged : goal.returns-in_err-add_entry-clause-damaged
returns-in_err-add_entry-clause-damaged g c told =
    let inv = c.loop-at.invariant in
    let same = inv.keeps.content told in
    let p = err_from_is_err_and c.from_residual.result c.from_residual.ensures.1 in
    rw (p.1, p.2) (shown-then c.args.geometry.now (held_entries c.args.entries.now)
    (g.B.Blocks.seen c.loop-at.blocks) (g.B.Blocks.seen c.args.blocks.now)
    c.in_err-add_entry.field-0.0 same
    (c.in_err-add_entry.ensures.damaged told
    (subst (AreKnown c.loop-at.parts.items) (sym same) (inv.known told))
    (subst (AllStand (map shape_any c.loop-at.parts.items)) (sym same) (inv.stand told))))

pub returns-in_err-add_entry-clause-keeps : goal.returns-in_err-add_entry-clause-keeps
returns-in_err-add_entry-clause-keeps g c =
    keeps-then g.B.Blocks.tells (g.B.Blocks.seen c.args.blocks.now)
    (g.B.Blocks.seen c.loop-at.blocks) (g.B.Blocks.seen c.add_entry.new.blocks)
    c.loop-at.invariant.keeps c.add_entry.ensures.keeps

pub loop-at-preserved : goal.loop-at-preserved
loop-at-preserved g c =
    let inv = c.loop-at.invariant in
    let did = c.in_ok-add_entry.ensures in
    let a = g.B.Blocks.seen c.args.blocks.now in
    let b = g.B.Blocks.seen c.loop-at.blocks in
    let d = g.B.Blocks.seen c.add_entry.new.blocks in
    record {
      keeps = keeps-then g.B.Blocks.tells a b d inv.keeps c.add_entry.ensures.keeps;
      shape = of-still g.B.Blocks.tells c.args.geometry.now b d c.add_entry.ensures.keeps
          inv.shape;
      faults = did.cause.ok ∙ inv.faults;
      added = did.added;
      known = λ told.
          let same = inv.keeps.content told in
          subst (AreKnown c.add_entry.new.parts.items) same
          (did.known told (subst (AreKnown c.loop-at.parts.items) (sym same) (inv.known told)));
      stand = λ told.
          let same = inv.keeps.content told in
          subst (AllStand (map shape_any c.add_entry.new.parts.items)) same
          (did.stand told (subst (AllStand (map shape_any c.loop-at.parts.items)) (sym same)
          (inv.stand told)));
    }
