use Rattle.std.proofs.Common.{sym, ◌∙◌, subst}
use Rattle.vr_types.specs.Fields.{AreZeros}
use Rattle.vr_mount.proofs.Headers.{header_made, header_used, header_free}
use Rattle.vr_mount.proofs.header.is_header.Goals as goal

pub returns-then-are_used : goal.returns-then-are_used
returns-then-are_used c = (
  λ yes. header_made c.args.geometry.now c.args.number c.args.block.now c.requires.size
      (sym c.split_at.ensures.front ∙ c.are_used.ensures.0 c.if-are_used.true)
      (subst AreZeros c.split_at.ensures.back (c.are_zeros.ensures.0 yes)),
  λ same. c.are_zeros.ensures.1 (subst AreZeros (sym c.split_at.ensures.back)
      (header_free c.args.geometry.now c.args.number c.args.block.now same)),
)

pub returns-else-are_used : goal.returns-else-are_used
returns-else-are_used c = (
  λ yes. absurd (cc (c.if-are_used.false, yes)),
  λ same. c.are_used.ensures.1 (c.split_at.ensures.front
      ∙ header_used c.args.geometry.now c.args.number c.args.block.now same),
)
