use Rattle.std.proofs.Common.{refl}
use Rattle.vr_recover.proofs.imaging.may_go_back.Goals as goal

pub returns : goal.returns
returns c = (
  λ is. record {
    alone = c.in_ok-alone.ensures.0 c.if-not-alone.false;
    covered = c.if-not-are_covered.ensures.0 refl;
    fits = c.all_fit-fit.ensures.0 is;
  },
  λ back. c.all_fit-fit.ensures.1 back.fits,
)
