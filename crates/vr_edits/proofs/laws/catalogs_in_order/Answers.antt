use Rattle.vr_edits.proofs.laws.catalogs_in_order.Goals as goal

pub returns : goal.returns
returns c geometry content = (
  λ is. (is.spelled, record { parts = is.parts; each = is.entries }),
  λ is. record { spelled = is.0; parts = is.1.parts; entries = is.1.each },
)
