use Rattle.std.proofs.Common.{◌∙◌, ap, sym, arith, take}
use Rattle.std.proofs.lemmas.List.{length-take, take_all}
use Rattle.vr_recover.proofs.catalog_back.name_in.Goals as goal

pub returns-then-bytes-le-NAME_LIMIT : goal.returns-then-bytes-le-NAME_LIMIT
returns-then-bytes-le-NAME_LIMIT c =
    sym (take_all 44 c.as_slice-bytes.result.now (omega (arith, c.if-bytes-le-NAME_LIMIT.true)))
    ∙ ap (take 44) c.as_slice-bytes.ensures

pub slice_bounds-result-end : goal.slice_bounds-result-end
slice_bounds-result-end c = omega (
  arith,
  length-take 44 c.as_slice-bytes.result.now,
  c.if-bytes-le-NAME_LIMIT.false,
)
