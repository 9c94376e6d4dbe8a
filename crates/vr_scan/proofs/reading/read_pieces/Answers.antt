use Rattle.std.proofs.Common.{refl, sym, ◌∙◌, ap, length, length-drop, arith}
use Rattle.std.proofs.lemmas.Result.{err_from_is_err_and}
use Rattle.vr_scan.proofs.Heads.{some_left}
use Rattle.vr_scan.proofs.Cutting.{cut_none, cut_more, cut_all, cause}
use Rattle.vr_scan.proofs.reading.read_pieces.Goals as goal

pub loop-mark-init : goal.loop-mark-init
loop-mark-init c = record {
  no_text = rw c.requires refl;
  cut = rw (c.new-cursor.ensures, c.requires) (cut_none _);
}

pub take_piece-requires : goal.take_piece-requires
take_piece-requires c = c.loop-mark.invariant.no_text

pub returns-in_err-begun-clause-fault : goal.returns-in_err-begun-clause-fault
returns-in_err-begun-clause-fault c =
    let p = err_from_is_err_and c.from_residual.result c.from_residual.ensures.1 in
    let is_class = rw c.second.ensures at c.class_of-class.ensures in
    rw (p.1, p.2)
    (cause c.args.lines.now c.loop-mark.cursor _ c.in-Some.mark _ c.loop-mark.draft.tokens
    c.loop-mark.begun _ c.loop-mark.invariant.cut (sym c.first.ensures ∙ c.in-Some.is) is_class
    c.advance.ensures c.in_err-begun.ensures.fault)

pub loop-mark-smaller : goal.loop-mark-smaller
loop-mark-smaller c =
    let left = some_left c.loop-mark.cursor _ (sym c.first.ensures ∙ c.in-Some.is) in
    omega (
      arith,
      left,
      c.in_ok-begun.ensures.ok.shorter,
      ap length c.advance.ensures,
      length-drop 1 c.loop-mark.cursor,
    )

pub loop-mark-preserved : goal.loop-mark-preserved
loop-mark-preserved c =
    let taken = c.in_ok-begun.ensures.ok in
    let is_class = rw c.second.ensures at c.class_of-class.ensures in
    record {
      no_text = rw taken.tokens refl;
      cut = rw (taken.tokens, taken.begun_is)
          (cut_more _ c.loop-mark.cursor _ _ c.in-Some.mark _ taken.piece c.loop-mark.draft.tokens
          c.loop-mark.begun c.loop-mark.invariant.cut (sym c.first.ensures ∙ c.in-Some.is) is_class
          c.advance.ensures taken.is_piece);
    }

pub returns-clause-ok : goal.returns-clause-ok
returns-clause-ok c =
    cut_all c.args.lines.now c.loop-mark.cursor c.loop-mark.draft.tokens c.loop-mark.begun
    c.loop-mark.invariant.cut (sym c.first.ensures ∙ c.in_default.is)
