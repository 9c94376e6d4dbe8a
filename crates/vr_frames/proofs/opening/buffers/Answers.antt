use Rattle.std.proofs.Common.{ℕ, List, ◌∷◌, [], arith, length-append, Some, sym, ap, ◌∙◌, subst}
use Rattle.std.proofs.Common.{length}
use Rattle.std.specs.Prelude.{Option}
use Rattle.std.specs.Global.{Vec}
use Rattle.vr_frames.specs.Rule.{IsBuffer}
use Rattle.vr_frames.specs.Search.{IsFullRow}
use Rattle.vr_frames.proofs.NewPool.{row_more}
use Rattle.vr_frames.proofs.opening.buffers.Goals as goal

abbrev Row : Type 0
Row = List (Option (Vec ℕ))

pub loop-preserved : goal.loop-preserved
loop-preserved c =
    let so_far = c.loop.invariant in let buffer = c.in_ok-vec.field-0 in let items =
    c.in_ok-push.ensures.items in (
      subst (IsFullRow c.args.size) (sym {A = Row} items)
          (row_more (IsBuffer c.args.size) c.loop.slots.items buffer so_far.0
          c.in_ok-vec.ensures.len),
      ap (λ (row : Row). length row) items ∙ omega
          (arith, length-append c.loop.slots.items (Some buffer ∷ []), so_far.1),
    )
