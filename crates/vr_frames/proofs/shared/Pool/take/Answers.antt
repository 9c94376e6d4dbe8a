use Rattle.std.proofs.Common.{◌≡◌, ℕ, ◌∷◌, [], ◌++◌, arith, ap, ◌∙◌}
use Rattle.std.specs.Global.{Vec}
use Rattle.vr_frames.specs.declared.view.View.{View}
use Rattle.vr_frames.specs.Views.{times}
use Rattle.vr_frames.specs.Plays.{SeatState}
use Rattle.vr_frames.proofs.Counts.{tries-within, tries-after}
use Rattle.vr_frames.proofs.Claims.{if_none}
use Rattle.vr_frames.proofs.shared.Pool.take.Goals as goal

pub returns-in_err-number-clause-none : goal.returns-in_err-number-clause-none
returns-in_err-number-clause-none c = let tried = c.in_err-number.ensures.none in let frames =
    c.args.self.now.table.shared.table_id.slots in
    if_none c.from_residual.result (record {
      same_frames = ap (λ (state : SeatState (Vec ℕ)). state.0.frames) tried.same_view;
      each_out = λ k near. omega (
        arith,
        tried.missed k,
        tries-within 0 frames k (omega arith) near,
      );
      no_other = λ k far. omega (arith, tried.missed k, tries-after 0 frames k far);
    })

pub returns-clause-some : goal.returns-clause-some
returns-clause-some c =
    let found = c.in_ok-number.ensures.some in let won = found.0 in let missed =
    found.1 in let after = c.bring_out-buffer.ensures.brought.same_view in
    let number : ℕ = c.in_ok-number.number in
    let failed : (k : ℕ) → times k c.bring_out-buffer.new.place.me.0.failed
    ≡ times k c.claim_first.new.place.me.0.failed =
    λ k. ap (λ (state : SeatState (Vec ℕ)). times k state.0.failed) after in record {
      new_to_it = won.new_frame;
      held_now = ap (λ (state : SeatState (Vec ℕ)). state.0.frames) after
          ∙ ap (λ (view : View). view.frames ++ number ∷ []) won.same_view;
      claims = λ k. omega (arith, failed k, missed.claims k);
      claims_once = λ k. omega (arith, failed k, missed.claims_once k);
    }
