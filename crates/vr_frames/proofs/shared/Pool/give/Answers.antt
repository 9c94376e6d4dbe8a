use Rattle.std.proofs.Common.{◌≡◌, ℕ, [], ◌∷◌, arith, refl, ap, ◌∙◌, Some}
use Rattle.std.specs.Global.{Vec}
use Rattle.std.proofs.lemmas.List.{nil_from_length}
use Rattle.atomic_table.specs.Table.{rest}
use Rattle.vr_frames.specs.declared.view.View.{View}
use Rattle.vr_frames.specs.Views.{times, view_with, without}
use Rattle.vr_frames.specs.Plays.{SeatState}
use Rattle.vr_frames.specs.Rule.{IsBuffer}
use Rattle.vr_frames.proofs.Steps.{fetches_at, releases_at}
use Rattle.vr_frames.proofs.shared.Pool.give.Goals as goal

pub load-requires : goal.load-requires
load-requires c = let seat = c.args.seat.now in (
  c.requires.seat.0,
  omega (arith, c.args.self.now.counts.0, c.args.self.now.counts.1, c.requires.frame.1),
  fetches_at IsBuffer _ _ _ _ _ (nil_from_length _ seat.rests.0) c.requires.frame.1 seat.has_part
      (nil_from_length _ seat.rests.1) c.requires.held,
)

pub store-requires : goal.store-requires
store-requires c =
    let seat = c.args.seat.now in let loaded = c.load.ensures in let swapped =
    c.exchange.ensures in let number : ℕ = c.args.frame.number in let buffer : Vec ℕ =
    c.args.frame.buffer in
    let old : View = seat.place.me.0 in let fetched : View =
    view_with old.size old.parts (without number old.frames) (number ∷ []) old.failed in (
      swapped.0 ∙ (loaded.0 ∙ c.requires.seat.0),
      omega (arith, c.args.self.now.counts.0, c.args.self.now.counts.1, c.requires.frame.1),
      releases_at IsBuffer _ _ _ _ fetched buffer _
          (swapped.3 ∙ ap (λ (state : SeatState (Vec ℕ)).
          (state.0, (number, Some buffer) ∷ rest state.1)) loaded.2) c.requires.frame.1
          seat.has_part refl (omega (arith, buffer.ok.0, c.requires.frame.2, c.requires.seat.1)),
    )

pub returns-clause-given : goal.returns-clause-given
returns-clause-given c =
    let loaded = c.load.ensures.2 in let swapped = c.exchange.ensures.3 in let stored =
    c.store.ensures.2 in let number : ℕ = c.args.frame.number in let old : View =
    c.args.seat.now.place.me.0 in
    let failed : c.store.new.seat.me.0.failed ≡ old.failed =
    ap (λ (state : SeatState (Vec ℕ)). state.0.failed) stored
    ∙ (ap (λ (state : SeatState (Vec ℕ)). state.0.failed) swapped
    ∙ ap (λ (state : SeatState (Vec ℕ)). state.0.failed) loaded) in record {
      others = ap (λ (state : SeatState (Vec ℕ)). state.0.frames) stored
          ∙ (ap (λ (state : SeatState (Vec ℕ)). state.0.frames) swapped
          ∙ ap (λ (state : SeatState (Vec ℕ)). state.0.frames) loaded);
      same_claims = λ k. ap (times k) failed;
    }
