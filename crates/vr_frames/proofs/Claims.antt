-- What the claims of a take add up to.
use Rattle.std.proofs.Common.{◌≡◌, ℕ, ◌+◌, ◌<◌, ◌≤◌, List, [], ◌∷◌, Bool, sym, ap, ◌∙◌, subst}
use Rattle.std.proofs.Common.{arith, eq-eqb, ne_eqb, vec_len, nat_eq, MatchBool}
use Rattle.std.specs.Prelude.{Option, Some, None, IfNone}
use Rattle.std.specs.Global.{Vec}
use mathlib.Core.Logic.{dite}
use mathlib.Core.Option.{none}
use native.Mathlib.Decide.{ℕ_discrete, dec_le}
use Rattle.atomic_table.specs.Table.{step}
use Rattle.vr_frames.specs.declared.view.View.{View}
use Rattle.vr_frames.specs.Views.{times, tries, view_with}
use Rattle.vr_frames.specs.Plays.{SeatState, claimed}
use Rattle.vr_frames.specs.Search.{Place, IsSamePlace, failed_at, Missed, MissedSome, Tried, Won}
use Rattle.vr_frames.proofs.Counts.{one_if, one_if-same, one_if-other, times-cons, tries-before}
use Rattle.vr_frames.proofs.Counts.{tries-within, tries-after, tries-none, tries-join, tries-once}
use Rattle.vr_frames.proofs.Counts.{tries-apart}

-- one claim, which found its word at 0 or not
pub claim_made : (old new : Place) (slots frame found : ℕ) → IsSamePlace old new → old.me.1 ≡ []
    → claimed (λ view buffer. vec_len buffer ≡ view.size)
    (step slots frame 0 1 none) old.me found new.me
    → MatchBool (nat_eq found 0) (Won old new frame × Missed old new frame frame)
    (Tried old new frame (frame + 1))
claim_made old new slots frame found same no_slot shown = dite (ℕ_discrete found 0)
    (λ hit. subst (λ (test : Bool). MatchBool test (Won old new frame × Missed old new frame frame)
    (Tried old new frame (frame + 1))) (sym (eq-eqb found 0 hit))
    (let claim = shown.0 hit in let after = claim.3 in (
      record {
        same_seat = same;
        same_view = ap (λ (state : SeatState (Vec ℕ)). state.0) after
            ∙ ap (λ (failed : List ℕ). view_with old.me.0.size old.me.0.parts old.me.0.frames
            (frame ∷ []) failed) (sym (ap (λ (state : SeatState (Vec ℕ)). state.0.failed) after));
        new_frame = claim.2;
        brings = record {
          buffer = claim.0;
          whole = claim.1;
          slot = ap (λ (state : SeatState (Vec ℕ)). state.1) after
              ∙ ap (λ (slots : List (ℕ × Option (Vec ℕ))). (frame, Some claim.0) ∷ slots) no_slot;
          moving = ap (λ (state : SeatState (Vec ℕ)). state.0.moving) after;
        };
      },
      λ k. omega (
        arith,
        ap (λ (state : SeatState (Vec ℕ)). times k state.0.failed) after,
        tries-none frame k,
      ),
    )))
    (λ miss. subst (λ (test : Bool). MatchBool test
    (Won old new frame × Missed old new frame frame) (Tried old new frame (frame + 1)))
    (sym (ne_eqb found 0 miss))
    (let after = shown.1 miss in
    let failed : new.me.0.failed ≡ frame ∷ old.me.0.failed =
    ap (λ (state : SeatState (Vec ℕ)). state.0.failed) after in
    let counted : (k : ℕ) → failed_at new k ≡ times k (frame ∷ old.me.0.failed) =
    λ k. ap (times k) failed in record {
      same_seat = same;
      same_view =
          after ∙ ap (λ (list : List ℕ). (
            view_with old.me.0.size old.me.0.parts old.me.0.frames
                old.me.0.moving list,
            old.me.1,
          )) (sym failed);
      missed = λ k. omega (arith, counted k, times-cons k frame old.me.0.failed, one_try k);
    }))
  where
    one_try : (k : ℕ) → one_if k frame ≡ tries frame (frame + 1) k
    one_try k =
        dite (ℕ_discrete frame k) (λ same. one_if-same k frame same
        ∙ sym (tries-within frame (frame + 1) k (omega arith) (omega arith)))
        (λ apart. one_if-other k frame apart ∙ sym
        (dite (dec_le frame k) (λ past. tries-after frame (frame + 1) k (omega arith))
        (λ before. tries-before frame (frame + 1) k (omega arith))))

-- what the seat knew, but for its failed claims
same_but_failed : (a b c : Place) → b.me ≡
    (view_with a.me.0.size a.me.0.parts a.me.0.frames a.me.0.moving b.me.0.failed, a.me.1)
    → c.me ≡ (view_with b.me.0.size b.me.0.parts b.me.0.frames b.me.0.moving c.me.0.failed, b.me.1)
    → c.me ≡ (view_with a.me.0.size a.me.0.parts a.me.0.frames a.me.0.moving c.me.0.failed, a.me.1)
same_but_failed a b c first second = second
    ∙ ap (λ (state : SeatState (Vec ℕ)). (
      view_with state.0.size state.0.parts state.0.frames
          state.0.moving c.me.0.failed,
      state.1,
    )) first

-- one run of claims after another
missed_join : (a b c : Place) (i j k : ℕ) → i ≤ j → j ≤ k → Missed a b i j → Missed b c j k
    → Missed a c i k
missed_join a b c i j k sooner later first second x =
    omega (arith, first x, second x, tries-join i j k x sooner later)

pub tried_more : (a b c : Place) (i j : ℕ) → i ≤ j → Tried a b i j → Tried b c j (j + 1)
    → Tried a c i (j + 1)
tried_more a b c i j sooner first second = record {
  same_seat = (second.same_seat.0 ∙ first.same_seat.0, second.same_seat.1 ∙ first.same_seat.1);
  same_view = same_but_failed a b c first.same_view second.same_view;
  missed = missed_join a b c i j (j + 1) sooner (omega arith) first.missed second.missed;
}

-- the run from `start` to the end, and then the run up to `start`, are a run over all
pub tried_round : (a b c : Place) (start end : ℕ) → start ≤ end → Tried a b start end
    → Tried b c 0 start → Tried a c 0 end
tried_round a b c start end within first second = record {
  same_seat = (second.same_seat.0 ∙ first.same_seat.0, second.same_seat.1 ∙ first.same_seat.1);
  same_view = same_but_failed a b c first.same_view second.same_view;
  missed = λ k. omega (
    arith,
    first.missed k,
    second.missed k,
    tries-join 0 start end k (omega arith) within,
  );
}

-- a claim won after others in vain
won : (a b c : Place) (i j frame : ℕ) → Tried a b i j → Won b c frame → Won a c frame
won a b c i j frame tried last = let state = tried.same_view in
    let view_is : b.me.0 ≡ view_with a.me.0.size a.me.0.parts a.me.0.frames a.me.0.moving
    b.me.0.failed = ap (λ (found : SeatState (Vec ℕ)). found.0) state in record {
      same_seat = (last.same_seat.0 ∙ tried.same_seat.0, last.same_seat.1 ∙ tried.same_seat.1);
      same_view =
          last.same_view ∙ ap (λ (view : View). view_with view.size view.parts view.frames
          (frame ∷ []) c.me.0.failed) view_is;
      new_frame = ap (λ (view : View). times frame view.frames) (sym view_is) ∙ last.new_frame;
      brings = record {
        buffer = last.brings.buffer;
        whole =
            last.brings.whole ∙ ap (λ (view : View). view.size) view_is;
        slot =
            last.brings.slot;
        moving = last.brings.moving;
      };
    }

pub won_after : (a b c : Place) (i frame : ℕ) → i ≤ frame → Tried a b i frame
    → Won b c frame × Missed b c frame frame → Won a c frame × Missed a c i frame
won_after a b c i frame from tried last = (
  won a b c i frame frame tried last.0,
  missed_join a b c i frame frame from (omega arith) tried.missed last.1,
)

-- a run in vain is some claims in vain
pub missed_some : (a b : Place) (first end : ℕ) → Missed a b first end → MissedSome a b
missed_some a b first end missed = record {
  claims = λ k. omega (arith, missed k);
  claims_once = λ k. omega (arith, missed k, tries-once first end k);
}

-- a claim won in the second run of a search, before the first one's start
pub won_round : (a b c : Place) (start end frame : ℕ) → frame < start → Tried a b start end
    → Won b c frame × Missed b c 0 frame → Won a c frame × MissedSome a c
won_round a b c start end frame before tried last = (
  won a b c start end frame tried last.0,
  record {
    claims = λ k. omega (arith, tried.missed k, last.1 k);
    claims_once =
        λ k. omega (arith, tried.missed k, last.1 k, tries-apart 0 frame start end k (omega arith));
  },
)

-- facts on what a call answered
pub if_none : {X : Type 0} (answer : Option X) {P : Type 0} → P → IfNone answer P
if_none (Some x) fact = tt
if_none None fact = fact

pub then_none : {X : Type 0} (answer : Option X) (P Q : Type 0) → (P → Q) → IfNone answer P
    → IfNone answer Q
then_none (Some x) P Q leads fact = tt
then_none None P Q leads fact = leads fact
