-- What a stage leaves, of what the put leaves after the head was read.
use Rattle.std.proofs.Common.{◌≡◌, ℕ, Bool, IsTrue, List, Ok, Option, Result, Err, IfSome, ap}
use Rattle.std.proofs.Common.{◌∙◌}
use Rattle.std.specs.Prelude.{OnOk}
use Rattle.vr_types.specs.Blocks.{Keeps}
use Rattle.vr_types.specs.Seen.{Seen}
use Rattle.vr_types.specs.declared.unit.StageKind.TheVariants.{CaClaim}
use Rattle.vr_space.specs.Areas.{KeyedChain, KnowsAreas, intervals_in}
use Rattle.vr_space.specs.Owners.{Owners}
use Rattle.vr_space.specs.Room.{Lengths}
use Rattle.vr_casplit.specs.Growing.{IsGrowing, LeavesRecords, LeavesRest}
use Rattle.vr_space.specs.Split.{MoveNow}
use Rattle.vr_space.specs.Moves.{IsAside, IsMoving}
use Rattle.vr_casplit.specs.Splits.{IsAtWork, IsWorkDone, LeavesWork}
use Rattle.vr_casplit.specs.Splits.{areas_by, ends_by}
use Rattle.vr_casplit.proofs.Reading.{grows-read, knows-read, read-leaves, then-leaves}
use Rattle.vr_casplit.proofs.Reading.{then-rests}

-- What follows where a call is done, from all that is so then.
pub ok-when : {T E : Type 0} (Q : Type 0) (r : Result T E)
    → (((P : Type 0) → OnOk r P → P) → Q) → OnOk r Q
ok-when Q (Ok x) make = make (λ P holds. holds)
ok-when Q (Err e) make = tt

-- A head that is read, and no more, leaves the records.
pub read-work : (tells : Bool) → IsTrue tells → (part : KeyedChain) (move : MoveNow) (a m : Seen)
    → Keeps tells a m → LeavesWork part move a m
read-work tells told part move a m read = record {
  records = λ owners kept work.
      read-leaves tells told part owners a m read work.rests kept work.room;
}

module _ (tells : Bool) (told : IsTrue tells) (part : KeyedChain) (move : MoveNow) (a m b : Seen)
    (read : Keeps tells a m) (claimed : move.stage ≡ CaClaim → ⊥)
    (aside : IsAside part move a.cur) where
  grows : (owners : Owners) (kept : Lengths) → IsAtWork part move owners kept a
      → IsGrowing part move.into owners kept a
  grows owners kept work = record {
    rests = work.rests;
    room = work.room;
    own = work.own claimed;
    apart = aside.apart;
  }

  then-grows : (owners : Owners) (kept : Lengths) → IsAtWork part move owners kept a
      → IsGrowing part move.into owners kept m
  then-grows owners kept work = grows-read tells told part owners a m read work.rests move.into kept
      (grows owners kept work)

  pub work-leaves : ((owners : Owners) (kept : Lengths) → IsGrowing part move.into owners kept m
      → LeavesRecords part owners kept m b)
      → LeavesWork part move a b
  work-leaves leaves = record {
    records = λ owners kept work. then-leaves tells told part owners a m read work.rests kept b
        work.room (leaves owners kept (then-grows owners kept work));
  }

  pub work-done : (after : Option MoveNow) (cut : List ℕ)
      → ((owners : Owners) (kept : Lengths) → IsGrowing part move.into owners kept m
      → LeavesRest part owners m b)
      → ((owners : Owners) (kept : Lengths) → IsGrowing part move.into owners kept a
      → IfSome after (λ next. IsMoving part next b))
      → ((owners : Owners) (kept : Lengths) (areas : List ℕ) (ends : List (List ℕ))
      → IsGrowing part move.into owners kept m → KnowsAreas part areas ends m.cur
      → KnowsAreas part (areas_by move.stage move areas) (ends_by move.stage move cut areas ends)
      b.cur)
      → ((owners : Owners) (kept : Lengths) → IsGrowing part move.into owners kept m
      → intervals_in part b.cur ≡ intervals_in part m.cur)
      → IsWorkDone part move after cut a b
  work-done after cut rests way knows counts = record {
    rests = λ owners kept work. then-rests tells told part owners a m read work.rests b
        (rests owners kept (then-grows owners kept work));
    way = λ owners kept work. way owners kept (grows owners kept work);
    knows = λ owners kept areas ends work before. knows owners kept areas ends
        (then-grows owners kept work)
        (knows-read tells told part owners a m read work.rests areas ends before);
    counts = λ owners kept work.
        counts owners kept (then-grows owners kept work)
        ∙ ap (intervals_in part) (read.content told);
  }
