-- The parts of an interval in which a record is set, as they are written.
use Rattle.std.proofs.Common.{◌≡◌, ◌+◌, ◌≤◌, ℕ, Bool, true, false, List, ◌++◌, Option, Some}
use Rattle.std.proofs.Common.{subst, arith}
use Rattle.vr_ci_match.specs.declared.form.Form.{Form}
use Rattle.vr_ci_match.specs.declared.form.Form.TheVariants.{Plain}
use Rattle.vr_ci_match.specs.declared.form.Shape.TheVariants as shapes
use Rattle.vr_ci.specs.Interval as ci
use Rattle.vr_ci.proofs.CallerLemmas.{room-append}
use Rattle.vr_space.specs.Room.{Range}
use Rattle.vr_space.specs.Keyed.{Keyed}
use Rattle.vr_keyed.specs.Setting.{items_between, items_given, items_set}

-- the room of the parts is that of all
pub set-room : (part : Keyed) (range : Range) (place : List ℕ) (new : Option (List ℕ))
    (items : List ci.Item) (size : ℕ) → ci.room (items_set part range place new items) ≤ size
    → ci.room (items_between part range.low place false items)
    + (ci.room (items_given new) + ci.room (items_between part (Some place) range.high true items))
    ≤ size
set-room part range place new items size fits =
    let above : List ci.Item = items_between part (Some place) range.high true items in
    omega (
      arith,
      fits,
      room-append (items_between part range.low place false items) (items_given new ++ above),
      room-append (items_given new) above,
    )

-- an interval of this form
pub of-form : {out : List ℕ} (form : Form) (items : List ci.Item) (busy : Bool) → form ≡ Plain
    → ci.IsInterval form out (record { shape = shapes.Records; items = items; busy = busy })
    → ci.IsInterval Plain out (record { shape = shapes.Records; items = items; busy = busy })
of-form {out} form items busy plain is =
    subst (λ (f : Form). ci.IsInterval f out (record {
      shape = shapes.Records;
      items = items;
      busy = busy;
    })) plain is
