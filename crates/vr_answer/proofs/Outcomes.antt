-- What follows from what a call says of its answer.
use Rattle.std.proofs.Common.{Result, Ok, Err, IfOk}

-- of the value that it gave
pub ok_then : {T E : Type 0} (answer : Result T E) {P Q : T → Type 0} → IfOk answer P
    → ((value : T) → P value → Q value) → IfOk answer Q
ok_then (Ok value) is then_so = then_so value is
ok_then (Err error) is then_so = tt
