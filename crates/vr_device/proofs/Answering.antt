-- What follows from a call's answer, whichever it is.
use Rattle.std.proofs.Common.{Result, Ok, Err, OnOk, OnErr}

-- what follows from either outcome
pub either : {T E : Type 0} (r : Result T E) (P Q R : Type 0) → OnOk r P → OnErr r Q → (P → R)
    → (Q → R) → R
either (Ok x) P Q R ok err f g = f ok
either (Err e) P Q R ok err f g = g err

pub on_ok : {T E : Type 0} (r : Result T E) (P Q : Type 0) → OnOk r P → (P → Q) → OnOk r Q
on_ok (Ok x) P Q ok f = f ok
on_ok (Err e) P Q ok f = tt

pub on_err : {T E : Type 0} (r : Result T E) (P Q : Type 0) → OnErr r P → (P → Q) → OnErr r Q
on_err (Ok x) P Q err f = tt
on_err (Err e) P Q err f = f err
