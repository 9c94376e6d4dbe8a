-- Reads and writes in a row.
use Rattle.std.proofs.Common.{◌≡◌, ℕ, ◌+◌, ◌-◌, length, take, drop, arith, Option, None, Some, List}
use Rattle.std.proofs.Common.{◌++◌, refl, sym, ap, ◌∙◌, append_assoc}
use Rattle.std.proofs.Math.Seq.{take-add}
use Rattle.std.proofs.lemmas.List.{length-drop, take_all}
use Rattle.std.specs.Io.KnownBytes.{prepend_known, append_known}
use Rattle.vr_outside.specs.Told.{Reads, Takes}

-- two lists before the known bytes are one list before them
pub prepend_known-append : (known : Option (List ℕ)) (xs ys : List ℕ)
    → prepend_known xs (prepend_known ys known) ≡ prepend_known (xs ++ ys) known
prepend_known-append None xs ys = refl
prepend_known-append (Some zs) xs ys = ap Some (sym (append_assoc xs ys zs))

-- two lists after the known bytes are one list after them
pub append_known-append : (known : Option (List ℕ)) (xs ys : List ℕ)
    → append_known (append_known known xs) ys ≡ append_known known (xs ++ ys)
append_known-append None xs ys = refl
append_known-append (Some zs) xs ys = ap Some (append_assoc zs xs ys)

-- what two reads in a row handed out is what one read would have
pub Reads-join : (first second third : Option (List ℕ)) (xs ys : List ℕ) → Reads first second xs
    → Reads second third ys → Reads first third (xs ++ ys)
Reads-join first second third xs ys earlier later =
    earlier ∙ ap (prepend_known xs) later ∙ prepend_known-append third xs ys

-- what two writes in a row took is what one write would have
pub Takes-join : (first second third : Option (List ℕ)) (xs ys : List ℕ) → Takes first second xs
    → Takes second third ys → Takes first third (xs ++ ys)
Takes-join first second third xs ys earlier later =
    later ∙ ap (λ known. append_known known ys) earlier ∙ append_known-append first xs ys

-- a write of what comes after a prefix of the bytes
pub Takes-prefix : (first second third : Option (List ℕ)) (bytes : List ℕ) (at n : ℕ)
    → Takes first second (take at bytes)
    → Takes second third (take n (take (length bytes - at) (drop at bytes)))
    → Takes first third (take (at + n) bytes)
Takes-prefix first second third bytes at n earlier later =
    let rest : take (length bytes - at) (drop at bytes) ≡ drop at bytes =
    take_all (length bytes - at) (drop at bytes) (omega (arith, length-drop at bytes)) in
    rw (take-add at n bytes) (Takes-join first second third (take at bytes)
    (take n (drop at bytes)) earlier (rw rest at later))
