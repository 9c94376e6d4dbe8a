-- Bytes that are read after others.
use Rattle.std.proofs.Common.{◌≡◌, ℕ, ◌+◌, ◌-◌, ◌≤◌, List, ◌++◌, length, take, Result, Ok, Err}
use Rattle.std.proofs.Common.{IfOk, IfSome, sym, ap, ◌∙◌, Option, Some, None, append-nil, unwrap_or}
use Rattle.std.specs.Io.KnownBytes.{IsAtEnd}
use Rattle.std.proofs.Math.Seq.{take-append-add}
use Rattle.std.proofs.lemmas.List.{take-append-le, length-take-le}
use borrow.Rule.Slice.PartMut.{put_mid, post_of}
use Rattle.vr_outside.proofs.CallerLemmas.{Reads-join}
use Rattle.vr_outside.specs.Told.{Reads}
use Rattle.vr_job_ends.specs.Input.{ReadsAfter}

-- the prefix of a list of which a part was written
take-put_mid-prefix : (a k : ℕ) (xs ys : List ℕ) (n : ℕ) → a ≤ length xs → n ≤ length ys
    → take (a + n) (put_mid a k xs ys) ≡ take a xs ++ take n ys
take-put_mid-prefix a k xs ys n inside within =
    let long : length (take a xs) ≡ a = length-take-le a xs inside in
    ap (λ m. take (m + n) (take a xs ++ (ys ++ post_of a k xs))) (sym long)
    ∙ take-append-add (take a xs) (ys ++ post_of a k xs) n
    ∙ ap (λ l. take a xs ++ l) (take-append-le n ys (post_of a k xs) within)

pub reads_after : {E : Type 0} (left left' : Option (List ℕ)) (filled : ℕ) (buffer piece : List ℕ)
    (r : Result ℕ E) → filled ≤ length buffer
    → IfOk r (λ n. n ≤ length piece) → IfOk r (λ n. Reads left left' (take n piece))
    → IfOk r (λ n. ReadsAfter left left' (take filled buffer)
    (take (filled + n) (put_mid filled (length buffer - filled) buffer piece)))
reads_after left left' filled buffer piece (Ok n) inside within reads = (
  take n piece,
  take-put_mid-prefix filled
      (length buffer - filled) buffer piece n inside within,
  reads,
)
reads_after left left' filled buffer piece (Err e) inside within reads = tt

-- what two reads in a row handed out is what one read would have
pub reads_join : (first second third : Option (List ℕ)) (earlier later : List ℕ)
    → Reads first second earlier → Reads second third later → Reads first third (earlier ++ later)
reads_join = Reads-join

-- what was handed out up to the end is all that there was
pub reads_end : (first last : Option (List ℕ)) (bytes : List ℕ) → Reads first last bytes
    → IsAtEnd last → IfSome first (λ all. all ≡ bytes)
reads_end None last bytes reads at_end = tt
reads_end (Some all) None bytes reads at_end = absurd (cc)
reads_end (Some all) (Some rest) bytes reads at_end =
    ap (λ (known : Option (List ℕ)). unwrap_or known all) reads ∙ ap (λ l. bytes ++ l) at_end
    ∙ append-nil bytes
