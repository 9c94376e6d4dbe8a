-- Tokens keep their texts as bytes are added after them.
use Rattle.std.proofs.Common.{◌≡◌, ℕ, ◌-◌, ◌≤◌, List, [], ◌∷◌, ◌++◌, length, take, drop, refl}
use Rattle.std.proofs.Common.{arith, length-drop}
use Rattle.std.proofs.lemmas.List.{drop-append-le, take-append-le}
use Rattle.std.proofs.lemmas.List.Elements.{All-head, All-tail}
use Rattle.vr_scan.specs.declared.token.Span.{Span}
use Rattle.vr_scan.specs.TokensHeld.{token_of, tokens_of, IsWithin, AreWithin}

text_kept : (bytes more : List ℕ) (start end : ℕ) → start ≤ end → end ≤ length bytes
    → take (end - start) (drop start (bytes ++ more)) ≡ take (end - start) (drop start bytes)
text_kept bytes more start end ordered within =
    let inside : end - start ≤ length (drop start bytes) = simp length-drop (omega arith) in
    let starts : start ≤ length bytes = omega arith in
    rw drop-append-le (rw take-append-le refl)

token_kept : (bytes more : List ℕ) (span : Span) → IsWithin bytes span
    → token_of (bytes ++ more) span ≡ token_of bytes span
token_kept bytes more span within =
    let e = text_kept bytes more span.start span.end within.ordered within.within in cc

pub tokens_kept : (bytes more : List ℕ) (spans : List Span) → AreWithin bytes spans
    → tokens_of (bytes ++ more) spans ≡ tokens_of bytes spans
tokens_kept bytes more [] within = refl
tokens_kept bytes more (span ∷ spans) within =
    let first = token_kept bytes more span (All-head (IsWithin bytes) span spans within) in
    let rest = tokens_kept bytes more spans (All-tail (IsWithin bytes) span spans within) in
    cc
