-- How tokens are held: the bytes of all texts, one after another, and for each token where its text
-- lies among them.
use Rattle.std.specs.Prelude.{ℕ, ◌≤◌, ◌-◌, List, length, map, take, drop, All}
use Rattle.vr_scan.specs.declared.token.Span.{Span}
use Rattle.vr_scan.specs.Token.{Token}

-- the token of a span
abbrev pub token_of : List ℕ → Span → Token
token_of bytes span = record {
  kind = span.kind;
  text = take (span.end - span.start) (drop span.start bytes);
  line = span.line;
  column = span.column;
}

abbrev pub tokens_of : List ℕ → List Span → List Token
tokens_of bytes spans = map (token_of bytes) spans

-- each text lies within the bytes
pub record IsWithin (bytes : List ℕ) (span : Span) : Type 0 where
  pub ordered : span.start ≤ span.end
  pub within : span.end ≤ length bytes

abbrev pub AreWithin : List ℕ → List Span → Type 0
AreWithin bytes spans = All (IsWithin bytes) spans

-- Tokens while a further one is being read: those that are complete, and its text so far.
pub record TokensSoFar : Type 0 where
  pub tokens : List Token
  pub text : List ℕ
