-- A block, and a second one, its log, which keeps what the first had while that is replaced. The
-- first byte of a block is its mark: 0 in a content, and another in a log that keeps one. This is
-- the project's own example of a promise about a crash at any moment.
use Rattle.std.specs.Prelude.{◌≡◌, ◌⊎◌, ◌≤◌, ℕ, zero, suc, List, [], ◌∷◌, length, take, Option}
use Rattle.std.specs.Prelude.{Some, None, unwrap_or}
use Rattle.vr_types.specs.Image.{Block, Image, block_at}
use Rattle.vr_types.specs.Seen.{Seen, Only}

-- a block that is marked as a content
abbrev pub IsContent : Block → Type 0
IsContent block = (rest : List ℕ) × (block ≡ 0 ∷ rest)

-- what a log block keeps
abbrev pub kept : Block → Option Block
kept [] = None
kept (zero ∷ rest) = None
kept (suc n ∷ rest) = Some (0 ∷ rest)

-- what a restart takes for the content: what the log keeps, and else what the block has
abbrev pub recovered : ℕ → ℕ → Image → Block
recovered log home image = unwrap_or (kept (block_at image log)) (block_at image home)

-- the two blocks
abbrev pub IsPair : ℕ → ℕ → ℕ → Type 0
IsPair log home n = (n ≡ log) ⊎ (n ≡ home)

-- At rest: a crash leaves a log that keeps nothing, and the current content alone.
pub record IsSettled (log home : ℕ) (seen : Seen) : Type 0 where
  pub log_is : Only seen log (λ block. kept block ≡ None)
  pub home_is : Only seen home (λ block. block ≡ block_at seen.cur home)
  pub content_is : IsContent (block_at seen.cur home)

-- a restart finds one of two contents
abbrev pub IsOneOf : ℕ → ℕ → Block → Block → Image → Type 0
IsOneOf log home before after image = (recovered log home image ≡ before)
    ⊎ (recovered log home image ≡ after)

-- the content once these have replaced it, the first of them first
abbrev pub content_after : Block → List Block → Block
content_after content [] = content
content_after content (next ∷ rest) = content_after next rest

-- a restart finds the content once some of these have replaced it, and none out of turn
abbrev pub IsAfterSome : ℕ → ℕ → Block → List Block → Image → Type 0
IsAfterSome log home before contents image =
    (n : ℕ) × (n ≤ length contents) × (recovered log home image ≡ content_after before
    (take n contents))
