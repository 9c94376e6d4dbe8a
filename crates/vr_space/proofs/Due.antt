-- What has to be forced so that a crash leaves the current item alone, as what may be left of the
-- part's blocks shrinks.
use Rattle.std.proofs.Common.{◌≡◌, inr, ℕ, List, [], Option, sym, ◌∙◌, refl, arith}
use Rattle.vr_types.specs.Content.{Item}
use Rattle.vr_types.specs.Image.{Block}
use Rattle.vr_types.specs.Seen.{Left, Seen}
use Rattle.vr_space.specs.Owners.{Owners}
use Rattle.vr_space.specs.Part.{DueMore, DueMoreAt, IsDueTo, IsFirm, IsSound, MayHold}
use Rattle.vr_space.specs.Part.{SameRecords, Shape, item_of, way_to}
use Rattle.vr_space.specs.Way.{IsWithin, MayFind, MayOnceForced, Way, found_on}
use Rattle.vr_space.proofs.PartBlocks.{IsPartBlock, StaysPart, holds-less, way-within}
use Rattle.vr_space.proofs.Ways.{find-more, found-same, within-less}

-- ---- where less is left

-- What is due to some blocks on a way is due to others by which a crash leaves no more of those
-- that it reads.
pub on-way-due : (region : ℕ → Type 0) (listed left : List ℕ) (way : Way) (a b : Seen)
    → IsWithin region a.may way
    → ((n : ℕ) (block : Block) → region n → MayOnceForced left b n block
    → MayOnceForced listed a n block)
    → found_on b.cur way ≡ found_on a.cur way
    → ((item : Option Item) → MayFind (MayOnceForced listed a) item way
    → item ≡ found_on a.cur way)
    → (item : Option Item) → MayFind (MayOnceForced left b) item way → item ≡ found_on b.cur way
on-way-due region listed left way a b within less same due item holds = due item
    (find-more region (MayOnceForced left b) (MayOnceForced listed a) item less way
    (within-less region (MayOnceForced left b) a.may (λ n block is may. (less n block is may).0)
    way within) holds)
    ∙ sym same

-- So it is of the way to a place.
pub way-due : (shape : Shape) (region : ℕ → Type 0) (listed left place : List ℕ) (a b : Seen)
    → IsWithin region a.may (way_to shape place)
    → ((n : ℕ) (block : Block) → region n → MayOnceForced left b n block
    → MayOnceForced listed a n block)
    → item_of shape b.cur place ≡ item_of shape a.cur place
    → IsDueTo shape listed a place → IsDueTo shape left b place
way-due shape region listed left place a b =
    on-way-due region listed left (way_to shape place) a b

module _ (shape : Shape) (owners : Owners) (a : Seen) (sound : IsSound shape owners a) where
  -- what may be found where less is allowed than what is due to some blocks, was due to them
  found-due : (listed place : List ℕ) (less : ℕ → Block → Type 0)
      → ((n : ℕ) (block : Block) → IsPartBlock shape owners a n → less n block
      → MayOnceForced listed a n block)
      → IsDueTo shape listed a place → (item : Option Item)
      → MayHold shape less place item
      → item ≡ item_of shape a.cur place
  found-due listed place less each due item holds = due item
      (find-more (IsPartBlock shape owners a) less (MayOnceForced listed a) item each
      (way_to shape place)
      (within-less (IsPartBlock shape owners a) less a.may (λ n block is may. (each n block is
      may).0) (way_to shape place) (way-within shape owners a sound place)) holds)

  -- What is due to some blocks is due to others by which a crash leaves no more,
  pub due-fewer : (listed left place : List ℕ) (b : Seen)
      → ((n : ℕ) (block : Block) → IsPartBlock shape owners a n → MayOnceForced left b n block
      → MayOnceForced listed a n block)
      → item_of shape b.cur place ≡ item_of shape a.cur place
      → IsDueTo shape listed a place → IsDueTo shape left b place
  due-fewer listed left place b less same due = way-due shape (IsPartBlock shape owners a) listed
      left place a b (way-within shape owners a sound place) less same due

  -- and once they are forced, a crash leaves the current item alone.
  pub due-firm : (listed place : List ℕ) (b : Seen)
      → ((n : ℕ) (block : Block) → IsPartBlock shape owners a n → b.may n block
      → MayOnceForced listed a n block)
      → item_of shape b.cur place ≡ item_of shape a.cur place
      → IsDueTo shape listed a place → IsFirm shape b place
  due-firm listed place b less same due item holds =
      found-due listed place b.may less due item holds ∙ sym same

  -- So it does where no block is due.
  pub due-none : (place : List ℕ) → IsDueTo shape [] a place → IsFirm shape a place
  due-none place = due-firm [] place a
      (λ n block is may. (may, λ there. absurd (omega (arith, there.1)))) refl

-- a place that a crash leaves alone is due to no block
pub firm-due : (shape : Shape) (owners : Owners) (listed place : List ℕ) (now : Seen)
    → IsSound shape owners now → IsFirm shape now place → IsDueTo shape listed now place
firm-due shape owners listed place now sound firm item holds = firm item
    (holds-less shape owners now (MayOnceForced listed now) sound (λ n block is may. may.0) place
    item holds)

-- ---- a part that others leave as it is

-- each place has the record that it had
pub same-stays : (a b : Seen) (shape : Shape) (owners : Owners) → StaysPart shape owners a b
    → IsSound shape owners a → Left a a.cur → SameRecords shape a.cur b.cur
same-stays a b shape owners stays sound left place = found-same (IsPartBlock shape owners a) a.may
    a.cur b.cur (λ n is. stays.same n is.1) (λ n is. left.each n is.0) (way_to shape place)
    (way-within shape owners a sound place)

-- and what has to be forced for it stays
pub due-stays : (shape : Shape) (owners : Owners) (a b : Seen) → StaysPart shape owners a b
    → IsSound shape owners a → Left a a.cur → DueMore shape [] a b
due-stays shape owners a b stays sound left listed place due within =
    due-fewer shape owners a sound listed listed place b
    (λ n block is may. (
      stays.fewer n block is.0 is.1 may.0,
      λ there. may.1 there ∙ stays.same n is.1,
    ))
    (same-stays a b shape owners stays sound left place) due

-- ---- calls in a row

-- calls after which nothing more, and then others
pub due-then : (shape : Shape) (put : List ℕ) (a b c : Seen) → DueMore shape [] a b
    → DueMore shape put b c → DueMore shape put a c
due-then shape put a b c first second listed place due within =
    second listed place (first listed place due (λ n there. absurd (omega (arith, there.1)))) within

-- a record set after calls that need no more
pub due-at-then : (shape : Shape) (at put : List ℕ) (a b c : Seen) → DueMore shape [] a b
    → DueMoreAt shape at put b c → DueMoreAt shape at put a c
due-at-then shape at put a b c first second listed place due either =
    second listed place (first listed place due (λ n there. absurd (omega (arith, there.1)))) either

-- a record set needs no more than the blocks that were put
pub due-at-more : (shape : Shape) (at put : List ℕ) (a b : Seen) → DueMoreAt shape at put a b
    → DueMore shape put a b
due-at-more shape at put a b call listed place due within = call listed place due (inr within)
