-- A piece of the records that are handed over: what is copied of them, one after another.
use Rattle.std.proofs.Common.{◌≡◌, ◌∙◌, ◌<◌, ◌+◌, ◌-◌, ℕ, zero, suc, Bool, true, false, List, []}
use Rattle.std.proofs.Common.{◌∷◌, ◌++◌, Option, None, append_assoc, ap, arith, get_or, length, map}
use Rattle.std.proofs.Common.{refl, sym, take}
use Rattle.std.specs.Prelude.{cond, drop, if◌then◌else◌, nat_lt, take_while}
use Rattle.std.specs.Global.{Global}
use Rattle.std.proofs.lemmas.Bool.Decides.{nat_tests}
use Rattle.std.proofs.lemmas.List.{append-nil, map-append, take_all, take_more}
use Rattle.std.proofs.lemmas.List.Sums.{take_while-cons}
use Rattle.vr_trace.specs.Visitors.{Visited, visited_by}
use Rattle.vr_ams_define.specs.declared.answer.ReadBack.{ReadBack}
use Rattle.vr_ams_define.specs.declared.answer.ReadBack.TheVariants as reads
use Rattle.vr_ams_print.specs.Steps.{is_within}
use Rattle.vr_ams_repro.specs.Fed.{is_first_at, look_of}
use Rattle.vr_ams_repro.specs.Pieces.{chosen, of_card}
use Rattle.vr_ams_repro.specs.Steps.{after_record, is_done, started, with_card}
use Rattle.vr_ams_repro.specs.declared.piece.Piece.{Piece}
use Rattle.vr_ams_repro.specs.declared.tried.Look.{Look}
use Rattle.vr_ams_repro.specs.declared.tried.Look.TheVariants as looks

abbrev After : List Visited → Piece → Piece
After records piece = visited_by after_record is_done records piece

-- ---- the visitor

-- where it takes no more
stays : (records : List Visited) (piece : Piece) → is_done piece ≡ true
    → After records piece ≡ piece
stays [] piece over = refl
stays (one ∷ others) piece over = rw over refl

-- where it takes more
goes-on : (one : Visited) (others : List Visited) (piece : Piece) → is_done piece ≡ false
    → After (one ∷ others) piece ≡ After others (after_record piece one.0 one.1)
goes-on one others piece more = rw more refl

-- one record more
abbrev With : Piece → Visited → Piece
With piece one = if is_done piece then piece else after_record piece one.0 one.1

with-done : (piece : Piece) (one : Visited) → is_done piece ≡ true → With piece one ≡ piece
with-done piece one over = rw over refl

visited-more : (records : List Visited) (one : Visited) (piece : Piece)
    → After (records ++ one ∷ []) piece ≡ With (After records piece) one
visited-more [] one piece = refl
visited-more (first ∷ records) one piece = by (is_done piece) refl
    (visited-more records one (after_record piece first.0 first.1))
  where
    -- what is there of the others
    Rest : Type 0
    Rest = After (records ++ one ∷ []) (after_record piece first.0 first.1)
        ≡ With (After records (after_record piece first.0 first.1)) one

    by : (done : Bool) → is_done piece ≡ done → Rest
        → After (first ∷ (records ++ one ∷ [])) piece ≡ With (After (first ∷ records) piece) one
    by true over rest = stays (first ∷ (records ++ one ∷ [])) piece over
        ∙ sym (ap (λ (it : Piece). With it one) (stays (first ∷ records) piece over)
        ∙ with-done piece one over)
    by false more rest = goes-on first (records ++ one ∷ []) piece more ∙ rest
        ∙ sym (ap (λ (it : Piece). With it one) (goes-on first records piece more))

-- ---- data cards

take-one : (cards : List (List ℕ)) (count : ℕ) (card : List ℕ) → count < length cards
    → card ≡ get_or cards count card → take (count + 1) cards ≡ take count cards ++ card ∷ []
take-one cards count card near at = take_more cards count card near
    ∙ ap (λ (it : List ℕ). take count cards ++ it ∷ []) (sym at)

pub cards-more : (cards : List (List ℕ)) (count : ℕ) (card : List ℕ) (first now next : Piece)
    → count < length cards → card ≡ get_or cards count card
    → now ≡ After (map of_card (take count cards)) first → next ≡ with_card now card
    → next ≡ After (map of_card (take (count + 1) cards)) first
cards-more cards count card first now next near at come is =
    is ∙ ap (λ (piece : Piece). with_card piece card) come
    ∙ sym (visited-more (map of_card (take count cards)) (of_card card) first)
    ∙ ap (λ (them : List Visited). After them first)
    (sym (ap (map of_card) (take-one cards count card near at)
    ∙ map-append of_card (take count cards) (card ∷ [])))

-- ---- those that are copied

module _ (alloc : Global) (until : Option (List ℕ)) where
  abbrev At : ℕ → ℕ → List Visited → Piece
  At skip left kept = record {
    skip = skip;
    left = left;
    last = until;
    over = false;
    records = kept;
    alloc = alloc;
  }

  more-left : (skip left : ℕ) (kept : List Visited) → is_done (At skip (suc left) kept) ≡ false
  more-left skip left kept = grind (arith, nat_tests)

  skip-one : (skip left : ℕ) (one : Visited)
      → after_record (At (suc skip) (suc left) []) one.0 one.1 ≡ At skip (suc left) []
  skip-one skip left one =
      let some : nat_lt 0 (suc skip) ≡ true = grind (arith, nat_tests) in
      let less : suc skip - 1 ≡ skip = omega arith in rw (some, less) refl

  keep-one : (left : ℕ) (kept : List Visited) (one : Visited) → is_within until one ≡ true
      → after_record (At 0 (suc left) kept) one.0 one.1 ≡ At 0 left (kept ++ one ∷ [])
  keep-one left kept one within =
      let less : suc left - 1 ≡ left = omega arith in rw (within, less) refl

  end-one : (left : ℕ) (kept : List Visited) (one : Visited) → is_within until one ≡ false
      → after_record (At 0 (suc left) kept) one.0 one.1
      ≡ record (At 0 (suc left) kept) { over = true }
  end-one left kept one past = rw past refl

  kept-from : (records : List Visited) (left : ℕ) (kept : List Visited)
      → (After records (At 0 left kept)).records
      ≡ kept ++ take left (take_while (is_within until) records)
  kept-from records zero kept =
      ap (λ (piece : Piece). piece.records) (stays records (At 0 0 kept) refl)
      ∙ sym (append-nil kept)
  kept-from [] (suc left) kept = sym (append-nil kept)
  kept-from (one ∷ others) (suc left) kept = by (is_within until one) refl
      (kept-from others left (kept ++ one ∷ []))
    where
      rest : List Visited
      rest = take_while (is_within until) others

      chosen-so : (passes : Bool) → is_within until one ≡ passes
          → cond passes (one ∷ rest) [] ≡ take_while (is_within until) (one ∷ others)
      chosen-so passes is = sym (take_while-cons (is_within until) one others
          ∙ ap (λ (it : Bool). cond it (one ∷ rest) []) is)

      on : After (one ∷ others) (At 0 (suc left) kept)
          ≡ After others (after_record (At 0 (suc left) kept) one.0 one.1)
      on = goes-on one others (At 0 (suc left) kept) (more-left 0 left kept)

      Later : Type 0
      Later = (After others (At 0 left (kept ++ one ∷ []))).records
          ≡ (kept ++ one ∷ []) ++ take left rest

      by : (passes : Bool) → is_within until one ≡ passes → Later
          → (After (one ∷ others) (At 0 (suc left) kept)).records
          ≡ kept ++ take (suc left) (take_while (is_within until) (one ∷ others))
      by true is later = ap (λ (piece : Piece). piece.records) on
          ∙ ap (λ (piece : Piece). (After others piece).records) (keep-one left kept one is)
          ∙ later
          ∙ append_assoc kept (one ∷ []) (take left rest)
          ∙ ap (λ (them : List Visited). kept ++ take (suc left) them) (chosen-so true is)
      by false is later = ap (λ (piece : Piece). piece.records) on
          ∙ ap (λ (piece : Piece). (After others piece).records) (end-one left kept one is)
          ∙ ap (λ (piece : Piece). piece.records)
          (stays others (record (At 0 (suc left) kept) { over = true }) refl)
          ∙ sym (append-nil kept)
          ∙ ap (λ (them : List Visited). kept ++ take (suc left) them) (chosen-so false is)

  passed : (skip left : ℕ) (records : List Visited)
      → (After records (At skip left [])).records ≡ chosen skip left until records
  passed zero left records = kept-from records left []
  passed (suc skip) zero records =
      ap (λ (piece : Piece). piece.records) (stays records (At (suc skip) 0 []) refl)
  passed (suc skip) (suc left) [] = refl
  passed (suc skip) (suc left) (one ∷ others) = ap (λ (piece : Piece). piece.records)
      (goes-on one others (At (suc skip) (suc left) []) (more-left (suc skip) left []))
      ∙ ap (λ (piece : Piece). (After others piece).records) (skip-one skip left one)
      ∙ passed skip (suc left) others

-- a piece that was begun has the records that are to be copied
pub chosen-is : (alloc : Global) (until : Option (List ℕ)) (skip left : ℕ)
    (records : List Visited) (before after : Piece) → before ≡ started alloc skip left until
    → after ≡ After records before → after.records ≡ chosen skip left until records
chosen-is alloc until skip left records before after made visited =
    ap (λ (piece : Piece). piece.records) (visited ∙ ap (After records) made)
    ∙ passed alloc until skip left records

-- ---- the first record from a place on

first-read : (alloc : Global) (place : List ℕ) (records : List Visited)
    → is_first_at place (After records (started alloc 0 1 None)).records
    ≡ is_first_at place records
first-read alloc place [] = refl
first-read alloc place (one ∷ []) = refl
first-read alloc place (one ∷ (other ∷ others)) = refl

look-by : (alloc : Global) (place : List ℕ) (records : List Visited) (answer : ReadBack)
    → look_of place (After records (started alloc 0 1 None)).records answer
    ≡ look_of place records answer
look-by alloc place records reads.Done =
    ap (λ (is : Bool). if is then looks.Taken else looks.Free) (first-read alloc place records)
look-by alloc place records (reads.Fault fault) = refl

pub look-read : (alloc : Global) (place : List ℕ) (records : List Visited) (answer : ReadBack)
    (before after : Piece) (look : Look) → before ≡ started alloc 0 1 None
    → after ≡ After records before → look ≡ look_of place after.records answer
    → look ≡ look_of place records answer
look-read alloc place records answer before after look made visited is =
    is ∙ ap (λ (piece : Piece). look_of place piece.records answer)
    (visited ∙ ap (After records) made) ∙ look-by alloc place records answer
