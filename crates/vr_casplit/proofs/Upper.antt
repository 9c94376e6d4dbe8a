-- Entries of a head and how they are divided: the first, up to the cut, and the others, numbered
-- anew, past it.
use Rattle.std.proofs.Common.{◌≡◌, ℕ, zero, suc, ◌+◌, ◌<◌, ◌≤◌, Bool, true, false, List, [], ◌∷◌}
use Rattle.std.proofs.Common.{Option, Some, None, length, take, drop, refl, sym, ap, ◌∙◌, arith}
use Rattle.std.proofs.Common.{All}
use Rattle.std.proofs.Common.{true≢false}
use Rattle.std.specs.Prelude.{cond}
use Rattle.std.specs.List.{slice_get}
use Rattle.std.specs.Ordering.{is_le}
use Rattle.std.proofs.lemmas.List.Elements.{All-cons, All-head, All-nil, All-tail}
use Rattle.vr_types.specs.Content.{Item, place_cmp}
use Rattle.vr_types.specs.Image.{Block}
use Rattle.vr_types.specs.Seen.{Seen}
use Rattle.vr_seqset.specs.Entry.{Entry, IsWhole}
use Rattle.vr_space.specs.Areas.{KeyedChain, area_of, is_upto}
use Rattle.vr_space.specs.Keyed.{EachMayLeave, HoldsRange, Keyed, entry_block, entry_for}
use Rattle.vr_space.specs.Keyed.{last_high, range_of, way_in}
use Rattle.vr_space.specs.Room.{Range}
use Rattle.vr_space.specs.UnderWay.{interval_block}
use Rattle.vr_space.specs.Way.{MayFind}
use Rattle.vr_space.proofs.CallerLemmas.{AscendFrom, above-end, above-past, past-above}
use Rattle.vr_space.specs.Moves.{end_from, numbered_from}

-- ---- where they end

pub end-is : (low : List ℕ) (entries : List Entry) → 0 < length entries
    → last_high entries ≡ Some (end_from low entries)
end-is low [] some = absurd (omega (arith, some))
end-is low (entry ∷ []) some = refl
end-is low (entry ∷ other ∷ entries) some = end-is entry.high (other ∷ entries) (omega arith)

-- the last of them ends where all do,
pub dropped-end : (stay : ℕ) (entries : List Entry) → stay < length entries
    → last_high (drop stay entries) ≡ last_high entries
dropped-end zero entries fewer = refl
dropped-end (suc stay) [] fewer = absurd (omega (arith, fewer))
dropped-end (suc stay) (entry ∷ []) fewer = absurd (omega (arith, fewer))
dropped-end (suc stay) (entry ∷ other ∷ entries) fewer =
    dropped-end stay (other ∷ entries) (omega (arith, fewer))

-- whatever numbers they get
pub numbered-end : (n : ℕ) (entries : List Entry)
    → last_high (numbered_from n entries) ≡ last_high entries
numbered-end n [] = refl
numbered-end n (entry ∷ []) = refl
numbered-end n (entry ∷ other ∷ entries) = numbered-end (suc n) (other ∷ entries)

-- the place is as long as each of theirs
pub end-length : (key : ℕ) (low : List ℕ) (entries : List Entry) → length low ≡ key
    → All (IsWhole key) entries → length (end_from low entries) ≡ key
end-length key low [] long whole = long
end-length key low (entry ∷ entries) long whole =
    end-length key entry.high entries (All-head (IsWhole key) entry entries whole).high
    (All-tail (IsWhole key) entry entries whole)

-- each has one interval
pub numbered-single : (n : ℕ) (entries : List Entry)
    → All (λ (entry : Entry). length entry.intervals ≡ 1) (numbered_from n entries)
numbered-single n [] = All-nil (λ (entry : Entry). length entry.intervals ≡ 1)
numbered-single n (entry ∷ entries) =
    All-cons (λ (one : Entry). length one.intervals ≡ 1)
    (let numbered : Entry = record { intervals = n ∷ []; high = entry.high } in numbered)
    (numbered_from (suc n) entries) refl (numbered-single (suc n) entries)

-- ---- what goes from entry to entry

-- What is true from entry to entry is true past the first ones,
pub walk-on : (F : Option (List ℕ) → List Entry → Type 0)
    → ((low : Option (List ℕ)) (entry : Entry) (entries : List Entry) → F low (entry ∷ entries)
    → F (Some entry.high) entries)
    → (stay : ℕ) (low : Option (List ℕ)) (base : List ℕ) (entries : List Entry) → 0 < stay
    → stay ≤ length entries → F low entries
    → F (Some (end_from base (take stay entries))) (drop stay entries)
walk-on F step zero low base entries some most is = absurd (omega (arith, some))
walk-on F step (suc stay) low base [] some most is = absurd (omega (arith, most))
walk-on F step (suc zero) low base (entry ∷ entries) some most is = step low entry entries is
walk-on F step (suc (suc stay)) low base (entry ∷ entries) some most is =
    walk-on F step (suc stay) (Some entry.high) entry.high entries (omega arith)
    (omega (arith, most)) (step low entry entries is)

-- as that high places ascend.
pub ascend-taken : (stay : ℕ) (low : Option (List ℕ)) (entries : List Entry)
    → AscendFrom low entries → AscendFrom low (take stay entries)
ascend-taken zero low entries ascend = tt
ascend-taken (suc stay) low [] ascend = tt
ascend-taken (suc stay) low (entry ∷ entries) ascend =
    (ascend.0, ascend-taken stay (Some entry.high) entries ascend.1)

pub ascend-dropped : (stay : ℕ) (low : Option (List ℕ)) (base : List ℕ) (entries : List Entry)
    → 0 < stay → stay ≤ length entries → AscendFrom low entries
    → AscendFrom (Some (end_from base (take stay entries))) (drop stay entries)
ascend-dropped = walk-on AscendFrom (λ low entry entries ascend. ascend.1)

-- What a crash may leave of their intervals
pub each-taken : (part : Keyed) (now : Seen) (Q : Range → Block → Type 0) (stay : ℕ)
    (low : Option (List ℕ)) (entries : List Entry) → EachMayLeave part now low entries Q
    → EachMayLeave part now low (take stay entries) Q
each-taken part now Q zero low entries each = tt
each-taken part now Q (suc stay) low [] each = tt
each-taken part now Q (suc stay) low (entry ∷ entries) each =
    (each.0, each-taken part now Q stay (Some entry.high) entries each.1)

pub each-dropped : (part : Keyed) (now : Seen) (Q : Range → Block → Type 0) (stay : ℕ)
    (low : Option (List ℕ)) (base : List ℕ) (entries : List Entry) → 0 < stay
    → stay ≤ length entries → EachMayLeave part now low entries Q
    → EachMayLeave part now (Some (end_from base (take stay entries))) (drop stay entries) Q
each-dropped part now Q = walk-on (λ low entries. EachMayLeave part now low entries Q)
    (λ low entry entries each. each.1)

-- ---- which entry a place is found in

-- A place up to where the first ones end is found in one of them,
pub found-lower : (stay : ℕ) (low : Option (List ℕ)) (entries : List Entry) (place : List ℕ)
    → is_upto (last_high (take stay entries)) place ≡ true
    → entry_for low (take stay entries) place ≡ entry_for low entries place
found-lower zero low entries place upto = absurd (true≢false (sym upto))
found-lower (suc stay) low [] place upto = refl
found-lower (suc zero) low (entry ∷ entries) place upto =
    ap (λ (b : Bool). cond b (Some (range_of low entry, entry)) None) upto
    ∙ sym (ap (λ (b : Bool). cond b (Some (range_of low entry, entry))
    (entry_for (Some entry.high) entries place)) upto)
found-lower (suc (suc stay)) low (entry ∷ []) place upto = refl
found-lower (suc (suc stay)) low (entry ∷ other ∷ entries) place upto =
    ap (λ (found : Option (Range × Entry)).
    cond (is_le (place_cmp place entry.high)) (Some (range_of low entry, entry)) found)
    (found-lower (suc stay) (Some entry.high) (other ∷ entries) place upto)

-- and one past it in one of the others.
pub found-upper : (stay : ℕ) (low : Option (List ℕ)) (base : List ℕ) (entries : List Entry)
    (place : List ℕ) → 0 < stay → stay ≤ length entries → AscendFrom low entries
    → is_upto (last_high (take stay entries)) place ≡ false
    → entry_for low entries place
    ≡ entry_for (Some (end_from base (take stay entries))) (drop stay entries) place
found-upper zero low base entries place some most ascend past = absurd (omega (arith, some))
found-upper (suc stay) low base [] place some most ascend past = absurd (omega (arith, most))
found-upper (suc zero) low base (entry ∷ entries) place some most ascend past =
    ap (λ (b : Bool). cond b (Some (range_of low entry, entry))
    (entry_for (Some entry.high) entries place)) past
found-upper (suc (suc stay)) low base (entry ∷ []) place some most ascend past =
    absurd (omega (arith, most))
found-upper (suc (suc stay)) low base (entry ∷ other ∷ entries) place some most ascend past =
    ap (λ (b : Bool). cond b (Some (range_of low entry, entry))
    (entry_for (Some entry.high) (other ∷ entries) place))
    (above-past (Some entry.high) place
    (above-end (Some entry.high) (other ∷ take stay entries) place (omega arith)
    (ascend-taken (suc stay) (Some entry.high) (other ∷ entries) ascend.1)
    (past-above (last_high (other ∷ take stay entries)) place past)))
    ∙ found-upper (suc stay) (Some entry.high) entry.high (other ∷ entries) place (omega arith)
    (omega (arith, most)) ascend.1 past

-- ---- what the other area has

-- Of each interval that is numbered anew, in the other area, no more is allowed than was of the one
-- that its entry had.
abbrev pub AreCopied : KeyedChain → ℕ → ℕ → (ℕ → Block → Type 0) → (ℕ → Block → Type 0) → ℕ
    → List Entry → Type 0
AreCopied part area into may less n entries = (j m : ℕ) (entry : Entry) → m ≡ n + j
    → slice_get entries j ≡ Some entry → (block : Block)
    → may (interval_block (area_of part into) m) block
    → less (entry_block (area_of part area) entry) block

copied-tail : (part : KeyedChain) (area into : ℕ) (may less : ℕ → Block → Type 0) (n : ℕ)
    (entry : Entry) (entries : List Entry) → AreCopied part area into may less n (entry ∷ entries)
    → AreCopied part area into may less (suc n) entries
copied-tail part area into may less n entry entries copied j m other is got =
    copied (suc j) m other (omega (arith, is)) got

-- So what may be found at a place there might be found here,
pub moved-way : (part : KeyedChain) (area into : ℕ) (may less : ℕ → Block → Type 0)
    (place : List ℕ) (item : Option Item) (low : Option (List ℕ)) (n : ℕ) (entries : List Entry)
    → AreCopied part area into may less n entries
    → MayFind may item
    (way_in (area_of part into) place (entry_for low (numbered_from n entries) place))
    → MayFind less item (way_in (area_of part area) place (entry_for low entries place))
moved-way part area into may less place item low n [] copied is = is
moved-way part area into may less place item low n (entry ∷ entries) copied is =
    by_test (is_le (place_cmp place entry.high)) is
    (moved-way part area into may less place item (Some entry.high) (suc n) entries
    (copied-tail part area into may less n entry entries copied))
  where
    numbered : Entry
    numbered = record { intervals = n ∷ []; high = entry.high }

    by_test : (b : Bool)
        → MayFind may item (way_in (area_of part into) place
        (cond b (Some (range_of low numbered, numbered))
        (entry_for (Some entry.high) (numbered_from (suc n) entries) place)))
        → (MayFind may item (way_in (area_of part into) place
        (entry_for (Some entry.high) (numbered_from (suc n) entries) place))
        → MayFind less item (way_in (area_of part area) place
        (entry_for (Some entry.high) entries place)))
        → MayFind less item (way_in (area_of part area) place
        (cond b (Some (range_of low entry, entry)) (entry_for (Some entry.high) entries place)))
    by_test true found more =
        (found.0, copied 0 n entry (omega arith) refl found.0 found.1, found.2)
    by_test false found more = more found

-- and what a crash might leave of the intervals here it may leave there.
pub moved-each : (part : KeyedChain) (area into : ℕ) (old now : Seen)
    (Q R : Range → Block → Type 0) → ((range : Range) (block : Block) → Q range block
    → R range block)
    → (low : Option (List ℕ)) (n : ℕ) (entries : List Entry)
    → AreCopied part area into now.may old.may n entries
    → EachMayLeave (area_of part area) old low entries Q
    → EachMayLeave (area_of part into) now low (numbered_from n entries) R
moved-each part area into old now Q R wider low n [] copied each = tt
moved-each part area into old now Q R wider low n (entry ∷ entries) copied each = (
  λ block may. wider (range_of low entry) block
      (each.0 block (copied 0 n entry (omega arith) refl block may)),
  moved-each part area into old now Q R wider (Some entry.high) (suc n) entries
      (copied-tail part area into now.may old.may n entry entries copied) each.1,
)

-- An interval of a range is one of it in each area of the part.
pub holds-alike : (part : KeyedChain) (area into : ℕ) (range : Range) (block : Block)
    → HoldsRange (area_of part area) range block → HoldsRange (area_of part into) range block
holds-alike part area into range block holds = record {
  spelled = holds.spelled;
  size = holds.size;
  kept = λ d i below. let is = holds.kept d i below in
      record { live = is.live; valid = record { least = is.valid.least; most = is.valid.most } };
  ascends = holds.ascends;
  within = holds.within;
}
