-- Entries in room that was taken once: one that is written after those in use and moved to its
-- position.
use Rattle.std.proofs.Common.{◌≡◌, ◌≢◌, ℕ, ◌+◌, ◌-◌, ◌<◌, ◌≤◌, List, [], ◌∷◌, ◌++◌, length, take}
use Rattle.std.proofs.Common.{drop, sym, ap, ◌∙◌, arith, max, set, subst, get_or, None}
use Rattle.std.proofs.Common.{add-one, add-zero, Bool, true, false, true≢false, ◌⊎◌, ⊎_elim, inl}
use Rattle.std.proofs.Common.{inr}
use Rattle.std.specs.List.{All}
use Rattle.std.specs.Ordering.{is_le}
use Rattle.std.specs.declared.cmp.Ordering.TheVariants.{Less}
use Rattle.std.proofs.Math.Seq.{take-set-lt}
use Rattle.std.proofs.lemmas.List.{take_at, drop_at, drop-take, take_more_set, drop-append-le}
use Rattle.std.proofs.lemmas.List.{length-take, length-drop, length-set, take-set-le}
use Rattle.std.proofs.lemmas.List.{take-map, drop-map, map-append, take-take, length_push, map-set}
use Rattle.std.proofs.lemmas.List.{get_or-map, get_or-take, get_or-drop, get_or_default, drop_more}
use Rattle.std.proofs.lemmas.List.{take-append-drop, set_split}
use Rattle.std.proofs.lemmas.List.Elements.{All-append, All-take, All-drop, All-set, All-cons}
use Rattle.std.proofs.lemmas.List.Elements.{All-get_or}
use Rattle.std.proofs.lemmas.Slice.{take-put_mid}
use borrow.Rule.Slice.PartMut.{mid_of, put_mid}
use Rattle.vr_types.specs.Content.{place_cmp}
use Rattle.vr_types.specs.PlaceBuffer.{PlaceRoom}
use Rattle.vr_space.specs.Room.{AscendLengths, with_length, length_at}
use Rattle.vr_split.specs.Weights.{IsPosition, StandsAt, LengthsRoom, HasNoRoom}
use Rattle.vr_split.specs.declared.weights.Entry.{Entry}
use Rattle.vr_split.specs.Entries.{lengths_seen, HaveBytes, AreReady}
use Rattle.vr_split.proofs.LengthLemmas.{with_length-there, with_length-between, none_there}
use Rattle.vr_split.proofs.LengthLemmas.{ascend-drop, below_last, ascend-with}
use Rattle.vr_split.proofs.Totals.{length_seen}

-- the part that is turned: the entries from the position on, and the new one
turned : (xs : List Entry) (used at : ℕ) (entry : Entry) → at ≤ used → used < length xs
    → mid_of at (used + 1 - at) (set xs used entry) ≡ drop at (take used xs) ++ entry ∷ []
turned xs used at entry order within =
    let all : at + (used + 1 - at) ≡ used + 1 = omega (arith, order) in
    let long : at ≤ length (take used xs) = omega (arith, length-take used xs, order, within) in
    sym (drop-take at (used + 1 - at) (set xs used entry))
    ∙ ap (λ (n : ℕ). drop at (take n (set xs used entry))) all
    ∙ ap (drop at) (take_more_set xs used entry within)
    ∙ drop-append-le at (take used xs) (entry ∷ []) long

-- turned by one, its last comes first
last_first : (part : List Entry) (entry : Entry)
    → drop (length (part ++ entry ∷ []) - 1) (part ++ entry ∷ [])
    ++ take (length (part ++ entry ∷ []) - 1) (part ++ entry ∷ []) ≡ entry ∷ part
last_first part entry =
    let at : length part ≡ length (part ++ entry ∷ []) - 1 =
    omega (arith, length_push part entry) in
    ap (λ (l : List Entry). l ++ take (length (part ++ entry ∷ []) - 1) (part ++ entry ∷ []))
    (drop_at part (entry ∷ []) (length (part ++ entry ∷ []) - 1) at)
    ∙ ap (λ (l : List Entry). entry ∷ l)
    (take_at part (entry ∷ []) (length (part ++ entry ∷ []) - 1) at)

-- the entries after that
pub inserted : (xs ys : List Entry) (used at : ℕ) (entry : Entry) → at ≤ used → used < length xs
    → (ys ≡ drop (length (mid_of at (used + 1 - at) (set xs used entry)) - 1)
    (mid_of at (used + 1 - at) (set xs used entry))
    ++ take (length (mid_of at (used + 1 - at) (set xs used entry)) - 1)
    (mid_of at (used + 1 - at) (set xs used entry)))
    → take (used + 1) (put_mid at (used + 1 - at) (set xs used entry) ys)
    ≡ take at xs ++ entry ∷ drop at (take used xs)
inserted xs ys used at entry order within after =
    let part = turned xs used at entry order within in
    let now : ys ≡ entry ∷ drop at (take used xs) = after
    ∙ ap (λ (l : List Entry). drop (length l - 1) l ++ take (length l - 1) l) part
    ∙ last_first (drop at (take used xs)) entry in
    let size : used + 1 ≡ at + length ys =
    omega (
      arith,
      ap length now,
      length-drop at (take used xs),
      length-take used xs,
      order,
      within,
    ) in
    let inside : at ≤ length (set xs used entry) =
    omega (arith, length-set xs used entry, order, within) in
    take-put_mid at (used + 1 - at) (set xs used entry) ys (used + 1) size inside
    ∙ ap (λ (l : List Entry). l ++ ys) (take-set-le at xs used entry order)
    ∙ ap (λ (l : List Entry). take at xs ++ l) now

abbrev seen : Entry → List ℕ × ℕ
seen entry = (entry.place.place, entry.longest)

-- their places with the lengths
pub inserted_seen : (xs ys : List Entry) (used at : ℕ) (entry : Entry) → at ≤ used
    → take (used + 1) ys ≡ take at xs ++ entry ∷ drop at (take used xs)
    → lengths_seen (take (used + 1) ys) ≡ take at (lengths_seen (take used xs))
    ++ (entry.place.place, entry.longest) ∷ drop at (lengths_seen (take used xs))
inserted_seen xs ys used at entry order now =
    ap lengths_seen now
    ∙ map-append seen (take at xs) (entry ∷ drop at (take used xs))
    ∙ ap (λ (l : List (List ℕ × ℕ)). l ++ seen entry ∷ lengths_seen (drop at (take used xs)))
    (sym (ap lengths_seen (take-take at used xs order)) ∙ sym (take-map seen at (take used xs)))
    ∙ ap (λ (l : List (List ℕ × ℕ)). take at (lengths_seen (take used xs)) ++ seen entry ∷ l)
    (sym (drop-map seen at (take used xs)))

-- each still has its room
pub inserted_bytes : (bytes : ℕ) (xs ys : List Entry) (used at : ℕ) (entry : Entry)
    → HaveBytes bytes xs → entry.place.room ≡ bytes
    → (ys ≡ drop (length (mid_of at (used + 1 - at) (set xs used entry)) - 1)
    (mid_of at (used + 1 - at) (set xs used entry))
    ++ take (length (mid_of at (used + 1 - at) (set xs used entry)) - 1)
    (mid_of at (used + 1 - at) (set xs used entry)))
    → HaveBytes bytes (put_mid at (used + 1 - at) (set xs used entry) ys)
inserted_bytes bytes xs ys used at entry have room after =
    let P : Entry → Type 0 = λ e. e.place.room ≡ bytes in
    let now : HaveBytes bytes (set xs used entry) = All-set P xs used entry room have in
    let part : HaveBytes bytes (mid_of at (used + 1 - at) (set xs used entry)) =
    All-take P (used + 1 - at) (drop at (set xs used entry))
    (All-drop P at (set xs used entry) now) in
    let n = length (mid_of at (used + 1 - at) (set xs used entry)) - 1 in
    let turn : HaveBytes bytes ys =
    subst (HaveBytes bytes) (sym after) (All-append P _ _ (All-drop P n _ part)
    (All-take P n _ part)) in
    All-append P (take at (set xs used entry)) _ (All-take P at (set xs used entry) now)
    (All-append P ys _ turn (All-drop P (used + 1 - at) (drop at (set xs used entry))
    (All-drop P at (set xs used entry) now)))

-- the place of an entry in use
pub seen_at : (xs : List Entry) (used at : ℕ) (entry : Entry) (d : List ℕ × ℕ) → at < used
    → used ≤ length xs → entry ≡ get_or xs at entry
    → get_or (lengths_seen (take used xs)) at d ≡ (entry.place.place, entry.longest)
seen_at xs used at entry d order within read =
    get_or-map seen (take used xs) at entry d (omega (arith, length-take used xs, order, within))
    ∙ ap seen (get_or-take used xs at entry order ∙ sym read)

-- an entry in use that is lengthened
pub lengthened : (xs : List Entry) (used at : ℕ) (entry new : Entry) (longest : ℕ)
    → IsPosition (lengths_seen (take used xs)) entry.place.place at → at < used
    → used ≤ length xs → entry ≡ get_or xs at entry → new.place ≡ entry.place
    → new.longest ≡ max longest entry.longest
    → lengths_seen (take used (set xs at new))
    ≡ with_length (lengths_seen (take used xs)) entry.place.place longest
lengthened xs used at entry new longest position order within read place length_is =
    let all = lengths_seen (take used xs) in
    let inside : at < length all =
    omega (arith, length-take used xs, order, within, length_seen (take used xs)) in
    let here : drop at all ≡ seen entry ∷ drop (at + 1) all =
    drop_more all at (seen entry) inside
    ∙ ap (λ (e : List ℕ × ℕ). e ∷ drop (at + 1) all)
    (seen_at xs used at entry (seen entry) order within read) in
    let split : take at all ++ seen entry ∷ drop (at + 1) all ≡ all =
    ap (λ (l : List (List ℕ × ℕ)). take at all ++ l) (sym here) ∙ take-append-drop at all in
    ap lengths_seen (take-set-lt used xs at new order)
    ∙ map-set seen (take used xs) at new
    ∙ ap (λ (e : List ℕ × ℕ). set all at e)
    (ap (λ (p : PlaceRoom). (p.place, new.longest)) place
    ∙ ap (λ (n : ℕ). (entry.place.place, n)) length_is)
    ∙ set_split all at (entry.place.place, max longest entry.longest) inside
    ∙ ap (λ (n : ℕ). take at all ++ (entry.place.place, max longest entry.longest) ∷ drop n all)
    (sym (add-one at))
    ∙ sym (with_length-there (take at all) (drop (at + 1) all) entry.place.place longest
    entry.longest position.below)
    ∙ ap (λ (l : List (List ℕ × ℕ)). with_length l entry.place.place longest) split

-- the first of those past it is another
not_first : (lengths : List (List ℕ × ℕ)) (place : List ℕ) (at : ℕ)
    → (StandsAt lengths at place → ⊥) → (d : List ℕ × ℕ) → 0 < length (drop at lengths)
    → (get_or (drop at lengths) 0 d).0 ≢ place
not_first lengths place at other d some same =
    let inside : at < length lengths = omega (arith, some, length-drop at lengths) in
    other (
      inside,
      λ e. ap (λ (x : List ℕ × ℕ). x.0) (get_or_default lengths at e d inside
          ∙ ap (λ (n : ℕ). get_or lengths n d) (sym (add-zero at))
          ∙ sym (get_or-drop at lengths 0 d)) ∙ same,
    )

-- a place that isn't there and is put at its position
pub put_between : (lengths : List (List ℕ × ℕ)) (place : List ℕ) (at longest : ℕ)
    → IsPosition lengths place at → (StandsAt lengths at place → ⊥)
    → take at lengths ++ (place, longest) ∷ drop at lengths ≡ with_length lengths place longest
put_between lengths place at longest position other =
    sym (with_length-between (take at lengths) (drop at lengths) place longest position.below
    position.past (not_first lengths place at other))
    ∙ ap (λ (l : List (List ℕ × ℕ)). with_length l place longest) (take-append-drop at lengths)

-- it isn't there
pub absent : (lengths : List (List ℕ × ℕ)) (place : List ℕ) (at : ℕ) → AscendLengths lengths
    → IsPosition lengths place at → (StandsAt lengths at place → ⊥)
    → length_at lengths place ≡ None
absent lengths place at ascend position other =
    ap (λ (l : List (List ℕ × ℕ)). length_at l place) (sym (take-append-drop at lengths))
    ∙ none_there (take at lengths) (drop at lengths) place (ascend-drop at lengths ascend)
    position.below position.past (not_first lengths place at other)

-- the place of the last entry is below, and so are all before it
pub position_after : (entries : List Entry) (place : List ℕ) (i : ℕ) (last : Entry)
    → AscendLengths (lengths_seen entries) → i < length entries → last ≡ get_or entries i last
    → place_cmp last.place.place place ≡ Less
    → All (λ (entry : List ℕ × ℕ). place_cmp entry.0 place ≡ Less)
    (take (i + 1) (lengths_seen entries))
position_after entries place i last ascend within read less =
    subst (λ (n : ℕ). All (λ (entry : List ℕ × ℕ). place_cmp entry.0 place ≡ Less)
    (take n (lengths_seen entries))) (sym (add-one i))
    (below_last (lengths_seen entries) place i (seen last) ascend
    (omega (arith, within, length_seen entries))
    (sym (get_or-map seen entries i last (seen last) within ∙ ap seen (sym read))) less)

-- one more entry whose place is past
pub past_more : (entries : List Entry) (place : List ℕ) (i : ℕ) (entry : Entry)
    → i < length entries → entry ≡ get_or entries i entry
    → is_le (place_cmp place entry.place.place) ≡ true
    → All (λ (e : List ℕ × ℕ). is_le (place_cmp place e.0) ≡ true)
    (drop (i + 1) (lengths_seen entries))
    → All (λ (e : List ℕ × ℕ). is_le (place_cmp place e.0) ≡ true)
    (drop i (lengths_seen entries))
past_more entries place i entry within read le past =
    let P : List ℕ × ℕ → Type 0 = λ e. is_le (place_cmp place e.0) ≡ true in
    subst (All P) (sym (drop_more (lengths_seen entries) i (seen entry)
    (omega (arith, within, length_seen entries))
    ∙ ap (λ (e : List ℕ × ℕ). e ∷ drop (i + 1) (lengths_seen entries))
    (get_or-map seen entries i entry (seen entry) within ∙ ap seen (sym read))))
    (All-cons P (seen entry) (drop (i + 1) (lengths_seen entries)) le past)

-- what is seen of entries in use
abbrev pub room_seen : List Entry → ℕ → ℕ → LengthsRoom
room_seen entries used bytes =
    record {
      lengths = lengths_seen (take used entries);
      count = length entries;
      bytes = bytes;
    }

-- with a place more, or a longer one
abbrev pub with_place : LengthsRoom → List ℕ → ℕ → LengthsRoom
with_place room place longest =
    record {
      lengths = with_length room.lengths place longest;
      count = room.count;
      bytes = room.bytes;
    }

-- the entries after a call, and what is seen of them
pub record IsPlaced (old new : List Entry) (used used_new bytes : ℕ) (place : List ℕ) (longest : ℕ)
    : Type 0 where
  pub ready : AreReady new used_new bytes
  pub seen : room_seen new used_new bytes ≡ with_place (room_seen old used bytes) place longest

-- one is lengthened
pub placed_there : (xs : List Entry) (used bytes at : ℕ) (place : List ℕ) (longest : ℕ)
    → (entry new : Entry) → AreReady xs used bytes
    → IsPosition (lengths_seen (take used xs)) place at
    → StandsAt (lengths_seen (take used xs)) at place → entry ≡ get_or xs at entry
    → (new ≡ record { place = entry.place; longest = max longest entry.longest })
    → IsPlaced xs (set xs at new) used used bytes place longest
placed_there xs used bytes at place longest entry new ready position stands read is =
    let order : at < used =
    omega (arith, stands.0, length_seen (take used xs), length-take used xs) in
    let inside : at < length xs = omega (arith, order, ready.within) in
    let here : entry.place.place ≡ place =
    ap (λ (e : List ℕ × ℕ). e.0)
    (sym (seen_at xs used at entry (seen entry) order ready.within read))
    ∙ stands.1 (seen entry) in
    let now : lengths_seen (take used (set xs at new))
    ≡ with_length (lengths_seen (take used xs)) place longest =
    lengthened xs used at entry new longest
    (subst (λ (p : List ℕ). IsPosition (lengths_seen (take used xs)) p at) (sym here) position)
    order ready.within read (ap (λ (e : Entry). e.place) is)
    (ap (λ (e : Entry). e.longest) is)
    ∙ ap (λ (p : List ℕ). with_length (lengths_seen (take used xs)) p longest) here in
    let P : Entry → Type 0 = λ e. e.place.room ≡ bytes in
    record {
      ready = record {
        within = omega (arith, ready.within, length-set xs at new);
        few = omega (arith, ready.few, length-set xs at new);
        room = All-set P xs at new
            (ap (λ (e : Entry). e.place.room) is
            ∙ ap (λ (e : Entry). e.place.room) read
            ∙ All-get_or P xs at entry inside ready.room) ready.room;
        ascend = subst AscendLengths (sym now)
            (ascend-with (lengths_seen (take used xs)) place longest ready.ascend);
      };
      seen = ap (λ (l : List (List ℕ × ℕ)). let room : LengthsRoom = record {
        lengths = l;
        count =
            length (set xs at new);
        bytes = bytes;
      } in room) now
          ∙ ap (λ (n : ℕ). let room : LengthsRoom = record {
            lengths = with_length (lengths_seen (take used xs)) place longest;
            count =
                n;
            bytes = bytes;
          } in room) (length-set xs at new);
    }

-- one more is in use
pub placed_new : (xs ys : List Entry) (used bytes at : ℕ) (place : List ℕ) (longest : ℕ)
    → AreReady xs used bytes → IsPosition (lengths_seen (take used xs)) place at
    → (StandsAt (lengths_seen (take used xs)) at place → ⊥) → used < length xs
    → length ys ≡ length xs → HaveBytes bytes ys
    → (lengths_seen (take (used + 1) ys) ≡ take at (lengths_seen (take used xs))
    ++ (place, longest) ∷ drop at (lengths_seen (take used xs)))
    → IsPlaced xs ys used (used + 1) bytes place longest
placed_new xs ys used bytes at place longest ready position other free count have inserted =
    let now : lengths_seen (take (used + 1) ys)
    ≡ with_length (lengths_seen (take used xs)) place longest = inserted
    ∙ put_between (lengths_seen (take used xs)) place at longest position other in
    record {
      ready = record {
        within = omega (arith, free, count);
        few = omega (arith, ready.few, count);
        room = have;
        ascend = subst AscendLengths (sym now)
            (ascend-with (lengths_seen (take used xs)) place longest ready.ascend);
      };
      seen = ap (λ (l : List (List ℕ × ℕ)). let room : LengthsRoom = record {
        lengths = l;
        count =
            length ys;
        bytes = bytes;
      } in room) now
          ∙ ap (λ (n : ℕ). let room : LengthsRoom = record {
            lengths = with_length (lengths_seen (take used xs)) place longest;
            count =
                n;
            bytes = bytes;
          } in room) count;
    }

-- the position that was found in a slice of the entries
pub position_read : (xs items : List Entry) (used at : ℕ) (place : List ℕ) → xs ≡ items
    → AscendLengths (lengths_seen (take used items))
    → (AscendLengths (lengths_seen (take used xs))
    → IsPosition (lengths_seen (take used xs)) place at)
    → IsPosition (lengths_seen (take used items)) place at
position_read xs items used at place same ascend found =
    subst (λ (l : List Entry). IsPosition (lengths_seen (take used l)) place at) same
    (found (subst (λ (l : List Entry). AscendLengths (lengths_seen (take used l))) (sym same)
    ascend))

-- it doesn't stand there
pub not_there : (xs items : List Entry) (used at : ℕ) (place : List ℕ) (found : Bool)
    → xs ≡ items → found ≡ false → (StandsAt (lengths_seen (take used xs)) at place → found ≡ true)
    → StandsAt (lengths_seen (take used items)) at place → ⊥
not_there xs items used at place found same none says stands =
    true≢false (sym (says
    (subst (λ (l : List Entry). StandsAt (lengths_seen (take used l)) at place)
    (sym same) stands)) ∙ none)

-- there is no room for it
pub no_room : (items : List Entry) (used bytes at : ℕ) (place : List ℕ) (seen : LengthsRoom)
    → AreReady items used bytes → IsPosition (lengths_seen (take used items)) place at
    → (StandsAt (lengths_seen (take used items)) at place → ⊥)
    → (used ≡ length items) ⊎ (bytes < length place) → room_seen items used bytes ≡ seen
    → HasNoRoom seen place
no_room items used bytes at place seen ready position other full is =
    subst (λ (r : LengthsRoom). HasNoRoom r place) is (record {
      absent = absent (lengths_seen (take used items)) place at ready.ascend position other;
      full = ⊎_elim (λ all. inl (omega (
        arith,
        all,
        length_seen (take used items),
        length-take used items,
      )))
          (λ long. inr long) full;
    })

-- one more is in use, put into a slice of the entries
pub placed_in : (xs ds ys zs : List Entry) (used bytes at : ℕ) (place : List ℕ) (longest : ℕ)
    → AreReady xs used bytes → IsPosition (lengths_seen (take used xs)) place at
    → (StandsAt (lengths_seen (take used xs)) at place → ⊥) → (used ≡ length xs → ⊥) → ds ≡ xs
    → length ys ≡ length ds → ((b : ℕ) → HaveBytes b ds → HaveBytes b ys)
    → (lengths_seen (take (used + 1) ys) ≡ take at (lengths_seen (take used ds))
    ++ (place, longest) ∷ drop at (lengths_seen (take used ds)))
    → zs ≡ ys
    → IsPlaced xs zs used (used + 1) bytes place longest
placed_in xs ds ys zs used bytes at place longest ready position other free same count have inserted
    now =
    let free_is : used < length xs = omega (arith, free, ready.within) in
    subst (λ (l : List Entry). IsPlaced xs l used (used + 1) bytes place longest) (sym now)
    (placed_new xs ys used bytes at place longest ready position other free_is
    (count ∙ ap length same) (have bytes (subst (HaveBytes bytes) (sym same) ready.room))
    (inserted
    ∙ ap (λ (l : List Entry). take at (lengths_seen (take used l))
    ++ (place, longest) ∷ drop at (lengths_seen (take used l))) same))
