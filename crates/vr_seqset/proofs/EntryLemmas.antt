-- Entries that are read are spelled so, and entries that are spelled are read.
use Rattle.std.proofs.Common.{◌≡◌, ℕ, zero, suc, ◌+◌, ◌-◌, ◌*◌, ◌/◌, ◌^◌, ◌<◌, ◌≤◌, List, [], ◌∷◌}
use Rattle.std.proofs.Common.{◌++◌, length, get_or, take, drop, All, Some, refl, sym, ap, subst}
use Rattle.std.proofs.Common.{◌∙◌, arith, append_assoc}
use Rattle.std.specs.List.{flat_map, slice_get}
use Rattle.std.proofs.lemmas.List.{take-append-drop, drop-drop, length-drop, length-take}
use Rattle.std.proofs.lemmas.List.{length-append, take_at, drop_at, take-take, drop-take}
use Rattle.std.proofs.lemmas.List.Elements.{All-tail, All-head, All-cons, All-nil}
use Rattle.vr_types.specs.Fields.{two, two_at}
use Rattle.vr_seqset.specs.Entry.{Entry, entry_bytes, IsWhole, numbers_in, entry_in, entries_in}
use Rattle.vr_types.specs.Fields.{IsBytes}
use Rattle.vr_types.proofs.CallerLemmas.{IsBytes-drop, cut_two, length-two, two_at-two, drop-two}

pub length-numbers_in : (n : ℕ) (bytes : List ℕ) → length (numbers_in n bytes) ≡ n
unfolding numbers_in
length-numbers_in zero bytes = refl
length-numbers_in (suc n) bytes = ap suc (length-numbers_in n (drop 2 bytes))

pub length-entries_in : (n place : ℕ) (bytes : List ℕ) → length (entries_in n place bytes) ≡ n
unfolding entries_in
length-entries_in zero place bytes = refl
length-entries_in (suc n) place bytes =
    ap suc (length-entries_in n place (drop (2 + 2 * two_at 0 bytes + place) bytes))

-- ---- what is read is spelled so

pub numbers_again : (n : ℕ) (bytes : List ℕ) → IsBytes bytes → 2 * n ≤ length bytes
    → bytes ≡ flat_map two (numbers_in n bytes) ++ drop (2 * n) bytes
unfolding numbers_in
numbers_again zero bytes fits le = refl
numbers_again (suc n) bytes fits le =
    let front : bytes ≡ two (two_at 0 bytes) ++ drop 2 bytes = cut_two 0 bytes fits (omega arith) in
    let others : drop 2 bytes ≡ flat_map two (numbers_in n (drop 2 bytes))
    ++ drop (2 * n) (drop 2 bytes) = numbers_again n (drop 2 bytes) (IsBytes-drop 2 bytes fits)
    (omega (arith, length-drop 2 bytes)) in
    let place : drop (2 * n) (drop 2 bytes) ≡ drop (2 * suc n) bytes =
    drop-drop (2 * n) 2 bytes ∙ ap (λ (m : ℕ). drop m bytes) (omega arith) in
    front ∙ ap (λ (x : List ℕ). two (two_at 0 bytes) ++ x)
    (others ∙ ap (λ (x : List ℕ). flat_map two (numbers_in n (drop 2 bytes)) ++ x) place)
    ∙ sym (append_assoc (two (two_at 0 bytes)) (flat_map two (numbers_in n (drop 2 bytes)))
    (drop (2 * suc n) bytes))

-- a whole entry lies in the bytes
pub whole_within : (place : ℕ) (bytes : List ℕ) → 0 < place → IsWhole place (entry_in place bytes)
    → 2 + 2 * two_at 0 bytes + place ≤ length bytes
unfolding entry_in
whole_within place bytes pos whole =
    omega (
      arith,
      whole.high,
      length-take place (drop (2 + 2 * two_at 0 bytes) bytes),
      length-drop (2 + 2 * two_at 0 bytes) bytes,
    )

pub length-entry_bytes : (e : Entry) → length (entry_bytes e) ≡ 2 + length
    (flat_map two e.intervals) + length e.high
unfolding entry_bytes
length-entry_bytes e =
    omega (
      arith,
      length-append (two (length e.intervals) ++ flat_map two e.intervals) e.high,
      length-append (two (length e.intervals)) (flat_map two e.intervals),
      length-two (length e.intervals),
    )

pub length-twos : (ns : List ℕ) → length (flat_map two ns) ≡ 2 * length ns
length-twos [] = refl
length-twos (n ∷ ns) =
    omega (arith, length-append (two n) (flat_map two ns), length-two n, length-twos ns)

pub entry_again : (place : ℕ) (bytes : List ℕ) → IsBytes bytes → 0 < place
    → IsWhole place (entry_in place bytes)
    → bytes ≡ entry_bytes (entry_in place bytes) ++ drop (2 + 2 * two_at 0 bytes + place) bytes
unfolding entry_in entry_bytes
entry_again place bytes fits pos whole =
    let n = two_at 0 bytes in
    let within = whole_within place bytes pos whole in
    let numbers = numbers_in (two_at 0 bytes) (drop 2 bytes) in
    let count : length (numbers_in (two_at 0 bytes) (drop 2 bytes)) ≡ two_at 0 bytes =
    length-numbers_in (two_at 0 bytes) (drop 2 bytes) in
    let front : bytes ≡ two (two_at 0 bytes) ++ drop 2 bytes = cut_two 0 bytes fits (omega arith) in
    let middle : drop 2 bytes ≡ flat_map two numbers ++ drop (2 * n) (drop 2 bytes) =
    numbers_again n (drop 2 bytes) (IsBytes-drop 2 bytes fits)
    (omega (arith, length-drop 2 bytes)) in
    let place-is : drop (2 * n) (drop 2 bytes) ≡ drop (2 + 2 * n) bytes =
    drop-drop (2 * n) 2 bytes in
    let last : drop (2 + 2 * n) bytes ≡ take place (drop (2 + 2 * n) bytes)
    ++ drop (2 + 2 * n + place) bytes = sym (take-append-drop place (drop (2 + 2 * n) bytes))
    ∙ ap (λ (x : List ℕ). take place (drop (2 + 2 * n) bytes) ++ x)
    (drop-drop place (2 + 2 * n) bytes) in
    front
    ∙ ap (λ (x : List ℕ). two (two_at 0 bytes) ++ x)
    (middle ∙ ap (λ (x : List ℕ). flat_map two numbers ++ x) (place-is ∙ last))
    ∙ ap (λ (m : ℕ). two m ++ (flat_map two numbers
    ++ (take place (drop (2 + 2 * n) bytes) ++ drop (2 + 2 * n + place) bytes))) (sym count)
    ∙ sym (append_assoc (two (length numbers)) (flat_map two numbers)
    (take place (drop (2 + 2 * n) bytes) ++ drop (2 + 2 * n + place) bytes))
    ∙ sym (append_assoc (two (length numbers) ++ flat_map two numbers)
    (take place (drop (2 + 2 * n) bytes)) (drop (2 + 2 * n + place) bytes))

pub entries_again : (n place : ℕ) (bytes : List ℕ) → IsBytes bytes → 0 < place
    → All (IsWhole place) (entries_in n place bytes)
    → (rest : List ℕ) × (bytes ≡ flat_map entry_bytes (entries_in n place bytes) ++ rest)
unfolding entries_in
entries_again zero place bytes fits pos whole = (bytes, refl)
entries_again (suc n) place bytes fits pos whole =
    let behind = drop (2 + 2 * two_at 0 bytes + place) bytes in
    let front = entry_again place bytes fits pos
    (All-head (IsWhole place) (entry_in place bytes) (entries_in n place behind) whole) in
    let others = entries_again n place behind
    (IsBytes-drop (2 + 2 * two_at 0 bytes + place) bytes fits) pos
    (All-tail (IsWhole place) (entry_in place bytes) (entries_in n place behind) whole) in (
      others.0,
      front ∙ ap (λ (x : List ℕ). entry_bytes (entry_in place bytes) ++ x) others.1
          ∙ sym (append_assoc (entry_bytes (entry_in place bytes))
          (flat_map entry_bytes (entries_in n place behind)) others.0),
    )

-- ---- what is spelled is read

-- an entry that has a spelling, with a high place of the length
pub record CanBeSpelled (place : ℕ) (e : Entry) : Type 0 where
  pub count : length e.intervals < 2 ^ 16
  pub numbers : All (λ n. n < 2 ^ 16) e.intervals
  pub high : length e.high ≡ place

pub numbers_back : (ns rest : List ℕ) → All (λ n. n < 2 ^ 16) ns
    → numbers_in (length ns) (flat_map two ns ++ rest) ≡ ns
unfolding numbers_in
numbers_back [] rest fits = refl
numbers_back (n ∷ ns) rest fits =
    let grouped : flat_map two (n ∷ ns) ++ rest ≡ two n ++ (flat_map two ns ++ rest) =
    append_assoc (two n) (flat_map two ns) rest in
    let first : two_at 0 (flat_map two (n ∷ ns) ++ rest) ≡ n =
    ap (two_at 0) grouped ∙ two_at-two n (flat_map two ns ++ rest)
    (All-head (λ (m : ℕ). m < 2 ^ 16) n ns fits) in
    let behind : drop 2 (flat_map two (n ∷ ns) ++ rest) ≡ flat_map two ns ++ rest =
    ap (drop 2) grouped ∙ drop-two n (flat_map two ns ++ rest) in
    ap (λ (m : ℕ). m ∷ numbers_in (length ns) (drop 2 (flat_map two (n ∷ ns) ++ rest))) first
    ∙ ap (λ (x : List ℕ). n ∷ numbers_in (length ns) x) behind
    ∙ ap (λ (x : List ℕ). n ∷ x) (numbers_back ns rest (All-tail (λ (m : ℕ). m < 2 ^ 16) n ns fits))

-- the parts of an entry's bytes
entry_parts : (e : Entry) (rest : List ℕ)
    → entry_bytes e ++ rest ≡ two (length e.intervals)
    ++ (flat_map two e.intervals ++ (e.high ++ rest))
unfolding entry_bytes
entry_parts e rest =
    append_assoc (two (length e.intervals) ++ flat_map two e.intervals) e.high rest
    ∙ append_assoc (two (length e.intervals)) (flat_map two e.intervals) (e.high ++ rest)

pub count_back : (place : ℕ) (e : Entry) (rest : List ℕ) → CanBeSpelled place e
    → two_at 0 (entry_bytes e ++ rest) ≡ length e.intervals
count_back place e rest fits = ap (two_at 0) (entry_parts e rest)
    ∙ two_at-two (length e.intervals) (flat_map two e.intervals ++ (e.high ++ rest)) fits.count

pub entry_back : (place : ℕ) (e : Entry) (rest : List ℕ) → CanBeSpelled place e
    → entry_in place (entry_bytes e ++ rest) ≡ e
unfolding entry_in
entry_back place e rest fits =
    let whole = entry_bytes e ++ rest in
    let count = count_back place e rest fits in
    let behind : drop 2 (entry_bytes e ++ rest) ≡ flat_map two e.intervals ++ (e.high ++ rest) =
    ap (drop 2) (entry_parts e rest) ∙ drop-two (length e.intervals)
    (flat_map two e.intervals ++ (e.high ++ rest)) in
    let numbers : numbers_in (two_at 0 (entry_bytes e ++ rest))
    (drop 2 (entry_bytes e ++ rest)) ≡ e.intervals =
    rw (count, behind) (numbers_back e.intervals (e.high ++ rest) fits.numbers) in
    let at_high : drop (2 + 2 * two_at 0 (entry_bytes e ++ rest)) (entry_bytes e ++ rest) ≡ e.high
    ++ rest =
    ap (λ (n : ℕ). drop (2 + 2 * n) (entry_bytes e ++ rest)) count
    ∙ sym (drop-drop (2 * length e.intervals) 2 (entry_bytes e ++ rest))
    ∙ ap (drop (2 * length e.intervals)) behind
    ∙ drop_at (flat_map two e.intervals) (e.high ++ rest) (2 * length e.intervals)
    (length-twos e.intervals) in
    let high : take place (drop (2 + 2 * two_at 0 (entry_bytes e ++ rest)) (entry_bytes e ++ rest))
    ≡ e.high = ap (take place) at_high ∙ take_at e.high rest place fits.high in
    ap (λ (ns : List ℕ). record {
      intervals = ns;
      high = take place (drop (2 + 2 * two_at 0 (entry_bytes e ++ rest)) (entry_bytes e ++ rest));
    }) numbers
    ∙ ap (λ (h : List ℕ). record { intervals = e.intervals; high = h }) high

-- the bytes after an entry
pub behind_entry : (place : ℕ) (e : Entry) (rest : List ℕ) → CanBeSpelled place e
    → drop (2 + 2 * two_at 0 (entry_bytes e ++ rest) + place) (entry_bytes e ++ rest) ≡ rest
behind_entry place e rest fits =
    drop_at (entry_bytes e) rest (2 + 2 * two_at 0 (entry_bytes e ++ rest) + place)
    (omega (
      arith,
      length-entry_bytes e,
      length-twos e.intervals,
      count_back place e rest fits,
      fits.high,
    ))

pub entries_back : (place : ℕ) (es : List Entry) (rest : List ℕ) → All (CanBeSpelled place) es
    → entries_in (length es) place (flat_map entry_bytes es ++ rest) ≡ es
unfolding entries_in
entries_back place [] rest fits = refl
entries_back place (e ∷ es) rest fits =
    let others = flat_map entry_bytes es ++ rest in
    let one = All-head (CanBeSpelled place) e es fits in
    let grouped : flat_map entry_bytes (e ∷ es) ++ rest ≡ entry_bytes e
    ++ (flat_map entry_bytes es ++ rest) =
    append_assoc (entry_bytes e) (flat_map entry_bytes es) rest in
    ap (entries_in (suc (length es)) place) grouped
    ∙ ap (λ (x : Entry). x ∷ entries_in (length es) place
    (drop (2 + 2 * two_at 0 (entry_bytes e ++ others) + place) (entry_bytes e ++ others)))
    (entry_back place e others one)
    ∙ ap (λ (x : List ℕ). e ∷ entries_in (length es) place x) (behind_entry place e others one)
    ∙ ap (λ (x : List Entry). e ∷ x) (entries_back place es rest
    (All-tail (CanBeSpelled place) e es fits))

-- ---- single numbers

pub two_at-drop : (at n : ℕ) (bytes : List ℕ) → two_at at (drop n bytes) ≡ two_at (n + at) bytes
unfolding two_at
two_at-drop at n bytes = rw drop-drop refl

pub numbers_at : (n : ℕ) (bytes : List ℕ) (j : ℕ) → j < n
    → get_or (numbers_in n bytes) j 0 ≡ two_at (2 * j) bytes
unfolding numbers_in
numbers_at zero bytes j lt = absurd (omega arith)
numbers_at (suc n) bytes zero lt = refl
numbers_at (suc n) bytes (suc j) lt = numbers_at n (drop 2 bytes) j (omega arith)
    ∙ two_at-drop (2 * j) 2 bytes ∙ ap (λ (m : ℕ). two_at m bytes) (omega arith)

pub ruleset single = (length-numbers_in, numbers_at)

-- ---- parts of an entry, as slices have them

two_at-take : (m : ℕ) (bytes : List ℕ) → 2 ≤ m → two_at 0 (take m bytes) ≡ two_at 0 bytes
unfolding two_at
two_at-take m bytes le = rw take-take refl

pub numbers_take : (n m : ℕ) (bytes : List ℕ) → 2 * n ≤ m
    → numbers_in n (take m bytes) ≡ numbers_in n bytes
unfolding numbers_in
numbers_take zero m bytes le = refl
numbers_take (suc n) m bytes le =
    let more : 2 + (m - 2) ≡ m = omega arith in
    let behind : drop 2 (take m bytes) ≡ take (m - 2) (drop 2 bytes) =
    ap (λ (k : ℕ). drop 2 (take k bytes)) (sym more) ∙ drop-take 2 (m - 2) bytes in
    ap (λ (k : ℕ). k ∷ numbers_in n (drop 2 (take m bytes))) (two_at-take m bytes (omega arith))
    ∙ ap (λ (x : List ℕ). two_at 0 bytes ∷ numbers_in n x) behind
    ∙ ap (λ (x : List ℕ). two_at 0 bytes ∷ x) (numbers_take n (m - 2) (drop 2 bytes) (omega arith))

pub entry_of_parts : (place n : ℕ) (bytes behind numbers high : List ℕ) → n ≡ two_at 0 bytes
    → behind ≡ drop 2 bytes → numbers ≡ take (2 * n) behind → length numbers ≡ 2 * n
    → high ≡ take place (drop (2 * n) behind)
    → record {
      intervals = numbers_in (length numbers / 2) numbers;
      high =
          high;
    } ≡ entry_in place bytes
unfolding entry_in
entry_of_parts place n bytes behind numbers high n-is behind-is numbers-is len high-is =
    let half : length numbers / 2 ≡ n = omega arith in
    let first : numbers_in (length numbers / 2) numbers ≡ numbers_in (two_at 0 bytes)
    (drop 2 bytes) =
    ap (λ (k : ℕ). numbers_in k numbers) half ∙ ap (numbers_in n) numbers-is
    ∙ numbers_take n (2 * n) behind (omega arith) ∙ ap (numbers_in n) behind-is
    ∙ ap (λ (k : ℕ). numbers_in k (drop 2 bytes)) n-is in
    let second : high ≡ take place (drop (2 + 2 * two_at 0 bytes) bytes) =
    high-is ∙ ap (λ (x : List ℕ). take place (drop (2 * n) x)) behind-is
    ∙ ap (take place) (drop-drop (2 * n) 2 bytes)
    ∙ ap (λ (k : ℕ). take place (drop (2 + 2 * k) bytes)) n-is in
    ap (λ (ns : List ℕ). record { intervals = ns; high = high }) first
    ∙ ap (λ (h : List ℕ). record {
      intervals = numbers_in (two_at 0 bytes) (drop 2 bytes);
      high = h;
    }) second

-- ---- whether entries are whole

pub some_within : (high place : ℕ) (bytes : List ℕ) → IsWhole high (entry_in place bytes)
    → 0 < two_at 0 bytes
unfolding entry_in
some_within high place bytes whole = omega
    (arith, whole.some, length-numbers_in (two_at 0 bytes) (drop 2 bytes))

pub is_whole : (place : ℕ) (bytes : List ℕ) → 0 < two_at 0 bytes
    → 2 + 2 * two_at 0 bytes + place ≤ length bytes → IsWhole place (entry_in place bytes)
unfolding entry_in
is_whole place bytes some within = record {
  some = omega (arith, length-numbers_in (two_at 0 bytes) (drop 2 bytes));
  high = omega (
    arith,
    length-take place (drop (2 + 2 * two_at 0 bytes) bytes),
    length-drop (2 + 2 * two_at 0 bytes) bytes,
  );
}

pub first_whole : (n high place : ℕ) (bytes : List ℕ) → 0 < n
    → All (IsWhole high) (entries_in n place bytes) → IsWhole high (entry_in place bytes)
unfolding entries_in
first_whole zero high place bytes pos whole = absurd (omega arith)
first_whole (suc n) high place bytes pos whole =
    All-head (IsWhole high) (entry_in place bytes)
    (entries_in n place (drop (2 + 2 * two_at 0 bytes + place) bytes)) whole

pub whole_front : (n place : ℕ) (bytes : List ℕ) → 0 < n
    → All (IsWhole place) (entries_in n place bytes) → IsWhole place (entry_in place bytes)
whole_front n place bytes pos whole = first_whole n place place bytes pos whole

pub whole_rest : (n place : ℕ) (bytes rest : List ℕ)
    → rest ≡ drop (2 + 2 * two_at 0 bytes + place) bytes
    → All (IsWhole place) (entries_in (suc n) place bytes)
    → All (IsWhole place) (entries_in n place rest)
unfolding entries_in
whole_rest n place bytes rest same whole =
    rw same (All-tail (IsWhole place) (entry_in place bytes)
    (entries_in n place (drop (2 + 2 * two_at 0 bytes + place) bytes)) whole)

pub whole_behind : (n place : ℕ) (bytes rest : List ℕ) → 0 < n
    → rest ≡ drop (2 + 2 * two_at 0 bytes + place) bytes
    → All (IsWhole place) (entries_in n place bytes)
    → All (IsWhole place) (entries_in (n - 1) place rest)
whole_behind n place bytes rest pos same whole =
    let more : suc (n - 1) ≡ n = omega arith in
    whole_rest (n - 1) place bytes rest same
    (subst (λ (m : ℕ). All (IsWhole place) (entries_in m place bytes)) (sym more) whole)

pub whole_both : (n place : ℕ) (bytes rest : List ℕ)
    → rest ≡ drop (2 + 2 * two_at 0 bytes + place) bytes → IsWhole place (entry_in place bytes)
    → All (IsWhole place) (entries_in n place rest)
    → All (IsWhole place) (entries_in (suc n) place bytes)
unfolding entries_in
whole_both n place bytes rest same first others =
    All-cons (IsWhole place) (entry_in place bytes)
    (entries_in n place (drop (2 + 2 * two_at 0 bytes + place) bytes)) first (rw (← same) others)

pub ruleset whole_steps = (whole_within, some_within, is_whole)

-- ---- walking over entries

length-whole : (place : ℕ) (bytes : List ℕ) → IsWhole place (entry_in place bytes)
    → length (entry_bytes (entry_in place bytes)) ≡ 2 + 2 * two_at 0 bytes + place
unfolding entry_in
length-whole place bytes whole =
    let numbers = numbers_in (two_at 0 bytes) (drop 2 bytes) in
    omega (
      arith,
      length-entry_bytes (entry_in place bytes),
      length-twos numbers,
      length-numbers_in (two_at 0 bytes) (drop 2 bytes),
      whole.high,
    )

drop-entry : (left place : ℕ) (bytes : List ℕ) → IsWhole place (entry_in place bytes)
    → drop (length (flat_map entry_bytes (entries_in (suc left) place bytes))) bytes ≡ drop
    (length (flat_map entry_bytes (entries_in left place
    (drop (2 + 2 * two_at 0 bytes + place) bytes)))) (drop (2 + 2 * two_at 0 bytes + place) bytes)
unfolding entries_in
drop-entry left place bytes whole =
    let others = entries_in left place (drop (2 + 2 * two_at 0 bytes + place) bytes) in
    let len : length (entry_bytes (entry_in place bytes) ++ flat_map entry_bytes others)
    ≡ 2 + 2 * two_at 0 bytes + place + length (flat_map entry_bytes others) =
    omega (
      arith,
      length-append (entry_bytes (entry_in place bytes)) (flat_map entry_bytes others),
      length-whole place bytes whole,
    ) in
    ap (λ (n : ℕ). drop n bytes) len ∙ sym
    (drop-drop (length (flat_map entry_bytes others)) (2 + 2 * two_at 0 bytes + place) bytes)

-- after some of the entries in bytes that many are left in rest
pub record IsLeft (count place : ℕ) (bytes : List ℕ) (left : ℕ) (rest : List ℕ) : Type 0 where
  pub all : All (IsWhole place) (entries_in left place rest)
      → All (IsWhole place) (entries_in count place bytes)
  pub others : All (IsWhole place) (entries_in count place bytes)
      → All (IsWhole place) (entries_in left place rest)
  pub behind : drop (length (flat_map entry_bytes (entries_in count place bytes))) bytes ≡ drop
      (length (flat_map entry_bytes (entries_in left place rest))) rest

pub IsLeft-next : (count place : ℕ) (bytes : List ℕ) (left fewer : ℕ) (rest after : List ℕ)
    → IsLeft count place bytes left rest → left ≡ suc fewer
    → after ≡ drop (2 + 2 * two_at 0 rest + place) rest → IsWhole place (entry_in place rest)
    → IsLeft count place bytes fewer after
IsLeft-next count place bytes left fewer rest after left_is same after-is whole =
    let at_left : IsLeft count place bytes (suc fewer) rest = rw same at left_is in
    record {
      all = λ others. at_left.all (whole_both fewer place rest after after-is whole others);
      others = λ all. whole_rest fewer place rest after after-is (at_left.others all);
      behind = at_left.behind ∙ drop-entry fewer place rest whole
          ∙ ap (λ (x : List ℕ). drop (length (flat_map entry_bytes (entries_in fewer place x))) x)
          (sym after-is);
    }

pub IsLeft-broken : (count place : ℕ) (bytes : List ℕ) (left : ℕ) (rest : List ℕ)
    → IsLeft count place bytes left rest → 0 < left → (IsWhole place (entry_in place rest) → ⊥)
    → All (IsWhole place) (entries_in count place bytes) → ⊥
IsLeft-broken count place bytes left rest left_is pos broken all =
    broken (whole_front left place rest pos (left_is.others all))

pub IsLeft-none : (count place : ℕ) (bytes : List ℕ) (left : ℕ) (rest : List ℕ)
    → IsLeft count place bytes left rest → left ≡ 0
    → All (IsWhole place) (entries_in count place bytes)
    × (rest ≡ drop (length (flat_map entry_bytes (entries_in count place bytes))) bytes)
unfolding entries_in
IsLeft-none count place bytes left rest left_is same =
    let at_none : IsLeft count place bytes 0 rest = rw same at left_is in
    (at_none.all (All-nil (IsWhole place)), sym at_none.behind)

-- entry i of those in bytes is entry left of those in rest, which are whole
pub record IsAt (place : ℕ) (bytes : List ℕ) (i left : ℕ) (rest : List ℕ) : Type 0 where
  pub whole : All (IsWhole place) (entries_in (suc left) place rest)
  pub same : slice_get (entries_in (suc i) place bytes) i ≡ slice_get
      (entries_in (suc left) place rest) left

pub IsAt-next : (place : ℕ) (bytes : List ℕ) (i left fewer : ℕ) (rest after : List ℕ)
    → IsAt place bytes i left rest → left ≡ suc fewer
    → after ≡ drop (2 + 2 * two_at 0 rest + place) rest → IsAt place bytes i fewer after
unfolding entries_in
IsAt-next place bytes i left fewer rest after at_is equal after-is =
    let at_left : IsAt place bytes i (suc fewer) rest = rw equal at at_is in
    record {
      whole = whole_rest (suc fewer) place rest after after-is at_left.whole;
      same = at_left.same ∙ ap (λ (x : List ℕ). slice_get (entries_in (suc fewer) place x) fewer)
          (sym after-is);
    }

pub IsAt-front : (place : ℕ) (bytes : List ℕ) (i left : ℕ) (rest : List ℕ)
    → IsAt place bytes i left rest → left ≡ 0
    → slice_get (entries_in (suc i) place bytes) i ≡ Some (entry_in place rest)
unfolding entries_in
IsAt-front place bytes i left rest at_is equal =
    let at_front : IsAt place bytes i 0 rest = rw equal at at_is in
    at_front.same

-- ---- the first of many entries

pub whole_fewer : (m n place : ℕ) (bytes : List ℕ) → m ≤ n
    → All (IsWhole place) (entries_in n place bytes)
    → All (IsWhole place) (entries_in m place bytes)
unfolding entries_in
whole_fewer zero n place bytes le whole = All-nil (IsWhole place)
whole_fewer (suc m) zero place bytes le whole = absurd (omega arith)
whole_fewer (suc m) (suc n) place bytes le whole =
    let behind = drop (2 + 2 * two_at 0 bytes + place) bytes in
    All-cons (IsWhole place) (entry_in place bytes) (entries_in m place behind)
    (All-head (IsWhole place) (entry_in place bytes) (entries_in n place behind) whole)
    (whole_fewer m n place behind (omega arith)
    (All-tail (IsWhole place) (entry_in place bytes) (entries_in n place behind) whole))

pub get_fewer : (i n place : ℕ) (bytes : List ℕ) → i < n
    → slice_get (entries_in (suc i) place bytes) i ≡ slice_get (entries_in n place bytes) i
unfolding entries_in
get_fewer i zero place bytes lt = absurd (omega arith)
get_fewer zero (suc n) place bytes lt = refl
get_fewer (suc i) (suc n) place bytes lt =
    get_fewer i n place (drop (2 + 2 * two_at 0 bytes + place) bytes) (omega arith)
