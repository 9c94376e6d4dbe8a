-- The next address lies past the last item, and below 2^31.
use Rattle.std.proofs.Common.{◌≡◌, ◌⊎◌, inl, inr, ℕ, ◌+◌, ◌-◌, ◌*◌, ◌/◌, ◌^◌, ◌<◌, ◌≤◌, Bool, true}
use Rattle.std.proofs.Common.{false, cond, ◌&&◌, List, [], ◌∷◌, ◌++◌, map, filter, sum, Some, None}
use Rattle.std.proofs.Common.{refl, sym, ap, ◌∙◌, subst, arith}
use Rattle.std.specs.Prelude.{Option, nat_le}
use Rattle.std.specs.Int.{div_ceil, w32, to_be_bytes}
use Rattle.std.specs.List.{AllByRecursion, sum_by}
use Rattle.std.specs.List.Sorted.{IsStrictlySortedBy}
use Rattle.std.specs.declared.cmp.Ordering.TheVariants.{Less}
use Rattle.std.proofs.Common.{eq-eqb}
use Rattle.std.proofs.lemmas.Bool.{true≢false}
use Rattle.std.proofs.lemmas.Bool.Decides.{nat_tests}
use Rattle.std.proofs.lemmas.Cmp.{nat_list_cmp_total}
use native.Mathlib.Nat as nat
use Rattle.std.proofs.lemmas.List.{append_assoc, append-nil, map-append}
use Rattle.std.proofs.lemmas.List.Elements.{filter-append}
use Rattle.std.proofs.lemmas.List.Sums.{sum-map, sum_by-cons, sum_by_push}
use Rattle.std.proofs.lemmas.Nat.{div-add-mod', div-mul-add, le-div, mod_below, mul-le}
use Rattle.vr_types.specs.Content.{Ascends, Content, Placed, place_cmp, places_of}
use Rattle.vr_types.specs.Geometry.{IsAllowed, area_count}
use Rattle.vr_types.specs.declared.geometry.Geometry.{Geometry}
use Rattle.vr_types.proofs.CallerLemmas.{block_size_least}
use Rattle.vr_history.specs.Address.{begins_in, intervals_for, is_spanned, last_interval, last_item}
use Rattle.vr_history.specs.Address.{length_of, lengths_taken, next_address, next_after, number_of}
use Rattle.vr_history.specs.Address.{room_taken}
use Rattle.vr_history.specs.Addresses.{AllFollow, BeginsLater, Follows, IsLater}
use Rattle.vr_history.proofs.AddressNumbers.{number_back, places_rise}
use Rattle.vr_history.proofs.Same.{first_holds, second_holds}

-- the intervals of a volume
abbrev pub intervals_of : Geometry → ℕ
intervals_of geometry = area_count geometry * geometry.area

-- their bytes: at most half of what four bytes count
pub volume_fits : (geometry : Geometry) → IsAllowed geometry
    → intervals_of geometry * geometry.size ≤ 2 ^ 31
volume_fits geometry allowed =
    let count : ℕ = area_count geometry in
    let held : count * geometry.area ≤ geometry.blocks - 1 - geometry.log =
    within (geometry.blocks - 1 - geometry.log) geometry.area in
    let bytes : count * geometry.area * geometry.size ≤ geometry.blocks * geometry.size =
    mul-le (count * geometry.area) geometry.size geometry.blocks geometry.size (omega arith)
    (omega arith) in
    omega (arith, allowed.bytes, nat.mul_comm geometry.blocks geometry.size)
  where
    within : (blocks area : ℕ) → blocks / (area + 1) * area ≤ blocks
    within blocks area =
        let parts : blocks / (area + 1) * (area + 1) ≤ blocks = nat.div-mul-le_self blocks
        (area + 1) in
        omega (arith, nat.mul-add (blocks / (area + 1)) area 1)

-- what the items of an interval amount to, with one more at the end
pub begun_append : (amount : Placed → ℕ) (size interval : ℕ) (content : Content) (placed : Placed)
    → begins_in size interval placed ≡ true
    → sum (map amount (filter (begins_in size interval) (content ++ placed ∷ [])))
    ≡ sum (map amount (filter (begins_in size interval) content)) + amount placed
begun_append amount size interval content placed begins =
    let here : Placed → Bool = begins_in size interval in
    sum-map amount (filter here (content ++ placed ∷ []))
    ∙ (ap (sum_by amount) (filter-append here content (placed ∷ [])
    ∙ ap (λ (test : Bool). filter here content ++ cond test (placed ∷ []) []) begins)
    ∙ (sum_by_push amount (filter here content) placed
    ∙ ap (λ n. n + amount placed) (sym (sum-map amount (filter here content)))))

-- the items alone take less than they do with their control information
lengths_within : (items : Content)
    → sum (map (λ (item : Placed). length_of item.1) items) ≤ sum
    (map (λ (item : Placed). length_of item.1 + 3) items)
lengths_within [] = omega arith
lengths_within (placed ∷ items) =
    let long : List ℕ = map (λ (item : Placed). length_of item.1) items in
    let longer : List ℕ = map (λ (item : Placed). length_of item.1 + 3) items in
    omega (
      arith,
      lengths_within items,
      sum_by-cons (λ (n : ℕ). n) (length_of placed.1) long,
      sum_by-cons (λ (n : ℕ). n) (length_of placed.1 + 3) longer,
    )

pub last_append : (content : Content) (placed : Placed)
    → last_item (content ++ placed ∷ []) ≡ Some placed
last_append [] placed = refl
last_append (first ∷ []) placed = refl
last_append (first ∷ next ∷ rest) placed = last_append (next ∷ rest) placed

last_some : (first : Placed) (rest : Content)
    → (last : Placed) × (last_item (first ∷ rest) ≡ Some last)
last_some first [] = (first, refl)
last_some first (next ∷ rest) = last_some next rest

none_last : (content : Content) → last_item content ≡ None → content ≡ []
none_last [] none = refl
none_last (first ∷ rest) none = let some = last_some first rest in absurd
    (no_last some.0 (sym none ∙ some.1))
  where
    no_last : (last : Placed) → None ≡ Some last → ⊥
    no_last last is = cc

-- an address beyond a place's
abbrev pub IsBelow : ℕ → List ℕ → Type 0
IsBelow n place = (beyond : ℕ) → n < beyond → beyond < 2 ^ 32
    → place_cmp place (to_be_bytes w32 beyond) ≡ Less

-- what is known of the last item: none stands above it, and within its interval it lies among what
-- is taken there
pub record IsLastLaid (geometry : Geometry) (content : Content) (last : Placed) : Type 0 where
  pub top : AllByRecursion (IsBelow (number_of last.0)) (places_of content)
  pub packed : number_of last.0 < number_of last.0 / geometry.size * geometry.size + lengths_taken
      geometry.size (number_of last.0 / geometry.size) content
  pub ends : last_interval geometry.size (number_of last.0) (length_of last.1) < intervals_of
      geometry

pub record AreLaid (geometry : Geometry) (content : Content) : Type 0 where
  pub ascends : Ascends content
  pub last : (placed : Placed) → last_item content ≡ Some placed
      → IsLastLaid geometry content placed

-- what is known of the next address
pub record LiesPast (geometry : Geometry) (content : Content) (new n : ℕ) : Type 0 where
  pub fits : n < 2 ^ 32
  pub past : AllByRecursion (λ place. place_cmp place (to_be_bytes w32 n) ≡ Less)
      (places_of content)
  pub packed : n < n / geometry.size * geometry.size
      + (lengths_taken geometry.size (n / geometry.size) content + new)

all_beyond : (n beyond : ℕ) (places : List (List ℕ)) → n < beyond → beyond < 2 ^ 32
    → AllByRecursion (IsBelow n) places
    → AllByRecursion (λ place. place_cmp place (to_be_bytes w32 beyond) ≡ Less) places
all_beyond n beyond [] less fits below = tt
all_beyond n beyond (place ∷ places) less fits below =
    (below.0 beyond less fits, all_beyond n beyond places less fits below.1)

-- a plain record goes among those of the last interval
plain_past : (geometry : Geometry) (content : Content) (new : ℕ) (last : Placed)
    → IsAllowed geometry → IsLastLaid geometry content last → 0 < new
    → is_spanned geometry.size (length_of last.1) ≡ false
    → room_taken geometry.size
    (last_interval geometry.size (number_of last.0) (length_of last.1)) content
    + new + 3 ≤ geometry.size - 4
    → let interval : ℕ = last_interval geometry.size (number_of last.0) (length_of last.1) in
    LiesPast geometry content new (interval * geometry.size
    + lengths_taken geometry.size interval content)
plain_past geometry content new last allowed laid some plain room =
    let size : ℕ = geometry.size in
    let address : ℕ = number_of last.0 in
    let interval : ℕ = last_interval size address (length_of last.1) in
    let taken : ℕ = lengths_taken size interval content in
    let one : intervals_for size (length_of last.1) ≡ 1 =
    ap (λ (test : Bool). cond test (div_ceil (length_of last.1) (size - 10)) 1) plain in
    let same : interval ≡ address / size = omega (arith, one) in
    let few : taken ≤ room_taken size interval content =
    lengths_within (filter (begins_in size interval) content) in
    let least : 512 ≤ size = block_size_least size allowed.size in
    let small : taken < size = omega arith in
    let whole : (interval + 1) * size ≤ intervals_of geometry * size =
    mul-le (interval + 1) size (intervals_of geometry) size (omega (arith, laid.ends)) (omega arith)
    in
    let next : (interval + 1) * size ≡ interval * size + size = omega
    (arith, nat.add-mul interval 1 size) in
    let bytes : intervals_of geometry * size ≤ 2 ^ 31 = volume_fits geometry allowed in
    let fits : interval * size + taken < 2 ^ 32 = omega arith in
    let P : ℕ → Type 0 = λ i. address < i * size + lengths_taken size i content in
    let beyond : address < interval * size + taken = subst P (sym same) laid.packed in
    let back : (interval * size + taken) / size ≡ interval = div-mul-add interval size taken small
    in
    let Q : ℕ → Type 0 = λ i. interval * size + taken < i * size
    + (lengths_taken size i content + new) in
    record {
      fits = fits;
      past = all_beyond address (interval * size + taken) (places_of content) beyond fits laid.top;
      packed = subst Q (sym back) (omega arith);
    }

-- where an interval begins
begin_fits : (geometry : Geometry) (interval : ℕ) → IsAllowed geometry
    → interval ≤ intervals_of geometry → interval * geometry.size < 2 ^ 32
begin_fits geometry interval allowed within =
    let whole : interval * geometry.size ≤ intervals_of geometry * geometry.size =
    mul-le interval geometry.size (intervals_of geometry) geometry.size within (omega arith) in
    omega (arith, volume_fits geometry allowed)

begin_packed : (geometry : Geometry) (content : Content) (new interval : ℕ) → IsAllowed geometry
    → 0 < new
    → let n : ℕ = interval * geometry.size in
    n < n / geometry.size * geometry.size
    + (lengths_taken geometry.size (n / geometry.size) content + new)
begin_packed geometry content new interval allowed some =
    let size : ℕ = geometry.size in
    let least : 512 ≤ size = block_size_least size allowed.size in
    let back : interval * size / size ≡ interval =
    ap (λ n. n / size) (omega arith) ∙ div-mul-add interval size 0 (omega arith) in
    let Q : ℕ → Type 0 = λ i. interval * size < i * size + (lengths_taken size i content + new) in
    subst Q (sym back) (omega arith)

-- another goes to the start of a later interval
later_past : (geometry : Geometry) (content : Content) (new interval : ℕ) (last : Placed)
    → IsAllowed geometry → IsLastLaid geometry content last → 0 < new
    → interval ≤ intervals_of geometry
    → last_interval geometry.size (number_of last.0) (length_of last.1) < interval
    → LiesPast geometry content new (interval * geometry.size)
later_past geometry content new interval last allowed laid some within later =
    let size : ℕ = geometry.size in
    let address : ℕ = number_of last.0 in
    let least : 512 ≤ size = block_size_least size allowed.size in
    let at_least : 1 ≤ intervals_for size (length_of last.1) = some_interval size (length_of last.1)
    least in
    let before : (address / size + 1) * size ≤ interval * size =
    mul-le (address / size + 1) size interval size (omega arith) (omega arith) in
    let beyond : address < interval * size = omega (arith, above address size (omega arith)) in
    let fits : interval * size < 2 ^ 32 = begin_fits geometry interval allowed within in
    record {
      fits = fits;
      past = all_beyond address (interval * size) (places_of content) beyond fits laid.top;
      packed = begin_packed geometry content new interval allowed some;
    }
  where
    above : (n size : ℕ) → 0 < size → n < (n / size + 1) * size
    above n size some_size = omega (
      arith,
      nat.add-mul (n / size) 1 size,
      div-add-mod' n size,
      mod_below n size some_size,
    )

    some_interval : (size length : ℕ) → 512 ≤ size → 1 ≤ intervals_for size length
    some_interval size length least = by_test (is_spanned size length) refl
      where
        by_test : (test : Bool) → is_spanned size length ≡ test
            → 1 ≤ cond test (div_ceil length (size - 10)) 1
        by_test true is =
            let long : size - 6 ≤ length = grind (arith, nat_tests, is) in
            let whole : 1 ≤ length / (size - 10) = le-div 1 length (size - 10) (omega arith)
            (omega arith) in
            omega arith
        by_test false is = omega arith

not_spanned : (spanned : Bool) → cond spanned false true ≡ true → spanned ≡ false
not_spanned true is = absurd (true≢false (sym is))
not_spanned false is = refl

room_of : (m n : ℕ) → nat_le m n ≡ true → m ≤ n
room_of m n is = grind (arith, nat_tests, is)

pub lies_past : (geometry : Geometry) (content : Content) (new : ℕ) → IsAllowed geometry
    → AreLaid geometry content → 0 < new
    → LiesPast geometry content new (next_address geometry.size content new)
lies_past geometry content new allowed laid some = by_last (last_item content) refl
  where
    by_last : (last : Option Placed) → last_item content ≡ last
        → LiesPast geometry content new (next_after geometry.size content new last)
    by_last None none = record {
      fits = omega arith;
      past = subst (λ (c : Content). AllByRecursion
          (λ place. place_cmp place (to_be_bytes w32 0) ≡ Less) (places_of c))
          (sym (none_last content none)) tt;
      packed = omega arith;
    }
    by_last (Some last) is = by_test _ refl
      where
        by_test : (test : Bool)
            → (cond (is_spanned geometry.size (length_of last.1)) false true
            && (cond (is_spanned geometry.size new) false true
            && nat_le (room_taken geometry.size (last_interval geometry.size (number_of last.0)
            (length_of last.1)) content + new + 3) (geometry.size - 4))) ≡ test
            → LiesPast geometry content new (cond test
            (last_interval geometry.size (number_of last.0) (length_of last.1) * geometry.size
            + lengths_taken geometry.size
            (last_interval geometry.size (number_of last.0) (length_of last.1)) content)
            ((last_interval geometry.size (number_of last.0) (length_of last.1) + 1)
            * geometry.size))
        by_test true test =
            plain_past geometry content new last allowed (laid.last last is) some
            (not_spanned (is_spanned geometry.size (length_of last.1)) (first_holds _ _ test))
            (room_of _ _ (second_holds _ _
            (second_holds (cond (is_spanned geometry.size (length_of last.1)) false true) _ test)))
        by_test false test =
            let last_laid : IsLastLaid geometry content last = laid.last last is in
            later_past geometry content new
            (last_interval geometry.size (number_of last.0) (length_of last.1) + 1) last allowed
            last_laid some (omega (arith, last_laid.ends)) (omega arith)

pub all_append : {X : Type 0} (P : X → Type 0) (these : List X) (last : X)
    → AllByRecursion P these → P last → AllByRecursion P (these ++ last ∷ [])
all_append P [] last all one = (one, tt)
all_append P (first ∷ these) last all one = (all.0, all_append P these last all.1 one)

-- one item more is laid where it follows them
ascends_append : (places : List (List ℕ)) (place : List ℕ) → IsStrictlySortedBy place_cmp places
    → AllByRecursion (λ other. place_cmp other place ≡ Less) places
    → IsStrictlySortedBy place_cmp (places ++ place ∷ [])
unfolding IsStrictlySortedBy
ascends_append [] place ascends below = (tt, tt)
ascends_append (first ∷ places) place ascends below = (
  all_append (λ other. place_cmp first other ≡ Less) places place ascends.0 below.0,
  ascends_append places place ascends.1 below.1,
)

below_further : (n : ℕ) (places : List (List ℕ))
    → AllByRecursion (λ place. place_cmp place (to_be_bytes w32 n) ≡ Less) places
    → AllByRecursion (IsBelow n) places
below_further n [] below = tt
below_further n (place ∷ places) below = (
  λ beyond less fits. nat_list_cmp_total.trans place (to_be_bytes w32 n) (to_be_bytes w32 beyond)
      below.0 (places_rise n beyond less fits),
  below_further n places below.1,
)

-- where an item is that follows those of a content
pub record IsAtPast (geometry : Geometry) (content : Content) (placed : Placed) : Type 0 where
  pub number : ℕ
  pub at : placed.0 ≡ to_be_bytes w32 number
  pub past : LiesPast geometry content (length_of placed.1) number

follows_past : (geometry : Geometry) (content : Content) (placed : Placed) → IsAllowed geometry
    → AreLaid geometry content → Follows geometry content placed
    → IsAtPast geometry content placed
follows_past geometry content placed allowed laid follows = by_place follows.at
  where
    new : ℕ
    new = length_of placed.1

    by_last : (last : Option Placed) → last_item content ≡ last → (interval : ℕ)
        → interval < intervals_of geometry → IsLater geometry.size last interval
        → LiesPast geometry content new (interval * geometry.size)
    by_last None none interval within later = record {
      fits = begin_fits geometry interval allowed (omega (arith, within));
      past = subst (λ (c : Content). AllByRecursion
          (λ place. place_cmp place (to_be_bytes w32 (interval * geometry.size)) ≡ Less)
          (places_of c)) (sym (none_last content none)) tt;
      packed = begin_packed geometry content new interval allowed follows.some;
    }
    by_last (Some last) is interval within later =
        later_past geometry content new interval last allowed (laid.last last is) follows.some
        (omega (arith, within)) later

    by_place : (placed.0 ≡ to_be_bytes w32 (next_address geometry.size content new))
        ⊎ BeginsLater geometry content placed.0 → IsAtPast geometry content placed
    by_place (inl next) = record {
      number = next_address geometry.size content new;
      at = next;
      past = lies_past geometry content new allowed laid follows.some;
    }
    by_place (inr begins) = record {
      number = begins.interval * geometry.size;
      at = begins.at;
      past = by_last (last_item content) refl begins.interval begins.within begins.later;
    }

laid_next : (geometry : Geometry) (content : Content) (placed : Placed) → IsAllowed geometry
    → AreLaid geometry content → Follows geometry content placed
    → AreLaid geometry (content ++ placed ∷ [])
laid_next geometry content placed allowed laid follows =
    let P : List ℕ → Type 0 = λ place. AllByRecursion (λ other. place_cmp other place ≡ Less)
    (places_of content) in
    record {
      ascends = subst (IsStrictlySortedBy place_cmp) (sym places)
          (ascends_append (places_of content) placed.0 laid.ascends
          (subst P (sym here.at) here.past.past));
      last = λ last is. subst (IsLastLaid geometry (content ++ placed ∷ []))
          (same_some placed last (sym (last_append content placed) ∙ is)) is_last;
    }
  where
    here : IsAtPast geometry content placed
    here = follows_past geometry content placed allowed laid follows

    n : ℕ
    n = here.number

    size : ℕ
    size = geometry.size

    places : places_of (content ++ placed ∷ []) ≡ places_of content ++ placed.0 ∷ []
    places = map-append (λ (item : Placed). item.0) content (placed ∷ [])

    same_some : (one other : Placed) → Some one ≡ Some other → one ≡ other
    same_some one other is = cc

    is_last : IsLastLaid geometry (content ++ placed ∷ []) placed
    is_last =
        let number : number_of placed.0 ≡ n = ap number_of here.at ∙ number_back n here.past.fits in
        let begins : begins_in size (n / size) placed ≡ true =
        eq-eqb (number_of placed.0 / size) (n / size) (ap (λ m. m / size) number) in
        let taken : lengths_taken size (n / size) (content ++ placed ∷ []) ≡ lengths_taken size
        (n / size) content + length_of placed.1 =
        begun_append (λ (item : Placed). length_of item.1) size (n / size) content placed begins in
        let within : n < n / size * size + lengths_taken size (n / size) (content ++ placed ∷ []) =
        omega (arith, here.past.packed, taken) in
        let itself : IsBelow n placed.0 = λ beyond less fits. ap
        (λ (place : List ℕ). place_cmp place (to_be_bytes w32 beyond)) here.at
        ∙ places_rise n beyond less fits in
        let Top : ℕ → Type 0 = λ m. AllByRecursion (IsBelow m) (places_of (content ++ placed ∷ []))
        in
        let Packed : ℕ → Type 0 = λ m. m < m / size * size + lengths_taken size (m / size) (content
        ++ placed ∷ []) in
        record {
          top = subst Top (sym number) (subst (AllByRecursion (IsBelow n)) (sym places)
              (all_append (IsBelow n) (places_of content) placed.0
              (below_further n (places_of content) here.past.past) itself));
          packed = subst Packed (sym number) within;
          ends = follows.ends;
        }

-- and so are all that follow one another
pub laid_all : (geometry : Geometry) (before content : Content) → IsAllowed geometry
    → AreLaid geometry before → AllFollow geometry before content
    → AreLaid geometry (before ++ content)
laid_all geometry before [] allowed laid follow =
    subst (AreLaid geometry) (sym (append-nil before)) laid
laid_all geometry before (placed ∷ content) allowed laid follow =
    subst (AreLaid geometry) (append_assoc before (placed ∷ []) content)
    (laid_all geometry (before ++ placed ∷ []) content allowed
    (laid_next geometry before placed allowed laid follow.0) follow.1)

pub none_laid : (geometry : Geometry) → AreLaid geometry []
unfolding IsStrictlySortedBy
none_laid geometry = record { ascends = tt; last = λ placed is. absurd cc }

-- an item that follows comes last
pub follow_append : (geometry : Geometry) (before content : Content) (placed : Placed)
    → AllFollow geometry before content → Follows geometry (before ++ content) placed
    → AllFollow geometry before (content ++ placed ∷ [])
follow_append geometry before [] placed follow this =
    (subst (λ (c : Content). Follows geometry c placed) (append-nil before) this, tt)
follow_append geometry before (first ∷ content) placed follow this = (
  follow.0,
  follow_append geometry (before ++ first ∷ []) content placed follow.1
      (subst (λ (c : Content). Follows geometry c placed)
      (sym (append_assoc before (first ∷ []) content)) this),
)
