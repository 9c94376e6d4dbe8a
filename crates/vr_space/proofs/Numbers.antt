-- The numbers of slots or of bytes: their places in four bytes, and how many there may be.
use Rattle.std.proofs.Common.{◌≡◌, ◌⊎◌, inl, inr, ap, ◌∙◌, ◌+◌, ◌-◌, ◌*◌, ◌/◌, ◌%◌, ◌^◌, ◌<◌, ◌≤◌}
use Rattle.std.proofs.Common.{Bool, true, false, ℕ, zero, suc, List, sym, subst, arith}
use Rattle.std.specs.Cmp.{nat_cmp_is}
use Rattle.std.specs.Ordering.{nat_cmp, ordering_reverse, ordering_then}
use Rattle.std.specs.declared.cmp.Ordering.{Ordering}
use Rattle.std.specs.declared.cmp.Ordering.TheVariants.{Less, Equal, Greater}
use Rattle.std.proofs.Math.Nat.{div-mul-le_self, le-div_iff_mul-le, mul-le-mul, mul-le-mul_left}
use Rattle.std.proofs.lemmas.Bool.{cases_lt}
use Rattle.std.proofs.lemmas.Cmp.{nat_list_cmp_total, ranked}
use Rattle.std.proofs.lemmas.Nat.{from_be_bytes-to_be_bytes_4}
use Rattle.vr_types.specs.Content.{place_cmp}
use Rattle.vr_types.specs.Fields.{four}
use Rattle.vr_types.specs.Geometry.{area_count}
use Rattle.vr_space.specs.Rosters.{IsNumbered, Numbered}
use Rattle.vr_space.specs.Slots.{slots_of}
use Rattle.vr_space.specs.Numbered.{IsNumberPlace, number_of, span_by, span_of, start_by, start_of}
use Rattle.vr_space.proofs.Places.{same_is_equal}

-- ---- numbers in four bytes

-- a smaller byte decides, and else what comes after bytes that are the same
by-byte : (a b : ℕ) (rest : Ordering) → a ≤ b → (a ≡ b → rest ≡ Less)
    → ordering_then (nat_cmp a b) rest ≡ Less
by-byte a b rest most same = grind (arith, ranked)

-- greater numbers have later places
pub four-rises : (m n : ℕ) → m < n → n < 2 ^ 32 → place_cmp (four m) (four n) ≡ Less
unfolding four
four-rises m n less below =
    by-byte (m / 256 ^ 3 % 256) (n / 256 ^ 3 % 256) _ (omega arith) (λ third.
    by-byte (m / 256 ^ 2 % 256) (n / 256 ^ 2 % 256) _ (omega (arith, third)) (λ second.
    by-byte (m / 256 ^ 1 % 256) (n / 256 ^ 1 % 256) _ (omega (arith, third, second)) (λ first.
    by-byte (m % 256) (n % 256) _ (omega (arith, third, second, first)) (λ last.
    absurd (omega (arith, third, second, first, last))))))

-- the number at a place that spells one
pub number-four : (n : ℕ) → n < 2 ^ 32 → number_of (four n) ≡ n
unfolding four
number-four n below = from_be_bytes-to_be_bytes_4 n below

four-below : (n : ℕ) → number_of (four n) < 2 ^ 32
unfolding four
four-below n = omega arith

-- it has room in them
pub number-below : (place : List ℕ) → place ≡ four (number_of place) → number_of place < 2 ^ 32
number-below place spelled =
    subst (λ (p : List ℕ). number_of p < 2 ^ 32) (sym spelled) (four-below (number_of place))

-- such places are in the order of their numbers
pub number-order : (part : Numbered) (one other : List ℕ) → IsNumberPlace part one
    → IsNumberPlace part other → place_cmp one other ≡ nat_cmp (number_of one) (number_of other)
number-order part one other first second =
    subst (λ (p : List ℕ). place_cmp p other ≡ nat_cmp m n) (sym first.bytes)
    (subst (λ (p : List ℕ). place_cmp (four m) p ≡ nat_cmp m n) (sym second.bytes)
    (by_less (cases_lt m n) (cases_lt n m)))
  where
    m : ℕ
    m = number_of one

    n : ℕ
    n = number_of other

    by_less : (m < n) ⊎ (n ≤ m) → (n < m) ⊎ (m ≤ n) → place_cmp (four m) (four n) ≡ nat_cmp m n
    by_less (inl less) turned =
        four-rises m n less (number-below other second.bytes) ∙ nat_cmp_is m n Less less
    by_less (inr most) (inl less) =
        nat_list_cmp_total.antisymm (four m) (four n)
        ∙ ap ordering_reverse (four-rises n m less (number-below one first.bytes))
        ∙ nat_cmp_is m n Greater less
    by_less (inr most) (inr least) =
        let same : m ≡ n = omega (arith, most, least) in
        subst (λ (k : ℕ). place_cmp (four m) (four k) ≡ Equal) same (same_is_equal (four m))
        ∙ nat_cmp_is m n Equal same

-- ---- how many there may be

-- the numbers of so many areas
abbrev pub span_up : Numbered → ℕ → ℕ
span_up part zero = 0
span_up part (suc k) = part.geometry.area * span_of part + span_up part k

span-up : (part : Numbered) (k : ℕ) → span_up part k ≡ k * (part.geometry.area * span_of part)
span-up part zero = omega arith
span-up part (suc k) = omega (arith, span-up part k)

some-by : (relative : Bool) (part : Numbered) → IsNumbered part → 0 < span_by relative part
some-by true part is =
    let some : 0 < part.most + 3 = omega arith in
    (le-div_iff_mul-le some).1 (omega (arith, is.fits))
some-by false part is = omega (arith, is.fits)

-- an interval has a slot or more, and a byte or more
pub span-some : (part : Numbered) → IsNumbered part → 0 < span_of part
span-some part is = some-by part.relative part is

start-most : (relative : Bool) → start_by relative ≤ 1
start-most true = omega arith
start-most false = omega arith

-- an interval has no more numbers than bytes
most-by : (relative : Bool) (part : Numbered) → IsNumbered part
    → span_by relative part ≤ part.geometry.size
most-by true part is =
    let fields : slots_of part * (part.most + 3) ≤ part.geometry.size - 4 =
    div-mul-le_self (part.geometry.size - 4) (part.most + 3) in
    let one_each : slots_of part * 1 ≤ slots_of part * (part.most + 3) =
    mul-le-mul_left (slots_of part) (omega (arith, is.some)) in
    omega (arith, fields, one_each)
most-by false part is = omega arith

-- their numbers have room in four bytes
pub numbers-below : (part : Numbered) → IsNumbered part
    → start_of part + span_up part (area_count part.geometry) < 2 ^ 32
numbers-below part is =
    let areas = area_count part.geometry in
    let area = part.geometry.area in
    let span = span_of part in
    let within : areas * (area + 1) ≤ part.geometry.blocks =
    omega (arith, div-mul-le_self (part.geometry.blocks - 1 - part.geometry.log) (area + 1)) in
    let bytes : (areas * (area + 1)) * span ≤ part.geometry.blocks * part.geometry.size =
    mul-le-mul within (most-by part.relative part is) in
    let most : part.geometry.blocks * part.geometry.size ≤ 2 ^ 31 =
    omega (arith, is.allowed.bytes) in
    let parts : (areas * (area + 1)) * span ≡ areas * (area * span) + areas * span =
    omega arith in
    omega (arith, span-up part areas, bytes, most, parts, start-most part.relative)
