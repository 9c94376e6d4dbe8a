-- The place of the next record of an entry-sequenced part: in the last interval with an item, or at
-- the start of the one after it.
use Rattle.std.proofs.Common.{◌≡◌, ◌⊎◌, inl, inr, ⊎_elim, ◌<◌, ◌≤◌, ◌+◌, ◌-◌, ◌*◌, ◌/◌, ◌%◌, ◌^◌}
use Rattle.std.proofs.Common.{ℕ, suc, Bool, true, false, List, length, Option, Some, None, refl}
use Rattle.std.proofs.Common.{sym}
use Rattle.std.proofs.Common.{ap, ◌∙◌, arith, true≢false, eqb-true, eq-eqb}
use Rattle.std.specs.Prelude.{IfSome, bytes_eq, cond, nat_eq, nat_le}
use Rattle.std.proofs.Math.Nat.{div-mul-le_self, mul-le-mul}
use Rattle.std.proofs.lemmas.Bool.{leb-true, ne_eqb}
use Rattle.std.proofs.lemmas.Nat.{div-mul-add, mod-mul-add}
use Rattle.std.proofs.lemmas.Slice.Eq.{bytes_eq-Decides}
use Rattle.vr_types.specs.Fields.{four}
use Rattle.vr_types.specs.Geometry.{area_count}
use Rattle.vr_space.specs.Entries.{Tail, address_after}
use Rattle.vr_space.specs.Numbered.{IsNumberedLength, at_in, interval_of, number_of, span_by}
use Rattle.vr_space.specs.Numbered.{start_by}
use Rattle.vr_space.specs.Part.{IsRecordOf, NumberedShape}
use Rattle.vr_space.specs.Rosters.{IsNumbered, Numbered}
use Rattle.vr_space.proofs.CallerLemmas.{number-four}
use Rattle.vr_chained.specs.Chain.{ChainNow, IsChainNow, IsTailIn}
use Rattle.vr_chained.specs.Setting.{room_before, tail_at}

-- ---- the number of an address

-- a place is that of an address where it has its number
pub next-test : (place : List ℕ) (n address : ℕ) → place ≡ four (number_of place)
    → n ≡ number_of place → address < 2 ^ 32
    → nat_eq n address ≡ bytes_eq place (four address)
next-test place n address spelled is below = by_test (nat_eq n address) refl
    (bytes_eq place (four address)) refl
  where
    by_test : (same : Bool) → nat_eq n address ≡ same → (bytes : Bool)
        → bytes_eq place (four address) ≡ bytes → same ≡ bytes
    by_test true same true bytes = refl
    by_test false other false bytes = refl
    by_test true same false bytes =
        let one : place ≡ four address =
        spelled ∙ ap four (sym is ∙ eqb-true n address same) in
        absurd (true≢false (sym ((bytes_eq-Decides place (four address)).1 one) ∙ bytes))
    by_test false other true bytes =
        let one : place ≡ four address = (bytes_eq-Decides place (four address)).0 bytes in
        let number : n ≡ address = is ∙ ap number_of one ∙ number-four address below in
        absurd (true≢false (sym (eq-eqb n address number) ∙ other))

module _ (part : Numbered) (entries : part.relative ≡ false) (place : List ℕ) (i at : ℕ)
    (number : number_of place ≡ i * part.geometry.size + at) (within : at < part.geometry.size)
  where
    -- its interval,
    pub address-interval : interval_of part place ≡ i
    address-interval = by_kind part.relative entries
      where
        by_kind : (relative : Bool) → relative ≡ false
            → (number_of place - start_by relative) / span_by relative part ≡ i
        by_kind true is = absurd (true≢false is)
        by_kind false is =
            let same : number_of place - 0 ≡ i * part.geometry.size + at = omega (arith, number) in
            ap (λ (n : ℕ). n / part.geometry.size) same
            ∙ div-mul-add i part.geometry.size at within

    -- and which byte of it is there
    pub address-at : at_in part place ≡ at
    address-at = by_kind part.relative entries
      where
        by_kind : (relative : Bool) → relative ≡ false
            → (number_of place - start_by relative) % span_by relative part ≡ at
        by_kind true is = absurd (true≢false is)
        by_kind false is =
            let same : number_of place - 0 ≡ i * part.geometry.size + at = omega (arith, number) in
            ap (λ (n : ℕ). n % part.geometry.size) same
            ∙ mod-mul-add i part.geometry.size at within

-- addresses of the intervals that are used have room in four bytes
pub address-below : (part : Numbered) (areas : List ℕ) (used i : ℕ) → IsNumbered part
    → length areas ≤ area_count part.geometry → used ≤ length areas * part.geometry.area → i < used
    → (i + 1) * part.geometry.size < 2 ^ 32
address-below part areas used i is few within below =
    let count = area_count part.geometry in
    let area = part.geometry.area in
    let size = part.geometry.size in
    let each : count * (area + 1) ≤ part.geometry.blocks =
    omega (arith, div-mul-le_self (part.geometry.blocks - 1 - part.geometry.log) (area + 1)) in
    let all : length areas * area ≤ count * (area + 1) =
    mul-le-mul few (omega arith) in
    let intervals : i + 1 ≤ part.geometry.blocks = omega (arith, each, all, within, below) in
    let bytes : (i + 1) * size ≤ part.geometry.blocks * size =
    mul-le-mul intervals (omega arith) in
    omega (arith, bytes, is.allowed.bytes)

-- ---- where it is

-- the first interval past those up to the last one with an item
abbrev pub first_after : Option Tail → ℕ
first_after None = 0
first_after (Some tail) = suc tail.interval

-- The place is the start of that,
pub record IsAtStart (part : Numbered) (tail : Option Tail) (place : List ℕ) : Type 0 where
  pub interval : interval_of part place ≡ first_after tail
  pub at : at_in part place ≡ 0
  pub before : room_before part tail place ≡ 0

-- or the end of the last item, past which there is room.
pub record IsAtEnd (part : Numbered) (tail : Tail) (place : List ℕ) (n : ℕ) : Type 0 where
  pub interval : interval_of part place ≡ tail.interval
  pub at : at_in part place ≡ tail.bytes
  pub before : room_before part (Some tail) place ≡ tail.room
  pub room : tail.room + (n + 3) ≤ part.geometry.size - 4

abbrev pub IsAtEndOf : Numbered → Option Tail → List ℕ → ℕ → Type 0
IsAtEndOf part None place n = ⊥
IsAtEndOf part (Some tail) place n = IsAtEnd part tail place n

-- addresses up to the interval after it have room in four bytes
pub record HasAddresses (part : Numbered) (tail : Tail) : Type 0 where
  pub bytes : tail.bytes < part.geometry.size
  pub below : (tail.interval + 1) * part.geometry.size < 2 ^ 32

module _ (part : Numbered) (entries : part.relative ≡ false) (some : 0 < part.geometry.size)
    (place : List ℕ) (n : ℕ) where
  pub next-is : (tail : Option Tail) → IfSome tail (HasAddresses part)
      → place ≡ four (address_after part tail n)
      → IsAtStart part tail place ⊎ IsAtEndOf part tail place n
  next-is None has is =
      let number : number_of place ≡ 0 * part.geometry.size + 0 =
      omega (arith, ap number_of is ∙ number-four 0 (omega arith)) in
      inl (record {
        interval = address-interval part entries place 0 0 number some;
        at = address-at part entries place 0 0 number some;
        before = refl;
      })
  next-is (Some tail) has is =
      by_test (nat_le (tail.room + (n + 3)) (part.geometry.size - 4)) refl is
    where
      size : ℕ
      size = part.geometry.size

      by_test : (fits : Bool) → nat_le (tail.room + (n + 3)) (size - 4) ≡ fits
          → place
          ≡ four (cond fits (tail.interval * size + tail.bytes) ((tail.interval + 1) * size))
          → IsAtStart part (Some tail) place ⊎ IsAtEndOf part (Some tail) place n
      by_test true fits here =
          let parts : (tail.interval + 1) * size ≡ tail.interval * size + size = omega arith in
          let number : number_of place ≡ tail.interval * size + tail.bytes =
          ap number_of here ∙ number-four (tail.interval * size + tail.bytes)
          (omega (arith, has.below, has.bytes, parts)) in
          let interval = address-interval part entries place tail.interval tail.bytes number
          has.bytes in
          inr (record {
            interval = interval;
            at = address-at part entries place tail.interval tail.bytes number has.bytes;
            before = ap (λ (same : Bool). cond same tail.room 0)
                (eq-eqb tail.interval (interval_of part place) (sym interval));
            room = leb-true (tail.room + (n + 3)) (size - 4) fits;
          })
      by_test false fits here =
          let parts : (tail.interval + 1) * size ≡ suc tail.interval * size + 0 = omega arith in
          let number : number_of place ≡ suc tail.interval * size + 0 =
          ap number_of here ∙ number-four ((tail.interval + 1) * size) has.below ∙ parts in
          let interval = address-interval part entries place (suc tail.interval) 0 number some in
          inl (record {
            interval = interval;
            at = address-at part entries place (suc tail.interval) 0 number some;
            before = ap (λ (same : Bool). cond same tail.room 0)
                (ne_eqb tail.interval (interval_of part place) (λ same.
                omega (arith, same, interval)));
          })

-- ---- what is kept of it

-- a tail that the chain may have has such addresses
pub tail-addresses : (chain : ChainNow) → IsChainNow chain.part chain.areas chain.used
    → (tail : Tail) → IsTailIn chain tail → HasAddresses chain.part tail
tail-addresses chain is tail within = record {
  bytes = omega (arith, within.bytes, within.room, is.part_is.fits);
  below = address-below chain.part chain.areas chain.used tail.interval is.part_is is.few is.within
      within.used;
}

-- and it may have the tail that the next record leaves
pub next-within : (chain : ChainNow) → IsChainNow chain.part chain.areas chain.used
    → chain.part.relative ≡ false → (tail : Option Tail) → IfSome tail (IsTailIn chain)
    → (place : List ℕ) (n : ℕ) → n ≤ chain.part.most
    → place ≡ four (address_after chain.part tail n) → interval_of chain.part place < chain.used
    → IsTailIn chain (tail_at chain.part tail place n)
next-within chain is entries tail within place n most next below =
    ⊎_elim
    (λ start. record {
      used = below;
      bytes = omega (arith, start.at, start.before);
      room = omega (arith, start.before, most, is.part_is.fits);
    })
    (by_tail tail within)
    (next-is chain.part entries (omega (arith, is.part_is.fits)) place n tail
    (addresses tail within) next)
  where
    addresses : (kept : Option Tail) → IfSome kept (IsTailIn chain)
        → IfSome kept (HasAddresses chain.part)
    addresses None may = tt
    addresses (Some one) may = tail-addresses chain is one may

    by_tail : (kept : Option Tail) → IfSome kept (IsTailIn chain)
        → IsAtEndOf chain.part kept place n → IsTailIn chain (tail_at chain.part kept place n)
    by_tail None may ends = absurd ends
    by_tail (Some one) may ends = record {
      used = below;
      bytes = omega (arith, ends.at, ends.before, may.bytes);
      room = omega (arith, ends.before, ends.room);
    }

-- a record is no longer than the part's longest
pub length-most : (part : Numbered) (place bytes : List ℕ)
    → IsRecordOf (NumberedShape part) place bytes → length bytes ≤ part.most
length-most part place bytes is = by_kind part.relative is.whole
  where
    by_kind : (relative : Bool) → IsNumberedLength relative part.most (length bytes)
        → length bytes ≤ part.most
    by_kind true whole = omega (arith, whole)
    by_kind false whole = whole.1
