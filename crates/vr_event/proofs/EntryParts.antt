-- An entry-sequenced part of a store puts its next record where the record file says, and nothing
-- is there.
use Rattle.std.proofs.Common.{◌≡◌, ◌+◌, ◌-◌, ◌*◌, ◌^◌, ◌<◌, ◌≤◌, ⊎_elim, ℕ, Bool, false, cond, List}
use Rattle.std.proofs.Common.{Option, Some, None, refl, sym, ap, subst, ◌∙◌, arith}
use Rattle.std.specs.Prelude.{min}
use Rattle.std.proofs.Math.Nat.{mul-le-mul_left}
use Rattle.std.proofs.lemmas.Bool.{cases_lt, lt-leb}
use Rattle.vr_types.specs.Content.{Content, item_at}
use Rattle.vr_types.specs.Fields.{four}
use Rattle.vr_types.specs.Seen.{Left, Seen}
use Rattle.vr_altkey.proofs.CallerLemmas.{same_items}
use Rattle.vr_space.specs.Entries.{Tail, address_after}
use Rattle.vr_space.specs.Numbered.{IsTailOf, KnowsChain, KnowsTail, NumberedStandsFor}
use Rattle.vr_space.specs.Part.{AreMet, IsAtRest, NumberedShape, Shape, item_of}
use Rattle.vr_space.specs.Rosters.{IsNumbered, Numbered}
use Rattle.vr_space.proofs.CallerLemmas.{content_item, rest-sound, rest-stands, stands_content}
use Rattle.vr_history.specs.Address.{next_address}
use Rattle.vr_history.specs.State.{State}
use Rattle.vr_store.specs.Store.{IsRestedPart, IsSet, IsStored, PartNow, StoreNow, owners_of}
use Rattle.vr_store.specs.Store.{part_among}
use Rattle.vr_store.proofs.CallerLemmas.{number-at, rested-at}
use Rattle.vr_event.proofs.EntryAddresses.{next-address, next-free}

-- ---- a length that has no room beside another

-- a block has fewer bytes than a length that a word can't hold
size-short : (part : Numbered) → IsNumbered part → part.geometry.size ≤ 2 ^ 31
size-short part is = omega (
  arith,
  is.allowed.bytes,
  is.allowed.two_areas,
  mul-le-mul_left part.geometry.size (blocks part is),
)
  where
    blocks : (part : Numbered) → IsNumbered part → 1 ≤ part.geometry.blocks
    blocks part is = omega (arith, is.allowed.two_areas)

-- so such a record has the address that each such has
pub address-long : (part : Numbered) → IsNumbered part → (tail : Option Tail) (n : ℕ)
    → address_after part tail (min n (2 ^ 32 - 1)) ≡ address_after part tail n
address-long part is None n = refl
address-long part is (Some tail) n = ⊎_elim
    (λ more. ap to (lt-leb _ _ (omega (arith, size-short part is, most more))
    ∙ sym (lt-leb _ _ (omega (arith, size-short part is, more)))))
    (λ within. ap (λ (m : ℕ). address_after part (Some tail) m) (same within))
    (cases_lt (2 ^ 32 - 1) n)
  where
    to : Bool → ℕ
    to room = cond room (tail.interval * part.geometry.size + tail.bytes)
        ((tail.interval + 1) * part.geometry.size)

    most : 2 ^ 32 - 1 < n → 2 ^ 32 - 1 ≤ min n (2 ^ 32 - 1)
    most more = omega (arith, more)

    same : n ≤ 2 ^ 32 - 1 → min n (2 ^ 32 - 1) ≡ n
    same within = omega (arith, within)

-- ---- a part of a store

module _ (store : StoreNow) (now : Seen) (set : IsSet store now) (left : Left now now.cur)
    (volume : ℕ) (state : State) (stored : IsStored volume store state now) (number : ℕ)
    (one : PartNow) (there : part_among store.parts number ≡ Some one) (part : Numbered)
    (shaped : one.shape ≡ NumberedShape part) where
  abbrev content : Content
  content = state.contents number

  rested : IsRestedPart store state now one
  rested = rested-at store now set volume state number one there stored

  -- what is at a place is what the state has there,
  pub item-there : (place : List ℕ)
      → item_of (NumberedShape part) now.cur place ≡ item_at content place
  item-there place =
      subst (λ (s : Shape). item_of s now.cur place ≡ item_at content place) shaped
      (rested.reads place
      ∙ ap (λ (n : ℕ). item_at (state.contents n) place)
      (number-at store now set number one there))

  -- so the blocks stand for its content
  pub stands-for : NumberedStandsFor part now.cur content
  stands-for =
      let owners = owners_of store in
      let rests : IsAtRest (NumberedShape part) owners now =
      subst (λ (s : Shape). IsAtRest s owners now) shaped rested.rests in
      let has = rest-stands (NumberedShape part) owners now
      (rest-sound (NumberedShape part) owners now rests) left in
      let same : has.0 ≡ content =
      same_items has.0 content (stands_content (NumberedShape part) now.cur has.0 has.1).ascends
      (stored.volume.laid.each number)
      (λ place. content_item (NumberedShape part) now.cur has.0 has.1 place ∙ item-there place) in
      subst (NumberedStandsFor part now.cur) same has.1

  pub knows-chain : KnowsChain part one.known now.cur
  knows-chain = subst (λ (s : Shape). AreMet s one.known now.cur) shaped rested.knows.blocks

  module _ (entries : part.relative ≡ false) where
    tail-is : IsTailOf part now.cur one.known.tail
    tail-is = subst (λ (relative : Bool). KnowsTail relative part now.cur one.known.tail) entries
        knows-chain.tail

    -- the next record goes where the record file says,
    pub address-is : (n : ℕ) → address_after part one.known.tail n
        ≡ next_address part.geometry.size content n
    address-is = next-address part now.cur content one.known.tail entries stands-for tail-is

    -- where nothing is
    pub free-at : (n : ℕ)
        → item_at content (four (address_after part one.known.tail n)) ≡ None
    free-at = next-free part now.cur content one.known.tail entries stands-for tail-is
