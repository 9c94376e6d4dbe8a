-- What a part takes that is set in it: where a place is kept, an item of that length is there.
use Rattle.std.proofs.Common.{◌≡◌, ◌⊎◌, ⊎_elim, ◌<◌, ◌≤◌, ◌-◌, ℕ, zero, suc, Bool, true}
use Rattle.std.proofs.Common.{false, IsTrue, List, Option, Some, None, refl, sym, ap, subst, ◌∙◌}
use Rattle.std.proofs.Common.{arith, cond, length, nat_lt}
use Rattle.std.specs.Prelude.{bytes_eq}
use Rattle.std.specs.Option.{option_map}
use Rattle.std.proofs.lemmas.Bool.{and_from, eq-eqb, ltb-false, ltb-true}
use Rattle.vr_types.specs.Content.{Item}
use Rattle.vr_types.specs.Fields.{four}
use Rattle.vr_types.specs.Geometry.{area_count}
use Rattle.vr_types.specs.Image.{Block, Image, block_at}
use Rattle.vr_types.specs.Seen.{Left, Seen}
use Rattle.vr_space.specs.Entries.{address_after, entry_item, item_length}
use Rattle.vr_space.specs.Keyed.{items_of}
use Rattle.vr_space.specs.Known.{Known}
use Rattle.vr_space.specs.Numbered.{HasKeptPlace, HasLengthBy, IsFilled, IsKeptLength}
use Rattle.vr_space.specs.Numbered.{IsNumberedSound, KeepsNumbered, at_in, has_interval}
use Rattle.vr_space.specs.Numbered.{interval_of, item_by, item_in, item_read, numbered_fits}
use Rattle.vr_space.specs.Numbered.{numbered_way, takes}
use Rattle.vr_space.specs.Owners.{Owners}
use Rattle.vr_space.specs.Part.{CanSet, NumberedShape}
use Rattle.vr_space.specs.Room.{Lengths, length_at}
use Rattle.vr_space.specs.Rosters.{Chains, HasInterval, IsGoingOn, IsInArea, IsNextOf, IsOf}
use Rattle.vr_space.specs.Rosters.{IsOwnArea, Numbered, after_next, chain_way, interval_in}
use Rattle.vr_space.specs.Rosters.{roster_at, roster_block}
use Rattle.vr_space.specs.Way.{Found, Way, found_on}
use Rattle.vr_space.proofs.Chains.{chain-less, used-most}
use Rattle.vr_space.proofs.NumberedReads.{way-there}
use Rattle.vr_space.proofs.NumberedRooms.{HasKeptLength, numbered-less, place-kept, set-fits}
use Rattle.vr_space.proofs.PartBlocks.{area-owned}

-- Where the chain of an image has an interval, the way leads to what that has.
pub record IsFoundIn (part : Numbered) (Has : Block → Type 0) (at : ℕ) (found : Option Item)
    : Type 0 where
  pub block : Block
  pub has : Has block
  pub item : found ≡ item_in part at block

pub interval-found : (part : Numbered) (Own : ℕ → Type 0) (Interval Has : Block → Type 0)
    (image : Image) (at k n area : ℕ) → Chains part Own Interval (IsOf image) k area
    → HasInterval part Has (IsOf image) k n area
    → IsFoundIn part Has at (found_on image (chain_way part (item_read part at) k n area))
interval-found part Own Interval Has image at zero n area chain has = absurd chain
interval-found part Own Interval Has image at (suc k) n area chain has =
    by_test (nat_lt n used) refl (roster_at part image area).next (chain.1 top refl).next
    (has top refl)
    (λ next chained have. interval-found part Own Interval Has image at k further next chained have)
  where
    top : Block
    top = block_at image (roster_block part area)

    used : ℕ
    used = (roster_at part image area).used

    most : used ≤ part.geometry.area
    most = used-most part top (chain.1 top refl).roster

    further : ℕ
    further = n - part.geometry.area

    later : ℕ → Way
    later = chain_way part (item_read part at) k further

    by_test : (test : Bool) → nat_lt n used ≡ test → (next : Option ℕ)
        → IsNextOf used part.geometry.area (Chains part Own Interval (IsOf image) k) next
        → ((n < used) × ((one : Block) → IsOf image (interval_in part area n) one → Has one))
        ⊎ ((part.geometry.area ≤ n)
        × IsGoingOn (HasInterval part Has (IsOf image) k further) next)
        → ((after : ℕ) → Chains part Own Interval (IsOf image) k after
        → HasInterval part Has (IsOf image) k further after
        → IsFoundIn part Has at (found_on image (later after)))
        → IsFoundIn part Has at (found_on image (cond test
        (item_read part at (interval_in part area n)) (after_next (Found None) later next)))
    by_test true is next follows either step = ⊎_elim
        (λ here. record {
          block = block_at image (interval_in part area n);
          has = here.1 (block_at image (interval_in part area n)) refl;
          item = refl;
        })
        (λ after. absurd (omega (arith, ltb-true n used is, most, after.0))) either
    by_test false is None follows either step = ⊎_elim
        (λ here. absurd (omega (arith, ltb-false n used is, here.0)))
        (λ after. absurd after.1) either
    by_test false is (Some onward) follows either step = ⊎_elim
        (λ here. absurd (omega (arith, ltb-false n used is, here.0)))
        (λ after. step onward follows.1 after.1) either

-- an item of the length that is kept takes a record of that length
takes-kept : (relative : Bool) (at n m : ℕ) (block : Block) (next : Bool)
    → HasLengthBy relative at n block → IsKeptLength relative n m
    → IsTrue (takes relative (item_by relative at (items_of block)) m next)
takes-kept true at n m block next has fits = refl
takes-kept false at n m block next has fits = by_item (entry_item at (items_of block)) has
  where
    by_item : (item : Option Item) → option_map item_length item ≡ Some n
        → IsTrue (takes false item m next)
    by_item None is = absurd cc
    by_item (Some item) is =
        let long : item_length item ≡ n = cc in
        eq-eqb (item_length item) m (long ∙ sym fits)

-- A record that may be set has room: at a place that is kept, beside what is there.
pub set-takes : (part : Numbered) (owners : Owners) (known : Known) (kept : Lengths)
    (place bytes : List ℕ) (now : Seen) → IsNumberedSound part owners now → Left now now.cur
    → KeepsNumbered part kept now.may
    → CanSet (NumberedShape part) known now.cur kept place (Some bytes)
    → IsTrue (numbered_fits part known.tail now.cur place (length bytes))
set-takes part owners known kept place bytes now sound left room can = ⊎_elim (λ fits. fits)
    (λ among. and_from (has_interval part now.cur place) (takes-there (length bytes))
    (set-fits part owners known kept place bytes now sound left room can)
    (by_kept among.0 among.1 among.2)) can.room
  where
    takes-there : ℕ → Bool
    takes-there n = takes part.relative (found_on now.cur (numbered_way part place)) n
        (bytes_eq place (four (address_after part known.tail n)))

    current : (area : ℕ) → IsOwnArea part owners area → (n : ℕ) → IsInArea part area n
        → (block : Block) → IsOf now.cur n block → now.may n block
    current area own n inside block is = subst (now.may n) (sym is)
        (left.each n (area-owned part owners now sound.on area own n inside).0)

    by_kept : (n : ℕ) → length_at kept place ≡ Some n
        → IsKeptLength part.relative n (length bytes) → IsTrue (takes-there (length bytes))
    by_kept n at fits =
        let there : HasKeptPlace part (IsOf now.cur) (place, n) =
        place-kept part (IsOf now.cur) kept place n
        (numbered-less part (IsOwnArea part owners) (IsFilled part) (IsOf now.cur) now.may kept
        current sound.chain room) at in
        let found = interval-found part (IsOwnArea part owners) (IsFilled part)
        (HasKeptLength part (place, n)) now.cur (at_in part place) (area_count part.geometry)
        (interval_of part place) part.first
        (chain-less part (IsOwnArea part owners) (IsOwnArea part owners) (IsFilled part)
        (IsOf now.cur) now.may (λ area own. own) current (area_count part.geometry) part.first
        sound.chain) there.interval in
        let next = bytes_eq place (four (address_after part known.tail (length bytes))) in
        subst (λ (item : Option Item). IsTrue (takes part.relative item (length bytes) next))
        (sym (ap (found_on now.cur) (way-there part place there.place) ∙ found.item))
        (takes-kept part.relative (at_in part place) n (length bytes) found.block next found.has
        fits)
