-- An entry-sequenced or relative part whose first area is written without records: it is in order
-- in blocks of its own, whatever a crash leaves, and no place of it has an item.
use Rattle.std.proofs.Common.{◌≡◌, ◌<◌, ◌+◌, ◌-◌, ℕ, zero, suc, Bool, true, false, List}
use Rattle.std.proofs.Common.{[], ◌∷◌, Option, Some, None, arith, refl, sym, ap, subst}
use Rattle.std.proofs.Common.{◌∙◌, nat_lt}
use Rattle.std.specs.Prelude.{cond}
use Rattle.std.proofs.lemmas.Bool.{ltb-true}
use Rattle.std.proofs.lemmas.List.Elements.{All-nil}
use Rattle.vr_types.specs.Content.{Item}
use Rattle.vr_types.specs.Geometry.{area_count}
use Rattle.vr_types.specs.Image.{Block, block_at}
use Rattle.vr_types.specs.Seen.{Seen}
use Rattle.vr_seqset.specs.Reading.{roster_in}
use Rattle.vr_seqset.specs.Roster.{IsRoster, Roster}
use Rattle.vr_seqset.proofs.CallerLemmas.{roster_is}
use Rattle.vr_space.specs.Numbered.{HasKeptPlace, IsFilled, IsIntervalMet, IsNumberedAtRest}
use Rattle.vr_space.specs.Numbered.{IsNumberedOn, IsRestingArea, KeepsNumbered, KnowsTail, at_in}
use Rattle.vr_space.specs.Numbered.{interval_of, is_number_place, item_read, numbered_way}
use Rattle.vr_space.specs.Owners.{Owners}
use Rattle.vr_space.specs.Part.{Knows, MayHold, NumberedShape, item_of}
use Rattle.vr_space.specs.Rosters.{Chains, IsChainedBy, IsInArea, IsNextOf, IsOf}
use Rattle.vr_space.specs.Rosters.{Numbered, after_next, areas_from, chain_way, interval_in}
use Rattle.vr_space.specs.Rosters.{interval_way, roster_block, used_from, way_by}
use Rattle.vr_space.specs.Way.{Found, MayFind, Way}
use Rattle.vr_part.proofs.Reading.{found-on}
use Rattle.vr_part.specs.Started.{known_first}
use Rattle.vr_part.specs.First.{IsFirstRoster, first_roster}

module _ (part : Numbered) (now : Seen) (first : IsFirstRoster part now) where
  abbrev top : Block
  top = block_at now.cur (roster_block part part.first)

  says : roster_in top ≡ first_roster part
  says = roster_is part.geometry.area top (first_roster part) first.has.roster

  -- ---- what a crash leaves

  chained-by : (After : ℕ → Type 0)
      → IsChainedBy part (IsFilled part) now.may part.first After top
  chained-by After = record {
    roster = record {
      spelled = subst (IsRoster part.geometry.area top) (sym says) first.has.roster;
      size = first.has.size;
      number = ap (λ (roster : Roster). roster.part) says;
    };
    intervals = λ interval below block may. absurd
        (omega (arith, below, ap (λ (roster : Roster). roster.used) says));
    next = subst (λ (roster : Roster). IsNextOf roster.used part.geometry.area After roster.next)
        (sym says) tt;
  }

  first-chain : (Own : ℕ → Type 0) → Own part.first → (k : ℕ) → 0 < k
      → Chains part Own (IsFilled part) now.may k part.first
  first-chain Own own zero some = absurd (omega (arith, some))
  first-chain Own own (suc k) some = (
    own,
    λ block may. subst (IsChainedBy part (IsFilled part) now.may part.first
        (Chains part Own (IsFilled part) now.may k)) (sym (first.one_roster block may))
        (chained-by (Chains part Own (IsFilled part) now.may k)),
  )

  -- It is at rest in blocks of its own,
  pub first-rests : IsNumberedOn part now → (owners : Owners)
      → ((n : ℕ) → IsInArea part part.first n → owners n ≡ Some part.part)
      → IsNumberedAtRest part owners now
  first-rests on owners owned = record {
    on = on;
    chain = first-chain (IsRestingArea part owners now)
        (record {
          own = record { there = on.part_is.first; owned = owned };
          roster = first.one_roster;
        })
        (area_count part.geometry) (omega (arith, on.part_is.first));
  }

  -- and has room for what is kept for it, which is nothing;
  pub first-room : KeepsNumbered part [] now.may
  first-room = All-nil (HasKeptPlace part now.may)

  -- its chain is the area, of which no interval is used;
  one-area : (k : ℕ) → 0 < k → part.first ∷ [] ≡ areas_from part now.cur k part.first
  one-area zero some = absurd (omega (arith, some))
  one-area (suc k) some = ap (λ (roster : Roster).
      part.first ∷ after_next [] (areas_from part now.cur k) roster.next) (sym says)

  none-used : (k : ℕ) → used_from part now.cur k part.first ≡ 0
  none-used zero = refl
  none-used (suc k) = ap (λ (roster : Roster).
      roster.used + after_next 0 (used_from part now.cur k) roster.next) says

  no-tail : (relative : Bool) → KnowsTail relative part now.cur None
  no-tail true = refl
  no-tail false = λ interval from below.
      absurd (omega (arith, below, none-used (area_count part.geometry)))

  pub first-knows : IsNumberedOn part now
      → Knows (NumberedShape part) (known_first (NumberedShape part)) now
  first-knows on = record {
    way = tt;
    blocks = record {
      chain = record {
        areas = one-area (area_count part.geometry) (omega (arith, on.part_is.first));
        used = sym (none-used (area_count part.geometry));
      };
      tail = no-tail part.relative;
      met = All-nil (IsIntervalMet part now.cur);
    };
  }

  -- and no place has an item, whatever is allowed of the blocks that a crash may leave.
  module _ (may : ℕ → Block → Type 0)
      (rosters : (block : Block) → may (roster_block part part.first) block → block ≡ top)
      (found : Option Item) where
    by-used : (reached : Way) (fewer : Bool) (n : ℕ) → nat_lt n 0 ≡ fewer
        → MayFind may found (cond fewer reached (Found None)) → found ≡ None
    by-used reached true n is holds = absurd (omega (arith, ltb-true n 0 is))
    by-used reached false n is holds = holds

    none-reached : (reached : ℕ → Way) (n k : ℕ)
        → MayFind may found (chain_way part reached k n part.first) → found ≡ None
    none-reached reached n zero holds = holds
    none-reached reached n (suc k) holds =
        by-used (reached (interval_in part part.first n)) (nat_lt n 0) n refl
        (subst (λ (roster : Roster). MayFind may found (way_by part reached n part.first
        (chain_way part reached k (n - part.geometry.area)) roster))
        (ap roster_in (rosters holds.0 holds.1) ∙ says) holds.2)

    none-found : (place : List ℕ) (numbered : Bool)
        → MayFind may found (cond numbered (interval_way part
        (item_read part (at_in part place)) (interval_of part place)) (Found None))
        → found ≡ None
    none-found place true holds = none-reached (item_read part (at_in part place))
        (interval_of part place) (area_count part.geometry) holds
    none-found place false holds = holds

  pub first-firm : (place : List ℕ) (found : Option Item)
      → MayHold (NumberedShape part) now.may place found → found ≡ None
  first-firm place found =
      none-found now.may first.one_roster found place (is_number_place part place)

  pub first-reads : (place : List ℕ) → item_of (NumberedShape part) now.cur place ≡ None
  first-reads place = none-found (IsOf now.cur) (λ block is. is)
      (item_of (NumberedShape part) now.cur place) place (is_number_place part place)
      (found-on now.cur (numbered_way part place))
