-- An entry-sequenced or relative part lacks room exactly where the state says that its data set
-- lacks areas, and with the same numbers.
use Rattle.std.proofs.Common.{◌≡◌, ◌<◌, ◌≤◌, ◌+◌, ◌-◌, ◌*◌, ◌/◌, ⊎_elim, ℕ, Bool, true, false}
use Rattle.std.proofs.Common.{cond, List, Option, Some, None, refl, sym, ap, subst, ◌∙◌, arith}
use Rattle.std.proofs.Common.{length, nat_le, nat_lt}
use Rattle.std.specs.Prelude.{◌&&◌, bytes_eq}
use Rattle.std.specs.Int.{div_ceil}
use Rattle.std.specs.Option.{option_and_then, option_map}
use Rattle.std.proofs.Math.Nat.{mul-le-mul_right}
use Rattle.std.proofs.lemmas.Bool.{cases_lt}
use Rattle.std.proofs.lemmas.Bool.Decides.{nat_tests}
use Rattle.std.proofs.lemmas.Grind.{div_ceil_times}
use Rattle.std.proofs.lemmas.Option.{none-some, same_Some}
use Rattle.vr_catalog.specs.Definition.{is_valid_length, is_valid_record}
use Rattle.vr_catalog.specs.declared.definition.Definition.{Definition}
use Rattle.vr_types.specs.Fields.{four}
use Rattle.vr_types.specs.Geometry.{area_count}
use Rattle.vr_types.specs.Image.{Image}
use Rattle.vr_types.specs.Seen.{Left, Seen}
use Rattle.vr_types.specs.declared.geometry.Geometry.{Geometry}
use Rattle.vr_types.specs.declared.reply.Refusal.TheVariants.{NoSpace}
use Rattle.vr_types.specs.declared.unit.Kind.{Kind}
use Rattle.vr_types.specs.declared.unit.Kind.TheVariants.{Keyed, Entry, Relative}
use Rattle.vr_types.specs.declared.unit.StageKind.TheVariants.{Extend}
use Rattle.vr_space.specs.Entries.{Tail, address_after}
use Rattle.vr_space.specs.Numbered.{IsFilled, IsNumberedOn, KnowsChain, areas_short, chain_room_by}
use Rattle.vr_space.specs.Numbered.{has_interval, interval_of, number_of, numbered_room}
use Rattle.vr_space.specs.Numbered.{numbered_way, span_by, start_by, takes}
use Rattle.vr_space.specs.Part.{AreMet, IsAtRest, IsOn, NumberedShape, OwnsChain, Shape, owned_count}
use Rattle.vr_space.specs.Rosters.{IsNumbered, Numbered, chain_of, used_of}
use Rattle.vr_space.specs.Way.{found_on}
use Rattle.vr_space.specs.declared.room.Room.{Room}
use Rattle.vr_space.specs.declared.room.Room.TheVariants as answers
use Rattle.vr_space.proofs.CallerLemmas.{are-chained, rest-sound, rest-stands}
use Rattle.vr_attach.specs.Laid.{is_relative, numbered_part}
use Rattle.vr_history.specs.Address.{areas_needed, interval_needed}
use Rattle.vr_history.specs.Case.{Case, new_record}
use Rattle.vr_history.specs.Change.{place_changed}
use Rattle.vr_history.specs.Opened.{base_of, definition_in, opened}
use Rattle.vr_history.specs.RefusedFile.{refused_if}
use Rattle.vr_history.specs.RefusedRoom.{free_areas, lacks, need_at, need_of, no_space}
use Rattle.vr_history.specs.Replies.{is_keyed}
use Rattle.vr_history.specs.State.{areas_of}
use Rattle.vr_store.specs.Store.{IsSet, OwnsItsChain, PartNow, Stands, StoreNow, owners_of}
use Rattle.vr_store.specs.Store.{part_among}
use Rattle.vr_store.proofs.CallerLemmas.{among-all, rested-at}
use Rattle.vr_event.specs.Lacking.{IsWanting}
use Rattle.vr_event.proofs.EntryAddresses.{place-interval}

-- ---- the chain of a part

-- The chain has so many areas, of which no more intervals are used than they have.
pub record IsCountedOn (part : Numbered) (image : Image) (count : ℕ) : Type 0 where
  pub part_is : IsNumbered part
  pub count_is : length (chain_of part image) ≡ count
  pub used : used_of part image ≤ length (chain_of part image) * part.geometry.area

-- that of a part of a store has as many as the part owns
pub counted-on : (store : StoreNow) (now : Seen) → IsSet store now → Left now now.cur
    → Stands store now → (number : ℕ) (one : PartNow) → part_among store.parts number ≡ Some one
    → (part : Numbered) → one.shape ≡ NumberedShape part
    → IsCountedOn part now.cur (owned_count (record { 0 = part.part }) store.space)
counted-on store now set left stands number one there part shaped =
    let rested = rested-at store now set stands.number stands.state number one there stands.stored in
    let owners = owners_of store in
    let rests : IsAtRest (NumberedShape part) owners now =
    subst (λ (s : Shape). IsAtRest s owners now) shaped rested.rests in
    let on : IsNumberedOn part now = subst (λ (s : Shape). IsOn s now) shaped rested.on in
    let knows : KnowsChain part one.known now.cur =
    subst (λ (s : Shape). AreMet s one.known now.cur) shaped rested.knows.blocks in
    let owns : OwnsChain (NumberedShape part) one.known store.space =
    subst (λ (s : Shape). OwnsChain s one.known store.space) shaped
    (among-all (OwnsItsChain store.space) store.parts number one set.owns there) in
    let content = rest-stands (NumberedShape part) owners now
    (rest-sound (NumberedShape part) owners now rests) left in
    let chained = are-chained part (λ (area : ℕ). area < area_count part.geometry) (IsFilled part)
    now.cur one.known content.1.chain knows.chain in
    record {
      part_is = on.part_is;
      count_is = ap (λ (areas : List ℕ). length areas) (sym knows.chain.areas) ∙ sym owns;
      used = subst (λ (areas : List ℕ). used_of part now.cur ≤ length areas * part.geometry.area)
          knows.chain.areas
          (subst (λ (used : ℕ). used ≤ length one.known.areas * part.geometry.area)
          knows.chain.used chained.used.most);
    }

-- ---- its room

-- an interval that so many areas have needs no more of them
few-needed : (n areas area : ℕ) → 0 < area → n < areas * area → div_ceil (n + 1) area ≤ areas
few-needed n areas area some below = ⊎_elim
    (λ more. absurd (omega (
      arith,
      mul-le-mul_right area more,
      (div_ceil_times (n + 1) area some).1,
      below,
    ))) (λ is. is) (cases_lt areas (div_ceil (n + 1) area))

-- where the interval of the place is in the chain, the place takes a record of that length
abbrev pub Takes : Numbered → Option Tail → Image → List ℕ → ℕ → Type 0
Takes part tail image place n =
    takes part.relative (found_on image (numbered_way part place)) n
    (bytes_eq place (four (address_after part tail n))) ≡ true

module _ (part : Numbered) (tail : Option Tail) (image : Image) (count free : ℕ) (place : List ℕ)
    (n : ℕ) (counted : IsCountedOn part image count) where
  abbrev need : ℕ
  need = areas_short part image (interval_of part place)

  -- an interval of the chain needs none,
  none-needed : has_interval part image place ≡ true → need ≡ 0
  none-needed fits =
      let below : interval_of part place < used_of part image = grind (arith, nat_tests, fits) in
      omega (
        arith,
        few-needed (interval_of part place) (length (chain_of part image)) part.geometry.area
            (omega (arith, counted.part_is.allowed.some_intervals))
            (omega (arith, below, counted.used)),
      )

  -- so one that needs areas isn't of the chain
  by-free : (test : Bool) → nat_le need free ≡ test → free < need
      → cond test (answers.Stage Extend) (answers.NoSpace need free) ≡ answers.NoSpace need free
  by-free true is less = absurd (grind (arith, nat_tests, is, less))
  by-free false is less = refl

  abbrev room_with : Bool → Room
  room_with used =
      chain_room_by (used && takes part.relative (found_on image (numbered_way part place)) n
      (bytes_eq place (four (address_after part tail n)))) used need free

  by-chain : (used : Bool) → has_interval part image place ≡ used → free < need
      → room_with used ≡ answers.NoSpace need free
  by-chain true is less = absurd (omega (arith, none-needed is, less))
  by-chain false is less = by-free (nat_le need free) refl less

  -- it lacks room where it needs more areas than are free,
  chain-lacks : free < need → numbered_room part tail image free place n ≡ answers.NoSpace need free
  chain-lacks less = by-chain (has_interval part image place) refl less

  lacked-free : (test : Bool) → nat_le need free ≡ test → (wants left : ℕ)
      → cond test (answers.Stage Extend) (answers.NoSpace need free) ≡ answers.NoSpace wants left
      → free < need
  lacked-free true is wants left room = absurd cc
  lacked-free false is wants left room = grind (arith, nat_tests, is)

  lacked-chain : (used taken : Bool) → taken ≡ true → (wants left : ℕ)
      → chain_room_by (used && taken) used need free ≡ answers.NoSpace wants left → free < need
  lacked-chain true true is wants left room = absurd cc
  lacked-chain true false is wants left room = absurd cc
  lacked-chain false taken is wants left room =
      lacked-free (nat_le need free) refl wants left room

  -- and only there, where the place takes the record
  chain-lacked : Takes part tail image place n → (wants left : ℕ)
      → numbered_room part tail image free place n ≡ answers.NoSpace wants left → free < need
  chain-lacked taken wants left room =
      lacked-chain (has_interval part image place)
      (takes part.relative (found_on image (numbered_way part place)) n
      (bytes_eq place (four (address_after part tail n)))) taken wants left room

-- ---- the interval of a place

-- A record of a valid length ends in the interval of its place.
needed-by : (geometry : Geometry) (number area : ℕ) (definition : Definition) (kind : Kind)
    → definition.kind ≡ kind → is_keyed kind ≡ false
    → IsNumbered (numbered_part geometry number area definition) → (place : List ℕ) (n : ℕ)
    → is_valid_length kind definition n ≡ true
    → interval_needed kind geometry.size definition.maximum place n
    ≡ Some (interval_of (numbered_part geometry number area definition) place)
needed-by geometry number area definition Keyed is numbered part_is place n valid =
    absurd cc
needed-by geometry number area definition Entry is numbered part_is place n valid =
    ap (λ (interval : ℕ). Some interval)
    (place-interval (numbered_part geometry number area definition) place n (ap is_relative is)
    part_is (grind (arith, nat_tests, valid)))
needed-by geometry number area definition Relative is numbered part_is place n valid =
    let part = numbered_part geometry number area definition in
    ap (λ (relative : Bool). Some ((number_of place - start_by relative) / span_by relative part))
    (sym (ap is_relative is))

-- ---- what the state says

module _ (case : Case) (definition : Definition) (number area : ℕ) (place bytes : List ℕ)
    (on : definition_in (opened case) ≡ Some definition) (numbered : is_keyed definition.kind ≡ false)
    (at : place_changed case ≡ Some place) (given : new_record case.request ≡ Some bytes)
    (valid : is_valid_record definition bytes ≡ true) (tail : Option Tail) (image : Image)
    (counted : IsCountedOn (numbered_part case.geometry number area definition) image
    (areas_of case.state (base_of case))) where
  abbrev part : Numbered
  part = numbered_part case.geometry number area definition

  abbrev owned : ℕ
  owned = areas_of case.state (base_of case)

  abbrev wanted : ℕ
  wanted = areas_short part image (interval_of part place)

  -- it needs as many areas as the part
  needs : need_of case ≡ Some wanted
  needs =
      ap (λ (o : Option Definition). option_and_then (λ (d : Definition).
      option_and_then (λ (p : List ℕ). option_and_then (need_at case d p)
      (new_record case.request)) (place_changed case)) o) on
      ∙ ap (λ (o : Option (List ℕ)). option_and_then (λ (p : List ℕ).
      option_and_then (need_at case definition p) (new_record case.request)) o) at
      ∙ ap (λ (o : Option (List ℕ)). option_and_then (need_at case definition place) o) given
      ∙ ap (λ (o : Option ℕ). option_map (areas_needed case.geometry.area owned) o)
      (needed-by case.geometry number area definition definition.kind refl numbered counted.part_is
      place (length bytes) valid)
      ∙ ap (λ (n : ℕ). Some (div_ceil (interval_of part place + 1) case.geometry.area - n))
      (sym counted.count_is)

  spaces : no_space case ≡ refused_if (nat_lt (free_areas case) wanted)
      (NoSpace wanted (free_areas case))
  spaces = ap (λ (o : Option ℕ). option_and_then (lacks (free_areas case)) o) needs

  by-test : (test : Bool) → nat_lt (free_areas case) wanted ≡ test → (need left : ℕ)
      → refused_if test (NoSpace wanted (free_areas case)) ≡ Some (NoSpace need left)
      → numbered_room part tail image (free_areas case) place (length bytes)
      ≡ answers.NoSpace need left
  by-test false is need left want = absurd (none-some (NoSpace need left) want)
  by-test true is need left want =
      let less : free_areas case < wanted = grind (arith, nat_tests, is) in
      let same : NoSpace wanted (free_areas case) ≡ NoSpace need left =
      same_Some (NoSpace wanted (free_areas case)) (NoSpace need left) want in
      let needed : wanted ≡ need = cc in
      let frees : free_areas case ≡ left = cc in
      chain-lacks part tail image owned (free_areas case) place (length bytes) counted less
      ∙ ap (λ (n : ℕ). answers.NoSpace n (free_areas case)) needed
      ∙ ap (λ (n : ℕ). answers.NoSpace need n) frees

  -- where it is refused for want of areas, the part lacks them,
  pub room-wanting : (need left : ℕ) → IsWanting case need left
      → numbered_room part tail image (free_areas case) place (length bytes)
      ≡ answers.NoSpace need left
  room-wanting need left want =
      by-test (nat_lt (free_areas case) wanted) refl need left (sym spaces ∙ want)

  -- and where it isn't, the part has room, or areas to take
  pub room-unwanted : no_space case ≡ None → (n : ℕ) → Takes part tail image place n
      → (need left : ℕ)
      → numbered_room part tail image (free_areas case) place n ≡ answers.NoSpace need left → ⊥
  room-unwanted none n taken need left room =
      let less = chain-lacked part tail image owned (free_areas case) place n counted taken need
      left room in
      let test : nat_lt (free_areas case) wanted ≡ true = grind (arith, nat_tests, less) in
      none-some (NoSpace wanted (free_areas case)) (sym none ∙ spaces
      ∙ ap (λ (b : Bool). refused_if b (NoSpace wanted (free_areas case))) test)
