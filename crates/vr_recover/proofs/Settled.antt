-- Where a crash leaves what is read alone, a volume that recovers is safe.
use Rattle.std.proofs.Common.{◌≡◌, ◌<◌, ℕ, zero, suc, Bool, true, false, List, [], ◌∷◌}
use Rattle.std.proofs.Common.{length, refl, sym, ap, subst, ◌∙◌, arith, Option, Some, None, All}
use Rattle.std.proofs.Common.{⊎_elim, inl}
use Rattle.std.specs.Prelude.{IfSome, cond, nat_eq, max}
use Rattle.std.specs.List.{cons_option, filter_map}
use Rattle.std.specs.Option.{option_and_then}
use Rattle.std.specs.declared.cmp.Ordering.{Ordering}
use Rattle.std.specs.declared.cmp.Ordering.TheVariants.{Less, Equal, Greater}
use Rattle.std.proofs.lemmas.Bool.{eqb-true}
use Rattle.std.proofs.lemmas.List.{take_all}
use Rattle.std.proofs.lemmas.List.Elements.{All-cons, All-head, All-nil, All-tail, All-weaker}
use Rattle.vr_types.specs.Blocks.{AllForced}
use Rattle.vr_types.specs.Content.{Ascends, Content, Item, item_at, place_cmp, record_of}
use Rattle.vr_types.specs.Geometry.{IsAllowed, area_count}
use Rattle.vr_types.specs.Image.{Block, Image, block_at}
use Rattle.vr_types.specs.Seen.{Seen}
use Rattle.vr_types.specs.declared.geometry.Geometry.{Geometry}
use Rattle.vr_seqset.specs.Entry.{Entry}
use Rattle.vr_seqset.specs.Reading.{record_in}
use Rattle.vr_attach.specs.Owning.{IsPastLog}
use Rattle.vr_attach.proofs.CallerLemmas.{inside-on}
use Rattle.vr_space.specs.Owners.{Owners}
use Rattle.vr_space.specs.Room.{HaveRoom, Lengths, lengthen_by, with_length, with_lengths}
use Rattle.vr_space.specs.Way.{Found, IsWithin, MayFind, Reads, Way, found_on}
use Rattle.vr_space.specs.AreaCalls.{HasRoomHere, IsAreaOn}
use Rattle.vr_space.specs.Areas.{ChainHasRoom, ChainKeepsRoom, EachAfter, IsFollowed, IsOwnedArea}
use Rattle.vr_space.specs.Areas.{IsQuietArea, KeyedChain, Links, LinksIn, area_of, end_of, head_in}
use Rattle.vr_space.specs.Areas.{head_of}
use Rattle.vr_space.specs.Keyed.{EachMayLeave, HaveRooms, HoldRanges, HoldsRange, IsHead}
use Rattle.vr_space.specs.Keyed.{IsKeyedSound, KeepsRoom, Keyed, entries_of, entry_block}
use Rattle.vr_space.specs.Keyed.{lengths_of}
use Rattle.vr_space.specs.Keyed.{low_of, range_of}
use Rattle.vr_space.specs.Met.{IsChainMet, Met}
use Rattle.vr_space.specs.Moves.{IsPastClaim, MoveUnderWay}
use Rattle.vr_space.specs.Split.{AreaSplit, MoveNow}
use Rattle.vr_space.specs.UnderWay.{KeyedUnderWay}
use Rattle.vr_space.specs.Part.{HasKeptRoom, HasRoom, IsAtRest, IsOn, IsPlaceOf, IsRecordOf}
use Rattle.vr_space.specs.Part.{IsSound, KeyedShape, Knows, MayHold, NumberedShape, Shape}
use Rattle.vr_space.specs.Part.{StandsFor, StaysIn, item_of, part_no, way_to}
use Rattle.vr_space.specs.Rosters.{IsInArea, IsOf as IsOfImage, IsOwnArea, Numbered, roster_block}
use Rattle.vr_space.specs.Known.{Known}
use Rattle.vr_space.specs.Numbered.{IsFilled, IsNumberedAtRest, IsNumberedOn, IsRestingArea}
use Rattle.vr_space.specs.Numbered.{KeepsNumbered, NumberedStaysIn}
use Rattle.vr_space.proofs.CallerLemmas.{AreIn, IsLinkedArea, IsPartBlock, area-on, area-owned}
use Rattle.vr_space.proofs.CallerLemmas.{chain-less, each-after-both, each-after-less, first-owned}
use Rattle.vr_space.proofs.CallerLemmas.{head-in, links-in-each, numbered-less, rest-sound}
use Rattle.vr_space.proofs.CallerLemmas.{roster-inside, way-within}
use Rattle.vr_history.specs.Committed.{kept_or}
use Rattle.vr_history.specs.State.{BeforeImage}
use Rattle.vr_log.specs.Content.{Content as LogContent}
use Rattle.vr_log.specs.LogNow.{IsLogOf, IsOf, IsPrefixOf, made}
use Rattle.vr_log.specs.Standing.{LogStands}
use Rattle.vr_log.specs.declared.record.LogRecord.{LogRecord}
use Rattle.vr_log.proofs.CallerLemmas.{stands_has}
use Rattle.vr_volume.specs.CatalogRules.{IsCatalog}
use Rattle.vr_volume.specs.Laid.{shape_by}
use Rattle.vr_volume.specs.PutBack.{images_of, length_in, length_of, lengths_kept, oldest}
use Rattle.vr_volume.specs.PutBack.{standing_of}
use Rattle.vr_recover.specs.Recovered.{AreBackOf, item_back, standing_all}
use Rattle.vr_volume.specs.Safe.{AreCommitted, IsPartSafe, IsSafe, IsSafeBy}
use Rattle.vr_volume.specs.Volume.{CanPutBack, Recovers, shapes_by}
use Rattle.vr_undo.proofs.CallerLemmas.{stands-item}
use Rattle.vr_volume.proofs.CallerLemmas.{back-record, catalog-whole, shape-stands}
use Rattle.vr_volume.proofs.Committing.{backs-by}
use Rattle.vr_recover.specs.Undone.{FitsPart, IsCovered, IsOpenedPart, IsSettled, IsSettledPart}
use Rattle.vr_recover.specs.Undone.{alike}
use Rattle.vr_recover.proofs.Wholes.{contents-ascend}
use Rattle.vr_part.specs.Attached.{IsAttachedWith}

-- ---- a keyed part

-- One area, whose blocks are there, and of which a crash leaves what is read alone.
module _ (part : Keyed) (now : Seen) (on : IsAreaOn part now)
    (forced : AllForced now.count now.cur now.may) where
  abbrev top : Block
  top = block_at now.cur part.head

  here : (n : ℕ) (block : Block) → n < now.count → now.may n block → block ≡ block_at now.cur n
  here n block below may = forced n block below may

  pub head-is : (block : Block) → now.may part.head block → block ≡ top
  head-is block may = here part.head block (omega (arith, on.0)) may

  hold-left : (low : Option (List ℕ)) (entries : List Entry) → AreIn part.area entries
      → HoldRanges part now.cur low entries → EachMayLeave part now low entries (HoldsRange part)
  hold-left low [] inside hold = tt
  hold-left low (entry ∷ entries) inside hold = (
    λ block may. subst (HoldsRange part (range_of low entry))
        (sym (here (entry_block part entry) block (omega (arith, on.0, inside.0)) may)) hold.0,
    hold-left (Some entry.high) entries inside.1 hold.1,
  )

  rooms-left : (kept : Lengths) (low : Option (List ℕ)) (entries : List Entry)
      → AreIn part.area entries → HaveRooms part kept now.cur low entries
      → EachMayLeave part now low entries
      (λ range block. HaveRoom part.size (lengths_of part kept range block))
  rooms-left kept low [] inside rooms = tt
  rooms-left kept low (entry ∷ entries) inside rooms = (
    λ block may. subst
        (λ (b : Block). HaveRoom part.size (lengths_of part kept (range_of low entry) b))
        (sym (here (entry_block part entry) block (omega (arith, on.0, inside.0)) may)) rooms.0,
    rooms-left kept (Some entry.high) entries inside.1 rooms.1,
  )

  pub area-sound : IsHead part top → HoldRanges part now.cur (low_of top) (entries_of top)
      → IsKeyedSound part now
  area-sound head hold = record {
    area = on.0;
    size = on.1;
    heads = λ block may. subst (IsHead part) (sym (head-is block may)) head;
    intervals = λ block may.
        subst (λ (t : Block). EachMayLeave part now (low_of t) (entries_of t) (HoldsRange part))
        (sym (head-is block may))
        (hold-left (low_of top) (entries_of top) (head-in part top head) hold);
  }

  pub area-room : (kept : Lengths) → All (λ (entry : List ℕ × ℕ). length entry.0 ≡ part.key) kept
      → IsHead part top → HaveRooms part kept now.cur (low_of top) (entries_of top)
      → KeepsRoom part kept now
  area-room kept places head rooms = record {
    places = places;
    each = λ block may. subst (λ (t : Block). EachMayLeave part now (low_of t) (entries_of t)
        (λ range at. HaveRoom part.size (lengths_of part kept range at)))
        (sym (head-is block may))
        (rooms-left kept (low_of top) (entries_of top) (head-in part top head) rooms);
  }

-- A chain of such areas.
module _ (part : KeyedChain) (owners : Owners) (now : Seen) (on : IsOn (KeyedShape part) now)
    (forced : AllForced now.count now.cur now.may) where
  one-head : (area : ℕ) → area < area_count part.geometry → (top : Block)
      → now.may (head_of part area) top → top ≡ head_in part now.cur area
  one-head area below = head-is (area_of part area) now (area-on part now on area below) forced

  rests-after : (k area : ℕ) (low : Option (List ℕ)) → LinksIn part now.cur k area low
      → EachAfter part (IsOwnedArea part owners) (IsOfImage now.cur) k area
      → Links part (IsQuietArea part owners now) now k area low
  rests-after zero area low chain own = absurd chain
  rests-after (suc k) area low chain own = (
    record { own = own.0; one_head = one-head area chain.there },
    record {
      sound = area-sound (area_of part area) now (area-on part now on area chain.there) forced
          chain.head chain.intervals;
      begins = λ top may. ap low_of (one-head area chain.there top may) ∙ chain.begins;
      next = λ top may.
          subst (λ (t : Block). IsFollowed part Further t (record_in t).next)
          (sym (one-head area chain.there top may))
          (by_next (record_in here).next chain.next (own.1 here refl)
          (λ further bound goes mine. rests-after k further bound goes mine));
    },
  )
    where
      here : Block
      here = head_in part now.cur area

      Further : ℕ → Option (List ℕ) → Type 0
      Further = Links part (IsQuietArea part owners now) now k

      Own : ℕ → Type 0
      Own = EachAfter part (IsOwnedArea part owners) (IsOfImage now.cur) k

      by_next : (next : Option ℕ) → IsFollowed part (LinksIn part now.cur k) here next
          → IfSome next Own
          → ((further : ℕ) (bound : Option (List ℕ)) → LinksIn part now.cur k further bound
          → Own further → Further further bound)
          → IsFollowed part Further here next
      by_next None goes mine more = goes
      by_next (Some further) goes mine more = more further (end_of here) goes mine

  rooms-after : (kept : Lengths)
      → All (λ (entry : List ℕ × ℕ). length entry.0 ≡ part.key) kept
      → LinksIn part now.cur (area_count part.geometry) part.first None
      → ChainHasRoom part kept now.cur
      → ChainKeepsRoom part kept now
  rooms-after kept places chain rooms = each-after-less part
      (λ area. IsLinkedArea part now.cur area × HasRoomHere (area_of part area) kept now.cur)
      (λ area. KeepsRoom (area_of part area) kept now) (IsOfImage now.cur) now.may
      (λ area is. area-room (area_of part area) now (area-on part now on area is.0.there) forced
      kept places is.0.stands.head is.1)
      (λ area is. one-head area is.0.there) (area_count part.geometry) part.first
      (each-after-both part (IsLinkedArea part now.cur)
      (λ area. HasRoomHere (area_of part area) kept now.cur) (IsOfImage now.cur)
      (area_count part.geometry) part.first
      (links-in-each part now.cur (area_count part.geometry) part.first None chain) rooms)

-- what may be found is what is read
found-here : (now : Seen) (region : ℕ → Type 0) → ((n : ℕ) → region n → n < now.count)
    → AllForced now.count now.cur now.may → (found : Option Item) (way : Way)
    → IsWithin region now.may way → MayFind now.may found way → found ≡ found_on now.cur way
found-here now region there forced found (Found item) within is = is
found-here now region there forced found (Reads n next) within is =
    found-here now region there forced found (next is.0) (within.1 is.0 is.1) is.2
    ∙ ap (λ (b : Block). found_on now.cur (next b)) (forced n is.0 (there n within.0) is.1)

-- so is the item at each place of a part that is sound
pub item-here : (shape : Shape) (owners : Owners) (now : Seen)
    → AllForced now.count now.cur now.may → IsSound shape owners now → (place : List ℕ)
    → (found : Option Item) → MayHold shape now.may place found
    → found ≡ item_of shape now.cur place
item-here shape owners now forced sound place found held =
    found-here now (IsPartBlock shape owners now) (λ n inside. inside.0) forced found
    (way_to shape place) (way-within shape owners now sound place) held

-- ---- parts of any shape

-- An entry-sequenced or relative part, of whose blocks a crash leaves what is read alone.
module _ (part : Numbered) (owners : Owners) (now : Seen) (on : IsNumberedOn part now)
    (forced : AllForced now.count now.cur now.may) (stays : NumberedStaysIn part owners now.cur)
  where
    own-forced : (area : ℕ) → IsOwnArea part owners area → (n : ℕ) → IsInArea part area n
        → (block : Block) → now.may n block → block ≡ block_at now.cur n
    own-forced area own n inside block may =
        forced n block (area-owned part owners now on area own n inside).0 may

    chain-rest : IsNumberedAtRest part owners now
    chain-rest = record {
      on = on;
      chain = chain-less part (IsOwnArea part owners) (IsRestingArea part owners now)
          (IsFilled part)
          now.may (IsOfImage now.cur)
          (λ area own. record {
            own = own;
            roster = own-forced area own (roster_block part area) (roster-inside part area);
          })
          own-forced (area_count part.geometry) part.first stays;
    }

    chain-room : (kept : Lengths) → KeepsNumbered part kept (IsOfImage now.cur)
        → KeepsNumbered part kept now.may
    chain-room kept room = numbered-less part (IsOwnArea part owners) (IsFilled part) now.may
        (IsOfImage now.cur) kept own-forced stays room

-- A part that stands in blocks of its own is at rest where a crash leaves what is read alone,
pub forced-rests : (shape : Shape) (owners : Owners) (now : Seen) → IsOn shape now
    → AllForced now.count now.cur now.may → (content : Content) → StandsFor shape now.cur content
    → StaysIn shape owners now.cur → IsAtRest shape owners now
forced-rests (KeyedShape part) owners now on forced content stands stays = record {
  on = on;
  chain = rests-after part owners now on forced (area_count part.geometry) part.first None
      stands.chain stays;
}
forced-rests (NumberedShape part) owners now on forced content stands stays =
    chain-rest part owners now on forced stays

-- has the room that it has in what is read,
forced-room : (shape : Shape) (owners : Owners) (now : Seen) → IsOn shape now
    → AllForced now.count now.cur now.may → (content : Content) → StandsFor shape now.cur content
    → StaysIn shape owners now.cur → (kept : Lengths)
    → All (λ (entry : List ℕ × ℕ). IsPlaceOf shape entry.0) kept
    → HasRoom shape kept now.cur → HasKeptRoom shape kept now
forced-room (KeyedShape part) owners now on forced content stands stays kept places room =
    rooms-after part owners now on forced kept places stands.chain room
forced-room (NumberedShape part) owners now on forced content stands stays kept places room =
    chain-room part owners now on forced stays kept room

-- and knows its blocks as it is attached.
pub attached-knows : (shape : Shape) (known : Known) (now : Seen)
    → IsAttachedWith shape known now.cur → Knows shape known now
attached-knows (KeyedShape part) known now attached = record {
  way = (
    subst (λ (split : Option AreaSplit). KeyedUnderWay part split now) (sym attached.0) tt,
    subst (λ (move : Option MoveNow). MoveUnderWay part move now) (sym attached.3) tt,
    inl attached.0,
    subst IsPastClaim (sym attached.3) tt,
  );
  blocks = (
    attached.2,
    subst (λ (met : List Met). All (IsChainMet part now.cur) met) (sym attached.1)
        (All-nil (IsChainMet part now.cur)),
    attached.4,
  );
}
attached-knows (NumberedShape part) known now attached =
    record { way = tt; blocks = attached.2 }

attached-no-split : (shape : Shape) (known : Known) (image : Image)
    → IsAttachedWith shape known image → known.split ≡ None
attached-no-split (KeyedShape part) known image attached = attached.0
attached-no-split (NumberedShape part) known image attached = attached.0

pub attached-no-move : (shape : Shape) (known : Known) (image : Image)
    → IsAttachedWith shape known image → known.move ≡ None
attached-no-move (KeyedShape part) known image attached = attached.3
attached-no-move (NumberedShape part) known image attached = attached.3

-- ---- what is kept

module _ (P : List ℕ → Type 0) where
  abbrev AtEach : Lengths → Type 0
  AtEach lengths = All (λ (entry : List ℕ × ℕ). P entry.0) lengths

  with-one : (lengths : Lengths) (place : List ℕ) (n : ℕ) → P place → AtEach lengths
      → AtEach (with_length lengths place n)
  with-one [] place n holds all =
      All-cons (λ (entry : List ℕ × ℕ). P entry.0) (place, n) [] holds
      (All-nil (λ (entry : List ℕ × ℕ). P entry.0))
  with-one (entry ∷ lengths) place n holds all = by (place_cmp place entry.0)
      (All-head (λ (e : List ℕ × ℕ). P e.0) entry lengths all)
      (with-one lengths place n holds (All-tail (λ (e : List ℕ × ℕ). P e.0) entry lengths all))
    where
      by : (o : Ordering) → P entry.0 → AtEach (with_length lengths place n)
          → AtEach (lengthen_by o place n entry lengths (with_length lengths place n))
      by Less first rest = All-cons (λ (e : List ℕ × ℕ). P e.0) (place, n) (entry ∷ lengths) holds
          all
      by Equal first rest = All-cons (λ (e : List ℕ × ℕ). P e.0) (entry.0, max n entry.1) lengths
          first (All-tail (λ (e : List ℕ × ℕ). P e.0) entry lengths all)
      by Greater first rest = All-cons (λ (e : List ℕ × ℕ). P e.0) entry
          (with_length lengths place n) first rest

  pub with-all : (lengths more : Lengths) → AtEach lengths → AtEach more
      → AtEach (with_lengths lengths more)
  with-all lengths [] all others = all
  with-all lengths (entry ∷ more) all others =
      with-all (with_length lengths entry.0 entry.1) more
      (with-one lengths entry.0 entry.1
      (All-head (λ (e : List ℕ × ℕ). P e.0) entry more others) all)
      (All-tail (λ (e : List ℕ × ℕ). P e.0) entry more others)

shape-is : (x y : Shape) → Some x ≡ Some y → x ≡ y
shape-is x y same = cc

module _ (shapes : ℕ → Option Shape) (part : ℕ) where
  -- before-images of a part are at its places
  kept-places : (shape : Shape) → shapes part ≡ Some shape → (images : List BeforeImage)
      → All (CanPutBack shapes) images
      → All (λ (entry : List ℕ × ℕ). IsPlaceOf shape entry.0) (filter_map (length_in part) images)
  kept-places shape laid [] all = All-nil (λ (entry : List ℕ × ℕ). IsPlaceOf shape entry.0)
  kept-places shape laid (image ∷ images) all =
      by (nat_eq image.part part) refl (option_and_then record_of image.old)
      (kept-places shape laid images (All-tail (CanPutBack shapes) image images all))
    where
      first : CanPutBack shapes image
      first = All-head (CanPutBack shapes) image images all

      by : (mine : Bool) → nat_eq image.part part ≡ mine → (old : Option (List ℕ))
          → All (λ (entry : List ℕ × ℕ). IsPlaceOf shape entry.0)
          (filter_map (length_in part) images)
          → All (λ (entry : List ℕ × ℕ). IsPlaceOf shape entry.0)
          (cons_option (cond mine (length_of image.place old) None)
          (filter_map (length_in part) images))
      by false is old rest = rest
      by true is None rest = rest
      by true is (Some bytes) rest = All-cons (λ (entry : List ℕ × ℕ). IsPlaceOf shape entry.0)
          (image.place, length bytes) (filter_map (length_in part) images)
          (subst (λ (s : Shape). IsPlaceOf s image.place)
          (shape-is first.shape shape (sym first.laid
          ∙ ap shapes (eqb-true image.part part is) ∙ laid)) first.place)
          rest

-- ---- the volume

module _ (geometry : Geometry) (number : ℕ) (now : Seen) (recovered : ℕ → Content)
    (is : Recovers geometry number now.cur recovered) (of : IsOf geometry now)
    (forced : AllForced now.count now.cur now.may) where
  abbrev images : List BeforeImage
  images = images_of is.log.records

  laid-same : (part : ℕ) → shape_by geometry (recovered 0) part
      ≡ shapes_by geometry is.log is.contents part
  laid-same part = ap (λ (c : Content). shape_by geometry c part) (is.back 0)

  item-back : (part : ℕ) (place : List ℕ) → item_at (recovered part) place
      ≡ kept_or (oldest images part place) (standing_of (item_at (is.contents part) place))
  item-back part place = ap (λ (c : Content). item_at c place) (is.back part)
      ∙ back-record part images (is.contents part) place
      (contents-ascend geometry number now.cur recovered is part)

  -- each log that an image may have has the same records
  same-records : (content : LogContent) → IsLogOf (made geometry is.log) content
      → content.records ≡ is.log.records
  same-records content log = ⊎_elim
      (λ (prefix : IsPrefixOf (made geometry is.log) content).
      ap (λ (c : LogContent). c.records) prefix.is
      ∙ take_all prefix.count is.log.records prefix.forced)
      (λ (behind : (made geometry is.log).behind ≡ Some content).
      ap (λ (c : LogContent). c.records) (sym (log-is is.log content behind)))
      log
    where
      log-is : (x y : LogContent) → Some x ≡ Some y → x ≡ y
      log-is x y same = cc

  -- ---- each part in blocks of its own

  module _ (owners : Owners) (past : IsPastLog geometry owners)
      (within : (part : ℕ) (shape : Shape)
      → shapes_by geometry is.log is.contents part ≡ Some shape
      → StaysIn shape owners now.cur) where
    rests-by : (part : ℕ) (shape : Shape) → IsOn shape now
        → shapes_by geometry is.log is.contents part ≡ Some shape → IsAtRest shape owners now
    rests-by part shape on laid = forced-rests shape owners now on forced (is.contents part)
        (is.stands.laid part shape laid) (within part shape laid)

    room-by : (part : ℕ) (shape : Shape) → IsOn shape now
        → shapes_by geometry is.log is.contents part ≡ Some shape
        → HasKeptRoom shape (lengths_kept images part) now
    room-by part shape on laid = forced-room shape owners now on forced (is.contents part)
        (is.stands.laid part shape laid) (within part shape laid) (lengths_kept images part)
        (with-all (IsPlaceOf shape) [] (filter_map (length_in part) images)
        (All-nil (λ (entry : List ℕ × ℕ). IsPlaceOf shape entry.0))
        (kept-places (shapes_by geometry is.log is.contents) part shape laid images is.images))
        (is.room part shape laid)

    on-by : (part : ℕ) (shape : Shape) → shapes_by geometry is.log is.contents part ≡ Some shape
        → IsOn shape now
    on-by part shape laid =
        inside-on geometry shape now of.count of.size (is.inside part shape laid)

    -- a part as it is opened
    pub part-opened : (shape : Shape)
        → shapes_by geometry is.log is.contents (part_no shape).0 ≡ Some shape
        → IsOpenedPart geometry owners images shape now
    part-opened shape laid =
        let on = on-by (part_no shape).0 shape laid in
        let rests = rests-by (part_no shape).0 shape on laid in
        let sound = rest-sound shape owners now rests in
        record {
          on = on;
          past = λ n inside. past n (part_no shape).0
              (first-owned shape owners now sound n inside);
          ready = λ known attached. record {
            rests = rests;
            room = room-by (part_no shape).0 shape on laid;
            knows = attached-knows shape known now attached;
            no_split = attached-no-split shape known now.cur attached;
            no_move = attached-no-move shape known now.cur attached;
          };
          firm = λ place found held. item-here shape owners now forced sound place found held;
          fits = All-weaker (CanPutBack (shapes_by geometry is.log is.contents)) (FitsPart shape)
              (λ image can mine.
              let same : can.shape ≡ shape = shape-is can.shape shape
              (sym can.laid ∙ ap (shapes_by geometry is.log is.contents) mine ∙ laid) in
              record {
                place = subst (λ (s : Shape). IsPlaceOf s image.place) same can.place;
                old = subst (λ (s : Shape). IfSome (option_and_then record_of image.old)
                    (IsRecordOf s image.place)) same can.old;
              })
              images is.images;
        }

-- Where contents of which it recovers to the records have what the blocks have with the
-- before-images put back, they are committed.
module _ (geometry : Geometry) (number : ℕ) (now : Seen) (contents : ℕ → Content)
    (is : Recovers geometry number now.cur (standing_all contents)) (of : IsOf geometry now)
    (forced : AllForced now.count now.cur now.may)
    (back : AreBackOf geometry is.log.records contents now.cur)
    (ascends : (part : ℕ) → Ascends (contents part))
    (others : (part : ℕ) → shape_by geometry (contents 0) part ≡ None → contents part ≡ []) where
  abbrev put : List BeforeImage
  put = images_of is.log.records

  -- the contents lay the parts as what is recovered does
  laid-whole : (part : ℕ) → shape_by geometry (contents 0) part
      ≡ shapes_by geometry is.log is.contents part
  laid-whole part = sym (shape-stands geometry (contents 0) part)
      ∙ laid-same geometry number now (standing_all contents) is of forced part

  committed-by : AreCommitted geometry is.log.records contents
  committed-by = record {
    each = ascends;
    catalog = catalog-whole geometry (contents 0)
        (subst (IsCatalog geometry) (sym (is.back 0)) is.stands.catalog);
    inside = λ part shape laid. is.inside part shape (sym (laid-whole part) ∙ laid);
    others = others;
    images = backs-by (shapes_by geometry is.log is.contents) (shape_by geometry (contents 0))
        laid-whole put is.images;
    alone = is.alone;
    olds = λ part place image there.
        sym (item-back geometry number now (standing_all contents) is of forced part place
        ∙ ap (λ (o : Option BeforeImage). kept_or o
        (standing_of (item_at (is.contents part) place))) there)
        ∙ stands-item (contents part) place (ascends part);
  }

  module _ (owners : Owners) (past : IsPastLog geometry owners)
      (within : (part : ℕ) (shape : Shape)
      → shapes_by geometry is.log is.contents part ≡ Some shape
      → StaysIn shape owners now.cur) where
    settled-part : (part : ℕ) (shape : Shape)
        → shape_by geometry (contents 0) part ≡ Some shape
        → IsSettledPart shape owners part put (contents part) now
    settled-part part shape laid =
        let found = sym (laid-whole part) ∙ laid in
        let on = on-by geometry number now (standing_all contents) is of forced owners past within
        part shape found in
        let rests = rests-by geometry number now (standing_all contents) is of forced owners past
        within part shape on found in
        record {
          rests = rests;
          firm = item-here shape owners now forced (rest-sound shape owners now rests);
          back = back part shape laid;
        }

    part-by : (part : ℕ) (shape : Shape) → shape_by geometry (contents 0) part ≡ Some shape
        → IsPartSafe shape owners part put (contents part) now
    part-by part shape laid =
        let found = sym (laid-whole part) ∙ laid in
        let settled = settled-part part shape laid in
        record {
          sound = rest-sound shape owners now settled.rests;
          items = λ place item may none. settled.firm place item may
              ∙ sym (back part shape laid place
              ∙ ap (λ (o : Option BeforeImage). item_back shape o (item_of shape now.cur place))
              none);
          room = room-by geometry number now (standing_all contents) is of forced owners past
              within part shape (on-by geometry number now (standing_all contents) is of forced
              owners past within part shape found) found;
        }

    safe-by : IsSafeBy geometry owners is.log.records contents now
    safe-by = record { committed = committed-by; parts = part-by }

    module _ (allowed : IsAllowed geometry) (stands : LogStands (made geometry is.log) now) where
      pub settled-safe : IsSafe geometry number owners (made geometry is.log) (alike contents) now
      settled-safe = record {
        allowed = allowed;
        past = past;
        blocks = of;
        shape = refl;
        header = λ block may. forced 0 block (omega (arith, of.count, allowed.two_areas)) may
            ∙ is.stands.header;
        logs = λ image left. stands_has (made geometry is.log) now image allowed stands.fits stands
            left;
        by_log = λ content log. subst
            (λ (rs : List LogRecord). IsSafeBy geometry owners rs contents now)
            (sym (same-records geometry number now (standing_all contents) is of forced content
            log)) safe-by;
      }

      -- and its units of recovery may be undone, by these parts
      pub settled-undone : (shapes : List Shape)
          → All (λ (shape : Shape). shapes_by geometry is.log is.contents (part_no shape).0
          ≡ Some shape) shapes → All (IsCovered shapes) put
          → IsSettled number owners (made geometry is.log) contents shapes now
      settled-undone shapes laid covered = record {
        safe = settled-safe;
        ascends = ascends;
        opened = record {
          laid = All-weaker
              (λ (shape : Shape). shapes_by geometry is.log is.contents (part_no shape).0
              ≡ Some shape)
              (λ (shape : Shape). shape_by geometry (contents 0) (part_no shape).0 ≡ Some shape)
              (λ shape there. laid-whole (part_no shape).0 ∙ there) shapes laid;
          records = same-records geometry number now (standing_all contents) is of forced;
        };
        parts = settled-part;
        covered = covered;
      }
