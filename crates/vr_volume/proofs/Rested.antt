-- What calls leave of a volume at rest.
use Rattle.std.proofs.Common.{◌≡◌, ◌≢◌, inl, inr, ⊎_elim, ◌<◌, ◌+◌, ℕ, Bool, true}
use Rattle.std.proofs.Common.{false, cond, List, [], ◌∷◌, ◌++◌, Option, Some, None, refl, sym, ap}
use Rattle.std.proofs.Common.{subst, ◌∙◌, arith, length, ◌==◌, ◌&&◌, IsTrue}
use Rattle.std.specs.List.{filter_map}
use Rattle.std.specs.Option.{option_and_then, option_or}
use Rattle.std.proofs.lemmas.Bool.{true≢false}
use Rattle.std.proofs.lemmas.List.{take_all}
use Rattle.std.proofs.lemmas.Bool.Decides.{Decides-eqb}
use Rattle.std.proofs.lemmas.Slice.Eq.{bytes_eq-Decides}
use Rattle.std.specs.Prelude.{bytes_eq}
use Rattle.vr_types.specs.Content.{Content, Item, item_at, record_of}
use Rattle.vr_types.specs.Image.{Block, Image, block_at}
use Rattle.vr_types.specs.Regions.{Touches}
use Rattle.vr_types.specs.Seen.{Left, Seen}
use Rattle.vr_types.specs.declared.geometry.Geometry.{Geometry}
use Rattle.vr_types.specs.Blocks.{Keeps}
use Rattle.vr_types.specs.declared.unit.PartNo.{PartNo}
use Rattle.vr_types.specs.declared.unit.Unit.{Unit as UnitOfRecovery}
use Rattle.vr_space.specs.Owners.{Owners}
use Rattle.vr_space.specs.Known.{Known}
use Rattle.vr_attach.specs.Owning.{IsPastLog}
use Rattle.vr_space.specs.Part.{HasKeptRoom, InPart, IsAtRest, Knows, OwnsClaimed, SameRecords}
use Rattle.vr_space.specs.Part.{IsPlaceOf, IsSound, MayHold, SetsOne, Shape, item_of, left_by}
use Rattle.vr_space.specs.Part.{part_no}
use Rattle.vr_space.specs.Room.{Lengths}
use Rattle.vr_space.proofs.CallerLemmas.{StaysPart, holds-less, knows-stays, on-still, one-owner}
use Rattle.vr_space.proofs.CallerLemmas.{rest-grows, rest-sound, rest-stays, room-stays, same-stays}
use Rattle.vr_space.proofs.CallerLemmas.{owns-grows, owns-same, stays-keeps}
use Rattle.vr_log.specs.Content.{Content as LogContent}
use Rattle.vr_log.specs.Live.{live_in}
use Rattle.vr_log.specs.LogNow.{IsForced, IsLogOf, IsPrefixOf, LogNow}
use Rattle.vr_log.specs.Standing.{InLog, LogStands}
use Rattle.vr_log.specs.declared.record.LogRecord.{LogRecord}
use Rattle.vr_log.specs.declared.record.LogRecord.TheVariants.{Before, End}
use Rattle.vr_history.specs.State.{BeforeImage, State}
use Rattle.vr_volume.specs.Committed.{IsLaidState, committed_by}
use Rattle.vr_volume.specs.Laid.{shape_by}
use Rattle.vr_volume.specs.Laying.{IsFreeIn, IsLaidBy, IsLaidSo, IsLogged}
use Rattle.vr_volume.specs.Logged.{IsFirstBefore}
use Rattle.vr_volume.specs.PutBack.{image_in, images_of, length_of, lengths_kept}
use Rattle.vr_volume.specs.PutBack.{is_image_of, oldest}
use Rattle.vr_volume.specs.Rests.{HoldsNoMore, IsGivenFor, IsPartAtRest, IsVolumeAtRest}
use Rattle.vr_volume.specs.Safe.{IsSafe}
use Rattle.vr_volume.specs.Steps.{Changing, IsChangeOf, IsFirstChange, IsNextChange, IsPutBack}
use Rattle.vr_volume.specs.Steps.{IsPutIn, image_by}
use Rattle.vr_volume.proofs.Calls.{Leaves, safe-grows, safe-keeps}
use Rattle.vr_volume.proofs.Committing.{shape-same}
use Rattle.vr_volume.proofs.Befores.{option-first}
use Rattle.vr_volume.proofs.Images.{kept-append, kept_more, oldest-append}
use Rattle.vr_volume.proofs.Meeting.{first-before}
use Rattle.vr_volume.proofs.Moving.{catalog-stays, images-now, item-else, item-here}
use Rattle.vr_volume.proofs.Moving.{laid-first-change, logged-first-change, other-part}
use Rattle.vr_volume.proofs.Resting.{rest-records, safe-first-change, safe-next-change}
use Rattle.vr_volume.proofs.Resting.{safe-put-back}
use Rattle.vr_volume.proofs.Undoing.{laid-next-change, laid-put-back, logged-next-change}
use Rattle.vr_volume.proofs.Undoing.{logged-put-back, put-some}

some-none : {X : Type 0} {x : X} → Some x ≡ None → ⊥
some-none same = cc

-- ---- the log, while blocks past it are put

log-inside : (log : LogNow) (now : Seen) → LogStands log now → (i : ℕ) → i < log.geometry.log
    → 1 + i < now.count
log-inside log now stands i below =
    omega (arith, below, stands.shape.count, stands.allowed.two_areas)

module _ (log : LogNow) (forced : IsForced log) (a b : Seen) (stands : LogStands log a)
    (count : b.count ≡ a.count)
    (size : b.size ≡ a.size)
    (fewer : (n : ℕ) (block : Block) → n < a.count → InLog log.geometry n → b.may n block
    → a.may n block) where
  before : (i : ℕ) (block : Block) → i < log.geometry.log → b.may (1 + i) block
      → a.may (1 + i) block
  before i block below may = fewer (1 + i) block (log-inside log a stands i below)
      (omega arith, omega (arith, below)) may

  -- A log whose records are all forced stands still.
  pub stands-still : LogStands log b
  stands-still = record {
    allowed = stands.allowed;
    shape = record { count = count ∙ stands.shape.count; size = size ∙ stands.shape.size };
    some = stands.some;
    below = stands.below;
    fields = stands.fields;
    fits = stands.fits;
    forced = stands.forced;
    behind = stands.behind;
    begun = stands.begun;
    leaves = record {
      young = λ i block below is. stands.leaves.young i block below (before i block below is);
      each = λ i block below closed is. stands.leaves.each i block below closed
          (before i block below is);
      first = λ none block is. stands.leaves.first none block
          (before 0 block stands.allowed.some_log is);
      older = λ older is image on. stands.leaves.older older is image (record {
        each = λ n below region. fewer n (block_at image n) below region
            (on.each n (omega (arith, below, count)) region);
      });
    };
    current = λ more. absurd (more forced);
  }

-- a call of a part past the log leaves it
pub stands-part : (log : LogNow) (shape : Shape) (owners : Owners) (Q : Image → Type 0)
    (a b : Seen) → IsForced log → LogStands log a → IsPastLog log.geometry owners
    → Touches (InPart shape owners) Q a b → LogStands log b
stands-part log shape owners Q a b forced stands past call = stands-still log forced a b stands
    call.count_same call.size_same
    (λ n block below inside may. call.adds_none n block below
    (λ there. omega (arith, past n (part_no shape).0 there, inside.1)) may)

-- ---- a part that a call leaves as it is

-- a call of another part leaves it as it is,
pub stays-apart : (shape other : Shape) (owners : Owners) (Q : Image → Type 0) (a b : Seen)
    → (part_no other).0 ≢ (part_no shape).0 → Touches (InPart shape owners) Q a b
    → StaysPart other owners a b
stays-apart shape other owners Q a b apart call = record {
  count = call.count_same;
  size = call.size_same;
  same = λ n inside. call.content n (outside n inside);
  fewer = λ n block below inside may. call.adds_none n block below (outside n inside) may;
}
  where
    outside : (n : ℕ) → InPart other owners n → InPart shape owners n → ⊥
    outside n inside there = apart (one-owner other shape owners n inside there)

-- and so do two calls
pub stays-then : (shape : Shape) (owners : Owners) (a b c : Seen) → StaysPart shape owners a b
    → StaysPart shape owners b c → StaysPart shape owners a c
stays-then shape owners a b c first second = record {
  count = second.count ∙ first.count;
  size = second.size ∙ first.size;
  same = λ n inside. second.same n inside ∙ first.same n inside;
  fewer = λ n block below inside may. first.fewer n block below inside
      (second.fewer n block (omega (arith, below, first.count)) inside may);
}

-- its places may hold no more,
pub stays-holds : (shape : Shape) (owners : Owners) (a b : Seen) → StaysPart shape owners a b
    → IsSound shape owners a → (place : List ℕ) (found : Option Item)
    → MayHold shape b.may place found → MayHold shape a.may place found
stays-holds shape owners a b stays sound = holds-less shape owners a b.may sound
    (λ n block is. stays.fewer n block is.0 is.1)

-- so it stays at rest
pub part-stays : (geometry : Geometry) (owners : Owners) (images more : List BeforeImage)
    (old new : State)
    (shape : Shape) (known : Known) (a b : Seen) → StaysPart shape owners a b → Left a a.cur
    → IsPartAtRest geometry owners images old shape known a → new.contents 0 ≡ old.contents 0
    → new.contents (part_no shape).0 ≡ old.contents (part_no shape).0
    → lengths_kept more (part_no shape).0 ≡ lengths_kept images (part_no shape).0
    → ((place : List ℕ) → oldest more (part_no shape).0 place ≡ None
    → oldest images (part_no shape).0 place ≡ None)
    → IsPartAtRest geometry owners more new shape known b
part-stays geometry owners images more old new shape known a b stays left part catalog content kept
    free =
    record {
      laid = ap (λ (c : Content). shape_by geometry c (part_no shape).0) catalog ∙ part.laid;
      on = on-still shape a b part.on stays.count stays.size;
      rests = rest-stays a b shape owners stays part.rests;
      claimed = part.claimed;
      room = subst (λ (lengths : Lengths). HasKeptRoom shape lengths b) (sym kept)
          (room-stays a b shape owners (lengths_kept images (part_no shape).0) stays sound
          part.room);
      knows = knows-stays a b shape owners known stays sound left part.claimed part.knows;
      reads = λ place.
          same-stays a b shape owners stays sound left place ∙ part.reads place
          ∙ sym (ap (λ (c : Content). item_at c place) content);
      firm = λ place found none holds. part.firm place found (free place none)
          (stays-holds shape owners a b stays sound place found holds)
          ∙ sym (ap (λ (c : Content). item_at c place) content);
    }
  where
    sound : IsSound shape owners a
    sound = rest-sound shape owners a part.rests

-- ---- what a call is given

-- the item of the change, by the place of the change
pub given-item : (old : State) (change : Changing) (shape : Shape) (place : List ℕ)
    (found : Option (List ℕ)) → IsGivenFor old change shape place found
    → change.new ≡ left_by shape (item_at (old.contents change.part.0) change.place) found
given-item old change shape place found given = given.item
    ∙ ap (λ (q : List ℕ). left_by shape (item_at (old.contents change.part.0) q) found)
    given.place_is

-- ---- a first change

-- an image of another part takes no room of this one
pub other-kept : (images : List BeforeImage) (image : BeforeImage) (part : ℕ)
    → (image.part ≡ part → ⊥)
    → lengths_kept (images ++ image ∷ []) part ≡ lengths_kept images part
other-kept images image part apart = kept-append images image part
    ∙ ap (kept_more (lengths_kept images part)) (none (image.part == part) refl)
  where
    none : (mine : Bool) → (image.part == part) ≡ mine
        → cond mine (length_of image.place (option_and_then record_of image.old)) None ≡ None
    none true is = absurd (apart ((Decides-eqb image.part part).0 is))
    none false is = refl

-- ---- the images of a place

-- a place that is free with an image more was free,
pub free-before : (images : List BeforeImage) (image : BeforeImage) (part : ℕ) (place : List ℕ)
    → oldest (images ++ image ∷ []) part place ≡ None → oldest images part place ≡ None
free-before images image part place none =
    option-first (oldest images part place) _ (sym (oldest-append images image part place) ∙ none)

-- and the place of the image isn't
pub image-there : (images : List BeforeImage) (image : BeforeImage)
    → oldest (images ++ image ∷ []) image.part image.place ≢ None
image-there images image none = by_found (oldest images image.part image.place)
    (sym (oldest-append images image image.part image.place
    ∙ ap (λ (here : Bool). option_or (oldest images image.part image.place)
    (cond here (Some image) None)) self) ∙ none)
  where
    self : is_image_of image.part image.place image ≡ true
    self = ap (λ (mine : Bool). mine && bytes_eq image.place image.place)
        ((Decides-eqb image.part image.part).1 refl)
        ∙ (bytes_eq-Decides image.place image.place).1 refl

    by_found : (found : Option BeforeImage) → option_or found (Some image) ≡ None → ⊥
    by_found None same = some-none same
    by_found (Some first) same = some-none same

-- The place has an image after a call, and each place that is free then was free before it.
pub record HasImageHere (shape : Shape) (images after : List BeforeImage) (at : List ℕ) : Type 0
  where
    pub some : oldest after (part_no shape).0 at ≢ None
    pub free : (place : List ℕ) → oldest after (part_no shape).0 place ≡ None
        → oldest images (part_no shape).0 place ≡ None

-- ---- the part in which a record is set

module _ (geometry : Geometry) (owners : Owners) (old new : State) (change : Changing)
    (a d : Seen) (laid : IsLaidState geometry old) (of : IsChangeOf geometry old change)
    (put : IsPutIn change old new) where
  pub part-set : (shape : Shape) (known later : Known) (found : Option (List ℕ))
      (images after : List BeforeImage)
      → IsPartAtRest geometry owners images old shape known a
      → HasImageHere shape images after change.place → HoldsNoMore shape change.place a d
      → part_no shape ≡ change.part → d.count ≡ a.count → d.size ≡ a.size
      → IsAtRest shape owners d → HasKeptRoom shape (lengths_kept after (part_no shape).0) d
      → Knows shape later d → later.move ≡ known.move
      → SetsOne shape change.place found a.cur d.cur → change.new
      ≡ left_by shape (item_at (old.contents change.part.0) change.place) found
      → IsPartAtRest geometry owners after new shape later d
  part-set shape known later found images after part here holds at count size rests room knows moves
      set given =
      record {
        laid = ap (λ (c : Content). shape_by geometry c (part_no shape).0)
            (catalog-stays geometry old new change laid of put) ∙ part.laid;
        on = on-still shape a d part.on count size;
        rests = rests;
        claimed = owns-same shape owners known later moves part.claimed;
        room = room;
        knows = knows;
        reads = λ place. by_place place (bytes_eq place change.place) refl;
        firm = λ place item none held. elsewhere place item none held
            (λ same. here.some (sym (ap (oldest after (part_no shape).0) same) ∙ none));
      }
    where
      elsewhere : (place : List ℕ) (item : Option Item)
          → oldest after (part_no shape).0 place ≡ None → MayHold shape d.may place item
          → place ≢ change.place → item ≡ item_at (new.contents (part_no shape).0) place
      elsewhere place item none held apart =
          part.firm place item (here.free place none) (holds place item apart held)
          ∙ sym (item-else geometry old new change laid of put (part_no shape).0 place
          (λ same there. apart there))

      same-part : (part_no shape).0 ≡ change.part.0
      same-part = ap (λ (p : PartNo). p.0) at

      item-before : item_of shape a.cur change.place
          ≡ item_at (old.contents change.part.0) change.place
      item-before = part.reads change.place
          ∙ ap (λ (p : ℕ). item_at (old.contents p) change.place) same-part

      by_place : (place : List ℕ) (here : Bool) → bytes_eq place change.place ≡ here
          → item_of shape d.cur place ≡ item_at (new.contents (part_no shape).0) place
      by_place place true is =
          let there : place ≡ change.place = (bytes_eq-Decides place change.place).0 is in
          ap (item_of shape d.cur) there ∙ set.here
          ∙ ap (λ (now : Option Item). left_by shape now found) item-before ∙ sym given
          ∙ sym (item-here geometry old new change laid of put)
          ∙ sym (ap (λ (p : ℕ). item_at (new.contents p) place) same-part
          ∙ ap (item_at (new.contents change.part.0)) there)
      by_place place false is =
          let apart : place ≡ change.place → ⊥ =
          λ same. true≢false (sym ((bytes_eq-Decides place change.place).1 same) ∙ is) in
          set.others place apart ∙ part.reads place
          ∙ sym (item-else geometry old new change laid of put (part_no shape).0
          place (λ same there. apart there))

-- each other part stays at rest
module _ (geometry : Geometry) (number : ℕ) (owners : Owners) (log : LogNow)
    (images after : List BeforeImage) (old new : State) (change : Changing) (a d : Seen)
    (rest : IsVolumeAtRest geometry number owners log images old a)
    (of : IsChangeOf geometry old change) (put : IsPutIn change old new)
    (kept : after ≡ images ++ image_by change ∷ []) where
  pub other-first-change : (shape : Shape) (known : Known)
      → IsPartAtRest geometry owners images old shape known a
      → ((part_no shape).0 ≡ change.part.0 → ⊥) → StaysPart shape owners a d → Left a a.cur
      → IsPartAtRest geometry owners after new shape known d
  other-first-change shape known part apart stays left =
      part-stays geometry owners images after old new shape known a d stays left part
      (catalog-stays geometry old new change rest.laid of put)
      (other-part geometry old new change rest.laid of put (part_no shape).0 apart)
      (ap (λ (found : List BeforeImage). lengths_kept found (part_no shape).0) kept
      ∙ other-kept images (image_by change) (part_no shape).0 (λ same. apart (sym same)))
      (λ place none. free-before images (image_by change) (part_no shape).0 place
      (sym (ap (λ (found : List BeforeImage). oldest found (part_no shape).0 place) kept) ∙ none))

module _ (geometry : Geometry) (number : ℕ) (owners : Owners) (log more : LogNow)
    (images after : List BeforeImage) (old new : State) (change : Changing) (a d : Seen)
    (rest : IsVolumeAtRest geometry number owners log images old a)
    (of : IsChangeOf geometry old change) (made : IsFirstChange log change old new)
    (logged : IsLogged log (Before change.unit change.part change.place change.old) more)
    (kept : after ≡ images ++ image_by change ∷ []) where
  -- The volume is at rest by the new state,
  pub volume-first-change : LogStands more d
      → IsSafe geometry number owners more (committed_by old) d
      → IsVolumeAtRest geometry number owners more after new d
  volume-first-change stands safe = record {
    safe = safe-first-change geometry old new log change rest.laid rest.logged of number owners
        more d made logged.records (λ content is. logged.all content is ∙ sym logged.records) safe;
    stands = stands;
    sound = logged.sound;
    forced = logged.forced;
    laid = laid-first-change geometry log more old new change rest.laid rest.logged of made
        logged.records;
    logged = logged-first-change geometry log more old new change rest.laid rest.logged of made
        logged.records;
    kept = kept ∙ ap (λ (found : List BeforeImage). found ++ image_by change ∷ []) rest.kept
        ∙ sym (images-now geometry log more old new change rest.laid rest.logged of made
        logged.records);
  }

  -- and so is the part that is changed.
  pub part-first-change : (shape : Shape) (known later : Known) (found : Option (List ℕ))
      → IsPartAtRest geometry owners images old shape known a
      → HoldsNoMore shape change.place a d → part_no shape ≡ change.part
      → d.count ≡ a.count → d.size ≡ a.size
      → IsAtRest shape owners d → HasKeptRoom shape (lengths_kept after (part_no shape).0) d
      → Knows shape later d → later.move ≡ known.move
      → SetsOne shape change.place found a.cur d.cur → change.new
      ≡ left_by shape (item_at (old.contents change.part.0) change.place) found
      → IsPartAtRest geometry owners after new shape later d
  part-first-change shape known later found part holds at count size rests room knows moves set
      given = part-set geometry owners old new change a d rest.laid of made.contents shape known
      later found images after part
      (record {
        some = λ none. image-there images (image_by change)
            (ap (λ (p : ℕ). oldest (images ++ image_by change ∷ []) p change.place)
            (sym (ap (λ (p : PartNo). p.0) at))
            ∙ sym (ap (λ (them : List BeforeImage). oldest them (part_no shape).0 change.place)
            kept) ∙ none);
        free = λ place none. free-before images (image_by change) (part_no shape).0 place
            (sym (ap (λ (them : List BeforeImage). oldest them (part_no shape).0 place) kept)
            ∙ none);
      })
      holds at count size rests room knows moves set given

-- ---- what a first change asks for

module _ (geometry : Geometry) (number : ℕ) (owners : Owners) (log : LogNow)
    (images after : List BeforeImage)
    (old new : State) (change : Changing) (a : Seen) (shape : Shape) (known : Known)
    (place : List ℕ) (found : Option (List ℕ))
    (rest : IsVolumeAtRest geometry number owners log images old a)
    (part : IsPartAtRest geometry owners images old shape known a)
    (of : IsChangeOf geometry old change) (made : IsFirstChange log change old new)
    (given : IsGivenFor old change shape place found)
    (kept : after ≡ images ++ image_by change ∷ []) where
  part-same : (part_no shape).0 ≡ change.part.0
  part-same = ap (λ (p : PartNo). p.0) given.part

  free-here : oldest (images_of log.records) (part_no shape).0 place ≡ None
  free-here = ap (λ (p : ℕ). oldest (images_of log.records) p place) part-same
      ∙ ap (oldest (images_of log.records) change.part.0) given.place_is ∙ made.free

  pub rec-is : Before change.unit change.part change.place change.old
      ≡ Before change.unit (part_no shape) place change.old
  rec-is = ap (λ (p : PartNo). Before change.unit p change.place change.old) (sym given.part)
      ∙ ap (λ (q : List ℕ). Before change.unit (part_no shape) q change.old) (sym given.place_is)

  -- The before-image is the committed item of its place,
  pub first-of : IsPlaceOf shape place
      → IsFirstBefore geometry log (committed_by old) change.unit (part_no shape) place change.old
  first-of at = first-before geometry old rest.laid log rest.logged rest.forced change.unit
      (part_no shape) place change.old shape of.current part.laid at free-here
      (made.item
      ∙ sym (ap (λ (p : ℕ). item_at (old.contents p) place) part-same
      ∙ ap (item_at (old.contents change.part.0)) given.place_is))

  images-with : images_of (log.records
      ++ Before change.unit (part_no shape) place change.old ∷ []) ≡ after
  images-with = ap (λ (rec : LogRecord). images_of (log.records ++ rec ∷ [])) (sym rec-is)
      ∙ images-now geometry log
      (record log {
        records = log.records
            ++ Before change.unit change.part change.place change.old ∷ [];
      }) old new change rest.laid
      rest.logged of made refl
      ∙ ap (λ (found : List BeforeImage). found ++ image_by change ∷ []) (sym rest.kept)
      ∙ sym kept

  -- and the part is laid by a log with it.
  pub laid-by-more : IsLaidBy geometry
      (log.records ++ Before change.unit (part_no shape) place change.old ∷ []) (committed_by old)
      (part_no shape).0 shape (lengths_kept after (part_no shape).0)
  laid-by-more = record {
    laid = shape-same geometry old rest.laid (log.records
        ++ Before change.unit (part_no shape) place change.old ∷ []) (part_no shape).0 ∙ part.laid;
    kept_is = ap (λ (found : List BeforeImage). lengths_kept found (part_no shape).0)
        (sym images-with);
  }

-- ---- a place that was logged before

module _ (geometry : Geometry) (number : ℕ) (owners : Owners) (log : LogNow)
    (images : List BeforeImage)
    (old : State) (a : Seen) (rest : IsVolumeAtRest geometry number owners log images old a) where
  -- where a place has an image, each log has all records
  pub all-records : (part : ℕ) (place : List ℕ) → oldest images part place ≢ None
      → (content : LogContent) → IsLogOf log content → content.records ≡ log.records
  all-records part place some content is = ⊎_elim (λ all. all)
      (λ none. absurd (some (ap (λ (found : List BeforeImage). oldest found part place)
      (rest.kept ∙ ap images_of none))))
      (rest-records log rest.forced rest.stands.behind content is)

  -- the place is free in each log,
  pub free-again : (part : ℕ) (place : List ℕ) → oldest images part place ≢ None
      → IsFreeIn log part place
  free-again part place some content is none = some
      (ap (λ (found : List BeforeImage). oldest found part place)
      (rest.kept ∙ ap images_of (sym (all-records part place some content is))) ∙ none)

  -- and the part is laid by each.
  pub laid-again : (shape : Shape) (known : Known) (place : List ℕ)
      → IsPartAtRest geometry owners images old shape known a
      → oldest images (part_no shape).0 place ≢ None
      → (kept : Lengths) → kept ≡ lengths_kept images (part_no shape).0
      → IsLaidSo geometry log (committed_by old) (part_no shape).0 shape kept
  laid-again shape known place part some kept room content is = record {
    laid = shape-same geometry old rest.laid content.records (part_no shape).0 ∙ part.laid;
    kept_is = room ∙ ap (λ (found : List BeforeImage). lengths_kept found (part_no shape).0)
        (rest.kept ∙ ap images_of (sym (all-records (part_no shape).0 place some content is)));
  }

  module _ (change : Changing) where
    -- a place for which something is kept has an image
    pub kept-some : oldest old.befores change.part.0 change.place ≢ None
        → oldest images change.part.0 change.place ≢ None
    kept-some some none = by_found (oldest old.befores change.part.0 change.place) refl
      where
        by_found : (found : Option BeforeImage)
            → oldest old.befores change.part.0 change.place ≡ found → ⊥
        by_found None is = some is
        by_found (Some image) is = some-none
            (sym (ap (λ (f : List BeforeImage). oldest f change.part.0 change.place) rest.kept
            ∙ rest.logged.kept change.part.0 change.place image is) ∙ none)

    -- so has the place that a call was given
    pub place-some : (shape : Shape) (place : List ℕ) (found : Option (List ℕ))
        → IsGivenFor old change shape place found
        → oldest old.befores change.part.0 change.place ≢ None
        → oldest images (part_no shape).0 place ≢ None
    place-some shape place found given some none = kept-some some
        (ap (λ (p : ℕ). oldest images p change.place) (sym (ap (λ (p : PartNo). p.0) given.part))
        ∙ ap (oldest images (part_no shape).0) (sym given.place_is) ∙ none)

  module _ (new : State) (change : Changing) (d : Seen) (of : IsChangeOf geometry old change)
    where
      -- each other part stays at rest
      pub other-stays : (shape other : Shape) (Q : Image → Type 0) (known later : Known)
          → IsPutIn change old new
          → IsPartAtRest geometry owners images old shape known a → part_no shape ≡ change.part
          → ((part_no other).0 ≡ change.part.0 → ⊥) → Touches (InPart shape owners) Q a d
          → Left a a.cur → IsPartAtRest geometry owners images old other later a
          → IsPartAtRest geometry owners images new other later d
      other-stays shape other Q known later put part at apart call left others =
          part-stays geometry owners images images old new other later a d
          (stays-apart shape other owners Q a d
          (λ same. apart (same ∙ ap (λ (p : PartNo). p.0) at)) call)
          left others (catalog-stays geometry old new change rest.laid of put)
          (other-part geometry old new change rest.laid of put (part_no other).0 apart) refl
          (λ place none. none)

  module _ (new : State) (change : Changing) (d : Seen) (of : IsChangeOf geometry old change)
      (stands : LogStands log d)
      (safe : IsSafe geometry number owners log (committed_by old) d) where
    -- The volume is at rest by the state after a further change,
    pub volume-next-change : IsNextChange change old new
        → IsVolumeAtRest geometry number owners log images new d
    volume-next-change made = record {
      safe = safe-next-change geometry old new log change rest.laid rest.logged of number owners d
          made (all-records change.part.0 change.place (kept-some change made.kept)) safe;
      stands = stands;
      sound = rest.sound;
      forced = rest.forced;
      laid = laid-next-change geometry log old new change rest.laid rest.logged of made;
      logged = logged-next-change geometry log old new change rest.laid rest.logged of made;
      kept = rest.kept;
    }

    -- and by that after a before-image is put back.
    pub volume-put-back : IsPutBack change old new
        → IsVolumeAtRest geometry number owners log images new d
    volume-put-back made = record {
      safe = safe-put-back geometry old new log change rest.laid rest.logged of number owners d made
          (all-records change.part.0 change.place (kept-some change (put-some geometry log old new
          change rest.laid rest.logged of made))) safe;
      stands = stands;
      sound = rest.sound;
      forced = rest.forced;
      laid = laid-put-back geometry log old new change rest.laid rest.logged of made;
      logged = logged-put-back geometry log old new change rest.laid rest.logged of made;
      kept = rest.kept;
    }

    -- and so is the part that is changed.
    pub part-put : (shape : Shape) (known later : Known) (place : List ℕ)
        (found : Option (List ℕ)) → IsPutIn change old new
        → IsPartAtRest geometry owners images old shape known a
        → oldest images (part_no shape).0 place ≢ None → HoldsNoMore shape place a d
        → IsGivenFor old change shape place found → d.count ≡ a.count → d.size ≡ a.size
        → IsAtRest shape owners d → HasKeptRoom shape (lengths_kept images (part_no shape).0) d
        → Knows shape later d → later.move ≡ known.move → SetsOne shape place found a.cur d.cur
        → IsPartAtRest geometry owners images new shape later d
    part-put shape known later place found put part some holds given count size rests room knows
        moves set = part-set geometry owners old new change a d rest.laid of put shape known later found
        images images part
        (record {
          some = λ none. some (ap (oldest images (part_no shape).0) given.place_is ∙ none);
          free = λ other none. none;
        })
        (subst (λ (q : List ℕ). HoldsNoMore shape q a d) given.place_is holds)
        given.part count size rests room knows moves
        (subst (λ (q : List ℕ). SetsOne shape q found a.cur d.cur) given.place_is set)
        (given-item old change shape place found given)

-- ---- calls that leave the records as they are

-- no image is of a unit where none is live
pub none-images : (records : List LogRecord) → live_in records ≡ [] → images_of records ≡ []
none-images records none = ap (λ (units : List UnitOfRecovery). filter_map (image_in units) records)
    none ∙ empty records
  where
    empty : (rs : List LogRecord) → filter_map (image_in []) rs ≡ []
    empty [] = refl
    empty (Before unit part place old ∷ rs) = empty rs
    empty (End unit kind ∷ rs) = empty rs

module _ (geometry : Geometry) (number : ℕ) (owners : Owners) (log : LogNow)
    (images : List BeforeImage) (state : State) (a : Seen)
    (rest : IsVolumeAtRest geometry number owners log images state a) where
  -- the images of each log that an image may have
  pub images-rest : (content : LogContent) → IsLogOf log content → images ≡ images_of content.records
  images-rest content (inl prefix) = rest.kept ∙ ap images_of (sym (⊎_elim (λ all. all)
      (λ none. of-none prefix none) (rest-records log rest.forced rest.stands.behind content
      (inl prefix))))
    where
      of-none : IsPrefixOf log content → log.records ≡ [] → content.records ≡ log.records
      of-none has none = ap (λ (c : LogContent). c.records) has.is
          ∙ take_all has.count log.records (omega (arith, rest.forced, has.forced))
  images-rest content (inr older) = ⊎_elim
      (λ own. rest.kept ∙ ap images_of (sym (ap (λ (c : LogContent). c.records) own
      ∙ take_all log.forced log.records (omega (arith, rest.forced)))))
      (λ begun. rest.kept
      ∙ ap images_of (no-length log.records (omega (arith, rest.forced, begun.0)))
      ∙ sym (none-images content.records begun.1)) (rest.stands.behind content older)
    where
      no-length : (records : List LogRecord) → length records ≡ 0 → records ≡ []
      no-length [] none = refl
      no-length (rec ∷ records) none = absurd (omega (arith, none))

  -- the part is laid by each log
  pub laid-rest : (shape : Shape) (known : Known)
      → IsPartAtRest geometry owners images state shape known a → (kept : Lengths)
      → kept ≡ lengths_kept images (part_no shape).0
      → IsLaidSo geometry log (committed_by state) (part_no shape).0 shape kept
  laid-rest shape known part kept room content is = record {
    laid = shape-same geometry state rest.laid content.records (part_no shape).0 ∙ part.laid;
    kept_is = room ∙ ap (λ (found : List BeforeImage). lengths_kept found (part_no shape).0)
        (images-rest content is);
  }

  -- The volume stays at rest where its blocks are safe and its log stands.
  pub volume-same : (d : Seen) → IsSafe geometry number owners log (committed_by state) d
      → LogStands log d → IsVolumeAtRest geometry number owners log images state d
  volume-same d safe stands = record {
    safe = safe;
    stands = stands;
    sound = rest.sound;
    forced = rest.forced;
    laid = rest.laid;
    logged = rest.logged;
    kept = rest.kept;
  }

-- The part stays at rest where each place has the record that it had.
pub part-same-records : (geometry : Geometry) (owners : Owners) (images : List BeforeImage)
    (state : State) (shape : Shape) (known later : Known) (a d : Seen)
    → IsPartAtRest geometry owners images state shape known a → d.count ≡ a.count → d.size ≡ a.size
    → IsAtRest shape owners d → OwnsClaimed shape owners later
    → HasKeptRoom shape (lengths_kept images (part_no shape).0) d
    → Knows shape later d → SameRecords shape a.cur d.cur
    → ((place : List ℕ) (found : Option Item) → MayHold shape d.may place found
    → MayHold shape a.may place found)
    → IsPartAtRest geometry owners images state shape later d
part-same-records geometry owners images state shape known later a d part count size rests claimed
    room knows same holds = record {
      laid = part.laid;
      on = on-still shape a d part.on count size;
      rests = rests;
      claimed = claimed;
      room = room;
      knows = knows;
      reads = λ place. same place ∙ part.reads place;
      firm = λ place found none held. part.firm place found none (holds place found held);
    }

-- ---- calls that put nothing

-- the log and each part stay
module _ (tells : Bool) (told : IsTrue tells) (a b : Seen) (call : Keeps tells a b) where
  pub stands-keeps : (log : LogNow) → IsForced log → LogStands log a → LogStands log b
  stands-keeps log forced stands = stands-still log forced a b stands call.count_same call.size_same
      (λ n block below inside may. call.adds_none told n block below may)

  -- A volume at rest stays so.
  pub volume-keeps : (geometry : Geometry) (number : ℕ) (owners : Owners) (log : LogNow)
      (images : List BeforeImage) (state : State)
      → IsVolumeAtRest geometry number owners log images state a
      → IsVolumeAtRest geometry number owners log images state b
  volume-keeps geometry number owners log images state rest =
      volume-same geometry number owners log images state a rest b
      (safe-keeps tells told geometry number owners log (committed_by state) a b call rest.safe)
      (stands-keeps log rest.forced rest.stands)

  pub part-keeps : (geometry : Geometry) (owners : Owners) (images : List BeforeImage)
      (state : State) (shape : Shape) (known : Known) → Left a a.cur
      → IsPartAtRest geometry owners images state shape known a
      → IsPartAtRest geometry owners images state shape known b
  part-keeps geometry owners images state shape known left part =
      part-stays geometry owners images images state state shape known a b
      (stays-keeps tells told a b call shape owners) left part refl refl refl
      (λ place none. none)

-- ---- owners who leave each part the blocks that it has

pub part-grows : (geometry : Geometry) (owners grown : Owners) (images : List BeforeImage)
    (state : State) (shape : Shape) (known : Known) (now : Seen) → Leaves owners grown
    → IsPartAtRest geometry owners images state shape known now
    → IsPartAtRest geometry grown images state shape known now
part-grows geometry owners grown images state shape known now leaves part = record {
  laid = part.laid;
  on = part.on;
  rests = rest-grows owners grown now leaves shape part.rests;
  claimed = owns-grows shape owners grown known leaves part.claimed;
  room = part.room;
  knows = part.knows;
  reads = part.reads;
  firm = part.firm;
}

pub volume-grows : (geometry : Geometry) (number : ℕ) (owners grown : Owners) (log : LogNow)
    (images : List BeforeImage) (state : State) (now : Seen) → Leaves owners grown
    → IsPastLog geometry grown → IsVolumeAtRest geometry number owners log images state now
    → IsVolumeAtRest geometry number grown log images state now
volume-grows geometry number owners grown log images state now leaves past rest = record {
  safe = safe-grows geometry number owners grown log (committed_by state) now leaves past rest.safe;
  stands = rest.stands;
  sound = rest.sound;
  forced = rest.forced;
  laid = rest.laid;
  logged = rest.logged;
  kept = rest.kept;
}
