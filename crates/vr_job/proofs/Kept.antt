-- What stays of a volume that is held through a crash.
use Rattle.std.proofs.Common.{◌≡◌, ◌≢◌, ◌∙◌, ⊎_elim, ℕ, ◌<◌, ◌≤◌, ◌==◌, Bool, true, false, cond}
use Rattle.std.proofs.Common.{List, [], ◌∷◌, Option, Some, None, refl, sym, ap, subst, arith}
use Rattle.std.proofs.Common.{All, filter_map, length, map}
use Rattle.std.specs.List.{AllByRecursion}
use Rattle.std.proofs.lemmas.Bool.{true≢false}
use Rattle.std.proofs.lemmas.List.{take_all}
use Rattle.std.proofs.lemmas.List.Elements.{All-cons, All-head, All-nil, All-tail}
use Rattle.vr_types.specs.Content.{Ascends, Content, item_at}
use Rattle.vr_types.specs.Image.{Block, Image, block_at}
use Rattle.vr_types.specs.Seen.{Left, Seen}
use Rattle.vr_types.specs.declared.geometry.Geometry.{Geometry}
use Rattle.vr_types.specs.declared.unit.Unit.{Unit as UnitOfRecovery}
use Rattle.vr_altkey.proofs.CallerLemmas.{same_items}
use Rattle.vr_attach.specs.Laid.{catalog_shape}
use Rattle.vr_history.specs.State.{BeforeImage, Logged, State}
use Rattle.vr_log.specs.Content.{Content as LogContent}
use Rattle.vr_log.specs.LogNow.{HasLog, IsBehind, IsForced, IsLogOf, IsPrefixOf, LogNow, first_of}
use Rattle.vr_log.specs.Spells.{Spells}
use Rattle.vr_log.specs.declared.record.LogRecord.{LogRecord}
use Rattle.vr_log.specs.declared.record.LogRecord.TheVariants.{Before, End}
use Rattle.vr_log.proofs.CallerLemmas.{one_log}
use Rattle.vr_record_file.specs.Now.{IsOfDeck, state_now}
use Rattle.vr_recover.specs.Recovered.{IsRecovered, item_back}
use Rattle.vr_space.specs.Part.{Shape, item_of, part_no, way_to}
use Rattle.vr_space.proofs.CallerLemmas.{IsPartBlock, found-may, rest-sound, way-within}
use Rattle.vr_store.specs.Store.{IsRestedPart, IsSet, IsStored, StoreNow, owners_of}
use Rattle.vr_store.proofs.Among.{HasShape, among-shape}
use Rattle.vr_store.proofs.CallerLemmas.{number-at, rested-at}
use Rattle.vr_undo.specs.Records.{images_in}
use Rattle.vr_volume.specs.Committed.{logged_of}
use Rattle.vr_volume.specs.Crashes.{IsUnlogged}
use Rattle.vr_volume.specs.Laid.{shape_by}
use Rattle.vr_volume.specs.PutBack.{image_in, images_of, is_image_of, oldest}
use Rattle.vr_volume.proofs.Alone.{is-there}
use Rattle.vr_event.specs.Volume.{IsHeld, IsWhole, VolumeNow}
use Rattle.vr_job.specs.Events.{KeepsAtRest}
use Rattle.vr_job.specs.Kept.{KeepsItems}

-- ---- places that no unit has logged

-- a place that no unit has logged has no before-image
oldest-none : (images : List BeforeImage) (part : ℕ) (place : List ℕ)
    → All (λ (logged : Logged). logged.part ≡ part → logged.place ≢ place) (map logged_of images)
    → oldest images part place ≡ None
oldest-none [] part place free = refl
oldest-none (image ∷ images) part place free = by_first (is_image_of part place image) refl
    (oldest-none images part place (All-tail
    (λ (logged : Logged). logged.part ≡ part → logged.place ≢ place) (logged_of image)
    (map logged_of images) free))
  where
    by_first : (here : Bool) → is_image_of part place image ≡ here
        → oldest images part place ≡ None
        → cond here (Some image) (oldest images part place) ≡ None
    by_first true is further =
        let there = is-there part place image is in
        absurd (All-head (λ (logged : Logged). logged.part ≡ part → logged.place ≢ place)
        (logged_of image) (map logged_of images) free there.0 (sym there.1))
    by_first false is further = further

-- nothing of the catalog is logged, since decks alone log
catalog-unlogged : (logged : List Logged) (place : List ℕ) → AllByRecursion IsOfDeck logged
    → All (λ (one : Logged). one.part ≡ 0 → one.place ≢ place) logged
catalog-unlogged [] place decks = All-nil (λ (one : Logged). one.part ≡ 0 → one.place ≢ place)
catalog-unlogged (one ∷ logged) place decks =
    All-cons (λ (one : Logged). one.part ≡ 0 → one.place ≢ place) one logged
    (λ own. absurd (true≢false (sym (sym decks.0.1 ∙ ap (λ (n : ℕ). n == 0) own))))
    (catalog-unlogged logged place decks.1)

-- ---- the before-images of the log that an image has

none-live : (records : List LogRecord) → filter_map (image_in []) records ≡ []
none-live [] = refl
none-live (Before unit part place old ∷ records) = none-live records
none-live (End unit kind ∷ records) = none-live records

-- they are those of all records, since these are forced
images-had : (log : LogNow) → IsForced log
    → ((older : LogContent) → log.behind ≡ Some older → IsBehind log older)
    → (content : LogContent) → IsLogOf log content
    → images_of content.records ≡ images_of log.records
images-had log forced behind content is = ⊎_elim
    (λ (prefix : IsPrefixOf log content). of-prefix prefix.count
    (omega (arith, forced, prefix.forced)) prefix.is)
    (λ older. ⊎_elim
    (λ own. of-prefix log.forced (omega (arith, forced)) own)
    (λ begun. ap (λ (live : List UnitOfRecovery). filter_map (image_in live) content.records) begun.1
    ∙ none-live content.records
    ∙ sym (ap images_of (no-length log.records (omega (arith, forced, begun.0)))))
    (behind content older)) is
  where
    of-prefix : (count : ℕ) → length log.records ≤ count → content ≡ first_of log count
        → images_of content.records ≡ images_of log.records
    of-prefix count whole same = ap (λ (c : LogContent). images_of c.records) same
        ∙ ap images_of (take_all count log.records whole)

    no-length : (records : List LogRecord) → length records ≡ 0 → records ≡ []
    no-length [] none = refl
    no-length (one ∷ records) none = absurd (omega (arith, none))

-- ---- the items of an image

-- a crash leaves blocks of their size
abbrev pub AreSized : Seen → Type 0
AreSized now = (n : ℕ) (block : Block) → n < now.count → now.may n block
    → length block ≡ now.size

module _ (number : ℕ) (store : StoreNow) (state : State) (now : Seen) (set : IsSet store now)
    (stored : IsStored number store state now) (of_decks : AllByRecursion IsOfDeck state.logged)
    (sized : AreSized now) (image : Image) (left : Left now image) where
  abbrev geometry : Geometry
  geometry = store.log.geometry

  -- a block of the log has room for its generation
  long : 8 ≤ length (block_at image 1)
  long = omega (
    arith,
    sized 1 (block_at image 1) there (left.each 1 there),
    set.blocks.size,
    set.allowed.size.some,
    set.allowed.size.small,
  )
    where
      there : 1 < now.count
      there = omega (arith, set.blocks.count, set.allowed.two_areas)

  has : HasLog store.log image
  has = stored.volume.safe.logs image (record { each = λ n below inside. left.each n below })

  -- the image spells the before-images that are kept in memory, whatever its log is taken for
  images-here : (content : LogContent) → Spells geometry image content
      → images_of content.records ≡ images_in store.undo
  images-here content spelled =
      ap (λ (log : LogContent). images_of log.records)
      (one_log geometry image content has.0 long spelled has.1)
      ∙ images-had store.log stored.volume.forced stored.volume.stands.behind has.0 has.2
      ∙ sym stored.volume.kept

  unlogged-none : (part : ℕ) (place : List ℕ) → IsUnlogged state part place
      → oldest (images_in store.undo) part place ≡ None
  unlogged-none part place unlogged = oldest-none (images_in store.undo) part place
      (subst (All (λ (one : Logged). one.part ≡ part → one.place ≢ place)) (sym stored.logged)
      unlogged)

  -- such a place has the item of the state in the image
  item-here : (part : ℕ) (shape : Shape) → shape_by geometry (state.contents 0) part ≡ Some shape
      → (place : List ℕ) → IsUnlogged state part place
      → item_of shape image place ≡ item_at (state.contents part) place
  item-here part shape laid place unlogged =
      subst (λ (s : Shape). item_of s image place ≡ item_at (state.contents part) place) there.is
      (rested.firm place (item_of there.part.shape image place)
      (ap (λ (n : ℕ). oldest (images_in store.undo) n place) own
      ∙ unlogged-none part place unlogged)
      (found-may (IsPartBlock there.part.shape (owners_of store) now) now.may image
      (λ n is. left.each n is.0) (way_to there.part.shape place)
      (way-within there.part.shape (owners_of store) now
      (rest-sound there.part.shape (owners_of store) now rested.rests) place))
      ∙ ap (λ (n : ℕ). item_at (state.contents n) place) own)
    where
      there : HasShape store.parts part shape
      there = among-shape store.parts part shape (stored.whole part shape laid)

      rested : IsRestedPart store state now there.part
      rested = rested-at store now set number state part there.part there.found stored

      own : (part_no there.part.shape).0 ≡ part
      own = number-at store now set part there.part there.found

  module _ (contents : ℕ → Content) (recovered : IsRecovered geometry number contents image)
      (ascends : (part : ℕ) → Ascends (contents part)) where
    -- where the contents lay the part too, they have what the image has
    item-back : (part : ℕ) (shape : Shape) → shape_by geometry (contents 0) part ≡ Some shape
        → shape_by geometry (state.contents 0) part ≡ Some shape → (place : List ℕ)
        → IsUnlogged state part place
        → item_at (contents part) place ≡ item_at (state.contents part) place
    item-back part shape laid here place unlogged = recovered.items part shape laid place
        ∙ ap (λ (found : Option BeforeImage). item_back shape found (item_of shape image place))
        (ap (λ (images : List BeforeImage). oldest images part place)
        (images-here recovered.log recovered.spelled) ∙ unlogged-none part place unlogged)
        ∙ item-here part shape here place unlogged

    -- the catalog is the state's
    catalog-back : contents 0 ≡ state.contents 0
    catalog-back = same_items (contents 0) (state.contents 0) (ascends 0) (stored.volume.laid.each 0)
        (λ place. item-back 0 (catalog_shape geometry) refl refl place
        (catalog-unlogged state.logged place of_decks))

  pub stored-kept : KeepsItems geometry number state image
  stored-kept = record {
    kept = λ contents recovered ascends part shape laid place unlogged.
        item-back contents recovered ascends part shape
        (ap (λ (catalog : Content). shape_by geometry catalog part)
        (catalog-back contents recovered ascends) ∙ laid) laid place unlogged;
  }

-- ---- of a volume that is held

-- So it is of a volume that is held.
pub held-kept : {B : Type 0} (seen : B → Seen) (opening : State) (volume : VolumeNow B)
    → IsWhole seen volume → IsHeld seen opening volume → AreSized (seen volume.blocks)
    → KeepsAtRest seen volume.file.geometry volume.number opening volume.blocks volume.file.entries
held-kept seen opening volume whole held sized none image left =
    let stops : volume.file.stopped ≡ None = held.file.now.stopped ∙ none in
    subst (λ (g : Geometry). KeepsItems g volume.number (state_now opening volume.file) image)
    (whole.geometry stops)
    (stored-kept volume.number volume.store (state_now opening volume.file) (seen volume.blocks)
    (whole.set stops) (held.stored stops) (held.file.now.of_decks stops) sized image left)
