-- What is committed of a volume whose log has what its state logged.
use Rattle.std.proofs.Common.{◌≡◌, ◌≢◌, ◌<◌, ℕ, Bool, true, false, cond, not, List, [], ◌∷◌, ◌++◌}
use Rattle.std.proofs.Common.{Option, Some, None, refl, sym, ap, subst, ◌∙◌, arith, ◌==◌, ◌&&◌, ◌||◌}
use Rattle.std.specs.Prelude.{All}
use Rattle.std.proofs.lemmas.Bool.Decides.{Decides-eqb}
use Rattle.std.proofs.lemmas.List.Elements.{All-cons, All-head, All-nil, All-tail}
use Rattle.vr_types.specs.Content.{Ascends, Content, item_at}
use Rattle.vr_types.specs.Locks.{same_unit}
use Rattle.vr_types.specs.declared.geometry.Geometry.{Geometry}
use Rattle.vr_types.specs.declared.unit.PartNo.{PartNo}
use Rattle.vr_types.specs.declared.unit.Unit.{Unit as UnitOfRecovery}
use Rattle.vr_space.specs.Part.{Shape}
use Rattle.vr_altkey.specs.Placing.{placed_in}
use Rattle.vr_log.specs.LogNow.{LogNow}
use Rattle.vr_log.specs.declared.record.LogRecord.{LogRecord}
use Rattle.vr_log.specs.declared.record.LogRecord.TheVariants.{Before, End}
use Rattle.vr_history.specs.Committed.{kept_or}
use Rattle.vr_history.specs.State.{BeforeImage, State}
use Rattle.vr_history.proofs.Same.{unit_same}
use Rattle.vr_volume.specs.CatalogRules.{IsCatalog}
use Rattle.vr_volume.specs.Committed.{HasLogged, IsCurrent, IsKeptIn, IsLaidState, IsPast}
use Rattle.vr_volume.specs.Committed.{committed_by, commits_unit, has_commit, is_committing}
use Rattle.vr_volume.specs.Committed.{kept_by}
use Rattle.vr_volume.specs.Laid.{shape_by}
use Rattle.vr_volume.specs.PutBack.{AreAlone, images_of, oldest, put_back, standing_of}
use Rattle.vr_volume.specs.Safe.{AreCommitted}
use Rattle.vr_volume.specs.Volume.{CanPutBack, IsInside}
use Rattle.vr_volume.proofs.PuttingBack.{back-ascends, back-item}

-- ---- contents to which nothing is put back

pub back-apart : (part : ℕ) (images : List BeforeImage) (content : Content)
    → All (λ (image : BeforeImage). image.part ≢ part) images
    → put_back part images content ≡ content
back-apart part [] content none = refl
back-apart part (image ∷ images) content none =
    by_part (image.part == part) refl
    (back-apart part images content (All-tail (λ
    (i : BeforeImage). i.part ≢ part) image images none))
  where
    by_part : (mine : Bool) → (image.part == part) ≡ mine → put_back part images content ≡ content
        → cond mine (placed_in image.place image.old (put_back part images content))
        (put_back part images content) ≡ content
    by_part true same further = absurd
        (All-head (λ (i : BeforeImage). i.part ≢ part) image images none
        ((Decides-eqb image.part part).0 same))
    by_part false same further = further

-- ---- units whose commit the log hasn't

-- no unit that is current has its end in the log
pub past-none : (numbers : ℕ → ℕ) (unit : UnitOfRecovery) (records : List LogRecord)
    → All (IsPast numbers) records → IsCurrent numbers unit → has_commit records unit ≡ false
past-none numbers unit [] past current = refl
past-none numbers unit (Before other part place old ∷ records) past current =
    past-none numbers unit records
    (All-tail (IsPast numbers) (Before other part place old) records past) current
past-none numbers unit (End other kind ∷ records) past current =
    by_same (same_unit other unit) refl
    (past-none numbers unit records (All-tail (IsPast numbers)
    (End other kind) records past) current)
  where
    by_same : (same : Bool) → same_unit other unit ≡ same → has_commit records unit ≡ false
        → ((same && is_committing kind) || has_commit records unit) ≡ false
    by_same true is none =
        let it : unit ≡ other = sym (unit_same other unit is) in
        let below : other.number < numbers other.deck =
        All-head (IsPast numbers) (End other kind) records past in
        let now : unit.number ≡ numbers unit.deck = current in
        absurd (omega (
          arith,
          below,
          now,
          ap (λ (u : UnitOfRecovery). u.number) it,
          ap (λ (u : UnitOfRecovery). numbers u.deck) it,
        ))
    by_same false is none = none

-- each image is kept by a log that has no commit of its unit
pub kept-all : (records : List LogRecord) (befores : List BeforeImage)
    → All (λ (image : BeforeImage). has_commit records image.unit ≡ false) befores
    → kept_by records befores ≡ befores
kept-all records [] none = refl
kept-all records (image ∷ befores) none =
    ap (λ (b : Bool). cond (not b) (image ∷ kept_by records befores) (kept_by records befores))
    (All-head (λ (i : BeforeImage). has_commit records i.unit ≡ false) image befores none)
    ∙ ap (λ (images : List BeforeImage). image ∷ images) (kept-all records befores
    (All-tail (λ (i : BeforeImage). has_commit records i.unit ≡ false) image befores none))

-- with one record more that commits nothing
pub commit-append : (records : List LogRecord) (rec : LogRecord) (unit : UnitOfRecovery)
    → has_commit (records ++ rec ∷ []) unit ≡ (has_commit records unit || commits_unit unit rec)
commit-append [] rec unit = or-false (commits_unit unit rec)
  where
    or-false : (b : Bool) → (b || false) ≡ b
    or-false true = refl
    or-false false = refl
commit-append (first ∷ records) rec unit =
    by_first (commits_unit unit first) (commit-append records rec unit)
  where
    by_first : (b : Bool)
        → has_commit (records ++ rec ∷ []) unit ≡ (has_commit records unit || commits_unit unit rec)
        → (b || has_commit (records ++ rec ∷ []) unit)
        ≡ ((b || has_commit records unit) || commits_unit unit rec)
    by_first true further = refl
    by_first false further = further

-- which images are kept is the same by two logs that have the same commits
pub kept-same : (records more : List LogRecord)
    → ((unit : UnitOfRecovery) → has_commit more unit ≡ has_commit records unit)
    → (befores : List BeforeImage) → kept_by more befores ≡ kept_by records befores
kept-same records more same [] = refl
kept-same records more same (image ∷ befores) =
    ap (λ (b : Bool). cond (not b) (image ∷ kept_by more befores) (kept_by more befores))
    (same image.unit)
    ∙ ap (λ (images : List BeforeImage). cond (not (has_commit records image.unit))
    (image ∷ images) images) (kept-same records more same befores)

-- a before record commits nothing
pub before-same : (state : State) (records : List LogRecord) (unit : UnitOfRecovery) (part : PartNo)
    (place : List ℕ) (old : Option (List ℕ))
    → committed_by state (records ++ Before unit part place old ∷ []) ≡ committed_by state records
before-same state records unit part place old =
    ap contents-of (kept-same records (records ++ Before unit part place old ∷ [])
    (λ other. commit-append records (Before unit part place old) other
    ∙ or-false (has_commit records other)) state.befores)
  where
    contents-of : List BeforeImage → ℕ → Content
    contents-of images p = put_back p images (state.contents p)

    or-false : (b : Bool) → (b || false) ≡ b
    or-false true = refl
    or-false false = refl

-- ---- the contents of a state

-- a place at which something stands in an image list
pub kept-some : (records : List LogRecord) (P : BeforeImage → Type 0) (befores : List BeforeImage)
    → All P befores → All P (kept_by records befores)
kept-some records P befores all =
    Rattle.std.proofs.lemmas.List.Elements.All-filter
    (λ (image : BeforeImage). not (has_commit records image.unit)) P befores all

pub all-map : (P Q : BeforeImage → Type 0) → ((image : BeforeImage) → P image → Q image)
    → (images : List BeforeImage) → All P images → All Q images
all-map P Q more [] all = All-nil Q
all-map P Q more (image ∷ images) all = All-cons Q image images
    (more image (All-head P image images all))
    (all-map P Q more images (All-tail P image images all))

-- what may be put back may be where the parts are laid the same
pub backs-by : (one other : ℕ → Option Shape) → ((part : ℕ) → other part ≡ one part)
    → (images : List BeforeImage) → All (CanPutBack one) images → All (CanPutBack other) images
backs-by one other same = all-map (CanPutBack one) (CanPutBack other)
    (λ image can. record {
      shape = can.shape;
      laid = same image.part ∙ can.laid;
      place = can.place;
      old = can.old;
    })

module _ (geometry : Geometry) (state : State) (laid : IsLaidState geometry state) where
  -- the catalog is committed as it is
  pub catalog-same : (records : List LogRecord)
      → committed_by state records 0 ≡ state.contents 0
  catalog-same records = back-apart 0 (kept_by records state.befores) (state.contents 0)
      (kept-some records (λ (image : BeforeImage). image.part ≢ 0) state.befores
      (all-map (IsKeptIn geometry state) (λ (image : BeforeImage). image.part ≢ 0)
      (λ image kept. kept.not_catalog) state.befores laid.kept))

  -- and so the parts are laid by them as by the state
  pub shape-same : (records : List LogRecord) (part : ℕ)
      → shape_by geometry (committed_by state records 0) part
      ≡ shape_by geometry (state.contents 0) part
  shape-same records part =
      ap (λ (catalog : Content). shape_by geometry catalog part) (catalog-same records)

  -- a part that isn't laid has nothing
  pub committed-none : (records : List LogRecord) (part : ℕ)
      → shape_by geometry (state.contents 0) part ≡ None
      → committed_by state records part ≡ []
  committed-none records part none =
      back-apart part (kept_by records state.befores) (state.contents part)
      (kept-some records (λ (image : BeforeImage). image.part ≢ part) state.befores
      (all-map (IsKeptIn geometry state) (λ (image : BeforeImage). image.part ≢ part)
      (λ image kept here. no-shape kept.shape
      (sym (ap (shape_by geometry (state.contents 0)) here ∙ none) ∙ kept.laid))
      state.befores laid.kept))
      ∙ laid.others part none
    where
      no-shape : (shape : Shape) → None ≡ Some shape → ⊥
      no-shape shape same = cc

  pub committed-ascends : (records : List LogRecord) (part : ℕ)
      → Ascends (committed_by state records part)
  committed-ascends records part = back-ascends part (kept_by records state.befores)
      (state.contents part) (laid.each part)

  -- a before-image that may be put back by the state may be by what is committed
  pub images-same : (records : List LogRecord) (images : List BeforeImage)
      → All (CanPutBack (shape_by geometry (state.contents 0))) images
      → All (CanPutBack (shape_by geometry (committed_by state records 0))) images
  images-same records images = backs-by (shape_by geometry (state.contents 0))
      (shape_by geometry (committed_by state records 0)) (shape-same records) images

  -- and the other way round
  pub images-back : (records : List LogRecord) (images : List BeforeImage)
      → All (CanPutBack (shape_by geometry (committed_by state records 0))) images
      → All (CanPutBack (shape_by geometry (state.contents 0))) images
  images-back records images = backs-by (shape_by geometry (committed_by state records 0))
      (shape_by geometry (state.contents 0)) (λ part. sym (shape-same records part)) images

  -- the contents are committed ones, where the parts are on blocks that there are, and each
  -- before-image of the log may be put back, and is the record of its place
  pub are-committed : (records : List LogRecord)
      → ((part : ℕ) (shape : Shape) → shape_by geometry (state.contents 0) part ≡ Some shape
      → IsInside geometry shape)
      → All (CanPutBack (shape_by geometry (state.contents 0))) (images_of records)
      → AreAlone (images_of records)
      → ((part : ℕ) (place : List ℕ) (image : BeforeImage)
      → oldest (images_of records) part place ≡ Some image
      → image.old ≡ standing_of (item_at (committed_by state records part) place))
      → AreCommitted geometry records (committed_by state records)
  are-committed records inside images alone olds = record {
    each = committed-ascends records;
    catalog = subst (IsCatalog geometry) (sym (catalog-same records)) laid.catalog;
    inside = λ part shape is. inside part shape (sym (shape-same records part) ∙ is);
    others = λ part none. committed-none records part (sym (shape-same records part) ∙ none);
    images = images-same records (images_of records) images;
    alone = alone;
    olds = olds;
  }

  module _ (log : LogNow) (logged : HasLogged log state) where
    pub none-ended : All (λ (image : BeforeImage). has_commit log.records image.unit ≡ false)
        state.befores
    none-ended = all-map (λ (image : BeforeImage). IsCurrent state.numbers image.unit)
        (λ (image : BeforeImage). has_commit log.records image.unit ≡ false)
        (λ image current. past-none state.numbers image.unit log.records logged.ended current)
        state.befores logged.current

    -- all that the units keep is kept by the log
    pub all-kept : kept_by log.records state.befores ≡ state.befores
    all-kept = kept-all log.records state.befores none-ended

    -- the item that is committed at a place
    pub item-now : (part : ℕ) (place : List ℕ) → item_at (committed_by state log.records part) place
        ≡ kept_or (oldest state.befores part place) (item_at (state.contents part) place)
    item-now part place =
        back-item part (kept_by log.records state.befores) (state.contents part) place
        ∙ ap (λ (images : List BeforeImage). kept_or (oldest images part place)
        (item_at (state.contents part) place)) all-kept
