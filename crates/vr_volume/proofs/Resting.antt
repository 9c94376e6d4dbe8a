-- A safe volume whose committed contents are told in another way that is alike, and what is
-- committed as the state goes on.
use Rattle.std.proofs.Common.{◌≡◌, ◌⊎◌, inl, inr, ⊎_elim, ◌≤◌, ℕ, List, [], ◌∷◌, ◌++◌}
use Rattle.std.proofs.Common.{Some, None, refl, sym, ap, subst, ◌∙◌, arith, length}
use Rattle.std.proofs.lemmas.List.{take_all}
use Rattle.std.specs.Prelude.{All}
use Rattle.vr_types.specs.Content.{Content, Ascends, item_at}
use Rattle.vr_types.specs.Seen.{Seen}
use Rattle.vr_types.specs.declared.geometry.Geometry.{Geometry}
use Rattle.vr_space.specs.Owners.{Owners}
use Rattle.vr_log.specs.Content.{Content as LogContent}
use Rattle.vr_log.specs.LogNow.{IsBehind, IsForced, IsLogOf, IsPrefixOf, LogNow, first_of}
use Rattle.vr_log.specs.declared.record.LogRecord.{LogRecord}
use Rattle.vr_log.specs.declared.record.LogRecord.TheVariants.{Before}
use Rattle.vr_history.specs.State.{State}
use Rattle.vr_volume.specs.CatalogRules.{IsCatalog}
use Rattle.vr_volume.specs.Committed.{HasLogged, IsLaidState, committed_by}
use Rattle.vr_volume.specs.Laid.{shape_by}
use Rattle.vr_volume.specs.PutBack.{images_of, oldest, standing_of}
use Rattle.vr_volume.specs.Safe.{AreCommitted, IsPartSafe, IsSafe, IsSafeBy}
use Rattle.vr_volume.specs.Steps.{Changing, IsChangeOf, IsFirstChange, IsNextChange}
use Rattle.vr_volume.specs.Steps.{IsPutBack}
use Rattle.vr_volume.specs.Volume.{CanPutBack}
use Rattle.vr_volume.proofs.Committing.{before-same, catalog-same, committed-ascends, committed-none}
use Rattle.vr_volume.proofs.Committing.{shape-same}
use Rattle.vr_volume.proofs.Moving.{catalog-stays, items-first-change, laid-first-change}
use Rattle.vr_volume.proofs.Undoing.{items-next-change, items-put-back, laid-next-change}
use Rattle.vr_volume.proofs.Undoing.{laid-put-back, records-put-back}

-- ---- contents that are alike

-- Contents that a log of these records commits are alike: they have the same catalog, and the same
-- records; and off the places of the log's before-images they have the same items, withdrawn or not.
-- A before-image that is put back leaves an added record withdrawn while the log has it, so what is
-- committed at its place may be told as none, or as withdrawn.
pub record AreAlike (geometry : Geometry) (records : List LogRecord) (one other : ℕ → Content)
    : Type 0 where
  pub each : (part : ℕ) → Ascends (other part)
  pub catalog : other 0 ≡ one 0
  pub others : (part : ℕ) → shape_by geometry (other 0) part ≡ None → other part ≡ []
  pub stand : (part : ℕ) (place : List ℕ)
      → standing_of (item_at (other part) place) ≡ standing_of (item_at (one part) place)
  pub items : (part : ℕ) (place : List ℕ) → oldest (images_of records) part place ≡ None
      → item_at (other part) place ≡ item_at (one part) place

module _ (geometry : Geometry) (owners : Owners) (records : List LogRecord)
    (one other : ℕ → Content) (alike : AreAlike geometry records one other) where
  shapes-same : (part : ℕ) → shape_by geometry (other 0) part ≡ shape_by geometry (one 0) part
  shapes-same part = ap (λ (catalog : Content). shape_by geometry catalog part) alike.catalog

  committed-alike : AreCommitted geometry records one → AreCommitted geometry records other
  committed-alike are = record {
    each = alike.each;
    catalog = subst (IsCatalog geometry) (sym alike.catalog) are.catalog;
    inside = λ part shape laid. are.inside part shape (sym (shapes-same part) ∙ laid);
    others = alike.others;
    images = subst (λ (catalog : Content). All (CanPutBack (shape_by geometry catalog))
        (images_of records)) (sym alike.catalog) are.images;
    alone = are.alone;
    olds = λ part place image is. are.olds part place image is ∙ sym (alike.stand part place);
  }

  pub by-alike : (now : Seen) → IsSafeBy geometry owners records one now
      → IsSafeBy geometry owners records other now
  by-alike now by = record {
    committed = committed-alike by.committed;
    parts = λ part shape laid.
        let mine : IsPartSafe shape owners part (images_of records) (one part) now =
        by.parts part shape (sym (shapes-same part) ∙ laid) in
        record {
          sound = mine.sound;
          items = λ place found held none. mine.items place found held none
              ∙ sym (alike.items part place none);
          room = mine.room;
        };
  }

-- It stays safe where each log that an image may have commits what is alike.
pub safe-alike : (geometry : Geometry) (number : ℕ) (owners : Owners) (log : LogNow)
    (one other : List LogRecord → ℕ → Content) (now : Seen)
    → IsSafe geometry number owners log one now
    → ((content : LogContent) → IsLogOf log content
    → AreAlike geometry content.records (one content.records) (other content.records))
    → IsSafe geometry number owners log other now
safe-alike geometry number owners log one other now safe alike = record {
  allowed = safe.allowed;
  past = safe.past;
  blocks = safe.blocks;
  shape = safe.shape;
  header = safe.header;
  logs = safe.logs;
  by_log = λ content is. by-alike geometry owners content.records (one content.records)
      (other content.records) (alike content is) now (safe.by_log content is);
}

-- ---- the log of a volume at rest

-- an image has all records, or there is none
pub rest-records : (log : LogNow) → IsForced log
    → ((older : LogContent) → log.behind ≡ Some older → IsBehind log older)
    → (content : LogContent) → IsLogOf log content
    → (content.records ≡ log.records) ⊎ (log.records ≡ [])
rest-records log forced behind content is = ⊎_elim
    (λ (prefix : IsPrefixOf log content). inl (of-prefix prefix.count
    (omega (arith, forced, prefix.forced)) prefix.is))
    (λ older. ⊎_elim
    (λ own. inl (of-prefix log.forced (omega (arith, forced)) own))
    (λ begun. inr (no-length log.records (omega (arith, forced, begun.0))))
    (behind content older)) is
  where
    of-prefix : (count : ℕ) → length log.records ≤ count → content ≡ first_of log count
        → content.records ≡ log.records
    of-prefix count whole same = ap (λ (c : LogContent). c.records) same
        ∙ take_all count log.records whole

    no-length : (records : List LogRecord) → length records ≡ 0 → records ≡ []
    no-length [] none = refl
    no-length (rec ∷ records) none = absurd (omega (arith, none))

-- ---- what is committed as the state goes on

-- by a log of these records it is alike in two states
abbrev pub AreAlikeIn : Geometry → State → State → List LogRecord → Type 0
AreAlikeIn geometry old new records =
    AreAlike geometry records (committed_by old records) (committed_by new records)

module _ (geometry : Geometry) (old new : State) where
  module _ (laid : IsLaidState geometry old) (later : IsLaidState geometry new)
      (catalog : new.contents 0 ≡ old.contents 0) (records : List LogRecord) where
    alike-in : ((part : ℕ) (place : List ℕ)
        → standing_of (item_at (committed_by new records part) place)
        ≡ standing_of (item_at (committed_by old records part) place))
        → ((part : ℕ) (place : List ℕ) → oldest (images_of records) part place ≡ None
        → item_at (committed_by new records part) place
        ≡ item_at (committed_by old records part) place)
        → AreAlikeIn geometry old new records
    alike-in stand items = record {
      each = committed-ascends geometry new later records;
      catalog = catalog-same geometry new later records ∙ catalog
          ∙ sym (catalog-same geometry old laid records);
      others = λ part none. committed-none geometry new later records part
          (sym (shape-same geometry new later records part) ∙ none);
      stand = stand;
      items = items;
    }

    -- where each item is the same
    pub alike-same : ((part : ℕ) (place : List ℕ)
        → item_at (committed_by new records part) place
        ≡ item_at (committed_by old records part) place) → AreAlikeIn geometry old new records
    alike-same same = alike-in (λ part place. ap standing_of (same part place))
        (λ part place none. same part place)

  module _ (log : LogNow) (change : Changing) (laid : IsLaidState geometry old)
      (logged : HasLogged log old) (of : IsChangeOf geometry old change) where
    -- Once a first change is logged and forced,
    pub safe-first-change : (number : ℕ) (owners : Owners) (more : LogNow) (now : Seen)
        → IsFirstChange log change old new
        → more.records
        ≡ log.records ++ Before change.unit change.part change.place change.old ∷ []
        → ((content : LogContent) → IsLogOf more content → content.records ≡ more.records)
        → IsSafe geometry number owners more (committed_by old) now
        → IsSafe geometry number owners more (committed_by new) now
    safe-first-change number owners more now made grown all safe =
        safe-alike geometry number owners more (committed_by old) (committed_by new) now safe
        (λ content is. subst (AreAlikeIn geometry old new) (sym (all content is))
        (alike-same laid
        (laid-first-change geometry log more old new change laid logged of made grown)
        (catalog-stays geometry old new change laid of made.contents) more.records
        (λ part place.
        items-first-change geometry log more old new change laid logged of made grown part place
        ∙ ap (λ (contents : ℕ → Content). item_at (contents part) place)
        (sym (before-same old log.records change.unit change.part change.place change.old))
        ∙ ap (λ (records : List LogRecord). item_at (committed_by old records part) place)
        (sym grown))))

    -- a further one is made,
    pub safe-next-change : (number : ℕ) (owners : Owners) (now : Seen) → IsNextChange change old new
        → ((content : LogContent) → IsLogOf log content → content.records ≡ log.records)
        → IsSafe geometry number owners log (committed_by old) now
        → IsSafe geometry number owners log (committed_by new) now
    safe-next-change number owners now made all safe =
        safe-alike geometry number owners log (committed_by old) (committed_by new) now safe
        (λ content is. subst (AreAlikeIn geometry old new) (sym (all content is))
        (alike-same laid (laid-next-change geometry log old new change laid logged of made)
        (catalog-stays geometry old new change laid of made.contents) log.records
        (items-next-change geometry log old new change laid logged of made)))

    -- or a before-image is put back, the volume is safe by the new state.
    pub safe-put-back : (number : ℕ) (owners : Owners) (now : Seen) → IsPutBack change old new
        → ((content : LogContent) → IsLogOf log content → content.records ≡ log.records)
        → IsSafe geometry number owners log (committed_by old) now
        → IsSafe geometry number owners log (committed_by new) now
    safe-put-back number owners now made all safe =
        safe-alike geometry number owners log (committed_by old) (committed_by new) now safe
        (λ content is. subst (AreAlikeIn geometry old new) (sym (all content is))
        (alike-in laid (laid-put-back geometry log old new change laid logged of made)
        (catalog-stays geometry old new change laid of made.contents) log.records
        (records-put-back geometry log old new change laid logged of made)
        (items-put-back geometry log old new change laid logged of made)))
