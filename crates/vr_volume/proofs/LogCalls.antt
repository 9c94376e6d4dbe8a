-- What calls of the log leave of a safe volume.
use Rattle.std.proofs.Common.{◌≡◌, ◌≢◌, ◌⊎◌, inl, inr, ⊎_elim, ◌≤◌, ℕ, Bool, true}
use Rattle.std.proofs.Common.{false, cond, List, [], ◌∷◌, ◌++◌, Option, Some, None, refl, sym, ap}
use Rattle.std.proofs.Common.{subst, ◌∙◌, arith, length, take}
use Rattle.std.specs.Option.{option_or}
use Rattle.std.proofs.lemmas.Bool.{true≢false}
use Rattle.std.proofs.lemmas.Bool.Decides.{Decides-eqb}
use Rattle.std.proofs.lemmas.List.{length-append, take_all}
use Rattle.std.proofs.lemmas.Slice.Eq.{bytes_eq-Decides}
use Rattle.std.specs.Prelude.{nat_eq, bytes_eq, ◌==◌, ◌&&◌}
use Rattle.vr_types.specs.Content.{Content}
use Rattle.vr_types.specs.Image.{Image, block_at}
use Rattle.vr_types.specs.Moments.{Guards}
use Rattle.vr_types.specs.Regions.{IsImageOn, Outside, Touches}
use Rattle.vr_types.specs.Seen.{Seen}
use Rattle.vr_types.specs.declared.geometry.Geometry.{Geometry}
use Rattle.vr_types.specs.declared.unit.PartNo.{PartNo}
use Rattle.vr_types.specs.declared.unit.Unit.{Unit as UnitOfRecovery}
use Rattle.vr_types.proofs.CallerLemmas.{during-weaken}
use Rattle.vr_space.specs.Owners.{Owners}
use Rattle.vr_space.specs.Part.{InPart, Shape, part_no}
use Rattle.vr_history.specs.State.{BeforeImage}
use Rattle.vr_history.proofs.CallerLemmas.{unit_self}
use Rattle.vr_log.specs.Content.{Content as LogContent}
use Rattle.vr_log.specs.LogNow.{HasLog, IsAppended, IsBehind, IsLogOf, IsPrefixOf, LogNow}
use Rattle.vr_log.specs.LogNow.{first_of, forced_now, with_record}
use Rattle.vr_log.specs.Spells.{Spells}
use Rattle.vr_log.specs.Standing.{InLog, LogStands}
use Rattle.vr_log.specs.declared.record.LogRecord.{LogRecord}
use Rattle.vr_log.specs.declared.record.LogRecord.TheVariants.{Before}
use Rattle.vr_log.proofs.Growing.{stands_has}
use Rattle.vr_space.specs.Room.{Lengths}
use Rattle.vr_volume.specs.Laying.{IsFreeIn, IsLaidBy, IsLaidSo, IsLogged}
use Rattle.vr_volume.specs.Logged.{IsFirstBefore}
use Rattle.vr_volume.specs.PutBack.{images_of, is_image_of, oldest}
use Rattle.vr_volume.specs.Safe.{IsSafe, IsSafeImage}
use Rattle.vr_volume.proofs.Calls.{safe-less}
use Rattle.vr_volume.proofs.Images.{image_of, images-append, oldest-append}
use Rattle.vr_volume.proofs.Recovering.{each_image_is_safe, part-in}

module _ (geometry : Geometry) (number : ℕ) (owners : Owners) (committed : List LogRecord → ℕ
    → Content) where
  -- ---- a call that puts into the log alone

  module _ (log : LogNow) (a b : Seen) (safe : IsSafe geometry number owners log committed a)
      (call : Touches (InLog geometry) (HasLog log) a b) where
    -- the parts are outside the log
    part-out : (shape : Shape) (n : ℕ) → InPart shape owners n → Outside (InLog geometry) n
    part-out shape n inside there = omega (arith, there.1, safe.past n (part_no shape).0 inside)

    image-safe : (image : Image) → IsImageOn (Outside (InLog geometry)) a.count a.may image
        × HasLog log image → IsSafeImage geometry number owners log committed image
    image-safe image has = (
      has.1.0,
      has.1.2,
      record {
        past = safe.past;
        header = safe.header (block_at image 0)
            (has.0.each 0 (omega (arith, safe.blocks.count, safe.allowed.two_areas))
            (λ inside. omega (arith, inside.0)));
        log_is = subst (λ (g : Geometry). Spells g image has.1.0) safe.shape has.1.1;
        committed = (safe.by_log has.1.0 has.1.2).committed;
        parts = λ part shape laid. part-in shape owners part (images_of has.1.0.records)
            (committed has.1.0.records part) a
            ((safe.by_log has.1.0 has.1.2).parts part shape laid) image
            (record {
              each = λ n below inside. has.0.each n below (part-out shape n inside);
            });
      },
    )

    pub log-after : IsSafe geometry number owners log committed b
    log-after = record {
      allowed = safe.allowed;
      past = safe.past;
      blocks = record {
        count = call.count_same ∙ safe.blocks.count;
        size = call.size_same ∙ safe.blocks.size;
      };
      shape = safe.shape;
      header = λ block may. safe.header block (call.adds_none 0 block
          (omega (arith, safe.blocks.count, safe.allowed.two_areas))
          (λ inside. omega (arith, inside.0)) may);
      logs = call.rest;
      by_log = λ content is. record {
        committed = (safe.by_log content is).committed;
        parts = λ part shape laid. safe-less a b call.count_same call.size_same shape owners part
            (images_of content.records) (committed content.records part)
            (λ n block below inside may. call.adds_none n block below
            (part-out shape n inside) may) ((safe.by_log content is).parts part shape laid);
      };
    }

    pub log-guards : Guards a b (IsSafeImage geometry number owners log committed)
    log-guards = record {
      during = during-weaken a b _ _ call.moments image-safe;
      rest = each_image_is_safe geometry number owners log committed b log-after;
    }

  -- ---- a log of which an image may have less

  pub safe-fewer : (log fewer : LogNow) (now : Seen)
      → IsSafe geometry number owners log committed now → fewer.geometry ≡ geometry
      → ((content : LogContent) → IsLogOf fewer content → IsLogOf log content)
      → LogStands fewer now → IsSafe geometry number owners fewer committed now
  safe-fewer log fewer now safe shape less stands = record {
    allowed = safe.allowed;
    past = safe.past;
    blocks = safe.blocks;
    shape = shape;
    header = safe.header;
    logs = λ image left. stands_has fewer now image stands.allowed stands.fits stands
        (subst (λ (g : Geometry). IsImageOn (InLog g) now.count now.may image) (sym shape) left);
    by_log = λ content is. safe.by_log content (less content is);
  }

-- ---- a record that was appended

module _ (log : LogNow) (rec : LogRecord) (new : LogNow) (appended : IsAppended log rec new) where
  pub appended-less : (content : LogContent) → IsLogOf new content
      → IsLogOf (with_record log rec) content
  appended-less content is = ⊎_elim
      (λ has. inl (record {
        count = has.count;
        forced = subst (λ (n : ℕ). n ≤ has.count) appended.forced has.forced;
        all = subst (λ (records : List LogRecord). has.count ≤ length records) appended.records
            has.all;
        is = has.is ∙ content-same has.count;
      }))
      (λ behind. ⊎_elim (λ same. inr (sym same ∙ behind))
      (λ none. absurd (gone (sym none ∙ behind))) appended.behind)
      is
    where
      gone : {X : Type 0} {x : X} → None ≡ Some x → ⊥
      gone same = cc

      content-same : (n : ℕ) → first_of new n ≡ first_of (with_record log rec) n
      content-same n =
          ap (λ (g : ℕ). let c : LogContent = record {
            generation = g;
            records = take n new.records;
          } in c) appended.generation
          ∙ ap (λ (records : List LogRecord). let c : LogContent = record {
            generation = log.generation;
            records = take n records;
          } in c) appended.records

-- ---- a log that was forced

none-some : {X : Type 0} {x : X} → None ≡ Some x → ⊥
none-some same = cc

no-length : {X : Type 0} (xs : List X) → length xs ≡ 0 → xs ≡ []
no-length [] none = refl
no-length (x ∷ xs) none = absurd (omega (arith, none))

module _ (log : LogNow) (most : log.forced ≤ length log.records) where
  abbrev all-forced : LogNow
  all-forced = record log { forced = length log.records; behind = None }

  -- an image has all records, unless there is none
  pub forced-all : ((older : LogContent) → log.behind ≡ Some older → IsBehind log older)
      → (content : LogContent) → IsLogOf (forced_now log) content
      → (content.records ≡ log.records) ⊎ (log.records ≡ [])
  forced-all behind content is = by_test (nat_eq log.forced (length log.records)) refl is
    where
      of-prefix : (count : ℕ) → length log.records ≤ count → content ≡ first_of log count
          → content.records ≡ log.records
      of-prefix count whole same = ap (λ (c : LogContent). c.records) same
          ∙ take_all count log.records whole

      by_test : (same : Bool) → nat_eq log.forced (length log.records) ≡ same
          → IsLogOf (cond same log all-forced) content
          → (content.records ≡ log.records) ⊎ (log.records ≡ [])
      by_test true same has =
          let equal : log.forced ≡ length log.records =
          (Decides-eqb log.forced (length log.records)).0 same in
          ⊎_elim
          (λ (prefix : IsPrefixOf log content). inl (of-prefix prefix.count
          (omega (arith, equal, prefix.forced)) prefix.is))
          (λ older. ⊎_elim
          (λ own. inl (of-prefix log.forced (omega (arith, equal)) own))
          (λ begun. inr (no-length log.records (omega (arith, equal, begun.0))))
          (behind content older)) has
      by_test false same has = ⊎_elim
          (λ (prefix : IsPrefixOf all-forced content).
          inl (of-prefix prefix.count prefix.forced prefix.is))
          (λ older. absurd (none-some older)) has

  pub forced-less : (content : LogContent) → IsLogOf (forced_now log) content
      → IsLogOf log content
  forced-less content is = by_test (nat_eq log.forced (length log.records)) is
    where
      by_test : (same : Bool) → IsLogOf (cond same log all-forced) content → IsLogOf log content
      by_test true has = has
      by_test false has = ⊎_elim
          (λ (prefix : IsPrefixOf all-forced content). inl (record {
            count = prefix.count;
            forced = omega (arith, prefix.forced, most);
            all = prefix.all;
            is = prefix.is;
          }))
          (λ older. absurd (none-some older)) has

  -- a place that has a before-image is free in each log
  pub forced-free : ((older : LogContent) → log.behind ≡ Some older → IsBehind log older)
      → (part : ℕ) (place : List ℕ) → oldest (images_of log.records) part place ≢ None
      → IsFreeIn (forced_now log) part place
  forced-free behind part place has content is none = ⊎_elim
      (λ same. has (sym (ap (λ (records : List LogRecord). oldest (images_of records) part place)
      same) ∙ none))
      (λ empty. has
      (ap (λ (records : List LogRecord). oldest (images_of records) part place) empty))
      (forced-all behind content is)

-- forcing leaves the shape
pub forced-geometry : (log : LogNow) → (forced_now log).geometry ≡ log.geometry
forced-geometry log = by_test (nat_eq log.forced (length log.records))
  where
    by_test : (same : Bool)
        → (cond same log (record log { forced = length log.records; behind = None })).geometry
        ≡ log.geometry
    by_test true = refl
    by_test false = refl

-- its records, and whether it is broken, and all is forced
module _ (log : LogNow) where
  abbrev whole : LogNow
  whole = record log { forced = length log.records; behind = None }

  pub forced-records : (forced_now log).records ≡ log.records
  forced-records = by_test (nat_eq log.forced (length log.records))
    where
      by_test : (same : Bool) → (cond same log whole).records ≡ log.records
      by_test true = refl
      by_test false = refl

  pub forced-generation : (forced_now log).generation ≡ log.generation
  forced-generation = by_test (nat_eq log.forced (length log.records))
    where
      by_test : (same : Bool) → (cond same log whole).generation ≡ log.generation
      by_test true = refl
      by_test false = refl

  pub forced-sound : (forced_now log).broken ≡ log.broken
  forced-sound = by_test (nat_eq log.forced (length log.records))
    where
      by_test : (same : Bool) → (cond same log whole).broken ≡ log.broken
      by_test true = refl
      by_test false = refl

  pub forced-is : (forced_now log).forced ≡ length log.records
  forced-is = by_test (nat_eq log.forced (length log.records)) refl
    where
      by_test : (same : Bool) → nat_eq log.forced (length log.records) ≡ same
          → (cond same log whole).forced ≡ length log.records
      by_test true is = (Decides-eqb log.forced (length log.records)).0 is
      by_test false is = refl

-- ---- a before-image that was appended

-- its place has one
pub first-there : (geometry : Geometry) (log : LogNow)
    (committed : List LogRecord → ℕ → Content) (unit : UnitOfRecovery) (part : PartNo)
    (place : List ℕ) (old : Option (List ℕ))
    → IsFirstBefore geometry log committed unit part place old
    → oldest (images_of (log.records ++ Before unit part place old ∷ [])) part.0 place ≢ None
first-there geometry log committed unit part place old next none = some-none (sym there ∙ none)
  where
    some-none : {X : Type 0} {x : X} → Some x ≡ None → ⊥
    some-none same = cc

    by_both : (mine : Bool) → mine ≡ true → bytes_eq place place ≡ true
        → (mine && bytes_eq place place) ≡ true
    by_both true is same = same
    by_both false is same = absurd (true≢false (sym is))

    self : is_image_of part.0 place (image_of unit part place old) ≡ true
    self = by_both (part.0 == part.0) ((Decides-eqb part.0 part.0).1 refl)
        ((bytes_eq-Decides place place).1 refl)

    there : oldest (images_of (log.records ++ Before unit part place old ∷ [])) part.0 place
        ≡ Some (image_of unit part place old)
    there = ap (λ (images : List BeforeImage). oldest images part.0 place)
        (images-append log.records unit part place old (unit_self unit) next.live)
        ∙ oldest-append (images_of log.records) (image_of unit part place old) part.0 place
        ∙ ap (λ (found : Option BeforeImage). option_or found
        (cond (is_image_of part.0 place (image_of unit part place old))
        (Some (image_of unit part place old)) None)) next.first
        ∙ ap (λ (mine : Bool). cond mine (Some (image_of unit part place old)) None) self

-- ---- appended and forced

module _ (log : LogNow) (rec : LogRecord) (mid new : LogNow)
    (most : log.forced ≤ length log.records)
    (appended : IsAppended log rec mid) (forced : new ≡ forced_now mid)
    (behind : (older : LogContent) → mid.behind ≡ Some older → IsBehind mid older)
    (within : mid.forced ≤ length mid.records) where
  some-more : mid.records ≡ [] → ⊥
  some-more none = omega (
    arith,
    sym (ap length appended.records ∙ length-append log.records (rec ∷ [])),
    ap length none,
  )

  pub is-logged : IsLogged log rec new
  is-logged = record {
    geometry = ap (λ (l : LogNow). l.geometry) forced ∙ forced-geometry mid ∙ appended.geometry;
    records = ap (λ (l : LogNow). l.records) forced ∙ forced-records mid ∙ appended.records;
    forced = ap (λ (l : LogNow). l.forced) forced ∙ forced-is mid
        ∙ sym (ap length (ap (λ (l : LogNow). l.records) forced ∙ forced-records mid));
    sound = ap (λ (l : LogNow). l.broken) forced ∙ forced-sound mid ∙ appended.sound;
    less = λ content is. appended-less log rec mid appended content
        (forced-less mid within content (subst (λ (l : LogNow). IsLogOf l content) forced is));
    all = λ content is. ⊎_elim (λ all. all ∙ appended.records)
        (λ none. absurd (some-more none))
        (forced-all mid within behind content
        (subst (λ (l : LogNow). IsLogOf l content) forced is));
  }

-- what an image has of the log at each moment of it
pub has-less : (log : LogNow) (rec : LogRecord) (mid : LogNow) → IsAppended log rec mid
    → (image : Image) → HasLog mid image → HasLog (with_record log rec) image
has-less log rec mid appended image has = (
  has.0,
  subst (λ (g : Geometry). Spells g image has.0) appended.geometry has.1,
  appended-less log rec mid appended has.0 has.2,
)

-- an image that is safe by fewer logs is so by more
pub image-less : (geometry : Geometry) (number : ℕ) (owners : Owners) (fewer more : LogNow)
    (committed : List LogRecord → ℕ → Content)
    → ((content : LogContent) → IsLogOf fewer content → IsLogOf more content) → (image : Image)
    → IsSafeImage geometry number owners fewer committed image
    → IsSafeImage geometry number owners more committed image
image-less geometry number owners fewer more committed less image has =
    (has.0, less has.0 has.1, has.2)

-- Once the record is forced the volume is safe by the log as it is then, the part is laid by it,
-- and the place is free.
pub change-then : (geometry : Geometry) (number : ℕ) (owners : Owners) (log new : LogNow)
    (rec : LogRecord)
    (committed : List LogRecord → ℕ → Content) (part : ℕ) (shape : Shape) (kept : Lengths)
    (a b : Seen) → IsSafe geometry number owners (with_record log rec) committed a
    → Touches (InLog geometry) (HasLog (with_record log rec)) a b → IsLogged log rec new
    → LogStands new b
    → IsLaidBy geometry (log.records ++ rec ∷ []) committed part shape kept
    → (place : List ℕ)
    → oldest (images_of (log.records ++ rec ∷ [])) part place ≢ None
    → IsSafe geometry number owners new committed b
    × IsLaidSo geometry new committed part shape kept × IsFreeIn new part place
change-then geometry number owners log new rec committed part shape kept a b more call logged
    stands laid place there = (
      safe-fewer geometry number owners committed (with_record log rec) new b
          (log-after geometry number owners committed (with_record log rec) a b more call)
          (logged.geometry ∙ more.shape) logged.less stands,
      λ content is. subst
          (λ (records : List LogRecord). IsLaidBy geometry records committed part shape kept)
          (sym (logged.all content is)) laid,
      λ content is none. there
          (subst (λ (records : List LogRecord). oldest (images_of records) part place ≡ None)
          (logged.all content is) none),
    )
