-- A log to which some of several records were appended.
use Rattle.std.proofs.Common.{◌≡◌, ◌⊎◌, ⊎_elim, inl, inr, ℕ, ◌+◌, ◌<◌, ◌≤◌, List, [], ◌∷◌, ◌++◌, None}
use Rattle.std.proofs.Common.{Some, length, take, refl, sym, ap, subst, ◌∙◌, arith, drop, false}
use Rattle.std.proofs.lemmas.List.{append-nil, append_assoc, length-append, take-append-drop}
use Rattle.std.proofs.lemmas.List.{take-append-le}
use Rattle.vr_types.specs.Image.{Image}
use Rattle.vr_types.specs.Regions.{Touches}
use Rattle.vr_types.specs.Seen.{Seen}
use Rattle.vr_types.specs.declared.geometry.Geometry.{Geometry}
use Rattle.vr_types.proofs.CallerLemmas.{touches-then, touches-weaken}
use Rattle.vr_log.specs.declared.record.LogRecord.{LogRecord}
use Rattle.vr_log.specs.Content.{Content}
use Rattle.vr_log.specs.LogNow.{AreAppended, HasLog, IsAppended, IsLogOf, LogNow, first_of}
use Rattle.vr_log.specs.LogNow.{with_record, with_records}
use Rattle.vr_log.specs.Spells.{Spells}
use Rattle.vr_log.specs.Standing.{InLog}

none-some : {X : Type 0} {x : X} → None ≡ Some x → ⊥
none-some same = cc

-- An image may have of it what it may have of the log with all of them.
pub has-all : (old : LogNow) (records : List LogRecord) (mid : LogNow) (rest : List LogRecord)
    → mid.geometry ≡ old.geometry → mid.generation ≡ old.generation → mid.forced ≡ old.forced
    → (mid.behind ≡ old.behind) ⊎ (mid.behind ≡ None)
    → mid.records ++ rest ≡ old.records ++ records → (image : Image)
    → HasLog mid image → HasLog (with_records old records) image
has-all old records mid rest geometry generation forced behind all image (content, spelled, inr older) = (
  content,
  subst (λ (g : Geometry). Spells g image content) geometry spelled,
  inr (⊎_elim (λ same. sym same ∙ older) (λ none. absurd (none-some (sym none ∙ older))) behind),
)
has-all old records mid rest geometry generation forced behind all image (content, spelled, inl prefix) = (
  content,
  subst (λ (g : Geometry). Spells g image content) geometry spelled,
  inl (record {
    count = prefix.count;
    forced = subst (λ (n : ℕ). n ≤ prefix.count) forced prefix.forced;
    all = omega (
      arith,
      prefix.all,
      length-append mid.records rest,
      ap length all,
    );
    is = prefix.is
        ∙ ap (λ (g : ℕ). let c : Content = record {
          generation = g;
          records = take prefix.count mid.records;
        } in c) generation
        ∙ ap (λ (rs : List LogRecord). let c : Content = record {
          generation = old.generation;
          records = rs;
        } in c)
        (sym (take-append-le prefix.count mid.records rest prefix.all)
        ∙ ap (take prefix.count) all);
  }),
)

-- with one more record of them
pub appended-more : (old : LogNow) (records : List LogRecord) (i : ℕ) (rec : LogRecord)
    (mid new : LogNow) → AreAppended old (take i records) mid → IsAppended mid rec new
    → take (i + 1) records ≡ take i records ++ rec ∷ []
    → AreAppended old (take (i + 1) records) new
appended-more old records i rec mid new some one more = record {
  geometry = one.geometry ∙ some.geometry;
  generation = one.generation ∙ some.generation;
  all = one.records ∙ ap (λ (rs : List LogRecord). rs ++ rec ∷ []) some.all
      ∙ append_assoc old.records (take i records) (rec ∷ [])
      ∙ ap (λ (rs : List LogRecord). old.records ++ rs) (sym more);
  forced = one.forced ∙ some.forced;
  behind = ⊎_elim (λ same. ⊎_elim (λ was. inl (same ∙ was)) (λ none. inr (same ∙ none)) some.behind)
      (λ none. inr none) one.behind;
  sound = one.sound;
}

-- what an image has of it while one more is appended
pub has-more-of : (old : LogNow) (records : List LogRecord) (i : ℕ) (rec : LogRecord)
    (mid : LogNow) → AreAppended old (take i records) mid
    → take (i + 1) records ≡ take i records ++ rec ∷ [] → (image : Image)
    → HasLog (with_record mid rec) image → HasLog (with_records old records) image
has-more-of old records i rec mid some more image has =
    has-all old records (with_record mid rec) (drop (i + 1) records) some.geometry
    some.generation some.forced some.behind
    (ap (λ (rs : List LogRecord). (rs ++ rec ∷ []) ++ drop (i + 1) records) some.all
    ∙ ap (λ (rs : List LogRecord). rs ++ drop (i + 1) records)
    (append_assoc old.records (take i records) (rec ∷ [])
    ∙ ap (λ (rs : List LogRecord). old.records ++ rs) (sym more))
    ∙ append_assoc old.records (take (i + 1) records) (drop (i + 1) records)
    ∙ ap (λ (rs : List LogRecord). old.records ++ rs) (take-append-drop (i + 1) records))
    image has

-- none of them yet
pub has-first : (old : LogNow) (records : List LogRecord) (image : Image) → HasLog old image
    → HasLog (with_records old records) image
has-first old records image has = has-all old records old records refl refl refl (inl refl) refl
    image has

pub none-appended : (log : LogNow) → log.broken ≡ false → AreAppended log [] log
none-appended log sound = record {
  geometry = refl;
  generation = refl;
  all = sym (append-nil log.records);
  forced = refl;
  behind = inl refl;
  sound = sound;
}

-- while one more is appended, and from then on
pub moments-more : (old : LogNow) (records : List LogRecord) (i : ℕ) (rec : LogRecord)
    (mid : LogNow) (a b d : Seen) → AreAppended old (take i records) mid
    → take (i + 1) records ≡ take i records ++ rec ∷ []
    → Touches (InLog old.geometry) (HasLog (with_records old records)) a b
    → Touches (InLog mid.geometry) (HasLog (with_record mid rec)) b d
    → Touches (InLog old.geometry) (HasLog (with_records old records)) a d
moments-more old records i rec mid a b d some more first next =
    touches-then (InLog old.geometry) (HasLog (with_records old records)) a b d first
    (touches-weaken (InLog old.geometry) (HasLog (with_record mid rec))
    (HasLog (with_records old records)) b d
    (subst (λ (shape : Geometry). Touches (InLog shape) (HasLog (with_record mid rec)) b d)
    some.geometry next)
    (has-more-of old records i rec mid some more))
