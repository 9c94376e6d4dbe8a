-- Several before-images that are logged together and forced once: what they leave of a safe volume.
use Rattle.std.proofs.Common.{◌≡◌, ⊎_elim, inl, inr, ℕ, List, [], ◌∷◌, Some, None}
use Rattle.std.proofs.Common.{◌≤◌, length, take, sym, ap, subst, ◌∙◌}
use Rattle.std.proofs.lemmas.List.{append-nil, append_assoc}
use Rattle.vr_types.specs.Content.{Content}
use Rattle.vr_types.specs.Image.{Image}
use Rattle.vr_types.specs.Seen.{Left, Seen}
use Rattle.vr_types.specs.declared.geometry.Geometry.{Geometry}
use Rattle.vr_space.specs.Owners.{Owners}
use Rattle.vr_log.specs.Content.{Content as LogContent}
use Rattle.vr_log.specs.LogNow.{AreAppended, HasLog, IsBehind, IsLogOf, LogNow}
use Rattle.vr_log.specs.LogNow.{forced_now, with_record, with_records}
use Rattle.vr_log.specs.Spells.{Spells}
use Rattle.vr_log.specs.declared.record.LogRecord.{LogRecord}
use Rattle.vr_log.specs.declared.record.LogRecord.TheVariants.{Before, End}
use Rattle.vr_volume.specs.Laying.{AreLogged}
use Rattle.vr_volume.specs.Logged.{AreFirstBefores}
use Rattle.vr_volume.specs.Safe.{IsSafe}
use Rattle.vr_volume.proofs.Befores.{safe-more}
use Rattle.vr_volume.proofs.LogCalls.{forced-all, forced-generation, forced-geometry, forced-is}
use Rattle.vr_volume.proofs.LogCalls.{forced-less, forced-records, forced-sound}

none-some : {X : Type 0} {x : X} → None ≡ Some x → ⊥
none-some same = cc

-- The blocks are safe whether or not an image has the records.
module _ (geometry : Geometry) (number : ℕ) (owners : Owners)
    (committed : List LogRecord → ℕ → Content) (a : Seen) (left : Left a a.cur) where
  pub safe-all : (log : LogNow) (records : List LogRecord)
      → IsSafe geometry number owners log committed a
      → AreFirstBefores geometry log committed records
      → IsSafe geometry number owners (with_records log records) committed a
  safe-all log [] safe firsts =
      subst (λ (rs : List LogRecord).
      IsSafe geometry number owners (record log { records = rs }) committed a)
      (sym (append-nil log.records)) safe
  safe-all log (Before unit part place old ∷ records) safe firsts =
      let rec : LogRecord = Before unit part place old in
      subst (λ (rs : List LogRecord).
      IsSafe geometry number owners (record log { records = rs }) committed a)
      (append_assoc log.records (rec ∷ []) records)
      (safe-all (with_record log rec) records
      (safe-more geometry number owners log committed a unit part place old safe left firsts.0)
      firsts.1)
  safe-all log (End unit kind ∷ records) safe firsts = absurd firsts

-- ---- appended and forced

-- an image may have of the log with some records what it may have of it with them appended
pub all-less : (log : LogNow) (records : List LogRecord) (mid : LogNow)
    → AreAppended log records mid → (content : LogContent) → IsLogOf mid content
    → IsLogOf (with_records log records) content
all-less log records mid appended content is = ⊎_elim
    (λ has. inl (record {
      count = has.count;
      forced = subst (λ (n : ℕ). n ≤ has.count) appended.forced has.forced;
      all = subst (λ (rs : List LogRecord). has.count ≤ length rs) appended.all has.all;
      is = has.is
          ∙ ap (λ (g : ℕ). let c : LogContent = record {
            generation = g;
            records = take has.count mid.records;
          } in c) appended.generation
          ∙ ap (λ (rs : List LogRecord). let c : LogContent = record {
            generation = log.generation;
            records = take has.count rs;
          } in c) appended.all;
    }))
    (λ behind. ⊎_elim (λ same. inr (sym same ∙ behind))
    (λ none. absurd (none-some (sym none ∙ behind))) appended.behind)
    is

pub has-all : (log : LogNow) (records : List LogRecord) (mid : LogNow)
    → AreAppended log records mid → (image : Image) → HasLog mid image
    → HasLog (with_records log records) image
has-all log records mid appended image has = (
  has.0,
  subst (λ (g : Geometry). Spells g image has.0) appended.geometry has.1,
  all-less log records mid appended has.0 has.2,
)

module _ (log : LogNow) (records : List LogRecord) (mid new : LogNow)
    (appended : AreAppended log records mid) (forced : new ≡ forced_now mid)
    (behind : (older : LogContent) → mid.behind ≡ Some older → IsBehind mid older)
    (within : mid.forced ≤ length mid.records) where
  same-records : new.records ≡ mid.records
  same-records = ap (λ (l : LogNow). l.records) forced ∙ forced-records mid

  pub are-logged : AreLogged log records new
  are-logged = record {
    geometry = ap (λ (l : LogNow). l.geometry) forced ∙ forced-geometry mid ∙ appended.geometry;
    generation = ap (λ (l : LogNow). l.generation) forced ∙ forced-generation mid
        ∙ appended.generation;
    records_are = same-records ∙ appended.all;
    forced = ap (λ (l : LogNow). l.forced) forced ∙ forced-is mid ∙ sym (ap length same-records);
    sound = ap (λ (l : LogNow). l.broken) forced ∙ forced-sound mid ∙ appended.sound;
    less = λ content is. all-less log records mid appended content
        (forced-less mid within content (subst (λ (l : LogNow). IsLogOf l content) forced is));
    all = λ content is. ⊎_elim (λ whole. inl (whole ∙ sym same-records))
        (λ none. inr (same-records ∙ none))
        (forced-all mid within behind content
        (subst (λ (l : LogNow). IsLogOf l content) forced is));
  }
