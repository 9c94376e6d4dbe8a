-- A block that is replaced once the record of it is forced.
use Rattle.std.proofs.Common.{◌≡◌, inl, inr, ⊎_elim, ℕ, ◌+◌, ◌<◌, ◌≤◌, Bool, IsTrue, true, false}
use Rattle.std.proofs.Common.{List, [], ◌∷◌, ◌++◌, length, take, None, nat_eq, if◌then◌else◌}
use Rattle.std.proofs.Common.{ne_eqb, refl, ap, subst, ◌∙◌, arith}
use Rattle.std.proofs.lemmas.List.{take_all, length_push}
use Rattle.vr_types.specs.Image.{Block, Image, MayAlso, IsImage, block_at}
use Rattle.vr_types.specs.Moments.{Guards}
use Rattle.vr_types.specs.Regions.{Outside, Touches}
use Rattle.vr_types.specs.Seen.{Seen, Left, Only}
use Rattle.vr_types.specs.Blocks.{Puts}
use Rattle.vr_types.specs.declared.geometry.Geometry.{Geometry}
use Rattle.vr_types.proofs.CallerLemmas.{during-weaken}
use Rattle.vr_log.specs.Content.{Content}
use Rattle.vr_log.specs.declared.record.LogRecord.{LogRecord}
use Rattle.vr_log.specs.LogNow.{LogNow, HasLog, HasRecord, IsAppended, forced_now}
use Rattle.vr_log.specs.Spells.{Spells}
use Rattle.vr_log.specs.Standing.{InLog, LogStands}
use Rattle.vr_log.proofs.Growing.{stands_has}

-- each image that may be left of a log that stands has a log of it
pub left_has : (log : LogNow) (seen : Seen) (image : Image) → LogStands log seen → Left seen image
    → HasLog log image
left_has log seen image stands left =
    stands_has log seen image stands.allowed stands.fits stands (record {
      each =
          λ n below is. left.each n below;
    })

-- a log that was forced has the record in each image
pub has_record : (log now : LogNow) (rec : LogRecord) (image : Image) → IsAppended log rec now
    → log.forced ≤ length log.records → HasLog (forced_now now) image → HasRecord log rec image
has_record log now rec image appended below has =
    let long : length now.records ≡ length log.records + 1 = ap length appended.records
    ∙ length_push log.records rec in
    let more : now.forced ≡ length now.records → ⊥ =
    λ same. omega (arith, same, appended.forced, long, below) in
    let forced : LogNow = record now { forced = length now.records; behind = None } in
    let is : forced_now now ≡ forced =
    ap (λ (t : Bool). if t then now else forced) (ne_eqb now.forced (length now.records) more)
    in
    all (subst (λ (v : LogNow). HasLog v image) is has)
  where
    all : HasLog (record now { forced = length now.records; behind = None }) image
        → HasRecord log rec image
    all (content, spelled, inr behind) = absurd cc
    all (content, spelled, inl prefix) =
        let whole : take prefix.count now.records ≡ log.records ++ rec ∷ [] =
        take_all prefix.count now.records prefix.forced ∙ appended.records in
        let same : content ≡ record {
          generation = log.generation;
          records = log.records
              ++ rec ∷ [];
        } =
        prefix.is ∙ ap (λ (n : ℕ). let c : Content =
        record { generation = n; records = take prefix.count now.records } in
        c) appended.generation
        ∙ ap (λ (rs : List LogRecord). let c : Content =
        record { generation = log.generation; records = rs } in c) whole in
        subst (λ (g : Geometry). Spells g image (record {
          generation = log.generation;
          records =
              log.records ++ rec ∷ [];
        })) appended.geometry
        (subst (λ (c : Content). Spells now.geometry image c) same spelled)

-- while the log is written, the block keeps its content
pub log_guards : (region : ℕ → Type 0) (Q P : Image
    → Type 0) (home : ℕ) (before : Block) (a b : Seen) → home < a.count → Outside region home
    → Only a home (λ block. block ≡ before)
    → ((image : Image) → block_at image home ≡ before → P image) → Touches region Q a b
    → Guards a b P
log_guards region Q P home before a b here out only holds call = record {
  during = during-weaken a b _ P call.moments
      (λ image has. holds image (only _ (has.0.each home here out)));
  rest = λ image left. holds image
      (only _ (call.adds_none home _ here out
      (left.each home (omega (arith, here, call.count_same)))));
}

pub only_outside : (region : ℕ → Type 0) (Q : Image
    → Type 0) (home : ℕ) (before : Block) (a b : Seen) → home < a.count → Outside region home
    → Only a home (λ block. block ≡ before) → Touches region Q a b
    → Only b home (λ block. block ≡ before)
only_outside region Q home before a b here out only call block may =
    only block (call.adds_none home block here out may)

-- when the block is put, each image has the record
pub put_guards : (told : Bool) (log : LogNow) (P : Image
    → Type 0) (home : ℕ) (bytes : Block) (a b : Seen) → IsTrue told
    → Outside (InLog log.geometry) home → LogStands log a
    → ((image : Image) → HasLog log image → P image) → Puts told home bytes a b → Guards a b P
put_guards told log P home bytes a b is_told out stands holds call =
    let within : (image : Image) → IsImage a.count (MayAlso a.may home bytes) image → P image =
    λ image left.
    holds image (stands_has log a image stands.allowed stands.fits stands (record {
      each =
          λ n below is. ⊎_elim (λ (old : a.may n (block_at image n)). old)
          (λ new. absurd (out (subst (InLog log.geometry) new.0 is))) (left.each n below);
    })) in
    record {
      during = during-weaken a b _ P (call.moments is_told) within;
      rest = λ image left. within image (record {
        length_is = left.length_is
            ∙ call.count_same;
        each =
            λ n below. call.adds is_told n _ below
            (left.each n (omega (arith, below, call.count_same)));
      });
    }

forced-by : (log : LogNow) (t : Bool)
    → (if t then log else record log {
      forced = length log.records;
      behind =
          None;
    }).geometry ≡ log.geometry
forced-by log true = refl
forced-by log false = refl

pub forced_geometry : (log : LogNow) → (forced_now log).geometry ≡ log.geometry
forced_geometry log = forced-by log (nat_eq log.forced (length log.records))
