-- A log that is restarted, and one beside which another block is put.
use Rattle.std.proofs.Common.{◌≡◌, inl, inr, ⊎_elim, ℕ, ◌+◌, ◌*◌, ◌/◌, ◌^◌, ◌<◌, ◌≤◌, Bool, IsTrue}
use Rattle.std.proofs.Common.{List, [], length, Option, Some, None, refl, sym, ap, subst, ◌∙◌}
use Rattle.std.proofs.Common.{arith}
use Rattle.std.proofs.Math.Nat.{mul-le-mul_right}
use Rattle.std.proofs.lemmas.Bool.{cases_lt}
use Rattle.std.proofs.lemmas.List.{take_all, nil_from_length}
use Rattle.std.proofs.lemmas.Nat.{div-mul-add}
use Rattle.vr_types.specs.Image.{Block, Image, block_at}
use Rattle.vr_types.specs.Blocks.{Puts}
use Rattle.vr_types.specs.Regions.{IsImageOn, Outside}
use Rattle.vr_types.specs.Seen.{Seen}
use Rattle.vr_types.proofs.CallerLemmas.{cur-elsewhere}
use Rattle.vr_log.specs.Content.{Content}
use Rattle.vr_log.specs.declared.record.LogRecord.{LogRecord}
use Rattle.vr_log.specs.Live.{live_in}
use Rattle.vr_log.specs.LogBlock.{generation_in, room_of}
use Rattle.vr_log.specs.LogNow.{LogNow, HasLog, IsForced, IsPrefixOf, first_of, left_by}
use Rattle.vr_log.specs.LogNow.{restarted}
use Rattle.vr_log.specs.Records.{bytes_of, HasFields}
use Rattle.vr_log.specs.Spells.{Spells}
use Rattle.vr_log.specs.Standing.{InLog, IsLeft, IsOurs, IsExact, LogStands, open_index}
use Rattle.vr_log.proofs.Codec.{All-none}
use Rattle.vr_log.proofs.Growing.{stands_has}
use Rattle.vr_log.proofs.Leaving.{next-has}
use Rattle.vr_log.proofs.Putting.{log-room, log-inside}

left-none : (behind : Option Content) (last : Content) → left_by behind last ≡ None → ⊥
left-none None last is = absurd cc
left-none (Some older) last is = absurd cc

module _ (log : LogNow) (seen : Seen) (stands : LogStands log seen) (forced : IsForced log)
    (dead : live_in log.records ≡ []) (room_left : log.generation + 1 < 2 ^ 63) where
  abbrev Last : Content
  Last = first_of log (length log.records)

  -- the log that is left has no live unit
  last-dead : live_in Last.records ≡ []
  last-dead =
      ap live_in (take_all (length log.records) log.records (omega arith)) ∙ dead

  older-dead : (older : Content) → log.behind ≡ Some older → live_in older.records ≡ []
  older-dead older is =
      ⊎_elim (λ (mine : older ≡ first_of log log.forced). ap (λ (c : Content). live_in c.records)
      (mine ∙ ap (first_of log) forced) ∙ last-dead) (λ none. none.1) (stands.behind older is)

  left-dead : (behind : Option Content) → log.behind ≡ behind → (older : Content)
      → left_by behind Last ≡ Some older → live_in older.records ≡ []
  left-dead None is older left =
      ap (λ (c : Content). live_in c.records) (let same : older ≡ Last = cc in same) ∙ last-dead
  left-dead (Some was) is older left =
      ap (λ (c : Content). live_in c.records) (let same : older ≡ was = cc in same)
      ∙ older-dead was is

  prefix-last : (image : Image) (content : Content) → Spells log.geometry image content
      → IsPrefixOf log content → Spells log.geometry image Last
  prefix-last image content spells prefix =
      let all : prefix.count ≡ length log.records =
      omega (arith, prefix.forced, prefix.all, forced) in
      subst (λ (c : Content). Spells log.geometry image c) (prefix.is
      ∙ ap (first_of log) all) spells

  -- no block of it was forced, and it has records: the log before has them all
  was-last : (older : Content) → log.behind ≡ Some older → 0 < length log.records → older ≡ Last
  was-last older is some =
      ⊎_elim (λ (mine : older ≡ first_of log log.forced). mine
      ∙ ap (first_of log) forced) (λ none. absurd (omega (arith, none.0, forced, some)))
      (stands.behind older is)

  spelled-last : (image : Image) → log.behind ≡ None → HasLog log image
      → Spells log.geometry image Last
  spelled-last image none (content, spells, inl prefix) = prefix-last image content spells prefix
  spelled-last image none (content, spells, inr behind) = absurd cc

  spelled-older : (image : Image) (older : Content) → log.behind ≡ Some older
      → 0 < length log.records → HasLog log image → Spells log.geometry image older
  spelled-older image older is some (content, spells, inl prefix) =
      subst (λ (c : Content). Spells log.geometry image c) (sym (was-last older is some))
      (prefix-last image content spells prefix)
  spelled-older image older is some (content, spells, inr behind) =
      subst (λ (c : Content). Spells log.geometry image c)
      (let same : content ≡ older = cc in same) spells

  no-bytes : length log.records ≤ 0 → length (bytes_of log.records) ≡ 0
  no-bytes none =
      ap (λ (rs : List LogRecord). length (bytes_of rs))
      (nil_from_length log.records (omega (arith, none)))

  -- each image spells the log that is left
  spells-left : (image : Image) → IsImageOn (InLog log.geometry) seen.count seen.may image
      → (behind : Option Content) → log.behind ≡ behind → (older : Content)
      → left_by behind Last ≡ Some older → Spells log.geometry image older
  spells-left image on None is older left =
      subst (λ (c : Content). Spells log.geometry image c)
      (let same : Last ≡ older = cc in same)
      (spelled-last image is
      (stands_has log seen image stands.allowed stands.fits stands on))
  spells-left image on (Some was) is older left =
      subst (λ (c : Content). Spells log.geometry image c)
      (let same : was ≡ older = cc in same)
      (⊎_elim
      (λ (some : 0 < length log.records). spelled-older image was is some
      (stands_has log seen image stands.allowed stands.fits stands on))
      (λ (none : length log.records ≤ 0). ⊎_elim
      (λ (spells : Spells log.geometry image was). spells)
      (λ (ours : IsOurs log (bytes_of log.records) (open_index log)
      (block_at image (1 + open_index log))). absurd (omega (arith, ours.2, no-bytes none)))
      (stands.leaves.older was is image on))
      (cases_lt 0 (length log.records)))

  next : (restarted log).generation ≡ log.generation + 1
  next = omega (arith, room_left)

  fresh : (index : ℕ) (block : Block) → generation_in block ≤ log.generation
      → IsLeft (restarted log) [] index block
  fresh index block young = record {
    within = record {
      used = λ is. absurd
          (omega (arith, (next-has (restarted log).generation index block is).0, young, next));
      payload = λ is. absurd
          (omega (arith, (next-has (restarted log).generation index block is).0, young, next));
      zeros = λ is. absurd
          (omega (arith, (next-has (restarted log).generation index block is).0, young, next));
    };
    reaches = λ past. absurd (omega (arith, past));
  }

  first-index : open_index (restarted log) ≡ 0
  first-index =
      let start : 0 * room_of log.geometry + 0 ≡ 0 = omega arith in
      let none : 0 / room_of log.geometry ≡ 0 =
      ap (λ (n : ℕ). n / room_of log.geometry) (sym start)
      ∙ div-mul-add 0 (room_of log.geometry) 0 (omega (arith, log-room log stands.allowed)) in
      omega (arith, none)

  pub restarted_stands : LogStands (restarted log) seen
  restarted_stands = record {
    allowed = stands.allowed;
    shape = stands.shape;
    some = omega (arith, next);
    below = omega (arith, next, room_left);
    fields = All-none HasFields;
    fits = omega arith;
    forced = omega arith;
    behind = λ older is. inr (refl, left-dead log.behind refl older is);
    begun = λ older is. omega (arith, ap (λ (n : ℕ). n * room_of log.geometry) first-index);
    leaves = record {
      young = λ index block below is. omega (arith, stands.leaves.young index block below is, next);
      each = λ index block below closed is. fresh index block
          (stands.leaves.young index block below is);
      first = λ none. absurd (left-none log.behind Last none);
      older = λ older is image on. inl (spells-left image on log.behind refl older is);
    };
    current = λ more. absurd (more refl);
  }

-- another block is put
module _ (told : Bool) (is_told : IsTrue told) (log : LogNow) (home : ℕ) (bytes : Block)
    (a b : Seen) (out : Outside (InLog log.geometry) home) (stands : LogStands log a)
    (put : Puts told home bytes a b) where
  was : (n : ℕ) (block : Block) → n < a.count → InLog log.geometry n → b.may n block → a.may n block
  was n block below is may =
      ⊎_elim (λ (old : a.may n block). old)
      (λ new. absurd (out (subst (InLog log.geometry) new.0 is)))
      (put.adds is_told n block below may)

  before : (i : ℕ) (block : Block) → i < log.geometry.log → b.may (1 + i) block
      → a.may (1 + i) block
  before i block below may =
      was (1 + i) block (omega (arith, below, log-inside log stands.allowed, stands.shape.count))
      (omega arith, omega (arith, below)) may

  inside : (i : ℕ) → i * room_of log.geometry < length (bytes_of log.records) → i < log.geometry.log
  inside i some =
      ⊎_elim (λ (below : i < log.geometry.log). below)
      (λ (past : log.geometry.log ≤ i). absurd
      (omega (
        arith,
        some,
        stands.fits,
        mul-le-mul_right {m = log.geometry.log} {n =
            i} (room_of log.geometry) past,
      ))) (cases_lt i log.geometry.log)

  pub stands_elsewhere : LogStands log b
  stands_elsewhere = record {
    allowed = stands.allowed;
    shape = record {
      count = put.count_same ∙ stands.shape.count;
      size = put.size_same
          ∙ stands.shape.size;
    };
    some = stands.some;
    below = stands.below;
    fields = stands.fields;
    fits = stands.fits;
    forced = stands.forced;
    behind = stands.behind;
    begun = stands.begun;
    leaves = record {
      young = λ i block below is. stands.leaves.young i block below (before i block below is);
      each = λ i block below closed is. stands.leaves.each i block below closed
          (before i block below is);
      first = λ none block is. stands.leaves.first none block
          (before 0 block stands.allowed.some_log is);
      older = λ older is image on. stands.leaves.older older is image (record {
        each =
            λ n below region. was n (block_at image n) below region
            (on.each n (omega (arith, below, put.count_same)) region);
      });
    };
    current = λ more i some from.
        let below = inside i some in
        subst (λ (x : Block). IsExact (room_of log.geometry) log.generation (bytes_of log.records) i
        x)
        (sym (cur-elsewhere told a b (1 + i) home bytes is_told
        (λ same. out (subst (InLog log.geometry) same (omega arith, omega (arith, below))))
        put)) (stands.current more i some from);
  }
