-- Blocks that are damaged spell no log, and one of them at most is the first.
use Rattle.std.proofs.Common.{◌≡◌, ◌⊎◌, inl, inr, ⊎_elim, ℕ, zero, suc, ◌+◌, ◌/◌, ◌^◌, ◌<◌, ◌≤◌, List}
use Rattle.std.proofs.Common.{◌≢◌, ◌++◌, length, All, sym, ap, subst, ◌∙◌, arith}
use Rattle.std.proofs.lemmas.Bool.{cases_lt}
use Rattle.vr_types.specs.Fields.{AreZeros}
use Rattle.vr_types.specs.Image.{Image, block_at}
use Rattle.vr_types.specs.declared.geometry.Geometry.{Geometry}
use Rattle.vr_log.specs.declared.record.LogRecord.{LogRecord}
use Rattle.vr_log.specs.Content.{Content}
use Rattle.vr_log.specs.Damage.{IsMisspelled, IsFirst, IsBadFirst, IsBadNext, IsBadBlock}
use Rattle.vr_log.specs.Damage.{IsBadRecord, IsBadLog, IsCrowded, IsDamagedAt}
use Rattle.vr_log.specs.Live.{used_by}
use Rattle.vr_log.specs.LogBlock.{generation_in, index_in, rest_in, room_of, used_in}
use Rattle.vr_log.specs.Records.{HasFields, bytes_of, IsCut, SpellsRecords}
use Rattle.vr_log.specs.Spells.{Spells, SpellsLog, Fits, log_bytes}
use Rattle.vr_log.proofs.Cuts.{cut-none}
use Rattle.vr_log.proofs.Unique.{ends_one, spelled_one, zeros-generation}

-- bytes that are spelled are nowhere misspelled
spelled-well : (bytes : List ℕ) (records before : List LogRecord) (rest : List ℕ)
    → SpellsRecords bytes records → All HasFields before → bytes ≡ bytes_of before ++ rest
    → IsMisspelled rest → ⊥
spelled-well bytes records before rest spelled fields is bad =
    let one = ends_one records before spelled.cut rest spelled.fields fields
    (cut-none spelled.cut spelled.is_cut) bad.no_record (sym spelled.spelled ∙ is) in
    bad.no_cut (subst IsCut one.1 spelled.is_cut)

-- where each block that goes on has room for what it uses, and zeros past that, none is bad
fits-bad : (geometry : Geometry) (generation : ℕ) (image : Image) (index : ℕ)
    → IsBadNext geometry generation image index → (from left : ℕ) → from ≤ index
    → index < from + left
    → Fits (room_of geometry) generation from left image → ⊥
fits-bad geometry generation image index bad from zero low high fits =
    omega (arith, low, high)
fits-bad geometry generation image index bad from (suc left) low high fits =
    ⊎_elim
    (λ (less : from < index). let full = bad.full from less in
    fits-bad geometry generation image index bad (from + 1) left (omega (arith, less))
    (omega (arith, high)) ((fits full.next).2 full.used))
    (λ (most : index ≤ from). let same : index ≡ from = omega (arith, low, most) in
    let here : IsBadNext geometry generation image from =
    subst (λ (n : ℕ). IsBadNext geometry generation image n) same bad in
    let has = fits here.next in
    ⊎_elim
    (λ (over : room_of geometry < used_in (block_at image (1 + from))). omega (arith, has.0, over))
    (λ (other : AreZeros (rest_in (block_at image (1 + from))) → ⊥). other has.1) here.bad)
    (cases_lt from index)

-- one block is bad at most
one-bad : (geometry : Geometry) (generation : ℕ) (image : Image) (one other : ℕ)
    → IsBadNext geometry generation image one → IsBadNext geometry generation image other
    → one < other → ⊥
one-bad geometry generation image one other first second less =
    let full = second.full one less in
    ⊎_elim
    (λ (over : room_of geometry < used_in (block_at image (1 + one))). omega
    (arith, full.used, over))
    (λ (other : AreZeros (rest_in (block_at image (1 + one))) → ⊥). other full.zeros) first.bad

-- a block 1 that begins a generation is neither zeros nor bad
first-bad : (image : Image) (generation : ℕ) → IsFirst (block_at image 1) generation
    → IsBadFirst (block_at image 1) → ⊥
first-bad image generation first bad = by bad.bad
  where
    by : (generation_in (block_at image 1) ≡ 0) ⊎ (2 ^ 63 ≤ generation_in (block_at image 1))
        ⊎ (index_in (block_at image 1) ≢ 0) → ⊥
    by (inl none) = omega (arith, none, first.generation, first.some)
    by (inr (inl late)) = omega (arith, late, first.generation, first.below)
    by (inr (inr other)) = other first.first

module _ (geometry : Geometry) (image : Image) where
  -- the ways in which the log of a generation is misspelled at a block
  abbrev Wrong : ℕ → ℕ → Type 0
  Wrong generation n = IsBadBlock geometry generation image n
      ⊎ IsBadRecord geometry generation image n ⊎ IsCrowded geometry generation image n

  same-first : (one other : ℕ) → IsFirst (block_at image 1) one → IsFirst (block_at image 1) other
      → other ≡ one
  same-first one other first second = sym second.generation ∙ first.generation

  log-damaged : (content : Content) (n : ℕ) → SpellsLog geometry image content
      → IsBadLog geometry image n → ⊥
  log-damaged content n spells bad = by (subst (λ (g : ℕ). Wrong g n) same bad.bad)
    where
      same : bad.generation ≡ content.generation
      same = sym bad.first.generation ∙ spells.generation

      by : Wrong content.generation n → ⊥
      by (inl block) =
          fits-bad geometry content.generation image block.index block.bad 0 geometry.log
          (omega arith) (omega (arith, block.bad.within)) spells.fits
      by (inr (inl wrong)) =
          spelled-well (log_bytes geometry content.generation image) content.records wrong.records
          wrong.rest spells.records wrong.fields wrong.bytes wrong.misspelled
      by (inr (inr crowded)) =
          let one : content.records ≡ crowded.records =
          spelled_one (log_bytes geometry content.generation image) content.records
          crowded.records spells.records crowded.spelled in
          omega (arith, spells.room, crowded.over, ap used_by one)

  -- damaged blocks spell no log
  pub damaged_none : (content : Content) (n : ℕ) → 8 ≤ length (block_at image 1)
      → Spells geometry image content → IsDamagedAt geometry image n → ⊥
  damaged_none content n long (inl none) (inl first) = first.1.some none.zeros
  damaged_none content n long (inl none) (inr bad) =
      omega (
        arith,
        zeros-generation (block_at image 1) long none.zeros,
        bad.first.generation,
        bad.first.some,
      )
  damaged_none content n long (inr spells) (inl first) =
      first-bad image content.generation
      (record {
        generation = spells.generation;
        some = spells.some;
        below = spells.below;
        first = spells.first;
      })
      first.1
  damaged_none content n long (inr spells) (inr bad) = log-damaged content n spells bad

  -- what is crowded is misspelled nowhere else
  crowded-block : (generation one other : ℕ) → IsCrowded geometry generation image one
      → IsBadBlock geometry generation image other → ⊥
  crowded-block generation one other crowded block =
      fits-bad geometry generation image block.index block.bad 0 geometry.log (omega arith)
      (omega (arith, block.bad.within)) crowded.fits

  crowded-record : (generation one other : ℕ) → IsCrowded geometry generation image one
      → IsBadRecord geometry generation image other → ⊥
  crowded-record generation one other crowded wrong =
      spelled-well (log_bytes geometry generation image) crowded.records wrong.records wrong.rest
      crowded.spelled wrong.fields wrong.bytes wrong.misspelled

  one-block : (generation one other : ℕ) → Wrong generation one → Wrong generation other
      → one ≡ other
  one-block generation one other (inl first) (inl second) =
      let less : first.index < second.index → ⊥ =
      one-bad geometry generation image first.index second.index first.bad second.bad in
      let more : second.index < first.index → ⊥ =
      one-bad geometry generation image second.index first.index second.bad first.bad in
      let same : first.index ≡ second.index =
      ⊎_elim (λ (below : first.index < second.index). absurd (less below))
      (λ (above : second.index ≤ first.index).
      ⊎_elim (λ (under : second.index < first.index). absurd (more under))
      (λ (at : first.index ≤ second.index). omega (arith, above, at))
      (cases_lt second.index first.index)) (cases_lt first.index second.index) in
      first.block ∙ ap (λ (n : ℕ). 1 + n) same ∙ sym second.block
  one-block generation one other (inl first) (inr (inl second)) =
      absurd (spelled-well (log_bytes geometry generation image) first.records second.records
      second.rest first.spelled second.fields second.bytes second.misspelled)
  one-block generation one other (inr (inl first)) (inl second) =
      absurd (spelled-well (log_bytes geometry generation image) second.records first.records
      first.rest second.spelled first.fields first.bytes first.misspelled)
  one-block generation one other (inr (inl first)) (inr (inl second)) =
      let same : first.records ≡ second.records =
      (ends_one first.records second.records first.rest second.rest first.fields second.fields
      first.misspelled.no_record second.misspelled.no_record
      (sym first.bytes ∙ second.bytes)).0 in
      first.block
      ∙ ap (λ (rs : List LogRecord). 1 + length (bytes_of rs) / room_of geometry) same
      ∙ sym second.block
  one-block generation one other (inr (inr first)) (inr (inr second)) =
      first.block ∙ sym second.block
  one-block generation one other (inr (inr first)) (inl second) =
      absurd (crowded-block generation one other first second)
  one-block generation one other (inr (inr first)) (inr (inl second)) =
      absurd (crowded-record generation one other first second)
  one-block generation one other (inl first) (inr (inr second)) =
      absurd (crowded-block generation other one second first)
  one-block generation one other (inr (inl first)) (inr (inr second)) =
      absurd (crowded-record generation other one second first)

  -- one block at most is the first that is misspelled
  pub damaged_one : (one other : ℕ) → IsDamagedAt geometry image one
      → IsDamagedAt geometry image other → one ≡ other
  damaged_one one other (inl first) (inl second) = first.0 ∙ sym second.0
  damaged_one one other (inl first) (inr second) =
      absurd (first-bad image second.generation second.first first.1)
  damaged_one one other (inr first) (inl second) =
      absurd (first-bad image first.generation first.first second.1)
  damaged_one one other (inr first) (inr second) =
      let same = same-first first.generation second.generation first.first second.first in
      one-block first.generation one other first.bad
      (subst (λ (g : ℕ). Wrong g other) same second.bad)
