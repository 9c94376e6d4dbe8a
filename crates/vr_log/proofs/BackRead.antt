-- What a log that was read back spells, or where it is damaged.
use Rattle.std.proofs.Common.{◌≡◌, inl, inr, ℕ, ◌+◌, ◌/◌, ◌^◌, ◌<◌, List, drop, Some, None}
use Rattle.std.proofs.Common.{refl, sym, ap, subst, ◌∙◌, ◌≤◌, Result, Ok, Err, IfErr}
use Rattle.vr_types.specs.Image.{Image, block_at}
use Rattle.vr_types.specs.LogSpace.{log_size}
use Rattle.vr_types.specs.declared.geometry.Geometry.{Geometry}
use Rattle.vr_log.specs.declared.record.LogRecord.{LogRecord}
use Rattle.vr_log.specs.Content.{Content}
use Rattle.vr_log.specs.Damage.{IsFirst, IsMisspelled, IsDamagedAt}
use Rattle.vr_log.specs.Decoding.{IsUpTo}
use Rattle.vr_log.specs.Live.{used_by}
use Rattle.vr_log.specs.LogBlock.{room_of}
use Rattle.vr_log.specs.declared.read_no.LogReadNo.{LogReadNo}
use Rattle.vr_log.specs.declared.read_no.LogReadNo.TheVariants.{Damaged, Fault, Memory}
use Rattle.vr_log.specs.Reading.{IsGathered, IsNoDamage, IsDamageOf}
use Rattle.vr_log.specs.Records.{SpellsRecords}
use Rattle.vr_log.specs.Spells.{Spells, Fits, log_bytes}

module _ (geometry : Geometry) (image : Image) (generation : ℕ) (bytes : List ℕ)
    (first : IsFirst (block_at image 1) generation) where
  -- all bytes are those of the records
  pub read_spells : (content : Content) → content.generation ≡ generation
      → IsGathered geometry generation image bytes None → SpellsRecords bytes content.records
      → used_by content.records ≤ log_size geometry → Spells geometry image content
  read_spells content same gathered spelled room = inr (record {
    generation = first.generation ∙ sym same;
    some = subst (λ (n : ℕ). 1 ≤ n) (sym same) first.some;
    below = subst (λ (n : ℕ). n < 2 ^ 63) (sym same) first.below;
    first = first.first;
    fits = subst (λ (n : ℕ). Fits (room_of geometry) n 0 geometry.log image) (sym same)
        gathered.end;
    records = subst (λ (n : ℕ). SpellsRecords (log_bytes geometry n image) content.records)
        (sym same)
        (subst (λ (l : List ℕ). SpellsRecords l content.records) (sym gathered.bytes_is) spelled);
    room = room;
  })

  -- and there is no room for what they keep
  pub read_crowded : (content : Content) → IsGathered geometry generation image bytes None
      → SpellsRecords bytes content.records → log_size geometry < used_by content.records
      → IsDamagedAt geometry image 1
  read_crowded content gathered spelled over = inr (record {
    generation = generation;
    first = first;
    bad = inr (inr (record {
      fits = gathered.end;
      records = content.records;
      spelled = subst (λ (l : List ℕ). SpellsRecords l content.records) (sym gathered.bytes_is)
          spelled;
      over = over;
      block = refl;
    }));
  })

  -- some are misspelled
  pub read_misspelled : (records : List LogRecord) (at n : ℕ)
      → log_bytes geometry generation image ≡ bytes → IsUpTo bytes records at
      → IsMisspelled (drop at bytes) → n ≡ 1 + at / room_of geometry
      → IsDamagedAt geometry image n
  read_misspelled records at n is read bad place = inr (record {
    generation = generation;
    first = first;
    bad = inr (inl (record {
      records = records;
      rest = drop at bytes;
      fields = read.fields;
      bytes = is ∙ read.is;
      misspelled = bad;
      block = place ∙ ap (λ (m : ℕ). 1 + m / room_of geometry) (sym read.long);
    }));
  })

  -- a block says more bytes than it has room for, or has others than zeros past them
  pub read_wrong : (records : List LogRecord) (index n : ℕ)
      → IsGathered geometry generation image bytes (Some index) → SpellsRecords bytes records
      → n ≡ 1 + index → IsDamagedAt geometry image n
  read_wrong records index n gathered spelled place = inr (record {
    generation = generation;
    first = first;
    bad = inl (record {
      index = index;
      block = place;
      bad = gathered.end;
      records = records;
      spelled = subst (λ (l : List ℕ). SpellsRecords l records) (sym gathered.bytes_is) spelled;
    });
  })

-- an answer without damage is right of any blocks
no_damage : (geometry : Geometry) (image : Image) (answer : LogReadNo) → IsNoDamage answer
    → IsDamageOf geometry image answer
no_damage geometry image (Damaged block) none = absurd none
no_damage geometry image (Fault fault) none = tt
no_damage geometry image Memory none = tt

pub no_damage_in : {T : Type 0} (geometry : Geometry) (image : Image) (result : Result T LogReadNo)
    → IfErr result IsNoDamage → IfErr result (IsDamageOf geometry image)
no_damage_in geometry image (Ok x) none = none
no_damage_in geometry image (Err answer) none = no_damage geometry image answer none
