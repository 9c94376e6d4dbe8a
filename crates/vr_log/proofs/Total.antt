-- Blocks spell a log, or one of them is the first that is misspelled.
use Rattle.std.proofs.Common.{◌≡◌, ◌⊎◌, inl, inr, ⊎_elim, ℕ, zero, suc, ◌+◌, ◌-◌, ◌/◌, ◌^◌, ◌<◌, ◌≤◌}
use Rattle.std.proofs.Common.{Bool, true, false, List, [], ◌∷◌, ◌++◌, length, take, drop, All}
use Rattle.std.proofs.Common.{Option, Some, None, get_or, nat_eq, nat_le, refl, sym, ap, subst, ◌∙◌}
use Rattle.std.proofs.Common.{arith, true≢false}
use Rattle.std.proofs.lemmas.Bool.{cases_lt, cases_eq}
use Rattle.std.proofs.lemmas.List.{append_assoc, length-drop, length-take, nil_from_length}
use Rattle.std.proofs.lemmas.List.Elements.{All-append}
use Rattle.vr_types.specs.Fields.{IsBytes, AreZeros, two_at, four_at}
use Rattle.vr_types.specs.Image.{Block, Image, block_at}
use Rattle.vr_types.specs.LogSpace.{log_size}
use Rattle.vr_types.specs.declared.geometry.Geometry.{Geometry}
use Rattle.vr_types.proofs.CallerLemmas.{IsBytes-take, IsBytes-drop}
use Rattle.vr_log.specs.declared.record.EndKind.TheVariants.{Committed, BackedOut}
use Rattle.vr_log.specs.declared.record.LogRecord.{LogRecord}
use Rattle.vr_log.specs.declared.record.LogRecord.TheVariants.{Before}
use Rattle.vr_log.specs.Content.{Content}
use Rattle.vr_log.specs.Damage.{IsMisspelled, IsFirst, IsFull, IsBadNext, IsDamagedAt}
use Rattle.vr_log.specs.Decoding.{IsOldCut, IsOldWrong, IsOld, IsWhole}
use Rattle.vr_log.specs.Live.{used_by}
use Rattle.vr_log.specs.LogBlock.{generation_in, index_in, used_in, payload_in, rest_in, is_next}
use Rattle.vr_log.specs.LogBlock.{room_of}
use Rattle.vr_log.specs.Records.{HasFields, record_bytes, bytes_of, IsCut, SpellsRecords}
use Rattle.vr_log.specs.Spells.{joined, bytes_from, log_bytes, Fits, Spells}
use Rattle.vr_log.proofs.BeforeBytes.{read-cut, read-whole, read-wrong}
use Rattle.vr_log.proofs.Codec.{All-none, All-one}
use Rattle.vr_log.proofs.Cuts.{none-cut}
use Rattle.vr_log.proofs.RecordBytes.{no-kind, end-whole, no-flag, absent-wrong, absent-whole}
use Rattle.vr_log.proofs.RecordBytes.{present-whole, IsBytes-append}

-- all zeros, or not
zeros-or : (bytes : List ℕ) → AreZeros bytes ⊎ (AreZeros bytes → ⊥)
zeros-or [] = inl (All-none (λ (n : ℕ). n ≡ 0))
zeros-or (b ∷ bytes) =
    elim (cases_eq b 0) [
      | inl same ↦ ⊎_elim
          (λ (zeros : AreZeros bytes). inl (All-append (λ (n : ℕ). n ≡ 0) (b ∷ []) bytes
          (All-one (λ (n : ℕ). n ≡ 0) b same) zeros))
          (λ (other : AreZeros bytes
          → ⊥). inr (λ zeros. other (λ i d below. zeros (suc i) d (omega (arith, below)))))
          (zeros-or bytes)
      | inr other ↦ inr (λ zeros. other (zeros 0 0 (omega arith)))
    ]

-- ---- an old record

Old : List ℕ → Type 0
Old bytes = ((old : Option (List ℕ)) × (count : ℕ) × IsOld bytes old count)
    ⊎ (IsOldCut bytes ⊎ IsOldWrong bytes)

absent-or : (bytes : List ℕ) → 5 + four_at 1 bytes ≤ length bytes → get_or bytes 0 0 ≡ 0 → Old bytes
unfolding Old
absent-or bytes long first =
    ⊎_elim
    (λ (zeros : AreZeros (take 4 (drop 1 bytes))). inl
    (None, 5, absent-whole bytes (omega (arith, long)) first zeros))
    (λ (other : AreZeros (take 4 (drop 1 bytes))
    → ⊥). inr (inr (absent-wrong bytes long first other)))
    (zeros-or (take 4 (drop 1 bytes)))

old-or : (bytes : List ℕ) → IsBytes bytes → 5 ≤ length bytes → Old bytes
unfolding Old
old-or bytes fits long =
    elim (cases_lt (length bytes) (5 + four_at 1 bytes)) [
      | inl less ↦ inr (inl less)
      | inr all ↦ elim (cases_eq (get_or bytes 0 0) 0) [
        | inl is ↦ absent-or bytes all is
        | inr more ↦ elim (cases_eq (get_or bytes 0 0) 1) [
          | inl is ↦ inl (
            Some (take (four_at 1 bytes) (drop 5 bytes)),
            5 + four_at 1 bytes,
            present-whole bytes fits long all is,
          )
          | inr other ↦ inr (inr (no-flag bytes all (λ flag. flag-two (get_or bytes 0 0) more
              other flag)))
        ]
      ]
    ]
  where
    flag-two : (n : ℕ) → (n ≡ 0 → ⊥) → (n ≡ 1 → ⊥) → n ≤ 1 → ⊥
    flag-two zero more other flag = more refl
    flag-two (suc zero) more other flag = other refl
    flag-two (suc (suc n)) more other flag = omega (arith, flag)

-- ---- a record

Found : List ℕ → Type 0
Found bytes = ((rec : LogRecord) × (count : ℕ) × IsWhole bytes rec count)
    ⊎ (IsCut bytes ⊎ IsMisspelled bytes)

before-or : (bytes : List ℕ) → IsBytes bytes → get_or bytes 0 0 ≡ 1
    → Found bytes
unfolding Found Old
before-or bytes fits first =
    elim (cases_lt (length bytes) 15) [
      | inl short ↦ inr (inl (inr (record { kind = first; short = inl short })))
      | inr long ↦
          let n = two_at 13 bytes in
          elim (cases_lt (length bytes) (20 + n)) [
            | inl cut ↦ inr (inl (inr (record { kind = first; short = inr (inl cut) })))
            | inr within ↦
                let tail = take (length bytes - (15 + n)) (drop (15 + n) bytes) in
                let room : 15 + n ≤ length bytes = omega (arith, within) in
                ⊎_elim
                (λ (whole : (old : Option (List ℕ)) × (count : ℕ) × IsOld tail old count). inl (
                  Before (record { deck = four_at 1 bytes; number = four_at 5 bytes })
                      (record { 0 = four_at 9 bytes }) (take (15 + n - 15) (drop 15 bytes))
                      whole.0,
                  15 + n + whole.1,
                  read-whole bytes n fits long first refl room whole.0 whole.1
                      (15 + n + whole.1) _ refl refl whole.2,
                ))
                (λ (part : IsOldCut tail ⊎ IsOldWrong tail). inr (⊎_elim
                (λ (cut : IsOldCut tail). inl (read-cut bytes n fits long first refl room cut))
                (λ (wrong : IsOldWrong tail). inr
                (read-wrong bytes n fits long first refl room wrong)) part))
                (old-or tail (IsBytes-take (length bytes - (15 + n)) (drop (15 + n) bytes)
                (IsBytes-drop (15 + n) bytes fits))
                (omega (
                  arith,
                  within,
                  length-take (length bytes - (15 + n)) (drop (15 + n) bytes),
                  length-drop (15 + n) bytes,
                )))
          ]
    ]

record-or : (bytes : List ℕ) → IsBytes bytes → Found bytes
unfolding Found
record-or bytes fits =
    elim (cases_lt (length bytes) 9) [
      | inl few ↦ inr (inl (inl few))
      | inr long ↦ elim (cases_eq (get_or bytes 0 0) 1) [
        | inl is ↦ before-or bytes fits is
        | inr one ↦ elim (cases_eq (get_or bytes 0 0) 2) [
          | inl is ↦ inl (_, 9, end-whole Committed bytes fits long is)
          | inr two ↦ elim (cases_eq (get_or bytes 0 0) 3) [
            | inl is ↦ inl (_, 9, end-whole BackedOut bytes fits long is)
            | inr three ↦ inr (inr (no-kind bytes long (λ kind.
                kind-four (get_or bytes 0 0) one two three kind.0 kind.1)))
          ]
        ]
      ]
    ]
  where
    kind-four : (n : ℕ) → (n ≡ 1 → ⊥) → (n ≡ 2 → ⊥) → (n ≡ 3 → ⊥) → 1 ≤ n → n ≤ 3 → ⊥
    kind-four zero one two three least most = omega (arith, least)
    kind-four (suc zero) one two three least most = one refl
    kind-four (suc (suc zero)) one two three least most = two refl
    kind-four (suc (suc (suc zero))) one two three least most = three refl
    kind-four (suc (suc (suc (suc n)))) one two three least most = omega (arith, most)

-- ---- all records

pub record Split (bytes : List ℕ) : Type 0 where
  pub records : List LogRecord
  pub rest : List ℕ
  pub fields : All HasFields records
  pub is : bytes ≡ bytes_of records ++ rest
  pub end : IsCut rest ⊎ IsMisspelled rest

split-or : (fuel : ℕ) (bytes : List ℕ) → length bytes ≤ fuel → IsBytes bytes → Split bytes
unfolding Found
split-or zero bytes short fits = record {
  records = [];
  rest = bytes;
  fields = All-none HasFields;
  is = refl;
  end = inl (subst IsCut (sym (nil_from_length bytes (omega (arith, short)))) none-cut);
}
split-or (suc fuel) bytes short fits =
    ⊎_elim
    (λ (whole : (rec : LogRecord) × (count : ℕ) × IsWhole bytes rec count).
    let rest = drop whole.1 bytes in
    let more = split-or fuel rest
    (omega (arith, length-drop whole.1 bytes, short, whole.2.some, whole.2.within))
    (IsBytes-drop whole.1 bytes fits) in
    record {
      records = whole.0 ∷ more.records;
      rest = more.rest;
      fields = All-append HasFields (whole.0 ∷ []) more.records
          (All-one HasFields whole.0 whole.2.fields) more.fields;
      is = whole.2.is
          ∙ ap (λ (l : List ℕ). record_bytes whole.0 ++ l) more.is
          ∙ sym (append_assoc (record_bytes whole.0) (bytes_of more.records) more.rest);
      end = more.end;
    })
    (λ (end : IsCut bytes ⊎ IsMisspelled bytes). record {
      records = [];
      rest = bytes;
      fields = All-none HasFields;
      is = refl;
      end = end;
    })
    (record-or bytes fits)

-- ---- the blocks

joined-bytes : (next fits full : Bool) (payload rest : List ℕ) → IsBytes payload → IsBytes rest
    → IsBytes (joined next fits full payload rest)
joined-bytes true true true payload rest one other = IsBytes-append payload rest one other
joined-bytes true true false payload rest one other =
    IsBytes-append payload [] one (λ i. omega arith)
joined-bytes true false full payload rest one other = λ i. omega arith
joined-bytes false fits full payload rest one other = λ i. omega arith

payload-bytes : (block : Block) → IsBytes block → IsBytes (payload_in block)
unfolding payload_in
payload-bytes block fits = IsBytes-take (used_in block) (drop 16 block) (IsBytes-drop 16 block fits)

from-bytes : (room generation index left : ℕ) (image : Image)
    → ((i : ℕ) → index ≤ i → i < index + left → IsBytes (block_at image (1 + i)))
    → IsBytes (bytes_from room generation index left image)
from-bytes room generation index zero image each = λ i. omega arith
from-bytes room generation index (suc left) image each =
    let block = block_at image (1 + index) in
    joined-bytes (is_next generation index block) (nat_le (used_in block) room)
    (nat_eq (used_in block) room) (payload_in block)
    (bytes_from room generation (index + 1) left image)
    (payload-bytes block (each index (omega arith) (omega arith)))
    (from-bytes room generation (index + 1) left image
    (λ i from to. each i (omega (arith, from)) (omega (arith, to))))

next-or : (next : Bool) → (next ≡ true) ⊎ (next ≡ false)
next-or true = inl refl
next-or false = inr refl

module _ (geometry : Geometry) (generation : ℕ) (image : Image) where
  abbrev Room : ℕ
  Room = room_of geometry

  abbrev At : ℕ → Block
  At index = block_at image (1 + index)

  fits-or : (index left : ℕ) → index + left ≡ geometry.log
      → ((i : ℕ) → i < index → IsFull Room generation i (At i))
      → Fits Room generation index left image
      ⊎ ((i : ℕ) × IsBadNext geometry generation image i)
  fits-or index zero all full = inl tt
  fits-or index (suc left) all full =
      ⊎_elim
      (λ (next : is_next generation index (At index) ≡ true).
      elim (cases_lt Room (used_in (At index))) [
        | inl over ↦ inr (
          index,
          record { within = omega (arith, all); full = full; next = next; bad = inl over },
        )
        | inr within ↦ elim (zeros-or (rest_in (At index))) [
          | inr other ↦ inr (
            index,
            record { within = omega (arith, all); full = full; next = next; bad = inr other },
          )
          | inl zeros ↦ elim (cases_eq (used_in (At index)) Room) [
            | inr part ↦ inl (λ _. (within, zeros, λ same. absurd (part same)))
            | inl used ↦
                let here : IsFull Room generation index (At index) =
                record { next = next; used = used; zeros = zeros } in
                ⊎_elim
                (λ (fits : Fits Room generation (index + 1) left image). inl
                (λ _. (within, zeros, λ same. fits)))
                inr
                (fits-or (index + 1) left (omega (arith, all)) (λ i below. ⊎_elim
                (λ (less : i < index). full i less)
                (λ (most : index ≤ i). let same : index ≡ i = omega (arith, most, below) in
                subst (λ (n : ℕ). IsFull Room generation n (At n)) same here)
                (cases_lt i index)))
          ]
        ]
      ])
      (λ (out : is_next generation index (At index) ≡ false). inl
      (λ next. absurd (true≢false (sym next ∙ out))))
      (next-or (is_next generation index (At index)))

  -- whether the log has room for what the records keep
  spelled-or : IsFirst (block_at image 1) generation → (records : List LogRecord)
      → Fits Room generation 0 geometry.log image
      → SpellsRecords (log_bytes geometry generation image) records
      → ((content : Content) × Spells geometry image content)
      ⊎ ((n : ℕ) × IsDamagedAt geometry image n)
  spelled-or first records fits spelled =
      ⊎_elim
      (λ (over : log_size geometry < used_by records). inr (
        1,
        inr (record {
          generation = generation;
          first = first;
          bad = inr (inr (record {
            fits = fits;
            records = records;
            spelled = spelled;
            over = over;
            block = refl;
          }));
        }),
      ))
      (λ (room : used_by records ≤ log_size geometry). inl (
        record { generation = generation; records = records },
        inr (record {
          generation = first.generation;
          some = first.some;
          below = first.below;
          first = first.first;
          fits = fits;
          records = spelled;
          room = room;
        }),
      ))
      (cases_lt (log_size geometry) (used_by records))

  log-or : IsFirst (block_at image 1) generation
      → ((i : ℕ) → i < geometry.log → IsBytes (At i))
      → ((content : Content) × Spells geometry image content)
      ⊎ ((n : ℕ) × IsDamagedAt geometry image n)
  log-or first each =
      let bytes = log_bytes geometry generation image in
      let parts = split-or (length bytes) bytes (omega arith)
      (from-bytes Room generation 0 geometry.log image
      (λ i from to. each i (omega (arith, to)))) in
      ⊎_elim
      (λ (cut : IsCut parts.rest).
      let spelled : SpellsRecords bytes parts.records =
      record { fields = parts.fields; cut = parts.rest; is_cut = cut; spelled = parts.is } in
      ⊎_elim
      (λ (fits : Fits Room generation 0 geometry.log image). spelled-or first parts.records fits
      spelled)
      (λ (bad : (i : ℕ) × IsBadNext geometry generation image i). inr (
        1 + bad.0,
        inr (record {
          generation = generation;
          first = first;
          bad = inl (record {
            index = bad.0;
            block = refl;
            bad = bad.1;
            records = parts.records;
            spelled = spelled;
          });
        }),
      ))
      (fits-or 0 geometry.log (omega arith) (λ i below. absurd (omega (arith, below)))))
      (λ (bad : IsMisspelled parts.rest). inr (
        1 + length (bytes_of parts.records) / Room,
        inr (record {
          generation = generation;
          first = first;
          bad = inr (inl (record {
            records = parts.records;
            rest = parts.rest;
            fields = parts.fields;
            bytes = parts.is;
            misspelled = bad;
            block = refl;
          }));
        }),
      ))
      parts.end

pub spelled_or_damaged : (geometry : Geometry) (image : Image) → 1 ≤ geometry.log
    → ((i : ℕ) → i < geometry.log → IsBytes (block_at image (1 + i)))
    → ((content : Content) × Spells geometry image content)
    ⊎ ((n : ℕ) × IsDamagedAt geometry image n)
spelled_or_damaged geometry image some each =
    let block = block_at image 1 in
    ⊎_elim
    (λ (zeros : AreZeros block). inl (
      record { generation = 0; records = [] },
      inl (record { zeros = zeros; none = refl }),
    ))
    (λ (other : AreZeros block → ⊥).
    elim (cases_eq (generation_in block) 0) [
      | inl none ↦ inr (1, inl (refl, record { some = other; bad = inl none }))
      | inr later ↦ elim (cases_lt (generation_in block) (2 ^ 63)) [
        | inr late ↦ inr (1, inl (refl, record { some = other; bad = inr (inl late) }))
        | inl below ↦ elim (cases_eq (index_in block) 0) [
          | inr index ↦ inr (1, inl (refl, record { some = other; bad = inr (inr index) }))
          | inl index ↦ log-or geometry (generation_in block) image (record {
            generation = refl;
            some = positive (generation_in block) later;
            below = below;
            first = index;
          }) each
        ]
      ]
    ]) (zeros-or block)
  where
    positive : (n : ℕ) → (n ≡ 0 → ⊥) → 1 ≤ n
    positive zero none = absurd (none refl)
    positive (suc n) none = omega arith
