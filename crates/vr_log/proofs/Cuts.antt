-- What is left of a record that isn't whole: no record's bytes begin it, and each beginning of a
-- record is that.
use Rattle.std.proofs.Common.{◌≡◌, ◌⊎◌, inl, inr, ⊎_elim, ℕ, ◌+◌, ◌^◌, ◌<◌, ◌≤◌, List, [], ◌++◌}
use Rattle.std.proofs.Common.{length, take, drop, Option, Some, None, IfSome, get_or, refl, sym, ap}
use Rattle.std.proofs.Common.{subst, ◌∙◌, arith}
use Rattle.std.specs.Int.{w16, w32, from_be_bytes}
use Rattle.std.proofs.lemmas.Bool.{cases_lt}
use Rattle.std.proofs.lemmas.List.{append_assoc, drop-append-le, drop-drop, drop_at, length-append}
use Rattle.std.proofs.lemmas.List.{length-drop, take-append-drop, take-append-le}
use Rattle.vr_types.specs.Fields.{four, two, four_at, two_at}
use Rattle.vr_types.specs.declared.unit.PartNo.{PartNo}
use Rattle.vr_types.specs.declared.unit.Unit.{Unit as UnitOfRecovery}
use Rattle.vr_types.proofs.CallerLemmas.{four_at-four, two_at-two}
use Rattle.vr_log.specs.declared.record.EndKind.{EndKind}
use Rattle.vr_log.specs.declared.record.EndKind.TheVariants.{Committed, BackedOut}
use Rattle.vr_log.specs.declared.record.LogRecord.{LogRecord}
use Rattle.vr_log.specs.declared.record.LogRecord.TheVariants.{Before, End}
use Rattle.vr_log.specs.Records.{HasFields, IsCut, IsShort, end_number, old_bytes, record_bytes}
use Rattle.vr_log.specs.Records.{unit_bytes}
use Rattle.vr_log.proofs.Lives.{length-before, length-ended, length-none, length-some}
use Rattle.vr_log.proofs.RecordBytes.{first-more}

pub end-number : (kind : EndKind) → 2 ≤ end_number kind
end-number Committed = omega arith
end-number BackedOut = omega arith

-- nothing is what is left of any record
pub none-cut : IsCut []
none-cut = inl (omega arith)

-- numbers that stand before other bytes
two-more : (bytes more : List ℕ) → 15 ≤ length bytes
    → two_at 13 (bytes ++ more) ≡ two_at 13 bytes
unfolding two_at
two-more bytes more long =
    ap (λ (l : List ℕ). from_be_bytes w16 l)
    (ap (λ (l : List ℕ). take 2 l) (drop-append-le 13 bytes more (omega (arith, long)))
    ∙ take-append-le 2 (drop 13 bytes) more (omega (arith, length-drop 13 bytes, long)))

four-more : (at : ℕ) (bytes more : List ℕ) → at + 4 ≤ length bytes
    → four_at at (bytes ++ more) ≡ four_at at bytes
unfolding four_at
four-more at bytes more long =
    ap (λ (l : List ℕ). from_be_bytes w32 l)
    (ap (λ (l : List ℕ). take 4 l) (drop-append-le at bytes more (omega (arith, long)))
    ∙ take-append-le 4 (drop at bytes) more (omega (arith, length-drop at bytes, long)))

-- a before-image of which bytes are missing, cut once more
short-less : (bytes more : List ℕ) → 9 ≤ length bytes → IsShort (bytes ++ more) → IsShort bytes
short-less bytes more some is = record {
  kind = sym (first-more bytes more (omega (arith, some))) ∙ is.kind;
  short = elim (cases_lt (length bytes) 15) [
    | inl few ↦ inl few
    | inr long ↦ elim (cases_lt (length bytes) (20 + two_at 13 bytes)) [
      | inl few ↦ inr (inl few)
      | inr all ↦ inr (inr (fewer long all is.short))
    ]
  ];
}
  where
    fewer : 15 ≤ length bytes → 20 + two_at 13 bytes ≤ length bytes
        → (length (bytes ++ more) < 15) ⊎ (length (bytes ++ more) < 20 + two_at 13 (bytes ++ more))
        ⊎ (length (bytes ++ more) < 20 + two_at 13 (bytes ++ more)
        + four_at (16 + two_at 13 (bytes ++ more)) (bytes ++ more))
        → length bytes < 20 + two_at 13 bytes + four_at (16 + two_at 13 bytes) bytes
    fewer long all (inl few) = omega (arith, few, long, length-append bytes more)
    fewer long all (inr (inl few)) =
        omega (arith, few, all, length-append bytes more, two-more bytes more long)
    fewer long all (inr (inr few)) =
        omega (
          arith,
          few,
          length-append bytes more,
          two-more bytes more long,
          ap (λ (n : ℕ). four_at (16 + n) (bytes ++ more)) (two-more bytes more long),
          four-more (16 + two_at 13 bytes) bytes more (omega (arith, all)),
        )

-- what is left of a record that isn't whole, cut once more
pub cut-more : (n : ℕ) (bytes : List ℕ) → IsCut bytes → IsCut (take n bytes)
cut-more n bytes (inl few) =
    inl (omega (
      arith,
      few,
      ap length (take-append-drop n bytes),
      length-append (take n bytes)
          (drop n bytes),
    ))
cut-more n bytes (inr short) =
    elim (cases_lt (length (take n bytes)) 9) [
      | inl few ↦ inl few
      | inr some ↦ inr (short-less (take n bytes) (drop n bytes) some
          (subst IsShort (sym (take-append-drop n bytes)) short))
    ]

-- ---- the lengths that a before-image says

said-place : (unit : UnitOfRecovery) (part : PartNo) (place more : List ℕ)
    (old : Option (List ℕ)) → length place < 2 ^ 16
    → two_at 13 (record_bytes (Before unit part place old) ++ more) ≡ length place
unfolding record_bytes unit_bytes four two two_at
said-place unit part place more old below = two_at-two (length place) [] below

after-place : (unit : UnitOfRecovery) (part : PartNo) (place more : List ℕ)
    (old : Option (List ℕ))
    → drop (16 + length place) (record_bytes (Before unit part place old) ++ more)
    ≡ drop 1 (old_bytes old ++ more)
unfolding record_bytes unit_bytes four two
after-place unit part place more old =
    let bytes = record_bytes (Before unit part place old) ++ more in
    let head : drop 15 bytes ≡ (place ++ old_bytes old) ++ more = refl in
    ap (λ (n : ℕ). drop n bytes)
    (let split : 16 + length place ≡ 15 + (length place + 1) = omega arith in split)
    ∙ sym (drop-drop (length place + 1) 15 bytes)
    ∙ ap (λ (l : List ℕ). drop (length place + 1) l)
    (head ∙ append_assoc place (old_bytes old) more)
    ∙ sym (drop-drop 1 (length place) (place ++ (old_bytes old ++ more)))
    ∙ ap (λ (l : List ℕ). drop 1 l) (drop_at place (old_bytes old ++ more) (length place) refl)

said-old : (old : Option (List ℕ)) (more : List ℕ) → IfSome old (λ b. length b < 2 ^ 32)
    → 5 + four_at 0 (drop 1 (old_bytes old ++ more)) ≡ length (old_bytes old)
unfolding old_bytes
said-old None more was =
    omega (arith, four_at-four 0 more (omega arith), length-none)
said-old (Some b) more was =
    omega (
      arith,
      ap (four_at 0) (append_assoc (four (length b)) b more),
      four_at-four (length b) (b ++ more) was,
      length-some b,
    )

four-at : (n : ℕ) (bytes : List ℕ) → four_at n bytes ≡ four_at 0 (drop n bytes)
unfolding four_at
four-at n bytes = refl

-- they are those of its bytes
said-all : (unit : UnitOfRecovery) (part : PartNo) (place more : List ℕ)
    (old : Option (List ℕ)) → HasFields (Before unit part place old)
    → 20 + length place
    + four_at (16 + length place) (record_bytes (Before unit part place old) ++ more)
    ≡ length (record_bytes (Before unit part place old))
said-all unit part place more old fields =
    omega (
      arith,
      four-at (16 + length place) (record_bytes (Before unit part place old) ++ more),
      ap (four_at 0) (after-place unit part place more old),
      said-old old more fields.was,
      length-before unit part place old,
    )

first-one : (unit : UnitOfRecovery) (part : PartNo) (place more : List ℕ) (old : Option (List ℕ))
    → get_or (record_bytes (Before unit part place old) ++ more) 0 0 ≡ 1
unfolding record_bytes
first-one unit part place more old = refl

first-two : (unit : UnitOfRecovery) (kind : EndKind) (more : List ℕ)
    → get_or (record_bytes (End unit kind) ++ more) 0 0 ≡ end_number kind
unfolding record_bytes
first-two unit kind more = refl

-- ---- records, and what is left of them

-- the beginning of a record, and not all of it
pub begun-cut : (rec : LogRecord) (bytes rest more : List ℕ) → HasFields rec
    → bytes ++ rest ≡ record_bytes rec ++ more → length bytes < length (record_bytes rec)
    → IsCut bytes
begun-cut (End unit kind) bytes rest more fields same less =
    inl (omega (arith, less, length-ended unit kind))
begun-cut (Before unit part place old) bytes rest more fields same less =
    elim (cases_lt (length bytes) 9) [
      | inl few ↦ inl few
      | inr some ↦ inr (record {
        kind = sym (first-more bytes rest (omega (arith, some)))
            ∙ ap (λ (l : List ℕ). get_or l 0 0) same ∙ first-one unit part place more old;
        short = elim (cases_lt (length bytes) 15) [
          | inl few ↦ inl few
          | inr long ↦ elim (cases_lt (length bytes) (20 + two_at 13 bytes)) [
            | inl few ↦ inr (inl few)
            | inr all ↦ inr (inr (fewer long all))
          ]
        ];
      })
    ]
  where
    fewer : 15 ≤ length bytes → 20 + two_at 13 bytes ≤ length bytes
        → length bytes < 20 + two_at 13 bytes + four_at (16 + two_at 13 bytes) bytes
    fewer long all =
        let said : two_at 13 bytes ≡ length place = sym (two-more bytes rest long)
        ∙ ap (two_at 13) same ∙ said-place unit part place more old fields.at_place in
        omega (
          arith,
          less,
          said,
          ap (λ (n : ℕ). four_at (16 + n) bytes) said,
          four-more (16 + length place) bytes rest (omega (arith, all, said)),
          ap (four_at (16 + length place)) same,
          said-all unit part place more old fields,
        )

-- bytes that begin with no record
abbrev pub BeginsNone : List ℕ → Type 0
BeginsNone bytes = (r : LogRecord) (more : List ℕ) → HasFields r → bytes ≡ record_bytes r ++ more
    → ⊥

few-none : (cut : List ℕ) → length cut < 9 → BeginsNone cut
few-none cut few (End unit kind) more fields same =
    omega (
      arith,
      few,
      ap length same,
      length-append (record_bytes (End unit kind)) more,
      length-ended unit kind,
    )
few-none cut few (Before unit part place old) more fields same =
    omega (
      arith,
      few,
      ap length same,
      length-append (record_bytes (Before unit part place old)) more,
      length-before unit part place old,
    )

short-none : (cut : List ℕ) → IsShort cut → BeginsNone cut
short-none cut is (End unit kind) more fields same =
    omega (
      arith,
      end-number kind,
      is.kind,
      ap (λ (l : List ℕ). get_or l 0 0) same,
      first-two unit kind more,
    )
short-none cut is (Before unit part place old) more fields same =
    let said : two_at 13 cut ≡ length place =
    ap (two_at 13) same ∙ said-place unit part place more old fields.at_place in
    let long : length cut ≡ length (record_bytes (Before unit part place old)) + length more =
    ap length same ∙ length-append (record_bytes (Before unit part place old)) more in
    let all = said-all unit part place more old fields in
    elim is.short [
      | inl few ↦ omega (arith, few, long, all)
      | inr (inl few) ↦ omega (arith, few, long, said, all)
      | inr (inr few) ↦ omega (
        arith,
        few,
        long,
        said,
        ap (λ (n : ℕ). four_at (16 + n) cut) said,
        ap (four_at (16 + length place)) same,
        all,
      )
    ]

-- a record that isn't whole begins with none
pub cut-none : (cut : List ℕ) → IsCut cut → BeginsNone cut
cut-none cut is = ⊎_elim (few-none cut) (short-none cut) is
