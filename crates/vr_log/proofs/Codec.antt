-- What a prefix of the bytes of records spells.
use Rattle.std.proofs.Common.{◌≡◌, inl, inr, ℕ, zero, suc, ◌^◌, ◌<◌, ◌≤◌, List, [], ◌∷◌, ◌++◌, length}
use Rattle.std.proofs.Common.{take, drop, All, refl, sym, ap, subst, ◌∙◌, arith}
use Rattle.std.proofs.lemmas.Bool.{cases_lt}
use Rattle.std.proofs.lemmas.List.{append_assoc, take-append-drop, length-append, length-drop}
use Rattle.std.proofs.lemmas.List.{take_at, drop_at, take-append-le, drop-append-le}
use Rattle.std.proofs.lemmas.List.{nil_from_length}
use Rattle.std.proofs.lemmas.List.Elements.{All-head, All-tail, All-append}
use Rattle.vr_types.specs.Image.{Image}
use Rattle.vr_types.specs.LogSpace.{log_size}
use Rattle.vr_log.specs.declared.record.LogRecord.{LogRecord}
use Rattle.vr_log.specs.Live.{used_by}
use Rattle.vr_log.specs.LogNow.{LogNow, HasLog}
use Rattle.vr_log.specs.Records.{record_bytes, bytes_of, HasFields, IsCut}
use Rattle.vr_log.specs.Records.{SpellsRecords}
use Rattle.vr_log.specs.Standing.{forced_length}
use Rattle.vr_log.proofs.Cuts.{begun-cut, none-cut}
use Rattle.vr_log.proofs.Using.{used_take}
use Rattle.vr_log.specs.Writing.{IsFound}

pub All-none : {X : Type 0} (P : X → Type 0) → All P []
All-none P i d below = absurd (omega (arith, below))

pub All-one : {X : Type 0} (P : X → Type 0) (x : X) → P x → All P (x ∷ [])
All-one P x holds zero d below = holds
All-one P x holds (suc k) d below = absurd (omega (arith, below))

abbrev Counted : List LogRecord → ℕ → List ℕ → Type 0
Counted records forced bytes = (n : ℕ) × (forced ≤ n) × (n ≤ length records)
    × SpellsRecords bytes (take n records)

-- two ways to split a list
split-take : (p rest q more : List ℕ) → p ++ rest ≡ q ++ more → length p ≤ length q
    → p ≡ take (length p) q
split-take p rest q more same short = sym (take_at p rest (length p) refl)
    ∙ ap (λ (x : List ℕ). take (length p) x) same ∙ take-append-le (length p) q more short

split-drop : (p rest q more : List ℕ) → p ++ rest ≡ q ++ more → length q ≤ length p
    → (p ≡ q ++ drop (length q) p) × (drop (length q) p ++ rest ≡ more)
split-drop p rest q more same long =
    let front : q ≡ take (length q) p = split-take q more p rest (sym same) long in (
      sym (take-append-drop (length q) p) ∙ ap (λ (x : List ℕ). x ++ drop (length q) p) (sym front),
      sym (drop-append-le (length q) p rest long) ∙ ap (λ (x : List ℕ). drop (length q) x) same
          ∙ drop_at q more (length q) refl,
    )

-- one more record before those that are spelled
more-spelled : (r : LogRecord) (rs : List LogRecord) (forced : ℕ) (p tail : List ℕ) → HasFields r
    → p ≡ record_bytes r ++ tail → Counted rs forced tail → Counted (r ∷ rs) (suc forced) p
more-spelled r rs forced p tail fields is (n, least, most, spelled) = (
  suc n,
  omega (arith, least),
  omega (arith, most),
  record {
    fields = All-append HasFields (r ∷ []) (take n rs) (All-one HasFields r fields) spelled.fields;
    cut = spelled.cut;
    is_cut = spelled.is_cut;
    spelled = is ∙ ap (λ (x : List ℕ). record_bytes r ++ x) spelled.spelled
        ∙ sym (append_assoc (record_bytes r) (bytes_of (take n rs)) spelled.cut);
  },
)

weaken-count : (rs : List LogRecord) (forced less : ℕ) (p : List ℕ) → less ≤ forced
    → Counted rs forced p → Counted rs less p
weaken-count rs forced less p below (n, least, most, spelled) =
    (n, omega (arith, below, least), most, spelled)

none-counted : (rs : List LogRecord) (p : List ℕ) → IsCut p → Counted rs 0 p
none-counted rs p cut = (
  0,
  omega arith,
  omega arith,
  record {
    fields = All-none HasFields;
    cut = p;
    is_cut =
        cut;
    spelled = refl;
  },
)

-- a prefix spells a prefix of the records, and all whose bytes it has
pub counted-of : (rs : List LogRecord) (forced : ℕ) (p rest : List ℕ) → All HasFields rs
    → forced ≤ length rs → p ++ rest ≡ bytes_of rs → length (bytes_of (take forced rs)) ≤ length p
    → Counted rs forced p
counted-of [] zero p rest fields below same least =
    let none : p ≡ [] = nil_from_length p (omega (arith, length-append p rest, ap length same)) in
    none-counted [] p (subst IsCut (sym none) none-cut)
counted-of [] (suc forced) p rest fields below same least = absurd (omega (arith, below))
counted-of (r ∷ rs) zero p rest fields below same least =
    elim (cases_lt (length p) (length (record_bytes r))) [
      | inl short ↦ none-counted (r ∷ rs) p
          (begun-cut r p rest (bytes_of rs) (All-head HasFields r rs fields) same short)
      | inr long ↦
          let split = split-drop p rest (record_bytes r) (bytes_of rs) same long in
          weaken-count (r ∷ rs) 1 0 p (omega arith)
          (more-spelled r rs 0 p (drop (length (record_bytes r)) p)
          (All-head HasFields r rs fields) split.0
          (counted-of rs 0 (drop (length (record_bytes r)) p) rest (All-tail HasFields r rs fields)
          (omega arith) split.1 (omega arith)))
    ]
counted-of (r ∷ rs) (suc forced) p rest fields below same least =
    let both = length-append (record_bytes r) (bytes_of (take forced rs)) in
    let long : length (record_bytes r) ≤ length p = omega (arith, least, both) in
    let split = split-drop p rest (record_bytes r) (bytes_of rs) same long in
    more-spelled r rs forced p (drop (length (record_bytes r)) p) (All-head HasFields r rs fields)
    split.0
    (counted-of rs forced (drop (length (record_bytes r)) p) rest (All-tail HasFields r rs fields)
    (omega (arith, below)) split.1
    (omega (arith, least, both, length-drop (length (record_bytes r)) p)))

-- an image whose bytes are a prefix of the log's has a log of it
pub found_log : (log : LogNow) (records : List LogRecord) (image : Image) → 1 ≤ log.generation
    → log.generation < 2 ^ 63 → All HasFields records → used_by records ≤ log_size log.geometry
    → log.forced ≤ length records → forced_length log ≡ length (bytes_of (take log.forced records))
    → IsFound log (bytes_of records) image → HasLog (record log { records = records }) image
found_log log records image some below fields room forced stable (inl (older, is, spelled)) =
    (older, spelled, inr is)
found_log log records image some below fields room forced stable (inr has) =
    let counted = counted-of records log.forced _ has.prefix.0 fields forced has.prefix.1
    (omega (arith, stable, has.least)) in (
      record { generation = log.generation; records = take counted.0 records },
      inr (record {
        generation = has.generation;
        some = some;
        below = below;
        first = has.first;
        fits =
            has.fits;
        records = counted.3;
        room = omega (arith, used_take counted.0 records, room);
      }),
      inl (record { count = counted.0; forced = counted.1; all = counted.2; is = refl }),
    )
