-- Bytes spell one list of records at most, and blocks one log.
use Rattle.std.proofs.Common.{◌≡◌, inl, inr, ℕ, ◌+◌, ◌-◌, ◌^◌, ◌<◌, ◌≤◌, List, [], ◌∷◌, ◌++◌}
use Rattle.std.proofs.Common.{length, take, drop, All, Option, Some, None, get_or, replicate, refl}
use Rattle.std.proofs.Common.{sym, ap, subst, ◌∙◌, arith}
use Rattle.std.proofs.lemmas.List.{append_assoc, append_cancel_left}
use Rattle.std.proofs.lemmas.List.{take_at, drop_at}
use Rattle.std.proofs.lemmas.List.Elements.{All-head, All-tail}
use Rattle.vr_types.specs.Fields.{two, four, two_at, four_at, eight_at, AreZeros}
use Rattle.vr_types.specs.declared.unit.PartNo.{PartNo}
use Rattle.vr_types.specs.declared.unit.Unit.{Unit as UnitOfRecovery}
use Rattle.std.proofs.lemmas.List.{replicate-append-replicate}
use Rattle.vr_types.specs.Fields.{eight}
use Rattle.vr_types.specs.Image.{Image, block_at}
use Rattle.vr_types.specs.declared.geometry.Geometry.{Geometry}
use Rattle.vr_types.proofs.CallerLemmas.{two_at-two, four_at-four, eight_at-eight, drop-two}
use Rattle.vr_types.proofs.CallerLemmas.{drop-four, zeros_are}
use Rattle.vr_log.specs.Content.{Content}
use Rattle.vr_log.specs.Spells.{Spells, log_bytes}
use Rattle.vr_log.specs.declared.record.EndKind.{EndKind}
use Rattle.vr_log.specs.declared.record.EndKind.TheVariants.{Committed, BackedOut}
use Rattle.vr_log.specs.declared.record.LogRecord.{LogRecord}
use Rattle.vr_log.specs.declared.record.LogRecord.TheVariants.{Before, End}
use Rattle.vr_log.specs.Records.{record_bytes, bytes_of, unit_bytes, old_bytes, end_number}
use Rattle.vr_log.specs.Records.{HasFields, IsUnit, IsBefore}
use Rattle.vr_log.specs.Records.{SpellsRecords}
use Rattle.vr_log.proofs.Cuts.{BeginsNone, cut-none, end-number}

pub two-both : (a b : ℕ) (x y : List ℕ) → a < 2 ^ 16 → b < 2 ^ 16 → two a ++ x ≡ two b ++ y
    → (a ≡ b) × (x ≡ y)
two-both a b x y below under same = (
  sym (two_at-two a x below) ∙ ap (two_at 0) same ∙ two_at-two b y under,
  sym (drop-two a x) ∙ ap (λ (l : List ℕ). drop 2 l) same ∙ drop-two b y,
)

pub four-both : (a b : ℕ) (x y : List ℕ) → a < 2 ^ 32 → b < 2 ^ 32 → four a ++ x ≡ four b ++ y
    → (a ≡ b) × (x ≡ y)
four-both a b x y below under same = (
  sym (four_at-four a x below) ∙ ap (four_at 0) same ∙ four_at-four b y under,
  sym (drop-four a x) ∙ ap (λ (l : List ℕ). drop 4 l) same ∙ drop-four b y,
)

one-more : (a b : ℕ) (x y : List ℕ) → a ∷ x ≡ b ∷ y → (a ≡ b) × (x ≡ y)
one-more a b x y same = (ap (λ (l : List ℕ). get_or l 0 0) same, ap (λ (l : List ℕ). drop 1 l) same)

unit-both : (u v : UnitOfRecovery) (x y : List ℕ) → IsUnit u → IsUnit v → unit_bytes u
    ++ x ≡ unit_bytes v ++ y → (u ≡ v) × (x ≡ y)
unfolding unit_bytes
unit-both u v x y fits other same =
    let deck = four-both u.deck v.deck (four u.number ++ x) (four v.number
    ++ y) fits.deck other.deck (sym (append_assoc (four u.deck) (four u.number) x) ∙ same
    ∙ append_assoc (four v.deck) (four v.number) y) in
    let number = four-both u.number v.number x y fits.number other.number deck.1 in (
      ap (λ (n : ℕ). let w : UnitOfRecovery = record { deck = n; number = u.number } in w) deck.0
          ∙ ap (λ (n : ℕ). let w : UnitOfRecovery = record { deck = v.deck; number = n } in
          w) number.0,
      number.1,
    )

-- bytes of a known length, and others
pub known-both : (p q x y : List ℕ) → length p ≡ length q → p ++ x ≡ q ++ y → (p ≡ q) × (x ≡ y)
known-both p q x y long same = (
  sym (take_at p x (length p) refl) ∙ ap (λ (l : List ℕ). take (length p) l) same
      ∙ take_at q y (length p) (sym long),
  sym (drop_at p x (length p) refl) ∙ ap (λ (l : List ℕ). drop (length p) l) same
      ∙ drop_at q y (length p) (sym long),
)

end-kind : (one other : EndKind) → end_number one ≡ end_number other → one ≡ other
end-kind Committed Committed same = refl
end-kind BackedOut BackedOut same = refl
end-kind Committed BackedOut same = absurd (omega (arith, same))
end-kind BackedOut Committed same = absurd (omega (arith, same))

old-both : (one other : Option (List ℕ)) (x y : List ℕ) (u v : UnitOfRecovery) (n m : PartNo)
    (p q : List ℕ) → IsBefore u n p one → IsBefore v m q other → old_bytes one
    ++ x ≡ old_bytes other ++ y → one ≡ other
unfolding old_bytes
old-both None None x y u v n m p q fits under same = refl
old-both None (Some b) x y u v n m p q fits under same =
    absurd (omega (arith, (one-more 0 1 (four 0 ++ x) (four (length b) ++ b ++ y) same).0))
old-both (Some a) None x y u v n m p q fits under same =
    absurd (omega (arith, (one-more 1 0 (four (length a) ++ a ++ x) (four 0 ++ y) same).0))
old-both (Some a) (Some b) x y u v n m p q fits under same =
    let long = four-both (length a) (length b) (a ++ x) (b
    ++ y) fits.was under.was (sym (append_assoc (four (length a)) a x)
    ∙ (one-more 1 1 (four (length a) ++ a ++ x) (four (length b) ++ b ++ y) same).1
    ∙ append_assoc (four (length b)) b y) in
    ap (λ (l : List ℕ). let o : Option (List ℕ) = Some l in o) (known-both a b x y long.0 long.1).0

-- no record's bytes begin another's
pub record_one : (one other : LogRecord) (x y : List ℕ) → HasFields one → HasFields other
    → record_bytes one ++ x ≡ record_bytes other ++ y → one ≡ other
unfolding record_bytes
record_one (End u k) (End v l) x y fits under same =
    let first = one-more (end_number k) (end_number l) (unit_bytes u ++ x) (unit_bytes v
    ++ y) same in
    let unit = (unit-both u v x y fits under first.1).0 in
    let kind = end-kind k l first.0 in
    ap (λ (w : UnitOfRecovery). End w k) unit ∙ ap (λ (j : EndKind). End v j) kind
record_one (End u k) (Before v m q o) x y fits under same =
    absurd (omega (arith, end-number k, ap (λ (l : List ℕ). get_or l 0 0) same))
record_one (Before u n p o) (End v l) x y fits under same =
    absurd (omega (arith, end-number l, ap (λ (l : List ℕ). get_or l 0 0) same))
record_one (Before u n p o) (Before v m q r) x y fits under same =
    let sides : (w : UnitOfRecovery) (k : PartNo) (s : List ℕ) (t : Option (List ℕ)) (z : List ℕ)
    → drop 1 (record_bytes (Before w k s t) ++ z) ≡ unit_bytes w
    ++ (four k.0 ++ (two (length s) ++ (s ++ (old_bytes t ++ z)))) = λ w k s t z.
    append_assoc (unit_bytes w ++ four k.0 ++ two (length s) ++ s) (old_bytes t) z
    ∙ append_assoc (unit_bytes w ++ four k.0 ++ two (length s)) s (old_bytes t ++ z)
    ∙ append_assoc (unit_bytes w ++ four k.0) (two (length s)) (s ++ (old_bytes t ++ z))
    ∙ append_assoc (unit_bytes w) (four k.0) (two (length s) ++ (s ++ (old_bytes t ++ z))) in
    let rest = sym (sides u n p o x) ∙ ap (λ (l : List ℕ). drop 1 l) same ∙ sides v m q r y in
    let unit = unit-both u v _ _ fits.of_unit under.of_unit rest in
    let part = four-both n.0 m.0 _ _ fits.of_part under.of_part unit.1 in
    let long = two-both (length p) (length q) _ _ fits.at_place under.at_place part.1 in
    let place = known-both p q _ _ long.0 long.1 in
    let old = old-both o r x y u v n m p q fits under place.1 in
    ap (λ (w : UnitOfRecovery). Before w n p o) unit.0
    ∙ ap (λ (k : ℕ). let w : PartNo = record { 0 = k } in Before v w p o) part.0
    ∙ ap (λ (s : List ℕ). Before v m s o) place.0
    ∙ ap (λ (t : Option (List ℕ)). Before v m q t) old

-- bytes are those of one list of records, up to bytes that begin with none
pub ends_one : (one other : List LogRecord) (cut rest : List ℕ) → All HasFields one
    → All HasFields other → BeginsNone cut → BeginsNone rest
    → bytes_of one ++ cut ≡ bytes_of other ++ rest → (one ≡ other) × (cut ≡ rest)
ends_one [] [] cut rest fits under is has same = (refl, same)
ends_one [] (r ∷ other) cut rest fits under is has same =
    absurd (is r (bytes_of other ++ rest) (All-head HasFields r other under) (same
    ∙ append_assoc (record_bytes r) (bytes_of other) rest))
ends_one (r ∷ one) [] cut rest fits under is has same =
    absurd (has r (bytes_of one ++ cut) (All-head HasFields r one fits) (sym same
    ∙ append_assoc (record_bytes r) (bytes_of one) cut))
ends_one (r ∷ one) (s ∷ other) cut rest fits under is has same =
    let whole : record_bytes r ++ (bytes_of one ++ cut) ≡ record_bytes s
    ++ (bytes_of other ++ rest) = sym (append_assoc (record_bytes r) (bytes_of one) cut) ∙ same
    ∙ append_assoc (record_bytes s) (bytes_of other) rest in
    let first : r ≡ s =
    record_one r s (bytes_of one ++ cut) (bytes_of other
    ++ rest) (All-head HasFields r one fits) (All-head HasFields s other under) whole in
    let further : bytes_of one ++ cut ≡ bytes_of other ++ rest =
    append_cancel_left (record_bytes r) (bytes_of one ++ cut) (bytes_of other ++ rest) (whole
    ∙ ap (λ (w : LogRecord). record_bytes w ++ (bytes_of other ++ rest)) (sym first)) in
    let others = ends_one one other cut rest (All-tail HasFields r one fits)
    (All-tail HasFields s other under) is has further in (
      ap (λ (w : LogRecord). w ∷ one) first ∙ ap (λ (l : List LogRecord). s ∷ l) others.0,
      others.1,
    )

pub spelled_one : (bytes : List ℕ) (one other : List LogRecord) → SpellsRecords bytes one
    → SpellsRecords bytes other → one ≡ other
spelled_one bytes one other first second =
    (ends_one one other first.cut second.cut first.fields second.fields
    (cut-none first.cut first.is_cut) (cut-none second.cut second.is_cut)
    (sym first.spelled ∙ second.spelled)).0

-- zeros have generation 0
pub zeros-generation : (block : List ℕ) → 8 ≤ length block → AreZeros block → eight_at 0 block ≡ 0
unfolding eight
zeros-generation block long zeros =
    let n = length block - 8 in
    let whole : 8 + n ≡ length block = omega (arith, long) in
    let is : block ≡ eight 0 ++ replicate n 0 = zeros_are block zeros
    ∙ ap (λ (m : ℕ). replicate {A = ℕ} m 0) (sym whole)
    ∙ sym (replicate-append-replicate 8 n 0) in
    ap (eight_at 0) is ∙ eight_at-eight 0 (replicate n 0) (omega arith)

-- blocks spell one log at most
pub one_log : (geometry : Geometry) (image : Image) (one other : Content)
    → 8 ≤ length (block_at image 1) → Spells geometry image one → Spells geometry image other
    → one ≡ other
one_log geometry image one other long (inl first) (inl second) = first.none ∙ sym second.none
one_log geometry image one other long (inl first) (inr second) =
    absurd (omega
    (arith, zeros-generation (block_at image 1) long first.zeros, second.generation, second.some))
one_log geometry image one other long (inr first) (inl second) =
    absurd (omega
    (arith, zeros-generation (block_at image 1) long second.zeros, first.generation, first.some))
one_log geometry image one other long (inr first) (inr second) =
    let same : one.generation ≡ other.generation = sym first.generation ∙ second.generation in
    let records : one.records ≡ other.records =
    spelled_one (log_bytes geometry other.generation image) one.records other.records
    (subst (λ (g : ℕ). SpellsRecords (log_bytes geometry g image) one.records) same
    first.records) second.records in
    ap (λ (g : ℕ). let c : Content = record { generation = g; records = one.records } in c) same
    ∙ ap (λ (rs : List LogRecord). let c : Content =
    record { generation = other.generation; records = rs } in c) records
