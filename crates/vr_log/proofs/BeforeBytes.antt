-- A before-image, off the bytes that begin with it.
use Rattle.std.proofs.Common.{◌≡◌, inl, inr, ℕ, ◌+◌, ◌-◌, ◌^◌, ◌<◌, ◌≤◌, List, [], ◌∷◌, ◌++◌}
use Rattle.std.proofs.Common.{length, take, drop, Option, IfSome, get_or, sym, ap, subst, ◌∙◌}
use Rattle.std.proofs.Common.{arith}
use Rattle.std.specs.Int.{w32, from_be_bytes}
use Rattle.std.proofs.lemmas.List.{append-nil, append_assoc, length-append, length-take}
use Rattle.std.proofs.lemmas.List.{length-drop, drop_at, take-append-drop, drop-drop, take_all}
use Rattle.vr_types.specs.Fields.{IsBytes, two, four, two_at, four_at}
use Rattle.vr_types.specs.declared.unit.PartNo.{PartNo}
use Rattle.vr_types.specs.declared.unit.Unit.{Unit as UnitOfRecovery}
use Rattle.vr_types.proofs.CallerLemmas.{cut_two, cut_four, two_below, four_below}
use Rattle.vr_log.specs.declared.record.LogRecord.{LogRecord}
use Rattle.vr_log.specs.declared.record.LogRecord.TheVariants.{Before, End}
use Rattle.vr_log.specs.Damage.{IsMisspelled}
use Rattle.vr_log.specs.Decoding.{IsOldCut, IsOldWrong, IsOld, IsWhole}
use Rattle.vr_log.specs.Records.{record_bytes, unit_bytes, old_bytes, HasFields, IsCut}
use Rattle.vr_log.proofs.RecordBytes.{begins, misspelled-by}
use Rattle.vr_log.proofs.Lives.{length-before}
use Rattle.vr_log.proofs.Cuts.{end-number}
use Rattle.vr_log.proofs.Unique.{two-both, four-both, known-both}

-- the numbers before the place of a before-image, and what follows them
abbrev Headed : ℕ → ℕ → ℕ → ℕ → List ℕ → List ℕ
Headed deck number part p rest =
    1 ∷ (four deck ++ (four number ++ (four part ++ (two p ++ rest))))

pub record HasHead (bytes rest : List ℕ) (deck number part p : ℕ) : Type 0 where
  pub deck_fits : deck < 2 ^ 32
  pub number_fits : number < 2 ^ 32
  pub part_fits : part < 2 ^ 32
  pub place_fits : p < 2 ^ 16
  pub is : bytes ≡ Headed deck number part p rest

pub head-of : (bytes : List ℕ) → IsBytes bytes → 15 ≤ length bytes → get_or bytes 0 0 ≡ 1
    → HasHead bytes (drop 15 bytes) (four_at 1 bytes) (four_at 5 bytes) (four_at 9 bytes)
    (two_at 13 bytes)
head-of bytes fits long first = record {
  deck_fits = four_below 1 bytes fits;
  number_fits = four_below 5 bytes fits;
  part_fits = four_below 9 bytes fits;
  place_fits = two_below 13 bytes fits;
  is = begins bytes 1 (omega (arith, long)) first
      ∙ ap (λ (l : List ℕ). 1 ∷ l) (cut_four 1 bytes fits (omega (arith, long))
      ∙ ap (λ (l : List ℕ). four (four_at 1 bytes) ++ l)
      (cut_four 5 bytes fits (omega (arith, long))
      ∙ ap (λ (l : List ℕ). four (four_at 5 bytes) ++ l)
      (cut_four 9 bytes fits (omega (arith, long))
      ∙ ap (λ (l : List ℕ). four (four_at 9 bytes) ++ l)
      (cut_two 13 bytes fits (omega (arith, long))))));
}

more-headed : (deck number part p : ℕ) (rest more : List ℕ)
    → Headed deck number part p rest ++ more ≡ Headed deck number part p (rest ++ more)
more-headed deck number part p rest more =
    ap (λ (l : List ℕ). 1 ∷ l)
    (append_assoc (four deck) (four number ++ (four part ++ (two p ++ rest))) more
    ∙ ap (λ (l : List ℕ). four deck ++ l)
    (append_assoc (four number) (four part ++ (two p ++ rest)) more
    ∙ ap (λ (l : List ℕ). four number ++ l)
    (append_assoc (four part) (two p ++ rest) more
    ∙ ap (λ (l : List ℕ). four part ++ l) (append_assoc (two p) rest more))))

record-headed : (w : UnitOfRecovery) (k : PartNo) (s : List ℕ) (t : Option (List ℕ)) (z : List ℕ)
    → record_bytes (Before w k s t) ++ z
    ≡ Headed w.deck w.number k.0 (length s) (s ++ (old_bytes t ++ z))
unfolding record_bytes unit_bytes
record-headed w k s t z =
    ap (λ (l : List ℕ). 1 ∷ l)
    (append_assoc ((four w.deck ++ four w.number) ++ four k.0 ++ two (length s) ++ s)
    (old_bytes t) z
    ∙ append_assoc ((four w.deck ++ four w.number) ++ four k.0 ++ two (length s)) s
    (old_bytes t ++ z)
    ∙ append_assoc ((four w.deck ++ four w.number) ++ four k.0) (two (length s))
    (s ++ (old_bytes t ++ z))
    ∙ append_assoc (four w.deck ++ four w.number) (four k.0)
    (two (length s) ++ (s ++ (old_bytes t ++ z)))
    ∙ append_assoc (four w.deck) (four w.number)
    (four k.0 ++ (two (length s) ++ (s ++ (old_bytes t ++ z)))))

module _ (bytes rest : List ℕ) (deck number part p : ℕ)
    (head : HasHead bytes rest deck number part p) where
  abbrev the_unit : UnitOfRecovery
  the_unit = record { deck = deck; number = number }

  abbrev the_part : PartNo
  the_part = record { 0 = part }

  -- with more bytes they are those of a before-image
  built : (more place tail : List ℕ) (old : Option (List ℕ)) → length place ≡ p
      → rest ++ more ≡ place ++ (old_bytes old ++ tail)
      → bytes ++ more ≡ record_bytes (Before the_unit the_part place old) ++ tail
  built more place tail old long same =
      ap (λ (l : List ℕ). l ++ more) head.is ∙ more-headed deck number part p rest more
      ∙ ap (λ (l : List ℕ). Headed deck number part p l) same
      ∙ ap (λ (n : ℕ). Headed deck number part n (place ++ (old_bytes old ++ tail))) (sym long)
      ∙ sym (record-headed the_unit the_part place old tail)

  fields-of : (place : List ℕ) (old : Option (List ℕ)) → length place ≡ p
      → IfSome old (λ b. length b < 2 ^ 32) → HasFields (Before the_unit the_part place old)
  fields-of place old long was = record {
    of_unit = record { deck = head.deck_fits; number = head.number_fits };
    of_part = head.part_fits;
    at_place = omega (arith, long, head.place_fits);
    was = was;
  }

  module _ (place tail : List ℕ) (long : length place ≡ p) (split : rest ≡ place ++ tail) where
    pub whole-old : (old : Option (List ℕ)) (count : ℕ) → IsOld tail old count
        → IsWhole bytes (Before the_unit the_part place old) (15 + p + count)
    whole-old old count whole =
        let rec : LogRecord = Before the_unit the_part place old in
        let size : length (record_bytes rec) ≡ 15 + p + count =
        omega (arith, length-before the_unit the_part place old, long, whole.long) in
        let is : bytes ≡ record_bytes rec ++ drop count tail =
        sym (append-nil bytes)
        ∙ built [] place (drop count tail) old long (append-nil rest ∙ split
        ∙ ap (λ (l : List ℕ). place ++ l) whole.is) in
        record {
          fields = fields-of place old long whole.was;
          is = is
              ∙ ap (λ (l : List ℕ). record_bytes rec ++ l)
              (sym (ap (λ (l : List ℕ). drop (15 + p + count) l) is
              ∙ drop_at (record_bytes rec) (drop count tail) (15 + p + count) size));
          long = size;
          some = omega arith;
          within = omega
              (arith, ap length is, length-append (record_bytes rec) (drop count tail), size);
        }

    pub no-before : IsOldWrong tail → (rec : LogRecord) (x y : List ℕ) → HasFields rec
        → bytes ++ x ≡ record_bytes rec ++ y → ⊥
    unfolding record_bytes
    no-before wrong (End u k) x y fits same =
        omega (
          arith,
          end-number k,
          ap (λ (l : List ℕ). get_or l 0 0)
              (ap (λ (l : List ℕ). l ++ x) (sym head.is) ∙ same),
        )
    no-before wrong (Before v m q r) x y fits same =
        let left : Headed deck number part p (place ++ (tail ++ x)) ≡ bytes ++ x =
        ap (λ (l : List ℕ). Headed deck number part p l) (sym (append_assoc place tail x)
        ∙ ap (λ (l : List ℕ). l ++ x) (sym split))
        ∙ sym (more-headed deck number part p rest x)
        ∙ ap (λ (l : List ℕ). l ++ x) (sym head.is) in
        let all : Headed deck number part p (place ++ (tail ++ x))
        ≡ Headed v.deck v.number m.0 (length q) (q ++ (old_bytes r ++ y)) = left ∙ same
        ∙ record-headed v m q r y in
        let a = four-both deck v.deck _ _ head.deck_fits fits.of_unit.deck
        (ap (λ (l : List ℕ). drop 1 l) all) in
        let b = four-both number v.number _ _ head.number_fits fits.of_unit.number a.1 in
        let c = four-both part m.0 _ _ head.part_fits fits.of_part b.1 in
        let d = two-both p (length q) _ _ head.place_fits fits.at_place c.1 in
        let e = known-both place q _ _ (long ∙ d.0) d.1 in
        wrong.none r x y e.1

-- the place, and what follows it
pub split-place : (bytes : List ℕ) (p : ℕ)
    → drop 15 bytes ≡ take p (drop 15 bytes) ++ drop (15 + p) bytes
split-place bytes p =
    sym (take-append-drop p (drop 15 bytes))
    ∙ ap (λ (l : List ℕ). take p (drop 15 bytes) ++ l) (drop-drop p 15 bytes)

four-later : (at : ℕ) (bytes : List ℕ) → four_at 1 (drop at bytes) ≡ four_at (at + 1) bytes
unfolding four_at
four-later at bytes =
    ap (λ (l : List ℕ). from_be_bytes w32 (take 4 l)) (drop-drop 1 at bytes)

-- the bytes after the place, as they are read
module _ (bytes : List ℕ) (n : ℕ) (fits : IsBytes bytes) (long : 15 ≤ length bytes)
    (first : get_or bytes 0 0 ≡ 1) (is : n ≡ two_at 13 bytes)
    (within : 15 + n ≤ length bytes) where
  abbrev Tail : List ℕ
  Tail = take (length bytes - (15 + n)) (drop (15 + n) bytes)

  tail-is : Tail ≡ drop (15 + n) bytes
  tail-is =
      take_all (length bytes - (15 + n)) (drop (15 + n) bytes)
      (omega (arith, length-drop (15 + n) bytes))

  head : HasHead bytes (drop 15 bytes) (four_at 1 bytes) (four_at 5 bytes) (four_at 9 bytes) n
  head =
      subst (λ (m : ℕ). HasHead bytes (drop 15 bytes) (four_at 1 bytes) (four_at 5 bytes)
      (four_at 9 bytes) m) (sym is) (head-of bytes fits long first)

  place-long : length (take n (drop 15 bytes)) ≡ n
  place-long =
      omega (arith, length-take n (drop 15 bytes), length-drop 15 bytes, within)

  split : drop 15 bytes ≡ take n (drop 15 bytes) ++ Tail
  split = split-place bytes n ∙ ap (λ (l : List ℕ). take n (drop 15 bytes) ++ l) (sym tail-is)

  -- the length that the old record says
  said : four_at 1 Tail ≡ four_at (16 + two_at 13 bytes) bytes
  said =
      ap (four_at 1) tail-is ∙ four-later (15 + n) bytes
      ∙ ap (λ (m : ℕ). four_at m bytes) (omega (arith, is))

  tail-long : length Tail ≡ length bytes - (15 + n)
  tail-long =
      omega (
        arith,
        length-take (length bytes - (15 + n)) (drop (15 + n) bytes),
        length-drop (15 + n) bytes,
      )

  pub read-cut : IsOldCut Tail → IsCut bytes
  read-cut cut =
      inr (record {
        kind = first;
        short = inr (inr (omega (arith, cut, said, tail-long, is, within)));
      })

  pub read-wrong : IsOldWrong Tail → IsMisspelled bytes
  read-wrong wrong =
      misspelled-by bytes
      (no-before bytes (drop 15 bytes) (four_at 1 bytes) (four_at 5 bytes) (four_at 9 bytes) n head
      (take n (drop 15 bytes)) Tail place-long split wrong)
      (omega (arith, long)) (λ short. elim short.short [
        | inl few ↦ omega (arith, few, long)
        | inr (inl few) ↦ omega (arith, few, wrong.long, tail-long, is)
        | inr (inr few) ↦ omega (arith, few, wrong.long, said, tail-long, is)
      ])

  pub read-whole : (old : Option (List ℕ)) (count all : ℕ) (rec : LogRecord)
      → rec ≡ Before (record { deck = four_at 1 bytes; number = four_at 5 bytes })
      (record { 0 = four_at 9 bytes }) (take (15 + n - 15) (drop 15 bytes)) old
      → all ≡ 15 + n + count → IsOld Tail old count → IsWhole bytes rec all
  read-whole old count all rec rec_is all_is whole =
      let place : take (15 + n - 15) (drop 15 bytes) ≡ take n (drop 15 bytes) =
      ap (λ (m : ℕ). take m (drop 15 bytes)) (omega arith) in
      subst (λ (m : ℕ). IsWhole bytes rec m) (sym all_is)
      (subst (λ (r : LogRecord). IsWhole bytes r (15 + n + count)) (sym (rec_is
      ∙ ap (λ (s : List ℕ). Before (record { deck = four_at 1 bytes; number = four_at 5 bytes })
      (record { 0 = four_at 9 bytes }) s old) place))
      (whole-old bytes (drop 15 bytes) (four_at 1 bytes) (four_at 5 bytes) (four_at 9 bytes) n
      head (take n (drop 15 bytes)) Tail place-long split old count whole))

  pub old-is : (m : ℕ)
      → take (15 + n + 5 + m - (15 + n + 5)) (drop (15 + n + 5) bytes) ≡ take m (drop 5 Tail)
  old-is m =
      ap (λ (k : ℕ). take k (drop (15 + n + 5) bytes)) (omega arith)
      ∙ ap (λ (l : List ℕ). take m l)
      (sym (drop-drop 5 (15 + n) bytes) ∙ ap (λ (l : List ℕ). drop 5 l) (sym tail-is))
