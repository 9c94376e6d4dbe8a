-- A head is written entry by entry: each record on the way keeps the rules, as the whole one does.
use Rattle.std.proofs.Common.{◌≡◌, ◌<◌, ◌≤◌, ◌+◌, ℕ, zero, suc, Bool, List, [], ◌∷◌, ◌++◌, length}
use Rattle.std.proofs.Common.{take, drop, refl, sym, ap, subst, ◌∙◌, arith, Option, get_or, add-one}
use Rattle.std.proofs.lemmas.List.{append_assoc, length-drop, take-append-drop}
use Rattle.std.proofs.Math.Seq.{take-suc}
use Rattle.vr_seqset.specs.Entry.{Entry}
use Rattle.vr_seqset.specs.SequenceSet.{KeepsRules, SequenceSet}
use Rattle.vr_seqset.proofs.CallerLemmas.{earlier_keep}
use Rattle.vr_space.specs.Moves.{numbered_from}
use Rattle.vr_casplit.proofs.WrittenHeads.{numbered-append}

-- a record that is begun with what another says
pub begun-is : (s : SequenceSet) (first : Bool) (part : ℕ) (next : Option ℕ) (top : ℕ)
    (index_area : Option ℕ) (low : List ℕ) → first ≡ s.first → part ≡ s.part → next ≡ s.next
    → top ≡ s.top → index_area ≡ s.index_area → low ≡ s.low
    → (let begun : SequenceSet = record {
      first = first;
      part = part;
      next = next;
      top = top;
      index_area = index_area;
      low = low;
      entries = [];
    } in begun) ≡ record s { entries = [] }
begun-is s first part next top index_area low firsts parts nexts tops areas lows = λ i. record {
  first = firsts i;
  part = parts i;
  next = nexts i;
  top = tops i;
  index_area = areas i;
  low = lows i;
  entries = [];
}

-- keeps the rules where that does
pub begun-rules : (cis size : ℕ) (s begun : SequenceSet) → begun ≡ record s { entries = [] }
    → KeepsRules cis size s → KeepsRules cis size begun
begun-rules cis size s begun is rules =
    subst (KeepsRules cis size) (sym is) (earlier_keep cis size s [] s.entries rules)

-- and so it does with all of its entries
pub all-rules : (cis size was long : ℕ) (s begun : SequenceSet) (entries : List Entry)
    → begun ≡ record s { entries = [] } → was ≡ cis → long ≡ size
    → KeepsRules cis size (record s { entries = entries })
    → KeepsRules was long (record begun { entries = entries })
all-rules cis size was long s begun entries is same_area same_size rules =
    subst (λ (other : SequenceSet). KeepsRules was long (record other { entries = entries }))
    (sym is)
    (subst (λ (n : ℕ). KeepsRules n long (record s { entries = entries })) (sym same_area)
    (subst (λ (n : ℕ). KeepsRules cis n (record s { entries = entries })) (sym same_size) rules))

-- What was written keeps the rules with one entry more, where all entries begin with these.
pub next-rules : (cis size was long : ℕ) (s written : SequenceSet)
    (all before others : List Entry) (entry : Entry)
    → written ≡ record s { entries = before } → was ≡ cis → long ≡ size
    → all ≡ (before ++ entry ∷ []) ++ others
    → KeepsRules cis size (record s { entries = all })
    → KeepsRules was long (record written { entries = written.entries ++ entry ∷ [] })
next-rules cis size was long s written all before others entry is same_area same_size whole rules =
    subst (λ (other : SequenceSet).
    KeepsRules was long (record other { entries = other.entries ++ entry ∷ [] })) (sym is)
    (all-rules cis size was long s (record s { entries = [] }) (before ++ entry ∷ []) refl
    same_area same_size
    (earlier_keep cis size s (before ++ entry ∷ []) others
    (subst (λ (entries : List Entry). KeepsRules cis size (record s { entries = entries })) whole
    rules)))

-- ---- the entries that stay

one-number : (numbers : List ℕ) (number : ℕ) → length numbers ≡ 1 → number ≡ get_or numbers 0 0
    → number ∷ [] ≡ numbers
one-number [] number one is = absurd (omega (arith, one))
one-number (n ∷ []) number one is = ap (λ (m : ℕ). m ∷ []) is
one-number (n ∷ m ∷ numbers) number one is = absurd (omega (arith, one))

-- one more of the first ones
pub staying-next : (entries : List Entry) (i number : ℕ) (high : List ℕ) (other : Entry)
    → i < length entries → length (get_or entries i other).intervals ≡ 1
    → number ≡ get_or (get_or entries i other).intervals 0 0 → high ≡ (get_or entries i other).high
    → take i entries ++ record { intervals = number ∷ []; high = high } ∷ []
    ≡ take (i + 1) entries
staying-next entries i number high other within one numbers highs =
    let last : Entry = get_or entries i other in
    let added : Entry = record { intervals = number ∷ []; high = high } in
    let same : added ≡ last =
    λ k. record { intervals = one-number last.intervals number one numbers k; high = highs k } in
    ap (λ (entry : Entry). take i entries ++ entry ∷ []) same
    ∙ sym (take-suc entries i other within)
    ∙ ap (λ (n : ℕ). take n entries) (sym (add-one i))

-- all of them are those and others
pub staying-whole : (entries : List Entry) (i stay : ℕ) → i ≤ stay
    → take stay entries ≡ take i entries ++ drop i (take stay entries)
staying-whole entries zero stay most = refl
staying-whole [] (suc i) zero most = refl
staying-whole [] (suc i) (suc stay) most = refl
staying-whole (entry ∷ entries) (suc i) zero most = absurd (omega (arith, most))
staying-whole (entry ∷ entries) (suc i) (suc stay) most =
    ap (λ (more : List Entry). entry ∷ more) (staying-whole entries i stay (omega (arith, most)))

-- ---- the entries that move

-- one more of the numbered ones
pub moved-next : (entries : List Entry) (i : ℕ) (high : List ℕ) (other : Entry)
    → i < length entries → high ≡ (get_or entries i other).high
    → numbered_from 0 (take i entries) ++ record { intervals = i ∷ []; high = high } ∷ []
    ≡ numbered_from 0 (take (i + 1) entries)
moved-next entries i high other within highs =
    let last : Entry = get_or entries i other in
    let long : 0 + length (take i entries) ≡ i =
    omega (arith, Rattle.std.proofs.lemmas.List.length-take i entries, within) in
    let one : ℕ → List ℕ → Entry = λ number place. record {
      intervals = number ∷ [];
      high = place;
    } in
    ap (λ (place : List ℕ). numbered_from 0 (take i entries) ++ one i place ∷ []) highs
    ∙ ap (λ (n : ℕ). numbered_from 0 (take i entries) ++ one n last.high ∷ []) (sym long)
    ∙ sym (numbered-append 0 (take i entries) (last ∷ []))
    ∙ ap (numbered_from 0) (sym (take-suc entries i other within)
    ∙ ap (λ (n : ℕ). take n entries) (sym (add-one i)))

pub moved-whole : (entries : List Entry) (i : ℕ)
    → numbered_from 0 entries
    ≡ numbered_from 0 (take i entries)
    ++ numbered_from (0 + length (take i entries)) (drop i entries)
moved-whole entries i =
    ap (numbered_from 0) (sym (take-append-drop i entries))
    ∙ numbered-append 0 (take i entries) (drop i entries)
