-- The tests by which a head may get both entries, and the entries one by one.
use Rattle.std.proofs.Common.{◌≡◌, ◌≢◌, ℕ, Bool, true, false, List, [], ◌∷◌, ◌++◌, ◌||◌, length}
use Rattle.std.proofs.Common.{Option, Some, None, refl, sym, ap, subst, ◌∙◌, eqb, append_assoc}
use Rattle.std.proofs.Common.{true≢false, cond}
use Rattle.std.specs.Prelude.{unwrap_or}
use Rattle.std.specs.List.{list_any}
use Rattle.std.specs.declared.cmp.Ordering.TheVariants.{Less}
use Rattle.std.proofs.lemmas.Bool.{ne_eqb, eq-eqb}
use Rattle.std.proofs.lemmas.Grind.{flat_map-append}
use Rattle.std.proofs.lemmas.List.{append-nil}
use Rattle.std.proofs.lemmas.List.Elements.{All-push, All-nil, All-head}
use Rattle.std.proofs.lemmas.List.Folds.{list_any-append}
use Rattle.vr_types.specs.Content.{place_cmp}
use Rattle.vr_seqset.specs.Entry.{Entry}
use Rattle.vr_seqset.specs.SequenceSet.{SequenceSet, KeepsRules}
use Rattle.vr_seqset.proofs.CallerLemmas.{All-right, earlier_keep}
use Rattle.vr_space.specs.Room.{Range}
use Rattle.vr_space.specs.Keyed.{entry_above, low_in}
use Rattle.vr_split.specs.Halves.{one_entry, halved, halves, IsCutOf, AreSingleWithout}
use Rattle.vr_split.proofs.Leading.{slot, used, used-more}

-- ---- entries of one interval each, and without one

pub single-none : (into : ℕ) → AreSingleWithout into []
single-none into = record {
  single = All-nil (λ (entry : Entry). length entry.intervals ≡ 1);
  unused = refl;
}

used-push : (into : ℕ) (entries : List Entry) (entry : Entry) → length entry.intervals ≡ 1
    → list_any (eqb into) (used (entries ++ entry ∷ []))
    ≡ (list_any (eqb into) (used entries) || (eqb into (slot entry) || false))
used-push into entries entry one =
    ap (list_any (eqb into)) (flat_map-append (λ (e : Entry). e.intervals) entries (entry ∷ []))
    ∙ list_any-append (eqb into) (used entries) (used (entry ∷ []))
    ∙ ap (λ (ns : List ℕ). list_any (eqb into) (used entries) || list_any (eqb into) ns)
    (used-more entry [] one)

pub single-push : (into : ℕ) (entries : List Entry) (entry : Entry) → AreSingleWithout into entries
    → length entry.intervals ≡ 1 → slot entry ≢ into
    → AreSingleWithout into (entries ++ entry ∷ [])
single-push into entries entry are one other = record {
  single = All-push (λ (e : Entry). length e.intervals ≡ 1) entries entry are.single one;
  unused = used-push into entries entry one
      ∙ ap (λ (b : Bool). b || (eqb into (slot entry) || false)) are.unused
      ∙ ap (λ (b : Bool). false || (b || false))
      (ne_eqb into (slot entry) (λ same. other (sym same)));
}

pub single-one : (into : ℕ) (before others : List Entry) (entry : Entry)
    → AreSingleWithout into (before ++ entry ∷ others) → length entry.intervals ≡ 1
single-one into before others entry are =
    All-head (λ (e : Entry). length e.intervals ≡ 1) entry others
    (All-right (λ (e : Entry). length e.intervals ≡ 1) before (entry ∷ others) are.single)

pub single-other : (into : ℕ) (before others : List Entry) (entry : Entry)
    → AreSingleWithout into (before ++ entry ∷ others) → slot entry ≢ into
single-other into before others entry are same =
    let one : length entry.intervals ≡ 1 = single-one into before others entry are in
    let all : list_any (eqb into) (used (before ++ entry ∷ others))
    ≡ (list_any (eqb into) (used before)
    || (eqb into (slot entry) || list_any (eqb into) (used others))) =
    ap (list_any (eqb into)) (flat_map-append (λ (e : Entry). e.intervals) before (entry ∷ others))
    ∙ list_any-append (eqb into) (used before) (used (entry ∷ others))
    ∙ ap (λ (ns : List ℕ). list_any (eqb into) (used before) || list_any (eqb into) ns)
    (used-more entry others one) in
    true≢false (sym (any-middle (list_any (eqb into) (used before)) (eqb into (slot entry))
    (list_any (eqb into) (used others)) (eq-eqb into (slot entry) (sym same)))
    ∙ sym all ∙ are.unused)
  where
    any-middle : (a b c : Bool) → b ≡ true → (a || (b || c)) ≡ true
    any-middle true b c is = refl
    any-middle false true c is = refl
    any-middle false false c is = absurd (true≢false (sym is))

-- ---- the entry of the cut

pub cut-no-entry : (old : ℕ) (cut : List ℕ) (s : SequenceSet)
    → entry_above (low_in s) s.entries cut ≡ None → IsCutOf old cut s → ⊥
cut-no-entry old cut s none is =
    let same : Some is.at ≡ None = sym is.leads ∙ none in absurd cc

pub cut-entry : (old : ℕ) (cut : List ℕ) (s : SequenceSet) (range : Range) (entry : Entry)
    → entry_above (low_in s) s.entries cut ≡ Some (range, entry) → IsCutOf old cut s
    → (slot entry ≡ old) × (place_cmp cut entry.high ≡ Less)
cut-entry old cut s range entry leads is =
    let found : is.at.1 ≡ entry =
    ap (λ (o : Option (Range × Entry)). (unwrap_or o is.at).1) (sym is.leads ∙ leads) in (
      ap slot (sym found) ∙ is.is_old,
      subst (λ (e : Entry). place_cmp cut e.high ≡ Less) found is.less,
    )

pub cut-found : (old : ℕ) (cut : List ℕ) (s : SequenceSet) (range : Range) (entry : Entry)
    → entry_above (low_in s) s.entries cut ≡ Some (range, entry) → slot entry ≡ old
    → place_cmp cut entry.high ≡ Less → IsCutOf old cut s
cut-found old cut s range entry leads is less =
    record { at = (range, entry); leads = leads; is_old = is; less = less }

-- ---- one entry more

pub halves-push : (old into : ℕ) (cut : List ℕ) (before : List Entry) (entry : Entry)
    → halves old into cut (before ++ entry ∷ [])
    ≡ halves old into cut before ++ halved old into cut entry
halves-push old into cut before entry =
    flat_map-append (halved old into cut) before (entry ∷ [])
    ∙ ap (λ (es : List Entry). halves old into cut before ++ es)
    (append-nil (halved old into cut entry))

-- the record keeps the rules up to any entry
pub rules-upto : (cis size old into : ℕ) (cut : List ℕ) (s : SequenceSet)
    (all before others : List Entry) (entry : Entry) → all ≡ before ++ entry ∷ others
    → KeepsRules cis size (record s { entries = halves old into cut all })
    → KeepsRules cis size
    (record s { entries = halves old into cut before ++ halved old into cut entry })
rules-upto cis size old into cut s all before others entry is rules =
    earlier_keep cis size s (halves old into cut before ++ halved old into cut entry)
    (halves old into cut others)
    (subst (λ (es : List Entry). KeepsRules cis size (record s { entries = es }))
    (ap (halves old into cut) is
    ∙ flat_map-append (halved old into cut) before (entry ∷ others)
    ∙ sym (append_assoc (halves old into cut before) (halved old into cut entry)
    (halves old into cut others))) rules)

-- and up to the first of both entries
pub rules-lower : (cis size old into : ℕ) (cut : List ℕ) (s : SequenceSet) (before : List Entry)
    (entry : Entry) → slot entry ≡ old
    → KeepsRules cis size (record s { entries = before ++ halved old into cut entry })
    → KeepsRules cis size (record s { entries = before ++ one_entry old cut ∷ [] })
rules-lower cis size old into cut s before entry is rules =
    let both : halved old into cut entry ≡ one_entry old cut ∷ one_entry into entry.high ∷ [] =
    ap (λ (b : Bool). cond b (one_entry old cut ∷ one_entry into entry.high ∷ []) (entry ∷ []))
    (eq-eqb (slot entry) old is) in
    earlier_keep cis size s (before ++ one_entry old cut ∷ []) (one_entry into entry.high ∷ [])
    (subst (λ (es : List Entry). KeepsRules cis size (record s { entries = es }))
    (ap (λ (es : List Entry). before ++ es) both
    ∙ sym (append_assoc before (one_entry old cut ∷ []) (one_entry into entry.high ∷ []))) rules)

-- a record that is begun with what another says
pub begun-same : (s : SequenceSet) (first : Bool) (part : ℕ) (next : Option ℕ) (top : ℕ)
    (index_area : Option ℕ) (low : List ℕ) → first ≡ s.first → part ≡ s.part → next ≡ s.next
    → top ≡ s.top → index_area ≡ s.index_area → low ≡ s.low
    → (let begun : SequenceSet = record {
      first = first;
      part = part;
      next = next;
      top = top;
      index_area = index_area;
      low = low;
      entries = [];
    } in begun) ≡ record s { entries = [] }
begun-same s first part next top index_area low firsts parts nexts tops areas lows = λ i. record {
  first = firsts i;
  part = parts i;
  next = nexts i;
  top = tops i;
  index_area = areas i;
  low = lows i;
  entries = [];
}
