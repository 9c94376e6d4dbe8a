-- How the merged history goes on, where all that volumes gain has stamps above all that they had.
use Rattle.std.proofs.Common.{◌≡◌, ◌∙◌, ◌<◌, ◌≤◌, ◌+◌, ◌==◌, ◌||◌, ◌&&◌, ℕ, Bool, true, false}
use Rattle.std.proofs.Common.{List, [], ◌∷◌, ◌++◌, All, ap, arith, cond, get_or, inl, inr, length}
use Rattle.std.proofs.Common.{map, nat_lt, not, refl, subst, sym}
use Rattle.std.specs.List.{filter}
use Rattle.std.specs.Prelude.{nat_le}
use Rattle.std.proofs.lemmas.Bool.{cases_Bool}
use Rattle.std.proofs.lemmas.Bool.Decides.{nat_tests}
use Rattle.std.proofs.lemmas.List.{append-nil}
use Rattle.std.proofs.lemmas.List.Elements.{All-append, All-cons, All-head, All-map}
use Rattle.std.proofs.lemmas.List.Elements.{All-nil, All-same, All-tail, All-weaker, filter-append}
use Rattle.std.proofs.lemmas.List.Elements.{filter_passes}
use Rattle.std.proofs.lemmas.Simd.{map-map}
use Rattle.vr_history.specs.Merged.{Numbered, comes_before, entered, in_order, merged}
use Rattle.vr_history.specs.Merged.{numbered_from}
use Rattle.vr_history.specs.declared.entry.Entry.{Entry}
use Rattle.vr_job_text.specs.declared.job.JobStep.{JobStep}
use Rattle.vr_trace.specs.Growing.{AreAbove, ComeLater, greatest_last}
use Rattle.vr_trace.specs.Numbering.{with_volume}
use Rattle.vr_worker.specs.OneStep.{AreSinceStep, IsSinceStep, WentOn}
use Rattle.vr_worker.specs.Steps.{IsOfStep}
use Rattle.vr_worker.proofs.Grown.{same-mapped}
use Rattle.vr_worker.proofs.Laters.{gained-is}

-- ---- lists that a test keeps

filter-every : {X : Type 0} (p : X → Bool) (xs : List X) → All (λ x. p x ≡ true) xs
    → filter p xs ≡ xs
filter-every p [] all = refl
filter-every p (x ∷ xs) all =
    ap (λ (b : Bool). cond b (x ∷ filter p xs) (filter p xs)) (All-head (λ y. p y ≡ true) x xs all)
    ∙ ap (λ them. x ∷ them) (filter-every p xs (All-tail (λ y. p y ≡ true) x xs all))

filter-no : {X : Type 0} (p : X → Bool) (xs : List X) → All (λ x. p x ≡ false) xs
    → filter p xs ≡ []
filter-no p [] all = refl
filter-no p (x ∷ xs) all =
    ap (λ (b : Bool). cond b (x ∷ filter p xs) (filter p xs))
    (All-head (λ y. p y ≡ false) x xs all)
    ∙ filter-no p xs (All-tail (λ y. p y ≡ false) x xs all)

-- of the entries of volumes, where the test looks at the entry alone
filter-numbered : (p : Entry → Bool) (volume : ℕ) (entries : List Entry)
    → filter (λ (this : Numbered). p this.entry) (map (with_volume volume) entries)
    ≡ map (with_volume volume) (filter p entries)
filter-numbered p volume [] = refl
filter-numbered p volume (entry ∷ entries) =
    ap (λ (them : List Numbered). cond (p entry) (with_volume volume entry ∷ them) them)
    (filter-numbered p volume entries) ∙ by_test (p entry)
  where
    by_test : (b : Bool)
        → cond b (with_volume volume entry ∷ map (with_volume volume) (filter p entries))
        (map (with_volume volume) (filter p entries))
        ≡ map (with_volume volume) (cond b (entry ∷ filter p entries) (filter p entries))
    by_test true = refl
    by_test false = refl

filter-all-numbered : (p : Entry → Bool) (volume : ℕ) (histories : List (List Entry))
    → filter (λ (this : Numbered). p this.entry) (numbered_from volume histories)
    ≡ numbered_from volume (map (filter p) histories)
filter-all-numbered p volume [] = refl
filter-all-numbered p volume (entries ∷ histories) =
    filter-append (λ (this : Numbered). p this.entry) (map (with_volume volume) entries)
    (numbered_from (volume + 1) histories)
    ∙ ap (λ (them : List Numbered). them
    ++ filter (λ (this : Numbered). p this.entry) (numbered_from (volume + 1) histories))
    (filter-numbered p volume entries)
    ∙ ap (λ (them : List Numbered). map (with_volume volume) (filter p entries) ++ them)
    (filter-all-numbered p (volume + 1) histories)

-- what is so of each entry is so of each with its volume
all-numbered : (P : Entry → Type 0) (volume : ℕ) (histories : List (List Entry))
    → All (All P) histories
    → All (λ (this : Numbered). P this.entry) (numbered_from volume histories)
all-numbered P volume [] all = All-nil (λ (this : Numbered). P this.entry)
all-numbered P volume (entries ∷ histories) all = All-append (λ (this : Numbered). P this.entry)
    (map (with_volume volume) entries) (numbered_from (volume + 1) histories)
    (All-map (λ (this : Numbered). P this.entry) (with_volume volume) entries
    (All-head (All P) entries histories all))
    (all-numbered P (volume + 1) histories (All-tail (All P) entries histories all))

-- ---- an element in its order

all-entered : (P : Numbered → Type 0) (this : Numbered) (others : List Numbered) → P this
    → All P others → All P (entered this others)
all-entered P this [] is all = All-cons P this [] is all
all-entered P this (other ∷ others) is all = by_test (comes_before this other)
    (all-entered P this others is (All-tail P other others all))
  where
    by_test : (b : Bool) → All P (entered this others)
        → All P (cond b (this ∷ other ∷ others) (other ∷ entered this others))
    by_test true rest = All-cons P this (other ∷ others) is all
    by_test false rest =
        All-cons P other (entered this others) (All-head P other others all) rest

-- what is so of each is so of each in order
all-in-order : (P : Numbered → Type 0) (them : List Numbered) → All P them
    → All P (in_order them)
all-in-order P [] all = all
all-in-order P (this ∷ others) all = all-entered P this (in_order others)
    (All-head P this others all) (all-in-order P others (All-tail P this others all))

low-first : (s t v w : ℕ) → s < t → (nat_lt s t || (s == t && nat_le v w)) ≡ true
low-first s t v w below = grind (arith, nat_tests, below)

high-later : (s t v w : ℕ) → t < s → (nat_lt s t || (s == t && nat_le v w)) ≡ false
high-later s t v w above = grind (arith, nat_tests, above)

is-low : (stamp s : ℕ) → nat_le s stamp ≡ true → s ≤ stamp
is-low stamp s is = grind (arith, nat_tests, is)

is-high : (stamp s : ℕ) → nat_le s stamp ≡ false → stamp < s
is-high stamp s is = grind (arith, nat_tests, is)

low-is : (stamp s : ℕ) → s ≤ stamp → nat_le s stamp ≡ true
low-is stamp s below = grind (arith, nat_tests, below)

high-is : (stamp s : ℕ) → stamp < s → nat_le s stamp ≡ false
high-is stamp s above = grind (arith, nat_tests, above)

module _ (stamp : ℕ) where
  abbrev low : Entry → Bool
  low entry = nat_le entry.stamp stamp

  abbrev high : Entry → Bool
  high entry = not (low entry)

  abbrev IsLow : Numbered → Type 0
  IsLow this = this.entry.stamp ≤ stamp

  abbrev IsHigh : Numbered → Type 0
  IsHigh this = stamp < this.entry.stamp

  -- one of the first comes among the first
  entered-low : (this : Numbered) (first later : List Numbered) → IsLow this
      → All IsHigh later → entered this (first ++ later) ≡ entered this first ++ later
  entered-low this [] [] is all = refl
  entered-low this [] (other ∷ later) is all =
      ap (λ (b : Bool). cond b (this ∷ other ∷ later) (other ∷ entered this later))
      (low-first this.entry.stamp other.entry.stamp this.volume other.volume
      (omega (arith, is, All-head IsHigh other later all)))
  entered-low this (other ∷ first) later is all =
      by_test (comes_before this other) (entered-low this first later is all)
    where
      by_test : (b : Bool) → entered this (first ++ later) ≡ entered this first ++ later
          → cond b (this ∷ other ∷ first ++ later) (other ∷ entered this (first ++ later))
          ≡ cond b (this ∷ other ∷ first) (other ∷ entered this first) ++ later
      by_test true rest = refl
      by_test false rest = ap (λ (them : List Numbered). other ∷ them) rest

  -- and one of the later ones among those
  entered-high : (this : Numbered) (first later : List Numbered) → IsHigh this
      → All IsLow first → entered this (first ++ later) ≡ first ++ entered this later
  entered-high this [] later is all = refl
  entered-high this (other ∷ first) later is all =
      ap (λ (b : Bool). cond b (this ∷ other ∷ first ++ later)
      (other ∷ entered this (first ++ later)))
      (high-later this.entry.stamp other.entry.stamp this.volume other.volume
      (omega (arith, is, All-head IsLow other first all)))
      ∙ ap (λ (them : List Numbered). other ∷ them)
      (entered-high this first later is (All-tail IsLow other first all))

  abbrev firsts : List Numbered → List Numbered
  firsts them = in_order (filter (λ (this : Numbered). low this.entry) them)

  abbrev laters : List Numbered → List Numbered
  laters them = in_order (filter (λ (this : Numbered). high this.entry) them)

  all-low : (them : List Numbered) → All IsLow (firsts them)
  all-low them = all-in-order IsLow (filter (λ (this : Numbered). low this.entry) them)
      (All-weaker (λ (this : Numbered). low this.entry ≡ true) IsLow
      (λ this is. is-low stamp this.entry.stamp is)
      (filter (λ (this : Numbered). low this.entry) them)
      (filter_passes (λ (this : Numbered). low this.entry) them))

  all-high : (them : List Numbered) → All IsHigh (laters them)
  all-high them = all-in-order IsHigh (filter (λ (this : Numbered). high this.entry) them)
      (All-weaker (λ (this : Numbered). high this.entry ≡ true) IsHigh
      (λ this is. is-high stamp this.entry.stamp (not-true (low this.entry) is))
      (filter (λ (this : Numbered). high this.entry) them)
      (filter_passes (λ (this : Numbered). high this.entry) them))
    where
      not-true : (b : Bool) → not b ≡ true → b ≡ false
      not-true true is = absurd (let no = is in (cc))
      not-true false is = refl

  -- entries in order are those up to a stamp, and then those above it
  split : (them : List Numbered) → in_order them ≡ firsts them ++ laters them
  split [] = refl
  split (this ∷ others) =
      let first : List Numbered = filter (λ (one : Numbered). low one.entry) others in
      let later : List Numbered = filter (λ (one : Numbered). high one.entry) others in
      ap (entered this) (split others) ∙ elim (cases_Bool (low this.entry)) [
        | inl is ↦ entered-low this (firsts others) (laters others)
            (is-low stamp this.entry.stamp is) (all-high others)
            ∙ sym (ap (λ (b : Bool). in_order (cond b (this ∷ first) first)
            ++ in_order (cond (not b) (this ∷ later) later)) is)
        | inr is ↦ entered-high this (firsts others) (laters others)
            (is-high stamp this.entry.stamp is) (all-low others)
            ∙ sym (ap (λ (b : Bool). in_order (cond b (this ∷ first) first)
            ++ in_order (cond (not b) (this ∷ later) later)) is)
      ]

  -- ---- a history that grew

  module _ (old new more : List Entry) (grew : new ≡ old ++ more)
      (below : All (λ (entry : Entry). entry.stamp ≤ stamp) old) (above : AreAbove stamp more) where
    low-old : All (λ (entry : Entry). low entry ≡ true) old
    low-old = All-weaker (λ (entry : Entry). entry.stamp ≤ stamp)
        (λ (entry : Entry). low entry ≡ true) (λ entry is. low-is stamp entry.stamp is) old below

    low-more : All (λ (entry : Entry). low entry ≡ false) more
    low-more = All-weaker (λ (entry : Entry). stamp < entry.stamp)
        (λ (entry : Entry). low entry ≡ false) (λ entry is. high-is stamp entry.stamp is) more above

    pub low-part : filter low new ≡ old
    low-part = ap (filter low) grew ∙ filter-append low old more
        ∙ ap (λ (them : List Entry). them ++ filter low more) (filter-every low old low-old)
        ∙ ap (λ (them : List Entry). old ++ them) (filter-no low more low-more)
        ∙ append-nil old

    pub high-part : filter high new ≡ more
    high-part = ap (filter high) grew ∙ filter-append high old more
        ∙ ap (λ (them : List Entry). them ++ filter high more)
        (filter-no high old (All-weaker (λ (entry : Entry). low entry ≡ true)
        (λ (entry : Entry). high entry ≡ false) (λ entry is. ap not is) old low-old))
        ∙ filter-every high more (All-weaker (λ (entry : Entry). low entry ≡ false)
        (λ (entry : Entry). high entry ≡ true) (λ entry is. ap not is) more low-more)

-- ---- the volumes

module _ {V : Type 0} (entries : V → List Entry) (follows : V → V → Type 0) (step : JobStep)
    (old new : List V) (since : AreSinceStep entries follows step old new)
    (later : ComeLater entries old new) where
  abbrev start : ℕ
  start = greatest_last entries old

  module _ (place : ℕ) (volume : V) (near : place < length old) where
    it : IsSinceStep entries follows step (get_or old place volume) (get_or new place volume)
    it = since.each place volume near

    above-start : AreAbove start it.more
    above-start = subst (AreAbove start) (gained-is (entries (get_or old place volume))
        (entries (get_or new place volume)) it.more it.grew) (later.gains place volume near)

    same-low : filter (low start) (entries (get_or new place volume))
        ≡ entries (get_or old place volume)
    same-low = low-part start (entries (get_or old place volume))
        (entries (get_or new place volume)) it.more it.grew (later.had place volume near)
        above-start

    own-high : All (IsOfStep step) (filter (high start) (entries (get_or new place volume)))
    own-high = All-same (IsOfStep step)
        (filter (high start) (entries (get_or new place volume))) it.more
        (high-part start (entries (get_or old place volume))
        (entries (get_or new place volume)) it.more it.grew (later.had place volume near)
        above-start) it.own

  all-before : firsts start (numbered_from 0 (map entries new)) ≡ merged (map entries old)
  all-before = ap in_order (filter-all-numbered (low start) 0 (map entries new)
      ∙ ap (numbered_from 0) (map-map (filter (low start)) entries new
      ∙ same-mapped (λ (volume : V). filter (low start) (entries volume)) entries old new
      since.count same-low))

  all-own : All (λ (this : Numbered). IsOfStep step this.entry)
      (laters start (numbered_from 0 (map entries new)))
  all-own = all-in-order (λ (this : Numbered). IsOfStep step this.entry)
      (filter (λ (this : Numbered). high start this.entry) (numbered_from 0 (map entries new)))
      (All-same (λ (this : Numbered). IsOfStep step this.entry)
      (filter (λ (this : Numbered). high start this.entry) (numbered_from 0 (map entries new)))
      (numbered_from 0 (map (filter (high start)) (map entries new)))
      (filter-all-numbered (high start) 0 (map entries new))
      (all-numbered (IsOfStep step) 0 (map (filter (high start)) (map entries new))
      (All-map (All (IsOfStep step)) (filter (high start)) (map entries new)
      (All-map (λ (history : List Entry). All (IsOfStep step) (filter (high start) history))
      entries new (λ place volume near.
      own-high place volume (omega (arith, since.count, near)))))))

  -- so the merged history went on at its end
  pub went-on : WentOn step (map entries old) (map entries new)
  went-on = record {
    more = laters start (numbered_from 0 (map entries new));
    grew = split start (numbered_from 0 (map entries new))
        ∙ ap (λ (them : List Numbered). them
        ++ laters start (numbered_from 0 (map entries new))) all-before;
    own = all-own;
  }

-- where the volumes stay, it stays
pub went-nowhere : (step : JobStep) (histories : List (List Entry))
    → WentOn step histories histories
went-nowhere step histories = record {
  more = [];
  grew = sym (append-nil (merged histories));
  own = All-nil (λ (this : Numbered). IsOfStep step this.entry);
}

-- volumes on which nothing was entered have nothing merged
none-numbered : {V : Type 0} (entries : V → List Entry) (volume : ℕ) (volumes : List V)
    → All (λ (one : V). entries one ≡ []) volumes → numbered_from volume (map entries volumes) ≡ []
none-numbered entries volume [] none = refl
none-numbered {V} entries volume (one ∷ volumes) none =
    ap (λ (them : List Entry). map (with_volume volume) them
    ++ numbered_from (volume + 1) (map entries volumes))
    (All-head (λ (it : V). entries it ≡ []) one volumes none)
    ∙ none-numbered entries (volume + 1) volumes
    (All-tail (λ (it : V). entries it ≡ []) one volumes none)

pub none-merged : {V : Type 0} (entries : V → List Entry) (volumes : List V)
    → All (λ (one : V). entries one ≡ []) volumes → merged (map entries volumes) ≡ []
none-merged entries volumes none = ap in_order (none-numbered entries 0 volumes none)
