-- Stamps that rise: over two lists of entries, and over all volumes.
use Rattle.std.proofs.Common.{◌<◌, ◌≤◌, ℕ, Bool, true, false, List, [], ◌∷◌, ◌++◌, All, ap}
use Rattle.std.proofs.Common.{arith, cond, get_or, inl, inr, length, map, subst, sym, refl}
use Rattle.std.specs.List.{filter}
use Rattle.std.proofs.lemmas.Bool.{cases_lt}
use Rattle.std.proofs.lemmas.Bool.Decides.{Decides-eqb}
use Rattle.std.proofs.lemmas.List.{get_or_past}
use Rattle.std.proofs.lemmas.List.Elements.{All-cons, All-contains, All-filter, All-head, All-map}
use Rattle.std.proofs.lemmas.List.Elements.{All-nil, All-tail, All-weaker}
use Rattle.vr_history.specs.Merged.{IsStamped, Numbered, last_stamp, merged}
use Rattle.vr_history.specs.declared.entry.Entry.{Entry}
use Rattle.vr_trace.proofs.CallerLemmas.{volume_part}
use Rattle.vr_trace.specs.Growing.{AreAbove, AreUpTo, greatest_last}
use Rattle.vr_trace.specs.Laws.{entries_on, entry_of, history_at, is_of, is_on, of_deck}
use Rattle.vr_ams_define.specs.Grown.{AreRisen}
use Rattle.vr_ams_define.proofs.GrownLemmas.{at-most-greatest, last-entry}

-- ---- one list

-- the last stamp is at least one that all are above
pub last-above : (before : ℕ) (entries : List Entry) → IsStamped before entries
    → before ≤ last_stamp before entries
last-above before [] is = omega arith
last-above before (entry ∷ entries) is =
    omega (arith, is.0, last-above entry.stamp entries is.1)

-- stamps that rise from one on are above it
pub above-stamped : (before : ℕ) (entries : List Entry) → IsStamped before entries
    → AreAbove before entries
above-stamped before [] is = All-nil (λ (entry : Entry). before < entry.stamp)
above-stamped before (entry ∷ entries) is = All-cons
    (λ (one : Entry). before < one.stamp) entry entries is.0
    (All-weaker (λ (one : Entry). entry.stamp < one.stamp) (λ (one : Entry). before < one.stamp)
    (λ one above. omega (arith, is.0, above)) entries (above-stamped entry.stamp entries is.1))

-- none is above the last
up-to-last : (before : ℕ) (entries : List Entry) → IsStamped before entries
    → AreUpTo (last_stamp before entries) entries
up-to-last before [] is = All-nil (λ (entry : Entry). entry.stamp ≤ before)
up-to-last before (entry ∷ entries) is = All-cons
    (λ (one : Entry). one.stamp ≤ last_stamp entry.stamp entries) entry entries
    (last-above entry.stamp entries is.1) (up-to-last entry.stamp entries is.1)

-- and the last is at most one that none is above
last-up-to : (stamp : ℕ) (entries : List Entry) → AreUpTo stamp entries
    → last_stamp 0 entries ≤ stamp
last-up-to stamp entries below = elim (last-entry 0 entries) [
  | inl none ↦ omega (arith, none)
  | inr (other, has, is) ↦ omega (
    arith,
    is,
    All-contains (λ (entry : Entry). entry.stamp ≤ stamp) entries other below has,
  )
]

-- they rise from a lower one on, too
pub stamped-lower : (low high : ℕ) (entries : List Entry) → low ≤ high → IsStamped high entries
    → IsStamped low entries
stamped-lower low high [] below is = tt
stamped-lower low high (entry ∷ entries) below is = (omega (arith, below, is.0), is.1)

-- and so do those of the entries that a test keeps
pub stamped-kept : (p : Entry → Bool) (before : ℕ) (entries : List Entry)
    → IsStamped before entries → IsStamped before (filter p entries)
stamped-kept p before [] is = tt
stamped-kept p before (entry ∷ entries) is =
    by_test (p entry) (stamped-kept p entry.stamp entries is.1)
  where
    by_test : (b : Bool) → IsStamped entry.stamp (filter p entries)
        → IsStamped before (cond b (entry ∷ filter p entries) (filter p entries))
    by_test true rest = (is.0, rest)
    by_test false rest =
        stamped-lower before entry.stamp (filter p entries) (omega (arith, is.0)) rest

-- the stamps of both rise, where those of the second go on from the first's last
pub stamped-both : (before : ℕ) (one more : List Entry) → IsStamped before one
    → IsStamped (last_stamp before one) more → IsStamped before (one ++ more)
stamped-both before [] more first second = second
stamped-both before (entry ∷ one) more first second =
    (first.0, stamped-both entry.stamp one more first.1 second)

-- so it is where those of the second rise from one on that none of the first is above
pub stamped-then : (stamp : ℕ) (one more : List Entry) → IsStamped 0 one → AreUpTo stamp one
    → IsStamped stamp more → IsStamped 0 (one ++ more)
stamped-then stamp one more first below second = stamped-both 0 one more first
    (stamped-lower (last_stamp 0 one) stamp more (last-up-to stamp one below) second)

-- ---- the merged history

-- what is so of the entries on each volume is so of all
each-on : (P : Entry → Type 0) (them : List Numbered)
    → ((volume : ℕ) → All P (entries_on volume them))
    → All (λ (this : Numbered). P this.entry) them
each-on P [] on = All-nil (λ (this : Numbered). P this.entry)
each-on P (this ∷ them) on = All-cons (λ (one : Numbered). P one.entry) this them
    (All-head P this.entry (entries_on this.volume them) (subst (All P)
    (ap (λ (b : Bool). map entry_of (cond b (this ∷ filter (is_on this.volume) them)
    (filter (is_on this.volume) them))) ((Decides-eqb this.volume this.volume).1 refl))
    (on this.volume)))
    (each-on P them (λ volume. rest volume (is_on volume this) (on volume)))
  where
    rest : (volume : ℕ) (b : Bool)
        → All P (map entry_of (cond b (this ∷ filter (is_on volume) them)
        (filter (is_on volume) them))) → All P (entries_on volume them)
    rest volume true all = All-tail P this.entry (entries_on volume them) all
    rest volume false all = all

-- what is so of all entries of each history is so of a deck's in the merged one
all-of-deck : (P : Entry → Type 0) (deck : ℕ) (histories : List (List Entry))
    → ((volume : ℕ) → IsStamped 0 (history_at histories volume))
    → ((volume : ℕ) → All P (history_at histories volume))
    → All P (map entry_of (of_deck deck (merged histories)))
all-of-deck P deck histories stamped all =
    let them : List Numbered = merged histories in
    All-map P entry_of (of_deck deck them)
    (All-filter (is_of deck) (λ (this : Numbered). P this.entry) them
    (each-on P them (λ volume. subst (All P) (sym (volume_part histories volume (stamped volume)))
    (all volume))))

-- ---- the volumes

module _ {V : Type 0} (history : V → List Entry) (volumes : List V) where
  abbrev most : ℕ
  most = greatest_last history volumes

  -- what is so of each volume's history, and of one without entries, is so of each number's
  at-number : (P : List Entry → Type 0) → P [] → All (λ (volume : V). P (history volume)) volumes
      → (number : ℕ) → P (history_at (map history volumes) number)
  at-number P none all number = elim (cases_lt number (length (map history volumes))) [
    | inl near ↦ All-map P history volumes all number [] near
    | inr far ↦ subst P (sym (get_or_past (map history volumes) number [] far)) none
  ]

  module _ (risen : AreRisen history volumes) where
    -- none of a volume's stamps is above the greatest of the last ones
    pub volume-up-to : All (λ (volume : V). AreUpTo most (history volume)) volumes
    volume-up-to place volume near =
        let it : List Entry = history (get_or volumes place volume) in
        All-weaker (λ (entry : Entry). entry.stamp ≤ last_stamp 0 it)
        (λ (entry : Entry). entry.stamp ≤ most)
        (λ entry below. omega (
          arith,
          below,
          at-most-greatest
              (λ (one : V). last_stamp 0 (history one)) volumes place volume near,
        )) it
        (up-to-last 0 it (risen.each place volume near))

    pub stamped-at : (number : ℕ) → IsStamped 0 (history_at (map history volumes) number)
    stamped-at = at-number (IsStamped 0) tt risen.each

    -- and none of the utilities' stamps is
    pub utilities-up-to : AreUpTo most (map entry_of (of_deck 0 (merged (map history volumes))))
    utilities-up-to = all-of-deck (λ (entry : Entry). entry.stamp ≤ most) 0 (map history volumes)
        stamped-at (at-number (AreUpTo most) (All-nil (λ (entry : Entry). entry.stamp ≤ most))
        volume-up-to)
