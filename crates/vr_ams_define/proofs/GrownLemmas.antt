-- Histories of volumes that commands ran on: over no command, and over commands one after another.
use Rattle.std.proofs.Common.{◌≡◌, ◌∙◌, ◌<◌, ◌≤◌, ◌+◌, ℕ, zero, suc, List, [], ◌∷◌, ◌++◌, ap}
use Rattle.std.proofs.Common.{append_assoc, arith, drop, get_or, inl, inr, length, map, refl, subst}
use Rattle.std.proofs.Common.{sym}
use Rattle.std.specs.Prelude.{◌⊎◌, Contains}
use Rattle.std.proofs.Math.Seq.{drop-append_seam}
use Rattle.std.proofs.lemmas.Bool.{cases_lt}
use Rattle.std.proofs.lemmas.List.{append-nil, get_or-map, get_or_past, length-map}
use Rattle.std.proofs.lemmas.List.Elements.{All-append, All-contains, All-nil, All-same}
use Rattle.std.proofs.lemmas.List.Elements.{All-weaker, Contains-append_cases}
use Rattle.std.proofs.lemmas.List.Elements.{Contains-append_left, Contains-append_right}
use Rattle.vr_history.specs.Merged.{Numbered, last_stamp}
use Rattle.vr_history.specs.declared.entry.Entry.{Entry}
use Rattle.vr_trace.specs.Code.{greatest}
use Rattle.vr_trace.specs.Growing.{AreAbove, ComeNext, FollowsOneOf, GainAbove, IsEntered, IsNext}
use Rattle.vr_trace.specs.Growing.{gained, greatest_last}
use Rattle.vr_trace.specs.Laws.{history_at}
use Rattle.vr_trace.specs.Numbering.{with_volume}
use Rattle.vr_ams_define.specs.Grown.{AreRunOn, IsOfUtilities, IsRunOn}

-- ---- lists

pub none-there : {X : Type 0} (xs : List X) (x : X) → xs ≡ [] → Contains xs x → ⊥
none-there xs x none has =
    let it = subst (λ (them : List _). Contains them x) none has in omega (arith, it.1)

-- a history that grew twice
grew-on : (a b c one two : List Entry) → b ≡ a ++ one → c ≡ b ++ two → c ≡ a ++ (one ++ two)
grew-on a b c one two first second =
    second ∙ ap (λ (them : List Entry). them ++ two) first ∙ append_assoc a one two

-- what a history that grew has more is what was entered
pub gained-is : (old new made : List Entry) → new ≡ old ++ made → gained old new ≡ made
gained-is old new made grew = ap (drop (length old)) grew ∙ drop-append_seam old made

-- ---- the greatest of the last stamps

greatest-one : {X : Type 0} (f : X → ℕ) (xs : List X) (x : X) → (greatest f xs ≡ 0)
    ⊎ ((place : ℕ) × (place < length xs) × (f (get_or xs place x) ≡ greatest f xs))
greatest-one f [] x = inl refl
greatest-one f (y ∷ xs) x = elim (greatest-one f xs x) [
  | inl none ↦ inr (0, omega arith, omega (arith, none))
  | inr (place, near, is) ↦ elim (cases_lt (f y) (greatest f xs)) [
    | inl less ↦ inr (suc place, omega (arith, near), omega (arith, is, less))
    | inr most ↦ inr (0, omega arith, omega (arith, most))
  ]
]

pub at-most-greatest : {X : Type 0} (f : X → ℕ) (xs : List X) (place : ℕ) (x : X)
    → place < length xs → f (get_or xs place x) ≤ greatest f xs
at-most-greatest f [] place x near = absurd (omega (arith, near))
at-most-greatest f (y ∷ xs) zero x near = omega arith
at-most-greatest f (y ∷ xs) (suc place) x near =
    omega (arith, at-most-greatest f xs place x (omega (arith, near)))

-- it only rises where each does
greatest-rises : {X : Type 0} (f : X → ℕ) (xs ys : List X) → length ys ≡ length xs
    → ((place : ℕ) (x : X) → place < length xs → f (get_or xs place x) ≤ f (get_or ys place x))
    → greatest f xs ≤ greatest f ys
greatest-rises f [] ys count rise = omega arith
greatest-rises f (x ∷ xs) [] count rise = absurd (omega (arith, count))
greatest-rises f (x ∷ xs) (y ∷ ys) count rise = omega (
  arith,
  rise 0 x (omega arith),
  greatest-rises f xs ys (omega (arith, count))
      (λ place other near. rise (suc place) other (omega (arith, near))),
)

-- ---- the last stamp of a history

-- it is the one before them, or that of one of them
pub last-entry : (before : ℕ) (entries : List Entry) → (last_stamp before entries ≡ before)
    ⊎ ((other : Entry) × Contains entries other × (other.stamp ≡ last_stamp before entries))
last-entry before [] = inl refl
last-entry before (entry ∷ entries) = elim (last-entry entry.stamp entries) [
  | inl same ↦ inr (entry, (0, omega arith, refl), sym same)
  | inr (other, has, is) ↦
      inr (other, Contains-append_right (entry ∷ []) entries other has, is)
]

-- over two lists it is the second's
pub last_stamp-both : (before : ℕ) (one more : List Entry)
    → last_stamp before (one ++ more) ≡ last_stamp (last_stamp before one) more
last_stamp-both before [] more = refl
last_stamp-both before (entry ∷ one) more = last_stamp-both entry.stamp one more

-- ---- one volume

-- lines of some commands are lines of more
own-before : (lines more : List ℕ) (entry : Entry) → IsOfUtilities lines entry
    → IsOfUtilities (lines ++ more) entry
own-before lines more entry own = (own.0, Contains-append_left lines more entry.line own.1)

own-after : (lines more : List ℕ) (entry : Entry) → IsOfUtilities more entry
    → IsOfUtilities (lines ++ more) entry
own-after lines more entry own = (own.0, Contains-append_right lines more entry.line own.1)

module _ {V : Type 0} (history : V → List Entry) (goes : V → V → Type 0) where
  pub one-nothing : (lines : List ℕ) (volume : V) → goes volume volume
      → IsRunOn history goes lines volume volume
  one-nothing lines volume nowhere = record {
    is_later = nowhere;
    made = [];
    grew = sym (append-nil (history volume));
    own = All-nil (IsOfUtilities lines);
  }

  one-on : ((a b c : V) → goes a b → goes b c → goes a c) → (lines more : List ℕ) (a b c : V)
      → IsRunOn history goes lines a b → IsRunOn history goes more b c
      → IsRunOn history goes (lines ++ more) a c
  one-on further lines more a b c first second = record {
    is_later = further a b c first.is_later second.is_later;
    made = first.made ++ second.made;
    grew = grew-on (history a) (history b) (history c) first.made second.made first.grew
        second.grew;
    own = All-append (IsOfUtilities (lines ++ more)) first.made second.made
        (All-weaker (IsOfUtilities lines) (IsOfUtilities (lines ++ more)) (own-before lines more)
        first.made first.own)
        (All-weaker (IsOfUtilities more) (IsOfUtilities (lines ++ more)) (own-after lines more)
        second.made second.own);
  }

  -- its last stamp is no less, and where it is greater than one that all made entries are above,
  -- it is that of one of them
  last-rises : (lines : List ℕ) (a b : V) (most : ℕ) (run : IsRunOn history goes lines a b)
      → last_stamp 0 (history a) ≤ most → AreAbove most run.made
      → last_stamp 0 (history a) ≤ last_stamp 0 (history b)
  last-rises lines a b most run below above =
      let at : last_stamp 0 (history b) ≡ last_stamp (last_stamp 0 (history a)) run.made =
      ap (last_stamp 0) run.grew ∙ last_stamp-both 0 (history a) run.made in
      elim (last-entry (last_stamp 0 (history a)) run.made) [
        | inl same ↦ omega (arith, at, same)
        | inr (other, has, is) ↦ omega (
          arith,
          at,
          is,
          below,
          All-contains (λ (entry : Entry). most < entry.stamp) run.made other above has,
        )
      ]

  last-made : (lines : List ℕ) (a b : V) (most : ℕ) (run : IsRunOn history goes lines a b)
      → last_stamp 0 (history a) ≤ most → most < last_stamp 0 (history b)
      → (other : Entry) × Contains run.made other × (other.stamp ≡ last_stamp 0 (history b))
  last-made lines a b most run below past =
      let at : last_stamp 0 (history b) ≡ last_stamp (last_stamp 0 (history a)) run.made =
      ap (last_stamp 0) run.grew ∙ last_stamp-both 0 (history a) run.made in
      elim (last-entry (last_stamp 0 (history a)) run.made) [
        | inl same ↦ absurd (omega (arith, at, same, below, past))
        | inr (other, has, is) ↦ (other, has, is ∙ sym at)
      ]

-- ---- entries of all volumes

module _ {V : Type 0} (history : V → List Entry) where
  there : (volumes : List V) (place : ℕ) (volume : V) → place < length volumes
      → history_at (map history volumes) place ≡ history (get_or volumes place volume)
  there volumes place volume near = get_or-map history volumes place volume [] near

  -- an entry is on a volume that is there
  on-volume : (volumes : List V) (this : Numbered) → IsEntered (map history volumes) this
      → this.volume < length volumes
  on-volume volumes this entered = elim (cases_lt this.volume (length volumes)) [
    | inl near ↦ near
    | inr far ↦ absurd (none-there (history_at (map history volumes) this.volume) this.entry
        (get_or_past (map history volumes) this.volume []
        (omega (arith, far, length-map volumes history))) entered)
  ]

  some-volume : (volumes : List V) (place : ℕ) → place < length volumes → V
  some-volume [] place near = absurd (omega (arith, near))
  some-volume (volume ∷ volumes) place near = volume

  -- one on a volume with this history is entered
  pub entered-on : (volumes : List V) (place : ℕ) (volume : V) (entry : Entry)
      → place < length volumes → Contains (history (get_or volumes place volume)) entry
      → IsEntered (map history volumes) (with_volume place entry)
  entered-on volumes place volume entry near has = subst
      (λ (them : List Entry). Contains them entry) (sym (there volumes place volume near)) has

-- ---- nothing runs

-- no command enters anything
pub run-nothing : {V : Type 0} (history : V → List Entry) (goes : V → V → Type 0)
    → ((volume : V) → goes volume volume) → (lines : List ℕ) (volumes : List V)
    → AreRunOn history goes lines volumes volumes
run-nothing {V} history goes nowhere lines volumes = record {
  count = refl;
  each = λ place volume near. one-nothing history goes lines (get_or volumes place volume)
      (nowhere (get_or volumes place volume));
  above = λ place volume near.
      let it : List Entry = history (get_or volumes place volume) in
      All-same (λ (entry : Entry). greatest_last history volumes < entry.stamp) (gained it it) []
      (gained-is it it [] (sym (append-nil it)))
      (All-nil (λ (entry : Entry). greatest_last history volumes < entry.stamp));
  next = λ place volume entry near has.
      let it : List Entry = history (get_or volumes place volume) in
      absurd (none-there (gained it it) entry (gained-is it it [] (sym (append-nil it))) has);
  rising = λ risen. risen;
}

-- ---- one run after another

module _ {V : Type 0} (history : V → List Entry) (goes : V → V → Type 0)
    (further : (a b c : V) → goes a b → goes b c → goes a c) (lines more : List ℕ)
    (a b c : List V) (first : AreRunOn history goes lines a b)
    (second : AreRunOn history goes more b c) where
  abbrev most : ℕ
  most = greatest_last history a

  abbrev last-in : V → ℕ
  last-in volume = last_stamp 0 (history volume)

  one-first : (place : ℕ) (volume : V) → place < length a
      → IsRunOn history goes lines (get_or a place volume) (get_or b place volume)
  one-first place volume near = first.each place volume near

  one-second : (place : ℕ) (volume : V) → place < length a
      → IsRunOn history goes more (get_or b place volume) (get_or c place volume)
  one-second place volume near = second.each place volume (omega (arith, first.count, near))

  below-most : (place : ℕ) (volume : V) → place < length a
      → last_stamp 0 (history (get_or a place volume)) ≤ most
  below-most place volume near = at-most-greatest last-in a place volume near

  -- what the first run entered is above the last stamps before it
  first-above : (place : ℕ) (volume : V) (near : place < length a)
      → AreAbove most (one-first place volume near).made
  first-above place volume near =
      let run = one-first place volume near in
      All-same (λ (entry : Entry). most < entry.stamp) run.made
      (gained (history (get_or a place volume)) (history (get_or b place volume)))
      (sym (gained-is (history (get_or a place volume)) (history (get_or b place volume)) run.made
      run.grew)) (first.above place volume near)

  most-rises : most ≤ greatest_last history b
  most-rises = greatest-rises last-in a b first.count (λ place volume near.
      last-rises history goes lines (get_or a place volume) (get_or b place volume) most
      (one-first place volume near) (below-most place volume near)
      (first-above place volume near))

  second-above : (place : ℕ) (volume : V) (near : place < length a)
      → AreAbove most (one-second place volume near).made
  second-above place volume near =
      let run = one-second place volume near in
      let near-second : place < length b = omega (arith, first.count, near) in
      let most-second : ℕ = greatest_last history b in
      All-weaker (λ (entry : Entry). most-second < entry.stamp)
      (λ (entry : Entry). most < entry.stamp)
      (λ entry above. omega (arith, above, most-rises)) run.made
      (All-same (λ (entry : Entry). most-second < entry.stamp) run.made
      (gained (history (get_or b place volume)) (history (get_or c place volume)))
      (sym (gained-is (history (get_or b place volume)) (history (get_or c place volume)) run.made
      run.grew)) (second.above place volume near-second))

  both-gained : (place : ℕ) (volume : V) (near : place < length a)
      → gained (history (get_or a place volume)) (history (get_or c place volume))
      ≡ (one-first place volume near).made ++ (one-second place volume near).made
  both-gained place volume near =
      let one = one-first place volume near in
      let two = one-second place volume near in
      gained-is (history (get_or a place volume)) (history (get_or c place volume))
      (one.made ++ two.made) (grew-on (history (get_or a place volume))
      (history (get_or b place volume)) (history (get_or c place volume)) one.made two.made one.grew
      two.grew)

  both-above : GainAbove history a c
  both-above place volume near =
      let one = (one-first place volume near).made in
      let two = (one-second place volume near).made in
      All-same (λ (entry : Entry). most < entry.stamp)
      (gained (history (get_or a place volume)) (history (get_or c place volume))) (one ++ two)
      (both-gained place volume near)
      (All-append (λ (entry : Entry). most < entry.stamp) one two (first-above place volume near)
      (second-above place volume near))

  -- what was entered in the first run is there after the second
  entered-later : (this : Numbered) → IsEntered (map history b) this
      → IsEntered (map history c) this
  entered-later this entered =
      let near = on-volume history b this entered in
      let volume : V = some-volume history b this.volume near in
      let run : IsRunOn history goes more (get_or b this.volume volume)
      (get_or c this.volume volume) = second.each this.volume volume near in
      let near-later : this.volume < length c = omega (arith, second.count, near) in
      entered-on history c this.volume volume this.entry near-later
      (subst (λ (them : List Entry). Contains them this.entry) (sym run.grew)
      (Contains-append_left (history (get_or b this.volume volume)) run.made this.entry
      (subst (λ (them : List Entry). Contains them this.entry)
      (there history b this.volume volume near) entered)))

  -- the greatest last stamp after the first run, where it is greater, is that of an entry of it
  last-of-first : (volume : V) → most < greatest_last history b
      → (other : Numbered) × IsEntered (map history c) other × (other.entry.unit.deck ≡ 0)
      × (other.entry.stamp ≡ greatest_last history b)
  last-of-first volume past = elim (greatest-one last-in b volume) [
    | inl none ↦ absurd (omega (arith, none, past))
    | inr (place, near-second, is) ↦
        let near : place < length a = omega (arith, first.count, near-second) in
        let run = one-first place volume near in
        let made = last-made history goes lines (get_or a place volume) (get_or b place volume)
        most run (below-most place volume near) (omega (arith, past, is)) in
        let has : Contains (history (get_or b place volume)) made.0 =
        subst (λ (them : List Entry). Contains them made.0) (sym run.grew)
        (Contains-append_right (history (get_or a place volume)) run.made made.0 made.1) in (
          with_volume place made.0,
          entered-later (with_volume place made.0)
              (entered-on history b place volume made.0 near-second has),
          (All-contains (IsOfUtilities lines) run.made made.0 run.own made.1).0,
          made.2 ∙ is,
        )
  ]

  module _ (place : ℕ) (volume : V) (entry : Entry) (near : place < length a) where
    abbrev Next : Type 0
    Next = IsNext most entry ⊎ FollowsOneOf (map history c) (with_volume place entry)

    follows-later : FollowsOneOf (map history b) (with_volume place entry) → Next
    follows-later follows = inr (record {
      other = follows.other;
      entered = entered-later follows.other follows.entered;
      next = follows.next;
      shares = follows.shares;
    })

    next-in-first : Contains (one-first place volume near).made entry → Next
    next-in-first has =
        let run = one-first place volume near in
        elim (first.next place volume entry near
        (subst (λ (them : List Entry). Contains them entry)
        (sym (gained-is (history (get_or a place volume)) (history (get_or b place volume))
        run.made run.grew)) has)) [
          | inl is ↦ inl is
          | inr follows ↦ follows-later follows
        ]

    -- next after the greatest last stamp that the first run left
    after-first : entry.unit.deck ≡ 0 → IsNext (greatest_last history b) entry → Next
    after-first own is = elim (cases_lt most (greatest_last history b)) [
      | inl past ↦
          let one = last-of-first volume past in
          inr (record {
            other = one.0;
            entered = one.1;
            next = is ∙ ap (λ (stamp : ℕ). stamp + 1) (sym one.3);
            shares = inr (one.2 ∙ sym own);
          })
      | inr same ↦ inl (omega (arith, is, same, most-rises))
    ]

    next-in-second : Contains (one-second place volume near).made entry → Next
    next-in-second has =
        let run = one-second place volume near in
        let own : IsOfUtilities more entry =
        All-contains (IsOfUtilities more) run.made entry run.own has in
        elim (second.next place volume entry (omega (arith, first.count, near))
        (subst (λ (them : List Entry). Contains them entry)
        (sym (gained-is (history (get_or b place volume)) (history (get_or c place volume))
        run.made run.grew)) has)) [
          | inl is ↦ after-first own.0 is
          | inr follows ↦ inr follows
        ]

  both-next : ComeNext history a c
  both-next place volume entry near has =
      let one = (one-first place volume near).made in
      let two = (one-second place volume near).made in
      elim (Contains-append_cases one two entry (subst
      (λ (them : List Entry). Contains them entry) (both-gained place volume near) has)) [
        | inl early ↦ next-in-first place volume entry near early
        | inr late ↦ next-in-second place volume entry near late
      ]

-- what commands enter, and others then, is by both
pub run-on : {V : Type 0} (history : V → List Entry) (goes : V → V → Type 0)
    → ((a b c : V) → goes a b → goes b c → goes a c) → (lines more : List ℕ) (a b c : List V)
    → AreRunOn history goes lines a b → AreRunOn history goes more b c
    → AreRunOn history goes (lines ++ more) a c
run-on history goes further lines more a b c first second = record {
  count = second.count ∙ first.count;
  each = λ place volume near. one-on history goes further lines more (get_or a place volume)
      (get_or b place volume) (get_or c place volume)
      (one-first history goes further lines more a b c first second place volume near)
      (one-second history goes further lines more a b c first second place volume near);
  above = both-above history goes further lines more a b c first second;
  next = both-next history goes further lines more a b c first second;
  rising = λ risen. second.rising (first.rising risen);
}

-- ---- a command that has more than one event

-- an entry on one of these lines, of which each is there twice
once : (lines : List ℕ) (entry : Entry) → IsOfUtilities (lines ++ lines) entry
    → IsOfUtilities lines entry
once lines entry own = (
  own.0,
  elim (Contains-append_cases lines lines entry.line own.1) [
    | inl first ↦ first
    | inr second ↦ second
  ],
)

-- what events of a command enter, and others of it then, is by its lines
pub run-again : {V : Type 0} (history : V → List Entry) (goes : V → V → Type 0)
    → ((a b c : V) → goes a b → goes b c → goes a c) → (lines : List ℕ) (a b c : List V)
    → AreRunOn history goes lines a b → AreRunOn history goes lines b c
    → AreRunOn history goes lines a c
run-again history goes further lines a b c first second =
    let both = run-on history goes further lines lines a b c first second in
    record {
      count = both.count;
      each = λ place volume near.
          let run = both.each place volume near in
          record {
            is_later = run.is_later;
            made = run.made;
            grew = run.grew;
            own = All-weaker (IsOfUtilities (lines ++ lines)) (IsOfUtilities lines) (once lines)
                run.made run.own;
          };
      above = both.above;
      next = both.next;
      rising = both.rising;
    }
