-- What the events of a command enter on one volume, one after another, and what that makes of all
-- volumes.
use Rattle.std.proofs.Common.{◌≡◌, ◌∙◌, ◌<◌, ◌+◌, ◌==◌, ℕ, Bool, List, [], ◌∷◌, ◌++◌, All}
use Rattle.std.proofs.Common.{ap, append_assoc, arith, cond, get_or, inl, inr, length, map, max}
use Rattle.std.proofs.Common.{refl, subst, sym}
use Rattle.std.specs.Prelude.{◌⊎◌, Contains, set}
use Rattle.std.proofs.lemmas.Bool.{cases_Bool, cases_eq}
use Rattle.std.proofs.lemmas.Bool.Decides.{Decides-eqb}
use Rattle.std.proofs.lemmas.Grind.{get_or-set_at}
use Rattle.std.proofs.lemmas.List.{append-nil, get_or-map, get_or-set_other, get_or_default}
use Rattle.std.proofs.lemmas.List.{length-map, length-set, map-append, map-set}
use Rattle.std.proofs.lemmas.List.Elements.{All-append, All-contains, All-nil}
use Rattle.std.proofs.lemmas.List.Elements.{All-same, All-weaker}
use Rattle.std.proofs.lemmas.List.Elements.{Contains-append_left, Contains-append_right}
use Rattle.vr_history.specs.Merged.{IsStamped, Numbered, last_stamp, merged}
use Rattle.vr_history.specs.declared.entry.Entry.{Entry}
use Rattle.vr_trace.proofs.CallerLemmas.{deck_grows, entries_again}
use Rattle.vr_trace.specs.Growing.{AreAbove, FollowsOne, FollowsOneOf, IsNext, gained}
use Rattle.vr_trace.specs.Growing.{greatest_last}
use Rattle.vr_trace.specs.Laws.{AreRising, Grew, deck_after, deck_entries, entry_of, history_at}
use Rattle.vr_trace.specs.Laws.{of_deck}
use Rattle.vr_trace.specs.Numbering.{with_volume}
use Rattle.vr_ams_define.specs.Grown.{AreRisen, AreRunOn, HasEntered, IsOfCommand, IsOfUtilities}
use Rattle.vr_ams_define.specs.Grown.{IsRunOn}
use Rattle.vr_ams_define.specs.Steps.{IsLater}
use Rattle.vr_ams_define.proofs.GrownLemmas.{at-most-greatest, entered-on, gained-is, last-entry}
use Rattle.vr_ams_define.proofs.GrownLemmas.{last_stamp-both, none-there, one-nothing}
use Rattle.vr_ams_define.proofs.Rising.{above-stamped, last-above, stamped-at, stamped-both}
use Rattle.vr_ams_define.proofs.Rising.{stamped-kept, stamped-then, utilities-up-to, volume-up-to}

-- ---- stamps

-- where an event's stamps come after another one, too, so does the volume's last
last-reached : (last after : ℕ) (made : List Entry) → IsStamped (max last after) made
    → max (last_stamp last made) after ≡ last_stamp (max last after) made
last-reached last after [] is = refl
last-reached last after (entry ∷ made) is =
    omega (arith, is.0, last-above entry.stamp made is.1)

-- ---- events one after another

-- an entry comes next after this stamp, or after one of these entries
abbrev ComesNext : ℕ → List Entry → Entry → Type 0
ComesNext stamp made entry = IsNext stamp entry ⊎ FollowsOne made entry

next-before : (stamp : ℕ) (one more : List Entry) (entry : Entry) → ComesNext stamp one entry
    → ComesNext stamp (one ++ more) entry
next-before stamp one more entry next = elim next [
  | inl is ↦ inl is
  | inr (other, has, is) ↦ inr (other, Contains-append_left one more other has, is)
]

next-after : (stamp : ℕ) (one more : List Entry) (entry : Entry)
    → ComesNext (last_stamp stamp one) more entry → ComesNext stamp (one ++ more) entry
next-after stamp one more entry next = elim next [
  | inl is ↦ elim (last-entry stamp one) [
    | inl same ↦ inl (is ∙ ap (λ (n : ℕ). n + 1) same)
    | inr (other, has, last) ↦ inr (
      other,
      Contains-append_left one more other has,
      is ∙ ap (λ (n : ℕ). n + 1) (sym last),
    )
  ]
  | inr (other, has, is) ↦ inr (other, Contains-append_right one more other has, is)
]

-- no event enters anything
entered-nothing : (line after : ℕ) (old : List Entry) → HasEntered line after old old
entered-nothing line after old = record {
  made = [];
  entries = sym (append-nil old);
  own = All-nil (IsOfCommand line);
  stamped = tt;
  next = All-nil (ComesNext (max (last_stamp 0 old) after) []);
}

entered-then : (line after : ℕ) (a b c : List Entry) → HasEntered line after a b
    → HasEntered line after b c → HasEntered line after a c
entered-then line after a b c first second =
    let start : ℕ = max (last_stamp 0 a) after in
    let at : max (last_stamp 0 b) after ≡ last_stamp start first.made =
    ap (λ (n : ℕ). max n after) (ap (last_stamp 0) first.entries
    ∙ last_stamp-both 0 a first.made)
    ∙ last-reached (last_stamp 0 a) after first.made first.stamped in
    record {
      made = first.made ++ second.made;
      entries = second.entries ∙ ap (λ (them : List Entry). them ++ second.made) first.entries
          ∙ append_assoc a first.made second.made;
      own = All-append (IsOfCommand line) first.made second.made first.own second.own;
      stamped = stamped-both start first.made second.made first.stamped
          (subst (λ (n : ℕ). IsStamped n second.made) at second.stamped);
      next = All-append (ComesNext start (first.made ++ second.made)) first.made second.made
          (All-weaker (ComesNext start first.made)
          (ComesNext start (first.made ++ second.made))
          (next-before start first.made second.made) first.made first.next)
          (All-weaker (ComesNext (last_stamp start first.made) second.made)
          (ComesNext start (first.made ++ second.made))
          (next-after start first.made second.made) second.made
          (subst (λ (n : ℕ). All (ComesNext n second.made) second.made) at second.next));
    }

module _ {V : Type 0} (history : V → List Entry) (goes : V → V → Type 0) where
  -- a volume that wasn't asked
  pub later-nothing : (line after : ℕ) (volume : V) → goes volume volume
      → IsLater history goes line after volume volume
  later-nothing line after volume nowhere = record {
    is_later = nowhere;
    entered = entered-nothing line after (history volume);
  }

  -- one that was asked, and asked again
  pub later-then : ((a b c : V) → goes a b → goes b c → goes a c) → (line after : ℕ) (a b c : V)
      → IsLater history goes line after a b → IsLater history goes line after b c
      → IsLater history goes line after a c
  later-then further line after a b c first second = record {
    is_later = further a b c first.is_later second.is_later;
    entered = entered-then line after (history a) (history b) (history c) first.entered
        second.entered;
  }

-- ---- one volume of all

of-utilities : (line : ℕ) (entry : Entry) → IsOfCommand line entry
    → IsOfUtilities (line ∷ []) entry
of-utilities line entry own = (own.0, (0, omega arith, sym own.1))

module _ {V : Type 0} (history : V → List Entry) (goes : V → V → Type 0)
    (nowhere : (volume : V) → goes volume volume) (line : ℕ) (volumes : List V) (number : ℕ)
    (spare new : V) (within : number < length volumes)
    (later : IsLater history goes line (greatest_last history volumes)
    (get_or volumes number spare) new) where
  abbrev most : ℕ
  most = greatest_last history volumes

  abbrev old : V
  old = get_or volumes number spare

  abbrev after : List V
  after = set volumes number new

  abbrev made : List Entry
  made = later.entered.made

  -- the stamps come after the greatest of the last ones
  start-is : max (last_stamp 0 (history old)) most ≡ most
  start-is = omega (
    arith,
    at-most-greatest (λ (volume : V). last_stamp 0 (history volume)) volumes
        number spare within,
  )

  -- the volumes at a place, before and after
  record IsChanged (before now : V) : Type 0 where
    was : before ≡ old
    is : now ≡ new

  changed-or-same : (place : ℕ) (volume : V) → place < length volumes
      → IsChanged (get_or volumes place volume) (get_or after place volume)
      ⊎ (get_or after place volume ≡ get_or volumes place volume)
  changed-or-same place volume near = elim (cases_eq place number) [
    | inl same ↦ inl (record {
      was = ap (λ (n : ℕ). get_or volumes n volume) same
          ∙ get_or_default volumes number volume spare within;
      is = get_or-set_at volumes number place new volume same within;
    })
    | inr other ↦ inr (get_or-set_other volumes number place new volume other)
  ]

  grew-changed : (before now : V) → IsChanged before now → history now ≡ history before ++ made
  grew-changed before now changed = ap history changed.is ∙ later.entered.entries
      ∙ ap (λ (volume : V). history volume ++ made) (sym changed.was)

  run-changed : (before now : V) → IsChanged before now
      → IsRunOn history goes (line ∷ []) before now
  run-changed before now changed = record {
    is_later = subst (λ (volume : V). goes volume now) (sym changed.was)
        (subst (goes old) (sym changed.is) later.is_later);
    made = made;
    grew = grew-changed before now changed;
    own = All-weaker (IsOfCommand line) (IsOfUtilities (line ∷ [])) (of-utilities line) made
        later.entered.own;
  }

  run-same : (before now : V) → now ≡ before → IsRunOn history goes (line ∷ []) before now
  run-same before now same = subst (IsRunOn history goes (line ∷ []) before) (sym same)
      (one-nothing history goes (line ∷ []) before (nowhere before))

  gained-changed : (before now : V) → IsChanged before now
      → gained (history before) (history now) ≡ made
  gained-changed before now changed =
      gained-is (history before) (history now) made (grew-changed before now changed)

  gained-same : (before now : V) → now ≡ before → gained (history before) (history now) ≡ []
  gained-same before now same = gained-is (history before) (history now) []
      (ap history same ∙ sym (append-nil (history before)))

  abbrev IsAbove : Entry → Type 0
  IsAbove entry = most < entry.stamp

  made-stamped : IsStamped most made
  made-stamped = subst (λ (n : ℕ). IsStamped n made) start-is later.entered.stamped

  made-above : AreAbove most made
  made-above = above-stamped most made made-stamped

  made-next : All (ComesNext most made) made
  made-next = subst (λ (n : ℕ). All (ComesNext n made) made) start-is later.entered.next

  -- an entry of the volume at this place follows one of its own
  follows-own : (place : ℕ) (volume : V) (entry : Entry) → place < length volumes
      → IsChanged (get_or volumes place volume) (get_or after place volume)
      → FollowsOne made entry → FollowsOneOf (map history after) (with_volume place entry)
  follows-own place volume entry near changed follows =
      let before : V = get_or volumes place volume in
      let now : V = get_or after place volume in
      let near-after : place < length after = omega (arith, near, length-set volumes number new) in
      record {
        other = with_volume place follows.0;
        entered = entered-on history after place volume follows.0 near-after
            (subst (λ (them : List Entry). Contains them follows.0)
            (sym (grew-changed before now changed))
            (Contains-append_right (history before) made follows.0 follows.1));
        next = follows.2;
        shares = inl refl;
      }

  next-changed : (place : ℕ) (volume : V) (entry : Entry) → place < length volumes
      → IsChanged (get_or volumes place volume) (get_or after place volume)
      → Contains made entry
      → IsNext most entry ⊎ FollowsOneOf (map history after) (with_volume place entry)
  next-changed place volume entry near changed has =
      elim (All-contains (ComesNext most made) made entry made-next has) [
        | inl is ↦ inl is
        | inr follows ↦ inr (follows-own place volume entry near changed follows)
      ]

  -- ---- stamps that rise

  abbrev earlier : List (List Entry)
  earlier = map history volumes

  -- the history of the volume grew, and no other's did
  grew-one : Grew earlier (map history after) number made
  grew-one other =
      let at : history_at (map history after) other
      ≡ history_at (set earlier number (history new)) other =
      ap (λ (them : List (List Entry)). history_at them other)
      (map-set history volumes number new) in
      elim (cases_Bool (number == other)) [
        | inl is ↦
            let same : other ≡ number = sym ((Decides-eqb number other).0 is) in
            at ∙ get_or-set_at earlier number other (history new) [] same
            (omega (arith, within, length-map volumes history))
            ∙ later.entered.entries
            ∙ ap (λ (them : List Entry). them ++ made)
            (sym (ap (history_at earlier) same
            ∙ get_or-map history volumes number spare [] within))
            ∙ ap (λ (b : Bool). history_at earlier other ++ cond b made []) (sym is)
        | inr not ↦
            let differs : other ≡ number → ⊥ = λ same.
            (let yes = (Decides-eqb number other).1 (sym same) in (cc)) in
            at ∙ get_or-set_other earlier number other (history new) [] differs
            ∙ sym (append-nil (history_at earlier other))
            ∙ ap (λ (b : Bool). history_at earlier other ++ cond b made []) (sym not)
      ]

  module _ (risen : AreRisen history volumes) where
    stamped-changed : (place : ℕ) (volume : V) → place < length volumes
        → IsChanged (get_or volumes place volume) (get_or after place volume)
        → IsStamped 0 (history (get_or after place volume))
    stamped-changed place volume near changed =
        let before : V = get_or volumes place volume in
        let now : V = get_or after place volume in
        subst (IsStamped 0) (sym (grew-changed before now changed))
        (stamped-then most (history before) made (risen.each place volume near)
        (volume-up-to history volumes risen place volume near) made-stamped)

    stamped-each : All (λ (volume : V). IsStamped 0 (history volume)) after
    stamped-each place volume near =
        let within-old : place < length volumes =
        omega (arith, near, length-set volumes number new) in
        elim (changed-or-same place volume within-old) [
          | inl changed ↦ stamped-changed place volume within-old changed
          | inr same ↦ subst (λ (one : V). IsStamped 0 (history one)) (sym same)
              (risen.each place volume within-old)
        ]

    -- the utilities' entries are those of before, and then those of the command
    rising-then : AreRising (deck_after 0 earlier number made)
    rising-then =
        let had : List Numbered = of_deck 0 (merged earlier) in
        let own : List Entry = deck_entries 0 made in
        subst (IsStamped 0) (sym (map-append entry_of had (map (with_volume number) own)
        ∙ ap (λ (them : List Entry). map entry_of had ++ them) (entries_again number own)))
        (stamped-then most (map entry_of had) own risen.utilities
        (utilities-up-to history volumes risen)
        (stamped-kept (λ (entry : Entry). entry.unit.deck == 0) most made made-stamped))

    risen-after : AreRisen history after
    risen-after = record {
      each = stamped-each;
      utilities = subst AreRising (sym (deck_grows 0 number earlier (map history after) made
          grew-one (stamped-at history volumes risen) rising-then)) rising-then;
    }

  -- events of a command on one volume are a run on all of them
  pub run-one : AreRunOn history goes (line ∷ []) volumes after
  run-one = record {
    count = length-set volumes number new;
    each = λ place volume near. elim (changed-or-same place volume near) [
      | inl changed ↦ run-changed (get_or volumes place volume) (get_or after place volume) changed
      | inr same ↦ run-same (get_or volumes place volume) (get_or after place volume) same
    ];
    above = λ place volume near. elim (changed-or-same place volume near) [
      | inl changed ↦ All-same IsAbove
          (gained (history (get_or volumes place volume)) (history (get_or after place volume)))
          made (gained-changed (get_or volumes place volume) (get_or after place volume) changed)
          made-above
      | inr same ↦ All-same IsAbove
          (gained (history (get_or volumes place volume)) (history (get_or after place volume)))
          [] (gained-same (get_or volumes place volume) (get_or after place volume) same)
          (All-nil IsAbove)
    ];
    next = λ place volume entry near has. elim (changed-or-same place volume near) [
      | inl changed ↦ next-changed place volume entry near changed
          (subst (λ (them : List Entry). Contains them entry)
          (gained-changed (get_or volumes place volume) (get_or after place volume) changed) has)
      | inr same ↦ absurd (none-there
          (gained (history (get_or volumes place volume)) (history (get_or after place volume)))
          entry (gained-same (get_or volumes place volume) (get_or after place volume) same) has)
    ];
    rising = risen-after;
  }
