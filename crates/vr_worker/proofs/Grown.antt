-- What the decks of a step add to what was asked, by the histories of the volumes.
use Rattle.std.proofs.Common.{◌≡◌, ◌∙◌, ◌<◌, ◌==◌, ℕ, suc, List, [], ◌∷◌, ◌++◌, All, Result}
use Rattle.std.proofs.Common.{Ok, Err, ap, arith, drop, get_or, inl, inr, length, map, refl, subst}
use Rattle.std.proofs.Common.{sym, take}
use Rattle.std.specs.Prelude.{OnOk}
use Rattle.std.proofs.lemmas.Bool.{cases_lt}
use Rattle.std.proofs.lemmas.List.{append-nil, get_or_past, take-append-drop}
use Rattle.std.proofs.lemmas.List.Elements.{All-map, filter-append}
use Rattle.std.proofs.lemmas.Simd.{map-map}
use Rattle.vr_types.specs.declared.bound.Bound.{Bound}
use Rattle.vr_catalog.specs.declared.entry.CatEntry.{CatEntry}
use Rattle.vr_history.specs.Merged.{merged, part_of_deck}
use Rattle.vr_history.specs.declared.entry.Entry.{Entry}
use Rattle.vr_job_text.specs.declared.text.Deck.{Deck}
use Rattle.vr_trace.proofs.CallerLemmas.{deck_asked, deck_part}
use Rattle.vr_trace.proofs.CallerLemmas.{requests_of_deck}
use Rattle.vr_trace.specs.Laws.{AreRising, deck_entries, history_at, of_deck}
use Rattle.vr_worker.specs.Decks.{AreSince, HasAsked, numbers_of}
use Rattle.vr_worker.specs.Latched.{IsSince}
use Rattle.vr_worker.specs.declared.deck.DeckRun.{DeckRun}
use Rattle.vr_trace.specs.declared.no.RunNo.{RunNo}
use Rattle.vr_worker.proofs.Numbering.{IsAlone, none-asks, none-entered, none-or-alone}
use Rattle.vr_worker.proofs.RunLists.{run-at, run-numbers, runs-many}
use Rattle.vr_worker.specs.Asks.{all_ask, requests_of}
use Rattle.vr_worker.specs.Runs.{AreFresh, AreRuns, DeckAsks, HasAskedMore, HaveAsked, asks_in}
use Rattle.vr_worker.specs.Runs.{StayRising, asks_of, count_of, deck_numbers}

-- what is owed where a call is done
ok-map : {E : Type 0} (result : Result (Unit {0}) E) (P Q : Type 0) → (P → Q) → OnOk result P
    → OnOk result Q
ok-map (Ok value) P Q more is = more is
ok-map (Err fault) P Q more is = tt

pub ok-always : {E : Type 0} (result : Result (Unit {0}) E) (P : Type 0) → P → OnOk result P
ok-always (Ok value) P is = is
ok-always (Err fault) P is = tt

-- an element, where there is one
some-of : {X : Type 0} (those : List X) (place : ℕ) → place < length those → X
some-of [] place near = absurd (omega (arith, near))
some-of (one ∷ those) place near = one

-- f has of a list what g has of another, where it is so at each place
pub same-mapped : {V X : Type 0} (f g : V → X) (old new : List V) → length new ≡ length old
    → ((place : ℕ) (volume : V) → place < length old
    → f (get_or new place volume) ≡ g (get_or old place volume)) → map f new ≡ map g old
same-mapped f g [] [] count same = refl
same-mapped f g [] (one ∷ new) count same = absurd (omega (arith, count))
same-mapped f g (volume ∷ old) [] count same = absurd (omega (arith, count))
same-mapped {V} {X} f g (volume ∷ old) (one ∷ new) count same =
    ap (λ (x : X). x ∷ map f new) (same 0 volume (omega arith))
    ∙ ap (λ (them : List X). g volume ∷ them) (same-mapped f g old new (omega (arith, count))
    (λ place other near. same (suc place) other (omega (arith, near))))

module _ {V : Type 0} (entries : V → List Entry) where
  -- a deck's entries in the merged history are the same where those on each volume are
  pub same-entries : (number : ℕ) (old new : List V) → length new ≡ length old
      → ((place : ℕ) (volume : V) → place < length old
      → deck_entries number (entries (get_or new place volume))
      ≡ deck_entries number (entries (get_or old place volume)))
      → of_deck number (merged (map entries new)) ≡ of_deck number (merged (map entries old))
  same-entries number old new count same =
      let of : V → List Entry = λ volume. deck_entries number (entries volume) in
      deck_part number (map entries new)
      ∙ ap merged (map-map (deck_entries number) entries new ∙ same-mapped of of old new count same
      ∙ sym (map-map (deck_entries number) entries old))
      ∙ sym (deck_part number (map entries old))

  module _ (number : ℕ) (volumes : List V)
      (none : All (λ (volume : V). deck_entries number (entries volume) ≡ []) volumes) where
    nothing-at : (volume : ℕ) → deck_entries number (history_at (map entries volumes) volume) ≡ []
    nothing-at volume = elim (cases_lt volume (length (map entries volumes))) [
      | inl near ↦ All-map (λ (history : List Entry). deck_entries number history ≡ []) entries
          volumes none volume [] near
      | inr far ↦ ap (deck_entries number) (get_or_past (map entries volumes) volume [] far)
    ]

    -- a deck that entered nothing on any volume has no entry in the merged history
    no-entries : of_deck number (merged (map entries volumes)) ≡ []
    no-entries = deck_asked number (map entries volumes) [] tt (λ volume. sym (nothing-at volume))

    -- so it asked nothing
    pub no-part : part_of_deck number (merged (map entries volumes)) ≡ []
    no-part = requests_of_deck number (merged (map entries volumes))
        ∙ ap (part_of_deck number) no-entries

    -- and the stamps of its entries rise, as there are none
    pub none-rising : AreRising (of_deck number (merged (map entries volumes)))
    none-rising = subst AreRising (sym no-entries) tt

  module _ (follows : V → V → Type 0) (catalogs : List (List CatEntry)) (decks : List Deck)
      (runs : List DeckRun) (are : AreRuns catalogs decks runs) (volumes : List V)
      (fresh : AreFresh entries decks volumes) (result : List V)
      (since : AreSince entries follows (numbers_of runs) volumes result)
      (end : Result (Unit {0}) RunNo) (asked : All (HasAsked end (map entries result)) runs) where
    -- the volumes are since, by the numbers of the decks
    pub since-decks : AreSince entries follows (deck_numbers decks) volumes result
    since-decks = subst (λ (numbers : List ℕ). AreSince entries follows numbers volumes result)
        (run-numbers catalogs decks runs are) since

    -- a number that no deck has entered nothing more
    same-then : (number : ℕ) → count_of decks number ≡ 0
        → of_deck number (merged (map entries result))
        ≡ of_deck number (merged (map entries volumes))
    same-then number none = same-entries number volumes result since.count (λ place volume near.
        let it : IsSince entries follows (deck_numbers decks)
        (get_or volumes place volume) (get_or result place volume) =
        since-decks.each place volume near in
        ap (deck_entries number) it.grew
        ∙ filter-append (λ (entry : Entry). entry.unit.deck == number)
        (entries (get_or volumes place volume)) it.more
        ∙ ap (λ (them : List Entry).
        deck_entries number (entries (get_or volumes place volume)) ++ them)
        (none-entered decks number it.more none it.own)
        ∙ append-nil (deck_entries number (entries (get_or volumes place volume))))

    -- so it asked nothing more
    stayed : (number : ℕ) → count_of decks number ≡ 0
        → HasAskedMore end (all_ask (requests_of catalogs) decks number)
        (part_of_deck number (merged (map entries volumes)))
        (part_of_deck number (merged (map entries result)))
    stayed number none =
        let nothing : all_ask (requests_of catalogs) decks number ≡ [] =
        none-asks catalogs decks number none in
        record {
          first = [];
          asked = requests_of_deck number (merged (map entries result))
              ∙ ap (part_of_deck number) (same-then number none)
              ∙ sym (requests_of_deck number (merged (map entries volumes)))
              ∙ sym (append-nil (part_of_deck number (merged (map entries volumes))));
          prefix = (all_ask (requests_of catalogs) decks number, refl);
          whole = ok-always end ([] ≡ all_ask (requests_of catalogs) decks number) (sym nothing);
        }

    -- the deck of the number runs at its place
    own-number : (number place : ℕ) → IsAlone catalogs decks number place → (run : DeckRun)
        → (get_or runs place run).number ≡ number
    own-number number place it run =
        let deck : Deck = some-of decks place it.near in
        ap (λ (asks : DeckAsks). asks.number)
        (run-at catalogs decks runs are place run deck it.near) ∙ it.own deck

    -- as it ran
    ran : (number place : ℕ) → IsAlone catalogs decks number place
        → HasAskedMore end (all_ask (requests_of catalogs) decks number)
        (part_of_deck number (merged (map entries volumes)))
        (part_of_deck number (merged (map entries result)))
    ran number place it =
        let within : place < length runs =
        omega (arith, it.near, runs-many catalogs decks runs are) in
        let run : DeckRun = some-of runs place within in
        let deck : Deck = some-of decks place it.near in
        let requests : List Bound = (get_or runs place run).requests.items in
        let at : asks_in (get_or runs place run) ≡ asks_of catalogs (get_or decks place deck) =
        run-at catalogs decks runs are place run deck it.near in
        let own : (get_or runs place run).number ≡ number = own-number number place it run in
        let all : requests ≡ all_ask (requests_of catalogs) decks number =
        ap (λ (asks : DeckAsks). asks.requests) at ∙ sym (it.asks deck) in
        let has : HasAsked end (map entries result) (get_or runs place run) =
        asked place run within in
        record {
          first = take has.count requests;
          asked = ap (λ (n : ℕ). part_of_deck n (merged (map entries result))) (sym own)
              ∙ has.asked
              ∙ ap (λ (them : List Bound). them ++ take has.count requests)
              (sym (no-part number volumes (subst (λ (n : ℕ). All (λ (volume : V).
              deck_entries n (entries volume) ≡ []) volumes) (it.own deck)
              (fresh.fresh place deck it.near))));
          prefix = (drop has.count requests, take-append-drop has.count requests ∙ all);
          whole = ok-map end (take has.count requests ≡ requests)
              (take has.count requests ≡ all_ask (requests_of catalogs) decks number)
              (λ done. done ∙ all) has.whole;
        }

    -- so each number asked the first of what the decks request by it
    pub have-asked : HaveAsked catalogs decks end (map entries volumes) (map entries result)
    have-asked number = elim (none-or-alone catalogs decks number (fresh.once number)) [
      | inl none ↦ stayed number none
      | inr (place, it) ↦ ran number place it
    ]

    -- at stamps that rise
    ran-rising : (number place : ℕ) → IsAlone catalogs decks number place
        → AreRising (of_deck number (merged (map entries result)))
    ran-rising number place it =
        let within : place < length runs =
        omega (arith, it.near, runs-many catalogs decks runs are) in
        let run : DeckRun = some-of runs place within in
        subst (λ (n : ℕ). AreRising (of_deck n (merged (map entries result))))
        (own-number number place it run) (asked place run within).rising

    -- so the stamps of each number rise, where they did before
    pub stay-rising : StayRising (map entries volumes) (map entries result)
    stay-rising number rose = elim (none-or-alone catalogs decks number (fresh.once number)) [
      | inl none ↦ subst AreRising (sym (same-then number none)) rose
      | inr (place, it) ↦ ran-rising number place it
    ]
