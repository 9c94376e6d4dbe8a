-- Each step of a ledger's table keeps the rule.
use Rattle.std.proofs.Common.{◌≡◌, ◌≢◌, ◌⊎◌, ℕ, zero, suc, ◌<◌, List, [], ◌∷◌, ◌++◌, length}
use Rattle.std.proofs.Common.{append-nil, append_assoc, eqb, get_or, set, sym, refl, ap, ◌∙◌, subst}
use Rattle.std.proofs.Common.{inl, inr, ⊎_elim, arith}
use Rattle.std.specs.Prelude.{All}
use Rattle.std.proofs.lemmas.Option.{none-some}
use mathlib.Core.Option.{some, none, some-injective, some-ne-none}
use lib.ListN.{get_elem?}
use prog.Atomic.{either}
use Rattle.std.specs.declared.snapshot.Snapshot.{Snapshot}
use Rattle.atomic_table.specs.Table.{State, Act, step, keeps, Valid, stepped, carried_after}
use Rattle.atomic_table.specs.Table.{Me, Allows, Splits, Joins, opening}
use Rattle.atomic_table.proofs.Lists.{at_set, set_here, set_else, at_longer, exchanged}
use Rattle.vr_history.specs.declared.entry.Entry.{Entry}
use Rattle.vr_history.specs.Kept.{Kept}
use Rattle.vr_ledger.specs.declared.view.Said.{Said}
use Rattle.vr_ledger.specs.declared.view.Said.TheVariants.{Enters, Grows as GrowsTo}
use Rattle.vr_ledger.specs.declared.view.Part.{Part}
use Rattle.vr_ledger.specs.declared.view.Whole.{Whole}
use Rattle.vr_ledger.specs.declared.view.View.{View}
use Rattle.vr_ledger.specs.declared.view.View.TheVariants.{OfLedger, OfTurn, Spent}
use Rattle.vr_ledger.specs.Decks.{times}
use Rattle.vr_ledger.specs.Entries.{HasGrown, IsOf, entries_of}
use Rattle.vr_ledger.specs.Views.{IsAllOf, whole_in, part_in, part_joined, HasTurnIn}
use Rattle.vr_ledger.specs.Views.{first_view, admitted, taken_in, grown, settled, handed_out}
use Rattle.vr_ledger.specs.Views.{with_turn, without_turn, turn_of, met, met_whole}
use Rattle.vr_ledger.specs.Rule.{HasView, IsKeptAt, IsKept}
use Rattle.vr_ledger.specs.Plays.{Admits, Grows, IsIn, Looks, Refutes, Settles}
use Rattle.vr_ledger.proofs.Counts.{times-cons, one_if-same, times-without_same}
use Rattle.vr_ledger.proofs.Counts.{times-without_other}
use Rattle.vr_ledger.proofs.OwnEntries.{entries_of-kept}

abbrev St : Type 0
St = State Said View

-- a view is of one kind
ledger_no_turn : (now : Whole) (known : Part) → OfLedger now ≡ OfTurn known → ⊥
ledger_no_turn now known same = cc

spent_no_turn : (known : Part) → Spent ≡ OfTurn known → ⊥
spent_no_turn known same = cc

spent_no_ledger : (now : Whole) → Spent ≡ OfLedger now → ⊥
spent_no_ledger now same = cc

-- there is a seat of each number at which a view is found
within : (views : List View) (seat : ℕ) (view : View) → get_elem? views seat ≡ some view
    → seat < length views
within [] seat view there = absurd (some-ne-none view (sym there))
within (first ∷ views) zero view there = omega arith
within (first ∷ views) (suc seat) view there =
    let rest = within views seat view there in omega arith

-- the last view is at the end
at_end : (views : List View) (last view : View) (seat : ℕ)
    → get_elem? (views ++ last ∷ []) seat ≡ some view
    → (get_elem? views seat ≡ some view) ⊎ ((seat ≡ length views) × (last ≡ view))
at_end [] last view zero there = inr (refl, some-injective last view there)
at_end [] last view (suc seat) there = absurd (some-ne-none view (sym there))
at_end (first ∷ views) last view zero there = inl there
at_end (first ∷ views) last view (suc seat) there = ⊎_elim
    (λ (before : get_elem? views seat ≡ some view). inl before)
    (λ (end : (seat ≡ length views) × (last ≡ view)). inr (ap suc end.0, end.1))
    (at_end views last view seat there)

-- the rule, as the ledger's own seat sees it
at_seat : (state : St) (seat : ℕ) (now : Whole) → IsKept state → HasView state seat (OfLedger now)
    → IsKeptAt state seat now
at_seat state seat now kept there =
    let same : seat ≡ kept.0 = kept.2.alone seat now there in
    let is : now ≡ kept.1 = ap whole_in (some-injective (OfLedger now) (OfLedger kept.1)
    (sym there ∙ (ap (λ (k : ℕ). get_elem? state.views k) same ∙ kept.2.there))) in
    subst (λ (k : ℕ). IsKeptAt state k now) (sym same)
    (subst (λ (w : Whole). IsKeptAt state kept.0 w) (sym is) kept.2)

-- a turn that is found after the ledger's own view changed was there before
turn_before : (views : List View) (seat turn : ℕ) (next : Whole) (known : Part)
    → get_elem? (set views seat (OfLedger next)) turn ≡ some (OfTurn known)
    → get_elem? views turn ≡ some (OfTurn known)
turn_before views seat turn next known there = ⊎_elim
    (λ (here : (turn ≡ seat) × (OfLedger next ≡ OfTurn known)). absurd
    (ledger_no_turn next known here.1))
    (λ (else : (turn ≢ seat) × (get_elem? views turn ≡ some (OfTurn known))). else.1)
    (at_set views seat turn (OfLedger next) (OfTurn known) there)

-- a history that goes on by nothing, and by more
not-grown : (history : List Entry) → HasGrown history history
not-grown history = ([], sym (append-nil history))

grown-then : (old now after made : List Entry) → after ≡ now ++ made → HasGrown old now
    → HasGrown old after
grown-then old now after made goes grew = (
  grew.0 ++ made,
  goes ∙ ap (λ (them : List Entry). them ++ made) grew.1 ∙ append_assoc old grew.0 made,
)

-- what is owed of a turn
abbrev IsTurnOf : Whole → Part → Type 0
IsTurnOf now known = IsAllOf now.history known × (0 < times known.deck now.out)

abbrev IsTurnIn : Whole → Type 0
IsTurnIn now = HasTurnIn now
    → IsAllOf now.history (part_joined now) × (times (part_joined now).deck now.out ≡ 0)

module _ (state : St) (seat : ℕ) (now : Whole) (held : IsKeptAt state seat now) where
  -- a seat that knows a whole, after the ledger's own view changed, is the ledger's own
  alone_after : (other : ℕ) (next whole : Whole)
      → get_elem? (set state.views seat (OfLedger next)) other ≡ some (OfLedger whole)
      → other ≡ seat
  alone_after other next whole there = ⊎_elim
      (λ (here : (other ≡ seat) × (OfLedger next ≡ OfLedger whole)). here.0)
      (λ (else : (other ≢ seat) × (get_elem? state.views other ≡ some (OfLedger whole))). held.alone
      other whole else.1)
      (at_set state.views seat other (OfLedger next) (OfLedger whole) there)

  -- the ledger's own view changes, and the word with it
  goes_on : (next : Whole) (words : List ℕ) → words ≡ length next.history ∷ []
      → ((known : Part) → IsTurnOf now known → IsTurnOf next known) → IsTurnIn next
      → IsKept (record {
        words = words;
        homes = state.homes;
        views = set state.views seat (OfLedger next);
      })
  goes_on next words counted turns joined = (
    seat,
    next,
    record {
      there = set_here state.views seat (OfLedger next)
          (within state.views seat (OfLedger now) held.there);
      alone = λ other whole there. alone_after other next whole there;
      word = counted;
      turns = λ turn known there. turns known (held.turns turn known
          (turn_before state.views seat turn next known there));
      once = λ turn other known more there that same. held.once turn other known more
          (turn_before state.views seat turn next known there)
          (turn_before state.views seat other next more that) same;
      joined = joined;
    },
  )

  -- the word is the number of the entries
  counted_words : (count : ℕ) → set state.words 0 count ≡ count ∷ []
  counted_words count = ap (λ (words : List ℕ). set words 0 count) held.word

  found_word : get_or state.words 0 0 ≡ length now.history
  found_word = ap (λ (words : List ℕ). get_or words 0 0) held.word

-- the seat's view is that of a ledger's seat
abbrev IsOfLedger : View → Type 0
IsOfLedger view = view ≡ OfLedger (whole_in view)

module _ (slots id count : ℕ) (view : View) (carried : List (ℕ × Said)) (is : IsOfLedger view)
    (counted : count ≡ length (whole_in view).history) where
  abbrev now : Whole
  now = whole_in view

  abbrev Goes : St → (ℕ → Me Said View → Type 0) → ℕ → Type 0
  Goes state then word = (new : View) × (a : Act Said) × Valid state.homes carried a
      × IsKept (stepped state 0 word id carried new a)
      × then (get_or state.words 0 0) (new, carried_after carried a)

  held_now : (state : St) → IsKept state → get_elem? state.views id ≡ some view
      → IsKeptAt state id now
  held_now state kept at = at_seat state id now kept (at ∙ ap some is)

  -- a deck's turn begins
  pub admits : (deck : ℕ) → times deck now.out ≡ 0
      → Allows IsKept slots id (view, carried) 0 (λ word. either (eqb word count) count word)
      (Admits (step slots 0 count count (some (Enters deck))) (view, carried))
  admits deck free state kept wide at small =
      let held = held_now state kept at in
      let then = Admits (step slots 0 count count (some (Enters deck))) (view, carried) in
      exchanged (get_or state.words 0 0) count count (Goes state then)
      (λ hit. (
        OfLedger (admitted deck now),
        keeps,
        tt,
        goes_on state id now held (admitted deck now) (set state.words 0 count)
            (counted_words state id now held count ∙ ap (λ (n : ℕ). n ∷ []) counted)
            (λ known turn. turn) (λ joined. ((refl, not-grown now.history), free)),
        refl,
      ))
      (λ miss. absurd (miss (found_word state id now held ∙ sym counted)))

  -- the history goes on, with entries of the deck whose turn is in
  pub grows : (history : Snapshot Kept) (made : List Entry) (more : ℕ) → HasTurnIn now
      → history.value.entries ≡ now.history ++ made → All (IsOf (part_joined now).deck) made
      → more ≡ length history.value.entries
      → Allows IsKept slots id (view, carried) 0 (λ word. either (eqb word count) more word)
      (Grows (step slots 0 count more (some (GrowsTo history))) (view, carried))
  grows history made more joined goes all long state kept wide at small =
      let held = held_now state kept at in
      let after : List Entry = history.value.entries in
      let known : Part = part_joined now in
      let free : times known.deck now.out ≡ 0 = (held.joined joined).1 in
      let then = Grows (step slots 0 count more (some (GrowsTo history))) (view, carried) in
      let others : (other : Part) → IsTurnOf now other → IsTurnOf (grown after now) other =
      λ other turn.
      let apart : known.deck ≢ other.deck = λ same. omega (
        arith,
        free,
        subst (λ (deck : ℕ). 0 < times deck now.out) (sym same) turn.1,
      ) in (
        (
          turn.0.0 ∙ (sym (entries_of-kept other.deck known.deck now.history made apart all)
              ∙ ap (entries_of other.deck) (sym goes)),
          grown-then other.history now.history after made goes turn.0.1,
        ),
        turn.1,
      ) in
      exchanged (get_or state.words 0 0) count more (Goes state then)
      (λ hit. (
        OfLedger (grown after now),
        keeps,
        tt,
        goes_on state id now held (grown after now) (set state.words 0 more)
            (counted_words state id now held more ∙ ap (λ (n : ℕ). n ∷ []) long)
            others (λ is_in. ((refl, not-grown after), free)),
        (refl, λ is_in. (held.joined is_in).0),
      ))
      (λ miss. absurd (miss (found_word state id now held ∙ sym counted)))

  -- the turn that is in shows what it knows
  pub looks : Allows IsKept slots id (view, carried) 0 (λ word. word)
      (Looks (step slots 0 0 0 none) (view, carried))
  looks state kept wide at small =
      let held = held_now state kept at in (
        view,
        keeps,
        tt,
        subst (λ (seen : View). IsKept (record {
          words = set state.words 0 (get_or state.words 0 0);
          homes = state.homes;
          views = set state.views id seen;
        })) (sym is) (goes_on state id now held now (set state.words 0 (get_or state.words 0 0))
            (counted_words state id now held (get_or state.words 0 0)
            ∙ ap (λ (n : ℕ). n ∷ []) (found_word state id now held))
            (λ known turn. turn) held.joined),
        (refl, λ joined. (held.joined joined).0),
      )

  -- the turn that is in isn't out
  pub refutes : Allows IsKept slots id (view, carried) 0 (λ word. word)
      (Refutes (step slots 0 0 0 none) (view, carried))
  refutes state kept wide at small =
      let held = held_now state kept at in (
        view,
        keeps,
        tt,
        subst (λ (seen : View). IsKept (record {
          words = set state.words 0 (get_or state.words 0 0);
          homes = state.homes;
          views = set state.views id seen;
        })) (sym is) (goes_on state id now held now (set state.words 0 (get_or state.words 0 0))
            (counted_words state id now held (get_or state.words 0 0)
            ∙ ap (λ (n : ℕ). n ∷ []) (found_word state id now held))
            (λ known turn. turn) held.joined),
        (refl, λ joined. (held.joined joined).1),
      )

  -- the turn that is in ends
  pub settles : Allows IsKept slots id (view, carried) 0 (λ word. word)
      (Settles (step slots 0 0 0 none) (view, carried))
  settles state kept wide at small =
      let held = held_now state kept at in (
        OfLedger (settled now),
        keeps,
        tt,
        goes_on state id now held (settled now) (set state.words 0 (get_or state.words 0 0))
            (counted_words state id now held (get_or state.words 0 0)
            ∙ ap (λ (n : ℕ). n ∷ []) (found_word state id now held))
            (λ known turn. turn) (λ joined. absurd (none-some (part_joined (settled now)) joined)),
        (refl, λ joined. (held.joined joined).0),
      )

-- a turn comes in
pub joins : (id other : ℕ) (view turn : View) → IsOfLedger view → turn ≡ OfTurn (part_in turn)
    → Joins IsKept id view other turn (with_turn view turn) Spent
joins id other view turn is of_turn state kept at apart there =
    let now : Whole = whole_in view in
    let known : Part = part_in turn in
    let next : Whole = taken_in known now in
    let held = at_seat state id now kept (at ∙ ap some is) in
    let views : List View = set state.views id (OfLedger next) in
    let was : get_elem? state.views other ≡ some (OfTurn known) =
    turn_before state.views id other next known (there ∙ ap some of_turn) in
    let all = held.turns other known was in
    -- what is found afterwards is not the seat that was joined
    let left : (seat : ℕ) (found : View) → (Spent ≡ found → ⊥)
    → get_elem? (set views other Spent) seat ≡ some found
    → (seat ≢ other) × (get_elem? views seat ≡ some found) =
    λ seat found kind here. ⊎_elim
    (λ (spent : (seat ≡ other) × (Spent ≡ found)). absurd (kind spent.1))
    (λ (else : (seat ≢ other) × (get_elem? views seat ≡ some found)). else)
    (at_set views other seat Spent found here) in
    let before : (seat : ℕ) (one : Part)
    → get_elem? (set views other Spent) seat ≡ some (OfTurn one)
    → (seat ≢ other) × (get_elem? state.views seat ≡ some (OfTurn one)) =
    λ seat one here. let else = left seat (OfTurn one) (spent_no_turn one) here in
    (else.0, turn_before state.views id seat next one else.1) in (
      id,
      next,
      record {
        there = set_else views other id Spent (λ same. apart (sym same))
            ∙ set_here state.views id (OfLedger next)
            (within state.views id (OfLedger now) held.there);
        alone = λ seat whole here. alone_after state id now held seat next whole
            (left seat (OfLedger whole) (spent_no_ledger whole) here).1;
        word = held.word;
        turns = λ seat one here. let old = before seat one here in
            let turn = held.turns seat one old.1 in
            let others : one.deck ≢ known.deck =
            λ same. old.0 (held.once seat other one known old.1 was same) in
            (turn.0, omega (arith, times-without_other one.deck known.deck now.out others, turn.1));
        once = λ seat more one two here that same. held.once seat more one two
            (before seat one here).1 (before more two that).1 same;
        joined = λ is_in. (all.0, times-without_same known.deck now.out);
      },
    )

-- a second seat that knows the whole doesn't come in: there is none
pub meets : (id other : ℕ) (view twin : View) → IsOfLedger view → IsOfLedger twin
    → Joins IsKept id view other twin (met view twin) Spent
meets id other view twin is of_twin state kept at apart there =
    let now : Whole = whole_in view in
    let held = at_seat state id now kept (at ∙ ap some is) in
    absurd (apart (alone_after state id now held other (met_whole now) (whole_in twin)
    (there ∙ ap some of_twin)))

-- since the turn that would be in then is out
pub met-out : (now : Whole) → IsIn (met_whole now) → ⊥
met-out now is_in = omega (arith, times-cons 0 0 now.out, one_if-same 0, is_in refl)

-- a turn goes out
pub splits : (id : ℕ) (view : View) → IsOfLedger view → HasTurnIn (whole_in view)
    → Splits IsKept id view (without_turn view) (turn_of view)
splits id view is joined state kept at =
    let now : Whole = whole_in view in
    let known : Part = part_joined now in
    let next : Whole = handed_out now in
    let held = at_seat state id now kept (at ∙ ap some is) in
    let mine = held.joined joined in
    let views : List View = set state.views id (OfLedger next) in
    let once_out : times known.deck next.out ≡ 1 = omega (
      arith,
      times-cons known.deck known.deck now.out,
      one_if-same known.deck,
      mine.1,
    ) in
    -- no turn that was out is of that deck
    let others : (seat : ℕ) (one : Part) → get_elem? state.views seat ≡ some (OfTurn one)
    → one.deck ≢ known.deck =
    λ seat one here same. omega (
      arith,
      mine.1,
      subst (λ (deck : ℕ). 0 < times deck now.out) same (held.turns seat one here).1,
    ) in
    -- a turn that is found was out, or is the new one
    let either_turn : (seat : ℕ) (one : Part)
    → get_elem? (views ++ OfTurn known ∷ []) seat ≡ some (OfTurn one)
    → (get_elem? state.views seat ≡ some (OfTurn one))
    ⊎ ((seat ≡ length views) × (known ≡ one)) =
    λ seat one here. ⊎_elim
    (λ (old : get_elem? views seat ≡ some (OfTurn one)). inl
    (turn_before state.views id seat next one old))
    (λ (new : (seat ≡ length views) × (OfTurn known ≡ OfTurn one)). inr (new.0, ap part_in new.1))
    (at_end views (OfTurn known) (OfTurn one) seat here) in (
      id,
      next,
      record {
        there = at_longer views (OfTurn known ∷ []) id (OfLedger next)
            (set_here state.views id (OfLedger next)
            (within state.views id (OfLedger now) held.there));
        alone = λ seat whole here. ⊎_elim
            (λ (old : get_elem? views seat ≡ some (OfLedger whole)). alone_after state id now held
            seat next whole old)
            (λ (new : (seat ≡ length views) × (OfTurn known ≡ OfLedger whole)). absurd
            (ledger_no_turn whole known (sym new.1)))
            (at_end views (OfTurn known) (OfLedger whole) seat here);
        word = held.word;
        turns = λ seat one here. ⊎_elim
            (λ (old : get_elem? state.views seat ≡ some (OfTurn one)).
            let turn = held.turns seat one old in
            (turn.0, omega (arith, times-cons one.deck known.deck now.out, turn.1)))
            (λ (new : (seat ≡ length views) × (known ≡ one)). subst (IsTurnOf next) new.1
            (mine.0, omega (arith, once_out)))
            (either_turn seat one here);
        once = λ seat more one two here that same. ⊎_elim
            (λ (old : get_elem? state.views seat ≡ some (OfTurn one)). ⊎_elim
            (λ (also : get_elem? state.views more ≡ some (OfTurn two)).
            held.once seat more one two old also same)
            (λ (new : (more ≡ length views) × (known ≡ two)). absurd (others seat one old
            (same ∙ ap (λ (found : Part). found.deck) (sym new.1))))
            (either_turn more two that))
            (λ (new : (seat ≡ length views) × (known ≡ one)). ⊎_elim
            (λ (old : get_elem? state.views more ≡ some (OfTurn two)). absurd (others more two old
            (sym same ∙ ap (λ (found : Part). found.deck) (sym new.1))))
            (λ (also : (more ≡ length views) × (known ≡ two)). new.0 ∙ sym also.0)
            (either_turn more two that))
            (either_turn seat one here);
        joined = λ is_in. absurd (none-some (part_joined next) is_in);
      },
    )

-- a new table meets the rule
pub opens : (history : List Entry) (count : ℕ) → count ≡ length history
    → IsKept (opening (count ∷ []) [] (first_view history))
opens history count counted =
    let now : Whole = whole_in (first_view history) in (
      0,
      now,
      record {
        there = refl;
        alone = only;
        word = ap (λ (n : ℕ). n ∷ []) counted;
        turns = λ turn known there. absurd (no_turn turn known there);
        once = λ turn other known more there that same. absurd (no_turn turn known there);
        joined = λ is_in. absurd (none-some (part_joined now) is_in);
      },
    )
  where
    only : (other : ℕ) (whole : Whole)
        → get_elem? (first_view history ∷ []) other ≡ some (OfLedger whole) → other ≡ 0
    only zero whole there = refl
    only (suc other) whole there = absurd (some-ne-none (OfLedger whole) (sym there))

    no_turn : (turn : ℕ) (known : Part)
        → get_elem? (first_view history ∷ []) turn ≡ some (OfTurn known) → ⊥
    no_turn zero known there =
        ledger_no_turn (whole_in (first_view history)) known
        (some-injective (first_view history) (OfTurn known) there)
    no_turn (suc turn) known there = some-ne-none (OfTurn known) (sym there)
