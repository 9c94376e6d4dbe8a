-- What an event under a latch leaves of the deck's turn and last stamp, and of what the latch guards.
use Rattle.std.proofs.Common.{◌≡◌, ◌∙◌, ℕ, ◌<◌, ◌≤◌, List, [], ◌∷◌, ◌++◌, All, Contains, Option, Some, None}
use Rattle.std.proofs.Common.{Bool, refl, sym, ap, subst, arith, inl, inr, map, max, append_assoc}
use Rattle.std.specs.Prelude.{◌⊎◌, IfSome}
use Rattle.std.proofs.lemmas.Bool.{cases_lt}
use Rattle.std.proofs.lemmas.List.Elements.{All-append, All-weaker, Contains-append_right}
use Rattle.vr_types.specs.declared.request.Request.{Request}
use Rattle.vr_history.specs.Merged.{IsStamped, last_stamp, part_of_deck}
use Rattle.vr_history.specs.declared.entry.Entry.{Entry}
use Rattle.vr_ledger.proofs.CallerLemmas.{entries_of-all, entries_of-append}
use Rattle.vr_ledger.specs.Entries.{HasGrown, IsOf}
use Rattle.vr_ledger.specs.Turn.{TurnNow}
use Rattle.vr_trace.specs.Laws.{deck_entries}
use Rattle.vr_trace.specs.Numbering.{with_volume}
use Rattle.vr_worker.specs.Asked.{HasEntered, MayGoOn, bound_to, if_done}
use Rattle.vr_trace.specs.Growing.{FollowsOne, IsNext}
use Rattle.vr_worker.specs.Latched.{ComesNext, HasTaken, IsOfOne, IsSince}
use Rattle.vr_worker.specs.Latched.ComesNext.{AfterLast, AfterVolume}
use Rattle.vr_worker.proofs.Nexts.{follows-more, grown-on, last-entry, still-there}

-- stamps above one are above a lesser one
pub stamped-above : (low high : ℕ) (entries : List Entry) → low ≤ high → IsStamped high entries
    → IsStamped low entries
stamped-above low high [] less is = tt
stamped-above low high (entry ∷ entries) less is = (omega (arith, less, is.0), is.1)

pub last-append : (before : ℕ) (entries more : List Entry)
    → last_stamp before (entries ++ more) ≡ last_stamp (last_stamp before entries) more
last-append before [] more = refl
last-append before (entry ∷ entries) more = last-append entry.stamp entries more

-- the last of stamps that rise is no less than the one before them
pub last-above : (before : ℕ) (entries : List Entry) → IsStamped before entries
    → before ≤ last_stamp before entries
last-above before [] is = omega arith
last-above before (entry ∷ entries) is =
    omega (arith, is.0, last-above entry.stamp entries is.1)

-- where the last stamp of a volume rose, it is that of the deck
pub last-rose : (before after : ℕ) (made : List Entry) → before < last_stamp before made
    → last_stamp before made ≡ last_stamp after made
last-rose before after [] rose = absurd (omega (arith, rose))
last-rose before after (entry ∷ made) rose = refl

-- where it didn't, nothing was entered
pub last-stayed : (before after : ℕ) (made : List Entry) → IsStamped before made
    → last_stamp before made ≤ before → after ≡ last_stamp after made
last-stayed before after [] is stayed = refl
last-stayed before after (entry ∷ made) is stayed =
    absurd (omega (arith, stayed, is.0, last-above entry.stamp made is.1))

all-of-one : (decks : List ℕ) (deck : ℕ) (made : List Entry) → Contains decks deck
    → All (IsOf deck) made → All (IsOfOne decks) made
all-of-one decks deck made named own k entry near =
    subst (Contains decks) (sym (own k entry near)) named

-- a volume that goes on is since the step began
pub since-more : {V : Type 0} (entries : V → List Entry) (follows : V → V → Type 0)
    (decks : List ℕ) (deck : ℕ) (start : Option V) (old new : V) (made : List Entry)
    → ((first : V) → follows first old → follows first new) → entries new ≡ entries old ++ made
    → Contains decks deck → All (IsOf deck) made
    → IfSome start (λ (first : V). IsSince entries follows decks first old)
    → IfSome start (λ (first : V). IsSince entries follows decks first new)
since-more entries follows decks deck None old new made later grew named own is = is
since-more entries follows decks deck (Some first) old new made later grew named own is = record {
  is_later = later first is.is_later;
  more = is.more ++ made;
  grew = grew ∙ ap (λ (them : List Entry). them ++ made) is.grew
      ∙ append_assoc (entries first) is.more made;
  own = All-append (IsOfOne decks) is.more made is.own (all-of-one decks deck made named own);
}

module _ (number deck line : ℕ) (request : Request) (after : ℕ) (done : Bool)
    (old new : List Entry) (entered : HasEntered number deck line request after done old new) where
  grown-last : last_stamp 0 new ≡ last_stamp (last_stamp 0 old) entered.made
  grown-last = ap (last_stamp 0) entered.entries ∙ last-append 0 old entered.made

  above-volume : IsStamped (last_stamp 0 old) entered.made
  above-volume = stamped-above (last_stamp 0 old) (max (last_stamp 0 old) after) entered.made
      (omega arith) entered.stamped

  pub last-then : (before now : ℕ) → before ≡ last_stamp 0 old → now ≡ last_stamp 0 new
      → before < now → now ≡ last_stamp after entered.made
  last-then before now was is rose = is ∙ grown-last
      ∙ last-rose (last_stamp 0 old) after entered.made
      (omega (arith, was, is, grown-last, rose))

  pub last-else : (before now : ℕ) → before ≡ last_stamp 0 old → now ≡ last_stamp 0 new
      → now ≤ before → after ≡ last_stamp after entered.made
  last-else before now was is stayed = last-stayed (last_stamp 0 old) after entered.made above-volume
      (omega (arith, was, is, grown-last, stayed))

  went-on : HasGrown old new
  went-on = (entered.made, entered.entries)

  -- the stamps come next after the deck's last one, or after those of the volume
  next-entered : (entry : Entry)
      → IsNext (max (last_stamp 0 old) after) entry ⊎ FollowsOne entered.made entry
      → ComesNext after entered.made new entry
  next-entered entry (inl is) = elim (cases_lt after (last_stamp 0 old)) [
    | inl above ↦ elim (last-entry 0 old) [
      | inl none ↦ absurd (omega (arith, above, none))
      | inr (other, has, last) ↦ AfterVolume
          (other, still-there old new other went-on has, omega (arith, is, above, last))
    ]
    | inr below ↦ AfterLast (omega (arith, is, below))
  ]
  next-entered entry (inr follows) = AfterVolume (follows-more entered.made new entry
      (λ other has. subst (λ (them : List Entry). Contains them other) (sym entered.entries)
      (Contains-append_right old entered.made other has)) follows)

  all-next : All (ComesNext after entered.made new) entered.made
  all-next = All-weaker (λ (entry : Entry). IsNext (max (last_stamp 0 old) after) entry
      ⊎ FollowsOne entered.made entry) (ComesNext after entered.made new) next-entered
      entered.made entered.next

  -- what the turn learned
  pub taken-by : (last' : ℕ) (turn turn' : TurnNow) → deck ≡ turn.deck
      → turn.entries ≡ deck_entries turn.deck old → HasGrown turn.history old
      → turn' ≡ record turn { entries = deck_entries turn.deck new; history = new }
      → last' ≡ last_stamp after entered.made
      → HasTaken number line request done after last' turn turn'
  taken-by last' turn turn' own told saw is last = record {
    made = entered.made;
    turn = record {
      turn = is
          ∙ ap (λ (them : List Entry). record turn { entries = them; history = new }) learned
          ∙ ap (λ (them : List Entry). record turn {
            entries = turn.entries ++ entered.made;
            history = them;
          }) (sym known);
      history = subst (HasGrown turn.history) (sym known)
          (grown-on turn.history old new saw went-on);
    };
    stamped = stamped-above after (max (last_stamp 0 old) after) entered.made (omega arith)
        entered.stamped;
    next = subst (λ (them : List Entry). All (ComesNext after entered.made them) entered.made)
        (sym known) all-next;
    last_is = last;
    answers = subst (λ (d : ℕ). part_of_deck d (map (with_volume number) entered.made)
        ≡ if_done done (bound_to number line request)) own entered.answers;
    goes_on = subst (MayGoOn done request)
        (ap (λ (d : ℕ). deck_entries d new) own ∙ sym (ap (λ (t : TurnNow). t.entries) is))
        entered.goes_on;
  }
    where
      known : turn'.history ≡ new
      known = ap (λ (t : TurnNow). t.history) is

      mine : All (IsOf turn.deck) entered.made
      mine = subst (λ (d : ℕ). All (IsOf d) entered.made) own entered.own

      learned : deck_entries turn.deck new ≡ turn.entries ++ entered.made
      learned = ap (deck_entries turn.deck) entered.entries
          ∙ entries_of-append turn.deck old entered.made
          ∙ ap (λ (them : List Entry). deck_entries turn.deck old ++ them)
          (entries_of-all turn.deck entered.made mine)
          ∙ ap (λ (them : List Entry). them ++ entered.made) (sym told)
