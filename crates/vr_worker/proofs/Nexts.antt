-- Stamps that come next, and turns that learn, as more is known of a deck and of its volume.
use Rattle.std.proofs.Common.{◌≡◌, ◌∙◌, ◌+◌, ℕ, List, [], ◌∷◌, ◌++◌, ap, append-nil, append_assoc}
use Rattle.std.proofs.Common.{arith, inl, inr, refl, subst, sym}
use Rattle.std.specs.Prelude.{◌⊎◌, Contains}
use Rattle.std.proofs.lemmas.List.Elements.{Contains-append_left, Contains-append_right}
use Rattle.vr_history.specs.Merged.{last_stamp}
use Rattle.vr_history.specs.declared.entry.Entry.{Entry}
use Rattle.vr_ledger.specs.Entries.{HasGrown}
use Rattle.vr_ledger.specs.Turn.{TurnNow}
use Rattle.vr_trace.specs.Growing.{FollowsOne}
use Rattle.vr_worker.specs.Latched.{ComesNext, HasLearned}
use Rattle.vr_worker.specs.Latched.ComesNext.{AfterLast, AfterOwn, AfterVolume}

-- ---- histories that go on

pub not-grown : (history : List Entry) → HasGrown history history
not-grown history = ([], sym (append-nil history))

pub grown-on : (a b c : List Entry) → HasGrown a b → HasGrown b c → HasGrown a c
grown-on a b c first second = (
  first.0 ++ second.0,
  second.1 ∙ ap (λ (them : List Entry). them ++ second.0) first.1
      ∙ append_assoc a first.0 second.0,
)

-- what was there is there
pub still-there : (old new : List Entry) (entry : Entry) → HasGrown old new → Contains old entry
    → Contains new entry
still-there old new entry grew has = subst (λ (them : List Entry). Contains them entry) (sym grew.1)
    (Contains-append_left old grew.0 entry has)

-- ---- stamps that come next

pub follows-more : (entries more : List Entry) (entry : Entry)
    → ((other : Entry) → Contains entries other → Contains more other)
    → FollowsOne entries entry → FollowsOne more entry
follows-more entries more entry among follows =
    (follows.0, among follows.0 follows.1, follows.2)

-- where more is known, a stamp is still next
pub next-more : (last : ℕ) (own more volume later : List Entry) (entry : Entry)
    → ((other : Entry) → Contains own other → Contains more other) → HasGrown volume later
    → ComesNext last own volume entry → ComesNext last more later entry
next-more last own more volume later entry among grew (AfterLast is) = AfterLast is
next-more last own more volume later entry among grew (AfterOwn follows) =
    AfterOwn (follows-more own more entry among follows)
next-more last own more volume later entry among grew (AfterVolume follows) =
    AfterVolume (follows-more volume later entry
    (λ other has. still-there volume later other grew has) follows)

-- the last stamp of entries is the one before them, or that of one of them
pub last-entry : (before : ℕ) (entries : List Entry) → (last_stamp before entries ≡ before)
    ⊎ ((other : Entry) × Contains entries other × (other.stamp ≡ last_stamp before entries))
last-entry before [] = inl refl
last-entry before (entry ∷ entries) = elim (last-entry entry.stamp entries) [
  | inl same ↦ inr (entry, (0, omega arith, refl), sym same)
  | inr (other, has, is) ↦
      inr (other, Contains-append_right (entry ∷ []) entries other has, is)
]

-- what comes next after the last of a deck's entries comes next after some
pub next-after : (last mid : ℕ) (own more volume : List Entry) (entry : Entry)
    → mid ≡ last_stamp last own → ComesNext mid more volume entry
    → ComesNext last (own ++ more) volume entry
next-after last mid own more volume entry at (AfterLast is) = elim (last-entry last own) [
  | inl same ↦ AfterLast (is ∙ ap (λ (n : ℕ). n + 1) (at ∙ same))
  | inr (other, has, there) ↦ AfterOwn (
    other,
    Contains-append_left own more other has,
    is ∙ ap (λ (n : ℕ). n + 1) (at ∙ sym there),
  )
]
next-after last mid own more volume entry at (AfterOwn follows) =
    AfterOwn (follows-more more (own ++ more) entry
    (λ other has. Contains-append_right own more other has) follows)
next-after last mid own more volume entry at (AfterVolume follows) = AfterVolume follows

-- ---- turns that learn

-- of nothing
pub learned-none : (turn : TurnNow) → HasLearned [] turn turn
learned-none turn = record {
  turn = ap (λ (entries : List Entry). record turn { entries = entries })
      (sym (append-nil turn.entries));
  history = not-grown turn.history;
}

-- of entries, and then of others
pub learned-then : (one more : List Entry) (a b c : TurnNow) → HasLearned one a b
    → HasLearned more b c → HasLearned (one ++ more) a c
learned-then one more a b c first second = record {
  turn = second.turn
      ∙ ap (λ (it : TurnNow). record it { entries = it.entries ++ more; history = c.history })
      first.turn
      ∙ ap (λ (entries : List Entry). record a { entries = entries; history = c.history })
      (append_assoc a.entries one more);
  history = grown-on a.history b.history c.history first.history second.history;
}
