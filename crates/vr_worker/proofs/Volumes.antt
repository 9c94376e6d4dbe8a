-- The volumes of a step, by their numbers.
use Rattle.std.proofs.Common.{◌≡◌, ◌∙◌, ◌<◌, ℕ, zero, suc, List, [], ◌∷◌, ◌++◌, Option, Some}
use Rattle.std.proofs.Common.{ap, arith, append-nil, get_or, length, map, refl, subst, sym}
use Rattle.std.specs.List.{AllZip}
use Rattle.std.specs.Prelude.{IfSome}
use Rattle.std.proofs.lemmas.List.{get_or-map, length-map}
use Rattle.std.proofs.lemmas.List.Elements.{All-nil}
use Rattle.vr_history.specs.declared.entry.Entry.{Entry}
use Rattle.vr_ledger.specs.Ledger.{LedgerNow}
use Rattle.vr_worker.specs.Decks.{ArePlaced, AreSince}
use Rattle.vr_worker.specs.Latched.{IsLatched, IsOfOne, IsSince}
use Rattle.vr_worker.specs.Ready.{AreLater, history_of, table_at, volume_at}
use Rattle.vr_worker.proofs.Places.{at-push, zip-from}

-- one more
pub later-more : {V : Type 0} (number : V → ℕ) (entries : V → List Entry)
    (follows : V → V → Type 0) (start : ℕ → Option V) (decks : List ℕ) (volumes : List V)
    (volume : V) → AreLater number entries follows start decks volumes
    → number volume ≡ length volumes
    → IfSome (start (length volumes)) (λ (first : V). IsSince entries follows decks first volume)
    → AreLater number entries follows start decks (volumes ++ volume ∷ [])
later-more number entries follows start decks volumes volume later own since = record {
  placed = at-push (λ place it. number it ≡ place) volumes volume later.placed own;
  since = at-push (λ place it. IfSome (start place)
      (λ first. IsSince entries follows decks first it)) volumes volume later.since since;
}

-- ---- what is known of them by their numbers

pub volume-there : {V : Type 0} (volumes : List V) (place : ℕ) (volume : V)
    → place < length volumes → volume_at volumes place ≡ Some (get_or volumes place volume)
volume-there [] place volume near = absurd (omega (arith, near))
volume-there (first ∷ volumes) zero volume near = refl
volume-there (first ∷ volumes) (suc place) volume near =
    volume-there volumes place volume (omega (arith, near))

pub table-there : (ledgers : List LedgerNow) (place : ℕ) (ledger : LedgerNow)
    → place < length ledgers → (get_or ledgers place ledger).table ≡ table_at ledgers place
table-there [] place ledger near = absurd (omega (arith, near))
table-there (first ∷ ledgers) zero ledger near = refl
table-there (first ∷ ledgers) (suc place) ledger near =
    table-there ledgers place ledger (omega (arith, near))

module _ {V : Type 0} (entries : V → List Entry) (volumes : List V) (ledgers : List LedgerNow)
    (same : map history_of ledgers ≡ map entries volumes) where
  pub as-many : length ledgers ≡ length volumes
  as-many = sym (length-map ledgers history_of)
      ∙ ap (λ (them : List (List Entry)). length them) same ∙ length-map volumes entries

  pub history-there : (place : ℕ) (ledger : LedgerNow) (volume : V) → place < length volumes
      → (get_or ledgers place ledger).history ≡ entries (get_or volumes place volume)
  history-there place ledger volume near =
      sym (get_or-map history_of ledgers place ledger [] (omega (arith, as-many, near)))
      ∙ ap (λ (them : List (List Entry)). get_or them place []) same
      ∙ get_or-map entries volumes place volume [] near

module _ {V : Type 0} (number : V → ℕ) (entries : V → List Entry) (follows : V → V → Type 0)
    (stays : (volume : V) → follows volume volume) (decks : List ℕ) (volumes : List V)
    (placed : ArePlaced number volumes) where
  -- a volume is since itself
  since-itself : (volume : V) → IsSince entries follows decks volume volume
  since-itself volume = record {
    is_later = stays volume;
    more = [];
    grew = sym (append-nil (entries volume));
    own = All-nil (IsOfOne decks);
  }

  -- so they are where no thread ran
  pub since-themselves : AreSince entries follows decks volumes volumes
  since-themselves = record {
    count = refl;
    each = λ place volume near. since-itself (get_or volumes place volume);
  }

  first-since : (place : ℕ) (volume : V) → place < length volumes
      → IfSome (volume_at volumes place)
      (λ (first : V). IsSince entries follows decks first (get_or volumes place volume))
  first-since place volume near = subst (λ (it : Option V). IfSome it
      (λ (first : V). IsSince entries follows decks first (get_or volumes place volume)))
      (sym (volume-there volumes place volume near)) (since-itself (get_or volumes place volume))

  -- as the step begins
  pub first-later : AreLater number entries follows (volume_at volumes) decks volumes
  first-later = record { placed = placed; since = first-since }

  pub first-latched : (ledgers : List LedgerNow) → map history_of ledgers ≡ map entries volumes
      → AllZip (IsLatched number entries follows (length volumes) (volume_at volumes)
      (table_at ledgers) decks) volumes ledgers
  first-latched ledgers same = zip-from (IsLatched number entries follows (length volumes)
      (volume_at volumes) (table_at ledgers) decks) volumes ledgers
      (sym (as-many entries volumes ledgers same))
      (λ place volume ledger near. record {
        within = omega (arith, placed place volume near, near);
        table = table-there ledgers place ledger
            (omega (arith, as-many entries volumes ledgers same, near))
            ∙ ap (table_at ledgers) (sym (placed place volume near));
        history = history-there entries volumes ledgers same place ledger volume near;
        since = subst (λ (n : ℕ). IfSome (volume_at volumes n) (λ (first : V).
            IsSince entries follows decks first (get_or volumes place volume)))
            (sym (placed place volume near)) (first-since place volume near);
      })

  -- and as it ends
  pub since-all : (result : List V) → length result ≡ length volumes
      → AreLater number entries follows (volume_at volumes) decks result
      → AreSince entries follows decks volumes result
  since-all result count later = record {
    count = count;
    each = λ place volume near. subst (λ (it : Option V). IfSome it
        (λ (first : V). IsSince entries follows decks first (get_or result place volume)))
        (volume-there volumes place volume near)
        (later.since place volume (omega (arith, count, near)));
  }
