-- How the decks of a step get their turns.
use Rattle.std.proofs.Common.{◌≡◌, ◌∙◌, ℕ, ◌+◌, List, [], ◌∷◌, ◌++◌, All, map, sym}
use Rattle.std.proofs.Common.{ap, arith, append-nil, append_assoc, map-id}
use Rattle.std.proofs.lemmas.List.{map_push}
use Rattle.std.proofs.lemmas.List.Elements.{All-map, All-nil, All-push, All-same, All-weaker}
use Rattle.std.proofs.lemmas.Simd.{map-map}
use Rattle.vr_ledger.proofs.CallerLemmas.{one_if, one_if-same, times-cons}
use Rattle.vr_ledger.specs.Decks.{times}
use Rattle.vr_ledger.specs.Ledger.{LedgerNow}
use Rattle.vr_worker.specs.Decks.{IsOnce, numbers_of}
use Rattle.vr_worker.specs.Ready.{IsBegun, IsUnrun, IsUnused, deck_of, decks_of, history_of}
use Rattle.vr_worker.specs.Ready.{turn_at, with_out}
use Rattle.vr_worker.specs.declared.deck.DeckRun.{DeckRun}
use Rattle.vr_worker.specs.declared.deck.Seat.{Seat}

-- Some of the decks have their seats, and the rest are to get them.
pub record HaveSeats (decks rest : List DeckRun) (first now : List LedgerNow) (start : ℕ)
    (seats : List Seat) : Type 0 where
  pub out : List ℕ
  pub ledgers : now ≡ map (with_out out) first
  pub times_are : (deck : ℕ) → times deck out + times deck (numbers_of rest)
      ≡ times deck (numbers_of decks)
  pub seated : decks_of seats ++ rest ≡ decks
  pub begun : All (IsBegun first start) seats

-- as it begins
pub no-seats : (decks rest : List DeckRun) (first : List LedgerNow) (start : ℕ)
    (seats : List Seat) → rest ≡ decks → seats ≡ []
    → HaveSeats decks rest first first start seats
no-seats decks rest first start seats all none = record {
  out = [];
  ledgers = sym (map-id first);
  times_are = λ deck. omega (
    arith,
    ap (λ (them : List DeckRun). times deck (numbers_of them)) all,
  );
  seated = ap (λ (them : List Seat). decks_of them ++ rest) none ∙ all;
  begun = All-same (IsBegun first start) seats [] none (All-nil (IsBegun first start));
}

module _ (decks : List DeckRun) (deck : DeckRun) (others rest : List DeckRun)
    (first now : List LedgerNow) (start : ℕ) (seats : List Seat)
    (have : HaveSeats decks rest first now start seats) (next : rest ≡ deck ∷ others) where
  counted : (it : ℕ) → times it have.out + (one_if it deck.number + times it (numbers_of others))
      ≡ times it (numbers_of decks)
  counted it = omega (
    arith,
    have.times_are it,
    ap (λ (them : List DeckRun). times it (numbers_of them)) next,
    times-cons it deck.number (numbers_of others),
  )

  not-out : IsOnce decks → times deck.number have.out ≡ 0
  not-out once = omega (arith, counted deck.number, one_if-same deck.number, once deck.number)

  -- the next deck has no turn yet
  pub next-free : IsOnce decks → All IsUnused first
      → All (λ (ledger : LedgerNow). times deck.number ledger.out ≡ 0) now
  next-free once unused = All-same IsFree now (map (with_out have.out) first) have.ledgers
      (All-map IsFree (with_out have.out) first (All-weaker IsUnused
      (λ (ledger : LedgerNow). IsFree (with_out have.out ledger))
      (λ ledger none. ap (λ (them : List ℕ). times deck.number (have.out ++ them)) none
      ∙ ap (times deck.number) (append-nil have.out) ∙ not-out once) first unused))
    where
      IsFree : LedgerNow → Type 0
      IsFree ledger = times deck.number ledger.out ≡ 0

  -- it has its seat
  pub next-seated : (then : List LedgerNow) (seat : Seat)
      → then ≡ map (with_out (deck.number ∷ [])) now → deck_of seat ≡ deck
      → seat.turns.items ≡ map (turn_at deck.number) now → seat.last ≡ start
      → IsUnrun seat → HaveSeats decks others first then start (seats ++ seat ∷ [])
  next-seated then seat entered is turns last unrun = record {
    out = deck.number ∷ have.out;
    ledgers = entered ∙ ap (map (with_out (deck.number ∷ []))) have.ledgers
        ∙ map-map (with_out (deck.number ∷ [])) (with_out have.out) first;
    times_are = λ it. omega (arith, counted it, times-cons it deck.number have.out);
    seated = ap (λ (them : List DeckRun). them ++ others) (map_push deck_of seats seat)
        ∙ append_assoc (decks_of seats) (deck_of seat ∷ []) others
        ∙ ap (λ (it : DeckRun). decks_of seats ++ it ∷ others) is
        ∙ ap (λ (them : List DeckRun). decks_of seats ++ them) (sym next) ∙ have.seated;
    begun = All-push (IsBegun first start) seats seat have.begun (record {
      turns = turns ∙ ap (map (turn_at deck.number)) have.ledgers
          ∙ map-map (turn_at deck.number) (with_out have.out) first
          ∙ ap (λ (it : ℕ). map (turn_at it) first) (sym (ap (λ (it : DeckRun). it.number) is));
      last = last;
      unrun = unrun;
    });
  }

-- all have theirs
pub all-begun : {decks rest : List DeckRun} {first now : List LedgerNow} {start : ℕ}
    {seats : List Seat} → HaveSeats decks rest first now start seats
    → All (IsBegun now start) seats
all-begun {first = first} {now = now} {start = start} {seats = seats} have =
    All-weaker (IsBegun first start) (IsBegun now start) (λ seat begun. record {
      turns = begun.turns ∙ sym (ap (map (turn_at seat.deck)) have.ledgers
          ∙ map-map (turn_at seat.deck) (with_out have.out) first);
      last = begun.last;
      unrun = begun.unrun;
    }) seats have.begun

pub same-histories : {decks rest : List DeckRun} {first now : List LedgerNow} {start : ℕ}
    {seats : List Seat} → HaveSeats decks rest first now start seats
    → map history_of now ≡ map history_of first
same-histories {first = first} have = ap (map history_of) have.ledgers
    ∙ map-map history_of (with_out have.out) first
