-- What an event of a request adds to the history.
use Rattle.std.proofs.Common.{◌≡◌, inl, inr, ⊎_elim, ◌∙◌, ℕ, ◌==◌, false}
use Rattle.std.proofs.Common.{List, [], ◌∷◌, ◌++◌, refl, sym, ap}
use Rattle.std.proofs.Common.{append_assoc, arith, map}
use Rattle.std.proofs.lemmas.Bool.Decides.{nat_tests}
use Rattle.vr_types.specs.Faults.{Faults}
use Rattle.vr_types.specs.Locks.{Lock}
use Rattle.vr_types.specs.declared.fault.DeviceFault.TheVariants.{Write}
use Rattle.vr_types.specs.declared.reply.Refusal.TheVariants.{WriteFault}
use Rattle.vr_types.specs.declared.reply.Reply.{Reply}
use Rattle.vr_types.specs.declared.reply.Reply.TheVariants.{Done as DoneReply, Refused}
use Rattle.std.specs.Prelude.{None}
use Rattle.vr_types.specs.declared.request.Request.{Request}
use Rattle.vr_types.specs.declared.unit.Unit.{Unit as UnitOfRecovery}
use Rattle.vr_browse.specs.declared.positions.FilePosition.{FilePosition}
use Rattle.vr_history.specs.Merged.{last_stamp}
use Rattle.vr_history.specs.declared.entry.Entry.{Entry}
use Rattle.vr_history.specs.declared.entry.What.{What}
use Rattle.vr_history.specs.declared.entry.What.TheVariants.{Asked, Claimed, Faulted, Split}
use Rattle.vr_history.specs.declared.entry.What.TheVariants.{Undone}
use Rattle.vr_history.proofs.CallerLemmas.{last_stamp-append}
use Rattle.vr_record_file.specs.Now.{FileNow, asked_failing, ended, entry_next, failed, has_deck}
use Rattle.vr_record_file.specs.Now.{number_of, raised_for, with_event}
use Rattle.vr_record_file.specs.declared.numbers.DeckNumber.{DeckNumber}
use Rattle.vr_event.specs.Acting.{HasStepped, IsActed, IsAnsweredFor}
use Rattle.vr_event.specs.Made.{HasAsked, HasMade, MadeBy, NumbersStay}
use Rattle.vr_event.specs.declared.act.Act.{Act}
use Rattle.vr_event.specs.declared.act.Act.TheVariants.{Again, Done}

-- each deck stays entered as its number rises
pub raised-decks : (deck other : ℕ) (numbers : List DeckNumber)
    → has_deck other (map (raised_for deck) numbers) ≡ has_deck other numbers
raised-decks deck other [] = refl
raised-decks deck other (number ∷ numbers) =
    grind (arith, nat_tests, raised-decks deck other numbers)

-- and the number of another deck's unit stays
pub raised-others : (deck other : ℕ) (numbers : List DeckNumber) → (other == deck) ≡ false
    → number_of (map (raised_for deck) numbers) other ≡ number_of numbers other
raised-others deck other [] differs = refl
raised-others deck other (number ∷ numbers) differs =
    grind (arith, nat_tests, differs, raised-others deck other numbers differs)

-- one entry more, of a record file of which locks, positions and numbers may have changed
event-made : (act : Act) (after : ℕ) (unit : UnitOfRecovery) (line at : ℕ) (request : Request)
    (what : What) (old new : FileNow) (locks : List Lock) (files : List FilePosition)
    (files_room : ℕ) (numbers : List DeckNumber)
    → new ≡ with_event after unit at what (record old {
      locks = locks;
      files = files;
      files_room = files_room;
      numbers = numbers;
    })
    → ((deck : ℕ) → has_deck deck numbers ≡ has_deck deck old.numbers)
    → ((other : ℕ) → (other == unit.deck) ≡ false
    → number_of numbers other ≡ number_of old.numbers other)
    → NumbersStay act old new → MadeBy act unit line request (entry_next old.entries after unit at what ∷ [])
    → HasMade act after unit line request old new
event-made act after unit line at request what old new locks files files_room numbers leaves decks
    others stay by =
    let entry : Entry = entry_next old.entries after unit at what in
    let entries : new.entries ≡ old.entries ++ entry ∷ [] =
    ap (λ (f : FileNow). f.entries) leaves in
    let last : last_stamp 0 new.entries ≡ entry.stamp =
    ap (last_stamp 0) entries ∙ last_stamp-append 0 old.entries entry in
    record {
      made = entry ∷ [];
      entries = entries;
      by = by;
      next = (refl, tt);
      stamped = (omega arith, tt);
      last = omega (arith, last);
      stops = inl (ap (λ (f : FileNow). f.stopped) leaves);
      geometry = ap (λ (f : FileNow). f.geometry) leaves;
      catalog = ap (λ (f : FileNow). f.catalog) leaves;
      decks = λ deck. ap (λ (f : FileNow). has_deck deck f.numbers) leaves ∙ decks deck;
      numbers = stay;
      others = λ other differs. ap (λ (f : FileNow). number_of f.numbers other) leaves
          ∙ others other differs;
    }

-- nothing was entered
same-made : (after : ℕ) (unit : UnitOfRecovery) (line : ℕ) (request given : Request)
    (old new : FileNow) → new ≡ old → HasMade (Again given) after unit line request old new
same-made after unit line request given old new same = record {
  made = [];
  entries = ap (λ (f : FileNow). f.entries) same
      ∙ sym (Rattle.std.proofs.lemmas.List.append-nil old.entries);
  by = inl refl;
  next = tt;
  stamped = tt;
  last = omega (arith, ap (λ (f : FileNow). last_stamp 0 f.entries) same);
  stops = inl (ap (λ (f : FileNow). f.stopped) same);
  geometry = ap (λ (f : FileNow). f.geometry) same;
  catalog = ap (λ (f : FileNow). f.catalog) same;
  decks = λ deck. ap (λ (f : FileNow). has_deck deck f.numbers) same;
  numbers = ap (λ (f : FileNow). f.numbers) same;
  others = λ other differs. ap (λ (f : FileNow). number_of f.numbers other) same;
}

stepped-made : (after : ℕ) (unit : UnitOfRecovery) (line : ℕ) (request given : Request)
    (old new : FileNow) → HasStepped after unit line request old new
    → HasMade (Again given) after unit line request old new
stepped-made after unit line request given old new is = ⊎_elim
    (λ same. same-made after unit line request given old new same)
    (λ step. ⊎_elim
    (λ split. event-made (Again given) after unit line line request (Split split.0) old new old.locks
    old.files old.files_room old.numbers split.1 (λ deck. refl)
    (λ other differs. refl) (ap (λ (f : FileNow). f.numbers) split.1) (inr (_, refl, (refl, refl, inl (split.0, refl)))))
    (λ further. ⊎_elim
    (λ claimed. event-made (Again given) after unit line line request (Claimed claimed.0 claimed.1) old
    new old.locks old.files old.files_room old.numbers claimed.2 (λ deck. refl)
    (λ other differs. refl) (ap (λ (f : FileNow). f.numbers) claimed.2)
    (inr (_, refl, (refl, refl, inr (inl (claimed.0, claimed.1, refl))))))
    (λ back. event-made (Again given) after unit line line request (Undone back.1 back.2) old new
    old.locks old.files old.files_room old.numbers back.3 (λ deck. refl)
    (λ other differs. refl) (ap (λ (f : FileNow). f.numbers) back.3)
    (inr (_, refl, (refl, refl, inr (inr (back.0, back.1, back.2, refl))))))
    further)
    step) is

-- a request that was asked
asked-by : (after : ℕ) (unit : UnitOfRecovery) (line : ℕ) (request : Request) (reply : Reply)
    (entries : List Entry) → HasAsked unit line request
    (entry_next entries after unit line (Asked request reply) ∷ [])
asked-by after unit line request reply entries = record {
  reply = reply;
  entry = entry_next entries after unit line (Asked request reply);
  rest = [];
  is = refl;
  unit_is = refl;
  line_is = refl;
  what_is = refl;
  follows = inl refl;
}

-- a write failed
failed-made : (after : ℕ) (unit : UnitOfRecovery) (line : ℕ) (request : Request)
    (old new : FileNow) (locks : List Lock)
    → new ≡ failed after unit line request (record old { locks = locks })
    → HasMade Done after unit line request old new
failed-made after unit line request old new locks leaves =
    let asked : Entry =
    entry_next old.entries after unit line (Asked request (Refused WriteFault)) in
    let mid : List Entry = (asked_failing after unit line request old).entries in
    let fault : Entry = entry_next mid 0 unit line (Faulted Write) in
    let entries : new.entries ≡ mid ++ fault ∷ [] = ap (λ (f : FileNow). f.entries) leaves in
    let mid-last : last_stamp 0 mid ≡ asked.stamp = last_stamp-append 0 old.entries asked in
    let last : last_stamp 0 new.entries ≡ fault.stamp =
    ap (last_stamp 0) entries ∙ last_stamp-append 0 mid fault in
    record {
      made = asked ∷ fault ∷ [];
      entries = entries ∙ append_assoc old.entries (asked ∷ []) (fault ∷ []);
      by = record {
        reply = Refused WriteFault;
        entry = asked;
        rest = fault ∷ [];
        is = refl;
        unit_is = refl;
        line_is = refl;
        what_is = refl;
        follows = inr (record {
          refused = refl;
          fault = fault;
          is = refl;
          unit_is = refl;
          line_is = refl;
          what_is = refl;
        });
      };
      next = (refl, (omega (arith, mid-last), tt));
      stamped = (omega arith, (omega (arith, mid-last), tt));
      last = omega (arith, last, mid-last);
      stops = inr (record {
        entry = asked;
        fault = fault;
        is = refl;
        what_is = refl;
        stopped = ap (λ (f : FileNow). f.stopped) leaves;
      });
      geometry = ap (λ (f : FileNow). f.geometry) leaves;
      catalog = ap (λ (f : FileNow). f.catalog) leaves;
      decks = λ deck. ap (λ (f : FileNow). has_deck deck f.numbers) leaves;
      numbers = tt;
      others = λ other differs. ap (λ (f : FileNow). number_of f.numbers other) leaves;
    }

answered-made : (before now : Faults) (after : ℕ) (unit : UnitOfRecovery) (line : ℕ)
    (request : Request) (old new : FileNow)
    → IsAnsweredFor before now after unit line request old new
    → HasMade Done after unit line request old new
answered-made before now after unit line request old new is = ⊎_elim
    (λ entered. event-made Done after unit line line request
    (Asked request entered.entered.reply) old new new.locks new.files new.files_room old.numbers
    entered.entered.leaves (λ deck. refl) (λ other differs. refl) tt
    (asked-by after unit line request entered.entered.reply old.entries))
    (λ further. ⊎_elim
    (λ over. event-made Done after unit line line request (Asked request (DoneReply 0 None None))
    old new (ended unit old).locks (ended unit old).files old.files_room (ended unit old).numbers
    over.1 (λ deck. raised-decks unit.deck deck old.numbers)
    (λ other differs. raised-others unit.deck other old.numbers differs) tt
    (asked-by after unit line request (DoneReply 0 None None) old.entries))
    (λ fails. failed-made after unit line request old new new.locks fails.0)
    further) is

-- The entries that an event adds to the history.
pub acted_made : (before now : Faults) (act : Act) (after : ℕ) (unit : UnitOfRecovery) (line : ℕ)
    (request : Request) (old new : FileNow)
    → IsActed before now act after unit line request old new
    → HasMade act after unit line request old new
acted_made before now Done after unit line request old new is =
    answered-made before now after unit line request old new is.by
acted_made before now (Again given) after unit line request old new is =
    stepped-made after unit line request given old new is.by.1
