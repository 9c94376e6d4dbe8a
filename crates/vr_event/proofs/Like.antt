-- A store that is a state's is that of each state which differs in nothing that it knows of.
use Rattle.std.proofs.Common.{◌≡◌, ◌∙◌, ℕ, List, ap, subst, sym}
use Rattle.std.proofs.lemmas.List.Elements.{All-weaker}
use Rattle.vr_types.specs.Content.{Content}
use Rattle.vr_types.specs.Seen.{Seen}
use Rattle.vr_history.specs.State.{BeforeImage, Logged, State}
use Rattle.vr_volume.specs.Committed.{HasLogged, IsKeptIn, IsLaidState}
use Rattle.vr_event.specs.Alike.{AreAlike}
use Rattle.vr_store.specs.Store.{IsRestedPart, IsStored, StoreNow}

-- the state with other locks, positions, areas and stop
abbrev other : State → State → State
other old new = record old {
  locks = new.locks;
  positions = new.positions;
  owned = new.owned;
  stopped = new.stopped;
}

module _ (number : ℕ) (store : StoreNow) (old new : State) (now : Seen)
    (stored : IsStored number store old now) where
  laid_other : IsLaidState store.log.geometry (other old new)
  laid_other =
      let laid = stored.volume.laid in
      record {
        each = laid.each;
        catalog = laid.catalog;
        others = laid.others;
        kept = All-weaker (IsKeptIn store.log.geometry old)
            (IsKeptIn store.log.geometry (other old new))
            (λ image kept. record {
              not_catalog = kept.not_catalog;
              shape = kept.shape;
              laid = kept.laid;
              place = kept.place;
            }) old.befores laid.kept;
      }

  logged_other : HasLogged store.log (other old new)
  logged_other =
      let logged = stored.volume.logged in
      record {
        alone = logged.alone;
        once = logged.once;
        kept = logged.kept;
        back = logged.back;
        logged = logged.logged;
        live = logged.live;
        used = logged.used;
        ended = logged.ended;
        current = logged.current;
      }

  -- a store is that of the state with others of these
  pub stored_other : IsStored number store (other old new) now
  stored_other = record {
    volume = record {
      safe = stored.volume.safe;
      stands = stored.volume.stands;
      sound = stored.volume.sound;
      forced = stored.volume.forced;
      laid = laid_other;
      logged = logged_other;
      kept = stored.volume.kept;
    };
    parts = All-weaker (IsRestedPart store old now) (IsRestedPart store (other old new) now)
        (λ part rested. record {
          laid = rested.laid;
          on = rested.on;
          rests = rested.rests;
          claimed = rested.claimed;
          room = rested.room;
          knows = rested.knows;
          reads = rested.reads;
          firm = rested.firm;
        }) store.parts stored.parts;
    whole = stored.whole;
    befores = stored.befores;
    logged = stored.logged;
    due = stored.due;
  }

-- what is the same of two states makes one of the other
abbrev with_fields : State → (ℕ → Content) → List BeforeImage → List Logged → ℕ → (ℕ → ℕ) → State
with_fields new contents befores logged used numbers = record new {
  contents = contents;
  befores = befores;
  logged = logged;
  used = used;
  numbers = numbers;
}

same_state : (old new : State) → AreAlike old new → other old new ≡ new
same_state old new alike =
    ap (λ (c : ℕ → Content). with_fields new c old.befores old.logged old.used old.numbers)
    (sym alike.contents)
    ∙ ap (λ (b : List BeforeImage). with_fields new new.contents b old.logged old.used old.numbers)
    (sym alike.befores)
    ∙ ap (λ (l : List Logged). with_fields new new.contents new.befores l old.used old.numbers)
    (sym alike.logged)
    ∙ ap (λ (u : ℕ). with_fields new new.contents new.befores new.logged u old.numbers)
    (sym alike.used)
    ∙ ap (λ (n : ℕ → ℕ). with_fields new new.contents new.befores new.logged new.used n)
    (sym alike.numbers)

-- a store is that of a state that is alike
pub stored-alike : (number : ℕ) (store : StoreNow) (old new : State) (now : Seen)
    → AreAlike old new → IsStored number store old now → IsStored number store new now
stored-alike number store old new now alike stored =
    subst (λ (s : State). IsStored number store s now) (same_state old new alike)
    (stored_other number store old new now stored)
