-- What an event leaves of what is in memory.
use Rattle.std.proofs.Common.{◌≡◌, ℕ, ◌==◌, ◌&&◌, if◌then◌else◌, true, List, [], ◌∷◌}
use Rattle.std.proofs.Common.{◌+◌, max, append_assoc, ◌++◌, Option, Some, None, refl, sym, ap}
use Rattle.std.proofs.Common.{◌∙◌, subst, arith}
use Rattle.std.proofs.lemmas.Bool.Decides.{nat_tests}
use Rattle.vr_browse.specs.Positions.{position_of, without_deck, without_held}
use Rattle.vr_browse.specs.declared.positions.FilePosition.{FilePosition}
use Rattle.vr_types.specs.Position.{unheld}
use Rattle.vr_types.specs.declared.position.Position.{Position}
use Rattle.std.proofs.lemmas.Option.{none-some}
use Rattle.vr_types.specs.Locks.{Lock, same_unit}
use Rattle.vr_types.specs.declared.fault.DeviceFault.TheVariants.{Write}
use Rattle.vr_types.specs.declared.geometry.Geometry.{Geometry}
use Rattle.vr_types.specs.declared.reply.Refusal.TheVariants.{WriteFault}
use Rattle.vr_types.specs.declared.reply.Reply.TheVariants.{Refused}
use Rattle.vr_types.specs.declared.request.FileRef.{FileRef}
use Rattle.vr_types.specs.declared.request.Request.{Request}
use Rattle.vr_types.specs.declared.unit.Unit.{Unit as UnitOfRecovery}
use Rattle.vr_history.specs.declared.entry.Entry.{Entry}
use Rattle.vr_history.specs.declared.entry.What.{What}
use Rattle.vr_history.specs.declared.entry.What.TheVariants.{Asked, Faulted}
use Rattle.vr_history.specs.Case.{file_of}
use Rattle.vr_history.specs.Effects.{drops_held, stops}
use Rattle.vr_history.specs.Legal.{BackOutOnceBegun, IsLegal, StopAtWriteFaults}
use Rattle.vr_history.specs.Legal.{state_of}
use Rattle.vr_history.specs.Merged.{last_stamp}
use Rattle.vr_history.specs.State.{State}
use Rattle.vr_history.specs.Step.{MayEnter, Step, after_what, case_of}
use Rattle.vr_history.proofs.CallerLemmas.{last_stamp-append, state_of-append, steps-append}
use Rattle.vr_answer.proofs.CallerLemmas.{after_refused}
use Rattle.vr_record_file.specs.Now.{FileNow, IsOf, IsStateOf, MayBeAsked, entry_next, files_let_go}
use Rattle.vr_record_file.specs.Now.{failed, faulted, next_stamp, state_now, with_event}
use Rattle.vr_record_file.specs.Now.{with_memory}
use Rattle.vr_record_file.proofs.Legal.{MayCome, NoUtilityUndoes, begun_more, if_true}
use Rattle.vr_record_file.proofs.Legal.{is_no_fault, legal-append}
use Rattle.vr_record_file.proofs.Legal.{stops-append, utilities-append}

-- what a file, or a deck, holds is dropped among the positions that were set
pub without_held-of : (deck slot : ℕ) (files : List FilePosition) (d s : ℕ)
    → position_of (without_held deck slot files) d s
    ≡ (if d == deck && s == slot then unheld (position_of files d s) else position_of files d s)
without_held-of deck slot [] d s = grind (arith, nat_tests)
without_held-of deck slot (file ∷ files) d s =
    grind (arith, nat_tests, without_held-of deck slot files d s)

pub without_deck-of : (deck : ℕ) (files : List FilePosition) (d s : ℕ)
    → position_of (without_deck deck files) d s
    ≡ (if d == deck then unheld (position_of files d s) else position_of files d s)
without_deck-of deck [] d s = grind (arith, nat_tests)
without_deck-of deck (file ∷ files) d s = grind (arith, nat_tests, without_deck-of deck files d s)

-- a request's file lets go what it held
pub let_go_is : (file : FileNow) (state : State) (deck : ℕ) (o : Option FileRef) → IsOf file state
    → IsOf (record file { files = files_let_go deck o file.files }) (drops_held deck o state)
let_go_is file state deck None is = is
let_go_is file state deck (Some on) is = record {
  catalog = is.catalog;
  locks = is.locks;
  positions = λ d s. without_held-of deck on.slot file.files d s
      ∙ ap (λ (p : Position). if d == deck && s == on.slot then unheld p else p) (is.positions d s);
  numbers = is.numbers;
  stopped = is.stopped;
  unbuilt = is.unbuilt;
  owned = is.owned;
  locked = is.locked;
  of_decks = is.of_decks;
  of_clusters = is.of_clusters;
  kept_by_decks = is.kept_by_decks;
  deck_clusters = is.deck_clusters;
}

-- An event is entered: what is in memory is then what the state after it has.
pub entered : (opening : State) (file to : FileNow) (after line : ℕ) (unit : UnitOfRecovery)
    (what : What) → IsStateOf opening file
    → MayEnter file.geometry (state_now opening file) unit what
    → MayCome file.entries unit what → is_no_fault what ≡ true
    → IsOf to (after_what file.geometry (state_now opening file) unit
    (next_stamp file.entries after) what)
    → IsStateOf opening (with_event after unit line what (with_memory file to))
entered opening file to after line unit what is enters may none now =
    let entry : Entry = entry_next file.entries after unit line what in
    let whole : IsOf (with_event after unit line what (with_memory file to)) (after_what
    file.geometry (state_now opening file) unit (next_stamp file.entries after) what) = record {
      catalog = now.catalog;
      locks = now.locks;
      positions = now.positions;
      numbers = now.numbers;
      stopped = now.stopped;
      unbuilt = now.unbuilt;
      owned = now.owned;
      locked = now.locked;
      of_decks = now.of_decks;
      of_clusters = now.of_clusters;
      kept_by_decks = now.kept_by_decks;
      deck_clusters = now.deck_clusters;
    } in
    record {
      legal = legal-append file.geometry opening file.entries entry is.legal enters may none;
      now = subst (λ (s : State). IsOf (with_event after unit line what (with_memory file to)) s)
          (sym (state_of-append file.geometry opening file.entries entry)) whole;
      utilities = utilities-append file.entries entry may is.utilities;
    }

max_zero : (n : ℕ) → max n 0 ≡ n
max_zero n = omega arith

-- a request that a fault of a write refused, and the fault that stops the volume
module _ (geometry : Geometry) (opening : State) (entries : List Entry) (after line : ℕ)
    (unit : UnitOfRecovery) (request : Request) where
  abbrev was : State
  was = state_of geometry opening entries

  abbrev pub asked : Entry
  asked = entry_next entries after unit line (Asked request (Refused WriteFault))

  abbrev pub fault : Entry
  fault = entry_next (entries ++ asked ∷ []) 0 unit line (Faulted Write)

  abbrev dropped_state : State
  dropped_state = drops_held unit.deck (file_of request) was

  after_asking : state_of geometry opening (entries ++ asked ∷ []) ≡ dropped_state
  after_asking = state_of-append geometry opening entries asked
      ∙ after_refused (case_of geometry was unit request) WriteFault refl

  pub after_both : state_of geometry opening ((entries ++ asked ∷ []) ++ fault ∷ [])
      ≡ stops fault.stamp dropped_state
  after_both = state_of-append geometry opening (entries ++ asked ∷ []) fault
      ∙ ap (stops fault.stamp) after_asking

  still_going : (deck : ℕ) (o : Option FileRef) → was.stopped ≡ None
      → (drops_held deck o was).stopped ≡ None
  still_going deck None going = going
  still_going deck (Some on) going = going

  at_next : fault.stamp ≡ asked.stamp + 1
  at_next = ap (λ n. n + 1) (max_zero (last_stamp 0 (entries ++ asked ∷ []))
      ∙ last_stamp-append 0 entries asked)

  module _ (going : was.stopped ≡ None) (legal : IsLegal geometry opening entries)
      (enters : MayEnter geometry was unit asked.what)
      (may : MayCome entries unit asked.what) where
    may_fault : Step geometry (state_of geometry opening (entries ++ asked ∷ [])) fault
    may_fault = (
      refl,
      ap (λ (s : State). s.stopped) after_asking
          ∙ still_going unit.deck (file_of request) going,
    )

    pub faulted_legal : IsLegal geometry opening ((entries ++ asked ∷ []) ++ fault ∷ [])
    faulted_legal = record {
      steps = steps-append geometry opening (entries ++ asked ∷ []) fault
          (steps-append geometry opening entries asked legal.steps enters) may_fault;
      backs_out = subst BackOutOnceBegun (sym (append_assoc entries (asked ∷ []) (fault ∷ [])))
          (begun_more entries asked (fault ∷ []) (λ other. if_true (same_unit other unit))
          legal.backs_out (
            tt,
            tt,
          ) may);
      stops = subst StopAtWriteFaults (sym (append_assoc entries (asked ∷ []) (fault ∷ [])))
          (stops-append entries (asked ∷ fault ∷ []) legal.stops (
            λ met. (
              at_next,
              refl,
            ),
            (tt, tt),
          ));
    }

  pub faulted_utilities : MayCome entries unit asked.what → NoUtilityUndoes entries
      → NoUtilityUndoes ((entries ++ asked ∷ []) ++ fault ∷ [])
  faulted_utilities may utilities =
      utilities-append (entries ++ asked ∷ []) fault tt
      (utilities-append entries asked may utilities)

-- a fault of a write that met no request
pub faulted_state : (opening : State) (file : FileNow) (after line : ℕ) (unit : UnitOfRecovery)
    → file.stopped ≡ None → IsStateOf opening file
    → IsStateOf opening (faulted after unit line file)
faulted_state opening file after line unit going is =
    let stamp : ℕ = next_stamp file.entries after in
    let now = is.now in
    let whole : IsOf (record file { stopped = Some stamp }) (stops stamp
    (state_now opening file)) = record {
      catalog = now.catalog;
      locks = λ none. absurd (none-some stamp (sym none));
      positions = now.positions;
      numbers = now.numbers;
      stopped = refl;
      unbuilt = now.unbuilt;
      owned = λ none. absurd (none-some stamp (sym none));
      locked = now.locked;
      of_decks = λ none. absurd (none-some stamp (sym none));
      of_clusters = λ none. absurd (none-some stamp (sym none));
      kept_by_decks = λ none. absurd (none-some stamp (sym none));
      deck_clusters = now.deck_clusters;
    } in
    entered opening file (record file { stopped = Some stamp }) after line unit (Faulted Write) is (
      refl,
      sym now.stopped ∙ going,
    ) tt refl whole

-- and one that refused a request
module _ (opening : State) (file : FileNow) (after line : ℕ) (unit : UnitOfRecovery)
    (request : Request) (before : List Lock) (going : file.stopped ≡ None)
    (is : IsStateOf opening (record file { locks = before }))
    (may : MayBeAsked opening (record file { locks = before }) unit request
    (Refused WriteFault)) where
  abbrev state_then : State
  state_then = state_now opening (record file { locks = before })

  abbrev stamp : ℕ
  stamp = (fault file.geometry opening file.entries after line unit request).stamp

  pub failed_state : IsStateOf opening (failed after unit line request file)
  failed_state =
      let now = let_go_is (record file { locks = before }) state_then unit.deck (file_of request)
      is.now in
      let stopped : IsOf (failed after unit line request file) (stops stamp
      (drops_held unit.deck (file_of request) state_then)) = record {
        catalog = now.catalog;
        locks = λ none. absurd (none-some stamp (sym none));
        positions = now.positions;
        numbers = now.numbers;
        stopped = refl;
        unbuilt = now.unbuilt;
        owned = λ none. absurd (none-some stamp (sym none));
        locked = now.locked;
        of_decks = λ none. absurd (none-some stamp (sym none));
        of_clusters = λ none. absurd (none-some stamp (sym none));
        kept_by_decks = λ none. absurd (none-some stamp (sym none));
        deck_clusters = now.deck_clusters;
      } in
      record {
        legal = faulted_legal file.geometry opening file.entries after line unit request
            (sym is.now.stopped ∙ going) is.legal (may.current, may.reply_is) may.goes_on;
        now = subst (λ (s : State). IsOf (failed after unit line request file) s)
            (sym (after_both file.geometry opening file.entries after line unit request)) stopped;
        utilities = faulted_utilities file.geometry opening file.entries after line unit request
            may.goes_on is.utilities;
      }

-- the last stamp once an event is entered
pub last_entered : (file : FileNow) (after line : ℕ) (unit : UnitOfRecovery) (what : What)
    → last_stamp 0 (with_event after unit line what file).entries ≡ next_stamp file.entries after
last_entered file after line unit what =
    last_stamp-append 0 file.entries (entry_next file.entries after unit line what)
