-- Each before-image of a history is under its unit's exclusive lock.
use Rattle.std.proofs.Common.{◌≡◌, ℕ, Bool, true, false, cond, not, ◌&&◌, ◌||◌, List, [], ◌∷◌, ◌++◌}
use Rattle.std.proofs.Common.{Option, Some, None, refl, sym, ap, ◌∙◌, filter, find, map}
use Rattle.std.specs.List.{list_any}
use Rattle.std.specs.Option.{option_map, option_map_or, option_to_list}
use Rattle.std.specs.Prelude.{flat_map}
use Rattle.vr_types.specs.LockName.{lock_name_eq}
use Rattle.vr_types.specs.Locks.{Lock, conflicts, first_conflict, is_exclusive, same_unit}
use Rattle.vr_types.specs.Locks.{stands_against}
use Rattle.vr_types.specs.declared.geometry.Geometry.{Geometry}
use Rattle.vr_types.specs.declared.lock_name.LockName.{LockName}
use Rattle.vr_types.specs.declared.lock_name.LockName.TheVariants.{Record}
use Rattle.vr_types.specs.declared.position.Stand.{Stand}
use Rattle.vr_types.specs.declared.reply.Reply.{Reply}
use Rattle.vr_types.specs.declared.reply.Reply.TheVariants.{Done, Refused}
use Rattle.vr_types.specs.declared.request.FileRef.{FileRef}
use Rattle.vr_types.specs.declared.request.Request.{Request}
use Rattle.vr_types.specs.declared.request.Request.TheVariants.{Get, Point, Add, Update, Erase}
use Rattle.vr_types.specs.declared.request.Request.TheVariants.{EndReq, Commit, Backout}
use Rattle.vr_types.specs.declared.unit.Integrity.TheVariants.{Nri, Cr, Cre}
use Rattle.vr_types.specs.declared.unit.Mode.{Mode}
use Rattle.vr_types.specs.declared.unit.Mode.TheVariants.{Shared, Exclusive}
use Rattle.vr_types.specs.declared.unit.Unit.{Unit as UnitOfRecovery}
use Rattle.vr_history.specs.declared.entry.Entry.{Entry}
use Rattle.vr_history.specs.declared.entry.What.{What}
use Rattle.vr_history.specs.declared.entry.What.TheVariants.{Asked, Undone, Claimed, Split, Faulted}
use Rattle.vr_history.specs.Case.{Case, file_of}
use Rattle.vr_history.specs.Change.{pair_moves, place_changed}
use Rattle.vr_history.specs.Effects.{changes, drops_held, gives_back, holding, image_kept, is_other}
use Rattle.vr_history.specs.Effects.{is_utility_live, keeps_other, last_kept, locks, moves_file}
use Rattle.vr_history.specs.Effects.{takes_out, without_last, without_unit}
use Rattle.vr_history.specs.Found.{place_read}
use Rattle.vr_history.specs.Legal.{state_of}
use Rattle.vr_history.specs.Names.{change_names, is_own, keys_moved, lock_names, raised}
use Rattle.vr_history.specs.Names.{raises, record_name, with_lock, with_locks}
use Rattle.vr_history.specs.Opened.{base_of}
use Rattle.vr_history.specs.State.{BeforeImage, State, is_kept}
use Rattle.vr_history.specs.Step.{after_asked, after_what, case_of, change_back, done_effect, makes}
use Rattle.vr_history.specs.Step.{makes_change, stand_refused, stands_in, state_after}
use Rattle.vr_history.proofs.Same.{name_self, unit_same, unit_self}
use Rattle.std.proofs.lemmas.Bool.{and_from, and_parts, true≢false}
use Rattle.vr_types.specs.declared.position.Stand.TheVariants.{None as Nowhere}
use Rattle.vr_answer.specs.After.{change_at}
use Rattle.vr_answer.specs.Kept.{AreUnderLocks, IsUnderLock, KeptUnderLocks, is_under}

-- lists of locks
any_split : (a b : Bool) {P : Type 0} → (a || b) ≡ true → (a ≡ true → P) → (b ≡ true → P) → P
any_split true b is left right = left refl
any_split false b is left right = right is

or_of_first : (a b : Bool) → a ≡ true → (a || b) ≡ true
or_of_first true b is = refl
or_of_first false b is = absurd (cc)

or_of_second : (a b : Bool) → b ≡ true → (a || b) ≡ true
or_of_second true b is = refl
or_of_second false b is = is

any_map : (test test' : Lock → Bool) (to : Lock → Lock)
    → ((lock : Lock) → test lock ≡ true → test' (to lock) ≡ true)
    → (locks : List Lock) → list_any test locks ≡ true → list_any test' (map to locks) ≡ true
any_map test test' to kept [] is = is
any_map test test' to kept (lock ∷ locks) is =
    any_split (test lock) (list_any test locks) is
    (λ here. or_of_first (test' (to lock)) _ (kept lock here))
    (λ later. or_of_second (test' (to lock)) _ (any_map test test' to kept locks later))

any_append : (test : Lock → Bool) (locks others : List Lock) → list_any test locks ≡ true
    → list_any test (locks ++ others) ≡ true
any_append test [] others is = absurd (cc)
any_append test (lock ∷ locks) others is =
    any_split (test lock) (list_any test locks) is
    (λ here. or_of_first (test lock) _ here)
    (λ later. or_of_second (test lock) _ (any_append test locks others later))

any_last : (test : Lock → Bool) (locks : List Lock) (lock : Lock) → test lock ≡ true
    → list_any test (locks ++ lock ∷ []) ≡ true
any_last test [] lock is = or_of_first (test lock) false is
any_last test (first ∷ locks) lock is =
    or_of_second (test first) _ (any_last test locks lock is)

-- a lock stays exclusive, and becomes so
stays_exclusive : (mode other : Mode) → is_exclusive mode ≡ true
    → is_exclusive (raised mode other) ≡ true
stays_exclusive Shared other is = absurd (cc)
stays_exclusive Exclusive Shared is = refl
stays_exclusive Exclusive Exclusive is = refl

becomes_exclusive : (mode : Mode) → is_exclusive (raised mode Exclusive) ≡ true
becomes_exclusive Shared = refl
becomes_exclusive Exclusive = refl

module _ (unit : UnitOfRecovery) (name : LockName) (mode : Mode) where
  raised_under : (b : Bool) (owner : UnitOfRecovery) (held : LockName) (lock : Lock)
      → is_under owner held lock ≡ true
      → is_under owner held (cond b (record lock { mode = raised lock.mode mode }) lock) ≡ true
  raised_under false owner held lock is = is
  raised_under true owner held lock is =
      let parts = and_parts (is_own owner held lock) (is_exclusive lock.mode) is in
      and_from (is_own owner held lock) (is_exclusive (raised lock.mode mode)) parts.0
      (stays_exclusive lock.mode mode parts.1)

  kept_by_one : (b : Bool) (owner : UnitOfRecovery) (held : LockName) (locks : List Lock)
      → list_any (is_under owner held) locks ≡ true
      → list_any (is_under owner held) (cond b (map (raises unit name mode) locks) (locks
      ++ record { name = name; unit = unit; mode = mode } ∷ [])) ≡ true
  kept_by_one true owner held locks is =
      any_map (is_under owner held) (is_under owner held) (raises unit name mode)
      (λ lock under. raised_under (is_own unit name lock) owner held lock under) locks is
  kept_by_one false owner held locks is = any_append (is_under owner held) locks _ is

  kept_with_one : (owner : UnitOfRecovery) (held : LockName) (locks : List Lock)
      → list_any (is_under owner held) locks ≡ true
      → list_any (is_under owner held) (with_lock unit mode name locks) ≡ true
  kept_with_one owner held locks is =
      kept_by_one (list_any (is_own unit name) locks) owner held locks is

-- it stays, whatever locks are taken
pub kept_with : (unit : UnitOfRecovery) (mode : Mode) (names : List LockName) (owner : UnitOfRecovery)
    (held : LockName) (locks : List Lock) → list_any (is_under owner held) locks ≡ true
    → list_any (is_under owner held) (with_locks unit mode names locks) ≡ true
kept_with unit mode [] owner held locks is = is
kept_with unit mode (name ∷ names) owner held locks is =
    kept_with unit mode names owner held (with_lock unit mode name locks)
    (kept_with_one unit name mode owner held locks is)

-- an exclusive lock that is taken
module _ (unit : UnitOfRecovery) (name : LockName) where
  own_raised : (b : Bool) (lock : Lock) → is_own unit name lock ≡ b → b ≡ true
      → is_under unit name (cond b (record lock { mode = raised lock.mode Exclusive }) lock) ≡ true
  own_raised true lock own is =
      and_from (is_own unit name lock) (is_exclusive (raised lock.mode Exclusive)) own
      (becomes_exclusive lock.mode)
  own_raised false lock own is = absurd (cc)

  taken_by : (b : Bool) (locks : List Lock) → list_any (is_own unit name) locks ≡ b
      → list_any (is_under unit name) (cond b (map (raises unit name Exclusive) locks) (locks
      ++ record { name = name; unit = unit; mode = Exclusive } ∷ [])) ≡ true
  taken_by true locks own =
      any_map (is_own unit name) (is_under unit name) (raises unit name Exclusive)
      (λ lock is. own_raised (is_own unit name lock) lock refl is) locks own
  taken_by false locks own =
      any_last (is_under unit name) locks (record { name = name; unit = unit; mode = Exclusive })
      (and_from (is_own unit name (record { name = name; unit = unit; mode = Exclusive })) true
      (and_from (same_unit unit unit) (lock_name_eq name name) (unit_self unit) (name_self name))
      refl)

  pub taken : (locks : List Lock)
      → list_any (is_under unit name) (with_lock unit Exclusive name locks) ≡ true
  taken locks = taken_by (list_any (is_own unit name) locks) locks refl

-- before-images under locks
all_with : (unit : UnitOfRecovery) (mode : Mode) (names : List LockName) (locks : List Lock)
    (befores : List BeforeImage) → AreUnderLocks locks befores
    → AreUnderLocks (with_locks unit mode names locks) befores
all_with unit mode names locks [] are = tt
all_with unit mode names locks (kept ∷ befores) are = (
  kept_with unit mode names kept.unit (Record (record { 0 = kept.part }) kept.place) locks are.0,
  all_with unit mode names locks befores are.1,
)

all_append : (locks : List Lock) (befores : List BeforeImage) (kept : BeforeImage)
    → AreUnderLocks locks befores → IsUnderLock locks kept
    → AreUnderLocks locks (befores ++ kept ∷ [])
all_append locks [] kept are is = (is, tt)
all_append locks (first ∷ befores) kept are is = (are.0, all_append locks befores kept are.1 is)

all_cond : (b : Bool) (locks : List Lock) (befores : List BeforeImage) (kept : BeforeImage)
    → AreUnderLocks locks befores → IsUnderLock locks kept
    → AreUnderLocks locks (cond b befores (befores ++ kept ∷ []))
all_cond true locks befores kept are is = are
all_cond false locks befores kept are is = all_append locks befores kept are is

drop_if : (b : Bool) (locks : List Lock) (kept : BeforeImage) (rest less : List BeforeImage)
    → IsUnderLock locks kept → AreUnderLocks locks rest → AreUnderLocks locks less
    → AreUnderLocks locks (cond b rest (kept ∷ less))
drop_if true locks kept rest less is are are_less = are
drop_if false locks kept rest less is are are_less = (is, are_less)

all_less : (unit : UnitOfRecovery) (locks : List Lock) (befores : List BeforeImage)
    → AreUnderLocks locks befores → AreUnderLocks locks (without_last unit befores)
all_less unit locks [] are = tt
all_less unit locks (kept ∷ befores) are =
    drop_if (same_unit unit kept.unit && not (keeps_other unit befores)) locks kept befores
    (without_last unit befores) are.0 are.1 (all_less unit locks befores are.1)

-- a unit ends with its own locks and before-images
pub other_held : (unit owner : UnitOfRecovery) (held : LockName) → is_other unit owner ≡ true
    → (lock : Lock) → is_under owner held lock ≡ true → is_other unit lock.unit ≡ true
other_held unit owner held other lock is =
    let own = (and_parts (is_own owner held lock) (is_exclusive lock.mode) is).0 in
    let same = (and_parts (same_unit owner lock.unit) (lock_name_eq held lock.name) own).0 in
    ap (is_other unit) (sym (unit_same owner lock.unit same)) ∙ other

one_left : (test under : Lock → Bool) → ((lock : Lock) → under lock ≡ true → test lock ≡ true)
    → (lock : Lock) (rest : List Lock) → under lock ≡ true → (b : Bool) → test lock ≡ b
    → list_any under (cond b (lock ∷ rest) rest) ≡ true
one_left test under kept lock rest is true passes = or_of_first (under lock) _ is
one_left test under kept lock rest is false fails =
    absurd (true≢false (sym (kept lock is) ∙ fails))

more_left : (under : Lock → Bool) (lock : Lock) (rest : List Lock) → list_any under rest ≡ true
    → (b : Bool) → list_any under (cond b (lock ∷ rest) rest) ≡ true
more_left under lock rest is true = or_of_second (under lock) _ is
more_left under lock rest is false = is

pub any_left : (test under : Lock → Bool) → ((lock : Lock) → under lock ≡ true → test lock ≡ true)
    → (locks : List Lock) → list_any under locks ≡ true
    → list_any under (filter test locks) ≡ true
any_left test under kept [] is = is
any_left test under kept (lock ∷ locks) is =
    any_split (under lock) (list_any under locks) is
    (λ here. one_left test under kept lock (filter test locks) here (test lock) refl)
    (λ later. more_left under lock (filter test locks) (any_left test under kept locks later)
    (test lock))

ended_if : (unit : UnitOfRecovery) (locks : List Lock) (kept : BeforeImage)
    (rest : List BeforeImage) → IsUnderLock locks kept
    → AreUnderLocks (filter (λ lock. is_other unit lock.unit) locks) rest
    → (b : Bool) → is_other unit kept.unit ≡ b
    → AreUnderLocks (filter (λ lock. is_other unit lock.unit) locks) (cond b (kept ∷ rest) rest)
ended_if unit locks kept rest is are true other = (
  any_left (λ lock. is_other unit lock.unit)
      (is_under kept.unit (Record (record { 0 = kept.part }) kept.place))
      (other_held unit kept.unit (Record (record { 0 = kept.part }) kept.place) other) locks is,
  are,
)
ended_if unit locks kept rest is are false own = are

all_ended : (unit : UnitOfRecovery) (locks : List Lock) (befores : List BeforeImage)
    → AreUnderLocks locks befores
    → AreUnderLocks (filter (λ lock. is_other unit lock.unit) locks)
    (filter (λ kept. is_other unit kept.unit) befores)
all_ended unit locks [] are = tt
all_ended unit locks (kept ∷ befores) are =
    ended_if unit locks kept (filter (λ kept. is_other unit kept.unit) befores) are.0
    (all_ended unit locks befores are.1) (is_other unit kept.unit) refl

either_kept : (b : Bool) (one other : State) → KeptUnderLocks one → KeptUnderLocks other
    → KeptUnderLocks (cond b one other)
either_kept true one other is are = is
either_kept false one other is are = are

gives_back_kept : (state : State) → KeptUnderLocks state → KeptUnderLocks (gives_back state)
gives_back_kept state are = either_kept (is_utility_live state) state _ are are

-- where files stand has nothing to do with it
stands_kept : (deck : ℕ) (file : Option FileRef) (stand : Option Stand) (state : State)
    → KeptUnderLocks state → KeptUnderLocks (stands_in deck file stand state)
stands_kept deck None stand state are = are
stands_kept deck (Some file) None state are = are
stands_kept deck (Some file) (Some stand) state are = are

drops_kept : (deck : ℕ) (file : Option FileRef) (state : State) → KeptUnderLocks state
    → KeptUnderLocks (drops_held deck file state)
drops_kept deck None state are = are
drops_kept deck (Some file) state are = are

holds_kept : (deck : ℕ) (file : FileRef) (place : Option (List ℕ)) (state : State)
    → KeptUnderLocks state
    → KeptUnderLocks (option_map_or (λ at. moves_file deck file.slot (holding at) state) place state)
holds_kept deck file None state are = are
holds_kept deck file (Some place) state are = are

locks_kept : (unit : UnitOfRecovery) (mode : Mode) (names : List LockName) (state : State)
    → KeptUnderLocks state → KeptUnderLocks (locks unit mode names state)
locks_kept unit mode names state are = all_with unit mode names state.locks state.befores are

-- a change takes the lock of its place first
module _ (case : Case) (state : State) (are : KeptUnderLocks state)
    (names : lock_names case case.request ≡ change_names case) where
  first_taken : (place : List ℕ) → place_changed case ≡ Some place
      → list_any (is_under case.unit (record_name case place))
      (with_locks case.unit Exclusive (change_names case) state.locks) ≡ true
  first_taken place at =
      let further : List LockName =
      flat_map keys_moved (filter (λ move. move.alternate.unique) (pair_moves case)) in
      let is : change_names case ≡ record_name case place ∷ further =
      ap (λ (o : Option (List ℕ)). map (record_name case) (option_to_list o) ++ further) at in
      ap (λ (l : List LockName). list_any (is_under case.unit (record_name case place))
      (with_locks case.unit Exclusive l state.locks)) is
      ∙ kept_with case.unit Exclusive further case.unit (record_name case place)
      (with_lock case.unit Exclusive (record_name case place) state.locks)
      (taken case.unit (record_name case place) state.locks)

  made_kept : (place : List ℕ) → place_changed case ≡ Some place
      → KeptUnderLocks (makes case (change_at case place) state)
  made_kept place at =
      all_cond (is_kept state case.unit (base_of case) place)
      (with_locks case.unit Exclusive (lock_names case case.request) state.locks) state.befores
      (image_kept state case.unit (change_at case place))
      (all_with case.unit Exclusive (lock_names case case.request) state.locks state.befores are)
      (ap (λ (l : List LockName). list_any (is_under case.unit (record_name case place))
      (with_locks case.unit Exclusive l state.locks)) names
      ∙ first_taken place at)

  by_place : (o : Option (List ℕ)) → place_changed case ≡ o
      → KeptUnderLocks (option_map_or (λ change. makes case change state)
      (option_map (change_at case) o) state)
  by_place None at = are
  by_place (Some place) at = made_kept place at

  change_kept : KeptUnderLocks (makes_change case state)
  change_kept = by_place (place_changed case) refl

done_kept : (geometry : Geometry) (old : State) (unit : UnitOfRecovery) (request : Request)
    (state : State) → KeptUnderLocks state
    → KeptUnderLocks (done_effect (case_of geometry old unit request) request state)
done_kept geometry old unit (Get file find true integrity) state are =
    let case = case_of geometry old unit (Get file find true integrity) in
    stands_kept unit.deck (Some file) _ _
    (holds_kept unit.deck file (place_read case)
    (locks unit Exclusive (lock_names case case.request) state)
    (locks_kept unit Exclusive (lock_names case case.request) state are))
done_kept geometry old unit (Get file find false Nri) state are =
    stands_kept unit.deck (Some file) _ state are
done_kept geometry old unit (Get file find false Cr) state are =
    stands_kept unit.deck (Some file) _ state are
done_kept geometry old unit (Get file find false Cre) state are =
    let case = case_of geometry old unit (Get file find false Cre) in
    stands_kept unit.deck (Some file) _ (locks unit Shared (lock_names case case.request) state)
    (locks_kept unit Shared (lock_names case case.request) state are)
done_kept geometry old unit (Point file find) state are =
    stands_kept unit.deck (Some file) _ state are
done_kept geometry old unit (Add file place bytes) state are =
    change_kept (case_of geometry old unit (Add file place bytes)) state are refl
done_kept geometry old unit (Update file bytes) state are =
    change_kept (case_of geometry old unit (Update file bytes)) state are refl
done_kept geometry old unit (Erase file) state are =
    change_kept (case_of geometry old unit (Erase file)) state are refl
done_kept geometry old unit (EndReq file) state are =
    stands_kept unit.deck (Some file) (Some Nowhere) state are
done_kept geometry old unit Commit state are =
    gives_back_kept (without_unit unit state) (all_ended unit state.locks state.befores are)
done_kept geometry old unit Backout state are =
    gives_back_kept (without_unit unit state) (all_ended unit state.locks state.befores are)

asked_kept : (geometry : Geometry) (state : State) (unit : UnitOfRecovery) (request : Request)
    (reply : Reply) → KeptUnderLocks state
    → KeptUnderLocks (after_asked (case_of geometry state unit request) reply)
asked_kept geometry state unit request (Done feedback place bytes) are =
    done_kept geometry state unit request (drops_held unit.deck (file_of request) state)
    (drops_kept unit.deck (file_of request) state are)
asked_kept geometry state unit request (Refused refusal) are =
    stands_kept unit.deck (file_of request) (stand_refused request refusal) _
    (drops_kept unit.deck (file_of request) state are)

back_kept : (unit : UnitOfRecovery) (last : Option BeforeImage) (state : State)
    → KeptUnderLocks state
    → KeptUnderLocks (option_map_or
    (λ this. takes_out unit (changes (change_back state this) state)) last state)
back_kept unit None state are = are
back_kept unit (Some last) state are = all_less unit state.locks state.befores are

entered_kept : (geometry : Geometry) (state : State) (unit : UnitOfRecovery) (stamp : ℕ)
    (what : What) → KeptUnderLocks state
    → KeptUnderLocks (after_what geometry state unit stamp what)
entered_kept geometry state unit stamp (Asked request reply) are =
    asked_kept geometry state unit request reply are
entered_kept geometry state unit stamp (Undone part place) are =
    back_kept unit (last_kept state unit) state are
entered_kept geometry state unit stamp (Claimed part area) are = are
entered_kept geometry state unit stamp (Split part) are = are
entered_kept geometry state unit stamp (Faulted fault) are = are

-- each before-image stays under its lock, whatever is entered
pub kept_throughout : (geometry : Geometry) (state : State) (entries : List Entry)
    → KeptUnderLocks state → KeptUnderLocks (state_of geometry state entries)
kept_throughout geometry state [] are = are
kept_throughout geometry state (entry ∷ entries) are =
    kept_throughout geometry (state_after geometry state entry) entries
    (entered_kept geometry state entry.unit entry.stamp entry.what are)

-- such a lock is in the way of every other unit
any_mono : (test further : Lock → Bool) → ((lock : Lock) → test lock ≡ true → further lock ≡ true)
    → (locks : List Lock) → list_any test locks ≡ true → list_any further locks ≡ true
any_mono test further so [] is = is
any_mono test further so (lock ∷ locks) is =
    any_split (test lock) (list_any test locks) is
    (λ here. or_of_first (further lock) _ (so lock here))
    (λ later. or_of_second (further lock) _ (any_mono test further so locks later))

found_or : (b : Bool) (lock : Lock) (rest : Option Lock) (more : Bool) → (b || more) ≡ true
    → (more ≡ true → rest ≡ None → ⊥) → cond b (Some lock) rest ≡ None → ⊥
found_or true lock rest more is further none = absurd (cc)
found_or false lock rest more is further none = further is none

any_found : (test : Lock → Bool) (locks : List Lock) → list_any test locks ≡ true
    → find test locks ≡ None → ⊥
any_found test [] is none = absurd (cc)
any_found test (lock ∷ locks) is none =
    found_or (test lock) lock (find test locks) (list_any test locks) is (any_found test locks) none

under_conflicts : (unit owner : UnitOfRecovery) (mode : Mode) (name : LockName)
    → same_unit unit owner ≡ false → (lock : Lock) → is_under owner name lock ≡ true
    → conflicts unit mode name lock ≡ true
unfolding stands_against
under_conflicts unit owner mode name apart lock is =
    let parts = and_parts (is_own owner name lock) (is_exclusive lock.mode) is in
    let own = and_parts (same_unit owner lock.unit) (lock_name_eq name lock.name) parts.0 in
    and_from (lock_name_eq name lock.name) (not (same_unit unit lock.unit)
    && (is_exclusive mode || is_exclusive lock.mode)) own.1
    (and_from (not (same_unit unit lock.unit)) (is_exclusive mode || is_exclusive lock.mode)
    (ap (λ (u : UnitOfRecovery). not (same_unit unit u)) (sym (unit_same owner lock.unit own.0))
    ∙ ap not apart)
    (or_of_second (is_exclusive mode) (is_exclusive lock.mode) parts.1))

pub kept_in_the_way : (state : State) (kept : BeforeImage) (unit : UnitOfRecovery) (mode : Mode)
    → IsUnderLock state.locks kept → same_unit unit kept.unit ≡ false
    → first_conflict state.locks unit mode (Record (record { 0 = kept.part }) kept.place) ≡ None → ⊥
kept_in_the_way state kept unit mode under apart none =
    let name = Record (record { 0 = kept.part }) kept.place in
    any_found (conflicts unit mode name) state.locks
    (any_mono (is_under kept.unit name) (conflicts unit mode name)
    (under_conflicts unit kept.unit mode name apart) state.locks under) none
