-- What is computed of a request in memory. That it is what the record file says is proved of each
-- public function.
use Rattle.std.specs.Prelude.{ℕ, ◌+◌, Bool, true, false, not, cond, List, [], ◌∷◌, Option, Some}
use Rattle.std.specs.Prelude.{None, ◌&&◌, ◌||◌, is_none, is_some, length, nat_lt, option_map}
use Rattle.std.specs.Prelude.{option_and_then, unwrap_or}
use Rattle.std.specs.Option.{option_copied, option_map_or, option_or}
use Rattle.vr_catalog.specs.Definition.{key_of}
use Rattle.vr_catalog.specs.declared.definition.Definition.{Definition}
use Rattle.vr_types.specs.Locks.{first_conflict}
use Rattle.vr_types.specs.LogSpace.{before_length, end_length, log_size}
use Rattle.vr_types.specs.declared.lock_name.LockName.{LockName}
use Rattle.vr_types.specs.declared.lock_name.LockName.TheVariants.{Record}
use Rattle.vr_types.specs.declared.reply.Refusal.{Refusal}
use Rattle.vr_types.specs.declared.position.Stand.{Stand}
use Rattle.vr_types.specs.declared.position.Stand.TheVariants.{Start}
use Rattle.vr_types.specs.declared.reply.Refusal.TheVariants.{BadSlot, Duplicate, KeyChanged}
use Rattle.vr_types.specs.declared.reply.Refusal.TheVariants.{LengthChanged}
use Rattle.vr_types.specs.declared.reply.Refusal.TheVariants.{LogFull, NoFile, NoGet, NoPosition}
use Rattle.vr_types.specs.declared.reply.Refusal.TheVariants.{NotAllowed, NotFound, Stopped}
use Rattle.vr_types.specs.declared.reply.Reply.{Reply}
use Rattle.vr_types.specs.declared.reply.Reply.TheVariants.{Done}
use Rattle.vr_types.specs.declared.request.Find.{Find}
use Rattle.vr_types.specs.declared.request.Find.TheVariants.{Next, Equal, AtLeast}
use Rattle.vr_types.specs.declared.request.Request.{Request}
use Rattle.vr_types.specs.declared.request.Request.TheVariants.{Get, Point, Add, Update, Erase}
use Rattle.vr_types.specs.declared.request.Request.TheVariants.{EndReq, Commit, Backout}
use Rattle.vr_types.specs.declared.unit.Kind.{Kind}
use Rattle.vr_types.specs.declared.unit.Kind.TheVariants.{Keyed, Entry, Relative}
use Rattle.vr_history.specs.Address.{areas_needed, interval_needed}
use Rattle.vr_history.specs.Case.{acts_on_held, file_of, find_of, is_add, new_record}
use Rattle.vr_history.specs.Names.{mode_asked, read_mode}
use Rattle.vr_history.specs.RefusedFile.{goes_with_kind, is_slot_zero, is_unknown, length_wrong}
use Rattle.vr_history.specs.RefusedFile.{refused_if, slot_named}
use Rattle.vr_history.specs.RefusedRecord.{absent_for, held_by, is_nowhere, is_sequential}
use Rattle.vr_history.specs.RefusedRecord.{other_key, other_length}
use Rattle.vr_history.specs.RefusedRoom.{lacks}
use Rattle.vr_history.specs.Replies.{refused_or}
use Rattle.vr_answer.specs.declared.case.Case.{Case as CaseInHand}
use Rattle.vr_answer.specs.Opening.{as_opened, definition_here}

-- the place that a direct read names, where its file can be opened
abbrev pub named_by : Find → Option Definition → Option (List ℕ)
named_by Next definition = None
named_by (Equal place) definition = option_map (λ known. place) definition
named_by (AtLeast place) definition = None

abbrev pub read_by : Request → Option Definition → Option (List ℕ)
read_by (Get file find update integrity) definition = named_by find definition
read_by (Point file find) definition = None
read_by (Add file place bytes) definition = None
read_by (Update file bytes) definition = None
read_by (Erase file) definition = None
read_by (EndReq file) definition = None
read_by Commit definition = None
read_by Backout definition = None

-- the place of an added record: its key, the address that is handed in, or the slot that is named
abbrev pub added_by : Kind → Definition → Option (List ℕ) → Option (List ℕ) → List ℕ
    → Option (List ℕ)
added_by Keyed definition address named bytes = Some (key_of definition bytes)
added_by Entry definition address named bytes = address
added_by Relative definition address named bytes = Some (unwrap_or named [])

-- the place that a change names
abbrev pub changed_by : Request → Option Definition → Option (List ℕ) → Option (List ℕ)
    → Option (List ℕ)
changed_by (Add file place bytes) definition held address =
    option_and_then (λ known. added_by known.kind known address place bytes) definition
changed_by (Update file bytes) definition held address = held
changed_by (Erase file) definition held address = held
changed_by (Get file find update integrity) definition held address = None
changed_by (Point file find) definition held address = None
changed_by (EndReq file) definition held address = None
changed_by Commit definition held address = None
changed_by Backout definition held address = None

abbrev pub read_here : CaseInHand → Option (List ℕ)
read_here case = read_by case.request.now (definition_here case)

abbrev pub changed_here : CaseInHand → Option (List ℕ)
changed_here case =
    changed_by case.request.now (definition_here case) (option_copied case.held)
    (option_copied case.address)

abbrev pub looked_here : CaseInHand → Option (List ℕ)
looked_here case = option_or (read_here case) (changed_here case)

-- where the request's file stands: at its start, where its deck hasn't used it yet
abbrev pub or_start : Option Stand → Stand
or_start None = Start
or_start (Some stand) = stand

abbrev pub stand_here : CaseInHand → Option Stand
stand_here case =
    option_map (λ file. or_start (option_copied case.stand)) (file_of case.request.now)

abbrev pub base_here : Request → ℕ
base_here request = option_map_or (λ file. file.base.0) (file_of request) 0

-- refusals by what is in memory
abbrev pub no_file_here : CaseInHand → Option Refusal
no_file_here case =
    option_and_then (λ file. refused_if (is_unknown (as_opened (definition_here case))
    || case.catalog_changing) NoFile) (file_of case.request.now)

abbrev pub stopped_here : CaseInHand → Option Refusal
stopped_here case = option_map Stopped case.stopped

abbrev pub before_here : CaseInHand → Option Refusal
before_here case = option_or (no_file_here case) (stopped_here case)

abbrev pub slot_by : Option Definition → Request → Option Refusal
slot_by definition request =
    option_and_then (λ place. refused_if (is_slot_zero (as_opened definition) place) BadSlot)
    (slot_named request)

abbrev pub form_by : Option Definition → Request → Option Refusal
form_by definition request =
    option_or (refused_if (not (goes_with_kind (as_opened definition) request)) NotAllowed)
    (option_or (slot_by definition request) (length_wrong (as_opened definition) request))

abbrev pub no_position_here : CaseInHand → Option Refusal
no_position_here case =
    refused_if (is_sequential case.request.now
    && option_map_or is_nowhere (stand_here case) false) NoPosition

abbrev pub no_get_here : CaseInHand → Option Refusal
no_get_here case =
    refused_if (acts_on_held case.request.now && is_none (option_copied case.held)) NoGet

abbrev pub form_here : CaseInHand → Option Refusal
form_here case =
    option_and_then (λ known. form_by (Some known) case.request.now) (definition_here case)

abbrev pub placed_here : CaseInHand → Option Refusal
placed_here case = option_or (no_position_here case) (no_get_here case)

abbrev pub asked_here : CaseInHand → Option Refusal
asked_here case = option_or (form_here case) (placed_here case)

abbrev pub file_here : CaseInHand → Option Refusal
file_here case = option_or (before_here case) (asked_here case)

-- refusals by the record that is there, before the locks are asked for
abbrev pub is_other_key : Option Definition → List ℕ → List ℕ → Bool
is_other_key definition bytes place =
    option_map_or (λ known. other_key known.kind known place bytes) definition false

abbrev pub key_changes_by : Request → Option Definition → Option (List ℕ) → Bool
key_changes_by (Update file bytes) definition held =
    option_map_or (is_other_key definition bytes) held false
key_changes_by (Get file find update integrity) definition held = false
key_changes_by (Point file find) definition held = false
key_changes_by (Add file place bytes) definition held = false
key_changes_by (Erase file) definition held = false
key_changes_by (EndReq file) definition held = false
key_changes_by Commit definition held = false
key_changes_by Backout definition held = false

abbrev pub gone_here : CaseInHand → Bool → Option Refusal
gone_here case there = refused_if (acts_on_held case.request.now && not there) NotFound

abbrev pub key_changed_here : CaseInHand → Option Refusal
key_changed_here case =
    refused_if
    (key_changes_by case.request.now (definition_here case) (option_copied case.held)) KeyChanged

-- an entry-sequenced record keeps its length
abbrev pub is_other_length : Option Definition → Option (List ℕ) → List ℕ → Bool
is_other_length definition present bytes =
    option_map_or (λ known. other_length known.kind present bytes) definition false

abbrev pub length_changes_by : Request → Option Definition → Option (List ℕ) → Bool
length_changes_by (Update file bytes) definition present = is_other_length definition present bytes
length_changes_by (Get file find update integrity) definition present = false
length_changes_by (Point file find) definition present = false
length_changes_by (Add file place bytes) definition present = false
length_changes_by (Erase file) definition present = false
length_changes_by (EndReq file) definition present = false
length_changes_by Commit definition present = false
length_changes_by Backout definition present = false

abbrev pub length_changed_here : CaseInHand → Option (List ℕ) → Option Refusal
length_changed_here case present =
    refused_if (length_changes_by case.request.now (definition_here case) present) LengthChanged

abbrev pub bytes_changed_here : CaseInHand → Option (List ℕ) → Option Refusal
bytes_changed_here case present =
    option_or (key_changed_here case) (length_changed_here case present)

abbrev pub unlocked_here : CaseInHand → Option (List ℕ) → Option Refusal
unlocked_here case present =
    option_or (gone_here case (is_some present)) (bytes_changed_here case present)

-- the name that a request locks, by the place that it comes to
abbrev pub asks_lock : Request → Bool
asks_lock (Get file find update integrity) = is_some (read_mode update integrity)
asks_lock (Point file find) = false
asks_lock (Add file place bytes) = true
asks_lock (Update file bytes) = true
asks_lock (Erase file) = true
asks_lock (EndReq file) = false
asks_lock Commit = false
asks_lock Backout = false

abbrev pub name_of : CaseInHand → List ℕ → LockName
name_of case place = Record (record { 0 = base_here case.request.now }) place

abbrev pub name_here : CaseInHand → Option (List ℕ) → Option LockName
name_here case at = cond (asks_lock case.request.now) (option_map (name_of case) at) None

abbrev pub names_in : Option LockName → List LockName
names_in None = []
names_in (Some name) = name ∷ []

abbrev pub held_on : CaseInHand → LockName → Option Refusal
held_on case name =
    option_map held_by
    (first_conflict case.locks.now case.unit (mode_asked case.request.now) name)

abbrev pub held_here : CaseInHand → Option (List ℕ) → Option Refusal
held_here case at = option_and_then (held_on case) (name_here case at)

-- refusals by whether a record is there, once the locks are free
abbrev pub absent_here : CaseInHand → Bool → Option Refusal
absent_here case there =
    option_and_then
    (λ find. refused_if (not there) (absent_for (as_opened (definition_here case)) find))
    (find_of case.request.now)

abbrev pub presence_here : CaseInHand → Bool → Option Refusal
presence_here case there =
    option_or (absent_here case there)
    (refused_if (is_add case.request.now && there)
    (Duplicate (record { 0 = base_here case.request.now })))

-- the areas that a place which is a number needs beside those that its data set has
abbrev pub areas_at : CaseInHand → Definition → List ℕ → List ℕ → Option ℕ
areas_at case known place bytes =
    option_map (areas_needed case.geometry.area case.areas)
    (interval_needed known.kind case.geometry.size known.maximum place (length bytes))

abbrev pub areas_here : CaseInHand → Option ℕ
areas_here case =
    option_and_then
    (λ known. option_and_then
    (λ place. option_and_then (areas_at case known place) (new_record case.request.now))
    (changed_here case)) (definition_here case)

abbrev pub space_here : CaseInHand → Option Refusal
space_here case = option_and_then (lacks case.free) (areas_here case)

abbrev pub found_here : CaseInHand → Bool → Option Refusal
found_here case there = option_or (presence_here case there) (space_here case)

abbrev pub locked_here : CaseInHand → Option (List ℕ) → Bool → Option Refusal
locked_here case at there = option_or (held_here case at) (found_here case there)

abbrev pub record_here : CaseInHand → Option (List ℕ) → Option (List ℕ) → Option Refusal
record_here case at present =
    option_or (unlocked_here case present) (locked_here case at (is_some present))

-- the bytes of the log for the place that is changed, and for the end of the unit
abbrev pub bytes_for : Option (List ℕ) → Option (List ℕ) → Bool → ℕ
bytes_for None old logged = 0
bytes_for (Some place) old logged = cond logged 0 (before_length place old)

abbrev pub old_here : CaseInHand → Option (List ℕ) → Option (List ℕ)
old_here case present = cond (is_add case.request.now) None present

abbrev pub need_here : CaseInHand → Option (List ℕ) → Bool → Bool → ℕ
need_here case present logged live =
    bytes_for (changed_here case) (old_here case present) logged + cond live 0 end_length

-- the reply to a request that is done, by the place that it comes to and the record there
abbrev pub done_here : Request → Option (List ℕ) → Option (List ℕ) → Reply
done_here (Get file find update integrity) at present = Done 0 at present
done_here (Point file find) at present = Done 0 at None
done_here (Add file place bytes) at present = Done 0 at None
done_here (Update file bytes) at present = Done 0 at None
done_here (Erase file) at present = Done 0 at None
done_here (EndReq file) at present = Done 0 None None
done_here Commit at present = Done 0 None None
done_here Backout at present = Done 0 None None

-- the log has no room
abbrev pub full_here : CaseInHand → Option (List ℕ) → Bool → Bool → Option Refusal
full_here case present logged live =
    let need = need_here case present logged live in
    refused_if (is_some (changed_here case) && nat_lt (log_size case.geometry) (case.used + need))
    (LogFull case.used need (log_size case.geometry))

-- the answer, in the order in which refusals are tried
abbrev pub answer_here : CaseInHand → Option (List ℕ) → Option (List ℕ) → Bool → Bool → Reply
answer_here case at present logged live =
    refused_or
    (option_or (file_here case)
    (option_or (record_here case at present) (full_here case present logged live)))
    (done_here case.request.now at present)
