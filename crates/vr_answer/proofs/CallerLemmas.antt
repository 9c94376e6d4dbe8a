-- What the calls of this crate, in their order, make of a reply, and what its entry leaves of the
-- state: for those who enter it in a history.
use Rattle.std.proofs.Common.{◌≡◌, ℕ, false, List, [], ◌∷◌, ◌++◌, Option}
use Rattle.std.proofs.Common.{Some, None, IsTrue, inl, inr, refl, sym, ap, ◌∙◌}
use Rattle.std.specs.Option.{option_map_or, option_or}
use Rattle.std.proofs.lemmas.Option.{none-some}
use Rattle.vr_catalog.specs.declared.definition.Definition.{Definition}
use Rattle.vr_types.specs.declared.geometry.Geometry.{Geometry}
use Rattle.vr_types.specs.declared.reply.Refusal.{Refusal}
use Rattle.vr_types.specs.declared.reply.Refusal.TheVariants.{Memory, ReadFault}
use Rattle.vr_types.specs.declared.reply.Refusal.TheVariants.{WriteFault}
use Rattle.vr_types.specs.declared.reply.Reply.{Reply}
use Rattle.vr_types.specs.declared.reply.Reply.TheVariants.{Refused}
use Rattle.vr_types.specs.declared.request.Request.{Request}
use Rattle.vr_types.specs.declared.request.Request.TheVariants.{Get, Point, Add, Update, Erase}
use Rattle.vr_types.specs.declared.request.Request.TheVariants.{EndReq, Commit, Backout}
use Rattle.vr_types.specs.declared.unit.Kind.TheVariants.{Keyed}
use Rattle.vr_types.specs.declared.unit.Unit.{Unit as UnitOfRecovery}
use Rattle.vr_history.specs.Case.{Case, new_record}
use Rattle.vr_history.specs.Opened.{Opened, Cluster, definition_in, opened}
use Rattle.vr_history.specs.RefusedRoom.{log_full}
use Rattle.vr_history.specs.Replies.{CanEnd, IsAnswered, LacksMemory, LacksRoom, lacks_area}
use Rattle.vr_history.specs.Replies.{MeetsFault, all_refusals, answer_of, before_all}
use Rattle.vr_history.specs.Replies.{before_room, done_by, first_of, is_keyed, may_read, may_want}
use Rattle.vr_history.specs.Replies.{refused_or}
use Rattle.vr_history.specs.State.{State}
use Rattle.vr_history.specs.Step.{case_of}
use Rattle.vr_answer.specs.Looked.{place_looked_at}
use Rattle.vr_answer.specs.Tried.{file_refusals, record_refusals}
-- what an entry leaves
pub use Rattle.vr_answer.proofs.AfterLemmas.{after_backout, after_change, after_commit}
pub use Rattle.vr_answer.proofs.AfterLemmas.{after_end, after_endreq, after_least, after_lost}
pub use Rattle.vr_answer.proofs.AfterLemmas.{after_next, after_point, after_read, after_refused}
pub use Rattle.vr_answer.proofs.AfterLemmas.{after_no_address, names_at}
-- before-images are under locks, and locks are taken as the record file says
pub use Rattle.vr_answer.proofs.KeptLemmas.{kept_in_the_way, kept_throughout}
-- an exclusive lock is there once it is taken, stays as others are taken, and as another unit ends
pub use Rattle.vr_answer.proofs.KeptLemmas.{any_left, kept_with, other_held, taken}
-- what a read comes to; the records of a content that are listed are those that stand; and a record
-- that another unit may bring back is listed where one of its before-images brings it back
pub use Rattle.vr_answer.proofs.LeastLemmas.{comes_least, comes_named, found_least, kept_any}
pub use Rattle.vr_answer.proofs.LeastLemmas.{listed_standing, standing_listed}
-- where no alternate index is built, no pair of one moves; what a file is on; and the place
-- that a direct read names
pub use Rattle.vr_answer.proofs.OpeningLemmas.{moves_none, opened_is}
-- where all clusters are key-sequenced, they are clusters, what a file is on is key-sequenced, and
-- nothing has to be handed in of places that are numbers
pub use Rattle.vr_answer.proofs.OpeningLemmas.{IsKeyed, definition_keyed, keyed_alone, keyed_are}
pub use Rattle.vr_answer.proofs.OpeningLemmas.{keyed_here, kind_keyed, numbers_keyed}
pub use Rattle.vr_answer.proofs.PlaceLemmas.{read_is}
pub use Rattle.vr_answer.proofs.TakingLemmas.{taken_alike}

-- the first of two lists
pub first_of-append : (one other : List (Option Refusal))
    → first_of (one ++ other) ≡ option_or (first_of one) (first_of other)
first_of-append [] other = refl
first_of-append (None ∷ one) other = first_of-append one other
first_of-append (Some refusal ∷ one) other = refl

first_of-one : (o : Option Refusal) → first_of (o ∷ []) ≡ o
first_of-one None = refl
first_of-one (Some refusal) = refl

-- the refusals come in the three parts in which they are tried
pub in_order : (case : Case)
    → all_refusals case ≡ file_refusals case ++ (record_refusals case ++ log_full case ∷ [])
in_order case = refl

pub first_in_order : (case : Case)
    → first_of (all_refusals case)
    ≡ option_or (first_of (file_refusals case))
    (option_or (first_of (record_refusals case)) (log_full case))
first_in_order case =
    first_of-append (file_refusals case) (record_refusals case ++ log_full case ∷ [])
    ∙ ap (λ (o : Option Refusal). option_or (first_of (file_refusals case)) o)
    (first_of-append (record_refusals case) (log_full case ∷ [])
    ∙ ap (λ (o : Option Refusal). option_or (first_of (record_refusals case)) o)
    (first_of-one (log_full case)))

-- a refusal that comes first is the answer
first_answers : (case : Case) (refusal : Refusal)
    → first_of (all_refusals case) ≡ Some refusal → IsAnswered case (Refused refusal)
first_answers case refusal first = (
  sym (ap (λ (o : Option Refusal). refused_or o (done_by case case.request)) first),
  λ none. absurd (none-some refusal (sym none ∙ first)),
)

module _ (case : Case) where
  abbrev file : Option Refusal
  file = first_of (file_refusals case)

  abbrev by_record : Option Refusal
  by_record = first_of (record_refusals case)

  after_file : file ≡ None → first_of (all_refusals case) ≡ option_or by_record (log_full case)
  after_file none =
      first_in_order case
      ∙ ap (λ (o : Option Refusal). option_or o (option_or by_record (log_full case))) none

  after_record : file ≡ None → by_record ≡ None → first_of (all_refusals case) ≡ log_full case
  after_record none no_record =
      after_file none ∙ ap (λ (o : Option Refusal). option_or o (log_full case)) no_record

  -- what `refused_by_file` answers,
  pub answered_by_file : (refusal : Refusal) → file ≡ Some refusal
      → IsAnswered case (Refused refusal)
  answered_by_file refusal some =
      first_answers case refusal
      (first_in_order case
      ∙ ap (λ (o : Option Refusal). option_or o (option_or by_record (log_full case))) some)

  -- then `refused_by_record`,
  pub answered_by_record : (refusal : Refusal) → file ≡ None → by_record ≡ Some refusal
      → IsAnswered case (Refused refusal)
  answered_by_record refusal none some =
      first_answers case refusal
      (after_file none ∙ ap (λ (o : Option Refusal). option_or o (log_full case)) some)

  -- then `log_full`,
  pub answered_by_log : (refusal : Refusal) → file ≡ None → by_record ≡ None
      → log_full case ≡ Some refusal → IsAnswered case (Refused refusal)
  answered_by_log refusal none no_record some =
      first_answers case refusal (after_record none no_record ∙ some)

  -- and else `done`, a BACKOUT once its unit keeps no before-image
  pub answered_done : file ≡ None → by_record ≡ None → log_full case ≡ None
      → CanEnd case case.request → IsAnswered case (done_by case case.request)
  answered_done none no_record no_log ends = (
    sym (ap (λ (o : Option Refusal). refused_or o (done_by case case.request))
        (after_record none no_record ∙ no_log)),
    λ first. ends,
  )

  -- what `answer` answers
  pub answered : (reply : Reply) → reply ≡ answer_of case → CanEnd case case.request
      → IsAnswered case reply
  answered reply is ends = (is, λ first. ends)

  before_file : file ≡ None → first_of (before_all case) ≡ None
  before_file none = none_first (first_of (before_all case)) _
      (sym (first_of-append (before_all case) _) ∙ none)
    where
      none_first : (a b : Option Refusal) → option_or a b ≡ None → a ≡ None
      none_first None b is = refl
      none_first (Some refusal) b is = is

  no_room_yet : file ≡ None → by_record ≡ None → first_of (before_room case) ≡ None
  no_room_yet none no_record =
      first_of-append (file_refusals case) (record_refusals case)
      ∙ ap (λ (o : Option Refusal). option_or o by_record) none ∙ no_record

  -- memory ran out after `refused_by_file`
  pub lacks_memory : file ≡ None → IsTrue (may_want case.request)
      → LacksMemory case (Refused Memory)
  lacks_memory none may = (before_file none, may, refl)

  -- a fault of a write, or of a read where a place is looked at
  pub meets_write_fault : file ≡ None → MeetsFault case (Refused WriteFault)
  meets_write_fault none = (before_file none, inl refl)

  pub meets_read_fault : file ≡ None → IsTrue (may_read case.request)
      → MeetsFault case (Refused ReadFault)
  meets_read_fault none may = (before_file none, inr (may, refl))

  -- the layout of a key-sequenced cluster lacks an area
  pub lacks_room : (definition : Definition) (bytes : List ℕ) → file ≡ None → by_record ≡ None
      → opened case ≡ Cluster definition → definition.kind ≡ Keyed
      → new_record case.request ≡ Some bytes → LacksRoom case (Refused lacks_area)
  lacks_room definition bytes none no_record on keyed new = (
    no_room_yet none no_record,
    inl (
      λ nothing. none-some bytes (sym nothing ∙ new),
      fills on keyed,
    ),
    refl,
  )
    where
      fills : opened case ≡ Cluster definition → definition.kind ≡ Keyed
          → IsTrue (option_map_or (λ known. is_keyed known.kind) (definition_in (opened case))
          false)
      fills on keyed = ap
          (λ (o : Opened). option_map_or (λ known. is_keyed known.kind) (definition_in o) false) on
          ∙ ap is_keyed keyed

-- a request that looks at a place may meet a fault of a read, and memory may run out
pub looks_read : (geometry : Geometry) (state : State) (unit : UnitOfRecovery) (request : Request)
    (place : List ℕ) → place_looked_at (case_of geometry state unit request) ≡ Some place
    → IsTrue (may_read request)
looks_read geometry state unit (Get on find update integrity) place at = refl
looks_read geometry state unit (Add on named bytes) place at = refl
looks_read geometry state unit (Update on bytes) place at = refl
looks_read geometry state unit (Erase on) place at = refl
looks_read geometry state unit (Point on find) place at = refl
looks_read geometry state unit (EndReq on) place at = refl
looks_read geometry state unit Commit place at = absurd (none-some place at)
looks_read geometry state unit Backout place at = refl
