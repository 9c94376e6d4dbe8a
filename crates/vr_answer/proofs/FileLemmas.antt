-- The refusals by what is in memory are those of the record file.
use Rattle.std.proofs.Common.{◌≡◌, ℕ, Bool, false, not, ◌&&◌, ◌||◌, List, [], ◌∷◌, Option}
use Rattle.std.proofs.Common.{Some, None, refl, sym, ap, ◌∙◌}
use Rattle.std.specs.Option.{is_none, option_and_then, option_map, option_map_or}
use Rattle.std.specs.Option.{option_or}
use Rattle.vr_catalog.specs.declared.definition.Definition.{Definition}
use Rattle.vr_types.specs.declared.position.Stand.{Stand}
use Rattle.vr_types.specs.declared.reply.Refusal.{Refusal}
use Rattle.vr_types.specs.declared.reply.Refusal.TheVariants.{BadSlot, NoFile, NoGet, NotAllowed}
use Rattle.vr_types.specs.declared.reply.Refusal.TheVariants.{NoPosition, Stopped}
use Rattle.vr_types.specs.declared.request.Request.{Request}
use Rattle.vr_types.specs.declared.request.Request.TheVariants.{Get, Point, Add, Update, Erase}
use Rattle.vr_types.specs.declared.request.Request.TheVariants.{EndReq, Commit, Backout}
use Rattle.vr_history.specs.Case.{Case, acts_on_held, file_of}
use Rattle.vr_history.specs.Opened.{Opened, opened}
use Rattle.vr_history.specs.RefusedFile.{bad_length, bad_slot, goes_with_kind, is_catalog_changing}
use Rattle.vr_history.specs.RefusedFile.{is_slot_zero, is_unknown, length_wrong, no_file}
use Rattle.vr_history.specs.RefusedFile.{not_allowed, refused_if, slot_named, stopped}
use Rattle.vr_history.specs.RefusedRecord.{is_nowhere, is_sequential, no_get, no_position}
use Rattle.vr_history.specs.Replies.{before_all, first_of}
use Rattle.vr_history.specs.State.{State}
use Rattle.vr_answer.specs.declared.case.Case.{Case as CaseInHand}
use Rattle.vr_answer.specs.Here.{asked_here, before_here, file_here, form_by, no_file_here}
use Rattle.vr_answer.specs.Here.{no_get_here, no_position_here, placed_here, slot_by, stopped_here}
use Rattle.vr_answer.specs.InHand.{IsCaseOf, whole}
use Rattle.vr_answer.specs.Opening.{as_opened, definition_here}
use Rattle.vr_answer.specs.Tried.{file_refusals}
use Rattle.vr_answer.proofs.OpeningLemmas.{opened_is}

-- the first of some refusals that are others
pub first_of-two : (a b x y : Option Refusal) → a ≡ x → b ≡ y
    → first_of (a ∷ b ∷ []) ≡ option_or x y
first_of-two a b (Some r) y is_a is_b = ap (λ (o : Option Refusal). first_of (o ∷ b ∷ [])) is_a
first_of-two a b None (Some r) is_a is_b =
    ap (λ (o : Option Refusal). first_of (o ∷ b ∷ [])) is_a
    ∙ ap (λ (o : Option Refusal). first_of (o ∷ [])) is_b
first_of-two a b None None is_a is_b =
    ap (λ (o : Option Refusal). first_of (o ∷ b ∷ [])) is_a
    ∙ ap (λ (o : Option Refusal). first_of (o ∷ [])) is_b

pub first_of-cons : (a : Option Refusal) (rest : List (Option Refusal))
    → first_of (a ∷ rest) ≡ option_or a (first_of rest)
first_of-cons None rest = refl
first_of-cons (Some refusal) rest = refl

-- a refusal takes its place in the list
pub placed_first : (a x : Option Refusal) (rest : List (Option Refusal)) (others : Option Refusal)
    → a ≡ x → first_of rest ≡ others → first_of (a ∷ rest) ≡ option_or x others
placed_first a x rest others is_a are =
    ap (λ (o : Option Refusal). first_of (o ∷ rest)) is_a ∙ first_of-cons x rest
    ∙ ap (λ (o : Option Refusal). option_or x o) are

-- or has none
pub passed_over : (a : Option Refusal) (rest : List (Option Refusal)) (others : Option Refusal)
    → a ≡ None → first_of rest ≡ others → first_of (a ∷ rest) ≡ others
passed_over a rest others is_a are = ap (λ (o : Option Refusal). first_of (o ∷ rest)) is_a ∙ are

pub option_or-none : {A : Type 0} (o : Option A) → option_or o None ≡ o
option_or-none None = refl
option_or-none (Some x) = refl

pub option_or-assoc : {A : Type 0} (a b c : Option A)
    → option_or a (option_or b c) ≡ option_or (option_or a b) c
option_or-assoc None b c = refl
option_or-assoc (Some x) b c = refl

-- the form of a request is tried after its file: where no file can be opened, that is refused first
-- of a request that is on a file, and nothing is asked of the form of any other
abbrev not_opened : Option Definition → Bool → Request → Option Refusal
not_opened definition changing request =
    option_and_then (λ file. refused_if (is_unknown (as_opened definition) || changing) NoFile)
    (file_of request)

after_unknown : (changing : Bool) (request : Request) (stop rest : Option Refusal)
    → option_or (not_opened None changing request)
    (option_or stop (option_or (form_by None request) rest))
    ≡ option_or (not_opened None changing request) (option_or stop rest)
after_unknown changing (Get file find update integrity) stop rest = refl
after_unknown changing (Point file find) stop rest = refl
after_unknown changing (Add file place bytes) stop rest = refl
after_unknown changing (Update file bytes) stop rest = refl
after_unknown changing (Erase file) stop rest = refl
after_unknown changing (EndReq file) stop rest = refl
after_unknown changing Commit stop rest = refl
after_unknown changing Backout stop rest = refl

by_definition : (definition : Option Definition) (changing : Bool) (request : Request)
    (stop rest : Option Refusal)
    → option_or (not_opened definition changing request)
    (option_or stop (option_or (form_by definition request) rest))
    ≡ option_or (not_opened definition changing request)
    (option_or stop
    (option_or (option_and_then (λ known. form_by (Some known) request) definition) rest))
by_definition None changing request stop rest = after_unknown changing request stop rest
by_definition (Some definition) changing request stop rest = refl

module _ (case : CaseInHand) (state : State) (is : IsCaseOf case state) where
  abbrev w : Case
  w = whole case state

  abbrev request : Request
  request = case.request.now

  -- what is a function of the opened file
  known : {A : Type 0} (f : Opened → A) → f (opened w) ≡ f (as_opened (definition_here case))
  known f = ap f (opened_is case state is)

  no_file_is : no_file w ≡ no_file_here case
  no_file_is =
      known (λ o. option_and_then (λ file. refused_if (is_unknown o || is_catalog_changing w) NoFile)
      (file_of request))
      ∙ ap
      (λ (b : Bool). option_and_then
      (λ file. refused_if (is_unknown (as_opened (definition_here case)) || b) NoFile)
      (file_of request)) (sym is.changing)

  stopped_is : stopped w ≡ stopped_here case
  stopped_is = ap (λ (s : Option ℕ). option_map Stopped s) (sym is.stopped)

  pub before_is : before_here case ≡ first_of (before_all w)
  before_is = sym
      (placed_first (no_file w) (no_file_here case) (stopped w ∷ []) (stopped_here case) no_file_is
      (first_of-cons (stopped w) [] ∙ option_or-none (stopped w) ∙ stopped_is))

  abbrev slot : Option Refusal
  slot = slot_by (definition_here case) request

  slot_is : bad_slot w ≡ slot
  slot_is =
      known (λ o. option_and_then (λ place. refused_if (is_slot_zero o place) BadSlot)
      (slot_named request))

  no_position_is : no_position w ≡ no_position_here case
  no_position_is =
      ap (λ (o : Option Stand). refused_if (is_sequential request
      && option_map_or is_nowhere o false) NoPosition) (sym is.stand)

  no_get_is : no_get w ≡ no_get_here case
  no_get_is = ap
      (λ (o : Option (List ℕ)). refused_if (acts_on_held request && is_none o) NoGet)
      (sym is.held)

  abbrev allowed : Option Refusal
  allowed =
      refused_if (not (goes_with_kind (as_opened (definition_here case)) request)) NotAllowed

  abbrev long : Option Refusal
  long = length_wrong (as_opened (definition_here case)) request

  allowed_is : not_allowed w ≡ allowed
  allowed_is = known (λ o. refused_if (not (goes_with_kind o request)) NotAllowed)

  long_is : bad_length w ≡ long
  long_is = known (λ o. length_wrong o request)

  tried_is : first_of (file_refusals w)
      ≡ option_or (no_file_here case) (option_or (stopped_here case)
      (option_or allowed (option_or slot (option_or long (placed_here case)))))
  tried_is =
      let last = first_of-cons (no_get w) [] ∙ option_or-none (no_get w) ∙ no_get_is in
      placed_first (no_file w) _ _ _ no_file_is
      (placed_first (stopped w) _ _ _ stopped_is
      (placed_first (not_allowed w) _ _ _ allowed_is
      (placed_first (bad_slot w) _ _ _ slot_is
      (placed_first (bad_length w) _ _ _ long_is
      (placed_first (no_position w) _ _ _ no_position_is last)))))

  pub file_is : file_here case ≡ first_of (file_refusals w)
  file_is = sym
      (tried_is
      ∙ ap (λ (o : Option Refusal). option_or (no_file_here case)
      (option_or (stopped_here case) (option_or allowed o)))
      (option_or-assoc slot long (placed_here case))
      ∙ ap (λ (o : Option Refusal). option_or (no_file_here case)
      (option_or (stopped_here case) o))
      (option_or-assoc allowed (option_or slot long) (placed_here case))
      ∙ by_definition (definition_here case) case.catalog_changing request (stopped_here case)
      (placed_here case)
      ∙ option_or-assoc (no_file_here case) (stopped_here case) (asked_here case))

-- ---- a volume that stopped

last_of_or : {A : Type 0} (a b : Option A) → option_or a b ≡ None → b ≡ None
last_of_or None b none = none
last_of_or (Some x) b none = absurd cc

first_of_or : {A : Type 0} (a b : Option A) → option_or a b ≡ None → a ≡ None
first_of_or None b none = refl
first_of_or (Some x) b none = none

none_mapped : {A B : Type 0} (f : A → B) (o : Option A) → option_map f o ≡ None → o ≡ None
none_mapped f None none = refl
none_mapped f (Some x) none = absurd cc

-- where there is no refusal, the volume hasn't stopped
pub stopped_refused : (case : CaseInHand) → file_here case ≡ None → case.stopped ≡ None
stopped_refused case none =
    none_mapped Stopped case.stopped
    (last_of_or (no_file_here case) (stopped_here case)
    (first_of_or (before_here case) (asked_here case) none))
