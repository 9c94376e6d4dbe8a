-- Which refusals are for want of areas: that of a part that lacks room, with the part's numbers, and
-- of a data set whose places are numbers the one that the state says.
use Rattle.std.proofs.Common.{◌≡◌, ◌≢◌, ◌⊎◌, ⊎_elim, ℕ, Bool, true, false, List, [], ◌∷◌}
use Rattle.std.proofs.Common.{Option, Some, None, refl, sym, ap, subst, ◌∙◌, length}
use Rattle.std.specs.Prelude.{IfSome}
use Rattle.std.specs.Option.{option_and_then, option_map}
use Rattle.vr_catalog.specs.declared.definition.Definition.{Definition}
use Rattle.vr_types.specs.Image.{Image, block_at}
use Rattle.vr_types.specs.Space.{free_count}
use Rattle.vr_types.specs.declared.fault.DeviceFault.TheVariants.{Read, Write}
use Rattle.vr_types.specs.declared.reply.Refusal.{Refusal}
use Rattle.vr_types.specs.declared.reply.Refusal.TheVariants.{BadSlot, KeyChanged}
use Rattle.vr_types.specs.declared.reply.Refusal.TheVariants.{LengthChanged, LogFull, NoFile, NoGet}
use Rattle.vr_types.specs.declared.reply.Refusal.TheVariants.{Memory as NoMemory}
use Rattle.vr_types.specs.declared.reply.Refusal.TheVariants.{NoPosition, NoSpace, NotAllowed}
use Rattle.vr_types.specs.declared.reply.Refusal.TheVariants.{NotFound, Stopped}
use Rattle.vr_types.specs.declared.reply.Reply.TheVariants.{Refused}
use Rattle.vr_types.specs.declared.request.FileRef.{FileRef}
use Rattle.vr_types.specs.declared.request.Request.{Request}
use Rattle.vr_types.specs.declared.request.Request.TheVariants.{Get, Point, Add, Update, Erase}
use Rattle.vr_types.specs.declared.request.Request.TheVariants.{EndReq, Commit, Backout}
use Rattle.vr_types.specs.declared.unit.Kind.TheVariants.{Keyed}
use Rattle.vr_types.specs.declared.unit.StageKind.{StageKind}
use Rattle.vr_space.specs.Known.{Known}
use Rattle.vr_space.specs.Part.{KeyedShape, NumberedShape, Shape, room_of}
use Rattle.vr_space.specs.Room.{Lengths}
use Rattle.vr_space.specs.Areas.{area_for, area_of}
use Rattle.vr_space.specs.Keyed.{Keyed as KeyedArea}
use Rattle.vr_space.specs.Split.{area_fits, area_stage, can_grow, free_interval, keyed_room_by}
use Rattle.vr_space.specs.Split.{move_stage, room_after, room_by, room_by_split, split_in}
use Rattle.vr_space.specs.Split.{stage_under}
use Rattle.vr_space.specs.declared.room.Room.TheVariants as answers
use Rattle.vr_history.specs.Case.{Case, file_of, new_record}
use Rattle.vr_history.specs.Change.{place_changed}
use Rattle.vr_history.specs.Opened.{ByPath, Cluster, Opened, Unknown, definition_in, opened}
use Rattle.vr_history.specs.RefusedFile.{bad_slot, is_slot_zero, length_wrong, no_file}
use Rattle.vr_history.specs.RefusedFile.{record_wrong, refused_if, slot_named}
use Rattle.vr_history.specs.RefusedRecord.{absent_to, conflict_in, held_by, taken_twice}
use Rattle.vr_history.specs.RefusedRoom.{free_areas, lacks, log_full, need_at, no_space}
use Rattle.vr_history.specs.Replies.{done_by, first_of, lacks_area}
use Rattle.vr_undo.specs.Records.{images_in}
use Rattle.vr_volume.specs.PutBack.{lengths_kept}
use Rattle.vr_answer.specs.Tried.{file_refusals, record_refusals}
use Rattle.vr_event.specs.Getting.{refusal_of}
use Rattle.vr_event.specs.Lacking.{AreElse, AreWanting, IfLacks, IfNoSpace, IsElse, IsWanting}
use Rattle.vr_event.specs.Lacking.{LacksRoomIn}
use Rattle.vr_event.specs.Putting.{IsChange, IsKeyedShape}
use Rattle.vr_store.specs.Room.{IsRoomAt}
use Rattle.vr_store.specs.Store.{PartNow, StoreNow, part_among}
use Rattle.vr_store.specs.declared.no.LookNo.{LookNo}
use Rattle.vr_store.specs.declared.no.LookNo.TheVariants.{Fault, Memory}
use Rattle.vr_event.specs.declared.weighing.Weighed.{Weighed}
use Rattle.vr_event.specs.declared.weighing.Weighed.TheVariants as weighed

-- ---- what a part answers

-- one area is needed, and none is free to it
needs-one : (need left : ℕ) → answers.NoSpace 1 0 ≡ answers.NoSpace need left
    → NoSpace need left ≡ lacks_area
needs-one need left is =
    let needs : need ≡ 1 = cc in
    let lefts : left ≡ 0 = cc in
    ap (λ (n : ℕ). NoSpace n left) needs ∙ ap (λ (n : ℕ). NoSpace 1 n) lefts

-- a part answers so only where no split is under way, no interval is free, and its area can't be
-- split
lacks-after : (move stage : Option StageKind) (fits : Bool) (under : Option StageKind)
    (free : Option ℕ) (grows : Bool) (need left : ℕ)
    → room_after move (room_after stage (room_by fits (room_by_split under free grows)))
    ≡ answers.NoSpace need left → NoSpace need left ≡ lacks_area
lacks-after (Some move) stage fits under free grows need left is = absurd cc
lacks-after None (Some stage) fits under free grows need left is = absurd cc
lacks-after None None true under free grows need left is = absurd cc
lacks-after None None false (Some under) free grows need left is = absurd cc
lacks-after None None false None (Some interval) grows need left is = absurd cc
lacks-after None None false None None true need left is = absurd cc
lacks-after None None false None None false need left is = needs-one need left is

-- A keyed part that lacks room answers that it needs one area, and that none is free to it.
pub room-lacks : (shape : Shape) (known : Known) (image : Image) (free : ℕ) (kept : Lengths)
    (place : List ℕ) (n need left : ℕ) → IsKeyedShape shape
    → room_of shape known image free kept place n ≡ answers.NoSpace need left
    → NoSpace need left ≡ lacks_area
room-lacks (NumberedShape part) known image free kept place n need left keyed is = absurd keyed
room-lacks (KeyedShape part) known image free kept place n need left keyed is =
    by_area (area_for part image place) is
  where
    by_area : (found : Option ℕ)
        → keyed_room_by part known.split known.move image free kept place n found
        ≡ answers.NoSpace need left → NoSpace need left ≡ lacks_area
    by_area None one = needs-one need left one
    by_area (Some area) one =
        let here : KeyedArea = area_of part area in
        let top = block_at image here.head in
        lacks-after (move_stage known.move area)
        (area_stage here (split_in known.split area) image place)
        (area_fits here image kept place n) (stage_under known.split known.move)
        (free_interval here top) (can_grow free top) need left one

module _ (store : StoreNow) (image : Image) (number : ℕ) (place : List ℕ) (n need left : ℕ)
    (laid : part_among store.parts number ≢ None)
    (room : IsRoomAt store image number place n (answers.NoSpace need left)) where
  -- it lacks room for the record that the request gives
  pub lacking : (request : Request) (bytes : List ℕ) → new_record request ≡ Some bytes
      → n ≡ length bytes → LacksRoomIn store image number place request need left
  lacking request bytes given long = of (part_among store.parts number) refl laid room
    where
      of : (found : Option PartNow) → part_among store.parts number ≡ found → found ≢ None
          → IfSome found (λ (one : PartNow). answers.NoSpace need left
          ≡ room_of one.shape one.known image (free_count store.space)
          (lengths_kept (images_in store.undo) number) place n)
          → LacksRoomIn store image number place request need left
      of None there some is = absurd (some refl)
      of (Some one) there some is = record {
        part = one;
        there = there;
        bytes = bytes;
        given = given;
        lacks = sym (subst (λ (m : ℕ). answers.NoSpace need left
            ≡ room_of one.shape one.known image (free_count store.space)
            (lengths_kept (images_in store.undo) number) place m) long is);
      }

pub long-some : (request : Request) (n : ℕ) (bytes : List ℕ) → new_record request ≡ Some bytes
    → IfSome (new_record request) (λ (bytes : List ℕ). n ≡ length bytes) → n ≡ length bytes
long-some request n bytes given long =
    subst (λ (o : Option (List ℕ)). IfSome o (λ (bytes : List ℕ). n ≡ length bytes)) given long

-- ---- what refusals are

-- of some, a fact of the numbers of each that is for want of areas
abbrev Are : (ℕ → ℕ → Type 0) → Option Refusal → Type 0
Are fact refused = IfSome refused (IfNoSpace fact)

module _ (fact : ℕ → ℕ → Type 0) where
  are-if : (test : Bool) (refusal : Refusal) → IfNoSpace fact refusal
      → Are fact (refused_if test refusal)
  are-if false refusal is = tt
  are-if true refusal is = is

  are-map : {T : Type 0} (f : T → Refusal) → ((t : T) → IfNoSpace fact (f t)) → (o : Option T)
      → Are fact (option_map f o)
  are-map f each None = tt
  are-map f each (Some t) = each t

  are-then : {T : Type 0} (f : T → Option Refusal) → ((t : T) → Are fact (f t)) → (o : Option T)
      → Are fact (option_and_then f o)
  are-then f each None = tt
  are-then f each (Some t) = each t

  abbrev EachIs : List (Option Refusal) → Type 0
  EachIs [] = Unit {0}
  EachIs (refused ∷ rest) = Are fact refused × EachIs rest

  first-is : (refusals : List (Option Refusal)) → EachIs refusals → Are fact (first_of refusals)
  first-is [] each = tt
  first-is (None ∷ rest) each = first-is rest each.1
  first-is (Some refusal ∷ rest) each = each.0

  record-is : (opened : Opened) (bytes : List ℕ) → Are fact (record_wrong opened bytes)
  record-is Unknown bytes = tt
  record-is (Cluster definition) bytes = are-if _ _ tt
  record-is (ByPath definition alternate) bytes = are-if _ _ tt

  length-is : (opened : Opened) (request : Request) → IsChange request
      → Are fact (length_wrong opened request)
  length-is opened (Add on place bytes) change = record-is opened bytes
  length-is opened (Update on bytes) change = record-is opened bytes
  length-is opened (Erase on) change = tt
  length-is opened (Get on find update integrity) change = absurd change
  length-is opened (Point on find) change = absurd change
  length-is opened (EndReq on) change = absurd change
  length-is opened Commit change = absurd change
  length-is opened Backout change = absurd change

  absent-is : (case : Case) (request : Request) → IsChange request
      → Are fact (absent_to case request)
  absent-is case (Add on place bytes) change = tt
  absent-is case (Update on bytes) change = tt
  absent-is case (Erase on) change = tt
  absent-is case (Get on find update integrity) change = absurd change
  absent-is case (Point on find) change = absurd change
  absent-is case (EndReq on) change = absurd change
  absent-is case Commit change = absurd change
  absent-is case Backout change = absurd change

-- each is itself
self-wanting : (refused : Option Refusal)
    → Are (λ need free. refused ≡ Some (NoSpace need free)) refused
self-wanting None = tt
self-wanting (Some (NoSpace need free)) = refl
self-wanting (Some _) = tt

module _ (case : Case) (change : IsChange case.request) where
  abbrev Never : ℕ → ℕ → Type 0
  Never need free = ⊥

  -- by what is in memory none is for want of areas,
  no-file-else : AreElse (no_file case)
  no-file-else = are-then Never (λ (file : FileRef). refused_if _ NoFile)
      (λ file. are-if Never _ NoFile tt) (file_of case.request)

  slot-else : AreElse (bad_slot case)
  slot-else = are-then Never
      (λ (place : List ℕ). refused_if (is_slot_zero (opened case) place) BadSlot)
      (λ place. are-if Never _ BadSlot tt) (slot_named case.request)

  pub file-else : AreElse (first_of (file_refusals case))
  file-else = first-is Never (file_refusals case) (
    no-file-else,
    (
      are-map Never Stopped (λ stamp. tt) case.state.stopped,
      (
        are-if Never _ NotAllowed tt,
        (
          slot-else,
          (
            length-is Never (opened case) case.request change,
            (
              are-if Never _ NoPosition tt,
              (are-if Never _ NoGet tt, tt),
            ),
          ),
        ),
      ),
    ),
  )

  -- and by the record at its place and by locks the one that the state says
  pub refused-wanting : AreWanting case (first_of (record_refusals case))
  refused-wanting = first-is (IsWanting case) (record_refusals case) (
    are-if (IsWanting case) _ NotFound tt,
    (
      are-if (IsWanting case) _ KeyChanged tt,
      (
        are-if (IsWanting case) _ LengthChanged tt,
        (
          are-map (IsWanting case) held_by (λ lock. tt) (conflict_in case),
          (
            absent-is (IsWanting case) case case.request change,
            (
              are-if (IsWanting case) _ _ tt,
              (
                are-map (IsWanting case) _ (λ move. tt) (taken_twice case),
                (self-wanting (no_space case), tt),
              ),
            ),
          ),
        ),
      ),
    ),
  )

-- a key-sequenced cluster has no areas of numbered places
no-need : (case : Case) (definition : Definition) → definition.kind ≡ Keyed
    → (place new : Option (List ℕ))
    → option_and_then (λ (at : List ℕ). option_and_then (need_at case definition at) new) place
    ≡ None
no-need case definition keyed None new = refl
no-need case definition keyed (Some at) None = refl
no-need case definition keyed (Some at) (Some bytes) = need-none case definition keyed at bytes
  where
    need-none : (case : Case) (definition : Definition) → definition.kind ≡ Keyed
        → (at bytes : List ℕ) → need_at case definition at bytes ≡ None
    need-none case definition keyed at bytes =
        subst (λ (kind : _). need_at case (record definition { kind = kind }) at bytes ≡ None)
        (sym keyed) refl

pub keyed-none : (case : Case) (definition : Definition)
    → definition_in (opened case) ≡ Some definition → definition.kind ≡ Keyed
    → no_space case ≡ None
keyed-none case definition on keyed =
    ap (λ (need : Option ℕ). option_and_then (lacks (free_areas case)) need)
    (ap (λ (o : Option Definition). option_and_then (λ (one : Definition).
    option_and_then (λ (at : List ℕ).
    option_and_then (need_at case one at) (new_record case.request)) (place_changed case)) o) on
    ∙ no-need case definition keyed (place_changed case) (new_record case.request))

-- by the log none is
pub log-else : (case : Case) → AreElse (log_full case)
log-else case = are-if (λ need free. ⊥) _ (LogFull _ _ _) tt

any-fact : (fact : ℕ → ℕ → Type 0) (refusal : Refusal) → IsElse refusal → IfNoSpace fact refusal
any-fact fact (NoSpace need free) other = absurd other
any-fact fact _ other = tt

-- whatever is said of the numbers of one that is none
pub lacks-any : (fact : ℕ → ℕ → Type 0) (found : Weighed) → IfLacks (λ need free. ⊥) found
    → IfLacks fact found
lacks-any fact (weighed.Refused refusal) other = any-fact fact refusal other
lacks-any fact (weighed.Stage place n) other = tt
lacks-any fact (weighed.Ready place old reply names) other = tt

-- and of those of some of which one is said
pub are-fact : (one fact : ℕ → ℕ → Type 0) → ((need free : ℕ) → one need free → fact need free)
    → (refusal : Refusal) → IfNoSpace one refusal → IfNoSpace fact refusal
are-fact one fact each (NoSpace need free) has = each need free has
are-fact one fact each _ has = tt

pub are-any : (fact : ℕ → ℕ → Type 0) (refused : Option Refusal) → AreElse refused
    → IfSome refused (IfNoSpace fact)
are-any fact None other = tt
are-any fact (Some refusal) other = any-fact fact refusal other

pub unless-is : (fact : ℕ → ℕ → Type 0) (refusal result : Refusal)
    → (result ≡ refusal) ⊎ (result ≡ NoMemory) → IfNoSpace fact refusal → IfNoSpace fact result
unless-is fact refusal result is has = ⊎_elim
    (λ same. subst (IfNoSpace fact) (sym same) has)
    (λ memory. subst (IfNoSpace fact) (sym memory) tt) is

pub look-else : (fact : ℕ → ℕ → Type 0) (no : LookNo) → IfNoSpace fact (refusal_of no)
look-else fact (Fault Read) = tt
look-else fact (Fault Write) = tt
look-else fact Memory = tt

-- ---- what was refused so

pub fact-of : (fact : ℕ → ℕ → Type 0) (refusal : Refusal) (need free : ℕ) → IfNoSpace fact refusal
    → Refused refusal ≡ Refused (NoSpace need free) → fact need free
fact-of fact refusal need free has is =
    let same : refusal ≡ NoSpace need free = cc in subst (IfNoSpace fact) same has

-- nothing that is done is refused
pub done-unrefused : (case : Case) (request : Request) (refusal : Refusal)
    → done_by case request ≡ Refused refusal → ⊥
done-unrefused case (Add on place bytes) refusal is = cc
done-unrefused case (Update on bytes) refusal is = cc
done-unrefused case (Erase on) refusal is = cc
done-unrefused case (Get on find update integrity) refusal is = cc
done-unrefused case (Point on find) refusal is = cc
done-unrefused case (EndReq on) refusal is = cc
done-unrefused case Commit refusal is = cc
done-unrefused case Backout refusal is = cc
