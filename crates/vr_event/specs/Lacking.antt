-- Where a change is refused with NoSpace: the part of its file lacks room for its record, by the rule
-- of the part. The words are this project's own.
use Rattle.std.specs.Prelude.{◌≡◌, ℕ, List, Option, Some, IfSome, length}
use Rattle.vr_types.specs.Image.{Image}
use Rattle.vr_types.specs.Space.{free_count}
use Rattle.vr_types.specs.declared.reply.Refusal.{Refusal}
use Rattle.vr_types.specs.declared.reply.Refusal.TheVariants.{EndOfData, Duplicate, NotFound}
use Rattle.vr_types.specs.declared.reply.Refusal.TheVariants.{NoAddress, NoSpace, NoPosition, NoGet}
use Rattle.vr_types.specs.declared.reply.Refusal.TheVariants.{KeyChanged, LengthChanged, BadLength}
use Rattle.vr_types.specs.declared.reply.Refusal.TheVariants.{BadSlot, Held, LogFull, Stopped}
use Rattle.vr_types.specs.declared.reply.Refusal.TheVariants.{ReadFault, WriteFault}
use Rattle.vr_types.specs.declared.reply.Refusal.TheVariants.{Memory as NoMemory}
use Rattle.vr_types.specs.declared.reply.Refusal.TheVariants.{NotAllowed, NoFile}
use Rattle.vr_types.specs.declared.request.Request.{Request}
use Rattle.vr_space.specs.Part.{room_of}
use Rattle.vr_space.specs.declared.room.Room.TheVariants as answers
use Rattle.vr_answer.specs.Here.{base_here}
use Rattle.vr_history.specs.Case.{Case, new_record}
use Rattle.vr_history.specs.RefusedRoom.{no_space}
use Rattle.vr_undo.specs.Records.{images_in}
use Rattle.vr_volume.specs.PutBack.{lengths_kept}
use Rattle.vr_store.specs.Store.{PartNow, StoreNow, part_among}
use Rattle.vr_event.specs.declared.weighing.Weighed.{Weighed}
use Rattle.vr_event.specs.declared.weighing.Weighed.TheVariants.{Refused, Stage, Ready}

-- The part of this number lacks room for the record that a request gives this place, beside what
-- stands in these blocks and what is kept for the places of the part: so it answers, with the areas
-- that it needs and those that are free to it.
pub record LacksRoomIn (store : StoreNow) (image : Image) (number : ℕ) (place : List ℕ)
    (request : Request) (need free : ℕ) : Type 0 where
  pub part : PartNow
  pub there : part_among store.parts number ≡ Some part
  pub bytes : List ℕ
  pub given : new_record request ≡ Some bytes
  pub lacks : room_of part.shape part.known image (free_count store.space)
      (lengths_kept (images_in store.undo) number) place (length bytes) ≡ answers.NoSpace need free

-- it is the part of the request's file
abbrev pub IsLacking : StoreNow → Image → List ℕ → Request → ℕ → ℕ → Type 0
IsLacking store image place request need free =
    LacksRoomIn store image (base_here request) place request need free

-- ---- of what is decided

-- a fact of the numbers of a refusal for want of areas
abbrev pub IfNoSpace : (ℕ → ℕ → Type 0) → Refusal → Type 0
IfNoSpace fact (NoSpace need free) = fact need free
IfNoSpace fact EndOfData = Unit {0}
IfNoSpace fact (Duplicate part) = Unit {0}
IfNoSpace fact NotFound = Unit {0}
IfNoSpace fact NoAddress = Unit {0}
IfNoSpace fact NoPosition = Unit {0}
IfNoSpace fact NoGet = Unit {0}
IfNoSpace fact KeyChanged = Unit {0}
IfNoSpace fact LengthChanged = Unit {0}
IfNoSpace fact (BadLength length) = Unit {0}
IfNoSpace fact BadSlot = Unit {0}
IfNoSpace fact (Held holder name mode) = Unit {0}
IfNoSpace fact (LogFull used need size) = Unit {0}
IfNoSpace fact (Stopped stamp) = Unit {0}
IfNoSpace fact ReadFault = Unit {0}
IfNoSpace fact WriteFault = Unit {0}
IfNoSpace fact NoMemory = Unit {0}
IfNoSpace fact NotAllowed = Unit {0}
IfNoSpace fact NoFile = Unit {0}

-- and of those of a change that comes to it
abbrev pub IfLacks : (ℕ → ℕ → Type 0) → Weighed → Type 0
IfLacks fact (Refused refusal) = IfNoSpace fact refusal
IfLacks fact (Stage place n) = Unit {0}
IfLacks fact (Ready place old reply names) = Unit {0}

-- it is no refusal for want of areas
abbrev pub IsElse : Refusal → Type 0
IsElse refusal = IfNoSpace (λ need free. ⊥) refusal

abbrev pub AreElse : Option Refusal → Type 0
AreElse refused = IfSome refused IsElse

-- The state refuses a change so for want of areas: its data set is one whose places are numbers.
abbrev pub IsWanting : Case → ℕ → ℕ → Type 0
IsWanting case need free = no_space case ≡ Some (NoSpace need free)

abbrev pub AreWanting : Case → Option Refusal → Type 0
AreWanting case refused = IfSome refused (IfNoSpace (IsWanting case))
