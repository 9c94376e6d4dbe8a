-- The parts of a volume by their numbers, and what a call that works on one of them leaves of the
-- others. The rules are this project's own.
use Rattle.std.specs.Prelude.{◌≡◌, ◌≢◌, ℕ, ◌≤◌, cond, List, [], ◌∷◌, map, None, IfSome, ◌⊎◌}
use Rattle.vr_types.specs.declared.unit.StageKind.{StageKind}
use Rattle.vr_space.specs.Known.{MeetsPlace}
use Rattle.vr_space.specs.Part.{HasMore}
use Rattle.vr_store.specs.Store.{PartNow, has_number, part_among}

-- the list with another part in the place of the first of this number
abbrev pub with_part : ℕ → PartNow → List PartNow → List PartNow
with_part number after [] = []
with_part number after (part ∷ parts) =
    cond (has_number number part) (after ∷ parts) (part ∷ with_part number after parts)

-- a part by its splits under way, its areas and how many intervals they use alone, and but for all
-- that it keeps of its blocks
abbrev pub but_met : PartNow → PartNow
but_met part = record part {
  known = record {
    split = part.known.split;
    move = part.known.move;
    met = [];
    most = 0;
    areas = part.known.areas;
    ends = [];
    used = part.known.used;
    tail = None;
  };
}

abbrev pub but_split : PartNow → PartNow
but_split part = record part {
  known = record {
    split = None;
    move = None;
    met = [];
    most = 0;
    areas = [];
    ends = [];
    used = 0;
    tail = None;
  };
}

-- each other part stays as it is
abbrev pub OthersStay : ℕ → List PartNow → List PartNow → Type 0
OthersStay number old new = (other : ℕ) → other ≢ number
    → part_among new other ≡ part_among old other

-- What a stage of the part of this number leaves, where this many areas were free before it and
-- are free now: fewer stages than before, and as many intervals more as it adds.
abbrev pub HasMoreAt : ℕ → StageKind → List PartNow → List PartNow → ℕ → ℕ → Type 0
HasMoreAt number kind old new free now = IfSome (part_among old number) (λ (before : PartNow).
    IfSome (part_among new number) (λ (after : PartNow).
    HasMore before.shape kind before.known after.known free now))

-- The part of this number met a place, and while it has room to keep one more it keeps each place
-- that it met before.
abbrev pub MeetsNext : ℕ → List ℕ → List PartNow → List PartNow → Type 0
MeetsNext number place old new = IfSome (part_among old number) (λ (before : PartNow).
    IfSome (part_among new number) (λ (after : PartNow).
    MeetsPlace place before.known after.known))

-- The part of this number has met no place, and has room to keep what it meets at this many.
abbrev pub HasRoomToMeet : ℕ → ℕ → List PartNow → Type 0
HasRoomToMeet number count parts = IfSome (part_among parts number) (λ (part : PartNow).
    (part.known.met ≡ []) × (count ≤ part.known.most))

-- A part that forgot what it met, or did not, and may have room to keep more: all else stays.
pub record Forgets (before after : PartNow) : Type 0 where
  pub number : after.number ≡ before.number
  pub shape : after.shape ≡ before.shape
  pub known : after.known
      ≡ record before.known { met = after.known.met; most = after.known.most }
  pub met : after.known.met ≡ before.known.met ⊎ after.known.met ≡ []

-- so it is of the part of this number, and each other part stays in its place
abbrev pub ForgetsAt : ℕ → List PartNow → List PartNow → Type 0
ForgetsAt number old new = IfSome (part_among old number) (λ (before : PartNow).
    (after : PartNow) × Forgets before after × (new ≡ with_part number after old))

-- Of the part of this number alone there is something new: what it keeps beside its splits, its
-- areas and how many intervals they use,
pub record OnlyMet (number : ℕ) (old new : List PartNow) : Type 0 where
  pub parts : map but_met new ≡ map but_met old
  pub others : OthersStay number old new

-- or all that it keeps of its blocks.
pub record OnlySplit (number : ℕ) (old new : List PartNow) : Type 0 where
  pub parts : map but_split new ≡ map but_split old
  pub others : OthersStay number old new
