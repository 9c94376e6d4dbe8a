-- A call that puts nothing of a keyed part at rest, and then a stage of a split.
use Rattle.std.proofs.Common.{◌≡◌, ◌⊎◌, [], ℕ, All, Bool, IsTrue, List, Option, Some, None, refl}
use Rattle.std.proofs.Common.{subst, sym}
use Rattle.std.proofs.lemmas.List.Elements.{All-nil}
use Rattle.vr_types.specs.Blocks.{Keeps}
use Rattle.vr_types.specs.Seen.{Left, Seen}
use Rattle.vr_types.proofs.CallerLemmas.{touches-then}
use Rattle.vr_space.specs.Areas.{ChainKeepsRoom, IsChainAtRest, KeyedChain, area_of}
use Rattle.vr_space.specs.Keyed.{Keyed}
use Rattle.vr_space.specs.Known.{Known}
use Rattle.vr_space.specs.Met.{IsChainMet, Met}
use Rattle.vr_space.specs.Moves.{OwnsInto}
use Rattle.vr_space.specs.Owners.{Owners}
use Rattle.vr_space.specs.Part.{HasRoom, InPart, IsQuiet, IsSound, KeyedShape, Knows, Nothing}
use Rattle.vr_space.specs.Room.{Lengths}
use Rattle.vr_space.specs.Split.{AreaSplit, MoveNow, SplitNow}
use Rattle.vr_space.proofs.CallerLemmas.{due-keeps, due-then, keeps-adds, keeps-rooms, knows-keeps}
use Rattle.vr_space.proofs.CallerLemmas.{nothing-then, records-then, rest-keeps, rest-sound}
use Rattle.vr_space.proofs.CallerLemmas.{resting-stands, room-keeps, same-keeps}
use Rattle.vr_attach.specs.Areas.{AreasNow}
use Rattle.vr_casplit.specs.Splits.{begun_at}
use Rattle.vr_keyed.specs.Changed.{IsDoneIn, KeepsIn}
use Rattle.vr_keyed.specs.Owned.{known_by, split_at}
use Rattle.vr_keyed.specs.Slots.{LeavesMet}
use Rattle.vr_keyed.proofs.Known.{IsPlaced, area-known, knows-still, leaves-met, none-or-left}

-- A part between two calls: at rest, with room for what is kept, and known.
pub record IsBetween (part : KeyedChain) (known : Known) (kept : Lengths) (now : Seen) : Type 0
  where
    pub quiet : IsQuiet (KeyedShape part) now
    pub left : Left now now.cur
    pub room : ChainKeepsRoom part kept now
    pub knows : Knows (KeyedShape part) known now

module _ (part : KeyedChain) (tells : Bool) (told : IsTrue tells) (a b : Seen)
    (call : Keeps tells a b) (quiet : IsQuiet (KeyedShape part) a) where
  -- the areas of the part, with a count of its intervals
  abbrev chain_with : List ℕ → List (List ℕ) → ℕ → AreasNow
  chain_with areas ends count =
      record { part = part; areas = areas; ends = ends; intervals = count }

  sound : IsSound (KeyedShape part) quiet.0 a
  sound = rest-sound (KeyedShape part) quiet.0 a quiet.1

  still : (owners : Owners) → IsChainAtRest part owners a → IsChainAtRest part owners b
  still owners rests = rest-keeps tells told (KeyedShape part) owners a b call rests

  -- ---- before the stage

  -- The part is at rest,
  pub quiet-then : IsQuiet (KeyedShape part) b
  quiet-then = (quiet.0, still quiet.0 quiet.1)

  -- has room for what is kept,
  pub room-then : (kept : Lengths) → ChainKeepsRoom part kept a → ChainKeepsRoom part kept b
  room-then kept room =
      room-keeps tells told (KeyedShape part) quiet.0 kept a b call sound room

  -- knows what it knew,
  pub knows-then : (known : Known) → Left a a.cur → Knows (KeyedShape part) known a
      → Knows (KeyedShape part) known b
  knows-then known left knows =
      knows-keeps tells told (KeyedShape part) quiet.0 known a b call sound left knows

  -- even where it forgets what it met.
  pub knows-less : (areas : List ℕ) (ends : List (List ℕ)) (count : ℕ) (split : Option AreaSplit)
      (move : Option MoveNow) (met : List Met) → Left a a.cur
      → Knows (KeyedShape part) (known_by (chain_with areas ends count) split move met) a
      → Knows (KeyedShape part) (known_by (chain_with areas ends count) split move []) b
  knows-less areas ends count split move met left knows =
      let same : Knows (KeyedShape part) (known_by (chain_with areas ends count) split move met) b =
      knows-then (known_by (chain_with areas ends count) split move met) left knows in
      record {
        way = same.way;
        blocks = (same.blocks.0, All-nil (IsChainMet part b.cur), same.blocks.2);
      }

  -- So it is between two calls then.
  pub between : (known : Known) (kept : Lengths) → Left a a.cur → Left b b.cur
      → ChainKeepsRoom part kept a → Knows (KeyedShape part) known a
      → IsBetween part known kept b
  between known kept before after room knows = record {
    quiet = quiet-then;
    left = after;
    room = room-then kept room;
    knows = knows-then known before knows;
  }

  -- ---- and after it

  module _ (move : Option MoveNow) where
    -- What the stage keeps both keep,
    pub keeps-then : (kept : Lengths) (c : Seen) → ChainKeepsRoom part kept a
        → KeepsIn part move kept b c → KeepsIn part move kept a c
    keeps-then kept c room after = record {
      adds = λ owners rests owns. nothing-then (KeyedShape part) owners Nothing a b c
          (keeps-adds tells told (KeyedShape part) owners a b call
          (rest-sound (KeyedShape part) owners a rests))
          (after.adds owners (still owners rests) owns);
      same = records-then (KeyedShape part) a.cur b.cur c.cur
          (same-keeps tells told (KeyedShape part) a b call) after.same;
      room = after.room;
      rooms = λ owners rests owns. touches-then (InPart (KeyedShape part) owners)
          (HasRoom (KeyedShape part) kept) a b c
          (keeps-rooms tells told (KeyedShape part) owners kept a b call
          (rest-sound (KeyedShape part) owners a rests) room)
          (after.rooms owners (still owners rests) owns);
    }

    -- and so does the call alone.
    pub keeps-read : (kept : Lengths) → ChainKeepsRoom part kept a → KeepsIn part move kept a b
    keeps-read kept room = record {
      adds = λ owners rests owns. keeps-adds tells told (KeyedShape part) owners a b call
          (rest-sound (KeyedShape part) owners a rests);
      same = same-keeps tells told (KeyedShape part) a b call;
      room = room-then kept room;
      rooms = λ owners rests owns. keeps-rooms tells told (KeyedShape part) owners kept a b call
          (rest-sound (KeyedShape part) owners a rests) room;
    }

    -- Where the stage is done both are,
    pub done-then : (known : Known) (c : Seen) → IsDoneIn part move known b c
        → IsDoneIn part move known a c
    done-then known c after = record {
      due = due-then (KeyedShape part) [] a b c
          (due-keeps tells told (KeyedShape part) quiet.0 a b call sound) after.due;
      rests = λ owners rests owns. after.rests owners (still owners rests) owns;
      knows = after.knows;
    }

    -- and so is the call alone.
    pub done-read : (known : Known) → Knows (KeyedShape part) known b
        → IsDoneIn part move known a b
    done-read known knows = record {
      due = due-keeps tells told (KeyedShape part) quiet.0 a b call sound;
      rests = λ owners rests owns. still owners rests;
      knows = knows;
    }

-- ---- a split of an interval that doesn't begin

-- A part between two calls knows what it knew, where a call met something of an area, put nothing,
-- and failed before its split began.
pub knows-failed : (chain : AreasNow) (place : List ℕ) (area : ℕ) (layout : Keyed)
    → IsPlaced chain place area layout → (tells : Bool) (told : IsTrue tells) (a b : Seen)
    → Keeps tells a b → (split : Option AreaSplit) (move : Option MoveNow) (old new : List Met)
    (kept : Lengths) → IsBetween chain.part (known_by chain split move old) kept a → split ≡ None
    → (new ≡ []) ⊎ LeavesMet layout tells a.cur place old new
    → (next : Option SplitNow) (same : Option MoveNow) → next ≡ None → same ≡ move
    → Knows (KeyedShape chain.part) (known_by chain (split_at area next) same new) b
knows-failed chain place area layout placed tells told a b call split move old new kept now none
    leaves next same failed still =
    let met : All (IsChainMet chain.part a.cur) new =
    none-or-left layout (area_of chain.part area) placed.layout_is tells a.cur place
    (IsChainMet chain.part a.cur) old new
    (λ left. leaves-met chain.part tells a.cur place area told
    (area-known chain a.cur now.knows.blocks.0 place area placed.area_is) old new left
    now.knows.blocks.1) leaves in
    subst (λ (one : Option SplitNow). Knows (KeyedShape chain.part)
    (known_by chain (split_at area one) same new) b) (sym failed)
    (knows-still chain tells told a b call now.quiet.1.on
    (resting-stands chain.part now.quiet.0 a now.quiet.1 now.left) None same old new
    (subst (λ (one : Option MoveNow). Knows (KeyedShape chain.part) (known_by chain None one old) a)
    (sym still)
    (subst (λ (one : Option AreaSplit). Knows (KeyedShape chain.part) (known_by chain one move old)
    a) none now.knows))
    met)

-- ---- a split of an area that begins

-- It has claimed nothing yet, so its first stage needs no area of the part's own,
owns-begun : (part : KeyedChain) (owners : Owners) (area entries stay : ℕ)
    → OwnsInto part owners (Some (begun_at area entries stay))
owns-begun part owners area entries stay = λ later. absurd (later refl)

pub keeps-begun : (part : KeyedChain) (area entries stay : ℕ) (kept : Lengths) (a b : Seen)
    → KeepsIn part (Some (begun_at area entries stay)) kept a b → KeepsIn part None kept a b
keeps-begun part area entries stay kept a b keeps = record {
  adds = λ owners rests owns. keeps.adds owners rests (owns-begun part owners area entries stay);
  same = keeps.same;
  room = keeps.room;
  rooms = λ owners rests owns. keeps.rooms owners rests (owns-begun part owners area entries stay);
}

-- whether it fails or is done.
pub done-begun : (part : KeyedChain) (area entries stay : ℕ) (known : Known) (a b : Seen)
    → IsDoneIn part (Some (begun_at area entries stay)) known a b → IsDoneIn part None known a b
done-begun part area entries stay known a b done = record {
  due = done.due;
  rests = λ owners rests owns. done.rests owners rests (owns-begun part owners area entries stay);
  knows = done.knows;
}
