-- The areas that a part holds in memory are its own: those of its chain, and the one that the split
-- of an area under way claimed, which no chain reaches yet. It stays so as its stages claim more.
use Rattle.std.proofs.Common.{◌≡◌, ◌≢◌, ⊎_elim, ℕ, List, Option, Some, None, refl}
use Rattle.std.proofs.Common.{◌∙◌, ap, sym, subst}
use Rattle.std.specs.Prelude.{Contains}
use Rattle.std.proofs.lemmas.List.Elements.{Contains-push, Contains-push_cases}
use Rattle.vr_types.specs.Geometry.{area_count}
use Rattle.vr_types.specs.Seen.{Left, Seen}
use Rattle.vr_types.specs.declared.unit.PartNo.{PartNo}
use Rattle.vr_types.specs.declared.unit.StageKind.{StageKind}
use Rattle.vr_types.specs.declared.unit.StageKind.TheVariants.{CaClaim}
use Rattle.vr_space.specs.Areas.{IsOwnedArea, KeyedChain, area_of}
use Rattle.vr_space.specs.Keyed.{InArea}
use Rattle.vr_space.specs.Known.{Known, areas_held, held_with}
use Rattle.vr_space.specs.Moves.{IsPastClaim, IsPastClaimStage, MoveUnderWay, OwnsInto}
use Rattle.vr_space.specs.Owners.{Owners}
use Rattle.vr_space.specs.Part.{InHeld, InPart, IsSound, IsUnderWay}
use Rattle.vr_space.specs.Part.{KeepsChain, KeyedShape, Knows, MayGrow, NumberedShape, OwnsClaimed}
use Rattle.vr_space.specs.Part.{Shape, held_by}
use Rattle.vr_space.specs.Split.{MoveNow}
use Rattle.vr_space.proofs.Adding.{sound-stands}
use Rattle.vr_space.proofs.Links.{area-each}
use Rattle.vr_space.proofs.MovesUnderWay.{aside-of}
use Rattle.vr_space.proofs.PartBlocks.{owned-grows}

-- ---- the area that the split under way claimed

-- none is claimed where no split of an area is under way
pub owns-none : (shape : Shape) (owners : Owners) (known : Known) → known.move ≡ None
    → OwnsClaimed shape owners known
owns-none (KeyedShape part) owners known none =
    subst (OwnsInto part owners) (sym none) tt
owns-none (NumberedShape part) owners known none = tt

into-held : (part : KeyedChain) (owners : Owners) (known : Known) (now : Seen)
    (move : Option MoveNow) → known.move ≡ move → MoveUnderWay part move now
    → ((n : ℕ) → InHeld (KeyedShape part) known n → InPart (KeyedShape part) owners n)
    → OwnsInto part owners move
into-held part owners known now None is moves held = tt
into-held part owners known now (Some move) is moves held = λ later. record {
  there = (aside-of part move now move.stage later moves.ready).there;
  owned = λ n inside. held n (
    move.into,
    subst (λ (one : Option MoveNow). Contains (held_with known.areas one) move.into) (sym is)
        (Contains-push known.areas move.into),
    inside,
  );
}

-- It is the part's where each block that it holds is,
pub owns-held : (shape : Shape) (owners : Owners) (known : Known) (now : Seen)
    → IsUnderWay shape known now
    → ((n : ℕ) → InHeld shape known n → InPart shape owners n) → OwnsClaimed shape owners known
owns-held (KeyedShape part) owners known now way held =
    into-held part owners known now known.move refl way.1 held
owns-held (NumberedShape part) owners known now way held = tt

into-grows : (part : KeyedChain) (owners grown : Owners) (move : Option MoveNow)
    → ((n other : ℕ) → owners n ≡ Some other → grown n ≡ Some other)
    → OwnsInto part owners move → OwnsInto part grown move
into-grows part owners grown None leaves owns = tt
into-grows part owners grown (Some move) leaves owns =
    λ later. owned-grows part owners grown leaves move.into (owns later)

-- and by owners who leave each part the blocks that it has.
pub owns-grows : (shape : Shape) (owners grown : Owners) (known : Known)
    → ((n other : ℕ) → owners n ≡ Some other → grown n ≡ Some other)
    → OwnsClaimed shape owners known → OwnsClaimed shape grown known
owns-grows (KeyedShape part) owners grown known leaves owns =
    into-grows part owners grown known.move leaves owns
owns-grows (NumberedShape part) owners grown known leaves owns = tt

-- and of what it keeps of a split of an area alone.
pub owns-same : (shape : Shape) (owners : Owners) (before after : Known)
    → after.move ≡ before.move → OwnsClaimed shape owners before → OwnsClaimed shape owners after
owns-same (KeyedShape part) owners before after same owns =
    subst (OwnsInto part owners) (sym same) owns
owns-same (NumberedShape part) owners before after same owns = tt

-- A part holds the same areas where its chain has the same and the same split is under way.
pub held-same : (shape : Shape) (before after : Known) → after.areas ≡ before.areas
    → after.move ≡ before.move → held_by shape after ≡ held_by shape before
held-same (KeyedShape part) before after areas moves =
    ap (λ (one : List ℕ). held_with one after.move) areas ∙ ap (held_with before.areas) moves
held-same (NumberedShape part) before after areas moves = areas

-- ---- all areas that a keyed part holds

-- the blocks of these areas are the part's own
abbrev pub AreOwn : KeyedChain → Owners → List ℕ → Type 0
AreOwn part owners areas = (area n : ℕ) → Contains areas area → InArea (area_of part area) n
    → InPart (KeyedShape part) owners n

past-claim : (stage : StageKind) → IsPastClaimStage stage → stage ≢ CaClaim
past-claim stage past is = subst IsPastClaimStage is past

own-with : (part : KeyedChain) (owners : Owners) (areas : List ℕ) (move : Option MoveNow)
    → AreOwn part owners areas → OwnsInto part owners move → IsPastClaim move
    → AreOwn part owners (held_with areas move)
own-with part owners areas None own owns claimed = own
own-with part owners areas (Some move) own owns claimed = λ area n held inside. ⊎_elim
    (λ old. own area n old inside)
    (λ same. (owns (past-claim move.stage claimed)).owned n
    (subst (λ (at : ℕ). InArea (area_of part at) n) (sym same) inside))
    (Contains-push_cases areas move.into area held)

-- What a sound part holds is its own.
pub held-own : (part : KeyedChain) (owners : Owners) (known : Known) (now : Seen)
    → IsSound (KeyedShape part) owners now → Left now now.cur
    → Knows (KeyedShape part) known now → OwnsClaimed (KeyedShape part) owners known
    → AreOwn part owners (areas_held known)
held-own part owners known now sound left knows owns = own-with part owners known.areas
    known.move
    (λ area n held inside.
    let own : IsOwnedArea part owners area =
    area-each part (IsOwnedArea part owners) now.cur (area_count part.geometry) part.first area
    (sound-stands (KeyedShape part) owners now sound now.cur (record {
      each = λ n below is. left.each n below;
    })).1
    (subst (λ (areas : List ℕ). Contains areas area) knows.blocks.0.areas_are held) in
    own.owned n inside)
    owns knows.way.3

-- So is what it holds after a stage, by owners who have the area that the stage may claim,
pub own-after : (part : KeyedChain) (areas after : List ℕ) (old new : List (Option PartNo))
    (owners grown : Owners) → KeepsChain (KeyedShape part) areas after old new
    → MayGrow (KeyedShape part) old owners grown → AreOwn part owners areas
    → AreOwn part grown after
own-after part areas after old new owners grown chain grows own = λ area n held inside. ⊎_elim
    (λ same. grows.kept n part.part (own area n (same.0.none area held) inside))
    (λ more. ⊎_elim (λ before. grows.kept n part.part (own area n before inside))
    (λ here. grows.claimed more.area more.least n
    (subst (λ (at : ℕ). InArea (area_of part at) n) (sym here) inside))
    (Contains-push_cases areas more.area area
    (subst (λ (held : List ℕ). Contains held area) more.more held)))
    chain

-- and so the area that a split claimed by then.
pub owns-after : (shape : Shape) (owners grown : Owners) (before after : Known) (a b : Seen)
    (old new : List (Option PartNo)) → IsSound shape owners a → Left a a.cur
    → Knows shape before a → OwnsClaimed shape owners before
    → KeepsChain shape (held_by shape before) (held_by shape after) old new
    → MayGrow shape old owners grown → IsUnderWay shape after b → OwnsClaimed shape grown after
owns-after (KeyedShape part) owners grown before after a b old new sound left knows owns chain
    grows way =
    owns-held (KeyedShape part) grown after b way
    (λ n held. own-after part (areas_held before) (areas_held after) old new owners grown chain
    grows (held-own part owners before a sound left knows owns) held.0 n held.1
    held.2)
owns-after (NumberedShape part) owners grown before after a b old new sound left knows owns chain
    grows way = tt
