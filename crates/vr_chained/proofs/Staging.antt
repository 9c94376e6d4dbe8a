-- When the stage that makes a chain longer is due.
use Rattle.std.proofs.Common.{◌≡◌, ◌≤◌, ◌+◌, ◌-◌, ℕ, List, Option, sym, ap, subst, ◌∙◌, arith, length}
use Rattle.std.specs.Int.{div_ceil}
use Rattle.std.proofs.lemmas.Bool.{ltb-false}
use Rattle.vr_types.specs.Image.{Image}
use Rattle.vr_types.specs.Seen.{Seen}
use Rattle.vr_types.specs.Space.{free_count}
use Rattle.vr_types.specs.declared.unit.PartNo.{PartNo}
use Rattle.vr_types.specs.declared.unit.StageKind.TheVariants.{Extend}
use Rattle.vr_space.specs.Numbered.{HasChain, areas_short, has_interval, interval_of}
use Rattle.vr_space.specs.Owners.{Owners}
use Rattle.vr_space.specs.Part.{HasOwners, IsAtRest, IsStageDue, MayGrow, NumberedShape, room_of}
use Rattle.vr_space.specs.Room.{Lengths}
use Rattle.vr_space.specs.Rosters.{Numbered, used_of}
use Rattle.vr_space.specs.declared.room.Room.TheVariants.{Stage}
use Rattle.vr_space.proofs.CallerLemmas.{IsChainStage, stage-lacks}
use Rattle.vr_chained.specs.Extended.{IsMoreDue}
use Rattle.vr_chained.specs.Owned.{OwnedChain, known_of}

module _ (owned : OwnedChain) (image : Image) (free : ℕ) (kept : Lengths) (place : List ℕ) (n : ℕ)
    (due : IsStageDue (NumberedShape owned.chain.part) (known_of owned) image free kept place n)
  where
    abbrev part : Numbered
    part = owned.chain.part

    lacks : IsChainStage (has_interval part image place)
        (areas_short part image (interval_of part place)) free due.0
    lacks = stage-lacks part (known_of owned) image free kept place n due.0 due.1

    -- it is the one that comes first
    pub stage-first : Stage Extend ≡ room_of (NumberedShape part) (known_of owned) image free kept
        place n
    stage-first = sym (due.1 ∙ ap Stage lacks.stage)

    -- its interval isn't used yet, and areas enough are free
    pub stage-more : HasChain part (known_of owned) image → (areas : List (Option PartNo))
        → free ≡ free_count areas → HasOwners (NumberedShape part) areas → (now : Seen)
        → (owners grown : Owners) → MayGrow (NumberedShape part) areas owners grown
        → IsAtRest (NumberedShape part) owners now → IsMoreDue owned.chain areas now
    stage-more has areas free-is volume now owners grown grows rests = record {
      interval = interval_of part place;
      unused = omega (
        arith,
        ltb-false (interval_of part place) (used_of part image) lacks.unused,
        has.used,
      );
      enough = subst (λ (k : ℕ). div_ceil (interval_of part place + 1) part.geometry.area - k
          ≤ free_count areas) (sym (ap (λ (l : List ℕ). length l) has.areas))
          (omega (arith, lacks.enough, free-is));
      volume = volume;
      owners = owners;
      grown = grown;
      grows = grows;
      rests = rests;
    }
