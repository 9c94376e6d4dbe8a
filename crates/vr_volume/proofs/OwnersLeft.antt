-- What is left of a volume at rest where blocks of a part that isn't laid are nobody's any more.
use Rattle.std.proofs.Common.{◌≡◌, ◌≢◌, ℕ, List, Option, Some, None, refl, sym, ap, ◌∙◌}
use Rattle.vr_types.specs.Content.{Content}
use Rattle.vr_types.specs.Geometry.{area_count}
use Rattle.vr_types.specs.Seen.{Seen}
use Rattle.vr_types.specs.declared.geometry.Geometry.{Geometry}
use Rattle.vr_space.specs.Areas.{IsOwnedArea, IsQuietArea, KeyedChain}
use Rattle.vr_space.specs.Known.{Known}
use Rattle.vr_space.specs.Moves.{OwnsInto}
use Rattle.vr_space.specs.Numbered.{IsFilled, IsRestingArea}
use Rattle.vr_space.specs.Owners.{Owners}
use Rattle.vr_space.specs.Part.{InPart, IsAtRest, IsSound, OwnsClaimed, Shape, part_no}
use Rattle.vr_space.specs.Part.Shape.{KeyedShape, NumberedShape}
use Rattle.vr_space.specs.Rosters.{IsOwnArea, Numbered}
use Rattle.vr_space.specs.Split.{MoveNow}
use Rattle.vr_space.proofs.CallerLemmas.{chain-less, links-less}
use Rattle.vr_history.specs.State.{BeforeImage, State}
use Rattle.vr_log.specs.LogNow.{IsLogOf, LogNow}
use Rattle.vr_log.specs.Content.{Content as LogContent}
use Rattle.vr_log.specs.declared.record.LogRecord.{LogRecord}
use Rattle.vr_volume.specs.Committed.{committed_by}
use Rattle.vr_volume.specs.EntryChange.{IsTakenFrom}
use Rattle.vr_volume.specs.Laid.{shape_by}
use Rattle.vr_volume.specs.PutBack.{images_of}
use Rattle.vr_volume.specs.Rests.{IsPartAtRest, IsVolumeAtRest}
use Rattle.vr_volume.specs.Safe.{IsPartSafe, IsSafe}
use Rattle.vr_volume.proofs.Apart.{laid-number}
use Rattle.vr_volume.proofs.Committing.{shape-same}

some-none : {X : Type 0} {x : X} → Some x ≡ None → ⊥
some-none same = cc

-- ---- a part that keeps its blocks

-- what is the part's own by these owners is so by the others
abbrev Keeps : Shape → Owners → Owners → Type 0
Keeps shape owners shrunk = (n : ℕ) → InPart shape owners n → InPart shape shrunk n

owned-left : (part : KeyedChain) (owners shrunk : Owners) → Keeps (KeyedShape part) owners shrunk
    → (area : ℕ) → IsOwnedArea part owners area → IsOwnedArea part shrunk area
owned-left part owners shrunk keeps area own = record {
  there = own.there;
  owned = λ n inside. keeps n (own.owned n inside);
}

area-left : (part : Numbered) (owners shrunk : Owners) → Keeps (NumberedShape part) owners shrunk
    → (area : ℕ) → IsOwnArea part owners area → IsOwnArea part shrunk area
area-left part owners shrunk keeps area own = record {
  there = own.there;
  owned = λ n inside. keeps n (own.owned n inside);
}

-- It stays sound,
sound-left : (shape : Shape) (owners shrunk : Owners) (now : Seen) → Keeps shape owners shrunk
    → IsSound shape owners now → IsSound shape shrunk now
sound-left (KeyedShape part) owners shrunk now keeps sound = record {
  on = sound.on;
  chain = links-less part (IsOwnedArea part owners) (IsOwnedArea part shrunk) now now refl refl
      (owned-left part owners shrunk keeps) (λ area own n inside block may. may)
      (area_count part.geometry) part.first None sound.chain;
}
sound-left (NumberedShape part) owners shrunk now keeps sound = record {
  on = sound.on;
  chain = chain-less part (IsOwnArea part owners) (IsOwnArea part shrunk) (IsFilled part) now.may
      now.may (area-left part owners shrunk keeps) (λ area own n inside block may. may)
      (area_count part.geometry) part.first sound.chain;
}

-- and at rest,
rest-left : (shape : Shape) (owners shrunk : Owners) (now : Seen) → Keeps shape owners shrunk
    → IsAtRest shape owners now → IsAtRest shape shrunk now
rest-left (KeyedShape part) owners shrunk now keeps rests = record {
  on = rests.on;
  chain = links-less part (IsQuietArea part owners now) (IsQuietArea part shrunk now) now now refl
      refl
      (λ area is. record {
        own = owned-left part owners shrunk keeps area is.own;
        one_head = is.one_head;
      })
      (λ area is n inside block may. may) (area_count part.geometry) part.first None rests.chain;
}
rest-left (NumberedShape part) owners shrunk now keeps rests = record {
  on = rests.on;
  chain = chain-less part (IsRestingArea part owners now) (IsRestingArea part shrunk now)
      (IsFilled part) now.may now.may
      (λ area is. record {
        own = area-left part owners shrunk keeps area is.own;
        roster = is.roster;
      })
      (λ area is n inside block may. may) (area_count part.geometry) part.first rests.chain;
}

-- and the area that its split claimed stays its own.
into-left : (part : KeyedChain) (owners shrunk : Owners) → Keeps (KeyedShape part) owners shrunk
    → (move : Option MoveNow) → OwnsInto part owners move → OwnsInto part shrunk move
into-left part owners shrunk keeps None owns = tt
into-left part owners shrunk keeps (Some move) owns =
    λ later. owned-left part owners shrunk keeps move.into (owns later)

owns-left : (shape : Shape) (owners shrunk : Owners) (known : Known) → Keeps shape owners shrunk
    → OwnsClaimed shape owners known → OwnsClaimed shape shrunk known
owns-left (KeyedShape part) owners shrunk known keeps owns =
    into-left part owners shrunk keeps known.move owns
owns-left (NumberedShape part) owners shrunk known keeps owns = tt

-- ---- the volume

-- A part of another number stays at rest,
pub part-left : (geometry : Geometry) (owners shrunk : Owners) (images : List BeforeImage)
    (state : State) (shape : Shape) (known : Known) (now : Seen) (part : ℕ)
    → IsPartAtRest geometry owners images state shape known now → (part_no shape).0 ≢ part
    → IsTakenFrom part owners shrunk
    → IsPartAtRest geometry shrunk images state shape known now
part-left geometry owners shrunk images state shape known now part rest apart taken = record {
  laid = rest.laid;
  on = rest.on;
  rests = rest-left shape owners shrunk now keeps rest.rests;
  claimed = owns-left shape owners shrunk known keeps rest.claimed;
  room = rest.room;
  knows = rest.knows;
  reads = rest.reads;
  firm = rest.firm;
}
  where
    keeps : Keeps shape owners shrunk
    keeps n inside = taken.kept n (part_no shape).0 inside apart

module _ (geometry : Geometry) (number : ℕ) (owners shrunk : Owners) (log : LogNow)
    (committed : List LogRecord → ℕ → Content) (now : Seen) (part : ℕ)
    (none : (content : LogContent) → IsLogOf log content
    → shape_by geometry (committed content.records 0) part ≡ None)
    (taken : IsTakenFrom part owners shrunk) where
  -- a part that is laid keeps its blocks
  keeps-laid : (content : LogContent) → IsLogOf log content → (other : ℕ) (shape : Shape)
      → shape_by geometry (committed content.records 0) other ≡ Some shape
      → Keeps shape owners shrunk
  keeps-laid content is other shape laid n inside = taken.kept n (part_no shape).0 inside
      (λ same. some-none (sym laid
      ∙ ap (shape_by geometry (committed content.records 0))
      (sym (laid-number geometry (committed content.records 0) other shape laid) ∙ same)
      ∙ none content is))

  -- the volume stays safe,
  safe-left : IsSafe geometry number owners log committed now
      → IsSafe geometry number shrunk log committed now
  safe-left safe = record {
    allowed = safe.allowed;
    past = λ n p there. safe.past n p (taken.fewer n p there);
    blocks = safe.blocks;
    shape = safe.shape;
    header = safe.header;
    logs = safe.logs;
    by_log = λ content is. record {
      committed = (safe.by_log content is).committed;
      parts = λ other shape laid.
          let mine : IsPartSafe shape owners other (images_of content.records)
          (committed content.records other) now = (safe.by_log content is).parts other shape laid in
          record {
            sound = sound-left shape owners shrunk now (keeps-laid content is other shape laid)
                mine.sound;
            items = mine.items;
            room = mine.room;
          };
    };
  }

-- and at rest.
pub volume-left : (geometry : Geometry) (number : ℕ) (owners shrunk : Owners) (log : LogNow)
    (images : List BeforeImage) (state : State) (now : Seen) (part : ℕ)
    → IsVolumeAtRest geometry number owners log images state now
    → shape_by geometry (state.contents 0) part ≡ None → IsTakenFrom part owners shrunk
    → IsVolumeAtRest geometry number shrunk log images state now
volume-left geometry number owners shrunk log images state now part rest none taken = record {
  safe = safe-left geometry number owners shrunk log (committed_by state) now part
      (λ content is. shape-same geometry state rest.laid content.records part ∙ none) taken
      rest.safe;
  stands = rest.stands;
  sound = rest.sound;
  forced = rest.forced;
  laid = rest.laid;
  logged = rest.logged;
  kept = rest.kept;
}
