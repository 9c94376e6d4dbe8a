-- What a stage of a part leaves of a safe volume, and of one at rest, by who owns the areas then.
use Rattle.std.proofs.Common.{◌≡◌, ◌≢◌, ◌⊎◌, ⊎_elim, ℕ, List, [], None, Option, Some, refl, sym, subst}
use Rattle.std.proofs.Common.{◌∙◌, ap, get_or, length, set}
use Rattle.std.specs.Prelude.{is_none}
use Rattle.std.proofs.lemmas.Bool.{true≢false}
use Rattle.std.proofs.lemmas.List.{get_or-set_same}
use Rattle.std.proofs.lemmas.List.Quantifiers.{position-Some}
use Rattle.vr_types.specs.Content.{Content}
use Rattle.vr_types.specs.Geometry.{area_count}
use Rattle.vr_types.specs.Image.{Image}
use Rattle.vr_types.specs.Regions.{Touches}
use Rattle.vr_types.specs.Seen.{Left, Seen}
use Rattle.vr_types.specs.Space.{least_free}
use Rattle.vr_types.specs.declared.geometry.Geometry.{Geometry}
use Rattle.vr_types.specs.declared.unit.PartNo.{PartNo}
use Rattle.vr_types.specs.declared.unit.StageKind.{StageKind}
use Rattle.vr_space.specs.Known.{Known}
use Rattle.vr_space.specs.Owners.{Owners}
use Rattle.vr_space.specs.Part.{AddsTo, DueMore, HasKeptRoom, HasRoom, InPart, IsAtRest, IsSound}
use Rattle.vr_space.specs.Part.{IsUnderWay, Knows, MayGrow, Nothing, OwnersAfter, SameRecords}
use Rattle.vr_space.specs.Part.{HasOwners, KeepsChain, KeyedShape, NumberedShape, OwnsClaimed, Shape}
use Rattle.vr_space.specs.Part.{held_by, part_no, room_of}
use Rattle.vr_space.specs.Room.{Lengths}
use Rattle.vr_space.specs.declared.room.Room.TheVariants.{Stage}
use Rattle.vr_space.proofs.CallerLemmas.{StaysPart, due-stays, rest-sound, room-stage, sound-less}
use Rattle.vr_space.proofs.CallerLemmas.{held-own, owns-after, owns-held, stage-owners}
use Rattle.vr_attach.specs.Laid.{IsInside}
use Rattle.vr_attach.specs.Owning.{IsPastLog, claimed_by, owner_of}
use Rattle.vr_attach.proofs.CallerLemmas.{claimed-grows, claimed-owners, owner-past-log}
use Rattle.vr_log.specs.Content.{Content as LogContent}
use Rattle.vr_log.specs.LogNow.{HasLog, IsLogOf, LogNow}
use Rattle.vr_log.specs.Standing.{LogStands}
use Rattle.vr_log.specs.declared.record.LogRecord.{LogRecord}
use Rattle.vr_history.specs.State.{BeforeImage, State}
use Rattle.vr_volume.specs.Committed.{committed_by}
use Rattle.vr_volume.specs.Laid.{shape_by}
use Rattle.vr_volume.specs.Laying.{IsLaidSo}
use Rattle.vr_volume.specs.PutBack.{images_of, lengths_kept}
use Rattle.vr_volume.specs.Rests.{IsPartAtRest, IsVolumeAtRest}
use Rattle.vr_volume.specs.Safe.{IsPartSafe, IsSafe}
use Rattle.vr_volume.proofs.Apart.{part-apart}
use Rattle.vr_volume.proofs.Calls.{Leaves, equal-or, nothing-safe, part-after, some-same}
use Rattle.vr_volume.proofs.Rested.{laid-rest, part-grows, part-same-records, part-stays}
use Rattle.vr_volume.proofs.Rested.{stands-part, stays-apart, volume-grows, volume-same}

-- ---- the areas

-- The areas after a stage are those before it, or the part got the least free one.
pub stage-areas : (shape : Shape) (known : Known) (now : Seen) (free : ℕ) (kept : Lengths)
    (place : List ℕ) (n : ℕ) (kind : StageKind) (areas after : List (Option PartNo))
    → IsUnderWay shape known now → Stage kind ≡ room_of shape known now.cur free kept place n
    → OwnersAfter (part_no shape) kind areas after
    → (after ≡ areas) ⊎ (after ≡ claimed_by (part_no shape) areas)
stage-areas shape known now free kept place n kind areas after way is owners =
    claimed-owners (part_no shape) areas after
    (stage-owners shape (part_no shape) kind areas after
    (room-stage shape known now now.cur free kept place n kind way (sym is)) owners)

module _ (geometry : Geometry) (number : ℕ) (log : LogNow)
    (committed : List LogRecord → ℕ → Content) (shape : Shape) (kept : Lengths) (now : Seen)
    (left : Left now now.cur)
    (laid : IsLaidSo geometry log committed (part_no shape).0 shape kept) where
  -- a part of a safe volume is on its blocks
  inside-safe : (owners : Owners) → IsSafe geometry number owners log committed now
      → IsInside geometry shape
  inside-safe owners safe =
      let some : HasLog log now.cur = safe.logs now.cur (record {
        each = λ n below inside. left.each n below;
      }) in
      (safe.by_log some.0 some.2).committed.inside (part_no shape).0 shape
      (laid some.0 some.2).laid

  -- So it may get the least free area,
  pub may-claim : (areas : List (Option PartNo))
      → IsSafe geometry number (owner_of geometry areas) log committed now
      → MayGrow shape areas (owner_of geometry areas)
      (owner_of geometry (claimed_by (part_no shape) areas))
  may-claim areas safe =
      claimed-grows geometry shape areas (inside-safe (owner_of geometry areas) safe)

  -- and the owners are those of the areas of its volume.
  pub all-owners : (areas : List (Option PartNo))
      → IsSafe geometry number (owner_of geometry areas) log committed now
      → length areas ≡ area_count geometry → HasOwners shape areas
  all-owners areas safe count =
      owners-inside shape areas (inside-safe (owner_of geometry areas) safe) count
    where
      owners-inside : (shape : Shape) (areas : List (Option PartNo)) → IsInside geometry shape
          → length areas ≡ area_count geometry → HasOwners shape areas
      owners-inside (KeyedShape part) areas inside count =
          count ∙ ap area_count (sym inside.1)
      owners-inside (NumberedShape part) areas inside count =
          count ∙ ap area_count (sym inside.1)

-- ---- a part that has no block more

module _ (geometry : Geometry) (number : ℕ) (owners grown : Owners) (log : LogNow)
    (committed : List LogRecord → ℕ → Content) (part : ℕ) (shape : Shape) (kept : Lengths)
    (Q : Image → Type 0) (a b : Seen) (leaves : Leaves owners grown)
    (safe : IsSafe geometry number owners log committed a)
    (laid : IsLaidSo geometry log committed part shape kept)
    (call : Touches (InPart shape grown) Q a b) (sound : IsSound shape owners b) where
  other-sound : (content : LogContent) (is : IsLogOf log content) (other : ℕ) (there : Shape)
      → shape_by geometry (committed content.records 0) other ≡ Some there → other ≢ part
      → IsSound there owners b
  other-sound content is other there at apart =
      sound-less a b there owners call.count_same call.size_same
      (λ n block inside may. call.adds_none n block inside.0
      (part-apart geometry grown (committed content.records 0) other part there shape at
      (laid content is).laid apart n (leaves n (part_no there).0 inside.1)) may)
      ((safe.by_log content is).parts other there at).sound

  each-sound : (content : LogContent) (is : IsLogOf log content) (other : ℕ) (there : Shape)
      → shape_by geometry (committed content.records 0) other ≡ Some there
      → IsSound there owners b
  each-sound content is other there at = ⊎_elim
      (λ same. subst (λ (s : Shape). IsSound s owners b)
      (some-same shape there (sym (laid content is).laid
      ∙ subst (λ (p : ℕ). shape_by geometry (committed content.records 0) p ≡ Some there) same at))
      sound)
      (λ apart. other-sound content is other there at apart) (equal-or other part)

  -- A volume that is safe where a part may have more blocks is so where it has those that it had.
  pub safe-back : IsSafe geometry number grown log committed b
      → IsSafe geometry number owners log committed b
  safe-back after = record {
    allowed = after.allowed;
    past = safe.past;
    blocks = after.blocks;
    shape = after.shape;
    header = after.header;
    logs = after.logs;
    by_log = λ content is. record {
      committed = (after.by_log content is).committed;
      parts = λ other there at.
          let mine : IsPartSafe there grown other (images_of content.records)
          (committed content.records other) b = (after.by_log content is).parts other there at in
          record {
            sound = each-sound content is other there at;
            items = mine.items;
            room = mine.room;
          };
    };
  }

-- ---- a volume at rest

-- a claim changes the owners of areas
claim-changes : (areas : List (Option PartNo)) (area : ℕ) (part : PartNo)
    → least_free areas ≡ Some area → areas ≢ set areas area (Some part)
claim-changes areas area part least same =
    let found = position-Some is_none areas area None least in
    true≢false (sym found.1 ∙ ap (λ (one : List (Option PartNo)). is_none (get_or one area None))
    same ∙ ap is_none (get_or-set_same areas area (Some part) None found.0))

-- The area that a split claimed is the part's still, where the owners stay.
owns-still : (shape : Shape) (owners : Owners) (before after : Known) (a b : Seen)
    (areas : List (Option PartNo)) → IsSound shape owners a → Left a a.cur → Knows shape before a
    → OwnsClaimed shape owners before
    → KeepsChain shape (held_by shape before) (held_by shape after) areas areas
    → IsUnderWay shape after b → OwnsClaimed shape owners after
owns-still (NumberedShape part) owners before after a b areas sound left knows owns chain way = tt
owns-still (KeyedShape part) owners before after a b areas sound left knows owns chain way =
    owns-held (KeyedShape part) owners after b way
    (λ n held. held-own part owners before a sound left knows owns held.0 n
    (⊎_elim (λ kept. kept.0.none held.0 held.1)
    (λ more. absurd (claim-changes areas more.area (part_no (KeyedShape part)) more.least
    more.owned)) chain) held.2)

-- what a stage leaves of its part
pub record IsAdvanced (shape : Shape) (kept : Lengths) (known later : Known)
    (areas after : List (Option PartNo)) (a d : Seen) : Type 0
  where
    pub adds : (owners grown : Owners) → MayGrow shape areas owners grown
        → IsAtRest shape owners a → OwnsClaimed shape owners known → AddsTo shape grown Nothing a d
    pub rests : (owners grown : Owners) → MayGrow shape areas owners grown
        → IsAtRest shape owners a → OwnsClaimed shape owners known → IsAtRest shape grown d
    pub stays : (owners : Owners) → after ≡ areas → IsAtRest shape owners a
        → OwnsClaimed shape owners known → IsAtRest shape owners d
    pub chain : KeepsChain shape (held_by shape known) (held_by shape later) areas after
    pub room : HasKeptRoom shape kept d
    pub knows : Knows shape later d
    pub same : SameRecords shape a.cur d.cur

module _ (number : ℕ) (log : LogNow) (images : List BeforeImage) (state : State)
    (areas after : List (Option PartNo)) (shape : Shape) (known : Known) (kept : Lengths)
    (a d : Seen) (left : Left a a.cur)
    (rest : IsVolumeAtRest log.geometry number (owner_of log.geometry areas) log images state a)
    (part : IsPartAtRest log.geometry (owner_of log.geometry areas) images state shape known a)
    (puts : (owners grown : Owners) → MayGrow shape areas owners grown → IsAtRest shape owners a
    → OwnsClaimed shape owners known → Touches (InPart shape grown) (HasRoom shape kept) a d)
    (areas_are : (after ≡ areas) ⊎ (after ≡ claimed_by (part_no shape) areas)) where
  abbrev own : Owners
  own = owner_of log.geometry areas

  abbrev grown : Owners
  grown = owner_of log.geometry (claimed_by (part_no shape) areas)

  grows : MayGrow shape areas own grown
  grows = may-claim log.geometry number log (committed_by state) shape
      (lengths_kept images (part_no shape).0) a left
      (laid-rest log.geometry number own log images state a rest shape known part
      (lengths_kept images (part_no shape).0) refl) areas rest.safe

  rooms : Touches (InPart shape grown) (HasRoom shape kept) a d
  rooms = puts own grown grows part.rests part.claimed

  -- each other part is as it was
  stays-other : (other : Shape) → (part_no other).0 ≢ (part_no shape).0
      → StaysPart other own a d
  stays-other other apart =
      let stays : StaysPart other grown a d =
      stays-apart shape other grown (HasRoom shape kept) a d apart rooms in
      record {
        count = stays.count;
        size = stays.size;
        same = λ n inside. stays.same n (grows.kept n (part_no other).0 inside);
        fewer = λ n block below inside. stays.fewer n block below
            (grows.kept n (part_no other).0 inside);
      }

  -- So it stays at rest, by who owns the areas then,
  pub stage-other : (other : Shape) (met : Known) → (part_no other).0 ≢ (part_no shape).0
      → IsPartAtRest log.geometry own images state other met a
      → IsPartAtRest log.geometry (owner_of log.geometry after) images state other met d
  stage-other other met apart others = ⊎_elim
      (λ same. subst rests-by (sym same) still)
      (λ claimed. subst rests-by (sym claimed)
      (part-grows log.geometry own grown images state other met d grows.kept still)) areas_are
    where
      rests-by : List (Option PartNo) → Type 0
      rests-by now = IsPartAtRest log.geometry (owner_of log.geometry now) images state other met d

      still : IsPartAtRest log.geometry own images state other met d
      still = part-stays log.geometry own images images state state other met a d
          (stays-other other apart) left others refl refl refl (λ place none. none)

  -- and what has to be forced for its places stays.
  pub stage-other-due : (other : Shape) (met : Known) → (part_no other).0 ≢ (part_no shape).0
      → IsPartAtRest log.geometry own images state other met a → DueMore other [] a d
  stage-other-due other met apart others = due-stays other own a d (stays-other other apart)
      (rest-sound other own a others.rests) left

  module _ (later : Known) (room : kept ≡ lengths_kept images (part_no shape).0)
      (call : IsAdvanced shape kept known later areas after a d) where
    laid : IsLaidSo log.geometry log (committed_by state) (part_no shape).0 shape kept
    laid = laid-rest log.geometry number own log images state a rest shape known part kept room

    past : IsPastLog log.geometry grown
    past = owner-past-log log.geometry (claimed_by (part_no shape) areas)

    adds : AddsTo shape grown Nothing a d
    adds = call.adds own grown grows part.rests part.claimed

    more : IsVolumeAtRest log.geometry number grown log images state a
    more = volume-grows log.geometry number own grown log images state a grows.kept past rest

    safe-claimed : IsSafe log.geometry number grown log (committed_by state) d
    safe-claimed = part-after log.geometry number grown log (committed_by state) (part_no shape).0
        shape kept Nothing a d more.safe laid
        (nothing-safe log.geometry log (committed_by state) (part_no shape).0 shape) adds rooms
        left call.room

    log-stands : LogStands log d
    log-stands = stands-part log shape grown (HasRoom shape kept) a d rest.forced rest.stands past
        rooms

    part-by : (owners : Owners) → IsPartAtRest log.geometry owners images state shape known a
        → IsAtRest shape owners d → OwnsClaimed shape owners later
        → IsPartAtRest log.geometry owners images state shape later d
    part-by owners before rests claimed = part-same-records log.geometry owners images state shape known
        later a d before adds.touches.count_same adds.touches.size_same rests claimed
        (subst (λ (lengths : Lengths). HasKeptRoom shape lengths d) room call.room) call.knows
        call.same (λ place found held. ⊎_elim (λ was. was) (λ none. absurd none)
        (adds.rest place found held))

    sound : IsSound shape own a
    sound = rest-sound shape own a part.rests

    -- the area that a split claimed by then is the part's
    claimed-grown : OwnsClaimed shape grown later
    claimed-grown = owns-after shape own grown known later a d areas after sound left part.knows
        part.claimed call.chain grows call.knows.way

    claimed-still : after ≡ areas → OwnsClaimed shape own later
    claimed-still same = owns-still shape own known later a d areas sound left part.knows
        part.claimed (subst (λ (now : List (Option PartNo)).
        KeepsChain shape (held_by shape known) (held_by shape later) areas now) same call.chain)
        call.knows.way

    abbrev RestBy : List (Option PartNo) → Type 0
    RestBy now = IsVolumeAtRest log.geometry number (owner_of log.geometry now) log images state d
        × IsPartAtRest log.geometry (owner_of log.geometry now) images state shape later d

    rest-claimed : RestBy (claimed_by (part_no shape) areas)
    rest-claimed = (
      volume-same log.geometry number grown log images state a more d safe-claimed log-stands,
      part-by grown
          (part-grows log.geometry own grown images state shape known a grows.kept part)
          (call.rests own grown grows part.rests part.claimed) claimed-grown,
    )

    rest-still : after ≡ areas → RestBy areas
    rest-still same =
        let rests : IsAtRest shape own d = call.stays own same part.rests part.claimed in (
          volume-same log.geometry number own log images state a rest d
              (safe-back log.geometry number own grown log (committed_by state) (part_no shape).0
              shape kept (HasRoom shape kept) a d grows.kept rest.safe laid rooms
              (rest-sound shape own d rests) safe-claimed)
              log-stands,
          part-by own part rests (claimed-still same),
        )

    -- The volume and the part are at rest by who owns the areas then.
    pub stage-rest : RestBy after
    stage-rest = ⊎_elim (λ same. subst RestBy (sym same) (rest-still same))
        (λ claimed. subst RestBy (sym claimed) rest-claimed) areas_are
