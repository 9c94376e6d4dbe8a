-- Who owns the areas of a volume that is held: each part those that it reaches in the blocks, and a
-- key-sequenced one also the area that a split under way claimed.
use Rattle.std.proofs.Common.{◌≡◌, ◌≢◌, ◌⊎◌, inl, inr, ⊎_elim, ◌∙◌, ℕ, zero, suc, ◌+◌, ◌≤◌}
use Rattle.std.proofs.Common.{◌||◌, Bool, true, false, cond, List, [], ◌∷◌, Option, Some, None}
use Rattle.std.proofs.Common.{refl, sym, ap, subst, arith, eqb, filter, get_or, length}
use Rattle.std.specs.Prelude.{All, Contains}
use Rattle.std.specs.List.{AllPairs, list_any}
use Rattle.std.specs.Option.{option_map}
use Rattle.std.proofs.lemmas.Bool.{false≢true}
use Rattle.std.proofs.lemmas.Bool.Decides.{Decides-eqb}
use Rattle.std.proofs.lemmas.Cmp.{nat_eq_equiv}
use Rattle.std.proofs.lemmas.List.{get_or_default, length_push}
use Rattle.std.proofs.lemmas.List.Elements.{All-cons, All-contains, All-contains_itself, All-nil}
use Rattle.std.proofs.lemmas.List.Elements.{All-weaker}
use Rattle.std.proofs.lemmas.Map.Made.{IsDistinct-from_AllPairs, length-le_from_is_member}
use Rattle.std.proofs.lemmas.Map.Views.{Contains-from_any, list_any-from_Contains}
use Rattle.vr_types.specs.Geometry.{area_count, head_block}
use Rattle.vr_types.specs.Seen.{Left, Seen}
use Rattle.vr_types.specs.Space.{is_owner}
use Rattle.vr_types.specs.declared.geometry.Geometry.{Geometry}
use Rattle.vr_types.specs.declared.unit.PartNo.{PartNo}
use Rattle.vr_types.specs.declared.unit.StageKind.TheVariants.{CaClaim}
use Rattle.vr_catalog.specs.Catalog.{entries_in}
use Rattle.vr_catalog.specs.declared.entry.CatEntry.{CatEntry}
use Rattle.vr_attach.specs.Laid.{ReachesArea, shape_in}
use Rattle.vr_attach.proofs.CallerLemmas.{area-owner, laid-as, stays-reached}
use Rattle.vr_chained.proofs.Reached.{chain-once}
use Rattle.vr_history.specs.State.{State}
use Rattle.vr_mount.specs.Areas.{IsReachedIn}
use Rattle.vr_space.specs.Areas.{KeyedChain, areas_in}
use Rattle.vr_space.specs.Known.{Known, held_with}
use Rattle.vr_space.specs.Moves.{IsPastClaim, IsPastClaimStage, MoveUnderWay, OwnsInto}
use Rattle.vr_space.specs.Numbered.{IsFilled}
use Rattle.vr_space.specs.Part.{HasOnly, KeyedShape, Knows, MayHold, NumberedShape, OwnsChain}
use Rattle.vr_space.specs.Part.{OwnsClaimed, Shape, Stands, StaysIn, held_by, owned_count, part_no}
use Rattle.vr_space.specs.Rosters.{IsOwnArea, chain_of}
use Rattle.vr_space.specs.Split.{MoveNow}
use Rattle.vr_space.proofs.CallerLemmas.{aside-of, contains-cases, rest-sound, sound-image}
use Rattle.vr_store.specs.Store.{IsRestedPart, IsSet, IsStored, OwnsItsChain, StoreNow, owners_of}
use Rattle.vr_store.proofs.Among.{HasShape}
use Rattle.vr_store.proofs.CallerLemmas.{among-all}
use Rattle.vr_record_file.specs.Now.{state_now}
use Rattle.vr_event.specs.Volume.{IsHeld, IsWhole, OwnLaid, VolumeNow}
use Rattle.vr_job.specs.Owning.{AreOwnersWithAhead, HasOwners, IsAhead}
use Rattle.vr_job.proofs.AreasOnce.{areas-once}
use Rattle.vr_job.proofs.Splitting.{part-knows, part-rested, part-there}

-- ---- how many areas a part has

-- the areas of a part, the first of which has this number
abbrev owned_at : PartNo → ℕ → List (Option PartNo) → List ℕ
owned_at part area [] = []
owned_at part area (owner ∷ owners) =
    cond (is_owner part owner) (area ∷ owned_at part (area + 1) owners)
    (owned_at part (area + 1) owners)

owned-counted : (part : PartNo) (area : ℕ) (owners : List (Option PartNo))
    → length (owned_at part area owners) ≡ owned_count part owners
owned-counted part area [] = refl
owned-counted part area (owner ∷ owners) =
    by_test (is_owner part owner) (owned-counted part (area + 1) owners)
  where
    by_test : (test : Bool)
        → length (owned_at part (area + 1) owners) ≡ owned_count part owners
        → length (cond test (area ∷ owned_at part (area + 1) owners)
        (owned_at part (area + 1) owners))
        ≡ length (cond test (owner ∷ filter (is_owner part) owners)
        (filter (is_owner part) owners))
    by_test true further = ap suc further
    by_test false further = further

owned-among : (part : PartNo) (area n : ℕ) (owners : List (Option PartNo))
    → get_or owners n None ≡ Some part
    → list_any (eqb (area + n)) (owned_at part area owners) ≡ true
owned-among part area n [] is = absurd cc
owned-among part area zero (owner ∷ owners) is =
    ap (λ (test : Bool). list_any (eqb (area + 0)) (cond test
    (area ∷ owned_at part (area + 1) owners) (owned_at part (area + 1) owners)))
    (ap (is_owner part) is ∙ (Decides-eqb part.0 part.0).1 refl)
    ∙ ap (λ (here : Bool). here || list_any (eqb (area + 0)) (owned_at part (area + 1) owners))
    ((Decides-eqb (area + 0) area).1 (omega arith))
owned-among part area (suc n) (owner ∷ owners) is = by_test (is_owner part owner)
    (subst (λ (m : ℕ). list_any (eqb m) (owned_at part (area + 1) owners) ≡ true) (omega arith)
    (owned-among part (area + 1) n owners is))
  where
    by_test : (test : Bool)
        → list_any (eqb (area + suc n)) (owned_at part (area + 1) owners) ≡ true
        → list_any (eqb (area + suc n)) (cond test (area ∷ owned_at part (area + 1) owners)
        (owned_at part (area + 1) owners)) ≡ true
    by_test true further = or-right (eqb (area + suc n) area) further
      where
        or-right : (here : Bool) {there : Bool} → there ≡ true → (here || there) ≡ true
        or-right true is = refl
        or-right false is = is
    by_test false further = further

-- areas of a part, none of which comes twice, are at most as many as it owns
owned-most : (part : PartNo) (owners : List (Option PartNo)) (areas : List ℕ)
    → AllPairs (λ (x y : ℕ). x ≢ y) areas
    → All (λ (area : ℕ). get_or owners area None ≡ Some part) areas
    → length areas ≤ owned_count part owners
owned-most part owners areas once own = omega (
  arith,
  length-le_from_is_member nat_eq_equiv areas (owned_at part 0 owners)
      (IsDistinct-from_AllPairs {eq = eqb} Decides-eqb areas once)
      (λ area has. subst (λ (n : ℕ). list_any (eqb n) (owned_at part 0 owners) ≡ true) (omega arith)
      (owned-among part 0 area owners
      (All-contains (λ (one : ℕ). get_or owners one None ≡ Some part) areas area own
      (Contains-from_any {eq = eqb} (λ x y same. (Decides-eqb x y).0 same) area areas has)))),
  owned-counted part 0 owners,
)

-- one more area, which is none of these, leaves each once
once-more : (areas : List ℕ) (area : ℕ) → AllPairs (λ (x y : ℕ). x ≢ y) areas
    → (Contains areas area → ⊥) → AllPairs (λ (x y : ℕ). x ≢ y) (area ∷ areas)
once-more areas area once apart zero zero d less within = absurd (omega (arith, less))
once-more areas area once apart zero (suc j) d less within = λ same. apart (
  j,
  omega (arith, within),
  get_or_default areas j area d (omega (arith, within)) ∙ sym same,
)
once-more areas area once apart (suc i) zero d less within = absurd (omega (arith, less))
once-more areas area once apart (suc i) (suc j) d less within =
    once i j d (omega (arith, less)) (omega (arith, within))

-- and where they are as many, they are all that it owns
owned-all : (part : PartNo) (owners : List (Option PartNo)) (areas : List ℕ)
    → AllPairs (λ (x y : ℕ). x ≢ y) areas
    → All (λ (area : ℕ). get_or owners area None ≡ Some part) areas
    → owned_count part owners ≡ length areas → (area : ℕ) → get_or owners area None ≡ Some part
    → Contains areas area
owned-all part owners areas once own count area is =
    by_test (list_any (eqb area) areas) refl
  where
    by_test : (test : Bool) → list_any (eqb area) areas ≡ test → Contains areas area
    by_test true among =
        Contains-from_any {eq = eqb} (λ x y same. (Decides-eqb x y).0 same) area areas among
    by_test false none = absurd (omega (
      arith,
      count,
      owned-most part owners (area ∷ areas)
          (once-more areas area once (λ has. false≢true (sym none
          ∙ list_any-from_Contains {eq = eqb} nat_eq_equiv area areas has)))
          (All-cons (λ (area : ℕ). get_or owners area None ≡ Some part) area areas is own),
    ))

one-alone : (area : ℕ) → AllPairs (λ (x y : ℕ). x ≢ y) (area ∷ [])
one-alone area i j d less within = absurd (omega (arith, less, within))

-- ---- the area that a split claimed

-- The area is the one that the split of an area of the part, which is key-sequenced, claimed.
record IsInto (shape : Shape) (known : Known) (area : ℕ) : Type 0 where
  pub keyed : KeyedChain
  pub is : shape ≡ KeyedShape keyed
  pub move : MoveNow
  pub under_way : known.move ≡ Some move
  pub into : move.into ≡ area

-- there is one at most
into-one : (shape : Shape) (known : Known) (area other : ℕ) → IsInto shape known area
    → IsInto shape known other → area ≡ other
into-one shape known area other one two =
    let under_way : Some one.move ≡ Some two.move = sym one.under_way ∙ two.under_way in
    let same : one.move ≡ two.move = cc in
    sym one.into ∙ ap (λ (move : MoveNow). move.into) same ∙ two.into

-- ---- the areas that parts reach

module _ (number : ℕ) (store : StoreNow) (state : State) (now : Seen) (set : IsSet store now)
    (stored : IsStored number store state now) (left : Left now now.cur) where
  abbrev geometry : Geometry
  geometry = store.log.geometry

  abbrev entries : List CatEntry
  entries = entries_in (state.contents 0)

  module _ (part : PartNo) (shape : Shape)
      (laid : shape_in geometry entries part.0 ≡ Some shape) where
    abbrev there : HasShape store.parts part.0 shape
    there = part-there number store state now set stored part.0 shape laid

    rested : IsRestedPart store state now there.part
    rested = part-rested number store state now set stored part.0 shape laid

    abbrev known : Known
    known = there.part.known

    knows : Knows shape known now
    knows = part-knows number store state now set stored part.0 shape laid

    owns : OwnsChain shape known store.space
    owns = subst (λ (s : Shape). OwnsChain s known store.space) there.is
        (among-all (OwnsItsChain store.space) store.parts part.0 there.part set.owns there.found)

    claimed : OwnsClaimed shape (owners_of store) known
    claimed = subst (λ (s : Shape). OwnsClaimed s (owners_of store) known) there.is rested.claimed

    held : HasOnly there.part.shape (owners_of store) (MayHold there.part.shape now.may) now.cur
    held = sound-image there.part.shape (owners_of store) now
        (rest-sound there.part.shape (owners_of store) now rested.rests) now.cur
        (record { each = λ n below inside. left.each n below })

    stays : StaysIn shape (owners_of store) now.cur
    stays = subst (λ (s : Shape). StaysIn s (owners_of store) now.cur) there.is held.within

    stands : Stands shape now.cur
    stands = subst (λ (s : Shape). Stands s now.cur) there.is (held.content, held.stands)

    -- it owns an area whose head block is its own,
    block-own : (area : ℕ)
        → owners_of store (head_block geometry area) ≡ Some (part_no shape).0
        → get_or store.space area None ≡ Some part
    block-own area own = by_owner (get_or store.space area None)
        (sym (area-owner geometry store.space area (head_block geometry area) (omega arith)
        (omega arith)) ∙ own ∙ ap Some (laid-as geometry entries part.0 shape laid).number)
      where
        by_owner : (owner : Option PartNo)
            → option_map (λ (one : PartNo). one.0) owner ≡ Some part.0 → owner ≡ Some part
        by_owner None is = absurd cc
        by_owner (Some one) is =
            let same : one.0 ≡ part.0 = cc in
            ap (λ (n : ℕ). Some (record { 0 = n })) same

    -- and so each one that it reaches
    reached-own : (area : ℕ) → ReachesArea geometry shape now.cur area
        → get_or store.space area None ≡ Some part
    reached-own area reaches = block-own area (stays-reached geometry entries part.0 shape
        (owners_of store) now.cur area laid stays reaches (head_block geometry area) (omega arith)
        (omega arith))

    reached-all : (areas : List ℕ)
        → ((area : ℕ) → Contains areas area → ReachesArea geometry shape now.cur area)
        → All (λ (area : ℕ). get_or store.space area None ≡ Some part) areas
    reached-all areas reach = All-weaker (Contains areas)
        (λ (area : ℕ). get_or store.space area None ≡ Some part)
        (λ area has. reached-own area (reach area has)) areas (All-contains_itself areas)

    -- it owns as many as it holds
    owned-held : owned_count part store.space ≡ length (held_by shape known)
    owned-held = ap (λ (n : ℕ). owned_count (record { 0 = n }) store.space)
        (sym (laid-as geometry entries part.0 shape laid).number) ∙ owns

  -- An area that a keyed part owns is one that it reaches, or the one that its split claimed.
  module _ (part : PartNo) (keyed : KeyedChain)
      (laid : shape_in geometry entries part.0 ≡ Some (KeyedShape keyed)) where
    abbrev held-known : Known
    held-known = known part (KeyedShape keyed) laid

    abbrev reached : List ℕ
    reached = areas_in keyed now.cur

    once : AllPairs (λ (x y : ℕ). x ≢ y) reached
    once = areas-once keyed now.cur (area_count keyed.geometry) keyed.first None
        (stands part (KeyedShape keyed) laid).1.chain

    all-own : All (λ (area : ℕ). get_or store.space area None ≡ Some part) reached
    all-own = reached-all part (KeyedShape keyed) laid reached (λ area has. has)

    count : owned_count part store.space ≡ length (held_with reached held-known.move)
    count = owned-held part (KeyedShape keyed) laid
        ∙ ap (λ (areas : List ℕ). length (held_with areas held-known.move))
        (knows part (KeyedShape keyed) laid).blocks.0.areas_are

    module _ (move : MoveNow) (under_way : held-known.move ≡ Some move) where
      later : move.stage ≢ CaClaim
      later is = subst IsPastClaimStage is
          (subst IsPastClaim under_way (knows part (KeyedShape keyed) laid).way.3)

      -- that one is none that it reaches,
      into-apart : Contains reached move.into → ⊥
      into-apart = (aside-of keyed move now move.stage later
          (subst (λ (m : Option MoveNow). MoveUnderWay keyed m now) under_way
          (knows part (KeyedShape keyed) laid).way.1).ready).apart

      -- and its own
      into-own : get_or store.space move.into None ≡ Some part
      into-own = block-own part (KeyedShape keyed) laid move.into
          (subst (λ (g : Geometry). owners_of store (head_block g move.into) ≡ Some keyed.part)
          (laid-as geometry entries part.0 (KeyedShape keyed) laid).areas
          (((subst (OwnsInto keyed (owners_of store)) under_way
          (claimed part (KeyedShape keyed) laid)) later).owned
          (head_block keyed.geometry move.into) (omega arith, omega arith)))

    own-keyed : (area : ℕ) → get_or store.space area None ≡ Some part
        → Contains reached area ⊎ IsInto (KeyedShape keyed) held-known area
    own-keyed area is = by_move held-known.move refl
      where
        by_move : (move : Option MoveNow) → held-known.move ≡ move
            → Contains reached area ⊎ IsInto (KeyedShape keyed) held-known area
        by_move None none = inl (owned-all part store.space reached once all-own
            (count ∙ ap (λ (m : Option MoveNow). length (held_with reached m)) none) area is)
        by_move (Some move) under_way = ⊎_elim
            (λ same. inr (record {
              keyed = keyed;
              is = refl;
              move = move;
              under_way = under_way;
              into = same;
            }))
            inl
            (contains-cases move.into area reached
            (owned-all part store.space (move.into ∷ reached)
            (once-more reached move.into once (into-apart move under_way))
            (All-cons (λ (one : ℕ). get_or store.space one None ≡ Some part) move.into reached
            (into-own move under_way) all-own)
            (count ∙ ap (λ (m : Option MoveNow). length (held_with reached m)) under_way
            ∙ length_push reached move.into ∙ omega arith)
            area is))

  -- So an area that a part owns is one that it reaches, or the one that its split claimed.
  own-reached : (part : PartNo) (shape : Shape)
      (laid : shape_in geometry entries part.0 ≡ Some shape)
      → (area : ℕ) → get_or store.space area None ≡ Some part
      → ReachesArea geometry shape now.cur area ⊎ IsInto shape (known part shape laid) area
  own-reached part (KeyedShape keyed) laid area is = own-keyed part keyed laid area is
  own-reached part (NumberedShape chain) laid area is = inl (
      owned-all part store.space (chain_of chain now.cur)
      (chain-once chain (IsOwnArea chain (owners_of store)) (IsFilled chain) now.cur
      (area_count chain.geometry) chain.first (stays part (NumberedShape chain) laid))
      (reached-all part (NumberedShape chain) laid (chain_of chain now.cur) (λ one has. has))
      (owned-held part (NumberedShape chain) laid
      ∙ ap (λ (areas : List ℕ). length areas)
      (knows part (NumberedShape chain) laid).blocks.chain.areas) area is)

  -- the area that its split claimed is ahead of it,
  into-ahead : (part : PartNo) (shape : Shape)
      (laid : shape_in geometry entries part.0 ≡ Some shape) (area : ℕ)
      → IsInto shape (known part shape laid) area → IsAhead geometry entries now.cur part.0 area
  into-ahead part shape laid area into = record {
    keyed = into.keyed;
    laid = laid ∙ ap Some into.is;
    apart = λ reached. by_shape shape laid into reached;
  }
    where
      by_shape : (shape : Shape) (laid : shape_in geometry entries part.0 ≡ Some shape)
          → IsInto shape (known part shape laid) area
          → IsReachedIn geometry entries now.cur part.0 area → ⊥
      by_shape (KeyedShape keyed) laid into reached =
          let found : Some reached.shape ≡ Some (KeyedShape keyed) = sym reached.laid ∙ laid in
          let same : reached.shape ≡ KeyedShape keyed = cc in
          into-apart part keyed laid into.move into.under_way
          (subst (Contains (areas_in keyed now.cur)) (sym into.into)
          (subst (λ (s : Shape). ReachesArea geometry s now.cur area) same reached.reaches))
      by_shape (NumberedShape chain) laid into reached =
          let other : NumberedShape chain ≡ KeyedShape into.keyed = into.is in
          absurd cc

  -- and it is the only one that it owns and that is.
  ahead-into : (part : PartNo) (area : ℕ) (shape : Shape)
      (laid : shape_in geometry entries part.0 ≡ Some shape)
      → get_or store.space area None ≡ Some part
      → IsAhead geometry entries now.cur part.0 area → IsInto shape (known part shape laid) area
  ahead-into part area shape laid is ahead = ⊎_elim
      (λ reaches. absurd (ahead.apart (record { shape = shape; laid = laid; reaches = reaches })))
      (λ into. into)
      (own-reached part shape laid area is)

  -- So parts own what they reach, and one area more that is ahead of them.
  pub stored-owners : OwnLaid geometry entries store.space
      → AreOwnersWithAhead geometry entries now.cur store.space
  stored-owners unlaid = record {
    count = set.areas;
    owned = λ part area reached.
        reached-own part reached.shape reached.laid area reached.reaches;
    only = λ part area is. by_shape part area is (shape_in geometry entries part.0) refl;
    one = λ part area other is too ahead ahead_too. into-one (KeyedShape ahead.keyed)
        (known part (KeyedShape ahead.keyed) ahead.laid) area other
        (ahead-into part area (KeyedShape ahead.keyed) ahead.laid is ahead)
        (ahead-into part other (KeyedShape ahead.keyed) ahead.laid too ahead_too);
  }
    where
      by_shape : (part : PartNo) (area : ℕ) → get_or store.space area None ≡ Some part
          → (found : Option Shape) → shape_in geometry entries part.0 ≡ found
          → IsReachedIn geometry entries now.cur part.0 area
          ⊎ IsAhead geometry entries now.cur part.0 area
      by_shape part area is None none = absurd (omega (
        arith,
        unlaid part none,
        owned-most part store.space (area ∷ []) (one-alone area)
            (All-cons (λ (one : ℕ). get_or store.space one None ≡ Some part) area [] is
            (All-nil (λ (one : ℕ). get_or store.space one None ≡ Some part))),
      ))
      by_shape part area is (Some shape) laid = ⊎_elim
          (λ reaches. inl (record { shape = shape; laid = laid; reaches = reaches }))
          (λ into. inr (into-ahead part shape laid area into))
          (own-reached part shape laid area is)

-- So it is of a volume that is held.
pub held-owners : {B : Type 0} (seen : B → Seen) (opening : State) (volume : VolumeNow B)
    → IsWhole seen volume → IsHeld seen opening volume
    → Left (seen volume.blocks) (seen volume.blocks).cur
    → (state_now opening volume.file).stopped ≡ None
    → HasOwners volume.file.geometry (state_now opening volume.file) (seen volume.blocks).cur
held-owners seen opening volume whole held left none = record {
  owners = volume.store.space;
  are = subst (λ (g : Geometry).
      AreOwnersWithAhead g entries (seen volume.blocks).cur volume.store.space)
      (whole.geometry stops)
      (stored-owners volume.number volume.store (state_now opening volume.file)
      (seen volume.blocks) (whole.set stops) (held.stored stops) left
      (by-store (held.unlaid stops)));
  owned = held.owned;
}
  where
    stops : volume.file.stopped ≡ None
    stops = held.file.now.stopped ∙ none

    entries : List CatEntry
    entries = entries_in ((state_now opening volume.file).contents 0)

    -- by the shape that the store has, and the catalog of the state
    by-store : OwnLaid volume.file.geometry volume.file.catalog volume.store.space
        → OwnLaid volume.store.log.geometry entries volume.store.space
    by-store is = subst (λ (g : Geometry). OwnLaid g entries volume.store.space)
        (sym (whole.geometry stops))
        (subst (λ (catalog : List CatEntry).
        OwnLaid volume.file.geometry catalog volume.store.space) held.file.now.catalog is)
