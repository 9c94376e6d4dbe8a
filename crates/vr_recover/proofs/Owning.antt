-- Who owns the areas of a volume by its parts, and by what its blocks have.
use Rattle.std.proofs.Common.{◌≡◌, ℕ, List, Option, Some, None, sym, ap, subst, ◌∙◌, map, get_or}
use Rattle.std.specs.Prelude.{All, Contains, slice_get}
use Rattle.std.specs.Option.{option_map}
use Rattle.std.proofs.lemmas.Option.{get_or_from_slice_get, slice_get-map, slice_get_within}
use Rattle.vr_types.specs.Seen.{Seen}
use Rattle.vr_types.specs.declared.geometry.Geometry.{Geometry}
use Rattle.vr_types.specs.declared.unit.PartNo.{PartNo}
use Rattle.vr_catalog.specs.declared.entry.CatEntry.{CatEntry}
use Rattle.vr_attach.specs.Laid.{HasArea, ReachesArea, shape_in}
use Rattle.vr_mount.specs.Areas.{AreOwners, IsReachedIn}
use Rattle.vr_part.specs.Any.{known_any, shape_any}
use Rattle.vr_part.specs.declared.any.AnyPart.{AnyPart}
use Rattle.vr_space.specs.Known.{Known}
use Rattle.vr_space.specs.Part.{KeyedShape, Knows, NumberedShape, Shape, part_no}
use Rattle.vr_recover.specs.Found.{AreKnown}
use Rattle.vr_recover.specs.Opening.{AreLaid, AreOwnersBy}
use Rattle.vr_recover.proofs.Adding.{held-none, part-at, same-part}
use Rattle.vr_recover.proofs.Settled.{attached-knows, attached-no-move}

-- a part knows its blocks, and no split of an area of it is under way
abbrev pub KnowsOwn : Seen → AnyPart → Type 0
KnowsOwn now part = Knows (shape_any part) (known_any part) now × ((known_any part).move ≡ None)

-- parts know their blocks
abbrev pub AllKnow : List AnyPart → Seen → Type 0
AllKnow parts now = All (KnowsOwn now) parts

-- so they do as they were attached
pub known-know : (parts : List AnyPart) (now : Seen) → AreKnown parts now.cur → AllKnow parts now
known-know parts now known k d below =
    let one = get_or parts k d in (
      attached-knows (shape_any one) (known_any one) now (known k d below),
      attached-no-move (shape_any one) (known_any one) now.cur (known k d below),
    )

-- a part that knows its blocks has the areas that it reaches
reaches-has : (geometry : Geometry) (shape : Shape) (known : Known) (now : Seen) (area : ℕ)
    → Knows shape known now → known.move ≡ None → ReachesArea geometry shape now.cur area
    → HasArea geometry shape known area
reaches-has geometry (KeyedShape part) known now area knows none reaches = subst
    (λ (areas : List ℕ). Contains areas area)
    (sym (held-none (KeyedShape part) known none ∙ knows.blocks.0.areas_are)) reaches
reaches-has geometry (NumberedShape part) known now area knows none reaches = subst
    (λ (areas : List ℕ). Contains areas area) (sym knows.blocks.chain.areas)
    reaches

has-reaches : (geometry : Geometry) (shape : Shape) (known : Known) (now : Seen) (area : ℕ)
    → Knows shape known now → known.move ≡ None → HasArea geometry shape known area
    → ReachesArea geometry shape now.cur area
has-reaches geometry (KeyedShape part) known now area knows none has = subst
    (λ (areas : List ℕ). Contains areas area)
    (held-none (KeyedShape part) known none ∙ knows.blocks.0.areas_are) has
has-reaches geometry (NumberedShape part) known now area knows none has = subst
    (λ (areas : List ℕ). Contains areas area) knows.blocks.chain.areas has

module _ (geometry : Geometry) (entries : List CatEntry) (parts : List AnyPart)
    (owners : List (Option PartNo)) (laid : AreLaid geometry entries (map shape_any parts))
    (own : AreOwnersBy geometry parts owners) (now : Seen) (know : AllKnow parts now) where
  knows-at : (k : ℕ) (one : AnyPart) → slice_get parts k ≡ Some one
      → KnowsOwn now one
  knows-at k one there = subst (KnowsOwn now)
      (get_or_from_slice_get parts k one one there)
      (know k one (slice_get_within parts k one there))

  laid-at : (k : ℕ) (one : AnyPart) → slice_get parts k ≡ Some one
      → shape_in geometry entries (part_no (shape_any one)).0 ≡ Some (shape_any one)
  laid-at k one there =
      let here : slice_get (map shape_any parts) k ≡ Some (shape_any one) =
      slice_get-map shape_any parts k ∙ ap (option_map shape_any) there in
      subst (λ (shape : Shape). shape_in geometry entries (part_no shape).0 ≡ Some shape)
      (get_or_from_slice_get (map shape_any parts) k (shape_any one) (shape_any one) here)
      (laid.each k (shape_any one)
      (slice_get_within (map shape_any parts) k (shape_any one) here))

  reached-own : (part : PartNo) (area : ℕ) → IsReachedIn geometry entries now.cur part.0 area
      → get_or owners area None ≡ Some part
  reached-own part area reached =
      let there = laid.there part.0 reached.shape reached.laid in
      let one = part-at parts there.0 reached.shape there.1 in
      let has : HasArea geometry (shape_any one.0) (known_any one.0) area =
      reaches-has geometry (shape_any one.0) (known_any one.0) now area
      (knows-at there.0 one.0 one.1).0 (knows-at there.0 one.0 one.1).1
      (subst (λ (s : Shape). ReachesArea geometry s now.cur area) (sym one.2) reached.reaches) in
      subst (λ (p : AnyPart). HasArea geometry (shape_any p) (known_any p) area
      → get_or owners area None ≡ Some (part_no (shape_any p)))
      (get_or_from_slice_get parts there.0 one.0 one.0 one.1)
      (own.owned there.0 one.0 (slice_get_within parts there.0 one.0 one.1) area) has
      ∙ ap Some (same-part (part_no (shape_any one.0)) part
      (ap (λ (s : Shape). (part_no s).0) one.2
      ∙ laid.all part.0 reached.shape reached.laid))

  own-reached : (part : PartNo) (area : ℕ)
      → get_or owners area None ≡ Some part
      → IsReachedIn geometry entries now.cur part.0 area
  own-reached part area is =
      let held = own.only part area is in
      record {
        shape = shape_any held.one;
        laid = subst (λ (n : PartNo). shape_in geometry entries n.0 ≡ Some (shape_any held.one))
            held.number (laid-at held.at held.one held.there);
        reaches = has-reaches geometry (shape_any held.one) (known_any held.one) now area
            (knows-at held.at held.one held.there).0 (knows-at held.at held.one held.there).1
            held.has;
      }

  -- each area is its whose blocks reach it
  pub owners-reached : AreOwners geometry entries now.cur owners
  owners-reached = record { count = own.count; owned = reached-own; only = own-reached }
