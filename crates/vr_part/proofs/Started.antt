-- A part without records, whose first area is written: it is in order in blocks of its own, and no
-- place of it has an item, whatever its kind.
use Rattle.std.proofs.Common.{◌≡◌, ◌<◌, ◌≤◌, ℕ, List, [], ◌∷◌, Option, Some, None, length}
use Rattle.std.proofs.Common.{refl, ap, subst, sym, ◌∙◌, get_or}
use Rattle.std.specs.Prelude.{IfSome}
use Rattle.vr_types.specs.Content.{Item}
use Rattle.vr_types.specs.Geometry.{IsAllowed, area_count}
use Rattle.vr_types.specs.Regions.{Touches}
use Rattle.vr_types.specs.Seen.{Seen}
use Rattle.vr_types.specs.declared.geometry.Geometry.{Geometry}
use Rattle.vr_types.specs.declared.unit.Kind.{Kind}
use Rattle.vr_types.specs.declared.unit.Kind.TheVariants.{Keyed, Entry, Relative}
use Rattle.vr_types.specs.declared.unit.PartNo.{PartNo}
use Rattle.vr_catalog.specs.declared.definition.Definition.{Definition}
use Rattle.vr_space.specs.Known.{Known}
use Rattle.vr_space.specs.Owners.{Owners}
use Rattle.vr_space.specs.Part.{HasKeptRoom, InFirstArea, InPart, IsAtRest, IsOn, KeyedShape, Knows}
use Rattle.vr_space.specs.Part.{MayHold, NumberedShape, OwnsChain, OwnsClaimed, Shape, held_by}
use Rattle.vr_space.specs.Part.{item_of, owned_count, part_no}
use Rattle.vr_attach.specs.Laid.{keyed_shape, numbered_part, shape_by_kind}
use Rattle.vr_attach.specs.Owning.{owner_of}
use Rattle.vr_attach.proofs.CallerLemmas.{area-owned}
use Rattle.vr_start.specs.Startable.{IsStartable}
use Rattle.vr_part.specs.First.{Anything}
use Rattle.vr_part.specs.Started.{InAreaAt, IsFirst, known_first}
use Rattle.vr_part.proofs.FirstArea as keyed
use Rattle.vr_part.proofs.FirstRoster as numbered
use Rattle.vr_part.proofs.Touching.{touches-more}

-- ---- by its shape

-- The part is in order in blocks of its own, has room for what is kept for it, which is nothing,
-- and knows its blocks; and no place of it has an item, whatever a crash leaves.
pub record IsEmpty (owners : Owners) (shape : Shape) (known : Known) (now : Seen) : Type 0 where
  pub rests : IsAtRest shape owners now
  pub claimed : OwnsClaimed shape owners known
  pub room : HasKeptRoom shape [] now
  pub knows : Knows shape known now
  pub reads : (place : List ℕ) → item_of shape now.cur place ≡ None
  pub firm : (place : List ℕ) (found : Option Item) → MayHold shape now.may place found
      → found ≡ None

first-empty : (shape : Shape) (now : Seen) (owners : Owners) → IsOn shape now → IsFirst shape now
    → ((n : ℕ) → InFirstArea shape n → InPart shape owners n)
    → IsEmpty owners shape (known_first shape) now
first-empty (KeyedShape part) now owners on first owned = record {
  rests = keyed.first-rests part now first on owners owned;
  claimed = tt;
  room = keyed.first-room part now first;
  knows = keyed.first-knows part now first on;
  reads = keyed.first-reads part now first;
  firm = keyed.first-firm part now first;
}
first-empty (NumberedShape part) now owners on first owned = record {
  rests = numbered.first-rests part now first on owners owned;
  claimed = tt;
  room = numbered.first-room part now first;
  knows = numbered.first-knows part now first on;
  reads = numbered.first-reads part now first;
  firm = numbered.first-firm part now first;
}

-- ---- by its definition

-- The shape is that of the part, which begins in this area of the volume.
record BeginsIn (geometry : Geometry) (part : PartNo) (area : ℕ) (now : Seen) (shape : Shape)
    : Type 0 where
  number : part_no shape ≡ part
  on : IsOn shape now
  first : (n : ℕ) → InFirstArea shape n → InAreaAt geometry area n
  holds : held_by shape (known_first shape) ≡ area ∷ []

some-shape : (x y : Shape) → Some x ≡ Some y → x ≡ y
some-shape x y same = cc

module _ (geometry : Geometry) (part : PartNo) (area : ℕ) (definition : Definition) (now : Seen)
    (allowed : IsAllowed geometry) (below : area < area_count geometry)
    (sizes : IsStartable geometry definition) (count : geometry.blocks ≤ now.count)
    (size : now.size ≡ geometry.size) where
  begins-keyed : BeginsIn geometry part area now (keyed_shape geometry part.0 area definition)
  begins-keyed = record {
    number = refl;
    on = record {
      part_is = record { allowed = allowed; first = below; fits = sizes.fits };
      blocks = count;
      size = size;
    };
    first = λ n inside. inside;
    holds = refl;
  }

  begins-numbered : BeginsIn geometry part area now
      (NumberedShape (numbered_part geometry part.0 area definition))
  begins-numbered = record {
    number = refl;
    on = record {
      part_is = record {
        allowed = allowed;
        first = below;
        some = sizes.some;
        fits = sizes.fits;
      };
      blocks = count;
      size = size;
    };
    first = λ n inside. (inside.from, inside.to);
    holds = refl;
  }

  begins-by : (kind : Kind) (shape : Shape)
      → shape_by_kind geometry part.0 area definition kind ≡ Some shape
      → BeginsIn geometry part area now shape
  begins-by Keyed shape is = subst (BeginsIn geometry part area now)
      (some-shape (keyed_shape geometry part.0 area definition) shape is) begins-keyed
  begins-by Entry shape is = subst (BeginsIn geometry part area now)
      (some-shape (NumberedShape (numbered_part geometry part.0 area definition)) shape is)
      begins-numbered
  begins-by Relative shape is = subst (BeginsIn geometry part area now)
      (some-shape (NumberedShape (numbered_part geometry part.0 area definition)) shape is)
      begins-numbered

  -- A part of the definition, whose first area is written and which keeps what a new one does, has
  -- its blocks,
  module _ (shape : Shape)
      (laid : shape_by_kind geometry part.0 area definition definition.kind ≡ Some shape)
      (known : Known) (new : known ≡ known_first shape) where
    begins : BeginsIn geometry part area now shape
    begins = begins-by definition.kind shape laid

    pub new-on : IsOn shape now
    new-on = begins.on

    -- holds the area,
    pub new-holds : held_by shape known ≡ area ∷ []
    new-holds = ap (held_by shape) new ∙ begins.holds

    -- owns what it holds,
    pub new-owns : (space : List (Option PartNo)) → owned_count part space ≡ 1
        → OwnsChain shape known space
    new-owns space alone = ap (λ (p : PartNo). owned_count p space) begins.number ∙ alone
        ∙ sym (ap (λ (areas : List ℕ). length areas) new-holds)

    -- and is empty.
    pub new-empty : (space : List (Option PartNo)) → get_or space area None ≡ Some part
        → IfSome (shape_by_kind geometry part.0 area definition definition.kind)
        (λ one. IsFirst one now)
        → IsEmpty (owner_of geometry space) shape known now
    new-empty space owned first =
        subst (λ (k : Known). IsEmpty (owner_of geometry space) shape k now) (sym new)
        (first-empty shape now (owner_of geometry space) begins.on
        (subst (λ (found : Option Shape). IfSome found (λ one. IsFirst one now)) laid first)
        (λ n inside. let here : InAreaAt geometry area n = begins.first n inside in
        area-owned geometry space area part owned n here.0 here.1
        ∙ ap (λ (p : PartNo). Some p.0) (sym begins.number)))

-- What touches its area touches blocks of the part alone.
pub part-touches : (geometry : Geometry) (space : List (Option PartNo)) (area : ℕ) (part : PartNo)
    → get_or space area None ≡ Some part → (old new : Seen)
    → Touches (InAreaAt geometry area) Anything old new
    → Touches (λ n. owner_of geometry space n ≡ Some part.0) Anything old new
part-touches geometry space area part owned old new =
    touches-more (InAreaAt geometry area) (λ n. owner_of geometry space n ≡ Some part.0) old new
    (λ n here. area-owned geometry space area part owned n here.0 here.1)
