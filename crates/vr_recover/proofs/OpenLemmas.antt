-- What opening a volume comes to, step by step.
use Rattle.std.proofs.Common.{◌≡◌, ◌⊎◌, ⊎_elim, inl, inr, ℕ, ◌≤◌, ◌^◌, Bool, List, []}
use Rattle.std.proofs.Common.{Option, Some, None, length, refl, sym, ap, subst, ◌∙◌, arith, map}
use Rattle.std.proofs.Common.{get_or, IsTrue, false}
use Rattle.std.specs.Prelude.{All, Contains, slice_get}
use Rattle.std.specs.Option.{option_map}
use Rattle.std.proofs.lemmas.Option.{get_or_from_slice_get, slice_get-get_or, slice_get-map}
use Rattle.std.proofs.lemmas.Option.{slice_get_within}
use Rattle.std.proofs.lemmas.List.Elements.{All-nil}
use Rattle.vr_types.specs.Blocks.{AllForced, Keeps}
use Rattle.vr_types.specs.Content.{Content}
use Rattle.vr_types.specs.Geometry.{IsAllowed}
use Rattle.vr_types.specs.Image.{Image, block_at}
use Rattle.vr_types.specs.Moments.{Guards}
use Rattle.vr_types.specs.Seen.{Left, Seen}
use Rattle.vr_types.specs.declared.geometry.Geometry.{Geometry}
use Rattle.vr_types.specs.declared.unit.PartNo.{PartNo}
use Rattle.vr_types.proofs.CallerLemmas.{guards-keeps, guards-start, guards-then, guards-weaken}
use Rattle.vr_catalog.specs.Catalog.{entries_in}
use Rattle.vr_catalog.specs.declared.entry.CatEntry.{CatEntry}
use Rattle.vr_attach.specs.CatalogRules.{IsCatalog}
use Rattle.vr_attach.specs.Header.{header_block}
use Rattle.vr_attach.specs.Laid.{AreApart, HasArea, catalog_shape, shape_in}
use Rattle.vr_attach.specs.Owning.{owner_of}
use Rattle.vr_history.specs.State.{BeforeImage}
use Rattle.vr_log.specs.Content.{Content as LogContent}
use Rattle.vr_log.specs.LogNow.{IsForced, IsOf, LogNow}
use Rattle.vr_log.specs.Spells.{Spells}
use Rattle.vr_log.specs.Standing.{LogStands}
use Rattle.vr_log.proofs.CallerLemmas.{one_log}
use Rattle.vr_mount.specs.Header.{IsHeaderOf, version_in}
use Rattle.vr_mount.proofs.CallerLemmas.{image-same}
use Rattle.vr_part.specs.Any.{known_any, shape_any}
use Rattle.vr_part.specs.declared.any.AnyPart.{AnyPart}
use Rattle.vr_space.specs.Known.{Known}
use Rattle.vr_space.specs.Part.{IsOn, OwnsChain, Shape, Stands, StandsFor}
use Rattle.vr_space.specs.Part.{held_by, owned_count, part_no}
use Rattle.vr_space.proofs.CallerLemmas.{fewer-room, rest-sound}
use Rattle.vr_undo.proofs.CallerLemmas.{stands-entries}
use Rattle.vr_volume.specs.PutBack.{images_of, lengths_kept}
use Rattle.vr_recover.specs.Recovered.{IsRecovered, IsWhole, KeepsAll, standing_all}
use Rattle.vr_volume.specs.Volume.{Recovers}
use Rattle.vr_volume.proofs.CallerLemmas.{catalog-whole, keep-less, recovers-same}
use Rattle.vr_recover.specs.Found.{IsFound, IsPartReady, IsPlanned, areas_kept, held_any}
use Rattle.vr_recover.specs.Opening.{AreOwnersBy, HasNoSplit, InArea, InCatalog, InImages, InLog}
use Rattle.vr_recover.specs.Opening.{AreLaid, AreShapesOf, InPart, IsDamaged, IsHandedOut}
use Rattle.vr_recover.specs.Opening.{OwnsAreas}
use Rattle.vr_recover.specs.Opening.{IsCatalogPartShown, shapes_laid}
use Rattle.vr_recover.specs.Opening.{IsNoVolume, IsOpened, IsPartShown, IsRefused, OfCatalog}
use Rattle.vr_recover.specs.Opening.{OfEntry}
use Rattle.vr_recover.specs.Opening.{IsShownOf, IsShownPast, IsVolume, PastLog, Twice}
use Rattle.vr_recover.specs.Undone.{IsLaidPastLog, IsReady, IsUndone}
use Rattle.vr_recover.specs.declared.open_no.OpenNo.{OpenNo}
use Rattle.vr_recover.specs.declared.open_no.OpenNo.TheVariants as nos
use Rattle.vr_recover.specs.declared.open_no.OpenNo.TheVariants.{Damaged, Version, Read, Write}
use Rattle.vr_recover.specs.declared.open_no.OpenNo.TheVariants.{Memory}
use Rattle.vr_recover.specs.declared.open_no.Unserved.{Unserved}
use Rattle.vr_recover.specs.Images.{CannotGoBack, catalog_by}
use Rattle.vr_recover.specs.Unserved.{IsUnservedOf}
use Rattle.vr_recover.proofs.Adding.{part-at}
use Rattle.vr_recover.proofs.Agreeing.{volume-here}
use Rattle.vr_recover.proofs.Attaching.{entry-then}
use Rattle.vr_recover.proofs.Clearing.{parts-on, parts-past}
use Rattle.vr_recover.proofs.Keeping.{all-more}
use Rattle.vr_recover.proofs.NumberOrder.{shapes-lay}
use Rattle.vr_recover.proofs.Owning.{KnowsOwn, owners-reached}
use Rattle.vr_recover.proofs.Recovery.{found-entries, found-recovers, recovered}
use Rattle.vr_recover.proofs.Wholes.{recovers-whole, whole, whole-records}

-- ---- calls that put nothing

-- what is said of the blocks is said of them before such a call
module _ (a b : Seen) (count : b.count ≡ a.count) (size : b.size ≡ a.size) (cur : b.cur ≡ a.cur)
  where
    volume-then : (number : ℕ) (geometry : Geometry) (contents : ℕ → Content)
        → IsVolume number geometry contents a → IsVolume number geometry contents b
    volume-then number geometry contents is = record {
      allowed = is.allowed;
      shape = record { count = count ∙ is.shape.count; size = size ∙ is.shape.size };
      recovers = subst (λ (i : Image). Recovers geometry number i contents) (sym cur) is.recovers;
    }

    volume-before : (number : ℕ) (geometry : Geometry) (contents : ℕ → Content)
        → IsVolume number geometry contents b → IsVolume number geometry contents a
    volume-before number geometry contents is = record {
      allowed = is.allowed;
      shape = record { count = sym count ∙ is.shape.count; size = sym size ∙ is.shape.size };
      recovers = subst (λ (i : Image). Recovers geometry number i contents) cur is.recovers;
    }

    none-before : (number : ℕ) → IsNoVolume number b → IsNoVolume number a
    none-before number none geometry contents is =
        none geometry contents (volume-then number geometry contents is)

    pub none-then : (number : ℕ) → IsNoVolume number a → IsNoVolume number b
    none-then number none geometry contents is =
        none geometry contents (volume-before number geometry contents is)

    stands-then : (geometry : Geometry) (one : Content)
        → StandsFor (catalog_shape geometry) a.cur one
        → StandsFor (catalog_shape geometry) b.cur one
    stands-then geometry one =
        subst (λ (i : Image). StandsFor (catalog_shape geometry) i one) (sym cur)

    stands-before : (geometry : Geometry) (one : Content)
        → StandsFor (catalog_shape geometry) b.cur one
        → StandsFor (catalog_shape geometry) a.cur one
    stands-before geometry one =
        subst (λ (i : Image). StandsFor (catalog_shape geometry) i one) cur

    part-before : (geometry : Geometry) (images : List BeforeImage) (block rule : ℕ)
        → IsPartShown geometry images b block rule → IsPartShown geometry images a block rule
    part-before geometry images block rule (OfCatalog shown) = OfCatalog (subst (λ (i : Image).
        IsCatalogPartShown geometry i block rule) cur shown)
    part-before geometry images block rule (OfEntry content stands shown) = OfEntry content
        (stands-before geometry content stands)
        (entry-then geometry (entries_in (catalog_by images content)) b a block rule cur shown)

    past-before : (geometry : Geometry) (images : List BeforeImage) (block rule : ℕ)
        → IsShownPast geometry images b block rule → IsShownPast geometry images a block rule
    past-before geometry images block rule (InPart shown) =
        InPart (part-before geometry images block rule shown)
    past-before geometry images block rule (InCatalog shown) = InCatalog (record {
      block_is = shown.block_is;
      rule_is = shown.rule_is;
      stands = subst (Stands (catalog_shape geometry)) cur shown.stands;
      damaged = λ one stands. shown.damaged one (stands-then geometry one stands);
    })
    past-before geometry images block rule (InArea shown) = InArea (record {
      block_is = shown.block_is;
      rule_is = shown.rule_is;
      stands = subst (Stands (catalog_shape geometry)) cur shown.stands;
      damaged = λ one stands. shown.damaged one (stands-then geometry one stands);
    })
    past-before geometry images block rule (Twice shown) = Twice (record {
      block_is = shown.block_is;
      rule_is = shown.rule_is;
      stands = subst (Stands (catalog_shape geometry)) cur shown.stands;
      damaged = λ one stands. shown.damaged one (stands-then geometry one stands);
    })
    past-before geometry images block rule (InImages shown) = InImages (record {
      block_is = shown.block_is;
      rule_is = shown.rule_is;
      catalog = shown.catalog;
      stands = stands-before geometry shown.catalog shown.stands;
      damaged = subst (λ (i : Image). CannotGoBack images
          (shapes_laid geometry (entries_in (catalog_by images shown.catalog))) i) cur shown.damaged;
    })

    shown-before : (geometry : Geometry) (block rule : ℕ) → IsShownOf geometry b block rule
        → IsShownOf geometry a block rule
    shown-before geometry block rule (InLog shown) = InLog (record {
      rule_is = shown.rule_is;
      damaged = subst (λ (i : Image). Rattle.vr_log.specs.Damage.IsDamagedAt geometry i block) cur
          shown.damaged;
    })
    shown-before geometry block rule (PastLog log spelled shown) = PastLog log
        (subst (λ (i : Image). Spells geometry i log) cur spelled)
        (past-before geometry (images_of log.records) block rule shown)

    has-before : (geometry : Geometry) (block : ℕ) (cause : Unserved)
        → IsUnservedOf geometry b block cause → IsUnservedOf geometry a block cause
    has-before geometry block cause has = record {
      log = has.log;
      spelled = subst (λ (i : Image). Spells geometry i has.log) cur has.spelled;
      catalog = record {
        content = has.catalog.content;
        stands = stands-before geometry has.catalog.content has.catalog.stands;
        rules = has.catalog.rules;
        block_is = has.catalog.block_is;
        is = has.catalog.is;
      };
    }

    header-before : (number : ℕ) (geometry : Geometry)
        → IsHeaderOf b.count b.size number (block_at b.cur 0) geometry
        → IsHeaderOf a.count a.size number (block_at a.cur 0) geometry
    header-before number geometry header = record {
      allowed = header.allowed;
      blocks_are = header.blocks_are ∙ count;
      size_is = header.size_is ∙ size;
      bytes = subst (λ (i : Image). block_at i 0 ≡ header_block geometry number) cur header.bytes;
    }

    header-then : (number : ℕ) (geometry : Geometry)
        → IsHeaderOf a.count a.size number (block_at a.cur 0) geometry
        → IsHeaderOf b.count b.size number (block_at b.cur 0) geometry
    header-then number geometry header = record {
      allowed = header.allowed;
      blocks_are = header.blocks_are ∙ sym count;
      size_is = header.size_is ∙ sym size;
      bytes = subst (λ (i : Image). block_at i 0 ≡ header_block geometry number) (sym cur)
          header.bytes;
    }

    damaged-before : (number block rule : ℕ) → IsDamaged number b block rule
        → IsDamaged number a block rule
    damaged-before number block rule is = record {
      none = none-before number is.none;
      shown = ⊎_elim
          (λ header. inl (record {
            block_is = header.block_is;
            rule_is = header.rule_is;
            damaged = record {
              none = λ geometry of. header.damaged.none geometry (header-then number geometry of);
              version = λ some found stated. header.damaged.version
                  (omega (arith, some, count)) found
                  (ap version_in (ap (λ (i : Image). block_at i 0) cur) ∙ stated);
            };
          }))
          (λ within. inr (record {
            geometry = within.geometry;
            header = header-before number within.geometry within.header;
            shown = shown-before within.geometry block rule within.shown;
          }))
          is.shown;
    }

    pub refused-before : (number : ℕ) (answer : OpenNo) → IsRefused number b answer
        → IsRefused number a answer
    refused-before number (Damaged block rule) is = damaged-before number block rule is
    refused-before number (Version found) is = record {
      none = none-before number is.none;
      stated = ap version_in (ap (λ (i : Image). block_at i 0) (sym cur)) ∙ is.stated;
      other = is.other;
    }
    refused-before number (nos.Unserved block cause) is = record {
      geometry = is.geometry;
      header = header-before number is.geometry is.header;
      has = has-before is.geometry block cause is.has;
    }
    refused-before number Read is = tt
    refused-before number Write is = tt
    refused-before number Memory is = tt

    pub opened-before : (number : ℕ) (geometry : Geometry) (entries : List CatEntry)
        (parts : List AnyPart) (log : LogNow) (owners : List (Option PartNo)) (now : Seen)
        → IsOpened number geometry entries parts log owners b now
        → IsOpened number geometry entries parts log owners a now
    opened-before number geometry entries parts log owners now is = (
      is.0,
      record {
        volume = volume-before number geometry (standing_all is.0) is.1.volume;
        whole = subst (λ (i : Image). IsRecovered geometry number is.0 i) cur is.1.whole;
        undone = is.1.undone;
        stands = is.1.stands;
        ready = is.1.ready;
        owners_are = is.1.owners_are;
        catalog = is.1.catalog;
        rules = is.1.rules;
        apart = is.1.apart;
        ascends = is.1.ascends;
        others = is.1.others;
      },
    )

-- ---- moments

-- where a crash leaves what is read, so it does while nothing is put
pub forced-guards : (tells : Bool) (P : Image → Type 0) (a b : Seen) → IsTrue tells
    → ((image : Image) → a.images a.moment image → Left a image) → Left a a.cur
    → AllForced a.count a.cur a.may → P a.cur → Keeps tells a b → Guards a b P
forced-guards tells P a b told within cur forced is call = guards-keeps tells a a b P
    (guards-start a P within (λ image left. subst P
    (sym (image-same a.count a image refl forced cur left)) is)) call told

-- one of these, and what the call before left
pub left-guards : (tells : Bool) (P : Image → Type 0) (a b : Seen) → IsTrue tells
    → ((image : Image) → a.images a.moment image → Left a image) → Keeps tells a b
    → Guards a b (λ image. Left a image ⊎ P image)
left-guards tells P a b told within call = guards-keeps tells a a b
    (λ image. Left a image ⊎ P image)
    (guards-start a (λ image. Left a image ⊎ P image) within (λ image left. inl left)) call told

-- contents that the blocks have, once they were read
whole-then : (geometry : Geometry) (number : ℕ) (contents : ℕ → Content) (old new : Image)
    → new ≡ old → IsWhole geometry number contents old → IsWhole geometry number contents new
whole-then geometry number contents old new same =
    subst (IsWhole geometry number contents) (sym same)

-- and the rest of it, from where a volume of the shape was read, with this log
module _ (tells : Bool) (geometry : Geometry) (number : ℕ) (content : LogContent) (a b d : Seen)
    (told : IsTrue tells) (within : (image : Image) → a.images a.moment image → Left a image)
    (call : Keeps tells a b) (allowed : IsAllowed geometry)
    (header : block_at a.cur 0 ≡ header_block geometry number)
    (spelled : Spells geometry a.cur content) (long : 8 ≤ length (block_at a.cur 1))
    (further : (contents : ℕ → Content) → IsWhole geometry number contents b.cur
    → Guards b d (KeepsAll geometry number (images_of content.records) contents)) where
  -- of the same shape
  then-same : (contents : ℕ → Content) (is : IsWhole geometry number contents a.cur)
      → Guards a d
      (λ image. Left a image ⊎ KeepsAll geometry number (images_of is.whole.log.records) contents
      image)
  then-same contents is =
      let Kept : Image → Type 0 = KeepsAll geometry number (images_of is.whole.log.records) contents
      in
      guards-then a b d (λ image. Left a image ⊎ Kept image)
      (left-guards tells Kept a b told within call)
      (guards-weaken b d Kept (λ image. Left a image ⊎ Kept image)
      (subst (λ (log : LogContent). Guards b d
      (KeepsAll geometry number (images_of log.records) contents))
      (one_log geometry a.cur content is.whole.log long spelled is.whole.spelled)
      (further contents
      (whole-then geometry number contents a.cur b.cur (call.content told) is)))
      (λ image holds. inr holds))

  pub left-then : (other : Geometry) (contents : ℕ → Content) → IsAllowed other → IsOf other a
      → (is : IsWhole other number contents a.cur)
      → Guards a d
      (λ image. Left a image ⊎ KeepsAll other number (images_of is.whole.log.records) contents
      image)
  left-then other contents may of is =
      subst (λ (g : Geometry). (whole : IsWhole g number contents a.cur) → Guards a d
      (λ image. Left a image
      ⊎ KeepsAll g number (images_of whole.whole.log.records) contents image))
      (sym (volume-here number geometry a allowed header other (standing_all contents) (record {
        allowed = may;
        shape = of;
        recovers = is.recovers;
      })))
      (then-same contents) is

-- what keeps the contents of what recovers recovers to the same
pub kept-guards : (geometry : Geometry) (number : ℕ) (images : List BeforeImage) (a d : Seen)
    (recovered : ℕ → Content) (is : Recovers geometry number a.cur recovered)
    → Guards a d (λ image. Left a image
    ⊎ KeepsAll geometry number images (whole geometry number a.cur recovered is) image)
    → Guards a d (λ image. Left a image ⊎ Recovers geometry number image recovered)
kept-guards geometry number images a d recovered is call =
    let contents = whole geometry number a.cur recovered is in
    guards-weaken a d (λ image. Left a image ⊎ KeepsAll geometry number images contents image)
    (λ image. Left a image ⊎ Recovers geometry number image recovered) call
    (λ image either. ⊎_elim (λ left. inl left)
    (λ kept. inr (recovers-same geometry number image (standing_all contents) recovered
    (λ part. sym (whole-records geometry number a.cur recovered is part)) kept.items.recovers))
    either)

-- where all that a crash left recovered, all of it does still
pub all-guards : (geometry : Geometry) (number : ℕ) (contents : ℕ → Content) (a d : Seen)
    → ((image : Image) → Left a image → Recovers geometry number image contents)
    → Guards a d (λ image. Left a image ⊎ Recovers geometry number image contents)
    → Guards a d (λ image. Recovers geometry number image contents)
all-guards geometry number contents a d all call = guards-weaken a d
    (λ image. Left a image ⊎ Recovers geometry number image contents)
    (λ image. Recovers geometry number image contents) call
    (λ image either. ⊎_elim (λ left. all image left) (λ holds. holds) either)

-- ---- what is handed out

-- what parts have by the areas that they keep is the same where these are
owned-still : (geometry : Geometry) (before parts : List AnyPart) (owners : List (Option PartNo))
    → map shape_any parts ≡ map shape_any before → areas_kept parts ≡ areas_kept before
    → AreOwnersBy geometry before owners → AreOwnersBy geometry parts owners
owned-still geometry before parts owners shapes areas own = record {
  count = own.count;
  owned = λ k d below area has.
      let there = slice_get-get_or parts k d below in
      let was = part-was k (get_or parts k d) there in
      subst (λ (s : Shape). get_or owners area None ≡ Some (part_no s)) was.2
      (owned-at k was.0 was.1 area (has-was (shape_any was.0) (shape_any (get_or parts k d))
      (known_any was.0) (known_any (get_or parts k d)) area was.3 has));
  only = λ part area is.
      let held = own.only part area is in
      let now = part-now held.at held.one held.there in
      record {
        at = held.at;
        one = now.0;
        there = now.1;
        number = ap part_no now.2 ∙ held.number;
        has = has-was (shape_any now.0) (shape_any held.one) (known_any now.0)
            (known_any held.one) area now.3 held.has;
      };
  owns = λ k d below.
      let there = slice_get-get_or parts k d below in
      let was = part-was k (get_or parts k d) there in
      owns-was (shape_any was.0) (shape_any (get_or parts k d)) (known_any was.0)
      (known_any (get_or parts k d)) was.2 was.3 (owns-at k was.0 was.1);
}
  where
    -- the part at the same place, with its shape and its areas
    same-at : (xs ys : List AnyPart) → map shape_any xs ≡ map shape_any ys
        → areas_kept xs ≡ areas_kept ys → (k : ℕ) (one : AnyPart) → slice_get xs k ≡ Some one
        → (other : AnyPart) × (slice_get ys k ≡ Some other)
        × (shape_any other ≡ shape_any one) × (held_any other ≡ held_any one)
    same-at xs ys same kept k one there =
        let other = part-at ys k (shape_any one)
        (ap (λ (s : List Shape). slice_get s k) (sym same) ∙ slice_get-map shape_any xs k
        ∙ ap (option_map shape_any) there) in (
          other.0,
          other.1,
          other.2,
          some-list (sym (slice_get-map held_any ys k ∙ ap (option_map held_any) other.1)
              ∙ ap (λ (s : List (List ℕ)). slice_get s k) (sym kept)
              ∙ slice_get-map held_any xs k ∙ ap (option_map held_any) there),
        )
      where
        some-list : {x y : List ℕ} → Some x ≡ Some y → x ≡ y
        some-list equal = cc

    part-was : (k : ℕ) (one : AnyPart) → slice_get parts k ≡ Some one
        → (other : AnyPart) × (slice_get before k ≡ Some other)
        × (shape_any other ≡ shape_any one) × (held_any other ≡ held_any one)
    part-was k one there = same-at parts before shapes areas k one there

    part-now : (k : ℕ) (one : AnyPart) → slice_get before k ≡ Some one
        → (other : AnyPart) × (slice_get parts k ≡ Some other)
        × (shape_any other ≡ shape_any one) × (held_any other ≡ held_any one)
    part-now k one there = same-at before parts (sym shapes) (sym areas) k one there

    has-was : (one other : Shape) (here there : Known) (area : ℕ)
        → held_by one here ≡ held_by other there → HasArea geometry other there area
        → HasArea geometry one here area
    has-was one other here there area kept has =
        subst (λ (list : List ℕ). Contains list area) (sym kept) has

    owns-was : (one other : Shape) (here there : Known) → one ≡ other
        → held_by one here ≡ held_by other there → OwnsChain one here owners
        → OwnsChain other there owners
    owns-was one other here there same kept owns =
        ap (λ (s : Shape). owned_count (part_no s) owners) (sym same) ∙ owns
        ∙ ap (λ (list : List ℕ). length list) kept

    owned-at : (k : ℕ) (one : AnyPart) → slice_get before k ≡ Some one
        → OwnsAreas geometry owners one
    owned-at k one there = subst (OwnsAreas geometry owners)
        (get_or_from_slice_get before k one one there)
        (own.owned k one (slice_get_within before k one there))

    owns-at : (k : ℕ) (one : AnyPart) → slice_get before k ≡ Some one
        → OwnsChain (shape_any one) (known_any one) owners
    owns-at k one there = subst
        (λ (part : AnyPart). OwnsChain (shape_any part) (known_any part) owners)
        (get_or_from_slice_get before k one one there)
        (own.owns k one (slice_get_within before k one there))

module _ (geometry : Geometry) (content : LogContent) (entries : List CatEntry)
    (before parts : List AnyPart) (allowed : IsAllowed geometry)
    (planned : IsPlanned geometry content entries (map shape_any before))
    (same : map shape_any parts ≡ map shape_any before)
    (areas : areas_kept parts ≡ areas_kept before) (owners : List (Option PartNo))
    (own : AreOwnersBy geometry before owners) where
  shapes-of : AreShapesOf geometry entries (map shape_any parts)
  shapes-of = subst (AreShapesOf geometry entries) (sym same) planned.shapes_are

  laid-of : AreLaid geometry entries (map shape_any parts)
  laid-of = shapes-lay geometry entries (map shape_any parts) planned.may.distinct shapes-of

  pub handed-out : (log : LogNow) (now : Seen) → IsOf geometry now → log.geometry ≡ geometry
      → log.broken ≡ false → IsForced log → log.records ≡ [] → log.generation ≤ 2 ^ 62
      → All HasNoSplit parts → IsHandedOut geometry entries parts log owners now
  handed-out log now of is sound forced records low split = record {
    allowed = allowed;
    shape = of;
    log_is = is;
    sound = sound;
    forced = forced;
    records = records;
    generation = low;
    distinct = planned.may.distinct;
    served = planned.served;
    shapes = shapes-of;
    laid = laid-of;
    on = subst (All (λ (shape : Shape). IsOn shape now)) (sym same)
        (parts-on geometry content entries before planned allowed now of);
    past = subst (All (IsLaidPastLog geometry)) (sym same)
        (parts-past geometry content entries before planned allowed);
    split = split;
    owners_are = owned-still geometry before parts owners same areas own;
  }

  ready-free : (kept : List BeforeImage) (now : Seen) (part : AnyPart)
      → IsPartReady (owner_of geometry owners) kept now part
      → IsReady (shape_any part) (owner_of geometry owners) (known_any part) [] now
  ready-free kept now part ready = record {
    rests = ready.rests;
    room = fewer-room (shape_any part) (owner_of geometry owners) []
        (lengths_kept kept (part_no (shape_any part)).0) now tt
        (keep-less (shape_any part) [] (lengths_kept kept (part_no (shape_any part)).0)
        (All-nil (Contains (lengths_kept kept (part_no (shape_any part)).0))))
        (rest-sound (shape_any part) (owner_of geometry owners) now ready.rests) ready.room;
    knows = ready.knows;
    no_split = ready.no_split;
    no_move = ready.no_move;
  }

  pub opened-by : (number : ℕ) (log : LogNow) (kept : List BeforeImage) (a now : Seen)
      → IsOf geometry a
      → IsFound geometry number content entries (map shape_any before) owners a.cur
      → ((contents : ℕ → Content) → IsWhole geometry number contents a.cur
      → IsUndone number (owner_of geometry owners) log contents now)
      → LogStands log now → All (IsPartReady (owner_of geometry owners) kept now) parts
      → IsOpened number geometry entries parts log owners a now
  opened-by number log kept a now of found undone stands ready =
      let shapes = map shape_any before in
      let records = recovered geometry content entries shapes planned number owners a.cur found in
      let is = found-recovers geometry content entries shapes planned number owners a.cur found
      allowed in
      let contents = whole geometry number a.cur records is in
      let had = recovers-whole geometry number a.cur records is in
      let same-entries : entries ≡ entries_in (contents 0) =
      found-entries geometry content entries shapes planned number owners a.cur found
      ∙ ap entries_in (sym (whole-records geometry number a.cur records is 0))
      ∙ stands-entries (contents 0) in (
        contents,
        record {
          volume = record { allowed = allowed; shape = of; recovers = had.recovers };
          whole = had.whole;
          undone = undone contents had;
          stands = stands;
          ready = all-more (IsPartReady (owner_of geometry owners) kept now)
              (λ (part : AnyPart). IsReady (shape_any part) (owner_of geometry owners)
              (known_any part) [] now)
              (λ part one. ready-free kept now part one) parts ready;
          owners_are = owners-reached geometry entries parts owners laid-of
              (owned-still geometry before parts owners same areas own) now
              (all-more (IsPartReady (owner_of geometry owners) kept now)
              (KnowsOwn now) (λ part one. (one.knows, one.no_move)) parts ready);
          catalog = same-entries;
          rules = catalog-whole geometry (contents 0) (subst (IsCatalog geometry)
              (sym (had.recovers.back 0)) had.recovers.stands.catalog);
          apart = subst (λ (es : List CatEntry). AreApart (shape_in geometry es)) same-entries
              planned.apart;
          ascends = had.ascends;
          others = had.others;
        },
      )
