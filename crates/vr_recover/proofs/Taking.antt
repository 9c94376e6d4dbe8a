-- Which areas are another part's as the walk over the parts comes to one, and what is shown of it
-- by them.
use Rattle.std.proofs.Common.{◌≡◌, ◌⊎◌, ⊎_elim, inl, inr, ℕ, zero, suc, ◌<◌, List, []}
use Rattle.std.proofs.Common.{Option, Some, None, refl, sym, ap, subst, ◌∙◌, arith}
use Rattle.std.proofs.Common.{get_or, map, take}
use Rattle.std.specs.Prelude.{Contains, slice_get}
use Rattle.std.specs.List.Sorted.{IsNonDecreasingBy}
use Rattle.std.specs.Option.{option_map}
use Rattle.std.proofs.lemmas.Bool.Decides.{eqb_tells}
use Rattle.std.proofs.lemmas.List.Elements.{All-nil}
use Rattle.std.proofs.lemmas.Option.{get_or_from_slice_get, slice_get-map, slice_get_within}
use Rattle.vr_types.specs.Geometry.{area_count, head_block}
use Rattle.vr_types.specs.Image.{Image}
use Rattle.vr_types.specs.Seen.{Seen}
use Rattle.vr_types.specs.declared.geometry.Geometry.{Geometry}
use Rattle.vr_types.specs.declared.unit.PartNo.{PartNo}
use Rattle.vr_catalog.specs.declared.entry.CatEntry.{CatEntry}
use Rattle.vr_attach.specs.Chain.{IsChainShown, IsReachedBefore}
use Rattle.vr_attach.specs.Laid.{HasArea, ReachesArea, catalog_shape, shape_in, shape_of}
use Rattle.vr_attach.specs.Marked.{IsTakenIn}
use Rattle.vr_attach.proofs.CallerLemmas.{laid-as}
use Rattle.vr_mount.specs.Areas.{AreFirstOwners, BeginsWith, IsLaidIn}
use Rattle.vr_part.specs.Any.{known_any, shape_any}
use Rattle.vr_part.specs.Attached.{IsAnyShown, IsAttachedWith}
use Rattle.vr_part.specs.declared.any.AnyPart.{AnyPart}
use Rattle.vr_space.specs.Areas.{KeyedChain, areas_in}
use Rattle.vr_space.specs.Known.{Known}
use Rattle.vr_space.specs.Part.{KeyedShape, NumberedShape, Shape, Stands, part_no}
use Rattle.vr_space.specs.Rosters.{Numbered, areas_from, chain_of}
use Rattle.vr_recover.specs.Found.{AllStand, AreAdded, AreAttached, AreKnown, MayAdd}
use Rattle.vr_recover.specs.Opening.{AsFirst, AsReached, IsEntryShown, IsHeldBy, IsTaken, number_of}
use Rattle.vr_recover.proofs.Adding.{attached-none, head-is, held-none, part-at}
use Rattle.vr_recover.proofs.Linked.{begins-areas, linked-to, take-more}
use Rattle.vr_recover.proofs.NumberOrder.{before-laid, laid-before, some-laid, told-before}
use Rattle.vr_recover.proofs.Shapes.{entry-laid, laid-there, shape-laid}

some-is : {X : Type 0} {x y : X} → Some x ≡ Some y → x ≡ y
some-is same = cc

some-none : {X : Type 0} {x : X} → Some x ≡ None → ⊥
some-none same = cc

-- ---- the first area of a chain

begins-chain : (part : Numbered) (image : Image) (n : ℕ) → 0 < n
    → Contains (take 1 (areas_from part image n part.first)) part.first
begins-chain part image zero some = absurd (omega (arith, some))
begins-chain part image (suc n) some = (0, omega arith, refl)

-- ---- by which areas are taken

module _ (part : Numbered) (image : Image) (Taken Other : ℕ → Type 0)
    (to : (area : ℕ) → Taken area → Other area ⊎ Contains (take 1 (chain_of part image)) area)
    (from : (area : ℕ) → Other area → Taken area) where
  before-to : (at area : ℕ) → IsReachedBefore part Taken image at area
      → IsReachedBefore part Other image at area
  before-to at area before = ⊎_elim
      (λ taken. ⊎_elim (λ other. inl other)
      (λ first. inr (take-more at (chain_of part image) area first)) (to area taken))
      (λ chained. inr chained) before

  before-from : (at area : ℕ) → IsReachedBefore part Other image at area
      → IsReachedBefore part Taken image at area
  before-from at area before =
      ⊎_elim (λ other. inl (from area other)) (λ chained. inr chained) before

  chain-to : (block number : ℕ) → IsChainShown part Taken image block number
      → IsChainShown part Other image block number
  chain-to block number shown = record {
    rule = shown.rule;
    number_is = shown.number_is;
    damaged = record {
      at = shown.damaged.at;
      area = shown.damaged.area;
      is = shown.damaged.is;
      walked = record {
        sound = shown.damaged.walked.sound;
        new = λ i area next below is leads before.
            shown.damaged.walked.new i area next below is leads (before-from i next before);
      };
      shown = ⊎_elim (λ roster. inl roster)
          (λ further. inr (⊎_elim (λ filled. inl filled)
          (λ twice. inr (record {
            sound = twice.sound;
            next = twice.next;
            leads = twice.leads;
            before = before-to shown.damaged.at twice.next twice.before;
            block = twice.block;
            rule_is = twice.rule_is;
          })) further)) shown.damaged.shown;
    };
  }

-- ---- what the walk has marked

-- what an attached part has, it reaches
has-reaches : (geometry : Geometry) (shape : Shape) (known : Known) (image : Image) (area : ℕ)
    → IsAttachedWith shape known image → HasArea geometry shape known area
    → ReachesArea geometry shape image area
has-reaches geometry (KeyedShape part) known image area attached has =
    subst (λ (areas : List ℕ). Contains areas area)
    (held-none (KeyedShape part) known attached.3 ∙ attached.2.areas_are) has
has-reaches geometry (NumberedShape part) known image area attached has =
    subst (λ (areas : List ℕ). Contains areas area) attached.2.chain.areas has

reaches-has : (geometry : Geometry) (shape : Shape) (known : Known) (image : Image) (area : ℕ)
    → IsAttachedWith shape known image → ReachesArea geometry shape image area
    → HasArea geometry shape known area
reaches-has geometry (KeyedShape part) known image area attached reaches =
    subst (λ (areas : List ℕ). Contains areas area)
    (sym (held-none (KeyedShape part) known attached.3 ∙ attached.2.areas_are)) reaches
reaches-has geometry (NumberedShape part) known image area attached reaches =
    subst (λ (areas : List ℕ). Contains areas area) (sym attached.2.chain.areas) reaches

-- What is known of parts as they were attached: they have the areas that they reach.
module _ (geometry : Geometry) (parts : List AnyPart) (image : Image) (known : AreKnown parts image)
  where
    known-at : (k : ℕ) (one : AnyPart) → slice_get parts k ≡ Some one
        → IsAttachedWith (shape_any one) (known_any one) image
    known-at k one there = subst
        (λ (p : AnyPart). IsAttachedWith (shape_any p) (known_any p) image)
        (get_or_from_slice_get parts k one one there)
        (known k one (slice_get_within parts k one there))

    pub reached-of : (k : ℕ) (one : AnyPart) (area : ℕ) → slice_get parts k ≡ Some one
        → HasArea geometry (shape_any one) (known_any one) area
        → ReachesArea geometry (shape_any one) image area
    reached-of k one area there has =
        has-reaches geometry (shape_any one) (known_any one) image area (known-at k one there) has

    pub has-of : (k : ℕ) (one : AnyPart) (area : ℕ) → slice_get parts k ≡ Some one
        → ReachesArea geometry (shape_any one) image area
        → HasArea geometry (shape_any one) (known_any one) area
    has-of k one area there reaches = reaches-has geometry (shape_any one) (known_any one) image
        area (known-at k one there) reaches

-- The walk by part numbers comes to this one: the parts that are attached are those of lesser
-- numbers.
module _ (geometry : Geometry) (entries : List CatEntry) (part : ℕ) (parts : List AnyPart)
    (owners : List (Option PartNo)) (attached : AreAttached geometry entries parts owners)
    (image : Image) (known : AreKnown parts image)
    (there : (other : ℕ) (shape : Shape) → other < part
    → shape_in geometry entries other ≡ Some shape
    → (k : ℕ) × (slice_get (map shape_any parts) k ≡ Some shape))
    (earlier : (k : ℕ) (one : AnyPart) → slice_get parts k ≡ Some one
    → ((part_no (shape_any one)).0 < part)
    × (shape_in geometry entries (part_no (shape_any one)).0 ≡ Some (shape_any one))) where
  taken-marked : (area : ℕ) → IsTaken geometry entries image part area → IsTakenIn owners area
  taken-marked area (AsFirst other differs laid) none =
      some-none (sym (attached.laid (record { 0 = other }) area laid) ∙ none)
  taken-marked area (AsReached reached less) none =
      let of = there reached.other reached.shape less reached.laid in
      let one = part-at parts of.0 reached.shape of.1 in
      let has : HasArea geometry (shape_any one.0) (known_any one.0) area =
      has-of geometry parts image known of.0 one.0 area one.1
      (subst (λ (s : Shape). ReachesArea geometry s image area) (sym one.2) reached.reaches) in
      some-none (sym (subst (λ (p : AnyPart). HasArea geometry (shape_any p) (known_any p) area
      → get_or owners area None ≡ Some (part_no (shape_any p)))
      (get_or_from_slice_get parts of.0 one.0 one.0 one.1)
      (attached.owned of.0 one.0 (slice_get_within parts of.0 one.0 one.1) area) has) ∙ none)

  -- an area of an attached part is another part's
  held-taken : (owner : PartNo) (area : ℕ) → IsHeldBy geometry parts owner area
      → IsTaken geometry entries image part area
  held-taken owner area of =
      let number : ℕ = (part_no (shape_any of.one)).0 in
      let one = earlier of.at of.one of.there in
      AsReached (record {
        other = number;
        differs = λ same. omega (arith, one.0, same);
        shape = shape_any of.one;
        laid = one.1;
        reaches = reached-of geometry parts image known of.at of.one area of.there of.has;
      }) one.0

  -- what is marked is another part's, or its own first area
  marked-taken : (area : ℕ) → IsTakenIn owners area
      → IsTaken geometry entries image part area ⊎ IsLaidIn geometry entries part area
  marked-taken area marked = by (get_or owners area None) refl
    where
      first : (owner : PartNo) → IsLaidIn geometry entries owner.0 area
          → IsTaken geometry entries image part area ⊎ IsLaidIn geometry entries part area
      first owner laid = elim (eqb_tells owner.0 part) [
        | inl same ↦ inr (subst (λ (n : ℕ). IsLaidIn geometry entries n area) same.1 laid)
        | inr differ ↦ inl (AsFirst owner.0 differ.1 laid)
      ]

      by : (o : Option PartNo) → get_or owners area None ≡ o
          → IsTaken geometry entries image part area ⊎ IsLaidIn geometry entries part area
      by None is = absurd (marked is)
      by (Some owner) is = ⊎_elim (λ laid. first owner laid)
          (λ of. inl (held-taken owner area of)) (attached.only owner area is)

  -- Its own first area begins its chain:
  module _ (some : 0 < area_count geometry) (area : ℕ) (laid : IsLaidIn geometry entries part area)
    where
      some-there : (here : Geometry) → here ≡ geometry → 0 < area_count here
      some-there here same = subst (λ (g : Geometry). 0 < area_count g) (sym same) some

      at-first : (here : Geometry) (first : ℕ) → here ≡ geometry
          → head_block here first ≡ head_block geometry area → first ≡ area
      at-first here first same begins = head-is geometry first area
          (subst (λ (g : Geometry). head_block g first ≡ head_block geometry area) same begins)

      -- that of a chain of rosters,
      chain-begins : (numbered : Numbered)
          → shape_in geometry entries part ≡ Some (NumberedShape numbered)
          → Contains (take 1 (chain_of numbered image)) area
      chain-begins numbered is =
          let same : numbered.geometry ≡ geometry =
          (laid-as geometry entries part (NumberedShape numbered) is).areas in
          subst (Contains (take 1 (chain_of numbered image)))
          (at-first numbered.geometry numbered.first same
          (subst (BeginsWith (head_block geometry area)) (some-is (sym laid.laid ∙ is))
          laid.begins))
          (begins-chain numbered image (area_count numbered.geometry)
          (some-there numbered.geometry same))

      -- and that of a keyed part.
      areas-begin : (keyed : KeyedChain)
          → shape_in geometry entries part ≡ Some (KeyedShape keyed)
          → Contains (take 1 (areas_in keyed image)) area
      areas-begin keyed is =
          let same : keyed.geometry ≡ geometry =
          (laid-as geometry entries part (KeyedShape keyed) is).areas in
          subst (Contains (take 1 (areas_in keyed image)))
          (at-first keyed.geometry keyed.first same
          (subst (BeginsWith (head_block geometry area)) (some-is (sym laid.laid ∙ is))
          laid.begins))
          (begins-areas keyed image (area_count keyed.geometry)
          (some-there keyed.geometry same))

  shown-by : (shape : Shape) → shape_in geometry entries part ≡ Some shape
      → 0 < area_count geometry → (block rule : ℕ)
      → IsAnyShown shape (IsTakenIn owners) image block rule
      → IsAnyShown shape (IsTaken geometry entries image part) image block rule
  shown-by (KeyedShape keyed) laid some block rule shown = linked-to keyed image
      (IsTakenIn owners) (IsTaken geometry entries image part)
      (λ area marked. ⊎_elim (λ taken. inl taken)
      (λ own. inr (areas-begin some area own keyed laid)) (marked-taken area marked))
      (λ area taken. taken-marked area taken) block rule shown
  shown-by (NumberedShape numbered) laid some block rule shown = chain-to numbered image
      (IsTakenIn owners) (IsTaken geometry entries image part)
      (λ area marked. ⊎_elim (λ taken. inl taken)
      (λ own. inr (chain-begins some area own numbered laid)) (marked-taken area marked))
      (λ area taken. taken-marked area taken) block rule shown

  -- so what is shown of it is shown of its entry
  part-shown : (now : Seen) → now.cur ≡ image → AllStand (map shape_any parts) image
      → (shape : Shape) → shape_in geometry entries part ≡ Some shape → 0 < area_count geometry
      → (block rule : ℕ) → IsAnyShown shape (IsTakenIn owners) image block rule
      → IsEntryShown geometry entries now block rule
  part-shown now cur stand shape laid some block rule shown = record {
    part = part;
    shape = shape;
    laid = laid;
    before = λ other one less of.
        let here = there other one less of in
        subst (Stands one) (sym cur)
        (subst (λ (s : Shape). Stands s image)
        (get_or_from_slice_get (map shape_any parts) here.0 one one here.1)
        (stand here.0 one (slice_get_within (map shape_any parts) here.0 one here.1)));
    shown = subst (λ (i : Image). IsAnyShown shape
        (IsTaken geometry entries i part) i block rule) (sym cur)
        (shown-by shape laid some block rule shown);
  }

-- It comes to the catalog's own part, which is the first.
pub own-shown : (geometry : Geometry) (entries : List CatEntry) (owners : List (Option PartNo))
    (own : AreFirstOwners geometry entries owners) (now : Seen) → 0 < area_count geometry
    → (block rule : ℕ) → IsAnyShown (catalog_shape geometry) (IsTakenIn owners) now.cur block rule
    → IsEntryShown geometry entries now block rule
own-shown geometry entries owners own now some block rule shown =
    part-shown geometry entries 0 [] owners (attached-none geometry entries owners own) now.cur
    (All-nil (λ (part : AnyPart). IsAttachedWith (shape_any part) (known_any part) now.cur))
    (λ other shape less laid. absurd (omega (arith, less)))
    (λ k one there. absurd (some-none (sym there)))
    now refl (All-nil (λ (shape : Shape). Stands shape now.cur)) (catalog_shape geometry) refl some
    block rule shown

-- It comes to an entry.
module _ (geometry : Geometry) (entries : List CatEntry) (at : ℕ) (parts : List AnyPart)
    (owners : List (Option PartNo)) (may : MayAdd geometry entries)
    (ascend : IsNonDecreasingBy number_of entries)
    (added : AreAdded geometry entries at parts owners) (now : Seen)
    (known : AreKnown parts now.cur) (entry : CatEntry) (there : slice_get entries at ≡ Some entry)
  where
    -- a part of a lesser number is attached
    lesser : (other : ℕ) (shape : Shape) → other < entry.part.0
        → shape_in geometry entries other ≡ Some shape
        → (k : ℕ) × (slice_get (map shape_any parts) k ≡ Some shape)
    lesser other shape less laid =
        let of = laid-there geometry (take at entries) (told-before entries at may.distinct) other
        shape
        (before-laid entries may.distinct ascend geometry at entry there other shape less laid) in
        (of.0, ap (λ (s : List Shape). slice_get s of.0) added.shapes ∙ of.1)

    -- and an attached part is of one
    earlier-laid : (k : ℕ) (one : AnyPart) → slice_get parts k ≡ Some one
        → ((part_no (shape_any one)).0 < entry.part.0)
        × (shape_in geometry entries (part_no (shape_any one)).0 ≡ Some (shape_any one))
    earlier-laid k one here =
        let number : ℕ = (part_no (shape_any one)).0 in
        let laid : shape_in geometry (take at entries) number ≡ Some (shape_any one) =
        shape-laid geometry (take at entries) (told-before entries at may.distinct) k
        (shape_any one)
        (ap (λ (s : List Shape). slice_get s k) (sym added.shapes)
        ∙ slice_get-map shape_any parts k ∙ ap (option_map shape_any) here) in (
          laid-before entries may.distinct ascend geometry at entry there number (shape_any one)
              laid,
          some-laid geometry entries at number (shape_any one) laid,
        )

    pub entry-shown : AllStand (map shape_any parts) now.cur
        → (shape : Shape) → shape_of geometry entry ≡ Some shape → 0 < area_count geometry
        → (block rule : ℕ) → IsAnyShown shape (IsTakenIn owners) now.cur block rule
        → IsEntryShown geometry entries now block rule
    entry-shown stand shape laid some block rule shown =
        part-shown geometry entries entry.part.0 parts owners added.attached now.cur known lesser
        earlier-laid now refl stand shape
        (entry-laid geometry entries may.distinct at entry shape there laid) some block rule shown

-- ---- the same entries in another order

-- what is another part's by some entries is so by others that lay the same parts
module _ (geometry : Geometry) (here there : List CatEntry)
    (alike : (part : ℕ) → shape_in geometry here part ≡ shape_in geometry there part) where
  laid-alike : (part area : ℕ) → IsLaidIn geometry here part area
      → IsLaidIn geometry there part area
  laid-alike part area is = record {
    shape = is.shape;
    laid = sym (alike part) ∙ is.laid;
    begins = is.begins;
  }

  taken-alike : (image : Image) (part area : ℕ) → IsTaken geometry here image part area
      → IsTaken geometry there image part area
  taken-alike image part area (AsFirst other differs laid) =
      AsFirst other differs (laid-alike other area laid)
  taken-alike image part area (AsReached reached less) = AsReached (record {
    other = reached.other;
    differs = reached.differs;
    shape = reached.shape;
    laid = sym (alike reached.other) ∙ reached.laid;
    reaches = reached.reaches;
  }) less

module _ (geometry : Geometry) (here there : List CatEntry)
    (alike : (part : ℕ) → shape_in geometry here part ≡ shape_in geometry there part) where
  any-alike : (image : Image) (part : ℕ) (shape : Shape) (block rule : ℕ)
      → IsAnyShown shape (IsTaken geometry here image part) image block rule
      → IsAnyShown shape (IsTaken geometry there image part) image block rule
  any-alike image part (KeyedShape keyed) block rule shown = linked-to keyed image
      (IsTaken geometry here image part) (IsTaken geometry there image part)
      (λ area taken. inl (taken-alike geometry here there alike image part area taken))
      (λ area taken. taken-alike geometry there here (λ n. sym (alike n)) image part area taken)
      block rule shown
  any-alike image part (NumberedShape numbered) block rule shown = chain-to numbered image
      (IsTaken geometry here image part) (IsTaken geometry there image part)
      (λ area taken. inl (taken-alike geometry here there alike image part area taken))
      (λ area taken. taken-alike geometry there here (λ n. sym (alike n)) image part area taken)
      block rule shown

  pub shown-alike : (now : Seen) (block rule : ℕ) → IsEntryShown geometry here now block rule
      → IsEntryShown geometry there now block rule
  shown-alike now block rule is = record {
    part = is.part;
    shape = is.shape;
    laid = sym (alike is.part) ∙ is.laid;
    before = λ other one less laid. is.before other one less (alike other ∙ laid);
    shown = any-alike now.cur is.part is.shape block rule is.shown;
  }

  -- parts that are attached are so by both
  pub attached-alike : (parts : List AnyPart) (owners : List (Option PartNo))
      → AreAttached geometry here parts owners → AreAttached geometry there parts owners
  attached-alike parts owners attached = record {
    split = attached.split;
    count = attached.count;
    firsts = attached.firsts;
    owned = attached.owned;
    laid = λ part area laid. attached.laid part area (back part.0 area laid);
    only = λ part area is. ⊎_elim
        (λ laid. inl (laid-alike geometry here there alike part.0 area laid)) (λ held. inr held)
        (attached.only part area is);
    owns = attached.owns;
    alone = λ part area laid none. attached.alone part area (back part.0 area laid) none;
  }
    where
      back : (part area : ℕ) → IsLaidIn geometry there part area → IsLaidIn geometry here part area
      back = laid-alike geometry there here (λ n. sym (alike n))
