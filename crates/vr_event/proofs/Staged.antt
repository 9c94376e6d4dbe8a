-- What a stage of a part leaves of a volume, once it is entered.
use Rattle.std.proofs.Common.{◌≡◌, ◌≢◌, ◌∙◌, ◌⊎◌, ◌+◌, ◌-◌, ℕ, Bool, true, false, cond}
use Rattle.std.proofs.Common.{List, [], ◌∷◌, ◌++◌, Option, Some, None, refl, sym, ap, subst, inl, inr}
use Rattle.std.proofs.Common.{arith, filter, length, ⊎_elim, nat_lt}
use Rattle.std.proofs.Common.{◌==◌, ◌||◌, if◌then◌else◌, nat_eq}
use Rattle.std.specs.List.{list_any}
use Rattle.std.specs.Prelude.{IfSome, option_and_then, slice_set}
use Rattle.std.specs.Option.{option_map}
use Rattle.std.proofs.lemmas.Bool.Decides.{nat_tests}
use Rattle.std.proofs.lemmas.List.{length-append}
use Rattle.std.proofs.lemmas.Option.{none-some, same_Some}
use Rattle.vr_catalog.specs.Catalog.{cluster_definition, entry_with_part, parts_in}
use Rattle.vr_catalog.specs.declared.entry.CatEntry.{CatEntry}
use Rattle.vr_catalog.specs.declared.entry.EntryKind.{EntryKind}
use Rattle.vr_catalog.specs.declared.entry.EntryKind.TheVariants.{Alternate, Cluster, Path}
use Rattle.vr_types.specs.Geometry.{area_count}
use Rattle.vr_types.specs.Seen.{Seen}
use Rattle.vr_types.specs.Space.{free_count, least_free}
use Rattle.vr_types.specs.declared.geometry.Geometry.{Geometry}
use Rattle.vr_types.specs.declared.request.Request.{Request}
use Rattle.vr_types.specs.declared.unit.AreaNo.{AreaNo}
use Rattle.vr_types.specs.declared.unit.PartNo.{PartNo}
use Rattle.vr_types.specs.declared.unit.StageKind.{StageKind}
use Rattle.vr_types.specs.declared.unit.Unit.{Unit as UnitOfRecovery}
use Rattle.vr_space.specs.Part.{IsClaimed, OwnersAfter, Shape}
use Rattle.vr_undo.specs.Records.{befores_of}
use Rattle.vr_history.specs.Effects.{claims, has_areas, has_part, parts_laid}
use Rattle.vr_history.specs.State.{BeforeImage, Owned, State}
use Rattle.vr_history.specs.Step.{IsLeastFree}
use Rattle.vr_history.specs.declared.entry.What.TheVariants.{Claimed, Split}
use Rattle.vr_history.proofs.CallerLemmas.{state_of-append}
use Rattle.vr_record_file.specs.Now.{FileNow, IsStateOf, entry_next, state_now, with_event}
use Rattle.vr_attach.specs.Laid.{catalog_shape, shape_from, shape_in, shape_of}
use Rattle.vr_store.specs.LastImage.{HasAdvanced, OnLast, last_of_unit}
use Rattle.vr_store.specs.Store.{IsFitImage, IsSet, IsStored, PartNow, StoreNow, part_among}
use Rattle.vr_store.specs.Store.{shape_among}
use Rattle.vr_store.proofs.CallerLemmas.{has-claimed, last-has, owners-after}
use Rattle.vr_event.specs.Acting.{HasStepped}
use Rattle.vr_event.specs.Getting.{IsEntered}
use Rattle.vr_event.specs.Staging.{IsStaged, IsStateStaged, IsTakenBy, stage_entered}
use Rattle.vr_event.specs.Volume.{IsHeld, IsWhole, OwnLaid, VolumeNow}
use Rattle.vr_event.proofs.Areas.{least-owned, owned-same, owned-taken, unlaid-same}
use Rattle.vr_event.proofs.Like.{stored_other}
use Rattle.vr_event.proofs.Replied.{not-claimed, not-same, not-split}
use Rattle.vr_event.proofs.Wholes.{held-split}

-- ---- the areas that it took

-- a part that is there has a shape
pub shape-some : (parts : List PartNow) (part : ℕ) → part_among parts part ≢ None
    → shape_among parts part ≢ None
shape-some parts part = of (part_among parts part)
  where
    of : (found : Option PartNow) → found ≢ None
        → option_map (λ (one : PartNow). one.shape) found ≢ None
    of None there none = there refl
    of (Some one) there none = none-some one.shape (sym none)

-- A stage of any kind takes no area, or the least free one.
pub owners-claimed : (part : PartNo) (kind : StageKind) (old new : List (Option PartNo))
    → OwnersAfter part kind old new → (new ≡ old) ⊎ IsClaimed part old new
owners-claimed part kind old new after = ⊎_elim (λ same. inl same)
    (λ claimed. inr (claimed.area, claimed.least, claimed.owners))
    (owners-after part kind old new after)

-- so does the one that comes before the last before-image of a unit
pub last-claimed : (store : StoreNow) (unit : UnitOfRecovery) (part : Option PartNo) (is : PartNo)
    (new : List (Option PartNo)) → part ≡ Some is
    → option_map (λ (it : PartNo). it.0) part
    ≡ option_map (λ (last : BeforeImage). last.part) (last_of_unit store unit)
    → ((last : BeforeImage) → last_of_unit store unit ≡ Some last
    → shape_among store.parts last.part ≢ None)
    → OnLast store unit (λ (last : BeforeImage). IfSome (shape_among store.parts last.part)
    (λ (shape : Shape). HasAdvanced (record { 0 = last.part }) shape store.space new))
    → (new ≡ store.space) ⊎ IsClaimed is store.space new
last-claimed store unit part is new part-is numbers some advanced =
    of (last_of_unit store unit) refl (sym (ap (option_map (λ (it : PartNo). it.0)) part-is) ∙ numbers)
    advanced
  where
    by-shape : (last : BeforeImage) (shape : Option Shape) → shape ≢ None → is.0 ≡ last.part
        → IfSome shape
        (λ (shape : Shape). HasAdvanced (record { 0 = last.part }) shape store.space new)
        → (new ≡ store.space) ⊎ IsClaimed is store.space new
    by-shape last None there number advanced = absurd (there refl)
    by-shape last (Some shape) there number advanced =
        subst (λ (n : ℕ). (new ≡ store.space) ⊎ IsClaimed (record { 0 = n }) store.space new)
        (sym number)
        (owners-claimed (record { 0 = last.part }) advanced.kind store.space new advanced.owners)

    of : (found : Option BeforeImage) → last_of_unit store unit ≡ found
        → Some is.0 ≡ option_map (λ (last : BeforeImage). last.part) found
        → IfSome found (λ (last : BeforeImage). IfSome (shape_among store.parts last.part)
        (λ (shape : Shape). HasAdvanced (record { 0 = last.part }) shape store.space new))
        → (new ≡ store.space) ⊎ IsClaimed is store.space new
    of None at number advanced = absurd (none-some is.0 (sym number))
    of (Some last) at number advanced = by-shape last (shape_among store.parts last.part)
        (some last at) (same_Some is.0 last.part number) advanced

-- whose part is laid
pub last-shape : (store : StoreNow) (now : Seen) (unit : UnitOfRecovery) → IsSet store now
    → (last : BeforeImage) → last_of_unit store unit ≡ Some last
    → shape_among store.parts last.part ≢ None
last-shape store now unit set last is = shape-some store.parts last.part
    (last-has (IsFitImage store.parts) unit (befores_of store.undo) last set.kept is).part

pub last-laid : (store : StoreNow) (unit : UnitOfRecovery) (part : Option PartNo) (is : PartNo)
    → part ≡ Some is
    → option_map (λ (it : PartNo). it.0) part
    ≡ option_map (λ (last : BeforeImage). last.part) (last_of_unit store unit)
    → ((last : BeforeImage) → last_of_unit store unit ≡ Some last
    → shape_among store.parts last.part ≢ None)
    → shape_among store.parts is.0 ≢ None
last-laid store unit part is part-is numbers some = of (last_of_unit store unit) refl
    (sym (ap (option_map (λ (it : PartNo). it.0)) part-is) ∙ numbers)
  where
    of : (found : Option BeforeImage) → last_of_unit store unit ≡ found
        → Some is.0 ≡ option_map (λ (last : BeforeImage). last.part) found
        → shape_among store.parts is.0 ≢ None
    of None at number = absurd (none-some is.0 (sym number))
    of (Some last) at number = subst (λ (n : ℕ). shape_among store.parts n ≢ None)
        (sym (same_Some is.0 last.part number)) (some last at)

-- where fewer areas are free, the least one was taken
pub taken-by : (part : PartNo) (old new : List (Option PartNo)) (least : Option AreaNo)
    (free now : ℕ) → option_map (λ (area : AreaNo). area.0) least ≡ least_free old
    → free ≡ free_count old → now ≡ free_count new → (new ≡ old) ⊎ IsClaimed part old new
    → IsTakenBy part old new (cond (nat_lt now free) least None)
taken-by part old new least free now is before after (inl same) =
    let equal : now ≡ free = after ∙ ap free_count same ∙ sym before in
    let test : nat_lt now free ≡ false = grind (arith, nat_tests, equal) in
    subst (λ (b : Bool). IsTakenBy part old new (cond b least None)) (sym test) same
taken-by part old new least free now is before after (inr claimed) =
    let fewer = (has-claimed part old new claimed).free in
    let test : nat_lt now free ≡ true = grind (arith, nat_tests, fewer, before, after) in
    subst (λ (b : Bool). IsTakenBy part old new (cond b least None)) (sym test)
    (of least (is ∙ claimed.1))
  where
    of : (found : Option AreaNo)
        → option_map (λ (area : AreaNo). area.0) found ≡ Some claimed.0
        → IsTakenBy part old new found
    of None found = absurd (none-some claimed.0 found)
    of (Some area) found =
        let number : area.0 ≡ claimed.0 = same_Some area.0 claimed.0 found in (
          claimed.1 ∙ ap (λ (n : ℕ). Some n) (sym number),
          claimed.2 ∙ ap (λ (n : ℕ). slice_set old n (Some part)) (sym number),
        )

-- ---- the part that took one

-- an entry whose part is laid has areas
laid-areas : (geometry : Geometry) (entry : CatEntry) → shape_of geometry entry ≢ None
    → has_areas entry.entry_kind entry ≡ true
laid-areas geometry entry = of entry.entry_kind
  where
    of : (kind : EntryKind)
        → option_and_then (shape_from geometry entry.part.0 entry.first_area)
        (cluster_definition kind entry) ≢ None → has_areas kind entry ≡ true
    of Cluster laid = refl
    of Alternate laid = absurd (laid refl)
    of Path laid = absurd (laid refl)

laid-among : (geometry : Geometry) (part : ℕ) (entries : List CatEntry)
    → option_and_then (shape_of geometry) (entry_with_part entries part) ≢ None
    → list_any (nat_eq part) (parts_laid entries) ≡ true
laid-among geometry part [] laid = absurd (laid refl)
laid-among geometry part (entry ∷ entries) laid =
    by-test (entry.part.0 == part) refl laid (laid-among geometry part entries)
  where
    rest : List CatEntry
    rest = filter (λ (one : CatEntry). has_areas one.entry_kind one) entries

    with-first : (areas : Bool) → list_any (nat_eq part) (parts_in rest) ≡ true
        → list_any (nat_eq part) (parts_in (cond areas (entry ∷ rest) rest)) ≡ true
    with-first true there = ap (λ (b : Bool). nat_eq part entry.part.0 || b) there
        ∙ either (nat_eq part entry.part.0)
      where
        either : (b : Bool) → (b || true) ≡ true
        either true = refl
        either false = refl
    with-first false there = there

    by-test : (b : Bool) → (entry.part.0 == part) ≡ b
        → option_and_then (shape_of geometry) (cond b (Some entry) (entry_with_part entries part))
        ≢ None
        → (option_and_then (shape_of geometry) (entry_with_part entries part) ≢ None
        → list_any (nat_eq part) (parts_in rest) ≡ true)
        → list_any (nat_eq part) (parts_in (cond (has_areas entry.entry_kind entry) (entry ∷ rest)
        rest)) ≡ true
    by-test true same there further =
        let here : nat_eq part entry.part.0 ≡ true = grind (arith, nat_tests, same) in
        ap (λ (b : Bool). list_any (nat_eq part) (parts_in (cond b (entry ∷ rest) rest)))
        (laid-areas geometry entry there)
        ∙ ap (λ (b : Bool). b || list_any (nat_eq part) (parts_in rest)) here
    by-test false apart there further =
        with-first (has_areas entry.entry_kind entry) (further there)

-- so that a part that is laid is one of those that have them
pub part-laid : (geometry : Geometry) (part : ℕ) (entries : List CatEntry)
    → shape_in geometry entries part ≢ None → has_part (parts_laid entries) part ≡ true
part-laid geometry part entries laid = by-zero (part == 0) refl
  where
    by-zero : (zero : Bool) → (part == 0) ≡ zero
        → (zero || list_any (nat_eq part) (parts_laid entries)) ≡ true
    by-zero true is = refl
    by-zero false is = laid-among geometry part entries
        (λ none. laid (ap (λ (b : Bool). if b then Some (catalog_shape geometry)
        else option_and_then (shape_of geometry) (entry_with_part entries part)) is ∙ none))

-- ---- the volume

module _ {B : Type 0} (seen : B → Seen) (opening : State) (part : PartNo)
    (areas : List (Option PartNo)) (volume : VolumeNow B) where
  abbrev before : State
  before = state_now opening volume.file

  -- what entering that it took an area asks for
  pub staged-least : (area : AreaNo) → IsStaged seen opening part areas (Some area) volume
      → IsLeastFree volume.file.geometry before area.0
  staged-least area staged = least-owned areas before staged.owned volume.file.geometry area.0
      staged.count staged.taken_is.0

  pub staged-laid : (taken : Option AreaNo) → IsStaged seen opening part areas taken volume
      → has_part (parts_laid volume.file.catalog) part.0 ≡ true
  staged-laid taken staged =
      part-laid volume.file.geometry part.0 volume.file.catalog staged.laid

  -- it took none
  unclaimed : IsStaged seen opening part areas None volume → IsHeld seen opening volume
  unclaimed staged = record {
    file = staged.file;
    free = ap free_count staged.taken_is ∙ staged.free;
    owned = owned-same areas volume.store.space _ _ staged.taken_is refl staged.owned;
    unlaid = λ going. unlaid-same volume.file.geometry volume.file.geometry volume.file.catalog
        volume.file.catalog areas volume.store.space refl refl staged.taken_is
        (staged.unlaid going);
    stored = staged.stored;
  }

  -- parts that aren't laid have none, as before
  taken-unlaid : (area : ℕ) → least_free areas ≡ Some area → OwnLaid volume.file.geometry
      volume.file.catalog areas
      → shape_in volume.file.geometry volume.file.catalog part.0 ≢ None
      → OwnLaid volume.file.geometry volume.file.catalog (slice_set areas area (Some part))
  taken-unlaid area least unlaid laid other none =
      (has-claimed part areas (slice_set areas area (Some part)) (area, least, refl)).others other
      (λ same. laid (sym (ap (λ (n : ℕ). shape_in volume.file.geometry volume.file.catalog n) same)
      ∙ none))
      ∙ unlaid other none

  -- it took one
  claimed : (to : FileNow) (after : ℕ) (unit : UnitOfRecovery) (line : ℕ) (area : AreaNo)
      → to ≡ with_event after unit line (Claimed part area) volume.file
      → IsStaged seen opening part areas (Some area) volume → IsStateOf opening to
      → IsHeld seen opening (record volume { file = to })
  claimed to after unit line area leaves staged file =
      let one : Owned = record { area = area.0; part = part.0 } in
      let state : state_now opening to ≡ claims area.0 part.0 before =
      ap (λ (f : FileNow). state_now opening f) leaves
      ∙ state_of-append volume.file.geometry opening volume.file.entries
      (entry_next volume.file.entries after unit line (Claimed part area)) in
      let owned : (state_now opening to).owned ≡ before.owned ++ one ∷ [] =
      ap (λ (s : State). s.owned) state in
      let geometry : to.geometry ≡ volume.file.geometry =
      ap (λ (f : FileNow). f.geometry) leaves in
      let least = staged.taken_is.0 in
      let space = staged.taken_is.1 in
      let taken : List (Option PartNo) = slice_set areas area.0 (Some part) in
      let fewer : free_count taken + 1 ≡ free_count areas =
      (has-claimed part areas taken (area.0, least, refl)).free in
      let longer : length (before.owned ++ one ∷ []) ≡ length before.owned + 1 =
      length-append before.owned (one ∷ []) in
      let free : free_count taken
      ≡ area_count volume.file.geometry - length (before.owned ++ one ∷ []) =
      omega (arith, fewer, longer, staged.free) in
      let same-stop : volume.file.stopped ≡ to.stopped =
      sym (ap (λ (f : FileNow). f.stopped) leaves) in
      record {
        file = file;
        free = ap free_count space ∙ free
            ∙ sym (ap (λ (g : Geometry). area_count g - length (state_now opening to).owned) geometry
            ∙ ap (λ (o : List Owned). area_count volume.file.geometry - length o) owned);
        owned = owned-same taken volume.store.space _ _ space owned
            (owned-taken areas before staged.owned area.0 part least);
        unlaid = λ going. unlaid-same volume.file.geometry to.geometry volume.file.catalog to.catalog
            taken volume.store.space geometry (ap (λ (f : FileNow). f.catalog) leaves) space
            (taken-unlaid area.0 least (staged.unlaid (same-stop ∙ going)) staged.laid);
        stored = λ going. subst (λ (s : State). IsStored volume.number volume.store s
            (seen volume.blocks)) (sym state)
            (stored_other volume.number volume.store before (claims area.0 part.0 before)
            (seen volume.blocks) (staged.stored (same-stop ∙ going)));
      }

  -- a volume of which a stage is entered is held
  pub held-staged : (to : FileNow) (after : ℕ) (unit : UnitOfRecovery) (line : ℕ) (split : Bool)
      (taken : Option AreaNo) → to ≡ stage_entered after unit line part split taken volume.file
      → IsStaged seen opening part areas taken volume → IsStateOf opening to
      → IsHeld seen opening (record volume { file = to })
  held-staged to after unit line split (Some area) leaves staged file =
      claimed to after unit line area leaves staged file
  held-staged to after unit line true None leaves staged file =
      held-split seen opening volume to after unit line part leaves (unclaimed staged) file
  held-staged to after unit line false None leaves staged file =
      subst (λ (f : FileNow). IsHeld seen opening (record volume { file = f })) (sym leaves)
      (unclaimed staged)

-- What a stage leaves of a volume that was held, before it is entered.
pub staged-of : {B : Type 0} (seen : B → Seen) (opening : State) (volume : VolumeNow B)
    (store : StoreNow) (blocks : B) (part : PartNo) (taken : Option AreaNo) → IsWhole seen volume
    → volume.file.stopped ≡ None → IsHeld seen opening volume
    → shape_among volume.store.parts part.0 ≢ None
    → IsTakenBy part volume.store.space store.space taken
    → IsStored volume.number store (state_now opening volume.file) (seen blocks)
    → IsStaged seen opening part volume.store.space taken
    (record volume { blocks = blocks; store = store })
staged-of seen opening volume store blocks part taken whole going held laid by stored = record {
  file = held.file;
  count = (whole.set going).areas ∙ ap area_count (whole.geometry going);
  free = held.free;
  owned = held.owned;
  unlaid = held.unlaid;
  laid = λ none. laid (whole.laid going part.0 ∙ none);
  taken_is = by;
  stored = λ on. stored;
}

-- whole too
pub whole-staged : {B : Type 0} (seen : B → Seen) (volume : VolumeNow B) (to : FileNow) (after : ℕ)
    (unit : UnitOfRecovery) (line : ℕ) (part : PartNo) (split : Bool) (taken : Option AreaNo)
    → to ≡ stage_entered after unit line part split taken volume.file → IsWhole seen volume
    → IsWhole seen (record volume { file = to })
whole-staged seen volume to after unit line part split taken leaves whole =
    subst (λ (f : FileNow). IsWhole seen (record volume { file = f })) (sym leaves)
    (of split taken)
  where
    with-entry : (file : FileNow) → file.catalog ≡ volume.file.catalog
        → file.geometry ≡ volume.file.geometry → file.stopped ≡ volume.file.stopped
        → IsWhole seen (record volume { file = file })
    with-entry file catalog geometry stopped =
        Rattle.vr_event.proofs.Wholes.whole-of seen volume volume.store volume.blocks file whole
        (λ going. sym stopped ∙ going) geometry catalog (λ going. refl) (λ going n. refl)
        (λ going. whole.set (sym stopped ∙ going))

    of : (split : Bool) (taken : Option AreaNo)
        → IsWhole seen (record volume { file = stage_entered after unit line part split taken volume.file })
    of split (Some area) =
        with-entry (with_event after unit line (Claimed part area) volume.file) refl refl refl
    of true None = with-entry (with_event after unit line (Split part) volume.file) refl refl refl
    of false None = whole

-- ---- its entry

module _ (after : ℕ) (unit : UnitOfRecovery) (line : ℕ) (part : PartNo) (old new : FileNow) where
  -- the request was stepped on,
  pub stepped-entered : (request : Request) (split : Bool) (taken : Option AreaNo)
      → new ≡ stage_entered after unit line part split taken old
      → HasStepped after unit line request old new
  stepped-entered request split (Some area) leaves = inr (inr (inl (part, area, leaves)))
  stepped-entered request true None leaves = inr (inl (part, leaves))
  stepped-entered request false None leaves = inl leaves

  -- and not entered,
  pub not-staged : (request : Request) (split : Bool) (taken : Option AreaNo)
      → new ≡ stage_entered after unit line part split taken old
      → IsEntered after unit line request old new → ⊥
  not-staged request split (Some area) leaves entered =
      not-claimed after unit line request old new entered part area leaves
  not-staged request true None leaves entered =
      not-split after unit line request old new entered part leaves
  not-staged request false None leaves entered =
      not-same after unit line request old new entered leaves

  -- and its state is as it was, or the part has one area more
  pub state-staged : (opening : State) (split : Bool) (taken : Option AreaNo)
      → new ≡ stage_entered after unit line part split taken old
      → IsStateStaged part.0 (state_now opening old) (state_now opening new)
  state-staged opening split (Some area) leaves = inr (
    area.0,
    ap (λ (f : FileNow). state_now opening f) leaves
        ∙ state_of-append old.geometry opening old.entries
        (entry_next old.entries after unit line (Claimed part area)),
  )
  state-staged opening true None leaves = inl
      (Rattle.vr_event.proofs.Wholes.state-split opening old new after unit line part leaves)
  state-staged opening false None leaves = inl
      (ap (λ (f : FileNow). state_now opening f) leaves)

  pub geometry-staged : (split : Bool) (taken : Option AreaNo)
      → new ≡ stage_entered after unit line part split taken old → new.geometry ≡ old.geometry
  geometry-staged split (Some area) leaves = ap (λ (f : FileNow). f.geometry) leaves
  geometry-staged true None leaves = ap (λ (f : FileNow). f.geometry) leaves
  geometry-staged false None leaves = ap (λ (f : FileNow). f.geometry) leaves
