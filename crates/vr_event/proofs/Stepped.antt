-- What a step of a BACKOUT leaves of a volume that is held.
use Rattle.std.proofs.Common.{◌≡◌, ℕ, List, Option, Some, None, false, refl, ap, sym, ◌∙◌}
use Rattle.std.proofs.Common.{subst, true≢false, Result, Ok, Err}
use Rattle.std.specs.Option.{option_and_then, option_map, option_map_or}
use Rattle.std.specs.Prelude.{IfErr, OnOk}
use Rattle.vr_catalog.specs.declared.definition.Definition.{Definition}
use Rattle.vr_types.specs.Content.{Item, Standing, Withdrawn, item_at, record_of}
use Rattle.vr_types.specs.Seen.{Seen}
use Rattle.vr_types.specs.Space.{free_count}
use Rattle.vr_types.specs.declared.geometry.Geometry.{Geometry}
use Rattle.vr_types.specs.declared.unit.Kind.{Kind}
use Rattle.vr_types.specs.declared.unit.Kind.TheVariants.{Entry, Keyed, Relative}
use Rattle.vr_types.specs.declared.unit.PartNo.{PartNo}
use Rattle.vr_types.specs.declared.unit.Unit.{Unit as UnitOfRecovery}
use Rattle.vr_history.specs.declared.entry.What.TheVariants.{Undone}
use Rattle.vr_space.specs.Numbered.{left_in}
use Rattle.vr_space.specs.Part.{KeyedShape, NumberedShape, Shape, left_by}
use Rattle.vr_space.specs.Rosters.{Numbered}
use Rattle.vr_space.proofs.CallerLemmas.{left-standing}
use Rattle.vr_attach.specs.Laid.{is_relative}
use Rattle.vr_history.specs.Effects.{changes, last_kept, takes_out, with_change}
use Rattle.vr_history.specs.Opened.{catalog_of}
use Rattle.vr_history.specs.Replies.{is_keyed}
use Rattle.vr_history.specs.State.{BeforeImage, State}
use Rattle.vr_history.specs.Step.{change_back, put_back, puts_back, withdrawn_by}
use Rattle.vr_history.proofs.CallerLemmas.{state_of-append}
use Rattle.vr_record_file.specs.Now.{FileNow, IsStateOf, entry_next, state_now, with_event}
use Rattle.vr_volume.specs.Committed.{IsKeptIn}
use Rattle.vr_store.specs.LastImage.{IsBackIn}
use Rattle.vr_store.specs.Store.{IsStored, StoreNow}
use Rattle.vr_event.specs.Volume.{IsFileHeld, IsHeld, VolumeNow}
use Rattle.vr_event.proofs.Areas.{owned-same, unlaid-same}
use Rattle.vr_event.proofs.EntryIntervals.{lengths-agree}
use Rattle.vr_event.proofs.PartKinds.{IsOfKind, laid-defined, of-kind}

-- where a write failed, the areas are as they were
pub known-with : {B : Type 0} (seen : B → Seen) (opening : State) (volume : VolumeNow B)
    (store : StoreNow) (blocks : B) → store.space ≡ volume.store.space
    → IsHeld seen opening volume
    → IsFileHeld opening (record volume { blocks = blocks; store = store })
known-with seen opening volume store blocks space held = record {
  file = held.file;
  free = ap free_count space ∙ held.free;
  owned = owned-same volume.store.space store.space _ _ space refl held.owned;
}

-- a volume is what its fields are
pub held-at : {B : Type 0} (seen : B → Seen) (opening : State) (volume : VolumeNow B) (blocks : B)
    (number : ℕ) (store : StoreNow) → volume.blocks ≡ blocks → volume.number ≡ number
    → volume.store ≡ store
    → IsHeld seen opening
    (record { blocks = blocks; number = number; store = store; file = volume.file })
    → IsHeld seen opening volume
held-at {B} seen opening volume blocks number store same-blocks same-number same-store held =
    subst (λ (b : B). IsHeld seen opening (record volume { blocks = b })) (sym same-blocks)
    (subst (λ (n : ℕ). IsHeld seen opening (record volume { blocks = blocks; number = n }))
    (sym same-number)
    (subst (λ (s : StoreNow).
    IsHeld seen opening (record volume { blocks = blocks; number = number; store = s }))
    (sym same-store) held))

-- ---- a before-image that is put back

-- where no record comes back, a part leaves what its kind has withdrawn
withdrawn-kind : (kind : Kind) (found : Option Item) → is_keyed kind ≡ false
    → withdrawn_by kind found ≡ left_in (is_relative kind) found None
withdrawn-kind Keyed found numbered = absurd (true≢false numbered)
withdrawn-kind Relative found numbered = refl
withdrawn-kind Entry None numbered = refl
withdrawn-kind Entry (Some item) numbered =
    ap (λ (n : ℕ). Some (Withdrawn n)) (sym (lengths-agree item))

withdrawn-shape : (geometry : Geometry) (part : ℕ) (definition : Definition) (shape : Shape)
    (found : Option Item) → IsOfKind geometry part definition shape
    → withdrawn_by definition.kind found ≡ left_by shape found None
withdrawn-shape geometry part definition (KeyedShape keyed) found of =
    ap (λ (kind : Kind). withdrawn_by kind found) of
withdrawn-shape geometry part definition (NumberedShape numbered) found of =
    withdrawn-kind definition.kind found of.0
    ∙ ap (λ (it : Numbered). left_in it.relative found None) (sym of.1.1)

module _ (geometry : Geometry) (state : State) (unit : UnitOfRecovery) (last : BeforeImage)
    (old : Option (List ℕ)) (same : last.old ≡ option_map Standing old)
    (kept : IsKeptIn geometry state last) where
  abbrev found : Option Item
  found = item_at (state.contents last.part) last.place

  -- what comes back is what the part leaves at the place
  back-given : (given : Option (List ℕ))
      → put_back state last (option_map Standing given) ≡ left_by kept.shape found given
  back-given (Some bytes) = sym (left-standing kept.shape found bytes)
  back-given None =
      let entries = catalog_of state in
      let defined = laid-defined geometry entries last.part kept.shape kept.laid in
      ap (λ (o : Option Definition). option_and_then
      (λ (definition : Definition). withdrawn_by definition.kind found) o) defined.1
      ∙ withdrawn-shape geometry last.part defined.0 kept.shape found
      (of-kind geometry entries last.part defined.0 kept.shape defined.1 kept.laid)

  back-item : put_back state last last.old
      ≡ left_by kept.shape found (option_and_then record_of last.old)
  back-item =
      ap (put_back state last) same ∙ back-given old
      ∙ ap (left_by kept.shape found) (by_old old)
      ∙ ap (λ (o : Option Item). left_by kept.shape found (option_and_then record_of o)) (sym same)
    where
      by_old : (given : Option (List ℕ))
          → given ≡ option_and_then record_of (option_map Standing given)
      by_old None = refl
      by_old (Some bytes) = refl

  pub undone-in : last_kept state unit ≡ Some last
      → IsBackIn geometry unit state (puts_back unit state)
  undone-in is =
      subst (λ (found : Option BeforeImage). IsBackIn geometry unit state (option_map_or
      (λ (kept : BeforeImage). takes_out unit (changes (change_back state kept) state)) found
      state)) (sym is)
      (record {
        last = last;
        is = is;
        shape = kept.shape;
        laid = kept.laid;
        contents = ap (λ (item : Option Item). with_change
            (record { part = last.part; place = last.place; new = item }) state.contents)
            back-item;
        befores = refl;
        logged = refl;
        used = refl;
        numbers = refl;
      })

-- the state once it is entered
pub undone-state : (opening : State) (file to : FileNow) (after : ℕ) (unit : UnitOfRecovery)
    (line : ℕ) (part : PartNo) (place : List ℕ)
    → to ≡ with_event after unit line (Undone part place) file
    → state_now opening to ≡ puts_back unit (state_now opening file)
undone-state opening file to after unit line part place leaves =
    ap (λ (f : FileNow). state_now opening f) leaves
    ∙ state_of-append file.geometry opening file.entries
    (entry_next file.entries after unit line (Undone part place))

-- the areas stay
owned-back : (state : State) (unit : UnitOfRecovery) (found : Option BeforeImage)
    → (option_map_or (λ (kept : BeforeImage).
    takes_out unit (changes (change_back state kept) state)) found state).owned ≡ state.owned
owned-back state unit None = refl
owned-back state unit (Some last) = refl

pub held-undone : {B : Type 0} (seen : B → Seen) (opening : State) (volume : VolumeNow B)
    (to : FileNow) (store : StoreNow) (blocks : B) (after : ℕ) (unit : UnitOfRecovery)
    (line : ℕ) (part : PartNo) (place : List ℕ)
    → to ≡ with_event after unit line (Undone part place) volume.file
    → store.space ≡ volume.store.space → volume.file.stopped ≡ None
    → IsHeld seen opening volume → IsStateOf opening to
    → IsStored volume.number store (puts_back unit (state_now opening volume.file)) (seen blocks)
    → IsHeld seen opening (record volume { blocks = blocks; store = store; file = to })
held-undone seen opening volume to store blocks after unit line part place leaves space going held file
    stored =
    let before : State = state_now opening volume.file in
    let state = undone-state opening volume.file to after unit line part place leaves in
    let owned : (state_now opening to).owned ≡ before.owned =
    ap (λ (s : State). s.owned) state ∙ owned-back before unit (last_kept before unit) in
    let geometry : to.geometry ≡ volume.file.geometry =
    ap (λ (f : FileNow). f.geometry) leaves in
    record {
      file = file;
      free = cc (held.free, geometry, owned, space);
      owned = owned-same volume.store.space store.space _ _ space owned held.owned;
      unlaid = λ on. unlaid-same volume.file.geometry to.geometry volume.file.catalog to.catalog
          volume.store.space store.space geometry (ap (λ (f : FileNow). f.catalog) leaves) space
          (held.unlaid going);
      stored = λ on. subst (λ (s : State). IsStored volume.number store s (seen blocks))
          (sym state) stored;
    }

-- of what a call says where it fails
pub of-err : {T E : Type 0} (P : E → Type 0) (result : Result T E) (fault : E)
    → result ≡ Err fault → IfErr result P → P fault
of-err P result fault is holds = subst (λ (r : Result _ _). IfErr r P) is holds

pub of-ok : {T E : Type 0} (P : Type 0) (result : Result T E) (value : T)
    → result ≡ Ok value → OnOk result P → P
of-ok P result value is holds = subst (λ (r : Result _ _). OnOk r P) is holds
