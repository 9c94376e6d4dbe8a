-- How many areas a cluster has is how many its state has, but for one that a split under way took.
use Rattle.std.proofs.Common.{◌≡◌, ◌≢◌, ◌∙◌, ◌<◌, ◌==◌, ◌&&◌, ℕ, suc, zero, Bool, true, false}
use Rattle.std.proofs.Common.{IsTrue, List, [], ◌∷◌, Option, Some, None, refl, sym, ap, subst, inl}
use Rattle.std.proofs.Common.{inr, arith, get_or, length, length-append, nat_eq, true≢false, not}
use Rattle.std.proofs.Common.{if◌then◌else◌}
use Rattle.std.specs.Prelude.{Contains, is_none, unwrap_or}
use Rattle.std.specs.List.{AllByRecursion, IsDistinct, cons_option}
use Rattle.std.specs.Option.{option_and_then, option_map, option_map_or}
use Rattle.std.proofs.lemmas.Bool.Decides.{Decides-eqb, nat_tests}
use Rattle.std.proofs.lemmas.List.Elements.{All-from_recursion}
use Rattle.vr_types.specs.Content.{Content, Standing, Withdrawn}
use Rattle.vr_types.specs.Seen.{Seen}
use Rattle.vr_types.specs.declared.unit.Kind.{Kind}
use Rattle.vr_types.specs.declared.unit.Kind.TheVariants.{Keyed, Entry as EntrySequenced, Relative}
use Rattle.vr_catalog.specs.Catalog.{cluster_definition, definition_in, definition_of, entries_in}
use Rattle.vr_catalog.specs.Catalog.{entry_with_part, parts_in}
use Rattle.vr_catalog.specs.Definition.{catalog_definition}
use Rattle.vr_catalog.specs.Entry.{are_keys_of, are_names, has_data, is_allowed, is_area_or_none}
use Rattle.vr_catalog.specs.Entry.{is_cluster, is_entry, is_of_kind, is_part}
use Rattle.vr_catalog.specs.Record.{entry_of}
use Rattle.vr_catalog.specs.declared.entry.CatEntry.{CatEntry}
use Rattle.vr_catalog.specs.declared.entry.EntryKind.{EntryKind}
use Rattle.vr_catalog.specs.declared.entry.EntryKind.TheVariants.{Cluster}
use Rattle.vr_catalog.proofs.CallerLemmas.{spelled_by}
use Rattle.vr_space.specs.Known.{held_with}
use Rattle.vr_space.specs.Part.{KeyedShape, NumberedShape, Shape, held_by, owned_count}
use Rattle.vr_space.specs.Split.{MoveNow}
use Rattle.vr_attach.specs.CatalogRules.{IsCatalog}
use Rattle.vr_history.specs.State.{State, areas_of}
use Rattle.vr_record_file.specs.Now.{state_now}
use Rattle.vr_store.specs.Store.{OwnsItsChain, PartNow, part_among}
use Rattle.vr_store.proofs.CallerLemmas.{among-all, number-at}
use Rattle.vr_event.specs.Counts.{AreAreas}
use Rattle.vr_event.specs.Volume.{IsHeld, IsWhole, VolumeNow}
use Rattle.vr_event.proofs.NewClusters.{and_left, and_right}
use Rattle.vr_event.proofs.NumbersHeld.{areas_kept}
use Rattle.vr_event.proofs.PartKinds.{IsOfKind, of-kind}
use Rattle.vr_event.proofs.SpaceHeld.{owned-areas}

-- ---- an entry of a catalog

abbrev IsOne : CatEntry → Type 0
IsOne entry = IsTrue (is_entry entry)

-- each entry that the records spell is one that a catalog may have
entries-are : (content : Content) → AllByRecursion IsOne (entries_in content)
entries-are [] = tt
entries-are ((place, Withdrawn n) ∷ content) = entries-are content
entries-are ((place, Standing bytes) ∷ content) =
    of (entry_of bytes) refl (entries-are content)
  where
    of : (o : Option CatEntry) → entry_of bytes ≡ o → AllByRecursion IsOne (entries_in content)
        → AllByRecursion IsOne (cons_option o (entries_in content))
    of None is rest = rest
    of (Some entry) is rest = ((spelled_by bytes entry is).entry_is, rest)

-- of a cluster, which has a kind
kind-stated : (entry : CatEntry) → IsTrue (is_entry entry) → entry.entry_kind ≡ Cluster
    → entry.kind ≢ None
unfolding is_entry
kind-stated entry is cluster none =
    let allowed = and_right (are_names entry) (is_allowed entry) is in
    let kind : is_cluster entry ≡ true =
    sym (ap (λ (k : EntryKind). is_of_kind k entry) cluster)
    ∙ and_right (is_part entry.part && is_area_or_none entry.first_area)
    (is_of_kind entry.entry_kind entry) allowed in
    let keys : are_keys_of entry.kind entry.key_length entry.key_offset ≡ true =
    and_right (is_none entry.related && not entry.unique && not entry.built)
    (are_keys_of entry.kind entry.key_length entry.key_offset)
    (and_left (is_none entry.related && not entry.unique && not entry.built
    && are_keys_of entry.kind entry.key_length entry.key_offset) (has_data entry) kind) in
    true≢false (sym keys
    ∙ ap (λ (k : Option Kind). are_keys_of k entry.key_length entry.key_offset) none)

-- its part's number differs from one that differs from all
apart-at : (part : ℕ) (entries : List CatEntry) (k : ℕ) (entry : CatEntry)
    → AllByRecursion (λ (other : ℕ). nat_eq part other ≡ false) (parts_in entries)
    → k < length entries → get_or entries k entry ≡ entry → nat_eq part entry.part.0 ≡ false
apart-at part [] k entry apart within is = absurd (omega arith)
apart-at part (one ∷ entries) zero entry apart within is =
    subst (λ (e : CatEntry). nat_eq part e.part.0 ≡ false) is apart.0
apart-at part (one ∷ entries) (suc k) entry apart within is =
    apart-at part entries k entry apart.1 (omega arith) is

-- it is found by that number
found-own : (entries : List CatEntry) (k : ℕ) (entry : CatEntry)
    → IsDistinct nat_eq (parts_in entries) → k < length entries → get_or entries k entry ≡ entry
    → entry_with_part entries entry.part.0 ≡ Some entry
unfolding IsDistinct
found-own [] k entry distinct within is = absurd (omega arith)
found-own (one ∷ entries) zero entry distinct within is =
    subst (λ (e : CatEntry). entry_with_part (one ∷ entries) e.part.0 ≡ Some e) is
    (rw ((Decides-eqb one.part.0 one.part.0).1 refl) refl)
found-own (one ∷ entries) (suc k) entry distinct within is =
    let apart : (one.part.0 == entry.part.0) ≡ false =
    apart-at one.part.0 entries k entry distinct.0 (omega arith) is in
    rw apart (found-own entries k entry distinct.1 (omega arith) is)

-- ---- its areas

-- as many as it owns
all-areas : (kind : Option Kind) (owned areas : ℕ) → areas ≡ owned → AreAreas kind owned areas
all-areas (Some Keyed) owned areas is = inl is
all-areas (Some EntrySequenced) owned areas is = is
all-areas (Some Relative) owned areas is = is
all-areas None owned areas is = is

-- of a key-sequenced one, but for one that a split claimed
held-areas : (areas : List ℕ) (move : Option MoveNow) (owned : ℕ)
    → owned ≡ length (held_with areas move) → AreAreas (Some Keyed) owned (length areas)
held-areas areas None owned is = inl (sym is)
held-areas areas (Some move) owned is =
    inr (sym (is ∙ length-append areas (move.into ∷ [])))

keyed-kind : (kind : Option Kind) → kind ≢ None → unwrap_or kind Keyed ≡ Keyed
    → kind ≡ Some Keyed
keyed-kind None some is = absurd (some refl)
keyed-kind (Some Keyed) some is = refl
keyed-kind (Some EntrySequenced) some is = absurd cc
keyed-kind (Some Relative) some is = absurd cc

module _ {B : Type 0} (seen : B → Seen) (opening : State) (volume : VolumeNow B)
    (entry : CatEntry) (whole : IsWhole seen volume) (held : IsHeld seen opening volume)
    (going : volume.file.stopped ≡ None) (mine : Contains volume.file.catalog entry)
    (cluster : entry.entry_kind ≡ Cluster) where
  abbrev number : ℕ
  number = entry.part.0

  abbrev state : State
  state = state_now opening volume.file

  abbrev content : Content
  content = state.contents 0

  catalog : IsCatalog volume.store.log.geometry content
  catalog = (held.stored going).volume.laid.catalog

  same : volume.file.catalog ≡ entries_in content
  same = held.file.now.catalog

  -- it has a kind,
  stated : entry.kind ≢ None
  stated = kind-stated entry
      (subst IsOne mine.2 (All-from_recursion IsOne volume.file.catalog
      (subst (AllByRecursion IsOne) (sym same) (entries-are content)) mine.0 entry mine.1)) cluster

  distinct : IsDistinct nat_eq (0 ∷ parts_in volume.file.catalog)
  distinct = subst (λ (entries : List CatEntry). IsDistinct nat_eq (0 ∷ parts_in entries))
      (sym same) catalog.parts

  -- and its definition is that of its part
  defined : definition_of volume.file.catalog number ≡ Some (definition_in entry)
  unfolding IsDistinct
  defined =
      let apart : nat_eq 0 number ≡ false =
      apart-at 0 volume.file.catalog mine.0 entry distinct.0 mine.1 mine.2 in
      let not-zero : (number == 0) ≡ false = grind (arith, nat_tests, apart) in
      ap (λ (b : Bool). if b then Some catalog_definition else option_and_then
      (λ (e : CatEntry). cluster_definition e.entry_kind e)
      (entry_with_part volume.file.catalog number)) not-zero
      ∙ ap (λ (o : Option CatEntry). option_and_then
      (λ (e : CatEntry). cluster_definition e.entry_kind e) o)
      (found-own volume.file.catalog mine.0 entry distinct.1 mine.1 mine.2)
      ∙ ap (λ (kind : EntryKind). cluster_definition kind entry) cluster

  abbrev owned : ℕ
  owned = owned_count entry.part volume.store.space

  -- by the shape of its part
  by-shape : (one : PartNow) (shape : Shape) → one.shape ≡ shape
      → part_among volume.store.parts number ≡ Some one
      → AreAreas entry.kind owned (length one.known.areas)
  by-shape one shape shaped there =
      let laid = sym (whole.laid going number)
      ∙ ap (λ (o : Option PartNow). option_map (λ (p : PartNow). p.shape) o) there
      ∙ ap (λ (s : Shape). Some s) shaped in
      let numbered = number-at volume.store (seen volume.blocks) (whole.set going) number one
      there in
      let owns : owned ≡ length (held_by shape one.known) =
      subst (λ (s : Shape). owned ≡ length (held_by s one.known)) shaped
      (subst (λ (n : ℕ). owned_count (record { 0 = n }) volume.store.space
      ≡ length (held_by one.shape one.known)) numbered
      (among-all (OwnsItsChain volume.store.space) volume.store.parts number one
      (whole.set going).owns there)) in
      of shape (of-kind volume.file.geometry volume.file.catalog number (definition_in entry) shape
      defined laid) owns
    where
      of : (shape : Shape) → IsOfKind volume.file.geometry number (definition_in entry) shape
          → owned ≡ length (held_by shape one.known)
          → AreAreas entry.kind owned (length one.known.areas)
      of (KeyedShape part) kind owns =
          subst (λ (k : Option Kind). AreAreas k owned (length one.known.areas))
          (sym (keyed-kind entry.kind stated kind))
          (held-areas one.known.areas one.known.move owned owns)
      of (NumberedShape part) kind owns =
          all-areas entry.kind owned (length one.known.areas) (sym owns)

  -- where it is laid, and where not
  by-part : (o : Option PartNow) → part_among volume.store.parts number ≡ o
      → AreAreas entry.kind owned
      (option_map_or (λ (one : PartNow). length one.known.areas) o 0)
  by-part None there = all-areas entry.kind owned 0 (sym (held.unlaid going entry.part
      (sym (whole.laid going number)
      ∙ ap (λ (o : Option PartNow). option_map (λ (p : PartNow). p.shape) o) there)))
  by-part (Some one) there = by-shape one one.shape refl there

  -- They are those that the part keeps in memory.
  pub areas-counted : AreAreas entry.kind (areas_of state number)
      (areas_kept volume.store.parts number)
  areas-counted = subst (λ (n : ℕ). AreAreas entry.kind n (areas_kept volume.store.parts number))
      (owned-areas number volume.store.space state held.owned)
      (by-part (part_among volume.store.parts number) refl)
