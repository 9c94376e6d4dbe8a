-- What a volume hands in of a data set whose places are numbers is what its state has: how many
-- areas it has, and the address that an added record gets.
use Rattle.std.proofs.Common.{◌≡◌, ◌≢◌, ℕ, Bool, false, List, length, Option, Some, None, inl, inr}
use Rattle.std.proofs.Common.{refl, sym, ap, subst, ◌∙◌}
use Rattle.std.specs.Int.{w32, to_be_bytes}
use Rattle.std.specs.Option.{option_and_then, option_map, option_map_or}
use Rattle.std.proofs.lemmas.Option.{none-some, same_Some}
use Rattle.vr_catalog.specs.declared.definition.Definition.{Definition}
use Rattle.vr_catalog.specs.declared.entry.CatEntry.{CatEntry}
use Rattle.vr_types.specs.Seen.{Left, Seen}
use Rattle.vr_types.specs.declared.request.Request.{Request}
use Rattle.vr_types.specs.declared.request.Request.TheVariants.{Get, Point, Add, Update, Erase}
use Rattle.vr_types.specs.declared.request.Request.TheVariants.{EndReq, Commit, Backout}
use Rattle.vr_types.specs.declared.unit.Kind.{Kind}
use Rattle.vr_types.specs.declared.unit.Kind.TheVariants.{Keyed, Entry, Relative}
use Rattle.vr_types.specs.declared.unit.Unit.{Unit as UnitOfRecovery}
use Rattle.vr_space.specs.Numbered.{address_by}
use Rattle.vr_space.specs.Part.{KeyedShape, NumberedShape, OwnsChain, Shape, address_of, owned_count}
use Rattle.vr_space.specs.Rosters.{Numbered}
use Rattle.vr_attach.specs.Laid.{is_relative}
use Rattle.vr_history.specs.Address.{next_address}
use Rattle.vr_history.specs.Case.{Case}
use Rattle.vr_history.specs.Opened.{base_of, catalog_of, definition_in, opened}
use Rattle.vr_history.specs.RefusedFile.{shown_length}
use Rattle.vr_history.specs.Replies.{is_keyed}
use Rattle.vr_history.specs.State.{State, areas_of}
use Rattle.vr_history.specs.Step.{case_of}
use Rattle.vr_answer.specs.Here.{base_here}
use Rattle.vr_answer.specs.Numbered.{AreNumbersOf, IsNumbered, address_added, kind_of}
use Rattle.vr_record_file.specs.Now.{FileNow, IsStateOf, state_now}
use Rattle.vr_store.specs.Store.{IsSet, IsStored, OwnsItsChain, PartNow, StoreNow, part_among}
use Rattle.vr_store.proofs.CallerLemmas.{among-all}
use Rattle.vr_event.specs.Getting.{IsRead}
use Rattle.vr_event.specs.Numbers.{address_for}
use Rattle.vr_event.specs.Putting.{AreLaidBy, IsSpaceOf}
use Rattle.vr_event.proofs.EntryParts.{address-is, address-long, stands-for}
use Rattle.vr_event.proofs.PartKinds.{IsOfKind, of-kind, opened-by}

-- how many areas a part of the store keeps
abbrev pub areas_kept : List PartNow → ℕ → ℕ
areas_kept parts part =
    option_map_or (λ (one : PartNow). length one.known.areas) (part_among parts part) 0

module _ (case : Case) (store : StoreNow) (now : Seen) (set : IsSet store now)
    (laid : AreLaidBy case.geometry (catalog_of case.state) store.parts)
    (space : IsSpaceOf store (base_of case) case) where
  kinded : (one : PartNow) → part_among store.parts (base_of case) ≡ Some one
      → (definition : Definition) → definition_in (opened case) ≡ Some definition
      → IsOfKind case.geometry (base_of case) definition one.shape
  kinded one there definition is =
      of-kind case.geometry (catalog_of case.state) (base_of case) definition one.shape
      (opened-by case definition is)
      (sym (laid (base_of case))
      ∙ ap (λ (o : Option PartNow). option_map (λ (p : PartNow). p.shape) o) there)

  -- a part of numbers keeps as many areas as the state gives it,
  by-shape : (one : PartNow) (shape : Shape) → one.shape ≡ shape
      → part_among store.parts (base_of case) ≡ Some one → (definition : Definition)
      → IsOfKind case.geometry (base_of case) definition shape
      → is_keyed definition.kind ≡ false
      → length one.known.areas ≡ areas_of case.state (base_of case)
  by-shape one (KeyedShape part) shaped there definition of numbered =
      let no : is_keyed Keyed ≡ false = ap is_keyed (sym of) ∙ numbered in absurd cc
  by-shape one (NumberedShape part) shaped there definition of numbered =
      let owns : OwnsChain (NumberedShape part) one.known store.space =
      subst (λ (s : Shape). OwnsChain s one.known store.space) shaped
      (among-all (OwnsItsChain store.space) store.parts (base_of case) one set.owns there) in
      sym (subst (λ (n : ℕ). owned_count (record { 0 = n }) store.space ≡ length one.known.areas)
      (ap (λ (p : _). p.part) of.1.1) owns)
      ∙ space.owned

  by-part : (o : Option PartNow) → part_among store.parts (base_of case) ≡ o
      → (definition : Definition) → definition_in (opened case) ≡ Some definition
      → is_keyed definition.kind ≡ false
      → option_map_or (λ (one : PartNow). length one.known.areas) o 0
      ≡ areas_of case.state (base_of case)
  by-part None there definition is numbered = sym (space.unlaid there) ∙ space.owned
  by-part (Some one) there definition is numbered =
      by-shape one one.shape refl there definition (kinded one there definition is) numbered

  numbered-kind : IsNumbered (kind_of case) → (kind : Kind) → kind_of case ≡ Some kind
      → is_keyed kind ≡ false
  numbered-kind numbered kind is = elim numbered [
    | inl entry ↦ ap is_keyed (same_Some kind Entry (sym is ∙ entry))
    | inr relative ↦ ap is_keyed (same_Some kind Relative (sym is ∙ relative))
  ]

  by-definition : IsNumbered (kind_of case) → (o : Option Definition)
      → definition_in (opened case) ≡ o
      → areas_kept store.parts (base_of case) ≡ areas_of case.state (base_of case)
  by-definition numbered None there = elim numbered [
    | inl entry ↦ absurd (none-some Entry (sym none ∙ entry))
    | inr relative ↦ absurd (none-some Relative (sym none ∙ relative))
  ]
    where
      none : kind_of case ≡ None
      none = ap (λ (o : Option Definition). option_map (λ (d : Definition). d.kind) o) there
  by-definition numbered (Some definition) there =
      by-part (part_among store.parts (base_of case)) refl definition there
      (numbered-kind numbered definition.kind
      (ap (λ (o : Option Definition). option_map (λ (d : Definition). d.kind) o) there))

  -- and where the address is right, so is all that is handed in
  pub numbers-kept : (given : Option (List ℕ))
      → (kind_of case ≡ Some Entry → given ≡ address_added case case.request)
      → AreNumbersOf given (areas_kept store.parts (base_of case)) case
  numbers-kept given address = record {
    address = address;
    areas = λ numbered. by-definition numbered (definition_in (opened case)) refl;
  }

  -- ---- the address of an added record

  module _ (left : Left now now.cur) (volume : ℕ)
      (stored : IsStored volume store case.state now) where
    by-entry : (one : PartNow) → part_among store.parts (base_of case) ≡ Some one
        → (definition : Definition) → definition.kind ≡ Entry → (shape : Shape)
        → one.shape ≡ shape → IsOfKind case.geometry (base_of case) definition shape
        → (bytes : List ℕ)
        → address_of shape one.known (shown_length bytes)
        ≡ Some (next_address case.geometry.size (case.state.contents (base_of case))
        (length bytes))
    by-entry one there definition entry (KeyedShape part) shaped of bytes =
        let no : Keyed ≡ Entry = sym of ∙ entry in absurd cc
    by-entry one there definition entry (NumberedShape part) shaped of bytes =
        let entries : part.relative ≡ false =
        ap (λ (p : Numbered). p.relative) of.1.1 ∙ ap is_relative entry in
        let stands = stands-for store now set left volume case.state stored (base_of case) one there
        part shaped in
        ap (λ (relative : Bool). address_by relative part one.known.tail (shown_length bytes)) entries
        ∙ ap (λ (n : ℕ). Some n)
        (address-long part stands.part_is one.known.tail (length bytes)
        ∙ address-is store now set left volume case.state stored (base_of case) one there part shaped
        entries (length bytes)
        ∙ ap (λ (p : Numbered). next_address p.geometry.size (case.state.contents (base_of case))
        (length bytes)) of.1.1)

    by-laid : (o : Option PartNow) → part_among store.parts (base_of case) ≡ o → o ≢ None
        → (definition : Definition) → definition_in (opened case) ≡ Some definition
        → definition.kind ≡ Entry → (bytes : List ℕ)
        → option_map (to_be_bytes w32) (option_and_then
        (λ (one : PartNow). address_of one.shape one.known (shown_length bytes)) o)
        ≡ Some (to_be_bytes w32 (next_address case.geometry.size
        (case.state.contents (base_of case)) (length bytes)))
    by-laid None there some definition is entry bytes = absurd (some refl)
    by-laid (Some one) there some definition is entry bytes =
        ap (option_map (to_be_bytes w32))
        (by-entry one there definition entry one.shape refl (kinded one there definition is) bytes)

    by-added : part_among store.parts (base_of case) ≢ None → (definition : Definition)
        → definition_in (opened case) ≡ Some definition → definition.kind ≡ Entry
        → (request : Request)
        → address_for store.parts (base_of case) request ≡ address_added case request
    by-added some definition is entry (Add file named bytes) =
        by-laid (part_among store.parts (base_of case)) refl some definition is entry bytes
    by-added some definition is entry (Get file find update integrity) = refl
    by-added some definition is entry (Point file find) = refl
    by-added some definition is entry (Update file bytes) = refl
    by-added some definition is entry (Erase file) = refl
    by-added some definition is entry (EndReq file) = refl
    by-added some definition is entry Commit = refl
    by-added some definition is entry Backout = refl

    -- it is the one that the record file says, where the part is laid
    pub address-given : part_among store.parts (base_of case) ≢ None → kind_of case ≡ Some Entry
        → address_for store.parts (base_of case) case.request ≡ address_added case case.request
    address-given some entry = by_definition (definition_in (opened case)) refl
      where
        by_definition : (o : Option Definition) → definition_in (opened case) ≡ o
            → address_for store.parts (base_of case) case.request
            ≡ address_added case case.request
        by_definition None there = absurd (none-some Entry
            (ap (λ (o : Option Definition). option_map (λ (d : Definition). d.kind) o) (sym there)
            ∙ entry))
        by_definition (Some definition) there =
            by-added some definition there
            (same_Some definition.kind Entry
            (ap (λ (o : Option Definition). option_map (λ (d : Definition). d.kind) o) (sym there)
            ∙ entry)) case.request

-- a read adds no record
read-added : (case : Case) (request : Request) → IsRead request
    → None ≡ address_added case request
read-added case (Get file find update integrity) read = refl
read-added case (Point file find) read = refl
read-added case (Add file named bytes) read = absurd read
read-added case (Update file bytes) read = absurd read
read-added case (Erase file) read = absurd read
read-added case (EndReq file) read = absurd read
read-added case Commit read = absurd read
read-added case Backout read = absurd read

-- ---- of what is in memory of the record file

module _ (now : Seen) (store : StoreNow) (set : IsSet store now) (opening : State)
    (file : FileNow) (is : IsStateOf opening file)
    (laid : AreLaidBy file.geometry file.catalog store.parts) (unit : UnitOfRecovery)
    (request : Request) (part : ℕ) (base : part ≡ base_here request)
    (space : IsSpaceOf store part (case_of file.geometry (state_now opening file) unit request))
    (count : ℕ) (counted : count ≡ areas_kept store.parts part) where
  abbrev case : Case
  case = case_of file.geometry (state_now opening file) unit request

  laid-by : AreLaidBy case.geometry (catalog_of case.state) store.parts
  laid-by = subst (λ (entries : List CatEntry). AreLaidBy file.geometry entries store.parts)
      is.now.catalog laid

  space-by : IsSpaceOf store (base_of case) case
  space-by = subst (λ (n : ℕ). IsSpaceOf store n case) base space

  numbers-by : (given : Option (List ℕ))
      → (kind_of case ≡ Some Entry → given ≡ address_added case request)
      → AreNumbersOf given count case
  numbers-by given address =
      subst (λ (n : ℕ). AreNumbersOf given n case)
      (sym (counted ∙ ap (areas_kept store.parts) base))
      (numbers-kept case store now set laid-by space-by given address)

  -- a read is handed no address,
  pub numbers-read : IsRead request → AreNumbersOf None count case
  numbers-read read = numbers-by None (λ entry. read-added case request read)

  -- and a change that of the record which it adds
  pub numbers-now : Left now now.cur → (volume : ℕ) → IsStored volume store case.state now
      → part_among store.parts part ≢ None → (given : Option (List ℕ))
      → given ≡ address_for store.parts part request → AreNumbersOf given count case
  numbers-now left volume stored some given handed =
      numbers-by given (λ entry. handed ∙ ap (λ (n : ℕ). address_for store.parts n request) base
      ∙ address-given case store now set laid-by space-by left volume stored
      (subst (λ (n : ℕ). part_among store.parts n ≢ None) base some) entry)
