-- The place that a read comes to: the one that it names, or the least of those that it asks for at
-- which a record stands, or at which another unit of recovery may bring one back. The rules are
-- those of the record file; how the place is searched for is this project's own.
use Rattle.std.specs.Prelude.{◌≡◌, ◌≢◌, ℕ, Bool, true, false, List, Option, Some, None}
use Rattle.std.specs.Prelude.{bytes_eq, option_and_then}
use Rattle.std.specs.List.{list_any}
use Rattle.std.specs.Option.{option_map_or}
use Rattle.vr_catalog.specs.Catalog.{definition_of}
use Rattle.vr_catalog.specs.declared.definition.Definition.{Definition}
use Rattle.vr_catalog.specs.declared.entry.CatEntry.{CatEntry}
use Rattle.vr_types.specs.Content.{Content, record_at}
use Rattle.vr_types.specs.declared.position.Stand.{Stand}
use Rattle.vr_types.specs.declared.request.Find.{Find}
use Rattle.vr_types.specs.declared.unit.Kind.{Kind}
use Rattle.vr_types.specs.declared.unit.Kind.TheVariants.{Keyed, Entry, Relative}
use Rattle.vr_types.specs.declared.unit.Unit.{Unit as UnitOfRecovery}
use Rattle.vr_space.specs.Whence.{allows}
use Rattle.vr_space.specs.declared.whence.Whence.{Whence}
use Rattle.vr_history.specs.Case.{Case, find_of}
use Rattle.vr_history.specs.Change.{record_held}
use Rattle.vr_history.specs.Found.{kept_by_others}
use Rattle.vr_history.specs.State.{BeforeImage, State}
use Rattle.vr_answer.specs.InHand.{IsCaseOf, whole}
use Rattle.vr_answer.specs.Least.{ComesTo, IsLeastWith, Searches, asks_for, first_seen, found_at}
use Rattle.vr_answer.specs.declared.case.Case.{Case as CaseInHand}

-- which places a search looks at that begins there; without a beginning it looks at none
abbrev pub looks_at : Option Whence → List ℕ → Bool
looks_at None place = false
looks_at (Some from) place = allows from place

-- they are those that a read asks for whose file stands here
abbrev pub AsksFrom : Stand → Find → Option Whence → Type 0
AsksFrom stand find from = (place : List ℕ) → looks_at from place ≡ asks_for stand find place

-- a record stands at a place
abbrev pub HasRecord : Content → List ℕ → Type 0
HasRecord content place = record_at content place ≢ None

-- a before-image of another unit may bring one back there
abbrev pub MayComeBack : UnitOfRecovery → ℕ → List BeforeImage → List ℕ → Type 0
MayComeBack unit part befores place =
    list_any (λ kept. bytes_eq place kept.0) (kept_by_others unit part befores) ≡ true

-- Of the places that are asked for, the least at which a record stands, and where the read sees what
-- may come back, the least at which one may: the lesser of the two is this place, or there is none.
pub record IsFirstSeen (asked : List ℕ → Bool) (unit : UnitOfRecovery) (part : ℕ) (sees : Bool)
    (state : State) (at : Option (List ℕ)) : Type 0 where
  pub standing : Option (List ℕ)
  pub kept : Option (List ℕ)
  pub stands : IsLeastWith asked (HasRecord (state.contents part)) standing
  pub comes_back : sees ≡ true → IsLeastWith asked (MayComeBack unit part state.befores) kept
  pub is : at ≡ first_seen sees standing kept

-- A read comes to this place, or to none; where it searches, it finds what is there, and where it
-- names the place, what stands there.
pub record IsSought (case : Case) (at : Option (List ℕ)) : Type 0 where
  pub comes : ComesTo case at
  pub finds : (find : Find) → find_of case.request ≡ Some find → Searches find → found_at case ≡ at
  pub found : (place : List ℕ) → at ≡ Some place → record_held case place ≢ None
      → found_at case ≡ Some place

-- a fact of each state that what is in memory agrees with, and in which a read comes to this place
-- and this record stands there
abbrev pub InEachFound : CaseInHand → Option (List ℕ) → Option (List ℕ) → (Case → Type 0) → Type 0
InEachFound case at present fact = (state : State) → IsCaseOf case state
    → IsSought (whole case state) at
    → present ≡ option_and_then (record_held (whole case state)) at → fact (whole case state)

-- how many bytes a place of a part has by its definition: an address, and the number of a slot, have
-- four
abbrev pub place_room_for : Kind → Definition → ℕ
place_room_for Keyed definition = definition.key_length
place_room_for Entry definition = 4
place_room_for Relative definition = 4

abbrev pub place_room : List CatEntry → ℕ → ℕ
place_room entries part = option_map_or
    (λ (definition : Definition). place_room_for definition.kind definition)
    (definition_of entries part) 0
