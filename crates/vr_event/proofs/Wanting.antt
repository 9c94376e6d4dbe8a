-- Where a change is refused for want of areas: of a data set whose places are numbers as the state
-- says it, and of a key-sequenced one as its part does.
use Rattle.std.proofs.Common.{◌≡◌, ◌≢◌, inl, ℕ, List, Option, Some, None, refl, sym, ap, subst, ◌∙◌}
use Rattle.std.proofs.Common.{false, length}
use Rattle.std.specs.Prelude.{IfSome}
use Rattle.std.specs.Option.{option_and_then, option_map, option_map_or}
use Rattle.std.proofs.lemmas.Option.{none-some}
use Rattle.vr_catalog.specs.declared.definition.Definition.{Definition}
use Rattle.vr_types.specs.Seen.{Left, Seen}
use Rattle.vr_types.specs.Space.{free_count}
use Rattle.vr_types.specs.declared.reply.Refusal.TheVariants.{NoSpace}
use Rattle.vr_types.specs.declared.unit.Kind.TheVariants.{Keyed}
use Rattle.vr_space.specs.Part.{KeyedShape, NumberedShape, Shape, owned_count, room_of}
use Rattle.vr_space.specs.Room.{Lengths}
use Rattle.vr_space.specs.Rosters.{Numbered}
use Rattle.vr_space.specs.Numbered.{numbered_room}
use Rattle.vr_space.specs.declared.room.Room.TheVariants as answers
use Rattle.vr_attach.specs.Laid.{numbered_part}
use Rattle.vr_history.specs.Case.{Case, new_record}
use Rattle.vr_history.specs.Change.{place_changed}
use Rattle.vr_history.specs.Opened.{base_of, catalog_of, definition_in, opened}
use Rattle.vr_history.specs.RefusedRoom.{free_areas, lacks, need_at, no_space}
use Rattle.vr_history.specs.Replies.{FillsKeyed, first_of, is_keyed, lacks_area}
use Rattle.vr_history.specs.State.{areas_of}
use Rattle.vr_undo.specs.Records.{images_in}
use Rattle.vr_volume.specs.PutBack.{lengths_kept}
use Rattle.vr_event.specs.Lacking.{IsWanting, LacksRoomIn}
use Rattle.vr_event.specs.Putting.{AreLaidBy, IsChange, IsSpaceOf, LacksArea}
use Rattle.vr_store.specs.Room.{IsRoomAt}
use Rattle.vr_store.specs.Store.{IsSet, IsStored, PartNow, Stands, StoreNow, part_among}
use Rattle.vr_event.proofs.PartKinds.{IsOfKind, of-kind, opened-by}
use Rattle.vr_event.proofs.TakenPlaces.{takes-given}
use Rattle.vr_event.proofs.Lacks.{keyed-none, long-some, room-lacks}
use Rattle.vr_answer.specs.Tried.{file_refusals, record_refusals}
use Rattle.vr_event.proofs.Weighs.{change-defined, no-wants}
use Rattle.vr_event.proofs.ChainAreas.{IsCountedOn, counted-on, room-unwanted, room-wanting}
use Rattle.vr_event.proofs.Unrefused.{valid-length}

module _ (case : Case) (store : StoreNow) (now : Seen) (set : IsSet store now)
    (left-of : Left now now.cur) (stands : Stands store now)
    (laid : AreLaidBy case.geometry (catalog_of case.state) store.parts)
    (space : IsSpaceOf store (base_of case) case) (place : List ℕ)
    (at : place_changed case ≡ Some place) where
  abbrev kept : Lengths
  kept = lengths_kept (images_in store.undo) (base_of case)

  -- the part is of the kind of the data set
  kinded : (one : PartNow) → part_among store.parts (base_of case) ≡ Some one
      → (definition : Definition) → definition_in (opened case) ≡ Some definition
      → IsOfKind case.geometry (base_of case) definition one.shape
  kinded one there definition on =
      of-kind case.geometry (catalog_of case.state) (base_of case) definition one.shape
      (opened-by case definition on)
      (sym (laid (base_of case))
      ∙ ap (λ (o : Option PartNow). option_map (λ (p : PartNow). p.shape) o) there)

  -- a fact of the room of the part's own chain, where it has the areas that the state gives it
  chain-by : (one : PartNow) → part_among store.parts (base_of case) ≡ Some one
      → (definition : Definition) (part : Numbered) → one.shape ≡ NumberedShape part
      → IsOfKind case.geometry (base_of case) definition (NumberedShape part)
      → (fact : Numbered → Type 0)
      → ((area : ℕ)
      → one.shape ≡ NumberedShape (numbered_part case.geometry (base_of case) area definition)
      → IsCountedOn (numbered_part case.geometry (base_of case) area definition) now.cur
      (areas_of case.state (base_of case))
      → fact (numbered_part case.geometry (base_of case) area definition)) → fact part
  chain-by one there definition part shaped of fact is =
      let same = of.1.1 in
      subst fact (sym same) (is of.1.0 (shaped ∙ ap NumberedShape same)
      (subst (IsCountedOn (numbered_part case.geometry (base_of case) of.1.0 definition) now.cur)
      space.owned
      (subst (λ (p : Numbered). IsCountedOn p now.cur
      (owned_count (record { 0 = p.part }) store.space)) same
      (counted-on store now set left-of stands (base_of case) one there part shaped))))

  -- ---- as the state says

  module _ (none : first_of (file_refusals case) ≡ None) (need left : ℕ)
      (wants : IsWanting case need left) where
    wanting-shape : (one : PartNow) → part_among store.parts (base_of case) ≡ Some one
        → (definition : Definition) → definition_in (opened case) ≡ Some definition
        → (bytes : List ℕ) → new_record case.request ≡ Some bytes
        → (shape : Shape) → one.shape ≡ shape
        → IsOfKind case.geometry (base_of case) definition shape
        → room_of shape one.known now.cur (free_count store.space) kept place (length bytes)
        ≡ answers.NoSpace need left
    wanting-shape one there definition on bytes given (KeyedShape part) shaped of =
        absurd (none-some (NoSpace need left) (sym (keyed-none case definition on of) ∙ wants))
    wanting-shape one there definition on bytes given (NumberedShape part) shaped of =
        subst (λ (free : ℕ). numbered_room part one.known.tail now.cur free place (length bytes)
        ≡ answers.NoSpace need left) (sym space.free)
        (chain-by one there definition part shaped of
        (λ (p : Numbered). numbered_room p one.known.tail now.cur (free_areas case) place
        (length bytes) ≡ answers.NoSpace need left)
        (λ area shaped-so counted. room-wanting case definition (base_of case) area place bytes on
        of.0 at given (valid-length case none definition on bytes given) one.known.tail now.cur
        counted need left wants))

    wanting-bytes : (one : PartNow) → part_among store.parts (base_of case) ≡ Some one
        → (definition : Definition) → definition_in (opened case) ≡ Some definition
        → (o : Option (List ℕ)) → new_record case.request ≡ o
        → LacksRoomIn store now.cur (base_of case) place case.request need left
    wanting-bytes one there definition on None given =
        absurd (none-some (NoSpace need left) (sym (unmade (place_changed case) refl) ∙ wants))
      where
        needless : (places : Option (List ℕ)) → option_and_then (λ (p : List ℕ).
            option_and_then (need_at case definition p) None) places ≡ None
        needless None = refl
        needless (Some p) = refl

        unmade : (places : Option (List ℕ)) → place_changed case ≡ places → no_space case ≡ None
        unmade places is = ap (λ (o : Option ℕ). option_and_then (lacks (free_areas case)) o)
            (ap (λ (o : Option Definition). option_and_then (λ (d : Definition).
            option_and_then (λ (p : List ℕ). option_and_then (need_at case d p)
            (new_record case.request)) (place_changed case)) o) on
            ∙ ap (λ (o : Option (List ℕ)). option_and_then (λ (p : List ℕ).
            option_and_then (need_at case definition p) o) (place_changed case)) given
            ∙ needless (place_changed case))
    wanting-bytes one there definition on (Some bytes) given = record {
      part = one;
      there = there;
      bytes = bytes;
      given = given;
      lacks = wanting-shape one there definition on bytes given one.shape refl
          (kinded one there definition on);
    }

    wanting-on : (one : PartNow) → part_among store.parts (base_of case) ≡ Some one
        → (o : Option Definition) → definition_in (opened case) ≡ o
        → LacksRoomIn store now.cur (base_of case) place case.request need left
    wanting-on one there None on = absurd (none-some (NoSpace need left)
        (sym (ap (λ (o : Option Definition). option_and_then (lacks (free_areas case))
        (option_and_then (λ (d : Definition). option_and_then (λ (p : List ℕ).
        option_and_then (need_at case d p) (new_record case.request)) (place_changed case)) o)) on)
        ∙ wants))
    wanting-on one there (Some definition) on =
        wanting-bytes one there definition on (new_record case.request) refl

    -- the part lacks room, with the numbers of the state
    pub lacks-wanting : part_among store.parts (base_of case) ≢ None
        → LacksRoomIn store now.cur (base_of case) place case.request need left
    lacks-wanting some = by_part (part_among store.parts (base_of case)) refl
      where
        by_part : (o : Option PartNow) → part_among store.parts (base_of case) ≡ o
            → LacksRoomIn store now.cur (base_of case) place case.request need left
        by_part None there = absurd (some there)
        by_part (Some one) there = wanting-on one there (definition_in (opened case)) refl

  -- ---- as the part says

  -- where the state says that there are areas enough, the part that lacks room is key-sequenced
  module _ (volume : ℕ) (stored : IsStored volume store case.state now)
      (no-record : first_of (record_refusals case) ≡ None) (none : first_of (file_refusals case)
      ≡ None) (n need left : ℕ) (bytes : List ℕ) (given : new_record case.request ≡ Some bytes)
      (long : n ≡ length bytes) (definition : Definition)
      (on : definition_in (opened case) ≡ Some definition) where
    keyed-shape : (one : PartNow) → part_among store.parts (base_of case) ≡ Some one
        → (shape : Shape) → one.shape ≡ shape
        → IsOfKind case.geometry (base_of case) definition shape
        → answers.NoSpace need left ≡ room_of shape one.known now.cur (free_count store.space) kept
        place n → (definition.kind ≡ Keyed) × (NoSpace need left ≡ lacks_area)
    keyed-shape one there (KeyedShape part) shaped of is = (
      of,
      room-lacks (KeyedShape part) one.known now.cur (free_count store.space) kept place n need left
          tt (sym is),
    )
    keyed-shape one there (NumberedShape part) shaped of is =
        let tail = one.known.tail in absurd
        (chain-by one there definition part shaped of
        (λ (p : Numbered). numbered_room p tail now.cur (free_areas case) place (length bytes)
        ≡ answers.NoSpace need left → ⊥)
        (λ area shaped-so counted. room-unwanted case definition (base_of case) area place bytes on
        of.0 at given (valid-length case none definition on bytes given) tail now.cur counted
        (no-wants case no-record) (length bytes)
        (takes-given case store now set left-of volume stored one there definition on area shaped-so
        no-record place bytes at of.0 given) need left)
        (subst (λ (free : ℕ). numbered_room part tail now.cur free place (length bytes)
        ≡ answers.NoSpace need left) space.free
        (subst (λ (m : ℕ). numbered_room part tail now.cur (free_count store.space) place m
        ≡ answers.NoSpace need left) long (sym is))))

    pub keyed-lacks : part_among store.parts (base_of case) ≢ None
        → IsRoomAt store now.cur (base_of case) place n (answers.NoSpace need left)
        → (definition.kind ≡ Keyed) × (NoSpace need left ≡ lacks_area)
    keyed-lacks some room = by_part (part_among store.parts (base_of case)) refl room
      where
        by_part : (o : Option PartNow) → part_among store.parts (base_of case) ≡ o
            → IfSome o (λ (one : PartNow). answers.NoSpace need left ≡ room_of one.shape one.known
            now.cur (free_count store.space) kept place n)
            → (definition.kind ≡ Keyed) × (NoSpace need left ≡ lacks_area)
        by_part None there is = absurd (some there)
        by_part (Some one) there is =
            keyed-shape one there one.shape refl (kinded one there definition on) is

  -- so it is of a change that nothing in memory refuses
  pub lacks-area : (volume : ℕ) → IsStored volume store case.state now → IsChange case.request
      → first_of (record_refusals case) ≡ None
      → part_among store.parts (base_of case) ≢ None → (n need left : ℕ)
      → IfSome (new_record case.request) (λ (bytes : List ℕ). n ≡ length bytes)
      → IsRoomAt store now.cur (base_of case) place n (answers.NoSpace need left)
      → LacksArea case need left
  lacks-area volume stored change no-record some n need left long room none given =
      by_new (new_record case.request) refl
    where
      by_new : (new : Option (List ℕ)) → new_record case.request ≡ new
          → FillsKeyed case × (NoSpace need left ≡ lacks_area)
      by_new None is = absurd (given is)
      by_new (Some bytes) is =
          let defines = change-defined case change none in
          let both = keyed-lacks volume stored no-record none n need left bytes is
          (long-some case.request n bytes is long) defines.0 defines.1 some room in (
            inl (
              given,
              ap (λ (o : Option Definition).
                  option_map_or (λ (known : Definition). is_keyed known.kind) o false) defines.1
                  ∙ ap is_keyed both.0,
            ),
            both.1,
          )
