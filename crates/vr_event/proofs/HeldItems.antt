-- At the place of a change that nothing refuses is the record that it takes the place of, and where
-- that is none, nothing: no record was withdrawn there.
use Rattle.std.proofs.Common.{◌≡◌, ◌&&◌, ℕ, Bool, true, false, cond, List, length, Option, Some}
use Rattle.std.proofs.Common.{None, refl, sym, ap, subst, ◌∙◌, true≢false}
use Rattle.std.specs.Prelude.{is_none}
use Rattle.std.specs.Option.{option_and_then, option_map}
use Rattle.std.proofs.lemmas.Option.{none-some, same_Some}
use Rattle.vr_catalog.specs.declared.definition.Definition.{Definition}
use Rattle.vr_types.specs.Content.{Content, Item, Standing, Withdrawn, item_at, record_of}
use Rattle.vr_types.specs.Fields.{four}
use Rattle.vr_types.specs.Seen.{Left, Seen}
use Rattle.vr_types.specs.declared.reply.Refusal.TheVariants.{NotFound}
use Rattle.vr_types.specs.declared.request.FileRef.{FileRef}
use Rattle.vr_types.specs.declared.request.Request.{Request}
use Rattle.vr_types.specs.declared.request.Request.TheVariants.{Get, Point, Add, Update, Erase}
use Rattle.vr_types.specs.declared.request.Request.TheVariants.{EndReq, Commit, Backout}
use Rattle.vr_types.specs.declared.unit.Kind.{Kind}
use Rattle.vr_types.specs.declared.unit.Kind.TheVariants.{Keyed, Entry, Relative}
use Rattle.vr_space.specs.Entries.{address_after}
use Rattle.vr_space.specs.Part.{KeyedShape, NumberedShape, Shape, WithdrawsNone, item_of}
use Rattle.vr_space.specs.Rosters.{Numbered}
use Rattle.vr_space.proofs.CallerLemmas.{item-read}
use Rattle.vr_attach.specs.Laid.{is_relative}
use Rattle.vr_history.specs.Address.{next_address}
use Rattle.vr_history.specs.Case.{Case, acts_on_held, is_add}
use Rattle.vr_history.specs.Change.{old_record, place_added, place_asked, place_changed}
use Rattle.vr_history.specs.Change.{record_held}
use Rattle.vr_history.specs.Opened.{base_of, catalog_of, definition_in, opened}
use Rattle.vr_history.specs.RefusedRecord.{gone}
use Rattle.vr_history.specs.Replies.{is_keyed}
use Rattle.vr_store.specs.Store.{IsSet, IsStored, PartNow, StoreNow, part_among}
use Rattle.vr_store.proofs.CallerLemmas.{number-at, record-read, rested-at}
use Rattle.vr_event.specs.Putting.{AreLaidBy, IsChange, IsReadyAt}
use Rattle.vr_event.proofs.EntryParts.{address-is, free-at}
use Rattle.vr_event.proofs.TakenPlaces.{added-place, four-is}
use Rattle.vr_event.proofs.PartKinds.{IsOfKind, of-kind, opened-by}
use Rattle.vr_event.proofs.Unrefused.{first-none, unrefused-false}
use Rattle.vr_event.proofs.Weighs.{asks-change}

-- the item that a record is
standing-is : (item : Option Item) (bytes : List ℕ) → option_and_then record_of item ≡ Some bytes
    → Some (Standing bytes) ≡ item
standing-is None bytes is = absurd (none-some bytes is)
standing-is (Some (Withdrawn n)) bytes is = absurd (none-some bytes is)
standing-is (Some (Standing other)) bytes is =
    ap (λ (b : List ℕ). Some (Standing b)) (sym (same_Some other bytes is))

-- an entry-sequenced data set is neither of the others
entry-kind : (kind : Kind) → is_keyed kind ≡ false → is_relative kind ≡ false → kind ≡ Entry
entry-kind Keyed numbered entries = absurd cc
entry-kind Entry numbered entries = refl
entry-kind Relative numbered entries = absurd cc

module _ (case : Case) (store : StoreNow) (now : Seen) (set : IsSet store now)
    (left : Left now now.cur) (volume : ℕ) (stored : IsStored volume store case.state now)
    (laid : AreLaidBy case.geometry (catalog_of case.state) store.parts) (place : List ℕ)
    (old : Option (List ℕ)) (at : IsReadyAt case place old) (one : PartNow)
    (there : part_among store.parts (base_of case) ≡ Some one) where
  abbrev content : Content
  content = case.state.contents (base_of case)

  abbrev item : Option Item
  item = item_of one.shape now.cur place

  reads : item ≡ item_at content place
  reads =
      (rested-at store now set volume case.state (base_of case) one there stored).reads place
      ∙ ap (λ (n : ℕ). item_at (case.state.contents n) place)
      (number-at store now set (base_of case) one there)

  record-is : option_and_then record_of item ≡ old
  record-is =
      record-read store now set volume case.state (base_of case) one there stored place
      ∙ sym at.old_is

  -- where nothing is ever withdrawn the record is the item
  plain : WithdrawsNone one.shape → option_map Standing old ≡ item_at content place
  plain none =
      ap (λ (o : Option (List ℕ)). option_map Standing o) (sym record-is)
      ∙ sym (item-read one.shape now.cur place none) ∙ reads

  -- what acts on a record that is held finds one
  held-some : (request : Request) → case.request ≡ request → acts_on_held request ≡ true
      → is_add request ≡ false → old ≡ None → ⊥
  held-some request same acts adds none =
      let looked : old_record case ≡ None =
      ap (λ (add : Bool). cond add None
      (option_and_then (record_held case) (place_changed case)))
      (ap is_add same ∙ adds)
      ∙ ap (λ (o : Option (List ℕ)). option_and_then (record_held case) o) at.place_is
      ∙ sym at.old_is ∙ none in
      let gone-none : gone case ≡ None = first-none (gone case) _ at.unheld in
      true≢false
      (sym (ap (λ (b : Bool). b && is_none (old_record case)) (ap acts_on_held same ∙ acts)
      ∙ ap (λ (o : Option (List ℕ)). is_none o) looked)
      ∙ unrefused-false (acts_on_held case.request && is_none (old_record case)) NotFound gone-none)

  -- nothing is at the next address
  module _ (part : Numbered) (shaped : one.shape ≡ NumberedShape part)
      (entries : part.relative ≡ false) where
    added-at : (file : FileRef) (named : Option (List ℕ)) (bytes : List ℕ)
        → case.request ≡ Add file named bytes → (o : Option Definition)
        → definition_in (opened case) ≡ o
        → option_map (λ (d : Definition). place_added case d named bytes) o ≡ Some place
        → item_at content place ≡ None
    added-at file named bytes same None on is = absurd (none-some place is)
    added-at file named bytes same (Some definition) on is =
        let of : IsOfKind case.geometry (base_of case) definition (NumberedShape part) =
        of-kind case.geometry (catalog_of case.state) (base_of case) definition
        (NumberedShape part) (opened-by case definition on)
        (sym (laid (base_of case))
        ∙ ap (λ (o : Option PartNow). option_map (λ (p : PartNow). p.shape) o) there
        ∙ ap (λ (s : Shape). Some s) shaped) in
        let kind : definition.kind ≡ Entry = entry-kind definition.kind of.0
        (sym (ap (λ (p : Numbered). p.relative) of.1.1) ∙ entries) in
        let placed : place ≡ four (address_after part one.known.tail (length bytes)) =
        added-place case definition on kind file named bytes place same at.place_is
        ∙ sym (four-is (next_address case.geometry.size content (length bytes)))
        ∙ ap (λ (p : Numbered). four (next_address p.geometry.size content (length bytes)))
        (sym of.1.1)
        ∙ ap four (sym (address-is store now set left volume case.state stored (base_of case) one
        there part shaped entries (length bytes))) in
        ap (item_at content) placed
        ∙ free-at store now set left volume case.state stored (base_of case) one there part shaped
        entries (length bytes)

    none-there : (request : Request) → case.request ≡ request → IsChange request → old ≡ None
        → item_at content place ≡ None
    none-there (Add file named bytes) same change none =
        added-at file named bytes same (definition_in (opened case)) refl
        (sym (ap (place_asked case) same) ∙ at.place_is)
    none-there (Update file bytes) same change none =
        absurd (held-some (Update file bytes) same refl refl none)
    none-there (Erase file) same change none =
        absurd (held-some (Erase file) same refl refl none)
    none-there (Get file find update integrity) same change none = absurd change
    none-there (Point file find) same change none = absurd change
    none-there (EndReq file) same change none = absurd change
    none-there Commit same change none = absurd change
    none-there Backout same change none = absurd change

    entry-held : (o : Option (List ℕ)) → old ≡ o → option_map Standing o ≡ item_at content place
    entry-held None is =
        sym (none-there case.request refl (asks-change case case.request place at.place_is) is)
    entry-held (Some bytes) is = standing-is item bytes (record-is ∙ is) ∙ reads

    part-held : option_map Standing old ≡ item_at content place
    part-held = entry-held old refl

  by-relative : (part : Numbered) → one.shape ≡ NumberedShape part → (relative : Bool)
      → part.relative ≡ relative → option_map Standing old ≡ item_at content place
  by-relative part shaped true is = plain (subst WithdrawsNone (sym shaped) is)
  by-relative part shaped false is = part-held part shaped is

  by-shape : (shape : Shape) → one.shape ≡ shape → option_map Standing old ≡ item_at content place
  by-shape (KeyedShape part) shaped = plain (subst WithdrawsNone (sym shaped) tt)
  by-shape (NumberedShape part) shaped = by-relative part shaped part.relative refl

  pub item-held : option_map Standing old ≡ item_at content place
  item-held = by-shape one.shape refl
