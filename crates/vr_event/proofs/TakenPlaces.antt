-- A place whose interval is in the chain of its part takes the record of a change that nothing
-- refuses.
use Rattle.std.proofs.Common.{◌≡◌, ℕ, Bool, true, false, List, length, refl, Option, Some}
use Rattle.std.proofs.Common.{None, sym, ap, subst, ◌∙◌, eq-eqb}
use Rattle.std.specs.Prelude.{bytes_eq}
use Rattle.std.specs.Int.{w32, to_be_bytes}
use Rattle.std.specs.Option.{option_and_then, option_map}
use Rattle.std.proofs.lemmas.Option.{none-some}
use Rattle.std.proofs.lemmas.Slice.Eq.{bytes_eq-Decides}
use Rattle.vr_catalog.specs.declared.definition.Definition.{Definition}
use Rattle.vr_types.specs.Content.{Item, Standing, Withdrawn, item_at, record_of}
use Rattle.vr_types.specs.Fields.{four}
use Rattle.vr_types.specs.Seen.{Left, Seen}
use Rattle.vr_types.specs.declared.request.FileRef.{FileRef}
use Rattle.vr_types.specs.declared.request.Request.{Request}
use Rattle.vr_types.specs.declared.request.Request.TheVariants.{Get, Point, Add, Update, Erase}
use Rattle.vr_types.specs.declared.request.Request.TheVariants.{EndReq, Commit, Backout}
use Rattle.vr_types.specs.declared.unit.Kind.{Kind}
use Rattle.vr_types.specs.declared.unit.Kind.TheVariants.{Keyed, Entry, Relative}
use Rattle.vr_space.specs.Entries.{address_after}
use Rattle.vr_space.specs.Numbered.{numbered_way, takes}
use Rattle.vr_space.specs.Part.{NumberedShape, Shape, record_read}
use Rattle.vr_space.specs.Rosters.{Numbered}
use Rattle.vr_space.specs.Way.{found_on}
use Rattle.vr_attach.specs.Laid.{is_relative, numbered_part}
use Rattle.vr_history.specs.Address.{next_address}
use Rattle.vr_history.specs.Case.{Case, new_record}
use Rattle.vr_history.specs.Change.{place_added, place_asked, place_by, place_changed, record_held}
use Rattle.vr_history.specs.Opened.{base_of, definition_in, opened}
use Rattle.vr_history.specs.Replies.{first_of, is_keyed}
use Rattle.vr_answer.specs.Tried.{record_refusals}
use Rattle.vr_store.specs.Store.{IsSet, IsStored, PartNow, StoreNow, part_among}
use Rattle.vr_store.proofs.CallerLemmas.{record-read}
use Rattle.vr_event.proofs.EntryParts.{address-is, free-at, item-there}
use Rattle.vr_event.proofs.ChainAreas.{Takes}
use Rattle.vr_event.proofs.Unrefused.{HasOldLong, update-keeps}

-- an item that is a record of that length takes it
by-old : (o : Option Item) (old : List ℕ) (n : ℕ) (next : Bool)
    → option_and_then record_of o ≡ Some old → length old ≡ n → takes false o n next ≡ true
by-old None old n next is long = absurd (none-some old is)
by-old (Some (Withdrawn m)) old n next is long = absurd (none-some old is)
by-old (Some (Standing bytes)) old n next is long =
    let same : bytes ≡ old = cc in eq-eqb (length bytes) n (ap (λ (b : List ℕ). length b) same ∙ long)

-- the four bytes of a number
pub four-is : (n : ℕ) → four n ≡ to_be_bytes w32 n
unfolding four
four-is n = refl

-- the place of a record that is added to an entry-sequenced data set
pub added-place : (case : Case) (definition : Definition)
    → definition_in (opened case) ≡ Some definition → definition.kind ≡ Entry → (file : FileRef)
    (named : Option (List ℕ)) (bytes place : List ℕ) → case.request ≡ Add file named bytes
    → place_changed case ≡ Some place
    → place ≡ to_be_bytes w32
    (next_address case.geometry.size (case.state.contents (base_of case)) (length bytes))
added-place case definition on entry file named bytes place same at =
    let asked : Some (place_added case definition named bytes) ≡ Some place =
    sym (ap (λ (o : Option Definition). option_map (λ (d : Definition).
    place_added case d named bytes) o) on) ∙ sym (ap (place_asked case) same) ∙ at in
    let is : place_added case definition named bytes ≡ place = cc in
    sym is ∙ ap (λ (kind : Kind). place_by kind case definition named bytes) entry

module _ (case : Case) (store : StoreNow) (now : Seen) (set : IsSet store now)
    (left : Left now now.cur) (volume : ℕ) (stored : IsStored volume store case.state now)
    (one : PartNow) (there : part_among store.parts (base_of case) ≡ Some one)
    (definition : Definition) (on : definition_in (opened case) ≡ Some definition) (area : ℕ)
    (shaped : one.shape ≡ NumberedShape (numbered_part case.geometry (base_of case) area definition))
    (unheld : first_of (record_refusals case) ≡ None) (place bytes : List ℕ)
    (at : place_changed case ≡ Some place) where
  abbrev part : Numbered
  part = numbered_part case.geometry (base_of case) area definition

  abbrev found : Option Item
  found = found_on now.cur (numbered_way part place)

  abbrev next : Bool
  next = bytes_eq place (four (address_after part one.known.tail (length bytes)))

  by-add : definition.kind ≡ Entry → (file : FileRef) (named : Option (List ℕ))
      → case.request ≡ Add file named bytes → takes false found (length bytes) next ≡ true
  by-add entry file named same =
      let entries : part.relative ≡ false = ap is_relative entry in
      let address = address_after part one.known.tail (length bytes) in
      let placed : place ≡ four address =
      added-place case definition on entry file named bytes place same at
      ∙ sym (four-is (next_address case.geometry.size (case.state.contents (base_of case))
      (length bytes)))
      ∙ ap four (sym (address-is store now set left volume case.state stored (base_of case) one
      there part shaped entries (length bytes))) in
      let none : found ≡ None =
      item-there store now set left volume case.state stored (base_of case) one there part shaped
      place
      ∙ ap (item_at (case.state.contents (base_of case))) placed
      ∙ free-at store now set left volume case.state stored (base_of case) one there part shaped
      entries (length bytes) in
      ap (λ (o : Option Item). takes false o (length bytes) next) none
      ∙ (bytes_eq-Decides place (four address)).1 placed

  by-update : definition.kind ≡ Entry → (file : FileRef) → case.request ≡ Update file bytes
      → takes false found (length bytes) next ≡ true
  by-update entry file same =
      let has : HasOldLong case place bytes =
      update-keeps case definition on unheld entry file bytes place same at in
      by-old found has.old (length bytes) next
      (subst (λ (s : Shape). record_read s now.cur place ≡ record_held case place) shaped
      (record-read store now set volume case.state (base_of case) one there stored place)
      ∙ has.there) has.long

  by-request : definition.kind ≡ Entry → (request : Request) → case.request ≡ request
      → new_record request ≡ Some bytes → takes false found (length bytes) next ≡ true
  by-request entry (Add file named given) same new =
      let is : given ≡ bytes = cc in
      by-add entry file named (same ∙ ap (Add file named) is)
  by-request entry (Update file given) same new =
      let is : given ≡ bytes = cc in by-update entry file (same ∙ ap (Update file) is)
  by-request entry (Erase file) same new = absurd (none-some bytes new)
  by-request entry (Get file find update integrity) same new = absurd (none-some bytes new)
  by-request entry (Point file find) same new = absurd (none-some bytes new)
  by-request entry (EndReq file) same new = absurd (none-some bytes new)
  by-request entry Commit same new = absurd (none-some bytes new)
  by-request entry Backout same new = absurd (none-some bytes new)

  by-kind : new_record case.request ≡ Some bytes → (kind : Kind) → definition.kind ≡ kind
      → is_keyed kind ≡ false → takes (is_relative kind) found (length bytes) next ≡ true
  by-kind new Keyed is numbered = absurd cc
  by-kind new Entry is numbered = by-request is case.request refl new
  by-kind new Relative is numbered = refl

  -- the place takes the record
  pub takes-given : is_keyed definition.kind ≡ false → new_record case.request ≡ Some bytes
      → Takes part one.known.tail now.cur place (length bytes)
  takes-given numbered new = by-kind new definition.kind refl numbered
