-- What a change that nothing in memory refuses leaves at its place: the record that it gives, or
-- nothing, since no record of an entry-sequenced data set is erased.
use Rattle.std.proofs.Common.{◌≡◌, ◌||◌, ℕ, Bool, true, false, not, List, Option, Some, None, refl}
use Rattle.std.proofs.Common.{sym, ap, ◌∙◌}
use Rattle.std.specs.Option.{option_and_then, option_map}
use Rattle.vr_catalog.specs.declared.definition.Definition.{Definition}
use Rattle.vr_types.specs.Content.{Item, Standing, item_at}
use Rattle.vr_types.specs.declared.geometry.Geometry.{Geometry}
use Rattle.vr_types.specs.declared.reply.Refusal.TheVariants.{NoFile, NotAllowed}
use Rattle.vr_types.specs.declared.request.FileRef.{FileRef}
use Rattle.vr_types.specs.declared.request.Request.{Request}
use Rattle.vr_types.specs.declared.request.Request.TheVariants.{Get, Point, Add, Update, Erase}
use Rattle.vr_types.specs.declared.request.Request.TheVariants.{EndReq, Commit, Backout}
use Rattle.vr_types.specs.declared.unit.Kind.{Kind}
use Rattle.vr_types.specs.declared.unit.Kind.TheVariants.{Keyed, Entry, Relative}
use Rattle.vr_space.specs.Part.{KeyedShape, NumberedShape, Shape, WithdrawsNone, left_by}
use Rattle.vr_space.specs.Rosters.{Numbered}
use Rattle.vr_space.proofs.CallerLemmas.{left-is, left-standing}
use Rattle.vr_attach.specs.Laid.{is_relative}
use Rattle.vr_history.specs.Case.{Case, file_of, new_record}
use Rattle.vr_history.specs.Opened.{ByPath, Cluster, Opened, Unknown, base_of, catalog_of}
use Rattle.vr_history.specs.Opened.{definition_in, opened}
use Rattle.vr_history.specs.RefusedFile.{can_erase, goes_with_kind, is_catalog_changing, is_unknown}
use Rattle.vr_history.specs.RefusedFile.{kind_allows, no_file, not_allowed, refused_if, stopped}
use Rattle.vr_history.specs.Replies.{first_of, is_keyed}
use Rattle.vr_answer.specs.Tried.{file_refusals}
use Rattle.vr_store.specs.Store.{PartNow, left_among, shape_among}
use Rattle.vr_event.specs.Putting.{AreLaidBy, IsChange}
use Rattle.vr_event.proofs.PartKinds.{IsOfKind, of-kind, opened-by}
use Rattle.vr_event.proofs.Unrefused.{first-none, rest-none, unrefused-false}

or-first : (a b : Bool) → (a || b) ≡ false → a ≡ false
or-first false b is = refl
or-first true b is = absurd cc

not-false : (test : Bool) → not test ≡ false → test ≡ true
not-false true is = refl
not-false false is = absurd cc

-- ---- a data set of which records are erased

record CanErase (on : Opened) : Type 0 where
  definition : Definition
  is : definition_in on ≡ Some definition
  erases : can_erase definition.kind ≡ true

can-erase-on : (on : Opened) → is_unknown on ≡ false → kind_allows can_erase on ≡ true
    → CanErase on
can-erase-on Unknown known erases = absurd cc
can-erase-on (Cluster definition) known erases =
    record { definition = definition; is = refl; erases = erases }
can-erase-on (ByPath definition alternate) known erases =
    record { definition = definition; is = refl; erases = erases }

-- of a kind of numbers those of slots alone are
erased-relative : (kind : Kind) → is_keyed kind ≡ false → can_erase kind ≡ true
    → is_relative kind ≡ true
erased-relative Keyed numbered erases = absurd cc
erased-relative Entry numbered erases = absurd cc
erased-relative Relative numbered erases = refl

erased-shape : (geometry : Geometry) (part : ℕ) (definition : Definition) (shape : Shape)
    → can_erase definition.kind ≡ true → IsOfKind geometry part definition shape
    → WithdrawsNone shape
erased-shape geometry part definition (KeyedShape keyed) erases of = tt
erased-shape geometry part definition (NumberedShape numbered) erases of =
    ap (λ (it : Numbered). it.relative) of.1.1
    ∙ erased-relative definition.kind of.0 erases

module _ (geometry : Geometry) (case : Case) (parts : List PartNow)
    (laid : AreLaidBy geometry (catalog_of case.state) parts)
    (none : first_of (file_refusals case) ≡ None) where
  can-erase-of : (file : FileRef) → case.request ≡ Erase file → CanErase (opened case)
  can-erase-of file same =
      let known : refused_if (is_unknown (opened case) || is_catalog_changing case) NoFile ≡ None =
      sym (ap (λ (request : Request). option_and_then (λ (file : FileRef).
      refused_if (is_unknown (opened case) || is_catalog_changing case) NoFile)
      (file_of request)) same)
      ∙ first-none (no_file case) _ none in
      let allowed : goes_with_kind (opened case) case.request ≡ true =
      not-false (goes_with_kind (opened case) case.request)
      (unrefused-false (not (goes_with_kind (opened case) case.request)) NotAllowed
      (first-none (not_allowed case) _
      (rest-none (stopped case) _ (rest-none (no_file case) _ none)))) in
      can-erase-on (opened case)
      (or-first (is_unknown (opened case)) (is_catalog_changing case)
      (unrefused-false (is_unknown (opened case) || is_catalog_changing case) NoFile known))
      (sym (ap (goes_with_kind (opened case)) same) ∙ allowed)

  erased-whole : (file : FileRef) → case.request ≡ Erase file → (shape : Shape)
      → shape_among parts (base_of case) ≡ Some shape → WithdrawsNone shape
  erased-whole file same shape there =
      let erases = can-erase-of file same in
      erased-shape geometry (base_of case) erases.definition shape erases.erases
      (of-kind geometry (catalog_of case.state) (base_of case) erases.definition shape
      (opened-by case erases.definition erases.is) (sym (laid (base_of case)) ∙ there))

  left-by : (shape : Shape) → shape_among parts (base_of case) ≡ Some shape → (now : Option Item)
      → (request : Request) → case.request ≡ request → IsChange request
      → left_by shape now (new_record request) ≡ option_map Standing (new_record request)
  left-by shape there now (Add file named bytes) same is = left-standing shape now bytes
  left-by shape there now (Update file bytes) same is = left-standing shape now bytes
  left-by shape there now (Erase file) same is =
      left-is shape now None (erased-whole file same shape there)
  left-by shape there now (Get file find update integrity) same is = absurd is
  left-by shape there now (Point file find) same is = absurd is
  left-by shape there now (EndReq file) same is = absurd is
  left-by shape there now Commit same is = absurd is
  left-by shape there now Backout same is = absurd is

  -- at the place of a part that is laid
  pub left-made : (shape : Shape) → shape_among parts (base_of case) ≡ Some shape
      → IsChange case.request → (place : List ℕ)
      → left_among parts (base_of case) case.state place (new_record case.request)
      ≡ option_map Standing (new_record case.request)
  left-made shape there change place =
      let now : Option Item = item_at (case.state.contents (base_of case)) place in
      ap (option_and_then (λ (one : Shape). left_by one now (new_record case.request))) there
      ∙ left-by shape there now case.request refl change
