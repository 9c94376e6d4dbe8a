-- What is known of a change that isn't refused: its record has a valid length, and the record that
-- it takes the place of is there, of an entry-sequenced data set with that length.
use Rattle.std.proofs.Common.{◌≡◌, ◌&&◌, ℕ, Bool, true, false, not, List, ◌∷◌, length, refl}
use Rattle.std.proofs.Common.{Option, Some, None, sym, ap, subst, ◌∙◌, cond}
use Rattle.std.specs.Prelude.{is_none}
use Rattle.std.specs.Option.{option_and_then}
use Rattle.std.proofs.lemmas.Bool.{eqb-true}
use Rattle.std.proofs.lemmas.Option.{none-some}
use Rattle.vr_catalog.specs.Definition.{is_valid_record}
use Rattle.vr_catalog.specs.declared.definition.Definition.{Definition}
use Rattle.vr_types.specs.declared.reply.Refusal.{Refusal}
use Rattle.vr_types.specs.declared.reply.Refusal.TheVariants.{BadLength, LengthChanged, NotFound}
use Rattle.vr_types.specs.declared.request.FileRef.{FileRef}
use Rattle.vr_types.specs.declared.request.Request.{Request}
use Rattle.vr_types.specs.declared.request.Request.TheVariants.{Get, Point, Add, Update, Erase}
use Rattle.vr_types.specs.declared.request.Request.TheVariants.{EndReq, Commit, Backout}
use Rattle.vr_types.specs.declared.unit.Kind.{Kind}
use Rattle.vr_types.specs.declared.unit.Kind.TheVariants.{Entry}
use Rattle.vr_history.specs.Case.{Case, acts_on_held, is_add, new_record}
use Rattle.vr_history.specs.Change.{old_record, place_changed, record_held}
use Rattle.vr_history.specs.Opened.{ByPath, Cluster, Opened, Unknown, definition_in, opened}
use Rattle.vr_history.specs.RefusedFile.{bad_length, bad_slot, length_wrong, no_file, not_allowed}
use Rattle.vr_history.specs.RefusedFile.{record_wrong, refused_if, shown_length, stopped}
use Rattle.vr_history.specs.RefusedRecord.{changes_length, gone, key_changed, length_changed}
use Rattle.vr_history.specs.RefusedRecord.{length_changes, other_length}
use Rattle.vr_history.specs.Replies.{first_of}
use Rattle.vr_answer.specs.Tried.{file_refusals, record_refusals}

-- ---- of some refusals none has its cause

pub first-none : (a : Option Refusal) (rest : List (Option Refusal)) → first_of (a ∷ rest) ≡ None
    → a ≡ None
first-none None rest none = refl
first-none (Some refusal) rest none = absurd (none-some refusal (sym none))

pub rest-none : (a : Option Refusal) (rest : List (Option Refusal)) → first_of (a ∷ rest) ≡ None
    → first_of rest ≡ None
rest-none None rest none = none
rest-none (Some refusal) rest none = absurd (none-some refusal (sym none))

pub unrefused-false : (test : Bool) (refusal : Refusal) → refused_if test refusal ≡ None
    → test ≡ false
unrefused-false false refusal none = refl
unrefused-false true refusal none = absurd (none-some refusal (sym none))

-- ---- its record is valid

not-false : (test : Bool) → not test ≡ false → test ≡ true
not-false true is = refl
not-false false is = absurd cc

valid-in : (o : Opened) (definition : Definition) (bytes : List ℕ)
    → definition_in o ≡ Some definition → record_wrong o bytes ≡ None
    → is_valid_record definition bytes ≡ true
valid-in Unknown definition bytes on none = absurd (none-some definition on)
valid-in (Cluster known) definition bytes on none =
    let same : known ≡ definition = cc in
    subst (λ (d : Definition). is_valid_record d bytes ≡ true) same
    (not-false (is_valid_record known bytes)
    (unrefused-false _ (BadLength (shown_length bytes)) none))
valid-in (ByPath known alternate) definition bytes on none =
    let same : known ≡ definition = cc in
    subst (λ (d : Definition). is_valid_record d bytes ≡ true) same
    (not-false (is_valid_record known bytes)
    (unrefused-false _ (BadLength (shown_length bytes)) none))

valid-by : (o : Opened) (definition : Definition) (bytes : List ℕ)
    → definition_in o ≡ Some definition → (request : Request)
    → new_record request ≡ Some bytes → length_wrong o request ≡ None
    → is_valid_record definition bytes ≡ true
valid-by o definition bytes on (Add file named given) new none =
    let same : given ≡ bytes = cc in
    subst (λ (b : List ℕ). is_valid_record definition b ≡ true) same
    (valid-in o definition given on none)
valid-by o definition bytes on (Update file given) new none =
    let same : given ≡ bytes = cc in
    subst (λ (b : List ℕ). is_valid_record definition b ≡ true) same
    (valid-in o definition given on none)
valid-by o definition bytes on (Erase file) new none = absurd (none-some bytes new)
valid-by o definition bytes on (Get file find update integrity) new none =
    absurd (none-some bytes new)
valid-by o definition bytes on (Point file find) new none = absurd (none-some bytes new)
valid-by o definition bytes on (EndReq file) new none = absurd (none-some bytes new)
valid-by o definition bytes on Commit new none = absurd (none-some bytes new)
valid-by o definition bytes on Backout new none = absurd (none-some bytes new)

-- A record that nothing in memory refuses has a length that its definition allows.
pub valid-length : (case : Case) → first_of (file_refusals case) ≡ None → (definition : Definition)
    → definition_in (opened case) ≡ Some definition → (bytes : List ℕ)
    → new_record case.request ≡ Some bytes → is_valid_record definition bytes ≡ true
valid-length case none definition on bytes new =
    valid-by (opened case) definition bytes on case.request new
    (first-none (bad_length case) _
    (rest-none (bad_slot case) _ (rest-none (not_allowed case) _ (rest-none (stopped case) _
    (rest-none (no_file case) _ none)))))

-- ---- the record that it takes the place of

-- a record stands at the place that is as long as this
pub record HasOldLong (case : Case) (place bytes : List ℕ) : Type 0 where
  pub old : List ℕ
  pub there : record_held case place ≡ Some old
  pub long : length old ≡ length bytes

and-right : (a b : Bool) → (a && b) ≡ false → a ≡ true → b ≡ false
and-right true b both is = both
and-right false b both is = absurd cc

some-old : (old : Option (List ℕ)) → is_none old ≡ false → (bytes : List ℕ) × (old ≡ Some bytes)
some-old None is = absurd cc
some-old (Some bytes) is = (bytes, refl)

module _ (case : Case) (definition : Definition) (on : definition_in (opened case) ≡ Some definition)
    (unheld : first_of (record_refusals case) ≡ None) where
  none-gone : gone case ≡ None
  none-gone = first-none (gone case) _ unheld

  none-changed : length_changed case ≡ None
  none-changed = first-none (length_changed case) _
      (rest-none (key_changed case) _ (rest-none (gone case) _ unheld))

  changes-in : (o : Opened) → definition_in o ≡ Some definition → (bytes : List ℕ)
      → changes_length case o bytes ≡ other_length definition.kind (old_record case) bytes
  changes-in Unknown is bytes = absurd (none-some definition is)
  changes-in (Cluster known) is bytes =
      let same : known ≡ definition = cc in
      ap (λ (d : Definition). other_length d.kind (old_record case) bytes) same
  changes-in (ByPath known alternate) is bytes =
      let same : known ≡ definition = cc in
      ap (λ (d : Definition). other_length d.kind (old_record case) bytes) same

  -- An update of an entry-sequenced data set keeps the length of the record at its place.
  pub update-keeps : definition.kind ≡ Entry → (file : FileRef) (bytes place : List ℕ)
      → case.request ≡ Update file bytes → place_changed case ≡ Some place
      → HasOldLong case place bytes
  update-keeps entry file bytes place same at =
      let held : old_record case ≡ record_held case place =
      ap (λ (add : Bool). cond add None (option_and_then (record_held case) (place_changed case)))
      (ap is_add same)
      ∙ ap (λ (o : Option (List ℕ)). option_and_then (record_held case) o) at in
      let some : is_none (old_record case) ≡ false =
      and-right (acts_on_held case.request) (is_none (old_record case))
      (unrefused-false _ NotFound none-gone) (ap acts_on_held same) in
      let old = some-old (old_record case) some in
      let kept : other_length Entry (Some old.0) bytes ≡ false =
      sym (ap (λ (o : Option (List ℕ)). other_length Entry o bytes) old.1)
      ∙ sym (ap (λ (kind : Kind). other_length kind (old_record case) bytes) entry)
      ∙ sym (changes-in (opened case) on bytes)
      ∙ sym (ap (length_changes case) same)
      ∙ unrefused-false (length_changes case case.request) LengthChanged none-changed in
      record {
        old = old.0;
        there = sym held ∙ old.1;
        long = eqb-true (length old.0) (length bytes) (not-false _ kept);
      }
