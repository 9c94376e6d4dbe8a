-- The edit of an ALTER.
use Rattle.std.proofs.Common.{◌≡◌, ◌∙◌, ℕ, Bool, true, false, List, Option, Some, None, ap, get_or}
use Rattle.std.proofs.Common.{arith, cond, if◌then◌else◌, not, refl, slice_get, subst, sym}
use Rattle.std.specs.Prelude.{is_some}
use Rattle.std.specs.List.{list_any}
use Rattle.std.specs.Option.{option_and_then, option_or, unwrap_or}
use Rattle.std.proofs.lemmas.List.Folds.{list_any_at}
use Rattle.std.proofs.lemmas.Option.{get_or_from_slice_get, same_Some, slice_get_within}
use Rattle.vr_types.specs.declared.geometry.Geometry.{Geometry}
use Rattle.vr_catalog.specs.Alter.{altered, alters_data}
use Rattle.vr_catalog.specs.Catalog.{entry_named}
use Rattle.vr_catalog.specs.Entry.{is_entry}
use Rattle.vr_catalog.specs.declared.entry.CatEntry.{CatEntry}
use Rattle.vr_catalog.specs.declared.order.Alter.{Alter as Order}
use Rattle.vr_edits.specs.Edits.{IsEntryThere, MayEdit}
use Rattle.vr_edits.specs.declared.edit.CatalogEdit.{CatalogEdit}
use Rattle.vr_edits.specs.declared.edit.CatalogEdit.TheVariants.{Alter, Rename}
use Rattle.vr_trace.specs.Shown.{Shown, has_name, is_known}
use Rattle.vr_trace.specs.declared.command.Failure.{Failure}
use Rattle.vr_ams_define.specs.Altered.{alter_edit, alter_failure, altered_failure, early_failure}
use Rattle.vr_ams_define.specs.Altered.{edit_of, entry_of_name, given_failure, is_path_altered}
use Rattle.vr_ams_define.specs.Altered.{name_failure, new_name_failure, place_of}
use Rattle.vr_ams_define.specs.EditSteps.{IsNamed, IsPlan}
use Rattle.vr_ams_define.specs.declared.target.Target.{Target}
use Rattle.vr_ams_define.proofs.Targets.{after-name, entry-is, going-on, no-cause, not-false}
use Rattle.vr_ams_define.proofs.Targets.{or-none, there-on}

-- ---- a name that no volume has

pub no-some : {T : Type 0} (it : Option T) → is_some it ≡ false → it ≡ None
no-some None none = refl
no-some (Some x) none = absurd (cc)

not-both : (b : Bool) → b ≡ true → b ≡ false → ⊥
not-both b holds fails = cc

none-passes : {X : Type 0} (p : X → Bool) (xs : List X) (i : ℕ) (x : X)
    → slice_get xs i ≡ Some x → list_any p xs ≡ false → p x ≡ false
none-passes {X} p xs i x at none = by (p x) refl
  where
    by : (b : Bool) → p x ≡ b → b ≡ false
    by false is = refl
    by true is = absurd (not-both (list_any p xs)
        (list_any_at p xs i x (slice_get_within xs i x at)
        (subst (λ (it : X). p it ≡ true) (sym (get_or_from_slice_get xs i x x at)) is)) none)

-- none of a volume's entries has it
pub unnamed : (volumes : List Shown) (place : ℕ) (volume : Shown) (name : List ℕ)
    → slice_get volumes place ≡ Some volume → is_known volumes name ≡ false
    → entry_named volume.catalog name ≡ None
unnamed volumes place volume name at none = no-some (entry_named volume.catalog name)
    (none-passes (λ (one : Shown). has_name one name) volumes place volume at none)

-- ---- what the entry is to be

-- without another name it differs in FREESPACE and SHAREOPTIONS alone
altered-alike : (entry : CatEntry) (order : Order) → order.new_name ≡ None
    → altered entry order ≡ record entry {
      free_space = (altered entry order).free_space;
      share_options = (altered entry order).share_options;
    }
altered-alike entry order none = ap (λ (name : Option (List ℕ)). record (altered entry order) {
  name = unwrap_or name entry.name;
}) none

module _ (volumes : List Shown) (geometry : Geometry) (order : Order) (target : Target)
    (named : IsNamed volumes order.name target)
    (allowed : given_failure volumes (Some target.entry) order ≡ None) where
  abbrev entry : CatEntry
  entry = target.entry

  abbrev new : CatEntry
  new = altered entry order

  abbrev entries : List CatEntry
  entries = named.volume.catalog

  abbrev parts : (early_failure volumes entry order ≡ None) × (altered_failure entry order ≡ None)
  parts = or-none (early_failure volumes entry order) (altered_failure entry order) allowed

  spelled : is_entry new ≡ true
  spelled = not-false (is_entry new) (no-cause _ _ parts.1)

  new-unnamed : (name : List ℕ) → order.new_name ≡ Some name
      → entry_named entries name ≡ None
  new-unnamed name given = unnamed volumes target.place named.volume name named.volume_is
      (no-cause _ _ (subst (λ (it : Option (List ℕ)). new_name_failure volumes it ≡ None) given
      (or-none _ (new_name_failure volumes order.new_name) parts.0).1))

  renamed : (name : List ℕ) → order.new_name ≡ Some name
      → MayEdit geometry entries (Rename entry new)
  renamed name given = record {
    there = there-on volumes order.name target named;
    alike = refl;
    entry_is = spelled;
    name = subst (λ (it : Option (List ℕ)). entry_named entries (unwrap_or it entry.name) ≡ None)
        (sym given) (new-unnamed name given);
  }

  changed : order.new_name ≡ None → MayEdit geometry entries (Alter entry new)
  changed none = record {
    there = there-on volumes order.name target named;
    alike = altered-alike entry order none;
    entry_is = spelled;
  }

  may-data : (b : Bool) → order.new_name ≡ None → (edit : CatalogEdit)
      → (if b then Some (Alter entry new) else None) ≡ Some edit
      → MayEdit geometry entries edit
  may-data true none edit is = subst (MayEdit geometry entries)
      (same_Some (Alter entry new) edit is) (changed none)
  may-data false none edit is = absurd (cc)

  may-by : (given : Option (List ℕ)) → order.new_name ≡ given → (edit : CatalogEdit)
      → edit_of given entry order ≡ Some edit → MayEdit geometry entries edit
  may-by (Some name) given edit is = subst (MayEdit geometry entries)
      (same_Some (Rename entry new) edit is) (renamed name given)
  may-by None none edit is = may-data (alters_data order) none edit is

  -- the edit may be made
  pub may-alter : (edit : CatalogEdit) → edit_of order.new_name entry order ≡ Some edit
      → MayEdit geometry entries edit
  may-alter edit is = may-by order.new_name refl edit is

-- ---- the plan

module _ (volumes : List Shown) (order : Order) (target : Target)
    (named : IsNamed volumes order.name target) where
  pub alter-failure-is : alter_failure volumes order
      ≡ given_failure volumes (Some target.entry) order
  alter-failure-is =
      after-name volumes order.name target named
      (given_failure volumes (entry_of_name volumes order.name) order)
      ∙ ap (λ (entry : Option CatEntry). given_failure volumes entry order)
      (entry-is volumes order.name target named)

  pub alter-edit-is : alter_edit volumes order ≡ edit_of order.new_name target.entry order
  alter-edit-is = ap
      (option_and_then (λ (entry : CatEntry). edit_of order.new_name entry order))
      (entry-is volumes order.name target named)

  pub alter-plan : (geometries : List Geometry) (edit : CatalogEdit)
      → given_failure volumes (Some target.entry) order ≡ None
      → edit_of order.new_name target.entry order ≡ Some edit
      → IsPlan volumes geometries (alter_failure volumes order) (place_of volumes order.name)
      (alter_edit volumes order) (record { place = target.place; edit = edit })
  alter-plan geometries edit allowed is = record {
    allowed = alter-failure-is ∙ allowed;
    place_is = named.place_is;
    edit_is = alter-edit-is ∙ is;
    there = record {
      volume = named.volume;
      volume_is = named.volume_is;
      going = going-on volumes order.name target named;
      may = λ geometry at. may-alter volumes geometry order target named allowed edit is;
    };
  }
