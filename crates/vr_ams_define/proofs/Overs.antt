-- The edit of a DEFINE of an alternate index or a path.
use Rattle.std.proofs.Common.{◌≡◌, ◌≢◌, ◌∙◌, ◌+◌, ◌∷◌, ℕ, Bool, true, false, List, [], Option, Some, None}
use Rattle.std.proofs.Common.{ap, arith, not, refl, slice_get, subst, sym}
use Rattle.std.specs.Prelude.{◌||◌, ◌&&◌, IsTrue}
use Rattle.std.specs.Option.{option_and_then, option_map, option_or}
use Rattle.std.proofs.lemmas.Option.{same_Some}
use Rattle.vr_types.specs.declared.geometry.Geometry.{Geometry}
use Rattle.vr_types.specs.declared.unit.PartNo.{PartNo}
use Rattle.vr_catalog.specs.Catalog.{entry_named, entry_with_part}
use Rattle.vr_catalog.specs.Define.{bad_record_size, base_of, catalog_full, define_fault, entry_by}
use Rattle.vr_catalog.specs.Define.{fault_if, few_intervals, greatest_part, is_alternate_kind}
use Rattle.vr_catalog.specs.Define.{is_path_kind, is_relative, key_past_record, name_taken}
use Rattle.vr_catalog.specs.Define.{new_alternate, new_entry, new_path, path_base, related_name}
use Rattle.vr_catalog.specs.Define.{too_many_alternates, unknown_base, wrong_base}
use Rattle.vr_catalog.specs.Entry.{is_entry}
use Rattle.vr_catalog.specs.Fault.{first_of}
use Rattle.vr_catalog.specs.Limits.{are_bad_sizes, ends_past}
use Rattle.vr_catalog.specs.declared.entry.CatEntry.{CatEntry}
use Rattle.vr_catalog.specs.declared.entry.EntryKind.{EntryKind}
use Rattle.vr_catalog.specs.declared.entry.EntryKind.TheVariants as kinds
use Rattle.vr_catalog.specs.declared.fault.CatFault.{CatFault}
use Rattle.vr_catalog.specs.declared.order.DataOptions.{DataOptions}
use Rattle.vr_catalog.specs.declared.order.Define.{Define}
use Rattle.vr_catalog.specs.declared.order.NewEntry.{NewEntry}
use Rattle.vr_catalog.specs.declared.order.NewEntry.TheVariants.{Cluster, Alternate, Path}
use Rattle.vr_attach.specs.CatalogRules.{is_cluster, is_over_by, has_sizes_by}
use Rattle.vr_edits.specs.Edits.{IsEntryThere, MayAdd}
use Rattle.vr_edits.specs.declared.edit.CatalogEdit.TheVariants.{Add}
use Rattle.vr_trace.specs.Shown.{Shown}
use Rattle.vr_trace.specs.declared.command.Failure.{Failure}
use Rattle.vr_ams_define.specs.Altered.{place_of}
use Rattle.vr_ams_define.specs.EditSteps.{IsBase, IsPlan, IsRefusedBy}
use Rattle.vr_ams_define.specs.Failures.{entry_failure, failure_on}
use Rattle.vr_ams_define.specs.Over.{base_place, early_failure, over_edit}
use Rattle.vr_ams_define.specs.Over.{over_failure}
use Rattle.vr_ams_define.specs.declared.refusal.DefineNo.{DefineNo}
use Rattle.vr_ams_define.specs.declared.target.Target.{Target}
use Rattle.vr_ams_define.proofs.Alterations.{no-some}
use Rattle.vr_ams_define.proofs.Entering.{next-apart, none-with_part}
use Rattle.vr_ams_define.proofs.NewEntries.{failure-none}
use Rattle.vr_ams_define.proofs.Targets.{after-name, entry-is, going-on, or-none, there-on}

-- ---- faults that have no cause

none-if : (cause : Bool) (fault : CatFault) → fault_if cause fault ≡ None → cause ≡ false
none-if true fault none = absurd (cc)
none-if false fault none = refl

none-or : (a b : Bool) → (a || b) ≡ false → (a ≡ false) × (b ≡ false)
none-or true b none = absurd (cc)
none-or false b none = (refl, none)

-- What no fault over a base says.
record IsFree (geometry : Geometry) (entries : List CatEntry) (order : Define) (base : CatEntry)
    : Type 0 where
  named : name_taken entries order.name ≡ None
  path : path_base (Some base) ≡ None
  wrong : wrong_base order.what (Some base) ≡ None
  key : key_past_record order.what (Some base) ≡ None
  size : bad_record_size geometry order.what ≡ None

module _ (geometry : Geometry) (entries : List CatEntry) (order : Define) where
  abbrev fault_over : Option CatEntry → Option CatFault
  fault_over base = first_of (
      unknown_base (related_name order.what) base
      ∷ path_base base
      ∷ name_taken entries order.name
      ∷ wrong_base order.what base
      ∷ key_past_record order.what base
      ∷ bad_record_size geometry order.what
      ∷ few_intervals geometry order.what base
      ∷ too_many_alternates entries order.what base
      ∷ catalog_full entries ∷ [])

  free-over : (base : CatEntry) → base_of entries order ≡ Some base
      → define_fault entries order geometry ≡ None → IsFree geometry entries order base
  free-over base is none =
      let over : fault_over (Some base) ≡ None =
      subst (λ (it : Option CatEntry). fault_over it ≡ None) is none in
      let full = or-none _ (catalog_full entries) over in
      let many = or-none _ (too_many_alternates entries order.what (Some base)) full.0 in
      let few = or-none _ (few_intervals geometry order.what (Some base)) many.0 in
      let size = or-none _ (bad_record_size geometry order.what) few.0 in
      let key = or-none _ (key_past_record order.what (Some base)) size.0 in
      let wrong = or-none _ (wrong_base order.what (Some base)) key.0 in
      let name = or-none _ (name_taken entries order.name) wrong.0 in
      let path = or-none (unknown_base (related_name order.what) (Some base))
      (path_base (Some base)) name.0 in
      record {
        named = name.1;
        path = path.1;
        wrong = wrong.1;
        key = key.1;
        size = size.1;
      }

-- ---- the new entry keeps the rules

over-cluster : (kind : EntryKind) (relative : Bool) → is_path_kind kind ≡ false
    → (is_alternate_kind kind || relative) ≡ false → (is_cluster kind && not relative) ≡ true
over-cluster kinds.Cluster true path wrong = absurd (cc)
over-cluster kinds.Cluster false path wrong = refl
over-cluster kinds.Alternate relative path wrong = absurd (cc)
over-cluster kinds.Path relative path wrong = absurd (cc)

module _ (geometry : Geometry) (entries : List CatEntry) (name : List ℕ) (base : CatEntry)
    (part : ℕ) (there : entry_with_part entries base.part.0 ≡ Some base)
    (unnamed : entry_named entries name ≡ None) (apart : entry_with_part entries part ≡ None)
    (some : part ≢ 0) (no-path : is_path_kind base.entry_kind ≡ false) where
  module _ (unique : Bool) (options : DataOptions)
      (cluster : (is_cluster base.entry_kind && not (is_relative base.kind)) ≡ true)
      (key : ends_past options.key_length options.key_offset base.maximum ≡ false)
      (size : are_bad_sizes options.average options.maximum ≡ false) where
    abbrev alternate : CatEntry
    alternate = new_alternate name part (Some base.part) unique options

    add-alternate : is_entry alternate ≡ true → MayAdd geometry entries alternate
    add-alternate is = record {
      entry_is = is;
      no_cluster = λ same. cc;
      unbuilt = refl;
      no_area = refl;
      name = unnamed;
      part = apart;
      numbered = some;
      rules = record {
        over = subst (λ (it : Option CatEntry).
            IsTrue (is_over_by kinds.Alternate alternate it)) (sym there) cluster;
        area = refl;
        sizes = subst (λ (it : Option CatEntry).
            IsTrue (has_sizes_by kinds.Alternate geometry alternate it)) (sym there)
            (rw (key, size) refl);
      };
    }

  abbrev path : CatEntry
  path = new_path name part (Some base.part)

  add-path : is_entry path ≡ true → MayAdd geometry entries path
  add-path is = record {
    entry_is = is;
    no_cluster = λ same. cc;
    unbuilt = refl;
    no_area = refl;
    name = unnamed;
    part = apart;
    numbered = some;
    rules = record {
      over = subst (λ (it : Option CatEntry). IsTrue (is_over_by kinds.Path path it))
          (sym there) (ap not no-path);
      area = refl;
      sizes = refl;
    };
  }

next-some : (n : ℕ) → n + 1 ≢ 0
next-some n none = omega (arith, none)

module _ (geometry : Geometry) (entries : List CatEntry) (name : List ℕ) (base : CatEntry)
    (there : entry_with_part entries base.part.0 ≡ Some base) where
  abbrev next : ℕ
  next = greatest_part entries + 1

  apart-next : entry_with_part entries next ≡ None
  apart-next = none-with_part next entries (next-apart entries)

  add-over : (what : NewEntry) (related : List ℕ) → related_name what ≡ Some related
      → IsFree geometry entries (record { name = name; what = what }) base
      → is_entry (entry_by what name next (Some base.part)) ≡ true
      → MayAdd geometry entries (entry_by what name next (Some base.part))
  add-over (Cluster kind spanned options) related none free is = absurd (cc)
  add-over (Alternate of unique options) related named free is =
      let path = none-if (is_path_kind base.entry_kind) _ free.path in
      add-alternate geometry entries name base next there
      (no-some (entry_named entries name) (none-if _ _ free.named)) apart-next
      (next-some (greatest_part entries)) path unique options
      (over-cluster base.entry_kind (is_relative base.kind) path (none-if _ _ free.wrong))
      (none-if _ _ free.key) (none-if _ _ free.size) is
  add-over (Path of) related named free is =
      add-path geometry entries name base next there
      (no-some (entry_named entries name) (none-if _ _ free.named)) apart-next
      (next-some (greatest_part entries)) (none-if (is_path_kind base.entry_kind) _ free.path) is

-- what a catalog doesn't refuse may be added
may-add : (geometry : Geometry) (entries : List CatEntry) (order : Define) (related : List ℕ)
    (base : CatEntry) → related_name order.what ≡ Some related
    → base_of entries order ≡ Some base → IsEntryThere entries base
    → entry_failure geometry entries order ≡ None
    → MayAdd geometry entries (new_entry entries order)
may-add geometry entries order related base named is there none =
    let both = failure-none geometry entries order none in
    let new : CatEntry =
    entry_by order.what order.name (greatest_part entries + 1) (Some base.part) in
    let same : new_entry entries order ≡ new = ap (λ (it : Option CatEntry).
    entry_by order.what order.name (greatest_part entries + 1)
    (option_map (λ (one : CatEntry). one.part) it)) is in
    subst (MayAdd geometry entries) (sym same)
    (add-over geometry entries order.name base there.there order.what related named
    (free-over geometry entries order base is both.0)
    (subst (λ (it : CatEntry). is_entry it ≡ true) same both.1))

-- ---- the plan

module _ (volumes : List Shown) (geometries : List Geometry) (order : Define)
    (volume : Option (List ℕ)) (target : Target) (base : IsBase volumes order.what target) where
  place-is : base_place volumes order ≡ Some target.place
  place-is = ap (option_and_then (place_of volumes)) base.name_is ∙ base.named.place_is

  pub over-failure-is : over_failure volumes geometries order volume
      ≡ option_or (early_failure volumes target.entry target.place order volume)
      (failure_on (slice_get volumes target.place) (slice_get geometries target.place) order)
  over-failure-is = rw (
    base.name_is,
    base.named.allowed,
    entry-is volumes base.name target base.named,
    base.named.place_is,
  ) refl

  edit-is : over_edit volumes order ≡ Some (Add (new_entry base.named.volume.catalog order))
  edit-is = rw (place-is, base.named.volume_is) refl

  module _ (one : Shown) (shape : Geometry) (one-is : slice_get volumes target.place ≡ Some one)
      (shape-is : slice_get geometries target.place ≡ Some shape) where
    same-one : base.named.volume ≡ one
    same-one = same_Some base.named.volume one (sym base.named.volume_is ∙ one-is)

    pub over-failure-on : over_failure volumes geometries order volume
        ≡ option_or (early_failure volumes target.entry target.place order volume)
        (entry_failure shape one.catalog order)
    over-failure-on = over-failure-is ∙ rw (one-is, shape-is) refl

    -- where nothing else is in the way, the catalog's first cause is
    pub refused-on : early_failure volumes target.entry target.place order volume ≡ None
        → (end : DefineNo) → IsRefusedBy (entry_failure shape one.catalog order) end
        → IsRefusedBy (over_failure volumes geometries order volume) end
    refused-on allowed end refused = subst (λ (first : Option Failure). IsRefusedBy first end)
        (sym (over-failure-on ∙ ap (λ (first : Option Failure).
        option_or first (entry_failure shape one.catalog order)) allowed)) refused

    module _ (none : entry_failure shape one.catalog order ≡ None) where
      based : base_of one.catalog order ≡ Some target.entry
      based = ap (option_and_then (λ (name : List ℕ). entry_named one.catalog name)) base.name_is
          ∙ subst (λ (it : Shown). entry_named it.catalog base.name ≡ Some target.entry) same-one
          base.named.is_on.named

      added : MayAdd shape one.catalog (new_entry one.catalog order)
      added = may-add shape one.catalog order base.name target.entry base.name_is based
          (subst (λ (it : Shown). IsEntryThere it.catalog target.entry) same-one
          (there-on volumes base.name target base.named)) none

      pub over-plan : (new : CatEntry) → new ≡ new_entry one.catalog order
          → early_failure volumes target.entry target.place order volume ≡ None
          → IsPlan volumes geometries (over_failure volumes geometries order volume)
          (base_place volumes order) (over_edit volumes order)
          (record { place = target.place; edit = Add new })
      over-plan new is allowed = record {
        allowed = over-failure-on ∙ ap (λ (first : Option Failure).
            option_or first (entry_failure shape one.catalog order)) allowed ∙ none;
        place_is = place-is;
        edit_is = edit-is ∙ ap (λ (it : Shown). Some (Add (new_entry it.catalog order))) same-one
            ∙ ap (λ (it : CatEntry). Some (Add it)) (sym is);
        there = record {
          volume = one;
          volume_is = one-is;
          going = subst (λ (it : Shown). it.stopped ≡ false) same-one
              (going-on volumes base.name target base.named);
          may = λ geometry at. subst (λ (it : Geometry). MayAdd it one.catalog new)
              (same_Some shape geometry (sym shape-is ∙ at))
              (subst (MayAdd shape one.catalog) (sym is) added);
        };
      }
