-- The edit of one name of a DELETE.
use Rattle.std.proofs.Common.{◌≡◌, ◌≢◌, ◌∙◌, ◌≤◌, ◌∷◌, ℕ, Bool, true, false, List, [], Option, Some}
use Rattle.std.proofs.Common.{None, All, ap, arith, inl, inr, length, map, not, refl, slice_get}
use Rattle.std.proofs.Common.{subst, sym, Result, Ok, Err, IfOk, IfErr}
use Rattle.std.specs.Prelude.{◌||◌, nat_eq, nat_le}
use Rattle.std.specs.List.{AllByRecursion, IsDistinct, cons_option, count_by, filter_map, list_all}
use Rattle.std.specs.Option.{option_map, option_map_or, option_or}
use Rattle.std.proofs.lemmas.Bool.{cases_Bool}
use Rattle.std.proofs.lemmas.Bool.Decides.{nat_tests}
use Rattle.std.proofs.lemmas.List.Elements.{All-cons, All-head, All-nil, All-tail, All-weaker}
use Rattle.std.proofs.lemmas.List.Sums.{AllPass-from_list_all}
use Rattle.std.proofs.lemmas.Option.{same_Some}
use Rattle.vr_types.specs.declared.geometry.Geometry.{Geometry}
use Rattle.vr_catalog.specs.Catalog.{entry_named, parts_in}
use Rattle.vr_catalog.specs.Delete.{delete_changes, delete_fault}
use Rattle.vr_catalog.specs.Fault.{IsCause}
use Rattle.vr_catalog.specs.declared.changes.Change.{Change}
use Rattle.vr_catalog.specs.declared.changes.Change.TheVariants.{Add, Erase, Update}
use Rattle.vr_catalog.specs.declared.entry.CatEntry.{CatEntry}
use Rattle.vr_catalog.specs.declared.entry.EntryKind.{EntryKind}
use Rattle.vr_catalog.specs.declared.fault.CatFault.{CatFault}
use Rattle.vr_catalog.specs.declared.fault.CatFault.TheVariants as faults
use Rattle.vr_edits.specs.Edits.{IsEntryThere, MayDelete, is_cluster_entry, is_of_part, is_of_some}
use Rattle.vr_edits.specs.Edits.{is_over_some}
use Rattle.vr_edits.specs.declared.edit.CatalogEdit.{CatalogEdit}
use Rattle.vr_edits.specs.declared.edit.CatalogEdit.TheVariants.{Delete}
use Rattle.vr_trace.specs.Shown.{Shown}
use Rattle.vr_trace.specs.declared.command.Failure.{Failure}
use Rattle.vr_ams_define.specs.Altered.{is_alone, is_sound, place_of}
use Rattle.vr_ams_define.specs.Answers.{Answering}
use Rattle.vr_ams_define.specs.Asked.{IsEditedBy}
use Rattle.vr_ams_define.specs.Deleted.{IsOneDeleted, edit_lines, lines_by}
use Rattle.vr_ams_define.specs.Deleted.{allows, delete_edit, delete_failure, entry_gone, gone_failure}
use Rattle.vr_ams_define.specs.Deleted.{gone_with, goes_too, kind_failure, may_go, most_gone}
use Rattle.vr_ams_define.specs.EditSteps.{IsCarried, IsNamed, IsPlan, IsPlanned, IsRefusedBy, planned_lines}
use Rattle.vr_ams_define.specs.Failures.{catalog_failure}
use Rattle.vr_ams_define.specs.Steps.{no_by}
use Rattle.vr_ams_define.specs.declared.carrying.Planned.{Planned}
use Rattle.vr_ams_define.specs.declared.refusal.DefineNo.{DefineNo}
use Rattle.vr_ams_define.specs.declared.refusal.DefineNo.TheVariants.{Refused, Ended}
use Rattle.vr_ams_define.specs.declared.target.Target.{Target}
use Rattle.vr_ams_define.proofs.Named.{both, count-after, count-first, one-is, same-number, sound-there}
use Rattle.vr_ams_define.proofs.Plans.{edited-by}
use Rattle.vr_ams_define.proofs.Targets.{catalog-is, entry-is, going-on}

-- ---- what goes may go

-- one more that goes, if the catalog has it
one-more : (entries : List CatEntry) (name : List ℕ) (rest : List CatEntry)
    → (list_all (is_sound entries) rest ≡ true → All (IsEntryThere entries) rest)
    → (found : Option CatEntry) → entry_named entries name ≡ found
    → list_all (is_sound entries) (cons_option found rest) ≡ true
    → All (IsEntryThere entries) (cons_option found rest)
one-more entries name rest more None is sound = more sound
one-more entries name rest more (Some entry) is sound =
    let parts = both (is_sound entries entry) (list_all (is_sound entries) rest) sound in
    All-cons (IsEntryThere entries) entry rest (sound-there entries name entry is parts.0)
    (more parts.1)

-- each that goes is one of the catalog
all-there : (entries : List CatEntry) (changes : List Change)
    → list_all (is_sound entries) (filter_map (entry_gone entries) changes) ≡ true
    → All (IsEntryThere entries) (filter_map (entry_gone entries) changes)
all-there entries [] sound = All-nil (IsEntryThere entries)
all-there entries (Add entry ∷ changes) sound = all-there entries changes sound
all-there entries (Update entry ∷ changes) sound = all-there entries changes sound
all-there entries (Erase name ∷ changes) sound =
    one-more entries name (filter_map (entry_gone entries) changes) (all-there entries changes)
    (entry_named entries name) refl sound

some-gone : (gone : List CatEntry) → nat_le 1 (length gone) ≡ true → gone ≢ []
some-gone [] some none = absurd (cc)
some-gone (entry ∷ gone) some none = cc

-- no other entry has the part of one that is alone
none-of : (a : CatEntry) (rest : List CatEntry) → count_by (is_of_part a) rest ≤ 0
    → AllByRecursion (λ part. nat_eq a.part.0 part ≡ false) (parts_in rest)
none-of a [] none = tt
none-of a (b ∷ rest) none = elim (cases_Bool (is_of_part a b)) [
  | inl of ↦ absurd (omega (arith, count-first (is_of_part a) b rest of, none))
  | inr other ↦ (
    grind (arith, nat_tests, other),
    none-of a rest (omega (arith, count-after (is_of_part a) b rest other, none)),
  )
]

-- an entry less counts no more
count-less : {X : Type 0} (p : X → Bool) (x : X) (xs : List X) (n : ℕ) → count_by p (x ∷ xs) ≤ n
    → count_by p xs ≤ n
count-less p x xs n most = elim (cases_Bool (p x)) [
  | inl passes ↦ omega (arith, count-first p x xs passes, most)
  | inr fails ↦ omega (arith, count-after p x xs fails, most)
]

abbrev IsOnce : List CatEntry → CatEntry → Type 0
IsOnce gone entry = count_by (is_of_part entry) gone ≤ 1

once-apart : (gone : List CatEntry) → All (IsOnce gone) gone → IsDistinct nat_eq (parts_in gone)
unfolding IsDistinct
once-apart [] once = tt
once-apart (a ∷ rest) once =
    let first = All-head (IsOnce (a ∷ rest)) a rest once in (
      none-of a rest
          (omega (arith, count-first (is_of_part a) a rest (same-number a.part.0), first)),
      once-apart rest (All-weaker (IsOnce (a ∷ rest)) (IsOnce rest)
          (λ entry most. count-less (is_of_part entry) a rest 1 most) rest
          (All-tail (IsOnce (a ∷ rest)) a rest once)),
    )

parts-apart : (gone : List CatEntry) → list_all (is_alone gone) gone ≡ true
    → IsDistinct nat_eq (parts_in gone)
parts-apart gone alone = once-apart gone
    (All-weaker (λ (entry : CatEntry). is_alone gone entry ≡ true) (IsOnce gone)
    (λ entry is. let one = one-is (count_by (is_of_part entry) gone) is in omega (arith, one)) gone
    (AllPass-from_list_all (is_alone gone) gone alone))

or-else : (a b : Bool) → (not a || b) ≡ true → a ≡ true → b ≡ true
or-else true b is holds = is
or-else false b is holds = absurd (cc)

le-from : (a b : ℕ) → nat_le a b ≡ true → a ≤ b
le-from a b is = grind (arith, nat_tests, is)

pub may-delete : (entries : List CatEntry) (name : List ℕ)
    → may_go entries (gone_with entries name) ≡ true
    → MayDelete entries (gone_with entries name)
may-delete entries name is =
    let gone : List CatEntry = gone_with entries name in
    let closed = both _ (list_all (goes_too gone) entries) is in
    let alone = both _ (list_all (is_alone gone) gone) closed.0 in
    let sound = both _ (list_all (is_sound entries) gone) alone.0 in
    let cluster = both _ (nat_le (count_by is_cluster_entry gone) 1) sound.0 in
    let few = both (nat_le 1 (length gone)) (nat_le (length gone) most_gone) cluster.0 in
    let most = le-from (length gone) most_gone few.1 in
    record {
      some = some-gone gone few.0;
      few = omega (arith, most);
      there = all-there entries (delete_changes entries (name ∷ [])) sound.1;
      apart = parts-apart gone alone.1;
      cluster = le-from (count_by is_cluster_entry gone) 1 cluster.1;
      closed = All-weaker (λ (other : CatEntry). goes_too gone other ≡ true)
          (λ (other : CatEntry). is_over_some gone other ≡ true → is_of_some gone other ≡ true)
          (λ other is. or-else (is_over_some gone other) (is_of_some gone other) is) entries
          (AllPass-from_list_all (goes_too gone) entries closed.1);
    }

-- ---- the plan

not-some : (fault : CatFault) → None ≡ Some fault → ⊥
not-some fault same = cc

module _ (volumes : List Shown) (name : List ℕ) (kind : Option EntryKind) (target : Target)
    (named : IsNamed volumes name target) where
  abbrev entries : List CatEntry
  entries = named.volume.catalog

  pub delete-failure-is : delete_failure volumes kind name
      ≡ option_or (kind_failure kind (Some target.entry)) (gone_failure (Some entries) name)
  delete-failure-is = rw (
    named.allowed,
    entry-is volumes name target named,
    catalog-is volumes name target named,
  ) refl

  edit-is : delete_edit volumes name ≡ Some (Delete (gone_with entries name))
  edit-is = ap
      (option_map (λ (them : List CatEntry). Delete (gone_with them name)))
      (catalog-is volumes name target named)

  module _ (one : Shown) (one-is : slice_get volumes target.place ≡ Some one)
      (catalog : List CatEntry) (catalog-one : catalog ≡ one.catalog) where
    same-one : named.volume ≡ one
    same-one = same_Some named.volume one (sym named.volume_is ∙ one-is)

    same-catalog : entries ≡ catalog
    same-catalog = ap (λ (it : Shown). it.catalog) same-one ∙ sym catalog-one

    -- why it may be refused
    delete-failure-on : delete_failure volumes kind name
        ≡ option_or (kind_failure kind (Some target.entry)) (gone_failure (Some catalog) name)
    delete-failure-on = delete-failure-is ∙ ap (λ (them : List CatEntry).
        option_or (kind_failure kind (Some target.entry)) (gone_failure (Some them) name))
        same-catalog

    there-named : entry_named catalog name ≡ Some target.entry
    there-named = subst (λ (them : List CatEntry). entry_named them name ≡ Some target.entry)
        same-catalog named.is_on.named

    no-fault : delete_fault catalog (name ∷ []) ≡ None
    no-fault = rw there-named refl

    -- the name is there, so nothing but memory is in the way
    pub found-there : (first : Option Failure) (fault : CatFault)
        → IsCause (delete_fault catalog (name ∷ [])) fault → IsRefusedBy first (no_by fault)
    found-there first fault cause = elim cause [
      | inl memory ↦ subst (λ (it : CatFault). IsRefusedBy first (no_by it)) (sym memory) tt
      | inr is ↦ absurd (not-some fault (sym no-fault ∙ is))
    ]

    module _ (gone : List CatEntry) (allowed : allows kind target.entry.entry_kind ≡ true)
        (is : gone ≡ gone_with catalog name) where
      may-all : (may : Bool) → may_go catalog gone ≡ may
          → may_go catalog (gone_with catalog name) ≡ may
      may-all may holds =
          subst (λ (them : List CatEntry). may_go catalog them ≡ may) is holds

      -- too many go
      pub kept : may_go catalog gone ≡ false
          → delete_failure volumes kind name ≡ Some (catalog_failure faults.WrongKind)
      kept fails = delete-failure-on ∙ rw (allowed, may-all false fails) refl

      pub delete-plan : (geometries : List Geometry) → may_go catalog gone ≡ true
          → IsPlan volumes geometries (delete_failure volumes kind name) (place_of volumes name)
          (delete_edit volumes name) (record { place = target.place; edit = Delete gone })
      delete-plan geometries may = record {
        allowed = delete-failure-on ∙ rw (allowed, may-all true may) refl;
        place_is = named.place_is;
        edit_is = edit-is
            ∙ ap (λ (them : List CatEntry). Some (Delete (gone_with them name))) same-catalog
            ∙ ap (λ (them : List CatEntry). Some (Delete them)) (sym is);
        there = record {
          volume = named.volume;
          volume_is = named.volume_is;
          going = going-on volumes name target named;
          may = λ geometry at. subst (λ (them : List CatEntry). MayDelete them gone)
              (sym same-catalog) (subst (MayDelete catalog) (sym is)
              (may-delete catalog name (may-all true may)));
        };
      }

-- ---- what the name came to

module _ {V : Type 0} (shown : V → Shown) (geometries : List Geometry) (answers : Answering V)
    (line : ℕ) (kind : Option EntryKind) (name : List ℕ) (old new : List V)
    (plan : Result (Option Planned) DefineNo)
    (planned : IfOk plan (IsPlanned (map shown old) geometries
    (delete_failure (map shown old) kind name) (place_of (map shown old) name)
    (delete_edit (map shown old) name)))
    (refused : IfErr plan (IsRefusedBy (delete_failure (map shown old) kind name)))
    (why : Option Failure) (carried : IsCarried shown answers line plan old new why) where
  abbrev edit : Option CatalogEdit
  edit = delete_edit (map shown old) name

  lines-planned : (it : Result (Option Planned) DefineNo)
      → IfOk it (IsPlanned (map shown old) geometries (delete_failure (map shown old) kind name)
      (place_of (map shown old) name) edit)
      → IsCarried shown answers line it old new why
      → lines_by why (planned_lines it) ≡ lines_by why (option_map_or edit_lines edit [])
  lines-planned (Ok (Some it)) done ran = ap (λ (one : Option CatalogEdit).
      lines_by why (option_map_or edit_lines one [])) (sym done.edit_is)
  lines-planned (Ok None) done ran = ap (λ (one : Option CatalogEdit).
      lines_by why (option_map_or edit_lines one [])) (sym done.1)
  lines-planned (Err (Refused failure)) done ran = subst (λ (it : Option Failure).
      lines_by it [] ≡ lines_by it (option_map_or edit_lines edit [])) (sym ran.0) refl
  lines-planned (Err (Ended end)) done ran = absurd ran

  pub name-ended : (told : Option Failure) (lines ended : List ℕ) → told ≡ why
      → lines ≡ planned_lines plan → ended ≡ lines_by why lines
      → IsOneDeleted shown answers line kind name old new told ended
  name-ended told lines ended told-is lines-are ended-is = record {
    ended = subst (λ (it : Option Failure). IsEditedBy shown answers line
        (delete_failure (map shown old) kind name) (place_of (map shown old) name) edit old new
        it) (sym told-is) (edited-by shown geometries answers line
        (delete_failure (map shown old) kind name) (place_of (map shown old) name) edit old new
        why plan planned refused carried);
    lines_are = ended-is ∙ ap (lines_by why) lines-are ∙ lines-planned plan planned carried
        ∙ ap (λ (it : Option Failure). lines_by it (option_map_or edit_lines edit []))
        (sym told-is);
  }
