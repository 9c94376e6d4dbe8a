-- The rules of a catalog are kept by an edit.
use Rattle.std.proofs.Common.{◌≡◌, ◌≢◌, ◌∙◌, ◌==◌, ℕ, Bool, true, false, IsTrue, cond, not, List}
use Rattle.std.proofs.Common.{[], ◌∷◌, ◌||◌, Option, Some, None, refl, sym, ap, subst, arith, All}
use Rattle.std.proofs.Common.{nat_eq, true≢false}
use Rattle.std.specs.Prelude.{⊤, option_map}
use Rattle.std.specs.List.{AllByRecursion, IsDistinct, list_any}
use Rattle.std.proofs.lemmas.Bool.Decides.{nat_tests}
use Rattle.std.proofs.lemmas.List.Elements.{All-from_recursion, All-head, All-tail}
use Rattle.std.proofs.lemmas.Option.{none-some}
use Rattle.vr_types.specs.declared.geometry.Geometry.{Geometry}
use Rattle.vr_types.specs.declared.unit.PartNo.{PartNo}
use Rattle.vr_catalog.specs.Catalog.{entry_with_part, is_over}
use Rattle.vr_catalog.specs.Entry.{is_entry}
use Rattle.vr_catalog.specs.declared.entry.CatEntry.{CatEntry}
use Rattle.vr_catalog.specs.declared.entry.EntryKind.{EntryKind}
use Rattle.vr_catalog.specs.declared.entry.EntryKind.TheVariants.{Alternate, Cluster, Path}
use Rattle.vr_attach.specs.CatalogRules.{IsEntryOf, has_area_by, has_sizes_by, is_over_by}
use Rattle.vr_attach.specs.CatalogRules.{related_in}
use Rattle.vr_edits.specs.Edits.{IsInOrder, IsServedEntry, MayEdit}
use Rattle.vr_edits.specs.Edits.{MayRename, altered_by, edited, is_of_part, is_of_some}
use Rattle.vr_edits.specs.Edits.{is_over_some, with_altered, with_entry, without_entries}
use Rattle.vr_edits.specs.Edits.{without_entry}
use Rattle.vr_edits.specs.declared.edit.CatalogEdit.{CatalogEdit}
use Rattle.vr_edits.specs.declared.edit.CatalogEdit.TheVariants.{Add, Alter, Delete, Rename}
use Rattle.vr_edits.proofs.Parts.{all-altered, all-found, all-with, all-without}
use Rattle.vr_edits.proofs.Parts.{all-without-some, distinct-with, distinct-without}
use Rattle.vr_edits.proofs.Parts.{distinct-without-some, has_part, other-parts, part-altered}
use Rattle.vr_edits.proofs.Parts.{part-with, part-without, part-without-some, parts-altered}
use Rattle.vr_edits.proofs.Parts.{same-number, tests-same}

pub by-recursion : (P : CatEntry → Type 0) (entries : List CatEntry) → All P entries
    → AllByRecursion P entries
by-recursion P [] all = tt
by-recursion P (entry ∷ entries) all =
    (All-head P entry entries all, by-recursion P entries (All-tail P entry entries all))

-- ---- entries that are alike

-- the same but for a name, FREESPACE and SHAREOPTIONS
abbrev pub IsAlike : CatEntry → CatEntry → Type 0
IsAlike entry other = other ≡ record entry {
  name = other.name;
  free_space = other.free_space;
  share_options = other.share_options;
}

-- an entry over the first may be over the other as well
abbrev pub IsLike : Option CatEntry → Option CatEntry → Type 0
IsLike None after = ⊤
IsLike (Some base) None = ⊥
IsLike (Some base) (Some other) = IsAlike base other

pub same-like : (base : Option CatEntry) → IsLike base base
same-like None = tt
same-like (Some base) = refl

over-kept : (kind : EntryKind) (entry : CatEntry) (before after : Option CatEntry)
    → IsLike before after → IsTrue (is_over_by kind entry before)
    → IsTrue (is_over_by kind entry after)
over-kept Cluster entry before after like is = is
over-kept Alternate entry None after like is = absurd (true≢false (sym is))
over-kept Alternate entry (Some base) None like is = absurd like
over-kept Alternate entry (Some base) (Some other) like is =
    subst (λ (one : CatEntry). IsTrue (is_over_by Alternate entry (Some one))) (sym like) is
over-kept Path entry None after like is = absurd (true≢false (sym is))
over-kept Path entry (Some base) None like is = absurd like
over-kept Path entry (Some base) (Some other) like is =
    subst (λ (one : CatEntry). IsTrue (is_over_by Path entry (Some one))) (sym like) is

sizes-kept : (kind : EntryKind) (geometry : Geometry) (entry : CatEntry)
    (before after : Option CatEntry) → IsLike before after
    → IsTrue (is_over_by kind entry before) → IsTrue (has_sizes_by kind geometry entry before)
    → IsTrue (has_sizes_by kind geometry entry after)
sizes-kept Cluster geometry entry before after like over is = is
sizes-kept Alternate geometry entry None after like over is = absurd (true≢false (sym over))
sizes-kept Alternate geometry entry (Some base) None like over is = absurd like
sizes-kept Alternate geometry entry (Some base) (Some other) like over is =
    subst (λ (one : CatEntry). IsTrue (has_sizes_by Alternate geometry entry (Some one)))
    (sym like) is
sizes-kept Path geometry entry before after like over is = refl

-- the entry that it is over is one like it
related-like : (before after : List CatEntry) (entry : CatEntry)
    → ((part : PartNo) → entry.related ≡ Some part
    → IsLike (entry_with_part before part.0) (entry_with_part after part.0))
    → IsLike (related_in before entry) (related_in after entry)
related-like before after entry likes = by-related entry.related refl
  where
    by-related : (related : Option PartNo) → entry.related ≡ related
        → IsLike (related_in before entry) (related_in after entry)
    by-related None is = rw is tt
    by-related (Some part) is = rw is (likes part is)

-- so an entry keeps the rules beside the others
pub rules-kept : (geometry : Geometry) (before after : List CatEntry) (entry : CatEntry)
    → ((part : PartNo) → entry.related ≡ Some part
    → IsLike (entry_with_part before part.0) (entry_with_part after part.0))
    → IsEntryOf geometry before entry → IsEntryOf geometry after entry
rules-kept geometry before after entry likes is =
    let like = related-like before after entry likes in
    record {
      over = over-kept entry.entry_kind entry (related_in before entry) (related_in after entry)
          like is.over;
      area = is.area;
      sizes = sizes-kept entry.entry_kind geometry entry (related_in before entry)
          (related_in after entry) like is.over is.sizes;
    }

-- and so does one that is alike
pub alike-rules : (geometry : Geometry) (entries : List CatEntry) (entry other : CatEntry)
    → IsAlike entry other → IsEntryOf geometry entries entry → IsEntryOf geometry entries other
alike-rules geometry entries entry other alike is =
    subst (IsEntryOf geometry entries) (sym alike) (record {
      over = over-is entry.entry_kind (related_in entries entry) is.over;
      area = area-is entry.entry_kind is.area;
      sizes = sizes-is entry.entry_kind (related_in entries entry) is.sizes;
    })
  where
    one : CatEntry
    one = record entry {
      name = other.name;
      free_space = other.free_space;
      share_options = other.share_options;
    }

    over-is : (kind : EntryKind) (base : Option CatEntry) → IsTrue (is_over_by kind entry base)
        → IsTrue (is_over_by kind one base)
    over-is Cluster base over = over
    over-is Alternate base over = over
    over-is Path base over = over

    area-is : (kind : EntryKind) → IsTrue (has_area_by kind entry) → IsTrue (has_area_by kind one)
    area-is Cluster area = area
    area-is Alternate area = area
    area-is Path area = area

    sizes-is : (kind : EntryKind) (base : Option CatEntry)
        → IsTrue (has_sizes_by kind geometry entry base)
        → IsTrue (has_sizes_by kind geometry one base)
    sizes-is Cluster base sizes = sizes
    sizes-is Alternate None sizes = sizes
    sizes-is Alternate (Some base) sizes = sizes
    sizes-is Path base sizes = sizes

-- ---- each edit

-- a part number that isn't the catalog's
pub numbered : (entry : CatEntry) → IsTrue (is_entry entry) → entry.part.0 ≢ 0
unfolding is_entry
numbered entry is zero = grind (arith, nat_tests, is, zero)

-- with one altered
pub altered-alike : (new other : CatEntry) → IsAlike other (altered_by new other)
altered-alike new other = by-test (is_of_part new other)
  where
    one : CatEntry
    one = record other {
      free_space = new.free_space;
      share_options = new.share_options;
    }

    by-test : (b : Bool) → IsAlike other (cond b one other)
    by-test true = refl
    by-test false = refl

altered-like : (new : CatEntry) (entries : List CatEntry) (part : ℕ)
    → IsLike (entry_with_part entries part) (entry_with_part (with_altered new entries) part)
altered-like new entries part =
    subst (IsLike (entry_with_part entries part)) (sym (part-altered new entries part))
    (of (entry_with_part entries part))
  where
    of : (base : Option CatEntry) → IsLike base (option_map (altered_by new) base)
    of None = tt
    of (Some base) = altered-alike new base

altered-order : (geometry : Geometry) (entries : List CatEntry) (new : CatEntry)
    → IsInOrder geometry entries → IsInOrder geometry (with_altered new entries)
altered-order geometry entries new order = record {
  parts = subst (λ (parts : List ℕ). IsDistinct nat_eq (0 ∷ parts))
      (sym (parts-altered new entries)) order.parts;
  each = All-from_recursion (IsEntryOf geometry after) after
      (all-altered (IsEntryOf geometry after) new
      (λ other is. alike-rules geometry after other (altered_by new other)
      (altered-alike new other) is) entries
      (kept entries (by-recursion (IsEntryOf geometry entries) entries order.each)));
}
  where
    after : List CatEntry
    after = with_altered new entries

    kept : (these : List CatEntry) → AllByRecursion (IsEntryOf geometry entries) these
        → AllByRecursion (IsEntryOf geometry after) these
    kept [] all = tt
    kept (entry ∷ these) all = (
      rules-kept geometry entries after entry (λ part is. altered-like new entries part.0) all.0,
      kept these all.1,
    )

-- with one more: a cluster, too
added-like : (new : CatEntry) (entries : List CatEntry)
    → entry_with_part entries new.part.0 ≡ None → (part : ℕ)
    → IsLike (entry_with_part entries part) (entry_with_part (with_entry new entries) part)
added-like new entries none part =
    subst (IsLike (entry_with_part entries part))
    (sym (part-with new entries part (other-parts new.part.0 entries none)))
    (by-test (new.part.0 == part) refl)
  where
    by-found : (base : Option CatEntry) → base ≡ None → IsLike base (Some new)
    by-found None is = tt
    by-found (Some base) is = absurd (none-some base (sym is))

    by-test : (b : Bool) → (new.part.0 == part) ≡ b
        → IsLike (entry_with_part entries part) (cond b (Some new) (entry_with_part entries part))
    by-test true is = by-found (entry_with_part entries part)
        (ap (entry_with_part entries) (sym (same-number new.part.0 part is)) ∙ none)
    by-test false is = same-like (entry_with_part entries part)

pub added-order : (geometry : Geometry) (entries : List CatEntry) (new : CatEntry)
    → new.part.0 ≢ 0 → entry_with_part entries new.part.0 ≡ None
    → IsEntryOf geometry entries new → IsInOrder geometry entries
    → IsInOrder geometry (with_entry new entries)
added-order geometry entries new some none rules order = record {
  parts = distinct-with new entries some (other-parts new.part.0 entries none) order.parts;
  each = All-from_recursion (IsEntryOf geometry after) after
      (all-with (IsEntryOf geometry after) new entries
      (rules-kept geometry entries after new (λ part is. added-like new entries none part.0) rules)
      (kept entries (by-recursion (IsEntryOf geometry entries) entries order.each)));
}
  where
    after : List CatEntry
    after = with_entry new entries

    kept : (these : List CatEntry) → AllByRecursion (IsEntryOf geometry entries) these
        → AllByRecursion (IsEntryOf geometry after) these
    kept [] all = tt
    kept (entry ∷ these) all = (
      rules-kept geometry entries after entry (λ part is. added-like new entries none part.0) all.0,
      kept these all.1,
    )

-- without several: what is left isn't of their parts,
left-one : (entry : CatEntry) (entries : List CatEntry)
    → AllByRecursion (λ (other : CatEntry). is_of_part entry other ≡ false)
    (without_entry entry entries)
left-one entry [] = tt
left-one entry (other ∷ entries) =
    by-test (is_of_part entry other) refl (left-one entry entries)
  where
    by-test : (b : Bool) → is_of_part entry other ≡ b
        → AllByRecursion (λ (one : CatEntry). is_of_part entry one ≡ false)
        (without_entry entry entries)
        → AllByRecursion (λ (one : CatEntry). is_of_part entry one ≡ false)
        (cond (not b) (other ∷ without_entry entry entries) (without_entry entry entries))
    by-test true is rest = rest
    by-test false is rest = (is, rest)

both-false : (entry : CatEntry) (gone entries : List CatEntry)
    → AllByRecursion (λ (other : CatEntry). is_of_part entry other ≡ false) entries
    → AllByRecursion (λ (other : CatEntry). is_of_some gone other ≡ false) entries
    → AllByRecursion (λ (other : CatEntry). is_of_some (entry ∷ gone) other ≡ false) entries
both-false entry gone [] one all = tt
both-false entry gone (other ∷ entries) one all = (
  ap (λ (b : Bool). b || is_of_some gone other) one.0 ∙ all.0,
  both-false entry gone entries one.1 all.1,
)

left-some : (gone entries : List CatEntry)
    → AllByRecursion (λ (other : CatEntry). is_of_some gone other ≡ false)
    (without_entries gone entries)
left-some [] [] = tt
left-some [] (entry ∷ entries) = (refl, left-some [] entries)
left-some (entry ∷ gone) entries =
    both-false entry gone (without_entries gone (without_entry entry entries))
    (all-without-some (λ (other : CatEntry). is_of_part entry other ≡ false) gone
    (without_entry entry entries) (left-one entry entries))
    (left-some gone (without_entry entry entries))

-- and stands over none of them
over-none : (gone : List CatEntry) (other : CatEntry) (part : PartNo) → other.related ≡ Some part
    → is_over_some gone other ≡ false → list_any (has_part part.0) gone ≡ false
over-none [] other part is none = refl
over-none (entry ∷ gone) other part is none =
    by-tests (is_over other.related entry.part.0) (entry.part.0 == part.0) refl refl
    (over-none gone other part is) none
  where
    by-tests : (over here : Bool) → is_over other.related entry.part.0 ≡ over
        → (entry.part.0 == part.0) ≡ here
        → (is_over_some gone other ≡ false → list_any (has_part part.0) gone ≡ false)
        → (over || is_over_some gone other) ≡ false
        → (here || list_any (has_part part.0) gone) ≡ false
    by-tests true here over test rest is-none = absurd (true≢false is-none)
    by-tests false true over test rest is-none = absurd (true≢false
        (sym (tests-same part.0 entry.part.0 (sym (same-number entry.part.0 part.0 test)))
        ∙ sym (ap (λ (o : Option PartNo). is_over o entry.part.0) is) ∙ over))
    by-tests false false over test rest is-none = rest is-none

abbrev IsClosed : List CatEntry → CatEntry → Type 0
IsClosed gone other = is_over_some gone other ≡ true → is_of_some gone other ≡ true

stands-apart : (gone : List CatEntry) (other : CatEntry) → IsClosed gone other
    → is_of_some gone other ≡ false → is_over_some gone other ≡ false
stands-apart gone other closed left = by-test (is_over_some gone other) refl
  where
    by-test : (b : Bool) → is_over_some gone other ≡ b → b ≡ false
    by-test true is = absurd (true≢false (sym (closed is) ∙ left))
    by-test false is = refl

without-order : (geometry : Geometry) (entries gone : List CatEntry)
    → AllByRecursion (IsClosed gone) entries → IsInOrder geometry entries
    → IsInOrder geometry (without_entries gone entries)
without-order geometry entries gone closed order = record {
  parts = distinct-without-some gone entries order.parts;
  each = All-from_recursion (IsEntryOf geometry after) after
      (kept after
      (all-without-some (IsEntryOf geometry entries) gone entries
      (by-recursion (IsEntryOf geometry entries) entries order.each))
      (all-without-some (IsClosed gone) gone entries closed) (left-some gone entries));
}
  where
    after : List CatEntry
    after = without_entries gone entries

    like : (part : PartNo) → list_any (has_part part.0) gone ≡ false
        → IsLike (entry_with_part entries part.0) (entry_with_part after part.0)
    like part none = subst (IsLike (entry_with_part entries part.0))
        (sym (part-without-some gone entries part.0
        ∙ ap (λ (b : Bool). cond b None (entry_with_part entries part.0)) none))
        (same-like (entry_with_part entries part.0))

    kept : (these : List CatEntry) → AllByRecursion (IsEntryOf geometry entries) these
        → AllByRecursion (IsClosed gone) these
        → AllByRecursion (λ (other : CatEntry). is_of_some gone other ≡ false) these
        → AllByRecursion (IsEntryOf geometry after) these
    kept [] all shut left = tt
    kept (entry ∷ these) all shut left = (
      rules-kept geometry entries after entry (λ part is. like part
          (over-none gone entry part is (stands-apart gone entry shut.0 left.0))) all.0,
      kept these all.1 shut.1 left.1,
    )

-- under another name
module _ (geometry : Geometry) (entries : List CatEntry) (entry new : CatEntry)
    (may : MayRename entries entry new) where
  abbrev rest : List CatEntry
  rest = without_entry entry entries

  pub one-part : new.part.0 ≡ entry.part.0
  one-part = ap (λ (e : CatEntry). e.part.0) may.alike

  pub renamed-none : entry_with_part rest new.part.0 ≡ None
  renamed-none = part-without entry entries new.part.0
      ∙ ap (λ (b : Bool). cond b None (entry_with_part entries new.part.0))
      (tests-same entry.part.0 new.part.0 (sym one-part))

  -- the entry of each part: that of the renamed one is the new one
  pub part-renamed : (part : ℕ) → entry_with_part (with_entry new rest) part
      ≡ cond (new.part.0 == part) (Some new) (entry_with_part entries part)
  part-renamed part = part-with new rest part (other-parts new.part.0 rest renamed-none)
      ∙ by-test (new.part.0 == part) refl
    where
      by-test : (b : Bool) → (new.part.0 == part) ≡ b
          → cond b (Some new) (entry_with_part rest part)
          ≡ cond b (Some new) (entry_with_part entries part)
      by-test true is = refl
      by-test false is = part-without entry entries part
          ∙ ap (λ (b : Bool). cond b None (entry_with_part entries part))
          (ap (λ (n : ℕ). n == part) (sym one-part) ∙ is)

  -- which was the other before
  pub renamed-found : (part : ℕ) → (new.part.0 == part) ≡ true
      → entry_with_part entries part ≡ Some entry
  renamed-found part is = ap (entry_with_part entries)
      (sym (sym one-part ∙ same-number new.part.0 part is)) ∙ may.there.there

  renamed-like : (part : ℕ)
      → IsLike (entry_with_part entries part) (entry_with_part (with_entry new rest) part)
  renamed-like part = subst (IsLike (entry_with_part entries part)) (sym (part-renamed part))
      (by-test (new.part.0 == part) refl)
    where
      by-test : (b : Bool) → (new.part.0 == part) ≡ b → IsLike (entry_with_part entries part)
          (cond b (Some new) (entry_with_part entries part))
      by-test true is = subst (λ (base : Option CatEntry). IsLike base (Some new))
          (sym (renamed-found part is)) may.alike
      by-test false is = same-like (entry_with_part entries part)

  renamed-order : IsInOrder geometry entries → IsInOrder geometry (with_entry new rest)
  renamed-order order = record {
    parts = distinct-with new rest (numbered new may.entry_is)
        (other-parts new.part.0 rest renamed-none)
        (distinct-without entry entries order.parts);
    each = All-from_recursion (IsEntryOf geometry after) after
        (all-with (IsEntryOf geometry after) new rest
        (alike-rules geometry after entry new may.alike
        (all-found (IsEntryOf geometry after) entries entry.part.0 entry all may.there.there))
        (all-without (IsEntryOf geometry after) entry entries all));
  }
    where
      after : List CatEntry
      after = with_entry new rest

      kept : (these : List CatEntry) → AllByRecursion (IsEntryOf geometry entries) these
          → AllByRecursion (IsEntryOf geometry after) these
      kept [] old = tt
      kept (other ∷ these) old = (
        rules-kept geometry entries after other (λ part is. renamed-like part.0) old.0,
        kept these old.1,
      )

      all : AllByRecursion (IsEntryOf geometry after) entries
      all = kept entries (by-recursion (IsEntryOf geometry entries) entries order.each)

pub order-kept : (geometry : Geometry) (entries : List CatEntry) (edit : CatalogEdit)
    → MayEdit geometry entries edit → IsInOrder geometry entries
    → IsInOrder geometry (edited edit entries)
order-kept geometry entries (Alter entry new) may order = altered-order geometry entries new order
order-kept geometry entries (Rename entry new) may order =
    renamed-order geometry entries entry new may order
order-kept geometry entries (Delete gone) may order =
    without-order geometry entries gone (by-recursion (IsClosed gone) entries may.closed) order
order-kept geometry entries (Add new) may order =
    added-order geometry entries new may.numbered may.part may.rules order

-- ---- and those that are served stay so

alike-served : (geometry : Geometry) (entry other : CatEntry) → IsAlike entry other
    → IsServedEntry geometry entry → IsServedEntry geometry other
alike-served geometry entry other alike is = subst (IsServedEntry geometry) (sym alike)
    (record { plain = is.plain; unbuilt = is.unbuilt })

pub served-kept : (geometry : Geometry) (entries : List CatEntry) (edit : CatalogEdit)
    → MayEdit geometry entries edit → AllByRecursion (IsServedEntry geometry) entries
    → AllByRecursion (IsServedEntry geometry) (edited edit entries)
served-kept geometry entries (Alter entry new) may all =
    all-altered (IsServedEntry geometry) new
    (λ other is. alike-served geometry other (altered_by new other) (altered-alike new other) is)
    entries all
served-kept geometry entries (Rename entry new) may all =
    all-with (IsServedEntry geometry) new (without_entry entry entries)
    (alike-served geometry entry new may.alike
    (all-found (IsServedEntry geometry) entries entry.part.0 entry all may.there.there))
    (all-without (IsServedEntry geometry) entry entries all)
served-kept geometry entries (Delete gone) may all =
    all-without-some (IsServedEntry geometry) gone entries all
served-kept geometry entries (Add new) may all =
    all-with (IsServedEntry geometry) new entries
    (record { plain = λ is. absurd (may.no_cluster is); unbuilt = λ is. may.unbuilt }) all
