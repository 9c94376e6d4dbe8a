-- The catalog with the record of one cluster more: its entries, its rules, and the parts that it
-- lays.
use Rattle.std.proofs.Common.{◌≡◌, ◌≢◌, ◌∙◌, ℕ, Bool, true, false, IsTrue, cond, List, []}
use Rattle.std.proofs.Common.{◌∷◌, ◌==◌, Option, Some, None, refl, sym, ap, subst}
use Rattle.std.proofs.Common.{arith}
use Rattle.std.proofs.Common.{All, if◌then◌else◌, nat_eq, ne_eqb, true≢false}
use Rattle.std.specs.Prelude.{bytes_eq, is_some, option_and_then}
use Rattle.std.specs.List.{AllByRecursion, IsDistinct, cons_option}
use Rattle.std.specs.Ordering.{is_lt}
use Rattle.std.specs.declared.cmp.Ordering.{Ordering}
use Rattle.std.specs.declared.cmp.Ordering.TheVariants.{Less, Equal, Greater}
use Rattle.std.proofs.lemmas.Bool.Decides.{nat_tests}
use Rattle.std.proofs.lemmas.List.Elements.{All-from_recursion}
use Rattle.std.proofs.lemmas.Option.{none-some}
use Rattle.std.proofs.lemmas.Slice.Eq.{bytes_eq-Decides}
use Rattle.vr_types.specs.Content.{Content, Item, Placed, Standing, Withdrawn, found_by, item_at}
use Rattle.vr_types.specs.Content.{place_cmp, put_by, record_of, records_of, with_item}
use Rattle.vr_altkey.proofs.CallerLemmas.{item_first}
use Rattle.vr_altkey.proofs.Items.{place_apart}
use Rattle.vr_types.specs.declared.geometry.Geometry.{Geometry}
use Rattle.vr_attach.specs.CatalogRules.{IsCatalog, IsEntryOf}
use Rattle.vr_attach.specs.Laid.{catalog_shape, shape_in, shape_of}
use Rattle.vr_catalog.specs.Catalog.{entries_in, entry_named, entry_with_part, parts_in}
use Rattle.vr_catalog.specs.Entry.{is_entry}
use Rattle.vr_catalog.specs.Record.{entry_of, spelling}
use Rattle.vr_catalog.specs.declared.entry.CatEntry.{CatEntry}
use Rattle.vr_edits.specs.Edits.{IsInOrder}
use Rattle.vr_edits.proofs.CallerLemmas.{added-order}
use Rattle.vr_space.specs.Part.{Shape}
use Rattle.vr_event.specs.Defining.{entry_place, with_cluster}
use Rattle.vr_event.proofs.ClusterRecords.{IsNamed, one-name, record-spells}

-- ---- the entries

-- the new record is that of its entry
named-new : (new : CatEntry) → IsTrue (is_entry new)
    → IsNamed (entry_place new, Standing (spelling new))
named-new new is = record { entry = new; entry_is = is; item_is = refl; place_is = refl }

-- an item of the catalog is that of its entry
pub entry-first : (placed : Placed) (content : Content) → (named : IsNamed placed)
    → entries_in (placed ∷ content) ≡ named.entry ∷ entries_in content
entry-first placed content named =
    ap (λ (o : Option CatEntry). cons_option o (entries_in content))
    (ap (λ (item : Item). option_and_then entry_of (record_of item)) named.item_is
    ∙ record-spells named.entry named.entry_is)

-- a name that no entry has is at no place
not-first : (name : List ℕ) (entry : CatEntry) (entries : List CatEntry)
    → entry_named (entry ∷ entries) name ≡ None
    → (entry.name ≢ name) × (entry_named entries name ≡ None)
not-first name entry entries none = by-test (bytes_eq entry.name name) refl none
  where
    by-test : (b : Bool) → bytes_eq entry.name name ≡ b
        → cond b (Some entry) (entry_named entries name) ≡ None
        → (entry.name ≢ name) × (entry_named entries name ≡ None)
    by-test true is found = absurd (none-some entry (sym found))
    by-test false is found = (
      λ same. true≢false (sym ((bytes_eq-Decides entry.name name).1 same) ∙ is),
      found,
    )

pub none-at : (new : CatEntry) → IsTrue (is_entry new) → (content : Content)
    → AllByRecursion IsNamed content → entry_named (entries_in content) new.name ≡ None
    → item_at content (entry_place new) ≡ None
none-at new is [] named none = refl
none-at new is (placed ∷ content) named none =
    let entry = named.0.entry in
    let both = not-first new.name entry (entries_in content)
    (sym (ap (λ (entries : List CatEntry). entry_named entries new.name)
    (entry-first placed content named.0)) ∙ none) in
    item_first placed content (entry_place new)
    ∙ ap (λ (b : Bool). cond b (Some placed.1) (item_at content (entry_place new)))
    (place_apart (entry_place new) placed.0 (λ same. both.0
    (sym (one-name new entry is named.0.entry_is (same ∙ named.0.place_is)))))
    ∙ none-at new is content named.1 both.1

-- with its record there, the catalog has the entry
pub entries-with : (new : CatEntry) → IsTrue (is_entry new) → (content : Content)
    → AllByRecursion IsNamed content → item_at content (entry_place new) ≡ None
    → entries_in (with_item content (entry_place new) (Standing (spelling new)))
    ≡ with_cluster new (entries_in content)
entries-with new is [] named none =
    ap (λ (o : Option CatEntry). cons_option o []) (record-spells new is)
entries-with new is (placed ∷ content) named none =
    ap (λ (order : Ordering). entries_in (put_by order (at, Standing (spelling new)) placed content
    (with_item content at (Standing (spelling new))))) (ap (place_cmp at) named.0.place_is)
    ∙ by-order (place_cmp at (entry_place entry)) refl (entries-with new is content named.1)
    ∙ sym (ap (with_cluster new) (entry-first placed content named.0))
  where
    at : List ℕ
    at = entry_place new

    entry : CatEntry
    entry = named.0.entry

    -- what is there by the order of the places
    there : (order : Ordering) → place_cmp at (entry_place entry) ≡ order
        → found_by order (Some placed.1) (item_at content at) ≡ None
    there order is =
        sym (ap (λ (o : Ordering). found_by o (Some placed.1) (item_at content at))
        (ap (place_cmp at) named.0.place_is ∙ is)) ∙ none

    by-order : (order : Ordering) → place_cmp at (entry_place entry) ≡ order
        → (item_at content at ≡ None
        → entries_in (with_item content at (Standing (spelling new)))
        ≡ with_cluster new (entries_in content))
        → entries_in (put_by order (at, Standing (spelling new)) placed content
        (with_item content at (Standing (spelling new))))
        ≡ (if is_lt order then new ∷ entry ∷ entries_in content
        else entry ∷ with_cluster new (entries_in content))
    by-order Less order rest =
        ap (λ (o : Option CatEntry). cons_option o (entries_in (placed ∷ content)))
        (record-spells new is)
        ∙ ap (λ (entries : List CatEntry). new ∷ entries) (entry-first placed content named.0)
    by-order Equal order rest = absurd (none-some placed.1 (sym (there Equal order)))
    by-order Greater order rest =
        entry-first placed (with_item content at (Standing (spelling new))) named.0
        ∙ ap (λ (entries : List CatEntry). entry ∷ entries) (rest (there Greater order))

-- ---- its rules

-- a fact of each entry of the catalog, and of the new one, is one of all
pub all-with : (P : CatEntry → Type 0) (new : CatEntry) (entries : List CatEntry) → P new
    → AllByRecursion P entries → AllByRecursion P (with_cluster new entries)
all-with P new [] one all = (one, tt)
all-with P new (entry ∷ entries) one all =
    by-test (is_lt (place_cmp (entry_place new) (entry_place entry)))
    (all-with P new entries one all.1)
  where
    by-test : (b : Bool) → AllByRecursion P (with_cluster new entries)
        → AllByRecursion P (if b then new ∷ entry ∷ entries
        else entry ∷ with_cluster new entries)
    by-test true rest = (one, all)
    by-test false rest = (all.0, rest)

-- what none of the entries has, and the new one hasn't, none of all has
abbrev pub IsApart : ℕ → CatEntry → Type 0
IsApart part entry = nat_eq part entry.part.0 ≡ false

pub parts-apart : (part : ℕ) (entries : List CatEntry) → AllByRecursion (IsApart part) entries
    → AllByRecursion (λ (other : ℕ). nat_eq part other ≡ false) (parts_in entries)
parts-apart part [] all = tt
parts-apart part (entry ∷ entries) all = (all.0, parts-apart part entries all.1)

pub apart-parts : (part : ℕ) (entries : List CatEntry)
    → AllByRecursion (λ (other : ℕ). nat_eq part other ≡ false) (parts_in entries)
    → AllByRecursion (IsApart part) entries
apart-parts part [] all = tt
apart-parts part (entry ∷ entries) all = (all.0, apart-parts part entries all.1)

pub eq-flips : (m n : ℕ) → nat_eq m n ≡ false → nat_eq n m ≡ false
eq-flips m n apart = grind (arith, nat_tests, apart)

-- a part that no entry has differs from that of each
pub other-parts : (part : ℕ) (entries : List CatEntry) → entry_with_part entries part ≡ None
    → AllByRecursion (IsApart part) entries
other-parts part [] none = tt
other-parts part (entry ∷ entries) none =
    by-test (entry.part.0 == part) refl none (other-parts part entries)
  where
    by-test : (b : Bool) → (entry.part.0 == part) ≡ b
        → cond b (Some entry) (entry_with_part entries part) ≡ None
        → (entry_with_part entries part ≡ None → AllByRecursion (IsApart part) entries)
        → AllByRecursion (IsApart part) (entry ∷ entries)
    by-test true is found rest = absurd (none-some entry (sym found))
    by-test false is found rest = (eq-flips entry.part.0 part is, rest found)

-- no part number comes twice
pub distinct-with : (new : CatEntry) (entries : List CatEntry)
    → AllByRecursion (IsApart new.part.0) entries → IsDistinct nat_eq (parts_in entries)
    → IsDistinct nat_eq (parts_in (with_cluster new entries))
unfolding IsDistinct
distinct-with new [] apart distinct = (tt, tt)
distinct-with new (entry ∷ entries) apart distinct =
    by-test (is_lt (place_cmp (entry_place new) (entry_place entry)))
    (distinct-with new entries apart.1 distinct.1)
  where
    by-test : (b : Bool) → IsDistinct nat_eq (parts_in (with_cluster new entries))
        → IsDistinct nat_eq (parts_in (if b then new ∷ entry ∷ entries
        else entry ∷ with_cluster new entries))
    by-test true rest = (parts-apart new.part.0 (entry ∷ entries) apart, distinct)
    by-test false rest = (
      parts-apart entry.part.0 (with_cluster new entries)
          (all-with (IsApart entry.part.0) new entries (eq-flips new.part.0 entry.part.0 apart.0)
          (apart-parts entry.part.0 entries distinct.0)),
      rest,
    )

-- the records spell entries
pub spelled-named : (content : Content) → AllByRecursion IsNamed content
    → AllByRecursion (λ (placed : List ℕ × List ℕ). IsTrue (is_some (entry_of placed.1)))
    (records_of content)
spelled-named [] named = tt
spelled-named ((place, Withdrawn n) ∷ content) named = absurd (cc)
spelled-named ((place, Standing bytes) ∷ content) named =
    let same : bytes ≡ spelling named.0.entry = cc in (
      subst (λ (o : Option CatEntry). IsTrue (is_some o))
          (sym (ap entry_of same ∙ record-spells named.0.entry named.0.entry_is)) refl,
      spelled-named content named.1,
    )

pub named-with : (new : CatEntry) → IsTrue (is_entry new) → (content : Content)
    → AllByRecursion IsNamed content
    → AllByRecursion IsNamed (with_item content (entry_place new) (Standing (spelling new)))
named-with new is [] named = (named-new new is, tt)
named-with new is (placed ∷ content) named =
    by-order (place_cmp (entry_place new) placed.0) (named-with new is content named.1)
  where
    by-order : (order : Ordering)
        → AllByRecursion IsNamed (with_item content (entry_place new) (Standing (spelling new)))
        → AllByRecursion IsNamed (put_by order (entry_place new, Standing (spelling new)) placed
        content (with_item content (entry_place new) (Standing (spelling new))))
    by-order Less rest = (named-new new is, named)
    by-order Equal rest = (named-new new is, named.1)
    by-order Greater rest = (named.0, rest)

-- so the catalog with the record is one, too
pub catalog-with : (geometry : Geometry) (new : CatEntry) → IsTrue (is_entry new)
    → ((entries : List CatEntry) → IsEntryOf geometry entries new) → (new.part.0 ≡ 0 → ⊥)
    → (content : Content) → AllByRecursion IsNamed content
    → item_at content (entry_place new) ≡ None
    → entry_with_part (entries_in content) new.part.0 ≡ None
    → IsCatalog geometry content
    → IsCatalog geometry (with_item content (entry_place new) (Standing (spelling new)))
catalog-with geometry new is entry some content named absent fresh catalog =
    let after = with_item content (entry_place new) (Standing (spelling new)) in
    let entries = entries_in content in
    let same = entries-with new is content named absent in
    let order : IsInOrder geometry entries =
    record { parts = catalog.parts; each = catalog.entries } in
    let kept = added-order geometry entries new some fresh (entry entries) order in
    record {
      spelled = All-from_recursion (λ (placed : List ℕ × List ℕ).
          IsTrue (is_some (entry_of placed.1))) (records_of after)
          (spelled-named after (named-with new is content named));
      parts = subst (λ (them : List CatEntry). IsDistinct nat_eq (0 ∷ parts_in them)) (sym same)
          kept.parts;
      entries = subst (λ (them : List CatEntry). All (IsEntryOf geometry them) them) (sym same)
          kept.each;
    }

-- ---- the parts that it lays

-- the entry of a part
pub part-with : (new : CatEntry) (entries : List CatEntry) (part : ℕ)
    → AllByRecursion (IsApart new.part.0) entries
    → entry_with_part (with_cluster new entries) part
    ≡ cond (new.part.0 == part) (Some new) (entry_with_part entries part)
part-with new [] part apart = refl
part-with new (entry ∷ entries) part apart =
    by-test (is_lt (place_cmp (entry_place new) (entry_place entry)))
    (part-with new entries part apart.1)
  where
    by-test : (b : Bool) → entry_with_part (with_cluster new entries) part
        ≡ cond (new.part.0 == part) (Some new) (entry_with_part entries part)
        → entry_with_part (if b then new ∷ entry ∷ entries
        else entry ∷ with_cluster new entries) part
        ≡ cond (new.part.0 == part) (Some new) (entry_with_part (entry ∷ entries) part)
    by-test true rest = refl
    by-test false rest = ap (cond (entry.part.0 == part) (Some entry)) rest
        ∙ by-parts (entry.part.0 == part) (new.part.0 == part) refl refl
      where
        by-parts : (b other : Bool) → (entry.part.0 == part) ≡ b → (new.part.0 == part) ≡ other
            → cond b (Some entry) (cond other (Some new) (entry_with_part entries part))
            ≡ cond other (Some new) (cond b (Some entry) (entry_with_part entries part))
        by-parts true true here there =
            absurd (grind (arith, nat_tests, apart.0, here, there))
        by-parts true false here there = refl
        by-parts false true here there = refl
        by-parts false false here there = refl

-- the shapes: the new part has its own
pub shapes-with : (geometry : Geometry) (new : CatEntry) (entries : List CatEntry)
    → AllByRecursion (IsApart new.part.0) entries → (new.part.0 ≡ 0 → ⊥) → (part : ℕ)
    → shape_in geometry (with_cluster new entries) part
    ≡ (if part == new.part.0 then shape_of geometry new else shape_in geometry entries part)
shapes-with geometry new entries apart some part =
    by-tests (part == 0) (part == new.part.0) refl refl
  where
    laid : Option CatEntry → Option Shape
    laid = option_and_then (shape_of geometry)

    with-part : (b : Bool) → (new.part.0 == part) ≡ b
        → laid (entry_with_part (with_cluster new entries) part)
        ≡ laid (cond b (Some new) (entry_with_part entries part))
    with-part b same = ap laid (part-with new entries part apart
        ∙ ap (λ (test : Bool). cond test (Some new) (entry_with_part entries part)) same)

    by-tests : (zero same : Bool) → (part == 0) ≡ zero → (part == new.part.0) ≡ same
        → cond zero (Some (catalog_shape geometry))
        (laid (entry_with_part (with_cluster new entries) part))
        ≡ cond same (shape_of geometry new) (cond zero (Some (catalog_shape geometry))
        (laid (entry_with_part entries part)))
    by-tests true true zero same = absurd (some (grind (arith, nat_tests, zero, same)))
    by-tests true false zero same = refl
    by-tests false true zero same = with-part true (grind (arith, nat_tests, same))
    by-tests false false zero same = with-part false (grind (arith, nat_tests, same))
