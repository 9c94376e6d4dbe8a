-- A catalog with a record more, where none stood.
use Rattle.std.proofs.Common.{◌≡◌, ℕ, ◌&&◌, ◌||◌, Bool, true, false, cond, List, [], ◌∷◌}
use Rattle.std.proofs.Common.{filter, nat_eq, Option, Some, None, refl, sym, ap, ◌∙◌}
use Rattle.std.proofs.lemmas.Option.{none-some}
use Rattle.std.specs.List.{cons_option, list_any}
use Rattle.std.specs.Option.{option_and_then}
use Rattle.std.specs.declared.cmp.Ordering.{Ordering}
use Rattle.std.specs.declared.cmp.Ordering.TheVariants.{Less, Equal, Greater}
use Rattle.vr_catalog.specs.Catalog.{entries_in, parts_in}
use Rattle.vr_catalog.specs.Record.{entry_of}
use Rattle.vr_catalog.specs.declared.entry.CatEntry.{CatEntry}
use Rattle.vr_types.specs.Content.{Content, Item, Placed, found_by, item_at, place_cmp, put_by}
use Rattle.vr_types.specs.Content.{record_at, record_of, with_item}
use Rattle.vr_history.specs.Effects.{has_areas, has_part, parts_laid}
use Rattle.vr_record_file.proofs.Resting.{or_later}

-- where nothing stands at a place, no record does
no_record_by : (here : Ordering) (placed : Placed) (further : Option Item)
    (record_further : Option (List ℕ)) → (further ≡ None → record_further ≡ None)
    → found_by here (Some placed.1) further ≡ None
    → found_by here (record_of placed.1) record_further ≡ None
no_record_by Less placed further record_further so none = so none
no_record_by Equal placed further record_further so none =
    absurd (none-some placed.1 (sym none))
no_record_by Greater placed further record_further so none = so none

pub no_record : (content : Content) (place : List ℕ) → item_at content place ≡ None
    → record_at content place ≡ None
no_record [] place none = refl
no_record (placed ∷ content) place none =
    no_record_by (place_cmp place placed.0) placed (item_at content place)
    (record_at content place) (no_record content place) none

-- what passes a test in one list passes it in the other
abbrev AreWithin : List CatEntry → List CatEntry → Type 0
AreWithin entries others =
    (test : CatEntry → Bool) → list_any test entries ≡ true → list_any test others ≡ true

or_second : (a b : Bool) → b ≡ true → (a || b) ≡ true
or_second true b is = refl
or_second false b is = is

one_more : (o : Option CatEntry) (entries : List CatEntry)
    → AreWithin entries (cons_option o entries)
one_more None entries = λ test is. is
one_more (Some entry) entries = λ test is. or_second (test entry) (list_any test entries) is

under_one : (o : Option CatEntry) (entries others : List CatEntry) → AreWithin entries others
    → AreWithin (cons_option o entries) (cons_option o others)
under_one None entries others within = within
under_one (Some entry) entries others within = λ test is.
    or_later (test entry) (list_any test entries) (list_any test others) (within test) is

-- the entry of a record, if it spells one
abbrev entry_at : Placed → Option CatEntry
entry_at placed = option_and_then entry_of (record_of placed.1)

more_by : (here : Ordering) (new placed : Placed) (content further : Content)
    → AreWithin (entries_in content) (entries_in further) → (further_item : Option Item)
    → found_by here (Some placed.1) further_item ≡ None
    → AreWithin (entries_in (placed ∷ content))
    (entries_in (put_by here new placed content further))
more_by Less new placed content further within further_item is =
    one_more (entry_at new) (entries_in (placed ∷ content))
more_by Equal new placed content further within further_item is =
    absurd (none-some placed.1 (sym is))
more_by Greater new placed content further within further_item is =
    under_one (entry_at placed) (entries_in content) (entries_in further) within

none_further : (here : Ordering) (placed : Placed) (further : Option Item)
    → found_by here (Some placed.1) further ≡ None → further ≡ None
none_further Less placed further none = none
none_further Equal placed further none = absurd (none-some placed.1 (sym none))
none_further Greater placed further none = none

-- the entries that were there are there still
all_within : (content : Content) (place : List ℕ) (item : Item) → item_at content place ≡ None
    → AreWithin (entries_in content) (entries_in (with_item content place item))
all_within [] place item none = λ test is. absurd (cc)
all_within (placed ∷ content) place item none =
    more_by (place_cmp place placed.0) (place, item) placed content (with_item content place item)
    (all_within content place item
    (none_further (place_cmp place placed.0) placed (item_at content place) none))
    (item_at content place) none

-- ---- the parts of a catalog

any_of_map : (test : ℕ → Bool) (entries : List CatEntry)
    → list_any test (parts_in entries) ≡ list_any (λ entry. test entry.part.0) entries
any_of_map test [] = refl
any_of_map test (entry ∷ entries) =
    ap (λ (b : Bool). test entry.part.0 || b) (any_of_map test entries)

abbrev is_laid : CatEntry → Bool
is_laid entry = has_areas entry.entry_kind entry

any_if : (b : Bool) (test : CatEntry → Bool) (entry : CatEntry) (left entries : List CatEntry)
    → list_any test left ≡ list_any (λ entry. is_laid entry && test entry) entries
    → list_any test (cond b (entry ∷ left) left)
    ≡ (b && test entry || list_any (λ entry. is_laid entry && test entry) entries)
any_if true test entry left entries same = ap (λ (b : Bool). test entry || b) same
any_if false test entry left entries same = same

any_of_laid : (test : CatEntry → Bool) (entries : List CatEntry)
    → list_any test (filter is_laid entries)
    ≡ list_any (λ entry. is_laid entry && test entry) entries
any_of_laid test [] = refl
any_of_laid test (entry ∷ entries) =
    any_if (is_laid entry) test entry (filter is_laid entries) entries (any_of_laid test entries)

module _ (content : Content) (place : List ℕ) (item : Item) (none : item_at content place ≡ None)
    (part : ℕ) where
  abbrev before : List CatEntry
  before = entries_in content

  abbrev after : List CatEntry
  after = entries_in (with_item content place item)

  within : AreWithin before after
  within = all_within content place item none

  -- a part of the catalog is one of it still,
  pub has_part_more : has_part (parts_in before) part ≡ true → has_part (parts_in after) part ≡ true
  has_part_more =
      or_later (nat_eq part 0) (list_any (nat_eq part) (parts_in before))
      (list_any (nat_eq part) (parts_in after))
      (λ is. any_of_map (nat_eq part) after
      ∙ within (λ entry. nat_eq part entry.part.0) (sym (any_of_map (nat_eq part) before) ∙ is))

  -- and one that it lays is laid still
  laid_as : (entries : List CatEntry) → list_any (nat_eq part) (parts_laid entries)
      ≡ list_any (λ entry. is_laid entry && nat_eq part entry.part.0) entries
  laid_as entries = any_of_map (nat_eq part) (filter is_laid entries)
      ∙ any_of_laid (λ entry. nat_eq part entry.part.0) entries

  pub is_laid_more : has_part (parts_laid before) part ≡ true
      → has_part (parts_laid after) part ≡ true
  is_laid_more =
      or_later (nat_eq part 0) (list_any (nat_eq part) (parts_laid before))
      (list_any (nat_eq part) (parts_laid after))
      (λ is. laid_as after ∙ within (λ entry. is_laid entry && nat_eq part entry.part.0)
      (sym (laid_as before) ∙ is))
