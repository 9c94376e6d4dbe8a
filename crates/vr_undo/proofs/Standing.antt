-- The records of a content, without what was withdrawn.
use Rattle.std.proofs.Common.{◌≡◌, ◌≢◌, ℕ, Bool, true, false, cond, List, [], ◌∷◌, Option, Some}
use Rattle.std.proofs.Common.{None, refl, sym, ap, ◌∙◌, bytes_eq}
use Rattle.std.specs.Prelude.{All}
use Rattle.std.specs.List.{AllByRecursion, cons_option}
use Rattle.std.specs.List.Sorted.{IsStrictlySortedBy}
use Rattle.std.specs.Option.{option_and_then, option_map}
use Rattle.std.specs.declared.cmp.Ordering.{Ordering}
use Rattle.std.specs.declared.cmp.Ordering.TheVariants.{Less, Equal, Greater}
use Rattle.std.proofs.lemmas.Bool.{true≢false}
use Rattle.std.proofs.lemmas.List.Elements.{All-head, All-tail}
use Rattle.std.proofs.lemmas.Slice.Eq.{bytes_eq-Decides}
use Rattle.vr_types.specs.Content.{Ascends, Content, Item, Placed, Standing, Withdrawn, found_by}
use Rattle.vr_types.specs.Content.{item_at, place_cmp, places_of, record_of, records_of, with_item}
use Rattle.vr_types.specs.Content.{without_item}
use Rattle.vr_altkey.specs.Placing.{placed_in}
use Rattle.vr_altkey.proofs.CallerLemmas.{equal_places, none_below, placed_ascends}
use Rattle.vr_altkey.proofs.CallerLemmas.{placed_elsewhere, placed_here, same_items}
use Rattle.vr_catalog.specs.Catalog.{entries_in}
use Rattle.vr_catalog.specs.Record.{entry_of}
use Rattle.vr_undo.specs.PutBack.{standing, standing_of, stands}

-- ---- what is at one place

-- a record that is there stands there
pub record-stands : (bytes : Option (List ℕ))
    → standing_of (option_map Standing bytes) ≡ option_map Standing bytes
record-stands None = refl
record-stands (Some bytes) = refl

pub stands-once : (item : Option Item) → standing_of (standing_of item) ≡ standing_of item
stands-once item = record-stands (option_and_then record_of item)

-- the record is the same
pub stands-read : (item : Option Item)
    → option_and_then record_of (standing_of item) ≡ option_and_then record_of item
stands-read None = refl
stands-read (Some (Standing bytes)) = refl
stands-read (Some (Withdrawn length)) = refl

-- where a record stands, it is what is there
pub stands-record : (item : Option Item) (bytes : List ℕ)
    → standing_of item ≡ Some (Standing bytes) → item ≡ Some (Standing bytes)
stands-record None bytes is = absurd (cc)
stands-record (Some (Standing other)) bytes is = is
stands-record (Some (Withdrawn length)) bytes is = absurd (cc)

-- ---- the content

below-stands : (before : List ℕ) (content : Content)
    → AllByRecursion (λ next. place_cmp before next ≡ Less) (places_of content)
    → AllByRecursion (λ next. place_cmp before next ≡ Less) (places_of (standing content))
below-stands before [] below = tt
below-stands before (first ∷ content) below =
    by_stands (stands first) (below-stands before content below.1)
  where
    by_stands : (b : Bool)
        → AllByRecursion (λ next. place_cmp before next ≡ Less) (places_of (standing content))
        → AllByRecursion (λ next. place_cmp before next ≡ Less)
        (places_of (cond b (first ∷ standing content) (standing content)))
    by_stands true further = (below.0, further)
    by_stands false further = further

-- The records ascend as the content does.
pub stands-ascends : (content : Content) → Ascends content → Ascends (standing content)
unfolding IsStrictlySortedBy
stands-ascends [] ascends = tt
stands-ascends (first ∷ content) ascends =
    by_stands (stands first) (stands-ascends content ascends.1)
  where
    by_stands : (b : Bool) → Ascends (standing content)
        → Ascends (cond b (first ∷ standing content) (standing content))
    by_stands true further = (below-stands first.0 content ascends.0, further)
    by_stands false further = further

-- At each place there is the record that stands there.
pub stands-item : (content : Content) (place : List ℕ) → Ascends content
    → item_at (standing content) place ≡ standing_of (item_at content place)
unfolding IsStrictlySortedBy
stands-item [] place ascends = refl
stands-item ((at, Standing bytes) ∷ content) place ascends =
    by_order (place_cmp place at) (stands-item content place ascends.1)
  where
    by_order : (order : Ordering)
        → item_at (standing content) place ≡ standing_of (item_at content place)
        → found_by order (Some (Standing bytes)) (item_at (standing content) place)
        ≡ standing_of (found_by order (Some (Standing bytes)) (item_at content place))
    by_order Less further = further
    by_order Equal further = refl
    by_order Greater further = further
stands-item ((at, Withdrawn length) ∷ content) place ascends =
    by_order (place_cmp place at) refl (stands-item content place ascends.1)
  where
    by_order : (order : Ordering) → place_cmp place at ≡ order
        → item_at (standing content) place ≡ standing_of (item_at content place)
        → item_at (standing content) place
        ≡ standing_of (found_by order (Some (Withdrawn length)) (item_at content place))
    by_order Less is further = further
    by_order Equal is further = ap (item_at (standing content)) (equal_places place at is)
        ∙ none_below at (standing content) (below-stands at content ascends.0)
    by_order Greater is further = further

-- The records with their places are those of the content.
pub stands-records : (content : Content) → records_of (standing content) ≡ records_of content
stands-records [] = refl
stands-records ((at, Standing bytes) ∷ content) =
    ap (cons_option (Some (at, bytes))) (stands-records content)
stands-records ((at, Withdrawn length) ∷ content) = stands-records content

-- So it spells the same entries, where it is that of a catalog.
pub stands-entries : (content : Content) → entries_in (standing content) ≡ entries_in content
stands-entries [] = refl
stands-entries ((at, Standing bytes) ∷ content) =
    ap (cons_option (entry_of bytes)) (stands-entries content)
stands-entries ((at, Withdrawn length) ∷ content) = stands-entries content

-- ---- records alone

pub stands-all : (content : Content) → All (λ (entry : Placed). stands entry ≡ true) content
    → standing content ≡ content
stands-all [] all = refl
stands-all (first ∷ content) all =
    ap (λ (b : Bool). cond b (first ∷ standing content) (standing content))
    (All-head (λ (entry : Placed). stands entry ≡ true) first content all)
    ∙ ap (λ (rest : Content). first ∷ rest) (stands-all content
    (All-tail (λ (entry : Placed). stands entry ≡ true) first content all))

pub stands-same : (content : Content) → Ascends content
    → ((place : List ℕ) → standing_of (item_at content place) ≡ item_at content place)
    → standing content ≡ content
stands-same content ascends same = same_items (standing content) content
    (stands-ascends content ascends) ascends
    (λ place. stands-item content place ascends ∙ same place)

pub stands-twice : (content : Content) → standing (standing content) ≡ standing content
stands-twice [] = refl
stands-twice ((at, Standing bytes) ∷ content) =
    let first : Placed = (at, Standing bytes) in
    ap (λ (rest : Content). first ∷ rest) (stands-twice content)
stands-twice ((at, Withdrawn length) ∷ content) = stands-twice content

-- ---- an item that is put in, or taken out

pub stands-placed : (place : List ℕ) (item : Option Item) (content : Content) → Ascends content
    → standing (placed_in place item content)
    ≡ placed_in place (standing_of item) (standing content)
stands-placed place item content ascends = same_items
    (standing (placed_in place item content))
    (placed_in place (standing_of item) (standing content))
    (stands-ascends (placed_in place item content) (placed_ascends place item content ascends))
    (placed_ascends place (standing_of item) (standing content) (stands-ascends content ascends))
    (λ other. stands-item (placed_in place item content) other
    (placed_ascends place item content ascends)
    ∙ by_place other (bytes_eq other place) refl)
  where
    by_place : (other : List ℕ) (here : Bool) → bytes_eq other place ≡ here
        → standing_of (item_at (placed_in place item content) other)
        ≡ item_at (placed_in place (standing_of item) (standing content)) other
    by_place other true is =
        let at : other ≡ place = (bytes_eq-Decides other place).0 is in
        ap (λ (q : List ℕ). standing_of (item_at (placed_in place item content) q)) at
        ∙ ap standing_of (placed_here place item content)
        ∙ sym (placed_here place (standing_of item) (standing content))
        ∙ sym (ap (item_at (placed_in place (standing_of item) (standing content))) at)
    by_place other false is =
        let apart : other ≢ place =
        λ at. true≢false (sym ((bytes_eq-Decides other place).1 at) ∙ is) in
        ap standing_of (placed_elsewhere place item content other apart)
        ∙ sym (stands-item content other ascends)
        ∙ sym (placed_elsewhere place (standing_of item) (standing content) other apart)

pub stands-with : (content : Content) (place bytes : List ℕ) → Ascends content
    → standing (with_item content place (Standing bytes))
    ≡ with_item (standing content) place (Standing bytes)
stands-with content place bytes ascends =
    stands-placed place (Some (Standing bytes)) content ascends

pub stands-without : (content : Content) (place : List ℕ) → Ascends content
    → standing (without_item content place) ≡ without_item (standing content) place
stands-without content place ascends = stands-placed place None content ascends
