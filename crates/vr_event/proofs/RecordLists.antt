-- The records of a content that are asked for, in order: the least of them is the first, and where
-- no place has one, there are none.
use Rattle.std.proofs.Common.{◌≡◌, ◌≢◌, ℕ, Bool, true, false, cond, List, [], ◌∷◌, Option, Some}
use Rattle.std.proofs.Common.{None, refl, sym, ap, subst, ◌∙◌, filter}
use Rattle.std.specs.List.{AllByRecursion}
use Rattle.std.specs.List.Sorted.{IsStrictlySortedBy}
use Rattle.std.specs.Ordering.{is_le, is_lt, ordering_reverse}
use Rattle.std.specs.declared.cmp.Ordering.{Ordering}
use Rattle.std.specs.declared.cmp.Ordering.TheVariants.{Less, Equal, Greater}
use Rattle.std.proofs.lemmas.Bool.{true≢false}
use Rattle.std.proofs.lemmas.Cmp.{nat_list_cmp_total}
use Rattle.std.proofs.lemmas.Option.{none-some}
use Rattle.vr_types.specs.Content.{Ascends, Content, Placed, Standing, Withdrawn, found_by}
use Rattle.vr_types.specs.Content.{place_cmp, places_of, record_at, record_of, records_of}
use Rattle.vr_altkey.proofs.CallerLemmas.{all_below, equal_places}
use Rattle.vr_space.proofs.CallerLemmas.{same_is_equal}
use Rattle.vr_trace.specs.Visitors.{Visited}
use Rattle.vr_answer.specs.Least.{IsLeast, IsLeastWith}
use Rattle.vr_event.specs.Searching.{HasRecord}
use Rattle.vr_event.specs.Walking.{is_after, is_coming}

-- ---- what stands at the first place, and what stands further

-- each further place is past this one
abbrev pub AllPast : List ℕ → Content → Type 0
AllPast place content =
    AllByRecursion (λ (next : List ℕ). place_cmp place next ≡ Less) (places_of content)

none-before : (place : List ℕ) (content : Content) → AllPast place content
    → record_at content place ≡ None
none-before place [] past = refl
none-before place (entry ∷ content) past =
    ap (λ (o : Ordering). found_by o (record_of entry.1) (record_at content place)) past.0
    ∙ none-before place content past.1

turned : (one other : List ℕ) → place_cmp one other ≡ Greater → place_cmp other one ≡ Less
turned one other greater =
    nat_list_cmp_total.antisymm other one ∙ ap ordering_reverse greater

here : (at bytes : List ℕ) (content : Content) → HasRecord ((at, Standing bytes) ∷ content) at
here at bytes content none = none-some bytes (sym none
    ∙ ap (λ (o : Ordering). found_by o (Some bytes) (record_at content at)) (same_is_equal at))

further : (entry : Placed) (content : Content) (place : List ℕ) → AllPast entry.0 content
    → HasRecord content place → HasRecord (entry ∷ content) place
further entry content place past has = by-order (place_cmp place entry.0) refl
  where
    by-order : (o : Ordering) → place_cmp place entry.0 ≡ o
        → found_by o (record_of entry.1) (record_at content place) ≢ None
    by-order Less is = has
    by-order Equal is = absurd (has (none-before place content
        (subst (λ (at : List ℕ). AllPast at content) (sym (equal_places place entry.0 is)) past)))
    by-order Greater is = has

-- a test that may not be true
unless : (b : Bool) → (b ≡ true → ⊥) → b ≡ false
unless true never = absurd (never refl)
unless false never = refl

-- ---- those that are asked for

abbrev pub records-asked : (List ℕ → Bool) → Content → List Visited
records-asked asked content = filter (λ (one : Visited). asked one.0) (records_of content)

-- A place past one that is asked for is asked for, too.
abbrev pub Rises : (List ℕ → Bool) → Type 0
Rises asked = (place next : List ℕ) → asked place ≡ true → place_cmp place next ≡ Less
    → asked next ≡ true

-- with one record more
ask-one : (asked : List ℕ → Bool) (at bytes : List ℕ) (content : Content) (test : Bool)
    → asked at ≡ test → records-asked asked ((at, Standing bytes) ∷ content)
    ≡ cond test ((at, bytes) ∷ records-asked asked content) (records-asked asked content)
ask-one asked at bytes content test is =
    ap (λ (b : Bool). cond b ((at, bytes) ∷ records-asked asked content)
    (records-asked asked content)) is

-- all are, past a place that all are past
all-asked : (asked : List ℕ → Bool) (place : List ℕ) (content : Content)
    → ((next : List ℕ) → place_cmp place next ≡ Less → asked next ≡ true)
    → AllPast place content → records-asked asked content ≡ records_of content
all-asked asked place [] each past = refl
all-asked asked place ((at, Standing bytes) ∷ content) each past =
    ask-one asked at bytes content true (each at past.0)
    ∙ ap (λ (l : List Visited). (at, bytes) ∷ l) (all-asked asked place content each past.1)
all-asked asked place ((at, Withdrawn n) ∷ content) each past =
    all-asked asked place content each past.1

-- The least is the first: the others come after it.
pub next-asked : (asked : List ℕ → Bool) (place bytes : List ℕ) (content : Content)
    → Rises asked → Ascends content → IsLeast asked (HasRecord content) place
    → record_at content place ≡ Some bytes
    → records-asked asked content ≡ (place, bytes) ∷ records-asked (is_after place) content
unfolding IsStrictlySortedBy
next-asked asked place bytes [] rises ascends least found = absurd (least.has refl)
next-asked asked place bytes (entry ∷ content) rises ascends least found =
    by-order (place_cmp place entry.0) refl least.has found
    (next-asked asked place bytes content rises ascends.1)
  where
    Wanted : Content → Type 0
    Wanted all = records-asked asked all ≡ (place, bytes) ∷ records-asked (is_after place) all

    others : List Visited
    others = records-asked (is_after place) content

    -- the least one is further
    rest-least : found_by Greater (record_of entry.1) (record_at content place) ≢ None
        → IsLeast asked (HasRecord content) place
    rest-least has = record {
      asked_for = least.asked_for;
      has = has;
      lower_none = λ lower after less there.
          least.lower_none lower after less (further entry content lower ascends.0 there);
    }

    -- past a record that is no further,
    before : (kept : List ℕ) → entry.1 ≡ Standing kept → place_cmp entry.0 place ≡ Less
        → asked entry.0 ≡ false
    before kept is less = unless (asked entry.0)
        (λ after. least.lower_none entry.0 after less
        (λ none. here entry.0 kept content
        (ap (λ item. record_at ((entry.0, item) ∷ content) entry.0) (sym is) ∙ none)))

    later : (one : Placed) → one ≡ entry → place_cmp place entry.0 ≡ Greater → Wanted content
        → Wanted (one ∷ content)
    later (at, Standing kept) same greater rest =
        let at-is : at ≡ entry.0 = ap (λ (p : Placed). p.0) same in
        ask-one asked at kept content false
        (ap asked at-is
        ∙ before kept (sym (ap (λ (p : Placed). p.1) same)) (turned place entry.0 greater))
        ∙ rest
        ∙ ap (λ (l : List Visited). (place, bytes) ∷ l)
        (sym (ask-one (is_after place) at kept content false
        (ap (λ (p : List ℕ). is_lt (place_cmp place p)) at-is ∙ ap is_lt greater)))
    later (at, Withdrawn n) same greater rest = rest

    -- or it is this one
    first : (one : Placed) → one ≡ entry → place ≡ entry.0 → record_of entry.1 ≡ Some bytes
        → Wanted (one ∷ content)
    first (at, Standing kept) same same-place is =
        let at-is : at ≡ entry.0 = ap (λ (p : Placed). p.0) same in
        let past : AllPast place content =
        subst (λ (p : List ℕ). AllPast p content) (sym same-place) ascends.0 in
        let here-is : at ≡ place = at-is ∙ sym same-place in
        let kept-is : Some kept ≡ Some bytes =
        ap (λ (p : Placed). record_of p.1) same ∙ is in
        let bytes-are : kept ≡ bytes = cc in
        ask-one asked at kept content true (ap asked here-is ∙ least.asked_for)
        ∙ ap (λ (l : List Visited). (at, kept) ∷ l)
        (all-asked asked place content (λ next less. rises place next least.asked_for less) past
        ∙ sym (all-asked (is_after place) place content (λ next less. ap is_lt less) past))
        ∙ ap (λ (p : List ℕ). (p, kept) ∷ others) here-is
        ∙ ap (λ (b : List ℕ). (place, b) ∷ others) bytes-are
        ∙ ap (λ (l : List Visited). (place, bytes) ∷ l)
        (sym (ask-one (is_after place) at kept content false
        (ap (λ (p : List ℕ). is_lt (place_cmp place p)) here-is
        ∙ ap is_lt (same_is_equal place))))
    first (at, Withdrawn n) same same-place is =
        absurd (none-some bytes (ap (λ (p : Placed). record_of p.1) same ∙ is))

    by-order : (o : Ordering) → place_cmp place entry.0 ≡ o
        → found_by o (record_of entry.1) (record_at content place) ≢ None
        → found_by o (record_of entry.1) (record_at content place) ≡ Some bytes
        → (IsLeast asked (HasRecord content) place → record_at content place ≡ Some bytes
        → Wanted content)
        → Wanted (entry ∷ content)
    by-order Less is has there rest = absurd (has (none-before place content
        (all_below place entry.0 (places_of content) is ascends.0)))
    by-order Equal is has there rest = first entry refl (equal_places place entry.0 is) there
    by-order Greater is has there rest = later entry refl is (rest (rest-least has) there)

-- Where no place that is asked for has a record, there are none.
pub none-asked : (asked : List ℕ → Bool) (content : Content) → Ascends content
    → IsLeastWith asked (HasRecord content) None → records-asked asked content ≡ []
unfolding IsStrictlySortedBy
none-asked asked [] ascends none = refl
none-asked asked ((at, Standing bytes) ∷ content) ascends none =
    ask-one asked at bytes content false
    (unless (asked at) (λ after. none at after (here at bytes content)))
    ∙ none-asked asked content ascends.1 (λ place after has.
    none place after (further (at, Standing bytes) content place ascends.0 has))
none-asked asked ((at, Withdrawn n) ∷ content) ascends none =
    none-asked asked content ascends.1 (λ place after has.
    none place after (further (at, Withdrawn n) content place ascends.0 has))

-- ---- the places that come in a walk

-- a place past one that comes comes, too
pub rises-coming : (from last : Option (List ℕ)) → Rises (is_coming from last)
rises-coming None None place next comes less = refl
rises-coming (Some from) None place next comes less = by-order (place_cmp from place) refl comes
  where
    by-order : (o : Ordering) → place_cmp from place ≡ o → is_le o ≡ true
        → is_le (place_cmp from next) ≡ true
    by-order Less is le = ap is_le (nat_list_cmp_total.trans from place next is less)
    by-order Equal is le =
        ap is_le (ap (λ (p : List ℕ). place_cmp p next) (equal_places from place is) ∙ less)
    by-order Greater is le = absurd (true≢false (sym le))
rises-coming from (Some last) place next comes less = by-order (place_cmp last place) refl comes
  where
    by-order : (o : Ordering) → place_cmp last place ≡ o → is_lt o ≡ true
        → is_lt (place_cmp last next) ≡ true
    by-order Less is lt = ap is_lt (nat_list_cmp_total.trans last place next is less)
    by-order Equal is lt = absurd (true≢false (sym lt))
    by-order Greater is lt = absurd (true≢false (sym lt))

-- a test that is true keeps all
pub all-true : {X : Type 0} (all : List X) → filter (λ (one : X). true) all ≡ all
all-true [] = refl
all-true {X} (one ∷ all) = ap (λ (l : List X). one ∷ l) (all-true all)
