-- What a read comes to is the least place that it asks for.
use Rattle.std.proofs.Common.{◌≡◌, ◌≢◌, ◌⊎◌, ℕ, Bool, true, false, not, ◌==◌, ◌&&◌, ◌||◌, cond}
use Rattle.std.proofs.Common.{List, []}
use Rattle.std.proofs.Common.{◌∷◌, ◌++◌, Option, Some, None, inl, inr, refl, sym, ap, ◌∙◌, subst}
use Rattle.std.proofs.Common.{filter}
use Rattle.std.proofs.lemmas.Bool.{true≢false}
use Rattle.std.proofs.lemmas.Cmp.{nat_list_cmp_total}
use Rattle.std.proofs.lemmas.List.Folds.{list_any-append}
use Rattle.std.proofs.lemmas.Map.Text.{is_eq-slice_cmp}
use Rattle.std.proofs.lemmas.Option.{none-some}
use Rattle.std.proofs.lemmas.Slice.Eq.{bytes_eq-Decides}
use Rattle.std.specs.Prelude.{bytes_eq}
use Rattle.std.specs.List.{AllByRecursion, cons_option, filter_map, list_any}
use Rattle.std.specs.List.Sorted.{IsStrictlySortedBy}
use Rattle.std.specs.Option.{is_some, option_and_then, option_map, option_or}
use Rattle.std.specs.Ordering.{is_eq, is_le, ordering_reverse}
use Rattle.std.specs.declared.cmp.Ordering.{Ordering}
use Rattle.std.specs.declared.cmp.Ordering.TheVariants.{Less, Equal as Same, Greater}
use Rattle.vr_altkey.proofs.CallerLemmas.{equal_places}
use Rattle.vr_catalog.specs.declared.definition.Definition.{Definition}
use Rattle.vr_types.specs.Content.{Ascends, Content, Standing, Withdrawn, found_by, place_cmp}
use Rattle.vr_types.specs.Content.{places_of, record_at, record_of}
use Rattle.vr_types.specs.Locks.{same_unit}
use Rattle.vr_types.specs.declared.position.Stand.{Stand}
use Rattle.vr_types.specs.declared.request.Find.{Find}
use Rattle.vr_types.specs.declared.request.Find.TheVariants.{Next, Equal, AtLeast}
use Rattle.vr_types.specs.declared.request.Request.{Request}
use Rattle.vr_types.specs.declared.request.Request.TheVariants.{Get, Point, Add, Update, Erase}
use Rattle.vr_types.specs.declared.request.Request.TheVariants.{EndReq, Commit, Backout}
use Rattle.vr_types.specs.declared.unit.Unit.{Unit as UnitOfRecovery}
use Rattle.vr_history.specs.Case.{Case, find_of, sees_kept}
use Rattle.vr_history.specs.Change.{place_asked, place_changed, record_held}
use Rattle.vr_history.specs.Found.{Candidate, Standing_at, candidate_in, found}
use Rattle.vr_history.specs.Found.{found_from, is_asked, kept_by_others, lower_of, lowest, place_in}
use Rattle.vr_history.specs.Found.{place_read, records_in, seen_by, standing_at}
use Rattle.vr_history.specs.Opened.{Opened, Cluster, base_of, opened}
use Rattle.vr_history.specs.State.{BeforeImage}
use Rattle.vr_answer.specs.Least.{AreLeast, ComesTo, IsLeast, IsLeastWith, IsReadOf, KeptAt}
use Rattle.vr_answer.specs.Least.{Searches, StandsAt, asks_for, brings_back, first_seen, found_at}
use Rattle.vr_answer.specs.Least.{lesser}
use Rattle.vr_answer.proofs.FileLemmas.{option_or-none}

-- ---- the order of places

turned : (a b : List ℕ) → place_cmp a b ≡ Greater → place_cmp b a ≡ Less
turned a b greater = nat_list_cmp_total.antisymm b a ∙ ap ordering_reverse greater

-- below a place that is no higher than another
below_both : (lower a b : List ℕ) → place_cmp lower a ≡ Less → (o : Ordering) → place_cmp a b ≡ o
    → is_le o ≡ true → place_cmp lower b ≡ Less
below_both lower a b under Less is most = nat_list_cmp_total.trans lower a b under is
below_both lower a b under Same is most =
    ap (λ (p : List ℕ). place_cmp lower p) (sym (equal_places a b is)) ∙ under
below_both lower a b under Greater is most = absurd (true≢false (sym most))

-- a place isn't below itself
not_below : (lower place : List ℕ) → place_cmp lower place ≡ Less
    → bytes_eq lower place ≡ true → ⊥
not_below lower place less same =
    true≢false (sym same ∙ sym (is_eq-slice_cmp lower place) ∙ ap is_eq less)

same_bytes : (place : List ℕ) → bytes_eq place place ≡ true
same_bytes place = (bytes_eq-Decides place place).1 refl

-- ---- the least of the places that are asked for

module _ (asked : List ℕ → Bool) where
  -- there is one at most
  least_one : (Has : List ℕ → Type 0) (a b : Option (List ℕ)) → IsLeastWith asked Has a
      → IsLeastWith asked Has b → a ≡ b
  least_one Has None None is other = refl
  least_one Has None (Some b) is other = absurd (is b other.asked_for other.has)
  least_one Has (Some a) None is other = absurd (other a is.asked_for is.has)
  least_one Has (Some a) (Some b) is other = by_order (place_cmp a b) refl
    where
      by_order : (o : Ordering) → place_cmp a b ≡ o → Some a ≡ Some b
      by_order Less less = absurd (other.lower_none a is.asked_for less is.has)
      by_order Same same = ap (λ (p : List ℕ). Some p) (equal_places a b same)
      by_order Greater greater =
          absurd (is.lower_none b other.asked_for (turned a b greater) other.has)

  -- with what is there at the same places that are asked for
  least_as : (Has Other : List ℕ → Type 0)
      → ((p : List ℕ) → asked p ≡ true → Has p → Other p)
      → ((p : List ℕ) → asked p ≡ true → Other p → Has p)
      → (at : Option (List ℕ)) → IsLeastWith asked Has at → IsLeastWith asked Other at
  least_as Has Other to from None is = λ p passes other. is p passes (from p passes other)
  least_as Has Other to from (Some at) is = record {
    asked_for = is.asked_for;
    has = to at is.asked_for is.has;
    lower_none =
        λ lower passes less other. is.lower_none lower passes less (from lower passes other);
  }

  -- of what is there in either of two ways
  least_both : (Has Other : List ℕ → Type 0) (a b : Option (List ℕ)) → IsLeastWith asked Has a
      → IsLeastWith asked Other b → IsLeastWith asked (λ p. Has p ⊎ Other p) (lesser a b)
  least_both Has Other None None is other = λ p passes either.
      elim either [
        | inl has ↦ is p passes has
        | inr has ↦ other p passes has
      ]
  least_both Has Other None (Some b) is other = record {
    asked_for = other.asked_for;
    has = inr other.has;
    lower_none = λ lower passes less either.
        elim either [
          | inl has ↦ is lower passes has
          | inr has ↦ other.lower_none lower passes less has
        ];
  }
  least_both Has Other (Some a) None is other = record {
    asked_for = is.asked_for;
    has = inl is.has;
    lower_none = λ lower passes less either.
        elim either [
          | inl has ↦ is.lower_none lower passes less has
          | inr has ↦ other lower passes has
        ];
  }
  least_both Has Other (Some a) (Some b) is other = by_order (place_cmp a b) refl
    where
      first : (o : Ordering) → place_cmp a b ≡ o → is_le o ≡ true
          → IsLeast asked (λ p. Has p ⊎ Other p) a
      first o order most = record {
        asked_for = is.asked_for;
        has = inl is.has;
        lower_none = λ lower passes less either.
            elim either [
              | inl has ↦ is.lower_none lower passes less has
              | inr has ↦ other.lower_none lower passes (below_both lower a b less o order most)
                  has
            ];
      }

      second : place_cmp a b ≡ Greater → IsLeast asked (λ p. Has p ⊎ Other p) b
      second greater = record {
        asked_for = other.asked_for;
        has = inr other.has;
        lower_none = λ lower passes less either.
            elim either [
              | inl has ↦ is.lower_none lower passes
                  (nat_list_cmp_total.trans lower b a less (turned a b greater)) has
              | inr has ↦ other.lower_none lower passes less has
            ];
      }

      by_order : (o : Ordering) → place_cmp a b ≡ o
          → IsLeastWith asked (λ p. Has p ⊎ Other p) (cond (is_le o) (Some a) (Some b))
      by_order Less order = first Less order refl
      by_order Same order = first Same order refl
      by_order Greater order = second order

-- ---- the candidates of a list of records

abbrev is_listed : List Standing_at → List ℕ → Bool
is_listed records place = list_any (λ listed. bytes_eq place listed.0) records

abbrev Listed : List Standing_at → List ℕ → Type 0
Listed records place = is_listed records place ≡ true

either_true : (a b : Bool) → (a || b) ≡ true → (a ≡ true) ⊎ (b ≡ true)
either_true true b is = inl refl
either_true false b is = inr is

or_true : (a b : Bool) → (a ≡ true) ⊎ (b ≡ true) → (a || b) ≡ true
or_true true b is = refl
or_true false b is =
    elim is [
      | inl first ↦ absurd (true≢false (sym first))
      | inr second ↦ second
    ]

module _ (definition : Definition) (stand : Stand) (find : Find) where
  abbrev asked : List ℕ → Bool
  asked = asks_for stand find

  abbrev asked_in : List Candidate → List Candidate
  asked_in list = filter (is_asked (Cluster definition) stand find) list

  abbrev first_in : List Standing_at → Option (List ℕ)
  first_in records =
      option_map (λ candidate. candidate.at)
      (lowest (asked_in (filter_map (candidate_in (Cluster definition)) records)))

  asked_is : (find : Find) (candidate : Candidate)
      → is_asked (Cluster definition) stand find candidate ≡ asks_for stand find candidate.at
  asked_is Next candidate = refl
  asked_is (Equal place) candidate = refl
  asked_is (AtLeast place) candidate = refl

  chosen : (b : Bool) (one other : Candidate)
      → Some (cond b one other).at ≡ cond b (Some one.at) (Some other.at)
  chosen true one other = refl
  chosen false one other = refl

  lower_at : (one : Candidate) (o : Option Candidate)
      → Some (lower_of one o).at
      ≡ lesser (Some one.at) (option_map (λ candidate. candidate.at) o)
  lower_at one None = refl
  lower_at one (Some other) = chosen (is_le (place_cmp one.at other.at)) one other

  one_least : (place : List ℕ) → asked place ≡ true
      → IsLeastWith asked (λ p. bytes_eq p place ≡ true) (Some place)
  one_least place passes = record {
    asked_for = passes;
    has = same_bytes place;
    lower_none = λ lower further less same. not_below lower place less same;
  }

  first_least : (records : List Standing_at)
      → IsLeastWith asked (Listed records) (first_in records)
  first_least [] = λ p passes listed. true≢false (sym listed)
  first_least (entry ∷ records) =
      by_test (is_asked (Cluster definition) stand find first)
      (sym (asked_is find first)) (first_least records)
    where
      first : Candidate
      first = record { at = entry.0; base = entry.0; bytes = entry.1 }

      others : List Candidate
      others = asked_in (filter_map (candidate_in (Cluster definition)) records)

      by_test : (b : Bool) → asked entry.0 ≡ b
          → IsLeastWith asked (Listed records) (first_in records)
          → IsLeastWith asked (Listed (entry ∷ records))
          (option_map (λ candidate. candidate.at) (lowest (cond b (first ∷ others) others)))
      by_test true passes further =
          subst (IsLeastWith asked (Listed (entry ∷ records)))
          (sym (lower_at first (lowest others)))
          (least_as asked (λ p. (bytes_eq p entry.0 ≡ true) ⊎ Listed records p)
          (Listed (entry ∷ records))
          (λ p asks is. or_true (bytes_eq p entry.0) (is_listed records p) is)
          (λ p asks is. either_true (bytes_eq p entry.0) (is_listed records p) is)
          (lesser (Some entry.0) (first_in records))
          (least_both asked (λ p. bytes_eq p entry.0 ≡ true) (Listed records) (Some entry.0)
          (first_in records) (one_least entry.0 passes) further))
      by_test false fails further =
          least_as asked (Listed records) (Listed (entry ∷ records))
          (λ p asks is. or_true (bytes_eq p entry.0) (is_listed records p) (inr is))
          (λ p asks is. elim (either_true (bytes_eq p entry.0) (is_listed records p) is) [
            | inl here ↦ absurd (true≢false (sym asks
                ∙ ap asked ((bytes_eq-Decides p entry.0).0 here) ∙ fails))
            | inr later ↦ later
          ])
          (first_in records) further

-- ---- the records of a content

none_below : (place : List ℕ) (content : Content)
    → AllByRecursion (λ other. place_cmp place other ≡ Less) (places_of content)
    → Listed (records_in content) place → ⊥
none_below place [] below listed = true≢false (sym listed)
none_below place ((at, Standing bytes) ∷ content) below listed =
    elim (either_true (bytes_eq place at) (is_listed (records_in content) place) listed) [
      | inl here ↦ not_below place at below.0 here
      | inr later ↦ none_below place content below.1 later
    ]
none_below place ((at, Withdrawn length) ∷ content) below listed =
    none_below place content below.1 listed

apart : (place at : List ℕ) (o : Ordering) → place_cmp place at ≡ o → is_eq o ≡ false
    → bytes_eq place at ≡ true → ⊥
apart place at o order unequal same =
    true≢false (sym same ∙ sym (is_eq-slice_cmp place at) ∙ ap is_eq order ∙ unequal)

together : (place at : List ℕ) → place_cmp place at ≡ Same → bytes_eq place at ≡ true
together place at order = sym (is_eq-slice_cmp place at) ∙ ap is_eq order

-- a record stands where one is listed
pub standing_listed : (content : Content) (place : List ℕ) → record_at content place ≢ None
    → Listed (records_in content) place
standing_listed [] place stands = absurd (stands refl)
standing_listed ((at, Standing bytes) ∷ content) place stands =
    by_order (place_cmp place at) refl stands (standing_listed content place)
  where
    by_order : (o : Ordering) → place_cmp place at ≡ o
        → found_by o (Some bytes) (record_at content place) ≢ None
        → (record_at content place ≢ None → Listed (records_in content) place)
        → Listed ((at, bytes) ∷ records_in content) place
    by_order Less order here further =
        or_true (bytes_eq place at) (is_listed (records_in content) place) (inr (further here))
    by_order Same order here further =
        or_true (bytes_eq place at) (is_listed (records_in content) place)
        (inl (together place at order))
    by_order Greater order here further =
        or_true (bytes_eq place at) (is_listed (records_in content) place) (inr (further here))
standing_listed ((at, Withdrawn length) ∷ content) place stands =
    by_order (place_cmp place at) stands (standing_listed content place)
  where
    by_order : (o : Ordering) → found_by o None (record_at content place) ≢ None
        → (record_at content place ≢ None → Listed (records_in content) place)
        → Listed (records_in content) place
    by_order Less here further = further here
    by_order Same here further = absurd (here refl)
    by_order Greater here further = further here

-- and is listed where it stands
pub listed_standing : (content : Content) → Ascends content → (place : List ℕ)
    → Listed (records_in content) place → record_at content place ≢ None
unfolding IsStrictlySortedBy
listed_standing [] ascends place listed = absurd (true≢false (sym listed))
listed_standing ((at, Standing bytes) ∷ content) ascends place listed =
    by_order (place_cmp place at) refl (listed_standing content ascends.1 place)
  where
    later : (o : Ordering) → place_cmp place at ≡ o → is_eq o ≡ false
        → Listed (records_in content) place
    later o order unequal =
        elim (either_true (bytes_eq place at) (is_listed (records_in content) place) listed) [
          | inl here ↦ absurd (apart place at o order unequal here)
          | inr further ↦ further
        ]

    by_order : (o : Ordering) → place_cmp place at ≡ o
        → (Listed (records_in content) place → record_at content place ≢ None)
        → found_by o (Some bytes) (record_at content place) ≢ None
    by_order Less order further = further (later Less order refl)
    by_order Same order further = λ none. none-some bytes (sym none)
    by_order Greater order further = further (later Greater order refl)
listed_standing ((at, Withdrawn length) ∷ content) ascends place listed =
    by_order (place_cmp place at) refl (listed_standing content ascends.1 place)
  where
    by_order : (o : Ordering) → place_cmp place at ≡ o
        → (Listed (records_in content) place → record_at content place ≢ None)
        → found_by o None (record_at content place) ≢ None
    by_order Less order further = further listed
    by_order Same order further = λ none. none_below place content
        (subst (λ (p : List ℕ). AllByRecursion (λ other. place_cmp p other ≡ Less)
        (places_of content)) (sym (equal_places place at order)) ascends.0) listed
    by_order Greater order further = further listed

-- ---- the records that others may bring back

one_kept : (place at : List ℕ) (others : List Standing_at) (o : Option (List ℕ))
    → is_listed (cons_option (option_map (λ bytes. (at, bytes)) o) others) place
    ≡ ((is_some o && bytes_eq place at) || is_listed others place)
one_kept place at others None = refl
one_kept place at others (Some bytes) = refl

-- one is listed at a place exactly where a before-image brings it back there
pub kept_any : (unit : UnitOfRecovery) (part : ℕ) (place : List ℕ) (befores : List BeforeImage)
    → list_any (λ listed. bytes_eq place listed.0) (kept_by_others unit part befores)
    ≡ list_any (brings_back unit part place) befores
kept_any unit part place [] = refl
kept_any unit part place (kept ∷ befores) =
    by_test (not (same_unit unit kept.unit) && kept.part == part)
    (kept_any unit part place befores)
  where
    others : List BeforeImage
    others = filter (λ kept. not (same_unit unit kept.unit) && kept.part == part) befores

    by_test : (b : Bool)
        → is_listed (kept_by_others unit part befores) place
        ≡ list_any (brings_back unit part place) befores
        → is_listed (filter_map (λ kept. standing_at kept.place kept.old)
        (cond b (kept ∷ others) others)) place
        ≡ ((b && (is_some (option_and_then record_of kept.old) && bytes_eq place kept.place))
        || list_any (brings_back unit part place) befores)
    by_test true further =
        one_kept place kept.place (kept_by_others unit part befores)
        (option_and_then record_of kept.old)
        ∙ ap (λ (b : Bool). (is_some (option_and_then record_of kept.old)
        && bytes_eq place kept.place) || b) further
    by_test false further = further

-- ---- a read of a cluster

module _ (case : Case) (definition : Definition) (stand : Stand) (find : Find)
    (standing kept : Option (List ℕ)) (reads : IsReadOf case definition stand find)
    (least : AreLeast case stand find standing kept) where
  abbrev records : List Standing_at
  records = records_in (case.state.contents (base_of case))

  abbrev others : List Standing_at
  others = kept_by_others case.unit (base_of case) case.state.befores

  standing_least : IsLeastWith (asks_for stand find) (Listed records) standing
  standing_least =
      least_as (asks_for stand find) (StandsAt case) (Listed records)
      (λ p asks is. standing_listed (case.state.contents (base_of case)) p is)
      (λ p asks is. listed_standing (case.state.contents (base_of case)) reads.ascends p is)
      standing least.stands

  both_listed : (p : List ℕ) → (Listed records p ⊎ KeptAt case p) → Listed (records ++ others) p
  both_listed p is =
      list_any-append (λ listed. bytes_eq p listed.0) records others
      ∙ or_true (is_listed records p) (is_listed others p) is

  listed_both : (p : List ℕ) → Listed (records ++ others) p → (Listed records p ⊎ KeptAt case p)
  listed_both p is =
      either_true (is_listed records p) (is_listed others p)
      (sym (list_any-append (λ listed. bytes_eq p listed.0) records others) ∙ is)

  seen_least : (b : Bool) → sees_kept case.request ≡ b
      → IsLeastWith (asks_for stand find) (Listed (seen_by b case)) (first_seen b standing kept)
  seen_least false sees = standing_least
  seen_least true sees =
      least_as (asks_for stand find) (λ p. Listed records p ⊎ KeptAt case p)
      (Listed (records ++ others)) (λ p asks is. both_listed p is)
      (λ p asks is. listed_both p is) (lesser standing kept)
      (least_both (asks_for stand find) (Listed records) (KeptAt case) standing kept standing_least
      (least.brought_back sees))

  -- what is found comes at the least place
  from_cluster : option_map (λ candidate. candidate.at) (found_from case stand find)
      ≡ first_in definition stand find (seen_by (sees_kept case.request) case)
  from_cluster =
      ap (λ (o : Opened). option_map (λ candidate. candidate.at)
      (lowest (filter (is_asked o stand find)
      (filter_map (candidate_in o) (seen_by (sees_kept case.request) case))))) reads.on

  found_is : found case ≡ found_from case stand find
  found_is =
      ap (λ (o : Option Stand). option_and_then
      (λ stand. option_and_then (found_from case stand) (find_of case.request)) o) reads.stands
      ∙ ap (λ (o : Option Find). option_and_then (found_from case stand) o) reads.finds

  found_is_first : found_at case ≡ first_seen (sees_kept case.request) standing kept
  found_is_first =
      ap (λ (o : Option Candidate). option_map (λ candidate. candidate.at) o) found_is
      ∙ from_cluster
      ∙ least_one (asks_for stand find) (Listed (seen_by (sees_kept case.request) case))
      (first_in definition stand find (seen_by (sees_kept case.request) case))
      (first_seen (sees_kept case.request) standing kept)
      (first_least definition stand find (seen_by (sees_kept case.request) case))
      (seen_least (sees_kept case.request) refl)

pub found_least : (case : Case) (definition : Definition) (stand : Stand) (find : Find)
    (standing kept : Option (List ℕ)) → IsReadOf case definition stand find
    → AreLeast case stand find standing kept
    → found_at case ≡ first_seen (sees_kept case.request) standing kept
found_least case definition stand find standing kept reads least =
    found_is_first case definition stand find standing kept reads least

-- in a cluster it comes at its place in the base
module _ (definition : Definition) (test : Candidate → Bool) where
  abbrev passing : List Standing_at → List Candidate
  passing records = filter test (filter_map (candidate_in (Cluster definition)) records)

  abbrev IsAtBase : Option Candidate → Type 0
  IsAtBase o = option_map (λ candidate. candidate.base) o
      ≡ option_map (λ candidate. candidate.at) o

  lower_in_place : (one : Candidate) → one.base ≡ one.at → (o : Option Candidate) → IsAtBase o
      → IsAtBase (Some (lower_of one o))
  lower_in_place one same None other = ap (λ (p : List ℕ). Some p) same
  lower_in_place one same (Some candidate) other = chosen (is_le (place_cmp one.at candidate.at))
    where
      chosen : (b : Bool) → IsAtBase (Some (cond b one candidate))
      chosen true = ap (λ (p : List ℕ). Some p) same
      chosen false = other

  in_place : (records : List Standing_at) → IsAtBase (lowest (passing records))
  in_place [] = refl
  in_place (entry ∷ records) = by_test (test first) (in_place records)
    where
      first : Candidate
      first = record { at = entry.0; base = entry.0; bytes = entry.1 }

      by_test : (b : Bool) → IsAtBase (lowest (passing records))
          → IsAtBase (lowest (cond b (first ∷ passing records) (passing records)))
      by_test true further = lower_in_place first refl (lowest (passing records)) further
      by_test false further = further

-- a read changes nothing
changes_none : (case : Case) (find : Find) (request : Request) → find_of request ≡ Some find
    → place_asked case request ≡ None
changes_none case find (Get file sought update integrity) finds = refl
changes_none case find (Point file sought) finds = refl
changes_none case find (Add file place bytes) finds = absurd (none-some find finds)
changes_none case find (Update file bytes) finds = absurd (none-some find finds)
changes_none case find (Erase file) finds = absurd (none-some find finds)
changes_none case find (EndReq file) finds = refl
changes_none case find Commit finds = refl
changes_none case find Backout finds = refl

module _ (case : Case) (definition : Definition) (stand : Stand) (find : Find)
    (reads : IsReadOf case definition stand find) where
  place_is : place_read case ≡ place_in (Cluster definition) find (found case)
  place_is =
      ap (λ (o : Option Find). option_and_then (λ find. place_in (opened case) find (found case)) o)
      reads.finds
      ∙ ap (λ (o : Opened). place_in o find (found case)) reads.on

  -- what follows of the place that is read
  comes : (at : Option (List ℕ)) → place_read case ≡ at → ComesTo case at
  comes at is =
      let looked : option_or (place_read case) (place_changed case) ≡ at =
      ap (λ (o : Option (List ℕ)). option_or (place_read case) o)
      (changes_none case find case.request reads.finds)
      ∙ option_or-none (place_read case) ∙ is in
      record {
        place = is;
        bytes = ap (λ (o : Option (List ℕ)). option_and_then (record_held case) o) is;
        looked_at = looked;
        looked_bytes =
            ap (λ (o : Option (List ℕ)). option_and_then (record_held case) o) looked;
      }

  base_is : option_map (λ candidate. candidate.base) (found case) ≡ found_at case
  base_is =
      let from : found case ≡ lowest (passing definition
      (is_asked (Cluster definition) stand find) (seen_by (sees_kept case.request) case)) =
      ap (λ (o : Option Stand). option_and_then
      (λ stand. option_and_then (found_from case stand) (find_of case.request)) o) reads.stands
      ∙ ap (λ (o : Option Find). option_and_then (found_from case stand) o) reads.finds
      ∙ ap (λ (o : Opened). lowest (filter (is_asked o stand find)
      (filter_map (candidate_in o) (seen_by (sees_kept case.request) case)))) reads.on in
      ap (λ (o : Option Candidate). option_map (λ candidate. candidate.base) o) from
      ∙ in_place definition (is_asked (Cluster definition) stand find)
      (seen_by (sees_kept case.request) case)
      ∙ ap (λ (o : Option Candidate). option_map (λ candidate. candidate.at) o) (sym from)

searched : (case : Case) (definition : Definition) (find : Find) → Searches find
    → place_in (Cluster definition) find (found case)
    ≡ option_map (λ candidate. candidate.base) (found case)
searched case definition Next seeks = refl
searched case definition (Equal place) seeks = absurd seeks
searched case definition (AtLeast place) seeks = refl

pub comes_named : (case : Case) (definition : Definition) (stand : Stand) (place : List ℕ)
    → IsReadOf case definition stand (Equal place) → ComesTo case (Some place)
comes_named case definition stand place reads =
    comes case definition stand (Equal place) reads (Some place)
    (place_is case definition stand (Equal place) reads)

pub comes_least : (case : Case) (definition : Definition) (stand : Stand) (find : Find)
    (standing kept : Option (List ℕ)) → IsReadOf case definition stand find → Searches find
    → AreLeast case stand find standing kept
    → ComesTo case (first_seen (sees_kept case.request) standing kept)
comes_least case definition stand find standing kept reads seeks least =
    comes case definition stand find reads (first_seen (sees_kept case.request) standing kept)
    (place_is case definition stand find reads ∙ searched case definition find seeks
    ∙ base_is case definition stand find reads
    ∙ found_least case definition stand find standing kept reads least)
