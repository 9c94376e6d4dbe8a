-- A walk that hands the records of a content to a visitor: those that it handed over and those that
-- come are all of them.
use Rattle.std.proofs.Common.{◌≡◌, ◌+◌, ◌-◌, ◌≤◌, ℕ, Bool, true, false}
use Rattle.std.proofs.Common.{List, [], ◌∷◌, ◌++◌, Option, Some, None, refl, sym, ap, subst}
use Rattle.std.proofs.Common.{◌∙◌}
use Rattle.std.proofs.Common.{arith, length, take}
use Rattle.std.specs.Prelude.{Err, IsErrAnd, IsErrOf, Ok, Result, if◌then◌else◌}
use Rattle.std.proofs.lemmas.List.{append-nil, append_assoc, length-append, take_all}
use Rattle.std.proofs.Math.Seq.{take-append-add, take-append_seam}
use Rattle.vr_types.specs.Content.{Ascends, Content, record_at, records_of}
use Rattle.vr_types.specs.declared.fault.DeviceFault.{DeviceFault}
use Rattle.vr_trace.specs.Visitors.{Visited, visited_by}
use Rattle.vr_answer.specs.Least.{IsLeastWith}
use Rattle.vr_event.specs.Reading.{HasVisited, HasVisitedSome, UnlessMemory}
use Rattle.vr_event.specs.Reading.{first_records, records_from}
use Rattle.vr_event.specs.Searching.{HasRecord}
use Rattle.vr_event.specs.Walking.{is_after, is_coming}
use Rattle.vr_store.specs.Visiting.{after_found}
use Rattle.vr_store.specs.declared.no.LookNo.{LookNo}
use Rattle.vr_store.specs.declared.no.LookNo.TheVariants.{Fault as DeviceFails, Memory}
use Rattle.vr_event.proofs.RecordLists.{all-true, next-asked, none-asked, records-asked}
use Rattle.vr_event.proofs.RecordLists.{rises-coming}

-- ---- the records that come

-- at the start those that are asked for come
coming-first : (from : Option (List ℕ)) (content : Content)
    → records-asked (is_coming from None) content ≡ records_from from content
coming-first None content = all-true (records_of content)
coming-first (Some from) content = refl

-- ---- a visitor

module _ {V : Type 0} (after : V → List ℕ → List ℕ → V) (done : V → Bool) where
  abbrev by : List Visited → V → V
  by = visited_by after done

  -- one that is done stays
  stays-done : (records : List Visited) (visitor : V) → done visitor ≡ true
      → by records visitor ≡ visitor
  stays-done [] visitor is = refl
  stays-done (one ∷ records) visitor is =
      ap (λ (b : Bool). if b then visitor else by records (after visitor one.0 one.1)) is

  -- and one that isn't takes the next
  takes-one : (place bytes : List ℕ) (visitor : V) → done visitor ≡ false
      → by ((place, bytes) ∷ []) visitor ≡ after visitor place bytes
  takes-one place bytes visitor is =
      ap (λ (b : Bool). if b then visitor else after visitor place bytes) is

  visited-append : (one other : List Visited) (visitor : V)
      → by (one ++ other) visitor ≡ by other (by one visitor)
  visited-append [] other visitor = refl
  visited-append (first ∷ one) other visitor =
      by-test (done visitor) refl (visited-append one other (after visitor first.0 first.1))
    where
      next : V
      next = after visitor first.0 first.1

      by-test : (b : Bool) → done visitor ≡ b → by (one ++ other) next ≡ by other (by one next)
          → (if done visitor then visitor else by (one ++ other) next)
          ≡ by other (if done visitor then visitor else by one next)
      by-test true is further =
          ap (λ (c : Bool). if c then visitor else by (one ++ other) next) is
          ∙ sym (stays-done other visitor is)
          ∙ ap (by other)
          (sym (ap (λ (c : Bool). if c then visitor else by one next) is))
      by-test false is further =
          ap (λ (c : Bool). if c then visitor else by (one ++ other) next) is ∙ further
          ∙ ap (by other)
          (sym (ap (λ (c : Bool). if c then visitor else by one next) is))

  -- ---- whatever the device reports

  pub visited-none : (visitor : V) → HasVisited after done visitor visitor
  visited-none visitor = record { records = []; visited = refl }

  -- one more, or none
  pub visited-next : (old now new : V) (place : List ℕ) (found : Option (List ℕ))
      → HasVisited after done old now → done now ≡ false
      → new ≡ after_found after place found now → HasVisited after done old new
  visited-next old now new place None so-far goes-on is =
      record { records = so-far.records; visited = is ∙ so-far.visited }
  visited-next old now new place (Some bytes) so-far goes-on is = record {
    records = so-far.records ++ (place, bytes) ∷ [];
    visited = is ∙ sym (takes-one place bytes now goes-on)
        ∙ ap (by ((place, bytes) ∷ [])) so-far.visited
        ∙ sym (visited-append so-far.records ((place, bytes) ∷ []) old);
  }

  -- ---- the walk

  -- Those that the walk handed over, one in each turn, and those that come are all of them.
  pub record IsHanded (turns : ℕ) (from last : Option (List ℕ)) (content : Content) (old now : V)
      : Type 0 where
    pub handed : List Visited
    pub as_many : length handed ≡ turns
    pub all : handed ++ records-asked (is_coming from last) content ≡ records_from from content
    pub visited : now ≡ by handed old

  -- it begins,
  pub hands-none : (from : Option (List ℕ)) (content : Content) (visitor : V)
      → IsHanded 0 from None content visitor visitor
  hands-none from content visitor = record {
    handed = [];
    as_many = refl;
    all = coming-first from content;
    visited = refl;
  }

  module _ (turns : ℕ) (from last : Option (List ℕ)) (content : Content) (old now : V)
      (walked : IsHanded turns from last content old now) where
    abbrev coming : List Visited
    coming = records-asked (is_coming from last) content

    -- what was handed over are the first of them
    first-handed : take turns (records_from from content) ≡ walked.handed
    first-handed = ap (take turns) (sym walked.all)
        ∙ ap (λ (n : ℕ). take n (walked.handed ++ coming)) (sym walked.as_many)
        ∙ take-append_seam walked.handed coming

    hands-most : now ≡ by (first_records turns from content) old
    hands-most = walked.visited ∙ ap (λ (l : List Visited). by l old) (sym first-handed)

    pub hands-first : HasVisitedSome after done from content old now
    hands-first = record { count = turns; visited = hands-most }

    -- goes on,
    hands-next : (place bytes : List ℕ) (new : V) → Ascends content → done now ≡ false
        → IsLeastWith (is_coming from last) (HasRecord content) (Some place)
        → record_at content place ≡ Some bytes → new ≡ after now place bytes
        → IsHanded (turns + 1) from (Some place) content old new
    hands-next place bytes new ascends goes-on least found is = record {
      handed = walked.handed ++ (place, bytes) ∷ [];
      as_many = length-append walked.handed ((place, bytes) ∷ [])
          ∙ ap (λ (n : ℕ). n + 1) walked.as_many;
      all = append_assoc walked.handed ((place, bytes) ∷ [])
          (records-asked (is_after place) content)
          ∙ ap (λ (l : List Visited). walked.handed ++ l)
          (sym (next-asked (is_coming from last) place bytes content (rises-coming from last)
          ascends least found))
          ∙ walked.all;
      visited = is ∙ sym (takes-one place bytes now goes-on)
          ∙ ap (by ((place, bytes) ∷ [])) walked.visited
          ∙ sym (visited-append walked.handed ((place, bytes) ∷ []) old);
    }

    pub hands-found : (place : List ℕ) (new : V) → Ascends content → done now ≡ false
        → IsLeastWith (is_coming from last) (HasRecord content) (Some place)
        → new ≡ after_found after place (record_at content place) now
        → IsHanded (turns + 1) from (Some place) content old new
    hands-found place new ascends goes-on least is = by-found (record_at content place) refl
      where
        by-found : (found : Option (List ℕ)) → record_at content place ≡ found
            → IsHanded (turns + 1) from (Some place) content old new
        by-found None none = absurd (least.has none)
        by-found (Some bytes) there = hands-next place bytes new ascends goes-on least there
            (is ∙ ap (λ (found : Option (List ℕ)). after_found after place found now) there)

    -- and ends where the visitor is done,
    pub hands-done : (most : ℕ) → turns ≤ most → done now ≡ true
        → now ≡ by (first_records most from content) old
    hands-done most fits is =
        sym (stays-done (take (most - turns) coming) now is)
        ∙ ap (by (take (most - turns) coming)) walked.visited
        ∙ sym (visited-append walked.handed (take (most - turns) coming) old)
        ∙ ap (λ (l : List Visited). by l old)
        (sym (take-append-add walked.handed coming (most - turns))
        ∙ ap (λ (n : ℕ). take n (walked.handed ++ coming))
        (omega (arith, fits, walked.as_many))
        ∙ ap (take most) walked.all)

    -- where no more are counted,
    pub hands-full : (most : ℕ) → turns ≡ most → now ≡ by (first_records most from content) old
    hands-full most full =
        hands-most ∙ ap (λ (n : ℕ). by (first_records n from content) old) full

    -- or where none comes
    pub hands-all : (most : ℕ) → turns ≤ most → Ascends content
        → IsLeastWith (is_coming from last) (HasRecord content) None
        → now ≡ by (first_records most from content) old
    hands-all most fits ascends none =
        walked.visited
        ∙ ap (λ (l : List Visited). by l old)
        (sym (take_all most walked.handed (omega (arith, fits, walked.as_many)))
        ∙ ap (take most) (sym (append-nil walked.handed)
        ∙ ap (λ (l : List Visited). walked.handed ++ l)
        (sym (none-asked (is_coming from last) content ascends none)) ∙ walked.all))

-- ---- a walk that fails

-- what is so anyway
pub unless-any : {T : Type 0} (result : Result T LookNo) (fact : Type 0) → fact
    → UnlessMemory result fact
unless-any (Ok found) fact is = is
unless-any (Err (DeviceFails fault)) fact is = is
unless-any (Err Memory) fact is = tt

-- what is so where the device failed
pub unless-failed : {T U : Type 0} (result : Result T LookNo) (end : LookNo) (fact : Type 0)
    → IsErrAnd result (λ (handed : LookNo). handed ≡ end)
    → ((fault : DeviceFault) → IsErrOf {T = U} (Err end) (DeviceFails fault) → fact)
    → UnlessMemory result fact
unless-failed (Ok found) end fact is failed = absurd is
unless-failed (Err (DeviceFails fault)) end fact is failed =
    failed fault (ap (λ (n : LookNo). Err n) (sym is))
unless-failed (Err Memory) end fact is failed = tt

-- what follows is said, too
pub unless-weaker : {T : Type 0} (result : Result T LookNo) (fact other : Type 0)
    → (fact → other) → UnlessMemory result fact → UnlessMemory result other
unless-weaker (Ok found) fact other follows is = follows is
unless-weaker (Err (DeviceFails fault)) fact other follows is = follows is
unless-weaker (Err Memory) fact other follows is = tt

-- where the device failed it is so
pub failed-so : (end : LookNo) (fault : DeviceFault) (fact : Type 0) → end ≡ DeviceFails fault
    → UnlessMemory {T = Unit {0}} (Err end) fact → fact
failed-so end fault fact is said =
    subst (λ (n : LookNo). UnlessMemory {T = Unit {0}} (Err n) fact) is said
