-- The walk that counts the records of a content: the next one is the first of those that come.
use Rattle.std.proofs.Common.{◌≡◌, ◌+◌, ◌-◌, ◌^◌, ◌<◌, ℕ, suc, Bool, true, false, cond, List}
use Rattle.std.proofs.Common.{[], ◌∷◌, Option, Some, None, refl, sym, ap, ◌∙◌, arith, filter}
use Rattle.std.proofs.Common.{length}
use Rattle.vr_types.specs.Content.{Ascends, Content, Placed, Standing, Withdrawn, record_at}
use Rattle.vr_trace.specs.Visitors.{Visited}
use Rattle.vr_volume.specs.PutBack.{standing}
use Rattle.vr_answer.specs.Least.{IsLeastWith}
use Rattle.vr_event.specs.Counts.{IsWalked, as_told, records_after, records_in}
use Rattle.vr_event.specs.Searching.{HasRecord}
use Rattle.vr_event.specs.Walking.{is_coming}
use Rattle.vr_event.proofs.RecordLists.{all-true, next-asked, none-asked, records-asked}
use Rattle.vr_event.proofs.RecordLists.{rises-coming}

-- ---- how many come

-- at the start all do,
all-after : (content : Content) → records_after None content ≡ records_in content
all-after content = ap length (all-true (standing content))

-- and as many as are listed
listed : (last : Option (List ℕ)) (content : Content)
    → records_after last content ≡ length (records-asked (is_coming None last) content)
listed last [] = refl
listed last ((at, Standing bytes) ∷ content) =
    by-test (is_coming None last at) (listed last content)
  where
    first : Placed
    first = (at, Standing bytes)

    rest : Content
    rest = filter (λ (entry : Placed). is_coming None last entry.0) (standing content)

    others : List Visited
    others = records-asked (is_coming None last) content

    by-test : (test : Bool) → length rest ≡ length others
        → length (cond test (first ∷ rest) rest) ≡ length (cond test ((at, bytes) ∷ others) others)
    by-test true same = ap suc same
    by-test false same = same
listed last ((at, Withdrawn n) ∷ content) = listed last content

-- The next is the first of them: those after it are one fewer.
next-walked : (last : Option (List ℕ)) (place : List ℕ) (content : Content) → Ascends content
    → IsLeastWith (is_coming None last) (HasRecord content) (Some place)
    → records_after last content ≡ suc (records_after (Some place) content)
next-walked last place content ascends least = by-found (record_at content place) refl
  where
    by-found : (found : Option (List ℕ)) → record_at content place ≡ found
        → records_after last content ≡ suc (records_after (Some place) content)
    by-found None none = absurd (least.has none)
    by-found (Some bytes) there =
        listed last content
        ∙ ap length (next-asked (is_coming None last) place bytes content
        (rises-coming None last) ascends least there)
        ∙ ap suc (sym (listed (Some place) content))

-- where there is no next one, none comes
none-after : (last : Option (List ℕ)) (content : Content) → Ascends content
    → IsLeastWith (is_coming None last) (HasRecord content) None → records_after last content ≡ 0
none-after last content ascends none =
    listed last content ∙ ap length (none-asked (is_coming None last) content ascends none)

-- ---- the walk

-- it begins,
pub walk-begins : (content : Content) → IsWalked 0 None content
walk-begins content = omega (arith, all-after content)

-- goes on,
pub walk-goes-on : (counted : ℕ) (last : Option (List ℕ)) (place : List ℕ) (content : Content)
    → Ascends content → IsWalked counted last content
    → IsLeastWith (is_coming None last) (HasRecord content) (Some place)
    → IsWalked (counted + 1) (Some place) content
walk-goes-on counted last place content ascends walked least =
    omega (arith, walked, next-walked last place content ascends least)

-- and ends at the last record,
pub walk-ends : (counted : ℕ) (last : Option (List ℕ)) (content : Content) → Ascends content
    → counted < 2 ^ 64 - 1 → IsWalked counted last content
    → IsLeastWith (is_coming None last) (HasRecord content) None
    → counted ≡ as_told (records_in content)
walk-ends counted last content ascends fits walked none =
    omega (arith, fits, walked, none-after last content ascends none)

-- or where no more can be said
pub walk-fills : (counted : ℕ) (last : Option (List ℕ)) (content : Content)
    → counted ≡ 2 ^ 64 - 1 → IsWalked counted last content
    → 2 ^ 64 - 1 ≡ as_told (records_in content)
walk-fills counted last content full walked = omega (arith, full, walked)
