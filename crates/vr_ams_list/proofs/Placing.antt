-- The entries that are listed are in the catalogs of volumes that are there, and that haven't
-- stopped where LISTCAT isn't refused.
use Rattle.std.proofs.Common.{◌≡◌, ◌∙◌, ◌+◌, ℕ, zero, suc, Bool, true, false, List, [], ◌∷◌}
use Rattle.std.proofs.Common.{All, cond, get_or, length, refl, subst, sym, arith, true≢false}
use Rattle.std.proofs.Common.{Some, None, Result, Ok, Err, IfOk, if◌then◌else◌}
use Rattle.std.specs.Prelude.{◌&&◌, ◌||◌, ◌==◌, Contains, bytes_eq, is_some, slice_get}
use Rattle.std.specs.List.{filter, find, list_any}
use Rattle.std.proofs.lemmas.List.Elements.{All-append, All-cons, All-contains_itself, All-filter}
use Rattle.std.proofs.lemmas.List.Elements.{All-head, All-map, All-nil, All-tail, filter_passes}
use Rattle.std.proofs.lemmas.List.Folds.{list_any_at}
use Rattle.std.proofs.lemmas.Option.{get_or_from_slice_get, same_Some, slice_get_within}
use Rattle.vr_catalog.specs.declared.entry.CatEntry.{CatEntry}
use Rattle.vr_trace.specs.Shown.{Shown, has_name}
use Rattle.vr_ams_list.specs.Faults.{failure_of, has_any, has_stopped, is_missing, is_needed}
use Rattle.vr_ams_list.specs.Faults.{not_found, stopped}
use Rattle.vr_ams_list.specs.Listing.{Listed, by_name, comes_before, entered, entries_of}
use Rattle.vr_ams_list.specs.Listing.{is_among, is_listed, listed_entries, listed_from, listed_on}
use Rattle.vr_ams_list.specs.Places.{IsGoing, IsThere}

-- ---- what holds of entries holds of them by their names

module _ (P : Listed → Type 0) where
  put-first : (b : Bool) (listed other : Listed) (others later : List Listed) → P listed
      → P other → All P others → All P later
      → All P (cond b (listed ∷ other ∷ others) (other ∷ later))
  put-first true listed other others later one two rest more =
      All-cons P listed (other ∷ others) one (All-cons P other others two rest)
  put-first false listed other others later one two rest more = All-cons P other later two more

  entered-all : (listed : Listed) (others : List Listed) → P listed → All P others
      → All P (entered listed others)
  entered-all listed [] one rest = All-cons P listed [] one (All-nil P)
  entered-all listed (other ∷ others) one rest =
      put-first (comes_before listed other) listed other others (entered listed others) one
      (All-head P other others rest) (All-tail P other others rest)
      (entered-all listed others one (All-tail P other others rest))

  by-name-all : (listed : List Listed) → All P listed → All P (by_name listed)
  by-name-all [] all = All-nil P
  by-name-all (listed ∷ others) all = entered-all listed (by_name others)
      (All-head P listed others all) (by-name-all others (All-tail P listed others all))

-- ---- they are there

abbrev at-number : ℕ → CatEntry → Listed
at-number number entry = record { volume = number; entry = entry }

-- the entries of a volume
on-volume : (volumes : List Shown) (number : ℕ) (volume : Shown)
    → slice_get volumes number ≡ Some volume
    → All (IsThere volumes) (listed_on number volume.catalog)
on-volume volumes number volume is =
    All-map (IsThere volumes) (at-number number) volume.catalog (λ place spare near. record {
      volume = volume;
      volume_is = is;
      has = All-contains_itself volume.catalog place spare near;
    })

-- these volumes stand among all from this number on
abbrev StandFrom : ℕ → List Shown → List Shown → Type 0
StandFrom number volumes left = (place : ℕ) (volume : Shown) → slice_get left place ≡ Some volume
    → slice_get volumes (number + place) ≡ Some volume

one-on : (number place : ℕ) → number + suc place ≡ (number + 1) + place
one-on number place = omega arith

none-on : (number : ℕ) → number + 0 ≡ number
none-on number = omega arith

on-from : (volumes left : List Shown) (number : ℕ) → StandFrom number volumes left
    → All (IsThere volumes) (listed_from number left)
on-from volumes [] number stand = All-nil (IsThere volumes)
on-from volumes (volume ∷ left) number stand =
    All-append (IsThere volumes) (listed_on number volume.catalog) (listed_from (number + 1) left)
    (on-volume volumes number volume (subst (λ (n : ℕ). slice_get volumes n ≡ Some volume)
    (none-on number) (stand zero volume refl)))
    (on-from volumes left (number + 1) (λ place other is.
    subst (λ (n : ℕ). slice_get volumes n ≡ Some other) (one-on number place)
    (stand (suc place) other is)))

zero-on : (number : ℕ) → number ≡ 0 + number
zero-on number = omega arith

all-there : (volumes : List Shown) (names : List (List ℕ))
    → All (IsThere volumes) (listed_entries volumes names)
all-there volumes names =
    by-name-all (IsThere volumes) (filter (is_listed names) (entries_of volumes))
    (All-filter (is_listed names) (IsThere volumes) (entries_of volumes)
    (on-from volumes volumes 0 (λ place volume is.
    subst (λ (n : ℕ). slice_get volumes n ≡ Some volume) (zero-on place) is)))

-- ---- their volumes are needed

find-any : {X : Type 0} (p : X → Bool) (xs : List X) → is_some (find p xs) ≡ list_any p xs
find-any {X} p [] = refl
find-any {X} p (x ∷ xs) = by (p x) (find-any p xs)
  where
    by : (b : Bool) → is_some (find p xs) ≡ list_any p xs
        → is_some (cond b (Some x) (find p xs)) ≡ (b || list_any p xs)
    by true rest = refl
    by false rest = rest

either : (a b : Bool) → b ≡ true → (a || b) ≡ true
either true b is = refl
either false b is = is

-- a weaker test finds what a test finds
any-weaker : {X : Type 0} (p q : X → Bool) → ((x : X) → p x ≡ true → q x ≡ true) → (xs : List X)
    → list_any p xs ≡ true → list_any q xs ≡ true
any-weaker {X} p q weaker [] is = absurd (true≢false (sym is))
any-weaker {X} p q weaker (x ∷ xs) is = by (p x) (weaker x) is (any-weaker p q weaker xs)
  where
    by : (b : Bool) → (b ≡ true → q x ≡ true) → (b || list_any p xs) ≡ true
        → (list_any p xs ≡ true → list_any q xs ≡ true) → (q x || list_any q xs) ≡ true
    by true one is rest = rw (one refl) refl
    by false one is rest = either (q x) (list_any q xs) (rest is)

-- an entry of a catalog is found by its name
named-found : (volume : Shown) (entry : CatEntry) (name : List ℕ) → Contains volume.catalog entry
    → bytes_eq entry.name name ≡ true → has_name volume name ≡ true
named-found volume entry name has same =
    find-any (λ (one : CatEntry). bytes_eq one.name name) volume.catalog
    ∙ list_any_at (λ (one : CatEntry). bytes_eq one.name name) volume.catalog has.0 entry has.1
    (subst (λ (one : CatEntry). bytes_eq one.name name ≡ true) (sym has.2) same)

needed : (names : List (List ℕ)) (volume : Shown) (listed : Listed)
    → Contains volume.catalog listed.entry → is_listed names listed ≡ true
    → is_needed names volume ≡ true
needed names volume listed has is = by (length names == 0) is
  where
    by : (b : Bool) → (b || is_among names listed.entry.name) ≡ true
        → (b || has_any volume names) ≡ true
    by true is = refl
    by false is = any-weaker (bytes_eq listed.entry.name) (has_name volume)
        (λ name same. named-found volume listed.entry name has same) names is

-- ---- and none of these has stopped

none-refused : (volumes : List Shown) (names : List (List ℕ)) → failure_of volumes names ≡ None
    → has_stopped volumes names ≡ false
none-refused volumes names none = by (is_missing volumes names) (has_stopped volumes names) none
  where
    by : (missing stop : Bool) → (if missing then Some not_found else (if stop then Some stopped
        else None)) ≡ None → stop ≡ false
    by true stop none = absurd (cc)
    by false true none = absurd (cc)
    by false false none = refl

-- a volume that has stopped, and has to be there
abbrev stops : List (List ℕ) → Shown → Bool
stops names volume = volume.stopped && is_needed names volume

none-stopped : (volumes : List Shown) (names : List (List ℕ)) (number : ℕ) (volume : Shown)
    → has_stopped volumes names ≡ false → slice_get volumes number ≡ Some volume
    → is_needed names volume ≡ true → volume.stopped ≡ false
none-stopped volumes names number volume none at needs = by volume.stopped refl
  where
    both : volume.stopped ≡ true → stops names volume ≡ true
    both is = rw (is, needs) refl

    by : (b : Bool) → volume.stopped ≡ b → b ≡ false
    by false is = refl
    by true is = absurd (true≢false (sym (list_any_at (stops names) volumes number volume
        (slice_get_within volumes number volume at)
        (subst (λ (one : Shown). stops names one ≡ true)
        (sym (get_or_from_slice_get volumes number volume volume at)) (both is))) ∙ none))

all-going : (volumes : List Shown) (names : List (List ℕ)) → failure_of volumes names ≡ None
    → All (IsGoing volumes) (listed_entries volumes names)
all-going volumes names none place spare near volume at =
    let listed : Listed = get_or (listed_entries volumes names) place spare in
    let there : IsThere volumes listed = all-there volumes names place spare near in
    let is : is_listed names listed ≡ true =
    by-name-all (λ (one : Listed). is_listed names one ≡ true)
    (filter (is_listed names) (entries_of volumes))
    (filter_passes (is_listed names) (entries_of volumes)) place spare near in
    let same : there.volume ≡ volume =
    same_Some there.volume volume (sym there.volume_is ∙ at) in
    none-stopped volumes names listed.volume volume (none-refused volumes names none) at
    (needed names volume listed
    (subst (λ (one : Shown). Contains one.catalog listed.entry) same there.has) is)

-- ---- so it is of a list of them

pub there-if : {X E : Type 0} (result : Result X E) (items : X → List Listed)
    (volumes : List Shown) (names : List (List ℕ))
    → IfOk result (λ it. items it ≡ listed_entries volumes names)
    → IfOk result (λ it. All (IsThere volumes) (items it))
there-if (Err error) items volumes names are = tt
there-if (Ok it) items volumes names are =
    subst (All (IsThere volumes)) (sym are) (all-there volumes names)

pub going-if : {X E : Type 0} (result : Result X E) (items : X → List Listed)
    (volumes : List Shown) (names : List (List ℕ)) → failure_of volumes names ≡ None
    → IfOk result (λ it. items it ≡ listed_entries volumes names)
    → IfOk result (λ it. All (IsGoing volumes) (items it))
going-if (Err error) items volumes names none are = tt
going-if (Ok it) items volumes names none are =
    subst (All (IsGoing volumes)) (sym are) (all-going volumes names none)
