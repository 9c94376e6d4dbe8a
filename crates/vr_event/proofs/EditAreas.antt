-- The areas of a volume once its catalog is edited: those of a part that goes are free, and the others
-- are of the parts that they were of.
use Rattle.std.proofs.Common.{◌≡◌, ◌≢◌, ◌∙◌, ◌==◌, ◌+◌, ◌-◌, ◌<◌, ◌||◌, ℕ, Bool, true}
use Rattle.std.proofs.Common.{false, zero, suc}
use Rattle.std.proofs.Common.{not, cond, List, [], ◌∷◌, Option, Some, None, refl, sym, ap, subst}
use Rattle.std.proofs.Common.{arith, length, filter, get_or, nat_eq, ne_eqb, set, if◌then◌else◌}
use Rattle.std.proofs.Common.{true≢false}
use Rattle.std.specs.List.{AllByRecursion, find, list_any, swap}
use Rattle.std.specs.List.Sorted.{IsPermutation}
use Rattle.std.specs.Option.{option_map_or}
use Rattle.std.proofs.lemmas.Bool.Decides.{Decides-eqb, nat_tests}
use Rattle.std.proofs.lemmas.List.{length-map}
use Rattle.std.proofs.lemmas.List.Sorted.{IsPermutation-append_comm, IsPermutation-append_left}
use Rattle.std.proofs.lemmas.List.Sorted.{IsPermutation-cons, IsPermutation-keeps}
use Rattle.std.proofs.lemmas.List.Sorted.{IsPermutation-refl, IsPermutation-trans}
use Rattle.std.proofs.lemmas.List.Sorted.{length_permutation}
use Rattle.vr_types.specs.Space.{free_count, freed, is_owner, released}
use Rattle.vr_types.specs.declared.geometry.Geometry.{Geometry}
use Rattle.vr_types.specs.declared.unit.PartNo.{PartNo}
use Rattle.vr_attach.specs.Laid.{shape_in}
use Rattle.vr_catalog.specs.Catalog.{entry_with_part, parts_in}
use Rattle.vr_catalog.specs.declared.entry.CatEntry.{CatEntry}
use Rattle.vr_edits.specs.Edits.{MayEdit, edited, goes, is_cluster_entry, part_gone, without_entries}
use Rattle.vr_edits.specs.declared.edit.CatalogEdit.{CatalogEdit}
use Rattle.vr_edits.specs.declared.edit.CatalogEdit.TheVariants.{Add, Alter, Delete, Rename}
use Rattle.vr_edits.proofs.CallerLemmas.{IsApart, has_part as is_numbered, other-parts}
use Rattle.vr_edits.proofs.CallerLemmas.{part-without-some, shapes-kept}
use Rattle.vr_history.specs.Effects.{has_areas, has_part, parts_laid}
use Rattle.vr_history.specs.State.{Owned}
use Rattle.vr_space.specs.Part.{owned_count}
use Rattle.vr_volume.specs.EntryChange.{is_gone}
use Rattle.vr_store.specs.EntryChange.{areas_left, number_gone}
use Rattle.vr_store.proofs.GivenBack.{owned-back, owned-other}
use Rattle.vr_event.specs.Opening.{owned_from, owned_in}
use Rattle.vr_event.specs.Volume.{OwnLaid}
use Rattle.vr_event.proofs.EditRecords.{gone-numbered, goes_found}
use Rattle.vr_event.proofs.NewClusters.{same-self}
use Rattle.vr_event.proofs.Staged.{part-laid}

-- ---- a filter of a permutation

module _ {X : Type 0} (test : X → Bool) where
  abbrev Same : List X → List X → Type 0
  Same xs ys = IsPermutation (filter test xs) (filter test ys)

  skip : (x : X) (xs ys : List X) → Same xs ys → Same (x ∷ xs) (x ∷ ys)
  skip x xs ys same = by-test (test x)
    where
      by-test : (b : Bool) → IsPermutation (cond b (x ∷ filter test xs) (filter test xs))
          (cond b (x ∷ filter test ys) (filter test ys))
      by-test true = IsPermutation-cons x (filter test xs) (filter test ys) same
      by-test false = same

  turn : (x y : X) (xs : List X) → Same (x ∷ y ∷ xs) (y ∷ x ∷ xs)
  turn x y xs = by-tests (test x) (test y)
    where
      rest : List X
      rest = filter test xs

      by-tests : (one other : Bool)
          → IsPermutation (cond one (x ∷ cond other (y ∷ rest) rest) (cond other (y ∷ rest) rest))
          (cond other (y ∷ cond one (x ∷ rest) rest) (cond one (x ∷ rest) rest))
      by-tests true true = IsPermutation-append_left rest (x ∷ y ∷ []) (y ∷ x ∷ [])
          (IsPermutation-append_comm (x ∷ []) (y ∷ []))
      by-tests true false = IsPermutation-refl (x ∷ rest)
      by-tests false true = IsPermutation-refl (y ∷ rest)
      by-tests false false = IsPermutation-refl rest

  chain : (xs ys zs : List X) → Same xs ys → Same ys zs → Same xs zs
  chain xs ys zs = IsPermutation-trans (filter test xs) (filter test ys) (filter test zs)

  to-head : (l : List X) (j : ℕ) (x d : X) → j < length l
      → Same (x ∷ l) (get_or l j d ∷ set l j x)
  to-head [] j x d below = absurd (omega (arith, below))
  to-head (y ∷ l) zero x d below = turn x y l
  to-head (y ∷ l) (suc j) x d below =
      chain (x ∷ y ∷ l) (y ∷ x ∷ l) (get_or l j d ∷ y ∷ set l j x) (turn x y l)
      (chain (y ∷ x ∷ l) (y ∷ get_or l j d ∷ set l j x) (get_or l j d ∷ y ∷ set l j x)
      (skip y (x ∷ l) (get_or l j d ∷ set l j x) (to-head l j x d (omega (arith, below))))
      (turn y (get_or l j d) (set l j x)))

  exchanged : (l : List X) (i j : ℕ) (d : X) → i < length l → j < length l
      → Same l (set (set l i (get_or l j d)) j (get_or l i d))
  exchanged [] i j d one other = absurd (omega (arith, one))
  exchanged (x ∷ l) zero zero d one other = IsPermutation-refl (filter test (x ∷ l))
  exchanged (x ∷ l) zero (suc j) d one other = to-head l j x d (omega (arith, other))
  exchanged (x ∷ l) (suc i) zero d one other = to-head l i x d (omega (arith, one))
  exchanged (x ∷ l) (suc i) (suc j) d one other =
      skip x l (set (set l i (get_or l j d)) j (get_or l i d))
      (exchanged l i j d (omega (arith, one)) (omega (arith, other)))

  swapped : (l : List X) (i j : ℕ) → i < length l → j < length l → Same l (swap l i j)
  swapped [] i j one other = absurd (omega (arith, one))
  swapped (x ∷ l) i j one other = exchanged (x ∷ l) i j x one other

  filtered : (xs ys : List X) → IsPermutation xs ys → Same xs ys
  filtered xs = IsPermutation-keeps xs (Same xs) (IsPermutation-refl (filter test xs))
      (λ l i j one other same. chain xs l (swap l i j) same (swapped l i j one other))

-- ---- the areas that parts have

-- each area is free or some part's
owned-rest : (from : ℕ) (areas : List (Option PartNo))
    → free_count areas + length (owned_from from areas) ≡ length areas
owned-rest from [] = refl
owned-rest from (None ∷ areas) = omega (arith, owned-rest (from + 1) areas)
owned-rest from (Some part ∷ areas) = omega (arith, owned-rest (from + 1) areas)

-- so as many are free as are in no list of them
pub free-of : (areas : List (Option PartNo)) (owned : List Owned)
    → IsPermutation (owned_in areas) owned → free_count areas ≡ length areas - length owned
free-of areas owned same = omega (
  arith,
  owned-rest 0 areas,
  length_permutation (owned_in areas) owned same,
)

-- of those of other parts
abbrev is-other : ℕ → Owned → Bool
is-other part owned = not (owned.part == part)

owned-released : (part : PartNo) (from : ℕ) (areas : List (Option PartNo))
    → owned_from from (released part areas)
    ≡ filter (is-other part.0) (owned_from from areas)
owned-released part from [] = refl
owned-released part from (None ∷ areas) = owned-released part (from + 1) areas
owned-released part from (Some owner ∷ areas) =
    by-test (owner.0 == part.0) (owned-released part (from + 1) areas)
  where
    by-test : (b : Bool) → owned_from (from + 1) (released part areas)
        ≡ filter (is-other part.0) (owned_from (from + 1) areas)
        → owned_from from (cond b None (Some owner) ∷ released part areas)
        ≡ cond (not b)
        (record { area = from; part = owner.0 }
        ∷ filter (is-other part.0) (owned_from (from + 1) areas))
        (filter (is-other part.0) (owned_from (from + 1) areas))
    by-test true rest = rest
    by-test false rest =
        ap (λ (owned : List Owned). record { area = from; part = owner.0 } ∷ owned) rest

-- ---- the parts of the catalog

-- whether it is the part that goes, where one does
abbrev goes_by : Option PartNo → ℕ → Bool
goes_by gone part = option_map_or (λ (one : PartNo). one.0 == part) gone false

-- a part that has an area is laid
abbrev AreLaid : Geometry → List CatEntry → List Owned → Type 0
AreLaid geometry entries owned =
    AllByRecursion (λ (one : Owned). shape_in geometry entries one.part ≢ None) owned

owned-laid : (geometry : Geometry) (entries : List CatEntry) (from : ℕ)
    (areas : List (Option PartNo)) → OwnLaid geometry entries areas
    → AreLaid geometry entries (owned_from from areas)
owned-laid geometry entries from [] own = tt
owned-laid geometry entries from (None ∷ areas) own =
    owned-laid geometry entries (from + 1) areas own
owned-laid geometry entries from (Some part ∷ areas) own = (
  λ none. absurd (one-owned part areas (own part none)),
  owned-laid geometry entries (from + 1) areas
      (λ other none. fewer other (own other none)),
)
  where
    one-owned : (part : PartNo) (areas : List (Option PartNo))
        → owned_count part (Some part ∷ areas) ≡ 0 → ⊥
    one-owned part areas none = by-test (part.0 == part.0) (same-self part.0) none
      where
        by-test : (b : Bool) → b ≡ true
            → length (cond b (Some part ∷ filter (is_owner part) areas)
            (filter (is_owner part) areas)) ≡ 0 → ⊥
        by-test true is empty = omega (arith, empty)
        by-test false is empty = true≢false (sym is)

    fewer : (other : PartNo) → owned_count other (Some part ∷ areas) ≡ 0
        → owned_count other areas ≡ 0
    fewer other none = by-test (is_owner other (Some part)) none
      where
        by-test : (b : Bool) → length (cond b (Some part ∷ filter (is_owner other) areas)
            (filter (is_owner other) areas)) ≡ 0 → length (filter (is_owner other) areas) ≡ 0
        by-test true none = absurd (omega (arith, none))
        by-test false none = none

-- a part without an entry has no number among those of the catalog
apart-none : (part : ℕ) (entries : List CatEntry) → AllByRecursion (IsApart part) entries
    → list_any (nat_eq part) (parts_in entries) ≡ false
apart-none part [] all = refl
apart-none part (entry ∷ entries) all =
    ap (λ (b : Bool). b || list_any (nat_eq part) (parts_in entries)) all.0
    ∙ apart-none part entries all.1

laid-in : (part : ℕ) (entries : List CatEntry) → list_any (nat_eq part) (parts_in entries) ≡ false
    → list_any (nat_eq part) (parts_laid entries) ≡ false
laid-in part [] none = refl
laid-in part (entry ∷ entries) none =
    by-tests (has_areas entry.entry_kind entry) (nat_eq part entry.part.0) refl none
    (laid-in part entries)
  where
    rest : List CatEntry
    rest = filter (λ (one : CatEntry). has_areas one.entry_kind one) entries

    by-tests : (areas here : Bool) → nat_eq part entry.part.0 ≡ here
        → (here || list_any (nat_eq part) (parts_in entries)) ≡ false
        → (list_any (nat_eq part) (parts_in entries) ≡ false
        → list_any (nat_eq part) (parts_in rest) ≡ false)
        → list_any (nat_eq part) (parts_in (cond areas (entry ∷ rest) rest)) ≡ false
    by-tests areas true is none further = absurd (true≢false none)
    by-tests true false is none further =
        ap (λ (b : Bool). b || list_any (nat_eq part) (parts_in rest)) is ∙ further none
    by-tests false false is none further = further none

module _ (geometry : Geometry) (entries : List CatEntry) (edit : CatalogEdit)
    (may : MayEdit geometry entries edit) where
  abbrev after : List CatEntry
  after = edited edit entries

  -- the part that goes has no entry any more
  gone-apart : (part : ℕ) → goes edit part ≡ true → AllByRecursion (IsApart part) after
  gone-apart part out = of edit may out
    where
      of : (edit : CatalogEdit) → MayEdit geometry entries edit → goes edit part ≡ true
          → AllByRecursion (IsApart part) (edited edit entries)
      of (Alter entry new) may out = absurd (true≢false (sym out))
      of (Rename entry new) may out = absurd (true≢false (sym out))
      of (Delete gone) may out = other-parts part (without_entries gone entries)
          (part-without-some gone entries part
          ∙ ap (λ (b : Bool). cond b None (entry_with_part entries part)) (among gone out))
        where
          among : (gone : List CatEntry) → goes (Delete gone) part ≡ true
              → list_any (is_numbered part) gone ≡ true
          among [] out = absurd (true≢false (sym out))
          among (entry ∷ gone) out = by-test (is_cluster_entry entry) out (among gone)
            where
              either : (b : Bool) → (b || true) ≡ true
              either true = refl
              either false = refl

              by-test : (b : Bool)
                  → goes_found (cond b (Some entry) (find is_cluster_entry gone)) part ≡ true
                  → (goes (Delete gone) part ≡ true → list_any (is_numbered part) gone ≡ true)
                  → (is_numbered part entry || list_any (is_numbered part) gone) ≡ true
              by-test true here further =
                  ap (λ (b : Bool). b || list_any (is_numbered part) gone) here
              by-test false there further =
                  ap (λ (b : Bool). is_numbered part entry || b) (further there)
                  ∙ either (is_numbered part entry)
      of (Add new) may out = absurd (true≢false (sym out))

  gone-zero : (part : ℕ) → goes edit part ≡ true → (part == 0) ≡ false
  gone-zero part out = ne_eqb part 0 (gone-numbered geometry entries edit may part out)

  pub gone-lacks : (part : ℕ) → goes edit part ≡ true → has_part (parts_in after) part ≡ false
  gone-lacks part out =
      ap (λ (b : Bool). b || list_any (nat_eq part) (parts_in after)) (gone-zero part out)
      ∙ apart-none part after (gone-apart part out)

  gone-unlaid : (part : ℕ) → goes edit part ≡ true → has_part (parts_laid after) part ≡ false
  gone-unlaid part out =
      ap (λ (b : Bool). b || list_any (nat_eq part) (parts_laid after)) (gone-zero part out)
      ∙ laid-in part after (apart-none part after (gone-apart part out))

  -- of the areas those of the parts that stay are left
  abbrev stays : Owned → Bool
  stays one = not (goes edit one.part)

  left-laid : (owned : List Owned) → AreLaid geometry entries owned
      → filter (λ (one : Owned). has_part (parts_laid after) one.part) owned
      ≡ filter stays owned
  left-laid [] all = refl
  left-laid (one ∷ owned) all =
      ap (λ (b : Bool). cond b (one ∷ those) those) (same (goes edit one.part) refl)
      ∙ ap (λ (l : List Owned). cond (stays one) (one ∷ l) l) (left-laid owned all.1)
    where
      those : List Owned
      those = filter (λ (other : Owned). has_part (parts_laid after) other.part) owned

      same : (b : Bool) → goes edit one.part ≡ b
          → has_part (parts_laid after) one.part ≡ not (goes edit one.part)
      same true out = gone-unlaid one.part out ∙ sym (ap not out)
      same false out = part-laid geometry one.part after
          (λ none. all.0 (sym (shapes-kept geometry entries edit may one.part
          ∙ ap (λ (b : Bool). if b then None else shape_in geometry entries one.part) out) ∙ none))
          ∙ sym (ap not out)

  -- the areas of the part that goes become free
  left-owned : (gone : Option PartNo) (areas : List (Option PartNo))
      → owned_in (areas_left gone areas)
      ≡ filter (λ (one : Owned). not (goes_by gone one.part)) (owned_in areas)
  left-owned None areas = sym (all-stay (owned_in areas))
    where
      all-stay : (owned : List Owned) → filter (λ (one : Owned). true) owned ≡ owned
      all-stay [] = refl
      all-stay (one ∷ owned) = ap (λ (l : List Owned). one ∷ l) (all-stay owned)
  left-owned (Some part) areas = owned-released part 0 areas ∙ flipped (owned_in areas)
    where
      flipped : (owned : List Owned) → filter (is-other part.0) owned
          ≡ filter (λ (one : Owned). not (part.0 == one.part)) owned
      flipped [] = refl
      flipped (one ∷ owned) =
          ap (λ (b : Bool). cond (not b) (one ∷ filter (is-other part.0) owned)
          (filter (is-other part.0) owned)) (turned (one.part == part.0) refl)
          ∙ ap (λ (l : List Owned). cond (not (part.0 == one.part)) (one ∷ l) l) (flipped owned)
        where
          turned : (b : Bool) → (one.part == part.0) ≡ b
              → (one.part == part.0) ≡ (part.0 == one.part)
          turned true is = grind (arith, nat_tests, is)
          turned false is = grind (arith, nat_tests, is)

  pub owned-after : (space : List (Option PartNo)) (owned : List Owned)
      → OwnLaid geometry entries space → IsPermutation (owned_in space) owned
      → IsPermutation (owned_in (areas_left (part_gone edit) space))
      (filter (λ (one : Owned). has_part (parts_laid after) one.part) owned)
  owned-after space owned own same =
      subst (λ (them : List Owned). IsPermutation them
      (filter (λ (one : Owned). has_part (parts_laid after) one.part) owned))
      (left-laid (owned_in space) (owned-laid geometry entries 0 space own)
      ∙ sym (left-owned (part_gone edit) space))
      (filtered (λ (one : Owned). has_part (parts_laid after) one.part) (owned_in space) owned same)

  pub length-after : (space : List (Option PartNo))
      → length (areas_left (part_gone edit) space) ≡ length space
  length-after space = of (part_gone edit)
    where
      of : (gone : Option PartNo) → length (areas_left gone space) ≡ length space
      of None = refl
      of (Some part) = length-map space (freed part)

  -- a part that isn't laid owns none
  pub unlaid-after : (space : List (Option PartNo)) → OwnLaid geometry entries space
      → OwnLaid geometry after (areas_left (part_gone edit) space)
  unlaid-after space own part none = of (part_gone edit)
      (sym (shapes-kept geometry entries edit may part.0) ∙ none)
    where
      by-test : (gone : PartNo) (b : Bool) → (gone.0 == part.0) ≡ b
          → (if b then None else shape_in geometry entries part.0) ≡ None
          → owned_count part (released gone space) ≡ 0
      by-test gone true same none =
          subst (λ (p : PartNo). owned_count p (released gone space) ≡ 0)
          (ap (λ (n : ℕ). let p : PartNo = record { 0 = n } in p)
          ((Decides-eqb gone.0 part.0).0 same)) (owned-back gone space)
      by-test gone false apart none = owned-other gone part
          (λ same. true≢false (sym (same-self gone.0)
          ∙ ap (λ (n : ℕ). gone.0 == n) (sym same) ∙ apart)) space
          ∙ own part none

      of : (gone : Option PartNo)
          → (if goes_by gone part.0 then None else shape_in geometry entries part.0) ≡ None
          → owned_count part (areas_left gone space) ≡ 0
      of None none = own part none
      of (Some gone) none = by-test gone (gone.0 == part.0) refl none

-- ---- by the store

-- the part that goes is the one that the store lets go
pub gone-is : (gone : Option PartNo) (part : ℕ)
    → is_gone (number_gone gone) part ≡ goes_by gone part
gone-is None part = refl
gone-is (Some one) part = refl
