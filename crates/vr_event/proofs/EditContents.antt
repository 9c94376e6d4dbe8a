-- The catalog once the record of one entry is replaced or taken away: its entries.
use Rattle.std.proofs.Common.{◌≡◌, ◌∙◌, ◌==◌, ℕ, Bool, true, false, not, cond, IsTrue, List, []}
use Rattle.std.proofs.Common.{◌∷◌, Option, Some, None, refl, sym, ap, subst, nat_eq}
use Rattle.std.specs.Prelude.{bytes_eq}
use Rattle.std.specs.List.{AllByRecursion, IsDistinct, cons_option}
use Rattle.std.specs.List.Sorted.{IsStrictlySortedBy}
use Rattle.std.specs.declared.cmp.Ordering.{Ordering}
use Rattle.std.specs.declared.cmp.Ordering.TheVariants.{Less, Equal, Greater}
use Rattle.std.proofs.lemmas.Option.{none-some, same_Some}
use Rattle.std.proofs.lemmas.Slice.Eq.{bytes_eq-Decides}
use Rattle.vr_types.specs.Content.{Ascends, Content, Item, Placed, Standing, found_by, item_at}
use Rattle.vr_types.specs.Content.{place_cmp, places_of, put_by, with_item}
use Rattle.vr_types.specs.Content.{without_item}
use Rattle.vr_altkey.proofs.CallerLemmas.{all_below, item_first, none_below}
use Rattle.vr_catalog.specs.Catalog.{entries_in, entry_with_part, parts_in}
use Rattle.vr_catalog.specs.Entry.{is_entry}
use Rattle.vr_catalog.specs.Record.{entry_of, spelling}
use Rattle.vr_catalog.specs.declared.entry.CatEntry.{CatEntry}
use Rattle.vr_edits.specs.Edits.{MayAlter, altered_by, entry_place, is_of_part, with_altered}
use Rattle.vr_edits.specs.Edits.{without_entry}
use Rattle.vr_edits.proofs.CallerLemmas.{all-found}
use Rattle.vr_event.proofs.ClusterCatalogs.{IsApart, apart-parts, entry-first, eq-flips}
use Rattle.vr_event.proofs.ClusterCatalogs.{named-with}
use Rattle.vr_event.proofs.ClusterRecords.{IsNamed, each-item, place-padded, record-spells}
use Rattle.vr_catalog.specs.Record.{padded}
use Rattle.vr_event.proofs.NewClusters.{same-self}

-- ---- what stands

-- two records that stand alike are one
same-bytes : (one other : List ℕ) → Some (Standing one) ≡ Some (Standing other) → one ≡ other
same-bytes one other same = cc

-- each entry of a catalog stands at its place
entries-stand : (whole content : Content) → AllByRecursion IsNamed content
    → AllByRecursion (λ (placed : Placed). item_at whole placed.0 ≡ Some placed.1) content
    → AllByRecursion (λ (entry : CatEntry).
    item_at whole (entry_place entry) ≡ Some (Standing (spelling entry))) (entries_in content)
entries-stand whole [] named there = tt
entries-stand whole (placed ∷ content) named there =
    subst (AllByRecursion (λ (entry : CatEntry).
    item_at whole (entry_place entry) ≡ Some (Standing (spelling entry))))
    (sym (entry-first placed content named.0)) (
      ap (item_at whole) (sym named.0.place_is) ∙ there.0
          ∙ ap (λ (item : Item). Some item) named.0.item_is,
      entries-stand whole content named.1 there.1,
    )

pub entry-stands : (content : Content) → AllByRecursion IsNamed content → Ascends content
    → (entry : CatEntry) → entry_with_part (entries_in content) entry.part.0 ≡ Some entry
    → item_at content (entry_place entry) ≡ Some (Standing (spelling entry))
entry-stands content named ascends entry =
    all-found (λ (one : CatEntry).
    item_at content (entry_place one) ≡ Some (Standing (spelling one))) (entries_in content)
    entry.part.0 entry
    (entries-stand content content named
    (each-item (λ (placed : Placed). item_at content placed.0 ≡ Some placed.1) content ascends
    (λ place item is. is)))

module _ (entry : CatEntry) (entry-is : IsTrue (is_entry entry)) where
  abbrev at : List ℕ
  at = entry_place entry

  abbrev IsThere : Content → Type 0
  IsThere content = item_at content at ≡ Some (Standing (spelling entry))

  -- an item that is its record is of that entry
  same-entry : (placed : Placed) → (named : IsNamed placed)
      → Some placed.1 ≡ Some (Standing (spelling entry)) → named.entry ≡ entry
  same-entry placed named is =
      let same : spelling named.entry ≡ spelling entry =
      same-bytes (spelling named.entry) (spelling entry)
      (sym (ap (λ (item : Item). Some item) named.item_is) ∙ is) in
      same_Some named.entry entry (sym (record-spells named.entry named.entry_is)
      ∙ ap entry_of same ∙ record-spells entry entry-is)

  -- what holds of each entry holds of it
  all-there : (P : CatEntry → Type 0) (content : Content) → AllByRecursion IsNamed content
      → IsThere content → AllByRecursion P (entries_in content) → P entry
  all-there P [] named stands all = absurd (none-some (Standing (spelling entry)) stands)
  all-there P (placed ∷ content) named stands all =
      by-test (bytes_eq at placed.0) (sym (item_first placed content at) ∙ stands)
      (all-there P content named.1)
      (subst (AllByRecursion P) (entry-first placed content named.0) all)
    where
      by-test : (b : Bool)
          → cond b (Some placed.1) (item_at content at) ≡ Some (Standing (spelling entry))
          → (IsThere content → AllByRecursion P (entries_in content) → P entry)
          → AllByRecursion P (named.0.entry ∷ entries_in content) → P entry
      by-test true is rest all = subst P (same-entry placed named.0 is) all.0
      by-test false is rest all = rest is all.1

  -- the parts of the others
  rest-apart : (placed : Placed) (content : Content) → (named : IsNamed placed)
      → IsDistinct nat_eq (parts_in (entries_in (placed ∷ content)))
      → AllByRecursion (IsApart named.entry.part.0) (entries_in content)
  unfolding IsDistinct
  rest-apart placed content named distinct =
      let all : IsDistinct nat_eq (parts_in (named.entry ∷ entries_in content)) =
      subst (λ (entries : List CatEntry). IsDistinct nat_eq (parts_in entries))
      (entry-first placed content named) distinct in
      apart-parts named.entry.part.0 (entries_in content) all.0

  rest-distinct : (placed : Placed) (content : Content) → (named : IsNamed placed)
      → IsDistinct nat_eq (parts_in (entries_in (placed ∷ content)))
      → IsDistinct nat_eq (parts_in (entries_in content))
  unfolding IsDistinct
  rest-distinct placed content named distinct =
      let all : IsDistinct nat_eq (parts_in (named.entry ∷ entries_in content)) =
      subst (λ (entries : List CatEntry). IsDistinct nat_eq (parts_in entries))
      (entry-first placed content named) distinct in all.1

  first-apart : (placed : Placed) (content : Content) → (named : IsNamed placed)
      → AllByRecursion IsNamed content
      → IsDistinct nat_eq (parts_in (entries_in (placed ∷ content))) → IsThere content
      → (named.entry.part.0 == entry.part.0) ≡ false
  first-apart placed content named all distinct stands =
      all-there (IsApart named.entry.part.0) content all stands
      (rest-apart placed content named distinct)

  -- ---- taken away

  -- a content without it stays
  none-without : (content : Content) → item_at content at ≡ None
      → without_item content at ≡ content
  none-without [] none = refl
  none-without (placed ∷ content) none =
      by-test (bytes_eq at placed.0) (sym (item_first placed content at) ∙ none)
      (none-without content)
    where
      by-test : (b : Bool) → cond b (Some placed.1) (item_at content at) ≡ None
          → (item_at content at ≡ None → without_item content at ≡ content)
          → cond (not b) (placed ∷ without_item content at) (without_item content at)
          ≡ placed ∷ content
      by-test true is rest = absurd (none-some placed.1 (sym is))
      by-test false is rest = ap (λ (c : Content). placed ∷ c) (rest is)

  apart-without : (entries : List CatEntry) → AllByRecursion (IsApart entry.part.0) entries
      → without_entry entry entries ≡ entries
  apart-without [] apart = refl
  apart-without (other ∷ entries) apart =
      ap (λ (b : Bool). cond (not b) (other ∷ without_entry entry entries)
      (without_entry entry entries)) (eq-flips entry.part.0 other.part.0 apart.0)
      ∙ ap (λ (rest : List CatEntry). other ∷ rest) (apart-without entries apart.1)

  -- where it is the first, none comes after it
  none-after : (placed : Placed) (content : Content) → Ascends (placed ∷ content)
      → at ≡ placed.0 → item_at content at ≡ None
  unfolding IsStrictlySortedBy
  none-after placed content ascends same =
      ap (item_at content) same ∙ none_below placed.0 content ascends.0

  pub entries-without : (content : Content) → AllByRecursion IsNamed content → Ascends content
      → IsDistinct nat_eq (parts_in (entries_in content)) → IsThere content
      → entries_in (without_item content at) ≡ without_entry entry (entries_in content)
  unfolding IsStrictlySortedBy
  entries-without [] named ascends distinct stands =
      absurd (none-some (Standing (spelling entry)) stands)
  entries-without (placed ∷ content) named ascends distinct stands =
      by-test (bytes_eq at placed.0) refl (sym (item_first placed content at) ∙ stands)
      (entries-without content named.1 ascends.1
      (rest-distinct placed content named.0 distinct))
      ∙ ap (without_entry entry) (sym (entry-first placed content named.0))
    where
      own : named.0.entry ≡ entry → is_of_part entry named.0.entry ≡ true
      own same = ap (λ (one : CatEntry). one.part.0 == entry.part.0) same
          ∙ same-self entry.part.0

      by-test : (b : Bool) → bytes_eq at placed.0 ≡ b
          → cond b (Some placed.1) (item_at content at) ≡ Some (Standing (spelling entry))
          → (IsThere content
          → entries_in (without_item content at) ≡ without_entry entry (entries_in content))
          → entries_in (cond (not b) (placed ∷ without_item content at) (without_item content at))
          ≡ without_entry entry (named.0.entry ∷ entries_in content)
      by-test true here is rest =
          let same = same-entry placed named.0 is in
          let place : at ≡ placed.0 = (bytes_eq-Decides at placed.0).0 here in
          ap entries_in (none-without content (none-after placed content ascends place))
          ∙ sym (apart-without (entries_in content)
          (subst (λ (one : CatEntry). AllByRecursion (IsApart one.part.0) (entries_in content))
          same (rest-apart placed content named.0 distinct)))
          ∙ sym (ap (λ (b : Bool). cond (not b)
          (named.0.entry ∷ without_entry entry (entries_in content))
          (without_entry entry (entries_in content))) (own same))
      by-test false here is rest =
          entry-first placed (without_item content at) named.0
          ∙ ap (λ (entries : List CatEntry). named.0.entry ∷ entries) (rest is)
          ∙ sym (ap (λ (b : Bool). cond (not b)
          (named.0.entry ∷ without_entry entry (entries_in content))
          (without_entry entry (entries_in content)))
          (first-apart placed content named.0 named.1 distinct is))

  pub named-without : (content : Content) → AllByRecursion IsNamed content
      → AllByRecursion IsNamed (without_item content at)
  named-without [] named = tt
  named-without (placed ∷ content) named =
      by-test (bytes_eq at placed.0) (named-without content named.1)
    where
      by-test : (b : Bool) → AllByRecursion IsNamed (without_item content at)
          → AllByRecursion IsNamed
          (cond (not b) (placed ∷ without_item content at) (without_item content at))
      by-test true rest = rest
      by-test false rest = (named.0, rest)

  -- ---- replaced

  module _ (entries : List CatEntry) (new : CatEntry) (is : MayAlter entries entry new) where
    -- it is of the same part, and at the same place
    new-part : new.part.0 ≡ entry.part.0
    new-part = ap (λ (one : CatEntry). one.part.0) is.alike

    pub new-place : entry_place new ≡ at
    new-place = place-padded new
        ∙ ap (λ (one : CatEntry). padded 44 one.name) is.alike ∙ sym (place-padded entry)

    altered-own : (other : CatEntry) → other ≡ entry → altered_by new other ≡ new
    altered-own other same =
        ap (altered_by new) same
        ∙ ap (λ (b : Bool). cond b (record entry {
          free_space = new.free_space;
          share_options = new.share_options;
        }) entry)
        (ap (λ (n : ℕ). entry.part.0 == n) new-part ∙ same-self entry.part.0)
        ∙ sym is.alike

    altered-other : (other : CatEntry) → (other.part.0 == entry.part.0) ≡ false
        → altered_by new other ≡ other
    altered-other other apart = ap (λ (b : Bool). cond b (record other {
      free_space = new.free_space;
      share_options = new.share_options;
    }) other) (ap (λ (n : ℕ). other.part.0 == n) new-part ∙ apart)

    apart-altered : (entries : List CatEntry) → AllByRecursion (IsApart entry.part.0) entries
        → with_altered new entries ≡ entries
    apart-altered [] apart = refl
    apart-altered (other ∷ entries) apart =
        ap (λ (one : CatEntry). one ∷ with_altered new entries)
        (altered-other other (eq-flips entry.part.0 other.part.0 apart.0))
        ∙ ap (λ (rest : List CatEntry). other ∷ rest) (apart-altered entries apart.1)

    pub entries-altered : (content : Content) → AllByRecursion IsNamed content → Ascends content
        → IsDistinct nat_eq (parts_in (entries_in content)) → IsThere content
        → entries_in (with_item content at (Standing (spelling new)))
        ≡ with_altered new (entries_in content)
    unfolding IsStrictlySortedBy
    entries-altered [] named ascends distinct stands =
        absurd (none-some (Standing (spelling entry)) stands)
    entries-altered (placed ∷ content) named ascends distinct stands =
        by-order (place_cmp at placed.0) refl stands
        (entries-altered content named.1 ascends.1
        (rest-distinct placed content named.0 distinct))
        ∙ ap (with_altered new) (sym (entry-first placed content named.0))
      where
        by-order : (order : Ordering) → place_cmp at placed.0 ≡ order
            → found_by order (Some placed.1) (item_at content at)
            ≡ Some (Standing (spelling entry))
            → (IsThere content → entries_in (with_item content at (Standing (spelling new)))
            ≡ with_altered new (entries_in content))
            → entries_in (put_by order (at, Standing (spelling new)) placed content
            (with_item content at (Standing (spelling new))))
            ≡ with_altered new (named.0.entry ∷ entries_in content)
        by-order Less order found rest = absurd (none-some (Standing (spelling entry))
            (sym (none_below at content
            (all_below at placed.0 (places_of content) order ascends.0)) ∙ found))
        by-order Equal order found rest =
            let same = same-entry placed named.0 found in
            ap (λ (o : Option CatEntry). cons_option o (entries_in content))
            (record-spells new is.entry_is)
            ∙ sym (ap (λ (one : CatEntry). one ∷ entries_in content)
            (altered-own named.0.entry same))
            ∙ sym (ap (λ (entries : List CatEntry). altered_by new named.0.entry ∷ entries)
            (apart-altered (entries_in content)
            (subst (λ (one : CatEntry). AllByRecursion (IsApart one.part.0) (entries_in content))
            same (rest-apart placed content named.0 distinct))))
        by-order Greater order found rest =
            entry-first placed (with_item content at (Standing (spelling new))) named.0
            ∙ ap (λ (entries : List CatEntry). named.0.entry ∷ entries) (rest found)
            ∙ sym (ap (λ (one : CatEntry). one ∷ with_altered new (entries_in content))
            (altered-other named.0.entry
            (first-apart placed content named.0 named.1 distinct found)))

    pub named-altered : (content : Content) → AllByRecursion IsNamed content
        → AllByRecursion IsNamed (with_item content at (Standing (spelling new)))
    named-altered content named = subst (λ (place : List ℕ).
        AllByRecursion IsNamed (with_item content place (Standing (spelling new)))) new-place
        (named-with new is.entry_is content named)
