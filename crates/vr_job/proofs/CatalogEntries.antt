-- The entries of a catalog by the places of their records: a part that it has is that of a record that
-- stands, and a change of one record leaves the others.
use Rattle.std.proofs.Common.{◌≡◌, ◌≢◌, ◌⊎◌, ⊎_elim, ◌∙◌, ◌==◌, ◌||◌, inl, inr, ℕ, Bool, true, false}
use Rattle.std.proofs.Common.{cond, List, [], ◌∷◌, Option, Some, None, ap, arith, bytes_eq, eq-eqb}
use Rattle.std.proofs.Common.{refl, subst, sym}
use Rattle.std.specs.Prelude.{nat_eq, option_and_then}
use Rattle.std.specs.List.{AllByRecursion, IsDistinct, cons_option, list_any}
use Rattle.std.specs.List.Sorted.{IsStrictlySortedBy}
use Rattle.std.proofs.lemmas.Bool.{true≢false}
use Rattle.std.proofs.lemmas.Bool.Decides.{nat_tests}
use Rattle.std.proofs.lemmas.Slice.Eq.{bytes_eq-Decides}
use Rattle.vr_types.specs.Content.{Ascends, Content, Item, Placed, Standing, Withdrawn, item_at}
use Rattle.vr_types.specs.Content.{record_of}
use Rattle.vr_altkey.proofs.CallerLemmas.{item_first, none_below, placed_elsewhere, placed_here}
use Rattle.vr_catalog.specs.Catalog.{entries_in, entry_with_part, parts_in}
use Rattle.vr_catalog.specs.Record.{entry_of}
use Rattle.vr_catalog.specs.declared.entry.CatEntry.{CatEntry}
use Rattle.vr_history.specs.Change.{Change}
use Rattle.vr_history.specs.Effects.{has_part, placed_in}
use Rattle.vr_history.specs.Opened.{catalog_of}
use Rattle.vr_history.specs.State.{State}
use Rattle.vr_history.specs.declared.entry.Entry.{Entry}
use Rattle.vr_job.specs.Catalogs.{catalog_after}
use Rattle.vr_job.specs.Committed.{IsAddition, IsAlike, IsInstead, IsReplacement, StaysIn}

-- ---- a record of an entry

-- the record of an entry of the part stands at the place
pub record StandsAt (part : ℕ) (content : Content) (place : List ℕ) : Type 0 where
  pub bytes : List ℕ
  pub stands : item_at content place ≡ Some (Standing bytes)
  pub entry : CatEntry
  pub spelled : entry_of bytes ≡ Some entry
  pub part_is : entry.part.0 ≡ part

-- an entry has the part
abbrev pub HasEntry : ℕ → List CatEntry → Type 0
HasEntry part entries = list_any (nat_eq part) (parts_in entries) ≡ true

none-some : {X : Type 0} (x : X) → None ≡ Some x → ⊥
none-some x same = cc

some-same : {X : Type 0} (a b : X) → Some a ≡ Some b → a ≡ b
some-same a b same = cc

or-right : (b : Bool) {c : Bool} → c ≡ true → (b || c) ≡ true
or-right true so = refl
or-right false so = so

part-self : (part other : ℕ) → other ≡ part → nat_eq part other ≡ true
part-self part other is = eq-eqb part other (sym is)

part-apart : (part other : ℕ) → nat_eq part other ≡ false → (other == part) ≡ false
part-apart part other apart = grind (arith, nat_tests, apart)

part-same : (part other : ℕ) → nat_eq part other ≡ true → other ≡ part
part-same part other same = grind (arith, nat_tests, same)

-- the entry that an item spells, if it is a record that spells one
abbrev spelled_by : Placed → Option CatEntry
spelled_by placed = option_and_then entry_of (record_of placed.1)

has-first : (part : ℕ) (first : Option CatEntry) (entries : List CatEntry) (entry : CatEntry)
    → first ≡ Some entry → entry.part.0 ≡ part → HasEntry part (cons_option first entries)
has-first part None entries entry is same = absurd (none-some entry is)
has-first part (Some first) entries entry is same =
    ap (λ (b : Bool). b || list_any (nat_eq part) (parts_in entries))
    (part-self part first.part.0 (ap (λ (e : CatEntry). e.part.0) (some-same first entry is) ∙ same))

has-later : (part : ℕ) (first : Option CatEntry) (entries : List CatEntry)
    → HasEntry part entries → HasEntry part (cons_option first entries)
has-later part None entries has = has
has-later part (Some first) entries has = or-right (nat_eq part first.part.0) has

standing-spells : (item : Item) (bytes : List ℕ) (entry : CatEntry)
    → Some item ≡ Some (Standing bytes) → entry_of bytes ≡ Some entry
    → option_and_then entry_of (record_of item) ≡ Some entry
standing-spells item bytes entry is spelled =
    ap (λ (it : Item). option_and_then entry_of (record_of it))
    (some-same item (Standing bytes) is) ∙ spelled

has-at : (part : ℕ) (content : Content) (place bytes : List ℕ) (entry : CatEntry)
    → item_at content place ≡ Some (Standing bytes) → entry_of bytes ≡ Some entry
    → entry.part.0 ≡ part → HasEntry part (entries_in content)
has-at part [] place bytes entry stands spelled is = absurd (none-some (Standing bytes) stands)
has-at part (placed ∷ content) place bytes entry stands spelled is =
    by_test (bytes_eq place placed.0) (sym (item_first placed content place) ∙ stands)
    (λ further. has-at part content place bytes entry further spelled is)
  where
    by_test : (b : Bool)
        → cond b (Some placed.1) (item_at content place) ≡ Some (Standing bytes)
        → (item_at content place ≡ Some (Standing bytes) → HasEntry part (entries_in content))
        → HasEntry part (entries_in (placed ∷ content))
    by_test true here further = has-first part (spelled_by placed) (entries_in content) entry
        (standing-spells placed.1 bytes entry here spelled) is
    by_test false there further =
        has-later part (spelled_by placed) (entries_in content) (further there)

-- so an entry has its part
pub has-standing : (part : ℕ) (content : Content) (place : List ℕ) → StandsAt part content place
    → HasEntry part (entries_in content)
has-standing part content place is =
    has-at part content place is.bytes is.entry is.stands is.spelled is.part_is

-- ---- a part that the catalog has

-- the first entry that has the part is that of a record
pub record IsFound (part : ℕ) (content : Content) : Type 0 where
  pub place : List ℕ
  pub standing : StandsAt part content place
  pub found : entry_with_part (entries_in content) part ≡ Some standing.entry

-- one of the records after the first
found-later : (part : ℕ) (placed : Placed) (content : Content) → Ascends (placed ∷ content)
    → entry_with_part (entries_in (placed ∷ content)) part
    ≡ entry_with_part (entries_in content) part
    → IsFound part content → IsFound part (placed ∷ content)
unfolding IsStrictlySortedBy
found-later part placed content ascends same is = record {
  place = is.place;
  standing = record {
    bytes = is.standing.bytes;
    stands = item_first placed content is.place
        ∙ ap (λ (b : Bool). cond b (Some placed.1) (item_at content is.place))
        (apart (bytes_eq is.place placed.0) refl) ∙ is.standing.stands;
    entry = is.standing.entry;
    spelled = is.standing.spelled;
    part_is = is.standing.part_is;
  };
  found = same ∙ is.found;
}
  where
    apart : (b : Bool) → bytes_eq is.place placed.0 ≡ b → b ≡ false
    apart false test = refl
    apart true test = absurd (none-some (Standing is.standing.bytes)
        (sym (none_below placed.0 content ascends.0)
        ∙ ap (item_at content) (sym ((bytes_eq-Decides is.place placed.0).0 test))
        ∙ is.standing.stands))

-- or the first
found-here : (part : ℕ) (place bytes : List ℕ) (content : Content) (entry : CatEntry)
    → entry_of bytes ≡ Some entry → entry.part.0 ≡ part
    → IsFound part ((place, Standing bytes) ∷ content)
found-here part place bytes content entry spelled is = record {
  place = place;
  standing = record {
    bytes = bytes;
    stands = item_first (place, Standing bytes) content place
        ∙ ap (λ (b : Bool). cond b (Some (Standing bytes)) (item_at content place))
        ((bytes_eq-Decides place place).1 refl);
    entry = entry;
    spelled = spelled;
    part_is = is;
  };
  found = ap (λ (o : Option CatEntry). entry_with_part (cons_option o (entries_in content)) part)
      spelled
      ∙ ap (λ (b : Bool). cond b (Some entry) (entry_with_part (entries_in content) part))
      (eq-eqb entry.part.0 part is);
}

pub find-part : (part : ℕ) (content : Content) → Ascends content
    → HasEntry part (entries_in content) → IsFound part content
unfolding IsStrictlySortedBy
find-part part [] ascends has = absurd (true≢false (sym has))
find-part part ((place, Withdrawn length) ∷ content) ascends has =
    found-later part (place, Withdrawn length) content ascends refl
    (find-part part content ascends.1 has)
find-part part ((place, Standing bytes) ∷ content) ascends has =
    by_entry (entry_of bytes) refl has (find-part part content ascends.1)
  where
    by_part : (entry : CatEntry) → entry_of bytes ≡ Some entry → (b : Bool)
        → nat_eq part entry.part.0 ≡ b
        → (b || list_any (nat_eq part) (parts_in (entries_in content))) ≡ true
        → (HasEntry part (entries_in content) → IsFound part content)
        → IsFound part ((place, Standing bytes) ∷ content)
    by_part entry spelled true same some further = found-here part place bytes content entry spelled
        (part-same part entry.part.0 same)
    by_part entry spelled false apart some further = found-later part (place, Standing bytes) content
        ascends
        (ap (λ (o : Option CatEntry). entry_with_part (cons_option o (entries_in content)) part)
        spelled
        ∙ ap (λ (b : Bool). cond b (Some entry) (entry_with_part (entries_in content) part))
        (part-apart part entry.part.0 apart)) (further some)

    by_entry : (spells : Option CatEntry) → entry_of bytes ≡ spells
        → HasEntry part (cons_option spells (entries_in content))
        → (HasEntry part (entries_in content) → IsFound part content)
        → IsFound part ((place, Standing bytes) ∷ content)
    by_entry None spelled some further = found-later part (place, Standing bytes) content ascends
        (ap (λ (o : Option CatEntry). entry_with_part (cons_option o (entries_in content)) part)
        spelled) (further some)
    by_entry (Some entry) spelled some further =
        by_part entry spelled (nat_eq part entry.part.0) refl some further

-- and then the catalog has it
has-found : (part : ℕ) (entries : List CatEntry) → HasEntry part entries
    → entry_with_part entries part ≡ None → ⊥
has-found part [] has none = true≢false (sym has)
has-found part (entry ∷ entries) has none =
    by_test (nat_eq part entry.part.0) refl has (has-found part entries)
  where
    some-none : Some entry ≡ None → ⊥
    some-none same = cc

    by_test : (b : Bool) → nat_eq part entry.part.0 ≡ b
        → (b || list_any (nat_eq part) (parts_in entries)) ≡ true
        → (HasEntry part entries → entry_with_part entries part ≡ None → ⊥) → ⊥
    by_test true same some further = some-none
        (sym (ap (λ (b : Bool). cond b (Some entry) (entry_with_part entries part))
        (eq-eqb entry.part.0 part (part-same part entry.part.0 same))) ∙ none)
    by_test false apart some further = further some
        (sym (ap (λ (b : Bool). cond b (Some entry) (entry_with_part entries part))
        (part-apart part entry.part.0 apart)) ∙ none)

-- ---- where no part is that of two entries

none-any : (part : ℕ) (parts : List ℕ)
    → AllByRecursion (λ (other : ℕ). nat_eq part other ≡ false) parts
    → list_any (nat_eq part) parts ≡ false
none-any part [] apart = refl
none-any part (other ∷ parts) apart =
    ap (λ (b : Bool). b || list_any (nat_eq part) parts) apart.0 ∙ none-any part parts apart.1

abbrev AreApart : List CatEntry → Type 0
AreApart entries = IsDistinct nat_eq (parts_in entries)

apart-later : (first : Option CatEntry) (entries : List CatEntry)
    → AreApart (cons_option first entries) → AreApart entries
unfolding IsDistinct
apart-later None entries apart = apart
apart-later (Some first) entries apart = apart.1

-- the first of others has not the part of one of them
other-first : (first : Option CatEntry) (entries : List CatEntry) (part : ℕ)
    → AreApart (cons_option first entries) → HasEntry part entries
    → entry_with_part (cons_option first entries) part ≡ entry_with_part entries part
unfolding IsDistinct
other-first None entries part apart has = refl
other-first (Some first) entries part apart has =
    by_test (nat_eq part first.part.0) refl
  where
    by_test : (b : Bool) → nat_eq part first.part.0 ≡ b
        → entry_with_part (first ∷ entries) part ≡ entry_with_part entries part
    by_test true same = absurd (true≢false (sym has ∙ none-any part (parts_in entries)
        (subst (λ (p : ℕ). AllByRecursion (λ (other : ℕ). nat_eq p other ≡ false)
        (parts_in entries)) (part-same part first.part.0 same) apart.0)))
    by_test false other =
        ap (λ (b : Bool). cond b (Some first) (entry_with_part entries part))
        (part-apart part first.part.0 other)

-- the entry with a part is that of its record
pub apart-at : (content : Content) (place bytes : List ℕ) (entry : CatEntry)
    → AreApart (entries_in content) → item_at content place ≡ Some (Standing bytes)
    → entry_of bytes ≡ Some entry
    → entry_with_part (entries_in content) entry.part.0 ≡ Some entry
apart-at [] place bytes entry apart stands spelled = absurd (none-some (Standing bytes) stands)
apart-at (placed ∷ content) place bytes entry apart stands spelled =
    by_test (bytes_eq place placed.0) (sym (item_first placed content place) ∙ stands)
    (λ further. apart-at content place bytes entry
    (apart-later (spelled_by placed) (entries_in content) apart) further spelled)
  where
    by_test : (b : Bool)
        → cond b (Some placed.1) (item_at content place) ≡ Some (Standing bytes)
        → (item_at content place ≡ Some (Standing bytes)
        → entry_with_part (entries_in content) entry.part.0 ≡ Some entry)
        → entry_with_part (entries_in (placed ∷ content)) entry.part.0 ≡ Some entry
    by_test true here further =
        ap (λ (o : Option CatEntry).
        entry_with_part (cons_option o (entries_in content)) entry.part.0)
        (standing-spells placed.1 bytes entry here spelled)
        ∙ ap (λ (b : Bool). cond b (Some entry) (entry_with_part (entries_in content) entry.part.0))
        (eq-eqb entry.part.0 entry.part.0 refl)
    by_test false there further =
        other-first (spelled_by placed) (entries_in content) entry.part.0 apart
        (has-at entry.part.0 content place bytes entry there spelled refl) ∙ further there

-- ---- one record is changed

pub same-or-apart : (place other : List ℕ) → (other ≡ place) ⊎ (other ≢ place)
same-or-apart place other = by_test (bytes_eq other place) refl
  where
    by_test : (b : Bool) → bytes_eq other place ≡ b → (other ≡ place) ⊎ (other ≢ place)
    by_test true is = inl ((bytes_eq-Decides other place).0 is)
    by_test false is =
        inr (λ same. true≢false (sym ((bytes_eq-Decides other place).1 same) ∙ is))

-- what stands at a place stands there in a content that has the same item there
pub stands-same : (part : ℕ) (one other : Content) (place : List ℕ)
    → item_at other place ≡ item_at one place → StandsAt part one place
    → StandsAt part other place
stands-same part one other place same is = record {
  bytes = is.bytes;
  stands = same ∙ is.stands;
  entry = is.entry;
  spelled = is.spelled;
  part_is = is.part_is;
}

-- What a change of the catalog makes the record of an entry of a part that the catalog has, was the
-- record of an entry like it.
pub record WasLike (part : ℕ) (content : Content) (place : List ℕ) (entry : CatEntry) : Type 0 where
  pub standing : StandsAt part content place
  pub alike : IsAlike standing.entry entry

pub was-like : (part : ℕ) (state : State) (change : Change)
    → IsAddition state change ⊎ IsReplacement state change → HasEntry part (catalog_of state)
    → (is : StandsAt part (placed_in change.place change.new (state.contents 0)) change.place)
    → WasLike part (state.contents 0) change.place is.entry
was-like part state change may has is = ⊎_elim
    (λ added. absurd (has-found part (catalog_of state) has (subst (λ (p : ℕ).
    entry_with_part (catalog_of state) p ≡ None) is.part_is (added.fresh is.entry
    (ap entry_of (same-bytes added.bytes is.bytes (sym added.added ∙ made)) ∙ is.spelled)))))
    (λ replaced. instead replaced.before replaced.stands
    (subst (IsInstead replaced.before) made replaced.instead)) may
  where
    same-bytes : (a b : List ℕ) → Some (Standing a) ≡ Some (Standing b) → a ≡ b
    same-bytes a b same = cc

    made : change.new ≡ Some (Standing is.bytes)
    made = sym (placed_here change.place change.new (state.contents 0)) ∙ is.stands

    instead : (before : List ℕ)
        → item_at (state.contents 0) change.place ≡ Some (Standing before)
        → IsInstead before (Some (Standing is.bytes))
        → WasLike part (state.contents 0) change.place is.entry
    instead before stands like =
        let same : like.1 ≡ is.entry =
        some-same like.1 is.entry (sym like.3 ∙ is.spelled) in
        record {
          standing = record {
            bytes = before;
            stands = stands;
            entry = like.0;
            spelled = like.2;
            part_is = sym (ap (λ (e : CatEntry). e.part.0) like.4)
                ∙ ap (λ (e : CatEntry). e.part.0) same ∙ is.part_is;
          };
          alike = subst (IsAlike like.0) same like.4;
        }

-- ---- the same parts in what counts

-- where the record of an entry of the part stands in the one, one stands in the other, too
abbrev pub StandsWhere : ℕ → Content → Content → Type 0
StandsWhere part now counted = (place : List ℕ) → StandsAt part now place
    → StandsAt part counted place

-- one change is made in both
pub both-changed : (part : ℕ) (place : List ℕ) (new : Option Item) (now counted : Content)
    → StandsWhere part now counted
    → StandsWhere part (placed_in place new now) (placed_in place new counted)
both-changed part place new now counted where-stands other is = ⊎_elim
    (λ same. stands-same part (placed_in place new now) (placed_in place new counted) other
    (subst (λ (p : List ℕ). item_at (placed_in place new counted) p
    ≡ item_at (placed_in place new now) p) (sym same)
    (placed_here place new counted ∙ sym (placed_here place new now))) is)
    (λ apart. stands-same part counted (placed_in place new counted) other
    (placed_elsewhere place new counted other apart)
    (where-stands other (stands-same part (placed_in place new now) now other
    (sym (placed_elsewhere place new now other apart)) is))) (same-or-apart place other)

-- or in the one alone
pub one-changed : (part : ℕ) (state : State) (change : Change) (counted : Content)
    → IsAddition state change ⊎ IsReplacement state change → HasEntry part (catalog_of state)
    → StandsWhere part (state.contents 0) counted
    → StandsWhere part (placed_in change.place change.new (state.contents 0)) counted
one-changed part state change counted may has where-stands other is = ⊎_elim
    (λ same. subst (StandsAt part counted) (sym same) (where-stands change.place
    (was-like part state change may has
    (subst (StandsAt part (placed_in change.place change.new (state.contents 0))) same is)).standing))
    (λ apart. where-stands other
    (stands-same part (placed_in change.place change.new (state.contents 0)) (state.contents 0) other
    (sym (placed_elsewhere change.place change.new (state.contents 0) other apart)) is))
    (same-or-apart change.place other)

-- ---- a part that stays in the catalog

pub stays-after : (part : ℕ) (catalog : List CatEntry) (entry : Entry) (entries : List Entry)
    → StaysIn part catalog (entry ∷ entries) → StaysIn part (catalog_after entry catalog) entries
stays-after part catalog entry entries stays before after is =
    stays (entry ∷ before) after (ap (λ (them : List Entry). entry ∷ them) is)

-- one that is not the catalog's own is that of an entry
pub has-entry : (part : ℕ) (parts : List ℕ) → nat_eq part 0 ≡ false → has_part parts part ≡ true
    → list_any (nat_eq part) parts ≡ true
has-entry part parts other has =
    subst (λ (b : Bool). (b || list_any (nat_eq part) parts) ≡ true) other has

pub has-parts : (part : ℕ) (parts : List ℕ) → list_any (nat_eq part) parts ≡ true
    → has_part parts part ≡ true
has-parts part parts has = or-right (nat_eq part 0) has

pub has-own : (part : ℕ) (parts : List ℕ) → nat_eq part 0 ≡ true → has_part parts part ≡ true
has-own part parts own = ap (λ (b : Bool). b || list_any (nat_eq part) parts) own
