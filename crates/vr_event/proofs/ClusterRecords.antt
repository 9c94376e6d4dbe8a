-- The records of clusters in the catalog: an entry is known by the place of its record, and each
-- item of the catalog is the record of an entry, at its place.
use Rattle.std.proofs.Common.{◌≡◌, ◌∙◌, ℕ, Bool, true, false, IsTrue, cond}
use Rattle.std.proofs.Common.{List}
use Rattle.std.proofs.Common.{[], ◌∷◌, ◌++◌, Option, Some, None, refl, sym, ap, arith}
use Rattle.std.proofs.Common.{length}
use Rattle.std.proofs.Common.{take, All, ◌==◌, append_assoc}
use Rattle.std.specs.Prelude.{bytes_eq, is_some}
use Rattle.std.specs.List.{AllByRecursion, before_first}
use Rattle.std.specs.List.Sorted.{IsStrictlySortedBy}
use Rattle.std.proofs.lemmas.List.Elements.{All-head, All-tail}
use Rattle.std.proofs.lemmas.List.{take_all, take-append-le}
use Rattle.std.proofs.lemmas.Option.{none-some}
use Rattle.std.proofs.lemmas.Slice.Eq.{bytes_eq-Decides}
use Rattle.vr_types.specs.Content.{Ascends, Content, Item, Placed, Standing, Withdrawn, item_at}
use Rattle.vr_types.specs.Content.{records_of}
use Rattle.vr_types.specs.declared.unit.AreaNo.{AreaNo}
use Rattle.vr_altkey.proofs.CallerLemmas.{item_first, none_below}
use Rattle.vr_catalog.specs.Definition.{catalog_definition, key_of}
use Rattle.vr_catalog.specs.Entry.{is_entry}
use Rattle.vr_catalog.specs.Record.{IsCatalogRecord, entry_in, entry_of}
use Rattle.vr_catalog.specs.Record.{padded, spelling, text_at}
use Rattle.vr_catalog.specs.declared.entry.CatEntry.{CatEntry}
use Rattle.vr_catalog.proofs.CallerLemmas.{spelled_by, spells}
use Rattle.vr_catalog.proofs.EntryRead.{entry_read}
use Rattle.vr_catalog.proofs.RecordLemmas.{length-padded}
use Rattle.vr_event.specs.Defining.{entry_place, entry_with_area}

-- ---- places

take-front : (n : ℕ) (front rest : List ℕ) → length front ≡ n → take n (front ++ rest) ≡ front
take-front n front rest is =
    take-append-le n front rest (omega (arith, is)) ∙ take_all n front (omega (arith, is))

-- the record of an entry begins with its name, with blanks after it
pub place-padded : (entry : CatEntry) → entry_place entry ≡ padded 44 entry.name
unfolding spelling
place-padded entry =
    simp append_assoc (take-front 44 (padded 44 entry.name) _ (length-padded 44 entry.name))

-- so the area makes no difference
pub place-area : (entry : CatEntry) (area : AreaNo)
    → entry_place (entry_with_area entry area) ≡ entry_place entry
place-area entry area =
    place-padded (entry_with_area entry area) ∙ sym (place-padded entry)

-- it is as long as the keys of the catalog
pub place-length : (entry : CatEntry) → length (entry_place entry) ≡ 44
place-length entry = ap length (place-padded entry) ∙ length-padded 44 entry.name

-- an entry has the name that its place has
abbrev pub name-of : List ℕ → List ℕ
name-of place = before_first (λ (byte : ℕ). byte == 32) place

pub name-at : (entry : CatEntry) → IsTrue (is_entry entry)
    → entry.name ≡ name-of (entry_place entry)
unfolding text_at entry_in
name-at entry is = sym (ap (λ (one : CatEntry). one.name) (entry_read entry is))

-- two entries at one place have one name
pub one-name : (one other : CatEntry) → IsTrue (is_entry one) → IsTrue (is_entry other)
    → entry_place one ≡ entry_place other → one.name ≡ other.name
one-name one other first second same =
    name-at one first ∙ ap name-of same ∙ sym (name-at other second)

-- with its area, an entry is one that a catalog may have, and its record spells it
pub record-spells : (entry : CatEntry) → IsTrue (is_entry entry)
    → entry_of (spelling entry) ≡ Some entry
record-spells entry is = spells (spelling entry) entry (record { entry_is = is; spelled = refl })

-- ---- the items of the catalog

-- An item of the catalog is the record of an entry, at its place.
pub record IsNamed (placed : Placed) : Type 0 where
  pub entry : CatEntry
  pub entry_is : IsTrue (is_entry entry)
  pub item_is : placed.1 ≡ Standing (spelling entry)
  pub place_is : placed.0 ≡ entry_place entry

-- one that stands at its key
pub record IsKeyedItem (placed : Placed) : Type 0 where
  pub bytes : List ℕ
  pub item_is : placed.1 ≡ Standing bytes
  pub place_is : placed.0 ≡ key_of catalog_definition bytes

abbrev IsSpelled : List ℕ × List ℕ → Type 0
IsSpelled placed = IsTrue (is_some (entry_of placed.1))

some-is : (o : Option CatEntry) → IsTrue (is_some o) → (entry : CatEntry) × (o ≡ Some entry)
some-is None is = absurd cc
some-is (Some entry) is = (entry, refl)

named-one : (place bytes : List ℕ) → place ≡ key_of catalog_definition bytes
    → IsTrue (is_some (entry_of bytes)) → IsNamed (place, Standing bytes)
named-one place bytes at is =
    let found = some-is (entry_of bytes) is in
    let by : IsCatalogRecord bytes found.0 = spelled_by bytes found.0 found.1 in
    record {
      entry = found.0;
      entry_is = by.entry_is;
      item_is = ap (λ (b : List ℕ). Standing b) by.spelled;
      place_is = at ∙ ap (key_of catalog_definition) by.spelled;
    }

-- so are all of them, where its records spell entries
pub all-named : (content : Content) → AllByRecursion IsKeyedItem content
    → All IsSpelled (records_of content) → AllByRecursion IsNamed content
all-named [] keyed spelled = tt
all-named ((place, Withdrawn n) ∷ content) keyed spelled = absurd (cc)
all-named ((place, Standing bytes) ∷ content) keyed spelled =
    let same : keyed.0.bytes ≡ bytes = cc in (
      named-one place bytes (keyed.0.place_is ∙ ap (key_of catalog_definition) same)
          (All-head IsSpelled (place, bytes) (records_of content) spelled),
      all-named content keyed.1
          (All-tail IsSpelled (place, bytes) (records_of content) spelled),
    )

-- what holds of each item that is found holds of all
pub each-item : (P : Placed → Type 0) (content : Content) → Ascends content
    → ((place : List ℕ) (item : Item) → item_at content place ≡ Some item → P (place, item))
    → AllByRecursion P content
unfolding IsStrictlySortedBy
each-item P [] ascends holds = tt
each-item P ((place, item) ∷ content) ascends holds = (
  holds place item (item_first (place, item) content place
      ∙ ap (λ (b : Bool). cond b (Some item) (item_at content place))
      ((bytes_eq-Decides place place).1 refl)),
  each-item P content ascends.1 (λ at found there. holds at found (below at found there)),
)
  where
    below : (at : List ℕ) (found : Item) → item_at content at ≡ Some found
        → item_at ((place, item) ∷ content) at ≡ Some found
    below at found there = by-test (bytes_eq at place) refl
      where
        by-test : (b : Bool) → bytes_eq at place ≡ b
            → item_at ((place, item) ∷ content) at ≡ Some found
        by-test true same = absurd (none-some found
            (sym (none-below-here ((bytes_eq-Decides at place).0 same)) ∙ there))
          where
            none-below-here : at ≡ place → item_at content at ≡ None
            none-below-here is = ap (item_at content) is ∙ none_below place content ascends.0
        by-test false apart = item_first (place, item) content at
            ∙ ap (λ (b : Bool). cond b (Some item) (item_at content at)) apart ∙ there
