-- What is committed in the state of a history whose entries keep the catalog is what the history
-- committed.
use Rattle.std.proofs.Common.{◌≡◌, ◌∙◌, ◌+◌, ◌<◌, ◌≤◌, ◌==◌, ◌&&◌, ◌||◌, ⊎_elim, ℕ, Bool, true}
use Rattle.std.proofs.Common.{false, cond, if◌then◌else◌, List, [], ◌∷◌, ◌++◌, Option, Some, None}
use Rattle.std.proofs.Common.{ap, arith, eq-eqb, filter, map, not, refl, subst, sym}
use Rattle.std.specs.Prelude.{All, nat_eq}
use Rattle.std.specs.List.{AllByRecursion, list_any}
use Rattle.std.specs.Option.{option_map_or}
use Rattle.std.proofs.lemmas.Bool.{true≢false}
use Rattle.std.proofs.lemmas.Bool.Decides.{nat_tests}
use Rattle.std.proofs.lemmas.List.Elements.{All-cons, All-nil}
use Rattle.vr_types.specs.Content.{Content}
use Rattle.vr_types.specs.Image.{Image}
use Rattle.vr_types.specs.Locks.{same_unit}
use Rattle.vr_types.specs.declared.geometry.Geometry.{Geometry}
use Rattle.vr_types.specs.declared.reply.Reply.TheVariants.{Done, Refused}
use Rattle.vr_types.specs.declared.request.Request.{Request}
use Rattle.vr_types.specs.declared.request.Request.TheVariants.{Get, Point, Add, Update, Erase}
use Rattle.vr_types.specs.declared.request.Request.TheVariants.{EndReq, Commit, Backout}
use Rattle.vr_types.specs.declared.unit.Unit.{Unit as UnitOfRecovery}
use Rattle.vr_catalog.specs.Catalog.{entries_in, parts_in}
use Rattle.vr_catalog.specs.declared.entry.CatEntry.{CatEntry}
use Rattle.vr_log.specs.declared.record.EndKind.TheVariants.{Committed}
use Rattle.vr_log.specs.declared.record.LogRecord.{LogRecord}
use Rattle.vr_log.specs.declared.record.LogRecord.TheVariants.{End}
use Rattle.vr_history.specs.Change.{Change}
use Rattle.vr_history.specs.Committed.{changed, commits, committed, counted_entry, is_counted}
use Rattle.vr_history.specs.Committed.{left_at_end}
use Rattle.vr_history.specs.Effects.{changes, has_part, is_other, keeps_other, last_kept, placed_in}
use Rattle.vr_history.specs.Effects.{takes_out, without_last}
use Rattle.vr_history.specs.Laws.{HasPartThroughout, record_now}
use Rattle.vr_history.specs.Legal.{AreSteps, state_of}
use Rattle.vr_history.specs.Opened.{catalog_of}
use Rattle.vr_history.specs.State.{BeforeImage, Owned, State, is_kept, opening_state}
use Rattle.vr_history.specs.Step.{MayEnter, after_what, change_back, place_changes, state_after}
use Rattle.vr_history.specs.declared.entry.Entry.{Entry}
use Rattle.vr_history.specs.declared.entry.What.{What}
use Rattle.vr_history.specs.declared.entry.What.TheVariants.{Asked, Undone, Claimed, Split, Faulted}
use Rattle.vr_history.proofs.Same.{unit_same}
use Rattle.vr_volume.specs.Committed.{has_commit, kept_by}
use Rattle.vr_volume.specs.Crashes.{committed_with, is_among, kept_but}
use Rattle.vr_volume.specs.Volume.{Recovers}
use Rattle.vr_volume.specs.PutBack.{put_back, standing}
use Rattle.vr_volume.proofs.Histories.{committed-everywhere, record-back}
use Rattle.vr_job.specs.Catalogs.{catalog_after}
use Rattle.vr_job.specs.Committed.{HasCommitted, KeepTheCatalog, KeepsCatalog, StaysIn}
use Rattle.vr_job.proofs.Ascending.{AllAscend, history-ascends}
use Rattle.vr_job.proofs.CatalogChanges.{StaysOrChanged, catalog-changed, entry-changes}
use Rattle.vr_job.proofs.CatalogEntries.{HasEntry, IsFound, StandsWhere, both-changed, find-part}
use Rattle.vr_job.proofs.CatalogEntries.{has-entry, has-own, has-parts, has-standing, one-changed}
use Rattle.vr_job.proofs.CatalogEntries.{stays-after}
use Rattle.vr_job.proofs.Effects.{IsDone, IsEnded, IsMade, done-is, ends, raised, refused-stays}
use Rattle.vr_job.proofs.Effects.IsDone.{DoneChange, DoneEnd, DoneNothing}
use Rattle.vr_job.proofs.Effects.MadeOr.{NoChange, OneChange}

-- ---- a part that stays in the catalog is there throughout

left-keeps : (ends : Bool) (contents : ℕ → Content) → left_at_end ends contents 0 ≡ contents 0
left-keeps true contents = refl
left-keeps false contents = refl

stands-in : (part : ℕ) (now now' counted counted' : Content) → now' ≡ now → counted' ≡ counted
    → StandsWhere part now counted → StandsWhere part now' counted'
stands-in part now now' counted counted' same also is =
    subst (λ (one : Content). StandsWhere part one counted') (sym same)
    (subst (λ (other : Content). StandsWhere part now other) (sym also) is)

-- over an entry: where a record of it stands in the state, one stands in what counts
stands-after : (geometry : Geometry) (part : ℕ) (state : State) (entry : Entry)
    (contents : ℕ → Content) (counts : Bool) → KeepsCatalog geometry state entry
    → HasEntry part (catalog_of state) → StandsWhere part (state.contents 0) (contents 0)
    → StandsWhere part ((state_after geometry state entry).contents 0)
    (cond counts (counted_entry geometry state entry contents) contents 0)
stands-after geometry part state entry contents counts keeps has is = by-counts counts
    (entry-changes geometry state entry.unit entry.what keeps.may)
  where
    changes : List Change
    changes = place_changes geometry state entry.unit entry.what

    now : (state_after geometry state entry).contents 0 ≡ changed state.contents changes 0
    now = catalog-changed geometry state entry.unit entry.stamp entry.what

    counted : counted_entry geometry state entry contents 0 ≡ changed contents changes 0
    counted = left-keeps (commits entry.what) (changed contents changes)

    by-counts : (counts : Bool) → StaysOrChanged state changes
        → StandsWhere part ((state_after geometry state entry).contents 0)
        (cond counts (counted_entry geometry state entry contents) contents 0)
    by-counts true changes = ⊎_elim
        (λ stays. stands-in part (state.contents 0) _ (contents 0) _ (now ∙ stays state.contents)
        (counted ∙ stays contents) is)
        (λ one. stands-in part (placed_in one.change.place one.change.new (state.contents 0)) _
        (placed_in one.change.place one.change.new (contents 0)) _ (now ∙ one.is state.contents)
        (counted ∙ one.is contents)
        (both-changed part one.change.place one.change.new (state.contents 0) (contents 0) is))
        changes
    by-counts false changes = ⊎_elim
        (λ stays. stands-in part (state.contents 0) _ (contents 0) _ (now ∙ stays state.contents)
        refl is)
        (λ one. stands-in part (placed_in one.change.place one.change.new (state.contents 0)) _
        (contents 0) _ (now ∙ one.is state.contents) refl
        (one-changed part state one.change (contents 0) one.may has is)) changes

-- the catalog's own part is in each
own-throughout : (geometry : Geometry) (part : ℕ) (counts : UnitOfRecovery → Bool) (state : State)
    (contents : ℕ → Content) (entries : List Entry) → nat_eq part 0 ≡ true
    → HasPartThroughout geometry part counts state contents entries
own-throughout geometry part counts state contents [] own = tt
own-throughout geometry part counts state contents (entry ∷ entries) own = (
  (
    has-own part (parts_in (catalog_of state)) own,
    has-own part (parts_in (entries_in (contents 0))) own,
  ),
  own-throughout geometry part counts (state_after geometry state entry)
      (cond (counts entry.unit) (counted_entry geometry state entry contents) contents) entries own,
)

-- and so is one that stays in it
stays-throughout : (geometry : Geometry) (part : ℕ) (counts : UnitOfRecovery → Bool) (state : State)
    (contents : ℕ → Content) (catalog : List CatEntry) (entries : List Entry)
    → nat_eq part 0 ≡ false → catalog ≡ catalog_of state → StaysIn part catalog entries
    → AllAscend state.contents → StandsWhere part (state.contents 0) (contents 0)
    → KeepTheCatalog geometry state entries
    → HasPartThroughout geometry part counts state contents entries
stays-throughout geometry part counts state contents catalog [] other same stays ascend is keep = tt
stays-throughout geometry part counts state contents catalog (entry ∷ entries) other same stays
    ascend is keep = (
      (
        here,
        has-parts part (parts_in (entries_in (contents 0)))
            (has-standing part (contents 0) found.place (is found.place found.standing)),
      ),
      stays-throughout geometry part counts (state_after geometry state entry)
          (cond (counts entry.unit) (counted_entry geometry state entry contents) contents)
          (catalog_after entry catalog) entries other
          (ap (catalog_after entry) same ∙ sym keep.0.makes)
          (stays-after part catalog entry entries stays)
          (history-ascends geometry state (entry ∷ []) ascend)
          (stands-after geometry part state entry contents (counts entry.unit) keep.0 has is)
          keep.1,
    )
  where
    here : has_part (parts_in (catalog_of state)) part ≡ true
    here = subst (λ (them : List CatEntry). has_part (parts_in them) part ≡ true) same
        (stays [] (entry ∷ entries) refl)

    has : HasEntry part (catalog_of state)
    has = has-entry part (parts_in (catalog_of state)) other here

    found : IsFound part (state.contents 0)
    found = find-part part (state.contents 0) (ascend 0) has

part-throughout : (geometry : Geometry) (part : ℕ) (counts : UnitOfRecovery → Bool) (state : State)
    (catalog : List CatEntry) (entries : List Entry) → catalog ≡ catalog_of state
    → StaysIn part catalog entries → AllAscend state.contents → KeepTheCatalog geometry state entries
    → HasPartThroughout geometry part counts state state.contents entries
part-throughout geometry part counts state catalog entries same stays ascend keep =
    by_part (nat_eq part 0) refl
  where
    by_part : (b : Bool) → nat_eq part 0 ≡ b
        → HasPartThroughout geometry part counts state state.contents entries
    by_part true own = own-throughout geometry part counts state state.contents entries own
    by_part false other = stays-throughout geometry part counts state state.contents catalog entries
        other same stays ascend (λ place standing. standing) keep

-- ---- a unit that keeps a before-image has not ended

abbrev IsNow : (ℕ → ℕ) → BeforeImage → Type 0
IsNow numbers image = image.unit.number ≡ numbers image.unit.deck

abbrev AreNow : State → Type 0
AreNow state = AllByRecursion (IsNow state.numbers) state.befores

-- lists of which some is left, or that have one more
pub all-left : {X : Type 0} (P : X → Type 0) (test : X → Bool) (xs : List X) → AllByRecursion P xs
    → AllByRecursion P (filter test xs)
all-left P test [] are = tt
all-left P test (x ∷ xs) are = by_test (test x) (all-left P test xs are.1)
  where
    by_test : (b : Bool) → AllByRecursion P (filter test xs)
        → AllByRecursion P (cond b (x ∷ filter test xs) (filter test xs))
    by_test true rest = (are.0, rest)
    by_test false rest = rest

pub all-push : {X : Type 0} (P : X → Type 0) (xs : List X) (x : X) → AllByRecursion P xs → P x
    → AllByRecursion P (xs ++ x ∷ [])
all-push P [] x are is = (is, tt)
all-push P (y ∷ xs) x are is = (are.0, all-push P xs x are.1 is)

pub all-cond : {X : Type 0} (P : X → Type 0) (b : Bool) (xs ys : List X) → AllByRecursion P xs
    → AllByRecursion P ys → AllByRecursion P (cond b xs ys)
all-cond P true xs ys one other = one
all-cond P false xs ys one other = other

pub all-but-last : (P : BeforeImage → Type 0) (unit : UnitOfRecovery) (befores : List BeforeImage)
    → AllByRecursion P befores → AllByRecursion P (without_last unit befores)
all-but-last P unit [] are = tt
all-but-last P unit (kept ∷ befores) are =
    all-cond P (same_unit unit kept.unit && not (keeps_other unit befores)) befores
    (kept ∷ without_last unit befores) are.1 (are.0, all-but-last P unit befores are.1)

-- the number of a deck's unit never falls
raised-rises : (unit : UnitOfRecovery) (numbers : ℕ → ℕ) (deck : ℕ)
    → numbers deck ≤ raised unit numbers deck
raised-rises unit numbers deck = by_test (deck == unit.deck)
  where
    by_test : (b : Bool) → numbers deck ≤ (if b then numbers deck + 1 else numbers deck)
    by_test true = omega arith
    by_test false = omega arith

raised-own : (unit : UnitOfRecovery) (numbers : ℕ → ℕ)
    → numbers unit.deck < raised unit numbers unit.deck
raised-own unit numbers = by_test (unit.deck == unit.deck) (eq-eqb unit.deck unit.deck refl)
  where
    by_test : (b : Bool) → b ≡ true
        → numbers unit.deck < (if b then numbers unit.deck + 1 else numbers unit.deck)
    by_test true is = omega arith
    by_test false is = absurd (true≢false (sym is))

-- where a unit ends, what others keep is theirs still
ended-now : (unit : UnitOfRecovery) (numbers : ℕ → ℕ) (befores : List BeforeImage)
    → unit.number ≡ numbers unit.deck → AllByRecursion (IsNow numbers) befores
    → AllByRecursion (IsNow (raised unit numbers))
    (filter (λ (kept : BeforeImage). is_other unit kept.unit) befores)
ended-now unit numbers [] current are = tt
ended-now unit numbers (kept ∷ befores) current are =
    by_test (same_unit unit kept.unit) refl (ended-now unit numbers befores current are.1)
  where
    rest : List BeforeImage
    rest = filter (λ (one : BeforeImage). is_other unit one.unit) befores

    other-deck : (b : Bool) → (kept.unit.deck == unit.deck) ≡ b
        → same_unit unit kept.unit ≡ false
        → kept.unit.number ≡ (if b then numbers kept.unit.deck + 1 else numbers kept.unit.deck)
    other-deck false is apart = are.0
    other-deck true is apart =
        let deck : kept.unit.deck ≡ unit.deck = grind (arith, nat_tests, is) in
        let number : kept.unit.number ≡ unit.number =
        are.0 ∙ ap numbers deck ∙ sym current in
        absurd (true≢false (sym (ap (λ (b : Bool). b && unit.number == kept.unit.number)
        (eq-eqb unit.deck kept.unit.deck (sym deck)) ∙ eq-eqb unit.number kept.unit.number
        (sym number)) ∙ apart))

    by_test : (b : Bool) → same_unit unit kept.unit ≡ b
        → AllByRecursion (IsNow (raised unit numbers)) rest
        → AllByRecursion (IsNow (raised unit numbers)) (cond (not b) (kept ∷ rest) rest)
    by_test true own are_rest = are_rest
    by_test false apart are_rest =
        (other-deck (kept.unit.deck == unit.deck) refl apart, are_rest)

-- what an entry leaves of the units
record Goes (state new : State) : Type 0 where
  now : AreNow state → AreNow new
  rise : (deck : ℕ) → state.numbers deck ≤ new.numbers deck

goes-same : (state new : State) → new.befores ≡ state.befores → new.numbers ≡ state.numbers
    → Goes state new
goes-same state new befores numbers = record {
  now = λ are. subst (λ (them : List BeforeImage). AllByRecursion (IsNow new.numbers) them)
      (sym befores) (subst (λ (all : ℕ → ℕ). AllByRecursion (IsNow all) state.befores)
      (sym numbers) are);
  rise = λ deck. subst (λ (all : ℕ → ℕ). state.numbers deck ≤ all deck) (sym numbers)
      (omega arith);
}

goes-ended : (unit : UnitOfRecovery) (state new : State) → unit.number ≡ state.numbers unit.deck
    → IsEnded unit state new → Goes state new
goes-ended unit state new current ended = record {
  now = λ are. subst (λ (them : List BeforeImage). AllByRecursion (IsNow new.numbers) them)
      (sym ended.befores) (subst (λ (all : ℕ → ℕ). AllByRecursion (IsNow all)
      (filter (λ (kept : BeforeImage). is_other unit kept.unit) state.befores))
      (sym ended.numbers) (ended-now unit state.numbers state.befores current are));
  rise = λ deck. subst (λ (all : ℕ → ℕ). state.numbers deck ≤ all deck) (sym ended.numbers)
      (raised-rises unit state.numbers deck);
}

goes-made : (unit : UnitOfRecovery) (change : Change) (state new : State)
    → unit.number ≡ state.numbers unit.deck → IsMade unit change state new → Goes state new
goes-made unit change state new current made = record {
  now = λ are. subst (λ (them : List BeforeImage). AllByRecursion (IsNow new.numbers) them)
      (sym made.befores) (subst (λ (all : ℕ → ℕ). AllByRecursion (IsNow all)
      (cond (is_kept state unit change.part change.place) state.befores
      (state.befores ++ made.image ∷ []))) (sym made.numbers)
      (all-cond (IsNow state.numbers) (is_kept state unit change.part change.place) state.befores
      (state.befores ++ made.image ∷ []) are
      (all-push (IsNow state.numbers) state.befores made.image are
      (subst (λ (u : UnitOfRecovery). u.number ≡ state.numbers u.deck) (sym made.image_unit)
      current))));
  rise = λ deck. subst (λ (all : ℕ → ℕ). state.numbers deck ≤ all deck) (sym made.numbers)
      (omega arith);
}

module _ (geometry : Geometry) (state : State) (unit : UnitOfRecovery) where
  goes-done : (request : Request) (new : State) → unit.number ≡ state.numbers unit.deck
      → IsDone geometry state unit request new → Goes state new
  goes-done request new current (DoneNothing stays) =
      goes-same state new stays.befores stays.numbers
  goes-done request new current (DoneEnd ended) = goes-ended unit state new current ended
  goes-done request new current (DoneChange (NoChange none stays)) =
      goes-same state new stays.befores stays.numbers
  goes-done request new current (DoneChange (OneChange change is made)) =
      goes-made unit change state new current made

  goes-back : (kept : Option BeforeImage) → Goes state
      (option_map_or (λ (it : BeforeImage). takes_out unit
      (changes (change_back state it) state)) kept state)
  goes-back None = goes-same state state refl refl
  goes-back (Some kept) = record {
    now = λ are. all-but-last (IsNow state.numbers) unit state.befores are;
    rise = λ deck. omega arith;
  }

  goes-entry : (stamp : ℕ) (what : What) → MayEnter geometry state unit what
      → Goes state (after_what geometry state unit stamp what)
  goes-entry stamp (Asked request (Done feedback place bytes)) may = goes-done request _ may.0
      (done-is geometry state unit request feedback place bytes)
  goes-entry stamp (Asked request (Refused refusal)) may =
      let stays = refused-stays geometry state unit request (Refused refusal) refusal refl in
      goes-same state _ stays.befores stays.numbers
  goes-entry stamp (Undone part place) may = goes-back (last_kept state unit)
  goes-entry stamp (Claimed part area) may = goes-same state _ refl refl
  goes-entry stamp (Split part) may = goes-same state _ refl refl
  goes-entry stamp (Faulted fault) may = goes-same state _ refl refl

  -- a COMMIT that is done ends the unit
  commit-raises : (stamp : ℕ) (what : What) → commits what ≡ true → state.numbers unit.deck
      < (after_what geometry state unit stamp what).numbers unit.deck
  commit-raises stamp (Asked Commit (Done feedback place bytes)) is =
      subst (λ (all : ℕ → ℕ). state.numbers unit.deck < all unit.deck)
      (sym (ends geometry state unit).numbers) (raised-own unit state.numbers)
  commit-raises stamp (Asked Backout (Done feedback place bytes)) is = absurd cc
  commit-raises stamp (Asked (Get file find update integrity) (Done feedback place bytes)) is =
      absurd cc
  commit-raises stamp (Asked (Point file find) (Done feedback place bytes)) is = absurd cc
  commit-raises stamp (Asked (Add file named added) (Done feedback place bytes)) is = absurd cc
  commit-raises stamp (Asked (Update file updated) (Done feedback place bytes)) is = absurd cc
  commit-raises stamp (Asked (Erase file) (Done feedback place bytes)) is = absurd cc
  commit-raises stamp (Asked (EndReq file) (Done feedback place bytes)) is = absurd cc
  commit-raises stamp (Asked request (Refused refusal)) is = absurd cc
  commit-raises stamp (Undone part place) is = absurd cc
  commit-raises stamp (Claimed part area) is = absurd cc
  commit-raises stamp (Split part) is = absurd cc
  commit-raises stamp (Faulted fault) is = absurd cc

-- over a history
numbers-rise : (geometry : Geometry) (state : State) (entries : List Entry)
    → AreSteps geometry state entries → (deck : ℕ)
    → state.numbers deck ≤ (state_of geometry state entries).numbers deck
numbers-rise geometry state [] steps deck = omega arith
numbers-rise geometry state (entry ∷ entries) steps deck = omega (
  arith,
  (goes-entry geometry state entry.unit entry.stamp entry.what steps.0).rise deck,
  numbers-rise geometry (state_after geometry state entry) entries steps.1 deck,
)

all-now : (geometry : Geometry) (state : State) (entries : List Entry)
    → AreSteps geometry state entries → AreNow state → AreNow (state_of geometry state entries)
all-now geometry state [] steps are = are
all-now geometry state (entry ∷ entries) steps are =
    all-now geometry (state_after geometry state entry) entries steps.1
    ((goes-entry geometry state entry.unit entry.stamp entry.what steps.0).now are)

-- a unit that is its deck's current one after it has no COMMIT in it
none-commits : (geometry : Geometry) (state : State) (entries : List Entry)
    → AreSteps geometry state entries → (unit : UnitOfRecovery)
    → unit.number ≡ (state_of geometry state entries).numbers unit.deck
    → state.numbers unit.deck ≤ unit.number
    → list_any (λ (entry : Entry). same_unit unit entry.unit && commits entry.what) entries ≡ false
none-commits geometry state [] steps unit current above = refl
none-commits geometry state (entry ∷ entries) steps unit current above =
    by_test (same_unit unit entry.unit) (commits entry.what) refl refl
    (none-commits geometry (state_after geometry state entry) entries steps.1 unit current
    (omega (
      arith,
      current,
      numbers-rise geometry (state_after geometry state entry) entries
          steps.1 unit.deck,
    )))
  where
    of-asked : (what : What) → MayEnter geometry state entry.unit what → commits what ≡ true
        → entry.unit.number ≡ state.numbers entry.unit.deck
    of-asked (Asked request reply) may commit = may.0
    of-asked (Undone part place) may commit = absurd cc
    of-asked (Claimed part area) may commit = absurd cc
    of-asked (Split part) may commit = absurd cc
    of-asked (Faulted fault) may commit = absurd cc

    not-own : commits entry.what ≡ true → unit ≡ entry.unit → ⊥
    not-own commit own = omega (
      arith,
      current,
      ap (λ (u : UnitOfRecovery). u.number) own,
      of-asked entry.what steps.0 commit,
      commit-raises geometry state entry.unit entry.stamp entry.what commit,
      numbers-rise geometry (state_after geometry state entry) entries steps.1 entry.unit.deck,
      ap (λ (u : UnitOfRecovery).
          (state_of geometry (state_after geometry state entry) entries).numbers u.deck) own,
    )

    by_test : (same ends : Bool) → same_unit unit entry.unit ≡ same → commits entry.what ≡ ends
        → list_any (λ (one : Entry). same_unit unit one.unit && commits one.what) entries ≡ false
        → (same && ends || list_any (λ (one : Entry). same_unit unit one.unit && commits one.what)
        entries) ≡ false
    by_test false ends is commit further = further
    by_test true false is commit further = further
    by_test true true is commit further = absurd (not-own commit (unit_same unit entry.unit is))

-- ---- which units count

-- the commits of some units
abbrev commits-of : List UnitOfRecovery → List LogRecord
commits-of units = map (λ (unit : UnitOfRecovery). End unit Committed) units

or-same : (a b c : Bool) → b ≡ c → ((a && true) || b) ≡ (a || c)
or-same true b c same = refl
or-same false b c same = same

has-among : (counted : List UnitOfRecovery) (unit : UnitOfRecovery)
    → has_commit (commits-of counted) unit ≡ is_among counted unit
has-among [] unit = refl
has-among (one ∷ counted) unit = or-same (same_unit one unit)
    (has_commit (commits-of counted) unit) (is_among counted unit) (has-among counted unit)

same-turned : (unit other : UnitOfRecovery) → same_unit unit other ≡ same_unit other unit
same-turned unit other = grind (arith, nat_tests)

any-turned : (counted : List UnitOfRecovery) (unit : UnitOfRecovery)
    → list_any (same_unit unit) counted ≡ is_among counted unit
any-turned [] unit = refl
any-turned (one ∷ counted) unit =
    ap (λ (b : Bool). b || list_any (same_unit unit) counted) (same-turned unit one)
    ∙ ap (λ (b : Bool). same_unit one unit || b) (any-turned counted unit)

kept-same : (counted : List UnitOfRecovery) (befores : List BeforeImage)
    → kept_by (commits-of counted) befores ≡ kept_but counted befores
kept-same counted [] = refl
kept-same counted (image ∷ befores) =
    ap (λ (them : List BeforeImage).
    cond (not (has_commit (commits-of counted) image.unit)) (image ∷ them) them)
    (kept-same counted befores)
    ∙ ap (λ (b : Bool). cond (not b) (image ∷ kept_but counted befores) (kept_but counted befores))
    (has-among counted image.unit)

or-none : (a b : Bool) → b ≡ false → (a || b) ≡ a
or-none true b none = refl
or-none false b none = none

-- ---- what is committed

module _ (geometry : Geometry) (contents : ℕ → Content) (owned : List Owned) (entries : List Entry)
    (steps : AreSteps geometry (opening_state contents owned) entries)
    (ascend : AllAscend contents) where
  abbrev opening : State
  opening = opening_state contents owned

  abbrev end : State
  end = state_of geometry opening entries

  count-alike : (counted : List UnitOfRecovery) (befores : List BeforeImage)
      → AllByRecursion (IsNow end.numbers) befores
      → AllByRecursion (λ (image : BeforeImage). 1 ≤ image.unit.number) befores
      → All (λ (image : BeforeImage). is_counted counted entries image.unit
      ≡ has_commit (commits-of counted) image.unit) befores
  count-alike counted [] are from = All-nil (λ (image : BeforeImage).
      is_counted counted entries image.unit ≡ has_commit (commits-of counted) image.unit)
  count-alike counted (image ∷ befores) are from = All-cons (λ (image : BeforeImage).
      is_counted counted entries image.unit ≡ has_commit (commits-of counted) image.unit) image
      befores
      (or-none (list_any (same_unit image.unit) counted) _
      (none-commits geometry opening entries steps image.unit are.0 from.0)
      ∙ any-turned counted image.unit ∙ sym (has-among counted image.unit))
      (count-alike counted befores are.1 from.1)

  from-one : (befores : List BeforeImage) → AllByRecursion (IsNow end.numbers) befores
      → AllByRecursion (λ (image : BeforeImage). 1 ≤ image.unit.number) befores
  from-one [] are = tt
  from-one (image ∷ befores) are = (
    omega (arith, are.0, numbers-rise geometry opening entries steps image.unit.deck),
    from-one befores are.1,
  )

  -- the records that are committed in the state are those that the history committed
  pub records-committed : KeepTheCatalog geometry opening entries
      → (counted : List UnitOfRecovery) (part : ℕ) (catalog : List CatEntry)
      → catalog ≡ entries_in (contents 0) → StaysIn part catalog entries → (place : List ℕ)
      → record_now (committed_with counted end) part place
      ≡ record_now (committed geometry opening entries counted) part place
  records-committed keep counted part catalog same stays place =
      ap (λ (them : List BeforeImage).
      record_now (λ (p : ℕ). put_back p them (standing (end.contents p))) part place)
      (sym (kept-same counted end.befores))
      ∙ record-back part (kept_by (commits-of counted) end.befores) (end.contents part) place
      (history-ascends geometry opening entries ascend part)
      ∙ committed-everywhere geometry contents owned entries counted (commits-of counted) part steps
      (part-throughout geometry part (is_counted counted entries) opening catalog entries same
      stays ascend keep)
      (count-alike counted end.befores (all-now geometry opening entries steps tt)
      (from-one end.befores (all-now geometry opening entries steps tt))) place

  pub has-committed : (number : ℕ) (catalog : List CatEntry) → catalog ≡ entries_in (contents 0)
      → KeepTheCatalog geometry opening entries → (counted : List UnitOfRecovery) (image : Image)
      → Recovers geometry number image (committed_with counted end)
      → HasCommitted geometry number catalog opening entries counted image
  has-committed number catalog is keep counted image recovers = record {
    recovered = committed_with counted end;
    recovers = recovers;
    records = λ part stays place.
        records-committed keep counted part catalog is stays place;
  }
