-- A definition of a cluster over a store: what its two steps, the new part and its record, make of
-- the store together.
use Rattle.std.proofs.Common.{◌≡◌, ◌≢◌, ◌⊎◌, inl, ◌==◌, ◌++◌, ◌∷◌, ◌∙◌, ℕ, Bool, true, false, cond, IsTrue}
use Rattle.std.proofs.Common.{List, [], Option, Some, None, refl, sym, ap, subst}
use Rattle.std.specs.Prelude.{Err, IfErr, IfSome, Ok, Result}
use Rattle.std.specs.Option.{option_map}
use Rattle.std.proofs.lemmas.Bool.{true≢false}
use Rattle.std.proofs.lemmas.Bool.Decides.{Decides-eqb}
use Rattle.vr_types.specs.Image.{Image}
use Rattle.vr_types.specs.Moments.{Guards}
use Rattle.vr_types.specs.Seen.{Left, Seen}
use Rattle.vr_types.specs.Space.{least_free, released}
use Rattle.vr_types.specs.declared.unit.AreaNo.{AreaNo}
use Rattle.vr_types.specs.declared.unit.PartNo.{PartNo}
use Rattle.vr_types.specs.declared.unit.Unit.{Unit as UnitOfRecovery}
use Rattle.vr_types.proofs.CallerLemmas.{guards-then, guards-weaken}
use Rattle.vr_catalog.specs.declared.definition.Definition.{Definition}
use Rattle.vr_space.specs.Part.{Shape, owned_count}
use Rattle.vr_attach.specs.Laid.{shape_by_kind}
use Rattle.vr_history.specs.State.{State}
use Rattle.vr_volume.specs.Crashes.{RecoversTo}
use Rattle.vr_volume.specs.Defining.{CanDefine, IsStarted}
use Rattle.vr_store.specs.Change.{IsSettable}
use Rattle.vr_store.specs.Define.{HasNewPart, HasNewShape, IsBegun, IsDefining, IsEntryReady, IsMetAt}
use Rattle.vr_store.specs.Define.{IsStartedIn, TouchesAreasOf}
use Rattle.vr_store.specs.Parts.{OnlyMet, with_part}
use Rattle.vr_store.specs.Store.{IsSet, PartNow, Stands, StoreNow, has_number, part_among}
use Rattle.vr_store.specs.Store.{owners_of, shape_among}
use Rattle.vr_store.proofs.AddedParts.{among-added, among-more, with-added}
use Rattle.vr_store.proofs.NewAreas.{back, given}
use Rattle.vr_store.proofs.NobodysBlocks.{guards-beside, ready-beside, stored-given}
use Rattle.vr_store.proofs.PartsAt.{only-met}
use Rattle.vr_store.proofs.PlacedParts.{shapes-same, split-met}
use Rattle.vr_store.proofs.Recorded.{number-at}

some-none : {X : Type 0} {x : X} → Some x ≡ None → ⊥
some-none same = cc

some-same : {X : Type 0} {x y : X} → Some x ≡ Some y → x ≡ y
some-same same = cc

-- what holds whatever a call fails with
pub if-err-any : {T E : Type 0} (result : Result T E) (P : E → Type 0) → ((fault : E) → P fault)
    → IfErr result P
if-err-any (Ok value) P holds = tt
if-err-any (Err fault) P holds = holds fault

-- ---- images

-- an image recovers to the old state, or to the new one
abbrev pub Either : StoreNow → ℕ → State → State → Image → Type 0
Either store number old new image = RecoversTo store.log.geometry number old [] image
    ⊎ RecoversTo store.log.geometry number new [] image

-- ---- parts

module _ (added : PartNow) where
  -- a part that is there is found beside the new one
  pub found-more : (parts : List PartNow) (number : ℕ) → part_among parts number ≢ None
      → part_among (with-added added parts) number ≡ part_among parts number
  found-more parts number some = by_found (part_among parts number) refl
    where
      by_found : (found : Option PartNow) → part_among parts number ≡ found
          → part_among (with-added added parts) number ≡ part_among parts number
      by_found None none = absurd (some none)
      by_found (Some part) is = among-more added parts number part is ∙ sym is

  -- the shapes are those of the parts, and the new one's
  shape-more : (parts : List PartNow) (number : ℕ) → part_among parts added.number.0 ≡ None
      → shape_among (with-added added parts) number
      ≡ cond (number == added.number.0) (Some added.shape) (shape_among parts number)
  shape-more parts number none = by_test (number == added.number.0) refl
    where
      by_found : (found : Option PartNow) → part_among parts number ≡ found
          → (number == added.number.0) ≡ false
          → shape_among (with-added added parts) number ≡ shape_among parts number
      by_found None is apart =
          ap (option_map (λ (p : PartNow). p.shape))
          (among-added added parts number is
          ∙ ap (λ (test : Bool). cond test (Some added) None) (not-there (has_number number added) refl)
          ∙ sym is)
        where
          not-there : (test : Bool) → has_number number added ≡ test → test ≡ false
          not-there true there = absurd (true≢false
              (sym ((Decides-eqb number added.number.0).1
              (sym ((Decides-eqb added.number.0 number).0 there))) ∙ apart))
          not-there false there = refl
      by_found (Some part) is apart = ap (option_map (λ (p : PartNow). p.shape))
          (among-more added parts number part is ∙ sym is)

      by_test : (test : Bool) → (number == added.number.0) ≡ test
          → shape_among (with-added added parts) number
          ≡ cond test (Some added.shape) (shape_among parts number)
      by_test true is =
          let here : number ≡ added.number.0 = (Decides-eqb number added.number.0).0 is in
          ap (option_map (λ (p : PartNow). p.shape))
          (among-added added parts number (ap (part_among parts) here ∙ none)
          ∙ ap (λ (test : Bool). cond test (Some added) None)
          ((Decides-eqb added.number.0 number).1 (sym here)))
      by_test false is = by_found (part_among parts number) refl is

  -- a part that is worked on is in its place before the new one
  with-more : (number : ℕ) (after : PartNow) (parts : List PartNow)
      → part_among parts number ≢ None
      → with_part number after (with-added added parts)
      ≡ with-added added (with_part number after parts)
  with-more number after [] some = absurd (some refl)
  with-more number after (one ∷ parts) some =
      by_test (has_number number one) some (λ further. with-more number after parts further)
    where
      by_test : (test : Bool) → cond test (Some one) (part_among parts number) ≢ None
          → (part_among parts number ≢ None
          → with_part number after (with-added added parts)
          ≡ with-added added (with_part number after parts))
          → cond test (after ∷ with-added added parts)
          (one ∷ with_part number after (with-added added parts))
          ≡ with-added added (cond test (after ∷ parts) (one ∷ with_part number after parts))
      by_test true some further = refl
      by_test false some further = ap (λ (rest : List PartNow). one ∷ rest) (further some)

-- ---- the new part, once its record is there

module _ (tells : Bool) (part : PartNo) (area : AreaNo) (definition : Definition)
    (store mid : StoreNow) (now : Seen)
    (started : IsStartedIn tells part area definition store mid now)
    (fresh : part_among store.parts part.0 ≡ None) (catalog : part_among store.parts 0 ≢ None) where
  abbrev added : PartNow
  added = started.added

  pub parts-is : mid.parts ≡ with-added added store.parts
  parts-is = ap (λ (s : StoreNow). s.parts) started.is

  none-added : part_among store.parts added.number.0 ≡ None
  none-added = ap (λ (n : PartNo). part_among store.parts n.0) started.number ∙ fresh

  -- the catalog is found among the parts then
  pub catalog-same : part_among mid.parts 0 ≡ part_among store.parts 0
  catalog-same = ap (λ (parts : List PartNow). part_among parts 0) parts-is
      ∙ found-more added store.parts 0 catalog

  module _ (parts : List PartNow) (met : IsMetAt 0 mid.parts parts) where
    found-old : part_among store.parts 0 ≡ Some met.before
    found-old = sym catalog-same ∙ met.found

    -- all but the new part
    abbrev others : List PartNow
    others = with_part 0 met.after store.parts

    all-parts : parts ≡ with-added added others
    all-parts = met.is ∙ ap (with_part 0 met.after) parts-is
        ∙ with-more added 0 met.after store.parts catalog

    only-catalog : OnlyMet 0 store.parts others
    only-catalog = only-met 0 met.before met.after store.parts others
        (record { found = found-old; is = refl })
        (ap (λ (one : PartNow). one.number) met.same) met.same

    pub new-part : HasNewPart store.log.geometry part area definition store.parts parts
    new-part = record {
      before = others;
      met = only-catalog;
      added = added;
      is = all-parts;
      number = started.number;
      laid = started.laid;
      split = started.split;
      moves = started.moves;
      areas = started.areas;
    }

    none-others : part_among others added.number.0 ≡ None
    none-others = by_same (λ (same : added.number.0 ≡ 0). absurd (catalog
        (ap (part_among store.parts) (sym same) ∙ none-added)))
      where
        by_same : (added.number.0 ≢ 0) → part_among others added.number.0 ≡ None
        by_same apart = only-catalog.others added.number.0 apart ∙ none-added

    pub new-shape : HasNewShape store.log.geometry part area definition store.parts parts
    new-shape number = ap (λ (ps : List PartNow). shape_among ps number) all-parts
        ∙ shape-more added others number none-others
        ∙ ap (λ (n : PartNo). cond (number == n.0) (Some added.shape) (shape_among others number))
        started.number
        ∙ ap (λ (laid : Option Shape). cond (number == part.0) laid (shape_among others number))
        (sym started.laid)
        ∙ ap (λ (rest : Option Shape). cond (number == part.0)
        (shape_by_kind store.log.geometry part.0 area.0 definition definition.kind) rest)
        (shapes-same others store.parts (split-met others store.parts only-catalog.parts) number)

  -- ---- by the state

  module _ (least : least_free store.space ≡ Some area.0)
      (none : owned_count part store.space ≡ 0) where
    -- the store as it is then
    abbrev grown : StoreNow
    grown = record store {
      parts = with-added added store.parts;
      space = given part store.space area.0 least none;
    }

    pub grown-here : mid ≡ grown
    grown-here = started.is

    -- taken back, it is as before
    pub taken-back : (new : StoreNow) → ((before : List PartNow) (last : PartNow)
        → mid.parts ≡ before ++ last ∷ []
        → new ≡ record mid { parts = before; space = released part mid.space })
        → new ≡ store
    taken-back new back-is = back-is store.parts added parts-is
        ∙ ap (λ (s : StoreNow). let t : StoreNow = record s {
          parts = store.parts;
          space = released part s.space;
        } in t) started.is
        ∙ ap (λ (owners : List (Option PartNo)).
        let t : StoreNow = record store { space = owners } in t)
        (back part store.space area.0 least none)

    module _ (a : Seen) (left : Left a a.cur)
        (call : TouchesAreasOf part store.log.geometry (given part store.space area.0 least none)
        a now) where
      pub begun-here : (number : ℕ) (unit : UnitOfRecovery) (place bytes : List ℕ)
          (old new : State) → IsTrue tells
          → IsDefining number store unit place bytes part area definition old new a
          → IsBegun number mid unit place bytes old new now
      begun-here number unit place bytes old new told is =
          subst (λ (s : StoreNow). IsBegun number s unit place bytes old new now)
          (sym started.is)
          (record {
            before = store.parts;
            added = added;
            is = refl;
            stored = stored-given store part area.0 least none a now left call number old is.stored
                fresh;
            started = subst (λ (s : StoreNow). IsStarted added.shape
                (owners_of s) added.known now) started.is
                (started.started told);
            can = subst (λ (shape : Shape). CanDefine store.log.geometry store.log unit shape place
                bytes old) (some-same (sym is.laid ∙ started.laid)) is.can;
            unlogged = is.unlogged;
            defined = is.defined;
          })

      pub ready-here : (place bytes : List ℕ) → IsSet store a → Stands store a
          → IsSettable store a.cur 0 place (Some bytes)
          → IfSome (part_among mid.parts 0) (IsEntryReady mid place bytes now)
      ready-here place bytes set stands can =
          subst (λ (one : Option PartNow). IfSome one (IsEntryReady mid place bytes now))
          (sym catalog-same) (by_found (part_among store.parts 0) refl)
        where
          by_found : (found : Option PartNow) → part_among store.parts 0 ≡ found
              → IfSome found (IsEntryReady mid place bytes now)
          by_found None nothing = absurd (catalog nothing)
          by_found (Some one) found =
              subst (λ (s : StoreNow). IsEntryReady s place bytes now one) (sym started.is)
              (ready-beside store part area.0 least none a now left call stands.number stands.state
              stands.stored fresh added place bytes one found (number-at store a set 0 one found)
              can)

      -- At each moment an image recovers to what was committed before, or to what is then.
      pub guards-defined : (b : Seen) (number : ℕ) (unit : UnitOfRecovery) (place bytes : List ℕ)
          (old new : State) → IsTrue tells
          → IsDefining number store unit place bytes part area definition old new a
          → (IsBegun number mid unit place bytes old new now → Guards now b (Either mid number old new))
          → Guards a b (Either store number old new)
      guards-defined b number unit place bytes old new told is further =
          guards-then a now b (Either store number old new)
          (guards-weaken a now (RecoversTo store.log.geometry number old [])
          (Either store number old new)
          (guards-beside store part area.0 least none a now left call number old is.stored fresh)
          (λ image recovers. inl recovers))
          (subst (λ (s : StoreNow). Guards now b (Either s number old new)) started.is
          (further (begun-here number unit place bytes old new told is)))
