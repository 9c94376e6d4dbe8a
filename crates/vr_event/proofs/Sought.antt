-- What a search finds: the least place that a read asks for, and where the read comes by it.
use Rattle.std.proofs.Common.{◌≡◌, ◌≢◌, ℕ, Bool, true, false, List, Option, Some, None, refl, sym}
use Rattle.std.proofs.Common.{ap, subst, ◌∙◌, Bor}
use Rattle.std.specs.Prelude.{MatchOption, bytes_eq, cond}
use Rattle.std.specs.List.{list_any}
use Rattle.std.specs.Option.{option_copied}
use Rattle.std.specs.Ordering.{is_le, is_lt}
use Rattle.std.specs.declared.cmp.Ordering.TheVariants.{Equal as Same, Less}
use Rattle.std.proofs.lemmas.Slice.Eq.{bytes_eq-Decides}
use Rattle.vr_catalog.specs.declared.definition.Definition.{Definition}
use Rattle.vr_types.specs.Content.{place_cmp}
use Rattle.vr_types.specs.Seen.{Seen}
use Rattle.vr_types.specs.declared.position.Stand.{Stand}
use Rattle.vr_types.specs.declared.request.Find.{Find}
use Rattle.vr_types.specs.declared.request.Find.TheVariants.{Equal}
use Rattle.vr_types.specs.declared.unit.Unit.{Unit as UnitOfRecovery}
use Rattle.vr_space.specs.Whence.{allows}
use Rattle.vr_space.specs.declared.whence.Whence.{Whence}
use Rattle.vr_space.proofs.CallerLemmas.{same_is_equal}
use Rattle.vr_history.specs.Case.{Case, sees_kept}
use Rattle.vr_history.specs.Change.{record_held}
use Rattle.vr_history.specs.Found.{Standing_at}
use Rattle.vr_history.specs.Opened.{base_of}
use Rattle.vr_history.specs.State.{BeforeImage, State}
use Rattle.vr_undo.specs.Others.{IsLeastAllowed, NoneAllowed, others_in}
use Rattle.vr_undo.specs.Records.{befores_of}
use Rattle.vr_undo.specs.declared.record.KeptRecord.{KeptRecord}
use Rattle.vr_undo.proofs.CallerLemmas.{any-stands, stands-any}
use Rattle.vr_answer.specs.Least.{AreLeast, ComesTo, IsLeast, IsLeastWith, IsReadOf, KeptAt, Searches}
use Rattle.vr_answer.specs.Least.{StandsAt, asks_for, first_seen, found_at, is_kept_at, lesser}
use Rattle.vr_answer.proofs.CallerLemmas.{comes_least, comes_named, found_least}
use Rattle.vr_store.specs.Next.{IsNextAt, NextOf}
use Rattle.vr_store.specs.Store.{IsSet, IsStored, PartNow, StoreNow, part_among}
use Rattle.vr_store.proofs.CallerLemmas.{none-read, record-read}
use Rattle.vr_event.specs.Searching.{AsksFrom, HasRecord, IsFirstSeen, IsSought, MayComeBack}

not-both : {A : Type 0} (b : Bool) → b ≡ false → b ≡ true → A
not-both b is_not is = absurd cc

-- ---- the least place of those that are asked for

-- the same places are asked for
pub least-asked : (asked other : List ℕ → Bool) (Has : List ℕ → Type 0)
    → ((place : List ℕ) → asked place ≡ other place) → (o : Option (List ℕ))
    → IsLeastWith asked Has o → IsLeastWith other Has o
least-asked asked other Has same None none =
    λ place allowed has. none place (same place ∙ allowed) has
least-asked asked other Has same (Some place) least = record {
  asked_for = sym (same place) ∙ least.asked_for;
  has = least.has;
  lower_none = λ lower allowed less has.
      least.lower_none lower (same lower ∙ allowed) less has;
}

-- what a search of a part answers is the least place with a record,
module _ (store : StoreNow) (now : Seen) (set : IsSet store now) (volume : ℕ) (state : State)
    (stored : IsStored volume store state now) (number : ℕ) (from : Whence) where
  pub next-least : (found : Bool) (place : List ℕ) → IsNextAt store now.cur number from found place
      → IsLeastWith (allows from) (HasRecord (state.contents number)) (cond found (Some place) None)
  next-least = of (part_among store.parts number) refl
    where
      of : (one : Option PartNow) → part_among store.parts number ≡ one
          → (found : Bool) (place : List ℕ) → NextOf one now.cur from found place
          → IsLeastWith (allows from) (HasRecord (state.contents number))
          (cond found (Some place) None)
      of None none true place is = absurd cc
      of None none false place is = λ other asked has.
          has (sym (none-read store now volume state number none stored other))
      of (Some part) some true place next = record {
        asked_for = next.allowed;
        has = λ none.
            next.some (record-read store now set volume state number part some stored place ∙ none);
        lower_none = λ lower asked less has. has
            (sym (record-read store now set volume state number part some stored lower)
            ∙ next.least lower asked less);
      }
      of (Some part) some false place none = λ other asked has. has
          (sym (record-read store now set volume state number part some stored other)
          ∙ none other asked)

-- and what a search of what is kept answers is one, too
pub least-kept : (from : Whence) (others : List Standing_at) (o : Option (Bor (List ℕ)))
    → MatchOption o (NoneAllowed from others)
    (λ (place : Bor (List ℕ)). IsLeastAllowed from others place.now)
    → IsLeastWith (allows from) (λ (place : List ℕ).
    list_any (λ (kept : Standing_at). bytes_eq place kept.0) others ≡ true) (option_copied o)
least-kept from others None none = λ place allowed any.
    not-both (allows from place) (none place (any-stands others place any)) allowed
least-kept from others (Some place) least = record {
  asked_for = least.allowed;
  has = stands-any others place.now least.stands;
  lower_none = λ lower allowed less any.
      not-both (is_lt (place_cmp lower place.now))
      (least.least lower (any-stands others lower any) allowed) (ap is_lt less);
}

-- ---- the first of the two

-- a read that sees what may come back,
pub first-both : (from : Whence) (undo : List KeptRecord) (unit : UnitOfRecovery) (part : ℕ)
    (sees : Bool) (state : State) (standing at : Option (List ℕ)) (o : Option (Bor (List ℕ)))
    → sees ≡ true → befores_of undo ≡ state.befores
    → IsLeastWith (allows from) (HasRecord (state.contents part)) standing
    → MatchOption o (NoneAllowed from (others_in unit part undo))
    (λ (place : Bor (List ℕ)). IsLeastAllowed from (others_in unit part undo) place.now)
    → at ≡ lesser standing (option_copied o)
    → IsFirstSeen (allows from) unit part sees state at
first-both from undo unit part sees state standing at o seen befores least kept is = record {
  standing = standing;
  kept = option_copied o;
  stands = least;
  comes_back = λ see. subst (λ (images : List BeforeImage).
      IsLeastWith (allows from) (MayComeBack unit part images) (option_copied o)) befores
      (least-kept from (others_in unit part undo) o kept);
  is = is ∙ ap (λ (b : Bool). first_seen b standing (option_copied o)) (sym seen);
}

-- and one that doesn't
pub first-alone : (from : Whence) (unit : UnitOfRecovery) (part : ℕ) (sees : Bool) (state : State)
    (standing : Option (List ℕ)) → sees ≡ false
    → IsLeastWith (allows from) (HasRecord (state.contents part)) standing
    → IsFirstSeen (allows from) unit part sees state standing
first-alone from unit part sees state standing unseen least = record {
  standing = standing;
  kept = None;
  stands = least;
  comes_back = λ see. not-both sees unseen see;
  is = ap (λ (b : Bool). first_seen b standing None) (sym unseen);
}

-- by where the search began
pub first-asked : (stand : Stand) (find : Find) (from : Whence) → AsksFrom stand find (Some from)
    → (unit : UnitOfRecovery) (part : ℕ) (sees : Bool) (state : State) (at : Option (List ℕ))
    → IsFirstSeen (allows from) unit part sees state at
    → IsFirstSeen (asks_for stand find) unit part sees state at
first-asked stand find from asks unit part sees state at first = record {
  standing = first.standing;
  kept = first.kept;
  stands = least-asked (allows from) (asks_for stand find) (HasRecord (state.contents part)) asks
      first.standing first.stands;
  comes_back = λ see. least-asked (allows from) (asks_for stand find)
      (MayComeBack unit part state.befores) asks first.kept (first.comes_back see);
  is = first.is;
}

-- ---- where a read comes

-- one that searches,
pub sought-first : (case : Case) (definition : Definition) (stand : Stand) (find : Find)
    (at : Option (List ℕ)) → IsReadOf case definition stand find → Searches find
    → IsFirstSeen (asks_for stand find) case.unit (base_of case) (sees_kept case.request) case.state
    at → IsSought case at
sought-first case definition stand find at reads seeks first =
    let least : AreLeast case stand find first.standing first.kept =
    record { stands = first.stands; brought_back = first.comes_back } in
    let finds : found_at case ≡ at =
    found_least case definition stand find first.standing first.kept reads least ∙ sym first.is in
    record {
      comes = subst (ComesTo case) (sym first.is)
          (comes_least case definition stand find first.standing first.kept reads seeks least);
      finds = λ other is searches. finds;
      found = λ place is there. finds ∙ is;
    }

-- and one that names its place
same-place : (place : List ℕ) → bytes_eq place place ≡ true
same-place place = (bytes_eq-Decides place place).1 refl

named-least : (place : List ℕ) (Has : List ℕ → Type 0) → Has place
    → IsLeast (bytes_eq place) Has place
named-least place Has has = record {
  asked_for = same-place place;
  has = has;
  lower_none = λ lower asked less had. no-lower lower ((bytes_eq-Decides place lower).0 asked) less;
}
  where
    no-lower : (lower : List ℕ) → place ≡ lower → place_cmp lower place ≡ Less → ⊥
    no-lower lower same less =
        differ (sym (subst (λ (at : List ℕ). place_cmp at place ≡ Less) (sym same) less)
        ∙ same_is_equal place)
      where
        differ : Less ≡ Same → ⊥
        differ is = cc

lesser-same : (sees : Bool) (place : List ℕ) (there : Bool)
    → first_seen sees (Some place) (cond there (Some place) None) ≡ Some place
lesser-same false place there = refl
lesser-same true place false = refl
lesser-same true place true = by_order (is_le (place_cmp place place))
  where
    by_order : (b : Bool) → cond b (Some place) (Some place) ≡ Some place
    by_order true = refl
    by_order false = refl

module _ (case : Case) (definition : Definition) (stand : Stand) (place : List ℕ)
    (reads : IsReadOf case definition stand (Equal place)) where
  kept-named : (there : Bool) → is_kept_at case place ≡ there
      → IsLeastWith (bytes_eq place) (KeptAt case) (cond there (Some place) None)
  kept-named true is = named-least place (KeptAt case) is
  kept-named false is = λ other asked kept. not-both (is_kept_at case place) is
      (subst (KeptAt case) (sym ((bytes_eq-Decides place other).0 asked)) kept)

  found-named : record_held case place ≢ None → found_at case ≡ Some place
  found-named there =
      found_least case definition stand (Equal place) (Some place)
      (cond (is_kept_at case place) (Some place) None) reads (record {
        stands = named-least place (StandsAt case) there;
        brought_back = λ see. kept-named (is_kept_at case place) refl;
      })
      ∙ lesser-same (sees_kept case.request) place (is_kept_at case place)

  names : (find : Find) → Some find ≡ Some (Equal place) → Searches find → ⊥
  names find is searches = let same : find ≡ Equal place = cc in subst Searches same searches

  pub sought-named : IsSought case (Some place)
  sought-named = record {
    comes = comes_named case definition stand place reads;
    finds = λ other is searches. absurd (names other (sym is ∙ reads.finds) searches);
    found = λ other is there.
        let same : place ≡ other = cc in
        subst (λ (at : List ℕ). found_at case ≡ Some at) same
        (found-named (subst (λ (at : List ℕ). record_held case at ≢ None) (sym same) there));
  }
