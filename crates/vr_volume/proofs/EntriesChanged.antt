-- The state once several records of the catalog are added, replaced or taken away: the parts are laid
-- as they were but for the one that goes, and a log without a record has what the state logged.
use Rattle.std.proofs.Common.{◌≡◌, ◌≢◌, ℕ, Bool, true, false, cond, List, [], Option, Some, None}
use Rattle.std.proofs.Common.{refl, sym, ap, subst, ◌∙◌, ◌==◌, map}
use Rattle.std.specs.Prelude.{All}
use Rattle.std.specs.List.{list_any}
use Rattle.std.specs.List.Sorted.{IsStrictlySortedBy}
use Rattle.std.specs.Option.{option_map}
use Rattle.std.proofs.lemmas.Bool.{true≢false}
use Rattle.std.proofs.lemmas.Bool.Decides.{Decides-eqb}
use Rattle.std.proofs.lemmas.List.Elements.{All-nil, All-weaker}
use Rattle.vr_types.specs.Content.{Ascends, Content, Standing, item_at}
use Rattle.vr_types.specs.Locks.{same_unit}
use Rattle.vr_types.specs.declared.geometry.Geometry.{Geometry}
use Rattle.vr_types.specs.declared.unit.Unit.{Unit as UnitOfRecovery}
use Rattle.vr_space.specs.Part.{Shape}
use Rattle.vr_log.specs.Live.{is_in, live_in, used_by}
use Rattle.vr_log.specs.LogNow.{LogNow}
use Rattle.vr_log.specs.declared.record.LogRecord.{LogRecord}
use Rattle.vr_history.specs.State.{BeforeImage, Logged, State}
use Rattle.vr_volume.specs.CatalogRules.{IsCatalog}
use Rattle.vr_volume.specs.Committed.{HasLogged, IsCurrent, IsKeptIn, IsLaidState, IsPast}
use Rattle.vr_volume.specs.Committed.{committed_by, kept_by, logged_of}
use Rattle.vr_volume.specs.EntryChange.{is_gone}
use Rattle.vr_volume.specs.EntryChanges.{AreEntriesChanged, CanChangeEntries, MissAll, with_changes}
use Rattle.vr_volume.specs.Laid.{shape_by}
use Rattle.vr_volume.specs.PutBack.{AreAlone, images_of, oldest, put_back}
use Rattle.vr_volume.specs.declared.setting.EntryChange.{EntryChange}
use Rattle.vr_volume.proofs.EntriesPlaced.{ascends-put, item-miss, item-put, other-put}

some-none : {X : Type 0} {x : X} → Some x ≡ None → ⊥
some-none same = cc

none-some : {X : Type 0} {x : X} → None ≡ Some x → ⊥
none-some same = cc

none-ascend : Ascends []
unfolding IsStrictlySortedBy
none-ascend = tt

module _ {geometry : Geometry} {log : LogNow} {old new : State} {unit : UnitOfRecovery}
    {changes : List EntryChange} {gone : Option ℕ} (laid : IsLaidState geometry old)
    (can : CanChangeEntries geometry log unit changes gone old)
    (made : AreEntriesChanged unit changes gone old new) where
  abbrev put : ℕ → Content
  put = with_changes changes old.contents

  -- ---- the contents

  -- the catalog never goes
  pub zero-stays : is_gone gone 0 ≡ false
  zero-stays = by_test (is_gone gone 0) refl
    where
      by_test : (goes : Bool) → is_gone gone 0 ≡ goes → goes ≡ false
      by_test true is = absurd (some-none (can.lays 0
          ∙ ap (λ (b : Bool). cond b None (shape_by geometry (old.contents 0) 0)) is))
      by_test false is = refl

  put-stays : (part : ℕ) → is_gone gone part ≡ false → new.contents part ≡ put part
  put-stays part is = made.contents part ∙ ap (λ (b : Bool). cond b [] (put part)) is

  none-gone : (part : ℕ) → is_gone gone part ≡ true → new.contents part ≡ []
  none-gone part is = made.contents part ∙ ap (λ (b : Bool). cond b [] (put part)) is

  catalog-changed : new.contents 0 ≡ put 0
  catalog-changed = put-stays 0 zero-stays

  -- another part that doesn't go has what it had
  pub other-stays : (part : ℕ) → part ≢ 0 → is_gone gone part ≡ false
      → new.contents part ≡ old.contents part
  other-stays part apart stays = by_test (part == 0) refl
    where
      by_test : (mine : Bool) → (part == 0) ≡ mine → new.contents part ≡ old.contents part
      by_test true is = absurd (apart ((Decides-eqb part 0).0 is))
      by_test false is = put-stays part stays ∙ other-put changes old.contents part apart

  pub item-here : All (λ (change : EntryChange). item_at (new.contents 0) change.place
      ≡ option_map Standing change.bytes) changes
  item-here = All-weaker (λ (change : EntryChange). item_at (put 0) change.place
      ≡ option_map Standing change.bytes)
      (λ (change : EntryChange). item_at (new.contents 0) change.place
      ≡ option_map Standing change.bytes)
      (λ change is. ap (λ (content : Content). item_at content change.place) catalog-changed ∙ is)
      changes (item-put changes old.contents can.apart)

  pub item-else : (part : ℕ) (at : List ℕ) → is_gone gone part ≡ false
      → (part ≡ 0 → MissAll at changes)
      → item_at (new.contents part) at ≡ item_at (old.contents part) at
  item-else part at stays misses = by_test (part == 0) refl
    where
      by_test : (mine : Bool) → (part == 0) ≡ mine
          → item_at (new.contents part) at ≡ item_at (old.contents part) at
      by_test true is =
          let zero-is : part ≡ 0 = (Decides-eqb part 0).0 is in
          ap (λ (p : ℕ). item_at (new.contents p) at) zero-is
          ∙ ap (λ (content : Content). item_at content at) catalog-changed
          ∙ item-miss changes old.contents at (misses zero-is)
          ∙ ap (λ (p : ℕ). item_at (old.contents p) at) (sym zero-is)
      by_test false is = ap (λ (content : Content). item_at content at) (other-stays part
          (λ zero-is. true≢false (sym ((Decides-eqb part 0).1 zero-is) ∙ is)) stays)

  -- ---- the parts

  lays-changed : (part : ℕ) → shape_by geometry (new.contents 0) part
      ≡ cond (is_gone gone part) None (shape_by geometry (old.contents 0) part)
  lays-changed part =
      ap (λ (content : Content). shape_by geometry content part) (put-stays 0 zero-stays)
      ∙ can.lays part

  -- a part that doesn't go is laid as it was,
  pub laid-still : (part : ℕ) → is_gone gone part ≡ false
      → shape_by geometry (new.contents 0) part ≡ shape_by geometry (old.contents 0) part
  laid-still part is = lays-changed part
      ∙ ap (λ (b : Bool). cond b None (shape_by geometry (old.contents 0) part)) is

  -- and one that is laid was laid so, and doesn't go
  pub laid-was : (part : ℕ) (found : Shape) → shape_by geometry (new.contents 0) part ≡ Some found
      → (is_gone gone part ≡ false) × (shape_by geometry (old.contents 0) part ≡ Some found)
  laid-was part found is = by_test (is_gone gone part) refl
    where
      by_test : (goes : Bool) → is_gone gone part ≡ goes
          → (is_gone gone part ≡ false) × (shape_by geometry (old.contents 0) part ≡ Some found)
      by_test true goes = absurd (none-some (
          sym (lays-changed part
          ∙ ap (λ (b : Bool). cond b None (shape_by geometry (old.contents 0) part)) goes)
          ∙ is))
      by_test false stays = (stays, sym (laid-still part stays) ∙ is)

  pub state-changed : IsLaidState geometry new
  state-changed = record {
    each = λ part. each-by part (is_gone gone part) refl;
    catalog = subst (IsCatalog geometry) (sym (put-stays 0 zero-stays)) can.catalog;
    others = λ part none. others-by part none (is_gone gone part) refl;
    kept = subst (All (IsKeptIn geometry new)) (sym made.befores)
        (All-nil (IsKeptIn geometry new));
  }
    where
      each-of : (part : ℕ) → is_gone gone part ≡ false → (mine : Bool) → (part == 0) ≡ mine
          → Ascends (new.contents part)
      each-of part stays true is = subst (λ (p : ℕ). Ascends (new.contents p))
          (sym ((Decides-eqb part 0).0 is))
          (subst Ascends (sym catalog-changed)
          (ascends-put changes old.contents (laid.each 0)))
      each-of part stays false is = subst Ascends (sym (other-stays part
          (λ zero-is. true≢false (sym ((Decides-eqb part 0).1 zero-is) ∙ is)) stays))
          (laid.each part)

      each-by : (part : ℕ) (goes : Bool) → is_gone gone part ≡ goes → Ascends (new.contents part)
      each-by part true goes = subst Ascends (sym (none-gone part goes)) none-ascend
      each-by part false stays = each-of part stays (part == 0) refl

      others-by : (part : ℕ) → shape_by geometry (new.contents 0) part ≡ None → (goes : Bool)
          → is_gone gone part ≡ goes → new.contents part ≡ []
      others-by part none true goes = none-gone part goes
      others-by part none false stays =
          let was : shape_by geometry (old.contents 0) part ≡ None =
          sym (laid-still part stays) ∙ none in
          other-stays part
          (λ zero-is. some-none (ap (shape_by geometry (old.contents 0)) (sym zero-is) ∙ was)) stays
          ∙ laid.others part was

  -- ---- what is committed, and what the log has

  -- by any log it is what the state has,
  pub committed-new : (records : List LogRecord) → committed_by new records ≡ new.contents
  committed-new records = ap by made.befores
    where
      by : List BeforeImage → ℕ → Content
      by befores part = put_back part (kept_by records befores) (new.contents part)

  -- and a log without a record has what the state logged.
  pub logged-new : (now : LogNow) → now.records ≡ [] → HasLogged now new
  logged-new now empty = record {
    alone = subst (λ (records : List LogRecord). AreAlone (images_of records)) (sym empty) tt;
    once = subst AreAlone (sym made.befores) tt;
    kept = λ part at image is. absurd (some-none (sym is
        ∙ ap (λ (those : List BeforeImage). oldest those part at) made.befores));
    back = λ part at image is free. absurd (some-none (sym is
        ∙ ap (λ (records : List LogRecord). oldest (images_of records) part at) empty));
    logged = ap (λ (records : List LogRecord). map logged_of (images_of records)) empty
        ∙ sym made.logged;
    live = λ other. ap (λ (records : List LogRecord). is_in other (live_in records)) empty
        ∙ sym (ap (list_any (λ (l : Logged). same_unit other l.unit)) made.logged);
    used = ap used_by empty ∙ sym made.used;
    ended = subst (All (IsPast new.numbers)) (sym empty) (All-nil (IsPast new.numbers));
    current = subst (All (λ (image : BeforeImage). IsCurrent new.numbers image.unit))
        (sym made.befores) (All-nil (λ (image : BeforeImage). IsCurrent new.numbers image.unit));
  }
