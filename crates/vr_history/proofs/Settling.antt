-- What one entry leaves of the committed contents: at each place the record of the state, or the
-- one that a unit which doesn't count keeps.
use Rattle.std.proofs.Common.{◌≡◌, ◌≢◌, ◌⊎◌, inl, inr, ℕ, Bool, true, false, cond, not, ◌==◌, ◌&&◌}
use Rattle.std.proofs.Common.{◌||◌, List, [], ◌∷◌, ◌++◌, filter, find, bytes_eq, Some, None, refl}
use Rattle.std.proofs.Common.{sym, ap, ◌∙◌, subst, eq-eqb, ne_eqb}
use Rattle.std.specs.Prelude.{Option, if◌then◌else◌, option_and_then}
use Rattle.std.specs.List.{list_any}
use Rattle.std.proofs.lemmas.Bool.{true≢false, false≢true}
use Rattle.std.proofs.lemmas.Slice.Eq.{bytes_eq-Decides}
use Rattle.vr_types.specs.Locks.{Lock, same_unit}
use mathlib.Core.Logic.{dite}
use native.Mathlib.Decide.{ℕ_discrete}
use Rattle.vr_catalog.specs.Catalog.{definition_of}
use Rattle.vr_catalog.specs.declared.definition.Definition.{Definition}
use Rattle.vr_types.specs.Content.{Content, Item, item_at}
use Rattle.vr_types.specs.declared.lock_name.LockName.{LockName}
use Rattle.vr_types.specs.declared.lock_name.LockName.TheVariants.{Record}
use Rattle.vr_types.specs.declared.unit.Kind.{Kind}
use Rattle.vr_types.specs.declared.unit.Kind.TheVariants.{Keyed, Entry as EntrySequenced, Relative}
use Rattle.vr_types.specs.declared.unit.Mode.TheVariants.{Exclusive}
use Rattle.vr_types.specs.declared.unit.Unit.{Unit as UnitOfRecovery}
use Rattle.vr_history.specs.Change.{Change}
use Rattle.vr_history.specs.Committed.{is_kept_of, kept_or}
use Rattle.vr_history.specs.Effects.{is_other, placed_in, with_change, without_last}
use Rattle.vr_history.specs.Laws.{record_in}
use Rattle.vr_history.specs.Opened.{catalog_of}
use Rattle.vr_history.specs.State.{BeforeImage, State}
use Rattle.vr_history.specs.Step.{change_back, put_back, withdrawn_by}
use Rattle.vr_history.proofs.Befores.{AreApart, IsLast, and_false, append_apart, filter_apart}
use Rattle.vr_history.proofs.Befores.{find_append_new, find_append_other, find_filter, find_narrow}
use Rattle.vr_history.proofs.Befores.{is_place, last_found, last_gone, or_false, out_apart}
use Rattle.vr_history.proofs.Befores.{out_other}
use Rattle.vr_history.proofs.Holding.{Holds, filtered_holds, free_unheld}
use Rattle.vr_altkey.proofs.CallerLemmas.{placed_elsewhere, placed_here}
use Rattle.vr_history.proofs.LockLemmas.{FreeIn}
use Rattle.vr_history.proofs.Same.{first_holds, nat_same, second_holds, unit_same, unit_self}

-- the place of a before-image is held by its unit
abbrev pub place_name : ℕ → List ℕ → LockName
place_name part place = Record (record { 0 = part }) place

abbrev pub AllHeld : List BeforeImage → List Lock → Type 0
AllHeld [] locks = Unit {0}
AllHeld (kept ∷ befores) locks = Holds kept.unit (place_name kept.part kept.place) locks
    × AllHeld befores locks

abbrev pub HoldMore : List Lock → List Lock → Type 0
HoldMore old new = (unit : UnitOfRecovery) (name : LockName) → Holds unit name old
    → Holds unit name new

pub record Sound (befores : List BeforeImage) (locks : List Lock) : Type 0 where
  pub apart : AreApart befores
  pub held : AllHeld befores locks

pub more_held : (befores : List BeforeImage) (old new : List Lock) → HoldMore old new
    → AllHeld befores old → AllHeld befores new
more_held [] old new more held = tt
more_held (kept ∷ befores) old new more held =
    (more kept.unit (place_name kept.part kept.place) held.0, more_held befores old new more held.1)

-- no before-image is of a place that is free to a unit which keeps none there
abbrev is_own_place : UnitOfRecovery → ℕ → List ℕ → BeforeImage → Bool
is_own_place unit part place kept = same_unit unit kept.unit && is_place part place kept

name_at : (part : ℕ) (place : List ℕ) (kept : BeforeImage) → is_place part place kept ≡ true
    → place_name kept.part kept.place ≡ place_name part place
name_at part place kept is =
    let parts : kept.part ≡ part = nat_same kept.part part (first_holds _ _ is) in
    let places : place ≡ kept.place =
    (bytes_eq-Decides place kept.place).0 (second_holds (kept.part == part) _ is) in
    ap (λ (p : ℕ). place_name p kept.place) parts
    ∙ ap (λ (q : List ℕ). place_name part q) (sym places)

own_there : (unit : UnitOfRecovery) (part : ℕ) (place : List ℕ) (locks : List Lock)
    (kept : BeforeImage) → FreeIn unit Exclusive (place_name part place) locks
    → Holds kept.unit (place_name kept.part kept.place) locks → is_place part place kept ≡ true
    → is_own_place unit part place kept ≡ true
own_there unit part place locks kept free held is =
    let same : unit ≡ kept.unit =
    free_unheld unit kept.unit (place_name part place) locks free
    (subst (λ (name : LockName). Holds kept.unit name locks) (name_at part place kept is) held)
    in
    ap (λ (b : Bool). b
    && is_place part place kept)
    (subst (λ (u : UnitOfRecovery). same_unit unit u ≡ true) same (unit_self unit)) ∙ is

not_there : (unit : UnitOfRecovery) (part : ℕ) (place : List ℕ) (locks : List Lock)
    (kept : BeforeImage) → FreeIn unit Exclusive (place_name part place) locks
    → Holds kept.unit (place_name kept.part kept.place) locks
    → is_own_place unit part place kept ≡ false → is_place part place kept ≡ false
not_there unit part place locks kept free held other = by_test (is_place part place kept) refl
  where
    by_test : (test : Bool) → is_place part place kept ≡ test → is_place part place kept ≡ false
    by_test true is =
        absurd (true≢false (sym (own_there unit part place locks kept free held is) ∙ other))
    by_test false is = is

pub none_there : (unit : UnitOfRecovery) (part : ℕ) (place : List ℕ) (befores : List BeforeImage)
    (locks : List Lock) → FreeIn unit Exclusive (place_name part place) locks
    → AllHeld befores locks → list_any (is_own_place unit part place) befores ≡ false
    → list_any (is_place part place) befores ≡ false
none_there unit part place [] locks free held none = refl
none_there unit part place (kept ∷ befores) locks free held none =
    let here = or_false (is_own_place unit part place kept)
    (list_any (is_own_place unit part place) befores) none in
    ap (λ (b : Bool). b
    || list_any (is_place part place) befores)
    (not_there unit part place locks kept free held.0 here.0)
    ∙ none_there unit part place befores locks free held.1 here.1

all_held_append : (befores : List BeforeImage) (new : BeforeImage) (locks : List Lock)
    → AllHeld befores locks → Holds new.unit (place_name new.part new.place) locks
    → AllHeld (befores ++ new ∷ []) locks
all_held_append [] new locks held holds = (holds, tt)
all_held_append (kept ∷ befores) new locks held holds =
    (held.0, all_held_append befores new locks held.1 holds)

-- a change keeps the first before-image of its place
pub change_sound : (befores : List BeforeImage) (old new : List Lock) (image : BeforeImage)
    → FreeIn image.unit Exclusive (place_name image.part image.place) old → HoldMore old new
    → Holds image.unit (place_name image.part image.place) new → Sound befores old
    → Sound (cond (list_any (is_own_place image.unit image.part image.place) befores) befores
    (befores ++ image ∷ [])) new
change_sound befores old new image free more holds sound =
    by_test (list_any (is_own_place image.unit image.part image.place) befores) refl
  where
    by_test : (test : Bool)
        → list_any (is_own_place image.unit image.part image.place) befores ≡ test
        → Sound (cond test befores (befores ++ image ∷ [])) new
    by_test true is =
        record { apart = sound.apart; held = more_held befores old new more sound.held }
    by_test false is = record {
      apart = append_apart befores image sound.apart
          (none_there image.unit image.part image.place befores old free sound.held is);
      held = all_held_append befores image new (more_held befores old new more sound.held) holds;
    }

held_out : (unit : UnitOfRecovery) (befores : List BeforeImage) (locks : List Lock)
    → AllHeld befores locks → AllHeld (without_last unit befores) locks
held_out unit [] locks held = tt
held_out unit (kept ∷ befores) locks held =
    by_test (same_unit unit kept.unit
    && not (list_any (λ other. same_unit unit other.unit) befores))
    (held_out unit befores locks held.1)
  where
    by_test : (test : Bool) → AllHeld (without_last unit befores) locks
        → AllHeld (cond test befores (kept ∷ without_last unit befores)) locks
    by_test true further = held.1
    by_test false further = (held.0, further)

pub undone_sound : (unit : UnitOfRecovery) (befores : List BeforeImage) (locks : List Lock)
    → Sound befores locks → Sound (without_last unit befores) locks
undone_sound unit befores locks sound =
    record {
      apart = out_apart unit befores sound.apart;
      held =
          held_out unit befores locks sound.held;
    }

held_filter : (ended : UnitOfRecovery) (befores : List BeforeImage) (locks : List Lock)
    → AllHeld befores locks
    → AllHeld (filter (λ kept. is_other ended kept.unit) befores)
    (filter (λ lock. is_other ended lock.unit) locks)
held_filter ended [] locks held = tt
held_filter ended (kept ∷ befores) locks held =
    by_test (same_unit ended kept.unit) refl (held_filter ended befores locks held.1)
  where
    by_test : (test : Bool) → same_unit ended kept.unit ≡ test
        → AllHeld (filter (λ other. is_other ended other.unit) befores)
        (filter (λ lock. is_other ended lock.unit) locks)
        → AllHeld (cond (not test) (kept ∷ filter (λ other. is_other ended other.unit) befores)
        (filter (λ other. is_other ended other.unit) befores))
        (filter (λ lock. is_other ended lock.unit) locks)
    by_test true is further = further
    by_test false is further =
        (filtered_holds kept.unit ended (place_name kept.part kept.place) locks is held.0, further)

pub ended_sound : (ended : UnitOfRecovery) (befores : List BeforeImage) (locks : List Lock)
    → Sound befores locks
    → Sound (filter (λ kept. is_other ended kept.unit) befores)
    (filter (λ lock. is_other ended lock.unit) locks)
ended_sound ended befores locks sound =
    record {
      apart = filter_apart (λ kept. is_other ended kept.unit) befores sound.apart;
      held =
          held_filter ended befores locks sound.held;
    }

-- what is looked for at a place is of that place
pub narrow : (counts : UnitOfRecovery → Bool) (part : ℕ) (place : List ℕ) (kept : BeforeImage)
    → is_place part place kept ≡ false → is_kept_of counts part place kept ≡ false
narrow counts part place kept other = ap (λ (b : Bool). not (counts kept.unit) && b) other
    ∙ and_false (not (counts kept.unit))

-- contents once a change was made
here_part : (change : Change) (contents : ℕ → Content) (part : ℕ) → part ≡ change.part
    → with_change change contents part ≡ placed_in change.place change.new (contents part)
here_part change contents part same =
    ap (λ (b : Bool). if b then placed_in change.place change.new (contents part) else contents
    part) (eq-eqb part change.part same)

other_part : (change : Change) (contents : ℕ → Content) (part : ℕ) → part ≢ change.part
    → with_change change contents part ≡ contents part
other_part change contents part apart =
    ap (λ (b : Bool). if b then placed_in change.place change.new (contents part) else contents
    part) (ne_eqb part change.part apart)

pub item_changed : (change : Change) (contents : ℕ → Content) (part : ℕ) (place : List ℕ)
    → part ≡ change.part → place ≡ change.place
    → item_at (with_change change contents part) place ≡ change.new
item_changed change contents part place parts places =
    ap (λ (content : Content). item_at content place) (here_part change contents part parts)
    ∙ (ap (λ (q : List ℕ). item_at (placed_in change.place change.new (contents part)) q) places
    ∙ placed_here change.place change.new (contents part))

pub item_unchanged : (change : Change) (contents : ℕ → Content) (part : ℕ) (place : List ℕ)
    → (part ≡ change.part → place ≡ change.place → ⊥)
    → item_at (with_change change contents part) place ≡ item_at (contents part) place
item_unchanged change contents part place apart = dite (ℕ_discrete part change.part)
    (λ same. ap (λ (content : Content). item_at content place) (here_part change contents part same)
    ∙ placed_elsewhere change.place change.new (contents part) place (apart same))
    (λ other. ap (λ (content : Content). item_at content place)
    (other_part change contents part other))

-- a place is the change's or not
place_is : (part other_part : ℕ) (place other_place : List ℕ)
    → ((part ≡ other_part) × (place ≡ other_place)) ⊎ (part ≡ other_part → place ≡ other_place → ⊥)
place_is part other_part place other_place = dite (ℕ_discrete part other_part)
    (λ same. by_test same (bytes_eq place other_place) refl)
    (λ apart. inr (λ same places. apart same))
  where
    by_test : part ≡ other_part → (test : Bool) → bytes_eq place other_place ≡ test
        → ((part ≡ other_part) × (place ≡ other_place))
        ⊎ (part ≡ other_part → place ≡ other_place → ⊥)
    by_test same true is = inl (same, (bytes_eq-Decides place other_place).0 is)
    by_test same false is =
        inr (λ parts places. true≢false (sym ((bytes_eq-Decides place other_place).1 places) ∙ is))

place_of_image : (part : ℕ) (place : List ℕ) (kept : BeforeImage)
    → (part ≡ kept.part → place ≡ kept.place → ⊥) → is_place part place kept ≡ false
place_of_image part place kept apart = by_test (is_place part place kept) refl
  where
    by_test : (test : Bool) → is_place part place kept ≡ test → is_place part place kept ≡ false
    by_test true is =
        absurd (apart (sym (nat_same kept.part part (first_holds _ _ is)))
        ((bytes_eq-Decides place kept.place).0 (second_holds (kept.part == part) _ is)))
    by_test false is = is

-- the item that is settled on, over a list of before-images
abbrev pub settled_on : (UnitOfRecovery → Bool) → List BeforeImage → (ℕ → Content) → ℕ → List ℕ
    → Option Item
settled_on counts befores contents part place =
    kept_or (find (is_kept_of counts part place) befores) (item_at (contents part) place)

abbrev pub AgreesOn : (UnitOfRecovery → Bool) → List BeforeImage → (ℕ → Content) → (ℕ → Content)
    → ℕ → List ℕ → Type 0
AgreesOn counts befores contents counted part place =
    record_in (item_at (counted part) place) ≡ record_in
    (settled_on counts befores contents part place)

-- two conditions and one
both_cond : {X : Type 0} (test : Bool) (one other : ℕ → X) (n : ℕ)
    → cond test one other n ≡ cond test (one n) (other n)
both_cond true one other n = refl
both_cond false one other n = refl

-- A change by a unit that holds its place: the image that it keeps is of the item that stood there.
module _ (counts : UnitOfRecovery
    → Bool) (befores : List BeforeImage) (locks : List Lock) (contents counted : ℕ
    → Content) (sound : Sound befores locks) (change : Change) (unit : UnitOfRecovery) where
  abbrev pub image_of : BeforeImage
  image_of = record {
    unit = unit;
    part = change.part;
    place = change.place;
    old =
        item_at (contents change.part) change.place;
  }

  abbrev pub kept_already : Bool
  kept_already = list_any (is_own_place unit change.part change.place) befores

  abbrev pub befores_after : List BeforeImage
  befores_after = cond kept_already befores (befores ++ image_of ∷ [])

  -- elsewhere nothing is new
  found_elsewhere : (part : ℕ) (place : List ℕ) → (part ≡ change.part → place ≡ change.place → ⊥)
      → find (is_kept_of counts part place) befores_after ≡ find (is_kept_of counts part place)
      befores
  found_elsewhere part place apart = by_test kept_already
    where
      by_test : (test : Bool)
          → find (is_kept_of counts part place) (cond test befores (befores
          ++ image_of ∷ [])) ≡ find (is_kept_of counts part place) befores
      by_test true = refl
      by_test false =
          find_append_other (is_kept_of counts part place) befores image_of
          (narrow counts part place image_of (place_of_image part place image_of apart))

  settled_elsewhere : (part : ℕ) (place : List ℕ) → (part ≡ change.part → place ≡ change.place → ⊥)
      → settled_on counts befores_after (with_change change contents) part place ≡ settled_on counts
      befores contents part place
  settled_elsewhere part place apart =
      ap (λ (kept : Option BeforeImage). kept_or kept
      (item_at (with_change change contents part) place)) (found_elsewhere part place apart)
      ∙ ap (kept_or (find (is_kept_of counts part place) befores))
      (item_unchanged change contents part place apart)

  -- at the place of a unit that counts no before-image is looked for
  counted_none : counts unit ≡ true
      → FreeIn unit Exclusive (place_name change.part change.place) locks
      → find (is_kept_of counts change.part change.place) befores ≡ None
  counted_none is free = in_list befores sound.held
    where
      passed : (kept : BeforeImage) → Holds kept.unit (place_name kept.part kept.place) locks
          → is_kept_of counts change.part change.place kept ≡ false
      passed kept held = by_test (is_place change.part change.place kept) refl
        where
          by_test : (test : Bool) → is_place change.part change.place kept ≡ test
              → is_kept_of counts change.part change.place kept ≡ false
          by_test false other = narrow counts change.part change.place kept other
          by_test true here =
              let same : unit ≡ kept.unit =
              unit_same unit kept.unit
              (first_holds (same_unit unit kept.unit) _
              (own_there unit change.part change.place locks kept free held here)) in
              ap (λ (b : Bool). not b
              && is_place change.part change.place kept)
              (subst (λ (u : UnitOfRecovery). counts u ≡ true) same is)

      in_list : (some : List BeforeImage) → AllHeld some locks
          → find (is_kept_of counts change.part change.place) some ≡ None
      in_list [] held = refl
      in_list (kept ∷ rest) held =
          ap (λ (b : Bool). cond b (Some kept)
          (find (is_kept_of counts change.part change.place) rest)) (passed kept held.0)
          ∙ in_list rest held.1

  counted_after : counts unit ≡ true
      → FreeIn unit Exclusive (place_name change.part change.place) locks
      → find (is_kept_of counts change.part change.place) befores_after ≡ None
  counted_after is free = by_test kept_already
    where
      by_test : (test : Bool)
          → find (is_kept_of counts change.part change.place) (cond test befores (befores
          ++ image_of ∷ [])) ≡ None
      by_test true = counted_none is free
      by_test false =
          find_append_other (is_kept_of counts change.part change.place) befores image_of
          (ap (λ (b : Bool). not b && is_place change.part change.place image_of) is)
          ∙ counted_none is free

  -- a unit that doesn't count keeps what was settled on
  self_place : is_place change.part change.place image_of ≡ true
  self_place = ap (λ (b : Bool). b
      && bytes_eq change.place change.place) (eq-eqb change.part change.part refl)
      ∙ (bytes_eq-Decides change.place change.place).1 refl

  some_found : (some : List BeforeImage) → counts unit ≡ false
      → list_any (is_own_place unit change.part change.place) some ≡ true → (kept : BeforeImage)
      × (find (is_kept_of counts change.part change.place) some ≡ Some kept)
  some_found [] not_counted any = absurd (false≢true any)
  some_found (kept ∷ rest) not_counted any =
      by_tests (is_kept_of counts change.part change.place kept)
      (is_own_place unit change.part change.place kept) refl refl any (some_found rest not_counted)
    where
      own_passes : is_own_place unit change.part change.place kept ≡ true
          → is_kept_of counts change.part change.place kept ≡ true
      own_passes own =
          let same : unit ≡ kept.unit = unit_same unit kept.unit (first_holds _ _ own) in
          ap (λ (b : Bool). not b
          && is_place change.part change.place kept)
          (subst (λ (u : UnitOfRecovery). counts u ≡ false) same not_counted)
          ∙ second_holds (same_unit unit kept.unit) _ own

      by_tests : (test own : Bool) → is_kept_of counts change.part change.place kept ≡ test
          → is_own_place unit change.part change.place kept ≡ own
          → (own || list_any (is_own_place unit change.part change.place) rest) ≡ true
          → (list_any (is_own_place unit change.part change.place) rest ≡ true
          → (found : BeforeImage)
          × (find (is_kept_of counts change.part change.place) rest ≡ Some found))
          → (found : BeforeImage)
          × (find (is_kept_of counts change.part change.place) (kept ∷ rest) ≡ Some found)
      by_tests true own is own_is some further = (
        kept,
        ap (λ (b : Bool). cond b (Some kept)
            (find (is_kept_of counts change.part change.place) rest)) is,
      )
      by_tests false true is own_is some further =
          absurd (true≢false (sym (own_passes own_is) ∙ is))
      by_tests false false is own_is some further =
          let found = further some in (
            found.0,
            ap (λ (b : Bool). cond b (Some kept)
                (find (is_kept_of counts change.part change.place) rest)) is ∙ found.1,
          )

  settled_kept : counts unit ≡ false
      → FreeIn unit Exclusive (place_name change.part change.place) locks
      → settled_on counts befores_after (with_change change contents) change.part change.place ≡
      settled_on counts befores contents change.part change.place
  settled_kept not_counted free = by_test kept_already refl
    where
      now : Option Item
      now = item_at (with_change change contents change.part) change.place

      by_test : (test : Bool) → kept_already ≡ test
          → kept_or (find (is_kept_of counts change.part change.place) (cond test befores (befores
          ++ image_of ∷ []))) now ≡ settled_on counts befores contents change.part change.place
      by_test true is =
          let found = some_found befores not_counted is in
          ap (λ (kept : Option BeforeImage). kept_or kept now) found.1
          ∙ sym (ap (λ (kept : Option BeforeImage). kept_or kept
          (item_at (contents change.part) change.place)) found.1)
      by_test false is =
          let none : list_any (is_place change.part change.place) befores ≡ false =
          none_there unit change.part change.place befores locks free sound.held is in
          let unfound : find (is_kept_of counts change.part change.place) befores ≡ None =
          find_narrow (is_place change.part change.place)
          (is_kept_of counts change.part change.place) befores
          (narrow counts change.part change.place) none in
          let passes : is_kept_of counts change.part change.place image_of ≡ true =
          ap (λ (b : Bool). not b && is_place change.part change.place image_of) not_counted
          ∙ self_place in
          ap (λ (kept : Option BeforeImage). kept_or kept now)
          (find_append_new (is_kept_of counts change.part change.place) befores image_of unfound
          passes)
          ∙ sym (ap (λ (kept : Option BeforeImage). kept_or kept
          (item_at (contents change.part) change.place)) unfound)

  pub change_agrees : FreeIn unit Exclusive (place_name change.part change.place) locks
      → (part : ℕ) → ((place : List ℕ) → AgreesOn counts befores contents counted part place)
      → (place : List ℕ)
      → AgreesOn counts befores_after (with_change change contents)
      (cond (counts unit) (with_change change counted) counted) part place
  change_agrees free part agrees place =
      by_test (counts unit) refl (place_is part change.part place change.place)
    where
      by_test : (test : Bool) → counts unit ≡ test
          → ((part ≡ change.part) × (place ≡ change.place))
          ⊎ (part ≡ change.part → place ≡ change.place → ⊥)
          → AgreesOn counts befores_after (with_change change contents)
          (cond test (with_change change counted) counted) part place
      by_test true is (inl here) =
          let P : ℕ → Type 0 =
          λ p. record_in (item_at (with_change change counted p) place) ≡ record_in
          (settled_on counts befores_after (with_change change contents) p place) in
          let Q : List ℕ → Type 0 =
          λ q. record_in (item_at (with_change change counted change.part) q) ≡ record_in
          (settled_on counts befores_after (with_change change contents) change.part q) in
          subst P (sym here.0) (subst Q (sym here.1) (ap record_in (
          item_changed change counted change.part change.place refl refl
          ∙ (sym (item_changed change contents change.part change.place refl refl)
          ∙ sym (ap (λ (kept : Option BeforeImage). kept_or kept
          (item_at (with_change change contents change.part) change.place))
          (counted_after is free))))))
      by_test true is (inr apart) =
          ap record_in (item_unchanged change counted part place apart)
          ∙ (agrees place ∙ sym (ap record_in (settled_elsewhere part place apart)))
      by_test false is (inl here) =
          let P : ℕ → Type 0 =
          λ p. settled_on counts befores_after (with_change change contents) p place ≡
          settled_on counts befores contents p place in
          let Q : List ℕ → Type 0 =
          λ q. settled_on counts befores_after (with_change change contents) change.part q ≡
          settled_on counts befores contents change.part q in
          agrees place
          ∙ sym (ap record_in
          (subst P (sym here.0) (subst Q (sym here.1) (settled_kept is free))))
      by_test false is (inr apart) = agrees place
          ∙ sym (ap record_in (settled_elsewhere part place apart))

-- A unit's last before-image is put back and taken out.
withdrawn_none : (kind : Kind) (now : Option Item) → record_in (withdrawn_by kind now) ≡ None
withdrawn_none Keyed now = refl
withdrawn_none Relative now = refl
withdrawn_none EntrySequenced None = refl
withdrawn_none EntrySequenced (Some item) = refl

withdrawn_in : (definition : Option Definition) (now : Option Item)
    → record_in (option_and_then (λ (this : Definition). withdrawn_by this.kind now) definition) ≡
    None
withdrawn_in None now = refl
withdrawn_in (Some definition) now = withdrawn_none definition.kind now

-- the record that is put back is the one that was kept
pub record_back : (state : State) (kept : BeforeImage) (old : Option Item)
    → record_in (put_back state kept old) ≡ record_in old
record_back state kept (Some item) = refl
record_back state kept None =
    withdrawn_in (definition_of (catalog_of state) kept.part)
    (item_at (state.contents kept.part) kept.place)

module _ (counts : UnitOfRecovery → Bool) (state : State) (counted : ℕ
    → Content) (sound : Sound state.befores state.locks) (unit : UnitOfRecovery)
    (last : BeforeImage) (is : IsLast unit last state.befores) where
  abbrev pub befores_left : List BeforeImage
  befores_left = without_last unit state.befores

  undone_elsewhere : (part : ℕ) (place : List ℕ) → (part ≡ last.part → place ≡ last.place → ⊥)
      → settled_on counts befores_left (with_change (change_back state last) state.contents) part
      place ≡ settled_on counts state.befores state.contents part place
  undone_elsewhere part place apart =
      ap (λ (kept : Option BeforeImage). kept_or kept
      (item_at (with_change (change_back state last) state.contents part) place))
      (out_other unit last (is_kept_of counts part place) state.befores is
      (narrow counts part place last (place_of_image part place last apart)))
      ∙ ap (kept_or (find (is_kept_of counts part place) state.befores))
      (item_unchanged (change_back state last) state.contents part place apart)

  -- at its place there is none any more, and the item is the one put back
  undone_here : settled_on counts befores_left (with_change (change_back state last) state.contents)
      last.part last.place ≡ put_back state last last.old
  undone_here =
      ap (λ (kept : Option BeforeImage). kept_or kept
      (item_at (with_change (change_back state last) state.contents last.part) last.place))
      (last_gone unit last (is_kept_of counts last.part last.place) state.befores sound.apart is
      (narrow counts last.part last.place))
      ∙ item_changed (change_back state last) state.contents last.part last.place refl refl

  last_place : is_place last.part last.place last ≡ true
  last_place = ap (λ (b : Bool). b
      && bytes_eq last.place last.place) (eq-eqb last.part last.part refl)
      ∙ (bytes_eq-Decides last.place last.place).1 refl

  -- and where its unit doesn't count, it was what was settled on
  last_settled : counts last.unit ≡ false
      → settled_on counts state.befores state.contents last.part last.place ≡ last.old
  last_settled not_counted =
      ap (λ (kept : Option BeforeImage). kept_or kept
      (item_at (state.contents last.part) last.place))
      (last_found unit last (is_kept_of counts last.part last.place) state.befores sound.apart is
      (narrow counts last.part last.place)
      (ap (λ (b : Bool). not b && is_place last.part last.place last) not_counted ∙ last_place))

  last_unit : (befores : List BeforeImage) → IsLast unit last befores → unit ≡ last.unit
  last_unit [] this = absurd this
  last_unit (kept ∷ befores) (inl here) =
      subst (λ (k : BeforeImage). unit ≡ k.unit) here.0 (unit_same unit kept.unit here.1)
  last_unit (kept ∷ befores) (inr later) = last_unit befores later.1

  pub undone_agrees : (part : ℕ)
      → ((place : List ℕ) → AgreesOn counts state.befores state.contents counted part place)
      → (place : List ℕ)
      → AgreesOn counts befores_left (with_change (change_back state last) state.contents)
      (cond (counts unit) (with_change (change_back state last) counted) counted) part place
  undone_agrees part agrees place =
      by_test (counts unit) refl (place_is part last.part place last.place)
    where
      by_test : (test : Bool) → counts unit ≡ test → ((part ≡ last.part) × (place ≡ last.place))
          ⊎ (part ≡ last.part → place ≡ last.place → ⊥)
          → AgreesOn counts befores_left (with_change (change_back state last) state.contents)
          (cond test (with_change (change_back state last) counted) counted) part place
      by_test true counting (inl here) =
          let P : ℕ → Type 0 =
          λ p. record_in (item_at (with_change (change_back state last) counted p) place) ≡
          record_in (settled_on counts befores_left
          (with_change (change_back state last) state.contents) p place) in
          let Q : List ℕ → Type 0 =
          λ q. record_in (item_at (with_change (change_back state last) counted last.part) q) ≡
          record_in (settled_on counts befores_left
          (with_change (change_back state last) state.contents) last.part q) in
          subst P (sym here.0)
          (subst Q (sym here.1)
          (ap record_in
          (item_changed (change_back state last) counted last.part last.place refl refl
          ∙ sym undone_here)))
      by_test true counting (inr apart) =
          ap record_in (item_unchanged (change_back state last) counted part place apart)
          ∙ (agrees place ∙ sym (ap record_in (undone_elsewhere part place apart)))
      by_test false counting (inl here) =
          let not_counted : counts last.unit ≡ false =
          subst (λ (u : UnitOfRecovery). counts u ≡ false) (last_unit state.befores is) counting
          in
          let P : ℕ → Type 0 =
          λ p. record_in (settled_on counts state.befores state.contents p place) ≡ record_in
          (settled_on counts befores_left (with_change (change_back state last) state.contents)
          p place) in
          let Q : List ℕ → Type 0 =
          λ q. record_in (settled_on counts state.befores state.contents last.part q) ≡
          record_in (settled_on counts befores_left
          (with_change (change_back state last) state.contents) last.part q) in
          agrees place
          ∙ subst P (sym here.0) (subst Q (sym here.1) (ap record_in (last_settled not_counted)
          ∙ (sym (record_back state last last.old) ∙ sym (ap record_in undone_here))))
      by_test false counting (inr apart) = agrees place
          ∙ sym (ap record_in (undone_elsewhere part place apart))

-- A unit ends: the before-images of one that counts are looked for by nobody, and one that backed
-- out keeps none.
pub counted_end : (counts : UnitOfRecovery
    → Bool) (befores : List BeforeImage) (ended : UnitOfRecovery) (part : ℕ) (place : List ℕ)
    → counts ended ≡ true
    → find (is_kept_of counts part place) (filter (λ kept. is_other ended kept.unit) befores) ≡ find
    (is_kept_of counts part place) befores
counted_end counts befores ended part place is =
    find_filter (λ kept. is_other ended kept.unit) (is_kept_of counts part place) befores passes
  where
    ended_unit : (kept : BeforeImage) (test : Bool) → same_unit ended kept.unit ≡ test
        → not test ≡ false → ended ≡ kept.unit
    ended_unit kept true same none = unit_same ended kept.unit same
    ended_unit kept false same none = absurd (true≢false none)

    passes : (kept : BeforeImage) → is_other ended kept.unit ≡ false
        → is_kept_of counts part place kept ≡ false
    passes kept gone =
        ap (λ (b : Bool). not b
        && is_place part place kept)
        (subst (λ (u : UnitOfRecovery). counts u ≡ true)
        (ended_unit kept (same_unit ended kept.unit) refl gone) is)
