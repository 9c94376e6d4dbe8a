-- The entry of a name: where it is, and that a catalog may be asked about it.
use Rattle.std.proofs.Common.{◌≡◌, ◌∙◌, ◌+◌, ◌<◌, ◌≤◌, ℕ, Bool, true, false, List, length, map}
use Rattle.std.proofs.Common.{Option, Some, None, refl, sym, ap, subst, get_or, arith, inl, inr}
use Rattle.std.proofs.Common.{not, Result, Ok, Err, IfErr, slice_get}
use Rattle.std.specs.List.{position, position_or_len}
use Rattle.std.specs.Option.{option_and_then, option_or}
use Rattle.std.specs.Result.{IsErrAnd}
use Rattle.std.proofs.lemmas.Bool.{cases_lt}
use Rattle.std.proofs.lemmas.Bool.Decides.{nat_tests}
use Rattle.std.proofs.lemmas.List.Sums.{position_or_len_is}
use Rattle.vr_catalog.specs.Catalog.{entry_named}
use Rattle.vr_catalog.specs.declared.entry.CatEntry.{CatEntry}
use Rattle.vr_edits.specs.Edits.{IsEntryThere}
use Rattle.vr_trace.specs.Shown.{Shown, has_name}
use Rattle.vr_trace.specs.declared.command.Failure.{Failure}
use Rattle.vr_ams_define.specs.Altered.{entry_at, entry_of_name, failure_on, is_sound, name_failure}
use Rattle.vr_ams_define.specs.Altered.{place_of, unsound_failure}
use Rattle.vr_ams_define.specs.Deleted.{catalog_of}
use Rattle.vr_ams_define.specs.EditSteps.{IsNamed, IsRefusedBy, IsTargetOn}
use Rattle.vr_ams_define.specs.Failures.{failure_if, stopped_failure}
use Rattle.vr_ams_define.specs.declared.refusal.DefineNo.{DefineNo}
use Rattle.vr_ams_define.specs.declared.refusal.DefineNo.TheVariants.{Refused, Ended}
use Rattle.vr_ams_define.specs.declared.target.Target.{Target}
use Rattle.vr_ams_define.proofs.Named.{sound-there}
use Rattle.vr_ams_define.proofs.OnVolume.{shown-at}

-- ---- the lowest volume with a name

module _ {X : Type 0} (p : X → Bool) (xs : List X) (i : ℕ) (d : X) where
  position-here : i < length xs → ((k : ℕ) → k < i → p (get_or xs k d) ≡ false)
      → p (get_or xs i d) ≡ true → position p xs ≡ Some i
  position-here near before here =
      let at : position_or_len p xs ≡ i =
      position_or_len_is p xs i d (omega (arith, near)) before (λ _. here) in
      rw at (grind (arith, nat_tests, near))

  position-past : length xs ≤ i → ((k : ℕ) → k < length xs → p (get_or xs k d) ≡ false)
      → position p xs ≡ None
  position-past past before =
      let at : position_or_len p xs ≡ length xs =
      position_or_len_is p xs (length xs) d (omega arith) before
      (λ near. absurd (omega (arith, near))) in
      rw at (grind (arith, nat_tests))

-- None of the first volumes, as many as this, has the name.
abbrev pub AreWithout : List Shown → List ℕ → ℕ → Type 0
AreWithout volumes name count = (k : ℕ) (spare : Shown) → k < count → k < length volumes
    → has_name (get_or volumes k spare) name ≡ false

pub without-none : (volumes : List Shown) (name : List ℕ) → AreWithout volumes name 0
without-none volumes name k spare below near = absurd (omega (arith, below))

pub without-next : (volumes : List Shown) (name : List ℕ) (count : ℕ)
    → AreWithout volumes name count
    → ((spare : Shown) → has_name (get_or volumes count spare) name ≡ false)
    → AreWithout volumes name (count + 1)
without-next volumes name count without not-here k spare below near = elim (cases_lt k count) [
  | inl less ↦ without k spare less near
  | inr most ↦
      let same : count ≡ k = omega (arith, below, most) in
      subst (λ (n : ℕ). has_name (get_or volumes n spare) name ≡ false) same (not-here spare)
]

module _ (volumes : List Shown) (name : List ℕ) (count : ℕ)
    (without : AreWithout volumes name count) (spare : Shown) where
  abbrev Names : Shown → Bool
  Names volume = has_name volume name

  pub place-here : count < length volumes → has_name (get_or volumes count spare) name ≡ true
      → place_of volumes name ≡ Some count
  place-here near here = position-here Names volumes count spare near
      (λ k below. without k spare below (omega (arith, below, near))) here

  pub place-none : length volumes ≤ count → place_of volumes name ≡ None
  place-none past = position-past Names volumes count spare past
      (λ k near. without k spare (omega (arith, near, past)) near)

-- ---- an entry that can be used

pub or-none : {T : Type 0} (one other : Option T) → option_or one other ≡ None
    → (one ≡ None) × (other ≡ None)
or-none None other none = (refl, none)
or-none (Some x) other none = absurd (cc)

pub no-cause : (cause : Bool) (failure : Failure) → failure_if cause failure ≡ None
    → cause ≡ false
no-cause true failure none = absurd (cc)
no-cause false failure none = refl

pub not-false : (is : Bool) → not is ≡ false → is ≡ true
not-false true none = refl
not-false false none = absurd (cc)

-- its volume hasn't stopped, and it is one that an edit may have
target-is : (volume : Shown) (name : List ℕ) (entry : CatEntry) → IsTargetOn volume name entry
    → (volume.stopped ≡ false) × IsEntryThere volume.catalog entry
target-is volume name entry is =
    let both = or-none (stopped_failure volume) (unsound_failure volume.catalog entry)
    is.allowed in (
      no-cause volume.stopped _ both.0,
      sound-there volume.catalog name entry is.named
          (not-false (is_sound volume.catalog entry) (no-cause _ _ both.1)),
    )

module _ {V : Type 0} (shown : V → Shown) (volumes : List V) (name : List ℕ) (place : ℕ)
    (spare : V) (within : place < length volumes)
    (place_is : place_of (map shown volumes) name ≡ Some place) where
  abbrev One : Shown
  One = shown (get_or volumes place spare)

  failure-at : name_failure (map shown volumes) name
      ≡ failure_on (Some One) (entry_named One.catalog name)
  failure-at = rw (place_is, shown-at shown volumes place spare within) refl

  pub named-at : (entry : CatEntry) → IsTargetOn One name entry
      → IsNamed (map shown volumes) name (record { place = place; entry = entry })
  named-at entry is = record {
    place_is = place_is;
    volume = One;
    volume_is = shown-at shown volumes place spare within;
    is_on = is;
    allowed = failure-at ∙ ap (failure_on (Some One)) is.named ∙ is.allowed;
  }

  pub refused-at : (end : DefineNo)
      → IsRefusedBy (failure_on (Some One) (entry_named One.catalog name)) end
      → IsRefusedBy (name_failure (map shown volumes) name) end
  refused-at end refused = subst (λ (first : Option Failure). IsRefusedBy first end)
      (sym failure-at) refused

-- ---- what is known of it

module _ (volumes : List Shown) (name : List ℕ) (target : Target)
    (named : IsNamed volumes name target) where
  -- its volume hasn't stopped
  pub going-on : named.volume.stopped ≡ false
  going-on = (target-is named.volume name target.entry named.is_on).0

  -- an edit may have it
  pub there-on : IsEntryThere named.volume.catalog target.entry
  there-on = (target-is named.volume name target.entry named.is_on).1

  pub entry-is : entry_of_name volumes name ≡ Some target.entry
  entry-is =
      ap (option_and_then (λ (place : ℕ). entry_at volumes place name)) named.place_is
      ∙ ap (option_and_then (λ (volume : Shown). entry_named volume.catalog name))
      named.volume_is
      ∙ named.is_on.named

  pub catalog-is : catalog_of volumes name ≡ Some named.volume.catalog
  catalog-is = rw (named.place_is, named.volume_is) refl

  -- what comes after the causes that go by the name
  pub after-name : (more : Option Failure) → option_or (name_failure volumes name) more ≡ more
  after-name more = ap (λ (first : Option Failure). option_or first more) named.allowed

-- ---- why it is refused

-- what holds of an error that is handed on
pub err-handed : {T E : Type 0} (P : E → Type 0) (result : Result T E) (end : E)
    → IsErrAnd result (λ handed. handed ≡ end) → P end → IfErr result P
err-handed P (Ok x) end is holds = absurd is
err-handed P (Err handed) end is holds = subst P (sym is) holds

-- what is refused first is, whatever comes after it
pub refused-more : (first more : Option Failure) (no : DefineNo) → IsRefusedBy first no
    → IsRefusedBy (option_or first more) no
refused-more first more (Refused failure) refused =
    ap (λ (it : Option Failure). option_or it more) refused
refused-more first more (Ended end) refused = tt
