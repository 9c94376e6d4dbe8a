-- The contents with several changes made in the catalog: what is at each place then.
use Rattle.std.proofs.Common.{◌≡◌, ◌≢◌, ℕ, Bool, true, false, cond, List, [], ◌∷◌, refl, sym}
use Rattle.std.proofs.Common.{ap, ◌∙◌, ◌==◌, bytes_eq}
use Rattle.std.specs.Prelude.{All}
use Rattle.std.specs.Option.{option_map}
use Rattle.std.proofs.lemmas.Bool.{true≢false}
use Rattle.std.proofs.lemmas.Bool.Decides.{Decides-eqb}
use Rattle.std.proofs.lemmas.List.Elements.{All-cons, All-head, All-nil, All-tail, All-weaker}
use Rattle.std.proofs.lemmas.Slice.Eq.{bytes_eq-Decides}
use Rattle.vr_types.specs.Content.{Ascends, Content, Standing, item_at}
use Rattle.vr_altkey.specs.Placing.{placed_in}
use Rattle.vr_altkey.proofs.CallerLemmas.{placed_ascends, placed_elsewhere, placed_here}
use Rattle.vr_volume.specs.EntryChange.{with_entry_change}
use Rattle.vr_volume.specs.EntryChanges.{AreApart, MissAll, with_changes}
use Rattle.vr_volume.specs.declared.setting.EntryChange.{EntryChange}

-- what is true where one of them is of the place, and where none is
pub by-among : (Q : EntryChange → Type 0) (R : Type 0) (at : List ℕ) (changes : List EntryChange)
    → All Q changes → ((change : EntryChange) → Q change → at ≡ change.place → R)
    → (MissAll at changes → R) → R
by-among Q R at [] all hit miss = miss (All-nil (λ (change : EntryChange). at ≢ change.place))
by-among Q R at (change ∷ changes) all hit miss = by (bytes_eq at change.place) refl
    (λ later. by-among Q R at changes (All-tail Q change changes all) hit later)
  where
    by : (same : Bool) → bytes_eq at change.place ≡ same
        → ((MissAll at changes → R) → R) → R
    by true is further = hit change (All-head Q change changes all)
        ((bytes_eq-Decides at change.place).0 is)
    by false is further = further
        (λ misses. miss (All-cons (λ (other : EntryChange). at ≢ other.place) change changes
        (λ same. true≢false (sym ((bytes_eq-Decides at change.place).1 same) ∙ is)) misses))

-- another part has what it had
pub other-put : (changes : List EntryChange) (contents : ℕ → Content) (part : ℕ) → part ≢ 0
    → with_changes changes contents part ≡ contents part
other-put [] contents part apart = refl
other-put (change ∷ changes) contents part apart =
    other-put changes (with_entry_change change.place change.bytes contents) part apart
    ∙ by (part == 0) refl
  where
    by : (mine : Bool) → (part == 0) ≡ mine
        → with_entry_change change.place change.bytes contents part ≡ contents part
    by true is = absurd (apart ((Decides-eqb part 0).0 is))
    by false is = ap (λ (b : Bool). cond b
        (placed_in change.place (option_map Standing change.bytes) (contents part))
        (contents part)) is

-- a place that they miss has what it had,
pub item-miss : (changes : List EntryChange) (contents : ℕ → Content) (at : List ℕ)
    → MissAll at changes
    → item_at (with_changes changes contents 0) at ≡ item_at (contents 0) at
item-miss [] contents at misses = refl
item-miss (change ∷ changes) contents at misses =
    item-miss changes (with_entry_change change.place change.bytes contents) at
    (All-tail (λ (other : EntryChange). at ≢ other.place) change changes misses)
    ∙ placed_elsewhere change.place (option_map Standing change.bytes) (contents 0) at
    (All-head (λ (other : EntryChange). at ≢ other.place) change changes misses)

-- and each of theirs what its change gives
pub item-put : (changes : List EntryChange) (contents : ℕ → Content) → AreApart changes
    → All (λ (change : EntryChange). item_at (with_changes changes contents 0) change.place
    ≡ option_map Standing change.bytes) changes
item-put [] contents apart = All-nil (λ (change : EntryChange).
    item_at (contents 0) change.place ≡ option_map Standing change.bytes)
item-put (change ∷ changes) contents apart =
    let next : ℕ → Content = with_entry_change change.place change.bytes contents in
    All-cons (λ (other : EntryChange). item_at (with_changes changes next 0) other.place
    ≡ option_map Standing other.bytes) change changes
    (item-miss changes next change.place
    (All-weaker (λ (other : EntryChange). other.place ≢ change.place)
    (λ (other : EntryChange). change.place ≢ other.place)
    (λ other differ same. differ (sym same)) changes apart.0)
    ∙ placed_here change.place (option_map Standing change.bytes) (contents 0))
    (item-put changes next apart.1)

pub ascends-put : (changes : List EntryChange) (contents : ℕ → Content) → Ascends (contents 0)
    → Ascends (with_changes changes contents 0)
ascends-put [] contents ascends = ascends
ascends-put (change ∷ changes) contents ascends =
    ascends-put changes (with_entry_change change.place change.bytes contents)
    (placed_ascends change.place (option_map Standing change.bytes) (contents 0) ascends)
