-- A part got the least free area, or none got one: how many areas each part owns then, and how many
-- are free.
use Rattle.std.proofs.Common.{◌≡◌, ◌≢◌, ◌⊎◌, ⊎_elim, inl, inr, ◌<◌, ◌+◌, ◌∷◌, ◌==◌, ℕ, Bool}
use Rattle.std.proofs.Common.{true, false, cond, List, [], Option, Some, None, refl, sym, ap}
use Rattle.std.proofs.Common.{◌∙◌, arith, get_or, length, set, subst}
use Rattle.std.specs.Prelude.{Contains, filter, is_none}
use Rattle.std.proofs.lemmas.Bool.{true≢false}
use Rattle.std.proofs.lemmas.Bool.Decides.{Decides-eqb}
use Rattle.std.proofs.lemmas.List.{length-append, length-set}
use Rattle.std.proofs.lemmas.List.Quantifiers.{position-Some}
use Rattle.std.proofs.lemmas.List.Sums.{length-filter, sum_by-set}
use Rattle.vr_types.specs.Space.{free_count, is_owner, least_free}
use Rattle.vr_types.specs.declared.unit.PartNo.{PartNo}
use Rattle.vr_types.specs.declared.unit.StageKind.{StageKind}
use Rattle.vr_types.specs.declared.unit.StageKind.TheVariants as stages
use Rattle.vr_space.specs.Known.{Known}
use Rattle.vr_space.specs.Part.{HoldsSame, IsClaimed, KeepsChain, OwnersAfter, OwnsChain, Shape}
use Rattle.vr_space.specs.Part.{held_by, owned_count, part_no}

-- how many of a list pass a test, once one of them is another
count-set : {X : Type 0} (p : X → Bool) (xs : List X) (i : ℕ) (y d : X) → i < length xs
    → length (filter p (set xs i y)) + cond (p (get_or xs i d)) 1 0
    ≡ length (filter p xs) + cond (p y) 1 0
count-set p xs i y d below =
    ap (λ (n : ℕ). n + cond (p (get_or xs i d)) 1 0) (length-filter p (set xs i y))
    ∙ sum_by-set (λ x. cond (p x) 1 0) xs i y d below
    ∙ ap (λ (n : ℕ). n + cond (p y) 1 0) (sym (length-filter p xs))

none-is : (owner : Option PartNo) → is_none owner ≡ true → owner ≡ None
none-is None is = refl
none-is (Some part) is = absurd (true≢false (sym is))

-- The part got the least free area: it owns one more, each other part as many as before, and one
-- fewer is free.
pub record HasClaimed (part : PartNo) (old new : List (Option PartNo)) : Type 0 where
  pub area : ℕ
  pub least : least_free old ≡ Some area
  pub owners : new ≡ set old area (Some part)
  pub count : length new ≡ length old
  pub free : free_count new + 1 ≡ free_count old
  pub mine : owned_count part new ≡ owned_count part old + 1
  pub others : (other : PartNo) → other.0 ≢ part.0 → owned_count other new ≡ owned_count other old

pub has-claimed : (part : PartNo) (old new : List (Option PartNo)) → IsClaimed part old new
    → HasClaimed part old new
has-claimed part old new claimed = record {
  area = area;
  least = claimed.1;
  owners = claimed.2;
  count = ap length claimed.2 ∙ length-set old area (Some part);
  free = omega (arith, counted is_none true false refl refl);
  mine = omega (
    arith,
    counted (is_owner part) false true refl
        ((Decides-eqb part.0 part.0).1 refl),
  );
  others = λ other apart. omega (
    arith,
    counted (is_owner other) false false refl
        (not-owner other apart (part.0 == other.0) refl),
  );
}
  where
    area : ℕ
    area = claimed.0

    below : area < length old
    below = (position-Some is_none old area None claimed.1).0

    was-free : get_or old area None ≡ None
    was-free = none-is (get_or old area None) (position-Some is_none old area None claimed.1).1

    counted : (p : Option PartNo → Bool) (before after : Bool) → p None ≡ before
        → p (Some part) ≡ after
        → length (filter p new) + cond before 1 0 ≡ length (filter p old) + cond after 1 0
    counted p before after none some =
        ap (λ (b : Bool). length (filter p new) + cond b 1 0)
        (sym (ap p was-free ∙ none))
        ∙ ap (λ (owners : List (Option PartNo)).
        length (filter p owners) + cond (p (get_or old area None)) 1 0) claimed.2
        ∙ count-set p old area (Some part) None below
        ∙ ap (λ (b : Bool). length (filter p old) + cond b 1 0) some

    not-owner : (other : PartNo) → other.0 ≢ part.0 → (test : Bool)
        → (part.0 == other.0) ≡ test → test ≡ false
    not-owner other apart true is =
        absurd (apart (sym ((Decides-eqb part.0 other.0).0 is)))
    not-owner other apart false is = refl

-- So it is after a stage, whichever, or the owners are as before.
pub owners-after : (part : PartNo) (kind : StageKind) (old new : List (Option PartNo))
    → OwnersAfter part kind old new → (new ≡ old) ⊎ HasClaimed part old new
owners-after part stages.CaClaim old new after =
    ⊎_elim (λ same. inl same) (λ claimed. inr (has-claimed part old new claimed)) after
owners-after part stages.Post old new after =
    ⊎_elim (λ same. inl same) (λ claimed. inr (has-claimed part old new claimed)) after
owners-after part stages.Extend old new after =
    ⊎_elim (λ same. inl same) (λ claimed. inr (has-claimed part old new claimed)) after
owners-after part stages.CiCopy old new after = inl after
owners-after part stages.CiSwitch old new after = inl after
owners-after part stages.CiClean old new after = inl after
owners-after part stages.CaCopy old new after = inl after
owners-after part stages.CaLink old new after = inl after
owners-after part stages.CaSwitch old new after = inl after
owners-after part stages.Undo old new after = inl after
owners-after part stages.Force old new after = inl after

-- ---- what parts hold of their areas

-- The areas that a part holds in memory and those that it owns are as many as before, or of both
-- there is one more.
pub record HasOneMore (part : PartNo) (areas after : List ℕ) (old new : List (Option PartNo))
    : Type 0 where
  pub claimed : HasClaimed part old new
  pub kept : length after ≡ length areas + 1

-- They are as before where nothing was claimed, whatever the kind of the part.
pub chain-same : (shape : Shape) (areas after : List ℕ) (old new : List (Option PartNo))
    → after ≡ areas → new ≡ old → KeepsChain shape areas after old new
chain-same shape areas after old new kept same = inl (
  record {
    many = ap length kept;
    kept = λ area held. subst (λ (list : List ℕ). Contains list area) (sym kept) held;
    none = λ area held. subst (λ (list : List ℕ). Contains list area) kept held;
  },
  same,
)

pub chain-by : (shape : Shape) (areas after : List ℕ) (old new : List (Option PartNo))
    → KeepsChain shape areas after old new
    → (HoldsSame areas after × (new ≡ old)) ⊎ HasOneMore (part_no shape) areas after old new
chain-by shape areas after old new chain = ⊎_elim (λ same. inl same)
    (λ more. inr (record {
      claimed = has-claimed (part_no shape) old new (more.area, more.least, more.owned);
      kept = ap length more.more ∙ length-append areas (more.area ∷ []);
    }))
    chain

module _ (part : Shape) (areas after : List ℕ) (old new : List (Option PartNo))
    (chain : KeepsChain part areas after old new) where
  chained : (HoldsSame areas after × (new ≡ old)) ⊎ HasOneMore (part_no part) areas after old new
  chained = chain-by part areas after old new chain

  -- there are as many areas,
  pub count-kept : length new ≡ length old
  count-kept = ⊎_elim (λ same. ap length same.1) (λ more. more.claimed.count) chained

  count-other : (other : PartNo) → other.0 ≢ (part_no part).0
      → owned_count other new ≡ owned_count other old
  count-other other apart = ⊎_elim (λ same. ap (owned_count other) same.1)
      (λ more. more.claimed.others other apart) chained

  -- each other part holds as many of them as it owns,
  pub owns-other : (shape : Shape) (known : Known) → (part_no shape).0 ≢ (part_no part).0
      → OwnsChain shape known old → OwnsChain shape known new
  owns-other shape known apart owns = count-other (part_no shape) apart ∙ owns

-- and so does the part.
pub owns-mine : (shape : Shape) (known later : Known) (old new : List (Option PartNo))
    → KeepsChain shape (held_by shape known) (held_by shape later) old new
    → OwnsChain shape known old → OwnsChain shape later new
owns-mine shape known later old new chain owns = ⊎_elim
    (λ same. ap (owned_count (part_no shape)) same.1 ∙ owns ∙ sym same.0.many)
    (λ more. more.claimed.mine ∙ ap (λ (n : ℕ). n + 1) owns ∙ sym more.kept)
    (chain-by shape (held_by shape known) (held_by shape later) old new chain)
