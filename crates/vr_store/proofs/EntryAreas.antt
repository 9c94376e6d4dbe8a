-- The areas of a part that goes become free: which blocks are of a part then, and that a store is
-- set without the part.
use Rattle.std.proofs.Common.{◌≡◌, ◌≢◌, ◌∙◌, ◌==◌, ◌+◌, ◌-◌, ◌/◌, ℕ, Bool, true, false, cond, List}
use Rattle.std.proofs.Common.{[]}
use Rattle.std.proofs.Common.{Option, Some, None, ap, get_or, refl, sym}
use Rattle.std.specs.Prelude.{nat_le}
use Rattle.std.specs.Option.{option_map}
use Rattle.std.proofs.Math.ListN.{get_or-map}
use Rattle.std.proofs.lemmas.Bool.Decides.{Decides-eqb}
use Rattle.std.proofs.lemmas.List.Elements.{All-nil, All-weaker}
use Rattle.vr_types.specs.Seen.{Seen}
use Rattle.vr_types.specs.Space.{freed, released}
use Rattle.vr_types.specs.declared.geometry.Geometry.{Geometry}
use Rattle.vr_types.specs.declared.unit.PartNo.{PartNo}
use Rattle.vr_attach.specs.Owning.{owner_of}
use Rattle.vr_volume.specs.EntryChange.{IsTakenFrom, is_gone}
use Rattle.vr_undo.specs.declared.record.KeptRecord.{KeptRecord}
use Rattle.vr_store.specs.EntryChange.{areas_left, number_gone, parts_left, store_left}
use Rattle.vr_store.specs.Store.{IsFitImage, IsPartSet, IsSet, OwnsItsChain, PartNow, StoreNow}
use Rattle.vr_store.specs.Store.{part_among}
use Rattle.vr_store.proofs.EntryParts.{all-left, among-left, distinct-left}
use Rattle.vr_store.proofs.GivenBack.{set-back}

some-none : {X : Type 0} {x : X} → Some x ≡ None → ⊥
some-none same = cc

some-same : {X : Type 0} {x y : X} → Some x ≡ Some y → x ≡ y
some-same same = cc

-- ---- the owners of blocks

-- what the owner of the area at a place among them makes of a block of it
abbrev owner_by : Bool → Option PartNo → Option ℕ
owner_by before owner = cond before None (option_map (λ (part : PartNo). part.0) owner)

module _ (part : PartNo) where
  kept-by : (before : Bool) (owner : Option PartNo) (p : ℕ) → owner_by before owner ≡ Some p
      → p ≢ part.0 → owner_by before (freed part owner) ≡ Some p
  kept-by true owner p is apart = absurd (some-none (sym is))
  kept-by false None p is apart = absurd (some-none (sym is))
  kept-by false (Some owner) p is apart = by_test (owner.0 == part.0) refl
    where
      by_test : (test : Bool) → (owner.0 == part.0) ≡ test
          → owner_by false (cond test None (Some owner)) ≡ Some p
      by_test true same = absurd (apart
          (sym (some-same is) ∙ (Decides-eqb owner.0 part.0).0 same))
      by_test false same = is

  fewer-by : (before : Bool) (owner : Option PartNo) (p : ℕ)
      → owner_by before (freed part owner) ≡ Some p → owner_by before owner ≡ Some p
  fewer-by true owner p is = is
  fewer-by false None p is = is
  fewer-by false (Some owner) p is = by_test (owner.0 == part.0) is
    where
      by_test : (test : Bool) → owner_by false (cond test None (Some owner)) ≡ Some p
          → owner_by false (Some owner) ≡ Some p
      by_test true same = absurd (some-none (sym same))
      by_test false same = same

  module _ (geometry : Geometry) (areas : List (Option PartNo)) where
    abbrev at : ℕ → ℕ
    at n = (n - 1 - geometry.log) / (geometry.area + 1)

    abbrev before : ℕ → Bool
    before n = nat_le n geometry.log

    owner-freed : (n : ℕ) → owner_of geometry (released part areas) n
        ≡ owner_by (before n) (freed part (get_or areas (at n) None))
    owner-freed n = ap (owner_by (before n)) (get_or-map (freed part) areas (at n) None)

    -- Its blocks are nobody's, and those of the others are theirs still.
    pub taken : IsTakenFrom part.0 (owner_of geometry areas)
        (owner_of geometry (released part areas))
    taken = record {
      kept = λ n p is apart. owner-freed n
          ∙ kept-by (before n) (get_or areas (at n) None) p is apart;
      fewer = λ n p is. fewer-by (before n) (get_or areas (at n) None) p
          (sym (owner-freed n) ∙ is);
    }

-- ---- the store

-- the store without the part, by what is new of it
pub left-is : (store : StoreNow) (gone : Option PartNo) (undo : List KeptRecord)
    (parts : List PartNow) (space : List (Option PartNo)) → undo ≡ []
    → parts ≡ parts_left gone store.parts → space ≡ areas_left gone store.space
    → record store { undo = undo; parts = parts; space = space } ≡ store_left gone store
left-is store gone undo parts space none left free =
    ap (λ (kept : List KeptRecord). let s : StoreNow = record store {
      undo = kept;
      parts = parts;
      space = space;
    } in s) none
    ∙ ap (λ (some : List PartNow). let s : StoreNow = record store {
      undo = [];
      parts = some;
      space = space;
    } in s) left
    ∙ ap (λ (areas : List (Option PartNo)). let s : StoreNow = record store {
      undo = [];
      parts = parts_left gone store.parts;
      space = areas;
    } in s) free

module _ (store : StoreNow) (now : Seen) (set : IsSet store now) where
  -- it is set without the part, while nothing is kept,
  less-set : (gone : Option PartNo)
      → IsSet (record store { undo = []; parts = parts_left gone store.parts }) now
  less-set gone = record {
    allowed = set.allowed;
    blocks = set.blocks;
    sound = set.sound;
    parts = All-weaker (λ (part : PartNow).
        IsPartSet now part × (is_gone (number_gone gone) part.number.0 ≡ false))
        (IsPartSet now) (λ part is. is.0) (parts_left gone store.parts)
        (all-left gone (IsPartSet now) store.parts set.parts);
    apart = distinct-left gone store.parts set.apart;
    changed = set.changed;
    idle = set.idle;
    kept = All-nil (IsFitImage (parts_left gone store.parts));
    areas = set.areas;
    owns = All-weaker (λ (part : PartNow).
        OwnsItsChain store.space part × (is_gone (number_gone gone) part.number.0 ≡ false))
        (OwnsItsChain store.space) (λ part is. is.0) (parts_left gone store.parts)
        (all-left gone (OwnsItsChain store.space) store.parts set.owns);
  }

  none-left : (part : PartNo) → part_among (parts_left (Some part) store.parts) part.0 ≡ None
  none-left part = among-left (Some part) store.parts part.0
      ∙ ap (λ (test : Bool). cond test None (part_among store.parts part.0))
      ((Decides-eqb part.0 part.0).1 refl)

  -- and with its areas free.
  pub set-left : (gone : Option PartNo) → IsSet (store_left gone store) now
  set-left None = less-set None
  set-left (Some part) = set-back
      (record store { undo = []; parts = parts_left (Some part) store.parts }) part
      (none-left part) now (less-set (Some part))
