-- A part that isn't laid gives back its areas: it owns none then, each other part as many as
-- before, and as soon as before an area is free.
use Rattle.std.proofs.Common.{◌≡◌, ◌≢◌, ◌∙◌, ◌≤◌, ◌==◌, ◌∷◌, Bool, true, false, cond, List, []}
use Rattle.std.proofs.Common.{Option, Some, None, refl, sym, ap, arith, length, filter, suc}
use Rattle.std.specs.Prelude.{is_none, nat_lt}
use Rattle.std.specs.List.{position_or_len}
use Rattle.std.proofs.lemmas.Bool.Decides.{Decides-eqb, nat_tests}
use Rattle.std.proofs.lemmas.List.{length-map}
use Rattle.std.proofs.lemmas.List.Elements.{All-weaker}
use Rattle.std.proofs.lemmas.Option.{none-some}
use Rattle.vr_types.specs.Seen.{Seen}
use Rattle.vr_types.specs.Space.{freed, is_owner, least_free, released}
use Rattle.vr_types.specs.declared.unit.PartNo.{PartNo}
use Rattle.vr_space.specs.Part.{owned_count, part_no}
use Rattle.vr_store.specs.Store.{IsPartSet, IsSet, OwnsItsChain, PartNow, StoreNow, part_among}
use Rattle.vr_store.proofs.AddedParts.{all-others}
use Rattle.vr_store.proofs.NewAreas.{freed-none}

module _ (part : PartNo) where
  -- it owns none,
  pub owned-back : (areas : List (Option PartNo)) → owned_count part (released part areas) ≡ 0
  owned-back [] = refl
  owned-back (None ∷ areas) = owned-back areas
  owned-back (Some owner ∷ areas) = by_test (owner.0 == part.0) refl (owned-back areas)
    where
      by_test : (test : Bool) → (owner.0 == part.0) ≡ test
          → owned_count part (released part areas) ≡ 0
          → owned_count part (cond test None (Some owner) ∷ released part areas) ≡ 0
      by_test true is further = further
      by_test false is further = ap (λ (test : Bool). length (cond test
          (Some owner ∷ filter (is_owner part) (released part areas))
          (filter (is_owner part) (released part areas)))) is
          ∙ further

  -- and each other part as many.
  module _ (other : PartNo) (apart : other.0 ≢ part.0) where
    -- one of its areas more, or not
    counted : (mine : Bool) (owner : Option PartNo) (some more : List (Option PartNo))
        → length some ≡ length more
        → length (cond mine (owner ∷ some) some) ≡ length (cond mine (owner ∷ more) more)
    counted true owner some more same = ap suc same
    counted false owner some more same = same

    pub owned-other : (areas : List (Option PartNo))
        → owned_count other (released part areas) ≡ owned_count other areas
    owned-other [] = refl
    owned-other (None ∷ areas) = owned-other areas
    owned-other (Some owner ∷ areas) = by_test (owner.0 == part.0) refl (owned-other areas)
      where
        not-mine : (owner.0 == part.0) ≡ true → (mine : Bool) → (owner.0 == other.0) ≡ mine
            → mine ≡ false
        not-mine is true same = absurd (apart (sym ((Decides-eqb owner.0 other.0).0 same)
            ∙ (Decides-eqb owner.0 part.0).0 is))
        not-mine is false same = refl

        by_test : (test : Bool) → (owner.0 == part.0) ≡ test
            → owned_count other (released part areas) ≡ owned_count other areas
            → owned_count other (cond test None (Some owner) ∷ released part areas)
            ≡ owned_count other (Some owner ∷ areas)
        by_test true is further = further
            ∙ sym (ap (λ (mine : Bool). length (cond mine
            (Some owner ∷ filter (is_owner other) areas) (filter (is_owner other) areas)))
            (not-mine is (owner.0 == other.0) refl))
        by_test false is further = counted (owner.0 == other.0) (Some owner)
            (filter (is_owner other) (released part areas)) (filter (is_owner other) areas) further

  -- the first area that is free
  sooner : (areas : List (Option PartNo))
      → position_or_len is_none (released part areas) ≤ position_or_len is_none areas
  sooner [] = omega arith
  sooner (None ∷ areas) = omega arith
  sooner (Some owner ∷ areas) = by_test (owner.0 == part.0) (sooner areas)
    where
      by_test : (test : Bool)
          → position_or_len is_none (released part areas) ≤ position_or_len is_none areas
          → position_or_len is_none (cond test None (Some owner) ∷ released part areas)
          ≤ position_or_len is_none (Some owner ∷ areas)
      by_test true further = omega arith
      by_test false further = omega (arith, further)

  -- where none is then, none was before
  pub none-before : (areas : List (Option PartNo)) → least_free (released part areas) ≡ None
      → least_free areas ≡ None
  none-before areas none = of (nat_lt (position_or_len is_none areas) (length areas)) refl
    where
      of : (within : Bool) → nat_lt (position_or_len is_none areas) (length areas) ≡ within
          → least_free areas ≡ None
      of false is = ap (λ (b : Bool). cond b (Some (position_or_len is_none areas)) None) is
      of true is =
          let found : nat_lt (position_or_len is_none (released part areas))
          (length (released part areas)) ≡ true =
          grind (arith, nat_tests, is, sooner areas, length-map areas (freed part)) in
          absurd (none-some _ (sym none ∙ ap (λ (b : Bool). cond b
          (Some (position_or_len is_none (released part areas))) None) found))

module _ (store : StoreNow) (part : PartNo) where
  -- the store then
  abbrev pub given-back : StoreNow
  given-back = record store { space = released part store.space }

  -- where it had none, as it was
  pub back-same : owned_count part store.space ≡ 0 → given-back ≡ store
  back-same none = ap (λ (space : List (Option PartNo)).
      let s : StoreNow = record store { space = space } in s) (freed-none part store.space none)

  -- it is set
  pub set-back : part_among store.parts part.0 ≡ None → (now : Seen) → IsSet store now
      → IsSet given-back now
  set-back fresh now set = record {
    allowed = set.allowed;
    blocks = set.blocks;
    sound = set.sound;
    parts = set.parts;
    apart = set.apart;
    changed = set.changed;
    idle = set.idle;
    kept = set.kept;
    areas = length-map store.space (freed part) ∙ set.areas;
    owns = All-weaker (λ (other : PartNow). IsPartSet now other × (other.number.0 ≢ part.0)
        × OwnsItsChain store.space other) (OwnsItsChain given-back.space)
        (λ other is. owned-other part (part_no other.shape)
        (λ same. is.1 (ap (λ (n : PartNo). n.0) (sym is.0.number) ∙ same)) store.space ∙ is.2)
        store.parts (all-others store part.0 now fresh set);
  }
