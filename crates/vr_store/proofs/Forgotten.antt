-- What is left of a store whose part forgot what it met: all that it was.
use Rattle.std.proofs.Common.{◌≡◌, ◌≢◌, ◌⊎◌, ⊎_elim, ℕ, Bool, true, false, cond, List, [], ◌∷◌}
use Rattle.std.proofs.Common.{Option, Some, None, refl, sym, ap, subst, ◌∙◌, map}
use Rattle.std.specs.Prelude.{All, IfSome}
use Rattle.std.proofs.lemmas.List.Elements.{All-cons, All-head, All-nil, All-tail}
use Rattle.vr_types.specs.Seen.{Seen}
use Rattle.vr_types.specs.declared.unit.PartNo.{PartNo}
use Rattle.vr_space.specs.Known.{Known}
use Rattle.vr_space.specs.Met.{IsChainMet, Met}
use Rattle.vr_space.specs.Numbered.{IsIntervalMet}
use Rattle.vr_space.specs.Part.{Knows, KeyedShape, NumberedShape, Shape}
use Rattle.vr_space.proofs.CallerLemmas.{held-same}
use Rattle.vr_history.specs.State.{State}
use Rattle.vr_undo.specs.Records.{images_in}
use Rattle.vr_store.specs.Parts.{Forgets, ForgetsAt, OnlyMet, but_met, but_split, with_part}
use Rattle.vr_store.specs.Store.{IsRestedPart, IsSet, IsStored, PartNow, StoreNow, has_number}
use Rattle.vr_store.specs.Store.{owners_of, part_among}
use Rattle.vr_store.proofs.Among.{among-all}
use Rattle.vr_store.proofs.PartsAt.{IsPartAt, only-met, part-of, part-split, same-met}
use Rattle.vr_store.proofs.PlacedParts.{map-with, shapes-same}
use Rattle.vr_store.proofs.Worked.{rested-met, set-unclaimed}

-- what was met is as it was, or there is none
all-left : (P : Met → Type 0) (old new : List Met) → new ≡ old ⊎ new ≡ [] → All P old
    → All P new
all-left P old new is all = ⊎_elim
    (λ same. subst (All P) (sym same) all)
    (λ none. subst (All P) (sym none) (All-nil P))
    is

-- so the blocks are as the part knows them still
knows-left : (shape : Shape) (known : Known) (met : List Met) (most : ℕ) (now : Seen)
    → met ≡ known.met ⊎ met ≡ [] → Knows shape known now
    → Knows shape (record known { met = met; most = most }) now
knows-left (KeyedShape part) known met most now is knows = record {
  way = knows.way;
  blocks = (
    knows.blocks.0,
    all-left (IsChainMet part now.cur) known.met met is knows.blocks.1,
    knows.blocks.2,
  );
}
knows-left (NumberedShape part) known met most now is knows = record {
  way = knows.way;
  blocks = record {
    chain = record { areas = knows.blocks.chain.areas; used = knows.blocks.chain.used };
    tail = knows.blocks.tail;
    met = all-left (IsIntervalMet part now.cur) known.met met is knows.blocks.met;
  };
}

-- what holds of each part and of the new one holds of each once that one is in its place
all-put : (P : PartNow → Type 0) (number : ℕ) (after : PartNow) → P after
    → (parts : List PartNow) → All P parts → All P (with_part number after parts)
all-put P number after mine [] all = All-nil P
all-put P number after mine (one ∷ parts) all = by_test (has_number number one)
    (all-put P number after mine parts (All-tail P one parts all))
  where
    by_test : (test : Bool) → All P (with_part number after parts)
        → All P (cond test (after ∷ parts) (one ∷ with_part number after parts))
    by_test true further = All-cons P after parts mine (All-tail P one parts all)
    by_test false further =
        All-cons P one (with_part number after parts) (All-head P one parts all) further

-- The store with a part that forgot what it met is set and stored as it was.
pub record IsForgotten (store : StoreNow) (number : ℕ) (new : List PartNow) (now : Seen) : Type 0
  where
    pub set : IsSet store now → IsSet (record store { parts = new }) now
    pub stored : (volume : ℕ) (state : State) → IsStored volume store state now
        → IsStored volume (record store { parts = new }) state now
    pub only : OnlyMet number store.parts new

module _ (store : StoreNow) (number : ℕ) (before after : PartNow) (new : List PartNow)
    (at : IsPartAt number before after store.parts new) (forgets : Forgets before after) where
  moves : after.known.move ≡ before.known.move
  moves = ap (λ (known : Known). known.move) forgets.known

  areas : after.known.areas ≡ before.known.areas
  areas = ap (λ (known : Known). known.areas) forgets.known

  same : but_split after ≡ but_split before
  same = ap (λ (n : PartNo). part-split n after.shape None) forgets.number
      ∙ ap (λ (s : Shape). part-split before.number s None) forgets.shape

  met : but_met after ≡ but_met before
  met = ap (λ (n : PartNo). but_met (part-of n after.shape after.known)) forgets.number
      ∙ same-met before.number before.shape after.shape before.known after.known forgets.shape
      (ap (λ (known : Known). known.split) forgets.known) moves areas
      (ap (λ (known : Known). known.used) forgets.known)

  stays : (volume : ℕ) (state : State) (now : Seen) → IsStored volume store state now
      → IsStored volume (record store { parts = new }) state now
  stays volume state now stored = record {
    volume = stored.volume;
    parts = subst (All (IsRestedPart store state now)) (sym at.is)
        (all-put (IsRestedPart store state now) number after mine store.parts stored.parts);
    whole = λ part shape laid. shapes-same new store.parts
        (ap (map but_split) at.is
        ∙ map-with but_split number before after same store.parts at.found) part
        ∙ stored.whole part shape laid;
    befores = stored.befores;
    logged = stored.logged;
    due = stored.due;
  }
    where
      rested : IsRestedPart store state now before
      rested = among-all (IsRestedPart store state now) store.parts number before stored.parts
          at.found

      mine : IsRestedPart store state now after
      mine = rested-met store.log.geometry (owners_of store) (images_in store.undo) state
          before.shape after.shape before.known after.known now forgets.shape moves rested
          (subst (λ (known : Known). Knows before.shape known now) (sym forgets.known)
          (knows-left before.shape before.known after.known.met after.known.most now forgets.met
          rested.knows))

  part-forgotten : (now : Seen) → IsForgotten store number new now
  part-forgotten now = record {
    set = λ set. set-unclaimed store number before after new store.space at same now now refl
        refl (held-same before.shape before.known after.known areas moves) refl set;
    stored = λ volume state stored. stays volume state now stored;
    only = only-met number before after store.parts new at forgets.number met;
  }

pub forgotten : (store : StoreNow) (number : ℕ) (new : List PartNow) (now : Seen)
    → part_among store.parts number ≢ None → ForgetsAt number store.parts new
    → IsForgotten store number new now
forgotten store number new now laid is = by (part_among store.parts number) refl laid is
  where
    by : (found : Option PartNow) → part_among store.parts number ≡ found → found ≢ None
        → IfSome found (λ (before : PartNow).
        (after : PartNow) × Forgets before after × (new ≡ with_part number after store.parts))
        → IsForgotten store number new now
    by None none some one = absurd (some refl)
    by (Some before) found some one = part-forgotten store number before one.0 new
        (record { found = found; is = one.2 }) one.1 now
