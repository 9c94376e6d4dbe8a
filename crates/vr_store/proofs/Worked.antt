-- What a call that works on one part leaves of a store.
use Rattle.std.proofs.Common.{◌≡◌, ◌≢◌, ℕ, Bool, true, false, List, [], ◌∷◌, Option, Some}
use Rattle.std.proofs.Common.{refl}
use Rattle.std.proofs.Common.{sym, ap, subst, ◌∙◌, arith, map, nat_eq, ◌==◌, IsTrue}
use Rattle.std.specs.Prelude.{All}
use Rattle.std.specs.List.{IsDistinct}
use Rattle.std.proofs.lemmas.Bool.{true≢false}
use Rattle.std.proofs.lemmas.Bool.Decides.{Decides-eqb}
use Rattle.std.proofs.lemmas.List.Elements.{All-cons, All-head, All-nil, All-tail}
use Rattle.vr_types.specs.Blocks.{Keeps}
use Rattle.vr_types.specs.Seen.{Left, Seen}
use Rattle.vr_types.specs.declared.geometry.Geometry.{Geometry}
use Rattle.vr_types.specs.declared.unit.PartNo.{PartNo}
use Rattle.vr_space.specs.Known.{Known}
use Rattle.vr_space.specs.Owners.{Owners}
use Rattle.vr_space.specs.Part.{DueMore, IsOn, KeepsChain, Knows, OwnsChain, Shape, held_by}
use Rattle.vr_space.specs.Part.{part_no}
use Rattle.vr_space.proofs.CallerLemmas.{due-keeps, owns-same, rest-sound}
use Rattle.vr_history.specs.State.{BeforeImage, State}
use Rattle.vr_undo.specs.Records.{befores_of, images_in}
use Rattle.vr_volume.specs.Rests.{IsPartAtRest, IsVolumeAtRest}
use Rattle.vr_volume.proofs.Rested.{part-keeps, volume-keeps}
use Rattle.vr_store.specs.Parts.{but_split}
use Rattle.vr_store.specs.Store.{IsPartSet, IsRestedPart, IsSet, IsStored, OwnsItsChain, PartNow}
use Rattle.vr_store.specs.Store.{StoreNow, blocks_of, owners_of, part_among}
use Rattle.vr_store.proofs.Among.{HasShape, among-all, among-number, among-shape}
use Rattle.vr_store.proofs.Claims.{chain-same, count-kept, owns-mine, owns-other}
use Rattle.vr_store.proofs.Fits.{fits-parts}
use Rattle.vr_store.proofs.PutNothing.{set-still}
use Rattle.vr_store.proofs.PartsAt.{IsPartAt}
use Rattle.vr_store.proofs.PlacedParts.{all-with, map-with, shapes-same}

pub all-both : {X : Type 0} (P Q : X → Type 0) (xs : List X) → All P xs → All Q xs
    → All (λ x. P x × Q x) xs
all-both P Q [] one other = All-nil (λ x. P x × Q x)
all-both P Q (x ∷ xs) one other = All-cons (λ x. P x × Q x) x xs
    (All-head P x xs one, All-head Q x xs other)
    (all-both P Q xs (All-tail P x xs one) (All-tail Q x xs other))

module _ (store : StoreNow) (number : ℕ) (before after : PartNow) (new : List PartNow)
    (space : List (Option PartNo)) (at : IsPartAt number before after store.parts new)
    (same : but_split after ≡ but_split before) where
  -- the store with the part as the call left it
  abbrev pub worked : StoreNow
  worked = record store { parts = new; space = space }

  same-number : after.number ≡ before.number
  same-number = ap (λ (part : PartNow). part.number) same

  same-shape : after.shape ≡ before.shape
  same-shape = ap (λ (part : PartNow). part.shape) same

  same-parts : map but_split new ≡ map but_split store.parts
  same-parts = ap (map but_split) at.is
      ∙ map-with but_split number before after same store.parts at.found

  -- the areas that the part holds, and held
  abbrev held : List ℕ
  held = held_by before.shape before.known

  abbrev held-after : List ℕ
  held-after = held_by before.shape after.known

  -- it is set, where the areas that the part holds go with those that it owns,
  pub set-worked : (a b : Seen) → b.count ≡ a.count → b.size ≡ a.size
      → KeepsChain before.shape held held-after store.space space → IsSet store a → IsSet worked b
  set-worked a b count size chain before-set =
      let set = set-still store a b count size before-set in
      let mine : IsPartSet b before =
      among-all (IsPartSet b) store.parts number before set.parts at.found in
      record {
        allowed = set.allowed;
        blocks = set.blocks;
        sound = set.sound;
        parts = subst (All (IsPartSet b)) (sym at.is)
            (all-with (IsPartSet b) (IsPartSet b) number after
            (λ part apart is. is)
            (record {
              number = ap part_no same-shape ∙ mine.number ∙ sym same-number;
              on = subst (λ (shape : Shape). IsOn shape b)
                  (sym same-shape) mine.on;
            }) store.parts set.apart set.parts);
        apart = subst (IsDistinct nat_eq)
            (sym (ap (map (λ (part : PartNow). part.number.0)) at.is
            ∙ map-with (λ (part : PartNow). part.number.0) number before after
            (ap (λ (n : PartNo). n.0) same-number) store.parts at.found)) set.apart;
        changed = set.changed;
        idle = set.idle;
        kept = fits-parts new store.parts same-parts (befores_of store.undo) set.kept;
        areas = count-kept before.shape held held-after store.space space chain ∙ set.areas;
        owns = subst (All (OwnsItsChain space)) (sym at.is)
            (all-with (λ (part : PartNow). IsPartSet b part × OwnsItsChain store.space part)
            (OwnsItsChain space) number after
            (λ part apart both. owns-other before.shape held held-after store.space space chain
            part.shape part.known
            (λ same. apart (ap (λ (n : PartNo). n.0) (sym both.0.number) ∙ same
            ∙ ap (λ (n : PartNo). n.0) mine.number
            ∙ among-number store.parts number before at.found)) both.1)
            (subst (λ (shape : Shape). OwnsChain shape after.known space) (sym same-shape)
            (owns-mine before.shape before.known after.known store.space space chain
            (among-all (OwnsItsChain store.space) store.parts number before set.owns at.found)))
            store.parts set.apart
            (all-both (IsPartSet b) (OwnsItsChain store.space) store.parts set.parts set.owns));
      }

  -- so where the call claimed nothing,
  pub set-unclaimed : (a b : Seen) → b.count ≡ a.count → b.size ≡ a.size
      → held-after ≡ held → space ≡ store.space → IsSet store a → IsSet worked b
  set-unclaimed a b count size kept same = set-worked a b count size
      (chain-same before.shape held held-after store.space space kept same)

  module _ (volume : ℕ) (state : State) (a b : Seen) (set : IsSet store a)
      (stored : IsStored volume store state a) where
    set-of : (part : PartNow) → part_among store.parts part.number.0 ≡ Some part
        → part_no part.shape ≡ part.number
    set-of part found = (among-all (IsPartSet a) store.parts part.number.0 part set.parts
        found).number

    numbered : (part_no before.shape).0 ≡ number
    numbered = ap (λ (n : PartNo). n.0)
        (among-all (IsPartSet a) store.parts number before set.parts at.found).number
        ∙ among-number store.parts number before at.found

    -- and the state's.
    pub stored-worked : IsVolumeAtRest store.log.geometry volume (owners_of worked) store.log
        (images_in store.undo) state b → IsRestedPart worked state b after
        → ((other : PartNow) → (part_no other.shape).0 ≢ (part_no before.shape).0
        → IsRestedPart store state a other → IsRestedPart worked state b other)
        → DueMore before.shape [] a b
        → ((other : PartNow) → (part_no other.shape).0 ≢ (part_no before.shape).0
        → IsRestedPart store state a other → DueMore other.shape [] a b)
        → IsStored volume worked state b
    stored-worked rest mine others due-mine due-others = record {
      volume = rest;
      parts = subst (All (IsRestedPart worked state b)) (sym at.is)
          (all-with
          (λ (part : PartNow). IsPartSet a part × IsRestedPart store state a part)
          (IsRestedPart worked state b) number after
          (λ part apart both. others part
          (λ same. apart (ap (λ (n : PartNo). n.0) (sym both.0.number) ∙ same ∙ numbered))
          both.1) mine store.parts set.apart
          (all-both (IsPartSet a) (IsRestedPart store state a) store.parts set.parts
          stored.parts));
      whole = λ part shape laid. shapes-same new store.parts same-parts part
          ∙ stored.whole part shape laid;
      befores = stored.befores;
      logged = stored.logged;
      due = λ unit part place image shape found is laid.
          due-at part shape (among-shape store.parts part shape (stored.whole part shape laid))
          (part == number) refl (blocks_of unit store.changed) place
          (stored.due unit part place image shape found is laid)
          (λ n there. absurd (omega (arith, there.1)));
    }
      where
        due-at : (part : ℕ) (shape : Shape) (has : HasShape store.parts part shape) (test : Bool)
            → (part == number) ≡ test → DueMore shape [] a b
        due-at part shape has true is =
            subst (λ (s : Shape). DueMore s [] a b)
            (ap (λ (p : PartNow). p.shape) one ∙ has.is) due-mine
          where
            some-same : {X : Type 0} {x y : X} → Some x ≡ Some y → x ≡ y
            some-same same = cc

            one : before ≡ has.part
            one = some-same (sym at.found
                ∙ ap (part_among store.parts) (sym ((Decides-eqb part number).0 is)) ∙ has.found)
        due-at part shape has false is =
            subst (λ (s : Shape). DueMore s [] a b) has.is
            (due-others has.part
            (λ same. true≢false (sym ((Decides-eqb part number).1
            (sym (theirs has) ∙ same ∙ numbered)) ∙ is))
            (among-all (IsRestedPart store state a) store.parts part has.part stored.parts
            has.found))
          where
            theirs : (has : HasShape store.parts part shape)
                → (part_no has.part.shape).0 ≡ part
            theirs has = ap (λ (n : PartNo). n.0)
                (among-all (IsPartSet a) store.parts part has.part set.parts
                has.found).number
                ∙ among-number store.parts part has.part has.found

-- ---- a call that puts nothing

-- a part at rest is so with what it met since, while the same split of an area is under way
pub rested-met : (geometry : Geometry) (owners : Owners) (images : List BeforeImage)
    (state : State) (shape same : Shape) (known now : Known) (b : Seen) → same ≡ shape
    → now.move ≡ known.move → IsPartAtRest geometry owners images state shape known b
    → Knows shape now b → IsPartAtRest geometry owners images state same now b
rested-met geometry owners images state shape same known now b shapes moves part knows =
    subst (λ (s : Shape). IsPartAtRest geometry owners images state s now b) (sym shapes)
    (record {
      laid = part.laid;
      on = part.on;
      rests = part.rests;
      claimed = owns-same shape owners known now moves part.claimed;
      room = part.room;
      knows = knows;
      reads = part.reads;
      firm = part.firm;
    })

module _ (tells : Bool) (told : IsTrue tells) (a b : Seen) (call : Keeps tells a b)
    (left : Left a a.cur) (store : StoreNow) (number : ℕ) (before after : PartNow)
    (new : List PartNow) (at : IsPartAt number before after store.parts new)
    (same : but_split after ≡ but_split before) (moves : after.known.move ≡ before.known.move) where
  pub stored-met : (volume : ℕ) (state : State) → IsSet store a → IsStored volume store state a
      → Knows before.shape after.known b → IsStored volume (record store { parts = new }) state b
  stored-met volume state set stored knows =
      stored-worked store number before after new store.space at same volume state a b set stored
      (volume-keeps tells told a b call store.log.geometry volume (owners_of store) store.log
      (images_in store.undo) state stored.volume)
      (rested-met store.log.geometry (owners_of store) (images_in store.undo) state before.shape
      after.shape before.known after.known b (ap (λ (part : PartNow). part.shape) same) moves
      (kept before mine) knows)
      (λ other apart rested. kept other rested)
      (due-keeps tells told before.shape (owners_of store) a b call
      (rest-sound before.shape (owners_of store) a mine.rests))
      (λ other apart rested. due-keeps tells told other.shape (owners_of store) a b call
      (rest-sound other.shape (owners_of store) a rested.rests))
    where
      mine : IsRestedPart store state a before
      mine = among-all (IsRestedPart store state a) store.parts number before stored.parts at.found

      kept : (part : PartNow) → IsRestedPart store state a part → IsRestedPart store state b part
      kept part rested = part-keeps tells told a b call store.log.geometry (owners_of store)
          (images_in store.undo) state part.shape part.known left rested
