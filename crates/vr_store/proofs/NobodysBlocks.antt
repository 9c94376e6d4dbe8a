-- Blocks that were nobody's change, those of the area that a new part got: the store stays the
-- state's, and it is so with the area given to the part.
use Rattle.std.proofs.Common.{◌≡◌, ◌∙◌, ℕ, List, [], Option, Some, None, refl, sym, subst, arith}
use Rattle.std.specs.Prelude.{IfSome}
use Rattle.std.proofs.lemmas.List.Elements.{All-weaker}
use Rattle.vr_types.specs.Moments.{Guards}
use Rattle.vr_types.specs.Seen.{Left, Seen}
use Rattle.vr_types.specs.Space.{least_free}
use Rattle.vr_types.specs.declared.geometry.Geometry.{Geometry}
use Rattle.vr_types.specs.declared.unit.PartNo.{PartNo}
use Rattle.vr_space.specs.Owners.{Owners}
use Rattle.vr_space.specs.Part.{CanSet, HasKeptRoom, InPart, Shape, owned_count, part_no}
use Rattle.vr_space.proofs.CallerLemmas.{StaysPart, can-stays, due-stays, rest-sound}
use Rattle.vr_attach.specs.Owning.{IsPastLog, owner_of}
use Rattle.vr_attach.proofs.CallerLemmas.{owner-past-log}
use Rattle.vr_history.specs.State.{State}
use Rattle.vr_undo.specs.Records.{images_in}
use Rattle.vr_volume.specs.Crashes.{RecoversTo}
use Rattle.vr_volume.specs.Committed.{committed_by}
use Rattle.vr_volume.specs.Laid.{shape_by}
use Rattle.vr_volume.specs.PutBack.{images_of, lengths_kept}
use Rattle.vr_volume.specs.Rests.{IsVolumeAtRest}
use Rattle.vr_volume.specs.Safe.{IsSafe}
use Rattle.vr_volume.proofs.CallerLemmas.{beside-recovers, beside-rests, given-part, given-volume}
use Rattle.vr_volume.proofs.Calls.{safe-less}
use Rattle.vr_volume.proofs.Rested.{part-stays, volume-same}
use Rattle.vr_store.specs.Change.{IsSettable}
use Rattle.vr_store.specs.Define.{IsEntryReady, TouchesAreasOf}
use Rattle.vr_store.specs.Store.{IsRestedPart, IsStored, PartNow, StoreNow, blocks_of, owners_of}
use Rattle.vr_store.specs.Store.{part_among}
use Rattle.vr_store.proofs.AddedParts.{with-added}
use Rattle.vr_store.proofs.Among.{among-all, among-shape}
use Rattle.vr_store.proofs.NewAreas.{given, given-to, were-free}
use Rattle.vr_store.proofs.PutNothing.{stored-sound}

some-none : {X : Type 0} {x : X} → Some x ≡ None → ⊥
some-none same = cc

module _ (store : StoreNow) (part : PartNo) (area : ℕ) (least : least_free store.space ≡ Some area)
    (none : owned_count part store.space ≡ 0) (a b : Seen) (left : Left a a.cur)
    (call : TouchesAreasOf part store.log.geometry (given part store.space area least none) a b)
  where
    abbrev geometry : Geometry
    geometry = store.log.geometry

    abbrev owners : Owners
    owners = owners_of store

    -- the owners of the blocks, with those of the area
    abbrev grown : Owners
    grown = owner_of geometry (given part store.space area least none)

    past-log : IsPastLog geometry grown
    past-log = owner-past-log geometry (given part store.space area least none)

    -- a block of any part is none of them
    outside : (shape : Shape) (n : ℕ) → InPart shape owners n → grown n ≡ Some part.0 → ⊥
    outside shape n inside there = some-none (sym inside
        ∙ were-free part store.space area least none geometry n there)

    stays : (shape : Shape) → StaysPart shape owners a b
    stays shape = record {
      count = call.count_same;
      size = call.size_same;
      same = λ n inside. call.content n (outside shape n inside);
      fewer = λ n block below inside may. call.adds_none n block below (outside shape n inside) may;
    }

    module _ (number : ℕ) (state : State) (stored : IsStored number store state a)
        (fresh : part_among store.parts part.0 ≡ None) where
      -- the part isn't laid
      unlaid : shape_by geometry (state.contents 0) part.0 ≡ None
      unlaid = by_laid (shape_by geometry (state.contents 0) part.0) refl
        where
          by_laid : (laid : Option Shape) → shape_by geometry (state.contents 0) part.0 ≡ laid
              → laid ≡ None
          by_laid None is = refl
          by_laid (Some shape) is =
              let has = among-shape store.parts part.0 shape (stored.whole part.0 shape is) in
              absurd (some-none (sym has.found ∙ fresh))

      volume-given : IsVolumeAtRest geometry number grown store.log (images_in store.undo) state a
      volume-given = given-volume geometry number owners grown store.log (images_in store.undo) state
          a part.0 stored.volume (given-to part store.space area least none geometry) past-log

      volume-grown : IsVolumeAtRest geometry number grown store.log (images_in store.undo) state b
      volume-grown = beside-rests geometry number grown store.log (images_in store.undo) state part.0
          a b volume-given unlaid call

      -- Each image of each moment recovers to what is committed.
      pub guards-beside : Guards a b (RecoversTo geometry number state [])
      guards-beside = beside-recovers geometry number grown store.log (images_in store.undo) state
          part.0 a b volume-given unlaid call

      safe-beside : IsSafe geometry number owners store.log (committed_by state) b
      safe-beside = record {
        allowed = volume-grown.safe.allowed;
        past = stored.volume.safe.past;
        blocks = volume-grown.safe.blocks;
        shape = volume-grown.safe.shape;
        header = volume-grown.safe.header;
        logs = volume-grown.safe.logs;
        by_log = λ content is. record {
          committed = (stored.volume.safe.by_log content is).committed;
          parts = λ other shape laid. safe-less a b call.count_same call.size_same shape owners other
              (images_of content.records) (committed_by state content.records other)
              (λ n block below inside may. call.adds_none n block below (outside shape n inside) may)
              ((stored.volume.safe.by_log content is).parts other shape laid);
        };
      }

      rested-beside : (one : PartNow) → IsRestedPart store state a one
          → IsRestedPart store state b one
      rested-beside one rested = part-stays geometry owners (images_in store.undo)
          (images_in store.undo) state state one.shape one.known a b (stays one.shape) left rested
          refl refl refl (λ place free. free)

      -- The store is the state's as it was,
      pub stored-beside : IsStored number store state b
      stored-beside = record {
        volume = volume-same geometry number owners store.log (images_in store.undo) state a
            stored.volume b safe-beside volume-grown.stands;
        parts = All-weaker (IsRestedPart store state a) (IsRestedPart store state b) rested-beside
            store.parts stored.parts;
        whole = stored.whole;
        befores = stored.befores;
        logged = stored.logged;
        due = λ unit other place image shape found mine laid. due-stays shape owners a b (stays shape)
            (stored-sound number store state a stored other shape laid) left
            (blocks_of unit store.changed) place
            (stored.due unit other place image shape found mine laid)
            (λ n there. absurd (omega (arith, there.1)));
      }

      -- and with the area given to the part.
      pub stored-given : IsStored number
          (record store { space = given part store.space area least none }) state b
      stored-given = record {
        volume = volume-grown;
        parts = All-weaker (IsRestedPart store state b)
            (IsRestedPart (record store { space = given part store.space area least none }) state b)
            (λ one rested. given-part geometry owners grown (images_in store.undo) state one.shape
            one.known b part.0 rested (given-to part store.space area least none geometry))
            store.parts stored-beside.parts;
        whole = stored.whole;
        befores = stored.befores;
        logged = stored.logged;
        due = stored-beside.due;
      }

      -- The catalog may be given a record that it could be given, with one part more beside it.
      pub ready-beside : (added : PartNow) (place bytes : List ℕ) (catalog : PartNow)
          → part_among store.parts 0 ≡ Some catalog → (part_no catalog.shape).0 ≡ 0
          → IsSettable store a.cur 0 place (Some bytes)
          → IsEntryReady (record store {
            parts = with-added added store.parts;
            space = given part store.space area least none;
          }) place bytes b catalog
      ready-beside added place bytes catalog found zero can =
          let before = among-all (IsRestedPart store state a) store.parts 0 catalog stored.parts found
          in
          let rested = rested-beside catalog before in
          record {
            log = volume-grown.stands;
            rests = (owners, stored.volume.safe.past, rested.rests, rested.claimed);
            room = subst (λ (n : ℕ). HasKeptRoom catalog.shape
                (lengths_kept (images_in store.undo) n) b) zero rested.room;
            knows = rested.knows;
            can = can-stays a b catalog.shape owners catalog.known
                (lengths_kept (images_in store.undo) 0) place (Some bytes) (stays catalog.shape)
                (rest-sound catalog.shape owners a before.rests) left
                (subst (λ (one : Option PartNow). IfSome one (λ (p : PartNow). CanSet p.shape p.known
                a.cur (lengths_kept (images_in store.undo) 0) place (Some bytes))) found can);
          }
