-- A store of which something more is kept, or other blocks are changed.
use Rattle.std.proofs.Common.{◌≡◌, ◌<◌, ◌&&◌, ℕ, Bool, true, false, not, List, refl, sym, ap, subst}
use Rattle.std.proofs.Common.{◌∙◌}
use Rattle.std.specs.Prelude.{All, IfErr, OnErr, Result, Ok, Err}
use Rattle.std.specs.Result.{IsErrAnd}
use Rattle.vr_types.specs.Seen.{Seen}
use Rattle.vr_types.specs.declared.unit.PartNo.{PartNo}
use Rattle.vr_types.specs.declared.unit.Unit.{Unit as UnitOfRecovery}
use Rattle.vr_history.specs.State.{State}
use Rattle.vr_undo.specs.Records.{befores_of, is_record_at, with_record, without_last_by}
use Rattle.vr_undo.specs.declared.before.Before.{Before}
use Rattle.vr_undo.specs.declared.record.KeptRecord.{KeptRecord}
use Rattle.vr_undo.proofs.Stating.{as-before}
use Rattle.vr_volume.specs.Due.{IsDueFor}
use Rattle.vr_store.specs.Change.{IsKeptFor, IsPrepared, has_kept, has_logged, with_kept}
use Rattle.vr_store.specs.Store.{ChangedBy, IsFitImage, IsSet, IsStored, StoreNow, blocks_of}
use Rattle.vr_store.specs.declared.prepared.Prepared.{Prepared}

pub on-err : {X E : Type 0} {A : Type 0} (result : Result X E) → A → OnErr result A
on-err (Ok x) a = tt
on-err (Err e) a = a

-- what is handed on is the error that came
pub err-as : {T E : Type 0} (result : Result T E) (fault : E) (P : E → Type 0)
    → IsErrAnd result (λ given. given ≡ fault) → P fault → IfErr result P
err-as (Ok value) fault P is holds = tt
err-as (Err given) fault P is holds = subst P (sym is) holds

module _ (store : StoreNow) (now : Seen) (changed : List ChangedBy)
    (same : (unit : UnitOfRecovery) → blocks_of unit changed ≡ blocks_of unit store.changed) where
  -- where the blocks that each unit changed are those that they were
  pub stored-changed : (volume : ℕ) (state : State) → IsStored volume store state now
      → IsStored volume (record store { changed = changed }) state now
  stored-changed volume state stored = record {
    volume = stored.volume;
    parts = stored.parts;
    whole = stored.whole;
    befores = stored.befores;
    logged = stored.logged;
    due = λ unit. subst (λ (blocks : List ℕ).
        IsDueFor store.log.geometry store.log state unit blocks now) (sym (same unit))
        (stored.due unit);
  }

  pub stored-unkept : (volume : ℕ) (state : State) (undo : List KeptRecord) → undo ≡ store.undo
      → IsStored volume store state now
      → IsStored volume (record store { undo = undo; changed = changed }) state now
  stored-unkept volume state undo is stored =
      subst (λ (kept : List KeptRecord).
      IsStored volume (record store { undo = kept; changed = changed }) state now) (sym is)
      (stored-changed volume state stored)

  -- and a before-image is kept
  pub kept-changed : (volume : ℕ) (state : State) (unit : UnitOfRecovery) (before : Before)
      (undo : List KeptRecord) → undo ≡ with_kept unit before store.undo
      → IsStored volume store state now
      → IsKeptFor volume (record store { undo = undo; changed = changed }) unit before state now
  kept-changed volume state unit before undo is stored = record {
    old = store.undo;
    stored = stored-changed volume state stored;
    kept = is;
  }

pub set-changed : (store : StoreNow) (now : Seen) (changed : List ChangedBy)
    (undo : List KeptRecord)
    → ((count : ℕ) → All (λ (by : ChangedBy). All (λ n. n < count) by.blocks) store.changed
    → All (λ (by : ChangedBy). All (λ n. n < count) by.blocks) changed)
    → All (IsFitImage store.parts) (befores_of undo)
    → IsSet store now → IsSet (record store { undo = undo; changed = changed }) now
set-changed store now changed undo each kept set = record {
  allowed = set.allowed;
  blocks = set.blocks;
  sound = set.sound;
  parts = set.parts;
  apart = set.apart;
  changed = each now.count set.changed;
  idle = set.idle;
  kept = kept;
  areas = set.areas;
  owns = set.owns;
}

-- where other blocks are changed
pub set-listed : (store : StoreNow) (now : Seen) (changed : List ChangedBy)
    → All (λ (by : ChangedBy). All (λ n. n < now.count) by.blocks) changed
    → IsSet store now → IsSet (record store { changed = changed }) now
set-listed store now changed each set = record {
  allowed = set.allowed;
  blocks = set.blocks;
  sound = set.sound;
  parts = set.parts;
  apart = set.apart;
  changed = each;
  idle = set.idle;
  kept = set.kept;
  areas = set.areas;
  owns = set.owns;
}

-- what is kept, taken back where anything was new
pub taken-back : (prepared : Prepared) (unit : UnitOfRecovery) (before : Before)
    (old : List KeptRecord) → IsPrepared prepared unit before old → prepared.first ≡ true
    → without_last_by (is_record_at unit before.part.0 before.place) (with_kept unit before old)
    ≡ old
taken-back prepared unit before old is first =
    as-before unit before (has_logged unit before old) (has_kept unit before old) old
    (not-both (has_logged unit before old && has_kept unit before old) (sym is.first ∙ first))
  where
    not-both : (both : Bool) → not both ≡ true → both ≡ false
    not-both false is = refl
    not-both true is = absurd cc

-- and nothing to take back where nothing was
pub nothing-new : (prepared : Prepared) (unit : UnitOfRecovery) (before : Before)
    (old : List KeptRecord) → IsPrepared prepared unit before old → prepared.first ≡ false
    → with_kept unit before old ≡ old
nothing-new prepared unit before old is first =
    by_both (has_logged unit before old) (has_kept unit before old) (sym is.first ∙ first)
  where
    by_both : (logged kept : Bool) → not (logged && kept) ≡ false
        → with_record unit before logged kept old ≡ old
    by_both true true is = refl
    by_both true false is = absurd cc
    by_both false kept is = absurd cc

pub undo-back : (prepared : Prepared) (unit : UnitOfRecovery) (part : PartNo) (place : List ℕ)
    (before : Before) (old undo : List KeptRecord) → before.part ≡ part → before.place ≡ place
    → IsPrepared prepared unit before old → prepared.first ≡ true
    → undo ≡ with_kept unit before old
    → without_last_by (is_record_at unit part.0 place) undo ≡ old
undo-back prepared unit part place before old undo here there is first kept =
    ap (λ (p : PartNo). without_last_by (is_record_at unit p.0 place) undo) (sym here)
    ∙ ap (λ (q : List ℕ). without_last_by (is_record_at unit before.part.0 q) undo) (sym there)
    ∙ ap (without_last_by (is_record_at unit before.part.0 before.place)) kept
    ∙ taken-back prepared unit before old is first

-- the store is then the state's again
pub stored-back : (volume : ℕ) (store : StoreNow) (unit : UnitOfRecovery) (before : Before)
    (state : State) (now : Seen) (undo : List KeptRecord)
    → (kept : IsKeptFor volume store unit before state now) → undo ≡ kept.old
    → IsStored volume (record store { undo = undo }) state now
stored-back volume store unit before state now undo kept is =
    subst (λ (old : List KeptRecord). IsStored volume (record store { undo = old }) state now)
    (sym is) kept.stored
