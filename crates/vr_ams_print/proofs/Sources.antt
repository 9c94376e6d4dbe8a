-- The data set that is read: where it is, and what its volume is asked.
use Rattle.std.proofs.Common.{◌≡◌, ◌∙◌, ◌<◌, ℕ, Bool, true, false, List, length, map, Option, Some}
use Rattle.std.proofs.Common.{None, Result, Ok, Err, IfOk, IsErr, refl, sym, ap, subst, get_or}
use Rattle.std.proofs.Common.{arith, slice_get}
use Rattle.std.specs.Prelude.{Contains, slice_set}
use Rattle.std.specs.Option.{option_map}
use Rattle.std.proofs.Math.Seq.{map-set_same}
use Rattle.std.proofs.lemmas.List.{length-map}
use Rattle.std.proofs.lemmas.Option.{same_Some, slice_get-get_or, slice_get-map, slice_get_within}
use Rattle.vr_types.specs.declared.unit.Kind.{Kind}
use Rattle.vr_catalog.specs.declared.entry.CatEntry.{CatEntry}
use Rattle.vr_catalog.specs.declared.entry.EntryKind.{EntryKind}
use Rattle.vr_catalog.specs.declared.entry.EntryKind.TheVariants.{Cluster, Alternate, Path}
use Rattle.vr_trace.specs.Shown.{Shown}
use Rattle.vr_trace.specs.declared.command.Failure.{Failure}
use Rattle.vr_trace.specs.declared.no.RunNo.{RunNo}
use Rattle.vr_ams_define.specs.Altered.{entry_at}
use Rattle.vr_ams_define.specs.Answers.{Answering, Exchange, HasRead, IsShownCounted}
use Rattle.vr_ams_define.specs.Answers.{IsShownRead}
use Rattle.vr_ams_define.specs.Answers.Exchange.{Reading}
use Rattle.vr_ams_define.specs.Failures.{failure_if}
use Rattle.vr_ams_define.specs.declared.answer.Counted.{Counted}
use Rattle.vr_ams_define.specs.declared.answer.Counted.TheVariants as counts
use Rattle.vr_ams_define.specs.declared.answer.ReadBack.{ReadBack}
use Rattle.vr_ams_define.specs.declared.answer.ReadBack.TheVariants as reads
use Rattle.vr_ams_define.proofs.Named.{first-named}
use Rattle.vr_ams_print.specs.Outcomes.{IsAsked}
use Rattle.vr_ams_print.specs.Sources.{kind_of, kind_of_found, kind_read}
use Rattle.vr_ams_print.specs.Sources.{unless}
use Rattle.vr_ams_print.specs.Steps.{HasHandedOver, IsAskedAt, IsCountedStill, IsShownStill}
use Rattle.vr_ams_print.specs.Steps.{IsSource, IsThere}
use Rattle.vr_ams_print.specs.declared.source.FoundCluster.{FoundCluster}

-- ---- a data set that is read is there

going-on : (stopped : Bool) (failure : Failure) (rest : Result Kind Failure) (kind : Kind)
    → unless (failure_if stopped failure) rest ≡ Ok kind → (stopped ≡ false) × (rest ≡ Ok kind)
going-on true failure rest kind is = absurd (cc)
going-on false failure rest kind is = (refl, is)

cluster-is : (keyed : Bool) (what : EntryKind) (has : Option Kind) (kind : Kind)
    → kind_read keyed (kind_of what has) ≡ Ok kind → what ≡ Cluster
cluster-is keyed Cluster has kind is = refl
cluster-is keyed Alternate has kind is = absurd (cc)
cluster-is keyed Path has kind is = absurd (cc)

-- its volume is there, and hasn't stopped, and it is a cluster's
pub there-of : (keyed : Bool) (volumes : List Shown) (name : List ℕ) (source : FoundCluster)
    → IsSource keyed volumes name source → IsThere volumes source
there-of keyed volumes name source found =
    by (slice_get volumes source.place) refl found.entry_is kind-found
  where
    kind-found : kind_of_found keyed (slice_get volumes source.place) (Some source.entry)
        ≡ Ok source.kind
    kind-found = rw (found.place_is, found.entry_is) at found.kind_is

    by : (volume : Option Shown) → slice_get volumes source.place ≡ volume
        → entry_at volumes source.place name ≡ Some source.entry
        → kind_of_found keyed volume (Some source.entry) ≡ Ok source.kind
        → IsThere volumes source
    by None at entry_is kind_is = absurd (cc)
    by (Some volume) at entry_is kind_is =
        let both = going-on volume.stopped _ _ _ kind_is in record {
          volume = volume;
          volume_is = at;
          going = both.0;
          has = (first-named volume.catalog name source.entry (rw at at entry_is)).0;
          cluster = cluster-is keyed source.entry.entry_kind source.entry.kind source.kind both.1;
        }

-- ---- its volume

module _ {V : Type 0} (shown : V → Shown) (volumes : List V) (source : FoundCluster)
    (there : IsThere (map shown volumes) source) where
  pub within : source.place < length volumes
  within = omega (
    arith,
    slice_get_within (map shown volumes) source.place there.volume there.volume_is,
    length-map volumes shown,
  )

  module _ (spare : V) where
    abbrev One : V
    One = get_or volumes source.place spare

    shows : there.volume ≡ shown One
    shows = same_Some there.volume (shown One) (sym there.volume_is
        ∙ slice_get-map shown volumes source.place
        ∙ ap (option_map shown) (slice_get-get_or volumes source.place spare within))

    pub going-there : (shown One).stopped ≡ false
    going-there = subst (λ (one : Shown). one.stopped ≡ false) shows there.going

    pub has-there : Contains (shown One).catalog source.entry
    has-there = subst (λ (one : Shown). Contains one.catalog source.entry) shows there.has

    -- it was asked
    pub asked-there : (answers : Answering V) (line : ℕ) (exchange : Exchange) (new : V)
        → answers One line exchange new
        → IsAskedAt answers line source exchange volumes (slice_set volumes source.place new)
    asked-there answers line exchange new answered = record {
      before = One;
      before_is = slice_get-get_or volumes source.place spare within;
      after = new;
      answered = answered;
      others = refl;
    }

    pub asked-so : {A : Type 0} (answers : Answering V) (line : ℕ) (exchange : A → Exchange)
        (new : V) (result : Result A RunNo)
        → IfOk result (λ answer. answers One line (exchange answer) new)
        → IfOk result (λ answer. IsAskedAt answers line source (exchange answer) volumes
        (slice_set volumes source.place new))
    asked-so answers line exchange new (Ok answer) answered =
        asked-there answers line (exchange answer) new answered
    asked-so answers line exchange new (Err why) answered = tt

    -- it handed its records over
    pub handed-so : {R : Type 0} (answers : Answering V) (next : R → List ℕ → List ℕ → R)
        (done : R → Bool) (line : ℕ) (from : Option (List ℕ)) (before left : R) (new : V)
        (result : Result ReadBack RunNo)
        → IfOk result (HasRead answers next done line source.entry from One new before left)
        → IfOk result (HasHandedOver answers next done line source from before left volumes
        (slice_set volumes source.place new))
    handed-so answers next done line from before left new (Ok answer) read = record {
      records = read.records;
      asked = asked-there answers line (Reading source.entry from read.records answer) new
          read.answered;
      visited = read.visited;
    }
    handed-so answers next done line from before left new (Err why) read = tt

    -- what the volumes show then
    module _ (new : V) where
      abbrev are : List Shown
      are = map shown (slice_set volumes source.place new)

      pub still-read : (result : Result ReadBack RunNo)
          → IfOk result (λ answer. IsShownRead answer (shown One) (shown new))
          → (IsErr result → shown new ≡ shown One)
          → IsShownStill result (map shown volumes) are
      still-read (Ok reads.Done) showed failed =
          map-set_same shown volumes source.place new spare showed
      still-read (Ok (reads.Fault fault)) showed failed = tt
      still-read (Err why) showed failed =
          map-set_same shown volumes source.place new spare (failed refl)

      pub still-counted : (result : Result Counted RunNo)
          → IfOk result (λ answer. IsShownCounted answer (shown One) (shown new))
          → (IsErr result → shown new ≡ shown One)
          → IsCountedStill result (map shown volumes) are
      still-counted (Ok (counts.Done numbers)) showed failed =
          map-set_same shown volumes source.place new spare showed
      still-counted (Ok (counts.Fault fault)) showed failed = tt
      still-counted (Err why) showed failed =
          map-set_same shown volumes source.place new spare (failed refl)

-- it was asked, by its name
pub asked-named : {V : Type 0} (shown : V → Shown) (answers : Answering V) (line : ℕ)
    (keyed : Bool) (name : List ℕ) (source : FoundCluster) (exchange : CatEntry → Exchange)
    (old new : List V) → IsSource keyed (map shown old) name source
    → IsAskedAt answers line source (exchange source.entry) old new
    → IsAsked shown answers line keyed name source.kind exchange old new
asked-named shown answers line keyed name source exchange old new found asked = record {
  kind_is = found.kind_is;
  place = source.place;
  place_is = found.place_is;
  entry = source.entry;
  entry_is = found.entry_is;
  before = asked.before;
  before_is = asked.before_is;
  after = asked.after;
  answered = asked.answered;
  others = asked.others;
}
