-- The volumes of a shelf, as they are opened and closed one after another.
use Rattle.std.proofs.Common.{◌≡◌, ◌∙◌, ◌+◌, ◌<◌, ℕ, zero, suc, Bool, List, [], ◌∷◌, ◌++◌, Result, Ok, Err}
use Rattle.std.proofs.Common.{All, Option, Some, None, arith, get_or, true, false, refl, sym, ap, subst, append_assoc, length, map}
use Rattle.std.specs.Prelude.{IsTrue, slice_get}
use Rattle.std.proofs.Math.Bool.{Bool-set}
use Rattle.std.proofs.lemmas.Bool.{true≢false}
use Rattle.std.proofs.lemmas.List.{append-nil, length-append, length-map, map-append}
use Rattle.vr_types.specs.Faults.{Faults}
use Rattle.vr_types.specs.Seen.{Seen}
use Rattle.vr_types.specs.declared.fault.Failed.{Failed}
use Rattle.vr_history.specs.State.{State}
use Rattle.vr_history.specs.declared.entry.Entry.{Entry}
use Rattle.vr_event.specs.Volume.{VolumeNow}
use Rattle.vr_job_text.specs.declared.job.JobStep.{JobStep}
use Rattle.vr_trace.specs.declared.report.StepReport.{StepReport}
use Rattle.vr_trace.specs.declared.ending.EndLine.{EndLine}
use Rattle.vr_worker.specs.Decks.{ArePlaced}
use Rattle.vr_trace.specs.declared.no.RunNo.{RunNo}
use Rattle.vr_job.specs.Shelf.{Answer, AreBeingClosed, AreClosing, AreOpen, AreOpening, Closing, HasClosedNext}
use Rattle.vr_job.specs.Shelf.{HasOpenedNext, HasOpenedOrKept, HaveClosed, HaveOpened, HaveRunWhere}
use Rattle.vr_job.specs.Shelf.{IsClosing, IsOpenAs}
use Rattle.vr_job.specs.Shelf.{IsUnsynced, Opening, failed_at, or_failed}
use Rattle.vr_job.specs.VolumeRun.{IsOpen, opening_of}

pub none-left : {X : Type 0} (xs : List X) → length xs ≡ 0 → xs ≡ []
none-left [] none = refl
none-left (x ∷ xs) none = absurd (omega (arith, none))

-- of a volume that wasn't opened, or whose device doesn't report its contents, nothing is said of the
-- state in which it was
abbrev pub no_state : State
no_state = opening_of (λ (part : ℕ). []) []

-- what is known where the device reports its contents, and else this
abbrev where-told : {X : Type 0} (tells : Bool) → X → (IsTrue tells → X) → X
where-told true other known = known refl
where-told false other known = other

told-is : {X : Type 0} (tells : Bool) (other : X) (known : IsTrue tells → X) (told : IsTrue tells)
    → where-told tells other known ≡ known told
told-is true other known told = ap known (Bool-set true true refl told)
told-is false other known told = absurd (true≢false (sym told))

module _ {D : Type 0} (tells : Bool) (seen : D → Seen) (faults : D → Faults) where
  abbrev device_of : Opening D → D
  device_of one = one.device

  abbrev volume_of : Opening D → VolumeNow D
  volume_of one = one.volume

  -- ---- opening

  open-more : (number : ℕ) (first : List (Opening D)) (one : Opening D)
      → AreOpen tells seen faults number first
      → IsOpenAs tells seen faults (number + length first) one
      → AreOpen tells seen faults number (first ++ one ∷ [])
  open-more number [] one opens_so is = (
    subst (λ (n : ℕ). IsOpenAs tells seen faults n one) (omega arith) is,
    tt,
  )
  open-more number (other ∷ others) one opens_so is = (
    opens_so.0,
    open-more (number + 1) others one opens_so.1
        (subst (λ (n : ℕ). IsOpenAs tells seen faults n one) (omega arith) is),
  )

  -- a volume that was opened, with the state in which it was
  abbrev opening-of : (number : ℕ) (device : D) (volume : VolumeNow D)
      → IsOpen tells seen faults number device volume → Opening D
  opening-of number device volume is = record {
    device = device;
    state = where-told tells no_state
        (λ told. opening_of (is.held told).contents (is.held told).owners);
    volume = volume;
  }

  open-as : (number : ℕ) (device : D) (volume : VolumeNow D)
      (is : IsOpen tells seen faults number device volume)
      → IsOpenAs tells seen faults number (opening-of number device volume is)
  open-as number device volume is = record {
    on = is;
    state_is = told-is tells no_state
        (λ told. opening_of (is.held told).contents (is.held told).owners);
  }

  -- no device was opened yet
  pub opening-none : (devices : List D) (value : Unit {0})
      → AreOpening tells seen faults devices devices [] [] (Ok value)
  opening-none devices value = record {
    taken = [];
    all = refl;
    opened = record {
      first = [];
      opens = tt;
      volumes_are = refl;
      rest = [];
      devices_are = refl;
      rest_is = (refl, refl);
    };
    count = refl;
  }

  -- all were
  pub opening-all : (devices : List D) (volumes : List (VolumeNow D)) (unopened : List D)
      (result : Answer) → AreOpening tells seen faults devices [] volumes unopened result
      → HaveOpened tells seen faults devices volumes unopened result
  opening-all devices volumes unopened result is =
      subst (λ (them : List D). HaveOpened tells seen faults them volumes unopened result)
      (sym (append-nil is.taken) ∙ is.all) is.opened

  module _ (devices rest : List D) (device : D) (volumes : List (VolumeNow D)) (unopened : List D)
    where
      -- the next one
      pub opening-next : (value : Unit {0}) (volumes' : List (VolumeNow D)) (unopened' : List D)
          (result : Answer)
          → AreOpening tells seen faults devices (device ∷ rest) volumes unopened (Ok value)
          → HasOpenedNext tells seen faults device volumes volumes' unopened unopened' result
          → AreOpening tells seen faults devices rest volumes' unopened' result
      opening-next value volumes' unopened' (Ok given) so next = record {
        taken = so.taken ++ device ∷ [];
        all = append_assoc so.taken (device ∷ []) rest ∙ so.all;
        opened = record {
          first = so.opened.first ++ one ∷ [];
          opens = open-more 0 so.opened.first one so.opened.opens
              (subst (λ (n : ℕ). IsOpenAs tells seen faults n one) (omega arith)
              (open-as (length so.opened.first) device next.0 is_open));
          volumes_are = next.1
              ∙ ap (λ (them : List (VolumeNow D)). them ++ next.0 ∷ []) so.opened.volumes_are
              ∙ sym (map-append volume_of so.opened.first (one ∷ []));
          rest = [];
          devices_are = ap (λ (them : List D). them ++ device ∷ [])
              (so.opened.devices_are
              ∙ ap (λ (them : List D). map device_of so.opened.first ++ them) so.opened.rest_is.0
              ∙ append-nil (map device_of so.opened.first))
              ∙ sym (map-append device_of so.opened.first (one ∷ []))
              ∙ sym (append-nil (map device_of (so.opened.first ++ one ∷ [])));
          rest_is = (refl, next.2 ∙ so.opened.rest_is.1);
        };
        count = omega (
          arith,
          so.count,
          ap (λ (them : List (VolumeNow D)). length them) next.1,
          ap (λ (them : List D). length them) next.2,
          length-append volumes (next.0 ∷ []),
          length-append so.taken (device ∷ []),
        );
      }
        where
          is_open : IsOpen tells seen faults (length so.opened.first) device next.0
          is_open = subst (λ (n : ℕ). IsOpen tells seen faults n device next.0) (omega (
            arith,
            ap (λ (them : List (VolumeNow D)). length them) so.opened.volumes_are,
            length-map so.opened.first volume_of,
          )) next.3

          one : Opening D
          one = opening-of (length so.opened.first) device next.0 is_open
      opening-next value volumes' unopened' (Err end) so next = record {
        taken = so.taken ++ device ∷ [];
        all = append_assoc so.taken (device ∷ []) rest ∙ so.all;
        opened = record {
          first = so.opened.first;
          opens = so.opened.opens;
          volumes_are = next.2 ∙ so.opened.volumes_are;
          rest = device ∷ [];
          devices_are = ap (λ (them : List D). them ++ device ∷ [])
              (so.opened.devices_are
              ∙ ap (λ (them : List D). map device_of so.opened.first ++ them) so.opened.rest_is.0
              ∙ append-nil (map device_of so.opened.first));
          rest_is = (
            device,
            next.0,
            [],
            refl,
            next.1 ∙ ap (λ (them : List D). them ++ next.0 ∷ []) so.opened.rest_is.1,
            subst (λ (n : ℕ). Rattle.vr_job.specs.VolumeRun.IsNotOpen tells seen faults n device next.0
                end) (omega (
                  arith,
                  ap (λ (them : List (VolumeNow D)). length them)
                      so.opened.volumes_are,
                  length-map so.opened.first volume_of,
                )) next.3,
          );
        };
        count = omega (
          arith,
          so.count,
          ap (λ (them : List (VolumeNow D)). length them) next.2,
          ap (λ (them : List D). length them) next.1,
          length-append unopened (next.0 ∷ []),
          length-append so.taken (device ∷ []),
        );
      }

      -- one after that wasn't opened
      pub opening-past : (end : EndLine) (unopened' : List D) → unopened' ≡ unopened ++ device ∷ []
          → AreOpening tells seen faults devices (device ∷ rest) volumes unopened (Err end)
          → AreOpening tells seen faults devices rest volumes unopened' (Err end)
      opening-past end unopened' pushed so = record {
        taken = so.taken ++ device ∷ [];
        all = append_assoc so.taken (device ∷ []) rest ∙ so.all;
        opened = record {
          first = so.opened.first;
          opens = so.opened.opens;
          volumes_are = so.opened.volumes_are;
          rest = so.opened.rest ++ device ∷ [];
          devices_are = ap (λ (them : List D). them ++ device ∷ []) so.opened.devices_are
              ∙ append_assoc (map device_of so.opened.first) so.opened.rest (device ∷ []);
          rest_is = (
            so.opened.rest_is.0,
            so.opened.rest_is.1,
            so.opened.rest_is.2 ++ device ∷ [],
            ap (λ (them : List D). them ++ device ∷ []) so.opened.rest_is.3,
            pushed ∙ ap (λ (them : List D). them ++ device ∷ []) so.opened.rest_is.4,
            so.opened.rest_is.5,
          );
        };
        count = omega (
          arith,
          so.count,
          ap (λ (them : List D). length them) pushed,
          length-append unopened (device ∷ []),
          length-append so.taken (device ∷ []),
        );
      }

      -- whichever it is
      pub opening-step : (so : Answer) (volumes' : List (VolumeNow D)) (unopened' : List D)
          (result : Answer) → AreOpening tells seen faults devices (device ∷ rest) volumes unopened so
          → HasOpenedOrKept tells seen faults so device volumes volumes' unopened unopened' result
          → AreOpening tells seen faults devices rest volumes' unopened' result
      opening-step (Ok value) volumes' unopened' result is next =
          opening-next value volumes' unopened' result is next
      opening-step (Err end) volumes' unopened' result is next =
          subst (λ (them : List (VolumeNow D)). AreOpening tells seen faults devices rest them unopened'
          result) (sym next.1)
          (subst (λ (r : Answer). AreOpening tells seen faults devices rest volumes unopened' r)
          (sym next.0) (opening-past end unopened' next.2 is))

  -- how many are open and handed back, and how many are to come
  pub opening-count : (devices rest : List D) (volumes : List (VolumeNow D)) (unopened : List D)
      (result : Answer) → AreOpening tells seen faults devices rest volumes unopened result
      → length volumes + length unopened + length rest ≡ length devices
  opening-count devices rest volumes unopened result is = omega (
    arith,
    is.count,
    length-append is.taken rest,
    ap (λ (them : List D). length them) is.all,
  )

  -- ---- closing

  -- how many are closed, and how many are to come
  pub closing-count : (volumes rest : List (VolumeNow D)) (shelf : List D)
      (histories : List (List Entry)) (unsynced : Option ℕ)
      → AreBeingClosed tells seen faults volumes rest shelf histories unsynced
      → (length shelf + length rest ≡ length volumes) × (length histories ≡ length shelf)
  closing-count volumes rest shelf histories unsynced is =
      let all : length is.taken + length rest ≡ length volumes = omega (
        arith,
        length-append is.taken rest,
        ap (λ (them : List (VolumeNow D)). length them) is.all,
      ) in
      let taken : length is.taken ≡ length is.closed.each =
      ap (λ (them : List (VolumeNow D)). length them) is.closed.volumes_are
      ∙ length-map is.closed.each (λ (one : Closing D). one.volume) in
      let left : length shelf ≡ length is.closed.each =
      ap (λ (them : List D). length them) is.closed.shelf_is
      ∙ length-map is.closed.each (λ (one : Closing D). one.left) in
      let kept : length histories ≡ length is.closed.each =
      ap (λ (them : List (List Entry)). length them) is.closed.histories_are
      ∙ length-map is.closed.each (λ (one : Closing D). one.entries) in
      (omega (arith, all, taken, left), omega (arith, left, kept))

  closing-more : (each : List (Closing D)) (one : Closing D) → AreClosing tells seen faults each
      → IsClosing tells seen faults one → AreClosing tells seen faults (each ++ one ∷ [])
  closing-more [] one closing is = (is, tt)
  closing-more (other ∷ others) one closing is = (closing.0, closing-more others one closing.1 is)

  get-earlier : (each : List (Closing D)) (one other : Closing D) (at : ℕ)
      → slice_get each at ≡ Some other → slice_get (each ++ one ∷ []) at ≡ Some other
  get-earlier [] one other at there = absurd cc
  get-earlier (first ∷ each) one other zero there = there
  get-earlier (first ∷ each) one other (suc at) there = get-earlier each one other at there

  get-last : (each : List (Closing D)) (one : Closing D)
      → slice_get (each ++ one ∷ []) (length each) ≡ Some one
  get-last [] one = refl
  get-last (first ∷ each) one = get-last each one

  none-failed : (each : List (Closing D)) (one : Closing D) → IsUnsynced each None
      → one.result ≡ Ok tt → IsUnsynced (each ++ one ∷ []) None
  none-failed [] one none is = (is, tt)
  none-failed (first ∷ each) one none is = (none.0, none-failed each one none.1 is)

  unsynced-more : (each : List (Closing D)) (one : Closing D) (unsynced : Option ℕ)
      (result : Result (Unit {0}) Failed) → one.result ≡ result → IsUnsynced each unsynced
      → IsUnsynced (each ++ one ∷ []) (or_failed unsynced (failed_at (length each) result))
  unsynced-more each one (Some number) result is so =
      (so.0, get-earlier each one so.0 number so.1, so.2)
  unsynced-more each one None (Ok value) is so = none-failed each one so is
  unsynced-more each one None (Err failed) is so = (
    one,
    get-last each one,
    ap (λ (r : Result (Unit {0}) Failed). Rattle.std.specs.Prelude.is_err r) is,
  )

  pub closing-none : (volumes : List (VolumeNow D))
      → AreBeingClosed tells seen faults volumes volumes [] [] None
  closing-none volumes = record {
    taken = [];
    all = refl;
    closed = record {
      each = [];
      closing = tt;
      volumes_are = refl;
      shelf_is = refl;
      histories_are = refl;
      unsynced_is = tt;
    };
  }

  pub closing-all : (volumes : List (VolumeNow D)) (shelf : List D)
      (histories : List (List Entry)) (unsynced : Option ℕ)
      → AreBeingClosed tells seen faults volumes [] shelf histories unsynced
      → HaveClosed tells seen faults volumes shelf histories unsynced
  closing-all volumes shelf histories unsynced is =
      subst (λ (them : List (VolumeNow D)). HaveClosed tells seen faults them shelf histories
      unsynced) (sym (append-nil is.taken) ∙ is.all) is.closed

  module _ (volumes rest : List (VolumeNow D)) (volume : VolumeNow D) (shelf shelf' : List D)
      (histories histories' : List (List Entry)) (unsynced failed : Option ℕ)
      (so : AreBeingClosed tells seen faults volumes (volume ∷ rest) shelf histories unsynced)
      (next : HasClosedNext tells seen faults volume shelf shelf' histories histories' failed) where
    pub closing-next : (unsynced' : Option ℕ) → unsynced' ≡ or_failed unsynced failed
        → AreBeingClosed tells seen faults volumes rest shelf' histories' unsynced'
    closing-next unsynced' is = record {
      taken = so.taken ++ volume ∷ [];
      all = append_assoc so.taken (volume ∷ []) rest ∙ so.all;
      closed = record {
        each = each ++ next.one ∷ [];
        closing = closing-more each next.one so.closed.closing next.closing;
        volumes_are = ap (λ (them : List (VolumeNow D)). them ++ volume ∷ []) so.closed.volumes_are
            ∙ ap (λ (v : VolumeNow D). map (λ (one : Closing D). one.volume) each ++ v ∷ [])
            (sym next.volume_is)
            ∙ sym (map-append (λ (one : Closing D). one.volume) each (next.one ∷ []));
        shelf_is = next.shelf_is
            ∙ ap (λ (them : List D). them ++ next.one.left ∷ []) so.closed.shelf_is
            ∙ sym (map-append (λ (one : Closing D). one.left) each (next.one ∷ []));
        histories_are = next.histories_is
            ∙ ap (λ (them : List (List Entry)). them ++ next.one.entries ∷ [])
            so.closed.histories_are
            ∙ sym (map-append (λ (one : Closing D). one.entries) each (next.one ∷ []));
        unsynced_is = subst (IsUnsynced (each ++ next.one ∷ [])) (sym (is
            ∙ ap (or_failed unsynced) (next.unsynced_is
            ∙ ap (λ (n : ℕ). failed_at n next.one.result) (ap length so.closed.shelf_is
            ∙ length-map each (λ (one : Closing D). one.left)))))
            (unsynced-more each next.one unsynced next.one.result refl so.closed.unsynced_is);
      };
    }
      where
        each : List (Closing D)
        each = so.closed.each

  -- ---- how many

  pub closed-count : (volumes : List (VolumeNow D)) (shelf : List D)
      (histories : List (List Entry)) (unsynced : Option ℕ)
      → HaveClosed tells seen faults volumes shelf histories unsynced
      → (length shelf ≡ length volumes) × (length histories ≡ length volumes)
  closed-count volumes shelf histories unsynced is =
      let all : length volumes ≡ length is.each =
      ap (λ (them : List (VolumeNow D)). length them) is.volumes_are
      ∙ length-map is.each (λ (one : Closing D). one.volume) in (
        ap (λ (them : List D). length them) is.shelf_is
            ∙ length-map is.each (λ (one : Closing D). one.left) ∙ sym all,
        ap (λ (them : List (List Entry)). length them) is.histories_are
            ∙ length-map is.each (λ (one : Closing D). one.entries) ∙ sym all,
      )

  pub ran-count : (steps : List JobStep) (result : Result (Unit {0}) RunNo)
      (reports : List StepReport)
      (old new : List (VolumeNow D)) (are_open : Bool)
      → HaveRunWhere are_open tells seen faults steps result reports old new
      → length new ≡ length old
  ran-count steps result reports old new true is = is.since.count
  ran-count steps result reports old new false is = ap (λ (them : List (VolumeNow D)). length them) is.0

  -- ---- what is known of volumes that are open

  open-placed : (number : ℕ) (first : List (Opening D)) → AreOpen tells seen faults number first
      → (place : ℕ) (volume : VolumeNow D) → place < length (map volume_of first)
      → (get_or (map volume_of first) place volume).number ≡ number + place
  open-placed number [] open_now place volume near = absurd (omega (arith, near))
  open-placed number (one ∷ others) open_now zero volume near =
      omega (arith, open_now.0.on.number_is)
  open-placed number (one ∷ others) open_now (suc place) volume near =
      omega (arith, open-placed (number + 1) others open_now.1 place volume (omega (arith, near)))

  pub opened-placed : (devices : List D) (volumes : List (VolumeNow D)) (unopened : List D)
      (result : Answer) → HaveOpened tells seen faults devices volumes unopened result
      → ArePlaced (λ (volume : VolumeNow D). volume.number) volumes
  opened-placed devices volumes unopened result is = subst
      (ArePlaced (λ (volume : VolumeNow D). volume.number)) (sym is.volumes_are)
      (λ place volume near. omega (arith, open-placed 0 is.first is.opens place volume near))

  open-begins : (number : ℕ) (first : List (Opening D)) → AreOpen tells seen faults number first
      → (place : ℕ) (volume : VolumeNow D) → place < length (map volume_of first)
      → (get_or (map volume_of first) place volume).file.entries ≡ []
  open-begins number [] open_now place volume near = absurd (omega (arith, near))
  open-begins number (one ∷ others) open_now zero volume near = open_now.0.on.begins
  open-begins number (one ∷ others) open_now (suc place) volume near =
      open-begins (number + 1) others open_now.1 place volume (omega (arith, near))

  pub opened-begins : (devices : List D) (volumes : List (VolumeNow D)) (unopened : List D)
      (result : Answer) → HaveOpened tells seen faults devices volumes unopened result
      → All (λ (volume : VolumeNow D). volume.file.entries ≡ []) volumes
  opened-begins devices volumes unopened result is = subst
      (All (λ (volume : VolumeNow D). volume.file.entries ≡ [])) (sym is.volumes_are)
      (open-begins 0 is.first is.opens)
