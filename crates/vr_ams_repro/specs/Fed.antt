-- What becomes of records that REPRO of Access Method Services Commands puts into its target, one
-- after another: what its volume is asked for, and what it replies. When it commits, and which
-- refusals end it, is this project's own.
use Rattle.std.specs.Prelude.{◌≡◌, ℕ, Bool, true, false, if◌then◌else◌, List, [], ◌∷◌, ◌++◌}
use Rattle.std.specs.Prelude.{bytes_eq, Option, Some, None}
use Rattle.vr_types.specs.declared.reply.Refusal.{Refusal}
use Rattle.vr_types.specs.declared.reply.Reply.{Reply}
use Rattle.vr_types.specs.declared.reply.Reply.TheVariants.{Done, Refused}
use Rattle.vr_types.specs.declared.request.Request.TheVariants.{Commit}
use Rattle.vr_trace.specs.Visitors.{Visited}
use Rattle.vr_ams_define.specs.Answers.{Answering}
use Rattle.vr_ams_define.specs.Answers.Exchange.{Reading}
use Rattle.vr_ams_define.specs.declared.answer.ReadBack.{ReadBack}
use Rattle.vr_ams_define.specs.declared.answer.ReadBack.TheVariants as reads
use Rattle.vr_ams_repro.specs.Progress.{after_commit, after_tried, is_due, is_full, with_asked}
use Rattle.vr_ams_repro.specs.Progress.{with_read}
use Rattle.vr_ams_repro.specs.Replies.{Replying}
use Rattle.vr_ams_repro.specs.Requests.{add_of, get_of, place_looked, place_of, update_of}
use Rattle.vr_ams_repro.specs.declared.load.Load.{Load}
use Rattle.vr_ams_repro.specs.declared.progress.Progress.{Progress}
use Rattle.vr_ams_repro.specs.declared.tried.Look.{Look}
use Rattle.vr_ams_repro.specs.declared.tried.Look.TheVariants as looks
use Rattle.vr_ams_repro.specs.declared.tried.Tried.{Tried}
use Rattle.vr_ams_repro.specs.declared.tried.Tried.TheVariants.{Replied, Unread}
use Rattle.vr_ams_repro.specs.declared.tried.Way.TheVariants.{Add, Replace}

-- whether the first of the records from a place on is at it
abbrev pub is_first_at : List ℕ → List Visited → Bool
is_first_at place [] = false
is_first_at place (one ∷ others) = bytes_eq one.0 place

abbrev pub look_of : List ℕ → List Visited → ReadBack → Look
look_of place records reads.Done =
    if is_first_at place records then looks.Taken else looks.Free
look_of place records (reads.Fault fault) = looks.Unread fault

-- The volume of the target answers so, replies so, and is filled so.
module _ {V : Type 0} (answers : Answering V) (replies : Replying V) (load : Load) where
  -- ---- one record is tried

  -- It was looked whether there is a record at the place, by reading from there on.
  pub record IsLooked (place : List ℕ) (old : V) (look : Look) (new : V) : Type 0 where
    pub records : List Visited
    pub answer : ReadBack
    pub answered : answers old load.line (Reading load.target.entry (Some place) records answer) new
    pub look_is : look ≡ look_of place records answer

  -- The record was added, or that was refused.
  pub record IsAdded (place : Option (List ℕ)) (bytes : List ℕ) (old : V) (tried : Tried) (new : V)
      : Type 0 where
    pub reply : Reply
    pub asked : replies old load.line (add_of load.target place bytes) reply new
    pub tried_is : tried ≡ Replied Add reply

  -- The record that was got for update was replaced, or that was refused.
  pub record IsUpdated (bytes : List ℕ) (old : V) (tried : Tried) (new : V) : Type 0 where
    pub reply : Reply
    pub asked : replies old load.line (update_of load.target bytes) reply new
    pub tried_is : tried ≡ Replied Replace reply

  abbrev pub IsUpdatedIf : Reply → List ℕ → V → Tried → V → Type 0
  IsUpdatedIf (Done feedback place was) bytes old tried new = IsUpdated bytes old tried new
  IsUpdatedIf (Refused refusal) bytes old tried new =
      (tried ≡ Replied Replace (Refused refusal)) × (new ≡ old)

  -- The record at the place was got for update, and replaced.
  pub record IsReplaced (place bytes : List ℕ) (old : V) (tried : Tried) (new : V) : Type 0 where
    pub got : Reply
    pub between : V
    pub asked : replies old load.line (get_of load.target place) got between
    pub updated : IsUpdatedIf got bytes between tried new

  abbrev pub IsPut : Look → List ℕ → List ℕ → V → Tried → V → Type 0
  IsPut looks.Free place bytes old tried new = IsAdded (Some place) bytes old tried new
  IsPut looks.Taken place bytes old tried new = IsReplaced place bytes old tried new
  IsPut (looks.Unread fault) place bytes old tried new = (tried ≡ Unread fault) × (new ≡ old)

  pub record IsLookedAndPut (place bytes : List ℕ) (old : V) (tried : Tried) (new : V) : Type 0
    where
      pub look : Look
      pub between : V
      pub looked : IsLooked place old look between
      pub put : IsPut look place bytes between tried new

  -- A record that goes to a place is tried: where it is looked for one there, what is found is
  -- replaced, else it is added.
  abbrev pub IsTriedAt : Option (List ℕ) → Option (List ℕ) → List ℕ → V → Tried → V → Type 0
  IsTriedAt None place bytes old tried new = IsAdded place bytes old tried new
  IsTriedAt (Some looked) place bytes old tried new = IsLookedAndPut looked bytes old tried new

  abbrev pub IsTried : Option (List ℕ) → List ℕ → V → Tried → V → Type 0
  IsTried place bytes old tried new =
      IsTriedAt (place_looked load place) place bytes old tried new

  -- ---- a COMMIT

  pub record IsCommitted (progress : Progress) (old : V) (next : Progress) (new : V) : Type 0 where
    pub reply : Reply
    pub asked : replies old load.line Commit reply new
    pub next_is : next ≡ after_commit reply progress

  abbrev pub IsCommittedIf : Bool → Progress → V → Progress → V → Type 0
  IsCommittedIf true progress old next new = IsCommitted progress old next new
  IsCommittedIf false progress old next new = (next ≡ progress) × (new ≡ old)

  -- ---- one record is put

  -- It was tried, and that is how far it came.
  pub record IsPutOnce (place : Option (List ℕ)) (bytes : List ℕ) (progress : Progress) (old : V)
      (next : Progress) (new : V) : Type 0 where
    pub tried : Tried
    pub last : IsTried place bytes old tried new
    pub next_is : next ≡ after_tried tried progress

  -- unless a COMMIT was refused
  abbrev pub IsPutUnless : Option ℕ → Option (List ℕ) → List ℕ → Progress → V → Progress → V
      → Type 0
  IsPutUnless (Some fault) place bytes progress old next new = (next ≡ progress) × (new ≡ old)
  IsPutUnless None place bytes progress old next new =
      IsPutOnce place bytes progress old next new

  -- The log was full: after a COMMIT it is tried once more.
  pub record IsPutAgain (place : Option (List ℕ)) (bytes : List ℕ) (progress : Progress) (old : V)
      (next : Progress) (new : V) : Type 0 where
    pub committed : Progress
    pub between : V
    pub commit : IsCommitted progress old committed between
    pub again : IsPutUnless committed.fault place bytes committed between next new

  abbrev pub IsPutAfter : Bool → Tried → Option (List ℕ) → List ℕ → Progress → V → Progress → V
      → Type 0
  IsPutAfter false tried place bytes progress old next new =
      (next ≡ after_tried tried progress) × (new ≡ old)
  IsPutAfter true tried place bytes progress old next new =
      IsPutAgain place bytes (with_asked progress) old next new

  pub record IsPutTwice (place : Option (List ℕ)) (bytes : List ℕ) (progress : Progress) (old : V)
      (next : Progress) (new : V) : Type 0 where
    pub tried : Tried
    pub between : V
    pub first : IsTried place bytes old tried between
    pub after : IsPutAfter (is_full tried) tried place bytes progress between next new

  -- ---- records, one after another

  -- One more record was read, put at the place that it says, and a COMMIT made where one is due.
  pub record IsOneFed (one : Visited) (progress : Progress) (old : V) (next : Progress) (new : V)
      : Type 0 where
    pub fed : Progress
    pub between : V
    pub put : IsPutTwice (place_of load (with_read progress).tally.read one) one.1
        (with_read progress) old fed between
    pub commit : IsCommittedIf (is_due fed) fed between next new

  -- none once the command has ended
  abbrev pub IsFedUnless : Option ℕ → Visited → Progress → V → Progress → V → Type 0
  IsFedUnless (Some fault) one progress old next new = (next ≡ progress) × (new ≡ old)
  IsFedUnless None one progress old next new = IsOneFed one progress old next new

  pub data AreFed (progress : Progress) (old : V) : List Visited → Progress → V → Type 0 where
    NoneFed : AreFed progress old [] progress old
    OneFed : (records : List Visited) (fed : Progress) (between : V) (one : Visited)
        (next : Progress) (new : V) → AreFed progress old records fed between
        → IsFedUnless fed.fault one fed between next new
        → AreFed progress old (records ++ one ∷ []) next new
