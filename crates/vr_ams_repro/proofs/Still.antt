-- What volumes show once records were put: what they showed, unless the command has ended.
use Rattle.std.proofs.Common.{◌≡◌, ◌∙◌, ◌<◌, ◌+◌, ℕ, Bool, true, false, List, ◌∷◌, ◌++◌, [], Option}
use Rattle.std.proofs.Common.{Some, None, Result, Ok, Err, IfOk, ap, get_or, length, refl, subst}
use Rattle.std.proofs.Common.{sym, take}
use Rattle.std.specs.Option.{option_or}
use Rattle.std.proofs.lemmas.List.{take_more}
use Rattle.vr_types.specs.declared.reply.Refusal.{Refusal}
use Rattle.vr_types.specs.declared.reply.Refusal.TheVariants.{EndOfData, Duplicate, NotFound}
use Rattle.vr_types.specs.declared.reply.Refusal.TheVariants.{NoAddress, NoSpace, NoPosition, NoGet}
use Rattle.vr_types.specs.declared.reply.Refusal.TheVariants.{KeyChanged, LengthChanged, BadLength}
use Rattle.vr_types.specs.declared.reply.Refusal.TheVariants.{BadSlot, Held, LogFull, Stopped}
use Rattle.vr_types.specs.declared.reply.Refusal.TheVariants.{ReadFault, WriteFault, Memory}
use Rattle.vr_types.specs.declared.reply.Refusal.TheVariants.{NotAllowed, NoFile}
use Rattle.vr_types.specs.declared.reply.Reply.{Reply}
use Rattle.vr_types.specs.declared.reply.Reply.TheVariants.{Done, Refused}
use Rattle.vr_trace.specs.Shown.{Shown}
use Rattle.vr_trace.specs.Visitors.{Visited}
use Rattle.vr_trace.specs.declared.no.RunNo.{RunNo}
use Rattle.vr_ams_define.specs.Answers.{Answering}
use Rattle.vr_ams_repro.specs.Fed.{AreFed, IsCommittedIf, IsFedUnless, IsOneFed}
use Rattle.vr_ams_repro.specs.Fed.{IsPutAfter, IsPutTwice, IsPutUnless, IsTried}
use Rattle.vr_ams_repro.specs.Fed.AreFed.{NoneFed, OneFed}
use Rattle.vr_ams_repro.specs.Progress.{after_commit, after_refusal, after_tried, ended_with}
use Rattle.vr_ams_repro.specs.Progress.{is_due, is_full, is_log_full, with_asked, with_read}
use Rattle.vr_ams_repro.specs.Replies.{IsShownReplied, Replying}
use Rattle.vr_ams_repro.specs.Requests.{place_of}
use Rattle.vr_ams_repro.specs.Steps.{IsShownTried, IsStill}
use Rattle.vr_ams_repro.specs.declared.load.Load.{Load}
use Rattle.vr_ams_repro.specs.declared.progress.Progress.{Progress}
use Rattle.vr_ams_repro.specs.declared.tried.Tried.{Tried}
use Rattle.vr_ams_repro.specs.declared.tried.Tried.TheVariants.{Replied, Unread}

-- ---- a fault stays

-- a command that hasn't ended with this fault has ended with none
none-ended : (was : Option ℕ) (fault : ℕ) → option_or was (Some fault) ≡ None → was ≡ None
none-ended None fault none = refl
none-ended (Some other) fault none = absurd (cc)

pub some-ended : (was : Option ℕ) (fault : ℕ) → option_or was (Some fault) ≡ None → ⊥
some-ended None fault none = (cc)
some-ended (Some other) fault none = (cc)

none-committed : (reply : Reply) (progress : Progress)
    → (after_commit reply progress).fault ≡ None → progress.fault ≡ None
none-committed (Done feedback place bytes) progress none = none
none-committed (Refused refusal) progress none = none-ended progress.fault _ none

-- ---- one record that was tried

-- a write that failed ends the command
still-refused : (refusal : Refusal) (progress : Progress) (old new : Shown)
    → IsShownReplied (Refused refusal) old new → (after_refusal refusal progress).fault ≡ None
    → new ≡ old
still-refused EndOfData progress old new shown none = shown
still-refused (Duplicate part) progress old new shown none = shown
still-refused NotFound progress old new shown none = shown
still-refused NoAddress progress old new shown none = shown
still-refused (NoSpace need free) progress old new shown none = shown
still-refused NoPosition progress old new shown none = shown
still-refused NoGet progress old new shown none = shown
still-refused KeyChanged progress old new shown none = shown
still-refused LengthChanged progress old new shown none = shown
still-refused (BadLength length) progress old new shown none = shown
still-refused BadSlot progress old new shown none = shown
still-refused (Held holder name mode) progress old new shown none = shown
still-refused (LogFull used need size) progress old new shown none = shown
still-refused (Stopped stamp) progress old new shown none = shown
still-refused ReadFault progress old new shown none = shown
still-refused WriteFault progress old new shown none =
    absurd (some-ended progress.fault _ none)
still-refused Memory progress old new shown none = shown
still-refused NotAllowed progress old new shown none = shown
still-refused NoFile progress old new shown none = shown

pub still-tried : (tried : Tried) (progress next : Progress) (old new : Shown)
    → IsShownTried tried old new → next ≡ after_tried tried progress → next.fault ≡ None
    → new ≡ old
still-tried (Replied way (Done feedback place bytes)) progress next old new shown is none = shown
still-tried (Replied way (Refused refusal)) progress next old new shown is none =
    still-refused refusal (with_asked progress) old new shown
    (sym (ap (λ (it : Progress). it.fault) is) ∙ none)
still-tried (Unread fault) progress next old new shown is none = absurd
    (some-ended progress.fault _ (sym (ap (λ (it : Progress). it.fault) is) ∙ none))

-- where the log was full nothing is lost
full-refused : (refusal : Refusal) (old new : Shown) → IsShownReplied (Refused refusal) old new
    → is_log_full (Refused refusal) ≡ true → new ≡ old
full-refused EndOfData old new shown full = shown
full-refused (Duplicate part) old new shown full = shown
full-refused NotFound old new shown full = shown
full-refused NoAddress old new shown full = shown
full-refused (NoSpace need free) old new shown full = shown
full-refused NoPosition old new shown full = shown
full-refused NoGet old new shown full = shown
full-refused KeyChanged old new shown full = shown
full-refused LengthChanged old new shown full = shown
full-refused (BadLength length) old new shown full = shown
full-refused BadSlot old new shown full = shown
full-refused (Held holder name mode) old new shown full = shown
full-refused (LogFull used need size) old new shown full = shown
full-refused (Stopped stamp) old new shown full = shown
full-refused ReadFault old new shown full = shown
full-refused WriteFault old new shown full = absurd (cc)
full-refused Memory old new shown full = shown
full-refused NotAllowed old new shown full = shown
full-refused NoFile old new shown full = shown

pub full-same : (tried : Tried) (old new : Shown) → IsShownTried tried old new
    → is_full tried ≡ true → new ≡ old
full-same (Replied way (Done feedback place bytes)) old new shown full = shown
full-same (Replied way (Refused refusal)) old new shown full = full-refused refusal old new shown full
full-same (Unread fault) old new shown full = absurd (cc)

module _ {V : Type 0} (answers : Answering V) (replies : Replying V) (load : Load) where
  -- ---- once more, after a COMMIT

  put-none : (place : Option (List ℕ)) (bytes : List ℕ) (progress next : Progress) (old new : V)
      → IsPutUnless answers replies load progress.fault place bytes progress old next new
      → next.fault ≡ None → progress.fault ≡ None
  put-none place bytes progress next old new put none = by progress.fault refl put
    where
      by : (fault : Option ℕ) → progress.fault ≡ fault
          → IsPutUnless answers replies load fault place bytes progress old next new
          → progress.fault ≡ None
      by None is put = is
      by (Some fault) is put = sym (ap (λ (it : Progress). it.fault) put.0) ∙ none

  pub again-still : (place : Option (List ℕ)) (bytes : List ℕ) (progress : Progress) (old new : V)
      (a b c : Shown) (result : Result Progress RunNo) → IfOk result (λ next.
      IsPutUnless answers replies load progress.fault place bytes progress old next new)
      → IfOk result (λ next. IsStill next.fault b c) → IsStill progress.fault a b
      → IfOk result (λ next. IsStill next.fault a c)
  again-still place bytes progress old new a b c (Ok next) put still first = λ none.
      still none ∙ first (put-none place bytes progress next old new put none)
  again-still place bytes progress old new a b c (Err why) put still first = tt

  -- ---- a record, once or twice

  pub put-twice : (place : Option (List ℕ)) (bytes : List ℕ) (progress : Progress)
      (old between new : V) (tried : Tried) (full : Bool) (result : Result Progress RunNo)
      → full ≡ is_full tried → IsTried answers replies load place bytes old tried between
      → IfOk result (λ next.
      IsPutAfter answers replies load full tried place bytes progress between next new)
      → IfOk result (λ next. IsPutTwice answers replies load place bytes progress old next new)
  put-twice place bytes progress old between new tried full (Ok next) is first after = record {
    tried = tried;
    between = between;
    first = first;
    after = subst (λ (it : Bool).
        IsPutAfter answers replies load it tried place bytes progress between next new) is after;
  }
  put-twice place bytes progress old between new tried full (Err why) is first after = tt

  after-still : (place : Option (List ℕ)) (bytes : List ℕ) (progress next : Progress)
      (between new : V) (tried : Tried) (a b : Shown) (full : Bool) → full ≡ is_full tried
      → IsPutAfter answers replies load full tried place bytes progress between next new
      → IsShownTried tried a b → next.fault ≡ None → b ≡ a
  after-still place bytes progress next between new tried a b true is after shown none =
      full-same tried a b shown (sym is)
  after-still place bytes progress next between new tried a b false is after shown none =
      still-tried tried progress next a b shown after.0 none

  pub twice-still : (place : Option (List ℕ)) (bytes : List ℕ) (progress : Progress)
      (between new : V) (tried : Tried) (full : Bool) (a b c : Shown)
      (result : Result Progress RunNo) → full ≡ is_full tried → IfOk result (λ next.
      IsPutAfter answers replies load full tried place bytes progress between next new)
      → IsShownTried tried a b → IfOk result (λ next. IsStill next.fault b c)
      → IfOk result (λ next. IsStill next.fault a c)
  twice-still place bytes progress between new tried full a b c (Ok next) is after shown still =
      λ none. still none
      ∙ after-still place bytes progress next between new tried a b full is after shown none
  twice-still place bytes progress between new tried full a b c (Err why) is after shown still = tt

  -- ---- one record more

  commit-none : (due : Bool) (progress next : Progress) (old new : V)
      → IsCommittedIf answers replies load due progress old next new → next.fault ≡ None
      → progress.fault ≡ None
  commit-none true progress next old new commit none = none-committed commit.reply progress
      (sym (ap (λ (it : Progress). it.fault) commit.next_is) ∙ none)
  commit-none false progress next old new commit none =
      sym (ap (λ (it : Progress). it.fault) commit.0) ∙ none

  pub one-still : (due : Bool) (progress : Progress) (old new : V) (a b c : Shown)
      (result : Result Progress RunNo)
      → IfOk result (λ next. IsCommittedIf answers replies load due progress old next new)
      → IfOk result (λ next. IsStill next.fault b c) → IsStill progress.fault a b
      → IfOk result (λ next. IsStill next.fault a c)
  one-still due progress old new a b c (Ok next) commit still first = λ none.
      still none ∙ first (commit-none due progress next old new commit none)
  one-still due progress old new a b c (Err why) commit still first = tt

  pub one-fed : (one : Visited) (progress read fed : Progress) (due : Bool) (old between new : V)
      (result : Result Progress RunNo) → read ≡ with_read progress
      → IsPutTwice answers replies load (place_of load read.tally.read one) one.1 read old fed
      between → due ≡ is_due fed
      → IfOk result (λ next. IsCommittedIf answers replies load due fed between next new)
      → IfOk result (λ next. IsOneFed answers replies load one progress old next new)
  one-fed one progress read fed due old between new (Ok next) read-is put due-is commit = record {
    fed = fed;
    between = between;
    put = subst (λ (it : Progress). IsPutTwice answers replies load
        (place_of load it.tally.read one) one.1 it old fed between) read-is put;
    commit = subst (λ (is : Bool). IsCommittedIf answers replies load is fed between next new)
        due-is commit;
  }
  one-fed one progress read fed due old between new (Err why) read-is put due-is commit = tt

  -- ---- records

  pub fed-none : (one : Visited) (progress next : Progress) (old new : V)
      → IsFedUnless answers replies load progress.fault one progress old next new
      → next.fault ≡ None → progress.fault ≡ None
  fed-none one progress next old new fed none = by progress.fault refl fed
    where
      by : (fault : Option ℕ) → progress.fault ≡ fault
          → IsFedUnless answers replies load fault one progress old next new
          → progress.fault ≡ None
      by None is fed = is
      by (Some fault) is fed = sym (ap (λ (it : Progress). it.fault) fed.0) ∙ none

  take-one : (records : List Visited) (count : ℕ) (one : Visited) → count < length records
      → one ≡ get_or records count one → take (count + 1) records ≡ take count records ++ one ∷ []
  take-one records count one near at = take_more records count one near
      ∙ ap (λ (it : Visited). take count records ++ it ∷ []) (sym at)

  -- the record as it is handed over
  whole : (one : Visited) (at bytes : List ℕ) (progress next : Progress) (old new : V)
      → at ≡ one.0 → bytes ≡ one.1
      → IsFedUnless answers replies load progress.fault (at, bytes) progress old next new
      → IsFedUnless answers replies load progress.fault one progress old next new
  whole one at bytes progress next old new at-is bytes-is fed =
      subst (λ (it : List ℕ).
      IsFedUnless answers replies load progress.fault (one.0, it) progress old next new) bytes-is
      (subst (λ (it : List ℕ).
      IsFedUnless answers replies load progress.fault (it, bytes) progress old next new) at-is fed)

  module _ (records : List Visited) (count : ℕ) (one : Visited) (at bytes : List ℕ)
      (first now next : Progress) (old between new : V) (near : count < length records)
      (is : one ≡ get_or records count one) (at-is : at ≡ one.0) (bytes-is : bytes ≡ one.1)
      (fed : IsFedUnless answers replies load now.fault (at, bytes) now between next new) where
    pub fed-more : AreFed answers replies load first old (take count records) now between
        → AreFed answers replies load first old (take (count + 1) records) next new
    fed-more come = subst (λ (them : List Visited).
        AreFed answers replies load first old them next new)
        (sym (take-one records count one near is))
        (OneFed (take count records) now between one next new come
        (whole one at bytes now next between new at-is bytes-is fed))

    pub fed-still : (a b c : Shown) → IsStill now.fault a b → IsStill next.fault b c
        → IsStill next.fault a c
    fed-still a b c first-still still none = still none ∙ first-still
        (fed-none (at, bytes) now next between new fed none)
