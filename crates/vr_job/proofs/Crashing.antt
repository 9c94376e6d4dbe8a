-- An image that a shorter history allows, a longer one allows.
use Rattle.std.proofs.Common.{◌≡◌, inl, inr, ⊎_elim, ◌∙◌, ℕ, List, [], ◌++◌, None, refl, ap, subst}
use Rattle.std.proofs.Common.{append_assoc, sym}
use Rattle.std.proofs.lemmas.List.{append-nil}
use Rattle.vr_types.specs.Image.{Image}
use Rattle.vr_types.specs.Seen.{Seen}
use Rattle.vr_types.specs.Moments.{Guards}
use Rattle.vr_types.proofs.CallerLemmas.{guards-then, guards-weaken}
use Rattle.vr_types.specs.declared.geometry.Geometry.{Geometry}
use Rattle.vr_types.specs.declared.unit.Unit.{Unit as UnitOfRecovery}
use Rattle.vr_history.specs.Legal.{state_of}
use Rattle.vr_history.specs.State.{State}
use Rattle.vr_history.specs.declared.entry.Entry.{Entry}
use Rattle.vr_volume.specs.Crashes.{RecoversTo}
use Rattle.vr_record_file.specs.Now.{state_now}
use Rattle.vr_event.specs.Volume.{IsHeld, IsWhole, VolumeNow}
use Rattle.vr_store.proofs.CallerLemmas.{stored-left}
use Rattle.vr_job.specs.Crash.{AreInCommit, IsLeftAt, IsLeftBy}
use Rattle.vr_job.specs.Crash.IsLeftAt.{Counted, Ended}
use Rattle.vr_job.specs.Events.{IsLeftWhile, LeavesAtRest}

commit-more : (counted : List UnitOfRecovery) (entries more : List Entry)
    → AreInCommit counted entries → AreInCommit counted (entries ++ more)
commit-more counted entries more is = ⊎_elim (λ none. inl none)
    (λ one. inr (one.0, one.1 ++ more, ap (λ (es : List Entry). es ++ more) one.2, one.3, one.4)) is

more-after : (geometry : Geometry) (number : ℕ) (opening : State) (before after more : List Entry)
    (image : Image) → IsLeftAt geometry number opening before after image
    → IsLeftAt geometry number opening before (after ++ more) image
more-after geometry number opening before after more image (Counted counted commits recovers) =
    Counted counted (commit-more counted after more commits) recovers
more-after geometry number opening before after more image
    (Ended entry rest is deck commit recovers) =
    Ended entry (rest ++ more) (ap (λ (es : List Entry). es ++ more) is) deck commit recovers

pub left-more : (geometry : Geometry) (number : ℕ) (opening : State) (entries more : List Entry)
    (image : Image) → IsLeftBy geometry number opening entries image
    → IsLeftBy geometry number opening (entries ++ more) image
left-more geometry number opening entries more image is = record {
  before = is.before;
  after = is.after ++ more;
  is = ap (λ (es : List Entry). es ++ more) is.is ∙ append_assoc is.before is.after more;
  left = more-after geometry number opening is.before is.after more image is.left;
}

-- an image that recovers to what is committed by the history so far
pub left-now : (geometry : Geometry) (number : ℕ) (opening : State) (entries made : List Entry)
    (image : Image)
    → RecoversTo geometry number (state_of geometry opening entries) []
    image → IsLeftBy geometry number opening (entries ++ made) image
left-now geometry number opening entries made image is = record {
  before = entries;
  after = made;
  is = refl;
  left = Counted [] (inl refl) is;
}

-- while an event goes on that begins no definition and no change: by the history before it
pub left-while : (geometry : Geometry) (number : ℕ) (opening : State) (entries made : List Entry)
    (counted : List UnitOfRecovery) (image : Image) → AreInCommit counted made
    → RecoversTo geometry number (state_of geometry opening entries) counted image
    → IsLeftWhile geometry number opening entries made image
left-while geometry number opening entries made counted image commits recovers = record {
  first = [];
  rest = made;
  made_are = refl;
  begun = inl refl;
  left = Counted counted commits (subst (λ (es : List Entry).
      RecoversTo geometry number (state_of geometry opening es) counted image)
      (sym (append-nil entries)) recovers);
}

-- calls, one after another
pub guards-on : (geometry : Geometry) (number : ℕ) (opening : State) (entries more : List Entry)
    (a b c : Seen) → Guards a b (IsLeftBy geometry number opening entries)
    → Guards b c (IsLeftBy geometry number opening (entries ++ more))
    → Guards a c (IsLeftBy geometry number opening (entries ++ more))
guards-on geometry number opening entries more a b c first second =
    guards-then a b c (IsLeftBy geometry number opening (entries ++ more))
    (guards-weaken a b (IsLeftBy geometry number opening entries)
    (IsLeftBy geometry number opening (entries ++ more)) first
    (λ image is. left-more geometry number opening entries more image is)) second

-- what a crash may leave of a volume that is held
pub held-left : {B : Type 0} (seen : B → Seen) (opening : State) (volume : VolumeNow B)
    → IsWhole seen volume → IsHeld seen opening volume
    → LeavesAtRest seen volume.file.geometry volume.number opening volume.blocks
    volume.file.entries
held-left seen opening volume whole held none image left =
    let stops : volume.file.stopped ≡ None = held.file.now.stopped ∙ none in
    subst (λ (g : Geometry). RecoversTo g volume.number (state_now opening volume.file) [] image)
    (whole.geometry stops)
    (stored-left volume.number volume.store (state_now opening volume.file) (seen volume.blocks)
    (held.stored stops) image left)
