-- Lemmas on the sizes of the contents of a past's disk. They stand here, since the laws of a device
-- in memory rest on them and can cite no proofs.
use Rattle.std.proofs.Common.{◌≡◌, ⊎_elim, ℕ, ◌<◌, List, [], ◌∷◌, length, get_or, set, All, refl}
use Rattle.std.proofs.Common.{sym, ap, subst, ◌∙◌, arith, get_or-set_same, get_or-set_other}
use Rattle.std.proofs.Common.{length-set}
use Rattle.std.specs.List.{AllByRecursion}
use Rattle.std.proofs.lemmas.Bool.{cases_eq}
use Rattle.vr_types.specs.Image.{Block, Image, block_at}
use Rattle.vr_device.specs.Disk.{Disk, MayHold, written}
use Rattle.vr_device.specs.Past.{Event, wrote, failed, forced, after, after_all, fresh, Past}
use Rattle.vr_device.specs.Past.{disk_of, EventFits}
use Rattle.vr_device.specs.Choices.{MayHold-written, MayHold-synced}

-- every content that a crash may leave has the size of a block
abbrev pub IsWhole : ℕ → ℕ → Disk → Type 0
IsWhole count size disk = (n : ℕ) (block : Block) → n < count → MayHold disk n block
    → length block ≡ size

-- each block that is read, and each content that a crash may leave, has the size of a block
pub record Sized (count size : ℕ) (disk : Disk) : Type 0 where
  pub length_is : length disk.seen ≡ count
  pub seen : (n : ℕ) → n < count → length (block_at disk.seen n) ≡ size
  pub whole : IsWhole count size disk

whole-written : (count size : ℕ) (disk : Disk) (m : ℕ) (bytes : Block) → length bytes ≡ size
    → IsWhole count size disk → IsWhole count size (written disk m bytes)
whole-written count size disk m bytes long whole n block below holds =
    ⊎_elim (λ old. whole n block below old) (λ new. ap length new.1 ∙ long)
    (MayHold-written disk m bytes n block holds)

pub after-sized : (count size : ℕ) (event : Event) (disk : Disk) → EventFits count size event
    → Sized count size disk → Sized count size (after event disk)
after-sized count size (wrote m bytes) disk fits sized = record {
  length_is = length-set disk.seen m bytes ∙ sized.length_is;
  seen = λ n below. ⊎_elim
      (λ same. subst (λ k. length (get_or (set disk.seen m bytes) k []) ≡ size) (sym same)
      (ap length (get_or-set_same disk.seen m bytes [] (omega (arith, sized.length_is, fits.0)))
      ∙ fits.1))
      (λ other. ap length (get_or-set_other disk.seen m n bytes [] (λ e. other e))
      ∙ sized.seen n below)
      (cases_eq n m);
  whole = whole-written count size disk m bytes fits.1 sized.whole;
}
after-sized count size (failed m bytes) disk fits sized = record {
  length_is = sized.length_is;
  seen = sized.seen;
  whole = whole-written count size disk m bytes fits.1 sized.whole;
}
after-sized count size forced disk fits sized = record {
  length_is = sized.length_is;
  seen = sized.seen;
  whole = λ n block below holds. ap length (MayHold-synced disk n block holds) ∙ sized.seen n below;
}

after_all-sized : (count size : ℕ) (events : List Event) (disk : Disk)
    → AllByRecursion (EventFits count size) events → Sized count size disk
    → Sized count size (after_all events disk)
after_all-sized count size [] disk fits sized = sized
after_all-sized count size (event ∷ events) disk fits sized =
    after_all-sized count size events (after event disk) fits.1
    (after-sized count size event disk fits.0 sized)

-- the same of the disk of a past
abbrev pub IsSized : Past → Type 0
IsSized past = Sized (length past.start) past.size (disk_of past)

pub sized-fresh : (size : ℕ) (blocks : Image) → All (λ block. length block ≡ size) blocks
    → Sized (length blocks) size (fresh blocks)
sized-fresh size blocks sizes = record {
  length_is = refl;
  seen = λ n below. sizes n [] below;
  whole = λ n block below holds. ap length (MayHold-synced (fresh blocks) n block holds)
      ∙ sizes n [] below;
}

pub sized-of : (past : Past) → All (λ block. length block ≡ past.size) past.start
    → AllByRecursion (EventFits (length past.start) past.size) past.events → IsSized past
sized-of past sizes fits = after_all-sized (length past.start) past.size past.events
    (fresh past.start) fits (sized-fresh past.size past.start sizes)
