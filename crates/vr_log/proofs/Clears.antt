-- What clearing the blocks past the end of a log makes of them, call by call.
use Rattle.std.proofs.Common.{◌≡◌, ◌⊎◌, ◌≢◌, ◌<◌, ◌≤◌, ◌+◌, ℕ, Bool, IsTrue, List, [], length}
use Rattle.std.proofs.Common.{refl, sym, ap, subst, ◌∙◌, arith, inl, inr, ⊎_elim, max}
use Rattle.std.proofs.Common.{get_or-set_other, get_or-set_same, replicate}
use Rattle.std.specs.Prelude.{slice_set, Result, Ok, Err, OnOk}
use Rattle.std.proofs.lemmas.Bool.{cases_lt, cases_eq}
use Rattle.std.proofs.lemmas.List.{length-replicate}
use Rattle.std.proofs.lemmas.List.Elements.{All-replicate}
use Rattle.vr_types.specs.Blocks.{AllForced, Keeps}
use Rattle.vr_types.specs.Fields.{AreZeros}
use Rattle.vr_types.specs.Geometry.{IsAllowed}
use Rattle.vr_types.specs.Image.{Block, Image, MayAlso, block_at}
use Rattle.vr_types.specs.Regions.{IsImageOn, Outside, Touches}
use Rattle.vr_types.specs.Seen.{Left, Only, Seen}
use Rattle.vr_types.specs.declared.geometry.Geometry.{Geometry}
use Rattle.vr_types.proofs.CallerLemmas.{block_size_least, cur-elsewhere, keeps-then, keeps-touches}
use Rattle.vr_types.proofs.CallerLemmas.{only-elsewhere, only-keeps, puts-touches, touches-then}
use Rattle.vr_log.specs.Clearing.{AreCleared, ClearsOne, IsStale}
use Rattle.vr_log.specs.Content.{Content}
use Rattle.vr_log.specs.LogBlock.{generation_in}
use Rattle.vr_log.specs.LogNow.{IsOf, last_index, made}
use Rattle.vr_log.specs.Records.{bytes_of}
use Rattle.vr_log.specs.Spells.{Spells}
use Rattle.vr_log.specs.declared.record.LogRecord.{LogRecord}
use Rattle.vr_log.specs.Standing.{EndsThere, InLog, IsSettled, LogStands}
use Rattle.vr_log.proofs.Zeroing.{before_last, stale_cleared}
use Rattle.vr_log.proofs.Leaving.{next-has}
use Rattle.vr_log.proofs.Settled.{made_stands, spells-same}
use Rattle.vr_log.proofs.Unique.{zeros-generation}

-- whether the block of an index has to be cleared
abbrev pub Stale : Geometry → Content → ℕ → Block → Type 0
Stale geometry content index block =
    IsStale (max 1 content.generation) (last_index geometry (bytes_of content.records)) index block

-- what calls that clear blocks came to so far
pub record HasCleared (tells : Bool) (geometry : Geometry) (content : Content) (first now : Seen)
    : Type 0 where
  pub touches : Touches (InLog geometry) (λ image. Spells geometry image content) first now
  pub cleared : AreCleared (made geometry content) first.cur now.cur
  pub idle : EndsThere (made geometry content) first.cur → Keeps tells first now

-- no block before this index has to be cleared
abbrev pub IsCleanTo : Geometry → Content → ℕ → Image → Type 0
IsCleanTo geometry content index image =
    (i : ℕ) → i < index → Stale geometry content i (block_at image (1 + i)) → ⊥

-- zeros go on with no log, and have no later generation
pub zeros_clean : (generation last index : ℕ) (zeros : Block) → 1 ≤ generation → AreZeros zeros
    → 8 ≤ length zeros → IsStale generation last index zeros → ⊥
zeros_clean generation last index zeros some are long (inl past) =
    absurd (omega (
      arith,
      (next-has generation index zeros past.1).0,
      zeros-generation zeros long are,
      some,
    ))
zeros_clean generation last index zeros some are long (inr later) =
    absurd (omega (arith, later, zeros-generation zeros long are))

-- zeros are zeros
pub zeros_are_zeros : (count : ℕ) → AreZeros (replicate count 0)
zeros_are_zeros count = All-replicate (λ (b : ℕ). b ≡ 0) count 0 refl

-- the block to which the bytes after the same records go
pub last_of_same : (geometry : Geometry) (records same : List LogRecord) (last : ℕ)
    → last ≡ last_index geometry (bytes_of same) → same ≡ records
    → last ≡ last_index geometry (bytes_of records)
last_of_same geometry records same last is are =
    subst (λ (rs : List LogRecord). last ≡ last_index geometry (bytes_of rs)) are is

-- what comes of an Ok
pub on_ok : {T E : Type 0} (result : Result T E) (A B : Type 0) → (A → B) → OnOk result A
    → OnOk result B
on_ok (Ok x) A B more holds = more holds
on_ok (Err e) A B more holds = tt

-- blocks that are as they were, but for one that became zeros at most
one-other : (tells : Bool) (generation last index m : ℕ) (mid now : Seen) → IsTrue tells
    → m ≢ 1 + index → ClearsOne tells generation last index mid now
    → block_at now.cur m ≡ block_at mid.cur m
one-other tells generation last index m mid now told other (inl keeps) =
    ap (λ (image : Image). block_at image m) (keeps.content told)
one-other tells generation last index m mid now told other (inr puts) =
    cur-elsewhere tells mid now m (1 + index) (replicate mid.size 0) told other puts.1

only-other : (tells : Bool) (generation last index m : ℕ) (mid now : Seen) → IsTrue tells
    → m < mid.count → m ≢ 1 + index → ClearsOne tells generation last index mid now
    → Only mid m (λ block. block ≡ block_at mid.cur m)
    → Only now m (λ block. block ≡ block_at mid.cur m)
only-other tells generation last index m mid now told below other (inl keeps) only =
    only-keeps tells mid now m (λ block. block ≡ block_at mid.cur m) told below keeps only
only-other tells generation last index m mid now told below other (inr puts) only =
    only-elsewhere tells mid now m (1 + index) (replicate mid.size 0)
    (λ block. block ≡ block_at mid.cur m) told below other puts.1 only

module _ (tells : Bool) (told : IsTrue tells) (geometry : Geometry) (content : Content)
    (allowed : IsAllowed geometry) where
  abbrev Region : ℕ → Type 0
  Region n = InLog geometry n

  abbrev Has : Image → Type 0
  Has image = Spells geometry image content

  in_log : (index : ℕ) → index < geometry.log → InLog geometry (1 + index)
  in_log index below = (omega arith, omega (arith, below))

  inside : (seen : Seen) → IsOf geometry seen → (index : ℕ) → index < geometry.log
      → 1 + index < seen.count
  inside seen shape index below = omega (arith, below, shape.count, allowed.two_areas)

  -- each image of blocks that a crash leaves alone spells what they spell
  settled-spells : (seen : Seen) → IsOf geometry seen → IsSettled geometry seen → Has seen.cur
      → (image : Image) → IsImageOn Region seen.count seen.may image → Has image
  settled-spells seen shape settled spells image on =
      spells-same geometry seen.cur image content allowed.some_log
      (λ i below. settled (1 + i) (in_log i below) (block_at image (1 + i))
      (on.each (1 + i) (inside seen shape i below) (in_log i below))) spells

  pub first_cleared : (seen : Seen) → IsOf geometry seen → IsSettled geometry seen → Has seen.cur
      → Keeps tells seen seen → HasCleared tells geometry content seen seen
  first_cleared seen shape settled spells keeps = record {
    touches = keeps-touches tells Region Has seen seen told keeps
        (settled-spells seen shape settled spells);
    cleared = λ index below. inl refl;
    idle = λ ends. keeps;
  }

  -- the blocks that are read have their size
  sized_left : (seen : Seen) → IsOf geometry seen → Left seen seen.cur
      → ((n : ℕ) (block : Block) → n < seen.count → seen.may n block → length block ≡ seen.size)
      → (n : ℕ) → InLog geometry n → length (block_at seen.cur n) ≡ geometry.size
  sized_left seen shape left whole n on =
      let low : n < seen.count = omega (arith, on.1, shape.count, allowed.two_areas) in
      whole n (block_at seen.cur n) low (left.each n low) ∙ shape.size

  pub first_clean : (seen : Seen) → IsOf geometry seen → Left seen seen.cur
      → ((n : ℕ) (block : Block) → n < seen.count → seen.may n block → length block ≡ seen.size)
      → Has seen.cur
      → IsCleanTo geometry content (last_index geometry (bytes_of content.records)) seen.cur
  first_clean seen shape left whole spells i before (inl past) =
      absurd (omega (arith, past.0, before))
  first_clean seen shape left whole spells i before (inr later) =
      absurd (omega (
        arith,
        later,
        before_last geometry seen.cur content i allowed (sized_left seen shape left whole) before
            spells,
      ))

  -- what is read is one of the images
  pub spells_now : (first now : Seen) → HasCleared tells geometry content first now
      → Left now now.cur → Has now.cur
  spells_now first now so_far left =
      so_far.touches.rest now.cur (record { each = λ n low on. left.each n low })

  -- one block more
  module _ (first mid now : Seen) (shape : IsOf geometry mid) (settled : IsSettled geometry mid)
      (left : Left mid mid.cur)
      (whole : (n : ℕ) (block : Block) → n < mid.count → mid.may n block
      → length block ≡ mid.size) (so_far : HasCleared tells geometry content first mid)
      (index : ℕ) (below : index < geometry.log) (generation last : ℕ)
      (young : generation ≡ max 1 content.generation)
      (at : last ≡ last_index geometry (bytes_of content.records)) where
    abbrev zeros : Block
    zeros = replicate mid.size 0

    abbrev Next : Image
    Next = slice_set mid.cur (1 + index) zeros

    there : 1 + index < length mid.cur
    there = omega (arith, left.length_is, inside mid shape index below)

    long : length zeros ≡ geometry.size
    long = length-replicate mid.size 0 ∙ shape.size

    spelled : Has mid.cur
    spelled = spells_now first mid so_far left

    spelled-next : Stale geometry content index (block_at mid.cur (1 + index)) → Has Next
    spelled-next stale =
        stale_cleared geometry mid.cur content index zeros allowed
        (sized_left mid shape left whole) stale below
        (zeros_are_zeros mid.size)
        (omega (arith, long, block_size_least geometry.size allowed.size)) there spelled

    next-here : block_at Next (1 + index) ≡ zeros
    next-here = get_or-set_same mid.cur (1 + index) zeros [] there

    next-other : (i : ℕ) → i ≢ index → block_at Next (1 + i) ≡ block_at mid.cur (1 + i)
    next-other i differ =
        get_or-set_other mid.cur (1 + index) (1 + i) zeros []
        (λ is. differ (omega (arith, is)))

    -- a block of an image while zeros are put
    each-was : (image : Image)
        → IsImageOn Region mid.count (MayAlso mid.may (1 + index) zeros) image
        → (i : ℕ) → i < geometry.log → (block_at image (1 + i) ≡ block_at mid.cur (1 + i))
        ⊎ ((i ≡ index) × (block_at image (1 + i) ≡ zeros))
    each-was image on i low =
        ⊎_elim (λ was. inl (settled (1 + i) (in_log i low) (block_at image (1 + i)) was))
        (λ new. inr (omega (arith, new.0), new.1))
        (on.each (1 + i) (inside mid shape i low) (in_log i low))

    put-spells : Stale geometry content index (block_at mid.cur (1 + index)) → (image : Image)
        → IsImageOn Region mid.count (MayAlso mid.may (1 + index) zeros) image → Has image
    put-spells stale image on =
        ⊎_elim
        (λ (same : block_at image (1 + index) ≡ block_at mid.cur (1 + index)).
        spells-same geometry mid.cur image content allowed.some_log
        (λ i low. ⊎_elim (λ was. was)
        (λ new. subst (λ (n : ℕ). block_at image (1 + n) ≡ block_at mid.cur (1 + n)) (sym new.0)
        same) (each-was image on i low)) spelled)
        (λ new. spells-same geometry Next image content allowed.some_log
        (λ i low. ⊎_elim
        (λ (same : i ≡ index).
        subst (λ (n : ℕ). block_at image (1 + n) ≡ block_at Next (1 + n)) (sym same)
        (new.1 ∙ sym next-here))
        (λ (differ : i ≢ index). ⊎_elim (λ was. was ∙ sym (next-other i differ))
        (λ here. absurd (differ here.0)) (each-was image on i low)) (cases_eq i index))
        (spelled-next stale)) (each-was image on index below)

    was-stale : Stale geometry content index (block_at mid.cur (1 + index))
        → Stale geometry content index (block_at first.cur (1 + index))
    was-stale stale =
        ⊎_elim
        (λ same. subst (λ (b : Block). Stale geometry content index b) same stale)
        (λ new. new.0) (so_far.cleared index below)

    next-cleared : Stale geometry content index (block_at mid.cur (1 + index))
        → AreCleared (made geometry content) first.cur Next
    next-cleared stale i low =
        ⊎_elim
        (λ (same : i ≡ index).
        subst (λ (n : ℕ). (block_at Next (1 + n) ≡ block_at first.cur (1 + n))
        ⊎ (Stale geometry content n (block_at first.cur (1 + n))
        × AreZeros (block_at Next (1 + n)))) (sym same)
        (inr (was-stale stale, subst AreZeros (sym next-here) (zeros_are_zeros mid.size))))
        (λ (differ : i ≢ index).
        subst (λ (b : Block). (b ≡ block_at first.cur (1 + i))
        ⊎ (Stale geometry content i (block_at first.cur (1 + i)) × AreZeros b))
        (sym (next-other i differ)) (so_far.cleared i low)) (cases_eq i index)

    never : Stale geometry content index (block_at first.cur (1 + index))
        → EndsThere (made geometry content) first.cur → ⊥
    never (inl past) ends = ends.none_on index below past.0 past.1
    never (inr later) ends = omega (arith, later, ends.none_later index below)

    abbrev Clears : Type 0
    Clears = ClearsOne tells (max 1 content.generation)
        (last_index geometry (bytes_of content.records)) index mid now

    as-made : (P : ℕ → ℕ → Type 0) → P generation last
        → P (max 1 content.generation) (last_index geometry (bytes_of content.records))
    as-made P holds =
        subst (λ (n : ℕ). P n (last_index geometry (bytes_of content.records))) young
        (subst (λ (m : ℕ). P generation m) at holds)

    call-cleared : Clears → HasCleared tells geometry content first now
    call-cleared (inl keeps) = record {
      touches = touches-then Region Has first mid now so_far.touches
          (keeps-touches tells Region Has mid now told keeps
          (settled-spells mid shape settled spelled));
      cleared = subst (λ (image : Image). AreCleared (made geometry content) first.cur image)
          (sym (keeps.content told)) so_far.cleared;
      idle = λ ends. keeps-then tells first mid now (so_far.idle ends) keeps;
    }
    call-cleared (inr (stale, puts)) = record {
      touches = touches-then Region Has first mid now so_far.touches
          (puts-touches tells Region Has (1 + index) zeros mid now told (in_log index below) puts
          (put-spells stale));
      cleared = ⊎_elim
          (λ same. subst (λ (image : Image). AreCleared (made geometry content) first.cur image)
          (sym same) so_far.cleared)
          (λ new. subst (λ (image : Image). AreCleared (made geometry content) first.cur image)
          (sym new) (next-cleared stale)) (puts.content told);
      idle = λ ends. absurd (never (was-stale stale) ends);
    }

    pub next_cleared : ClearsOne tells generation last index mid now
        → HasCleared tells geometry content first now
    next_cleared clears =
        call-cleared (as-made (λ (n m : ℕ). ClearsOne tells n m index mid now) clears)

    -- where it was Ok
    pub next_settled : ClearsOne tells generation last index mid now
        → Only now (1 + index) (λ block. block ≡ block_at now.cur (1 + index))
        → IsSettled geometry now
    next_settled clears only n on =
        ⊎_elim
        (λ (same : n ≡ 1 + index).
        subst (λ (m : ℕ). Only now m (λ block. block ≡ block_at now.cur m)) (sym same) only)
        (λ (differ : n ≢ 1 + index) block may.
        only-other tells generation last index n mid now told
        (omega (arith, on.1, shape.count, allowed.two_areas)) differ clears (settled n on) block may
        ∙ sym (one-other tells generation last index n mid now told differ clears))
        (cases_eq n (1 + index))

    pub next_clean : ClearsOne tells generation last index mid now
        → IsCleanTo geometry content index mid.cur
        → (IsStale generation last index (block_at now.cur (1 + index)) → ⊥)
        → IsCleanTo geometry content (index + 1) now.cur
    next_clean clears clean here i low =
        ⊎_elim
        (λ (less : i < index).
        subst (λ (b : Block). Stale geometry content i b → ⊥)
        (sym (one-other tells generation last index (1 + i) mid now told
        (λ is. omega (arith, is, less)) clears)) (clean i less))
        (λ (most : index ≤ i).
        let same : i ≡ index = omega (arith, low, most) in
        subst (λ (n : ℕ). Stale geometry content n (block_at now.cur (1 + n)) → ⊥) (sym same)
        (as-made (λ (n m : ℕ). IsStale n m index (block_at now.cur (1 + index)) → ⊥) here))
        (cases_lt i index)

  -- all of them
  pub clean_ends : (image : Image) → IsCleanTo geometry content geometry.log image
      → EndsThere (made geometry content) image
  clean_ends image clean = record {
    none_on = λ index below past next. clean index below (inl (past, next));
    none_later = λ index below. ⊎_elim
        (λ (later : max 1 content.generation < generation_in (block_at image (1 + index))). absurd
        (clean index below (inr later)))
        (λ (most : generation_in (block_at image (1 + index)) ≤ max 1 content.generation). most)
        (cases_lt (max 1 content.generation) (generation_in (block_at image (1 + index))));
  }

  pub clean_stands : (seen : Seen) → IsOf geometry seen → IsSettled geometry seen
      → Left seen seen.cur
      → ((n : ℕ) (block : Block) → n < seen.count → seen.may n block → length block ≡ seen.size)
      → Has seen.cur → IsCleanTo geometry content geometry.log seen.cur
      → LogStands (made geometry content) seen
  clean_stands seen shape settled left whole spells clean =
      made_stands geometry content seen allowed shape spells settled (clean_ends seen.cur clean)
      (sized_left seen shape left whole)

  -- where a crash left what was read alone, it does so still
  pub still_forced : (first now : Seen) → Touches Region Has first now → IsSettled geometry now
      → AllForced first.count first.cur first.may → AllForced now.count now.cur now.may
  still_forced first now touches settled forced n block low may =
      ⊎_elim
      (λ (some : 0 < n). ⊎_elim
      (λ (past : geometry.log < n). outside (λ on. omega (arith, on.1, past)))
      (λ (within : n ≤ geometry.log). settled n (omega (arith, some), within) block may)
      (cases_lt geometry.log n))
      (λ (none : n ≤ 0). outside (λ on. omega (arith, on.0, none))) (cases_lt 0 n)
    where
      outside : Outside Region n → block ≡ block_at now.cur n
      outside out =
          forced n block (omega (arith, low, touches.count_same))
          (touches.adds_none n block (omega (arith, low, touches.count_same)) out may)
          ∙ sym (touches.content n out)
