-- The steps of a replacement: after each call, what a crash may leave of the two blocks.
use Rattle.std.proofs.Common.{◌≡◌, ◌≢◌, ⊎_elim, inl, inr, ◌<◌, ℕ, ◌+◌, Bool, IsTrue, List}
use Rattle.std.proofs.Common.{[], ◌∷◌, ◌++◌, length, take, get_or, All, Vec, subst, slice_set, Some}
use Rattle.std.proofs.Common.{None, unwrap_or, sym, ap, ◌∙◌, refl, arith}
use Rattle.std.proofs.lemmas.List.{get_or_default, get_or-map, length-map}
use Rattle.std.specs.declared.alloc.Global.{Global}
use Rattle.vr_types.specs.Image.{Block, Image, block_at}
use Rattle.vr_types.specs.Seen.{Seen, Left, Only}
use Rattle.vr_types.specs.Blocks.{Keeps, Puts}
use Rattle.vr_types.specs.Regions.{IsImageOn, Touches}
use Rattle.vr_types.proofs.CallerLemmas.{only-keeps, only-elsewhere, keeps-none, keeps-touches}
use Rattle.vr_types.proofs.CallerLemmas.{puts-touches, touches-then, touches-weaken}
use Rattle.vr_device.specs.WriteAhead.{kept, recovered, IsPair, IsSettled, IsOneOf, content_after}
use Rattle.vr_device.specs.WriteAhead.{IsAfterSome}
use Rattle.vr_device.specs.PastEvent.{blocks_of}
use Rattle.vr_device.proofs.Choosing.{take_next}

pub cleared : (entry : Block) → kept (slice_set entry 0 0) ≡ None
cleared [] = refl
cleared (first ∷ rest) = refl

-- while the log keeps a content, that one is found, and else the block's own
log_has : (log home : ℕ) (image : Image) (content : Block)
    → kept (block_at image log) ≡ Some content → recovered log home image ≡ content
log_has log home image content is = ap (λ k. unwrap_or k (block_at image home)) is

home_has : (log home : ℕ) (image : Image) (content : Block) → kept (block_at image log) ≡ None
    → block_at image home ≡ content → recovered log home image ≡ content
home_has log home image content none is = ap (λ k. unwrap_or k (block_at image home)) none ∙ is

module _ (tells : Bool) (told : IsTrue tells) (log home : ℕ) (apart : log ≢ home)
    (before after : Block) where
  abbrev Found : Image → Type 0
  Found = IsOneOf log home before after

  abbrev Pair : ℕ → Type 0
  Pair = IsPair log home

  other : home ≢ log
  other same = apart (sym same)

  -- at rest
  pub at_rest : (a : Seen) → log < a.count → home < a.count
      → Only a log (λ block. kept block ≡ None) → Only a home (λ block. block ≡ before)
      → (image : Image) → IsImageOn Pair a.count a.may image → Found image
  at_rest a below_log below_home log_is home_is image on =
      inl (home_has log home image before (log_is _ (on.each log below_log (inl refl)))
      (home_is _ (on.each home below_home (inr refl))))

  -- the log is put: it keeps nothing, or what the block has
  pub logging : (a b : Seen) (entry : Block) → log < a.count → home < a.count
      → kept entry ≡ Some before → Only a log (λ block. kept block ≡ None)
      → Only a home (λ block. block ≡ before) → Puts tells log entry a b → Touches Pair Found a b
  logging a b entry below_log below_home keeps log_is home_is put =
      puts-touches tells Pair Found log entry a b told (inl refl) put (λ image on.
      let in_home : block_at image home ≡ before =
      ⊎_elim (home_is _) (λ new. absurd (other new.0)) (on.each home below_home (inr refl)) in
      inl (⊎_elim (λ old. home_has log home image before (log_is _ old) in_home)
      (λ new. log_has log home image before (ap kept new.1 ∙ keeps))
      (on.each log below_log (inl refl))))

  -- the block is put: the log keeps what it had
  pub replacing : (a b : Seen) (entry : Block) → log < a.count → kept entry ≡ Some before
      → Only a log (λ block. block ≡ entry) → Puts tells home after a b → Touches Pair Found a b
  replacing a b entry below_log keeps log_is put =
      puts-touches tells Pair Found home after a b told (inr refl) put (λ image on.
      inl (⊎_elim (λ old. log_has log home image before (ap kept (log_is _ old) ∙ keeps))
      (λ new. absurd (apart new.0)) (on.each log below_log (inl refl))))

  -- the log is cleared: it keeps what the block had, or nothing
  pub clearing : (a b : Seen) (entry clear : Block) → log < a.count → home < a.count
      → kept entry ≡ Some before → kept clear ≡ None → Only a log (λ block. block ≡ entry)
      → Only a home (λ block. block ≡ after) → Puts tells log clear a b → Touches Pair Found a b
  clearing a b entry clear below_log below_home keeps clears log_is home_is put =
      puts-touches tells Pair Found log clear a b told (inl refl) put (λ image on.
      let in_home : block_at image home ≡ after =
      ⊎_elim (home_is _) (λ new. absurd (other new.0)) (on.each home below_home (inr refl)) in
      ⊎_elim (λ old. inl (log_has log home image before (ap kept (log_is _ old) ∙ keeps)))
      (λ new. inr (home_has log home image after (ap kept new.1 ∙ clears) in_home))
      (on.each log below_log (inl refl)))

  -- the whole
  pub replaced : (s t u v w : Seen) (entry clear : Block) → log < s.count → home < s.count
      → Only s log (λ block. kept block ≡ None) → Only s home (λ block. block ≡ before)
      → Keeps tells s t → kept entry ≡ Some before → Puts tells log entry t u
      → Only u log (λ block. block ≡ entry) → Puts tells home after u v
      → Only v home (λ block. block ≡ after)
      → kept clear ≡ None → Puts tells log clear v w → Touches Pair Found s w
  replaced s t u v w entry clear below_log below_home log_is home_is got keeps first first_is
      second second_is clears third =
      let log_in_t : log < t.count = omega (arith, below_log, got.count_same) in
      let home_in_t : home < t.count = omega (arith, below_home, got.count_same) in
      let log_in_u : log < u.count = omega (arith, log_in_t, first.count_same) in
      let log_in_v : log < v.count = omega (arith, log_in_u, second.count_same) in
      let home_in_v : home < v.count = omega
      (arith, home_in_t, first.count_same, second.count_same) in
      touches-then Pair Found s t w (keeps-touches tells Pair Found s t told got
      (at_rest s below_log below_home log_is home_is))
      (touches-then Pair Found t u w
      (logging t u entry log_in_t home_in_t keeps
      (only-keeps tells s t log _ told below_log got log_is)
      (only-keeps tells s t home _ told below_home got home_is) first)
      (touches-then Pair Found u v w (replacing u v entry log_in_u keeps first_is second)
      (clearing v w entry clear log_in_v home_in_v keeps clears
      (only-elsewhere tells u v log home after _ told log_in_u apart second first_is) second_is
      third)))

content_after-more : (content next : Block) (contents : List Block)
    → content_after content (contents ++ next ∷ []) ≡ next
content_after-more content next [] = refl
content_after-more content next (first ∷ rest) = content_after-more first next rest

-- A loop of replacements, the first i of them made.
pub record AreMade (tells : Bool) (log home : ℕ) (contents : List Block) (i : ℕ)
    (first now : Seen) : Type 0 where
  pub count_same : now.count ≡ first.count
  pub size_same : now.size ≡ first.size
  pub settled : IsTrue tells → IsSettled log home now
  pub content : IsTrue tells → block_at now.cur home ≡ content_after (block_at first.cur home)
      (take i contents)
  pub moments : IsTrue tells → Touches (IsPair log home)
      (IsAfterSome log home (block_at first.cur home) contents) first now

module _ (tells : Bool) (log home : ℕ) (contents : List Block) (first : Seen) where
  before : Block
  before = block_at first.cur home

  -- none yet. `within` is the law `images_may`.
  pub made-none : log < first.count → home < first.count
      → (IsTrue tells → (image : Image) → first.images first.moment image → Left first image)
      → (IsTrue tells → IsSettled log home first) → AreMade tells log home contents 0 first first
  unfolding before
  made-none below_log below_home within settled = record {
    count_same = refl;
    size_same = refl;
    settled = settled;
    content = λ told. refl;
    moments = λ told. keeps-touches tells _ _ first first told (keeps-none tells first within)
        (λ image on. (
          0,
          omega arith,
          home_has log home image before
              ((settled told).log_is _ (on.each log below_log (inl refl)))
              ((settled told).home_is _ (on.each home below_home (inr refl))),
        ));
  }

  -- one of two contents in turn is one of them all
  turn : (now : Seen) (i : ℕ) (next : Block) → i < length contents → next ≡ get_or contents i next
      → block_at now.cur home ≡ content_after before (take i contents)
      → (image : Image) → IsOneOf log home (block_at now.cur home) next image
      → IsAfterSome log home before contents image
  turn now i next below is content image found = ⊎_elim
      (λ old. (i, omega (arith, below), old ∙ content))
      (λ new. (
        i + 1,
        omega (arith, below),
        new
            ∙ sym (content_after-more before next (take i contents))
            ∙ ap (content_after before) (sym (take_next contents i next below is)),
      ))
      found

  -- one more, whether it fails or not
  pub made-more : (now last : Seen) (i : ℕ) (next : Block) → i < length contents
      → next ≡ get_or contents i next → AreMade tells log home contents i first now → IsTrue tells
      → Touches (IsPair log home) (IsOneOf log home (block_at now.cur home) next) now last
      → Touches (IsPair log home) (IsAfterSome log home (block_at first.cur home) contents) first
      last
  unfolding before
  made-more now last i next below is made told call =
      touches-then _ _ first now last (made.moments told)
      (touches-weaken _ _ _ now last call (turn now i next below is (made.content told)))

  -- one more that was Ok
  pub made-next : (now last : Seen) (i : ℕ) (next : Block) → i < length contents
      → next ≡ get_or contents i next → AreMade tells log home contents i first now
      → last.count ≡ now.count → last.size ≡ now.size
      → (IsTrue tells → Touches (IsPair log home)
      (IsOneOf log home (block_at now.cur home) next) now last)
      → (IsTrue tells → IsSettled log home last) → (IsTrue tells → block_at last.cur home ≡ next)
      → AreMade tells log home contents (i + 1) first last
  unfolding before
  made-next now last i next below is made counts sizes call settled content = record {
    count_same = counts ∙ made.count_same;
    size_same = sizes ∙ made.size_same;
    settled = settled;
    content = λ told. content told ∙ sym (content_after-more before next (take i contents))
        ∙ ap (content_after before) (sym (take_next contents i next below is));
    moments = λ told. made-more now last i next below is made told (call told);
  }

-- the content that the loop is at
pub content-at : (contents : List (Vec ℕ Global)) (i : ℕ) (item : Vec ℕ Global) (next : Block)
    → i < length contents → item ≡ get_or contents i item → next ≡ item.items
    → next ≡ get_or (blocks_of contents) i next
content-at contents i item next below is same =
    same ∙ ap (λ v. v.items) is ∙ sym (get_or-map (λ v. v.items) contents i item [] below)
    ∙ sym (get_or_default (blocks_of contents) i next []
    (omega (arith, below, length-map contents (λ (v : Vec ℕ Global). v.items))))

pub content-has : (P : Block → Type 0) (contents : List (Vec ℕ Global)) (i : ℕ)
    (item : Vec ℕ Global) (next : Block) → All P (blocks_of contents) → i < length contents
    → item ≡ get_or contents i item → next ≡ item.items → P next
content-has P contents i item next all below is same =
    subst P (sym (content-at contents i item next below is same))
    (all i next (omega (arith, below, length-map contents (λ (v : Vec ℕ Global). v.items))))
