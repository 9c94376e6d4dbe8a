-- Lists of buffers: one that is moved to the front, and buffers of a device after a call of it.
use Rattle.std.proofs.Common.{◌≡◌, ◌≢◌, ◌<◌, ◌+◌, ◌-◌, ◌∷◌, ◌++◌, ℕ, Bool, IsTrue, List, []}
use Rattle.std.proofs.Common.{Option, Some, None, true, false, refl, sym, ap, ◌∙◌, subst, arith}
use Rattle.std.proofs.Common.{All, length, take, drop, set, map, get_or, slice_set, true≢false, cond}
use Rattle.std.proofs.lemmas.Bool.{eq-eqb, eqb-true}
use Rattle.std.proofs.lemmas.List.{drop-take, drop_more, take-set, drop-set-lt, get_or-set_same}
use Rattle.std.proofs.lemmas.List.{length-set}
use Rattle.std.proofs.lemmas.List.Elements.{All-append, All-cons, All-drop, All-map, All-set}
use Rattle.std.proofs.lemmas.List.Elements.{All-head, All-push, All-take}
use Rattle.std.proofs.lemmas.List.Quantifiers.{position-Some}
use Rattle.std.specs.Option.{is_some}
use Rattle.vr_types.specs.Blocks.{Keeps, Puts}
use Rattle.vr_types.specs.Image.{Block, block_at}
use Rattle.vr_types.specs.Seen.{Seen}
use Rattle.vr_types.proofs.CallerLemmas.{cur-elsewhere, cur-put}
use Rattle.vr_recent.specs.Buffers.{AreOf, Fronts, HasBlock, IsEmpty, IsOf, Sets, forgot, fronted}
use Rattle.vr_recent.specs.Buffers.{holds, is_number, place_of, place_or, without}
use Rattle.vr_recent.specs.declared.buffer.Buffer.{Buffer}

-- ---- one to the front

pub fronted_at : (place : ℕ) (buffers : List Buffer) (d : Buffer) → place < length buffers
    → fronted place buffers ≡ get_or buffers place d ∷ without place buffers
fronted_at place buffers d below = ap (λ (x : List Buffer). x ++ without place buffers)
    (drop-take place 1 buffers ∙ ap (take 1) (drop_more buffers place d below))

pub without_set : (place : ℕ) (buffers : List Buffer) (b : Buffer)
    → without place (set buffers place b) ≡ without place buffers
without_set place buffers b =
    ap (λ (x : List Buffer). x ++ drop (place + 1) (set buffers place b))
    (take-set buffers place b)
    ∙ ap (λ (x : List Buffer). take place buffers ++ x)
    (drop-set-lt (place + 1) buffers place b (omega arith))

pub fronted_set : (place : ℕ) (buffers : List Buffer) (b : Buffer) → place < length buffers
    → fronted place (set buffers place b) ≡ b ∷ without place buffers
fronted_set place buffers b below =
    fronted_at place (set buffers place b) b (omega (arith, below, length-set buffers place b))
    ∙ ap (λ (x : Buffer). x ∷ without place (set buffers place b))
    (get_or-set_same buffers place b b below)
    ∙ ap (λ (x : List Buffer). b ∷ x) (without_set place buffers b)

pub all_without : (P : Buffer → Type 0) (place : ℕ) (buffers : List Buffer) → All P buffers
    → All P (without place buffers)
all_without P place buffers all = All-append P (take place buffers) (drop (place + 1) buffers)
    (All-take P place buffers all) (All-drop P (place + 1) buffers all)

pub all_fronted : (P : Buffer → Type 0) (place : ℕ) (buffers : List Buffer) → All P buffers
    → All P (fronted place buffers)
all_fronted P place buffers all = All-append P (drop place (take (place + 1) buffers))
    (without place buffers) (All-drop P place (take (place + 1) buffers)
    (All-take P (place + 1) buffers all)) (all_without P place buffers all)

-- a list in which a buffer was set, and that buffer moved to the front
pub fronts_set : (P : Buffer → Type 0) (place : ℕ) (buffers after moved : List Buffer)
    → place < length buffers → Sets place P buffers after → moved ≡ fronted place after
    → Fronts place P buffers moved
fronts_set P place buffers after moved below sets front = record {
  first = sets.buffer;
  has = sets.has;
  split = front ∙ ap (fronted place) sets.is ∙ fronted_set place buffers sets.buffer below;
}

-- ---- numbers

pub number_held : (n : ℕ) (number : Option ℕ) → is_number n number ≡ true → number ≡ Some n
number_held n None it = absurd (true≢false (sym it))
number_held n (Some m) it = ap Some (eqb-true m n it)

pub held_number : (n : ℕ) (number : Option ℕ) → number ≡ Some n → is_number n number ≡ true
held_number n number it =
    subst (λ (x : Option ℕ). is_number n x ≡ true) (sym it) (eq-eqb n n refl)

pub not_both : (n : ℕ) (b : Buffer) → holds n b ≡ false → b.number ≡ Some n → ⊥
not_both n b not it = true≢false (sym (held_number n b.number it) ∙ not)

pub some_buffer : (buffers : List Buffer) → 0 < length buffers → Buffer
some_buffer [] some = absurd (omega (arith, some))
some_buffer (b ∷ buffers) some = b

-- where a search finds a block there is a buffer
pub found_below : (n place : ℕ) (buffers : List Buffer) → 0 < length buffers
    → Some place ≡ place_of n buffers → place < length buffers
found_below n place buffers some found =
    (position-Some (holds n) buffers place (some_buffer buffers some) (sym found)).0

-- which holds it
pub found_first : (n place : ℕ) (buffers after : List Buffer) → 0 < length buffers
    → Some place ≡ place_of n buffers → after ≡ fronted place buffers
    → Fronts place (λ b. b.number ≡ Some n) buffers after
found_first n place buffers after some found front =
    let d = some_buffer buffers some in
    let at = position-Some (holds n) buffers place d (sym found) in
    record {
      first = get_or buffers place d;
      has = number_held n (get_or buffers place d).number at.1;
      split = front ∙ fronted_at place buffers d at.0;
    }

-- ---- after a call of the device

-- Buffers of a device are ones of it after a call that puts nothing.
pub of_keeps : (tells : Bool) (old new : Seen) (buffers : List Buffer) → Keeps tells old new
    → AreOf tells old buffers → AreOf tells new buffers
of_keeps tells old new buffers kept are k d below =
    let before = are k d below in
    record {
      length_is = before.length_is ∙ sym kept.size_same;
      content = λ told n held. before.content told n held
          ∙ ap (λ i. block_at i n) (sym (kept.content told));
    }

-- Where one is read into, all are.
pub of_set : (tells : Bool) (old new : Seen) (buffers : List Buffer) (place : ℕ) (b : Buffer)
    → Keeps tells old new → AreOf tells old buffers → IsOf tells new b
    → AreOf tells new (set buffers place b)
of_set tells old new buffers place b kept are is = All-set (IsOf tells new) buffers place b is
    (of_keeps tells old new buffers kept are)

pub forgot_cond : (tells : Bool) (seen : Seen) (b : Buffer) (v : Bool) → IsOf tells seen b
    → IsOf tells seen (cond v (record b { number = None }) b)
forgot_cond tells seen b true is = record {
  length_is = is.length_is;
  content = λ told m held. absurd (true≢false (sym (ap is_some held)));
}
forgot_cond tells seen b false is = is

-- Buffers of a device are ones of it where a block is forgotten.
pub of_forgot : (tells : Bool) (seen : Seen) (n : ℕ) (buffers : List Buffer)
    → AreOf tells seen buffers → AreOf tells seen (map (forgot n) buffers)
of_forgot tells seen n buffers are = All-map (IsOf tells seen) (forgot n) buffers
    (λ k d below. forgot_cond tells seen (get_or buffers k d) (holds n (get_or buffers k d))
    (are k d below))

pub none_cond : (n : ℕ) (b : Buffer) (v : Bool) → holds n b ≡ v
    → holds n (cond v (record b { number = None }) b) ≡ false
none_cond n b true is = refl
none_cond n b false is = is

-- and none holds the block
pub none_forgot : (n : ℕ) (buffers : List Buffer)
    → All (λ b. holds n b ≡ false) (map (forgot n) buffers)
none_forgot n buffers = All-map (λ b. holds n b ≡ false) (forgot n) buffers
    (λ k d below. none_cond n (get_or buffers k d) (holds n (get_or buffers k d)) refl)

-- Buffers that don't hold the block are ones of the device after it was put, failing or not.
pub of_puts : (tells : Bool) (old new : Seen) (n : ℕ) (bytes : Block) (buffers : List Buffer)
    → Puts tells n bytes old new → AreOf tells old buffers → All (λ b. holds n b ≡ false) buffers
    → AreOf tells new buffers
of_puts tells old new n bytes buffers put are none k d below =
    let b = get_or buffers k d in
    let before = are k d below in
    record {
      length_is = before.length_is ∙ sym put.size_same;
      content = λ told m held. before.content told m held
          ∙ sym (cur-elsewhere tells old new m n bytes told
          (λ same. not_both n b (none k d below) (held ∙ ap Some same)) put);
    }

pub of_put : (tells : Bool) (old new : Seen) (n : ℕ) (bytes : Block) (buffers : List Buffer)
    → Puts tells n bytes old new → AreOf tells old buffers
    → AreOf tells new (map (forgot n) buffers)
of_put tells old new n bytes buffers put are =
    of_puts tells old new n bytes (map (forgot n) buffers) put
    (of_forgot tells old n buffers are) (none_forgot n buffers)

-- After a write the block is in the first buffer.
pub of_fronts : (tells : Bool) (old new : Seen) (n place : ℕ) (bytes : Block)
    (buffers after : List Buffer) → (IsTrue tells → length old.cur ≡ old.count) → n < old.count
    → length bytes ≡ old.size → (IsTrue tells → new.cur ≡ slice_set old.cur n bytes)
    → Puts tells n bytes old new → AreOf tells old buffers
    → Fronts place (HasBlock n bytes) (map (forgot n) buffers) after → AreOf tells new after
of_fronts tells old new n place bytes buffers after long below whole written put are fronts =
    let first : IsOf tells new fronts.first = record {
      length_is = ap length fronts.has.bytes_are ∙ whole ∙ sym put.size_same;
      content = λ told m held. fronts.has.bytes_are
          ∙ sym (cur-put old n bytes below (long told) new.cur (written told))
          ∙ ap (block_at new.cur)
          (ap (place_or 0) (sym fronts.has.number_is ∙ held));
    } in
    subst (AreOf tells new) (sym fronts.split) (All-cons (IsOf tells new) fronts.first
    (without place (map (forgot n) buffers)) first
    (all_without (IsOf tells new) place (map (forgot n) buffers)
    (of_put tells old new n bytes buffers put are)))

-- empty buffers are of any device with blocks of their size
pub of_empty : (tells : Bool) (seen : Seen) (buffers : List Buffer)
    → All (IsEmpty seen.size) buffers → AreOf tells seen buffers
of_empty tells seen buffers empty k d below =
    let it = empty k d below in
    record {
      length_is = it.length_is;
      content = λ told n held. absurd (true≢false (sym (ap is_some (sym it.none ∙ held))));
    }

-- the first buffer, as it is lent after it was brought
pub first_of : (tells : Bool) (seen : Seen) (n place : ℕ) (before buffers : List Buffer)
    → AreOf tells seen buffers
    → (fronts : Fronts place (λ b. b.number ≡ Some n) before buffers)
    → IsOf tells seen fronts.first
first_of tells seen n place before buffers are fronts = All-head (IsOf tells seen) fronts.first
    (without place before) (subst (AreOf tells seen) fronts.split are)

pub lent_content : (tells : Bool) (old new : Seen) (n place : ℕ) (before buffers : List Buffer)
    (bytes : Block) → Keeps tells old new → AreOf tells new buffers
    → Fronts place (λ b. b.number ≡ Some n) before buffers
    → ((first : Buffer) (rest : List Buffer) → buffers ≡ first ∷ rest
    → bytes ≡ first.bytes.items) → IsTrue tells → bytes ≡ block_at old.cur n
lent_content tells old new n place before buffers bytes kept are fronts lent told =
    lent fronts.first (without place before) fronts.split
    ∙ (first_of tells new n place before buffers are fronts).content told n fronts.has
    ∙ ap (λ i. block_at i n) (kept.content told)

pub lent_length : (tells : Bool) (old new : Seen) (n place : ℕ) (before buffers : List Buffer)
    (bytes : Block) → Keeps tells old new → AreOf tells new buffers
    → Fronts place (λ b. b.number ≡ Some n) before buffers
    → ((first : Buffer) (rest : List Buffer) → buffers ≡ first ∷ rest
    → bytes ≡ first.bytes.items) → length bytes ≡ old.size
lent_length tells old new n place before buffers bytes kept are fronts lent =
    ap length (lent fronts.first (without place before) fronts.split)
    ∙ (first_of tells new n place before buffers are fronts).length_is ∙ kept.size_same

pub empty_push : (size : ℕ) (buffers : List Buffer) (b : Buffer) → All (IsEmpty size) buffers
    → IsEmpty size b → All (IsEmpty size) (buffers ++ b ∷ [])
empty_push size buffers b all it = All-push (IsEmpty size) buffers b all it

-- buffers stay as long as a block where one is forgotten
pub whole_forgot : (tells : Bool) (seen : Seen) (n : ℕ) (bytes : Block)
    (buffers after : List Buffer) → AreOf tells seen buffers → length bytes ≡ seen.size
    → after ≡ map (forgot n) buffers
    → All (λ b. length b.bytes.items ≡ length bytes) after
whole_forgot tells seen n bytes buffers after are whole is =
    subst (All (λ b. length b.bytes.items ≡ length bytes)) (sym is)
    (λ k d below. (of_forgot tells seen n buffers are k d below).length_is ∙ sym whole)
