-- What a crash may leave of a log, call by call, and what each image then has.
use Rattle.std.proofs.Common.{◌≡◌, inl, inr, ⊎_elim, ℕ, zero, suc, ◌+◌, ◌*◌, ◌<◌, ◌≤◌, Bool, true}
use Rattle.std.proofs.Common.{false, List, length, drop, Option, Some, None, nat_eq, ◌&&◌, refl}
use Rattle.std.proofs.Common.{sym, ap, subst, ◌∙◌, arith, eqb-true, eq-eqb, true≢false}
use Rattle.std.proofs.lemmas.Bool.{cases_eq}
use Rattle.std.proofs.lemmas.List.{length-append}
use Rattle.vr_types.specs.Image.{Block, Image, MayAlso, block_at}
use Rattle.vr_types.specs.Regions.{IsImageOn}
use Rattle.vr_log.specs.Content.{Content}
use Rattle.vr_log.specs.LogBlock.{generation_in, index_in, is_next, room_of}
use Rattle.vr_log.specs.LogNow.{LogNow}
use Rattle.vr_log.specs.Spells.{log_bytes}
use Rattle.vr_log.specs.Standing.{InLog, IsExact, IsLeft, IsOurs, open_index, Leaves, forced_length}
use Rattle.vr_log.specs.Writing.{IsPrefix, HasBytes, IsFound}
use Rattle.vr_log.proofs.Images.{prefix-of, fits-of, least-of, within-more, exact-within}
use Rattle.vr_log.proofs.Images.{exact-reaches}

-- a block that is next has the generation and the index
and-both : (one other : Bool) → (one && other) ≡ true → (one ≡ true) × (other ≡ true)
and-both true true both = (refl, refl)
and-both true false both = absurd (true≢false (sym both))
and-both false other both = absurd (true≢false (sym both))

pub next-has : (generation index : ℕ) (block : Block) → is_next generation index block ≡ true
    → (generation_in block ≡ generation) × (index_in block ≡ index)
unfolding is_next
next-has generation index block next =
    let both = and-both (nat_eq (generation_in block) generation) (nat_eq (index_in block) index)
    next in
    (eqb-true (generation_in block) generation both.0, eqb-true (index_in block) index both.1)

pub next-of : (generation index : ℕ) (block : Block) → generation_in block ≡ generation
    → index_in block ≡ index → is_next generation index block ≡ true
unfolding is_next
next-of generation index block same at =
    ap (λ (b : Bool). b
    && nat_eq (index_in block) index) (eq-eqb (generation_in block) generation same)
    ∙ eq-eqb (index_in block) index at

-- more bytes are put than before
pub left-more : (log : LogNow) (bytes total : List ℕ) (index : ℕ) (block : Block)
    → IsPrefix bytes total → IsLeft log bytes index block → IsLeft log total index block
left-more log bytes total index block prefix left = record {
  within = within-more (room_of log.geometry) log.generation index bytes total block prefix
      left.within;
  reaches = left.reaches;
}

pub leaves-more : (log : LogNow) (bytes total : List ℕ) (count : ℕ) (may : ℕ → Block → Type 0)
    → IsPrefix bytes total → Leaves log bytes count may → Leaves log total count may
leaves-more log bytes total count may prefix leaves = record {
  young = leaves.young;
  each = λ index block below closed is. left-more log bytes total index block prefix
      (leaves.each index block below closed is);
  first = leaves.first;
  older = λ older is image on. ⊎_elim inl
      (λ (ours : IsOurs log bytes (open_index log) (block_at image (1 + open_index log))). inr (
        ours.0,
        left-more log bytes total (open_index log) (block_at image (1 + open_index log))
            prefix ours.1,
        omega (arith, ours.2, ap length prefix.1, length-append bytes prefix.0),
      )) (leaves.older older is image on);
}

-- less may be left than before
pub leaves-fewer : (log : LogNow) (bytes : List ℕ) (count : ℕ) (may now : ℕ → Block → Type 0)
    → log.geometry.log < count → ((n : ℕ) (block : Block) → n < count → now n block → may n block)
    → 1 ≤ log.geometry.log → Leaves log bytes count may → Leaves log bytes count now
leaves-fewer log bytes count may now within fewer some leaves = record {
  young = λ index block below is. leaves.young index block below
      (fewer (1 + index) block (omega (arith, below, within)) is);
  each = λ index block below closed is. leaves.each index block below closed
      (fewer (1 + index) block (omega (arith, below, within)) is);
  first = λ none block is. leaves.first none block (fewer 1 block (omega (arith, within, some)) is);
  older = λ older is image on. leaves.older older is image (record {
    each =
        λ n below inside. fewer n (block_at image n) below (on.each n below inside);
  });
}

-- a block is put that the log needs
module _ (log : LogNow) (total : List ℕ) (count index : ℕ) (may : ℕ → Block
    → Type 0) (new : Block) where
  abbrev Now : ℕ → Block → Type 0
  Now = MayAlso may (1 + index) new

  there : (at : ℕ) (block : Block) (P : ℕ → Block → Type 0) → P index new → (1 + at ≡ 1 + index)
      × (block ≡ new) → P at block
  there at block P holds is =
      subst (λ (n : ℕ). P n block) (omega (arith, is.0))
      (subst (λ (b : Block). P index b) (sym is.1) holds)

  pub leaves-put : index < log.geometry.log → log.geometry.log < count
      → is_next log.generation index new ≡ true → IsLeft log total index new → 0 < length total
      → ((older : Content) → log.behind ≡ Some older → index ≡ open_index log)
      → Leaves log total count may → Leaves log total count (MayAlso may (1 + index) new)
  leaves-put below within next left some opened leaves = record {
    young = λ at block inside is. ⊎_elim (leaves.young at block inside)
        (λ new_is. omega
        (arith, ap generation_in new_is.1, (next-has log.generation index new next).0)) is;
    each = λ at block inside closed is. ⊎_elim (leaves.each at block inside closed)
        (there at block (λ n b. IsLeft log total n b) left) is;
    first = λ none block is. ⊎_elim (leaves.first none block)
        (there 0 block (λ n b. is_next log.generation n b ≡ true) next) is;
    older = λ older is image on.
        let here = opened older is in
        let q = open_index log in
        let inside : 1 + q < count = omega (arith, here, below, within) in
        let in_log : InLog log.geometry (1 + q) = (omega arith, omega (arith, here, below)) in
        ⊎_elim
        (λ (old : may (1 + q) (block_at image (1 + q))). leaves.older older is image
        (record {
          each =
              λ n at region. ⊎_elim (λ (was : may n (block_at image n)). was)
              (λ (new_is : (n ≡ 1 + index)
              × (block_at image n ≡ new)). subst (λ (m : ℕ). may m (block_at image m))
              (omega (arith, new_is.0, here)) old) (on.each n at region);
        }))
        (λ (new_is : (1 + q ≡ 1 + index)
        × (block_at image (1 + q) ≡ new)). inr (
          there q (block_at image (1 + q)) (λ n b. is_next log.generation n b ≡ true) next
              new_is,
          there q (block_at image (1 + q)) (λ n b. IsLeft log total n b) left new_is,
          some,
        ))
        (on.each (1 + q) inside in_log);
  }

-- a block with all bytes of its place so far is one that the log needs
pub exact-left : (log : LogNow) (written total : List ℕ) (index : ℕ) (block : Block)
    → IsPrefix written total → forced_length log ≤ length written
    → IsExact (room_of log.geometry) log.generation written index block
    → IsLeft log total index block
exact-left log written total index block prefix most exact = record {
  within = within-more (room_of log.geometry) log.generation index written total block prefix
      (exact-within (room_of log.geometry) log.generation index written block exact);
  reaches = λ some. exact-reaches (room_of log.geometry) log.generation index (forced_length log)
      written block most some exact;
}

none-some : {X : Type 0} (x : X) → None ≡ Some x → ⊥
none-some x is = absurd cc

-- a number that isn't 0 is a multiple that is below
pub positive : (n room most : ℕ) → (0 ≡ n → ⊥) → 0 < room → n * room ≤ most → 0 * room < most
positive zero room most some roomy below = absurd (some refl)
positive (suc n) room most some roomy below = omega (arith, roomy, below)

-- what an image has
module _ (log : LogNow) (total : List ℕ) (count : ℕ) (may : ℕ → Block
    → Type 0) (image : Image) where
  abbrev At : ℕ → Block
  At index = block_at image (1 + index)

  has-bytes : ((i : ℕ) → i < log.geometry.log → IsLeft log total i (At i))
      → is_next log.generation 0 (At 0) ≡ true
      → forced_length log ≤ log.geometry.log * room_of log.geometry → HasBytes log total image
  has-bytes each first most =
      let within = λ (i : ℕ) (from : 0 ≤ i) (to : i < 0 + log.geometry.log).
      (each i (omega (arith, to))).within in
      let g = next-has log.generation 0 (At 0) first in
      let none : 0 * room_of log.geometry ≡ 0 = omega arith in
      let prefix = prefix-of (room_of log.geometry) log.generation 0 log.geometry.log image total
      within in
      record {
        generation = g.0;
        first = g.1;
        fits = fits-of (room_of log.geometry) log.generation 0 log.geometry.log image total within;
        prefix = subst
            (λ (n : ℕ). IsPrefix (log_bytes log.geometry log.generation image) (drop n total)) none
            prefix;
        least = omega (
          arith,
          least-of (room_of log.geometry) log.generation 0 log.geometry.log
              (forced_length log) image total within
              (λ i from to some. (each i (omega (arith, to))).reaches some) (omega (arith, most)),
        );
      }

  module _ (leaves : Leaves log total count may) (some : 1 ≤ log.geometry.log)
      (inside : log.geometry.log < count)
      (most : forced_length log ≤ log.geometry.log * room_of log.geometry)
      (on : IsImageOn (InLog log.geometry) count may image) where
    holds : (i : ℕ) → i < log.geometry.log → may (1 + i) (At i)
    holds i below =
        on.each (1 + i) (omega (arith, below, inside)) (omega arith, omega (arith, below))

    closed-found : log.behind ≡ None → HasBytes log total image
    closed-found none =
        has-bytes (λ i below. leaves.each i (At i) below
        (λ unforced. none-some unforced.0 (sym none
        ∙ unforced.1)) (holds i below)) (leaves.first none (At 0) (holds 0 some)) most

    open-found : (older : Content) → log.behind ≡ Some older
        → open_index log * room_of log.geometry ≤ forced_length log → 0 < room_of log.geometry
        → IsOurs log total (open_index log) (At (open_index log)) → HasBytes log total image
    open-found older is begun roomy ours =
        let q = open_index log in
        let each : (i : ℕ) → i < log.geometry.log → IsLeft log total i (At i) = λ i below. ⊎_elim
        (λ (same : i ≡ q). subst (λ (n : ℕ). IsLeft log total n (At n)) (sym same) ours.1)
        (λ (other : i ≡ q
        → ⊥). leaves.each i (At i) below (λ unforced. other unforced.2) (holds i below))
        (cases_eq i q) in
        let first : is_next log.generation 0 (At 0) ≡ true = ⊎_elim
        (λ (same : 0 ≡ q). subst (λ (n : ℕ). is_next log.generation n (At n) ≡ true) (sym same)
        ours.0)
        (λ (other : 0 ≡ q
        → ⊥). ((each 0 some).reaches
        (positive q (room_of log.geometry) (forced_length log) other roomy begun)).next)
        (cases_eq 0 q) in
        has-bytes each first most

    pub found_of : ((older : Content) → log.behind ≡ Some older
        → open_index log * room_of log.geometry ≤ forced_length log) → 0 < room_of log.geometry
        → IsFound log total image
    found_of begun roomy = by-behind log.behind refl
      where
        by-behind : (behind : Option Content) → log.behind ≡ behind → IsFound log total image
        by-behind None is = inr (closed-found is)
        by-behind (Some older) is =
            ⊎_elim (λ spelled. inl (older, is, spelled))
            (λ ours. inr (open-found older is (begun older is) roomy ours))
            (leaves.older older is image on)
