-- What a caller of `Blocks` cites, by way of CallerLemmas: how a run of calls keeps a fact true of
-- every image, what a call leaves of one block and of a region of blocks, and the causes of a run's
-- faults. Each premise `IsTrue tells` is that the contents are reported.
use Rattle.std.proofs.Common.{◌≡◌, ◌≢◌, ◌⊎◌, inl, inr, ⊎_elim, ◌<◌, ℕ, Bool, IsTrue, List, All}
use Rattle.std.proofs.Common.{zero, suc, [], ◌∷◌, Contains, Result, Ok, arith, refl, sym, ap, subst}
use Rattle.std.proofs.Common.{◌∙◌, slice_set, length, get_or-set_same, get_or-set_other, is_ok}
use Rattle.std.proofs.Common.{true≢false}
use Rattle.std.proofs.lemmas.Bool.{cases_lt}
use Rattle.vr_types.specs.Image.{Block, Image, IsImage, MayAlso, block_at}
use Rattle.vr_types.specs.Seen.{Seen, Left, Only}
use Rattle.vr_types.specs.Moments.{During, Guards, EachSince}
use Rattle.vr_types.specs.Blocks.{Keeps, Puts, Forced}
use Rattle.vr_types.specs.Regions.{IsImageOn, Outside, Apart, Touches}
use Rattle.vr_types.specs.Faults.{Faults, HasCause, HasWriteCause}
use Rattle.vr_types.specs.declared.fault.DeviceFault.{DeviceFault}

-- A weaker fact of each image of a run.
pub during-weaken : (a b : Seen) (P Q : Image → Type 0) → During a b P
    → ((image : Image) → P image → Q image) → During a b Q
during-weaken a b P Q call weaker = record {
  forward = call.forward;
  passed = call.passed;
  kept = call.kept;
  each = λ t image from to left. weaker image (call.each t image from to left);
}

-- No call yet: a fact of each image of the present moment.
pub during-none : (a : Seen) (P : Image → Type 0)
    → ((image : Image) → a.images a.moment image → P image) → During a a P
during-none a P here = record {
  forward = omega arith;
  passed = λ t image past. (λ left. left, λ left. left);
  kept = λ image left. left;
  each = λ t image from to left. let now : t ≡ a.moment = omega (arith, from, to) in
      here image (subst (λ s. a.images s image) now left);
}

-- One run, and then another.
pub during-then : (a b c : Seen) (P : Image → Type 0) → During a b P → During b c P → During a c P
during-then a b c P first second = record {
  forward = omega (arith, first.forward, second.forward);
  passed = λ t image past.
      let still : t < b.moment = omega (arith, past, first.forward) in (
        λ left. (first.passed t image past).0 ((second.passed t image still).0 left),
        λ left. (second.passed t image still).1 ((first.passed t image past).1 left),
      );
  kept = λ image left. ⊎_elim
      (λ past. (second.passed a.moment image past).1 (first.kept image left))
      (λ present. let same : a.moment ≡ b.moment = omega (arith, present, first.forward) in
      subst (λ s. c.images s image) (sym same)
      (second.kept image (subst (λ s. b.images s image) same (first.kept image left))))
      (cases_lt a.moment b.moment);
  each = λ t image from to left. ⊎_elim
      (λ past. first.each t image from (omega (arith, past)) ((second.passed t image past).0 left))
      (λ later. second.each t image later to left)
      (cases_lt t b.moment);
}

-- A run that began at an earlier moment goes on by further calls.
pub each_since-then : (a b : Seen) (t : ℕ) (P : Image → Type 0) → EachSince a t P → During a b P
    → EachSince b t P
each_since-then a b t P so_far call s image from to left = ⊎_elim
    (λ past. so_far s image from (omega (arith, past)) ((call.passed s image past).0 left))
    (λ later. call.each s image later to left)
    (cases_lt s a.moment)

-- A run that begins at the present moment, as after an opening.
pub each_since-start : (a : Seen) (P : Image → Type 0)
    → ((image : Image) → a.images a.moment image → P image) → EachSince a a.moment P
each_since-start a P here t image from to left =
    here image (subst (λ s. a.images s image) (omega (arith, from, to)) left)

-- A weaker fact, as that of a longer history.
pub each_since-weaken : (a : Seen) (t : ℕ) (P Q : Image → Type 0) → EachSince a t P
    → ((image : Image) → P image → Q image) → EachSince a t Q
each_since-weaken a t P Q so_far weaker s image from to left =
    weaker image (so_far s image from to left)

-- No call yet: a fact of each image that a crash may leave. `within` is the law `images_may`.
pub guards-start : (a : Seen) (P : Image → Type 0)
    → ((image : Image) → a.images a.moment image → Left a image)
    → ((image : Image) → Left a image → P image) → Guards a a P
guards-start a P within holds =
    record {
      during = during-none a P (λ image left. holds image (within image left));
      rest =
          holds;
    }

-- A call that puts nothing, failing or not, owes nothing.
pub guards-keeps : (tells : Bool) (first mid last : Seen) (P : Image → Type 0) → Guards first mid P
    → Keeps tells mid last → IsTrue tells → Guards first last P
guards-keeps tells first mid last P so_far call told = record {
  during = during-then first mid last P so_far.during
      (during-weaken mid last (Left mid) P (call.moments told) so_far.rest);
  rest = λ image left. so_far.rest image (record {
    length_is = left.length_is ∙ call.count_same;
    each = λ n below. call.adds_none told n _ below
        (left.each n (omega (arith, below, call.count_same)));
  });
}

-- A call that puts, failing or not, owes P of each image with the bytes or without them.
pub guards-puts : (tells : Bool) (first mid last : Seen) (n : ℕ) (bytes : Block) (P : Image
    → Type 0) → Guards first mid P → Puts tells n bytes mid last → IsTrue tells
    → ((image : Image) → IsImage mid.count (MayAlso mid.may n bytes) image → P image)
    → Guards first last P
guards-puts tells first mid last n bytes P so_far call told holds = record {
  during = during-then first mid last P so_far.during
      (during-weaken mid last (IsImage mid.count (MayAlso mid.may n bytes)) P (call.moments told)
      holds);
  rest = λ image left. holds image (record {
    length_is = left.length_is ∙ call.count_same;
    each = λ m below. call.adds told m _ below
        (left.each m (omega (arith, below, call.count_same)));
  });
}

-- One run, and then another. A loop whose P doesn't name its step adds each iteration's run by
-- this.
pub guards-then : (a b c : Seen) (P : Image → Type 0) → Guards a b P → Guards b c P → Guards a c P
guards-then a b c P first second =
    record { during = during-then a b c P first.during second.during; rest = second.rest }

-- A weaker fact of each image.
pub guards-weaken : (a b : Seen) (P Q : Image → Type 0) → Guards a b P
    → ((image : Image) → P image → Q image) → Guards a b Q
guards-weaken a b P Q run weaker =
    record {
      during = during-weaken a b P Q run.during weaker;
      rest =
          λ image left. weaker image (run.rest image left);
    }

-- A call that puts nothing adds no content to a block.
pub only-keeps : (tells : Bool) (a b : Seen) (n : ℕ) (Q : Block → Type 0) → IsTrue tells
    → n < a.count → Keeps tells a b → Only a n Q → Only b n Q
only-keeps tells a b n Q told below call only block may =
    only block (call.adds_none told n block below may)

-- A put into another block adds no content to this one.
pub only-elsewhere : (tells : Bool) (a b : Seen) (m n : ℕ) (bytes : Block) (Q : Block → Type 0)
    → IsTrue tells → m < a.count → m ≢ n → Puts tells n bytes a b → Only a m Q → Only b m Q
only-elsewhere tells a b m n bytes Q told below other call only block may =
    ⊎_elim (only block) (λ new. absurd (other new.0)) (call.adds told m block below may)

-- A put into this block adds its bytes alone.
pub only-here : (tells : Bool) (a b : Seen) (n : ℕ) (bytes : Block) (Q : Block → Type 0)
    → IsTrue tells → n < a.count → Puts tells n bytes a b → Only a n Q
    → Only b n (λ block. Q block ⊎ (block ≡ bytes))
only-here tells a b n bytes Q told below call only block may =
    ⊎_elim (λ old. inl (only block old)) (λ new. inr new.1) (call.adds told n block below may)

-- A listed block that was forced has one content.
pub only-forced : (a b : Seen) (n : ℕ) (listed : List ℕ) (content : Block) → Contains listed n
    → Forced listed a.cur b.may → block_at a.cur n ≡ content → Only b n (λ block. block ≡ content)
only-forced a b n listed content there forced is block may = forced n block there may ∙ is

-- A weaker fact of each content.
pub only-weaken : (a : Seen) (n : ℕ) (Q R : Block → Type 0) → Only a n Q
    → ((block : Block) → Q block → R block) → Only a n R
only-weaken a n Q R only weaker block may = weaker block (only block may)

-- What an image has at one block.
pub only-image : (a : Seen) (n : ℕ) (Q : Block → Type 0) (image : Image) → n < a.count
    → Left a image → Only a n Q → Q (block_at image n)
only-image a n Q image below left only = only _ (left.each n below)

-- What an image of a put has at the block that is put.
pub also-here : (a : Seen) (n : ℕ) (bytes : Block) (image : Image) (Q : Block → Type 0)
    → n < a.count → IsImage a.count (MayAlso a.may n bytes) image → Only a n Q
    → Q (block_at image n) ⊎ (block_at image n ≡ bytes)
also-here a n bytes image Q below left only =
    ⊎_elim (λ old. inl (only _ old)) (λ new. inr new.1) (left.each n below)

-- What an image of a put has at another block.
pub also-elsewhere : (a : Seen) (m n : ℕ) (bytes : Block) (image : Image) (Q : Block → Type 0)
    → m < a.count → m ≢ n → IsImage a.count (MayAlso a.may n bytes) image → Only a m Q
    → Q (block_at image m)
also-elsewhere a m n bytes image Q below other left only =
    ⊎_elim (only _) (λ new. absurd (other new.0)) (left.each m below)

-- The content of a block after a put that was Ok. `long` is the law `cur_may`.
pub cur-put : (a : Seen) (n : ℕ) (bytes : Block) → n < a.count → length a.cur ≡ a.count
    → (after : Image) → after ≡ slice_set a.cur n bytes → block_at after n ≡ bytes
cur-put a n bytes below long after is = ap (λ i. block_at i n) is
    ∙ get_or-set_same a.cur n bytes [] (omega (arith, long, below))

-- The content of another block after a put, failing or not.
pub cur-elsewhere : (tells : Bool) (a b : Seen) (m n : ℕ) (bytes : Block) → IsTrue tells → m ≢ n
    → Puts tells n bytes a b → block_at b.cur m ≡ block_at a.cur m
cur-elsewhere tells a b m n bytes told other call = ⊎_elim
    (λ same. ap (λ i. block_at i m) same)
    (λ new. ap (λ i. block_at i m) new ∙ get_or-set_other a.cur n m bytes [] (λ e. other e))
    (call.content told)

-- The condition of a force of one block, and that it is listed.
pub all-one : (P : ℕ → Type 0) (n : ℕ) → P n → All P (n ∷ [])
all-one P n holds zero d below = holds
all-one P n holds (suc k) d below = absurd (omega (arith, below))

pub just-one : (n : ℕ) → Contains (n ∷ []) n
just-one n = (0, omega arith, refl)

-- Runs of calls that put nothing, or into one block alone.
module _ (tells : Bool) where
  -- No call yet. `within` is the law `images_may`.
  pub keeps-none : (a : Seen)
      → (IsTrue tells → (image : Image) → a.images a.moment image → Left a image) → Keeps tells a a
  keeps-none a within = record {
    count_same = refl;
    size_same = refl;
    content = λ told. refl;
    adds_none = λ told n block below may. may;
    moments = λ told. during-none a (Left a) (within told);
  }

  -- Two calls that put nothing.
  pub keeps-then : (a b c : Seen) → Keeps tells a b → Keeps tells b c → Keeps tells a c
  keeps-then a b c first second = record {
    count_same = second.count_same ∙ first.count_same;
    size_same = second.size_same ∙ first.size_same;
    content = λ told. second.content told ∙ first.content told;
    adds_none = λ told n block below may. first.adds_none told n block below
        (second.adds_none told n block (omega (arith, below, first.count_same)) may);
    moments = λ told. during-then a b c _ (first.moments told)
        (during-weaken b c _ _ (second.moments told) (λ image left. record {
          length_is = left.length_is ∙ first.count_same;
          each = λ n below. first.adds_none told n _ below
              (left.each n (omega (arith, below, first.count_same)));
        }));
  }

  module _ (n : ℕ) (bytes : Block) where
    -- A call that puts nothing is one that puts at most these bytes.
    pub keeps-puts : (a b : Seen) → Keeps tells a b → Puts tells n bytes a b
    keeps-puts a b call = record {
      count_same = call.count_same;
      size_same = call.size_same;
      content = λ told. inl (call.content told);
      adds = λ told m block below may. inl (call.adds_none told m block below may);
      moments = λ told. during-weaken a b _ _ (call.moments told)
          (λ image left. record {
            length_is = left.length_is;
            each =
                λ m below. inl (left.each m below);
          });
    }

    -- A call that puts nothing, and then a put.
    pub keeps-then-puts : (a b c : Seen) → Keeps tells a b → Puts tells n bytes b c
        → Puts tells n bytes a c
    keeps-then-puts a b c first second =
        let also : IsTrue tells → (m : ℕ) (block : Block) → m < a.count
        → MayAlso b.may n bytes m block → MayAlso a.may n bytes m block =
        λ told m block below may. ⊎_elim (λ old. inl (first.adds_none told m block below old))
        (λ new. inr new) may in
        record {
          count_same = second.count_same ∙ first.count_same;
          size_same = second.size_same ∙ first.size_same;
          content = λ told. ⊎_elim (λ same. inl (same ∙ first.content told)) (λ new. inr (new
              ∙ ap (λ i. slice_set i n bytes) (first.content told))) (second.content told);
          adds = λ told m block below may. also told m block below
              (second.adds told m block (omega (arith, below, first.count_same)) may);
          moments = λ told. during-then a b c _
              (during-weaken a b _ _ (first.moments told) (λ image left. record {
                length_is =
                    left.length_is;
                each = λ m below. inl (left.each m below);
              }))
              (during-weaken b c _ _ (second.moments told) (λ image left. record {
                length_is =
                    left.length_is ∙ first.count_same;
                each =
                    λ m below. also told m _ below
                    (left.each m (omega (arith, below, first.count_same)));
              }));
        }

    -- A put, and then a call that puts nothing.
    pub puts-then-keeps : (a b c : Seen) → Puts tells n bytes a b → Keeps tells b c
        → Puts tells n bytes a c
    puts-then-keeps a b c first second = record {
      count_same = second.count_same ∙ first.count_same;
      size_same = second.size_same ∙ first.size_same;
      content = λ told. ⊎_elim (λ same. inl (second.content told
          ∙ same)) (λ new. inr (second.content told ∙ new)) (first.content told);
      adds = λ told m block below may. first.adds told m block below
          (second.adds_none told m block (omega (arith, below, first.count_same)) may);
      moments = λ told. during-then a b c _ (first.moments told)
          (during-weaken b c _ _ (second.moments told) (λ image left. record {
            length_is = left.length_is ∙ first.count_same;
            each = λ m below. first.adds told m _ below
                (left.each m (omega (arith, below, first.count_same)));
          }));
    }

-- What is outside the other's region is as it was, so mine is.
pub on-mine : (mine other : ℕ → Type 0) (count : ℕ) (may : ℕ → Block → Type 0) (image : Image)
    → Apart mine other → IsImageOn (Outside other) count may image → IsImageOn mine count may image
on-mine mine other count may image apart left =
    record { each = λ n below is. left.each n below (λ there. apart n is there) }

-- While another puts into its own blocks, each image keeps what rests on mine, beside what the
-- other says.
pub both-hold : (mine other : ℕ → Type 0) (P Q : Image → Type 0) (old new : Seen)
    → Apart mine other → ((image : Image) → IsImageOn mine old.count old.may image → P image)
    → Touches other Q old new
    → During old new (λ image. P image × Q image)
both-hold mine other P Q old new apart mine_has call =
    during-weaken old new _ _ call.moments
    (λ image has.
    (mine_has image (on-mine mine other old.count old.may image apart has.0), has.1))

-- And so does each that a crash may leave after it.
pub mine-stays : (mine other : ℕ → Type 0) (P Q : Image → Type 0) (old new : Seen)
    → Apart mine other → ((image : Image) → IsImageOn mine old.count old.may image → P image)
    → Touches other Q old new
    → (image : Image) → IsImageOn mine new.count new.may image → P image
mine-stays mine other P Q old new apart mine_has call image left =
    mine_has image (record {
      each =
          λ n below is. call.adds_none n _ below (λ there. apart n is there)
          (left.each n (omega (arith, below, call.count_same)) is);
    })

-- Two calls on one region.
pub touches-then : (region : ℕ → Type 0) (Q : Image → Type 0) (a b c : Seen) → Touches region Q a b
    → Touches region Q b c → Touches region Q a c
touches-then region Q a b c first second = record {
  count_same = second.count_same ∙ first.count_same;
  size_same = second.size_same ∙ first.size_same;
  content = λ n out. second.content n out ∙ first.content n out;
  adds_none = λ n block below out may. first.adds_none n block below out
      (second.adds_none n block (omega (arith, below, first.count_same)) out may);
  moments = during-then a b c _ first.moments
      (during-weaken b c _ _ second.moments (λ image has. (
        record {
          each =
              λ n below out. first.adds_none n _ below out
              (has.0.each n (omega (arith, below, first.count_same)) out);
        },
        has.1,
      )));
  rest = second.rest;
}

-- A weaker fact of each image.
pub touches-weaken : (region : ℕ → Type 0) (P Q : Image → Type 0) (a b : Seen)
    → Touches region P a b → ((image : Image) → P image → Q image) → Touches region Q a b
touches-weaken region P Q a b call weaker = record {
  count_same = call.count_same;
  size_same = call.size_same;
  content = call.content;
  adds_none = call.adds_none;
  moments = during-weaken a b _ _ call.moments (λ image has. (has.0, weaker image has.1));
  rest = λ image left. weaker image (call.rest image left);
}

-- What one owner says of each image is so of every image of the whole.
pub touches-guards : (region : ℕ → Type 0) (Q : Image → Type 0) (a b : Seen) → Touches region Q a b
    → Guards a b Q
touches-guards region Q a b call = record {
  during = during-weaken a b _ _ call.moments (λ image has. has.1);
  rest = λ image left. call.rest image (record { each = λ n below is. left.each n below });
}

-- A put into the region touches it alone, and owes Q of each image with the bytes or without them.
pub puts-touches : (tells : Bool) (region : ℕ → Type 0) (Q : Image
    → Type 0) (n : ℕ) (bytes : Block) (a b : Seen) → IsTrue tells → region n
    → Puts tells n bytes a b
    → ((image : Image) → IsImageOn region a.count (MayAlso a.may n bytes) image → Q image)
    → Touches region Q a b
puts-touches tells region Q n bytes a b told inside call holds = record {
  count_same = call.count_same;
  size_same = call.size_same;
  content = λ m out. cur-elsewhere tells a b m n bytes told
      (λ same. out (subst region (sym same) inside)) call;
  adds_none = λ m block below out may. ⊎_elim (λ old. old)
      (λ new. absurd (out (subst region (sym new.0) inside))) (call.adds told m block below may);
  moments = during-weaken a b _ _ (call.moments told) (λ image left. (
    record {
      each =
          λ m below out. ⊎_elim (λ old. old) (λ new. absurd (out (subst region (sym new.0) inside)))
          (left.each m below);
    },
    holds image (record { each = λ m below is. left.each m below }),
  ));
  rest = λ image left. holds image (record {
    each =
        λ m below is. call.adds told m _ below
        (left.each m (omega (arith, below, call.count_same)) is);
  });
}

-- A call that puts nothing touches any region whose images have Q.
pub keeps-touches : (tells : Bool) (region : ℕ → Type 0) (Q : Image → Type 0) (a b : Seen)
    → IsTrue tells → Keeps tells a b
    → ((image : Image) → IsImageOn region a.count a.may image → Q image) → Touches region Q a b
keeps-touches tells region Q a b told call holds = record {
  count_same = call.count_same;
  size_same = call.size_same;
  content = λ m out. ap (λ i. block_at i m) (call.content told);
  adds_none = λ m block below out may. call.adds_none told m block below may;
  moments = during-weaken a b _ _ (call.moments told) (λ image left. (
    record {
      each =
          λ m below out. left.each m below;
    },
    holds image (record {
      each =
          λ m below is. left.each m below;
    }),
  ));
  rest = λ image left. holds image (record {
    each =
        λ m below is. call.adds_none told m _ below
        (left.each m (omega (arith, below, call.count_same)) is);
  });
}

-- A call that was Ok, and then another: the run has the causes of the second.
pub cause-then : {T : Type 0} (a b c : Faults) (result : Result T DeviceFault) → b ≡ a
    → HasCause b c result → HasCause a c result
cause-then a b c result same call = subst (λ before. HasCause before c result) same call

-- The same of calls that read nothing.
pub write_cause-then : {T : Type 0} (a b c : Faults) (result : Result T DeviceFault) → b ≡ a
    → HasWriteCause b c result → HasWriteCause a c result
write_cause-then a b c result same call = subst (λ before. HasWriteCause before c result) same call

-- An answer without a fault, after calls that were each Ok. A loop keeps the first premise as its
-- invariant.
pub cause-ok : {T : Type 0} (a b : Faults) (x : T) → b ≡ a → HasCause a b (Ok x)
cause-ok a b x same = record {
  reads = omega (arith, ap (λ f. f.reads) same);
  writes = omega (arith, ap (λ f. f.writes) same);
  ok = same;
  read = λ is. absurd (true≢false (ap is_ok is));
  write = λ is. absurd (true≢false (ap is_ok is));
  unwritten = λ is. absurd (true≢false (ap is_ok is));
}
