use Rattle.std.proofs.Common.{◌≡◌, ◌+◌, ℕ, length, replicate, inr, subst}
use Rattle.std.proofs.Common.{arith}
use Rattle.std.specs.Prelude.{slice_set}
use Rattle.std.proofs.lemmas.List.{length-replicate}
use Rattle.vr_types.specs.Blocks.{Puts}
use Rattle.vr_types.specs.Image.{Block, block_at}
use Rattle.vr_types.proofs.CallerLemmas.{cur-put, keeps-then-puts}
use Rattle.vr_log.specs.Clearing.{IsStale}
use Rattle.vr_log.proofs.Clears.{on_ok, zeros_are_zeros, zeros_clean}
use Rattle.vr_log.proofs.clearing.clear_block.Goals as goal

pub returns-clause-step : goal.returns-clause-step
returns-clause-step g c told =
    let B = g.B.Blocks in
    let a = B.seen c.args.blocks.now in
    let n = 1 + c.args.index in
    let last = B.seen c.zero_block.new.blocks in
    inr (
      (c.in_ok-is_stale_at.ensures.stale told).0 c.if-not-branch.false,
      subst (λ (k : ℕ). Puts B.tells n (replicate k 0) a last) c.requires.size
          (keeps-then-puts B.tells n (replicate c.args.size 0) a
          (B.seen c.is_stale_at.new.blocks) last c.is_stale_at.ensures.keeps
          c.zero_block.ensures.after),
    )

pub returns-clause-clean : goal.returns-clause-clean
returns-clause-clean g c told =
    let B = g.B.Blocks in
    let n = 1 + c.args.index in
    let mid = B.seen c.is_stale_at.new.blocks in
    let last = B.seen c.zero_block.new.blocks in
    let zeros : Block = replicate c.args.size 0 in
    on_ok c.zero_block.result _ _
    (λ (put : last.cur ≡ slice_set mid.cur n zeros)
    (stale : IsStale c.args.generation c.args.last c.args.index (block_at last.cur n)).
    let here : block_at last.cur n ≡ zeros =
    cur-put mid n zeros (omega (arith, c.requires.within, c.is_stale_at.ensures.keeps.count_same))
    (g.met.B.Blocks.cur_may c.is_stale_at.new.blocks told).length_is last.cur put in
    let long : length zeros ≡ c.args.size = length-replicate c.args.size 0 in
    zeros_clean c.args.generation c.args.last c.args.index zeros c.requires.some
    (zeros_are_zeros c.args.size) (omega (arith, long, c.requires.head))
    (subst (λ (b : Block). IsStale c.args.generation c.args.last c.args.index b) here stale))
    (c.zero_block.ensures.put told)
