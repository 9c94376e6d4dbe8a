use Rattle.std.proofs.Common.{◌≡◌, ◌≤◌, ◌++◌, ◌∙◌, ℕ, List, length, take, drop, ap, arith, vec_len}
use Rattle.std.proofs.lemmas.List.{length-take, take_at}
use Rattle.vr_types.specs.Fields.{padded}
use Rattle.vr_types.proofs.CallerLemmas.{length-padded}
use Rattle.vr_log.specs.LogBlock.{head_of}
use Rattle.vr_log.proofs.Heads.{length-headed}
use Rattle.vr_log.proofs.tail.Tail.put.Goals as goal

pub returns-clause-block : goal.returns-clause-block
returns-clause-block g c =
    let tail = c.args.self.now in
    let old = c.deref_mut.result.now in
    let new = c.make_block.new.block in
    let head = head_of tail.generation tail.index tail.used in
    let bytes = take tail.used (drop 16 old) in
    let size : length old ≡ vec_len tail.block =
    omega (arith, ap length c.deref_mut.ensures.value, tail.block.ok.0) in
    let short : length (head ++ bytes) ≤ length old =
    omega (
      arith,
      length-headed tail.generation tail.index tail.used bytes,
      length-take tail.used (drop 16 old),
      size,
      c.requires.safe.size,
      c.requires.safe.fits,
    ) in
    let whole : length new ≡ tail.block.len =
    omega (
      arith,
      ap length c.make_block.ensures,
      length-padded (length old) (head ++ bytes) short,
      size,
    ) in
    take_at new (drop (length new) tail.block.items) tail.block.len whole ∙ c.make_block.ensures
    ∙ ap (λ (n : ℕ). padded n (head ++ bytes)) size
    ∙ ap (λ (x : List ℕ). padded (vec_len tail.block) (head ++ take tail.used (drop 16 x)))
    c.deref_mut.ensures.value
