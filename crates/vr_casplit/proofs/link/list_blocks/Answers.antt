use Rattle.std.proofs.Common.{◌≡◌, ◌+◌, ℕ, Bool, false, List, [], ◌∷◌, ◌++◌, length, get_or}
use Rattle.std.proofs.Common.{arith, ap, sym, ◌∙◌, cond, below_more}
use Rattle.std.proofs.lemmas.List.{get_or_append_left, length-append}
use Rattle.std.proofs.Math.Bool.{not}
use Rattle.std.proofs.Math.Seq.{get_or-append_seam}
use Rattle.vr_space.specs.Keyed.{Keyed}
use Rattle.vr_space.specs.UnderWay.{interval_block}
use Rattle.vr_casplit.proofs.link.list_blocks.Goals as goal

-- what was pushed, as it didn't fail
pushed : (ok failed : Bool) (after with_it without : List ℕ) → ok ≡ not failed → failed ≡ false
    → after ≡ cond ok with_it without → after ≡ with_it
pushed ok failed after with_it without either none is =
    is ∙ ap (λ (test : Bool). cond test with_it without) (either ∙ ap not none)

pub loop-j-init : goal.loop-j-init
loop-j-init c =
    let items : c.push.new.self.items ≡ c.args.to.now.head ∷ [] =
    pushed _ c.is_err.result c.push.new.self.items _ _ c.is_err.ensures.negation
    c.if-is_err.false c.push.ensures.items
    ∙ ap (λ (before : List ℕ). before ++ c.to.inside.head ∷ []) c.clear.ensures.items
    ∙ ap (λ (layout : Keyed). layout.head ∷ []) c.to.view_is in
    record {
      length = ap (λ (xs : List ℕ). length xs) items;
      head = ap (λ (xs : List ℕ). get_or xs 0 0) items;
      intervals = λ j below. absurd (omega (arith, below));
      room = omega arith;
    }

pub loop-j-preserved : goal.loop-j-preserved
loop-j-preserved c =
    let before : List ℕ = c.loop-j.listed.items in
    let block : ℕ = interval_block c.args.to.now c.loop-j.j in
    let items : c.push-in-loop-j.new.self.items ≡ before ++ block ∷ [] =
    pushed _ c.is_err-in-loop-j.result c.push-in-loop-j.new.self.items _ _
    c.is_err-in-loop-j.ensures.negation c.if-is_err-2.false c.push-in-loop-j.ensures.items
    ∙ ap (λ (n : ℕ). before ++ n ∷ []) c.block_of.ensures in
    let long : length before ≡ c.loop-j.j + 1 = c.loop-j.invariant.length in
    record {
      length = omega (
        arith,
        ap (λ (xs : List ℕ). length xs) items,
        length-append before (block ∷ []),
        long,
      );
      head = ap (λ (xs : List ℕ). get_or xs 0 0) items
          ∙ get_or_append_left before (block ∷ []) 0 0 (omega (arith, long))
          ∙ c.loop-j.invariant.head;
      intervals = below_more _ _
          (λ j below. ap (λ (xs : List ℕ). get_or xs (j + 1) 0) items
          ∙ get_or_append_left before (block ∷ []) 0 (j + 1) (omega (arith, long, below))
          ∙ c.loop-j.invariant.intervals j below)
          (ap (λ (xs : List ℕ). get_or xs (c.loop-j.j + 1) 0) items
          ∙ ap (λ (n : ℕ). get_or (before ++ block ∷ []) n 0) (sym long)
          ∙ get_or-append_seam before block [] 0);
      room = omega arith;
    }
