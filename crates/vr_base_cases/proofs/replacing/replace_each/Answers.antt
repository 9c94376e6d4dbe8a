use Rattle.std.proofs.Common.{◌≡◌, [], ◌∷◌, All, zero, suc, refl, sym, subst}
use Rattle.std.proofs.Common.{ap, arith, rules}
use Rattle.vr_types.specs.Image.{Block}
use Rattle.vr_device.specs.Choices.{MayHold-synced}
use Rattle.vr_device.specs.Past.{Past, seen_of, fresh, unwritten}
use Rattle.vr_device.specs.PastEvent.{blocks_of}
use Rattle.vr_device.specs.Memory.{past_in}
use Rattle.vr_device.specs.WriteAhead.{IsContent, IsSettled, kept}
use Rattle.vr_base_cases.proofs.replacing.replace_each.Goals as goal

abbrev zeros : Block
zeros = 0 ∷ 0 ∷ []

all_two : (P : Block → Type 0) (first second : Block) → P first → P second
    → All P (first ∷ second ∷ [])
all_two P first second one other zero d below = one
all_two P first second one other (suc zero) d below = other
all_two P first second one other (suc (suc k)) d below = absurd (omega (arith, below))

settled : (past : Past) → past ≡ unwritten 2 (zeros ∷ zeros ∷ zeros ∷ [])
    → IsSettled 0 1 (seen_of past)
settled past is = subst (λ p. IsSettled 0 1 (seen_of p)) (sym is) (record {
  log_is = λ block may. ap kept (MayHold-synced (fresh (zeros ∷ zeros ∷ zeros ∷ [])) 0 block may);
  home_is = λ block may. MayHold-synced (fresh (zeros ∷ zeros ∷ zeros ∷ [])) 1 block may;
  content_is = (0 ∷ [], refl);
})

pub replace_all-requires-clause-contents : goal.replace_all-requires-clause-contents
replace_all-requires-clause-contents c =
    let same : blocks_of c.args.contents.now ≡ (0 ∷ 1 ∷ []) ∷ (0 ∷ 2 ∷ []) ∷ [] = search rules in
    subst (λ contents. All IsContent contents) (sym same)
    (all_two IsContent (0 ∷ 1 ∷ []) (0 ∷ 2 ∷ []) (1 ∷ [], refl) (2 ∷ [], refl))

pub replace_all-requires-clause-settled : goal.replace_all-requires-clause-settled
replace_all-requires-clause-settled c told = settled (past_in c.args.blocks.now) (search rules)
