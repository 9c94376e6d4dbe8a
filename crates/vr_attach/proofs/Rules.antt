-- The rules by their numbers, and which one is the least that is broken.
use Rattle.std.proofs.Common.{◌≡◌, ⊎_elim, ℕ, ◌+◌, ◌<◌, ◌≤◌, refl, sym, ap, subst, ◌∙◌, arith}
use Rattle.std.specs.Prelude.{cond, nat_eq}
use Rattle.std.proofs.lemmas.Bool.{cases_lt}
use Rattle.vr_attach.specs.Damage.{rule_number, IsLeastBroken}
use Rattle.vr_attach.specs.declared.rule.Rule.{Rule}
use Rattle.vr_attach.specs.declared.rule.Rule.TheVariants as rules

-- the rule of a number
abbrev rule_of : ℕ → Rule
rule_of n =
    cond (nat_eq n 3) rules.AreaNumber (cond (nat_eq n 4) rules.AreaTwice
    (cond (nat_eq n 5) rules.SequenceSet (cond (nat_eq n 6) rules.PartNumber
    (cond (nat_eq n 7) rules.Places (cond (nat_eq n 8) rules.ControlInterval
    (cond (nat_eq n 9) rules.EndOfFile (cond (nat_eq n 10) rules.Record
    (cond (nat_eq n 11) rules.Order (cond (nat_eq n 13) rules.Roster rules.Slots)))))))))

rule-is : (rule : Rule) → rule_of (rule_number rule) ≡ rule
rule-is rules.AreaNumber = refl
rule-is rules.AreaTwice = refl
rule-is rules.SequenceSet = refl
rule-is rules.PartNumber = refl
rule-is rules.Places = refl
rule-is rules.ControlInterval = refl
rule-is rules.EndOfFile = refl
rule-is rules.Record = refl
rule-is rules.Order = refl
rule-is rules.Roster = refl
rule-is rules.Slots = refl

-- rules of one number are one
pub same_rule : (rule other : Rule) → rule_number rule ≡ rule_number other → rule ≡ other
same_rule rule other same = sym (rule-is rule) ∙ ap rule_of same ∙ rule-is other

-- the least that is broken is one
pub one_least : (Breaks : Rule → Type 0) (rule other : Rule) → IsLeastBroken Breaks rule
    → IsLeastBroken Breaks other → rule_number rule ≡ rule_number other
one_least Breaks rule other first second = ⊎_elim
    (λ (less : rule_number rule < rule_number other).
    absurd (second.least rule less first.broken))
    (λ (most : rule_number other ≤ rule_number rule). ⊎_elim
    (λ (more : rule_number other < rule_number rule).
    absurd (first.least other more second.broken))
    (λ (least : rule_number rule ≤ rule_number other). omega (arith, least, most))
    (cases_lt (rule_number other) (rule_number rule)))
    (cases_lt (rule_number rule) (rule_number other))

-- none with a number below this one is broken
abbrev pub NoneBelow : (Rule → Type 0) → ℕ → Type 0
NoneBelow Breaks n = (other : Rule) → rule_number other < n → Breaks other → ⊥

-- there is none below the first
pub none_first : (Breaks : Rule → Type 0) → NoneBelow Breaks 3
none_first Breaks rules.AreaNumber less broken = omega (arith, less)
none_first Breaks rules.AreaTwice less broken = omega (arith, less)
none_first Breaks rules.SequenceSet less broken = omega (arith, less)
none_first Breaks rules.PartNumber less broken = omega (arith, less)
none_first Breaks rules.Places less broken = omega (arith, less)
none_first Breaks rules.ControlInterval less broken = omega (arith, less)
none_first Breaks rules.EndOfFile less broken = omega (arith, less)
none_first Breaks rules.Record less broken = omega (arith, less)
none_first Breaks rules.Order less broken = omega (arith, less)
none_first Breaks rules.Roster less broken = omega (arith, less)
none_first Breaks rules.Slots less broken = omega (arith, less)

-- nor with one more, where this one isn't broken
pub none_more : (Breaks : Rule → Type 0) (rule : Rule) → NoneBelow Breaks (rule_number rule)
    → (Breaks rule → ⊥) → NoneBelow Breaks (rule_number rule + 1)
none_more Breaks rule none kept other less broken = ⊎_elim
    (λ (below : rule_number other < rule_number rule). none other below broken)
    (λ (most : rule_number rule ≤ rule_number other).
    let same : rule_number other ≡ rule_number rule = omega (arith, most, less) in
    kept (subst Breaks (same_rule other rule same) broken))
    (cases_lt (rule_number other) (rule_number rule))

-- the least
pub least : (Breaks : Rule → Type 0) (rule : Rule) → NoneBelow Breaks (rule_number rule)
    → Breaks rule → IsLeastBroken Breaks rule
least Breaks rule none broken = record { broken = broken; least = none }
