use Rattle.std.proofs.Common.{◌≡◌, ◌∙◌, ◌≤◌, ℕ, List, ap, take, replicate}
use Rattle.std.proofs.lemmas.List.{take-replicate}
use Rattle.vr_space.specs.Keyed.{Keyed}
use Rattle.vr_start.proofs.first_head.write_with.Goals as goal

-- the first of equal bytes
first-of : (n key byte : ℕ) (bytes : List ℕ) → n ≡ key → key ≤ 255 → bytes ≡ replicate 255 byte
    → take n bytes ≡ replicate key byte
first-of n key byte bytes same short is =
    ap (λ (m : ℕ). take m bytes) same ∙ ap (take key) is ∙ take-replicate key 255 byte short

pub write_record-requires-clause-lowest : goal.write_record-requires-clause-lowest
write_record-requires-clause-lowest c =
    first-of c.layout.inside.key c.args.layout.now.key 0 c.args.zeros.now
    (ap (λ (part : Keyed). part.key) c.layout.view_is) c.requires.part.short c.requires.zeros

pub write_record-requires-clause-highest : goal.write_record-requires-clause-highest
write_record-requires-clause-highest c =
    first-of c.layout.inside.key c.args.layout.now.key 255 c.args.greatest.now
    (ap (λ (part : Keyed). part.key) c.layout.view_is) c.requires.part.short c.requires.greatest
