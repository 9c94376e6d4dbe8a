-- The records of a chain of areas: no block outside the areas changes them.
use Rattle.std.proofs.Common.{◌≡◌, ◌<◌, ◌≤◌, ◌+◌, ◌*◌, ℕ, zero, suc, [], ◌++◌, refl, ap, ◌∙◌}
use Rattle.std.proofs.Common.{arith, Option, Some, None}
use Rattle.vr_types.specs.Content.{Content}
use Rattle.vr_types.specs.Image.{Block, Image, block_at}
use Rattle.vr_seqset.specs.Reading.{roster_in}
use Rattle.vr_space.specs.Keyed.{items_of}
use Rattle.vr_space.specs.Rosters.{Chains, IsInArea, IsNextOf, IsOf, Numbered, after_next}
use Rattle.vr_space.specs.Rosters.{interval_in, roster_at, roster_block}
use Rattle.vr_space.specs.Numbered.{IsFilled, items_by, items_from, items_over, span_of}
use Rattle.vr_space.proofs.CallerLemmas.{roster-inside, used-most}

-- those of so many intervals, block after block
over-same : (part : Numbered) (old new : Image) (number n k : ℕ)
    → ((m : ℕ) → n ≤ m → m < n + k → block_at new m ≡ block_at old m)
    → items_over part new number n k ≡ items_over part old number n k
over-same part old new number n zero same = refl
over-same part old new number n (suc k) same =
    ap (λ (block : Block). items_by part.relative number (items_of block)
    ++ items_over part new (number + span_of part) (suc n) k)
    (same n (omega arith) (omega arith))
    ∙ ap (λ (later : Content). items_by part.relative number (items_of (block_at old n)) ++ later)
    (over-same part old new (number + span_of part) (suc n) k
    (λ m from to. same m (omega (arith, from)) (omega (arith, to))))

-- those after the next area
next-same : (one other : ℕ → Content) (used whole : ℕ) (After : ℕ → Type 0)
    → ((area : ℕ) → After area → other area ≡ one area) → (next : Option ℕ)
    → IsNextOf used whole After next → after_next [] other next ≡ after_next [] one next
next-same one other used whole After same None is = refl
next-same one other used whole After same (Some area) is = same area is.1

-- The records of a chain stay where the blocks of its areas do.
pub records-same : (part : Numbered) (Own : ℕ → Type 0) (old new : Image)
    → ((area : ℕ) → Own area → (n : ℕ) → IsInArea part area n → block_at new n ≡ block_at old n)
    → (k number area : ℕ) → Chains part Own (IsFilled part) (IsOf old) k area
    → items_from part new k number area ≡ items_from part old k number area
records-same part Own old new same zero number area chain = refl
records-same part Own old new same (suc k) number area chain =
    let top : Block = block_at old (roster_block part area) in
    let by = chain.1 top refl in
    let used : ℕ = (roster_at part old area).used in
    let past : ℕ = number + used * span_of part in
    let most : used ≤ part.geometry.area = used-most part top by.roster in
    ap (λ (block : Block). items_over part new number (interval_in part area 0)
    (roster_in block).used
    ++ after_next [] (items_from part new k (number + (roster_in block).used * span_of part))
    (roster_in block).next)
    (same area chain.0 (roster_block part area) (roster-inside part area))
    ∙ ap (λ (here : Content). here
    ++ after_next [] (items_from part new k past) (roster_at part old area).next)
    (over-same part old new number (interval_in part area 0) used
    (λ m from to. same area chain.0 m
    (record { from = omega (arith, from); to = omega (arith, to, most) })))
    ∙ ap (λ (later : Content). items_over part old number (interval_in part area 0) used ++ later)
    (next-same (items_from part old k past) (items_from part new k past) used part.geometry.area
    (Chains part Own (IsFilled part) (IsOf old) k)
    (λ further chains. records-same part Own old new same k past further chains)
    (roster_at part old area).next by.next)
