use Rattle.std.proofs.Common.{ℕ, Bool, Bor, List, None, Some, refl, sym, ◌∙◌}
use Rattle.std.proofs.lemmas.Iterator.Consumers.{YieldsList-from_first, nth_from_yields_List}
use Rattle.vr_ci.specs.Interval as ci
use Rattle.vr_ci.specs.Reading.{item_lent}
use Rattle.vr_slots.proofs.ReadingSlots.{slot-empty, slot-live, slot-none}
use Rattle.vr_slots.proofs.reading.slot_at.Goals as goal

pub returns-then-live : goal.returns-then-live
returns-then-live c = λ slots.
    let lent : Bor (List ℕ) × Bool = (c.in-Some-nth.bytes, c.in-Some-nth.live) in
    let got = nth_from_yields_List (Some lent) _ c.args.slot c.in-Some-nth.ensures.ran
    (YieldsList-from_first item_lent (λ (rest : List ci.Item). rest) c.iter.result refl) in
    slot-live c.args.slot c.args.block.now c.iter.result c.in-Some-nth.bytes.now
    c.in-Some-nth.live (c.iter.ensures ∙ c.in-Some.ensures.items) (sym got) c.if-live.true

pub returns-else-live : goal.returns-else-live
returns-else-live c = λ slots.
    let lent : Bor (List ℕ) × Bool = (c.in-Some-nth.bytes, c.in-Some-nth.live) in
    let got = nth_from_yields_List (Some lent) _ c.args.slot c.in-Some-nth.ensures.ran
    (YieldsList-from_first item_lent (λ (rest : List ci.Item). rest) c.iter.result refl) in
    slot-empty c.args.slot c.args.block.now c.iter.result c.in-Some-nth.bytes.now
    c.in-Some-nth.live (c.iter.ensures ∙ c.in-Some.ensures.items) (sym got) c.if-live.false

pub returns-in-None : goal.returns-in-None
returns-in-None c = λ slots.
    let lent : Rattle.std.proofs.Common.Option (Bor (List ℕ) × Bool) = None in
    let got = nth_from_yields_List lent _ c.args.slot c.in-None.ensures.ran
    (YieldsList-from_first item_lent (λ (rest : List ci.Item). rest) c.iter.result refl) in
    slot-none c.args.slot c.args.block.now c.iter.result
    (c.iter.ensures ∙ c.in-Some.ensures.items) (sym got)
