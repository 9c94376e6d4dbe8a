use Rattle.std.proofs.Common.{◌≡◌, ◌<◌, ◌≤◌, ◌+◌, ℕ, List, length, take, map, All, sym, ap, subst, arith}
use Rattle.std.proofs.lemmas.List.{take-set}
use Rattle.std.proofs.Math.ListN.{set}
use Rattle.vr_space.specs.Met.{Met}
use Rattle.vr_space.specs.Numbered.{IsIntervalMet}
use Rattle.vr_chained.specs.declared.met.MetBlock.{MetBlock}
use Rattle.vr_chained.specs.declared.met.Mets.{Mets}
use Rattle.vr_chained.specs.Met.{MeetsNext, met_in, mets_in}
use Rattle.vr_chained.proofs.Meeting.{all-fewer, all-next, meets-next}
use Rattle.vr_chained.proofs.meet.read_in.Goals as goal

-- what was met in the slots before the next
met-before-next : (P : Met → Type 0) (mets : Mets) (slots : List MetBlock) (n : ℕ)
    → slots ≡ mets.slots.items → n ≤ mets.filled → All P (mets_in mets)
    → All P (map met_in (take n slots))
met-before-next P mets slots n same few all =
    subst (λ (other : List MetBlock). All P (map met_in (take n other))) (sym same)
    (all-fewer P mets.slots.items mets.filled n few all)

pub returns-in_err-fill-clause-met : goal.returns-in_err-fill-clause-met
returns-in_err-fill-clause-met g c told =
    let P : Met → Type 0 =
    IsIntervalMet c.args.chain.now.part (g.B.Blocks.seen c.args.blocks.now).cur in
    let slots = c.next_slot-slot.new.mets.slots.items in
    let n = c.next_slot-slot.result in
    subst (λ (k : ℕ). All P (map met_in (take k (set slots n c.fill.new.met))))
    (sym c.next_slot-slot.ensures.filled)
    (subst (λ (kept : List MetBlock). All P (map met_in kept))
    (sym (take-set slots n c.fill.new.met))
    (met-before-next P c.args.mets.now slots n
    (ap (λ v. v.items) c.next_slot-slot.ensures.slots) c.next_slot-slot.ensures.few
    (c.requires.met told)))

pub returns-clause-met : goal.returns-clause-met
returns-clause-met g c told =
    let P : Met → Type 0 =
    IsIntervalMet c.args.chain.now.part (g.B.Blocks.seen c.args.blocks.now).cur in
    let slots = c.next_slot-slot.new.mets.slots.items in
    let n = c.next_slot-slot.result in
    let below : n < length slots = omega arith in
    subst (λ (k : ℕ). All P (map met_in (take (k + 1) (set slots n c.fill.new.met))))
    (sym c.next_slot-slot.ensures.filled)
    (all-next slots n c.fill.new.met below P
    (met-before-next P c.args.mets.now slots n
    (ap (λ v. v.items) c.next_slot-slot.ensures.slots) c.next_slot-slot.ensures.few
    (c.requires.met told))
    (c.in_ok-fill.ensures.met told))

pub returns-clause-places : goal.returns-clause-places
returns-clause-places g c =
    let mets = c.args.mets.now in
    let slots = c.next_slot-slot.new.mets.slots.items in
    let n = c.next_slot-slot.result in
    let same : slots ≡ mets.slots.items = ap (λ v. v.items) c.next_slot-slot.ensures.slots in
    let below : n < length slots = omega arith in
    let count : length slots ≡ mets.slots.len =
    omega (arith, ap (λ v. v.len) c.next_slot-slot.ensures.slots) in
    subst (λ (k : ℕ). MeetsNext c.args.place.now mets.slots.len (mets_in mets)
    (map met_in (take (k + 1) (set slots n c.fill.new.met))))
    (sym c.next_slot-slot.ensures.filled)
    (subst (λ (old : List MetBlock). MeetsNext c.args.place.now mets.slots.len
    (map met_in (take mets.filled old)) (map met_in (take (n + 1) (set slots n c.fill.new.met))))
    same
    (subst (λ (most : ℕ). MeetsNext c.args.place.now most (map met_in (take mets.filled slots))
    (map met_in (take (n + 1) (set slots n c.fill.new.met)))) count
    (meets-next slots n c.fill.new.met below c.args.place.now mets.filled
    (omega (arith, count, mets.few)) c.next_slot-slot.ensures.few c.in_ok-fill.ensures.place
    (λ fewer. c.next_slot-slot.ensures.kept (omega (arith, count, fewer))))))
