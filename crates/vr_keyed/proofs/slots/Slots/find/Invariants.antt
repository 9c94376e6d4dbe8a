use Rattle.std.proofs.Common.{◌≡◌, ◌<◌, ◌+◌, ℕ, get_or}
use Rattle.vr_keyed.proofs.slots.Slots.find.Given as goal

-- none of those before the index has the place
abbrev pub invariant-loop-i : goal.invariant-loop-i
invariant-loop-i l = (k : ℕ) → k < l.i → k + 1 < l.self.filled
    → (get_or l.self.more.items k l.self.first).place.place ≡ l.place → ⊥
