use Rattle.vr_frames.specs.Search.{Tried}
use Rattle.vr_frames.proofs.shared.Pool.claim_within.Given as goal

-- each frame so far was claimed in vain
abbrev pub invariant-loop-number : goal.invariant-loop-number
invariant-loop-number l = Tried l.initial.place l.place l.from l.number
