-- What a volume replies to a request of the utilities, and what it shows then. The rules are this
-- project's own.
use Rattle.std.specs.Prelude.{◌≡◌, ℕ, true}
use Rattle.vr_types.specs.declared.reply.Refusal.TheVariants.{WriteFault}
use Rattle.vr_types.specs.declared.reply.Reply.{Reply}
use Rattle.vr_types.specs.declared.reply.Reply.TheVariants.{Refused}
use Rattle.vr_types.specs.declared.request.Request.{Request}
use Rattle.vr_trace.specs.Shown.{Shown}

-- how a volume may reply to a request on a line, and be then
abbrev pub Replying : Type 0 → Type 1
Replying V = V → ℕ → Request → Reply → V → Type 0

-- The catalog is as it was; a write that failed stops the volume.
abbrev pub IsShownReplied : Reply → Shown → Shown → Type 0
IsShownReplied (Refused WriteFault) old new = new ≡ record old { stopped = true }
IsShownReplied reply old new = new ≡ old
