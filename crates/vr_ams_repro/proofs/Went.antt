-- What events of a command enter on the volume of the target, one after another.
use Rattle.std.proofs.Common.{◌≡◌, ◌∙◌, ℕ, List, refl}
use Rattle.vr_types.specs.declared.geometry.Geometry.{Geometry}
use Rattle.vr_history.specs.declared.entry.Entry.{Entry}
use Rattle.vr_ams_define.proofs.Later.{later-nothing, later-then}
use Rattle.vr_ams_repro.specs.Steps.{WentOn}

-- a volume that wasn't asked
pub went-nothing : {V : Type 0} (geometry : V → Geometry) (history : V → List Entry)
    (goes : V → V → Type 0) → ((volume : V) → goes volume volume) → (line after : ℕ) (volume : V)
    → WentOn geometry history goes line after volume volume
went-nothing geometry history goes nowhere line after volume = record {
  later = later-nothing history goes line after volume (nowhere volume);
  shape = refl;
}

-- one that was asked, and asked again
pub went-then : {V : Type 0} (geometry : V → Geometry) (history : V → List Entry)
    (goes : V → V → Type 0) → ((a b c : V) → goes a b → goes b c → goes a c) → (line after : ℕ)
    (a b c : V) → WentOn geometry history goes line after a b
    → WentOn geometry history goes line after b c → WentOn geometry history goes line after a c
went-then geometry history goes further line after a b c first second = record {
  later = later-then history goes further line after a b c first.later second.later;
  shape = second.shape ∙ first.shape;
}
