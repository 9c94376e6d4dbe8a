-- The head of an area of a keyed part after a call that puts nothing.
use Rattle.std.proofs.Common.{◌≡◌, Bool, IsTrue, sym, ap, subst}
use Rattle.vr_types.specs.Image.{Image, block_at}
use Rattle.vr_types.specs.Seen.{Seen}
use Rattle.vr_types.specs.Blocks.{Keeps}
use Rattle.vr_space.specs.Keyed.{HasEnds, Keyed}
use Rattle.vr_space.proofs.CallerLemmas.{same-ends}

module _ (part : Keyed) (tells : Bool) (told : IsTrue tells) (a b : Seen) (call : Keeps tells a b)
  where
    -- it is the one that it was,
    pub still-head : block_at b.cur part.head ≡ block_at a.cur part.head
    still-head = ap (λ (image : Image). block_at image part.head) (call.content told)

    -- so it has the ends that it had
    pub still-current : HasEnds (block_at a.cur part.head) (block_at b.cur part.head)
    still-current = subst (HasEnds (block_at a.cur part.head)) (sym still-head)
        (same-ends (block_at a.cur part.head))
