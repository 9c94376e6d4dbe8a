use Rattle.std.proofs.Common.{[], ◌∷◌, refl}
use Rattle.std.proofs.lemmas.List.{drop-append-le}
use Rattle.vr_scan.proofs.Texts.{tokens_kept}
use Rattle.vr_scan.proofs.draft.Draft.push.Goals as goal

pub returns : goal.returns
returns c =
    let kept = tokens_kept _ (c.args.byte ∷ []) _ c.self.invariant.0 in
    let text = drop-append-le c.self.inside.start c.self.inside.bytes.items (c.args.byte ∷ [])
    c.self.invariant.1 in
    rw c.in_ok-push.ensures.items (rw (kept, text) (rw (← c.self.view_is) refl))
