use Rattle.std.proofs.Common.{◌<◌, List, subst, sym}
use Rattle.vr_history.specs.declared.entry.Entry.{Entry}
use Rattle.vr_history.specs.Kept.{Kept}
use Rattle.vr_history.specs.Merged.{IsStamped, last_stamp}
use Rattle.vr_history.proofs.CallerLemmas.{stamped-append}
use Rattle.vr_history.proofs.history.History.push.Goals as goal

pub invariant_of-self : goal.invariant_of-self
invariant_of-self c =
    let P : List Entry → Type 0 = IsStamped 0 in
    let rises : last_stamp 0 c.self.inside.entries.items < c.args.entry.stamp =
    let R : Kept → Type 0 = λ kept. last_stamp 0 kept.entries < c.args.entry.stamp in
    subst R (sym c.self.view_is) c.requires.rises in
    subst P (sym c.push_reserved.ensures.items) (stamped-append 0 _ _ c.self.invariant rises)
