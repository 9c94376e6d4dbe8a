use Rattle.std.proofs.Common.{◌≡◌, ◌-◌, List, length, Some, slice_get, subst, ap, ◌∙◌}
use Rattle.vr_history.specs.declared.entry.Entry.{Entry}
use Rattle.vr_history.specs.Kept.{Kept}
use Rattle.vr_history.specs.Merged.{last_stamp}
use Rattle.vr_history.proofs.CallerLemmas.{last_stamp-get}
use Rattle.vr_history.proofs.history.History.last.Goals as goal

pub returns-in-Some : goal.returns-in-Some
returns-in-Some c =
    let G : List Entry → Type 0 = λ l. Some c.in-Some.entry.now ≡ slice_get l (length l - 1) in
    let items = c.self.inside.entries.items in
    let at_end : Some c.in-Some.entry.now ≡ slice_get items (length items - 1) =
    subst G c.deref.ensures.value c.in-Some.ensures.value in
    last_stamp-get 0 items c.in-Some.entry.now at_end
    ∙ ap (λ (kept : Kept). last_stamp 0 kept.entries) c.self.view_is
