use Rattle.std.proofs.Common.{rules, ◌≡◌, ℕ, List, Option, true, sym, ap, ◌∙◌}
use Rattle.vr_space.specs.Keyed.{low_in}
use Rattle.vr_space.specs.Room.{is_above}
use Rattle.vr_space.proofs.Searching.{above-found, above-none}
use Rattle.vr_space.proofs.search.find_entry.Goals as goal

pub returns-clause-found : goal.returns-clause-found
returns-clause-found c =
    let s = c.args.view.now in
    let above : is_above (low_in s) c.args.place.now ≡ true =
    ap (λ (low : Option (List ℕ)). is_above low c.args.place.now) (sym c.first_low.ensures.low)
    ∙ sym c.is_above.ensures ∙ search rules in
    above-found c.args.place.now (low_in s) s.entries c.find.result above c.find.ensures.first
    c.find.ensures.entry

pub returns-clause-none : goal.returns-clause-none
returns-clause-none c =
    let s = c.args.view.now in
    above-none c.args.place.now (low_in s) s.entries c.find.result c.find.ensures.none
