use Rattle.std.proofs.Common.{◌≡◌, ◌∙◌, ℕ, All, IfOk, List, length, map, subst, sym}
use Rattle.std.proofs.lemmas.List.{length-map}
use Rattle.vr_types.specs.declared.bound.Bound.{Bound}
use Rattle.vr_catalog.specs.declared.entry.CatEntry.{CatEntry}
use Rattle.vr_bind.specs.Bound.{bound_requests}
use Rattle.vr_bind.specs.Placed.{IsPlaced, IsBased}
use Rattle.vr_bind.proofs.Basing.{are_based}
use Rattle.vr_bind.proofs.Placing.{are_placed, bound_same, if_whole}
use Rattle.vr_bind.proofs.binding.bind.Goals as goal

pub returns-clause-value : goal.returns-clause-value
returns-clause-value c =
    let catalogs : List (List CatEntry) = map (λ one. one.now) c.args.catalogs.now in
    subst (λ (whole : List Bound). IfOk c.bind_on.result (λ requests. requests ≡ whole))
    (bound_same c.args.deck.now catalogs c.as_slice.result.now (length c.args.catalogs.now)
    c.as_slice-2.result.now (c.as_slice.ensures.value ∙ c.in_ok-files.ensures)
    (sym (length-map c.args.catalogs.now (λ one. one.now))) c.as_slice-2.ensures) c.bind_on.ensures

pub returns-clause-placed : goal.returns-clause-placed
returns-clause-placed c =
    let catalogs : List (List CatEntry) = map (λ one. one.now) c.args.catalogs.now in
    let whole : List Bound = bound_requests c.args.deck.now catalogs in
    let count : ℕ = length c.args.catalogs.now in
    if_whole (All (IsPlaced count)) whole c.bind_on.result (returns-clause-value c)
    (subst (λ (many : ℕ). All (IsPlaced many) whole)
    (length-map c.args.catalogs.now (λ one. one.now)) (are_placed c.args.deck.now catalogs))

pub returns-clause-based : goal.returns-clause-based
returns-clause-based c allowed =
    let catalogs : List (List CatEntry) = map (λ one. one.now) c.args.catalogs.now in
    if_whole (All IsBased) (bound_requests c.args.deck.now catalogs) c.bind_on.result
    (returns-clause-value c) (are_based c.args.deck.now catalogs allowed)
