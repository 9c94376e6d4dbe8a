use Rattle.std.proofs.Common.{◌≡◌, ◌-◌, ℕ, false, List, [], Option, Some, None, ap, refl, sym}
use Rattle.std.proofs.Common.{replicate, ◌∙◌, true≢false}
use Rattle.std.specs.Option.{is_some}
use Rattle.vr_space.specs.Keyed.{Keyed, last_high}
use Rattle.vr_seqset.specs.Reading.{entry_of}
use Rattle.vr_attach.proofs.LinkRules.{last-entry}
use Rattle.vr_attach.proofs.link.is_followed.Goals as goal

-- there is none
none-next : (next : Option ℕ) → false ≡ is_some next → next ≡ None
none-next None test = refl
none-next (Some area) test = absurd (true≢false (sym test))

pub returns-else-is_some : goal.returns-else-is_some
returns-else-is_some c =
    let key : ℕ = c.args.layout.now.key in
    let key_is : c.layout.inside.key ≡ key = ap (λ (l : Keyed). l.key) c.layout.view_is in
    let ends : last_high c.args.view.now.entries ≡ Some c.high.result.now =
    last-entry c.args.view.now.entries (record { intervals = []; high = [] }) c.requires
    ∙ ap (λ (n : ℕ). Some (entry_of c.args.view.now (n - 1)).high) (sym c.count.ensures)
    ∙ ap (λ (place : List ℕ). Some place) (sym c.high.ensures) in
    let none : c.args.view.now.next ≡ None =
    sym c.next.ensures ∙ none-next c.next.result c.if-is_some.ensures in (
      λ test _. ends ∙ ap (λ (place : List ℕ). Some place) (c.is_greatest.ensures.0 test)
          ∙ ap (λ (n : ℕ). Some (replicate n 255)) key_is,
      λ follows. c.is_greatest.ensures.1 (same-place (sym ends ∙ follows none)
          ∙ ap (λ (n : ℕ). replicate n 255) (sym key_is)),
    )
  where
    same-place : {one other : List ℕ} → Some one ≡ Some other → one ≡ other
    same-place same = cc
