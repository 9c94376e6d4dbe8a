use Rattle.std.proofs.Common.{◌≡◌, List, ℕ, IsTrue, subst, sym, true}
use Rattle.std.specs.Ordering.{is_le, is_lt}
use Rattle.vr_types.specs.Content.{place_cmp}
use Rattle.vr_space.specs.Whence.{allows}
use Rattle.vr_space.specs.declared.whence.Whence.{Whence}
use Rattle.vr_keyed.proofs.Over.{before-at, before-past}
use Rattle.vr_keyed.proofs.chain.first_area.Goals as goal

pub returns-in-At : goal.returns-in-At
returns-in-At c place allowed =
    before-at c.args.areas.now.ends c.position.result c.as_slice.result.now c.position.ensures place
    (subst (λ (low : List ℕ). is_le (place_cmp low place) ≡ true) (sym c.as_slice.ensures)
    (subst (λ (from : Whence). IsTrue (allows from place)) c.in-At.is allowed))

pub returns-in-After : goal.returns-in-After
returns-in-After c place allowed =
    before-past c.args.areas.now.ends c.position-in-After.result c.as_slice-in-After.result.now
    c.position-in-After.ensures place
    (subst (λ (low : List ℕ). is_lt (place_cmp low place) ≡ true) (sym c.as_slice-in-After.ensures)
    (subst (λ (from : Whence). IsTrue (allows from place)) c.in-After.is allowed))

pub returns-in-Above : goal.returns-in-Above
returns-in-Above c place allowed =
    before-past c.args.areas.now.ends c.position-in-Above.result c.in-Above.place.now
    c.position-in-Above.ensures place
    (subst (λ (from : Whence). IsTrue (allows from place)) c.in-Above.is allowed)
