use Rattle.std.proofs.Common.{◌≡◌, ◌∙◌, ℕ, [], ◌∷◌, List, IsTrue, ap, refl, subst, sym}
use Rattle.std.specs.Prelude.{Bool, Contains, nat_eq, take, ◌||◌, ◌↔◌}
use Rattle.std.specs.List.{list_any}
use Rattle.std.proofs.lemmas.Cmp.{nat_eq_equiv}
use Rattle.std.proofs.lemmas.Map.Views.{Contains-from_any, exact_unsigned_eq, list_any-from_Contains}
use Rattle.vr_attach.specs.Areas.{AreasNow, areas_seen}
use Rattle.vr_attach.specs.declared.areas.AreaEnd.{AreaEnd}
use Rattle.vr_attach.proofs.areas.Areas.has.Goals as goal

any-seen : (area : ℕ) (entries : List AreaEnd)
    → list_any (λ (entry : AreaEnd). nat_eq area entry.area) entries
    ≡ list_any (nat_eq area) (areas_seen entries)
any-seen area [] = refl
any-seen area (entry ∷ entries) =
    ap (λ (b : Bool). nat_eq area entry.area || b) (any-seen area entries)

has-seen : (area : ℕ) (entries : List AreaEnd) (is : Bool)
    → is ≡ list_any (λ (entry : AreaEnd). nat_eq area entry.area) entries
    → IsTrue is ↔ Contains (areas_seen entries) area
has-seen area entries is same = (
  (λ found. Contains-from_any exact_unsigned_eq area (areas_seen entries)
      (sym (any-seen area entries) ∙ sym same ∙ found)),
  (λ has. same ∙ any-seen area entries
      ∙ list_any-from_Contains nat_eq_equiv area (areas_seen entries) has),
)

pub returns : goal.returns
returns c =
    let area : ℕ = c.args.area in
    subst (λ (now : AreasNow). IsTrue c.is_among.result ↔ Contains now.areas area) c.self.view_is
    (subst (λ (all : List AreaEnd). IsTrue c.is_among.result
    ↔ Contains (areas_seen (take c.self.inside.used all)) area) c.deref.ensures.value
    (has-seen area (take c.self.inside.used c.deref.result.now) c.is_among.result
    c.is_among.ensures))
