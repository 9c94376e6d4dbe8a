use Rattle.std.proofs.Common.{◌≡◌, ◌∷◌, ◌++◌, ◌-◌, [], List, ap, arith, length, refl}
use Rattle.std.proofs.Common.{◌∙◌, drop, take}
use Rattle.std.proofs.lemmas.List.{drop_at, length_push, take_at}
use Rattle.vr_attach.specs.declared.areas.AreaEnd.{AreaEnd}
use Rattle.vr_attach.proofs.areas.cut_first.Goals as goal

pub returns : goal.returns
returns c first spare between are =
    let rest : List AreaEnd = first ∷ between in
    let all : List AreaEnd = rest ++ spare ∷ [] in
    let last : length rest ≡ length all - 1 = omega (arith, length_push rest spare) in
    let turned : c.rotate_right.new.self ≡ spare ∷ rest =
    c.rotate_right.ensures.after
    ∙ ap (λ (some : List AreaEnd). drop (length some - 1) some ++ take (length some - 1) some) are
    ∙ ap (λ (some : List AreaEnd). some ++ take (length all - 1) all)
    (drop_at rest (spare ∷ []) (length all - 1) last)
    ∙ ap (λ (some : List AreaEnd). spare ∷ some)
    (take_at rest (spare ∷ []) (length all - 1) last) in
    rw (c.set.ensures, turned) refl
