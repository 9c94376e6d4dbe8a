use Rattle.std.proofs.Common.{◌∷◌, ◌++◌, List, nat_eq, ap, ◌∙◌, subst, refl}
use Rattle.lru.specs.LruCache.{lru_cache, promoted}
use Rattle.std.specs.Map.{keys_of}
use Rattle.std.specs.List.{IsDistinct}
use Rattle.vr_resident.specs.Places.{Entry}
use Rattle.vr_resident.proofs.Entries.{found, removed}
use Rattle.vr_resident.proofs.table.use_place.Goals as goal

pub returns : goal.returns
returns c before after place split =
    let distinct : IsDistinct nat_eq (keys_of (before ++ (c.args.number, place) ∷ after)) =
    subst (λ (es : List Entry). IsDistinct nat_eq (keys_of es)) split c.len.ensures.valid.0 in
    c.promote.ensures.entries ∙ ap (λ (es : List Entry). lru_cache es c.args.table.now.cap)
    (ap (λ (es : List Entry). promoted (nat_eq c.args.number) es) split
    ∙ rw (
      found c.args.number place after before distinct,
      removed c.args.number place after
          before distinct,
    ) refl)
