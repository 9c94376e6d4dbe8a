use Rattle.std.proofs.Common.{◌≡◌, ◌∷◌, ◌++◌, List, Option, Some, None, IsSome, MutBor, nat_eq, ap}
use Rattle.std.proofs.Common.{◌∙◌, subst}
use Rattle.lru.specs.LruCache.{lru_cache}
use Rattle.vr_resident.specs.Places.{Entry}
use Rattle.vr_resident.specs.declared.place.Place.{Place}
use Rattle.std.specs.Option.{option_copied_mut}
use Rattle.std.specs.List.{IsDistinct}
use Rattle.std.specs.Map.{keys_of, lookup, set_value}
use Rattle.vr_resident.proofs.Entries.{value_found, changed}
use Rattle.vr_resident.proofs.table.change.Goals as goal

is_there : (o : Option (MutBor Place)) (place : Place) → option_copied_mut o ≡ Some place → IsSome o
is_there None place e = cc
is_there (Some r) place e = search e

held_there : (o : Option (MutBor Place)) (r : MutBor Place) (place : Place) → o ≡ Some r
    → option_copied_mut o ≡ Some place → r.now ≡ place
held_there None r place s e = cc
held_there (Some q) r place s e = let p : q.now ≡ place = cc in let w : q ≡ r = cc in
    cc (ap (λ (x : MutBor Place). x.now) w, p)

pub unwrap-requires : goal.unwrap-requires
unwrap-requires c =
    let r = c.requires in
    let distinct : IsDistinct nat_eq (keys_of (r.before ++ (c.args.number, r.place) ∷ r.after)) =
    subst (λ (es : List Entry). IsDistinct nat_eq (keys_of es)) r.split c.len.ensures.valid.0 in
    is_there c.peek_mut.result r.place (c.peek_mut.ensures.value
    ∙ ap (lookup (nat_eq c.args.number)) r.split
    ∙ value_found c.args.number r.place r.after r.before distinct)

pub returns : goal.returns
returns c before after place split =
    let distinct : IsDistinct nat_eq (keys_of (before ++ (c.args.number, place) ∷ after)) =
    subst (λ (es : List Entry). IsDistinct nat_eq (keys_of es)) split c.len.ensures.valid.0 in (
      c.replace.ensures.value ∙ held_there c.peek_mut.result c.unwrap.result place c.unwrap.ensures
          (c.peek_mut.ensures.value ∙ ap (lookup (nat_eq c.args.number)) split
          ∙ value_found c.args.number place after before distinct),
      ap (λ (es : List Entry). lru_cache es c.args.table.now.cap)
          (ap (λ (to : Place). set_value (nat_eq c.args.number) c.args.table.now.entries to)
          c.replace.ensures.after
          ∙ ap (λ (es : List Entry). set_value (nat_eq c.args.number) es c.args.to) split
          ∙ changed c.args.number place after c.args.to before distinct),
    )
