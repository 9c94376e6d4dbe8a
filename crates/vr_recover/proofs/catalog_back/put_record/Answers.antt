use Rattle.std.proofs.Common.{◌≡◌, ◌∙◌, ℕ, List, refl, sym, ap, subst, insert}
use Rattle.std.specs.Prelude.{slice_set}
use Rattle.std.specs.List.{prefix_len}
use Rattle.std.specs.Ordering.{is_gt}
use Rattle.vr_types.specs.Content.{Standing, place_cmp, with_item}
use Rattle.vr_recover.specs.Images.{HasName, name_in, named}
use Rattle.vr_recover.proofs.Attaching.{not-if}
use Rattle.vr_recover.proofs.CatalogBack.{put-between, put-over}
use Rattle.vr_recover.proofs.catalog_back.put_record.Goals as goal

pub returns-then-has_name : goal.returns-then-has_name
returns-then-has_name c =
    let items = c.args.records.now.items in
    let place = c.args.place.now in
    let bytes = c.args.bytes in
    let same : c.lower-at.result
    ≡ prefix_len (λ other. is_gt (place_cmp place (name_in other))) items =
    subst (λ (xs : List (List ℕ)). c.lower-at.result
    ≡ prefix_len (λ other. is_gt (place_cmp place (name_in other))) xs)
    c.deref.ensures.value c.lower-at.ensures.place in
    let has : HasName items c.lower-at.result place =
    subst (λ (xs : List (List ℕ)). HasName xs c.lower-at.result place) c.deref-2.ensures.value
    (c.if-has_name.ensures.0 refl) in
    sym (subst (λ (n : ℕ). with_item (named items) place (Standing bytes)
    ≡ named (slice_set items n bytes)) (sym same)
    (put-over place bytes c.requires items
    (subst (λ (n : ℕ). HasName items n place) same has)))

pub returns : goal.returns
returns c =
    let items = c.args.records.now.items in
    let place = c.args.place.now in
    let bytes = c.args.bytes in
    let same : c.lower-at.result
    ≡ prefix_len (λ other. is_gt (place_cmp place (name_in other))) items =
    subst (λ (xs : List (List ℕ)). c.lower-at.result
    ≡ prefix_len (λ other. is_gt (place_cmp place (name_in other))) xs)
    c.deref.ensures.value c.lower-at.ensures.place in
    ap named c.in_ok-insert.ensures.items
    ∙ sym (subst (λ (n : ℕ). with_item (named items) place (Standing bytes)
    ≡ named (insert items n bytes)) (sym same)
    (put-between place bytes c.requires items
    (λ has. not-if c.has_name.result (HasName c.deref-2.result.now c.lower-at.result place)
    c.has_name.ensures c.if-has_name.false
    (subst (λ (xs : List (List ℕ)). HasName xs c.lower-at.result place)
    (sym c.deref-2.ensures.value)
    (subst (λ (n : ℕ). HasName items n place) (sym same) has)))))
