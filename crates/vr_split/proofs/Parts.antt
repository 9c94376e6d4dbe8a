-- A part of the records of an interval, as it is written record by record.
use Rattle.std.proofs.Common.{◌≡◌, ℕ, zero, suc, ◌+◌, ◌<◌, ◌≤◌, Bool, true, false, List, []}
use Rattle.std.proofs.Common.{◌∷◌, ◌++◌, length, take, drop, map, Option, Some, refl, sym, ap}
use Rattle.std.proofs.Common.{subst, ◌∙◌, arith, add-one, true≢false}
use Rattle.std.specs.Prelude.{unwrap_or, is_some}
use Rattle.std.specs.List.{AllByRecursion, slice_get}
use Rattle.std.proofs.lemmas.List.{length-replicate, take-append-drop, drop-append-le, length-take}
use Rattle.vr_ci_match.specs.declared.form.Form.{Form}
use Rattle.vr_ci_match.specs.declared.form.Form.TheVariants.{Plain}
use Rattle.vr_ci_match.specs.declared.form.Shape.TheVariants as shapes
use Rattle.vr_ci.specs.Interval.{Item, IsItem, IsInterval, bytes_of, live_of, room}
use Rattle.vr_ci.specs.Writer.{written}
use Rattle.vr_ci.proofs.CallerLemmas.{room-append, written_item}

length-written : (bytes : List ℕ) (live : Bool) → length (written bytes live).bytes ≡ length bytes
length-written bytes true = refl
length-written bytes false = length-replicate (length bytes) 0

-- the item of a number, as it was read
record Read (items : List Item) (i : ℕ) (bytes : List ℕ) (live : Bool) : Type 0 where
  pub next : take (suc i) items ≡ take i items ++ written bytes live ∷ []
  pub some : 0 < length bytes

read_by : (items : List Item) (i : ℕ) (bytes : List ℕ) (live : Bool)
    → slice_get (map bytes_of items) i ≡ Some bytes → slice_get (map live_of items) i ≡ Some live
    → AllByRecursion IsItem items → Read items i bytes live
read_by [] i bytes live is lives fit = absurd (true≢false (sym (ap is_some is)))
read_by (item ∷ items) zero bytes live is lives fit =
    let same : item.bytes ≡ bytes = ap (λ (o : Option (List ℕ)). unwrap_or o bytes) is in
    let alive : item.live ≡ live = ap (λ (o : Option Bool). unwrap_or o live) lives in
    let whole : written bytes live ≡ item = ap (λ (b : List ℕ). written b live) (sym same)
    ∙ ap (written item.bytes) (sym alive) ∙ written_item item fit.0 in
    record {
      next = ap (λ (x : Item). x ∷ []) (sym whole);
      some =
          subst (λ (b : List ℕ). 0 < length b) same fit.0.some;
    }
read_by (item ∷ items) (suc i) bytes live is lives fit =
    let further = read_by items i bytes live is lives fit.1 in
    record { next = ap (λ (xs : List Item). item ∷ xs) further.next; some = further.some }

-- no part needs more room than all
room-take : (n : ℕ) (items : List Item) → room (take n items) ≤ room items
room-take n items =
    omega (arith, room-append (take n items) (drop n items), ap room (take-append-drop n items))

room-drop : (n : ℕ) (items : List Item) → room (drop n items) ≤ room items
room-drop n items =
    omega (arith, room-append (take n items) (drop n items), ap room (take-append-drop n items))

-- one more record of the part
pub record PartMore (items : List Item) (from i : ℕ) (bytes : List ℕ) (live : Bool) : Type 0 where
  pub next : drop from (take (i + 1) items) ≡ drop from (take i items) ++ written bytes live ∷ []
  pub some : 0 < length bytes
  pub room : room (drop from (take i items)) + (length bytes + 3) ≤ room items

pub part_more : (items : List Item) (from i : ℕ) (bytes : List ℕ) (live : Bool) → from ≤ i
    → i < length items → slice_get (map bytes_of items) i ≡ Some bytes
    → slice_get (map live_of items) i ≡ Some live
    → AllByRecursion IsItem items → PartMore items from i bytes live
part_more items from i bytes live order within is lives fit =
    let read = read_by items i bytes live is lives fit in
    let long : from ≤ length (take i items) = omega (arith, order, within, length-take i items) in
    let next : drop from (take (i + 1) items) ≡ drop from (take i items)
    ++ written bytes live ∷ [] =
    ap (λ (n : ℕ). drop from (take n items)) (add-one i) ∙ ap (drop from) read.next
    ∙ drop-append-le from (take i items) (written bytes live ∷ []) long in
    record {
      next = next;
      some = read.some;
      room = omega (
        arith,
        room-append (drop from (take i items)) (written bytes live ∷ []),
        ap room
            next,
        room-drop from (take (i + 1) items),
        room-take (i + 1) items,
        length-written bytes
            live,
      );
    }

-- no record yet
pub part_none : (items : List Item) (from : ℕ) → drop from (take from items) ≡ []
part_none [] zero = refl
part_none [] (suc from) = refl
part_none (item ∷ items) zero = refl
part_none (item ∷ items) (suc from) = part_none items from

-- an interval of the form and the records that are meant
pub as_meant : {out : List ℕ} (form : Form) (items meant : List Item) (busy : Bool) → form ≡ Plain
    → items ≡ meant
    → IsInterval form out (record { shape = shapes.Records; items = items; busy = busy })
    → IsInterval Plain out (record { shape = shapes.Records; items = meant; busy = busy })
as_meant {out} form items meant busy plain same is =
    subst (λ (f : Form). IsInterval f out (record {
      shape = shapes.Records;
      items = meant;
      busy =
          busy;
    })) plain
    (subst (λ (xs : List Item). IsInterval form out (record {
      shape = shapes.Records;
      items =
          xs;
      busy = busy;
    })) same is)
