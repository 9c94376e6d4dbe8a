-- An interval of which one record is written over by one of the same length.
use Rattle.vr_ci_match.specs.declared.form.Shape.TheVariants as shapes
use Rattle.std.proofs.Common.{◌≡◌, ℕ, ◌+◌, ◌-◌, ◌≤◌, Bool, true, inl, inr, List, [], ◌∷◌, ◌++◌}
use Rattle.std.proofs.Common.{length, take, drop, sym, ap, ◌∙◌, subst, arith, append_assoc}
use Rattle.std.proofs.Common.{length-append}
use Rattle.std.specs.Prelude.{map}
use Rattle.std.specs.List.{flat_map, AllByRecursion}
use Rattle.std.proofs.lemmas.List.{take_at, drop_at}
use Rattle.std.proofs.lemmas.Grind.{flat_map-append}
use Rattle.vr_ci_match.specs.declared.form.Form.{Form}
use Rattle.vr_ci_match.specs.declared.form.Form.TheVariants.{Plain, Slots}
use Rattle.vr_ci_match.specs.declared.form.Shape.{Shape}
use Rattle.vr_ci_match.specs.declared.rdf.Rdf.{Rdf}
use Rattle.vr_types.specs.BlockSize.{IsBlockSize}
use Rattle.vr_types.specs.Fields.{with_bytes}
use Rattle.vr_ci_match.specs.Rdf.{Mark, spans, control}
use Rattle.vr_ci_match.specs.Laid.{padded, cidf, control_at}
use Rattle.vr_ci_match.proofs.CallerLemmas.{total, total-all, zeros, padded_fits}
use Rattle.vr_types.proofs.CallerLemmas.{length-with_bytes}
use Rattle.vr_ci.specs.Interval.{Item, Interval, IsItem, IsSegmentLength, mark_of, bytes_of, room}
use Rattle.vr_ci.specs.Interval.{FitsBlock, Fits, IsLaidOut, IsInterval}
use Rattle.vr_ci.specs.Writer.{written}
use Rattle.vr_ci.specs.Over.{StandsAt}
use Rattle.vr_ci.proofs.IntervalLemmas.{laid_says, end_items}
use Rattle.vr_ci.proofs.ItemLemmas.{length-bytes}
use Rattle.vr_ci.proofs.WriterLemmas.{interval_of}

-- the bytes of items lie in the block that has them
pub items_within : (form : Form) (block : List ℕ) (value : Interval) → IsInterval form block value
    → length (flat_map bytes_of value.items) ≤ length block
items_within form block value interval =
    elim interval.laid [
      | inl laid ↦
          let l = laid_says form block value interval.size interval.fits laid in
          omega (arith, ap length l.front, length-append (flat_map bytes_of value.items) l.rest)
      | inr end ↦
          let none = end_items form (length block) value.shape value.items end.0
          interval.fits.block in
          omega (arith, ap (λ (items : List Item). length (flat_map bytes_of items)) none)
    ]

-- What holds of each item still does.
all_over : (P : Item → Type 0) (before after : List Item) (old new : Item) → (P old → P new)
    → AllByRecursion P (before ++ old ∷ after) → AllByRecursion P (before ++ new ∷ after)
all_over P [] after old new keeps all = (keeps all.0, all.1)
all_over P (item ∷ before) after old new keeps all =
    (all.0, all_over P before after old new keeps all.1)

marks_over : (before after : List Item) (old new : Item) → mark_of old ≡ mark_of new
    → map mark_of (before ++ old ∷ after) ≡ map mark_of (before ++ new ∷ after)
marks_over [] after old new same = ap (λ (m : Mark). m ∷ map mark_of after) same
marks_over (item ∷ before) after old new same =
    ap (λ (ms : List Mark). mark_of item ∷ ms) (marks_over before after old new same)

room_over : (before after : List Item) (old new : Item) → length new.bytes ≡ length old.bytes
    → room (before ++ new ∷ after) ≡ room (before ++ old ∷ after)
room_over [] after old new same = omega (arith, same)
room_over (item ∷ before) after old new same = omega (arith, room_over before after old new same)

count_over : (before after : List Item) (old new : Item)
    → length (before ++ new ∷ after) ≡ length (before ++ old ∷ after)
count_over before after old new =
    omega (arith, length-append before (new ∷ after), length-append before (old ∷ after))

none_there : (before after : List Item) (old : Item) → before ++ old ∷ after ≡ [] → ⊥
none_there before after old none = omega (arith, ap length none, length-append before (old ∷ after))

fits_over : (form : Form) (size : ℕ) (shape : Shape) (before after : List Item) (old new : Item)
    → length new.bytes ≡ length old.bytes → FitsBlock form size shape (before ++ old ∷ after)
    → FitsBlock form size shape (before ++ new ∷ after)
fits_over Plain size shapes.Records before after old new same fits =
    omega (arith, fits, room_over before after old new same)
fits_over (Slots len) size shapes.Records before after old new same fits = (
  all_over (λ (item : Item). length item.bytes ≡ len) before after old new (λ long. same ∙ long)
      fits.0,
  count_over before after old new ∙ fits.1,
)
fits_over form size (shapes.Segment piece number) before after old new same fits = (
  fits.0,
  all_over (λ (item : Item). IsSegmentLength piece size (length item.bytes)) before after old new
      (λ long. subst (λ (n : ℕ). IsSegmentLength piece size n) (sym same) long)
      fits.1,
  count_over before after old new ∙ fits.2,
)
fits_over form size shapes.EndOfFile before after old new same fits =
    absurd (none_there before after old fits)

-- Bytes are put over as many.
put_over : (a b c d : List ℕ) (at : ℕ) → at ≡ length a → length b ≡ length d
    → with_bytes (a ++ (b ++ c)) at d ≡ a ++ (d ++ c)
put_over a b c d at place long =
    let front : take at (a ++ (b ++ c)) ≡ a = take_at a (b ++ c) at (sym place) in
    let back : drop (at + length d) (a ++ (b ++ c)) ≡ c =
    ap (λ (x : List ℕ). drop (at + length d) x) (sym (append_assoc a b c))
    ∙ drop_at (a ++ b) c (at + length d) (omega (arith, length-append a b, place, long)) in
    ap (λ (x : List ℕ). x ++ d ++ drop (at + length d) (a ++ (b ++ c))) front
    ∙ ap (λ (x : List ℕ). a ++ d ++ x) back ∙ append_assoc a d c

-- the bytes of items with one among them, and what comes after
bytes_parts : (before after : List Item) (item : Item) (rest : List ℕ)
    → flat_map bytes_of (before ++ item ∷ after) ++ rest
    ≡ flat_map bytes_of before ++ (item.bytes ++ (flat_map bytes_of after ++ rest))
bytes_parts before after item rest =
    ap (λ (x : List ℕ). x ++ rest) (flat_map-append bytes_of before (item ∷ after))
    ∙ append_assoc (flat_map bytes_of before) (item.bytes ++ flat_map bytes_of after) rest
    ∙ ap (λ (x : List ℕ). flat_map bytes_of before ++ x)
    (append_assoc item.bytes (flat_map bytes_of after) rest)

-- what comes after the items' bytes: the free space, the RDFs and the CIDF
abbrev rest_of : ℕ → List Rdf → Bool → List ℕ
rest_of size rs busy =
    zeros (control_at size rs - spans rs) ++ (control rs
    ++ cidf (spans rs) (control_at size rs - spans rs) busy)

regroup : (a : List ℕ) (size : ℕ) (rs : List Rdf) (busy : Bool)
    → ((a ++ zeros (control_at size rs - spans rs)) ++ control rs)
    ++ cidf (spans rs) (control_at size rs - spans rs) busy ≡ a ++ rest_of size rs busy
regroup a size rs busy =
    let free = zeros (control_at size rs - spans rs) in
    let tail = cidf (spans rs) (control_at size rs - spans rs) busy in
    ap (λ (x : List ℕ). x ++ tail) (append_assoc a free (control rs))
    ∙ append_assoc a (free ++ control rs) tail
    ∙ ap (λ (x : List ℕ). a ++ x) (append_assoc free (control rs) tail)

-- It is the interval with the record in place of the one that stood there.
pub written_over : (form : Form) (block : List ℕ) (value : Interval) (before after : List Item)
    (old : Item) (at : ℕ) (bytes : List ℕ) → at + length bytes ≤ length block
    → IsInterval form block value → StandsAt value.items before old after at (length bytes)
    → IsInterval form (with_bytes block at bytes) (record {
      shape = value.shape;
      items = before ++ written bytes true ∷ after;
      busy = value.busy;
    })
written_over form block value before after old at bytes within interval stands =
    elim interval.laid [
      | inl laid ↦ of_laid laid
      | inr end ↦ absurd (none_there before after old (sym stands.parts
          ∙ end_items form (length block) value.shape value.items end.0 interval.fits.block))
    ]
  where
    new : Item
    new = written bytes true

    made : Interval
    made = record {
      shape = value.shape;
      items = before ++ written bytes true ∷ after;
      busy = value.busy;
    }

    out : List ℕ
    out = with_bytes block at bytes

    same_size : length out ≡ length block
    same_size = length-with_bytes block at bytes within

    same_length : length bytes ≡ length old.bytes
    same_length = sym stands.long

    of_laid : IsLaidOut form block value → IsInterval form out made
    of_laid laid =
        let l = laid_says form block value interval.size interval.fits laid in
        let front : List ℕ = flat_map bytes_of value.items in
        let n : ℕ = length block in
        let long : length front ≡ spans l.rdfs = length-bytes value.items
        ∙ ap total (sym l.said) ∙ total-all l.rdfs in
        let tail : List ℕ = cidf (spans l.rdfs) (control_at n l.rdfs - spans l.rdfs) value.busy in
        let spread : padded (control_at n l.rdfs) front ≡ front
        ++ zeros (control_at n l.rdfs - spans l.rdfs) =
        padded_fits (control_at n l.rdfs) front (omega (arith, long, l.place))
        ∙ ap (λ (k : ℕ). front ++ zeros (control_at n l.rdfs - k)) long in
        let rest : List ℕ = rest_of n l.rdfs value.busy in
        let whole : block ≡ flat_map bytes_of before
        ++ (old.bytes ++ (flat_map bytes_of after ++ rest)) =
        l.layout ∙ ap (λ (x : List ℕ). (x ++ control l.rdfs) ++ tail) spread
        ∙ regroup front n l.rdfs value.busy
        ∙ ap (λ (items : List Item). flat_map bytes_of items ++ rest) stands.parts
        ∙ bytes_parts before after old rest in
        let parts : out ≡ ((flat_map bytes_of made.items
        ++ zeros (control_at n l.rdfs - spans l.rdfs)) ++ control l.rdfs) ++ tail =
        ap (λ (x : List ℕ). with_bytes x at bytes) whole
        ∙ put_over (flat_map bytes_of before) old.bytes (flat_map bytes_of after ++ rest) bytes at
        stands.place stands.long
        ∙ sym (bytes_parts before after new rest)
        ∙ sym (regroup (flat_map bytes_of made.items) n l.rdfs value.busy) in
        interval_of form out made l.rdfs (subst IsBlockSize (sym same_size) interval.size) l.chain
        l.shape (l.said ∙ ap (map mark_of) stands.parts ∙ marks_over before after old new same_mark)
        (subst (λ (k : ℕ). Fits form k made) (sym same_size) fits)
        (omega (arith, l.place, same_size))
        (parts ∙ ap (λ (k : ℕ). ((flat_map bytes_of made.items
        ++ zeros (control_at k l.rdfs - spans l.rdfs)) ++ control l.rdfs)
        ++ cidf (spans l.rdfs) (control_at k l.rdfs - spans l.rdfs) value.busy) (sym same_size))
      where
        same_mark : mark_of old ≡ mark_of new
        same_mark =
            let live : old.live ≡ true = stands.live in
            let len : length old.bytes ≡ length bytes = stands.long in
            let same : (let m : Mark = record { live = old.live; len = length old.bytes } in m)
            ≡ (let m : Mark = record { live = true; len = length bytes } in m) = cc in same

        fits : Fits form (length block) made
        fits = record {
          items = all_over IsItem before after old new
              (λ is. record { some = omega (arith, is.some, same_length); zeros = λ not. absurd cc })
              (subst (λ (items : List Item). AllByRecursion IsItem items) stands.parts
              interval.fits.items);
          block = fits_over form (length block) value.shape before after old new same_length
              (subst (λ (items : List Item). FitsBlock form (length block) value.shape items)
              stands.parts interval.fits.block);
          idle = interval.fits.idle;
        }

-- the same of a block that is put together so
pub written_over_by : (form : Form) (block out : List ℕ) (value : Interval)
    (before after : List Item) (old : Item) (at : ℕ) (bytes : List ℕ)
    → out ≡ with_bytes block at bytes → at + length bytes ≤ length block
    → IsInterval form block value → StandsAt value.items before old after at (length bytes)
    → IsInterval form out (record {
      shape = value.shape;
      items = before ++ written bytes true ∷ after;
      busy = value.busy;
    })
written_over_by form block out value before after old at bytes same within interval stands =
    subst (λ (x : List ℕ). IsInterval form x (record {
      shape = value.shape;
      items = before ++ written bytes true ∷ after;
      busy = value.busy;
    })) (sym same)
    (written_over form block value before after old at bytes within interval stands)
