-- What a block that is a control interval says, and that it says one value.
use Rattle.vr_ci_match.specs.declared.form.Shape.TheVariants as shapes
use Rattle.std.proofs.Common.{◌≡◌, ℕ, zero, suc, ◌+◌, ◌-◌, ◌*◌, ◌%◌, ◌<◌, ◌≤◌, inl, inr, List, []}
use Rattle.std.proofs.Common.{◌∷◌, ◌++◌, length, take, drop, None, refl, sym, ap, ◌∙◌, subst, arith}
use Rattle.std.proofs.Common.{append_assoc}
use Rattle.std.specs.Prelude.{map, if◌then◌else◌}
use Rattle.std.specs.List.{flat_map, AllByRecursion}
use Rattle.std.proofs.lemmas.List.{drop_at, take-append-drop}
use Rattle.vr_ci_match.specs.declared.form.Form.{Form}
use Rattle.vr_ci_match.specs.declared.form.Shape.{Shape}
use Rattle.vr_ci_match.specs.declared.rdf.Rdf.{Rdf}
use Rattle.vr_ci_match.specs.declared.rdf.Rdf.TheVariants.{Single, Run, Segment}
use Rattle.vr_types.specs.BlockSize.{IsBlockSize}
use Rattle.vr_ci_match.specs.Rdf.{Mark, marks, span, spans, control, IsRdf, IsChain, shape_of}
use Rattle.vr_ci.specs.Interval.{Item, Interval, mark_of, bytes_of, FitsBlock, Fits, IsLaidOut}
use Rattle.vr_ci.specs.Interval.{IsInterval}
use Rattle.vr_ci_match.specs.Laid.{padded, cidf, control_at, laid}
use Rattle.vr_ci.specs.Reading.{items_at}
use Rattle.vr_ci_match.specs.Fault.{displacement, free_field, free_length, free_end, is_busy}
use Rattle.vr_ci_match.specs.Fault.{HasZeroCidf}
use Rattle.vr_ci_match.proofs.CallerLemmas.{control_same, total, total-all, zeros, length-padded}
use Rattle.vr_ci_match.proofs.CallerLemmas.{padded_fits, Parts, before_cidf, cidf_says, field_busy}
use Rattle.vr_ci_match.proofs.CallerLemmas.{chain_rdfs}
use Rattle.vr_ci.proofs.SizeLemmas.{size_bounds}
use Rattle.vr_ci.proofs.ItemLemmas.{length-bytes, items_at-bytes, room_kept}

-- what the bytes of a block that is laid out say
pub record Laid (form : Form) (block : List ℕ) (value : Interval) : Type 0 where
  pub rdfs : List Rdf
  pub chain : IsChain form rdfs
  pub shape : shape_of rdfs ≡ value.shape
  pub said : flat_map marks rdfs ≡ map mark_of value.items
  pub place : spans rdfs + length (control rdfs) + 4 ≤ length block
  pub displacement : displacement block ≡ spans rdfs
  pub field : free_field block ≡ (control_at (length block) rdfs - spans rdfs) +
      (if value.busy then 32768 else 0)
  pub free : free_length block ≡ control_at (length block) rdfs - spans rdfs
  pub busy : is_busy block ≡ value.busy
  pub control : drop (control_at (length block) rdfs) (take (length block - 4) block) ≡ control rdfs
  pub rest : List ℕ
  pub front : block ≡ flat_map bytes_of value.items ++ rest
  pub layout : block ≡ laid (length block) (flat_map bytes_of value.items) rdfs value.busy

pub laid_says : (form : Form) (block : List ℕ) (value : Interval) → IsBlockSize (length block)
    → Fits form (length block) value → IsLaidOut form block value → Laid form block value
laid_says form block value size fits laid_out =
    let front = flat_map bytes_of value.items in
    let n = length block in
    let f = control_at n laid_out.rdfs in
    let bounds = size_bounds n size in
    let fits_shape : FitsBlock form n (shape_of laid_out.rdfs) value.items =
    subst (λ (s : Shape). FitsBlock form n s value.items) (sym laid_out.shape) fits.block in
    let place = room_kept form n laid_out.rdfs value.items bounds.0 laid_out.chain fits_shape
    laid_out.said in
    let long : length front ≡ spans laid_out.rdfs = length-bytes value.items
    ∙ ap total (sym laid_out.said) ∙ total-all laid_out.rdfs in
    let fits_front : length front ≤ f = omega (arith, place, long) in
    let parts : Parts block front laid_out.rdfs (spans laid_out.rdfs) (f - spans laid_out.rdfs)
    value.busy =
    record { whole = laid_out.layout; fits = omega (arith, place) } in
    let halves = before_cidf parts in
    let numbers = cidf_says block (spans laid_out.rdfs)
    ((f - spans laid_out.rdfs) + (if value.busy then 32768 else 0)) halves.1 in
    let flags = field_busy (f - spans laid_out.rdfs) value.busy (omega (arith, bounds.1)) in
    let spread : padded f front ≡ front ++ zeros (f - length front) =
    padded_fits f front fits_front in
    record {
      rdfs = laid_out.rdfs;
      chain = laid_out.chain;
      shape = laid_out.shape;
      said = laid_out.said;
      place = place;
      displacement = numbers.0;
      field = numbers.1;
      free = ap (λ (k : ℕ). k % 32768) numbers.1 ∙ flags.0;
      busy = ap (λ (k : ℕ). Rattle.std.specs.Prelude.nat_le 32768 k) numbers.1 ∙ flags.1;
      control = ap (λ (b : List ℕ). drop f b) halves.0
          ∙ drop_at (padded f front) (control laid_out.rdfs) f (length-padded f front);
      rest = zeros (f - length front)
          ++ (control laid_out.rdfs ++ cidf (spans laid_out.rdfs) (f - spans laid_out.rdfs)
          value.busy);
      front = laid_out.layout ∙ ap (λ (b : List ℕ). b ++ control laid_out.rdfs
          ++ cidf (spans laid_out.rdfs) (f - spans laid_out.rdfs) value.busy) spread
          ∙ regroup front (zeros (f - length front)) (control laid_out.rdfs)
          (cidf (spans laid_out.rdfs) (f - spans laid_out.rdfs) value.busy);
      layout = laid_out.layout;
    }
  where
    regroup : (a b c d : List ℕ) → ((a ++ b) ++ c) ++ d ≡ a ++ (b ++ (c ++ d))
    regroup a b c d = ap (λ (x : List ℕ). x ++ d) (append_assoc a b c) ∙ append_assoc a (b ++ c) d
        ∙ ap (λ (x : List ℕ). a ++ x) (append_assoc b c d)

pub free_end_is : {form : Form} {block : List ℕ} {value : Interval} (l : Laid form block value)
    → free_end block ≡ control_at (length block) l.rdfs
free_end_is l = omega (arith, l.displacement, l.free, l.place)

pub items_are : {form : Form} {block : List ℕ} {value : Interval} (l : Laid form block value)
    → value.items ≡ items_at (flat_map marks l.rdfs) block
items_are {block = block} {value = value} l =
    sym (ap (λ (ms : List Mark). items_at ms block) l.said
    ∙ ap (λ (b : List ℕ). items_at (map mark_of value.items) b) l.front
    ∙ items_at-bytes value.items l.rest)

-- two chains that the bytes of one block say are one
pub one_chain : {form : Form} {block : List ℕ} {v w : Interval} (l : Laid form block v)
    (m : Laid form block w) → l.rdfs ≡ m.rdfs
one_chain {block = block} l m =
    let n = length block in
    let same : control_at n l.rdfs ≡ control_at n m.rdfs = sym (free_end_is l) ∙ free_end_is m in
    let top : List ℕ = take (n - 4) block in
    let one : take (control_at n l.rdfs) top ++ control l.rdfs ≡ top =
    ap (λ (b : List ℕ). take (control_at n l.rdfs) top ++ b) (sym l.control)
    ∙ take-append-drop (control_at n l.rdfs) top in
    let two : take (control_at n m.rdfs) top ++ control m.rdfs ≡ top =
    ap (λ (b : List ℕ). take (control_at n m.rdfs) top ++ b) (sym m.control)
    ∙ take-append-drop (control_at n m.rdfs) top in
    control_same l.rdfs m.rdfs (take (control_at n l.rdfs) top) (take (control_at n m.rdfs) top)
    (omega (arith, l.place, m.place, same)) (one ∙ sym two)

some_span : (r : Rdf) → IsRdf r → 0 < span r
some_span (Single live n) valid = valid.low
some_span (Run n k) valid = positive n k valid.0.low valid.1.low
  where
    positive : (a b : ℕ) → 0 < a → 0 < b → 0 < a * b
    positive (suc a) (suc b) some some_too = omega arith
    positive zero b some some_too = absurd (omega arith)
    positive (suc a) zero some some_too = absurd (omega arith)
some_span (Segment piece live number n) valid = valid.1.low

-- where the CIDF is zero the block has no RDF and no place for free space
pub not_zero : {form : Form} {block : List ℕ} {value : Interval} (l : Laid form block value)
    → 512 ≤ length block → HasZeroCidf block → ⊥
not_zero {form = form} {block = block} l least z =
    none l.rdfs (chain_rdfs form None l.rdfs l.chain) (sym l.displacement
    ∙ z.0) (omega (arith, l.field, z.1, l.place, sym l.displacement ∙ z.0))
  where
    none : (rs : List Rdf) → AllByRecursion IsRdf rs → spans rs ≡ 0
        → length block ≤ length (control rs) + 4 → ⊥
    none [] valid same within = omega (arith, least)
    none (r ∷ rs) valid same within = omega (arith, some_span r valid.0)

pub zero_block : (block : List ℕ) → block ≡ zeros (length block) → HasZeroCidf block
zero_block block same = (
  omega (
    arith,
    byte_zero (length block - 4),
    byte_zero (length block - 4 + 1),
  ),
  omega (arith, byte_zero (length block - 4 + 2), byte_zero (length block - 4 + 2 + 1)),
)
  where
    at_zeros : (n i : ℕ) → Rattle.std.specs.Prelude.slice_index (zeros n) i ≡ 0
    at_zeros zero i = refl
    at_zeros (suc n) zero = refl
    at_zeros (suc n) (suc i) = at_zeros n i

    byte_zero : (i : ℕ) → Rattle.std.specs.Prelude.slice_index block i ≡ 0
    byte_zero i = ap (λ (b : List ℕ). Rattle.std.specs.Prelude.slice_index b i) same
        ∙ at_zeros (length block) i

same_value : (v w : Interval) → v.shape ≡ w.shape → v.items ≡ w.items → v.busy ≡ w.busy → v ≡ w
same_value v w shape_is items_is busy_is =
    let given : (let x : Interval = record { shape = v.shape; items = v.items; busy = v.busy } in
    x) ≡ (let y : Interval = record { shape = w.shape; items = w.items; busy = w.busy } in
    y) = cc in given

pub end_items : (form : Form) (size : ℕ) (s : Shape) (items : List Item) → s ≡ shapes.EndOfFile
    → FitsBlock form size s items → items ≡ []
end_items form size s items same fitting =
    let fits_block : FitsBlock form size shapes.EndOfFile items =
    subst (λ (x : Shape). FitsBlock form size x items) same fitting in fits_block

-- Each block has at most one value.
pub one_value : (form : Form) (block : List ℕ) (v w : Interval) → IsInterval form block v
    → IsInterval form block w → v ≡ w
one_value form block v w interval is_interval =
    elim interval.laid [
      | inl la ↦ elim is_interval.laid [
        | inl lb ↦
            let laid_says_here = laid_says form block v interval.size interval.fits la in
            let laid_says_there = laid_says form block w is_interval.size is_interval.fits lb in
            let same : laid_says_here.rdfs ≡ laid_says_there.rdfs =
            one_chain laid_says_here laid_says_there in
            same_value v w (sym laid_says_here.shape ∙ ap shape_of same ∙ laid_says_there.shape)
            (items_are laid_says_here ∙ ap (λ (rs : List Rdf). items_at (flat_map marks rs) block)
            same ∙ sym (items_are laid_says_there))
            (sym laid_says_here.busy ∙ laid_says_there.busy)
        | inr eb ↦ absurd (not_zero (laid_says form block v interval.size interval.fits la)
            ((size_bounds (length block) interval.size).0) (zero_block block eb.1))
      ]
      | inr ea ↦ elim is_interval.laid [
        | inl lb ↦ absurd (not_zero (laid_says form block w is_interval.size is_interval.fits lb)
            ((size_bounds (length block) interval.size).0) (zero_block block ea.1))
        | inr eb ↦ same_value v w (ea.0 ∙ sym eb.0)
            (end_items form (length block) v.shape v.items ea.0 interval.fits.block
            ∙ sym (end_items form (length block) w.shape w.items eb.0 is_interval.fits.block))
            (interval.fits.idle ea.0 ∙ sym (is_interval.fits.idle eb.0))
      ]
    ]
