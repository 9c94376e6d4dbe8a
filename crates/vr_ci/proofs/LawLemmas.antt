-- Each value that a block of a size holds has one block of that size.
use Rattle.vr_ci_match.specs.declared.form.Shape.TheVariants as shapes
use Rattle.std.proofs.Common.{◌≡◌, ℕ, suc, ◌+◌, ◌-◌, ◌<◌, ◌≤◌, inl, inr, Bool, true, false, List}
use Rattle.std.proofs.Common.{[], ◌∷◌, ◌++◌, length, Option, Some, None, refl, sym, ap, ◌∙◌, subst}
use Rattle.std.proofs.Common.{arith, length-append}
use Rattle.std.specs.Prelude.{map, replicate, ◌==◌}
use Rattle.std.specs.List.{flat_map, AllByRecursion}
use Rattle.std.proofs.lemmas.Bool.{eqb-true, eqb-false}
use Rattle.std.proofs.lemmas.List.{length-map, length-replicate}
use Rattle.vr_ci_match.specs.declared.form.Form.{Form}
use Rattle.vr_ci_match.specs.declared.form.Form.TheVariants.{Plain, Slots}
use Rattle.vr_ci_match.specs.declared.form.Piece.{Piece}
use Rattle.vr_ci_match.specs.declared.form.Piece.TheVariants.{First, Inner, Last}
use Rattle.vr_ci_match.specs.declared.form.Shape.{Shape}
use Rattle.vr_ci_match.specs.declared.rdf.Rdf.{Rdf}
use Rattle.vr_ci_match.specs.declared.rdf.Rdf.TheVariants.{Single, Run, Segment}
use Rattle.vr_types.specs.BlockSize.{IsBlockSize}
use Rattle.vr_ci_match.specs.Rdf.{Mark, marks, spans, control, IsCount, run_length, AreApart}
use Rattle.vr_ci_match.specs.Rdf.{IsOfForm, IsOfRecords, IsChainFrom, IsChain, shape_of}
use Rattle.vr_ci.specs.Interval.{Item, Interval, IsItem, mark_of, bytes_of, room, FitsBlock, Fits}
use Rattle.vr_ci.specs.Interval.{IsInterval}
use Rattle.vr_ci_match.specs.Laid.{padded, cidf, control_at, laid}
use Rattle.vr_ci.proofs.ItemLemmas.{room_is, room_kept, records_room}
use Rattle.vr_ci_match.proofs.CallerLemmas.{zeros, length-zeros, length-padded}
use Rattle.vr_ci.proofs.SizeLemmas.{size_bounds}
use Rattle.vr_ci.proofs.SpellingLemmas.{one_spelling, mark, single, join, spelled, Apart}
use Rattle.vr_ci.proofs.SpellingLemmas.{join-apart, join-same, join-more}

-- RDFs are never those of an end of file
pub no_end : (rs : List Rdf) → shape_of rs ≡ shapes.EndOfFile → ⊥
no_end [] shape = cc
no_end (Single live n ∷ rs) shape = cc
no_end (Run n k ∷ rs) shape = cc
no_end (Segment piece live number n ∷ rs) shape = cc

-- Each value has at most one block of a size.
pub one_block : (form : Form) (size : ℕ) (value : Interval) (one other : List ℕ)
    → IsInterval form one value → IsInterval form other value
    → length one ≡ size → length other ≡ size → one ≡ other
one_block form size value one other interval is_interval long long_too =
    elim interval.laid [
      | inl la ↦ elim is_interval.laid [
        | inl lb ↦
            let same : la.rdfs ≡ lb.rdfs =
            one_spelling form la.rdfs lb.rdfs la.chain lb.chain (la.shape ∙ sym lb.shape) (la.said
            ∙ sym lb.said) in
            la.layout
            ∙ ap (λ (n : ℕ). laid n (flat_map bytes_of value.items) la.rdfs value.busy) (long
            ∙ sym long_too)
            ∙ ap (λ (rs : List Rdf). laid (length other) (flat_map bytes_of value.items) rs
            value.busy) same
            ∙ sym lb.layout
        | inr eb ↦ absurd (no_end la.rdfs (la.shape ∙ eb.0))
      ]
      | inr ea ↦ elim is_interval.laid [
        | inl lb ↦ absurd (no_end lb.rdfs (lb.shape ∙ ea.0))
        | inr eb ↦ ea.1 ∙ ap (λ (n : ℕ). zeros n) (long ∙ sym long_too) ∙ sym eb.1
      ]
    ]

-- a chain of plain records that says these marks
record Spelt (ms : List Mark) (rs : List Rdf) : Type 0 where
  chain : IsChainFrom Plain None rs
  said : flat_map marks rs ≡ ms
  records : AllByRecursion IsOfRecords rs

follow : (before r : Rdf) (rs : List Rdf) → IsOfRecords before → IsOfRecords r
    → AreApart Plain (run_length before) (run_length r) → IsChainFrom Plain None (r ∷ rs)
    → IsChainFrom Plain (Some before) (r ∷ rs)
follow before r rs of_records o apart chain = (chain.0, (tt, of_records, o, apart), chain.2)

spelt-cons : (m : Mark) (ms : List Mark) (rs : List Rdf) → IsCount m.len
    → Apart (run_length (single m)) rs → Spelt ms rs → Spelt (m ∷ ms) (single m ∷ rs)
spelt-cons m ms [] counts apart spelling =
    record {
      chain = (counts, tt, tt);
      said = ap (λ (x : List Mark). m ∷ x) spelling.said;
      records = (tt, tt);
    }
spelt-cons m ms (r ∷ rs) counts apart spelling =
    record {
      chain = (
        counts,
        tt,
        follow (single m) r rs tt (spelling.records.0) apart spelling.chain,
      );
      said = ap (λ (x : List Mark). m ∷ x) spelling.said;
      records = (tt, spelling.records);
    }

-- what follows a run may follow a longer one
go_on : (before after : Rdf) (rs : List Rdf) → IsOfRecords after
    → run_length before ≡ run_length after → IsChainFrom Plain (Some before) rs
    → IsChainFrom Plain (Some after) rs
go_on before after [] of_records before_is chain = tt
go_on before after (r ∷ rs) of_records before_is chain = (
  chain.0,
  (
    tt,
    of_records,
    chain.1.2,
    subst (λ (x : Option ℕ). AreApart Plain x (run_length r)) before_is chain.1.3,
  ),
  chain.2,
)

spelt-join : (m : Mark) (ms : List Mark) (rs : List Rdf) → IsCount m.len → length ms < 65535
    → Spelt ms rs → Spelt (m ∷ ms) (join m rs)
spelt-join m ms [] counts less spelling = spelt-cons m ms [] counts tt spelling
spelt-join m ms (Single false n ∷ rs) counts less spelling =
    spelt-cons m ms (Single false n ∷ rs) counts (apart (run_length (single m))) spelling
  where
    apart : (o : Option ℕ) → AreApart Plain o None
    apart None = tt
    apart (Some k) = tt
spelt-join m ms (Segment piece live number n ∷ rs) counts less spelling =
    absurd (spelling.records.0)
spelt-join m ms (Single true n ∷ rs) counts less spelling =
    other m.live m.len counts (m.len == n) refl
  where
    other : (live : Bool) (len : ℕ) → IsCount len → (t : Bool) → (len == n) ≡ t
        → Spelt (mark live len ∷ ms) (join (mark live len) (Single true n ∷ rs))
    other false len counts t len_is =
        spelt-cons (mark false len) ms (Single true n ∷ rs) counts tt spelling
    other true len counts true len_is =
        let same : len ≡ n = eqb-true len n len_is in
        let joined : join (mark true len) (Single true n ∷ rs) ≡ Run n 2 ∷ rs =
        ap (λ (k : ℕ). join (mark true k) (Single true n ∷ rs)) same ∙ join-same n rs in
        let two : IsCount 2 = record { low = omega arith; high = omega arith } in
        let after : IsChainFrom Plain (Some (Run n 2)) rs =
        go_on (Single true n) (Run n 2) rs tt refl spelling.chain.2 in
        let made : Spelt (mark true len ∷ ms) (Run n 2 ∷ rs) = record {
          chain = ((spelling.chain.0, two, omega arith), tt, after);
          said = ap (λ (x : List Mark). mark true n ∷ x) spelling.said
              ∙ ap (λ (k : ℕ). mark true k ∷ ms) (sym same);
          records = (tt, spelling.records.1);
        } in
        subst (λ (x : List Rdf). Spelt (mark true len ∷ ms) x) (sym joined) made
    other true len counts false len_is =
        let joined : join (mark true len) (Single true n ∷ rs) ≡ Single true len ∷ Single true n ∷
        rs = join-apart (mark true len) (Single true n ∷ rs) (eqb-false len n len_is) in
        subst (λ (x : List Rdf). Spelt (mark true len ∷ ms) x) (sym joined)
        (spelt-cons (mark true len) ms (Single true n ∷ rs) counts (eqb-false len n len_is)
        spelling)
spelt-join m ms (Run n k ∷ rs) counts less spelling = other m.live m.len counts (m.len == n) refl
  where
    few : k ≤ length ms
    few = omega (
      arith,
      ap length spelling.said,
      length-append (replicate k (mark true n)) (flat_map marks rs),
      length-replicate k (mark true n),
    )

    other : (live : Bool) (len : ℕ) → IsCount len → (t : Bool) → (len == n) ≡ t
        → Spelt (mark live len ∷ ms) (join (mark live len) (Run n k ∷ rs))
    other false len counts t len_is =
        spelt-cons (mark false len) ms (Run n k ∷ rs) counts tt spelling
    other true len counts true len_is =
        let same : len ≡ n = eqb-true len n len_is in
        let joined : join (mark true len) (Run n k ∷ rs) ≡ Run n (k + 1) ∷ rs =
        ap (λ (j : ℕ). join (mark true j) (Run n k ∷ rs)) same ∙ join-more n k rs in
        let more : IsCount (k + 1) = record { low = omega arith; high = omega (arith, few) } in
        let after : IsChainFrom Plain (Some (Run n (k + 1))) rs =
        go_on (Run n k) (Run n (k + 1)) rs tt refl spelling.chain.2 in
        let step : k + 1 ≡ suc k = omega arith in
        let made : Spelt (mark true len ∷ ms) (Run n (k + 1) ∷ rs) = record {
          chain = ((spelling.chain.0.0, more, omega (arith, spelling.chain.0.2)), tt, after);
          said = ap (λ (j : ℕ). replicate j (mark true n) ++ flat_map marks rs) step
              ∙ ap (λ (x : List Mark). mark true n ∷ x) spelling.said
              ∙ ap (λ (j : ℕ). mark true j ∷ ms) (sym same);
          records = (tt, spelling.records.1);
        } in
        subst (λ (x : List Rdf). Spelt (mark true len ∷ ms) x) (sym joined) made
    other true len counts false len_is =
        let joined : join (mark true len) (Run n k ∷ rs) ≡ Single true len ∷ Run n k ∷ rs =
        join-apart (mark true len) (Run n k ∷ rs) (eqb-false len n len_is) in
        subst (λ (x : List Rdf). Spelt (mark true len ∷ ms) x) (sym joined)
        (spelt-cons (mark true len) ms (Run n k ∷ rs) counts (eqb-false len n len_is) spelling)

spelt : (ms : List Mark) → AllByRecursion (λ m. IsCount m.len) ms → length ms < 65536
    → Spelt ms (spelled Plain ms)
spelt [] each_so less = record { chain = tt; said = refl; records = tt }
spelt (m ∷ ms) each_so less =
    spelt-join m ms (spelled Plain ms) each_so.0 (omega arith) (spelt ms each_so.1 (omega arith))

slots_chain : (len : ℕ) (before : Option Rdf) (ms : List Mark)
    → AllByRecursion (λ m. IsCount m.len) ms → ((r : Rdf) → before ≡ Some r → IsOfRecords r)
    → IsChainFrom (Slots len) before (map single ms)
slots_chain len before [] each_so each = tt
slots_chain len None (m ∷ ms) each_so each = (
  each_so.0,
  tt,
  slots_chain len (Some (single m)) ms each_so.1
      (λ r e. let single_is : single m ≡ r = cc in subst IsOfRecords single_is tt),
)
slots_chain len (Some b) (m ∷ ms) each_so each = (
  each_so.0,
  (tt, each b refl, tt, tt),
  slots_chain len (Some (single m)) ms each_so.1 (λ r e. let single_is : single m ≡ r = cc in
      subst IsOfRecords single_is tt),
)

slots_said : (ms : List Mark) → flat_map marks (map single ms) ≡ ms
slots_said [] = refl
slots_said (m ∷ ms) = ap (λ (x : List Mark). m ∷ x) (slots_said ms)

records_of : (rs : List Rdf) → AllByRecursion IsOfRecords rs → shape_of rs ≡ shapes.Records
records_of [] records = refl
records_of (Single live n ∷ rs) records = refl
records_of (Run n k ∷ rs) records = refl
records_of (Segment piece live number n ∷ rs) records = absurd records.0

slots_shape : (ms : List Mark) → shape_of (map single ms) ≡ shapes.Records
slots_shape [] = refl
slots_shape (m ∷ ms) = refl

item_counts : (items : List Item) → AllByRecursion IsItem items → room items < 65536
    → AllByRecursion (λ m. IsCount m.len) (map mark_of items)
item_counts [] items_fit less = tt
item_counts (i ∷ items) items_fit less = (
  record { low = items_fit.0.some; high = omega arith },
  item_counts items items_fit.1 (omega arith),
)

-- a block is made of a chain that says the items' marks
made_block : (form : Form) (size : ℕ) (value : Interval) → IsBlockSize size → Fits form size value
    → (rs : List Rdf) → IsChain form rs → shape_of rs ≡ value.shape
    → flat_map marks rs ≡ map mark_of value.items
    → (block : List ℕ) × (length block ≡ size) × IsInterval form block value
made_block form size value size_fits fitting rs chained shape_is same =
    let front = flat_map bytes_of value.items in
    let kept : FitsBlock form size (shape_of rs) value.items =
    subst (λ (x : Shape). FitsBlock form size x value.items) (sym shape_is) fitting.block in
    let place = room_kept form size rs value.items (size_bounds size size_fits).0 chained kept same
    in
    let block = laid size front rs value.busy in
    let pad = padded (control_at size rs) front in
    let tail = cidf (spans rs) (control_at size rs - spans rs) value.busy in
    let long : length block ≡ size =
    omega (
      arith,
      length-append (pad ++ control rs) tail,
      length-append pad (control rs),
      length-padded (control_at size rs) front,
      place,
    ) in (
      block,
      long,
      record {
        size = subst IsBlockSize (sym long) size_fits;
        fits = subst (λ (n : ℕ). Fits form n value) (sym long) fitting;
        laid = inl (record {
          rdfs = rs;
          chain = chained;
          shape = shape_is;
          said = same;
          layout = ap (λ (n : ℕ). laid n front rs value.busy) (sym long);
        });
      },
    )

-- Each value that fits a size has a block of it.
pub some_block : (form : Form) (size : ℕ) (value : Interval) → IsBlockSize size
    → Fits form size value → (block : List ℕ) × (length block ≡ size) × IsInterval form block value
some_block form size value size_fits fitting = by_shape value.shape refl
  where
    items : List Item
    items = value.items

    records : (form : Form) → Fits form size value → value.shape ≡ shapes.Records → (block : List ℕ)
        × (length block ≡ size) × IsInterval form block value
    records form fitting shape_is =
        let small = size_bounds size size_fits in
        let block : FitsBlock form size shapes.Records items =
        subst (λ (x : Shape). FitsBlock form size x items) shape_is fitting.block in
        let kept = records_room form size items block in
        let counts = item_counts items fitting.items (omega (arith, kept, small.1)) in
        let few : length (map mark_of items) < 65536 =
        omega (arith, length-map items mark_of, room_is items, kept, small.1) in
        by_form form fitting shape_is counts few
      where
        by_form : (form : Form) → Fits form size value → value.shape ≡ shapes.Records
            → AllByRecursion (λ m. IsCount m.len) (map mark_of items)
            → length (map mark_of items) < 65536 → (block : List ℕ) × (length block ≡ size)
            × IsInterval form block value
        by_form Plain fitting shape_is counts few =
            let sp = spelt (map mark_of items) counts few in
            made_block Plain size value size_fits fitting (spelled Plain (map mark_of items))
            sp.chain (records_of (spelled Plain (map mark_of items)) sp.records
            ∙ sym shape_is) sp.said
        by_form (Slots len) fitting shape_is counts few =
            made_block (Slots len) size value size_fits fitting (map single (map mark_of items))
            (slots_chain len None (map mark_of items) counts (λ r x. absurd cc))
            (slots_shape (map mark_of items) ∙ sym shape_is) (slots_said (map mark_of items))

    segment : (piece : Piece) (number : ℕ) → value.shape ≡ shapes.Segment piece number
        → (block : List ℕ) × (length block ≡ size) × IsInterval form block value
    segment piece number shape_is =
        one items refl fitting.items
        (subst (λ (x : Shape). FitsBlock form size x items) shape_is fitting.block)
      where
        short : (p : Piece) (n : ℕ) → Rattle.vr_ci.specs.Interval.IsSegmentLength p size n
            → n ≤ size - 10
        short First n given = omega (arith, given)
        short Inner n given = omega (arith, given)
        short Last n given = given

        one : (is : List Item) → value.items ≡ is → AllByRecursion IsItem is
            → FitsBlock form size (shapes.Segment piece number) is → (block : List ℕ)
            × (length block ≡ size) × IsInterval form block value
        one [] items_is items_fit fitting = absurd cc
        one (i ∷ j ∷ is) items_is items_fit fitting = absurd cc
        one (i ∷ []) items_is items_fit fits_block =
            let n = length i.bytes in
            let count : IsCount n = record {
              low = items_fit.0.some;
              high = omega (arith, short piece n fits_block.1.0, (size_bounds size size_fits).1);
            } in
            made_block form size value size_fits fitting (Segment piece i.live number n ∷ []) (
              (fits_block.0, count),
              of_form form,
              tt,
            ) (sym shape_is) (ap (λ (x : List Item). map mark_of x) (sym items_is))
          where
            of_form : (g : Form) → IsOfForm g (Segment piece i.live number (length i.bytes))
            of_form Plain = tt
            of_form (Slots len) = tt

    by_shape : (x : Shape) → value.shape ≡ x → (block : List ℕ) × (length block ≡ size)
        × IsInterval form block value
    by_shape shapes.Records shape_is = records form fitting shape_is
    by_shape (shapes.Segment piece number) shape_is = segment piece number shape_is
    by_shape shapes.EndOfFile shape_is = (
      zeros size,
      length-zeros size,
      record {
        size = subst IsBlockSize (sym (length-zeros size)) size_fits;
        fits = subst (λ (n : ℕ). Fits form n value) (sym (length-zeros size)) fitting;
        laid = inr (shape_is, ap (λ (n : ℕ). zeros n) (sym (length-zeros size)));
      },
    )
