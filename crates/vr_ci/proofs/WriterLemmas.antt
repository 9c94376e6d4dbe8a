-- What a writer holds after each step, and the interval that it leaves.
use Rattle.vr_ci_match.specs.declared.form.Shape.TheVariants as shapes
use Rattle.std.proofs.Common.{◌≡◌, ℕ, suc, ◌+◌, ◌-◌, ◌*◌, ◌<◌, ◌≤◌, inl, Bool, true}
use Rattle.std.proofs.Common.{List, [], ◌∷◌, ◌++◌, length, take, drop, Option, Some, None, refl}
use Rattle.std.proofs.Common.{sym, ap, ◌∙◌, subst, arith, append_assoc, length-append, length-take}
use Rattle.std.proofs.Common.{length-drop}
use Rattle.std.specs.Prelude.{map, IsTrue}
use Rattle.std.specs.List.{flat_map, AllByRecursion}
use Rattle.std.proofs.lemmas.List.{take_at, drop_at, take-append-drop, take-take, drop-drop}
use Rattle.std.proofs.lemmas.List.{drop-take, append-nil, map-append, replicate_more, drop_all}
use Rattle.std.proofs.lemmas.List.Concat.{flat_map-append}
use Rattle.vr_ci_match.specs.declared.form.Form.{Form}
use Rattle.vr_ci_match.specs.declared.form.Form.TheVariants.{Plain, Slots}
use Rattle.vr_ci_match.specs.declared.rdf.Rdf.{Rdf}
use Rattle.vr_ci_match.specs.declared.rdf.Rdf.TheVariants.{Single, Run, Segment}
use Rattle.vr_ci.specs.declared.writer.CiWriter.{CiWriter}
use Rattle.vr_types.specs.BlockSize.{IsBlockSize}
use Rattle.vr_ci_match.specs.Rdf.{Mark, marks, spans, rdf_bytes, control}
use Rattle.vr_ci_match.specs.Rdf.{MayFollow, IsChain}
use Rattle.vr_ci_match.specs.Rdf.{last_from, shape_of}
use Rattle.vr_ci.specs.Interval.{Item, Interval, IsItem, bytes_of, mark_of, room, FitsBlock, Fits}
use Rattle.vr_ci.specs.Interval.{IsInterval}
use Rattle.vr_ci_match.specs.Laid.{slots_in, padded, cidf, control_at}
use Rattle.vr_ci.specs.Writer.{Holds, IsItemLength, IsLastRun, SlotsAdded, written, run_rdf}
use Rattle.vr_ci.specs.Writer.{run_started}
use Rattle.vr_types.specs.Fields.{with_bytes}
use Rattle.vr_ci_match.proofs.CallerLemmas.{control-push, total, total-all, zeros, length-zeros}
use Rattle.vr_ci_match.proofs.CallerLemmas.{padded_fits, chain-push, chain-last}
use Rattle.vr_ci_match.proofs.CallerLemmas.{chain-front, last_from-push, all_records}
use Rattle.vr_ci.proofs.ItemLemmas.{room_is, length-bytes}
use Rattle.vr_ci.proofs.PlaceLemmas.{take-placed, take-placed_all, drop-placed, run_is}
use Rattle.vr_types.proofs.CallerLemmas.{length-with_bytes}
use Rattle.vr_ci.proofs.SizeLemmas.{size_bounds}
use Rattle.vr_ci.proofs.RunLemmas.{bytes-push, all-push, length-written, written_ok, last_record, split_of, may_follow, started, runs, run_marks, run_length_is, run_count, longer_follows}

-- ---- the block

-- an item's bytes, and an RDF or pair at the left of those that stand
put_both : (block x y : List ℕ) (f r b top : ℕ) → f + length x ≤ r → r + length y ≡ b → b ≤ top
    → top ≤ length block
    → (let out = with_bytes (with_bytes block f x) r y in
    (take (f + length x) out ≡ take f block ++ x)
    × (drop r (take top out) ≡ y ++ drop b (take top block)) × (length out ≡ length block))
put_both block x y f r b top within same fits_in bounded =
    let one : List ℕ = with_bytes block f x in
    let long : length one ≡ length block =
    length-with_bytes block f x (omega (arith, within, same, fits_in, bounded)) in
    let out : List ℕ = with_bytes one r y in
    let fits : length out ≡ length one =
    length-with_bytes one r y (omega (arith, same, fits_in, bounded, long)) in
    let front : take (f + length x) out ≡ take f block ++ x =
    take-placed one r (f + length x) y (omega (arith, same, fits_in, bounded, long)) within
    ∙ take-placed_all block f (f + length x) x (omega (arith, within, same, fits_in, bounded)) refl
    in
    let past : drop b out ≡ drop b block =
    drop-placed one r b y (omega (arith, same, fits_in, bounded, long)) (omega (arith, same))
    ∙ drop-placed block f b x (omega (arith, within, same, fits_in, bounded))
    (omega (arith, within, same)) in
    let sum : b + (top - b) ≡ top = omega (arith, fits_in) in
    let upto : (z : List ℕ) → drop b (take top z) ≡ take (top - b) (drop b z) =
    λ z. ap (λ (k : ℕ). drop b (take k z)) (sym sum) ∙ drop-take b (top - b) z in
    let behind : drop b (take top out) ≡ drop b (take top block) = upto out
    ∙ ap (λ (z : List ℕ). take (top - b) z) past ∙ sym (upto block) in
    let here : take (length y) (drop r (take top out)) ≡ y =
    sym (drop-take r (length y) (take top out))
    ∙ ap (λ (k : ℕ). drop r (take k (take top out))) same
    ∙ ap (λ (z : List ℕ). drop r z) (take-take b top out fits_in)
    ∙ ap (λ (z : List ℕ). drop r z)
    (take-placed_all one r b y (omega (arith, same, fits_in, bounded, long)) (sym same))
    ∙ drop_at (take r one) y r (omega (arith, length-take r one, same, fits_in, bounded, long)) in
    let rest : drop (length y) (drop r (take top out)) ≡ drop b (take top block) =
    drop-drop (length y) r (take top out) ∙ ap (λ (k : ℕ). drop k (take top out)) same ∙ behind in (
      front,
      sym (take-append-drop (length y) (drop r (take top out)))
          ∙ ap (λ (z : List ℕ). z ++ drop (length y) (drop r (take top out))) here
          ∙ ap (λ (z : List ℕ). y ++ z) rest,
      fits ∙ long,
    )

-- a record with an RDF of its own
pub single_held : (old new : CiWriter) (items : List Item) (bytes : List ℕ) (live : Bool)
    → Holds old items → IsItemLength old.form (length bytes) → length bytes < 65536
    → (IsTrue live → 0 < old.run_count → old.run_length ≡ length bytes → ⊥)
    → new.form ≡ old.form → new.front ≡ old.front + length bytes → new.added ≡ old.added + 1
    → new.back + 3 ≡ old.back → old.front + length bytes ≤ new.back
    → new.out.now ≡ with_bytes (with_bytes old.out.now old.front (written bytes live).bytes)
    new.back (rdf_bytes (Single live (length bytes)))
    → new.run_length ≡ length bytes → new.run_count ≡ run_started old.form live
    → Holds new (items ++ written bytes live ∷ [])
single_held old new items bytes live holds len small apart form front added back place out
    run_length_is count =
    let block : List ℕ = old.out.now in
    let x : List ℕ = (written bytes live).bytes in
    let r : Rdf = Single live (length bytes) in
    let long : length x ≡ length bytes = length-written bytes live in
    let top : ℕ = length block - 4 in
    let some : 0 < length bytes = positive old.form len in
    let both = put_both block x (rdf_bytes r) old.front new.back old.back top
    (omega (arith, long, place)) back (omega (arith, holds.back)) (omega arith) in
    let size : length new.out.now ≡ length block = ap length out ∙ both.2 in
    let follows : MayFollow old.form (last_from None holds.rdfs) r =
    may_follow old.form (last_from None holds.rdfs) live (length bytes) old.run_length old.run_count
    holds.run
    (λ b e. last_record None holds.rdfs b (λ s q. absurd cc)
    (all_records old.form None holds.rdfs holds.chain holds.shape) e) apart in
    let chain : IsChain old.form (holds.rdfs ++ r ∷ []) =
    chain-push old.form None holds.rdfs r holds.chain (record { low = some; high = small }) follows
    in
    record {
      rdfs = holds.rdfs ++ r ∷ [];
      size = subst IsBlockSize (sym size) holds.size;
      chain = subst (λ (g : Form). IsChain g (holds.rdfs ++ r ∷ [])) (sym form) chain;
      shape = records_push holds.rdfs live (length bytes) holds.shape;
      said = flat_map-append marks holds.rdfs (r ∷ [])
          ∙ ap (λ (z : List Mark). z ++ (marks r ++ [])) holds.said
          ∙ ap (λ (k : ℕ). map mark_of items ++ (let m : Mark = record { live = live; len = k } in
          m) ∷ []) (sym long) ∙ sym (map-append mark_of items (written bytes live ∷ []));
      front = omega (
        arith,
        front,
        holds.front,
        ap length (bytes-push items (written bytes live)),
        length-append (flat_map bytes_of items) x,
        long,
      );
      bytes = ap (λ (z : List ℕ). take new.front z) out
          ∙ ap (λ (k : ℕ). take k (with_bytes (with_bytes block old.front x) new.back
          (rdf_bytes r))) (front ∙ ap (λ (k : ℕ). old.front + k) (sym long))
          ∙ both.0 ∙ ap (λ (z : List ℕ). z ++ x) holds.bytes
          ∙ sym (bytes-push items (written bytes live));
      back = omega (
        arith,
        holds.back,
        back,
        size,
        ap length (control-push holds.rdfs r),
        length-append (rdf_bytes r) (control holds.rdfs),
      );
      control = ap (λ (k : ℕ). drop new.back (take (k - 4) new.out.now)) size
          ∙ ap (λ (z : List ℕ). drop new.back (take top z)) out ∙ both.1
          ∙ ap (λ (z : List ℕ). rdf_bytes r ++ z) holds.control ∙ sym (control-push holds.rdfs r);
      items = all-push IsItem items (written bytes live) holds.items (written_ok bytes live some);
      lengths = subst (λ (g : Form). AllByRecursion (λ item. IsItemLength g (length item.bytes))
          (items ++ written bytes live ∷ [])) (sym form)
          (all-push (λ item. IsItemLength old.form (length item.bytes)) items (written bytes live)
          holds.lengths (subst (λ (k : ℕ). IsItemLength old.form k) (sym long) len));
      added = omega (arith, added, holds.added, length-append items (written bytes live ∷ []));
      run = subst (λ (g : Form). IsLastRun g (last_from None (holds.rdfs ++ r ∷ [])) new.run_length
          new.run_count) (sym form)
          (subst (λ (o : Option Rdf). IsLastRun old.form o new.run_length new.run_count)
          (sym (last_from-push None holds.rdfs r))
          (started old.form live (length bytes) new.run_length new.run_count run_length_is count));
    }
  where
    positive : (form : Form) → IsItemLength form (length bytes) → 0 < length bytes
    positive Plain length_fits = length_fits
    positive (Slots k) length_fits = length_fits.0

    records_push : (rs : List Rdf) (live : Bool) (len : ℕ) → shape_of rs ≡ shapes.Records
        → shape_of (rs ++ Single live len ∷ []) ≡ shapes.Records
    records_push [] live len shape = refl
    records_push (Single l k ∷ rs) live len shape = refl
    records_push (Run k c ∷ rs) live len shape = refl
    records_push (Segment p l j k ∷ rs) live len shape = absurd cc

-- a record that goes on with a run
pub run_held : (old new : CiWriter) (items : List Item) (bytes : List ℕ) → Holds old items
    → IsItemLength old.form (length bytes)
    → 0 < old.run_count → old.run_count < 65535 → old.run_length ≡ length bytes
    → new.form ≡ old.form → new.front ≡ old.front + length bytes → new.added ≡ old.added + 1
    → old.front + length bytes ≤ new.back
    → new.back + 6 ≡ old.back + length (rdf_bytes (run_rdf old.run_length old.run_count))
    → new.out.now ≡ with_bytes (with_bytes old.out.now old.front bytes) new.back
    (rdf_bytes (run_rdf old.run_length (old.run_count + 1)))
    → new.run_length ≡ old.run_length → new.run_count ≡ old.run_count + 1
    → Holds new (items ++ written bytes true ∷ [])
run_held old new items bytes holds len some few same form front added place back out run_length_is
    count =
    finish (runs old.form (last_from None holds.rdfs) old.run_length old.run_count holds.run some)
  where
    m : Mark
    m = record { live = true; len = old.run_length }

    finish : (old.form ≡ Plain)
        × (last_from None holds.rdfs ≡ Some (run_rdf old.run_length old.run_count))
        → Holds new (items ++ written bytes true ∷ [])
    finish go =
        let block : List ℕ = old.out.now in
        let was : Rdf = run_rdf old.run_length old.run_count in
        let now : Rdf = Run old.run_length (old.run_count + 1) in
        let is_now : run_rdf old.run_length (old.run_count + 1) ≡ now =
        run_is old.run_length (old.run_count + 1) (omega (arith, some)) in
        let split = split_of holds.rdfs was go.1 in
        let init : List Rdf = split.0 in
        let top : ℕ = length block - 4 in
        let end : ℕ = old.back + length (rdf_bytes was) in
        let controls : control holds.rdfs ≡ rdf_bytes was ++ control init = ap control split.1
        ∙ control-push init was in
        let high : end + length (control init) + 4 ≡ length block =
        omega (
          arith,
          holds.back,
          ap length controls,
          length-append (rdf_bytes was) (control init),
        ) in
        let out' : new.out.now ≡ with_bytes (with_bytes block old.front bytes) new.back
        (rdf_bytes now) = out ∙ ap
        (λ (r : Rdf). with_bytes (with_bytes block old.front bytes) new.back (rdf_bytes r)) is_now
        in
        let both = put_both block bytes (rdf_bytes now) old.front new.back end top place
        (omega (arith, back)) (omega (arith, high)) (omega arith) in
        let size : length new.out.now ≡ length block = ap length out' ∙ both.2 in
        let behind : drop end (take top block) ≡ control init =
        sym (drop-drop (length (rdf_bytes was)) old.back (take top block))
        ∙ ap (λ (z : List ℕ). drop (length (rdf_bytes was)) z) (holds.control ∙ controls)
        ∙ drop_at (rdf_bytes was) (control init) (length (rdf_bytes was)) refl in
        let plain : IsChain Plain holds.rdfs =
        subst (λ (g : Form). IsChain g holds.rdfs) go.0 holds.chain in
        let plain_split : IsChain Plain (init ++ was ∷ []) =
        subst (λ (z : List Rdf). IsChain Plain z) split.1 plain in
        let last = chain-last Plain None init was plain_split in
        let longer : IsChain Plain (init ++ now ∷ []) =
        chain-push Plain None init now (chain-front Plain None init (was ∷ []) plain_split) (
          run_count old.run_length old.run_count some last.0,
          record { low = omega arith; high = omega (arith, few) },
          omega (arith, some),
        )
        (longer_follows (last_from None init) old.run_length old.run_count (old.run_count + 1) some
        last.1) in
        let step : old.run_count + 1 ≡ suc old.run_count = omega arith in
        let more : marks now ≡ marks was ++ m ∷ [] =
        sym (replicate_more old.run_count m)
        ∙ ap (λ (z : List Mark). z ++ m ∷ []) (sym (run_marks old.run_length old.run_count some)) in
        record {
          rdfs = init ++ now ∷ [];
          size = subst IsBlockSize (sym size) holds.size;
          chain = subst (λ (g : Form). IsChain g (init ++ now ∷ [])) (sym (form ∙ go.0)) longer;
          shape = records_shape init
              (subst (λ (z : List Rdf). shape_of z ≡ shapes.Records) split.1 holds.shape);
          said = flat_map-append marks init (now ∷ [])
              ∙ ap (λ (z : List Mark). flat_map marks init ++ z) (append-nil (marks now) ∙ more)
              ∙ sym (append_assoc (flat_map marks init) (marks was) (m ∷ []))
              ∙ ap (λ (z : List Mark). z ++ m ∷ [])
              (ap (λ (z : List Mark). flat_map marks init ++ z) (sym (append-nil (marks was)))
              ∙ sym (flat_map-append marks init (was ∷ []))
              ∙ ap (λ (z : List Rdf). flat_map marks z) (sym split.1) ∙ holds.said)
              ∙ ap (λ (k : ℕ). map mark_of items
              ++ (let x : Mark = record { live = true; len = k } in x) ∷ []) same
              ∙ sym (map-append mark_of items (written bytes true ∷ []));
          front = omega (
            arith,
            front,
            holds.front,
            ap length (bytes-push items (written bytes true)),
            length-append (flat_map bytes_of items) bytes,
          );
          bytes = ap (λ (z : List ℕ). take new.front z) out'
              ∙ ap (λ (k : ℕ). take k (with_bytes (with_bytes block old.front bytes) new.back
              (rdf_bytes now))) front
              ∙ both.0 ∙ ap (λ (z : List ℕ). z ++ bytes) holds.bytes
              ∙ sym (bytes-push items (written bytes true));
          back = omega (
            arith,
            back,
            high,
            size,
            ap length (control-push init now),
            length-append (rdf_bytes now) (control init),
          );
          control = ap (λ (k : ℕ). drop new.back (take (k - 4) new.out.now)) size
              ∙ ap (λ (z : List ℕ). drop new.back (take top z)) out' ∙ both.1
              ∙ ap (λ (z : List ℕ). rdf_bytes now ++ z) behind ∙ sym (control-push init now);
          items = all-push IsItem items (written bytes true) holds.items
              (written_ok bytes true (positive old.form len));
          lengths = subst (λ (g : Form). AllByRecursion (λ item. IsItemLength g (length item.bytes))
              (items ++ written bytes true ∷ [])) (sym form)
              (all-push (λ item. IsItemLength old.form (length item.bytes)) items
              (written bytes true) holds.lengths len);
          added = omega (arith, added, holds.added, length-append items (written bytes true ∷ []));
          run = subst (λ (g : Form). IsLastRun g (last_from None (init ++ now ∷ [])) new.run_length
              new.run_count) (sym (form ∙ go.0))
              (subst (λ (o : Option Rdf). IsLastRun Plain o new.run_length new.run_count)
              (sym (last_from-push None init now)) (count, run_length_is, omega (arith, some)));
        }
      where
        positive : (form : Form) → IsItemLength form (length bytes) → 0 < length bytes
        positive Plain length_fits = length_fits
        positive (Slots k) length_fits = length_fits.0

        records_shape : (init : List Rdf)
            → shape_of (init ++ run_rdf old.run_length old.run_count ∷ []) ≡ shapes.Records
            → shape_of (init ++ Run old.run_length (old.run_count + 1) ∷ []) ≡ shapes.Records
        records_shape [] shape = refl
        records_shape (Single l k ∷ rs) shape = refl
        records_shape (Run k c ∷ rs) shape = refl
        records_shape (Segment p l j k ∷ rs) shape = absurd cc

-- ---- the interval

-- a block of these parts is the interval of its items
pub interval_of : (form : Form) (block : List ℕ) (value : Interval) (rs : List Rdf)
    → IsBlockSize (length block) → IsChain form rs → shape_of rs ≡ value.shape
    → flat_map marks rs ≡ map mark_of value.items → Fits form (length block) value
    → spans rs + length (control rs) + 4 ≤ length block
    → block ≡ ((flat_map bytes_of value.items ++ zeros (control_at (length block) rs - spans rs))
    ++ control rs) ++ cidf (spans rs) (control_at (length block) rs - spans rs) value.busy
    → IsInterval form block value
interval_of form block value rs size chain shape said fits place parts =
    let f = control_at (length block) rs in
    let front : List ℕ = flat_map bytes_of value.items in
    let long : length front ≡ spans rs = length-bytes value.items ∙ ap total (sym said)
    ∙ total-all rs in
    let spread : padded f front ≡ front ++ zeros (f - spans rs) =
    padded_fits f front (omega (arith, long, place))
    ∙ ap (λ (k : ℕ). front ++ zeros (f - k)) long in
    record {
      size = size;
      fits = fits;
      laid = inl (record {
        rdfs = rs;
        chain = chain;
        shape = shape;
        said = said;
        layout = parts ∙ ap (λ (z : List ℕ). (z ++ control rs)
            ++ cidf (spans rs) (f - spans rs) value.busy) (sym spread);
      });
    }

-- the free space filled, and the CIDF after it
filled_block : (block out : List ℕ) (f b k : ℕ) (c tail : List ℕ) → length c ≡ 4 → 4 ≤ length block
    → f + k ≡ b → b + 4 ≤ length block → drop b (take (length block - 4) block) ≡ tail
    → out ≡ with_bytes (with_bytes block f (zeros k)) (length block - 4) c
    → out ≡ ((take f block ++ zeros k) ++ tail) ++ c
filled_block block out f b k c tail four least sum high same out_is =
    let top : ℕ = length block - 4 in
    let filled : List ℕ = with_bytes block f (zeros k) in
    let past : drop (f + length (zeros k)) block ≡ drop b block =
    ap (λ (i : ℕ). drop (f + i) block) (length-zeros k) ∙ ap (λ (i : ℕ). drop i block) sum in
    let shape : filled ≡ (take f block ++ zeros k) ++ drop b block =
    ap (λ (z : List ℕ). take f block ++ zeros k ++ z) past in
    let front : length (take f block ++ zeros k) ≡ b =
    omega (
      arith,
      length-append (take f block) (zeros k),
      length-take f block,
      length-zeros k,
      sum,
      high,
    ) in
    let cut : b + (top - b) ≡ top = omega (arith, high) in
    let first : take top filled ≡ (take f block ++ zeros k) ++ tail =
    ap (λ (z : List ℕ). take top z) shape
    ∙ ap (λ (i : ℕ). take i ((take f block ++ zeros k) ++ drop b block)) (sym cut)
    ∙ Rattle.vr_ci_match.proofs.CallerLemmas.take-past b (top - b) (take f block ++ zeros k)
    (drop b block) front
    ∙ ap (λ (z : List ℕ). (take f block ++ zeros k) ++ z) (sym (drop-take b (top - b) block)
    ∙ ap (λ (i : ℕ). drop b (take i block)) cut ∙ same) in
    let whole : length filled ≡ length block =
    omega (
      arith,
      ap length shape,
      length-append (take f block ++ zeros k) (drop b block),
      front,
      length-drop b block,
      high,
    ) in
    let last : drop (top + length c) filled ≡ [] =
    drop_all (top + length c) filled (omega (arith, whole, four, least)) in
    out_is ∙ ap (λ (z : List ℕ). z ++ c ++ drop (top + length c) filled) first
    ∙ ap (λ (z : List ℕ). ((take f block ++ zeros k) ++ tail) ++ c ++ z) last
    ∙ append-nil (((take f block ++ zeros k) ++ tail) ++ c)

pub ended : (w : CiWriter) (items : List Item) (busy : Bool) (out : List ℕ) → Holds w items
    → SlotsAdded w.form (length w.out.now) w.added
    → w.front + 3 * w.added + 4 ≤ length w.out.now → w.front ≤ w.back
    → out ≡ with_bytes (with_bytes w.out.now w.front (zeros (w.back - w.front)))
    (length w.out.now - 4) (cidf w.front (w.back - w.front) busy)
    → IsInterval w.form out (record { shape = shapes.Records; items = items; busy = busy })
ended w items busy out holds complete room order out_is =
    interval_of w.form out value holds.rdfs size holds.chain holds.shape holds.said fits place parts
  where
    block : List ℕ
    block = w.out.now

    value : Interval
    value = record { shape = shapes.Records; items = items; busy = busy }

    k : ℕ
    k = w.back - w.front

    least : 512 ≤ length w.out.now
    least = (size_bounds (length w.out.now) holds.size).0

    sum : w.front + (w.back - w.front) ≡ w.back
    sum = omega (arith, order)

    made : out ≡ ((take w.front w.out.now ++ zeros (w.back - w.front)) ++ control holds.rdfs)
        ++ cidf w.front (w.back - w.front) busy
    made = filled_block w.out.now out w.front w.back (w.back - w.front)
        (cidf w.front (w.back - w.front) busy) (control holds.rdfs) refl (omega (arith, least)) sum
        (omega (arith, holds.back)) holds.control out_is

    long : length out ≡ length w.out.now
    long = omega (
      arith,
      ap length made,
      length-append ((take w.front block ++ zeros k) ++ control holds.rdfs) (cidf w.front k busy),
      length-append (take w.front block ++ zeros k) (control holds.rdfs),
      length-append (take w.front block) (zeros k),
      length-take w.front block,
      length-zeros k,
      holds.back,
      sum,
    )

    size : IsBlockSize (length out)
    size = subst IsBlockSize (sym long) holds.size

    span : w.front ≡ spans holds.rdfs
    span = holds.front ∙ length-bytes items ∙ ap total (sym holds.said) ∙ total-all holds.rdfs

    free : w.back - w.front ≡ control_at (length out) holds.rdfs - spans holds.rdfs
    free = omega (arith, holds.back, long, span)

    place : spans holds.rdfs + length (control holds.rdfs) + 4 ≤ length out
    place = omega (arith, holds.back, long, span, order)

    block_fits : (form : Form) → SlotsAdded form (length w.out.now) w.added
        → AllByRecursion (λ item. IsItemLength form (length item.bytes)) items
        → FitsBlock form (length out) shapes.Records items
    block_fits Plain slots_added each_so =
        omega (arith, room_is items, holds.front, length-bytes items, holds.added, room, long)
    block_fits (Slots len) slots_added each_so = (
      lengths items each_so,
      sym holds.added ∙ slots_added
          ∙ ap (λ (i : ℕ). slots_in i len) (sym long),
    )
      where
        lengths : (is : List Item)
            → AllByRecursion (λ item. IsItemLength (Slots len) (length item.bytes)) is
            → AllByRecursion (λ item. length item.bytes ≡ len) is
        lengths [] each_so = tt
        lengths (i ∷ is) each_so = (each_so.0.1, lengths is each_so.1)

    fits : Fits w.form (length out) (record { shape = shapes.Records; items = items; busy = busy })
    fits = record {
      items = holds.items;
      block = block_fits w.form complete holds.lengths;
      idle = λ e. absurd cc;
    }

    parts : out ≡ ((flat_map bytes_of items
        ++ zeros (control_at (length out) holds.rdfs - spans holds.rdfs)) ++ control holds.rdfs)
        ++ cidf (spans holds.rdfs) (control_at (length out) holds.rdfs - spans holds.rdfs) busy
    parts = made ∙ ap (λ (z : List ℕ). ((z ++ zeros k) ++ control holds.rdfs)
        ++ cidf w.front k busy) holds.bytes
        ∙ ap (λ (i : ℕ). ((flat_map bytes_of items ++ zeros i) ++ control holds.rdfs)
        ++ cidf w.front i busy) free
        ∙ ap (λ (i : ℕ). ((flat_map bytes_of items
        ++ zeros (control_at (length out) holds.rdfs - spans holds.rdfs)) ++ control holds.rdfs)
        ++ cidf i (control_at (length out) holds.rdfs - spans holds.rdfs) busy) span

-- the room that held items leave
pub room_held : (w : CiWriter) (items : List Item) → Holds w items
    → room items ≡ w.front + 3 * w.added
room_held w items holds = omega (arith, room_is items, holds.front, length-bytes items, holds.added)

-- the RDF or pair of a run still stands when a record's bytes are put to its left
pub run_stands : (w : CiWriter) (items : List Item) (x : List ℕ) → Holds w items → 0 < w.run_count
    → w.front + length x ≤ w.back
    → take (length (rdf_bytes (run_rdf w.run_length w.run_count)))
    (drop w.back (with_bytes w.out.now w.front x)) ≡ rdf_bytes (run_rdf w.run_length w.run_count)
run_stands w items x holds some place =
    let block : List ℕ = w.out.now in
    let was : Rdf = run_rdf w.run_length w.run_count in
    let top : ℕ = length block - 4 in
    let last = runs w.form (last_from None holds.rdfs) w.run_length w.run_count holds.run some in
    let split = split_of holds.rdfs was last.1 in
    let controls : control holds.rdfs ≡ rdf_bytes was ++ control split.0 = ap control split.1
    ∙ control-push split.0 was in
    let k : ℕ = length (rdf_bytes was) in
    let high : w.back + k ≤ top =
    omega (
      arith,
      holds.back,
      ap length controls,
      length-append (rdf_bytes was) (control split.0),
    ) in
    let same : drop w.back (with_bytes block w.front x) ≡ drop w.back block =
    drop-placed block w.front w.back x (omega (arith, place, holds.back)) place in
    let cut : take k (drop w.back (take top block)) ≡ take k (drop w.back block) =
    sym (drop-take w.back k (take top block))
    ∙ ap (λ (z : List ℕ). drop w.back z) (take-take (w.back + k) top block high)
    ∙ drop-take w.back k block in
    ap (λ (z : List ℕ). take k z) same ∙ sym cut
    ∙ ap (λ (z : List ℕ). take k z) (holds.control ∙ controls)
    ∙ take_at (rdf_bytes was) (control split.0) k refl

-- the same, at the record's live mark
pub live_held : (old new : CiWriter) (items : List Item) (bytes : List ℕ) (live : Bool)
    → live ≡ true → Holds old items → IsItemLength old.form (length bytes)
    → 0 < old.run_count → old.run_count < 65535 → old.run_length ≡ length bytes
    → new.form ≡ old.form → new.front ≡ old.front + length bytes → new.added ≡ old.added + 1
    → old.front + length bytes ≤ new.back
    → new.back + 6 ≡ old.back + length (rdf_bytes (run_rdf old.run_length old.run_count))
    → new.out.now ≡ with_bytes (with_bytes old.out.now old.front bytes) new.back
    (rdf_bytes (run_rdf old.run_length (old.run_count + 1)))
    → new.run_length ≡ old.run_length → new.run_count ≡ old.run_count + 1
    → Holds new (items ++ written bytes live ∷ [])
live_held old new items bytes live is holds len some few same form front added place back out
    run_length_is count =
    subst (λ (b : Bool). Holds new (items ++ written bytes b ∷ [])) (sym is)
    (run_held old new items bytes holds len some few same form front added place back out
    run_length_is count)
