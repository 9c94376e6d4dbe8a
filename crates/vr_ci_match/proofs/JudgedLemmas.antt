-- What the RDFs that were read are to say, beside those that are meant.
use Rattle.vr_ci_match.specs.declared.form.Shape.TheVariants as shapes
use Rattle.std.proofs.Common.{◌≡◌, ℕ, zero, suc, ◌+◌, ◌-◌, ◌*◌, ◌/◌, ◌<◌, ◌≤◌, Bool, true, false}
use Rattle.std.proofs.Common.{List, [], ◌∷◌, ◌++◌, length, take, Some, None, refl, sym, ap, ◌∙◌}
use Rattle.std.proofs.Common.{subst, arith, length-append}
use Rattle.std.specs.Prelude.{map, if◌then◌else◌, min, nat_lt}
use Rattle.std.specs.List.{flat_map}
use Rattle.std.proofs.lemmas.Nat.{div-add-mod'}
use Rattle.std.proofs.lemmas.List.{take_all, take-append-le, take-replicate, append-nil, length-map}
use Rattle.std.proofs.lemmas.List.{map-append}
use Rattle.vr_ci_match.specs.declared.compared.Compared.{Compared}
use Rattle.vr_ci_match.specs.declared.form.Form.{Form}
use Rattle.vr_ci_match.specs.declared.form.Form.TheVariants.{Plain, Slots}
use Rattle.vr_ci_match.specs.declared.form.Piece.{Piece}
use Rattle.vr_ci_match.specs.declared.form.Piece.TheVariants.{First, Inner, Last}
use Rattle.vr_ci_match.specs.declared.rdf.Rdf.{Rdf}
use Rattle.vr_ci_match.specs.declared.rdf.Rdf.TheVariants.{Single, Run, Segment}
use Rattle.vr_ci_match.specs.Rdf.{marks, spans, record_length, rdf_bytes, control, IsOfRecords}
use Rattle.vr_ci_match.specs.Rdf.{IsChain, shape_of, shape_by}
use Rattle.vr_ci_match.specs.Laid.{slots_in, control_at}
use Rattle.vr_ci_match.specs.Compare.{Compares}
use Rattle.vr_ci_match.specs.Fault.{free_end, filled, slotted, slots_of, meant, masked}
use Rattle.vr_ci_match.specs.Layout.{slot_length, data_end, length_meant}
use Rattle.vr_ci_match.specs.Tally.{with_length, judged, IsCompared}
use Rattle.vr_ci_match.proofs.ChainLemmas.{last_from-push, all_records, shape_by_last}
use Rattle.vr_ci_match.proofs.MarkLemmas.{AreSingles, singles}
use Rattle.vr_ci_match.proofs.ComparedLemmas.{empties}

-- ---- a chain that goes on is of records

some_records : (form : Form) (s : Rdf) (ss : List Rdf) (r : Rdf) → IsChain form (s ∷ (ss ++ r ∷ []))
    → IsOfRecords s
some_records form s [] r chain = chain.2.1.1
some_records form s (t ∷ ts) r chain = chain.2.1.1

record_shape : (s : Rdf) (ss : List Rdf) → IsOfRecords s → shape_of (s ∷ ss) ≡ shapes.Records
record_shape (Single live n) ss of_records = refl
record_shape (Run n k) ss of_records = refl
record_shape (Segment piece live number n) ss of_records = absurd of_records

-- what is added to RDFs to its left
pub shape-push : (form : Form) (rs : List Rdf) (r : Rdf) → IsChain form (rs ++ r ∷ [])
    → shape_of (rs ++ r ∷ []) ≡ shape_by (Some r)
shape-push form rs r chain =
    sym (shape_by_last form (rs ++ r ∷ []) chain (Some r) (sym (last_from-push None rs r)))

pub judged_plain : (size : ℕ) (rs : List Rdf) → shape_of rs ≡ shapes.Records
    → judged Plain size rs ≡ rs
judged_plain size [] shape = refl
judged_plain size (Single live n ∷ rs) shape = refl
judged_plain size (Run n k ∷ rs) shape = refl
judged_plain size (Segment piece live number n ∷ rs) shape = absurd cc

pub judged_slots : (size len : ℕ) (rs : List Rdf) → shape_of rs ≡ shapes.Records
    → judged (Slots len) size rs ≡ take (slots_in size len) (map (slotted len) rs)
judged_slots size len [] shape = refl
judged_slots size len (Single live n ∷ rs) shape = refl
judged_slots size len (Run n k ∷ rs) shape = refl
judged_slots size len (Segment piece live number n ∷ rs) shape = absurd cc

take_none : (k : ℕ) → take k (let none : List Rdf = [] in none) ≡ []
take_none zero = refl
take_none (suc k) = refl

pub judged_none : (form : Form) (size : ℕ) → judged form size [] ≡ []
judged_none Plain size = refl
judged_none (Slots len) size = take_none (slots_in size len)

filled_is : (size : ℕ) (piece : Piece) (live : Bool) (number n : ℕ)
    → filled size (Segment piece live number n) ≡ with_length (Segment piece live number n)
    (record_length (filled size (Segment piece live number n)))
filled_is size First live number n = refl
filled_is size Inner live number n = refl
filled_is size Last live number n = refl

some_same : (m n : ℕ) → Some m ≡ Some n → m ≡ n
some_same m n same = cc

-- slots have an RDF for each record
pub singles_count : (rs : List Rdf) → AreSingles rs → length (flat_map marks rs) ≡ length rs
singles_count [] singles_only = refl
singles_count (Single live n ∷ rs) singles_only =
    ap (λ (k : ℕ). suc k) (singles_count rs singles_only)
singles_count (Run n k ∷ rs) singles_only = absurd singles_only
singles_count (Segment piece live number n ∷ rs) singles_only = absurd singles_only

singles_front : (rs ss : List Rdf) → AreSingles (rs ++ ss) → AreSingles rs × AreSingles ss
singles_front [] ss singles_only = (tt, singles_only)
singles_front (Single live n ∷ rs) ss singles_only = singles_front rs ss singles_only
singles_front (Run n k ∷ rs) ss singles_only = absurd singles_only
singles_front (Segment piece live number n ∷ rs) ss singles_only = absurd singles_only

chain_singles : (len : ℕ) (rs : List Rdf) → IsChain (Slots len) rs → shape_of rs ≡ shapes.Records
    → AreSingles rs
chain_singles len rs chain shape =
    singles len None rs chain (all_records (Slots len) None rs chain shape)

front_shape : (rs : List Rdf) (r : Rdf) → shape_of (rs ++ r ∷ []) ≡ shapes.Records
    → shape_of rs ≡ shapes.Records
front_shape [] r shape = refl
front_shape (Single live n ∷ rs) r shape = refl
front_shape (Run n k ∷ rs) r shape = refl
front_shape (Segment piece live number n ∷ rs) r shape = absurd cc

chosen : (b : Bool) (len m : ℕ) → (if b then Some len else None) ≡ Some m → (b ≡ true) × (len ≡ m)
chosen true len m else_is = (refl, some_same len m else_is)
chosen false len m else_is = absurd cc

left_out : (b : Bool) (len : ℕ) → (if b then Some len else None) ≡ None → b ≡ false
left_out true len else_is = absurd cc
left_out false len else_is = refl

-- a slot that the block has a place for
slot_more : (k len m : ℕ) (rs : List Rdf) (live : Bool) (n : ℕ) → length rs < k → len ≡ m
    → take k (map (slotted len) (rs ++ Single live n ∷ [])) ≡ take k (map (slotted len) rs)
    ++ Single live m ∷ []
slot_more k len m rs live n less len_is =
    let added : List Rdf = Single live n ∷ [] in
    ap (λ (x : List Rdf). take k x) (map-append (slotted len) rs added)
    ∙ take_all k (map (slotted len) rs ++ Single live len ∷ [])
    (omega (
      arith,
      length-append (map (slotted len) rs) (let t : List Rdf = Single live len ∷ [] in
          t),
      length-map rs (slotted len),
      less,
    ))
    ∙ ap (λ (x : List Rdf). x ++ Single live len ∷ [])
    (sym (take_all k (map (slotted len) rs) (omega (arith, length-map rs (slotted len), less))))
    ∙ ap (λ (j : ℕ). take k (map (slotted len) rs) ++ Single live j ∷ []) len_is

-- and one that it has none for
slot_past : (k len : ℕ) (rs : List Rdf) (r : Rdf) → k ≤ length rs
    → take k (map (slotted len) (rs ++ r ∷ [])) ≡ take k (map (slotted len) rs)
slot_past k len rs r past =
    ap (λ (x : List Rdf). take k x) (map-append (slotted len) rs (r ∷ []))
    ∙ take-append-le k (map (slotted len) rs) (map (slotted len) (r ∷ []))
    (omega (arith, length-map rs (slotted len), past))

length-judged : (size len : ℕ) (rs : List Rdf) → AreSingles rs
    → length (control (take (slots_in size len) (map (slotted len) rs))) ≡ 3 * min
    (slots_in size len) (length rs)
length-judged size len rs singles_only = thirds (slots_in size len) rs singles_only
  where
    thirds : (k : ℕ) (rs : List Rdf) → AreSingles rs
        → length (control (take k (map (slotted len) rs))) ≡ 3 * min k (length rs)
    thirds zero rs singles_only = omega arith
    thirds (suc k) [] singles_only = omega arith
    thirds (suc k) (Single live n ∷ rs) singles_only =
        omega (
          arith,
          thirds k rs singles_only,
          length-append (control (take k (map (slotted len) rs))) (rdf_bytes (Single live len)),
        )
    thirds (suc k) (Run n j ∷ rs) singles_only = absurd singles_only
    thirds (suc k) (Segment piece live number n ∷ rs) singles_only = absurd singles_only

control-singles : (rs : List Rdf) → AreSingles rs → length (control rs) ≡ 3 * length rs
control-singles [] singles_only = omega arith
control-singles (Single live n ∷ rs) singles_only =
    omega (
      arith,
      length-append (control rs) (rdf_bytes (Single live n)),
      control-singles rs singles_only,
    )
control-singles (Run n k ∷ rs) singles_only = absurd singles_only
control-singles (Segment piece live number n ∷ rs) singles_only = absurd singles_only

-- what one RDF or pair more is to say, and that those before it have as many bytes as they are to
-- have
pub record Grows (form : Form) (size : ℕ) (rs : List Rdf) (r : Rdf) (len : ℕ) : Type 0 where
  pub more : judged form size (rs ++ r ∷ []) ≡ judged form size rs ++ with_length r len ∷ []
  pub width : length (control (judged form size rs)) ≡ length (control rs)

pub grows : (form : Form) (size : ℕ) (rs : List Rdf) (r : Rdf) (len : ℕ)
    → IsChain form (rs ++ r ∷ [])
    → length_meant form size (length (flat_map marks rs)) r ≡ Some len → Grows form size rs r len
grows form size [] (Segment piece live number n) len chain size_is =
    let same = some_same (record_length (filled size (Segment piece live number n))) len size_is in
    let none = judged_none form size in
    record {
      more = ap (λ (x : Rdf). x ∷ []) (filled_is size piece live number n
          ∙ ap (λ (k : ℕ). with_length (Segment piece live number n) k) same)
          ∙ ap (λ (x : List Rdf). x ++ Segment piece live number len ∷ []) (sym none);
      width = ap (λ (x : List Rdf). length (control x)) none;
    }
grows form size (s ∷ ss) (Segment piece live number n) len chain size_is =
    absurd (let shape : shape_of (s ∷ (ss ++ Segment piece live number n ∷ [])) ≡ shapes.Segment
    piece number = shape-push form (s ∷ ss) (Segment piece live number n) chain in
    let record_shape_here = record_shape s (ss ++ Segment piece live number n ∷ [])
    (some_records form s ss (Segment piece live number n) chain) in cc)
grows Plain size rs (Single live n) len chain size_is =
    let all = shape-push Plain rs (Single live n) chain in
    let one = judged_plain size rs (front_shape rs (Single live n) all) in
    record {
      more = judged_plain size (rs ++ Single live n ∷ []) all
          ∙ ap (λ (k : ℕ). rs ++ Single live k ∷ []) (some_same n len size_is)
          ∙ ap (λ (x : List Rdf). x ++ Single live len ∷ []) (sym one);
      width = ap (λ (x : List Rdf). length (control x)) one;
    }
grows Plain size rs (Run n k) len chain size_is =
    let all = shape-push Plain rs (Run n k) chain in
    let one = judged_plain size rs (front_shape rs (Run n k) all) in
    record {
      more = judged_plain size (rs ++ Run n k ∷ []) all
          ∙ ap (λ (j : ℕ). rs ++ Run j k ∷ []) (some_same n len size_is)
          ∙ ap (λ (x : List Rdf). x ++ Run len k ∷ []) (sym one);
      width = ap (λ (x : List Rdf). length (control x)) one;
    }
grows (Slots slot) size rs (Single live n) len chain size_is =
    let all = shape-push (Slots slot) rs (Single live n) chain in
    let some = chain_singles slot (rs ++ Single live n ∷ []) chain all in
    let before = (singles_front rs (Single live n ∷ []) some).0 in
    let front = judged_slots size slot rs (front_shape rs (Single live n) all) in
    let said = chosen (nat_lt (length (flat_map marks rs)) (slots_in size slot)) slot len size_is in
    let less : length rs < slots_in size slot =
    omega (
      arith,
      singles_count rs before,
      Rattle.std.proofs.lemmas.Bool.ltb-true (length (flat_map marks rs))
          (slots_in size slot) said.0,
    )
    in
    record {
      more = judged_slots size slot (rs ++ Single live n ∷ []) all
          ∙ slot_more (slots_in size slot) slot len rs live n less said.1
          ∙ ap (λ (x : List Rdf). x ++ Single live len ∷ []) (sym front);
      width = omega (
        arith,
        ap (λ (x : List Rdf). length (control x)) front,
        length-judged size slot rs before,
        control-singles rs before,
        less,
      );
    }
grows (Slots slot) size rs (Run n k) len chain size_is =
    let chain_singles_here = chain_singles slot (rs ++ Run n k ∷ []) chain
    (shape-push (Slots slot) rs (Run n k) chain) in
    absurd ((singles_front rs (Run n k ∷ []) chain_singles_here).1)

-- an RDF of no slot of the block changes nothing
pub stays : (form : Form) (size : ℕ) (rs : List Rdf) (r : Rdf) → IsChain form (rs ++ r ∷ [])
    → length_meant form size (length (flat_map marks rs)) r ≡ None
    → judged form size (rs ++ r ∷ []) ≡ judged form size rs
stays form size rs (Segment piece live number n) chain size_is = absurd cc
stays Plain size rs (Single live n) chain size_is = absurd cc
stays Plain size rs (Run n k) chain size_is = absurd cc
stays (Slots slot) size rs (Single live n) chain size_is =
    let all = shape-push (Slots slot) rs (Single live n) chain in
    let before = (singles_front rs (Single live n ∷ [])
    (chain_singles slot (rs ++ Single live n ∷ []) chain all)).0 in
    let past = left_out (nat_lt (length (flat_map marks rs)) (slots_in size slot)) slot size_is in
    judged_slots size slot (rs ++ Single live n ∷ []) all
    ∙ slot_past (slots_in size slot) slot rs (Single live n)
    (omega (
      arith,
      singles_count rs before,
      Rattle.std.proofs.lemmas.Bool.ltb-false (length (flat_map marks rs))
          (slots_in size slot) past,
    ))
    ∙ sym (judged_slots size slot rs (front_shape rs (Single live n) all))
stays (Slots slot) size rs (Run n k) chain size_is =
    let chain_singles_here = chain_singles slot (rs ++ Run n k ∷ []) chain
    (shape-push (Slots slot) rs (Run n k) chain) in
    absurd ((singles_front rs (Run n k ∷ []) chain_singles_here).1)

-- ---- the limit up to which records are compared

no_records : (block : List ℕ) (old new : ℕ) (ms : List Rdf) (c : Compared) → spans ms ≡ 0
    → IsCompared block old ms c → IsCompared block new ms c
no_records block old new ms c equal compares =
    let same : min (spans ms) old ≡ min (spans ms) new = omega (arith, equal) in
    record {
      span = compares.span;
      from = compares.from;
      wrong = subst (λ (j : ℕ). Compares 0 (take j block) (take j (masked ms block)) c.wrong) same
          compares.wrong;
      wrong_rdf = compares.wrong_rdf;
    }

pub limit_moves : (form : Form) (block : List ℕ) (rs : List Rdf) (r : Rdf) (c : Compared)
    → IsChain form (rs ++ r ∷ [])
    → IsCompared block (data_end form (length block) (free_end block) (shape_of rs))
    (judged form (length block) rs) c
    → IsCompared block (data_end form (length block) (free_end block) (shape_of (rs ++ r ∷ [])))
    (judged form (length block) rs) c
limit_moves form block [] r c chain compares =
    no_records block (data_end form (length block) (free_end block) shapes.Records)
    (data_end form (length block) (free_end block) (shape_of (r ∷ [])))
    (judged form (length block) []) c (ap spans (judged_none form (length block))) compares
limit_moves form block (Single live n ∷ rs) r c chain compares = compares
limit_moves form block (Run n j ∷ rs) r c chain compares = compares
limit_moves form block (Segment piece live number n ∷ rs) r c chain compares =
    absurd (some_records form (Segment piece live number n) rs r chain)

-- ---- after all RDFs

-- the RDFs that are meant are those that are judged, and the empty slots' that the block has none
-- of
pub record Ends (form : Form) (block : List ℕ) (rs : List Rdf) (limit empty : ℕ) : Type 0 where
  pub all : meant form (length block) rs ≡ judged form (length block) rs
      ++ empties empty (slot_length form)
  pub place : limit + 3 * empty + length (control (judged form (length block) rs)) ≡ length block -
      4

slots_all : (k len : ℕ) (rs : List Rdf)
    → take k (map (slotted len) rs ++ empties k len) ≡ take k (map (slotted len) rs)
    ++ empties (k - length rs) len
slots_all k len rs = more k k rs (omega arith)
  where
    more : (k j : ℕ) (rs : List Rdf) → k ≤ j
        → take k (map (slotted len) rs ++ empties j len) ≡ take k (map (slotted len) rs)
        ++ empties (k - length rs) len
    more zero j rs within = let same : 0 - length rs ≡ 0 = omega arith in
        sym (ap (λ (i : ℕ). empties i len) same)
    more (suc k) j [] within =
        let same : suc k ≡ suc k - 0 = omega arith in
        take-replicate (suc k) j (let r : Rdf = Single false len in r) within
        ∙ ap (λ (i : ℕ). empties i len) same
    more (suc k) j (r ∷ rs) within =
        let same : k - length rs ≡ suc k - suc (length rs) = omega arith in
        ap (λ (x : List Rdf). slotted len r ∷ x) (more k j rs (omega (arith, within)))
        ∙ ap (λ (i : ℕ). slotted len r ∷ (take k (map (slotted len) rs) ++ empties i len)) same

slots_end : (block : List ℕ) (len : ℕ) (rs : List Rdf) (from limit empty : ℕ)
    → IsChain (Slots len) rs → shape_of rs ≡ shapes.Records
    → meant (Slots len) (length block) rs ≡ slots_of (length block) len rs
    → from ≡ control_at (length block) (judged (Slots len) (length block) rs)
    → limit ≡ length block - 4 - 3 * slots_in (length block) len → empty ≡ (from - limit) / 3
    → Ends (Slots len) block rs limit empty
slots_end block len rs from limit empty chain shape len_is from_is limit_is empty_is =
    let k = slots_in (length block) len in
    let chain_singles_here = chain_singles len rs chain shape in
    let front = judged_slots (length block) len rs shape in
    let long : length (control (judged (Slots len) (length block) rs)) ≡ 3 * min k (length rs) =
    ap (λ (t : List Rdf). length (control t)) front
    ∙ length-judged (length block) len rs chain_singles_here in
    let room : 3 * k ≤ length block - 4 =
    omega (arith, div-add-mod' (length block - 4) (len + 3)) in
    let lacks : from - limit ≡ 3 * (k - length rs) = omega (arith, from_is, limit_is, long, room) in
    let left : k - length rs ≡ empty = omega (arith, empty_is, lacks) in
    record {
      all = len_is ∙ slots_all k len rs
          ∙ ap (λ (i : ℕ). take k (map (slotted len) rs) ++ empties i len) left
          ∙ ap (λ (t : List Rdf). t ++ empties empty len) (sym front);
      place = omega (arith, long, left, limit_is, room);
    }

plain_end : (block : List ℕ) (rs : List Rdf) (from limit empty : ℕ) → shape_of rs ≡ shapes.Records
    → meant Plain (length block) rs ≡ rs
    → length (control rs) ≤ length block - 4
    → from ≡ control_at (length block) (judged Plain (length block) rs)
    → limit ≡ control_at (length block) rs → empty ≡ (from - limit) / 3
    → Ends Plain block rs limit empty
plain_end block rs from limit empty shape meant_is fit from_is limit_is empty_is =
    let front = judged_plain (length block) rs shape in
    let none : empty ≡ 0 = omega (
      arith,
      empty_is,
      from_is,
      limit_is,
      ap (λ (t : List Rdf). length (control t)) front,
    ) in
    record {
      all = meant_is ∙ sym front ∙ sym (append-nil (judged Plain (length block) rs))
          ∙ ap (λ (i : ℕ). judged Plain (length block) rs ++ empties i 0) (sym none);
      place = omega (arith, none, limit_is, fit, ap (λ (t : List Rdf). length (control t)) front);
    }

segment_end : (form : Form) (block : List ℕ) (rs : List Rdf) (piece : Piece) (live : Bool)
    (number n from limit empty : ℕ) → 512 ≤ length block
    → from ≡ control_at (length block)
    (judged form (length block) (Segment piece live number n ∷ rs)) → limit ≡ length block - 10
    → empty ≡ (from - limit) / 3
    → Ends form block (Segment piece live number n ∷ rs) limit empty
segment_end form block rs piece live number n from limit empty least from_is limit_is empty_is =
    let six = width piece in
    let none : empty ≡ 0 = omega (arith, empty_is, from_is, limit_is, six, least) in
    record {
      all = sym (append-nil (filled (length block) (Segment piece live number n) ∷ []))
          ∙ ap (λ (i : ℕ). filled (length block) (Segment piece live number n) ∷ empties i
          (slot_length form)) (sym none);
      place = omega (arith, none, limit_is, six, least);
    }
  where
    width : (p : Piece) → length (control (filled (length block) (Segment p live number n) ∷ [])) ≡
        6
    width First = refl
    width Inner = refl
    width Last = refl

pub ends : (form : Form) (block : List ℕ) (rs : List Rdf) (from limit empty : ℕ)
    → 512 ≤ length block → IsChain form rs
    → length (control rs) + control_at (length block) rs ≡ length block - 4
    → from ≡ control_at (length block) (judged form (length block) rs)
    → limit ≡ data_end form (length block) (free_end block) (shape_of rs)
    → (form ≡ Plain → data_end form (length block) (free_end block) shapes.Records ≡ control_at
    (length block) rs) → empty ≡ (from - limit) / 3 → Ends form block rs limit empty
ends form block (Segment piece live number n ∷ rs) from limit empty least chain long from_is
    limit_is each empty_is = segment_end form block rs piece live number n from limit empty least
    from_is limit_is empty_is
ends Plain block [] from limit empty least chain long from_is limit_is each empty_is =
    plain_end block [] from limit empty refl refl (omega (arith, long)) from_is (limit_is
    ∙ each refl) empty_is
ends Plain block (Single live n ∷ rs) from limit empty least chain long from_is limit_is each
    empty_is = plain_end block (Single live n ∷ rs) from limit empty refl refl (omega (arith, long))
    from_is (limit_is ∙ each refl) empty_is
ends Plain block (Run n k ∷ rs) from limit empty least chain long from_is limit_is each empty_is =
    plain_end block (Run n k ∷ rs) from limit empty refl refl (omega (arith, long)) from_is
    (limit_is ∙ each refl) empty_is
ends (Slots len) block [] from limit empty least chain long from_is limit_is each empty_is =
    slots_end block len [] from limit empty chain refl refl from_is limit_is empty_is
ends (Slots len) block (Single live n ∷ rs) from limit empty least chain long from_is limit_is each
    empty_is = slots_end block len (Single live n ∷ rs) from limit empty chain refl refl from_is
    limit_is empty_is
ends (Slots len) block (Run n k ∷ rs) from limit empty least chain long from_is limit_is each
    empty_is = slots_end block len (Run n k ∷ rs) from limit empty chain refl refl from_is limit_is
    empty_is
