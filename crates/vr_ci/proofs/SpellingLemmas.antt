-- The one chain of RDFs that says given marks: runs are joined from the back.
use Rattle.vr_ci_match.specs.declared.form.Shape.TheVariants as shapes
use Rattle.std.proofs.Common.{◌≡◌, ℕ, zero, suc, ◌+◌, Bool, true, false, List, [], ◌∷◌, ◌++◌}
use Rattle.std.proofs.Common.{Option, Some, None, refl, sym, ap, ◌∙◌, subst, arith}
use Rattle.std.specs.Prelude.{map, replicate, if◌then◌else◌, ◌==◌}
use Rattle.std.specs.List.{flat_map, AllByRecursion}
use Rattle.std.proofs.lemmas.Bool.{eq-eqb, ne_eqb}
use Rattle.vr_ci_match.specs.declared.form.Form.{Form}
use Rattle.vr_ci_match.specs.declared.form.Form.TheVariants.{Plain, Slots}
use Rattle.vr_ci_match.specs.declared.rdf.Rdf.{Rdf}
use Rattle.vr_ci_match.specs.declared.rdf.Rdf.TheVariants.{Single, Run, Segment}
use Rattle.vr_ci_match.specs.Rdf.{Mark, marks, run_length, AreApart, IsOfRecords, IsChainFrom}
use Rattle.vr_ci_match.specs.Rdf.{IsChain, shape_of}
use Rattle.vr_ci_match.proofs.CallerLemmas.{alone, all_records}

abbrev pub mark : Bool → ℕ → Mark
mark live n = record { live = live; len = n }

abbrev pub single : Mark → Rdf
single m = Single m.live m.len

-- a record before these RDFs
abbrev pub join : Mark → List Rdf → List Rdf
join m [] = single m ∷ []
join m (Single true n ∷ rs) =
    if m.live then (if m.len == n then Run n 2 ∷ rs else single m ∷ Single true n ∷ rs) else single
    m ∷ Single true n ∷ rs
join m (Single false n ∷ rs) = single m ∷ Single false n ∷ rs
join m (Run n k ∷ rs) = if m.live then
    (if m.len == n then Run n (k + 1) ∷ rs else single m ∷ Run n k ∷ rs) else single m ∷ Run n k ∷
    rs
join m (Segment piece live number n ∷ rs) = single m ∷ Segment piece live number n ∷ rs

abbrev pub spelled : Form → List Mark → List Rdf
spelled Plain [] = []
spelled Plain (m ∷ ms) = join m (spelled Plain ms)
spelled (Slots len) ms = map single ms

-- the first of these RDFs does not go on with a run of this length
abbrev pub Apart : Option ℕ → List Rdf → Type 0
Apart n [] = Unit {0}
Apart n (r ∷ rs) = AreApart Plain n (run_length r)

pub join-apart : (m : Mark) (rs : List Rdf) → Apart (run_length (single m)) rs
    → join m rs ≡ single m ∷ rs
join-apart m [] apart = refl
join-apart m (Single false n ∷ rs) apart = refl
join-apart m (Segment piece live number n ∷ rs) apart = refl
join-apart m (Single true n ∷ rs) apart = other m.live m.len apart
  where
    other : (live : Bool) (len : ℕ) → Apart (run_length (Single live len)) (Single true n ∷ rs)
        → join (mark live len) (Single true n ∷ rs) ≡ Single live len ∷ Single true n ∷ rs
    other false len apart = refl
    other true len apart = rw (ne_eqb len n apart) refl
join-apart m (Run n k ∷ rs) apart = other m.live m.len apart
  where
    other : (live : Bool) (len : ℕ) → Apart (run_length (Single live len)) (Run n k ∷ rs)
        → join (mark live len) (Run n k ∷ rs) ≡ Single live len ∷ Run n k ∷ rs
    other false len apart = refl
    other true len apart = rw (ne_eqb len n apart) refl

pub join-same : (n : ℕ) (rs : List Rdf) → join (mark true n) (Single true n ∷ rs) ≡ Run n 2 ∷ rs
join-same n rs = rw (eq-eqb n n refl) refl

pub join-more : (n k : ℕ) (rs : List Rdf) → join (mark true n) (Run n k ∷ rs) ≡ Run n (k + 1) ∷ rs
join-more n k rs = rw (eq-eqb n n refl) refl

-- a run before RDFs that do not go on with it
spelled-run : (n k : ℕ) (ms : List Mark) → Apart (Some n) (spelled Plain ms)
    → spelled Plain (replicate (suc (suc k)) (mark true n) ++ ms) ≡ Run n (suc (suc k)) ∷ spelled
    Plain ms
spelled-run n zero ms apart =
    ap (λ (rs : List Rdf). join (mark true n) rs)
    (join-apart (mark true n) (spelled Plain ms) apart) ∙ join-same n (spelled Plain ms)
spelled-run n (suc k) ms apart =
    let suc_is : suc (suc k) + 1 ≡ suc (suc (suc k)) = omega arith in
    ap (λ (rs : List Rdf). join (mark true n) rs) (spelled-run n k ms apart)
    ∙ join-more n (suc (suc k)) (spelled Plain ms)
    ∙ ap (λ (j : ℕ). Run n j ∷ spelled Plain ms) suc_is

chain-apart : (before : Rdf) (rs : List Rdf) → IsChainFrom Plain (Some before) rs
    → Apart (run_length before) rs
chain-apart before [] chain = tt
chain-apart before (r ∷ rs) chain = chain.1.3

-- A chain of plain records is the spelling of what it says.
spelled-plain : (before : Option Rdf) (rs : List Rdf) → IsChainFrom Plain before rs
    → AllByRecursion IsOfRecords rs → spelled Plain (flat_map marks rs) ≡ rs
spelled-plain before [] chain records = refl
spelled-plain before (Single live n ∷ rs) chain records =
    let rest = spelled-plain (Some (Single live n)) rs chain.2 records.1 in
    ap (λ (ss : List Rdf). join (mark live n) ss) rest
    ∙ join-apart (mark live n) rs (chain-apart (Single live n) rs chain.2)
spelled-plain before (Run n zero ∷ rs) chain records = absurd (omega (arith, chain.0.2))
spelled-plain before (Run n (suc zero) ∷ rs) chain records = absurd (omega (arith, chain.0.2))
spelled-plain before (Run n (suc (suc k)) ∷ rs) chain records =
    let rest = spelled-plain (Some (Run n (suc (suc k)))) rs chain.2 records.1 in
    let apart : Apart (Some n) (spelled Plain (flat_map marks rs)) =
    subst (λ (ss : List Rdf). Apart (Some n) ss) (sym rest)
    (chain-apart (Run n (suc (suc k))) rs chain.2) in
    spelled-run n k (flat_map marks rs) apart
    ∙ ap (λ (ss : List Rdf). Run n (suc (suc k)) ∷ ss) rest
spelled-plain before (Segment piece live number n ∷ rs) chain records = absurd records.0

spelled-slots : (len : ℕ) (before : Option Rdf) (rs : List Rdf) → IsChainFrom (Slots len) before rs
    → AllByRecursion IsOfRecords rs → map single (flat_map marks rs) ≡ rs
spelled-slots len before [] chain records = refl
spelled-slots len before (Single live n ∷ rs) chain records =
    ap (λ (ss : List Rdf). Single live n ∷ ss)
    (spelled-slots len (Some (Single live n)) rs chain.2 records.1)
spelled-slots len None (Run n k ∷ rs) chain records = absurd chain.1
spelled-slots len (Some r) (Run n k ∷ rs) chain records = absurd chain.1.0
spelled-slots len before (Segment piece live number n ∷ rs) chain records = absurd records.0

pub spelled-marks : (form : Form) (rs : List Rdf) → IsChain form rs → shape_of rs ≡ shapes.Records
    → spelled form (flat_map marks rs) ≡ rs
spelled-marks Plain rs chain shape =
    spelled-plain None rs chain (all_records Plain None rs chain shape)
spelled-marks (Slots len) rs chain shape =
    spelled-slots len None rs chain (all_records (Slots len) None rs chain shape)

-- Two chains that say the same are one.
pub one_spelling : (form : Form) (rs ss : List Rdf) → IsChain form rs → IsChain form ss
    → shape_of rs ≡ shape_of ss → flat_map marks rs ≡ flat_map marks ss → rs ≡ ss
one_spelling form [] ss chain chained shape same =
    records form [] ss chain chained refl (sym shape) same
  where
    records : (form : Form) (rs ss : List Rdf) → IsChain form rs → IsChain form ss
        → shape_of rs ≡ shapes.Records → shape_of ss ≡ shapes.Records
        → flat_map marks rs ≡ flat_map marks ss → rs ≡ ss
    records form rs ss chain chained shape shape_is same = sym (spelled-marks form rs chain shape)
        ∙ ap (λ (ms : List Mark). spelled form ms) same ∙ spelled-marks form ss chained shape_is
one_spelling form (Single live n ∷ rs) ss chain chained shape same =
    sym (spelled-marks form (Single live n ∷ rs) chain refl)
    ∙ ap (λ (ms : List Mark). spelled form ms) same ∙ spelled-marks form ss chained (sym shape)
one_spelling form (Run n k ∷ rs) ss chain chained shape same =
    sym (spelled-marks form (Run n k ∷ rs) chain refl)
    ∙ ap (λ (ms : List Mark). spelled form ms) same ∙ spelled-marks form ss chained (sym shape)
one_spelling form (Segment piece live number n ∷ rs) [] chain chained shape same = absurd cc
one_spelling form (Segment piece live number n ∷ rs) (Single a i ∷ ss) chain chained shape same =
    absurd cc
one_spelling form (Segment piece live number n ∷ rs) (Run i k ∷ ss) chain chained shape same =
    absurd cc
one_spelling form (Segment piece live number n ∷ rs) (Segment p l j i ∷ ss) chain chained shape same
    =
    let none : rs ≡ [] = alone form piece live number n rs chain in
    let none' : ss ≡ [] = alone form p l j i ss chained in
    let heads : mark live n ≡ mark l i = cc in
    let lives : live ≡ l = ap (λ (x : Mark). x.live) heads in
    let lens : n ≡ i = ap (λ (x : Mark). x.len) heads in
    cc
