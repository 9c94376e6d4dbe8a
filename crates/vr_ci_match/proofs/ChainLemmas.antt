-- Chains of RDFs, and what the last RDF says of the whole chain.
use Rattle.vr_ci_match.specs.declared.form.Shape.TheVariants as shapes
use Rattle.std.proofs.Common.{◌≡◌, ℕ, Bool, List, [], ◌∷◌, ◌++◌, Option}
use Rattle.std.proofs.Common.{Some, None, refl, ap, ◌∙◌, sym, subst}
use Rattle.std.specs.List.{AllByRecursion}
use Rattle.vr_ci_match.specs.declared.form.Form.{Form}
use Rattle.vr_ci_match.specs.declared.form.Piece.{Piece}
use Rattle.vr_ci_match.specs.declared.rdf.Rdf.{Rdf}
use Rattle.vr_ci_match.specs.declared.rdf.Rdf.TheVariants.{Single, Run, Segment}
use Rattle.vr_ci_match.specs.Rdf.{IsRdf, IsOfRecords, MayFollow, IsChainFrom, IsChain, last_from}
use Rattle.vr_ci_match.specs.Rdf.{shape_of, shape_by}

-- each RDF of a chain is one
pub chain_rdfs : (form : Form) (before : Option Rdf) (rs : List Rdf) → IsChainFrom form before rs
    → AllByRecursion IsRdf rs
chain_rdfs form before [] chain = tt
chain_rdfs form before (r ∷ rs) chain = (chain.0, chain_rdfs form (Some r) rs chain.2)

-- one more at the end of a chain, and one less
pub chain-push : (form : Form) (before : Option Rdf) (rs : List Rdf) (r : Rdf)
    → IsChainFrom form before rs → IsRdf r → MayFollow form (last_from before rs) r
    → IsChainFrom form before (rs ++ r ∷ [])
chain-push form before [] r chain valid follows = (valid, follows, tt)
chain-push form before (s ∷ rs) r chain valid follows =
    (chain.0, chain.1, chain-push form (Some s) rs r chain.2 valid follows)

-- the last of a chain is an RDF that may stand there
pub chain-last : (form : Form) (before : Option Rdf) (rs : List Rdf) (r : Rdf)
    → IsChainFrom form before (rs ++ r ∷ []) → IsRdf r × MayFollow form (last_from before rs) r
chain-last form before [] r chain = (chain.0, chain.1)
chain-last form before (s ∷ rs) r chain = chain-last form (Some s) rs r chain.2

-- the beginning of a chain is a chain
pub chain-front : (form : Form) (before : Option Rdf) (rs ss : List Rdf)
    → IsChainFrom form before (rs ++ ss) → IsChainFrom form before rs
chain-front form before [] ss chain = tt
chain-front form before (r ∷ rs) ss chain =
    (chain.0, chain.1, chain-front form (Some r) rs ss chain.2)

-- the RDF farthest to the left, once one is put there
pub last_from-push : (before : Option Rdf) (rs : List Rdf) (r : Rdf)
    → last_from before (rs ++ r ∷ []) ≡ Some r
last_from-push before [] r = refl
last_from-push before (s ∷ rs) r = last_from-push (Some s) rs r

-- a segment stands alone
pub alone : (form : Form) (piece : Piece) (live : Bool) (number n : ℕ) (rs : List Rdf)
    → IsChain form (Segment piece live number n ∷ rs) → rs ≡ []
alone form piece live number n [] chain = refl
alone form piece live number n (s ∷ rs) chain = absurd (chain.2.1.1)

records_shape : (r : Rdf) (rs : List Rdf) → IsOfRecords r → shape_of (r ∷ rs) ≡ shapes.Records
records_shape (Single live n) rs of_records = refl
records_shape (Run n k) rs of_records = refl
records_shape (Segment piece live number n) rs of_records = absurd of_records

shape_records : (r : Rdf) (rs : List Rdf) → shape_of (r ∷ rs) ≡ shapes.Records → IsOfRecords r
shape_records (Single live n) rs shape = tt
shape_records (Run n k) rs shape = tt
shape_records (Segment piece live number n) rs shape = absurd cc

-- a chain of records has no segment
pub all_records : (form : Form) (before : Option Rdf) (rs : List Rdf) → IsChainFrom form before rs
    → shape_of rs ≡ shapes.Records → AllByRecursion IsOfRecords rs
all_records form before [] chain shape = tt
all_records form before (r ∷ []) chain shape = (shape_records r [] shape, tt)
all_records form before (r ∷ (s ∷ rs)) chain shape = (
  shape_records r (s ∷ rs) shape,
  all_records form (Some r) (s ∷ rs) chain.2 (records_shape s rs (chain.2.1.2)),
)

-- ---- what the last RDF says of the whole chain

-- all of a chain but one segment is of records
pub last_of_records : (form : Form) (rs : List Rdf) → IsChain form rs → (r : Rdf)
    → last_from None rs ≡ Some r → IsOfRecords r → shape_of rs ≡ shapes.Records
last_of_records form [] chain r last_from_is of_records = refl
last_of_records form (Single live n ∷ rs) chain r last_from_is of_records = refl
last_of_records form (Run n k ∷ rs) chain r last_from_is of_records = refl
last_of_records form (Segment piece live number n ∷ rs) chain r last_from_is of_records =
    let none : rs ≡ [] = alone form piece live number n rs chain in
    let same : Segment piece live number n ≡ r =
    let number_is : Some (Segment piece live number n) ≡ Some r =
    ap (λ (t : List Rdf). last_from (Some (Segment piece live number n)) t) (sym none)
    ∙ last_from_is in cc in
    absurd (subst IsOfRecords (sym same) of_records)

pub last_segment : (form : Form) (rs : List Rdf) → IsChain form rs
    → (piece : Piece) (live : Bool) (number n : ℕ)
    → last_from None rs ≡ Some (Segment piece live number n) → rs ≡ Segment piece live number n ∷ []
last_segment form [] chain piece live number n last_from_is = absurd cc
last_segment form (r ∷ rs) chain piece live number n last_from_is =
    behind form r rs chain last_from_is
  where
    behind : (form : Form) (r : Rdf) (rs : List Rdf) → IsChain form (r ∷ rs)
        → last_from (Some r) rs ≡ Some (Segment piece live number n)
        → r ∷ rs ≡ Segment piece live number n ∷ []
    behind form r [] chain last_from_is = let same : r ≡ Segment piece live number n = cc in
        ap (λ (x : Rdf). x ∷ []) same
    behind form r (s ∷ rs) chain last_from_is =
        absurd (no_segment form (Some r) s rs chain.2 (chain.2.1.2) last_from_is)
      where
        no_segment : (form : Form) (before : Option Rdf) (s : Rdf) (rs : List Rdf)
            → Rattle.vr_ci_match.specs.Rdf.IsChainFrom form before (s ∷ rs) → IsOfRecords s
            → last_from (Some s) rs ≡ Some (Segment piece live number n) → ⊥
        no_segment form before s [] chain o last_from_is =
            let same : s ≡ Segment piece live number n = cc in
            let of_records : IsOfRecords (Segment piece live number n) = subst IsOfRecords same o in
            of_records
        no_segment form before s (t ∷ rs) chain of_records last_from_is =
            no_segment form (Some s) t rs chain.2 (chain.2.1.2) last_from_is

pub no_last : (rs : List Rdf) → last_from None rs ≡ None → rs ≡ []
no_last [] last_from_is = refl
no_last (r ∷ rs) last_from_is = absurd (some r rs last_from_is)
  where
    some : (r : Rdf) (rs : List Rdf) → last_from (Some r) rs ≡ None → ⊥
    some r [] last_from_is = cc
    some r (s ∷ rs) last_from_is = some s rs last_from_is

pub shape_by_last : (form : Form) (rs : List Rdf) → IsChain form rs → (last : Option Rdf)
    → last ≡ last_from None rs → shape_by last ≡ shape_of rs
shape_by_last form rs chain None last_is = ap shape_of (sym (no_last rs (sym last_is)))
shape_by_last form rs chain (Some (Single live n)) last_is =
    sym (last_of_records form rs chain (Single live n) (sym last_is) tt)
shape_by_last form rs chain (Some (Run n k)) last_is =
    sym (last_of_records form rs chain (Run n k) (sym last_is) tt)
shape_by_last form rs chain (Some (Segment piece live number n)) last_is =
    ap shape_of (sym (last_segment form rs chain piece live number n (sym last_is)))
