-- The items and the last RDF that a writer holds.
use Rattle.std.proofs.Common.{◌≡◌, ℕ, zero, suc, ◌<◌, Bool, true, false}
use Rattle.std.proofs.Common.{List, [], ◌∷◌, ◌++◌, length, Option, Some, None, refl}
use Rattle.std.proofs.Common.{sym, ap, ◌∙◌, subst, arith}
use Rattle.std.specs.Prelude.{replicate, IsTrue}
use Rattle.std.specs.List.{flat_map, AllByRecursion}
use Rattle.std.proofs.lemmas.List.{append-nil}
use Rattle.std.proofs.lemmas.List.Concat.{flat_map-append}
use Rattle.vr_ci_match.specs.declared.form.Form.{Form}
use Rattle.vr_ci_match.specs.declared.form.Form.TheVariants.{Plain, Slots}
use Rattle.vr_ci_match.specs.declared.rdf.Rdf.{Rdf}
use Rattle.vr_ci_match.specs.declared.rdf.Rdf.TheVariants.{Single, Run, Segment}
use Rattle.vr_ci_match.specs.Rdf.{Mark, marks, IsCount, IsRdf}
use Rattle.vr_ci_match.specs.Rdf.{run_length, AreApart, IsOfRecords, MayFollow}
use Rattle.vr_ci_match.specs.Rdf.{last_from}
use Rattle.vr_ci.specs.Interval.{Item, IsItem, bytes_of}
use Rattle.vr_ci.specs.Writer.{IsLastRun, written, run_rdf}
use Rattle.vr_ci.specs.Writer.{run_started}
use Rattle.vr_ci_match.proofs.CallerLemmas.{zeros, length-zeros}
use Rattle.vr_ci.proofs.PlaceLemmas.{run_is}

-- ---- lists of items

pub bytes-push : (items : List Item) (i : Item)
    → flat_map bytes_of (items ++ i ∷ []) ≡ flat_map bytes_of items ++ i.bytes
bytes-push items i = flat_map-append bytes_of items (i ∷ [])
    ∙ ap (λ (x : List ℕ). flat_map bytes_of items ++ x) (append-nil i.bytes)

pub all-push : (P : Item → Type 0) (items : List Item) (i : Item) → AllByRecursion P items → P i
    → AllByRecursion P (items ++ i ∷ [])
all-push P [] i each_so given = (given, tt)
all-push P (j ∷ items) i each_so given = (each_so.0, all-push P items i each_so.1 given)

pub length-written : (bytes : List ℕ) (live : Bool)
    → length (written bytes live).bytes ≡ length bytes
length-written bytes true = refl
length-written bytes false = length-zeros (length bytes)

pub written_ok : (bytes : List ℕ) (live : Bool) → 0 < length bytes → IsItem (written bytes live)
written_ok bytes true some_too = record { some = some_too; zeros = λ e. absurd cc }
written_ok bytes false some_too =
    record {
      some = omega (arith, length-zeros (length bytes), some_too);
      zeros = λ e. ap (λ (k : ℕ). zeros k) (sym (length-zeros (length bytes)));
    }

-- ---- the last RDF

pub last_record : (before : Option Rdf) (rs : List Rdf) (b : Rdf)
    → ((r : Rdf) → before ≡ Some r → IsOfRecords r) → AllByRecursion IsOfRecords rs
    → last_from before rs ≡ Some b → IsOfRecords b
last_record before [] b each records before_is = each b before_is
last_record before (r ∷ rs) b each records before_is =
    last_record (Some r) rs b (λ s q. let same : r ≡ s = cc in
    subst IsOfRecords same records.0) records.1 before_is

split_last : (r : Rdf) (rs : List Rdf) (b : Rdf) → last_from (Some r) rs ≡ Some b
    → (init : List Rdf) × (r ∷ rs ≡ init ++ b ∷ [])
split_last r [] b last_from_is = let same : r ≡ b = cc in ([], ap (λ (x : Rdf). x ∷ []) same)
split_last r (s ∷ rs) b last_from_is = let rest = split_last s rs b last_from_is in
    (r ∷ rest.0, ap (λ (x : List Rdf). r ∷ x) rest.1)

pub split_of : (rs : List Rdf) (b : Rdf) → last_from None rs ≡ Some b → (init : List Rdf)
    × (rs ≡ init ++ b ∷ [])
split_of [] b last_from_is = absurd cc
split_of (r ∷ rs) b last_from_is = split_last r rs b last_from_is

-- a record that does not go on with a run may have an RDF of its own
pub may_follow : (form : Form) (last : Option Rdf) (live : Bool) (len n count : ℕ)
    → IsLastRun form last n count → ((b : Rdf) → last ≡ Some b → IsOfRecords b)
    → (IsTrue live → 0 < count → n ≡ len → ⊥) → MayFollow form last (Single live len)
may_follow Plain None live len n count last_run each not_so = tt
may_follow (Slots k) None live len n count last_run each not_so = tt
may_follow (Slots k) (Some b) live len n count last_run each not_so = (tt, each b refl, tt, tt)
may_follow Plain (Some (Single true m)) true len n count last_run each not_so =
    (tt, tt, tt, λ e. not_so refl (omega (arith, last_run.0)) (last_run.1 ∙ e))
may_follow Plain (Some (Single true m)) false len n count last_run each not_so = (tt, tt, tt, tt)
may_follow Plain (Some (Single false m)) live len n count last_run each not_so = (tt, tt, tt, tt)
may_follow Plain (Some (Run m k)) true len n count last_run each not_so =
    (tt, tt, tt, λ e. not_so refl (omega (arith, last_run.0, last_run.2)) (last_run.1 ∙ e))
may_follow Plain (Some (Run m k)) false len n count last_run each not_so = (tt, tt, tt, tt)
may_follow Plain (Some (Segment piece mark number m)) live len n count last_run each not_so =
    absurd last_run

pub started : (form : Form) (live : Bool) (len n count : ℕ) → n ≡ len → count ≡ run_started form live
    → IsLastRun form (Some (Single live len)) n count
started Plain true len n count same count_is = (count_is, same)
started Plain false len n count same count_is = count_is
started (Slots k) live len n count same count_is = count_is

-- a run that goes on is of plain records, and the last RDF is its own
pub runs : (form : Form) (last : Option Rdf) (n count : ℕ) → IsLastRun form last n count → 0 < count
    → (form ≡ Plain) × (last ≡ Some (run_rdf n count))
runs (Slots k) last n count last_run some = absurd (omega (arith, last_run, some))
runs Plain None n count last_run some = absurd (omega (arith, last_run, some))
runs Plain (Some (Single true m)) n count last_run some =
    let true_is : Single true m ≡ run_rdf n count = ap (λ (k : ℕ). Single true k) (sym last_run.1)
    ∙ sym (ap (λ (k : ℕ). run_rdf n k) last_run.0) in
    (refl, ap (λ (r : Rdf). Some r) true_is)
runs Plain (Some (Single false m)) n count last_run some = absurd (omega (arith, last_run, some))
runs Plain (Some (Run m k)) n count last_run some =
    let same : Run m k ≡ run_rdf n count = ap (λ (j : ℕ). Run j k) (sym last_run.1)
    ∙ ap (λ (j : ℕ). Run n j) (sym last_run.0)
    ∙ sym (run_is n count (omega (arith, last_run.0, last_run.2))) in
    (refl, ap (λ (r : Rdf). Some r) same)
runs Plain (Some (Segment piece mark number m)) n count last_run some = absurd last_run

pub run_marks : (n count : ℕ) → 0 < count
    → marks (run_rdf n count) ≡ replicate count (let m : Mark = record { live = true; len = n } in
    m)
run_marks n zero some = absurd (omega arith)
run_marks n (suc zero) some = refl
run_marks n (suc (suc k)) some = ap marks (run_is n (suc (suc k)) (omega arith))

pub run_length_is : (n count : ℕ) → 0 < count → run_length (run_rdf n count) ≡ Some n
run_length_is n zero some = absurd (omega arith)
run_length_is n (suc zero) some = refl
run_length_is n (suc (suc k)) some = ap run_length (run_is n (suc (suc k)) (omega arith))

pub run_count : (n count : ℕ) → 0 < count → IsRdf (run_rdf n count) → IsCount n
run_count n zero some valid = absurd (omega arith)
run_count n (suc zero) some valid = valid
run_count n (suc (suc k)) some valid = let is_rdf : IsRdf (Run n (suc (suc k))) =
    subst IsRdf (run_is n (suc (suc k)) (omega arith)) valid in is_rdf.0

pub longer_follows : (last : Option Rdf) (n count more : ℕ) → 0 < count
    → MayFollow Plain last (run_rdf n count) → MayFollow Plain last (Run n more)
longer_follows None n count more some follows = tt
longer_follows (Some b) n count more some follows = (
  tt,
  follows.1,
  tt,
  subst (λ (o : Option ℕ). AreApart Plain (run_length b) o)
      (run_length_is n count some) follows.3,
)
