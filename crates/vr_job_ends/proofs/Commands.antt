-- What is computed of words is what they ask for: each way for three words and for seven.
use Rattle.std.proofs.Common.{◌≡◌, ℕ, Bool, true, false, ◌&&◌, List, [], ◌∷◌, codes, bytes_eq}
use Rattle.std.proofs.Common.{Option, Some, None, refl, ap, subst, inl, inr, if◌then◌else◌}
use Rattle.std.proofs.lemmas.Bool.{and_from, and_parts, cond-true}
use Rattle.std.proofs.lemmas.Option.{same_Some}
use Rattle.std.proofs.lemmas.Slice.Eq.{bytes_eq-Decides}
use Rattle.vr_text.specs.Number.{number_of}
use Rattle.vr_job_ends.specs.Asked.{Asked, Run, Format}
use Rattle.vr_job_ends.specs.Command.{Asks, IsNameOrDash, IsFormat, IsRun}
use Rattle.vr_job_ends.specs.Command.{default_format, run_by, by_three, by_seven}
use Rattle.vr_job_ends.specs.Words.{is_name, is_name_or_dash, is_numeral, is_count}
use Rattle.vr_job_ends.proofs.Numerals.{name_from, name_or_dash_from, name_or_dash_back, count_from}
use Rattle.vr_job_ends.proofs.Numerals.{writes_from}

-- where a choice is some value, its condition holds
chosen : {X : Type 0} (b : Bool) (o : Option X) (y : X) → (if b then o else None) ≡ Some y
    → (b ≡ true) × (o ≡ Some y)
chosen true o y e = (refl, e)
chosen false o y e = let none : None ≡ Some y = e in absurd cc

asks_default : (verb dir count : List ℕ) (asked : Asked) → verb ≡ codes "format"
    → default_format dir count ≡ Some asked
    → Asks (verb ∷ dir ∷ count ∷ []) asked
asks_default verb dir count asked verb_is e =
    let given = chosen _ _ _ e in
    let parts = and_parts _ _ given.0 in
    let number = count_from count parts.1 in
    let format : IsFormat (verb ∷ dir ∷ count ∷ []) dir (number_of count) 4096 2048 64 15 = record {
      count_word = count;
      numbers = [];
      words_are = ap (λ (v : List ℕ). v ∷ dir ∷ count ∷ []) verb_is;
      dir_is = name_from dir parts.0;
      count_is = number.0;
      some = number.1;
      few = number.2;
      numbers_are = inl (record {
        no_words = refl;
        size_is = refl;
        blocks_is = refl;
        log_is = refl;
        area_is = refl;
      });
    } in
    subst (λ (a : Asked). Asks (verb ∷ dir ∷ count ∷ []) a) (same_Some _ _ given.1) format

asks_run : (verb job dir : List ℕ) (asked : Asked) (runs traces : Bool)
    → bytes_eq verb (codes "run") ≡ runs → bytes_eq verb (codes "trace") ≡ traces
    → IsNameOrDash job → IsNameOrDash dir
    → (if runs then Some (Run job dir false) else (if traces then Some (Run job dir true) else None))
    ≡ Some asked
    → Asks (verb ∷ job ∷ dir ∷ []) asked
asks_run verb job dir asked true traces run_is trace_is job_is dir_is e =
    let run : IsRun (verb ∷ job ∷ dir ∷ []) (codes "run") job dir = record {
      words_are = ap (λ (v : List ℕ). v ∷ job ∷ dir ∷ []) ((bytes_eq-Decides _ _).0 run_is);
      job_is = job_is;
      dir_is = dir_is;
    } in
    subst (λ (a : Asked). Asks (verb ∷ job ∷ dir ∷ []) a) (same_Some _ _ e) run
asks_run verb job dir asked false true run_is trace_is job_is dir_is e =
    let run : IsRun (verb ∷ job ∷ dir ∷ []) (codes "trace") job dir = record {
      words_are = ap (λ (v : List ℕ). v ∷ job ∷ dir ∷ []) ((bytes_eq-Decides _ _).0 trace_is);
      job_is = job_is;
      dir_is = dir_is;
    } in
    subst (λ (a : Asked). Asks (verb ∷ job ∷ dir ∷ []) a) (same_Some _ _ e) run
asks_run verb job dir asked false false run_is trace_is job_is dir_is e =
    let none : None ≡ Some asked = e in absurd cc

asks_by : (verb first second : List ℕ) (asked : Asked) (formats : Bool)
    → bytes_eq verb (codes "format") ≡ formats
    → (if formats then default_format first second else (if is_name_or_dash first
    && is_name_or_dash second then run_by verb first second else None)) ≡ Some asked
    → Asks (verb ∷ first ∷ second ∷ []) asked
asks_by verb first second asked true format_is e =
    asks_default verb first second asked ((bytes_eq-Decides _ _).0 format_is) e
asks_by verb first second asked false format_is e =
    let given = chosen _ _ _ e in
    let parts = and_parts _ _ given.0 in
    asks_run verb first second asked _ _ refl refl (name_or_dash_from first parts.0)
    (name_or_dash_from second parts.1) given.1

pub three_ask : (verb first second : List ℕ) (asked : Asked)
    → by_three verb first second ≡ Some asked → Asks (verb ∷ first ∷ second ∷ []) asked
three_ask verb first second asked e = asks_by verb first second asked _ refl e

pub seven_ask : (verb dir count size blocks log area : List ℕ) (asked : Asked)
    → by_seven verb dir count size blocks log area ≡ Some asked
    → Asks (verb ∷ dir ∷ count ∷ size ∷ blocks ∷ log ∷ area ∷ []) asked
seven_ask verb dir count size blocks log area asked e =
    let given = chosen _ _ _ e in
    let area_part = and_parts _ _ given.0 in
    let log_part = and_parts _ _ area_part.0 in
    let blocks_part = and_parts _ _ log_part.0 in
    let size_part = and_parts _ _ blocks_part.0 in
    let count_part = and_parts _ _ size_part.0 in
    let dir_part = and_parts _ _ count_part.0 in
    let number = count_from count count_part.1 in
    let format : IsFormat (verb ∷ dir ∷ count ∷ size ∷ blocks ∷ log ∷ area ∷ []) dir
    (number_of count) (number_of size) (number_of blocks) (number_of log) (number_of area) =
    record {
      count_word = count;
      numbers = size ∷ blocks ∷ log ∷ area ∷ [];
      words_are = ap (λ (v : List ℕ). v ∷ dir ∷ count ∷ size ∷ blocks ∷ log ∷ area ∷ [])
          ((bytes_eq-Decides _ _).0 dir_part.0);
      dir_is = name_from dir dir_part.1;
      count_is = number.0;
      some = number.1;
      few = number.2;
      numbers_are = inr (record {
        size_word = size;
        blocks_word = blocks;
        log_word = log;
        area_word = area;
        words_are = refl;
        size_is = writes_from size size_part.1;
        blocks_is = writes_from blocks blocks_part.1;
        log_is = writes_from log log_part.1;
        area_is = writes_from area area_part.1;
      });
    } in
    subst (λ (a : Asked). Asks (verb ∷ dir ∷ count ∷ size ∷ blocks ∷ log ∷ area ∷ []) a)
    (same_Some _ _ given.1) format

pub run_back : (job dir : List ℕ) → IsNameOrDash job → IsNameOrDash dir
    → by_three (codes "run") job dir ≡ Some (Run job dir false)
run_back job dir job_is dir_is =
    cond-true _ _ _ (and_from _ _ (name_or_dash_back job job_is) (name_or_dash_back dir dir_is))

pub trace_back : (job dir : List ℕ) → IsNameOrDash job → IsNameOrDash dir
    → by_three (codes "trace") job dir ≡ Some (Run job dir true)
trace_back job dir job_is dir_is =
    cond-true _ _ _ (and_from _ _ (name_or_dash_back job job_is) (name_or_dash_back dir dir_is))

pub default_back : (dir count : List ℕ) → is_name dir ≡ true → is_count count ≡ true
    → by_three (codes "format") dir count ≡ Some (Format dir (number_of count) 4096 2048 64 15)
default_back dir count dir_is count_is = cond-true _ _ _ (and_from _ _ dir_is count_is)

pub given_back : (dir count size blocks log area : List ℕ) → is_name dir ≡ true
    → is_count count ≡ true → is_numeral size ≡ true → is_numeral blocks ≡ true
    → is_numeral log ≡ true → is_numeral area ≡ true
    → by_seven (codes "format") dir count size blocks log area
    ≡ Some (Format dir (number_of count) (number_of size) (number_of blocks) (number_of log)
    (number_of area))
given_back dir count size blocks log area dir_is count_is size_is blocks_is log_is area_is =
    cond-true _ _ _ (and_from _ _ (and_from _ _ (and_from _ _ (and_from _ _ (and_from _ _
    (and_from _ _ refl dir_is) count_is) size_is) blocks_is) log_is) area_is)
