-- The records that PRINT prints, as they are handed over one after another.
use Rattle.std.proofs.Common.{◌≡◌, ◌∙◌, ◌<◌, ◌≤◌, ◌-◌, ◌*◌, ℕ, zero, suc, Bool, true, false}
use Rattle.std.proofs.Common.{List, [], ◌∷◌, ◌++◌, length, take, drop, Option, None, refl, sym}
use Rattle.std.proofs.Common.{ap, subst, arith, append_assoc}
use Rattle.std.specs.Prelude.{◌^◌, cond, nat_lt, take_while}
use Rattle.std.specs.Global.{Global}
use Rattle.std.specs.List.{flat_map}
use Rattle.std.proofs.lemmas.Bool.Decides.{nat_tests}
use Rattle.std.proofs.lemmas.List.{append-nil, length-append, length-take, take_all}
use Rattle.std.proofs.lemmas.List.Sums.{take_while-cons}
use Rattle.vr_types.specs.declared.unit.Kind.{Kind}
use Rattle.vr_types.specs.declared.unit.Kind.TheVariants.{Keyed, Entry, Relative}
use Rattle.vr_amsparse.specs.declared.command.PrintCommand.{PrintCommand}
use Rattle.vr_amsparse.specs.declared.command.PrintForm.{PrintForm}
use Rattle.vr_amsparse.specs.declared.command.To.{To}
use Rattle.vr_amsparse.specs.declared.command.To.TheVariants as last
use Rattle.vr_trace.specs.Commands.{done}
use Rattle.vr_trace.specs.Visitors.{Visited, visited_by}
use Rattle.vr_trace.specs.declared.command.Outcome.{Outcome}
use Rattle.vr_ams_define.specs.declared.answer.ReadBack.TheVariants as reads
use Rattle.vr_ams_print.specs.Outcomes.{print_outcome}
use Rattle.vr_ams_print.specs.Printed.{ended_by, is_up_to, printed, skipped, text_of}
use Rattle.vr_ams_print.specs.Record.{printed_line}
use Rattle.vr_ams_print.specs.Steps.{after_record, is_done, is_within, last_key, most_of, started}
use Rattle.vr_ams_print.specs.declared.printing.Printing.{Printing}

-- ---- the visitor after records

-- where it takes no more
stays : (printing : Printing) (records : List Visited) → is_done printing ≡ true
    → visited_by after_record is_done records printing ≡ printing
stays printing [] over = refl
stays printing (one ∷ others) over = rw over refl

-- where it takes more
goes-on : (printing : Printing) (one : Visited) (others : List Visited) → is_done printing ≡ false
    → visited_by after_record is_done (one ∷ others) printing
    ≡ visited_by after_record is_done others (after_record printing one.0 one.1)
goes-on printing one others more = rw more refl

module _ (kind : Kind) (form : PrintForm) (until : Option (List ℕ)) (alloc : Global) where
  abbrev At : Bool → ℕ → ℕ → List ℕ → Printing
  At over skip left lines = record {
    kind = kind;
    form = form;
    skip = skip;
    left = left;
    last = until;
    over = over;
    lines = lines;
    alloc = alloc;
  }

  abbrev After : List Visited → Printing → Printing
  After records printing = visited_by after_record is_done records printing

  abbrev Texts : List Visited → List ℕ
  Texts records = flat_map (text_of kind form) records

  -- those that are printed
  abbrev Chosen : ℕ → ℕ → List Visited → List Visited
  Chosen skip left records = take left (take_while (is_within until) (drop skip records))

  -- It has printed these, and as many fewer are left.
  pub record IsPast (printing : Printing) (left : ℕ) (lines : List ℕ) (records : List Visited)
      : Type 0 where
    pub lines_are : printing.lines ≡ lines ++ Texts records
    pub left_is : printing.left ≡ left - length records

  past-none : (over : Bool) (skip left : ℕ) (lines : List ℕ)
      → IsPast (At over skip left lines) left lines []
  past-none over skip left lines = record {
    lines_are = sym (append-nil lines);
    left_is = omega arith;
  }

  more-left : (skip left : ℕ) (lines : List ℕ)
      → is_done (At false skip (suc left) lines) ≡ false
  more-left skip left lines = grind (arith, nat_tests)

  skip-one : (skip left : ℕ) (lines : List ℕ) (one : Visited)
      → after_record (At false (suc skip) (suc left) lines) one.0 one.1
      ≡ At false skip (suc left) lines
  skip-one skip left lines one =
      let some : nat_lt 0 (suc skip) ≡ true = grind (arith, nat_tests) in
      let less : suc skip - 1 ≡ skip = omega arith in rw (some, less) refl

  print-one : (left : ℕ) (lines : List ℕ) (one : Visited) → is_within until one ≡ true
      → after_record (At false 0 (suc left) lines) one.0 one.1
      ≡ At false 0 left (lines ++ text_of kind form one)
  print-one left lines one within =
      let less : suc left - 1 ≡ left = omega arith in rw (within, less) refl

  end-one : (left : ℕ) (lines : List ℕ) (one : Visited) → is_within until one ≡ false
      → after_record (At false 0 (suc left) lines) one.0 one.1 ≡ At true 0 (suc left) lines
  end-one left lines one past = rw past refl

  past-more : (printing : Printing) (left : ℕ) (lines : List ℕ) (one : Visited)
      (records : List Visited) → IsPast printing left (lines ++ text_of kind form one) records
      → IsPast printing (suc left) lines (one ∷ records)
  past-more printing left lines one records past = record {
    lines_are = past.lines_are
        ∙ append_assoc lines (text_of kind form one) (flat_map (text_of kind form) records);
    left_is = past.left_is ∙ (omega arith);
  }

  past-one : (others : List Visited) (left : ℕ) (lines : List ℕ) (one : Visited)
      → IsPast (After others (At false 0 left (lines ++ text_of kind form one))) left
      (lines ++ text_of kind form one) (Chosen 0 left others)
      → IsPast (After others (after_record (At false 0 (suc left) lines) one.0 one.1))
      (suc left) lines (take (suc left) (take_while (is_within until) (one ∷ others)))
  past-one others left lines one more = by (is_within until one) refl
    where
      rest : List Visited
      rest = take_while (is_within until) others

      chosen-so : (passes : Bool) → is_within until one ≡ passes
          → cond passes (one ∷ rest) [] ≡ take_while (is_within until) (one ∷ others)
      chosen-so passes is = sym (take_while-cons (is_within until) one others
          ∙ ap (λ (it : Bool). cond it (one ∷ rest) []) is)

      -- from here on these are printed
      Come : Printing → List Visited → Type 0
      Come printing them = IsPast (After others printing) (suc left) lines (take (suc left) them)

      by : (passes : Bool) → is_within until one ≡ passes
          → Come (after_record (At false 0 (suc left) lines) one.0 one.1)
          (take_while (is_within until) (one ∷ others))
      by true is =
          subst (λ (printing : Printing).
          Come printing (take_while (is_within until) (one ∷ others)))
          (sym (print-one left lines one is))
          (subst (λ (them : List Visited).
          Come (At false 0 left (lines ++ text_of kind form one)) them) (chosen-so true is)
          (past-more (After others (At false 0 left (lines ++ text_of kind form one))) left lines
          one (take left rest) more))
      by false is =
          subst (λ (printing : Printing).
          Come printing (take_while (is_within until) (one ∷ others)))
          (sym (end-one left lines one is))
          (subst (λ (them : List Visited). Come (At true 0 (suc left) lines) them)
          (chosen-so false is)
          (subst (λ (printing : Printing). IsPast printing (suc left) lines [])
          (sym (stays (At true 0 (suc left) lines) others refl))
          (past-none true 0 (suc left) lines)))

  pub past-all : (records : List Visited) (skip left : ℕ) (lines : List ℕ)
      → IsPast (After records (At false skip left lines)) left lines (Chosen skip left records)
  past-all records skip zero lines =
      subst (λ (printing : Printing). IsPast printing 0 lines [])
      (sym (stays (At false skip 0 lines) records refl)) (past-none false skip 0 lines)
  past-all [] zero (suc left) lines = past-none false 0 (suc left) lines
  past-all [] (suc skip) (suc left) lines = past-none false (suc skip) (suc left) lines
  past-all (one ∷ others) (suc skip) (suc left) lines =
      subst (λ (printing : Printing).
      IsPast printing (suc left) lines (Chosen skip (suc left) others))
      (sym (goes-on (At false (suc skip) (suc left) lines) one others
      (more-left (suc skip) left lines)
      ∙ ap (λ (printing : Printing). After others printing) (skip-one skip left lines one)))
      (past-all others skip (suc left) lines)
  past-all (one ∷ others) zero (suc left) lines =
      subst (λ (printing : Printing). IsPast printing (suc left) lines
      (take (suc left) (take_while (is_within until) (one ∷ others))))
      (sym (goes-on (At false 0 (suc left) lines) one others (more-left 0 left lines)))
      (past-one others left lines one (past-all others 0 left (lines ++ text_of kind form one)))

-- ---- those that are printed

-- the text of a record has its place in it
text-some : (kind : Kind) (form : PrintForm) (one : Visited) → 2 ≤ length (text_of kind form one)
text-some Keyed form one = omega arith
text-some Entry form one = omega arith
text-some Relative form one = omega arith

texts-more : (kind : Kind) (form : PrintForm) (records : List Visited)
    → 2 * length records ≤ length (flat_map (text_of kind form) records)
texts-more kind form [] = omega arith
texts-more kind form (one ∷ others) = omega (
  arith,
  text-some kind form one,
  texts-more kind form others,
  length-append (text_of kind form one) (flat_map (text_of kind form) others),
)

-- all of them are
within-all : (records : List Visited) → take_while (is_within None) records ≡ records
within-all [] = refl
within-all (one ∷ others) = take_while-cons (is_within None) one others
    ∙ ap (λ (them : List Visited). one ∷ them) (within-all others)

-- where there is room for no more lines than a number of 64 bits says, none is left out
none-out : (kind : Kind) (form : PrintForm) (records : List Visited)
    → length (flat_map (text_of kind form) (take (2 ^ 64 - 1) records)) < 2 ^ 64
    → take (2 ^ 64 - 1) records ≡ records
none-out kind form records few = take_all (2 ^ 64 - 1) records (omega (
  arith,
  few,
  texts-more kind form (take (2 ^ 64 - 1) records),
  length-take (2 ^ 64 - 1) records,
))

chosen-is : (kind : Kind) (form : PrintForm) (to : To) (records : List Visited)
    → length (flat_map (text_of kind form)
    (take (most_of to) (take_while (is_within (last_key to)) records))) < 2 ^ 64
    → take (most_of to) (take_while (is_within (last_key to)) records) ≡ ended_by to records
chosen-is kind form last.End records few =
    none-out kind form (take_while (is_within None) records) few ∙ within-all records
chosen-is kind form (last.Key key) records few =
    none-out kind form (take_while (is_up_to key) records) few
chosen-is kind form (last.Count count) records few =
    ap (λ (them : List Visited). take count them) (within-all records)

-- the outcome of a PRINT, by what the visitor has
pub print-is : (alloc : Global) (kind : Kind) (command : PrintCommand) (records : List Visited)
    (printing : Printing) (outcome : Outcome)
    → printing ≡ visited_by after_record is_done records (started alloc kind command)
    → length printing.lines < 2 ^ 64
    → outcome ≡ done (printing.lines ++ printed_line (most_of command.to - printing.left))
    → outcome ≡ print_outcome reads.Done kind command records
print-is alloc kind command records printing outcome visited few is = is
    ∙ ap (λ (lines : List ℕ). done (lines ++ printed_line (most - printing.left))) past.lines_are
    ∙ ap (λ (count : ℕ). done (texts chosen ++ printed_line count)) counted
    ∙ ap (λ (them : List Visited). done (texts them ++ printed_line (length them))) chosen-so
  where
    most : ℕ
    most = most_of command.to

    texts : List Visited → List ℕ
    texts them = flat_map (text_of kind command.form) them

    chosen : List Visited
    chosen = Chosen kind command.form (last_key command.to) alloc (skipped command.from) most
        records

    past : IsPast kind command.form (last_key command.to) alloc printing most [] chosen
    past = subst (λ (it : Printing).
        IsPast kind command.form (last_key command.to) alloc it most [] chosen) (sym visited)
        (past-all kind command.form (last_key command.to) alloc records (skipped command.from) most
        [])

    counted : most - printing.left ≡ length chosen
    counted = omega (
      arith,
      past.left_is,
      length-take most (take_while (is_within (last_key command.to))
          (drop (skipped command.from) records)),
    )

    chosen-so : chosen ≡ printed command.from command.to records
    chosen-so = chosen-is kind command.form command.to (drop (skipped command.from) records)
        (subst (λ (lines : List ℕ). length lines < 2 ^ 64) past.lines_are few)
