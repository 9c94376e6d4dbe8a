-- A record that was read may be written again, an entry at a time.
use Rattle.std.proofs.Common.{◌≡◌, ℕ, ◌+◌, ◌<◌, List, [], length, take, drop, sym, ap, subst, ◌∙◌}
use Rattle.std.proofs.lemmas.List.{take-append-drop, take_more}
use Rattle.vr_seqset.specs.Entry.{Entry}
use Rattle.vr_seqset.specs.SequenceSet.{SequenceSet, KeepsRules, IsSequenceSet}
use Rattle.vr_seqset.specs.Reading.{entry_of}
use Rattle.vr_seqset.specs.Writing.{with_entry}
use Rattle.vr_seqset.proofs.PrefixLemmas.{earlier_keep}

first_keep : (cis : ℕ) (block : List ℕ) (s : SequenceSet) (i : ℕ) → IsSequenceSet cis block s
    → KeepsRules cis (length block) (record s { entries = take i s.entries })
first_keep cis block s i is =
    earlier_keep cis (length block) s (take i s.entries) (drop i s.entries)
    (subst (λ (es : List Entry). KeepsRules cis (length block) (record s { entries = es }))
    (sym (take-append-drop i s.entries)) is.rules)

pub begun_keeps : (cis size : ℕ) (block : List ℕ) (s t : SequenceSet) → IsSequenceSet cis block s
    → size ≡ length block → t ≡ record s { entries = [] } → KeepsRules cis size t
begun_keeps cis size block s t is size-is t-is =
    subst (λ (n : ℕ). KeepsRules cis n t) (sym size-is)
    (subst (KeepsRules cis (length block)) (sym t-is) (first_keep cis block s 0 is))

pub added_keeps : (cis others size : ℕ) (block : List ℕ) (s w : SequenceSet) (i : ℕ)
    (intervals high : List ℕ) → IsSequenceSet cis block s → i < length s.entries → others ≡ cis
    → size ≡ length block
    → w ≡ record s { entries = take i s.entries } → intervals ≡ (entry_of s i).intervals
    → high ≡ (entry_of s i).high → KeepsRules others size (with_entry w intervals high)
added_keeps cis others size block s w i intervals high is lt others-is size-is w-is intervals-is
    high-is =
    let none : Entry = record { intervals = []; high = [] } in
    let e : Entry = entry_of s i in
    let same : with_entry w intervals high ≡ record s { entries = take (i + 1) s.entries } =
    ap (λ (t : SequenceSet). with_entry t intervals high) w-is
    ∙ ap (λ (ns : List ℕ). with_entry (record s { entries = take i s.entries }) ns high)
    intervals-is
    ∙ ap (λ (h : List ℕ). with_entry (record s { entries = take i s.entries }) e.intervals h)
    high-is
    ∙ ap (λ (es : List Entry). record s { entries = es }) (sym (take_more s.entries i none lt)) in
    subst (λ (n : ℕ). KeepsRules n size (with_entry w intervals high)) (sym others-is)
    (subst (λ (n : ℕ). KeepsRules cis n (with_entry w intervals high)) (sym size-is)
    (subst (KeepsRules cis (length block)) (sym same) (first_keep cis block s (i + 1) is)))
