-- The entries of volumes, one volume after another.
use Rattle.std.proofs.Common.{◌≡◌, ℕ, ◌+◌, ◌<◌, List, [], ◌∷◌, ◌++◌, map, length, take, get_or}
use Rattle.std.proofs.Common.{refl, sym, ap, ◌∙◌, append_assoc, arith}
use Rattle.std.proofs.lemmas.List.{take_more, append-nil, length-take}
use Rattle.vr_history.specs.declared.entry.Entry.{Entry}
use Rattle.vr_history.specs.Kept.{Kept}
use Rattle.vr_history.specs.Merged.{numbered_from}
use Rattle.vr_trace.specs.Numbering.{with_volume}
use Rattle.vr_trace.specs.Volumes.{entries_of}

-- one volume more
numbered-append : (volume : ℕ) (histories : List (List Entry)) (entries : List Entry)
    → numbered_from volume (histories ++ entries ∷ [])
    ≡ numbered_from volume histories ++ map (with_volume (volume + length histories)) entries
numbered-append volume [] entries =
    append-nil (map (with_volume volume) entries)
    ∙ ap (λ v. map (with_volume v) entries) (omega arith)
numbered-append volume (first ∷ histories) entries =
    ap (λ l. map (with_volume volume) first ++ l) (numbered-append (volume + 1) histories entries)
    ∙ sym (append_assoc (map (with_volume volume) first) (numbered_from (volume + 1) histories)
    (map (with_volume (volume + 1 + length histories)) entries))
    ∙ ap (λ v. (map (with_volume volume) first ++ numbered_from (volume + 1) histories)
    ++ map (with_volume v) entries) (omega arith)

entries_of-append : (histories : List Kept) (history : Kept)
    → entries_of (histories ++ history ∷ []) ≡ entries_of histories ++ history.entries ∷ []
entries_of-append [] history = refl
entries_of-append (first ∷ histories) history =
    ap (λ l. first.entries ∷ l) (entries_of-append histories history)

entries_of-length : (histories : List Kept) → length (entries_of histories) ≡ length histories
entries_of-length [] = refl
entries_of-length (first ∷ histories) = let rest = entries_of-length histories in omega arith

pub numbered_from-take : (histories : List Kept) (i : ℕ) (history : Kept) → i < length histories
    → history ≡ get_or histories i history
    → numbered_from 0 (entries_of (take i histories)) ++ map (with_volume i) history.entries
    ≡ numbered_from 0 (entries_of (take (i + 1) histories))
numbered_from-take histories i history inside at =
    let prefix : take (i + 1) histories ≡ take i histories ++ history ∷ [] =
    take_more histories i history inside ∙ ap (λ h. take i histories ++ h ∷ []) (sym at) in
    let count : 0 + length (entries_of (take i histories)) ≡ i =
    let mapped = entries_of-length (take i histories) in
    let long = length-take i histories in omega arith in
    sym (ap (λ l. numbered_from 0 (entries_of l)) prefix
    ∙ ap (λ l. numbered_from 0 l) (entries_of-append (take i histories) history)
    ∙ numbered-append 0 (entries_of (take i histories)) history.entries
    ∙ ap (λ v. numbered_from 0 (entries_of (take i histories))
    ++ map (with_volume v) history.entries) count)
