-- What callers know of catalog records.
use Rattle.std.proofs.Common.{◌≡◌, ◌∙◌, ℕ, Bool, true, false, List, refl, sym, ap, subst}
use Rattle.std.specs.Prelude.{Some, None, ◌&&◌, bytes_eq, unwrap_or, if◌then◌else◌}
use Rattle.std.proofs.lemmas.Slice.Eq.{bytes_eq-Decides}
use Rattle.vr_catalog.specs.declared.entry.CatEntry.{CatEntry}
use Rattle.vr_catalog.specs.Entry.{is_entry}
use Rattle.vr_catalog.specs.Record.{IsCatalogRecord, spelling, entry_in, entry_of}
use Rattle.vr_catalog.proofs.EntryRead.{entry_read}

some_if : (first second : Bool) (one other : CatEntry)
    → (if first && second then Some one else None) ≡ Some other
    → (first ≡ true) × (second ≡ true) × (one ≡ other)
some_if true true one other same = (refl, refl, ap (λ o. unwrap_or o one) same)
some_if true false one other same = absurd (cc)
some_if false second one other same = absurd (cc)

if_both : (first second : Bool) (entry : CatEntry) → first ≡ true → second ≡ true
    → (if first && second then Some entry else None) ≡ Some entry
if_both first second entry one other = rw (one, other) refl

-- the entry that bytes spell has them as its record
pub spelled_by : (bytes : List ℕ) (entry : CatEntry) → entry_of bytes ≡ Some entry
    → IsCatalogRecord bytes entry
unfolding entry_of
spelled_by bytes entry spelled =
    let parts = some_if (is_entry (entry_in bytes)) (bytes_eq (spelling (entry_in bytes)) bytes)
    (entry_in bytes) entry spelled in
    let same : entry_in bytes ≡ entry = parts.2 in
    record {
      entry_is = subst (λ one. is_entry one ≡ true) same parts.0;
      spelled = sym ((bytes_eq-Decides (spelling (entry_in bytes)) bytes).0 parts.1)
          ∙ ap spelling same;
    }

-- and the record of an entry spells it
pub spells : (bytes : List ℕ) (entry : CatEntry) → IsCatalogRecord bytes entry
    → entry_of bytes ≡ Some entry
unfolding entry_of
spells bytes entry is =
    let back : entry_in bytes ≡ entry = ap entry_in is.spelled ∙ entry_read entry is.entry_is in
    let named : is_entry (entry_in bytes) ≡ true =
    subst (λ one. is_entry one ≡ true) (sym back) is.entry_is in
    let same : bytes_eq (spelling (entry_in bytes)) bytes ≡ true =
    (bytes_eq-Decides (spelling (entry_in bytes)) bytes).1
    (ap spelling back ∙ sym is.spelled) in
    if_both (is_entry (entry_in bytes)) (bytes_eq (spelling (entry_in bytes)) bytes)
    (entry_in bytes) named same ∙ ap Some back

-- bytes are the record of one entry at most
pub one_spelled : (bytes : List ℕ) (one other : CatEntry) → IsCatalogRecord bytes one
    → IsCatalogRecord bytes other → one ≡ other
one_spelled bytes one other first second =
    sym (entry_read one first.entry_is) ∙ ap entry_in (sym first.spelled ∙ second.spelled)
    ∙ entry_read other second.entry_is
