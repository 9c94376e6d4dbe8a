-- The entries that the records of a content spell.
use Rattle.std.proofs.Common.{◌≡◌, ◌∙◌, ℕ, ◌+◌, ◌<◌, Bool, true, false, List, [], ◌∷◌, ◌++◌, length}
use Rattle.std.proofs.Common.{get_or, take, refl, sym, ap, subst, Option, Some}
use Rattle.std.specs.Prelude.{is_some, All}
use Rattle.std.specs.List.{filter_map, cons_option}
use Rattle.std.proofs.lemmas.Grind.{take_at_read}
use Rattle.std.proofs.lemmas.List.Elements.{All-push}
use Rattle.vr_types.specs.Content.{Content, records_of}
use Rattle.vr_types.specs.Content.Item.{Standing, Withdrawn}
use Rattle.vr_types.specs.declared.geometry.Geometry.{Geometry}
use Rattle.vr_catalog.specs.Catalog.{entries_in}
use Rattle.vr_catalog.specs.Record.{entry_of}
use Rattle.vr_catalog.specs.declared.entry.CatEntry.{CatEntry}
use Rattle.vr_attach.specs.CatalogRules.{IsCatalog}
use Rattle.vr_mount.specs.Records.{AreRules, AreSpelled, IsAdded, IsDecided, bytes_of}
use Rattle.vr_mount.specs.Records.{SpellsEntry}
use Rattle.vr_mount.proofs.Telling.{all_mapped, mapped_all, filter_map_more}

spelled_more : (records : List (List ℕ)) (entries : List CatEntry) (i : ℕ) (d : List ℕ)
    (entry : CatEntry) → i < length records → AreSpelled (take i records) entries
    → entry_of (get_or records i d) ≡ Some entry
    → AreSpelled (take (i + 1) records) (entries ++ entry ∷ [])
spelled_more records entries i d entry within spelled is =
    record {
      each = subst (All SpellsEntry) (sym (take_at_read records i d within).1)
          (All-push SpellsEntry (take i records) (get_or records i d) spelled.each
          (ap (λ (o : Option CatEntry). is_some o) is));
      entries_are = ap (λ (es : List CatEntry). es ++ entry ∷ []) spelled.entries_are
          ∙ sym (filter_map_more entry_of records i d entry within is);
    }

-- one more record spells an entry, which was added
pub spelled_added : (records : List (List ℕ)) (old new : List CatEntry) (i : ℕ)
    (d bytes : List ℕ) (b : Bool) → i < length records → bytes ≡ get_or records i d
    → AreSpelled (take i records) old → IsAdded bytes old new b → b ≡ true
    → AreSpelled (take (i + 1) records) new
spelled_added records old new i d bytes true within here spelled added is =
    subst (AreSpelled (take (i + 1) records)) (sym added.2)
    (spelled_more records old i d added.0 within spelled
    (ap entry_of (sym here) ∙ added.1))
spelled_added records old new i d bytes false within here spelled added is = absurd cc

-- the entries of a content are those of its records
pub entries_are : (content : Content) → entries_in content ≡ filter_map entry_of (bytes_of content)
entries_are [] = refl
entries_are ((place, Standing bytes) ∷ content) =
    ap (λ (rest : List CatEntry). cons_option (entry_of bytes) rest) (entries_are content)
entries_are ((place, Withdrawn length) ∷ content) = entries_are content

-- where the records spell these entries
pub entries_of_spelled : (records : List (List ℕ)) (entries : List CatEntry) (content : Content)
    → AreSpelled records entries → bytes_of content ≡ records → entries ≡ entries_in content
entries_of_spelled records entries content spelled same =
    spelled.entries_are
    ∙ sym (entries_are content ∙ ap (λ (bytes : List (List ℕ)). filter_map entry_of bytes) same)

-- a catalog's records spell entries
pub catalog_spells : (geometry : Geometry) (records : List (List ℕ)) (content : Content)
    → bytes_of content ≡ records → IsCatalog geometry content → All SpellsEntry records
catalog_spells geometry records content same is =
    subst (All SpellsEntry) same
    (all_mapped (λ (placed : List ℕ × List ℕ). placed.1) SpellsEntry (records_of content) is.spelled)

rules_of : (geometry : Geometry) (content : Content) → IsCatalog geometry content
    → AreRules geometry (entries_in content)
rules_of geometry content is = record { parts = is.parts; entries_keep = is.entries }

made : (geometry : Geometry) (records : List (List ℕ)) (content : Content)
    → bytes_of content ≡ records → All SpellsEntry records
    → AreRules geometry (entries_in content) → IsCatalog geometry content
made geometry records content same each rules =
    record {
      spelled = mapped_all (λ (placed : List ℕ × List ℕ). placed.1) SpellsEntry
          (records_of content) (subst (All SpellsEntry) (sym same) each);
      parts = rules.parts;
      entries = rules.entries_keep;
    }

-- the rules decide where the records spell entries
pub decided : (geometry : Geometry) (records : List (List ℕ)) (entries : List CatEntry) (b : Bool)
    → ((b ≡ true → AreRules geometry entries) × (AreRules geometry entries → b ≡ true))
    → AreSpelled records entries → IsDecided geometry records entries b
decided geometry records entries true rules spelled = λ content same.
    let are : entries ≡ entries_in content =
    entries_of_spelled records entries content spelled same in
    record {
      entries_are = are;
      rules = made geometry records content same spelled.each
          (subst (AreRules geometry) are (rules.0 refl));
    }
decided geometry records entries false rules spelled = λ content same is.
    let are : entries ≡ entries_in content =
    entries_of_spelled records entries content spelled same in
    absurd (cc (rules.1 (subst (AreRules geometry) (sym are) (rules_of geometry content is))))

-- what was decided, as callers want it
pub decided_entries : (geometry : Geometry) (records : List (List ℕ)) (entries : List CatEntry)
    (b : Bool) (content : Content) → IsDecided geometry records entries b → b ≡ true
    → bytes_of content ≡ records → entries ≡ entries_in content
decided_entries geometry records entries true content is told same = (is content same).entries_are
decided_entries geometry records entries false content is told same = absurd cc

pub decided_catalog : (geometry : Geometry) (records : List (List ℕ)) (entries : List CatEntry)
    (b : Bool) (content : Content) → IsDecided geometry records entries b → b ≡ true
    → bytes_of content ≡ records → IsCatalog geometry content
decided_catalog geometry records entries true content is told same = (is content same).rules
decided_catalog geometry records entries false content is told same = absurd cc

pub decided_damaged : (geometry : Geometry) (records : List (List ℕ)) (entries : List CatEntry)
    (b : Bool) (content : Content) → IsDecided geometry records entries b → b ≡ false
    → bytes_of content ≡ records → IsCatalog geometry content → ⊥
decided_damaged geometry records entries true content is told same catalog = absurd cc
decided_damaged geometry records entries false content is told same catalog =
    is content same catalog

pub ruleset decisions = (decided_entries, decided_catalog, decided_damaged)
