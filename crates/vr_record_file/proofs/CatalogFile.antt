-- What a request of the utilities on a file of the catalog itself finds, whichever request it is.
use Rattle.std.proofs.Common.{◌≡◌, ℕ, ◌==◌, ◌&&◌, ◌||◌, Bool, true, cond, not, List, ◌∷◌, Option}
use Rattle.std.proofs.Common.{Some, None, ap, ◌∙◌}
use Rattle.std.specs.List.{list_any}
use Rattle.std.specs.Option.{is_none, option_and_then, option_map_or}
use Rattle.vr_catalog.specs.Catalog.{definition_of}
use Rattle.vr_catalog.specs.Definition.{catalog_definition}
use Rattle.vr_types.specs.declared.reply.Refusal.{Refusal}
use Rattle.vr_types.specs.declared.reply.Refusal.TheVariants.{NoFile}
use Rattle.vr_types.specs.declared.request.FileRef.{FileRef}
use Rattle.vr_types.specs.declared.unit.PartNo.{PartNo}
use Rattle.vr_history.specs.Case.{Case, file_of}
use Rattle.vr_history.specs.Opened.{Cluster, Opened, Unknown, by_name, catalog_of, opened}
use Rattle.vr_history.specs.Opened.{opened_base, opened_file}
use Rattle.vr_history.specs.RefusedFile.{changed_catalog, is_catalog_changing, is_unknown, no_file}
use Rattle.vr_history.specs.RefusedFile.{refused_if}
use Rattle.vr_history.specs.Replies.{first_of}

-- a refusal that isn't there is passed over
pub passed : (o : Option Refusal) (rest : List (Option Refusal)) → o ≡ None
    → first_of (o ∷ rest) ≡ first_of rest
passed o rest none = ap (λ (first : Option Refusal). first_of (first ∷ rest)) none

module _ (case : Case) (on : FileRef) (file : file_of case.request ≡ Some on) where
  -- its file is on the catalog itself,
  pub catalog_opened : on.known ≡ true → on.base.0 ≡ 0 → on.path ≡ None
      → opened case ≡ Cluster catalog_definition
  catalog_opened known on_catalog no_path =
      ap (λ (o : Option FileRef). option_map_or (opened_file case.state) o Unknown) file
      ∙ ap (λ (b : Bool). cond b (opened_base case.state on
      (definition_of (catalog_of case.state) on.base.0)) Unknown) known
      ∙ ap (λ (n : ℕ). opened_base case.state on (definition_of (catalog_of case.state) n))
      on_catalog
      ∙ ap (λ (o : Option PartNo). by_name case.state on.base.0 o catalog_definition) no_path

  -- which can be opened
  pub catalog_known : opened case ≡ Cluster catalog_definition → case.unit.deck ≡ 0
      → no_file case ≡ None
  catalog_known on_catalog utility =
      ap (λ (o : Option FileRef). option_and_then (λ this. refused_if (is_unknown (opened case)
      || is_catalog_changing case) NoFile) o) file
      ∙ ap (λ (o : Opened). refused_if (is_unknown o || is_catalog_changing case) NoFile) on_catalog
      ∙ ap (λ (n : ℕ). refused_if (not (n == 0) && (is_none case.state.stopped
      && list_any changed_catalog case.state.logged)) NoFile) utility
