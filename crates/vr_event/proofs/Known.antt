-- What is known of a read that nothing in memory refuses.
use Rattle.std.proofs.Common.{◌≡◌, ◌==◌, ◌||◌, ℕ, Bool, true, false, cond, List, ◌∷◌}
use Rattle.std.proofs.Common.{Option, Some, None, refl, sym, ap, ◌∙◌, length}
use Rattle.std.specs.Prelude.{IfSome}
use Rattle.std.specs.Option.{option_and_then, option_copied, option_map, option_map_or}
use Rattle.std.proofs.lemmas.Bool.{eqb-true}
use Rattle.std.proofs.lemmas.Option.{none-some}
use Rattle.vr_catalog.specs.Catalog.{cluster_definition, entry_with_part}
use Rattle.vr_catalog.specs.Definition.{catalog_definition}
use Rattle.vr_catalog.specs.declared.definition.Definition.{Definition}
use Rattle.vr_catalog.specs.declared.entry.CatEntry.{CatEntry}
use Rattle.vr_types.specs.Content.{Ascends}
use Rattle.vr_types.specs.declared.geometry.Geometry.{Geometry}
use Rattle.vr_types.specs.declared.reply.Refusal.{Refusal}
use Rattle.vr_types.specs.declared.reply.Refusal.TheVariants.{NoFile}
use Rattle.vr_types.specs.declared.request.FileRef.{FileRef}
use Rattle.vr_types.specs.declared.request.Find.{Find}
use Rattle.vr_types.specs.declared.request.Request.{Request}
use Rattle.vr_types.specs.declared.request.Request.TheVariants.{Get, Point, Add, Update, Erase}
use Rattle.vr_types.specs.declared.request.Request.TheVariants.{EndReq, Commit, Backout}
use Rattle.vr_types.specs.declared.unit.AreaNo.{AreaNo}
use Rattle.vr_types.specs.declared.unit.Unit.{Unit as UnitOfRecovery}
use Rattle.vr_types.specs.declared.unit.Kind.{Kind}
use Rattle.vr_types.specs.declared.unit.Kind.TheVariants.{Keyed, Entry, Relative}
use Rattle.vr_space.specs.Part.{IsPlaceOf, Shape}
use Rattle.vr_history.specs.Case.{Case, file_of, find_of}
use Rattle.vr_history.specs.Opened.{Cluster, base_of, opened}
use Rattle.vr_history.specs.RefusedFile.{is_catalog_changing, is_unknown, no_file, refused_if}
use Rattle.vr_history.specs.Replies.{first_of}
use Rattle.vr_history.specs.State.{State}
use Rattle.vr_history.specs.Step.{case_of}
use Rattle.vr_attach.specs.Laid.{is_relative, numbered_part}
use Rattle.vr_volume.specs.Laid.{catalog_shape, shape_by_kind, shape_from, shape_in, shape_of}
use Rattle.vr_answer.specs.Here.{or_start}
use Rattle.vr_answer.specs.InHand.{IsCaseOf, whole}
use Rattle.vr_answer.specs.Least.{IsReadOf}
use Rattle.vr_answer.specs.Opening.{as_opened, definition_here}
use Rattle.vr_answer.specs.Tried.{file_refusals}
use Rattle.vr_answer.specs.declared.case.Case.{Case as CaseInHand}
use Rattle.vr_answer.proofs.CallerLemmas.{opened_is}
use Rattle.vr_space.proofs.CallerLemmas.{place-is}
use Rattle.vr_event.specs.Getting.{IsRead, fits_in, is_number, is_place_by, is_place_for}

-- ---- a place that fits the definition of a part is one of its shape

module _ (geometry : Geometry) (place : List ℕ) where
  abbrev IsPlace : Shape → Type 0
  IsPlace shape = IsPlaceOf shape place

  by_kind : (part area : ℕ) (definition : Definition) (kind : Kind) → definition.kind ≡ kind
      → is_place_for kind place definition ≡ true
      → IfSome (shape_by_kind geometry part area definition kind) IsPlace
  by_kind part area definition Keyed same fits = eqb-true (length place) definition.key_length fits
  by_kind part area definition Entry same fits =
      place-is (numbered_part geometry part area definition) place
      (ap (λ (relative : Bool). is_number relative place) (ap is_relative same) ∙ fits)
  by_kind part area definition Relative same fits =
      place-is (numbered_part geometry part area definition) place
      (ap (λ (relative : Bool). is_number relative place) (ap is_relative same) ∙ fits)

  by_area : (part : ℕ) (area : Option AreaNo) (o : Option Definition)
      → option_map_or (is_place_by place) o false ≡ true
      → IfSome (option_and_then (shape_from geometry part area) o) IsPlace
  by_area part area None fits = tt
  by_area part None (Some definition) fits = tt
  by_area part (Some area) (Some definition) fits =
      by_kind part area.0 definition definition.kind refl fits

  by_entry : (o : Option CatEntry)
      → option_map_or (is_place_by place) (option_and_then
      (λ (entry : CatEntry). cluster_definition entry.entry_kind entry) o) false ≡ true
      → IfSome (option_and_then (shape_of geometry) o) IsPlace
  by_entry None fits = tt
  by_entry (Some entry) fits = by_area entry.part.0 entry.first_area
      (cluster_definition entry.entry_kind entry) fits

  by_zero : (b : Bool) (o : Option CatEntry)
      → option_map_or (is_place_by place) (cond b (Some catalog_definition) (option_and_then
      (λ (entry : CatEntry). cluster_definition entry.entry_kind entry) o)) false ≡ true
      → IfSome (cond b (Some (catalog_shape geometry)) (option_and_then (shape_of geometry) o))
      IsPlace
  by_zero true o fits = eqb-true (length place) catalog_definition.key_length fits
  by_zero false o fits = by_entry o fits

  pub fits-shape : (entries : List CatEntry) (part : ℕ) → fits_in entries part place ≡ true
      → IfSome (shape_in geometry entries part) IsPlace
  fits-shape entries part fits = by_zero (part == 0) (entry_with_part entries part) fits

-- ---- a read that nothing in memory refuses

-- the file that it is on, and which record it asks for
pub record IsReadOn (request : Request) : Type 0 where
  pub on : FileRef
  pub find : Find
  pub file : file_of request ≡ Some on
  pub finds : find_of request ≡ Some find

pub read-on : (request : Request) → IsRead request → IsReadOn request
read-on (Get on find update integrity) read =
    record { on = on; find = find; file = refl; finds = refl }
read-on (Point on find) read = record { on = on; find = find; file = refl; finds = refl }
read-on (Add on place bytes) read = absurd read
read-on (Update on bytes) read = absurd read
read-on (Erase on) read = absurd read
read-on (EndReq on) read = absurd read
read-on Commit read = absurd read
read-on Backout read = absurd read

first-none : (a : Option Refusal) (rest : List (Option Refusal)) → first_of (a ∷ rest) ≡ None
    → a ≡ None
first-none None rest none = refl
first-none (Some refusal) rest none = absurd (none-some refusal (sym none))

unrefused-false : (test : Bool) (refusal : Refusal) → refused_if test refusal ≡ None
    → test ≡ false
unrefused-false false refusal none = refl
unrefused-false true refusal none = absurd (none-some refusal (sym none))

or-first : (a b : Bool) → (a || b) ≡ false → a ≡ false
or-first false b is = refl
or-first true b is = absurd cc

-- what the file is on is a cluster
cluster-by : (found : Option Definition) → is_unknown (as_opened found) ≡ false
    → (definition : Definition) × (as_opened found ≡ Cluster definition)
cluster-by None known = absurd cc
cluster-by (Some definition) known = (definition, refl)

module _ (case : CaseInHand) (state : State) (is : IsCaseOf case state)
    (none : first_of (file_refusals (whole case state)) ≡ None) where
  abbrev w : Case
  w = whole case state

  cluster-of : (on : FileRef) → file_of case.request.now ≡ Some on
      → (definition : Definition) × (opened w ≡ Cluster definition)
  cluster-of on file =
      let opens = opened_is case state is.file in
      let known : refused_if (is_unknown (opened w) || is_catalog_changing w) NoFile ≡ None =
      sym (ap (λ (o : Option FileRef). option_and_then (λ (file : FileRef).
      refused_if (is_unknown (opened w) || is_catalog_changing w) NoFile) o) file)
      ∙ first-none (no_file w) _ none in
      let cluster = cluster-by (definition_here case) (sym (ap is_unknown opens)
      ∙ or-first (is_unknown (opened w)) (is_catalog_changing w)
      (unrefused-false (is_unknown (opened w) || is_catalog_changing w) NoFile known)) in
      (cluster.0, opens ∙ cluster.1)

  -- it is a read of a cluster from where its file stands
  pub reads-known : Ascends (state.contents (base_of w)) → (on : FileRef) (find : Find)
      → file_of case.request.now ≡ Some on → find_of case.request.now ≡ Some find
      → (definition : Definition) × IsReadOf w definition (or_start (option_copied case.stand)) find
  reads-known ascends on find file finds =
      let cluster = cluster-of on file in (
        cluster.0,
        record {
          on = cluster.1;
          ascends = ascends;
          stands = sym is.file.stand ∙ ap (λ (o : Option FileRef).
              option_map (λ (file : FileRef). or_start (option_copied case.stand)) o) file;
          finds = finds;
        },
      )

-- the request as it meets the volume
pub whole-is : (case : CaseInHand) (state : State) (geometry : Geometry) (unit : UnitOfRecovery)
    (request : Request) → case.geometry ≡ geometry → case.unit ≡ unit
    → case.request.now ≡ request
    → whole case state ≡ case_of geometry state unit request
whole-is case state geometry unit request shape of asked =
    ap (λ (g : Geometry). case_of g state case.unit case.request.now) shape
    ∙ ap (λ (u : UnitOfRecovery). case_of geometry state u case.request.now) of
    ∙ ap (λ (r : Request). case_of geometry state unit r) asked
