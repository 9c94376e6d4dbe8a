-- What the reader has found in the RDFs so far.
use Rattle.std.specs.Prelude.{◌≡◌, ℕ, ◌-◌, min, List, ◌∷◌, [], length, take, drop, map, None}
use Rattle.std.specs.Prelude.{MatchOption}
use Rattle.std.specs.List.{flat_map}
use Rattle.vr_ci_match.specs.declared.rdf.Rdf.{Rdf}
use Rattle.vr_ci_match.specs.declared.rdf.Rdf.TheVariants.{Single, Run, Segment}
use Rattle.vr_ci_match.specs.declared.form.Form.{Form}
use Rattle.vr_ci_match.specs.declared.form.Form.TheVariants.{Plain, Slots}
use Rattle.vr_ci_match.specs.declared.compared.Compared.{Compared}
use Rattle.vr_ci_match.specs.declared.tally.Tally.{Tally}
use Rattle.vr_ci_match.specs.Rdf.{marks, spans, control, last_from, shape_of}
use Rattle.vr_ci_match.specs.Compare.{Compares}
use Rattle.vr_ci_match.specs.Laid.{control_at, slots_in}
use Rattle.vr_ci_match.specs.Fault.{free_end, filled, slotted, masked, rdfs_room, IsRoomKept}
use Rattle.vr_ci_match.specs.Fault.{IsRoomPassed}
use Rattle.vr_ci_match.specs.Layout.{data_end}

-- the same RDF or pair with another length
abbrev pub with_length : Rdf → ℕ → Rdf
with_length (Single live n) len = Single live len
with_length (Run n count) len = Run len count
with_length (Segment piece live number n) len = Segment piece live number len

-- What the RDFs that were read are to say: those that are meant, without the slots that have no
-- RDF.
abbrev pub judged : Form → ℕ → List Rdf → List Rdf
judged form size (Segment piece live number n ∷ rdfs) =
    filled size (Segment piece live number n) ∷ []
judged Plain size rdfs = rdfs
judged (Slots len) size rdfs = take (slots_in size len) (map (slotted len) rdfs)

-- the block is compared with these RDFs, and up to the limit with the records that they are of
pub record IsCompared (block : List ℕ) (limit : ℕ) (rdfs : List Rdf)
    (compared : Compared) : Type 0 where
  pub span : compared.span ≡ spans rdfs
  pub from : compared.from ≡ control_at (length block) rdfs
  pub wrong : Compares 0 (take (min (spans rdfs) limit) block)
      (take (min (spans rdfs) limit) (masked rdfs block)) compared.wrong
  pub wrong_rdf : Compares (control_at (length block) rdfs)
      (drop (control_at (length block) rdfs) (take (length block - 4) block)) (control rdfs)
      compared.wrong_rdf

-- the tally of these RDFs
pub record IsTally (form : Form) (block : List ℕ) (rdfs : List Rdf) (tally : Tally) : Type 0 where
  pub last : tally.last ≡ last_from None rdfs
  pub count : tally.count ≡ length (flat_map marks rdfs)
  pub compared : IsCompared block (data_end form (length block) (free_end block) (shape_of rdfs))
      (judged form (length block) rdfs) tally.compared
  pub passed : MatchOption tally.passed ((tally.room ≡ rdfs_room rdfs)
      × IsRoomKept form (length block) rdfs) (IsRoomPassed form (length block) rdfs)
