-- What a view lends, read out of its block.
use Rattle.std.specs.Prelude.{ℕ, zero, suc, ◌+◌, ◌-◌, ◌*◌, Bool, if◌then◌else◌, nat_lt, ◌≡◌, ◌≤◌}
use Rattle.std.specs.Prelude.{◌==◌, ◌||◌, ◌<◌, List, [], ◌∷◌, ◌++◌, length, take, drop, reverse}
use Rattle.std.specs.Prelude.{replicate, slice_index}
use Rattle.std.specs.List.{flat_map, AllByRecursion}
use Rattle.std.specs.Borrow.{Bor}
use Rattle.vr_ci_match.specs.declared.form.Piece.{Piece}
use Rattle.vr_ci_match.specs.declared.form.Piece.TheVariants.{First, Inner, Last}
use Rattle.vr_ci_match.specs.declared.rdf.Rdf.{Rdf}
use Rattle.vr_ci_match.specs.declared.rdf.Rdf.TheVariants.{Single, Run, Segment}
use Rattle.vr_ci_match.specs.declared.form.Shape.{Shape}
use Rattle.vr_ci_match.specs.declared.form.Shape.TheVariants as shapes
use Rattle.vr_ci.specs.declared.records.Batch.{Batch}
use Rattle.vr_ci_match.specs.Rdf.{Mark, marks, spans, rdf_bytes, control, IsRdf}
use Rattle.vr_ci.specs.Interval.{Item, Interval}

-- the items with these marks, one after the other from the left end of the bytes
abbrev pub items_at : List Mark → List ℕ → List Item
items_at [] bytes = []
items_at (mark ∷ more) bytes =
    record { bytes = take mark.len bytes; live = mark.live } ∷ items_at more (drop mark.len bytes)

-- the number in two bytes of a list from right to left
abbrev pub number_back : List ℕ → ℕ → ℕ
number_back bytes i = slice_index bytes i + slice_index bytes (i + 1) * 256

abbrev pub piece_of : ℕ → Piece
piece_of flags = if nat_lt flags 96 then First else (if nat_lt flags 112 then Last else Inner)

-- the first RDF, or pair, of bytes from right to left
abbrev pub rdf_back : List ℕ → Rdf
rdf_back bytes =
    let flags = slice_index bytes 2 in
    if nat_lt flags 64 then Single (flags == 0) (number_back bytes 0)
    else (if flags == 64 then Run (number_back bytes 0) (number_back bytes 3)
    else Segment (piece_of flags) (flags == 80 || flags == 112 || flags == 96) (number_back bytes 3)
    (number_back bytes 0))

-- the RDFs of bytes from right to left, at most n
abbrev pub rdfs_back : ℕ → List ℕ → List Rdf
rdfs_back zero bytes = []
rdfs_back (suc n) [] = []
rdfs_back (suc n) (b ∷ bytes) =
    rdf_back (b ∷ bytes) ∷ rdfs_back n
    (drop (length (rdf_bytes (rdf_back (b ∷ bytes)))) (b ∷ bytes))

-- the RDFs between two places of a block, the rightmost first
abbrev pub rdfs_between : ℕ → ℕ → List ℕ → List Rdf
rdfs_between low end block =
    let area = drop low (take end block) in rdfs_back (length area) (reverse area)

-- the RDFs of a block from this place up to the CIDF
abbrev pub rdfs_in : List ℕ → ℕ → List Rdf
rdfs_in block low = rdfs_between low (length block - 4) block

-- the value that a view shows of its block
abbrev pub value_in : List ℕ → ℕ → Shape → Bool → Interval
value_in block low shape busy =
    record {
      shape = shape;
      items = items_at (flat_map marks (rdfs_in block low)) block;
      busy = busy;
    }

-- RDFs stand between two places of a block, and they can be read again
pub record AreLent (block : List ℕ) (low end : ℕ) : Type 0 where
  pub order : low ≤ end
  pub within : end + 4 ≤ length block
  pub control : drop low (take end block) ≡ control (rdfs_between low end block)
  pub rdfs : AllByRecursion IsRdf (rdfs_between low end block)

-- what a view keeps of its block, so that its records can be lent
pub record IsShown (block : List ℕ) (low items : ℕ) : Type 0 where
  pub lent : AreLent block low (length block - 4)
  pub bytes : spans (rdfs_in block low) ≤ length block
  pub count : items ≡ length (flat_map marks (rdfs_in block low))

-- a segment is one item, and an end of file has none
abbrev pub CountFits : Shape → ℕ → Type 0
CountFits shapes.Records n = Unit {0}
CountFits (shapes.Segment piece number) n = n ≡ 1
CountFits shapes.EndOfFile n = n ≡ 0

-- what always holds of a view
pub record IsView (block : List ℕ) (low : ℕ) (shape : Shape) (items : ℕ) : Type 0 where
  pub shown : IsShown block low items
  pub count : CountFits shape items

-- the marks of the records that are left: those of a run, and those of the RDFs up to its end
abbrev pub marks_left : List ℕ → ℕ → Batch → List Mark
marks_left block low batch =
    replicate batch.left (record { live = batch.live; len = batch.length })
    ++ flat_map marks (rdfs_between low batch.end block)

-- a batch with records left, with the same records to come as this one
pub record IsNextBatch (block : List ℕ) (low : ℕ) (batch next : Batch) : Type 0 where
  pub some : 0 < next.left
  pub marks : marks_left block low next ≡ marks_left block low batch
  pub lent : AreLent block low next.end
  pub bytes : next.left * next.length + spans (rdfs_between low next.end block)
      ≡ batch.left * batch.length + spans (rdfs_between low batch.end block)

-- the items that an iterator still gives
abbrev pub items_left : List ℕ → ℕ → Batch → ℕ → List Item
items_left block low batch offset = items_at (marks_left block low batch) (drop offset block)

-- the bytes of those items lie in the block
pub record AreIn (block : List ℕ) (low : ℕ) (batch : Batch) (offset : ℕ) : Type 0 where
  pub lent : AreLent block low batch.end
  pub bytes : offset + batch.left * batch.length + spans (rdfs_between low batch.end block) ≤ length
      block

-- a lent record with its live mark, as an item
abbrev pub item_lent : Bor (List ℕ) × Bool → Item
item_lent lent = record { bytes = lent.0.now; live = lent.1 }
