-- Lemmas for crates that write intervals of records that they have. What a loop over
-- `CiWriter::add` keeps is `IsWriting` of specs/Writer.antt: with it as the loop's invariant the
-- clauses of `begin`, `add` and `end` give the interval.
use Rattle.std.proofs.Common.{◌≡◌, ℕ, ◌+◌, ◌-◌, ◌≤◌, Bool, true, false, List, [], ◌∷◌, ◌++◌}
use Rattle.std.proofs.Common.{length, take, drop, inl, inr, refl, sym, ap, subst, ◌∙◌, arith}
use Rattle.std.specs.Prelude.{map}
use Rattle.std.specs.List.{flat_map, AllByRecursion}
use Rattle.vr_ci_match.specs.declared.form.Form.{Form}
use Rattle.vr_ci_match.specs.declared.rdf.Rdf.{Rdf}
use Rattle.vr_ci_match.specs.Rdf.{marks}
use Rattle.vr_ci_match.specs.Fault.{free_end, is_busy}
use Rattle.vr_ci_match.specs.declared.form.Shape.{Shape}
use Rattle.vr_ci_match.specs.declared.form.Shape.TheVariants as shapes
use Rattle.vr_ci.specs.Interval.{Item, Interval, IsItem, room, FitsBlock, IsInterval}
use Rattle.vr_ci.specs.Reading.{items_at, rdfs_in}
use Rattle.vr_ci.specs.Writer.{written}
use Rattle.vr_ci.proofs.IntervalLemmas.{laid_says, free_end_is, items_are}
use Rattle.vr_ci.proofs.ReadLemmas.{rdfs_between-is}
use Rattle.vr_ci.proofs.ItemLemmas.{records_room as records_room_of}
pub use Rattle.vr_ci.proofs.IntervalLemmas.{one_value}
pub use Rattle.vr_ci.proofs.LawLemmas.{one_block, some_block}
-- the bytes of the items of an interval lie in its block
pub use Rattle.vr_ci.proofs.OverLemmas.{items_within}

-- the room of records one after another is the sum of theirs
pub room-append : (items more : List Item) → room (items ++ more) ≡ room items + room more
room-append [] more = omega arith
room-append (item ∷ items) more = omega (arith, room-append items more)

-- what is written of an item of an interval is that item
pub written_item : (item : Item) → IsItem item → written item.bytes item.live ≡ item
written_item item fits = by_live item.live item.bytes fits.zeros
  where
    by_live : (live : Bool) (bytes : List ℕ)
        → (live ≡ false → bytes ≡ Rattle.std.specs.Prelude.replicate (length bytes) 0)
        → written bytes live ≡ (let same : Item = record { bytes = bytes; live = live } in same)
    by_live true bytes zeros = refl
    by_live false bytes zeros =
        ap (λ (b : List ℕ). let same : Item = record { bytes = b; live = false } in same)
        (sym (zeros refl))

-- and so of all its items
pub written_items : (items : List Item) → AllByRecursion IsItem items
    → map (λ item. written item.bytes item.live) items ≡ items
written_items [] fit = refl
written_items (item ∷ items) fit =
    let first : written item.bytes item.live ≡ item = written_item item fit.0 in
    let others = written_items items fit.1 in
    cc

-- the records of an interval have room in a block of its size
pub interval_room : (form : Form) (block : List ℕ) (value : Interval) → IsInterval form block value
    → value.shape ≡ shapes.Records → room value.items ≤ length block - 4
interval_room form block value interval shape =
    records_room_of form (length block) value.items
    (subst (λ (s : Shape). FitsBlock form (length block) s value.items) shape interval.fits.block)

-- the items and the busy flag of an interval of records are those that its block has
pub interval_says : (form : Form) (block : List ℕ) (value : Interval) → IsInterval form block value
    → value.shape ≡ shapes.Records
    → (value.items ≡ items_at (flat_map marks (rdfs_in block (free_end block))) block)
    × (value.busy ≡ is_busy block)
interval_says form block value interval shape =
    elim interval.laid [
      | inl laid ↦
          let l = laid_says form block value interval.size interval.fits laid in
          let same : rdfs_in block (free_end block) ≡ l.rdfs =
          rdfs_between-is (free_end block) (length block - 4) block l.rdfs
          (ap (λ (n : ℕ). drop n (take (length block - 4) block)) (free_end_is l) ∙ l.control) in (
            items_are l ∙ ap (λ (rs : List Rdf). items_at (flat_map marks rs) block) (sym same),
            sym l.busy,
          )
      | inr end ↦ absurd (ended (sym shape ∙ end.0))
    ]
  where
    ended : shapes.Records ≡ shapes.EndOfFile → ⊥
    ended same = cc
