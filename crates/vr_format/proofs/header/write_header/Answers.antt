use Rattle.std.proofs.Common.{◌≡◌, ◌∙◌, ℕ, ◌-◌, ◌++◌, List, length, replicate, ap, arith, rules}
use Rattle.vr_types.specs.Fields.{four}
use Rattle.vr_types.specs.declared.geometry.Geometry.{Geometry}
use Rattle.vr_volume.specs.Header.{header_block, header_bytes}
use Rattle.vr_format.proofs.header.write_header.Goals as goal

header_put : (g : Geometry) (number : ℕ) (fields free : List ℕ) → fields ≡ header_bytes g number
    → free ≡ replicate (g.size - 30) 0 → fields ++ free ≡ header_block g number
unfolding header_block four
header_put g number fields free fields-are free-is =
    ap (λ (x : List ℕ). x ++ free) fields-are
    ∙ ap (λ (x : List ℕ). header_bytes g number ++ x) free-is

pub returns : goal.returns
returns c =
    let free : length c.split_at_mut-fields.result.1.now ≡ c.args.geometry.now.size - 30 =
    omega (arith, c.requires.size) in
    header_put c.args.geometry.now c.args.number c.copy_from_slice.new.self c.fill.new.self
    (c.copy_from_slice.ensures.after ∙ c.header_bytes-bytes.ensures)
    (c.fill.ensures.after (λ y e. search rules) ∙ ap (λ (m : ℕ). replicate m 0) free)
