use Rattle.std.proofs.Common.{◌≡◌, ℕ, ◌-◌, length, replicate, ap, ◌∙◌, arith, rules}
use Rattle.std.specs.Int.{w32, to_be_bytes}
use Rattle.vr_seqset.specs.Roster.{Roster}
use Rattle.vr_seqset.proofs.RosterLemmas.{written_roster, roster_cells}
use Rattle.vr_seqset.proofs.roster.write_roster.Goals as goal

pub returns : goal.returns
returns c =
    let r : Roster = record { used = c.args.used; part = c.args.part; next = c.args.next } in
    let n = c.to_be_bytes-n.ensures ∙ ap (to_be_bytes w32) c.area_field.ensures in
    let free : length c.split_at_mut-fields.result.1.now ≡ length c.args.out.now - 16 =
    omega arith in
    written_roster c.args.cis (length c.args.out.now) r c.copy_from_slice.new.self c.fill.new.self
    c.requires
    (c.copy_from_slice.ensures.after ∙ roster_cells r c.to_be_bytes-u.result c.to_be_bytes-p.result
    c.to_be_bytes-n.result c.to_be_bytes-u.ensures c.to_be_bytes-p.ensures n)
    (c.fill.ensures.after (λ y e. search rules) ∙ ap (λ (m : ℕ). replicate m 0) free)
