use Rattle.vr_mount.proofs.Spelling.{catalog_spells, decided}
use Rattle.vr_mount.proofs.catalog.is_catalog.Goals as goal

pub returns-then-not-each-clause-decided : goal.returns-then-not-each-clause-decided
returns-then-not-each-clause-decided c content same is =
    c.in_ok-each.ensures.misspelled c.if-not-each.true
    (catalog_spells c.args.geometry.now c.args.records.now content same is)

pub returns-clause-decided : goal.returns-clause-decided
returns-clause-decided c =
    decided c.args.geometry.now c.args.records.now c.read_each.new.catalog c.are_rules.result
    c.are_rules.ensures (c.in_ok-each.ensures.spelled c.if-not-each.false)
