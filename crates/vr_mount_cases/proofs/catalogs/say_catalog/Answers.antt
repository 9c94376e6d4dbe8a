use Rattle.vr_mount_cases.proofs.catalogs.say_catalog.Goals as goal

pub owners_of-requires-clause-apart : goal.owners_of-requires-clause-apart
owners_of-requires-clause-apart c =
    (c.are_apart.ensures c.args.geometry.now).0 c.if-not-are_apart.false
