use Rattle.vr_chained.proofs.rules.slots_rule.Goals as goal

pub returns-in-None : goal.returns-in-None
returns-in-None c = c.rule_of_other.ensures c.args.layout.now c.requires.size
    (c.interval_of.ensures.none c.in-None.is)
