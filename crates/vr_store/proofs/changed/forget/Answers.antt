use Rattle.std.proofs.Common.{◌≡◌, rules, sym, ap, subst, ◌∙◌, map, ◌<◌}
use Rattle.std.specs.Prelude.{All}
use Rattle.std.proofs.lemmas.Fn.{filter_same}
use Rattle.vr_history.specs.Effects.{is_other}
use Rattle.vr_store.specs.Store.{ChangedBy, blocks_of, changed_by}
use Rattle.vr_store.specs.declared.changed.UnitBlocks.{UnitBlocks}
use Rattle.vr_store.proofs.Listed.{forgotten, forgotten-each, forgotten-none, forgotten-others}
use Rattle.vr_store.proofs.Listed.{forgotten-seen}
use Rattle.vr_store.proofs.changed.forget.Goals as goal

left : (c : goal.After-retain) → map changed_by c.retain.new.self.items
    ≡ forgotten c.args.unit (map changed_by c.args.changed.now.items)
left c = ap (map changed_by)
    (filter_same _ (λ (by : UnitBlocks). is_other c.args.unit by.unit) _
    (λ n by next_test called. search rules) _ _ c.retain.ensures.filtered)
    ∙ forgotten-seen c.args.unit c.args.changed.now.items

pub returns-clause-none : goal.returns-clause-none
returns-clause-none c = ap (blocks_of c.args.unit) (left c)
    ∙ forgotten-none c.args.unit (map changed_by c.args.changed.now.items)

pub returns-clause-others : goal.returns-clause-others
returns-clause-others c other apart = ap (blocks_of other) (left c)
    ∙ forgotten-others c.args.unit other apart (map changed_by c.args.changed.now.items)

pub returns-clause-each : goal.returns-clause-each
returns-clause-each c count all =
    subst (All (λ (by : ChangedBy). All (λ n. n < count) by.blocks)) (sym (left c))
    (forgotten-each c.args.unit count (map changed_by c.args.changed.now.items) all)
