use base.Logic.{id⊢}
use contract.Lifetimes.{Lfts}
use denote.Param.{param}
use denote.RattleType.{RattleType}
use denote.Triple.Entry.{Res}
use denote.Triple.Clauses.{AtExit}
use Rattle.vr_resident.specs.contracts.write_back.Resident.{the_row}
use Rattle.vr_resident.specs.contracts.write_back.ResidentBlocks.get as own
use Rattle.vr_resident.specs.contracts.write_back.ResidentBlocks.TheImpl as the_impl
use Rattle.vr_types.specs.contracts.blocks.Blocks.get as asked
use Rattle.vr_resident.proofs.Resting.{by_each, past_facts, rests_weaker}
use Rattle.vr_resident.proofs.write_back.ResidentBlocks.TheImpl.Goals as goal

-- the clause of the trait is the first two parts of the one of `get`, which says more
pub get-meets : goal.get-meets
get-meets g c =
    let D : RattleType = g.row.D in
    let m = g.D.BlockDevice in
    let md = g.D.BlockDevice-dict in
    let de = g.D.Destruct-dict in
    let w = g.world in
    let κs : Lfts 2 = (c.lifetimes.0, (c.lifetimes.1.0, tt {0})) in
    let ours = own.clauses D m md de w.𝓛 w.𝓜.mem w.𝓡.returns κs
    (c.args.self, (c.args.n, tt {0})) in
    let theirs = asked.clauses (the_row (param 0 D) m) (the_impl.ghosts D m md de)
    (the_impl.dict D m md de) w.𝓛 w.𝓜.mem w.𝓡.returns c.lifetimes
    (c.args.self, (c.args.n, tt {0})) in
    by_each w.𝓤 _ (Unit {0})
    (λ x. own.requires-1 D m md de w.𝓛 κs w.𝓜.mem w.𝓡.returns c.args.self c.args.n)
    (Res (own.signature D m md de) κs) (AtExit (own.ended D m md de) κs)
    (λ x r e. ours.ensures x r e)
    (λ r e. theirs.ensures c.ghost r (e.0, (e.1.0, tt {0}))) tt (id⊢ w.𝓤 _)
    (λ r e. past_facts w.𝓤 _ _
    (rests_weaker w.𝓛 (the_row (param 0 D) m) c.args.self _ _ (λ n p. (p.0, p.1))))
