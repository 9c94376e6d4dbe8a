use Rattle.std.proofs.Common.{subst, vec_len}
use Rattle.std.specs.Option.{option_map}
use Rattle.vr_space.specs.Known.{MeetsPlace}
use Rattle.vr_chained.specs.Met.{HasMetPlace, mets_in}
use Rattle.vr_chained.specs.Owned.{OwnedChain, known_of}
use Rattle.vr_chained.specs.Tail.{tail_of}
use Rattle.vr_chained.proofs.chained.ChainedPart.room.Goals as goal

pub returns-clause-met : goal.returns-clause-met
returns-clause-met g c =
    let new : OwnedChain = record {
      chain = c.self.inside.chain;
      tail = option_map tail_of c.self.inside.tail;
      met = mets_in c.meet.new.mets;
      most = vec_len c.meet.new.mets.slots;
      put = c.self.inside.put.items;
    } in
    let meets = c.in_ok-meet.ensures.places in
    subst (λ (old : OwnedChain). MeetsPlace c.args.place.now (known_of old) (known_of new))
    c.self.view_is
    (record {
      here = subst (HasMetPlace (mets_in c.meet.new.mets)) c.as_slice.ensures meets.here;
      many = meets.many;
      kept = meets.kept;
      most = c.meet.ensures.most;
    })
