use Rattle.std.proofs.Common.{subst, sym}
use Rattle.vr_types.proofs.CallerLemmas.{keeps-then}
use Rattle.vr_types.specs.declared.reply.Refusal.{Refusal}
use Rattle.vr_answer.specs.InHand.{whole}
use Rattle.vr_event.specs.Getting.{MayEnd}
use Rattle.vr_store.specs.Store.{IsStored, Stands, StoreNow}
use Rattle.vr_event.specs.declared.getting.Outcome.TheVariants.{Refused}
use Rattle.vr_event.proofs.Ended.{may-fail}
use Rattle.vr_store.proofs.CallerLemmas.{stands-kept, stored-keeps}
use Rattle.vr_event.proofs.getting.sought.Goals as goal

pub looked-requires-clause-stands : goal.looked-requires-clause-stands
looked-requires-clause-stands g c told =
    let a = g.B.Blocks.seen c.args.blocks.now in
    let b = g.B.Blocks.seen c.place_sought.new.blocks in
    subst (λ (s : StoreNow). Stands s b) (sym c.place_sought.ensures.same)
    (stands-kept g.B.Blocks.tells told a b c.place_sought.ensures.keeps c.args.store.now
    (g.met.B.Blocks.cur_may c.args.blocks.now told) (c.requires.stands told))

pub returns-in-Err-clause-ends : goal.returns-in-Err-clause-ends
returns-in-Err-clause-ends g c told volume state is stored read none =
    subst (λ (r : Refusal). MayEnd (whole c.args.case.now state) (Refused r))
    (sym c.refusal_of.ensures) (may-fail (whole c.args.case.now state) read none c.in-Err.no)

pub returns-in-Ok-clause-ends : goal.returns-in-Ok-clause-ends
returns-in-Ok-clause-ends g c told volume state is stored read none =
    let a = g.B.Blocks.seen c.args.blocks.now in
    let b = g.B.Blocks.seen c.place_sought.new.blocks in
    c.looked.ensures.ends told volume state is
    (subst (λ (s : StoreNow). IsStored volume s state b) (sym c.place_sought.ensures.same)
    (stored-keeps g.B.Blocks.tells told a b c.place_sought.ensures.keeps volume c.args.store.now state
    (g.met.B.Blocks.cur_may c.args.blocks.now told) stored)) read none
    (c.in-Ok.ensures.sought told volume state is stored read none)

pub returns-in-Ok-clause-keeps : goal.returns-in-Ok-clause-keeps
returns-in-Ok-clause-keeps g c =
    keeps-then g.B.Blocks.tells (g.B.Blocks.seen c.args.blocks.now)
    (g.B.Blocks.seen c.place_sought.new.blocks) (g.B.Blocks.seen c.looked.new.blocks)
    c.place_sought.ensures.keeps c.looked.ensures.keeps
