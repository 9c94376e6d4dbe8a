use Rattle.std.proofs.Common.{◌≡◌, ◌∙◌, List, Some, All, sym, ap, subst}
use Rattle.std.specs.Prelude.{Contains}
use Rattle.std.proofs.lemmas.Result.{IfOk-weaker}
use Rattle.vr_types.specs.Image.{block_at}
use Rattle.vr_types.specs.Seen.{Left}
use Rattle.vr_space.specs.Areas.{KnowsAreas, area_for, area_of, areas_in, intervals_in}
use Rattle.vr_space.specs.Keyed.{InArea, IsHead, Keyed}
use Rattle.vr_space.specs.Met.{IsChainMet, IsMet, Met}
use Rattle.vr_space.specs.Part.{given}
use Rattle.vr_space.specs.Split.{split_in}
use Rattle.vr_space.proofs.CallerLemmas.{no-stage-of-area, resting-stands}
use Rattle.vr_keyed.specs.Look.{HasEntry}
use Rattle.vr_keyed.specs.Owned.{IsMine, known_in}
use Rattle.vr_keyed.specs.Ready.{IsReady, IsSetNow, MaySet, again, put_of}
use Rattle.vr_keyed.specs.Slots.{IsMetAt, LeavesMet, mets}
use Rattle.vr_keyed.proofs.Adding.{if-err-both}
use Rattle.vr_keyed.proofs.Changing.{by-result, ok-and}
use Rattle.vr_keyed.proofs.Known.{area-comes, area-inside, area-known, blocks-kept, blocks-on}
use Rattle.vr_keyed.proofs.Known.{leaves-met, leaves-mine, met-at}
use Rattle.vr_keyed.proofs.Lifted.{all-mine, is-set, may-set, ready-here}
use Rattle.vr_keyed.proofs.change.set_over.Goals as goal

pub set-requires-clause-head : goal.set-requires-clause-head
set-requires-clause-head g c told =
    let chain = c.args.areas.now in
    let a = g.B.Blocks.seen c.args.blocks.now in
    let at = c.area_for-layout.ensures in
    let quiet = c.requires.rests told in
    let left : Left a a.cur = g.met.B.Blocks.cur_may c.args.blocks.now told in
    subst (λ (one : Keyed). IsHead one (block_at a.cur one.head)) (sym at.3)
    (area-comes chain a.cur (c.requires.met told).0 c.args.place.now at.0 at.1
    (resting-stands chain.part quiet.0 a quiet.1 left)).linked.stands.head

pub set-requires-clause-entry : goal.set-requires-clause-entry
set-requires-clause-entry g c told =
    let chain = c.args.areas.now in
    let a = g.B.Blocks.seen c.args.blocks.now in
    let at = c.area_for-layout.ensures in
    let quiet = c.requires.rests told in
    let left : Left a a.cur = g.met.B.Blocks.cur_may c.args.blocks.now told in
    subst (λ (one : Keyed). HasEntry one a.cur c.args.place.now) (sym at.3)
    (λ bytes. (area-comes chain a.cur (c.requires.met told).0 c.args.place.now at.0 at.1
    (resting-stands chain.part quiet.0 a quiet.1 left)).entry)

pub set-requires-clause-met : goal.set-requires-clause-met
set-requires-clause-met g c told =
    let chain = c.args.areas.now in
    let a = g.B.Blocks.seen c.args.blocks.now in
    let at = c.area_for-layout.ensures in
    let known = c.requires.met told in
    subst (λ (one : Keyed). All (IsMetAt one a.cur c.args.place.now) (mets c.args.slots.now))
    (sym at.3)
    (met-at chain.part a.cur c.args.place.now at.0
    (area-known chain a.cur known.0 c.args.place.now at.0 at.1) (mets c.args.slots.now) known.1)

pub returns-clause-mine : goal.returns-clause-mine
returns-clause-mine g c =
    let chain = c.args.areas.now in
    let tells = g.B.Blocks.tells in
    let a = g.B.Blocks.seen c.args.blocks.now in
    let place = c.args.place.now in
    let at = c.area_for-layout.ensures in
    let old = mets c.args.slots.now in
    let new = mets c.set.new.slots in
    let left_mine : (mid : List Met)
    → LeavesMet c.area_for-layout.result tells a.cur place old mid
    → All (IsMine chain) mid =
    λ mid leaves. leaves-mine chain tells a.cur place at.0 at.1 old mid
    (subst (λ (one : Keyed). LeavesMet one tells a.cur place old mid) at.3 leaves)
    c.requires.mine in
    by-result c.set.result _ _ (All (IsMine chain) new)
    (λ put refreshed. all-mine chain put c.set.new.out refreshed.0 new refreshed.2
    (left_mine refreshed.0 refreshed.1))
    (left_mine new)
    c.set.ensures.refreshed c.set.ensures.failed

pub returns-clause-may : goal.returns-clause-may
returns-clause-may g c told kept splits ready =
    let chain = c.args.areas.now in
    let a = g.B.Blocks.seen c.args.blocks.now in
    let b = g.B.Blocks.seen c.set.new.blocks in
    let place = c.args.place.now in
    let item = given c.args.bytes in
    let at = c.area_for-layout.ensures in
    let left : Left a a.cur = g.met.B.Blocks.cur_may c.args.blocks.now told in
    let known = c.requires.met told in
    let inside : Contains (areas_in chain.part a.cur) at.0 =
    area-inside chain a.cur known.0 place at.0 at.1 in
    let found : area_for chain.part a.cur place ≡ Some at.0 =
    area-known chain a.cur known.0 place at.0 at.1 in
    let here : IsReady (area_of chain.part at.0) kept (split_in splits.split at.0) place item a =
    ready-here chain.part at.0 a b ready.rests left inside
    (known_in chain splits (mets c.args.slots.now)) kept place item found ready in
    may-set chain.part at.0 a b ready.rests left inside kept place item
    (subst (λ (one : Keyed). MaySet one kept place item a b) at.3
    (c.set.ensures.may told kept (split_in splits.split at.0)
    (subst (λ (one : Keyed). IsReady one kept (split_in splits.split at.0) place item a) (sym at.3)
    here)))
    ready.room

pub returns-clause-done : goal.returns-clause-done
returns-clause-done g c told =
    let chain = c.args.areas.now in
    let tells = g.B.Blocks.tells in
    let a = g.B.Blocks.seen c.args.blocks.now in
    let b = g.B.Blocks.seen c.set.new.blocks in
    let place = c.args.place.now in
    let item = given c.args.bytes in
    let at = c.area_for-layout.ensures in
    let layout : Keyed = c.area_for-layout.result in
    let left : Left a a.cur = g.met.B.Blocks.cur_may c.args.blocks.now told in
    let known = c.requires.met told in
    let old = mets c.args.slots.now in
    let new = mets c.set.new.slots in
    let inside : Contains (areas_in chain.part a.cur) at.0 =
    area-inside chain a.cur known.0 place at.0 at.1 in
    let found : area_for chain.part a.cur place ≡ Some at.0 =
    area-known chain a.cur known.0 place at.0 at.1 in
    IfOk-weaker c.set.result _ _
    (λ put both kept splits ready.
    let here : IsReady (area_of chain.part at.0) kept (split_in splits.split at.0) place item a =
    ready-here chain.part at.0 a b ready.rests left inside
    (known_in chain splits (mets c.args.slots.now)) kept place item found ready in
    let there : IsReady layout kept (split_in splits.split at.0) place item a =
    subst (λ (one : Keyed). IsReady one kept (split_in splits.split at.0) place item a) (sym at.3)
    here in
    let mid : List Met = both.1.1.0 in
    is-set chain.part at.0 a b ready.rests left inside kept place item
    (subst (λ (one : Keyed). MaySet one kept place item a b) at.3
    (c.set.ensures.may told kept (split_in splits.split at.0) there))
    chain.areas chain.ends chain.intervals splits.split splits.move old mid new put c.set.new.out
    found ready.knows
    (no-stage-of-area chain.part splits.split splits.move a.cur place at.0 found
    ready.can.no_stage).0
    (leaves-met chain.part tells a.cur place at.0 told found old mid
    (subst (λ (one : Keyed). LeavesMet one tells a.cur place old mid) at.3 both.1.1.1) known.1)
    both.1.1.2
    (subst (λ (one : Keyed). All (InArea one) (put_of put)) at.3 both.1.0)
    (λ met is. subst
    (λ (one : Keyed). IsMet one b.cur (again put c.set.new.out met)) at.3
    (both.0.1 kept (split_in splits.split at.0) there met
    (subst (λ (one : Keyed). IsMet one a.cur met) (sym at.3) is)))
    (subst (λ (one : Keyed). IsSetNow one (split_in splits.split at.0) (put_of put) place item a b)
    at.3 (both.0.0 kept (split_in splits.split at.0) there)))
    (ok-and c.set.result _ _
    (ok-and c.set.result _ _ (c.set.ensures.done told) (c.set.ensures.met told))
    (ok-and c.set.result _ _ c.set.ensures.put c.set.ensures.refreshed))

pub returns-clause-put : goal.returns-clause-put
returns-clause-put g c =
    let chain = c.args.areas.now in
    let at = c.area_for-layout.ensures in
    IfOk-weaker c.set.result _ _
    (λ put within. blocks-kept chain c.args.place.now at.0 at.1 (put_of put)
    (subst (λ (one : Keyed). All (InArea one) (put_of put)) at.3 within))
    c.set.ensures.put

pub returns-clause-below : goal.returns-clause-below
returns-clause-below g c =
    let chain = c.args.areas.now in
    let a = g.B.Blocks.seen c.args.blocks.now in
    let b = g.B.Blocks.seen c.set.new.blocks in
    let at = c.area_for-layout.ensures in
    IfOk-weaker c.set.result _ _
    (λ put within. blocks-on chain.part a b.count c.requires.on at.0 at.2 c.set.ensures.count
    (put_of put) (subst (λ (one : Keyed). All (InArea one) (put_of put)) at.3 within))
    c.set.ensures.put

pub returns-clause-unread : goal.returns-clause-unread
returns-clause-unread g c =
    let chain = c.args.areas.now in
    let tells = g.B.Blocks.tells in
    let a = g.B.Blocks.seen c.args.blocks.now in
    let place = c.args.place.now in
    let at = c.area_for-layout.ensures in
    let old = mets c.args.slots.now in
    let new = mets c.set.new.slots in
    if-err-both c.set.result _ _ _
    (λ fault leaves keeps is. (
      keeps is,
      λ told.
          let known = c.requires.met told in
          let same = sym ((keeps is).content told) in (
            subst (KnowsAreas chain.part chain.areas chain.ends) same known.0,
            subst (λ image. All (IsChainMet chain.part image) new) same
                (leaves-met chain.part tells a.cur place at.0 told
                (area-known chain a.cur known.0 place at.0 at.1) old new
                (subst (λ (one : Keyed). LeavesMet one tells a.cur place old new) at.3 leaves)
                known.1),
            known.2 ∙ ap (intervals_in chain.part) same,
          ),
    ))
    c.set.ensures.failed c.set.ensures.unread
