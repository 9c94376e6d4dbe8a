use Rattle.std.proofs.Common.{◌≡◌, ℕ, List, None, Some, ap, sym, subst, ◌∙◌}
use Rattle.vr_types.proofs.CallerLemmas.{keeps-none}
use Rattle.vr_catalog.specs.declared.entry.CatEntry.{CatEntry}
use Rattle.vr_types.specs.declared.geometry.Geometry.{Geometry}
use Rattle.vr_types.specs.declared.request.Request.{Request}
use Rattle.vr_history.specs.Case.{Case}
use Rattle.vr_history.specs.Change.{place_changed}
use Rattle.vr_history.specs.Replies.{first_of}
use Rattle.vr_history.specs.State.{State}
use Rattle.vr_history.specs.Step.{case_of}
use Rattle.vr_answer.specs.Here.{base_here}
use Rattle.vr_answer.specs.InHand.{IsCaseOf}
use Rattle.vr_answer.specs.Tried.{file_refusals}
use Rattle.vr_record_file.specs.Now.{state_now}
use Rattle.vr_event.specs.Lacking.{IfLacks, LacksRoomIn}
use Rattle.vr_event.specs.Putting.{AreLaidBy, IsAskedAt, IsSpaceOf, MayWeigh}
use Rattle.vr_event.proofs.Known.{whole-is}
use Rattle.vr_event.proofs.NumbersHeld.{numbers-now}
use Rattle.vr_event.proofs.Weighs.{refuse-memory}
use Rattle.vr_event.proofs.weighing.weigh.Goals as goal

pub weigh_at-requires-clause-laid : goal.weigh_at-requires-clause-laid
weigh_at-requires-clause-laid g c =
    subst (λ (s : Geometry). AreLaidBy s c.case-case.result.catalog.now c.args.store.now.parts)
    (sym c.case-case.ensures.geometry)
    (subst (λ (entries : List CatEntry). AreLaidBy c.args.file.now.geometry entries
    c.args.store.now.parts) (sym c.case-case.ensures.catalog) c.requires.laid)

pub weigh_at-requires-clause-base : goal.weigh_at-requires-clause-base
weigh_at-requires-clause-base g c =
    c.requires.base ∙ ap (λ (r : Request). base_here r) (sym c.case-case.ensures.asked)

pub returns-in-None-clause-may : goal.returns-in-None-clause-may
returns-in-None-clause-may g c told volume opening is going stored space =
    refuse-memory (case_of c.args.file.now.geometry (state_now opening c.args.file.now) c.args.unit
    c.args.request.now) c.requires.change

pub returns-in-None-clause-keeps : goal.returns-in-None-clause-keeps
returns-in-None-clause-keeps g c =
    keeps-none g.B.Blocks.tells (g.B.Blocks.seen c.args.blocks.now)
    (λ told image is. g.met.B.Blocks.images_may c.args.blocks.now image told is)

pub returns-else-may_change-clause-may : goal.returns-else-may_change-clause-may
returns-else-may_change-clause-may g c told volume opening is going stored space =
    refuse-memory (case_of c.args.file.now.geometry (state_now opening c.args.file.now) c.args.unit
    c.args.request.now) c.requires.change

pub returns-else-may_change-clause-keeps : goal.returns-else-may_change-clause-keeps
returns-else-may_change-clause-keeps g c =
    keeps-none g.B.Blocks.tells (g.B.Blocks.seen c.args.blocks.now)
    (λ told image is. g.met.B.Blocks.images_may c.args.blocks.now image told is)

pub returns-then-may_change-clause-may : goal.returns-then-may_change-clause-may
returns-then-may_change-clause-may g c told volume opening is going stored space =
    let file = c.args.file.now in
    let state : State = state_now opening file in
    let case = c.case-case.result in
    let deck = c.may_change.ensures.deck c.if-may_change.true in
    let agrees : IsCaseOf case state = c.case-case.ensures.going opening is going deck
    (c.used.ensures ∙ stored.volume.logged.used) (c.free_areas.ensures ∙ space.free)
    (numbers-now (g.B.Blocks.seen c.args.blocks.now) c.args.store.now c.requires.set opening file is
    c.requires.laid c.args.unit c.args.request.now c.args.part.0 c.requires.base space
    c.areas_of-areas.result c.areas_of-areas.ensures
    (g.met.B.Blocks.cur_may c.args.blocks.now told) volume stored
    (c.may_change.ensures.at c.if-may_change.true c.requires.laid).laid _
    (c.place_of.ensures ∙ c.address_for-address.ensures)) in
    let same = whole-is case state file.geometry c.args.unit c.args.request.now
    c.case-case.ensures.geometry c.case-case.ensures.unit c.case-case.ensures.asked in
    let asked : IsAskedAt (case_of file.geometry state c.args.unit c.args.request.now) c.args.part.0
    c.in-Some.place = record {
      current = c.may_change.ensures.current c.if-may_change.true opening is;
      not_catalog = c.may_change.ensures.not_catalog c.if-may_change.true;
      base = sym c.requires.base;
      place_is = subst (λ (w : Case). place_changed w ≡ Some c.in-Some.place) same
          (c.in-Some.ensures state agrees);
    } in
    subst (λ (w : Case). MayWeigh w c.weigh_at.result) same
    (c.weigh_at.ensures.may told volume state agrees stored
    (subst (λ (w : Case). IsSpaceOf c.args.store.now c.args.part.0 w) (sym same) space)
    (subst (λ (w : Case). IsAskedAt w c.args.part.0 c.in-Some.place) (sym same) asked))

pub returns-then-may_change-clause-lacks : goal.returns-then-may_change-clause-lacks
returns-then-may_change-clause-lacks g c told volume opening is going stored space none place at =
    let file = c.args.file.now in
    let state : State = state_now opening file in
    let case = c.case-case.result in
    let image = (g.B.Blocks.seen c.args.blocks.now).cur in
    let deck = c.may_change.ensures.deck c.if-may_change.true in
    let agrees : IsCaseOf case state = c.case-case.ensures.going opening is going deck
    (c.used.ensures ∙ stored.volume.logged.used) (c.free_areas.ensures ∙ space.free)
    (numbers-now (g.B.Blocks.seen c.args.blocks.now) c.args.store.now c.requires.set opening file is
    c.requires.laid c.args.unit c.args.request.now c.args.part.0 c.requires.base space
    c.areas_of-areas.result c.areas_of-areas.ensures
    (g.met.B.Blocks.cur_may c.args.blocks.now told) volume stored
    (c.may_change.ensures.at c.if-may_change.true c.requires.laid).laid _
    (c.place_of.ensures ∙ c.address_for-address.ensures)) in
    let same = whole-is case state file.geometry c.args.unit c.args.request.now
    c.case-case.ensures.geometry c.case-case.ensures.unit c.case-case.ensures.asked in
    let found : place_changed (case_of file.geometry state c.args.unit c.args.request.now)
    ≡ Some c.in-Some.place =
    subst (λ (w : Case). place_changed w ≡ Some c.in-Some.place) same
    (c.in-Some.ensures state agrees) in
    let asked : IsAskedAt (case_of file.geometry state c.args.unit c.args.request.now) c.args.part.0
    c.in-Some.place = record {
      current = c.may_change.ensures.current c.if-may_change.true opening is;
      not_catalog = c.may_change.ensures.not_catalog c.if-may_change.true;
      base = sym c.requires.base;
      place_is = found;
    } in
    let places : Some c.in-Some.place ≡ Some place = sym found ∙ at in
    let here : c.in-Some.place ≡ place = cc in
    subst (λ (p : List ℕ). IfLacks (LacksRoomIn c.args.store.now image c.args.part.0 p
    c.args.request.now) c.weigh_at.result) here
    (subst (λ (r : Request). IfLacks (LacksRoomIn c.args.store.now image c.args.part.0
    c.in-Some.place r) c.weigh_at.result) c.case-case.ensures.asked
    (c.weigh_at.ensures.lacks told volume state agrees stored
    (subst (λ (w : Case). IsSpaceOf c.args.store.now c.args.part.0 w) (sym same) space)
    (subst (λ (w : Case). IsAskedAt w c.args.part.0 c.in-Some.place) (sym same) asked)
    (subst (λ (w : Case). first_of (file_refusals w) ≡ None) (sym same) none)))
