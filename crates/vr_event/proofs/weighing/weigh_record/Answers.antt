use Rattle.std.proofs.Common.{◌≢◌, ℕ, List, None, Option, ap, subst, sym, ◌∙◌}
use Rattle.vr_catalog.specs.declared.entry.CatEntry.{CatEntry}
use Rattle.std.specs.Option.{option_and_then}
use Rattle.vr_types.specs.declared.reply.Refusal.{Refusal}
use Rattle.vr_history.specs.Step.{stand_refused}
use Rattle.vr_types.proofs.CallerLemmas.{keeps-none}
use Rattle.vr_history.specs.State.{Logged}
use Rattle.vr_undo.specs.Records.{is_logged_in}
use Rattle.vr_answer.specs.InHand.{whole}
use Rattle.vr_event.specs.Lacking.{AreWanting, IsWanting, LacksRoomIn}
use Rattle.vr_event.specs.Putting.{AreLaidBy, IsRefusedBy, IsSpaceOf}
use Rattle.vr_store.specs.Store.{part_among}
use Rattle.vr_event.proofs.Weighs.{asks-change, refuse-memory, refuse-unless, stays-unless}
use Rattle.vr_event.proofs.WeighsAt.{logs-here, ready-at}
use Rattle.vr_event.proofs.Lacks.{are-fact, unless-is}
use Rattle.vr_event.proofs.Wanting.{lacks-wanting}
use Rattle.vr_event.proofs.weighing.weigh_record.Goals as goal

pub returns-in-Err-clause-may : goal.returns-in-Err-clause-may
returns-in-Err-clause-may g c told volume state is at stored space asked =
    let w = whole c.args.case.now state in
    refuse-memory w (asks-change w w.request c.args.place asked.place_is)

pub returns-in-Err-clause-keeps : goal.returns-in-Err-clause-keeps
returns-in-Err-clause-keeps g c =
    keeps-none g.B.Blocks.tells (g.B.Blocks.seen c.args.blocks.now)
    (λ told image is. g.met.B.Blocks.images_may c.args.blocks.now image told is)

pub returns-in-Ok-Some-clause-may : goal.returns-in-Ok-Some-clause-may
returns-in-Ok-Some-clause-may g c told volume state is at stored space asked =
    let w = whole c.args.case.now state in
    refuse-unless w (asks-change w w.request c.args.place asked.place_is) c.in-Ok-Some.refusal
    c.unless_fault.result c.unless_fault.ensures.is
    (subst (IsRefusedBy w) c.in-Ok-Some.field-0-is
    (c.in-Ok-Some.ensures.value state is (c.slice_of.ensures ∙ at)
    (c.has_logged-logged.ensures
    ∙ ap (λ (l : List Logged). is_logged_in c.args.case.now.unit c.args.part.0 c.args.place l)
    stored.logged ∙ logs-here w c.args.part.0 c.args.place asked)
    (c.is_live-live.ensures ∙ stored.volume.logged.live c.args.case.now.unit)
    (asks-change w w.request c.args.place asked.place_is)))

pub returns-in-Ok-Some-clause-fits : goal.returns-in-Ok-Some-clause-fits
returns-in-Ok-Some-clause-fits g c =
    stays-unless c.args.case.now.request.now c.in-Ok-Some.refusal c.unless_fault.result
    c.unless_fault.ensures.is
    (ap (λ (o : Option Refusal). option_and_then (stand_refused c.args.case.now.request.now) o)
    (sym c.in-Ok-Some.field-0-is)
    ∙ c.in-Ok-Some.ensures.stays c.requires.change)

pub returns-in-Ok-Some-clause-keeps : goal.returns-in-Ok-Some-clause-keeps
returns-in-Ok-Some-clause-keeps g c =
    keeps-none g.B.Blocks.tells (g.B.Blocks.seen c.args.blocks.now)
    (λ told image is. g.met.B.Blocks.images_may c.args.blocks.now image told is)

pub returns-in-Some-clause-may : goal.returns-in-Some-clause-may
returns-in-Some-clause-may g c told volume state is at stored space asked =
    let w = whole c.args.case.now state in
    c.weigh_room.ensures.may told volume state is at stored space
    (ready-at w c.args.part.0 c.args.place asked c.args.old at
    (subst (IsRefusedBy w) c.in-Ok-None.field-0-is
    (c.in-Ok-None.ensures.value state is (c.slice_of.ensures ∙ at)
    (c.has_logged-logged.ensures
    ∙ ap (λ (l : List Logged). is_logged_in c.args.case.now.unit c.args.part.0 c.args.place l)
    stored.logged ∙ logs-here w c.args.part.0 c.args.place asked)
    (c.is_live-live.ensures ∙ stored.volume.logged.live c.args.case.now.unit)
    (asks-change w w.request c.args.place asked.place_is))))

pub returns-in-None-clause-may : goal.returns-in-None-clause-may
returns-in-None-clause-may g c told volume state is at stored space asked =
    let w = whole c.args.case.now state in
    refuse-memory w (asks-change w w.request c.args.place asked.place_is)

pub returns-in-None-clause-keeps : goal.returns-in-None-clause-keeps
returns-in-None-clause-keeps g c =
    keeps-none g.B.Blocks.tells (g.B.Blocks.seen c.args.blocks.now)
    (λ told image is. g.met.B.Blocks.images_may c.args.blocks.now image told is)

pub returns-in-Ok-Some-clause-lacks : goal.returns-in-Ok-Some-clause-lacks
returns-in-Ok-Some-clause-lacks g c told volume state is at stored space asked none =
    let w = whole c.args.case.now state in
    let store = c.args.store.now in
    let now = g.B.Blocks.seen c.args.blocks.now in
    let base = c.requires.base in
    let fact = LacksRoomIn store now.cur c.args.part.0 c.args.place c.args.case.now.request.now in
    unless-is fact c.in-Ok-Some.refusal c.unless_fault.result c.unless_fault.ensures.is
    (are-fact (IsWanting w) fact (λ need left wants.
    subst (λ (n : ℕ). LacksRoomIn store now.cur n c.args.place w.request need left) (sym base)
    (lacks-wanting w store now c.requires.set (g.met.B.Blocks.cur_may c.args.blocks.now told)
    (c.requires.stands told)
    (subst (λ (entries : List CatEntry). AreLaidBy c.args.case.now.geometry entries store.parts)
    is.file.catalog c.requires.laid)
    (subst (λ (n : ℕ). IsSpaceOf store n w) base space) c.args.place asked.place_is none need left
    wants
    (subst (λ (n : ℕ). part_among store.parts n ≢ None) base c.requires.at.laid)))
    c.in-Ok-Some.refusal
    (subst (AreWanting w) c.in-Ok-Some.field-0-is
    (c.in-Ok-Some.ensures.lacks state is (c.slice_of.ensures ∙ at)
    (c.has_logged-logged.ensures
    ∙ ap (λ (l : List Logged). is_logged_in c.args.case.now.unit c.args.part.0 c.args.place l)
    stored.logged ∙ logs-here w c.args.part.0 c.args.place asked)
    (c.is_live-live.ensures ∙ stored.volume.logged.live c.args.case.now.unit)
    (asks-change w w.request c.args.place asked.place_is))))
