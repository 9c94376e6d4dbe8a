use Rattle.std.proofs.Common.{◌≡◌, ◌++◌, ℕ, List, map, sym, ap, subst, ◌∙◌, drop, length, take}
use Rattle.std.specs.Prelude.{All}
use Rattle.std.proofs.lemmas.List.{take_at}
use Rattle.std.proofs.lemmas.Result.{err_from_is_err_and}
use Rattle.vr_types.specs.Image.{Image}
use Rattle.vr_types.proofs.CallerLemmas.{keeps-then}
use Rattle.vr_part.specs.Any.{shape_any}
use Rattle.vr_part.specs.declared.any.AnyPart.{AnyPart}
use Rattle.vr_space.specs.Part.{IsOn, Shape}
use Rattle.vr_volume.specs.PutBack.{images_of}
use Rattle.vr_recover.specs.Found.{AllStand, AreKnown, HasRoomOf, IsBackNo, IsFound}
use Rattle.vr_recover.specs.Found.{IsPlanned, MayGoBack, ShowsOnly}
use Rattle.vr_recover.specs.Opening.{HasNoSplit}
use Rattle.vr_recover.proofs.Attaching.{of-still}
use Rattle.vr_recover.proofs.NumberOrder.{shapes-lay}
use Rattle.vr_recover.proofs.Owning.{known-know, owners-reached}
use Rattle.vr_recover.proofs.Refusals.{back-refused, log-long, mount-refused}
use Rattle.vr_recover.proofs.Refusals.{shapes-on, shapes-stand}
use Rattle.vr_recover.proofs.finding.find.Goals as goal

pub returns-in_err-mounted-clause-refused : goal.returns-in_err-mounted-clause-refused
returns-in_err-mounted-clause-refused g c told number header spelled =
    let geometry = c.args.geometry.now in
    let content = c.args.begun.now.content in
    let a = g.B.Blocks.seen c.args.blocks.now in
    let long = log-long geometry a c.requires.allowed c.requires.shape
    (g.met.B.Blocks.cur_may c.args.blocks.now told)
    (λ n block below may. g.met.B.Blocks.sized c.args.blocks.now n block told below may) in
    let p = err_from_is_err_and c.from_residual.result c.from_residual.ensures.1 in
    rw (p.1, p.2) (mount-refused number geometry a c.requires.allowed c.requires.shape header
    content long spelled c.in_err-mounted.field-0.0 (c.in_err-mounted.ensures.damaged told))

pub images_to_undo-requires-clause-on : goal.images_to_undo-requires-clause-on
images_to_undo-requires-clause-on g c =
    let geometry = c.args.geometry.now in
    let now = g.B.Blocks.seen c.mount.new.blocks in
    let parts : List AnyPart = c.mount.new.parts.items in
    let mounted = c.in_ok-mounted.ensures.mounted in
    subst (λ (ps : List AnyPart). All (λ (shape : Shape). IsOn shape now) (map shape_any ps))
    (sym c.deref_mut.ensures.value)
    (shapes-on geometry c.in_ok-mounted.mounted.catalog.value (map shape_any parts) now
    c.requires.allowed
    (of-still g.B.Blocks.tells geometry (g.B.Blocks.seen c.args.blocks.now) now
    c.mount.ensures.keeps c.requires.shape) mounted.may
    (shapes-lay geometry c.in_ok-mounted.mounted.catalog.value (map shape_any parts)
    mounted.may.distinct mounted.shapes))

pub images_to_undo-requires-clause-stand : goal.images_to_undo-requires-clause-stand
images_to_undo-requires-clause-stand g c told =
    let cur = (g.B.Blocks.seen c.mount.new.blocks).cur in
    subst (λ (ps : List AnyPart). AllStand (map shape_any ps) cur) (sym c.deref_mut.ensures.value)
    (subst (AllStand (map shape_any c.mount.new.parts.items))
    (sym (c.mount.ensures.keeps.content told)) (c.in_ok-mounted.ensures.stand told))

pub images_to_undo-requires-clause-known : goal.images_to_undo-requires-clause-known
images_to_undo-requires-clause-known g c told =
    let cur = (g.B.Blocks.seen c.mount.new.blocks).cur in
    subst (λ (ps : List AnyPart). AreKnown ps cur) (sym c.deref_mut.ensures.value)
    (subst (AreKnown c.mount.new.parts.items) (sym (c.mount.ensures.keeps.content told))
    (c.in_ok-mounted.ensures.known told))

pub returns-in_err-undo-clause-refused : goal.returns-in_err-undo-clause-refused
returns-in_err-undo-clause-refused g c told number header spelled =
    let geometry = c.args.geometry.now in
    let content = c.args.begun.now.content in
    let a = g.B.Blocks.seen c.args.blocks.now in
    let shapes = map shape_any c.mount.new.parts.items in
    let entries = c.in_ok-mounted.mounted.catalog.value in
    let mounted = c.in_ok-mounted.ensures.mounted in
    let long = log-long geometry a c.requires.allowed c.requires.shape
    (g.met.B.Blocks.cur_may c.args.blocks.now told)
    (λ n block below may. g.met.B.Blocks.sized c.args.blocks.now n block told below may) in
    let laid = shapes-lay geometry entries shapes mounted.may.distinct mounted.shapes in
    let p = err_from_is_err_and c.from_residual-in_err-undo.result
    c.from_residual-in_err-undo.ensures.1 in
    rw (p.1, p.2) (back-refused number geometry a c.requires.allowed c.requires.shape header
    content long spelled entries (c.in_ok-mounted.ensures.entries told) mounted.may.distinct
    (shapes-stand geometry entries shapes a.cur laid (c.in_ok-mounted.ensures.stand told)) shapes
    laid c.in_err-undo.field-0.0
    (subst (λ (image : Image). ShowsOnly (IsBackNo (images_of content.records) shapes image)
    c.in_err-undo.field-0.0) (c.mount.ensures.keeps.content told)
    (subst (λ (ps : List AnyPart). ShowsOnly (IsBackNo (images_of content.records)
    (map shape_any ps) (g.B.Blocks.seen c.mount.new.blocks).cur) c.in_err-undo.field-0.0)
    c.deref_mut.ensures.value (c.in_err-undo.ensures.damaged told))))

-- what was lent of a list is that list again, where it stayed as it was
lent-back : (lent all : List AnyPart) (n : ℕ) → lent ≡ all → n ≡ length all
    → take n (lent ++ drop (length lent) all) ≡ all
lent-back lent all n same long = take_at lent (drop (length lent) all) n
    (ap (λ (parts : List AnyPart). length parts) same ∙ sym long) ∙ same

pub returns-clause-planned : goal.returns-clause-planned
returns-clause-planned g c =
    let geometry = c.args.geometry.now in
    let content = c.args.begun.now.content in
    let mounted = c.in_ok-mounted.ensures.mounted in
    let parts : List AnyPart = c.mount.new.parts.items in
    subst (λ (ps : List AnyPart). IsPlanned geometry content c.in_ok-mounted.mounted.catalog.value
    (map shape_any ps))
    (sym (lent-back c.images_to_undo.new.parts parts c.mount.new.parts.len
    (c.images_to_undo.ensures.same ∙ c.deref_mut.ensures.value) c.mount.new.parts.ok.0))
    (record {
      shapes_are = mounted.shapes;
      may = mounted.may;
      apart = mounted.apart;
      served = mounted.served;
      back = subst (λ (ps : List AnyPart). MayGoBack (images_of content.records) (map shape_any ps))
          c.deref_mut.ensures.value c.in_ok-undo.ensures.back;
    })

pub returns-clause-found : goal.returns-clause-found
returns-clause-found g c told number header spelled =
    let geometry = c.args.geometry.now in
    let content = c.args.begun.now.content in
    let images = images_of content.records in
    let mounted = c.in_ok-mounted.ensures.mounted in
    let entries = c.in_ok-mounted.mounted.catalog.value in
    let owners = c.in_ok-mounted.mounted.space in
    let parts : List AnyPart = c.mount.new.parts.items in
    let a = g.B.Blocks.seen c.args.blocks.now in
    subst (λ (ps : List AnyPart). IsFound geometry number content entries (map shape_any ps) owners
    a.cur)
    (sym (lent-back c.images_to_undo.new.parts parts c.mount.new.parts.len
    (c.images_to_undo.ensures.same ∙ c.deref_mut.ensures.value) c.mount.new.parts.ok.0))
    (record {
      header = header;
      spelled = spelled;
      entries_are = c.in_ok-mounted.ensures.entries told;
      stand = c.in_ok-mounted.ensures.stand told;
      rooms = subst (λ (image : Image). All (HasRoomOf images image) (map shape_any parts))
          (c.mount.ensures.keeps.content told)
          (subst (λ (ps : List AnyPart). All (HasRoomOf images
          (g.B.Blocks.seen c.mount.new.blocks).cur) (map shape_any ps)) c.deref_mut.ensures.value
          (c.in_ok-undo.ensures.room told));
      owned = owners-reached geometry entries parts owners
          (shapes-lay geometry entries (map shape_any parts) mounted.may.distinct mounted.shapes)
          mounted.owned a (known-know parts a (c.in_ok-mounted.ensures.known told));
    })

pub returns-clause-split : goal.returns-clause-split
returns-clause-split g c =
    let parts : List AnyPart = c.mount.new.parts.items in
    subst (All HasNoSplit)
    (sym (lent-back c.images_to_undo.new.parts parts c.mount.new.parts.len
    (c.images_to_undo.ensures.same ∙ c.deref_mut.ensures.value) c.mount.new.parts.ok.0))
    c.in_ok-mounted.ensures.mounted.split

pub returns-in_err-undo-clause-keeps : goal.returns-in_err-undo-clause-keeps
returns-in_err-undo-clause-keeps g c =
    keeps-then g.B.Blocks.tells (g.B.Blocks.seen c.args.blocks.now)
    (g.B.Blocks.seen c.mount.new.blocks) (g.B.Blocks.seen c.images_to_undo.new.blocks)
    c.mount.ensures.keeps c.images_to_undo.ensures.keeps

pub returns-clause-keeps : goal.returns-clause-keeps
returns-clause-keeps g c =
    keeps-then g.B.Blocks.tells (g.B.Blocks.seen c.args.blocks.now)
    (g.B.Blocks.seen c.mount.new.blocks) (g.B.Blocks.seen c.images_to_undo.new.blocks)
    c.mount.ensures.keeps c.images_to_undo.ensures.keeps
