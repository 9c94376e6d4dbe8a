use Rattle.std.proofs.Common.{true, ◌==◌, ◌≡◌, ◌∙◌, ℕ, List, Option, ap, subst, sym}
use Rattle.std.specs.Option.{option_and_then, option_map}
use Rattle.std.proofs.lemmas.Bool.Decides.{Decides-eqb}
use Rattle.vr_types.specs.declared.unit.PartNo.{PartNo}
use Rattle.vr_types.proofs.CallerLemmas.{guards-start, touches-weaken}
use Rattle.vr_types.specs.Content.{Standing, record_of}
use Rattle.vr_space.specs.Part.{CanSet, HasRoom, InPart, SetsOne, part_no}
use Rattle.vr_history.specs.State.{BeforeImage}
use Rattle.vr_log.specs.Live.{live_in}
use Rattle.vr_volume.specs.Laying.{IsFreeIn, IsLaidSo}
use Rattle.vr_volume.specs.Safe.{IsSafeImage}
use Rattle.vr_volume.proofs.Images.{image_of}
use Rattle.vr_volume.proofs.Recovering.{each_image_is_safe}
use Rattle.vr_mount.specs.Touched.{Anything}
use Rattle.vr_mount.proofs.CallerLemmas.{touches-none}
use Rattle.vr_recover.specs.Undone.{ArePutBack, HasKeptFor, IsKeptAt, IsLeftIn}
use Rattle.vr_recover.proofs.PuttingBack.{can-go-back, live-has, live-list, one-back, record-is}
use Rattle.vr_recover.proofs.undone.put_record.Goals as goal

same-number : (one other : ℕ) → true ≡ (one == other) → one ≡ other
same-number one other is = (Decides-eqb one other).0 (sym is)

pub returns-in_ok-set_free-clause-safe : goal.returns-in_ok-set_free-clause-safe
returns-in_ok-set_free-clause-safe g c told geometry member owners committed safe laid free =
    let log = c.args.log.now in
    let shape = g.P.Part.shape c.args.part.now in
    let here : IsFreeIn log c.in-Before.owner.0 c.in-Before.place =
    live-has (live_in log.records) c.in-Before.unit c.in-Before.owner c.in-Before.place
    c.in-Before.old (sym c.if-is_live.ensures) c.args.rec.now c.in-Before.is
    (λ (image : BeforeImage). IsFreeIn log image.part image.place) free in
    let mine : c.in-Before.owner.0 ≡ c.args.number.0 =
    same-number c.in-Before.owner.0 c.args.number.0 c.if-eq.ensures in
    let number : c.args.number ≡ part_no shape = sym c.requires.number in
    c.set_free.ensures.safe told geometry member owners log committed safe
    (subst (λ (no : PartNo). IsLaidSo geometry log committed no.0 shape
    (g.K.Kept.kept c.args.kept.now no)) number laid)
    (subst (λ (no : ℕ). IsFreeIn log no c.in-Before.place)
    (mine ∙ sym (ap (λ (no : PartNo). no.0) c.requires.number)) here)

pub returns-in_err-set_free-clause-safe : goal.returns-in_err-set_free-clause-safe
returns-in_err-set_free-clause-safe g c told geometry member owners committed safe laid free =
    let log = c.args.log.now in
    let shape = g.P.Part.shape c.args.part.now in
    let here : IsFreeIn log c.in-Before.owner.0 c.in-Before.place =
    live-has (live_in log.records) c.in-Before.unit c.in-Before.owner c.in-Before.place
    c.in-Before.old (sym c.if-is_live.ensures) c.args.rec.now c.in-Before.is
    (λ (image : BeforeImage). IsFreeIn log image.part image.place) free in
    let mine : c.in-Before.owner.0 ≡ c.args.number.0 =
    same-number c.in-Before.owner.0 c.args.number.0 c.if-eq.ensures in
    let number : c.args.number ≡ part_no shape = sym c.requires.number in
    c.set_free.ensures.safe told geometry member owners log committed safe
    (subst (λ (no : PartNo). IsLaidSo geometry log committed no.0 shape
    (g.K.Kept.kept c.args.kept.now no)) number laid)
    (subst (λ (no : ℕ). IsFreeIn log no c.in-Before.place)
    (mine ∙ sym (ap (λ (no : PartNo). no.0) c.requires.number)) here)

pub returns-in_ok-set_free-clause-back : goal.returns-in_ok-set_free-clause-back
returns-in_ok-set_free-clause-back g c told content left =
    let live = live_in c.args.log.now.records in
    let shape = g.P.Part.shape c.args.part.now in
    let a = g.B.Blocks.seen c.args.blocks.now in
    let b = g.B.Blocks.seen c.set_free.new.blocks in
    let image : BeforeImage =
    image_of c.in-Before.unit c.in-Before.owner c.in-Before.place c.in-Before.old in
    let mine : c.in-Before.owner.0 ≡ (part_no shape).0 =
    same-number c.in-Before.owner.0 c.args.number.0 c.if-eq.ensures
    ∙ sym (ap (λ (no : PartNo). no.0) c.requires.number) in
    subst (λ (images : List BeforeImage). ArePutBack shape content images a b)
    (sym (live-list live c.in-Before.unit c.in-Before.owner c.in-Before.place c.in-Before.old
    (sym c.if-is_live.ensures) c.args.rec.now c.in-Before.is))
    (one-back shape content image c.in-Before.old a b
    (subst (λ (found : Option (List ℕ)). SetsOne shape c.in-Before.place found a.cur b.cur)
    c.bytes_of.ensures.given (c.in_ok-set_free.ensures.set told))
    (record-is c.in-Before.old) mine
    (live-has live c.in-Before.unit c.in-Before.owner c.in-Before.place c.in-Before.old
    (sym c.if-is_live.ensures) c.args.rec.now c.in-Before.is (IsLeftIn shape content a.cur) left))

pub returns-in_ok-set_free-clause-touches : goal.returns-in_ok-set_free-clause-touches
returns-in_ok-set_free-clause-touches g c told owners ready =
    let shape = g.P.Part.shape c.args.part.now in
    touches-weaken (InPart shape owners)
    (HasRoom shape (g.K.Kept.kept c.args.kept.now (part_no shape))) Anything
    (g.B.Blocks.seen c.args.blocks.now) (g.B.Blocks.seen c.set_free.new.blocks)
    (c.set_free.ensures.touches told owners ready.rests) (λ image has. tt)

pub returns-in_err-set_free-clause-touches : goal.returns-in_err-set_free-clause-touches
returns-in_err-set_free-clause-touches g c told owners ready =
    let shape = g.P.Part.shape c.args.part.now in
    touches-weaken (InPart shape owners)
    (HasRoom shape (g.K.Kept.kept c.args.kept.now (part_no shape))) Anything
    (g.B.Blocks.seen c.args.blocks.now) (g.B.Blocks.seen c.set_free.new.blocks)
    (c.set_free.ensures.touches told owners ready.rests) (λ image has. tt)

pub returns-else-eq-clause-safe : goal.returns-else-eq-clause-safe
returns-else-eq-clause-safe g c told geometry member owners committed safe laid free = (
  guards-start (g.B.Blocks.seen c.args.blocks.now)
      (IsSafeImage geometry member owners c.args.log.now committed)
      (λ image there. g.met.B.Blocks.images_may c.args.blocks.now image told there)
      (each_image_is_safe geometry member owners c.args.log.now committed
      (g.B.Blocks.seen c.args.blocks.now) safe),
  safe,
)

pub returns-else-eq-clause-touches : goal.returns-else-eq-clause-touches
returns-else-eq-clause-touches g c told owners ready =
    touches-none (InPart (g.P.Part.shape c.args.part.now) owners)
    (g.B.Blocks.seen c.args.blocks.now)
    (λ image there. g.met.B.Blocks.images_may c.args.blocks.now image told there)

pub returns-in_default-clause-safe : goal.returns-in_default-clause-safe
returns-in_default-clause-safe g c told geometry member owners committed safe laid free = (
  guards-start (g.B.Blocks.seen c.args.blocks.now)
      (IsSafeImage geometry member owners c.args.log.now committed)
      (λ image there. g.met.B.Blocks.images_may c.args.blocks.now image told there)
      (each_image_is_safe geometry member owners c.args.log.now committed
      (g.B.Blocks.seen c.args.blocks.now) safe),
  safe,
)

pub returns-in_default-clause-touches : goal.returns-in_default-clause-touches
returns-in_default-clause-touches g c told owners ready =
    touches-none (InPart (g.P.Part.shape c.args.part.now) owners)
    (g.B.Blocks.seen c.args.blocks.now)
    (λ image there. g.met.B.Blocks.images_may c.args.blocks.now image told there)

pub set_free-requires-clause-rests : goal.set_free-requires-clause-rests
set_free-requires-clause-rests g c told =
    ((c.requires.ready told).0, (c.requires.ready told).1.rests)

pub set_free-requires-clause-can : goal.set_free-requires-clause-can
set_free-requires-clause-can g c told =
    let shape = g.P.Part.shape c.args.part.now in
    let kept = g.K.Kept.kept c.args.kept.now in
    let mine : c.in-Before.owner.0 ≡ (part_no shape).0 =
    same-number c.in-Before.owner.0 c.args.number.0 c.if-eq.ensures
    ∙ sym (ap (λ (no : PartNo). no.0) c.requires.number) in
    let room : IsKeptAt (kept c.args.number) c.in-Before.place
    (option_and_then record_of (option_map Standing c.in-Before.old)) =
    live-has (live_in c.args.log.now.records) c.in-Before.unit c.in-Before.owner c.in-Before.place
    c.in-Before.old (sym c.if-is_live.ensures) c.args.rec.now c.in-Before.is
    (HasKeptFor shape (kept c.args.number)) c.requires.kept mine in
    subst (λ (old : Option (List ℕ)). CanSet shape (g.P.Part.known c.args.part.now)
    (g.B.Blocks.seen c.args.blocks.now).cur (kept (part_no shape)) c.in-Before.place old)
    (sym c.bytes_of.ensures.given)
    (can-go-back shape (g.P.Part.known c.args.part.now) (g.B.Blocks.seen c.args.blocks.now).cur
    (kept (part_no shape)) c.in-Before.place c.in-Before.old c.requires.split c.requires.moves
    (subst (λ (no : PartNo). IsKeptAt (kept no) c.in-Before.place c.in-Before.old)
    (sym c.requires.number)
    (subst (IsKeptAt (kept c.args.number) c.in-Before.place) (record-is c.in-Before.old) room)))
