use Rattle.std.proofs.Common.{◌≡◌, ◌∙◌, IsTrue, arith}
use Rattle.vr_types.specs.Seen.{Seen}
use Rattle.vr_attach.specs.Owning.{owner_of}
use Rattle.vr_part.specs.Any.{known_any, shape_any}
use Rattle.vr_part.specs.declared.any.AnyPart.{AnyPart}
use Rattle.vr_part.proofs.Started.{IsEmpty, new-empty, new-holds, new-on, new-owns, part-touches}
use Rattle.vr_part.proofs.Touching.{touches-none}
use Rattle.vr_part.proofs.start.AnyPartStart.start.Given.{Over}
use Rattle.vr_part.proofs.start.AnyPartStart.start.Goals as goal

-- ---- which blocks it touches

pub returns-in_err-block-clause-touches : goal.returns-in_err-block-clause-touches
returns-in_err-block-clause-touches g c told =
    touches-none g.B.Blocks.tells _ _ told
    (λ image left. g.met.B.Blocks.images_may c.args.blocks.now image told left)

pub returns-in_err-write_first-clause-touches : goal.returns-in_err-write_first-clause-touches
returns-in_err-write_first-clause-touches g c told =
    part-touches c.args.geometry.now c.args._space.now c.args.area c.args.part c.requires.first _ _
    (c.write_first.ensures.touches told)

pub returns-in_err-empty-clause-touches : goal.returns-in_err-empty-clause-touches
returns-in_err-empty-clause-touches g c told =
    part-touches c.args.geometry.now c.args._space.now c.args.area c.args.part c.requires.first _ _
    (c.write_first.ensures.touches told)

pub returns-clause-touches : goal.returns-clause-touches
returns-clause-touches g c told =
    part-touches c.args.geometry.now c.args._space.now c.args.area c.args.part c.requires.first _ _
    (c.write_first.ensures.touches told)

-- ---- the part that is answered

module _ (g : Over) (c : goal.After-drop-block-2 g) where
  abbrev now : Seen
  now = g.B.Blocks.seen c.write_first.new.blocks

  abbrev empty : AnyPart
  empty = c.in_ok-empty.empty

  size : now.size ≡ c.args.geometry.now.size
  size = c.write_first.ensures.size ∙ c.requires.size

  is-empty : IsTrue g.B.Blocks.tells → IsEmpty (owner_of c.args.geometry.now c.args._space.now)
      (shape_any empty) (known_any empty) now
  is-empty told = new-empty c.args.geometry.now c.args.part c.args.area c.args.definition.now now
      c.requires.allowed c.requires.area c.requires.sizes
      (omega (arith, c.write_first.ensures.count, c.requires.count)) size (shape_any empty)
      c.in_ok-empty.ensures.shape (known_any empty) c.in_ok-empty.ensures.known
      c.args._space.now c.requires.first (c.in_ok-write_first.ensures.first told)

pub returns-clause-on : goal.returns-clause-on
returns-clause-on g c = new-on c.args.geometry.now c.args.part c.args.area c.args.definition.now
    (now g c) c.requires.allowed c.requires.area c.requires.sizes
    (omega (arith, c.write_first.ensures.count, c.requires.count)) (size g c)
    (shape_any (empty g c)) c.in_ok-empty.ensures.shape (known_any (empty g c))
    c.in_ok-empty.ensures.known

pub returns-clause-holds : goal.returns-clause-holds
returns-clause-holds g c = new-holds c.args.geometry.now c.args.part c.args.area
    c.args.definition.now (now g c) c.requires.allowed c.requires.area c.requires.sizes
    (omega (arith, c.write_first.ensures.count, c.requires.count)) (size g c)
    (shape_any (empty g c)) c.in_ok-empty.ensures.shape (known_any (empty g c))
    c.in_ok-empty.ensures.known

pub returns-clause-owns : goal.returns-clause-owns
returns-clause-owns g c = new-owns c.args.geometry.now c.args.part c.args.area
    c.args.definition.now (now g c) c.requires.allowed c.requires.area c.requires.sizes
    (omega (arith, c.write_first.ensures.count, c.requires.count)) (size g c)
    (shape_any (empty g c)) c.in_ok-empty.ensures.shape (known_any (empty g c))
    c.in_ok-empty.ensures.known c.args._space.now c.requires.alone

pub returns-clause-rests : goal.returns-clause-rests
returns-clause-rests g c told = (is-empty g c told).rests

pub returns-clause-room : goal.returns-clause-room
returns-clause-room g c told = (is-empty g c told).room

pub returns-clause-knows : goal.returns-clause-knows
returns-clause-knows g c told = (is-empty g c told).knows

pub returns-clause-reads : goal.returns-clause-reads
returns-clause-reads g c told = (is-empty g c told).reads

pub returns-clause-firm : goal.returns-clause-firm
returns-clause-firm g c told = (is-empty g c told).firm
