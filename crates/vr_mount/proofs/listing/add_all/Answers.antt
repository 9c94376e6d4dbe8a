use Rattle.std.proofs.Common.{refl, sym, ◌∙◌, ap, subst, Option, None, List, ℕ}
use Rattle.vr_types.proofs.CallerLemmas.{keeps-none, keeps-then}
use Rattle.vr_space.specs.Part.{Shape, place_length}
use Rattle.vr_mount.specs.Listing.{AreAllPlaces}
use Rattle.vr_mount.proofs.Reading.{AreRead, none_read, added_read, ended_read, still_stands}
use Rattle.vr_mount.proofs.Reading.{still_knows, still_on, cause_ok, cause_memory}
use Rattle.vr_mount.proofs.listing.add_all.Goals as goal

pub loop-turn-init : goal.loop-turn-init
loop-turn-init g c =
    let shape = g.P.Part.shape c.args.part.now in
    let image = (g.B.Blocks.seen c.args.blocks.now).cur in
    record {
      keeps = keeps-none g.B.Blocks.tells (g.B.Blocks.seen c.args.blocks.now)
          (λ told image left. g.met.B.Blocks.images_may c.args.blocks.now image told left);
      read = λ told content stands.
          subst (λ (last : Option (List ℕ)). AreRead shape image last c.args.records.now.items
          content) (sym c.requires.first)
          (subst (λ (read : List (List ℕ)). AreRead shape image None read content)
          (sym c.requires.none) (none_read shape image content stands));
      faults = refl;
      shape = refl;
      known = refl;
      put = refl;
    }

pub add_next-requires : goal.add_next-requires
add_next-requires g c =
    let P = g.P.Part in
    let seen = g.B.Blocks.seen in
    record {
      on = still_on g.B.Blocks.tells (P.shape c.args.part.now) (P.shape c.loop-turn.part)
          (seen c.args.blocks.now) (seen c.loop-turn.blocks) c.loop-turn.invariant.keeps
          c.loop-turn.invariant.shape c.requires.on;
      length = ap place_length c.loop-turn.invariant.shape ∙ c.requires.length;
      places = subst (λ (shape : Shape). AreAllPlaces shape c.args.length)
          (sym c.loop-turn.invariant.shape) c.requires.places;
      stands = still_stands g.B.Blocks.tells (P.shape c.args.part.now) (P.shape c.loop-turn.part)
          (seen c.args.blocks.now) (seen c.loop-turn.blocks) c.loop-turn.invariant.keeps
          c.loop-turn.invariant.shape c.requires.stands;
      knows = still_knows g.B.Blocks.tells (P.shape c.args.part.now) (P.shape c.loop-turn.part)
          (P.known c.args.part.now) (P.known c.loop-turn.part) (seen c.args.blocks.now)
          (seen c.loop-turn.blocks) c.loop-turn.invariant.keeps c.loop-turn.invariant.shape
          c.loop-turn.invariant.known c.requires.knows;
    }

pub loop-turn-preserved : goal.loop-turn-preserved
loop-turn-preserved g c =
    let P = g.P.Part in
    let seen = g.B.Blocks.seen in
    record {
      keeps = keeps-then g.B.Blocks.tells (seen c.args.blocks.now) (seen c.loop-turn.blocks)
          (seen c.add_next.new.blocks) c.loop-turn.invariant.keeps c.add_next.ensures.keeps;
      read = λ told. added_read (P.shape c.args.part.now) (P.shape c.loop-turn.part)
          (seen c.args.blocks.now).cur (seen c.loop-turn.blocks).cur c.loop-turn.last
          c.add_next.new.last c.loop-turn.records.items c.add_next.new.records.items
          c.in_ok-more.more c.loop-turn.invariant.shape (c.loop-turn.invariant.keeps.content told)
          c.if-not-more.false (c.in_ok-more.ensures.added told)
          (c.loop-turn.invariant.read told);
      faults = c.in_ok-more.ensures.cause.ok ∙ c.loop-turn.invariant.faults;
      shape = c.add_next.ensures.shape ∙ c.loop-turn.invariant.shape;
      known = c.add_next.ensures.known ∙ c.loop-turn.invariant.known;
      put = c.add_next.ensures.put ∙ c.loop-turn.invariant.put;
    }

pub returns-then-not-more-clause-records : goal.returns-then-not-more-clause-records
returns-then-not-more-clause-records g c told =
    let P = g.P.Part in
    let seen = g.B.Blocks.seen in
    ended_read (P.shape c.args.part.now) (P.shape c.loop-turn.part)
    (seen c.args.blocks.now).cur (seen c.loop-turn.blocks).cur c.loop-turn.last
    c.add_next.new.last c.loop-turn.records.items c.add_next.new.records.items
    c.in_ok-more.more c.loop-turn.invariant.shape (c.loop-turn.invariant.keeps.content told)
    c.if-not-more.true (c.in_ok-more.ensures.added told) (c.loop-turn.invariant.read told)

pub returns-then-not-more-clause-keeps : goal.returns-then-not-more-clause-keeps
returns-then-not-more-clause-keeps g c =
    let seen = g.B.Blocks.seen in
    keeps-then g.B.Blocks.tells (seen c.args.blocks.now) (seen c.loop-turn.blocks)
    (seen c.add_next.new.blocks) c.loop-turn.invariant.keeps c.add_next.ensures.keeps

pub returns-in_err-more-clause-keeps : goal.returns-in_err-more-clause-keeps
returns-in_err-more-clause-keeps g c =
    let seen = g.B.Blocks.seen in
    keeps-then g.B.Blocks.tells (seen c.args.blocks.now) (seen c.loop-turn.blocks)
    (seen c.add_next.new.blocks) c.loop-turn.invariant.keeps c.add_next.ensures.keeps

pub returns-then-not-more-clause-cause : goal.returns-then-not-more-clause-cause
returns-then-not-more-clause-cause g c =
    cause_ok _ _ _ (c.in_ok-more.ensures.cause.ok ∙ c.loop-turn.invariant.faults)

pub returns-clause-cause : goal.returns-clause-cause
returns-clause-cause g c = cause_memory _ _ c.loop-turn.invariant.faults
