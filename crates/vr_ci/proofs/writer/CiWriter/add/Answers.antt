use Rattle.std.proofs.Common.{ℕ, Bool, true, false, List, ◌≡◌, ◌+◌, ◌-◌, ◌≤◌, ◌∙◌, ap, sym, refl}
use Rattle.std.proofs.Common.{length, arith}
use Rattle.vr_ci_match.specs.declared.rdf.Rdf.TheVariants.{Single}
use Rattle.vr_ci_match.specs.Rdf.{rdf_bytes}
use Rattle.vr_ci.specs.Writer.{written, run_rdf}
use Rattle.vr_types.specs.Fields.{with_bytes}
use Rattle.vr_ci.proofs.WriterLemmas.{room_held, single_held, live_held, run_stands}
use Rattle.vr_ci.proofs.writer.CiWriter.add.Goals as goal

pub returns-then-need-free-clause-full : goal.returns-then-need-free-clause-full
returns-then-need-free-clause-full c =
    λ items h. (
      (λ _. omega (arith, c.if-need-free.true, room_held c.args.self.now items h)),
      (λ _. refl),
    )

pub returns-then-need-free-clause-room : goal.returns-then-need-free-clause-room
returns-then-need-free-clause-room c =
    λ items h. (refl, omega (arith, room_held c.args.self.now items h))

pub returns-then-goes_on-clause-full : goal.returns-then-goes_on-clause-full
returns-then-goes_on-clause-full c =
    λ items h. (
      (λ e. absurd cc),
      (λ l. absurd (omega (
        arith,
        l,
        c.if-need-free.false,
        room_held c.args.self.now items h,
        c.args.self.now.room,
      ))),
    )

pub returns-else-goes_on-clause-full : goal.returns-else-goes_on-clause-full
returns-else-goes_on-clause-full c =
    λ items h. (
      (λ e. absurd cc),
      (λ l. absurd (omega (
        arith,
        l,
        c.if-need-free.false,
        room_held c.args.self.now items h,
        c.args.self.now.room,
      ))),
    )

pub returns-then-goes_on-clause-ok : goal.returns-then-goes_on-clause-ok
returns-then-goes_on-clause-ok c = λ items h.
    let old = c.args.self.now in
    let item = c.args.item.now in
    let goes = c.goes_on.ensures.0 c.if-goes_on.true in
    let place : old.front + length item ≤ old.back - 3 =
    omega (arith, c.if-need-free.false, old.control) in
    let is_put : c.put_item.new.out ≡ with_bytes old.out.now old.front item =
    c.put_item.ensures ∙ ap (λ (b : Bool). with_bytes old.out.now old.front (written item b).bytes)
    goes.0 in
    let stands = ap (λ (z : List ℕ). Rattle.std.specs.Prelude.take
    (length (rdf_bytes (run_rdf old.run_length old.run_count)))
    (Rattle.std.specs.Prelude.drop old.back z)) is_put
    ∙ run_stands old items item h goes.1 (omega (arith, place)) in
    let run = c.extend_run-self.ensures.run old.run_length stands in
    live_held old _ items item c.args.live goes.0 h c.requires goes.1
    (omega (arith, old.run, old.room, old.most)) goes.2 refl refl refl
    (omega (arith, place, c.extend_run-self.ensures.place.1)) run.0 (run.1
    ∙ ap (λ (z : List ℕ). with_bytes z c.extend_run-self.result
    (rdf_bytes (run_rdf old.run_length (old.run_count + 1)))) is_put) refl refl

pub returns-else-goes_on-clause-ok : goal.returns-else-goes_on-clause-ok
returns-else-goes_on-clause-ok c = λ items h.
    let old = c.args.self.now in
    let item = c.args.item.now in
    single_held old _ items item c.args.live h c.requires
    (omega (arith, c.if-need-free.false, old.most))
    (λ l n e. let z : false ≡ true = sym c.if-goes_on.false ∙ c.goes_on.ensures.1 (l, n, e) in cc)
    refl refl refl (omega (arith, c.if-need-free.false, old.control))
    (omega (arith, c.if-need-free.false, old.control))
    (c.put_rdf.ensures ∙ ap (λ (z : List ℕ). with_bytes z (old.back - 3)
    (rdf_bytes (Single c.args.live (length item)))) c.put_item.ensures)
    refl c.run_started-self.ensures
