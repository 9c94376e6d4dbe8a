use Rattle.std.proofs.Common.{◌≡◌, ◌↔◌, ℕ, List, Option, Some, None, IsTrue, IfSome, All, subst}
use Rattle.std.proofs.Common.{Bool, sym, refl, ◌∙◌, rules, true≢false}
use Rattle.std.specs.Prelude.{filter}
use Rattle.std.proofs.lemmas.List.Elements.{All-contains, All-weaker}
use Rattle.vr_types.specs.Image.{Image}
use Rattle.vr_types.specs.declared.unit.PartNo.{PartNo}
use Rattle.vr_types.proofs.CallerLemmas.{keeps-none, keeps-then}
use Rattle.vr_space.specs.Numbered.{HasKeptPlace, IsNumberPlace, KeepsNumbered}
use Rattle.vr_space.specs.Part.{NumberedShape, part_no}
use Rattle.vr_space.specs.Room.{length_at}
use Rattle.vr_space.specs.Rosters.{IsOf, Numbered}
use Rattle.vr_space.specs.Whence.{allows, first_of, places_kept}
use Rattle.vr_chained.proofs.KeptEntries.{says-no}
use Rattle.vr_chained.proofs.KeptOrder.{left-end, left-found, left-start}
use Rattle.vr_chained.proofs.rooms.have_entries.Given as over
use Rattle.vr_chained.proofs.rooms.have_entries.Goals as goal

-- what is asked of each entry that is kept
abbrev Asked : over.Over → Numbered → Image → List ℕ × ℕ → Type 0
Asked g part image entry = IsTrue g.B.Blocks.tells → HasKeptPlace part (IsOf image) entry

pub loop-place-init : goal.loop-place-init
loop-place-init g c = record {
  keeps = keeps-none g.B.Blocks.tells (g.B.Blocks.seen c.args.blocks.now)
      (λ told image left. g.met.B.Blocks.images_may c.args.blocks.now image told left);
  faults = refl;
  left = left-start (g.K.Kept.kept c.args.kept.now (part_no (NumberedShape c.args.chain.now.part)))
      (Asked g c.args.chain.now.part (g.B.Blocks.seen c.args.blocks.now).cur);
}

-- each was found there
pub returns-in_default-clause-rooms : goal.returns-in_default-clause-rooms
returns-in_default-clause-rooms g c told =
    let part = c.args.chain.now.part in
    let cur = (g.B.Blocks.seen c.args.blocks.now).cur in
    let kept = g.K.Kept.kept c.args.kept.now (part_no (NumberedShape part)) in
    let none : first_of (filter (allows c.loop-place.from) (places_kept kept)) ≡ None =
    subst (λ (no : PartNo). first_of (filter (allows c.loop-place.from)
    (places_kept (g.K.Kept.kept c.args.kept.now no))) ≡ None) c.part.ensures c.in_default.ensures in
    let all : All (Asked g part cur) kept =
    left-end kept (Asked g part cur) (allows c.loop-place.from) c.loop-place.invariant.left none
    in (
      (λ yes. All-weaker (Asked g part cur) (HasKeptPlace part (IsOf cur))
          (λ entry is. is told) kept all),
      (λ keeps. refl),
    )

-- ---- the next entry

-- what is said of it, by its length, in the image that is kept
there-now : (part : Numbered) (is : Bool) (place : List ℕ) (n : ℕ) (length : Option ℕ)
    → length ≡ Some n → {image other : Image} → other ≡ image
    → IfSome length (λ (m : ℕ). IsTrue is ↔ HasKeptPlace part (IsOf other) (place, m))
    → IsTrue is ↔ HasKeptPlace part (IsOf image) (place, n)
there-now part is place n length at {image} {other} same says =
    subst (λ (now : Image). IsTrue is ↔ HasKeptPlace part (IsOf now) (place, n)) same
    (subst (λ (one : Option ℕ). IfSome one (λ (m : ℕ).
    IsTrue is ↔ HasKeptPlace part (IsOf other) (place, m))) at says)

pub has_entry-requires-clause-place : goal.has_entry-requires-clause-place
has_entry-requires-clause-place g c =
    let part = c.args.chain.now.part in
    let next = left-found (g.K.Kept.kept c.args.kept.now) (g.K.Kept.ascend c.args.kept.now)
    (Asked g part (g.B.Blocks.seen c.args.blocks.now).cur) c.loop-place.from c.part.result
    (part_no (NumberedShape part)) c.in-Some.place.now c.part.ensures c.loop-place.invariant.left
    c.in-Some.ensures in
    All-contains (λ (entry : List ℕ × ℕ). IsNumberPlace part entry.0)
    (g.K.Kept.kept c.args.kept.now (part_no (NumberedShape part))) (c.in-Some.place.now, next.n)
    c.requires.places next.among

-- it isn't there
pub returns-then-not-branch-clause-rooms : goal.returns-then-not-branch-clause-rooms
returns-then-not-branch-clause-rooms g c told =
    let part = c.args.chain.now.part in
    let cur = (g.B.Blocks.seen c.args.blocks.now).cur in
    let kept = g.K.Kept.kept c.args.kept.now (part_no (NumberedShape part)) in
    let place = c.in-Some.place.now in
    let next = left-found (g.K.Kept.kept c.args.kept.now) (g.K.Kept.ascend c.args.kept.now)
    (Asked g part cur) c.loop-place.from c.part.result (part_no (NumberedShape part)) place
    c.part.ensures c.loop-place.invariant.left c.in-Some.ensures in
    let there : IsTrue c.in_ok-has_entry.field-0
    ↔ HasKeptPlace part (IsOf cur) (place, next.n) =
    there-now part c.in_ok-has_entry.field-0 place next.n (length_at kept place) next.at
    (c.loop-place.invariant.keeps.content told) (c.in_ok-has_entry.ensures.has told) in
    says-no (λ (keeps : KeepsNumbered part kept (IsOf cur)). true≢false
    (sym (there.1 (All-contains (HasKeptPlace part (IsOf cur)) kept (place, next.n) keeps
    next.among)) ∙ c.if-not-branch.true))

-- it is
pub loop-place-smaller : goal.loop-place-smaller
loop-place-smaller g c =
    let part = c.args.chain.now.part in
    (left-found (g.K.Kept.kept c.args.kept.now) (g.K.Kept.ascend c.args.kept.now)
    (Asked g part (g.B.Blocks.seen c.args.blocks.now).cur) c.loop-place.from c.part.result
    (part_no (NumberedShape part)) c.in-Some.place.now c.part.ensures c.loop-place.invariant.left
    c.in-Some.ensures).fewer

pub loop-place-preserved : goal.loop-place-preserved
loop-place-preserved g c =
    let part = c.args.chain.now.part in
    let cur = (g.B.Blocks.seen c.args.blocks.now).cur in
    let kept = g.K.Kept.kept c.args.kept.now (part_no (NumberedShape part)) in
    let place = c.in-Some.place.now in
    let next = left-found (g.K.Kept.kept c.args.kept.now) (g.K.Kept.ascend c.args.kept.now)
    (Asked g part cur) c.loop-place.from c.part.result (part_no (NumberedShape part)) place
    c.part.ensures c.loop-place.invariant.left c.in-Some.ensures in
    record {
      keeps = keeps-then g.B.Blocks.tells (g.B.Blocks.seen c.args.blocks.now) _ _
          c.loop-place.invariant.keeps c.has_entry.ensures.keeps;
      faults = search rules;
      left = next.next (λ told. (there-now part c.in_ok-has_entry.field-0 place next.n
          (length_at kept place) next.at (c.loop-place.invariant.keeps.content told)
          (c.in_ok-has_entry.ensures.has told)).0 c.if-not-branch.false);
    }
