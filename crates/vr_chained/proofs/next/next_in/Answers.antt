use Rattle.std.proofs.Common.{◌≡◌, ◌^◌, ◌∙◌, ℕ, Option, IfSome, ap, subst, sym, refl, arith}
use Rattle.vr_types.specs.Fields.{four}
use Rattle.vr_types.specs.PlaceBuffer.{PlaceRoom}
use Rattle.vr_types.proofs.CallerLemmas.{keeps-none}
use Rattle.vr_space.specs.Part.{IsNextPlace, NumberedShape}
use Rattle.vr_space.specs.Numbered.{start_of}
use Rattle.vr_chained.specs.Chain.{ChainNow}
use Rattle.vr_chained.specs.Searched.{IsFirstRead}
use Rattle.vr_chained.proofs.Numbers.{four-bytes}
use Rattle.vr_chained.proofs.NextPlaces.{next-is, next-none, next-nowhere}
use Rattle.vr_chained.proofs.next.next_in.Goals as goal

-- two chains of one part have one first number
starts : {one other : ChainNow} → one ≡ other → start_of one.part ≡ start_of other.part
starts same = ap (λ (chain : ChainNow). start_of chain.part) same

pub returns-in_default-clause-next : goal.returns-in_default-clause-next
returns-in_default-clause-next g c told =
    next-nowhere c.args.chain.now.part (g.B.Blocks.seen c.args.blocks.now).cur c.args.from
    (λ r least. c.in_default.ensures.none refl r
    (omega (arith, c.start.ensures, starts c.chain.view_is, least)))

pub returns-in_default-clause-keeps : goal.returns-in_default-clause-keeps
returns-in_default-clause-keeps g c =
    keeps-none g.B.Blocks.tells (g.B.Blocks.seen c.args.blocks.now)
    (λ told image left. g.met.B.Blocks.images_may c.args.blocks.now image told left)

pub returns-in_default-2-clause-next : goal.returns-in_default-2-clause-next
returns-in_default-2-clause-next g c told =
    next-none c.args.chain.now.part (g.B.Blocks.seen c.args.blocks.now).cur c.args.from
    c.in-Some.number
    (λ r least. c.in-Some.ensures.some.1 r
    (omega (arith, c.start.ensures, starts c.chain.view_is, least)))
    (c.in_ok-found.ensures.none told c.in_default-2.is)

pub returns-clause-next : goal.returns-clause-next
returns-clause-next g c told =
    let part = c.args.chain.now.part in
    let cur = (g.B.Blocks.seen c.args.blocks.now).cur in
    let first : IsFirstRead part cur c.in-Some.number (2 ^ 32) c.in-Some-2.found =
    subst (λ (found : Option ℕ). IfSome found
    (IsFirstRead part cur c.in-Some.number (2 ^ 32))) c.in-Some-2.is
    (c.in_ok-found.ensures.some told) in
    let place : four c.in-Some-2.found ≡ c.set.new.self.place =
    four-bytes c.in-Some-2.found ∙ sym c.to_be_bytes.ensures
    ∙ sym (ap (λ (buffer : PlaceRoom). buffer.place) c.set.ensures) in
    subst (IsNextPlace (NumberedShape part) cur c.args.from) place
    (next-is part cur c.args.from c.in-Some.number c.in-Some-2.found
    (omega (arith, c.start.ensures, starts c.chain.view_is, c.in-Some.ensures.some.0))
    (λ r least. c.in-Some.ensures.some.1 r
    (omega (arith, c.start.ensures, starts c.chain.view_is, least))) first)
