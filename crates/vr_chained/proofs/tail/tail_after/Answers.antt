use Rattle.std.proofs.Common.{◌≡◌, ◌≤◌, ◌<◌, ◌-◌, ◌/◌, ◌%◌, ℕ, List, false, arith, subst, sym, ap}
use Rattle.std.proofs.Common.{◌∙◌, length}
use Rattle.std.specs.Option.{option_map}
use Rattle.std.proofs.lemmas.Slice.Eq.{bytes_eq-Decides}
use Rattle.vr_types.specs.Fields.{four}
use Rattle.vr_space.specs.Entries.{address_after}
use Rattle.vr_space.specs.Numbered.{at_in, interval_of, number_of, span_of, start_of}
use Rattle.vr_space.specs.Part.{IsGiven, NumberedShape}
use Rattle.vr_space.specs.Rosters.{Numbered}
use Rattle.vr_chained.specs.declared.chain.Chain.TheInside.{Inside}
use Rattle.vr_chained.specs.Chain.{ChainNow, IsChainNow}
use Rattle.vr_chained.specs.Tail.{tail_of}
use Rattle.vr_chained.proofs.NextAddress.{length-most, next-within}
use Rattle.vr_chained.proofs.tail.tail_after.Goals as goal

pub returns-clause-within : goal.returns-clause-within
returns-clause-within c =
    let chain : ChainNow = c.args.chain.now in
    let bytes : List ℕ = c.in-Some-Some.bytes.now in
    let tail = option_map tail_of c.args.tail in
    let same : c.chain.inside.layout ≡ chain.part =
    ap (λ (now : ChainNow). now.part) c.chain.view_is in
    let entries : chain.part.relative ≡ false =
    sym (ap (λ (part : Numbered). part.relative) same)
    ∙ sym (ap (λ (inside : Inside). inside.layout.relative) c.chain-inside.view_is)
    ∙ c.if-chain.false in
    let most : length bytes ≤ chain.part.most =
    length-most chain.part c.args.place.now bytes
    (subst (IsGiven (NumberedShape chain.part) c.args.place.now) c.in-Some-Some.is-0
    c.requires.record) in
    let next : c.args.place.now ≡ four (address_after chain.part tail (length bytes)) =
    (bytes_eq-Decides c.args.place.now (four (address_after chain.part tail (length bytes)))).0
    (sym c.is_next.ensures ∙ c.if-not-is_next.false) in
    let below : interval_of chain.part c.args.place.now < chain.used =
    c.requires.used (λ none. absurd cc) in
    let within = next-within chain
    (subst (λ (now : ChainNow). IsChainNow now.part now.areas now.used) c.chain.view_is
    c.chain.invariant.0) entries tail c.requires.tail c.args.place.now (length bytes) most next
    below in
    let number : c.number_in-number.result ≡ number_of c.args.place.now =
    c.number_in-number.ensures in
    let interval : c.interval_of-interval.result ≡ interval_of chain.part c.args.place.now =
    c.interval_of-interval.ensures
    ∙ ap (λ (n : ℕ). (n - start_of chain.part) / span_of chain.part) number in
    let at : c.at_in.result ≡ at_in chain.part c.args.place.now =
    c.at_in.ensures.place
    ∙ ap (λ (n : ℕ). (n - start_of chain.part) % span_of chain.part) number in
    let room = c.room_to.ensures c.args.place.now interval in
    record {
      used = omega (arith, within.used, interval);
      bytes = omega (arith, within.bytes, at, room);
      room = omega (arith, within.room, room);
    }
