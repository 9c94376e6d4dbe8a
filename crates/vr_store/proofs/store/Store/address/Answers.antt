use Rattle.std.proofs.Common.{Option, ap, sym, ◌∙◌}
use Rattle.std.specs.Option.{option_and_then}
use Rattle.vr_space.specs.Part.{address_of}
use Rattle.vr_store.specs.Store.{PartNow, StoreNow}
use Rattle.vr_store.proofs.PartsAt.{laid-found, none-laid}
use Rattle.vr_store.proofs.store.Store.address.Goals as goal

pub returns-in-Some : goal.returns-in-Some
returns-in-Some g c =
    c.address.ensures
    ∙ sym (ap (λ (one : Option PartNow).
    option_and_then (λ (part : PartNow). address_of part.shape part.known c.args.length) one)
    (laid-found g.P.Part.shape g.P.Part.known c.self.inside.parts.items c.args.number.0
    c.deref.result.now c.index_of.result c.args.self.now.parts c.deref.ensures.value
    (ap (λ (s : StoreNow). s.parts) c.self.view_is) c.index_of.ensures c.in-Some.at c.in-Some.is
    c.index.result.now c.index.ensures))

pub returns-in-None : goal.returns-in-None
returns-in-None g c =
    sym (ap (λ (one : Option PartNow).
    option_and_then (λ (part : PartNow). address_of part.shape part.known c.args.length) one)
    (none-laid g.P.Part.shape g.P.Part.known c.self.inside.parts.items c.args.number.0
    c.deref.result.now c.index_of.result c.args.self.now.parts c.deref.ensures.value
    (ap (λ (s : StoreNow). s.parts) c.self.view_is) c.index_of.ensures c.in-None.is))
