use Rattle.std.proofs.Common.{◌≡◌, ◌∙◌, List, [], ◌∷◌, ◌++◌, Some, ap, arith, refl, subst, sym}
use Rattle.std.proofs.lemmas.Result.{err_from_is_err_and}
use Rattle.vr_types.specs.declared.geometry.Geometry.{Geometry}
use Rattle.vr_types.proofs.CallerLemmas.{keeps-none}
use Rattle.vr_catalog.specs.Definition.{catalog_definition}
use Rattle.vr_catalog.specs.declared.definition.Definition.{Definition}
use Rattle.vr_catalog.specs.declared.entry.CatEntry.{CatEntry}
use Rattle.vr_attach.specs.Laid.{catalog_shape, shape_by_kind}
use Rattle.vr_attach.specs.Marked.{IsTakenIn}
use Rattle.vr_mount.specs.Areas.{IsLaidIn, catalog_part, first_block}
use Rattle.vr_mount.proofs.CallerLemmas.{two-areas}
use Rattle.vr_part.specs.Any.{shape_any}
use Rattle.vr_part.specs.Attached.{IsAnyShown}
use Rattle.vr_part.specs.declared.any.AnyPart.{AnyPart}
use Rattle.vr_space.specs.Part.{Shape, part_no}
use Rattle.vr_recover.specs.Found.{AreAdded}
use Rattle.vr_recover.specs.Opening.{IsEntryShown}
use Rattle.vr_recover.proofs.Adding.{IsNewPart, added-own}
use Rattle.vr_recover.proofs.Attaching.{shows-answer}
use Rattle.vr_recover.proofs.Taking.{own-shown}
use Rattle.vr_recover.proofs.mounted.add_own.Goals as goal

-- the entries lay the catalog's own part in area 0
own-laid : (geometry : Geometry) (entries : List CatEntry) → IsLaidIn geometry entries 0 0
own-laid geometry entries = record {
  shape = catalog_shape geometry;
  laid = refl;
  begins = refl;
}

-- its shape is the one of the catalog's definition
own-shape : (geometry : Geometry) (definition : Definition) → definition ≡ catalog_definition
    → shape_by_kind geometry 0 0 definition definition.kind ≡ Some (catalog_shape geometry)
own-shape geometry definition is =
    ap (λ (d : Definition). shape_by_kind geometry 0 0 d d.kind) is

some-shape : (x y : Shape) → Some x ≡ Some y → x ≡ y
some-shape x y same = cc

pub returns-in_err-space-clause-keeps : goal.returns-in_err-space-clause-keeps
returns-in_err-space-clause-keeps g c =
    keeps-none g.B.Blocks.tells (g.B.Blocks.seen c.args.blocks.now)
    (λ told image now. g.met.B.Blocks.images_may c.args.blocks.now image told now)

pub attach_part-requires-clause-first : goal.attach_part-requires-clause-first
attach_part-requires-clause-first g c = c.in_ok-space.ensures.owned catalog_part 0
    (own-laid c.args.geometry.now c.args.catalog.now)

pub attach_part-requires-clause-alone : goal.attach_part-requires-clause-alone
attach_part-requires-clause-alone g c = c.in_ok-space.ensures.alone catalog_part 0
    (own-laid c.args.geometry.now c.args.catalog.now)

pub returns-in_err-own-clause-damaged : goal.returns-in_err-own-clause-damaged
returns-in_err-own-clause-damaged g c told =
    let geometry = c.args.geometry.now in
    let entries = c.args.catalog.now in
    let owners = c.in_ok-space.space in
    let now = g.B.Blocks.seen c.args.blocks.now in
    let p = err_from_is_err_and c.from_residual-in_err-own.result
    c.from_residual-in_err-own.ensures.1 in
    rw (p.1, p.2) (shows-answer (IsAnyShown (catalog_shape geometry) (IsTakenIn owners) now.cur)
    (IsEntryShown geometry entries now)
    (λ block rule shown. own-shown geometry entries owners c.in_ok-space.ensures now
    (omega (arith, two-areas geometry c.requires.allowed)) block rule shown)
    c.in_err-own.field-0.0
    (c.in_err-own.ensures.damaged told (catalog_shape geometry)
    (own-shape geometry c.catalog_definition.result c.catalog_definition.ensures)))

pub returns-clause-added : goal.returns-clause-added
returns-clause-added g c =
    let geometry = c.args.geometry.now in
    let entries = c.args.catalog.now in
    let it = c.in_ok-own.own in
    let made = c.in_ok-own.ensures in
    let owners = c.in_ok-space.space in
    let then = c.attach_part.new.space in
    let shape : shape_any it ≡ catalog_shape geometry = some-shape _ _ (sym made.shape
    ∙ own-shape geometry c.catalog_definition.result c.catalog_definition.ensures) in
    let new : IsNewPart geometry catalog_part it owners then = record {
      area = 0;
      number = ap part_no shape;
      begins = ap first_block shape;
      split = (made.split, made.moves);
      has = made.first;
      owns = made.owns;
      marked = made.marked;
      others = made.others;
      free = made.free;
      count = made.count;
    } in
    subst (λ (ps : List AnyPart). AreAdded geometry entries 0 ps then)
    (sym {A = List AnyPart} (c.in_ok-add.ensures
    ∙ ap (λ (ps : List AnyPart). ps ++ it ∷ []) c.clear.ensures.items))
    (added-own geometry entries owners c.in_ok-space.ensures it then shape new)
