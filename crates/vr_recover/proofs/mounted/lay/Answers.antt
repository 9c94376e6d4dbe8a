use Rattle.std.proofs.Common.{◌≡◌, List, map, subst, sym}
use Rattle.std.specs.Borrow.{Bor}
use Rattle.std.proofs.lemmas.List.{length-map}
use Rattle.std.proofs.lemmas.Result.{err_from_is_err_and}
use Rattle.vr_types.proofs.CallerLemmas.{keeps-then}
use Rattle.vr_catalog.specs.declared.entry.CatEntry.{CatEntry}
use Rattle.vr_part.specs.Any.{shape_any}
use Rattle.vr_recover.specs.Found.{AllStand, AreAdded, held_entries}
use Rattle.vr_recover.specs.Opening.{AreByNumber, IsEntryShown}
use Rattle.vr_recover.proofs.Adding.{added-all}
use Rattle.vr_recover.proofs.Attaching.{shown-then, shows-more}
use Rattle.vr_recover.proofs.NumberOrder.{alike, may-alike}
use Rattle.vr_recover.proofs.Taking.{attached-alike, shown-alike}
use Rattle.vr_recover.proofs.mounted.lay.Goals as goal

-- entries in order are so as they are lent
by-lent : (asked entries : List CatEntry) (ordered lent : List (Bor CatEntry)) → asked ≡ entries
    → lent ≡ ordered → AreByNumber asked (held_entries ordered)
    → AreByNumber entries (held_entries lent)
by-lent asked entries ordered lent is same by =
    subst (λ (es : List CatEntry). AreByNumber es (held_entries lent)) is
    (subst (λ (them : List (Bor CatEntry)). AreByNumber asked (held_entries them)) (sym same) by)

pub add_entries-requires-clause-may : goal.add_entries-requires-clause-may
add_entries-requires-clause-may g c =
    let lent = c.as_slice-2.result.now in
    let by = by-lent c.as_slice.result.now c.args.catalog.now c.in_ok-ordered.ordered.items lent
    c.as_slice.ensures c.as_slice-2.ensures.value c.in_ok-ordered.ensures in
    may-alike c.args.catalog.now (held_entries lent) by c.requires.may.distinct
    c.args.geometry.now c.requires.may

pub add_entries-requires-clause-added : goal.add_entries-requires-clause-added
add_entries-requires-clause-added g c =
    let geometry = c.args.geometry.now in
    let entries = c.args.catalog.now in
    let lent = c.as_slice-2.result.now in
    let by = by-lent c.as_slice.result.now entries c.in_ok-ordered.ordered.items lent
    c.as_slice.ensures c.as_slice-2.ensures.value c.in_ok-ordered.ensures in
    record {
      shapes = c.in_ok-owners.ensures.added.shapes;
      attached = attached-alike geometry entries (held_entries lent)
          (λ part. sym (alike entries (held_entries lent) by c.requires.may.distinct geometry part))
          c.add_own.new.parts.items c.in_ok-owners.owners c.in_ok-owners.ensures.added.attached;
    }

pub add_entries-requires-clause-stand : goal.add_entries-requires-clause-stand
add_entries-requires-clause-stand g c told =
    subst (AllStand (map shape_any c.add_own.new.parts.items))
    (sym (c.add_own.ensures.keeps.content told)) (c.in_ok-owners.ensures.stand told)

pub returns-in_err-add_entries-clause-damaged : goal.returns-in_err-add_entries-clause-damaged
returns-in_err-add_entries-clause-damaged g c told =
    let geometry = c.args.geometry.now in
    let entries = c.args.catalog.now in
    let lent = c.as_slice-2.result.now in
    let now = g.B.Blocks.seen c.args.blocks.now in
    let later = g.B.Blocks.seen c.add_own.new.blocks in
    let by = by-lent c.as_slice.result.now entries c.in_ok-ordered.ordered.items lent
    c.as_slice.ensures c.as_slice-2.ensures.value c.in_ok-ordered.ensures in
    let p = err_from_is_err_and c.from_residual-in_err-add_entries.result
    c.from_residual-in_err-add_entries.ensures.1 in
    rw (p.1, p.2) (shown-then geometry entries later now c.in_err-add_entries.field-0.0
    (c.add_own.ensures.keeps.content told)
    (shows-more (IsEntryShown geometry (held_entries lent) later)
    (IsEntryShown geometry entries later)
    (λ block rule shown. shown-alike geometry (held_entries lent) entries
    (alike entries (held_entries lent) by c.requires.may.distinct geometry) later block rule
    shown)
    c.in_err-add_entries.field-0.0 (c.in_err-add_entries.ensures.damaged told)))

pub returns-in_err-add_entries-clause-keeps : goal.returns-in_err-add_entries-clause-keeps
returns-in_err-add_entries-clause-keeps g c =
    keeps-then g.B.Blocks.tells (g.B.Blocks.seen c.args.blocks.now)
    (g.B.Blocks.seen c.add_own.new.blocks) (g.B.Blocks.seen c.add_entries.new.blocks)
    c.add_own.ensures.keeps c.add_entries.ensures.keeps

pub returns-clause-keeps : goal.returns-clause-keeps
returns-clause-keeps g c =
    keeps-then g.B.Blocks.tells (g.B.Blocks.seen c.args.blocks.now)
    (g.B.Blocks.seen c.add_own.new.blocks) (g.B.Blocks.seen c.add_entries.new.blocks)
    c.add_own.ensures.keeps c.add_entries.ensures.keeps

pub returns-clause-stand : goal.returns-clause-stand
returns-clause-stand g c told =
    subst (AllStand (map shape_any c.add_entries.new.parts.items))
    (c.add_own.ensures.keeps.content told) (c.in_ok-add_entries.ensures.stand told)

pub returns-clause-owned : goal.returns-clause-owned
returns-clause-owned g c =
    let geometry = c.args.geometry.now in
    let entries = c.args.catalog.now in
    let lent = c.as_slice-2.result.now in
    let parts = c.add_entries.new.parts.items in
    let owners = c.add_entries.new.space in
    let by = by-lent c.as_slice.result.now entries c.in_ok-ordered.ordered.items lent
    c.as_slice.ensures c.as_slice-2.ensures.value c.in_ok-ordered.ensures in
    added-all geometry (held_entries lent) parts owners
    (may-alike entries (held_entries lent) by c.requires.may.distinct geometry c.requires.may)
    (subst (λ (n : _). AreAdded geometry (held_entries lent) n parts owners)
    (sym (length-map lent (λ (e : Bor CatEntry). e.now)))
    c.in_ok-add_entries.ensures.added)
