use Rattle.std.proofs.Common.{◌≡◌, ◌<◌, inl, inr, sym, ap, subst, ◌∙◌, arith}
use Rattle.vr_types.specs.Image.{block_at}
use Rattle.vr_types.specs.Regions.{Outside}
use Rattle.vr_types.specs.declared.geometry.Geometry.{Geometry}
use Rattle.vr_types.proofs.CallerLemmas.{guards-then}
use Rattle.vr_log.specs.LogNow.{LogNow, HasLog, IsLogged, forced_now}
use Rattle.vr_log.specs.Standing.{InLog}
use Rattle.vr_log.proofs.Ahead.{has_record, log_guards, only_outside, put_guards, forced_geometry}
use Rattle.vr_log.proofs.laws.write_ahead.Goals as goal

pub force-requires-clause-shape : goal.force-requires-clause-shape
force-requires-clause-shape g c = c.in_ok-append.ensures.shape

pub put-requires-clause-block : goal.put-requires-clause-block
put-requires-clause-block g c =
    omega (
      arith,
      c.requires.home,
      c.requires.shape.count,
      c.in_ok-append.ensures.shape.count,
      ap
          (λ (v : Geometry). v.blocks) c.in_ok-append.ensures.log.geometry,
      c.force.ensures.keeps.count_same,
    )

pub put-requires-clause-whole : goal.put-requires-clause-whole
put-requires-clause-whole g c =
    omega (
      arith,
      c.requires.whole,
      c.requires.shape.size,
      c.in_ok-append.ensures.shape.size,
      ap
          (λ (v : Geometry). v.size) c.in_ok-append.ensures.log.geometry,
      c.force.ensures.keeps.size_same,
    )

pub returns-in_err-force-clause-any_moment : goal.returns-in_err-force-clause-any_moment
returns-in_err-force-clause-any_moment g c told =
    let B = g.B.Blocks in
    let log = c.args.log.now in
    let rec = c.args.rec.now in
    let home = c.args.home in
    let a = B.seen c.args.blocks.now in
    let b = B.seen c.append.new.blocks in
    let before = block_at a.cur home in
    let P = IsLogged log rec home before in
    let one = log_guards (InLog log.geometry) _ P home before a b c.requires.home
    c.requires.outside (c.requires.settled told) (λ image is. inl is)
    (c.append.ensures.moments told) in
    let only = only_outside (InLog log.geometry) _ home before a b c.requires.home
    c.requires.outside (c.requires.settled told) (c.append.ensures.moments told) in
    let now = c.append.new.self in
    let appended = c.in_ok-append.ensures.log in
    let out : Outside (InLog now.geometry) home =
    subst (λ (v : Geometry). Outside (InLog v) home) (sym appended.geometry)
    c.requires.outside in
    let inside : home < b.count =
    omega (
      arith,
      c.requires.home,
      c.requires.shape.count,
      c.in_ok-append.ensures.shape.count,
      ap (λ (v : Geometry). v.blocks) appended.geometry,
    ) in
    let last = B.seen c.force.new.blocks in
    let two = log_guards (InLog now.geometry) _ P home before b last inside out only
    (λ image is. inl is) (c.force.ensures.moments told) in
    guards-then a b last P one two

pub returns-in_err-put-clause-any_moment : goal.returns-in_err-put-clause-any_moment
returns-in_err-put-clause-any_moment g c told =
    let B = g.B.Blocks in
    let log = c.args.log.now in
    let rec = c.args.rec.now in
    let home = c.args.home in
    let a = B.seen c.args.blocks.now in
    let b = B.seen c.append.new.blocks in
    let before = block_at a.cur home in
    let P = IsLogged log rec home before in
    let one = log_guards (InLog log.geometry) _ P home before a b c.requires.home
    c.requires.outside (c.requires.settled told) (λ image is. inl is)
    (c.append.ensures.moments told) in
    let only = only_outside (InLog log.geometry) _ home before a b c.requires.home
    c.requires.outside (c.requires.settled told) (c.append.ensures.moments told) in
    let now = c.append.new.self in
    let appended = c.in_ok-append.ensures.log in
    let out : Outside (InLog now.geometry) home =
    subst (λ (v : Geometry). Outside (InLog v) home) (sym appended.geometry)
    c.requires.outside in
    let inside : home < b.count =
    omega (
      arith,
      c.requires.home,
      c.requires.shape.count,
      c.in_ok-append.ensures.shape.count,
      ap (λ (v : Geometry). v.blocks) appended.geometry,
    ) in
    let last = B.seen c.force.new.blocks in
    let two = log_guards (InLog now.geometry) _ P home before b last inside out only
    (λ image is. inl is) (c.force.ensures.moments told) in
    let forced = c.force.new.self in
    let path : forced ≡ forced_now now = c.in_ok-force.ensures.forced in
    let apart : Outside (InLog forced.geometry) home =
    subst (λ (v : Geometry). Outside (InLog v) home)
    (sym (ap (λ (v : LogNow). v.geometry) path ∙ forced_geometry now)) out in
    let three = put_guards B.tells forced P home c.args.bytes.now last (B.seen c.put.new.self)
    told apart (c.in_ok-force.ensures.stands told)
    (λ image has. inr
    (has_record log now rec image appended (c.requires.stands told).forced
    (subst (λ (v : LogNow). HasLog v image) path has))) c.put.ensures.after in
    guards-then a last (B.seen c.put.new.self) P (guards-then a b last P one two) three

pub returns-clause-any_moment : goal.returns-clause-any_moment
returns-clause-any_moment g c told =
    let B = g.B.Blocks in
    let log = c.args.log.now in
    let rec = c.args.rec.now in
    let home = c.args.home in
    let a = B.seen c.args.blocks.now in
    let b = B.seen c.append.new.blocks in
    let before = block_at a.cur home in
    let P = IsLogged log rec home before in
    let one = log_guards (InLog log.geometry) _ P home before a b c.requires.home
    c.requires.outside (c.requires.settled told) (λ image is. inl is)
    (c.append.ensures.moments told) in
    let only = only_outside (InLog log.geometry) _ home before a b c.requires.home
    c.requires.outside (c.requires.settled told) (c.append.ensures.moments told) in
    let now = c.append.new.self in
    let appended = c.in_ok-append.ensures.log in
    let out : Outside (InLog now.geometry) home =
    subst (λ (v : Geometry). Outside (InLog v) home) (sym appended.geometry)
    c.requires.outside in
    let inside : home < b.count =
    omega (
      arith,
      c.requires.home,
      c.requires.shape.count,
      c.in_ok-append.ensures.shape.count,
      ap (λ (v : Geometry). v.blocks) appended.geometry,
    ) in
    let last = B.seen c.force.new.blocks in
    let two = log_guards (InLog now.geometry) _ P home before b last inside out only
    (λ image is. inl is) (c.force.ensures.moments told) in
    let forced = c.force.new.self in
    let path : forced ≡ forced_now now = c.in_ok-force.ensures.forced in
    let apart : Outside (InLog forced.geometry) home =
    subst (λ (v : Geometry). Outside (InLog v) home)
    (sym (ap (λ (v : LogNow). v.geometry) path ∙ forced_geometry now)) out in
    let three = put_guards B.tells forced P home c.args.bytes.now last (B.seen c.put.new.self)
    told apart (c.in_ok-force.ensures.stands told)
    (λ image has. inr
    (has_record log now rec image appended (c.requires.stands told).forced
    (subst (λ (v : LogNow). HasLog v image) path has))) c.put.ensures.after in
    guards-then a last (B.seen c.put.new.self) P (guards-then a b last P one two) three
