use Rattle.std.proofs.Common.{◌≡◌, ℕ, ◌+◌, ◌-◌, ◌*◌, ◌<◌, ◌≤◌, length, Bool, false, None}
use Rattle.std.proofs.Common.{if◌then◌else◌, eq-eqb, ne_eqb, sym, ap, subst, ◌∙◌, arith}
use Rattle.vr_types.specs.Regions.{Touches}
use Rattle.vr_types.proofs.CallerLemmas.{keeps-none, keeps-touches}
use Rattle.vr_log.specs.Kept.{records_in}
use Rattle.vr_log.specs.LogBlock.{room_of}
use Rattle.vr_log.specs.LogNow.{LogNow, HasLog, IsForced, forced_now}
use Rattle.vr_log.specs.Memory.{behind_in}
use Rattle.vr_log.specs.Records.{bytes_of}
use Rattle.vr_log.specs.Standing.{InLog, LogStands, forced_length}
use Rattle.vr_log.proofs.Entering.{bytes-take}
use Rattle.vr_log.proofs.Forcing.{All_forced, stands_forced, is_forced, not_forced, forced_short}
use Rattle.vr_log.proofs.Growing.{stands_has}
use Rattle.vr_log.proofs.log.UndoLog.force.Goals as goal

pub returns-then-self-clause-forced : goal.returns-then-self-clause-forced
returns-then-self-clause-forced g c =
    let i = c.self.inside in
    let log : LogNow =
    record {
      geometry = i.geometry;
      generation = i.tail.generation;
      records =
          records_in i.records;
      forced = length (records_in i.forced_records.value);
      behind =
          behind_in i.tail.begun i.older;
      broken = i.broken;
    } in
    let is : log ≡ c.args.self.now = c.self.view_is in
    let sound : i.broken ≡ false = ap (λ (v : LogNow). v.broken) is ∙ c.requires.sound in
    let kept = c.self.invariant.2 sound in
    let all : IsForced log =
    is_forced (records_in i.forced_records.value) log.records kept.part kept.count
    (sym kept.stable ∙ c.if-self.true ∙ kept.all) in
    subst (λ (v : LogNow). v ≡ forced_now v) is
    (sym (ap (λ (t : Bool). if t then log else All_forced log)
    (eq-eqb log.forced (length log.records) all)))

pub returns-then-self-clause-moments : goal.returns-then-self-clause-moments
returns-then-self-clause-moments g c told =
    let i = c.self.inside in
    let log : LogNow =
    record {
      geometry = i.geometry;
      generation = i.tail.generation;
      records =
          records_in i.records;
      forced = length (records_in i.forced_records.value);
      behind =
          behind_in i.tail.begun i.older;
      broken = i.broken;
    } in
    let is : log ≡ c.args.self.now = c.self.view_is in
    let sound : i.broken ≡ false = ap (λ (v : LogNow). v.broken) is ∙ c.requires.sound in
    let kept = c.self.invariant.2 sound in
    let B = g.B.Blocks in
    let a = B.seen c.args.blocks.now in
    subst (λ (v : LogNow). Touches (InLog v.geometry) (HasLog v) a (a)) is
    (keeps-touches B.tells (InLog log.geometry) (HasLog log) a (a) told
    (keeps-none B.tells a
    (λ told image left. g.met.B.Blocks.images_may c.args.blocks.now image told left))
    (λ image on. stands_has log a image c.self.invariant.0 kept.fits
    (subst (λ (v : LogNow). LogStands v a) (sym is) (c.requires.stands told)) on))

pub returns-then-self-clause-keeps : goal.returns-then-self-clause-keeps
returns-then-self-clause-keeps g c =
    let B = g.B.Blocks in
    let a = B.seen c.args.blocks.now in
    keeps-none B.tells a
    (λ told image left. g.met.B.Blocks.images_may c.args.blocks.now image told left)

pub from_block-list-requires-clause-byte : goal.from_block-list-requires-clause-byte
from_block-list-requires-clause-byte g c =
    let i = c.self.inside in
    let log : LogNow =
    record {
      geometry = i.geometry;
      generation = i.tail.generation;
      records =
          records_in i.records;
      forced = length (records_in i.forced_records.value);
      behind =
          behind_in i.tail.begun i.older;
      broken = i.broken;
    } in
    let is : log ≡ c.args.self.now = c.self.view_is in
    let sound : i.broken ≡ false = ap (λ (v : LogNow). v.broken) is ∙ c.requires.sound in
    let kept = c.self.invariant.2 sound in
    let size : c.len.result - 16 ≡ room_of i.geometry =
    ap (λ (n : ℕ). n - 16) (c.len.ensures ∙ kept.last.size) in
    let below : length (bytes_of (records_in i.forced_records.value)) ≤ length
    (bytes_of log.records) =
    omega (
      arith,
      ap (λ rs. length (bytes_of rs)) kept.part,
      bytes-take
          (length (records_in i.forced_records.value)) log.records,
    ) in
    subst (λ (n : ℕ). i.forced < (i.tail.index + 1) * n) (sym size)
    (forced_short (room_of i.geometry) i.tail.index i.tail.used i.forced i.bytes (kept.last.used
    ∙ sym kept.all) kept.last.fits (omega (arith, kept.stable, kept.all, below))
    (λ same. absurd (c.if-self.false same)))

pub returns-in_err-force-clause-moments : goal.returns-in_err-force-clause-moments
returns-in_err-force-clause-moments g c told =
    let i = c.self.inside in
    let log : LogNow =
    record {
      geometry = i.geometry;
      generation = i.tail.generation;
      records =
          records_in i.records;
      forced = length (records_in i.forced_records.value);
      behind =
          behind_in i.tail.begun i.older;
      broken = i.broken;
    } in
    let is : log ≡ c.args.self.now = c.self.view_is in
    let sound : i.broken ≡ false = ap (λ (v : LogNow). v.broken) is ∙ c.requires.sound in
    let kept = c.self.invariant.2 sound in
    let B = g.B.Blocks in
    let a = B.seen c.args.blocks.now in
    subst (λ (v : LogNow). Touches (InLog v.geometry) (HasLog v) a (B.seen c.force.new.self)) is
    (keeps-touches B.tells (InLog log.geometry) (HasLog log) a (B.seen c.force.new.self) told
    (c.force.ensures.after)
    (λ image on. stands_has log a image c.self.invariant.0 kept.fits
    (subst (λ (v : LogNow). LogStands v a) (sym is) (c.requires.stands told)) on))

pub returns-in_err-force-clause-idle : goal.returns-in_err-force-clause-idle
returns-in_err-force-clause-idle g c all =
    let i = c.self.inside in
    let log : LogNow =
    record {
      geometry = i.geometry;
      generation = i.tail.generation;
      records =
          records_in i.records;
      forced = length (records_in i.forced_records.value);
      behind =
          behind_in i.tail.begun i.older;
      broken = i.broken;
    } in
    let is : log ≡ c.args.self.now = c.self.view_is in
    let sound : i.broken ≡ false = ap (λ (v : LogNow). v.broken) is ∙ c.requires.sound in
    let kept = c.self.invariant.2 sound in
    let other : length (bytes_of (records_in i.forced_records.value)) ≡ length
    (bytes_of log.records) → ⊥ =
    λ same. absurd (c.if-self.false (kept.stable ∙ same ∙ sym kept.all)) in
    let more : IsForced log → ⊥ =
    not_forced (records_in i.forced_records.value) log.records kept.part other in
    absurd (more (subst (λ (v : LogNow). IsForced v) (sym is) all))

pub returns-clause-forced : goal.returns-clause-forced
returns-clause-forced g c =
    let i = c.self.inside in
    let log : LogNow =
    record {
      geometry = i.geometry;
      generation = i.tail.generation;
      records =
          records_in i.records;
      forced = length (records_in i.forced_records.value);
      behind =
          behind_in i.tail.begun i.older;
      broken = i.broken;
    } in
    let is : log ≡ c.args.self.now = c.self.view_is in
    let sound : i.broken ≡ false = ap (λ (v : LogNow). v.broken) is ∙ c.requires.sound in
    let kept = c.self.invariant.2 sound in
    let other : length (bytes_of (records_in i.forced_records.value)) ≡ length
    (bytes_of log.records) → ⊥ =
    λ same. absurd (c.if-self.false (kept.stable ∙ same ∙ sym kept.all)) in
    let more : IsForced log → ⊥ =
    not_forced (records_in i.forced_records.value) log.records kept.part other in
    let new : LogNow =
    record {
      geometry = i.geometry;
      generation = i.tail.generation;
      records =
          records_in i.records;
      forced = length (records_in c.of.result.value);
      behind =
          None;
      broken = false;
    } in
    let path : new ≡ All_forced log =
    ap (λ (k : _). let v : LogNow =
    record {
      geometry = i.geometry;
      generation = i.tail.generation;
      records =
          records_in i.records;
      forced = length (records_in k);
      behind = None;
      broken = false;
    } in
    v) c.of.ensures
    ∙ ap (λ (f : Bool). let v : LogNow =
    record {
      geometry = i.geometry;
      generation = i.tail.generation;
      records =
          records_in i.records;
      forced = length (records_in i.records);
      behind = None;
      broken = f;
    } in
    v) (sym sound) in
    path ∙ sym (ap (λ (t : Bool). if t then log else All_forced log)
    (ne_eqb log.forced (length log.records) more)) ∙ ap forced_now is

pub returns-clause-stands : goal.returns-clause-stands
returns-clause-stands g c told =
    let i = c.self.inside in
    let log : LogNow =
    record {
      geometry = i.geometry;
      generation = i.tail.generation;
      records =
          records_in i.records;
      forced = length (records_in i.forced_records.value);
      behind =
          behind_in i.tail.begun i.older;
      broken = i.broken;
    } in
    let is : log ≡ c.args.self.now = c.self.view_is in
    let sound : i.broken ≡ false = ap (λ (v : LogNow). v.broken) is ∙ c.requires.sound in
    let kept = c.self.invariant.2 sound in
    let other : length (bytes_of (records_in i.forced_records.value)) ≡ length
    (bytes_of log.records) → ⊥ =
    λ same. absurd (c.if-self.false (kept.stable ∙ same ∙ sym kept.all)) in
    let more : IsForced log → ⊥ =
    not_forced (records_in i.forced_records.value) log.records kept.part other in
    let new : LogNow =
    record {
      geometry = i.geometry;
      generation = i.tail.generation;
      records =
          records_in i.records;
      forced = length (records_in c.of.result.value);
      behind =
          None;
      broken = false;
    } in
    let path : new ≡ All_forced log =
    ap (λ (k : _). let v : LogNow =
    record {
      geometry = i.geometry;
      generation = i.tail.generation;
      records =
          records_in i.records;
      forced = length (records_in k);
      behind = None;
      broken = false;
    } in
    v) c.of.ensures
    ∙ ap (λ (f : Bool). let v : LogNow =
    record {
      geometry = i.geometry;
      generation = i.tail.generation;
      records =
          records_in i.records;
      forced = length (records_in i.records);
      behind = None;
      broken = f;
    } in
    v) (sym sound) in
    let B = g.B.Blocks in
    let a = B.seen c.args.blocks.now in
    let stands = subst (λ (v : LogNow). LogStands v a) (sym is) (c.requires.stands told) in
    let size : c.len.result - 16 ≡ room_of i.geometry =
    ap (λ (n : ℕ). n - 16) (c.len.ensures ∙ kept.last.size) in
    let least : forced_length log ≡ i.forced =
    sym (kept.stable ∙ ap (λ rs. length (bytes_of rs)) kept.part) in
    subst (λ (v : LogNow). LogStands v (B.seen c.force.new.self)) (sym path)
    (stands_forced B.tells told log i.tail a (B.seen c.force.new.self) stands c.self.invariant.0
    kept.last kept.turned more c.force.ensures.after
    (λ index block from inside may. c.in_ok-force.ensures.forced told (1 + index) block
    (c.from_block-list.ensures.found index
    (subst (λ (n : ℕ). i.forced < (index + 1) * n) (sym size) (omega (arith, from, least)))
    inside) may))

pub returns-clause-moments : goal.returns-clause-moments
returns-clause-moments g c told =
    let i = c.self.inside in
    let log : LogNow =
    record {
      geometry = i.geometry;
      generation = i.tail.generation;
      records =
          records_in i.records;
      forced = length (records_in i.forced_records.value);
      behind =
          behind_in i.tail.begun i.older;
      broken = i.broken;
    } in
    let is : log ≡ c.args.self.now = c.self.view_is in
    let sound : i.broken ≡ false = ap (λ (v : LogNow). v.broken) is ∙ c.requires.sound in
    let kept = c.self.invariant.2 sound in
    let B = g.B.Blocks in
    let a = B.seen c.args.blocks.now in
    subst (λ (v : LogNow). Touches (InLog v.geometry) (HasLog v) a (B.seen c.force.new.self)) is
    (keeps-touches B.tells (InLog log.geometry) (HasLog log) a (B.seen c.force.new.self) told
    (c.force.ensures.after)
    (λ image on. stands_has log a image c.self.invariant.0 kept.fits
    (subst (λ (v : LogNow). LogStands v a) (sym is) (c.requires.stands told)) on))

pub returns-clause-idle : goal.returns-clause-idle
returns-clause-idle g c all =
    let i = c.self.inside in
    let log : LogNow =
    record {
      geometry = i.geometry;
      generation = i.tail.generation;
      records =
          records_in i.records;
      forced = length (records_in i.forced_records.value);
      behind =
          behind_in i.tail.begun i.older;
      broken = i.broken;
    } in
    let is : log ≡ c.args.self.now = c.self.view_is in
    let sound : i.broken ≡ false = ap (λ (v : LogNow). v.broken) is ∙ c.requires.sound in
    let kept = c.self.invariant.2 sound in
    let other : length (bytes_of (records_in i.forced_records.value)) ≡ length
    (bytes_of log.records) → ⊥ =
    λ same. absurd (c.if-self.false (kept.stable ∙ same ∙ sym kept.all)) in
    let more : IsForced log → ⊥ =
    not_forced (records_in i.forced_records.value) log.records kept.part other in
    absurd (more (subst (λ (v : LogNow). IsForced v) (sym is) all))
