use Rattle.std.proofs.Common.{◌≡◌, ℕ, ◌+◌, ◌-◌, ◌*◌, ◌≤◌, List, [], ◌∷◌, ◌++◌, length, Option, None}
use Rattle.std.proofs.Common.{false, IsTrue, if◌then◌else◌, refl, sym, ap, subst, ◌∙◌, arith}
use Rattle.std.proofs.Common.{vec_len}
use Rattle.std.proofs.lemmas.List.{length-append, take-append-le, length_push}
use Rattle.std.proofs.lemmas.List.Elements.{All-push}
use Rattle.vr_types.specs.LogSpace.{log_size}
use Rattle.vr_types.specs.Regions.{Touches}
use Rattle.vr_log.specs.LogBlock.{room_of}
use Rattle.vr_types.proofs.CallerLemmas.{block_size_least}
use Rattle.vr_log.specs.declared.record.LogRecord.{LogRecord}
use Rattle.vr_log.specs.Content.{Content}
use Rattle.vr_log.specs.Kept.{records_in}
use Rattle.vr_log.specs.Live.{live_in, used_by, need_of, live_after, EndsLive}
use Rattle.vr_log.specs.LogNow.{LogNow, IsOf, HasLog, with_record, IsAppended}
use Rattle.vr_log.specs.Memory.{behind_in, IsKept}
use Rattle.vr_log.specs.Records.{record_bytes, bytes_of, HasFields}
use Rattle.vr_log.specs.Standing.{InLog, LogStands}
use Rattle.vr_log.proofs.Entering.{start_writing, stands_grown, bytes-push, total-some}
use Rattle.vr_log.proofs.Growing.{live_below, record_fits, fits_grown, live_grown, moments_grown}
use Rattle.vr_log.proofs.Growing.{turned_of, seen_grown, behind_now, behind_kept}
use Rattle.vr_log.proofs.log.UndoLog.enter.Goals as goal

pub put_record-requires-clause-room : goal.put_record-requires-clause-room
put_record-requires-clause-room g c =
    let i = c.self.inside in
    let B = g.B.Blocks in
    let a = B.seen c.args.blocks.now in
    let rec = c.args.rec.now in
    let log : LogNow =
    record {
      geometry = i.geometry;
      generation = i.tail.generation;
      records =
          records_in i.records;
      forced = length (records_in i.forced_records.value);
      behind =
          behind_in i.tail.begun i.older;
      broken = i.broken;
    } in
    let is : log ≡ c.args.self.now = c.self.view_is in
    let kept = c.self.invariant.2 (ap (λ (v : LogNow). v.broken) is ∙ c.requires.sound) in
    let live : EndsLive (live_in log.records) rec =
    subst (λ (v : LogNow). EndsLive (live_in v.records) rec) (sym is) c.requires.live in
    let room : used_by log.records + need_of (live_in log.records) rec ≤ log_size log.geometry =
    subst (λ (v : LogNow). used_by v.records ≤ log_size v.geometry
    → used_by v.records + need_of (live_in v.records) rec ≤ log_size v.geometry) (sym is)
    c.requires.room kept.fits in
    let fits : length (bytes_of log.records) + length (record_bytes rec) ≤ log_size log.geometry =
    record_fits log.records rec (log_size log.geometry) live room in
    let at : i.tail.index * (vec_len i.tail.block - 16) ≡ i.tail.index * room_of i.geometry =
    ap (λ (n : ℕ). i.tail.index * (n - 16)) kept.last.size in
    let whole : i.tail.blocks * (vec_len i.tail.block - 16) ≡ log_size i.geometry =
    ap (λ (n : ℕ). n * (vec_len i.tail.block - 16)) kept.last.blocks
    ∙ ap (λ (n : ℕ). i.geometry.log * (n - 16)) kept.last.size in
    omega (arith, at, whole, kept.last.used, fits)

pub returns-in_err-put_record-clause-moments : goal.returns-in_err-put_record-clause-moments
returns-in_err-put_record-clause-moments g c told =
    let i = c.self.inside in
    let B = g.B.Blocks in
    let a = B.seen c.args.blocks.now in
    let rec = c.args.rec.now in
    let log : LogNow =
    record {
      geometry = i.geometry;
      generation = i.tail.generation;
      records =
          records_in i.records;
      forced = length (records_in i.forced_records.value);
      behind =
          behind_in i.tail.begun i.older;
      broken = i.broken;
    } in
    let is : log ≡ c.args.self.now = c.self.view_is in
    let kept = c.self.invariant.2 (ap (λ (v : LogNow). v.broken) is ∙ c.requires.sound) in
    let live : EndsLive (live_in log.records) rec =
    subst (λ (v : LogNow). EndsLive (live_in v.records) rec) (sym is) c.requires.live in
    let room : used_by log.records + need_of (live_in log.records) rec ≤ log_size log.geometry =
    subst (λ (v : LogNow). used_by v.records ≤ log_size v.geometry
    → used_by v.records + need_of (live_in v.records) rec ≤ log_size v.geometry) (sym is)
    c.requires.room kept.fits in
    let fits : length (bytes_of log.records) + length (record_bytes rec) ≤ log_size log.geometry =
    record_fits log.records rec (log_size log.geometry) live room in
    let total = bytes_of (log.records ++ rec ∷ []) in
    let stands = λ (told : IsTrue B.tells). subst (λ (v : LogNow). LogStands v a) (sym is)
    (c.requires.stands told) in
    let shape : IsOf log.geometry a =
    subst (λ (v : LogNow). IsOf v.geometry a) (sym is) c.requires.shape in
    let most : length total ≤ log_size log.geometry =
    omega (
      arith,
      fits,
      ap length (bytes-push log.records rec),
      length-append
          (bytes_of log.records) (record_bytes rec),
    ) in
    let w = start_writing B.tells log total i.tail i.older a (record {
      generation = refl;
      behind =
          refl;
    }) c.self.invariant.0 shape kept.young kept.last kept.turned
    (record_bytes rec, sym (bytes-push log.records rec)) (total-some log.records rec) most stands in
    subst (λ (v : LogNow). Touches (InLog v.geometry) (HasLog (with_record v rec)) a
    (B.seen c.put_record.new.blocks)) is
    (moments_grown log rec total a (B.seen c.put_record.new.blocks) (stands told)
    c.put_record.ensures.fields (fits_grown log.records rec (log_size log.geometry) live room) refl
    ((c.put_record.ensures.ending log total (bytes_of log.records) w
    (sym (bytes-push log.records rec))).touches told))

pub note_unit-requires : goal.note_unit-requires
note_unit-requires g c =
    let i = c.self.inside in
    let B = g.B.Blocks in
    let a = B.seen c.args.blocks.now in
    let rec = c.args.rec.now in
    let log : LogNow =
    record {
      geometry = i.geometry;
      generation = i.tail.generation;
      records =
          records_in i.records;
      forced = length (records_in i.forced_records.value);
      behind =
          behind_in i.tail.begun i.older;
      broken = i.broken;
    } in
    let is : log ≡ c.args.self.now = c.self.view_is in
    let kept = c.self.invariant.2 (ap (λ (v : LogNow). v.broken) is ∙ c.requires.sound) in
    omega (
      arith,
      ap length kept.units,
      live_below log.records (log_size i.geometry) i.live.room
          kept.fits kept.room,
    )

pub invariant_of-self-2 : goal.invariant_of-self-2
invariant_of-self-2 g c =
    let i = c.self.inside in
    let B = g.B.Blocks in
    let a = B.seen c.args.blocks.now in
    let rec = c.args.rec.now in
    let log : LogNow =
    record {
      geometry = i.geometry;
      generation = i.tail.generation;
      records =
          records_in i.records;
      forced = length (records_in i.forced_records.value);
      behind =
          behind_in i.tail.begun i.older;
      broken = i.broken;
    } in
    let is : log ≡ c.args.self.now = c.self.view_is in
    let kept = c.self.invariant.2 (ap (λ (v : LogNow). v.broken) is ∙ c.requires.sound) in
    let live : EndsLive (live_in log.records) rec =
    subst (λ (v : LogNow). EndsLive (live_in v.records) rec) (sym is) c.requires.live in
    let room : used_by log.records + need_of (live_in log.records) rec ≤ log_size log.geometry =
    subst (λ (v : LogNow). used_by v.records ≤ log_size v.geometry
    → used_by v.records + need_of (live_in v.records) rec ≤ log_size v.geometry) (sym is)
    c.requires.room kept.fits in
    let fits : length (bytes_of log.records) + length (record_bytes rec) ≤ log_size log.geometry =
    record_fits log.records rec (log_size log.geometry) live room in
    let total = bytes_of (log.records ++ rec ∷ []) in
    let stands = λ (told : IsTrue B.tells). subst (λ (v : LogNow). LogStands v a) (sym is)
    (c.requires.stands told) in
    let shape : IsOf log.geometry a =
    subst (λ (v : LogNow). IsOf v.geometry a) (sym is) c.requires.shape in
    let most : length total ≤ log_size log.geometry =
    omega (
      arith,
      fits,
      ap length (bytes-push log.records rec),
      length-append
          (bytes_of log.records) (record_bytes rec),
    ) in
    let w = start_writing B.tells log total i.tail i.older a (record {
      generation = refl;
      behind =
          refl;
    }) c.self.invariant.0 shape kept.young kept.last kept.turned
    (record_bytes rec, sym (bytes-push log.records rec)) (total-some log.records rec) most stands in
    let ends = c.in_ok-put_record.ensures.ending log total (bytes_of log.records) w
    (sym (bytes-push log.records rec)) in
    let now = ends.writing in
    let tail = c.put_record.new.tail in
    let same = c.put_record.ensures.same in
    let turned = turned_of log.geometry total tail
    (omega (arith, block_size_least log.geometry.size c.self.invariant.0.size)) now.buffer
    c.in_ok-put_record.ensures.ready in
    let more : records_in c.of.result.value ++ c.of-2.result.value ∷ [] ≡ log.records ++ rec ∷ [] =
    ap (λ (k : _). records_in k ++ c.of-2.result.value ∷ []) c.of.ensures
    ∙ ap (λ (r : LogRecord). log.records ++ r ∷ []) c.of-2.ensures in (
      c.self.invariant.0,
      c.self.invariant.1,
      λ _. subst (λ (rs : List LogRecord). IsKept i.geometry rs (records_in i.forced_records.value)
          tail c.note_unit.new.live (i.bytes + c.record_length.result) i.forced) (sym more)
          (record {
            fields = All-push HasFields log.records rec kept.fields c.put_record.ensures.fields;
            last = now.buffer;
            young = omega (arith, same.0, kept.young);
            turned = turned;
            units = c.note_unit.ensures.units ∙ ap (λ (us : _). live_after us rec) kept.units
                ∙ live_grown log.records rec;
            room = omega (arith, kept.room, c.note_unit.ensures.room);
            all = omega (
              arith,
              kept.all,
              c.record_length.ensures.value,
              ap length
                  (bytes-push log.records rec),
              length-append (bytes_of log.records) (record_bytes rec),
            );
            stable = kept.stable;
            part = kept.part
                ∙ sym (take-append-le (length (records_in i.forced_records.value)) log.records
                (rec ∷ []) kept.count);
            count = omega (arith, kept.count, length_push log.records rec);
            fits = fits_grown log.records rec (log_size log.geometry) live room;
          }),
    )

pub returns-clause-log : goal.returns-clause-log
returns-clause-log g c =
    let i = c.self.inside in
    let B = g.B.Blocks in
    let a = B.seen c.args.blocks.now in
    let rec = c.args.rec.now in
    let log : LogNow =
    record {
      geometry = i.geometry;
      generation = i.tail.generation;
      records =
          records_in i.records;
      forced = length (records_in i.forced_records.value);
      behind =
          behind_in i.tail.begun i.older;
      broken = i.broken;
    } in
    let is : log ≡ c.args.self.now = c.self.view_is in
    let kept = c.self.invariant.2 (ap (λ (v : LogNow). v.broken) is ∙ c.requires.sound) in
    let live : EndsLive (live_in log.records) rec =
    subst (λ (v : LogNow). EndsLive (live_in v.records) rec) (sym is) c.requires.live in
    let room : used_by log.records + need_of (live_in log.records) rec ≤ log_size log.geometry =
    subst (λ (v : LogNow). used_by v.records ≤ log_size v.geometry
    → used_by v.records + need_of (live_in v.records) rec ≤ log_size v.geometry) (sym is)
    c.requires.room kept.fits in
    let fits : length (bytes_of log.records) + length (record_bytes rec) ≤ log_size log.geometry =
    record_fits log.records rec (log_size log.geometry) live room in
    let total = bytes_of (log.records ++ rec ∷ []) in
    let stands = λ (told : IsTrue B.tells). subst (λ (v : LogNow). LogStands v a) (sym is)
    (c.requires.stands told) in
    let shape : IsOf log.geometry a =
    subst (λ (v : LogNow). IsOf v.geometry a) (sym is) c.requires.shape in
    let most : length total ≤ log_size log.geometry =
    omega (
      arith,
      fits,
      ap length (bytes-push log.records rec),
      length-append
          (bytes_of log.records) (record_bytes rec),
    ) in
    let w = start_writing B.tells log total i.tail i.older a (record {
      generation = refl;
      behind =
          refl;
    }) c.self.invariant.0 shape kept.young kept.last kept.turned
    (record_bytes rec, sym (bytes-push log.records rec)) (total-some log.records rec) most stands in
    let ends = c.in_ok-put_record.ensures.ending log total (bytes_of log.records) w
    (sym (bytes-push log.records rec)) in
    let now = ends.writing in
    let tail = c.put_record.new.tail in
    let same = c.put_record.ensures.same in
    let turned = turned_of log.geometry total tail
    (omega (arith, block_size_least log.geometry.size c.self.invariant.0.size)) now.buffer
    c.in_ok-put_record.ensures.ready in
    let more : records_in c.of.result.value ++ c.of-2.result.value ∷ [] ≡ log.records ++ rec ∷ [] =
    ap (λ (k : _). records_in k ++ c.of-2.result.value ∷ []) c.of.ensures
    ∙ ap (λ (r : LogRecord). log.records ++ r ∷ []) c.of-2.ensures in
    let new : LogNow =
    record {
      geometry = i.geometry;
      generation = tail.generation;
      records =
          records_in c.of.result.value ++ c.of-2.result.value ∷ [];
      forced =
          length (records_in i.forced_records.value);
      behind = behind_in tail.begun i.older;
      broken =
          false;
    } in
    subst (λ (v : LogNow). IsAppended v rec new) is (record {
      geometry = refl;
      generation = same.0;
      records = more;
      forced = refl;
      behind = behind_kept i.tail.begun tail.begun i.older now.behind;
      sound = refl;
    })

pub returns-clause-stands : goal.returns-clause-stands
returns-clause-stands g c told =
    let i = c.self.inside in
    let B = g.B.Blocks in
    let a = B.seen c.args.blocks.now in
    let rec = c.args.rec.now in
    let log : LogNow =
    record {
      geometry = i.geometry;
      generation = i.tail.generation;
      records =
          records_in i.records;
      forced = length (records_in i.forced_records.value);
      behind =
          behind_in i.tail.begun i.older;
      broken = i.broken;
    } in
    let is : log ≡ c.args.self.now = c.self.view_is in
    let kept = c.self.invariant.2 (ap (λ (v : LogNow). v.broken) is ∙ c.requires.sound) in
    let live : EndsLive (live_in log.records) rec =
    subst (λ (v : LogNow). EndsLive (live_in v.records) rec) (sym is) c.requires.live in
    let room : used_by log.records + need_of (live_in log.records) rec ≤ log_size log.geometry =
    subst (λ (v : LogNow). used_by v.records ≤ log_size v.geometry
    → used_by v.records + need_of (live_in v.records) rec ≤ log_size v.geometry) (sym is)
    c.requires.room kept.fits in
    let fits : length (bytes_of log.records) + length (record_bytes rec) ≤ log_size log.geometry =
    record_fits log.records rec (log_size log.geometry) live room in
    let total = bytes_of (log.records ++ rec ∷ []) in
    let stands = λ (told : IsTrue B.tells). subst (λ (v : LogNow). LogStands v a) (sym is)
    (c.requires.stands told) in
    let shape : IsOf log.geometry a =
    subst (λ (v : LogNow). IsOf v.geometry a) (sym is) c.requires.shape in
    let most : length total ≤ log_size log.geometry =
    omega (
      arith,
      fits,
      ap length (bytes-push log.records rec),
      length-append
          (bytes_of log.records) (record_bytes rec),
    ) in
    let w = start_writing B.tells log total i.tail i.older a (record {
      generation = refl;
      behind =
          refl;
    }) c.self.invariant.0 shape kept.young kept.last kept.turned
    (record_bytes rec, sym (bytes-push log.records rec)) (total-some log.records rec) most stands in
    let ends = c.in_ok-put_record.ensures.ending log total (bytes_of log.records) w
    (sym (bytes-push log.records rec)) in
    let now = ends.writing in
    let tail = c.put_record.new.tail in
    let same = c.put_record.ensures.same in
    let turned = turned_of log.geometry total tail
    (omega (arith, block_size_least log.geometry.size c.self.invariant.0.size)) now.buffer
    c.in_ok-put_record.ensures.ready in
    let more : records_in c.of.result.value ++ c.of-2.result.value ∷ [] ≡ log.records ++ rec ∷ [] =
    ap (λ (k : _). records_in k ++ c.of-2.result.value ∷ []) c.of.ensures
    ∙ ap (λ (r : LogRecord). log.records ++ r ∷ []) c.of-2.ensures in
    let b = B.seen c.put_record.new.blocks in
    let behind : Option Content = if tail.begun then None else log.behind in
    seen_grown log rec behind (behind_in tail.begun i.older) tail.generation
    (records_in c.of.result.value
    ++ c.of-2.result.value ∷ []) false b same.0 more
    (behind_now i.tail.begun tail.begun i.older now.behind)
    (sym (ap (λ (v : LogNow). v.broken) is ∙ c.requires.sound))
    (stands_grown B.tells told log rec tail a b (stands told) c.put_record.ensures.fields turned now
    (ends.current told) (fits_grown log.records rec (log_size log.geometry) live room))

pub returns-clause-moments : goal.returns-clause-moments
returns-clause-moments g c told =
    let i = c.self.inside in
    let B = g.B.Blocks in
    let a = B.seen c.args.blocks.now in
    let rec = c.args.rec.now in
    let log : LogNow =
    record {
      geometry = i.geometry;
      generation = i.tail.generation;
      records =
          records_in i.records;
      forced = length (records_in i.forced_records.value);
      behind =
          behind_in i.tail.begun i.older;
      broken = i.broken;
    } in
    let is : log ≡ c.args.self.now = c.self.view_is in
    let kept = c.self.invariant.2 (ap (λ (v : LogNow). v.broken) is ∙ c.requires.sound) in
    let live : EndsLive (live_in log.records) rec =
    subst (λ (v : LogNow). EndsLive (live_in v.records) rec) (sym is) c.requires.live in
    let room : used_by log.records + need_of (live_in log.records) rec ≤ log_size log.geometry =
    subst (λ (v : LogNow). used_by v.records ≤ log_size v.geometry
    → used_by v.records + need_of (live_in v.records) rec ≤ log_size v.geometry) (sym is)
    c.requires.room kept.fits in
    let fits : length (bytes_of log.records) + length (record_bytes rec) ≤ log_size log.geometry =
    record_fits log.records rec (log_size log.geometry) live room in
    let total = bytes_of (log.records ++ rec ∷ []) in
    let stands = λ (told : IsTrue B.tells). subst (λ (v : LogNow). LogStands v a) (sym is)
    (c.requires.stands told) in
    let shape : IsOf log.geometry a =
    subst (λ (v : LogNow). IsOf v.geometry a) (sym is) c.requires.shape in
    let most : length total ≤ log_size log.geometry =
    omega (
      arith,
      fits,
      ap length (bytes-push log.records rec),
      length-append
          (bytes_of log.records) (record_bytes rec),
    ) in
    let w = start_writing B.tells log total i.tail i.older a (record {
      generation = refl;
      behind =
          refl;
    }) c.self.invariant.0 shape kept.young kept.last kept.turned
    (record_bytes rec, sym (bytes-push log.records rec)) (total-some log.records rec) most stands in
    subst (λ (v : LogNow). Touches (InLog v.geometry) (HasLog (with_record v rec)) a
    (B.seen c.put_record.new.blocks)) is
    (moments_grown log rec total a (B.seen c.put_record.new.blocks) (stands told)
    c.put_record.ensures.fields (fits_grown log.records rec (log_size log.geometry) live room) refl
    ((c.put_record.ensures.ending log total (bytes_of log.records) w
    (sym (bytes-push log.records rec))).touches told))

pub returns-clause-shape : goal.returns-clause-shape
returns-clause-shape g c =
    let i = c.self.inside in
    let B = g.B.Blocks in
    let a = B.seen c.args.blocks.now in
    let rec = c.args.rec.now in
    let log : LogNow =
    record {
      geometry = i.geometry;
      generation = i.tail.generation;
      records =
          records_in i.records;
      forced = length (records_in i.forced_records.value);
      behind =
          behind_in i.tail.begun i.older;
      broken = i.broken;
    } in
    let is : log ≡ c.args.self.now = c.self.view_is in
    let kept = c.self.invariant.2 (ap (λ (v : LogNow). v.broken) is ∙ c.requires.sound) in
    let live : EndsLive (live_in log.records) rec =
    subst (λ (v : LogNow). EndsLive (live_in v.records) rec) (sym is) c.requires.live in
    let room : used_by log.records + need_of (live_in log.records) rec ≤ log_size log.geometry =
    subst (λ (v : LogNow). used_by v.records ≤ log_size v.geometry
    → used_by v.records + need_of (live_in v.records) rec ≤ log_size v.geometry) (sym is)
    c.requires.room kept.fits in
    let fits : length (bytes_of log.records) + length (record_bytes rec) ≤ log_size log.geometry =
    record_fits log.records rec (log_size log.geometry) live room in
    let total = bytes_of (log.records ++ rec ∷ []) in
    let stands = λ (told : IsTrue B.tells). subst (λ (v : LogNow). LogStands v a) (sym is)
    (c.requires.stands told) in
    let shape : IsOf log.geometry a =
    subst (λ (v : LogNow). IsOf v.geometry a) (sym is) c.requires.shape in
    let most : length total ≤ log_size log.geometry =
    omega (
      arith,
      fits,
      ap length (bytes-push log.records rec),
      length-append
          (bytes_of log.records) (record_bytes rec),
    ) in
    let w = start_writing B.tells log total i.tail i.older a (record {
      generation = refl;
      behind =
          refl;
    }) c.self.invariant.0 shape kept.young kept.last kept.turned
    (record_bytes rec, sym (bytes-push log.records rec)) (total-some log.records rec) most stands in
    let ends = c.in_ok-put_record.ensures.ending log total (bytes_of log.records) w
    (sym (bytes-push log.records rec)) in
    let now = ends.writing in
    let tail = c.put_record.new.tail in
    let same = c.put_record.ensures.same in
    let turned = turned_of log.geometry total tail
    (omega (arith, block_size_least log.geometry.size c.self.invariant.0.size)) now.buffer
    c.in_ok-put_record.ensures.ready in
    let more : records_in c.of.result.value ++ c.of-2.result.value ∷ [] ≡ log.records ++ rec ∷ [] =
    ap (λ (k : _). records_in k ++ c.of-2.result.value ∷ []) c.of.ensures
    ∙ ap (λ (r : LogRecord). log.records ++ r ∷ []) c.of-2.ensures in
    now.shape
