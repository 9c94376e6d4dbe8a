use Rattle.std.proofs.Common.{◌≡◌, ℕ, ◌+◌, List, ◌++◌, length, OnOk, subst, sym, ap, ◌∙◌, arith}
use Rattle.std.proofs.Common.{rules}
use Rattle.std.proofs.lemmas.List.{length-append}
use Rattle.vr_log.specs.declared.record.LogRecord.{LogRecord}
use Rattle.vr_log.specs.declared.record.LogRecord.TheVariants.{Before}
use Rattle.vr_log.specs.Records.{record_bytes, old_bytes}
use Rattle.vr_log.specs.Writing.{IsPrefix, HasRoom, position}
use Rattle.vr_log.proofs.Adding.{Writes, writes_then, writes_stop, room_left}
use Rattle.vr_log.proofs.Lives.{before-is, end-is}
use Rattle.vr_log.proofs.writing.write_record.Goals as goal

pub add_both-requires-clause-room : goal.add_both-requires-clause-room
add_both-requires-clause-room g c =
    let b = c.in-Before in
    let place = c.as_slice-place.result.now in
    let one = c.before_head-head.result ++ place in
    let is : record_bytes c.args.rec.now ≡ one ++ old_bytes b.old =
    before-is c.args.rec.now b.unit b.part place b.old c.before_head-head.result (b.is
    ∙ ap (λ (x : List ℕ). let r : LogRecord = Before b.unit b.part x b.old in
    r) (sym c.as_slice-place.ensures)) c.before_head-head.ensures.bytes in
    let room : HasRoom c.args.tail.now (length (one ++ old_bytes b.old)) =
    subst (λ (x : List ℕ). HasRoom c.args.tail.now (length x)) is c.requires.room in
    omega (arith, room, length-append one (old_bytes b.old))

pub write_old-requires-clause-room : goal.write_old-requires-clause-room
write_old-requires-clause-room g c =
    let b = c.in-Before in
    let place = c.as_slice-place.result.now in
    let one = c.before_head-head.result ++ place in
    let is : record_bytes c.args.rec.now ≡ one ++ old_bytes b.old =
    before-is c.args.rec.now b.unit b.part place b.old c.before_head-head.result (b.is
    ∙ ap (λ (x : List ℕ). let r : LogRecord = Before b.unit b.part x b.old in
    r) (sym c.as_slice-place.ensures)) c.before_head-head.ensures.bytes in
    let room : HasRoom c.args.tail.now (length (one ++ old_bytes b.old)) =
    subst (λ (x : List ℕ). HasRoom c.args.tail.now (length x)) is c.requires.room in
    let same = c.add_both.ensures.same in
    room_left c.args.tail.now c.add_both.new.tail (length one) (length (old_bytes b.old)) same.1
    same.2 c.in_ok-add_both-in-Before.ensures.position
    (subst (λ (n : ℕ). HasRoom c.args.tail.now n) (length-append one (old_bytes b.old)) room)

pub returns-in_err-add_both-in-Before-clause-writing :
    goal.returns-in_err-add_both-in-Before-clause-writing
returns-in_err-add_both-in-Before-clause-writing g c log total written w prefix =
    let B = g.B.Blocks in
    let b = c.in-Before in
    let place = c.as_slice-place.result.now in
    let one = c.before_head-head.result ++ place in
    let is : record_bytes c.args.rec.now ≡ one ++ old_bytes b.old =
    before-is c.args.rec.now b.unit b.part place b.old c.before_head-head.result (b.is
    ∙ ap (λ (x : List ℕ). let r : LogRecord = Before b.unit b.part x b.old in
    r) (sym c.as_slice-place.ensures)) c.before_head-head.ensures.bytes in
    record {
      writing = search rules;
      touches = writes_stop B.tells one (old_bytes b.old) c.args.tail.now c.add_both.new.tail
          (B.seen c.args.blocks.now) (B.seen c.add_both.new.blocks) c.add_both.result
          c.add_both.ensures.writing log total written w
          (subst (λ (x : List ℕ). IsPrefix (written ++ x) total) is prefix);
    }

pub returns-in_ok-add_both-in-Before-clause-position :
    goal.returns-in_ok-add_both-in-Before-clause-position
returns-in_ok-add_both-in-Before-clause-position g c =
    let b = c.in-Before in
    let place = c.as_slice-place.result.now in
    let one = c.before_head-head.result ++ place in
    let is : record_bytes c.args.rec.now ≡ one ++ old_bytes b.old =
    before-is c.args.rec.now b.unit b.part place b.old c.before_head-head.result (b.is
    ∙ ap (λ (x : List ℕ). let r : LogRecord = Before b.unit b.part x b.old in
    r) (sym c.as_slice-place.ensures)) c.before_head-head.ensures.bytes in
    let long : length (record_bytes c.args.rec.now) ≡ length one + length (old_bytes b.old) =
    ap length is ∙ length-append one (old_bytes b.old) in
    let moved : position c.add_both.new.tail ≡ position c.args.tail.now + length one =
    c.in_ok-add_both-in-Before.ensures.position in
    let whole : position c.add_both.new.tail + length (old_bytes b.old) ≡ position c.args.tail.now +
    length (record_bytes c.args.rec.now) = omega (arith, moved, long) in
    subst (λ (n : ℕ). OnOk c.write_old.result (position c.write_old.new.tail ≡ n)) whole
    c.write_old.ensures.position

pub returns-in_ok-add_both-in-Before-clause-writing :
    goal.returns-in_ok-add_both-in-Before-clause-writing
returns-in_ok-add_both-in-Before-clause-writing g c =
    let B = g.B.Blocks in
    let b = c.in-Before in
    let place = c.as_slice-place.result.now in
    let one = c.before_head-head.result ++ place in
    let is : record_bytes c.args.rec.now ≡ one ++ old_bytes b.old =
    before-is c.args.rec.now b.unit b.part place b.old c.before_head-head.result (b.is
    ∙ ap (λ (x : List ℕ). let r : LogRecord = Before b.unit b.part x b.old in
    r) (sym c.as_slice-place.ensures)) c.before_head-head.ensures.bytes in
    subst (λ (x : List ℕ). Writes B.tells x c.args.tail.now c.write_old.new.tail
    (B.seen c.args.blocks.now) (B.seen c.write_old.new.blocks) c.write_old.result) (sym is)
    (writes_then B.tells one (old_bytes b.old) c.args.tail.now c.add_both.new.tail
    c.write_old.new.tail (B.seen c.args.blocks.now) (B.seen c.add_both.new.blocks)
    (B.seen c.write_old.new.blocks) tt c.write_old.result
    c.in_ok-add_both-in-Before.ensures.writing c.write_old.ensures.writing)

pub add-requires-clause-room : goal.add-requires-clause-room
add-requires-clause-room g c =
    let is : record_bytes c.args.rec.now ≡ c.end_bytes.result =
    end-is c.args.rec.now c.in-End.unit c.in-End.kind c.end_bytes.result c.in-End.is
    c.end_bytes.ensures.bytes in
    subst (λ (x : List ℕ). HasRoom c.args.tail.now (length x)) is c.requires.room

pub returns-in-End-clause-position : goal.returns-in-End-clause-position
returns-in-End-clause-position g c =
    let is : record_bytes c.args.rec.now ≡ c.end_bytes.result =
    end-is c.args.rec.now c.in-End.unit c.in-End.kind c.end_bytes.result c.in-End.is
    c.end_bytes.ensures.bytes in
    subst (λ (x : List ℕ). OnOk c.add.result
    (position c.add.new.self ≡ position c.args.tail.now + length x)) (sym is)
    c.add.ensures.position

pub returns-in-End-clause-writing : goal.returns-in-End-clause-writing
returns-in-End-clause-writing g c =
    let B = g.B.Blocks in
    let is : record_bytes c.args.rec.now ≡ c.end_bytes.result =
    end-is c.args.rec.now c.in-End.unit c.in-End.kind c.end_bytes.result c.in-End.is
    c.end_bytes.ensures.bytes in
    subst (λ (x : List ℕ). Writes B.tells x c.args.tail.now c.add.new.self
    (B.seen c.args.blocks.now) (B.seen c.add.new.blocks) c.add.result) (sym is)
    c.add.ensures.writing
