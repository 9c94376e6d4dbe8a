use Rattle.std.proofs.Common.{◌≡◌, ℕ, ◌+◌, List, ◌++◌, length, subst, sym, ap, ◌∙◌, append_assoc}
use Rattle.std.proofs.Common.{arith}
use Rattle.std.proofs.lemmas.List.{length-append}
use Rattle.vr_log.specs.declared.record.LogRecord.{LogRecord}
use Rattle.vr_log.specs.declared.record.LogRecord.TheVariants.{Before}
use Rattle.vr_log.specs.Memory.{IsTail}
use Rattle.vr_log.specs.Records.{record_bytes, old_bytes}
use Rattle.vr_log.specs.Writing.{HasRoom, position}
use Rattle.vr_log.proofs.Adding.{room_left}
use Rattle.vr_log.proofs.Lives.{before-is, end-is}
use Rattle.vr_log.proofs.writing.pass_record.Goals as goal

pub pass_both-requires-clause-room : goal.pass_both-requires-clause-room
pass_both-requires-clause-room c =
    let b = c.in-Before in
    let place = c.as_slice-place.result.now in
    let one = c.before_head-head.result ++ place in
    let is : record_bytes c.args.rec.now ≡ one ++ old_bytes b.old =
    before-is c.args.rec.now b.unit b.part place b.old c.before_head-head.result (b.is
    ∙ ap (λ (x : List ℕ). let r : LogRecord = Before b.unit b.part x b.old in
    r) (sym c.as_slice-place.ensures)) c.before_head-head.ensures.bytes in
    let room : HasRoom c.args.tail.now (length (one ++ old_bytes b.old)) =
    subst (λ (x : List ℕ). HasRoom c.args.tail.now (length x)) is c.requires.room in
    omega (arith, room, length-append one (old_bytes b.old))

pub pass_old-requires-clause-room : goal.pass_old-requires-clause-room
pass_old-requires-clause-room c =
    let b = c.in-Before in
    let place = c.as_slice-place.result.now in
    let one = c.before_head-head.result ++ place in
    let is : record_bytes c.args.rec.now ≡ one ++ old_bytes b.old =
    before-is c.args.rec.now b.unit b.part place b.old c.before_head-head.result (b.is
    ∙ ap (λ (x : List ℕ). let r : LogRecord = Before b.unit b.part x b.old in
    r) (sym c.as_slice-place.ensures)) c.before_head-head.ensures.bytes in
    let room : HasRoom c.args.tail.now (length (one ++ old_bytes b.old)) =
    subst (λ (x : List ℕ). HasRoom c.args.tail.now (length x)) is c.requires.room in
    let same = c.pass_both.ensures.same in
    room_left c.args.tail.now c.pass_both.new.tail (length one) (length (old_bytes b.old)) same.1
    same.2 c.pass_both.ensures.position
    (subst (λ (n : ℕ). HasRoom c.args.tail.now n) (length-append one (old_bytes b.old)) room)

pub returns-in-Before-clause-position : goal.returns-in-Before-clause-position
returns-in-Before-clause-position c =
    let b = c.in-Before in
    let place = c.as_slice-place.result.now in
    let one = c.before_head-head.result ++ place in
    let is : record_bytes c.args.rec.now ≡ one ++ old_bytes b.old =
    before-is c.args.rec.now b.unit b.part place b.old c.before_head-head.result (b.is
    ∙ ap (λ (x : List ℕ). let r : LogRecord = Before b.unit b.part x b.old in
    r) (sym c.as_slice-place.ensures)) c.before_head-head.ensures.bytes in
    let long : length (record_bytes c.args.rec.now) ≡ length one + length (old_bytes b.old) =
    ap length is ∙ length-append one (old_bytes b.old) in
    omega (arith, c.pass_both.ensures.position, c.pass_old.ensures.position, long)

pub returns-in-Before-clause-passed : goal.returns-in-Before-clause-passed
returns-in-Before-clause-passed c geometry written t =
    let b = c.in-Before in
    let place = c.as_slice-place.result.now in
    let one = c.before_head-head.result ++ place in
    let is : record_bytes c.args.rec.now ≡ one ++ old_bytes b.old =
    before-is c.args.rec.now b.unit b.part place b.old c.before_head-head.result (b.is
    ∙ ap (λ (x : List ℕ). let r : LogRecord = Before b.unit b.part x b.old in
    r) (sym c.as_slice-place.ensures)) c.before_head-head.ensures.bytes in
    subst (λ (x : List ℕ). IsTail geometry x c.pass_old.new.tail)
    (append_assoc written one (old_bytes b.old) ∙ ap (λ (x : List ℕ). written ++ x) (sym is))
    (c.pass_old.ensures.passed geometry (written
    ++ one) (c.pass_both.ensures.passed geometry written t))

pub pass-requires-clause-room : goal.pass-requires-clause-room
pass-requires-clause-room c =
    let is : record_bytes c.args.rec.now ≡ c.end_bytes.result =
    end-is c.args.rec.now c.in-End.unit c.in-End.kind c.end_bytes.result c.in-End.is
    c.end_bytes.ensures.bytes in
    subst (λ (x : List ℕ). HasRoom c.args.tail.now (length x)) is c.requires.room

pub returns-in-End-clause-position : goal.returns-in-End-clause-position
returns-in-End-clause-position c =
    let is : record_bytes c.args.rec.now ≡ c.end_bytes.result =
    end-is c.args.rec.now c.in-End.unit c.in-End.kind c.end_bytes.result c.in-End.is
    c.end_bytes.ensures.bytes in
    subst (λ (x : List ℕ). position c.pass.new.self ≡ position c.args.tail.now + length x) (sym is)
    c.pass.ensures.position

pub returns-in-End-clause-passed : goal.returns-in-End-clause-passed
returns-in-End-clause-passed c geometry written t =
    let is : record_bytes c.args.rec.now ≡ c.end_bytes.result =
    end-is c.args.rec.now c.in-End.unit c.in-End.kind c.end_bytes.result c.in-End.is
    c.end_bytes.ensures.bytes in
    subst (λ (x : List ℕ). IsTail geometry (written
    ++ x) c.pass.new.self) (sym is) (c.pass.ensures.passed geometry written t)
