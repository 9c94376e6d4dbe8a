use Rattle.std.proofs.Common.{◌≡◌, ℕ, ◌+◌, List, ◌++◌, length, Option, Some, subst, sym, ap, ◌∙◌}
use Rattle.vr_log.specs.Memory.{IsTail}
use Rattle.vr_log.specs.Records.{old_bytes}
use Rattle.vr_log.specs.Writing.{HasRoom, position}
use Rattle.vr_log.proofs.Lives.{old-some}
use Rattle.vr_log.proofs.writing.pass_old.Goals as goal

pub pass-requires-clause-room : goal.pass-requires-clause-room
pass-requires-clause-room c =
    let is : old_bytes c.args.old.now ≡ c.none_bytes-none.result = ap old_bytes c.in-None.is
    ∙ sym c.none_bytes-none.ensures in
    subst (λ (x : List ℕ). HasRoom c.args.tail.now (length x)) is c.requires.room

pub returns-in-None-clause-position : goal.returns-in-None-clause-position
returns-in-None-clause-position c =
    let is : old_bytes c.args.old.now ≡ c.none_bytes-none.result = ap old_bytes c.in-None.is
    ∙ sym c.none_bytes-none.ensures in
    subst (λ (x : List ℕ). position c.pass.new.self ≡ position c.args.tail.now + length x) (sym is)
    c.pass.ensures.position

pub returns-in-None-clause-passed : goal.returns-in-None-clause-passed
returns-in-None-clause-passed c geometry written t =
    let is : old_bytes c.args.old.now ≡ c.none_bytes-none.result = ap old_bytes c.in-None.is
    ∙ sym c.none_bytes-none.ensures in
    subst (λ (x : List ℕ). IsTail geometry (written
    ++ x) c.pass.new.self) (sym is) (c.pass.ensures.passed geometry written t)

pub pass_both-requires-clause-room : goal.pass_both-requires-clause-room
pass_both-requires-clause-room c =
    let is : old_bytes c.args.old.now ≡ c.old_head.result ++ c.as_slice-bytes.result.now =
    old-some c.args.old.now c.as_slice-bytes.result.now c.old_head.result (c.in-Some.is
    ∙ ap (λ (x : List ℕ). let o : Option (List ℕ) = Some x in
    o) (sym c.as_slice-bytes.ensures)) c.old_head.ensures in
    subst (λ (x : List ℕ). HasRoom c.args.tail.now (length x)) is c.requires.room

pub returns-in-Some-clause-position : goal.returns-in-Some-clause-position
returns-in-Some-clause-position c =
    let is : old_bytes c.args.old.now ≡ c.old_head.result ++ c.as_slice-bytes.result.now =
    old-some c.args.old.now c.as_slice-bytes.result.now c.old_head.result (c.in-Some.is
    ∙ ap (λ (x : List ℕ). let o : Option (List ℕ) = Some x in
    o) (sym c.as_slice-bytes.ensures)) c.old_head.ensures in
    subst (λ (x : List ℕ). position c.pass_both.new.tail ≡ position c.args.tail.now + length x)
    (sym is) c.pass_both.ensures.position

pub returns-in-Some-clause-passed : goal.returns-in-Some-clause-passed
returns-in-Some-clause-passed c geometry written t =
    let is : old_bytes c.args.old.now ≡ c.old_head.result ++ c.as_slice-bytes.result.now =
    old-some c.args.old.now c.as_slice-bytes.result.now c.old_head.result (c.in-Some.is
    ∙ ap (λ (x : List ℕ). let o : Option (List ℕ) = Some x in
    o) (sym c.as_slice-bytes.ensures)) c.old_head.ensures in
    subst (λ (x : List ℕ). IsTail geometry (written
    ++ x) c.pass_both.new.tail) (sym is) (c.pass_both.ensures.passed geometry written t)
