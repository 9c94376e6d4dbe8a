use Rattle.std.proofs.Common.{◌≡◌, ℕ, ◌+◌, List, ◌++◌, length, Option, Some, OnOk, subst, sym, ap}
use Rattle.std.proofs.Common.{◌∙◌}
use Rattle.vr_log.specs.Records.{old_bytes}
use Rattle.vr_log.specs.Writing.{HasRoom, position}
use Rattle.vr_log.proofs.Adding.{Writes}
use Rattle.vr_log.proofs.Lives.{old-some}
use Rattle.vr_log.proofs.writing.write_old.Goals as goal

pub add-requires-clause-room : goal.add-requires-clause-room
add-requires-clause-room g c =
    let is : old_bytes c.args.old.now ≡ c.none_bytes-none.result = ap old_bytes c.in-None.is
    ∙ sym c.none_bytes-none.ensures in
    subst (λ (x : List ℕ). HasRoom c.args.tail.now (length x)) is c.requires.room

pub returns-in-None-clause-position : goal.returns-in-None-clause-position
returns-in-None-clause-position g c =
    let is : old_bytes c.args.old.now ≡ c.none_bytes-none.result = ap old_bytes c.in-None.is
    ∙ sym c.none_bytes-none.ensures in
    subst (λ (x : List ℕ). OnOk c.add.result
    (position c.add.new.self ≡ position c.args.tail.now + length x)) (sym is)
    c.add.ensures.position

pub returns-in-None-clause-writing : goal.returns-in-None-clause-writing
returns-in-None-clause-writing g c =
    let B = g.B.Blocks in
    let is : old_bytes c.args.old.now ≡ c.none_bytes-none.result = ap old_bytes c.in-None.is
    ∙ sym c.none_bytes-none.ensures in
    subst (λ (x : List ℕ). Writes B.tells x c.args.tail.now c.add.new.self
    (B.seen c.args.blocks.now) (B.seen c.add.new.blocks) c.add.result) (sym is)
    c.add.ensures.writing

pub add_both-requires-clause-room : goal.add_both-requires-clause-room
add_both-requires-clause-room g c =
    let is : old_bytes c.args.old.now ≡ c.old_head.result ++ c.as_slice-bytes.result.now =
    old-some c.args.old.now c.as_slice-bytes.result.now c.old_head.result (c.in-Some.is
    ∙ ap (λ (x : List ℕ). let o : Option (List ℕ) = Some x in
    o) (sym c.as_slice-bytes.ensures)) c.old_head.ensures in
    subst (λ (x : List ℕ). HasRoom c.args.tail.now (length x)) is c.requires.room

pub returns-in-Some-clause-position : goal.returns-in-Some-clause-position
returns-in-Some-clause-position g c =
    let is : old_bytes c.args.old.now ≡ c.old_head.result ++ c.as_slice-bytes.result.now =
    old-some c.args.old.now c.as_slice-bytes.result.now c.old_head.result (c.in-Some.is
    ∙ ap (λ (x : List ℕ). let o : Option (List ℕ) = Some x in
    o) (sym c.as_slice-bytes.ensures)) c.old_head.ensures in
    subst (λ (x : List ℕ). OnOk c.add_both.result
    (position c.add_both.new.tail ≡ position c.args.tail.now + length x)) (sym is)
    c.add_both.ensures.position

pub returns-in-Some-clause-writing : goal.returns-in-Some-clause-writing
returns-in-Some-clause-writing g c =
    let B = g.B.Blocks in
    let is : old_bytes c.args.old.now ≡ c.old_head.result ++ c.as_slice-bytes.result.now =
    old-some c.args.old.now c.as_slice-bytes.result.now c.old_head.result (c.in-Some.is
    ∙ ap (λ (x : List ℕ). let o : Option (List ℕ) = Some x in
    o) (sym c.as_slice-bytes.ensures)) c.old_head.ensures in
    subst (λ (x : List ℕ). Writes B.tells x c.args.tail.now c.add_both.new.tail
    (B.seen c.args.blocks.now) (B.seen c.add_both.new.blocks) c.add_both.result) (sym is)
    c.add_both.ensures.writing
