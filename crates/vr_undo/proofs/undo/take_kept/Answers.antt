use Rattle.std.proofs.Common.{List, ℕ, Option, ◌≡◌, ◌<◌, ◌==◌, ap, cond, filter, get_or, length}
use Rattle.std.proofs.Common.{not, set, subst, sym, ◌∙◌}
use Rattle.std.specs.Prelude.{is_some, vec_capacity}
use Rattle.std.proofs.lemmas.List.{get_or_default}
use Rattle.vr_undo.specs.Order.{IsKept}
use Rattle.vr_undo.specs.Records.{put_out}
use Rattle.vr_undo.specs.Searched.{out_of, record_at}
use Rattle.vr_undo.specs.declared.before.Before.{Before}
use Rattle.vr_undo.specs.declared.record.KeptRecord.{KeptRecord}
use Rattle.vr_undo.proofs.Keeping.{kept-out}
use Rattle.vr_undo.proofs.Leaving.{item-at}
use Rattle.vr_undo.proofs.undo.take_kept.Goals as goal

module _ (c : goal.After-records-1) where
  abbrev records : List KeptRecord
  records = c.args.records.now.items

  abbrev order : List ℕ
  order = c.args.order.now.items

  abbrev number : ℕ
  number = get_or c.args.live.now.items c.args.at 0

  number-is : c.remove-number.result ≡ number
  number-is =
      c.remove-number.ensures.value
      ∙ get_or_default c.args.live.now.items c.args.at c.remove-number.result 0 c.requires.at

  within : c.remove-number.result < length records
  within =
      subst (λ n. n < length records) (sym number-is)
      (c.requires.kept.living.numbers c.args.at 0 c.requires.at)

  item : c.index_mut.result.now ≡ record_at records number
  item =
      item-at records c.remove-number.result c.index_mut.result.now within
      c.index_mut.ensures.value ∙ ap (record_at records) number-is

  shown : c.index.result.now ≡ record_at records number
  shown =
      item-at records c.remove-number.result c.index.result.now within c.index.ensures
      ∙ ap (record_at records) number-is

  out : set records c.remove-number.result (record c.index_mut.result.now { kept = c.take.new.self })
      ≡ out_of records number
  out =
      ap (λ (kept : Option Before). set records c.remove-number.result
      (record c.index_mut.result.now { kept = kept })) c.take.ensures.after
      ∙ ap (λ (one : KeptRecord). set records c.remove-number.result (put_out one)) item
      ∙ ap (λ n. set records n (put_out (record_at records number))) number-is

  left : c.unlist.new.order.items ≡ cond (is_some (record_at records number).logged) order
      (filter (λ other. not (other == number)) order)
  left =
      c.unlist.ensures.rest
      ∙ ap (λ (one : KeptRecord). cond (is_some one.logged) order
      (filter (λ other. not (other == c.remove-number.result)) order)) shown
      ∙ ap (λ (n : ℕ). cond (is_some (record_at records number).logged) order
      (filter (λ other. not (other == n)) order)) number-is

pub returns-clause-value : goal.returns-clause-value
returns-clause-value c =
    c.take.ensures.value ∙ ap (λ (kept : KeptRecord). kept.kept) (item c)

pub returns-clause-records : goal.returns-clause-records
returns-clause-records c = out c

pub returns-clause-kept : goal.returns-clause-kept
returns-clause-kept c =
    let order_left = c.unlist.new.order in
    let live_left = c.remove-number.new.self in
    subst (λ (all : List KeptRecord). IsKept all order_left.items live_left.items
    (vec_capacity order_left) (vec_capacity live_left)) (sym (out c))
    (kept-out (records c) (order c) c.args.live.now.items order_left.items live_left.items
    (vec_capacity c.args.order.now) (vec_capacity c.args.live.now) (vec_capacity order_left)
    (vec_capacity live_left) c.args.at c.requires.kept c.requires.at (left c)
    c.remove-number.ensures.items c.unlist.ensures.capacity c.remove-number.ensures.capacity)
