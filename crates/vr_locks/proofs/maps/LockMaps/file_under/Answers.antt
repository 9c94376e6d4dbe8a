use Rattle.std.proofs.Common.{◌+◌, nat_eq, ap, arith, ◌∙◌}
use Rattle.std.specs.List.{list_any}
use Rattle.std.specs.HashMap.{get}
use Rattle.vr_types.specs.LockName.{lock_name_eq}
use Rattle.vr_types.specs.declared.lock_name.LockName.{LockName}
use Rattle.vr_types.specs.declared.unit.Unit as units
use Rattle.vr_types.specs.Locks.{same_unit}
use Rattle.vr_locks.specs.Filed.{numbers_in}
use Rattle.vr_locks.proofs.FilingLemmas.{filed-added, filed-later, filed-same, number-filed}
use Rattle.vr_locks.proofs.FilingLemmas.{others-filed}
use Rattle.vr_locks.proofs.maps.LockMaps.file_under.Goals as goal

pub returns-in_err-file-clause-kept : goal.returns-in_err-file-clause-kept
returns-in_err-file-clause-kept c =
    let units_new = λ (q : units.Unit). numbers_in (get same_unit c.file.new.map q) in
    record {
      names = filed-later c.requires.kept.names (c.args.number + 1) (omega arith);
      units = filed-same c.requires.kept.units units_new c.in_err-file.ensures.err;
      below = λ n above. c.requires.kept.below n (omega arith);
      sound = c.requires.kept.sound;
      room = omega arith;
      used_names = c.requires.kept.used_names;
      used_units = c.file.ensures.used;
    }

pub returns-in_err-file-clause-others : goal.returns-in_err-file-clause-others
returns-in_err-file-clause-others c = λ n other less filed. record {
  name_alone = filed.name_alone;
  unit_alone = λ q. ap (list_any (nat_eq n)) (c.in_err-file.ensures.err q) ∙ filed.unit_alone q;
}

pub returns-in_err-file-2-clause-kept : goal.returns-in_err-file-2-clause-kept
returns-in_err-file-2-clause-kept c =
    let units_new = λ (q : units.Unit). numbers_in (get same_unit c.file.new.map q) in
    let names_new = λ (q : LockName). numbers_in (get lock_name_eq c.file-2.new.map q) in
    record {
      names = filed-same c.requires.kept.names names_new c.in_err-file-2.ensures.err;
      units = filed-added c.requires.kept.units units_new c.args.unit c.in_ok-file.ensures.ok
          c.requires.kept.below;
      below = λ n above. c.requires.kept.below n (omega arith);
      sound = c.requires.kept.sound;
      room = omega arith;
      used_names = c.file-2.ensures.used;
      used_units = c.file.ensures.used;
    }

pub returns-in_err-file-2-clause-others : goal.returns-in_err-file-2-clause-others
returns-in_err-file-2-clause-others c = λ n other less filed.
    let units_new = λ (q : units.Unit). numbers_in (get same_unit c.file.new.map q) in
    record {
      name_alone = λ q. ap (list_any (nat_eq n)) (c.in_err-file-2.ensures.err q)
          ∙ filed.name_alone q;
      unit_alone = λ q. others-filed c.requires.kept.units units_new c.args.unit
          c.in_ok-file.ensures.ok q n (λ one. omega arith) ∙ filed.unit_alone q;
    }

pub returns-clause-kept : goal.returns-clause-kept
returns-clause-kept c =
    let units_new = λ (q : units.Unit). numbers_in (get same_unit c.file.new.map q) in
    let names_new = λ (q : LockName). numbers_in (get lock_name_eq c.file-2.new.map q) in
    record {
      names = filed-added c.requires.kept.names names_new c.args.name c.in_ok-file-2.ensures.ok
          c.requires.kept.below;
      units = filed-added c.requires.kept.units units_new c.args.unit c.in_ok-file.ensures.ok
          c.requires.kept.below;
      below = λ n above. c.requires.kept.below n (omega arith);
      sound = c.requires.kept.sound;
      room = omega arith;
      used_names = c.file-2.ensures.used;
      used_units = c.file.ensures.used;
    }

pub returns-clause-others : goal.returns-clause-others
returns-clause-others c = λ n other less filed.
    let units_new = λ (q : units.Unit). numbers_in (get same_unit c.file.new.map q) in
    let names_new = λ (q : LockName). numbers_in (get lock_name_eq c.file-2.new.map q) in
    record {
      name_alone = λ q. others-filed c.requires.kept.names names_new c.args.name
          c.in_ok-file-2.ensures.ok q n (λ one. omega arith) ∙ filed.name_alone q;
      unit_alone = λ q. others-filed c.requires.kept.units units_new c.args.unit
          c.in_ok-file.ensures.ok q n (λ one. omega arith) ∙ filed.unit_alone q;
    }

pub returns-clause-filed : goal.returns-clause-filed
returns-clause-filed c =
    let units_new = λ (q : units.Unit). numbers_in (get same_unit c.file.new.map q) in
    let names_new = λ (q : LockName). numbers_in (get lock_name_eq c.file-2.new.map q) in
    record {
      name_alone = number-filed c.requires.kept.names names_new c.args.name
          c.in_ok-file-2.ensures.ok;
      unit_alone = number-filed c.requires.kept.units units_new c.args.unit c.in_ok-file.ensures.ok;
    }
