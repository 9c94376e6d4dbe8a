use Rattle.std.proofs.Common.{ℕ, nat_eq, not, ◌∙◌}
use Rattle.std.specs.HashMap.{get}
use Rattle.std.specs.List.{filter}
use Rattle.vr_types.specs.declared.lock_name.LockName.{LockName}
use Rattle.vr_types.specs.declared.unit.Unit as units
use Rattle.vr_types.specs.LockName.{lock_name_eq}
use Rattle.vr_types.specs.Locks.{same_unit}
use Rattle.vr_locks.specs.Filed.{numbers_in}
use Rattle.vr_locks.specs.Maps.{lock_at, of_name, of_unit}
use Rattle.vr_locks.proofs.AskLemmas.{kept-or-cut, unused-less}
use Rattle.vr_locks.proofs.FilingLemmas.{filed-less, number-kept}
use Rattle.vr_locks.proofs.maps.LockMaps.forget_one.Goals as goal

pub returns-clause-kept : goal.returns-clause-kept
returns-clause-kept c =
    let at = lock_at c.args.self.now in
    let names_new = λ (q : LockName). numbers_in (get lock_name_eq c.drop_number.new.map q) in
    let units_new = λ (q : units.Unit). numbers_in (get same_unit c.drop_number-2.new.map q) in
    record {
      names = filed-less c.requires.kept.names names_new at c.args.number
          (λ n. unused-less at c.args.number n c.requires.unused)
          (λ q. kept-or-cut (lock_name_eq c.args.name.now q)
          (filter (λ (n : ℕ). not (nat_eq n c.args.number)) (of_name c.args.self.now q))
          (of_name c.args.self.now q) (names_new q) (c.drop_number.ensures.numbers q));
      units = filed-less c.requires.kept.units units_new at c.args.number
          (λ n. unused-less at c.args.number n c.requires.unused)
          (λ q. kept-or-cut (same_unit c.args.unit q)
          (filter (λ (n : ℕ). not (nat_eq n c.args.number)) (of_unit c.args.self.now q))
          (of_unit c.args.self.now q) (units_new q) (c.drop_number-2.ensures.numbers q));
      below = c.requires.kept.below;
      sound = c.requires.kept.sound;
      room = c.requires.kept.room;
      used_names = c.drop_number.ensures.used;
      used_units = c.drop_number-2.ensures.used;
    }

pub returns-clause-others : goal.returns-clause-others
returns-clause-others c = λ n other apart filed.
    let names_new = λ (q : LockName). numbers_in (get lock_name_eq c.drop_number.new.map q) in
    let units_new = λ (q : units.Unit). numbers_in (get same_unit c.drop_number-2.new.map q) in
    record {
      name_alone = λ q.
          number-kept c.requires.kept.names names_new c.args.number n apart
          (λ r. kept-or-cut (lock_name_eq c.args.name.now r)
          (filter (λ (j : ℕ). not (nat_eq j c.args.number)) (of_name c.args.self.now r))
          (of_name c.args.self.now r) (names_new r) (c.drop_number.ensures.numbers r)) q
          ∙ filed.name_alone q;
      unit_alone = λ q.
          number-kept c.requires.kept.units units_new c.args.number n apart
          (λ r. kept-or-cut (same_unit c.args.unit r)
          (filter (λ (j : ℕ). not (nat_eq j c.args.number)) (of_unit c.args.self.now r))
          (of_unit c.args.self.now r) (units_new r) (c.drop_number-2.ensures.numbers r)) q
          ∙ filed.unit_alone q;
    }
