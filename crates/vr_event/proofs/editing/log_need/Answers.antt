use Rattle.vr_event.proofs.EditRecords.{log-added, log-altered, log-deleted, log-renamed}
use Rattle.vr_event.proofs.editing.log_need.Goals as goal

pub returns-in-Alter : goal.returns-in-Alter
returns-in-Alter c = log-altered c.args.edit.now c.in-Alter.entry c.in-Alter.new c.in-Alter.is

pub returns-in-Rename : goal.returns-in-Rename
returns-in-Rename c = log-renamed c.args.edit.now c.in-Rename.entry c.in-Rename.new c.in-Rename.is

pub returns-in-Delete : goal.returns-in-Delete
returns-in-Delete c = log-deleted c.args.edit.now _ c.in-Delete.is c.len.result c.len.ensures

pub returns-in-Add : goal.returns-in-Add
returns-in-Add c = log-added c.args.edit.now c.in-Add.field-0 c.in-Add.is
