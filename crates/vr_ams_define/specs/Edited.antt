-- What a volume shows by its answer to an edit of its catalog, by ALTER, DELETE, or DEFINE of an
-- alternate index or a path, of Access Method Services Commands. The rules are this project's own.
use Rattle.std.specs.Prelude.{◌≡◌, true}
use Rattle.vr_types.specs.declared.fault.DeviceFault.TheVariants.{Read, Write}
use Rattle.vr_edits.specs.Edits.{edited}
use Rattle.vr_edits.specs.declared.edit.CatalogEdit.{CatalogEdit}
use Rattle.vr_trace.specs.Shown.{Shown}
use Rattle.vr_ams_define.specs.declared.answer.Changed.{Changed}
use Rattle.vr_ams_define.specs.declared.answer.Changed.TheVariants.{Again, Done, Fault, Full, Held}
use Rattle.vr_ams_define.specs.declared.answer.Changed.TheVariants.{Live, NoRoom}

-- The edit is made, or nothing of it is. A write that failed stops the volume: whether its catalog
-- has the edit is known once it is opened again.
abbrev pub IsShownEdited : Changed → CatalogEdit → Shown → Shown → Type 0
IsShownEdited Done edit old new = new ≡ record old { catalog = edited edit old.catalog }
IsShownEdited Again edit old new = new ≡ old
IsShownEdited NoRoom edit old new = new ≡ old
IsShownEdited Held edit old new = new ≡ old
IsShownEdited Live edit old new = new ≡ old
IsShownEdited Full edit old new = new ≡ old
IsShownEdited (Fault Read) edit old new = new ≡ old
IsShownEdited (Fault Write) edit old new = new.stopped ≡ true
