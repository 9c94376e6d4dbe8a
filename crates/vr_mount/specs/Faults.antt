-- Which answer a fault of a device gives. The rules are this project's own.
use Rattle.vr_types.specs.declared.fault.DeviceFault.{DeviceFault}
use Rattle.vr_types.specs.declared.fault.DeviceFault.TheVariants as faults
use Rattle.vr_mount.specs.declared.no.HeaderNo.{HeaderNo}
use Rattle.vr_mount.specs.declared.no.HeaderNo.TheVariants.{Read, Write}

-- that of a header
abbrev pub header_no : DeviceFault → HeaderNo
header_no faults.Read = Read
header_no faults.Write = Write
