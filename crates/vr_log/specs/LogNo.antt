-- What the log answers to a fault of the device.
use Rattle.vr_types.specs.declared.fault.DeviceFault.{DeviceFault}
use Rattle.vr_types.specs.declared.fault.DeviceFault.TheVariants.{Read as ReadFault}
use Rattle.vr_types.specs.declared.fault.DeviceFault.TheVariants.{Write as WriteFault}
use Rattle.vr_log.specs.declared.no.LogNo.{LogNo}
use Rattle.vr_log.specs.declared.no.LogNo.TheVariants.{Write, Read}

abbrev pub no_of : DeviceFault → LogNo
no_of ReadFault = Read
no_of WriteFault = Write
