-- What a failed call on a real file is to the disk.
use Rattle.std.specs.declared.io.ErrorKind.{ErrorKind}
use Rattle.std.specs.declared.io.ErrorKind.TheVariants.{OutOfMemory}
use Rattle.disk_trait.specs.declared.disk.DiskError.{DiskError}
use Rattle.disk_trait.specs.declared.disk.DiskError.TheVariants.{NoMemory, Failed}

-- want of memory is no failure of the disk
abbrev pub cause_of : ErrorKind → DiskError
cause_of OutOfMemory = NoMemory
cause_of _ = Failed
