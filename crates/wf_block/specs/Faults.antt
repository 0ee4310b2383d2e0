-- The numbers of errors, and where they are.
use Rattle.std.specs.Prelude.{ℕ, List, codes, Option, Some, None}
use Rattle.wf_block.specs.declared.fault.MapFault.{MapFault}
use Rattle.wf_block.specs.declared.fault.MapFault.TheVariants as faults

-- the number of an error
unfoldable pub code : MapFault → List ℕ
code faults.Memory = codes "M1"
code faults.TooLong = codes "M2"
code (faults.NotUtf8 offset) = codes "M3"
code (faults.BadToken offset) = codes "M4"
code (faults.UnexpectedWord offset) = codes "M5"
code (faults.MissingEnd offset) = codes "M6"
code (faults.BadNumber offset) = codes "M7"
code (faults.OutOfRange offset) = codes "M8"
code faults.Missing = codes "M9"
code (faults.Repeated offset) = codes "M10"
code faults.TooMany = codes "M11"
code (faults.Trailing offset) = codes "M12"

-- the byte offset of an error, if it has one
unfoldable pub byte_offset : MapFault → Option ℕ
byte_offset faults.Memory = None
byte_offset faults.TooLong = None
byte_offset (faults.NotUtf8 offset) = Some offset
byte_offset (faults.BadToken offset) = Some offset
byte_offset (faults.UnexpectedWord offset) = Some offset
byte_offset (faults.MissingEnd offset) = Some offset
byte_offset (faults.BadNumber offset) = Some offset
byte_offset (faults.OutOfRange offset) = Some offset
byte_offset faults.Missing = None
byte_offset (faults.Repeated offset) = Some offset
byte_offset faults.TooMany = None
byte_offset (faults.Trailing offset) = Some offset
