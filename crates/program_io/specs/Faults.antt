-- The status and the words of each fault, and the fault of an error met in reading.
use Rattle.std.specs.Prelude.{ℕ, List, codes, if◌then◌else◌}
use Rattle.std.specs.Str.{bytes_eq}
use Rattle.std.specs.declared.io.ErrorKind.{ErrorKind}
use Rattle.std.specs.declared.io.ErrorKind.TheVariants as kind
use Rattle.program_io.specs.declared.faults.Fault.{Fault}
use Rattle.program_io.specs.declared.faults.Fault.TheVariants.{Input, Output, Memory}

abbrev pub status_of : Fault → ℕ
status_of Input = 3
status_of Output = 3
status_of Memory = 4

abbrev pub text_of : Fault → List ℕ
text_of Input = codes "input fault"
text_of Output = codes "output fault"
text_of Memory = codes "out of memory"

abbrev pub input_fault_of : ErrorKind → Fault
input_fault_of kind.OutOfMemory = Memory
input_fault_of _ = Input

-- why a file can't be opened, in words
abbrev pub reason_of : ErrorKind → List ℕ
reason_of kind.NotFound = codes "no such file"
reason_of kind.PermissionDenied = codes "no right to read it"
reason_of _ = codes "it can't be opened"

-- the path that is read for an input's path
abbrev pub source_of : List ℕ → List ℕ
source_of path = if bytes_eq path (codes "-") then codes "/dev/stdin" else path
