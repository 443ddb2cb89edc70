-- Why a line is the first faulty one.
use Rattle.std.specs.Prelude.{◌≡◌, ℕ, ◌-◌, List, length, Option, Some, None, Bool, not, nat_lt, nat_le, if◌then◌else◌, option_map}
use Rattle.call_text.specs.Line.{Written, written_text, IsWritten}
use Rattle.call_text.specs.Script.{is_bound, known_names}
use Rattle.check_text.specs.Faults.{StopsAt}
use Rattle.call_text.specs.Numbers.{number_at}
use Rattle.check_text.specs.Lines.{before_byte, after_lines, binding, binding_line}
use Rattle.check_text.specs.declared.reasons.Reason.{Reason}
use Rattle.check_text.specs.declared.reasons.Reason.TheVariants.{Malformed, NoEnd, TooLong, TooMany, Reserved, Rebinds, Batch}

-- line n of a text, from 1, and the text from it on
abbrev pub from_line : ℕ → List ℕ → List ℕ
from_line n bytes = after_lines (n - 1) bytes

abbrev pub line_at : ℕ → List ℕ → List ℕ
line_at n bytes = before_byte 10 (from_line n bytes)

-- why a name may not be bound after so many lines: it is known at the start of each script, or one of them binds it
abbrev pub name_reason : ℕ → List ℕ → Option (List ℕ) → Option Reason
name_reason count bytes None = None
name_reason count bytes (Some name) =
    if is_bound name known_names then Some Reserved
    else option_map Rebinds (binding_line 1 count name bytes)

abbrev pub or_batch : Option Reason → Reason
or_batch None = Batch
or_batch (Some reason) = reason

-- why a well-formed line may not stand after so many others: the first of these that is so
abbrev pub reason_of : ℕ → Bool → List ℕ → List ℕ → Reason
reason_of count is_ended line bytes =
    if not is_ended then NoEnd
    else if nat_lt 4096 (length line) then TooLong
    else if nat_le 65536 count then TooMany
    else or_batch (name_reason count bytes (binding line))

-- the line is well formed
abbrev pub IsWellFormed : List ℕ → Type 0
IsWellFormed line = (whole : Written) × IsWritten whole × (line ≡ written_text whole)

-- the reason, by the numbers of the lines as they were written
abbrev pub numbered : List ℕ → Reason → Reason
numbered numbers (Rebinds n) = Rebinds (number_at numbers n)
numbered numbers reason = reason

-- whether a line's end comes after line n
abbrev pub is_ended : List ℕ → ℕ → Bool
is_ended bytes n = nat_lt (length (line_at n bytes)) (length (from_line n bytes))

-- why line n of a text is the first faulty one: where it stops being well formed, or else the above
abbrev pub IsReason : List ℕ → ℕ → Reason → Type 0
IsReason bytes n (Malformed fault) = StopsAt written_text IsWritten (line_at n bytes) fault
IsReason bytes n reason =
    IsWellFormed (line_at n bytes)
    × (reason ≡ reason_of (n - 1) (is_ended bytes n) (line_at n bytes) bytes)
