-- What records ask of the log of the calls that were made and of checkpoints, and what an answer tells of their texts.
use Rattle.std.specs.Prelude.{ℕ, ◌==◌, not, List, [], ◌∷◌, Option, Some, None, length, if◌then◌else◌}
use Rattle.call_records.specs.declared.logs.LogRequest.{LogRequest}
use Rattle.call_records.specs.declared.logs.LogRequest.TheVariants as logs
use Rattle.call_records.specs.declared.records.Answer.{Answer}
use Rattle.call_records.specs.declared.records.Request.{Request}
use Rattle.call_records.specs.Told.{Has}
use Rattle.call_records.specs.Words.{wide_at}

-- what a record asks of the log
abbrev pub log_request_of : Request → Option LogRequest
log_request_of r =
    if r.call == 40 then Some (logs.Begin (wide_at r 0) (not (wide_at r 1 == 0)))
    else if r.call == 41 then Some (logs.Dump (wide_at r 0))
    else if r.call == 42 then Some (logs.Text (wide_at r 0))
    else if r.call == 48 then Some (logs.Checkpoint (wide_at r 0))
    else if r.call == 49 then Some (logs.Cut (wide_at r 0) (not (wide_at r 1 == 0)))
    else None

-- the answer tells how many bytes a text has
abbrev pub TellsLength : List ℕ → Answer → Type 0
TellsLength text a = Has 14 (length text ∷ []) a
