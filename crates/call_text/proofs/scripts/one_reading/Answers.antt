use Rattle.call_text.specs.Line.{written_text, FitsWritten}
use Rattle.call_text.specs.Script.{next, ends, start, lines_of}
use Rattle.call_text.proofs.LineLemmas.{script_grammar}
use Rattle.call_text.proofs.ScriptLemmas.{phases_are_one}
use Rattle.call_text.proofs.TextLemmas.{stops_not_spelled, spelled_once}
use Rattle.call_text.proofs.OpenBatches.{script_fault_once}
use Rattle.call_text.proofs.scripts.one_reading.Goals as goal

pub returns-clause-value : goal.returns-clause-value
returns-clause-value c = λ bytes a b ia ib.
    phases_are_one a b ia.some ib.some ia.numbers ib.numbers (spelled_once written_text FitsWritten next ends start script_grammar bytes (lines_of a) (lines_of b) ia.spelled ib.spelled)

pub returns-clause-fault : goal.returns-clause-fault
returns-clause-fault c = λ bytes n a fault is. stops_not_spelled written_text FitsWritten next ends start script_grammar bytes fault.stop fault.state fault.rest (lines_of a) fault.stops is.spelled

pub returns-clause-line : goal.returns-clause-line
returns-clause-line c = script_fault_once
