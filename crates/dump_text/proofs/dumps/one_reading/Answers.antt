use Rattle.dump_text.specs.Line.{line_text, IsLine}
use Rattle.dump_text.specs.Dump.{next, ends, start, lines_of}
use Rattle.dump_text.proofs.LineLemmas.{dump_grammar}
use Rattle.dump_text.proofs.Told.{lines_are_one}
use Rattle.call_text.proofs.TextLemmas.{faults_not_spelled, spelled_once}
use Rattle.call_text.proofs.Faults.{faults_once}
use Rattle.dump_text.proofs.dumps.one_reading.Goals as goal

pub returns-clause-value : goal.returns-clause-value
returns-clause-value c = λ bytes a b ia ib. lines_are_one a b ia.placed ib.placed (spelled_once line_text IsLine next ends start dump_grammar bytes (lines_of a) (lines_of b) ia.spelled ib.spelled)

pub returns-clause-fault : goal.returns-clause-fault
returns-clause-fault c = λ bytes n a fault is. faults_not_spelled line_text IsLine next ends start dump_grammar bytes n (lines_of a) fault is.spelled

pub returns-clause-line : goal.returns-clause-line
returns-clause-line c = λ bytes n m a b. faults_once line_text IsLine next dump_grammar ends start bytes n m a b
