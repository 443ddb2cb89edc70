use Rattle.std.proofs.Common.{[]}
use Rattle.call_text.proofs.Faults.{faults_once}
use Rattle.call_text.proofs.TextLemmas.{faults_not_spelled, spelled_once}
use Rattle.call_text.specs.RunNames.{named_text, IsNamed, next, ends}
use Rattle.call_text.proofs.NameLines.{named_grammar}
use Rattle.call_text.proofs.names_text.reading.one_reading.Goals as goal

pub returns-clause-value : goal.returns-clause-value
returns-clause-value c = λ bytes a b ia ib. spelled_once named_text IsNamed next ends [] named_grammar bytes a b ia ib

pub returns-clause-fault : goal.returns-clause-fault
returns-clause-fault c = λ bytes n a fault is. faults_not_spelled named_text IsNamed next ends [] named_grammar bytes n a fault is

pub returns-clause-line : goal.returns-clause-line
returns-clause-line c = λ bytes n m a b. faults_once named_text IsNamed next named_grammar ends [] bytes n m a b
