use Rattle.explained.proofs.Rowed.{parts_are_the_condition, findings_are_the_row, query_findings_are_the_row}
use Rattle.explained.proofs.laws.findings_are_the_row.Goals as goal

pub returns-clause-parts : goal.returns-clause-parts
returns-clause-parts c = parts_are_the_condition

pub returns-clause-calls : goal.returns-clause-calls
returns-clause-calls c = findings_are_the_row

pub returns-clause-queries : goal.returns-clause-queries
returns-clause-queries c = query_findings_are_the_row
