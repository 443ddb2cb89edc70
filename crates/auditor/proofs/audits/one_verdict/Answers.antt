use Rattle.auditor.proofs.VerdictLaws.{verdicts_same}
use Rattle.auditor.proofs.audits.one_verdict.Goals as goal

pub returns : goal.returns
returns c = λ bytes a b is_a is_b. verdicts_same bytes (record {
  value = λ x y. c.one_reading.ensures.value bytes x y;
  fault = λ n x. c.one_reading.ensures.fault bytes n x;
  line = λ n m. c.one_reading.ensures.line bytes n m;
}) a b is_a is_b
