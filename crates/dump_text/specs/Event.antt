-- The spelling of events of one call, and of calls with their replies.
use Rattle.std.specs.Prelude.{ℕ, ◌<◌, ◌^◌, List, ◌∷◌, ◌++◌, codes, decimal}
use Rattle.kernel_rules.specs.declared.histories.events.Answered.{Answered}
use Rattle.dump_text.specs.Call.{call_text, IsCall}
use Rattle.dump_text.specs.Report.{report_text, IsReport}
use Rattle.dump_text.specs.declared.events.Single.{Single}

-- CALL => REPLY
abbrev pub answered_text : Answered → List ℕ
answered_text a = call_text a.call ++ codes " => " ++ report_text a.reply

-- each part is in its range
pub record IsAnswered (a : Answered) : Type 0 where
  pub call : IsCall a.call
  pub reply : IsReport a.reply

-- THREAD NUMBER CALL => REPLY
abbrev pub single_text : Single → List ℕ
single_text e = decimal e.thread ++ 32 ∷ (decimal e.number ++ 32 ∷ answered_text e.answered)

-- each part is in its range
pub record IsSingle (e : Single) : Type 0 where
  pub thread : e.thread < 2 ^ 64
  pub number : e.number < 2 ^ 64
  pub answered : IsAnswered e.answered
