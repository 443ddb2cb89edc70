use Rattle.std.proofs.Common.{Ok, ap, sym}
use Rattle.script_runner.proofs.answers.short.Goals as goal

pub returns-in-Done : goal.returns-in-Done
returns-in-Done c bytes whole = (tt, ap Ok (sym c.in-Done.is), sym c.in-Done.is)

pub returns-in-Category : goal.returns-in-Category
returns-in-Category c bytes whole = (tt, ap Ok (sym c.in-Category.is), sym c.in-Category.is)

pub returns-in-Object : goal.returns-in-Object
returns-in-Object c bytes whole = (tt, ap Ok (sym c.in-Object.is), sym c.in-Object.is)

pub returns-in-Entered : goal.returns-in-Entered
returns-in-Entered c bytes whole = (tt, ap Ok (sym c.in-Entered.is), sym c.in-Entered.is)

pub returns-in-Quota : goal.returns-in-Quota
returns-in-Quota c bytes whole = (tt, ap Ok (sym c.in-Quota.is), sym c.in-Quota.is)

pub returns-in-Pages : goal.returns-in-Pages
returns-in-Pages c bytes whole = (tt, ap Ok (sym c.in-Pages.is), sym c.in-Pages.is)

pub returns-in-Refused : goal.returns-in-Refused
returns-in-Refused c bytes whole = (tt, ap Ok (sym c.in-Refused.is), sym c.in-Refused.is)
