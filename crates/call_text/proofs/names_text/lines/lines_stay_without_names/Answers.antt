use Rattle.call_text.proofs.NameLineLaws.{stays}
use Rattle.call_text.specs.declared.names_text.lines.Meant.TheVariants.{Object}
use Rattle.std.proofs.Common.{[]}
use Rattle.call_text.proofs.names_text.lines.lines_stay_without_names.Goals as goal

pub returns : goal.returns
returns c = λ line. stays Object [] line
