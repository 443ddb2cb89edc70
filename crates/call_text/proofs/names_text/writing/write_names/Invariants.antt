use Rattle.std.proofs.Common.{◌≡◌, take}
use Rattle.std.specs.List.{AllByRecursion}
use Rattle.call_text.specs.RunNames.{named_text, IsNamed}
use Rattle.call_text.specs.Text.{lines_text}
use Rattle.call_text.proofs.names_text.writing.write_names.Given as goal

abbrev pub invariant-loop-named : goal.invariant-loop-named
invariant-loop-named l = record {
  text : l.out.items ≡ lines_text named_text (take l.named-index l.names);
  fit : AllByRecursion IsNamed (take l.named-index l.names);
}
