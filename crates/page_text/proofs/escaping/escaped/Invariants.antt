use Rattle.std.proofs.Common.{◌≡◌, ◌++◌, drop}
use Rattle.page_text.specs.Page.{escaped}
use Rattle.page_text.proofs.escaping.escaped.Given as goal

abbrev pub invariant-loop-byte : goal.invariant-loop-byte
invariant-loop-byte l = l.told.items ++ escaped (drop l.byte-index l.text) ≡ escaped l.text
