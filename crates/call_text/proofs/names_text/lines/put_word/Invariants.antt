use Rattle.std.proofs.Common.{◌≡◌, drop}
use Rattle.call_text.specs.NameLines.{named_word}
use Rattle.call_text.proofs.names_text.lines.put_word.Given as goal

abbrev pub invariant-loop-named : goal.invariant-loop-named
invariant-loop-named l = record {
  word : named_word (drop l.named-index l.names) l.meant l.word ≡ named_word l.names l.meant l.word;
  out : l.out.items ≡ l.fn.out.items;
}
