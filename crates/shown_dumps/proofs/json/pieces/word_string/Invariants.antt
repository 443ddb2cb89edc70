use Rattle.std.proofs.Common.{◌≡◌, ◌++◌, drop, string_bytes, encode_utf8_all}
use Rattle.shown_dumps.proofs.json.pieces.word_string.Given as goal

abbrev pub invariant-loop-byte : goal.invariant-loop-byte
invariant-loop-byte l = string_bytes l.text ++ encode_utf8_all (drop l.byte-index l.word) ≡ encode_utf8_all l.word
