use Rattle.std.proofs.Common.{◌≡◌, ◌++◌, length, map}
use Rattle.shown_dumps.specs.Json.{word_data}
use Rattle.shown_dumps.specs.Pieces.{words_of}
use Rattle.serde_json.specs.View.{view}
use Rattle.shown_dumps.proofs.json.pieces.word_values.Given as goal

abbrev pub invariant-words : goal.invariant-words
invariant-words l = map view l.values.items ++ map word_data (words_of l.rest) ≡ map word_data (words_of l.fn.line)

abbrev pub decreases-words : goal.decreases-words
decreases-words l = length l.rest
