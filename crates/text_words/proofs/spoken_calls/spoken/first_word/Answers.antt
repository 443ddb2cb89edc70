use Rattle.std.proofs.Math.Seq.{take-length}
use Rattle.text_words.proofs.PartLemmas.{end_at, no_end}
use Rattle.text_words.proofs.spoken_calls.spoken.first_word.Goals as goal

pub returns-in-Some-clause-word : goal.returns-in-Some-clause-word
returns-in-Some-clause-word c = rw c.split_at.ensures.front (end_at 32 c.args.text.now c.in-Some.end c.in-Some.ensures.0 c.in-Some.ensures.1).lacks_it

pub returns-in-None-clause-word : goal.returns-in-None-clause-word
returns-in-None-clause-word c = rw (c.split_at-in-None.ensures.front, take-length c.args.text.now) (no_end 32 c.args.text.now c.in-None.ensures)
