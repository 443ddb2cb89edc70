use Rattle.std.proofs.Common.{[], ◌++◌, map, ap, sym, ◌∙◌}
use Rattle.std.proofs.lemmas.List.{append-nil}
use Rattle.serde_json.specs.View.{view}
use Rattle.shown_dumps.specs.Json.{word_data}
use Rattle.shown_dumps.specs.Pieces.{words_of}
use Rattle.shown_dumps.proofs.PieceLaws.{next_word, last_word}
use Rattle.shown_dumps.proofs.ValueLaws.{one_more}
use Rattle.shown_dumps.proofs.json.pieces.word_values.Goals as goal

pub words-preserved : goal.words-preserved
words-preserved c =
    one_more c.words.values.items c.push.new.list.items c.in_ok-word_value.field-0 (word_data c.in-Some.word.now)
    (map word_data (words_of c.in-Some.more.now)) (map word_data (words_of c.args.line.now)) c.in_ok-push.ensures.ok
    c.in_ok-word_value.ensures
    (ap (λ l. map view c.words.values.items ++ map word_data l)
    (sym (next_word c.words.rest.now c.in-Some.word.now c.in-Some.more.now c.in-Some.ensures.parts c.in-Some.ensures.first))
    ∙ c.words.invariant)

pub returns : goal.returns
returns c =
    sym (append-nil (map view c.push-2.new.list.items))
    ∙ one_more c.words.values.items c.push-2.new.list.items c.in_ok-word_value-2.field-0 (word_data c.words.rest.now) []
    (map word_data (words_of c.args.line.now)) c.in_ok-push-2.ensures.ok c.in_ok-word_value-2.ensures
    (ap (λ l. map view c.words.values.items ++ map word_data l) (sym (last_word c.words.rest.now c.in_default.ensures.none))
    ∙ c.words.invariant)
