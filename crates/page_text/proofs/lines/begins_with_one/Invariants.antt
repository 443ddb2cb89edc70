use Rattle.std.proofs.Common.{◌≡◌, drop}
use Rattle.std.specs.List.{list_any}
use Rattle.std.specs.Str.{bytes_eq}
use Rattle.call_text.specs.ReplyWord.{value_text}
use Rattle.call_text.specs.declared.known_names.Value.TheVariants.{Object as OfObject}
use Rattle.page_text.specs.Marked.{first_word}
use Rattle.page_text.proofs.lines.begins_with_one.Given as goal

abbrev pub invariant-loop-id : goal.invariant-loop-id
invariant-loop-id l =
    list_any (λ id. bytes_eq (value_text l.names (OfObject id)) (first_word l.line)) (drop l.id-index l.ids)
    ≡ list_any (λ id. bytes_eq (value_text l.names (OfObject id)) (first_word l.line)) l.ids
