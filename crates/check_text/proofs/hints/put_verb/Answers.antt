use Rattle.std.proofs.Common.{◌≡◌, ◌∙◌, ◌++◌, [], ◌∷◌, codes, ap, append_assoc}
use Rattle.text_words.specs.Verb.{name_of}
use Rattle.check_text.proofs.hints.put_verb.Goals as goal

pub returns : goal.returns
returns c =
    let old = c.args.out.now.items in
    let name = name_of c.args.verb in
    let first : c.extend_from_slice.new.self.items ≡ old ++ codes "; did you mean " = c.in_ok-extend_from_slice.ensures.items in
    let second : c.extend_from_slice-2.new.self.items ≡ c.extend_from_slice.new.self.items ++ name =
    c.in_ok-extend_from_slice-2.ensures.items
    ∙ ap (λ w. c.extend_from_slice.new.self.items ++ w) (c.as_bytes.ensures.value ∙ c.name.ensures) in
    c.in_ok-push.ensures.items
    ∙ ap (λ t. t ++ 63 ∷ []) (second ∙ ap (λ t. t ++ name) first)
    ∙ append_assoc (old ++ codes "; did you mean ") name (63 ∷ [])
    ∙ append_assoc old (codes "; did you mean ") (name ++ 63 ∷ [])
