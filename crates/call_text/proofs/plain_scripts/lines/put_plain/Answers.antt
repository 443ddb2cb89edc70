use Rattle.std.proofs.Common.{◌≡◌, ◌++◌, ◌∷◌, [], List, ℕ, ap, sym, ◌∙◌}
use Rattle.std.proofs.lemmas.List.{append_assoc}
use Rattle.text_words.specs.DataWord.{data_text}
use Rattle.call_text.specs.Lines.{plain_line}
use Rattle.call_text.proofs.LineLaws.{both_quotes, one_quote, unquoted}
use Rattle.call_text.proofs.plain_scripts.lines.put_plain.Goals as goal

pub returns-in_default-parted : goal.returns-in_default-parted
returns-in_default-parted c =
    let out = c.loop-before.out.items in
    let before = c.in-Some.before.now in
    let quoted = c.in-Some.quoted.now in
    let step = one_quote c.loop-before.rest.now before quoted c.in-Some.ensures.parts c.in-Some.ensures.first
    c.in_default-parted.ensures.none in
    c.in_ok-extend_from_slice-2.ensures.items
    ∙ ap (λ (o : List ℕ). o ++ quoted)
    (c.in_ok-push.ensures.items ∙ ap (λ (o : List ℕ). o ++ 34 ∷ []) c.in_ok-extend_from_slice.ensures.items)
    ∙ append_assoc (out ++ before) (34 ∷ []) quoted
    ∙ append_assoc out before (34 ∷ quoted)
    ∙ ap (λ (l : List ℕ). out ++ l) (sym step)
    ∙ c.loop-before.invariant

pub loop-before-preserved : goal.loop-before-preserved
loop-before-preserved c =
    let out = c.loop-before.out.items in
    let before = c.in-Some.before.now in
    let text = c.in-Some-parted.text.now in
    let after = c.in-Some-parted.after.now in
    let step = both_quotes c.loop-before.rest.now before c.in-Some.quoted.now text after c.in-Some.ensures.parts
    c.in-Some.ensures.first c.in-Some-parted.ensures.parts c.in-Some-parted.ensures.first in
    ap (λ (o : List ℕ). o ++ plain_line after)
    (c.in_ok-put_text.ensures ∙ ap (λ (o : List ℕ). o ++ data_text text) c.in_ok-extend_from_slice.ensures.items)
    ∙ append_assoc (out ++ before) (data_text text) (plain_line after)
    ∙ append_assoc out before (data_text text ++ plain_line after)
    ∙ ap (λ (l : List ℕ). out ++ l) (sym step)
    ∙ c.loop-before.invariant

pub returns : goal.returns
returns c =
    let out = c.loop-before.out.items in
    c.in_ok-extend_from_slice-3.ensures.items
    ∙ ap (λ (l : List ℕ). out ++ l) (sym (unquoted c.loop-before.rest.now c.in_default.ensures.none))
    ∙ c.loop-before.invariant
