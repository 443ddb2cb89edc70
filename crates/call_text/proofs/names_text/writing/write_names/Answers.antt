use Rattle.std.proofs.Common.{List, subst, ap, ◌∙◌}
use Rattle.std.proofs.lemmas.List.{take_all}
use Rattle.std.specs.List.{AllByRecursion}
use Rattle.call_text.specs.RunNames.{named_text, IsNamed}
use Rattle.call_text.specs.Text.{lines_text}
use Rattle.call_text.specs.declared.known_names.Named.{Named}
use Rattle.call_text.proofs.NameWriting.{text_is_theirs}
use Rattle.call_text.proofs.names_text.writing.write_names.Goals as goal

pub returns : goal.returns
returns c =
    let all = take_all c.loop-named.named-index c.args.names.now c.loop-named-test.false in
    text_is_theirs c.loop-named.out.items c.args.names.now
    (subst (λ (names : List Named). AllByRecursion IsNamed names) all c.loop-named.invariant.fit) c.requires
    (c.loop-named.invariant.text ∙ ap (lines_text named_text) all)
