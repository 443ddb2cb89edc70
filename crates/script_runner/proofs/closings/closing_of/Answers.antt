use Rattle.std.proofs.Common.{◌≡◌, ◌∙◌, List, ap, sym, subst, rules}
use Rattle.kernel_rules.specs.History.{IsLegal, state_of}
use Rattle.kernel_rules.specs.Scratch.{scratch}
use Rattle.kernel_rules.specs.Events.{Event}
use Rattle.script_runner.proofs.closings.closing_of.Goals as goal

pub returns-clause-closing : goal.returns-clause-closing
returns-clause-closing g c =
    let limits = g.B.Naming.boot.limits in
    let journal = c.args.book.journal in
    let items : c.into_events-events.result.items ≡ journal = search rules in
    let legal : IsLegal limits journal = search rules in
    let tables : c.in_ok-tables.tables ≡ scratch (state_of limits journal) = search rules in
    (subst (λ (l : List Event). IsLegal limits l) (sym items) legal, tables ∙ ap (λ l. scratch (state_of limits l)) (sym items))
