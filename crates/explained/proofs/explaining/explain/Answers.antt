use Rattle.std.proofs.Common.{◌∙◌, ap, map, subst, sym, List, IsTrue, ◌↔◌, ◌≡◌, None}
use Rattle.plain_state.specs.StateOf.{state_of}
use Rattle.kernel_rules.specs.Table.{refused}
use Rattle.explained.specs.Laws.{least, none_holds}
use Rattle.explained.specs.Parts.{condition}
use Rattle.explained.specs.declared.parts.Finding.{Finding}
use Rattle.explained.proofs.Rowed.{findings_are_the_row, least_is_the_refusal, none_holds_where_accepted}
use Rattle.explained.proofs.Rowed.{made, reply_told}
use Rattle.explained.proofs.explaining.explain.Goals as goal

pub returns-clause-findings : goal.returns-clause-findings
returns-clause-findings c =
    made (state_of c.args.state.now) c.args.thread c.args.call.now _ _ _ _ c.new-row.ensures
    c.in_ok-put.ensures c.in_ok-put_call.ensures c.in_ok-found.ensures

pub returns-clause-row : goal.returns-clause-row
returns-clause-row c =
    ap (map condition)
    (made (state_of c.args.state.now) c.args.thread c.args.call.now _ _ _ _ c.new-row.ensures
    c.in_ok-put.ensures c.in_ok-put_call.ensures c.in_ok-found.ensures)
    ∙ findings_are_the_row (state_of c.args.state.now) c.args.thread c.args.call.now

pub returns-clause-refusal : goal.returns-clause-refusal
returns-clause-refusal c =
    ap least
    (made (state_of c.args.state.now) c.args.thread c.args.call.now _ _ _ _ c.new-row.ensures
    c.in_ok-put.ensures c.in_ok-put_call.ensures c.in_ok-found.ensures)
    ∙ least_is_the_refusal (state_of c.args.state.now) c.args.thread c.args.call.now

pub returns-clause-accepted : goal.returns-clause-accepted
returns-clause-accepted c =
    let P : List Finding → Type 0 =
    λ fs. (refused (state_of c.args.state.now) c.args.thread c.args.call.now ≡ None) ↔ IsTrue (none_holds fs) in
    subst P
    (sym (made (state_of c.args.state.now) c.args.thread c.args.call.now _ _ _ _ c.new-row.ensures
    c.in_ok-put.ensures c.in_ok-put_call.ensures c.in_ok-found.ensures))
    (none_holds_where_accepted (state_of c.args.state.now) c.args.thread c.args.call.now)

pub returns-clause-reply : goal.returns-clause-reply
returns-clause-reply c =
    reply_told (state_of c.args.state.now) c.args.thread c.args.call.now _
    (made (state_of c.args.state.now) c.args.thread c.args.call.now _ _ _ _ c.new-row.ensures
    c.in_ok-put.ensures c.in_ok-put_call.ensures c.in_ok-found.ensures)
