use Rattle.std.proofs.Common.{◌∙◌, sym, subst}
use Rattle.script_runner.specs.Names.{AreFirst}
use Rattle.script_runner.proofs.NameLemmas.{bound_already, bound_last, comes_last}
use Rattle.script_runner.proofs.names.BoundNames.bind.Goals as goal

pub invariant_of-self-in_ok-insert : goal.invariant_of-self-in_ok-insert
invariant_of-self-in_ok-insert c =
    let absent = sym c.contains_key.ensures ∙ c.if-not-contains_key.true in
    let last = comes_last c.self.inside.values.entries _ _ c.args.named.now absent c.reserve.ensures.entries c.in_ok-insert.ensures.entries in
    subst (AreFirst c.note.new.self) (sym last) (c.in_ok-note.ensures.ok _ c.self.invariant)

pub returns-in_ok-insert-clause-ok : goal.returns-in_ok-insert-clause-ok
returns-in_ok-insert-clause-ok c =
    let absent = sym c.contains_key.ensures ∙ c.if-not-contains_key.true in
    let last = comes_last c.self.inside.values.entries _ _ c.args.named.now absent c.reserve.ensures.entries c.in_ok-insert.ensures.entries in
    bound_last c.self.inside.values.entries c.args.named.now c.args.self.now _ c.self.view_is absent last

pub returns-else-not-contains_key-clause-ok : goal.returns-else-not-contains_key-clause-ok
returns-else-not-contains_key-clause-ok c =
    bound_already c.self.inside.values.entries c.args.named.now c.args.self.now c.self.view_is
    (sym c.contains_key.ensures ∙ c.if-not-contains_key.false)
