use Rattle.std.proofs.Common.{ℕ, Option, subst, IfSome}
use Rattle.containers.specs.Objects.{Objects, IsEntry}
use Rattle.containers.specs.Hints.{AreHints}
use Rattle.containers.proofs.HintSteps.{hinted_is}
use Rattle.containers.proofs.object_arena.arena.Arena.hint.Goals as goal

pub returns-in-Some-clause-found : goal.returns-in-Some-clause-found
returns-in-Some-clause-found g c =
    let are = subst (λ (a : Objects g.row.T.Denot). AreHints a.ids a.slots c.self.inside.hints.items) c.self.view_is c.self.invariant.4 in
    subst (λ (id : ℕ). (place : ℕ) × IsEntry c.args.self.now place id c.in-Some.slot) c.number.ensures
    (subst (λ (o : Option ℕ). IfSome o (λ slot. (place : ℕ) × IsEntry c.args.self.now place c.number.result slot)) c.in-Some.is
    (hinted_is c.args.self.now c.self.inside.hints.items c.deref.result.now c.number.result c.hinted.result c.deref.ensures.value are
    c.hinted.ensures.some c.hinted.ensures.hint))
