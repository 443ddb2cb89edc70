use Rattle.std.proofs.Common.{◌≡◌, Option, Some, None, Bor, subst, ap, ◌∙◌, IfSome, IfNone, arith}
use Rattle.kernel_rules.specs.State.{object_at}
use Rattle.kernel_store.specs.Sights.{is_of}
use Rattle.arena_state.specs.declared.records.Record.{Record}
use Rattle.arena_state.specs.States.{state_of, Shows}
use Rattle.arena_state.proofs.SightLaws.{found_some, found_none, kind_some, kind_none, live_seen}
use Rattle.arena_state.proofs.states.ArenaState.is_live.Goals as goal

pub returns-in-Some : goal.returns-in-Some
unfolding is_of
returns-in-Some c =
    let a = c.args.self.now in
    let shows : Shows a c.args.at.id c.in-Some.row.now
    = subst (λ (o : Option (Bor Record)). IfSome o (λ x. Shows a c.args.at.id x.now)) c.in-Some.is
    (found_some a c.args.at.id c.record-found.result c.record-found.ensures) in
    let same : c.eq.result ≡ is_of c.args.kind (Some c.kind.result) = grind arith in
    same ∙ ap (is_of c.args.kind) (kind_some a c.args.at.id c.in-Some.row.now shows c.kind.result c.kind.ensures)
    ∙ live_seen a c.args.at.id c.args.kind

pub returns-in-None : goal.returns-in-None
unfolding is_of
returns-in-None c =
    let a = c.args.self.now in
    let none : object_at (state_of a) c.args.at.id ≡ None
    = subst (λ (o : Option (Bor Record)). IfNone o (object_at (state_of a) c.args.at.id ≡ None)) c.in-None.is
    (found_none a c.args.at.id c.record-found.result c.record-found.ensures) in
    ap (is_of c.args.kind) (kind_none a c.args.at.id none) ∙ live_seen a c.args.at.id c.args.kind
