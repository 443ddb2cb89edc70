use Rattle.std.proofs.Common.{◌∙◌, ap, sym}
use Rattle.kernel_rules.specs.State.{State}
use Rattle.kernel_store.specs.Sights.{avoids_seen}
use Rattle.kernel_store.proofs.SightLaws.{avoids_object}
use Rattle.kernel_store.proofs.sights.avoids_object.Goals as goal

pub returns-in-Some : goal.returns-in-Some
returns-in-Some g c =
    let s : State = g.S.Store.state c.args.state.now in
    let d = g.S.Store.id_of c.args.container in
    c.avoids.ensures ∙ ap (avoids_seen s d) (sym c.in-Some.is ∙ c.requires.seen)
    ∙ avoids_object s d (g.S.Store.id_of c.args.object)

pub returns-in-None : goal.returns-in-None
returns-in-None g c =
    let s : State = g.S.Store.state c.args.state.now in
    let d = g.S.Store.id_of c.args.container in
    ap (avoids_seen s d) (sym c.in-None.is ∙ c.requires.seen)
    ∙ avoids_object s d (g.S.Store.id_of c.args.object)
