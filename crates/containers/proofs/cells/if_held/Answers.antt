use Rattle.std.proofs.Common.{ℕ, Option, subst, lit<}
use Rattle.std.specs.Prelude.{IfSome}
use Rattle.containers.specs.Cells.{Stands}
use Rattle.containers.proofs.Turns.{holder_linked, link_at}
use Rattle.containers.proofs.cells.if_held.Goals as goal

pub head_of-holder-requires : goal.head_of-holder-requires
head_of-holder-requires c =
    let names : Stands c.args.rings.now 1 c.args.object c.in-Some.cell = subst (λ (o : Option ℕ). IfSome o (Stands c.args.rings.now 1 c.args.object)) c.in-Some.is c.requires.names in
    (lit< tt, (lit< tt, holder_linked c.args.size c.args.rings.now c.requires.paired c.args.object names.place c.in-Some.cell c.requires.object names.stands))

pub returns-then-holder-container-clause-found : goal.returns-then-holder-container-clause-found
returns-then-holder-container-clause-found c =
    let names : Stands c.args.rings.now 1 c.args.object c.in-Some.cell = subst (λ (o : Option ℕ). IfSome o (Stands c.args.rings.now 1 c.args.object)) c.in-Some.is c.requires.names in
    link_at c.args.size c.args.rings.now c.requires.paired c.args.container c.args.object names.place c.in-Some.cell
    c.head_of-holder.result c.requires.container c.requires.object names.stands c.head_of-holder.ensures.value
    c.if-holder-container.true
