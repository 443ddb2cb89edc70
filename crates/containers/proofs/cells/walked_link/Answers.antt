use Rattle.std.proofs.Common.{◌≡◌, ◌≢◌, ℕ, inl, inr, get_or, refl, sym, ap, ◌∙◌, subst, arith, lit<}
use Rattle.containers.specs.Lists.{cells_at, StandsAt}
use Rattle.containers.specs.Cells.{Stands}
use Rattle.std.proofs.lemmas.Bool.{cases_lt}
use Rattle.containers.proofs.Handed.{read_scans}
use Rattle.containers.proofs.Turns.{holder_linked, link_at}
use Rattle.containers.proofs.Cuts.{some_at, none_at}
use Rattle.containers.proofs.cells.walked_link.Goals as goal

pub head_of-requires : goal.head_of-requires
head_of-requires c =
    let at = some_at _ c.loop.counter c.in-Some.cell (sym c.in-Some.is ∙ c.loop.invariant.next) in
    (lit< tt, (lit< tt, holder_linked c.args.size c.args.rings.now c.requires.paired c.args.object c.loop.counter c.in-Some.cell c.requires.object at))

pub returns-then-head_of-container-clause-found : goal.returns-then-head_of-container-clause-found
returns-then-head_of-container-clause-found c =
    link_at c.args.size c.args.rings.now c.requires.paired c.args.container c.args.object c.loop.counter c.in-Some.cell
    c.head_of.result c.requires.container c.requires.object
    (some_at _ c.loop.counter c.in-Some.cell (sym c.in-Some.is ∙ c.loop.invariant.next))
    c.head_of.ensures.value c.if-head_of-container.true

pub next-next-requires : goal.next-next-requires
next-next-requires c =
    let at = some_at _ c.loop.counter c.in-Some.cell (sym c.in-Some.is ∙ c.loop.invariant.next) in
    (lit< tt, (lit< tt, (c.args.object, c.loop.counter, at)))

pub unreachable-requires : goal.unreachable-requires
unreachable-requires c =
    let past = none_at (cells_at c.args.rings.now 1 c.args.object) c.loop.counter (sym c.in-None.is ∙ c.loop.invariant.next) in
    omega (arith, past, c.len-len.ensures.value)

pub returns-clause-absent : goal.returns-clause-absent
returns-clause-absent c l =
    c.loop.invariant.before l.link.names.place l.cell (omega (arith, l.link.names.stands.within, c.len-len.ensures.value)) l.link.names.stands l.link.held

pub returns-then-head_of-container-clause-scans : goal.returns-then-head_of-container-clause-scans
returns-then-head_of-container-clause-scans c =
    read_scans _ _ c.head_of.ensures.counted ∙ c.loop.invariant.scans ∙ read_scans _ _ c.first-next.ensures.counted
    ∙ read_scans _ _ c.len-len.ensures.counted

pub returns-clause-scans : goal.returns-clause-scans
returns-clause-scans c =
    c.loop.invariant.scans ∙ read_scans _ _ c.first-next.ensures.counted ∙ read_scans _ _ c.len-len.ensures.counted

pub loop-preserved : goal.loop-preserved
loop-preserved c =
    let xs = cells_at c.args.rings.now 1 c.args.object in
    let at : StandsAt xs c.loop.counter c.in-Some.cell = some_at xs c.loop.counter c.in-Some.cell (sym c.in-Some.is ∙ c.loop.invariant.next) in
    let differs : c.head_of.result ≢ c.args.container = c.if-head_of-container.false in
    record {
      next = c.next-next.ensures.value c.args.object c.loop.counter at;
      before = λ k x lt stands named. elim (cases_lt k c.loop.counter) [
        | inl old ↦ c.loop.invariant.before k x old stands named
        | inr le ↦
            let here : k ≡ c.loop.counter = omega arith in
            let same : x ≡ c.in-Some.cell = sym stands.is ∙ ap (λ (i : ℕ). get_or xs i 0) here ∙ at.is in
            let named' : Stands c.args.rings.now 0 c.args.container c.in-Some.cell = subst (λ (i : ℕ). Stands c.args.rings.now 0 c.args.container i) same named in
            differs (c.head_of.ensures.value c.args.container named'.place named'.stands)
      ];
      scans = read_scans _ _ c.next-next.ensures.counted ∙ read_scans _ _ c.head_of.ensures.counted ∙ c.loop.invariant.scans;
    }

pub loop-init : goal.loop-init
loop-init c = record {
  next = c.first-next.ensures.value;
  before = λ k x lt stands named. omega arith;
  scans = refl;
}
