use Rattle.std.proofs.Common.{◌≡◌, ◌+◌, [], ◌∷◌, ◌++◌, refl, ap, ◌∙◌, arith, lit<, length, length-append}
use Rattle.containers.specs.Cells.{IsDying}
use Rattle.containers.proofs.Handed.{read_scans, none_stands, told_link, told_object, ids_push}
use Rattle.containers.proofs.Turns.{last_linked, cell_linked, turn_of, entry_of}
use Rattle.containers.proofs.Sweeps.{swept_link, swept_object, swept_at_end}
use Rattle.containers.proofs.Measures.{dropped_less, freed_less, dropped_spare, freed_spare, spare_left}
use Rattle.containers.proofs.cells.sweep.Goals as goal

pub head_of-object-requires : goal.head_of-object-requires
head_of-object-requires g c =
    let j = c.loop-last.invariant.2 in
    (lit< tt, (lit< tt, last_linked c.args.pool.size c.loop-last.rings j.sound.paired c.in-Some.last c.in-Some.ensures.value))

pub head_of-entry-requires : goal.head_of-entry-requires
head_of-entry-requires g c =
    let j = c.loop-last.invariant.2 in
    let t = turn_of c.args.pool.size c.loop-last.rings j.sound.paired c.in-Some.last c.head_of-object.result c.in-Some.ensures.value c.head_of-object.ensures.value in
    (lit< tt, (lit< tt, cell_linked c.args.pool.size c.loop-last.rings j.sound.paired c.head_of-object.result c.in-Some-first.cell t.within c.in-Some-first.ensures.value))

pub drop_link-requires-clause-object : goal.drop_link-requires-clause-object
drop_link-requires-clause-object g c =
    let j = c.loop-last.invariant.2 in
    let t = turn_of c.args.pool.size c.loop-last.rings j.sound.paired c.in-Some.last c.head_of-object.result c.in-Some.ensures.value c.head_of-object.ensures.value in
    (entry_of c.args.pool.size c.loop-last.rings j.sound.paired c.head_of-object.result c.in-Some-first.cell c.head_of-entry.result t.within c.in-Some-first.ensures.value c.head_of-entry.ensures.value).object

pub drop_link-requires-clause-holder : goal.drop_link-requires-clause-holder
drop_link-requires-clause-holder g c =
    let j = c.loop-last.invariant.2 in
    let t = turn_of c.args.pool.size c.loop-last.rings j.sound.paired c.in-Some.last c.head_of-object.result c.in-Some.ensures.value c.head_of-object.ensures.value in
    let l = entry_of c.args.pool.size c.loop-last.rings j.sound.paired c.head_of-object.result c.in-Some-first.cell c.head_of-entry.result t.within c.in-Some-first.ensures.value c.head_of-entry.ensures.value in
    (c.head_of-object.result, t.within, l.held)

pub drop_link-requires-clause-names : goal.drop_link-requires-clause-names
drop_link-requires-clause-names g c =
    let j = c.loop-last.invariant.2 in
    let t = turn_of c.args.pool.size c.loop-last.rings j.sound.paired c.in-Some.last c.head_of-object.result c.in-Some.ensures.value c.head_of-object.ensures.value in
    (entry_of c.args.pool.size c.loop-last.rings j.sound.paired c.head_of-object.result c.in-Some-first.cell c.head_of-entry.result t.within c.in-Some-first.ensures.value c.head_of-entry.ensures.value).names

pub hand_link-requires-clause-container : goal.hand_link-requires-clause-container
hand_link-requires-clause-container g c =
    let j = c.loop-last.invariant.2 in
    let t = turn_of c.args.pool.size c.loop-last.rings j.sound.paired c.in-Some.last c.head_of-object.result c.in-Some.ensures.value c.head_of-object.ensures.value in
    omega (arith, t.within, c.requires.1.1.0)

pub hand_link-requires-clause-object : goal.hand_link-requires-clause-object
hand_link-requires-clause-object g c =
    let j = c.loop-last.invariant.2 in
    let t = turn_of c.args.pool.size c.loop-last.rings j.sound.paired c.in-Some.last c.head_of-object.result c.in-Some.ensures.value c.head_of-object.ensures.value in
    let l = entry_of c.args.pool.size c.loop-last.rings j.sound.paired c.head_of-object.result c.in-Some-first.cell c.head_of-entry.result t.within c.in-Some-first.ensures.value c.head_of-entry.ensures.value in
    omega (arith, l.object, c.requires.1.1.0)

pub loop-last-smaller-in-Some-first : goal.loop-last-smaller-in-Some-first
loop-last-smaller-in-Some-first g c =
    let j = c.loop-last.invariant.2 in
    let t = turn_of c.args.pool.size c.loop-last.rings j.sound.paired c.in-Some.last c.head_of-object.result c.in-Some.ensures.value c.head_of-object.ensures.value in
    let l = entry_of c.args.pool.size c.loop-last.rings j.sound.paired c.head_of-object.result c.in-Some-first.cell c.head_of-entry.result t.within c.in-Some-first.ensures.value c.head_of-entry.ensures.value in
    dropped_less c.args.pool.size c.loop-last.rings _ c.head_of-object.result c.head_of-entry.result c.in-Some-first.cell j.sound.paired t.within l.held c.drop_link.ensures.dropped

pub loop-last-preserved-in-Some-first : goal.loop-last-preserved-in-Some-first
loop-last-preserved-in-Some-first g c =
    let inv = c.loop-last.invariant in
    let j = inv.2 in
    let t = turn_of c.args.pool.size c.loop-last.rings j.sound.paired c.in-Some.last c.head_of-object.result c.in-Some.ensures.value c.head_of-object.ensures.value in
    let l = entry_of c.args.pool.size c.loop-last.rings j.sound.paired c.head_of-object.result c.in-Some-first.cell c.head_of-entry.result t.within c.in-Some-first.ensures.value c.head_of-entry.ensures.value in
    let y : IsDying c.args.pool.size c.loop-last.rings c.head_of-object.result = record { cell = c.in-Some.last; dying = t.dying; names = t.names } in (
      inv.0 ++ (c.head_of-object.result, c.head_of-entry.result) ∷ [],
      inv.1,
      swept_link c.args.pool.size c.args.pool.root c.args.rings.now c.loop-last.rings _ inv.0 inv.1 j c.requires.1.1.1.1.1.0 c.head_of-object.result c.head_of-entry.result c.in-Some-first.cell y l c.drop_link.ensures.dropped,
      told_link g.V.Visitor.link_gives g.V.Visitor.object_gives c.args.pool.names.now inv.0 inv.1 _ _ _ c.head_of-object.result c.head_of-entry.result _ _ refl refl inv.3 c.hand_link.ensures,
      c.drop_link.ensures.scans ∙ read_scans _ _ c.head_of-entry.ensures.counted ∙ read_scans _ _ c.in-Some-first.ensures.counted
          ∙ read_scans _ _ c.head_of-object.ensures.counted ∙ read_scans _ _ c.in-Some.ensures.counted ∙ inv.4,
      inv.5,
      inv.6,
      omega (arith, inv.7, dropped_spare c.args.pool.size c.loop-last.rings c.drop_link.new.rings c.head_of-object.result c.head_of-entry.result c.in-Some-first.cell j.sound.paired t.within l.held c.drop_link.ensures.dropped),
    )

pub free-requires-clause-holder : goal.free-requires-clause-holder
free-requires-clause-holder g c =
    let j = c.loop-last.invariant.2 in
    let t = turn_of c.args.pool.size c.loop-last.rings j.sound.paired c.in-Some.last c.head_of-object.result c.in-Some.ensures.value c.head_of-object.ensures.value in
    (c.args.pool.size + 1, (λ (x : c.args.pool.size + 1 ≡ c.args.pool.size). omega arith), t.dying)

pub place-gone-requires : goal.place-gone-requires
place-gone-requires g c =
    let j = c.loop-last.invariant.2 in
    let t = turn_of c.args.pool.size c.loop-last.rings j.sound.paired c.in-Some.last c.head_of-object.result c.in-Some.ensures.value c.head_of-object.ensures.value in
    omega (arith, t.within, c.requires.1.1.0)

pub loop-last-smaller : goal.loop-last-smaller
loop-last-smaller g c =
    let j = c.loop-last.invariant.2 in
    let t = turn_of c.args.pool.size c.loop-last.rings j.sound.paired c.in-Some.last c.head_of-object.result c.in-Some.ensures.value c.head_of-object.ensures.value in
    freed_less c.args.pool.size c.loop-last.rings _ c.head_of-object.result c.in-Some.last j.sound.paired t.within t.dying c.free.ensures.freed

pub push_reserved-requires : goal.push_reserved-requires
push_reserved-requires g c =
    let inv = c.loop-last.invariant in
    let j = inv.2 in
    let t = turn_of c.args.pool.size c.loop-last.rings j.sound.paired c.in-Some.last c.head_of-object.result c.in-Some.ensures.value c.head_of-object.ensures.value in
    let few = spare_left c.args.pool.size c.loop-last.rings c.head_of-object.result c.in-Some.last j.sound.paired t.within t.dying in
    let held = c.loop-last.dead.ok in
    omega (arith, few, held.0, inv.6, inv.7, j.total, c.requires.1.1.1.1.1.1.0, c.requires.1.1.1.1.1.1.1.1)

pub loop-last-preserved : goal.loop-last-preserved
loop-last-preserved g c =
    let inv = c.loop-last.invariant in
    let j = inv.2 in
    let t = turn_of c.args.pool.size c.loop-last.rings j.sound.paired c.in-Some.last c.head_of-object.result c.in-Some.ensures.value c.head_of-object.ensures.value in
    let empty = none_stands c.loop-last.rings 0 c.head_of-object.result c.in-None.ensures.value in (
      inv.0,
      inv.1 ++ c.head_of-object.result ∷ [],
      swept_object c.args.pool.size c.args.pool.root c.args.rings.now c.loop-last.rings _ inv.0 inv.1 j c.head_of-object.result c.in-Some.last t.within t.dying t.names empty c.free.ensures.freed,
      told_object g.V.Visitor.link_gives g.V.Visitor.object_gives c.args.pool.names.now inv.0 inv.1 _ _ _ c.head_of-object.result _ c.place-gone.ensures inv.3 c.object.ensures.gives,
      c.object.ensures.scans ∙ c.free.ensures.scans ∙ read_scans _ _ c.in-None.ensures.counted
          ∙ read_scans _ _ c.head_of-object.ensures.counted ∙ read_scans _ _ c.in-Some.ensures.counted ∙ inv.4,
      ids_push c.args.pool.names.now inv.1 c.head_of-object.result c.place-gone.result c.loop-last.dead.items c.push_reserved.new.self.items c.place-gone.ensures inv.5 c.push_reserved.ensures.items,
      c.push_reserved.ensures.capacity ∙ inv.6,
      omega (arith, inv.7, ap length c.push_reserved.ensures.items, length-append c.loop-last.dead.items (c.place-gone.result.id ∷ []), freed_spare c.args.pool.size c.loop-last.rings c.free.new.rings c.in-Some.last c.free.ensures.freed),
    )

pub returns-clause-swept : goal.returns-clause-swept
returns-clause-swept g c =
    let inv = c.loop-last.invariant in (
      inv.0,
      inv.1,
      swept_at_end c.args.pool.size c.args.pool.root c.args.rings.now c.loop-last.rings inv.0 inv.1 inv.2 c.requires.1.1.1.0.sound (none_stands c.loop-last.rings 0 (c.args.pool.size + 1) c.in_default.ensures.value) g.rank c.requires.1.1.1.1.0,
      inv.3,
      inv.5,
    )

pub returns-clause-scans : goal.returns-clause-scans
returns-clause-scans g c = read_scans _ _ c.in_default.ensures.counted ∙ c.loop-last.invariant.4
