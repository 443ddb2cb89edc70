use Rattle.std.proofs.Common.{◌≡◌, ℕ, ◌+◌, inl, inr, get_or, set, sym, ap, ◌∙◌, subst, arith, lit<, get_or-set_other, get_or-set_same}
use Rattle.std.proofs.lemmas.Bool.{cases_eq}
use Rattle.std.specs.Prelude.{slice_get}
use Rattle.containers.specs.View.{ids_of}
use Rattle.containers.specs.Lists.{cells_at, StandsAt}
use Rattle.containers.specs.Cells.{Stands}
use Rattle.containers.proofs.Turns.{linked_one}
use Rattle.containers.proofs.Cuts.{some_at, none_at}
use Rattle.containers.proofs.Handed.{read_scans}
use Rattle.containers.proofs.Asked.{id_named}
use Rattle.containers.proofs.windows.fill_window.Goals as goal

pub head_of-object-requires : goal.head_of-object-requires
head_of-object-requires c =
    let at = some_at _ (c.args.from + c.loop-place.place) c.in-Some.cell (sym c.in-Some.is ∙ c.loop-place.invariant.next) in
    let s : Stands c.args.rings.now 0 c.args.slot c.in-Some.cell = record { place = c.args.from + c.loop-place.place; stands = at } in
    (lit< tt, (lit< tt, linked_one c.args.pool.size c.args.rings.now c.requires.paired c.args.slot c.in-Some.cell (λ (e : c.args.slot ≡ c.args.pool.size). omega (arith, c.requires.slot)) s))

pub bounds-names-object : goal.bounds-names-object
bounds-names-object c =
    let at = some_at _ (c.args.from + c.loop-place.place) c.in-Some.cell (sym c.in-Some.is ∙ c.loop-place.invariant.next) in
    let s : Stands c.args.rings.now 0 c.args.slot c.in-Some.cell = record { place = c.args.from + c.loop-place.place; stands = at } in
    let of = c.requires.paired.object_of c.args.slot c.in-Some.cell (λ (e : c.args.slot ≡ c.args.pool.size). omega (arith, c.requires.slot)) s in
    let is : c.head_of-object.result ≡ of.0 = c.head_of-object.ensures.value of.0 of.2.place of.2.stands in
    omega (arith, is, of.1, c.requires.names)

pub next-next-requires : goal.next-next-requires
next-next-requires c =
    let at = some_at _ (c.args.from + c.loop-place.place) c.in-Some.cell (sym c.in-Some.is ∙ c.loop-place.invariant.next) in
    (lit< tt, (lit< tt, (c.args.slot, c.args.from + c.loop-place.place, at)))

pub unreachable-requires : goal.unreachable-requires
unreachable-requires c =
    let past = none_at (cells_at c.args.rings.now 0 c.args.slot) (c.args.from + c.loop-place.place) (sym c.in-None.is ∙ c.loop-place.invariant.next) in
    omega (arith, past, c.len-len.ensures.value)

pub loop-place-preserved : goal.loop-place-preserved
loop-place-preserved c =
    let xs = cells_at c.args.rings.now 0 c.args.slot in
    let at : StandsAt xs (c.args.from + c.loop-place.place) c.in-Some.cell = some_at xs (c.args.from + c.loop-place.place) c.in-Some.cell (sym c.in-Some.is ∙ c.loop-place.invariant.next) in
    let s : Stands c.args.rings.now 0 c.args.slot c.in-Some.cell = record { place = c.args.from + c.loop-place.place; stands = at } in
    let of = c.requires.paired.object_of c.args.slot c.in-Some.cell (λ (e : c.args.slot ≡ c.args.pool.size). omega (arith, c.requires.slot)) s in
    let is : c.head_of-object.result ≡ of.0 = c.head_of-object.ensures.value of.0 of.2.place of.2.stands in
    let named : c.new.result ≡ get_or c.args.pool.names.now c.head_of-object.result 0 = c.new.ensures in
    let next_at : c.args.from + c.loop-place.place + 1 ≡ c.args.from + (c.loop-place.place + 1) = omega arith in
    let value = named ∙ sym (id_named c.args.rings.now c.args.pool.names.now (c.requires.paired.well 1 (lit< tt)) c.args.slot (c.args.from + c.loop-place.place) c.in-Some.cell c.head_of-object.result at (subst (λ (i : ℕ). Stands c.args.rings.now 1 i c.in-Some.cell) (sym is) of.2)) in
    record {
      next = c.next-next.ensures.value c.args.slot (c.args.from + c.loop-place.place) at ∙ ap (λ (i : ℕ). slice_get (cells_at c.args.rings.now 0 c.args.slot) i) next_at;
      listed = λ k lt. elim (cases_eq k c.loop-place.place) [
        | inl e ↦
            ap (λ (i : ℕ). get_or (set c.loop-place.window c.loop-place.place c.new.result) i 0) e
            ∙ get_or-set_same c.loop-place.window c.loop-place.place c.new.result 0 (omega (arith, c.loop-place.auto.window))
            ∙ value ∙ ap (λ (i : ℕ). get_or (ids_of c.args.rings.now c.args.pool.names.now c.args.slot) (c.args.from + i) 0) (sym e)
        | inr ne ↦ get_or-set_other c.loop-place.window c.loop-place.place k c.new.result 0 ne ∙ c.loop-place.invariant.listed k (omega arith)
      ];
      rest = λ k le. get_or-set_other c.loop-place.window c.loop-place.place k c.new.result 0 (λ (e : k ≡ c.loop-place.place). omega arith) ∙ c.loop-place.invariant.rest k (omega arith);
      scans = read_scans _ _ c.next-next.ensures.counted ∙ read_scans _ _ c.head_of-object.ensures.counted ∙ c.loop-place.invariant.scans;
    }
