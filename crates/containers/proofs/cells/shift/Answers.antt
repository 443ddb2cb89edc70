use Rattle.std.proofs.Common.{◌≡◌, ◌++◌, ◌∷◌, [], ◌<◌, ◌∙◌, length, set, refl, sym, ap, arith, lit<}
use Rattle.std.proofs.lemmas.List.{set-set}
use Rattle.std.specs.Prelude.{remove}
use Rattle.containers.specs.Lists.{Lists, family_at, cells_at, list_at, with_list, with_cells}
use Rattle.containers.proofs.Lookups.{family_at-with_cells}
use Rattle.containers.proofs.ListViews.{head_below}
use Rattle.containers.proofs.Shifts.{shifted}
use Rattle.containers.proofs.cells.shift.Goals as goal

pub shift-requires : goal.shift-requires
shift-requires c =
    let s = c.requires.from.2 in
    (lit< tt, (c.requires.family, (c.requires.to, (c.requires.from.0, s.place, s.stands))))

pub returns-clause-shifted : goal.returns-clause-shifted
returns-clause-shifted c =
    let from = c.requires.from.0 in
    let s = c.requires.from.2 in
    let r = c.args.rings.now in
    let f = c.args.family in
    let to = c.args.to in
    let cell = c.args.cell in
    let fam : f < length r = omega (arith, c.requires.family, c.shift.ensures.families) in
    let less = remove (cells_at r f from) s.place in
    let out = with_list (family_at r f) from less in
    let again : c.shift.new.self ≡ with_cells (with_cells r f from less) f to (cells_at (with_cells r f from less) f to ++ cell ∷ []) =
    c.shift.ensures.shifted from s.place s.stands
    ∙ sym (ap (λ (l : Lists). set (with_cells r f from less) f (with_list l to (list_at l to ++ cell ∷ []))) (family_at-with_cells r f fam from less)
    ∙ set-set r f out (with_list out to (list_at out to ++ cell ∷ []))) in
    shifted _ _ _ f from to s.place cell fam (head_below (family_at r f).lists from s.place cell s.stands) c.requires.to c.requires.from.1 s.stands c.shift.ensures.was_well_formed c.shift.ensures.well_formed refl again
