use Rattle.std.proofs.Common.{rules, ◌≡◌, ℕ, ◌<◌, List, ◌∷◌, Option, length, get_or, true, sym, ap, ◌∙◌, subst, arith}
use Rattle.base.specs.Live.{links}
use Rattle.containers.specs.Tree.{Tree, HasSlot, record_at, cut_lists, live_part}
use Rattle.containers.specs.View.{lists_of}
use Rattle.containers.specs.Sweep.{IsTree}
use Rattle.containers.specs.Visits.{IsTold, named, named_one, object_ids, IsHanded, IsLost}
use Rattle.containers.specs.Directory.{IsDirectory}
use Rattle.containers.specs.Cells.{IsRecorded}
use Rattle.containers.specs.Objects.{IsWithoutAll, Rises, object_at}
use Rattle.containers.specs.Lists.{Lists}
use Rattle.containers.proofs.Removals.{directory_left, object_left}
use Rattle.containers.proofs.Lives.{lists_live}
use Rattle.containers.proofs.Losses.{IsShown, lost}
use Rattle.containers.proofs.Views.{ids_are}
use Rattle.containers.proofs.Asked.{found_name, found_true, found_false}
use Rattle.containers.proofs.Unrefs.{handed, slot_kept, kept_then, tree_slots}
use Rattle.containers.proofs.tree.Containers.unref_found.Given as given
use Rattle.containers.proofs.tree.Containers.unref_found.Goals as goal

pub cut_link-requires : goal.cut_link-requires
cut_link-requires g c κs within =
    let k = c.self.invariant.0 in
    let a = c.self.inside in
    let e = c.deref.ensures.value in
    let ls = ap (λ (t : Tree g.row.T.Denot). t.lists) c.self.view_is in
    let tree : (x y z : ℕ) → links (lists_of a.rings a.names.items a.arena.ids a.arena.slots) x y ≡ true → links (lists_of a.rings a.names.items a.arena.ids a.arena.slots) y z ≡ true → x < y =
    λ x y z l m. c.requires.tree x y z (subst (λ (v : List (ℕ × List ℕ)). links v x y ≡ true) ls l) (subst (λ (v : List (ℕ × List ℕ)). links v y z ≡ true) ls m) in
    let ranked = subst (λ (xs : List ℕ). IsTree a.size a.rings (λ s. get_or xs s 0)) (sym e) (tree_slots a.size a.root a.rings a.names.items a.arena.ids a.arena.slots k tree) in
    (search rules, (k.fits, (ap length e ∙ k.names_len, (k.sound, (k.calm, (ranked, (k.simple, (k.full, (c.in-Some.ensures.found, (c.self.invariant.2, c.self.invariant.3))))))))))

-- the ids that were found name the slots, and the directory after the cut
record IsReady (g : given.Over) (c : goal.After-clear g) : Type 0 where
  pub dir : IsDirectory c.self.inside.size c.self.inside.root c.cut_link.new.rings c.self.inside.names.items c.remove_all.new.self.ids c.remove_all.new.self.slots
  pub d_is : get_or c.self.inside.names.items c.args.container.slot.0 0 ≡ c.args.container.id
  pub o_is : get_or c.self.inside.names.items c.args.object.slot.0 0 ≡ c.args.object.id
  pub kept : (o : ℕ) → IsRecorded c.self.inside.size c.self.inside.root c.cut_link.new.rings o → object_at c.remove_all.new.self o ≡ object_at c.self.inside.arena o

ready : (g : given.Over) (c : goal.After-clear g) → IsReady g c
ready g c =
    let k = c.self.invariant.0 in
    let a = c.self.inside in
    let cut = c.cut_link.ensures.cut in
    let dead_are = cut.4 ∙ ap (λ (xs : List ℕ). object_ids (named_one xs cut.1)) c.deref.ensures.value in
    let left = subst (λ (xs : List ℕ). IsWithoutAll a.arena c.remove_all.new.self xs) c.deref-in-Some.ensures.value c.remove_all.ensures.removed in
    record {
      dir = directory_left a.size a.root a.rings c.cut_link.new.rings c.args.container.slot.0 c.args.object.slot.0 cut.0 cut.1 cut.2 a.names.items a.arena c.remove_all.new.self c.cut_link.new.dead.items dead_are left k.directory;
      kept = object_left a.size a.root a.rings c.cut_link.new.rings c.args.container.slot.0 c.args.object.slot.0 cut.0 cut.1 cut.2 a.names.items a.arena c.remove_all.new.self c.cut_link.new.dead.items dead_are left k.directory;
      d_is = found_name a.size a.root a.rings a.names.items a.arena c.self.invariant.0 c.args.self.now c.self.view_is c.args.container.id c.args.container.slot.0 c.requires.container;
      o_is = found_name a.size a.root a.rings a.names.items a.arena c.self.invariant.0 c.args.self.now c.self.view_is c.args.object.id c.args.object.slot.0 c.requires.object;
    }

-- a directory is shown with a slot for each rising id
shown : (g : given.Over) (r : List Lists) (names ids slots : List ℕ) (cells : List (Option g.row.T.Denot)) → length ids ≡ length slots → Rises ids
    → IsShown {T = g.row.T.Denot} (record { lists = lists_of r names ids slots; slots = slots; cells = cells })
shown g r names ids slots cells beside rises =
    let same = ids_are r names ids slots beside in
    record {
      beside = ap (λ (xs : List ℕ). length xs) same ∙ beside;
      rises = subst (λ (xs : List ℕ). Rises xs) (sym same) rises;
    }

pub invariant_of-self : goal.invariant_of-self
invariant_of-self g c =
    let a = c.self.inside in
    let r = ready g c in
    let cut = c.cut_link.ensures.cut in
    (kept_then a.size a.root a.rings c.cut_link.new.rings c.args.container.slot.0 c.args.object.slot.0 cut.0 cut.1 cut.2 a.names.items a.arena.ids a.arena.slots c.remove_all.new.self.ids c.remove_all.new.self.slots c.self.invariant.0 r.dir, c.remove_all.ensures.removed.pool ∙ c.self.invariant.1, c.clear.ensures.items, omega (arith, c.self.invariant.3, c.clear.ensures.capacity, c.cut_link.ensures.room))

pub returns-in-Some-clause-lists : goal.returns-in-Some-clause-lists
returns-in-Some-clause-lists g c _ =
    let a = c.self.inside in
    let r = ready g c in
    let cut = c.cut_link.ensures.cut in
    let ls = ap (λ (t : Tree g.row.T.Denot). t.lists) c.self.view_is in
    lists_live a.size a.root a.rings c.cut_link.new.rings c.args.container.slot.0 c.args.object.slot.0 cut.0 cut.1 cut.2 a.names.items a.arena.ids a.arena.slots c.remove_all.new.self.ids c.remove_all.new.self.slots c.self.invariant.0 r.dir
    ∙ ap (λ (v : List (ℕ × List ℕ)). live_part (cut_lists v (get_or a.names.items c.args.container.slot.0 0) (get_or a.names.items c.args.object.slot.0 0))) ls
    ∙ ap (λ (i : ℕ). live_part (cut_lists c.args.self.now.lists i (get_or a.names.items c.args.object.slot.0 0))) r.d_is
    ∙ ap (λ (i : ℕ). live_part (cut_lists c.args.self.now.lists c.args.container.id i)) r.o_is

pub returns-in-Some-clause-kept : goal.returns-in-Some-clause-kept
returns-in-Some-clause-kept g c _ id slot h =
    let a = c.self.inside in
    let r = ready g c in
    let cut = c.cut_link.ensures.cut in
    let was = slot_kept a.size a.root a.rings c.cut_link.new.rings c.args.container.slot.0 c.args.object.slot.0 cut.0 cut.1 cut.2 a.names.items a.arena.ids a.arena.slots c.remove_all.new.self.ids c.remove_all.new.self.slots c.self.invariant.0 r.dir a.arena.cells c.remove_all.new.self.cells id slot h in (
      subst (λ (t : Tree g.row.T.Denot). HasSlot t id slot) c.self.view_is was.1,
      r.kept slot was.0 ∙ ap (λ (t : Tree g.row.T.Denot). record_at t slot) c.self.view_is,
    )

pub returns-in-Some-clause-handed : goal.returns-in-Some-clause-handed
returns-in-Some-clause-handed g c _ =
    let a = c.self.inside in
    let r = ready g c in
    let cut = c.cut_link.ensures.cut in
    let e = c.deref.ensures.value in
    let told = handed a.size a.root a.rings c.cut_link.new.rings c.args.container.slot.0 c.args.object.slot.0 cut.0 cut.1 cut.2 a.names.items a.arena.ids a.arena.slots c.remove_all.new.self.ids c.remove_all.new.self.slots c.self.invariant.0 r.dir a.arena.cells c.remove_all.new.self.cells in
    let before : Tree g.row.T.Denot = record { lists = lists_of a.rings a.names.items a.arena.ids a.arena.slots; slots = a.arena.slots; cells = a.arena.cells } in
    let after : Tree g.row.T.Denot = record { lists = lists_of c.cut_link.new.rings a.names.items c.remove_all.new.self.ids c.remove_all.new.self.slots; slots = c.remove_all.new.self.slots; cells = c.remove_all.new.self.cells } in
    let went = named a.names.items ((c.args.container.slot.0, c.args.object.slot.0) ∷ cut.0) in
    let dead = named_one a.names.items cut.1 in
    let gone = lost before after went dead told
    (shown g a.rings a.names.items a.arena.ids a.arena.slots a.arena.cells c.self.invariant.0.directory.beside c.self.invariant.0.directory.rises)
    (shown g c.cut_link.new.rings a.names.items c.remove_all.new.self.ids c.remove_all.new.self.slots c.remove_all.new.self.cells r.dir.beside r.dir.rises)
    (λ id slot h. (slot_kept a.size a.root a.rings c.cut_link.new.rings c.args.container.slot.0 c.args.object.slot.0 cut.0 cut.1 cut.2 a.names.items a.arena.ids a.arena.slots c.remove_all.new.self.ids c.remove_all.new.self.slots c.self.invariant.0 r.dir a.arena.cells c.remove_all.new.self.cells id slot h).1) in (
      went,
      dead,
      subst (λ (t : Tree g.row.T.Denot). IsHanded t after went dead) c.self.view_is told,
      subst (λ (xs : List ℕ). IsTold g.V.Visitor.link_gives g.V.Visitor.object_gives c.args.visitor.now c.cut_link.new.visitor (named xs ((c.args.container.slot.0, c.args.object.slot.0) ∷ cut.0)) (named_one xs cut.1)) e cut.3,
      subst (λ (t : Tree g.row.T.Denot). IsLost t after dead) c.self.view_is gone,
    )

pub returns-in-Some-clause-told : goal.returns-in-Some-clause-told
returns-in-Some-clause-told g c =
    let a = c.self.inside in
    sym (found_true a.size a.root a.rings a.names.items a.arena c.self.invariant.0 c.args.self.now c.self.view_is c.args.container.id c.args.container.slot.0 c.args.object.id c.args.object.slot.0 c.requires.container c.requires.object (record { cell = c.in-Some.cell; link = c.in-Some.ensures.found }))

pub returns-in-None-clause-told : goal.returns-in-None-clause-told
returns-in-None-clause-told g c =
    let a = c.self.inside in
    sym (found_false a.size a.root a.rings a.names.items a.arena c.self.invariant.0 c.args.self.now c.self.view_is c.args.container.id c.args.container.slot.0 c.args.object.id c.args.object.slot.0 c.requires.container c.requires.object c.in-None.ensures.absent)
