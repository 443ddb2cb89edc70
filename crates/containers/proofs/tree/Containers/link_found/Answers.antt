use Rattle.std.proofs.Common.{◌≡◌, ◌≢◌, ℕ, ◌<◌, List, length, get_or, true, sym, ap, ◌∙◌, subst, arith}
use Rattle.std.proofs.lemmas.Bool.{both_ways}
use Rattle.base.specs.Live.{links}
use Rattle.containers.specs.Tree.{Tree, add_lists, link_count}
use Rattle.containers.specs.View.{lists_of}
use Rattle.containers.proofs.Directories.{listing_of, drafted_of}
use Rattle.containers.proofs.Asked.{found_recorded, found_name}
use Rattle.containers.proofs.Counts.{some_spare}
use Rattle.containers.specs.Cells.{Lists', IsRecorded}
use Rattle.containers.proofs.Views.{links_listed}
use Rattle.containers.proofs.Links.{kept_added, lists_added}
use Rattle.containers.proofs.tree.Containers.link_found.Given as given
use Rattle.containers.proofs.tree.Containers.link_found.Goals as goal

pub add_link-requires-clause-container : goal.add_link-requires-clause-container
add_link-requires-clause-container g c =
    let a = c.self.inside in
    (found_recorded a.size a.root a.rings a.names.items a.arena c.self.invariant.0 c.args.self.now c.self.view_is c.args.container.id c.args.container.slot.0 c.requires.container).within

pub add_link-requires-clause-object : goal.add_link-requires-clause-object
add_link-requires-clause-object g c =
    let a = c.self.inside in
    (found_recorded a.size a.root a.rings a.names.items a.arena c.self.invariant.0 c.args.self.now c.self.view_is c.args.object.id c.args.object.slot.0 c.requires.object).within

pub add_link-requires-clause-spare : goal.add_link-requires-clause-spare
add_link-requires-clause-spare g c =
    let a = c.self.inside in
    let few : link_count (lists_of a.rings a.names.items a.arena.ids a.arena.slots) < a.size = omega (arith, ap (λ (t : Tree g.row.T.Denot). link_count t.lists) c.self.view_is, ap (λ (t : Tree g.row.T.Denot). length t.cells) c.self.view_is, c.self.invariant.1, c.requires.room) in
    some_spare a.size a.root a.rings a.names.items a.arena.ids a.arena.slots (drafted_of c.self.invariant.0) few

record IsReady (g : given.Over) (c : goal.After-add_link g) : Type 0 where
  pub rd : IsRecorded c.self.inside.size c.self.inside.root c.self.inside.rings c.args.container.slot.0
  pub ro : IsRecorded c.self.inside.size c.self.inside.root c.self.inside.rings c.args.object.slot.0
  pub d_is : get_or c.self.inside.names.items c.args.container.slot.0 0 ≡ c.args.container.id
  pub o_is : get_or c.self.inside.names.items c.args.object.slot.0 0 ≡ c.args.object.id
  pub not_root : c.args.object.slot.0 ≢ c.self.inside.root
  pub fresh : Lists' c.self.inside.size c.self.inside.rings c.args.container.slot.0 c.args.object.slot.0 → ⊥

ready : (g : given.Over) (c : goal.After-add_link g) → IsReady g c
ready g c =
    let a = c.self.inside in
    let k = c.self.invariant.0 in
    let ls = ap (λ (t : Tree g.row.T.Denot). t.lists) c.self.view_is in
    let d_is' : get_or a.names.items c.args.container.slot.0 0 ≡ c.args.container.id = found_name a.size a.root a.rings a.names.items a.arena c.self.invariant.0 c.args.self.now c.self.view_is c.args.container.id c.args.container.slot.0 c.requires.container in
    let o_is' : get_or a.names.items c.args.object.slot.0 0 ≡ c.args.object.id = found_name a.size a.root a.rings a.names.items a.arena c.self.invariant.0 c.args.self.now c.self.view_is c.args.object.id c.args.object.slot.0 c.requires.object in
    record {
      rd = found_recorded a.size a.root a.rings a.names.items a.arena c.self.invariant.0 c.args.self.now c.self.view_is c.args.container.id c.args.container.slot.0 c.requires.container;
      ro = found_recorded a.size a.root a.rings a.names.items a.arena c.self.invariant.0 c.args.self.now c.self.view_is c.args.object.id c.args.object.slot.0 c.requires.object;
      d_is = d_is';
      o_is = o_is';
      not_root = λ e. c.requires.not_root (sym o_is' ∙ ap (λ (i : ℕ). get_or a.names.items i 0) e ∙ k.root_id);
      fresh = λ l.
          let h = links_listed a.size a.root a.rings a.names.items a.arena.ids a.arena.slots k.sound (listing_of k.directory) c.args.container.slot.0 c.args.object.slot.0 l in
          let h' = subst (λ (i : ℕ). links (lists_of a.rings a.names.items a.arena.ids a.arena.slots) i c.args.object.id ≡ true) d_is' (subst (λ (i : ℕ). links (lists_of a.rings a.names.items a.arena.ids a.arena.slots) (get_or a.names.items c.args.container.slot.0 0) i ≡ true) o_is' h) in
          both_ways (links c.args.self.now.lists c.args.container.id c.args.object.id) c.requires.fresh (subst (λ (v : List (ℕ × List ℕ)). links v c.args.container.id c.args.object.id ≡ true) ls h');
    }

pub invariant_of-self : goal.invariant_of-self
invariant_of-self g c =
    let a = c.self.inside in
    let r = ready g c in
    (kept_added a.size a.root a.rings c.add_link.new.rings a.names.items a.arena.ids a.arena.slots c.args.container.slot.0 c.args.object.slot.0 c.self.invariant.0 r.rd r.ro r.not_root r.fresh c.add_link.ensures.added, c.self.invariant.1, c.self.invariant.2, c.self.invariant.3)

pub returns-clause-linked : goal.returns-clause-linked
returns-clause-linked g c =
    let a = c.self.inside in
    let r = ready g c in
    let make : List (ℕ × List ℕ) → Tree g.row.T.Denot = λ v. record { lists = v; slots = a.arena.slots; cells = a.arena.cells } in
    ap make (lists_added a.size a.root a.rings c.add_link.new.rings a.names.items a.arena.ids a.arena.slots c.args.container.slot.0 c.args.object.slot.0 c.self.invariant.0 r.rd r.ro r.not_root r.fresh c.add_link.ensures.added
    ∙ ap (λ (i : ℕ). add_lists (lists_of a.rings a.names.items a.arena.ids a.arena.slots) i (get_or a.names.items c.args.object.slot.0 0)) r.d_is
    ∙ ap (λ (i : ℕ). add_lists (lists_of a.rings a.names.items a.arena.ids a.arena.slots) c.args.container.id i) r.o_is)
    ∙ ap (λ (t : Tree g.row.T.Denot). record t { lists = add_lists t.lists c.args.container.id c.args.object.id }) c.self.view_is
