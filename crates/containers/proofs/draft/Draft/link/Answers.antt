use Rattle.std.proofs.Common.{◌≡◌, ◌≢◌, ℕ, ◌<◌, ◌⊎◌, inl, inr, List, length, get_or, true, sym, ap, ◌∙◌, subst, arith}
use Rattle.std.proofs.lemmas.Bool.{both_ways}
use Rattle.base.specs.Live.{has, links}
use Rattle.containers.specs.Objects.{IsEntry}
use Rattle.containers.specs.Tree.{Tree, add_lists, ids_in, link_count}
use Rattle.containers.specs.View.{lists_of, IsDrafted}
use Rattle.containers.specs.Cells.{Lists', IsAdded, IsRecorded}
use Rattle.containers.proofs.Counts.{some_spare}
use Rattle.containers.proofs.Drafts.{reached_slot}
use Rattle.containers.proofs.Links.{drafted_added, lists_drafted}
use Rattle.containers.proofs.Views.{at_has, ids_are, links_listed}
use Rattle.containers.proofs.draft.Draft.link.Given as given
use Rattle.containers.proofs.draft.Draft.link.Goals as goal

pub unreachable-requires : goal.unreachable-requires
unreachable-requires g c =
    let a = c.self.inside in
    let ids = ap (λ (t : Tree g.row.T.Denot). ids_in t.lists) (sym c.self.view_is) ∙ ids_are a.rings a.names.items a.arena.ids a.arena.slots c.self.invariant.0.listing.beside in
    let at = at_has a.arena.ids c.args.object (subst (λ (xs : List ℕ). has xs c.args.object ≡ true) ids c.requires.object) in
    c.in-None-find.ensures.absent at.0 at.1 at.2

pub unreachable-requires-in-None : goal.unreachable-requires-in-None
unreachable-requires-in-None g c =
    let a = c.self.inside in
    let ids = ap (λ (t : Tree g.row.T.Denot). ids_in t.lists) (sym c.self.view_is) ∙ ids_are a.rings a.names.items a.arena.ids a.arena.slots c.self.invariant.0.listing.beside in
    let at = at_has a.arena.ids c.args.container (subst (λ (xs : List ℕ). has xs c.args.container ≡ true) ids c.requires.container) in
    c.in-None.ensures.absent at.0 at.1 at.2

pub add_link-requires-clause-spare : goal.add_link-requires-clause-spare
add_link-requires-clause-spare g c =
    let a = c.self.inside in
    let few : link_count (lists_of a.rings a.names.items a.arena.ids a.arena.slots) < a.size = omega (arith, ap (λ (t : Tree g.row.T.Denot). link_count t.lists) c.self.view_is, ap (λ (t : Tree g.row.T.Denot). length t.cells) c.self.view_is, c.self.invariant.1, c.requires.room) in
    some_spare a.size a.root a.rings a.names.items a.arena.ids a.arena.slots c.self.invariant.0 few

-- where the two are, and that the link is new
record IsReady (g : given.Over) (c : goal.After-add_link g) : Type 0 where
  pub k : ℕ
  pub in_range : k < length c.self.inside.arena.ids
  pub k_is : get_or c.self.inside.arena.slots k 0 ≡ c.in-Some-find.o.0
  pub rd : IsRecorded c.self.inside.size c.self.inside.root c.self.inside.rings c.in-Some.d.0
  pub d_is : get_or c.self.inside.names.items c.in-Some.d.0 0 ≡ c.args.container
  pub o_is : get_or c.self.inside.names.items (get_or c.self.inside.arena.slots k 0) 0 ≡ c.args.object
  pub not_root : get_or c.self.inside.arena.slots k 0 ≢ c.self.inside.root
  pub fresh : Lists' c.self.inside.size c.self.inside.rings c.in-Some.d.0 (get_or c.self.inside.arena.slots k 0) → ⊥
  pub added : IsAdded c.self.inside.size c.self.inside.rings c.add_link.new.rings c.in-Some.d.0 (get_or c.self.inside.arena.slots k 0)

ready : (g : given.Over) (c : goal.After-add_link g) → IsReady g c
ready g c =
    let a = c.self.inside in
    let drafted = c.self.invariant.0 in
    let listing = drafted.listing in
    let ls = ap (λ (t : Tree g.row.T.Denot). t.lists) c.self.view_is in
    let d = c.in-Some.ensures.found in
    let o = c.in-Some-find.ensures.found in
    let j = d.0 in
    let k' = o.0 in
    let d_slot : get_or a.arena.slots j 0 ≡ c.in-Some.d.0 = d.1.slot_is in
    let o_slot : get_or a.arena.slots k' 0 ≡ c.in-Some-find.o.0 = o.1.slot_is in
    let d_id : get_or a.arena.ids j 0 ≡ c.args.container = d.1.id_is in
    let o_id : get_or a.arena.ids k' 0 ≡ c.args.object = o.1.id_is in
    let d_name : get_or a.names.items c.in-Some.d.0 0 ≡ c.args.container = ap (λ (s : ℕ). get_or a.names.items s 0) (sym d_slot) ∙ listing.name j d.1.within ∙ d_id in
    let o_name : get_or a.names.items (get_or a.arena.slots k' 0) 0 ≡ c.args.object = listing.name k' o.1.within ∙ o_id in
    let reached : (get_or a.arena.ids j 0 ≡ 1) ⊎ ((x : ℕ) × (links (lists_of a.rings a.names.items a.arena.ids a.arena.slots) x (get_or a.arena.ids j 0) ≡ true)) = elim c.requires.reached [
      | inl one ↦ inl (d_id ∙ one)
      | inr link ↦ inr (link.0, ap (λ (t : List (ℕ × List ℕ)). links t link.0 (get_or a.arena.ids j 0)) ls ∙ ap (λ (i : ℕ). links c.args.self.now.lists link.0 i) d_id ∙ link.1)
    ] in
    record {
      k = k';
      in_range = o.1.within;
      k_is = o_slot;
      rd = subst (λ (s : ℕ). IsRecorded a.size a.root a.rings s) d_slot (reached_slot a.size a.root a.rings a.names.items a.arena.ids a.arena.slots drafted j d.1.within reached);
      d_is = d_name;
      o_is = o_name;
      not_root = λ e. c.requires.not_root (sym o_name ∙ ap (λ (s : ℕ). get_or a.names.items s 0) e ∙ drafted.root_id);
      fresh = λ l.
          let h = links_listed a.size a.root a.rings a.names.items a.arena.ids a.arena.slots drafted.sound listing c.in-Some.d.0 (get_or a.arena.slots k' 0) l in
          let h' = subst (λ (i : ℕ). links (lists_of a.rings a.names.items a.arena.ids a.arena.slots) i c.args.object ≡ true) d_name (subst (λ (i : ℕ). links (lists_of a.rings a.names.items a.arena.ids a.arena.slots) (get_or a.names.items c.in-Some.d.0 0) i ≡ true) o_name h) in
          both_ways (links c.args.self.now.lists c.args.container c.args.object) c.requires.fresh (subst (λ (v : List (ℕ × List ℕ)). links v c.args.container c.args.object ≡ true) ls h');
      added = subst (λ (s : ℕ). IsAdded a.size a.rings c.add_link.new.rings c.in-Some.d.0 s) (sym o_slot) c.add_link.ensures.added;
    }

pub invariant_of-self : goal.invariant_of-self
invariant_of-self g c =
    let a = c.self.inside in
    let r = ready g c in
    (drafted_added a.size a.root a.rings c.add_link.new.rings a.names.items a.arena.ids a.arena.slots c.in-Some.d.0 r.k c.self.invariant.0 r.rd r.in_range r.not_root r.fresh r.added, c.self.invariant.1, c.self.invariant.2, c.self.invariant.3)

pub returns : goal.returns
returns g c =
    let a = c.self.inside in
    let r = ready g c in
    let make : List (ℕ × List ℕ) → Tree g.row.T.Denot = λ v. record { lists = v; slots = a.arena.slots; cells = a.arena.cells } in
    record {
      linked =
          ap make (lists_drafted a.size a.root a.rings c.add_link.new.rings a.names.items a.arena.ids a.arena.slots c.in-Some.d.0 r.k c.self.invariant.0 r.rd r.in_range r.not_root r.fresh r.added
          ∙ ap (λ (i : ℕ). add_lists (lists_of a.rings a.names.items a.arena.ids a.arena.slots) i (get_or a.names.items (get_or a.arena.slots r.k 0) 0)) r.d_is
          ∙ ap (λ (i : ℕ). add_lists (lists_of a.rings a.names.items a.arena.ids a.arena.slots) c.args.container i) r.o_is)
          ∙ ap (λ (t : Tree g.row.T.Denot). record t { lists = add_lists t.lists c.args.container c.args.object }) c.self.view_is;
    }
