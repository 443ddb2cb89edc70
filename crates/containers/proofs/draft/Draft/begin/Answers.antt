use Rattle.std.proofs.Common.{rules, ◌≡◌, ℕ, ◌<◌, List, [], ◌∷◌, ◌++◌, length, get_or, set, replicate, Option, Some, None, sym, ap, ◌∙◌, subst, arith, length-set}
use Rattle.std.proofs.lemmas.List.{length-replicate, get_or-replicate}
use Rattle.containers.specs.Lists.{Lists}
use Rattle.containers.specs.Objects.{Objects}
use Rattle.containers.specs.View.{IsDrafted, lists_of, spare_below}
use Rattle.containers.proofs.Directories.{drafted_of}
use Rattle.containers.proofs.Spares.{spare_kept, spare_lists}
use Rattle.containers.proofs.draft.Draft.begin.Given as given
use Rattle.containers.proofs.draft.Draft.begin.Goals as goal

-- what was made
record IsReady (g : given.Over) (c : goal.After-insert-slot g) : Type 0 where
  pub ids : c.insert-slot.new.self.ids ≡ 1 ∷ []
  pub slots : c.insert-slot.new.self.slots ≡ c.insert-slot.result.0 ∷ []
  pub cells : c.insert-slot.new.self.cells ≡ set (replicate c.args.pool None) c.insert-slot.result.0 (Some c.args.root)
  pub within : c.insert-slot.result.0 < c.args.pool
  pub names : c.in_ok-names.names.items ≡ replicate c.args.pool 1
  pub rings : c.in_ok-rings.rings ≡ spare_below c.args.pool c.args.pool

ready : (g : given.Over) (c : goal.After-insert-slot g) → IsReady g c
ready g c =
    let made = c.in_ok-arena.ensures in
    let size = ap (λ (x : Objects g.row.T.Denot). length x.cells) made in
    record {
      ids = c.insert-slot.ensures.ids ∙ ap (λ (x : Objects g.row.T.Denot). x.ids ++ c.root.result ∷ []) made ∙ ap (λ (i : ℕ). i ∷ []) c.root.ensures;
      slots = c.insert-slot.ensures.slots ∙ ap (λ (x : Objects g.row.T.Denot). x.slots ++ c.insert-slot.result.0 ∷ []) made;
      cells = c.insert-slot.ensures.cells ∙ ap (λ (x : Objects g.row.T.Denot). set x.cells c.insert-slot.result.0 (Some c.args.root)) made;
      within = omega (arith, c.insert-slot.ensures.within, size, length-replicate {A = Option g.row.T.Denot} c.args.pool None);
      names = search rules;
      rings = c.in_ok-rings.ensures;
    }

pub invariant_of-result : goal.invariant_of-result
invariant_of-result g c =
    let r = ready g c in
    let long = ap (λ (os : List (Option g.row.T.Denot)). length os) r.cells ∙ length-set (replicate {A = Option g.row.T.Denot} c.args.pool None) c.insert-slot.result.0 (Some c.args.root) ∙ length-replicate {A = Option g.row.T.Denot} c.args.pool None in
    let names_len = ap (λ (xs : List ℕ). length xs) r.names ∙ length-replicate c.args.pool 1 in
    let root_id = ap (λ (xs : List ℕ). get_or xs c.insert-slot.result.0 0) r.names ∙ get_or-replicate c.args.pool c.insert-slot.result.0 1 0 r.within in
    let kept = drafted_of (spare_kept c.args.pool c.insert-slot.result.0 c.in_ok-names.names.items r.within c.requires.fits names_len root_id) in (
      subst (λ (x : List Lists). IsDrafted c.args.pool c.insert-slot.result.0 x c.in_ok-names.names.items c.insert-slot.new.self.ids c.insert-slot.new.self.slots) (sym r.rings)
          (subst (λ (xs : List ℕ). IsDrafted c.args.pool c.insert-slot.result.0 (spare_below c.args.pool c.args.pool) c.in_ok-names.names.items xs c.insert-slot.new.self.slots) (sym r.ids)
          (subst (λ (xs : List ℕ). IsDrafted c.args.pool c.insert-slot.result.0 (spare_below c.args.pool c.args.pool) c.in_ok-names.names.items (1 ∷ []) xs) (sym r.slots) kept)),
      long,
      search rules,
      omega (arith, c.in_ok-dead.ensures.exact),
    )

pub returns : goal.returns
returns g c =
    let r = ready g c in
    record {
      slot = c.insert-slot.result.0;
      within = r.within;
      lists =
          ap (λ (x : List Lists). lists_of x c.in_ok-names.names.items c.insert-slot.new.self.ids c.insert-slot.new.self.slots) r.rings
          ∙ ap (λ (xs : List ℕ). lists_of (spare_below c.args.pool c.args.pool) c.in_ok-names.names.items xs c.insert-slot.new.self.slots) r.ids
          ∙ ap (λ (xs : List ℕ). lists_of (spare_below c.args.pool c.args.pool) c.in_ok-names.names.items (1 ∷ []) xs) r.slots
          ∙ spare_lists c.args.pool c.insert-slot.result.0 c.in_ok-names.names.items r.within;
      slots = r.slots;
      cells = r.cells;
    }
