use Rattle.std.proofs.Common.{◌≡◌, ◌≢◌, ℕ, ◌<◌, ◌⊎◌, inl, inr, List, length, get_or, true, sym, ap, ◌∙◌, subst, refl}
use Rattle.std.proofs.lemmas.Bool.{cases_eq}
use Rattle.base.specs.Live.{has, links}
use Rattle.containers.specs.Tree.{Tree, ids_in}
use Rattle.containers.specs.View.{lists_of}
use Rattle.containers.proofs.Directories.{kept_of}
use Rattle.containers.proofs.Drafts.{reached_slot}
use Rattle.containers.proofs.Views.{has_at, ids_are}
use Rattle.containers.proofs.draft.Draft.finish.Goals as goal

pub invariant_of-result : goal.invariant_of-result
invariant_of-result g c =
    let a = c.self.inside in
    let drafted = c.self.invariant.0 in
    let ls = ap (λ (t : Tree g.row.T.Denot). t.lists) c.self.view_is in
    let ids = ids_are a.rings a.names.items a.arena.ids a.arena.slots drafted.listing.beside in
    let there : (k : ℕ) → k < length a.arena.ids → has (ids_in c.args.self.lists) (get_or a.arena.ids k 0) ≡ true = λ k lt.
    ap (λ (t : List (ℕ × List ℕ)). has (ids_in t) (get_or a.arena.ids k 0)) (sym ls)
    ∙ ap (λ (xs : List ℕ). has xs (get_or a.arena.ids k 0)) ids ∙ has_at a.arena.ids k (get_or a.arena.ids k 0) lt refl in
    let reached : (k : ℕ) → k < length a.arena.ids
    → (get_or a.arena.ids k 0 ≡ 1) ⊎ ((x : ℕ) × (links (lists_of a.rings a.names.items a.arena.ids a.arena.slots) x (get_or a.arena.ids k 0) ≡ true)) = λ k lt.
    elim (cases_eq (get_or a.arena.ids k 0) 1) [
      | inl one ↦ inl one
      | inr ne ↦
          let link = c.requires (get_or a.arena.ids k 0) (there k lt) ne in
          inr (link.0, ap (λ (t : List (ℕ × List ℕ)). links t link.0 (get_or a.arena.ids k 0)) ls ∙ link.1)
    ] in
    (kept_of drafted (λ k lt. reached_slot a.size a.root a.rings a.names.items a.arena.ids a.arena.slots drafted k lt (reached k lt)), c.self.invariant.1, c.self.invariant.2, c.self.invariant.3)
