use Rattle.std.proofs.Common.{◌≡◌, ◌+◌, ℕ, List, [], replicate, subst, sym, rules}
use Rattle.std.specs.List.{range_with_len}
use Rattle.containers.specs.Lists.{empty_lists}
use Rattle.containers.specs.Chain.{IsLaidOut}
use Rattle.containers.proofs.Fresh.{fresh_laid_out}
use Rattle.containers.proofs.ListViews.{view_of}
use Rattle.containers.proofs.entry_lists.chains.Chains.new.Goals as goal

-- the same nodes under other names
same_nodes : (cells heads : ℕ) (next prev owners lens : List ℕ) → next ≡ range_with_len 0 (cells + heads) → prev ≡ range_with_len 0 (cells + heads) → owners ≡ replicate cells 0 → lens ≡ replicate heads 0 → IsLaidOut cells next prev owners lens (replicate heads [])
same_nodes cells heads next prev owners lens a b c d =
    subst (λ (xs : List ℕ). IsLaidOut cells xs prev owners lens (replicate heads [])) (sym a)
    (subst (λ (xs : List ℕ). IsLaidOut cells (range_with_len 0 (cells + heads)) xs owners lens (replicate heads [])) (sym b)
    (subst (λ (xs : List ℕ). IsLaidOut cells (range_with_len 0 (cells + heads)) (range_with_len 0 (cells + heads)) xs lens (replicate heads [])) (sym c)
    (subst (λ (xs : List ℕ). IsLaidOut cells (range_with_len 0 (cells + heads)) (range_with_len 0 (cells + heads)) (replicate cells 0) xs (replicate heads [])) (sym d)
    (fresh_laid_out cells heads))))

pub invariant_of-result : goal.invariant_of-result
invariant_of-result c =
    let owners : c.in_ok-owners.owners.items ≡ replicate c.args.cells 0 = search rules in
    let lens : c.in_ok-lens.lens.items ≡ replicate c.args.heads 0 = search rules in
    record { lists = replicate c.args.heads []; lay = same_nodes _ _ _ _ _ _ c.in_ok-next.ensures c.in_ok-prev.ensures owners lens }

pub returns : goal.returns
returns c =
    let owners : c.in_ok-owners.owners.items ≡ replicate c.args.cells 0 = search rules in
    let lens : c.in_ok-lens.lens.items ≡ replicate c.args.heads 0 = search rules in
    let lay = same_nodes c.args.cells c.args.heads _ _ _ _ c.in_ok-next.ensures c.in_ok-prev.ensures owners lens in
    view_of _ _ _ _ _ _ (empty_lists c.args.cells c.args.heads) lay (λ i. c.args.cells)
