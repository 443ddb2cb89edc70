use Rattle.std.proofs.Common.{arith}
use Rattle.std.proofs.lemmas.List.{get_or_read}
use Rattle.containers.proofs.ListViews.{laid_out, cell_below, next_some, next_none}
use Rattle.containers.proofs.entry_lists.chains.Chains.peek_next.Goals as goal

pub index-node-requires : goal.index-node-requires
index-node-requires c =
    let l = laid_out _ _ _ _ _ _ c.self.invariant c.self.view_is in
    omega (arith, l.next_len, c.self.inside.next.ok.0, cell_below _ _ _ _ _ _ l c.requires.0 c.requires.1 _ c.requires.2)

pub returns-then-node-self : goal.returns-then-node-self
returns-then-node-self c =
    let l = laid_out _ _ _ _ _ _ c.self.invariant c.self.view_is in
    let read = get_or_read c.self.inside.next.items _ _ (omega (arith, l.next_len, c.self.inside.next.ok.0, cell_below _ _ _ _ _ _ l c.requires.0 c.requires.1 _ c.requires.2)) c.index-node.ensures 0 in
    record { value = λ head place at. next_some _ _ _ _ _ _ l head place _ c.index-node.result.now at read c.if-node-self.true }

pub returns-else-node-self : goal.returns-else-node-self
returns-else-node-self c =
    let l = laid_out _ _ _ _ _ _ c.self.invariant c.self.view_is in
    let read = get_or_read c.self.inside.next.items _ _ (omega (arith, l.next_len, c.self.inside.next.ok.0, cell_below _ _ _ _ _ _ l c.requires.0 c.requires.1 _ c.requires.2)) c.index-node.ensures 0 in
    record { value = λ head place at. next_none _ _ _ _ _ _ l head place _ c.index-node.result.now at read c.if-node-self.false }
