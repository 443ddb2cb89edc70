use Rattle.std.proofs.Common.{arith}
use Rattle.std.proofs.lemmas.List.{get_or_read}
use Rattle.containers.proofs.ListViews.{laid_out, last_some, last_none}
use Rattle.containers.proofs.entry_lists.chains.Chains.peek_last.Goals as goal

pub overflow_add-self-inside : goal.overflow_add-self-inside
overflow_add-self-inside c =
    let l = laid_out _ _ _ _ _ _ c.self.invariant c.self.view_is in
    omega (arith, l.prev_len)

pub index-node-requires : goal.index-node-requires
index-node-requires c =
    let l = laid_out _ _ _ _ _ _ c.self.invariant c.self.view_is in
    omega (arith, l.prev_len, c.self.inside.prev.ok.0)

pub returns-then-node-self : goal.returns-then-node-self
returns-then-node-self c =
    let l = laid_out _ _ _ _ _ _ c.self.invariant c.self.view_is in
    let read = get_or_read c.self.inside.prev.items _ _ (omega (arith, l.prev_len, c.self.inside.prev.ok.0)) c.index-node.ensures 0 in
    record { value = last_some _ _ _ _ _ _ l _ c.index-node.result.now c.requires read c.if-node-self.true }

pub returns-else-node-self : goal.returns-else-node-self
returns-else-node-self c =
    let l = laid_out _ _ _ _ _ _ c.self.invariant c.self.view_is in
    let read = get_or_read c.self.inside.prev.items _ _ (omega (arith, l.prev_len, c.self.inside.prev.ok.0)) c.index-node.ensures 0 in
    record { value = last_none _ _ _ _ _ _ l _ c.index-node.result.now c.requires read c.if-node-self.false }
