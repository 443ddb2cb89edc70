use Rattle.std.proofs.Common.{arith}
use Rattle.std.proofs.lemmas.List.{get_or_read}
use Rattle.containers.proofs.ListViews.{laid_out, head_is, head_below, cell_below}
use Rattle.containers.proofs.entry_lists.chains.Chains.peek_head_of.Goals as goal

pub index-requires : goal.index-requires
index-requires c =
    let l = laid_out _ _ _ _ _ _ c.self.invariant c.self.view_is in
    omega (arith, l.heads_len, c.self.inside.heads.ok.0, cell_below _ _ _ _ _ _ l c.requires.0 c.requires.1 _ c.requires.2)

pub returns-clause-value : goal.returns-clause-value
returns-clause-value c = λ head place at.
    let l = laid_out _ _ _ _ _ _ c.self.invariant c.self.view_is in
    let read = get_or_read c.self.inside.heads.items _ _ (omega (arith, l.heads_len, c.self.inside.heads.ok.0, cell_below _ _ _ _ _ _ l c.requires.0 c.requires.1 _ c.requires.2)) c.index.ensures 0 in
    let e = head_is _ _ _ _ _ _ l head place _ at in
    cc

pub returns-clause-within : goal.returns-clause-within
returns-clause-within c =
    let l = laid_out _ _ _ _ _ _ c.self.invariant c.self.view_is in
    let read = get_or_read c.self.inside.heads.items _ _ (omega (arith, l.heads_len, c.self.inside.heads.ok.0, cell_below _ _ _ _ _ _ l c.requires.0 c.requires.1 _ c.requires.2)) c.index.ensures 0 in
    let e = head_is _ _ _ _ _ _ l c.requires.0 c.requires.1 _ c.requires.2 in
    let below = head_below c.args.self.now.lists c.requires.0 c.requires.1 _ c.requires.2 in
    omega (arith, read)
