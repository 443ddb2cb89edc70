use Rattle.std.proofs.Common.{ap, arith}
use Rattle.std.proofs.lemmas.List.{get_or_read}
use Rattle.containers.specs.Lists.{Lists}
use Rattle.containers.proofs.ListViews.{laid_out, len_is, lens_len}
use Rattle.containers.proofs.Changes.{well_formed}
use Rattle.containers.proofs.entry_lists.chains.Chains.len.Goals as goal

pub index-requires : goal.index-requires
index-requires c =
    let l = laid_out _ _ _ _ _ _ c.self.invariant c.self.view_is in
    omega (arith, lens_len _ _ _ _ _ _ l, c.self.inside.lens.ok.0)

pub returns-clause-value : goal.returns-clause-value
returns-clause-value c =
    let l = laid_out _ _ _ _ _ _ c.self.invariant c.self.view_is in
    let read = get_or_read c.self.inside.lens.items _ _ (omega (arith, lens_len _ _ _ _ _ _ l, c.self.inside.lens.ok.0)) c.index.ensures 0 in
    let e = len_is _ _ _ _ _ _ l _ c.requires in
    cc

pub returns-clause-well_formed : goal.returns-clause-well_formed
returns-clause-well_formed c =
    let l = laid_out _ _ _ _ _ _ c.self.invariant c.self.view_is in
    well_formed _ _ _ _ _ _ l (ap (λ (r : Lists). r.cells) c.self.view_is)
