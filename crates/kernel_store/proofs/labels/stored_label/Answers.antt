use Rattle.kernel_store.proofs.labels.stored_label.Goals as goal

pub returns-clause-meter : goal.returns-clause-meter
returns-clause-meter g c = g.met.S.Store.kept_scans 1 _ _ c.stored_of.ensures.scans
