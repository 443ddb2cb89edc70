use Rattle.hidden_replies.specs.RunsOf.{runs_of}
use Rattle.hidden_replies.proofs.Exact.{tells_all}
use Rattle.hidden_replies.proofs.runs.take.Goals as goal

pub returns-clause-exact : goal.returns-clause-exact
returns-clause-exact c =
    tells_all c.args.label.now (runs_of c.args.runs.now) c.args.placed.now c.well_formed-2.ensures c.well_formed-3.ensures

pub returns-in_err-told-clause-exact : goal.returns-in_err-told-clause-exact
returns-in_err-told-clause-exact c =
    tells_all c.args.label.now (runs_of c.args.runs.now) c.args.placed.now c.well_formed-2.ensures c.well_formed-3.ensures

pub returns-in_err-keep-clause-exact : goal.returns-in_err-keep-clause-exact
returns-in_err-keep-clause-exact c =
    tells_all c.args.label.now (runs_of c.args.runs.now) c.args.placed.now c.well_formed-2.ensures c.well_formed-3.ensures
