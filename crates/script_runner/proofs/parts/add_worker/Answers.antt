use Rattle.std.proofs.Common.{◌∙◌, ℕ, List, ap}
use Rattle.std.specs.List.{list_any}
use Rattle.std.specs.Str.{bytes_eq}
use Rattle.script_runner.proofs.NumberLaws.{inserted_as_bytes, inserted_is_known}
use Rattle.script_runner.proofs.parts.add_worker.Goals as goal

pub returns-clause-added : goal.returns-clause-added
returns-clause-added c = c.in_ok-insert.ensures.keys ∙ inserted_as_bytes c.args.workers.now.keys c.args.worker

pub returns-clause-known : goal.returns-clause-known
returns-clause-known c =
    let worker : List ℕ = c.args.worker in
    let workers : List (List ℕ) = c.args.workers.now.keys in
    ap (list_any (bytes_eq worker)) (c.in_ok-insert.ensures.keys ∙ inserted_as_bytes workers worker) ∙ inserted_is_known workers worker
