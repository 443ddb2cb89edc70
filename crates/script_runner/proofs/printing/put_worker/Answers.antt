use Rattle.std.proofs.Common.{◌<◌, length, rules}
use Rattle.script_runner.proofs.OutputLaws.{own_line_more}
use Rattle.script_runner.proofs.printing.put_worker.Goals as goal

pub loop-place-preserved : goal.loop-place-preserved
loop-place-preserved c =
    let within : c.loop-place.place < length c.args.answers.now.told = search rules in
    own_line_more c.args.names.now c.args.worker.now c.args.answers.now.told c.loop-place.place c.args.out.now.items c.loop-place.out.items
    c.put_line.new.out.items within c.loop-place.invariant c.in_ok-put_line.ensures
