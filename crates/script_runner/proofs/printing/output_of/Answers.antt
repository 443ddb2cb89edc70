use Rattle.std.proofs.Common.{◌≡◌, ◌∙◌, ◌≤◌, List, ℕ, flat_map, length, Some, slice_get, refl, sym, arith, ap}
use Rattle.std.proofs.lemmas.List.{take_all}
use Rattle.std.proofs.lemmas.Option.{slice_get_read}
use Rattle.script_rules.specs.Output.{worker_text}
use Rattle.script_runner.specs.Shared.{left_text}
use Rattle.script_runner.specs.declared.answers.Left.{Left}
use Rattle.script_runner.proofs.OutputLaws.{lines_end, lines_more, own_lines_more}
use Rattle.script_runner.proofs.printing.output_of.Goals as goal

pub loop-index-preserved : goal.loop-index-preserved
loop-index-preserved c =
    let workers : List (List ℕ) = c.args.workers.now.keys in
    let k : ℕ = c.loop-index.index in
    let worker : List ℕ = c.in-Some-Some.worker.now in
    let left : Left = c.in-Some-Some.left.now in
    let there : slice_get workers k ≡ Some worker = sym c.in-Some-Some.ensures.key in
    let at : slice_get c.args.left.now k ≡ Some left
    = slice_get_read c.args.left.now (length c.args.left.now) k left refl c.in-Some-Some.ensures'.lookup.3.0 c.in-Some-Some.ensures'.lookup.1 in
    record {
      text = own_lines_more c.args.names.now workers k worker c.args.left.now left c.loop-index.out.items c.put_worker.new.out.items there at
          c.in_ok-put_worker.ensures c.loop-index.invariant.text;
      lines = lines_more c.args.names.now workers k worker c.args.left.now left c.loop-index.out.items c.put_worker.new.out.items
          (left_text c.args.names.now workers c.args.left.now) there at c.in_ok-put_worker.ensures c.loop-index.invariant.lines;
    }

pub returns-clause-text : goal.returns-clause-text
returns-clause-text c r are same =
    let workers : List (List ℕ) = c.args.workers.now.keys in
    let end : length workers ≤ c.loop-index.index = omega arith in
    c.loop-index.invariant.text r are same ∙ ap (flat_map (worker_text r.names r.told)) (take_all c.loop-index.index workers end)

pub returns-clause-lines : goal.returns-clause-lines
returns-clause-lines c =
    let workers : List (List ℕ) = c.args.workers.now.keys in
    let end : length workers ≤ c.loop-index.index = omega arith in
    lines_end c.args.names.now workers c.loop-index.index c.args.left.now c.loop-index.out.items
    (left_text c.args.names.now workers c.args.left.now) end c.loop-index.invariant.lines
