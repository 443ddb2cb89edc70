use Rattle.std.proofs.Common.{ℕ, sym, ◌∙◌, ◌++◌, ap, decimal, slice_get}
use Rattle.script_runner.proofs.OutputLaws.{told_line_is}
use Rattle.script_runner.proofs.printing.put_line.Goals as goal

pub returns : goal.returns
returns c =
    told_line_is (slice_get c.args.answers.now.told c.args.place) c.args.names.now c.args.worker.now c.args.out.now.items c.put_name.new.out.items
    c.push.new.self.items c.put_number.new.out.items c.extend_from_slice.new.self.items c.put.new.out.items c.push-2.new.self.items
    c.in-Some.number (sym c.number.ensures ∙ c.in-Some.is) c.in_ok-put_name.ensures c.in_ok-push.ensures.items
    (c.in_ok-put_number.ensures ∙ ap (λ (n : ℕ). c.push.new.self.items ++ decimal n) c.from.ensures)
    c.in_ok-extend_from_slice.ensures.items c.in_ok-put.ensures.text c.in_ok-push-2.ensures.items
