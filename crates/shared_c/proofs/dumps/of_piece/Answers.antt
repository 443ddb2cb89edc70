use Rattle.std.proofs.Common.{◌≡◌, ◌==◌, Bool, true, Option, Some, None, if◌then◌else◌, ap, sym, ◌∙◌, arith}
use Rattle.std.proofs.lemmas.Bool.Decides.{nat_tests}
use Rattle.shared_calls.specs.Dumps.{DumpView}
use Rattle.shared_c.specs.Served.{dump_of_piece}
use Rattle.shared_c.proofs.dumps.of_piece.Goals as goal

pub returns-then-number-piece : goal.returns-then-number-piece
returns-then-number-piece c =
    let dump : DumpView = c.in_ok-dump.dump in
    let same : (dump.number == c.args.piece) ≡ true = grind (arith, nat_tests, c.number.ensures, c.if-number-piece.true) in
    sym (ap (λ (d : Option DumpView). dump_of_piece c.args.piece d) c.in_ok-dump.was
    ∙ ap (λ (b : Bool). if b then Some dump else None) same)
