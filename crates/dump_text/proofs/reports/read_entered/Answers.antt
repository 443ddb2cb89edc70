use Rattle.std.proofs.Common.{arith}
use Rattle.dump_text.proofs.ReportLemmas.{entered_first, entered_none}
use Rattle.dump_text.proofs.reports.read_entered.Goals as goal

pub returns-in_default-parted : goal.returns-in_default-parted
returns-in_default-parted c = λ v is e. entered_none c.args.text.now c.in-Some.numbers.now v c.in-Some.ensures.some c.in_default-parted.ensures.none e

pub returns-in_default-read_number : goal.returns-in_default-read_number
returns-in_default-read_number c = λ v is e.
    let p = entered_first c.args.text.now c.in-Some.numbers.now c.in-Some-parted.first.now c.in-Some-parted.second.now v is c.in-Some.ensures.some c.in-Some-parted.ensures.parts c.in-Some-parted.ensures.first e in
    let small = is.0 in
    c.in_default-read_number.ensures v.0 (omega arith) p.0

pub returns-in_default-read_number-2 : goal.returns-in_default-read_number-2
returns-in_default-read_number-2 c = λ v is e.
    let p = entered_first c.args.text.now c.in-Some.numbers.now c.in-Some-parted.first.now c.in-Some-parted.second.now v is c.in-Some.ensures.some c.in-Some-parted.ensures.parts c.in-Some-parted.ensures.first e in
    let small = is.1 in
    c.in_default-read_number-2.ensures v.1 (omega arith) p.1
