use Rattle.std.proofs.Common.{true, Option, ◌≡◌, ℕ, List, arith, subst, decimal}
use Rattle.text_words.specs.Lacks.{lacks}
use Rattle.text_words.proofs.PartLemmas.{not_in}
use Rattle.text_words.specs.Reading.{Reads}
use Rattle.dump_text.specs.declared.heads.Head.{Head}
use Rattle.dump_text.specs.Head.{head_text, IsHead}
use Rattle.dump_text.proofs.HeadLemmas.{object_parts}
use Rattle.dump_text.proofs.state_reading.read_object.Goals as goal

pub returns-in_default : goal.returns-in_default
returns-in_default c = λ v is e. not_in 32 (decimal v.id) (head_text v.head) (subst (λ (x : List ℕ). lacks 32 x ≡ true) e c.in_default.ensures.none)

pub returns-in_default-read_number : goal.returns-in_default-read_number
returns-in_default-read_number c = λ v is e.
    let p = object_parts c.args.text.now c.in-Some.id.now c.in-Some.more.now v is e c.in-Some.ensures.parts c.in-Some.ensures.first in
    let small = is.id in
    c.in_default-read_number.ensures v.id (omega arith) p.0

pub returns-in_default-2 : goal.returns-in_default-2
returns-in_default-2 c = λ v is e.
    let p = object_parts c.args.text.now c.in-Some.id.now c.in-Some.more.now v is e c.in-Some.ensures.parts c.in-Some.ensures.first in
    subst (λ (o : Option Head). Reads head_text IsHead c.in-Some.more.now o) c.in_default-2.is c.in_ok-head.ensures v.head is.head p.1
