use Rattle.std.proofs.Common.{Bool, subst}
use Rattle.std.specs.Prelude.{Some}
use Rattle.call_text.proofs.Progress.{not_empty}
use Rattle.call_text.specs.Names.{Binds}
use Rattle.call_text.proofs.NameProgress.{progress_more, fault_at_end, fault_unread, fault_known}
use Rattle.call_text.proofs.names_text.reading.read_names.Goals as goal

pub returns-in_default : goal.returns-in_default
returns-in_default c =
    fault_at_end c.args.bytes.now c.loop-rest.known.keys c.loop-rest.names.items c.loop-rest.line c.loop-rest.rest.now c.loop-rest.invariant c.in_default.ensures.none
    (not_empty c.loop-rest.rest.now c.is_empty.result c.loop-rest-test.true c.is_empty.ensures)

pub returns-in_default-read_named : goal.returns-in_default-read_named
returns-in_default-read_named c =
    fault_unread c.args.bytes.now c.loop-rest.known.keys c.loop-rest.names.items c.loop-rest.line c.loop-rest.rest.now c.in-Some.text.now c.in-Some.after.now c.loop-rest.invariant
    c.in-Some.ensures.parts c.in-Some.ensures.first c.in_default-read_named.ensures

pub returns-then-not-branch : goal.returns-then-not-branch
returns-then-not-branch c =
    fault_known c.args.bytes.now c.loop-rest.known.keys c.note.new.known.keys c.loop-rest.names.items c.loop-rest.line c.loop-rest.rest.now c.in-Some.text.now c.in-Some.after.now c.in-Some-read_named.named c.loop-rest.invariant
    c.in-Some.ensures.parts c.in-Some.ensures.first c.in-Some-read_named.ensures.0 c.in-Some-read_named.ensures.1
    (subst (λ (b : Bool). Binds (Some c.in-Some-read_named.named.name) c.loop-rest.known.keys c.note.new.known.keys b) c.if-not-branch.true c.in_ok-note.ensures)

pub loop-rest-preserved : goal.loop-rest-preserved
loop-rest-preserved c =
    progress_more c.args.bytes.now c.loop-rest.known.keys c.note.new.known.keys c.loop-rest.names.items c.push.new.self.items c.loop-rest.line c.loop-rest.rest.now c.in-Some.text.now c.in-Some.after.now c.in-Some-read_named.named c.loop-rest.invariant
    c.in-Some.ensures.parts c.in-Some-read_named.ensures.0 c.in-Some-read_named.ensures.1
    (subst (λ (b : Bool). Binds (Some c.in-Some-read_named.named.name) c.loop-rest.known.keys c.note.new.known.keys b) c.if-not-branch.false c.in_ok-note.ensures)
    c.in_ok-push.ensures.items
