use Rattle.std.proofs.Common.{◌≡◌, [], subst, sym, ap, ◌∙◌}
use Rattle.text_words.specs.Reading.{Reads}
use Rattle.text_words.specs.Spoken.{Spoken, spoken_text, IsSpoken, call_with}
use Rattle.text_words.proofs.IntoLemmas.{into_not, reads_one}
use Rattle.call_text.specs.Resolve.{resolved}
use Rattle.dump_text.specs.Call.{call_text, IsCall, write_of, spoken_of}
use Rattle.dump_text.proofs.CallLemmas.{call_reads}
use Rattle.dump_text.proofs.calls.read_call.Goals as goal

pub returns-in_default : goal.returns-in_default
returns-in_default c =
    let not = into_not call_with spoken_text IsSpoken c.args.text.now c.new-args.result.items c.read_spoken.new.args.items c.in_ok-verb.field-0 c.in_default.is c.in_ok-verb.ensures in
    λ v is e. not.1 (spoken_of v) is e

pub new-requires : goal.new-requires
new-requires c = rw c.as_slice.ensures.value (reads_one c.args.text.now c.new-args.result.items c.read_spoken.new.args.items c.in_ok-verb.field-0 c.in-Some.verb c.in-Some.is c.new-args.ensures.items c.in_ok-verb.ensures).0

pub returns : goal.returns
returns c =
    let h = reads_one c.args.text.now c.new-args.result.items c.read_spoken.new.args.items c.in_ok-verb.field-0 c.in-Some.verb c.in-Some.is c.new-args.ensures.items c.in_ok-verb.ensures in
    let said = call_with c.in-Some.verb c.read_spoken.new.args.items in
    let given : c.new.result ≡ said = c.new.ensures ∙ ap (call_with c.in-Some.verb) c.as_slice.ensures.value in
    subst (Reads call_text IsCall c.args.text.now) (sym (c.write_call.ensures ∙ ap (λ (r : Spoken). write_of (resolved r [])) given)) (call_reads c.args.text.now said h.0 h.1)
