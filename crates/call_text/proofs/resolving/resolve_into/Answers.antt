use Rattle.std.proofs.Common.{◌∙◌, ap, sym, Option, List, ℕ, Ok}
use Rattle.call_text.specs.Resolve.{or_unbound}
use Rattle.call_text.specs.Asked.{asked_of}
use Rattle.call_text.proofs.Unbound.{resolves, is_written_of}
use Rattle.call_text.proofs.resolving.resolve_into.Goals as goal

pub returns-in-Some-clause-resolved : goal.returns-in-Some-clause-resolved
returns-in-Some-clause-resolved g c =
    let names = g.K.Known.names c.args.names.now in
    let asked = asked_of c.verb.result c.args-2.result.now names in
    sym (ap (λ (x : Option (List ℕ)). or_unbound x asked) c.in-Some.is)
    ∙ resolves c.args.spoken.now names c.verb.result c.args-2.result.now c.ask-asked.new.unbound c.args-2.ensures.spoken
    c.verb.ensures c.args-2.ensures.value c.ask-asked.ensures.noted

pub returns-in-None-clause-resolved : goal.returns-in-None-clause-resolved
returns-in-None-clause-resolved g c =
    let names = g.K.Known.names c.args.names.now in
    let asked = asked_of c.verb.result c.args-2.result.now names in
    ap Ok c.ask-asked.ensures.asked ∙ sym (ap (λ (x : Option (List ℕ)). or_unbound x asked) c.in-None.is)
    ∙ resolves c.args.spoken.now names c.verb.result c.args-2.result.now c.ask-asked.new.unbound c.args-2.ensures.spoken
    c.verb.ensures c.args-2.ensures.value c.ask-asked.ensures.noted

pub returns-in-Some-clause-written : goal.returns-in-Some-clause-written
returns-in-Some-clause-written g c =
    is_written_of c.args.spoken.now (g.K.Known.names c.args.names.now) c.verb.result c.args-2.result.now c.ask-asked.result c.ask-asked.new.call
    c.args.call.now c.verb.ensures c.args-2.ensures.value c.ask-asked.ensures.asked c.ask-asked.ensures.kept

pub returns-in-None-clause-written : goal.returns-in-None-clause-written
returns-in-None-clause-written g c =
    is_written_of c.args.spoken.now (g.K.Known.names c.args.names.now) c.verb.result c.args-2.result.now c.ask-asked.result c.ask-asked.new.call
    c.args.call.now c.verb.ensures c.args-2.ensures.value c.ask-asked.ensures.asked c.ask-asked.ensures.kept
