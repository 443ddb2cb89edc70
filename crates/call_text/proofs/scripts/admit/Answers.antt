use Rattle.std.proofs.Common.{true, false, Result, Ok, Err, List, subst, arith}
use Rattle.std.specs.Prelude.{IfOk}
use Rattle.std.proofs.Common.{Bool, ◌<◌, ◌+◌, ℕ}
use Rattle.text_words.specs.declared.spoken_calls.args.Arg.{Arg}
use Rattle.call_text.specs.declared.batches.Open.{Open}
use Rattle.call_text.specs.declared.lines.Outline.{Outline}
use Rattle.call_text.specs.Line.{written_with}
use Rattle.call_text.specs.Names.{Binds, Admits}
use Rattle.call_text.specs.Reading.{Joins}
use Rattle.call_text.specs.Script.{binds_of}
use Rattle.call_text.proofs.ScriptLemmas.{admits_full, admits_unbound, admits_joined}
use Rattle.call_text.proofs.scripts.admit.Goals as goal

pub returns-then-lines-ge-MOST : goal.returns-then-lines-ge-MOST
returns-then-lines-ge-MOST c = λ xs.
    admits_full c.args.lines (written_with c.args.outline.now xs) c.args.bound.now.keys c.args.bound.now.keys c.args.batches.now.items c.if-lines-ge-MOST.true

pub returns-then-not-branch : goal.returns-then-not-branch
returns-then-not-branch c = λ xs.
    admits_unbound c.args.lines (written_with c.args.outline.now xs) c.args.bound.now.keys c.bind.new.bound.keys c.args.batches.now.items (omega arith)
    (subst (λ (b : Bool). Binds (binds_of (written_with c.args.outline.now xs)) c.args.bound.now.keys c.bind.new.bound.keys b) c.if-not-branch.true (c.in_ok-bind.ensures xs))

-- what the join answers, if it does
joined : {E : Type 0} (lines : ℕ) (outline : Outline) (old new : List (List ℕ)) (batches later : List Open) (r : Result Bool E) → lines < 65536
    → ((xs : List Arg) → Binds (binds_of (written_with outline xs)) old new true)
    → IfOk r (λ yes. (xs : List Arg) → Joins (lines + 1) (written_with outline xs) batches later yes)
    → IfOk r (λ yes. (xs : List Arg) → Admits lines (written_with outline xs) old new batches later yes)
joined lines outline old new batches later (Ok may) lt binds joins = λ xs.
    admits_joined lines (written_with outline xs) old new batches later may lt (binds xs) (joins xs)
joined lines outline old new batches later (Err e) lt binds joins = joins

pub returns : goal.returns
returns c =
    joined c.args.lines c.args.outline.now c.args.bound.now.keys c.bind.new.bound.keys c.args.batches.now.items c.join.new.batches.items c.join.result (omega arith)
    (λ xs. subst (λ (b : Bool). Binds (binds_of (written_with c.args.outline.now xs)) c.args.bound.now.keys c.bind.new.bound.keys b) c.if-not-branch.false (c.in_ok-bind.ensures xs))
    c.join.ensures
