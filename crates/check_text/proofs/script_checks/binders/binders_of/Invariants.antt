use Rattle.std.proofs.Common.{◌≡◌, ℕ, List, take}
use Rattle.indexmap.specs.IndexMap.{get}
use Rattle.text_words.specs.contracts.names.NamePartialEq.TheImpl.{eq-value}
use Rattle.check_text.specs.Binders.{binder}
use Rattle.check_text.proofs.script_checks.binders.binders_of.Given as goal

abbrev pub invariant-loop-outline : goal.invariant-loop-outline
invariant-loop-outline l = (name : List ℕ) → get eq-value.it l.binders name ≡ binder name (take l.outline-index l.outlines)
