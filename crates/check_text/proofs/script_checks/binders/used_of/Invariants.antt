use Rattle.std.proofs.Common.{◌≡◌, ℕ, List, take}
use Rattle.indexmap.specs.IndexSet.{contains}
use Rattle.text_words.specs.contracts.names.NamePartialEq.TheImpl.{eq-value}
use Rattle.check_text.specs.Binders.{is_used}
use Rattle.check_text.proofs.script_checks.binders.used_of.Given as goal

abbrev pub invariant-loop-mention : goal.invariant-loop-mention
invariant-loop-mention l = (name : List ℕ) → contains eq-value.it l.used name ≡ is_used name (take l.mention-index l.mentions)
