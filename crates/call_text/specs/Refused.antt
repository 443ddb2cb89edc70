-- The refusals of texts.
use Rattle.base.specs.declared.refusals.Refusal.{Refusal}
use Rattle.base.specs.declared.refusals.Refusal.TheVariants.{TextFault, TextMemory}
use Rattle.call_text.specs.declared.errors.ScriptError.{ScriptError}
use Rattle.call_text.specs.declared.errors.ScriptError.TheVariants as errors

-- 50 for a faulty line, 51 for want of memory
abbrev pub refusal_of : ScriptError → Refusal
refusal_of (errors.Line n) = TextFault
refusal_of errors.Memory = TextMemory
