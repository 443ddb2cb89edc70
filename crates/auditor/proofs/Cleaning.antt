-- What a clean verdict says of the dump that is read.
use Rattle.std.proofs.Common.{◌≡◌, ℕ, true, List, subst}
use Rattle.auditor.specs.Verdict.{begins, IsVerdict}
use Rattle.auditor.specs.declared.verdicts.Verdict.{Verdict}
use Rattle.auditor.specs.declared.verdicts.Verdict.TheVariants as is
use Rattle.dump_text.specs.Dump.{IsDump}
use Rattle.dump_text.specs.Lists.{DumpLists}

-- the events of a clean dump can begin
pub clean_begins : (bytes : List ℕ) (d : DumpLists)
    → ((a b : DumpLists) → IsDump bytes a → IsDump bytes b → a ≡ b) → IsDump bytes d
    → IsVerdict bytes is.Clean → begins d ≡ true
clean_begins bytes d one is_dump clean =
    subst (λ (x : DumpLists). begins x ≡ true) (one clean.0 d clean.1 is_dump) clean.2

-- what has another verdict is not clean
pub other_unclean : (bytes : List ℕ) (v : Verdict)
    → ((a b : Verdict) → IsVerdict bytes a → IsVerdict bytes b → a ≡ b) → IsVerdict bytes v
    → (v ≡ is.Clean → ⊥) → IsVerdict bytes is.Clean → ⊥
other_unclean bytes v one found other clean = other (one v is.Clean found clean)
