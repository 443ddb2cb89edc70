-- What is told of a dump.
use Rattle.std.proofs.Common.{◌≡◌, ℕ, List, Option, Some, IfSome, Vec, Global, subst}
use Rattle.dump_text.specs.Dump.{IsDump}
use Rattle.dump_text.specs.Lists.{DumpLists}
use Rattle.auditor.specs.Traces.{IsReached, Traces}

-- what is reached in the dump that the bytes spell
pub traced : (bytes : List ℕ) (d : DumpLists) (c o : ℕ) (found : Option (Vec ℕ Global)) (ids : Vec ℕ Global) → IsDump bytes d
    → IfSome found (λ all. IsReached d c o all.items) → found ≡ Some ids → Traces bytes c o ids.items
traced bytes d c o found ids spelt reached is =
    (d, spelt, subst (λ (r : Option (Vec ℕ Global)). IfSome r (λ all. IsReached d c o all.items)) is reached)
