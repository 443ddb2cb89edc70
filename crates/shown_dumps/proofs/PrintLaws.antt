-- What is printed of what was read.
use Rattle.std.proofs.Common.{◌≡◌, ℕ, List, Option, Some, None, Result, Ok, Err, IfSome, subst, ◌∙◌}
use Rattle.std.specs.Global.{Vec}
use Rattle.std.specs.Io.KnownBytes.{Appends}
use Rattle.shown_dumps.specs.Printed.{IsPrinted}
use Rattle.shown_dumps.specs.declared.states.faults.ShowFault.{ShowFault}

-- what is shown of all that was read was printed
pub printed : (P : List ℕ → Vec ℕ → Type 0) (remaining before after : Option (List ℕ)) (read given : List ℕ) (told : Vec ℕ)
    → IfSome remaining (λ left. read ≡ left) → given ≡ read → P given told → Appends before after told.items
    → IfSome remaining (λ text. (told : Vec ℕ) × P text told × Appends before after told.items)
printed P None before after read given told is same shown added = tt
printed P (Some left) before after read given told is same shown added = (told, subst (λ (l : List ℕ). P l told) (same ∙ is) shown, added)

-- the same, where a fault prints nothing
pub printed_if : (P : List ℕ → Result (Vec ℕ) ShowFault → Type 0) (remaining before after : Option (List ℕ))
    (read given : List ℕ) (shown : Result (Vec ℕ) ShowFault) → IfSome remaining (λ left. read ≡ left) → given ≡ read
    → P given shown → IsPrinted shown before after
    → IfSome remaining (λ text. (told : Vec ℕ) × P text (Ok told) × Appends before after told.items)
printed_if P remaining before after read given (Ok text) is same told added =
    printed (λ t v. P t (Ok v)) remaining before after read given text is same told added
printed_if P remaining before after read given (Err fault) is same told added = absurd added
