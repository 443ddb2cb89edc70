-- The least refusal among findings, one finding on.
use Rattle.std.proofs.Common.{◌≡◌, ◌<◌, ◌+◌, ℕ, Bool, true, false, cond, List, ◌∷◌, Option, Some, sym, ◌∙◌, ap, drop, length, get_or}
use Rattle.std.proofs.lemmas.List.{at_drop_more}
use Rattle.base.specs.declared.refusals.Refusal.{Refusal}
use Rattle.kernel_rules.specs.Rows.{lesser_of, least_of}
use Rattle.kernel_rules.proofs.RowLaws.{least_of-least_of}
use Rattle.explained.specs.Laws.{least}
use Rattle.explained.specs.Parts.{refuses}
use Rattle.explained.specs.declared.parts.Finding.{Finding}

split : (a : Option Refusal) (fs : List Finding) (i : ℕ) (f : Finding) → i < length fs → f ≡ get_or fs i f
    → least_of a (least (drop i fs)) ≡ least_of a (least (f ∷ drop (i + 1) fs))
split a fs i f lt is =
    at_drop_more (λ (r : List Finding). least_of a (least r)) fs i f lt
    ∙ ap (λ (g : Finding). least_of a (least (g ∷ drop (i + 1) fs))) (sym is)

pub held_more : (a b : Option Refusal) (fs : List Finding) (i : ℕ) (f : Finding) → i < length fs
    → f ≡ get_or fs i f → refuses f.parts ≡ true → least_of a (least (drop i fs)) ≡ b
    → least_of (least_of a (Some f.refusal)) (least (drop (i + 1) fs)) ≡ b
held_more a b fs i f lt is h so_far =
    least_of-least_of a (Some f.refusal) rest
    ∙ ap (λ (v : Bool). least_of a (cond v (Some (lesser_of f.refusal rest)) rest)) (sym h)
    ∙ sym (split a fs i f lt is) ∙ so_far
  where
    rest : Option Refusal
    rest = least (drop (i + 1) fs)

pub unheld_more : (a b : Option Refusal) (fs : List Finding) (i : ℕ) (f : Finding) → i < length fs
    → f ≡ get_or fs i f → refuses f.parts ≡ false → least_of a (least (drop i fs)) ≡ b
    → least_of a (least (drop (i + 1) fs)) ≡ b
unheld_more a b fs i f lt is h so_far =
    ap (λ (v : Bool). least_of a (cond v (Some (lesser_of f.refusal rest)) rest)) (sym h)
    ∙ sym (split a fs i f lt is) ∙ so_far
  where
    rest : Option Refusal
    rest = least (drop (i + 1) fs)
