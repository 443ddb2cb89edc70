-- The refusal of a row that is put together of parts.
use Rattle.std.proofs.Common.{◌≡◌, ◌<◌, ◌+◌, ℕ, List, Option, map, drop, get_or, length}
use Rattle.std.proofs.Common.{Bor, sym, ap, ◌∙◌}
use Rattle.std.proofs.lemmas.List.{at_drop_more}
use Rattle.base.specs.declared.refusals.Refusal.{Refusal}
use Rattle.kernel_rules.specs.Rows.{Row, refusal_of, least_of}
use Rattle.kernel_rules.proofs.RowLaws.{appended, least_of-least_of}
use Rattle.kernel_store.specs.Parts.{joined}

-- the refusal of parts
abbrev pub refusal_in : List (Bor Row) → Option Refusal
refusal_in parts = refusal_of (joined (map (λ part. part.now) parts))

-- a refusal and what is left of the parts, one part on
pub part_more : (a b : Option Refusal) (parts : List (Bor Row)) (i : ℕ) (z : Bor Row) → i < length parts
    → least_of a (refusal_in (drop i parts)) ≡ b
    → least_of (least_of a (refusal_of (get_or parts i z).now)) (refusal_in (drop (i + 1) parts)) ≡ b
part_more a b parts i z lt so_far =
    least_of-least_of a (refusal_of part) (refusal_in rest)
    ∙ ap (least_of a) (sym (appended part (joined (map (λ part. part.now) rest))))
    ∙ sym (at_drop_more (λ (left : List (Bor Row)). least_of a (refusal_in left)) parts i z lt) ∙ so_far
  where
    part : Row
    part = (get_or parts i z).now

    rest : List (Bor Row)
    rest = drop (i + 1) parts
