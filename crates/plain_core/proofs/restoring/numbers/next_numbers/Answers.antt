use Rattle.std.proofs.Common.{ℕ, List, nat_le, nat_cmp, sym, ◌∙◌, ap}
use Rattle.std.specs.List.{list_all}
use Rattle.std.specs.Map.{lookup}
use Rattle.std.specs.Option.{unwrap_or}
use Rattle.std.specs.BTreeMap.{is_at}
use Rattle.plain_core.proofs.NumberLaws.{number_is, all_are}
use Rattle.plain_core.proofs.restoring.numbers.next_numbers.Goals as goal

pub returns-clause-numbers : goal.returns-clause-numbers
returns-clause-numbers c =
    λ t. number_is c.in_ok-next.next.items t
    ∙ ap (λ (es : List (ℕ × ℕ)). unwrap_or (lookup (is_at (nat_cmp t)) es) 1) c.in_ok-next.ensures.value
    ∙ c.in_ok-numbers.ensures.numbers t

pub returns-clause-later : goal.returns-clause-later
returns-clause-later c =
    sym (all_are (λ e. nat_le 2 e.1) c.in_ok-next.next.items)
    ∙ ap (list_all (λ (e : ℕ × ℕ). nat_le 2 e.1)) c.in_ok-next.ensures.value ∙ c.in_ok-numbers.ensures.later

pub returns-clause-threads : goal.returns-clause-threads
returns-clause-threads c =
    λ test h. sym (all_are (λ e. test e.0) c.in_ok-next.next.items)
    ∙ ap (list_all (λ (e : ℕ × ℕ). test e.0)) c.in_ok-next.ensures.value ∙ c.in_ok-numbers.ensures.threads test h
