use Rattle.std.proofs.Common.{◌+◌, ℕ, List, nat_le, nat_lt, nat_cmp, sym, ◌∙◌, ap}
use Rattle.std.specs.List.{list_all}
use Rattle.std.specs.Map.{lookup}
use Rattle.std.specs.Option.{unwrap_or}
use Rattle.std.specs.BTreeMap.{is_at}
use Rattle.std.proofs.lemmas.Result.{IfOk-weaker}
use Rattle.checkpoints.specs.Checkpoint.{Checkpoint}
use Rattle.checkpoints.specs.Starts.{number_of}
use Rattle.checkpoints.specs.declared.checkpoints.NextNumber.{NextNumber}
use Rattle.kernel_rules.specs.History.{count}
use Rattle.plain_core.proofs.NumberLaws.{number_is, all_are}
use Rattle.logged_kernel.proofs.NumberLaws.{noted_parts}
use Rattle.logged_kernel.specs.Entries.{events_of}
use Rattle.logged_kernel.proofs.numbers.next_numbers.Goals as goal

pub returns-clause-numbers : goal.returns-clause-numbers
returns-clause-numbers c =
    IfOk-weaker c.listed.result _ _ (λ next h. λ t below.
    number_is next.items t
    ∙ ap (λ (es : List (ℕ × ℕ)). unwrap_or (lookup (is_at (nat_cmp t)) es) 1) h
    ∙ c.in_ok-note_events.ensures.value t below
    ∙ ap (λ (ns : List NextNumber). count t (events_of c.args.entries.now) + number_of ns t) c.as_slice-first.ensures.value
    ∙ ap (λ (o : Checkpoint). count t (events_of c.args.entries.now) + number_of o.next t) c.origin.view_is) c.listed.ensures.value

pub returns-clause-later : goal.returns-clause-later
returns-clause-later c =
    IfOk-weaker c.listed.result _ _ (λ next h.
    sym (all_are (λ e. nat_le 2 e.1) next.items)
    ∙ ap (list_all (λ (e : ℕ × ℕ). nat_le 2 e.1)) h
    ∙ (noted_parts c.args.next_id c.note_events.new.numbers.entries c.in_ok-note_events.ensures.noted).0) c.listed.ensures.value

pub returns-clause-given : goal.returns-clause-given
returns-clause-given c =
    IfOk-weaker c.listed.result _ _ (λ next h.
    sym (all_are (λ e. nat_lt e.0 c.args.next_id) next.items)
    ∙ ap (list_all (λ (e : ℕ × ℕ). nat_lt e.0 c.args.next_id)) h
    ∙ (noted_parts c.args.next_id c.note_events.new.numbers.entries c.in_ok-note_events.ensures.noted).1) c.listed.ensures.value
