-- The law of flows.
use Rattle.std.specs.Prelude.{◌≡◌, ℕ, suc, ◌≤◌, true, List, Some}
use Rattle.base.specs.Level.{rank_of}
use Rattle.label_lattice.specs.Label.{LabelValue, level}
use Rattle.kernel_rules.specs.State.{State, label_at}
use Rattle.kernel_rules.specs.WellFormed.{is_well_formed}
use Rattle.flow_rules.specs.Flows.{HandOver, IsFlow, before, first_event}
use Rattle.flow_rules.specs.declared.steps.Step.{Step}

-- a flow outside a category from o to p, from a well-formed state on, as those are that a boot makes and that a
-- checkpoint is restored to: o's level there in the state before the first hand-over is at most p's in the state after the
-- last
abbrev pub LevelsRise : Type 0
LevelsRise =
    (s : State) (events : List (ℕ × Step)) (c o p : ℕ) (h : HandOver) (hs : List HandOver)
    → is_well_formed s ≡ true → IsFlow s events c o p h hs → (x y : LabelValue)
    → label_at (before s events (first_event h hs)) o ≡ Some x
    → label_at (before s events (suc h.event)) p ≡ Some y
    → rank_of (level x c) ≤ rank_of (level y c)
