-- The runs by computation.
use Rattle.std.specs.Prelude.{refl}
use Rattle.base.specs.Live.{is_live}
use Rattle.label_lattice.specs.LabelRules.{stored, with_category, below, visible, shown, below_join}
use Rattle.label_lattice.specs.LabelRules.{below_join_up, above_floor}
use Rattle.kernel_rules.specs.State.{live_part}
use Rattle.kernel_rules.specs.Step.{answer, next, query_answer}
use Rattle.kernel_rules.specs.Table.{refused, query_refused}
use Rattle.kernel_rules.specs.Translate.{translate, place_of}
use Rattle.rule_scripts.specs.Runs.{RunsTell, Secret, Batch, Early, Seatless, OneEvent}

pub secret : Secret
unfolding answer next query_answer is_live live_part refused query_refused stored with_category below visible shown below_join below_join_up above_floor translate place_of
secret = refl

pub batch : Batch
unfolding answer next query_answer is_live live_part refused query_refused stored with_category below visible shown below_join below_join_up above_floor translate place_of
batch = refl

pub early : Early
unfolding answer next query_answer is_live live_part refused query_refused stored with_category below visible shown below_join below_join_up above_floor translate place_of
early = refl

pub seatless : Seatless
unfolding answer next query_answer is_live live_part refused query_refused stored with_category below visible shown below_join below_join_up above_floor translate place_of
seatless = refl

pub one_event : OneEvent
unfolding answer next query_answer is_live live_part refused query_refused stored with_category below visible shown below_join below_join_up above_floor translate place_of
one_event = refl

pub every : RunsTell
every = (secret, batch, early, seatless, one_event)
