use Rattle.std.proofs.Common.{◌≡◌, true, sym, ◌∙◌}
use Rattle.checkpoints.specs.Restored.{object_of}
use Rattle.plain_core.specs.Written.{is_written}
use Rattle.plain_core.proofs.BuildLaws.{built_more, written_more, there}
use Rattle.plain_core.proofs.restoring.building.objects_of.Goals as goal

pub loop-recorded-preserved : goal.loop-recorded-preserved
loop-recorded-preserved c =
    let built : (is_written c.recorded-item.result.object ≡ true)
    × (c.in-Some.object ≡ object_of c.recorded-item.result.object)
    = there (is_written c.recorded-item.result.object) (object_of c.recorded-item.result.object) c.in-Some.object
    (sym c.in_ok-object.ensures ∙ c.in-Some.is) in (
      c.in_ok-insert.ensures.entries
          ∙ built_more c.args.objects.now c.loop-recorded.recorded-index c.recorded-item.result
          c.loop-recorded-test.true c.recorded-item.is c.requires c.loop-recorded.built.entries
          c.loop-recorded.invariant.0 c.in-Some.object built.1,
      written_more c.args.objects.now c.loop-recorded.recorded-index c.recorded-item.result
          c.loop-recorded-test.true c.recorded-item.is c.loop-recorded.invariant.1 built.0,
    )
