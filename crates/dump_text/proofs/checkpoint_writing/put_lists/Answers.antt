use Rattle.std.proofs.Common.{map}
use Rattle.std.specs.List.{flat_map}
use Rattle.dump_text.specs.CheckpointLines.{object_lines, next_line}
use Rattle.dump_text.specs.Fits.{FitsLine}
use Rattle.dump_text.proofs.LabelPlaces.{all_append}
use Rattle.dump_text.proofs.checkpoint_writing.put_lists.Goals as goal

pub returns-clause-fits : goal.returns-clause-fits
returns-clause-fits c = all_append FitsLine (flat_map object_lines c.args.objects.now) (map next_line c.args.next.now) c.in_ok-put_objects.ensures.fits c.in_ok-put_each.ensures.lines
