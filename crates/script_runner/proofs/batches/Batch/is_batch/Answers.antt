use Rattle.std.proofs.Common.{◌≡◌, length, arith}
use Rattle.script_runner.proofs.TurnLaws.{few, many}
use Rattle.script_runner.proofs.batches.Batch.is_batch.Goals as goal

pub returns-then-len-le16 : goal.returns-then-len-le16
returns-then-len-le16 c more =
    let count : c.len.result ≡ length c.args.self.now.lines.items = omega (arith, c.args.self.now.lines.ok.0) in
    few c.args.self.now.lines.items c.as_slice.result.now c.len.result c.have_no_read.result more count c.if-len-le16.true
    c.as_slice.ensures.value c.have_no_read.ensures

pub returns-else-len-le16 : goal.returns-else-len-le16
returns-else-len-le16 c more =
    let count : c.len.result ≡ length c.args.self.now.lines.items = omega (arith, c.args.self.now.lines.ok.0) in
    many c.args.self.now.lines.items c.len.result more count c.if-len-le16.false
