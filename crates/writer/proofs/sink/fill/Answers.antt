use Rattle.std.proofs.Common.{◌^◌, ◌<◌, ◌≤◌, length, arith, rules}
use Rattle.writer.proofs.Puts.{counted, filled}
use Rattle.writer.proofs.sink.fill.Goals as goal

pub returns : goal.returns
returns g c text puts =
    let sink = c.new-sink.ensures in
    let fits : length c.args.out.now < 2 ^ 63 = search rules in
    let far = counted c.new-measured.result c.put.new.arg2 (puts _ _ c.put.ensures) c.new-measured.ensures.start in
    let room : length text ≤ length c.args.out.now = omega arith in
    filled c.new-sink.result c.put-2.new.arg2 (puts _ _ c.put-2.ensures) sink.start sink.bytes (search rules) room fits
