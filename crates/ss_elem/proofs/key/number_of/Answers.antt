use Rattle.std.proofs.Common.{◌+◌, arith}
use Rattle.ss_elem.proofs.KeyNumbers.{read_one, read-fits}
use Rattle.ss_elem.proofs.key.number_of.Goals as goal

pub overflow_mul-number : goal.overflow_mul-number
overflow_mul-number c =
    let loop = c.loop-place in
    let more = read_one loop.number loop.place _ c.args.bytes.now c.loop-place-test.true loop.invariant in
    let fits = read-fits _ (loop.place + 1) c.args.bytes.now (omega arith) c.requires more in
    omega (arith, fits)

pub overflow_add-number : goal.overflow_add-number
overflow_add-number c =
    let loop = c.loop-place in
    let more = read_one loop.number loop.place _ c.args.bytes.now c.loop-place-test.true loop.invariant in
    let fits = read-fits _ (loop.place + 1) c.args.bytes.now (omega arith) c.requires more in
    omega (arith, fits, c.byte_at.ensures)

pub loop-place-preserved : goal.loop-place-preserved
loop-place-preserved c =
    let loop = c.loop-place in
    rw c.byte_at.ensures (read_one loop.number loop.place _ c.args.bytes.now c.loop-place-test.true loop.invariant)
