use Rattle.std.proofs.Common.{◌≡◌, ℕ, ◌+◌, ◌*◌, arith}
use Rattle.ss_gen.specs.Draws.{draw, state_after}
use Rattle.ss_gen.proofs.Numbers.{number_is, one_more}
use Rattle.ss_gen.proofs.events.drawn_row.Goals as goal

pub returns-clause-place : goal.returns-clause-place
returns-clause-place c =
    let i : ℕ = c.args.i in
    let seed : ℕ = c.args.seed in
    let one : c.below.new.self ≡ state_after seed (5 * i + 1) = one_more seed (5 * i) (5 * i + 1) _ _ c.requires.place c.below.ensures.state (omega arith) in
    let two : c.below-2.new.self ≡ state_after seed (5 * i + 1 + 1) = one_more seed (5 * i + 1) (5 * i + 1 + 1) _ _ one c.below-2.ensures.state (omega arith) in
    let three : c.below-key.new.self ≡ state_after seed (5 * i + 2 + 1) = one_more seed (5 * i + 1 + 1) (5 * i + 2 + 1) _ _ two c.below-key.ensures.state (omega arith) in
    let four : c.below-first.new.self ≡ state_after seed (5 * i + 3 + 1) = one_more seed (5 * i + 2 + 1) (5 * i + 3 + 1) _ _ three c.below-first.ensures.state (omega arith) in
    one_more seed (5 * i + 3 + 1) (5 * (i + 1)) _ _ four c.below-second.ensures.state (omega arith)

pub returns-clause-drawn : goal.returns-clause-drawn
returns-clause-drawn c =
    let i : ℕ = c.args.i in
    let seed : ℕ = c.args.seed in
    let one : c.below.new.self ≡ state_after seed (5 * i + 1) = one_more seed (5 * i) (5 * i + 1) _ _ c.requires.place c.below.ensures.state (omega arith) in
    let two : c.below-2.new.self ≡ state_after seed (5 * i + 1 + 1) = one_more seed (5 * i + 1) (5 * i + 1 + 1) _ _ one c.below-2.ensures.state (omega arith) in
    let three : c.below-key.new.self ≡ state_after seed (5 * i + 2 + 1) = one_more seed (5 * i + 1 + 1) (5 * i + 2 + 1) _ _ two c.below-key.ensures.state (omega arith) in
    let four : c.below-first.new.self ≡ state_after seed (5 * i + 3 + 1) = one_more seed (5 * i + 2 + 1) (5 * i + 3 + 1) _ _ three c.below-first.ensures.state (omega arith) in
    let five : c.below-second.new.self ≡ state_after seed (5 * i + 4 + 1) = one_more seed (5 * i + 3 + 1) (5 * i + 4 + 1) _ _ four c.below-second.ensures.state (omega arith) in
    let start : c.below.result ≡ draw seed (5 * i) 8 = number_is seed (5 * i) 8 _ _ one c.below.ensures.drawn (omega arith) in
    let length : c.below-2.result ≡ draw seed (5 * i + 1) 64 = number_is seed (5 * i + 1) 64 _ _ two c.below-2.ensures.drawn (omega arith) in
    let key : c.below-key.result ≡ draw seed (5 * i + 2) 50 = number_is seed (5 * i + 2) 50 _ _ three c.below-key.ensures.drawn (omega arith) in
    let first : c.below-first.result ≡ draw seed (5 * i + 3) 1000 = number_is seed (5 * i + 3) 1000 _ _ four c.below-first.ensures.drawn (omega arith) in
    let second : c.below-second.result ≡ draw seed (5 * i + 4) 10 = number_is seed (5 * i + 4) 10 _ _ five c.below-second.ensures.drawn (omega arith) in
    cc
