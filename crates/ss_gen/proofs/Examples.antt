-- Lines worked out apart from these definitions, by a program of a few lines in another language.
use Rattle.std.proofs.Common.{◌≡◌, codes, refl}
use Rattle.std.specs.Fmt.{digits}
use Rattle.ss_gen.specs.Draws.{draw}
use Rattle.ss_gen.specs.Events.{cti_text, drawn_of, row_text}

first_draw : draw 0 0 8 ≡ 7
first_draw = refl

row_0-seed_zero : row_text (drawn_of 0 0) ≡ codes "event,7,16,k37,-264,5\n"
unfolding digits
row_0-seed_zero = refl

row_1-seed_zero : row_text (drawn_of 0 1) ≡ codes "event,11,68,k25,-236,9\n"
unfolding digits
row_1-seed_zero = refl

row_0-seed_one : row_text (drawn_of 1 0) ≡ codes "event,6,32,k46,370,4\n"
unfolding digits
row_0-seed_one = refl

row_1-seed_one : row_text (drawn_of 1 1) ≡ codes "event,11,38,k2,-411,6\n"
unfolding digits
row_1-seed_one = refl

row_0-seed_last : row_text (drawn_of 18446744073709551615 0) ≡ codes "event,0,56,k27,102,4\n"
unfolding digits
row_0-seed_last = refl

row_1-seed_last : row_text (drawn_of 18446744073709551615 1) ≡ codes "event,11,33,k47,-60,2\n"
unfolding digits
row_1-seed_last = refl

cti-behind_100 : cti_text 99 ≡ codes "cti,800\n"
unfolding digits
cti-behind_100 = refl
