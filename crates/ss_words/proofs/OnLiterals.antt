-- What a proof unfolds to compute the command that words say which are written out.
use Rattle.std.specs.Prelude.{⊤}
use Rattle.clap.proofs.OnLiterals.{clap_on_literals}
use Rattle.ss_words.specs.Words.{command_line, command_of}

unfoldable pub words_on_literals : ⊤
unfolding clap_on_literals command_line command_of
words_on_literals = tt
