use Rattle.ss_state.proofs.Vaults.{entries_keep_sound, entries_lower_nothing}
use Rattle.ss_state.proofs.laws.entries_keep_sound.Goals as goal

pub returns : goal.returns
returns c = record { sound = entries_keep_sound; lower = entries_lower_nothing }
