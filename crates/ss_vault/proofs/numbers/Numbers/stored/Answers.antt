use Rattle.std.proofs.Common.{◌∙◌, ℕ, Bool, Some, None, ap, sym, if◌then◌else◌}
use Rattle.std.proofs.lemmas.Bool.{ne_eqb}
use Rattle.ss_state.specs.Acts.{flush_entry}
use Rattle.ss_state.specs.Journal.{enter}
use Rattle.ss_state.specs.declared.entry.Entry.TheVariants as entry
use Rattle.ss_vault.proofs.Changes.{flushed_enters}
use Rattle.ss_vault.proofs.numbers.Numbers.stored.Goals as goal

pub returns-then-count-eq0-clause-numbers : goal.returns-then-count-eq0-clause-numbers
returns-then-count-eq0-clause-numbers c job =
    ap (λ (n : ℕ). enter job c.args.self.now.numbers (flush_entry c.args.v n)) (sym c.if-count-eq0.true)

pub returns-clause-numbers : goal.returns-clause-numbers
returns-clause-numbers c job =
    flushed_enters job c.args.self.now.numbers c.flushed.new.self.numbers c.args.v c.args.count c.flushed.ensures.ledger c.flushed.ensures.journal
    ∙ ap (λ (b : Bool). enter job c.args.self.now.numbers (if b then None else Some (entry.Flushed c.args.v c.args.count)))
    (sym (ne_eqb c.args.count 0 c.if-count-eq0.false))
