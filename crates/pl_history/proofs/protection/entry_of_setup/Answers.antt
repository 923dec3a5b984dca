use Rattle.std.proofs.Common.{sym, ◌∙◌}
use Rattle.pl_history.proofs.ProtectionLemmas.{found_valid}
use Rattle.pl_history.proofs.protection.entry_of_setup.Goals as goal

pub returns-in-Some-clause-valid : goal.returns-in-Some-clause-valid
returns-in-Some-clause-valid c = found_valid c.args.number c.args.entries.now c.in-Some.entry c.requires (sym c.given_entry.ensures ∙ c.in-Some.is)
