use Rattle.rv_hart.proofs.Translating.{asks_where_it_stands, learns_the_walk, walks_without_entry, uses_the_entry}
use Rattle.rv_hart.proofs.law.repeated_steps_translate.Goals as goal

pub returns-clause-asks : goal.returns-clause-asks
returns-clause-asks c = asks_where_it_stands

pub returns-clause-learns : goal.returns-clause-learns
returns-clause-learns c = learns_the_walk c.steps_give_walks.ensures.says

pub returns-clause-walks : goal.returns-clause-walks
returns-clause-walks c = walks_without_entry c.steps_give_walks.ensures.fits c.steps_give_walks.ensures.by_steps

pub returns-clause-entry : goal.returns-clause-entry
returns-clause-entry c = uses_the_entry
