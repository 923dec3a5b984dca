use Rattle.mon_life.proofs.StepLemmas.{image_stands, steps_apart, steps_inside}
use Rattle.mon_life.proofs.TableLemmas.{steps_are_whole}
use Rattle.mon_life.proofs.laws.steps_put_pages.Goals as goal

pub returns-clause-image : goal.returns-clause-image
returns-clause-image c = image_stands

pub returns-clause-inside : goal.returns-clause-inside
returns-clause-inside c = steps_inside

pub returns-clause-apart : goal.returns-clause-apart
returns-clause-apart c = steps_apart

pub returns-clause-whole : goal.returns-clause-whole
returns-clause-whole c = steps_are_whole
