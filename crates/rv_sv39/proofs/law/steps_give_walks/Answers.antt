use Rattle.rv_sv39.proofs.Walking.{steps_walk, walks_once, walk_is, walk_from, walks_onward, steps_fit, steps_say}
use Rattle.rv_sv39.proofs.law.steps_give_walks.Goals as goal

pub returns-clause-fits : goal.returns-clause-fits
returns-clause-fits c = steps_fit

pub returns-clause-walk : goal.returns-clause-walk
returns-clause-walk c = λ words root vpn mode kind. steps_walk words vpn mode kind 2 root.0

pub returns-clause-once : goal.returns-clause-once
returns-clause-once c = λ words root vpn mode kind a b. walks_once words vpn mode kind 2 root.0 a b

pub returns-clause-by_steps : goal.returns-clause-by_steps
returns-clause-by_steps c = λ words vpn mode kind level table answer.
    (walk_is words vpn mode kind level table answer, walk_from words vpn mode kind level table answer)

pub returns-clause-onward : goal.returns-clause-onward
returns-clause-onward c = λ words root vpn mode kind level table answer. walks_onward words vpn mode kind root level table answer

pub returns-clause-says : goal.returns-clause-says
returns-clause-says c = λ words root vpn mode kind. steps_say words vpn mode kind root
