use Rattle.std.proofs.Common.{rules, arith, ◌≤◌}
use Rattle.std.proofs.lemmas.List.{length-replicate}
use Rattle.std.proofs.lemmas.List.Elements.{All-replicate}
use Rattle.mon_enclave.specs.Records.{IsEnclave, free_enclave}
use Rattle.mon_enclave.proofs.enclaves.Enclaves.new.Goals as goal

-- nothing is counted yet, and the lists are empty
free_is_enclave : IsEnclave free_enclave
free_is_enclave = search rules

pub invariant_of-result : goal.invariant_of-result
invariant_of-result c =
    let few : c.loop.counter ≤ c.args.count = c.loop.auto.counter-end in
    let most : c.args.count ≤ 64 = c.requires.few in
    rw c.loop.invariant (All-replicate IsEnclave _ _ free_is_enclave, omega (arith, length-replicate c.loop.counter free_enclave))
