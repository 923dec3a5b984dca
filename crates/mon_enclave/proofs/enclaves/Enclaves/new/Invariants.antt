use Rattle.std.proofs.Common.{◌≡◌, replicate}
use Rattle.mon_enclave.specs.Records.{free_enclave}
use Rattle.mon_enclave.proofs.enclaves.Enclaves.new.Given as goal

abbrev pub invariant-loop : goal.invariant-loop
invariant-loop l = l.enclaves.items ≡ replicate l.counter free_enclave
