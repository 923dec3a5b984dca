-- A record that is written in the list of all records stands there, and all others are as before.
use Rattle.std.proofs.Common.{◌≡◌, ◌≢◌, ℕ, ◌<◌, List, length, set, sym, ◌∙◌}
use Rattle.std.proofs.lemmas.List.{get_or-set_other, get_or-set_same}
use Rattle.std.proofs.lemmas.Option.{unwrap_or-slice_get}
use Rattle.mon_enclave.specs.declared.enclave.Enclave.{Enclave}
use Rattle.mon_enclave.specs.Records.{enclave_at, free_enclave, with_enclave}

pub record_there : (all : List Enclave) (e : ℕ) (now : Enclave) → e < length all → enclave_at (with_enclave all e now) e ≡ now
record_there all e now below = unwrap_or-slice_get (set all e now) e free_enclave ∙ get_or-set_same all e now free_enclave below

pub other_record : (all : List Enclave) (e other : ℕ) (now : Enclave) → other ≢ e → enclave_at (with_enclave all e now) other ≡ enclave_at all other
other_record all e other now apart =
    unwrap_or-slice_get (set all e now) other free_enclave ∙ get_or-set_other all e other now free_enclave apart ∙ sym (unwrap_or-slice_get all other free_enclave)
