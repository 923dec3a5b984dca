-- Addresses and page numbers (RISC-V Privileged Architecture, Sv39).
use Rattle.std.specs.Prelude.{◌/◌, ◌%◌, ◌^◌, ◌<◌}
use Rattle.pl_base.specs.declared.address.Ppn.{Ppn}
use Rattle.pl_base.specs.declared.address.Va.{Va}
use Rattle.pl_base.specs.declared.address.Vpn.{Vpn}

-- bits 38:12 of an address
abbrev pub vpn_of : Va → Vpn
vpn_of va = record { 0 = va.0 / 4096 % 2 ^ 27 }

-- a physical page number that a table word can hold has 44 bits
abbrev pub IsPpn : Ppn → Type 0
IsPpn ppn = ppn.0 < 2 ^ 44
