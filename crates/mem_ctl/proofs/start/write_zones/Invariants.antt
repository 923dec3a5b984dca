use Rattle.std.proofs.Common.{◌≡◌, ◌*◌, length, map, take}
use Rattle.std.specs.List.{concat, range_with_len}
use Rattle.pl_base.specs.Bytes.{with_bytes}
use Rattle.pl_digest.specs.Trees.{zone_root}
use Rattle.mem_ctl.specs.Start.{zone_nodes}
use Rattle.mem_ctl.specs.Writes.{zone_pages}
use Rattle.mem_ctl.proofs.start.write_zones.Given as goal

abbrev pub invariant-loop-zone : goal.invariant-loop-zone
invariant-loop-zone g l = record {
  bytes : l.memory ≡ with_bytes l.initial.memory (262144 * l.zones) (concat (map (λ zone. zone_nodes g.D.Digester.digest_of (zone_pages l.initial.memory zone)) (take l.zone (range_with_len 0 l.zones))));
  size : length l.memory ≡ length l.initial.memory;
  entries : l.entries ≡ with_bytes l.initial.entries 0 (concat (map (λ zone. zone_root g.D.Digester.digest_of (zone_pages l.initial.memory zone)) (take l.zone (range_with_len 0 l.zones))));
  entries_size : length l.entries ≡ 2048;
}
